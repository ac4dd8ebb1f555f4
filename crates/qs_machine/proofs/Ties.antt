-- What ties all halves to the records: each call keeps it.
use Rattle.std.proofs.lemmas.Bool.Decides.{nat_tests}
use Rattle.std.proofs.Common.{arith}
use Rattle.std.proofs.Common.{◌≡◌, ◌≢◌, ℕ, zero, suc, ◌%◌, Bool, true, List, [], ◌∷◌, take, slice_get, Some, None, is_some, option_map, refl, sym, ap, ◌∙◌, subst, inl, inr}
use Rattle.std.proofs.lemmas.Bool.{both_ways, cases_eq}
use Rattle.std.specs.FinMap as fmap
use Rattle.qs_send.specs.declared.parts.Chunk.{Chunk}
use Rattle.qs_send.specs.declared.piece.Item.{Item}
use Rattle.qs_send.specs.declared.piece.Piece.{Piece}
use Rattle.qs_send.specs.declared.piece.Piece.TheVariants.{Data, Told}
use Rattle.qs_send.specs.Lane.{SendLane, Sending, new_sending, after_sent, after_acked, after_lost}
use Rattle.qs_send.specs.Chunks.{IsDueChunk}
use Rattle.qs_send.specs.Sound.{IsLawful}
use Rattle.qs_send.proofs.Outstanding.{carried-empty}
use Rattle.qs_machine.specs.Tables.{Tables, table, with_table, lookup, update, open_to, no_streams}
use Rattle.qs_machine.specs.Ends.{Records}
use Rattle.qs_machine.specs.Outgoing.{IsCarried, IsTied, AreTied, AreApartIn, AreOfOpen, IsOfOpen, lanes_of}
use Rattle.qs_machine.proofs.TableLaws.{lookup_same, lookup_other, lookup_open, with_other, with_same, lookup_in}
use Rattle.qs_machine.proofs.Carried.{none_some, some_is, IsShorter, with_piece, carried_before, carried_is}
use Rattle.qs_machine.proofs.Tied.{CarriesSame, tied_same, tied_new, tied_sent, tied_acked, tied_lost, other_put, other_gone, same_stream, not_told}
use Rattle.qs_machine.proofs.Apart.{apart_none, apart_shorter, apart_put, gone_apart, due_apart, told_apart}
use Rattle.qs_machine.proofs.LaneTables.{lookup_lanes, lane_there, update_lanes, lanes_opened, lanes_closed}

pub nowhere : {X : Type 0} (n : ℕ) → lookup (no_streams {X = X}) n ≡ None
unfolding lookup
nowhere n = grind arith

pub ties_none : AreTied no_streams fmap.empty
ties_none =
    record {
      lanes = λ n s there. absurd (none_some s (sym (nowhere n) ∙ there));
      apart = apart_none;
      of_open = λ p out. absurd (carried-empty p out);
    }

-- Streams stay open, and reset

-- each stream of one table is in the other, and reset there if here
abbrev Grows : Tables SendLane → Tables SendLane → Type 0
Grows t t' = (n : ℕ) (l : SendLane) → lookup t n ≡ Some l → (l' : SendLane) × (lookup t' n ≡ Some l') × (is_some l.was_reset ≡ true → is_some l'.was_reset ≡ true)

grown : (t t' : Tables SendLane) → Grows t t' → (p : Piece) → IsOfOpen t p → IsOfOpen t' p
grown t t' grows p h = grind arith

grows_updated : (t : Tables SendLane) (n : ℕ) (l l' : SendLane) → lookup t n ≡ Some l → (is_some l.was_reset ≡ true → is_some l'.was_reset ≡ true) → Grows t (update t n l')
grows_updated t n l l' there keeps k x is =
    elim (cases_eq k n) [
      | inl same ↦
          (let e : x ≡ l = some_is (lookup t n) x l (ap (lookup t) (sym same) ∙ is) there in
          (l', ap (lookup (update t n l')) same ∙ lookup_same t n l l' there, (λ r. keeps (ap (λ (y : SendLane). is_some y.was_reset) (sym e) ∙ r))))
      | inr ne ↦ (x, lookup_other t n k l' ne ∙ is, (λ r. r))
    ]

-- One half changes

pub ties_moved : (t : Tables Sending) (m m' : Records) (n : ℕ) (s s' : Sending) → AreTied t m → lookup t n ≡ Some s → IsTied m' n s' → ((k : ℕ) → k ≢ n → CarriesSame m m' k)
    → AreApartIn m' → ((p : Piece) → IsCarried m' p → IsOfOpen (lanes_of t) p) → (is_some s.lane.was_reset ≡ true → is_some s'.lane.was_reset ≡ true) → AreTied (update t n s') m'
ties_moved t m m' n s s' h there tied others apart of keeps =
    record {
      lanes = λ k x is.
          elim (cases_eq k n) [
            | inl same ↦
                (let e : x ≡ s' = some_is (lookup (update t n s') n) x s' (ap (lookup (update t n s')) (sym same) ∙ is) (lookup_same t n s s' there) in
                subst (λ j. IsTied m' j x) (sym same) (subst (IsTied m' n) (sym e) tied))
            | inr ne ↦ tied_same m m' k x (others k ne) (h.lanes k x (sym (lookup_other t n k s' ne) ∙ is))
          ];
      apart = apart;
      of_open = λ p out.
          subst (λ x. IsOfOpen x p) (sym (update_lanes t n s'))
          (grown (lanes_of t) (update (lanes_of t) n s'.lane) (grows_updated (lanes_of t) n s.lane s'.lane (lane_there t n s there) keeps) p (of p out));
    }

-- the records stay
pub ties_updated : (t : Tables Sending) (m : Records) (n : ℕ) (s s' : Sending) → AreTied t m → lookup t n ≡ Some s → IsTied m n s' → (is_some s.lane.was_reset ≡ true → is_some s'.lane.was_reset ≡ true) → AreTied (update t n s') m
ties_updated t m n s s' h there tied keeps = ties_moved t m m n s s' h there tied (λ k ne. (record { to = λ c out. out; from = λ c out. out })) h.apart h.of_open keeps

-- Streams are opened, and closed again

not_open : (t : Tables Sending) (m : Records) (n : ℕ) → AreTied t m → lookup t n ≡ None → (c : Chunk) → IsCarried m (Data n c) → ⊥
not_open t m n h none c out = both_ways true (sym (h.of_open (Data n c) out) ∙ ap is_some (lookup_lanes t n ∙ ap (option_map (λ (s : Sending). s.lane)) none)) refl

pub ties_opened : (t : Tables Sending) (m : Records) (n limit buffer : ℕ) → AreTied t m → AreTied (open_to t n (λ k. new_sending k limit buffer)) m
ties_opened t m n limit buffer h =
    let begin : ℕ → Sending = (λ k. new_sending k limit buffer) in
    record {
      lanes = λ k x is.
          elim (lookup_open t n k begin) [
            | inl same ↦ h.lanes k x (sym same ∙ is)
            | inr new ↦ subst (IsTied m k) (some_is (lookup (open_to t n begin) k) (begin k) x new.3 is) (tied_new m k limit buffer (not_open t m k h new.0))
          ];
      apart = h.apart;
      of_open = λ p out.
          subst (λ x. IsOfOpen x p) (sym (lanes_opened t n begin))
          (grown (lanes_of t) (open_to (lanes_of t) n (λ k. (begin k).lane)) (grows_opened (lanes_of t) n (λ k. (begin k).lane)) p (h.of_open p out));
    }
  where
    grows_opened : (t : Tables SendLane) (n : ℕ) (begin : ℕ → SendLane) → Grows t (open_to t n begin)
    grows_opened t n begin k l is =
        elim (lookup_open t n k begin) [
          | inl same ↦ (l, same ∙ is, (λ r. r))
          | inr new ↦ absurd (none_some l (sym new.0 ∙ is))
        ]

get_take : {X : Type 0} (c i : ℕ) (xs : List X) (x : X) → slice_get (take c xs) i ≡ Some x → slice_get xs i ≡ Some x
get_take zero i xs x is = absurd (none_some x is)
get_take (suc c) i [] x is = is
get_take (suc c) zero (y ∷ xs) x is = is
get_take (suc c) (suc i) (y ∷ xs) x is = get_take c i xs x is

pub closed_at : {X : Type 0} (t : Tables X) (n count k : ℕ) (x : X) → lookup (with_table t (n % 4) (take count (table t (n % 4)))) k ≡ Some x → lookup t k ≡ Some x
closed_at t n count k x is = grind (arith, nat_tests, cases_eq, lookup_in, get_take, with_same, with_other)

pub ties_closed : (t : Tables Sending) (m : Records) (n count : ℕ) → AreTied t m → AreOfOpen (with_table (lanes_of t) (n % 4) (take count (table (lanes_of t) (n % 4)))) m
    → AreTied (with_table t (n % 4) (take count (table t (n % 4)))) m
ties_closed t m n count h of =
    record {
      lanes = λ k x is. h.lanes k x (closed_at t n count k x is);
      apart = h.apart;
      of_open = λ p out. subst (λ x. IsOfOpen x p) (sym (lanes_closed t (n % 4) count)) (of p out);
    }

-- Packets

pub ties_chunk_put : (t : Tables Sending) (m : Records) (k n : ℕ) (s : Sending) (c : Chunk) → AreTied t m → lookup t n ≡ Some s → IsLawful s → IsDueChunk s c → AreTied (update t n (after_sent s c)) (with_piece m k (Data n c))
ties_chunk_put t m k n s c h there law due =
    let tied = h.lanes n s there in
    ties_moved t m (with_piece m k (Data n c)) n s (after_sent s c) h there (tied_sent m k n s c tied law due)
    (λ j ne. other_put m k (Data n c) j (λ d e. ne (same_stream j n d c e)))
    (apart_put m k (Data n c) h.apart (due_apart m n s c tied due))
    (λ p out. elim (carried_is m k (Data n c) p out) [ inl before ↦ h.of_open p before | inr e ↦ subst (IsOfOpen (lanes_of t)) (sym e) (ap is_some (lane_there t n s there)) ])
    (λ r. r)

pub ties_item_put : (t : Tables Sending) (m : Records) (k : ℕ) (i : Item) → AreTied t m → IsOfOpen (lanes_of t) (Told i) → (IsCarried m (Told i) → ⊥) → AreTied t (with_piece m k (Told i))
ties_item_put t m k i h of new =
    record {
      lanes = λ n s there. tied_same m (with_piece m k (Told i)) n s (other_put m k (Told i) n (λ d e. not_told n d i e)) (h.lanes n s there);
      apart = apart_put m k (Told i) h.apart (told_apart m i new);
      of_open = λ p out. elim (carried_is m k (Told i) p out) [ inl before ↦ h.of_open p before | inr e ↦ subst (IsOfOpen (lanes_of t)) (sym e) of ];
    }

pub ties_acked : (t : Tables Sending) (m m' : Records) (k n : ℕ) (s : Sending) (c : Chunk) → AreTied t m → IsShorter m k (Data n c) m' → lookup t n ≡ Some s → AreTied (update t n (after_acked s c)) m'
ties_acked t m m' k n s c h short there =
    ties_moved t m m' n s (after_acked s c) h there (tied_acked m m' k n s c short (h.lanes n s there))
    (λ j ne. other_gone m m' k (Data n c) j short (λ d e. ne (same_stream j n d c e)))
    (apart_shorter m m' k (Data n c) short h.apart)
    (λ p out. h.of_open p (carried_before m m' k (Data n c) short p out))
    (λ r. r)

still_reset : (s : Sending) (c : Chunk) (b : Bool) → is_some s.lane.was_reset ≡ b → is_some s.lane.was_reset ≡ true → is_some (after_lost s c).lane.was_reset ≡ true
still_reset s c b is r = grind arith

pub ties_lost : (t : Tables Sending) (m m' : Records) (k n : ℕ) (s : Sending) (c : Chunk) → AreTied t m → IsShorter m k (Data n c) m' → lookup t n ≡ Some s → AreTied (update t n (after_lost s c)) m'
ties_lost t m m' k n s c h short there =
    ties_moved t m m' n s (after_lost s c) h there
    (tied_lost m m' k n s c short (λ d out. gone_apart m m' k (Data n c) short h.apart (Data n d) out refl) (h.lanes n s there))
    (λ j ne. other_gone m m' k (Data n c) j short (λ d e. ne (same_stream j n d c e)))
    (apart_shorter m m' k (Data n c) short h.apart)
    (λ p out. h.of_open p (carried_before m m' k (Data n c) short p out))
    (λ r. still_reset s c _ refl r)

-- an item goes, acknowledged or lost
pub ties_item_gone : (t : Tables Sending) (m m' : Records) (k : ℕ) (i : Item) → AreTied t m → IsShorter m k (Told i) m' → AreTied t m'
ties_item_gone t m m' k i h short =
    record {
      lanes = λ n s there. tied_same m m' n s (other_gone m m' k (Told i) n short (λ d e. not_told n d i e)) (h.lanes n s there);
      apart = apart_shorter m m' k (Told i) short h.apart;
      of_open = λ p out. h.of_open p (carried_before m m' k (Told i) short p out);
    }
