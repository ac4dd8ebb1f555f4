-- An ACK is the tokens of its packets, told one after the other.
use Rattle.std.proofs.Common.{◌≡◌, ℕ, suc, ◌+◌, ◌-◌, ◌*◌, ◌/◌, ◌%◌, ◌<◌, ◌≤◌, Bool, true, false, ◌||◌, List, [], ◌∷◌, drop, Option, Some, None, option_map, slice_get, ◌⊎◌, refl, sym, ap, ◌∙◌, subst, arith, inl, inr, cond, nat_eq, is_some, not, ◌&&◌, ◌++◌, append-nil, map, Result, Ok, Err}
use Rattle.std.specs.FinSet as set
use Rattle.std.proofs.lemmas.Option.{none-some, same_Some}
use Rattle.std.proofs.lemmas.Bool.{cases_eq, or_left, both_ways, true_from_ne_false}
use Rattle.std.proofs.lemmas.List.{drop-drop, reverse-append}
use Rattle.qs_ranges.specs.Numbers.{NumberSet, missing_from, same_numbers, contains-with_range, is_within, numbers}
use Rattle.qs_ranges.proofs.Sets.{missing_from-more}
use Rattle.qs_send.specs.Lane.{SendLane, acked_lane, reset_acked_lane}
use Rattle.qs_send.specs.declared.parts.Chunk.{Chunk}
use Rattle.qs_machine.specs.Tables.{Tables, table, lookup, updated}
use Rattle.qs_machine.proofs.TableLaws.{lookup_same, lookup_other}
use Rattle.std.specs.Prelude.{max, reverse, flat_map}
use Rattle.std.specs.FinMap as fmap
use Rattle.std.specs.FinMap.{nat_cmp-IsAntisymmetric, same_map}
use Rattle.std.specs.Ordering.{nat_cmp}
use Rattle.std.specs.Cmp.{nat_cmp_total, unsigned_tied}
use Rattle.std.proofs.lemmas.Bool.Decides.{nat_tests}
use Rattle.qs_wire.specs.declared.stream_id.Dir.TheVariants.{Bidi, Uni}
use Rattle.qs_send.specs.Records.{without_first}
use Rattle.qs_send.specs.LostRecords.{without_number}
use Rattle.qs_send.specs.declared.piece.Item.{Item}
use Rattle.qs_send.specs.declared.piece.Item.TheVariants.{MaxData, MaxStreamData, MaxStreams, ResetStream, StopSending, DataBlocked, StreamDataBlocked, StreamsBlocked}
use Rattle.qs_send.specs.declared.piece.Piece.{Piece}
use Rattle.qs_send.specs.declared.piece.Piece.TheVariants.{Data, Told}
use Rattle.qs_send.proofs.Outstanding.{rest_of, get_same-without_first, get_other-without_first, unheld-without_first}
use Rattle.qs_machine.specs.LostPackets.{LostPackets, lost_less}
use Rattle.qs_machine.specs.Ends.{End, Records}
use Rattle.qs_machine.specs.FrameStep.{AckedPiece, without_piece, first_acked, piece_acked, acks, held, pieces_of, named_in, named, is_named, frame_taken}
use Rattle.qs_machine.specs.Acked.{AckedItems, greatest, greatest_of, or_zero, with_item}
use Rattle.std.specs.List.{filter}
use Rattle.std.proofs.lemmas.List.Concat.{flat_map-append}
use Rattle.qs_machine.proofs.AcksAgain.{held_piece, acks_append, piece_list, bare_none, named_bare}
use Rattle.qs_machine.proofs.Named.{filter_within, filter_both, filter_held}
use Rattle.qs_machine.proofs.NewlyTold.{each_named, others_stay}
use Rattle.qs_wire.specs.declared.stream_id.Dir.{Dir}
use Rattle.qs_calls.specs.declared.settings.Settings.{Settings}
use Rattle.qs_calls.specs.declared.settings.Tuning.{Tuning}
use Rattle.qs_machine.specs.Credit.{settle, ended, count_after}
use Rattle.qs_machine.proofs.TablesAfter.{kept_same}
use Rattle.qs_machine.proofs.EndedHalves.{RecvStays}
use Rattle.qs_machine.proofs.Counts.{count_more, ended_grows, ended_settle}
use Rattle.qs_machine.proofs.EndsAfter.{AllWritten, after_acks, halves_stay, after_settle, named_written, sent_stays}
use Rattle.qs_machine.proofs.Again.{settle_twice}
use Rattle.qs_wire.specs.Layout.{ack_ranges_of}
use Rattle.qs_calls.specs.declared.token.TokenFault.TheVariants as tokens
use Rattle.qs_machine.specs.Seen.{Ack}
use Rattle.qs_machine.specs.Verdicts.{verdict}
use Rattle.qs_machine.specs.Owner.{Certain}
use Rattle.qs_machine.specs.Alone.{token_refusal, only, TokenAckedStep}
use Rattle.qs_machine.specs.Ways.{token_from, range_of, MayBeTold, ItsRangesAreTokens, TellsEach, AnAckIsItsToken, AnAckIsItsTokens, AnAckMayBeTold, AJoinedTokenIsItsParts}
use Rattle.qs_calls.specs.declared.token.Token.{Token}
use Rattle.qs_calls.specs.declared.token.TokenFault.{TokenFault}
use Rattle.qs_machine.specs.Receiving.{RunsOut}
use Rattle.qs_machine.specs.Repeats.{SentWasWritten}
use Rattle.qs_machine.proofs.Leaves.{acks_leave}
use Rattle.qs_calls.specs.Tokens.{joined}
use Rattle.std.proofs.Math.Bool.{or_assoc, or_comm}

-- Two acknowledged pieces may change places: what halves, tables and control items keep of them.

-- Halves

or_swap : (a b c : Bool) → ((a || b) || c) ≡ ((a || c) || b)
or_swap a b c = or_assoc a b c ∙ ap (λ d. a || d) (or_comm b c) ∙ sym (or_assoc a c b)

union_swap : (s : NumberSet) (a b c d : ℕ) → set.union (set.union s (numbers a b)) (numbers c d) ≡ set.union (set.union s (numbers c d)) (numbers a b)
union_swap s a b c d =
    same_numbers _ _ (λ n.
    contains-with_range (set.union s (numbers a b)) c d n
    ∙ ap (λ x. x || is_within c d n) (contains-with_range s a b n)
    ∙ or_swap (set.contains s n) (is_within a b n) (is_within c d n)
    ∙ sym (contains-with_range (set.union s (numbers c d)) a b n ∙ ap (λ x. x || is_within a b n) (contains-with_range s c d n)))

union_more : (s : NumberSet) (a b : ℕ) → missing_from s 0 ≤ missing_from (set.union s (numbers a b)) 0
union_more s a b = missing_from-more s (set.union s (numbers a b)) 0 (λ k is. contains-with_range s a b k ∙ or_left (set.contains s k) (is_within a b k) is)

-- what is let go in two steps
drop_twice : (low mid high : ℕ) (kept : List ℕ) → low ≤ mid → mid ≤ high → drop (high - mid) (drop (mid - low) kept) ≡ drop (high - low) kept
drop_twice low mid high kept a b = let e : (mid - low) + (high - mid) ≡ high - low = omega (arith, a, b) in drop-drop (high - mid) (mid - low) kept ∙ ap (λ n. drop n kept) e

pub lane_swap : (l : SendLane) (c d : Chunk) → acked_lane (acked_lane l c) d ≡ acked_lane (acked_lane l d) c
lane_swap l c d = grind (arith, nat_tests, or_swap, union_swap, drop_twice, union_more)

-- Tables

module _ {X : Type 0} where
  same_list : (xs ys : List X) → ((i : ℕ) → slice_get xs i ≡ slice_get ys i) → xs ≡ ys
  same_list [] [] e = refl
  same_list [] (y ∷ ys) e = absurd (none-some y (e 0))
  same_list (x ∷ xs) [] e = absurd (none-some x (sym (e 0)))
  same_list (x ∷ xs) (y ∷ ys) e = λ i. same_Some x y (e 0) i ∷ same_list xs ys (λ j. e (suc j)) i

  -- tables that have the same for each stream are equal
  pub same_tables : (t u : Tables X) → ((n : ℕ) → lookup t n ≡ lookup u n) → t ≡ u
  unfolding lookup
  same_tables t u e = λ i. record { client_bidi = at 0 (omega arith) i; server_bidi = at 1 (omega arith) i; client_uni = at 2 (omega arith) i; server_uni = at 3 (omega arith) i }
    where
      place : (k i : ℕ) → k < 4 → slice_get (table t k) i ≡ slice_get (table u k) i
      place k i lt =
          let kind : (i * 4 + k) % 4 ≡ k = omega arith in
          let index : (i * 4 + k) / 4 ≡ i = omega arith in
          subst (λ j. slice_get (table t k) j ≡ slice_get (table u k) j) index
          (subst (λ j. slice_get (table t j) ((i * 4 + k) / 4) ≡ slice_get (table u j) ((i * 4 + k) / 4)) kind (e (i * 4 + k)))

      at : (k : ℕ) → k < 4 → table t k ≡ table u k
      at k lt = same_list (table t k) (table u k) (λ i. place k i lt)

  updated_same : (t : Tables X) (n : ℕ) (f : X → X) → lookup (updated t n f (lookup t n)) n ≡ option_map f (lookup t n)
  updated_same t n f = grind (arith, nat_tests, option_map, lookup_same)

  updated_other : (t : Tables X) (n m : ℕ) (f : X → X) (o : Option X) → (m ≡ n → ⊥) → lookup (updated t n f o) m ≡ lookup t m
  updated_other t n m f o ne = grind (arith, nat_tests, lookup_other)

  abbrev pub changed : Tables X → ℕ → (X → X) → Tables X
  changed t n f = updated t n f (lookup t n)

  map_swap : (f g : X → X) (o : Option X) → ((x : X) → f (g x) ≡ g (f x)) → option_map f (option_map g o) ≡ option_map g (option_map f o)
  map_swap f g o e = grind arith

  -- two streams' parts change, or one stream's by what may change places
  pub table_swap : (t : Tables X) (n m : ℕ) (f g : X → X) → ((x : X) → f (g x) ≡ g (f x)) → changed (changed t m g) n f ≡ changed (changed t n f) m g
  table_swap t n m f g e = same_tables _ _ (λ k. both (cases_eq n m) k)
    where
      -- what stream k has after both
      after : (n m k : ℕ) (f g : X → X) → (n ≡ m → ⊥) → k ≡ n → lookup (changed (changed t m g) n f) k ≡ option_map f (lookup t k)
      after n m k f g ne is =
          subst (λ j. lookup (changed (changed t m g) n f) j ≡ option_map f (lookup t j)) (sym is)
          (updated_same (changed t m g) n f ∙ ap (option_map f) (updated_other t m n g (lookup t m) ne))

      before : (n m k : ℕ) (f g : X → X) → (k ≡ m → ⊥) → k ≡ n → lookup (changed (changed t n f) m g) k ≡ option_map f (lookup t k)
      before n m k f g ne is =
          updated_other (changed t n f) m k g (lookup (changed t n f) m) ne
          ∙ subst (λ j. lookup (changed t n f) j ≡ option_map f (lookup t j)) (sym is) (updated_same t n f)

      neither : (n m k : ℕ) (f g : X → X) → (k ≡ n → ⊥) → (k ≡ m → ⊥) → lookup (changed (changed t m g) n f) k ≡ lookup t k
      neither n m k f g a b = updated_other (changed t m g) n k f (lookup (changed t m g) n) a ∙ updated_other t m k g (lookup t m) b

      one : (k : ℕ) → lookup (changed (changed t n g) n f) k ≡ lookup (changed (changed t n f) n g) k
      one k =
          elim (cases_eq k n) [
            | inl is ↦ subst (λ j. lookup (changed (changed t n g) n f) j ≡ lookup (changed (changed t n f) n g) j) (sym is) (updated_same (changed t n g) n f ∙ ap (option_map f) (updated_same t n g) ∙ map_swap f g (lookup t n) e ∙ sym (updated_same (changed t n f) n g ∙ ap (option_map g) (updated_same t n f)))
            | inr ne ↦ neither n n k f g ne ne ∙ sym (neither n n k g f ne ne)
          ]

      both : (n ≡ m) ⊎ (n ≡ m → ⊥) → (k : ℕ) → lookup (changed (changed t m g) n f) k ≡ lookup (changed (changed t n f) m g) k
      both (inl same) k = subst (λ j. lookup (changed (changed t j g) n f) k ≡ lookup (changed (changed t n f) j g) k) same (one k)
      both (inr ne) k =
          elim (cases_eq k n) [
            | inl at_n ↦ after n m k f g ne at_n ∙ sym (before n m k f g (λ at_m. ne (sym at_n ∙ at_m)) at_n)
            | inr not_n ↦ elim (cases_eq k m) [
              | inl at_m ↦ before m n k g f not_n at_m ∙ sym (after m n k g f (λ x. ne (sym x)) at_m)
              | inr not_m ↦ neither n m k f g not_n not_m ∙ sym (neither m n k g f not_m not_n)
            ]
          ]

-- Two acknowledged pieces may change places: an end is the same after both.

-- Control items

greatest_swap : (o : Option ℕ) (a b : ℕ) → greatest (greatest o a) b ≡ greatest (greatest o b) a
greatest_swap o a b = grind arith

get_greatest : (m : fmap.FinMap nat_cmp ℕ) (n v q : ℕ) → fmap.get (greatest_of m n v) q ≡ cond (nat_eq q n) (Some (max (or_zero (fmap.get m n)) v)) (fmap.get m q)
get_greatest m n v q = fmap.get-insert nat_cmp_total m n _ q ∙ ap (λ b. cond b (Some (max (or_zero (fmap.get m n)) v)) (fmap.get m q)) (unsigned_tied q n)

values_swap : (m : fmap.FinMap nat_cmp ℕ) (n v k w : ℕ) → greatest_of (greatest_of m n v) k w ≡ greatest_of (greatest_of m k w) n v
values_swap m n v k w = same_map nat_cmp_total nat_cmp-IsAntisymmetric _ _ (λ q. (both n v k w q ∙ (elim (cases_eq n k) [ inl same ↦ subst (λ j. put n v j w q ≡ put j w n v q) same (grind (arith, nat_tests)) | inr ne ↦ (grind (arith, nat_tests)) ]) ∙ sym (both k w n v q)))
  where
    put : ℕ → ℕ → ℕ → ℕ → ℕ → Option ℕ
    put n v k w q = cond (nat_eq q k) (Some (max (or_zero (cond (nat_eq k n) (Some (max (or_zero (fmap.get m n)) v)) (fmap.get m k))) w)) (cond (nat_eq q n) (Some (max (or_zero (fmap.get m n)) v)) (fmap.get m q))

    both : (n v k w q : ℕ) → fmap.get (greatest_of (greatest_of m n v) k w) q ≡ put n v k w q
    both n v k w q =
        get_greatest (greatest_of m n v) k w q
        ∙ ap (λ o. cond (nat_eq q k) (Some (max (or_zero o) w)) (fmap.get (greatest_of m n v) q)) (get_greatest m n v k)
        ∙ ap (λ o. cond (nat_eq q k) (Some (max (or_zero (cond (nat_eq k n) (Some (max (or_zero (fmap.get m n)) v)) (fmap.get m k))) w)) o) (get_greatest m n v q)

items_swap : (i j : Item) (a : AckedItems) → with_item i (with_item j a) ≡ with_item j (with_item i a)
items_swap (MaxData m) (MaxData n) a = ap (λ o. record a { max_data = o }) (greatest_swap a.max_data n m)
items_swap (MaxStreamData r m) (MaxStreamData s n) a = ap (λ o. record a { max_stream_data = o }) (values_swap a.max_stream_data s n r m)
items_swap (StopSending r c) (StopSending s d) a = ap (λ o. record a { stop_sending = o }) (same_numbers _ _ (λ n. grind (arith, set.members)))
items_swap (DataBlocked m) (DataBlocked n) a = ap (λ o. record a { data_blocked = o }) (greatest_swap a.data_blocked n m)
items_swap (StreamDataBlocked r m) (StreamDataBlocked s n) a = ap (λ o. record a { stream_data_blocked = o }) (values_swap a.stream_data_blocked s n r m)
items_swap (MaxStreams Bidi m) (MaxStreams Bidi n) a = ap (λ o. record a { bidi_streams = o }) (greatest_swap a.bidi_streams n m)
items_swap (MaxStreams Uni m) (MaxStreams Uni n) a = ap (λ o. record a { uni_streams = o }) (greatest_swap a.uni_streams n m)
items_swap (StreamsBlocked Bidi m) (StreamsBlocked Bidi n) a = ap (λ o. record a { bidi_blocked = o }) (greatest_swap a.bidi_blocked n m)
items_swap (StreamsBlocked Uni m) (StreamsBlocked Uni n) a = ap (λ o. record a { uni_blocked = o }) (greatest_swap a.uni_blocked n m)
items_swap i (MaxStreams Bidi n) a = refl
items_swap i (StreamsBlocked Bidi n) a = refl
items_swap i j a = refl

-- Pieces: what each does to the sending halves, and to the items

abbrev sends_after : Piece → Tables SendLane → Tables SendLane
sends_after (Data n c) t = changed t n (λ l. acked_lane l c)
sends_after (Told (ResetStream n code size)) t = changed t n reset_acked_lane
sends_after (Told i) t = t

abbrev items_after : Piece → AckedItems → AckedItems
items_after (Data n c) a = a
items_after (Told i) a = with_item i a

abbrev both_after : Piece → End → End
both_after p e = record e { sends = sends_after p e.sends; acked = items_after p e.acked }

piece_parts : (p : Piece) (e : End) → piece_acked p e ≡ both_after p e
piece_parts p e = grind arith

sends_swap : (p q : Piece) (t : Tables SendLane) → sends_after p (sends_after q t) ≡ sends_after q (sends_after p t)
sends_swap (Data n c) (Data m d) t = table_swap t n m (λ l. acked_lane l c) (λ l. acked_lane l d) (λ l. lane_swap l d c)
sends_swap (Data n c) (Told (ResetStream m code size)) t = table_swap t n m (λ l. acked_lane l c) reset_acked_lane (λ l. refl)
sends_swap (Told (ResetStream n code size)) (Data m d) t = table_swap t n m reset_acked_lane (λ l. acked_lane l d) (λ l. refl)
sends_swap (Told (ResetStream n code size)) (Told (ResetStream m other more)) t = table_swap t n m reset_acked_lane reset_acked_lane (λ l. refl)
sends_swap p q t = refl

noted_swap : (p q : Piece) (a : AckedItems) → items_after p (items_after q a) ≡ items_after q (items_after p a)
noted_swap p q a = grind (arith, nat_tests, items_swap)

piece_swap : (p q : Piece) (e : End) → piece_acked p (piece_acked q e) ≡ piece_acked q (piece_acked p e)
piece_swap p q e = grind (arith, nat_tests, sends_swap, noted_swap, piece_parts)

-- Records

abbrev less : Records → ℕ → Records
less m k = without_first m k (fmap.get m k)

less_other : (m : Records) (j k : ℕ) → (j ≡ k → ⊥) → fmap.get (less (less m j) k) k ≡ rest_of (fmap.get m k)
less_other m j k ne = get_same-without_first (less m j) k ∙ ap rest_of (get_other-without_first m j k (λ e. ne (sym e)))

less_first : (m : Records) (j k : ℕ) → (j ≡ k → ⊥) → fmap.get (less (less m j) k) j ≡ rest_of (fmap.get m j)
less_first m j k ne = get_other-without_first (less m j) k j ne ∙ get_same-without_first m j

less_swap : (m : Records) (j k : ℕ) → less (less m j) k ≡ less (less m k) j
less_swap m j k = elim (cases_eq j k) [ inl same ↦ subst (λ i. less (less m j) i ≡ less (less m i) j) same refl | inr ne ↦ same_map nat_cmp_total nat_cmp-IsAntisymmetric _ _ (λ q. at ne q) ]
  where
    at : (j ≡ k → ⊥) → (q : ℕ) → fmap.get (less (less m j) k) q ≡ fmap.get (less (less m k) j) q
    at ne q =
        elim (cases_eq q k) [
          | inl is_k ↦ subst (λ i. fmap.get (less (less m j) k) i ≡ fmap.get (less (less m k) j) i) (sym is_k) (less_other m j k ne ∙ sym (less_first m k j (λ e. ne (sym e))))
          | inr not_k ↦ elim (cases_eq q j) [
            | inl is_j ↦ subst (λ i. fmap.get (less (less m j) k) i ≡ fmap.get (less (less m k) j) i) (sym is_j) (less_first m j k ne ∙ sym (less_other m k j (λ e. ne (sym e))))
            | inr not_j ↦ get_other-without_first (less m j) k q not_k ∙ get_other-without_first m j q not_j ∙ sym (get_other-without_first (less m k) j q not_j ∙ get_other-without_first m k q not_k)
          ]
        ]

without_swap : (xs : List ℕ) (j k : ℕ) → without_number (without_number xs j) k ≡ without_number (without_number xs k) j
without_swap [] j k = refl
without_swap (x ∷ xs) j k = go (nat_eq x j) (nat_eq x k) refl refl (without_swap xs j k)
  where
    go : (b c : Bool) → nat_eq x j ≡ b → nat_eq x k ≡ c → without_number (without_number xs j) k ≡ without_number (without_number xs k) j
        → without_number (cond b (without_number xs j) (x ∷ without_number xs j)) k ≡ without_number (cond c (without_number xs k) (x ∷ without_number xs k)) j
    go b c is_j is_k rest = grind arith

-- the order without a number, where nothing of its packet is left
abbrev order_less : Bool → List ℕ → ℕ → List ℕ
order_less left order k = cond left order (without_number order k)

order_swap : (b c : Bool) (xs : List ℕ) (j k : ℕ) → order_less c (order_less b xs j) k ≡ order_less b (order_less c xs k) j
order_swap b c xs j k = grind (arith, nat_tests, without_swap)

lost_swap : (l : LostPackets) (j k : ℕ) → lost_less k (lost_less j l) ≡ lost_less j (lost_less k l)
lost_swap l j k = grind (arith, nat_tests, cases_eq, less_swap, not, less_other, get_same-without_first, order_swap)

record_swap : (b c : Bool) (j k : ℕ) (e : End) → without_piece b j (without_piece c k e) ≡ without_piece c k (without_piece b j e)
record_swap b c j k e = grind (arith, nat_tests, lost_swap, less_swap)

piece_without : (p : Piece) (late : Bool) (k : ℕ) (e : End) → piece_acked p (without_piece late k e) ≡ without_piece late k (piece_acked p e)
piece_without p late k e = piece_parts p (without_piece late k e) ∙ ap (without_piece late k) (sym (piece_parts p e))

-- Both

first_swap : (a b : AckedPiece) (e : End) → first_acked a (first_acked b e) ≡ first_acked b (first_acked a e)
first_swap a b e = grind (arith, nat_tests, piece_swap, record_swap, piece_without)

-- pieces are acknowledged, and then others, or first the others
swap_one : (a : AckedPiece) (ps : List AckedPiece) (e : End) → acks ps (first_acked a e) ≡ first_acked a (acks ps e)
unfolding acks
swap_one a [] e = refl
swap_one a (p ∷ ps) e = ap (acks ps) (first_swap p a e) ∙ swap_one a ps (first_acked p e)

pub acks_swap : (ps qs : List AckedPiece) (e : End) → acks qs (acks ps e) ≡ acks ps (acks qs e)
unfolding acks
acks_swap [] qs e = refl
acks_swap (p ∷ ps) qs e = acks_swap ps qs (first_acked p e) ∙ ap (acks ps) (swap_one p qs e)

-- What an ACK takes of two lists of packets it takes of one list, and then of the other.

-- Lists of packets

-- the pieces of packets, by a test and a list of numbers
abbrev pub taken : (ℕ → List AckedPiece) → (ℕ → Bool) → List ℕ → List AckedPiece
taken of f ks = flat_map of (filter f ks)

-- the order of the packets doesn't matter
upwards : (of : ℕ → List AckedPiece) (ks : List ℕ) (e : End) → acks (flat_map of (reverse ks)) e ≡ acks (flat_map of ks) e
upwards of [] e = refl
upwards of (k ∷ ks) e =
    ap (λ js. acks (flat_map of js) e) (reverse-append (k ∷ []) ks)
    ∙ ap (λ ps. acks ps e) (flat_map-append of (reverse ks) (k ∷ []))
    ∙ ap (λ ps. acks (flat_map of (reverse ks) ++ ps) e) (append-nil (of k))
    ∙ acks_append (flat_map of (reverse ks)) (of k) e
    ∙ acks_swap (flat_map of (reverse ks)) (of k) e
    ∙ upwards of ks (acks (of k) e)
    ∙ sym (acks_append (of k) (flat_map of ks) e)

-- packets of two kinds: those of one, and then those of the other alone
two_kinds : (of : ℕ → List AckedPiece) (f g h : ℕ → Bool) (ks : List ℕ) (e : End) → ((j : ℕ) → h j ≡ (f j || g j)) → acks (taken of h ks) e ≡ acks (taken of (λ j. g j && not (f j)) ks) (acks (taken of f ks) e)
unfolding acks
two_kinds of f g h [] e either = refl
two_kinds of f g h (k ∷ ks) e either =
    ap (λ b. acks (flat_map of (cond b (k ∷ filter h ks) (filter h ks))) e) (either k)
    ∙ go (f k) (g k) (two_kinds of f g h ks e either) (two_kinds of f g h ks (acks (of k) e) either)
  where
    other : ℕ → Bool
    other j = g j && not (f j)

    go : (b c : Bool) → acks (taken of h ks) e ≡ acks (taken of other ks) (acks (taken of f ks) e)
        → acks (taken of h ks) (acks (of k) e) ≡ acks (taken of other ks) (acks (taken of f ks) (acks (of k) e))
        → acks (flat_map of (cond (b || c) (k ∷ filter h ks) (filter h ks))) e
        ≡ acks (flat_map of (cond (c && not b) (k ∷ filter other ks) (filter other ks))) (acks (flat_map of (cond b (k ∷ filter f ks) (filter f ks))) e)
    go true true rest more = acks_append (of k) (taken of h ks) e ∙ more ∙ ap (acks (taken of other ks)) (sym (acks_append (of k) (taken of f ks) e))
    go true false rest more = acks_append (of k) (taken of h ks) e ∙ more ∙ ap (acks (taken of other ks)) (sym (acks_append (of k) (taken of f ks) e))
    go false true rest more =
        acks_append (of k) (taken of h ks) e
        ∙ more
        ∙ ap (acks (taken of other ks)) (acks_swap (of k) (taken of f ks) e)
        ∙ sym (acks_append (of k) (taken of other ks) (acks (taken of f ks) e))
    go false false rest more = rest

-- two lists of pieces are one, where each packet that only one takes has none
alike : (of by : ℕ → List AckedPiece) (f g : ℕ → Bool) (ks : List ℕ) → ((j : ℕ) → cond (f j) (of j) [] ≡ cond (g j) (by j) []) → taken of f ks ≡ taken by g ks
alike of by f g [] same = refl
alike of by f g (k ∷ ks) same = head of f (f k) ks ∙ (λ i. same k i ++ alike of by f g ks same i) ∙ sym (head by g (g k) ks)
  where
    head : (of : ℕ → List AckedPiece) (f : ℕ → Bool) (b : Bool) (ks : List ℕ) → flat_map of (cond b (k ∷ filter f ks) (filter f ks)) ≡ cond b (of k) [] ++ flat_map of (filter f ks)
    head of f b ks = grind arith

-- What is left after an ACK

-- no packet is held that wasn't
unheld : (late : Bool) (ps : List AckedPiece) (e : End) (j : ℕ) → is_some (fmap.get (held late e) j) ≡ false → is_some (fmap.get (held late (acks ps e)) j) ≡ false
unfolding acks
unheld late [] e j none = none
unheld late (a ∷ ps) e j none =
    unheld late ps (first_acked a e) j (ap (λ (m : Records). is_some (fmap.get m j)) (held_piece late a.piece (without_piece a.late a.number e)) ∙ go late a.late none)
  where
    go : (late b : Bool) → is_some (fmap.get (held late e) j) ≡ false → is_some (fmap.get (held late (without_piece b a.number e)) j) ≡ false
    go true true none = unheld-without_first e.lost.pieces a.number j none
    go false false none = unheld-without_first e.outstanding a.number j none
    go _ _ none = none

held_before : (late : Bool) (ps : List AckedPiece) (e : End) (j : ℕ) → is_some (fmap.get (held late (acks ps e)) j) ≡ true → is_some (fmap.get (held late e) j) ≡ true
held_before late ps e j is = true_from_ne_false _ (λ was. both_ways _ (unheld late ps e j was) is)

-- What an ACK takes of an end

-- the pieces of the packets that a test takes, from the lowest number up
abbrev risen : Bool → (ℕ → Bool) → End → List AckedPiece
risen late f e = taken (pieces_of late (held late e)) f (fmap.keys (held late e))

named_risen : (e : End) (r : List (ℕ × ℕ)) (x : End) → acks (named e r) x ≡ acks (risen true (is_named r) e) (acks (risen false (is_named r) e) x)
named_risen e r x = grind (arith, nat_tests, acks_append, upwards)

-- the packets that one list of ranges names and another doesn't
abbrev but : List (ℕ × ℕ) → List (ℕ × ℕ) → ℕ → Bool
but rs r j = is_named rs j && not (is_named r j)

-- after an ACK another one takes what only it names
taken_later : (late : Bool) (e : End) (r rs : List (ℕ × ℕ)) → risen late (is_named rs) (acks (named e r) e) ≡ risen late (but rs r) e
taken_later late e r rs =
    ap (flat_map (pieces_of late n)) (sym (filter_within m n (λ j is. held_before late (named e r) e j is) (is_named rs) (λ j. is_some (fmap.get n j)) (is_named rs) (λ j is. refl)) ∙ filter_both (is_named rs) (λ j. is_some (fmap.get n j)) (fmap.keys m))
    ∙ alike (pieces_of late n) (pieces_of late m) (λ j. is_some (fmap.get n j) && is_named rs j) (but rs r) (fmap.keys m) (λ j. go j (is_named r j) (is_named rs j) refl)
  where
    m : Records
    m = held late e

    n : Records
    n = held late (acks (named e r) e)

    nothing : (b : Bool) (ps : List AckedPiece) → cond (b && false) ps [] ≡ []
    nothing b ps = grind arith

    none : (b : Bool) (ps : List AckedPiece) → ps ≡ [] → cond b ps [] ≡ []
    none b ps is = grind arith

    all : (o : Option (List Piece)) (j : ℕ) → cond (is_some o && true) (piece_list late j o) [] ≡ piece_list late j o
    all o j = grind arith

    go : (j : ℕ) (b c : Bool) → is_named r j ≡ b → cond (is_some (fmap.get n j) && c) (pieces_of late n j) [] ≡ cond (c && not b) (pieces_of late m j) []
    go j true true is = none (is_some (fmap.get n j) && true) (pieces_of late n j) (bare_none late n j (named_bare e r late j is))
    go j false true is = all (fmap.get n j) j ∙ ap (piece_list late j) (others_stay late r (named e r) e j (each_named e r) is)
    go j _ false is = nothing (is_some (fmap.get n j)) (pieces_of late n j)

-- An ACK of the packets of two others is the one, and then the other.
pub acks_parts : (e : End) (r rs both : List (ℕ × ℕ)) → ((j : ℕ) → is_named both j ≡ (is_named r j || is_named rs j)) → acks (named e both) e ≡ acks (named (acks (named e r) e) rs) (acks (named e r) e)
acks_parts e r rs both either =
    named_risen e both e
    ∙ ap (acks (risen true (is_named both) e)) (two_kinds (pieces_of false e.outstanding) (is_named r) (is_named rs) (is_named both) (fmap.keys e.outstanding) e either)
    ∙ two_kinds (pieces_of true e.lost.pieces) (is_named r) (is_named rs) (is_named both) (fmap.keys e.lost.pieces) (acks (risen false (but rs r) e) (acks (risen false (is_named r) e) e)) either
    ∙ ap (acks (risen true (but rs r) e)) (acks_swap (risen false (but rs r) e) (risen true (is_named r) e) (acks (risen false (is_named r) e) e))
    ∙ ap (λ x. acks (risen true (but rs r) e) (acks (risen false (but rs r) e) x)) (sym (named_risen e r e))
    ∙ ap (λ ps. acks ps (acks (risen false (but rs r) e) mid)) (sym (taken_later true e r rs))
    ∙ ap (λ ps. acks (risen true (is_named rs) mid) (acks ps mid)) (sym (taken_later false e r rs))
    ∙ sym (named_risen mid rs mid)
  where
    mid : End
    mid = acks (named e r) e

-- ranges that name the same packets of an end take the same pieces
pub named_same : (e : End) (r s : List (ℕ × ℕ)) → ((late : Bool) (k : ℕ) → fmap.contains_key (held late e) k ≡ true → is_named r k ≡ is_named s k) → named e r ≡ named e s
named_same e r s same = ap (λ ps. ps ++ named_in true e.lost.pieces r) (part false e.outstanding (same false)) ∙ ap (λ ps. named_in false e.outstanding s ++ ps) (part true e.lost.pieces (same true))
  where
    part : (late : Bool) (m : Records) → ((k : ℕ) → fmap.contains_key m k ≡ true → is_named r k ≡ is_named s k) → named_in late m r ≡ named_in late m s
    part late m same = ap (λ ks. flat_map (pieces_of late m) (reverse ks)) (filter_held m (is_named r) (is_named s) same)

-- Whether limits move between two acknowledgements doesn't matter.

-- what acknowledgements move, as x has it
abbrev pub moved : End → End → End
moved x e = record e { sends = x.sends; acked = x.acked; outstanding = x.outstanding; lost = x.lost }

piece_moved : (p : Piece) (x e : End) → piece_acked p (moved x e) ≡ moved (piece_acked p x) e
piece_moved p x e = grind arith

pub acks_moved : (ps : List AckedPiece) (x e : End) → acks ps (moved x e) ≡ moved (acks ps x) e
unfolding acks
acks_moved [] x e = refl
acks_moved (a ∷ ps) x e = ap (acks ps) (piece_moved a.piece (without_piece a.late a.number x) e) ∙ acks_moved ps (first_acked a x) e

-- a count that was brought as far as fewer streams bring it, and then further
pub later_count : (s : Settings) (t : Tuning) (d : Dir) (g grant a b : ℕ) → a ≤ b → max (max g (count_after s t d grant a)) (count_after s t d grant b) ≡ max g (count_after s t d grant b)
later_count s t d g grant a b le = omega (arith, (count_more s t d grant a b le))

pub settle_between : (ps : List AckedPiece) (e : End) → AllWritten e.sends ps → settle (acks ps (settle e)) ≡ settle (acks ps e)
settle_between ps e written = ap settle (acks_moved ps e (settle e)) ∙ alike ∙ ap settle (sym (acks_moved ps e e))
  where
    after : End
    after = moved (acks ps e) e

    counts : (d : Dir) (g grant : ℕ) → max (max g (count_after e.settings e.tuning d grant (ended e d))) (count_after e.settings e.tuning d grant (ended (settle after) d)) ≡ max g (count_after e.settings e.tuning d grant (ended after d))
    counts d g grant =
        ap (λ n. max (max g (count_after e.settings e.tuning d grant (ended e d))) (count_after e.settings e.tuning d grant n)) (ended_settle after d)
        ∙ later_count e.settings e.tuning d g grant (ended e d) (ended after d) (ended_grows e after refl (kept_same RecvStays (λ l h. h) e.recvs) (halves_stay e.sends (acks ps e).sends (after_acks ps e written).sends) d)

    alike : settle (moved (acks ps e) (settle e)) ≡ settle after
    alike = λ i. record after {
      recvs = (settle_twice e i).recvs;
      granted = (settle_twice e i).granted;
      granted_bidi = counts Bidi e.granted_bidi e.present.grant_bidi i;
      granted_uni = counts Uni e.granted_uni e.present.grant_uni i;
    }

-- The ranges of an ACK are tokens that may be told.

-- a range of numbers that were given
one_given : (e : End) (first last : ℕ) → e.closed ≡ None → first ≤ last → last < e.next → token_refusal e (token_from e (first, last)) ≡ None
one_given e first last unclosed le lt = grind arith

-- each range lies at or below the largest number
all_given : (e : End) (largest : ℕ) (numbers : List ℕ) → e.closed ≡ None → largest < e.next → MayBeTold e (map (token_from e) (ack_ranges_of largest numbers))
all_given e largest [] unclosed lt = tt
all_given e largest (len ∷ []) unclosed lt = (one_given e (largest - len) largest unclosed (omega arith) lt, tt)
all_given e largest (len ∷ gap ∷ more) unclosed lt =
    (one_given e (largest - len) largest unclosed (omega arith) lt, all_given e ((largest - len) - (gap + 2)) more unclosed (omega (arith, lt)))

same_ranges : (e : End) (ranges : List (ℕ × ℕ)) → map range_of (map (token_from e) ranges) ≡ ranges
same_ranges e [] = refl
same_ranges e (r ∷ rs) = ap (λ x. r ∷ x) (same_ranges e rs)

below_next : (e : End) (largest : ℕ) (ranges : List (ℕ × ℕ)) → verdict e (Ack largest ranges) ≡ None → largest < e.next
unfolding verdict
below_next e largest ranges fine = grind arith

pub ranges_are_tokens : ItsRangesAreTokens
ranges_are_tokens e largest delay [] ecn unclosed may = absurd (let odd = may.0.2.odd in omega (arith, odd))
ranges_are_tokens e largest delay (len ∷ []) ecn unclosed may = (token_from e (largest - len, largest), [], refl, all_given e largest (len ∷ []) unclosed (below_next e largest (ack_ranges_of largest (len ∷ [])) may.1), λ late k is. refl)
ranges_are_tokens e largest delay (len ∷ gap ∷ more) ecn unclosed may =
    let below = (largest - len) - (gap + 2) in (
      token_from e (largest - len, largest),
      map (token_from e) (ack_ranges_of below more),
      refl,
      all_given e largest (len ∷ gap ∷ more) unclosed (below_next e largest (ack_ranges_of largest (len ∷ gap ∷ more)) may.1),
      λ late k is. ap (λ rs. is_named rs k) (same_ranges e (ack_ranges_of largest (len ∷ gap ∷ more))),
    )

-- An ACK is its tokens.

-- A token that was told

abbrev Done : End → End → Token → Result (Unit {0}) TokenFault → Type 0
Done e new t answer = ((answer ≡ Ok tt) × (new ≡ settle (frame_taken (only t) e))) ⊎ ((answer ≡ Err tokens.NoMemory) × (mid : End) × RunsOut e (only t) mid × (new ≡ settle mid))

abbrev told_done : Result (Unit {0}) TokenFault
told_done = Ok tt

pub told_is : (e new : End) (t : Token) → TokenAckedStep e t (Ok tt) new → new ≡ settle (frame_taken (only t) e)
told_is e new t step = grind arith

pub an_ack_is_its_token : AnAckIsItsToken
unfolding frame_taken
an_ack_is_its_token e new largest range step = told_is e new (token_from e range) step

-- Tokens that were told one after the other

-- an ACK of some ranges
abbrev acked_by : List (ℕ × ℕ) → End → End
acked_by r e = acks (named e r) e

told_ranges : (t : Token) (ts : List Token) (e new : End) → SentWasWritten e → TellsEach (t ∷ ts) e new → new ≡ settle (acked_by (map range_of (t ∷ ts)) e)
unfolding frame_taken
told_ranges t [] e new sent (mid, one, rest) = rest ∙ told_is e mid t one
told_ranges t (u ∷ us) e new sent (mid, one, rest) =
    told_ranges u us mid new (subst SentWasWritten (sym is) (sent_stays first (settle first) (after_settle first) sent_first)) rest
    ∙ ap (λ x. settle (acked_by rs x)) is
    ∙ settle_between (named first rs) first (named_written first rs sent_first)
    ∙ ap settle (sym (acks_parts e (range_of t ∷ []) rs (range_of t ∷ rs) (λ j. either _ (is_named rs j))))
  where
    rs : List (ℕ × ℕ)
    rs = map range_of (u ∷ us)

    first : End
    first = acked_by (range_of t ∷ []) e

    is : mid ≡ settle first
    is = told_is e mid t one

    sent_first : SentWasWritten first
    sent_first = sent_stays e first (after_acks (named e (range_of t ∷ [])) e (named_written e (range_of t ∷ []) sent)) sent

    either : (a b : Bool) → (a || b) ≡ ((a || false) || b)
    either a b = grind arith

pub an_ack_is_its_tokens : AnAckIsItsTokens
unfolding frame_taken
an_ack_is_its_tokens e new largest ranges t ts sent same tells = told_ranges t ts e new sent tells ∙ ap (λ ps. settle (acks ps e)) (named_same e (map range_of (t ∷ ts)) ranges same)

-- Tokens that may be told

-- no token refuses another
still_may : (e : End) (t : Token) (ts : List Token) → MayBeTold e ts → MayBeTold (settle (frame_taken (only t) e)) ts
unfolding frame_taken
still_may e t [] may = tt
still_may e t (u ∷ us) may = (ap (λ x. token_refusal x u) (acks_leave (named e (range_of t ∷ [])) e) ∙ may.0, still_may e t us may.1)

tell_each : (e : End) (ts : List Token) → MayBeTold e ts → (new : End) × TellsEach ts e new
tell_each e [] may = (e, refl)
tell_each e (t ∷ ts) may =
    let (new, rest) = tell_each (settle (frame_taken (only t) e)) ts (still_may e t ts may.1) in
    (new, (settle (frame_taken (only t) e), (subst (λ o. Certain o e told_done (settle (frame_taken (only t) e)) (Done e (settle (frame_taken (only t) e)) t told_done)) (sym may.0) (inl (refl, refl))), rest))

pub an_ack_may_be_told : AnAckMayBeTold
an_ack_may_be_told e largest ranges t ts sent same may =
    let (new, tells) = tell_each e (t ∷ ts) may in
    subst (λ x. TellsEach (t ∷ ts) e x) (an_ack_is_its_tokens e new largest ranges t ts sent same tells) tells

-- A token that was joined of two is the two.

-- the numbers of a token that may be told stand in order
in_order : (e : End) (t : Token) → token_refusal e t ≡ None → t.first ≤ t.number
in_order e t may = grind arith

record IsJoined (t next whole : Token) : Type 0 where
  follows : next.first ≡ t.number + 1
  first : whole.first ≡ t.first
  last : whole.number ≡ next.number

parts : (t next whole : Token) → joined t next ≡ Some whole → IsJoined t next whole
parts t next whole is = grind arith

or_swap_joined : (a b : Bool) → (a || (b || false)) ≡ (b || (a || false))
or_swap_joined a b = grind arith

names : (t next whole : Token) → IsJoined t next whole → t.first ≤ t.number → next.first ≤ next.number → (k : ℕ) → is_named (range_of t ∷ range_of next ∷ []) k ≡ is_named (range_of whole ∷ []) k
names t next whole is one two k = grind arith

pub joined_parts : AJoinedTokenIsItsParts
joined_parts e new t next whole sent is may step =
    let named = names t next whole (parts t next whole is) (in_order e t may.0) (in_order e next may.1.0) in
    let told : new ≡ settle (frame_taken (only whole) e) = told_is e new whole step in (
      subst (TellsEach (t ∷ next ∷ []) e) (sym told) (an_ack_may_be_told e whole.number (range_of whole ∷ []) t (next ∷ []) sent (λ late k held. named k) may),
      subst (TellsEach (next ∷ t ∷ []) e) (sym told)
          (an_ack_may_be_told e whole.number (range_of whole ∷ []) next (t ∷ []) sent (λ late k held. or_swap_joined _ _ ∙ named k) (may.1.0, (may.0, tt))),
    )
