-- Slots of consecutive numbers as a map of packets, and what each edit of them makes of it.
use Rattle.std.specs.FinMap as fmap
use Rattle.std.proofs.lemmas.Grind.{common_steps}
use Rattle.std.proofs.Common.{◌≡◌, ◌∙◌, ℕ, zero, suc, ◌+◌, ◌-◌, ◌<◌, ◌≤◌, Bool, true, false, cond, nat_eq, nat_lt, List, [], ◌∷◌, ◌++◌, length, drop, take, IsTrue, min, Option, None, Some, refl, sym, ap, arith, inl, inr, subst, slice_set, Result, Ok, Err, IsOk, IfOk, IfErr, slice_index_or, ◌↔◌, not, ◌⊎◌, ◌≢◌, ◌*◌, ◌/◌, ◌%◌, ◌^◌, get_or, w64}
use Rattle.std.specs.Option.{is_some, IfSome, IfNone}
use Rattle.std.specs.Cmp.{nat_cmp_total, unsigned_tied, ranks}
use Rattle.std.specs.Ordering.{nat_cmp, ordering_index, MatchOrdering}
use Rattle.std.specs.FinMap.{nat_cmp-IsAntisymmetric, same_map}
use Rattle.std.proofs.lemmas.Bool.{both_ways, cases_lt}
use Rattle.std.proofs.lemmas.Bool.Decides.{nat_tests}
use Rattle.qs_send.specs.declared.piece.Piece.{Piece}
use Rattle.qs_send.specs.Records.{PacketPieces, Among, IsCarried, IsGreatest, IsGreatestBelow, NoneEmpty, slot_at, packets_of, with_record, first_piece, without_first}
use Rattle.std.specs.List.{insert, remove, filter}
use Rattle.std.specs.List.Sorted.{IsSearchInRange, IsBinarySearchResult}
use Rattle.std.specs.Result.{is_ok, OnOk, OnErr}
use Rattle.qs_send.specs.ByNumber.{Numbered, lookup, map_of, AreRising, IsAt, IsGapAt, IsCut, Listed, room_for, spare_in}
use Rattle.qs_send.specs.LostRecords.{MOST_LOST, AreApart, IsOrderOf, with_piece, with_number, latest, without_oldest, without_number}
use Rattle.std.specs.Int.{bit_at, bit_not}
use Rattle.std.proofs.lemmas.List.{get_or-drop, get_or_read}
use Rattle.std.proofs.lemmas.Nat.Bits.{bit_at-lt, bit_at-zero, bit_at_not}
use Rattle.qs_ranges.specs.Bits.{IsLowestBit}
use Rattle.qs_send.specs.Gone.{is_gone, AreFull, AreGone}

pub get-insert_packet : (m : PacketPieces) (k : ℕ) (ps : List Piece) (n : ℕ) → fmap.get (fmap.insert m k ps) n ≡ cond (nat_eq n k) (Some ps) (fmap.get m n)
get-insert_packet m k ps n = fmap.get-insert nat_cmp_total m k ps n ∙ ap (λ b. cond b (Some ps) (fmap.get m n)) (unsigned_tied n k)

pub get-remove_packet : (m : PacketPieces) (k n : ℕ) → fmap.get (fmap.remove m k) n ≡ cond (nat_eq n k) None (fmap.get m n)
get-remove_packet m k n = fmap.get-remove nat_cmp_total m k n ∙ ap (λ b. cond b None (fmap.get m n)) (unsigned_tied n k)

-- Slots by number

-- what a slot holds
abbrev pub kept : List Piece → Option (List Piece)
kept [] = None
kept (p ∷ ps) = Some (p ∷ ps)

-- the pieces of a number in slots
abbrev pub found : ℕ → ℕ → List (List Piece) → Option (List Piece)
found n base [] = None
found n base (s ∷ ss) = cond (nat_eq n base) (kept s) (found n (base + 1) ss)

pub found_below : (n base : ℕ) (ss : List (List Piece)) → n < base → found n base ss ≡ None
found_below n base [] lt = refl
found_below n base (s ∷ ss) lt = grind (arith, nat_tests, found_below n (base + 1) ss (omega arith))

pub found_at : (n base k : ℕ) (ss : List (List Piece)) → base + k ≡ n → found n base ss ≡ kept (slot_at ss k)
found_at n base k [] is = refl
found_at n base zero (s ∷ ss) is = let here : nat_eq n base ≡ true = grind (arith, nat_tests) in ap (λ b. cond b (kept s) (found n (base + 1) ss)) here
found_at n base (suc k) (s ∷ ss) is = grind (arith, nat_tests, found_at n (base + 1) k ss (omega arith))

pub get-packets_of : (base : ℕ) (ss : List (List Piece)) (n : ℕ) → fmap.get (packets_of base ss) n ≡ found n base ss
get-packets_of base [] n = fmap.get-empty nat_cmp n
get-packets_of base ([] ∷ ss) n = grind (arith, nat_tests, get-packets_of (base + 1) ss n, found_below)
get-packets_of base ((p ∷ ps) ∷ ss) n = get-insert_packet (packets_of (base + 1) ss) base (p ∷ ps) n ∙ ap (cond (nat_eq n base) (Some (p ∷ ps))) (get-packets_of (base + 1) ss n)

-- slots are the map with their answers
pub packets_of-is : (base : ℕ) (ss : List (List Piece)) (m : PacketPieces) → ((n : ℕ) → found n base ss ≡ fmap.get m n) → packets_of base ss ≡ m
packets_of-is base ss m same = same_map nat_cmp_total nat_cmp-IsAntisymmetric _ _ (λ n. get-packets_of base ss n ∙ same n)

pub get-slot : (base k n : ℕ) (ss : List (List Piece)) → base + k ≡ n → fmap.get (packets_of base ss) n ≡ kept (slot_at ss k)
get-slot base k n ss is = get-packets_of base ss n ∙ found_at n base k ss is

slot_past : (ss : List (List Piece)) (k : ℕ) → length ss ≤ k → slot_at ss k ≡ []
slot_past ss k le = grind (arith, common_steps)

-- Numbers without a slot aren't held

pub not_below : (base n : ℕ) (ss : List (List Piece)) → n < base → fmap.contains_key (packets_of base ss) n ≡ false
not_below base n ss lt = ap is_some (get-packets_of base ss n ∙ found_below n base ss lt)

pub not_past : (base n : ℕ) (ss : List (List Piece)) → base + length ss ≤ n → fmap.contains_key (packets_of base ss) n ≡ false
not_past base n ss le =
    let is : base + (n - base) ≡ n = omega (arith, le) in
    let past : length ss ≤ n - base = omega (arith, le) in
    ap is_some (get-slot base (n - base) n ss is ∙ ap kept (slot_past ss (n - base) past))

-- a number that is held has a slot
pub held_slot : (base n : ℕ) (ss : List (List Piece)) → fmap.contains_key (packets_of base ss) n ≡ true → (base ≤ n) × (n < base + length ss)
held_slot base n ss held = grind (arith, nat_tests, not_below, not_past)

-- What a slot says of the map

none_empty : (n base : ℕ) (ss : List (List Piece)) → found n base ss ≡ Some [] → ⊥
none_empty n base [] is = absurd cc
none_empty n base (s ∷ ss) is = go (none_empty n (base + 1) ss) (nat_eq n base) s is
  where
    go : (found n (base + 1) ss ≡ Some [] → ⊥) → (b : Bool) (s : List Piece) → cond b (kept s) (found n (base + 1) ss) ≡ Some [] → ⊥
    go later true [] is = absurd cc
    go later true (p ∷ ps) is = absurd cc
    go later false s is = later is

pub nothing_is_empty : (base : ℕ) (ss : List (List Piece)) → NoneEmpty (packets_of base ss)
nothing_is_empty base ss n is = none_empty n base ss (sym (get-packets_of base ss n) ∙ is)

first_kept : (s : List Piece) → first_piece (Some s) ≡ first_piece (kept s)
first_kept s = grind (arith, nat_tests)

pub first-slot : (base k n : ℕ) (ss : List (List Piece)) → base + k ≡ n → first_piece (Some (slot_at ss k)) ≡ first_piece (fmap.get (packets_of base ss) n)
first-slot base k n ss is = first_kept (slot_at ss k) ∙ ap first_piece (sym (get-slot base k n ss is))

-- a slot has pieces exactly if its number is held
pub filled_slot : (base k len : ℕ) (ss : List (List Piece)) → len ≡ length (slot_at ss k) → nat_lt 0 len ≡ fmap.contains_key (packets_of base ss) (base + k)
filled_slot base k len ss long = go (slot_at ss k) long ∙ sym (ap is_some (get-slot base k (base + k) ss refl))
  where
    go : (s : List Piece) → len ≡ length s → nat_lt 0 len ≡ is_some (kept s)
    go [] is = grind (arith, nat_tests)
    go (p ∷ ps) is = grind (arith, nat_tests)

-- a slot is empty exactly if its number isn't held
pub empty_slot : (base k n len : ℕ) (ss : List (List Piece)) → base + k ≡ n → k < length ss → len ≡ length (slot_at ss k)
    → (IsTrue (nat_eq len 0) → (0 < length ss) × (fmap.contains_key (packets_of base ss) n ≡ false)) × ((0 < length ss) × (fmap.contains_key (packets_of base ss) n ≡ false) → IsTrue (nat_eq len 0))
empty_slot base k n len ss is within long = go (slot_at ss k) (ap is_some (get-slot base k n ss is)) long
  where
    go : (s : List Piece) → fmap.contains_key (packets_of base ss) n ≡ is_some (kept s) → len ≡ length s
        → (IsTrue (nat_eq len 0) → (0 < length ss) × (fmap.contains_key (packets_of base ss) n ≡ false)) × ((0 < length ss) × (fmap.contains_key (packets_of base ss) n ≡ false) → IsTrue (nat_eq len 0))
    go [] held long = ((λ zero_len. (omega arith, held)), (λ x. grind (arith, nat_tests)))
    go (p ∷ ps) held long = ((λ zero_len. absurd (grind (arith, nat_tests))), (λ x. absurd (both_ways _ x.1 held)))

slot_none : (base k n : ℕ) (ss : List (List Piece)) → base + k ≡ n → fmap.contains_key (packets_of base ss) n ≡ false → slot_at ss k ≡ []
slot_none base k n ss is none = go (slot_at ss k) (sym (ap is_some (get-slot base k n ss is)) ∙ none)
  where
    go : (s : List Piece) → is_some (kept s) ≡ false → s ≡ []
    go [] none = refl
    go (p ∷ ps) none = absurd (both_ways _ none refl)

-- some slot has the piece exactly if some packet carried it
pub carried_at : (base : ℕ) (ss : List (List Piece)) (p : Piece) (k : ℕ) → Among p (slot_at ss k) → IsCarried (packets_of base ss) p
carried_at base ss p k among = go (slot_at ss k) (get-slot base k (base + k) ss refl) among
  where
    go : (s : List Piece) → fmap.get (packets_of base ss) (base + k) ≡ kept s → Among p s → IsCarried (packets_of base ss) p
    go [] is among = absurd among
    go (q ∷ qs) is among = (base + k, q ∷ qs, is, among)

pub at_carried : (base : ℕ) (ss : List (List Piece)) (p : Piece) → IsCarried (packets_of base ss) p → (k : ℕ) × (k < length ss) × Among p (slot_at ss k)
at_carried base ss p carried =
    let n : ℕ = carried.0 in
    let lies = held_slot base n ss (ap is_some carried.2) in
    let is : base + (n - base) ≡ n = omega (arith, lies.0) in
    let within : n - base < length ss = omega (arith, lies.0, lies.1) in
    (n - base, within, go (slot_at ss (n - base)) carried.1 (sym (get-slot base (n - base) n ss is) ∙ carried.2) carried.3)
  where
    go : (s ps : List Piece) → kept s ≡ Some ps → Among p ps → Among p s
    go [] ps is among = absurd cc
    go (q ∷ qs) ps is among = let same : q ∷ qs ≡ ps = cc in subst (Among p) (sym same) among

-- Edits

-- without the first slot, which is empty
pub front_gone : (base : ℕ) (ss : List (List Piece)) → fmap.contains_key (packets_of base ss) base ≡ false → packets_of (base + 1) (drop 1 ss) ≡ packets_of base ss
front_gone base ((p ∷ ps) ∷ ss) none = absurd (both_ways _ none (ap is_some (get-slot base 0 base ((p ∷ ps) ∷ ss) (omega arith))))
front_gone _ _ _ = refl

-- without slots the base is of no matter
pub base_moved : (a b : ℕ) (ss : List (List Piece)) → length ss ≡ 0 → packets_of a ss ≡ packets_of b ss
base_moved a b ss none = grind (arith, common_steps)

-- without the last slot, which is empty
nowhere : (b : Bool) → ◌≡◌ {A = Option (List Piece)} None (cond b None None)
nowhere b = grind (arith, nat_tests)

found_taken : (n base k : ℕ) (ss : List (List Piece)) → length ss ≡ suc k → slot_at ss k ≡ [] → found n base (take k ss) ≡ found n base ss
found_taken n base k [] len none = absurd (omega arith)
found_taken n base zero (s ∷ []) len none = rw none (nowhere (nat_eq n base))
found_taken n base zero (s ∷ t ∷ ss) len none = absurd (omega arith)
found_taken n base (suc k) (s ∷ ss) len none = ap (cond (nat_eq n base) (kept s)) (found_taken n (base + 1) k ss (omega arith) none)

pub back_gone : (base k n : ℕ) (ss : List (List Piece)) → length ss ≡ suc k → base + k ≡ n → fmap.contains_key (packets_of base ss) n ≡ false → packets_of base (take k ss) ≡ packets_of base ss
back_gone base k n ss len is none = packets_of-is base (take k ss) (packets_of base ss) (λ q. found_taken q base k ss len (slot_none base k n ss is none) ∙ sym (get-packets_of base ss q))

later : (n a q : ℕ) (x y z : Option (List Piece)) → a < q → cond (nat_eq n a) x (cond (nat_eq n q) y z) ≡ cond (nat_eq n q) y (cond (nat_eq n a) x z)
later n a q x y z lt = grind (arith, nat_tests)

-- with one slot more
pub found_pushed : (n base q : ℕ) (ss : List (List Piece)) (s : List Piece) → base + length ss ≡ q → found n base (ss ++ s ∷ []) ≡ cond (nat_eq n q) (kept s) (found n base ss)
found_pushed n base q [] s is = let same : base ≡ q = omega arith in ap (λ x. cond (nat_eq n x) (kept s) None) same
found_pushed n base q (t ∷ ss) s is = ap (cond (nat_eq n base) (kept t)) (found_pushed n (base + 1) q ss s (omega arith)) ∙ later n base q (kept t) (kept s) (found n (base + 1) ss) (omega arith)

pub slot_pushed : (base : ℕ) (ss : List (List Piece)) (s : List Piece) → packets_of base (ss ++ s ∷ []) ≡ with_record (packets_of base ss) (base + length ss) s
slot_pushed base ss s = packets_of-is base (ss ++ s ∷ []) _ (λ q. found_pushed q base (base + length ss) ss s refl ∙ go q s)
  where
    nothing : (q : ℕ) (b : Bool) → nat_eq q (base + length ss) ≡ b → cond b None (found q base ss) ≡ found q base ss
    nothing q true here = let n : q ≡ base + length ss = grind (arith, nat_tests) in sym (found_at q base (length ss) ss (sym n) ∙ ap kept (slot_past ss (length ss) (omega arith)))
    nothing q false other = refl

    go : (q : ℕ) (s : List Piece) → cond (nat_eq q (base + length ss)) (kept s) (found q base ss) ≡ fmap.get (with_record (packets_of base ss) (base + length ss) s) q
    go q [] = nothing q (nat_eq q (base + length ss)) refl ∙ sym (get-packets_of base ss q)
    go q (p ∷ ps) = sym (get-insert_packet (packets_of base ss) (base + length ss) (p ∷ ps) q ∙ ap (cond (nat_eq q (base + length ss)) (Some (p ∷ ps))) (get-packets_of base ss q))

-- with another slot at a place
pub found_set : (n base q k : ℕ) (ss : List (List Piece)) (s : List Piece) → base + k ≡ q → k < length ss → found n base (slice_set ss k s) ≡ cond (nat_eq n q) (kept s) (found n base ss)
found_set n base q k [] s is lt = absurd (omega arith)
found_set n base q zero (t ∷ ss) s is lt = grind (arith, nat_tests)
found_set n base q (suc k) (t ∷ ss) s is lt = ap (cond (nat_eq n base) (kept t)) (found_set n (base + 1) q k ss s (omega arith) (omega arith)) ∙ later n base q (kept t) (kept s) (found n (base + 1) ss) (omega arith)

-- The greatest number, as the first slots tell it

none_before : (base bound : ℕ) (ss : List (List Piece)) → ((k : ℕ) → base ≤ k → k < bound → fmap.contains_key (packets_of base ss) k ≡ false) → (k : ℕ) → k < bound → fmap.contains_key (packets_of base ss) k ≡ false
none_before base bound ss none k lt = elim (cases_lt k base) [ inl less ↦ not_below base k ss less | inr ge ↦ none k ge lt ]

below_in : (base n count k : ℕ) (ss : List (List Piece)) → count ≡ min (n - base) (length ss) → k < n → fmap.contains_key (packets_of base ss) k ≡ true → k < base + count
below_in base n count k ss is lt held = let at = held_slot base k ss held in omega (arith, at.0, at.1)

-- behind the first slots that lie below a number, up to it
past_first : (base below count : ℕ) (ss : List (List Piece)) → count ≡ min (below - base) (length ss) → (j : ℕ) → base + count ≤ j → j < below → fmap.contains_key (packets_of base ss) j ≡ false
past_first base below count ss is j ge lt = not_past base j ss (omega (arith, is, ge, lt))

pub above_within : (base below count : ℕ) (ss : List (List Piece)) (r : Option ℕ) → count ≡ min (below - base) (length ss) → IfSome r (λ k. (j : ℕ) → k < j → j < base + count → fmap.contains_key (packets_of base ss) j ≡ false)
    → IfSome r (λ k. (j : ℕ) → k < j → j < below → fmap.contains_key (packets_of base ss) j ≡ false)
above_within base below count ss r is h = grind (arith, nat_tests, past_first)

pub none_within : (base low below from count : ℕ) (ss : List (List Piece)) (r : Option ℕ) → from ≡ low - base → count ≡ min (below - base) (length ss)
    → IfNone r ((j : ℕ) → base + from ≤ j → j < base + count → fmap.contains_key (packets_of base ss) j ≡ false) → IfNone r ((j : ℕ) → low ≤ j → j < below → fmap.contains_key (packets_of base ss) j ≡ false)
none_within base low below from count ss r starts is h = grind (arith, nat_tests, not_below, past_first)

pub none_of : (base count : ℕ) (ss : List (List Piece)) (r : Option ℕ) → IfNone r ((j : ℕ) → base + 0 ≤ j → j < base + count → fmap.contains_key (packets_of base ss) j ≡ false) → IfNone r ((k : ℕ) → k < base + count → fmap.contains_key (packets_of base ss) k ≡ false)
none_of base count ss r h = grind (arith, nat_tests, none_before)

pub greatest_below : (base n count : ℕ) (ss : List (List Piece)) (r : Option ℕ) → count ≡ min (n - base) (length ss) → IfSome r (IsGreatestBelow (packets_of base ss) (base + count)) → IfSome r (IsGreatestBelow (packets_of base ss) n)
greatest_below base n count ss r is h = grind (arith, nat_tests, held_slot)

pub nothing_below : (base n count : ℕ) (ss : List (List Piece)) (r : Option ℕ) → count ≡ min (n - base) (length ss) → IfNone r ((k : ℕ) → k < base + count → fmap.contains_key (packets_of base ss) k ≡ false)
    → IfNone r ((k : ℕ) → k < n → fmap.contains_key (packets_of base ss) k ≡ false)
nothing_below base n count ss r is h = grind (arith, nat_tests, below_in)

pub greatest_of : (base : ℕ) (ss : List (List Piece)) (r : Option ℕ) → IfSome r (IsGreatestBelow (packets_of base ss) (base + length ss)) → IfSome r (IsGreatest (packets_of base ss))
greatest_of base ss None h = tt
greatest_of base ss (Some k) h = record { held = h.held; greatest = λ j held. h.greatest j held (held_slot base j ss held).1 }

pub nothing_of : (base : ℕ) (ss : List (List Piece)) (r : Option ℕ) → IfNone r ((k : ℕ) → k < base + length ss → fmap.contains_key (packets_of base ss) k ≡ false) → IfNone r ((k : ℕ) → fmap.contains_key (packets_of base ss) k ≡ false)
nothing_of base ss r h = grind (arith, nat_tests, not_past)

-- ---- What the records of packets hold after each edit, for the layers above.
--     get-.., get_same-.., get_other-..      the pieces of a packet
--     carried-..                             which pieces some packet has

-- The pieces of a packet

-- the pieces of a packet without the first, None where none is left
abbrev pub rest_of : Option (List Piece) → Option (List Piece)
rest_of None = None
rest_of (Some []) = None
rest_of (Some (p ∷ [])) = None
rest_of (Some (p ∷ q ∷ ps)) = Some (q ∷ ps)

pub at_same : {A : Type 0} (n k : ℕ) (x y : A) → n ≡ k → cond (nat_eq n k) x y ≡ x
at_same n k x y same = let here : nat_eq n k ≡ true = grind (arith, nat_tests) in ap (λ b. cond b x y) here

pub at_other : {A : Type 0} (n k : ℕ) (x y : A) → (n ≡ k → ⊥) → cond (nat_eq n k) x y ≡ y
at_other n k x y apart = let other : nat_eq n k ≡ false = grind (arith, nat_tests) in ap (λ b. cond b x y) other

pub get-without_first : (m : PacketPieces) (k n : ℕ) → fmap.get (without_first m k (fmap.get m k)) n ≡ cond (nat_eq n k) (rest_of (fmap.get m k)) (fmap.get m n)
get-without_first m k n = grind (arith, nat_tests, get-remove_packet, get-insert_packet)

pub get_same-without_first : (m : PacketPieces) (k : ℕ) → fmap.get (without_first m k (fmap.get m k)) k ≡ rest_of (fmap.get m k)
get_same-without_first m k = get-without_first m k k ∙ at_same k k _ _ refl

pub get_other-without_first : (m : PacketPieces) (k n : ℕ) → (n ≡ k → ⊥) → fmap.get (without_first m k (fmap.get m k)) n ≡ fmap.get m n
get_other-without_first m k n apart = get-without_first m k n ∙ at_other n k _ _ apart

-- a packet that has no piece has none once the first is gone
pub unheld-without_first : (m : PacketPieces) (k n : ℕ) → fmap.contains_key m n ≡ false → fmap.contains_key (without_first m k (fmap.get m k)) n ≡ false
unheld-without_first m k n none = grind (arith, nat_tests, get-without_first)

-- Which pieces some packet has

pub carried-empty : (p : Piece) → IsCarried fmap.empty p → ⊥
carried-empty p (k, ps, is, among) = let none : None ≡ Some ps = sym (fmap.get-empty nat_cmp k) ∙ is in both_ways false refl (ap is_some none)

-- a piece that some packet has after the first piece of packet k went, some packet had before
pub carried-without_first : (m : PacketPieces) (k : ℕ) (p : Piece) → IsCarried (without_first m k (fmap.get m k)) p → IsCarried m p
carried-without_first m k p h = grind (arith, nat_tests, get-without_first)

-- a removal takes the pieces of its packet and no others
pub carried-remove : (m : PacketPieces) (k : ℕ) (p : Piece) → IsCarried (fmap.remove m k) p → IsCarried m p
carried-remove m k p h = grind (arith, nat_tests, get-remove_packet)

-- ---- Records in a list that rises by number: what the map holds, and what each edit of the list makes of it.

-- The list as a map

-- the pieces of a record
abbrev pub pieces_in : Option Numbered → Option (List Piece)
pieces_in None = None
pieces_in (Some r) = Some r.pieces

pieces_by : (b : Bool) (r : Numbered) (o : Option Numbered) → cond b (Some r.pieces) (pieces_in o) ≡ pieces_in (cond b (Some r) o)
pieces_by b r o = grind (arith, nat_tests)

pub get-map_of : (rs : List Numbered) (n : ℕ) → fmap.get (map_of rs) n ≡ pieces_in (lookup n rs)
get-map_of [] n = fmap.get-empty nat_cmp n
get-map_of (r ∷ rs) n = get-insert_packet (map_of rs) r.number r.pieces n ∙ ap (cond (nat_eq n r.number) (Some r.pieces)) (get-map_of rs n) ∙ pieces_by (nat_eq n r.number) r (lookup n rs)

some_pieces : (o : Option Numbered) → is_some (pieces_in o) ≡ is_some o
some_pieces o = grind (arith, nat_tests)

pub held-map_of : (rs : List Numbered) (n : ℕ) → fmap.contains_key (map_of rs) n ≡ is_some (lookup n rs)
held-map_of rs n = ap is_some (get-map_of rs n) ∙ some_pieces (lookup n rs)

-- a list is the map with its answers
pub map_of-is : (rs : List Numbered) (m : PacketPieces) → ((n : ℕ) → pieces_in (lookup n rs) ≡ fmap.get m n) → map_of rs ≡ m
map_of-is rs m same = same_map nat_cmp_total nat_cmp-IsAntisymmetric _ _ (λ n. get-map_of rs n ∙ same n)

-- Numbers in the list

pub lookup_below : (n low : ℕ) (rs : List Numbered) → AreRising low rs → n < low → lookup n rs ≡ None
lookup_below n low [] h lt = refl
lookup_below n low (r ∷ rs) h lt = at_other n r.number (Some r) (lookup n rs) (λ e. omega (arith, h.0, lt)) ∙ lookup_below n (r.number + 1) rs h.2 (omega (arith, h.0, lt))

found_from : (n low : ℕ) (rs : List Numbered) → AreRising low rs → is_some (lookup n rs) ≡ true → low ≤ n
found_from n low rs h some = elim (cases_lt n low) [ inl lt ↦ absurd (both_ways _ (ap is_some (lookup_below n low rs h lt)) some) | inr ge ↦ ge ]

lower : (low high : ℕ) (rs : List Numbered) → low ≤ high → AreRising high rs → AreRising low rs
lower low high [] le h = tt
lower low high (r ∷ rs) le h = (omega (arith, h.0), h.1, h.2)

-- Places

-- what stands at a place
pub record IsItem (n : ℕ) (rs : List Numbered) (x : Numbered) : Type 0 where
  pub found : lookup n rs ≡ Some x
  pub number : x.number ≡ n
  pub some : 0 < length x.pieces

pub item_at : (n low : ℕ) (rs : List Numbered) (k : ℕ) (x : Numbered) → AreRising low rs → IsAt n rs k → x ≡ slice_index_or rs k x → IsItem n rs x
item_at n low [] k x h at is = absurd at
item_at n low (r ∷ rs) zero x h at is = grind (arith, nat_tests)
item_at n low (r ∷ rs) (suc k) x h at is = grind (arith, nat_tests, item_at n (r.number + 1) rs k x h.2 at.1 is)

pub gap_none : (n low : ℕ) (rs : List Numbered) (k : ℕ) → AreRising low rs → IsGapAt n rs k → lookup n rs ≡ None
gap_none n low [] k h gap = refl
gap_none n low (r ∷ rs) zero h gap = at_other n r.number (Some r) (lookup n rs) (λ e. omega arith) ∙ lookup_below n (r.number + 1) rs h.2 (omega (arith, gap))
gap_none n low (r ∷ rs) (suc k) h gap = at_other n r.number (Some r) (lookup n rs) (λ e. let lt = gap.0 in omega arith) ∙ gap_none n (r.number + 1) rs k h.2 gap.1

-- Edits

swapped : {A : Type 0} (q a n : ℕ) (x y z : A) → a < n → cond (nat_eq q a) x (cond (nat_eq q n) y z) ≡ cond (nat_eq q n) y (cond (nat_eq q a) x z)
swapped q a n x y z lt = grind (arith, nat_tests)

-- another record at a place
pub lookup-set : (q n : ℕ) (rs : List Numbered) (k : ℕ) (x : Numbered) → IsAt n rs k → x.number ≡ n → lookup q (slice_set rs k x) ≡ cond (nat_eq q n) (Some x) (lookup q rs)
lookup-set q n [] k x at is = absurd at
lookup-set q n (r ∷ rs) zero x at is = grind (arith, nat_tests)
lookup-set q n (r ∷ rs) (suc k) x at is = ap (cond (nat_eq q r.number) (Some r)) (lookup-set q n rs k x at.1 is) ∙ swapped q r.number n (Some r) (Some x) (lookup q rs) at.0

pub rising-set : (n low : ℕ) (rs : List Numbered) (k : ℕ) (x : Numbered) → AreRising low rs → IsAt n rs k → x.number ≡ n → 0 < length x.pieces → AreRising low (slice_set rs k x)
rising-set n low [] k x h at is some = absurd at
rising-set n low (r ∷ rs) zero x h at is some = (let le = h.0 in omega (arith, le, at, is), some, subst (λ i. AreRising (i + 1) rs) (sym at ∙ sym is) h.2)
rising-set n low (r ∷ rs) (suc k) x h at is some = (h.0, h.1, rising-set n (r.number + 1) rs k x h.2 at.1 is some)

-- one record more
pub lookup-insert : (q n : ℕ) (rs : List Numbered) (k : ℕ) (x : Numbered) → IsGapAt n rs k → x.number ≡ n → lookup q (insert rs k x) ≡ cond (nat_eq q n) (Some x) (lookup q rs)
lookup-insert q n rs zero x gap is = ap (λ i. cond (nat_eq q i) (Some x) (lookup q rs)) is
lookup-insert q n [] (suc k) x gap is = absurd gap
lookup-insert q n (r ∷ rs) (suc k) x gap is = ap (cond (nat_eq q r.number) (Some r)) (lookup-insert q n rs k x gap.1 is) ∙ swapped q r.number n (Some r) (Some x) (lookup q rs) gap.0

pub rising-insert : (n low : ℕ) (rs : List Numbered) (k : ℕ) (x : Numbered) → AreRising low rs → low ≤ n → IsGapAt n rs k → x.number ≡ n → 0 < length x.pieces → AreRising low (insert rs k x)
rising-insert n low [] zero x h le gap is some = (omega (arith, le, is), some, tt)
rising-insert n low [] (suc k) x h le gap is some = absurd gap
rising-insert n low (r ∷ rs) zero x h le gap is some = (omega (arith, le, is), some, (omega (arith, gap, is), h.1, h.2))
rising-insert n low (r ∷ rs) (suc k) x h le gap is some = (h.0, h.1, rising-insert n (r.number + 1) rs k x h.2 (let lt = gap.0 in omega (arith, lt)) gap.1 is some)

-- one record less
pub lookup-remove : (q n low : ℕ) (rs : List Numbered) (k : ℕ) → AreRising low rs → IsAt n rs k → lookup q (remove rs k) ≡ cond (nat_eq q n) None (lookup q rs)
lookup-remove q n low [] k h at = absurd at
lookup-remove q n low (r ∷ rs) zero h at = grind (arith, nat_tests, lookup_below, at_other)
lookup-remove q n low (r ∷ rs) (suc k) h at = ap (cond (nat_eq q r.number) (Some r)) (lookup-remove q n (r.number + 1) rs k h.2 at.1) ∙ swapped q r.number n (Some r) None (lookup q rs) at.0

pub rising-remove : (n low : ℕ) (rs : List Numbered) (k : ℕ) → AreRising low rs → IsAt n rs k → AreRising low (remove rs k)
rising-remove n low [] k h at = absurd at
rising-remove n low (r ∷ rs) zero h at = let le = h.0 in lower low (r.number + 1) rs (omega (arith, le)) h.2
rising-remove n low (r ∷ rs) (suc k) h at = (h.0, h.1, rising-remove n (r.number + 1) rs k h.2 at.1)

-- A binary search

higher : (a b x : ℕ) → a ≤ b → ordering_index (nat_cmp a x) ≤ ordering_index (nat_cmp b x)
higher a b x le = grind (arith, nat_tests)

rises_from : (low : ℕ) (rs : List Numbered) (j : ℕ) (d : Numbered) → AreRising low rs → j < length rs → low ≤ (slice_index_or rs j d).number
rises_from low [] j d h lt = absurd (omega (arith, lt))
rises_from low (r ∷ rs) zero d h lt = h.0
rises_from low (r ∷ rs) (suc j) d h lt = let le = rises_from (r.number + 1) rs j d h.2 (omega (arith, lt)) in let from = h.0 in omega (arith, le, from)

rises : (low : ℕ) (rs : List Numbered) (i j : ℕ) (d : Numbered) → AreRising low rs → i ≤ j → j < length rs → (slice_index_or rs i d).number ≤ (slice_index_or rs j d).number
rises low [] i j d h le lt = absurd (omega (arith, lt))
rises low (r ∷ rs) zero zero d h le lt = omega arith
rises low (r ∷ rs) (suc i) zero d h le lt = absurd (omega (arith, le))
rises low (r ∷ rs) zero (suc j) d h le lt = let up = rises_from (r.number + 1) rs j d h.2 (omega (arith, lt)) in omega (arith, up)
rises low (r ∷ rs) (suc i) (suc j) d h le lt = rises (r.number + 1) rs i j d h.2 (omega (arith, le)) (omega (arith, lt))

at_place : (n low : ℕ) (rs : List Numbered) (k : ℕ) → AreRising low rs → k < length rs → ((d : Numbered) → (slice_index_or rs k d).number ≡ n) → IsAt n rs k × (low ≤ n)
at_place n low [] k h lt is = absurd (omega (arith, lt))
at_place n low (r ∷ rs) zero h lt is = let e = is r in (sym e, (let le = h.0 in omega (arith, le, e)))
at_place n low (r ∷ rs) (suc k) h lt is = let later = at_place n (r.number + 1) rs k h.2 (omega (arith, lt)) is in let up = later.1 in let le = h.0 in ((omega (arith, up), later.0), omega (arith, up, le))

gap_place : (n : ℕ) (rs : List Numbered) (k : ℕ) → k ≤ length rs → ((j : ℕ) (d : Numbered) → j < k → (slice_index_or rs j d).number < n) → ((j : ℕ) (d : Numbered) → k ≤ j → j < length rs → n < (slice_index_or rs j d).number) → IsGapAt n rs k
gap_place n [] zero le before behind = tt
gap_place n [] (suc k) le before behind = absurd (omega (arith, le))
gap_place n (r ∷ rs) zero le before behind = behind 0 r (omega arith) (omega arith)
gap_place n (r ∷ rs) (suc k) le before behind = (
  before 0 r (omega arith),
  gap_place n rs k (omega (arith, le)) (λ j d lt. before (suc j) d (omega (arith, lt))) (λ j d ge lt. behind (suc j) d (omega (arith, ge)) (omega (arith, lt))),
)

pub found_by : (n : ℕ) (rs : List Numbered) (r : Result ℕ ℕ) → AreRising 0 rs → IsSearchInRange r (length rs) → IsBinarySearchResult (λ x. nat_cmp x.number n) rs r → IfOk r (IsAt n rs)
found_by n rs (Ok k) h within equal =
    (at_place n 0 rs k h within (λ d. let x = slice_index_or rs k d in subst (λ o. MatchOrdering o (x.number < n) (x.number ≡ n) (n < x.number)) (equal d) (ranks x.number n))).0
found_by n rs (Err k) h within parted = tt

pub gap_by : (n : ℕ) (rs : List Numbered) (r : Result ℕ ℕ) → AreRising 0 rs → IsSearchInRange r (length rs) → IsBinarySearchResult (λ x. nat_cmp x.number n) rs r → IfErr r (IsGapAt n rs)
gap_by n rs (Ok k) h within equal = tt
gap_by n rs (Err k) h within parted =
    let parts = parted (λ i j d le lt. higher _ _ n (rises 0 rs i j d h le lt)) in
    gap_place n rs k within
    (λ j d lt. let x = slice_index_or rs j d in subst (λ o. MatchOrdering o (x.number < n) (x.number ≡ n) (n < x.number)) (parts.0 j d (omega arith) lt) (ranks x.number n))
    (λ j d le lt. let x = slice_index_or rs j d in subst (λ o. MatchOrdering o (x.number < n) (x.number ≡ n) (n < x.number)) (parts.1 j d le lt) (ranks x.number n))

-- The record before a place

pub cut_at : (n : ℕ) (rs : List Numbered) (k : ℕ) → IsAt n rs k → IsCut n rs k
cut_at n [] k at = absurd at
cut_at n (r ∷ rs) zero at = omega (arith, at)
cut_at n (r ∷ rs) (suc k) at = (at.0, cut_at n rs k at.1)

pub cut_gap : (n : ℕ) (rs : List Numbered) (k : ℕ) → IsGapAt n rs k → IsCut n rs k
cut_gap n [] zero gap = tt
cut_gap n [] (suc k) gap = absurd gap
cut_gap n (r ∷ rs) zero gap = omega (arith, gap)
cut_gap n (r ∷ rs) (suc k) gap = (gap.0, cut_gap n rs k gap.1)

-- the records beside a place tell whether it parts the list
pub cut_by : (n low : ℕ) (rs : List Numbered) (k : ℕ) → AreRising low rs → k ≤ length rs → ((j : ℕ) → k ≡ suc j → (x : Numbered) × (x ≡ slice_index_or rs j x) × (x.number < n)) → (k < length rs → (x : Numbered) × (x ≡ slice_index_or rs k x) × (n ≤ x.number)) → IsCut n rs k
cut_by n low [] zero h le before behind = tt
cut_by n low [] (suc k) h le before behind = absurd (omega (arith, le))
cut_by n low (r ∷ rs) zero h le before behind = grind (arith, nat_tests)
cut_by n low (r ∷ rs) (suc k) h le before behind =
    let x = before k refl in
    let same : x.0.number ≡ (slice_index_or (r ∷ rs) k x.0).number = ap (λ y. y.number) x.1 in
    let up : r.number ≤ (slice_index_or (r ∷ rs) k x.0).number = rises low (r ∷ rs) 0 k x.0 h (omega arith) (omega (arith, le)) in
    (omega (arith, up, same, x.2), cut_by n (r.number + 1) rs k h.2 (omega (arith, le)) (λ j is. before (suc j) (ap suc is)) (λ lt. behind (omega (arith, lt))))

pub at_first : (n : ℕ) (rs : List Numbered) (x : Numbered) → 0 < length rs → x ≡ slice_index_or rs 0 x → x.number ≡ n → IsAt n rs 0
at_first n rs x some of_x is = grind (arith, common_steps)

-- past the last record a number has none
gap_end : (n : ℕ) (rs : List Numbered) → IsCut n rs (length rs) → IsGapAt n rs (length rs)
gap_end n [] h = tt
gap_end n (r ∷ rs) h = (h.0, gap_end n rs h.1)

pub gap_past : (n : ℕ) (rs : List Numbered) (k : ℕ) (x : Numbered) → AreRising 0 rs → k ≡ length rs → 0 < k → x ≡ slice_index_or rs (k - 1) x → x.number < n → IsGapAt n rs k
gap_past n rs k x rising is some of_x less = grind (arith, common_steps, cut_by, gap_end)

-- without one before the place none is below
lostlists_none_before : (n low : ℕ) (rs : List Numbered) → AreRising low rs → IsCut n rs zero → (j : ℕ) → is_some (lookup j rs) ≡ true → n ≤ j
lostlists_none_before n low [] h cut j some = absurd (both_ways false refl some)
lostlists_none_before n low (r ∷ rs) h cut j some = let le = found_from j r.number (r ∷ rs) (omega arith, h.1, h.2) some in omega (arith, le, cut)

pub record IsLastBelow (n : ℕ) (rs : List Numbered) (x : Numbered) : Type 0 where
  pub held : lookup x.number rs ≡ Some x
  pub below : x.number < n
  pub greatest : (j : ℕ) → is_some (lookup j rs) ≡ true → j < n → j ≤ x.number

last_below : (n low : ℕ) (rs : List Numbered) (k : ℕ) (x : Numbered) → AreRising low rs → IsCut n rs (suc k) → x ≡ slice_index_or rs k x → IsLastBelow n rs x
last_below n low [] k x h cut is = absurd cut
last_below n low (r ∷ rs) zero x h cut is = grind (arith, nat_tests, lostlists_none_before)
last_below n low (r ∷ rs) (suc k) x h cut is = grind (arith, nat_tests, last_below n (r.number + 1) rs k x h.2 cut.1 is, found_from, at_other)

pub greatest_before : (n : ℕ) (rs : List Numbered) (k : ℕ) (x : Numbered) → AreRising 0 rs → IsCut n rs (suc k) → x ≡ slice_index_or rs k x → IsGreatestBelow (map_of rs) n x.number
greatest_before n rs k x h cut is =
    let last = last_below n 0 rs k x h cut is in
    grind (arith, nat_tests, held-map_of)

pub nothing_before : (n : ℕ) (rs : List Numbered) → AreRising 0 rs → IsCut n rs zero → (k : ℕ) → k < n → fmap.contains_key (map_of rs) k ≡ false
nothing_before n rs h cut k lt = grind (arith, nat_tests, held-map_of, lostlists_none_before)

-- What a search says of the map

pub held_by : (n : ℕ) (rs : List Numbered) (r : Result ℕ ℕ) → AreRising 0 rs → IfOk r (IsAt n rs) → IfErr r (IsGapAt n rs) → is_ok r ≡ fmap.contains_key (map_of rs) n
held_by n rs (Ok k) h at gap = sym (held-map_of rs n ∙ ap is_some (found_at n 0 rs k h at))
  where
    found_at : (n low : ℕ) (rs : List Numbered) (k : ℕ) → AreRising low rs → IsAt n rs k → lookup n rs ≡ Some (slice_index_or rs k (record { number = 0; pieces = []; spare = 0 }))
    found_at n low [] k h at = absurd at
    found_at n low (r ∷ rs) zero h at = at_same n r.number (Some r) (lookup n rs) at
    found_at n low (r ∷ rs) (suc k) h at = at_other n r.number (Some r) (lookup n rs) (λ e. let lt = at.0 in omega arith) ∙ found_at n (r.number + 1) rs k h.2 at.1
held_by n rs (Err k) h at gap = sym (held-map_of rs n ∙ ap is_some (gap_none n 0 rs k h gap))

pub none_by : (n : ℕ) (rs : List Numbered) (r : Result ℕ ℕ) → AreRising 0 rs → IfErr r (IsGapAt n rs) → IfErr r (λ _. lookup n rs ≡ None)
none_by n rs r h gap = grind (arith, nat_tests, gap_none)

pub get_none : (n : ℕ) (rs : List Numbered) → lookup n rs ≡ None → fmap.get (map_of rs) n ≡ None
get_none n rs none = get-map_of rs n ∙ ap pieces_in none

pub get_at : (n : ℕ) (rs : List Numbered) (x : Numbered) → IsItem n rs x → fmap.get (map_of rs) n ≡ Some x.pieces
get_at n rs x item = get-map_of rs n ∙ ap pieces_in item.found

-- The map after an edit

pieces_cond : (b : Bool) (o p : Option Numbered) → pieces_in (cond b o p) ≡ cond b (pieces_in o) (pieces_in p)
pieces_cond b o p = grind (arith, nat_tests)

pub map-set : (n : ℕ) (rs : List Numbered) (k : ℕ) (x : Numbered) → IsAt n rs k → x.number ≡ n → map_of (slice_set rs k x) ≡ fmap.insert (map_of rs) n x.pieces
map-set n rs k x at is = map_of-is _ _ (λ q.
    ap pieces_in (lookup-set q n rs k x at is) ∙ pieces_cond (nat_eq q n) (Some x) (lookup q rs)
    ∙ ap (cond (nat_eq q n) (Some x.pieces)) (sym (get-map_of rs q)) ∙ sym (get-insert_packet (map_of rs) n x.pieces q))

pub map-insert : (n : ℕ) (rs : List Numbered) (k : ℕ) (x : Numbered) → IsGapAt n rs k → x.number ≡ n → map_of (insert rs k x) ≡ fmap.insert (map_of rs) n x.pieces
map-insert n rs k x gap is = map_of-is _ _ (λ q.
    ap pieces_in (lookup-insert q n rs k x gap is) ∙ pieces_cond (nat_eq q n) (Some x) (lookup q rs)
    ∙ ap (cond (nat_eq q n) (Some x.pieces)) (sym (get-map_of rs q)) ∙ sym (get-insert_packet (map_of rs) n x.pieces q))

pub map-remove : (n : ℕ) (rs : List Numbered) (k : ℕ) → AreRising 0 rs → IsAt n rs k → map_of (remove rs k) ≡ fmap.remove (map_of rs) n
map-remove n rs k h at = map_of-is _ _ (λ q.
    ap pieces_in (lookup-remove q n 0 rs k h at) ∙ pieces_cond (nat_eq q n) None (lookup q rs)
    ∙ ap (cond (nat_eq q n) None) (sym (get-map_of rs q)) ∙ sym (get-remove_packet (map_of rs) n q))

-- what is there comes once more
pub insert_same : (m : PacketPieces) (n : ℕ) (ps : List Piece) → fmap.get m n ≡ Some ps → fmap.insert m n ps ≡ m
insert_same m n ps is = same_map nat_cmp_total nat_cmp-IsAntisymmetric _ _ (λ q. get-insert_packet m n ps q ∙ go q (nat_eq q n) refl)
  where
    go : (q : ℕ) (b : Bool) → nat_eq q n ≡ b → cond b (Some ps) (fmap.get m q) ≡ fmap.get m q
    go q true same = let e : q ≡ n = grind (arith, nat_tests) in sym (ap (fmap.get m) e ∙ is)
    go q false apart = refl

-- what is not there goes
pub remove_nothing : (m : PacketPieces) (n : ℕ) → fmap.get m n ≡ None → fmap.remove m n ≡ m
remove_nothing m n is = same_map nat_cmp_total nat_cmp-IsAntisymmetric _ _ (λ q. get-remove_packet m n q ∙ go q (nat_eq q n) refl)
  where
    go : (q : ℕ) (b : Bool) → nat_eq q n ≡ b → cond b None (fmap.get m q) ≡ fmap.get m q
    go q true same = let e : q ≡ n = grind (arith, nat_tests) in sym (ap (fmap.get m) e ∙ is)
    go q false apart = refl

pub last_gone : (m : PacketPieces) (n : ℕ) (ps : List Piece) → length ps ≤ 1 → fmap.remove m n ≡ without_first m n (Some ps)
last_gone m n ps short = grind (arith, nat_tests)

pub first_gone : (m : PacketPieces) (n : ℕ) (ps qs : List Piece) → 1 < length ps → qs ≡ drop 1 ps → fmap.insert m n qs ≡ without_first m n (Some ps)
first_gone m n ps qs long is = grind (arith, nat_tests)

pub some_left : (ps qs : List Piece) → 1 < length ps → qs ≡ drop 1 ps → 0 < length qs
some_left ps qs long is = grind (arith, nat_tests)

pub one_more : (ps qs : List Piece) (p : Piece) → qs ≡ ps ++ p ∷ [] → 0 < length qs
one_more ps qs p is = grind (arith, common_steps)

-- Room

pub reserved_at : {E : Type 0} (res : Result (Unit {0}) E) (n spare : ℕ) (rs : List Numbered) (k : ℕ) (x : Numbered) → IsAt n rs k → x.number ≡ n → OnOk res (0 < x.spare) → OnOk res (0 < spare_in spare (lookup n (slice_set rs k x)))
reserved_at res n spare rs k x at is ok = subst (λ o. OnOk res (0 < spare_in spare o)) (sym (lookup-set n n rs k x at is ∙ at_same n n (Some x) (lookup n rs) refl)) ok

pub room_at : (l : Listed) (n : ℕ) (x : Numbered) → IsItem n l.records x → 0 < room_for l n → 0 < x.spare
room_at l n x item room = subst (λ o. 0 < spare_in l.spare o) item.found room

-- room that stood stays while more is made, at a record that is held
pub room_set : (n spare : ℕ) (rs : List Numbered) (k : ℕ) (x y : Numbered) → IsAt n rs k → y.number ≡ n → IsItem n rs x → x.spare ≤ y.spare → (q : ℕ) → spare_in spare (lookup q rs) ≤ spare_in spare (lookup q (slice_set rs k y))
room_set n spare rs k x y at is item le q = grind (arith, nat_tests, lookup-set)

pub room_gone : {E : Type 0} (res : Result (Unit {0}) E) (n spare : ℕ) (rs : List Numbered) (x : Numbered) → IsItem n rs x → OnErr res (x.spare ≡ 0) → OnErr res (spare_in spare (lookup n rs) ≡ 0)
room_gone res n spare rs x item err = subst (λ o. OnErr res (spare_in spare o ≡ 0)) (sym item.found) err

-- What a search or an edit didn't answer

pub not_ok : (r : Result ℕ ℕ) (P : Type 0) → IfErr r (λ _. P) → ((k : ℕ) → r ≡ Ok k → ⊥) → P
not_ok r P none other = grind (arith, nat_tests)

pub inserted : {E X : Type 0} (r : Result (Unit {0}) E) (xs ys zs : List X) → IsOk r → zs ≡ cond (is_ok r) xs ys → zs ≡ xs
inserted r xs ys zs ok is = grind (arith, nat_tests)

pub same_item : (n : ℕ) (rs : List Numbered) (x y : Numbered) → IsItem n rs x → IsItem n rs y → x ≡ y
same_item n rs x y a b = let e : Some x ≡ Some y = sym a.found ∙ b.found in cc

-- ---- The order in which packets were declared lost, beside what they carried.

-- the order has the numbers that are held, each once, however many
record IsListOf (m : PacketPieces) (order : List ℕ) : Type 0 where
  same : (k : ℕ) → Among k order ↔ (fmap.contains_key m k ≡ true)
  once : AreApart order
  none_empty : NoneEmpty m

list_of : (m : PacketPieces) (order : List ℕ) → IsOrderOf m order → IsListOf m order
list_of m order h = record { same = h.same; once = h.once; none_empty = h.none_empty }

pub order_of_nothing : (m : PacketPieces) (order : List ℕ) → m ≡ fmap.empty → order ≡ [] → IsOrderOf m order
order_of_nothing m order none no_order = record {
  same = λ k. (
    (λ a. absurd (subst (Among k) no_order a)),
    (λ held. absurd (both_ways false refl (sym (ap is_some (fmap.get-empty nat_cmp k)) ∙ sym (ap (λ x. fmap.contains_key x k) none) ∙ held))),
  );
  once = subst AreApart (sym no_order) tt;
  few = let len = ap length no_order in omega (arith, len);
  none_empty = λ k is. let e : None ≡ Some [] = sym (fmap.get-empty nat_cmp k) ∙ sym (ap (λ x. fmap.get x k) none) ∙ is in absurd cc;
}

-- One piece more

among_behind : (k n : ℕ) (xs : List ℕ) → Among k (xs ++ n ∷ []) ↔ (Among k xs ⊎ (k ≡ n))
among_behind k n [] = ((λ a. elim a [ inl e ↦ inr e | inr b ↦ absurd b ]), (λ a. elim a [ inl b ↦ absurd b | inr e ↦ inl e ]))
among_behind k n (x ∷ xs) = grind (arith, nat_tests, among_behind k n xs)

apart_behind : (n : ℕ) (xs : List ℕ) → AreApart xs → (Among n xs → ⊥) → AreApart (xs ++ n ∷ [])
apart_behind n [] h new = ((λ a. a), tt)
apart_behind n (x ∷ xs) h new = (
  (λ a. elim ((among_behind x n xs).0 a) [ inl b ↦ h.0 b | inr e ↦ new (inl (sym e)) ]),
  apart_behind n xs h.1 (λ a. new (inr a)),
)

held_by_test : (b : Bool) (ps : List Piece) (o : Option (List Piece)) → is_some (cond b (Some ps) o) ≡ true → (b ≡ true) ⊎ (is_some o ≡ true)
held_by_test b ps o some = grind (arith, nat_tests)

held_inserted : (m : PacketPieces) (n k : ℕ) (ps : List Piece) → fmap.contains_key (fmap.insert m n ps) k ≡ true → (k ≡ n) ⊎ (fmap.contains_key m k ≡ true)
held_inserted m n k ps held = elim (held_by_test (nat_eq k n) ps (fmap.get m k) (sym (ap is_some (get-insert_packet m n ps k)) ∙ held)) [ inl same ↦ inl (grind (arith, nat_tests)) | inr old ↦ inr old ]

inserted_held : (m : PacketPieces) (n k : ℕ) (ps : List Piece) → (k ≡ n) ⊎ (fmap.contains_key m k ≡ true) → fmap.contains_key (fmap.insert m n ps) k ≡ true
inserted_held m n k ps h = grind (arith, nat_tests, get-insert_packet)

none_empty_inserted : (m : PacketPieces) (n : ℕ) (ps : List Piece) → 0 < length ps → NoneEmpty m → NoneEmpty (fmap.insert m n ps)
none_empty_inserted m n ps some none k is = grind (arith, nat_tests, get-insert_packet)

inserted_list : (m : PacketPieces) (order : List ℕ) (n : ℕ) (ps : List Piece) (b : Bool) → 0 < length ps → fmap.contains_key m n ≡ b → IsListOf m order → IsListOf (fmap.insert m n ps) (with_number order n b)
inserted_list m order n ps b some held h = grind (arith, nat_tests, inserted_held, held_inserted, none_empty_inserted, among_behind, apart_behind)

length_behind : (order : List ℕ) (n : ℕ) (b : Bool) → length (with_number order n b) ≤ length order + 1
length_behind order n b = grind (arith, common_steps)

some_behind : (ps : List Piece) (p : Piece) → 0 < length (ps ++ p ∷ [])
some_behind ps p = grind (arith, common_steps)

piece_list : (m : PacketPieces) (order : List ℕ) (n : ℕ) (p : Piece) (o : Option (List Piece)) → IsListOf m order → IsListOf (with_piece m n p o) (with_number order n (fmap.contains_key m n))
piece_list m order n p None h = inserted_list m order n (p ∷ []) _ (omega arith) refl h
piece_list m order n p (Some ps) h = inserted_list m order n (ps ++ p ∷ []) _ (some_behind ps p) refl h

-- The oldest goes

held_removed : (m : PacketPieces) (n k : ℕ) → fmap.contains_key (fmap.remove m n) k ≡ true → (k ≡ n → ⊥) × (fmap.contains_key m k ≡ true)
held_removed m n k held = grind (arith, nat_tests, get-remove_packet)

removed_held : (m : PacketPieces) (n k : ℕ) → (k ≡ n → ⊥) → fmap.contains_key m k ≡ true → fmap.contains_key (fmap.remove m n) k ≡ true
removed_held m n k apart held = grind (arith, nat_tests, get-remove_packet)

none_empty_removed : (m : PacketPieces) (n : ℕ) → NoneEmpty m → NoneEmpty (fmap.remove m n)
none_empty_removed m n none k is = grind (arith, nat_tests, get-remove_packet)

latest_order : (m : PacketPieces) (xs : List ℕ) → IsListOf m xs → length xs ≤ MOST_LOST + 1 → IsOrderOf (without_oldest m xs) (latest xs)
latest_order m xs h few = grind (arith, nat_tests, removed_held, held_removed, none_empty_removed)

pub order_added : (m : PacketPieces) (order : List ℕ) (n : ℕ) (p : Piece) → IsOrderOf m order
    → IsOrderOf (without_oldest (with_piece m n p (fmap.get m n)) (with_number order n (fmap.contains_key m n))) (latest (with_number order n (fmap.contains_key m n)))
order_added m order n p h =
    let longer = length_behind order n (fmap.contains_key m n) in
    let few = h.few in
    latest_order _ _ (piece_list m order n p (fmap.get m n) (list_of m order h)) (omega (arith, longer, few))

-- A piece goes

among_without : (k n : ℕ) (xs : List ℕ) → Among k (without_number xs n) ↔ (Among k xs × (k ≡ n → ⊥))
among_without k n [] = ((λ a. absurd a), (λ p. absurd p.0))
among_without k n (x ∷ xs) = grind (arith, nat_tests, among_without k n xs)

apart_without : (n : ℕ) (xs : List ℕ) → AreApart xs → AreApart (without_number xs n)
apart_without n [] h = tt
apart_without n (x ∷ xs) h = go (apart_without n xs h.1) (nat_eq x n)
  where
    go : AreApart (without_number xs n) → (b : Bool) → AreApart (cond b (without_number xs n) (x ∷ without_number xs n))
    go later true = later
    go later false = ((λ a. h.0 ((among_without x n xs).0 a).0), later)

length_without : (n : ℕ) (xs : List ℕ) → length (without_number xs n) ≤ length xs
length_without n [] = omega arith
length_without n (x ∷ xs) = grind (arith, nat_tests, length_without n xs)

held_rest : (m : PacketPieces) (n k : ℕ) → (k ≡ n → ⊥) → fmap.contains_key (without_first m n (fmap.get m n)) k ≡ fmap.contains_key m k
held_rest m n k apart = let f : nat_eq k n ≡ false = grind (arith, nat_tests) in ap is_some (get-without_first m n k ∙ ap (λ b. cond b (rest_of (fmap.get m n)) (fmap.get m k)) f)

none_empty_rest : (m : PacketPieces) (n : ℕ) → NoneEmpty m → NoneEmpty (without_first m n (fmap.get m n))
none_empty_rest m n none k is = grind (arith, nat_tests, get-without_first)

pub order_rest : (m : PacketPieces) (order : List ℕ) (n : ℕ) → IsOrderOf m order → fmap.contains_key (without_first m n (fmap.get m n)) n ≡ false → IsOrderOf (without_first m n (fmap.get m n)) (without_number order n)
order_rest m order n h gone = grind (arith, nat_tests, among_without, held_rest, apart_without, length_without, none_empty_rest)

pub order_stays : (m : PacketPieces) (order : List ℕ) (n : ℕ) → IsOrderOf m order → fmap.contains_key (without_first m n (fmap.get m n)) n ≡ true → IsOrderOf (without_first m n (fmap.get m n)) order
order_stays m order n h left = grind (arith, nat_tests, none_empty_rest, rest_of, get-without_first)

-- What is left of the order

pub filter-without : (n : ℕ) (xs : List ℕ) → filter (λ k. not (nat_eq k n)) xs ≡ without_number xs n
filter-without n [] = refl
filter-without n (x ∷ xs) = grind (arith, nat_tests, filter-without n xs)

-- ---- Bits that note which slots are empty: a list of words, and what they say of the records.

-- Words

-- so many words go
gone_shifted : (n : ℕ) (ws : List ℕ) (i : ℕ) → is_gone (drop n ws) i ≡ is_gone ws (i + 64 * n)
gone_shifted n ws i = grind (arith, nat_tests, get_or-drop)

-- Words that are full

-- a word with all of its bits set
pub full_word : (ws : List ℕ) (place word : ℕ) → place < length ws → word ≡ get_or ws place word → word ≡ bit_not w64 0 → (i : ℕ) → i / 64 ≡ place → is_gone ws i ≡ true
full_word ws place word there read all i at =
    let word_at : word ≡ get_or ws place 0 = get_or_read ws place word there read 0 in
    let one : bit_at word (63 - i % 64) ≡ 1 = ap (λ w. bit_at w (63 - i % 64)) all ∙ bit_at_not w64 0 (63 - i % 64) (omega arith) (omega arith) ∙ ap (λ b. 1 - b) (bit_at-zero (63 - i % 64)) in
    rw (at, ← word_at, one) refl

pub full_less : (full words : List ℕ) → AreFull full words → AreFull (drop 1 full) (drop 64 words)
full_less full words are i gone =
    let at : i / 64 + 64 * 1 ≡ (i + 64 * 64) / 64 = omega arith in
    gone_shifted 64 words i ∙ are (i + 64 * 64) (sym (ap (is_gone full) at) ∙ (sym (gone_shifted 1 full (i / 64)) ∙ gone))

-- A search

-- from an index on all are noted as empty, below an end
abbrev pub IsGoneFrom : List ℕ → ℕ → ℕ → Type 0
IsGoneFrom ws left end = (left ≤ end) × ((i : ℕ) → left ≤ i → i < end → is_gone ws i ≡ true)

pub nothing_passed : (ws : List ℕ) (end : ℕ) → IsGoneFrom ws end end
nothing_passed ws end = (omega arith, λ i ge lt. absurd (omega (arith, ge, lt)))

module _ (ws : List ℕ) (end left word from : ℕ) (so_far : IsGoneFrom ws left end) (some : 0 < left) (there : (left - 1) / 64 < length ws) (read : word ≡ get_or ws ((left - 1) / 64) word) (fits : word < 2 ^ 64) (is : from ≡ 63 - (left - 1) % 64) where
  bit_gone : (i : ℕ) → i / 64 ≡ (left - 1) / 64 → bit_at (bit_not w64 word) (63 - i % 64) ≡ 0 → is_gone ws i ≡ true
  bit_gone i at clear =
      let word_at : word ≡ get_or ws ((left - 1) / 64) 0 = get_or_read ws ((left - 1) / 64) word there read 0 in
      let other = bit_at_not w64 word (63 - i % 64) fits (omega arith) in
      let small = bit_at-lt word (63 - i % 64) in
      let one : bit_at word (63 - i % 64) ≡ 1 = omega (arith, other, clear, small) in
      rw (at, ← word_at, one) refl

  pub found_end : (bit : ℕ) → IsLowestBit (bit_not w64 word) from (Some bit) → IsGoneFrom ws ((left - 1) / 64 * 64 + (64 - bit)) end
  found_end bit lowest =
      let f = lowest.found bit refl in
      let from_on = f.0 in
      let small = f.1 in
      let le = so_far.0 in (
        omega (arith, from_on, small, le, some, is),
        λ i ge lt. elim (cases_lt i left) [
          | inl less ↦ bit_gone i (omega (arith, ge, less, small)) (lowest.clear (63 - i % 64) (omega (arith, ge, less, small, is)) (omega arith) (omega (arith, ge, less, small)))
          | inr past ↦ so_far.1 i past lt
        ],
      )

  pub none_end : IsLowestBit (bit_not w64 word) from None → IsGoneFrom ws ((left - 1) / 64 * 64) end
  none_end lowest =
      let le = so_far.0 in (
        omega (arith, le, some),
        λ i ge lt. elim (cases_lt i left) [
          | inl less ↦ bit_gone i (omega (arith, ge, less)) (lowest.clear (63 - i % 64) (omega (arith, ge, less, is)) (omega arith) tt)
          | inr past ↦ so_far.1 i past lt
        ],
      )

-- What they say of the records

-- the first words go
pub gone_less : (ws : List ℕ) (first : ℕ) (m : PacketPieces) → AreGone ws first m → AreGone (drop 64 ws) (first + 4096) m
gone_less ws first m are i gone =
    let at : first + (i + 64 * 64) ≡ first + 4096 + i = omega arith in
    subst (λ k. fmap.contains_key m k ≡ false) at (are (i + 64 * 64) (sym (gone_shifted 64 ws i) ∙ gone))

-- one record came, whose slot is not noted
pub gone_beside : (ws vs : List ℕ) (first index : ℕ) (m n : PacketPieces) → AreGone ws first m → is_gone vs index ≡ false → ((i : ℕ) → i ≢ index → is_gone vs i ≡ is_gone ws i) → ((k : ℕ) → k ≢ first + index → fmap.contains_key n k ≡ fmap.contains_key m k)
    → AreGone vs first n
gone_beside ws vs first index m n are here others beside i gone = grind (arith, nat_tests)

-- numbers of slots that are noted have no record
pub gone_below : (ws : List ℕ) (first base count left : ℕ) (m : PacketPieces) → AreGone ws first m → first ≤ base → ((i : ℕ) → left ≤ i → i < base - first + count → is_gone ws i ≡ true)
    → (k : ℕ) → base + (left - (base - first)) ≤ k → k < base + count → fmap.contains_key m k ≡ false
gone_below ws first base count left m are le gone k ge lt =
    let at : first + (k - first) ≡ k = omega (arith, le, ge) in
    subst (λ n. fmap.contains_key m n ≡ false) at (are (k - first) (gone (k - first) (omega (arith, le, ge)) (omega (arith, le, lt, ge))))

-- a slot was pushed, which changes nothing of the others
pub pushed_beside : (base n : ℕ) (ss : List (List Piece)) (s : List Piece) → n ≡ base + length ss → (k : ℕ) → k ≢ n → fmap.contains_key (packets_of base (ss ++ s ∷ [])) k ≡ fmap.contains_key (packets_of base ss) k
pushed_beside base n ss s is k differs =
    ap is_some (get-packets_of base (ss ++ s ∷ []) k ∙ found_pushed k base n ss s (sym is) ∙ at_other k n (kept s) (found k base ss) differs ∙ sym (get-packets_of base ss k))
