-- The ranges that C gives, and those that an ACK spells.
use Rattle.std.proofs.Common.{◌≡◌, ℕ, zero, suc, ◌+◌, ◌-◌, ◌*◌, ◌/◌, ◌%◌, ◌^◌, ◌<◌, ◌≤◌, Bool, true, false, not, leb, ltb, ◌&&◌, List, [], ◌∷◌, ◌++◌, length, take, drop, map, get_or, set, Option, Some, None, refl, sym, ap, subst, ◌∙◌, arith}
use Rattle.std.specs.List.{AllByRecursion}
use Rattle.std.proofs.lemmas.Bool.{leb-true, ltb-true, and_parts}
use Rattle.std.proofs.lemmas.List.{drop_at, length-append, length-drop, length-map, map-append, take-append-drop, take_more, take_more_set}
use Rattle.qs_wire.specs.Varint.{varint_at, numbers_of, numbers_within, next_number}
use Rattle.qs_wire.specs.Layout.{taken, ack_ranges_of}
use Rattle.qs_wire.specs.Grammar.{AreRanges, NumbersText}
use Rattle.qs_wire.specs.Acks.{AreApartBelow, AreAckPairs}
use Rattle.qs_wire.proofs.Numbers.{IsBytes, IsBytes-drop, parse_found, parse_in_range, varint_again, varint_within}
use Rattle.qs_wire.proofs.Ranges.{numbers_of-next, numbers_of-none}
use Rattle.qs_c.specs.declared.acks.GvRange.{GvRange}
use Rattle.qs_c.specs.Acks.{pair_of, are_apart, RangeOut, RangeStep}
use Rattle.qs_c.specs.Places.{skip_of}
use Rattle.qs_c.proofs.Laid.{skip_more, skip_none, skip_zero, drops}

-- each number that bytes spell has a spelling
below_within : (n : ℕ) (bytes : List ℕ) → IsBytes bytes → AllByRecursion (λ v. v < 2 ^ 62) (numbers_within n bytes)
unfolding numbers_within
below_within zero bytes fits = tt
below_within (suc n) bytes fits = at (λ k. below_within n (drop k bytes) (IsBytes-drop k bytes fits)) (varint_at bytes) refl
  where
    at : ((k : ℕ) → AllByRecursion (λ v. v < 2 ^ 62) (numbers_within n (drop k bytes))) → (o : Option (ℕ × ℕ)) → o ≡ varint_at bytes → AllByRecursion (λ v. v < 2 ^ 62) (next_number bytes (numbers_within n) o)
    at more None e = tt
    at more (Some x) e = (parse_in_range bytes (Some x) fits e, more x.1)

numbers_below : (bytes : List ℕ) → IsBytes bytes → AllByRecursion (λ v. v < 2 ^ 62) (numbers_of bytes)
unfolding numbers_of
numbers_below bytes fits = below_within (length bytes) bytes fits

-- each number takes at least one
few_numbers : (vs : List ℕ) → length vs ≤ taken vs
few_numbers [] = omega arith
few_numbers (v ∷ vs) = omega (arith, few_numbers vs)

pub odd_ranges : (bytes : List ℕ) → IsBytes bytes → taken (numbers_of bytes) ≤ 2 ^ 62 → 0 < length (numbers_of bytes) % 2 → AreRanges (numbers_of bytes)
odd_ranges bytes fits small odd =
    let n : ℕ = length (numbers_of bytes) in
    let few : n ≤ taken (numbers_of bytes) = few_numbers (numbers_of bytes) in
    let is : n ≡ 2 * (n / 2) + 1 = omega (arith, odd) in
    record { below = numbers_below bytes fits; pairs = n / 2; pairs_below = omega (arith, few, small, is); odd = is }

pub not_true : (b : Bool) → not b ≡ true → b ≡ false
not_true true e = absurd cc
not_true false e = refl

-- ---- the bytes of numbers alone

empty : (bytes : List ℕ) → length bytes ≡ 0 → bytes ≡ []
empty [] e = refl
empty (b ∷ bs) e = absurd (omega (arith, e))

-- numbers that take all bytes are these bytes' text
pub whole_text : (n : ℕ) (bytes : List ℕ) → IsBytes bytes → n ≡ length (numbers_of bytes) → skip_of n bytes ≡ length bytes → NumbersText (numbers_of bytes) bytes
whole_text n bytes fits count all = at n bytes fits (varint_at bytes) refl count all
  where
    at : (n : ℕ) (bytes : List ℕ) → IsBytes bytes → (o : Option (ℕ × ℕ)) → o ≡ varint_at bytes → n ≡ length (numbers_of bytes) → skip_of n bytes ≡ length bytes → NumbersText (numbers_of bytes) bytes
    at n bytes fits None e count all =
        let none = numbers_of-none bytes (sym e) in
        let zero_bytes : length bytes ≡ 0 = omega (arith, all, skip_none n bytes (sym e)) in
        subst (λ (vs : List ℕ). NumbersText vs bytes) (sym none) (empty bytes zero_bytes)
    at zero bytes fits (Some x) e count all = absurd (omega (arith, count, ap length (numbers_of-next bytes x (sym e))))
    at (suc n) bytes fits (Some x) e count all =
        let next = numbers_of-next bytes x (sym e) in
        let rest : List ℕ = drop x.1 bytes in
        let more = at n rest (IsBytes-drop x.1 bytes fits) (varint_at rest) refl (omega (arith, count, ap length next)) (omega (arith, all, skip_more n bytes x (sym e), length-drop x.1 bytes, varint_within bytes x (sym e))) in
        subst (λ (vs : List ℕ). NumbersText vs bytes) (sym next) (take x.1 bytes, rest, sym (take-append-drop x.1 bytes), parse_found bytes (Some x) fits e, more)

-- and a text of numbers is taken by these
pub text_whole : (vs bytes : List ℕ) → NumbersText vs bytes → skip_of (length vs) bytes ≡ length bytes
text_whole [] bytes none = omega (arith, skip_zero bytes, ap length none)
text_whole (v ∷ vs) bytes h =
    let at : varint_at bytes ≡ Some (v, length h.0) = ap varint_at h.2 ∙ varint_again v h.0 h.1 h.3 in
    let rest : drop (length h.0) bytes ≡ h.1 = ap (drop (length h.0)) h.2 ∙ drop_at h.0 h.1 (length h.0) refl in
    omega (arith, skip_more (length vs) bytes (v, length h.0) at, ap (skip_of (length vs)) rest, text_whole vs h.1 h.4, ap length h.2, length-append h.0 h.1)

-- ---- ranges as pairs

first_apart : (high : ℕ) (r : GvRange) (rs : List GvRange) → are_apart high (r ∷ rs) ≡ true → (r.smallest ≤ r.largest) × (r.largest + 1 < high) × (are_apart r.smallest rs ≡ true)
first_apart high r rs e =
    let a = and_parts (leb r.smallest r.largest && ltb (r.largest + 1) high) (are_apart r.smallest rs) e in
    let b = and_parts (leb r.smallest r.largest) (ltb (r.largest + 1) high) a.0 in
    (leb-true _ _ b.0, ltb-true _ _ b.1, a.1)

apart_pairs : (high : ℕ) (rs : List GvRange) → are_apart high rs ≡ true → AreApartBelow high (map pair_of rs)
apart_pairs high [] e = tt
apart_pairs high (r ∷ rs) e =
    let h = first_apart high r rs e in
    (h.1, omega (arith, h.0), apart_pairs r.smallest rs h.2)

-- what is written of a range has a spelling
pub apart_at : (high : ℕ) (rs : List GvRange) (i : ℕ) (d : GvRange) → are_apart high rs ≡ true → i < length rs → (get_or rs i d).largest + 1 < high
apart_at high [] i d e lt = absurd (omega arith)
apart_at high (r ∷ rs) zero d e lt = (first_apart high r rs e).1
apart_at high (r ∷ rs) (suc i) d e lt =
    let h = first_apart high r rs e in
    omega (arith, apart_at r.smallest rs i d h.2 (omega arith), h.0, h.1)

pub pairs_more : (rs : List GvRange) (pairs : List (ℕ × ℕ)) (i : ℕ) (d : GvRange) → i < length rs → i < length pairs → take i pairs ≡ map pair_of (take i rs)
    → take (i + 1) (set pairs i (pair_of (get_or rs i d))) ≡ map pair_of (take (i + 1) rs)
pairs_more rs pairs i d lt room so_far =
    take_more_set pairs i (pair_of (get_or rs i d)) room ∙ ap (λ (ps : List (ℕ × ℕ)). ps ++ pair_of (get_or rs i d) ∷ []) so_far
    ∙ sym (ap (map pair_of) (take_more rs i d lt) ∙ map-append pair_of (take i rs) (get_or rs i d ∷ []))

pub ack_pairs_are : (rs : List GvRange) (pairs : List (ℕ × ℕ)) → 0 < length rs → length rs ≤ 32 → are_apart (2 ^ 62 + 1) rs ≡ true → pairs ≡ map pair_of rs → AreAckPairs pairs
ack_pairs_are rs pairs some few apart is =
    let len : length pairs ≡ length rs = ap length is ∙ length-map rs pair_of in
    record {
      some = omega (arith, len);
      few = omega (arith, len);
      apart = subst (AreApartBelow (2 ^ 62 + 1)) (sym is) (apart_pairs (2 ^ 62 + 1) rs apart);
    }

-- ---- the ranges that bytes spell

tails : (p q : ℕ × ℕ) (ps qs : List (ℕ × ℕ)) → p ∷ ps ≡ q ∷ qs → qs ≡ ps
tails p q ps qs e = cc

left_two : (largest : ℕ) (bytes : List ℕ) (a r : ℕ × ℕ) (rest : List (ℕ × ℕ)) (o : Option (ℕ × ℕ)) → varint_at bytes ≡ Some a → varint_at (drop a.1 bytes) ≡ o → ack_ranges_of largest (numbers_of bytes) ≡ r ∷ rest
    → (next : ℕ) × (next ≤ largest) × (rest ≡ ack_ranges_of next (numbers_of (drop (skip_of 2 bytes) bytes)))
left_two largest bytes a r rest None e f is =
    let ns : numbers_of bytes ≡ a.0 ∷ [] = numbers_of-next bytes a e ∙ ap (λ (t : List ℕ). a.0 ∷ t) (numbers_of-none (drop a.1 bytes) f) in
    let empty = tails (largest - a.0, largest) r [] rest (sym (ap (ack_ranges_of largest) ns) ∙ is) in
    let used : skip_of 2 bytes ≡ a.1 = omega (arith, skip_more 1 bytes a e, skip_none 1 (drop a.1 bytes) f) in
    (0, omega arith, empty ∙ sym (ap (ack_ranges_of 0) (ap (λ (k : ℕ). numbers_of (drop k bytes)) used ∙ numbers_of-none (drop a.1 bytes) f)))
left_two largest bytes a r rest (Some b) e f is =
    let after : List ℕ = drop b.1 (drop a.1 bytes) in
    let ns : numbers_of bytes ≡ a.0 ∷ b.0 ∷ numbers_of after = numbers_of-next bytes a e ∙ ap (λ (t : List ℕ). a.0 ∷ t) (numbers_of-next (drop a.1 bytes) b f) in
    let next : ℕ = (largest - a.0) - (b.0 + 2) in
    let left = tails (largest - a.0, largest) r (ack_ranges_of next (numbers_of after)) rest (sym (ap (ack_ranges_of largest) ns) ∙ is) in
    let used : skip_of 2 bytes ≡ a.1 + b.1 = omega (arith, skip_more 1 bytes a e, skip_more 0 (drop a.1 bytes) b f, skip_zero after) in
    (next, omega arith, left ∙ ap (λ (t : List ℕ). ack_ranges_of next (numbers_of t)) (drops a.1 b.1 bytes ∙ ap (λ (k : ℕ). drop k bytes) (sym used)))

left_is : (largest : ℕ) (bytes : List ℕ) (r : ℕ × ℕ) (rest : List (ℕ × ℕ)) (o : Option (ℕ × ℕ)) → varint_at bytes ≡ o → ack_ranges_of largest (numbers_of bytes) ≡ r ∷ rest
    → (next : ℕ) × (next ≤ largest) × (rest ≡ ack_ranges_of next (numbers_of (drop (skip_of 2 bytes) bytes)))
left_is largest bytes r rest None e is = let empty : [] ≡ r ∷ rest = sym (ap (ack_ranges_of largest) (numbers_of-none bytes e)) ∙ is in absurd cc
left_is largest bytes r rest (Some a) e is = left_two largest bytes a r rest (varint_at (drop a.1 bytes)) e refl is

below_is : (next x below : ℕ) (more : List (ℕ × ℕ)) (ns : List ℕ) → (x, below) ∷ more ≡ ack_ranges_of next ns → below ≡ next
below_is next x below more [] e = absurd cc
below_is next x below more (v ∷ []) e = let first : (x, below) ≡ (next - v, next) = cc in ap (λ (p : ℕ × ℕ). p.1) first
below_is next x below more (v ∷ g ∷ vs) e = let first : (x, below) ≡ (next - v, next) = cc in ap (λ (p : ℕ × ℕ). p.1) first

none_is : (next below : ℕ) (ns : List ℕ) → [] ≡ ack_ranges_of next ns → [] ≡ ack_ranges_of below ns
none_is next below [] e = refl
none_is next below (v ∷ []) e = absurd cc
none_is next below (v ∷ g ∷ vs) e = absurd cc

pub more_ranges : (largest : ℕ) (bytes : List ℕ) (r : ℕ × ℕ) (rest : List (ℕ × ℕ)) (x below : ℕ) (more : List (ℕ × ℕ)) → ack_ranges_of largest (numbers_of bytes) ≡ r ∷ rest → rest ≡ (x, below) ∷ more
    → (below ≤ largest) × (ack_ranges_of largest (numbers_of bytes) ≡ r ∷ ack_ranges_of below (numbers_of (drop (skip_of 2 bytes) bytes)))
more_ranges largest bytes r rest x below more is next =
    let l = left_is largest bytes r rest (varint_at bytes) refl is in
    let same = below_is l.0 x below more _ (sym next ∙ l.2) in
    (omega (arith, same, l.1), is ∙ ap (λ (t : List (ℕ × ℕ)). r ∷ t) (l.2 ∙ ap (λ (k : ℕ). ack_ranges_of k (numbers_of (drop (skip_of 2 bytes) bytes))) (sym same)))

pub last_range : (largest : ℕ) (bytes : List ℕ) (r : ℕ × ℕ) (rest : List (ℕ × ℕ)) → ack_ranges_of largest (numbers_of bytes) ≡ r ∷ rest → rest ≡ []
    → ack_ranges_of largest (numbers_of bytes) ≡ r ∷ ack_ranges_of 0 (numbers_of (drop (skip_of 2 bytes) bytes))
last_range largest bytes r rest is none =
    let l = left_is largest bytes r rest (varint_at bytes) refl is in
    is ∙ ap (λ (t : List (ℕ × ℕ)). r ∷ t) (none ∙ none_is l.0 0 _ (sym none ∙ l.2))

-- the first of the ranges is told, and those behind it are left
pub first_told : (ranges : List (ℕ × ℕ)) (r : ℕ × ℕ) (bytes : List ℕ) (old new : RangeOut) (used : ℕ) → ranges ≡ r ∷ ack_ranges_of new.largest (numbers_of (drop used bytes)) → new.range ≡ record { smallest = r.0; largest = r.1 }
    → new.used ≡ used → new.used ≤ length bytes → new.largest ≤ old.largest → RangeStep ranges bytes 0 old new
first_told ranges r bytes old new used is range all within below =
    subst (λ (t : List (ℕ × ℕ)). RangeStep t bytes 0 old new) (sym is) (refl, range, within, below, ap (λ (k : ℕ). ack_ranges_of new.largest (numbers_of (drop k bytes))) all)
