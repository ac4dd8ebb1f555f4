-- The bytes of a ring.
--     around_part      those from one on, so many or all
--     around_first     fewer of them
--     around_front     those at its front
--     written_..       new ones behind them, written in one piece and in two
use Rattle.std.proofs.lemmas.Grind.{common_steps}
use Rattle.std.proofs.Common.{◌≡◌, ℕ, ◌≤◌, false, true, List, length, sym, ◌∙◌, ap, arith, inl, inr, length-drop, Bool, ◌||◌, Option, is_some}
use Rattle.std.specs.Prelude.{◌+◌, ◌-◌, ◌<◌, ◌++◌, take, drop, slice_index, if◌then◌else◌}
use Rattle.std.proofs.lemmas.List.{length-take, length-append, get_or-take, get_or-drop, get_or_append_left, get_or-append_right, ext_get_or, append_assoc, take-append-le, take-take, take_at, take_rest}
use Rattle.std.proofs.Math.Seq.{take-append-add}
use Rattle.std.proofs.lemmas.Bool.{cases_lt}
use Rattle.std.proofs.lemmas.Bool.Decides.{nat_tests}
use Rattle.qs_ranges.specs.Numbers.{is_within}
use Rattle.qs_send.specs.KeptBytes.{around, place_in, IsFreed}
use Rattle.qs_send.specs.declared.parts.Reset.{Reset}
use Rattle.qs_send.specs.Lane.{Sending}
use Rattle.qs_send.specs.Sound.{IsLawful}

-- how many there are
pub around_len : (s n : ℕ) (ring : List ℕ) → n ≤ length ring → length (around s n ring) ≡ n
around_len s n ring h = simp (length-take, length-append, length-drop) (omega (arith, h))

-- where each stands
around_at : (s n k : ℕ) (ring : List ℕ) → s ≤ length ring → n ≤ length ring → k < n → slice_index (around s n ring) k ≡ slice_index ring (place_in (length ring) (s + k))
around_at s n k ring begins fits below = grind (arith, nat_tests, get_or-take, get_or_append_left, length-drop, get_or-drop, get_or-append_right)

pub around_part : (s n from len : ℕ) (ring : List ℕ) → s ≤ length ring → n ≤ length ring → from + len ≤ n → around (place_in (length ring) (s + from)) len ring ≡ take len (drop from (around s n ring))
around_part s n from len ring begins fits within =
    let start = place_in (length ring) (s + from) in
    let start_in : start ≤ length ring = grind (arith, nat_tests, fits) in
    let len_in : len ≤ length ring = omega (arith, fits, within) in
    let size : length (around start len ring) ≡ length (take len (drop from (around s n ring))) = grind (arith, nat_tests, length-take, length-drop, length-append) in
    ext_get_or 0 _ _ size (λ i low.
    let below : i < len = omega (arith, low, around_len start len ring len_in) in
    let same : place_in (length ring) (start + i) ≡ place_in (length ring) (s + (from + i)) = grind (arith, nat_tests, begins, fits, within, below) in
    around_at start len i ring start_in len_in below ∙ ap (slice_index ring) same
    ∙ sym (get_or-take len (drop from (around s n ring)) i 0 below ∙ get_or-drop from (around s n ring) i 0 ∙ around_at s n (from + i) ring begins fits (omega (arith, within, below))))

-- the same over what a call looks at
pub part_is : (s n from len size start : ℕ) (ring slice out : List ℕ) → slice ≡ ring → size ≡ length ring → start ≡ place_in size (s + from) → s ≤ length ring → n ≤ length ring
    → from + len ≤ length (around s n ring) → out ≡ around start len slice → out ≡ take len (drop from (around s n ring))
part_is s n from len size start ring slice out same whole at begins fits within is = grind (arith, nat_tests, around_len, around_part)

pub around_rest : (s n from : ℕ) (ring : List ℕ) → s ≤ length ring → n ≤ length ring → from ≤ n → around (place_in (length ring) (s + from)) (n - from) ring ≡ drop from (around s n ring)
around_rest s n from ring begins fits within = grind (arith, common_steps, around_part, take_rest)

pub around_first : (s n k : ℕ) (ring : List ℕ) → k ≤ n → around s k ring ≡ take k (around s n ring)
around_first s n k ring h = sym (take-take k n (drop s ring ++ ring) h)

-- those from the front on
pub at_front : (n : ℕ) (ring : List ℕ) → n ≤ length ring → around 0 n ring ≡ take n ring
at_front n ring h = take-append-le n ring ring h

pub around_front : (xs rest ring : List ℕ) (n : ℕ) → ring ≡ xs ++ rest → length xs ≡ n → around 0 n ring ≡ xs
around_front xs rest ring n is len = ap (λ r. take n (r ++ ring)) is ∙ ap (take n) (append_assoc xs rest ring) ∙ take_at xs (rest ++ ring) n len

pub pieces_once : (s n : ℕ) (ring : List ℕ) → s ≤ length ring → n ≤ length ring - s → take n (drop s ring) ≡ around s n ring
pieces_once s n ring begins fits = sym (take-append-le n (drop s ring) ring (simp length-drop fits))

pub pieces_twice : (s n : ℕ) (ring : List ℕ) → s ≤ length ring → length ring - s < n → drop s ring ++ take (n - (length ring - s)) ring ≡ around s n ring
pieces_twice s n ring begins more =
    let e : n ≡ length (drop s ring) + (n - (length ring - s)) = simp length-drop (omega (arith, more)) in
    sym (ap (λ m. take m (drop s ring ++ ring)) e ∙ take-append-add (drop s ring) ring (n - (length ring - s)))

-- all of them at the front of another ring, and new ones behind them
pub moved_is : (s n : ℕ) (ring slice pieces bytes items : List ℕ) → slice ≡ ring → n ≤ length ring → pieces ≡ around s n slice → around 0 (length pieces + length bytes) items ≡ pieces ++ bytes
    → around 0 (n + length bytes) items ≡ around s n ring ++ bytes
moved_is s n ring slice pieces bytes items same fits is moved = grind (arith, nat_tests, around_len)

-- what is written behind them stands behind them
behind : (s n : ℕ) (ring new bytes : List ℕ) → s ≤ length ring → n + length bytes ≤ length ring → length new ≡ length ring
    → ((i : ℕ) → i < n → slice_index new (place_in (length ring) (s + i)) ≡ slice_index ring (place_in (length ring) (s + i)))
    → ((k : ℕ) → k < length bytes → slice_index new (place_in (length ring) (s + (n + k))) ≡ slice_index bytes k)
    → around s (n + length bytes) new ≡ around s n ring ++ bytes
behind s n ring new bytes begins fits same stays is_new =
    let m = length bytes in
    let n_in : n ≤ length ring = omega (arith, fits) in
    let new_in : n + m ≤ length new = omega (arith, fits, same) in
    let old_len : length (around s n ring) ≡ n = around_len s n ring n_in in
    let size : length (around s (n + m) new) ≡ length (around s n ring ++ bytes) = grind (arith, nat_tests, around_len, length-append) in
    ext_get_or 0 _ _ size (λ i low.
    let below : i < n + m = omega (arith, low, around_len s (n + m) new new_in) in
    around_at s (n + m) i new (omega (arith, begins, same)) new_in below ∙ ap (λ w. slice_index new (place_in w (s + i))) same ∙ elim (cases_lt i n) [
      | inl first ↦ stays i first ∙ sym (get_or_append_left (around s n ring) bytes 0 i (omega (arith, first, old_len)) ∙ around_at s n i ring begins n_in first)
      | inr later ↦
          let e : i ≡ n + (i - n) = omega (arith, later) in
          ap (λ j. slice_index new (place_in (length ring) (s + j))) e ∙ is_new (i - n) (omega (arith, later, below)) ∙ sym (get_or-append_right (around s n ring) bytes n i 0 old_len later)
    ])

pub written_once : (s n at : ℕ) (ring new bytes : List ℕ) → s ≤ length ring → n + length bytes ≤ length ring → at ≡ place_in (length ring) (s + n) → length bytes ≤ length ring - at → length new ≡ length ring
    → ((k : ℕ) → slice_index new k ≡ (if is_within at (at + length bytes) k then slice_index bytes (k - at) else slice_index ring k))
    → around s (n + length bytes) new ≡ around s n ring ++ bytes
written_once s n at ring new bytes begins fits at_is room same is = grind (arith, nat_tests, behind)

pub written_twice : (s n at room : ℕ) (ring mid new bytes front back : List ℕ) → s ≤ length ring → n + length bytes ≤ length ring → at ≡ place_in (length ring) (s + n) → room ≡ length ring - at → room < length bytes
    → front ≡ take room bytes → back ≡ drop room bytes → length front ≡ room → length back + room ≡ length bytes → length new ≡ length ring
    → ((k : ℕ) → slice_index mid k ≡ (if is_within at (at + length front) k then slice_index front (k - at) else slice_index ring k))
    → ((k : ℕ) → slice_index new k ≡ (if is_within 0 (0 + length back) k then slice_index back (k - 0) else slice_index mid k))
    → around s (n + length bytes) new ≡ around s n ring ++ bytes
written_twice s n at room ring mid new bytes front back begins fits at_is rest more front_is back_is front_len back_len same mid_is new_is =
    let w = length ring in
    let m = length bytes in
    behind s n ring new bytes begins fits same
    (λ i first.
    let p = place_in w (s + i) in
    let a : is_within 0 (0 + length back) p ≡ false = off_back at s n i w m room (length back) begins fits at_is rest more back_len first in
    let b : is_within at (at + length front) p ≡ false = off_front at s n i w m room (length front) begins fits at_is rest more front_len first in
    new_is p ∙ ap (λ t. if t then slice_index back (p - 0) else slice_index mid p) a
    ∙ mid_is p ∙ ap (λ t. if t then slice_index front (p - at) else slice_index ring p) b)
    (λ k low. elim (cases_lt k room) [
      | inl first ↦
          let here : place_in w (s + (n + k)) ≡ at + k = on_front at s n k w m room begins fits at_is rest more first in
          let a : is_within 0 (0 + length back) (at + k) ≡ false = past_back at s n k w m room (length back) begins fits at_is rest more back_len in
          let b : is_within at (at + length front) (at + k) ≡ true = grind (arith, nat_tests, first) in
          let e : at + k - at ≡ k = omega arith in
          ap (slice_index new) here ∙ new_is (at + k) ∙ ap (λ t. if t then slice_index back (at + k - 0) else slice_index mid (at + k)) a
          ∙ mid_is (at + k) ∙ ap (λ t. if t then slice_index front (at + k - at) else slice_index ring (at + k)) b
          ∙ ap (slice_index front) e ∙ ap (λ xs. slice_index xs k) front_is ∙ get_or-take room bytes k 0 first
      | inr later ↦
          let here : place_in w (s + (n + k)) ≡ k - room = on_back at s n k w m room begins fits at_is rest more later low in
          let a : is_within 0 (0 + length back) (k - room) ≡ true = grind (arith, nat_tests, low) in
          let e : room + (k - room) ≡ k = omega (arith, later) in
          ap (slice_index new) here ∙ new_is (k - room) ∙ ap (λ t. if t then slice_index back (k - room - 0) else slice_index mid (k - room)) a
          ∙ ap (slice_index back) (let z : k - room - 0 ≡ k - room = omega arith in z) ∙ ap (λ xs. slice_index xs (k - room)) back_is ∙ get_or-drop room bytes (k - room) 0 ∙ ap (slice_index bytes) e
    ])
  where
    off_back : (at s n i w m room b : ℕ) → s ≤ w → n + m ≤ w → at ≡ place_in w (s + n) → room ≡ w - at → room < m → b + room ≡ m → i < n → is_within 0 (0 + b) (place_in w (s + i)) ≡ false
    off_back at s n i w m room b begins fits at_is rest more back_len first = grind (arith, nat_tests)

    off_front : (at s n i w m room f : ℕ) → s ≤ w → n + m ≤ w → at ≡ place_in w (s + n) → room ≡ w - at → room < m → f ≡ room → i < n → is_within at (at + f) (place_in w (s + i)) ≡ false
    off_front at s n i w m room f begins fits at_is rest more front_len first = grind (arith, nat_tests)

    on_front : (at s n k w m room : ℕ) → s ≤ w → n + m ≤ w → at ≡ place_in w (s + n) → room ≡ w - at → room < m → k < room → place_in w (s + (n + k)) ≡ at + k
    on_front at s n k w m room begins fits at_is rest more first = grind (arith, nat_tests)

    past_back : (at s n k w m room b : ℕ) → s ≤ w → n + m ≤ w → at ≡ place_in w (s + n) → room ≡ w - at → room < m → b + room ≡ m → is_within 0 (0 + b) (at + k) ≡ false
    past_back at s n k w m room b begins fits at_is rest more back_len = grind (arith, nat_tests)

    on_back : (at s n k w m room : ℕ) → s ≤ w → n + m ≤ w → at ≡ place_in w (s + n) → room ≡ w - at → room < m → room ≤ k → k < m → place_in w (s + (n + k)) ≡ k - room
    on_back at s n k w m room begins fits at_is rest more later low = grind (arith, nat_tests)

-- ---- When the buffer of a half takes no memory.

-- a half that takes bytes may hold any room
pub freed_open : (s : Sending) (r : Option Reset) (kept : List ℕ) (room : ℕ) → IsLawful s → is_some r ≡ false → s.lane.finished ≡ false → IsFreed r s.lane.fin_acked kept room
freed_open s r kept room h open_half not_yet = grind (arith, nat_tests)

-- what is acknowledged takes no room where none was taken, and gives it back where it is all
pub freed_acked : (r : Option Reset) (a f : Bool) (kept more : List ℕ) (room least : ℕ) → IsFreed r a more room → least ≤ room → ((a || f) ≡ true → length kept ≡ 0 → least ≡ 0) → IsFreed r (a || f) kept least
freed_acked r a f kept more room least h le over = record { reset = λ is. let none = h.reset is in omega (arith, le, none); whole = over }
