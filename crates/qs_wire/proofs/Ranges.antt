-- The numbers of an ACK, one after the other.
use Rattle.std.proofs.lemmas.Bool.Decides.{nat_tests}
use Rattle.std.proofs.Common.{◌≡◌, ℕ, zero, suc, ◌+◌, ◌-◌, ◌<◌, ◌≤◌, List, [], ◌∷◌, ◌++◌, length, take, drop, Option, Some, None, Result, Ok, Err, eqb, ltb, refl, sym, ap, ◌∙◌, append_assoc, arith}
use Rattle.std.specs.List.{flat_map}
use Rattle.std.proofs.lemmas.List.{append-nil, length-append, length-drop, take_at, drop_at}
use Rattle.std.proofs.lemmas.List.Concat.{flat_map-cons}
use Rattle.qs_wire.specs.declared.fault.FaultKind.{FaultKind}
use Rattle.qs_wire.specs.Varint.{short, varint_at, next_number, numbers_within, numbers_of}
use Rattle.qs_wire.specs.Layout.{taken, ack_ranges_of}
use Rattle.qs_wire.specs.Grammar.{NumbersText}
use Rattle.qs_wire.specs.Reading.{◌>>=◌, number_at, numbers_at}
use Rattle.qs_wire.proofs.Numbers.{IsBytes, varint_within, varint_again}
use Rattle.qs_wire.proofs.FieldLaws.{numbers_take}

-- the bound on how many does not matter
numbers_within-enough : (n m : ℕ) (bytes : List ℕ) → length bytes ≤ n → length bytes ≤ m → numbers_within n bytes ≡ numbers_within m bytes
unfolding numbers_within
numbers_within-enough zero zero bytes hn hm = refl
numbers_within-enough zero (suc m) bytes hn hm = at (varint_at bytes) refl
  where
    at : (o : Option (ℕ × ℕ)) → varint_at bytes ≡ o → [] ≡ next_number bytes (numbers_within m) o
    at None e = refl
    at (Some x) e = absurd (omega (arith, varint_within bytes x e))
numbers_within-enough (suc n) zero bytes hn hm = at (varint_at bytes) refl
  where
    at : (o : Option (ℕ × ℕ)) → varint_at bytes ≡ o → next_number bytes (numbers_within n) o ≡ []
    at None e = refl
    at (Some x) e = absurd (omega (arith, varint_within bytes x e))
numbers_within-enough (suc n) (suc m) bytes hn hm = at (varint_at bytes) refl (λ x h k. numbers_within-enough n m (drop x.1 bytes) h k)
  where
    at : (o : Option (ℕ × ℕ)) → varint_at bytes ≡ o
        → ((x : ℕ × ℕ) → length (drop x.1 bytes) ≤ n → length (drop x.1 bytes) ≤ m → numbers_within n (drop x.1 bytes) ≡ numbers_within m (drop x.1 bytes))
        → next_number bytes (numbers_within n) o ≡ next_number bytes (numbers_within m) o
    at None e more = refl
    at (Some x) e more =
        let w = varint_within bytes x e in
        ap (λ (vs : List ℕ). x.0 ∷ vs) (more x (omega (arith, w, length-drop x.1 bytes)) (omega (arith, w, length-drop x.1 bytes)))

pub numbers_of-next : (bytes : List ℕ) (x : ℕ × ℕ) → varint_at bytes ≡ Some x → numbers_of bytes ≡ x.0 ∷ numbers_of (drop x.1 bytes)
unfolding numbers_of numbers_within
numbers_of-next bytes x e = grind (arith, nat_tests, varint_within, length-drop, numbers_within-enough)

pub numbers_of-none : (bytes : List ℕ) → varint_at bytes ≡ None → numbers_of bytes ≡ []
unfolding numbers_of numbers_within
numbers_of-none [] e = refl
numbers_of-none (b ∷ bs) e = ap (next_number (b ∷ bs) (numbers_within (length bs))) e

numbers_of-text : (vs text : List ℕ) → NumbersText vs text → numbers_of text ≡ vs
unfolding numbers_of numbers_within
numbers_of-text [] text h = ap numbers_of h
numbers_of-text (v ∷ vs) text h =
    let at : varint_at text ≡ Some (v, length h.0) = ap varint_at h.2 ∙ varint_again v h.0 h.1 h.3 in
    let rest : drop (length h.0) text ≡ h.1 = ap (drop (length h.0)) h.2 ∙ drop_at h.0 h.1 (length h.0) refl in
    numbers_of-next text (v, length h.0) at ∙ ap (λ (t : List ℕ). v ∷ numbers_of t) rest ∙ ap (λ (ws : List ℕ). v ∷ ws) (numbers_of-text vs h.1 h.4)

-- the numbers that were skipped are those of the bytes that were skipped
pub skipped : (n : ℕ) (bytes vs after : List ℕ) → IsBytes bytes → numbers_at n bytes ≡ Ok (vs, after) → numbers_of (take (length bytes - length after) bytes) ≡ vs
skipped n bytes vs after fits e =
    let t = numbers_take n bytes (vs, after) fits e in
    let len : length bytes - length after ≡ length t.text = omega (arith, ap length t.parts, length-append t.text after) in
    let front : take (length bytes - length after) bytes ≡ t.text = ap (λ (k : ℕ). take k bytes) len ∙ ap (take (length t.text)) t.parts ∙ take_at t.text after (length t.text) refl in
    ap numbers_of front ∙ numbers_of-text vs t.text t.spelled

-- ---- skipping numbers, as a loop does

abbrev pub with_front : List ℕ → Result (List ℕ × List ℕ) FaultKind → Result (List ℕ × List ℕ) FaultKind
with_front front read = read >>= λ x. Ok (front ++ x.0, x.1)

-- no number yet
pub none_yet : (count : ℕ) (bytes : List ℕ) → with_front [] (numbers_at (count - 0) bytes) ≡ numbers_at count bytes
none_yet count bytes = grind (arith, nat_tests)

regroup : (front : List ℕ) (v : ℕ) (read : Result (List ℕ × List ℕ) FaultKind) → with_front front (read >>= λ x. Ok (v ∷ x.0, x.1)) ≡ with_front (front ++ v ∷ []) read
regroup front v (Ok x) = ap (λ (vs : List ℕ). Ok (vs, x.1)) (simp append_assoc)
regroup front v (Err k) = refl

pub goes_on : (front : List ℕ) (count i : ℕ) (bytes : List ℕ) (v : ℕ) (after : List ℕ) (total : Result (List ℕ × List ℕ) FaultKind) → i < count → number_at bytes ≡ Ok (v, after)
    → with_front front (numbers_at (count - i) bytes) ≡ total → with_front (front ++ v ∷ []) (numbers_at (count - (i + 1)) after) ≡ total
unfolding numbers_at
goes_on front count i bytes v after total lt h so_far =
    let k : count - i ≡ suc (count - (i + 1)) = omega arith in
    let one : with_front front (numbers_at (count - i) bytes) ≡ with_front (front ++ v ∷ []) (numbers_at (count - (i + 1)) after) = rw (k, h) (regroup front v (numbers_at (count - (i + 1)) after)) in
    sym one ∙ so_far

pub ends : (e : FaultKind) (front : List ℕ) (count i : ℕ) (bytes : List ℕ) (total : Result (List ℕ × List ℕ) FaultKind) → i < count → number_at bytes ≡ Err e
    → with_front front (numbers_at (count - i) bytes) ≡ total → total ≡ Err e
unfolding numbers_at
ends e front count i bytes total lt h so_far = grind (arith, nat_tests)

pub is_done : (front : List ℕ) (count i : ℕ) (bytes : List ℕ) (total : Result (List ℕ × List ℕ) FaultKind) → count ≤ i → with_front front (numbers_at (count - i) bytes) ≡ total → total ≡ Ok (front, bytes)
unfolding numbers_at
is_done front count i bytes total le so_far = grind (arith, nat_tests, append-nil)

-- ---- what ranges take from the largest number

-- one number more
pub taken_more : (vs : List ℕ) (v : ℕ) → taken (vs ++ v ∷ []) ≡ taken vs + (v + 1)
taken_more [] v = omega arith
taken_more (w ∷ vs) v = omega (arith, taken_more vs v)

-- nothing is left of the limit where the ranges fall below zero
pub falls_is : (largest left : ℕ) (vs ws : List ℕ) → left ≡ (largest + 2) - taken vs → ws ≡ vs → eqb left 0 ≡ ltb (largest + 1) (taken ws)
falls_is largest left vs ws is same = grind (arith, nat_tests)

pub none_from_default : {A : Type 0} (o p : Option A) → p ≡ o → ((x : A) → p ≡ Some x → ⊥) → o ≡ None
none_from_default None p e h = refl
none_from_default (Some x) p e h = absurd (h x e)

-- ---- the shortest spellings of the numbers that the bytes spell

pub count_next : (bytes : List ℕ) (x : ℕ × ℕ) → varint_at bytes ≡ Some x → length (numbers_of bytes) ≡ length (numbers_of (drop x.1 bytes)) + 1
count_next bytes x e = omega (arith, ap length (numbers_of-next bytes x e))

pub count_none : (bytes : List ℕ) → varint_at bytes ≡ None → length (numbers_of bytes) ≡ 0
count_none bytes e = ap length (numbers_of-none bytes e)

pub shortest_next : (bytes : List ℕ) (x : ℕ × ℕ) → varint_at bytes ≡ Some x → flat_map short (numbers_of bytes) ≡ short x.0 ++ flat_map short (numbers_of (drop x.1 bytes))
shortest_next bytes x e = ap (flat_map short) (numbers_of-next bytes x e) ∙ flat_map-cons short x.0 (numbers_of (drop x.1 bytes))

pub shortest_none : (bytes : List ℕ) → varint_at bytes ≡ None → flat_map short (numbers_of bytes) ≡ []
shortest_none bytes e = ap (flat_map short) (numbers_of-none bytes e)

pub shortest_len : (bytes : List ℕ) (x : ℕ × ℕ) → varint_at bytes ≡ Some x → length (flat_map short (numbers_of bytes)) ≡ length (short x.0) + length (flat_map short (numbers_of (drop x.1 bytes)))
shortest_len bytes x e = ap length (shortest_next bytes x e) ∙ length-append (short x.0) (flat_map short (numbers_of (drop x.1 bytes)))

-- ---- the ranges that the numbers name, one after the other

pub ranges_none : (largest : ℕ) (rest : List ℕ) → varint_at rest ≡ None → ack_ranges_of largest (numbers_of rest) ≡ []
ranges_none largest rest e = ap (ack_ranges_of largest) (numbers_of-none rest e)

pub ranges_last : (largest s : ℕ) (rest : List ℕ) (x : ℕ × ℕ) (after : List ℕ) → s ≡ largest - x.0 → varint_at rest ≡ Some x → after ≡ drop x.1 rest → varint_at after ≡ None
    → ack_ranges_of largest (numbers_of rest) ≡ (s, largest) ∷ ack_ranges_of largest (numbers_of after)
ranges_last largest s rest x after first e is ends = grind (arith, nat_tests, numbers_of-none, numbers_of-next)

pub ranges_more : (largest s next : ℕ) (rest : List ℕ) (x : ℕ × ℕ) (after : List ℕ) (y : ℕ × ℕ) (last : List ℕ) → s ≡ largest - x.0 → next ≡ s - (y.0 + 2)
    → varint_at rest ≡ Some x → after ≡ drop x.1 rest → varint_at after ≡ Some y → last ≡ drop y.1 after
    → ack_ranges_of largest (numbers_of rest) ≡ (s, largest) ∷ ack_ranges_of next (numbers_of last)
ranges_more largest s next rest x after y last first second e is f ends =
    let others : numbers_of after ≡ y.0 ∷ numbers_of last = numbers_of-next after y f ∙ ap (λ (t : List ℕ). y.0 ∷ numbers_of t) (sym ends) in
    let all : numbers_of rest ≡ x.0 ∷ y.0 ∷ numbers_of last = numbers_of-next rest x e ∙ ap (λ (t : List ℕ). x.0 ∷ numbers_of t) (sym is) ∙ ap (λ (vs : List ℕ). x.0 ∷ vs) others in
    ap (ack_ranges_of largest) all ∙ ap (λ (low : ℕ). (low, largest) ∷ ack_ranges_of (low - (y.0 + 2)) (numbers_of last)) (sym first)
    ∙ ap (λ (top : ℕ). (s, largest) ∷ ack_ranges_of top (numbers_of last)) (sym second)
