-- Several reads, one after the other, are one.
use Rattle.std.specs.Prelude.{◌≡◌, ℕ, ◌+◌, ◌-◌, ◌≤◌, zero, suc, List, ◌++◌, length, take, drop, cond, None, refl}
use Rattle.std.proofs.Common.{sym, ◌∙◌, ap, arith, inl, inr, length-append, length-drop}
use Rattle.std.proofs.lemmas.List.{length-take}
use Rattle.std.proofs.lemmas.Bool.{cases_lt, le-leb, lt-leb}
use Rattle.std.specs.Ordering.{nat_cmp}
use Rattle.std.specs.Cmp.{nat_cmp_total}
use Rattle.std.specs.FinMap as map
use Rattle.std.specs.FinMap.{nat_cmp-IsAntisymmetric, same_map}
use Rattle.qs_recv.specs.Assembled.{Assembled, front, front_from, front_of, keep_from}
use Rattle.qs_recv.specs.Bytes.{take_exactly}
use Rattle.qs_recv.proofs.RingLaws.{get-keep_from, append_nil, front-more, front_none, front_zero}

pub front-keep_from : (m : map.FinMap nat_cmp ℕ) (low at b : ℕ) → low ≤ at → front (keep_from m low) at b ≡ front m at b
unfolding front
front-keep_from m low at zero h = refl
front-keep_from m low at (suc b) h =
    ap (λ o. front_from o (front (keep_from m low) (at + 1) b)) (get-keep_from m low at ∙ ap (λ t. cond t (map.get m at) None) (le-leb low at h))
    ∙ ap (λ bs. front_from (map.get m at) bs) (front-keep_from m low (at + 1) b (omega arith))

pub keep_from-keep_from : (m : map.FinMap nat_cmp ℕ) (low at : ℕ) → low ≤ at → keep_from (keep_from m low) at ≡ keep_from m at
keep_from-keep_from m low at h =
    same_map nat_cmp_total nat_cmp-IsAntisymmetric _ _ (λ q.
    get-keep_from (keep_from m low) at q
    ∙ elim (cases_lt q at) [
      | inl below ↦ ap (λ t. cond t (map.get (keep_from m low) q) None) (lt-leb at q below) ∙ sym (get-keep_from m at q ∙ ap (λ t. cond t (map.get m q) None) (lt-leb at q below))
      | inr past ↦
          ap (λ t. cond t (map.get (keep_from m low) q) None) (le-leb at q past)
          ∙ get-keep_from m low q ∙ ap (λ t. cond t (map.get m q) None) (le-leb low q (omega arith))
          ∙ sym (get-keep_from m at q ∙ ap (λ t. cond t (map.get m q) None) (le-leb at q past))
    ])

-- the front where a read stopped
pub front_later : (a b : Assembled) (d k : ℕ) → b ≡ take_exactly a d → front b.stored b.read_count k ≡ front a.stored (a.read_count + d) k
front_later a b d k state = ap (λ x. front x.stored x.read_count k) state ∙ front-keep_from a.stored (a.read_count + d) (a.read_count + d) k (omega arith)

pub front_joined : (a b : Assembled) (d k : ℕ) → length (front_of a d) ≡ d → b ≡ take_exactly a d → front_of a (d + k) ≡ front_of a d ++ front b.stored b.read_count k
front_joined a b d k full state = front-more a.stored d a.read_count k full ∙ ap (λ xs. front_of a d ++ xs) (sym (front_later a b d k state))

pub full_after : (a b : Assembled) (d k : ℕ) → length (front_of a d) ≡ d → b ≡ take_exactly a d → length (front b.stored b.read_count k) ≡ k → length (front_of a (d + k)) ≡ d + k
full_after a b d k full state count =
    let e : length (front_of a d ++ front b.stored b.read_count k) ≡ length (front_of a d) + length (front b.stored b.read_count k) = length-append (front_of a d) (front b.stored b.read_count k) in
    ap length (front_joined a b d k full state) ∙ (omega arith)

pub taken_after : (a b : Assembled) (d k : ℕ) → b ≡ take_exactly a d → take_exactly b k ≡ take_exactly a (d + k)
taken_after a b d k state =
    let e : a.read_count + d + k ≡ a.read_count + (d + k) = omega arith in
    ap (λ x. take_exactly x k) state
    ∙ ap (λ m. record a { stored = m; read_count = a.read_count + d + k }) (keep_from-keep_from a.stored (a.read_count + d) (a.read_count + d + k) (omega arith))
    ∙ ap (λ n. record a { stored = keep_from a.stored n; read_count = n }) e

-- where nothing is next, the read is done
pub front_done : (a b : Assembled) (d n : ℕ) → d ≤ n → length (front_of a d) ≡ d → b ≡ take_exactly a d → map.get b.stored b.read_count ≡ None → front_of a n ≡ front_of a d
front_done a b d n h full state none =
    let e : n ≡ d + (n - d) = omega arith in
    ap (front_of a) e ∙ front_joined a b d (n - d) full state ∙ ap (λ xs. front_of a d ++ xs) (front_none b.stored b.read_count (n - d) none) ∙ append_nil (front_of a d)

-- nothing is written where nothing was next
pub none_written : (xs into0 : List ℕ) (m : map.FinMap nat_cmp ℕ) (at d k : ℕ) → k ≡ 0 → xs ++ front m at k ++ drop (d + k) into0 ≡ xs ++ drop d into0
none_written xs into0 m at d k is =
    let e : d + 0 ≡ d = omega arith in
    ap (λ j. xs ++ front m at j ++ drop (d + j) into0) is
    ∙ ap (λ ys. xs ++ ys ++ drop (d + 0) into0) (front_zero m at)
    ∙ ap (λ ys. ys ++ drop (d + 0) into0) (append_nil xs)
    ∙ ap (λ j. xs ++ drop j into0) e

pub part_len : (into : List ℕ) (d : ℕ) → d ≤ length into → length (take (length into - d) (drop d into)) ≡ length into - d
part_len into d h = simp (length-take, length-drop) (omega arith)

pub whole_len : (xs into0 : List ℕ) (n : ℕ) → length xs ≡ n → n ≤ length into0 → length (xs ++ drop n into0) ≡ length into0
whole_len xs into0 n len h = simp (length-append, length-drop) (omega arith)
