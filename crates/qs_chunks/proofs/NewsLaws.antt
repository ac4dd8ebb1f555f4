-- Where an offset is new, and where none is.
use Rattle.std.specs.Prelude.{◌≡◌, ℕ, ◌+◌, ◌-◌, ◌<◌, ◌≤◌, Bool, true, false, ◌||◌, max, List, [], ◌∷◌, take, drop, Option, None, Some, is_some, refl}
use Rattle.std.proofs.Common.{sym, ◌∙◌, ap, arith, inl, inr}
use Rattle.std.specs.FinMap as map
use Rattle.std.specs.FinSet as set
use Rattle.std.proofs.lemmas.Bool.Decides.{nat_tests}
use Rattle.std.proofs.lemmas.Bool.{both_ways, false_from_ne_true, cases_lt, and_parts, leb-true, ltb-true}
use Rattle.qs_ranges.specs.Numbers.{NumberSet, covers, numbers, same_numbers, contains-with_range}
use Rattle.qs_ranges.proofs.Sets.{covers-is}
use Rattle.qs_chunks.specs.Chunks.{Piece, IsOrdered, IsSpot, between, end_of_piece, or_else, stored_in, total}
use Rattle.qs_chunks.specs.Kept.{IsKept}
use Rattle.qs_recv.proofs.RingLaws.{is_in_run, with_run, contains-with_run}
use Rattle.qs_chunks.proofs.ChunkLaws.{get-stored_in_none, none_below, none_past, not_some, past_piece}
use Rattle.qs_chunks.proofs.PutLaws.{get_parts}

-- pieces that leave no offset of a range out have as many bytes at least
filled : (cs : List Piece) (low to : ℕ) → IsOrdered low cs → ((q : ℕ) → low ≤ q → q < to → map.contains_key (stored_in cs) q ≡ true) → to - low ≤ total cs
filled [] low to o all =
    elim (cases_lt low to) [
      | inl some ↦ absurd (not_some _ (get-stored_in_none low) (all low (omega arith) some))
      | inr none ↦ omega arith
    ]
filled (c ∷ cs) low to o all =
    elim (cases_lt low to) [
      | inl some ↦ elim (cases_lt low c.offset) [
        | inl gap ↦ absurd (not_some _ (none_below (c ∷ cs) c.offset low (omega arith, o.1, o.2) gap) (all low (omega arith) some))
        | inr at ↦
            let l = o.0 in
            let r = filled cs (end_of_piece c) to o.2 (λ q past below. sym (ap is_some (past_piece c cs q past)) ∙ all q (omega arith) below) in
            omega (arith, r)
      ]
      | inr none ↦ omega arith
    ]

-- what is stored in a spot is stored by the pieces between
between_stored : (cs : List Piece) (start end first after from to q : ℕ) → IsSpot cs start end first after from to → from ≤ q → q < to
    → map.contains_key (stored_in cs) q ≡ true → map.contains_key (stored_in (between cs first after)) q ≡ true
between_stored cs start end first after from to q s low high is =
    let before : map.get (stored_in (take first cs)) q ≡ None = none_past (take first cs) 0 q s.before (let e = s.before_ends in omega arith) in
    let behind : map.get (stored_in (drop after cs)) q ≡ None = none_below (drop after cs) to q s.behind high in
    middle (map.get (stored_in (take first cs)) q) (map.get (stored_in (between cs first after)) q) (map.get (stored_in (drop after cs)) q) before behind
    (sym (ap is_some (get_parts cs first after q s.ordered)) ∙ is)
  where
    middle : (a m d : Option ℕ) → a ≡ None → d ≡ None → is_some (or_else a (or_else m d)) ≡ true → is_some m ≡ true
    middle None (Some x) d a_none d_none h = refl
    middle None None d a_none d_none h = sym (ap is_some d_none) ∙ h
    middle (Some x) m d a_none d_none h = absurd (both_ways _ (ap is_some a_none) refl)

-- a spot that isn't full has an offset that didn't come
pub spot_news : (r : NumberSet) (cs : List Piece) (n stored offset end first after from to : ℕ) → IsKept cs r n stored false → IsSpot cs (max offset n) end first after from to
    → total (between cs first after) < to - from → covers r offset end ≡ false
spot_news r cs n stored offset end first after from to h s few =
    false_from_ne_true (covers r offset end) (λ is.
    let each = covers-is r offset end is in
    let begins = s.begins in
    let ends = s.ends in
    let f = filled (between cs first after) from to s.inner (λ q low high.
    between_stored cs (max offset n) end first after from to q s low high (h.kept refl q (omega arith) (each q (omega arith) (omega arith)))) in
    omega (arith, f))

-- no offsets
pub with_none : (s : NumberSet) (lo hi : ℕ) → lo ≡ hi → set.union s (numbers lo hi) ≡ s
with_none s lo hi same = same_numbers _ _ (λ q. grind (arith, nat_tests, same, contains-with_range s lo hi q))

-- where all that comes is stored or was read, no offset is new
pub same_received : (r : NumberSet) (cs : List Piece) (n stored offset len : ℕ) → IsKept cs r n stored false
    → ((q : ℕ) → max offset n ≤ q → q < offset + len → map.contains_key (stored_in cs) q ≡ true) → r ≡ with_run r offset len
same_received r cs n stored offset len h all =
    same_numbers _ _ (λ q. old_first (set.contains r q) (is_in_run q offset len) (came q) ∙ sym (contains-with_run r offset len q))
  where
    old_first : (b i : Bool) → (i ≡ true → b ≡ true) → b ≡ (b || i)
    old_first true i f = refl
    old_first false true f = f refl
    old_first false false f = refl

    came : (q : ℕ) → is_in_run q offset len ≡ true → set.contains r q ≡ true
    came q run =
        elim (cases_lt q n) [
          | inl read ↦ h.read_came q read
          | inr left ↦ h.came q (all q (let l = leb-true offset q (and_parts _ _ run).0 in omega arith) (ltb-true q (offset + len) (and_parts _ _ run).1))
        ]
