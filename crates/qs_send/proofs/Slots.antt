-- A table of sending halves by their slots: what one edit of a slot, or of a half that isn't over, makes of all.
use Rattle.std.specs.FinSet as set
use mir.Val.{bool_byte}
use borrow.Follows.Closed.{read_of}
use Rattle.std.proofs.lemmas.Bool.Decides.{nat_tests}
use Rattle.std.proofs.Common.{◌≡◌, ℕ, zero, suc, ◌+◌, ◌*◌, ◌<◌, inl, inr, List, [], ◌∷◌, ◌++◌, length, get_or, take, Option, None, refl, sym, ap, ◌∙◌, subst, arith, ◌-◌, ◌⊎◌, ◌/◌, ◌%◌, ◌≤◌, ◌==◌, ◌&&◌, nat_lt, Bool, true, false, Some, is_some, ◌||◌, IsTrue, max}
use Rattle.std.proofs.Math.ListN.{set, length-set}
use Rattle.std.proofs.lemmas.Bool.{cases_eq, cases_lt, true≢false}
use Rattle.std.proofs.lemmas.List.{same_lists, get_or-set_same, get_or-set_other, get_or_append_left, get_or_push, get_or-take, length-append, length-take, get_or_read, set-get_or, take_all, take-take, take-set-le}
use Rattle.qs_send.specs.Lane.{Sending, new_sending, is_whole, after_allow, after_blocked}
use Rattle.qs_send.specs.Halves.{slot_at, slot_half, halves_from, IsOverSlot, ArePlaced, half_at, over_sending, IsOver}
use Rattle.qs_send.specs.declared.halves.slot.SendSlot.{SendSlot}
use Rattle.std.proofs.lemmas.Option.{none-some, same_Some}
use Rattle.std.specs.Ordering.{nat_cmp}
use Rattle.qs_ranges.proofs.Sets.{AllBelow-empty}
use Rattle.qs_ranges.specs.Numbers.{MAX_VARINT, ContainsRange, numbers, missing_from, contains-numbers, same_numbers, IsLeastMissingFrom}
use Rattle.qs_send.specs.declared.parts.Chunk.{Chunk}
use Rattle.qs_send.specs.Chunks.{IsDueChunk}
use Rattle.qs_send.specs.Sound.{IsLawful}
use Rattle.qs_send.proofs.Steps.{rest_missing, nothing_kept}
use Rattle.qs_send.proofs.Runs.{unacked-least}
use Rattle.std.specs.Borrow.{MutBor}
use Rattle.std.specs.List.{IsItemAtMut}
use Rattle.std.specs.Option.{IfSome, IfNone, ghost_name_of}

-- What a table holds

pub len_halves : (kind : ℕ) (full : List Sending) (k : ℕ) (slots : List SendSlot) → length (halves_from kind full k slots) ≡ length slots
len_halves kind full k [] = refl
len_halves kind full k (s ∷ ss) = ap suc (len_halves kind full (k + 1) ss)

at_from : (kind : ℕ) (full : List Sending) (k : ℕ) (slots : List SendSlot) (i : ℕ) (d : Sending) → i < length slots → get_or (halves_from kind full k slots) i d ≡ slot_half ((k + i) * 4 + kind) full (slot_at slots i) (slot_at slots i).written
at_from kind full k [] i d there = absurd (omega (arith, there))
at_from kind full k (s ∷ ss) zero d there = let e : k ≡ k + zero = omega arith in ap (λ j. slot_half (j * 4 + kind) full s s.written) e
at_from kind full k (s ∷ ss) (suc i) d there =
    let e : k + 1 + i ≡ k + suc i = omega arith in
    at_from kind full (k + 1) ss i d (omega (arith, there)) ∙ ap (λ j. slot_half (j * 4 + kind) full (slot_at ss i) (slot_at ss i).written) e

-- the half at an index is that for which its slot stands
pub at_halves : (kind : ℕ) (full : List Sending) (slots : List SendSlot) (i : ℕ) (d : Sending) → i < length slots → get_or (halves_from kind full 0 slots) i d ≡ slot_half (i * 4 + kind) full (slot_at slots i) (slot_at slots i).written
at_halves kind full slots i d there = grind (arith, nat_tests, at_from)

-- a table is a list of so many halves
pub same_halves : (kind : ℕ) (full : List Sending) (slots : List SendSlot) (ys : List Sending) → length slots ≡ length ys → ((k : ℕ) (d : Sending) → k < length slots → slot_half (k * 4 + kind) full (slot_at slots k) (slot_at slots k).written ≡ get_or ys k d) → halves_from kind full 0 slots ≡ ys
same_halves kind full slots ys len each = grind (arith, nat_tests, len_halves, same_lists, at_halves)

-- One half is edited where it stands

other_place : (id : ℕ) (full : List Sending) (r : ℕ) (y : Sending) (s : SendSlot) (w : Option ℕ) → (w ≡ None → s.rest ≡ r → ⊥) → slot_half id (set full r y) s w ≡ slot_half id full s w
other_place id full r y s w ne = grind (arith, nat_tests, get_or-set_other)

pub half_set : (kind : ℕ) (full : List Sending) (slots : List SendSlot) (i : ℕ) (y : Sending) → ArePlaced slots (length full) → i < length slots → (slot_at slots i).written ≡ None
    → halves_from kind (set full (slot_at slots i).rest y) 0 slots ≡ set (halves_from kind full 0 slots) i y
half_set kind full slots i y are there none =
    let r = (slot_at slots i).rest in
    let n = len_halves kind full 0 slots in
    same_halves kind (set full r y) slots (set (halves_from kind full 0 slots) i y) (rw length-set (sym n))
    (λ k d within.
    elim (cases_eq k i) [
      | inl e ↦ (
          let here : slot_half (k * 4 + kind) (set full r y) (slot_at slots k) (slot_at slots k).written ≡ y = rw (e, none) (get_or-set_same full r y (new_sending 0 0 0) (are.placed i there none)) in
          let there' : i < length (halves_from kind full 0 slots) = omega (arith, there, n) in
          let back : get_or (set (halves_from kind full 0 slots) i y) k d ≡ y = rw e (get_or-set_same (halves_from kind full 0 slots) i y d there') in
          here ∙ sym back
          )
      | inr ne ↦ other_place (k * 4 + kind) full r y (slot_at slots k) (slot_at slots k).written (λ no e. ne (are.apart k i within there no none e)) ∙ sym (at_halves kind full slots k d within) ∙ sym (get_or-set_other (halves_from kind full 0 slots) i k y d ne)
    ])

-- One slot is put in place of another

set_from : (kind : ℕ) (full : List Sending) (k : ℕ) (slots : List SendSlot) (i : ℕ) (s : SendSlot) → halves_from kind full k (set slots i s) ≡ set (halves_from kind full k slots) i (slot_half ((k + i) * 4 + kind) full s s.written)
set_from kind full k [] i s = refl
set_from kind full k (x ∷ xs) zero s = let e : k ≡ k + zero = omega arith in ap (λ j. slot_half (j * 4 + kind) full s s.written ∷ halves_from kind full (k + 1) xs) e
set_from kind full k (x ∷ xs) (suc i) s = grind (arith, nat_tests, set_from kind full (k + 1) xs i s)

pub slot_set : (kind : ℕ) (full : List Sending) (slots : List SendSlot) (i : ℕ) (s : SendSlot) → halves_from kind full 0 (set slots i s) ≡ set (halves_from kind full 0 slots) i (slot_half (i * 4 + kind) full s s.written)
slot_set kind full slots i s = grind (arith, nat_tests, set_from)

no_slot : SendSlot
no_slot = record { written = None; rest = 0; buffer = 0; widest = 0 }

pub slot_there : (slots : List SendSlot) (i : ℕ) (s : SendSlot) → i < length slots → slot_at (set slots i s) i ≡ s
unfolding no_slot
slot_there slots i s there = get_or-set_same slots i s no_slot there

pub slot_other : (slots : List SendSlot) (i k : ℕ) (s : SendSlot) → (k ≡ i → ⊥) → slot_at (set slots i s) k ≡ slot_at slots k
unfolding no_slot
slot_other slots i k s ne = get_or-set_other slots i k s no_slot ne

-- Some leave

pub halves_take : (kind : ℕ) (full : List Sending) (k n : ℕ) (slots : List SendSlot) → halves_from kind full k (take n slots) ≡ take n (halves_from kind full k slots)
halves_take kind full k (suc n) (x ∷ xs) = ap (λ l. slot_half (k * 4 + kind) full x x.written ∷ l) (halves_take kind full (k + 1) n xs)
halves_take _ _ _ _ _ = refl

pub placed_take : (slots : List SendSlot) (count n : ℕ) → ArePlaced slots count → ArePlaced (take n slots) count
unfolding no_slot
placed_take slots count n are =
    let len = length-take n slots in
    let same : (k : ℕ) → k < length (take n slots) → slot_at (take n slots) k ≡ slot_at slots k = λ k within. get_or-take n slots k no_slot (omega (arith, within, len)) in
    record {
      few = omega (arith, len, are.few);
      placed = λ k within none. subst (λ (t : SendSlot). t.rest < count) (sym (same k within)) (are.placed k (omega (arith, within, len)) (sym (ap (λ (t : SendSlot). t.written) (same k within)) ∙ none));
      apart = grind (arith, nat_tests);
      over = λ k m within some. subst (λ (t : SendSlot). IsOverSlot t m) (sym (same k within)) (are.over k m (omega (arith, within, len)) (sym (ap (λ (t : SendSlot). t.written) (same k within)) ∙ some));
    }

-- One more

more_place : (id : ℕ) (full : List Sending) (y : Sending) (s : SendSlot) (w : Option ℕ) → (w ≡ None → s.rest < length full) → slot_half id (full ++ y ∷ []) s w ≡ slot_half id full s w
more_place id full y s w lt = grind (arith, nat_tests, get_or_append_left)

module _ (slots : List SendSlot) (full : List Sending) (y : Sending) (s : SendSlot) (none : s.written ≡ None) (at : s.rest ≡ length full) where
  old_slot : (k : ℕ) → k < length slots → slot_at (slots ++ s ∷ []) k ≡ slot_at slots k
  unfolding no_slot
  old_slot k there = get_or_append_left slots (s ∷ []) no_slot k there

  new_slot : (k : ℕ) → length slots ≡ k → slot_at (slots ++ s ∷ []) k ≡ s
  unfolding no_slot
  new_slot k is = get_or_push slots s no_slot k is

  pub halves_push : (kind : ℕ) → ArePlaced slots (length full) → halves_from kind (full ++ y ∷ []) 0 (slots ++ s ∷ []) ≡ halves_from kind full 0 slots ++ y ∷ []
  halves_push kind are =
      let n = len_halves kind full 0 slots in
      let more = length-append slots (s ∷ []) in
      same_halves kind (full ++ y ∷ []) (slots ++ s ∷ []) (halves_from kind full 0 slots ++ y ∷ []) (omega (arith, n, more, length-append (halves_from kind full 0 slots) (y ∷ [])))
      (λ k d within.
      elim (cases_lt k (length slots)) [
        | inl lt ↦ (
            rw (old_slot k lt)
            (more_place (k * 4 + kind) full y (slot_at slots k) (slot_at slots k).written (are.placed k lt) ∙ sym (at_halves kind full slots k d lt) ∙ sym (get_or_append_left (halves_from kind full 0 slots) (y ∷ []) d k (omega (arith, lt, n))))
            )
        | inr ge ↦ (
            let e : length slots ≡ k = omega (arith, ge, within, more) in
            let here : slot_half (k * 4 + kind) (full ++ y ∷ []) (slot_at (slots ++ s ∷ []) k) (slot_at (slots ++ s ∷ []) k).written ≡ y = rw (new_slot k e, none) (get_or_push full y (new_sending 0 0 0) s.rest (sym at)) in
            here ∙ sym (get_or_push (halves_from kind full 0 slots) y d k (n ∙ e))
            )
      ])

-- ---- A slot of a half that is over is put where another stood, whose half goes: the last half takes its place, and all others are as before.

abbrev written_of : SendSlot → Option ℕ
written_of t = t.written

abbrev rest_of : SendSlot → ℕ
rest_of t = t.rest

module _ (full now : List Sending) (slots : List SendSlot) (index owner m : ℕ) (s old moved over : SendSlot)
    (are : ArePlaced slots (length full))
    (there : index < length slots) (at : s ≡ get_or slots index s) (none : s.written ≡ None)
    (owns : owner < length slots) (old_at : old ≡ get_or slots owner old) (old_none : old.written ≡ None) (last : old.rest ≡ length full - 1)
    (moved_none : moved.written ≡ None) (moved_rest : moved.rest ≡ s.rest)
    (is_over : IsOverSlot over m)
    (one_less : length now + 1 ≡ length full) (count : ℕ) (count_is : count ≡ length full)
    (takes : (d : Sending) → s.rest + 1 < count → get_or now s.rest d ≡ get_or full (count - 1) d)
    (stays : (k : ℕ) (d : Sending) → (k ≡ s.rest → ⊥) → k + 1 < count → get_or now k d ≡ get_or full k d) where
  taken : (d : Sending) → s.rest + 1 < length full → get_or now s.rest d ≡ get_or full (length full - 1) d
  taken d = subst (λ n. s.rest + 1 < n → get_or now s.rest d ≡ get_or full (n - 1) d) count_is (takes d)

  after : List SendSlot
  after = set (set slots owner moved) index over

  len_after : length after ≡ length slots
  unfolding after
  len_after = length-set (set slots owner moved) index over ∙ length-set slots owner moved

  read_s : s ≡ slot_at slots index
  read_s = get_or_read slots index s there at (record { written = None; rest = 0; buffer = 0; widest = 0 })

  read_old : old ≡ slot_at slots owner
  read_old = get_or_read slots owner old owns old_at (record { written = None; rest = 0; buffer = 0; widest = 0 })

  none_s : (slot_at slots index).written ≡ None
  none_s = sym (ap written_of read_s) ∙ none

  none_old : (slot_at slots owner).written ≡ None
  none_old = sym (ap written_of read_old) ∙ old_none

  there_after : index < length (set slots owner moved)
  there_after = let n = length-set slots owner moved in omega (arith, there, n)

  -- the three kinds of slots
  put_slot : slot_at after index ≡ over
  unfolding after
  put_slot = slot_there (set slots owner moved) index over there_after

  moved_slot : (owner ≡ index → ⊥) → slot_at after owner ≡ moved
  unfolding after
  moved_slot ne = slot_other (set slots owner moved) index owner over ne ∙ slot_there slots owner moved owns

  other_slot : (k : ℕ) → (k ≡ index → ⊥) → (k ≡ owner → ⊥) → slot_at after k ≡ slot_at slots k
  unfolding after
  other_slot k not_index not_owner = slot_other (set slots owner moved) index k over not_index ∙ slot_other slots owner k moved not_owner

  full_other : (k : ℕ) → (slot_at after k).written ≡ None → k ≡ index → ⊥
  full_other k isnt e = none-some m (sym (subst (λ j. (slot_at after j).written ≡ None) e isnt) ∙ ap written_of put_slot ∙ is_over.is)

  -- places of others
  place_in : s.rest < length full
  place_in = subst (λ (t : SendSlot). t.rest < length full) (sym read_s) (are.placed index there none_s)

  apart_owner : (owner ≡ index → ⊥) → s.rest + 1 < length full
  apart_owner ne =
      let p = place_in in
      elim (cases_eq s.rest (length full - 1)) [
        | inl e ↦ absurd (ne (are.apart owner index owns there none_old none_s (sym (ap rest_of read_old) ∙ last ∙ sym e ∙ ap rest_of read_s)))
        | inr more ↦ less s.rest (length full) p more
      ]
    where
      less : (a b : ℕ) → a < b → (a ≡ b - 1 → ⊥) → a + 1 < b
      less a b lt ne = elim (cases_eq (a + 1) b) [ inl e ↦ absurd (ne (omega (arith, e))) | inr more ↦ not_last a b lt more ]
        where
          not_last : (a b : ℕ) → a < b → (a + 1 ≡ b → ⊥) → a + 1 < b
          not_last a b lt ne = elim (cases_lt (a + 1) b) [ inl is ↦ is | inr ge ↦ absurd (ne (omega (arith, lt, ge))) ]

  other_apart : (k : ℕ) → k < length slots → (k ≡ index → ⊥) → (slot_at slots k).written ≡ None → (slot_at slots k).rest ≡ s.rest → ⊥
  other_apart k within ne isnt e = ne (are.apart k index within there isnt none_s (e ∙ ap rest_of read_s))

  other_last : (k : ℕ) → k < length slots → (k ≡ owner → ⊥) → (slot_at slots k).written ≡ None → (slot_at slots k).rest + 1 < length full
  other_last k within ne isnt =
      let p = are.placed k within isnt in
      elim (cases_lt ((slot_at slots k).rest + 1) (length full)) [
        | inl is ↦ is
        | inr ge ↦ absurd (ne (are.apart k owner within owns isnt none_old (let e : (slot_at slots k).rest ≡ length full - 1 = omega (arith, p, ge) in e ∙ sym last ∙ ap rest_of read_old)))
      ]

  over_half : (id : ℕ) (any : List Sending) → slot_half id any over over.written ≡ slot_half id [] over over.written
  over_half id any = rw is_over.is refl

  kept_half : (id : ℕ) (t : SendSlot) (w : Option ℕ) → (w ≡ None → t.rest ≡ s.rest → ⊥) → (w ≡ None → t.rest + 1 < length full) → slot_half id now t w ≡ slot_half id full t w
  kept_half id t w ne lt = grind (arith, nat_tests)

  pub over_puts : (kind : ℕ) → halves_from kind now 0 (set (set slots owner moved) index over) ≡ set (halves_from kind full 0 slots) index (slot_half (index * 4 + kind) [] over over.written)
  unfolding after
  over_puts kind =
      let n = len_halves kind full 0 slots in
      let was = halves_from kind full 0 slots in
      let y = slot_half (index * 4 + kind) [] over over.written in
      let there' : index < length was = omega (arith, there, n) in
      same_halves kind now after (set was index y) (len_after ∙ sym n ∙ sym (length-set was index y))
      (λ k d within.
      let k_in : k < length slots = omega (arith, within, len_after) in
      elim (cases_eq k index) [
        | inl e ↦ (
            let here : slot_half (k * 4 + kind) now (slot_at after k) (slot_at after k).written ≡ y = rw (e, put_slot) (over_half (index * 4 + kind) now) in
            let back : get_or (set was index y) k d ≡ y = rw e (get_or-set_same was index y d there') in
            here ∙ sym back
            )
        | inr not_index ↦ elim (cases_eq k owner) [
          | inl e ↦ (
              let ne : owner ≡ index → ⊥ = λ same. not_index (e ∙ same) in
              let here : slot_half (k * 4 + kind) now (slot_at after k) (slot_at after k).written ≡ half_at now s.rest = rw (e, moved_slot ne, moved_none, moved_rest) refl in
              let was_half : get_or was k d ≡ half_at full old.rest = at_halves kind full slots k d k_in ∙ rw (e, none_old) (ap (λ (t : SendSlot). half_at full t.rest) (sym read_old)) in
              here ∙ taken (new_sending 0 0 0) (apart_owner ne) ∙ ap (half_at full) (sym last) ∙ sym was_half ∙ sym (get_or-set_other was index k y d not_index)
              )
          | inr not_owner ↦
              rw (other_slot k not_index not_owner)
              (kept_half (k * 4 + kind) (slot_at slots k) (slot_at slots k).written (other_apart k k_in not_index) (other_last k k_in not_owner) ∙ sym (at_halves kind full slots k d k_in) ∙ sym (get_or-set_other was index k y d not_index))
        ]
      ])

  -- where a slot of a half that isn't over names a place
  data_of : (k : ℕ) → k < length slots → (slot_at after k).written ≡ None → ((k ≡ owner) × ((slot_at after k).rest ≡ s.rest) × (s.rest + 1 < length full)) ⊎ ((k ≡ owner → ⊥) × ((slot_at after k).rest ≡ (slot_at slots k).rest) × ((slot_at slots k).written ≡ None))
  data_of k k_in isnt =
      let not_index = full_other k isnt in
      elim (cases_eq k owner) [
        | inl e ↦ (
            let ne : owner ≡ index → ⊥ = λ same. not_index (e ∙ same) in
            inl (e, subst (λ j. (slot_at after j).rest ≡ s.rest) (sym e) (ap rest_of (moved_slot ne) ∙ moved_rest), apart_owner ne)
            )
        | inr not_owner ↦ inr (not_owner, ap rest_of (other_slot k not_index not_owner), sym (ap written_of (other_slot k not_index not_owner)) ∙ isnt)
      ]

  pub placed_puts : ArePlaced (set (set slots owner moved) index over) (length now)
  unfolding after
  placed_puts =
      record {
        few = omega (arith, len_after, are.few);
        placed = λ k within isnt.
            let k_in : k < length slots = omega (arith, within, len_after) in
            elim (data_of k k_in isnt) [
              | inl d ↦ omega (arith, d.1, d.2, one_less)
              | inr d ↦ (let p = other_last k k_in d.0 d.2 in omega (arith, d.1, p, one_less))
            ];
        apart = λ k j k_within j_within k_isnt j_isnt e.
            let k_in : k < length slots = omega (arith, k_within, len_after) in
            let j_in : j < length slots = omega (arith, j_within, len_after) in
            elim (data_of k k_in k_isnt) [
              | inl a ↦ elim (data_of j j_in j_isnt) [
                | inl b ↦ a.0 ∙ sym b.0
                | inr b ↦ absurd (other_apart j j_in (full_other j j_isnt) b.2 (sym b.1 ∙ sym e ∙ a.1))
              ]
              | inr a ↦ elim (data_of j j_in j_isnt) [
                | inl b ↦ absurd (other_apart k k_in (full_other k k_isnt) a.2 (sym a.1 ∙ e ∙ b.1))
                | inr b ↦ are.apart k j k_in j_in a.2 b.2 (sym a.1 ∙ e ∙ b.1)
              ]
            ];
        over = λ k n within some.
            let k_in : k < length slots = omega (arith, within, len_after) in
            elim (cases_eq k index) [
              | inl e ↦ (
                  let same : slot_at after k ≡ over = subst (λ j. slot_at after j ≡ over) (sym e) put_slot in
                  let which : m ≡ n = same_Some m n (sym is_over.is ∙ sym (ap written_of same) ∙ some) in
                  subst (λ (t : SendSlot). IsOverSlot t n) (sym same) (subst (λ j. IsOverSlot over j) which is_over)
                  )
              | inr not_index ↦ elim (cases_eq k owner) [
                | inl e ↦ (
                    let ne : owner ≡ index → ⊥ = λ same. not_index (e ∙ same) in
                    let same : slot_at after k ≡ moved = subst (λ j. slot_at after j ≡ moved) (sym e) (moved_slot ne) in
                    absurd (none-some n (sym moved_none ∙ sym (ap written_of same) ∙ some))
                    )
                | inr not_owner ↦ (
                    let same = other_slot k not_index not_owner in
                    subst (λ (t : SendSlot). IsOverSlot t n) (sym same) (are.over k n k_in (sym (ap written_of same) ∙ some))
                    )
              ]
            ];
      }

-- ---- Halves that are over: what holds of each, and which half is one.

-- one is lawful
pub over_lawful : (id n limit : ℕ) (blocked : Bool) (buffer widest : ℕ) → id ≤ MAX_VARINT → n ≤ limit → limit ≤ MAX_VARINT → buffer ≤ widest → IsLawful (over_sending id n limit blocked buffer widest)
over_lawful id n limit blocked buffer widest small within few wide =
    record {
      order = record { small_id = small; small = omega (arith, within, few); small_limit = few; sent_written = omega arith; sent_limit = within; reset_size = λ r none. absurd (none-some r none) };
      bytes = record { from = λ _. (let e = rest_missing n in omega (arith, e)); let_go = λ was. refl; buffered = omega arith; widest = wide };
      parts = record {
        acked_sent = λ q has. grind (arith, nat_tests, contains-numbers 0 n q);
        due_written = AllBelow-empty n;
        apart = λ q. grind (arith, set.contains-empty nat_cmp q);
        unsent_due = λ none q low below. absurd (omega (arith, low, below));
        none_due = λ was. refl;
      };
      ends = record { sent_whole = λ _. refl; sent_asked = λ _. refl; acked_sent = λ _. refl; due_asked = λ due. absurd (true≢false (sym due)); due_open = λ due. absurd (true≢false (sym due)); due_first = λ none asked not_sent. absurd (true≢false not_sent); none_due = λ _. refl };
    }

-- Which half is one

both_true : (a b : Bool) → (a && b) ≡ true → (a ≡ true) × (b ≡ true)
both_true a b is = grind (arith, nat_tests)

pub over_when : (s : Sending) → IsLawful s → s.lane.reset_acked ≡ false → is_some s.lane.was_reset ≡ false → is_whole s.lane ≡ true → s.lane.stopped ≡ None → s ≡ over_sending s.lane.id s.lane.written s.lane.limit s.lane.blocked_sent s.lane.buffer s.lane.widest
over_when s h no_ack no_reset whole no_stop =
    let l = s.lane in
    let parts = both_true (missing_from l.acked 0 == l.written) l.fin_acked whole in
    let at : missing_from l.acked 0 ≡ l.written = grind (arith, nat_tests) in
    let least = (unacked-least l.acked l.sent_end l.written h.parts.acked_sent h.order.sent_written).0 in
    let is : IsLeastMissingFrom l.acked 0 l.written = subst (IsLeastMissingFrom l.acked 0) at least in
    let none = nothing_kept l.kept (let f = h.bytes.from no_reset in omega (arith, f, at)) in
    let all : l.acked ≡ numbers 0 l.written = same_numbers _ _ (λ q. grind (arith, nat_tests, contains-numbers 0 l.written q, h.parts.acked_sent q)) in
    let idle : s.due.offsets ≡ set.empty = same_numbers _ _ (λ q. grind (arith, nat_tests, set.contains-empty nat_cmp q, h.parts.due_written q)) in
    let end_sent = h.ends.acked_sent parts.1 in
    grind (arith, nat_tests)

rest_limit : (limit : ℕ) (b : Bool) → (limit * 2 + bool_byte b) / 2 ≡ limit
rest_limit limit b = grind (arith, nat_tests)

pub over_kept : (s : Sending) (number limit : ℕ) (blocked : Bool) (buffer widest : ℕ) (written : Option ℕ) → written ≡ Some s.lane.written → IsLawful s → s.lane.id ≡ number → limit ≡ s.lane.limit → blocked ≡ s.lane.blocked_sent → buffer ≡ s.lane.buffer → widest ≡ s.lane.widest
    → s.lane.reset_acked ≡ false → is_some s.lane.was_reset ≡ false → is_whole s.lane ≡ true → s.lane.stopped ≡ None
    → IsOverSlot (record { written = written; rest = limit * 2 + bool_byte blocked; buffer = buffer; widest = widest }) s.lane.written × (s ≡ over_sending number s.lane.written ((limit * 2 + bool_byte blocked) / 2) ((limit * 2 + bool_byte blocked) % 2 == 1) buffer widest)
over_kept s number limit blocked buffer widest written written_is h id_is limit_is blocked_is buffer_is widest_is no_ack no_reset whole no_stop = grind (arith, nat_tests, over_when, rest_limit)

-- Of one nothing goes

pub none_goes : (s : Sending) (c : Chunk) → s.due.offsets ≡ set.empty → s.due.fin ≡ false → IsDueChunk s c → ⊥
none_goes s c none no_fin is = go c.fin (c.offset + c.len == s.lane.written) (is.fin ∙ ap (λ b. b && (c.offset + c.len == s.lane.written)) no_fin) is.some
  where
    empty_run : 0 < c.len → ⊥
    empty_run some =
        let here = subst (λ d. ContainsRange d c.offset (c.offset + c.len)) none is.due c.offset (omega arith) (omega (arith, some)) in
        grind (arith, set.contains-empty nat_cmp c.offset)

    none_true : (b : Bool) → b ≡ false → IsTrue (b || false) → ⊥
    none_true true e some = true≢false e
    none_true false e some = true≢false (sym some)

    go : (fin whole : Bool) → fin ≡ (false && whole) → IsTrue (nat_lt 0 c.len || fin) → ⊥
    go true whole e some = true≢false e
    go false whole e some = elim (cases_lt 0 c.len) [ inl lt ↦ empty_run lt | inr ge ↦ (let zero : nat_lt 0 c.len ≡ false = grind (arith, nat_tests) in none_true (nat_lt 0 c.len) zero some) ]

-- ---- A table of sending halves: what a call reads at a slot, and what its edit makes of the table.

pub none_of : (w : Option ℕ) → false ≡ is_some w → w ≡ None
none_of w is = grind (arith, nat_tests)

pub some_of : (w : Option ℕ) → true ≡ is_some w → (n : ℕ) × (w ≡ Some n)
some_of w is = grind (arith, nat_tests)

-- an index of a half is one of a slot
pub in_slots : (kind : ℕ) (full : List Sending) (slots : List SendSlot) (xs : List Sending) (i : ℕ) → halves_from kind full 0 slots ≡ xs → i < length xs → i < length slots
in_slots kind full slots xs i is there = let n = len_halves kind full 0 slots in let e = ap length is in omega (arith, there, n, e)

module _ (kind : ℕ) (full : List Sending) (slots : List SendSlot) (i : ℕ) (s : SendSlot) (are : ArePlaced slots (length full)) (there : i < length slots) (at : s ≡ get_or slots i s) where
  read_slot : s ≡ slot_at slots i
  read_slot = get_or_read slots i s there at (record { written = None; rest = 0; buffer = 0; widest = 0 })

  at_none : s.written ≡ None → (slot_at slots i).written ≡ None
  at_none none = sym (ap (λ (t : SendSlot). t.written) read_slot) ∙ none

  -- the place of a half that isn't over
  pub place_there : s.written ≡ None → s.rest < length full
  place_there none = subst (λ (t : SendSlot). t.rest < length full) (sym read_slot) (are.placed i there (at_none none))

  -- and the half
  pub full_is : s.written ≡ None → half_at (halves_from kind full 0 slots) i ≡ half_at full s.rest
  full_is none = at_halves kind full slots i (new_sending 0 0 0) there ∙ ap (λ w. slot_half (i * 4 + kind) full (slot_at slots i) w) (at_none none) ∙ ap (λ (t : SendSlot). half_at full t.rest) (sym read_slot)

  pub full_read : (x : Sending) → s.written ≡ None → x ≡ get_or full s.rest x → x ≡ half_at (halves_from kind full 0 slots) i
  full_read x none here = get_or_read full s.rest x (place_there none) here (new_sending 0 0 0) ∙ sym (full_is none)

  -- a half that is over
  pub over_is : (n : ℕ) → s.written ≡ Some n → half_at (halves_from kind full 0 slots) i ≡ over_sending (i * 4 + kind) n (s.rest / 2) (s.rest % 2 == 1) s.buffer s.widest
  over_is n some = at_halves kind full slots i (new_sending 0 0 0) there ∙ ap (λ (t : SendSlot). slot_half (i * 4 + kind) full t t.written) (sym read_slot) ∙ ap (λ w. slot_half (i * 4 + kind) full s w) some

  pub is_over_at : (n : ℕ) → s.written ≡ Some n → IsOver (half_at (halves_from kind full 0 slots) i)
  is_over_at n some =
      subst IsOver (sym (over_is n some)) (record { written = n; blocked = s.rest % 2 == 1; widest = s.widest; is = refl })

  pub over_slot : (n : ℕ) → s.written ≡ Some n → IsOverSlot s n
  over_slot n some = subst (λ t. IsOverSlot t n) (sym read_slot) (are.over i n there (sym (ap (λ (t : SendSlot). t.written) read_slot) ∙ some))

  -- a half that isn't over becomes another
  pub lent : (y : Sending) → s.written ≡ None → halves_from kind (set full s.rest y) 0 slots ≡ set (halves_from kind full 0 slots) i y
  lent y none = ap (λ (t : SendSlot). halves_from kind (set full t.rest y) 0 slots) read_slot ∙ half_set kind full slots i y are there (at_none none)

  same_slots : set slots i s ≡ slots
  same_slots = ap (set slots i) at ∙ set-get_or slots i s

  pub changed_full : (x y : Sending) (f : Sending → Sending) → s.written ≡ None → x ≡ get_or full s.rest x → y ≡ f x → halves_from kind (set full s.rest y) 0 (set slots i s) ≡ set (halves_from kind full 0 slots) i (f (half_at (halves_from kind full 0 slots) i))
  changed_full x y f none here is =
      ap (halves_from kind (set full s.rest y) 0) same_slots ∙ lent y none ∙ ap (set (halves_from kind full 0 slots) i) (is ∙ ap f (full_read x none here))

  pub same_places : (y : Sending) → ArePlaced (set slots i s) (length (set full s.rest y))
  same_places y = rw (same_slots, length-set) are

  -- one that is over becomes another
  module _ (t : SendSlot) (written : t.written ≡ s.written) where
    pub changed_over : (f : Sending → Sending) → true ≡ is_some s.written
        → ((id n : ℕ) → over_sending id n (t.rest / 2) (t.rest % 2 == 1) t.buffer t.widest ≡ f (over_sending id n (s.rest / 2) (s.rest % 2 == 1) s.buffer s.widest))
        → halves_from kind full 0 (set slots i t) ≡ set (halves_from kind full 0 slots) i (f (half_at (halves_from kind full 0 slots) i))
    changed_over f is same =
        let some = some_of s.written is in
        slot_set kind full slots i t
        ∙ ap (set (halves_from kind full 0 slots) i)
        (ap (λ w. slot_half (i * 4 + kind) full t w) (written ∙ some.1) ∙ same (i * 4 + kind) some.0 ∙ ap f (sym (over_is some.0 some.1)))

-- What the edits make of a half that is over

rest_half : (m b : ℕ) → (m * 2 + b % 2) / 2 ≡ m
rest_half m b = omega arith

rest_flag : (m b : ℕ) → (m * 2 + b % 2) % 2 ≡ b % 2
rest_flag m b = omega arith

module _ (s t : SendSlot) where
  pub allowed_over : (m limit : ℕ) → m ≡ max (s.rest / 2) limit → t ≡ record s { rest = m * 2 + s.rest % 2 } → (id n : ℕ) → over_sending id n (t.rest / 2) (t.rest % 2 == 1) t.buffer t.widest ≡ after_allow (over_sending id n (s.rest / 2) (s.rest % 2 == 1) s.buffer s.widest) limit
  allowed_over m limit is t_is id n = rw (t_is, rest_half m s.rest, rest_flag m s.rest, is) refl

  blocked_half : (r : ℕ) → (r / 2 * 2 + 1) / 2 ≡ r / 2
  blocked_half r = omega arith

  blocked_flag : (r : ℕ) → (r / 2 * 2 + 1) % 2 ≡ 1
  blocked_flag r = omega arith

  pub blocked_over : t ≡ record s { rest = s.rest / 2 * 2 + 1 } → (id n : ℕ) → over_sending id n (t.rest / 2) (t.rest % 2 == 1) t.buffer t.widest ≡ after_blocked (over_sending id n (s.rest / 2) (s.rest % 2 == 1) s.buffer s.widest)
  blocked_over t_is id n = rw (t_is, blocked_half s.rest, blocked_flag s.rest) refl

-- A half that is over is put where it stood

pub same_over : (kind : ℕ) (full full' : List Sending) (slots slots' : List SendSlot) (i : ℕ) (x : Sending) → i < length slots → (t : SendSlot) (n : ℕ) → t.written ≡ Some n → x ≡ over_sending (i * 4 + kind) n (t.rest / 2) (t.rest % 2 == 1) t.buffer t.widest → x ≡ half_at (halves_from kind full 0 slots) i
    → (halves_from kind full' 0 slots' ≡ halves_from kind full 0 slots) ⊎ (halves_from kind full' 0 slots' ≡ set (halves_from kind full 0 slots) i (slot_half (i * 4 + kind) [] t t.written)) → halves_from kind full' 0 slots' ≡ halves_from kind full 0 slots
same_over kind full full' slots slots' i x there t n some is at h = grind (arith, nat_tests, set-get_or)

-- The last half leaves

pub last_left : (kind count last : ℕ) (full full' : List Sending) (slots slots' now : List SendSlot) (y : Sending) (xs : List Sending) → now ≡ take last slots' → count ≤ last
    → (halves_from kind full' 0 slots' ≡ halves_from kind full 0 slots) ⊎ (halves_from kind full' 0 slots' ≡ set (halves_from kind full 0 slots) last y) → take count (halves_from kind full 0 slots) ≡ xs → take count (halves_from kind full' 0 now) ≡ xs
last_left kind count last full full' slots slots' now y xs now_is le put is = grind (arith, nat_tests, halves_take, take-take, take-set-le)

pub none_left : (kind count : ℕ) (full : List Sending) (slots : List SendSlot) (xs : List Sending) → length slots ≤ count → take count (halves_from kind full 0 slots) ≡ xs → halves_from kind full 0 slots ≡ xs
none_left kind count full slots xs few is = grind (arith, nat_tests, len_halves, take_all)

-- ---- A half that isn't over is lent out of a table: what the table is once it comes back.

module _ (kind : ℕ) (full : List Sending) (slots : List SendSlot) (i place : ℕ) (s : SendSlot) (are : ArePlaced slots (length full)) (there : i < length slots) (at : s ≡ get_or slots i s)
    (over : is_some s.written ≡ true → place ≡ length full) (standing : is_some s.written ≡ false → place ≡ s.rest) where
  by_slot : {P : Type 0} (w : Option ℕ) → (w ≡ None → P) → ((n : ℕ) → w ≡ Some n → P) → P
  by_slot w none some = grind (arith, nat_tests)

  pub lent_found : (r : Option (MutBor Sending)) → IsItemAtMut full place r → IfSome r (λ half. half.now ≡ half_at (halves_from kind full 0 slots) i)
  lent_found r h = grind (arith, nat_tests, full_read)

  pub lent_over : (r : Option (MutBor Sending)) → IsItemAtMut full place r → IfNone r (IsOver (half_at (halves_from kind full 0 slots) i))
  lent_over (Some x) h = tt
  lent_over None h =
      by_slot s.written
      (λ none. let e = standing (ap is_some none) in let p = place_there kind full slots i s are there at none in let past = h.3 in absurd (omega (arith, e, p, past)))
      (λ n some. is_over_at kind full slots i s are there at n some)

  pub lends_back : (r : Option (MutBor Sending)) → IsItemAtMut full place r
      → read_of (ghost_name_of r) (λ (w : Sending). halves_from kind (set full place w) 0 slots) (halves_from kind full 0 slots) ≡ read_of (ghost_name_of r) (λ (w : Sending). set (halves_from kind full 0 slots) i w) (halves_from kind full 0 slots)
  lends_back r h = grind (arith, nat_tests, set, lent)
