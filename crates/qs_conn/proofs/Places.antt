-- The places of a packet's order: a word has a bit for each where an item may be due, and a walk goes from bit to bit.
use Rattle.std.proofs.lemmas.Bool.Decides.{nat_tests}
use Rattle.std.proofs.Common.{◌≡◌, ◌≢◌, ◌∙◌, ℕ, ◌+◌, ◌-◌, ◌<◌, ◌≤◌, ◌==◌, ◌^◌, ◌⊎◌, inl, inr, min, max, zero, suc, Bool, true, false, List, Option, None, Some, is_some, bit_and, bit_or, sym, ap, subst, refl, arith}
use Rattle.std.specs.Int.{bit_at}
use Rattle.std.proofs.lemmas.Bool.{cases_lt, true≢false}
use Rattle.std.proofs.lemmas.Nat.Bits.{bit_at-lt, bit_at_and, bit_at_or, bit_at_above, bit_at-zero}
use Rattle.qs_wire.specs.declared.stream_id.Dir.TheVariants.{Bidi, Uni}
use Rattle.qs_ranges.specs.Bits.{HasBit, IsLowestBit, IsBefore}
use Rattle.qs_machine.specs.Tables.{Tables}
use Rattle.qs_machine.specs.Ends.{End}
use Rattle.qs_streams.specs.Rows.{on}
use Rattle.qs_conn.specs.declared.due.Slot.{Slot}
use Rattle.qs_conn.specs.declared.due.Slot.TheVariants as slots
use Rattle.qs_conn.specs.declared.due.Kind.{Kind}
use Rattle.qs_conn.specs.declared.due.Kind.TheVariants as kinds
use Rattle.qs_conn.specs.declared.due.Sort.{Sort}
use Rattle.qs_conn.specs.declared.due.Sort.TheVariants as sorts
use Rattle.qs_conn.specs.Due.{IsMarkedAt, row_of}
use Rattle.qs_conn.specs.Filling.{slot_at, slot_place, slot_past, sort_place, kind_first, all_items, IsPassed}
use Rattle.qs_conn.specs.Marks.{IsIdle, IsDueIn, AddsIdle}
use Rattle.qs_machine.specs.Due.{IsDueItem}
use Rattle.qs_conn.specs.Sending.{TellsDue}
use Rattle.qs_conn.proofs.MadePackets.{tells_item}
use Rattle.qs_send.specs.declared.piece.Item.{Item}
use Rattle.qs_conn.specs.Middle.{IsSortAt, own_items, own_of, own_below}

-- Bits

off_bit : (word t : ℕ) → bit_at word t ≡ 0 → on word t ≡ false
unfolding on
off_bit word t off = rw off refl

on_bit : (word t : ℕ) → bit_at word t ≡ 1 → on word t ≡ true
unfolding on
on_bit word t set = rw set refl

bit_here : (before bit after : ℕ) (set : Bool) → HasBit before bit set after → on after bit ≡ set
unfolding on
bit_here before bit after set h = h.here

bit_other : (before bit after t : ℕ) (set : Bool) → HasBit before bit set after → t < 64 → t ≢ bit → on after t ≡ on before t
unfolding on
bit_other before bit after t set h small other = ap (λ b. b == 1) (h.others t small other)

either : (x y m : ℕ) → x < 2 → y < 2 → m ≡ max x y → (m == 1) ≡ false → ((x == 1) ≡ false) × ((y == 1) ≡ false)
either x y m x_bit y_bit is off = grind (arith, nat_tests)

pub off_or : (a b t : ℕ) → on (bit_or a b) t ≡ false → (on a t ≡ false) × (on b t ≡ false)
unfolding on
off_or a b t off = either (bit_at a t) (bit_at b t) (bit_at (bit_or a b) t) (bit_at-lt a t) (bit_at-lt b t) (bit_at_or a b t) off

neither : (x y m : ℕ) → x < 2 → y < 2 → m ≡ max x y → (x == 1) ≡ false → (y == 1) ≡ false → (m == 1) ≡ false
neither x y m x_bit y_bit is a b = grind (arith, nat_tests)

or_off : (a b t : ℕ) → on a t ≡ false → on b t ≡ false → on (bit_or a b) t ≡ false
unfolding on
or_off a b t a_off b_off = neither (bit_at a t) (bit_at b t) (bit_at (bit_or a b) t) (bit_at-lt a t) (bit_at-lt b t) (bit_at_or a b t) a_off b_off

-- what a mask leaves of a bit

masked : (x m a : ℕ) → x < 2 → m ≡ 1 → a ≡ min x m → (a == 1) ≡ false → (x == 1) ≡ false
masked x m a small one is off = grind (arith, nat_tests)

off_and : (word mask t : ℕ) → bit_at mask t ≡ 1 → on (bit_and word mask) t ≡ false → on word t ≡ false
unfolding on
off_and word mask t one off = masked (bit_at word t) (bit_at mask t) (bit_at (bit_and word mask) t) (bit_at-lt word t) one (bit_at_and word mask t) off

unmasked : (x m a : ℕ) → m ≡ 0 → a ≡ min x m → (a == 1) ≡ false
unmasked x m a none is = grind (arith, nat_tests)

and_off : (word mask t : ℕ) → bit_at mask t ≡ 0 → on (bit_and word mask) t ≡ false
unfolding on
and_off word mask t none = unmasked (bit_at word t) (bit_at mask t) (bit_at (bit_and word mask) t) none (bit_at_and word mask t)

-- The kinds of streams have their bits at their rows.
pub kind_off : (word : ℕ) (kind : Kind) → on (bit_and word 184) (row_of kind) ≡ false → on word (row_of kind) ≡ false
kind_off word kinds.ResetStream off = off_and word 184 3 refl off
kind_off word kinds.StopSending off = off_and word 184 4 refl off
kind_off word kinds.MaxStreamData off = off_and word 184 5 refl off
kind_off word kinds.StreamDataBlocked off = off_and word 184 7 refl off

pub row_small : (kind : Kind) → row_of kind < 22
row_small kind = grind (arith, nat_tests)

off_zero : (t : ℕ) → on 0 t ≡ false
off_zero t = off_bit 0 t (bit_at-zero t)

pub all_off : (word : ℕ) (kind : Kind) → bit_and word 184 ≡ 0 → on word (row_of kind) ≡ false
all_off word kind none = kind_off word kind (subst (λ w. on w (row_of kind) ≡ false) (sym none) (off_zero (row_of kind)))

pub stream_bit : (kind : Kind) (n : ℕ) → (slot_place (slot_at kind n)).0 ≡ row_of kind
stream_bit kind n = grind (arith, nat_tests)

pub none_past : (a word t : ℕ) → 10 ≤ t → on a t ≡ false → on (bit_or a (bit_and word 184)) t ≡ false
none_past a word t past off = or_off a (bit_and word 184) t off (and_off word 184 t (bit_at_above 184 8 t (omega arith) (omega (arith, past))))

-- Six bits are set one after the other.
module _ (a b c d e f : ℕ) (p q r s t u : Bool) (ha : HasBit 0 0 p a) (hb : HasBit a 1 q b) (hc : HasBit b 2 r c) (hd : HasBit c 6 s d) (he : HasBit d 8 t e) (hf : HasBit e 9 u f) where
  from_d : (k : ℕ) → k < 64 → k ≢ 8 → k ≢ 9 → on f k ≡ on d k
  from_d k small x y = bit_other e 9 f k u hf small y ∙ bit_other d 8 e k t he small x

  from_c : (k : ℕ) → k < 64 → k ≢ 6 → k ≢ 8 → k ≢ 9 → on f k ≡ on c k
  from_c k small x y z = from_d k small y z ∙ bit_other c 6 d k s hd small x

  pub six_none : (k : ℕ) → 10 ≤ k → k < 64 → on f k ≡ false
  six_none k past small =
      from_c k small (λ i. omega (arith, past, i)) (λ i. omega (arith, past, i)) (λ i. omega (arith, past, i)) ∙ bit_other b 2 c k r hc small (λ i. omega (arith, past, i))
      ∙ bit_other a 1 b k q hb small (λ i. omega (arith, past, i)) ∙ bit_other 0 0 a k p ha small (λ i. omega (arith, past, i)) ∙ off_zero k

  -- what holds of each whose bit isn't set
  pub six_of : (P : Slot → Type 0) → (p ≡ false → P slots.MaxData) → (q ≡ false → P (slots.MaxStreams Bidi)) → (r ≡ false → P (slots.MaxStreams Uni)) → (s ≡ false → P slots.DataBlocked)
      → (t ≡ false → P (slots.StreamsBlocked Bidi)) → (u ≡ false → P (slots.StreamsBlocked Uni)) → (slot : Slot) → own_items slot ≡ 1 → on f (slot_place slot).0 ≡ false → P slot
  six_of P x0 x1 x2 x6 x8 x9 slots.MaxData own off =
      x0 (sym (bit_here 0 0 a p ha) ∙ sym (from_c 0 (omega arith) (λ i. omega (arith, i)) (λ i. omega (arith, i)) (λ i. omega (arith, i)) ∙ bit_other b 2 c 0 r hc (omega arith) (λ i. omega (arith, i)) ∙ bit_other a 1 b 0 q hb (omega arith) (λ i. omega (arith, i))) ∙ off)
  six_of P x0 x1 x2 x6 x8 x9 (slots.MaxStreams Bidi) own off =
      x1 (sym (bit_here a 1 b q hb) ∙ sym (from_c 1 (omega arith) (λ i. omega (arith, i)) (λ i. omega (arith, i)) (λ i. omega (arith, i)) ∙ bit_other b 2 c 1 r hc (omega arith) (λ i. omega (arith, i))) ∙ off)
  six_of P x0 x1 x2 x6 x8 x9 (slots.MaxStreams Uni) own off = x2 (sym (bit_here b 2 c r hc) ∙ sym (from_c 2 (omega arith) (λ i. omega (arith, i)) (λ i. omega (arith, i)) (λ i. omega (arith, i))) ∙ off)
  six_of P x0 x1 x2 x6 x8 x9 slots.DataBlocked own off = x6 (sym (bit_here c 6 d s hd) ∙ sym (from_d 6 (omega arith) (λ i. omega (arith, i)) (λ i. omega (arith, i))) ∙ off)
  six_of P x0 x1 x2 x6 x8 x9 (slots.StreamsBlocked Bidi) own off = x8 (sym (bit_here d 8 e t he) ∙ sym (bit_other e 9 f 8 u hf (omega arith) (λ i. omega (arith, i))) ∙ off)
  six_of P x0 x1 x2 x6 x8 x9 (slots.StreamsBlocked Uni) own off = x9 (sym (bit_here e 9 f u hf) ∙ off)
  six_of P x0 x1 x2 x6 x8 x9 slot own off = absurd (omega (arith, own))

-- Slots and sorts

-- what holds of the connection's own slots and of those of streams holds of each
pub each_slot : (P : Slot → Type 0) → ((s : Slot) → own_items s ≡ 1 → P s) → ((kind : Kind) (n : ℕ) → P (slot_at kind n)) → (s : Slot) → P s
each_slot P own of (slots.ResetStream n) = of kinds.ResetStream n
each_slot P own of (slots.StopSending n) = of kinds.StopSending n
each_slot P own of (slots.MaxStreamData n) = of kinds.MaxStreamData n
each_slot P own of (slots.StreamDataBlocked n) = of kinds.StreamDataBlocked n
each_slot P own of s = own s refl

-- an item of the connection itself has no mark
own_at : (kind : Kind) (n : ℕ) → own_items (slot_at kind n) ≡ 0
own_at kind n = grind (arith, nat_tests)

pub own_marked : (t : Tables (List ℕ)) (slot : Slot) → own_items slot ≡ 1 → IsMarkedAt t slot
own_marked t slot own kind n is = absurd (let none = own_at kind n in let here = ap own_items is in omega (arith, own, none, here))

-- it is alone at its place
pub own_place_is : (slot : Slot) → own_items slot ≡ 1 → ((slot_place slot).0, 0) ≡ slot_place slot
own_place_is slot own = grind (arith, nat_tests)

pub own_past_is : (slot : Slot) → own_items slot ≡ 1 → slot_past slot ≡ ((slot_place slot).0 + 1, 0)
own_past_is (slots.MaxStreams d) own = grind arith
own_past_is (slots.StreamsBlocked d) own = grind arith
own_past_is slot own = grind (arith, nat_tests)

pub place_small : (slot : Slot) → (slot_place slot).0 < 10
place_small (slots.MaxStreams Bidi) = omega arith
place_small (slots.MaxStreams Uni) = omega arith
place_small (slots.StreamsBlocked Bidi) = omega arith
place_small (slots.StreamsBlocked Uni) = omega arith
place_small slot = grind (arith, nat_tests)

-- how many items of the connection itself come before a sort, and with it
pub own_before : (place : ℕ) (sort : Sort) → IsSortAt place sort → own_of sort + own_below place ≤ own_below (place + 1)
own_before place (sorts.Streams kind) at = grind (arith, nat_tests)
own_before place (sorts.Own slots.MaxData) at = omega (arith, at.0)
own_before place (sorts.Own (slots.MaxStreams Bidi)) at = omega (arith, at.0)
own_before place (sorts.Own (slots.MaxStreams Uni)) at = omega (arith, at.0)
own_before place (sorts.Own slots.DataBlocked) at = omega (arith, at.0)
own_before place (sorts.Own (slots.StreamsBlocked Bidi)) at = omega (arith, at.0)
own_before place (sorts.Own (slots.StreamsBlocked Uni)) at = omega (arith, at.0)
own_before place (sorts.Own slot) at = absurd (omega (arith, at.1))

pub own_rises : (a b : ℕ) → a ≤ b → own_below a ≤ own_below b
own_rises a b le = omega (arith, le)

pub own_most : (a : ℕ) → own_below a ≤ 6
own_most a = omega arith

pub sort_is : (place : ℕ) (sort : Sort) → IsSortAt place sort → sort_place sort ≡ place
sort_is place (sorts.Own slot) at = at.0
sort_is place (sorts.Streams kind) at = at

pub sort_there : (place : ℕ) (sort : Sort) → IsSortAt place sort → IsSortAt (sort_place sort) sort
sort_there place (sorts.Own slot) at = (refl, at.1)
sort_there place (sorts.Streams kind) at = refl

-- A step of the walk: between two bits that follow one another all that is current was told.
module _ (e : End) (word from : ℕ) (idle : (s : Slot) → on word (slot_place s).0 ≡ false → IsIdle e s) where
  between : (to : ℕ) → ((i : ℕ) → from ≤ i → i < 64 → i < to → bit_at word i ≡ 0) → AddsIdle e (IsPassed (from, 0)) (IsPassed (to, 0))
  between to clear s passed =
      elim (cases_lt (slot_place s).0 from) [
        | inl lt ↦ inl (inl lt)
        | inr ge ↦ (
            let small = place_small s in
            let lt : (slot_place s).0 < to = elim passed [ inl lt ↦ lt | inr (same, none) ↦ absurd (omega (arith, none)) ] in
            inr (idle s (off_bit word (slot_place s).0 (clear (slot_place s).0 (omega (arith, ge)) (omega (arith, small)) lt))))
      ]

  pub walk_to : (to : ℕ) (answer : Option ℕ) → IsLowestBit word from answer → answer ≡ Some to → AddsIdle e (IsPassed (from, 0)) (IsPassed (to, 0))
  walk_to to answer lowest is = between to (λ i ge small lt. lowest.clear i ge small (subst (IsBefore i) (sym is) lt))

  pub walk_end : (answer : Option ℕ) → IsLowestBit word from answer → answer ≡ None → AddsIdle e (IsPassed (from, 0)) (IsPassed all_items)
  walk_end answer lowest is = between 10 (λ i ge small lt. lowest.clear i ge small (subst (IsBefore i) (sym is) tt))

pub found_small : (word from to : ℕ) (answer : Option ℕ) → IsLowestBit word from answer → answer ≡ Some to → ((t : ℕ) → 10 ≤ t → t < 64 → on word t ≡ false) → (from ≤ to) × (to < 10)
found_small word from to answer lowest is few =
    let (ge, small, set) = lowest.found to is in
    (ge, elim (cases_lt to 10) [ inl lt ↦ lt | inr past ↦ absurd (true≢false (sym (on_bit word to set) ∙ few to past small)) ])

-- a slot of which nothing is due
pub idle_if_none : (e : End) (slot : Slot) (item : Option Item) → is_some item ≡ false → IsDueIn e slot item → IsIdle e slot
idle_if_none e slot None none idle = idle
idle_if_none e slot (Some i) some due = absurd (true≢false some)

pub own_at_sort : (sort : Sort) (slot : Slot) → sort ≡ sorts.Own slot → IsSortAt (sort_place sort) sort → own_items slot ≡ 1
own_at_sort sort slot is at = (rw is at at).1

pub first_is : (kind : Kind) → kind_first kind ≡ ((kind_first kind).0, 0)
first_is kinds.ResetStream = refl
first_is kinds.StopSending = refl
first_is kinds.MaxStreamData = refl
first_is kinds.StreamDataBlocked = refl

-- What a walk that asks tells

pub due_found : (e : End) (slot : Slot) (item : Option Item) → is_some item ≡ true → IsDueIn e slot item → (i : Item) × IsDueItem e i
due_found e slot None none due = absurd (true≢false (sym none))
due_found e slot (Some i) some due = (i, (due.0.0, due.1))

pub slot_none : (e : End) (slot : Slot) (item : Option Item) (b : Bool) → b ≡ is_some item → b ≡ false → IsDueIn e slot item → TellsDue false e (slot_place slot) → TellsDue false e (slot_past slot)
slot_none e slot item b is off due before = subst (λ x. TellsDue x e (slot_past slot)) (sym is ∙ off) (tells_item e slot item due before)

module _ (e : End) (b : Bool) (place : ℕ) (sort : Sort) (at : IsSortAt place sort) (told : TellsDue false e (sort_place sort, 0) → TellsDue b e (sort_place sort + 1, 0)) (before : TellsDue false e (place, 0)) where
  asked : TellsDue b e (sort_place sort + 1, 0)
  asked = told (subst (λ k. TellsDue false e (k, 0)) (sym (sort_is place sort at)) before)

  pub sort_none : b ≡ false → TellsDue false e (place + 1, 0)
  sort_none off = subst (λ k. TellsDue false e (k + 1, 0)) (sort_is place sort at) (subst (λ x. TellsDue x e (sort_place sort + 1, 0)) off asked)

  pub sort_some : b ≡ true → (i : Item) × IsDueItem e i
  sort_some set = subst (λ x. TellsDue x e (sort_place sort + 1, 0)) set asked

-- so many items of the connection itself come with a sort at most, where those up to an earlier place went
module _ (from place : ℕ) (sort : Sort) (at : IsSortAt place sort) (le : from ≤ place) where
  pub own_next : own_below from + own_of sort ≤ own_below (place + 1)
  own_next = (let one = own_before place sort at in let up = own_rises from place le in omega (arith, one, up))

  pub own_room : own_of sort ≤ 6 - own_below from
  own_room = (let next = own_next in let most = own_most (place + 1) in omega (arith, next, most))

  pub own_all : own_below from + own_of sort ≤ 6
  own_all = (let next = own_next in let most = own_most (place + 1) in omega (arith, next, most))
