-- What an end knows to be acknowledged, fact by fact, and what pieces add to it.
use Rattle.std.proofs.Common.{◌≡◌, ℕ, ◌+◌, ◌<◌, ◌≤◌, nat_cmp, Bool, true, cond, List, [], ◌∷◌, ◌⊎◌, max, Option, Some, None, refl, sym, ap, ◌∙◌, arith, inl, inr}
use Rattle.std.specs.FinMap as fmap
use Rattle.std.specs.FinSet as set
use Rattle.std.specs.Ordering.{eq_by_cmp}
use Rattle.std.specs.Cmp.{nat_cmp_total, unsigned_tied}
use Rattle.std.proofs.lemmas.Bool.{eqb-true, or_cases}
use Rattle.std.proofs.lemmas.Bool.Decides.{nat_tests}
use Rattle.std.proofs.lemmas.Option.{same_Some}
use Rattle.qs_ranges.specs.Numbers.{is_within, contains-with_range}
use Rattle.qs_wire.specs.declared.stream_id.Dir.TheVariants.{Bidi, Uni}
use Rattle.qs_send.specs.Lane.{SendLane, acked_lane, reset_acked_lane}
use Rattle.qs_send.specs.Records.{Among}
use Rattle.qs_send.specs.declared.piece.Item.{Item}
use Rattle.qs_send.specs.declared.piece.Item.TheVariants.{MaxData, MaxStreamData, MaxStreams, ResetStream, StopSending, DataBlocked, StreamDataBlocked, StreamsBlocked}
use Rattle.qs_send.specs.declared.piece.Piece.{Piece}
use Rattle.qs_send.specs.declared.piece.Piece.TheVariants.{Data, Told}
use Rattle.qs_machine.specs.Tables.{Tables, lookup, updated}
use Rattle.qs_machine.specs.Ends.{End, AckedItems}
use Rattle.qs_machine.specs.Acked.{greatest, greatest_of, or_zero}
use Rattle.qs_machine.specs.FrameStep.{piece_acked, item_acked}
use Rattle.qs_machine.proofs.TableLaws.{slots_updated}
use Rattle.qs_progress.specs.Score.{reaches, is_done}
use Rattle.qs_progress.specs.Outstanding.{IsWhollyAcked}

-- an offset of a stream, its end, its reset, or an item
pub data Fact : Type 0 where
  Offset : (n q : ℕ) → Fact
  Ending : (n : ℕ) → Fact
  Resetting : (n : ℕ) → Fact
  Telling : (i : Item) → Fact

-- it is acknowledged
abbrev pub Holds : End → Fact → Type 0
Holds e (Offset n q) = (l : SendLane) × (lookup e.sends n ≡ Some l) × (set.contains l.acked q ≡ true)
Holds e (Ending n) = (l : SendLane) × (lookup e.sends n ≡ Some l) × (l.fin_acked ≡ true)
Holds e (Resetting n) = (l : SendLane) × (lookup e.sends n ≡ Some l) × (l.reset_acked ≡ true)
Holds e (Telling i) = is_done e.acked i ≡ true

-- an item tells another one, too: it is the same with a value that isn't lower
abbrev pub Covers : Item → Item → Type 0
Covers (MaxData v) (MaxData m) = m ≤ v
Covers (MaxStreamData n v) (MaxStreamData k m) = (k ≡ n) × (m ≤ v)
Covers (MaxStreams Bidi v) (MaxStreams Bidi m) = m ≤ v
Covers (MaxStreams Uni v) (MaxStreams Uni m) = m ≤ v
Covers (StopSending n code) (StopSending k other) = k ≡ n
Covers (DataBlocked v) (DataBlocked m) = m ≤ v
Covers (StreamDataBlocked n v) (StreamDataBlocked k m) = (k ≡ n) × (m ≤ v)
Covers (StreamsBlocked Bidi v) (StreamsBlocked Bidi m) = m ≤ v
Covers (StreamsBlocked Uni v) (StreamsBlocked Uni m) = m ≤ v
Covers j i = ⊥

-- what a piece tells, once it is acknowledged
abbrev pub Gives : Piece → Fact → Type 0
Gives (Data n c) (Offset m q) = (m ≡ n) × (c.offset ≤ q) × (q < c.offset + c.len)
Gives (Data n c) (Ending m) = (m ≡ n) × (c.fin ≡ true)
Gives (Told (ResetStream n code size)) (Resetting m) = m ≡ n
Gives (Told j) (Telling i) = Covers j i
Gives p x = ⊥

-- Items

covers_done : (x : AckedItems) (j i : Item) → Covers j i → is_done x j ≡ true → is_done x i ≡ true
covers_done x j i le is = grind (arith, nat_tests)

greatest_one : (o : Option ℕ) (v m : ℕ) → reaches (greatest o v) m ≡ true → (reaches o m ≡ true) ⊎ (m ≤ v)
greatest_one o v m is = grind (arith, nat_tests)

greatest_of_one : (values : fmap.FinMap nat_cmp ℕ) (n v k m : ℕ) → reaches (fmap.get (greatest_of values n v) k) m ≡ true → (reaches (fmap.get values k) m ≡ true) ⊎ ((k ≡ n) × (m ≤ v))
greatest_of_one values n v k m is = go (eq_by_cmp nat_cmp k n) refl (sym (ap (λ o. reaches o m) (fmap.get-insert nat_cmp_total values n (max (or_zero (fmap.get values n)) v) k)) ∙ is)
  where
    go : (b : Bool) → eq_by_cmp nat_cmp k n ≡ b → reaches (cond b (Some (max (or_zero (fmap.get values n)) v)) (fmap.get values k)) m ≡ true → (reaches (fmap.get values k) m ≡ true) ⊎ ((k ≡ n) × (m ≤ v))
    go b other was = grind (arith, nat_tests)

item_step : (j : Item) (e : End) (i : Item) → is_done (item_acked j e).acked i ≡ true → (is_done e.acked i ≡ true) ⊎ Covers j i
item_step (MaxData v) e (MaxData m) is = greatest_one e.acked.max_data v m is
item_step (MaxStreamData n v) e (MaxStreamData k m) is = greatest_of_one e.acked.max_stream_data n v k m is
item_step (MaxStreams Bidi v) e (MaxStreams Bidi m) is = greatest_one e.acked.bidi_streams v m is
item_step (MaxStreams Bidi v) e i is = inl is
item_step (MaxStreams Uni v) e (MaxStreams Uni m) is = greatest_one e.acked.uni_streams v m is
item_step (MaxStreams Uni v) e i is = inl is
item_step (StopSending n code) e (StopSending k other) is =
    elim (or_cases (eq_by_cmp nat_cmp k n) (set.contains e.acked.stop_sending k) (sym (set.contains-insert nat_cmp_total e.acked.stop_sending n k) ∙ is)) [
      | inl same ↦ inr (eqb-true k n (sym (unsigned_tied k n) ∙ same))
      | inr was ↦ inl was
    ]
item_step (DataBlocked v) e (DataBlocked m) is = greatest_one e.acked.data_blocked v m is
item_step (StreamDataBlocked n v) e (StreamDataBlocked k m) is = greatest_of_one e.acked.stream_data_blocked n v k m is
item_step (StreamsBlocked Bidi v) e (StreamsBlocked Bidi m) is = greatest_one e.acked.bidi_blocked v m is
item_step (StreamsBlocked Bidi v) e i is = inl is
item_step (StreamsBlocked Uni v) e (StreamsBlocked Uni m) is = greatest_one e.acked.uni_blocked v m is
item_step (StreamsBlocked Uni v) e i is = inl is
item_step j e i is = inl is

-- Halves

edited_back : (t : Tables SendLane) (n : ℕ) (f : SendLane → SendLane) (m : ℕ) (k : SendLane) → lookup (updated t n f (lookup t n)) m ≡ Some k → (l : SendLane) × (lookup t m ≡ Some l) × (((m ≡ n) × (k ≡ f l)) ⊎ (k ≡ l))
edited_back t n f m k is = go (lookup t n) refl is
  where
    go : (o : Option SendLane) → lookup t n ≡ o → lookup (updated t n f o) m ≡ Some k → (l : SendLane) × (lookup t m ≡ Some l) × (((m ≡ n) × (k ≡ f l)) ⊎ (k ≡ l))
    go None none at = (k, at, inr refl)
    go (Some x) there at =
        slots_updated (λ j o. o ≡ Some k → (l : SendLane) × (lookup t j ≡ Some l) × (((j ≡ n) × (k ≡ f l)) ⊎ (k ≡ l))) t n x (f x) there
        (λ j ne here. (k, here, inr refl))
        (λ same. (x, there, inl (refl, sym (same_Some (f x) k same)))) m at

-- the piece is acknowledged: each fact was so before, or the piece tells it
fact_step : (p : Piece) (e : End) (x : Fact) → Holds (piece_acked p e) x → Holds e x ⊎ Gives p x
fact_step (Data n c) e (Offset m q) (k, at, is) =
    let (l, there, how) = edited_back e.sends n (λ y. acked_lane y c) m k at in
    elim how [
      | inl (same, e1) ↦ elim (or_cases (set.contains l.acked q) (is_within c.offset (c.offset + c.len) q) (sym (contains-with_range l.acked c.offset (c.offset + c.len) q) ∙ ap (λ (y : SendLane). set.contains y.acked q) (sym e1) ∙ is)) [
        | inl was ↦ inl (l, there, was)
        | inr within ↦ inr (same, (grind (arith, nat_tests, within)), (grind (arith, nat_tests, within)))
      ]
      | inr e1 ↦ inl (l, there, ap (λ (y : SendLane). set.contains y.acked q) (sym e1) ∙ is)
    ]
fact_step (Data n c) e (Ending m) (k, at, is) =
    let (l, there, how) = edited_back e.sends n (λ y. acked_lane y c) m k at in
    elim how [
      | inl (same, e1) ↦ elim (or_cases l.fin_acked c.fin (ap (λ (y : SendLane). y.fin_acked) (sym e1) ∙ is)) [
        | inl was ↦ inl (l, there, was)
        | inr fin ↦ inr (same, fin)
      ]
      | inr e1 ↦ inl (l, there, ap (λ (y : SendLane). y.fin_acked) (sym e1) ∙ is)
    ]
fact_step (Data n c) e (Resetting m) (k, at, is) =
    let (l, there, how) = edited_back e.sends n (λ y. acked_lane y c) m k at in
    elim how [
      | inl (same, e1) ↦ inl (l, there, ap (λ (y : SendLane). y.reset_acked) (sym e1) ∙ is)
      | inr e1 ↦ inl (l, there, ap (λ (y : SendLane). y.reset_acked) (sym e1) ∙ is)
    ]
fact_step (Data n c) e (Telling i) is = inl is
fact_step (Told (ResetStream n code size)) e (Offset m q) (k, at, is) =
    let (l, there, how) = edited_back e.sends n reset_acked_lane m k at in
    elim how [
      | inl (same, e1) ↦ inl (l, there, ap (λ (y : SendLane). set.contains y.acked q) (sym e1) ∙ is)
      | inr e1 ↦ inl (l, there, ap (λ (y : SendLane). set.contains y.acked q) (sym e1) ∙ is)
    ]
fact_step (Told (ResetStream n code size)) e (Ending m) (k, at, is) =
    let (l, there, how) = edited_back e.sends n reset_acked_lane m k at in
    elim how [
      | inl (same, e1) ↦ inl (l, there, ap (λ (y : SendLane). y.fin_acked) (sym e1) ∙ is)
      | inr e1 ↦ inl (l, there, ap (λ (y : SendLane). y.fin_acked) (sym e1) ∙ is)
    ]
fact_step (Told (ResetStream n code size)) e (Resetting m) (k, at, is) =
    let (l, there, how) = edited_back e.sends n reset_acked_lane m k at in
    elim how [
      | inl (same, e1) ↦ inr same
      | inr e1 ↦ inl (l, there, ap (λ (y : SendLane). y.reset_acked) (sym e1) ∙ is)
    ]
fact_step (Told (ResetStream n code size)) e (Telling i) is = inl is
fact_step (Told (MaxStreams Uni m)) e (Telling i) is = item_step (MaxStreams Uni m) e i is
fact_step (Told (MaxStreams Uni m)) e (Offset k q) is = inl is
fact_step (Told (MaxStreams Uni m)) e (Ending k) is = inl is
fact_step (Told (MaxStreams Uni m)) e (Resetting k) is = inl is
fact_step (Told (StreamsBlocked Uni m)) e (Telling i) is = item_step (StreamsBlocked Uni m) e i is
fact_step (Told (StreamsBlocked Uni m)) e (Offset k q) is = inl is
fact_step (Told (StreamsBlocked Uni m)) e (Ending k) is = inl is
fact_step (Told (StreamsBlocked Uni m)) e (Resetting k) is = inl is
fact_step (Told j) e (Telling i) is = item_step j e i is
fact_step (Told j) e (Offset k q) is = inl is
fact_step (Told j) e (Ending k) is = inl is
fact_step (Told j) e (Resetting k) is = inl is

-- what a piece tells holds where it is acknowledged
pub given : (p : Piece) (e : End) (x : Fact) → Gives p x → IsWhollyAcked e p → Holds e x
given (Data n c) e (Offset m q) (same, low, high) (l, at, all, end) = (l, ap (lookup e.sends) same ∙ at, all q low high)
given (Data n c) e (Ending m) (same, fin) (l, at, all, end) = (l, ap (lookup e.sends) same ∙ at, end fin)
given (Told (ResetStream n code size)) e (Resetting m) same (l, at, acked) = (l, ap (lookup e.sends) same ∙ at, acked)
given (Told (ResetStream n code size)) e (Telling i) none reached = absurd none
given (Told j) e (Telling i) covers reached = covers_done e.acked j i covers reached
given p e x none reached = absurd none

-- Pieces, one after the other

abbrev pub pieces_acked : List Piece → End → End
pieces_acked [] e = e
pieces_acked (p ∷ ps) e = pieces_acked ps (piece_acked p e)

-- each fact was so before, or one of them tells it
pub facts_step : (ps : List Piece) (e : End) (x : Fact) → Holds (pieces_acked ps e) x → Holds e x ⊎ ((p : Piece) × Among p ps × Gives p x)
facts_step [] e x is = inl is
facts_step (p ∷ ps) e x is =
    elim (facts_step ps (piece_acked p e) x is) [
      | inr (r, among, gives) ↦ inr (r, inr among, gives)
      | inl now ↦ elim (fact_step p e x now) [ inl was ↦ inl was | inr gives ↦ inr (p, inl refl, gives) ]
    ]

-- so another end at which all of this holds knows no less
abbrev pub Under : End → End → Type 0
Under e f = (x : Fact) → Holds e x → Holds f x

pub under_all : (ps : List Piece) (e f : End) → Under e f → ((p : Piece) → Among p ps → IsWhollyAcked f p) → Under (pieces_acked ps e) f
under_all ps e f under reached x is =
    elim (facts_step ps e x is) [
      | inl was ↦ under x was
      | inr (p, among, gives) ↦ given p f x gives (reached p among)
    ]
