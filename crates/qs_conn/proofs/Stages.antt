-- Slots are passed in the order in which a packet takes their items.
use Rattle.qs_conn.specs.declared.due.Slot.TheVariants as slots
use Rattle.qs_conn.specs.declared.due.Kind.TheVariants as kinds
use borrow.Rule.Slice.PartMut.{put_mid}
use Rattle.std.specs.FinSet as set
use Rattle.std.specs.FinMap as fmap
use Rattle.std.proofs.lemmas.Bool.Decides.{nat_tests}
use Rattle.std.proofs.Common.{◌≡◌, ℕ, ◌+◌, ◌<◌, ◌≤◌, refl, sym, subst, arith, inl, inr, ◌-◌, ◌^◌, List, [], ◌∷◌, ◌++◌, length, take, drop, get_or, ap, ◌∙◌, Bool, zero, suc, true, false, map, None, is_some, cond, ◌≢◌, ◌||◌, ◌⊎◌, Some}
use Rattle.std.proofs.lemmas.Bool.{cases_lt, true≢false, or_left, or_cases, both_ways, cond_both}
use Rattle.qs_send.specs.declared.piece.Item.{Item}
use Rattle.qs_send.specs.declared.piece.Item.TheVariants.{MaxStreams, StreamsBlocked}
use Rattle.qs_machine.specs.Ends.{End}
use Rattle.qs_machine.specs.InOrder.{IsLower, item_place}
use Rattle.qs_conn.specs.declared.due.Slot.{Slot}
use Rattle.qs_conn.specs.declared.due.Kind.{Kind}
use Rattle.qs_wire.specs.declared.stream_id.Dir.TheVariants.{Bidi, Uni}
use Rattle.qs_conn.specs.Filling.{slot_of, slot_at, slot_place, slot_past, kind_past, all_items, IsPassed, frame_of_item, IsWished, IsAckLeft, InPacket, IsAckText, Begun, no_slot, IsCurrentIn, HasWished, Framed, Content, Packed}
use Rattle.qs_conn.specs.Marks.{IsIdle, AddsIdle}
use Rattle.std.specs.List.{AllByRecursion}
use Rattle.std.proofs.lemmas.List.{length-append, length-take-le, take-append-drop, drop_at, map-append, append-nil, length-reverse, take_all}
use Rattle.qs_recv.proofs.RingLaws.{rest_written}
use Rattle.std.proofs.lemmas.Grind.{flat_map-append, common_steps, reverse_onto}
use Rattle.qs_wire.specs.Varint.{short}
use Rattle.qs_wire.specs.Layout.{FrameValue, number_of_type, layout, ack, ack_ranges_of}
use Rattle.qs_wire.specs.Grammar.{Fits, IsControl, canonical, canonical_all, spelled, short_fields}
use Rattle.qs_wire.specs.Acks.{ack_of, AreAckPairs, AreApartBelow, gaps_below, inclusive}
use Rattle.qs_wire.proofs.Numbers.{short_most, short_positive}
use Rattle.qs_wire.proofs.PairLaws.{last_below, text_more_len, length-ack_take, lies_below, last_le, ranges_of_pairs, ack_fits}
use Rattle.qs_machine.specs.Seen.{Control, seen, seen_all, Ack, Seen, asks_ack, any_asks}
use Rattle.qs_machine.specs.Making.{IsText, IsPlainAck, NamesMost, IsMade}
use Rattle.qs_conn.proofs.EachItem.{each_item}
use Rattle.std.specs.Prelude.{All, reverse}
use Rattle.std.proofs.lemmas.List.Elements.{All-head, All-tail}
use Rattle.qs_ranges.specs.Numbers.{NumberSet, is_within, run_starts, numbers, contains-with_range}
use Rattle.qs_ranges.specs.Runs.{Runs, AreApartFrom, AreRunsOf, has_number}
use Rattle.qs_ranges.proofs.Edits.{has_number-append, set_of-is, len-run_starts}
use Rattle.qs_send.specs.declared.piece.Piece.{Piece}
use Rattle.qs_send.specs.declared.piece.Piece.TheVariants.{Data, Told}
use Rattle.qs_machine.specs.Credit.{all_sent, settle}
use Rattle.qs_machine.specs.FrameStep.{is_named}
use Rattle.qs_machine.specs.Lawful.{MayAck, Fills, AreInTurn, frame_put, MayPut, HasAll, IsInTurn}
use Rattle.qs_conn.specs.declared.filling.Wish.{Wish}
use Rattle.qs_machine.specs.Filling.{stream_bytes, IsAsked, bytes_in, bytes_left, EndGoesAlone}
use Rattle.qs_conn.proofs.Untolds.{order_first, put_packet, due_more, end_due_more, goes_less, order_put, item_in, current_by_base, acked_by_base, sum_by_base, known_by_base, base_item, fills_push, out_old, out_is}
use Rattle.std.specs.Ordering.{nat_cmp}
use Rattle.qs_ranges.proofs.Sets.{contains-run_starts, len-run_starts-with_range, len-run_starts-without_lowest}
use Rattle.qs_send.specs.Lane.{SendLane, reset_lane, reset_refusal, broken_off, stop_taken}
use Rattle.qs_machine.specs.Tables.{Tables, no_streams, lookup, updated, total}
use Rattle.qs_machine.specs.Recording.{has_too_many, lowest_end}
use Rattle.qs_machine.specs.Outgoing.{Outgoing, sent_sum, piece_acked_out, item_put_out}
use Rattle.qs_machine.proofs.TableLaws.{total_update}
use Rattle.qs_machine.proofs.RunLaws.{lowest_run, lowest_end_is}
use Rattle.qs_send.proofs.Numbers.{frame_len_is_canonical}
use Rattle.qs_wire.proofs.Lengths.{control_short}
use Rattle.qs_send.specs.declared.parts.Chunk.{Chunk}
use Rattle.qs_machine.specs.Due.{Among, IsCurrent, IsCovered, IsDueItem, StreamGoes}
use Rattle.qs_machine.proofs.Carried.{get_new, among_more, among_last}
use Rattle.std.proofs.Math.Bool.{or-false}

-- the slots of items stand in the order of items
lower_slots : (i j : Item) → IsLower (item_place j) (item_place i) → IsLower (slot_place (slot_of j)) (slot_place (slot_of i))
lower_slots i j lower = grind (arith, nat_tests)

-- each item has a slot that is passed
pub passed_all : (i : Item) → IsPassed all_items (slot_of i)
passed_all (MaxStreams Bidi m) = grind arith
passed_all (MaxStreams Uni m) = grind arith
passed_all (StreamsBlocked Bidi m) = grind arith
passed_all (StreamsBlocked Uni m) = grind arith
passed_all _ = grind arith

-- and no slot before the first place
none_before : (s : Slot) → IsPassed no_slot s → ⊥
none_before s lower = omega (arith, lower)

-- no slot lies between one and the next place
pub passed_slot : (slot s : Slot) → IsPassed (slot_past slot) s → IsPassed (slot_place slot) s ⊎ (s ≡ slot)
passed_slot slot s lower = grind (arith, nat_tests)

-- the slots of a kind that come before no more than those below a number
passed_kind : (kind : Kind) (from : ℕ) (s : Slot) → IsPassed (kind_past kind) s → IsPassed (slot_place (slot_at kind from)) s ⊎ ((n : ℕ) × (from ≤ n) × (s ≡ slot_at kind n))
passed_kind kinds.ResetStream from (slots.ResetStream m) lower = elim (cases_lt m from) [ inl below ↦ inl (inr (refl, below)) | inr ge ↦ inr (m, ge, refl) ]
passed_kind kinds.StopSending from (slots.StopSending m) lower = elim (cases_lt m from) [ inl below ↦ inl (inr (refl, below)) | inr ge ↦ inr (m, ge, refl) ]
passed_kind kinds.MaxStreamData from (slots.MaxStreamData m) lower = elim (cases_lt m from) [ inl below ↦ inl (inr (refl, below)) | inr ge ↦ inr (m, ge, refl) ]
passed_kind kinds.StreamDataBlocked from (slots.StreamDataBlocked m) lower = elim (cases_lt m from) [ inl below ↦ inl (inr (refl, below)) | inr ge ↦ inr (m, ge, refl) ]
passed_kind kind from s lower = inl (grind (arith))

-- Slots of which all that is current was told

pub adds_slot : (e : End) (slot : Slot) → IsIdle e slot → AddsIdle e (IsPassed (slot_place slot)) (IsPassed (slot_past slot))
adds_slot e slot idle s p = elim (passed_slot slot s p) [ inl was ↦ inl was | inr is ↦ inr (subst (IsIdle e) (sym is) idle) ]

module _ (e : End) (kind : Kind) (from : ℕ) where
  -- those of all further streams
  pub adds_kind : ((n : ℕ) → from ≤ n → IsIdle e (slot_at kind n)) → AddsIdle e (IsPassed (slot_place (slot_at kind from))) (IsPassed (kind_past kind))
  adds_kind idle s p = elim (passed_kind kind from s p) [ inl was ↦ inl was | inr (n, ge, at) ↦ inr (subst (IsIdle e) (sym at) (idle n ge)) ]

  -- those of streams up to a number
  pub adds_below : (to : ℕ) → ((n : ℕ) → from ≤ n → n < to → IsIdle e (slot_at kind n)) → AddsIdle e (IsPassed (slot_place (slot_at kind from))) (IsPassed (slot_place (slot_at kind to)))
  adds_below to idle s p =
      elim (passed_kind kind from s (within kind to s p)) [ inl was ↦ inl was | inr (n, ge, at) ↦ inr (subst (IsIdle e) (sym at) (idle n ge (below kind to n (subst (IsPassed (slot_place (slot_at kind to))) at p)))) ]
    where
      within : (kind : Kind) (to : ℕ) (s : Slot) → IsPassed (slot_place (slot_at kind to)) s → IsPassed (kind_past kind) s
      within kind to s p = grind (arith, nat_tests)

      below : (kind : Kind) (to n : ℕ) → IsPassed (slot_place (slot_at kind to)) (slot_at kind n) → n < to
      below kind to n p = grind (arith, nat_tests)

-- the slot of the next stream
pub past_at : (kind : Kind) (n : ℕ) (slot : Slot) → slot ≡ slot_at kind n → slot_past slot ≡ slot_place (slot_at kind (n + 1))
past_at kinds.ResetStream n slot is = ap slot_past is
past_at kinds.StopSending n slot is = ap slot_past is
past_at kinds.MaxStreamData n slot is = ap slot_past is
past_at kinds.StreamDataBlocked n slot is = ap slot_past is

-- ---- The text of a packet grows by one frame after the other.

pub all_push : {X : Type 0} (P : X → Type 0) (xs : List X) (x : X) → AllByRecursion P xs → P x → AllByRecursion P (xs ++ x ∷ [])
all_push P [] x all p = (p, all)
all_push P (y ∷ xs) x all p = (all.0, all_push P xs x all.1 p)

-- no frame, no byte
pub no_text : (delay : ℕ) → IsText delay [] []
no_text delay = record { fits = tt; plain = tt; canonical = refl }

pub text_push : (delay : ℕ) (frames : List FrameValue) (text : List ℕ) (f : FrameValue) → IsText delay frames text → Fits f → IsPlainAck delay f → IsText delay (frames ++ f ∷ []) (text ++ canonical f)
text_push delay frames text f is fits plain =
    record {
      fits = all_push Fits frames f is.fits fits;
      plain = all_push (IsPlainAck delay) frames f is.plain plain;
      canonical = ap (λ t. t ++ canonical f) is.canonical ∙ ap (λ t. canonical_all frames ++ t) (sym (append-nil (canonical f))) ∙ sym (flat_map-append canonical frames (f ∷ []));
    }

pub seen_push : (frames : List FrameValue) (f : FrameValue) → seen_all (frames ++ f ∷ []) ≡ seen_all frames ++ seen f ∷ []
seen_push frames f = map-append seen frames (f ∷ [])

-- Items

pub seen_item : (i : Item) → seen (frame_of_item i) ≡ Control i
seen_item i = each_item (λ j. seen (frame_of_item j) ≡ Control j) (λ m. refl) (λ n m. refl) (λ d m. refl) (λ n code size. refl) (λ n code. refl) (λ m. refl) (λ n m. refl) (λ d m. refl) i

pub plain_item : (delay : ℕ) (i : Item) → IsPlainAck delay (frame_of_item i)
plain_item delay i = each_item (λ j. IsPlainAck delay (frame_of_item j)) (λ m. tt) (λ n m. tt) (λ d m. tt) (λ n code size. tt) (λ n code. tt) (λ m. tt) (λ n m. tt) (λ d m. tt) i

-- no item is an ACK
pub item_most : (old : End) (delay room : ℕ) (i : Item) → NamesMost old delay room (frame_of_item i)
item_most old delay room i = each_item (λ j. NamesMost old delay room (frame_of_item j)) (λ m. tt) (λ n m. tt) (λ d m. tt) (λ n code size. tt) (λ n code. tt) (λ m. tt) (λ n m. tt) (λ d m. tt) i

pub control_item : (i : Item) → IsControl (frame_of_item i)
control_item i = each_item (λ j. IsControl (frame_of_item j)) (λ m. tt) (λ n m. tt) (λ d m. tt) (λ n code size. tt) (λ n code. tt) (λ m. tt) (λ n m. tt) (λ d m. tt) i

-- Lengths

-- no frame has an empty text
pub text_some : (f : FrameValue) → 0 < length (canonical f)
unfolding canonical
text_some f = (let s = spelled f in omega (arith, length-append (short (number_of_type s.type)) (short_fields (layout s.type) s.values), short_positive (number_of_type s.type)))

pub no_frames : (delay : ℕ) (frames : List FrameValue) (text : List ℕ) → IsText delay frames text → text ≡ [] → frames ≡ []
no_frames delay [] text is none = refl
no_frames delay (f ∷ frames) text is none =
    let len : length (canonical f ++ canonical_all frames) ≡ 0 = ap length (sym is.canonical ∙ none) in
    absurd (omega (arith, len, length-append (canonical f) (canonical_all frames), text_some f))

-- Where an ACK of one range more would not fit, less than 25 bytes are left.
pub ack_left : (delay : ℕ) (pairs : List (ℕ × ℕ)) (k room : ℕ) → AreAckPairs pairs → 0 < k → k < length pairs → room < length (canonical (ack_of delay (take (k + 1) pairs))) → room < length (canonical (ack_of delay (take k pairs))) + 25
ack_left delay [] k room is some more much = absurd (omega arith)
ack_left delay (p ∷ ps) k room is some more much =
    let i : ℕ = k - 1 in
    let here : i < length ps = omega arith in
    let lies = lies_below p.0 ps i (0, 0) is.apart.2 here in
    let above = last_le p.0 ps i is.apart.2 in
    let q = get_or ps i (0, 0) in
    let gap : length (short ((last_below p.0 (take i ps) - q.1) - 1)) ≤ 8 = short_most _ (omega (arith, above, is.apart.0, is.apart.1)) in
    let len : length (short ((q.1 - 1) - q.0)) ≤ 8 = short_most _ (omega (arith, lies.below, above, is.apart.0, is.apart.1)) in
    let fewer = length-ack_take delay (p ∷ ps) ps i is refl (omega arith) in
    let longer = length-ack_take delay (p ∷ ps) ps (i + 1) is refl (omega arith) in
    let one : i + 1 ≡ k = omega arith in
    let two : i + 1 + 1 ≡ k + 1 = omega arith in
    let a : length (canonical (ack_of delay (take (i + 1) (p ∷ ps)))) ≡ length (canonical (ack_of delay (take k (p ∷ ps)))) = ap (λ n. length (canonical (ack_of delay (take n (p ∷ ps))))) one in
    let b : length (canonical (ack_of delay (take (i + 1 + 1) (p ∷ ps)))) ≡ length (canonical (ack_of delay (take (k + 1) (p ∷ ps)))) = ap (λ n. length (canonical (ack_of delay (take n (p ∷ ps))))) two in
    omega (arith, much, a, b, fewer, longer, text_more_len p.0 ps i (0, 0) here, gap, len)

-- what stands behind a text that was written into the rest of a slice
pub behind_text : (out text new : List ℕ) (at more : ℕ) → at ≤ length out → more ≡ length text → new ≡ text ++ drop more (take (length out - at) (drop at out)) → drop (at + more) (put_mid at (length out - at) out new) ≡ drop (at + more) out
behind_text out text new at more within len is =
    let whole = rest_written out out (take at out) text new at more (sym (take-append-drop at out)) (length-take-le at out within) within is in
    let front : length (take at out ++ text) ≡ at + more = omega (arith, length-append (take at out) text, length-take-le at out within, len) in
    ap (drop (at + more)) whole ∙ drop_at (take at out ++ text) (drop (at + more) out) (at + more) front

-- an ACK of one range has 26 bytes at most
pub ack_one : (delay : ℕ) (pairs : List (ℕ × ℕ)) → delay < 2 ^ 62 → AreAckPairs pairs → length (canonical (ack_of delay (take 1 pairs))) ≤ 26
ack_one delay [] small is = absurd (omega (arith, is.some))
ack_one delay (p ∷ ps) small is =
    let largest : length (short (p.1 - 1)) ≤ 8 = short_most (p.1 - 1) (omega (arith, is.apart.0, is.apart.1)) in
    let len : length (short ((p.1 - 1) - p.0)) ≤ 8 = short_most ((p.1 - 1) - p.0) (omega (arith, is.apart.0, is.apart.1)) in
    omega (arith, length-ack_take delay (p ∷ ps) ps 0 is refl (omega arith), largest, len, short_most delay small)

-- ---- The ACK of the kept numbers begins a packet.

-- How many ranges there are

pub count_runs : (s : NumberSet) (runs : Runs) → AreRunsOf s runs → length runs ≡ set.len (run_starts s)
count_runs s runs is = sym (ap (λ t. set.len (run_starts t)) (sym (set_of-is runs s (λ n. sym (is.members n)))) ∙ len-run_starts runs is.apart)

-- Highest first

last_push : (high : ℕ) (ps : Runs) (q : ℕ × ℕ) → last_below high (ps ++ q ∷ []) ≡ q.0
last_push high [] q = refl
last_push high (p ∷ ps) q = last_push p.0 ps q

below_push : (high : ℕ) (ps : Runs) (r : ℕ × ℕ) → AreApartBelow high ps → r.1 < last_below high ps → r.0 < r.1 → AreApartBelow high (ps ++ r ∷ [])
below_push high [] r a lt some = (lt, some, tt)
below_push high (p ∷ ps) r a lt some = (a.0, a.1, below_push p.0 ps r a.2 lt some)

abbrev EndsBelow : ℕ → Runs → Type 0
EndsBelow high [] = Unit {0}
EndsBelow high (r ∷ rs) = (r.1 < high) × EndsBelow high rs

reversed_apart : (low high : ℕ) (rs : Runs) → AreApartFrom low rs → EndsBelow high rs → AreApartBelow high (reverse rs)
reversed_apart low high [] a ends = tt
reversed_apart low high (r ∷ []) a ends = (ends.0, a.1, tt)
reversed_apart low high (r ∷ q ∷ rs) a ends =
    let rest : AreApartBelow high (reverse (q ∷ rs)) = reversed_apart (r.1 + 1) high (q ∷ rs) a.2 ends.1 in
    let last : last_below high (reverse (q ∷ rs)) ≡ q.0 = ap (last_below high) (reverse_onto rs q []) ∙ last_push high (reverse rs) q in
    subst (AreApartBelow high) (sym (reverse_onto (q ∷ rs) r [])) (below_push high (reverse (q ∷ rs)) r rest (omega (arith, last, a.2.0)) a.1)

has_reversed : (rs : Runs) (k : ℕ) → has_number (reverse rs) k ≡ has_number rs k
has_reversed [] k = refl
has_reversed (r ∷ rs) k = ap (λ xs. has_number xs k) (reverse_onto rs r []) ∙ has_number-append (reverse rs) (r ∷ []) k ∙ grind (arith, has_reversed rs k)

-- Named numbers

named_is : (high : ℕ) (ps : Runs) (k : ℕ) → AreApartBelow high ps → is_named (map inclusive ps) k ≡ has_number ps k
named_is high [] k a = refl
named_is high (p ∷ ps) k a = grind (arith, named_is p.0 ps k a.2)

has_below : (high : ℕ) (ps : Runs) (k : ℕ) → AreApartBelow high ps → has_number ps k ≡ true → k + 1 < high
has_below high [] k a there = grind (arith)
has_below high (p ∷ ps) k a there =
    elim (or_cases (is_within p.0 p.1 k) (has_number ps k) there) [
      | inl here ↦ (let lt : k < p.1 = grind (arith, nat_tests) in omega (arith, lt, a.0))
      | inr rest ↦ (let lt = has_below p.0 ps k a.2 rest in omega (arith, lt, a.0, a.1))
    ]

has_taken : (n : ℕ) (ps : Runs) (k : ℕ) → has_number (take n ps) k ≡ true → has_number ps k ≡ true
has_taken n ps k there = ap (λ xs. has_number xs k) (sym (take-append-drop n ps)) ∙ has_number-append (take n ps) (drop n ps) k ∙ or_left (has_number (take n ps) k) (has_number (drop n ps) k) there

abbrev high : ℕ
high = 2 ^ 62 + 1

-- among the first ranges is each that lies above one of them
has_higher : (top : ℕ) (ps : Runs) (n j k : ℕ) → AreApartBelow top ps → has_number (take n ps) j ≡ true → j ≤ k → has_number ps k ≡ true → has_number (take n ps) k ≡ true
has_higher top [] n j k a there le is = absurd (true≢false (sym is))
has_higher top (p ∷ ps) zero j k a there le is = absurd (true≢false (sym there))
has_higher top (p ∷ ps) (suc n) j k a there le is =
    elim (or_cases (is_within p.0 p.1 k) (has_number ps k) is) [
      | inl here ↦ or_left (is_within p.0 p.1 k) (has_number (take n ps) k) here
      | inr later ↦ (
          let below = has_below p.0 ps k a.2 later in
          elim (or_cases (is_within p.0 p.1 j) (has_number (take n ps) j) there) [
            | inl first ↦ (let ge : p.0 ≤ j = grind (arith, nat_tests) in absurd (omega (arith, ge, le, below)))
            | inr rest ↦ (let on = has_higher p.0 ps n j k a.2 rest le later in grind (arith))
          ])
    ]

-- the largest number of the first range
abbrev top_of : Runs → ℕ
top_of [] = 0
top_of (p ∷ ps) = p.1 - 1

apart_take : (smallest : ℕ) (ps : Runs) (i : ℕ) → AreApartBelow smallest ps → AreApartBelow smallest (take i ps)
apart_take smallest ps zero h = tt
apart_take smallest [] (suc i) h = tt
apart_take smallest (p ∷ ps) (suc i) h = (h.0, h.1, apart_take p.0 ps i h.2)

-- an ACK of some ranges
module _ (delay : ℕ) (old : End) (runs pairs : Runs) (is : AreRunsOf old.done runs) (highest : pairs ≡ reverse runs) (ok : AreAckPairs pairs) (due : old.ack_due ≡ true) (n : ℕ) (some : 0 < n) (within : n ≤ length pairs) where
  kept_is : (k : ℕ) → has_number pairs k ≡ set.contains old.done k
  kept_is k = ap (λ ps. has_number ps k) highest ∙ has_reversed runs k ∙ sym (is.members k)

  taken_ok : AreAckPairs (take n pairs)
  taken_ok = record { some = omega (arith, some, length-take-le n pairs within); few = omega (arith, ok.few, length-take-le n pairs within, within); apart = apart_take high pairs n ok.apart }

  abbrev pub frame : FrameValue
  frame = ack_of delay (take n pairs)

  abbrev pub ranges : List (ℕ × ℕ)
  ranges = map inclusive (take n pairs)

  named : (k : ℕ) → is_named ranges k ≡ has_number (take n pairs) k
  named k = named_is high (take n pairs) k taken_ok.apart

  seen_by : (ps : Runs) → AreAckPairs ps → seen (ack_of delay ps) ≡ Ack (top_of ps) (map inclusive ps)
  seen_by [] ok = absurd (omega (arith, ok.some))
  seen_by (p ∷ ps) ok = ap (Ack (p.1 - 1)) (ranges_of_pairs delay (p ∷ ps) ok)

  top_named : (ps : Runs) → AreAckPairs ps → has_number ps (top_of ps) ≡ true
  top_named ps ok = grind (arith, nat_tests)

  top_most : (ps : Runs) (m k : ℕ) → 0 < m → AreAckPairs ps → has_number ps k ≡ true → k ≤ top_of (take m ps)
  top_most ps m k pos ok there = grind (arith, nat_tests, or_cases, has_below)

  seen_is : seen frame ≡ Ack (top_of (take n pairs)) ranges
  seen_is = seen_by (take n pairs) taken_ok

  may_ack : MayAck old old (top_of (take n pairs)) ranges
  may_ack =
      record {
        due = due;
        kept = λ k there. sym (kept_is k) ∙ has_taken n pairs k (sym (named k) ∙ there);
        names_largest = named (top_of (take n pairs)) ∙ top_named (take n pairs) taken_ok;
        largest_kept = λ k there. top_most pairs n k some ok (kept_is k ∙ there);
        highest = λ j k there le also. named k ∙ has_higher high pairs n j k ok.apart (sym (named j) ∙ there) le (kept_is k ∙ also);
      }

  all_named : length pairs ≤ n → (k : ℕ) → set.contains old.done k ≡ true → is_named ranges k ≡ true
  all_named le k there = named k ∙ ap (λ ps. has_number ps k) (take_all n pairs le) ∙ kept_is k ∙ there

-- with the delay, and without counts
plain : (delay : ℕ) (ps : Runs) → AreAckPairs ps → IsPlainAck delay (ack_of delay ps)
plain delay ps ok = grind (arith, nat_tests)

-- One range more

gaps_push : (smallest : ℕ) (ps : Runs) (q : ℕ × ℕ) → gaps_below smallest (ps ++ q ∷ []) ≡ gaps_below smallest ps ++ ((last_below smallest ps - q.1) - 1) ∷ ((q.1 - 1) - q.0) ∷ []
gaps_push smallest [] q = refl
gaps_push smallest (p ∷ ps) q = ap (λ (vs : List ℕ). ((smallest - p.1) - 1) ∷ ((p.1 - 1) - p.0) ∷ vs) (gaps_push p.0 ps q)

-- an ACK of some ranges, where one range more doesn't fit
names_most : (old : End) (delay room : ℕ) (pairs : Runs) (n : ℕ) → delay < 2 ^ 62 → AreAckPairs (take (suc n) pairs) → 0 < n → n < length pairs → MayAck old old (top_of (take (suc n) pairs)) (map inclusive (take (suc n) pairs)) → room < length (canonical (ack_of delay (take (suc n) pairs))) → NamesMost old delay room (ack_of delay (take n pairs))
names_most old delay room [] n small ok some lt may long = absurd (omega (arith, lt))
names_most old delay room (p ∷ ps) zero small ok some lt may long = absurd (omega (arith, some))
names_most old delay room (p ∷ ps) (suc i) small ok some lt may long =
    let q = get_or ps i (0, 0) in
    let rest = take (suc i) ps in
    let up : suc i ≡ i + 1 = omega arith in
    let more : gaps_below p.0 rest ≡ gaps_below p.0 (take i ps) ++ ((last_below p.0 (take i ps) - q.1) - 1) ∷ ((q.1 - 1) - q.0) ∷ [] = grind (arith, common_steps, gaps_push) in
    inr (record {
      gap = (last_below p.0 (take i ps) - q.1) - 1;
      len = (q.1 - 1) - q.0;
      fits = subst (λ gs. Fits (ack (p.1 - 1) delay (((p.1 - 1) - p.0) ∷ gs) None)) more (ack_fits delay (p ∷ rest) small ok);
      may = subst (λ gs. MayAck old old (p.1 - 1) (ack_ranges_of (p.1 - 1) (((p.1 - 1) - p.0) ∷ gs))) more (subst (MayAck old old (p.1 - 1)) (sym (ranges_of_pairs delay (p ∷ rest) ok)) may);
      too_long = subst (λ gs. room < length (canonical (ack (p.1 - 1) delay (((p.1 - 1) - p.0) ∷ gs) None))) more long;
    })

-- an ACK of all kept numbers
names_all : (old : End) (delay room : ℕ) (ps : Runs) → AreAckPairs ps → ((k : ℕ) → set.contains old.done k ≡ true → is_named (map inclusive ps) k ≡ true) → NamesMost old delay room (ack_of delay ps)
names_all old delay room [] ok all = absurd (omega (arith, ok.some))
names_all old delay room (p ∷ ps) ok all = inl (λ k there. ap (λ rs. is_named rs k) (ranges_of_pairs delay (p ∷ ps) ok) ∙ all k there)

-- a packet begins with the ACK of as many ranges as fit
module _ (delay : ℕ) (old : End) (runs pairs : Runs) (is : AreRunsOf old.done runs) (highest : pairs ≡ reverse runs) (ok : AreAckPairs pairs) (due : old.ack_due ≡ true) (n : ℕ) (some : 0 < n) (within : n ≤ length pairs) (small : delay < 2 ^ 62) where
  abbrev begins : FrameValue
  begins = ack_of delay (take n pairs)

  first_ok : AreAckPairs (take n pairs)
  first_ok = taken_ok delay old runs pairs is highest ok due n some within

  more_than : (room : ℕ) → ((m : ℕ) → n < m → m ≤ length pairs → room < length (canonical (ack_of delay (take m pairs)))) → NamesMost old delay room (ack_of delay (take n pairs))
  more_than room most =
      elim (cases_lt n (length pairs)) [
        | inl fewer ↦ (
            let up : 0 < suc n = omega arith in
            let le : suc n ≤ length pairs = omega (arith, fewer) in
            names_most old delay room pairs n small (taken_ok delay old runs pairs is highest ok due (suc n) up le) some fewer (may_ack delay old runs pairs is highest ok due (suc n) up le) (most (suc n) (omega arith) le))
        | inr all ↦ names_all old delay room (take n pairs) first_ok (all_named delay old runs pairs is highest ok due n some within all)
      ]

  pub ack_alone : (room : ℕ) (text : List ℕ) → text ≡ canonical begins → ((m : ℕ) → n < m → m ≤ length pairs → room < length (canonical (ack_of delay (take m pairs)))) → IsAckText delay room old text
  ack_alone room text written most =
      record {
        frame = begins;
        spells = subst (IsText delay (begins ∷ [])) (sym written) (text_push delay [] [] begins (no_text delay) (ack_fits delay (take n pairs) small first_ok) (plain delay (take n pairs) first_ok));
        most = more_than room most;
        largest = top_of (take n pairs);
        ranges = map inclusive (take n pairs);
        is = seen_is delay old runs pairs is highest ok due n some within;
        may = may_ack delay old runs pairs is highest ok due n some within;
        full = elim (cases_lt n (length pairs)) [
          | inl fewer ↦ inl (omega (arith, ap length written, ack_left delay pairs n room ok some fewer (most (n + 1) (omega arith) (omega (arith, fewer)))))
          | inr all ↦ inr (all_named delay old runs pairs is highest ok due n some within all)
        ];
      }

-- a packet begins with it
pub begun_ack : (wish : Wish) (room : ℕ) (old : End) (text : List ℕ) → IsAckText wish.delay room old text → wish.ack_due ≡ true → wish.want.items ≡ true → all_sent old ≤ old.known_data → ((x : Piece) → InPacket old x → ⊥)
    → Begun wish room old text (record old { ack_due = false }) (IsPassed no_slot)
unfolding frame_put
begun_ack wish room old text t goes asked sent fresh =
    record {
      asked = asked;
      framed = record {
        frames = t.frame ∷ [];
        fills = subst (λ f. Fills old old (f ∷ []) (record old { ack_due = false })) (sym t.is) (t.may, refl);
        spells = t.spells;
        acks = (t.most, tt);
        wished = subst (λ f. AllByRecursion (IsWished wish) (f ∷ [])) (sym t.is) (goes, tt);
        ack = λ x. elim t.full [ inl full ↦ inl full | inr all ↦ inr (t.largest, t.ranges, inl (sym t.is), all) ];
      };
      turns = λ first. subst (λ f. AreInTurn first old (f ∷ [])) (sym t.is) (tt, tt);
      order = order_first old fresh;
      steady = refl;
      within = sent;
      items = λ i p x. absurd (none_before (slot_of i) p);
      no_chunk = λ m c there. fresh (Data m c) there;
      no_byte = ap (λ f. stream_bytes (f ∷ [])) t.is;
    }

pub begun_left : (wish : Wish) (room : ℕ) (old : End) (left : Bool) (text : List ℕ) → IsAckText wish.delay room old text → IsAckLeft true old.ack_due left → wish.ack_due ≡ true → wish.want.items ≡ true → all_sent old ≤ old.known_data → ((x : Piece) → InPacket old x → ⊥)
    → Begun wish room old text (record old { ack_due = left }) (IsPassed no_slot)
begun_left wish room old left text t due goes asked sent fresh = grind (arith, nat_tests, begun_ack)

-- what an ACK can be made of
pub pairs_ok : (s : NumberSet) (runs : Runs) → AreRunsOf s runs → All (λ run. run.1 ≤ 2 ^ 62) runs → 0 < length runs → length runs ≤ 32 → AreAckPairs (reverse runs)
pairs_ok s runs is ends some few =
    record {
      some = omega (arith, some, length-reverse runs);
      few = omega (arith, few, length-reverse runs);
      apart = reversed_apart 0 high runs is.apart (below runs ends);
    }
  where
    below : (rs : Runs) → All (λ run. run.1 ≤ 2 ^ 62) rs → EndsBelow high rs
    below [] e = tt
    below (r ∷ rs) e = (omega (arith, All-head (λ (run : ℕ × ℕ). run.1 ≤ 2 ^ 62) r rs e), below rs (All-tail (λ (run : ℕ × ℕ). run.1 ≤ 2 ^ 62) r rs e))

-- ---- What lets an end make packets: each call keeps it.

-- A new end

pub no_sum : sent_sum no_streams ≡ 0
unfolding total
no_sum = refl

pub no_runs : set.len (run_starts set.empty) ≡ 0
no_runs = sym (count_runs set.empty [] (record { apart = tt; members = λ n. set.contains-empty nat_cmp n }))

-- The sum of all sent ends stays

pub sum_lane : (t : Tables SendLane) (n : ℕ) (f : SendLane → SendLane) → ((l : SendLane) → (f l).sent_end ≡ l.sent_end) → sent_sum (updated t n f (lookup t n)) ≡ sent_sum t
sum_lane t n f same = grind (arith, nat_tests, total_update)

pub reset_sends : (code : ℕ) (l : SendLane) → (reset_lane l code).sent_end ≡ l.sent_end
reset_sends code l = cond_both (is_some (reset_refusal l)) l (broken_off l code) (λ (k : SendLane). k.sent_end ≡ l.sent_end) (λ refused. refl) (λ goes. refl)

pub stop_sends : (answers : Bool) (code : ℕ) (l : SendLane) → (stop_taken answers l code).sent_end ≡ l.sent_end
stop_sends answers code l = grind (arith, nat_tests)

pub sum_piece : (p : Piece) (o : Outgoing) → sent_sum (piece_acked_out p o).sends ≡ sent_sum o.sends
sum_piece p o = grind (arith, nat_tests, sum_lane)

-- items send no byte
pub sum_put : (i : Item) (o : Outgoing) → sent_sum (item_put_out i o).sends ≡ sent_sum o.sends
sum_put i o = grind (arith, nat_tests, sum_lane)

-- A packet's number is kept

counts_member : (s : NumberSet) (n : ℕ) → set.contains s n ≡ true → 0 < set.len s
counts_member s n has =
    elim (cases_lt 0 (set.len s)) [
      | inl some ↦ some
      | inr none ↦ (let empty : s ≡ set.empty = set.empty_of_len s (omega arith) in absurd (both_ways true (sym has ∙ ap (λ t. set.contains t n) empty ∙ set.contains-empty nat_cmp n) refl))
    ]

-- a set with a member has a run
some_run : (s : NumberSet) (n : ℕ) → set.contains s n ≡ true → 0 < set.len (run_starts s)
some_run s zero has = counts_member (run_starts s) 0 (contains-run_starts s 0 ∙ grind (arith))
some_run s (suc m) has = go (set.contains s m) refl (some_run s m)
  where
    go : (b : Bool) → set.contains s m ≡ b → (set.contains s m ≡ true → 0 < set.len (run_starts s)) → 0 < set.len (run_starts s)
    go true before lower = lower before
    go false before lower = counts_member (run_starts s) (suc m) (contains-run_starts s (suc m) ∙ grind (arith, has))

is_kept : (s : NumberSet) (n : ℕ) → set.contains (set.union s (numbers n (n + 1))) n ≡ true
is_kept s n = (let e = contains-with_range s n (n + 1) n in grind (arith, nat_tests))

abbrev AreFew : NumberSet → Type 0
AreFew s = (0 < set.len (run_starts s)) × (set.len (run_starts s) ≤ 32)

trimmed : (s : NumberSet) (n : ℕ) → set.contains s n ≡ true → set.len (run_starts s) ≤ 33 → AreFew (cond (has_too_many s) (set.difference s (numbers 0 (lowest_end s))) s)
unfolding has_too_many
trimmed s n has most = go (has_too_many s) refl
  where
    go : (b : Bool) → has_too_many s ≡ b → AreFew (cond b (set.difference s (numbers 0 (lowest_end s))) s)
    go true many =
        let run = lowest_run s n has in
        let more : 32 < set.len (run_starts s) = grind (arith, nat_tests) in
        let fewer = len-run_starts-without_lowest s _ run in
        let end = lowest_end_is s _ run in
        subst (λ (j : ℕ). AreFew (set.difference s (numbers 0 j))) (sym end) (omega (arith, fewer, more, most), omega (arith, fewer, most))
    go false many = (some_run s n has, grind (arith, nat_tests))

-- the number of a packet is kept
pub few_recorded : (n : ℕ) (done kept new : NumberSet) → kept ≡ set.union done (numbers n (n + 1)) → new ≡ cond (has_too_many kept) (set.difference kept (numbers 0 (lowest_end kept))) kept → set.len (run_starts done) ≤ 32
    → (0 < set.len (run_starts new)) × (set.len (run_starts new) ≤ 32)
few_recorded n done kept new is after few =
    let has : set.contains kept n ≡ true = ap (λ s. set.contains s n) is ∙ is_kept done n in
    let rise = len-run_starts-with_range done n (n + 1) (omega arith) in
    let most : set.len (run_starts kept) ≤ 33 = (let e = ap (λ (s : NumberSet). set.len (run_starts s)) is in omega (arith, e, rise, few)) in
    subst AreFew (sym after) (trimmed kept n has most)

-- ---- The stages of a packet in the making, and what comes of the last one.

-- the frames with one more in its turn
pub turn_push : (first : ℕ) (old e : End) (fs : List Seen) (f : Seen) (mid : End) → Fills old e fs mid → AreInTurn first e fs → IsInTurn first mid f → AreInTurn first e (fs ++ f ∷ [])
turn_push first old e [] f mid is turns now = (subst (λ x. IsInTurn first x f) is now, tt)
turn_push first old e (g ∷ fs) f mid (may, rest) (here, turns) now = (here, turn_push first old (frame_put g e) fs f mid rest turns now)

-- how many bytes of streams one more frame brings
pub bytes_push : (fs : List Seen) (f : Seen) → stream_bytes (fs ++ f ∷ []) ≡ stream_bytes fs + bytes_in f
bytes_push [] f = omega arith
bytes_push (g ∷ fs) f = omega (arith, bytes_push fs f)

-- one more frame
module _ (wish : Wish) (room : ℕ) (old : End) (text : List ℕ) (e : End) (p : Framed wish room old text e) (f : FrameValue) (s : Seen) (is : seen f ≡ s) where
  pub pushed : seen_all (p.frames ++ f ∷ []) ≡ seen_all p.frames ++ s ∷ []
  pushed = seen_push p.frames f ∙ ap (λ x. seen_all p.frames ++ x ∷ []) is

  pub framed_among : (x : Seen) → Among x (seen_all p.frames) → Among x (seen_all (p.frames ++ f ∷ []))
  framed_among x there = subst (Among x) (sym pushed) (among_more (seen_all p.frames) (s ∷ []) x there)

  pub framed_last : Among s (seen_all (p.frames ++ f ∷ []))
  framed_last = subst (Among s) (sym pushed) (among_last (seen_all p.frames) s)

  pub framed_turn : (first : ℕ) → AreInTurn first old (seen_all p.frames) → IsInTurn first e s → AreInTurn first old (seen_all (p.frames ++ f ∷ []))
  framed_turn first turns now = subst (AreInTurn first old) (sym pushed) (turn_push first old old (seen_all p.frames) s e p.fills turns now)

  pub framed_bytes : stream_bytes (seen_all (p.frames ++ f ∷ [])) ≡ stream_bytes (seen_all p.frames) + bytes_in s
  framed_bytes = ap stream_bytes pushed ∙ bytes_push (seen_all p.frames) s

  abbrev pub framed_more : MayPut old e s → Fits f → IsPlainAck wish.delay f → NamesMost old wish.delay room f → IsWished wish s → Framed wish room old (text ++ canonical f) (frame_put s e)
  framed_more may fits plain most wished =
      record {
        frames = p.frames ++ f ∷ [];
        fills = subst (λ fs. Fills old old fs (frame_put s e)) (sym pushed) (fills_push old old e (seen_all p.frames) s p.fills may);
        spells = text_push wish.delay p.frames text f p.spells fits plain;
        acks = all_push (NamesMost old wish.delay room) p.frames f p.acks most;
        wished = subst (AllByRecursion (IsWished wish)) (sym pushed) (all_push (IsWished wish) (seen_all p.frames) s p.wished wished);
        ack = λ due. elim (p.ack due) [
          | inl full ↦ inl (omega (arith, full, length-append text (canonical f)))
          | inr (largest, ranges, there, all) ↦ inr (largest, ranges, framed_among (Ack largest ranges) there, all)
        ];
      }

-- Whether a packet asks for an ACK

-- it does once it has a piece
asks_put : (f : Seen) (old e : End) → MayPut old e f → is_some (fmap.get (frame_put f e).outstanding (frame_put f e).next) ≡ (asks_ack f || is_some (fmap.get e.outstanding e.next))
unfolding frame_put
asks_put f old e may = grind (arith, nat_tests, get_new)

fills_ask : (old e mid : End) (fs : List Seen) → Fills old e fs mid → is_some (fmap.get mid.outstanding mid.next) ≡ (any_asks fs || is_some (fmap.get e.outstanding e.next))
fills_ask old e mid [] is = ap (λ (x : End). is_some (fmap.get x.outstanding x.next)) is
fills_ask old e mid (f ∷ fs) (may, rest) = grind (arith, nat_tests, fills_ask old (frame_put f e) mid fs rest, asks_put)

-- Items

-- a packet without a frame, where no ACK is to go
abbrev pub framed_first : (wish : Wish) (room : ℕ) (old : End) → wish.ack_due ≡ false → Framed wish room old [] old
framed_first wish room old none = record { frames = []; fills = refl; spells = no_text wish.delay; acks = tt; wished = tt; ack = λ goes. absurd (true≢false (sym goes ∙ none)) }

pub begun_none : (wish : Wish) (room : ℕ) (old : End) (left : Bool) → wish.want.items ≡ true → wish.ack_due ≡ false → left ≡ old.ack_due → all_sent old ≤ old.known_data → ((x : Piece) → InPacket old x → ⊥) → Begun wish room old [] (record old { ack_due = left }) (IsPassed no_slot)
begun_none wish room old left asked none same within fresh = subst (λ b. Begun wish room old [] (record old { ack_due = b }) (IsPassed no_slot)) (sym same) record {
  asked = asked;
  framed = framed_first wish room old none;
  turns = λ first. tt;
  order = order_first old fresh;
  steady = refl;
  within = within;
  items = λ i p due. absurd (none_before (slot_of i) p);
  no_chunk = λ n c there. fresh (Data n c) there;
  no_byte = refl;
}

module _ (wish : Wish) (room : ℕ) (old : End) (text : List ℕ) (e : End) (P : Slot → Type 0) (b : Begun wish room old text e P) where
  now : (i : Item) → IsCurrent old i → IsCurrent e i
  now = current_by_base old e (sym b.steady)

  -- what is due so far was due as the packet began
  due_first : (i : Item) → IsDueItem e i → IsDueItem old i
  due_first i due = (
    current_by_base e old b.steady i due.0,
    λ covered. elim covered [
      | inl out ↦ due.1 (inl (out_old old old e (seen_all b.framed.frames) (Told i) b.framed.fills out))
      | inr acked ↦ due.1 (inr (acked_by_base old e (sym b.steady) i acked))
    ],
  )

  -- an item that is covered was so as the packet began, or is in it
  covered_first : (i : Item) → IsCovered e i → IsCovered old i ⊎ Among (Control i) (seen_all b.framed.frames)
  covered_first i h = grind (arith, nat_tests, out_is, acked_by_base)

  -- other slots, where of those that are new all that is current is covered
  pub begun_more : (Q : Slot → Type 0) → AddsIdle e P Q → Begun wish room old text e Q
  begun_more Q adds = record {
    asked = b.asked;
    framed = b.framed;
    turns = b.turns;
    order = b.order;
    steady = b.steady;
    within = b.within;
    items = λ i q due. elim (adds (slot_of i) q) [ inl p ↦ b.items i p due | inr idle ↦ elim (covered_first i (idle i refl (now i due.0))) [ inl before ↦ absurd (due.1 before) | inr there ↦ there ] ];
    no_chunk = b.no_chunk;
    no_byte = b.no_byte;
  }

  module _ (slot : Slot) (i : Item) (c : IsCurrentIn e slot (Some i)) where
    -- what comes before the item is of slots that come before its own
    comes : ((s : Slot) → IsLower (slot_place s) (slot_place slot) → P s) → (j : Item) → IsLower (item_place j) (item_place i) → P (slot_of j)
    comes passed j lower = passed (slot_of j) (subst (λ s. IsLower (slot_place (slot_of j)) (slot_place s)) c.1 (lower_slots i j lower))

    -- a slot's item is put
    pub begun_item : (Q : Slot → Type 0) → ((s : Slot) → IsLower (slot_place s) (slot_place slot) → P s) → ((s : Slot) → Q s → P s ⊎ (s ≡ slot)) → (IsCovered e i → ⊥) → Fits (frame_of_item i)
        → Begun wish room old (text ++ canonical (frame_of_item i)) (frame_put (Control i) e) Q
    begun_item Q passed adds free fits =
        record {
          asked = b.asked;
          framed = framed_more wish room old text e b.framed (frame_of_item i) (Control i) (seen_item i) (due_first i (c.0, free), (c.0, free)) fits (plain_item wish.delay i) (item_most old wish.delay room i) b.asked;
          turns = λ first. framed_turn wish room old text e b.framed (frame_of_item i) (Control i) (seen_item i) first (b.turns first) tt;
          order = order_put old e (Control i) (Told i) refl (λ j due lower. item_in old old e (seen_all b.framed.frames) j b.framed.fills (b.items j (comes passed j lower) due)) b.order;
          steady = base_item i e ∙ b.steady;
          within = b.within;
          items = λ j p is. elim (adds (slot_of j) p) [
            | inl before ↦ framed_among wish room old text e b.framed (frame_of_item i) (Control i) (seen_item i) (Control j) (b.items j before is)
            | inr same ↦ subst (λ k. Among (Control k) (seen_all (b.framed.frames ++ frame_of_item i ∷ []))) (sym (c.2 j same (now j is.0))) (framed_last wish room old text e b.framed (frame_of_item i) (Control i) (seen_item i))
          ];
          no_chunk = λ n c there. elim (put_packet (Control i) e (Data n c) there) [ inl before ↦ b.no_chunk n c before | inr is ↦ not_told n c is ];
          no_byte = framed_bytes wish room old text e b.framed (frame_of_item i) (Control i) (seen_item i) ∙ omega (arith, b.no_byte);
        }
      where
        not_told : (n : ℕ) (c : Chunk) → Some (Told i) ≡ Some (Data n c) → ⊥
        not_told n c is = cc is

  abbrev pub begun_content : (first : ℕ) → Content first wish room old text e wish.want.most_bytes
  begun_content first =
      record {
        framed = b.framed;
        cap = omega (arith, b.no_byte);
        turns = b.turns first;
        order = λ on. b.order;
        within = (let same = sum_by_base e old b.steady in let known = known_by_base e old b.steady in omega (arith, same, known, b.within));
      }

  -- Less than 25 bytes are left: nothing more is asked.
  pub begun_full : room < length text + 25 → (first : ℕ) → Packed first wish room old text e wish.want.most_bytes
  begun_full full first = record { content = begun_content first; whole = λ left. absurd (omega (arith, full, left)) }

  -- as where an item doesn't fit
  pub begun_too_long : (i : Item) → Fits (frame_of_item i) → length text ≤ room → room - length text < length (canonical (frame_of_item i)) → (first : ℕ) → Packed first wish room old text e wish.want.most_bytes
  begun_too_long i fits within long = begun_full (omega (arith, within, long, control_short (frame_of_item i) (control_item i) fits))

-- The bytes of streams are among those of the text.
one_within : (f : FrameValue) → bytes_in (seen f) ≤ length (canonical f)
one_within f = grind (arith, nat_tests, frame_len_is_canonical)

bytes_within : (fs : List FrameValue) → stream_bytes (seen_all fs) ≤ length (canonical_all fs)
bytes_within [] = omega arith
bytes_within (f ∷ fs) = omega (arith, one_within f, bytes_within fs, length-append (canonical f) (canonical_all fs))

-- The end

-- the next number makes no difference to what goes
pub goes_next : (e : End) (k n : ℕ) → StreamGoes (record e { next = k }) n → StreamGoes e n
goes_next e k n = goes_less (record e { next = k }) e n (λ l at. at) (λ left. left) (λ c out. out)

-- nor to an end that goes alone
pub goes_alone : (e : End) (k first n : ℕ) → EndGoesAlone first (record e { next = k }) n → EndGoesAlone first e n
goes_alone e k first n a =
    record {
      half = a.half;
      lane = a.lane;
      end = (end_due_more (record e { next = k }) e n a.half (λ c out. out) a.end.0, a.end.1);
      no_byte = λ (q, due, low, credit). a.no_byte (q, due_more e (record e { next = k }) n a.half (λ c out. out) q due, low, credit);
      in_turn = λ m before goes. a.in_turn m before (goes_less e (record e { next = k }) m (λ l at. at) (λ left. left) (λ c out. out) goes);
    }

module _ (first : ℕ) (wish : Wish) (room : ℕ) (old : End) (text : List ℕ) (e : End) (quota : ℕ) (p : Packed first wish room old text e quota) where
  -- a packet without a byte changed nothing
  pub packed_same : text ≡ [] → e ≡ old
  packed_same none = subst (λ fs. Fills old old (seen_all fs) e) (no_frames wish.delay p.content.framed.frames text p.content.framed.spells none) p.content.framed.fills

  -- and where there was room, there was nothing to send
  pub packed_none : 25 ≤ room → text ≡ [] → HasWished wish old [] old
  packed_none enough none =
      let frames : p.content.framed.frames ≡ [] = no_frames wish.delay p.content.framed.frames text p.content.framed.spells none in
      let w : HasWished wish old [] e = subst (λ fs. HasWished wish old (seen_all fs) e) frames (p.whole (omega (arith, enough, ap length none))) in
      subst (HasWished wish old []) (packed_same none) w

  -- it asks for an ACK where it has a piece
  pub packed_asks : (asks : Bool) → fmap.get old.outstanding old.next ≡ None → asks ≡ is_some (fmap.get e.outstanding e.next) → asks ≡ any_asks (seen_all p.content.framed.frames)
  packed_asks asks idle asked = asked ∙ fills_ask old old e (seen_all p.content.framed.frames) p.content.framed.fills ∙ ap (λ o. any_asks (seen_all p.content.framed.frames) || is_some o) idle ∙ or-false (any_asks (seen_all p.content.framed.frames))

  -- a packet with some
  module _ (number len : ℕ) (asks : Bool) (asked : asks ≡ any_asks (seen_all p.content.framed.frames)) (is : number ≡ old.next) (count : len ≡ length text) (some : text ≢ []) where
    abbrev last : End
    last = record e { next = old.next + 1 }

    pub not_empty : (fs : List FrameValue) → p.content.framed.frames ≡ fs → seen_all fs ≢ []
    not_empty [] none is = some (p.content.framed.spells.canonical ∙ ap canonical_all none)
    not_empty (f ∷ fs) there is = cc is

    -- in any room that it fits, if it leaves nothing out there
    abbrev pub packed_made : (less : ℕ) → len ≤ less → AllByRecursion (NamesMost old wish.delay less) p.content.framed.frames → HasAll less (length text) old (seen_all p.content.framed.frames) last
        → IsMade old first wish.delay less (record { number = number; len = len; is_ack_eliciting = asks }) text (settle last)
    packed_made less fits acks whole =
        record {
          number = is;
          len = count;
          fits = omega (arith, count, fits);
          frames = p.content.framed.frames;
          asks = asked;
          spells = p.content.framed.spells;
          acks = acks;
          turn = p.content.turns;
          mid = last;
          lawful = record { some = not_empty p.content.framed.frames refl; filled = (e, p.content.framed.fills, refl); within = p.content.within };
          whole = whole;
          after = refl;
        }

    -- all of it was to go, with the ACK
    pub packed_some : len ≤ room → wish.ack_due ≡ old.ack_due → wish.want.items ≡ true → ((n : ℕ) → IsAsked wish.want n) → room < wish.want.most_bytes → e.ack_due ≡ false
        → IsMade old first wish.delay room (record { number = number; len = len; is_ack_eliciting = asks }) text (settle last)
    packed_some fits due items all wide quiet =
        packed_made room fits p.content.framed.acks (λ left. (
        let w = p.whole left in
        record { ack = λ is. w.ack (due ∙ is); items = w.wanted.items items; no_ack = quiet; no_stream = λ n goes. w.wanted.streams n (all n) (inl (below wide, goes_next e (old.next + 1) n goes)) }))
      where
        below : room < wish.want.most_bytes → 0 < bytes_left wish.want (seen_all p.content.framed.frames)
        below wide = (let le = bytes_within p.content.framed.frames in let same = ap length p.content.framed.spells.canonical in omega (arith, le, same, count, fits, wide))
