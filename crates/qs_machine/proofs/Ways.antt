-- A payload that is processed is its frames, and one with an ACK is tokens and frames; and an ACK alone is a packet.
use Rattle.std.proofs.lemmas.Bool.Decides.{nat_tests}
use Rattle.std.proofs.Common.{◌≡◌, ℕ, Bool, true, false, List, [], ◌∷◌, ◌++◌, inl, Option, None, Some, Ok, refl, sym, ap, ◌∙◌, subst, append-nil, ◌≤◌, ◌||◌, ◌⊎◌, length, arith, inr, cond, map, is_some}
use Rattle.std.specs.Prelude.{MatchBool, Result, flat_map, max}
use Rattle.std.specs.List.{AllByRecursion}
use Rattle.std.proofs.lemmas.Bool.{false≢true, and_right, both_ways, or_parts}
use Rattle.qs_wire.specs.Layout.{FrameValue, PlacedValue}
use Rattle.qs_wire.specs.Grammar.{Fits, AreBytes}
use Rattle.qs_wire.specs.Reading.{reading_of}
use Rattle.qs_wire.specs.declared.fault.WireFault.{WireFault}
use Rattle.qs_wire.proofs.FaultAgain.{bytes_fit}
use Rattle.qs_wire.proofs.FitLaws.{frames_fit}
use Rattle.qs_calls.specs.declared.closing.Received.TheVariants.{Done}
use Rattle.qs_calls.specs.declared.token.Taken.{Taken}
use Rattle.qs_calls.specs.declared.token.Taken.TheVariants.{NotOurs}
use Rattle.qs_calls.specs.declared.token.TakeFault.{TakeFault}
use Rattle.qs_machine.specs.Ends.{End, opened_by_peer, on_recv}
use Rattle.qs_machine.specs.Credit.{settle, ended, count_after, next_count}
use Rattle.qs_machine.specs.Seen.{Seen, Ack, Stream, Control, seen, seen_all, any_asks, asks_ack}
use Rattle.qs_machine.specs.Verdicts.{verdict}
use Rattle.qs_machine.specs.FrameStep.{NoFault, frame_taken, frames_taken, AckedPiece, acked_at, pieces_of, is_named, named_in, named, acks, item_taken}
use Rattle.qs_machine.specs.Recording.{recorded}
use Rattle.qs_machine.specs.Receiving.{ReceiveStep, EndsBy, GoesOn}
use Rattle.qs_machine.specs.Alone.{is_ours, TakesOne, TakesEach, TakeBy, TakeFrameStep, TakeFramesStep, TakeAllBy, of_both, after_one}
use Rattle.qs_machine.specs.Ways.{frames_in, IsNew, is_ack, HaveNoAck, AreOthers, APayloadIsTokensAndFrames}
use Rattle.qs_machine.proofs.Again.{takes_prefix, seen_in, first_goes, one_more, all_left}
use Rattle.qs_machine.proofs.EveryCall.{by_open}
use Rattle.qs_machine.proofs.Changes.{frame_same, frame_differs}
use Rattle.qs_calls.specs.declared.filling.Fill.{Fill}
use Rattle.qs_calls.specs.declared.filling.Filled.{Filled}
use Rattle.qs_calls.specs.declared.making.Made.{Made}
use Rattle.qs_calls.specs.declared.making.MakeFault.{MakeFault}
use Rattle.qs_machine.specs.Lawful.{Lawful, IsInTurn}
use Rattle.qs_machine.specs.Making.{NamesMost, IsMade, MakeAt, IsAckMade, MakeAckAt, make_refusal}
use Rattle.qs_machine.specs.Filling.{FillAt}
use Rattle.qs_machine.specs.Laws.{AnAckIsAPacket, AFillIsAPacket, made_as}
use Rattle.std.specs.FinSet as set
use Rattle.std.specs.FinMap as fmap
use Rattle.std.specs.Ordering.{nat_cmp}
use Rattle.qs_ranges.specs.Numbers.{numbers, missing_from}
use Rattle.qs_ranges.proofs.Sets.{end_of-empty, missing_from-past, missing_from-with_later}
use Rattle.qs_send.specs.Lane.{SendLane, broken_off, first_code}
use Rattle.qs_send.specs.declared.parts.SendFault.{SendFault}
use Rattle.qs_send.specs.declared.parts.SendFault.TheVariants.{Finished}
use Rattle.qs_send.specs.declared.piece.Piece.{Piece}
use Rattle.qs_send.specs.declared.piece.Piece.TheVariants.{Data}
use Rattle.qs_machine.specs.Tables.{lookup, update, each}
use Rattle.qs_machine.specs.SmallEnds.{chunk}
use Rattle.qs_machine.specs.AckOrders.{AStopIsntMoved, end_flying}
use Rattle.qs_machine.proofs.Named.{filter_nothing}
use Rattle.qs_wire.specs.declared.stream_id.Dir.{Dir}
use Rattle.qs_wire.specs.declared.stream_id.Dir.TheVariants.{Bidi, Uni}
use Rattle.qs_recv.specs.Lane.{RecvLane, taken, raise, next_limit, take_stream}
use Rattle.qs_send.specs.declared.piece.Item.{Item}
use Rattle.qs_machine.specs.Standing.{IsSound}
use Rattle.qs_machine.specs.Repeats.{SentWasWritten}
use Rattle.qs_machine.specs.SettledLimits.{LimitsAreSettled}
use Rattle.qs_machine.proofs.TableLaws.{lookup_each}
use Rattle.qs_machine.proofs.Leaves.{acks_leave, but_streams, frame_leaves}
use Rattle.qs_machine.proofs.CallsSound.{sound_acks}
use Rattle.qs_machine.proofs.Counts.{ended_grows}
use Rattle.qs_machine.proofs.EndsAfter.{IsAfter, after_acks, named_written, sent_stays, lanes_stay, halves_stay}
use Rattle.qs_machine.proofs.AckTokens.{same_tables, acks_moved, later_count, an_ack_may_be_told}

-- A payload that is processed is its frames, and then its number.

-- what ended so left no frame, and recorded the number
all_left_of_payload : (k : ℕ) (fault : Option WireFault) (asks : Bool) (left : List PlacedValue) (e new : End) → EndsBy k fault asks left e (Ok Done) new → (left ≡ []) × (fault ≡ None) × (new ≡ recorded k asks e)
all_left_of_payload k fault asks left e new h = grind arith

pub payload_frames : (old new : End) (k : ℕ) (text : List ℕ) → IsNew old k → ReceiveStep old k text (Ok Done) new
    → NoFault old (seen_all (frames_in text)) × ((reading_of text).fault ≡ None) × (new ≡ recorded k (any_asks (seen_all (frames_in text))) (settle (frames_taken (seen_all (frames_in text)) old)))
payload_frames old new k text fresh step = grind (arith, nat_tests, by_open, false≢true, takes_prefix, all_left_of_payload, append-nil, seen_in)

-- Frames that are taken one after the other

first_fine : (e : End) (f : Seen) (fs : List Seen) → is_ours f ≡ true → NoFault e (f ∷ fs) → (verdict e f ≡ None) × NoFault (frame_taken f e) fs
first_fine e f fs ours h = grind arith

-- a frame of another kind changes nothing, but for an ACK
pub other_fine : (e : End) (f : Seen) (fs : List Seen) → is_ours f ≡ false → is_ack f ≡ false → NoFault e (f ∷ fs) → NoFault e fs × (frame_taken f e ≡ e)
unfolding frame_taken
other_fine e f fs other none h = grind arith

pick : (X Y : Type 0) (b : Bool) → b ≡ true → X → MatchBool b X Y
pick X Y b is x = grind arith

pub pass_by : (X Y : Type 0) (b : Bool) → b ≡ false → Y → MatchBool b X Y
pass_by X Y b is y = grind arith

-- a frame without a fault is taken, and something changed or nothing did
takes_one : (e : End) (f : FrameValue) → is_ours (seen f) ≡ true → Fits f → verdict e (seen f) ≡ None → (one : Taken) × TakesOne e f (Ok one) (frame_taken (seen f) e)
takes_one e f ours fits first = grind (arith, nat_tests, frame_differs, frame_same)

pub takes_each : (fs : List FrameValue) (e : End) → HaveNoAck fs → AllByRecursion Fits fs → NoFault e (seen_all fs) → (taken : Taken) × TakesEach fs e (Ok taken) (frames_taken (seen_all fs) e)
unfolding frames_taken
takes_each [] e none fit fine = (NotOurs, (refl, refl))
takes_each (f ∷ fs) e none fit fine = go (λ x later. takes_each fs x none.1 fit.1 later) (is_ours (seen f)) refl
  where
    go : ((x : End) → NoFault x (seen_all fs) → (taken : Taken) × TakesEach fs x (Ok taken) (frames_taken (seen_all fs) x)) → (b : Bool) → is_ours (seen f) ≡ b
        → (taken : Taken) × TakesEach (f ∷ fs) e (Ok taken) (frames_taken (seen_all fs) (frame_taken (seen f) e))
    go onward true ours =
        let (first, later) = first_fine e (seen f) (seen_all fs) ours fine in
        let (taken, rest) = onward (frame_taken (seen f) e) later in
        let last : End = frames_taken (seen_all fs) (frame_taken (seen f) e) in
        let (one, took) = takes_one e f ours fit.0 first in
        let goes : (mid : End) × (kind : Taken) × (more : Result Taken TakeFault) × TakesOne e f (Ok kind) mid × TakesEach fs mid more last × (◌≡◌ {A = Result Taken TakeFault} (Ok (of_both one taken)) (after_one kind more)) =
        (frame_taken (seen f) e, one, Ok taken, took, rest, refl) in
        (of_both one taken, pick _ _ (is_ours (seen f)) ours (inl goes))
    go onward false other =
        let (later, same) = other_fine e (seen f) (seen_all fs) other none.0 fine in
        let (taken, rest) = onward e later in
        (taken, pass_by _ _ (is_ours (seen f)) other (subst (λ x. TakesEach fs e (Ok taken) (frames_taken (seen_all fs) x)) (sym same) rest))

pub payload_take_frames : (old new : End) (k : ℕ) (text : List ℕ) → IsNew old k → AreBytes text → HaveNoAck (frames_in text) → ReceiveStep old k text (Ok Done) new
    → (taken : Taken) × (mid : End) × TakeFramesStep old (frames_in text) (Ok taken) mid × (new ≡ recorded k (any_asks (seen_all (frames_in text))) mid)
payload_take_frames old new k text fresh bytes none step =
    let (fine, faultless, is) = payload_frames old new k text fresh step in
    let (taken, each) = takes_each (frames_in text) old none (frames_fit text (bytes_fit text bytes)) fine in (
      taken,
      settle (frames_taken (seen_all (frames_in text)) old),
      subst (λ o. TakeAllBy o (frames_in text) old (Ok taken) (settle (frames_taken (seen_all (frames_in text)) old))) (sym fresh.unclosed) (frames_taken (seen_all (frames_in text)) old, each, refl),
      is,
    )

-- a frame that is the payload

ours_ask : (f : Seen) → is_ours f ≡ true → any_asks (f ∷ []) ≡ true
ours_ask f ours = grind arith

pub frame_take : (old new : End) (k : ℕ) (text : List ℕ) (f : FrameValue) → IsNew old k → AreBytes text → frames_in text ≡ f ∷ [] → is_ours (seen f) ≡ true → ReceiveStep old k text (Ok Done) new
    → (taken : Taken) × (mid : End) × TakeFrameStep old f (Ok taken) mid × (new ≡ recorded k true mid)
unfolding frames_taken
frame_take old new k text f fresh bytes one ours step =
    let (fine, faultless, is) = payload_frames old new k text fresh step in
    let first = first_fine old (seen f) [] ours (subst (λ fs. NoFault old (seen_all fs)) one fine) in
    let fits = subst (λ fs. AllByRecursion Fits fs) one (frames_fit text (bytes_fit text bytes)) in
    let after : End = frame_taken (seen f) old in
    let (kind, takes) = takes_one old f ours fits.0 first.0 in
    let took : (mid : End) × TakesOne old f (Ok kind) mid × (settle after ≡ settle mid) = (after, takes, refl) in (
      kind,
      settle after,
      subst (λ o. TakeBy o f old (Ok kind) (settle after)) (sym fresh.unclosed) (pick _ _ (is_ours (seen f)) ours took),
      is ∙ ap (λ fs. recorded k (any_asks (seen_all fs)) (settle (frames_taken (seen_all fs) old))) one ∙ ap (λ b. recorded k b (settle after)) (ours_ask (seen f) ours),
    )

-- A payload with an ACK alone is a packet of a shorter room, and so is what is filled in.

-- an ACK that is too long for a room is too long for a shorter one
names_most : (old : End) (delay room less : ℕ) (frame : FrameValue) → less ≤ room → NamesMost old delay room frame → NamesMost old delay less frame
names_most old delay room less frame le h = grind arith

ack_made : (old new : End) (first delay room : ℕ) (made : Made) (text : List ℕ) → IsAckMade old delay room made text new → IsMade old first delay (length text) made text new
ack_made old new first delay room made text h =
    record {
      number = h.number;
      len = h.len;
      fits = omega arith;
      frames = h.frame ∷ [];
      asks = h.asks ∙ sym (ap (λ f. asks_ack f || false) h.is);
      spells = h.spells;
      mid = h.mid;
      lawful = subst (λ f. Lawful old (f ∷ []) h.mid) (sym h.is) h.lawful;
      acks = (names_most old delay room (length text) h.frame h.fits h.most, tt);
      turn = (subst (IsInTurn first old) (sym h.is) tt, tt);
      whole = λ left. absurd (omega (arith, left));
      after = h.after;
    }

ack_at : (o : Option MakeFault) (old new : End) (first delay room : ℕ) (answer : Result (Option Made) MakeFault) (text : List ℕ) → MakeAckAt o old delay room answer text new →
    MakeAt o old first delay (length text) answer text new ⊎ ((answer ≡ Ok None) × (text ≡ []) × (new ≡ old))
ack_at o old new first delay room answer text h = grind (arith, nat_tests, ack_made)

pub ack_packet : AnAckIsAPacket
ack_packet old new first delay room answer text step = ack_at (make_refusal old) old new first delay room answer text step

fill_at : (o : Option MakeFault) (old new : End) (want : Fill) (room : ℕ) (answer : Result (Option Filled) MakeFault) (text : List ℕ) → FillAt o old want room answer text new →
    MakeAt o old want.first 0 (length text) (made_as answer) text new ⊎ (new ≡ old)
fill_at o old new want room answer text h = grind arith

pub fill_packet : AFillIsAPacket
fill_packet old new want room answer text step = fill_at (make_refusal old) old new want room answer text step

-- An ACK and a STOP_SENDING don't change places.

abbrev end_piece : Piece
end_piece = Data 0 (chunk 0 0 true)

abbrev one_packet : List (ℕ × List Piece)
one_packet = (0, end_piece ∷ []) ∷ []

pieces : pieces_of false end_flying.outstanding 0 ≡ acked_at false 0 end_piece ∷ []
pieces = ap (λ x. elim x as (λ _. List AckedPiece) [ None ↦ [] | Some ps ↦ map (acked_at false 0) ps ]) (fmap.get-from_sorted nat_cmp one_packet 0 tt)

-- nothing was lost
none_late : named_in true fmap.empty ((0, 0) ∷ []) ≡ []
none_late = ap (flat_map (pieces_of true fmap.empty)) (filter_nothing fmap.empty (is_named ((0, 0) ∷ [])) (λ j there. absurd (both_ways true (sym there ∙ ap is_some (fmap.get-empty nat_cmp j)) refl)))

-- what the ACK takes
taken_before : named end_flying ((0, 0) ∷ []) ≡ acked_at false 0 end_piece ∷ []
taken_before = ap (λ qs. named_in false end_flying.outstanding ((0, 0) ∷ []) ++ qs) none_late ∙ rw (fmap.entries-from_sorted nat_cmp one_packet tt) (ap (λ ps. (ps ++ []) ++ []) pieces)

-- with no byte written all is acknowledged
whole : missing_from (set.union set.empty (numbers 0 0)) 0 ≡ 0
whole = missing_from-with_later set.empty 0 0 0 (inr (omega arith)) ∙ missing_from-past set.empty 0 (omega (arith, end_of-empty))

-- the half after a STOP_SENDING, by whether all of it was acknowledged
abbrev stopped : Bool → SendLane → SendLane
stopped all l = cond (is_some {T = SendFault} (cond all (Some Finished) None)) l (record (broken_off l 7) { stopped = first_code l.stopped 7 })

pub order_stays : AStopIsntMoved
unfolding frame_taken frames_taken lookup update acks
order_stays = grind (arith, nat_tests, taken_before, whole, and_right)

-- A payload with an ACK is the tokens of the ACK's packets, then its other frames, and then its number.

-- Limits that are settled don't move

unraised : (l : RecvLane) → (l.final_size ≡ None → next_limit l.limit (taken l) l.window l.share ≡ l.limit) → raise l ≡ l
unraised l settled = grind arith

all_unraised : (e : End) → LimitsAreSettled e → each raise e.recvs ≡ e.recvs
all_unraised e settled = grind (arith, nat_tests, same_tables, lookup_each, unraised)

-- the end with other counts of granted streams
abbrev counted : ℕ → ℕ → End → End
counted b u e = record e { granted_bidi = b; granted_uni = u }

-- only counts move
only_counts : (e : End) → LimitsAreSettled e → settle e ≡ counted (next_count e Bidi) (next_count e Uni) e
only_counts e settled = λ i. record e { recvs = all_unraised e settled i; granted = settled.connection i; granted_bidi = next_count e Bidi; granted_uni = next_count e Uni }

-- Frames, where more streams are granted

module _ (b u : ℕ) where
  opened_counted : (n : ℕ) (e : End) → opened_by_peer n (counted b u e) ≡ counted b u (opened_by_peer n e)
  opened_counted n e = grind arith

  item_counted : (i : Item) (e : End) → item_taken i (counted b u e) ≡ counted b u (item_taken i e)
  item_counted i e = grind arith

  frame_counted : (f : Seen) (e : End) → frame_taken f (counted b u e) ≡ counted b u (frame_taken f e)
  unfolding frame_taken
  frame_counted (Ack largest ranges) e = acks_moved (named e ranges) e (counted b u e) ∙ ap (counted b u) (sym (acks_moved (named e ranges) e e))
  frame_counted (Stream n offset bytes fin) e = ap (on_recv n (λ l. take_stream l offset bytes fin)) (opened_counted n e)
  frame_counted (Control i) e = item_counted i e
  frame_counted _ e = refl

  frames_counted : (fs : List Seen) (e : End) → frames_taken fs (counted b u e) ≡ counted b u (frames_taken fs e)
  unfolding frames_taken
  frames_counted [] e = refl
  frames_counted (f ∷ fs) e = ap (frames_taken fs) (frame_counted f e) ∙ frames_counted fs (frame_taken f e)

  -- no fewer streams are granted so
  record AreMore (e : End) : Type 0 where
    bidi : e.granted_bidi ≤ b
    uni : e.granted_uni ≤ u

  goes_counted : (f : Seen) (e : End) → AreMore e → GoesOn e f → GoesOn (counted b u e) f
  unfolding verdict
  goes_counted f e more h = grind (arith, nat_tests)

  still_more : (f : Seen) (e : End) → AreMore e → AreMore (frame_taken f e)
  still_more f e more = grind (arith, nat_tests, frame_leaves)

  fine_counted : (fs : List Seen) (e : End) → AreMore e → NoFault e fs → NoFault (counted b u e) fs
  fine_counted [] e more h = tt
  fine_counted (f ∷ fs) e more h =
      let (goes, rest) = first_goes e f fs h in
      one_more (counted b u e) f fs (goes_counted f e more goes) (subst (λ x. NoFault x fs) (sym (frame_counted f e)) (fine_counted fs (frame_taken f e) (still_more f e more) rest))

frames_leave : (fs : List Seen) (e : End) → but_streams (frames_taken fs e) ≡ but_streams e
unfolding frames_taken
frames_leave [] e = refl
frames_leave (f ∷ fs) e = frames_leave fs (frame_taken f e) ∙ frame_leaves f e

-- Frames after a call, and frames in one call

-- the counts move between the calls, and then as far as they would in one
settle_later : (fs : List Seen) (e : End) → LimitsAreSettled e → ((d : Dir) → ended e d ≤ ended (frames_taken fs e) d) → settle (frames_taken fs (settle e)) ≡ settle (frames_taken fs e)
settle_later fs e settled grows = ap (λ x. settle (frames_taken fs x)) (only_counts e settled) ∙ ap settle (frames_counted (next_count e Bidi) (next_count e Uni) fs e) ∙ (λ i. record (settle last) { granted_bidi = bidi i; granted_uni = uni i })
  where
    last : End
    last = frames_taken fs e

    -- the count to which so many ended streams bring the grant
    bidi_by : ℕ → End → ℕ
    bidi_by n x = max x.granted_bidi (count_after x.settings x.tuning Bidi x.present.grant_bidi n)

    uni_by : ℕ → End → ℕ
    uni_by n x = max x.granted_uni (count_after x.settings x.tuning Uni x.present.grant_uni n)

    bidi : max (next_count e Bidi) (count_after last.settings last.tuning Bidi last.present.grant_bidi (ended last Bidi)) ≡ next_count last Bidi
    bidi =
        ap (λ k. max k (count_after last.settings last.tuning Bidi last.present.grant_bidi (ended last Bidi))) (ap (bidi_by (ended e Bidi)) (sym (frames_leave fs e)))
        ∙ later_count last.settings last.tuning Bidi last.granted_bidi last.present.grant_bidi (ended e Bidi) (ended last Bidi) (grows Bidi)

    uni : max (next_count e Uni) (count_after last.settings last.tuning Uni last.present.grant_uni (ended last Uni)) ≡ next_count last Uni
    uni =
        ap (λ k. max k (count_after last.settings last.tuning Uni last.present.grant_uni (ended last Uni))) (ap (uni_by (ended e Uni)) (sym (frames_leave fs e)))
        ∙ later_count last.settings last.tuning Uni last.granted_uni last.present.grant_uni (ended e Uni) (ended last Uni) (grows Uni)

-- what the frames have no fault at, they have none at once the counts moved
fine_later : (fs : List Seen) (e : End) → LimitsAreSettled e → NoFault e fs → NoFault (settle e) fs
fine_later fs e settled fine =
    subst (λ x. NoFault x fs) (sym (only_counts e settled))
    (fine_counted (next_count e Bidi) (next_count e Uni) fs e (record { bidi = omega arith; uni = omega arith }) fine)

-- The payload

settled_acks : (e : End) (r : List (ℕ × ℕ)) → LimitsAreSettled e → LimitsAreSettled (acks (named e r) e)
settled_acks e r settled = subst LimitsAreSettled (sym (acks_moved (named e r) e e)) (record { connection = settled.connection; streams = settled.streams })

abbrev TakesAfter : End → List FrameValue → Taken → Type 0
TakesAfter e fs one = TakesEach fs (settle e) (Ok one) (frames_taken (seen_all fs) (settle e)) × (settle (frames_taken (seen_all fs) (settle e)) ≡ settle (frames_taken (seen_all fs) e))

-- frames that are handed in after their payload's ACK was told
takes_after : (e : End) (fs : List FrameValue) → IsSound e → SentWasWritten e → LimitsAreSettled e → HaveNoAck fs → AllByRecursion Fits fs → NoFault e (seen_all fs) → (one : Taken) × TakesAfter e fs one
takes_after e fs sound sent settled none fits fine =
    let x = (all_left (seen_all fs) e sound sent fine).after in
    let (one, each) = takes_each fs (settle e) none fits (fine_later (seen_all fs) e settled fine) in
    (one, (each, settle_later (seen_all fs) e settled (λ d. ended_grows e (frames_taken (seen_all fs) e) x.role (lanes_stay _ _ x.recvs) (halves_stay _ _ x.sends) d)))

-- frames of other kinds before them change nothing
others_pass : (before fs : List FrameValue) (e : End) → AreOthers before → NoFault e (seen_all (before ++ fs)) → NoFault e (seen_all fs) × (frames_taken (seen_all (before ++ fs)) e ≡ frames_taken (seen_all fs) e)
unfolding frames_taken
others_pass [] fs e other fine = (fine, refl)
others_pass (f ∷ before) fs e other fine =
    let (later, same) = other_fine e (seen f) (seen_all (before ++ fs)) (or_parts _ _ other.0).1 (or_parts _ _ other.0).0 fine in
    let (left, alike) = others_pass before fs e other.1 later in
    (left, ap (frames_taken (seen_all (before ++ fs))) same ∙ alike)

take_others : (before fs : List FrameValue) (e : End) (one : Taken) (new : End) → AreOthers before → TakesEach fs e (Ok one) new → TakesEach (before ++ fs) e (Ok one) new
take_others [] fs e one new other takes = takes
take_others (f ∷ before) fs e one new other takes = pass_by _ _ (is_ours (seen f)) (or_parts _ _ other.0).1 (take_others before fs e one new other.1 takes)

rest_fit : (before fs : List FrameValue) → AllByRecursion Fits (before ++ fs) → AllByRecursion Fits fs
rest_fit [] fs fits = fits
rest_fit (f ∷ before) fs fits = rest_fit before fs fits.1

pub payload_tokens : APayloadIsTokensAndFrames
unfolding frame_taken frames_taken
payload_tokens old new k text before fs f largest ranges t ts fresh bytes sound sent settled whole other is none same may step =
    let (fine, faultless, after) = payload_frames old new k text fresh step in
    let (fine_then, passed) = others_pass before (f ∷ fs) old other (subst (λ gs. NoFault old (seen_all gs)) whole fine) in
    let later : IsAfter old mid = after_acks (named old ranges) old (named_written old ranges sent) in
    let fits = rest_fit before (f ∷ fs) (subst (λ gs. AllByRecursion Fits gs) whole (frames_fit text (bytes_fit text bytes))) in
    let (one, (each, alike)) = takes_after mid fs (sound_acks (named old ranges) old sound.0, later.counts sound.1) (sent_stays old mid later sent) (settled_acks old ranges settled) none fits.1 (subst (λ g. NoFault old (g ∷ seen_all fs)) is fine_then).1 in
    let last : End = frames_taken (seen_all fs) (settle mid) in
    let from_ack : TakesEach (f ∷ fs) (settle mid) (Ok one) last = pass_by _ _ (is_ours (seen f)) (ap is_ours is) each in
    let takes : TakesEach (frames_in text) (settle mid) (Ok one) last = subst (λ gs. TakesEach gs (settle mid) (Ok one) last) (sym whole) (take_others before (f ∷ fs) (settle mid) one last other from_ack) in
    let unclosed : (settle mid).closed ≡ None = ap (λ (x : End). x.closed) (acks_leave (named old ranges) old) ∙ fresh.unclosed in
    let effects : frames_taken (seen_all (frames_in text)) old ≡ frames_taken (seen_all fs) mid = ap (λ gs. frames_taken (seen_all gs) old) whole ∙ passed ∙ ap (λ g. frames_taken (g ∷ seen_all fs) old) is in (
      settle mid,
      one,
      settle last,
      an_ack_may_be_told old largest ranges t ts sent same may,
      subst (λ o. TakeAllBy o (frames_in text) (settle mid) (Ok one) (settle last)) (sym unclosed) (last, takes, refl),
      after ∙ ap (recorded k (any_asks (seen_all (frames_in text)))) (ap settle effects ∙ sym alike),
    )
  where
    mid : End
    mid = acks (named old ranges) old
