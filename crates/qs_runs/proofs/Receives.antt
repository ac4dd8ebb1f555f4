-- What the peer made keeps the invariant of the end that it comes to, as a payload or as frames alone, and spends nothing when it comes again.
use Rattle.std.proofs.lemmas.Bool.Decides.{nat_tests}
use Rattle.std.proofs.Common.{◌≡◌, ℕ, ◌≤◌, ◌<◌, Bool, List, [], ◌∷◌, ◌++◌, ◌⊎◌, take, Option, Some, None, Result, Ok, Err, true, false, if◌then◌else◌, ◌||◌, ◌==◌, refl, sym, ap, ◌∙◌, subst, arith, inl, inr, append-nil, append_assoc, MatchBool, ◌≢◌, ◌+◌, length, unwrap_or, is_some, le_antisymm}
use Rattle.std.proofs.lemmas.Bool.{cases_lt, ltb-false, eq-eqb, false≢true, or_cases}
use Rattle.std.specs.FinSet as set
use Rattle.std.specs.List.{AllByRecursion}
use Rattle.qs_ranges.specs.Numbers.{NumberSet, numbers, missing_from, end_of}
use Rattle.qs_ranges.proofs.Sets.{missing_from-is}
use Rattle.qs_wire.specs.Layout.{PlacedValue, FrameValue}
use Rattle.qs_wire.specs.Grammar.{frames_of, Fits}
use Rattle.qs_wire.specs.Reading.{reading_of}
use Rattle.qs_wire.specs.declared.fault.WireFault.{WireFault}
use Rattle.qs_calls.specs.declared.closing.Closing.{Closing}
use Rattle.qs_calls.specs.declared.closing.Closed.{Closed}
use Rattle.qs_calls.specs.declared.closing.Closer.{Closer}
use Rattle.qs_machine.specs.Receiving.{noted_by, noted_receive, ReceiveStep, ReceiveBy, Takes, Stops, AtEnd, RunsOut}
use Rattle.qs_calls.specs.declared.closing.Closed.TheVariants.{ByUs, ByPeer}
use Rattle.qs_calls.specs.declared.closing.Closed.TheVariants as closings
use Rattle.qs_calls.specs.declared.closing.Received.{Received}
use Rattle.qs_calls.specs.declared.closing.Received.TheVariants.{Done, Duplicate, BelowFloor, PeerClosed, NoMemory}
use Rattle.qs_send.specs.Lane.{SendLane}
use Rattle.qs_machine.specs.Ends.{End, first_send_limit, on_recv, closes, is_own, opens, opened_by_peer}
use Rattle.qs_machine.specs.Seen.{Seen, Ack, Close, seen, seen_all, asks_ack, Stream, Control}
use Rattle.qs_machine.specs.FrameStep.{named, frame_taken, is_named, item_taken}
use Rattle.qs_machine.specs.Recording.{recorded, has_too_many, lowest_end, least_in}
use Rattle.qs_machine.proofs.RunLaws.{least_above}
use Rattle.qs_machine.proofs.EveryCall.{no_fault_there, by_open, same_either, relates, Change, changed, Comes, HearsPeer, Wanted, Opened, Stopped as WasStopped, Forgotten, WasRead, WasSet, Took as WasTaken, Acked as WasAckedBy, Put, Settled}
use Rattle.qs_runs.specs.Logs.{Came, Acked, effects_of, acked_effects, is_in}
use Rattle.qs_machine.specs.EndStep.{Call, Answer, EndStep, Receive, TakeFrame, TakeFrames, TokenAcked, RaiseLimits, NoteClosed}
use Rattle.qs_machine.specs.Raising.{limits_raised, raise_refusal}
use Rattle.qs_machine.specs.Setting.{SendBuffer, StreamWindow, Grant}
use Rattle.qs_recv.specs.declared.half.Read.{Read}
use Rattle.qs_runs.proofs.Past.{with_effect, with_effects}
use Rattle.qs_calls.specs.declared.token.TokenFault.TheVariants as tokens
use Rattle.qs_machine.specs.Plains.{frames_in}
use Rattle.qs_runs.specs.Agree.{IsOld}
use Rattle.qs_runs.proofs.Lists.{Among_right}
use Rattle.qs_runs.proofs.Members.{insert-cases, insert-old, insert-new, cut-cases, cut-kept, run-cases, run-old, below-end, end-le}
use Rattle.qs_runs.specs.Pasts.{Past, Tells}
use Rattle.qs_runs.specs.Invariant.{EndOk, SendSlot, FrameTaken}
use Rattle.qs_runs.proofs.Changes.{send_alike, AllGrow, all_grow_refl, grow_trans, frame_stays, Grows, settle_ok, each_grows, raise_grows}
use Rattle.qs_runs.proofs.Acking.{acks_ok, named_pieces_ok, WasAcked}
use Rattle.qs_machine.proofs.Leaves.{put_leaves, frame_leaves, acks_leave, stops_leave, end_leaves}
use Rattle.qs_runs.proofs.Frames.{Effect, MayCome, come_keeps, frame_keeps, new_recvs, lane_opened}
use Rattle.qs_runs.proofs.OwnMoves.{ended_by}
use Rattle.std.proofs.lemmas.Option.{none-some, same_Some}
use Rattle.std.specs.Bool.{⊤}
use Rattle.qs_recv.specs.Lane.{after_answer, after_read, read_answer, stop, stop_and_discard, set_window, is_over, RecvLane, raise, highest, take_stream, take_reset, check_stream, check_reset}
use Rattle.qs_send.specs.Records.{Among}
use Rattle.qs_calls.specs.declared.token.Token.{Token}
use Rattle.qs_calls.specs.declared.token.Taken.{Taken}
use Rattle.qs_calls.specs.declared.token.Taken.TheVariants.{Took, Unchanged, NotOurs}
use Rattle.qs_calls.specs.declared.token.TakeFault.{TakeFault}
use Rattle.qs_calls.specs.declared.token.TakeFault.TheVariants as faults
use Rattle.qs_calls.specs.declared.token.TokenFault.{TokenFault}
use Rattle.qs_machine.specs.Tables.{Tables, lookup, updated, total}
use Rattle.qs_machine.specs.Credit.{settle, spent}
use Rattle.qs_machine.specs.Verdicts.{verdict, item_verdict, credit_fault, lane_of, state_fault_in}
use Rattle.qs_machine.specs.Alone.{TakeFrameStep, TakeFramesStep, is_ours, MayTake, TakesOne, TakesEach, TakeBy, TakeAllBy, after_one, token_refusal, TokenAckedStep}
use Rattle.qs_runs.proofs.Facing.{IsThere, there_taken}
use Rattle.qs_runs.proofs.Standing.{fixed, certain_cases}
use Rattle.qs_wire.specs.declared.stream_id.Dir.TheVariants.{Uni}
use Rattle.qs_recv.specs.Assembled.{discard}
use Rattle.qs_send.specs.declared.piece.Item.TheVariants.{MaxStreamData, MaxStreams, ResetStream, StopSending, StreamDataBlocked}
use Rattle.qs_machine.proofs.TableLaws.{lookup_open, total_update, total_each}
use Rattle.qs_runs.proofs.Taking.{or_else_none, stream_passed, fin_fits, reset_fits}
use Rattle.qs_runs.proofs.Unharmed.{spent_opened}
use Rattle.qs_machine.proofs.Pieces.{All_append, All_take, All_more}

-- A payload that the peer made keeps the invariant of the end that it comes to, whatever comes of it.

-- Recording

pub or_cond : (b x : Bool) → x ≡ true → (if b then true else x) ≡ true
or_cond b x h = grind (arith, nat_tests)

module _ (k : ℕ) where
  processed_or : (d : ℕ → Bool) (j : ℕ) → (if j == k then true else d j) ≡ true → (j ≡ k) ⊎ (d j ≡ true)
  processed_or d j h = grind (arith, nat_tests)

  -- the numbers that are kept, and the floor, where there are too many runs or not
  abbrev kept_by : Bool → NumberSet → NumberSet
  kept_by b s = if b then set.difference s (numbers 0 (lowest_end s)) else s

  abbrev floor_by : Bool → NumberSet → ℕ → ℕ
  floor_by b s floor = if b then lowest_end s else floor

  still_member : (b : Bool) (s : NumberSet) (q : ℕ) → set.contains (kept_by b s) q ≡ true → set.contains s q ≡ true
  still_member b s q h = grind (arith, nat_tests, cut-cases)

  kept_or_below : (b : Bool) (s : NumberSet) (floor q : ℕ) → set.contains s q ≡ true → (set.contains (kept_by b s) q ≡ true) ⊎ (q < floor_by b s floor)
  kept_or_below b s floor q h = grind (arith, nat_tests, cases_lt, cut-kept)

  kept_above : (b : Bool) (s : NumberSet) (floor q : ℕ) → ((j : ℕ) → set.contains s j ≡ true → floor ≤ j) → set.contains (kept_by b s) q ≡ true → floor_by b s floor ≤ q
  kept_above b s floor q all h = grind (arith, nat_tests, cut-cases)

  -- the floor never falls
  floor_rises : (b : Bool) (s : NumberSet) (floor : ℕ) → ((q : ℕ) → set.contains s q ≡ true → floor ≤ q) → set.contains s k ≡ true → floor ≤ floor_by b s floor
  unfolding lowest_end
  floor_rises true s floor all is =
      let least : floor ≤ least_in (set.items s) = least_above floor (set.items s) (λ q h. all q (set.contains-items s q ∙ h)) k (sym (set.contains-items s k) ∙ is) in
      let from : least_in (set.items s) ≤ missing_from s (least_in (set.items s)) = (missing_from-is s (least_in (set.items s))).from in
      omega arith
  floor_rises false s floor all is = omega arith

  inserted_above : (done : NumberSet) (floor : ℕ) → floor ≤ k → ((q : ℕ) → set.contains done q ≡ true → floor ≤ q) → (q : ℕ) → set.contains (set.insert done k) q ≡ true → floor ≤ q
  inserted_above done floor le all q h = elim (insert-cases done k q h) [ inl e ↦ omega arith | inr old ↦ all q old ]

  recorded_ok : (p : Past) (asks : Bool) (e : End) (bytes : List ℕ) → e.floor ≤ k → EndOk p e → AllByRecursion (FrameTaken e.recvs) (frames_in bytes) → EndOk (with_effect (Came k bytes) p) (recorded k asks e)
  recorded_ok p asks e bytes low ok all =
      let s : NumberSet = set.insert e.done k in
      let b : Bool = has_too_many s in
      let above : (q : ℕ) → set.contains s q ≡ true → e.floor ≤ q = inserted_above e.done e.floor low ok.packets.above in
      record {
        sends = ok.sends;
        recvs = ok.recvs;
        credit = ok.credit;
        streams = ok.streams;
        packets = record {
          count = ok.packets.count;
          records = ok.packets.records;
          lost_records = ok.packets.lost_records;
          kinds = ok.packets.kinds;
          acks_told = λ largest ranges t. (let a = ok.packets.acks_told largest ranges t in record { names_largest = a.names_largest; names_processed = λ j named. or_cond (j == k) _ (a.names_processed j named) });
          is_done = λ j h.
              elim (insert-cases e.done k j (still_member b s j h)) [
                | inl same ↦ rw (eq-eqb j k same) refl
                | inr old ↦ or_cond (j == k) _ (ok.packets.is_done j old)
              ];
          kept = λ j h.
              elim (processed_or p.processed j h) [
                | inl same ↦ kept_or_below b s e.floor j (subst (λ x. set.contains s x ≡ true) (sym same) (insert-new e.done k))
                | inr old ↦ elim (ok.packets.kept j old) [
                  | inl has_it ↦ kept_or_below b s e.floor j (insert-old e.done k j has_it)
                  | inr below ↦ (let rises : e.floor ≤ floor_by b s e.floor = floor_rises b s e.floor above (insert-new e.done k) in inr (omega arith))
                ]
              ];
          above = λ j h. kept_above b s e.floor j above h;
        };
        taken = All_append (FrameTaken e.recvs) p.taken (frames_in bytes) ok.taken all;
      }

-- The frames of a payload, one after the other

pub closed_ok : (p : Past) (e : End) (c : Closed) → EndOk p e → EndOk p (closes c e)
closed_ok p e c ok = record { sends = ok.sends; recvs = ok.recvs; packets = ok.packets; taken = ok.taken; credit = ok.credit; streams = ok.streams }

-- Those that come are told by the peer, or plain.
module _ (p : Past) (k : ℕ) (bytes : List ℕ) (come : (g : Seen) → Among g (frames_in bytes) → MayCome p.theirs g) where
  abbrev Leaves : Result Received Closing → End → Type 0
  Leaves result new = EndOk (with_effects (effects_of (Receive k bytes) result) p) new

  at_end_ok : (asks : Bool) (fault : Option WireFault) (e : End) (result : Result Received Closing) (new : End) → EndOk p e → e.floor ≤ k → AllByRecursion (FrameTaken e.recvs) (frames_in bytes) → AtEnd k asks fault e result new → Leaves result new
  at_end_ok asks None e (Ok Done) new ok low taken h = ended_by _ _ _ h (recorded_ok k p asks e bytes low ok taken)
  at_end_ok asks None e (Ok NoMemory) new ok low taken h = ended_by p _ _ h.0 ok
  at_end_ok asks (Some fault) e (Err closing) new ok low taken h = ended_by p _ _ h.1 (closed_ok p e _ ok)
  at_end_ok asks fault e result new ok low taken h = absurd h

  stops_ok : (v : PlacedValue) (f : Seen) (e : End) (result : Result Received Closing) (new : End) → EndOk p e → MayCome p.theirs f → Stops v f e result new → Leaves result new
  stops_ok v (Close code) e (Ok (PeerClosed told)) new ok t h = ended_by p _ _ h.1 (closed_ok p e _ ok)
  stops_ok v (Ack largest ranges) e (Ok NoMemory) new ok (inr plain) stops = absurd (false≢true plain)
  stops_ok v (Ack largest ranges) e (Ok NoMemory) new ok (inl t) (fine, (m, h, asks)) =
      ended_by p _ _ h (acks_ok p (take m (named e ranges)) e (All_take _ m _ (named_pieces_ok p e ok ranges (λ j a. inl (largest, ranges, t, a)))) ok)
  stops_ok v (Close code) e result new ok t h = absurd h
  stops_ok v f e (Ok NoMemory) new ok t h = ended_by p _ _ h.1.0 ok
  stops_ok v f e (Err closing) new ok t h = ended_by p _ _ h.2 (closed_ok p e _ ok)
  stops_ok v f e result new ok t h = absurd h

  -- the frames before have taken effect; what is left are these
  takes_ok : (left : List PlacedValue) (before : List Seen) (asks : Bool) (fault : Option WireFault) (e : End) (result : Result Received Closing) (new : End) → frames_in bytes ≡ before ++ seen_all (frames_of left) →
      EndOk p e → e.floor ≤ k → AllByRecursion (FrameTaken e.recvs) before → Takes k fault asks e left result new → Leaves result new
  takes_ok [] before asks fault e result new split ok low taken h =
      at_end_ok asks fault e result new ok low (subst (AllByRecursion (FrameTaken e.recvs)) (sym (split ∙ append-nil before)) taken) h
  takes_ok (v ∷ left) before asks fault e result new split ok low taken (inl stops) =
      stops_ok v (seen v.frame) e result new ok (come (seen v.frame) (rw split (Among_right before _ _ (inl refl)))) stops
  takes_ok (v ∷ left) before asks fault e result new split ok low taken (inr (goes, rest)) =
      let f : Seen = seen v.frame in
      let one : Effect p e (frame_taken f e) f = come_keeps p e f ok (come f (rw split (Among_right before _ _ (inl refl)))) (no_fault_there e f goes) in
      takes_ok left (before ++ f ∷ []) (asks || asks_ack f) fault (frame_taken f e) result new (split ∙ sym (append_assoc before (f ∷ []) (seen_all (frames_of left)))) one.ok
      (rw (ap (λ (x : End). x.floor) (frame_leaves f e)) low)
      (All_append (FrameTaken (frame_taken f e).recvs) before (f ∷ []) (All_more (FrameTaken e.recvs) (FrameTaken (frame_taken f e).recvs) before (frame_stays e.recvs (frame_taken f e).recvs one.grow) taken) (one.taken, tt)) rest

-- a close that was told brings in nothing
pub never_done : (k : ℕ) (bytes : List ℕ) (c : Closer) (code : ℕ) → effects_of (Receive k bytes) (noted_receive c code) ≡ []
never_done k bytes c code = grind (arith, nat_tests)

pub receives : (p : Past) (e new : End) (k : ℕ) (bytes : List ℕ) (result : Result Received Closing) → EndOk p e → ((g : Seen) → Among g (frames_in bytes) → MayCome p.theirs g) → ReceiveStep e k bytes result new →
    EndOk (with_effects (effects_of (Receive k bytes) result) p) new
receives p e new k bytes result ok come step = by_closed e.closed step
  where
    -- what wasn't taken changes nothing
    stays : (r : Result Received Closing) → effects_of (Receive k bytes) r ≡ [] → result ≡ r → new ≡ e → EndOk (with_effects (effects_of (Receive k bytes) result) p) new
    stays r none at same = subst (λ xs. EndOk (with_effects xs p) new) (sym (ap (effects_of (Receive k bytes)) at ∙ none)) (ended_by p e new same ok)

    settled_ok : (r : Result Received Closing) (mid new : End) → new ≡ settle mid → EndOk (with_effects (effects_of (Receive k bytes) r) p) mid → EndOk (with_effects (effects_of (Receive k bytes) r) p) new
    settled_ok r mid new same h = ended_by _ _ _ same (settle_ok _ mid h)

    by_closed : (o : Option Closed) → ReceiveBy o k bytes e result new → EndOk (with_effects (effects_of (Receive k bytes) result) p) new
    by_closed (Some (ByUs closing)) h = stays (Err closing) refl h.0 h.1
    by_closed (Some (ByPeer code)) h = stays (Ok (PeerClosed code)) refl h.0 h.1
    by_closed (Some (closings.Noted close)) h = stays (noted_receive close.by close.code) (never_done k bytes close.by close.code) h.0 h.1
    by_closed None h =
        by_open (EndOk (with_effects (effects_of (Receive k bytes) result) p) new) k bytes e result new h (stays (Ok BelowFloor) refl) (stays (Ok Duplicate) refl) (λ high mid takes same.
        settled_ok result mid new same (takes_ok p k bytes come (reading_of bytes).left [] false (reading_of bytes).fault e result mid refl ok (ltb-false k e.floor high) tt takes))

-- Frames that come without their packet, and tokens that are acknowledged.

-- several frames are handed in together, or one alone (RFC 9000, sections 12.4 and 13.1)
abbrev pub HandedIn : List FrameValue → End → Result Taken TakeFault → End → Type 0
HandedIn fs old r new = TakeFramesStep old fs r new ⊎ ((f : FrameValue) × (fs ≡ f ∷ []) × TakeFrameStep old f r new)

-- Frames, one after the other

-- whether it changed something or nothing, the frame took effect
pub took_effect : (e : End) (f : FrameValue) (one : Taken) (new : End) → TakesOne e f (Ok one) new → MayTake e f × (new ≡ frame_taken (seen f) e)
took_effect e f one new h = grind (arith, nat_tests)

-- one by one they are several of one; what isn't an end's own changes nothing
pub handed : (e : End) (fs : List FrameValue) (result : Result Taken TakeFault) (new : End) → e.closed ≡ None → HandedIn fs e result new →
    ((mid : End) × TakesEach fs e result mid × (new ≡ settle mid)) ⊎ (AllByRecursion (λ f. is_ours (seen f) ≡ false) fs × (new ≡ e))
handed e fs result new open_end (inl several) = inl (subst (λ o. TakeAllBy o fs e result new) open_end several)
handed e fs result new open_end (inr (f, is, one)) = by (is_ours (seen f)) refl (subst (λ o. TakeBy o f e result new) open_end one)
  where
    each : is_ours (seen f) ≡ true → (r : Result Taken TakeFault) (mid : End) → TakesOne e f r mid → TakesEach (f ∷ []) e r mid
    each ours (Ok Took) mid h = rw ours (inl (mid, Took, Ok NotOurs, h, (refl, refl), refl))
    each ours (Ok Unchanged) mid h = rw ours (inl (mid, Unchanged, Ok NotOurs, h, (refl, refl), refl))
    each ours (Ok NotOurs) mid h = absurd h
    each ours (Err fault) mid h = rw ours (inr (fault, h, refl))

    by : (b : Bool) → is_ours (seen f) ≡ b → MatchBool b ((mid : End) × TakesOne e f result mid × (new ≡ settle mid)) ((result ≡ Ok NotOurs) × (new ≡ e)) →
        ((mid : End) × TakesEach fs e result mid × (new ≡ settle mid)) ⊎ (AllByRecursion (λ f. is_ours (seen f) ≡ false) fs × (new ≡ e))
    by true ours (mid, takes, after) = inl (mid, subst (λ gs. TakesEach gs e result mid) (sym is) (each ours result mid takes), after)
    by false other none = inr (subst (AllByRecursion (λ g. is_ours (seen g) ≡ false)) (sym is) (other, tt), none.1)

-- no frame of these found a fault, nor a want of memory
abbrev pub all_came : Result Taken TakeFault → Bool
all_came (Ok taken) = true
all_came (Err fault) = false

later_came : (one : Taken) (later : Result Taken TakeFault) → all_came (after_one one later) ≡ true → all_came later ≡ true
later_came one later is = grind (arith, nat_tests)

pub none_asked : (e new : End) (g : Seen) → is_ours g ≡ true → RunsOut e g new → new ≡ e
none_asked e new g ours h = grind (arith, nat_tests)

others_taken : (t : Tables RecvLane) (g : Seen) → is_ours g ≡ false → FrameTaken t g
others_taken t g other = grind (arith, nat_tests)

pub none_ours : (P : Seen → Type 0) → ((g : Seen) → is_ours g ≡ false → P g) → (fs : List FrameValue) → AllByRecursion (λ f. is_ours (seen f) ≡ false) fs → AllByRecursion P (seen_all fs)
none_ours P others [] foreign = tt
none_ours P others (f ∷ fs) foreign = (others (seen f) foreign.0, none_ours P others fs foreign.1)

-- What frames leave that came.
record FramesCame (p : Past) (old e new : End) (fs : List Seen) (result : Result Taken TakeFault) : Type 0 where
  pub ok : EndOk p new
  pub there : IsThere old new
  pub grow : AllGrow e.recvs new.recvs
  pub done : all_came result ≡ true → AllByRecursion (FrameTaken new.recvs) fs

-- each frame of streams and of flow control was told, and has a text
abbrev pub WereTold : Past → List FrameValue → Type 0
WereTold p fs = AllByRecursion (λ f. is_ours (seen f) ≡ true → Tells p.theirs (seen f) × Fits f) fs

module _ (p : Past) (old : End) (fine : (mid : End) → EndOk p mid → IsThere old mid → (g : Seen) → Tells p.theirs g → verdict mid g ≡ None) where
  same_came : (e new : End) (fs : List Seen) (result : Result Taken TakeFault) → EndOk p e → IsThere old e → new ≡ e → (all_came result ≡ true → AllByRecursion (FrameTaken e.recvs) fs) → FramesCame p old e new fs result
  same_came e new fs result ok there same done = subst (λ x. FramesCame p old e x fs result) (sym same) (record { ok = ok; there = there; grow = all_grow_refl e.recvs; done = done })

  -- one took no effect
  stops_came : (f : FrameValue) (e new : End) (fs : List Seen) (fault : TakeFault) (result : Result Taken TakeFault) → result ≡ Err fault → EndOk p e → IsThere old e → Tells p.theirs (seen f) → Fits f → is_ours (seen f) ≡ true → TakesOne e f (Err fault) new → FramesCame p old e new fs result
  stops_came f e new fs faults.NoMemory result is ok there told fit ours h =
      same_came e new fs result ok there (none_asked e new (seen f) ours h.1) (λ d. absurd (false≢true (sym (ap all_came is) ∙ d)))
  stops_came f e new fs (faults.Closing closing) result is ok there told fit ours h =
      elim h.0 [
        | inl no_text ↦ absurd (no_text.0 fit)
        | inr (fits, faulty) ↦ absurd (none-some closing.code (sym (fine e ok there (seen f) told) ∙ faulty))
      ]
  stops_came f e new fs (faults.PeerClosed code) result is ok there told fit ours h = absurd h

  each_came : (fs : List FrameValue) (e : End) (result : Result Taken TakeFault) (new : End) → EndOk p e → IsThere old e → WereTold p fs → TakesEach fs e result new → FramesCame p old e new (seen_all fs) result
  each_came [] e result new ok there told h = same_came e new [] result ok there h.1 (λ d. tt)
  each_came (f ∷ fs) e result new ok there told h =
      by (is_ours (seen f)) refl h (λ mid r now same takes. each_came fs mid r new now same told.1 takes)
    where
      by : (b : Bool) → is_ours (seen f) ≡ b → MatchBool b (((mid : End) × (one : Taken) × (later : Result Taken TakeFault) × TakesOne e f (Ok one) mid × TakesEach fs mid later new × (result ≡ after_one one later)) ⊎ ((fault : TakeFault) × TakesOne e f (Err fault) new × (result ≡ Err fault))) (TakesEach fs e result new)
          → ((mid : End) (r : Result Taken TakeFault) → EndOk p mid → IsThere old mid → TakesEach fs mid r new → FramesCame p old mid new (seen_all fs) r) → FramesCame p old e new (seen f ∷ seen_all fs) result
      by true ours (inl (mid, one, later, takes, more, is)) goes =
          let (may, after) = took_effect e f one mid takes in
          let effect : Effect p e (frame_taken (seen f) e) (seen f) = frame_keeps p e (seen f) ok (told.0 ours).0 may.1 in
          let rest = goes (frame_taken (seen f) e) later effect.ok (there_taken old e (seen f) there) (subst (λ x. TakesEach fs x later new) after more) in
          record {
            ok = rest.ok;
            there = rest.there;
            grow = grow_trans e.recvs _ new.recvs effect.grow rest.grow;
            done = λ d. (frame_stays _ new.recvs rest.grow (seen f) effect.taken, rest.done (later_came one later (sym (ap all_came is) ∙ d)));
          }
      by true ours (inr (fault, one, is)) goes = stops_came f e new (seen f ∷ seen_all fs) fault result is ok there (told.0 ours).0 (told.0 ours).1 ours one
      by false other more goes =
          let rest = goes e result ok there more in
          record { ok = rest.ok; there = rest.there; grow = rest.grow; done = λ d. (others_taken new.recvs (seen f) other, rest.done d) }

  -- frames that came are taken, where nothing spoke against one
  came_alone : (fs : List FrameValue) (r : Result Taken TakeFault) (new : End) → EndOk p new → (all_came r ≡ true → AllByRecursion (FrameTaken new.recvs) (seen_all fs)) → EndOk (with_effects (effects_of (TakeFrames fs) r) p) new
  came_alone fs (Ok told) new ok taken = record { sends = ok.sends; recvs = ok.recvs; packets = ok.packets; credit = ok.credit; streams = ok.streams; taken = All_append (FrameTaken new.recvs) p.taken (seen_all fs) ok.taken (taken refl) }
  came_alone fs (Err fault) new ok taken = ok

  -- as the call ends the limits move
  pub handed_came : (fs : List FrameValue) (e : End) (result : Result Taken TakeFault) (new : End) → e.closed ≡ None → EndOk p e → IsThere old e → WereTold p fs → HandedIn fs e result new →
      EndOk (with_effects (effects_of (TakeFrames fs) result) p) new × (fixed new ≡ fixed old)
  handed_came fs e result new open_end ok there told h =
      elim (handed e fs result new open_end h) [
        | inl (mid, takes, after) ↦ (
            let came = each_came fs e result mid ok there told takes in (
              came_alone fs result new (ended_by p _ new after (settle_ok p mid came.ok))
                  (λ d. subst (λ x. AllByRecursion (FrameTaken x.recvs) (seen_all fs)) (sym after)
                  (All_more (FrameTaken mid.recvs) (FrameTaken (settle mid).recvs) (seen_all fs) (frame_stays mid.recvs (settle mid).recvs (each_grows raise mid.recvs raise_grows)) (came.done d))),
              ap fixed after ∙ came.there.0,
            )
            )
        | inr (foreign, same) ↦ (came_alone fs result new (ended_by p e new same ok) (λ d. none_ours (FrameTaken new.recvs) (others_taken new.recvs) fs foreign), ap fixed same ∙ there.0)
      ]

-- Tokens

-- an end is told more tokens
token_ok : (p : Past) (t : Token) (e : End) → EndOk p e → EndOk (with_effect (Acked t) p) e
token_ok p t e ok =
    record { sends = λ n. slot n (lookup e.sends n) (ok.sends n); recvs = ok.recvs; packets = ok.packets; taken = ok.taken; credit = ok.credit; streams = ok.streams }
  where
    slot : (n : ℕ) (o : Option SendLane) → SendSlot p n (first_send_limit e n) o → SendSlot (with_effect (Acked t) p) n (first_send_limit e n) o
    slot n None h = h
    slot n (Some l) h =
        send_alike h (λ own. own) (λ is. is) (λ f told. told) (λ k ack. elim ack [ inl named ↦ inl named | inr told ↦ inr (or_cond (is_in t k) (p.tokens k) told) ]) h.sent_limit h.limit_told

named_alone : (t : Token) (j : ℕ) → is_named ((t.first, t.number) ∷ []) j ≡ true → is_in t j ≡ true
named_alone t j h = elim (or_cases _ _ h) [ inl both ↦ both | inr none ↦ absurd (false≢true none) ]

-- the pieces of the packets that are told by their token
token_pieces : (p : Past) (t : Token) (e : End) → EndOk (with_effect (Acked t) p) e → AllByRecursion (WasAcked (with_effect (Acked t) p)) (named e ((t.first, t.number) ∷ []))
token_pieces p t e ok = grind (arith, nat_tests, named_pieces_ok, with_effect, named_alone)

pub token_acked_moves : (p : Past) (e new : End) (t : Token) (result : Result (Unit {0}) TokenFault) → EndOk p e → TokenAckedStep e t result new → EndOk (with_effects (effects_of (TokenAcked t) result) p) new
unfolding frame_taken
token_acked_moves p e new t result ok step =
    let q : Past = with_effect (Acked t) p in
    let now : EndOk q e = token_ok p t e ok in
    let all = token_pieces p t e now in
    elim (certain_cases (token_refusal e t) e result new _ step) [
      | inl (fault, is, same) ↦ subst (λ r. EndOk (with_effects (acked_effects t r) p) new) (sym is) (refused fault (ended_by p e new same ok))
      | inr (allowed, inl (is, same)) ↦ subst (λ r. EndOk (with_effects (acked_effects t r) p) new) (sym is) (ended_by q _ new same (settle_ok q _ (acks_ok q (named e ((t.first, t.number) ∷ [])) e all now)))
      | inr (allowed, inr (is, mid, (m, h, asks), same)) ↦
          subst (λ r. EndOk (with_effects (acked_effects t r) p) new) (sym is) (ended_by q _ new same (settle_ok q mid (ended_by q _ mid h (acks_ok q (take m (named e ((t.first, t.number) ∷ []))) e (All_take _ m _ all) now))))
    ]
  where
    refused : (fault : TokenFault) → EndOk p new → EndOk (with_effects (acked_effects t (Err fault)) p) new
    refused tokens.NoMemory h = token_ok p t new h
    refused fault h = h

-- A repeat leaves an end as it was, and what tells nothing new spends nothing.

-- a packet that was processed
pub repeats : (p : Past) (e new : End) (k : ℕ) (text : List ℕ) (result : Result Received Closing) → EndOk p e → e.closed ≡ None → ReceiveStep e k text result new → p.processed k ≡ true → new ≡ e
repeats p e new k text result ok not_closed step done = grind (arith, nat_tests)

-- a run of members adds nothing
same_end : (s : NumberSet) (lo hi : ℕ) → ((q : ℕ) → lo ≤ q → q < hi → set.contains s q ≡ true) → end_of (set.union s (numbers lo hi)) ≡ end_of s
same_end s lo hi all =
    le_antisymm
    (end-le (set.union s (numbers lo hi)) (end_of s) (λ q is. elim (run-cases s lo hi q is) [ inl old ↦ below-end s q old | inr new ↦ below-end s q (all q new.0 new.1) ]))
    (end-le s (end_of (set.union s (numbers lo hi))) (λ q is. below-end (set.union s (numbers lo hi)) q (run-old s lo hi q is)))

stream_highest : (l : RecvLane) (offset : ℕ) (bytes : List ℕ) (fin : Bool) → ((q : ℕ) → offset ≤ q → q < offset + length bytes → set.contains l.arrived.received q ≡ true) → (fin ≡ true → l.final_size ≢ None) →
    ((size : ℕ) → l.final_size ≡ Some size → fin ≡ true → offset + length bytes ≡ size) → highest (take_stream l offset bytes fin) ≡ highest l
stream_highest l offset bytes fin all known fits = grind (arith, nat_tests, same_either, same_end, unwrap_or)

reset_highest : (l : RecvLane) (code size : ℕ) → l.final_size ≢ None → ((known : ℕ) → l.final_size ≡ Some known → size ≡ known) → highest (take_reset l code size) ≡ highest l
reset_highest l code size known fits = grind (arith, nat_tests)

-- one half changes and keeps its highest offset
spent_kept : (e : End) (n : ℕ) (f : RecvLane → RecvLane) (o : Option RecvLane) → lookup e.recvs n ≡ o → ((l : RecvLane) → lookup e.recvs n ≡ Some l → highest (f l) ≡ highest l) → total highest (updated e.recvs n f o) ≡ total highest e.recvs
spent_kept e n f o is same = grind (arith, nat_tests, total_update)

-- opening leaves a half that is there
lane_stays : (e : End) (n : ℕ) (l : RecvLane) → lookup e.recvs n ≡ Some l → (b : Bool) → lookup (if b then e else opens n e).recvs n ≡ Some l
lane_stays e n l is b = grind (arith, nat_tests, new_recvs, lookup_open, none-some)

module _ (e : End) where
  stream_spends : (n offset : ℕ) (bytes : List ℕ) (fin : Bool) → IsOld e (Stream n offset bytes fin) → verdict e (Stream n offset bytes fin) ≡ None → spent (frame_taken (Stream n offset bytes fin) e) ≡ spent e
  unfolding verdict frame_taken
  stream_spends n offset bytes fin (all, known) fine = go (lookup e.recvs n) refl
    where
      go : (o : Option RecvLane) → lookup e.recvs n ≡ o → spent (frame_taken (Stream n offset bytes fin) e) ≡ spent e
      go (Some l) is =
          let there : lookup (opened_by_peer n e).recvs n ≡ Some l = lane_stays e n l is (is_own e n) in
          let this : lane_of e n ≡ l = lane_opened e n l (is_own e n) refl there in
          let fits = fin_fits e l offset (length bytes) fin (subst (λ x. credit_fault e (check_stream x offset (length bytes) fin) ≡ None) this (stream_passed e n offset bytes fin fine).1) in
          let came : (q : ℕ) → offset ≤ q → q < offset + length bytes → set.contains l.arrived.received q ≡ true =
          λ q low high. (let (m, at, there) = all q low high in subst (λ (x : RecvLane). set.contains x.arrived.received q ≡ true) (same_Some m l (sym at ∙ is)) there) in
          let sized : fin ≡ true → l.final_size ≢ None =
          λ set. (let (m, at, some) = known set in subst (λ (x : RecvLane). x.final_size ≢ None) (same_Some m l (sym at ∙ is)) some) in
          spent_kept (opened_by_peer n e) n (λ x. take_stream x offset bytes fin) (lookup (opened_by_peer n e).recvs n) refl
          (λ m at. (let same : l ≡ m = same_Some l m (sym there ∙ at) in subst (λ x. highest (take_stream x offset bytes fin) ≡ highest x) same (stream_highest l offset bytes fin came sized fits)))
          ∙ spent_opened e n (is_own e n)
      -- the stream isn't open, so the frame has neither a byte nor the end
      go None is =
          let unsized : fin ≡ true → ⊥ = λ set. (let (m, at, some) = known set in none-some m (sym is ∙ at)) in
          spent_kept (opened_by_peer n e) n (λ x. take_stream x offset bytes fin) (lookup (opened_by_peer n e).recvs n) refl
          (λ m at. stream_highest m offset bytes fin (λ q low high. (let (k, open_at, there) = all q low high in absurd (none-some k (sym is ∙ open_at)))) (λ set. absurd (unsized set)) (λ size sized set. absurd (unsized set)))
          ∙ spent_opened e n (is_own e n)

  reset_spends : (n code size : ℕ) → IsOld e (Control (ResetStream n code size)) → item_verdict e (ResetStream n code size) ≡ None → spent (item_taken (ResetStream n code size) e) ≡ spent e
  reset_spends n code size (l, is, known) fine =
      let there : lookup (opened_by_peer n e).recvs n ≡ Some l = lane_stays e n l is (is_own e n) in
      let this : lane_of e n ≡ l = lane_opened e n l (is_own e n) refl there in
      let fits = reset_fits e l size (subst (λ x. credit_fault e (check_reset x size) ≡ None) this (or_else_none (state_fault_in e n) _ fine).1) in
      spent_kept (opened_by_peer n e) n (λ x. take_reset x code size) (lookup (opened_by_peer n e).recvs n) refl
      (λ m at. (let same : l ≡ m = same_Some l m (sym there ∙ at) in subst (λ x. highest (take_reset x code size) ≡ highest x) same (reset_highest l code size known fits)))
      ∙ spent_opened e n (is_own e n)

  frame_spends : (f : Seen) → IsOld e f → verdict e f ≡ None → spent (frame_taken f e) ≡ spent e
  unfolding verdict frame_taken
  frame_spends (Ack largest ranges) old fine = ap spent (acks_leave (named e ranges) e)
  frame_spends (Stream n offset bytes fin) old fine = stream_spends n offset bytes fin old fine
  frame_spends (Control (MaxStreamData n m)) old fine = spent_opened e n (is_own e n)
  frame_spends (Control (MaxStreams Uni m)) old fine = refl
  frame_spends (Control (ResetStream n code size)) old fine = reset_spends n code size old fine
  frame_spends (Control (StopSending n code)) old fine = spent_opened e n (is_own e n)
  frame_spends (Control (StreamDataBlocked n m)) old fine = spent_opened e n (is_own e n)
  frame_spends f old fine = refl

-- What is old stays old.
known_stays : (l m : RecvLane) → Grows l m → l.final_size ≢ None → m.final_size ≢ None
known_stays l m g known none = grind (arith, nat_tests)

old_stays : (a b : End) → AllGrow a.recvs b.recvs → (f : Seen) → IsOld a f → IsOld b f
old_stays a b grow (Stream n offset bytes fin) (all, known) = (
  λ q low high. (let (l, is, came) = all q low high in let (m, there, g) = grow n l is in (m, there, g.received q came)),
  λ set. (let (l, is, sized) = known set in let (m, there, g) = grow n l is in (m, there, known_stays l m g sized)),
)
old_stays a b grow (Control (ResetStream n code size)) (l, is, known) = (let (m, there, g) = grow n l is in (m, there, known_stays l m g known))
old_stays a b grow f old = tt

pub settle_spends : (e : End) → spent (settle e) ≡ spent e
settle_spends e = total_each highest raise e.recvs (λ l. refl)

-- The frames of a payload, one after the other

takes_spend : (left : List PlacedValue) (p : Past) (k : ℕ) (asks : Bool) (fault : Option WireFault) (e : End) (result : Result Received Closing) (new : End) → EndOk p e → ((f : Seen) → Among f (seen_all (frames_of left)) → MayCome p.theirs f) →
    AllByRecursion (IsOld e) (seen_all (frames_of left)) → Takes k fault asks e left result new → spent new ≡ spent e
takes_spend [] p k asks fault e result new ok told all h = ap (total highest) (end_leaves k asks fault e result new h)
takes_spend (v ∷ left) p k asks fault e result new ok told all (inl stops) = ap (total highest) (stops_leave v (seen v.frame) e result new stops)
takes_spend (v ∷ left) p k asks fault e result new ok told all (inr (goes, rest)) =
    let f : Seen = seen v.frame in
    let one : Effect p e (frame_taken f e) f = come_keeps p e f ok (told f (inl refl)) (no_fault_there e f goes) in
    takes_spend left p k (asks || asks_ack f) fault (frame_taken f e) result new one.ok (λ g a. told g (inr a)) (All_more (IsOld e) (IsOld (frame_taken f e)) (seen_all (frames_of left)) (old_stays e (frame_taken f e) one.grow) all.1) rest
    ∙ frame_spends e f all.0 (no_fault_there e f goes)

-- a payload that tells nothing new spends nothing
pub spends_nothing : (p : Past) (e new : End) (k : ℕ) (text : List ℕ) (result : Result Received Closing) → EndOk p e → ((g : Seen) → Among g (frames_in text) → MayCome p.theirs g) → e.closed ≡ None → ReceiveStep e k text result new →
    AllByRecursion (IsOld e) (frames_in text) → spent new ≡ spent e
spends_nothing p e new k text result ok come not_closed step all = grind (arith, nat_tests, by_open, settle_spends, takes_spend)

-- Frames without their packet, one after the other

one_spends : (f : FrameValue) (e new : End) (fault : TakeFault) → is_ours (seen f) ≡ true → TakesOne e f (Err fault) new → spent new ≡ spent e
one_spends f e new fault ours h = grind (arith, nat_tests)

each_spends : (fs : List FrameValue) (p : Past) (e : End) (result : Result Taken TakeFault) (new : End) → EndOk p e → WereTold p fs → AllByRecursion (IsOld e) (seen_all fs) → TakesEach fs e result new → spent new ≡ spent e
each_spends [] p e result new ok told old h = ap spent h.1
each_spends (f ∷ fs) p e result new ok told old h = by (is_ours (seen f)) refl h (λ mid r now before takes. each_spends fs p mid r new now told.1 before takes)
  where
    by : (b : Bool) → is_ours (seen f) ≡ b → MatchBool b (((mid : End) × (one : Taken) × (later : Result Taken TakeFault) × TakesOne e f (Ok one) mid × TakesEach fs mid later new × (result ≡ after_one one later)) ⊎ ((fault : TakeFault) × TakesOne e f (Err fault) new × (result ≡ Err fault))) (TakesEach fs e result new)
        → ((mid : End) (r : Result Taken TakeFault) → EndOk p mid → AllByRecursion (IsOld mid) (seen_all fs) → TakesEach fs mid r new → spent new ≡ spent mid) → spent new ≡ spent e
    by true ours (inl (mid, one, later, takes, more, is)) goes =
        let (may, after) = took_effect e f one mid takes in
        let effect : Effect p e (frame_taken (seen f) e) (seen f) = frame_keeps p e (seen f) ok (told.0 ours).0 may.1 in
        goes (frame_taken (seen f) e) later effect.ok
        (All_more (IsOld e) (IsOld (frame_taken (seen f) e)) (seen_all fs) (old_stays e (frame_taken (seen f) e) effect.grow) old.1) (subst (λ x. TakesEach fs x later new) after more) ∙ frame_spends e (seen f) old.0 may.1
    by true ours (inr (fault, one, is)) goes = one_spends f e new fault ours one
    by false other more goes = goes e result ok old.1 more

-- frames that tell nothing new spend nothing
pub frames_spend : (p : Past) (e new : End) (fs : List FrameValue) (result : Result Taken TakeFault) → EndOk p e → e.closed ≡ None → WereTold p fs → AllByRecursion (IsOld e) (seen_all fs) → HandedIn fs e result new → spent new ≡ spent e
frames_spend p e new fs result ok open_end told old h =
    elim (handed e fs result new open_end h) [
      | inl (mid, takes, after) ↦ ap spent after ∙ settle_spends mid ∙ each_spends fs p e result mid ok told old takes
      | inr (foreign, same) ↦ ap spent same
    ]

-- A call that hands nothing in spends nothing.

highest_stop : (l : RecvLane) (code : ℕ) → highest (stop l code) ≡ highest l
highest_stop l code = same_either highest (is_some l.stop_code || is_over l) l (record l { arrived = discard l.arrived; stop_code = Some code }) refl

highest_read : (a : Read) (l : RecvLane) (size : ℕ) → highest (after_answer a l size) ≡ highest l
highest_read a l size = grind (arith, nat_tests)

edit_spends : (n : ℕ) (f : RecvLane → RecvLane) (e : End) → ((l : RecvLane) → highest (f l) ≡ highest l) → spent (on_recv n f e) ≡ spent e
edit_spends n f e same = spent_kept e n f (lookup e.recvs n) refl (λ l is. same l)

change_spends : (old : End) (call : Call) (c : Change) (e : End) → (HearsPeer call → ⊥) → Comes old call e c → spent (changed c e) ≡ spent e
change_spends old call (Wanted Uni count) e deaf comes = refl
change_spends old call (Opened n) e deaf comes = spent_opened e n false
change_spends old call (WasStopped n code) e deaf comes = edit_spends n (λ m. stop m code) e (λ l. highest_stop l code)
change_spends old call (Forgotten n code) e deaf comes = edit_spends n (λ m. stop_and_discard m code) e (λ l. highest_stop l code)
change_spends old call (WasRead n size) e deaf comes = edit_spends n (λ m. after_read m size) e (λ l. highest_read (read_answer l size) l size)
change_spends old call (WasSet (StreamWindow n w)) e deaf comes = edit_spends n (λ m. set_window m w) e (λ l. refl)
change_spends old call (WasSet (SendBuffer n size)) e deaf comes = refl
change_spends old call (WasSet (Grant Uni n)) e deaf comes = refl
change_spends old call (WasTaken f) e deaf comes = absurd (deaf comes.1)
change_spends old call (WasAckedBy count ranges) e deaf comes = absurd (deaf comes)
change_spends old call (Put f) e deaf comes = ap spent (put_leaves f e)
change_spends old call Settled e deaf comes = settle_spends e
change_spends old call c e deaf comes = refl

token_spends : (e new : End) (t : Token) (result : Result (Unit {0}) TokenFault) → TokenAckedStep e t result new → spent new ≡ spent e
unfolding frame_taken
token_spends e new t result step = grind (arith, nat_tests, certain_cases, settle_spends, acks_leave)

-- frames are handed in
abbrev pub Hands : Call → Type 0
Hands (Receive k bytes) = ⊤
Hands (TakeFrame f) = ⊤
Hands (TakeFrames fs) = ⊤
Hands call = ⊥

pub none_spent : (e new : End) (call : Call) (answer : Answer call) → (Hands call → ⊥) → EndStep e call answer new → spent new ≡ spent e
none_spent e new (TokenAcked t) answer idle step = token_spends e new t answer step
none_spent e new (RaiseLimits q) answer idle step =
    elim (certain_cases (raise_refusal e q) e answer new _ step) [ inl (fault, is, same) ↦ ap spent same | inr (allowed, (is, same)) ↦ ap spent same ∙ settle_spends (limits_raised q e) ]
none_spent e new (NoteClosed close) answer idle step = ap spent step ∙ by e.closed
  where
    by : (o : Option Closed) → spent (noted_by o close e) ≡ spent e
    by None = refl
    by (Some closed) = refl
none_spent e new (Receive k bytes) answer idle step = absurd (idle tt)
none_spent e new (TakeFrame f) answer idle step = absurd (idle tt)
none_spent e new (TakeFrames fs) answer idle step = absurd (idle tt)
none_spent e new call answer idle step = relates (λ a b. spent b ≡ spent a) (λ a. refl) (λ a b c x y. y ∙ x) e call (λ c f comes. change_spends e call c f (λ no. no) comes) answer new step
