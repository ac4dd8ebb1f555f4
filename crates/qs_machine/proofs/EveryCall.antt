-- One induction over all calls of an end: each is made of a few changes, and most end as the limits move; after a closing nothing changes.
use Rattle.std.proofs.Common.{◌≡◌, Bool, true, false, Option, Some, None, refl, sym, ℕ, ◌≤◌, ◌-◌, List, length, take, arith, ◌+◌, ◌*◌, ◌||◌, [], ◌∷◌, ◌++◌, drop, append-nil, is_some, ap, ◌∙◌, subst, inl, inr, zero, suc}
use Rattle.std.specs.Prelude.{MatchBool, Result, cond, ⊤, nat_lt, Ok, Err}
use Rattle.qs_machine.specs.Ends.{End, send_lane, recv_lane, on_send, on_recv, opens, closes}
use Rattle.qs_machine.specs.Owner.{Certain, accepted_by, OpenStep, AcceptStep, AcceptOfStep, ReadBy, ConsumeStep, with_wanted, first_refusal, refuse_if, no_half, half_refusal, send_refusal, recv_refusal, is_read_no_more, IsBlocked, IsOpened, GivesNone, GivesBidi, GivesUni, AcceptOpen, AcceptOpenOf, peer_type, next_stream}
use Rattle.std.proofs.lemmas.List.{length-take, take-append-drop}
use Rattle.qs_ranges.specs.Numbers.{MAX_VARINT}
use Rattle.qs_send.specs.Lane.{SendLane, accepted, refusal, reset_refusal, write_lane, finish_lane, reset_lane}
use Rattle.qs_machine.specs.Credit.{settle}
use Rattle.std.specs.FinMap as fmap
use Rattle.std.proofs.lemmas.Option.{none-some}
use Rattle.std.proofs.lemmas.Bool.Decides.{nat_tests}
use Rattle.qs_wire.specs.Layout.{FrameValue, PlacedValue}
use Rattle.qs_wire.specs.Reading.{reading_of}
use Rattle.qs_wire.specs.declared.fault.WireFault.{WireFault}
use Rattle.qs_wire.specs.declared.stream_id.Dir.{Dir}
use Rattle.qs_wire.specs.declared.stream_id.Dir.TheVariants.{Bidi, Uni}
use Rattle.qs_recv.specs.Lane.{after_read, stop, stop_and_discard}
use Rattle.qs_recv.specs.declared.half.Read.{Read}
use Rattle.qs_send.specs.Records.{IsCarried}
use Rattle.qs_send.specs.declared.piece.Piece.{Piece}
use Rattle.qs_send.proofs.Outstanding.{rest_of, get_same-without_first}
use Rattle.qs_calls.specs.declared.closing.Closing.{Closing}
use Rattle.qs_calls.specs.declared.closing.Closed.{Closed}
use Rattle.qs_calls.specs.declared.closing.Closed.TheVariants.{ByUs, ByPeer}
use Rattle.qs_calls.specs.declared.closing.Closed.TheVariants as closings
use Rattle.qs_calls.specs.declared.closing.NotedClose.{NotedClose}
use Rattle.qs_calls.specs.declared.closing.Received.{Received}
use Rattle.qs_calls.specs.declared.closing.Received.TheVariants as received
use Rattle.qs_calls.specs.declared.filling.Fill.{Fill}
use Rattle.qs_calls.specs.declared.filling.Filled.{Filled}
use Rattle.qs_calls.specs.declared.making.Made.{Made}
use Rattle.qs_calls.specs.declared.making.MakeFault.{MakeFault}
use Rattle.qs_calls.specs.declared.making.MakeFault.TheVariants as making
use Rattle.qs_calls.specs.declared.reading.Consumed.{Consumed}
use Rattle.qs_calls.specs.declared.settings.PeerLimits.{PeerLimits}
use Rattle.qs_calls.specs.declared.token.Taken.{Taken}
use Rattle.qs_calls.specs.declared.token.Taken.TheVariants as taken
use Rattle.qs_calls.specs.declared.token.TakeFault.{TakeFault}
use Rattle.qs_calls.specs.declared.token.TakeFault.TheVariants as faults
use Rattle.qs_calls.specs.declared.token.Token.{Token}
use Rattle.qs_calls.specs.declared.token.TokenFault.{TokenFault}
use Rattle.qs_calls.specs.declared.uses.OpenFault.TheVariants as opening
use Rattle.qs_calls.specs.declared.uses.UseFault.{UseFault}
use Rattle.qs_calls.specs.declared.uses.UseFault.TheVariants as uses
use Rattle.qs_machine.specs.Due.{known_count}
use Rattle.qs_machine.specs.Seen.{Seen, Ack, Close, seen, seen_all, asks_ack}
use Rattle.qs_machine.specs.Verdicts.{verdict}
use Rattle.qs_machine.specs.FrameStep.{frame_taken, acks, named}
use Rattle.qs_machine.specs.Recording.{recorded}
use Rattle.qs_machine.specs.Lawful.{MayPut, Fills, frame_put}
use Rattle.qs_machine.specs.Receiving.{noted_closed, ClosedReceive, AtEnd, RunsOut, Stops, GoesOn, Takes, ReceiveBy, TakesPayload, OpenReceive}
use Rattle.qs_machine.specs.Making.{MakeAt, MakeAckAt, make_refusal, claim_refusal, LoseStep, lose_refusal, first_lost, losses}
use Rattle.qs_machine.specs.Filling.{FillAt}
use Rattle.qs_machine.specs.Alone.{is_ours, TakesOne, TakeBy, TakesEach, TakeAllBy, token_refusal, only, LosesEach, TokenAckedStep, TokenLostStep}
use Rattle.qs_machine.specs.Raising.{limits_raised, raise_refusal}
use Rattle.qs_machine.specs.Setting.{Setting, SetStep, set_refusal, with_setting}
use Rattle.qs_machine.specs.EndStep.{Call, Answer, EndStep, Open, Accept, AcceptOf, Write, Finish, Reset, Stop, ReadUpTo, Consume, Receive, TakeFrame, TakeFrames, TokenAcked, TokenLost, Make, MakeAck, FillIn, Lose, Claim, RaiseLimits, Set, StopAndDiscard, NoteClosed}
use Rattle.qs_machine.specs.Laws.{StaysOnceClosed}

-- The cases of a call: what is refused, what is tested.

-- a call that is refused changes nothing
pub by_refusal : {A F : Type 0} (P : Type 0) (r : Option F) (old : End) (answer : Result A F) (new : End) (Effect : Type 0) → Certain r old answer new Effect → (new ≡ old → P) → (Effect → P) → P
by_refusal P r old answer new Effect h same effect = grind arith

-- the same, with what tells that nothing was refused
pub if_allowed : {A F : Type 0} (P : Type 0) (r : Option F) (old : End) (answer : Result A F) (new : End) (Effect : Type 0) → Certain r old answer new Effect → (new ≡ old → P) → (r ≡ None → Effect → P) → P
if_allowed P r old answer new Effect h same effect = grind arith

pub by_test : (P : Type 0) (b : Bool) (Yes No : Type 0) → MatchBool b Yes No → (Yes → P) → (No → P) → P
by_test P b Yes No h if_so if_not = grind arith

-- what both branches have alike, either has
pub same_either : {X Y : Type 0} (f : X → Y) (b : Bool) (x y : X) → f y ≡ f x → f (cond b x y) ≡ f x
same_either f b x y e = grind arith

-- what is chosen by a test that failed
pub not_chosen : {A : Type 0} (b : Bool) (x y : A) → b ≡ false → cond b x y ≡ y
not_chosen b x y e = grind arith

-- A write takes no more than its half has room for, whatever credit and the window over all halves leave.

pub accepted_few : (e : End) (l : SendLane) (n : ℕ) → accepted_by e l n ≤ accepted l n
accepted_few e l n = grind arith

-- no offset past the greatest integer is written
pub few_taken : (e : End) (l : SendLane) (bytes : List ℕ) → length (take (accepted_by e l (length bytes)) bytes) ≤ MAX_VARINT - l.written
few_taken e l bytes = grind (arith, nat_tests, length-take, accepted_few)

-- One induction over all calls of an end: each is made of a few changes, and most end as the limits move.

-- a change of an end
pub data Change : Type 0 where
  Wanted : (d : Dir) (count : ℕ) → Change
  Opened : (n : ℕ) → Change
  AcceptedBidi : Change
  AcceptedUni : Change
  Written : (n : ℕ) (bytes : List ℕ) (l : SendLane) → Change
  Finished : (n : ℕ) → Change
  WasReset : (n code : ℕ) → Change
  Stopped : (n code : ℕ) → Change
  Forgotten : (n code : ℕ) → Change
  WasRead : (n size : ℕ) → Change
  Raised : (limits : PeerLimits) → Change
  WasSet : (setting : Setting) → Change
  -- a frame takes effect, and of an ACK, where no memory is left, some of the pieces
  Took : (f : Seen) → Change
  Acked : (count : ℕ) (ranges : List (ℕ × ℕ)) → Change
  Shut : (c : Closed) → Change
  Recorded : (number : ℕ) (asks : Bool) → Change
  -- a frame is put in a packet, and its number is used up
  Put : (f : Seen) → Change
  Numbered : (next : ℕ) → Change
  Lost : (k : ℕ) (p : Piece) → Change
  Settled : Change

abbrev pub changed : Change → End → End
changed (Wanted d count) e = with_wanted d count e
changed (Opened n) e = opens n e
changed AcceptedBidi e = record e { accepted_bidi = e.accepted_bidi + 1 }
changed AcceptedUni e = record e { accepted_uni = e.accepted_uni + 1 }
changed (Written n bytes l) e = on_send n (λ m. write_lane m bytes) e
changed (Finished n) e = on_send n finish_lane e
changed (WasReset n code) e = on_send n (λ m. reset_lane m code) e
changed (Stopped n code) e = on_recv n (λ m. stop m code) e
changed (Forgotten n code) e = on_recv n (λ m. stop_and_discard m code) e
changed (WasRead n size) e = on_recv n (λ m. after_read m size) e
changed (Raised limits) e = limits_raised limits e
changed (WasSet x) e = with_setting x e
changed (Took f) e = frame_taken f e
changed (Acked count ranges) e = acks (take count (named e ranges)) e
changed (Shut c) e = closes c e
changed (Recorded number asks) e = recorded number asks e
changed (Put f) e = frame_put f e
changed (Numbered next) e = record e { next = next }
changed (Lost k p) e = first_lost k p e
changed Settled e = settle e

-- only a payload or a frame that comes closes an end, or that it is told of a close, and only limits that rise move those that its peer began with
abbrev pub MovesStanding : Call → Type 0
MovesStanding (Receive k payload) = ⊤
MovesStanding (TakeFrame f) = ⊤
MovesStanding (TakeFrames fs) = ⊤
MovesStanding (RaiseLimits p) = ⊤
MovesStanding (NoteClosed close) = ⊤
MovesStanding call = ⊥

-- and beside these only a token that was acknowledged tells an end what its peer did
abbrev pub HearsPeer : Call → Type 0
HearsPeer (TokenAcked t) = ⊤
HearsPeer call = MovesStanding call

-- what is known where a change comes, in a call that began at old and has led to e so far
abbrev pub Comes : End → Call → End → Change → Type 0
Comes old call e (Written n bytes l) = (send_lane e n ≡ Some l) × (refusal l ≡ None) × (length bytes ≤ MAX_VARINT - l.written)
Comes old call e (Took f) = (verdict e f ≡ None) × HearsPeer call
Comes old call e (Acked count ranges) = HearsPeer call
Comes old call e (Put f) = MayPut old e f
Comes old call e (Numbered next) = next ≡ old.next + 1
Comes old call e (Raised limits) = MovesStanding call
Comes old call e (WasSet x) = (set_refusal e x ≡ None) × (call ≡ Set x)
Comes old call e (Shut c) = MovesStanding call
Comes old call e (Lost k p) = IsCarried e.outstanding p
Comes old call e c = ⊤

-- While a call lasts Q holds, and once it ended P does. As most calls end the limits move; a loss, a claimed number and a close that is told
-- leave them.
pub record Cases (old : End) (call : Call) (Q P : End → Type 0) : Type 0 where
  pub begins : Q old
  pub goes : (c : Change) (e : End) → Comes old call e c → Q e → Q (changed c e)
  pub stays : P old
  pub settles : (e : End) → Q e → P (settle e)
  pub loses : (k : ℕ) (p : Piece) (e : End) → IsCarried e.outstanding p → P e → P (first_lost k p e)
  pub claims : P (record old { next = old.next + 1 })
  pub shuts : MovesStanding call → (close : NotedClose) → P (closes (closings.Noted close) old)

-- a frame ends the processing: the end closes, or there is no memory
pub stops_by : (P : Type 0) (p : PlacedValue) (f : Seen) (e : End) (result : Result Received Closing) (new : End) → Stops p f e result new
    → ((c : Closed) → new ≡ closes c e → (GoesOn e f → ⊥) → P) → (result ≡ Ok received.NoMemory → RunsOut e f new → P) → P
stops_by P p (Close code) e (Ok (received.PeerClosed told)) new stops shut out = shut (ByPeer code) stops.1 (λ goes. goes)
stops_by P p (Close code) e result new stops shut out = absurd stops
stops_by P p f e (Ok received.NoMemory) new stops shut out = out refl stops.1
stops_by P p f e (Err closing) new stops shut out = shut (ByUs closing) stops.2 (λ goes. none-some closing.code (sym goes ∙ stops.0))
stops_by P p f e (Ok received) new stops shut out = absurd stops

-- a frame after which the processing goes on has no fault
pub no_fault_there : (e : End) (f : Seen) → GoesOn e f → verdict e f ≡ None
no_fault_there e f goes = grind arith

-- an ACK of a packet whose token was given is no fault
pub given_is_no_fault : (e : End) (t : Token) → token_refusal e t ≡ None → verdict e (only t) ≡ None
unfolding verdict
given_is_no_fault e t allowed = grind arith

-- what comes of a payload at an end that is open: it isn't taken and changes nothing, or it is taken
pub by_open : (P : Type 0) (number : ℕ) (payload : List ℕ) (old : End) (result : Result Received Closing) (new : End) → OpenReceive number payload old result new
    → (result ≡ Ok received.BelowFloor → new ≡ old → P) → (result ≡ Ok received.Duplicate → new ≡ old → P)
    → (nat_lt number old.floor ≡ false → (mid : End) → TakesPayload number payload old result mid → new ≡ settle mid → P) → P
by_open P number payload old result new step below again taken = grind arith

-- a closed end stays as it is
pub closed_same : (c : Closed) (old : End) (result : Result Received Closing) (new : End) → ClosedReceive c old result new → new ≡ old
closed_same c old result new h = grind arith

-- a half that takes bytes refuses none
half_allowed : (closed other : Bool) (o : Option SendLane) → first_refusal (refuse_if closed uses.Closed) (elim o [ None ↦ Some (no_half other) | Some l ↦ half_refusal (refusal l) ]) ≡ None → (l : SendLane) → o ≡ Some l → refusal l ≡ None
half_allowed closed other o h l is = grind arith

-- a frame that may close the end is the peer's
pub hears : (call : Call) → MovesStanding call → HearsPeer call
hears call comes = grind arith

module _ (old : End) (call : Call) (Q P : End → Type 0) (c : Cases old call Q P) where
  same : (new : End) → new ≡ old → P new
  same new is = subst P (sym is) c.stays

  becomes : (e new : End) → new ≡ e → Q e → Q new
  becomes e new is h = subst Q (sym is) h

  settled : (e new : End) → new ≡ settle e → Q e → P new
  settled e new is h = subst P (sym is) (c.settles e h)

  -- a call of the owner that makes one change
  edited : (one : Change) (new : End) → Comes old call old one → new ≡ settle (changed one old) → P new
  edited one new comes is = settled (changed one old) new is (c.goes one old comes c.begins)

  -- no memory was found: of an ACK some of the pieces are acknowledged
  runs_out : HearsPeer call → (f : Seen) (e new : End) → Q e → RunsOut e f new → Q new
  runs_out hears (Ack largest ranges) e new h (count, is, asks) = becomes _ new is (c.goes (Acked count ranges) e hears h)
  runs_out hears f e new h out = becomes e new out.0 h

  -- Payloads

  module _ (comes : MovesStanding call) where
    at_end : (number : ℕ) (asks : Bool) (fault : Option WireFault) (e : End) (result : Result Received Closing) (new : End) → Q e → AtEnd number asks fault e result new → Q new
    at_end number asks None e (Ok received.Done) new h is = becomes _ new is (c.goes (Recorded number asks) e tt h)
    at_end number asks None e (Ok received.NoMemory) new h out = becomes e new out.0 h
    at_end number asks (Some fault) e (Err closing) new h ends = becomes _ new ends.1 (c.goes (Shut (ByUs closing)) e comes h)
    at_end number asks fault e result new h none = absurd none

    takes : (number : ℕ) (fault : Option WireFault) (asks : Bool) (e : End) (ps : List PlacedValue) (result : Result Received Closing) (new : End) → Q e → Takes number fault asks e ps result new → Q new
    takes number fault asks e [] result new h ends = at_end number asks fault e result new h ends
    takes number fault asks e (p ∷ ps) result new h (inl ends) = stops_by (Q new) p (seen p.frame) e result new ends (λ closed is fault. becomes _ new is (c.goes (Shut closed) e comes h)) (λ is out. runs_out (hears call comes) (seen p.frame) e new h out)
    takes number fault asks e (p ∷ ps) result new h (inr (goes, rest)) =
        takes number fault (asks || asks_ack (seen p.frame)) (frame_taken (seen p.frame) e) ps result new (c.goes (Took (seen p.frame)) e (no_fault_there e (seen p.frame) goes, hears call comes) h) rest

    receive_by : (o : Option Closed) (number : ℕ) (payload : List ℕ) (result : Result Received Closing) (new : End) → ReceiveBy o number payload old result new → P new
    receive_by (Some closed) number payload result new step = same new (closed_same closed old result new step)
    receive_by None number payload result new step =
        by_open (P new) number payload old result new step (λ low is. same new is) (λ again is. same new is)
        (λ high mid taken is. settled mid new is (takes number (reading_of payload).fault false old (reading_of payload).left result mid c.begins taken))

  -- Frames

  module _ (comes : MovesStanding call) where
    takes_one : (f : FrameValue) (e : End) (answer : Result Taken TakeFault) (new : End) → Q e → TakesOne e f answer new → Q new
    takes_one f e (Ok taken.NotOurs) new h took = absurd took
    takes_one f e (Err faults.NoMemory) new h took = runs_out (hears call comes) (seen f) e new h took.1
    takes_one f e (Err (faults.Closing closing)) new h took = becomes _ new took.2 (c.goes (Shut (ByUs closing)) e comes h)
    takes_one f e (Err (faults.PeerClosed code)) new h took = absurd took
    takes_one f e _ new h took = becomes _ new took.1 (c.goes (Took (seen f)) e (took.0.1, hears call comes) h)

    take_by : (o : Option Closed) (f : FrameValue) (answer : Result Taken TakeFault) (new : End) → TakeBy o f old answer new → P new
    take_by (Some closed) f answer new step = same new step.1
    take_by None f answer new step =
        by_test (P new) (is_ours (seen f)) _ _ step (λ (mid, took, after). settled mid new after (takes_one f old answer mid c.begins took)) (λ passed. same new passed.1)

    takes_each : (fs : List FrameValue) (e : End) (answer : Result Taken TakeFault) (new : End) → Q e → TakesEach fs e answer new → Q new
    takes_each [] e answer new h none = becomes e new none.1 h
    takes_each (f ∷ fs) e answer new h took =
        by_test (Q new) (is_ours (seen f)) _ _ took (λ ours.
        elim ours [
          | inl (mid, kind, later, one, more, is) ↦ takes_each fs mid later new (takes_one f e (Ok kind) mid h one) more
          | inr (fault, one, is) ↦ takes_one f e (Err fault) new h one
        ])
        (λ passed. takes_each fs e answer new h passed)

    take_all_by : (o : Option Closed) (fs : List FrameValue) (answer : Result Taken TakeFault) (new : End) → TakeAllBy o fs old answer new → P new
    take_all_by (Some closed) fs answer new step = same new step.1
    take_all_by None fs answer new (mid, took, after) = settled mid new after (takes_each fs old answer mid c.begins took)

  -- Packets

  fills : (fs : List Seen) (e mid : End) → Q e → Fills old e fs mid → Q mid
  fills [] e mid h is = becomes e mid is h
  fills (f ∷ fs) e mid h (may, rest) = fills fs (frame_put f e) mid (c.goes (Put f) e may h) rest

  packet : (fs : List Seen) (mid new : End) → (last : End) × Fills old old fs last × (mid ≡ record last { next = old.next + 1 }) → new ≡ settle mid → P new
  packet fs mid new (last, filled, is) after =
      settled mid new after (becomes _ mid is (c.goes (Numbered (old.next + 1)) last refl (fills fs old last c.begins filled)))

  make_by : (r : Option MakeFault) (first delay room : ℕ) (answer : Result (Option Made) MakeFault) (text : List ℕ) (new : End) → MakeAt r old first delay room answer text new → P new
  make_by None first delay room (Ok (Some made)) text new step = packet (seen_all step.frames) step.mid new step.lawful.filled step.after
  make_by None first delay room (Err making.Closed) text new step = absurd step
  make_by None first delay room (Err making.Exhausted) text new step = absurd step
  make_by r first delay room answer text new step = same new step.2

  ack_by : (r : Option MakeFault) (delay room : ℕ) (answer : Result (Option Made) MakeFault) (text : List ℕ) (new : End) → MakeAckAt r old delay room answer text new → P new
  ack_by None delay room (Ok (Some made)) text new step = packet (Ack step.largest step.ranges ∷ []) step.mid new step.lawful.filled step.after
  ack_by None delay room (Err fault) text new step = absurd step
  ack_by r delay room answer text new step = same new step.2

  fill_by : (r : Option MakeFault) (want : Fill) (room : ℕ) (answer : Result (Option Filled) MakeFault) (text : List ℕ) (new : End) → FillAt r old want room answer text new → P new
  fill_by None want room (Ok (Some filled)) text new step = packet (seen_all step.made.frames) step.made.mid new step.made.lawful.filled step.made.after
  fill_by None want room (Err making.Closed) text new step = absurd step
  fill_by None want room (Err making.Exhausted) text new step = absurd step
  fill_by r want room answer text new step = same new step.2

  -- the pieces are the first ones of the packet's record
  loses : (k : ℕ) (ps rest : List Piece) (e : End) → fmap.get e.outstanding k ≡ Some (ps ++ rest) → P e → P (losses k ps e)
  unfolding losses
  loses k [] rest e is h = h
  loses k (p ∷ []) rest e is h = c.loses k p e (k, p ∷ rest, is, inl refl) h
  loses k (p ∷ q ∷ ps) rest e is h =
      loses k (q ∷ ps) rest (first_lost k p e) (get_same-without_first e.outstanding k ∙ ap rest_of is) (c.loses k p e (k, p ∷ q ∷ ps ++ rest, is, inl refl) h)

  lose_by : (k : ℕ) (e : End) (answer : Answer (Lose k)) (new : End) → P e → LoseStep e k answer new → P new
  lose_by k e answer new at step =
      by_refusal (P new) (lose_refusal e k) e answer new _ step (λ is. subst P (sym is) at) (λ (ps, is, gone).
      elim gone [
        | inl (done, after) ↦ subst P (sym after) (loses k ps [] e (is ∙ ap Some (sym (append-nil ps))) at)
        | inr (moved, few, none, after) ↦ subst P (sym after) (loses k (take moved ps) (drop moved ps) e (is ∙ ap Some (sym (take-append-drop moved ps))) at)
      ])

  lose_each : (count first : ℕ) (e : End) (answer : Result (Unit {0}) TokenFault) (new : End) → P e → LosesEach count first e answer new → P new
  lose_each zero first e answer new at step = subst P (sym step.1) at
  lose_each (suc n) first e answer new at (inl (mid, (declared, lost, is), later)) = lose_each n first mid answer new (lose_by (first + n) e declared mid at lost) later
  lose_each (suc n) first e answer new at (inr (fault, (declared, lost, is), failed)) = lose_by (first + n) e declared new at lost

  -- Tokens

  acked_by : HearsPeer call → (t : Token) (answer : Answer (TokenAcked t)) (new : End) → TokenAckedStep old t answer new → P new
  acked_by told_of t answer new step =
      if_allowed (P new) (token_refusal old t) old answer new _ step (same new) (λ allowed told.
      elim told [
        | inl done ↦ edited (Took (only t)) new (given_is_no_fault old t allowed, told_of) done.1
        | inr (none, mid, out, after) ↦ settled mid new after (runs_out told_of (only t) old mid c.begins out)
      ])

  lost_by : (t : Token) (answer : Answer (TokenLost t)) (new : End) → TokenLostStep old t answer new → P new
  lost_by t answer new step = by_refusal (P new) (token_refusal old t) old answer new _ step (same new) (lose_each ((t.number + 1) - t.first) t.first old answer new c.stays)

  -- The owner's calls

  use_by : {A F : Type 0} (Told : Type 0) (r : Option F) (one : Change) (answer : Result A F) (new : End) → Comes old call old one → Certain r old answer new (Told × (new ≡ settle (changed one old))) → P new
  use_by Told r one answer new comes step = by_refusal (P new) r old answer new _ step (same new) (λ done. edited one new comes done.1)

  set_by : (x : Setting) (answer : Answer (Set x)) (new : End) → call ≡ Set x → SetStep old x answer new → P new
  set_by x answer new is step = if_allowed (P new) (set_refusal old x) old answer new _ step (same new) (λ allowed done. edited (WasSet x) new (allowed, is) done.1)

  claim_by : (answer : Answer Claim) (new : End) → EndStep old Claim answer new → P new
  claim_by answer new step = by_refusal (P new) (claim_refusal old) old answer new _ step (same new) (λ done. subst P (sym done.1) c.claims)

  open_by : (d : Dir) (answer : Answer (Open d)) (new : End) → OpenStep old d answer new → P new
  open_by d answer new step =
      by_refusal (P new) (refuse_if (is_some old.closed) opening.Closed) old answer new _ step (same new) (λ opened.
      by_test (P new) _ (IsBlocked old d answer new) (IsOpened old d answer new) opened (λ blocked. edited (Wanted d (known_count old d)) new tt blocked.1)
      (λ done. elim done [ inl none ↦ same new none.1 | inr is ↦ edited (Opened (next_stream old d)) new tt is.1 ]))

  accept_by : (answer : Answer Accept) (new : End) → AcceptStep old answer new → P new
  accept_by answer new step =
      let none : GivesNone old answer new → P new = λ g. same new g.1 in
      let uni : GivesUni old answer new → P new =
      λ g. by_test (P new) _ ((answer ≡ Some (old.accepted_uni * 4 + peer_type old Uni)) × (new ≡ settle (changed AcceptedUni old))) (GivesNone old answer new) g
      (λ u. edited AcceptedUni new tt u.1) none in
      by_test (P new) _ (GivesNone old answer new) (AcceptOpen old answer new) step none
      (λ goes. by_test (P new) _ (GivesBidi old answer new) (GivesUni old answer new) goes (λ g. edited AcceptedBidi new tt g.1) uni)

  accept_of_by : (d : Dir) (answer : Answer (AcceptOf d)) (new : End) → AcceptOfStep old d answer new → P new
  accept_of_by d answer new step = by_test (P new) _ (GivesNone old answer new) (AcceptOpenOf old d answer new) step (λ g. same new g.1) (go d)
    where
      go : (d : Dir) → AcceptOpenOf old d answer new → P new
      go Bidi goes = by_test (P new) _ (GivesBidi old answer new) (GivesNone old answer new) goes (λ g. edited AcceptedBidi new tt g.1) (λ g. same new g.1)
      go Uni goes =
          by_test (P new) _ ((answer ≡ Some (old.accepted_uni * 4 + peer_type old Uni)) × (new ≡ settle (changed AcceptedUni old))) (GivesNone old answer new) goes
          (λ g. edited AcceptedUni new tt g.1) (λ g. same new g.1)

  write_by : (n : ℕ) (bytes : List ℕ) (answer : Answer (Write n bytes)) (new : End) → EndStep old (Write n bytes) answer new → P new
  write_by n bytes answer new step =
      if_allowed (P new) (send_refusal old n refusal) old answer new _ step (same new) (λ allowed some.
      elim some [
        | inl none ↦ same new none.1
        | inr (l, is, done) ↦ edited (Written n (take (accepted_by old l (length bytes)) bytes) l) new (is, half_allowed (is_some old.closed) (is_some (recv_lane old n)) (send_lane old n) allowed l is, few_taken old l bytes) done.1
      ])

  read_by : (r : Option UseFault) (n size : ℕ) (answer : Result Read UseFault) (bytes : List ℕ) (new : End) → ReadBy r old n size answer bytes new → P new
  read_by (Some fault) n size answer bytes new step = same new step.2
  read_by None n size answer bytes new (l, is, told, given, after) = edited (WasRead n size) new tt after

  shut_by : MovesStanding call → (close : NotedClose) (new : End) → new ≡ noted_closed close old → P new
  shut_by comes close new is = grind arith

  consume_by : (n most : ℕ) (answer : Result Consumed UseFault) (new : End) → ConsumeStep old n most answer new → P new
  consume_by n most answer new step =
      by_refusal (P new) (recv_refusal (is_read_no_more old) old n) old answer new _ step (same new)
      (λ (l, is, told, after). settled _ new after (c.goes (WasRead n 0) (changed (WasRead n most) old) tt (c.goes (WasRead n most) old tt c.begins)))

-- Every call

pub each_call : (old : End) (call : Call) (Q P : End → Type 0) → Cases old call Q P → (answer : Answer call) (new : End) → EndStep old call answer new → P new
each_call old (Open d) Q P c answer new step = open_by old (Open d) Q P c d answer new step
each_call old Accept Q P c answer new step = accept_by old Accept Q P c answer new step
each_call old (AcceptOf d) Q P c answer new step = accept_of_by old (AcceptOf d) Q P c d answer new step
each_call old (Write n bytes) Q P c answer new step = write_by old (Write n bytes) Q P c n bytes answer new step
each_call old (Finish n) Q P c answer new step = use_by old (Finish n) Q P c _ (send_refusal old n refusal) (Finished n) answer new tt step
each_call old (Reset n code) Q P c answer new step = use_by old (Reset n code) Q P c _ (send_refusal old n reset_refusal) (WasReset n code) answer new tt step
each_call old (Stop n code) Q P c answer new step = use_by old (Stop n code) Q P c _ (recv_refusal (is_some old.closed) old n) (Stopped n code) answer new tt step
each_call old (StopAndDiscard n code) Q P c answer new step =
    use_by old (StopAndDiscard n code) Q P c _ (recv_refusal (is_some old.closed) old n) (Forgotten n code) answer new tt step
each_call old (ReadUpTo n size) Q P c answer new step = read_by old (ReadUpTo n size) Q P c (recv_refusal (is_read_no_more old) old n) n size answer.0 answer.1 new step
each_call old (Consume n most) Q P c answer new step = consume_by old (Consume n most) Q P c n most answer.0 new step.0
each_call old (Receive k payload) Q P c answer new step = receive_by old (Receive k payload) Q P c tt old.closed k payload answer new step
each_call old (TakeFrame f) Q P c answer new step = take_by old (TakeFrame f) Q P c tt old.closed f answer new step
each_call old (TakeFrames fs) Q P c answer new step = take_all_by old (TakeFrames fs) Q P c tt old.closed fs answer new step
each_call old (TokenAcked t) Q P c answer new step = acked_by old (TokenAcked t) Q P c tt t answer new step
each_call old (TokenLost t) Q P c answer new step = lost_by old (TokenLost t) Q P c t answer new step
each_call old (Make first delay room) Q P c answer new step = make_by old (Make first delay room) Q P c (make_refusal old) first delay room answer.0 answer.1 new step
each_call old (MakeAck delay room) Q P c answer new step = ack_by old (MakeAck delay room) Q P c (make_refusal old) delay room answer.0 answer.1 new step
each_call old (FillIn want room) Q P c answer new step = fill_by old (FillIn want room) Q P c (make_refusal old) want room answer.0 answer.1 new step
each_call old (Lose k) Q P c answer new step = lose_by old (Lose k) Q P c k old answer new c.stays step
each_call old Claim Q P c answer new step = claim_by old Claim Q P c answer new step
each_call old (RaiseLimits p) Q P c answer new step = use_by old (RaiseLimits p) Q P c _ (raise_refusal old p) (Raised p) answer new tt step
each_call old (Set x) Q P c answer new step = set_by old (Set x) Q P c x answer new refl step
each_call old (NoteClosed close) Q P c answer new step = shut_by old (NoteClosed close) Q P c tt close new step
each_call old call Q P c answer new step = same old call Q P c new step.1

-- A relation that holds across each change, and across two where it does across each, holds across every call.
module _ (R : End → End → Type 0) (same : (e : End) → R e e) (twice : (a b c : End) → R a b → R b c → R a c) (old : End) (call : Call) (one : (c : Change) (e : End) → Comes old call e c → R e (changed c e)) where
  cases : Cases old call (R old) (R old)
  cases =
      record {
        begins = same old;
        goes = λ c e comes h. twice old e (changed c e) h (one c e comes);
        stays = same old;
        settles = λ e h. twice old e (settle e) h (one Settled e tt);
        loses = λ k p e is h. twice old e (first_lost k p e) h (one (Lost k p) e is);
        claims = one (Numbered (old.next + 1)) old refl;
        shuts = λ comes close. one (Shut (closings.Noted close)) old comes;
      }

  pub relates : (answer : Answer call) (new : End) → EndStep old call answer new → R old new
  relates answer new step = each_call old call (R old) (R old) cases answer new step

-- What holds wherever the limits moved holds after every call, if a loss, a claimed number and a close keep it.
module _ (P : End → Type 0) (old : End) (kept : P old) (settles : (e : End) → P (settle e)) (loses : (k : ℕ) (p : Piece) (e : End) → P e → P (first_lost k p e)) (claims : P (record old { next = old.next + 1 })) (shuts : (c : Closed) → P (closes c old)) where
  pub ends_by : (call : Call) (answer : Answer call) (new : End) → EndStep old call answer new → P new
  ends_by call answer new step =
      each_call old call (λ e. ⊤) P (record { begins = tt; goes = λ c e comes h. tt; stays = kept; settles = λ e h. settles e; loses = λ k p e is h. loses k p e h; claims = claims; shuts = λ comes close. shuts (closings.Noted close) }) answer new step

-- After a closing nothing changes but the number of the next packet, and what is read on.

pub closed_stays : (old : End) (call : Call) (answer : Answer call) (new : End) → is_some old.closed ≡ true → EndStep old call answer new → StaysOnceClosed old call new
closed_stays old call answer new is h = grind arith
