-- What calm calls are made of: frames that take effect, packets that are made, and reads.
use Rattle.std.proofs.Common.{◌≡◌, ℕ, ◌+◌, ◌*◌, Bool, true, false, List, [], ◌∷◌, ◌⊎◌, take, Option, Some, None, refl, sym, subst, inl, inr, arith}
use Rattle.std.specs.Prelude.{MatchBool, Result, Ok, Err}
use Rattle.std.proofs.lemmas.Bool.{false≢true}
use Rattle.std.proofs.lemmas.Bool.Decides.{nat_tests}
use Rattle.qs_wire.specs.Layout.{FrameValue, PlacedValue}
use Rattle.qs_wire.specs.Reading.{reading_of}
use Rattle.qs_wire.specs.declared.fault.WireFault.{WireFault}
use Rattle.qs_wire.specs.declared.stream_id.Dir.{Dir}
use Rattle.qs_wire.specs.declared.stream_id.Dir.TheVariants.{Uni}
use Rattle.qs_recv.specs.Lane.{after_read}
use Rattle.qs_recv.specs.declared.half.Read.{Read}
use Rattle.qs_calls.specs.declared.closing.Closed.{Closed}
use Rattle.qs_calls.specs.declared.closing.Closed.TheVariants.{ByUs}
use Rattle.qs_calls.specs.declared.closing.Closing.{Closing}
use Rattle.qs_calls.specs.declared.closing.Received.{Received}
use Rattle.qs_calls.specs.declared.closing.Received.TheVariants as received
use Rattle.qs_calls.specs.declared.filling.Fill.{Fill}
use Rattle.qs_calls.specs.declared.filling.Filled.{Filled}
use Rattle.qs_calls.specs.declared.making.Made.{Made}
use Rattle.qs_calls.specs.declared.making.MakeFault.{MakeFault}
use Rattle.qs_calls.specs.declared.making.MakeFault.TheVariants as making
use Rattle.qs_calls.specs.declared.token.Taken.{Taken}
use Rattle.qs_calls.specs.declared.token.Taken.TheVariants as taken
use Rattle.qs_calls.specs.declared.token.TakeFault.{TakeFault}
use Rattle.qs_calls.specs.declared.token.TakeFault.TheVariants as faults
use Rattle.qs_calls.specs.declared.token.Token.{Token}
use Rattle.qs_calls.specs.declared.uses.UseFault.{UseFault}
use Rattle.qs_machine.specs.Ends.{End, on_recv, closes, peer_type}
use Rattle.qs_machine.specs.Credit.{settle}
use Rattle.qs_machine.specs.Seen.{Seen, Ack, Stream, Control, seen, seen_all}
use Rattle.qs_machine.specs.Verdicts.{verdict}
use Rattle.qs_machine.specs.FrameStep.{frame_taken, frames_taken, acks, named, NoFault}
use Rattle.qs_machine.specs.Recording.{recorded}
use Rattle.qs_machine.specs.Lawful.{Fills}
use Rattle.qs_machine.specs.Receiving.{ReceiveBy, EndsBy, AtEnd, RunsOut}
use Rattle.qs_machine.specs.Making.{MakeAt, MakeAckAt, make_refusal, claim_refusal}
use Rattle.qs_machine.specs.Filling.{FillAt}
use Rattle.qs_machine.specs.Alone.{is_ours, TakesOne, TakeBy, TakesEach, TakeAllBy, token_refusal, only, after_one, TokenAckedStep}
use Rattle.qs_machine.specs.Owner.{AcceptStep, AcceptOfStep, AcceptOpen, AcceptOpenOf, GivesNone, GivesBidi, GivesUni, ReadBy, recv_refusal, is_read_no_more}
use Rattle.qs_machine.specs.EndStep.{Call, Answer, EndStep, Open, Accept, AcceptOf, Write, Finish, Reset, Stop, StopAndDiscard, ReadUpTo, Consume, Receive, TakeFrame, TakeFrames, TokenAcked, TokenLost, Make, MakeAck, FillIn, Lose, Claim, RaiseLimits, Set, NoteClosed}
use Rattle.qs_machine.proofs.EveryCall.{given_is_no_fault, by_refusal, if_allowed, by_test, stops_by, by_open, closed_same}
use Rattle.qs_machine.proofs.Again.{seen_in, takes_prefix}
use Rattle.qs_runs.proofs.Receives.{took_effect}
use Rattle.qs_progress.specs.Laps.{IsCalm}

-- what ends the frames of a call: nothing, a close, the number of their packet, or that of an ACK some of the pieces are acknowledged
abbrev pub Ends : End → End → Type 0
Ends e mid =
    (mid ≡ e) ⊎ ((c : Closed) × (mid ≡ closes c e)) ⊎ ((number : ℕ) × (asks : Bool) × (mid ≡ recorded number asks e))
    ⊎ ((count : ℕ) × (ranges : List (ℕ × ℕ)) × (mid ≡ acks (take count (named e ranges)) e))

-- the forms of what a calm call leaves
pub record Forms (old : End) (P : End → Type 0) : Type 0 where
  pub same : P old
  pub claims : P (record old { next = old.next + 1 })
  pub accepts : (bidi uni : ℕ) → P (settle (record old { accepted_bidi = bidi; accepted_uni = uni }))
  pub reads : (n size : ℕ) → P (settle (on_recv n (λ m. after_read m size) old))
  pub consumes : (n size : ℕ) → P (settle (on_recv n (λ m. after_read m 0) (on_recv n (λ m. after_read m size) old)))
  pub packet : (fs : List Seen) (last : End) → Fills old old fs last → P (settle (record last { next = old.next + 1 }))
  pub frames : (fs : List Seen) (mid : End) → NoFault old fs → Ends (frames_taken fs old) mid → P (settle mid)

-- Frames

runs_out : (f : Seen) (e new : End) → RunsOut e f new → Ends e new
runs_out f e new h = grind (arith, nat_tests)

at_end : (number : ℕ) (asks : Bool) (fault : Option WireFault) (e : End) (result : Result Received Closing) (new : End) → AtEnd number asks fault e result new → Ends e new
at_end number asks None e (Ok received.Done) new is = inr (inr (inl (number, asks, is)))
at_end number asks None e (Ok received.NoMemory) new out = inl out.0
at_end number asks (Some fault) e (Err closing) new ends = inr (inl (ByUs closing, ends.1))
at_end number asks fault e result new none = absurd none

ends_by : (number : ℕ) (fault : Option WireFault) (asks : Bool) (left : List PlacedValue) (e : End) (result : Result Received Closing) (new : End) → EndsBy number fault asks left e result new → Ends e new
ends_by number fault asks [] e result new h = at_end number asks fault e result new h
ends_by number fault asks (p ∷ ps) e result new h = stops_by (Ends e new) p (seen p.frame) e result new h (λ c is fault. inr (inl (c, is))) (λ is out. runs_out (seen p.frame) e new out)

-- frames that had no fault led there
abbrev Led : End → End → Type 0
Led e new = (fs : List Seen) × NoFault e fs × Ends (frames_taken fs e) new

led_none : (e new : End) → Ends e new → Led e new
unfolding frames_taken
led_none e new ends = ([], tt, ends)

led_on : (e : End) (f : Seen) (new : End) → is_ours f ≡ true → verdict e f ≡ None → Led (frame_taken f e) new → Led e new
unfolding frames_taken
led_on e (Stream n offset bytes fin) new ours fine (fs, none, ends) = (Stream n offset bytes fin ∷ fs, (fine, none), ends)
led_on e (Control i) new ours fine (fs, none, ends) = (Control i ∷ fs, (fine, none), ends)
led_on e f new ours fine led = absurd (false≢true ours)

takes_one : (e : End) (f : FrameValue) (answer : Result Taken TakeFault) (new : End) → is_ours (seen f) ≡ true → TakesOne e f answer new → Led e new
takes_one e f (Ok one) new ours takes =
    let (may, is) = took_effect e f one new takes in
    led_on e (seen f) new ours may.1 (led_none (frame_taken (seen f) e) new (inl is))
takes_one e f (Err faults.NoMemory) new ours takes = led_none e new (runs_out (seen f) e new takes.1)
takes_one e f (Err (faults.Closing closing)) new ours takes = led_none e new (inr (inl (ByUs closing, takes.2)))
takes_one e f (Err (faults.PeerClosed code)) new ours takes = absurd takes

takes_each : (fs : List FrameValue) (e : End) (answer : Result Taken TakeFault) (new : End) → TakesEach fs e answer new → Led e new
takes_each [] e answer new h = led_none e new (inl h.1)
takes_each (f ∷ fs) e answer new h = by (is_ours (seen f)) refl h (λ mid later more. takes_each fs mid later new more)
  where
    by : (b : Bool) → is_ours (seen f) ≡ b → MatchBool b (((mid : End) × (one : Taken) × (later : Result Taken TakeFault) × TakesOne e f (Ok one) mid × TakesEach fs mid later new × (answer ≡ after_one one later)) ⊎ ((fault : TakeFault) × TakesOne e f (Err fault) new × (answer ≡ Err fault))) (TakesEach fs e answer new)
        → ((mid : End) (later : Result Taken TakeFault) → TakesEach fs mid later new → Led mid new) → Led e new
    by true ours (inl (mid, one, later, takes, more, is)) goes =
        let (may, same) = took_effect e f one mid takes in
        led_on e (seen f) new ours may.1 (subst (λ x. Led x new) same (goes mid later more))
    by true ours (inr (fault, one, is)) goes = takes_one e f (Err fault) new ours one
    by false other more goes = goes e answer more

module _ (old : End) (P : End → Type 0) (c : Forms old P) where
  stays : (new : End) → new ≡ old → P new
  stays new is = subst P (sym is) c.same

  led : (mid new : End) → Led old mid → new ≡ settle mid → P new
  led mid new (fs, none, ends) is = subst P (sym is) (c.frames fs mid none ends)

  receive_by : (o : Option Closed) (number : ℕ) (payload : List ℕ) (result : Result Received Closing) (new : End) → ReceiveBy o number payload old result new → P new
  receive_by (Some closed) number payload result new step = stays new (closed_same closed old result new step)
  receive_by None number payload result new step =
      by_open (P new) number payload old result new step (λ low is. stays new is) (λ again is. stays new is)
      (λ high mid takes is.
      let (took, left, parts, none, ends) = takes_prefix number (reading_of payload).fault false old (reading_of payload).left result mid takes in
      led mid new (seen_in took, none, ends_by number (reading_of payload).fault _ left (frames_taken (seen_in took) old) result mid ends) is)

  take_by : (o : Option Closed) (f : FrameValue) (answer : Result Taken TakeFault) (new : End) → TakeBy o f old answer new → P new
  take_by (Some closed) f answer new step = stays new step.1
  take_by None f answer new step = by (is_ours (seen f)) refl step
    where
      by : (b : Bool) → is_ours (seen f) ≡ b → MatchBool b ((mid : End) × TakesOne old f answer mid × (new ≡ settle mid)) ((answer ≡ Ok taken.NotOurs) × (new ≡ old)) → P new
      by b ours h = grind (arith, nat_tests, takes_one)

  take_all_by : (o : Option Closed) (fs : List FrameValue) (answer : Result Taken TakeFault) (new : End) → TakeAllBy o fs old answer new → P new
  take_all_by (Some closed) fs answer new step = stays new step.1
  take_all_by None fs answer new (mid, takes, is) = led mid new (takes_each fs old answer mid takes) is

  acked_by : (t : Token) (answer : Answer (TokenAcked t)) (new : End) → TokenAckedStep old t answer new → P new
  unfolding frames_taken
  acked_by t answer new step =
      if_allowed (P new) (token_refusal old t) old answer new _ step (stays new) (λ allowed told.
      elim told [
        | inl done ↦ led (frame_taken (only t) old) new (only t ∷ [], (given_is_no_fault old t allowed, tt), inl refl) done.1
        | inr (none, mid, out, is) ↦ led mid new (led_none old mid (runs_out (only t) old mid out)) is
      ])

  -- Packets

  packet : (fs : List Seen) (mid new : End) → (last : End) × Fills old old fs last × (mid ≡ record last { next = old.next + 1 }) → new ≡ settle mid → P new
  packet fs mid new (last, filled, at) is = subst P (sym is) (subst (λ x. P (settle x)) (sym at) (c.packet fs last filled))

  make_by : (r : Option MakeFault) (first delay room : ℕ) (answer : Result (Option Made) MakeFault) (text : List ℕ) (new : End) → MakeAt r old first delay room answer text new → P new
  make_by None first delay room (Ok (Some made)) text new step = packet (seen_all step.frames) step.mid new step.lawful.filled step.after
  make_by None first delay room (Err making.Closed) text new step = absurd step
  make_by None first delay room (Err making.Exhausted) text new step = absurd step
  make_by r first delay room answer text new step = stays new step.2

  ack_by : (r : Option MakeFault) (delay room : ℕ) (answer : Result (Option Made) MakeFault) (text : List ℕ) (new : End) → MakeAckAt r old delay room answer text new → P new
  ack_by None delay room (Ok (Some made)) text new step = packet (Ack step.largest step.ranges ∷ []) step.mid new step.lawful.filled step.after
  ack_by None delay room (Err fault) text new step = absurd step
  ack_by r delay room answer text new step = stays new step.2

  fill_by : (r : Option MakeFault) (want : Fill) (room : ℕ) (answer : Result (Option Filled) MakeFault) (text : List ℕ) (new : End) → FillAt r old want room answer text new → P new
  fill_by None want room (Ok (Some filled)) text new step = packet (seen_all step.made.frames) step.made.mid new step.made.lawful.filled step.made.after
  fill_by None want room (Err making.Closed) text new step = absurd step
  fill_by None want room (Err making.Exhausted) text new step = absurd step
  fill_by r want room answer text new step = stays new step.2

  -- The owner's calls

  gives_uni : (answer : Option ℕ) (new : End) → GivesUni old answer new → P new
  gives_uni answer new g =
      by_test (P new) _ ((answer ≡ Some (old.accepted_uni * 4 + peer_type old Uni)) × (new ≡ settle (record old { accepted_uni = old.accepted_uni + 1 }))) (GivesNone old answer new) g
      (λ u. subst P (sym u.1) (c.accepts old.accepted_bidi (old.accepted_uni + 1))) (λ none. stays new none.1)

  gives_bidi : (answer : Option ℕ) (new : End) → GivesBidi old answer new → P new
  gives_bidi answer new g = subst P (sym g.1) (c.accepts (old.accepted_bidi + 1) old.accepted_uni)

  accept_by : (answer : Option ℕ) (new : End) → AcceptStep old answer new → P new
  accept_by answer new step =
      by_test (P new) _ (GivesNone old answer new) (AcceptOpen old answer new) step (λ none. stays new none.1)
      (λ goes. by_test (P new) _ (GivesBidi old answer new) (GivesUni old answer new) goes (gives_bidi answer new) (gives_uni answer new))

  accept_of_by : (d : Dir) (answer : Option ℕ) (new : End) → AcceptOfStep old d answer new → P new
  accept_of_by d answer new step = by_test (P new) _ (GivesNone old answer new) (AcceptOpenOf old d answer new) step (λ none. stays new none.1) (go d)
    where
      go : (d : Dir) → AcceptOpenOf old d answer new → P new
      go d goes = grind (arith, nat_tests)

  read_by : (r : Option UseFault) (n size : ℕ) (answer : Result Read UseFault) (bytes : List ℕ) (new : End) → ReadBy r old n size answer bytes new → P new
  read_by (Some fault) n size answer bytes new step = stays new step.2
  read_by None n size answer bytes new (l, at, told, given, is) = subst P (sym is) (c.reads n size)

  -- whatever call it is
  pub calm_call : (call : Call) (answer : Answer call) (new : End) → IsCalm call → EndStep old call answer new → P new
  calm_call (Open d) answer new calm step = absurd calm
  calm_call Accept answer new calm step = accept_by answer new step
  calm_call (AcceptOf d) answer new calm step = accept_of_by d answer new step
  calm_call (Write n bytes) answer new calm step = absurd calm
  calm_call (Finish n) answer new calm step = absurd calm
  calm_call (Reset n code) answer new calm step = absurd calm
  calm_call (Stop n code) answer new calm step = absurd calm
  calm_call (StopAndDiscard n code) answer new calm step = absurd calm
  calm_call (ReadUpTo n size) answer new calm step = read_by (recv_refusal (is_read_no_more old) old n) n size answer.0 answer.1 new step
  calm_call (Consume n most) answer new calm step =
      by_refusal (P new) (recv_refusal (is_read_no_more old) old n) old answer.0 new _ step.0 (stays new) (λ (l, at, told, is). subst P (sym is) (c.consumes n most))
  calm_call (Receive k payload) answer new calm step = receive_by old.closed k payload answer new step
  calm_call (TakeFrame f) answer new calm step = take_by old.closed f answer new step
  calm_call (TakeFrames fs) answer new calm step = take_all_by old.closed fs answer new step
  calm_call (TokenAcked t) answer new calm step = acked_by t answer new step
  calm_call (TokenLost t) answer new calm step = absurd calm
  calm_call (Make first delay room) answer new calm step = make_by (make_refusal old) first delay room answer.0 answer.1 new step
  calm_call (MakeAck delay room) answer new calm step = ack_by (make_refusal old) delay room answer.0 answer.1 new step
  calm_call (FillIn want room) answer new calm step = fill_by (make_refusal old) want room answer.0 answer.1 new step
  calm_call (Lose k) answer new calm step = absurd calm
  calm_call Claim answer new calm step = by_refusal (P new) (claim_refusal old) old answer new _ step (stays new) (λ done. subst P (sym done.1) c.claims)
  calm_call (RaiseLimits p) answer new calm step = absurd calm
  calm_call (Set x) answer new calm step = absurd calm
  calm_call (NoteClosed close) answer new calm step = absurd calm
  calm_call call answer new calm step = stays new step.1
