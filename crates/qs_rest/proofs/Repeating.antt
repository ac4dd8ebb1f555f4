-- In every run what a frame did that was taken stays done, so it changes nothing when it comes again.
use Rattle.std.proofs.Common.{◌≡◌, ℕ, Bool, true, false, List, [], ◌∷◌, ◌++◌, Option, Some, None, Result, Ok, refl, sym, ap, ◌∙◌, subst, inl, inr, append-nil, MatchBool}
use Rattle.std.specs.Prelude.{flat_map}
use Rattle.std.specs.List.{AllByRecursion}
use Rattle.qs_wire.specs.Layout.{PlacedValue, FrameValue}
use Rattle.qs_wire.specs.Reading.{reading_of}
use Rattle.qs_wire.specs.declared.fault.WireFault.{WireFault}
use Rattle.qs_send.specs.Records.{Among}
use Rattle.qs_calls.specs.declared.settings.Settings.{Settings}
use Rattle.qs_calls.specs.declared.closing.Closing.{Closing}
use Rattle.qs_calls.specs.declared.closing.Closed.{Closed}
use Rattle.qs_calls.specs.declared.closing.Closed.TheVariants.{ByUs, ByPeer, Noted}
use Rattle.qs_calls.specs.declared.closing.Closer.{Closer}
use Rattle.qs_calls.specs.declared.closing.Closer.TheVariants.{Us, Peer}
use Rattle.qs_calls.specs.declared.closing.Received.{Received}
use Rattle.qs_calls.specs.declared.closing.Received.TheVariants.{Done}
use Rattle.qs_calls.specs.declared.token.Taken.{Taken}
use Rattle.qs_calls.specs.declared.token.Taken.TheVariants.{NotOurs}
use Rattle.qs_calls.specs.declared.token.TakeFault.{TakeFault}
use Rattle.qs_calls.specs.declared.event.Side.{Side}
use Rattle.qs_calls.specs.declared.event.Side.TheVariants.{A, B}
use Rattle.qs_machine.specs.Ends.{End}
use Rattle.qs_machine.specs.Credit.{settle}
use Rattle.qs_machine.specs.Plains.{frames_in}
use Rattle.qs_machine.specs.Seen.{Seen, Close, seen, seen_all}
use Rattle.qs_machine.specs.Verdicts.{verdict}
use Rattle.qs_machine.specs.FrameStep.{frames_taken}
use Rattle.qs_machine.specs.Recording.{recorded}
use Rattle.qs_machine.specs.Receiving.{ReceiveBy, TakesPayload, EndsBy, Stops, noted_receive}
use Rattle.qs_machine.specs.Alone.{is_ours, TakesOne, TakeBy, TakeAllBy}
use Rattle.qs_machine.specs.Standing.{IsSound}
use Rattle.qs_machine.specs.Repeats.{SentWasWritten}
use Rattle.qs_machine.specs.EndStep.{Call, Answer, EndStep, Receive, TakeFrame, TakeFrames}
use Rattle.qs_machine.proofs.EveryCall.{by_open}
use Rattle.qs_machine.proofs.Again.{seen_in, takes_prefix, all_done}
use Rattle.qs_machine.proofs.Pieces.{All_at, All_more}
use Rattle.qs_machine.proofs.TablesAfter.{kept_same}
use Rattle.qs_machine.proofs.LanesAgain.{LaneAfter, lane_same}
use Rattle.qs_runs.specs.Logs.{History, other, effects, taken, took_in}
use Rattle.qs_runs.specs.Worlds.{World, end_of, Run}
use Rattle.qs_runs.specs.Pasts.{past}
use Rattle.qs_runs.specs.Invariant.{WorldOk}
use Rattle.qs_runs.proofs.Claims.{run_settled}
use Rattle.qs_runs.proofs.Histories.{two_sides, back_again, effects_here, effects_there, frame_told}
use Rattle.qs_runs.proofs.Runs.{run_keeps, ends_face, processed_made}
use Rattle.qs_runs.proofs.Unharmed.{Facing, told_fine}
use Rattle.qs_rest.specs.Invariant.{ItemTaken}
use Rattle.qs_rest.specs.Again.{WasTaken, FramesRepeat}
use Rattle.qs_rest.proofs.More.{HasNews, taken_more}
use Rattle.qs_rest.proofs.Again.{StillDone, still_stays, keeps_same, call_still, settled_still, done_still, others_still, one_still, each_still, TakesNothing, taken_again, each_again}
use Rattle.qs_rest.proofs.Runs.{every_run_keeps}

-- A payload

no_stop : (v : PlacedValue) (f : Seen) (e new : End) → Stops v f e (Ok Done) new → ⊥
no_stop v (Close code) e new h = h
no_stop v f e new h = h

-- what ended so left no frame
all_left : (k : ℕ) (fault : Option WireFault) (asks : Bool) (left : List PlacedValue) (e new : End) → EndsBy k fault asks left e (Ok Done) new → (left ≡ []) × (new ≡ recorded k asks e)
all_left k None asks [] e new h = (refl, h)
all_left k (Some fault) asks [] e new h = absurd h
all_left k fault asks (v ∷ left) e new h = absurd (no_stop v (seen v.frame) e new h)

all_among : {X : Type 0} (P : X → Type 0) (xs : List X) → ((x : X) → Among x xs → P x) → AllByRecursion P xs
all_among P [] h = tt
all_among P (x ∷ xs) h = (h x (inl refl), all_among P xs (λ y a. h y (inr a)))

recorded_still : (k : ℕ) (asks : Bool) (e : End) (f : Seen) → StillDone e f → StillDone (recorded k asks e) f
recorded_still k asks e = still_stays e (recorded k asks e) (keeps_same e) (kept_same LaneAfter lane_same e.recvs)

module _ (e new : End) (sound : IsSound e) (sent : SentWasWritten e) where
  payload_still : (k : ℕ) (text : List ℕ) (result : Result Received Closing) → result ≡ Ok Done → (o : Option Closed) → ReceiveBy o k text e result new → AllByRecursion (StillDone new) (frames_in text)
  payload_still k text result done (Some (ByUs closing)) h = absurd (cc (sym h.0 ∙ done))
  payload_still k text result done (Some (ByPeer code)) h = absurd (cc (sym h.0 ∙ done))
  payload_still k text result done (Some (Noted close)) h = never close.by (sym h.0 ∙ done)
    where
      never : (c : Closer) → noted_receive c close.code ≡ Ok Done → AllByRecursion (StillDone new) (frames_in text)
      never Us is = absurd (cc is)
      never Peer is = absurd (cc is)
  payload_still k text result done None h =
      by_open (AllByRecursion (StillDone new) (frames_in text)) k text e result new h (λ below same. absurd (cc (sym below ∙ done))) (λ again same. absurd (cc (sym again ∙ done)))
      (λ high mid takes after. went mid (subst (λ r. TakesPayload k text e r mid) done takes) after)
    where
      went : (mid : End) → TakesPayload k text e (Ok Done) mid → new ≡ settle mid → AllByRecursion (StillDone new) (frames_in text)
      went mid takes after =
          let (taken, left, parts, fine, ends) = takes_prefix k (reading_of text).fault false e (reading_of text).left (Ok Done) mid takes in
          let (none, kept) = all_left k (reading_of text).fault _ left (frames_taken (seen_in taken) e) mid ends in
          let whole : (reading_of text).left ≡ taken = parts ∙ ap (λ x. taken ++ x) none ∙ append-nil taken in
          subst (λ ps. AllByRecursion (StillDone new) (seen_in ps)) (sym whole) (all_among (StillDone new) (seen_in taken) (λ f a.
          subst (λ x. StillDone x f) (sym after) (settled_still mid f (subst (λ x. StillDone x f) (sym kept)
          (recorded_still k _ (frames_taken (seen_in taken) e) f (done_still (frames_taken (seen_in taken) e) f (all_done (seen_in taken) e sound sent fine f a)))))))

  -- Frames without their packet

  frame_still : (f : FrameValue) (result : Result Taken TakeFault) (told : Taken) → result ≡ Ok told → (o : Option Closed) → TakeBy o f e result new → StillDone new (seen f)
  frame_still f result told is (Some closed) h = absurd (cc (sym h.0 ∙ is))
  frame_still f result told is None h = by (is_ours (seen f)) refl h
    where
      by : (b : Bool) → is_ours (seen f) ≡ b → MatchBool b ((mid : End) × TakesOne e f result mid × (new ≡ settle mid)) ((result ≡ Ok NotOurs) × (new ≡ e)) → StillDone new (seen f)
      by true ours (mid, takes, after) =
          subst (λ x. StillDone x (seen f)) (sym after) (settled_still mid (seen f) (one_still f e told mid sound sent ours (subst (λ r. TakesOne e f r mid) is takes)).3)
      by false other none = others_still new (seen f) other

  frames_still : (fs : List FrameValue) (result : Result Taken TakeFault) (told : Taken) → result ≡ Ok told → (o : Option Closed) → TakeAllBy o fs e result new → AllByRecursion (StillDone new) (seen_all fs)
  frames_still fs result told is (Some closed) h = absurd (cc (sym h.0 ∙ is))
  frames_still fs result told is None (mid, takes, after) =
      subst (λ x. AllByRecursion (StillDone x) (seen_all fs)) (sym after)
      (All_more (StillDone mid) (StillDone (settle mid)) (seen_all fs) (settled_still mid) (each_still fs e result mid sound sent takes told is).1)

  -- Each call

  news_still : (call : Call) (answer : Answer call) → EndStep e call answer new → HasNews (StillDone new) call answer
  news_still (Receive k bytes) answer step = λ done. payload_still k bytes answer done e.closed step
  news_still (TakeFrame f) answer step = λ told is. frame_still f answer told is e.closed step
  news_still (TakeFrames fs) answer step = λ told is. frames_still fs answer told is e.closed step
  news_still call answer step = tt

-- Every run

pub run_still : (a b : Settings) (h : History) (w : World) → Run a b h w → (t : Side) → AllByRecursion (StillDone (end_of w t)) (taken t h)
unfolding effects
run_still a b [] w begins t = tt
run_still a b (x ∷ h) w (v, before, step) t =
    let ok : WorldOk a b h v = run_keeps a b h v before in
    let s : Side = x.end in
    two_sides (λ t. AllByRecursion (StillDone (end_of w t)) (taken t (x ∷ h))) s
    (subst (AllByRecursion (StillDone (end_of w s))) (sym (ap (flat_map took_in) (effects_here x h)))
    (taken_more (StillDone (end_of w s)) (effects s h) x.call x.answer
    (All_more (StillDone (end_of v s)) (StillDone (end_of w s)) (taken s h) (call_still (end_of v s) (ok.sound s) (ok.sent s) x.call x.answer (end_of w s) step.step) (run_still a b h v before s))
    (news_still (end_of v s) (end_of w s) (ok.sound s) (ok.sent s) x.call x.answer step.step)))
    (subst (AllByRecursion (StillDone (end_of w (other s)))) (sym (ap (flat_map took_in) (effects_there x h)))
    (subst (λ e. AllByRecursion (StillDone e) (taken (other s) h)) (sym step.still) (run_still a b h v before (other s)))) t

-- It comes again

-- an end and its peer face each other
faces : (a b : Settings) (h : History) (w : World) → WorldOk a b h w → (s : Side) → Facing (end_of w s) (end_of w (other s))
faces a b h w ok A = ends_face a b h w ok B
faces a b h w ok B = ends_face a b h w ok A

pub frames_repeat : FramesRepeat
frames_repeat a b h v w s fs r run again step = by e.closed step.step
  where
    e : End
    e = end_of v s

    ok : WorldOk a b h v
    ok = run_keeps a b h v run

    nothing : (f : FrameValue) → WasTaken h s (seen f) → TakesNothing e f
    nothing f was ours =
        let g : Seen = seen f in
        let (told, fits) = frame_told h s (ok.texts (other s)) f (λ is. ok.taken s g (was is) is) ours in
        let fine : verdict e g ≡ None = told_fine (past s h) (past (other s) h) refl (back_again (λ t. (past t h).mine ≡ (past s h).mine) s refl) e (end_of v (other s)) (faces a b h v ok s) (ok.ends s) (ok.ends (other s)) (processed_made a b h v ok (other s)) g told in
        ((fits, fine), taken_again (past s h) e (ok.ends s) (ok.sound s).0 g ours fine (All_at (ItemTaken e) (taken s h) g (every_run_keeps a b h v run s).taken (was ours)) (All_at (StillDone e) (taken s h) g (run_still a b h v run s) (was ours)))

    each : (gs : List FrameValue) → AllByRecursion (WasTaken h s) (seen_all gs) → AllByRecursion (TakesNothing e) gs
    each [] all = tt
    each (f ∷ gs) all = (nothing f all.0, each gs all.1)

    by : (o : Option Closed) → TakeAllBy o fs e r (end_of w s) → end_of w s ≡ e
    by (Some closed) (is, same) = same
    by None (mid, takes, after) = after ∙ ap settle (each_again fs e r mid (each fs again) takes) ∙ run_settled a b h v run s
