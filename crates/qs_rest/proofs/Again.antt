-- Frames that were taken change nothing when they come again: what they did stays done, whatever comes between.
use Rattle.std.proofs.Common.{◌≡◌, ℕ, Bool, true, false, not, ◌&&◌, List, [], ◌∷◌, ◌⊎◌, Some, None, Result, Ok, Err, is_some, refl, sym, ap, ◌∙◌, subst, inl, inr, MatchBool, if◌then◌else◌}
use Rattle.std.proofs.lemmas.Option.{none-some}
use Rattle.std.proofs.lemmas.Bool.{false≢true, cond_both, eq-eqb, and_from}
use Rattle.std.specs.List.{AllByRecursion}
use Rattle.qs_wire.specs.Layout.{FrameValue}
use Rattle.qs_wire.specs.declared.stream_id.Dir.TheVariants.{Bidi}
use Rattle.qs_recv.specs.Lane.{RecvLane, raise}
use Rattle.qs_send.specs.Lane.{SendLane, reset_lane, reset_refusal, unacked_from, is_whole, stop_taken, broken_off, first_code}
use Rattle.qs_send.specs.declared.piece.Item.TheVariants.{MaxStreamData, MaxStreams, ResetStream, StopSending, DataBlocked, StreamDataBlocked, StreamsBlocked}
use Rattle.qs_calls.specs.declared.token.Taken.{Taken}
use Rattle.qs_calls.specs.declared.token.TakeFault.{TakeFault}
use Rattle.qs_calls.specs.declared.token.TakeFault.TheVariants as faults
use Rattle.qs_machine.specs.Tables.{lookup}
use Rattle.qs_machine.specs.Ends.{End, is_own, is_own_by, is_uni, first_send_limit}
use Rattle.qs_machine.specs.Credit.{settle}
use Rattle.qs_machine.specs.Seen.{Seen, Ack, Stream, Control, Close, Plain, seen, seen_all}
use Rattle.qs_machine.specs.Verdicts.{verdict, state_fault_in}
use Rattle.qs_machine.specs.FrameStep.{frame_taken}
use Rattle.qs_machine.specs.Receiving.{GoesOn}
use Rattle.qs_machine.specs.Alone.{is_ours, MayTake, TakesOne, TakesEach, after_one}
use Rattle.qs_machine.specs.Standing.{IsSound, IsInCredit}
use Rattle.qs_machine.specs.Repeats.{SentWasWritten}
use Rattle.qs_machine.specs.EndStep.{Call, Answer, EndStep}
use Rattle.qs_machine.proofs.TablesAfter.{KeptIn, kept_same, kept_each, still_open}
use Rattle.qs_machine.proofs.EachHalf.{SendEdit, Resets, IsAsked, send_edited, sends_kept}
use Rattle.qs_machine.proofs.EndsAfter.{IsAfter, after_same, after_twice, has_code}
use Rattle.qs_machine.proofs.LanesAgain.{LaneAfter, lane_same, raise_after, HasData, data_stays, HasReset, reset_stays}
use Rattle.qs_machine.proofs.CallsCounts.{lanes_call}
use Rattle.qs_machine.proofs.Again.{WasOpened, IsStopped, IsDone, frame_done, frame_again, one_left}
use Rattle.qs_runs.specs.Pasts.{Past}
use Rattle.qs_runs.specs.Invariant.{EndOk, SendOk, SendSlot}
use Rattle.qs_runs.proofs.Taking.{or_else_none}
use Rattle.qs_runs.proofs.Changes.{acked_written}
use Rattle.qs_runs.proofs.Receives.{none_asked, took_effect}
use Rattle.qs_rest.proofs.Effects.{later_told}
use Rattle.qs_rest.specs.Invariant.{IsAllAcked, IsStopTaken, ItemTaken}
use Rattle.qs_rest.proofs.OneStream.{missing_is}

-- What a call keeps

-- a code that came stays
abbrev pub CodeStays : SendLane → SendLane → Type 0
CodeStays l m = is_some l.stopped ≡ true → is_some m.stopped ≡ true

code_same : (l : SendLane) → CodeStays l l
code_same l is = is

code_twice : (l m k : SendLane) → CodeStays l m → CodeStays m k → CodeStays l k
code_twice l m k r s is = s (r is)

abbrev pub Keeps : End → End → Type 0
Keeps a b = (b.role ≡ a.role) × KeptIn CodeStays a.sends b.sends

pub keeps_same : (e : End) → Keeps e e
keeps_same e = (refl, kept_same CodeStays code_same e.sends)

keeps_after : (a b : End) → IsAfter a b → Keeps a b
keeps_after a b after = (after.role, λ n l is. (let (m, there, h) = after.sends n l is in (m, there, h.stopped)))

code_reset : (code : ℕ) (l : SendLane) → CodeStays l (reset_lane l code)
code_reset code l =
    cond_both (is_some (reset_refusal l)) l (record l { kept = []; was_reset = Some (record { code = code; size = if l.fin_sent then l.written else l.sent_end }) }) (CodeStays l) (λ _ is. is) (λ _ is. is)

code_asked : (answers : Bool) (code : ℕ) (l : SendLane) → CodeStays l (stop_taken answers l code)
code_asked true code l = cond_both (is_some (reset_refusal l)) l (record l { stopped = first_code l.stopped code }) (CodeStays l) (λ _ is. is) (λ _ is. has_code l.stopped code)
code_asked false code l = cond_both (is_some (reset_refusal l)) l (record (broken_off l code) { stopped = first_code l.stopped code }) (CodeStays l) (λ _ is. is) (λ _ is. has_code l.stopped code)

send_stays : (x : SendEdit) (l : SendLane) → CodeStays l (send_edited x l)
send_stays (Resets code) l = code_reset code l
send_stays (IsAsked answers code) l = code_asked answers code l
send_stays x l = code_same l

keeps_call : (old : End) (call : Call) (answer : Answer call) (new : End) → EndStep old call answer new → Keeps old new
keeps_call old call answer new step = sends_kept CodeStays code_same code_twice send_stays old call answer new step

-- What a frame did that was taken

-- what stays of it beside ItemTaken
abbrev pub StillDone : End → Seen → Type 0
StillDone e (Stream n offset bytes fin) = WasOpened e n × (l : RecvLane) × (lookup e.recvs n ≡ Some l) × HasData l offset bytes fin
StillDone e (Control (MaxStreamData n m)) = WasOpened e n
StillDone e (Control (ResetStream n code size)) = WasOpened e n × (l : RecvLane) × (lookup e.recvs n ≡ Some l) × HasReset l size
StillDone e (Control (StopSending n code)) = WasOpened e n
StillDone e (Control (StreamDataBlocked n m)) = WasOpened e n
StillDone e f = Unit {0}

module _ (a b : End) (keeps : Keeps a b) (recvs : KeptIn LaneAfter a.recvs b.recvs) where
  opened_stays : (n : ℕ) → WasOpened a n → WasOpened b n
  opened_stays n h other =
      let own : is_own b n ≡ is_own a n = ap (λ r. is_own_by r n) keeps.0 in
      let was = h (sym own ∙ other) in
      record {
        recvs = λ c. still_open LaneAfter a.recvs b.recvs n recvs (was.recvs (ap (λ o. is_uni n && o) (sym own) ∙ c));
        sends = λ c. still_open CodeStays a.sends b.sends n keeps.1 (was.sends (ap (λ o. is_uni n && not o) (sym own) ∙ c));
      }

  pub still_stays : (f : Seen) → StillDone a f → StillDone b f
  still_stays (Stream n offset bytes fin) (was, l, is, has) = (let (m, there, r) = recvs n l is in (opened_stays n was, m, there, data_stays l m offset bytes fin r has))
  still_stays (Control (MaxStreamData n m)) was = opened_stays n was
  still_stays (Control (ResetStream n code size)) (was, l, is, has) = (let (m, there, r) = recvs n l is in (opened_stays n was, m, there, reset_stays l m size r has))
  still_stays (Control (StopSending n code)) was = opened_stays n was
  still_stays (Control (StreamDataBlocked n m)) was = opened_stays n was
  still_stays f h = tt

-- every call keeps it
pub call_still : (old : End) → IsSound old → SentWasWritten old → (call : Call) (answer : Answer call) (new : End) → EndStep old call answer new → (f : Seen) → StillDone old f → StillDone new f
call_still old sound sent call answer new step = still_stays old new (keeps_call old call answer new step) (lanes_call old sound sent call answer new step)

-- a call ends, and its number is recorded
pub settled_still : (e : End) (f : Seen) → StillDone e f → StillDone (settle e) f
settled_still e = still_stays e (settle e) (keeps_same e) (kept_each LaneAfter lane_same e.recvs raise raise_after)

pub after_still : (a b : End) → IsAfter a b → (f : Seen) → StillDone a f → StillDone b f
after_still a b after = still_stays a b (keeps_after a b after) after.recvs

-- and once a frame took effect it is so
pub done_still : (e : End) (f : Seen) → IsDone f e → StillDone e f
done_still e (Stream n offset bytes fin) (fine, was, l, is, has) = (was, l, is, has)
done_still e (Control (MaxStreamData n m)) (fine, was, l, is, le) = was
done_still e (Control (ResetStream n code size)) (fine, was, l, is, has) = (was, l, is, has)
done_still e (Control (StopSending n code)) (fine, was, l, is, done) = was
done_still e (Control (StreamDataBlocked n m)) (fine, was) = was
done_still e f h = tt

-- It comes again

module _ (p : Past) (e : End) (ok : EndOk p e) where
  -- all of a half was acknowledged
  all_refused : (n : ℕ) (l : SendLane) → lookup e.sends n ≡ Some l → (is_some l.was_reset ≡ true) ⊎ IsAllAcked l → is_some (reset_refusal l) ≡ true
  all_refused n l is (inl reset) = rw reset refl
  all_refused n l is (inr all) =
      cond_both (is_some l.was_reset) _ _ (λ o. is_some o ≡ true) (λ _. refl) (λ _. rw whole refl)
    where
      half : SendOk p n (first_send_limit e n) l
      half = subst (SendSlot p n (first_send_limit e n)) is (ok.sends n)

      first : unacked_from l ≡ l.written
      first = missing_is l.acked l.written all.offsets (acked_written p.mine p.theirs p.tokens (p.broken n) (p.bytes n) n (first_send_limit e n) l half)

      whole : is_whole l ≡ true
      whole = and_from _ _ (eq-eqb (unacked_from l) l.written first) all.end

  stop_done : (n : ℕ) (l : SendLane) → lookup e.sends n ≡ Some l → (answers : Bool) → IsStopTaken answers l → IsStopped answers l
  stop_done n l is answers (inl reset) = inl (all_refused n l is (inl reset))
  stop_done n l is answers (inr (inl all)) = inl (all_refused n l is (inr all))
  stop_done n l is answers (inr (inr told)) = inr told

  -- what it did is done still
  whole_done : (f : Seen) → is_ours f ≡ true → verdict e f ≡ None → ItemTaken e f → StillDone e f → IsDone f e
  unfolding verdict
  whole_done (Stream n offset bytes fin) ours fine taken (was, l, is, has) = ((or_else_none (state_fault_in e n) _ fine).0, was, l, is, has)
  whole_done (Control (MaxStreamData n m)) ours fine (l, is, le) was = (fine, was, l, is, le)
  whole_done (Control (MaxStreams Bidi m)) ours fine taken still = taken
  whole_done (Control (ResetStream n code size)) ours fine taken (was, l, is, has) = ((or_else_none (state_fault_in e n) _ fine).0, was, l, is, has)
  whole_done (Control (StopSending n code)) ours fine (l, is, over) was = (fine, was, l, is, stop_done n l is e.tuning.answers_stops over)
  whole_done (Control (DataBlocked m)) ours fine taken still = tt
  whole_done (Control (StreamDataBlocked n m)) ours fine taken was = (fine, was)
  whole_done (Control (StreamsBlocked d m)) ours fine taken still = tt
  whole_done (Ack largest ranges) ours fine taken still = absurd (false≢true ours)
  whole_done (Close code) ours fine taken still = absurd (false≢true ours)
  whole_done (Plain asks) ours fine taken still = absurd (false≢true ours)
  whole_done _ ours fine taken still = taken

  -- it takes no effect again
  pub taken_again : IsInCredit e → (f : Seen) → is_ours f ≡ true → verdict e f ≡ None → ItemTaken e f → StillDone e f → frame_taken f e ≡ e
  taken_again sound f ours fine taken still = (frame_again f e (whole_done f ours fine taken still) sound).1

-- Frames without their packet

pub others_still : (e : End) (g : Seen) → is_ours g ≡ false → StillDone e g
others_still e (Stream n offset bytes fin) other = absurd (false≢true (sym other))
others_still e (Control i) other = absurd (false≢true (sym other))
others_still e _ other = tt

goes_on : (e : End) (g : Seen) → is_ours g ≡ true → verdict e g ≡ None → GoesOn e g
goes_on e (Stream n offset bytes fin) ours fine = fine
goes_on e (Control i) ours fine = fine
goes_on e _ ours fine = absurd (false≢true ours)

-- one that took effect
pub one_still : (f : FrameValue) (e : End) (one : Taken) (new : End) → IsSound e → SentWasWritten e → is_ours (seen f) ≡ true → TakesOne e f (Ok one) new → IsAfter e new × IsSound new × SentWasWritten new × StillDone new (seen f)
one_still f e one new sound sent ours takes =
    let (may, after) = took_effect e f one new takes in
    let g : Seen = seen f in
    let go : GoesOn e g = goes_on e g ours may.1 in
    let left = one_left g e go sound sent in
    subst (λ x. IsAfter e x × IsSound x × SentWasWritten x × StillDone x g) (sym after) (left.after, left.sound, left.sent, done_still (frame_taken g e) g (frame_done g e go sound.0 sent))

-- those that all took effect
pub each_still : (fs : List FrameValue) (e : End) (result : Result Taken TakeFault) (new : End) → IsSound e → SentWasWritten e → TakesEach fs e result new → (told : Taken) → result ≡ Ok told → IsAfter e new × AllByRecursion (StillDone new) (seen_all fs)
each_still [] e result new sound sent h told came = (subst (IsAfter e) (sym h.1) (after_same e), tt)
each_still (f ∷ fs) e result new sound sent h told came = by (is_ours (seen f)) refl h (λ mid r now was takes all is. each_still fs mid r new now was takes all is)
  where
    by : (b : Bool) → is_ours (seen f) ≡ b → MatchBool b (((mid : End) × (one : Taken) × (later : Result Taken TakeFault) × TakesOne e f (Ok one) mid × TakesEach fs mid later new × (result ≡ after_one one later)) ⊎ ((fault : TakeFault) × TakesOne e f (Err fault) new × (result ≡ Err fault))) (TakesEach fs e result new)
        → ((mid : End) (r : Result Taken TakeFault) → IsSound mid → SentWasWritten mid → TakesEach fs mid r new → (all : Taken) → r ≡ Ok all → IsAfter mid new × AllByRecursion (StillDone new) (seen_all fs)) → IsAfter e new × AllByRecursion (StillDone new) (seen f ∷ seen_all fs)
    by true ours (inl (mid, one, later, takes, more, is)) goes =
        let (after, now, was, done) = one_still f e one mid sound sent ours takes in
        let (last, at) = later_told one told later (sym is ∙ came) in
        let rest = goes mid later now was more last at in
        (after_twice e mid new after rest.0, (after_still mid new rest.0 (seen f) done, rest.1))
    by true ours (inr (fault, one, is)) goes = absurd (cc (sym is ∙ came))
    by false other more goes = (let rest = goes e result sound sent more told came in (rest.0, (others_still new (seen f) other, rest.1)))

-- and those that change nothing when they come again
abbrev pub TakesNothing : End → FrameValue → Type 0
TakesNothing e f = is_ours (seen f) ≡ true → MayTake e f × (frame_taken (seen f) e ≡ e)

pub each_again : (fs : List FrameValue) (e : End) (result : Result Taken TakeFault) (new : End) → AllByRecursion (TakesNothing e) fs → TakesEach fs e result new → new ≡ e
each_again [] e result new again h = h.1
each_again (f ∷ fs) e result new again h = by (is_ours (seen f)) refl h (λ r takes. each_again fs e r new again.1 takes)
  where
    by : (b : Bool) → is_ours (seen f) ≡ b → MatchBool b (((mid : End) × (one : Taken) × (later : Result Taken TakeFault) × TakesOne e f (Ok one) mid × TakesEach fs mid later new × (result ≡ after_one one later)) ⊎ ((fault : TakeFault) × TakesOne e f (Err fault) new × (result ≡ Err fault))) (TakesEach fs e result new)
        → ((r : Result Taken TakeFault) → TakesEach fs e r new → new ≡ e) → new ≡ e
    by true ours (inl (mid, one, later, takes, more, is)) goes = goes later (subst (λ x. TakesEach fs x later new) ((took_effect e f one mid takes).1 ∙ (again.0 ours).1) more)
    by true ours (inr (faults.NoMemory, one, is)) goes = none_asked e new (seen f) ours one.1
    by true ours (inr (faults.Closing closing, one, is)) goes =
        elim one.0 [
          | inl no_text ↦ absurd (no_text.0 (again.0 ours).0.0)
          | inr (fits, faulty) ↦ absurd (none-some closing.code (sym (again.0 ours).0.1 ∙ faulty))
        ]
    by true ours (inr (faults.PeerClosed code, one, is)) goes = absurd one
    by false other more goes = goes result more
