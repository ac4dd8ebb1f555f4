-- What comes of a packet of a claimed number.
use Rattle.std.proofs.lemmas.Bool.Decides.{nat_tests}
use Rattle.std.proofs.Common.{arith}
use Rattle.std.proofs.Common.{◌≡◌, ℕ, ◌+◌, Bool, true, false, ◌||◌, List, [], ◌∷◌, ◌++◌, ◌⊎◌, length, Some, None, Result, Ok, Err, slice_get, refl, sym, ap, ◌∙◌, subst, inl, inr}
use Rattle.std.proofs.lemmas.Bool.{true≢false}
use Rattle.std.proofs.lemmas.Option.{same_Some}
use Rattle.std.proofs.lemmas.List.{length-map}
use Rattle.qs_wire.specs.Layout.{PlacedValue}
use Rattle.qs_wire.specs.Grammar.{frames_of}
use Rattle.qs_wire.specs.Reading.{reading_of}
use Rattle.qs_wire.specs.declared.stream_id.Role.{Role}
use Rattle.qs_wire.specs.declared.stream_id.Dir.TheVariants.{Bidi, Uni}
use Rattle.qs_calls.specs.declared.settings.Settings.{Settings}
use Rattle.qs_calls.specs.declared.settings.Tuning.{Tuning}
use Rattle.qs_calls.specs.declared.settings.PeerLimits.{PeerLimits}
use Rattle.qs_calls.specs.declared.closing.Closing.{Closing}
use Rattle.qs_calls.specs.declared.closing.Received.{Received}
use Rattle.qs_calls.specs.declared.closing.Received.TheVariants.{Duplicate, BelowFloor}
use Rattle.qs_calls.specs.declared.making.MakeFault.{MakeFault}
use Rattle.qs_calls.specs.declared.event.Side.{Side}
use Rattle.qs_machine.specs.Tables.{each}
use Rattle.qs_machine.specs.Ends.{End, closes, new_end, wide_end_made}
use Rattle.qs_machine.specs.Credit.{settle}
use Rattle.qs_machine.specs.Seen.{Seen, seen, seen_all, asks_ack, any_asks}
use Rattle.qs_machine.specs.Verdicts.{verdict}
use Rattle.qs_machine.specs.FrameStep.{frame_taken}
use Rattle.qs_machine.specs.Recording.{recorded}
use Rattle.qs_machine.specs.Receiving.{ReceiveStep, ReceiveBy, Takes, Stops, GoesOn, AtEnd}
use Rattle.qs_machine.specs.Making.{ClaimStep, first_lost}
use Rattle.qs_machine.specs.EndStep.{Call, Answer as CallAnswer, EndStep, Receive}
use Rattle.qs_machine.specs.Repeats.{OnlyRecords}
use Rattle.qs_machine.proofs.Counts.{new_ends_settled as new_counts_settled}
use Rattle.qs_machine.proofs.EveryCall.{ends_by, by_open}
use Rattle.qs_machine.proofs.Again.{settle_twice}
use Rattle.qs_machine.proofs.SettledLimits.{new_ends_settled}
use Rattle.qs_runs.specs.Logs.{History, other, made, payload, was_noted_closed, ping_text}
use Rattle.qs_runs.specs.Worlds.{World, end_of, May, Run}
use Rattle.qs_machine.specs.Plains.{frames_in, but_plain}
use Rattle.qs_runs.specs.Invariant.{WorldOk, role_of, settings_of}
use Rattle.qs_runs.specs.Claims.{claimed, ClaimsAlwaysTellNothing}
use Rattle.qs_runs.proofs.Lists.{slice_get-last}
use Rattle.qs_runs.proofs.Standing.{certain_cases}
use Rattle.qs_runs.proofs.Wire.{ping_seen}
use Rattle.qs_runs.proofs.Stays.{each_side}
use Rattle.qs_runs.proofs.Histories.{back_again, made_here}
use Rattle.qs_runs.proofs.NewEnds.{each_begun}
use Rattle.qs_runs.proofs.Runs.{run_keeps}

-- In every run each end stands as its last call left it.

begun_settled : (role : Role) (s : Settings) (t : Tuning) (p : PeerLimits) → wide_end_made role s t p ≡ Ok (new_end role s t p) → settle (new_end role s t p) ≡ new_end role s t p
unfolding each
begun_settled role s t p begun =
    let limits = new_ends_settled role s t p (new_end role s t p) begun in
    let counts = new_counts_settled role s t p (new_end role s t p) begun in
    λ i. record (new_end role s t p) { granted = limits.connection i; granted_bidi = sym (counts Bidi) i; granted_uni = sym (counts Uni) i }

call_settled : (old : End) (call : Call) (answer : CallAnswer call) (new : End) → settle old ≡ old → EndStep old call answer new → settle new ≡ new
call_settled old call answer new h step =
    ends_by (λ e. settle e ≡ e) old h settle_twice (λ k p e is. ap (first_lost k p) is) (ap (λ (e : End). record e { next = e.next + 1 }) h) (λ c. ap (closes c) h) call answer new step

pub run_settled : (a b : Settings) (h : History) (w : World) → Run a b h w → (s : Side) → settle (end_of w s) ≡ end_of w s
run_settled a b [] w begins s = each_begun (λ t e. settle e ≡ e) a b w begins (λ t tuning told begun granted. begun_settled (role_of t) (settings_of a b t) tuning told begun) s
run_settled a b (x ∷ h) w (v, before, step) s =
    each_side (λ e f. settle e ≡ e → settle f ≡ f) (λ e is. is) v w (λ t call answer made is. call_settled (end_of v t) call answer (end_of w t) is made) h x step s (run_settled a b h v before s)

-- Plain frames come

-- the first has no fault and takes no memory of its own, and what is left of them is plain too
plain_goes : (v : PlacedValue) (f : Seen) (gs : List Seen) (k : ℕ) (asks : Bool) (e mid : End) (left : List PlacedValue) (result : Result Received Closing) → but_plain (f ∷ gs) ≡ [] →
    Stops v f e result mid ⊎ (GoesOn e f × Takes k None (asks || asks_ack f) (frame_taken f e) left result mid) →
    ((b : Bool) → but_plain gs ≡ [] → Takes k None b e left result mid → AtEnd k (b || any_asks gs) None e result mid) → AtEnd k (asks || (asks_ack f || any_asks gs)) None e result mid
unfolding verdict frame_taken
plain_goes v f gs k asks e mid left result none h rest = grind (arith, nat_tests)

plain_taken : (left : List PlacedValue) (k : ℕ) (asks : Bool) (e mid : End) (result : Result Received Closing) → but_plain (seen_all (frames_of left)) ≡ [] → Takes k None asks e left result mid → AtEnd k (asks || any_asks (seen_all (frames_of left))) None e result mid
plain_taken [] k asks e mid result none h = subst (λ b. AtEnd k b None e result mid) (sym (or_false asks)) h
  where
    or_false : (b : Bool) → (b || false) ≡ b
    or_false true = refl
    or_false false = refl
plain_taken (v ∷ left) k asks e mid result none h =
    plain_goes v (seen v.frame) (seen_all (frames_of left)) k asks e mid left result none h (λ b others takes. plain_taken left k b e mid result others takes)

plain_ends : (k : ℕ) (asks : Bool) (e mid new : End) (result : Result Received Closing) → settle e ≡ e → AtEnd k asks None e result mid → new ≡ settle mid → OnlyRecords k asks result e new
plain_ends k asks e mid new result same end is = grind (arith, nat_tests)

plain_received : (k : ℕ) (bytes : List ℕ) (e new : End) (result : Result Received Closing) → e.closed ≡ None → settle e ≡ e → (reading_of bytes).fault ≡ None → but_plain (frames_in bytes) ≡ [] → ReceiveStep e k bytes result new →
    OnlyRecords k (any_asks (frames_in bytes)) result e new
plain_received k bytes e new result not_closed same faultless none step =
    let stays : (r : Result Received Closing) → result ≡ r → OnlyRecords k (any_asks (frames_in bytes)) r e new → OnlyRecords k (any_asks (frames_in bytes)) result e new = λ r at h. subst (λ x. OnlyRecords k (any_asks (frames_in bytes)) x e new) (sym at) h in
    by_open (OnlyRecords k (any_asks (frames_in bytes)) result e new) k bytes e result new (subst (λ o. ReceiveBy o k bytes e result new) not_closed step) (stays (Ok BelowFloor)) (stays (Ok Duplicate)) (λ high mid takes is.
    plain_ends k (any_asks (frames_in bytes)) e mid new result same
    (plain_taken (reading_of bytes).left k false e mid result none (subst (λ f. Takes k f false e (reading_of bytes).left result mid) faultless takes)) is)

-- a PING is plain, and so is what differs from it in plain frames alone
ping_plain : but_plain (frames_in ping_text) ≡ []
ping_plain = ap but_plain ping_seen

-- A number is claimed

abbrev number_in : Result ℕ MakeFault → ℕ
number_in (Ok number) = number
number_in (Err fault) = 0

-- it is that of the next packet
module _ (a b : Settings) (h : History) (v : World) (s : Side) (ok : WorldOk a b h v) where
  claimed_is : (number : ℕ) (new : End) → ClaimStep (end_of v s) (Ok number) new → number ≡ length (made s h)
  claimed_is number new step = grind (arith, nat_tests, certain_cases, length-map)

  claimed_ping : (number : ℕ) (new : End) → ClaimStep (end_of v s) (Ok number) new → payload s number (claimed s number ∷ h) ≡ Some ping_text
  claimed_ping number new step =
      ap (λ ts. slice_get ts number) (made_here (claimed s number) h)
      ∙ ap (slice_get (made s h ++ ping_text ∷ [])) (claimed_is number new step)
      ∙ slice_get-last (made s h) ping_text

pub claims_tell_nothing : ClaimsAlwaysTellNothing
claims_tell_nothing a b h v w s number run =
    record {
      ping = λ step. claimed_ping a b h v s (run_keeps a b h v run) number (end_of w s) step.step;
      recorded = λ bytes result ping untold open_end step. recorded bytes result ping untold open_end step.step (step.may open_end);
    }
  where
    recorded : (bytes : List ℕ) (result : Result Received Closing) → payload s number h ≡ Some ping_text → was_noted_closed s h ≡ false → (end_of v (other s)).closed ≡ None → ReceiveStep (end_of v (other s)) number bytes result (end_of w (other s)) → May h v (other s) (Receive number bytes) →
        OnlyRecords number (any_asks (frames_in bytes)) result (end_of v (other s)) (end_of w (other s))
    recorded bytes result ping untold open_end step (inr close) = absurd (true≢false (sym close.0 ∙ back_again (λ t. was_noted_closed t h ≡ false) s untold))
    recorded bytes result ping untold open_end step (inl (text, is, differ)) =
        plain_received number bytes (end_of v (other s)) (end_of w (other s)) result open_end (run_settled a b h v run (other s)) differ.reads
        (differ.same ∙ ap (λ t. but_plain (frames_in t)) (same_Some text ping_text (sym is ∙ back_again (λ t. payload t number h ≡ Some ping_text) s ping)) ∙ ping_plain) step
