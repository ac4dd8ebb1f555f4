-- An end that was told its peer's true limits knows them from then on.
use Rattle.std.proofs.Common.{◌≡◌, ◌≤◌, [], ◌∷◌, take, Ok, inl, inr, refl, sym, ap, subst, arith, le_antisymm}
use Rattle.qs_wire.specs.declared.stream_id.Dir.TheVariants.{Uni}
use Rattle.qs_calls.specs.Settings.{limits_of, default_tuning}
use Rattle.qs_calls.specs.declared.settings.Settings.{Settings}
use Rattle.qs_calls.specs.declared.settings.PeerLimits.{PeerLimits}
use Rattle.qs_calls.specs.declared.event.Side.{Side}
use Rattle.qs_calls.specs.declared.event.Side.TheVariants.{A}
use Rattle.qs_machine.specs.Ends.{End}
use Rattle.qs_machine.specs.Raising.{RaiseStep, raise_refusal, greater_limits}
use Rattle.qs_machine.specs.Setting.{Grant, StreamWindow, SendBuffer}
use Rattle.qs_machine.specs.FrameStep.{named, acks, frame_taken}
use Rattle.qs_machine.specs.Lawful.{frame_put}
use Rattle.qs_machine.specs.EndStep.{Call, Answer as CallAnswer, EndStep, RaiseLimits}
use Rattle.qs_machine.proofs.Leaves.{acks_leave, put_leaves, frame_leaves}
use Rattle.qs_machine.proofs.EveryCall.{Change, changed, Comes, relates, Wanted, Took, Acked, Put, Raised, WasSet}
use Rattle.qs_runs.specs.Logs.{Happening, History, other}
use Rattle.qs_runs.specs.Events.{happened}
use Rattle.qs_runs.specs.Worlds.{World, AreGranted, end_of, WorldStep, Run}
use Rattle.qs_runs.specs.Invariant.{WorldOk}
use Rattle.qs_runs.proofs.Standing.{certain_cases}
use Rattle.qs_runs.proofs.Stays.{each_side}
use Rattle.qs_runs.proofs.NewEnds.{first_world, made_first, made_wide}
use Rattle.qs_runs.proofs.Histories.{two_sides}
use Rattle.qs_runs.proofs.Runs.{run_keeps, granted_limits, event_runs, settings_stay}
use Rattle.qs_rest.specs.Resting.{KnowsFirstLimits, FirstLimitsStay, TakenInIsTold, EventRunsTell}

-- no limit of q is below that of p
record Rises (p q : PeerLimits) : Type 0 where
  max_data : p.max_data ≤ q.max_data
  bidi_local : p.bidi_local ≤ q.bidi_local
  bidi_remote : p.bidi_remote ≤ q.bidi_remote
  uni : p.uni ≤ q.uni
  streams_bidi : p.streams_bidi ≤ q.streams_bidi
  streams_uni : p.streams_uni ≤ q.streams_uni

rises_same : (p : PeerLimits) → Rises p p
rises_same p = record { max_data = omega arith; bidi_local = omega arith; bidi_remote = omega arith; uni = omega arith; streams_bidi = omega arith; streams_uni = omega arith }

rises_twice : (p q r : PeerLimits) → Rises p q → Rises q r → Rises p r
rises_twice p q r x y =
    record {
      max_data = omega (arith, x.max_data, y.max_data);
      bidi_local = omega (arith, x.bidi_local, y.bidi_local);
      bidi_remote = omega (arith, x.bidi_remote, y.bidi_remote);
      uni = omega (arith, x.uni, y.uni);
      streams_bidi = omega (arith, x.streams_bidi, y.streams_bidi);
      streams_uni = omega (arith, x.streams_uni, y.streams_uni);
    }

rises_more : (p q : PeerLimits) → Rises p (greater_limits p q)
rises_more p q = record { max_data = omega arith; bidi_local = omega arith; bidi_remote = omega arith; uni = omega arith; streams_bidi = omega arith; streams_uni = omega arith }

rises_to : (p q : PeerLimits) → Rises q (greater_limits p q)
rises_to p q = record { max_data = omega arith; bidi_local = omega arith; bidi_remote = omega arith; uni = omega arith; streams_bidi = omega arith; streams_uni = omega arith }

-- limits that are granted, and no lower than the true ones, are these
are_true : (p : PeerLimits) (s : Settings) → AreGranted p s → Rises (limits_of s) p → p ≡ limits_of s
are_true p s g r =
    λ i. record {
      max_data = le_antisymm g.max_data r.max_data i;
      bidi_local = le_antisymm g.bidi_local r.bidi_local i;
      bidi_remote = le_antisymm g.bidi_remote r.bidi_remote i;
      uni = le_antisymm g.uni r.uni i;
      streams_bidi = le_antisymm g.streams_bidi r.streams_bidi i;
      streams_uni = le_antisymm g.streams_uni r.streams_uni i;
    }

same_peer : (e f : End) → f.peer ≡ e.peer → Rises e.peer f.peer
same_peer e f is = subst (Rises e.peer) (sym is) (rises_same e.peer)

-- what an end was told never falls
change_rises : (old : End) (call : Call) (c : Change) (e : End) → Comes old call e c → Rises e.peer (changed c e).peer
change_rises old call (Wanted Uni count) e comes = rises_same e.peer
change_rises old call (Took f) e comes = same_peer e (frame_taken f e) (ap (λ (x : End). x.peer) (frame_leaves f e))
change_rises old call (Acked count ranges) e comes = same_peer e (acks (take count (named e ranges)) e) (ap (λ (x : End). x.peer) (acks_leave (take count (named e ranges)) e))
change_rises old call (Put f) e comes = same_peer e (frame_put f e) (ap (λ (x : End). x.peer) (put_leaves f e))
change_rises old call (WasSet (SendBuffer n size)) e comes = rises_same e.peer
change_rises old call (Raised limits) e comes = rises_more e.peer limits
change_rises old call (WasSet (Grant Uni n)) e comes = rises_same e.peer
change_rises old call (WasSet (StreamWindow n w)) e comes = rises_same e.peer
change_rises old call c e comes = rises_same e.peer

call_rises : (old : End) (call : Call) (answer : CallAnswer call) (new : End) → EndStep old call answer new → Rises old.peer new.peer
call_rises old call answer new step =
    relates (λ e f. Rises e.peer f.peer) (λ e. rises_same e.peer) (λ e f g x y. rises_twice e.peer f.peer g.peer x y) old call (change_rises old call) answer new step

step_rises : (h : History) (v w : World) (x : Happening) → WorldStep h v x w → (t : Side) → Rises (end_of v t).peer (end_of w t).peer
step_rises h v w x step = each_side (λ e f. Rises e.peer f.peer) (λ e. rises_same e.peer) v w (λ t call answer made. call_rises (end_of v t) call answer (end_of w t) made) h x step

-- an end that was told limits no lower than the true ones of its peer
told_true : (a b : Settings) (h : History) (v w : World) (x : Happening) → Run a b h v → WorldStep h v x w → (s : Side) → Rises (limits_of (end_of v (other s)).settings) (end_of w s).peer → KnowsFirstLimits w s
told_true a b h v w x run step s rises =
    let new : WorldOk a b (x ∷ h) w = run_keeps a b (x ∷ h) w (v, run, step) in
    are_true (end_of w s).peer (end_of w (other s)).settings (granted_limits a b (x ∷ h) w new s) (subst (λ y. Rises (limits_of y) (end_of w s).peer) (sym (settings_stay a b h v w x (run_keeps a b h v run) new (other s))) rises)

pub first_limits_stay : FirstLimitsStay
first_limits_stay a b h v w x run step s told = told_true a b h v w x run step s (subst (λ p. Rises p (end_of w s).peer) told (step_rises h v w x step s))

-- limits that were taken in are no higher than what is known then
taken_rises : (e new : End) (limits : PeerLimits) → RaiseStep e limits (Ok tt) new → Rises limits new.peer
taken_rises e new limits step =
    elim (certain_cases (raise_refusal e limits) e (Ok tt) new _ step) [
      | inl (fault, is, same) ↦ absurd (cc is)
      | inr (allowed, (is, same)) ↦ subst (λ (x : End). Rises limits x.peer) (sym same) (rises_to e.peer limits)
    ]

pub taken_in_is_told : TakenInIsTold
taken_in_is_told a b h v w s run step =
    told_true a b h v w (record { end = s; call = RaiseLimits (limits_of (end_of v (other s)).settings); answer = Ok tt }) run step s (taken_rises (end_of v s) (end_of w s) (limits_of (end_of v (other s)).settings) step.step)

pub event_runs_tell : EventRunsTell
event_runs_tell a b [] w is s = subst (λ x. KnowsFirstLimits x s) (sym (made_first a b default_tuning default_tuning (limits_of a) (limits_of b) w (made_wide a b w is))) (two_sides (KnowsFirstLimits (first_world a b default_tuning default_tuning (limits_of a) (limits_of b))) A refl refl s)
event_runs_tell a b (x ∷ log) w (v, before, (y, is, step)) s = first_limits_stay a b (happened log) v w y (event_runs a b log v before) step s (event_runs_tell a b log v before s)
