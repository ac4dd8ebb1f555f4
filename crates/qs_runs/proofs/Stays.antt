-- Whatever happens in a world is a call of one end and leaves the other as it was; so each receiving half keeps what it knows.
use Rattle.std.proofs.Common.{◌≡◌, sym, subst}
use Rattle.qs_calls.specs.declared.event.Side.{Side}
use Rattle.qs_runs.specs.Logs.{Happening, History, other}
use Rattle.qs_runs.specs.Worlds.{World, end_of, WorldStep}
use Rattle.qs_runs.specs.Laws.{WhatIsKnownStays}
use Rattle.qs_machine.specs.Ends.{End}
use Rattle.qs_machine.specs.EndStep.{Call, Answer as CallAnswer, EndStep}
use Rattle.qs_machine.proofs.TablesAfter.{KeptIn, kept_same}
use Rattle.qs_machine.proofs.LanesAgain.{LaneAfter, lane_same}
use Rattle.qs_machine.proofs.CallsCounts.{lanes_call}
use Rattle.qs_runs.proofs.Histories.{two_sides}

-- A relation that holds where nothing changes and across each call of an end holds of each end across all that happens.
module _ (T : End → End → Type 0) (same : (e : End) → T e e) (v w : World) (calls : (t : Side) (call : Call) (answer : CallAnswer call) → EndStep (end_of v t) call answer (end_of w t) → T (end_of v t) (end_of w t)) where
  abbrev HoldsAt : Side → Type 0
  HoldsAt t = T (end_of v t) (end_of w t)

  idle : (t : Side) → end_of w t ≡ end_of v t → HoldsAt t
  idle t is = subst (T (end_of v t)) (sym is) (same (end_of v t))

  pub each_side : (h : History) (x : Happening) → WorldStep h v x w → (t : Side) → HoldsAt t
  each_side h x step = two_sides HoldsAt x.end (calls x.end x.call x.answer step.step) (idle (other x.end) step.still)

pub what_is_known_stays : WhatIsKnownStays
what_is_known_stays a b h v w x ok step s n r is =
    let (m, there, after) =
    each_side (λ e f. KeptIn LaneAfter e.recvs f.recvs) (λ e. kept_same LaneAfter lane_same e.recvs) v w (λ t call answer made. lanes_call (end_of v t) (ok.sound t) (ok.sent t) call answer (end_of w t) made) h x step (other s) n r is in
    (m, there, record { offsets = after.received; final_size = after.size; reset = after.reset })
