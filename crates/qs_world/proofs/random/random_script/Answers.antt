use Rattle.std.proofs.Common.{◌≡◌, arith, map, reverse, true, rules}
use Rattle.std.specs.List.{list_all}
use Rattle.std.proofs.lemmas.Result.{IfOk-weaker}
use Rattle.qs_calls.specs.Events.{fits}
use Rattle.qs_world.specs.Randoms.{IsRandomScript, seeded}
use Rattle.qs_world.proofs.DrawnRuns.{begins_drawn, draws_more, is_script, script_fits}
use Rattle.qs_world.proofs.random.random_script.Goals as goal

pub loop-init : goal.loop-init
loop-init c =
    rw c.new-words.ensures (begins_drawn _ _ _ _ c.standard_settings-settings.ensures c.standard_settings-settings.ensures c.in-Ok.ensures.made)

pub loop-preserved : goal.loop-preserved
loop-preserved c = draws_more _ _ _ _ _ _ c.loop.invariant c.in_default.ensures.step

pub returns-clause-drawn : goal.returns-clause-drawn
returns-clause-drawn c =
    let all : c.args.n ≡ c.loop.counter = omega arith in
    let script : IsRandomScript (seeded c.args.seed) c.args.n (map (λ x. x.0) (reverse c.loop.world.log)) = rw all (is_script _ _ _ _ c.loop.invariant) in
    IfOk-weaker _ _ (λ events. IsRandomScript (seeded c.args.seed) c.args.n events.items) (λ events same. rw same (rw c.into_log.ensures script)) c.events_of.ensures.events

pub returns-clause-fit : goal.returns-clause-fit
returns-clause-fit c =
    let fit : list_all fits (map (λ x. x.0) (reverse c.loop.world.log)) ≡ true = script_fits _ _ _ _ c.loop.invariant in
    let fit' = rw (← c.into_log.ensures) at fit in
    search (rules, fit')
