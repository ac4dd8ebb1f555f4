use Rattle.std.proofs.Common.{◌≡◌, ◌++◌, ◌∷◌, [], length, sym, ap, subst, ◌∙◌, append_assoc, append-nil, arith}
use Rattle.std.specs.List.{list_all}
use Rattle.std.specs.Vec.Iter.{into_iter_items}
use Rattle.qs_calls.specs.Events.{fits}
use Rattle.qs_world.specs.Plays.{HasPlayed}
use Rattle.qs_world.proofs.PlayedRuns.{next_fits, nothing_left, played_more, play_stops}
use Rattle.qs_world.proofs.playing.play_each.Goals as goal

pub happen-requires : goal.happen-requires
happen-requires c =
    let at = c.loop-event in
    let steps : into_iter_items at.event-iterator ≡ c.in-Some.event ∷ into_iter_items c.next.new.self = c.in-Some.ensures.steps.0 in
    let all : at.yielded ++ (c.in-Some.event ∷ into_iter_items c.next.new.self) ≡ c.args.events.items =
    rw (← steps) at.invariant.0 ∙ c.into_iter-event-iterator.ensures.into_iter_gives.0 in
    next_fits at.yielded (into_iter_items c.next.new.self) c.in-Some.event (ap (list_all fits) all ∙ c.requires)

pub returns-in-Err-clause-err : goal.returns-in-Err-clause-err
returns-in-Err-clause-err c =
    let at = c.loop-event in
    let steps : into_iter_items at.event-iterator ≡ c.in-Some.event ∷ into_iter_items c.next.new.self = c.in-Some.ensures.steps.0 in
    let all : at.yielded ++ (c.in-Some.event ∷ into_iter_items c.next.new.self) ≡ c.args.events.items =
    rw (← steps) at.invariant.0 ∙ c.into_iter-event-iterator.ensures.into_iter_gives.0 in
    λ a b first. play_stops a b c.args.events.items at.yielded (into_iter_items c.next.new.self) c.in-Some.event c.in-Err.fault at.world c.happen.new.self
    (sym all) (at.invariant.2 a b first) c.in-Err.ensures.step

pub loop-event-preserved : goal.loop-event-preserved
loop-event-preserved c =
    let at = c.loop-event in
    let x = c.in-Some.event in
    let steps : into_iter_items at.event-iterator ≡ x ∷ into_iter_items c.next.new.self = c.in-Some.ensures.steps.0 in (
      append_assoc at.yielded (x ∷ []) _ ∙ rw (← steps) at.invariant.0,
      let was = at.invariant.1 in
          let gone = c.in-Some.ensures.steps.1 in
          let short = ap length steps in
          omega arith,
      λ a b first. played_more a b at.yielded x at.world c.happen.new.self (at.invariant.2 a b first) c.in_default.ensures.step,
    )

pub returns-clause-ok : goal.returns-clause-ok
returns-clause-ok c =
    let at = c.loop-event in
    let none = c.in-None.ensures.steps in
    let empty : into_iter_items at.event-iterator ≡ [] = nothing_left _ (sym at.invariant.1 ∙ none.0) in
    let all = sym (append-nil at.yielded) ∙ rw empty at at.invariant.0 ∙ c.into_iter-event-iterator.ensures.into_iter_gives.0 in
    λ a b first. subst (λ l. HasPlayed a b l at.world) all (at.invariant.2 a b first)
