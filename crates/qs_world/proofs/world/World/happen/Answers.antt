use Rattle.std.proofs.Common.{◌∷◌, sym, ap, ◌∙◌, subst}
use Rattle.qs_runs.specs.Events.{EventStep}
use Rattle.qs_world.specs.Plays.{HasAgreed}
use Rattle.qs_world.proofs.OneMore.{agreed_by}
use Rattle.qs_world.proofs.world.World.happen.Goals as goal

pub happen-answer-requires-clause-agreed : goal.happen-answer-requires-clause-agreed
happen-answer-requires-clause-agreed c = subst (λ h. HasAgreed (record { log = h; ends = record { a = c.self.inside.a; b = c.self.inside.b } })) (sym c.make_room.ensures.same) c.self.invariant

pub invariant_of-self-2 : goal.invariant_of-self-2
invariant_of-self-2 c =
    agreed_by c.self.inside.log.history c.make_room.new.self.history c.push.new.self.history
    (record { a = c.self.inside.a; b = c.self.inside.b })
    (record { a = c.happen-answer.new.a; b = c.happen-answer.new.b })
    c.args.event c.happen-answer.result c.self.invariant c.make_room.ensures.same c.push.ensures c.happen-answer.ensures

pub returns-clause-agrees : goal.returns-clause-agrees
returns-clause-agrees c =
    agreed_by c.self.inside.log.history c.make_room.new.self.history c.push.new.self.history
    (record { a = c.self.inside.a; b = c.self.inside.b })
    (record { a = c.happen-answer.new.a; b = c.happen-answer.new.b })
    c.args.event c.happen-answer.result c.self.invariant c.make_room.ensures.same c.push.ensures c.happen-answer.ensures

pub returns-clause-step : goal.returns-clause-step
returns-clause-step c =
    let answer = c.happen-answer.result in
    rw (← c.self.view_is) (
      answer,
      c.push.ensures ∙ ap (λ h. (c.args.event, answer) ∷ h) c.make_room.ensures.same,
      subst (λ h. EventStep h (record { a = c.self.inside.a; b = c.self.inside.b }) c.args.event answer (record { a = c.happen-answer.new.a; b = c.happen-answer.new.b })) c.make_room.ensures.same c.happen-answer.ensures,
    )
