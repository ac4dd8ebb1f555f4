use Rattle.qs_cli.specs.Carrying.{AnswersCarried}
use Rattle.qs_cli.proofs.Answered.{ends_as}
use Rattle.qs_cli.proofs.carrying.udp_events.Goals as goal

pub returns : goal.returns
returns g c =
    ends_as (λ answer. AnswersCarried answer c.args.events.now (g.Wi.Wire.failed c.args.wire.now) (g.Wi.Wire.failed c.report_carried.new.wire)
    (g.W.Write.contents c.args.out.now) (g.W.Write.contents c.report_carried.new.out))
    c.report_carried.result _ (λ none. none) c.status_of.ensures c.report_carried.ensures
