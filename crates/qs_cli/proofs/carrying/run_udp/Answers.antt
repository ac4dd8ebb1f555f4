use Rattle.qs_cli.specs.Carrying.{AnswersUdp}
use Rattle.qs_cli.proofs.Answered.{ends_as}
use Rattle.qs_cli.proofs.carrying.run_udp.Goals as goal

pub returns : goal.returns
returns g c =
    ends_as (λ answer. AnswersUdp answer c.args.script.now (g.Wi.Wire.failed c.args.wire.now) (g.Wi.Wire.failed c.report_udp.new.wire)
    (g.W.Write.contents c.args.out.now) (g.W.Write.contents c.report_udp.new.out))
    c.report_udp.result _ (λ none. none) c.status_of.ensures c.report_udp.ensures
