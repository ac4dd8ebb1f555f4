use Rattle.std.proofs.Common.{◌<◌, sym, ◌∙◌, subst}
use Rattle.qs_conn.specs.Filling.{end_by}
use Rattle.qs_conn.proofs.Untolds.{max_stream_data_there}
use Rattle.qs_conn.proofs.limits.Limits.max_stream_data.Goals as goal

pub returns-in-Some-clause-current : goal.returns-in-Some-clause-current
returns-in-Some-clause-current c =
    λ o e. max_stream_data_there (end_by c.args.self.now c.args.recvs.now o e) c.args.stream c.in-Some.maximum (sym c.limit_to_tell.ensures.value ∙ c.in-Some.is) (subst (λ w. w < c.in-Some.maximum) c.window.ensures c.if-window-maximum.true)
