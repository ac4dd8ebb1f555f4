use Rattle.std.proofs.Common.{[], length, refl, sym, ◌∙◌}
use Rattle.qs_conn.proofs.MadePackets.{may_recount}
use Rattle.qs_conn.proofs.Cores.{kept_moved, rest_read}
use Rattle.qs_conn.proofs.Hearing.{read_none}
use Rattle.qs_conn.proofs.endpoint.Endpoint.read.Goals as goal

pub invariant_of-self : goal.invariant_of-self
invariant_of-self c =
    kept_moved _ _ _ _ _ _ c.self.invariant _
    (rest_read c.self.inside.core c.self.invariant.rest c.args.stream _ _ _ c.is_over-was.result c.is_over-is.result c.read-answer.ensures.after c.is_over-was.ensures.value c.is_over-is.ensures.value (c.recount.ensures (may_recount _ _ _ _ _ _ c.self.invariant.rest.core.counts.counted c.is_over-was.ensures.value c.is_over-was.ensures.few)))

pub returns-then-not-may_tell : goal.returns-then-not-may_tell
returns-then-not-may_tell c =
    ([], refl, read_none _ _ c.args.stream (length c.args.into.now) c.settle.new.self c.self.view_is (sym c.no_reader.ensures ∙ c.in_default.is) (c.self.invariant.rest.core.counts.told c.args.stream) (c.if-not-may_tell.ensures refl) c.settle.ensures)
