use Rattle.std.proofs.Common.{is_some, ap, ◌∙◌, subst}
use Rattle.qs_recv.specs.Lane.{RecvLane, take_reset}
use Rattle.qs_machine.specs.Tables.{Tables}
use Rattle.qs_machine.specs.Ends.{End, on_recv}
use Rattle.qs_conn.specs.contracts.endpoint.Endpoint.{the_view}
use Rattle.qs_machine.specs.Standing.{IsInCredit}
use Rattle.qs_conn.proofs.Cores.{fit_broken, kept_moved, rest_recvs, reset_calmer}
use Rattle.qs_conn.proofs.MadePackets.{may_recount}
use Rattle.qs_conn.proofs.Dues.{due_recv}
use Rattle.qs_machine.proofs.Taken.{in_there, reset_in, reset_checked, reset_sound}
use Rattle.qs_conn.proofs.endpoint.Endpoint.on_reset_stream.Goals as goal

pub take_reset-requires-clause-open : goal.take_reset-requires-clause-open
take_reset-requires-clause-open c =
    ap is_some (in_there c.args.self.now _ c.args.stream (reset_in c.args.self.now c.args.stream c.args.code c.args.size c.requires.passed) (c.self-2.view_is ∙ c.in_ok-open_by_peer.ensures.ok))

pub take_reset-requires-clause-passed : goal.take_reset-requires-clause-passed
take_reset-requires-clause-passed c =
    reset_checked c.args.self.now _ c.args.stream c.args.code c.args.size c.requires.passed (c.self-2.view_is ∙ c.in_ok-open_by_peer.ensures.ok)

pub invariant_of-self : goal.invariant_of-self
invariant_of-self c =
    let core = c.self-2.inside.core in
    let h = c.self-2.invariant.rest in
    let sound : IsInCredit c.args.self.now = subst (λ (k : End). IsInCredit k) c.self.view_is c.self.invariant.rest.core.sound in
    kept_moved _ _ _ _ _ _ c.self-2.invariant _
    (rest_recvs core h c.take_reset.new.self c.recount.new.self core.due
    (reset_sound c.args.self.now _ c.args.stream c.args.code c.args.size c.take_reset.new.self sound c.requires.passed (c.self-2.view_is ∙ c.in_ok-open_by_peer.ensures.ok) c.take_reset.ensures)
    (fit_broken _ _ _ _ _ _ _ h.core.counts _ c.args.stream _ _ _ c.is_over-was.result c.is_over-is.result c.take_reset.ensures c.is_over-was.ensures.value c.is_over-is.ensures.value (c.recount.ensures (may_recount _ _ _ _ _ _ h.core.counts.counted c.is_over-was.ensures.value c.is_over-was.ensures.few)))
    (due_recv h.core.due c.take_reset.new.self c.args.stream (λ l. take_reset l c.args.code c.args.size) c.take_reset.ensures (λ l there. reset_calmer l c.args.code c.args.size)))

pub returns-clause-ok : goal.returns-clause-ok
returns-clause-ok c =
    let reset : RecvLane → RecvLane = λ l. take_reset l c.args.code c.args.size in
    let opened = c.self-2.view_is ∙ c.in_ok-open_by_peer.ensures.ok in
    ap (λ (t : Tables RecvLane). record (the_view c.self-2.inside) { recvs = t }) c.take_reset.ensures ∙ ap (on_recv c.args.stream reset) opened
