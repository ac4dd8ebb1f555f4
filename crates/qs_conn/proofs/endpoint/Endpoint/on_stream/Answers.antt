use Rattle.std.proofs.Common.{ap, sym, ◌∙◌, is_some, subst}
use Rattle.qs_machine.specs.Tables.{lookup}
use Rattle.qs_machine.specs.Ends.{End}
use Rattle.qs_machine.specs.Standing.{IsInCredit}
use Rattle.qs_machine.proofs.Taken.{in_there, stream_in, stream_checked, stream_unchanged, stream_sound}
use Rattle.qs_conn.proofs.Cores.{due_streamed, kept_next, rest_recvs, plain_next, fit_plain}
use Rattle.qs_conn.proofs.endpoint.Endpoint.on_stream.Goals as goal

pub take_stream-requires-clause-open : goal.take_stream-requires-clause-open
take_stream-requires-clause-open c =
    ap is_some (in_there c.args.self.now _ c.args.stream (stream_in c.args.self.now c.args.stream c.args.offset c.args.bytes.now c.args.fin c.requires.passed) (c.self.view_is ∙ sym (c.is_plain.ensures c.if-is_plain.true).stays))

pub take_stream-requires-clause-passed : goal.take_stream-requires-clause-passed
take_stream-requires-clause-passed c =
    stream_checked c.args.self.now _ c.args.stream c.args.offset c.args.bytes.now c.args.fin c.requires.passed (c.self.view_is ∙ sym (c.is_plain.ensures c.if-is_plain.true).stays)

pub take_stream-requires-clause-unchanged : goal.take_stream-requires-clause-unchanged
take_stream-requires-clause-unchanged c =
    stream_unchanged c.args.self.now _ c.args.stream c.args.offset c.args.bytes.now c.args.fin c.requires.passed (c.self.view_is ∙ sym (c.is_plain.ensures c.if-is_plain.true).stays)

pub invariant_of-self : goal.invariant_of-self
invariant_of-self c = rw c.in_err-take_stream.ensures.err c.self.invariant

pub invariant_of-self-then-is_plain : goal.invariant_of-self-then-is_plain
invariant_of-self-then-is_plain c =
    let core = c.self.inside.core in
    let k = c.self.invariant in
    let h = k.rest in
    let plain = c.is_plain.ensures c.if-is_plain.true in
    let opened = c.self.view_is ∙ sym plain.stays in
    let after = c.in_ok-take_stream.ensures.ok in
    let found = in_there c.args.self.now _ c.args.stream (stream_in c.args.self.now c.args.stream c.args.offset c.args.bytes.now c.args.fin c.requires.passed) opened in
    let lane = plain.lane _ (ap (λ (e : End). lookup e.recvs c.args.stream) (sym c.self.view_is) ∙ found) in
    let sound : IsInCredit c.args.self.now = subst (λ (e : End). IsInCredit e) c.self.view_is h.core.sound in
    let checked = stream_checked c.args.self.now _ c.args.stream c.args.offset c.args.bytes.now c.args.fin c.requires.passed opened in
    kept_next _ _ _ _ _ _ k _ _
    (rest_recvs core h c.take_stream.new.self core.ended core.due
    (stream_sound c.args.self.now _ c.args.stream c.args.offset c.args.bytes.now c.args.fin c.take_stream.new.self sound c.requires.passed opened after)
    (fit_plain core.recvs c.take_stream.new.self c.args.stream c.args.offset c.args.bytes.now c.args.fin _ found lane after _ _ _ _ _ _ h.core.counts _ _ h.core.sound checked)
    (due_streamed h.core.due _ _ h.core.sound c.take_stream.new.self c.args.stream c.args.offset c.args.bytes.now c.args.fin checked after))
    (plain_next core.recvs c.take_stream.new.self c.args.stream c.args.offset c.args.bytes.now c.args.fin _ found lane after _ _ _ _ _ _ _ _ k.settled)
