use Rattle.std.proofs.Common.{refl, subst, ◌≡◌, ◌<◌, ◌⊎◌, arith, ◌≤◌, ℕ}
use Rattle.qs_ranges.specs.Numbers.{MAX_VARINT}
use Rattle.qs_send.specs.Lane.{Sending, after_sent}
use Rattle.qs_conn.specs.Tasks.{IsQuiet}
use Rattle.qs_conn.specs.declared.send_marks.Task.TheVariants as tasks
use Rattle.qs_machine.specs.Sums.{tables_of}
use Rattle.qs_conn.proofs.Outboxes.{known}
use Rattle.qs_conn.proofs.Flows.{same_sending, open_half, due_half, sum_now, made_chunk_sum as chunk_sum, box_chunk, chunk_value}
use Rattle.qs_machine.proofs.LostSent.{sent_put}
use Rattle.qs_conn.proofs.outbox.Outbox.put_chunk.Goals as goal

pub send-sent-requires-clause-due : goal.send-sent-requires-clause-due
send-sent-requires-clause-due c = due_half c.args.self.now c.args.stream _ c.args.chunk c.requires.due (known _ c.args.self.now (tables_of c.self.inside.types) c.args.stream c.self.view_is refl (open_half c.args.self.now c.args.stream c.args.chunk c.requires.due) c.learn_lawful.ensures (c.self.invariant.0.tied.lanes c.args.stream)).has

pub invariant_of-self : goal.invariant_of-self
invariant_of-self c =
    let types = tables_of c.self.inside.types in
    let room = c.hold.ensures.room in
    let was = c.self.invariant.0.room in
    let is = c.send-sent.ensures.after in
    let half = known _ c.args.self.now (tables_of c.self.inside.types) c.args.stream c.self.view_is refl (open_half c.args.self.now c.args.stream c.args.chunk c.requires.due) c.learn_lawful.ensures (c.self.invariant.0.tied.lanes c.args.stream) in (
      box_chunk _ _ _ _ _ _ _ _ _ _ _ c.args.stream c.send-sent.result.moved _ c.args.chunk c.self.invariant.0 half.at half.law (due_half c.args.self.now c.args.stream _ c.args.chunk c.requires.due half.has)
          is c.hold.ensures.items (rw (← c.self.view_is) at c.requires.spare) (omega (arith, room, was))
          (subst (λ (n : ℕ). n ≤ MAX_VARINT) (sum_now _ c.args.self.now types _ c.args.stream c.args.chunk c.self.view_is refl is) c.requires.small)
          (chunk_sum types _ c.args.stream _ c.send-sent.result.moved _ c.args.chunk half.at is c.self.invariant.0.sum c.send-sent.ensures.moved),
      sent_put types _ _ c.self.invariant.1 c.args.stream c.args.chunk is,
      c.send-sent.ensures.len,
    )

pub returns-clause-put : goal.returns-clause-put
returns-clause-put c =
    chunk_value _ c.args.self.now (tables_of c.self.inside.types) _ c.self.inside.records.pieces c.self.inside.pending.items c.hold.new.pending.items c.args.stream _ c.args.chunk c.self.view_is refl refl c.self.invariant.0.below refl c.send-sent.ensures.after c.hold.ensures.items

pub returns-clause-done : goal.returns-clause-done
returns-clause-done c = λ done s has.
    let half = known _ c.args.self.now (tables_of c.self.inside.types) c.args.stream c.self.view_is refl (open_half c.args.self.now c.args.stream c.args.chunk c.requires.due) c.learn_lawful.ensures (c.self.invariant.0.tied.lanes c.args.stream) in
    subst (λ x. IsQuiet tasks.Bytes (after_sent x c.args.chunk)) (same_sending c.args.self.now c.args.stream _ s half.has has) (c.send-sent.ensures.done done)

pub returns-clause-free : goal.returns-clause-free
returns-clause-free c = λ free s has.
    let half = known _ c.args.self.now (tables_of c.self.inside.types) c.args.stream c.self.view_is refl (open_half c.args.self.now c.args.stream c.args.chunk c.requires.due) c.learn_lawful.ensures (c.self.invariant.0.tied.lanes c.args.stream) in
    subst (λ (x : Sending). (x.lane.written ≤ x.lane.limit) ⊎ ((after_sent x c.args.chunk).lane.sent_end ≡ x.lane.sent_end)) (same_sending c.args.self.now c.args.stream _ s half.has has) (c.send-sent.ensures.free free)

pub returns-clause-held : goal.returns-clause-held
returns-clause-held c = λ off s has.
    let half = known _ c.args.self.now (tables_of c.self.inside.types) c.args.stream c.self.view_is refl (open_half c.args.self.now c.args.stream c.args.chunk c.requires.due) c.learn_lawful.ensures (c.self.invariant.0.tied.lanes c.args.stream) in
    subst (λ (x : Sending). x.lane.sent_end < x.lane.limit) (same_sending c.args.self.now c.args.stream _ s half.has has) (c.send-sent.ensures.held off)
