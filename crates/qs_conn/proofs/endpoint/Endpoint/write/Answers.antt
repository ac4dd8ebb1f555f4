use Rattle.std.proofs.Common.{◌≡◌, ℕ, List, length, take, sym, ◌∙◌, arith}
use Rattle.std.proofs.lemmas.Bool.Decides.{nat_tests}
use Rattle.std.proofs.lemmas.List.{length-take}
use Rattle.qs_machine.specs.Sums.{or_none}
use Rattle.qs_machine.specs.Tables.{lookup}
use Rattle.qs_send.specs.Lane.{SendLane, accepted}
use Rattle.qs_conn.proofs.Cores.{kept_outbox, rest_written}
use Rattle.qs_conn.proofs.Hearing.{write_short}
use Rattle.qs_conn.proofs.endpoint.Endpoint.write.Goals as goal

written_len : (l : SendLane) (bytes : List ℕ) (n : ℕ) → n ≡ accepted l (length bytes) → length (take n bytes) ≡ n
written_len l bytes n is = grind (arith, nat_tests, length-take)

pub invariant_of-self : goal.invariant_of-self
invariant_of-self c =
    let core = c.self.inside.core in
    rw c.note_written.ensures.same
    (kept_outbox core _ _ _ _ _ c.self.invariant _ _ (rest_written core c.self.invariant.rest c.args.stream c.in-Ok.count _ _ _ c.in-Ok.ensures.accepted.0 c.in-Ok.ensures.accepted.2 (written_len (or_none (lookup core.outbox.sends c.args.stream)) c.offered-bytes.result.now c.in-Ok.count c.in-Ok.ensures.accepted.1) c.note_written.ensures.noted))

pub returns-in-Err : goal.returns-in-Err
returns-in-Err c =
    rw (c.in-Err.ensures.refused.0, c.use_fault.ensures)
    (write_short _ c.args.self.now c.args.stream c.args.bytes.now c.offered-bytes.result.now c.in-Err.fault c.self.view_is c.offered-bytes.ensures (sym c.no_sender.ensures ∙ c.in_default.is) c.in-Err.ensures.refused.1 c.in-Err.ensures.grows)
