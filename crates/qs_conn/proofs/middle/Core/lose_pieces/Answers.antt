use Rattle.std.proofs.Common.{refl, Err, rules, sym, ◌∙◌}
use Rattle.qs_ranges.specs.declared.NoMemory.{NoMemory}
use Rattle.qs_conn.specs.Runs.{Loses}
use Rattle.qs_conn.proofs.Cores.{rest_lost}
use Rattle.qs_conn.proofs.AckRuns.{loses_stop, loses_more}
use Rattle.qs_conn.proofs.middle.Core.lose_pieces.Goals as goal

pub loop-piece-preserved : goal.loop-piece-preserved
loop-piece-preserved c =
    let before = c.loop-piece.invariant in
    let first = sym c.first.ensures ∙ c.in-Some.is in
    record {
      rest = rw c.note_lost.ensures.same (rest_lost c.loop-piece.self before.rest c.args.number c.in-Some.piece c.lose_first.new.self first c.in_ok-lose_first.ensures.ok c.lose_first.ensures.idle c.learn_apart.ensures _ c.note_lost.ensures.marked);
      streams = rw c.note_lost.ensures.same (record { limits = before.streams.limits; recvs = before.streams.recvs });
      ended = rw c.note_lost.ensures.same before.ended;
      onward = rw c.note_lost.ensures.same (λ result new h. before.onward result new (loses_more c.args.number c.loop-piece.self.outbox c.lose_first.new.self new c.in-Some.piece result first c.in_ok-lose_first.ensures.ok h));
    }

pub returns-in_err-lose_first-clause-step : goal.returns-in_err-lose_first-clause-step
returns-in_err-lose_first-clause-step c =
    let h : (e : NoMemory) → Loses c.args.number c.args.self.now.outbox (Err e) c.lose_first.new.self =
    λ e. c.loop-piece.invariant.onward (Err e) c.lose_first.new.self (loses_stop c.args.number c.loop-piece.self.outbox c.lose_first.new.self c.in-Some.piece e (sym c.first.ensures ∙ c.in-Some.is) c.in_err-lose_first.ensures.err) in
    search (rules, h, c.from_residual.ensures)
