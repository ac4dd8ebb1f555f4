use Rattle.std.proofs.Common.{arith}
use Rattle.std.specs.Cmp.{unsigned_Decides}
use Rattle.std.proofs.lemmas.Slice.Eq.{slice_eq-Decides}
use Rattle.qs_recv.proofs.RingTurned.{is_part}
use Rattle.qs_recv.proofs.ring.is_at.Goals as goal

pub returns-then-end-kept : goal.returns-then-end-kept
returns-then-end-kept c =
    is_part c.args.place _ c.args.kept.now c.args.bytes.now c.eq.result (omega (arith, c.if-end-kept.true)) (omega arith) (slice_eq-Decides unsigned_Decides _ _ c.eq.result c.eq.ensures)
