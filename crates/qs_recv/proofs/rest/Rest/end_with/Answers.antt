use Rattle.std.proofs.Common.{arith, inl, inr}
use Rattle.qs_recv.proofs.RestLaws.{ends_known, ends_more, ends_passed, known_below}
use Rattle.qs_recv.proofs.rest.Rest.end_with.Goals.{then-self-via-then-self, then-self-via-else-self+then-end-offset, then-self-via-else-self+else-end-offset+then-end-self}
use Rattle.qs_recv.proofs.rest.Rest.end_with.Goals as goal

pub returns-then-self-clause-ends : goal.returns-then-self-clause-ends
returns-then-self-clause-ends c =
    rw (← c.self.view_is) (elim c.then-self.branch [
      | then-self-via-then-self w ↦ rw w.if-self.true (ends_passed _ _ _ _ _ _ _ _ _ _)
      | then-self-via-else-self+then-end-offset w ↦ ends_known _ _ _ _ c.args.offset _ _ _ _ c.args.bytes.now (known_below _ _ _ (inl w.if-end-offset.true)) c.self.invariant
      | then-self-via-else-self+else-end-offset+then-end-self w ↦ ends_known _ _ _ _ c.args.offset _ _ _ _ c.args.bytes.now (known_below _ _ _ (inr w.if-end-self.true)) c.self.invariant
    ])

pub returns-then-offset-self-clause-ends : goal.returns-then-offset-self-clause-ends
returns-then-offset-self-clause-ends c =
    rw (← c.self.view_is, c.if-self.false, c.if-self-2.true) (ends_more _ _ _ _ c.args.offset _ _ _ c.args.bytes.now (omega (arith, c.if-offset-self.true)) (omega (arith, c.if-end-self.false)))
