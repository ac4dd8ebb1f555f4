use Rattle.std.proofs.Common.{refl, arith}
use Rattle.qs_send.proofs.Steps.{offsets_sent}
use Rattle.qs_send.proofs.Runs.{due-sent}
use Rattle.qs_send.proofs.live_offsets.LiveOffsets.sent.Goals as goal

pub invariant_of-self : goal.invariant_of-self
invariant_of-self c =
    let within = rw (← c.self.view_is) at c.requires in
    rw (c.drop_below.ensures, c.max-self-inside.ensures) (offsets_sent _ _ _ _ _ _ within c.self.invariant)

pub returns-clause-parts : goal.returns-clause-parts
returns-clause-parts c = rw (← c.self.view_is, c.drop_below.ensures, c.max-self-inside.ensures, due-sent c.self.inside.noted c.self.inside.acked 0 c.args.end (λ q _ lt. absurd (omega (arith, lt)))) refl
