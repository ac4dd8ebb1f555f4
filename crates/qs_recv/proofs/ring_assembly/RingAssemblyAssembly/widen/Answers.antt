use Rattle.std.specs.Prelude.{max}
use Rattle.std.proofs.Common.{ap, arith}
use Rattle.qs_recv.specs.Assembled.{Assembled}
use Rattle.qs_recv.specs.Ring.{byte_of}
use Rattle.qs_recv.proofs.RingLaws.{view_wider, widened_ring}
use Rattle.qs_recv.proofs.ring_assembly.RingAssemblyAssembly.widen.Goals as goal

pub invariant_of-self : goal.invariant_of-self
invariant_of-self c =
    let s = c.self.inside in
    let f = byte_of s.ring.0 s.near s.apart.pages in
    let sized = c.self.invariant.1 in
    let small = c.self.invariant.0.small_window in
    let fits = c.requires in
    rw c.max-self-inside.ensures (
      widened_ring s.received f s.window (max s.window c.args.window) s.read_count s.stored s.discarding (omega arith) (omega (arith, small, fits)) c.self.invariant.0,
      record { within = omega (arith, sized.within); bound = sized.bound; whole = sized.whole; none = sized.none; apart = sized.apart },
      c.self.invariant.2,
    )

pub returns-clause-after : goal.returns-clause-after
returns-clause-after c =
    let s = c.self.inside in
    let v = max s.window c.args.window in
    rw (← c.self.view_is, c.max-self-inside.ensures)
    (ap (λ m. (let a : Assembled = record { stored = m; received = s.received; read_count = s.read_count; widest = v; discarding = s.discarding } in a))
    (view_wider s.received (byte_of s.ring.0 s.near s.apart.pages) s.window v s.read_count s.stored s.discarding (omega arith) c.self.invariant.0))
