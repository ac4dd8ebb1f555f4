use Rattle.std.proofs.Common.{◌∙◌, ◌≡◌, sym, ap, length, rules}
use Rattle.qs_recv.proofs.RingLaws.{take_done, nothing_taken}
use Rattle.qs_recv.specs.Assembled.{front}
use Rattle.qs_recv.specs.Ring.{byte_of, ring_bytes}
use Rattle.qs_recv.proofs.RingApart.{front_skipped, ring_part}
use Rattle.qs_recv.proofs.ring_assembly.RingAssemblySkipping.skip.Goals.{After-pass}
use Rattle.qs_recv.proofs.ring_assembly.RingAssemblySkipping.skip.Goals as goal

pub returns-then-self-clause-rest : goal.returns-then-self-clause-rest
returns-then-self-clause-rest c = rw (← c.self.view_is, c.if-self.true) (search (rules, nothing_taken))

fronts : (c : After-pass) → (let s = c.self.inside in let f = byte_of s.ring.0 s.near s.apart.pages in let m = ring_bytes s.received f s.read_count s.window in
    (front m s.read_count c.min-count.result ≡ ring_part f s.read_count c.min-count.result) × (front m s.read_count c.args.most ≡ ring_part f s.read_count c.min-count.result) × (length (ring_part f s.read_count c.min-count.result) ≡ c.min-count.result))
fronts c = front_skipped _ _ _ _ c.first_missing-next.result c.args.most c.min-count.result _ (rw c.if-self.false at c.self.invariant.0) c.first_missing-next.ensures.missing c.min-count.ensures

pub returns-clause-count : goal.returns-clause-count
returns-clause-count c =
    let fronts = fronts (goal.at.returns-clause-count c).After-pass in
    rw (← c.self.view_is, c.if-self.false) (sym (ap length fronts.1 ∙ fronts.2))

pub returns-clause-rest : goal.returns-clause-rest
returns-clause-rest c = rw (← c.self.view_is, c.if-self.false) (search (rules, fronts, take_done, c.if-self.false, c.pass.ensures))
