use Rattle.std.proofs.Common.{◌∙◌, ◌+◌, ◌≤◌, ◌≡◌, ◌++◌, sym, ap, arith, length, take, drop, refl, rules}
use Rattle.std.proofs.lemmas.List.{length-take}
use Rattle.qs_ranges.specs.Numbers.{ContainsRange}
use Rattle.qs_recv.specs.Assembled.{front}
use Rattle.qs_recv.specs.Ring.{byte_of, ring_bytes}
use Rattle.qs_recv.proofs.RingLaws.{take_done, came_next, front_next, nothing_taken}
use Rattle.qs_recv.proofs.RingApart.{byte_near, next_near}
use Rattle.qs_recv.proofs.ring_assembly.RingAssemblyAssembly.take.Goals.{After-copy_out}
use Rattle.qs_recv.proofs.ring_assembly.RingAssemblyAssembly.take.Goals as goal

pub returns-then-self-clause-rest : goal.returns-then-self-clause-rest
returns-then-self-clause-rest c = rw (← c.self.view_is, c.if-self.true) (search (rules, nothing_taken))

-- What is next was copied out

came : (c : After-copy_out) → ContainsRange c.self.inside.received c.self.inside.read_count (c.self.inside.read_count + c.min-count.result)
came c = came_next _ _ c.first_missing-next.result (length c.args.into.now) _ c.first_missing-next.ensures.missing c.min-count.ensures

fronts : (c : After-copy_out) → (let s = c.self.inside in let m = ring_bytes s.received (byte_of s.ring.0 s.near s.apart.pages) s.read_count s.window in
    (front m s.read_count c.min-count.result ≡ c.copy_out.new.into) × (front m s.read_count (length c.args.into.now) ≡ c.copy_out.new.into) × (length c.copy_out.new.into ≡ c.min-count.result))
fronts c =
    let s = c.self.inside in
    let n = c.min-count.result in
    let low = next_near _ _ _ _ _ _ _ ((rw c.if-self.false at c.self.invariant.1).apart refl) (came c) in
    front_next _ _ c.args.into.now c.copy_out.new.into _ _ c.first_missing-next.result n _ (rw c.if-self.false at c.self.invariant.0) c.first_missing-next.ensures.missing c.min-count.ensures c.copy_out.auto.into
    (λ k below. c.copy_out.ensures.out k below ∙ sym (byte_near s.ring.0 s.near s.apart.pages (s.read_count + k) (let len : length (take n c.args.into.now) ≤ n = simp length-take (omega arith) in omega (arith, below, low, len))))

pub returns-clause-count : goal.returns-clause-count
returns-clause-count c =
    let fronts = fronts (goal.at.returns-clause-count c).After-copy_out in
    rw (← c.self.view_is, c.if-self.false) (sym (ap length fronts.1 ∙ fronts.2))

pub returns-clause-bytes : goal.returns-clause-bytes
returns-clause-bytes c =
    let fronts = fronts (goal.at.returns-clause-bytes c).After-copy_out in
    rw (← c.self.view_is, c.if-self.false) (sym (ap (λ xs. xs ++ drop c.min-count.result c.args.into.now) fronts.1))

pub returns-clause-rest : goal.returns-clause-rest
returns-clause-rest c =
    let fronts = fronts (goal.at.returns-clause-rest c).After-copy_out in
    rw (← c.self.view_is, c.if-self.false) ((rw (c.copy_out.ensures.same, c.if-self.false) at c.pass.ensures) ∙ take_done _ c.min-count.result (length c.args.into.now) (ap length fronts.0 ∙ fronts.2) (fronts.1 ∙ sym fronts.0))
