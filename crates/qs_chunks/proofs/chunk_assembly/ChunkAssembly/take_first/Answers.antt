use Rattle.std.proofs.Common.{◌∙◌, ◌≤◌, ◌++◌, ◌+◌, sym, ap, arith, length, drop}
use Rattle.std.proofs.lemmas.List.{length-take}
use Rattle.std.proofs.lemmas.Bool.{iff_false}
use Rattle.qs_recv.specs.Assembled.{Assembled}
use Rattle.qs_chunks.specs.Chunks.{stored_in, first_bytes}
use Rattle.qs_recv.specs.Bytes.{take_exactly}
use Rattle.qs_chunks.proofs.KeptLaws.{keep_all, none_next, first_some, front_taken, keep_taken, kept_taken, taken_small}
use Rattle.qs_recv.proofs.RingLaws.{front_zero, take_nothing}
use Rattle.qs_chunks.proofs.chunk_assembly.ChunkAssembly.take_first.Goals as goal

pub returns-then-not-begins_at-clause-nothing : goal.returns-then-not-begins_at-clause-nothing
returns-then-not-begins_at-clause-nothing c =
    λ _. rw (← c.self.view_is) (none_next c.self.inside.chunks c.self.inside.read_count c.self.invariant.ordered (iff_false c.begins_at.ensures c.if-not-begins_at.true))

pub returns-then-not-begins_at-clause-count : goal.returns-then-not-begins_at-clause-count
returns-then-not-begins_at-clause-count c = ap length (front_zero c.args.self.now.stored c.args.self.now.read_count)

pub returns-then-not-begins_at-clause-bytes : goal.returns-then-not-begins_at-clause-bytes
returns-then-not-begins_at-clause-bytes c = sym (ap (λ xs. xs ++ c.args.into.now) (front_zero c.args.self.now.stored c.args.self.now.read_count))

pub returns-then-not-begins_at-clause-rest : goal.returns-then-not-begins_at-clause-rest
returns-then-not-begins_at-clause-rest c =
    rw (← c.self.view_is) (take_nothing _ (keep_all c.self.inside.chunks c.self.inside.read_count c.self.invariant.ordered))

pub overflow_add-self : goal.overflow_add-self
overflow_add-self c =
    let cs = c.self.inside.chunks in
    let rc = c.self.inside.read_count in
    let k = c.take_front-count.result in
    let next = c.begins_at.ensures.0 c.if-not-begins_at.false in
    let count = c.take_front-count.ensures.count in
    let fits : k ≤ length (first_bytes cs) = omega (arith, count) in
    let some = first_some cs rc next.0 c.self.invariant.ordered in
    let small = taken_small c.self.inside.received cs rc k c.self.inside.stored c.self.inside.discarding c.self.invariant next.0 next.1 (omega (arith, count, some)) fits in
    omega (arith, small)

pub invariant_of-self : goal.invariant_of-self
invariant_of-self c =
    let cs = c.self.inside.chunks in
    let rc = c.self.inside.read_count in
    let k = c.take_front-count.result in
    let next = c.begins_at.ensures.0 c.if-not-begins_at.false in
    let count = c.take_front-count.ensures.count in
    let fits : k ≤ length (first_bytes cs) = omega (arith, count) in
    rw c.take_front-count.ensures.rest (kept_taken c.self.inside.received cs rc k c.self.inside.stored c.self.inside.discarding c.self.invariant next.0 next.1 fits)

pub returns-clause-count : goal.returns-clause-count
returns-clause-count c =
    let cs = c.self.inside.chunks in
    let rc = c.self.inside.read_count in
    let k = c.take_front-count.result in
    let next = c.begins_at.ensures.0 c.if-not-begins_at.false in
    let count = c.take_front-count.ensures.count in
    let fits : k ≤ length (first_bytes cs) = omega (arith, count) in
    rw (← c.self.view_is) (ap length (front_taken cs rc k next.0 next.1 fits) ∙ simp length-take (omega (arith, fits)))

pub returns-clause-bytes : goal.returns-clause-bytes
returns-clause-bytes c =
    let cs = c.self.inside.chunks in
    let rc = c.self.inside.read_count in
    let k = c.take_front-count.result in
    let next = c.begins_at.ensures.0 c.if-not-begins_at.false in
    let count = c.take_front-count.ensures.count in
    let fits : k ≤ length (first_bytes cs) = omega (arith, count) in
    rw (← c.self.view_is) (c.take_front-count.ensures.bytes ∙ ap (λ xs. xs ++ drop k c.args.into.now) (sym (front_taken cs rc k next.0 next.1 fits)))

pub returns-clause-rest : goal.returns-clause-rest
returns-clause-rest c =
    let cs = c.self.inside.chunks in
    let rc = c.self.inside.read_count in
    let k = c.take_front-count.result in
    let next = c.begins_at.ensures.0 c.if-not-begins_at.false in
    let count = c.take_front-count.ensures.count in
    let fits : k ≤ length (first_bytes cs) = omega (arith, count) in
    let before : Assembled = record { stored = stored_in cs; received = c.self.inside.received; read_count = rc; widest = c.self.inside.window; discarding = c.self.inside.discarding } in
    ap (λ m. record before { stored = m; read_count = rc + k }) (ap stored_in c.take_front-count.ensures.rest ∙ sym (keep_taken cs rc k c.self.invariant.ordered next.0 next.1 fits))
    ∙ ap (λ a. take_exactly a k) c.self.view_is
