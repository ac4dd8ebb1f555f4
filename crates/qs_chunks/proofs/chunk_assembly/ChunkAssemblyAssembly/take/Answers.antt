use Rattle.std.proofs.Common.{◌≡◌, ◌∙◌, ◌≤◌, ◌++◌, ◌+◌, sym, ap, arith, refl, length, drop}
use Rattle.qs_recv.specs.Assembled.{front, front_of}
use Rattle.qs_recv.specs.Bytes.{take_exactly}
use Rattle.qs_chunks.proofs.KeptLaws.{keep_all}
use Rattle.qs_chunks.proofs.ReadLaws.{front_joined, full_after, taken_after, front_done, none_written, part_len, whole_len}
use Rattle.qs_recv.proofs.RingLaws.{front_zero, rest_written, take_done, take_nothing}
use Rattle.qs_chunks.proofs.chunk_assembly.ChunkAssemblyAssembly.take.Goals as goal

pub loop-done-init : goal.loop-done-init
loop-done-init c =
    record {
      within = omega arith;
      same_len = refl;
      full = ap length (front_zero c.args.self.now.stored c.args.self.now.read_count);
      out = sym (ap (λ xs. xs ++ c.args.into.now) (front_zero c.args.self.now.stored c.args.self.now.read_count));
      state = rw (← c.self.view_is) (take_nothing _ (keep_all c.self.inside.chunks c.self.inside.read_count c.self.invariant.ordered));
    }

pub loop-done-preserved : goal.loop-done-preserved
loop-done-preserved c =
    let a = c.args.self.now in
    let b = c.loop-done.self in
    let d = c.loop-done.done in
    let k = c.take_first-count.result in
    let inv = c.loop-done.invariant in
    let written = rest_written c.args.into.now c.loop-done.into (front_of a d) (front b.stored b.read_count k) c.take_first-count.new.into d k inv.out inv.full inv.within c.take_first-count.ensures.bytes in
    let full = full_after a b d k inv.full inv.state c.take_first-count.ensures.count in
    let part = part_len c.loop-done.into d inv.within in
    let within_part = c.take_first-count.ensures.within in
    let low = inv.within in
    let same = inv.same_len in
    let fits : d + k ≤ length c.args.into.now = omega (arith, part, within_part, low, same) in
    let out = written ∙ ap (λ xs. xs ++ drop (d + k) c.args.into.now) (sym (front_joined a b d k inv.full inv.state)) in
    let len = ap length out ∙ whole_len (front_of a (d + k)) c.args.into.now (d + k) full fits in
    record {
      within = omega (arith, len, fits);
      same_len = len;
      full = full;
      out = out;
      state = c.take_first-count.ensures.rest ∙ taken_after a b d k inv.state;
    }

pub returns-then-count-eq0-clause-count : goal.returns-then-count-eq0-clause-count
returns-then-count-eq0-clause-count c =
    let a = c.args.self.now in
    let b = c.loop-done.self in
    let d = c.loop-done.done in
    let inv = c.loop-done.invariant in
    let low = inv.within in
    let same = inv.same_len in
    let done = front_done a b d (length c.args.into.now) (omega (arith, low, same)) inv.full inv.state (c.take_first-count.ensures.nothing c.if-count-eq0.true) in
    sym (ap length done ∙ inv.full)

pub returns-then-count-eq0-clause-bytes : goal.returns-then-count-eq0-clause-bytes
returns-then-count-eq0-clause-bytes c =
    let a = c.args.self.now in
    let b = c.loop-done.self in
    let d = c.loop-done.done in
    let k = c.take_first-count.result in
    let inv = c.loop-done.invariant in
    let low = inv.within in
    let same = inv.same_len in
    let done = front_done a b d (length c.args.into.now) (omega (arith, low, same)) inv.full inv.state (c.take_first-count.ensures.nothing c.if-count-eq0.true) in
    rest_written c.args.into.now c.loop-done.into (front_of a d) (front b.stored b.read_count k) c.take_first-count.new.into d k inv.out inv.full inv.within c.take_first-count.ensures.bytes
    ∙ none_written (front_of a d) c.args.into.now b.stored b.read_count d k c.if-count-eq0.true
    ∙ ap (λ xs. xs ++ drop d c.args.into.now) (sym done)

pub returns-then-count-eq0-clause-rest : goal.returns-then-count-eq0-clause-rest
returns-then-count-eq0-clause-rest c =
    let a = c.args.self.now in
    let b = c.loop-done.self in
    let d = c.loop-done.done in
    let k = c.take_first-count.result in
    let inv = c.loop-done.invariant in
    let low = inv.within in
    let same = inv.same_len in
    let done = front_done a b d (length c.args.into.now) (omega (arith, low, same)) inv.full inv.state (c.take_first-count.ensures.nothing c.if-count-eq0.true) in
    let e : d + k ≡ d = omega (arith, c.if-count-eq0.true) in
    c.take_first-count.ensures.rest ∙ taken_after a b d k inv.state ∙ ap (take_exactly a) e ∙ take_done a d (length c.args.into.now) inv.full done
