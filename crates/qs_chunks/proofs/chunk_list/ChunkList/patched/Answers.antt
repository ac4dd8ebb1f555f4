use Rattle.std.proofs.Common.{◌≡◌, ◌+◌, ◌∙◌, cond, sym, ap, arith, length}
use Rattle.std.specs.FinMap as map
use Rattle.qs_recv.specs.Bytes.{byte_at}
use Rattle.qs_chunks.specs.Chunks.{between, or_else, piece_at, stored_in}
use Rattle.qs_chunks.proofs.ChunkLaws.{is_in, byte_of}
use Rattle.qs_chunks.proofs.SpotLaws.{first_within, rest_ordered, rest_within, between_first, patch_one, nothing_over, vec_written}
use Rattle.qs_chunks.proofs.chunk_list.ChunkList.patched.Goals as goal

pub patch-requires-clause-begins : goal.patch-requires-clause-begins
patch-requires-clause-begins c =
    let inv = c.loop-place.invariant in
    let within = first_within c.args.self.now c.args.spot.from c.loop-place.place c.args.spot.after (c.args.spot.from + length c.args.bytes.now) c.loop-place-test.true c.requires.in_bounds.1 inv.inner inv.inner_ends in
    rw c.chunk.ensures within.0

pub patch-requires-clause-ends : goal.patch-requires-clause-ends
patch-requires-clause-ends c =
    let inv = c.loop-place.invariant in
    let within = first_within c.args.self.now c.args.spot.from c.loop-place.place c.args.spot.after (c.args.spot.from + length c.args.bytes.now) c.loop-place-test.true c.requires.in_bounds.1 inv.inner inv.inner_ends in
    rw (c.chunk.ensures, c.deref_mut.ensures.value, inv.same_len) within.1

pub loop-place-preserved : goal.loop-place-preserved
loop-place-preserved c =
    let cs = c.args.self.now in
    let from = c.args.spot.from in
    let place = c.loop-place.place in
    let after = c.args.spot.after in
    let inv = c.loop-place.invariant in
    let xs = c.loop-place.new.items in
    let ys = c.patch.new.bytes in
    let p = piece_at cs place in
    let same = c.patch.ensures.same_len ∙ ap length c.deref_mut.ensures.value in
    let written = vec_written c.loop-place.new.len xs ys c.loop-place.new.ok.0 same in
    let rest = rest_within cs from place after (from + length c.args.bytes.now) c.loop-place-test.true c.requires.in_bounds.1 inv.inner inv.inner_ends in
    rw written record {
      low = omega (arith, inv.low);
      high = omega (arith, c.loop-place-test.true);
      same_len = same ∙ inv.same_len;
      inner = rest.0;
      inner_ends = rest.1;
      joined = λ q.
          patch_one p (between cs (place + 1) after) q (byte_at from ys q) (byte_at from xs q) (rest_ordered cs from place after c.loop-place-test.true c.requires.in_bounds.1 inv.inner)
          (c.patch.ensures.patched q
          ∙ ap (λ p'. cond (is_in q p') (byte_of p' q) (byte_at from c.deref_mut.result.now q)) c.chunk.ensures
          ∙ ap (λ zs. cond (is_in q p) (byte_of p q) (byte_at from zs q)) c.deref_mut.ensures.value)
          ∙ ap (λ ps. or_else (map.get (stored_in ps) q) (byte_at from xs q)) (sym (between_first cs place after c.loop-place-test.true c.requires.in_bounds.1))
          ∙ inv.joined q;
    }

pub returns-clause-patched : goal.returns-clause-patched
returns-clause-patched c =
    let inv = c.loop-place.invariant in
    let e : c.args.spot.after ≡ c.loop-place.place = omega (arith, inv.high) in
    λ q.
    sym (nothing_over c.args.self.now c.args.spot.after q (byte_at c.args.spot.from c.loop-place.new.items q))
    ∙ ap (λ k. or_else (map.get (stored_in (between c.args.self.now k c.args.spot.after)) q) (byte_at c.args.spot.from c.loop-place.new.items q)) e
    ∙ inv.joined q
