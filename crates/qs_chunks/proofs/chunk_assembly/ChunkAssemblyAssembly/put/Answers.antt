use Rattle.std.proofs.Common.{◌∙◌, ◌+◌, ap, arith, length, max, inr}
use Rattle.qs_recv.specs.Assembled.{Assembled, put}
use Rattle.qs_chunks.specs.Chunks.{IsStored, stored_in}
use Rattle.qs_chunks.proofs.KeptLaws.{IsOrdered-lower, kept_either, stored_small}
use Rattle.qs_chunks.proofs.PutLaws.{kept_placed, placed_stored, stored_same, between_total}
use Rattle.qs_recv.proofs.RingLaws.{put_is}
use Rattle.qs_chunks.proofs.NewsLaws.{same_received, spot_news}
use Rattle.qs_recv.proofs.RestLaws.{on_err, refused_news}
use Rattle.qs_chunks.proofs.chunk_assembly.ChunkAssemblyAssembly.put.Goals as goal

pub invariant_of-self : goal.invariant_of-self
invariant_of-self c =
    rw c.if-self.true
    (kept_either c.note.result c.self.inside.received c.note.new.received c.args.offset (length c.args.bytes.now) c.self.inside.read_count c.self.inside.chunks c.self.inside.stored
    c.note.ensures.ok c.note.ensures.err (rw c.if-self.true at c.self.invariant))

pub find_spot-requires : goal.find_spot-requires
find_spot-requires c = IsOrdered-lower c.self.inside.chunks c.self.inside.read_count 0 (omega arith) c.self.invariant.ordered

pub returns-then-self-clause-news : goal.returns-then-self-clause-news
returns-then-self-clause-news c =
    rw (← c.self.view_is) (refused_news c.note.result c.self.inside.received c.args.offset (c.args.offset + length c.args.bytes.now) c.note.ensures.some c.note.ensures.apart)

pub returns-in_default-clause-ok : goal.returns-in_default-clause-ok
returns-in_default-clause-ok c =
    let cs = c.self.inside.chunks in
    let before : Assembled = record { stored = stored_in cs; received = c.self.inside.received; read_count = c.self.inside.read_count; widest = c.self.inside.window; discarding = c.self.inside.discarding } in
    let kept = rw c.if-self.false at c.self.invariant in
    let all : IsStored cs (max c.args.offset c.self.inside.read_count) (c.args.offset + length c.args.bytes.now) = λ q low high. c.in_default.ensures.none q (omega (arith, c.max-start.ensures)) high in
    let same = stored_same c.self.inside.received cs c.self.inside.read_count c.self.inside.stored c.args.offset c.args.bytes.now kept all in
    let noted = same_received c.self.inside.received cs c.self.inside.read_count c.self.inside.stored c.args.offset (length c.args.bytes.now) kept all in
    rw (← c.self.view_is) (put_is before c.args.offset c.args.bytes.now (stored_in cs) c.self.inside.received c.if-self.false same noted)

pub returns-in_err-place-clause-news : goal.returns-in_err-place-clause-news
returns-in_err-place-clause-news c =
    let spot = c.in-Some.spot in
    let some = c.in-Some.ensures.some in
    let held = c.in-Some.ensures.held in
    rw (← c.self.view_is)
    (on_err c.from_residual.result
    (spot_news c.self.inside.received c.self.inside.chunks c.self.inside.read_count c.self.inside.stored c.args.offset (c.args.offset + length c.args.bytes.now) spot.first spot.after spot.from spot.to
    (rw c.if-self.false at c.self.invariant) (rw c.max-start.ensures at c.in-Some.ensures.found) (omega (arith, some, held))))

pub overflow_sub-self : goal.overflow_sub-self
overflow_sub-self c =
    let between = between_total c.self.inside.chunks c.in-Some.spot.first c.in-Some.spot.after c.in-Some.ensures.found.ordered in
    omega (arith, between, c.in-Some.ensures.held, c.self.invariant.counted)

pub overflow_add-self : goal.overflow_add-self
overflow_add-self c =
    let small = stored_small c.self.inside.received c.self.inside.chunks c.self.inside.read_count c.self.inside.stored c.self.inside.discarding c.self.invariant in
    omega (arith, small, c.in-Some.ensures.found.ends, c.requires.in_range)

pub invariant_of-self-2 : goal.invariant_of-self-2
invariant_of-self-2 c =
    let spot = c.in-Some.spot in
    rw (c.in_ok-place.ensures.noted, c.if-self.false)
    (kept_placed c.self.inside.received c.self.inside.chunks c.place.new.chunks spot.joins c.self.inside.read_count c.self.inside.stored spot.held spot.first spot.after spot.from spot.to
    c.args.offset c.args.bytes.now (rw c.if-self.false at c.self.invariant) c.requires.in_range (rw c.max-start.ensures at c.in-Some.ensures.found) c.in-Some.ensures.held c.in-Some.ensures.joins
    c.in_ok-place.ensures.ok)

pub returns-clause-ok : goal.returns-clause-ok
returns-clause-ok c =
    let spot = c.in-Some.spot in
    let cs = c.self.inside.chunks in
    let before : Assembled = record { stored = stored_in cs; received = c.self.inside.received; read_count = c.self.inside.read_count; widest = c.self.inside.window; discarding = c.self.inside.discarding } in
    let stored = placed_stored c.self.inside.received cs c.place.new.chunks spot.joins c.self.inside.read_count c.self.inside.stored spot.first spot.after spot.from spot.to
    c.args.offset c.args.bytes.now (rw c.if-self.false at c.self.invariant) (rw c.max-start.ensures at c.in-Some.ensures.found) c.in-Some.ensures.joins c.in_ok-place.ensures.ok in
    put_is before c.args.offset c.args.bytes.now (stored_in c.place.new.chunks) c.place.new.received c.if-self.false stored c.in_ok-place.ensures.noted ∙ ap (λ a. put a c.args.offset c.args.bytes.now) c.self.view_is

pub returns-clause-still : goal.returns-clause-still
returns-clause-still c =
    let spot = c.in-Some.spot in
    let some = c.in-Some.ensures.some in
    let held = c.in-Some.ensures.held in
    rw (← c.self.view_is)
    (inr (
      c.if-self.false,
      spot_news c.self.inside.received c.self.inside.chunks c.self.inside.read_count c.self.inside.stored c.args.offset (c.args.offset + length c.args.bytes.now) spot.first spot.after spot.from spot.to
          (rw c.if-self.false at c.self.invariant) (rw c.max-start.ensures at c.in-Some.ensures.found) (omega (arith, some, held)),
    ))
