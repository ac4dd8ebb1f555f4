use Rattle.qs_chunks.proofs.PutLaws.{on_ok, placed_plain}
use Rattle.qs_chunks.proofs.chunk_assembly.place.Goals as goal

pub returns-then-spot-clause-ok : goal.returns-then-spot-clause-ok
returns-then-spot-clause-ok c =
    on_ok c.add.result
    (placed_plain c.args.chunks.now c.add.new.chunks c.args.spot.joins c.args.spot.first c.args.spot.after c.args.spot.from c.args.bytes.now c.if-spot.true)
    c.add.ensures.ok
