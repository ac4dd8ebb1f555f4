use Rattle.qs_ranges.specs.Blocks.{place}
use Rattle.qs_ranges.proofs.Places.{inserted_if_ok}
use Rattle.qs_ranges.proofs.blocks.insert_at.Goals as goal

pub returns-clause-ok : goal.returns-clause-ok
returns-clause-ok c =
    let bs = c.args.blocks.now.items in
    let found = c.in_ok-roomy.ensures in
    inserted_if_ok c.insert.result bs c.make_room.new.blocks.items c.in_ok-roomy.roomy c.in_ok-roomy.spot (place bs c.args.block c.args.at) c.args.run c.index_mut.result.now c.insert.new.self found.same found.place found.block found.at c.index_mut.ensures.value c.insert.ensures.ok
