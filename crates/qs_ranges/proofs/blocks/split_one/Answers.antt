use Rattle.std.proofs.Common.{[], ◌∷◌, arith}
use Rattle.qs_ranges.specs.Blocks.{place}
use Rattle.qs_ranges.proofs.Places.{edited_if_ok}
use Rattle.qs_ranges.proofs.blocks.split_one.Goals as goal

pub returns-clause-ok : goal.returns-clause-ok
returns-clause-ok c =
    let bs = c.args.blocks.now.items in
    let ys = c.make_room.new.blocks.items in
    let found = c.in_ok-roomy.ensures in
    edited_if_ok c.split.result bs ys c.in_ok-roomy.roomy c.in_ok-roomy.spot (place bs c.args.block c.args.at) 1 (c.args.left ∷ c.args.right ∷ []) c.index_mut.result.now c.split.new.self found.same found.place found.block (omega (arith, found.before c.requires.at)) c.index_mut.ensures.value c.split.ensures.ok
