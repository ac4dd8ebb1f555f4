use Rattle.std.proofs.Common.{◌≡◌, ◌-◌, arith, length, take, drop, length-drop}
use Rattle.std.proofs.lemmas.List.{take_all}
use Rattle.qs_chunks.proofs.chunk.Chunk.agrees.Goals as goal

pub returns : goal.returns
returns c =
    let start = c.self.inside.start in
    let xs = c.self.inside.bytes.items in
    let rest : take (length xs - start) (drop start xs) ≡ drop start xs = take_all (length xs - start) (drop start xs) (let d = length-drop start xs in omega (arith, d)) in
    rw (← c.self.view_is) (rw (c.deref.ensures.value, rest) at c.are_one.ensures)
