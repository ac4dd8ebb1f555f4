use Rattle.std.proofs.Common.{◌∙◌, ap, arith, drop}
use Rattle.qs_chunks.proofs.SpotLaws.{drop-shorter}
use Rattle.qs_chunks.proofs.chunk.Chunk.truncate.Goals as goal

pub returns : goal.returns
returns c =
    let v = c.self.inside.bytes in
    let start = c.self.inside.start in
    let some = rw (← c.self.view_is) at c.requires in
    rw (← c.self.view_is)
    (ap (λ bytes. record { offset = c.self.inside.offset; bytes = bytes })
    (ap (drop start) c.truncate.ensures.items ∙ drop-shorter v.items start c.args.count c.len.result (omega (arith, c.len.ensures, v.ok.0)) c.self.invariant.0 some))
