use Rattle.std.proofs.Common.{◌++◌, [], arith}
use Rattle.std.proofs.lemmas.List.{length-append}
use Rattle.qs_wire.specs.Varint.{short}
use Rattle.qs_wire.proofs.Numbers.{length-short}
use Rattle.qs_wire.proofs.writing.counts_len.Goals as goal

pub returns : goal.returns
returns c =
    let x = c.args.counts.ect0 in
    let y = c.args.counts.ect1 in
    let z = c.args.counts.ce in
    omega (
      arith,
      c.varint_len.ensures.exact,
      c.varint_len-2.ensures.exact,
      c.varint_len-3.ensures.exact,
      length-short x,
      length-short y,
      length-short z,
      length-append (short x) (short y ++ (short z ++ [])),
      length-append (short y) (short z ++ []),
      length-append (short z) [],
    )
