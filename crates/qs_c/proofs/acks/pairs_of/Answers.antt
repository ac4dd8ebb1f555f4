use Rattle.std.proofs.Common.{◌+◌, ◌^◌, ◌∙◌, arith}
use Rattle.std.proofs.lemmas.List.{length-set}
use Rattle.qs_c.proofs.Ranges.{apart_at, pairs_more}
use Rattle.qs_c.proofs.acks.pairs_of.Goals as goal

pub overflow_add-pairs : goal.overflow_add-pairs
overflow_add-pairs c = omega (arith, apart_at (2 ^ 62 + 1) c.args.ranges.now c.loop-i.i (record { smallest = 0; largest = 0 }) c.requires.apart c.loop-i-test.true)

pub loop-i-preserved : goal.loop-i-preserved
loop-i-preserved c =
    record {
      room = length-set c.loop-i.pairs c.loop-i.i _ ∙ c.loop-i.invariant.room;
      so_far = pairs_more c.args.ranges.now c.loop-i.pairs c.loop-i.i (record { smallest = 0; largest = 0 }) c.loop-i-test.true (omega (arith, c.loop-i-test.true, c.requires.few, c.loop-i.invariant.room)) c.loop-i.invariant.so_far;
    }
