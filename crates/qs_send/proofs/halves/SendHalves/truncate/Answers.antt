use Rattle.std.proofs.Common.{◌-◌, ◌≤◌, length, arith}
use Rattle.qs_send.proofs.Slots.{placed_take, last_left, none_left}
use Rattle.qs_send.proofs.halves.SendHalves.truncate.Goals as goal

pub loop-self-preserved : goal.loop-self-preserved
loop-self-preserved c =
    let h = c.loop-self.invariant in
    let below : c.args.count ≤ c.len-last.result - 1 = omega (arith, c.loop-self-test.true, c.len.ensures, c.len-last.ensures) in (
      h.0,
      rw c.truncate.ensures.items (placed_take c.put_over.new.slots.items (length c.put_over.new.full.items) (c.len-last.result - 1) c.put_over.ensures.placed),
      last_left c.loop-self.self-inside.stream_type c.args.count (c.len-last.result - 1) c.loop-self.self-inside.full.items c.put_over.new.full.items c.loop-self.self-inside.slots.items c.put_over.new.slots.items c.truncate.new.self.items _ _ c.truncate.ensures.items below (c.put_over.ensures.put c.loop-self.self-inside.stream_type) h.2,
    )

pub returns : goal.returns
returns c =
    let few : length c.loop-self.self-inside.slots.items ≤ c.args.count = omega (arith, c.loop-self-test.false, c.len.ensures) in
    none_left c.loop-self.self-inside.stream_type c.args.count c.loop-self.self-inside.full.items c.loop-self.self-inside.slots.items _ few c.loop-self.invariant.2
