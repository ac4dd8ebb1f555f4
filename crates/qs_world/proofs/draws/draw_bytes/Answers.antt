use Rattle.std.proofs.Common.{◌≡◌, ◌<◌, ◌-◌, arith, vec_len}
use Rattle.qs_world.proofs.DrawSteps.{drawn-step, next-step}
use Rattle.qs_world.proofs.draws.draw_bytes.Goals as goal

pub loop-bytes-preserved : goal.loop-bytes-preserved
loop-bytes-preserved c =
    let some : 0 < c.args.count - vec_len c.loop-bytes.bytes = omega arith in
    let less : c.args.count - vec_len c.push.new.self ≡ c.args.count - vec_len c.loop-bytes.bytes - 1 = omega (arith, c.in_ok-push.ensures.len) in
    record {
      drawn = drawn-step _ _ _ _ _ _ _ _ some less c.draw.ensures.value c.draw.ensures.next c.in_ok-push.ensures.items c.loop-bytes.invariant.drawn;
      next = next-step _ _ _ _ _ some less c.draw.ensures.next c.loop-bytes.invariant.next;
      within = omega (arith, c.in_ok-push.ensures.len);
    }
