use Rattle.std.proofs.Common.{◌≡◌, ◌∙◌, refl, ◌-◌, ◌∷◌, length, ap, sym, subst, arith}
use Rattle.qs_wire.specs.Acks.{FallBelow}
use Rattle.qs_send.specs.AckPass.{Passing}
use Rattle.qs_send.proofs.Passing.{passed_range, seen_lower, lost_turns_look, lost_turns_read, lost_turns_end, each_step, each_read, none_ahead}
use Rattle.qs_send.proofs.ack_pass.AckPass.next_lost.Goals as goal

pub returns-then-not-read_range : goal.returns-then-not-read_range
returns-then-not-read_range c =
    let start = c.args.self.now in
    let q = c.loop-number.self in
    let cut = c.lost_in_range.new.self in
    let l = c.args.records.now in
    let seen = c.lost_in_range.new.seen in
    let was = c.in_default.ensures in
    let so_far = c.loop-number.invariant in
    let ended = c.read_range.ensures.ended c.if-not-read_range.true in
    let inside = c.self-in-loop-number.inside in
    let stays = c.self-in-loop-number.view_is ∙ ended.1 in
    let end : Passing = record { low = inside.low; below = 0; unread = inside.ranges; turns = inside.turns } in
    let turns : end.turns ≡ cut.turns = ap (λ (p : Passing). p.turns) stays in
    let unread : end.unread ≡ cut.unread = ap (λ (p : Passing). p.unread) stays in
    let rise = was.counted in
    let until = so_far.counted in
    let each = each_step start.turns q.turns cut.turns (length start.unread - length q.unread) c.loop-number.seen seen start.below was.looks so_far.looks so_far.each was.each in
    let counts : length end.unread ≡ length q.unread = ap length (unread ∙ was.same.1) in
    record {
      answer = λ falls. none_ahead l.pieces start q (so_far.passed falls) was.none (sym was.same.1 ∙ ended.0);
      falls = λ falls. subst (FallBelow end.low) (sym (unread ∙ ended.0)) tt;
      below = tt;
      turns = lost_turns_end l start cut end seen c.learn_in_order.ensures.same was.seen turns refl unread (lost_turns_look l start q cut c.loop-number.seen seen was.same.1 was.turns so_far.turns);
      counted = omega (arith, turns, rise, until);
      each = omega (arith, each, turns, counts);
    }

pub loop-number-preserved : goal.loop-number-preserved
loop-number-preserved c =
    let start = c.args.self.now in
    let q = c.loop-number.self in
    let cut = c.lost_in_range.new.self in
    let after = c.read_range.new.self in
    let l = c.args.records.now in
    let seen = c.lost_in_range.new.seen in
    let was = c.in_default.ensures in
    let so_far = c.loop-number.invariant in
    let read = c.read_range.ensures.read c.if-not-read_range.false in
    let bound = read.1.below in
    let less = was.below in
    let lower = so_far.below in
    let rise = was.counted in
    let one = c.read_range.ensures.counted in
    let until = so_far.counted in
    let looks = was.looks in
    let most = so_far.looks in
    let each = each_step start.turns q.turns cut.turns (length start.unread - length q.unread) c.loop-number.seen seen start.below looks most so_far.each was.each in
    let counts : length cut.unread ≡ length (read.0 ∷ after.unread) = ap length read.1.unread in
    let same : length cut.unread ≡ length q.unread = ap length was.same.1 in
    record {
      passed = λ falls. passed_range l.pieces start q cut was.same.0 was.same.1 was.below was.none was.past read.0 after read.1 (so_far.passed falls);
      below = omega (arith, bound, less, lower);
      turns = lost_turns_read l start cut after read.0 seen c.learn_in_order.ensures.same was.seen read.1 (lost_turns_look l start q cut c.loop-number.seen seen was.same.1 was.turns so_far.turns);
      counted = omega (arith, rise, one, until);
      seen = seen_lower l.pieces seen cut.below after.below (omega (arith, bound)) was.seen;
      looks = omega (arith, looks, most);
      each = each_read start.turns cut.turns after.turns (length start.unread - length q.unread) (length start.unread - length after.unread) _ each read.1.turns (omega (arith, counts, same));
    }
