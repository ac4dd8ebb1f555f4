use Rattle.std.proofs.Common.{◌≡◌, ◌∷◌, length, ap, arith}
use Rattle.qs_send.proofs.Passing.{passed_range, turns_read}
use Rattle.qs_send.proofs.ack_pass.AckPass.next.Goals as goal

pub loop-number-preserved : goal.loop-number-preserved
loop-number-preserved c =
    let start = c.args.self.now in
    let q = c.loop-number.self in
    let cut = c.in_range.new.self in
    let after = c.read_range.new.self in
    let m = c.args.records.now in
    let was = c.in_default.ensures in
    let read = c.read_range.ensures.read c.if-not-read_range.false in
    let bound = read.1.below in
    let less = was.below in
    let so_far = c.loop-number.invariant in
    let lower = so_far.below in
    let rise = was.counted in
    let len : length cut.unread ≡ length q.unread = ap length was.same.1 in
    let left : length cut.unread ≡ length (read.0 ∷ after.unread) = ap length read.1.unread in
    let one = read.1.turns in
    let until = so_far.counted in
    let each = so_far.each in
    let reads = so_far.reads in
    record {
      passed = λ falls. passed_range m.pieces start q cut was.same.0 was.same.1 was.below was.none was.past read.0 after read.1 (so_far.passed falls);
      below = omega (arith, bound, less, lower);
      turns = turns_read start q cut after m read.0 was.same.1 was.turns read.1 so_far.turns;
      counted = omega (arith, one, rise, until);
      each = omega (arith, one, rise, each, len, left, reads);
      reads = omega (arith, reads, len, left);
    }
