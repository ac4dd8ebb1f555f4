use Rattle.std.proofs.Common.{true, arith, inr}
use Rattle.qs_conn.specs.Middle.{end_of}
use Rattle.qs_conn.proofs.MadePackets.{tells_yes, tells_or, wanted_capped, wanted_left}
use Rattle.qs_conn.proofs.middle.Core.has_wanted.Goals as goal

pub returns-then-left-eq0 : goal.returns-then-left-eq0
returns-then-left-eq0 c = λ e. wanted_capped c.args.want.now (end_of c.args.self.now e) c.args.left c.has_wanted_item.result (omega (arith, c.if-left-eq0.true)) (c.has_wanted_item.ensures e)

pub returns-then-has_wanted_stream : goal.returns-then-has_wanted_stream
returns-then-has_wanted_stream c = λ e.
    wanted_left c.args.want.now (end_of c.args.self.now e) c.args.left true (omega (arith, c.if-left-eq0.false)) (inr (tells_yes _ _ c.if-has_wanted_stream.true (c.has_wanted_stream.ensures e)))

pub returns : goal.returns
returns c = λ e.
    wanted_left c.args.want.now (end_of c.args.self.now e) c.args.left _ (omega (arith, c.if-left-eq0.false)) (tells_or _ _ _ _ c.if-has_wanted_stream.false (c.has_wanted_stream.ensures e) (c.has_wanted_item-2.ensures e))
