use Rattle.std.proofs.Common.{rules, ◌≡◌, true, []}
use Rattle.qs_wire.specs.Layout.{view}
use Rattle.qs_c.specs.Frames.{frame_in, is_frame}
use Rattle.qs_c.proofs.Hearings.{tested_heard, same_told}
use Rattle.qs_c.proofs.listener.Listener.was_told.Goals as goal

pub returns : goal.returns
returns c =
    let given : is_frame c.args.frame.now ≡ true = search rules in
    tested_heard (is_frame c.args.frame.now) _ _ _ _ given (c.was_told.result, c.of_note.ensures, same_told c.args.end.now c.self.inside.heard c.args.self.now c.was_told.new.self (view c.in-Some.given) (frame_in c.args.frame.now c.args.bytes.now []) c.was_told.result (search rules) (search rules) c.was_told.ensures)
