use Rattle.std.proofs.Common.{rules, ◌≡◌, true}
use Rattle.qs_c.specs.Statuses.{is_small}
use Rattle.qs_c.proofs.Hearings.{tested_heard, same_note}
use Rattle.qs_c.proofs.listener.Listener.will_write.Goals as goal

pub returns : goal.returns
returns c =
    let small : is_small c.args.stream ≡ true = search rules in
    tested_heard (is_small c.args.stream) _ _ _ _ small (c.will_write.result, c.of_note.ensures, same_note c.args.end.now c.self.inside.heard c.args.self.now c.will_write.new.self c.in-Some.id c.args.stream c.args.len c.will_write.result (search rules) (search rules) c.will_write.ensures)
