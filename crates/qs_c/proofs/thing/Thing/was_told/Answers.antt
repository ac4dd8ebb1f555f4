use Rattle.std.proofs.Common.{◌≡◌, rules, []}
use Rattle.std.specs.Prelude.{Result}
use Rattle.qs_ranges.specs.declared.NoMemory.{NoMemory}
use Rattle.qs_machine.specs.Ends.{End}
use Rattle.qs_machine.specs.Heard.{IsNoted}
use Rattle.qs_machine.specs.Seen.{seen}
use Rattle.qs_c.specs.Statuses.{status_of}
use Rattle.qs_c.specs.Events.{CalledHeard, memory_status}
use Rattle.qs_c.specs.Frames.{frame_in, is_frame}
use Rattle.qs_c.proofs.Steps.{same_end}
use Rattle.qs_c.proofs.Hearings.{called_heard}
use Rattle.qs_c.proofs.thing.Thing.was_told.Goals as goal

pub returns : goal.returns
returns c =
    same_end (λ (e : End). CalledHeard c.args.heard.now.cell.value c.put.new.self.cell.value (is_frame c.args.frame.now) (c.was_told-status.result ≡ 1) (λ g h. (a : Result (Unit {0}) NoMemory) × (c.was_told-status.result ≡ status_of memory_status a) × IsNoted e (seen (frame_in c.args.frame.now c.args.bytes.now [])) g a h))
    c.self.inside.end c.args.self.now (search rules)
    (called_heard c.args.heard.now.cell.value c.put.new.self.cell.value c.deref_mut.result.now c.was_told-status.new.self _ _ _ (search rules) (search rules) c.was_told-status.ensures)
