use Rattle.std.proofs.Common.{◌∙◌, refl, ap, length, [], arith, ◌<◌}
use Rattle.std.proofs.lemmas.List.{get_or_read}
use Rattle.qs_send.proofs.Outstanding.{empty_slot}
use Rattle.qs_send.proofs.records.Records.starts_empty.Goals as goal

pub returns-in-Some : goal.returns-in-Some
returns-in-Some c =
    let base = c.self.inside.base in
    let slots = c.self.inside.slots.items in
    let some = c.in-Some.ensures.variant.0 refl in
    let ok = c.self.inside.slots.ok.0 in
    let within : 0 < length slots = omega (arith, some, ok) in
    let item = get_or_read slots 0 _ within c.in-Some.ensures.lookup [] in
    rw (← c.self.view_is) (empty_slot base 0 base c.len.result slots (omega arith) within (c.len.ensures ∙ ap length item))
