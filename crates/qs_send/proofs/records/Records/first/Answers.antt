use Rattle.std.proofs.Common.{◌∙◌, ap, length, [], Some}
use Rattle.std.proofs.lemmas.List.{get_or_read}
use Rattle.qs_send.specs.Records.{IsSlotOf, first_piece}
use Rattle.qs_send.proofs.Outstanding.{first-slot}
use Rattle.qs_send.proofs.records.Records.first.Goals as goal

pub returns-in-Some : goal.returns-in-Some
returns-in-Some c =
    let base = c.self.inside.base in
    let slots = c.self.inside.slots.items in
    let at : IsSlotOf base (length slots) c.args.number c.in-Some.place = rw (← c.self.view_is) at c.in-Some.ensures.found in
    let item = get_or_read slots c.in-Some.place _ at.within c.index.ensures [] in
    rw (← c.self.view_is) (c.first.ensures ∙ ap (λ s. first_piece (Some s)) item ∙ first-slot base c.in-Some.place c.args.number slots at.number)
