-- Of private contracts.
-- What was played as the pair of its fields, so that it can be part of what contracts see of a value.
use Rattle.std.specs.Prelude.{refl}
use Rattle.std.specs.Coded.{Coded, code_by, coded×, coded_list}
use Rattle.qs_machine.specs.EndCodes.{end_code}
use Rattle.qs_machine.specs.Ends.{End}
use Rattle.qs_calls.specs.declared.event.Event.{Event}
use Rattle.qs_calls.specs.declared.answer.Answer.{Answer}
use Rattle.qs_runs.specs.Events.{Log}
use Rattle.qs_world.specs.Plays.{Played}

abbrev pub played_code : Coded Event → Coded Answer → Coded Played
played_code event answer =
    code_by (Log × (End × End)) (coded× (coded_list (coded× event answer)) (coded× end_code end_code)) (λ p. (p.log, (p.ends.a, p.ends.b)))
    (λ p. record { log = p.0; ends = record { a = p.1.0; b = p.1.1 } })
    (λ _. refl)
