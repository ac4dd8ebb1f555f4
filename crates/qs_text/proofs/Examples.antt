-- The lines of events and answers compute.
use Rattle.std.proofs.Common.{refl}
use Rattle.std.specs.Fmt.{digits}
use Rattle.hex.specs.Hex.{encode_with}
use Rattle.qs_text.specs.Examples.{EventLines, AnswerLines, Examples}

event_lines : EventLines
unfolding digits
event_lines = record { opens = refl; accepts = refl; resets = refl; reads = refl; makes = refl; claims = refl; delivers = refl }

answer_lines : AnswerLines
unfolding digits encode_with
answer_lines = record { blocked = refl; none = refl; wrong_way = refl; gave = refl; gave_none = refl; packet = refl; not_outstanding = refl; number = refl; exhausted = refl; closing = refl }

pub examples_hold : Examples
examples_hold = record { events = event_lines; answers = answer_lines }
