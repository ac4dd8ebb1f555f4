-- Of private contracts.
-- What an end's owner does by an event: each call but a delivery.
use Rattle.std.specs.Prelude.{Bool, true, false}
use Rattle.qs_calls.specs.declared.event.Act.{Act}
use Rattle.qs_calls.specs.declared.event.Act.TheVariants as acts
use Rattle.qs_calls.specs.declared.answer.Answer.{Answer}
use Rattle.qs_calls.specs.declared.answer.Answer.TheVariants as answers
use Rattle.qs_machine.specs.Ends.{End}
use Rattle.qs_machine.specs.Owner.{OpenStep, AcceptStep, WriteStep, FinishStep, ResetStep, StopStep, ReadStep}
use Rattle.qs_machine.specs.Making.{MakeStep, LoseStep, ClaimStep}

-- a payload comes to the other end, and nothing happens to this one
abbrev pub is_delivery : Act → Bool
is_delivery (acts.Deliver k) = true
is_delivery act = false

-- the call with that answer; no other goes with the act
abbrev pub OwnStep : End → Act → Answer → End → Type 0
OwnStep old (acts.OpenStream dir) (answers.OpenStream r) new = OpenStep old dir r new
OwnStep old acts.Accept (answers.Accept r) new = AcceptStep old r new
OwnStep old (acts.Write n bytes) (answers.Write r) new = WriteStep old n bytes.items r new
OwnStep old (acts.Finish n) (answers.Finish r) new = FinishStep old n r new
OwnStep old (acts.Reset n code) (answers.Reset r) new = ResetStep old n code r new
OwnStep old (acts.Stop n code) (answers.Stop r) new = StopStep old n code r new
OwnStep old (acts.ReadUpTo n size) (answers.ReadUpTo r bytes) new = ReadStep old n size r bytes.items new
OwnStep old (acts.Make room) (answers.Make r text) new = MakeStep old 0 0 room r text.items new
OwnStep old (acts.Lose k) (answers.Lose r) new = LoseStep old k r new
OwnStep old acts.Claim (answers.Claim r) new = ClaimStep old r new
OwnStep old act answer new = ⊥
