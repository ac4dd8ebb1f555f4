-- Of laws.
-- Printed lines of small events and answers.
use Rattle.std.specs.Prelude.{◌≡◌, true, [], ◌∷◌, codes, None, Some, Ok, Err}
use Rattle.qs_wire.specs.declared.stream_id.Dir.TheVariants.{Bidi}
use Rattle.qs_recv.specs.declared.half.Read.TheVariants as reads
use Rattle.qs_calls.specs.declared.making.MakeFault.TheVariants as making
use Rattle.qs_calls.specs.declared.making.LostFault.TheVariants as losing
use Rattle.qs_calls.specs.declared.uses.OpenFault.TheVariants as opening
use Rattle.qs_calls.specs.declared.uses.UseFault.TheVariants as uses
use Rattle.qs_calls.specs.declared.event.Side.TheVariants.{A, B}
use Rattle.qs_calls.specs.declared.event.Act.TheVariants as acts
use Rattle.qs_calls.specs.declared.answer.Answer.TheVariants as answers
use Rattle.qs_text.specs.EventText.{event_text, answer_text, read_text, make_text}

pub record EventLines : Type 0 where
  pub opens : event_text (record { end = A; act = acts.OpenStream Bidi }) ≡ codes "open A bidi"
  pub accepts : event_text (record { end = B; act = acts.Accept }) ≡ codes "accept B"
  pub resets : event_text (record { end = A; act = acts.Reset 4 70 }) ≡ codes "reset A 4 70"
  pub reads : event_text (record { end = B; act = acts.ReadUpTo 0 16 }) ≡ codes "read B 0 16"
  pub makes : event_text (record { end = A; act = acts.Make 1200 }) ≡ codes "make A 1200"
  pub claims : event_text (record { end = B; act = acts.Claim }) ≡ codes "claim B"
  pub delivers : event_text (record { end = A; act = acts.Deliver 10 }) ≡ codes "deliver A 10"

pub record AnswerLines : Type 0 where
  pub blocked : answer_text (answers.OpenStream (Err (opening.Blocked 8))) ≡ codes "blocked 8"
  pub none : answer_text (answers.Accept None) ≡ codes "none"
  pub wrong_way : answer_text (answers.Finish (Err uses.WrongDirection)) ≡ codes "wrong-direction"
  pub gave : read_text (Ok (reads.Bytes 2)) (10 ∷ 255 ∷ []) ≡ codes "bytes 0aff"
  pub gave_none : read_text (Ok (reads.Bytes 0)) [] ≡ codes "bytes -"
  pub packet : make_text (Ok (Some (record { number = 0; len = 3; is_ack_eliciting = true }))) (0x0b ∷ 0 ∷ 0 ∷ []) ≡ codes "packet 0 0b0000"
  pub not_outstanding : answer_text (answers.Lose (Err losing.NotOutstanding)) ≡ codes "not-outstanding"
  pub number : answer_text (answers.Claim (Ok 7)) ≡ codes "number 7"
  pub exhausted : answer_text (answers.Claim (Err making.Exhausted)) ≡ codes "exhausted"
  pub closing : answer_text (answers.Deliver (Err (record { code = 3; frame_type = 0x0a; place = 11 }))) ≡ codes "closing 0x03 0x0a 11"

pub record Examples : Type 0 where
  pub events : EventLines
  pub answers : AnswerLines
