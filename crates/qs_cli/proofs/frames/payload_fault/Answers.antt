use Rattle.std.proofs.Common.{sym, ◌∙◌}
use Rattle.qs_cli.proofs.Answered.{spelled, odd_spells_none, long_spells_none, other_spells_none}
use Rattle.qs_cli.proofs.frames.payload_fault.Goals as goal

pub returns-then-word-ne0-clause-none : goal.returns-then-word-ne0-clause-none
returns-then-word-ne0-clause-none c = λ no. odd_spells_none c.args.word.now c.if-word-ne0.true

pub returns-then-word-gt-MAX_PAYLOAD-clause-none : goal.returns-then-word-gt-MAX_PAYLOAD-clause-none
returns-then-word-gt-MAX_PAYLOAD-clause-none c = λ no. long_spells_none c.args.word.now c.if-word-gt-MAX_PAYLOAD.true

pub returns-then-are_hex-clause-payload : goal.returns-then-are_hex-clause-payload
returns-then-are_hex-clause-payload c =
    λ no. spelled c.args.word.now c.if-word-ne0.false c.if-word-gt-MAX_PAYLOAD.false (sym c.are_hex.ensures ∙ c.if-are_hex.true)

pub returns-clause-none : goal.returns-clause-none
returns-clause-none c = λ no. other_spells_none c.args.word.now (sym c.are_hex.ensures ∙ c.if-are_hex.false)
