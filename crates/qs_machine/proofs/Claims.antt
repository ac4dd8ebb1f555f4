-- An ACK may name a number that was claimed, and no packet of it is outstanding.
use Rattle.std.proofs.Common.{◌≡◌, ℕ, ◌+◌, ◌<◌, List, Option, None, is_some, arith}
use Rattle.std.specs.Prelude.{is_none, Result, Ok, Err}
use Rattle.std.proofs.lemmas.Bool.Decides.{nat_tests}
use Rattle.qs_send.specs.declared.piece.Piece.{Piece}
use Rattle.qs_calls.specs.declared.closing.Closed.{Closed}
use Rattle.qs_calls.specs.declared.making.MakeFault.{MakeFault}
use Rattle.qs_calls.specs.declared.making.LostFault.{LostFault}
use Rattle.qs_calls.specs.declared.making.LostFault.TheVariants as losing
use Rattle.qs_machine.specs.Ends.{End}
use Rattle.qs_machine.specs.Seen.{Ack}
use Rattle.qs_machine.specs.Verdicts.{verdict}
use Rattle.qs_machine.specs.Owner.{Certain, first_refusal, refuse_if}
use Rattle.qs_machine.specs.Making.{ClaimStep}
use Rattle.qs_machine.specs.Laws.{ClaimedNumbersAreKnown}

abbrev number_in : Result ℕ MakeFault → ℕ
number_in (Ok number) = number
number_in (Err fault) = 0

-- a call that gave a number took the next one
pub gave : (old new : End) (number : ℕ) → ClaimStep old (Ok number) new → (number ≡ old.next) × (new ≡ record old { next = old.next + 1 })
gave old new number step = grind arith

-- an ACK of a number that was used is no fault
used : (e : End) (largest : ℕ) (ranges : List (ℕ × ℕ)) → largest < e.next → verdict e (Ack largest ranges) ≡ None
unfolding verdict
used e largest ranges lt = grind (arith, nat_tests, lt)

-- of an open end no packet is lost of which nothing is outstanding
none_lost : (c : Option Closed) (o : Option (List Piece)) (old : End) (answer : Result (Unit {0}) LostFault) (new : End) (Effect : Type 0) → c ≡ None → o ≡ None
    → Certain (first_refusal (refuse_if (is_some c) losing.Closed) (refuse_if (is_none o) losing.NotOutstanding)) old answer new Effect → answer ≡ Err losing.NotOutstanding
none_lost c o old answer new Effect still none h = grind arith

pub claimed_known : ClaimedNumbersAreKnown
claimed_known = grind (arith, nat_tests, gave, used, none_lost)
