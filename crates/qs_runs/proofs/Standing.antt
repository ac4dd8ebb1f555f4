-- What no call of an end changes but a closing: its role, its settings, what it was told of its peer's, and that it is open.
use Rattle.std.proofs.lemmas.Bool.Decides.{nat_tests}
use Rattle.std.proofs.Common.{arith}
use Rattle.std.proofs.Common.{◌≡◌, ℕ, ◌⊎◌, Option, None, Result, Err, refl, ◌∙◌}
use Rattle.qs_calls.specs.declared.closing.Closed.{Closed}
use Rattle.qs_machine.specs.Ends.{End}
use Rattle.qs_machine.specs.EndStep.{Call, Answer as CallAnswer, EndStep}
use Rattle.qs_machine.proofs.Leaves.{acks_leave, put_leaves, frame_leaves}
use Rattle.qs_machine.proofs.EveryCall.{Change, changed, Comes, MovesStanding, relates}
use Rattle.qs_machine.specs.Owner.{Certain, Uncertain}
use Rattle.qs_runs.specs.Invariant.{Standing, standing}

-- that, and whether it closed
abbrev pub fixed : End → Standing × Option Closed
fixed e = (standing e, e.closed)

-- that, the number below which no packet is told apart, and the granted counts of streams
abbrev pub standing_at : End → (Standing × Option Closed) × ℕ × ℕ × ℕ
standing_at e = (fixed e, e.floor, e.granted_bidi, e.granted_uni)

-- The calls of an owner

-- a call was refused and changed nothing, or it had its effect
abbrev pub IsRefused : {A F : Type 0} → End → Result A F → End → Type 0
IsRefused {A} {F} old answer new = (fault : F) × (answer ≡ Err fault) × (new ≡ old)

pub certain_cases : {A F : Type 0} (o : Option F) (old : End) (answer : Result A F) (new : End) (E : Type 0) → Certain o old answer new E → IsRefused old answer new ⊎ ((o ≡ None) × E)
certain_cases o old answer new E h = grind (arith, nat_tests)

pub uncertain_cases : {A F : Type 0} (o : Option F) (no_memory : F) (Asks : Type 0) (old : End) (answer : Result A F) (new : End) (E : Type 0) → Uncertain o no_memory Asks old answer new E → IsRefused old answer new ⊎ ((o ≡ None) × E)
uncertain_cases o no_memory Asks old answer new E h = grind (arith, nat_tests)

-- no change but a closing and limits that rise moves what stands
stands_change : (old : End) (call : Call) (c : Change) (e : End) → (MovesStanding call → ⊥) → Comes old call e c → fixed (changed c e) ≡ fixed e
stands_change old call c e own comes = grind (arith, nat_tests, frame_leaves, acks_leave, put_leaves)

pub call_stands : (old : End) (call : Call) → (MovesStanding call → ⊥) → (answer : CallAnswer call) (new : End) → EndStep old call answer new → fixed new ≡ fixed old
call_stands old call own answer new step = relates (λ a b. fixed b ≡ fixed a) (λ e. refl) (λ a b c x y. y ∙ x) old call (λ c e comes. stands_change old call c e own comes) answer new step
