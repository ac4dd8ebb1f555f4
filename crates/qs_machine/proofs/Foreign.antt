-- Frames of a stack's own change nothing.
use Rattle.std.proofs.lemmas.Bool.Decides.{nat_tests}
use Rattle.std.proofs.Common.{arith}
use Rattle.std.proofs.Common.{◌≡◌, Bool, false, List, [], ◌∷◌, Result, Ok, subst}
use Rattle.std.specs.Prelude.{MatchBool}
use Rattle.std.specs.List.{AllByRecursion}
use Rattle.qs_wire.specs.Layout.{FrameValue}
use Rattle.qs_calls.specs.declared.token.Taken.{Taken}
use Rattle.qs_calls.specs.declared.token.Taken.TheVariants.{NotOurs}
use Rattle.qs_calls.specs.declared.token.TakeFault.{TakeFault}
use Rattle.qs_machine.specs.Ends.{End}
use Rattle.qs_machine.specs.Seen.{seen, seen_all}
use Rattle.qs_machine.specs.Alone.{is_ours, TakesEach, TakeBy}
use Rattle.qs_machine.specs.Laws.{IsForeign, ForeignFramesTellNothing, ForeignFramesSettle}

pick_false : (X Y : Type 0) (b : Bool) → b ≡ false → MatchBool b X Y → Y
pick_false X Y b is h = grind arith

pub foreign_frame : ForeignFramesTellNothing
foreign_frame old new f answer unclosed foreign step = pick_false _ _ (is_ours (seen f)) foreign (subst (λ o. TakeBy o f old answer new) unclosed step)

each_foreign : (fs : List FrameValue) (e new : End) (answer : Result Taken TakeFault) → AllByRecursion IsForeign (seen_all fs) → TakesEach fs e answer new → (answer ≡ Ok NotOurs) × (new ≡ e)
each_foreign [] e new answer all h = h
each_foreign (f ∷ fs) e new answer all h = each_foreign fs e new answer all.1 (pick_false _ _ (is_ours (seen f)) all.0 h)

pub foreign_frames : ForeignFramesSettle
foreign_frames old new fs answer unclosed foreign step = grind (arith, nat_tests, each_foreign)
