use Rattle.std.proofs.Common.{◌≡◌, drop}
use Rattle.qs_c.specs.Giving.{are_given}
use Rattle.qs_c.proofs.giving.are_given.Given as goal

-- it hangs on those that are left
abbrev pub invariant-loop-given : goal.invariant-loop-given
invariant-loop-given l = are_given (drop l.given-index l.frames) ≡ are_given l.frames
