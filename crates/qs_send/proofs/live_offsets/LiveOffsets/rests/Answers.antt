use Rattle.std.proofs.Common.{◌≡◌, ℕ, ◌==◌, IsTrue, arith}
use Rattle.std.proofs.lemmas.Bool.Decides.{nat_tests}
use Rattle.qs_send.proofs.Steps.{rests_when}
use Rattle.qs_send.proofs.live_offsets.LiveOffsets.rests.Goals as goal

equal_to : (low w : ℕ) → IsTrue (low == w) → low ≡ w
equal_to low w is = grind (arith, nat_tests, is)

pub returns : goal.returns
returns c = λ is.
    let missing = rw (equal_to c.first_missing.result c.self.inside.written is) at c.first_missing.ensures.missing in
    rw (← c.self.view_is) (rests_when _ _ _ _ _ c.self.invariant missing)
