-- A call of an end, as a call on the handle that holds it.
use Rattle.std.proofs.Common.{◌≡◌, ℕ, Bool, true, subst, sym}
use Rattle.std.specs.Prelude.{Option, Some, List, Result, MatchBool}
use Rattle.qs_calls.specs.declared.uses.UseFault.{UseFault}
use Rattle.qs_machine.specs.Ends.{End}
use Rattle.qs_machine.specs.Owner.{WriteStep}
use Rattle.qs_c.specs.Statuses.{Called, Asked, Tested}

-- the numbers fit
pub tested : (b : Bool) (old new : End) (Refused Step : Type 0) → b ≡ true → Step → Tested b old new Refused Step
tested b old new Refused Step is step = subst (λ (t : Bool). Tested t old new Refused Step) (sym is) step

-- the handle holds an end, before and after
pub called : (old new : Option End) (e f : End) (fits : Bool) (Refused : Type 0) (Step : End → End → Type 0) → old ≡ Some e → new ≡ Some f → Tested fits e f Refused (Step e f) → Called old new fits Refused Step
called old new e f fits Refused Step was is step =
    subst (λ (o : Option End). Called o new fits Refused Step) (sym was) (subst (λ (n : Option End). Called (Some e) n fits Refused Step) (sym is) step)

-- and it is the same
pub asked : (old new : Option End) (e f : End) (fits : Bool) (Refused : Type 0) (Answer : End → Type 0) → old ≡ Some e → new ≡ Some f → f ≡ e → MatchBool fits (Answer e) Refused → Asked old new fits Refused Answer
asked old new e f fits Refused Answer was is stays answer =
    subst (λ (o : Option End). Asked o new fits Refused Answer) (sym was) (subst (λ (n : Option End). Asked (Some e) n fits Refused Answer) (sym is) (stays, answer))

-- a write, in other words for its end and its stream
pub same_write : (d e f : End) (m n : ℕ) (bytes : List ℕ) (a : Result ℕ UseFault) → e ≡ d → m ≡ n → WriteStep d m bytes a f → WriteStep e n bytes a f
same_write d e f m n bytes a ends streams step =
    subst (λ (x : End). WriteStep x n bytes a f) (sym ends) (subst (λ (k : ℕ). WriteStep d k bytes a f) streams step)

-- the same of any step of an end and a stream
pub same_step : (Step : End → ℕ → Type 0) (d e : End) (m n : ℕ) → e ≡ d → m ≡ n → Step d m → Step e n
same_step Step d e m n ends streams step =
    subst (λ (x : End). Step x n) (sym ends) (subst (λ (k : ℕ). Step d k) streams step)

-- a fact of an end, of the same end in other words
pub same_end : (P : End → Type 0) (d e : End) → d ≡ e → P d → P e
same_end P d e is fact = subst P is fact
