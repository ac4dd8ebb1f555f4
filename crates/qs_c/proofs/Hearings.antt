-- A call that changes what was heard, as a call on the handle that holds it.
use Rattle.std.proofs.Common.{◌≡◌, ℕ, Bool, true, subst, sym}
use Rattle.std.specs.Prelude.{Option, Some, Result}
use Rattle.qs_ranges.specs.declared.NoMemory.{NoMemory}
use Rattle.qs_machine.specs.Ends.{End}
use Rattle.qs_wire.specs.Layout.{FrameValue}
use Rattle.qs_machine.specs.Seen.{seen}
use Rattle.qs_machine.specs.Heard.{Hearing, IsNoted, WillWrite}
use Rattle.qs_c.specs.Events.{TestedHeard, CalledHeard}

-- the handle holds some, before and after
pub called_heard : (old new : Option Hearing) (g h : Hearing) (fits : Bool) (Refused : Type 0) (Step : Hearing → Hearing → Type 0) → old ≡ Some g → new ≡ Some h → TestedHeard fits g h Refused (Step g h) → CalledHeard old new fits Refused Step
called_heard old new g h fits Refused Step was is step =
    subst (λ (o : Option Hearing). CalledHeard o new fits Refused Step) (sym was) (subst (λ (n : Option Hearing). CalledHeard (Some g) n fits Refused Step) (sym is) step)

-- the numbers fit
pub tested_heard : (b : Bool) (old new : Hearing) (Refused Step : Type 0) → b ≡ true → Step → TestedHeard b old new Refused Step
tested_heard b old new Refused Step is step = subst (λ (t : Bool). TestedHeard t old new Refused Step) (sym is) step

-- a note of a write, in other words for what was heard and for the stream
pub same_note : (e : End) (d g h : Hearing) (m n len : ℕ) (a : Result (Unit {0}) NoMemory) → g ≡ d → m ≡ n → WillWrite e m len d a h → WillWrite e n len g a h
same_note e d g h m n len a heard streams note =
    subst (λ (x : Hearing). WillWrite e n len x a h) (sym heard) (subst (λ (k : ℕ). WillWrite e k len d a h) streams note)

-- a note of a frame, in other words for what was heard and for the frame
pub same_told : (e : End) (d g h : Hearing) (f k : FrameValue) (a : Result (Unit {0}) NoMemory) → g ≡ d → f ≡ k → IsNoted e (seen f) d a h → IsNoted e (seen k) g a h
same_told e d g h f k a heard frames note = subst (λ (x : Hearing). IsNoted e (seen k) x a h) (sym heard) (subst (λ (y : FrameValue). IsNoted e (seen y) d a h) frames note)
