-- An end is made as a caller of C asks for it.
use Rattle.std.proofs.Common.{◌≡◌, ℕ, Bool, true, false, Option, None, Some, Result, Ok, subst, sym, ap, ◌∙◌, if◌then◌else◌, ◌&&◌}
use Rattle.std.proofs.lemmas.Option.{none-some, same_Some}
use Rattle.qs_wire.specs.declared.stream_id.Role.{Role}
use Rattle.qs_calls.specs.declared.settings.Settings.{Settings}
use Rattle.qs_calls.specs.declared.settings.Tuning.{Tuning}
use Rattle.qs_calls.specs.declared.settings.PeerLimits.{PeerLimits}
use Rattle.qs_machine.specs.Ends.{End, wide_end_made}
use Rattle.qs_c.specs.Statuses.{Tested, Starts}

-- the role and the tuning were known, and the end was made of them
pub starts_of : (flag tuned : Bool) (old new made : End) (status : ℕ) (side role : Role) (chosen tuning : Tuning) (s : Settings) (p : PeerLimits)
    → Some side ≡ (if flag then Some role else None) → Some chosen ≡ (if tuned then Some tuning else None) → Ok made ≡ wide_end_made side s chosen p
    → (status ≡ 0) × (new ≡ made) → Tested (flag && tuned) old new (status ≡ 1) (Starts (wide_end_made role s tuning p) status old new)
starts_of false tuned old new made status side role chosen tuning s p known choice made_of done = absurd (none-some side (sym known))
starts_of true false old new made status side role chosen tuning s p known choice made_of done = absurd (none-some chosen (sym choice))
starts_of true true old new made status side role chosen tuning s p known choice made_of done =
    subst (λ r. Starts r status old new)
    (made_of ∙ ap (λ r. wide_end_made r s chosen p) (same_Some side role known) ∙ ap (λ t. wide_end_made role s t p) (same_Some chosen tuning choice))
    done
