-- Runs of events that were drawn.
use Rattle.std.proofs.Common.{◌≡◌, ℕ, ◌+◌, Bool, true, List, [], ◌∷◌, length, map, reverse, Result, Ok, Err, refl, ◌∙◌, arith}
use Rattle.std.specs.List.{list_all}
use Rattle.std.proofs.lemmas.List.{length-reverse, length-map}
use Rattle.std.proofs.lemmas.List.Folds.{list_all-map, list_all-append}
use Rattle.std.proofs.lemmas.Grind.{common_steps, reverse_onto}
use Rattle.rand_pcg.specs.Lcg.{Lcg}
use Rattle.qs_calls.specs.declared.settings.Settings.{Settings}
use Rattle.qs_calls.specs.declared.settings.SetupFault.{SetupFault}
use Rattle.qs_machine.specs.Examples.{standard}
use Rattle.qs_calls.specs.Events.{fits}
use Rattle.qs_runs.specs.Events.{world_made}
use Rattle.qs_runs.specs.Worlds.{World}
use Rattle.qs_world.specs.Plays.{Played, begun}
use Rattle.qs_world.specs.Randoms.{DrawnStep, IsDrawnRun, IsRandomScript}

from_made : (first : Lcg) (p : Played) (r : Result World SetupFault) → world_made standard standard ≡ r → Ok p ≡ begun r → IsDrawnRun first 0 p first
from_made first p (Ok w) made is =
    let same : p ≡ record { log = []; ends = w } = cc is in
    rw same (record { run = made; drawn = refl; count = refl; fit = refl })
from_made first p (Err fault) made is = absurd (cc is)

-- nothing was drawn yet
pub begins_drawn : (first : Lcg) (p : Played) (a b : Settings) → a ≡ standard → b ≡ standard → Ok p ≡ begun (world_made a b) → IsDrawnRun first 0 p first
begins_drawn first p a b ea eb is = from_made first p (world_made standard standard) refl (rw (ea, eb) at is)

-- one more event was drawn
pub draws_more : (first g last : Lcg) (n : ℕ) (old new : Played) → IsDrawnRun first n old g → DrawnStep old g new last → IsDrawnRun first (n + 1) new last
draws_more first g last n old new d (event, answer, log, step, next, fit) =
    rw log (record {
      run = (old.ends, d.run, step);
      drawn = (g, d.drawn, next);
      count = omega (arith, d.count);
      fit = grind (arith, common_steps, d.fit, fit);
    })

reversed : {X : Type 0} (p : X → Bool) (xs : List X) → list_all p xs ≡ true → list_all p (reverse xs) ≡ true
reversed p [] h = refl
reversed p (x ∷ xs) h = let rest = reversed p xs in grind (arith, common_steps, reverse_onto xs x [], list_all-append p (reverse xs) (x ∷ []), rest, h)

-- what was drawn is a random script
pub is_script : (first last : Lcg) (n : ℕ) (p : Played) → IsDrawnRun first n p last → IsRandomScript first n (map (λ x. x.0) (reverse p.log))
is_script first last n p d =
    let count : length (map (λ x. x.0) (reverse p.log)) ≡ n = length-map _ _ ∙ length-reverse p.log ∙ d.count in
    (p.log, p.ends, last, d.run, d.drawn, refl, count)

pub script_fits : (first last : Lcg) (n : ℕ) (p : Played) → IsDrawnRun first n p last → list_all fits (map (λ x. x.0) (reverse p.log)) ≡ true
script_fits first last n p d = list_all-map fits (λ x. x.0) (reverse p.log) ∙ reversed (λ x. fits x.0) p.log d.fit
