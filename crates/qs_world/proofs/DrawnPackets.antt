-- A packet that is drawn was made.
use Rattle.std.specs.Prelude.{⊤}
use Rattle.std.proofs.Common.{◌≡◌, ℕ, zero, suc, ◌<◌, ◌==◌, Bool, true, false, List, [], length, slice_get, None, Err, refl, sym, ◌∙◌, arith, if◌then◌else◌}
use Rattle.std.proofs.lemmas.Option.{slice_get-get_or, none-some}
use Rattle.std.proofs.lemmas.Nat.{mod_below}
use Rattle.rand_pcg.specs.Lcg.{Lcg}
use Rattle.qs_calls.specs.declared.event.Side.{Side}
use Rattle.qs_calls.specs.declared.event.Act.{Act}
use Rattle.qs_calls.specs.declared.event.Act.TheVariants as acts
use Rattle.qs_calls.specs.declared.event.Event.{Event}
use Rattle.qs_world.specs.declared.draws.Kind.{Kind}
use Rattle.qs_world.specs.declared.draws.Kind.TheVariants as kinds
use Rattle.qs_world.specs.declared.report.PlayFault.{PlayFault}
use Rattle.qs_world.specs.declared.report.PlayFault.TheVariants as faults
use Rattle.qs_world.specs.Draws.{draw, after, end_of_stream, of_packets, IsChosen, IsDrawn}
use Rattle.qs_runs.specs.Logs.{made}
use Rattle.qs_runs.specs.Events.{Log, happened}
use Rattle.qs_world.specs.Plays.{Played, IsMissing, IsMissingBy, PlayStep}

draw_below : (m : ℕ) (g : Lcg) → 0 < m → draw m g < m
unfolding draw
draw_below m g some = mod_below _ m some

no_end : (stream x k : ℕ) (g new : Lcg) → IsChosen (end_of_stream stream x g) (acts.Deliver k) new → ⊥
no_end stream x k g new drawn = go (x == 0) (x == 1) drawn.0 where
  go : (a b : Bool) → let chosen : Act × Lcg = if a then (acts.Reset stream (draw 8 g), after g) else if b then (acts.Stop stream (draw 8 g), after g) else (acts.Finish stream, g) in acts.Deliver k ≡ chosen.0 → ⊥
  go true b e = cc e
  go false true e = cc e
  go false false e = cc e

no_loss : (m k : ℕ) (g new : Lcg) → IsChosen (of_packets m acts.Lose g) (acts.Deliver k) new → ⊥
no_loss m k g new drawn = go (m == 0) drawn.0 where
  go : (b : Bool) → let chosen : Act × Lcg = if b then (acts.Make 128, g) else (acts.Lose (draw m g), after g) in acts.Deliver k ≡ chosen.0 → ⊥
  go true e = cc e
  go false e = cc e

below : (m k : ℕ) (g new : Lcg) → IsChosen (of_packets m acts.Deliver g) (acts.Deliver k) new → k < m
below zero k g new drawn = absurd (cc (drawn.0))
below (suc m) k g new drawn = go (suc m == 0) drawn.0 where
  go : (b : Bool) → let chosen : Act × Lcg = if b then (acts.Make 128, g) else (acts.Deliver (draw (suc m) g), after g) in acts.Deliver k ≡ chosen.0 → k < suc m
  go true e = absurd (cc e)
  go false e = let same : k ≡ draw (suc m) g = cc e in rw same (draw_below (suc m) g (omega arith))

-- the packet is one of those made
pub delivers_made : (kind : Kind) (m k : ℕ) (g new : Lcg) → IsDrawn kind m g (acts.Deliver k) new → k < m
delivers_made kinds.Open m k g new drawn = absurd (cc (drawn.0))
delivers_made kinds.Accept m k g new drawn = absurd (cc (drawn.0))
delivers_made kinds.Write m k g new drawn = absurd (drawn.0)
delivers_made kinds.End m k g new drawn = absurd (no_end (draw 8 g) (draw 8 (after g)) k (after (after g)) new drawn)
delivers_made kinds.Read m k g new drawn = absurd (cc (drawn.0))
delivers_made kinds.Make m k g new drawn = absurd (cc (drawn.0))
delivers_made kinds.Lose m k g new drawn = absurd (no_loss m k g new drawn)
delivers_made kinds.Deliver m k g new drawn = below m k g new drawn

there : (xs : List (List ℕ)) (k : ℕ) → k < length xs → slice_get xs k ≡ None → ⊥
there xs k lt none = none-some _ (sym none ∙ slice_get-get_or xs k [] lt)

-- nothing that is drawn is missing
pub not_missing : (h : Log) (s : Side) (kind : Kind) (m : ℕ) (g new : Lcg) (act : Act)
    → m ≡ length (made s (happened h)) → IsDrawn kind m g act new → IsMissingBy h s act → ⊥
not_missing h s kind m g new (acts.Deliver k) count drawn missing =
    there (made s (happened h)) k (let lt = delivers_made kind m k g new drawn in omega (arith, lt, count)) missing
not_missing h s kind m g new act count drawn missing = missing

-- a step that is refused found no memory, where nothing is missing
pub only_memory : (old new : Played) (event : Event) (fault : PlayFault)
    → (IsMissing old.log event → ⊥) → PlayStep {X = ⊤} old event (Err fault) new → fault ≡ faults.NoMemory
only_memory old new event faults.NoMemory not step = refl
only_memory old new event (faults.NoSuchPacket k) not step = absurd (let (same, missing, count) = step in not missing)
only_memory old new event (faults.Setup fault) not step = absurd step
