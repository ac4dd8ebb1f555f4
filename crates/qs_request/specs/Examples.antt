-- Of laws.
-- What some command lines ask for, and what they don't.
use Rattle.std.specs.Prelude.{◌≡◌, true, false, List, [], ◌∷◌, Option, None, codes}
use Rattle.std.specs.Borrow.{Bor}
use Rattle.clap.specs.Words.{Text}
use Rattle.qs_calls.specs.declared.settings.Settings.{Settings}
use Rattle.qs_machine.specs.Examples.{standard}
use Rattle.qs_request.specs.declared.command_line.Request.TheVariants.{Play, Random}
use Rattle.qs_request.specs.Requests.{AsksFor, MakeSense}

abbrev pub drained : List Text
drained = codes "qstream" ∷ codes "play" ∷ codes "f" ∷ codes "--drain" ∷ []

pub record Examples (file : Bor Text) (is_f : file.now ≡ codes "f") : Type 0 where
  pub plays : AsksFor (codes "qstream" ∷ codes "play" ∷ codes "f" ∷ []) (Play file standard false None)
  pub drains : AsksFor drained (Play file standard true None)
  pub only_drains : (s : Settings) (qlog : Option (Bor Text)) → AsksFor drained (Play file s false qlog) → ⊥
  pub draws : AsksFor (codes "qstream" ∷ codes "random" ∷ codes "07" ∷ codes "10000" ∷ []) (Random 7 10000)
  pub too_many : MakeSense (codes "qstream" ∷ codes "random" ∷ codes "7" ∷ codes "10001" ∷ []) → ⊥
  pub twice : MakeSense (codes "qstream" ∷ codes "play" ∷ codes "f" ∷ codes "--drain" ∷ codes "--drain" ∷ []) → ⊥
  pub help : MakeSense (codes "qstream" ∷ codes "help" ∷ []) → ⊥
  pub nothing : MakeSense (codes "qstream" ∷ []) → ⊥
