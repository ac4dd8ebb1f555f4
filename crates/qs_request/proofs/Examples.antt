-- The examples of command lines, by computing.
use Rattle.std.proofs.Common.{◌≡◌, true, false, [], ◌∷◌, Option, None, Some, codes, ap, sym, refl, arith}
use Rattle.std.specs.Borrow.{Bor}
use Rattle.clap.specs.Words.{Text}
use Rattle.clap.proofs.OnLiterals.{clap_on_literals}
use Rattle.qs_calls.specs.declared.settings.Settings.{Settings}
use Rattle.qs_machine.specs.Examples.{standard}
use Rattle.qs_request.specs.Requests.{AsksFor, MakeSense, AreSettings, IsSwitch}
use Rattle.qs_request.specs.declared.command_line.Request.TheVariants.{Frames, Play, Udp, Random}
use Rattle.qs_request.specs.Examples.{Examples, drained}

usual : AreSettings None None standard
usual = record { first = refl; all = refl; ordered = omega arith; others = refl }

is_on : IsSwitch (Some (codes "true")) true
is_on = record { yes = λ e. refl; no = λ e. cc e }

is_off : IsSwitch (Some (codes "false")) false
is_off = record { yes = λ e. cc e; no = λ e. refl }

not_off : IsSwitch (Some (codes "true")) false → ⊥
not_off is =
    let bad : false ≡ true = is.yes refl in
    cc bad

plays : (file : Bor Text) → file.now ≡ codes "f" → AsksFor (codes "qstream" ∷ codes "play" ∷ codes "f" ∷ []) (Play file standard false None)
unfolding clap_on_literals
plays file is = (refl, (refl, ap (λ t. Some t) (sym is), usual, is_off, refl))

drains : (file : Bor Text) → file.now ≡ codes "f" → AsksFor drained (Play file standard true None)
unfolding clap_on_literals
drains file is = (refl, (refl, ap (λ t. Some t) (sym is), usual, is_on, refl))

only_drains : (file : Bor Text) (s : Settings) (qlog : Option (Bor Text)) → AsksFor drained (Play file s false qlog) → ⊥
unfolding clap_on_literals
only_drains file s qlog asks = not_off asks.1.3

draws : AsksFor (codes "qstream" ∷ codes "random" ∷ codes "07" ∷ codes "10000" ∷ []) (Random 7 10000)
unfolding clap_on_literals
draws = (refl, (refl, record { digits = refl; some = omega arith; value = refl; bound = omega arith }, record { digits = refl; some = omega arith; value = refl; bound = omega arith }))

too_many : MakeSense (codes "qstream" ∷ codes "random" ∷ codes "7" ∷ codes "10001" ∷ []) → ⊥
unfolding clap_on_literals
too_many (Frames hex, asks) = cc
too_many (Play file settings drain qlog, asks) = cc
too_many (Udp file qlog, asks) = cc
too_many (Random seed n, asks) =
    let value : 10001 ≡ n = asks.1.2.value in
    omega (arith, value, asks.1.2.bound)

twice : MakeSense (codes "qstream" ∷ codes "play" ∷ codes "f" ∷ codes "--drain" ∷ codes "--drain" ∷ []) → ⊥
unfolding clap_on_literals
twice p = cc p.1.0

help : MakeSense (codes "qstream" ∷ codes "help" ∷ []) → ⊥
unfolding clap_on_literals
help p = cc p.1.0

nothing : MakeSense (codes "qstream" ∷ []) → ⊥
unfolding clap_on_literals
nothing p = cc p.1.0

pub examples_hold : (file : Bor Text) (is_f : file.now ≡ codes "f") → Examples file is_f
examples_hold file is = record {
  plays = plays file is;
  drains = drains file is;
  only_drains = only_drains file;
  draws = draws;
  too_many = too_many;
  twice = twice;
  help = help;
  nothing = nothing;
}
