-- The lines of a report compute, and a run of one step.
use Rattle.std.proofs.Common.{◌≡◌, ℕ, [], ◌∷◌, refl, sym, ap, subst, arith, inl, inr}
use Rattle.std.specs.Prelude.{Result, Ok, Err}
use Rattle.qs_wire.specs.declared.stream_id.Role.TheVariants.{Client, Server}
use Rattle.qs_calls.specs.Settings.{limits_of, default_tuning}
use Rattle.qs_machine.specs.Ends.{End, new_end, opens}
use Rattle.qs_machine.specs.Credit.{settle}
use Rattle.qs_machine.specs.Examples.{standard}
use Rattle.qs_calls.specs.declared.uses.OpenFault.{OpenFault}
use Rattle.qs_calls.specs.declared.settings.SetupFault.{SetupFault}
use Rattle.qs_wire.specs.declared.stream_id.Dir.TheVariants.{Bidi}
use Rattle.qs_calls.specs.declared.event.Side.TheVariants.{A}
use Rattle.qs_calls.specs.declared.event.Act.TheVariants as acts
use Rattle.qs_calls.specs.declared.answer.Answer.TheVariants as answers
use Rattle.qs_machine.specs.EndStep.{Open}
use Rattle.qs_runs.specs.Logs.{Happening}
use Rattle.qs_runs.specs.Events.{EventRun}
use Rattle.qs_runs.specs.Worlds.{World, WorldStep}
use Rattle.std.proofs.lemmas.Option.{same_Some}
use Rattle.std.specs.Fmt.{digits}
use Rattle.qs_world.specs.Examples.{StreamsBeginAtZero, ReportLines, Examples}

client_begins : End
client_begins = new_end Client standard default_tuning (limits_of standard)

server_begins : End
server_begins = new_end Server standard default_tuning (limits_of standard)

abbrev number_in : Result ℕ OpenFault → ℕ
number_in (Ok n) = n
number_in (Err fault) = 9

four_is_not : (n : ℕ) → 4 ≡ n → (4 ≡ n → ⊥) → ⊥
four_is_not n e differs = differs e

same_world : (v w : World) → ◌≡◌ {A = Result World SetupFault} (Ok v) (Ok w) → v ≡ w
same_world v w e = cc

not_four : (w : World) → EventRun standard standard ((record { end = A; act = acts.OpenStream Bidi }, answers.OpenStream (Ok 4)) ∷ []) w → ⊥
not_four w (v, first, (x, is, step)) =
    let begins : World = record { a = new_end Client standard default_tuning (limits_of standard); b = new_end Server standard default_tuning (limits_of standard) } in
    let same : begins ≡ v = same_world begins v first in
    let opens_four : Happening = record { end = A; call = Open Bidi; answer = Ok 4 } in
    let at : WorldStep [] begins opens_four w = subst (λ y. WorldStep [] y opens_four w) (sym same) (subst (λ y. WorldStep [] v y w) (sym (same_Some opens_four x is)) step) in
    elim at.step [
      | inl none ↦ four_is_not 9 (ap number_in none.0) (omega arith)
      | inr opened ↦ four_is_not 0 (ap number_in opened.0) (omega arith)
    ]

opened_zero : StreamsBeginAtZero
unfolding client_begins server_begins
opened_zero =
    record {
      world = record { a = settle (opens 0 client_begins); b = server_begins };
      runs = (record { a = client_begins; b = server_begins }, refl, (record { end = A; call = Open Bidi; answer = Ok 0 }, refl, record { step = inr (refl, refl); still = refl; may = λ unclosed. tt }));
      not_four = not_four;
    }

report_lines : ReportLines
unfolding digits
report_lines = record { lane = refl; other_lane = refl; end = refl; closed_end = refl }

pub examples_hold : Examples
examples_hold = record { first_stream = opened_zero; reports = report_lines }
