use Rattle.std.proofs.Common.{◌≡◌, ℕ, ◌≤◌, [], ◌∷◌, length, take, slice_set, refl, sym, ap, ◌∙◌, arith, subst}
use Rattle.qs_ranges.specs.Runs.{Runs}
use Rattle.qs_ranges.specs.Blocks.{few_runs}
use Rattle.qs_ranges.proofs.few.copy_few.Goals as goal

put_one : (into : Runs) (run : ℕ × ℕ) → 1 ≤ length into → take 1 (slice_set into 0 run) ≡ run ∷ []
put_one [] run some = absurd (omega arith)
put_one (r ∷ rest) run some = refl

put_two : (into : Runs) (low high : ℕ × ℕ) → 2 ≤ length into → take 2 (slice_set (slice_set into 0 low) 1 high) ≡ low ∷ high ∷ []
put_two [] low high some = absurd (omega arith)
put_two (r ∷ []) low high some = absurd (omega arith)
put_two (r ∷ q ∷ rest) low high some = refl

pub returns-in-One-clause-runs : goal.returns-in-One-clause-runs
returns-in-One-clause-runs c =
    let room : 1 ≤ length c.args.into.now = subst (λ value. length (few_runs value) ≤ length c.args.into.now) c.in-One.is c.requires in
    put_one c.args.into.now c.in-One.run' room ∙ ap few_runs (sym c.in-One.is)

pub returns-in-Two-clause-runs : goal.returns-in-Two-clause-runs
returns-in-Two-clause-runs c =
    let room : 2 ≤ length c.args.into.now = subst (λ value. length (few_runs value) ≤ length c.args.into.now) c.in-Two.is c.requires in
    put_two c.args.into.now c.in-Two.low c.in-Two.high room ∙ ap few_runs (sym c.in-Two.is)
