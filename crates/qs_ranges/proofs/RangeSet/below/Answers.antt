use Rattle.std.proofs.Common.{◌≡◌, ℕ, ◌≤◌, [], ◌∷◌, arith}
use Rattle.std.proofs.lemmas.Bool.Decides.{nat_tests}
use Rattle.qs_ranges.specs.Numbers.{numbers, contains-numbers}
use Rattle.qs_ranges.specs.Runs.{set_of}
use Rattle.qs_ranges.specs.Blocks.{Blocks, runs_of}
use Rattle.qs_ranges.specs.declared.few.Few.{Few}
use Rattle.qs_ranges.specs.declared.few.Few.TheVariants as few
use Rattle.qs_ranges.proofs.Edits.{set_of-is}
use Rattle.qs_ranges.proofs.RangeSet.below.Goals as goal
use Rattle.qs_ranges.proofs.RangeSet.below.Goals.{then-n-gt0, else-n-gt0}

one_run : (n : ℕ) (blocks : Blocks) (value : Few) → blocks ≡ [] → value ≡ few.One (0, n) → set_of (runs_of blocks value) ≡ numbers 0 n
one_run n blocks value empty is =
    rw (empty, is) (set_of-is ((0, n) ∷ []) (numbers 0 n) (λ q. grind (arith, nat_tests, contains-numbers 0 n q)))

no_run : (n : ℕ) (blocks : Blocks) (value : Few) → blocks ≡ [] → value ≡ few.InBlocks 0 → n ≤ 0 → set_of (runs_of blocks value) ≡ numbers 0 n
no_run n blocks value empty is le =
    rw (empty, is) (set_of-is [] (numbers 0 n) (λ q. grind (arith, nat_tests, contains-numbers 0 n q)))

pub returns : goal.returns
returns c =
    elim c.if-n-gt0.branch [
      | then-n-gt0 w ↦ one_run c.args.n _ _ c.new.ensures.items w.few-is
      | else-n-gt0 w ↦ no_run c.args.n _ _ c.new.ensures.items w.few-is w.if-n-gt0.false
    ]
