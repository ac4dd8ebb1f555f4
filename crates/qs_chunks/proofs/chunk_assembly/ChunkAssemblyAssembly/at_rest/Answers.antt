use Rattle.std.proofs.Common.{◌≡◌, ℕ, ◌∙◌, sym, refl, arith, true}
use Rattle.std.specs.Ordering.{nat_cmp}
use Rattle.std.specs.FinMap as map
use Rattle.std.proofs.lemmas.Bool.Decides.{nat_tests}
use Rattle.qs_ranges.specs.Numbers.{contains-numbers, is_within, numbers}
use Rattle.qs_chunks.proofs.KeptLaws.{kept_none, nothing_stored_in}
use Rattle.qs_chunks.proofs.chunk_assembly.ChunkAssemblyAssembly.at_rest.Goals as goal

pub invariant_of-result : goal.invariant_of-result
invariant_of-result c =
    let end = c.args.end in
    let came = c.requires.came in
    rw (c.new.ensures, c.below.ensures) (
    kept_none (numbers 0 end) c.args.read_count c.args.discarding (λ q below. contains-numbers 0 end q ∙ grind (arith, nat_tests))
    (λ on q some. let all = c.requires.all_read on in let within : is_within 0 end q ≡ true = sym (contains-numbers 0 end q) ∙ some in grind (arith, nat_tests))
    )

pub returns-clause-nothing : goal.returns-clause-nothing
returns-clause-nothing c = rw (c.new.ensures, c.below.ensures, nothing_stored_in) refl

pub returns-clause-small : goal.returns-clause-small
returns-clause-small c = rw (c.new.ensures, nothing_stored_in) (map.len-empty nat_cmp ℕ)
