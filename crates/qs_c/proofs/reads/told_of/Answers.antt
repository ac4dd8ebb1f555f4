use Rattle.std.proofs.Common.{ℕ, ◌+◌, List, sym, ap, ◌∙◌, arith}
use Rattle.qs_wire.specs.Layout.{view}
use Rattle.qs_wire.proofs.Ranges.{none_from_default}
use Rattle.qs_c.specs.Places.{as_sizes, laid_of}
use Rattle.qs_c.proofs.Told.{never, read_is}
use Rattle.qs_c.proofs.reads.told_of.Goals as goal

pub returns-in_default : goal.returns-in_default
returns-in_default c payload stands le =
    let p = c.args.placed.now in
    let z = c.sizes-mid.result in
    let bytes : List ℕ = c.args.bytes.now in
    let none = none_from_default (laid_of c.lead-numbers.result z.0 (z.1 + z.2) z.3 bytes) c.laid.result c.laid.ensures.exact c.in_default.not-Some in
    never bytes p.place p.frame_type (view p.frame) c.requires.first.0 (as_sizes z) _ (λ i. omega (arith, c.type_inv.bytes i)) c.requires.first.1 c.sizes-mid.ensures
    (sym none ∙ ap (λ (n : ℕ). laid_of n z.0 (z.1 + z.2) z.3 bytes) c.lead-numbers.ensures)

pub returns : goal.returns
returns c payload stands le =
    let p = c.args.placed.now in
    let z = c.sizes-mid.result in
    let bytes : List ℕ = c.args.bytes.now in
    let laid = sym c.in-Some.is ∙ c.laid.ensures.exact ∙ ap (λ (n : ℕ). laid_of n z.0 (z.1 + z.2) z.3 bytes) c.lead-numbers.ensures in
    read_is payload bytes c.args.at p.place p.frame_type (view p.frame) c.requires.first.0 (c.in-Some.start, c.in-Some.ranges, c.in-Some.end) (as_sizes z) c.of.result (λ i. omega (arith, c.type_inv.bytes i)) c.requires.first.1
    c.sizes-mid.ensures laid c.of.ensures c.in-Some.ensures.within.0 stands le
