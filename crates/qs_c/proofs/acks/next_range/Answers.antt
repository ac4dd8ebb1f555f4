use Rattle.std.proofs.Common.{ℕ, ◌^◌, refl, sym, ◌∙◌, arith}
use Rattle.std.proofs.lemmas.Bool.{lt-ltb}
use Rattle.qs_c.proofs.Told.{by_true}
use Rattle.qs_c.proofs.Ranges.{more_ranges, last_range, first_told}
use Rattle.qs_c.proofs.acks.next_range.Goals as goal

pub returns-in-Some-next : goal.returns-in-Some-next
returns-in-Some-next c =
    let first : ℕ × ℕ = (c.in-Some.smallest, c.in-Some.top) in
    let all = sym c.new-ranges.ensures ∙ c.in-Some.ensures.step in
    let more = more_ranges c.args.largest.now c.args.bytes.now first c.next.new.self c.in-Some-next.field-0-0 c.in-Some-next.below c.next-2.new.self all c.in-Some-next.ensures.step in
    by_true _ _ _ (lt-ltb c.args.largest.now (2 ^ 62) c.if-largest-ge-LIMIT.false)
    (first_told _ first c.args.bytes.now _ _ _ more.1 refl c.skip.ensures.exact c.skip.ensures.within more.0)

pub returns-in-None : goal.returns-in-None
returns-in-None c =
    let first : ℕ × ℕ = (c.in-Some.smallest, c.in-Some.top) in
    let all = sym c.new-ranges.ensures ∙ c.in-Some.ensures.step in
    by_true _ _ _ (lt-ltb c.args.largest.now (2 ^ 62) c.if-largest-ge-LIMIT.false)
    (first_told _ first c.args.bytes.now _ _ _ (last_range c.args.largest.now c.args.bytes.now first c.next.new.self all c.in-None.ensures.step.0) refl c.skip.ensures.exact c.skip.ensures.within (omega arith))
