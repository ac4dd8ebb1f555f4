use Rattle.std.proofs.Common.{◌≡◌, sym, ap, ◌∙◌, refl, ◌<◌, length, arith}
use Rattle.std.proofs.lemmas.Bool.{eqb-true, eqb-false}
use Rattle.qs_wire.proofs.Payloads.{at_fault, at_end, at_start, stopped}
use Rattle.qs_wire.proofs.frames.Frames.next.Goals as goal

pub returns-then-place-gt0-clause-step : goal.returns-then-place-gt0-clause-step
returns-then-place-gt0-clause-step c =
    let empty : length c.self.inside.rest.now ≡ 0 = eqb-true _ _ (sym c.is_empty.ensures ∙ c.if-is_empty.true) in
    (sym c.self.view_is ∙ at_end c.self.inside.place c.self.inside.rest.now c.if-place-gt0.true empty, refl)

pub returns-then-is_empty-clause-step : goal.returns-then-is_empty-clause-step
returns-then-is_empty-clause-step c =
    let empty : length c.self.inside.rest.now ≡ 0 = eqb-true _ _ (sym c.is_empty.ensures ∙ c.if-is_empty.true) in
    (sym c.self.view_is ∙ at_start c.self.inside.place c.self.inside.rest.now c.if-place-gt0.false empty ∙ ap stopped (sym c.fault_at.ensures.exact), refl)

pub returns-in-Ok-clause-step : goal.returns-in-Ok-clause-step
returns-in-Ok-clause-step c = sym c.self.view_is ∙ c.in-Ok.ensures.read.more c.self.inside.place

pub returns-in-Err-clause-step : goal.returns-in-Err-clause-step
returns-in-Err-clause-step c =
    let other = eqb-false (length c.self.inside.rest.now) 0 (sym c.is_empty.ensures ∙ c.if-is_empty.false) in
    let some : 0 < length c.self.inside.rest.now = omega arith in
    (sym c.self.view_is ∙ at_fault c.self.inside.place c.self.inside.rest.now c.in-Err.broken some c.in-Err.ensures.gives ∙ ap stopped (sym c.fault_at-in-Err.ensures.exact), refl)
