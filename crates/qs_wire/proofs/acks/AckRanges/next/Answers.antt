use Rattle.std.proofs.Common.{◌-◌, length, sym, ◌∙◌}
use Rattle.qs_wire.proofs.FieldLaws.{number_len, number_rest, number_none}
use Rattle.qs_wire.proofs.Ranges.{ranges_none, ranges_last, ranges_more}
use Rattle.qs_wire.proofs.acks.AckRanges.next.Goals as goal

pub returns-in-Err-clause-step : goal.returns-in-Err-clause-step
returns-in-Err-clause-step c =
    let rest = c.self.inside.rest.now in
    let e = sym c.self.view_is ∙ ranges_none c.self.inside.largest rest (number_none rest c.in-Err.field-0 c.in-Err.ensures.gives) in
    (e, e)

pub returns-in-Ok-number_at-clause-step : goal.returns-in-Ok-number_at-clause-step
returns-in-Ok-number_at-clause-step c =
    let rest = c.self.inside.rest.now in
    let len = c.in-Ok.read.0 in
    let after = c.in-Ok.read.1.now in
    let gap = c.in-Ok-number_at.gap in
    let last = c.in-Ok-number_at.after.now in
    sym c.self.view_is
    ∙ ranges_more c.self.inside.largest c.saturating_sub-smallest.result c.saturating_sub-self-inside.result rest (len, length rest - length after) after
    (gap, length after - length last) last c.saturating_sub-smallest.ensures c.saturating_sub-self-inside.ensures
    (number_len rest len after c.in-Ok.ensures.gives) (number_rest rest len after c.in-Ok.ensures.gives)
    (number_len after gap last c.in-Ok-number_at.ensures.gives) (number_rest after gap last c.in-Ok-number_at.ensures.gives)

pub returns-in_default-clause-step : goal.returns-in_default-clause-step
returns-in_default-clause-step c =
    let rest = c.self.inside.rest.now in
    let len = c.in-Ok.read.0 in
    let after = c.in-Ok.read.1.now in
    sym c.self.view_is
    ∙ ranges_last c.self.inside.largest c.saturating_sub-smallest.result rest (len, length rest - length after) after c.saturating_sub-smallest.ensures
    (number_len rest len after c.in-Ok.ensures.gives) (number_rest rest len after c.in-Ok.ensures.gives) (number_none after c.in_default.field-0 c.in_default.ensures.gives)
