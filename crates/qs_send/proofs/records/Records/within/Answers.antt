use Rattle.std.proofs.Common.{◌≡◌, ℕ, ◌-◌, min, arith, rules}
use Rattle.qs_send.proofs.Outstanding.{above_within, none_within}
use Rattle.qs_send.proofs.records.Records.within.Goals as goal

counted : (below base count less len deque slots : ℕ) → count ≡ min less len → less ≡ below - base → len ≡ deque → deque ≡ slots → count ≡ min (below - base) slots
counted below base count less len deque slots a b c d = omega (arith, a, b, c, d)

pub returns-then-len-lt-PER_WORD-clause-above : goal.returns-then-len-lt-PER_WORD-clause-above
returns-then-len-lt-PER_WORD-clause-above c = rw (← c.self.view_is) (search (rules, counted, above_within))

pub returns-then-len-lt-PER_WORD-clause-none : goal.returns-then-len-lt-PER_WORD-clause-none
returns-then-len-lt-PER_WORD-clause-none c =
    let is = counted c.args.below c.self.inside.base _ _ _ _ _ c.min-count.ensures c.saturating_sub-below.ensures c.len.ensures c.self.inside.slots.ok.0 in
    let none = rw (← c.self.view_is) at c.last_looked_at.ensures.none in
    rw (← c.self.view_is) (none_within c.self.inside.base c.args.low c.args.below c.saturating_sub-from.result c.min-count.result c.self.inside.slots.items c.last_looked_at.result c.saturating_sub-from.ensures is none)

pub returns-clause-above : goal.returns-clause-above
returns-clause-above c = rw (← c.self.view_is) (search (rules, counted, above_within))

pub returns-clause-none : goal.returns-clause-none
returns-clause-none c =
    let is = counted c.args.below c.self.inside.base _ _ _ _ _ c.min-count.ensures c.saturating_sub-below.ensures c.len.ensures c.self.inside.slots.ok.0 in
    let none = rw (← c.self.view_is) at c.last_from.ensures.none in
    rw (← c.self.view_is) (none_within c.self.inside.base c.args.low c.args.below c.saturating_sub-from.result c.min-count.result c.self.inside.slots.items c.last_from.result c.saturating_sub-from.ensures is none)
