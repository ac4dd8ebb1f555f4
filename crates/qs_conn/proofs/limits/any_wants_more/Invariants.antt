use Rattle.std.proofs.Common.{ℕ, ◌-◌, ◌<◌, ◌≤◌, ◌^◌}
use Rattle.qs_machine.specs.Tables.{lookup}
use Rattle.qs_machine.specs.Outgoing.{WantsMore}
use Rattle.qs_conn.proofs.limits.any_wants_more.Given as goal

abbrev pub invariant-loop-stream : goal.invariant-loop-stream
invariant-loop-stream l = record { small : l.from ≤ 2 ^ 62; below : (n : ℕ) → n < l.from → WantsMore (lookup l.fn.outbox.sends n) → ⊥ }

abbrev pub decreases-loop-stream : goal.decreases-loop-stream
decreases-loop-stream l = 2 ^ 62 - l.from
