use Rattle.std.proofs.Common.{◌≡◌, ℕ, ◌-◌, ◌≤◌, ◌^◌, length, take}
use Rattle.qs_machine.specs.Ends.{End}
use Rattle.qs_conn.specs.declared.filling.Wish.{Wish}
use Rattle.qs_conn.specs.Middle.{FillsOn, StayIdle, end_of}
use Rattle.qs_conn.specs.Filling.{kind_first, slot_at, slot_place, Stage}
use Rattle.qs_conn.proofs.middle.Core.put_marked.Given as goal

abbrev pub invariant-loop-stream : goal.invariant-loop-stream
invariant-loop-stream l =
    record {
      small : l.from ≤ 2 ^ 62;
      stage : (wish : Wish) (room : ℕ) (old e : End) → room ≡ length l.fn.out
          → Stage wish room old (take l.fn.packet.len l.fn.out) (end_of l.fn.self e) l.fn.packet.is_full (kind_first l.fn.kind)
          → Stage wish room old (take l.packet.len l.out) (end_of l.self e) l.packet.is_full (slot_place (slot_at l.fn.kind l.from));
      still : StayIdle l.fn.self l.self;
      filled : FillsOn l.fn.self l.fn.out l.fn.packet.len l.self l.out l.packet.len 0;
    }

abbrev pub decreases-loop-stream : goal.decreases-loop-stream
decreases-loop-stream l = 2 ^ 62 - l.from
