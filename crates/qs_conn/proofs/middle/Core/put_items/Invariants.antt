use Rattle.std.proofs.Common.{◌≡◌, ℕ, ◌-◌, ◌≤◌, length, take, true, false}
use Rattle.qs_machine.specs.Ends.{End}
use Rattle.qs_conn.specs.declared.due.Slot.{Slot}
use Rattle.qs_streams.specs.Rows.{on}
use Rattle.qs_conn.specs.Middle.{FillsOn, end_of, own_below}
use Rattle.qs_conn.specs.Filling.{no_slot, slot_place, Stage}
use Rattle.qs_conn.specs.Marks.{IsIdle}
use Rattle.qs_conn.proofs.middle.Core.put_items.Given as goal

abbrev pub invariant-loop-place : goal.invariant-loop-place
invariant-loop-place l =
    record {
      small : l.from ≤ 10;
      stage : (room : ℕ) (old e : End) → room ≡ length l.fn.out
          → Stage l.fn.wish room old (take l.fn.packet.len l.fn.out) (end_of l.fn.self e) l.fn.packet.is_full no_slot
          → Stage l.fn.wish room old (take l.packet.len l.out) (end_of l.self e) l.packet.is_full (l.from, 0);
      idle : (s : Slot) (e : End) → on l.places (slot_place s).0 ≡ false → IsIdle (end_of l.self e) s;
      filled : FillsOn l.fn.self l.fn.out l.fn.packet.len l.self l.out l.packet.len (own_below l.from);
    }

abbrev pub decreases-loop-place : goal.decreases-loop-place
decreases-loop-place l = 10 - l.from
