use Rattle.std.proofs.Common.{◌≡◌, ℕ, ◌-◌, ◌≤◌, ◌^◌, length, take}
use Rattle.qs_machine.specs.Ends.{End}
use Rattle.qs_conn.specs.declared.filling.Wish.{Wish}
use Rattle.qs_machine.specs.Filling.{IsAsked}
use Rattle.qs_conn.specs.Middle.{FillsOn, end_of}
use Rattle.qs_conn.specs.Filling.{Flow, turn_at, start_of}
use Rattle.qs_conn.proofs.middle.Core.put_way.Given as goal

abbrev pub invariant-loop-stream : goal.invariant-loop-stream
invariant-loop-stream l =
    record {
      small : l.from ≤ 2 ^ 62;
      begun : start_of l.fn.around l.fn.first ≤ l.from;
      flow : (wish : Wish) (room : ℕ) (old e : End) → ((n : ℕ) → IsAsked wish.want n) → room ≡ length l.fn.out
          → Flow wish room old (take l.fn.packet.len l.fn.out) (end_of l.fn.self e) l.fn.packet.quota l.fn.packet.is_full (turn_at l.fn.around l.fn.first (start_of l.fn.around l.fn.first))
          → Flow wish room old (take l.packet.len l.out) (end_of l.self e) l.packet.quota l.packet.is_full (turn_at l.fn.around l.fn.first l.from);
      filled : FillsOn l.fn.self l.fn.out l.fn.packet.len l.self l.out l.packet.len 0;
    }

abbrev pub decreases-loop-stream : goal.decreases-loop-stream
decreases-loop-stream l = 2 ^ 62 - l.from
