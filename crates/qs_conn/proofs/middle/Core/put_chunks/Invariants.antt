use Rattle.std.proofs.Common.{◌≡◌, ℕ, ◌-◌, Bool, true, is_some, length, take}
use Rattle.qs_machine.specs.Tables.{lookup}
use Rattle.qs_machine.specs.Ends.{End}
use Rattle.qs_machine.specs.Outgoing.{sent_sum}
use Rattle.qs_conn.specs.declared.filling.Wish.{Wish}
use Rattle.qs_machine.specs.Filling.{IsAsked}
use Rattle.qs_conn.specs.Middle.{FillsOn, end_of}
use Rattle.qs_conn.specs.Filling.{Flow, IsOnWay, turn_at}
use Rattle.qs_conn.proofs.Flows.{Chunking}
use Rattle.qs_conn.proofs.middle.Core.put_chunks.Given as goal

abbrev pub invariant-loop-chunk : goal.invariant-loop-chunk
invariant-loop-chunk l =
    record {
      chunking : (around : Bool) (first : ℕ) (wish : Wish) (room : ℕ) (old e : End) → IsAsked wish.want l.fn.stream → room ≡ length l.fn.out → IsOnWay around first l.fn.stream
          → Flow wish room old (take l.fn.packet.len l.fn.out) (end_of l.fn.self e) l.fn.packet.quota l.fn.packet.is_full (turn_at around first l.fn.stream)
          → Chunking wish room old (take l.len l.out) (end_of l.self e) l.quota around first l.fn.stream;
      is_open : is_some (lookup l.self.outbox.sends l.fn.stream) ≡ true;
      fresh : l.fresh ≡ l.self.limits.known_data - sent_sum l.self.outbox.sends;
      filled : FillsOn l.fn.self l.fn.out l.fn.packet.len l.self l.out l.len 0;
    }

abbrev pub decreases-loop-chunk : goal.decreases-loop-chunk
decreases-loop-chunk l = length l.fn.out - l.len
