use Rattle.std.proofs.Common.{Result, length}
use Rattle.std.specs.List.{FoldsTo}
use Rattle.qs_calls.specs.declared.closing.Closing.{Closing}
use Rattle.qs_calls.specs.declared.closing.Received.{Received}
use Rattle.qs_send.specs.Records.{NoneEmpty}
use Rattle.qs_wire.specs.Grammar.{frames_of}
use Rattle.qs_machine.specs.Ends.{End}
use Rattle.qs_machine.specs.Newly.{gone, in_turn, newly_acked}
use Rattle.qs_machine.specs.Receiving.{Takes, TakesPayload}
use Rattle.qs_machine.specs.Seen.{seen_all}
use Rattle.qs_machine.proofs.NewlyTold.{Within}
use Rattle.qs_conn.proofs.endpoint.Endpoint.take_payload.Given as goal

-- What is so from here on is so of the whole payload.
abbrev pub invariant-loop-placed : goal.invariant-loop-placed
invariant-loop-placed g l =
    record {
      onward : (result : Result Received Closing) (new : End) → Takes l.number l.frames.fault l.asks l.self l.frames.left result new → TakesPayload l.number l.payload l.initial.self result new;
      full : NoneEmpty l.self.outstanding;
      told : (new : End) (t : _) → Within new l.self → FoldsTo g.T.Told.tells l.told (in_turn (seen_all (frames_of l.frames.left)) (gone l.self new)) t → FoldsTo g.T.Told.tells l.initial.told (newly_acked l.initial.self l.payload new) t;
    }

abbrev pub decreases-loop-placed : goal.decreases-loop-placed
decreases-loop-placed g l = length l.frames.left
