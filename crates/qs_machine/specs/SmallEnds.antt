-- Of laws.
-- Small ends, and halves of a stream, of which exclusions speak.
use Rattle.std.specs.Prelude.{ℕ, Bool, true, false, List, [], ◌∷◌, Some}
use Rattle.std.specs.FinMap as fmap
use Rattle.std.specs.FinSet as set
use Rattle.qs_ranges.specs.Numbers.{numbers}
use Rattle.qs_recv.specs.Lane.{RecvLane, new_lane as new_recv_lane, take_stream}
use Rattle.qs_recv.specs.declared.credit.Share.TheVariants.{Half}
use Rattle.qs_send.specs.Lane.{SendLane, new_lane as new_send_lane, write_lane, sent_lane, finish_lane}
use Rattle.qs_send.specs.declared.parts.Chunk.{Chunk}
use Rattle.qs_send.specs.declared.piece.Piece.{Piece}
use Rattle.qs_machine.specs.Tables.{Tables}
use Rattle.qs_machine.specs.Ends.{End}
use Rattle.qs_machine.specs.Examples.{standard, server, client_of}

-- one stream is open, number 0
abbrev pub only : {X : Type 0} → X → Tables X
only x = record { client_bidi = x ∷ []; server_bidi = []; client_uni = []; server_uni = [] }

-- a client that opened stream 0, with this sending half
abbrev pub client_with : SendLane → End
client_with l = record (client_of standard) { sends = only l; recvs = only (new_recv_lane 1024 Half) }

-- a server whose peer opened stream 0, with this receiving half
abbrev pub server_with : RecvLane → End
server_with l = record (server standard) { sends = only (new_send_lane 0 1024 2048); recvs = only l }

-- the end with packet 0 outstanding, which carried this piece alone
abbrev pub carrying : Piece → End → End
carrying p e = record e { next = 1; outstanding = fmap.insert fmap.empty 0 (p ∷ []) }

abbrev pub abc : List ℕ
abc = 97 ∷ 98 ∷ 99 ∷ []

abbrev pub chunk : ℕ → ℕ → Bool → Chunk
chunk offset len fin = record { offset = offset; len = len; fin = fin }

-- Sending halves

abbrev pub begun : SendLane
begun = new_send_lane 0 1024 2048

-- three bytes were written
abbrev pub wrote : SendLane
wrote = write_lane begun abc

-- and sent
abbrev pub sent : SendLane
sent = sent_lane wrote (chunk 0 3 false)

-- of the three bytes that were sent the second is acknowledged
abbrev pub second_acked : SendLane
second_acked = record sent { acked = numbers 1 2 }

-- the end was asked for with nothing written
abbrev pub finished : SendLane
finished = finish_lane begun

-- reset before anything was sent, with code 7
abbrev pub reset_half : SendLane
reset_half = record wrote { kept = []; was_reset = Some (record { code = 7; size = 0 }) }

-- Receiving halves

abbrev pub fresh : RecvLane
fresh = new_recv_lane 1024 Half

-- three bytes came, and they aren't the last ones
abbrev pub three_came : RecvLane
three_came = take_stream fresh 0 abc false

-- all three bytes and the end came
abbrev pub all_came : RecvLane
all_came = take_stream fresh 0 abc true

-- its limit was raised to 2000
abbrev pub raised_half : RecvLane
raised_half = record fresh { limit = 2000 }

-- Ends

-- a server that raised its connection limit to 5000
abbrev pub raised : End
raised = record (server standard) { granted = 5000 }

-- a client that made packets 0 to 3, all of which are acknowledged
abbrev pub four_made : End
four_made = record (client_of standard) { next = 4 }

-- a client that processed its peer's packets 1 and 3, and owes an ACK
abbrev pub owing : End
owing = record (client_with wrote) { done = set.insert (set.insert set.empty 1) 3; ack_due = true }
