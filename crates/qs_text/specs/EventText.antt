-- Of public contracts.
-- Events and what they were answered, as text.
use Rattle.std.specs.Prelude.{ℕ, Bool, true, false, List, [], ◌∷◌, ◌++◌, flat_map, codes, decimal, Option, None, Some, Result, Ok, Err, nat_lt, if◌then◌else◌}
use Rattle.std.specs.Fmt.{digits}
use Rattle.hex.specs.Hex.{encode_lower}
use Rattle.qs_wire.specs.declared.stream_id.Dir.{Dir}
use Rattle.qs_wire.specs.declared.stream_id.Dir.TheVariants.{Bidi, Uni}
use Rattle.qs_recv.specs.declared.half.Read.{Read}
use Rattle.qs_recv.specs.declared.half.Read.TheVariants as reads
use Rattle.qs_calls.specs.declared.closing.Closing.{Closing}
use Rattle.qs_calls.specs.declared.closing.Received.{Received}
use Rattle.qs_calls.specs.declared.closing.Received.TheVariants as received
use Rattle.qs_calls.specs.declared.making.Made.{Made}
use Rattle.qs_calls.specs.declared.making.MakeFault.{MakeFault}
use Rattle.qs_calls.specs.declared.making.MakeFault.TheVariants as making
use Rattle.qs_calls.specs.declared.making.LostFault.{LostFault}
use Rattle.qs_calls.specs.declared.making.LostFault.TheVariants as losing
use Rattle.qs_calls.specs.declared.uses.OpenFault.{OpenFault}
use Rattle.qs_calls.specs.declared.uses.OpenFault.TheVariants as opening
use Rattle.qs_calls.specs.declared.uses.UseFault.{UseFault}
use Rattle.qs_calls.specs.declared.uses.UseFault.TheVariants as uses
use Rattle.qs_calls.specs.declared.event.Side.{Side}
use Rattle.qs_calls.specs.declared.event.Side.TheVariants.{A, B}
use Rattle.qs_calls.specs.declared.event.Act.{Act}
use Rattle.qs_calls.specs.declared.event.Act.TheVariants as acts
use Rattle.qs_calls.specs.declared.event.Event.{Event}
use Rattle.qs_calls.specs.declared.answer.Answer.{Answer}
use Rattle.qs_calls.specs.declared.answer.Answer.TheVariants as answers

-- a space, and then the word
abbrev pub also : List ℕ → List ℕ
also word = codes " " ++ word

abbrev pub line : List ℕ → List ℕ
line words = words ++ 10 ∷ []

-- bytes as lower-case hex, or a dash where there are none
abbrev pub hex_text : List ℕ → List ℕ
hex_text [] = codes "-"
hex_text (b ∷ bs) = encode_lower (b ∷ bs)

-- a code or a frame type: at least two lower-case hex digits
abbrev pub code_text : ℕ → List ℕ
code_text n = (if nat_lt n 16 then codes "0x0" else codes "0x") ++ digits 16 false n

abbrev pub side_text : Side → List ℕ
side_text A = codes "A"
side_text B = codes "B"

abbrev pub dir_text : Dir → List ℕ
dir_text Bidi = codes "bidi"
dir_text Uni = codes "uni"

abbrev pub yes_text : Bool → List ℕ
yes_text true = codes "yes"
yes_text false = codes "no"

abbrev pub closing_text : Closing → List ℕ
closing_text c = codes "closing" ++ also (code_text c.code) ++ also (code_text c.frame_type) ++ also (decimal c.place)

-- Events

abbrev pub act_text : Act → List ℕ → List ℕ
act_text (acts.OpenStream dir) side = codes "open" ++ side ++ also (dir_text dir)
act_text acts.Accept side = codes "accept" ++ side
act_text (acts.Write n bytes) side = codes "write" ++ side ++ also (decimal n) ++ also (hex_text bytes.items)
act_text (acts.Finish n) side = codes "finish" ++ side ++ also (decimal n)
act_text (acts.Reset n code) side = codes "reset" ++ side ++ also (decimal n) ++ also (decimal code)
act_text (acts.Stop n code) side = codes "stop" ++ side ++ also (decimal n) ++ also (decimal code)
act_text (acts.ReadUpTo n size) side = codes "read" ++ side ++ also (decimal n) ++ also (decimal size)
act_text (acts.Make room) side = codes "make" ++ side ++ also (decimal room)
act_text (acts.Lose k) side = codes "lose" ++ side ++ also (decimal k)
act_text acts.Claim side = codes "claim" ++ side
act_text (acts.Deliver k) side = codes "deliver" ++ side ++ also (decimal k)

-- an event as a script has it
abbrev pub event_text : Event → List ℕ
event_text event = act_text event.act (also (side_text event.end))

-- a script of these events, one a line
abbrev pub script_text : List Event → List ℕ
script_text events = flat_map (λ event. line (event_text event)) events

-- Answers

abbrev pub use_fault_text : UseFault → List ℕ
use_fault_text uses.NoSuchStream = codes "no-such-stream"
use_fault_text uses.WrongDirection = codes "wrong-direction"
use_fault_text uses.Finished = codes "finished"
use_fault_text uses.WasReset = codes "was-reset"
use_fault_text uses.Closed = codes "closed"
use_fault_text uses.NoMemory = codes "no-memory"

abbrev pub open_text : Result ℕ OpenFault → List ℕ
open_text (Ok n) = codes "stream " ++ decimal n
open_text (Err (opening.Blocked count)) = codes "blocked " ++ decimal count
open_text (Err opening.Closed) = codes "closed"
open_text (Err opening.NoMemory) = codes "no-memory"

abbrev pub accept_text : Option ℕ → List ℕ
accept_text (Some n) = codes "stream " ++ decimal n
accept_text None = codes "none"

abbrev pub write_text : Result ℕ UseFault → List ℕ
write_text (Ok count) = codes "wrote " ++ decimal count
write_text (Err fault) = use_fault_text fault

abbrev pub use_text : Result (Unit {0}) UseFault → List ℕ
use_text (Ok done) = codes "ok"
use_text (Err fault) = use_fault_text fault

abbrev pub read_text : Result Read UseFault → List ℕ → List ℕ
read_text (Ok (reads.Bytes count)) bytes = codes "bytes " ++ hex_text bytes
read_text (Ok reads.End) bytes = codes "end"
read_text (Ok (reads.Reset code)) bytes = codes "reset " ++ decimal code
read_text (Ok reads.Wait) bytes = codes "wait"
read_text (Err fault) bytes = use_fault_text fault

abbrev pub make_fault_text : MakeFault → List ℕ
make_fault_text making.Closed = codes "closed"
make_fault_text making.NoMemory = codes "no-memory"
make_fault_text making.Exhausted = codes "exhausted"

abbrev pub make_text : Result (Option Made) MakeFault → List ℕ → List ℕ
make_text (Ok (Some made)) payload = codes "packet " ++ decimal made.number ++ also (hex_text payload)
make_text (Ok None) payload = codes "nothing"
make_text (Err fault) payload = make_fault_text fault

abbrev pub lose_text : Result (Unit {0}) LostFault → List ℕ
lose_text (Ok done) = codes "ok"
lose_text (Err losing.NotOutstanding) = codes "not-outstanding"
lose_text (Err losing.NoMemory) = codes "no-memory"
lose_text (Err losing.Closed) = codes "closed"

abbrev pub claim_text : Result ℕ MakeFault → List ℕ
claim_text (Ok number) = codes "number " ++ decimal number
claim_text (Err fault) = make_fault_text fault

abbrev pub deliver_text : Result Received Closing → List ℕ
deliver_text (Ok received.Done) = codes "done"
deliver_text (Ok received.Duplicate) = codes "duplicate"
deliver_text (Ok received.BelowFloor) = codes "below-floor"
deliver_text (Ok (received.PeerClosed code)) = codes "peer-closed " ++ decimal code
deliver_text (Ok received.NoMemory) = codes "no-memory"
deliver_text (Err closing) = closing_text closing

abbrev pub answer_text : Answer → List ℕ
answer_text (answers.OpenStream r) = open_text r
answer_text (answers.Accept r) = accept_text r
answer_text (answers.Write r) = write_text r
answer_text (answers.Finish r) = use_text r
answer_text (answers.Reset r) = use_text r
answer_text (answers.Stop r) = use_text r
answer_text (answers.ReadUpTo r bytes) = read_text r bytes.items
answer_text (answers.Make r payload) = make_text r payload.items
answer_text (answers.Lose r) = lose_text r
answer_text (answers.Claim r) = claim_text r
answer_text (answers.Deliver r) = deliver_text r

-- an event with its answer
abbrev pub step_text : Event × Answer → List ℕ
step_text x = event_text x.0 ++ codes " -> " ++ answer_text x.1
