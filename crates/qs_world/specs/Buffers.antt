-- Of private contracts.
-- What a call answers with bytes: how many there may be, and how many there are.
use Rattle.std.specs.Prelude.{ℕ, ◌≤◌, List, [], ◌∷◌, length, Option, Some, Result, Ok}
use Rattle.qs_recv.specs.declared.half.Read.{Read}
use Rattle.qs_recv.specs.declared.half.Read.TheVariants.{Bytes}
use Rattle.qs_calls.specs.declared.uses.UseFault.{UseFault}
use Rattle.qs_calls.specs.declared.making.Made.{Made}
use Rattle.qs_calls.specs.declared.making.MakeFault.{MakeFault}
use Rattle.qs_calls.specs.declared.event.Act.{Act}
use Rattle.qs_calls.specs.declared.event.Act.TheVariants.{ReadUpTo, Make}
use Rattle.qs_calls.specs.declared.answer.Answer.{Answer}
use Rattle.qs_calls.specs.declared.answer.Answer.TheVariants as answers
use Rattle.qs_runs.specs.Events.{Log}

-- the most bytes with which an act is answered
abbrev pub room_of : Act → ℕ
room_of (ReadUpTo n size) = size
room_of (Make room) = room
room_of act = 0

-- how many bytes a read answers
abbrev pub count_read : Result Read UseFault → ℕ
count_read (Ok (Bytes count)) = count
count_read answer = 0

-- how many bytes a packet has
abbrev pub count_made : Result (Option Made) MakeFault → ℕ
count_made (Ok (Some made)) = made.len
count_made answer = 0

-- the bytes of a read, or the payload
abbrev pub bytes_of : Answer → List ℕ
bytes_of (answers.ReadUpTo result bytes) = bytes.items
bytes_of (answers.Make result text) = text.items
bytes_of answer = []

-- the newest answer has at most so many bytes
abbrev pub LastFits : ℕ → Log → Type 0
LastFits room [] = ⊥
LastFits room (x ∷ log) = length (bytes_of x.1) ≤ room
