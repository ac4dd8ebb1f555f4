-- Of laws.
-- What frames find that took effect and come again.
use Rattle.std.specs.Prelude.{◌≡◌, ℕ, ◌+◌, ◌≤◌, ⊤, ◌⊎◌, Bool, true, List, Option, None, Some, is_some, Result, Ok, Err}
use Rattle.qs_wire.specs.Layout.{PlacedValue}
use Rattle.qs_wire.specs.declared.fault.WireFault.{WireFault}
use Rattle.qs_send.specs.Lane.{SendLane}
use Rattle.qs_send.specs.Records.{Among, IsCarried}
use Rattle.qs_send.specs.declared.parts.Chunk.{Chunk}
use Rattle.qs_send.specs.declared.piece.Item.TheVariants.{ResetStream}
use Rattle.qs_send.specs.declared.piece.Piece.{Piece}
use Rattle.qs_send.specs.declared.piece.Piece.TheVariants.{Data, Told}
use Rattle.qs_calls.specs.declared.closing.Closing.{Closing}
use Rattle.qs_calls.specs.declared.closing.Received.{Received}
use Rattle.qs_calls.specs.declared.closing.Received.TheVariants.{Done, Duplicate, BelowFloor, PeerClosed, NoMemory}
use Rattle.qs_machine.specs.Tables.{Tables, lookup}
use Rattle.qs_machine.specs.Ends.{End}
use Rattle.qs_machine.specs.Seen.{Seen}
use Rattle.qs_machine.specs.FrameStep.{held}
use Rattle.qs_machine.specs.Recording.{recorded}
use Rattle.qs_machine.specs.Receiving.{Takes}

-- the offsets of a chunk were written
abbrev pub IsWritten : Option SendLane → Chunk → Type 0
IsWritten None c = ⊥
IsWritten (Some l) c = c.offset + c.len ≤ l.written

-- the half was reset
abbrev pub WasBrokenOff : Option SendLane → Type 0
WasBrokenOff None = ⊥
WasBrokenOff (Some l) = is_some l.was_reset ≡ true

-- data is of an open stream, and its offsets were written; a RESET_STREAM is of one that was reset
abbrev pub WasWritten : Tables SendLane → Piece → Type 0
WasWritten t (Data n c) = IsWritten (lookup t n) c
WasWritten t (Told (ResetStream n code size)) = WasBrokenOff (lookup t n)
WasWritten t (Told item) = ⊤

-- all data was written that outstanding packets carried, or lost ones, and each stream was reset of which they told so
abbrev pub SentWasWritten : End → Type 0
SentWasWritten e = (late : Bool) (p : Piece) → IsCarried (held late e) p → WasWritten e.sends p

-- each of these frames is one of those
abbrev pub AreAmong : List Seen → List Seen → Type 0
AreAmong these those = (f : Seen) → Among f these → Among f those

-- No memory is found and nothing changes, or the processing goes on with the frames that are left.
abbrev pub Resumes : ℕ → Option WireFault → Bool → End → List PlacedValue → Result Received Closing → End → Type 0
Resumes number fault asks e left result new = ((result ≡ Ok NoMemory) × (new ≡ e)) ⊎ Takes number fault asks e left result new

-- There is no fault, and nothing changes but that the number is recorded.
abbrev pub OnlyRecords : ℕ → Bool → Result Received Closing → End → End → Type 0
OnlyRecords number asks (Ok Done) old new = new ≡ recorded number asks old
OnlyRecords number asks (Ok Duplicate) old new = new ≡ old
OnlyRecords number asks (Ok BelowFloor) old new = new ≡ old
OnlyRecords number asks (Ok NoMemory) old new = new ≡ old
OnlyRecords number asks (Ok (PeerClosed code)) old new = ⊥
OnlyRecords number asks (Err closing) old new = ⊥
