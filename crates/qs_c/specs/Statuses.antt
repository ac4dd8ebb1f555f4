-- Of public contracts.
-- How the calls of C tell what an end answers: by a status, and by what they write through their pointers. The statuses are those of the
-- header, and what isn't written stays. All of it is ours.
use Rattle.std.specs.Prelude.{◌≡◌, ℕ, ◌^◌, Bool, Option, Some, None, Result, Ok, Err, nat_lt, nat_le, nat_eq, ◌&&◌, MatchBool, if◌then◌else◌}
use Rattle.qs_wire.specs.declared.stream_id.Role.{Role}
use Rattle.qs_wire.specs.declared.stream_id.Role.TheVariants.{Client, Server}
use Rattle.qs_wire.specs.declared.stream_id.Dir.{Dir}
use Rattle.qs_wire.specs.declared.stream_id.Dir.TheVariants.{Bidi, Uni}
use Rattle.qs_recv.specs.declared.half.Read.{Read}
use Rattle.qs_recv.specs.declared.half.Read.TheVariants as reads
use Rattle.qs_calls.specs.declared.uses.UseFault.{UseFault}
use Rattle.qs_calls.specs.declared.uses.UseFault.TheVariants as uses
use Rattle.qs_calls.specs.declared.uses.OpenFault.{OpenFault}
use Rattle.qs_calls.specs.declared.uses.OpenFault.TheVariants as opening
use Rattle.qs_calls.specs.declared.making.LostFault.{LostFault}
use Rattle.qs_calls.specs.declared.making.LostFault.TheVariants as losing
use Rattle.qs_calls.specs.declared.making.MakeFault.{MakeFault}
use Rattle.qs_calls.specs.declared.making.MakeFault.TheVariants as making
use Rattle.qs_calls.specs.declared.reading.Consumed.{Consumed}
use Rattle.qs_calls.specs.declared.making.Made.{Made}
use Rattle.qs_calls.specs.declared.filling.Filled.{Filled}
use Rattle.qs_calls.specs.declared.token.Taken.{Taken}
use Rattle.qs_calls.specs.declared.token.Taken.TheVariants.{Took, Unchanged, NotOurs}
use Rattle.qs_calls.specs.declared.token.TakeFault.{TakeFault}
use Rattle.qs_calls.specs.declared.token.TakeFault.TheVariants as taking
use Rattle.qs_calls.specs.declared.token.TokenFault.{TokenFault}
use Rattle.qs_calls.specs.declared.token.TokenFault.TheVariants as tokens
use Rattle.qs_calls.specs.declared.closing.Closing.{Closing}
use Rattle.qs_calls.specs.declared.closing.Received.{Received}
use Rattle.qs_calls.specs.declared.closing.Received.TheVariants as received
use Rattle.qs_calls.specs.declared.settings.Settings.{Settings}
use Rattle.qs_calls.specs.declared.settings.PeerLimits.{PeerLimits}
use Rattle.qs_calls.specs.declared.settings.SetupFault.{SetupFault}
use Rattle.qs_calls.specs.declared.settings.SetupFault.TheVariants.{OutOfRange, TooManyStreams}
use Rattle.qs_calls.specs.declared.settings.RaiseFault.{RaiseFault}
use Rattle.qs_calls.specs.declared.settings.RaiseFault.TheVariants as raising
use Rattle.qs_calls.specs.declared.settings.SetFault.{SetFault}
use Rattle.qs_calls.specs.declared.settings.SetFault.TheVariants as setting
use Rattle.qs_machine.specs.Ends.{End, end_made}
use Rattle.qs_c.specs.declared.structs.GvMade.{GvMade}
use Rattle.qs_c.specs.declared.structs.GvFilled.{GvFilled}
use Rattle.qs_c.specs.declared.structs.GvClosing.{GvClosing}
use Rattle.qs_c.specs.Structs.{made_of, filled_of, closing_of}

-- A call whose numbers are in their ranges; or they aren't, and it is refused, and the end stays.
abbrev pub Tested : Bool → End → End → Type 0 → Type 0 → Type 0
Tested fits old new Refused Step = MatchBool fits Step (Refused × (new ≡ old))

-- A call that changes the end of a handle; refused, too, where the handle holds none.
abbrev pub Called : Option End → Option End → Bool → Type 0 → (End → End → Type 0) → Type 0
Called None None fits Refused Step = Refused
Called None (Some f) fits Refused Step = ⊥
Called (Some e) None fits Refused Step = ⊥
Called (Some e) (Some f) fits Refused Step = Tested fits e f Refused (Step e f)

-- A call that asks the end of a handle, which stays.
abbrev pub Asked : Option End → Option End → Bool → Type 0 → (End → Type 0) → Type 0
Asked None None fits Refused Answer = Refused
Asked None (Some f) fits Refused Answer = ⊥
Asked (Some e) None fits Refused Answer = ⊥
Asked (Some e) (Some f) fits Refused Answer = (f ≡ e) × MatchBool fits (Answer e) Refused

-- A call that only looks at the end of a handle, which it borrows.
abbrev pub Looked : Option End → Bool → Type 0 → (End → Type 0) → Type 0
Looked None fits Refused Answer = Refused
Looked (Some e) fits Refused Answer = MatchBool fits (Answer e) Refused

-- A refusal for a handle without an end, or for a number out of its range.
abbrev pub Invalid : {A : Type 0} → ℕ → A → A → Type 0
Invalid status old new = (status ≡ 1) × (new ≡ old)

-- below 2^62
abbrev pub is_small : ℕ → Bool
is_small n = nat_lt n (2 ^ 62)

-- the room of a payload in bytes
abbrev pub is_room : ℕ → Bool
is_room n = nat_le 128 n && nat_le n 16383

-- a role, or a direction
abbrev pub is_flag : ℕ → Bool
is_flag n = nat_lt n 2

-- of a number that is one
abbrev pub role_of : ℕ → Role
role_of n = if nat_eq n 0 then Client else Server

-- of a number that is one
abbrev pub dir_of : ℕ → Dir
dir_of n = if nat_eq n 0 then Bidi else Uni

-- why a stream cannot be used so
abbrev pub use_status : UseFault → ℕ
use_status uses.NoMemory = 2
use_status uses.Closed = 3
use_status uses.NoSuchStream = 4
use_status uses.WrongDirection = 5
use_status uses.Finished = 6
use_status uses.WasReset = 7

-- why no packet was made, or no number given
abbrev pub make_status : MakeFault → ℕ
make_status making.NoMemory = 2
make_status making.Closed = 3
make_status making.Exhausted = 9

abbrev pub lost_status : LostFault → ℕ
lost_status losing.NoMemory = 2
lost_status losing.Closed = 3
lost_status losing.NotOutstanding = 10

abbrev pub token_status : TokenFault → ℕ
token_status tokens.NoMemory = 2
token_status tokens.Closed = 3
token_status tokens.NotGiven = 23

-- why a frame was not taken: the fault by which this end closed, or the peer's code, is asked for apart
abbrev pub take_status : TakeFault → ℕ
take_status taking.NoMemory = 2
take_status (taking.PeerClosed code) = 13
take_status (taking.Closing closing) = 14

-- what came of a frame
abbrev pub taken_number : Taken → ℕ
taken_number Took = 0
taken_number Unchanged = 1
taken_number NotOurs = 2

abbrev pub setup_status : SetupFault → ℕ
setup_status OutOfRange = 19
setup_status TooManyStreams = 20

abbrev pub raise_status : RaiseFault → ℕ
raise_status raising.Closed = 3
raise_status (raising.Refused fault) = setup_status fault

-- why nothing was set anew
abbrev pub set_status : SetFault → ℕ
set_status setting.Closed = 3
set_status setting.NoSuchStream = 4
set_status setting.WrongDirection = 5
set_status setting.OutOfRange = 19

-- an answer that writes nothing
abbrev pub status_of : {F : Type 0} → (F → ℕ) → Result (Unit {0}) F → ℕ
status_of fault_status (Ok done) = 0
status_of fault_status (Err fault) = fault_status fault

-- an answer that writes what was asked for
abbrev pub told : {A F : Type 0} → (F → ℕ) → Result A F → A → ℕ × A
told fault_status (Ok a) old = (0, a)
told fault_status (Err fault) old = (fault_status fault, old)

-- an answer that writes what was found
abbrev pub found : {A : Type 0} → Option A → A → ℕ × A
found (Some a) old = (0, a)
found None old = (15, old)

-- a read writes how many bytes it gave, or the code of the reset
abbrev pub read_told : Result Read UseFault → ℕ → ℕ × ℕ
read_told (Ok (reads.Bytes n)) old = (0, n)
read_told (Ok reads.Wait) old = (16, old)
read_told (Ok reads.End) old = (17, old)
read_told (Ok (reads.Reset code)) old = (18, code)
read_told (Err fault) old = (use_status fault, old)

-- taking bytes writes what a read does, and where bytes were taken whether the end follows
abbrev pub taking_told : Read → Bool → ℕ → Bool → ℕ × ℕ × Bool
taking_told (reads.Bytes n) ends number at_end = (0, n, ends)
taking_told reads.Wait ends number at_end = (16, number, at_end)
taking_told reads.End ends number at_end = (17, number, at_end)
taking_told (reads.Reset code) ends number at_end = (18, code, at_end)

abbrev pub consumed_told : Result Consumed UseFault → ℕ → Bool → ℕ × ℕ × Bool
consumed_told (Ok c) number at_end = taking_told c.read c.at_end number at_end
consumed_told (Err fault) number at_end = (use_status fault, number, at_end)

-- an opening writes the stream, or how many the peer allows
abbrev pub open_told : Result ℕ OpenFault → ℕ → ℕ × ℕ
open_told (Ok stream) old = (0, stream)
open_told (Err (opening.Blocked count)) old = (8, count)
open_told (Err opening.Closed) old = (3, old)
open_told (Err opening.NoMemory) old = (2, old)

abbrev pub made_told : Result (Option Made) MakeFault → GvMade → ℕ × GvMade
made_told (Ok (Some made)) old = (0, made_of made)
made_told (Ok None) old = (15, old)
made_told (Err fault) old = (make_status fault, old)

abbrev pub filled_told : Result (Option Filled) MakeFault → GvFilled → ℕ × GvFilled
filled_told (Ok (Some filled)) old = (0, filled_of filled)
filled_told (Ok None) old = (15, old)
filled_told (Err fault) old = (make_status fault, old)

abbrev pub taken_told : Result Taken TakeFault → ℕ → ℕ × ℕ
taken_told (Ok taken) old = (0, taken_number taken)
taken_told (Err fault) old = (take_status fault, old)

-- a payload writes why this end closed, or the peer's code alone
abbrev pub received_told : Result Received Closing → GvClosing → ℕ × GvClosing
received_told (Ok received.Done) old = (0, old)
received_told (Ok received.NoMemory) old = (2, old)
received_told (Ok received.Duplicate) old = (11, old)
received_told (Ok received.BelowFloor) old = (12, old)
received_told (Ok (received.PeerClosed code)) old = (13, record old { code = code })
received_told (Err closing) old = (14, closing_of closing)

-- A handle holds a new end, whatever it held.
abbrev pub IsNew : Option End → Type 0
IsNew held = (e : End) × (role : Role) × (settings : Settings) × (peer : PeerLimits) × (held ≡ Some e) × (end_made role settings peer ≡ Ok e)

-- A new end, or the settings are refused, and the end stays.
abbrev pub Starts : Result End SetupFault → ℕ → End → End → Type 0
Starts (Ok made) status old new = (status ≡ 0) × (new ≡ made)
Starts (Err fault) status old new = (status ≡ setup_status fault) × (new ≡ old)
