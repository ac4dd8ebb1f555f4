-- Of laws.
-- Laws on receiving lanes and the calls that change them.
use Rattle.std.specs.Prelude.{◌≡◌, ℕ, ◌-◌, ◌≤◌, Bool, true, List, length, slice_get, Some, IsOk, ◌↔◌}
use Rattle.std.specs.FinMap as map
use Rattle.std.specs.FinSet as set
use Rattle.qs_recv.specs.Assembled.{Assembled}
use Rattle.qs_recv.specs.Bytes.{byte_at}
use Rattle.qs_recv.specs.Lane.{MAX_WINDOW, RecvLane, new_lane, highest, taken, check_stream, check_bytes, take_stream, check_reset, take_reset, after_read, stop, stop_and_discard, raise, set_window}
use Rattle.qs_recv.specs.Lawful.{IsLawful}
use Rattle.qs_recv.specs.declared.credit.Share.{Share}

-- a call that may change a lane: a frame that is taken, a read of so many bytes, a stop with a code, one of a stream that is forgotten too, a
-- raise of the limit, another window
pub data LaneCall : Type 0 where
  TakeStream : ℕ → List ℕ → Bool → LaneCall
  TakeReset : ℕ → ℕ → LaneCall
  ReadUpTo : ℕ → LaneCall
  StopWith : ℕ → LaneCall
  ForgetWith : ℕ → LaneCall
  RaiseLimit : LaneCall
  SetWindow : ℕ → LaneCall

-- the lane after a call
abbrev pub after_call : RecvLane → LaneCall → RecvLane
after_call lane (TakeStream offset bytes fin) = take_stream lane offset bytes fin
after_call lane (TakeReset code size) = take_reset lane code size
after_call lane (ReadUpTo room) = after_read lane room
after_call lane (StopWith code) = stop lane code
after_call lane (ForgetWith code) = stop_and_discard lane code
after_call lane (RaiseLimit) = raise lane
after_call lane (SetWindow window) = set_window lane window

-- a frame is taken only once it passed its check, and a window lies in its range
abbrev pub IsAllowed : RecvLane → LaneCall → Type 0
IsAllowed lane (TakeStream offset bytes fin) = IsOk (check_stream lane offset (length bytes) fin)
IsAllowed lane (TakeReset code size) = IsOk (check_reset lane size)
IsAllowed lane (ReadUpTo room) = Unit {0}
IsAllowed lane (StopWith code) = Unit {0}
IsAllowed lane (ForgetWith code) = Unit {0}
IsAllowed lane (RaiseLimit) = Unit {0}
IsAllowed lane (SetWindow window) = (1 ≤ window) × (window ≤ MAX_WINDOW)

-- no count falls, what was received stays received, and a known final size stays
pub record Grows (old new : RecvLane) : Type 0 where
  pub highest_grows : highest old ≤ highest new
  pub taken_grows : taken old ≤ taken new
  pub limit_grows : old.limit ≤ new.limit
  pub received_stays : (q : ℕ) → set.contains old.arrived.received q ≡ true → set.contains new.arrived.received q ≡ true
  pub final_size_stays : (size : ℕ) → old.final_size ≡ Some size → new.final_size ≡ Some size

abbrev pub NewLanesAreLawful : Type 0
NewLanesAreLawful = (window : ℕ) (share : Share) → 1 ≤ window → window ≤ MAX_WINDOW → IsLawful (new_lane window share)

abbrev pub CallsKeepLanesLawful : Type 0
CallsKeepLanesLawful = (lane : RecvLane) (call : LaneCall) → IsLawful lane → IsAllowed lane call → IsLawful (after_call lane call)

abbrev pub CallsNeverTakeBack : Type 0
CallsNeverTakeBack = (lane : RecvLane) (call : LaneCall) → IsLawful lane → IsAllowed lane call → Grows lane (after_call lane call)

-- no more bytes are stored than the peer was granted beyond what was taken
abbrev pub StoredBytesWereGranted : Type 0
StoredBytesWereGranted = (lane : RecvLane) → IsLawful lane → map.len lane.arrived.stored ≤ lane.limit - taken lane

-- what was granted beyond what was taken lies within the widest window, and what was taken within the limit
abbrev pub CreditIsWithinWindow : Type 0
CreditIsWithinWindow = (lane : RecvLane) → IsLawful lane → (taken lane ≤ lane.limit) × (lane.limit - taken lane ≤ lane.arrived.widest)

-- each stored byte is the one that was sent at its offset
abbrev pub IsSent : List ℕ → Assembled → Type 0
IsSent sent arrived = (q byte : ℕ) → map.get arrived.stored q ≡ Some byte → slice_get sent q ≡ Some byte

-- the bytes of a frame are those sent at its offset
abbrev pub IsPart : List ℕ → ℕ → List ℕ → Type 0
IsPart sent offset bytes = (q byte : ℕ) → byte_at offset bytes q ≡ Some byte → slice_get sent q ≡ Some byte

abbrev pub CarriesSent : List ℕ → LaneCall → Type 0
CarriesSent sent (TakeStream offset bytes fin) = IsPart sent offset bytes
CarriesSent sent (TakeReset code size) = Unit {0}
CarriesSent sent (ReadUpTo room) = Unit {0}
CarriesSent sent (StopWith code) = Unit {0}
CarriesSent sent (ForgetWith code) = Unit {0}
CarriesSent sent (RaiseLimit) = Unit {0}
CarriesSent sent (SetWindow window) = Unit {0}

-- where each frame carries what was sent, only that is stored (RFC 9000, section 2.2)
abbrev pub StoredBytesWereSent : Type 0
StoredBytesWereSent = (sent : List ℕ) (lane : RecvLane) (call : LaneCall) → IsSent sent lane.arrived → CarriesSent sent call → IsSent sent (after_call lane call).arrived

-- each byte from an offset on is the one that is stored at its offset, where one is
abbrev pub IsUnchanged : Assembled → ℕ → List ℕ → Type 0
IsUnchanged arrived offset bytes = (q byte other : ℕ) → map.get arrived.stored q ≡ Some byte → byte_at offset bytes q ≡ Some other → byte ≡ other

-- exactly the frames that change no stored byte pass (RFC 9000, section 2.2)
abbrev pub ChangedBytesAreTold : Type 0
ChangedBytesAreTold = (lane : RecvLane) (offset : ℕ) (bytes : List ℕ) → IsOk (check_bytes lane offset bytes) ↔ IsUnchanged lane.arrived offset bytes

-- where only what was sent is stored, a frame that carries what was sent passes (RFC 9000, section 2.2)
abbrev pub SentBytesPass : Type 0
SentBytesPass = (sent : List ℕ) (lane : RecvLane) (offset : ℕ) (bytes : List ℕ) → IsSent sent lane.arrived → IsPart sent offset bytes → IsOk (check_bytes lane offset bytes)

-- a frame that passed and was taken passes if it comes again (RFC 9000, section 2.2)
abbrev pub TakenBytesPass : Type 0
TakenBytesPass = (lane : RecvLane) (offset : ℕ) (bytes : List ℕ) (fin : Bool) → IsOk (check_bytes lane offset bytes) → IsOk (check_bytes (take_stream lane offset bytes fin) offset bytes)

-- no call stores a byte at an offset that came before it (RFC 9000, section 2.2)
abbrev pub StoredBytesStay : Type 0
StoredBytesStay =
    (lane : RecvLane) (call : LaneCall) (q byte : ℕ) → set.contains lane.arrived.received q ≡ true
    → map.get (after_call lane call).arrived.stored q ≡ Some byte → map.get lane.arrived.stored q ≡ Some byte
