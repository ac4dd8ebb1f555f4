-- Of private contracts.
-- Which control frames of streams may be due: a mark for each half and kind.
use Rattle.std.specs.Prelude.{◌≡◌, ◌≤◌, ◌+◌, ◌<◌, ◌==◌, ℕ, List, Bool, true, false, Option, None, Some, is_some, ◌⊎◌, option_map}
use Rattle.qs_wire.specs.declared.stream_id.Role.{Role}
use Rattle.qs_calls.specs.declared.settings.Settings.{Settings}
use Rattle.qs_recv.specs.Lane.{RecvLane, is_whole}
use Rattle.qs_send.specs.Lane.{SendLane}
use Rattle.qs_send.specs.Records.{IsCarried}
use Rattle.qs_send.specs.declared.parts.Reset.{Reset}
use Rattle.qs_send.specs.declared.piece.Item.{Item}
use Rattle.qs_send.specs.declared.piece.Item.TheVariants.{MaxStreamData, ResetStream, StopSending, StreamDataBlocked}
use Rattle.qs_send.specs.declared.piece.Piece.{Piece}
use Rattle.qs_send.specs.declared.piece.Piece.TheVariants.{Data, Told}
use Rattle.qs_machine.specs.Tables.{Tables, with_table, lookup, updated}
use Rattle.qs_machine.specs.Ends.{Records, first_window_by}
use Rattle.qs_machine.specs.Acked.{AckedItems, HasAcked}
use Rattle.qs_machine.specs.Outgoing.{Outgoing, IsBlockedAt}
use Rattle.qs_machine.specs.Sums.{or_none}
use Rattle.qs_conn.specs.declared.due.Slot.{Slot}
use Rattle.qs_conn.specs.declared.due.Kind.{Kind}
use Rattle.qs_conn.specs.declared.due.Kind.TheVariants as kinds
use Rattle.qs_conn.specs.Filling.{slot_at}
use Rattle.qs_streams.specs.declared.board.Task.TheVariants as tasks
use Rattle.qs_streams.specs.Flags.{HasPlace, IsFlaggedAt, MovesRow, flag}
use Rattle.qs_streams.specs.Tasks.{row}

-- What packets told

-- the packets in flight, the lost ones that are kept, and what was acknowledged
pub record Packets : Type 0 where
  pub out : Records
  pub lost : Records
  pub acked : AckedItems

abbrev pub packets_of : Outgoing → Packets
packets_of o = record { out = o.outstanding; lost = o.lost.pieces; acked = o.acked }

-- the greatest acknowledged limit of a stream
abbrev pub IsKnown : AckedItems → Item → Type 0
IsKnown a (MaxStreamData n m) = HasAcked a (MaxStreamData n m)
IsKnown a (StreamDataBlocked n m) = HasAcked a (StreamDataBlocked n m)
IsKnown a i = ⊥

-- a packet in flight told an item, or a lost one, or one that was acknowledged
abbrev pub WasPut : Packets → Item → Type 0
WasPut p i = IsCarried p.out (Told i) ⊎ IsCarried p.lost (Told i) ⊎ IsKnown p.acked i

-- one in flight told it with this value, or one that was acknowledged (RFC 9000, section 13.3)
abbrev pub IsToldIn : Packets → Item → Type 0
IsToldIn p i = IsCarried p.out (Told i) ⊎ HasAcked p.acked i

-- What a half has to tell

-- the stop of a receiving half, while more may come (RFC 9000, section 3.5)
abbrev pub TellsStop : ℕ → RecvLane → ℕ → Type 0
TellsStop n l v = (l.stop_code ≡ Some v) × (l.reset_code ≡ None) × (is_whole l ≡ false)

-- its limit, once it is above the window, and while no final size is known (RFC 9000, section 4.1)
abbrev pub TellsLimit : Role → Settings → ℕ → RecvLane → ℕ → Type 0
TellsLimit r s n l v = (v ≡ l.limit) × (first_window_by r s n < v) × (l.final_size ≡ None)

-- the reset of a sending half, until it is acknowledged (RFC 9000, section 3.1)
abbrev pub TellsReset : ℕ → SendLane → Reset → Type 0
TellsReset n l v = (l.was_reset ≡ Some v) × (l.reset_acked ≡ false)

-- the limit at which one stands with more written (RFC 9000, section 4.1)
abbrev pub TellsBlock : ℕ → SendLane → ℕ → Type 0
TellsBlock n l v = IsBlockedAt (Some l) v

-- What packets may have told of it: a stop and a reset stay as they are, and a limit rises

abbrev pub HasStop : RecvLane → ℕ → Type 0
HasStop l v = l.stop_code ≡ Some v

abbrev pub IsWithinLimit : RecvLane → ℕ → Type 0
IsWithinLimit l v = v ≤ l.limit

abbrev pub HasReset : SendLane → Reset → Type 0
HasReset l v = l.was_reset ≡ Some v

-- an earlier limit, or the present one, at which it stood
abbrev pub HasBlocked : SendLane → ℕ → Type 0
HasBlocked l v = (v < l.limit) ⊎ ((v ≡ l.limit) × (l.limit < l.written) × (l.limit ≤ l.sent_end))

abbrev pub reset_at : ℕ → Reset → Item
reset_at n r = ResetStream n r.code r.size

-- The marks

-- Of a half: what packets told of it may have been told. With a mark no packet in flight told what it has to tell now; without one that was
-- told.
abbrev pub IsRight : {L V : Type 0} → (ℕ → V → Item) → (ℕ → L → V → Type 0) → (L → V → Type 0) → Packets → ℕ → Bool → L → Type 0
IsRight {L} {V} at Tells Within p n b l =
    ((v : V) → WasPut p (at n v) → Within l v)
    × (b ≡ true → (v : V) → Tells n l v → IsCarried p.out (Told (at n v)) → ⊥)
    × (b ≡ false → (v : V) → Tells n l v → IsToldIn p (at n v))

-- So it is with each half. Of a stream without one no packet told anything.
abbrev pub IsRightAt : {L V : Type 0} → (ℕ → V → Item) → (ℕ → L → V → Type 0) → (L → V → Type 0) → Packets → ℕ → Bool → Option L → Type 0
IsRightAt {L} {V} at Tells Within p n mark None = (v : V) → WasPut p (at n v) → ⊥
IsRightAt {L} {V} at Tells Within p n mark (Some l) = IsRight at Tells Within p n mark l

pub record AreRight {L V : Type 0} (at : ℕ → V → Item) (Tells : ℕ → L → V → Type 0) (Within : L → V → Type 0) (lanes : Tables L) (p : Packets) (marks : ℕ → Bool) : Type 0 where
  pub each : (n : ℕ) → IsRightAt at Tells Within p n (marks n) (lookup lanes n)

-- the row of a kind
abbrev pub row_of : Kind → ℕ
row_of kinds.ResetStream = row tasks.ResetDue
row_of kinds.StopSending = row tasks.StopDue
row_of kinds.MaxStreamData = row tasks.LimitDue
row_of kinds.StreamDataBlocked = row tasks.BlockDue

-- which streams have a mark of a kind
abbrev pub marks_of : Kind → Tables (List ℕ) → ℕ → Bool
marks_of kind rows n = flag rows (row_of kind) n

-- each open half has a place for its marks
abbrev pub HavePlaces : {L : Type 0} → Tables L → Tables (List ℕ) → Type 0
HavePlaces lanes rows = (n : ℕ) → is_some (lookup lanes n) ≡ true → HasPlace rows n

-- The marks of each kind are right, and each open half has a place for them.
pub record AreDue (r : Role) (s : Settings) (recvs : Tables RecvLane) (sends : Tables SendLane) (p : Packets) (t : Tables (List ℕ)) : Type 0 where
  pub stops : AreRight StopSending TellsStop HasStop recvs p (marks_of kinds.StopSending t)
  pub limits : AreRight MaxStreamData (TellsLimit r s) IsWithinLimit recvs p (marks_of kinds.MaxStreamData t)
  pub resets : AreRight reset_at TellsReset HasReset sends p (marks_of kinds.ResetStream t)
  pub blocks : AreRight StreamDataBlocked TellsBlock HasBlocked sends p (marks_of kinds.StreamDataBlocked t)
  pub recv_places : HavePlaces recvs t
  pub send_places : HavePlaces sends t

-- the slot of a half has a mark
abbrev pub IsMarkedAt : Tables (List ℕ) → Slot → Type 0
IsMarkedAt t slot = (kind : Kind) (n : ℕ) → slot ≡ slot_at kind n → marks_of kind t n ≡ true

-- Changes

-- the mark of an item's stream and kind is set or cleared; an item of the connection itself has none
abbrev pub IsItemMarked : Item → Bool → Tables (List ℕ) → Tables (List ℕ) → Type 0
IsItemMarked (MaxStreamData n m) b old new = IsFlaggedAt old (row_of kinds.MaxStreamData) n b new
IsItemMarked (StopSending n code) b old new = IsFlaggedAt old (row_of kinds.StopSending) n b new
IsItemMarked (ResetStream n code size) b old new = IsFlaggedAt old (row_of kinds.ResetStream) n b new
IsItemMarked (StreamDataBlocked n m) b old new = IsFlaggedAt old (row_of kinds.StreamDataBlocked) n b new
IsItemMarked item b old new = new ≡ old

-- it is so where a test says so, and else nothing changes
abbrev pub IsMarkedIf : Bool → ℕ → ℕ → Tables (List ℕ) → Tables (List ℕ) → Type 0
IsMarkedIf test r n old new = (test ≡ true → IsFlaggedAt old r n true new) × (test ≡ false → new ≡ old)

-- halves and the marks of their limits change, and right ones stay so, whatever packets told; each has a place still
abbrev pub StayMarked : (recvs now : Tables RecvLane) → (rows new : Tables (List ℕ)) → Type 0
StayMarked recvs now rows new =
    (r : Role) (s : Settings) (p : Packets) → HavePlaces recvs rows → AreRight MaxStreamData (TellsLimit r s) IsWithinLimit recvs p (marks_of kinds.MaxStreamData rows)
    → AreRight MaxStreamData (TellsLimit r s) IsWithinLimit now p (marks_of kinds.MaxStreamData new) × MovesRow (row_of kinds.MaxStreamData) rows new × HavePlaces now new

-- those of one type do, whatever the others are
abbrev pub StayMarkedOf : (kind : ℕ) → (lanes now : List RecvLane) → (rows new : Tables (List ℕ)) → Type 0
StayMarkedOf kind lanes now rows new = (t : Tables RecvLane) → StayMarked (with_table t kind lanes) (with_table t kind now) rows new

-- whether it is the limit of an open half
abbrev pub is_limit : Option ℕ → ℕ → Bool
is_limit None v = false
is_limit (Some l) v = l == v

-- the limit of an open receiving half
abbrev pub recv_limit : Tables RecvLane → ℕ → Option ℕ
recv_limit recvs n = option_map (λ (l : RecvLane). l.limit) (lookup recvs n)

-- whether two limits of open halves are the same
abbrev pub is_same : Option ℕ → Option ℕ → Bool
is_same (Some a) (Some b) = a == b
is_same a b = false

-- whether an item has the present value of its half; a stop and a reset keep theirs
abbrev pub is_present : Item → Tables RecvLane → Tables SendLane → Bool
is_present (MaxStreamData n m) recvs sends = is_limit (recv_limit recvs n) m
is_present (StreamDataBlocked n m) recvs sends = is_limit (option_map (λ (l : SendLane). l.limit) (lookup sends n)) m
is_present _ recvs sends = true

-- the marks once a piece was lost
abbrev pub IsDueWithout : Piece → Tables RecvLane → Tables SendLane → Tables (List ℕ) → Tables (List ℕ) → Type 0
IsDueWithout (Data n c) recvs sends old new = new ≡ old
IsDueWithout (Told i) recvs sends old new = (is_present i recvs sends ≡ true → IsItemMarked i true old new) × (is_present i recvs sends ≡ false → new ≡ old)

-- the last bytes that were written, so many, brought a stream to its limit with more written
abbrev pub IsBlockedBy : (count : ℕ) → Option SendLane → ℕ → Type 0
IsBlockedBy count o m = IsBlockedAt o m × ((or_none o).written ≤ m + count)

-- the marks once a stream that came to its limit, if it did, has one for that
abbrev pub IsNotedBlock : (ℕ → Type 0) → ℕ → (old new : Tables (List ℕ)) → Type 0
IsNotedBlock P n old new = (((m : ℕ) → P m → ⊥) × (new ≡ old)) ⊎ (((m : ℕ) × P m) × IsFlaggedAt old (row_of kinds.StreamDataBlocked) n true new)
