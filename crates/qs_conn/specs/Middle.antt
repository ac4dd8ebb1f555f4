-- Of private contracts.
-- What holds of the tables of an end, and of an end between calls.
use Rattle.std.specs.Prelude.{◌≡◌, ℕ, ◌+◌, ◌-◌, ◌*◌, ◌<◌, ◌≤◌, ◌⊎◌, min, Bool, true, List, length, Option}
use Rattle.std.specs.FinSet as set
use Rattle.qs_ranges.specs.Numbers.{NumberSet, run_starts}
use Rattle.qs_calls.specs.declared.settings.PeerLimits.{PeerLimits}
use Rattle.qs_calls.specs.declared.closing.Closed.{Closed}
use Rattle.qs_calls.specs.Settings.{are_spellable}
use Rattle.qs_machine.specs.Due.{StreamGoes}
use Rattle.qs_machine.specs.Ends.{End}
use Rattle.qs_machine.specs.Outgoing.{IsIdle, sent_sum}
use Rattle.qs_machine.specs.Standing.{KeepsCredit}
use Rattle.qs_conn.specs.declared.middle.Core.{Core}
use Rattle.qs_conn.specs.Due.{AreDue, packets_of}
use Rattle.qs_conn.specs.OwnTold.{AreOwn}
use Rattle.qs_conn.specs.Ended.{CountsFit}
use Rattle.qs_conn.specs.declared.due.Kind.{Kind}
use Rattle.qs_conn.specs.declared.due.Slot.{Slot}
use Rattle.qs_conn.specs.declared.due.Sort.{Sort}
use Rattle.qs_conn.specs.declared.due.Sort.TheVariants as sorts
use Rattle.qs_conn.specs.declared.due.Slot.TheVariants as slots
use Rattle.qs_conn.specs.Filling.{LimitsFit, present_of, end_by, slot_at, slot_place, kind_first, HasSpare, LeavesRest}
use Rattle.qs_conn.specs.Layers.{ClosingFits}
use Rattle.qs_conn.specs.Marks.{IsIdle as IsIdleAt}
use Rattle.qs_conn.specs.Settled.{AreNextWhere}

-- What holds of the tables also while a packet is in the making: the peer is within its credit and this end within the peer's, the limits
-- have a text, the counts of ended streams are right, marks lead to what is due of halves, and of the connection's own items their values
-- tell it.
pub record IsCore (c : Core) : Type 0 where
  pub sound : KeepsCredit c.limits.role c.limits.settings (present_of c.limits) c.recvs c.limits.granted
  pub fits : LimitsFit c.limits
  pub credit : sent_sum c.outbox.sends ≤ c.limits.known_data
  pub counts : CountsFit c.limits.role c.limits.settings c.recvs c.outbox.sends c.ended c.limits.granted_streams.bidi c.limits.granted_streams.uni
  pub due : AreDue c.limits.role c.limits.settings c.recvs c.outbox.sends (packets_of c.outbox) c.due
  pub own : AreOwn c.limits (packets_of c.outbox) c.own

-- no packet is in the making
pub record IsAtRest (c : Core) : Type 0 where
  pub core : IsCore c
  pub idle : IsIdle c.outbox

-- the limits and the receiving halves stay
pub record KeepsStreams (old new : Core) : Type 0 where
  pub limits : new.limits ≡ old.limits
  pub recvs : new.recvs ≡ old.recvs

-- What holds of an end between calls: its numbers have a spelling, an ACK that is due has a number to name, of at most 32 ranges, and where
-- nothing moved each limit is the next one already.
pub record IsKept (c : Core) (peer : PeerLimits) (done : NumberSet) (is_settled ack_due : Bool) (closed : Option Closed) : Type 0 where
  pub rest : IsAtRest c
  pub peer_fits : are_spellable peer ≡ true
  pub closing_fits : ClosingFits closed
  pub few : set.len (run_starts done) ≤ 32
  pub acks : ack_due ≡ true → 0 < set.len (run_starts done)
  pub settled : AreNextWhere is_settled c.limits.settings c.limits.tuning (present_of c.limits) c.recvs c.ended c.limits.granted c.limits.granted_streams.bidi c.limits.granted_streams.uni

-- A packet in the making

-- an end with these tables
abbrev pub end_of : Core → End → End
end_of c e = end_by c.limits c.recvs c.outbox e

-- nothing of a stream is due: no item, and no byte and no end that may go
pub record IsStill (c : Core) : Type 0 where
  pub no_item : (e : End) (kind : Kind) (n : ℕ) → IsIdleAt (end_of c e) (slot_at kind n)
  pub no_stream : (e : End) (n : ℕ) → StreamGoes (end_of c e) n → ⊥

-- A packet of that many bytes holds at most so many pieces: one for each two bytes, or, where nothing of a stream is due, the six items
-- of the connection itself.
abbrev pub HoldsAtMost : Core → (room count : ℕ) → Type 0
HoldsAtMost c room count = (room ≤ 2 * count + 1) ⊎ ((6 ≤ count) × IsStill c)

-- there is memory for the pieces that may come, of which so many at most are items of the connection itself
abbrev pub HasMemory : Core → (room len left : ℕ) → Type 0
HasMemory c room len left = HasSpare room len c.outbox.spare ⊎ ((left ≤ c.outbox.spare) × IsStill c)

-- how many pieces the item of a slot may take where nothing of a stream is due
abbrev pub own_items : Slot → ℕ
own_items slots.MaxData = 1
own_items (slots.MaxStreamData n) = 0
own_items (slots.MaxStreams d) = 1
own_items (slots.ResetStream n) = 0
own_items (slots.StopSending n) = 0
own_items slots.DataBlocked = 1
own_items (slots.StreamDataBlocked n) = 0
own_items (slots.StreamsBlocked d) = 1

-- the same of a sort, and of all sorts before a place
abbrev pub own_of : Sort → ℕ
own_of (sorts.Own slot) = own_items slot
own_of (sorts.Streams kind) = 0

abbrev pub own_below : ℕ → ℕ
own_below place = min place 3 + min (place - 6) 1 + min (place - 8) 2

-- the sort stands at a place: an item of the connection itself, or those of streams of a kind
abbrev pub IsSortAt : ℕ → Sort → Type 0
IsSortAt place (sorts.Own slot) = ((slot_place slot).0 ≡ place) × (own_items slot ≡ 1)
IsSortAt place (sorts.Streams kind) = (kind_first kind).0 ≡ place

-- what was told of a slot is told still
abbrev pub StayIdle : (old new : Core) → Type 0
StayIdle old new = (s : Slot) (e : End) → IsIdleAt (end_of old e) s → IsIdleAt (end_of new e) s

-- so many bytes of a packet stand at the slice's front
pub record IsFilling (c : Core) (out : List ℕ) (len : ℕ) : Type 0 where
  pub core : IsCore c
  pub within : len ≤ length out

-- the packet goes on behind the bytes that are there, with so many items of the connection itself at most where nothing else is due, and
-- behind it the slice stays as it was
pub record FillsOn (old : Core) (before : List ℕ) (len : ℕ) (new : Core) (after : List ℕ) (end own : ℕ) : Type 0 where
  pub filling : IsFilling new after end
  pub memory : (left : ℕ) → HasMemory old (length before) len left → HasMemory new (length after) end (left - own)
  pub streams : KeepsStreams old new
  pub ended : new.ended ≡ old.ended
  pub rest : LeavesRest len before end after
  pub room : length after ≡ length before
