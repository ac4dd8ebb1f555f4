-- Trusted.
-- Which streams wait for their owner, which have something for a packet, and which are over: questions of one stream, and the least
-- stream that answers one (RFC 9000, sections 2.2, 2.4, 3 and 13.3, for the whole file).
use Rattle.std.specs.Prelude.{◌≡◌, ℕ, ◌<◌, ◌≤◌, true, false, not, ◌&&◌, ◌⊎◌, Option, None, Some}
use Rattle.qs_recv.specs.News.{is_readable}
use Rattle.qs_send.specs.Lane.{SendLane}
use Rattle.qs_send.specs.Writable.{is_writable}
use Rattle.qs_machine.specs.Tables.{Tables, lookup}
use Rattle.qs_machine.specs.Ends.{End, is_uni, is_own}
use Rattle.qs_machine.specs.Credit.{recv_ended, send_ended}
use Rattle.qs_machine.specs.Due.{IsDue, EndGoes}
use Rattle.qs_machine.specs.Owner.{is_read_no_more}

-- The answer is the least number at or above `from` with the property, and None where no number has it (ours: RFC 9000, section 2.3,
-- leaves the order of streams to the application).
pub record IsLeast (P : ℕ → Type 0) (from : ℕ) (answer : Option ℕ) : Type 0 where
  pub found : (n : ℕ) → answer ≡ Some n → (from ≤ n) × P n
  pub least : (n : ℕ) → from ≤ n → P n → (m : ℕ) × (answer ≡ Some m) × (m ≤ n)

-- the stream is open, and what is kept of it has the property
abbrev pub IsHeld : {X : Type 0} → (X → Type 0) → Tables X → ℕ → Type 0
IsHeld {X} P t n = (x : X) × (lookup t n ≡ Some x) × P x

-- A read of one byte tells something new: bytes, or an end or a reset that wasn't told yet. A closed end is read only where its owner chose
-- so (RFC 9000, sections 2.2, 3.2 and 10.2).
abbrev pub IsReadable : End → ℕ → Type 0
IsReadable e n = (is_read_no_more e ≡ false) × IsHeld (λ l. is_readable l ≡ true) e.recvs n

-- A due byte lies below the stream's own limit, or the end is due and every byte was sent; the connection's credit isn't asked
-- (RFC 9000, sections 3.1, 4.1 and 13.3).
abbrev pub HasForPacket : End → ℕ → SendLane → Type 0
HasForPacket e n l = ((q : ℕ) × IsDue e n l q × (q < l.limit)) ⊎ EndGoes e n l

-- Bytes of the stream or its end are due, which its own limit lets go. A closed end sends none (RFC 9000, sections 4.1, 10.2 and 13.3).
abbrev pub IsSendable : End → ℕ → Type 0
IsSendable e n = (e.closed ≡ None) × IsHeld (HasForPacket e n) e.sends n

-- A write of one byte is accepted, if there is memory for it, and credit where writes keep within it. A closed end takes none (RFC 9000,
-- sections 2.2, 2.4 and 10.2).
abbrev pub IsWritable : End → ℕ → Type 0
IsWritable e n = (e.closed ≡ None) × IsHeld (λ l. is_writable l ≡ true) e.sends n

-- Every half that a stream of its type has at this end came to its end: the end or the reset was told to the reader, and all that was
-- sent is acknowledged, or the reset (RFC 9000, sections 2.1 and 3).
pub record IsEnded (e : End) (n : ℕ) : Type 0 where
  pub receiving : (is_uni n && is_own e n) ≡ false → IsHeld (λ l. recv_ended l ≡ true) e.recvs n
  pub sending : (is_uni n && not (is_own e n)) ≡ false → IsHeld (λ l. send_ended l ≡ true) e.sends n
