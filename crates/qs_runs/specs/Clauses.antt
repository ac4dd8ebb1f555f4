-- Of laws.
-- What the invariant says of two ends together: six clauses of a stream as side s sends it and the other side receives it, and four of
-- the connection.
use Rattle.std.specs.Prelude.{◌≡◌, ℕ, ◌+◌, ◌<◌, ◌≤◌, Bool, true, List, length, ◌⊎◌, Option, None, Some, is_some, slice_get, if◌then◌else◌}
use Rattle.std.specs.FinMap as fmap
use Rattle.std.specs.FinSet as set
use Rattle.qs_recv.specs.Lane.{RecvLane}
use Rattle.qs_send.specs.Lane.{SendLane, declared_size}
use Rattle.qs_send.specs.declared.piece.Item.TheVariants.{ResetStream}
use Rattle.qs_machine.specs.Tables.{index_of}
use Rattle.qs_machine.specs.Ends.{End, send_lane, recv_lane, is_own, is_uni}
use Rattle.qs_machine.specs.Credit.{all_sent, grant}
use Rattle.qs_send.specs.Records.{Among}
use Rattle.qs_machine.specs.Seen.{Seen, Stream, Control}
use Rattle.qs_calls.specs.declared.event.Side.{Side}
use Rattle.qs_runs.specs.Logs.{History, other, payload, taken, written, read}
use Rattle.qs_runs.specs.Worlds.{World, end_of}
use Rattle.qs_machine.specs.Plains.{frames_in}

-- packet k of side s carries the frame
abbrev pub Carries : History → Side → ℕ → Seen → Type 0
Carries h s k f = (text : List ℕ) × (payload s k h ≡ Some text) × Among f (frames_in text)

abbrev pub sending : World → Side → ℕ → Option SendLane
sending w s n = send_lane (end_of w s) n

abbrev pub receiving : World → Side → ℕ → Option RecvLane
receiving w s n = recv_lane (end_of w (other s)) n

-- the frame took effect at the other side, with a packet or without one
abbrev pub HasArrived : History → Side → Seen → Type 0
HasArrived h s f = Among f (taken (other s) h)

-- Of a stream

-- what ever stood in a packet are the bytes that were written at its offsets, and these are below the sent end
abbrev pub PiecesAreWritten : History → World → Side → ℕ → Type 0
PiecesAreWritten h w s n =
    (k offset : ℕ) (bytes : List ℕ) (fin : Bool) → Carries h s k (Stream n offset bytes fin) →
    (l : SendLane) × (sending w s n ≡ Some l)
    × ((i b : ℕ) → slice_get bytes i ≡ Some b → slice_get (written s n h) (offset + i) ≡ Some b)
    × (offset + length bytes ≤ l.sent_end)

-- what was received is below the sent end
abbrev pub ReceivedIsBelowSent : World → Side → ℕ → Type 0
ReceivedIsBelowSent w s n =
    (r : RecvLane) (q : ℕ) → receiving w s n ≡ Some r → set.contains r.arrived.received q ≡ true →
    (l : SendLane) × (sending w s n ≡ Some l) × (q < l.sent_end)

-- what is stored was written at its offset
abbrev pub StoredIsWritten : History → World → Side → ℕ → Type 0
StoredIsWritten h w s n =
    (r : RecvLane) (q b : ℕ) → receiving w s n ≡ Some r → fmap.get r.arrived.stored q ≡ Some b → slice_get (written s n h) q ≡ Some b

-- what was read was written at its offset
abbrev pub ReadIsWritten : History → Side → ℕ → Type 0
ReadIsWritten h s n = (q b : ℕ) → slice_get (read (other s) n h) q ≡ Some b → slice_get (written s n h) q ≡ Some b

-- of a frame that arrived, with its packet or without it, each offset was received, or the stream's reset is known, and its end is known
abbrev pub ArrivedWasTaken : History → World → Side → ℕ → Type 0
ArrivedWasTaken h w s n =
    (offset : ℕ) (bytes : List ℕ) (fin : Bool) → HasArrived h s (Stream n offset bytes fin) →
    (r : RecvLane) × (receiving w s n ≡ Some r)
    × (((q : ℕ) → offset ≤ q → q < offset + length bytes → set.contains r.arrived.received q ≡ true) ⊎ (is_some r.reset_code ≡ true))
    × (fin ≡ true → r.final_size ≡ Some (offset + length bytes))

-- and of a reset the final size is known
abbrev pub ArrivedResetWasTaken : History → World → Side → ℕ → Type 0
ArrivedResetWasTaken h w s n =
    (code size : ℕ) → HasArrived h s (Control (ResetStream n code size)) →
    (r : RecvLane) × (receiving w s n ≡ Some r) × (r.final_size ≡ Some size)

-- what is acknowledged stood in a frame that arrived at the peer
pub record AckedHasArrived (h : History) (w : World) (s : Side) (n : ℕ) : Type 0 where
  pub offsets : (l : SendLane) (q : ℕ) → sending w s n ≡ Some l → set.contains l.acked q ≡ true →
      (offset : ℕ) × (bytes : List ℕ) × (fin : Bool) × HasArrived h s (Stream n offset bytes fin) × (offset ≤ q) × (q < offset + length bytes)
  pub end : (l : SendLane) → sending w s n ≡ Some l → l.fin_acked ≡ true →
      (offset : ℕ) × (bytes : List ℕ) × HasArrived h s (Stream n offset bytes true)

-- a final size that is known is the declared one, which is the sent end, and without a known reset the count written (RFC 9000, section 4.5)
abbrev pub FinalSizeIsDeclared : History → World → Side → ℕ → Type 0
FinalSizeIsDeclared h w s n =
    (r : RecvLane) (size : ℕ) → receiving w s n ≡ Some r → r.final_size ≡ Some size →
    (l : SendLane) × (sending w s n ≡ Some l)
    × (declared_size l ≡ Some size)
    × (l.sent_end ≡ size)
    × (r.reset_code ≡ None → length (written s n h) ≡ size)

-- what a receiving half knows it keeps: each offset that came, the final size, and that it was reset
pub record KeepsWhatItKnows (l m : RecvLane) : Type 0 where
  pub offsets : (q : ℕ) → set.contains l.arrived.received q ≡ true → set.contains m.arrived.received q ≡ true
  pub final_size : (size : ℕ) → l.final_size ≡ Some size → m.final_size ≡ Some size
  pub reset : is_some l.reset_code ≡ true → is_some m.reset_code ≡ true

abbrev pub AllKeepWhatTheyKnow : World → World → Side → ℕ → Type 0
AllKeepWhatTheyKnow v w s n = (r : RecvLane) → receiving v s n ≡ Some r → (t : RecvLane) × (receiving w s n ≡ Some t) × KeepsWhatItKnows r t

-- the code of a reset that is known is that of the sender's
abbrev pub ResetCodeIsTheSenders : World → Side → ℕ → Type 0
ResetCodeIsTheSenders w s n =
    (r : RecvLane) (code : ℕ) → receiving w s n ≡ Some r → r.reset_code ≡ Some code →
    (l : SendLane) × (size : ℕ) × (sending w s n ≡ Some l) × (l.was_reset ≡ Some (record { code = code; size = size }))

-- Of the connection

-- what was sent is within the limits that are known (RFC 9000, section 4.1)
pub record SentIsWithinKnown (w : World) (s : Side) : Type 0 where
  pub connection : all_sent (end_of w s) ≤ (end_of w s).known_data
  pub streams : (n : ℕ) (l : SendLane) → sending w s n ≡ Some l → l.sent_end ≤ l.limit

-- the limits that are known are within those that the other end granted
pub record KnownIsWithinGranted (w : World) (s : Side) : Type 0 where
  pub connection : (end_of w s).known_data ≤ (end_of w (other s)).granted
  pub streams : (n : ℕ) (l : SendLane) (r : RecvLane) → sending w s n ≡ Some l → receiving w s n ≡ Some r → l.limit ≤ r.limit

-- whether either half of a stream is there
abbrev pub IsOpen : World → Side → ℕ → Type 0
IsOpen w s n = (is_some (send_lane (end_of w s) n) ≡ true) ⊎ (is_some (recv_lane (end_of w s) n) ≡ true)

-- a stream that is open at one end is open at the end that opened it (RFC 9000, section 2.1)
abbrev pub IsOpenAtInitiator : World → Side → ℕ → Type 0
IsOpenAtInitiator w s n = IsOpen w s n → is_own (end_of w (other s)) n ≡ true → is_some (send_lane (end_of w (other s)) n) ≡ true

abbrev pub known_for : End → ℕ → ℕ
known_for e n = if is_uni n then e.known_uni else e.known_bidi

-- an own stream is below the count that is known, and that is at most the one that the other end granted (RFC 9000, section 4.6)
pub record OpenedIsBelowKnown (w : World) (s : Side) : Type 0 where
  pub opened : (n : ℕ) → IsOpen w s n → is_own (end_of w s) n ≡ true → index_of n < known_for (end_of w s) n
  pub known : (n : ℕ) → known_for (end_of w s) n ≤ grant (end_of w (other s)) n
