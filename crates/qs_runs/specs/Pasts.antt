-- Of laws.
-- What one end lived through, and what the packets of an end tell.
use Rattle.std.specs.Prelude.{◌≡◌, ℕ, ◌+◌, ◌-◌, ◌%◌, ◌<◌, ◌≤◌, Bool, true, List, map, flat_map, length, ◌⊎◌, Some, slice_get}
use Rattle.std.specs.List.{list_any}
use Rattle.qs_send.specs.declared.piece.Item.TheVariants.{MaxStreamData, ResetStream, StopSending, StreamDataBlocked}
use Rattle.qs_send.specs.declared.piece.Piece.{Piece}
use Rattle.qs_send.specs.declared.piece.Piece.TheVariants.{Data, Told}
use Rattle.qs_machine.specs.Seen.{Seen, Ack, Stream, Control}
use Rattle.qs_machine.specs.FrameStep.{is_named}
use Rattle.qs_send.specs.Records.{Among}
use Rattle.qs_calls.specs.declared.event.Side.{Side}
use Rattle.qs_machine.specs.Plains.{frames_in}
use Rattle.qs_runs.specs.Logs.{must_land, History, Effect, other, effects, wrote_in, gave_in, stops_in, breaks_in, ends_first, sent_in, comes_in, took_in, acks_in}

-- the frames of the packets of an end, by packet number
abbrev pub Packets : Type 0
Packets = List (List Seen)

-- What one end lived through: the packets that it made and that its peer made; the bytes that were written to it and read from it on
-- each stream; whether `stop` was called of a stream, and whether `read` answered End before that; whether `reset` was; which packets it
-- processed; which frames it took, with their packets or without them; and of which packets it was told by a token that they were acknowledged.
pub record Past : Type 0 where
  pub mine : Packets
  pub theirs : Packets
  pub bytes : ℕ → List ℕ
  pub gave : ℕ → List ℕ
  pub stopped : ℕ → Bool
  pub broken : ℕ → Bool
  pub ended : ℕ → Bool
  pub processed : ℕ → Bool
  pub taken : List Seen
  pub tokens : ℕ → Bool

-- packet k has the frame
abbrev pub Holds : Packets → ℕ → Seen → Type 0
Holds packets k f = (fs : List Seen) × (slice_get packets k ≡ Some fs) × Among f fs

-- some packet has it
abbrev pub Tells : Packets → Seen → Type 0
Tells packets f = (k : ℕ) × Holds packets k f

-- some packet has a STREAM frame with this offset of the stream in it
abbrev pub TellsOffset : Packets → ℕ → ℕ → Type 0
TellsOffset packets n q = (offset : ℕ) × (bytes : List ℕ) × (fin : Bool) × Tells packets (Stream n offset bytes fin) × (offset ≤ q) × (q < offset + length bytes)

-- some packet has this byte at this offset of the stream
abbrev pub TellsByte : Packets → ℕ → ℕ → ℕ → Type 0
TellsByte packets n q b =
    (offset : ℕ) × (bytes : List ℕ) × (fin : Bool) × Tells packets (Stream n offset bytes fin) × (offset ≤ q) × (slice_get bytes (q - offset) ≡ Some b)

-- some packet tells by FIN that the stream ends there
abbrev pub TellsEnd : Packets → ℕ → ℕ → Type 0
TellsEnd packets n size = (offset : ℕ) × (bytes : List ℕ) × Tells packets (Stream n offset bytes true) × (offset + length bytes ≡ size)

abbrev pub TellsReset : Packets → ℕ → ℕ → ℕ → Type 0
TellsReset packets n code size = Tells packets (Control (ResetStream n code size))

-- some ACK names packet k
abbrev pub TellsAck : Packets → ℕ → Type 0
TellsAck packets k = (largest : ℕ) × (ranges : List (ℕ × ℕ)) × Tells packets (Ack largest ranges) × (is_named ranges k ≡ true)

-- the peer acknowledged packet k, or the layer beneath told so by its token
abbrev pub WasConfirmed : Packets → (tokens : ℕ → Bool) → ℕ → Type 0
WasConfirmed packets tokens k = TellsAck packets k ⊎ (tokens k ≡ true)

-- each frame of packet k that has to land was taken
abbrev pub Landed : (theirs : Packets) (taken : List Seen) → ℕ → Type 0
Landed theirs taken k = (fs : List Seen) × (slice_get theirs k ≡ Some fs) × ((f : Seen) → Among f fs → must_land f ≡ true → Among f taken)

-- the piece stood in packet k
abbrev pub PieceOf : Packets → ℕ → Piece → Type 0
PieceOf packets k (Data n c) = (bytes : List ℕ) × Holds packets k (Stream n c.offset bytes c.fin) × (length bytes ≡ c.len)
PieceOf packets k (Told i) = Holds packets k (Control i)

-- the frame names the stream
abbrev pub Names : Seen → ℕ → Type 0
Names (Stream m offset bytes fin) n = m ≡ n
Names (Control (ResetStream m code size)) n = m ≡ n
Names (Control (StreamDataBlocked m limit)) n = m ≡ n
Names (Control (StopSending m code)) n = m ≡ n
Names (Control (MaxStreamData m limit)) n = m ≡ n
Names f n = ⊥

-- some packet names the stream or a higher one of its type
abbrev pub IsNamed : Packets → ℕ → Type 0
IsNamed packets n = (f : Seen) × (m : ℕ) × Tells packets f × Names f m × (m % 4 ≡ n % 4) × (n ≤ m)

-- Histories

-- the frames of the payloads that went out of one end, in order
abbrev pub packets_in : List Effect → Packets
packets_in xs = map frames_in (flat_map sent_in xs)

-- what one end lived through, by what was done there and at its peer
abbrev pub past_of : (mine theirs : List Effect) → Past
past_of xs ys =
    record {
      mine = packets_in xs;
      theirs = packets_in ys;
      bytes = λ n. flat_map (wrote_in n) xs;
      gave = λ n. flat_map (gave_in n) xs;
      stopped = λ n. list_any (stops_in n) xs;
      broken = λ n. list_any (breaks_in n) xs;
      ended = λ n. ends_first n xs;
      processed = λ k. list_any (comes_in k) xs;
      taken = flat_map took_in xs;
      tokens = λ k. list_any (acks_in k) xs;
    }

-- as the history tells
abbrev pub past : Side → History → Past
past s h = past_of (effects s h) (effects (other s) h)
