-- Of private contracts.
-- Packets in a row that carried bytes of a stream in a row, and nothing else, and their acknowledgement.
--     joined low high      the bytes of two chunks, of which the first ends where the other one begins
--     IsRow m n first more c      such packets, from number `first` on and so many more, of stream n, and all their bytes
--     AcksRow n number first o new      they are acknowledged one after the other, from the highest number down
use Rattle.std.specs.Prelude.{◌≡◌, ℕ, zero, suc, ◌+◌, ◌<◌, ◌≤◌, false, Bool, List, [], ◌∷◌, Option, Some, ◌⊎◌, Ok}
use Rattle.std.specs.FinMap as fmap
use Rattle.qs_send.specs.declared.parts.Chunk.{Chunk}
use Rattle.qs_send.specs.declared.piece.Piece.{Piece}
use Rattle.qs_send.specs.declared.piece.Piece.TheVariants.{Data}
use Rattle.qs_send.specs.Records.{without_first}
use Rattle.qs_send.specs.Lane.{acked_lane}
use Rattle.qs_machine.specs.Ends.{Records}
use Rattle.qs_machine.specs.Memory.{PieceMayRunOut}
use Rattle.qs_machine.specs.Outgoing.{Outgoing, first_acked_out, acked_at, on_lane}
use Rattle.qs_conn.specs.Runs.{AcksPacket}

abbrev pub joined : Chunk → Chunk → Chunk
joined low high = record { offset = low.offset; len = low.len + high.len; fin = high.fin }

-- the packet has this chunk alone
abbrev pub IsAlone : Records → ℕ → ℕ → Chunk → Type 0
IsAlone m k n c = fmap.get m k ≡ Some (Data n c ∷ [])

-- the bytes of `low` end where those of `high` begin
abbrev pub Meets : Chunk → Chunk → Type 0
Meets low high = (low.offset + low.len ≡ high.offset) × (low.fin ≡ false)

abbrev pub IsRow : Records → ℕ → ℕ → ℕ → Chunk → Type 0
IsRow m n first zero c = IsAlone m first n c
IsRow m n first (suc more) c = (low : Chunk) × (high : Chunk) × IsAlone m (first + suc more) n high × IsRow m n first more low × Meets low high × (c ≡ joined low high)

-- how many bytes stand in a packet's first piece
abbrev pub first_len : Option (List Piece) → ℕ
first_len (Some (Data n c ∷ ps)) = c.len
first_len ps = 0

-- so of the packets from one number down to another; that of the highest has a byte
pub record IsRowAt (m : Records) (n number first : ℕ) (c : Chunk) : Type 0 where
  pub more : ℕ
  pub count : first + more ≡ number
  pub row : IsRow m n first more c
  pub some : 0 < first_len (fmap.get m number)

-- not below a bound, unless it is one packet
pub record IsRowFrom (m : Records) (n number low first : ℕ) (c : Chunk) : Type 0 where
  pub at : IsRowAt m n number first c
  pub within : first < number → low ≤ first

-- the records without the first pieces of packets in a row
abbrev pub without_row : ℕ → ℕ → Records → Records
without_row first zero m = without_first m first (fmap.get m first)
without_row first (suc more) m = without_row first more (without_first m (first + suc more) (fmap.get m (first + suc more)))

-- the sending side with these bytes acknowledged and without the records
abbrev pub row_acked : ℕ → Chunk → ℕ → ℕ → Outgoing → Outgoing
row_acked n c first more o = record (on_lane n (λ l. acked_lane l c) o) { outstanding = without_row first more o.outstanding }

-- the one chunk of a packet is acknowledged
abbrev pub AcksAlone : ℕ → ℕ → Outgoing → Outgoing → Type 0
AcksAlone n k o new = (c : Chunk) × IsAlone o.outstanding k n c × (new ≡ first_acked_out (acked_at false k (Data n c)) o)

abbrev pub AcksDown : ℕ → ℕ → ℕ → Outgoing → Outgoing → Type 0
AcksDown n first zero o new = AcksAlone n first o new
AcksDown n first (suc more) o new = (mid : Outgoing) × AcksAlone n (first + suc more) o mid × AcksDown n first more mid new

abbrev pub AcksRow : ℕ → ℕ → ℕ → Outgoing → Outgoing → Type 0
AcksRow n number first o new = (more : ℕ) × (first + more ≡ number) × AcksDown n first more o new

-- the packet's chunk may ask for memory
abbrev pub MayRunOutAt : ℕ → ℕ → Outgoing → Type 0
MayRunOutAt number n o = (high : Chunk) × IsAlone o.outstanding number n high × PieceMayRunOut o.sends o.acked (Data n high)

-- the packets from a number down to another one are acknowledged: that packet alone, or a row that isn't below a bound
abbrev pub AcksFrom : Bool → ℕ → ℕ → ℕ → Outgoing → Outgoing → Type 0
AcksFrom late number low first o new =
    ((first ≡ number) × AcksPacket late number o (Ok tt) new) ⊎ ((late ≡ false) × (low ≤ first) × (n : ℕ) × (more : ℕ) × (first + suc more ≡ number) × AcksDown n first (suc more) o new)

-- the numbers of such packets, from the highest down
abbrev pub numbers_down : ℕ → ℕ → List ℕ
numbers_down first zero = first ∷ []
numbers_down first (suc more) = (first + suc more) ∷ numbers_down first more
