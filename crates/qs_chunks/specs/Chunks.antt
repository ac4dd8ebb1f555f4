-- Of private contracts.
-- Bytes kept in chunks, and the map of bytes that they stand for.
--     Piece      consecutive bytes from an offset on
--     stored_in pieces      each byte under its offset; the first of two pieces wins
--     IsOrdered low pieces      the pieces have a byte at least, lie at or past low, and in order with none over another
use Rattle.std.specs.Prelude.{◌≡◌, ℕ, ◌+◌, ◌-◌, ◌<◌, ◌≤◌, if◌then◌else◌, Bool, true, false, nat_lt, List, [], ◌∷◌, ◌++◌, length, take, drop, slice_index_or, slice_set, Option, None, Some, refl}
use Rattle.std.specs.Coded.{Coded, code_by, coded×, coded_ℕ, coded_list}
use Rattle.std.specs.Ordering.{nat_cmp}
use Rattle.std.specs.FinMap as map
use Rattle.std.specs.FinSet as set
use Rattle.qs_recv.specs.Assembled.{store}
use Rattle.qs_recv.specs.Bytes.{byte_at}

-- two runs of bytes have one byte at each offset that is in both (RFC 9000, section 2.2)
abbrev pub AreOne : ℕ → List ℕ → ℕ → List ℕ → Type 0
AreOne at own offset bytes = (q byte other : ℕ) → byte_at at own q ≡ Some byte → byte_at offset bytes q ≡ Some other → byte ≡ other

pub record Piece : Type 0 where
  pub offset : ℕ
  pub bytes : List ℕ

abbrev pub piece_code : Coded Piece
piece_code = code_by (ℕ × List ℕ) (coded× coded_ℕ (coded_list coded_ℕ)) (λ c. (c.offset, c.bytes)) (λ p. record { offset = p.0; bytes = p.1 }) (λ _. refl)

-- the bytes of pieces by offset
unfoldable pub stored_in : List Piece → map.FinMap nat_cmp ℕ
stored_in [] = map.empty
stored_in (c ∷ cs) = store set.empty (stored_in cs) c.offset c.bytes

-- the offset after the last
abbrev pub end_of_piece : Piece → ℕ
end_of_piece c = c.offset + length c.bytes

-- no piece is empty, none begins below low or before the one before it ends
abbrev pub IsOrdered : ℕ → List Piece → Type 0
IsOrdered low [] = Unit {0}
IsOrdered low (c ∷ cs) = (low ≤ c.offset) × (0 < length c.bytes) × IsOrdered (end_of_piece c) cs

-- where ordered pieces end
abbrev pub pieces_end : ℕ → List Piece → ℕ
pieces_end low [] = low
pieces_end low (c ∷ cs) = pieces_end (end_of_piece c) cs

-- how many bytes the pieces have
abbrev pub total : List Piece → ℕ
total [] = 0
total (c ∷ cs) = length c.bytes + total cs

-- the piece at a place
abbrev pub piece_at : List Piece → ℕ → Piece
piece_at cs k = slice_index_or cs k (record { offset = 0; bytes = [] })

-- the pieces at places from first on and before after
abbrev pub between : List Piece → ℕ → ℕ → List Piece
between cs first after = take (after - first) (drop first cs)

-- each offset from lo on and below hi has a byte
abbrev pub IsStored : List Piece → ℕ → ℕ → Type 0
IsStored cs lo hi = (q : ℕ) → lo ≤ q → q < hi → map.contains_key (stored_in cs) q ≡ true

-- of the offsets from start on and below end, those below from and those from `to` on have bytes, and the pieces at places from first on
-- and before after are those between
pub record IsSpot (cs : List Piece) (start end first after from to : ℕ) : Type 0 where
  pub begins : start ≤ from
  pub some : from < to
  pub ends : to ≤ end
  pub ordered : first ≤ after
  pub in_bounds : after ≤ length cs
  pub before : IsOrdered 0 (take first cs)
  pub before_ends : pieces_end 0 (take first cs) ≤ from
  pub inner : IsOrdered from (between cs first after)
  pub inner_ends : pieces_end from (between cs first after) ≤ to
  pub behind : IsOrdered to (drop after cs)
  pub stored_before : IsStored (take first cs) start from
  pub stored_behind : IsStored (drop after cs) to end

-- the first of two that is there
abbrev pub or_else : Option ℕ → Option ℕ → Option ℕ
or_else None o = o
or_else (Some x) o = Some x

-- without the first n bytes
abbrev pub rest_of : Piece → ℕ → Piece
rest_of c n = record { offset = c.offset + n; bytes = drop n c.bytes }

-- without the last n bytes
abbrev pub shorter : Piece → ℕ → Piece
shorter c n = record { offset = c.offset; bytes = take (length c.bytes - n) c.bytes }

-- with more bytes at the end
abbrev pub longer : Piece → List ℕ → Piece
longer c bytes = record { offset = c.offset; bytes = c.bytes ++ bytes }

-- the bytes of the first piece, and its offset
abbrev pub first_bytes : List Piece → List ℕ
first_bytes [] = []
first_bytes (c ∷ cs) = c.bytes

abbrev pub first_offset : List Piece → ℕ
first_offset [] = 0
first_offset (c ∷ cs) = c.offset

-- the pieces without the first n bytes of the first
abbrev pub without_first : List Piece → ℕ → List Piece
without_first [] n = []
without_first (c ∷ cs) n = if nat_lt n (length c.bytes) then rest_of c n ∷ cs else cs

-- the pieces with the one at a place changed
abbrev pub with_longer : List Piece → ℕ → List ℕ → List Piece
with_longer cs k bytes = slice_set cs k (longer (piece_at cs k) bytes)

abbrev pub with_shorter : List Piece → ℕ → ℕ → List Piece
with_shorter cs k n = slice_set cs k (shorter (piece_at cs k) n)

-- bytes from an offset on, in the place of the pieces at places from first on and before after: as more of the piece before them, or as one
-- of their own
abbrev pub with_spot : Bool → List Piece → ℕ → ℕ → ℕ → List ℕ → List Piece
with_spot true cs first after from bytes = take first (with_longer cs (first - 1) bytes) ++ drop after cs
with_spot false cs first after from bytes = take first cs ++ record { offset = from; bytes = bytes } ∷ drop after cs

-- the pieces after bytes came at a spot: those that came first stay
pub record IsPlaced (old new : List Piece) (joins : Bool) (first after from : ℕ) (bytes : List ℕ) : Type 0 where
  pub placed : List ℕ
  pub is : new ≡ with_spot joins old first after from placed
  pub same_len : length placed ≡ length bytes
  pub first_stay : (q : ℕ) → byte_at from placed q ≡ or_else (map.get (stored_in (between old first after)) q) (byte_at from bytes q)
