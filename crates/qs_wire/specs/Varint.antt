-- Trusted.
-- Numbers of variable length: the two top bits of the first byte tell how many bytes there are
-- (RFC 9000, section 16, for the whole file).
use Rattle.std.specs.Prelude.{◌≡◌, ℕ, zero, suc, ◌+◌, ◌*◌, ◌^◌, ◌<◌, ◌%◌, List, [], ◌∷◌, length, drop, Option, Some, None, nat_lt, if◌then◌else◌}
use Rattle.byteorder.specs.Endian.{big_bytes, big_number}

-- how long a spelling is
pub data Size : Type 0 where
  one : Size
  two : Size
  four : Size
  eight : Size

abbrev pub byte_count : Size → ℕ
byte_count one = 1
byte_count two = 2
byte_count four = 4
byte_count eight = 8

-- the two top bits
abbrev pub mark : Size → ℕ
mark one = 0
mark two = 1
mark four = 2
mark eight = 3

-- the values of that size are below this
abbrev pub room : Size → ℕ
room one = 2 ^ 6
room two = 2 ^ 14
room four = 2 ^ 30
room eight = 2 ^ 62

-- the mark and then the value, the highest byte first
abbrev pub spelling : Size → ℕ → List ℕ
spelling s v = big_bytes (byte_count s) (mark s * room s + v)

-- the bytes spell the value, in one of the four sizes
abbrev pub Spells : ℕ → List ℕ → Type 0
Spells v bytes = (s : Size) × (v < room s) × (bytes ≡ spelling s v)

-- the least size that has room for a value below 2 ^ 62
abbrev pub least_size : ℕ → Size
least_size v = if nat_lt v (2 ^ 6) then one else (if nat_lt v (2 ^ 14) then two else (if nat_lt v (2 ^ 30) then four else eight))

-- the shortest spelling
unfoldable pub short : ℕ → List ℕ
short v = spelling (least_size v) v

unfoldable pub short_len : ℕ → ℕ
short_len v = byte_count (least_size v)

-- the size that a first byte tells
abbrev pub size_at : ℕ → Size
size_at b = if nat_lt b 64 then one else (if nat_lt b 128 then two else (if nat_lt b 192 then four else eight))

-- the number that begins the bytes, and how many bytes it takes
unfoldable pub varint_at : List ℕ → Option (ℕ × ℕ)
varint_at [] = None
varint_at (b ∷ bs) =
    let s = size_at b in
    if nat_lt (length (b ∷ bs)) (byte_count s) then None else Some (big_number (byte_count s) (b ∷ bs) % room s, byte_count s)

-- all numbers that the bytes spell, at most so many
abbrev pub next_number : List ℕ → (List ℕ → List ℕ) → Option (ℕ × ℕ) → List ℕ
next_number bytes more None = []
next_number bytes more (Some x) = x.0 ∷ more (drop x.1 bytes)

unfoldable pub numbers_within : ℕ → List ℕ → List ℕ
numbers_within zero bytes = []
numbers_within (suc n) bytes = next_number bytes (numbers_within n) (varint_at bytes)

-- all numbers that the bytes spell
unfoldable pub numbers_of : List ℕ → List ℕ
numbers_of bytes = numbers_within (length bytes) bytes
