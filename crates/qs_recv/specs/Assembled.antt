-- Trusted.
-- What an assembly holds of a stream, however it keeps it (RFC 9000, section 2.2, for the whole file).
--     Assembled      the bytes that are still to be read, by offset; every offset that came; how many bytes were read; how far past
--                    these the next ones may lie, the widest window that was set; and whether bytes are thrown away
--     nothing_yet, at_rest, put, take_front, discard      what the calls of an assembly leave
--     forget, widen      what a reset leaves, and a greater window
--     front m at size      the bytes of m from an offset on, up to the first offset that isn't in m, and at most size
--     same m at bytes      whether bytes from an offset on are those that m has there
use Rattle.std.specs.Prelude.{ℕ, ◌+◌, zero, suc, Bool, true, false, if◌then◌else◌, ◌==◌, ◌&&◌, nat_le, max, List, [], ◌∷◌, length, Option, None, Some}
use Rattle.std.specs.Ordering.{nat_cmp}
use Rattle.std.specs.FinMap as map
use Rattle.std.specs.FinSet as set
use Rattle.qs_ranges.specs.Numbers.{NumberSet, numbers, end_of}

pub record Assembled : Type 0 where
  pub stored : map.FinMap nat_cmp ℕ
  pub received : NumberSet
  pub read_count : ℕ
  pub widest : ℕ
  pub discarding : Bool

-- nothing came, and bytes within one window may (RFC 9000, section 4.1)
abbrev pub nothing_yet : ℕ → Assembled
nothing_yet window = record { stored = map.empty; received = set.empty; read_count = 0; widest = window; discarding = false }

-- the offsets below `end` came, and nothing is stored: what came was read or thrown away (RFC 9000, sections 2.2 and 3.5)
abbrev pub at_rest : ℕ → ℕ → ℕ → Bool → Assembled
at_rest window read_count end discarding =
    record { stored = map.empty; received = numbers 0 end; read_count = read_count; widest = window; discarding = discarding }

-- m, and under each offset from `at` on that didn't come before, the byte that comes there
unfoldable pub store : NumberSet → map.FinMap nat_cmp ℕ → ℕ → List ℕ → map.FinMap nat_cmp ℕ
store received m at [] = m
store received m at (byte ∷ bytes) =
    store received (if set.contains received at then m else map.insert m at byte) (at + 1) bytes

-- bytes may come in any order and more than once; an offset keeps the byte that came first (RFC 9000, section 2.2)
abbrev pub put : Assembled → ℕ → List ℕ → Assembled
put a offset bytes =
    record a {
      stored = if a.discarding then a.stored else store a.received a.stored offset bytes;
      received = set.union a.received (numbers offset (offset + length bytes));
    }

-- a byte, where there is one, before others
abbrev pub front_from : Option ℕ → List ℕ → List ℕ
front_from None bytes = []
front_from (Some byte) bytes = byte ∷ bytes

-- the bytes from an offset on, up to the first that is missing, and at most so many
unfoldable pub front : map.FinMap nat_cmp ℕ → ℕ → ℕ → List ℕ
front m at zero = []
front m at (suc size) = front_from (map.get m at) (front m (at + 1) size)

-- the bytes at an offset and past it
unfoldable pub keep_from : map.FinMap nat_cmp ℕ → ℕ → map.FinMap nat_cmp ℕ
keep_from m at = map.retain_keys m (λ offset. nat_le at offset)

-- the bytes that are next to be read
abbrev pub front_of : Assembled → ℕ → List ℕ
front_of a size = front a.stored a.read_count size

-- these bytes are read
abbrev pub take_front : Assembled → ℕ → Assembled
take_front a size =
    let after = a.read_count + length (front_of a size) in
    record a { stored = keep_from a.stored after; read_count = after }

-- what is stored is thrown away, and so is what comes from now on
abbrev pub discard : Assembled → Assembled
discard a = record a { stored = map.empty; discarding = true }

-- bytes may lie so far past those that were read, too (RFC 9000, section 4.2)
abbrev pub widen : Assembled → ℕ → Assembled
widen a window = record a { widest = max a.widest window }

-- after a reset nothing is stored from now on, and it doesn't matter which offsets came: each one up to the largest that did counts as
-- one that came (RFC 9000, section 3.2)
abbrev pub forget : Assembled → Assembled
forget a = record a { stored = map.empty; received = numbers 0 (end_of a.received); discarding = true }

-- whether a byte is the one that is stored, where one is (RFC 9000, section 2.2)
abbrev pub agrees : Option ℕ → ℕ → Bool
agrees None byte = true
agrees (Some stored) byte = stored == byte

-- whether each byte from an offset on is the one that is stored at its offset, where one is (RFC 9000, section 2.2)
unfoldable pub same : map.FinMap nat_cmp ℕ → ℕ → List ℕ → Bool
same m at [] = true
same m at (byte ∷ bytes) = agrees (map.get m at) byte && same m (at + 1) bytes
