-- Of private contracts.
-- Which slots of the records are empty, as far as it was noted, as bits of words of 64.
--     is_gone words i          the slot of index i is noted as empty
--     AreGone words first m    what is noted is true of the records, whose first index is that of number `first`
--     AreFull full words       the words that are noted as full have all of their bits set
use Rattle.std.specs.Prelude.{◌≡◌, ℕ, ◌+◌, ◌-◌, ◌/◌, ◌%◌, ◌==◌, Bool, true, false, List, slice_index}
use Rattle.std.specs.Int.{bit_at}
use Rattle.std.specs.FinMap as fmap
use Rattle.qs_send.specs.Records.{PacketPieces}

-- the slot of an index is noted as empty: its bit is set, in a word in which the lower index has the upper bit
abbrev pub is_gone : List ℕ → ℕ → Bool
is_gone words i = bit_at (slice_index words (i / 64)) (63 - i % 64) == 1

-- the number of a slot that is noted as empty has no record
abbrev pub AreGone : List ℕ → ℕ → PacketPieces → Type 0
AreGone words first m = (i : ℕ) → is_gone words i ≡ true → fmap.contains_key m (first + i) ≡ false

-- a word that is noted as full notes each of its slots as empty
abbrev pub AreFull : List ℕ → List ℕ → Type 0
AreFull full words = (i : ℕ) → is_gone full (i / 64) ≡ true → is_gone words i ≡ true
