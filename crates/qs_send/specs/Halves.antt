-- Of private contracts.
-- The sending halves of the streams of one type in a table, where one that is over takes few bytes.
use Rattle.std.specs.Prelude.{◌≡◌, ℕ, ◌+◌, ◌*◌, ◌/◌, ◌%◌, ◌<◌, ◌≤◌, ◌^◌, ◌==◌, Bool, true, false, List, [], ◌∷◌, length, slice_index_or, Option, None, Some}
use Rattle.std.specs.FinSet as set
use Rattle.qs_ranges.specs.Numbers.{MAX_VARINT, numbers}
use Rattle.qs_send.specs.Lane.{Sending, new_sending}
use Rattle.qs_send.specs.declared.halves.slot.SendSlot.{SendSlot}

-- A half that is over: so many bytes were written, and each of them and the end are acknowledged (RFC 9000, section 3.1)
abbrev pub over_sending : ℕ → ℕ → ℕ → Bool → ℕ → ℕ → Sending
over_sending id written limit blocked buffer widest =
    record {
      lane = record { id = id; written = written; kept = []; acked = numbers 0 written; sent_end = written; finished = true; fin_sent = true; fin_acked = true; blocked_sent = blocked; was_reset = None; reset_acked = false; limit = limit; buffer = buffer; widest = widest; stopped = None };
      due = record { offsets = set.empty; fin = false };
    }

-- a half that is over: neither a reset nor a STOP_SENDING came (RFC 9000, section 3.1)
pub record IsOver (s : Sending) : Type 0 where
  pub written : ℕ
  pub blocked : Bool
  pub widest : ℕ
  pub is : s ≡ over_sending s.lane.id written s.lane.limit blocked s.lane.buffer widest

-- the half at an index
abbrev pub half_at : List Sending → ℕ → Sending
half_at halves i = slice_index_or halves i (new_sending 0 0 0)

-- the half for which a slot stands
abbrev pub slot_half : ℕ → List Sending → SendSlot → Option ℕ → Sending
slot_half id full slot None = half_at full slot.rest
slot_half id full slot (Some n) = over_sending id n (slot.rest / 2) (slot.rest % 2 == 1) slot.buffer slot.widest

-- the halves for which slots stand, the first of which has an index
abbrev pub halves_from : ℕ → List Sending → ℕ → List SendSlot → List Sending
halves_from kind full i [] = []
halves_from kind full i (slot ∷ slots) = slot_half (i * 4 + kind) full slot slot.written ∷ halves_from kind full (i + 1) slots

-- of a half that is over what was written is within the limit, and the greatest buffer is no less than the buffer
pub record IsOverSlot (slot : SendSlot) (n : ℕ) : Type 0 where
  pub is : slot.written ≡ Some n
  pub within : n ≤ slot.rest / 2
  pub small : slot.rest / 2 ≤ MAX_VARINT
  pub widest : slot.buffer ≤ slot.widest

-- the slot at an index
abbrev pub slot_at : List SendSlot → ℕ → SendSlot
slot_at slots i = slice_index_or slots i (record { written = None; rest = 0; buffer = 0; widest = 0 })

-- each slot of a half that isn't over names a place of its own among so many
pub record ArePlaced (slots : List SendSlot) (count : ℕ) : Type 0 where
  pub few : length slots ≤ 2 ^ 60
  pub placed : (i : ℕ) → i < length slots → (slot_at slots i).written ≡ None → (slot_at slots i).rest < count
  pub apart : (i j : ℕ) → i < length slots → j < length slots → (slot_at slots i).written ≡ None → (slot_at slots j).written ≡ None → (slot_at slots i).rest ≡ (slot_at slots j).rest → i ≡ j
  pub over : (i n : ℕ) → i < length slots → (slot_at slots i).written ≡ Some n → IsOverSlot (slot_at slots i) n
