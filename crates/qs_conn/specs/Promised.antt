-- Of private contracts.
-- How many bytes of its streams an end sent or is still to send for the first time, and how many it keeps (RFC 9000, sections 2.2, 3.1 and
-- 13.3, for the whole file).
use Rattle.std.specs.Prelude.{◌≡◌, ℕ, ◌+◌, ◌≤◌, List, [], ◌∷◌, ⊤}
use Rattle.std.specs.List.{sum_by}
use Rattle.qs_ranges.specs.Numbers.{MAX_VARINT}
use Rattle.qs_send.specs.Lane.{SendLane, Sending}
use Rattle.qs_machine.specs.Asking.{kept_on}
use Rattle.qs_machine.specs.Credit.{unsent_on}

-- of a half: all that was written, or after a reset what was sent before
abbrev pub promised_on : SendLane → ℕ
promised_on l = unsent_on l + l.sent_end

-- of each half no more than there are offsets
abbrev pub EachSmall : (Sending → ℕ) → List Sending → Type 0
EachSmall count [] = ⊤
EachSmall count (s ∷ ss) = (count s ≤ MAX_VARINT) × EachSmall count ss

-- what is counted of each half, in all
pub record IsSumOf (count : Sending → ℕ) (halves : List Sending) (sum : ℕ) : Type 0 where
  pub is : sum ≡ sum_by count halves
  pub small : EachSmall count halves

-- the two sums over halves
pub record AreSums (halves : List Sending) (to_send to_keep : ℕ) : Type 0 where
  pub promised : IsSumOf (λ s. promised_on s.lane) halves to_send
  pub kept : IsSumOf (λ s. kept_on s.lane) halves to_keep
