-- Of private contracts.
-- A number below 2^62, or none, in one word.
use Rattle.std.specs.Prelude.{ℕ, ◌-◌, ◌^◌, nat_le, if◌then◌else◌, Option, None, Some}
use Rattle.qs_ranges.specs.Numbers.{MAX_VARINT}

-- the word that stands for no number
abbrev pub NO_NUMBER : ℕ
NO_NUMBER = 2 ^ 64 - 1

-- what a word stands for
abbrev pub number_in : ℕ → Option ℕ
number_in word = if nat_le word MAX_VARINT then Some word else None

-- the word of a number, or of none
abbrev pub word_of : Option ℕ → ℕ
word_of None = NO_NUMBER
word_of (Some n) = n
