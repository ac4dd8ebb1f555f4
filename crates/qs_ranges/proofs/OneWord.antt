-- Bits of a word that are set, cleared, or sought.
use Rattle.std.proofs.Common.{◌≡◌, ◌∙◌, ℕ, ◌+◌, ◌-◌, ◌*◌, ◌/◌, ◌%◌, ◌^◌, ◌<◌, ◌≤◌, true, false, None, Some, bit_and, bit_or, w64, sym, ap, subst, refl, inl, inr, arith}
use Rattle.std.specs.Int.{bit_at, bit_not, trailing_zeros}
use Rattle.std.proofs.lemmas.Bool.{cases_lt, eq-eqb}
use Rattle.std.proofs.lemmas.Nat.{shr-shr, shr_le}
use Rattle.std.proofs.lemmas.Nat.Bits.{bit_at-zero, bit_at_above, bit_at-trailing_zeros, bit_at_set_same, bit_at_set_other, bit_at_clear_same, bit_at_clear_other}
use Rattle.std.proofs.lemmas.Option.{none-some, same_Some}
use Rattle.qs_ranges.specs.Bits.{HasBit, IsLowestBit}

pub bit_set : (word bit : ℕ) → bit < 64 → HasBit word bit true (bit_or word (1 * 2 ^ bit % 2 ^ 64))
bit_set word bit small =
    record {
      here = eq-eqb _ 1 (bit_at_set_same w64 word bit small);
      others = λ i lt differs. bit_at_set_other w64 word bit small i differs;
    }

pub bit_cleared : (word bit : ℕ) → bit < 64 → HasBit word bit false (bit_and word (bit_not w64 (1 * 2 ^ bit % 2 ^ 64)))
bit_cleared word bit small =
    record {
      here = rw (bit_at_clear_same w64 word bit small) refl;
      others = λ i lt differs. bit_at_clear_other w64 word bit small i lt differs;
    }

-- bits of a word that was shifted
bit_at_shifted : (word from i : ℕ) → bit_at (word / 2 ^ from) i ≡ bit_at word (from + i)
bit_at_shifted word from i = ap (λ n. n % 2) (shr-shr word from i)

pub no_bit_from : (word from : ℕ) → word / 2 ^ from ≡ 0 → IsLowestBit word from None
no_bit_from word from none =
    record {
      found = λ n is. absurd (none-some n is);
      clear = λ i le lt before.
          let at : from + (i - from) ≡ i = omega (arith, le) in
          let zero_at : bit_at (word / 2 ^ from) (i - from) ≡ 0 = rw none (bit_at-zero (i - from)) in
          rw at at (sym (bit_at_shifted word from (i - from)) ∙ zero_at);
    }

module _ (word from : ℕ) (fits : word < 2 ^ 64) (some : 0 < word / 2 ^ from) where
  lowest : (trailing_zeros w64 (word / 2 ^ from) < 64) × (bit_at (word / 2 ^ from) (trailing_zeros w64 (word / 2 ^ from)) ≡ 1) × ((i : ℕ) → i < trailing_zeros w64 (word / 2 ^ from) → bit_at (word / 2 ^ from) i ≡ 0)
  lowest = bit_at-trailing_zeros w64 (word / 2 ^ from) some (omega (arith, fits, shr_le word from))

  lowest_is_set : bit_at word (from + trailing_zeros w64 (word / 2 ^ from)) ≡ 1
  lowest_is_set = sym (bit_at_shifted word from (trailing_zeros w64 (word / 2 ^ from))) ∙ lowest.1

  lowest_below : from + trailing_zeros w64 (word / 2 ^ from) < 64
  lowest_below =
      elim (cases_lt (from + trailing_zeros w64 (word / 2 ^ from)) 64) [
        | inl lt ↦ lt
        | inr ge ↦ absurd (omega (arith, lowest_is_set, bit_at_above word 64 (from + trailing_zeros w64 (word / 2 ^ from)) fits ge))
      ]

  pub lowest_from : IsLowestBit word from (Some (from + trailing_zeros w64 (word / 2 ^ from)))
  lowest_from =
      record {
        found = λ n is. subst (λ m. (from ≤ m) × (m < 64) × (bit_at word m ≡ 1)) (same_Some _ n is) (omega arith, lowest_below, lowest_is_set);
        clear = λ i le lt before.
            let at : from + (i - from) ≡ i = omega (arith, le) in
            rw at at (sym (bit_at_shifted word from (i - from)) ∙ lowest.2 (i - from) (omega (arith, le, before)));
      }
