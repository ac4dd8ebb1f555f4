-- A search by words: what is passed, and what is found.
use Rattle.std.proofs.Common.{◌≡◌, ◌∙◌, ℕ, ◌+◌, ◌*◌, ◌/◌, ◌%◌, ◌^◌, ◌<◌, ◌≤◌, true, false, List, length, get_or, max, nat_lt, Option, None, Some, w64, sym, subst, refl, inl, inr, arith}
use Rattle.std.specs.Int.{bit_at, trailing_zeros}
use Rattle.std.proofs.lemmas.Bool.{cases_lt, eq-eqb, ltb-true}
use Rattle.std.proofs.lemmas.Option.{none-some, same_Some}
use Rattle.std.proofs.lemmas.Nat.Bits.{bit_at-trailing_zeros}
use Rattle.qs_ranges.specs.Bits.{IsBefore, IsLowestBit}
use Rattle.qs_streams.specs.Rows.{on, word, has, IsNext}
use Rattle.qs_streams.specs.Boards.{IsBoard}
use Rattle.qs_streams.proofs.Flags.{has_past, has_at, word_past, none_in_zero}
use Rattle.qs_streams.proofs.BoardEdits.{none_of_row, not_above}

-- no index from one on, below a bit of a word, is marked
pub record IsClearTo (rows : List (List ℕ)) (t from place bit : ℕ) : Type 0 where
  pub small : bit < 64
  pub reach : from ≤ place * 64 + bit
  pub none : (i : ℕ) → from ≤ i → i < place * 64 + bit → has rows t i ≡ false

pub clear_here : (rows : List (List ℕ)) (t from : ℕ) → IsClearTo rows t from (from / 64) (from % 64)
clear_here rows t from = record { small = omega arith; reach = omega arith; none = λ i le lt. absurd (omega (arith, le, lt)) }

module _ (rows : List (List ℕ)) (t from place bit : ℕ) (clear : IsClearTo rows t from place bit) where
  -- past the last block there is none
  pub none_past : length rows ≤ place → IsNext (has rows t) from None
  none_past past = record {
    found = λ n is. absurd (none-some n is);
    unmarked = λ i le before.
        elim (cases_lt i (place * 64 + bit)) [
          | inl lt ↦ clear.none i le lt
          | inr ge ↦ has_past rows t i (omega (arith, ge, past))
        ];
  }

  -- below the lowest bit that is set
  before_lowest : (answer : Option ℕ) → IsLowestBit (word rows t place) bit answer → (i : ℕ) → from ≤ i → i < place * 64 + 64 → (place * 64 ≤ i → IsBefore (i % 64) answer) → has rows t i ≡ false
  unfolding on
  before_lowest answer lowest i le lt before =
      elim (cases_lt i (place * 64 + bit)) [
        | inl below ↦ clear.none i le below
        | inr ge ↦
            let unset : bit_at (word rows t place) (i % 64) ≡ 0 = lowest.clear (i % 64) (omega (arith, ge, lt)) (omega arith) (before (omega (arith, ge))) in
            let here : place * 64 + i % 64 ≡ i = omega (arith, ge, lt) in
            subst (λ j. has rows t j ≡ false) here (has_at rows t place (i % 64) (omega arith) ∙ rw unset refl)
      ]

  pub passed : IsLowestBit (word rows t place) bit None → IsClearTo rows t from (place + 1) 0
  passed lowest = record {
    small = omega arith;
    reach = omega (arith, clear.small, clear.reach);
    none = λ i le lt. before_lowest None lowest i le (omega (arith, lt)) (λ from_here. tt);
  }

  pub found : (marked : ℕ) → IsLowestBit (word rows t place) bit (Some marked) → IsNext (has rows t) from (Some (place * 64 + marked))
  unfolding on
  found marked lowest =
      let low = lowest.found marked refl in
      record {
        found = λ n is.
            subst (λ m. (from ≤ m) × (has rows t m ≡ true)) (same_Some (place * 64 + marked) n is)
            (omega (arith, clear.reach, low.0), has_at rows t place marked low.1 ∙ eq-eqb _ 1 low.2);
        unmarked = λ i le before. before_lowest (Some marked) lowest i le (omega (arith, before, low.1)) (λ from_here. omega (arith, before, from_here));
      }

-- a word that isn't 0 has a bit
pub some_bit : (w : ℕ) → w < 2 ^ 64 → nat_lt 0 w ≡ true → IsLowestBit w 0 None → ⊥
some_bit w small is lowest =
    let at : (trailing_zeros w64 w < 64) × (bit_at w (trailing_zeros w64 w) ≡ 1) × ((i : ℕ) → i < trailing_zeros w64 w → bit_at w i ≡ 0) = bit_at-trailing_zeros w64 w (ltb-true 0 w is) small in
    absurd (omega (arith, at.1, lowest.clear (trailing_zeros w64 w) (omega arith) at.0 tt))

-- A search in a board: what the tops pass.
module _ (blocks tops : List (List ℕ)) (counts least : List ℕ) (some : ℕ) (b : IsBoard blocks tops counts least some) (t from : ℕ) (t_in : t < 22) where
  pub next_none : get_or counts t 0 ≡ 0 → IsNext (has blocks t) from None
  next_none none = record { found = λ n is. absurd (none-some n is); unmarked = λ i le before. none_of_row _ _ _ _ _ b t i t_in none }

  top_none : (i : ℕ) → has tops t (i / 64) ≡ false → has blocks t i ≡ false
  top_none i none = none_in_zero blocks t i (not_above (word blocks t (i / 64)) (sym (b.summed t (i / 64)) ∙ none))

  module _ (start : ℕ) (start_is : start ≡ max from (get_or least t 0 * 64)) where
    pub clear_low : IsClearTo blocks t from (start / 64) (start % 64)
    clear_low = record {
      small = omega arith;
      reach = omega (arith, start_is);
      none = λ i le lt. top_none i (b.low t (i / 64) t_in (omega (arith, le, lt, start_is)));
    }

    pub next_past : length blocks ≤ start / 64 → IsNext (has blocks t) from None
    next_past = none_past _ _ _ _ _ clear_low

    module _ (last : IsLowestBit (word blocks t (start / 64)) (start % 64) None) where
      pub no_top : IsNext (has tops t) (start / 64 + 1) None → IsNext (has blocks t) from None
      no_top none = record {
        found = λ n is. absurd (none-some n is);
        unmarked = λ i le before.
            elim (cases_lt i ((start / 64 + 1) * 64)) [
              | inl lt ↦ (passed _ _ _ _ _ clear_low last).none i le (omega (arith, lt))
              | inr ge ↦ top_none i (none.unmarked (i / 64) (omega (arith, ge)) tt)
            ];
      }

      module _ (place : ℕ) (top : IsNext (has tops t) (start / 64 + 1) (Some place)) where
        clear_top : IsClearTo blocks t from place 0
        clear_top = record {
          small = omega arith;
          reach = omega (arith, (passed _ _ _ _ _ clear_low last).reach, (top.found place refl).0);
          none = λ i le lt.
              elim (cases_lt i ((start / 64 + 1) * 64)) [
                | inl below ↦ (passed _ _ _ _ _ clear_low last).none i le (omega (arith, below))
                | inr ge ↦ top_none i (top.unmarked (i / 64) (omega (arith, ge)) (omega (arith, lt)))
              ];
        }

        top_word : nat_lt 0 (word blocks t place) ≡ true
        top_word = sym (b.summed t place) ∙ (top.found place refl).1

        pub top_there : place < length blocks
        top_there = elim (cases_lt place (length blocks)) [
          | inl lt ↦ lt
          | inr ge ↦ absurd (omega (arith, ltb-true 0 (word blocks t place) top_word, word_past blocks t place ge))
        ]

        pub next_top : (bit : ℕ) → IsLowestBit (word blocks t place) 0 (Some bit) → IsNext (has blocks t) from (Some (place * 64 + bit))
        next_top bit lowest = found _ _ _ _ _ clear_top bit lowest

        pub top_some : word blocks t place < 2 ^ 64 → IsLowestBit (word blocks t place) 0 None → ⊥
        top_some small none = some_bit (word blocks t place) small top_word none
