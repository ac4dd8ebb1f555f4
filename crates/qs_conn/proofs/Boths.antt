-- Words of flags that two rows share, and of flags that one has and another not.
use Rattle.std.proofs.lemmas.Bool.Decides.{nat_tests}
use Rattle.std.proofs.Common.{◌≡◌, ℕ, suc, ◌+◌, ◌-◌, ◌*◌, ◌^◌, ◌<◌, ◌==◌, ◌&&◌, not, w64, Bool, true, false, List, [], ◌∷◌, length, min, bit_and, refl, sym, ap, ◌∙◌, arith}
use Rattle.std.specs.Int.{bit_at, bit_not}
use Rattle.std.proofs.lemmas.Nat.Bits.{bit_at_and, bit_at-lt, bit_at_not}
use Rattle.qs_conn.specs.Marks.{is_marked, both, untold, AreSummed, AreFull}
use Rattle.qs_conn.specs.Words.{IsWordOf}

no_more : (b : Bool) → (b && false) ≡ false
no_more b = grind (arith, nat_tests)

not_told : (b : Bool) → b ≡ (b && not false)
not_told b = grind (arith, nat_tests)

pub both_is : (ms os : List Bool) (i : ℕ) → is_marked (both ms os) i ≡ (is_marked ms i && is_marked os i)
both_is (m ∷ ms) [] i = sym (no_more (is_marked (m ∷ ms) i))
both_is (m ∷ ms) (o ∷ os) (suc i) = both_is ms os i
both_is _ _ _ = refl

pub both_len : (ms os : List Bool) → length (both ms os) ≡ min (length ms) (length os)
both_len (m ∷ ms) (o ∷ os) = omega (arith, both_len ms os)
both_len _ _ = omega arith

pub untold_is : (ms ts : List Bool) (i : ℕ) → is_marked (untold ms ts) i ≡ (is_marked ms i && not (is_marked ts i))
untold_is (m ∷ ms) [] i = not_told (is_marked (m ∷ ms) i)
untold_is (m ∷ ms) (t ∷ ts) (suc i) = untold_is ms ts i
untold_is _ _ _ = refl

pub untold_len : (ms ts : List Bool) → length (untold ms ts) ≡ length ms
untold_len (m ∷ ms) (t ∷ ts) = omega (arith, untold_len ms ts)
untold_len _ _ = omega arith

-- a bit of both
one_and : (a b c : ℕ) → c ≡ min a b → a < 2 → b < 2 → (c == 1) ≡ ((a == 1) && (b == 1))
one_and a b c is lt h = grind (arith, nat_tests)

-- the other bit
one_not : (a b : ℕ) → b ≡ 1 - a → a < 2 → (b == 1) ≡ not (a == 1)
one_not a b is lt = grind (arith, nat_tests)

pub word_both : (ms os : List Bool) (p a b : ℕ) → IsWordOf ms p a → IsWordOf os p b → IsWordOf (both ms os) p (bit_and a b)
word_both ms os p a b of_a of_b = record { bits = λ i lt. rw (both_is ms os (p * 64 + i), ← of_a.bits i lt, ← of_b.bits i lt) (one_and _ _ _ (bit_at_and a b i) (bit_at-lt a i) (bit_at-lt b i)) }

pub word_untold : (ms ts : List Bool) (p a b : ℕ) → IsWordOf ms p a → IsWordOf ts p b → b < 2 ^ 64 → IsWordOf (untold ms ts) p (bit_and a (bit_not w64 b))
word_untold ms ts p a b of_a of_b fits = record {
  bits = λ i lt.
      rw (untold_is ms ts (p * 64 + i), ← of_a.bits i lt, ← of_b.bits i lt)
      (one_and _ _ _ (bit_at_and a (bit_not w64 b) i) (bit_at-lt a i) (bit_at-lt (bit_not w64 b) i) ∙ ap (λ c. (bit_at a i == 1) && c) (one_not _ _ (bit_at_not w64 b i fits lt) (bit_at-lt b i)));
}

-- where a word of these or of those has no flag
and_left : (a b c : Bool) → (a ≡ false → c ≡ false) → (a && b) ≡ false → (b ≡ false → c ≡ false) → c ≡ false
and_left a b c ha e hb = grind (arith, nat_tests)

pub not_false : (b : Bool) → not b ≡ false → b ≡ true
not_false b e = grind (arith, nat_tests)

pub summed_both : (ms os ws vs : List Bool) → AreSummed ms ws → AreSummed os vs → AreSummed (both ms os) (both ws vs)
summed_both ms os ws vs are be =
    record {
      room = omega (arith, are.room, be.room, both_len ms os, both_len ws vs);
      none = grind (arith, nat_tests, both_is, and_left);
    }

pub summed_untold : (ms ws ts fs : List Bool) → AreSummed ms ws → AreFull ts fs → AreSummed (untold ms ts) (untold ws fs)
summed_untold ms ws ts fs are be =
    record {
      room = omega (arith, are.room, untold_len ms ts, untold_len ws fs);
      none = grind (arith, nat_tests, untold_is, not_false);
    }

-- no index is left below one where none is marked, nor below one where all were told
pub not_both : (ms os : List Bool) (i : ℕ) → is_marked ms i ≡ false → is_marked (both ms os) i ≡ false
not_both ms os i none = both_is ms os i ∙ ap (λ b. b && is_marked os i) none

pub left_below : (ms ts : List Bool) (i : ℕ) → is_marked ms i ≡ false → is_marked (untold ms ts) i ≡ false
left_below ms ts i none = untold_is ms ts i ∙ ap (λ b. b && not (is_marked ts i)) none

pub told_below : (ms ts : List Bool) (i : ℕ) → is_marked ts i ≡ true → is_marked (untold ms ts) i ≡ false
told_below ms ts i told = untold_is ms ts i ∙ ap (λ b. is_marked ms i && not b) told ∙ no_more (is_marked ms i)
