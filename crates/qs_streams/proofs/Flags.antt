-- Rows of flags: a word as it is read, and a flag that is set or cleared.
use Rattle.std.proofs.Common.{zero, suc, ◌^◌, ◌≡◌, ◌≢◌, ◌∙◌, ℕ, ◌+◌, ◌*◌, ◌/◌, ◌%◌, ◌<◌, ◌≤◌, ◌⊎◌, ◌==◌, Bool, true, false, List, [], ◌∷◌, ◌++◌, bit_and, replicate, length, get_or, set, sym, ap, refl, inl, inr, arith}
use Rattle.std.specs.Int.{bit_at}
use Rattle.std.proofs.lemmas.Bool.{cases_eq, cases_lt, true≢false}
use Rattle.std.proofs.lemmas.Nat.Bits.{bit_at-zero, shr_and_one}
use Rattle.std.proofs.lemmas.List.{get_or_past, get_or_read, get_or-set_same, get_or-set_other, length-set, length-append}
use Rattle.qs_ranges.specs.Bits.{HasBit}
use Rattle.qs_streams.specs.Rows.{on, word, has, IsTurned, IsLonger, AreBlocks}

pub on_zero : (i : ℕ) → on 0 i ≡ false
unfolding on
on_zero i = rw (bit_at-zero i) refl

pub on_test : (word bit : ℕ) → (bit_and (word / 2 ^ bit) 1 == 1) ≡ on word bit
unfolding on
on_test word bit = rw (shr_and_one word bit) refl

pub word_past : (rows : List (List ℕ)) (t place : ℕ) → length rows ≤ place → word rows t place ≡ 0
unfolding word
word_past rows t place past = rw (get_or_past rows place [] past) refl

pub has_past : (rows : List (List ℕ)) (t i : ℕ) → length rows ≤ i / 64 → has rows t i ≡ false
unfolding has
has_past rows t i past = rw (word_past rows t (i / 64) past) (on_zero (i % 64))

-- the flag of a bit of a word
pub has_at : (rows : List (List ℕ)) (t place i : ℕ) → i < 64 → has rows t (place * 64 + i) ≡ on (word rows t place) i
unfolding has
has_at rows t place i lt =
    let at : (place * 64 + i) / 64 ≡ place = omega (arith, lt) in
    let left : (place * 64 + i) % 64 ≡ i = omega (arith, lt) in
    rw (at, left) refl

pub none_in_zero : (rows : List (List ℕ)) (t i : ℕ) → word rows t (i / 64) ≡ 0 → has rows t i ≡ false
unfolding has
none_in_zero rows t i none = rw none (on_zero (i % 64))

pub word_read : (rows : List (List ℕ)) (t place : ℕ) (block : List ℕ) → place < length rows → block ≡ get_or rows place block → get_or block t 0 ≡ word rows t place
unfolding word
word_read rows t place block there read = rw (get_or_read rows place block there read []) refl

-- a block more
padded : (n k : ℕ) → get_or {A = ℕ} (replicate n 0) k 0 ≡ 0
padded zero k = refl
padded (suc n) zero = refl
padded (suc n) (suc k) = padded n k

more : (rows : List (List ℕ)) (p t : ℕ) → get_or (get_or (rows ++ replicate 22 0 ∷ []) p []) t 0 ≡ get_or (get_or rows p []) t 0
more [] zero t = padded 22 t
more [] (suc p) t = refl
more (x ∷ rows) zero t = refl
more (x ∷ rows) (suc p) t = more rows p t

block_more : (rows : List (List ℕ)) (p : ℕ) → ((q : ℕ) → q < length rows → length (get_or rows q []) ≡ 22) → p < length rows + 1 → length (get_or (rows ++ replicate 22 0 ∷ []) p []) ≡ 22
block_more [] zero each lt = refl
block_more [] (suc p) each lt = absurd (omega (arith, lt))
block_more (x ∷ rows) zero each lt = each 0 (omega arith)
block_more (x ∷ rows) (suc p) each lt = block_more rows p (λ q less. each (suc q) (omega (arith, less))) (omega (arith, lt))

word_more : (rows : List (List ℕ)) (t p : ℕ) → word (rows ++ replicate 22 0 ∷ []) t p ≡ word rows t p
unfolding word
word_more rows t p = more rows p t

pub longer : (rows : List (List ℕ)) → IsLonger rows (rows ++ replicate 22 0 ∷ [])
unfolding has
longer rows = record {
  flags = λ t i. ap (λ w. on w (i % 64)) (word_more rows t (i / 64));
  words = λ t p. word_more rows t p;
  least = omega (arith, length-append rows (replicate 22 0 ∷ []));
  most = omega (arith, length-append rows (replicate 22 0 ∷ []));
}

pub as_long : (rows : List (List ℕ)) → IsLonger rows rows
as_long rows = record { flags = λ t i. refl; words = λ t p. refl; least = omega arith; most = omega arith }

pub blocks_more : (rows : List (List ℕ)) → AreBlocks rows → length rows < 2 ^ 56 → AreBlocks (rows ++ replicate 22 0 ∷ [])
blocks_more rows are few = record {
  each = λ p lt. block_more rows p are.each (omega (arith, lt, length-append rows (replicate 22 0 ∷ [])));
  few = omega (arith, few, length-append rows (replicate 22 0 ∷ []));
}

module _ (rows : List (List ℕ)) (t i : ℕ) (block : List ℕ) (new : ℕ) (v : Bool) (are : AreBlocks rows) (room : i < 64 * length rows) (read : block ≡ get_or rows (i / 64) block) (t_in : t < 22) (bit : HasBit (get_or block t 0) (i % 64) v new) where
  there : i / 64 < length rows
  there = omega (arith, room)

  block_is : get_or rows (i / 64) [] ≡ block
  block_is = sym (get_or_read rows (i / 64) block there read [])

  within : t < length block
  within = omega (arith, t_in, are.each (i / 64) there, ap length block_is)

  new_block : get_or (set rows (i / 64) (set block t new)) (i / 64) [] ≡ set block t new
  new_block = get_or-set_same rows (i / 64) (set block t new) [] there

  pub turned_word : new ≡ word (set rows (i / 64) (set block t new)) t (i / 64)
  unfolding word
  turned_word = rw (new_block, get_or-set_same block t new 0 within) refl

  same_word : (u p : ℕ) → (u ≢ t) ⊎ (p ≢ i / 64) → word (set rows (i / 64) (set block t new)) u p ≡ word rows u p
  unfolding word
  same_word u p (inl other) =
      elim (cases_eq p (i / 64)) [
        | inl at ↦ rw (at, new_block, block_is, get_or-set_other block t u new 0 other) refl
        | inr apart ↦ rw (get_or-set_other rows (i / 64) p (set block t new) [] apart) refl
      ]
  same_word u p (inr apart) = rw (get_or-set_other rows (i / 64) p (set block t new) [] apart) refl

  pub old_word : get_or block t 0 ≡ word rows t (i / 64)
  unfolding word
  old_word = rw block_is refl

  pub turned : IsTurned rows t i v (set rows (i / 64) (set block t new))
  unfolding has on
  turned =
      record {
        here = rw (← turned_word) bit.here;
        rows = λ u j differs. ap (λ w. bit_at w (j % 64) == 1) (same_word u (j / 64) (inl differs));
        others = λ j differs.
            elim (cases_eq (j / 64) (i / 64)) [
              | inl at ↦
                  rw (at, ← turned_word, ← old_word) (ap (λ b. b == 1) (bit.others (j % 64) (omega arith) (λ same. differs (omega (arith, same, at)))))
              | inr apart ↦ ap (λ w. bit_at w (j % 64) == 1) (same_word t (j / 64) (inr apart))
            ];
        words = same_word;
        len = length-set rows (i / 64) (set block t new);
      }

  pub turned_blocks : AreBlocks (set rows (i / 64) (set block t new))
  turned_blocks = record {
    each = λ p lt.
        elim (cases_eq p (i / 64)) [
          | inl at ↦ rw (at, new_block, length-set block t new) (omega (arith, are.each (i / 64) there, ap length block_is))
          | inr apart ↦ rw (get_or-set_other rows (i / 64) p (set block t new) [] apart) (are.each p (omega (arith, lt, length-set rows (i / 64) (set block t new))))
        ];
    few = omega (arith, are.few, length-set rows (i / 64) (set block t new));
  }

-- the flag of an index, where there is a word for it, and where there is none
pub has_read : (rows : List (List ℕ)) (t i : ℕ) → on (word rows t (i / 64)) (i % 64) ≡ has rows t i
unfolding has
has_read rows t i = refl

pub has_within : (rows : List (List ℕ)) (t i : ℕ) → has rows t i ≡ true → i < 64 * length rows
has_within rows t i is =
    elim (cases_lt (i / 64) (length rows)) [
      | inl lt ↦ omega (arith, lt)
      | inr ge ↦ absurd (true≢false (sym is ∙ has_past rows t i ge))
    ]
