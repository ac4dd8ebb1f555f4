-- A board, once a flag was set or cleared.
use Rattle.std.proofs.Common.{◌≡◌, ◌≢◌, ◌∙◌, ℕ, ◌+◌, ◌-◌, ◌*◌, ◌/◌, ◌^◌, ◌<◌, ◌≤◌, ◌⊎◌, ◌==◌, Bool, true, false, not, min, List, [], length, replicate, zero, suc, get_or, set, nat_lt, sym, ap, refl, subst, inl, inr, arith}
use Rattle.std.proofs.lemmas.Bool.{cases_lt, cases_eq, true≢false}
use Rattle.std.proofs.lemmas.Bool.Decides.{nat_tests}
use mathlib.Core.Bool.{beq}
use Rattle.std.proofs.lemmas.List.{get_or-set_same, get_or-set_other, length-set}
use Rattle.qs_ranges.specs.Bits.{HasBit}
use Rattle.qs_streams.specs.Rows.{on, word, has, IsSetAt, IsTurned, IsLonger}
use Rattle.qs_streams.specs.Boards.{one_if, card, IsBoard}
use Rattle.qs_streams.proofs.Flags.{has_within, on_zero, has_past, word_past, none_in_zero}

-- how many are marked

pub card_same : (p q : ℕ → Bool) (n : ℕ) → ((j : ℕ) → j < n → q j ≡ p j) → card q n ≡ card p n
card_same p q zero same = refl
card_same p q (suc n) same = rw (card_same p q n (λ j lt. same j (omega (arith, lt))), same n (omega arith)) refl

card_one : (p q : ℕ → Bool) (i n : ℕ) → ((j : ℕ) → j ≢ i → q j ≡ p j) → i < n → card q n + one_if (p i) ≡ card p n + one_if (q i)
card_one p q i zero others lt = absurd (omega (arith, lt))
card_one p q i (suc n) others lt =
    elim (cases_eq i n) [
      | inl at ↦ rw (card_same p q n (λ j less. others j (λ is. omega (arith, is, at, less))), at) (omega arith)
      | inr apart ↦ rw (others n (λ is. apart (sym is))) (omega (arith, card_one p q i n others (omega (arith, lt, apart))))
    ]

one_le : (b : Bool) → one_if b ≤ 1
one_le true = omega arith
one_le false = omega arith

card_le : (p : ℕ → Bool) (n : ℕ) → card p n ≤ n
card_le p zero = omega arith
card_le p (suc n) = omega (arith, card_le p n, one_le (p n))

one_if_not : (v : Bool) → one_if v + one_if (not v) ≡ 1
one_if_not true = refl
one_if_not false = refl

none_of : (b : Bool) → one_if b ≡ 0 → b ≡ false
none_of true none = absurd (omega (arith, none))
none_of false none = refl

card_none : (p : ℕ → Bool) (i n : ℕ) → card p n ≡ 0 → i < n → p i ≡ false
card_none p i zero none lt = absurd (omega (arith, lt))
card_none p i (suc n) none lt =
    elim (cases_eq i n) [
      | inl at ↦ rw at (none_of (p n) (omega (arith, none)))
      | inr apart ↦ card_none p i n (omega (arith, none)) (omega (arith, lt, apart))
    ]

card_more : (p q : ℕ → Bool) (n m : ℕ) → n ≤ m → ((j : ℕ) → q j ≡ p j) → ((j : ℕ) → n ≤ j → p j ≡ false) → card q m ≡ card p n
card_more p q n zero le same none = let is : n ≡ 0 = omega (arith, le) in rw is refl
card_more p q n (suc m) le same none =
    elim (cases_lt n (suc m)) [
      | inl lt ↦ rw (same m, none m (omega (arith, lt))) (omega (arith, card_more p q n m (omega (arith, lt)) same none))
      | inr ge ↦ let is : n ≡ suc m = omega (arith, ge, le) in rw is (card_same p q (suc m) (λ j less. same j))
    ]

-- a board

value_at : (x n k d : ℕ) → x ≡ d → get_or {A = ℕ} (replicate n x) k d ≡ x
value_at x zero k d is = sym is
value_at x (suc n) zero d is = refl
value_at x (suc n) (suc k) d is = value_at x n k d is

pub no_board : (x : ℕ) → IsBoard [] [] (replicate 22 0) (replicate 22 x) 0
no_board x = record {
  summed = λ t p. rw (has_past [] t p (omega arith), word_past [] t p (omega arith)) refl;
  room = omega arith;
  tight = omega arith;
  few = omega arith;
  rows = (refl, refl);
  counted = λ t lt. value_at 0 22 t 0 refl;
  low = λ t p lt below. has_past [] t p (omega arith);
  any = λ t lt. rw (value_at 0 22 t 0 refl) (on_zero t);
}

pub not_above : (n : ℕ) → nat_lt 0 n ≡ false → n ≡ 0
not_above n is = grind (arith, nat_tests, is)

pub is_above : (n : ℕ) → n ≢ 0 → nat_lt 0 n ≡ true
is_above n some = grind (arith, nat_tests, some)

module _ (blocks tops : List (List ℕ)) (counts least : List ℕ) (some : ℕ) (b : IsBoard blocks tops counts least some) where
  -- a task that no block has
  pub none_of_row : (t i : ℕ) → t < 22 → get_or counts t 0 ≡ 0 → has blocks t i ≡ false
  none_of_row t i lt none =
      let top : has tops t (i / 64) ≡ false = elim (cases_lt (i / 64) (64 * length tops)) [
        | inl below ↦ card_none (has tops t) (i / 64) (64 * length tops) (sym (b.counted t lt) ∙ none) below
        | inr past ↦ has_past tops t (i / 64) (omega (arith, past))
      ] in
      none_in_zero blocks t i (not_above (word blocks t (i / 64)) (sym (b.summed t (i / 64)) ∙ top))

  pub none_any : (t : ℕ) → t < 22 → on some t ≡ false → (i : ℕ) → has blocks t i ≡ false
  none_any t lt off i = none_of_row t i lt (not_above (get_or counts t 0) (sym (b.any t lt) ∙ off))

  pub few_there : (t : ℕ) → t < 22 → get_or counts t 0 ≤ 2 ^ 26 + 64
  few_there t lt = omega (arith, b.few, b.tight, b.counted t lt, card_le (has tops t) (64 * length tops))

  pub more_tops : (tops' : List (List ℕ)) → IsLonger tops tops' → 64 * length tops ≡ length blocks → IsBoard blocks tops' counts least some
  more_tops tops' more full = record {
    summed = λ t p. more.flags t p ∙ b.summed t p;
    room = omega (arith, b.room, more.least);
    tight = omega (arith, full, more.most);
    few = b.few;
    rows = b.rows;
    counted = λ t lt. b.counted t lt ∙ sym (card_more (has tops t) (has tops' t) (64 * length tops) (64 * length tops') (omega (arith, more.least)) (more.flags t) (λ j ge. has_past tops t j (omega (arith, ge))));
    low = λ t p lt below. more.flags t p ∙ b.low t p lt below;
    any = b.any;
  }

  -- the last block has a top, and the tops are no more than that takes
  pub more_blocks : (blocks' : List (List ℕ)) → IsLonger blocks blocks' → length blocks' ≤ 64 * length tops → length blocks' < 2 ^ 26 → IsBoard blocks' tops counts least some
  more_blocks blocks' more room few = record {
    summed = λ t p. b.summed t p ∙ sym (ap (nat_lt 0) (more.words t p));
    room = room;
    tight = omega (arith, b.tight, more.least);
    few = few;
    rows = b.rows;
    counted = b.counted;
    low = b.low;
    any = b.any;
  }

  -- a flag was set or cleared
  module _ (t i : ℕ) (t_in : t < 22) (i_in : i < 64 * length blocks) (v : Bool) (blocks' : List (List ℕ)) (turned : IsTurned blocks t i v blocks') where
    other_word : (u p : ℕ) → (u ≢ t) ⊎ (p ≢ i / 64) → nat_lt 0 (word blocks' u p) ≡ nat_lt 0 (word blocks u p)
    other_word u p apart = ap (nat_lt 0) (turned.words u p apart)

    pub same_tops : nat_lt 0 (word blocks' t (i / 64)) ≡ nat_lt 0 (word blocks t (i / 64)) → IsBoard blocks' tops counts least some
    same_tops same = record {
      summed = λ u p. b.summed u p ∙ sym (elim (cases_eq u t) [
        | inl row ↦ elim (cases_eq p (i / 64)) [
          | inl at ↦ rw (row, at) same
          | inr apart ↦ other_word u p (inr apart)
        ]
        | inr other ↦ other_word u p (inl other)
      ]);
      room = omega (arith, b.room, turned.len);
      tight = omega (arith, b.tight, turned.len);
      few = omega (arith, b.few, turned.len);
      rows = b.rows;
      counted = b.counted;
      low = b.low;
      any = b.any;
    }

    -- and its block became one with a flag, or without
    module _ (w : Bool) (is : nat_lt 0 (word blocks' t (i / 64)) ≡ w) (was : nat_lt 0 (word blocks t (i / 64)) ≡ not w) (tops' : List (List ℕ)) (top : IsTurned tops t (i / 64) w tops') where
      top_was : has tops t (i / 64) ≡ not w
      top_was = b.summed t (i / 64) ∙ was

      top_in : i / 64 < 64 * length tops
      top_in = omega (arith, i_in, b.room)

      moved : card (has tops' t) (64 * length tops) + one_if (not w) ≡ get_or counts t 0 + one_if w
      moved = rw (b.counted t t_in, ← top_was, ← top.here) (card_one (has tops t) (has tops' t) (i / 64) (64 * length tops) top.others top_in)

      pub some_there : one_if (not w) ≤ get_or counts t 0
      some_there = omega (arith, moved, one_if_not w)

      pub other_top : (u p : ℕ) → (u ≢ t) ⊎ (p ≢ i / 64) → has tops' u p ≡ has tops u p
      other_top u p (inl other) = top.rows u p other
      other_top u p (inr apart) = elim (cases_eq u t) [ inl row ↦ rw row (top.others p apart) | inr other ↦ top.rows u p other ]

      pub turned_board : (count : ℕ) (least' : List ℕ) (some' : ℕ) → count + one_if (not w) ≡ get_or counts t 0 + one_if w → length least' ≡ 22 → ((u p : ℕ) → u < 22 → p < get_or least' u 0 → has tops' u p ≡ false) → on some' t ≡ nat_lt 0 count → ((u : ℕ) → u < 22 → u ≢ t → on some' u ≡ on some u) → IsBoard blocks' tops' (set counts t count) least' some'
      turned_board count least' some' step len lows here others = record {
        summed = λ u p. elim (cases_eq u t) [
          | inl row ↦ elim (cases_eq p (i / 64)) [
            | inl at ↦ rw (row, at, is) top.here
            | inr apart ↦ other_top u p (inr apart) ∙ b.summed u p ∙ sym (other_word u p (inr apart))
          ]
          | inr other ↦ other_top u p (inl other) ∙ b.summed u p ∙ sym (other_word u p (inl other))
        ];
        room = omega (arith, b.room, turned.len, top.len);
        tight = omega (arith, b.tight, turned.len, top.len);
        few = omega (arith, b.few, turned.len);
        rows = (length-set counts t count ∙ b.rows.0, len);
        counted = λ u lt. rw top.len (elim (cases_eq u t) [
          | inl row ↦ rw row (get_or-set_same counts t count 0 (omega (arith, t_in, b.rows.0)) ∙ omega (arith, step, moved))
          | inr other ↦ get_or-set_other counts t u count 0 other ∙ b.counted u lt ∙ card_same (has tops' u) (has tops u) (64 * length tops) (λ j less. sym (top.rows u j other))
        ]);
        low = lows;
        any = λ u lt. elim (cases_eq u t) [
          | inl row ↦ rw (row, get_or-set_same counts t count 0 (omega (arith, t_in, b.rows.0))) here
          | inr other ↦ rw (get_or-set_other counts t u count 0 other) (others u lt other ∙ b.any u lt)
        ];
      }

-- a block with a flag has a word that isn't 0
pub flag_word : (rows : List (List ℕ)) (t i : ℕ) → has rows t i ≡ true → nat_lt 0 (word rows t (i / 64)) ≡ true
flag_word rows t i is =
    elim (cases_eq (word rows t (i / 64)) 0) [
      | inl none ↦ absurd (true≢false (sym is ∙ none_in_zero rows t i none))
      | inr some ↦ is_above (word rows t (i / 64)) some
    ]

module _ (blocks tops : List (List ℕ)) (counts least : List ℕ) (some : ℕ) (b : IsBoard blocks tops counts least some) (t i : ℕ) (t_in : t < 22) (i_in : i < 64 * length blocks) (blocks' : List (List ℕ)) where
  -- below the place of one row's new number none lies, and below those of the others as before
  lows : (tops' : List (List ℕ)) (w : Bool) (low : ℕ) → IsTurned tops t (i / 64) w tops' → ((p : ℕ) → p < low → has tops' t p ≡ false) → (u p : ℕ) → u < 22 → p < get_or (set least t low) u 0 → has tops' u p ≡ false
  lows tops' w low top none u p lt below =
      elim (cases_eq u t) [
        | inl row ↦ rw row (none p (subst (λ n. p < n) (get_or-set_same least t low 0 (omega (arith, t_in, b.rows.1))) (rw row at below)))
        | inr other ↦ top.rows u p other ∙ b.low u p lt (subst (λ n. p < n) (get_or-set_other least t u low 0 other) below)
      ]

  module _ (turned : IsTurned blocks t i true blocks') (was : ℕ) (read : was ≡ word blocks t (i / 64)) where
    pub on_same : (was ≡ 0 → ⊥) → IsBoard blocks' tops counts least some
    on_same above = same_tops _ _ _ _ _ b t i t_in i_in true blocks' turned (flag_word blocks' t i turned.here ∙ sym (rw (← read) (is_above was above)))

    module _ (none : was ≡ 0) (tops' : List (List ℕ)) (top : IsTurned tops t (i / 64) true tops') (some' : ℕ) (bit : HasBit some t true some') where
      was_none : nat_lt 0 (word blocks t (i / 64)) ≡ false
      was_none = rw (← read, none) refl

      pub on_board : IsBoard blocks' tops' (set counts t (get_or counts t 0 + 1)) (set least t (min (get_or least t 0) (i / 64))) some'
      unfolding on
      on_board =
          turned_board _ _ _ _ _ b t i t_in i_in true blocks' turned true (flag_word blocks' t i turned.here) was_none tops' top (get_or counts t 0 + 1) (set least t (min (get_or least t 0) (i / 64))) some' (omega arith)
          (length-set least t (min (get_or least t 0) (i / 64)) ∙ b.rows.1)
          (lows tops' true (min (get_or least t 0) (i / 64)) top (λ p lt. top.others p (λ is. omega (arith, is, lt)) ∙ b.low t p t_in (omega (arith, lt))))
          (bit.here ∙ sym (is_above (get_or counts t 0 + 1) (λ is. omega (arith, is))))
          (λ u lt other. ap (λ n. n == 1) (bit.others u (omega (arith, lt)) other))

  module _ (was : has blocks t i ≡ true) (turned : IsTurned blocks t i false blocks') (is : ℕ) (read : is ≡ word blocks' t (i / 64)) where
    pub off_same : (is ≡ 0 → ⊥) → IsBoard blocks' tops counts least some
    off_same above = same_tops _ _ _ _ _ b t i t_in i_in false blocks' turned (rw (← read) (is_above is above) ∙ sym (flag_word blocks t i was))

    module _ (none : is ≡ 0) (tops' : List (List ℕ)) (top : IsTurned tops t (i / 64) false tops') where
      is_none : nat_lt 0 (word blocks' t (i / 64)) ≡ false
      is_none = rw (← read, none) refl

      pub off_count : 1 ≤ get_or counts t 0
      off_count = some_there _ _ _ _ _ b t i t_in i_in false blocks' turned false is_none (flag_word blocks t i was) tops' top

      top_below : (p : ℕ) → p < get_or least t 0 → has tops' t p ≡ false
      top_below p lt = elim (cases_eq p (i / 64)) [ inl at ↦ rw at top.here | inr apart ↦ top.others p apart ∙ b.low t p t_in lt ]

      module _ (some' : ℕ) (bit : HasBit some t (nat_lt 0 (get_or counts t 0 - 1)) some') where
        off_with : (least' : List ℕ) → length least' ≡ 22 → ((u p : ℕ) → u < 22 → p < get_or least' u 0 → has tops' u p ≡ false) → IsBoard blocks' tops' (set counts t (get_or counts t 0 - 1)) least' some'
        unfolding on
        off_with least' len low =
            turned_board _ _ _ _ _ b t i t_in i_in false blocks' turned false is_none (flag_word blocks t i was) tops' top (get_or counts t 0 - 1) least' some' (omega (arith, off_count)) len low bit.here (λ u lt other. ap (λ n. n == 1) (bit.others u (omega (arith, lt)) other))

        pub off_board : IsBoard blocks' tops' (set counts t (get_or counts t 0 - 1)) least some'
        off_board = off_with least b.rows.1 (λ u p lt below. elim (cases_eq u t) [ inl row ↦ rw row (top_below p (rw row at below)) | inr other ↦ top.rows u p other ∙ b.low u p lt below ])

        pub off_lower : get_or least t 0 ≡ i / 64 → (low : ℕ) → ((p : ℕ) → i / 64 + 1 ≤ p → p < low → has tops' t p ≡ false) → IsBoard blocks' tops' (set counts t (get_or counts t 0 - 1)) (set least t low) some'
        off_lower at low past =
            off_with (set least t low) (length-set least t low ∙ b.rows.1)
            (lows tops' false low top (λ p lt. elim (cases_lt p (i / 64)) [
              | inl below ↦ top_below p (rw at below)
              | inr ge ↦ elim (cases_eq p (i / 64)) [ inl same ↦ rw same top.here | inr apart ↦ past p (omega (arith, ge, apart)) lt ]
            ]))

-- a flag was set or cleared where there is room, or nothing changed where there is none
pub set_past : (old : List (List ℕ)) (t i : ℕ) (v : Bool) → 64 * length old ≤ i → IsSetAt old t i v old
set_past old t i v past = record { there = λ lt. absurd (omega (arith, lt, past)); past = λ ge. refl }

pub set_there : (old : List (List ℕ)) (t i : ℕ) (v : Bool) (new : List (List ℕ)) → i < 64 * length old → IsTurned old t i v new → IsSetAt old t i v new
set_there old t i v new lt turned = record { there = λ below. turned; past = λ ge. absurd (omega (arith, lt, ge)) }

-- a flag that is as it should be
pub set_same : (old : List (List ℕ)) (t i : ℕ) (v : Bool) → has old t i ≡ v → IsSetAt old t i v old
set_same old t i v is = record { there = λ lt. record { here = is; rows = λ u j differs. refl; others = λ j differs. refl; words = λ u p differs. refl; len = refl }; past = λ ge. refl }

pub set_off : (old : List (List ℕ)) (t i : ℕ) (new : List (List ℕ)) → IsTurned old t i false new → has old t i ≡ true → IsSetAt old t i false new
set_off old t i new turned was = set_there old t i false new (has_within old t i was) turned

pub same_flag : (a b : Bool) → beq a b ≡ true → a ≡ b
same_flag true true is = refl
same_flag true false is = sym is
same_flag false true is = is
same_flag false false is = refl

pub other_flag : (a b : Bool) → beq a b ≡ false → b ≡ false → a ≡ true
other_flag true false differs off = refl
other_flag false false differs off = sym differs
other_flag a true differs off = absurd (true≢false off)
