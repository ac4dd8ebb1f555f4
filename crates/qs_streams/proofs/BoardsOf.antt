-- The board of a type among those of all four.
use Rattle.std.proofs.Common.{◌⊎◌, ◌≡◌, ◌≢◌, ℕ, zero, suc, ◌*◌, ◌/◌, ◌%◌, ◌<◌, ◌≤◌, ◌==◌, max, Bool, false, List, length, get_or, set, bit_or, sym, ◌∙◌, refl, inl, inr, arith, ap}
use Rattle.std.specs.Int.{bit_at}
use Rattle.std.proofs.lemmas.Bool.{cases_eq, cases_lt}
use Rattle.std.proofs.lemmas.Bool.Decides.{nat_tests}
use Rattle.std.proofs.lemmas.Nat.Bits.{bit_at_or, bit_at-lt}
use Rattle.std.proofs.lemmas.List.{get_or-set_same, get_or-set_other, length-set, set-get_or}
use Rattle.qs_machine.specs.Tables.{Tables, table, type_of, index_of}
use Rattle.qs_machine.specs.Sums.{tables_of}
use Rattle.qs_machine.proofs.TableEdits.{table_is}
use Rattle.qs_streams.specs.Rows.{has, on, IsSetAt, IsTurned}
use Rattle.qs_streams.specs.Flags.{HasMorePlaces, HasPlace, IsFlagged, IsFlaggedAt, MovesRow, flag}

module _ (ls : List (List (List ℕ))) (n k i : ℕ) (d : List (List ℕ)) (len : length ls ≡ 4) (kind : k ≡ n % 4) (index : i ≡ n / 4) where
  pub board_is : table (tables_of ls) (type_of n) ≡ get_or ls k d
  board_is = table_is ls n k d len kind

  pub flag_is : (row : ℕ) → flag (tables_of ls) row n ≡ has (get_or ls k d) row i
  unfolding flag
  flag_is row = rw (board_is, index) refl

  pub place_is : HasPlace (tables_of ls) n → i < 64 * length (get_or ls k d)
  unfolding HasPlace
  place_is place = rw (index, ← board_is) place

  -- another board in its place
  module _ (ys : List (List ℕ)) where
    len_after : length (set ls k ys) ≡ 4
    len_after = length-set ls k ys ∙ len

    there : k < length ls
    there = omega (arith, len, kind)

    table_after : (m : ℕ) → type_of m ≡ k → table (tables_of (set ls k ys)) (type_of m) ≡ ys
    table_after m is = table_is (set ls k ys) m k d len_after (sym is) ∙ get_or-set_same ls k ys d there

    table_kept : (m : ℕ) → type_of m ≢ k → table (tables_of (set ls k ys)) (type_of m) ≡ table (tables_of ls) (type_of m)
    table_kept m other = table_is (set ls k ys) m (m % 4) d len_after refl ∙ get_or-set_other ls k (m % 4) ys d other ∙ sym (table_is ls m (m % 4) d len refl)

    table_was : (m : ℕ) → type_of m ≡ k → table (tables_of ls) (type_of m) ≡ get_or ls k d
    table_was m is = table_is ls m k d len (sym is)

    pub flagged : (row : ℕ) (v : Bool) → IsTurned (get_or ls k d) row i v ys → IsFlagged (tables_of ls) row n v (tables_of (set ls k ys))
    unfolding flag HasPlace
    flagged row v turned = record {
      here = rw (table_after n (sym kind), ← index) turned.here;
      others = λ u m apart.
          elim (cases_eq (type_of m) k) [
            | inl at ↦ rw (table_after m at, table_was m at) (elim (cases_eq u row) [
              | inl same ↦ rw same (turned.others (index_of m) (λ is. elim apart [ inl other ↦ other same | inr ne ↦ ne (omega (arith, is, at, kind, index)) ]))
              | inr other ↦ turned.rows u (index_of m) other
            ])
            | inr kept ↦ rw (table_kept m kept) refl
          ];
      places = λ m place.
          elim (cases_eq (type_of m) k) [
            | inl at ↦ rw (table_after m at, turned.len, ← table_was m at) place
            | inr kept ↦ rw (table_kept m kept) place
          ];
    }

    pub roomier : ((t j : ℕ) → has ys t j ≡ has (get_or ls k d) t j) → length (get_or ls k d) ≤ length ys → HasMorePlaces (tables_of ls) (tables_of (set ls k ys))
    unfolding flag HasPlace
    roomier same more = record {
      flags = λ u m.
          elim (cases_eq (type_of m) k) [
            | inl at ↦ rw (table_after m at, table_was m at) (same u (index_of m))
            | inr kept ↦ rw (table_kept m kept) refl
          ];
      places = λ m place.
          elim (cases_eq (type_of m) k) [
            | inl at ↦ rw (table_after m at) (omega (arith, more, rw (table_was m at) at place))
            | inr kept ↦ rw (table_kept m kept) place
          ];
    }

    pub placed : i < 64 * length ys → (m : ℕ) → type_of m ≡ type_of n → m ≤ n → HasPlace (tables_of (set ls k ys)) m
    unfolding HasPlace
    placed lt m same le = rw (table_after m (same ∙ sym kind)) (omega (arith, index, lt, le))

    no_room : (HasPlace (tables_of ls) n → ⊥) → 64 * length (get_or ls k d) ≤ i
    unfolding HasPlace
    no_room no_place = elim (cases_lt i (64 * length (get_or ls k d))) [ inl lt ↦ absurd (no_place (rw (board_is, ← index) lt)) | inr ge ↦ ge ]

    pub flagged_at : (row : ℕ) (v : Bool) → IsSetAt (get_or ls k d) row i v ys → IsFlaggedAt (tables_of ls) row n v (tables_of (set ls k ys))
    flagged_at row v turned = record {
      there = λ place. flagged row v (turned.there (place_is place));
      none = λ no_place. ap tables_of (ap (set ls k) (turned.past (no_room no_place)) ∙ set-get_or ls k d);
    }

-- no type has the task
pub none_four : (ls : List (List (List ℕ))) (row : ℕ) (d0 d1 d2 d3 : List (List ℕ)) → length ls ≡ 4 → ((i : ℕ) → has (get_or ls 0 d0) row i ≡ false) → ((i : ℕ) → has (get_or ls 1 d1) row i ≡ false) → ((i : ℕ) → has (get_or ls 2 d2) row i ≡ false) → ((i : ℕ) → has (get_or ls 3 d3) row i ≡ false)
    → (n : ℕ) → flag (tables_of ls) row n ≡ false
unfolding flag
none_four ls row d0 d1 d2 d3 len p q r s n = go (n % 4) refl (omega arith)
  where
    go : (k : ℕ) → n % 4 ≡ k → k < 4 → has (table (tables_of ls) (n % 4)) row (n / 4) ≡ false
    go zero e lt = rw (table_is ls n 0 d0 len (sym e)) (p (n / 4))
    go (suc zero) e lt = rw (table_is ls n 1 d1 len (sym e)) (q (n / 4))
    go (suc (suc zero)) e lt = rw (table_is ls n 2 d2 len (sym e)) (r (n / 4))
    go (suc (suc (suc zero))) e lt = rw (table_is ls n 3 d3 len (sym e)) (s (n / 4))
    go (suc (suc (suc (suc k)))) e lt = absurd (omega (arith, lt))

-- a bit of four words
neither : (x y m : ℕ) → x < 2 → y < 2 → m ≡ max x y → (m == 1) ≡ false → ((x == 1) ≡ false) × ((y == 1) ≡ false)
neither x y m x_bit y_bit is off = grind (arith, nat_tests)

off_or : (a b t : ℕ) → on (bit_or a b) t ≡ false → (on a t ≡ false) × (on b t ≡ false)
unfolding on
off_or a b t off = neither (bit_at a t) (bit_at b t) (bit_at (bit_or a b) t) (bit_at-lt a t) (bit_at-lt b t) (bit_at_or a b t) off

pub off_four : (a b c d t : ℕ) → on (bit_or (bit_or (bit_or a b) c) d) t ≡ false → (on a t ≡ false) × (on b t ≡ false) × (on c t ≡ false) × (on d t ≡ false)
off_four a b c d t off =
    let (abc, d_off) = off_or (bit_or (bit_or a b) c) d t off in
    let (ab, c_off) = off_or (bit_or a b) c t abc in
    let (a_off, b_off) = off_or a b t ab in
    (a_off, b_off, c_off, d_off)

-- What it is that a flag was set or cleared where there is a place for it

has_place : (rows : Tables (List ℕ)) (n : ℕ) → HasPlace rows n ⊎ (HasPlace rows n → ⊥)
unfolding HasPlace
has_place rows n = elim (cases_lt (index_of n) (64 * length (table rows (type_of n)))) [ inl lt ↦ inl lt | inr ge ↦ inr (λ lt. omega (arith, lt, ge)) ]

module _ (old new : Tables (List ℕ)) (row n : ℕ) (v : Bool) (set_at : IsFlaggedAt old row n v new) where
  pub flagged_here : HasPlace old n → flag new row n ≡ v
  flagged_here place = (set_at.there place).here

  pub flagged_others : (k : ℕ) → k ≢ n → flag new row k ≡ flag old row k
  flagged_others k ne = elim (has_place old n) [ inl place ↦ (set_at.there place).others row k (inr ne) | inr none ↦ rw (set_at.none none) refl ]

  pub moves_row : MovesRow row old new
  moves_row = elim (has_place old n) [
    | inl place ↦ record { rows = λ u m ne. (set_at.there place).others u m (inl ne); places = (set_at.there place).places }
    | inr none ↦ rw (set_at.none none) (record { rows = λ u m ne. refl; places = λ m place. place })
  ]
