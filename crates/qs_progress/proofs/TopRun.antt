-- An ACK names the whole run of the largest kept number, whatever the room.
use Rattle.std.proofs.Common.{◌≡◌, ℕ, ◌+◌, ◌-◌, ◌*◌, ◌<◌, ◌≤◌, Bool, true, false, ◌&&◌, ◌||◌, List, [], ◌∷◌, ◌++◌, length, nat_le, None, refl, sym, ◌∙◌, arith, inl, inr}
use Rattle.std.proofs.lemmas.Bool.{or_cases, or_right, true≢false, cases_lt}
use Rattle.std.proofs.lemmas.Bool.Decides.{nat_tests}
use Rattle.std.specs.FinSet as set
use Rattle.qs_wire.specs.Layout.{ack, ack_ranges_of, taken}
use Rattle.qs_machine.specs.Ends.{End}
use Rattle.qs_machine.specs.FrameStep.{is_named}
use Rattle.qs_machine.specs.Lawful.{MayAck}
use Rattle.qs_machine.specs.Making.{NamesMost}

-- an odd count
abbrev pub IsOdd : List ℕ → Type 0
IsOdd [] = ⊥
IsOdd (x ∷ []) = Unit {0}
IsOdd (x ∷ y ∷ more) = IsOdd more

pub odd_of : (xs : List ℕ) (n : ℕ) → length xs ≡ 2 * n + 1 → IsOdd xs
odd_of [] n is = absurd (omega (arith, is))
odd_of (x ∷ []) n is = tt
odd_of (x ∷ y ∷ more) n is = odd_of more (n - 1) (omega (arith, is))

-- the least number that an ACK names
abbrev pub low_of : ℕ → List ℕ → ℕ
low_of largest [] = largest
low_of largest (len ∷ []) = largest - len
low_of largest (len ∷ gap ∷ more) = low_of ((largest - len) - (gap + 2)) more

-- the range that one gap and one length more name
abbrev pub more_of : (low gap len : ℕ) → ℕ × ℕ
more_of low gap len = ((low - (gap + 2)) - len, low - (gap + 2))

abbrev is_in : ℕ × ℕ → ℕ → Bool
is_in r k = nat_le r.0 k && nat_le k r.1

low_named : (xs : List ℕ) (largest : ℕ) → IsOdd xs → is_named (ack_ranges_of largest xs) (low_of largest xs) ≡ true
low_named [] largest odd = absurd odd
low_named (len ∷ []) largest odd = grind (arith, nat_tests)
low_named (len ∷ gap ∷ more) largest odd = (let later = low_named more ((largest - len) - (gap + 2)) odd in grind (arith, later))

low_least : (xs : List ℕ) (largest k : ℕ) → IsOdd xs → is_named (ack_ranges_of largest xs) k ≡ true → low_of largest xs ≤ k
low_least [] largest k odd is = absurd odd
low_least (len ∷ []) largest k odd is =
    elim (or_cases (nat_le (largest - len) k && nat_le k largest) false is) [
      | inl here ↦ grind (arith, nat_tests, here)
      | inr none ↦ absurd (true≢false (sym none))
    ]
low_least (len ∷ gap ∷ more) largest k odd is =
    let under : low_of ((largest - len) - (gap + 2)) more ≤ largest - len = below_top more ((largest - len) - (gap + 2)) (largest - len) odd (omega arith) in
    elim (or_cases (nat_le (largest - len) k && nat_le k largest) (is_named (ack_ranges_of ((largest - len) - (gap + 2)) more) k) is) [
      | inl here ↦ (let ge : largest - len ≤ k = grind (arith, nat_tests, here) in omega (arith, under, ge))
      | inr later ↦ low_least more ((largest - len) - (gap + 2)) k odd later
    ]
  where
    below_top : (xs : List ℕ) (largest top : ℕ) → IsOdd xs → largest ≤ top → low_of largest xs ≤ top
    below_top [] largest top odd le = absurd odd
    below_top (len ∷ []) largest top odd le = omega (arith, le)
    below_top (len ∷ gap ∷ more) largest top odd le = below_top more ((largest - len) - (gap + 2)) top odd (omega (arith, le))

-- one gap and one length more name one range more
named_more : (xs : List ℕ) (largest gap len k : ℕ) → IsOdd xs →
    is_named (ack_ranges_of largest (xs ++ gap ∷ len ∷ [])) k ≡ (is_named (ack_ranges_of largest xs) k || is_in (more_of (low_of largest xs) gap len) k)
named_more [] largest gap len k odd = absurd odd
named_more (x ∷ []) largest gap len k odd = grind (arith)
named_more (x ∷ y ∷ more) largest gap len k odd = (let later = named_more more ((largest - x) - (y + 2)) gap len k odd in grind (arith, later))

-- it lies above 0
room_below : (xs : List ℕ) (largest gap len : ℕ) → IsOdd xs → taken (xs ++ gap ∷ len ∷ []) ≤ largest + 1 → gap + 2 + len ≤ low_of largest xs
room_below [] largest gap len odd fits = absurd odd
room_below (x ∷ []) largest gap len odd fits = omega (arith, fits)
room_below (x ∷ y ∷ more) largest gap len odd fits = room_below more ((largest - x) - (y + 2)) gap len odd (omega (arith, fits))

module _ (old e : End) (delay room largest : ℕ) (xs : List ℕ) (odd : IsOdd xs) (may : MayAck old e largest (ack_ranges_of largest xs)) where
  abbrev low : ℕ
  low = low_of largest xs

  -- a kept number that isn't named lies below all that are
  unnamed_low : (k : ℕ) → set.contains old.done k ≡ true → is_named (ack_ranges_of largest xs) k ≡ false → k < low
  unnamed_low k kept not_named = grind (arith, nat_tests, cases_lt, true≢false, low_named)

  -- so no range more could be named, were one left out of the run of the largest
  no_more : (gap len k : ℕ) → taken (xs ++ gap ∷ len ∷ []) ≤ largest + 1 → MayAck old old largest (ack_ranges_of largest (xs ++ gap ∷ len ∷ [])) →
      ((j : ℕ) → k ≤ j → j ≤ largest → set.contains old.done j ≡ true) → k < low → ⊥
  no_more gap len k fits more run lt =
      let room_left = room_below xs largest gap len odd fits in
      let top : low ≤ largest = low_least xs largest largest odd may.names_largest in
      let next : ℕ = low - (gap + 2) in
      let there : is_in (more_of low gap len) next ≡ true = grind (arith, nat_tests) in
      let begins : is_named (ack_ranges_of largest (xs ++ gap ∷ len ∷ [])) next ≡ true = named_more xs largest gap len next odd ∙ or_right (is_named (ack_ranges_of largest xs) next) (is_in (more_of low gap len) next) there in
      let kept : set.contains old.done (low - 1) ≡ true = run (low - 1) (omega (arith, lt)) (omega (arith, top)) in
      let named = more.highest next (low - 1) begins (omega (arith, room_left)) kept in
      elim (or_cases (is_named (ack_ranges_of largest xs) (low - 1)) (is_in (more_of low gap len) (low - 1)) (sym (named_more xs largest gap len (low - 1) odd) ∙ named)) [
        | inl before ↦ (let ge = low_least xs largest (low - 1) odd before in absurd (omega (arith, ge, lt)))
        | inr here ↦ (let le : low - 1 ≤ next = grind (arith, nat_tests, here) in absurd (omega (arith, le, lt, room_left)))
      ]

  -- each number of the run of the largest one is named
  pub names_top_run : NamesMost old delay room (ack largest delay xs None) → (k : ℕ) → k ≤ largest → ((j : ℕ) → k ≤ j → j ≤ largest → set.contains old.done j ≡ true) → is_named (ack_ranges_of largest xs) k ≡ true
  names_top_run most k le run = go (is_named (ack_ranges_of largest xs) k) refl most
    where
      kept : set.contains old.done k ≡ true
      kept = run k (omega arith) le

      go : (b : Bool) → is_named (ack_ranges_of largest xs) k ≡ b → NamesMost old delay room (ack largest delay xs None) → is_named (ack_ranges_of largest xs) k ≡ true
      go true is most = is
      go false is (inl all) = all k kept
      go false is (inr next) = absurd (no_more next.gap next.len k next.fits.3 next.may run (unnamed_low k kept is))
