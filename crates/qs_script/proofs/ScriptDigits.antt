-- Digits, decimal and hex.
use Rattle.std.proofs.Common.{◌≡◌, ℕ, suc, ◌+◌, ◌-◌, ◌*◌, ◌/◌, ◌%◌, ◌^◌, ◌<◌, ◌≤◌, Bool, true, false, List, [], ◌∷◌, length, drop, get_or, Result, Ok, Err, refl, arith, rules}
use Rattle.std.specs.Prelude.{◌&&◌, is_ok, IsOk, codes}
use Rattle.std.specs.List.{list_all}
use Rattle.std.specs.Char.{is_ascii_digit, digit_value}
use Rattle.std.specs.Str.Parse.{digits_value, digits_value_after}
use Rattle.std.proofs.lemmas.List.Sums.{AllPass-from_list_all, list_all-from_AllPass}
use Rattle.std.proofs.lemmas.Bool.Decides.{nat_tests}
use Rattle.std.proofs.lemmas.Str.Parse.{IsNumeralModel, numerals_by_value, digits_value_short}
use Rattle.std.proofs.Math.Seq.{drop-cons}
use Rattle.hex.specs.declared.error.FromHexError.{FromHexError}
use Rattle.hex.specs.Hex.{decode_of, is_hex_digit}
use Rattle.hex.proofs.HexLemmas.{decode_of-digits, decode_of-ok}
use Rattle.qs_script.specs.declared.script.Reason.TheVariants.{LongWrite}
use Rattle.qs_script.specs.Scripts.{bytes_of, same}

pub own : IsNumeralModel (λ ds. list_all is_ascii_digit ds ≡ true) (digits_value 10)
own = numerals_by_value _ (search rules)

-- 19 digits write a number of 64 bits
pub digits_short : (ds : List ℕ) → list_all is_ascii_digit ds ≡ true → length ds ≤ 19 → digits_value 10 ds < 2 ^ 64
digits_short ds all short = omega (arith, digits_value_short own ds 19 all short)

after_ge : (n : ℕ) (ds : List ℕ) → n ≤ digits_value_after 10 n ds
after_ge n [] = omega arith
after_ge n (d ∷ ds) = omega (arith, after_ge (n * 10 + digit_value d) ds)

digit_is : (c : ℕ) → is_ascii_digit c ≡ true → digit_value c ≡ c - 48
digit_is c is = grind (arith, nat_tests, is)

-- the number that one digit more writes is no greater than the whole
pub digit_more : (n i : ℕ) (ds : List ℕ) (whole : ℕ) → i < length ds → digits_value_after 10 n (drop i ds) ≡ whole → list_all is_ascii_digit (drop i ds) ≡ true
    → n * 10 + (get_or ds i 0 - 48) ≤ whole
digit_more n i ds whole lt is all =
    let cut : digits_value_after 10 n (get_or ds i 0 ∷ drop (suc i) ds) ≡ whole = rw (drop-cons ds i 0) at is in
    let digits : list_all is_ascii_digit (get_or ds i 0 ∷ drop (suc i) ds) ≡ true = rw (drop-cons ds i 0) at all in
    let first : is_ascii_digit (get_or ds i 0) ≡ true = head (is_ascii_digit (get_or ds i 0)) _ digits in
    omega (arith, after_ge (n * 10 + digit_value (get_or ds i 0)) (drop (suc i) ds), cut, digit_is (get_or ds i 0) first)
  where
    head : (a b : Bool) → (a && b) ≡ true → a ≡ true
    head true b e = refl
    head false b e = e

-- what decodes has twice as many digits as bytes
pub decodes : (w : List ℕ) → is_ok (decode_of w) ≡ true → (bytes : List ℕ) × (decode_of w ≡ Ok bytes) × (length w ≡ 2 * length bytes)
decodes w ok = go (decode_of w) refl ok where
  go : (r : Result (List ℕ) FromHexError) → decode_of w ≡ r → is_ok r ≡ true → (bytes : List ℕ) × (decode_of w ≡ Ok bytes) × (length w ≡ 2 * length bytes)
  go (Ok bytes) e ok = (bytes, e, (decode_of-ok w bytes e).2)
  go (Err error) e ok = absurd (cc (ok))

pub long_hex : (w : List ℕ) → same w (codes "-") ≡ false → is_ok (decode_of w) ≡ true → 65535 < length w / 2 → bytes_of w ≡ Err LongWrite
long_hex w dash ok long =
    let d = decodes w ok in
    rw (dash, d.1) (grind (arith, nat_tests, d.2))

pub short_hex : (w : List ℕ) → same w (codes "-") ≡ false → is_ok (decode_of w) ≡ true → length w / 2 ≤ 65535 → IsOk (bytes_of w)
short_hex w dash ok short =
    let d = decodes w ok in
    rw (dash, d.1) (grind (arith, nat_tests, d.2))

-- an even number of hex digits spells bytes, and nothing else does
pub hex_even : (w : List ℕ) → length w % 2 ≡ 0 → list_all is_hex_digit w ≡ is_ok (decode_of w)
hex_even w even = go (list_all is_hex_digit w) refl where
  go : (b : Bool) → list_all is_hex_digit w ≡ b → b ≡ is_ok (decode_of w)
  go true e = let d = decode_of-digits w even (AllPass-from_list_all is_hex_digit w e) in rw d.1 refl
  go false e = none (decode_of w) refl where
    none : (r : Result (List ℕ) FromHexError) → decode_of w ≡ r → false ≡ is_ok r
    none (Ok bytes) d = absurd (cc (e, list_all-from_AllPass is_hex_digit w (decode_of-ok w bytes d).1))
    none (Err error) d = refl
