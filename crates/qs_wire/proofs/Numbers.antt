-- The numbers of variable length: what is read is spelled so, and what is spelled so is read.
use Rattle.std.proofs.lemmas.Bool.Decides.{nat_tests}
use Rattle.std.proofs.Common.{◌≡◌, ℕ, ◌+◌, ◌*◌, ◌%◌, ◌^◌, ◌<◌, ◌≤◌, Bool, true, false, cond, ltb, List, [], ◌∷◌, ◌++◌, length, get_or, take, drop, Option, Some, None, refl, sym, ap, subst, ◌∙◌, arith}
use Rattle.std.specs.Prelude.{IfSome, IfNone}
use Rattle.std.proofs.lemmas.Bool.{ltb-false}
use Rattle.std.proofs.lemmas.List.{length-append, get_or-drop}
use Rattle.byteorder.specs.Endian.{big_number}
use Rattle.byteorder.specs.Numbers.{length-bytes_high_first, big_number-reads_back}
use Rattle.qs_wire.specs.Varint.{Size, one, two, four, eight, byte_count, mark, room, spelling, Spells, least_size, short, short_len, size_at, varint_at}

abbrev pub IsBytes : List ℕ → Type 0
IsBytes bytes = (i : ℕ) → get_or bytes i 0 < 256

pub IsBytes-drop : (n : ℕ) (bytes : List ℕ) → IsBytes bytes → IsBytes (drop n bytes)
IsBytes-drop n bytes h i = rw get_or-drop (h (n + i))

-- the first byte is of that size
abbrev HasMark : Size → ℕ → Type 0
HasMark one b = b < 64
HasMark two b = (64 ≤ b) × (b < 128)
HasMark four b = (128 ≤ b) × (b < 192)
HasMark eight b = (192 ≤ b) × (b < 256)

has_mark : (b : ℕ) → b < 256 → HasMark (size_at b) b
has_mark b below = grind (arith, nat_tests)

-- what the front of the bytes says, spelled again, is that front
front_is : (s : Size) (bytes : List ℕ) → IsBytes bytes → byte_count s ≤ length bytes → HasMark s (get_or bytes 0 0)
    → spelling s (big_number (byte_count s) bytes % room s) ≡ take (byte_count s) bytes
front_is s bytes fits long m = grind (arith, nat_tests)

some_is : {A : Type 0} (b : Bool) (x y : A) → cond b None (Some x) ≡ Some y → (b ≡ false) × (x ≡ y)
some_is true x y e = absurd cc
some_is false x y e = (refl, cc)

mod_room : (s : Size) (n : ℕ) → n % room s < room s
mod_room s n = grind (arith, nat_tests)

count_positive : (s : Size) → 0 < byte_count s
count_positive s = grind (arith, nat_tests)

-- what a number took from the front of the bytes
pub record TakesNumber (bytes : List ℕ) (v n : ℕ) : Type 0 where
  pub spelled : Spells v (take n bytes)
  pub within : n ≤ length bytes
  pub positive : 0 < n

pub varint_takes : (bytes : List ℕ) (x : ℕ × ℕ) → IsBytes bytes → varint_at bytes ≡ Some x → TakesNumber bytes x.0 x.1
unfolding varint_at
varint_takes [] x fits e = absurd cc
varint_takes (b ∷ bs) x fits e =
    let s = size_at b in
    let bytes = b ∷ bs in
    let g = some_is (ltb (length bytes) (byte_count s)) (big_number (byte_count s) bytes % room s, byte_count s) x e in
    let long : byte_count s ≤ length bytes = ltb-false _ _ g.0 in
    let made : TakesNumber bytes (big_number (byte_count s) bytes % room s) (byte_count s) = record {
      spelled = (s, mod_room s (big_number (byte_count s) bytes), sym (front_is s bytes fits long (has_mark b (fits 0))));
      within = long;
      positive = count_positive s;
    } in
    subst (λ (p : ℕ × ℕ). TakesNumber bytes p.0 p.1) g.1 made

-- ---- what is spelled is read

varint_at_is : (s : Size) (bytes : List ℕ) → HasMark s (get_or bytes 0 0) → byte_count s ≤ length bytes
    → varint_at bytes ≡ Some (big_number (byte_count s) bytes % room s, byte_count s)
unfolding varint_at
varint_at_is s bytes m long = grind (arith, nat_tests)

spelled_below : (s : Size) (v : ℕ) → v < room s → mark s * room s + v < 256 ^ byte_count s
spelled_below s v h = grind (arith, nat_tests)

spelled_mark : (s : Size) (v : ℕ) (after : List ℕ) → v < room s → HasMark s (get_or (spelling s v ++ after) 0 0)
spelled_mark s v after h = grind (arith, nat_tests)

spelled_value : (s : Size) (v : ℕ) → v < room s → (mark s * room s + v) % room s ≡ v
spelled_value s v h = grind (arith, nat_tests)

pub length-spelling : (s : Size) (v : ℕ) → length (spelling s v) ≡ byte_count s
length-spelling s v = length-bytes_high_first (byte_count s) (mark s * room s + v)

pub varint_again : (v : ℕ) (text after : List ℕ) → Spells v text → varint_at (text ++ after) ≡ Some (v, length text)
varint_again v text after h =
    let s = h.0 in
    let len = length-spelling s v in
    let reads = big_number-reads_back (byte_count s) (mark s * room s + v) after (spelled_below s v h.1) in
    let at : varint_at (spelling s v ++ after) ≡ Some (big_number (byte_count s) (spelling s v ++ after) % room s, byte_count s) = varint_at_is s (spelling s v ++ after) (spelled_mark s v after h.1) (omega (arith, len, length-append (spelling s v) after)) in
    let both : varint_at (spelling s v ++ after) ≡ Some (v, byte_count s) = at ∙ ap (λ (n : ℕ). Some (n % room s, byte_count s)) reads ∙ ap (λ (n : ℕ). Some (n, byte_count s)) (spelled_value s v h.1) in
    ap (λ (t : List ℕ). varint_at (t ++ after)) h.2 ∙ both ∙ ap (λ (n : ℕ). Some (v, n)) (sym len ∙ ap length (sym h.2))

-- ---- the shortest spelling

least_room : (v : ℕ) → v < 2 ^ 62 → v < room (least_size v)
least_room v below = grind (arith, nat_tests)

pub short_spells : (v : ℕ) → v < 2 ^ 62 → Spells v (short v)
unfolding short
short_spells v below = (least_size v, least_room v below, refl)

pub length-short : (v : ℕ) → length (short v) ≡ short_len v
unfolding short short_len
length-short v = length-spelling (least_size v) v

pub short_positive : (v : ℕ) → 0 < length (short v)
unfolding short
short_positive v = omega (arith, length-spelling (least_size v) v, count_positive (least_size v))

-- a spelling as long as the shortest is the shortest
pub short_from_length : (v : ℕ) (text : List ℕ) → Spells v text → length text ≡ short_len v → text ≡ short v
unfolding short short_len
short_from_length v text h e = grind (arith, nat_tests)

least_count : (s : Size) (v : ℕ) → v < room s → byte_count (least_size v) ≤ byte_count s
least_count s v h = grind (arith, nat_tests)

-- no spelling is shorter than the shortest
pub short_least : (v : ℕ) (text : List ℕ) → Spells v text → length (short v) ≤ length text
unfolding short
short_least v text h = omega (arith, length-spelling (least_size v) v, ap length h.2, length-spelling h.0 v, least_count h.0 v h.1)

-- a small number is its own spelling
pub short_byte : (v : ℕ) → v < 64 → short v ≡ v ∷ []
unfolding short
short_byte v below = grind (arith, nat_tests)

pub short_most : (v : ℕ) → v < 2 ^ 62 → length (short v) ≤ 8
unfolding short
short_most v below = omega (arith, length-spelling (least_size v) v, least_count eight v below)

pub Spells-below : (v : ℕ) (text : List ℕ) → Spells v text → v < 2 ^ 62
Spells-below v text h = grind (arith, nat_tests)

-- ---- what a call returned

pub parse_found : (bytes : List ℕ) (r : Option (ℕ × ℕ)) → IsBytes bytes → r ≡ varint_at bytes → IfSome r (λ x. Spells x.0 (take x.1 bytes))
parse_found bytes None fits e = tt
parse_found bytes (Some x) fits e = (varint_takes bytes x fits (sym e)).spelled

pub parse_within : (bytes : List ℕ) (r : Option (ℕ × ℕ)) → IsBytes bytes → r ≡ varint_at bytes → IfSome r (λ x. x.1 ≤ length bytes)
parse_within bytes None fits e = tt
parse_within bytes (Some x) fits e = (varint_takes bytes x fits (sym e)).within

pub parse_in_range : (bytes : List ℕ) (r : Option (ℕ × ℕ)) → IsBytes bytes → r ≡ varint_at bytes → IfSome r (λ x. x.0 < 2 ^ 62)
parse_in_range bytes None fits e = tt
parse_in_range bytes (Some x) fits e = Spells-below x.0 (take x.1 bytes) (varint_takes bytes x fits (sym e)).spelled

pub parse_none : (bytes : List ℕ) (r : Option (ℕ × ℕ)) → r ≡ varint_at bytes → IfNone r ((v : ℕ) (text after : List ℕ) → bytes ≡ text ++ after → Spells v text → ⊥)
parse_none bytes (Some x) e = tt
parse_none bytes None e = λ v text after parts h. let at : varint_at bytes ≡ Some (v, length text) = ap varint_at parts ∙ varint_again v text after h in absurd cc

pub parse_positive : (bytes : List ℕ) (r : Option (ℕ × ℕ)) → IsBytes bytes → r ≡ varint_at bytes → IfSome r (λ x. 0 < x.1)
parse_positive bytes None fits e = tt
parse_positive bytes (Some x) fits e = (varint_takes bytes x fits (sym e)).positive

-- a number that is read is there, whatever the bytes
pub varint_within : (bytes : List ℕ) (x : ℕ × ℕ) → varint_at bytes ≡ Some x → (0 < x.1) × (x.1 ≤ length bytes)
unfolding varint_at
varint_within bytes x e = grind (arith, nat_tests)
