-- How long the shortest spelling of a number is.
use Rattle.std.proofs.Common.{◌≡◌, ℕ, ◌+◌, ◌≤◌, ◌<◌, nat_lt, if◌then◌else◌, refl, arith}
use Rattle.std.proofs.lemmas.Bool.Decides.{nat_tests}
use Rattle.qs_send.specs.Chunks.{offset_len}
use Rattle.qs_wire.specs.Varint.{short_len}
use Rattle.qs_wire.proofs.Lengths.{length-stream}
use Rattle.qs_send.specs.Laws.{FrameLenIsCanonical}

-- by the limits of RFC 9000, section 16
pub short_len-is : (v : ℕ) → short_len v ≡ (if nat_lt v 64 then 1 else (if nat_lt v 16384 then 2 else (if nat_lt v 1073741824 then 4 else 8)))
unfolding short_len
short_len-is v = grind (arith, nat_tests)

pub short_len-zero : short_len 0 ≡ 1
unfolding short_len
short_len-zero = refl

pub short_len-one : short_len 1 ≡ 1
unfolding short_len
short_len-one = refl

pub short_len-join : (a b : ℕ) → short_len (a + b) ≤ short_len a + short_len b + 3
short_len-join a b = grind (arith, nat_tests, short_len-is a, short_len-is b, short_len-is (a + b))

pub short_len-more : (a b : ℕ) → a ≤ b → short_len a ≤ short_len b
short_len-more a b le = grind (arith, nat_tests, short_len-is a, short_len-is b)

pub short_len-some : (a : ℕ) → 1 ≤ short_len a
short_len-some a = grind (arith, nat_tests, short_len-is a)

pub short_len-most : (a : ℕ) → short_len a ≤ 8
short_len-most a = grind (arith, nat_tests, short_len-is a)

pub offset_len-some : (a : ℕ) → 0 < a → 1 ≤ offset_len a
offset_len-some a some = let l = short_len-some a in grind (arith, nat_tests)

pub offset_len-most : (a : ℕ) → offset_len a ≤ 8
offset_len-most a = let l = short_len-most a in grind (arith, nat_tests)

-- ---- The length of a STREAM frame's canonical text.

pub frame_len_is_canonical : FrameLenIsCanonical
frame_len_is_canonical id offset fin bytes = grind (arith, nat_tests, length-stream)
