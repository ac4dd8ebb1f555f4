-- Trusted.
-- What an end keeps for each stream, in four lists: by the type of the stream, at its index (RFC 9000, section 2.1, for the whole file).
use Rattle.std.specs.Prelude.{ℕ, zero, suc, ◌+◌, ◌-◌, ◌*◌, ◌/◌, ◌%◌, List, [], ◌++◌, map, length, slice_get, slice_set, Option, None, Some}
use Rattle.std.specs.List.{range_with_len, sum_by}

pub record Tables (X : Type 0) : Type 0 where
  pub client_bidi : List X
  pub server_bidi : List X
  pub client_uni : List X
  pub server_uni : List X

-- no stream is open
abbrev pub no_streams : {X : Type 0} → Tables X
no_streams = record { client_bidi = []; server_bidi = []; client_uni = []; server_uni = [] }

-- the type of a stream, 0 to 3: its two lowest bits (RFC 9000, section 2.1, table 1)
abbrev pub type_of : ℕ → ℕ
type_of n = n % 4

-- how many streams of its type have a lower number
abbrev pub index_of : ℕ → ℕ
index_of n = n / 4

-- the list of a type of stream
abbrev pub table : {X : Type 0} → Tables X → ℕ → List X
table t zero = t.client_bidi
table t (suc zero) = t.server_bidi
table t (suc (suc zero)) = t.client_uni
table t (suc (suc (suc kind))) = t.server_uni

abbrev pub with_table : {X : Type 0} → Tables X → ℕ → List X → Tables X
with_table t zero xs = record t { client_bidi = xs }
with_table t (suc zero) xs = record t { server_bidi = xs }
with_table t (suc (suc zero)) xs = record t { client_uni = xs }
with_table t (suc (suc (suc kind))) xs = record t { server_uni = xs }

-- what is kept for a stream, None where it isn't open
unfoldable pub lookup : {X : Type 0} → Tables X → ℕ → Option X
lookup t n = slice_get (table t (type_of n)) (index_of n)

unfoldable pub update : {X : Type 0} → Tables X → ℕ → X → Tables X
update t n x = with_table t (type_of n) (slice_set (table t (type_of n)) (index_of n) x)

-- the stream's part changed by f, where the stream is open
abbrev pub updated : {X : Type 0} → Tables X → ℕ → (X → X) → Option X → Tables X
updated t n f None = t
updated t n f (Some x) = update t n (f x)

-- the list with a part for each index below n: those that it lacks are as they begin
abbrev pub widened : {X : Type 0} → List X → ℕ → (ℕ → X) → List X
widened xs n begin = xs ++ map begin (range_with_len (length xs) (n - length xs))

-- with the stream and all lower ones of its type open: each that wasn't begins as its number tells (RFC 9000, section 3.2)
unfoldable pub open_to : {X : Type 0} → Tables X → ℕ → (ℕ → X) → Tables X
open_to t n begin = with_table t (type_of n) (widened (table t (type_of n)) (index_of n + 1) (λ i. begin (i * 4 + type_of n)))

-- each stream's part changed by f
unfoldable pub each : {X : Type 0} → (X → X) → Tables X → Tables X
each f t =
    record {
      client_bidi = map f t.client_bidi;
      server_bidi = map f t.server_bidi;
      client_uni = map f t.client_uni;
      server_uni = map f t.server_uni;
    }

-- the sum over all streams
unfoldable pub total : {X : Type 0} → (X → ℕ) → Tables X → ℕ
total f t = sum_by f t.client_bidi + sum_by f t.server_bidi + sum_by f t.client_uni + sum_by f t.server_uni
