-- The lanes of halves in tables: what a change of a half is to its lane.
use Rattle.std.proofs.lemmas.Bool.Decides.{nat_tests}
use Rattle.std.proofs.Common.{arith}
use Rattle.std.proofs.Common.{◌≡◌, ℕ, suc, ◌/◌, ◌%◌, List, [], ◌∷◌, ◌++◌, length, map, take, Option, Some, None, is_some, option_map, refl, sym, ap, ◌∙◌, true}
use Rattle.std.specs.List.{slice_get, slice_set}
use Rattle.qs_send.specs.Lane.{SendLane, Sending}
use Rattle.qs_machine.specs.Tables.{Tables, table, with_table, lookup, update, updated, open_to}
use Rattle.qs_machine.specs.Outgoing.{lanes_of}

abbrev lane : Sending → SendLane
lane s = s.lane

table_lanes : (t : Tables Sending) (k : ℕ) → table (lanes_of t) k ≡ map lane (table t k)
table_lanes t k = grind arith

with_lanes : (t : Tables Sending) (k : ℕ) (xs : List Sending) → lanes_of (with_table t k xs) ≡ with_table (lanes_of t) k (map lane xs)
with_lanes t k xs = grind arith

get_lanes : (xs : List Sending) (i : ℕ) → slice_get (map lane xs) i ≡ option_map lane (slice_get xs i)
get_lanes (x ∷ xs) (suc i) = get_lanes xs i
get_lanes _ i = refl

set_lanes : (xs : List Sending) (i : ℕ) (y : Sending) → map lane (slice_set xs i y) ≡ slice_set (map lane xs) i y.lane
set_lanes (x ∷ xs) (suc i) y = ap (λ ys. x.lane ∷ ys) (set_lanes xs i y)
set_lanes _ i y = refl

append_lanes : (xs ys : List Sending) → map lane (xs ++ ys) ≡ map lane xs ++ map lane ys
append_lanes [] ys = refl
append_lanes (x ∷ xs) ys = ap (λ zs. x.lane ∷ zs) (append_lanes xs ys)

map_lanes : (f : ℕ → Sending) (ks : List ℕ) → map lane (map f ks) ≡ map (λ k. (f k).lane) ks
map_lanes f [] = refl
map_lanes f (k ∷ ks) = ap (λ ys. (f k).lane ∷ ys) (map_lanes f ks)

len_lanes : (xs : List Sending) → length (map lane xs) ≡ length xs
len_lanes [] = refl
len_lanes (x ∷ xs) = ap suc (len_lanes xs)

pub take_lanes : (n : ℕ) (xs : List Sending) → map lane (take n xs) ≡ take n (map lane xs)
take_lanes (suc n) (x ∷ xs) = ap (λ ys. x.lane ∷ ys) (take_lanes n xs)
take_lanes _ xs = refl

pub lookup_lanes : (t : Tables Sending) (n : ℕ) → lookup (lanes_of t) n ≡ option_map lane (lookup t n)
unfolding lookup
lookup_lanes t n = ap (λ xs. slice_get xs (n / 4)) (table_lanes t (n % 4)) ∙ get_lanes (table t (n % 4)) (n / 4)

-- the half behind a lane
pub half_of : (t : Tables Sending) (n : ℕ) → is_some (lookup (lanes_of t) n) ≡ true → (s : Sending) × (lookup t n ≡ Some s)
half_of t n is = go (lookup t n) refl (sym (ap is_some (lookup_lanes t n)) ∙ is)
  where
    go : (o : Option Sending) → lookup t n ≡ o → is_some (option_map lane o) ≡ true → (s : Sending) × (lookup t n ≡ Some s)
    go None e h = absurd (cc (h))
    go (Some s) e h = (s, e)

pub lane_there : (t : Tables Sending) (n : ℕ) (s : Sending) → lookup t n ≡ Some s → lookup (lanes_of t) n ≡ Some s.lane
lane_there t n s e = lookup_lanes t n ∙ ap (option_map lane) e

pub update_lanes : (t : Tables Sending) (n : ℕ) (y : Sending) → lanes_of (update t n y) ≡ update (lanes_of t) n y.lane
unfolding update
update_lanes t n y = with_lanes t (n % 4) _ ∙ ap (with_table (lanes_of t) (n % 4)) (set_lanes (table t (n % 4)) (n / 4) y ∙ ap (λ xs. slice_set xs (n / 4) y.lane) (sym (table_lanes t (n % 4))))

pub lanes_updated : (t : Tables Sending) (n : ℕ) (f : Sending → Sending) (g : SendLane → SendLane) → ((s : Sending) → lookup t n ≡ Some s → (f s).lane ≡ g s.lane)
    → lanes_of (updated t n f (lookup t n)) ≡ updated (lanes_of t) n g (lookup (lanes_of t) n)
lanes_updated t n f g is = grind (arith, nat_tests, lookup_lanes, option_map, update_lanes)

pub lanes_opened : (t : Tables Sending) (n : ℕ) (begin : ℕ → Sending) → lanes_of (open_to t n begin) ≡ open_to (lanes_of t) n (λ m. (begin m).lane)
unfolding open_to
lanes_opened t n begin = grind (arith, nat_tests, with_lanes, append_lanes, map_lanes, len_lanes, table_lanes)

pub lanes_closed : (t : Tables Sending) (k count : ℕ) → lanes_of (with_table t k (take count (table t k))) ≡ with_table (lanes_of t) k (take count (table (lanes_of t) k))
lanes_closed t k count = with_lanes t k _ ∙ ap (with_table (lanes_of t) k) (take_lanes count (table t k) ∙ ap (take count) (sym (table_lanes t k)))
