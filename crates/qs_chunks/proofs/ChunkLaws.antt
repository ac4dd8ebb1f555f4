-- What the words on chunks answer.
use Rattle.std.specs.Prelude.{◌≡◌, ℕ, ◌+◌, ◌-◌, ◌<◌, ◌≤◌, zero, suc, Bool, true, false, not, cond, ◌&&◌, List, [], ◌∷◌, ◌++◌, length, take, drop, slice_get, Option, None, Some, is_some, refl}
use Rattle.std.proofs.Common.{sym, ◌∙◌, ap, arith, inl, inr, length-drop}
use Rattle.std.specs.Ordering.{nat_cmp}
use Rattle.std.specs.Cmp.{nat_cmp_total}
use Rattle.std.specs.FinMap as map
use Rattle.std.specs.FinMap.{nat_cmp-IsAntisymmetric, same_map}
use Rattle.std.specs.FinSet as set
use Rattle.std.proofs.lemmas.Bool.{both_ways, cases_lt, and_parts, ltb-true, leb-true, and_from, le-leb, lt-leb, lt-ltb, ne_eqb}
use Rattle.std.proofs.lemmas.Bool.Decides.{nat_tests}
use Rattle.qs_recv.specs.Assembled.{store, front, keep_from}
use Rattle.qs_recv.proofs.RingLaws.{is_in_run, get-store, get-keep_from, get-insert_nat, front_of_bytes}
use Rattle.qs_recv.specs.Bytes.{byte_at}
use Rattle.qs_chunks.specs.Chunks.{or_else, rest_of, Piece, stored_in, IsOrdered, end_of_piece, pieces_end, total}

same : (m n : map.FinMap nat_cmp ℕ) → ((q : ℕ) → map.get m q ≡ map.get n q) → m ≡ n
same m n is = same_map nat_cmp_total nat_cmp-IsAntisymmetric m n is

abbrev pub is_in : ℕ → Piece → Bool
is_in q c = is_in_run q c.offset (length c.bytes)

abbrev pub byte_of : Piece → ℕ → Option ℕ
byte_of c q = byte_at c.offset c.bytes q

and_not_false : (b : Bool) → (b && not false) ≡ b
and_not_false true = refl
and_not_false false = refl

pub get-store_all : (m : map.FinMap nat_cmp ℕ) (at : ℕ) (bytes : List ℕ) (q : ℕ)
    → map.get (store set.empty m at bytes) q ≡ cond (is_in_run q at (length bytes)) (byte_at at bytes q) (map.get m q)
get-store_all m at bytes q =
    get-store set.empty m at bytes q
    ∙ ap (λ b. cond (is_in_run q at (length bytes) && not b) (byte_at at bytes q) (map.get m q)) (set.contains-empty nat_cmp q)
    ∙ ap (λ b. cond b (byte_at at bytes q) (map.get m q)) (and_not_false (is_in_run q at (length bytes)))

pub get-stored_in_none : (q : ℕ) → map.get (stored_in []) q ≡ None
unfolding stored_in
get-stored_in_none q = map.get-empty nat_cmp q

pub get-stored_in : (c : Piece) (cs : List Piece) (q : ℕ) → map.get (stored_in (c ∷ cs)) q ≡ cond (is_in q c) (byte_of c q) (map.get (stored_in cs) q)
unfolding stored_in
get-stored_in c cs q = get-store_all (stored_in cs) c.offset c.bytes q

is_some-slice_get : (xs : List ℕ) (k : ℕ) → k < length xs → is_some (slice_get xs k) ≡ true
is_some-slice_get [] k h = absurd (omega arith)
is_some-slice_get (x ∷ xs) zero h = refl
is_some-slice_get (x ∷ xs) (suc k) h = is_some-slice_get xs k (omega arith)

-- a piece has a byte at each of its offsets
pub is_some-byte_of : (c : Piece) (q : ℕ) → is_in q c ≡ true → is_some (byte_of c q) ≡ true
is_some-byte_of c q h =
    let p = and_parts _ _ h in
    let low : c.offset ≤ q = leb-true c.offset q p.0 in
    let high : q < c.offset + length c.bytes = ltb-true q (c.offset + length c.bytes) p.1 in
    ap (λ b. is_some (cond b (slice_get c.bytes (q - c.offset)) None)) p.0 ∙ is_some-slice_get c.bytes (q - c.offset) (omega arith)

pub is_in_from : (q : ℕ) (c : Piece) → c.offset ≤ q → q < end_of_piece c → is_in q c ≡ true
is_in_from q c low high = and_from _ _ (le-leb c.offset q low) (lt-ltb q (end_of_piece c) high)

pub not_in_below : (q : ℕ) (c : Piece) → q < c.offset → is_in q c ≡ false
not_in_below q c h = grind (arith, nat_tests)

pub not_in_above : (q : ℕ) (c : Piece) → end_of_piece c ≤ q → is_in q c ≡ false
not_in_above q c h = grind (arith, nat_tests)

pub none_below : (cs : List Piece) (low q : ℕ) → IsOrdered low cs → q < low → map.get (stored_in cs) q ≡ None
none_below [] low q o h = get-stored_in_none q
none_below (c ∷ cs) low q o h =
    get-stored_in c cs q
    ∙ ap (λ b. cond b (byte_of c q) (map.get (stored_in cs) q)) (not_in_below q c (let l = o.0 in omega arith))
    ∙ none_below cs (end_of_piece c) q o.2 (let l = o.0 in omega arith)

pub not_some : (o : Option ℕ) → o ≡ None → is_some o ≡ true → ⊥
not_some o e h = both_ways _ (ap is_some e) h

-- what is next, and what is left, where the first piece is next
byte_of_front : (c : Piece) (k : ℕ) → k < length c.bytes → byte_of c (c.offset + k) ≡ slice_get c.bytes k
byte_of_front c k h =
    let e : c.offset + k - c.offset ≡ k = omega arith in
    ap (λ b. cond b (slice_get c.bytes (c.offset + k - c.offset)) None) (le-leb c.offset (c.offset + k) (omega arith)) ∙ ap (slice_get c.bytes) e

pub front-first : (c : Piece) (cs : List Piece) (n : ℕ) → n ≤ length c.bytes → front (stored_in (c ∷ cs)) c.offset n ≡ take n c.bytes
front-first c cs n h =
    front_of_bytes (stored_in (c ∷ cs)) n c.offset c.bytes h (λ k b.
    get-stored_in c cs (c.offset + k)
    ∙ ap (λ t. cond t (byte_of c (c.offset + k)) (map.get (stored_in cs) (c.offset + k))) (is_in_from (c.offset + k) c (omega arith) (omega arith))
    ∙ byte_of_front c k (omega arith))

pub slice_get-drop : (xs : List ℕ) (n k : ℕ) → slice_get (drop n xs) k ≡ slice_get xs (n + k)
slice_get-drop xs zero k = ap (slice_get xs) (let e : k ≡ 0 + k = omega arith in e)
slice_get-drop [] (suc n) k = refl
slice_get-drop (x ∷ xs) (suc n) k = slice_get-drop xs n k ∙ ap (slice_get (x ∷ xs)) (let e : suc (n + k) ≡ suc n + k = omega arith in e)

add_one_more : (a b : ℕ) → a + 1 + b ≡ a + suc b
add_one_more a b = omega arith

add_swap : (a b : ℕ) → a + b ≡ b + a
add_swap a b = omega arith

length-rest : (c : Piece) (n : ℕ) → n ≤ length c.bytes → end_of_piece (rest_of c n) ≡ end_of_piece c
length-rest c n h = let d : length (drop n c.bytes) ≡ length c.bytes - n = length-drop n c.bytes in omega arith

byte_of_rest : (c : Piece) (n q : ℕ) → c.offset + n ≤ q → byte_of (rest_of c n) q ≡ byte_of c q
byte_of_rest c n q h =
    let e : n + (q - (c.offset + n)) ≡ q - c.offset = omega arith in
    ap (λ b. cond b (slice_get (drop n c.bytes) (q - (c.offset + n))) None) (le-leb (c.offset + n) q h)
    ∙ slice_get-drop c.bytes n (q - (c.offset + n)) ∙ ap (slice_get c.bytes) e
    ∙ sym (ap (λ b. cond b (slice_get c.bytes (q - c.offset)) None) (le-leb c.offset q (omega arith)))

pub in_piece : (c : Piece) (cs : List Piece) (q : ℕ) → c.offset ≤ q → q < end_of_piece c → map.get (stored_in (c ∷ cs)) q ≡ byte_of c q
in_piece c cs q low high = get-stored_in c cs q ∙ ap (λ b. cond b (byte_of c q) (map.get (stored_in cs) q)) (is_in_from q c low high)

pub past_piece : (c : Piece) (cs : List Piece) (q : ℕ) → end_of_piece c ≤ q → map.get (stored_in (c ∷ cs)) q ≡ map.get (stored_in cs) q
past_piece c cs q h = get-stored_in c cs q ∙ ap (λ b. cond b (byte_of c q) (map.get (stored_in cs) q)) (not_in_above q c h)

kept : (m : map.FinMap nat_cmp ℕ) (at q : ℕ) → at ≤ q → map.get (keep_from m at) q ≡ map.get m q
kept m at q h = get-keep_from m at q ∙ ap (λ b. cond b (map.get m q) None) (le-leb at q h)

dropped : (m : map.FinMap nat_cmp ℕ) (at q : ℕ) → q < at → map.get (keep_from m at) q ≡ None
dropped m at q h = get-keep_from m at q ∙ ap (λ b. cond b (map.get m q) None) (lt-leb at q h)

pub IsOrdered-rest : (c : Piece) (cs : List Piece) (low n : ℕ) → IsOrdered low (c ∷ cs) → n < length c.bytes → IsOrdered (c.offset + n) (rest_of c n ∷ cs)
IsOrdered-rest c cs low n o h =
    (omega arith, simp length-drop (omega arith), rw (length-rest c n (omega arith)) o.2)

pub keep_from-first : (c : Piece) (cs : List Piece) (low n : ℕ) → IsOrdered low (c ∷ cs) → n < length c.bytes
    → keep_from (stored_in (c ∷ cs)) (c.offset + n) ≡ stored_in (rest_of c n ∷ cs)
keep_from-first c cs low n o h =
    let end : end_of_piece (rest_of c n) ≡ end_of_piece c = length-rest c n (omega arith) in
    same _ _ (λ q.
    elim (cases_lt q (c.offset + n)) [
      | inl before ↦ dropped (stored_in (c ∷ cs)) (c.offset + n) q before ∙ sym (none_below (rest_of c n ∷ cs) (c.offset + n) q (IsOrdered-rest c cs low n o h) before)
      | inr from ↦
          kept (stored_in (c ∷ cs)) (c.offset + n) q from
          ∙ elim (cases_lt q (end_of_piece c)) [
            | inl within ↦ in_piece c cs q (omega arith) within ∙ sym (in_piece (rest_of c n) cs q from (omega arith) ∙ byte_of_rest c n q from)
            | inr past ↦ past_piece c cs q past ∙ sym (past_piece (rest_of c n) cs q (omega arith))
          ]
    ])

pub keep_from-whole : (c : Piece) (cs : List Piece) (low : ℕ) → IsOrdered low (c ∷ cs) → keep_from (stored_in (c ∷ cs)) (end_of_piece c) ≡ stored_in cs
keep_from-whole c cs low o =
    same _ _ (λ q.
    elim (cases_lt q (end_of_piece c)) [
      | inl before ↦ dropped (stored_in (c ∷ cs)) (end_of_piece c) q before ∙ sym (none_below cs (end_of_piece c) q o.2 before)
      | inr from ↦ kept (stored_in (c ∷ cs)) (end_of_piece c) q from ∙ past_piece c cs q from
    ])

-- how many bytes are stored
len_store : (m : map.FinMap nat_cmp ℕ) (at : ℕ) (bytes : List ℕ) → ((q : ℕ) → at ≤ q → q < at + length bytes → map.get m q ≡ None) → map.len (store set.empty m at bytes) ≡ map.len m + length bytes
unfolding store
len_store m at [] none = omega arith
len_store m at (byte ∷ bytes) none =
    let here : map.get m at ≡ None = none at (omega arith) (omega arith) in
    let len_one : map.len (map.insert m at byte) ≡ map.len m + 1 =
    map.len-insert nat_cmp_total m at byte ∙ ap (λ o. cond (is_some o) (map.len m) (map.len m + 1)) here in
    let rest = len_store (map.insert m at byte) (at + 1) bytes (λ q low high.
    get-insert_nat m at byte q ∙ ap (λ b. cond b (Some byte) (map.get m q)) (ne_eqb q at (λ e. omega arith)) ∙ none q (omega arith) (omega arith)) in
    ap (λ b. map.len (store set.empty (cond b m (map.insert m at byte)) (at + 1) bytes)) (set.contains-empty nat_cmp at)
    ∙ rest ∙ ap (λ n. n + length bytes) len_one ∙ add_one_more (map.len m) (length bytes)

pub len-stored_in : (cs : List Piece) (low : ℕ) → IsOrdered low cs → map.len (stored_in cs) ≡ total cs
unfolding stored_in
len-stored_in [] low o = map.len-empty nat_cmp ℕ
len-stored_in (c ∷ cs) low o =
    let rest = len-stored_in cs (end_of_piece c) o.2 in
    len_store (stored_in cs) c.offset c.bytes (λ q _ high. none_below cs (end_of_piece c) q o.2 high)
    ∙ ap (λ n. n + length c.bytes) rest ∙ add_swap (total cs) (length c.bytes)

-- Lists of pieces joined

or_else-cond : (b : Bool) (x y z : Option ℕ) → (b ≡ true → is_some x ≡ true) → or_else (cond b x y) z ≡ cond b x (or_else y z)
or_else-cond false x y z h = refl
or_else-cond true None y z h = absurd (both_ways false refl (h refl))
or_else-cond true (Some x) y z h = refl

pub get-stored_in-append : (xs ys : List Piece) (q : ℕ) → map.get (stored_in (xs ++ ys)) q ≡ or_else (map.get (stored_in xs) q) (map.get (stored_in ys) q)
get-stored_in-append [] ys q = sym (ap (λ o. or_else o (map.get (stored_in ys) q)) (get-stored_in_none q))
get-stored_in-append (c ∷ xs) ys q =
    get-stored_in c (xs ++ ys) q
    ∙ ap (λ o. cond (is_in q c) (byte_of c q) o) (get-stored_in-append xs ys q)
    ∙ sym (ap (λ o. or_else o (map.get (stored_in ys) q)) (get-stored_in c xs q)
    ∙ or_else-cond (is_in q c) (byte_of c q) (map.get (stored_in xs) q) (map.get (stored_in ys) q) (is_some-byte_of c q))

pub low_end : (xs : List Piece) (low : ℕ) → IsOrdered low xs → low ≤ pieces_end low xs
low_end [] low o = omega arith
low_end (c ∷ xs) low o = let e = low_end xs (end_of_piece c) o.2 in let l = o.0 in omega (arith, low_end xs (end_of_piece c) o.2)

pub none_past : (xs : List Piece) (low q : ℕ) → IsOrdered low xs → pieces_end low xs ≤ q → map.get (stored_in xs) q ≡ None
none_past [] low q o h = get-stored_in_none q
none_past (c ∷ xs) low q o h = let e = low_end xs (end_of_piece c) o.2 in past_piece c xs q (omega (arith, low_end xs (end_of_piece c) o.2)) ∙ none_past xs (end_of_piece c) q o.2 h
