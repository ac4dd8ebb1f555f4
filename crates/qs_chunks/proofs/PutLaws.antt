-- What the chunks hold after bytes were put at their spot.
use Rattle.std.specs.Prelude.{◌≡◌, ℕ, ◌+◌, ◌-◌, ◌<◌, ◌≤◌, zero, suc, Bool, true, false, not, cond, ◌&&◌, ◌||◌, nat_le, nat_lt, max, List, [], ◌∷◌, ◌++◌, length, take, drop, slice_get, Option, None, Some, is_some, Result, Ok, Err, OnOk, refl}
use Rattle.std.proofs.Common.{sym, ◌∙◌, ap, subst, arith, inl, inr, length-append, length-drop}
use Rattle.std.specs.Ordering.{nat_cmp}
use Rattle.std.specs.Cmp.{nat_cmp_total}
use Rattle.std.specs.FinMap as map
use Rattle.std.specs.FinMap.{nat_cmp-IsAntisymmetric, same_map}
use Rattle.std.specs.FinSet as set
use Rattle.std.proofs.lemmas.Bool.{both_ways, false_from_ne_true, cases_lt, cases_Bool, and_parts, and_right, or_left, or_right, ltb-true, leb-true, le-leb}
use Rattle.std.proofs.lemmas.Bool.Decides.{nat_tests}
use Rattle.std.proofs.lemmas.List.{take-append-drop, drop-drop, length-take}
use Rattle.qs_ranges.specs.Numbers.{NumberSet, MAX_VARINT, is_within}
use Rattle.qs_recv.specs.Assembled.{put, store}
use Rattle.qs_recv.specs.Bytes.{byte_at}
use Rattle.qs_chunks.specs.Chunks.{Piece, IsOrdered, IsPlaced, IsSpot, between, end_of_piece, longer, or_else, piece_at, pieces_end, stored_in, total, with_longer, with_spot}
use Rattle.qs_chunks.specs.Kept.{IsKept}
use Rattle.qs_recv.proofs.RingLaws.{is_in_run, with_run, contains-with_run, get-store, stored_by_put}
use Rattle.qs_chunks.proofs.ChunkLaws.{get-stored_in, get-stored_in-append, is_in, byte_of, is_some-byte_of, is_in_from, not_in_below, not_in_above, none_past, none_below, slice_get-drop}
use Rattle.qs_chunks.proofs.SpotLaws.{nothing_over}
use Rattle.qs_chunks.proofs.KeptLaws.{IsOrdered-raise, IsOrdered-lower}

-- The bytes of the frame from an offset on

slice_get-take : (xs : List ℕ) (n k : ℕ) → k < n → slice_get (take n xs) k ≡ slice_get xs k
slice_get-take xs zero k h = absurd (omega arith)
slice_get-take [] (suc n) k h = refl
slice_get-take (x ∷ xs) (suc n) zero h = refl
slice_get-take (x ∷ xs) (suc n) (suc k) h = slice_get-take xs n k (omega arith)

pub byte_at-part : (offset from to q : ℕ) (bytes : List ℕ) → offset ≤ from → from ≤ q → q < to
    → byte_at from (take (to - offset - (from - offset)) (drop (from - offset) bytes)) q ≡ byte_at offset bytes q
byte_at-part offset from to q bytes low at high =
    let e : from - offset + (q - from) ≡ q - offset = omega arith in
    ap (λ b. cond b (slice_get (take (to - offset - (from - offset)) (drop (from - offset) bytes)) (q - from)) None) (le-leb from q at)
    ∙ slice_get-take (drop (from - offset) bytes) (to - offset - (from - offset)) (q - from) (omega arith)
    ∙ slice_get-drop bytes (from - offset) (q - from)
    ∙ ap (slice_get bytes) e
    ∙ sym (ap (λ b. cond b (slice_get bytes (q - offset)) None) (le-leb offset q (omega arith)))

-- A longer piece is two

slice_get-append : (xs ys : List ℕ) (k : ℕ) → slice_get (xs ++ ys) k ≡ cond (nat_lt k (length xs)) (slice_get xs k) (slice_get ys (k - length xs))
slice_get-append [] ys k = let e : nat_lt k 0 ≡ false = grind (arith, nat_tests) in let n : k ≡ k - 0 = omega arith in ap (slice_get ys) n ∙ ap (λ b. cond b None (slice_get ys (k - 0))) (sym e)
slice_get-append (x ∷ xs) ys zero = let e : nat_lt 0 (suc (length xs)) ≡ true = grind (arith, nat_tests) in ap (λ b. cond b (Some x) (slice_get ys (0 - suc (length xs)))) (sym e)
slice_get-append (x ∷ xs) ys (suc k) =
    let e : nat_lt k (length xs) ≡ nat_lt (suc k) (suc (length xs)) = grind (arith, nat_tests) in
    let n : k - length xs ≡ suc k - suc (length xs) = omega arith in
    slice_get-append xs ys k ∙ ap (λ b. cond b (slice_get xs k) (slice_get ys (k - length xs))) e ∙ ap (λ j. cond (nat_lt (suc k) (suc (length xs))) (slice_get xs k) (slice_get ys j)) n

longer_is_two : (c : Piece) (bytes : List ℕ) (ys : List Piece) (q : ℕ) → map.get (stored_in (longer c bytes ∷ ys)) q ≡ map.get (stored_in (c ∷ record { offset = end_of_piece c; bytes = bytes } ∷ ys)) q
longer_is_two c bytes ys q =
    let len : length (c.bytes ++ bytes) ≡ length c.bytes + length bytes = length-append c.bytes bytes in
    get-stored_in (longer c bytes) ys q
    ∙ elim (cases_lt q c.offset) [
      | inl below ↦
          ap (λ b. cond b (byte_of (longer c bytes) q) (map.get (stored_in ys) q)) (not_in_below q (longer c bytes) below)
          ∙ sym (get-stored_in c (record { offset = end_of_piece c; bytes = bytes } ∷ ys) q
          ∙ ap (λ b. cond b (byte_of c q) (map.get (stored_in (record { offset = end_of_piece c; bytes = bytes } ∷ ys)) q)) (not_in_below q c below)
          ∙ get-stored_in (record { offset = end_of_piece c; bytes = bytes }) ys q
          ∙ ap (λ b. cond b (byte_at (end_of_piece c) bytes q) (map.get (stored_in ys) q)) (not_in_below q (record { offset = end_of_piece c; bytes = bytes }) (omega arith)))
      | inr from ↦ elim (cases_lt q (end_of_piece c)) [
        | inl within ↦
            let t : nat_lt (q - c.offset) (length c.bytes) ≡ true = grind (arith, nat_tests) in
            ap (λ b. cond b (byte_of (longer c bytes) q) (map.get (stored_in ys) q)) (is_in_from q (longer c bytes) from (omega (arith, len)))
            ∙ ap (λ b. cond b (slice_get (c.bytes ++ bytes) (q - c.offset)) None) (le-leb c.offset q from)
            ∙ slice_get-append c.bytes bytes (q - c.offset)
            ∙ ap (λ b. cond b (slice_get c.bytes (q - c.offset)) (slice_get bytes (q - c.offset - length c.bytes))) t
            ∙ sym (get-stored_in c (record { offset = end_of_piece c; bytes = bytes } ∷ ys) q
            ∙ ap (λ b. cond b (byte_of c q) (map.get (stored_in (record { offset = end_of_piece c; bytes = bytes } ∷ ys)) q)) (is_in_from q c from within)
            ∙ ap (λ b. cond b (slice_get c.bytes (q - c.offset)) None) (le-leb c.offset q from))
        | inr past ↦
            let rest : map.get (stored_in (c ∷ record { offset = end_of_piece c; bytes = bytes } ∷ ys)) q ≡ cond (is_in q (record { offset = end_of_piece c; bytes = bytes })) (byte_at (end_of_piece c) bytes q) (map.get (stored_in ys) q) =
            get-stored_in c (record { offset = end_of_piece c; bytes = bytes } ∷ ys) q
            ∙ ap (λ b. cond b (byte_of c q) (map.get (stored_in (record { offset = end_of_piece c; bytes = bytes } ∷ ys)) q)) (not_in_above q c past)
            ∙ get-stored_in (record { offset = end_of_piece c; bytes = bytes }) ys q in
            elim (cases_lt q (end_of_piece c + length bytes)) [
              | inl new ↦
                  let t : nat_lt (q - c.offset) (length c.bytes) ≡ false = grind (arith, nat_tests) in
                  let n : q - c.offset - length c.bytes ≡ q - end_of_piece c = omega arith in
                  ap (λ b. cond b (byte_of (longer c bytes) q) (map.get (stored_in ys) q)) (is_in_from q (longer c bytes) from (omega (arith, len)))
                  ∙ ap (λ b. cond b (slice_get (c.bytes ++ bytes) (q - c.offset)) None) (le-leb c.offset q from)
                  ∙ slice_get-append c.bytes bytes (q - c.offset)
                  ∙ ap (λ b. cond b (slice_get c.bytes (q - c.offset)) (slice_get bytes (q - c.offset - length c.bytes))) t
                  ∙ ap (slice_get bytes) n
                  ∙ sym (rest ∙ ap (λ b. cond b (byte_at (end_of_piece c) bytes q) (map.get (stored_in ys) q)) (is_in_from q (record { offset = end_of_piece c; bytes = bytes }) past new)
                  ∙ ap (λ b. cond b (slice_get bytes (q - end_of_piece c)) None) (le-leb (end_of_piece c) q past))
              | inr out ↦
                  ap (λ b. cond b (byte_of (longer c bytes) q) (map.get (stored_in ys) q)) (not_in_above q (longer c bytes) (omega (arith, len)))
                  ∙ sym (rest ∙ ap (λ b. cond b (byte_at (end_of_piece c) bytes q) (map.get (stored_in ys) q)) (not_in_above q (record { offset = end_of_piece c; bytes = bytes }) out))
            ]
      ]
    ]

joined_is : (cs : List Piece) (k : ℕ) (bytes : List ℕ) (ys : List Piece) (q : ℕ) → k < length cs
    → map.get (stored_in (take (suc k) (with_longer cs k bytes) ++ ys)) q ≡ map.get (stored_in (take (suc k) cs ++ record { offset = end_of_piece (piece_at cs k); bytes = bytes } ∷ ys)) q
joined_is [] k bytes ys q h = absurd (omega arith)
joined_is (c ∷ cs) zero bytes ys q h = longer_is_two c bytes ys q
joined_is (c ∷ cs) (suc k) bytes ys q h =
    get-stored_in c (take (suc k) (with_longer cs k bytes) ++ ys) q
    ∙ ap (λ o. cond (is_in q c) (byte_of c q) o) (joined_is cs k bytes ys q (omega arith))
    ∙ sym (get-stored_in c (take (suc k) cs ++ record { offset = end_of_piece (piece_at cs k); bytes = bytes } ∷ ys) q)

-- with the new bytes as a piece of its own
pub spot_is : (joins : Bool) (cs : List Piece) (first after from : ℕ) (bytes : List ℕ) (q : ℕ) → first ≤ length cs → (joins ≡ true → (0 < first) × (end_of_piece (piece_at cs (first - 1)) ≡ from))
    → map.get (stored_in (with_spot joins cs first after from bytes)) q ≡ map.get (stored_in (take first cs ++ record { offset = from; bytes = bytes } ∷ drop after cs)) q
spot_is false cs first after from bytes q within joins = refl
spot_is true cs zero after from bytes q within joins = let j = (joins refl).0 in absurd (omega arith)
spot_is true cs (suc k) after from bytes q within joins =
    let e : suc k - 1 ≡ k = omega arith in
    let f : end_of_piece (piece_at cs k) ≡ from = rw e at (joins refl).1 in
    rw e (joined_is cs k bytes (drop after cs) q (omega arith) ∙ ap (λ o. map.get (stored_in (take (suc k) cs ++ record { offset = o; bytes = bytes } ∷ drop after cs)) q) f)

-- The pieces before a spot, in it and behind it

split : (cs : List Piece) (first after : ℕ) → first ≤ after → cs ≡ take first cs ++ (between cs first after ++ drop after cs)
split cs first after ordered =
    let e : first + (after - first) ≡ after = omega arith in
    sym (take-append-drop first cs)
    ∙ ap (λ xs. take first cs ++ xs) (sym (take-append-drop (after - first) (drop first cs)) ∙ ap (λ xs. between cs first after ++ xs) (drop-drop (after - first) first cs ∙ ap (λ k. drop k cs) e))

pub get_parts : (cs : List Piece) (first after q : ℕ) → first ≤ after
    → map.get (stored_in cs) q ≡ or_else (map.get (stored_in (take first cs)) q) (or_else (map.get (stored_in (between cs first after)) q) (map.get (stored_in (drop after cs)) q))
get_parts cs first after q ordered =
    ap (λ xs. map.get (stored_in xs) q) (split cs first after ordered)
    ∙ get-stored_in-append (take first cs) (between cs first after ++ drop after cs) q
    ∙ ap (λ o. or_else (map.get (stored_in (take first cs)) q) o) (get-stored_in-append (between cs first after) (drop after cs) q)

get_with_piece : (cs : List Piece) (first after q : ℕ) (p : Piece)
    → map.get (stored_in (take first cs ++ p ∷ drop after cs)) q ≡ or_else (map.get (stored_in (take first cs)) q) (cond (is_in q p) (byte_of p q) (map.get (stored_in (drop after cs)) q))
get_with_piece cs first after q p =
    get-stored_in-append (take first cs) (p ∷ drop after cs) q
    ∙ ap (λ o. or_else (map.get (stored_in (take first cs)) q) o) (get-stored_in p (drop after cs) q)

kept_some : (a : Option ℕ) (b : Bool) (x : Option ℕ) → (b ≡ true → is_some a ≡ true) → a ≡ or_else a (cond b x None)
kept_some None true x h = absurd (both_ways false refl (h refl))
kept_some None false x h = refl
kept_some (Some y) b x h = refl

or_none : (a : Option ℕ) → or_else a None ≡ a
or_none None = refl
or_none (Some x) = refl

-- the bytes that come, under the offsets that have none
pub spot_get : (cs : List Piece) (start end first after from to offset q : ℕ) (new bytes : List ℕ) → IsSpot cs start end first after from to → length new ≡ to - from
    → ((k : ℕ) → from ≤ k → k < to → byte_at from new k ≡ or_else (map.get (stored_in (between cs first after)) k) (byte_at offset bytes k))
    → map.get (stored_in (take first cs ++ record { offset = from; bytes = new } ∷ drop after cs)) q ≡ or_else (map.get (stored_in cs) q) (cond (is_within start end q) (byte_at offset bytes q) None)
spot_get cs start end first after from to offset q new bytes s len put =
    let some = s.some in
    let a = map.get (stored_in (take first cs)) q in
    let m = map.get (stored_in (between cs first after)) q in
    let d = map.get (stored_in (drop after cs)) q in
    let p : Piece = record { offset = from; bytes = new } in
    let x = byte_at offset bytes q in
    let w = is_within start end q in
    let parts = get_parts cs first after q s.ordered in
    get_with_piece cs first after q p
    ∙ elim (cases_lt q from) [
      | inl before ↦
          let m_none : m ≡ None = none_below (between cs first after) from q s.inner before in
          let d_none : d ≡ None = none_below (drop after cs) to q s.behind (omega arith) in
          let is : map.get (stored_in cs) q ≡ a = parts ∙ ap (λ o. or_else a (or_else o d)) m_none ∙ ap (λ o. or_else a o) d_none ∙ or_none a in
          ap (λ b. or_else a (cond b (byte_of p q) d)) (not_in_below q p before) ∙ ap (λ o. or_else a o) d_none ∙ or_none a
          ∙ kept_some a w x (λ t. s.stored_before q (leb-true start q (and_parts _ _ t).0) before)
          ∙ ap (λ o. or_else o (cond w x None)) (sym is)
      | inr past ↦
          let a_none : a ≡ None = none_past (take first cs) 0 q s.before (let e = s.before_ends in omega arith) in
          elim (cases_lt q to) [
            | inl within ↦
                let d_none : d ≡ None = none_below (drop after cs) to q s.behind within in
                let is : map.get (stored_in cs) q ≡ m = parts ∙ ap (λ o. or_else o (or_else m d)) a_none ∙ ap (λ o. or_else m o) d_none ∙ or_none m in
                let t : w ≡ true = within_is start end q (let b = s.begins in omega arith) (let e = s.ends in omega arith) in
                ap (λ o. or_else o (cond (is_in q p) (byte_of p q) d)) a_none
                ∙ ap (λ b. cond b (byte_of p q) d) (is_in_from q p past (omega (arith, len)))
                ∙ put q past within
                ∙ sym (ap (λ o. or_else o (cond w x None)) is ∙ ap (λ b. or_else m (cond b x None)) t)
            | inr behind ↦
                let m_none : m ≡ None = none_past (between cs first after) from q s.inner (let e = s.inner_ends in omega arith) in
                let is : map.get (stored_in cs) q ≡ d = parts ∙ ap (λ o. or_else o (or_else m d)) a_none ∙ ap (λ o. or_else o d) m_none in
                ap (λ o. or_else o (cond (is_in q p) (byte_of p q) d)) a_none
                ∙ ap (λ b. cond b (byte_of p q) d) (not_in_above q p (omega (arith, len)))
                ∙ kept_some d w x (λ t. s.stored_behind q behind (ltb-true q end (and_parts _ _ t).1))
                ∙ ap (λ o. or_else o (cond w x None)) (sym is)
          ]
    ]
  where
    within_is : (lo hi k : ℕ) → lo ≤ k → k < hi → is_within lo hi k ≡ true
    within_is lo hi k l h = grind (arith, nat_tests)

-- Against what came

none_of_not_some : (o : Option ℕ) → is_some o ≡ false → o ≡ None
none_of_not_some None h = refl
none_of_not_some (Some x) h = absurd (both_ways _ h refl)

-- the offsets of the frame that are still to be read and have no byte are those that didn't come
new_is : (r : NumberSet) (cs : List Piece) (n stored offset len q : ℕ) → IsKept cs r n stored false → map.contains_key (stored_in cs) q ≡ false
    → is_within (max offset n) (offset + len) q ≡ (is_in_run q offset len && not (set.contains r q))
new_is r cs n stored offset len q h none =
    elim (cases_lt q n) [
      | inl read ↦
          let e : is_within (max offset n) (offset + len) q ≡ false = grind (arith, nat_tests) in
          e ∙ sym (and_right (is_in_run q offset len) (not (set.contains r q)) (ap not (h.read_came q read)))
      | inr left ↦
          let new : set.contains r q ≡ false = false_from_ne_true (set.contains r q) (λ is. both_ways _ none (h.kept refl q left is)) in
          let e : is_within (max offset n) (offset + len) q ≡ is_in_run q offset len = grind (arith, nat_tests) in
          e ∙ and_true (is_in_run q offset len) (not (set.contains r q)) (ap not new)
    ]
  where
    and_true : (a b : Bool) → b ≡ true → a ≡ (a && b)
    and_true true b t = sym t
    and_true false b t = refl

pub stored_after : (r : NumberSet) (cs new : List Piece) (n stored offset : ℕ) (bytes : List ℕ) → IsKept cs r n stored false
    → ((q : ℕ) → map.get (stored_in new) q ≡ or_else (map.get (stored_in cs) q) (cond (is_within (max offset n) (offset + length bytes) q) (byte_at offset bytes q) None))
    → stored_in new ≡ store r (stored_in cs) offset bytes
stored_after r cs new n stored offset bytes h is =
    same_map nat_cmp_total nat_cmp-IsAntisymmetric _ _ (λ q.
    is q
    ∙ elim (cases_Bool (map.contains_key (stored_in cs) q)) [
      | inl some ↦
          some_first (map.get (stored_in cs) q) _ some
          ∙ sym (get-store r (stored_in cs) offset bytes q
          ∙ ap (λ b. cond b (byte_at offset bytes q) (map.get (stored_in cs) q)) (and_right (is_in_run q offset (length bytes)) (not (set.contains r q)) (ap not (h.came q some))))
      | inr none ↦
          let e = none_of_not_some (map.get (stored_in cs) q) none in
          ap (λ o. or_else o (cond (is_within (max offset n) (offset + length bytes) q) (byte_at offset bytes q) None)) e
          ∙ ap (λ b. cond b (byte_at offset bytes q) None) (new_is r cs n stored offset (length bytes) q h none)
          ∙ sym (get-store r (stored_in cs) offset bytes q ∙ ap (λ o. cond (is_in_run q offset (length bytes) && not (set.contains r q)) (byte_at offset bytes q) o) e)
    ])
  where
    some_first : (a b : Option ℕ) → is_some a ≡ true → or_else a b ≡ a
    some_first None b some = absurd (both_ways false refl some)
    some_first (Some x) b some = refl

-- where all that comes is stored or was read
pub stored_same : (r : NumberSet) (cs : List Piece) (n stored offset : ℕ) (bytes : List ℕ) → IsKept cs r n stored false
    → ((q : ℕ) → max offset n ≤ q → q < offset + length bytes → map.contains_key (stored_in cs) q ≡ true)
    → stored_in cs ≡ store r (stored_in cs) offset bytes
stored_same r cs n stored offset bytes h all =
    stored_after r cs cs n stored offset bytes h (λ q.
    kept_some (map.get (stored_in cs) q) (is_within (max offset n) (offset + length bytes) q) (byte_at offset bytes q)
    (λ t. all q (leb-true (max offset n) q (and_parts _ _ t).0) (ltb-true q (offset + length bytes) (and_parts _ _ t).1)))

none_read_again : (r : NumberSet) (offset n stored : ℕ) (bytes : List ℕ) (cs new : List Piece) → IsKept cs r n stored false
    → stored_in new ≡ store r (stored_in cs) offset bytes → (q : ℕ) → q < n → map.get (stored_in new) q ≡ None
none_read_again r offset n stored bytes cs new h is q below =
    ap (λ m. map.get m q) is
    ∙ get-store r (stored_in cs) offset bytes q
    ∙ ap (λ b. cond b (byte_at offset bytes q) (map.get (stored_in cs) q)) (and_right (is_in_run q offset (length bytes)) (not (set.contains r q)) (ap not (h.read_came q below)))
    ∙ none_below cs n q h.ordered below

stored_in_store : (r : NumberSet) (m : map.FinMap nat_cmp ℕ) (offset q : ℕ) (bytes : List ℕ) → (set.contains r q ≡ true → map.contains_key m q ≡ true)
    → (set.contains r q || is_in_run q offset (length bytes)) ≡ true → map.contains_key (store r m offset bytes) q ≡ true
stored_in_store r m offset q bytes old some = ap is_some (get-store r m offset bytes q) ∙ by_test (set.contains r q) refl (is_in_run q offset (length bytes)) refl
  where
    by_test : (b : Bool) → set.contains r q ≡ b → (i : Bool) → is_in_run q offset (length bytes) ≡ i → is_some (cond (i && not b) (byte_at offset bytes q) (map.get m q)) ≡ true
    by_test true is true run = old is
    by_test true is false run = old is
    by_test false is true run = is_some-byte_of (record { offset = offset; bytes = bytes }) q run
    by_test false is false run = absurd (both_ways false refl (rw (is, run) at some))

pub kept_put : (r : NumberSet) (offset n stored stored' : ℕ) (bytes : List ℕ) (cs new : List Piece) → IsKept cs r n stored false → offset + length bytes ≤ MAX_VARINT → IsOrdered 0 new
    → stored_in new ≡ store r (stored_in cs) offset bytes → stored' ≡ total new → IsKept new (with_run r offset (length bytes)) n stored' false
kept_put r offset n stored stored' bytes cs new h fits ordered is count =
    record {
      ordered = IsOrdered-raise new n ordered (none_read_again r offset n stored bytes cs new h is);
      came = λ q some. contains-with_run r offset (length bytes) q ∙ elim (stored_by_put r (stored_in cs) offset bytes q (sym (ap (λ m. map.contains_key m q) is) ∙ some)) [
        | inl run ↦ or_right (set.contains r q) (is_in_run q offset (length bytes)) run
        | inr was ↦ or_left (set.contains r q) (is_in_run q offset (length bytes)) (h.came q was)
      ];
      read_came = λ q below. contains-with_run r offset (length bytes) q ∙ or_left (set.contains r q) (is_in_run q offset (length bytes)) (h.read_came q below);
      kept = λ on q past some.
          ap (λ m. map.contains_key m q) is
          ∙ stored_in_store r (stored_in cs) offset q bytes (λ came. h.kept refl q past came) (sym (contains-with_run r offset (length bytes) q) ∙ some);
      small = λ q some. elim (stored_by_put r (stored_in cs) offset bytes q (sym (ap (λ m. map.contains_key m q) is) ∙ some)) [
        | inl run ↦ let high : q < offset + length bytes = ltb-true q (offset + length bytes) (and_parts (nat_le offset q) (nat_lt q (offset + length bytes)) run).1 in omega arith
        | inr was ↦ h.small q was
      ];
      counted = count;
    }

-- Order and number

total-append : (xs ys : List Piece) → total (xs ++ ys) ≡ total xs + total ys
total-append [] ys = omega arith
total-append (c ∷ xs) ys = let r = total-append xs ys in omega (arith, r)

ordered_append : (xs ys : List Piece) (low high : ℕ) → IsOrdered low xs → pieces_end low xs ≤ high → IsOrdered high ys → IsOrdered low (xs ++ ys)
ordered_append [] ys low high o end o' = IsOrdered-lower ys high low end o'
ordered_append (c ∷ xs) ys low high o end o' = (o.0, o.1, ordered_append xs ys (end_of_piece c) high o.2 end o')

ordered_longer : (cs ys : List Piece) (low k high : ℕ) (bytes : List ℕ) → k < length cs → IsOrdered low (take (suc k) cs) → end_of_piece (piece_at cs k) + length bytes ≤ high → IsOrdered high ys
    → IsOrdered low (take (suc k) (with_longer cs k bytes) ++ ys)
ordered_longer [] ys low k high bytes h o end o' = absurd (omega arith)
ordered_longer (c ∷ cs) ys low zero high bytes h o end o' =
    let len : length (c.bytes ++ bytes) ≡ length c.bytes + length bytes = length-append c.bytes bytes in
    let some = o.1 in
    (o.0, omega (arith, len, some), IsOrdered-lower ys high (c.offset + length (c.bytes ++ bytes)) (omega (arith, len)) o')
ordered_longer (c ∷ cs) ys low (suc k) high bytes h o end o' = (o.0, o.1, ordered_longer cs ys (end_of_piece c) k high bytes (omega arith) o.2 end o')

total_longer : (cs : List Piece) (k : ℕ) (bytes : List ℕ) → k < length cs → total (take (suc k) (with_longer cs k bytes)) ≡ total (take (suc k) cs) + length bytes
total_longer [] k bytes h = absurd (omega arith)
total_longer (c ∷ cs) zero bytes h = let len : length (c.bytes ++ bytes) ≡ length c.bytes + length bytes = length-append c.bytes bytes in omega (arith, len)
total_longer (c ∷ cs) (suc k) bytes h = let r = total_longer cs k bytes (omega arith) in omega (arith, r)

pub ordered_spot : (joins : Bool) (cs : List Piece) (start end first after from to : ℕ) (new : List ℕ) → IsSpot cs start end first after from to → length new ≡ to - from
    → (joins ≡ true → (0 < first) × (end_of_piece (piece_at cs (first - 1)) ≡ from)) → IsOrdered 0 (with_spot joins cs first after from new)
ordered_spot false cs start end first after from to new s len joins =
    let some = s.some in
    ordered_append (take first cs) _ 0 from s.before s.before_ends (omega arith, omega (arith, len), IsOrdered-lower (drop after cs) to (from + length new) (omega (arith, len)) s.behind)
ordered_spot true cs start end zero after from to new s len joins = let j = (joins refl).0 in absurd (omega arith)
ordered_spot true cs start end (suc k) after from to new s len joins =
    let some = s.some in
    let e : suc k - 1 ≡ k = omega arith in
    let f : end_of_piece (piece_at cs k) ≡ from = rw e at (joins refl).1 in
    let i = s.in_bounds in
    let l = s.ordered in
    rw e (ordered_longer cs (drop after cs) 0 k to new (omega arith) s.before (omega (arith, f, len)) s.behind)

pub total_spot : (joins : Bool) (cs : List Piece) (first after from : ℕ) (new : List ℕ) → first ≤ after → after ≤ length cs → (joins ≡ true → (0 < first) × (end_of_piece (piece_at cs (first - 1)) ≡ from))
    → total (with_spot joins cs first after from new) + total (between cs first after) ≡ total cs + length new
total_spot joins cs first after from new ordered within join = by_joins joins join
  where
    whole : total cs ≡ total (take first cs) + (total (between cs first after) + total (drop after cs))
    whole = ap total (split cs first after ordered) ∙ total-append (take first cs) (between cs first after ++ drop after cs) ∙ ap (λ n. total (take first cs) + n) (total-append (between cs first after) (drop after cs))

    at_place : (k : ℕ) → k ≡ first → 0 < k → total (take k (with_longer cs (k - 1) new)) ≡ total (take first cs) + length new
    at_place zero is some = absurd (omega arith)
    at_place (suc k) is some = let e : suc k - 1 ≡ k = omega arith in rw e (total_longer cs k new (omega arith) ∙ ap (λ j. total (take j cs) + length new) is)

    by_joins : (b : Bool) → (b ≡ true → (0 < first) × (end_of_piece (piece_at cs (first - 1)) ≡ from)) → total (with_spot b cs first after from new) + total (between cs first after) ≡ total cs + length new
    by_joins true j =
        let a = total-append (take first (with_longer cs (first - 1) new)) (drop after cs) in
        let b = at_place first refl (j refl).0 in
        let w = whole in
        omega (arith, a, b, w)
    by_joins false j =
        let a = total-append (take first cs) (record { offset = from; bytes = new } ∷ drop after cs) in
        let w = whole in
        omega (arith, a, w)

-- A frame whose bytes were placed

placed_len : (n offset from to : ℕ) (bytes : List ℕ) → n ≡ length bytes → offset ≤ from → from < to → to ≤ offset + n → length (take (to - offset - (from - offset)) (drop (from - offset) bytes)) ≡ to - from
placed_len n offset from to bytes is low some high = simp (length-take, length-drop) (omega (arith, is))

pub placed_get : (cs new : List Piece) (joins : Bool) (start end first after from to offset q : ℕ) (bytes : List ℕ) → IsSpot cs start end first after from to → offset ≤ from → to ≤ offset + length bytes
    → (joins ≡ true → (0 < first) × (end_of_piece (piece_at cs (first - 1)) ≡ from))
    → IsPlaced cs new joins first after from (take (to - offset - (from - offset)) (drop (from - offset) bytes))
    → map.get (stored_in new) q ≡ or_else (map.get (stored_in cs) q) (cond (is_within start end q) (byte_at offset bytes q) None)
placed_get cs new joins start end first after from to offset q bytes s low high join p =
    let len = placed_len (length bytes) offset from to bytes refl low s.some high in
    ap (λ xs. map.get (stored_in xs) q) p.is
    ∙ spot_is joins cs first after from p.placed q (let b = s.in_bounds in let o = s.ordered in omega arith) join
    ∙ spot_get cs start end first after from to offset q p.placed bytes s (p.same_len ∙ len)
    (λ k at below. p.first_stay k ∙ ap (λ o. or_else (map.get (stored_in (between cs first after)) k) o) (byte_at-part offset from to k bytes low at below))

pub placed_ordered : (cs new : List Piece) (joins : Bool) (start end first after from to offset : ℕ) (bytes : List ℕ) → IsSpot cs start end first after from to → offset ≤ from → to ≤ offset + length bytes
    → (joins ≡ true → (0 < first) × (end_of_piece (piece_at cs (first - 1)) ≡ from))
    → IsPlaced cs new joins first after from (take (to - offset - (from - offset)) (drop (from - offset) bytes)) → IsOrdered 0 new
placed_ordered cs new joins start end first after from to offset bytes s low high join p =
    let len = placed_len (length bytes) offset from to bytes refl low s.some high in
    subst (IsOrdered 0) (sym p.is) (ordered_spot joins cs start end first after from to p.placed s (p.same_len ∙ len) join)

pub placed_total : (cs new : List Piece) (joins : Bool) (start end first after from to offset : ℕ) (bytes : List ℕ) → IsSpot cs start end first after from to → offset ≤ from → to ≤ offset + length bytes
    → (joins ≡ true → (0 < first) × (end_of_piece (piece_at cs (first - 1)) ≡ from))
    → IsPlaced cs new joins first after from (take (to - offset - (from - offset)) (drop (from - offset) bytes)) → total new + total (between cs first after) ≡ total cs + (to - from)
placed_total cs new joins start end first after from to offset bytes s low high join p =
    let len = placed_len (length bytes) offset from to bytes refl low s.some high in
    ap (λ xs. total xs + total (between cs first after)) p.is
    ∙ total_spot joins cs first after from p.placed s.ordered s.in_bounds join
    ∙ ap (λ n. total cs + n) (p.same_len ∙ len)

pub between_total : (cs : List Piece) (first after : ℕ) → first ≤ after → total (between cs first after) ≤ total cs
between_total cs first after ordered =
    let w = ap total (split cs first after ordered) ∙ total-append (take first cs) (between cs first after ++ drop after cs) ∙ ap (λ n. total (take first cs) + n) (total-append (between cs first after) (drop after cs)) in
    omega (arith, w)

pub placed_plain : (cs new : List Piece) (joins : Bool) (first after from : ℕ) (bytes : List ℕ) → first ≡ after → new ≡ with_spot joins cs first after from bytes → IsPlaced cs new joins first after from bytes
placed_plain cs new joins first after from bytes empty is =
    record {
      placed = bytes;
      is = is;
      same_len = refl;
      first_stay = λ q. sym (ap (λ k. or_else (map.get (stored_in (between cs first k)) q) (byte_at from bytes q)) (sym empty) ∙ nothing_over cs first q (byte_at from bytes q));
    }

pub on_ok : {T E P Q : Type 0} (r : Result T E) → (P → Q) → OnOk r P → OnOk r Q
on_ok (Ok x) f p = f p
on_ok (Err e) f p = p

pub placed_stored : (r : NumberSet) (cs new : List Piece) (joins : Bool) (n stored first after from to offset : ℕ) (bytes : List ℕ) → IsKept cs r n stored false
    → IsSpot cs (max offset n) (offset + length bytes) first after from to → (joins ≡ true → (0 < first) × (end_of_piece (piece_at cs (first - 1)) ≡ from))
    → IsPlaced cs new joins first after from (take (to - offset - (from - offset)) (drop (from - offset) bytes))
    → stored_in new ≡ store r (stored_in cs) offset bytes
placed_stored r cs new joins n stored first after from to offset bytes h s join p =
    stored_after r cs new n stored offset bytes h (λ q. placed_get cs new joins (max offset n) (offset + length bytes) first after from to offset q bytes s (let b = s.begins in omega arith) s.ends join p)

pub kept_placed : (r : NumberSet) (cs new : List Piece) (joins : Bool) (n stored held first after from to offset : ℕ) (bytes : List ℕ) → IsKept cs r n stored false → offset + length bytes ≤ MAX_VARINT
    → IsSpot cs (max offset n) (offset + length bytes) first after from to → held ≡ total (between cs first after) → (joins ≡ true → (0 < first) × (end_of_piece (piece_at cs (first - 1)) ≡ from))
    → IsPlaced cs new joins first after from (take (to - offset - (from - offset)) (drop (from - offset) bytes))
    → IsKept new (with_run r offset (length bytes)) n (stored - held + (to - from)) false
kept_placed r cs new joins n stored held first after from to offset bytes h fits s held_is join p =
    let low : offset ≤ from = let b = s.begins in omega arith in
    let t = placed_total cs new joins (max offset n) (offset + length bytes) first after from to offset bytes s low s.ends join p in
    let b = between_total cs first after s.ordered in
    let c = h.counted in
    kept_put r offset n stored (stored - held + (to - from)) bytes cs new h fits
    (placed_ordered cs new joins (max offset n) (offset + length bytes) first after from to offset bytes s low s.ends join p)
    (placed_stored r cs new joins n stored first after from to offset bytes h s join p)
    (omega (arith, t, b, c, held_is))
