-- Where the bytes of a frame go among the chunks, and what the chunks hold then.
use Rattle.std.specs.Prelude.{◌≡◌, ℕ, ◌+◌, ◌-◌, ◌<◌, ◌≤◌, zero, suc, true, false, cond, max, min, List, [], ◌∷◌, ◌++◌, length, take, drop, slice_index_or, Option, None, Some, is_some, refl}
use Rattle.std.proofs.Common.{sym, ◌∙◌, ap, subst, arith, inl, inr, length-drop, add-one}
use Rattle.std.specs.List.Sorted.{IsNonDecreasingBy}
use Rattle.std.proofs.lemmas.List.{drop-take, drop_all, take_all}
use Rattle.std.proofs.lemmas.List.Sorted.{IsNonDecreasingBy-from_all_adjacent}
use Rattle.std.specs.FinMap as map
use Rattle.std.proofs.lemmas.Bool.{both_ways, cases_lt, cases_Bool, and_parts, ltb-true}
use Rattle.qs_chunks.specs.Chunks.{Piece, IsOrdered, IsSpot, IsStored, between, end_of_piece, or_else, piece_at, pieces_end, stored_in, total}
use Rattle.qs_recv.proofs.RingLaws.{append_nil}
use Rattle.qs_chunks.proofs.ChunkLaws.{get-stored_in, get-stored_in_none, is_in, byte_of, is_some-byte_of, is_in_from, none_below, low_end}

-- Lists of pieces, cut at a place

pub ordered_take : (cs : List Piece) (low k : ℕ) → IsOrdered low cs → IsOrdered low (take k cs)
ordered_take cs low zero o = tt
ordered_take [] low (suc k) o = tt
ordered_take (c ∷ cs) low (suc k) o = (o.0, o.1, ordered_take cs (end_of_piece c) k o.2)

pub ordered_drop : (cs : List Piece) (low k : ℕ) → IsOrdered low cs → IsOrdered (pieces_end low (take k cs)) (drop k cs)
ordered_drop cs low zero o = o
ordered_drop [] low (suc k) o = tt
ordered_drop (c ∷ cs) low (suc k) o = ordered_drop cs (end_of_piece c) k o.2

-- the piece before a place is the last of those before it
pub end_at : (cs : List Piece) (low k : ℕ) → k < length cs → pieces_end low (take (suc k) cs) ≡ end_of_piece (piece_at cs k)
end_at [] low k h = absurd (omega arith)
end_at (c ∷ cs) low zero h = refl
end_at (c ∷ cs) low (suc k) h = end_at cs (end_of_piece c) k (omega arith)

pub end_taken : (cs : List Piece) (low k : ℕ) → 0 < k → k ≤ length cs → pieces_end low (take k cs) ≡ end_of_piece (piece_at cs (k - 1))
end_taken cs low zero some h = absurd (omega arith)
end_taken cs low (suc k) some h = let e : suc k - 1 ≡ k = omega arith in end_at cs low k (omega arith) ∙ ap (λ j. end_of_piece (piece_at cs j)) (sym e)

-- pieces that begin no earlier
pub ordered_from : (cs : List Piece) (low from k : ℕ) → IsOrdered low (drop k cs) → (k < length cs → from ≤ (piece_at cs k).offset) → IsOrdered from (drop k cs)
ordered_from [] low from zero o at = tt
ordered_from (c ∷ cs) low from zero o at = (at (omega arith), o.1, o.2)
ordered_from [] low from (suc k) o at = tt
ordered_from (c ∷ cs) low from (suc k) o at = ordered_from cs low from k o (λ h. at (omega arith))

pub stored_first : (c : Piece) (cs : List Piece) → IsStored (c ∷ cs) c.offset (end_of_piece c)
stored_first c cs q low high =
    ap is_some (get-stored_in c cs q ∙ ap (λ b. cond b (byte_of c q) (map.get (stored_in cs) q)) (is_in_from q c low high)) ∙ is_some-byte_of c q (is_in_from q c low high)

pub stored_later : (c : Piece) (cs : List Piece) (q : ℕ) → map.contains_key (stored_in cs) q ≡ true → map.contains_key (stored_in (c ∷ cs)) q ≡ true
stored_later c cs q is =
    ap is_some (get-stored_in c cs q)
    ∙ elim (cases_Bool (is_in q c)) [
      | inl here ↦ ap (λ b. is_some (cond b (byte_of c q) (map.get (stored_in cs) q))) here ∙ is_some-byte_of c q here
      | inr out ↦ ap (λ b. is_some (cond b (byte_of c q) (map.get (stored_in cs) q))) out ∙ is
    ]

-- the offsets of the piece at a place are stored, by the pieces up to it and by those from it on
pub stored_taken : (cs : List Piece) (k : ℕ) → k < length cs → IsStored (take (suc k) cs) (piece_at cs k).offset (end_of_piece (piece_at cs k))
stored_taken [] k h q low high = absurd (omega arith)
stored_taken (c ∷ cs) zero h q low high = stored_first c [] q low high
stored_taken (c ∷ cs) (suc k) h q low high = stored_later c (take (suc k) cs) q (stored_taken cs k (omega arith) q low high)

pub stored_dropped : (cs : List Piece) (k : ℕ) → k < length cs → IsStored (drop k cs) (piece_at cs k).offset (end_of_piece (piece_at cs k))
stored_dropped [] k h q low high = absurd (omega arith)
stored_dropped (c ∷ cs) zero h q low high = stored_first c cs q low high
stored_dropped (c ∷ cs) (suc k) h q low high = stored_dropped cs k (omega arith) q low high

-- a part is stored by the whole
pub stored_by_take : (cs : List Piece) (k q : ℕ) → map.contains_key (stored_in (take k cs)) q ≡ true → map.contains_key (stored_in cs) q ≡ true
stored_by_take cs zero q is = absurd (both_ways _ (ap is_some (get-stored_in_none q)) is)
stored_by_take [] (suc k) q is = is
stored_by_take (c ∷ cs) (suc k) q is =
    elim (cases_Bool (is_in q c)) [
      | inl here ↦ ap is_some (get-stored_in c cs q) ∙ ap (λ b. is_some (cond b (byte_of c q) (map.get (stored_in cs) q))) here ∙ is_some-byte_of c q here
      | inr out ↦
          stored_later c cs q (stored_by_take cs k q (sym (ap is_some (get-stored_in c (take k cs) q ∙ ap (λ b. cond b (byte_of c q) (map.get (stored_in (take k cs)) q)) out)) ∙ is))
    ]

pub stored_by_drop : (cs : List Piece) (k q : ℕ) → map.contains_key (stored_in (drop k cs)) q ≡ true → map.contains_key (stored_in cs) q ≡ true
stored_by_drop cs zero q is = is
stored_by_drop [] (suc k) q is = is
stored_by_drop (c ∷ cs) (suc k) q is = stored_later c cs q (stored_by_drop cs k q is)

-- The spot

-- a piece ends no later than the next begins
pub end_before_next : (cs : List Piece) (low k : ℕ) → IsOrdered low cs → suc k < length cs → end_of_piece (piece_at cs k) ≤ (piece_at cs (suc k)).offset
end_before_next [] low k o h = absurd (omega arith)
end_before_next (c ∷ []) low k o h = absurd (omega arith)
end_before_next (c ∷ d ∷ cs) low zero o h = o.2.0
end_before_next (c ∷ d ∷ cs) low (suc k) o h = end_before_next (d ∷ cs) (end_of_piece c) k o.2 (omega arith)

pub end_before_later : (cs : List Piece) (low k : ℕ) → IsOrdered low cs → 0 < k → k < length cs → end_of_piece (piece_at cs (k - 1)) ≤ (piece_at cs k).offset
end_before_later cs low zero o some h = absurd (omega arith)
end_before_later cs low (suc k) o some h = let e : suc k - 1 ≡ k = omega arith in rw e (end_before_next cs low k o h)

-- the bytes of the pieces between two places lie before the next piece
total_within : (cs : List Piece) (low : ℕ) → IsOrdered low cs → low + total cs ≤ pieces_end low cs
total_within [] low o = omega arith
total_within (c ∷ cs) low o = let r = total_within cs (end_of_piece c) o.2 in let l = o.0 in omega (arith, r, l)

-- the pieces between two places, one by one

piece_at-drop : (cs : List Piece) (k n : ℕ) → piece_at (drop k cs) n ≡ piece_at cs (k + n)
piece_at-drop cs zero n = let e : n ≡ 0 + n = omega arith in ap (piece_at cs) e
piece_at-drop [] (suc k) n = refl
piece_at-drop (c ∷ cs) (suc k) n = let e : suc (k + n) ≡ suc k + n = omega arith in piece_at-drop cs k n ∙ ap (piece_at (c ∷ cs)) e

total_taken : (cs : List Piece) (n : ℕ) → n < length cs → total (take (suc n) cs) ≡ total (take n cs) + length (piece_at cs n).bytes
total_taken [] n h = absurd (omega arith)
total_taken (c ∷ cs) zero h = omega arith
total_taken (c ∷ cs) (suc n) h = let r = total_taken cs n (omega arith) in omega (arith, r)

total_before : (cs : List Piece) (low n : ℕ) → IsOrdered low cs → n < length cs → low + total (take n cs) ≤ (piece_at cs n).offset
total_before [] low n o h = absurd (omega arith)
total_before (c ∷ cs) low zero o h = let l = o.0 in omega arith
total_before (c ∷ cs) low (suc n) o h = let r = total_before cs (end_of_piece c) n o.2 (omega arith) in let l = o.0 in omega (arith, r, l)

pub total-more : (cs : List Piece) (first after : ℕ) → first ≤ after → after < length cs → total (between cs first (after + 1)) ≡ total (between cs first after) + length (piece_at cs after).bytes
total-more cs first after low high =
    let e : after + 1 - first ≡ suc (after - first) = omega arith in
    let f : first + (after - first) ≡ after = omega arith in
    let len = length-drop first cs in
    ap (λ n. total (take n (drop first cs))) e
    ∙ total_taken (drop first cs) (after - first) (omega (arith, len))
    ∙ ap (λ c. total (between cs first after) + length c.bytes) (piece_at-drop cs first (after - first) ∙ ap (piece_at cs) f)

pub total_between : (cs : List Piece) (first after : ℕ) → IsOrdered 0 cs → first ≤ after → after < length cs → total (between cs first after) ≤ (piece_at cs after).offset
total_between cs first after o low high =
    let f : first + (after - first) ≡ after = omega arith in
    let len = length-drop first cs in
    let b = total_before (drop first cs) (pieces_end 0 (take first cs)) (after - first) (ordered_drop cs 0 first o) (omega (arith, len)) in
    let at : (piece_at (drop first cs) (after - first)).offset ≡ (piece_at cs after).offset = ap (λ c. c.offset) (piece_at-drop cs first (after - first) ∙ ap (piece_at cs) f) in
    omega (arith, b, at)

-- the first of the pieces from a place on
pub drop_first : (cs : List Piece) (k : ℕ) → k < length cs → drop k cs ≡ piece_at cs k ∷ drop (suc k) cs
drop_first [] k h = absurd (omega arith)
drop_first (c ∷ cs) zero h = refl
drop_first (c ∷ cs) (suc k) h = drop_first cs k (omega arith)

pub between_first : (cs : List Piece) (place after : ℕ) → place < after → after ≤ length cs → between cs place after ≡ piece_at cs place ∷ between cs (place + 1) after
between_first cs place after low high =
    let e : after - place ≡ suc (after - (place + 1)) = omega arith in
    let s : suc place ≡ place + 1 = omega arith in
    ap (λ n. take n (drop place cs)) e
    ∙ ap (λ xs. take (suc (after - (place + 1))) xs) (drop_first cs place (omega arith))
    ∙ ap (λ k. piece_at cs place ∷ take (after - (place + 1)) (drop k cs)) s

pub between_none : (cs : List Piece) (place : ℕ) → between cs place place ≡ []
between_none cs place = let e : place - place ≡ 0 = omega arith in ap (λ n. take n (drop place cs)) e

-- Bytes put in their places

or_else-some : (a b : Option ℕ) → is_some a ≡ true → or_else a b ≡ a
or_else-some None b h = absurd (both_ways false refl h)
or_else-some (Some x) b h = refl

-- a piece's bytes over those of the bytes that come
pub patch_one : (c : Piece) (rest : List Piece) (q : ℕ) (new old : Option ℕ) → IsOrdered (end_of_piece c) rest → new ≡ cond (is_in q c) (byte_of c q) old
    → or_else (map.get (stored_in rest) q) new ≡ or_else (map.get (stored_in (c ∷ rest)) q) old
patch_one c rest q new old o is =
    elim (cases_Bool (is_in q c)) [
      | inl here ↦
          let none : map.get (stored_in rest) q ≡ None = none_below rest (end_of_piece c) q o (let p = and_parts _ _ here in ltb-true q (end_of_piece c) p.1) in
          ap (λ o'. or_else o' new) none ∙ is ∙ ap (λ b. cond b (byte_of c q) old) here
          ∙ sym (ap (λ o'. or_else o' old) (get-stored_in c rest q ∙ ap (λ b. cond b (byte_of c q) (map.get (stored_in rest) q)) here) ∙ or_else-some (byte_of c q) old (is_some-byte_of c q here))
      | inr out ↦
          ap (λ n. or_else (map.get (stored_in rest) q) n) (is ∙ ap (λ b. cond b (byte_of c q) old) out)
          ∙ sym (ap (λ o'. or_else o' old) (get-stored_in c rest q ∙ ap (λ b. cond b (byte_of c q) (map.get (stored_in rest) q)) out))
    ]

-- the offsets of ordered pieces rise
rises : (cs : List Piece) (low k : ℕ) (d : Piece) → IsOrdered low cs → suc k < length cs → (slice_index_or cs k d).offset ≤ (slice_index_or cs (suc k) d).offset
rises [] low k d o h = absurd (omega arith)
rises (c ∷ []) low k d o h = absurd (omega arith)
rises (c ∷ e ∷ cs) low zero d o h = let n = o.2.0 in omega arith
rises (c ∷ e ∷ cs) low (suc k) d o h = rises (e ∷ cs) (end_of_piece c) k d o.2 (omega arith)

pub offsets_rise : (cs : List Piece) (low : ℕ) → IsOrdered low cs → IsNonDecreasingBy (λ p. p.offset) cs
offsets_rise cs low o = IsNonDecreasingBy-from_all_adjacent (λ (p : Piece). p.offset) cs (λ k d lt. rw (add-one k) (rises cs low k d o (omega arith)))

-- the last bytes taken away behind those that were taken away in front
pub drop-shorter : (xs : List ℕ) (start count n : ℕ) → n ≡ length xs → start ≤ length xs → count ≤ length (drop start xs) → drop start (take (n - count) xs) ≡ take (length (drop start xs) - count) (drop start xs)
drop-shorter xs start count n is within some =
    let len = length-drop start xs in
    let e : n - count ≡ start + (length (drop start xs) - count) = omega (arith, len) in
    ap (λ k. drop start (take k xs)) e ∙ drop-take start (length (drop start xs) - count) xs

ends_lower : (cs : List Piece) (low high : ℕ) → low ≤ high → pieces_end low cs ≤ pieces_end high cs
ends_lower [] low high h = h
ends_lower (c ∷ cs) low high h = omega arith

ordered_lower : (cs : List Piece) (low high : ℕ) → low ≤ high → IsOrdered high cs → IsOrdered low cs
ordered_lower [] low high h o = tt
ordered_lower (c ∷ cs) low high h o = (let l = o.0 in omega arith, o.1, o.2)

-- the first of the pieces between lies among the bytes that come, and so do the rest
pub first_within : (cs : List Piece) (from place after n : ℕ) → place < after → after ≤ length cs → IsOrdered from (between cs place after) → pieces_end from (between cs place after) ≤ n
    → (from ≤ (piece_at cs place).offset) × (end_of_piece (piece_at cs place) ≤ n)
first_within cs from place after n low high o ends =
    let is = between_first cs place after low high in
    let o' : IsOrdered from (piece_at cs place ∷ between cs (place + 1) after) = subst (IsOrdered from) is o in
    let e' : pieces_end from (piece_at cs place ∷ between cs (place + 1) after) ≤ n = subst (λ xs. pieces_end from xs ≤ n) is ends in
    let m = low_end (between cs (place + 1) after) (end_of_piece (piece_at cs place)) o'.2 in
    (o'.0, omega arith)

pub rest_ordered : (cs : List Piece) (from place after : ℕ) → place < after → after ≤ length cs → IsOrdered from (between cs place after)
    → IsOrdered (end_of_piece (piece_at cs place)) (between cs (place + 1) after)
rest_ordered cs from place after low high o = (subst (IsOrdered from) (between_first cs place after low high) o).2

pub rest_within : (cs : List Piece) (from place after n : ℕ) → place < after → after ≤ length cs → IsOrdered from (between cs place after) → pieces_end from (between cs place after) ≤ n
    → IsOrdered from (between cs (place + 1) after) × (pieces_end from (between cs (place + 1) after) ≤ n)
rest_within cs from place after n low high o ends =
    let is = between_first cs place after low high in
    let o' : IsOrdered from (piece_at cs place ∷ between cs (place + 1) after) = subst (IsOrdered from) is o in
    let e' : pieces_end from (piece_at cs place ∷ between cs (place + 1) after) ≤ n = subst (λ xs. pieces_end from xs ≤ n) is ends in
    let l = o'.0 in
    let m = ends_lower (between cs (place + 1) after) from (end_of_piece (piece_at cs place)) (omega arith) in
    (ordered_lower (between cs (place + 1) after) from (end_of_piece (piece_at cs place)) (omega arith) o'.2, omega arith)

pub nothing_over : (cs : List Piece) (place q : ℕ) (o : Option ℕ) → or_else (map.get (stored_in (between cs place place)) q) o ≡ o
nothing_over cs place q o = ap (λ xs. or_else (map.get (stored_in xs) q) o) (between_none cs place) ∙ ap (λ o'. or_else o' o) (get-stored_in_none q)

-- a vector whose whole slice was written
pub vec_written : (n : ℕ) (old new : List ℕ) → n ≡ length old → length new ≡ length old → take n (new ++ drop (length new) old) ≡ new
vec_written n old new a b =
    let e : drop (length new) old ≡ [] = drop_all (length new) old (omega arith) in
    ap (λ xs. take n (new ++ xs)) e ∙ ap (take n) (append_nil new) ∙ take_all n new (omega arith)

-- what a search found

left_is : (cs : List Piece) (first left : ℕ) → first ≤ length cs → (first ≡ 0 → left ≡ 0) → (0 < first → left ≡ end_of_piece (piece_at cs (first - 1))) → left ≡ pieces_end 0 (take first cs)
left_is cs zero left within none end = none refl
left_is cs (suc k) left within none end = end (omega arith) ∙ sym (end_taken cs 0 (suc k) (omega arith) within)

left_before : (cs : List Piece) (first left : ℕ) → IsOrdered 0 cs → (first ≡ 0 → left ≡ 0) → (0 < first → left ≡ end_of_piece (piece_at cs (first - 1))) → first < length cs → left ≤ (piece_at cs first).offset
left_before cs zero left o none end h = let z = none refl in omega arith
left_before cs (suc k) left o none end h = let e = end (omega arith) in let b = end_before_later cs 0 (suc k) o (omega arith) h in omega (arith, e, b)

pub before_stored : (cs : List Piece) (start first left q : ℕ) → first ≤ length cs → (0 < first → (piece_at cs (first - 1)).offset ≤ start)
    → (first ≡ 0 → left ≡ 0) → (0 < first → left ≡ end_of_piece (piece_at cs (first - 1))) → start ≤ q → q < left → map.contains_key (stored_in (take first cs)) q ≡ true
before_stored cs start zero left q within before none end low high = let z = none refl in absurd (omega arith)
before_stored cs start (suc k) left q within before none end low high =
    let e : suc k - 1 ≡ k = omega arith in
    let b : (piece_at cs k).offset ≤ start = rw e at (before (omega arith)) in
    let l : left ≡ end_of_piece (piece_at cs k) = rw e at (end (omega arith)) in
    stored_taken cs k (omega arith) q (omega (arith, b)) (omega (arith, l))

pub behind_stored : (cs : List Piece) (end after next q : ℕ) → (after < length cs → end < end_of_piece (piece_at cs after))
    → (length cs ≤ after → end ≤ next) → (after < length cs → next ≡ (piece_at cs after).offset) → next ≤ q → q < end → map.contains_key (stored_in (drop after cs)) q ≡ true
behind_stored cs end after next q more none begin low high =
    elim (cases_lt after (length cs)) [
      | inl h ↦ let b = begin h in let m = more h in stored_dropped cs after h q (omega (arith, b)) (omega (arith, m))
      | inr h ↦ let n = none h in absurd (omega (arith, n))
    ]

inner_end : (cs : List Piece) (from first after : ℕ) → first < after → after ≤ length cs → pieces_end from (between cs first after) ≡ end_of_piece (piece_at cs (after - 1))
inner_end cs from first after some within =
    let len = length-drop first cs in
    let e : first + (after - first - 1) ≡ after - 1 = omega arith in
    end_taken (drop first cs) from (after - first) (omega arith) (omega (arith, len))
    ∙ ap end_of_piece (piece_at-drop cs first (after - first - 1) ∙ ap (piece_at cs) e)

inner_within : (cs : List Piece) (from first after to end next : ℕ) → IsOrdered 0 cs → first ≤ after → after ≤ length cs → from < to → to ≡ min next end
    → (first < after → end_of_piece (piece_at cs (after - 1)) ≤ end) → (length cs ≤ after → end ≤ next) → (after < length cs → next ≡ (piece_at cs after).offset)
    → pieces_end from (between cs first after) ≤ to
inner_within cs from first after to end next o ordered within some to_is last none begin =
    elim (cases_lt first after) [
      | inl more ↦
          let e = inner_end cs from first after more within in
          let l = last more in
          elim (cases_lt after (length cs)) [
            | inl h ↦ let b = begin h in let n = end_before_later cs 0 after o (omega arith) h in omega (arith, e, l, b, n)
            | inr h ↦ let n = none h in omega (arith, e, l, n)
          ]
      | inr all ↦
          let e : after ≡ first = omega arith in
          let n : pieces_end from (between cs first after) ≡ from = ap (λ k. pieces_end from (between cs first k)) e ∙ ap (pieces_end from) (between_none cs first) in
          omega (arith, n)
    ]

pub spot_found : (cs : List Piece) (start end first after from to left next : ℕ) → IsOrdered 0 cs → first ≤ length cs → first ≤ after → after ≤ length cs
    → (0 < first → (piece_at cs (first - 1)).offset ≤ start) → (first < length cs → start < (piece_at cs first).offset)
    → (first < after → end_of_piece (piece_at cs (after - 1)) ≤ end) → (after < length cs → end < end_of_piece (piece_at cs after))
    → (first ≡ 0 → left ≡ 0) → (0 < first → left ≡ end_of_piece (piece_at cs (first - 1)))
    → (length cs ≤ after → end ≤ next) → (after < length cs → next ≡ (piece_at cs after).offset)
    → from ≡ max start left → to ≡ min next end → from < to
    → IsSpot cs start end first after from to
spot_found cs start end first after from to left next o first_in ordered after_in before behind last more left_none left_end next_none next_begin from_is to_is some =
    let l = left_is cs first left first_in left_none left_end in
    let after_first : IsOrdered from (drop first cs) =
    ordered_from cs (pieces_end 0 (take first cs)) from first (ordered_drop cs 0 first o) (λ h. let b = behind h in let m = left_before cs first left o left_none left_end h in omega (arith, b, m)) in
    record {
      begins = omega (arith, from_is);
      some = some;
      ends = omega (arith, to_is);
      ordered = ordered;
      in_bounds = after_in;
      before = ordered_take cs 0 first o;
      before_ends = omega (arith, l, from_is);
      inner = ordered_take (drop first cs) from (after - first) after_first;
      inner_ends = inner_within cs from first after to end next o ordered after_in some to_is last next_none next_begin;
      behind = ordered_from cs (pieces_end 0 (take after cs)) to after (ordered_drop cs 0 after o) (λ h. let b = next_begin h in omega (arith, b, to_is));
      stored_before = λ q low high. before_stored cs start first left q first_in before left_none left_end low (omega (arith, from_is));
      stored_behind = λ q low high. behind_stored cs end after next q more next_none next_begin (omega (arith, to_is)) high;
    }

-- pieces with as many bytes as a range has offsets leave none of them out
full_stored : (cs : List Piece) (low to : ℕ) → IsOrdered low cs → pieces_end low cs ≤ to → to - low ≤ total cs → IsStored cs low to
full_stored [] low to o ends full q at below = absurd (omega arith)
full_stored (c ∷ cs) low to o ends full q at below =
    let r = total_within cs (end_of_piece c) o.2 in
    let l = o.0 in
    elim (cases_lt q (end_of_piece c)) [
      | inl here ↦ stored_first c cs q (omega (arith, r)) here
      | inr past ↦ stored_later c cs q (full_stored cs (end_of_piece c) to o.2 ends (omega (arith, r)) q past below)
    ]

pub all_within : (cs : List Piece) (start end first after from to : ℕ) → IsSpot cs start end first after from to → to - from ≤ total (between cs first after) → IsStored cs start end
all_within cs start end first after from to s full q low high =
    elim (cases_lt q from) [
      | inl early ↦ stored_by_take cs first q (s.stored_before q low early)
      | inr at ↦ elim (cases_lt q to) [
        | inl below ↦ stored_by_drop cs first q (stored_by_take (drop first cs) (after - first) q (full_stored (between cs first after) from to s.inner s.inner_ends full q at below))
        | inr late ↦ stored_by_drop cs after q (s.stored_behind q late high)
      ]
    ]

pub all_before : (cs : List Piece) (start end first left : ℕ) → first ≤ length cs → (0 < first → (piece_at cs (first - 1)).offset ≤ start)
    → (first ≡ 0 → left ≡ 0) → (0 < first → left ≡ end_of_piece (piece_at cs (first - 1))) → end ≤ max start left → IsStored cs start end
all_before cs start end first left first_in before left_none left_end all q low high =
    stored_by_take cs first q (before_stored cs start first left q first_in before left_none left_end low (omega arith))

pub all_around : (cs : List Piece) (start end first after left next : ℕ) → first ≤ length cs → (0 < first → (piece_at cs (first - 1)).offset ≤ start)
    → (first ≡ 0 → left ≡ 0) → (0 < first → left ≡ end_of_piece (piece_at cs (first - 1)))
    → (after < length cs → end < end_of_piece (piece_at cs after)) → (length cs ≤ after → end ≤ next) → (after < length cs → next ≡ (piece_at cs after).offset)
    → min next end ≤ max start left → max start left < end → IsStored cs start end
all_around cs start end first after left next first_in before left_none left_end more next_none next_begin met some q low high =
    elim (cases_lt q left) [
      | inl early ↦ stored_by_take cs first q (before_stored cs start first left q first_in before left_none left_end low early)
      | inr late ↦ stored_by_drop cs after q (behind_stored cs end after next q more next_none next_begin (omega arith) high)
    ]
