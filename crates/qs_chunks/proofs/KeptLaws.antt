-- What holds of a chunk assembly's fields still holds after each call.
use Rattle.std.specs.Prelude.{◌≡◌, ℕ, ◌+◌, ◌-◌, ◌<◌, ◌≤◌, Bool, true, false, cond, List, [], ◌∷◌, length, take, None, is_some, Result, Ok, Err, OnOk, OnErr, refl}
use Rattle.std.proofs.Common.{sym, ◌∙◌, ap, arith, inl, inr, length-drop}
use Rattle.std.specs.Ordering.{nat_cmp}
use Rattle.std.specs.Cmp.{nat_cmp_total}
use Rattle.std.specs.FinMap as map
use Rattle.std.specs.FinMap.{nat_cmp-IsAntisymmetric, same_map}
use Rattle.std.specs.FinSet as set
use Rattle.std.proofs.lemmas.Bool.{both_ways, cases_lt, or_left, le-ltb, lt-ltb, le-leb, lt-leb}
use Rattle.qs_ranges.specs.Numbers.{NumberSet, MAX_VARINT}
use Rattle.qs_recv.specs.Assembled.{front, keep_from}
use Rattle.qs_recv.proofs.RingLaws.{is_in_run, with_run, contains-with_run, get-keep_from, stored_by_keep}
use Rattle.qs_chunks.specs.Chunks.{first_bytes, first_offset, without_first, total, Piece, stored_in, IsOrdered, end_of_piece, rest_of}
use Rattle.qs_chunks.proofs.ChunkLaws.{get-stored_in, get-stored_in_none, byte_of, is_some-byte_of, is_in_from, none_below, not_some, front-first, keep_from-first, keep_from-whole, IsOrdered-rest}
use Rattle.qs_chunks.proofs.SpotLaws.{stored_later}
use Rattle.qs_chunks.specs.Kept.{IsKept}

pub IsOrdered-lower : (cs : List Piece) (low low' : ℕ) → low' ≤ low → IsOrdered low cs → IsOrdered low' cs
IsOrdered-lower [] low low' h o = tt
IsOrdered-lower (c ∷ cs) low low' h o = (let l = o.0 in omega arith, o.1, o.2)

-- what is stored under the first offset of the first piece
first_stored : (c : Piece) (cs : List Piece) (q : ℕ) → c.offset ≤ q → q < end_of_piece c → map.contains_key (stored_in (c ∷ cs)) q ≡ true
first_stored c cs q low high =
    ap is_some (get-stored_in c cs q ∙ ap (λ b. cond b (byte_of c q) (map.get (stored_in cs) q)) (is_in_from q c low high)) ∙ is_some-byte_of c q (is_in_from q c low high)

-- pieces in order, with nothing below an offset, lie past it
pub IsOrdered-raise : (cs : List Piece) (low : ℕ) → IsOrdered 0 cs → ((q : ℕ) → q < low → map.get (stored_in cs) q ≡ None) → IsOrdered low cs
IsOrdered-raise [] low o none = tt
IsOrdered-raise (c ∷ cs) low o none =
    elim (cases_lt c.offset low) [
      | inl below ↦ absurd (not_some _ (none c.offset below) (first_stored c cs c.offset (omega arith) (let s = o.1 in omega arith)))
      | inr past ↦ (past, o.1, o.2)
    ]

-- no byte that wasn't there
pub kept_note : (r : NumberSet) (offset k n : ℕ) (cs : List Piece) (stored : ℕ) → IsKept cs r n stored true → IsKept cs (with_run r offset k) n stored true
kept_note r offset k n cs stored h =
    record {
      ordered = h.ordered;
      came = λ q some. contains-with_run r offset k q ∙ or_left (set.contains r q) (is_in_run q offset k) (h.came q some);
      read_came = λ q below. contains-with_run r offset k q ∙ or_left (set.contains r q) (is_in_run q offset k) (h.read_came q below);
      kept = λ off. absurd (both_ways true off refl);
      small = h.small;
      counted = h.counted;
    }

nothing_in : (q : ℕ) → map.contains_key (stored_in []) q ≡ true → ⊥
nothing_in q some = not_some _ (get-stored_in_none q) some

pub kept_none : (r : NumberSet) (n : ℕ) (discarding : Bool) → ((q : ℕ) → q < n → set.contains r q ≡ true) → (discarding ≡ false → (q : ℕ) → set.contains r q ≡ true → q < n) → IsKept [] r n 0 discarding
kept_none r n discarding read all =
    record {
      ordered = tt;
      came = λ q some. absurd (nothing_in q some);
      read_came = read;
      kept = λ on q past some. let below = all on q some in absurd (omega (arith, below));
      small = λ q some. absurd (nothing_in q some);
      counted = refl;
    }

pub nothing_stored_in : stored_in [] ≡ map.empty
unfolding stored_in
nothing_stored_in = refl

-- a read

pub keep_all : (cs : List Piece) (n : ℕ) → IsOrdered n cs → keep_from (stored_in cs) n ≡ stored_in cs
keep_all cs n o =
    same_map nat_cmp_total nat_cmp-IsAntisymmetric _ _ (λ q.
    get-keep_from (stored_in cs) n q
    ∙ elim (cases_lt q n) [
      | inl below ↦ ap (λ b. cond b (map.get (stored_in cs) q) None) (lt-leb n q below) ∙ sym (none_below cs n q o below)
      | inr past ↦ ap (λ b. cond b (map.get (stored_in cs) q) None) (le-leb n q past)
    ])

pub first_some : (cs : List Piece) (n : ℕ) → 0 < length cs → IsOrdered n cs → 0 < length (first_bytes cs)
first_some [] n h o = absurd (omega arith)
first_some (c ∷ cs) n h o = o.1

pub not_next : (cs : List Piece) (n : ℕ) → IsOrdered n cs → (first_offset cs ≡ n → ⊥) → map.get (stored_in cs) n ≡ None
not_next [] n o apart = get-stored_in_none n
not_next (c ∷ cs) n o apart = none_below (c ∷ cs) c.offset n (omega arith, o.1, o.2) (let l = o.0 in omega arith)

pub none_next : (cs : List Piece) (n : ℕ) → IsOrdered n cs → ((0 < length cs) × (first_offset cs ≡ n) → ⊥) → map.get (stored_in cs) n ≡ None
none_next [] n o none = get-stored_in_none n
none_next (c ∷ cs) n o none = not_next (c ∷ cs) n o (λ e. none (omega arith, e))

pub front_taken : (cs : List Piece) (n k : ℕ) → 0 < length cs → first_offset cs ≡ n → k ≤ length (first_bytes cs) → front (stored_in cs) n k ≡ take k (first_bytes cs)
front_taken [] n k h at fits = absurd (omega arith)
front_taken (c ∷ cs) n k h at fits = ap (λ i. front (stored_in (c ∷ cs)) i k) (sym at) ∙ front-first c cs k fits

pub keep_taken : (cs : List Piece) (n k : ℕ) → IsOrdered n cs → 0 < length cs → first_offset cs ≡ n → k ≤ length (first_bytes cs) → keep_from (stored_in cs) (n + k) ≡ stored_in (without_first cs k)
keep_taken [] n k o h at fits = absurd (omega arith)
keep_taken (c ∷ cs) n k o h at fits =
    elim (cases_lt k (length c.bytes)) [
      | inl part ↦ rw (lt-ltb k (length c.bytes) part) (ap (λ i. keep_from (stored_in (c ∷ cs)) (i + k)) (sym at) ∙ keep_from-first c cs n k o part)
      | inr whole ↦
          let e : n + k ≡ end_of_piece c = omega arith in
          rw (le-ltb k (length c.bytes) whole) (ap (keep_from (stored_in (c ∷ cs))) e ∙ keep_from-whole c cs n o)
    ]

ordered_taken : (cs : List Piece) (n k : ℕ) → IsOrdered n cs → 0 < length cs → first_offset cs ≡ n → k ≤ length (first_bytes cs) → IsOrdered (n + k) (without_first cs k)
ordered_taken [] n k o h at fits = absurd (omega arith)
ordered_taken (c ∷ cs) n k o h at fits =
    elim (cases_lt k (length c.bytes)) [
      | inl part ↦ rw (lt-ltb k (length c.bytes) part) (IsOrdered-lower (rest_of c k ∷ cs) (c.offset + k) (n + k) (omega arith) (IsOrdered-rest c cs n k o part))
      | inr whole ↦ rw (le-ltb k (length c.bytes) whole) (IsOrdered-lower cs (end_of_piece c) (n + k) (omega arith) o.2)
    ]

-- each offset of the first piece is stored
stored_first : (cs : List Piece) (n q : ℕ) → 0 < length cs → first_offset cs ≡ n → n ≤ q → q < n + length (first_bytes cs) → map.contains_key (stored_in cs) q ≡ true
stored_first [] n q h at low high = absurd (omega arith)
stored_first (c ∷ cs) n q h at low high = first_stored c cs q (omega arith) (omega arith)

stored_kept : (m : map.FinMap nat_cmp ℕ) (at q : ℕ) → at ≤ q → map.contains_key m q ≡ true → map.contains_key (keep_from m at) q ≡ true
stored_kept m at q past some = ap is_some (get-keep_from m at q ∙ ap (λ b. cond b (map.get m q) None) (le-leb at q past)) ∙ some

total_taken : (cs : List Piece) (k : ℕ) → k ≤ length (first_bytes cs) → total cs - k ≡ total (without_first cs k)
total_taken [] k h = omega arith
total_taken (c ∷ cs) k h =
    elim (cases_lt k (length c.bytes)) [
      | inl part ↦ rw (lt-ltb k (length c.bytes) part) (let len = length-drop k c.bytes in omega (arith, len))
      | inr whole ↦ rw (le-ltb k (length c.bytes) whole) (omega arith)
    ]

pub kept_taken : (r : NumberSet) (cs : List Piece) (n k stored : ℕ) (discarding : Bool) → IsKept cs r n stored discarding → 0 < length cs → first_offset cs ≡ n → k ≤ length (first_bytes cs)
    → IsKept (without_first cs k) r (n + k) (stored - k) discarding
kept_taken r cs n k stored discarding h some at fits =
    let kept = keep_taken cs n k h.ordered some at fits in
    record {
      ordered = ordered_taken cs n k h.ordered some at fits;
      came = λ q is. h.came q (stored_by_keep (stored_in cs) (n + k) q (ap (λ m. map.contains_key m q) kept ∙ is));
      read_came = λ q below. elim (cases_lt q n) [
        | inl old ↦ h.read_came q old
        | inr new ↦ h.came q (stored_first cs n q some at new (omega arith))
      ];
      kept = λ on q past came. sym (ap (λ m. map.contains_key m q) kept) ∙ stored_kept (stored_in cs) (n + k) q past (h.kept on q (omega arith) came);
      small = λ q is. h.small q (stored_by_keep (stored_in cs) (n + k) q (ap (λ m. map.contains_key m q) kept ∙ is));
      counted = ap (λ j. j - k) h.counted ∙ total_taken cs k fits;
    }

pub taken_small : (r : NumberSet) (cs : List Piece) (n k stored : ℕ) (discarding : Bool) → IsKept cs r n stored discarding → 0 < length cs → first_offset cs ≡ n → 0 < k → k ≤ length (first_bytes cs) → n + k ≤ MAX_VARINT
taken_small r cs n k stored discarding h some at pos fits =
    let s : n + k - 1 < MAX_VARINT = h.small (n + k - 1) (stored_first cs n (n + k - 1) some at (omega arith) (omega arith)) in omega arith

total_small : (cs : List Piece) (low : ℕ) → IsOrdered low cs → ((q : ℕ) → map.contains_key (stored_in cs) q ≡ true → q < MAX_VARINT) → low ≤ MAX_VARINT → low + total cs ≤ MAX_VARINT
total_small [] low o small h = omega arith
total_small (c ∷ cs) low o small h =
    let some = o.1 in
    let l = o.0 in
    let end : end_of_piece c - 1 < MAX_VARINT = small (end_of_piece c - 1) (first_stored c cs (end_of_piece c - 1) (omega arith) (omega arith)) in
    let rest = total_small cs (end_of_piece c) o.2 (λ q is. small q (stored_later c cs q is)) (omega arith) in
    omega (arith, rest)

pub stored_small : (r : NumberSet) (cs : List Piece) (n stored : ℕ) (discarding : Bool) → IsKept cs r n stored discarding → stored ≤ MAX_VARINT
stored_small r cs n stored discarding h = let s = total_small cs 0 (IsOrdered-lower cs n 0 (omega arith) h.ordered) h.small (omega arith) in omega (arith, s, h.counted)

-- the set after an insertion that may have found no memory
pub kept_either : {T E : Type 0} (r : Result T E) (old new : NumberSet) (offset k n : ℕ) (cs : List Piece) (stored : ℕ)
    → OnOk r (new ≡ with_run old offset k) → OnErr r (new ≡ old) → IsKept cs old n stored true → IsKept cs new n stored true
kept_either (Ok x) old new offset k n cs stored ok err h = rw ok (kept_note old offset k n cs stored h)
kept_either (Err e) old new offset k n cs stored ok err h = rw err h
