-- What holds of an assembly that steps are played on still holds after each step; and a read gives all that is next, though its buffer has
-- no more room than bytes are stored.
use Rattle.std.specs.Prelude.{◌≡◌, ℕ, ◌+◌, ◌-◌, ◌<◌, ◌≤◌, zero, suc, Bool, true, false, cond, nat_eq, min, List, [], ◌∷◌, ◌++◌, length, map, take, drop, Option, None, Some, is_some, Result, Ok, Err, OnOk, OnErr, refl}
use Rattle.std.proofs.Common.{sym, ◌∙◌, ap, arith, inl, inr, length-append, length-drop}
use Rattle.std.specs.Ordering.{nat_cmp}
use Rattle.std.specs.Cmp.{nat_cmp_total, unsigned_tied}
use Rattle.std.specs.FinMap as maps
use Rattle.std.specs.FinMap.{nat_cmp-IsAntisymmetric, same_map}
use Rattle.std.proofs.lemmas.Bool.{both_ways, cases_lt, cases_eq, ne_eqb, eq-eqb}
use Rattle.std.proofs.lemmas.Bool.Decides.{nat_tests}
use Rattle.std.proofs.lemmas.List.{append-nil, take_at, take_all, drop_all}
use Rattle.qs_ranges.specs.Numbers.{MAX_VARINT}
use Rattle.qs_recv.specs.Assembled.{Assembled, nothing_yet, put, take_front, front, front_from, front_of, keep_from, discard, store}
use Rattle.qs_chunks.specs.Replay.{sight, shown_by, replayed, IsPlayed}
use Rattle.qs_chunks.specs.declared.replay.Step.{Step}
use Rattle.qs_chunks.specs.declared.replay.Shown.{Shown}
use Rattle.qs_recv.proofs.RingLaws.{is_in_run, get-insert_nat, stored_by_put, stored_by_keep, front_stored}
use Rattle.qs_recv.specs.Lane.{MAX_WINDOW}

-- Each step keeps the counts true

pub played_new : (window : ℕ) → window ≤ MAX_WINDOW → IsPlayed (nothing_yet window) window 0 false
played_new window small =
    record {
      window_is = refl;
      count_is = refl;
      discarding_is = refl;
      small_window = small;
      small_count = omega arith;
      in_range = λ q some. absurd (both_ways _ (ap is_some (maps.get-empty nat_cmp q)) some);
    }

in_run_below : (q offset n : ℕ) → offset + n ≤ MAX_VARINT → is_in_run q offset n ≡ true → q < MAX_VARINT
in_run_below q offset n fits h = grind (arith, nat_tests)

put_in_range : (b : Bool) (a : Assembled) (offset : ℕ) (bytes : List ℕ) → offset + length bytes ≤ MAX_VARINT
    → ((q : ℕ) → maps.contains_key a.stored q ≡ true → q < MAX_VARINT)
    → (q : ℕ) → maps.contains_key (cond b a.stored (store a.received a.stored offset bytes)) q ≡ true → q < MAX_VARINT
put_in_range true a offset bytes fits old q some = old q some
put_in_range false a offset bytes fits old q some =
    elim (stored_by_put a.received a.stored offset bytes q some) [
      | inl run ↦ in_run_below q offset (length bytes) fits run
      | inr was ↦ old q was
    ]

pub played_put : (a : Assembled) (w n : ℕ) (d : Bool) (offset : ℕ) (bytes : List ℕ) → offset + length bytes ≤ MAX_VARINT → IsPlayed a w n d → IsPlayed (put a offset bytes) w n d
played_put a w n d offset bytes fits h =
    record {
      window_is = h.window_is;
      count_is = h.count_is;
      discarding_is = h.discarding_is;
      small_window = h.small_window;
      small_count = h.small_count;
      in_range = put_in_range a.discarding a offset bytes fits h.in_range;
    }

-- where memory is refused nothing comes
pub played_either : {E : Type 0} (r : Result Unit E) (old new : Assembled) (w n : ℕ) (d : Bool) (offset : ℕ) (bytes : List ℕ) → offset + length bytes ≤ MAX_VARINT
    → OnOk r (new ≡ put old offset bytes) → OnErr r (new ≡ old) → IsPlayed old w n d → IsPlayed new w n d
played_either (Ok x) old new w n d offset bytes fits ok err h = rw ok (played_put old w n d offset bytes fits h)
played_either (Err e) old new w n d offset bytes fits ok err h = rw err h

front_in_range : (m : maps.FinMap nat_cmp ℕ) (at size : ℕ) → at ≤ MAX_VARINT → ((q : ℕ) → maps.contains_key m q ≡ true → q < MAX_VARINT)
    → at + length (front m at size) ≤ MAX_VARINT
front_in_range m at size small in_range =
    elim (cases_lt 0 (length (front m at size))) [
      | inl some ↦
          let last = in_range (at + (length (front m at size) - 1)) (front_stored m at size (length (front m at size) - 1) (omega arith)) in
          omega (arith, last)
      | inr none ↦ omega arith
    ]

pub played_take : (a : Assembled) (w n : ℕ) (d : Bool) (size : ℕ) → IsPlayed a w n d → IsPlayed (take_front a size) w (n + length (front_of a size)) d
played_take a w n d size h =
    record {
      window_is = h.window_is;
      count_is = ap (λ k. k + length (front_of a size)) h.count_is;
      discarding_is = h.discarding_is;
      small_window = h.small_window;
      small_count = let small = front_in_range a.stored a.read_count size (rw h.count_is h.small_count) h.in_range in rw (← h.count_is) small;
      in_range = λ q some. h.in_range q (stored_by_keep a.stored (a.read_count + length (front_of a size)) q some);
    }

pub played_discard : (a : Assembled) (w n : ℕ) (d : Bool) → IsPlayed a w n d → IsPlayed (discard a) w n true
played_discard a w n d h =
    record {
      window_is = h.window_is;
      count_is = h.count_is;
      discarding_is = refl;
      small_window = h.small_window;
      small_count = h.small_count;
      in_range = λ q some. absurd (both_ways _ (ap is_some (maps.get-empty nat_cmp q)) some);
    }

-- No more bytes are next than are stored

get-remove_nat : (m : maps.FinMap nat_cmp ℕ) (k q : ℕ) → maps.get (maps.remove m k) q ≡ cond (nat_eq q k) None (maps.get m q)
get-remove_nat m k q = maps.get-remove nat_cmp_total m k q ∙ ap (λ b. cond b None (maps.get m q)) (unsigned_tied q k)

-- a front depends on the bytes from its offset on alone
front_alike : (m o : maps.FinMap nat_cmp ℕ) (at size : ℕ) → ((q : ℕ) → at ≤ q → maps.get m q ≡ maps.get o q) → front m at size ≡ front o at size
unfolding front
front_alike m o at zero same = refl
front_alike m o at (suc size) same =
    ap (λ b. front_from b (front m (at + 1) size)) (same at (omega arith))
    ∙ ap (λ bs. front_from (maps.get o at) bs) (front_alike m o (at + 1) size (λ q h. same q (omega arith)))

removed_one : (m : maps.FinMap nat_cmp ℕ) (at byte : ℕ) → maps.get m at ≡ Some byte → maps.len m ≡ maps.len (maps.remove m at) + 1
removed_one m at byte is =
    let gone : maps.get (maps.remove m at) at ≡ None = get-remove_nat m at at ∙ ap (λ b. cond b None (maps.get m at)) (eq-eqb at at refl) in
    let back : maps.insert (maps.remove m at) at byte ≡ m =
    same_map nat_cmp_total nat_cmp-IsAntisymmetric _ _ (λ q.
    get-insert_nat (maps.remove m at) at byte q
    ∙ elim (cases_eq q at) [
      | inl here ↦ ap (λ b. cond b (Some byte) (maps.get (maps.remove m at) q)) (eq-eqb q at here) ∙ sym (ap (maps.get m) here ∙ is)
      | inr apart ↦
          ap (λ b. cond b (Some byte) (maps.get (maps.remove m at) q)) (ne_eqb q at apart)
          ∙ get-remove_nat m at q ∙ ap (λ b. cond b None (maps.get m q)) (ne_eqb q at apart)
    ]) in
    sym (ap maps.len back) ∙ maps.len-insert nat_cmp_total (maps.remove m at) at byte
    ∙ ap (λ o. cond (is_some o) (maps.len (maps.remove m at)) (maps.len (maps.remove m at) + 1)) gone

front_len_by : (m : maps.FinMap nat_cmp ℕ) (at size : ℕ) → length (front (maps.remove m at) (at + 1) size) ≤ maps.len (maps.remove m at)
    → (o : Option ℕ) → maps.get m at ≡ o → length (front_from o (front m (at + 1) size)) ≤ maps.len m
front_len_by m at size less None is = omega arith
front_len_by m at size less (Some byte) is =
    let one = removed_one m at byte is in
    let same = front_alike (maps.remove m at) m (at + 1) size (λ q past. get-remove_nat m at q ∙ ap (λ b. cond b None (maps.get m q)) (ne_eqb q at (λ e. omega arith))) in
    let len = ap length same in
    omega (arith, one, less, len)

front_len : (m : maps.FinMap nat_cmp ℕ) (at size : ℕ) → length (front m at size) ≤ maps.len m
unfolding front
front_len m at zero = omega arith
front_len m at (suc size) = front_len_by m at size (front_len (maps.remove m at) (at + 1) size) (maps.get m at) refl

none_long : (xs : List ℕ) → length xs ≤ 0 → xs ≡ []
none_long [] h = refl
none_long (x ∷ xs) h = absurd (omega arith)

front_more_stable : (o : Option ℕ) (xs ys : List ℕ) (room : ℕ) → (length ys ≤ room → xs ≡ ys) → length (front_from o ys) ≤ suc room → front_from o xs ≡ front_from o ys
front_more_stable None xs ys room same h = refl
front_more_stable (Some byte) xs ys room same h = ap (λ bs. byte ∷ bs) (same (omega arith))

-- a front that fits some room is the front of that room
front_stable : (m : maps.FinMap nat_cmp ℕ) (at size room : ℕ) → length (front m at size) ≤ room → room ≤ size → front m at room ≡ front m at size
unfolding front
front_stable m at size zero fits less = sym (none_long (front m at size) fits)
front_stable m at zero (suc room) fits less = absurd (omega arith)
front_stable m at (suc size) (suc room) fits less =
    front_more_stable (maps.get m at) (front m (at + 1) room) (front m (at + 1) size) room (λ h. front_stable m (at + 1) size room h (omega arith)) fits

-- all that is next fits a room for as many bytes as are stored
pub front_room : (a : Assembled) (size room : ℕ) → room ≡ min size (maps.len a.stored) → front_of a room ≡ front_of a size
front_room a size room is =
    elim (cases_lt (maps.len a.stored) size) [
      | inl more ↦ front_stable a.stored a.read_count size room (let most = front_len a.stored a.read_count size in omega arith) (omega arith)
      | inr all ↦ let e : room ≡ size = omega arith in ap (front_of a) e
    ]

pub taken_same : (a : Assembled) (room size : ℕ) → front_of a room ≡ front_of a size → take_front a room ≡ take_front a size
taken_same a room size same = ap (λ bytes. record a { stored = keep_from a.stored (a.read_count + length bytes); read_count = a.read_count + length bytes }) same

front_at_most : (m : maps.FinMap nat_cmp ℕ) (at size : ℕ) → length (front m at size) ≤ size
unfolding front
front_at_most m at zero = omega arith
front_at_most m at (suc size) = front_from_at_most (maps.get m at) (front m (at + 1) size) size (front_at_most m (at + 1) size)
  where
    front_from_at_most : (o : Option ℕ) (xs : List ℕ) (size : ℕ) → length xs ≤ size → length (front_from o xs) ≤ suc size
    front_from_at_most None xs size h = omega arith
    front_from_at_most (Some byte) xs size h = omega arith

-- a buffer into which a read wrote, cut down to what was read
pub cut_buffer : (a : Assembled) (buffer into out : List ℕ) (room count : ℕ)
    → length buffer ≡ room → count ≡ length (front_of a (length buffer)) → into ≡ front_of a (length buffer) ++ drop count buffer
    → out ≡ take count (take room (into ++ drop (length into) buffer)) → out ≡ front_of a room
cut_buffer a buffer into out room count len counted read cut =
    let most = front_at_most a.stored a.read_count (length buffer) in
    let full : length into ≡ room = ap length read ∙ simp (length-append, length-drop) (omega arith) in
    let rest : drop (length into) buffer ≡ [] = drop_all (length into) buffer (omega arith) in
    let whole : into ++ drop (length into) buffer ≡ into = ap (λ xs. into ++ xs) rest ∙ append-nil into in
    let kept : take room (into ++ drop (length into) buffer) ≡ into = ap (take room) whole ∙ take_all room into (omega arith) in
    cut ∙ ap (take count) (kept ∙ read) ∙ take_at (front_of a (length buffer)) (drop count buffer) count (sym counted) ∙ ap (front_of a) len

-- The steps so far

-- what was shown, and what the steps that are left will show from here, is what all were to show
pub record HasShown (first : Assembled) (steps : List Step) (i : ℕ) (now : Assembled) (shown : List Shown) : Type 0 where
  pub shown_is : map sight shown ++ shown_by now (drop i steps) ≡ shown_by first steps
  pub held_is : replayed now (drop i steps) ≡ replayed first steps
