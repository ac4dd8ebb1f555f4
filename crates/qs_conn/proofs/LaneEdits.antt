-- A lane whose limit is the next one already.
use Rattle.std.specs.FinSet as set
use Rattle.qs_conn.specs.declared.send_marks.Task.TheVariants as tasks
use Rattle.std.proofs.lemmas.Grind.{common_steps}
use Rattle.std.proofs.Common.{◌≡◌, ◌≢◌, ℕ, zero, suc, ◌+◌, ◌<◌, ◌≤◌, ◌⊎◌, inl, inr, Bool, false, ◌&&◌, ◌||◌, List, [], ◌∷◌, ◌++◌, length, map, take, Some, refl, ap, sym, ◌∙◌, arith, subst, min, nat_le, nat_lt, eqb, get_or, slice_get, ◌-◌, ◌/◌, ◌%◌, ◌^◌, true, is_some, None, ◌==◌, unwrap_or, Option, Result, Ok, Err, cond}
use Rattle.qs_conn.proofs.Untolds.{of_mapped}
use Rattle.qs_conn.proofs.Marked.{begins_without, marks_fewer, marks_same, marks_set, marks_wider, noted_raised}
use Rattle.std.proofs.lemmas.List.{append-nil, append_assoc, get_or-set_same, get_or-set_other, get_or_default, length-append, length-map, length-take, set-get_or}
use Rattle.std.proofs.lemmas.Option.{none-some, same_Some, slice_get_read, slice_get_within, slice_get-map, slice_get_cases}
use Rattle.std.proofs.lemmas.Bool.Decides.{nat_tests}
use Rattle.std.proofs.lemmas.Bool.{both_ways, cases_eq, cond_both, true≢false}
use Rattle.std.proofs.Math.ListN.{set, length-set, set as set_list}
use Rattle.std.proofs.Math.Seq.{take-append_seam}
use Rattle.qs_ranges.specs.Numbers.{MAX_VARINT, contains-with_range, contains-without_range, numbers, missing_from}
use Rattle.qs_recv.specs.Lane.{MAX_WINDOW, RecvLane, new_lane, step, raise, taken, take_stream, set_window, highest, noted, raise_answer, raised_limit}
use Rattle.qs_recv.specs.declared.credit.Share.{Share}
use Rattle.qs_conn.specs.declared.send_lanes.Setting.{Setting}
use Rattle.qs_conn.specs.declared.send_lanes.Setting.TheVariants as settings
use Rattle.qs_conn.specs.Edits.{after_set, OrStays, IsEdited, IsEditedIn}
use Rattle.qs_conn.specs.RecvEdits.{AreSettled, IsCalm, IsSettled, wrapped, with_part, with_parts, added, IsTallyOf, AreKept}
use Rattle.qs_conn.specs.Marks.{HasRoom, IsClearedFrom, IsWider, is_marked, count_marked}
use Rattle.std.specs.Prelude.{slice_set}
use Rattle.std.specs.List.{range_with_len, sum_by}
use Rattle.std.proofs.lemmas.List.FromFn.{map-range_with_len_more, length-map-range_with_len}
use Rattle.std.proofs.lemmas.List.Sums.{sum_by-set}
use Rattle.qs_recv.specs.Lawful.{IsLawful as IsLawfulRecv}
use Rattle.qs_machine.specs.declared.tally.Tally.{Tally}
use Rattle.qs_conn.specs.declared.recv_marks.RecvTask.{RecvTask}
use Rattle.qs_conn.specs.declared.recv_marks.RecvMarks.{RecvMarks}
use Rattle.qs_machine.specs.Tables.{lookup, total, widened, Tables, updated}
use Rattle.qs_machine.specs.Sums.{changed, stored_on, tally_of, tally_on, tables_of, EachLawful, IsPaid, no_sending}
use Rattle.qs_conn.specs.RecvTasks.{has as recv_has, marks_of as recv_marks_of}
use Rattle.qs_machine.proofs.TableLaws.{lookup_same}
use Rattle.qs_machine.proofs.TableEdits.{open_there, total_four, updated_is}
use Rattle.qs_machine.proofs.Counts.{each_paid, lawful_set, lawful_append, lawful_begun, lawful_take, lawful_raised, tally_opened, tally_raised}
use Rattle.std.specs.Option.{IfSome}
use Rattle.std.specs.Result.{OnOk, OnErr, IfOk, IfErr}
use Rattle.qs_ranges.proofs.Sets.{outside}
use Rattle.qs_send.specs.Chunks.{IsDueChunk, WasSent}
use Rattle.qs_send.specs.Halves.{half_at, over_sending, IsOver}
use Rattle.qs_send.specs.Lane.{Sending, SendLane, accepted, refusal, finish_lane, after_write, after_finish, after_sent, after_acked, reset_refusal, after_reset, after_stopped, after_asked, after_stop, after_lost, after_allow, after_buffer, after_blocked, broken_off, first_code}
use Rattle.qs_send.specs.Sound.{IsLawful}
use Rattle.qs_send.specs.declared.parts.Chunk.{Chunk}
use Rattle.qs_send.specs.declared.parts.SendFault.{SendFault}
use Rattle.qs_send.specs.declared.parts.SendFault.TheVariants.{NoMemory, Finished}
use Rattle.qs_send.proofs.Steps.{rest_missing, rest_acked, rest_lost}
use Rattle.qs_machine.specs.Credit.{send_ended}
use Rattle.qs_conn.specs.Tasks.{IsStill, IsStillButEnd, IsStillButSent, has, is_due_below, AreAllMarked, AreMarksOf, marks_of}
use Rattle.qs_conn.proofs.Tasks.{sent_promises, promised_of, kept_of, sums_same, none_again, no_fin_again, quiet_again, all_looked, marks_read, none_below}
use Rattle.std.specs.Ordering.{nat_cmp}
use Rattle.qs_send.proofs.Slots.{none_goes}
use Rattle.qs_conn.specs.declared.send_marks.Task.{Task}
use Rattle.qs_conn.specs.declared.send_marks.SendMarks.{SendMarks}
use Rattle.qs_conn.specs.Promised.{AreSums}

-- One lane

abbrev most : ℕ → ℕ → ℕ
most t w = min MAX_VARINT (t + w)

-- whether the limit moves
abbrev moves : ℕ → ℕ → ℕ → Share → Bool
moves l t w share = nat_le (l + step share w) (most t w) || (eqb (most t w) MAX_VARINT && nat_lt l (most t w))

rises_not : (l : RecvLane) → is_some (raise_answer l) ≡ false → IsSettled l
rises_not l none = grind (arith, nat_tests)

pub raised_twice : (l : RecvLane) → IsSettled (raise l)
raised_twice l = grind (arith, nat_tests)

pub new_settled : (w : ℕ) (share : Share) → 1 ≤ w → w ≤ MAX_WINDOW → IsSettled (new_lane w share)
new_settled w share some small = grind (arith, nat_tests)

-- a frame that moves nothing that was taken raises no limit
pub stream_settled : (l : RecvLane) (offset : ℕ) (bytes : List ℕ) (fin : Bool) → taken (take_stream l offset bytes fin) ≡ taken l → IsSettled l → IsSettled (take_stream l offset bytes fin)
stream_settled l offset bytes fin took was = grind (arith, nat_tests)

pub calm_window : (l : RecvLane) (w : ℕ) → IsCalm l (set_window l w)
calm_window l w = grind (arith, common_steps)

-- All lanes

pub settled_raise : (x : RecvLane) → IsSettled x → raise x ≡ x
settled_raise x is = ap (λ k. record x { limit = k }) is

pub each_settled : (xs : List RecvLane) → ((i : ℕ) (l : RecvLane) → slice_get xs i ≡ Some l → IsSettled l) → map raise xs ≡ xs
each_settled [] all = refl
each_settled (x ∷ xs) all = ap (λ y. y ∷ map raise xs) (settled_raise x (all 0 x refl)) ∙ ap (λ ys. x ∷ ys) (each_settled xs (λ i l at. all (suc i) l at))

-- no lane has a mark
pub none_raised : (ms : List Bool) (xs : List RecvLane) → AreSettled ms xs → ((i : ℕ) → is_marked ms i ≡ false) → map raise xs ≡ xs
none_raised ms xs settled none = each_settled xs (λ i l at. settled i l at (none i))

pub raised_once : (xs : List RecvLane) → map raise (map raise xs) ≡ map raise xs
raised_once [] = refl
raised_once (x ∷ xs) = ap (λ y. y ∷ map raise (map raise xs)) (settled_raise (raise x) (raised_twice x)) ∙ ap (λ ys. raise x ∷ ys) (raised_once xs)

-- one lane becomes another

pub get_other : {X : Type 0} (xs : List X) (i j : ℕ) (y : X) → j ≢ i → slice_get (set xs i y) j ≡ slice_get xs j
get_other (x ∷ xs) zero zero y ne = absurd (ne refl)
get_other (x ∷ xs) (suc i) (suc j) y ne = get_other xs i j y (λ e. ne (ap suc e))
get_other _ _ _ _ _ = refl

pub get_same : {X : Type 0} (xs : List X) (i : ℕ) (y l : X) → slice_get (set xs i y) i ≡ Some l → (y ≡ l) × (i < length xs)
get_same [] i y l at = absurd (none-some l at)
get_same (x ∷ xs) zero y l at = (same_Some y l at, omega arith)
get_same (x ∷ xs) (suc i) y l at = let (is, lt) = get_same xs i y l at in (is, omega (arith, lt))

-- a lane becomes another: no more was taken of it, and its mark stays; or its mark tells whether its limit rises
pub are_moved : (ms new : List Bool) (xs : List RecvLane) (i : ℕ) (x y : RecvLane) → i < length xs → x ≡ get_or xs i x → length xs ≤ length ms → IsCalm x y
    → ((taken y ≡ taken x) × (new ≡ ms)) ⊎ (new ≡ set ms i (is_some (raise_answer y))) → AreSettled ms xs → AreSettled new (set xs i y)
are_moved ms new xs i x y there at room calm how each j l found free =
    elim (cases_eq j i) [
      | inl e ↦
          (let (is, lt) = get_same xs i y l (ap (slice_get (set xs i y)) (sym e) ∙ found) in
          let here : is_marked new i ≡ false = subst (λ k. is_marked new k ≡ false) e free in
          subst IsSettled is (elim how [
            | inl (same, now) ↦ calm.settled same (each i x (slice_get_read xs (length xs) i x refl lt at) (subst (λ k. is_marked k i ≡ false) now here))
            | inr now ↦ rises_not y (sym (get_or-set_same ms i (is_some (raise_answer y)) false (omega (arith, lt, room))) ∙ subst (λ k. is_marked k i ≡ false) now here)
          ]))
      | inr ne ↦
          each j l (sym (get_other xs i j y ne) ∙ found)
          (elim how [
            | inl (same, now) ↦ subst (λ k. is_marked k j ≡ false) now free
            | inr now ↦ sym (get_or-set_other ms i j (is_some (raise_answer y)) false ne) ∙ subst (λ k. is_marked k j ≡ false) now free
          ])
    ]

-- lanes are opened

get_seam : {X : Type 0} (xs ys : List X) (j : ℕ) (l : X) → slice_get (xs ++ ys) j ≡ Some l → (slice_get xs j ≡ Some l) ⊎ ((k : ℕ) × (slice_get ys k ≡ Some l))
get_seam [] ys j l at = inr (j, at)
get_seam (x ∷ xs) ys zero l at = inl at
get_seam (x ∷ xs) ys (suc j) l at = get_seam xs ys j l at

pub are_wider : (ms new : List Bool) (xs : List RecvLane) → IsWider ms new → AreSettled ms xs → AreSettled new xs
are_wider ms new xs wide each j l there free = each j l there (sym (wide.same j) ∙ free)

are_next : (ms : List Bool) (xs : List RecvLane) (x : RecvLane) → IsSettled x → AreSettled ms xs → AreSettled ms (xs ++ x ∷ [])
are_next ms xs x settled each j l there free = elim (get_seam xs (x ∷ []) j l there) [ inl at ↦ each j l at free | inr (k, at) ↦ one k at ]
  where
    one : (k : ℕ) → slice_get (x ∷ []) k ≡ Some l → IsSettled l
    one zero at = subst IsSettled (same_Some x l at) settled
    one (suc k) at = absurd (none-some l at)

-- lanes are taken away

get_taken : {X : Type 0} (n : ℕ) (xs : List X) (j : ℕ) (l : X) → slice_get (take n xs) j ≡ Some l → slice_get xs j ≡ Some l
get_taken (suc n) (x ∷ xs) zero l at = at
get_taken (suc n) (x ∷ xs) (suc j) l at = get_taken n xs j l at
get_taken _ _ _ l at = absurd (none-some l at)

-- no lane has a limit to be raised once all were
pub still_settled : (xs : List RecvLane) (ms : List Bool) → AreSettled ms (map raise xs)
still_settled xs ms i l at free = of_mapped raise (slice_get xs i) IsSettled (λ x there. raised_twice x) l (sym (slice_get-map raise xs i) ∙ at)

-- ---- One receiving lane among those of its type is edited; some are opened, or taken away.

-- One lane becomes another

part_moved : (s s' was is t : ℕ) → was ≤ 2 ^ 64 → s' + was ≡ s + is → t ≡ s % 2 ^ 64 → with_part t was is ≡ s' % 2 ^ 64
part_moved s s' was is t small set at = omega (arith, small, set, at)

module _ (xs : List RecvLane) (i : ℕ) (x y : RecvLane) (there : i < length xs) (at : x ≡ get_or xs i x) where
  part_set : (f : RecvLane → ℕ) (t : ℕ) → f x ≤ 2 ^ 64 → t ≡ sum_by f xs % 2 ^ 64 → with_part t (f x) (f y) ≡ sum_by f (set xs i y) % 2 ^ 64
  part_set f t small is = part_moved (sum_by f xs) (sum_by f (set xs i y)) (f x) (f y) t small (ap (λ k. sum_by f (set xs i y) + k) (ap f at) ∙ sum_by-set f xs i y x there) is

  pub edited : (t was part now : Tally) (rising next : List Bool) (marks looked : RecvMarks) → AreKept xs t rising marks → was ≡ tally_of x → part ≡ tally_of y → now ≡ with_parts t was part → was.spent ≤ MAX_VARINT → IsPaid was → IsLawfulRecv y
      → IsCalm x y → ((was.taken ≡ part.taken) × (next ≡ rising)) ⊎ (next ≡ set rising i (is_some (raise_answer y)))
      → ((k : RecvTask) → recv_marks_of looked k ≡ slice_set (recv_marks_of marks k) i (recv_has k y)) → AreKept (set xs i y) now next looked
  edited t was part now rising next marks looked kept was_is part_is now_is small paid lawful calm moved again =
      let spent : highest x ≤ 2 ^ 64 = omega (arith, small, ap (λ (k : Tally). k.spent) was_is) in
      let took : taken x ≤ 2 ^ 64 = omega (arith, small, paid.moved, ap (λ (k : Tally). k.taken) was_is) in
      let kept_bytes : stored_on x ≤ 2 ^ 64 = omega (arith, small, paid.moved, ap (λ (k : Tally). k.stored) was_is) in
      let few : noted x ≤ 2 ^ 64 = omega (arith, small, paid.noted, ap (λ (k : Tally). k.noted) was_is) in
      let len : length next ≡ length rising = elim moved [ inl (same, now) ↦ ap length now | inr now ↦ ap length now ∙ length-set rising i (is_some (raise_answer y)) ] in
      record {
        counted =
            now_is ∙ ap (λ k. with_parts t k part) was_is ∙ ap (with_parts t (tally_of x)) part_is
            ∙ rw (
              part_set highest t.spent spent (ap (λ (k : Tally). k.spent) kept.counted),
              part_set taken t.taken took (ap (λ (k : Tally). k.taken) kept.counted),
              part_set stored_on t.stored kept_bytes (ap (λ (k : Tally). k.stored) kept.counted),
              part_set noted t.noted few (ap (λ (k : Tally). k.noted) kept.counted),
            ) refl;
        lawful = lawful_set xs i y lawful kept.lawful;
        settled =
            are_moved rising next xs i x y there at (omega (arith, kept.room)) calm
            (elim moved [ inl (same, now) ↦ inl (sym (ap (λ (k : Tally). k.taken) part_is) ∙ sym same ∙ ap (λ (k : Tally). k.taken) was_is, now) | inr now ↦ inr now ]) kept.settled;
        room = rw (len, length-set) kept.room;
        few = rw length-set kept.few;
        noted = λ k. rw (again k) (marks_set (recv_has k) xs (recv_marks_of marks k) (kept.noted k) i y there);
      }

pub changed_at : {X : Type 0} (xs : List X) (i : ℕ) (x y : X) (f : X → X) → i < length xs → x ≡ get_or xs i x → y ≡ f x → set xs i y ≡ changed xs i f (slice_get xs i)
changed_at xs i x y f there at is = rw (slice_get_read xs (length xs) i x refl there at, is) refl

-- what a stream has, among those of all types
pub edited_in : {X R : Type 0} (leaves : X → R → X → Type 0) (ls : List (List X)) (n k i : ℕ) (d ys : List X) (z x : X) (r : R) → x ≡ get_or (get_or ls k d) i z → length ls ≡ 4 → k ≡ n % 4 → i ≡ n / 4 → is_some (lookup (tables_of ls) n) ≡ true
    → IsEdited leaves (get_or (get_or ls k d) i z) (get_or ls k d) i r ys → IsEditedIn leaves x (tables_of ls) n r (tables_of (set ls k ys))
edited_in leaves ls n k i d ys z x r here len kind index is_open e =
    let xs = get_or ls k d in
    let there = get_or_default xs i z (get_or xs i z) (open_there ls n k i d len kind index is_open) in
    let is : (f : _) → e.now ≡ f x → tables_of (set ls k ys) ≡ updated (tables_of ls) n f (lookup (tables_of ls) n) =
    λ f same. updated_is ls n k i d ys f len kind index (e.is ∙ changed_at xs i (get_or xs i z) e.now f (open_there ls n k i d len kind index is_open) there (same ∙ ap f here)) in
    record {
      now = e.now;
      left = subst (λ y. leaves y r e.now) (sym here) e.left;
      there = updated_there (tables_of ls) n e.now (lookup (tables_of ls) n) refl is_open (is (λ y. e.now) refl);
      is = is;
      same = λ same. ap (λ l. tables_of (set ls k l)) (e.is ∙ ap (set xs i) (same ∙ here) ∙ set-get_or xs i z) ∙ ap tables_of (set-get_or ls k d);
    }
  where
    updated_there : {X : Type 0} (t : Tables X) {t' : Tables X} (n : ℕ) (y : X) (o : Option X) → lookup t n ≡ o → is_some o ≡ true → t' ≡ updated t n (λ x. y) (lookup t n) → lookup t' n ≡ Some y
    updated_there t n y None at is e = absurd (both_ways false refl is)
    updated_there t n y (Some x) at is e = ap (λ k. lookup k n) (e ∙ ap (updated t n (λ x. y)) at) ∙ lookup_same t n x y at

-- where a sending half is changed by a function, which leaves one that is over as it is: so the halves changed, and the answer
pub by_edit : {R : Type 0} {leaves : Sending → R → Sending → Type 0} {over : R} (t t' : Tables Sending) (n : ℕ) (s : Sending) (r : R) (f : Sending → Sending) (a : Sending → R) → IsEditedIn (OrStays leaves over) s t n r t'
    → ((now : Sending) → leaves s r now → (now ≡ f s) × (r ≡ a s)) → (IsOver s → (f s ≡ s) × (over ≡ a s)) → (t' ≡ updated t n f (lookup t n)) × (r ≡ a s)
by_edit t t' n s r f a e left stays =
    elim e.left [ inl l ↦ (let (now, answer) = left e.now l in (e.is f now, answer)) | inr o ↦ (let (same, answer) = stays o.0 in (e.is f (o.2 ∙ sym same), o.1 ∙ answer)) ]

-- The sums over all types

pub summed : (ls : List (List RecvLane)) (k l m n : List RecvLane) → length ls ≡ 4 → EachLawful (get_or ls 0 k) → EachLawful (get_or ls 1 l) → EachLawful (get_or ls 2 m) → EachLawful (get_or ls 3 n)
    → {a b c d : Tally} → a ≡ wrapped (tally_on (get_or ls 0 k)) → b ≡ wrapped (tally_on (get_or ls 1 l)) → c ≡ wrapped (tally_on (get_or ls 2 m)) → d ≡ wrapped (tally_on (get_or ls 3 n))
    → total highest (tables_of ls) < 2 ^ 62 → (t : Tally) → t ≡ added a b c d → IsTallyOf (tables_of ls) t
summed ls k l m n len p q r s a_is b_is c_is d_is small t is = grind (arith, nat_tests, total_four, each_paid)

-- Lanes open

-- memory was asked for more marks
pub wider : (xs : List RecvLane) (t : Tally) (rising next : List Bool) (marks now : RecvMarks) → IsWider rising next → ((k : RecvTask) → IsWider (recv_marks_of marks k) (recv_marks_of now k)) → AreKept xs t rising marks → AreKept xs t next now
wider xs t rising next marks now wide more h =
    record {
      counted = h.counted;
      lawful = h.lawful;
      settled = are_wider rising next xs wide h.settled;
      room = omega (arith, h.room, wide.longer);
      few = h.few;
      noted = λ k. marks_wider (recv_has k) xs (recv_marks_of marks k) (h.noted k) (recv_marks_of now k) (more k);
    }

-- one more opens, without a mark
pub one_opened : (xs : List RecvLane) (t : Tally) (rising : List Bool) (marks : RecvMarks) (w : ℕ) (share : Share) (i : ℕ) → i ≡ length xs → 1 ≤ w → w ≤ MAX_WINDOW → i < 2 ^ 60 → HasRoom (i + 1) rising → ((k : RecvTask) → HasRoom (i + 1) (recv_marks_of marks k)) → AreKept xs t rising marks
    → AreKept (xs ++ new_lane w share ∷ []) t rising marks
one_opened xs t rising marks w share i at some small few room more h =
    record {
      counted = h.counted ∙ ap wrapped (sym (tally_opened xs w share (0 ∷ [])));
      lawful = lawful_append xs (new_lane w share ∷ []) h.lawful (lawful_begun w share (0 ∷ []) some small);
      settled = are_next rising xs (new_lane w share) (new_settled w share some small) h.settled;
      room = omega (arith, at, room, length-append xs (new_lane w share ∷ []));
      few = omega (arith, at, few, length-append xs (new_lane w share ∷ []));
      noted = λ k. marks_same (recv_has k) xs (recv_marks_of marks k) (h.noted k) i (new_lane w share) at (more k) (begins_without k w share);
    }

-- some lanes leave, which nothing came for
pub fewer : (n : ℕ) (xs : List RecvLane) (t : Tally) (rising : List Bool) (marks left : RecvMarks) → tally_on (take n xs) ≡ tally_on xs → ((k : RecvTask) → IsClearedFrom n (recv_marks_of marks k) (recv_marks_of left k)) → AreKept xs t rising marks → AreKept (take n xs) t rising left
fewer n xs t rising marks left same cleared h =
    record {
      counted = h.counted ∙ ap wrapped (sym same);
      lawful = lawful_take n xs h.lawful;
      settled = λ j l there. h.settled j l (get_taken n xs j l there);
      room = omega (arith, h.room, length-take n xs);
      few = omega (arith, h.few, length-take n xs);
      noted = λ k. marks_fewer (recv_has k) xs (recv_marks_of marks k) (h.noted k) n (recv_marks_of left k) (cleared k);
    }

-- lanes that opened count for nothing
pub tally_back : (w : ℕ) (share : Share) (xs now : List RecvLane) (n count : ℕ) → now ≡ widened xs n (λ i. new_lane w share) → count ≡ length xs → tally_on (take count now) ≡ tally_on now
tally_back w share xs now n count is at = rw (is, at) (ap tally_on (take-append_seam xs _) ∙ sym (tally_opened xs w share _))

-- all limits are raised
pub raised : (xs : List RecvLane) (t : Tally) (rising next : List Bool) (marks : RecvMarks) → length next ≡ length rising → AreKept xs t rising marks → AreKept (map raise xs) t next marks
raised xs t rising next marks room h = grind (arith, nat_tests, tally_raised, lawful_raised, still_settled, length-map, noted_raised)

-- Parts of any kind open one after the other

pub widened_none : {X : Type 0} (xs : List X) (f : ℕ → X) (i count : ℕ) → i ≡ length xs → xs ≡ widened xs (min i count) f
widened_none xs f i count at = let none : min i count - length xs ≡ 0 = omega (arith, at) in rw (none, append-nil) refl

module _ {X : Type 0} (xs : List X) (f : ℕ → X) (now : List X) (i count : ℕ) (is : now ≡ widened xs (min i count) f) where
  pub widened_all : count ≤ i → now ≡ widened xs count f
  widened_all past = is ∙ ap (λ n. widened xs n f) (omega (arith, past))

  pub widened_back : (m : ℕ) → m ≡ length xs → take m now ≡ xs
  widened_back m at = rw (is, at) (take-append_seam xs _)

  module _ (m : ℕ) (at : m ≡ length xs) (from : m ≤ i) (below : i < count) where
    pub widened_len : length now ≡ i
    widened_len = let n = min i count - length xs in rw is (omega (arith, at, from, below, length-append xs (map f (range_with_len (length xs) n)), length-map-range_with_len f (length xs) n))

    pub widened_next : (x : X) → x ≡ f i → now ++ x ∷ [] ≡ widened xs (min (i + 1) count) f
    widened_next x is_next =
        let n = min i count - length xs in
        let more : min (i + 1) count - length xs ≡ n + 1 = omega (arith, at, from, below) in
        rw (is, more, is_next) (append_assoc xs (map f (range_with_len (length xs) n)) (f i ∷ []) ∙ ap (λ ys. xs ++ ys) (sym (map-range_with_len_more f (length xs) n i (omega (arith, at, from, below)))))

-- ---- Receiving lanes that are raised one by one.

-- a limit that didn't rise is the next one already
pub not_raised : (l : RecvLane) → ((v : ℕ) → raise_answer l ≡ Some v → ⊥) → raise l ≡ l
not_raised l none = cond_both (nat_lt l.limit (raised_limit l)) (Some (raised_limit l)) None (λ o. ((v : ℕ) → o ≡ Some v → ⊥) → raise l ≡ l) (λ up some. absurd (some (raised_limit l) refl)) (λ stays _. settled_raise l (grind (arith, nat_tests, stays))) none

-- Lanes are raised one after the other, as they are marked

-- what stands between: the lanes with a mark and those that were raised are raised at the end, and all others are settled
pub record AreRaisedSoFar (xs now : List RecvLane) (ms : List Bool) : Type 0 where
  pub raised : map raise now ≡ map raise xs
  pub len : length now ≡ length xs
  pub settled : AreSettled ms now

pub none_yet : (xs : List RecvLane) (ms : List Bool) → AreSettled ms xs → AreRaisedSoFar xs xs ms
none_yet xs ms settled = record { raised = refl; len = refl; settled = settled }

raise_again : (xs : List RecvLane) (k : ℕ) (x : RecvLane) → slice_get xs k ≡ Some x → map raise (set xs k (raise x)) ≡ map raise xs
raise_again [] k x at = absurd (none-some x at)
raise_again (z ∷ xs) zero x at = ap (λ l. l ∷ map raise xs) (settled_raise (raise x) (raised_twice x) ∙ ap raise (sym (same_Some z x at)))
raise_again (z ∷ xs) (suc k) x at = ap (λ ls. raise z ∷ ls) (raise_again xs k x at)

-- one lane more is raised
pub one_more : (xs ys now : List RecvLane) (ms : List Bool) (k : ℕ) → AreRaisedSoFar xs ys ms → k < length ys → now ≡ changed ys k raise (slice_get ys k) → AreRaisedSoFar xs now (set ms k false)
one_more xs ys now ms k far lt is =
    elim (slice_get_cases ys k).1 [
      | inl (x, in_list, there, read) ↦
          (let at : now ≡ set ys k (raise x) = is ∙ ap (changed ys k raise) there in
          rw at (
          record {
            raised = raise_again ys k x there ∙ far.raised;
            len = length-set ys k (raise x) ∙ far.len;
            settled =
                λ j l in_now free.
                elim (cases_eq j k) [
                  | inl e ↦ subst IsSettled (get_same ys k (raise x) l (ap (slice_get (set ys k (raise x))) (sym e) ∙ in_now)).0 (raised_twice x)
                  | inr ne ↦ far.settled j l (sym (get_other ys k j (raise x) ne) ∙ in_now) (sym (get_or-set_other ms k j false false ne) ∙ free)
                ];
          }))
      | inr (past, none) ↦ absurd (omega (arith, lt, past))
    ]

-- a mark past the lanes
pub past_more : (xs ys : List RecvLane) (ms : List Bool) (k : ℕ) → AreRaisedSoFar xs ys ms → length ys ≤ k → AreRaisedSoFar xs ys (set ms k false)
past_more xs ys ms k far past =
    record {
      raised = far.raised;
      len = far.len;
      settled = λ j l there free. far.settled j l there (sym (get_or-set_other ms k j false false (λ e. omega (arith, e, past, slice_get_within ys j l there))) ∙ free);
    }

-- no mark is left
pub all_raised : (xs now : List RecvLane) (ms : List Bool) → AreRaisedSoFar xs now ms → ((i : ℕ) → is_marked ms i ≡ false) → now ≡ map raise xs
all_raised xs now ms far none = sym (none_raised ms now far.settled none) ∙ far.raised

pub count_fewer : (ms : List Bool) (i : ℕ) → is_marked ms i ≡ true → count_marked (set ms i false) + 1 ≡ count_marked ms
count_fewer (true ∷ ms) zero is = refl
count_fewer (true ∷ ms) (suc i) is = ap (λ k. k + 1) (count_fewer ms i is)
count_fewer (false ∷ ms) (suc i) is = count_fewer ms i is
count_fewer _ _ is = absurd (true≢false (sym is))

-- ---- Sending halves are opened and edited; some are over.

-- a sending half is opened: its number
pub id_is : (r : Option ℕ) (id number : ℕ) → r ≡ Some id → IfSome r (λ k. (k ≡ number) × (number < 2 ^ 62)) → id ≡ number
id_is r id number is h = (rw is at h).0

-- the half at an index is changed, or stays
pub changed_is : (xs : List Sending) (i : ℕ) (f : Sending → Sending) → i < length xs → changed xs i f (slice_get xs i) ≡ set_list xs i (f (half_at xs i))
changed_is xs i f there = sym (changed_at xs i (half_at xs i) (f (half_at xs i)) f there (get_or_default xs i no_sending (half_at xs i) there) refl)

pub set_same : (xs : List Sending) (i : ℕ) → set_list xs i (half_at xs i) ≡ xs
set_same xs i = set-get_or xs i no_sending

-- What a change leaves that doesn't move all

-- the end is acknowledged neither before nor after
not_over : (l now : SendLane) → now.reset_acked ≡ l.reset_acked → l.fin_acked ≡ false → now.fin_acked ≡ false → send_ended now ≡ send_ended l
not_over l now same before after = grind (arith, nat_tests)

-- bytes that are written weren't sent before
pub written_still : (s : Sending) (bytes : List ℕ) → IsLawful s → IsStill s (after_write s bytes)
written_still s bytes law =
    let w = s.lane.written in
    let sent = law.order.sent_written in
    record {
      again = λ q. quiet_again (after_write s bytes) (λ k lt. contains-with_range s.due.offsets w (w + length bytes) k ∙ (let old = none_again s q k lt in let none = outside w (w + length bytes) k (inl (omega (arith, lt, sent))) in grind (arith, old)))
          (λ whole. no_fin_again s q (omega (arith, whole, sent)));
      ended = λ unacked. not_over s.lane (after_write s bytes).lane refl unacked unacked;
      stopped = refl;
    }

pub wrote_still : (r : Result ℕ SendFault) (s now : Sending) (bytes : List ℕ) → IsLawful s → IfOk r (λ n. (refusal s.lane ≡ None) × (n ≡ accepted s.lane (length bytes)) × (now ≡ after_write s (take n bytes))) → IfErr r (λ fault. (now ≡ s) × (fault ≡ unwrap_or (refusal s.lane) NoMemory)) → IsStill s now
wrote_still r s now bytes law ok err = grind (arith, nat_tests, written_still)

-- a chunk that goes has the lowest due byte, and all from there on that are due below its end; and the end, where it reaches that
pub sent_still : (s now : Sending) (c : Chunk) → IsLawful s → IsDueChunk s c → now ≡ after_sent s c → IsStillButSent s now
sent_still s now c law is after = grind (arith, nat_tests, quiet_again, contains-without_range, sent_promises, none_again)

-- an end that is asked for
asked_again : (s : Sending) → (s.lane.sent_end == s.lane.written) ≡ false → has tasks.Again (record { lane = finish_lane s.lane; due = record { offsets = s.due.offsets; fin = true } }) ≡ has tasks.Again s
unfolding is_due_below
asked_again s short = grind (arith, nat_tests)

pub finished_still : (s now : Sending) → IsLawful s → now ≡ after_finish s → IsStillButEnd s now
finished_still s now law after = grind (arith, nat_tests, asked_again)

-- what is acknowledged isn't sent again
pub acked_still : {A E : Type 0} (r : Result A E) (s now : Sending) (c : Chunk) → OnOk r (now ≡ after_acked s c) → OnErr r (now ≡ s) → IsStill s now
acked_still r s now c ok err = grind (arith, nat_tests, quiet_again, contains-without_range, none_again, not_over)

-- A half that is over: no call but those that set its limit, its buffer or that it was blocked changes it

-- a half that is lent is that at its index
pub lent_at : (xs : List Sending) (i : ℕ) (x : Sending) → i < length xs → x ≡ half_at xs i → x ≡ get_or xs i x
lent_at xs i x there is = is ∙ get_or_default xs i no_sending x there

pub there_at : (xs : List Sending) (i : ℕ) → i < length xs → half_at xs i ≡ get_or xs i (half_at xs i)
there_at xs i there = get_or_default xs i no_sending (half_at xs i) there

whole_is : (n : ℕ) → ((missing_from (numbers 0 n) 0 == n) && true) ≡ true
whole_is n = let e = rest_missing n in let same : (missing_from (numbers 0 n) 0 == n) ≡ true = grind (arith, nat_tests) in ap (λ b. b && true) same

module _ (s : Sending) (o : IsOver s) where
  pub over_refused : refusal s.lane ≡ Some Finished
  over_refused = ap (λ (t : Sending). refusal t.lane) o.is

  pub over_reset_refused : reset_refusal s.lane ≡ Some Finished
  over_reset_refused = ap (λ (t : Sending). reset_refusal t.lane) o.is ∙ ap (λ b. cond b (Some Finished) None) (whole_is o.written)

  pub over_finish : after_finish s ≡ s
  over_finish = ap (λ (r : Option SendFault). cond (is_some r) s (record { lane = finish_lane s.lane; due = record { offsets = s.due.offsets; fin = true } })) over_refused

  pub over_reset : (code : ℕ) → after_reset s code ≡ s
  over_reset code =
      ap (λ (r : Option SendFault). (let after : Sending = record { lane = cond (is_some r) s.lane (broken_off s.lane code); due = cond (is_some r) s.due (record { offsets = set.empty; fin = false }) } in after)) over_reset_refused

  pub over_stopped : (code : ℕ) → after_stopped s code ≡ s
  over_stopped code =
      ap (λ (r : Option SendFault). (let after : Sending = record { lane = cond (is_some r) s.lane (record (broken_off s.lane code) { stopped = first_code s.lane.stopped code }); due = cond (is_some r) s.due (record { offsets = set.empty; fin = false }) } in after)) over_reset_refused

  over_told : (code : ℕ) → after_asked s code ≡ s
  over_told code = ap (λ (r : Option SendFault). (let after : Sending = record s { lane = cond (is_some r) s.lane (record s.lane { stopped = first_code s.lane.stopped code }) } in after)) over_reset_refused

  pub over_stop : (owner_answers : Bool) (code : ℕ) → after_stop owner_answers s code ≡ s
  over_stop true code = over_told code
  over_stop false code = over_stopped code

  pub over_acked : (c : Chunk) → WasSent s.lane c → after_acked s c ≡ s
  over_acked c was = grind (arith, nat_tests, rest_acked)

  pub over_sent : (c : Chunk) → IsDueChunk s c → ⊥
  over_sent c due = none_goes s c (ap (λ (t : Sending). t.due.offsets) o.is) (ap (λ (t : Sending). t.due.fin) o.is) due

  pub over_lost : (c : Chunk) → WasSent s.lane c → after_lost s c ≡ s
  over_lost c was = grind (arith, nat_tests, rest_lost)

  -- what it has for a packet or an owner is its end
  over_ended : send_ended s.lane ≡ true
  over_ended = ap (λ (t : Sending). send_ended t.lane) o.is ∙ whole_is o.written

is_end : Task → Bool
is_end tasks.Ended = true
is_end other = false

over_has : (t : Task) (s : Sending) → IsOver s → has t s ≡ is_end t
unfolding is_end
over_has tasks.Bytes s o = ap (has tasks.Bytes) o.is ∙ rw (none_below (over_sending s.lane.id o.written s.lane.limit o.blocked s.lane.buffer o.widest) s.lane.limit (λ q le. set.contains-empty nat_cmp q)) (let none : nat_lt o.written (min o.written s.lane.limit) ≡ false = grind (arith, nat_tests) in grind (arith))
over_has tasks.Again s o = ap (has tasks.Again) o.is ∙ none_below (over_sending s.lane.id o.written s.lane.limit o.blocked s.lane.buffer o.widest) o.written (λ q le. set.contains-empty nat_cmp q)
over_has tasks.Ended s o = over_ended s o
over_has tasks.Writable s o = ap (has tasks.Writable) o.is
over_has tasks.Funded s o = ap (has tasks.Funded) o.is
over_has tasks.Stopped s o = ap (has tasks.Stopped) o.is

-- a write, through an edit of its half
pub wrote_in : {leaves : Sending → Result ℕ SendFault → Sending → Type 0} (t t' : Tables Sending) (n : ℕ) (s : Sending) (r : Result ℕ SendFault) (bytes : List ℕ) → IsEditedIn (OrStays leaves (Err Finished)) s t n r t'
    → ((now : Sending) → leaves s r now → IfOk r (λ j. (refusal s.lane ≡ None) × (j ≡ accepted s.lane (length bytes)) × (now ≡ after_write s (take j bytes))) × IfErr r (λ f. (now ≡ s) × (f ≡ unwrap_or (refusal s.lane) NoMemory)))
    → IfOk r (λ j. (refusal s.lane ≡ None) × (j ≡ accepted s.lane (length bytes)) × (t' ≡ updated t n (λ x. after_write x (take j bytes)) (lookup t n))) × IfErr r (λ f. (t' ≡ t) × (f ≡ unwrap_or (refusal s.lane) NoMemory))
wrote_in t t' n s (Ok j) bytes e left =
    elim e.left [ inl l ↦ (let (none, is, now) = (left e.now l).0 in ((none, is, e.is (λ x. after_write x (take j bytes)) now), tt)) | inr o ↦ (let not = o.1 in grind (arith, not)) ]
wrote_in t t' n s (Err f) bytes e left =
    elim e.left [ inl l ↦ (let (now, is) = (left e.now l).1 in (tt, (e.same now, is))) | inr o ↦ (tt, (e.same o.2, (let is = o.1 in let none = over_refused _ o.0 in grind (arith, is, none)))) ]

-- one that is over once its limit, its buffer or that it was blocked was set was over before
module _ (s : Sending) where
  allow_over : (limit : ℕ) → IsOver (after_allow s limit) → IsOver s
  allow_over limit o = record { written = o.written; blocked = o.blocked; widest = o.widest; is = ap (λ (t : Sending). record t { lane = record t.lane { limit = s.lane.limit } }) o.is }

  buffer_over : (size : ℕ) → IsOver (after_buffer s size) → IsOver s
  buffer_over size o = record { written = o.written; blocked = o.blocked; widest = s.lane.widest; is = ap (λ (t : Sending). record t { lane = record t.lane { buffer = s.lane.buffer; widest = s.lane.widest } }) o.is }

  blocked_over : IsOver (after_blocked s) → IsOver s
  blocked_over o = record { written = o.written; blocked = s.lane.blocked_sent; widest = o.widest; is = ap (λ (t : Sending). record t { lane = record t.lane { blocked_sent = s.lane.blocked_sent } }) o.is }

-- so with any value that is set; and no sum moves
pub set_over : (s : Sending) (setting : Setting) → IsOver (after_set setting s) → IsOver s
set_over s (settings.Limit limit) o = allow_over s limit o
set_over s (settings.Buffer size) o = buffer_over s size o
set_over s settings.Blocked o = blocked_over s o

pub set_sums : (s : Sending) (setting : Setting) → (promised_of (after_set setting s) ≡ promised_of s) × (kept_of (after_set setting s) ≡ kept_of s)
set_sums s (settings.Limit limit) = (refl, refl)
set_sums s (settings.Buffer size) = (refl, refl)
set_sums s settings.Blocked = (refl, refl)

-- a half was put so that it is over exactly if it was
module _ (xs now : List Sending) (marks : SendMarks) (i : ℕ) (y : Sending) (there : i < length xs) (is : now ≡ set_list xs i y) where
  put_read : half_at now i ≡ y
  put_read = ap (λ l. half_at l i) is ∙ get_or-set_same xs i y no_sending there

  pub put_over : AreAllMarked xs marks → (IsOver y → IsOver (half_at xs i)) → IsOver (half_at now i) → AreMarksOf marks i (half_at now i)
  put_over marked back o t = marks_read xs marks i (half_at xs i) marked there (there_at xs i there) t ∙ over_has t (half_at xs i) (back (subst IsOver put_read o)) ∙ sym (over_has t (half_at now i) o)

  -- and looked at
  pub put_looked : (new : SendMarks) (n k : ℕ) → ((t : Task) → marks_of new t ≡ slice_set (marks_of marks t) i (has t (half_at now i))) → promised_of y ≡ promised_of (half_at xs i) → kept_of y ≡ kept_of (half_at xs i)
      → (length xs ≤ 2 ^ 60) × AreAllMarked xs marks × AreSums xs n k → (length now ≤ 2 ^ 60) × AreAllMarked now new × AreSums now n k
  put_looked new n k looked promised kept h =
      subst (λ (l : List Sending). (length l ≤ 2 ^ 60) × AreAllMarked l new × AreSums l n k) (sym is)
      (all_looked xs marks new n k n k i y there (λ t. looked t ∙ ap (λ s. slice_set (marks_of marks t) i (has t s)) put_read) h (sums_same xs n k i (half_at xs i) y there (there_at xs i there) promised kept h.2))
