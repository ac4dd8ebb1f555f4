-- The halves of a type, which one after the other may send more.
use Rattle.qs_conn.specs.declared.send_marks.Moves.TheVariants as moves
use Rattle.std.specs.FinSet as sets
use Rattle.qs_conn.specs.declared.send_marks.Task.TheVariants as tasks
use Rattle.std.proofs.lemmas.Bool.Decides.{nat_tests}
use Rattle.std.proofs.lemmas.Grind.{common_steps}
use Rattle.std.proofs.Common.{◌≡◌, ℕ, zero, suc, ◌+◌, ◌*◌, ◌%◌, ◌/◌, ◌<◌, ◌≤◌, List, [], ◌∷◌, ◌++◌, map, take, drop, length, Option, Some, None, is_some, true, slice_get, slice_set, refl, sym, ap, ◌∙◌, subst, arith, ◌-◌, not, cond, ◌^◌, min, get_or, Bool, ◌&&◌, ◌||◌, ◌==◌, nat_lt, false, inl, inr}
use Rattle.std.proofs.lemmas.List.{length-append, length-map, length-take, length-drop, take_more}
use Rattle.qs_send.specs.Lane.{SendLane, Sending, new_sending, new_lane as new_send_lane, after_sent, new_lane}
use Rattle.qs_machine.specs.Tables.{Tables, table, with_table, lookup, update, updated, total, open_to, widened}
use Rattle.qs_machine.specs.Ends.{End, on_send, is_own, is_uni, first_send_limit, opened_by_peer}
use Rattle.qs_machine.specs.Sums.{or_no_sending, changed, stored_on, tables_of}
use Rattle.qs_machine.proofs.TableLaws.{table_same, with_same, value, total_le, total_both, total_open}
use Rattle.std.specs.List.{sum_by, list_any, range_with_len}
use Rattle.std.proofs.lemmas.List.Sums.{sum_by-cons, sum_by-append, sum_by-set, get_or-le-sum_by}
use Rattle.qs_wire.specs.declared.stream_id.Role.{Role}
use Rattle.qs_recv.specs.Lane.{RecvLane, highest, taken}
use Rattle.qs_recv.specs.Room.{least_room}
use Rattle.qs_recv.proofs.LawfulLaws.{taken_within}
use Rattle.qs_calls.specs.declared.settings.Settings.{Settings}
use Rattle.qs_machine.specs.Asking.{kept_on}
use Rattle.qs_machine.specs.Credit.{spent, all_taken, unsent_on}
use Rattle.qs_machine.specs.Outgoing.{lanes_of, Outgoing, sent_sum, with_sends}
use Rattle.qs_machine.specs.Standing.{HasLawfulLane, IsInCredit}
use Rattle.qs_machine.proofs.Counts.{within_credit}
use Rattle.qs_conn.specs.declared.held.Held.{Held}
use Rattle.qs_conn.specs.Held.{keeps, least_held, most_held, most_buffered, half_count, IsHeldBy}
use Rattle.qs_conn.specs.Rooms.{IsRoom, IsBuffer, IsSumOf, lists}
use Rattle.std.proofs.Math.ListN.{set, length-set}
use Rattle.qs_ranges.specs.Numbers.{MAX_VARINT, EndsBefore, IsLeastFrom}
use Rattle.qs_send.specs.declared.parts.Chunk.{Chunk}
use Rattle.qs_send.specs.Chunks.{IsDueChunk, has_unsent}
use Rattle.qs_send.specs.Sound.{IsLawful}
use Rattle.qs_send.proofs.Steps.{none_due}
use Rattle.qs_machine.proofs.TableEdits.{table_at, opened_closed}
use Rattle.qs_machine.proofs.LaneTables.{lanes_closed}
use Rattle.qs_machine.proofs.Taken.{mid_sends, sends_back}
use Rattle.qs_conn.specs.Promised.{promised_on, EachSmall, IsSumOf as IsSumOfOfPromised, AreSums}
use Rattle.qs_conn.specs.Tasks.{Stays, counted, AreAllMarked, AreMarkedBefore, AreMarksOf, begins, has, is_due_below, marks_of, may_end}
use Rattle.qs_conn.specs.declared.send_marks.Moves.{Moves}
use Rattle.std.specs.Ordering.{nat_cmp}
use Rattle.std.proofs.lemmas.Bool.{both_ways, cases_lt, true≢false, and_parts, or_parts, false_from_ne_true}
use Rattle.qs_send.specs.Writable.{is_writable}
use Rattle.qs_conn.specs.declared.send_marks.Task.{Task}
use Rattle.qs_conn.specs.declared.send_marks.SendMarks.{SendMarks}
use Rattle.qs_conn.specs.Marks.{is_marked, one_has, HasRoom, IsClearedFrom, IsWider}
use Rattle.std.proofs.Math.Seq.{take-append_seam}
use Rattle.qs_conn.proofs.Marked.{mark_of, marks_set, marks_fewer, marks_wider, marks_next, unmarked_next}

module _ {X : Type 0} where
  with_twice : (t : Tables X) (k : ℕ) (xs ys : List X) → with_table (with_table t k xs) k ys ≡ with_table t k ys
  with_twice t k xs ys = grind (arith, nat_tests)

  update_with : (t : Tables X) (n : ℕ) (xs : List X) (y : X) → update (with_table t (n % 4) xs) n y ≡ with_table t (n % 4) (slice_set xs (n / 4) y)
  unfolding update
  update_with t n xs y = ap (λ ys. with_table (with_table t (n % 4) xs) (n % 4) (slice_set ys (n / 4) y)) (table_same t (n % 4) xs) ∙ with_twice t (n % 4) xs _

  updated_with : (t : Tables X) (n : ℕ) (xs : List X) (f : X → X) → updated (with_table t (n % 4) xs) n f (lookup (with_table t (n % 4) xs) n) ≡ with_table t (n % 4) (changed xs (n / 4) f (slice_get xs (n / 4)))
  updated_with t n xs f = ap (updated (with_table t (n % 4) xs) n f) (with_same t n n xs refl) ∙ go (slice_get xs (n / 4))
    where
      go : (o : Option X) → updated (with_table t (n % 4) xs) n f o ≡ with_table t (n % 4) (changed xs (n / 4) f o)
      go None = refl
      go (Some x) = update_with t n xs (f x)

  -- the list of which the first i elements are changed
  abbrev pub first_changed : (X → X) → ℕ → List X → List X
  first_changed f i xs = map f (take i xs) ++ drop i xs

  none_changed : (f : X → X) (xs : List X) → first_changed f 0 xs ≡ xs
  none_changed f xs = grind (arith, nat_tests)

  all_changed : (f : X → X) (i : ℕ) (xs : List X) → length xs ≤ i → first_changed f i xs ≡ map f xs
  all_changed f i xs le = grind (arith, common_steps)

  changed_len : (f : X → X) (i : ℕ) (xs : List X) → length (first_changed f i xs) ≡ length xs
  changed_len f i xs = omega (arith, length-append (map f (take i xs)) (drop i xs), length-map (take i xs) f, length-take i xs, length-drop i xs)

  one_more : (f : X → X) (i : ℕ) (xs : List X) → i < length xs → changed (first_changed f i xs) i f (slice_get (first_changed f i xs) i) ≡ first_changed f (suc i) xs
  one_more f i [] lt = absurd (omega (arith, lt))
  one_more f zero (x ∷ xs) lt = ap (λ ys. f x ∷ ys) (sym (none_changed f xs))
  one_more f (suc i) (x ∷ xs) lt = below (slice_get (first_changed f i xs) i) ∙ ap (λ ys. f x ∷ ys) (one_more f i xs (omega (arith, lt)))
    where
      below : (o : Option X) → changed (f x ∷ first_changed f i xs) (suc i) f o ≡ f x ∷ changed (first_changed f i xs) i f o
      below None = refl
      below (Some y) = refl

  there_below : (xs : List X) (i : ℕ) → i < length xs → is_some (slice_get xs i) ≡ true
  there_below [] i lt = absurd (omega (arith, lt))
  there_below (x ∷ xs) zero lt = refl
  there_below (x ∷ xs) (suc i) lt = there_below xs i (omega (arith, lt))

-- the end whose first halves of a type are changed
abbrev pub first_halves : (SendLane → SendLane) → ℕ → ℕ → End → End
first_halves f k i e = record e { sends = with_table e.sends k (first_changed f i (table e.sends k)) }

pub halves_all : (f : SendLane → SendLane) (k i : ℕ) (e now : End) → now ≡ first_halves f k i e → length (table e.sends k) ≤ i → now ≡ record e { sends = with_table e.sends k (map f (table e.sends k)) }
halves_all f k i e now is all = is ∙ ap (λ (xs : List SendLane). record e { sends = with_table e.sends k xs }) (all_changed f i (table e.sends k) all)

module _ (f : SendLane → SendLane) (k i n : ℕ) (few : k < 4) (number : n ≡ i * 4 + k) (e : End) (below : i < length (table e.sends k)) where
  kind_is : n % 4 ≡ k
  kind_is = omega (arith, number, few)

  index_is : n / 4 ≡ i
  index_is = omega (arith, number, few)

  pub half_there : (mid : End) → mid ≡ first_halves f k i e → is_some (lookup mid.sends n) ≡ true
  half_there mid is =
      let xs = first_changed f i (table e.sends k) in
      let at : lookup (with_table e.sends k xs) n ≡ slice_get xs i = subst (λ j. lookup (with_table e.sends j xs) n ≡ slice_get xs i) kind_is (with_same e.sends n n xs refl ∙ ap (slice_get xs) index_is) in
      ap (λ (x : End). is_some (lookup x.sends n)) is ∙ ap is_some at ∙ there_below xs i (subst (λ m. i < m) (sym (changed_len f i (table e.sends k))) below)

  pub halves_more : (mid now : End) → mid ≡ first_halves f k i e → now ≡ on_send n f mid → now ≡ first_halves f k (i + 1) e
  halves_more mid now is step =
      let xs = first_changed f i (table e.sends k) in
      let next : suc i ≡ i + 1 = omega arith in
      let at : updated (with_table e.sends k xs) n f (lookup (with_table e.sends k xs) n) ≡ with_table e.sends k (changed xs i f (slice_get xs i)) =
      subst (λ j. updated (with_table e.sends j xs) n f (lookup (with_table e.sends j xs) n) ≡ with_table e.sends j (changed xs i f (slice_get xs i))) kind_is
      (updated_with e.sends n xs f ∙ ap (λ m. with_table e.sends (n % 4) (changed xs m f (slice_get xs m))) index_is) in
      step ∙ ap (on_send n f) is ∙ ap (λ (t : Tables SendLane). record e { sends = t }) (at ∙ ap (with_table e.sends k) (one_more f i (table e.sends k) below ∙ ap (λ j. first_changed f j (table e.sends k)) next))

-- ---- How much memory the rings and the buffers of an end take, all together.

module _ {X : Type 0} (R : X → ℕ → Type 0) where
  pub sum_none : IsSumOf R [] 0
  unfolding IsSumOf
  sum_none = refl

  one_more_held : (xs : List X) (x : X) (n m : ℕ) → IsSumOf R xs n → R x m → IsSumOf R (xs ++ x ∷ []) (min (n + m) (2 ^ 64 - 1))
  unfolding IsSumOf
  one_more_held [] x n m is r = (m, 0, r, refl, omega (arith, is))
  one_more_held (y ∷ ys) x n m (k, rest, q, sum, is) r = (k, min (rest + m) (2 ^ 64 - 1), q, one_more_held ys x rest m sum r, omega (arith, is))

  pub sum_more : (xs : List X) (i : ℕ) (d : X) (n m : ℕ) → i < length xs → IsSumOf R (take i xs) n → R (get_or xs i d) m → IsSumOf R (take (i + 1) xs) (min (n + m) (2 ^ 64 - 1))
  sum_more xs i d n m lt sum r = rw (take_more xs i d lt) (one_more_held (take i xs) (get_or xs i d) n m sum r)

  -- What bounds each number bounds the sum.
  module _ (lo hi : X → ℕ) (within : (x : X) (n : ℕ) → R x n → (min (lo x) (2 ^ 64 - 1) ≤ n) × (n ≤ hi x)) where
    sum_within : (xs : List X) (n : ℕ) → IsSumOf R xs n → (min (sum_by lo xs) (2 ^ 64 - 1) ≤ n) × (n ≤ sum_by hi xs)
    unfolding IsSumOf
    sum_within [] n is = (omega (arith, is), omega (arith, is))
    sum_within (x ∷ xs) n (m, rest, r, sum, is) =
        let one = within x m r in
        let others = sum_within xs rest sum in
        rw (sum_by-cons lo x xs, sum_by-cons hi x xs) (omega (arith, one, others, is), omega (arith, one, others, is))

-- of the four lists
pub all_within : {X : Type 0} (R : X → ℕ → Type 0) (lo hi : X → ℕ) → ((x : X) (n : ℕ) → R x n → (min (lo x) (2 ^ 64 - 1) ≤ n) × (n ≤ hi x))
    → (t : Tables X) (n : ℕ) → IsSumOf (IsSumOf R) (lists t) n → (min (total lo t) (2 ^ 64 - 1) ≤ n) × (n ≤ total hi t)
unfolding total
all_within R lo hi within t n sum = (let both = sum_within (IsSumOf R) (sum_by lo) (sum_by hi) (sum_within R lo hi within) (lists t) n sum in (omega (arith, both), omega (arith, both)))

pub lists_are : {X : Type 0} (ls : List (List X)) → length ls ≡ 4 → lists (tables_of ls) ≡ ls
lists_are ls len = grind (arith, common_steps)

sum_of : {X Y : Type 0} (f : X → Y) (R : X → ℕ → Type 0) (Q : Y → ℕ → Type 0) → ((x : X) (n : ℕ) → R x n → Q (f x) n) → (xs : List X) (n : ℕ) → IsSumOf R xs n → IsSumOf Q (map f xs) n
unfolding IsSumOf
sum_of f R Q each [] n is = is
sum_of f R Q each (x ∷ xs) n (m, rest, r, sum, is) = (m, rest, each x m r, sum_of f R Q each xs rest sum, is)

pub of_lanes : (ls : List (List Sending)) (n : ℕ) → length ls ≡ 4 → IsSumOf (IsSumOf (λ s. IsBuffer s.lane)) ls n → IsSumOf (IsSumOf IsBuffer) (lists (lanes_of (tables_of ls))) n
of_lanes (a ∷ b ∷ c ∷ d ∷ []) n len sum =
    sum_of (map (λ (s : Sending). s.lane)) (IsSumOf (λ s. IsBuffer s.lane)) (IsSumOf IsBuffer) (sum_of (λ (s : Sending). s.lane) (λ s. IsBuffer s.lane) IsBuffer (λ s m r. r)) (a ∷ b ∷ c ∷ d ∷ []) n sum
of_lanes Y n len sum = absurd (omega (arith, len))

-- Rings and buffers

module _ {X : Type 0} (f : X → ℕ) where
  -- a page for each that counts
  pages : (xs : List X) → sum_by (λ x. 4096 * f x) xs ≡ 4096 * sum_by f xs
  pages [] = refl
  pages (x ∷ xs) = rw (sum_by-cons (λ y. 4096 * f y) x xs, sum_by-cons f x xs) (omega (arith, pages xs))

  total_pages : (t : Tables X) → total (λ x. 4096 * f x) t ≡ 4096 * total f t
  unfolding total
  total_pages t = omega (arith, pages t.client_bidi, pages t.server_bidi, pages t.client_uni, pages t.server_uni)

total_fourfold : (f : RecvLane → ℕ) (t : Tables RecvLane) → total (λ l. (f l + f l) + (f l + f l)) t ≡ 4 * total f t
total_fourfold f t = omega (arith, total_both (λ l. f l + f l) (λ l. f l + f l) t, total_both f f t)

of_one : (role : Role) (s : Settings) (n : ℕ) (o : Option RecvLane) → HasLawfulLane role s n o
    → value (λ l. most_held l + ((taken l + taken l) + (taken l + taken l))) o ≤ value (λ l. ((highest l + highest l) + (highest l + highest l)) + 4096 * cond (keeps l) 1 0) o
of_one role s n o h = grind (arith, nat_tests, taken_within, not)

-- four times what was spent beyond what was taken, and a page for each half that keeps bytes
most_of_all : (e : End) → IsInCredit e → total most_held e.recvs + 4 * all_taken e ≤ 4 * spent e + 4096 * half_count e
most_of_all e h =
    omega (
      arith,
      total_le (λ l. most_held l + ((taken l + taken l) + (taken l + taken l))) (λ l. ((highest l + highest l) + (highest l + highest l)) + 4096 * cond (keeps l) 1 0) e.recvs e.recvs (λ n. of_one e.role e.settings n (lookup e.recvs n) (h.lanes n)),
      total_both most_held (λ l. (taken l + taken l) + (taken l + taken l)) e.recvs,
      total_both (λ l. (highest l + highest l) + (highest l + highest l)) (λ l. 4096 * cond (keeps l) 1 0) e.recvs,
      total_fourfold taken e.recvs,
      total_fourfold highest e.recvs,
      total_pages (λ l. cond (keeps l) 1 0) e.recvs,
    )

-- what a half tells is no less than its ring takes
pub half_least : (lane : RecvLane) (n : ℕ) → (0 < stored_on lane → least_room lane.arrived ≤ n) → least_held lane ≤ n
half_least lane n least = grind (arith, nat_tests)

-- the public bounds, from what all halves take
pub is_held : (e : End) (held : Held) → IsInCredit e → IsSumOf (IsSumOf IsRoom) (lists e.recvs) held.receiving → IsSumOf (IsSumOf IsBuffer) (lists e.sends) held.sending → IsHeldBy e held
is_held e held h receiving sending =
    let stored = all_within IsRoom stored_on most_held (λ l n r. (omega (arith, r.stored), r.most)) e.recvs held.receiving receiving in
    let least = all_within IsRoom least_held most_held (λ l n r. (omega (arith, r.least), r.most)) e.recvs held.receiving receiving in
    let kept = all_within IsBuffer kept_on most_buffered (λ l n r. (omega (arith, r.kept), r.most)) e.sends held.sending sending in
    let within = (within_credit (record e { granted_bidi = 0; granted_uni = 0 }) (h, (omega arith, omega arith))).stored in
    let all = most_of_all e h in
    grind (arith, nat_tests)

-- what is asked of lanes, asked of halves
pub total_lanes : (f : SendLane → ℕ) (t : Tables Sending) → total f (lanes_of t) ≡ total (λ s. f s.lane) t
unfolding total
total_lanes f t = grind (arith, common_steps)

-- ---- How many bytes halves promise and keep: one half changes, some open, some leave.

abbrev pub promised_of : Sending → ℕ
promised_of s = promised_on s.lane

abbrev pub kept_of : Sending → ℕ
kept_of s = kept_on s.lane

-- One half among all, whatever is counted of each

module _ (f : Sending → ℕ) where
  small_set : (xs : List Sending) (i : ℕ) (y : Sending) → f y ≤ MAX_VARINT → EachSmall f xs → EachSmall f (set xs i y)
  small_set [] i y small each = tt
  small_set (x ∷ xs) zero y small each = (small, each.1)
  small_set (x ∷ xs) (suc i) y small each = (each.0, small_set xs i y small each.1)

  small_at : (xs : List Sending) (i : ℕ) (d : Sending) → i < length xs → EachSmall f xs → f (get_or xs i d) ≤ MAX_VARINT
  small_at [] i d there each = absurd (omega (arith, there))
  small_at (x ∷ xs) zero d there each = each.0
  small_at (x ∷ xs) (suc i) d there each = small_at xs i d (omega (arith, there)) each.1

  sum_small : (xs : List Sending) → EachSmall f xs → sum_by f xs ≤ length xs * MAX_VARINT
  sum_small [] each = omega arith
  sum_small (x ∷ xs) each = omega (arith, sum_by-cons f x xs, each.0, sum_small xs each.1)

  -- the sum has few digits
  pub sum_few : (xs : List Sending) (n : ℕ) → length xs ≤ 2 ^ 60 → IsSumOfOfPromised f xs n → n ≤ 2 ^ 122
  sum_few xs n few h = omega (arith, few, h.is, sum_small xs h.small)

  -- one half's part
  pub sum_part : (xs : List Sending) (n i : ℕ) (x : Sending) → i < length xs → x ≡ get_or xs i x → IsSumOfOfPromised f xs n → f x ≤ n
  sum_part xs n i x there at h = grind (arith, nat_tests, get_or-le-sum_by)

  pub sum_set : (xs : List Sending) (n now i : ℕ) (x y : Sending) → i < length xs → x ≡ get_or xs i x → f y ≤ MAX_VARINT → now + f x ≡ n + f y → IsSumOfOfPromised f xs n → IsSumOfOfPromised f (set xs i y) now
  sum_set xs n now i x y there at small moved h =
      let whole = sum_by-set f xs i y x there in
      let e : f (get_or xs i x) ≡ f x = ap f (sym at) in
      record { is = omega (arith, whole, e, h.is, moved); small = small_set xs i y small h.small }

  -- a change that counts neither more nor less
  pub sum_same : (xs : List Sending) (n i : ℕ) (x y : Sending) → i < length xs → x ≡ get_or xs i x → f y ≡ f x → IsSumOfOfPromised f xs n → IsSumOfOfPromised f (set xs i y) n
  sum_same xs n i x y there at same h =
      let e : f (get_or xs i x) ≡ f x = ap f (sym at) in
      sum_set xs n n i x y there at (omega (arith, same, e, small_at xs i x there h.small)) (omega (arith, same)) h

  -- a half that may have changed in any way is counted anew
  pub sum_moved : (xs : List Sending) (n i before after : ℕ) (s y : Sending) → i < length xs → s ≡ get_or xs i s → before ≡ f s → after ≡ f y → after ≤ MAX_VARINT → IsSumOfOfPromised f xs n → IsSumOfOfPromised f (set xs i y) (n - before + after)
  sum_moved xs n i before after s y there at was is small h =
      let part = sum_part xs n i s there at h in
      sum_set xs n (n - before + after) i s y there at (omega (arith, is, small)) (omega (arith, part, was, is)) h

-- a change that neither promises nor keeps more or less
pub sums_same : (xs : List Sending) (n k i : ℕ) (x y : Sending) → i < length xs → x ≡ get_or xs i x → promised_of y ≡ promised_of x → kept_of y ≡ kept_of x → AreSums xs n k → AreSums (set xs i y) n k
sums_same xs n k i x y there at promised kept h =
    record { promised = sum_same promised_of xs n i x y there at promised h.promised; kept = sum_same kept_of xs k i x y there at kept h.kept }

-- where a change may move none, none is counted
sum_uncounted : (f : Sending → ℕ) (xs : List Sending) (n i was is : ℕ) (s now : Sending) → i < length xs → s ≡ get_or xs i s → was ≡ 0 → is ≡ 0 → f now ≡ f s → IsSumOfOfPromised f xs n → IsSumOfOfPromised f (set xs i now) (n - was + is)
sum_uncounted f xs n i was is s now there at before after same h =
    let e : n ≡ n - was + is = omega (arith, before, after) in
    subst (λ k. IsSumOfOfPromised f (set xs i now) k) e (sum_same f xs n i s now there at same h)

-- one that may do both is counted anew, where it may
sum_counted : (f : Sending → ℕ) (m : Moves) (xs : List Sending) (n i was is : ℕ) (s now : Sending) → i < length xs → s ≡ get_or xs i s → was ≡ counted m (f s) → is ≡ counted m (f now) → is ≤ MAX_VARINT → (counted m 1 ≡ 0 → f now ≡ f s) → IsSumOfOfPromised f xs n
    → IsSumOfOfPromised f (set xs i now) (n - was + is)
sum_counted f moves.Room xs n i was is s now there at before after small same h = sum_moved f xs n i was is s now there at before after small h
sum_counted f moves.All xs n i was is s now there at before after small same h = sum_moved f xs n i was is s now there at before after small h
sum_counted f _ xs n i was is s now there at before after small same h = sum_uncounted f xs n i was is s now there at before after (same refl) h

uncounted : (m : Moves) (s now : Sending) → Stays m s now → counted m 1 ≡ 0 → (promised_of now ≡ promised_of s) × (kept_of now ≡ kept_of s)
uncounted m s now stays none = grind (arith, nat_tests)

pub sums_counted : (m : Moves) (xs : List Sending) (n k i before after had has : ℕ) (s now : Sending) → i < length xs → s ≡ get_or xs i s → Stays m s now → before ≡ counted m (promised_of s) → after ≡ counted m (promised_of now) → after ≤ MAX_VARINT → had ≡ counted m (kept_of s) → has ≡ counted m (kept_of now)
    → has ≤ MAX_VARINT → AreSums xs n k → AreSums (set xs i now) (n - before + after) (k - had + has)
sums_counted m xs n k i before after had has s now there at stays was is small kept_was kept_is kept_small h =
    record {
      promised = sum_counted promised_of m xs n i before after s now there at was is small (λ none. (uncounted m s now stays none).0) h.promised;
      kept = sum_counted kept_of m xs k i had has s now there at kept_was kept_is kept_small (λ none. (uncounted m s now stays none).1) h.kept;
    }

-- The changes of a half

pub sent_promises : (s : Sending) (c : Chunk) → IsLawful s → IsDueChunk s c → promised_of (after_sent s c) ≡ promised_of s
sent_promises s c law due = grind (arith, nat_tests, none_due)

-- Some open, some leave

module _ (f : Sending → ℕ) where
  small_take : (n : ℕ) (xs : List Sending) → EachSmall f xs → EachSmall f (take n xs)
  small_take zero xs each = tt
  small_take (suc n) [] each = tt
  small_take (suc n) (x ∷ xs) each = (each.0, small_take n xs each.1)

  sum_taken : (xs now : List Sending) (n count : ℕ) → now ≡ take count xs → sum_by f (take count xs) ≡ sum_by f xs → IsSumOfOfPromised f xs n → IsSumOfOfPromised f now n
  sum_taken xs now n count is same h = subst (λ l. IsSumOfOfPromised f l n) (sym is) (record { is = h.is ∙ sym same; small = small_take count xs h.small })

  small_append : (xs ys : List Sending) → EachSmall f xs → EachSmall f ys → EachSmall f (xs ++ ys)
  small_append [] ys a b = b
  small_append (x ∷ xs) ys a b = (a.0, small_append xs ys a.1 b)

pub sums_taken : (xs now : List Sending) (n k count : ℕ) → now ≡ take count xs → sum_by promised_of (take count xs) ≡ sum_by promised_of xs → sum_by kept_of (take count xs) ≡ sum_by kept_of xs → AreSums xs n k → AreSums now n k
sums_taken xs now n k count is promised kept h =
    record { promised = sum_taken promised_of xs now n count is promised h.promised; kept = sum_taken kept_of xs now k count is kept h.kept }

module _ (f : Sending → ℕ) (kind limit buffer : ℕ) (none : (i : ℕ) → f (new_sending i limit buffer) ≡ 0) where
  small_begun : (ks : List ℕ) → EachSmall f (map (λ (i : ℕ). new_sending (i * 4 + kind) limit buffer) ks)
  small_begun [] = tt
  small_begun (k ∷ ks) = (omega (arith, none (k * 4 + kind)), small_begun ks)

  sum_begun : (ks : List ℕ) → sum_by f (map (λ (i : ℕ). new_sending (i * 4 + kind) limit buffer) ks) ≡ 0
  sum_begun [] = refl
  sum_begun (k ∷ ks) = omega (arith, sum_by-cons f (new_sending (k * 4 + kind) limit buffer) (map (λ (i : ℕ). new_sending (i * 4 + kind) limit buffer) ks), sum_begun ks, none (k * 4 + kind))

  sum_opened : (xs now : List Sending) (n : ℕ) (ks : List ℕ) → now ≡ xs ++ map (λ (i : ℕ). new_sending (i * 4 + kind) limit buffer) ks → IsSumOfOfPromised f xs n → IsSumOfOfPromised f now n
  sum_opened xs now n ks is h =
      subst (λ l. IsSumOfOfPromised f l n) (sym is)
      (record {
        is = omega (arith, h.is, sum_by-append f xs (map (λ (i : ℕ). new_sending (i * 4 + kind) limit buffer) ks), sum_begun ks);
        small = small_append f xs _ h.small (small_begun ks);
      })

pub sums_opened : (kind limit buffer : ℕ) (xs now : List Sending) (n k : ℕ) (ks : List ℕ) → now ≡ xs ++ map (λ (i : ℕ). new_sending (i * 4 + kind) limit buffer) ks → AreSums xs n k → AreSums now n k
sums_opened kind limit buffer xs now n k ks is h =
    record { promised = sum_opened promised_of kind limit buffer (λ i. refl) xs now n ks is h.promised; kept = sum_opened kept_of kind limit buffer (λ i. refl) xs now k ks is h.kept }

-- what is promised was sent, or waits to be
pub promised_parts : (t : Tables SendLane) → total promised_on t ≡ total unsent_on t + sent_sum t
promised_parts t = total_both unsent_on (λ l. l.sent_end) t

-- Streams that are closed again promise nothing

total_with : (f : Sending → ℕ) (t : Tables Sending) (k : ℕ) (ys : List Sending) → total f (with_table t k ys) + sum_by f (table t k) ≡ total f t + sum_by f ys
unfolding total
total_with f t k ys = grind (arith, nat_tests)

module _ (f : SendLane → ℕ) where
  pub closes_none : (ls : List (List Sending)) (n k count : ℕ) (d : List Sending) → length ls ≡ 4 → k ≡ n % 4
      → total f (with_table (lanes_of (tables_of ls)) (n % 4) (take count (table (lanes_of (tables_of ls)) (n % 4)))) ≡ total f (lanes_of (tables_of ls))
      → sum_by (λ (s : Sending). f s.lane) (take count (get_or ls k d)) ≡ sum_by (λ (s : Sending). f s.lane) (get_or ls k d)
  closes_none ls n k count d len kind same =
      let t = tables_of ls in
      let xs = table t (n % 4) in
      let halves : total f (lanes_of (with_table t (n % 4) (take count xs))) ≡ total (λ (s : Sending). f s.lane) (with_table t (n % 4) (take count xs)) = total_lanes f (with_table t (n % 4) (take count xs)) in
      let cut = ap (total f) (lanes_closed t (n % 4) count) in
      let all : total f (lanes_of t) ≡ total (λ (s : Sending). f s.lane) t = total_lanes f t in
      let whole = total_with (λ (s : Sending). f s.lane) t (n % 4) (take count xs) in
      let e : sum_by (λ (s : Sending). f s.lane) (take count xs) ≡ sum_by (λ (s : Sending). f s.lane) xs = omega (arith, halves, cut, all, whole, same) in
      let at : table t (n % 4) ≡ get_or ls k d = table_at ls (n % 4) d len (omega arith) ∙ ap (λ j. get_or ls j d) (sym kind) in
      subst (λ (l : List Sending). sum_by (λ (s : Sending). f s.lane) (take count l) ≡ sum_by (λ (s : Sending). f s.lane) l) at e

  module _ (none : (j limit buffer : ℕ) → f (new_send_lane j limit buffer) ≡ 0) where
    begins_none : (t : Tables SendLane) (n limit buffer : ℕ) (b : Bool) → total f (cond b t (open_to t n (λ m. new_send_lane m limit buffer))) ≡ total f t
    begins_none t n limit buffer b = grind (arith, nat_tests, total_open)

    pub peer_unwritten : (e mid : End) (n m : ℕ) → mid ≡ opened_by_peer n e → m ≡ length (table e.sends (n % 4)) → total f (with_table mid.sends (n % 4) (take m (table mid.sends (n % 4)))) ≡ total f mid.sends
    peer_unwritten e mid n m is len =
        ap (total f) (sends_back e mid n m _ is len refl)
        ∙ sym (ap (total f) (mid_sends e mid n is) ∙ begins_none e.sends n (first_send_limit e n) e.settings.send_buffer (is_own e n || (is_uni n && not (is_own e n))))

    pub unwritten_back : (o mid : Outgoing) (n m limit buffer : ℕ) (b : Bool) → mid ≡ with_sends (cond b o.sends (open_to o.sends n (λ j. new_send_lane j limit buffer))) o → m ≡ length (table o.sends (n % 4))
        → total f (with_table mid.sends (n % 4) (take m (table mid.sends (n % 4)))) ≡ total f mid.sends
    unwritten_back o mid n m limit buffer b is len =
        let opened : mid.sends ≡ cond b o.sends (open_to o.sends n (λ j. new_send_lane j limit buffer)) = ap (λ (x : Outgoing). x.sends) is in
        ap (total f) (opened_closed o.sends n (λ j. new_send_lane j limit buffer) b mid.sends _ m opened len refl) ∙ sym (ap (total f) opened ∙ begins_none o.sends n limit buffer b)

-- ---- What sending halves have, and their marks for each task.

-- Due bytes below an offset

some_below : (p : ℕ → Bool) (lo n q : ℕ) → lo ≤ q → q < lo + n → p q ≡ true → list_any p (range_with_len lo n) ≡ true
some_below p lo zero q ge lt is = absurd (omega (arith, ge, lt))
some_below p lo (suc n) q ge lt is =
    elim (cases_lt lo q) [
      | inl later ↦ (let rest = some_below p (lo + 1) n q (omega (arith, later)) (omega (arith, lt)) is in grind (arith))
      | inr here ↦ (let same : lo ≡ q = omega (arith, ge, here) in ap (λ b. b || list_any p (range_with_len (lo + 1) n)) (ap p same ∙ is))
    ]

found_below : (p : ℕ → Bool) (lo n : ℕ) → list_any p (range_with_len lo n) ≡ true → (q : ℕ) × (p q ≡ true) × (q < lo + n)
found_below p lo zero is = absurd (true≢false (sym is))
found_below p lo (suc n) is = go (p lo) refl (λ rest. found_below p (lo + 1) n rest)
  where
    go : (b : Bool) → p lo ≡ b → (list_any p (range_with_len (lo + 1) n) ≡ true → (q : ℕ) × (p q ≡ true) × (q < lo + 1 + n)) → (q : ℕ) × (p q ≡ true) × (q < lo + suc n)
    go true here later = (lo, here, omega arith)
    go false none later = let (q, at, lt) = later (ap (λ b. b || list_any p (range_with_len (lo + 1) n)) (sym none) ∙ is) in (q, at, omega (arith, lt))

pub due_below : (s : Sending) (n q : ℕ) → q < n → sets.contains s.due.offsets q ≡ true → is_due_below s n ≡ true
unfolding is_due_below
due_below s n q lt is = some_below (sets.contains s.due.offsets) 0 n q (omega arith) (omega (arith, lt)) is

pub below_due : (s : Sending) (n : ℕ) → is_due_below s n ≡ true → (q : ℕ) × (sets.contains s.due.offsets q ≡ true) × (q < n)
unfolding is_due_below
below_due s n is = let (q, at, lt) = found_below (sets.contains s.due.offsets) 0 n is in (q, at, omega (arith, lt))

pub not_below : (s : Sending) (n q : ℕ) → is_due_below s n ≡ false → q < n → sets.contains s.due.offsets q ≡ false
not_below s n q none lt = false_from_ne_true (sets.contains s.due.offsets q) (λ is. both_ways (is_due_below s n) none (due_below s n q lt is))

pub nothing_below : (s : Sending) (n : ℕ) → ((q : ℕ) → q < n → sets.contains s.due.offsets q ≡ false) → is_due_below s n ≡ false
nothing_below s n none = false_from_ne_true (is_due_below s n) (λ is. (let (q, at, lt) = below_due s n is in both_ways (sets.contains s.due.offsets q) (none q lt) at))

pub least_below : (s : Sending) (n m : ℕ) → IsLeastFrom s.due.offsets 0 m → is_due_below s n ≡ nat_lt m n
least_below s n m is = grind (arith, nat_tests, due_below, nothing_below)

pub none_below : (s : Sending) (n : ℕ) → EndsBefore s.due.offsets 0 → is_due_below s n ≡ false
none_below s n none = nothing_below s n (λ q lt. none q (omega arith))

-- What a half has not

no_end : (s : Sending) → may_end s ≡ false → s.lane.sent_end ≡ s.lane.written → s.due.fin ≡ false
no_end s none whole = grind (arith, nat_tests)

module _ (s : Sending) (none : has tasks.Bytes s ≡ false) where
  parts : (has_unsent s.lane ≡ false) × ((may_end s || is_due_below s s.lane.limit) ≡ false)
  parts = or_parts (has_unsent s.lane) (may_end s || is_due_below s s.lane.limit) none

  pub no_byte : (q : ℕ) → q < s.lane.limit → sets.contains s.due.offsets q ≡ false
  no_byte q lt = not_below s s.lane.limit q (or_parts (may_end s) (is_due_below s s.lane.limit) parts.1).1 lt

  pub no_fin : s.lane.sent_end ≡ s.lane.written → s.due.fin ≡ false
  no_fin = no_end s (or_parts (may_end s) (is_due_below s s.lane.limit) parts.1).0

  pub all_sent : s.lane.was_reset ≡ None → s.lane.sent_end < s.lane.limit → s.lane.written ≤ s.lane.sent_end
  all_sent alive below = grind (arith, nat_tests)

module _ (s : Sending) (none : has tasks.Again s ≡ false) where
  pub none_again : (q : ℕ) → q < s.lane.sent_end → sets.contains s.due.offsets q ≡ false
  none_again q lt = not_below s s.lane.sent_end q (or_parts (may_end s) (is_due_below s s.lane.sent_end) none).1 lt

  pub no_fin_again : s.lane.sent_end ≡ s.lane.written → s.due.fin ≡ false
  no_fin_again = no_end s (or_parts (may_end s) (is_due_below s s.lane.sent_end) none).0

-- where neither is
pub quiet_again : (s : Sending) → ((q : ℕ) → q < s.lane.sent_end → sets.contains s.due.offsets q ≡ false) → (s.lane.sent_end ≡ s.lane.written → s.due.fin ≡ false) → has tasks.Again s ≡ false
quiet_again s bytes end = grind (arith, nat_tests, nothing_below)

-- What it has

pub end_parts : (s : Sending) → may_end s ≡ true → (s.due.fin ≡ true) × (s.lane.sent_end ≡ s.lane.written)
end_parts s is = let (due, whole) = and_parts s.due.fin (s.lane.sent_end == s.lane.written) is in (due, grind (arith, nat_tests))

pub parts_end : (s : Sending) → s.due.fin ≡ true → s.lane.sent_end ≡ s.lane.written → may_end s ≡ true
parts_end s due whole = let same : (s.lane.sent_end == s.lane.written) ≡ true = grind (arith, nat_tests) in grind (arith, due)

pub unsent_below : (l : SendLane) → has_unsent l ≡ true → (is_some l.was_reset ≡ false) × (l.sent_end < min l.written l.limit)
unsent_below l is = let (alive, below) = and_parts (not (is_some l.was_reset)) (nat_lt l.sent_end (min l.written l.limit)) is in (grind (arith), grind (arith, nat_tests))

-- Marks

pub marks_read : (xs : List Sending) (marks : SendMarks) (i : ℕ) (s : Sending) → AreAllMarked xs marks → i < length xs → s ≡ get_or xs i s → AreMarksOf marks i s
marks_read xs marks i s h there at t = mark_of (has t) xs (marks_of marks t) (h t) i s there at

-- the marks of a half before a change
pub marked_before : (m : Moves) (marks : SendMarks) (i : ℕ) (s now : Sending) → AreMarksOf marks i s → Stays m s now → AreMarkedBefore m marks i now
marked_before moves.Sent marks i s now are stays = (s, are, stays)
marked_before moves.End marks i s now are stays = (s, are, stays)
marked_before moves.Room marks i s now are stays = (s, are, stays)
marked_before moves.All marks i s now are stays = tt

-- a half was changed and then looked at
pub all_looked : (xs : List Sending) (old new : SendMarks) (n k m j i : ℕ) (y : Sending) → i < length xs → ((t : Task) → marks_of new t ≡ slice_set (marks_of old t) i (has t y)) → (length xs ≤ 2 ^ 60) × AreAllMarked xs old × AreSums xs n k → AreSums (set xs i y) m j
    → (length (set xs i y) ≤ 2 ^ 60) × AreAllMarked (set xs i y) new × AreSums (set xs i y) m j
all_looked xs old new n k m j i y there looked h sums = (rw length-set h.0, λ t. rw (looked t) (marks_set (has t) xs (marks_of old t) (h.1 t) i y there), sums)

-- some halves leave
pub all_fewer : (xs now : List Sending) (old new : SendMarks) (sum kept n : ℕ) → now ≡ take n xs → ((t : Task) → IsClearedFrom n (marks_of old t) (marks_of new t)) → sum_by promised_of (take n xs) ≡ sum_by promised_of xs → sum_by kept_of (take n xs) ≡ sum_by kept_of xs
    → (length xs ≤ 2 ^ 60) × AreAllMarked xs old × AreSums xs sum kept → (length now ≤ 2 ^ 60) × AreAllMarked now new × AreSums now sum kept
all_fewer xs now old new sum kept n at cleared same still h =
    (rw (at, length-take) (omega (arith, h.0)), λ t. rw at (marks_fewer (has t) xs (marks_of old t) (h.1 t) n (marks_of new t) (cleared t)), sums_taken xs now sum kept n at same still h.2)

-- memory was asked for more marks
pub all_wider : (xs now : List Sending) (old new : SendMarks) (sum kept : ℕ) → now ≡ xs → ((t : Task) → IsWider (marks_of old t) (marks_of new t)) → (length xs ≤ 2 ^ 60) × AreAllMarked xs old × AreSums xs sum kept → (length now ≤ 2 ^ 60) × AreAllMarked now new × AreSums now sum kept
all_wider xs now old new sum kept is wide h = rw is (h.0, (λ t. marks_wider (has t) xs (marks_of old t) (h.1 t) (marks_of new t) (wide t)), h.2)

-- a half begins with what its limit and its buffer let it have
begins_writable : (id limit buffer : ℕ) → is_writable (new_lane id limit buffer) ≡ nat_lt 0 buffer
begins_writable id limit buffer = grind (arith, nat_tests)

pub begins_with : (t : Task) (id limit buffer : ℕ) → has t (new_sending id limit buffer) ≡ begins t limit buffer
begins_with tasks.Bytes id limit buffer =
    rw (none_below (new_sending id limit buffer) limit (λ q le. sets.contains-empty nat_cmp q)) (let none : nat_lt 0 (min 0 limit) ≡ false = grind (arith, nat_tests) in grind (arith))
begins_with tasks.Again id limit buffer = none_below (new_sending id limit buffer) 0 (λ q le. sets.contains-empty nat_cmp q)
begins_with tasks.Writable id limit buffer = begins_writable id limit buffer
begins_with tasks.Funded id limit buffer = ap (λ b. b && nat_lt 0 limit) (begins_writable id limit buffer)
begins_with _ id limit buffer = refl

-- one more opens
module _ (xs : List Sending) (old wide : SendMarks) (i : ℕ) (at : i ≡ length xs) (more : (t : Task) → IsWider (marks_of old t) (marks_of wide t)) (marked : AreAllMarked xs old) where
  widely : AreAllMarked xs wide
  widely t = marks_wider (has t) xs (marks_of old t) (marked t) (marks_of wide t) (more t)

  pub none_next : (t : Task) → is_marked (marks_of wide t) i ≡ false
  none_next t = unmarked_next (has t) xs (marks_of wide t) (widely t) i at

  pub all_next : (kind limit buffer : ℕ) (now : List Sending) (new : SendMarks) (sum kept : ℕ) → i < 2 ^ 60 → now ≡ xs ++ new_sending (i * 4 + kind) limit buffer ∷ [] → ((t : Task) → HasRoom i (marks_of old t) → HasRoom (i + 1) (marks_of wide t))
      → ((t : Task) → marks_of new t ≡ slice_set (marks_of wide t) i (begins t limit buffer)) → AreSums xs sum kept → (length now ≤ 2 ^ 60) × AreAllMarked now new × AreSums now sum kept
  all_next kind limit buffer now new sum kept few is room begun sums =
      let id = i * 4 + kind in (
        rw (is, length-append) (omega (arith, at, few)),
        λ t. rw (is, begun t) (marks_next (has t) xs (marks_of wide t) (widely t) i (new_sending id limit buffer) (begins t limit buffer) at (room t (omega (arith, at, (marked t).room))) (begins_with t id limit buffer)),
        sums_opened kind limit buffer xs now sum kept (i ∷ []) is sums,
      )

-- halves that opened count for nothing
pub sum_back : (f : Sending → ℕ) (kind limit buffer : ℕ) → ((i : ℕ) → f (new_sending i limit buffer) ≡ 0) → (xs now : List Sending) (n count : ℕ) → now ≡ widened xs n (λ i. new_sending (i * 4 + kind) limit buffer) → count ≡ length xs → sum_by f (take count now) ≡ sum_by f now
sum_back f kind limit buffer none xs now n count is at =
    let ks = range_with_len (length xs) (n - length xs) in
    rw (is, at) (ap (sum_by f) (take-append_seam xs _) ∙ omega (arith, sum_by-append f xs (map (λ (i : ℕ). new_sending (i * 4 + kind) limit buffer) ks), sum_begun f kind limit buffer none ks))

pub one_open : (p : Sending → Bool) (o : Option Sending) → is_some o ≡ true → one_has p o ≡ p (or_no_sending o)
one_open p None is = absurd (true≢false (sym is))
one_open p (Some s) is = refl
