-- Four lists stand for the tables: what a change of one list is to them.
use Rattle.std.proofs.Common.{◌≡◌, ℕ, zero, suc, ◌+◌, ◌*◌, ◌/◌, ◌%◌, ◌<◌, Bool, true, false, List, [], ◌∷◌, length, get_or, map, take, Option, Some, None, is_some, Result, Ok, Err, nat_lt, cond, unwrap_or, refl, ap, sym, ◌∙◌, arith}
use Rattle.std.specs.List.{slice_get, sum_by}
use Rattle.std.specs.Result.{OnOk, IfOk, IfErr}
use Rattle.std.proofs.Math.ListN.{set}
use Rattle.std.proofs.Math.Seq.{take-append_seam, take-length}
use Rattle.std.proofs.lemmas.Bool.{both_ways}
use Rattle.std.proofs.lemmas.Bool.Decides.{nat_tests}
use Rattle.std.proofs.lemmas.List.{set-get_or, get_or_default}
use Rattle.qs_recv.specs.Lane.{RecvLane, new_lane}
use Rattle.qs_recv.specs.declared.credit.Share.{Share}
use Rattle.qs_machine.specs.Tables.{Tables, table, with_table, lookup, update, updated, open_to, each, total, widened}
use Rattle.qs_machine.specs.Verdicts.{or_new}
use Rattle.qs_send.specs.declared.parts.SendFault.{SendFault}
use Rattle.qs_send.specs.declared.parts.SendFault.TheVariants.{NoMemory}
use Rattle.qs_send.specs.Lane.{Sending, accepted, refusal, after_write}
use Rattle.qs_machine.proofs.Counts.{tally_opened}
use Rattle.qs_machine.specs.Sums.{tables_of, tally_on, changed, no_sending, or_no_sending}

pub or_new_is : (xs : List RecvLane) (i w : ℕ) (share : Share) → or_new (slice_get xs i) w share ≡ get_or xs i (new_lane w share)
or_new_is (x ∷ xs) (suc i) w share = or_new_is xs i w share
or_new_is _ i w share = refl

-- a refusal, or a change
pub on_ok : {A E : Type 0} (r : Result A E) (P Q : Type 0) → (P → Q) → OnOk r P → OnOk r Q
on_ok r P Q f p = grind arith

four : {Y : Type 0} (ls : List Y) → length ls ≡ 4 → (a : Y) × (b : Y) × (c : Y) × (d : Y) × (ls ≡ a ∷ b ∷ c ∷ d ∷ [])
four (a ∷ b ∷ c ∷ d ∷ []) len = (a, b, c, d, refl)
four Y len = absurd (omega (arith, len))

pub some_tested : {X : Type 0} (xs : List X) (i n : ℕ) → n ≡ length xs → nat_lt i n ≡ is_some (slice_get xs i)
some_tested xs i n is = ap (nat_lt i) is ∙ tested xs i
  where
    tested : {X : Type 0} (xs : List X) (i : ℕ) → nat_lt i (length xs) ≡ is_some (slice_get xs i)
    tested (x ∷ xs) (suc i) = grind (arith, nat_tests, tested xs i)
    tested _ i = grind (arith, nat_tests)

module _ {X : Type 0} where
  -- a list of the four, whatever is told in its place past the end
  listed : (ls : List (List X)) (n k : ℕ) (d : List X) → length ls ≡ 4 → k ≡ n % 4 → get_or ls k d ≡ get_or ls k (get_or ls k d)
  listed ls n k d len kind = grind (arith, nat_tests, get_or_default)

  table_is_at : (ls : List (List X)) (n k : ℕ) (xs : List X) → length ls ≡ 4 → k ≡ n % 4 → xs ≡ get_or ls k xs → table (tables_of ls) (n % 4) ≡ xs
  table_is_at ls n k xs len kind at = grind (arith, nat_tests, four)

  pub with_is : (ls : List (List X)) (n k : ℕ) (ys : List X) → length ls ≡ 4 → k ≡ n % 4 → tables_of (set ls k ys) ≡ with_table (tables_of ls) (n % 4) ys
  with_is ls n k ys len kind = grind (arith, nat_tests, four, set)

  lookup_is_at : (ls : List (List X)) (n k i : ℕ) (xs : List X) → length ls ≡ 4 → k ≡ n % 4 → i ≡ n / 4 → xs ≡ get_or ls k xs → lookup (tables_of ls) n ≡ slice_get xs i
  unfolding lookup
  lookup_is_at ls n k i xs len kind index at = ap (λ l. slice_get l (n / 4)) (table_is_at ls n k xs len kind at) ∙ ap (slice_get xs) (sym index)

  some_within : (xs : List X) (i : ℕ) → is_some (slice_get xs i) ≡ true → i < length xs
  some_within [] i is = absurd (both_ways true (sym is) refl)
  some_within (x ∷ xs) zero is = omega arith
  some_within (x ∷ xs) (suc i) is = omega (arith, some_within xs i is)

  by_look : (t : Tables X) (n : ℕ) (xs : List X) (f : X → X) (o : Option X) → table t (n % 4) ≡ xs → with_table t (n % 4) xs ≡ t → with_table t (n % 4) (changed xs (n / 4) f o) ≡ updated t n f o
  unfolding update
  by_look t n xs f o is same = grind arith

  updated_is_at : (ls : List (List X)) (n k i : ℕ) (xs ys : List X) (f : X → X) → length ls ≡ 4 → k ≡ n % 4 → i ≡ n / 4 → xs ≡ get_or ls k xs → ys ≡ changed xs i f (slice_get xs i)
      → tables_of (set ls k ys) ≡ updated (tables_of ls) n f (lookup (tables_of ls) n)
  updated_is_at ls n k i xs ys f len kind index at is =
      let same : with_table (tables_of ls) (n % 4) xs ≡ tables_of ls = sym (with_is ls n k xs len kind) ∙ ap (λ l. tables_of (set ls k l)) at ∙ ap tables_of (set-get_or ls k xs) in
      with_is ls n k ys len kind
      ∙ ap (with_table (tables_of ls) (n % 4)) (is ∙ ap (λ j. changed xs j f (slice_get xs j)) index)
      ∙ ap (λ o. with_table (tables_of ls) (n % 4) (changed xs (n / 4) f o)) (ap (slice_get xs) (sym index) ∙ sym (lookup_is_at ls n k i xs len kind index at))
      ∙ by_look (tables_of ls) n xs f (lookup (tables_of ls) n) (table_is_at ls n k xs len kind at) same

  opened_is_at : (ls : List (List X)) (n k i : ℕ) (xs ys : List X) (begin : ℕ → X) → length ls ≡ 4 → k ≡ n % 4 → i ≡ n / 4 → xs ≡ get_or ls k xs
      → ys ≡ widened xs (i + 1) (λ j. begin (j * 4 + n % 4)) → tables_of (set ls k ys) ≡ open_to (tables_of ls) n begin
  unfolding open_to
  opened_is_at ls n k i xs ys begin len kind index at is =
      with_is ls n k ys len kind
      ∙ ap (with_table (tables_of ls) (n % 4)) (is ∙ ap (λ j. widened xs (j + 1) (λ j. begin (j * 4 + n % 4))) index ∙ ap (λ l. widened l (n / 4 + 1) (λ j. begin (j * 4 + n % 4))) (sym (table_is_at ls n k xs len kind at)))

  -- each list was mapped, one after the other
  pub each_is : (f : X → X) (ls : List (List X)) (a b c d k l m n : List X) → length ls ≡ 4 → a ≡ map f (get_or ls 0 k) → b ≡ map f (get_or (set ls 0 a) 1 l)
      → c ≡ map f (get_or (set (set ls 0 a) 1 b) 2 m) → d ≡ map f (get_or (set (set (set ls 0 a) 1 b) 2 c) 3 n) → tables_of (set (set (set (set ls 0 a) 1 b) 2 c) 3 d) ≡ each f (tables_of ls)
  unfolding each
  each_is f ls a b c d k l m n len p q r s = grind (arith, nat_tests, four, set)

  pub total_four : (f : X → ℕ) (ls : List (List X)) (k l m n : List X) → length ls ≡ 4
      → total f (tables_of ls) ≡ sum_by f (get_or ls 0 k) + sum_by f (get_or ls 1 l) + sum_by f (get_or ls 2 m) + sum_by f (get_or ls 3 n)
  unfolding total
  total_four f ls k l m n len = grind (arith, nat_tests, four)

  table_with : (t : Tables X) (k : ℕ) (ys : List X) → table (with_table t k ys) k ≡ ys
  table_with t k ys = grind arith

  -- a table that was opened, or wasn't, and then was cut back is as before
  pub opened_closed : (t : Tables X) (n : ℕ) (begin : ℕ → X) (b : Bool) (mid now : Tables X) (m : ℕ) → mid ≡ cond b t (open_to t n begin) → m ≡ length (table t (n % 4))
      → now ≡ with_table mid (n % 4) (take m (table mid (n % 4))) → now ≡ t
  unfolding open_to
  opened_closed t n begin b mid now m is len cut = grind (arith, nat_tests, take-length, take-append_seam)

  -- a part that was opened becomes x
  pub opened_updated : (t : Tables X) (n : ℕ) (begin : ℕ → X) (x : X) → update (open_to t n begin) n x ≡ with_table t (n % 4) (set (widened (table t (n % 4)) (n / 4 + 1) (λ i. begin (i * 4 + n % 4))) (n / 4) x)
  unfolding update open_to
  opened_updated t n begin x = grind arith

  -- the same, of the list at a place

  pub table_is : (ls : List (List X)) (n k : ℕ) (d : List X) → length ls ≡ 4 → k ≡ n % 4 → table (tables_of ls) (n % 4) ≡ get_or ls k d
  table_is ls n k d len kind = table_is_at ls n k (get_or ls k d) len kind (listed ls n k d len kind)

  pub table_at : (ls : List (List X)) (k : ℕ) (d : List X) → length ls ≡ 4 → k < 4 → table (tables_of ls) k ≡ get_or ls k d
  table_at ls k d len lt = grind (arith, nat_tests, four)

  pub lookup_is : (ls : List (List X)) (n k i : ℕ) (d : List X) → length ls ≡ 4 → k ≡ n % 4 → i ≡ n / 4 → lookup (tables_of ls) n ≡ slice_get (get_or ls k d) i
  lookup_is ls n k i d len kind index = lookup_is_at ls n k i (get_or ls k d) len kind index (listed ls n k d len kind)

  pub open_there : (ls : List (List X)) (n k i : ℕ) (d : List X) → length ls ≡ 4 → k ≡ n % 4 → i ≡ n / 4 → is_some (lookup (tables_of ls) n) ≡ true → i < length (get_or ls k d)
  open_there ls n k i d len kind index is = some_within (get_or ls k d) i (ap is_some (sym (lookup_is_at ls n k i (get_or ls k d) len kind index (listed ls n k d len kind))) ∙ is)

  pub updated_is : (ls : List (List X)) (n k i : ℕ) (d ys : List X) (f : X → X) → length ls ≡ 4 → k ≡ n % 4 → i ≡ n / 4 → ys ≡ changed (get_or ls k d) i f (slice_get (get_or ls k d) i)
      → tables_of (set ls k ys) ≡ updated (tables_of ls) n f (lookup (tables_of ls) n)
  updated_is ls n k i d ys f len kind index is = updated_is_at ls n k i (get_or ls k d) ys f len kind index (listed ls n k d len kind) is

  pub opened_is : (ls : List (List X)) (n k i : ℕ) (d ys : List X) (begin : ℕ → X) → length ls ≡ 4 → k ≡ n % 4 → i ≡ n / 4
      → ys ≡ widened (get_or ls k d) (i + 1) (λ j. begin (j * 4 + n % 4)) → tables_of (set ls k ys) ≡ open_to (tables_of ls) n begin
  opened_is ls n k i d ys begin len kind index is = opened_is_at ls n k i (get_or ls k d) ys begin len kind index (listed ls n k d len kind) is

pub lane_is : (ls : List (List RecvLane)) (n k i : ℕ) (d : List RecvLane) (w : ℕ) (share : Share) → length ls ≡ 4 → k ≡ n % 4 → i ≡ n / 4 → or_new (lookup (tables_of ls) n) w share ≡ get_or (get_or ls k d) i (new_lane w share)
lane_is ls n k i d w share len kind index = ap (λ o. or_new o w share) (lookup_is ls n k i d len kind index) ∙ or_new_is (get_or ls k d) i w share

or_no_sending_is : (xs : List Sending) (i : ℕ) → or_no_sending (slice_get xs i) ≡ get_or xs i no_sending
or_no_sending_is (x ∷ xs) (suc i) = or_no_sending_is xs i
or_no_sending_is _ i = refl

pub half_is : (ls : List (List Sending)) (n k i : ℕ) (d : List Sending) → length ls ≡ 4 → k ≡ n % 4 → i ≡ n / 4 → or_no_sending (lookup (tables_of ls) n) ≡ get_or (get_or ls k d) i no_sending
half_is ls n k i d len kind index = ap or_no_sending (lookup_is ls n k i d len kind index) ∙ or_no_sending_is (get_or ls k d) i

half_got : (xs : List Sending) (i : ℕ) → i < length xs → slice_get xs i ≡ Some (get_or xs i no_sending)
half_got [] i lt = absurd (omega (arith, lt))
half_got (x ∷ xs) zero lt = refl
half_got (x ∷ xs) (suc i) lt = half_got xs i (omega (arith, lt))

pub half_at : (ls : List (List Sending)) (n k i : ℕ) (d : List Sending) (s : Sending) → length ls ≡ 4 → k ≡ n % 4 → i ≡ n / 4 → is_some (lookup (tables_of ls) n) ≡ true
    → s ≡ get_or (get_or ls k d) i no_sending → lookup (tables_of ls) n ≡ Some s
half_at ls n k i d s len kind index is at =
    lookup_is ls n k i d len kind index ∙ half_got (get_or ls k d) i (open_there ls n k i d len kind index is) ∙ ap (λ x. Some x) (sym at)

pub written_is : (ls : List (List Sending)) (n k i : ℕ) (d ys : List Sending) (bytes : List ℕ) (r : Result ℕ SendFault) → length ls ≡ 4 → k ≡ n % 4 → i ≡ n / 4
    → (let half = get_or (get_or ls k d) i no_sending in
    IfOk r (λ m. (refusal half.lane ≡ None) × (m ≡ accepted half.lane (length bytes)) × (ys ≡ changed (get_or ls k d) i (λ s. after_write s (take m bytes)) (slice_get (get_or ls k d) i))))
    → (let half = or_no_sending (lookup (tables_of ls) n) in
    IfOk r (λ m. (refusal half.lane ≡ None) × (m ≡ accepted half.lane (length bytes)) × (tables_of (set ls k ys) ≡ updated (tables_of ls) n (λ s. after_write s (take m bytes)) (lookup (tables_of ls) n))))
written_is ls n k i d ys bytes (Ok m) len kind index h =
    let e = half_is ls n k i d len kind index in
    (ap (λ (s : Sending). refusal s.lane) e ∙ h.0, h.1 ∙ ap (λ (s : Sending). accepted s.lane (length bytes)) (sym e), updated_is ls n k i d ys (λ s. after_write s (take m bytes)) len kind index h.2)
written_is ls n k i d ys bytes (Err f) len kind index h = tt

-- lanes that were opened, or weren't, add nothing to the sums
pub same_tally : (t : Tables RecvLane) (n w : ℕ) (share : Share) (b : Bool) (mid : Tables RecvLane) (m : ℕ) → mid ≡ cond b t (open_to t n (λ j. new_lane w share)) → m ≡ length (table t (n % 4))
    → tally_on (take m (table mid (n % 4))) ≡ tally_on (table mid (n % 4))
unfolding open_to
same_tally t n w share true mid m is len =
    let k = n % 4 in
    ap (λ (l : Tables RecvLane). tally_on (take m (table l k))) is ∙ ap (λ j. tally_on (take j (table t k))) len ∙ ap tally_on (take-length (table t k)) ∙ ap (λ (l : Tables RecvLane). tally_on (table l k)) (sym is)
same_tally t n w share false mid m is len =
    let k = n % 4 in
    let xs = table t k in
    let ys = widened xs (n / 4 + 1) (λ j. new_lane w share) in
    let is_ys : table mid k ≡ ys = ap (λ (l : Tables RecvLane). table l k) is ∙ table_with t k ys in
    ap (λ l. tally_on (take m l)) is_ys
    ∙ ap (λ j. tally_on (take j ys)) len
    ∙ ap tally_on (take-append_seam xs _)
    ∙ sym (tally_opened xs w share _)
    ∙ ap tally_on (sym is_ys)
