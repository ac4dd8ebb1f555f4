-- Marks beside parts: each part that isn't marked has a property.
use Rattle.std.specs.FinSet as set
use Rattle.qs_conn.specs.declared.recv_marks.RecvTask.TheVariants as tasks
use Rattle.std.proofs.lemmas.Bool.Decides.{nat_tests}
use Rattle.std.proofs.Common.{if◌then◌else◌, ◌≡◌, ℕ, zero, suc, ◌+◌, ◌-◌, ◌*◌, ◌/◌, ◌%◌, min, ◌<◌, ◌≤◌, ◌^◌, Bool, true, false, List, [], ◌∷◌, ◌++◌, map, length, get_or, replicate, Option, None, Some, slice_get, refl, sym, ap, ◌∙◌, subst, arith, inl, inr, set, Result, Ok, Err, ◌⊎◌, unwrap_or, not, ◌≢◌, ◌==◌, take, max, w64, ◌&&◌, ◌||◌, is_some}
use Rattle.std.specs.List.{range_with_len}
use Rattle.std.specs.Option.{IfSome, option_eq}
use Rattle.std.proofs.lemmas.Bool.{cases_lt, both_ways, cases_eq, and_parts, not-true, true≢false, eqb-false, eq-eqb}
use Rattle.std.proofs.lemmas.List.{length-append, length-replicate, get_or_past, set-get_or, length-set, length-take, get_or-set_same, get_or-set_other, get_or-take, get_or_read, take_all, take-append-le, append-nil, ext_get_or, length-map, get_or-map, map-append, map-set, take-map}
use Rattle.std.proofs.lemmas.Option.{none-some, same_Some, get_or_from_slice_get, unwrap_or-slice_get, slice_get_within}
use Rattle.std.specs.Result.{OnOk, OnErr}
use Rattle.qs_conn.specs.Marks.{IsClear as IsUntoldClear}
use Rattle.qs_conn.specs.Marks.{is_marked, IsUnmarked, AreClear, places, last_beside, one_has, TellWhich, AreMarksFor, HasRoom, IsClearedFrom, IsWider, IsBefore as IsMarkBefore, IsNextMark, IsMarkedOf, IsHeldOf, IsMarkedBeside, both, untold, IsUntold, HasNoMark, HasAllMarks, AreSummed, AreMarkedBelow, AreUnmarkedFrom, AreFull}
use Rattle.qs_streams.specs.Flags.{least_of}
use Rattle.qs_machine.specs.Sums.{changed, tables_of}
use Rattle.qs_machine.specs.Tables.{Tables, lookup, widened, type_of, table, no_streams}
use Rattle.qs_machine.proofs.TableEdits.{lookup_is, with_is, table_is, opened_updated, opened_is}
use Rattle.qs_machine.proofs.TableLaws.{lookup_open}
use Rattle.std.specs.Prelude.{option_map}
use Rattle.qs_machine.specs.News.{IsLeast, IsHeld}
use Rattle.qs_machine.specs.Heard.{is_told, IsToldBeside}
use Rattle.qs_conn.proofs.Boths.{both_is, both_len, untold_len, untold_is, not_both, left_below, told_below as both_told_below}
use Rattle.qs_machine.proofs.Ties.{nowhere}
use Rattle.std.proofs.lemmas.Grind.{common_steps, get_or-set_at}
use Rattle.std.specs.Int.{bit_at, bit_not}
use Rattle.std.proofs.lemmas.List.FromFn.{length-map-range_with_len, get_or-map-range_with_len}
use Rattle.std.proofs.lemmas.Nat.Bits.{bit_at-zero, bit_at_ones, bit_at-lt, bit_at_not}
use Rattle.qs_ranges.specs.Bits.{HasBit, IsBefore, IsLowestBit}
use Rattle.qs_conn.specs.Words.{flag, flags, AreFlags, IsWordOf}
use Rattle.std.specs.Ordering.{nat_cmp}
use Rattle.qs_recv.specs.Lane.{RecvLane, new_lane, raise, answer_by, read_answer, is_whole}
use Rattle.qs_recv.specs.declared.half.Read.TheVariants.{Wait}
use Rattle.qs_recv.specs.News.{tells_something}
use Rattle.qs_recv.specs.declared.credit.Share.{Share}
use Rattle.qs_machine.specs.Credit.{recv_ended}
use Rattle.qs_machine.proofs.EveryCall.{not_chosen}
use Rattle.qs_conn.specs.RecvTasks.{has, HasNone, AreNoted}
use Rattle.qs_conn.specs.declared.recv_marks.RecvTask.{RecvTask}
use Rattle.qs_conn.specs.declared.recv_marks.RecvMarks.{RecvMarks}

pub mark_past : (ms : List Bool) (i : ℕ) → length ms ≤ i → is_marked ms i ≡ false
mark_past ms i le = get_or_past ms i false le

-- a mark that is put where it stands already
pub mark_is : (ms : List Bool) (i : ℕ) (b : Bool) → is_marked ms i ≡ b → set ms i b ≡ ms
mark_is ms i b is = ap (set ms i) (sym is) ∙ set-get_or ms i false

-- a mark that is put where there is a place
pub set_changed : (ms : List Bool) (i : ℕ) (b : Bool) → set ms i b ≡ changed ms i (λ m. b) (slice_get ms i)
set_changed [] i b = refl
set_changed (m ∷ ms) zero b = refl
set_changed (m ∷ ms) (suc i) b = ap (λ xs. m ∷ xs) (set_changed ms i b) ∙ go (slice_get ms i)
  where
    go : (o : Option Bool) → m ∷ changed ms i (λ m. b) o ≡ changed (m ∷ ms) (suc i) (λ m. b) o
    go None = refl
    go (Some x) = refl

-- Marks alone

pub next_small : (ms : List Bool) (from : ℕ) (answer : Option ℕ) → length ms ≤ 2 ^ 60 → IsNextMark ms from answer → IfSome answer (λ n. n < 2 ^ 60)
next_small ms from None few next = tt
next_small ms from (Some n) few next =
    elim (cases_lt n (length ms)) [ inl lt ↦ omega (arith, lt, few) | inr ge ↦ absurd (both_ways (is_marked ms n) (mark_past ms n ge) (next.found n refl).1) ]

pub short_opened : {E : Type 0} (r : Result (Unit {0}) E) (ms now : List Bool) (count : ℕ) → count ≤ 2 ^ 60 → length ms ≤ 2 ^ 60 → OnOk r (now ≡ ms ++ replicate (count - length ms) false) → OnErr r (now ≡ ms) → length now ≤ 2 ^ 60
short_opened r ms now count small few ok err = grind (arith, nat_tests, length-append, length-replicate)

pub left_small : (ms others ts : List Bool) (from : ℕ) (answer : Option ℕ) → length ms ≤ 2 ^ 60 → IsNextMark (untold (both ms others) ts) from answer → IfSome answer (λ n. n < 2 ^ 60)
left_small ms others ts from answer few next = next_small (untold (both ms others) ts) from answer (omega (arith, few, both_len ms others, untold_len (both ms others) ts)) next

-- no index has a mark

pub none_at : (ms : List Bool) → IsUntoldClear ms → (i : ℕ) (b : Bool) → slice_get ms i ≡ Some b → b ≡ false
none_at ms h i b at = sym (get_or_from_slice_get ms i b false at) ∙ h i

pub clear_next : (ms : List Bool) (from : ℕ) → IsUntoldClear ms → IsNextMark ms from None
clear_next ms from h = record { found = λ n is. absurd (none-some n is); unmarked = λ i le before. h i }

-- new indexes without a mark
pub widened_is : (xs ys : List Bool) (count : ℕ) → ys ≡ xs ++ replicate (count - length xs) false → ys ≡ widened xs count (λ i. false)
widened_is xs ys count is = is ∙ ap (λ zs. xs ++ zs) (all_false (length xs) (count - length xs))
  where
    all_false : (lo n : ℕ) → replicate n false ≡ map (λ (i : ℕ). false) (range_with_len lo n)
    all_false lo zero = refl
    all_false lo (suc n) = ap (λ xs. false ∷ xs) (all_false (lo + 1) n)

-- Answers of several types of streams

pub before_least : (a b : Option ℕ) (n : ℕ) → IsMarkBefore n (least_of a b) → IsMarkBefore n a × IsMarkBefore n b
before_least None b n is = (tt, is)
before_least (Some a) None n is = (is, tt)
before_least (Some a) (Some b) n is = (omega (arith, is), omega (arith, is))

-- what all parts of each type have, each open stream has
pub has_each : {X : Type 0} (Q : X → Type 0) (ls : List (List X)) (d0 d1 d2 d3 : List X) → length ls ≡ 4 → ((i : ℕ) (x : X) → slice_get (get_or ls 0 d0) i ≡ Some x → Q x) → ((i : ℕ) (x : X) → slice_get (get_or ls 1 d1) i ≡ Some x → Q x)
    → ((i : ℕ) (x : X) → slice_get (get_or ls 2 d2) i ≡ Some x → Q x) → ((i : ℕ) (x : X) → slice_get (get_or ls 3 d3) i ≡ Some x → Q x) → (n : ℕ) (x : X) → lookup (tables_of ls) n ≡ Some x → Q x
has_each {X} Q ls d0 d1 d2 d3 len q0 q1 q2 q3 n x at = go (n % 4) refl (omega arith)
  where
    there : (k : ℕ) (d : List X) → n % 4 ≡ k → slice_get (get_or ls k d) (n / 4) ≡ Some x
    there k d e = sym (lookup_is ls n k (n / 4) d len (sym e) refl) ∙ at

    go : (k : ℕ) → n % 4 ≡ k → k < 4 → Q x
    go zero e lt = q0 (n / 4) x (there 0 d0 e)
    go (suc zero) e lt = q1 (n / 4) x (there 1 d1 e)
    go (suc (suc zero)) e lt = q2 (n / 4) x (there 2 d2 e)
    go (suc (suc (suc zero))) e lt = q3 (n / 4) x (there 3 d3 e)
    go (suc (suc (suc (suc k)))) e lt = absurd (omega (arith, lt))

-- ---- No stream has a mark.

pub clear_four : (a b c d : List Bool) → a ≡ [] → b ≡ [] → c ≡ [] → d ≡ [] → AreClear (tables_of (a ∷ b ∷ c ∷ d ∷ []))
clear_four a b c d ea eb ec ed = has_each IsUnmarked (a ∷ b ∷ c ∷ d ∷ []) [] [] [] [] refl (here a ea) (here b eb) (here c ec) (here d ed)
  where
    here : (xs : List Bool) → xs ≡ [] → (i : ℕ) (x : Bool) → slice_get xs i ≡ Some x → IsUnmarked x
    here xs e = none_at xs (λ i. ap (λ ys. is_marked ys i) e)

-- places come, or are refused
clear_open : (t : Tables Bool) (n : ℕ) → AreClear t → AreClear (places n t)
clear_open t n none m b at = elim (lookup_open t (last_beside n) m (λ j. false)) [ inl same ↦ none m b (sym same ∙ at) | inr new ↦ sym (same_Some false b (sym new.3 ∙ at)) ]

pub clear_placed : {E : Type 0} (r : Result (Unit {0}) E) (ls : List (List Bool)) (n k i : ℕ) (d ys : List Bool) → length ls ≡ 4 → k ≡ last_beside n % 4 → i ≡ last_beside n / 4 → OnOk r (ys ≡ widened (get_or ls k d) (i + 1) (λ j. false)) → OnErr r (ys ≡ get_or ls k d) → AreClear (tables_of ls) → AreClear (tables_of (set ls k ys))
clear_placed (Ok x) ls n k i d ys len kind index ok err none = subst AreClear (sym (opened_is ls (last_beside n) k i d ys (λ m. false) len kind index ok)) (clear_open (tables_of ls) n none)
clear_placed (Err x) ls n k i d ys len kind index ok err none = subst (λ zs. AreClear (tables_of zs)) (sym (ap (set ls k) err ∙ set-get_or ls k d)) none

-- ---- Searches for the least number with a property.

-- none below the answer has the property
pub least_by : (P : ℕ → Type 0) (from : ℕ) (answer : Option ℕ) → ((n : ℕ) → answer ≡ Some n → (from ≤ n) × P n) → ((n : ℕ) → from ≤ n → IsMarkBefore n answer → P n → ⊥) → IsLeast P from answer
least_by P from answer found none = grind (arith, nat_tests)

pub none_before : (P : ℕ → Type 0) (from : ℕ) (answer : Option ℕ) → IsLeast P from answer → (n : ℕ) → from ≤ n → IsMarkBefore n answer → P n → ⊥
none_before P from answer h n le before p = grind (arith, nat_tests)

-- what an answer says of itself
pub found_by : (P : ℕ → Type 0) (from : ℕ) (r : Option ℕ) → IsLeast P from r → IfSome r (λ n. (from ≤ n) × P n)
found_by P from None h = tt
found_by P from (Some n) h = h.found n refl

-- the same property in other words
pub least_as : (P Q : ℕ → Type 0) (from : ℕ) (r : Option ℕ) → ((n : ℕ) → P n → Q n) → ((n : ℕ) → Q n → P n) → IsLeast P from r → IsLeast Q from r
least_as P Q from r there back h = record { found = λ n is. (let f = h.found n is in (f.0, there n f.1)); least = λ n ge q. h.least n ge (back n q) }

-- none below a number, none up to the next one that is looked at, nor there
pub none_next : (P : ℕ → Type 0) (from m : ℕ) → ((n : ℕ) → n < from → P n → ⊥) → ((n : ℕ) → from ≤ n → n < m → P n → ⊥) → (P m → ⊥) → (n : ℕ) → n < m + 1 → P n → ⊥
none_next P from m below between here n lt p = grind (arith, here)

-- Answers of several searches

-- the lesser of two answers, where each number with the property is in one of two parts
pub least_two : (P Q R : ℕ → Type 0) (from : ℕ) (a b : Option ℕ) → ((n : ℕ) → P n → R n) → ((n : ℕ) → Q n → R n) → ((n : ℕ) → R n → P n ⊎ Q n) → IsLeast P from a → IsLeast Q from b → IsLeast R from (least_of a b)
least_two P Q R from a b left right parts p q = least_by R from (least_of a b) (found a b p q) (λ n le before r. elim (parts n r) [ inl x ↦ none_before P from a p n le (before_least a b n before).0 x | inr y ↦ none_before Q from b q n le (before_least a b n before).1 y ])
  where
    found : (x y : Option ℕ) → IsLeast P from x → IsLeast Q from y → (n : ℕ) → least_of x y ≡ Some n → (from ≤ n) × R n
    found None y s t n is = (let f = t.found n is in (f.0, right n f.1))
    found (Some x) None s t n is = (let f = s.found n is in (f.0, left n f.1))
    found (Some x) (Some y) s t n is = grind (arith, left x, right y, same_Some (min x y) n is)

-- Streams

-- those of one type
abbrev pub OfKind : (ℕ → Type 0) → ℕ → ℕ → Type 0
OfKind P k n = (type_of n ≡ k) × P n

-- where the streams of a type have the property as their indexes do, the least of both are one
module _ (P Row : ℕ → Type 0) (k from first : ℕ) (small : k < 4) (begin : first ≡ (from + 3 - k) / 4) (there : (n : ℕ) → type_of n ≡ k → P n → Row (n / 4)) where
  index_from : (n : ℕ) → type_of n ≡ k → from ≤ n → first ≤ n / 4
  index_from n kind ge = omega (arith, small, begin, kind, ge)

  pub row_none : IsLeast Row first None → IsLeast (OfKind P k) from None
  row_none h = least_by (OfKind P k) from None (λ n is. absurd (none-some n is)) (λ n ge before p. none_before Row first None h (n / 4) (index_from n p.0 ge) tt (there n p.0 p.1))

  pub row_some : (i : ℕ) → ((n : ℕ) → type_of n ≡ k → i ≡ n / 4 → Row i → P n) → IsLeast Row first (Some i) → IsLeast (OfKind P k) from (Some (i * 4 + k))
  row_some i back h = grind (arith, nat_tests)

-- where a mark tells which streams have the property, the next mark is the least of them
pub next_of : (P : ℕ → Type 0) (ms : List Bool) (k from first : ℕ) → k < 4 → first ≡ (from + 3 - k) / 4 → ((n : ℕ) → type_of n ≡ k → P n → is_marked ms (n / 4) ≡ true) → ((n : ℕ) → type_of n ≡ k → is_marked ms (n / 4) ≡ true → P n)
    → (r : Option ℕ) → IsNextMark ms first r → IsLeast (OfKind P k) from (option_map (λ i. i * 4 + k) r)
next_of P ms k from first small begin there back r next = go r (least_by Row first r next.found (λ i ge before is. both_ways (is_marked ms i) (next.unmarked i ge before) is))
  where
    Row : ℕ → Type 0
    Row i = is_marked ms i ≡ true

    go : (o : Option ℕ) → IsLeast Row first o → IsLeast (OfKind P k) from (option_map (λ i. i * 4 + k) o)
    go None h = row_none P Row k from first small begin there h
    go (Some i) h = row_some P Row k from first small begin there i (λ n kind index is. back n kind (subst Row index is)) h

pub next_stream : (ms : List Bool) (k from first : ℕ) → k < 4 → first ≡ (from + 3 - k) / 4 → (r : Option ℕ) → IsNextMark ms first r → IsLeast (IsMarkedOf ms k) from (option_map (λ i. i * 4 + k) r)
next_stream ms k from first small begin = next_of (λ n. is_marked ms (n / 4) ≡ true) ms k from first small begin (λ n kind is. is) (λ n kind is. is)

-- of all four types
pub kinds_four : (P : ℕ → Type 0) (from : ℕ) (a b c d : Option ℕ) → IsLeast (OfKind P 0) from a → IsLeast (OfKind P 1) from b → IsLeast (OfKind P 2) from c → IsLeast (OfKind P 3) from d → IsLeast P from (least_of (least_of a b) (least_of c d))
kinds_four P from a b c d p q r s =
    let Bidi : ℕ → Type 0 = λ n. OfKind P 0 n ⊎ OfKind P 1 n in
    let Uni : ℕ → Type 0 = λ n. OfKind P 2 n ⊎ OfKind P 3 n in
    least_two Bidi Uni P from (least_of a b) (least_of c d) (λ n h. elim h [ inl x ↦ x.1 | inr y ↦ y.1 ]) (λ n h. elim h [ inl x ↦ x.1 | inr y ↦ y.1 ]) by_kind
    (least_two (OfKind P 0) (OfKind P 1) Bidi from a b (λ n x. inl x) (λ n y. inr y) (λ n h. h) p q) (least_two (OfKind P 2) (OfKind P 3) Uni from c d (λ n x. inl x) (λ n y. inr y) (λ n h. h) r s)
  where
    by_kind : (n : ℕ) → P n → (OfKind P 0 n ⊎ OfKind P 1 n) ⊎ (OfKind P 2 n ⊎ OfKind P 3 n)
    by_kind n held = grind (arith)

-- A premise

pub least_given : (A : Type 0) (P : ℕ → Type 0) (from : ℕ) (r : Option ℕ) → A → IsLeast P from r → IsLeast (λ n. A × P n) from r
least_given A P from r a h = record { found = λ n is. (let f = h.found n is in (f.0, (a, f.1))); least = λ n ge p. h.least n ge p.1 }

-- ---- What it is to a table of marks that one of them is set or taken away.

-- One row

all_unmarked : (lo n : ℕ) → replicate n false ≡ map (λ (i : ℕ). false) (range_with_len lo n)
all_unmarked lo zero = refl
all_unmarked lo (suc n) = ap (λ ms. false ∷ ms) (all_unmarked (lo + 1) n)

pub marked_beside : (old mid new : List Bool) (n : ℕ) → mid ≡ old ++ replicate (n + 1 - length old) false → new ≡ set mid n true → IsMarkedBeside n old new
marked_beside old mid new n opened is = is ∙ ap (λ xs. set xs n true) (opened ∙ ap (λ ms. old ++ ms) (all_unmarked (length old) (n + 1 - length old)))

-- Four rows

told_at : (ls : List (List Bool)) (m k : ℕ) (d : List Bool) → length ls ≡ 4 → k ≡ m % 4 → is_told (tables_of ls) m ≡ is_marked (get_or ls k d) (m / 4)
told_at ls m k d len kind = ap (λ o. unwrap_or o false) (lookup_is ls m k (m / 4) d len kind refl) ∙ unwrap_or-slice_get (get_or ls k d) (m / 4) false

pub told_read : (ls : List (List Bool)) (n k i : ℕ) (d : List Bool) (b : Bool) → length ls ≡ 4 → k ≡ n % 4 → i ≡ n / 4 → b ≡ is_marked (get_or ls k d) i → b ≡ is_told (tables_of ls) n
told_read ls n k i d b len kind index is = is ∙ ap (is_marked (get_or ls k d)) index ∙ sym (told_at ls n k d len kind)

pub told_beside : (ls : List (List Bool)) (n k i : ℕ) (d new : List Bool) → length ls ≡ 4 → k ≡ n % 4 → i ≡ n / 4 → IsMarkedBeside i (get_or ls k d) new → IsToldBeside n (tables_of ls) (tables_of (set ls k new))
told_beside ls n k i d new len kind index is = grind (arith, nat_tests, with_is, table_is, opened_updated)

-- ---- Searches for the least stream that has an answer of which its owner wasn't told.

-- One row as both

pub both_self : (ms : List Bool) → both ms ms ≡ ms
both_self [] = refl
both_self (true ∷ ms) = ap (λ xs. true ∷ xs) (both_self ms)
both_self (false ∷ ms) = ap (λ xs. false ∷ xs) (both_self ms)

-- a mark is left only where there was one, and none was told
pub left_at : (ms ts : List Bool) (i : ℕ) → is_marked (untold ms ts) i ≡ true → (is_marked ms i ≡ true) × (is_marked ts i ≡ false)
left_at ms ts i is = let (one, free) = and_parts (is_marked ms i) (not (is_marked ts i)) (sym (untold_is ms ts i) ∙ is) in (one, not-true (is_marked ts i) free)

-- Streams of a type

told_row : (t : Tables Bool) (n : ℕ) → is_told t n ≡ is_marked (table t (type_of n)) (n / 4)
unfolding lookup
told_row t n = unwrap_or-slice_get (table t (type_of n)) (n / 4) false

pub told_of : (t : Tables Bool) (n k : ℕ) → type_of n ≡ k → is_told t n ≡ is_marked (table t k) (n / 4)
told_of t n k kind = told_row t n ∙ ap (λ j. is_marked (table t j) (n / 4)) kind

-- ---- The least stream with a mark.

-- at first none has one
none_told : (told : Tables Bool) → told ≡ no_streams → (n : ℕ) → is_told told n ≡ false
none_told told same n = ap (λ t. is_told t n) same ∙ ap (λ o. unwrap_or o false) (nowhere n)

pub untold_of_none : (P : ℕ → Type 0) (told : Tables Bool) (from : ℕ) (r : Option ℕ) → told ≡ no_streams → IsLeast (IsUntold P told) from r → IsLeast P from r
untold_of_none P told from r same h = record { found = λ n is. (let f = h.found n is in (f.0, f.1.0)); least = λ n ge p. h.least n ge (p, none_told told same n) }

-- nor where no mark is set
pub nowhere_told : (told : Tables Bool) → ((n : ℕ) (b : Bool) → lookup told n ≡ Some b → b ≡ false) → (n : ℕ) → is_told told n ≡ true → ⊥
nowhere_told told none n = go (lookup told n) refl
  where
    go : (x : Option Bool) → lookup told n ≡ x → unwrap_or x false ≡ true → ⊥
    go None at is = true≢false (sym is)
    go (Some b) at is = both_ways b (none n b at) is

pub none_least : (told : Tables Bool) (from : ℕ) → ((n : ℕ) (b : Bool) → lookup told n ≡ Some b → b ≡ false) → IsLeast (λ n. is_told told n ≡ true) from None
none_least told from none = least_by (λ n. is_told told n ≡ true) from None (λ n is. absurd (none-some n is)) (λ n ge before. nowhere_told told none n)

-- none before the least has a mark
pub off_before : (f : ℕ → Bool) (from : ℕ) (r : Option ℕ) → IsLeast (λ n. f n ≡ true) from r → (n : ℕ) → from ≤ n → IsMarkBefore n r → f n ≡ false
off_before f from r h n le before = go (f n) refl
  where
    go : (b : Bool) → f n ≡ b → f n ≡ false
    go true is = absurd (none_before (λ m. f m ≡ true) from r h n le before is)
    go false is = is

kind_told : (told : Tables Bool) (k : ℕ) (ms : List Bool) (from : ℕ) (r : Option ℕ) → ms ≡ table told k → IsLeast (IsMarkedOf ms k) from r → IsLeast (OfKind (λ n. is_told told n ≡ true) k) from r
kind_told told k ms from r are = least_as (IsMarkedOf ms k) (OfKind (λ n. is_told told n ≡ true) k) from r (λ n (kind, is). (kind, here n kind ∙ is)) (λ n (kind, is). (kind, sym (here n kind) ∙ is))
  where
    here : (n : ℕ) → type_of n ≡ k → is_told told n ≡ is_marked ms (n / 4)
    here n kind = told_of told n k kind ∙ ap (λ bs. is_marked bs (n / 4)) (sym are)

pub four_told : (told : Tables Bool) (from : ℕ) (m0 m1 m2 m3 : List Bool) (a b c d : Option ℕ) → m0 ≡ table told 0 → m1 ≡ table told 1 → m2 ≡ table told 2 → m3 ≡ table told 3 → IsLeast (IsMarkedOf m0 0) from a → IsLeast (IsMarkedOf m1 1) from b → IsLeast (IsMarkedOf m2 2) from c → IsLeast (IsMarkedOf m3 3) from d
    → IsLeast (λ n. is_told told n ≡ true) from (least_of (least_of a b) (least_of c d))
four_told told from m0 m1 m2 m3 a b c d e0 e1 e2 e3 p q r s = kinds_four (λ n. is_told told n ≡ true) from a b c d (kind_told told 0 m0 from a e0 p) (kind_told told 1 m1 from b e1 q) (kind_told told 2 m2 from c e2 r) (kind_told told 3 m3 from d e3 s)

-- ---- Flags as bits of words: a list of them, and a search.

pub padded : {A : Type 0} (xs : List A) (n k : ℕ) (d : A) → get_or (xs ++ replicate n d) k d ≡ get_or xs k d
padded xs n k d = grind (arith, common_steps)

flag_of : (ws vs : List ℕ) (i : ℕ) → bit_at (get_or ws (i / 64) 0) (i % 64) ≡ bit_at (get_or vs (i / 64) 0) (i % 64) → flag ws i ≡ flag vs i
flag_of ws vs i is = rw is refl

pub flag_past : (ws : List ℕ) (i : ℕ) → length ws ≤ i / 64 → flag ws i ≡ false
flag_past ws i past = rw (get_or_past ws (i / 64) 0 past, bit_at-zero (i % 64)) refl

pub flags_len : (ws : List ℕ) (count : ℕ) → length (flags ws count) ≡ count
flags_len ws count = length-map-range_with_len (flag ws) 0 count

flags_at : (ws : List ℕ) (count i : ℕ) → i < count → is_marked (flags ws count) i ≡ flag ws i
flags_at ws count i lt = get_or-map-range_with_len (flag ws) 0 count i i false lt (omega arith)

pub marked_is : (ws : List ℕ) (count i : ℕ) → AreFlags ws count → is_marked (flags ws count) i ≡ flag ws i
marked_is ws count i are = grind (arith, nat_tests, flags_at, flags_len, get_or_past)

-- a list of marks is that of the words
pub flags_are : (ws : List ℕ) (count : ℕ) (marks : List Bool) → length marks ≡ count → ((i : ℕ) → i < count → is_marked marks i ≡ flag ws i) → flags ws count ≡ marks
flags_are ws count marks len each =
    ext_get_or false (flags ws count) marks (flags_len ws count ∙ sym len)
    (λ i lt. let below : i < count = omega (arith, lt, flags_len ws count) in flags_at ws count i below ∙ sym (each i below))

pub index_below : (ws : List ℕ) (count index : ℕ) (marks : List Bool) → flags ws count ≡ marks → index < length marks → index < count
index_below ws count index marks is lt = omega (arith, lt, ap length is, flags_len ws count)

-- nothing is opened
pub none_opened : (ws : List ℕ) (count to : ℕ) (marks : List Bool) → flags ws count ≡ marks → to ≤ count → marks ≡ marks ++ replicate (to - length marks) false
none_opened ws count to marks is le = grind (arith, nat_tests, flags_len, append-nil)

-- words are added
flag_added : (ws : List ℕ) (n i : ℕ) → length ws ≤ n → flag (take n ws ++ replicate (n - length ws) 0) i ≡ flag ws i
flag_added ws n i le = rw (take_all n ws le, padded ws (n - length ws) (i / 64) 0) refl

-- more flags of words that have the same ones
more_flags : (ws now : List ℕ) (count to : ℕ) → AreFlags ws count → count < to → ((i : ℕ) → flag now i ≡ flag ws i) → flags now to ≡ flags ws count ++ replicate (to - length (flags ws count)) false
more_flags ws now count to are more same =
    flags_are now to (flags ws count ++ replicate (to - length (flags ws count)) false)
    (omega (arith, more, flags_len ws count, length-append (flags ws count) (replicate (to - length (flags ws count)) false), length-replicate (to - length (flags ws count)) false))
    (λ i lt. padded (flags ws count) (to - length (flags ws count)) i false ∙ marked_is ws count i are ∙ sym (same i))

pub flags_room : (ws : List ℕ) (count to : ℕ) → AreFlags ws count → count < to → flags ws to ≡ flags ws count ++ replicate (to - length (flags ws count)) false
flags_room ws count to are more = more_flags ws ws count to are more (λ i. refl)

module _ (ws now : List ℕ) (count to n len : ℕ) (are : AreFlags ws count) (more : count < to) (le : length ws ≤ n) (is_len : len ≡ length ws) (is : now ≡ take n ws ++ replicate (n - len) 0) where
  flag_opened : (i : ℕ) → flag now i ≡ flag ws i
  flag_opened i = rw (is, is_len) (flag_added ws n i le)

  pub flags_opened : flags now to ≡ flags ws count ++ replicate (to - length (flags ws count)) false
  flags_opened = more_flags ws now count to are more flag_opened

  pub flags_grown : to < 2 ^ 64 → to ≤ 64 * n → 64 * n ≤ to + 64 → AreFlags now to
  flags_grown fits room tight = grind (arith, common_steps, length-append, replicate, length-take, length-replicate)

-- words are taken away that have no flag
module _ (ws now : List ℕ) (count to n : ℕ) (are : AreFlags ws count) (fewer : to < count) (clear : AreUnmarkedFrom (flags ws count) to) (room : to ≤ 64 * n) (tight : 64 * n ≤ to + 64) (is : now ≡ take n ws) where
  words_left : length now ≡ min n (length ws)
  words_left = ap length is ∙ length-take n ws

  unset_from : (i : ℕ) → to ≤ i → flag ws i ≡ false
  unset_from i ge = sym (marked_is ws count i are) ∙ clear i ge

  flag_closed : (i : ℕ) → flag now i ≡ flag ws i
  flag_closed i = elim (cases_lt (i / 64) n) [
    | inl lt ↦ flag_of now ws i (ap (λ w. bit_at w (i % 64)) (ap (λ vs. get_or vs (i / 64) 0) is ∙ get_or-take n ws (i / 64) 0 lt))
    | inr ge ↦ flag_past now i (omega (arith, ge, words_left)) ∙ sym (unset_from i (omega (arith, ge, room)))
  ]

  pub flags_closed : flags now to ≡ take to (flags ws count)
  flags_closed =
      flags_are now to (take to (flags ws count)) (omega (arith, fewer, flags_len ws count, length-take to (flags ws count)))
      (λ i lt. get_or-take to (flags ws count) i false lt ∙ marked_is ws count i are ∙ sym (flag_closed i))

  pub flags_fewer : AreFlags now to
  flags_fewer =
      record {
        room = omega (arith, words_left, fewer, room, are.room);
        tight = omega (arith, words_left, tight);
        fits = omega (arith, fewer, are.fits);
        unset = λ i ge. flag_closed i ∙ unset_from i ge;
      }

-- nothing is taken away
pub none_closed : (ws : List ℕ) (count to : ℕ) (marks : List Bool) → flags ws count ≡ marks → count ≤ to → marks ≡ take to marks
none_closed ws count to marks is le = sym (take_all to marks (omega (arith, le, ap length is, flags_len ws count)))

-- a bit is set or cleared
module _ (ws : List ℕ) (count index before after : ℕ) (is_set : Bool) (are : AreFlags ws count) (there : index < count) (read : before ≡ get_or ws (index / 64) before) (bit : HasBit before (index % 64) is_set after) where
  word_in : index / 64 < length ws
  word_in = omega (arith, there, are.room)

  flag_here : flag (set ws (index / 64) after) index ≡ is_set
  flag_here = rw (get_or-set_same ws (index / 64) after 0 word_in) bit.here

  flag_other : (i : ℕ) → i ≢ index → flag (set ws (index / 64) after) i ≡ flag ws i
  flag_other i differs = grind (arith, common_steps, cases_eq, set, get_or-set_same, flag_of, get_or-set_other)

  pub flags_set : flags (set ws (index / 64) after) count ≡ set (flags ws count) index is_set
  flags_set =
      flags_are (set ws (index / 64) after) count (set (flags ws count) index is_set) (length-set (flags ws count) index is_set ∙ flags_len ws count)
      (λ i lt.
      elim (cases_eq i index) [
        | inl same ↦
            let here : index < length (flags ws count) = omega (arith, there, flags_len ws count) in
            rw same (get_or-set_same (flags ws count) index is_set false here ∙ sym flag_here)
        | inr differs ↦ get_or-set_other (flags ws count) index i is_set false differs ∙ marked_is ws count i are ∙ sym (flag_other i differs)
      ])

  pub stay_flags : AreFlags (set ws (index / 64) after) count
  stay_flags = grind (arith, common_steps, length-set)

-- a word is read
module _ (ws : List ℕ) (count place : ℕ) (are : AreFlags ws count) where
  pub word_there : (word : ℕ) → place < length ws → word ≡ get_or ws place word → IsWordOf (flags ws count) place word
  word_there word there read = grind (arith, nat_tests, get_or_read, marked_is)

  pub word_past : length ws ≤ place → IsWordOf (flags ws count) place 0
  word_past past = record { bits = λ i lt. rw (marked_is ws count (place * 64 + i) are, flag_past ws (place * 64 + i) (omega (arith, past)), bit_at-zero i) refl }

-- a bit of a word
pub mark_in : (marks : List Bool) (index word : ℕ) → IsWordOf marks (index / 64) word → (bit_at word (index % 64) == 1) ≡ is_marked marks index
mark_in marks index word of = let here : index / 64 * 64 + index % 64 ≡ index = omega arith in of.bits (index % 64) (omega arith) ∙ ap (is_marked marks) here

-- a word without a bit, and one of which each is set
pub none_in : (marks : List Bool) (place word : ℕ) → IsWordOf marks place word → word ≡ 0 → HasNoMark marks place
none_in marks place word of none i at = grind (arith, nat_tests)

pub all_in : (marks : List Bool) (place word : ℕ) → IsWordOf marks place word → word ≡ 2 ^ 64 - 1 → HasAllMarks marks place
all_in marks place word of full i at =
    let here : place * 64 + i % 64 ≡ i = omega (arith, at) in
    let is_set : bit_at word (i % 64) ≡ 1 = rw full (bit_at_ones 64 (i % 64) (omega arith)) in
    ap (is_marked marks) (sym here) ∙ sym (of.bits (i % 64) (omega arith)) ∙ ap (λ b. b == 1) is_set

-- what is marked is there
pub marked_below : (marks : List Bool) (i : ℕ) → is_marked marks i ≡ true → i < length marks
marked_below marks i is = grind (arith, nat_tests, get_or_past)

-- A search by words: what is passed, and what is found

-- no index from one on, below a bit of a word, is marked
pub record IsClearTo (marks : List Bool) (from place bit : ℕ) : Type 0 where
  pub few : bit < 64
  pub after : from ≤ place * 64 + bit
  pub none : (i : ℕ) → from ≤ i → i < place * 64 + bit → is_marked marks i ≡ false

pub clear_here : (marks : List Bool) (from : ℕ) → IsClearTo marks from (from / 64) (from % 64)
clear_here marks from = record { few = omega arith; after = omega arith; none = λ i le lt. absurd (omega (arith, le, lt)) }

module _ (marks : List Bool) (from place bit : ℕ) (clear : IsClearTo marks from place bit) where
  pub none_past : (words : ℕ) → length marks ≤ 64 * words → words ≤ place → IsNextMark marks from None
  none_past words within past = grind (arith, nat_tests, none-some, cases_lt, get_or_past)

  module _ (word : ℕ) (of : IsWordOf marks place word) where
    -- below the lowest bit that is set
    before_lowest : (answer : Option ℕ) → IsLowestBit word bit answer → (i : ℕ) → from ≤ i → i < place * 64 + 64 → (place * 64 ≤ i → IsBefore (i % 64) answer) → is_marked marks i ≡ false
    before_lowest answer lowest i le lt before = grind (arith, nat_tests)

    pub passed : IsLowestBit word bit None → IsClearTo marks from (place + 1) 0
    passed lowest =
        record {
          few = omega arith;
          after = omega (arith, clear.few, clear.after);
          none = λ i le lt. before_lowest None lowest i le (omega (arith, lt)) (λ from_here. tt);
        }

    -- and the words behind that one, as far as they have no flag
    pub summed : (words : List Bool) (next : ℕ) → AreSummed marks words → place + 1 ≤ next → ((w : ℕ) → place + 1 ≤ w → w < next → is_marked words w ≡ false) → IsLowestBit word bit None → IsClearTo marks from next 0
    summed words next are le none lowest = grind (arith, nat_tests)

    pub found : (marked : ℕ) → IsLowestBit word bit (Some marked) → IsNextMark marks from (Some (place * 64 + marked))
    found marked lowest =
        let low = lowest.found marked refl in
        record {
          found = λ n is.
              subst (λ m. (from ≤ m) × (is_marked marks m ≡ true)) (same_Some (place * 64 + marked) n is)
              (omega (arith, clear.after, low.0), sym (of.bits marked low.1) ∙ ap (λ b. b == 1) low.2);
          unmarked = λ i le before. before_lowest (Some marked) lowest i le (omega (arith, before, low.1)) (λ from_here. omega (arith, before, from_here));
        }

-- ---- Marks that are tests of the parts beside which they stand.

-- one of two rows that say the same is set in both
set_alike : (ms bs : List Bool) (i : ℕ) (b : Bool) → ((j : ℕ) → is_marked ms j ≡ is_marked bs j) → i < length ms → i < length bs → (j : ℕ) → is_marked (set ms i b) j ≡ is_marked (set bs i b) j
set_alike ms bs i b same there here j = grind (arith, nat_tests, cases_eq, get_or-set_at, get_or-set_other)

-- or set in the longer one and added to the other
next_alike : (ms bs : List Bool) (n : ℕ) (b : Bool) → ((j : ℕ) → is_marked ms j ≡ is_marked bs j) → n ≡ length bs → n < length ms → (j : ℕ) → is_marked (set ms n b) j ≡ is_marked (bs ++ b ∷ []) j
next_alike ms bs n b same len there j = grind (arith, common_steps, cases_eq, cases_lt, get_or-set_at, get_or-set_other, get_or_past)

cut_alike : (ms bs now : List Bool) (n : ℕ) → ((j : ℕ) → is_marked ms j ≡ is_marked bs j) → IsClearedFrom n ms now → (j : ℕ) → is_marked now j ≡ is_marked (take n bs) j
cut_alike ms bs now n same cleared j = elim (cases_lt j n) [
  | inl lt ↦ cleared.kept j lt ∙ same j ∙ sym (get_or-take n bs j false lt)
  | inr ge ↦ cleared.none j ge ∙ sym (mark_past (take n bs) j (omega (arith, ge, length-take n bs)))
]

module _ {X : Type 0} (p : X → Bool) (xs : List X) (ms : List Bool) (are : AreMarksFor p xs ms) where
  pub mark_of : (i : ℕ) (x : X) → i < length xs → x ≡ get_or xs i x → is_marked ms i ≡ p x
  mark_of i x there at = are.tell i ∙ get_or-map p xs i x false there ∙ ap p (sym at)

  -- the next part has no mark yet
  pub unmarked_next : (n : ℕ) → n ≡ length xs → is_marked ms n ≡ false
  unmarked_next n at = are.tell n ∙ mark_past (map p xs) n (omega (arith, at, length-map xs p))

  pub marks_wider : (now : List Bool) → IsWider ms now → AreMarksFor p xs now
  marks_wider now wide = record { tell = λ i. wide.same i ∙ are.tell i; room = omega (arith, are.room, wide.longer) }

  -- a part was changed and then looked at
  pub marks_set : (i : ℕ) (y : X) → i < length xs → AreMarksFor p (set xs i y) (set ms i (p y))
  marks_set i y there = record {
    tell = λ j. set_alike ms (map p xs) i (p y) are.tell (omega (arith, there, are.room)) (omega (arith, there, length-map xs p)) j ∙ ap (λ bs. is_marked bs j) (sym (map-set p xs i y));
    room = rw (length-set, length-set) are.room;
  }

  -- one more opens
  pub marks_next : (n : ℕ) (x : X) (b : Bool) → n ≡ length xs → HasRoom (n + 1) ms → p x ≡ b → AreMarksFor p (xs ++ x ∷ []) (set ms n b)
  marks_next n x b at room is = record {
    tell = λ j. next_alike ms (map p xs) n b are.tell (at ∙ sym (length-map xs p)) (omega (arith, room)) j ∙ ap (λ c. is_marked (map p xs ++ c ∷ []) j) (sym is) ∙ ap (λ bs. is_marked bs j) (sym (map-append p xs (x ∷ [])));
    room = omega (arith, at, room, length-set ms n b, length-append xs (x ∷ []));
  }

  pub marks_same : (n : ℕ) (x : X) → n ≡ length xs → HasRoom (n + 1) ms → p x ≡ false → AreMarksFor p (xs ++ x ∷ []) ms
  marks_same n x at room is = subst (AreMarksFor p (xs ++ x ∷ [])) (mark_is ms n false (unmarked_next n at)) (marks_next n x false at room is)

  -- some leave
  pub marks_fewer : (n : ℕ) (now : List Bool) → IsClearedFrom n ms now → AreMarksFor p (take n xs) now
  marks_fewer n now cleared = record {
    tell = λ j. cut_alike ms (map p xs) now n are.tell cleared j ∙ ap (λ bs. is_marked bs j) (take-map p n xs);
    room = omega (arith, are.room, cleared.len, length-take n xs);
  }

-- A row of which memory was asked for more

pub wider_same : (ms : List Bool) → IsWider ms ms
wider_same ms = record { same = λ i. refl; longer = omega arith }

pub wider_opened : {E : Type 0} (r : Result (Unit {0}) E) (ms now : List Bool) (count : ℕ) → OnOk r (now ≡ ms ++ replicate (count - length ms) false) → OnErr r (now ≡ ms) → IsWider ms now
wider_opened r ms now count ok err = grind (arith, nat_tests, length-append, length-replicate, padded)

pub room_opened : {E : Type 0} (r : Result (Unit {0}) E) (ms now : List Bool) (index : ℕ) → OnOk r (now ≡ ms ++ replicate (index + 64 - length ms) false) → OnOk r (HasRoom index ms → HasRoom (index + 1) now)
room_opened r ms now index ok = grind (arith, nat_tests, length-append, length-replicate)

-- ---- The least mark of a row that changes, and what sums it up.

-- where none is marked between, a search may begin past them
pub next_past : (marks : List Bool) (from past : ℕ) (r : Option ℕ) → from ≤ past → ((i : ℕ) → from ≤ i → i < past → is_marked marks i ≡ false) → IsNextMark marks past r → IsNextMark marks from r
next_past marks from past r le clear next = record {
  found = λ n is. (let f = next.found n is in (omega (arith, le, f.0), f.1));
  unmarked = λ i at before. elim (cases_lt i past) [ inl lt ↦ clear i at lt | inr ge ↦ next.unmarked i ge before ];
}

module _ (marks others told : List Bool) (from : ℕ) where
  -- none is left where none is marked
  pub none_left : IsNextMark marks 0 None → IsNextMark (untold (both marks others) told) from None
  none_left next = grind (arith, nat_tests, none-some, left_below, not_both)

  -- nor where all were told up to the last mark
  pub none_past_first : (past below : ℕ) → past ≤ below → AreUnmarkedFrom marks past → AreMarkedBelow told below → IsNextMark (untold (both marks others) told) from None
  none_past_first past below few clear full = grind (arith, nat_tests, none-some, cases_lt, both_told_below, left_below, not_both)

  -- nor below the first mark, nor below one where all were told
  pub left_from : (first below past : ℕ) (r : Option ℕ) → past ≡ max (max from first) below → IsNextMark marks 0 (Some first) → AreMarkedBelow told below → IsNextMark (untold (both marks others) told) past r → IsNextMark (untold (both marks others) told) from r
  left_from first below past r is next full =
      next_past (untold (both marks others) told) from past r (omega (arith, is))
      (λ i le lt. elim (cases_lt i first) [
        | inl under ↦ left_below (both marks others) told i (not_both marks others i (next.unmarked i (omega arith) under))
        | inr over ↦ both_told_below (both marks others) told i (full i (omega (arith, is, le, lt, over)))
      ])

-- none is marked past them
pub unmarked_opened : {A E : Type 0} (r : Result A E) (marks now : List Bool) (n past : ℕ) → OnOk r (now ≡ marks ++ replicate n false) → OnErr r (now ≡ marks) → AreUnmarkedFrom marks past → AreUnmarkedFrom now past
unmarked_opened r marks now n past ok err clear = grind (arith, nat_tests, padded)

pub unmarked_set : (marks : List Bool) (k past now : ℕ) (b : Bool) → past ≤ now → (b ≡ true → k < now) → AreUnmarkedFrom marks past → AreUnmarkedFrom (set marks k b) now
unmarked_set marks k past now b le under clear i ge = grind (arith, nat_tests, get_or-set_other, get_or-set_at, get_or_past, length-set)

module _ (marks : List Bool) (k : ℕ) (there : k < length marks) (r : Option ℕ) (next : IsNextMark marks 0 r) where
  -- one is marked
  pub next_marked : IsNextMark (set marks k true) 0 (least_of r (Some k))
  next_marked = grind (arith, nat_tests, get_or-set_other, set, get_or-set_same, cases_eq, same_Some, cases_lt)

  -- another one's mark is taken away
  pub next_cleared : false ≡ option_eq (λ a b. a == b) r (Some k) → IsNextMark (set marks k false) 0 r
  next_cleared differs = grind (arith, nat_tests, get_or-set_other, cases_eq, get_or-set_at, none-some, eqb-false, same_Some)

-- Words that sum up marks

-- a flag for each word of marks that opens
module _ {A E : Type 0} (r : Result A E) (marks words marks_now words_now : List Bool) (count n : ℕ) (are : AreSummed marks words) (enough : count ≤ 64 * n) (is : words_now ≡ words ++ replicate (n - length words) false) where
  pub summed_open : OnOk r (marks_now ≡ marks ++ replicate (count - length marks) false) → OnErr r (marks_now ≡ marks) → AreSummed marks_now words_now
  summed_open = grind (arith, nat_tests, replicate, length-append, length-replicate, padded)

-- indexes without a mark are opened
pub next_open : {A E : Type 0} (r : Result A E) (marks now : List Bool) (n : ℕ) (first : Option ℕ) → OnOk r (now ≡ marks ++ replicate n false) → OnErr r (now ≡ marks) → IsNextMark marks 0 first → IsNextMark now 0 first
next_open r marks now n first ok err next = grind (arith, nat_tests, padded)

-- one mark is set or taken away, and its word's flag with it
module _ (marks words marks_now words_now : List Bool) (i : ℕ) (b has : Bool) (are : AreSummed marks words) (there : i < length marks) (is : marks_now ≡ set marks i b) (looked : has ≡ false → HasNoMark marks_now (i / 64)) (flags : words_now ≡ set words (i / 64) has) where
  pub summed_set : AreSummed marks_now words_now
  summed_set = grind (arith, common_steps, length-set, cases_lt)

-- indexes are taken away that have no mark
module _ (marks now : List Bool) (to : ℕ) (clear : AreUnmarkedFrom marks to) (is : now ≡ take to marks) where
  marks_left : length now ≡ min to (length marks)
  marks_left = ap length is ∙ length-take to marks

  mark_taken : (i : ℕ) → is_marked now i ≡ is_marked marks i
  mark_taken i = elim (cases_lt i to) [
    | inl lt ↦ ap (λ ms. is_marked ms i) is ∙ get_or-take to marks i false lt
    | inr ge ↦ mark_past now i (omega (arith, ge, marks_left)) ∙ sym (clear i ge)
  ]

  pub summed_taken : (words : List Bool) → AreSummed marks words → AreSummed now words
  summed_taken words are = record { room = omega (arith, marks_left, are.room); none = λ word free i at. mark_taken i ∙ are.none word free i at }

  pub unmarked_taken : (past : ℕ) → AreUnmarkedFrom marks past → AreUnmarkedFrom now past
  unmarked_taken past from i ge = mark_taken i ∙ from i ge

  pub next_taken : (first : Option ℕ) → IsNextMark marks 0 first → IsNextMark now 0 first
  next_taken first next = record {
    found = λ n at. (let f = next.found n at in (f.0, mark_taken n ∙ f.1));
    unmarked = λ i ge before. mark_taken i ∙ next.unmarked i ge before;
  }

  pub short_taken : length marks ≤ 2 ^ 60 → length now ≤ 2 ^ 60
  short_taken few = omega (arith, marks_left, few)

  pub full_taken : (full : List Bool) → AreFull marks full → AreFull now full
  full_taken full are = record { room = omega (arith, marks_left, are.room); all = λ word whole i at. mark_taken i ∙ are.all word whole i at }

-- what was opened has no mark, and may be taken away again
module _ (old mid : List Bool) (n : ℕ) (is : mid ≡ old ++ replicate n false) where
  pub opened_clear : AreUnmarkedFrom mid (length old)
  opened_clear i ge = ap (λ ms. is_marked ms i) is ∙ padded old n i false ∙ mark_past old i ge

  pub closed_back : (new : List Bool) (count : ℕ) → count ≡ length old → new ≡ take count mid → new ≡ old
  closed_back new count len taken = taken ∙ ap (λ k. take k mid) len ∙ ap (take (length old)) is ∙ take-append-le (length old) old (replicate n false) (omega arith) ∙ take_all (length old) old (omega arith)

-- ---- Words of which each index is marked: one changes, or more are opened.

-- a flag for each word of marks that opens
module _ {A E : Type 0} (r : Result A E) (marks full marks_now full_now : List Bool) (count n : ℕ) (are : AreFull marks full) (enough : count ≤ 64 * n) (is : full_now ≡ full ++ replicate (n - length full) false) where
  all : (word : ℕ) → is_marked full_now word ≡ true → HasAllMarks marks word
  all word whole = are.all word (sym (ap (λ xs. is_marked xs word) is ∙ padded full (n - length full) word false) ∙ whole)

  pub full_open : OnOk r (marks_now ≡ marks ++ replicate (count - length marks) false) → OnErr r (marks_now ≡ marks) → AreFull marks_now full_now
  full_open = grind (arith, nat_tests, replicate, length-append, length-replicate, padded)

-- an index loses its mark, and its word the flag
pub full_less : (marks full now : List Bool) (i : ℕ) → AreFull marks full → i < length marks → now ≡ set marks i false → AreFull now (set full (i / 64) false)
full_less marks full now i are there is = grind (arith, common_steps, all_in)

-- one gets a mark, and flags stay
pub full_more : (marks full now : List Bool) (i : ℕ) → AreFull marks full → i < length marks → now ≡ set marks i true → AreFull now full
full_more marks full now i are there is = grind (arith, common_steps, all_in)

-- each index of that word is marked now
pub full_here : (marks full now full_now : List Bool) (i w : ℕ) → AreFull marks full → i < length marks → now ≡ set marks i true → IsWordOf now (i / 64) w → w ≡ 2 ^ 64 - 1 → full_now ≡ set full (i / 64) true → AreFull now full_now
full_here marks full now full_now i w are there is of whole flags = grind (arith, common_steps, all_in)

-- below a word each has a flag
pub below_opened : (full : List Bool) (n first : ℕ) → AreMarkedBelow full first → AreMarkedBelow (full ++ replicate n false) first
below_opened full n first below i lt = padded full n i false ∙ below i lt

module _ (full full_now : List Bool) (word : ℕ) (there : word < length full) (is : full_now ≡ set full word true) where
  pub below_more : (first : ℕ) → AreMarkedBelow full first → AreMarkedBelow full_now first
  below_more first below i lt = grind (arith, get_or-set_at full word i true false, get_or-set_other full word i true false, below i)

  -- and the next one has one now
  pub below_next : (first : ℕ) → first ≡ word → AreMarkedBelow full first → AreMarkedBelow full_now (word + 1)
  below_next first at below i lt = grind (arith, get_or-set_at full word i true false, get_or-set_other full word i true false, below i)

-- below the first bit that isn't set in the first word without a flag, each is marked
pub below_here : (marks full : List Bool) (first w : ℕ) (r : Option ℕ) → AreFull marks full → AreMarkedBelow full first → IsWordOf marks first w → w < 2 ^ 64 → IsLowestBit (bit_not w64 w) 0 r → (below : ℕ) → below ≤ first * 64 + unwrap_or r 64 → AreMarkedBelow marks below
below_here marks full first w r are whole of fits lowest below le i lt =
    elim (cases_lt i (first * 64)) [
      | inl under ↦ are.all (i / 64) (whole (i / 64) (omega (arith, under))) i refl
      | inr over ↦ (let j : ℕ = i - first * 64 in let at : i ≡ first * 64 + j = omega (arith, over) in subst (λ k. is_marked marks k ≡ true) (sym at) (here j r refl (omega (arith, lt, le, at))))
    ]
  where
    here : (j : ℕ) → (s : Option ℕ) → s ≡ r → j < unwrap_or s 64 → is_marked marks (first * 64 + j) ≡ true
    here j s is under = let small : j < 64 = within s is under in sym (of.bits j small) ∙ eq-eqb (bit_at w j) 1 (omega (arith, bit_at_not w64 w j fits small, lowest.clear j (omega arith) small (before s is under), bit_at-lt w j))
      where
        within : (t : Option ℕ) → t ≡ r → j < unwrap_or t 64 → j < 64
        within None e lt = lt
        within (Some n) e lt = let f = lowest.found n (sym e) in omega (arith, lt, f.1)

        before : (t : Option ℕ) → t ≡ r → j < unwrap_or t 64 → IsBefore j r
        before None e lt = subst (IsBefore j) e tt
        before (Some n) e lt = subst (IsBefore j) e lt

-- ---- Marks that tell of which streams what is kept passes a test.

-- the mark of an index tells it of what is there
pub mark_tells : {X : Type 0} (p : X → Bool) (xs : List X) (i : ℕ) → is_marked (map p xs) i ≡ one_has p (slice_get xs i)
mark_tells p [] i = mark_past [] i (omega arith)
mark_tells p (x ∷ xs) zero = refl
mark_tells p (x ∷ xs) (suc i) = mark_tells p xs i

sought_mark : (told : Bool) (ms ts : List Bool) (i : ℕ) → is_marked (if told then both ms ts else untold ms ts) i ≡ true → (is_marked ms i ≡ true) × (is_marked ts i ≡ told)
sought_mark told ms ts i is = grind (arith, nat_tests, both_is, untold_is)

mark_sought : (told : Bool) (ms ts : List Bool) (i : ℕ) → is_marked ms i ≡ true → is_marked ts i ≡ told → is_marked (if told then both ms ts else untold ms ts) i ≡ true
mark_sought told ms ts i is free = grind (arith, nat_tests, both_is, untold_is)

module _ {X : Type 0} (p : X → Bool) (t : Tables X) where
  abbrev Passes : ℕ → Type 0
  Passes = IsHeld (λ x. p x ≡ true) t

  passes_at : (n : ℕ) (o : Option X) → lookup t n ≡ o → one_has p o ≡ true → Passes n
  passes_at n None at is = absurd (true≢false (sym is))
  passes_at n (Some x) at is = (x, at, is)

  module _ (ms : List Bool) (k : ℕ) (marks : TellWhich p t k ms) where
    marked_passes : (n : ℕ) → type_of n ≡ k → is_marked ms (n / 4) ≡ true → Passes n
    marked_passes n kind is = passes_at n (lookup t n) refl (sym (marks n kind) ∙ is)

    pub passes_marked : (n : ℕ) → type_of n ≡ k → Passes n → is_marked ms (n / 4) ≡ true
    passes_marked n kind (x, at, is) = marks n kind ∙ ap (one_has p) at ∙ is

    -- a search over them is one over the streams
    pub next_passes : (from : ℕ) (r : Option ℕ) → IsLeast (IsMarkedOf ms k) from r → IsLeast (IsHeldOf (λ x. p x ≡ true) t k) from r
    next_passes from r = least_as (IsMarkedOf ms k) (IsHeldOf (λ x. p x ≡ true) t k) from r (λ n (kind, is). (kind, marked_passes n kind is)) (λ n (kind, held). (kind, passes_marked n kind held))

    -- of those that an owner was told of, or wasn't
    pub next_sought : (b : Bool) (told : Tables Bool) (from : ℕ) (r : Option ℕ) → IsLeast (IsMarkedOf (if b then both ms (table told k) else untold ms (table told k)) k) from r → IsLeast (λ n. (type_of n ≡ k) × (Passes n × (is_told told n ≡ b))) from r
    next_sought b told from r =
        least_as (IsMarkedOf (if b then both ms (table told k) else untold ms (table told k)) k) (λ n. (type_of n ≡ k) × (Passes n × (is_told told n ≡ b))) from r
        (λ n (kind, is). (let m = sought_mark b ms (table told k) (n / 4) is in (kind, (marked_passes n kind m.0, told_of told n k kind ∙ m.1))))
        (λ n (kind, (held, is)). (kind, mark_sought b ms (table told k) (n / 4) (passes_marked n kind held) (sym (told_of told n k kind) ∙ is)))

    pub next_untold : (told : Tables Bool) (from : ℕ) (r : Option ℕ) → IsLeast (IsMarkedOf (untold (both ms ms) (table told k)) k) from r → IsLeast (λ n. (type_of n ≡ k) × (Passes n × (is_told told n ≡ false))) from r
    next_untold told from r h = next_sought false told from r (subst (λ xs. IsLeast (IsMarkedOf (untold xs (table told k)) k) from r) (both_self ms) h)

  -- where no type has a mark none passes
  pub none_passes : (a b c d : List Bool) → TellWhich p t 0 a → TellWhich p t 1 b → TellWhich p t 2 c → TellWhich p t 3 d → IsUntoldClear a → IsUntoldClear b → IsUntoldClear c → IsUntoldClear d → (n : ℕ) (x : X) → lookup t n ≡ Some x → p x ≡ false
  none_passes a b c d ta tb tc td na nb nc nd n x at = go (n % 4) refl (omega arith)
    where
      off : (ms : List Bool) (k : ℕ) → TellWhich p t k ms → IsUntoldClear ms → n % 4 ≡ k → p x ≡ false
      off ms k tell none kind = sym (tell n kind ∙ ap (one_has p) at) ∙ none (n / 4)

      go : (k : ℕ) → n % 4 ≡ k → k < 4 → p x ≡ false
      go zero kind lt = off a 0 ta na kind
      go (suc zero) kind lt = off b 1 tb nb kind
      go (suc (suc zero)) kind lt = off c 2 tc nc kind
      go (suc (suc (suc zero))) kind lt = off d 3 td nd kind
      go (suc (suc (suc (suc k)))) kind lt = absurd (omega (arith, lt))

-- both marks, where no index has one of them
pub neither : (ms ts : List Bool) → (IsUntoldClear ms ⊎ IsUntoldClear ts) → IsNextMark (both ms ts) 0 None
neither ms ts none = clear_next (both ms ts) 0 (λ i. grind (arith, nat_tests, both_is, none))

-- A reader of such a lane waits, where what was told was an end or a reset (RFC 9000, sections 2.2 and 3.2)

waits_by : (o : Option ℕ) (l : RecvLane) (size : ℕ) → tells_something (answer_by o l 1) ≡ false → answer_by o l size ≡ Wait
waits_by o l size h = grind (arith, nat_tests)

-- one that was stopped, and hasn't come to its end
waits_off : (o : Option ℕ) (l : RecvLane) (size : ℕ) → is_some l.stop_code ≡ true → (is_some o || is_whole l) ≡ false → answer_by o l size ≡ Wait
waits_off o l size off h = grind (arith, nat_tests)

pub waits : (l : RecvLane) (size : ℕ) → (l.reader_done ≡ true → (recv_ended l ≡ true) ⊎ (is_some l.stop_code ≡ true)) → ((t : RecvTask) → HasNone t l) → read_answer l size ≡ Wait
waits l size told none = go l.reader_done refl
  where
    go : (b : Bool) → l.reader_done ≡ b → read_answer l size ≡ Wait
    go true is = elim (told is) [
      | inl ended ↦ absurd (both_ways (recv_ended l) (none tasks.Ended) ended)
      | inr off ↦ waits_off l.reset_code l size off (ap (λ b. b && (is_some l.reset_code || is_whole l)) (sym is) ∙ none tasks.Ended)
    ]
    go false is = waits_by l.reset_code l size (ap (λ b. not b && tells_something (read_answer l 1)) (sym is) ∙ none tasks.Readable)

-- a lane begins without an answer
pub begins_without : (t : RecvTask) (window : ℕ) (share : Share) → HasNone t (new_lane window share)
begins_without tasks.Readable window share = ap tells_something (not_chosen _ _ Wait (set.contains-empty nat_cmp 0))
begins_without tasks.Ended window share = refl

pub has_raised : (t : RecvTask) (l : RecvLane) → has t (raise l) ≡ has t l
has_raised t l = grind (arith, nat_tests)

raised_marks : (t : RecvTask) (xs : List RecvLane) → map (has t) (map raise xs) ≡ map (has t) xs
raised_marks t [] = refl
raised_marks t (x ∷ xs) = rw (has_raised t x, raised_marks t xs) refl

pub noted_raised : (xs : List RecvLane) (marks : RecvMarks) → AreNoted xs marks → AreNoted (map raise xs) marks
noted_raised xs marks h t = let m = h t in record { tell = λ i. m.tell i ∙ ap (λ bs. is_marked bs i) (sym (raised_marks t xs)); room = rw length-map m.room }
