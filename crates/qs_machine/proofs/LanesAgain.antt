-- A frame that took effect on a receiving half and comes again passes its checks and leaves the half as it is.
use Rattle.std.proofs.Common.{◌≡◌, ℕ, ◌+◌, ◌<◌, ◌≤◌, Bool, true, false, ◌||◌, cond, List, [], ◌∷◌, length, Option, Some, None, is_some, ◌⊎◌, refl, sym, ap, ◌∙◌, arith, inl, inr}
use Rattle.std.specs.Prelude.{max, nat_lt, ◌==◌, unwrap_or, Result, Ok, Err, IsOk}
use Rattle.std.specs.Ordering.{nat_cmp}
use Rattle.std.specs.FinMap as fmap
use Rattle.std.specs.FinSet as set
use Rattle.std.proofs.lemmas.Bool.{both_ways, cond_both, or_cases, or_left, or_right}
use Rattle.std.proofs.lemmas.Bool.Decides.{nat_tests}
use Rattle.qs_ranges.specs.Numbers.{NumberSet, ContainsRange, is_within, end_of}
use Rattle.qs_ranges.proofs.Sets.{covers-is, covers-of, below-end_of, inside, with_range-covered}
use Rattle.qs_recv.specs.Assembled.{Assembled, put, store, discard, forget}
use Rattle.qs_recv.specs.Lane.{RecvLane, highest, highest_after, check_stream, check_reset, check_bytes, take_stream, take_reset, is_whole, breaks_known, raise, stop, stop_and_discard, is_over, after_read, after_answer, read_answer, set_window}
use Rattle.qs_recv.specs.declared.half.Read.{Read}
use Rattle.qs_recv.specs.Lawful.{IsLawful}
use Rattle.qs_recv.specs.declared.half.Highest.{Highest}
use Rattle.qs_recv.specs.declared.half.RecvFault.TheVariants.{FinalSize, StreamCredit, ChangedByte}
use Rattle.qs_recv.proofs.RingLaws.{contains-with_run, byte_in, same_none, same_true}
use Rattle.qs_recv.proofs.LawfulLaws.{check_fits, check_is, taken_passes, stored_before as byte_before, unbroken, raised_grows, under_grows, grows_after_call}
use Rattle.qs_recv.specs.Laws.{Grows, IsUnchanged, TakeStream, TakeReset, ReadUpTo, StopWith}
use Rattle.qs_machine.proofs.EndedHalves.{RecvStays, recv_stays, whole_stays, reset_stays_ended, read_stays, stop_stays, forget_stays}
use Rattle.qs_machine.proofs.EveryCall.{same_either}

-- a byte that is stored at an offset that came before was stored there before
abbrev StaysStored : RecvLane → RecvLane → Type 0
StaysStored l m = (q byte : ℕ) → set.contains l.arrived.received q ≡ true → fmap.get m.arrived.stored q ≡ Some byte → fmap.get l.arrived.stored q ≡ Some byte

-- what a receiving half keeps as frames come
pub record LaneAfter (l m : RecvLane) : Type 0 where
  pub limit : l.limit ≤ m.limit
  pub received : (q : ℕ) → set.contains l.arrived.received q ≡ true → set.contains m.arrived.received q ≡ true
  pub size : (s : ℕ) → l.final_size ≡ Some s → m.final_size ≡ Some s
  pub reset : is_some l.reset_code ≡ true → is_some m.reset_code ≡ true
  pub stored : StaysStored l m
  pub ended : RecvStays l m

pub lane_same : (l : RecvLane) → LaneAfter l l
lane_same l = record { limit = omega arith; received = λ q is. is; size = λ s is. is; reset = λ is. is; stored = λ q byte came is. is; ended = λ is. is }

pub lane_twice : (l m k : RecvLane) → LaneAfter l m → LaneAfter m k → LaneAfter l k
lane_twice l m k a b = grind arith

grown : (l m : RecvLane) → Grows l m → (is_some l.reset_code ≡ true → is_some m.reset_code ≡ true) → StaysStored l m → RecvStays l m → LaneAfter l m
grown l m g reset stored ended = record { limit = g.limit_grows; received = g.received_stays; size = g.final_size_stays; reset = reset; stored = stored; ended = ended }

pub data_after : (l : RecvLane) (offset : ℕ) (bytes : List ℕ) (fin : Bool) → IsLawful l → IsOk (check_stream l offset (length bytes) fin) → LaneAfter l (take_stream l offset bytes fin)
data_after l offset bytes fin lawful ok =
    let m = take_stream l offset bytes fin in
    let g = grows_after_call l (TakeStream offset bytes fin) lawful ok in
    grown l m g (λ is. is) (byte_before l (TakeStream offset bytes fin)) (recv_stays l m refl (λ is. is) (whole_stays l m g.received_stays g.final_size_stays))

pub reset_after : (l : RecvLane) (code size : ℕ) → IsLawful l → IsOk (check_reset l size) → LaneAfter l (take_reset l code size)
reset_after l code size lawful ok =
    grown l (take_reset l code size) (grows_after_call l (TakeReset code size) lawful ok)
    (cond_both (is_some l.reset_code || is_whole l) l (record l { arrived = forget l.arrived; final_size = Some size; reset_code = Some code }) (λ m. is_some l.reset_code ≡ true → is_some m.reset_code ≡ true) (λ _ is. is) (λ _ is. refl))
    (byte_before l (TakeReset code size)) (reset_stays_ended l code size)

pub raise_after : (l : RecvLane) → LaneAfter l (raise l)
raise_after l = record { limit = raised_grows l; received = λ q is. is; size = λ s is. is; reset = λ is. is; stored = λ q byte came is. is; ended = λ is. is }

pub window_after : (l : RecvLane) (w : ℕ) → LaneAfter l (set_window l w)
window_after l w = record { limit = under_grows l w; received = λ q is. is; size = λ s is. is; reset = λ is. is; stored = λ q byte came is. is; ended = λ is. is }

pub stop_after : (l : RecvLane) (code : ℕ) → IsLawful l → LaneAfter l (stop l code)
stop_after l code lawful =
    grown l (stop l code) (grows_after_call l (StopWith code) lawful tt)
    (cond_both (is_some l.stop_code || is_over l) l (record l { arrived = discard l.arrived; stop_code = Some code }) (λ m. is_some l.reset_code ≡ true → is_some m.reset_code ≡ true) (λ _ is. is) (λ _ is. is))
    (byte_before l (StopWith code)) (stop_stays code l)

pub forget_after : (l : RecvLane) (code : ℕ) → IsLawful l → LaneAfter l (stop_and_discard l code)
forget_after l code lawful = grind (arith, nat_tests, stop_after, forget_stays)

pub read_after : (l : RecvLane) (size : ℕ) → IsLawful l → LaneAfter l (after_read l size)
read_after l size lawful = grown l (after_read l size) (grows_after_call l (ReadUpTo size) lawful tt) (by (read_answer l size)) (byte_before l (ReadUpTo size)) (read_stays size l)
  where
    by : (answer : Read) → is_some l.reset_code ≡ true → is_some (after_answer answer l size).reset_code ≡ true
    by answer is = grind arith

-- Data

-- after a reset no data is put
pub record IsPassed (l : RecvLane) (offset n : ℕ) : Type 0 where
  pub reset : is_some l.reset_code ≡ true
  pub size : ℕ
  pub known : l.final_size ≡ Some size
  pub inside : 0 < n → offset + n ≤ size

-- each offset came, and where its byte is still stored it is the one that comes again
pub record IsThere (l : RecvLane) (offset : ℕ) (bytes : List ℕ) : Type 0 where
  pub received : ContainsRange l.arrived.received offset (offset + length bytes)
  pub unchanged : IsUnchanged l.arrived offset bytes

-- a frame with these bytes took effect
pub record HasData (l : RecvLane) (offset : ℕ) (bytes : List ℕ) (fin : Bool) : Type 0 where
  pub within : offset + length bytes ≤ l.limit
  pub sized : fin ≡ true → l.final_size ≡ Some (offset + length bytes)
  pub came : IsPassed l offset (length bytes) ⊎ IsThere l offset bytes

there_stays : (l m : RecvLane) (offset : ℕ) (bytes : List ℕ) → LaneAfter l m → IsThere l offset bytes → IsThere m offset bytes
there_stays l m offset bytes a all = grind (arith, nat_tests, byte_in)

pub data_stays : (l m : RecvLane) (offset : ℕ) (bytes : List ℕ) (fin : Bool) → LaneAfter l m → HasData l offset bytes fin → HasData m offset bytes fin
data_stays l m offset bytes fin a h =
    record {
      within = omega (arith, a.limit, h.within);
      sized = λ is. a.size (offset + length bytes) (h.sized is);
      came = elim h.came [
        | inl p ↦ inl (record { reset = a.reset p.reset; size = p.size; known = a.size p.size p.known; inside = p.inside })
        | inr all ↦ inr (there_stays l m offset bytes a all)
      ];
    }

passed_size : (f : Option ℕ) (end n : ℕ) (fin : Bool) (before : ℕ) → is_some f ≡ true → breaks_known f end n fin before ≡ false → (s : ℕ) × (cond fin (Some end) f ≡ Some s) × (0 < n → end ≤ s)
passed_size None end n fin before known h = absurd (both_ways false refl known)
passed_size (Some s) end n true before known h = (end, refl, λ some. omega arith)
passed_size (Some s) end n false before known h = (s, refl, λ some. grind (arith, nat_tests))

pub data_taken : (l : RecvLane) (offset : ℕ) (bytes : List ℕ) (fin : Bool) → IsLawful l → IsOk (check_stream l offset (length bytes) fin) → IsOk (check_bytes l offset bytes)
    → HasData (take_stream l offset bytes fin) offset bytes fin
data_taken l offset bytes fin lawful ok alike =
    let fits = check_fits l offset (length bytes) fin ok in
    record {
      within = omega (arith, fits);
      sized = λ is. ap (λ b. cond b (Some (offset + length bytes)) l.final_size) is;
      came = by_reset (is_some l.reset_code) refl;
    }
  where
    unchanged : IsUnchanged (take_stream l offset bytes fin).arrived offset bytes
    unchanged = (check_is (take_stream l offset bytes fin) offset bytes).0 (taken_passes l offset bytes fin alike)

    by_reset : (b : Bool) → is_some l.reset_code ≡ b → IsPassed (take_stream l offset bytes fin) offset (length bytes) ⊎ IsThere (take_stream l offset bytes fin) offset bytes
    by_reset true is =
        let (s, known, small) = passed_size l.final_size (offset + length bytes) (length bytes) fin (highest l) (lawful.reset_sized is) (unbroken l offset (length bytes) fin ok) in
        inl (record { reset = is; size = s; known = known; inside = small })
    by_reset false is =
        let put_there : ContainsRange (take_stream l offset bytes fin).arrived.received offset (offset + length bytes) = λ q low high.
        ap (λ b. set.contains (cond b l.arrived (put l.arrived offset bytes)).received q) is
        ∙ contains-with_run l.arrived.received offset (length bytes) q ∙ or_right (set.contains l.arrived.received q) (is_within offset (offset + length bytes) q) (inside offset (offset + length bytes) q low high) in
        inr (record { received = put_there; unchanged = unchanged })

-- the bytes that came again lie below the highest offset
data_inside : (m : RecvLane) (offset : ℕ) (bytes : List ℕ) (fin : Bool) → IsLawful m → HasData m offset bytes fin → 0 < length bytes → offset + length bytes ≤ highest m
data_inside m offset bytes fin lawful h some = grind (arith, nat_tests, below-end_of)

not_broken : (f : Option ℕ) (end n : ℕ) (fin : Bool) (before : ℕ) → (fin ≡ true → f ≡ Some end) → ((s : ℕ) → f ≡ Some s → 0 < n → end ≤ s) → breaks_known f end n fin before ≡ false
not_broken f end n fin before sized small = grind arith

same_highest : (f : Option ℕ) (h end n : ℕ) (fin : Bool) → (fin ≡ true → end ≡ h) → (0 < n → end ≤ h) → cond fin end (cond (is_some f || (n == 0)) h (max h end)) ≡ h
same_highest f h end n fin all small = grind arith

-- a check whose tests both pass
both_pass : (b c : Bool) (h : Highest) → b ≡ false → c ≡ false → ◌≡◌ {A = Result Highest _} (cond b (Err FinalSize) (cond c (Err StreamCredit) (Ok h))) (Ok h)
both_pass b c h first second = rw (first, second) refl

stored_before : (r : NumberSet) (m : fmap.FinMap nat_cmp ℕ) (at : ℕ) (bytes : List ℕ) → ContainsRange r at (at + length bytes) → store r m at bytes ≡ m
unfolding store
stored_before r m at [] all = refl
stored_before r m at (byte ∷ bytes) all =
    ap (λ b. store r (cond b m (fmap.insert m at byte)) (at + 1) bytes) (all at (omega arith) (omega arith))
    ∙ stored_before r m (at + 1) bytes (λ q low high. all q (omega arith) (omega arith))

pub put_again : (a : Assembled) (offset : ℕ) (bytes : List ℕ) → ContainsRange a.received offset (offset + length bytes) → put a offset bytes ≡ a
put_again a offset bytes all = grind (arith, nat_tests, same_either, stored_before, with_range-covered)

-- after a reset nothing is stored
none_stored : (m : RecvLane) → IsLawful m → is_some m.reset_code ≡ true → (q : ℕ) → fmap.get m.arrived.stored q ≡ None
none_stored m lawful reset q =
    let thrown = lawful.thrown_away (lawful.discards ∙ or_left (is_some m.reset_code) (is_some m.stop_code) reset) in
    ap (λ s. fmap.get s q) thrown ∙ fmap.get-empty nat_cmp q

-- the frame passes its checks, and leaves the half as it is
pub data_again : (m : RecvLane) (offset : ℕ) (bytes : List ℕ) (fin : Bool) → IsLawful m → HasData m offset bytes fin
    → (check_stream m offset (length bytes) fin ≡ Ok (record { before = highest m; after = highest m })) × (check_bytes m offset bytes ≡ Ok tt) × (take_stream m offset bytes fin ≡ m)
data_again m offset bytes fin lawful h = (passes, unchanged, (λ i. record m { arrived = arrived i; final_size = size i }))
  where
    n : ℕ
    n = length bytes

    whole : fin ≡ true → offset + n ≡ highest m
    whole is = sym (ap (λ f. unwrap_or f (end_of m.arrived.received)) (h.sized is))

    fine : breaks_known m.final_size (offset + n) n fin (highest m) ≡ false
    fine = not_broken m.final_size (offset + n) n fin (highest m) h.sized (λ s is some.
        let e : highest m ≡ s = ap (λ f. unwrap_or f (end_of m.arrived.received)) is in
        let le = data_inside m offset bytes fin lawful h some in
        omega (arith, e, le))

    fits : nat_lt m.limit (max (highest m) (offset + n)) ≡ false
    fits = let a = lawful.granted in let b = h.within in let c : max (highest m) (offset + n) ≤ m.limit = omega (arith, a, b) in grind (arith, nat_tests)

    passes : check_stream m offset n fin ≡ Ok (record { before = highest m; after = highest m })
    passes = both_pass _ _ (record { before = highest m; after = highest_after m offset n fin }) fine fits ∙ ap (λ k. Ok (record { before = highest m; after = k })) (same_highest m.final_size (highest m) (offset + n) n fin whole (data_inside m offset bytes fin lawful h))

    unchanged : check_bytes m offset bytes ≡ Ok tt
    unchanged =
        ap (λ b. cond b (Ok tt) (Err ChangedByte))
        (elim h.came [
          | inl p ↦ same_none m.arrived.stored offset bytes (λ q low high. none_stored m lawful p.reset q)
          | inr all ↦ same_true m.arrived.stored offset bytes all.unchanged
        ])

    arrived : cond (is_some m.reset_code) m.arrived (put m.arrived offset bytes) ≡ m.arrived
    arrived = elim h.came [
      | inl p ↦ ap (λ b. cond b m.arrived (put m.arrived offset bytes)) p.reset
      | inr all ↦ ap (λ a. cond (is_some m.reset_code) m.arrived a) (put_again m.arrived offset bytes all.received) ∙ same_either (λ x. x) (is_some m.reset_code) m.arrived m.arrived refl
    ]

    size : cond fin (Some (offset + n)) m.final_size ≡ m.final_size
    size = grind arith

-- Resets

-- a reset with this final size took effect, or came too late for one
pub record HasReset (l : RecvLane) (size : ℕ) : Type 0 where
  pub within : size ≤ l.limit
  pub sized : l.final_size ≡ Some size
  pub over : (is_some l.reset_code || is_whole l) ≡ true

pub reset_stays : (l m : RecvLane) (size : ℕ) → LaneAfter l m → HasReset l size → HasReset m size
reset_stays l m size a h = grind (arith, nat_tests, or_cases, or_left, or_right, covers-of, covers-is)

pub reset_taken : (l : RecvLane) (code size : ℕ) → IsLawful l → IsOk (check_reset l size) → HasReset (take_reset l code size) size
reset_taken l code size lawful ok = grind arith

-- the reset passes its check, and leaves the half as it is
pub reset_again : (m : RecvLane) (code size : ℕ) → HasReset m size → (check_reset m size ≡ Ok (record { before = highest m; after = highest m })) × (take_reset m code size ≡ m)
reset_again m code size h = grind arith
