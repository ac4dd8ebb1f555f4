-- A receiving half that takes frames.
use Rattle.std.proofs.Common.{◌≡◌, ℕ, ◌+◌, ◌-◌, ◌<◌, ◌≤◌, Bool, true, false, ◌||◌, List, ◌⊎◌, length, Option, Some, None, is_some, refl, sym, ap, ◌∙◌, arith, inr, if◌then◌else◌, nat_cmp, cond}
use Rattle.std.proofs.lemmas.Option.{none-some, same_Some}
use Rattle.std.proofs.lemmas.Bool.Decides.{nat_tests}
use Rattle.std.proofs.lemmas.Bool.{false_from_ne_true}
use Rattle.std.specs.FinMap as fmap
use Rattle.std.specs.FinSet as set
use Rattle.qs_ranges.specs.Numbers.{end_of, is_within}
use Rattle.qs_ranges.proofs.Sets.{below-end_of, end_of-last}
use Rattle.qs_recv.proofs.LawfulLaws.{below_is, contains-below}
use Rattle.qs_recv.specs.Assembled.{put, store, forget, Assembled}
use Rattle.qs_recv.specs.Lane.{RecvLane, take_stream, is_whole, breaks_final_size, check_stream, check_reset}
use Rattle.qs_machine.specs.Ends.{End}
use Rattle.qs_machine.specs.Seen.{Stream}
use Rattle.qs_machine.specs.Verdicts.{or_else, state_fault_in, credit_fault, bytes_fault, lane_of}
use Rattle.qs_runs.specs.Pasts.{Past, Tells, TellsByte, TellsEnd, TellsReset}
use Rattle.qs_runs.specs.Invariant.{RecvOk, StreamTaken, TellsUpTo}
use Rattle.qs_runs.proofs.Members.{run-cases, run-old, run-new, get-stored}
use Rattle.qs_runs.proofs.Changes.{Grows}
use Rattle.qs_machine.proofs.EveryCall.{same_either}

-- What a check that found nothing says

pub or_else_none : (a b : Option ℕ) → or_else a b ≡ None → (a ≡ None) × (b ≡ None)
or_else_none a b e = grind (arith, nat_tests)

-- of a STREAM frame, what the checks of the stream's state and of its credit said
pub stream_passed : (e : End) (n offset : ℕ) (bytes : List ℕ) (fin : Bool)
    → or_else (state_fault_in e n) (or_else (credit_fault e (check_stream (lane_of e n) offset (length bytes) fin)) (bytes_fault e n offset bytes)) ≡ None
    → (state_fault_in e n ≡ None) × (credit_fault e (check_stream (lane_of e n) offset (length bytes) fin) ≡ None)
stream_passed e n offset bytes fin fine = grind (arith, nat_tests)

stream_sized : (e : End) (l : RecvLane) (offset n : ℕ) (fin : Bool) → credit_fault e (check_stream l offset n fin) ≡ None → breaks_final_size l offset n fin ≡ false
stream_sized e l offset n fin fine = false_from_ne_true _ (λ is. none-some 6 (sym (rw is at fine)))

reset_sized : (e : End) (l : RecvLane) (size : ℕ) → credit_fault e (check_reset l size) ≡ None → breaks_final_size l size 0 true ≡ false
reset_sized e l size fine = false_from_ne_true _ (λ is. none-some 6 (sym (rw is at fine)))

names_known : (l : RecvLane) (offset n : ℕ) (fin : Bool) → breaks_final_size l offset n fin ≡ false → (size : ℕ) → l.final_size ≡ Some size → fin ≡ true → offset + n ≡ size
names_known l offset n fin sized size is fin_is = grind (arith, nat_tests)

-- a FIN that passes the check names the size that is known (RFC 9000, section 4.5)
pub fin_fits : (e : End) (l : RecvLane) (offset n : ℕ) (fin : Bool) → credit_fault e (check_stream l offset n fin) ≡ None → (size : ℕ) → l.final_size ≡ Some size → fin ≡ true → offset + n ≡ size
fin_fits e l offset n fin fine = names_known l offset n fin (stream_sized e l offset n fin fine)

pub reset_fits : (e : End) (l : RecvLane) (size : ℕ) → credit_fault e (check_reset l size) ≡ None → (known : ℕ) → l.final_size ≡ Some known → size ≡ known
reset_fits e l size fine known is = (let end : size + 0 ≡ known = names_known l size 0 true (reset_sized e l size fine) known is refl in omega arith)

-- What the half is then

module _ (p : Past) (n window : ℕ) (l : RecvLane) (h : RecvOk p n window l) where
  module _ (offset : ℕ) (bytes : List ℕ) (fin : Bool) (t : Tells p.theirs (Stream n offset bytes fin)) (fits : (size : ℕ) → l.final_size ≡ Some size → fin ≡ true → offset + length bytes ≡ size) where
    received_by : (b : Bool) (q : ℕ) → set.contains (if b then l.arrived else put l.arrived offset bytes).received q ≡ true → TellsUpTo p.theirs n q
    received_by b q is = grind (arith, nat_tests, run-cases)

    stored_now : (b : Bool) (q c : ℕ) → fmap.get (if b then l.arrived.stored else store l.arrived.received l.arrived.stored offset bytes) q ≡ Some c → TellsByte p.theirs n q c
    stored_now b q c is = grind (arith, nat_tests, get-stored)

    stored_by : (b : Bool) (q c : ℕ) → fmap.get (if b then l.arrived else put l.arrived offset bytes).stored q ≡ Some c → TellsByte p.theirs n q c
    stored_by true q c is = h.stored q c is
    stored_by false q c is = stored_now l.arrived.discarding q c is

    read_same : (cond (is_some l.reset_code) l.arrived (put l.arrived offset bytes)).read_count ≡ l.arrived.read_count
    read_same = same_either (λ (a : Assembled). a.read_count) (is_some l.reset_code) l.arrived (put l.arrived offset bytes) refl

    final_by : (b : Bool) → fin ≡ b → (size : ℕ) → (if b then Some (offset + length bytes) else l.final_size) ≡ Some size →
        TellsEnd p.theirs n size ⊎ ((code : ℕ) × (l.reset_code ≡ Some code) × TellsReset p.theirs n code size)
    final_by b e size is = grind (arith, nat_tests)

    final_stays : (b : Bool) → fin ≡ b → (size : ℕ) → l.final_size ≡ Some size → (if b then Some (offset + length bytes) else l.final_size) ≡ Some size
    final_stays b e size is = grind (arith, nat_tests)

    old_by : (b : Bool) (q : ℕ) → set.contains l.arrived.received q ≡ true → set.contains (if b then l.arrived else put l.arrived offset bytes).received q ≡ true
    old_by b q is = grind (arith, nat_tests, run-old)

    new_by : (o : Option ℕ) → o ≡ None → (q : ℕ) → offset ≤ q → q < offset + length bytes → set.contains (if is_some o then l.arrived else put l.arrived offset bytes).received q ≡ true
    new_by o e q low high = grind (arith, nat_tests, run-new, none-some)

    pub take_stream_ok : RecvOk p n window (take_stream l offset bytes fin)
    take_stream_ok =
        record {
          received = received_by (is_some l.reset_code);
          stored = stored_by (is_some l.reset_code);
          count = h.count ∙ sym read_same;
          gave = h.gave;
          final = final_by fin refl;
          reset = λ code is. (let (size, final, told) = h.reset code is in (size, final_stays fin refl size final, told));
          not_stopped = h.not_stopped;
          ended = λ is. (let (size, read, final, told) = h.ended is in (size, read_same ∙ read, final_stays fin refl size final, told));
          window_granted = h.window_granted;
          limit_told = h.limit_told;
          stop_asked = h.stop_asked;
        }

    pub take_stream_grows : Grows l (take_stream l offset bytes fin)
    take_stream_grows = record { received = old_by (is_some l.reset_code); final = final_stays fin refl; reset = λ none. none }

    pub take_stream_taken : StreamTaken (take_stream l offset bytes fin) offset bytes fin
    take_stream_taken = record { offsets = new_by l.reset_code; end = λ is. rw is refl }

  module _ (code size : ℕ) (t : TellsReset p.theirs n code size) (fits : (known : ℕ) → l.final_size ≡ Some known → size ≡ known) where
    -- the half after a reset that changes something
    abbrev pub when_reset : RecvLane
    when_reset = record l { arrived = forget l.arrived; final_size = Some size; reset_code = Some code }

    -- an offset below the largest that came
    told_below : (q : ℕ) → is_within 0 (end_of l.arrived.received) q ≡ true → TellsUpTo p.theirs n q
    told_below q is = grind (arith, nat_tests, end_of-last)

    pub take_reset_ok : (b : Bool) → RecvOk p n window (if b then l else when_reset)
    take_reset_ok true = h
    take_reset_ok false =
        record {
          received = λ q is. told_below q (sym (contains-below (end_of l.arrived.received) q) ∙ is);
          stored = λ q c is. absurd (none-some c (sym (fmap.get-empty nat_cmp q) ∙ is));
          count = h.count;
          gave = h.gave;
          final = λ s is. inr (code, refl, rw (same_Some size s is) at t);
          reset = λ c is. (size, refl, rw (same_Some code c is) at t);
          not_stopped = h.not_stopped;
          ended = λ is. (let (known, read, final, told) = h.ended is in (known, read, ap Some (fits known final), told));
          window_granted = h.window_granted;
          limit_told = h.limit_told;
          stop_asked = h.stop_asked;
        }

    pub take_reset_grows : (b : Bool) → Grows l (if b then l else when_reset)
    take_reset_grows b = grind (arith, nat_tests, below_is, below-end_of, none-some)

    pub take_reset_taken : (b : Bool) → (is_some l.reset_code || is_whole l) ≡ b → (if b then l else when_reset).final_size ≡ Some size
    take_reset_taken b e = grind (arith, nat_tests)
