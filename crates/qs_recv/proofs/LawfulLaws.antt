-- What a frame leaves stored, and how much that is at most.
use Rattle.std.specs.FinMap as map
use Rattle.std.specs.FinSet as set
use Rattle.std.proofs.lemmas.Bool.Decides.{nat_tests}
use Rattle.std.proofs.Common.{◌≡◌, ℕ, Bool, true, false, Option, is_some, ◌⊎◌, sym, ◌∙◌, ap, arith, inl, inr, ◌||◌, not, ◌&&◌, subst}
use Rattle.std.specs.Prelude.{◌+◌, ◌-◌, ◌<◌, ◌≤◌, zero, suc, cond, nat_le, nat_eq, max, List, length, slice_get, None, Some, Ok, Err, IsOk, unwrap_or, Result, ◌↔◌, IsTrue, is_none}
use Rattle.std.specs.Ordering.{nat_cmp}
use Rattle.std.specs.Cmp.{nat_cmp_total, unsigned_tied}
use Rattle.std.specs.FinMap.{nat_cmp-IsAntisymmetric, same_map}
use Rattle.std.proofs.lemmas.Bool.{both_ways, cases_eq, ne_eqb, eq-eqb, ltb-false, or_left, cases_lt, cond_both, leb-true}
use Rattle.qs_ranges.specs.Numbers.{NumberSet, end_of, is_within, numbers, contains-numbers, MAX_VARINT, ContainsRange, covers}
use Rattle.qs_recv.specs.Assembled.{Assembled, put, take_front, store, front_of, discard, keep_from, forget, same, widen}
use Rattle.qs_recv.proofs.RingLaws.{with_run, contains-with_run, get-store, get-keep_from, end_of-with_run, stored_by_keep, front_stored, is_in_run, same_at, same_true}
use Rattle.qs_recv.specs.Lane.{RecvLane, check_stream, highest, MAX_WINDOW, new_lane, highest_after, taken, take_stream, check_reset, take_reset, breaks_known, read_answer, after_answer, after_read, stop, is_over, raise, next_limit, raised_limit, limit_with, limit_under, set_window, is_whole, stop_and_discard, check_bytes}
use Rattle.qs_recv.specs.Laws.{IsSent, IsPart, CarriesSent, LaneCall, TakeStream, TakeReset, ReadUpTo, StopWith, ForgetWith, RaiseLimit, SetWindow, after_call, IsAllowed, Grows, IsUnchanged}
use Rattle.qs_recv.specs.declared.half.Highest.{Highest}
use Rattle.qs_recv.specs.declared.half.RecvFault.TheVariants.{FinalSize, StreamCredit, ChangedByte}
use Rattle.qs_ranges.proofs.Sets.{end_of-empty, end_of-numbers, numbers-none, below-end_of, covers-is, covers-of}
use Rattle.qs_recv.specs.declared.credit.Share.{Share}
use Rattle.qs_recv.specs.declared.half.Read.{Read}
use Rattle.qs_recv.specs.declared.half.Read.TheVariants.{Bytes, End, Reset, Wait}
use Rattle.qs_recv.specs.Lawful.{IsLawful}
use Rattle.qs_recv.specs.Bytes.{byte_at}
use Rattle.qs_recv.specs.declared.half.RecvFault.{RecvFault}
use Rattle.qs_recv.specs.Sound.{IsSound}

-- a map whose keys lie among n numbers has n entries at most

none_of_not_some : (o : Option ℕ) → (is_some o ≡ true → ⊥) → o ≡ None
none_of_not_some o h = grind (arith, nat_tests)

get-remove_nat : (m : map.FinMap nat_cmp ℕ) (k q : ℕ) → map.get (map.remove m k) q ≡ cond (nat_eq q k) None (map.get m q)
get-remove_nat m k q = map.get-remove nat_cmp_total m k q ∙ ap (λ b. cond b None (map.get m q)) (unsigned_tied q k)

one_more_at_most : (b : Bool) (n r : ℕ) → r ≡ cond b (n - 1) n → n ≤ r + 1
one_more_at_most b n r e = grind (arith, nat_tests)

pub len_within : (n low : ℕ) (m : map.FinMap nat_cmp ℕ) → ((q : ℕ) → map.contains_key m q ≡ true → (low ≤ q) × (q < low + n)) → map.len m ≤ n
len_within zero low m keys =
    let none : m ≡ map.empty = same_map nat_cmp_total nat_cmp-IsAntisymmetric _ _ (λ q. none_of_not_some _ (λ some. let k = keys q some in omega (arith, k.0, k.1)) ∙ sym (map.get-empty nat_cmp q)) in
    let len : map.len m ≡ 0 = ap map.len none ∙ map.len-empty nat_cmp ℕ in
    omega arith
len_within (suc n) low m keys =
    let rest = len_within n low (map.remove m (low + n)) (λ q some.
    elim (cases_eq q (low + n)) [
      | inl last ↦ absurd (both_ways _ (ap is_some (get-remove_nat m (low + n) q ∙ ap (λ b. cond b None (map.get m q)) (eq-eqb q (low + n) last))) some)
      | inr apart ↦
          let k = keys q (sym (ap is_some (get-remove_nat m (low + n) q ∙ ap (λ b. cond b None (map.get m q)) (ne_eqb q (low + n) apart))) ∙ some) in
          let below = k.1 in
          (k.0, omega (arith, below, apart))
    ]) in
    let one = one_more_at_most (map.contains_key m (low + n)) (map.len m) (map.len (map.remove m (low + n))) (map.len-remove nat_cmp_total m (low + n)) in
    omega (arith, rest, one)

-- Each stored byte is the one that was sent

either : (b : Bool) (x y : Option ℕ) (byte : ℕ) → cond b x y ≡ Some byte → (x ≡ Some byte) ⊎ (y ≡ Some byte)
either b x y byte h = grind (arith, nat_tests)

pub written_put : (written : List ℕ) (a : Assembled) (offset : ℕ) (bytes : List ℕ) → IsPart written offset bytes → IsSent written a → IsSent written (put a offset bytes)
written_put written a offset bytes part h q byte is = kept a.discarding is
  where
    kept : (b : Bool) → map.get (cond b a.stored (store a.received a.stored offset bytes)) q ≡ Some byte → slice_get written q ≡ Some byte
    kept true is' = h q byte is'
    kept false is' = grind (arith, nat_tests, get-store)

pub written_take : (written : List ℕ) (a : Assembled) (size : ℕ) → IsSent written a → IsSent written (take_front a size)
written_take written a size h q byte is =
    let after = a.read_count + length (front_of a size) in
    elim (either (nat_le after q) (map.get a.stored q) None byte (sym (get-keep_from a.stored after q) ∙ is)) [
      | inl old ↦ h q byte old
      | inr none ↦ cc
    ]

-- A frame that passed its check

-- a frame that passed the check ends within the limit
passed_if : (b c : Bool) (h : Highest) → IsOk (cond b (Err FinalSize) (cond c (Err StreamCredit) (Ok h))) → c ≡ false
passed_if b c h ok = grind (arith, nat_tests)

pub check_fits : (lane : RecvLane) (offset n : ℕ) (fin : Bool) → IsOk (check_stream lane offset n fin) → max (highest lane) (offset + n) ≤ lane.limit
check_fits lane offset n fin ok = ltb-false lane.limit (max (highest lane) (offset + n)) (passed_if _ _ _ ok)

stored_past : (r : NumberSet) (m : map.FinMap nat_cmp ℕ) (count offset : ℕ) (bytes : List ℕ)
    → ((q : ℕ) → map.contains_key m q ≡ true → (count ≤ q) × (set.contains r q ≡ true)) → ((q : ℕ) → q < count → set.contains r q ≡ true)
    → (q : ℕ) → map.contains_key (store r m offset bytes) q ≡ true → (count ≤ q) × (set.contains (with_run r offset (length bytes)) q ≡ true)
stored_past r m count offset bytes past read q some = grind (arith, nat_tests, contains-with_run, get-store)

pub put_past : (b : Bool) (a : Assembled) (offset : ℕ) (bytes : List ℕ)
    → ((q : ℕ) → map.contains_key a.stored q ≡ true → (a.read_count ≤ q) × (set.contains a.received q ≡ true)) → ((q : ℕ) → q < a.read_count → set.contains a.received q ≡ true)
    → (q : ℕ) → map.contains_key (cond b a.stored (store a.received a.stored offset bytes)) q ≡ true → (a.read_count ≤ q) × (set.contains (with_run a.received offset (length bytes)) q ≡ true)
put_past true a offset bytes past read q some = grind (arith, nat_tests, contains-with_run, or_left)
put_past false a offset bytes past read q some = stored_past a.received a.stored a.read_count offset bytes past read q some

-- ---- Every call keeps a receiving lane lawful, and takes nothing back.

-- the numbers below one
pub end_of-below : (n : ℕ) → end_of (numbers 0 n) ≡ n
end_of-below n = grind (arith, nat_tests, end_of-numbers, numbers-none, end_of-empty)

pub contains-below : (n q : ℕ) → set.contains (numbers 0 n) q ≡ is_within 0 n q
contains-below n q = contains-numbers 0 n q

pub below_is : (n q : ℕ) → q < n → set.contains (numbers 0 n) q ≡ true
below_is n q lt = contains-below n q ∙ grind (arith, nat_tests)

nothing_stored : (q : ℕ) → map.contains_key (map.empty {X = ℕ} {R = nat_cmp}) q ≡ false
nothing_stored q = ap is_some (map.get-empty nat_cmp q)

-- the first of two tests of a check that passed, and the second
passed_first : {T E : Type 0} (b : Bool) (f : E) (r : Result T E) → IsOk (cond b (Err f) r) → b ≡ false
passed_first b f r ok = grind (arith, nat_tests)

-- A new lane

pub lawful_new : (window : ℕ) (share : Share) → 1 ≤ window → window ≤ MAX_WINDOW → IsLawful (new_lane window share)
lawful_new window share some small = grind (arith, nat_tests, end_of-empty, nothing_stored)

-- Data

-- the highest offset after a frame, where its bytes are noted, and where they aren't
pub highest_noted : (f : Option ℕ) (e end n : ℕ) (fin : Bool)
    → unwrap_or (cond fin (Some end) f) (cond (nat_eq n 0) e (max e end)) ≡ cond fin end (cond (is_some f || nat_eq n 0) (unwrap_or f e) (max (unwrap_or f e) end))
highest_noted f e end n fin = grind (arith, nat_tests)

pub highest_passed : (f : Option ℕ) (e end n : ℕ) (fin : Bool) → is_some f ≡ true
    → unwrap_or (cond fin (Some end) f) e ≡ cond fin end (cond (is_some f || nat_eq n 0) (unwrap_or f e) (max (unwrap_or f e) end))
highest_passed f e end n fin known = grind (arith, nat_tests)

pub unbroken : (lane : RecvLane) (offset n : ℕ) (fin : Bool) → IsOk (check_stream lane offset n fin) → breaks_known lane.final_size (offset + n) n fin (highest lane) ≡ false
unbroken lane offset n fin ok = passed_first _ _ _ ok

pub highest-take_stream : (lane : RecvLane) (offset : ℕ) (bytes : List ℕ) (fin : Bool) → IsLawful lane → highest (take_stream lane offset bytes fin) ≡ highest_after lane offset (length bytes) fin
highest-take_stream lane offset bytes fin h = grind (arith, nat_tests, end_of-with_run)

-- what counts as taken follows the highest offset or the read count
pub taken_grows : (b : Bool) (h h' r : ℕ) → h ≤ h' → cond b h r ≤ cond b h' r
taken_grows b h h' r le = grind (arith, nat_tests)

pub lawful_take_stream : (lane : RecvLane) (offset : ℕ) (bytes : List ℕ) (fin : Bool) → IsLawful lane → IsOk (check_stream lane offset (length bytes) fin) → IsLawful (take_stream lane offset bytes fin)
lawful_take_stream lane offset bytes fin h ok = by_reset (is_some lane.reset_code) (highest-take_stream lane offset bytes fin h)
  where
    by_reset : (b : Bool)
        → unwrap_or (cond fin (Some (offset + length bytes)) lane.final_size) (end_of (cond b lane.arrived (put lane.arrived offset bytes)).received) ≡ highest_after lane offset (length bytes) fin
        → IsLawful (record lane { arrived = cond b lane.arrived (put lane.arrived offset bytes); final_size = cond fin (Some (offset + length bytes)) lane.final_size })
    by_reset true grown = grind (arith, nat_tests)
    by_reset false grown = grind (arith, nat_tests, end_of-with_run, put_past, contains-with_run, or_left)

-- A reset

pub reset_known : (lane : RecvLane) (size : ℕ) → IsOk (check_reset lane size) → is_some lane.final_size ≡ true → highest lane ≡ size
reset_known lane size ok known = grind (arith, nat_tests)

-- what was read came, so it ends no later than what came
pub read_within : (lane : RecvLane) → IsLawful lane → lane.arrived.read_count ≤ end_of lane.arrived.received
read_within lane h = grind (arith, nat_tests, below-end_of)

pub taken_within : (lane : RecvLane) → IsLawful lane → taken lane ≤ highest lane
taken_within lane h = grind (arith, nat_tests, read_within)

pub lawful_take_reset : (lane : RecvLane) (code size : ℕ) → IsLawful lane → IsOk (check_reset lane size) → IsLawful (take_reset lane code size)
lawful_take_reset lane code size h ok = grind (arith, nat_tests, nothing_stored, below_is, read_within, end_of-below)

-- Reading

kept_past : (b : Bool) (o : Option ℕ) → is_some (cond b o None) ≡ true → b ≡ true
kept_past b o is = grind (arith, nat_tests)

pub stored_by_keep_past : (m : map.FinMap nat_cmp ℕ) (at q : ℕ) → map.contains_key (keep_from m at) q ≡ true → at ≤ q
stored_by_keep_past m at q is = leb-true at q (kept_past (nat_le at q) (map.get m q) (sym (ap is_some (get-keep_from m at q)) ∙ is))

cond_none : (b : Bool) (o : Option ℕ) → o ≡ None → cond b o None ≡ None
cond_none b o none = grind (arith, nat_tests)

keep_nothing : (m : map.FinMap nat_cmp ℕ) (at : ℕ) → m ≡ map.empty → keep_from m at ≡ map.empty
keep_nothing m at none =
    same_map nat_cmp_total nat_cmp-IsAntisymmetric _ _ (λ q.
    get-keep_from m at q ∙ cond_none (nat_le at q) (map.get m q) (ap (λ m'. map.get m' q) none ∙ map.get-empty nat_cmp q) ∙ sym (map.get-empty nat_cmp q))

-- each offset that is read was received
front_received : (lane : RecvLane) (room q : ℕ) → IsLawful lane → q < lane.arrived.read_count + length (front_of lane.arrived room) → set.contains lane.arrived.received q ≡ true
front_received lane room q h below =
    elim (cases_lt q lane.arrived.read_count) [
      | inl old ↦ h.read_received q (omega arith) old
      | inr new ↦
          let e : lane.arrived.read_count + (q - lane.arrived.read_count) ≡ q = omega arith in
          let stored = front_stored lane.arrived.stored lane.arrived.read_count room (q - lane.arrived.read_count) (omega arith) in
          (h.stored_received q (ap (map.contains_key lane.arrived.stored) (sym e) ∙ stored)).1
    ]

pub lawful_front : (lane : RecvLane) (room : ℕ) → IsLawful lane → IsLawful (record lane { arrived = take_front lane.arrived room })
lawful_front lane room h = grind (arith, nat_tests, stored_by_keep_past, stored_by_keep, front_received, keep_nothing)

pub lawful_told : (lane : RecvLane) → IsLawful lane → IsLawful (record lane { reader_done = true })
lawful_told lane h = grind (arith, nat_tests)

pub lawful_after_read : (lane : RecvLane) (room : ℕ) → IsLawful lane → IsLawful (after_read lane room)
lawful_after_read lane room h = by_answer (read_answer lane room)
  where
    by_answer : (answer : Read) → IsLawful (after_answer answer lane room)
    by_answer (Bytes n) = lawful_front lane room h
    by_answer (End) = lawful_told lane h
    by_answer (Reset code) = lawful_told lane h
    by_answer (Wait) = h

-- A stop

pub all_taken : (b : Bool) (h r : ℕ) → cond (b || true) h r ≡ h
all_taken b h r = grind (arith, nat_tests)

pub lawful_stopped : (lane : RecvLane) (code : ℕ) → IsLawful lane → IsLawful (record lane { arrived = discard lane.arrived; stop_code = Some code })
lawful_stopped lane code h = grind (arith, nat_tests, taken_within, nothing_stored)

pub lawful_stop : (lane : RecvLane) (code : ℕ) → IsLawful lane → IsLawful (stop lane code)
lawful_stop lane code h = cond_both (is_some lane.stop_code || is_over lane) lane _ IsLawful (λ _. h) (λ _. lawful_stopped lane code h)

-- A raise

next_limit_grows : (l t w : ℕ) (share : Share) → l ≤ next_limit l t w share
next_limit_grows l t w share = grind (arith, nat_tests)

pub raised_grows : (lane : RecvLane) → lane.limit ≤ raised_limit lane
raised_grows lane = cond_both (is_some lane.final_size) _ _ (λ k. lane.limit ≤ k) (λ _. omega arith) (λ _. next_limit_grows lane.limit (taken lane) lane.window lane.share)

pub lawful_raise : (lane : RecvLane) → IsLawful lane → IsLawful (raise lane)
lawful_raise lane h = grind (arith, nat_tests)

-- Another window

pub limit_with_grows : (p g t w : ℕ) → g ≤ limit_with p g t w
limit_with_grows p g t w = grind (arith, nat_tests)

pub under_grows : (lane : RecvLane) (window : ℕ) → lane.limit ≤ limit_under lane window
under_grows lane window = cond_both (is_some lane.final_size) _ _ (λ k. lane.limit ≤ k) (λ _. omega arith) (λ _. limit_with_grows lane.window lane.limit (taken lane) window)

pub lawful_set_window : (lane : RecvLane) (window : ℕ) → 1 ≤ window → window ≤ MAX_WINDOW → IsLawful lane → IsLawful (set_window lane window)
lawful_set_window lane window some small h = grind (arith, nat_tests)

-- What is stored

pub stored_within : (lane : RecvLane) → IsLawful lane → map.len lane.arrived.stored ≤ lane.limit - taken lane
stored_within lane h = by_use (is_some lane.reset_code || is_some lane.stop_code) h.discards
  where
    by_use : (b : Bool) → lane.arrived.discarding ≡ b → map.len lane.arrived.stored ≤ lane.limit - cond b (highest lane) lane.arrived.read_count
    by_use true is =
        let none : map.len lane.arrived.stored ≡ 0 = ap map.len (h.thrown_away is) ∙ map.len-empty nat_cmp ℕ in
        omega arith
    by_use false is =
        len_within (lane.limit - lane.arrived.read_count) lane.arrived.read_count lane.arrived.stored (λ q some.
        let p = h.stored_received q some in
        let below = below-end_of lane.arrived.received q p.1 in
        (p.0, omega (arith, below, h.received_within, h.granted, p.0)))

pub taken_granted : (lane : RecvLane) → IsLawful lane → taken lane ≤ lane.limit
taken_granted lane h = omega (arith, taken_within lane h, h.granted)

-- what is stored and what was taken lie below the highest offset
pub stored_taken : (lane : RecvLane) → IsLawful lane → map.len lane.arrived.stored + taken lane ≤ highest lane
stored_taken lane h = by_use (is_some lane.reset_code || is_some lane.stop_code) h.discards
  where
    by_use : (b : Bool) → lane.arrived.discarding ≡ b → map.len lane.arrived.stored + cond b (highest lane) lane.arrived.read_count ≤ highest lane
    by_use true is =
        let none : map.len lane.arrived.stored ≡ 0 = ap map.len (h.thrown_away is) ∙ map.len-empty nat_cmp ℕ in
        omega arith
    by_use false is =
        let within = len_within (end_of lane.arrived.received - lane.arrived.read_count) lane.arrived.read_count lane.arrived.stored (λ q some.
        let p = h.stored_received q some in
        let below = below-end_of lane.arrived.received q p.1 in
        (p.0, omega (arith, below, p.0))) in
        omega (arith, within, read_within lane h, h.received_within)

-- ---- No call on a receiving lane takes anything back, and what is stored is what was sent.

pub lawful_after_call : (lane : RecvLane) (call : LaneCall) → IsLawful lane → IsAllowed lane call → IsLawful (after_call lane call)
lawful_after_call lane (TakeStream offset bytes fin) h ok = lawful_take_stream lane offset bytes fin h ok
lawful_after_call lane (TakeReset code size) h ok = lawful_take_reset lane code size h ok
lawful_after_call lane (ReadUpTo room) h ok = lawful_after_read lane room h
lawful_after_call lane (StopWith code) h ok = lawful_stop lane code h
lawful_after_call lane (ForgetWith code) h ok = lawful_told (stop lane code) (lawful_stop lane code h)
lawful_after_call lane (RaiseLimit) h ok = lawful_raise lane h
lawful_after_call lane (SetWindow window) h ok = lawful_set_window lane window ok.0 ok.1 h

-- a known final size is named again
pub same_size : (f : Option ℕ) (end n size : ℕ) (fin : Bool) (before : ℕ) → breaks_known f end n fin before ≡ false → f ≡ Some size → cond fin (Some end) f ≡ Some size
same_size f end n size fin before h is = grind (arith, nat_tests)

grows_take_stream : (lane : RecvLane) (offset : ℕ) (bytes : List ℕ) (fin : Bool) → IsLawful lane → IsOk (check_stream lane offset (length bytes) fin) → Grows lane (take_stream lane offset bytes fin)
grows_take_stream lane offset bytes fin h ok =
    let more : highest lane ≤ highest (take_stream lane offset bytes fin) = grind (arith, nat_tests, highest-take_stream) in
    record {
      highest_grows = more;
      taken_grows = grind (arith, nat_tests);
      limit_grows = omega arith;
      received_stays = grind (arith, nat_tests, contains-with_run);
      final_size_stays = λ size is. same_size lane.final_size (offset + length bytes) (length bytes) size fin (highest lane) (unbroken lane offset (length bytes) fin ok) is;
    }

grows_take_reset : (lane : RecvLane) (code size : ℕ) → IsLawful lane → IsOk (check_reset lane size) → Grows lane (take_reset lane code size)
grows_take_reset lane code size h ok = grind (arith, nat_tests, below_is, below-end_of)

grows_after_read : (lane : RecvLane) (room : ℕ) → Grows lane (after_read lane room)
grows_after_read lane room = grind (arith, nat_tests)

grows_stop : (lane : RecvLane) (code : ℕ) → IsLawful lane → Grows lane (stop lane code)
grows_stop lane code h = grind (arith, nat_tests, taken_within)

grows_forgotten : (lane : RecvLane) (code : ℕ) → IsLawful lane → Grows lane (stop_and_discard lane code)
grows_forgotten lane code h = grind (arith, nat_tests, grows_stop)

grows_raise : (lane : RecvLane) → Grows lane (raise lane)
grows_raise lane = grind (arith, nat_tests)

grows_set_window : (lane : RecvLane) (window : ℕ) → Grows lane (set_window lane window)
grows_set_window lane window = grind (arith, nat_tests)

pub grows_after_call : (lane : RecvLane) (call : LaneCall) → IsLawful lane → IsAllowed lane call → Grows lane (after_call lane call)
grows_after_call lane (TakeStream offset bytes fin) h ok = grows_take_stream lane offset bytes fin h ok
grows_after_call lane (TakeReset code size) h ok = grows_take_reset lane code size h ok
grows_after_call lane (ReadUpTo room) h ok = grows_after_read lane room
grows_after_call lane (StopWith code) h ok = grows_stop lane code h
grows_after_call lane (ForgetWith code) h ok = grows_forgotten lane code h
grows_after_call lane (RaiseLimit) h ok = grows_raise lane
grows_after_call lane (SetWindow window) h ok = grows_set_window lane window

-- What is stored

sent_either : (b : Bool) (sent : List ℕ) (x y : Assembled) → IsSent sent x → IsSent sent y → IsSent sent (cond b x y)
sent_either true sent x y hx hy = hx
sent_either false sent x y hx hy = hy

sent_forget : (sent : List ℕ) (a : Assembled) → IsSent sent (forget a)
sent_forget sent a q byte is = let e : None ≡ Some byte = sym (map.get-empty nat_cmp q) ∙ is in cc

sent_discard : (sent : List ℕ) (a : Assembled) → IsSent sent (discard a)
sent_discard sent a q byte is = let e : None ≡ Some byte = sym (map.get-empty nat_cmp q) ∙ is in cc

pub sent_after_call : (sent : List ℕ) (lane : RecvLane) (call : LaneCall) → IsSent sent lane.arrived → CarriesSent sent call → IsSent sent (after_call lane call).arrived
sent_after_call sent lane (TakeStream offset bytes fin) h part = sent_either (is_some lane.reset_code) sent lane.arrived (put lane.arrived offset bytes) h (written_put sent lane.arrived offset bytes part h)
sent_after_call sent lane (TakeReset code size) h part =
    cond_both (is_some lane.reset_code || is_whole lane) lane _ (λ l. IsSent sent l.arrived) (λ _. h) (λ _. sent_forget sent lane.arrived)
sent_after_call sent lane (ReadUpTo room) h part = by_answer (read_answer lane room)
  where
    by_answer : (answer : Read) → IsSent sent (after_answer answer lane room).arrived
    by_answer (Bytes n) = written_take sent lane.arrived room h
    by_answer (End) = h
    by_answer (Reset code) = h
    by_answer (Wait) = h
sent_after_call sent lane (StopWith code) h part = cond_both (is_some lane.stop_code || is_over lane) lane _ (λ l. IsSent sent l.arrived) (λ _. h) (λ _. sent_discard sent lane.arrived)
sent_after_call sent lane (ForgetWith code) h part = cond_both (is_some lane.stop_code || is_over lane) lane _ (λ l. IsSent sent l.arrived) (λ _. h) (λ _. sent_discard sent lane.arrived)
sent_after_call sent lane (RaiseLimit) h part = h
sent_after_call sent lane (SetWindow window) h part = h

-- ---- Which frames pass the check of their bytes.
--     check_is      what the check says, byte by byte
--     sent_passes, taken_passes      frames that pass it
--     stored_before      what is stored after a call was stored before it, as far as its offset had come

abbrev answer : Bool → Result (Unit {0}) RecvFault
answer b = cond b (Ok tt) (Err ChangedByte)

passed_by : (b : Bool) → IsOk (answer b) → b ≡ true
passed_by b ok = grind (arith, nat_tests)

passes_by : (b : Bool) → b ≡ true → IsOk (answer b)
passes_by b is = grind (arith, nat_tests)

some_is : (x y : ℕ) → Some x ≡ Some y → x ≡ y
some_is x y e = ap (λ o. unwrap_or o 0) e

pub check_is : (lane : RecvLane) (offset : ℕ) (bytes : List ℕ) → IsOk (check_bytes lane offset bytes) ↔ IsUnchanged lane.arrived offset bytes
check_is lane offset bytes = (
  λ ok q byte other stored comes. same_at lane.arrived.stored offset bytes q byte other (passed_by (same lane.arrived.stored offset bytes) ok) stored comes,
  λ is. passes_by (same lane.arrived.stored offset bytes) (same_true lane.arrived.stored offset bytes is),
)

pub sent_passes : (sent : List ℕ) (lane : RecvLane) (offset : ℕ) (bytes : List ℕ) → IsSent sent lane.arrived → IsPart sent offset bytes → IsOk (check_bytes lane offset bytes)
sent_passes sent lane offset bytes stored carried =
    (check_is lane offset bytes).1 (λ q byte other is comes. some_is byte other (sym (stored q byte is) ∙ carried q other comes))

-- a byte that is stored then, by the test whether the frame's is
either_byte : (b : Bool) (new old : Option ℕ) (byte other : ℕ) → cond b new old ≡ Some byte → new ≡ Some other → (old ≡ Some byte → byte ≡ other) → byte ≡ other
either_byte b new old byte other is comes was = grind (arith, nat_tests)

pub taken_passes : (lane : RecvLane) (offset : ℕ) (bytes : List ℕ) (fin : Bool) → IsOk (check_bytes lane offset bytes) → IsOk (check_bytes (take_stream lane offset bytes fin) offset bytes)
taken_passes lane offset bytes fin ok =
    (check_is (take_stream lane offset bytes fin) offset bytes).1
    (cond_both (is_some lane.reset_code) lane.arrived (put lane.arrived offset bytes) (λ a. IsUnchanged a offset bytes) (λ _. was) (λ _. placed lane.arrived.discarding))
  where
    was : IsUnchanged lane.arrived offset bytes
    was = (check_is lane offset bytes).0 ok

    placed : (b : Bool) (q byte other : ℕ) → map.get (cond b lane.arrived.stored (store lane.arrived.received lane.arrived.stored offset bytes)) q ≡ Some byte → byte_at offset bytes q ≡ Some other → byte ≡ other
    placed true q byte other is comes = was q byte other is comes
    placed false q byte other is comes =
        either_byte (is_in_run q offset (length bytes) && not (set.contains lane.arrived.received q)) (byte_at offset bytes q) (map.get lane.arrived.stored q) byte other
        (sym (get-store lane.arrived.received lane.arrived.stored offset bytes q) ∙ is) comes (λ old. was q byte other old comes)

-- Calls one after another

-- what is stored in b was stored in a, as far as its offset came there
StoredIn : Assembled → Assembled → Type 0
StoredIn a b = (q byte : ℕ) → set.contains a.received q ≡ true → map.get b.stored q ≡ Some byte → map.get a.stored q ≡ Some byte

stored_put : (a : Assembled) (offset : ℕ) (bytes : List ℕ) → StoredIn a (put a offset bytes)
unfolding StoredIn
stored_put a offset bytes q byte came is = by_case a.discarding is
  where
    by_case : (b : Bool) → map.get (cond b a.stored (store a.received a.stored offset bytes)) q ≡ Some byte → map.get a.stored q ≡ Some byte
    by_case true is' = is'
    by_case false is' = grind (arith, nat_tests, get-store)

stored_take : (a : Assembled) (size : ℕ) → StoredIn a (take_front a size)
unfolding StoredIn
stored_take a size q byte came is = grind (arith, nat_tests, get-keep_from)

stored_wider : (a : Assembled) (window : ℕ) → StoredIn a (widen a window)
unfolding StoredIn
stored_wider a window q byte came is = is

stored_discard : (a : Assembled) → StoredIn a (discard a)
unfolding StoredIn
stored_discard a q byte came is = absurd (both_ways _ (ap is_some (map.get-empty nat_cmp q)) (ap is_some is))

stored_forget : (a : Assembled) → StoredIn a (forget a)
unfolding StoredIn
stored_forget a q byte came is = absurd (both_ways _ (ap is_some (map.get-empty nat_cmp q)) (ap is_some is))

stored_same : (a : Assembled) → StoredIn a a
unfolding StoredIn
stored_same a q byte came is = is

stored_step : (lane : RecvLane) (call : LaneCall) → StoredIn lane.arrived (after_call lane call).arrived
stored_step lane call = grind (arith, nat_tests, stored_same, stored_put, stored_forget, stored_take, stored_discard, stored_wider)

pub stored_before : (lane : RecvLane) (call : LaneCall) (q byte : ℕ) → set.contains lane.arrived.received q ≡ true
    → map.get (after_call lane call).arrived.stored q ≡ Some byte → map.get lane.arrived.stored q ≡ Some byte
unfolding StoredIn
stored_before lane call q byte came is = stored_step lane call q byte came is

-- ---- What holds of the fields of a receiving half still holds after each call.

-- the counts are small enough to be added
pub small_highest : (lane : RecvLane) (w n e : ℕ) → IsSound lane w n e → unwrap_or lane.final_size e ≤ MAX_VARINT
small_highest lane w n e h = let g = h.lawful.granted in let l = h.lawful.small_limit in rw (← h.end_is) (omega arith)

pub small_count : (lane : RecvLane) (w n e : ℕ) → IsSound lane w n e → n ≤ unwrap_or lane.final_size e
small_count lane w n e h = grind (arith, nat_tests, read_within)

pub small_front : (lane : RecvLane) (w n e room : ℕ) → IsSound lane w n e → n + length (front_of lane.arrived room) ≤ MAX_VARINT
small_front lane w n e room h =
    let r = read_within _ (lawful_front lane room h.lawful) in
    rw (← h.count_is) (omega arith)

-- a frame whose bytes are noted
pub sound_noted : (lane : RecvLane) (w n e offset : ℕ) (bytes : List ℕ) (fin : Bool) → is_some lane.reset_code ≡ false → IsOk (check_stream lane offset (length bytes) fin) → IsSound lane w n e
    → IsSound (record lane { arrived = put lane.arrived offset bytes; final_size = cond fin (Some (offset + length bytes)) lane.final_size }) w n (cond (nat_eq (length bytes) 0) e (max e (offset + length bytes)))
sound_noted lane w n e offset bytes fin no_reset ok h =
    record {
      lawful = subst (λ b. IsLawful (record lane { arrived = cond b lane.arrived (put lane.arrived offset bytes); final_size = cond fin (Some (offset + length bytes)) lane.final_size })) no_reset (lawful_take_stream lane offset bytes fin h.lawful ok);
      window_is = h.window_is;
      count_is = h.count_is;
      end_is = end_of-with_run lane.arrived.received offset (length bytes) ∙ ap (λ k. cond (nat_eq (length bytes) 0) k (max k (offset + length bytes))) h.end_is;
      stop_fits = h.stop_fits;
    }

-- a frame after a reset
pub sound_passed : (lane : RecvLane) (w n e offset : ℕ) (bytes : List ℕ) (fin : Bool) → is_some lane.reset_code ≡ true → IsOk (check_stream lane offset (length bytes) fin) → IsSound lane w n e
    → IsSound (record lane { final_size = cond fin (Some (offset + length bytes)) lane.final_size }) w n e
sound_passed lane w n e offset bytes fin reset ok h = grind (arith, nat_tests)

pub sound_reset : (lane : RecvLane) (w n e code size : ℕ) → is_some lane.reset_code ≡ false → is_whole lane ≡ false → IsOk (check_reset lane size) → IsSound lane w n e
    → IsSound (record lane { arrived = forget lane.arrived; final_size = Some size; reset_code = Some code }) w n e
sound_reset lane w n e code size no_reset not_whole ok h =
    record {
      lawful =
          let after = record lane { arrived = forget lane.arrived; final_size = Some size; reset_code = Some code } in
          subst (λ c. IsLawful (cond c lane after)) not_whole
          (subst (λ b. IsLawful (cond (b || is_whole lane) lane after)) no_reset (lawful_take_reset lane code size h.lawful ok));
      window_is = h.window_is;
      count_is = h.count_is;
      end_is = end_of-below (end_of lane.arrived.received) ∙ h.end_is;
      stop_fits = h.stop_fits;
    }

pub sound_front : (lane : RecvLane) (w n e room : ℕ) → IsSound lane w n e → IsSound (record lane { arrived = take_front lane.arrived room }) w (n + length (front_of lane.arrived room)) e
sound_front lane w n e room h =
    record {
      lawful = lawful_front lane room h.lawful;
      window_is = h.window_is;
      count_is = ap (λ k. k + length (front_of lane.arrived room)) h.count_is;
      end_is = h.end_is;
      stop_fits = h.stop_fits;
    }

pub sound_told : (lane : RecvLane) (w n e : ℕ) → IsSound lane w n e → IsSound (record lane { reader_done = true }) w n e
sound_told lane w n e h = grind (arith, nat_tests)

pub sound_stop : (lane : RecvLane) (w n e code : ℕ) → code ≤ MAX_VARINT → IsSound lane w n e → IsSound (record lane { arrived = discard lane.arrived; stop_code = Some code }) w n e
sound_stop lane w n e code fits h =
    record {
      lawful = lawful_stopped lane code h.lawful;
      window_is = h.window_is;
      count_is = h.count_is;
      end_is = h.end_is;
      stop_fits = fits;
    }

-- the highest offset after a frame without the final size
pub grown_noted : (f : Option ℕ) (r : NumberSet) (offset : ℕ) (bytes : List ℕ)
    → unwrap_or f (end_of (with_run r offset (length bytes))) ≡ cond (is_some f || nat_eq (length bytes) 0) (unwrap_or f (end_of r)) (max (unwrap_or f (end_of r)) (offset + length bytes))
grown_noted f r offset bytes = ap (unwrap_or f) (end_of-with_run r offset (length bytes)) ∙ highest_noted f (end_of r) (offset + length bytes) (length bytes) false

-- two tests that are true of the same
pub same_tests : (b c : Bool) → (b ≡ true → c ≡ true) → (c ≡ true → b ≡ true) → b ≡ c
same_tests b c f g = grind (arith, nat_tests)

-- a test that says whether a range is covered is the computed one
pub covered_is : (b : Bool) (s : NumberSet) (lo hi : ℕ) → IsTrue b ↔ ContainsRange s lo hi → b ≡ covers s lo hi
covered_is b s lo hi h = same_tests b (covers s lo hi) (λ t. covers-of s lo hi (h.0 t)) (λ t. h.1 (covers-is s lo hi t))

-- ---- Which frames change a receiving lane.

-- a frame that tells no final size changes a lane that wasn't reset where one of its offsets didn't come
pub changed_by : (size reset : Option ℕ) (received : NumberSet) (from to : ℕ) (fin came : Bool) → (fin ≡ false) ⊎ (is_some size ≡ true) → is_some reset ≡ false → came ≡ covers received from to
    → not came ≡ ((fin && is_none size) || (is_none reset && not (covers received from to)))
changed_by size reset received from to fin came sized open_still is = grind (arith, nat_tests)
