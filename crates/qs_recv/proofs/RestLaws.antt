-- What a receiving half lets go stays so.
--     let_go_noted, let_go_read, ..      each call keeps it
use Rattle.std.specs.FinMap as map
use Rattle.std.specs.FinSet as set
use Rattle.std.proofs.Common.{◌≡◌, ℕ, ◌+◌, ◌≤◌, ◌⊎◌, Bool, true, false, cond, List, length, Some, is_some, ap, arith, ◌||◌, sym, ◌∙◌, subst, inr, ◌&&◌, []}
use Rattle.std.specs.Prelude.{◌<◌, Option, unwrap_or, IsOk, ◌-◌, Result, OnErr, nat_le, None, refl}
use Rattle.std.proofs.lemmas.Bool.{both_ways, false_from_ne_true, or_right}
use Rattle.std.proofs.lemmas.Bool.Decides.{nat_tests}
use Rattle.qs_ranges.specs.Numbers.{covers, end_of, NumberSet, MissesRange, MAX_VARINT, ContainsRange, numbers, same_numbers, contains-with_range, is_within}
use Rattle.qs_ranges.proofs.Sets.{below-end_of, covers-of, covers-is, numbers-none}
use Rattle.qs_recv.specs.Assembled.{put, take_front, at_rest, discard, forget, Assembled}
use Rattle.qs_recv.specs.Lane.{RecvLane, check_stream, breaks_known, highest, at_final_size, MAX_WINDOW, new_lane, highest_after, is_whole, take_stream, check_reset, take_reset, read_answer, whole_to, is_over, bytes_read, bytes_of, after_read, after_answer, raise, next_limit, stop, stop_and_discard, taken}
use Rattle.qs_recv.specs.Lawful.{IsLawful}
use Rattle.qs_recv.specs.Sound.{IsLetGo, IsSound, CodeFits}
use Rattle.qs_recv.proofs.LawfulLaws.{same_size, len_within, unbroken, end_of-below, contains-below, highest-take_stream, lawful_new, lawful_take_stream, read_within, same_tests, sound_reset, sound_stop}
use Rattle.qs_recv.specs.declared.credit.Share.{Share}
use Rattle.qs_recv.specs.declared.window.Windows.{Windows}
use Rattle.qs_recv.specs.declared.half.Read.TheVariants.{End, Wait}
use Rattle.qs_recv.specs.Rest.{given, lane_at_rest, IsAtRest, EndsAt}
use Rattle.qs_recv.proofs.RingLaws.{put_known}
use Rattle.std.specs.Result.{IsOk as IsOkOfResult}
use Rattle.qs_recv.specs.Over.{IsOver}
use Rattle.qs_recv.specs.Room.{needs_no_room}

-- where bytes are thrown away
pub let_go_gone : (lane : RecvLane) (size : ℕ) → lane.arrived.discarding ≡ true → size ≡ 0 → IsLetGo lane size
let_go_gone lane size off none = record { gone = λ _. none; over = λ _. none; ended = λ _ on. absurd (both_ways _ on off) }

-- a frame lies within a known final size
within_size : (f : Option ℕ) (end n size : ℕ) (fin : Bool) (before : ℕ) → breaks_known f end n fin before ≡ false → f ≡ Some size → 0 < n → end ≤ size
within_size f end n size fin before h is some = grind (arith, nat_tests)

-- what a put does to the memory that is taken: none is, once the end was told
put_still : (lane : RecvLane) (offset old new n : ℕ) (fin : Bool) → IsOk (check_stream lane offset n fin) → IsLawful lane → IsLetGo lane old
    → (new ≡ old) ⊎ ((lane.arrived.discarding ≡ false) × (covers lane.arrived.received offset (offset + n) ≡ false)) → lane.reader_done ≡ true → new ≡ 0
put_still lane offset old new n fin ok lawful h h2 reader_done = grind (arith, nat_tests, covers-of, within_size)

put_gone : (lane : RecvLane) (old new : ℕ) (P : Type 0) → IsLetGo lane old → (new ≡ old) ⊎ ((lane.arrived.discarding ≡ false) × P) → lane.arrived.discarding ≡ true → new ≡ 0
put_gone lane old new P h h2 off = grind (arith, nat_tests)

pub let_go_noted : (lane : RecvLane) (offset old new : ℕ) (bytes : List ℕ) (fin : Bool) → IsOk (check_stream lane offset (length bytes) fin) → IsLawful lane → IsLetGo lane old
    → (new ≡ old) ⊎ ((lane.arrived.discarding ≡ false) × (covers lane.arrived.received offset (offset + length bytes) ≡ false))
    → IsLetGo (record lane { arrived = put lane.arrived offset bytes; final_size = cond fin (Some (offset + length bytes)) lane.final_size }) new
let_go_noted lane offset old new bytes fin ok lawful h still =
    record {
      gone = put_gone lane old new _ h still;
      over = put_still lane offset old new (length bytes) fin ok lawful h still;
      ended = λ reader_done on. same_size lane.final_size (offset + length bytes) (length bytes) lane.arrived.read_count fin (highest lane) (unbroken lane offset (length bytes) fin ok) (h.ended reader_done on);
    }

-- a frame for which memory was refused
pub let_go_refused : (lane : RecvLane) (offset old new n : ℕ) (fin : Bool) → IsOk (check_stream lane offset n fin) → IsLawful lane → IsLetGo lane old
    → (new ≡ old) ⊎ ((lane.arrived.discarding ≡ false) × (covers lane.arrived.received offset (offset + n) ≡ false)) → IsLetGo lane new
let_go_refused lane offset old new n fin ok lawful h still =
    record {
      gone = put_gone lane old new _ h still;
      over = put_still lane offset old new n fin ok lawful h still;
      ended = h.ended;
    }

-- a frame after a reset
pub let_go_passed : (lane : RecvLane) (size end : ℕ) (fin : Bool) → is_some lane.reset_code ≡ true → IsLawful lane → IsLetGo lane size → IsLetGo (record lane { final_size = cond fin (Some end) lane.final_size }) size
let_go_passed lane size end fin reset lawful h = grind (arith, nat_tests)

-- nothing is stored once all of the stream was read
pub none_left : (lane : RecvLane) → IsLawful lane → lane.final_size ≡ Some lane.arrived.read_count → map.len lane.arrived.stored ≡ 0
none_left lane lawful all =
    let most = len_within 0 lane.arrived.read_count lane.arrived.stored (λ q some.
    let there = lawful.stored_received q some in
    let below = below-end_of lane.arrived.received q there.1 in
    let within = lawful.received_within in
    let size : highest lane ≡ lane.arrived.read_count = ap (λ f. unwrap_or f (end_of lane.arrived.received)) all in
    (there.0, absurd (omega (arith, there.0, below, within, size)))) in
    omega (arith, most)

pub let_go_ended : (lane : RecvLane) (size new : ℕ) → lane.final_size ≡ Some lane.arrived.read_count → IsLawful lane → IsLetGo lane size → (map.len lane.arrived.stored ≡ 0 → new ≡ 0) → IsLetGo (record lane { reader_done = true }) new
let_go_ended lane size new all lawful h given = grind (arith, nat_tests, none_left)

-- bytes are read while the end wasn't told
pub let_go_read : (lane : RecvLane) (size new room : ℕ) → lane.arrived.discarding ≡ false → (lane.final_size ≡ Some lane.arrived.read_count → ⊥) → IsLetGo lane size → IsLetGo (record lane { arrived = take_front lane.arrived room }) new
let_go_read lane size new room on more h = grind (arith, nat_tests)

-- whether what was read is all of the stream, as it is tested
pub all_read : (f : Option ℕ) (n : ℕ) → at_final_size n f ≡ true → f ≡ Some n
all_read f n is = grind (arith, nat_tests)

pub read_all : (f : Option ℕ) (n : ℕ) → f ≡ Some n → at_final_size n f ≡ true
read_all f n is = grind (arith, nat_tests)

-- ---- Where offsets are new, and what holds where memory is refused.

-- some offsets of which none came
apart_news : (r : NumberSet) (lo hi : ℕ) → lo < hi → MissesRange r (lo - 1) (hi + 1) → covers r lo hi ≡ false
apart_news r lo hi some apart = false_from_ne_true (covers r lo hi) (λ is. both_ways _ (apart lo (omega arith) (omega arith)) (covers-is r lo hi is lo (omega arith) some))

pub refused_news : {T E : Type 0} (res : Result T E) (r : NumberSet) (lo hi : ℕ) → OnErr res (lo < hi) → OnErr res (MissesRange r (lo - 1) (hi + 1)) → OnErr res (covers r lo hi ≡ false)
refused_news res r lo hi some apart = grind (arith, nat_tests, apart_news)

pub on_err : {T E P : Type 0} (res : Result T E) → P → OnErr res P
on_err res p = grind (arith, nat_tests)

-- ---- A receiving half at rest stays so, and is what it says.
--     sound_at_rest, let_go_at_rest      what holds of a half that was made of it
--     at_rest_new, at_rest_reset, ..      each call keeps it

-- The numbers below one

pub news_below : (e offset end : ℕ) → offset < end → e < end → covers (numbers 0 e) offset end ≡ false
news_below e offset end some new =
    false_from_ne_true (covers (numbers 0 e) offset end) (λ all.
    let last : is_within 0 e (end - 1) ≡ true = sym (contains-below e (end - 1)) ∙ covers-is (numbers 0 e) offset end all (end - 1) (omega arith) (omega arith) in
    grind (arith, nat_tests))

pub known_below : (e offset end : ℕ) → (end ≤ offset) ⊎ (end ≤ e) → ContainsRange (numbers 0 e) offset end
known_below e offset end known q low high = grind (arith, nat_tests, contains-below)

-- What holds of a half that is made of one at rest

pub sound_at_rest : (w : Windows) (n e limit : ℕ) (f r s : Option ℕ) (reader_done : Bool) → IsAtRest (lane_at_rest w n e limit f r s reader_done) n e → IsSound (lane_at_rest w n e limit f r s reader_done) w.widest n e
sound_at_rest w n e limit f r s reader_done h = record { lawful = h.lawful; window_is = refl; count_is = refl; end_is = end_of-below e; stop_fits = h.stop_fits }

pub let_go_at_rest : (lane : RecvLane) (n e size : ℕ) → lane.arrived.read_count ≡ n → size ≡ 0 → IsAtRest lane n e → IsLetGo lane size
let_go_at_rest lane n e size count none h = record { gone = λ _. none; over = λ _. none; ended = λ reader_done on. h.ended reader_done on ∙ ap Some (sym count) }

-- The counts are small, and a size below what came is all of it

pub read_below : (lane : RecvLane) (n e : ℕ) → IsAtRest lane n e → lane.arrived.read_count ≤ highest lane
read_below lane n e h = let read = read_within lane h.lawful in omega (arith, read, h.lawful.received_within)

pub read_at_rest : (w : Windows) (n e limit : ℕ) (f r s : Option ℕ) (reader_done : Bool) → IsAtRest (lane_at_rest w n e limit f r s reader_done) n e → n ≤ MAX_VARINT
read_at_rest w n e limit f r s reader_done h =
    let read = read_below (lane_at_rest w n e limit f r s reader_done) n e h in
    omega (arith, read, h.lawful.granted, h.lawful.small_limit)

pub came_at_rest : (w : Windows) (n e limit : ℕ) (f r s : Option ℕ) (reader_done : Bool) → IsAtRest (lane_at_rest w n e limit f r s reader_done) n e → n ≤ e
came_at_rest w n e limit f r s reader_done h =
    let read = read_within (lane_at_rest w n e limit f r s reader_done) h.lawful in
    let end = end_of-below e in
    omega (arith, read, end)

pub end_at_rest : (w : Windows) (n e limit : ℕ) (f r s : Option ℕ) (reader_done : Bool) → IsAtRest (lane_at_rest w n e limit f r s reader_done) n e → e ≤ MAX_VARINT
end_at_rest w n e limit f r s reader_done h = grind (arith, nat_tests, end_of-below)

pub no_room : (w : Windows) (n e limit : ℕ) (f r s : Option ℕ) (reader_done : Bool) → IsAtRest (lane_at_rest w n e limit f r s reader_done) n e → needs_no_room (lane_at_rest w n e limit f r s reader_done) ≡ true
no_room w n e limit f r s reader_done h = grind (arith, nat_tests, end_of-below)

pub whole_below : (e size : ℕ) → nat_le size e ≡ covers (numbers 0 e) 0 size
whole_below e size = grind (arith, nat_tests, covers-of, known_below, news_below)

-- A new half

pub new_at_rest : (w : ℕ) (share : Share) → lane_at_rest (record { widest = w; size = w; share = share }) 0 0 w None None None false ≡ new_lane w share
new_at_rest w share = ap (λ r. record (new_lane w share) { arrived = record { stored = map.empty; received = r; read_count = 0; widest = w; discarding = false } }) (numbers-none 0 0 (omega arith))

pub at_rest_new : (w : ℕ) (share : Share) → 1 ≤ w → w ≤ MAX_WINDOW → IsAtRest (lane_at_rest (record { widest = w; size = w; share = share }) 0 0 w None None None false) 0 0
at_rest_new w share some small =
    record {
      lawful = subst IsLawful (sym (new_at_rest w share)) (lawful_new w share some small);
      stop_fits = tt;
      all_read = λ _. refl;
      ended = λ reader_done. absurd (both_ways false refl reader_done);
      nothing = λ _ _. refl;
    }

-- Where bytes are thrown away

at_rest_thrown : (lane : RecvLane) (n e : ℕ) → lane.arrived.discarding ≡ true → IsLawful lane → CodeFits lane.stop_code → IsAtRest lane n e
at_rest_thrown lane n e off lawful fits = grind (arith, nat_tests)

-- the offsets up to the largest are those that came
below_itself : (w : Windows) (n e limit code size : ℕ) (s : Option ℕ) (reader_done : Bool)
    → lane_at_rest w n (end_of (numbers 0 e)) limit (Some size) (Some code) s reader_done ≡ lane_at_rest w n e limit (Some size) (Some code) s reader_done
below_itself w n e limit code size s reader_done = ap (λ k. lane_at_rest w n k limit (Some size) (Some code) s reader_done) (end_of-below e)

pub at_rest_reset : (w : Windows) (n e limit code size : ℕ) (f s : Option ℕ) (reader_done : Bool) → is_whole (lane_at_rest w n e limit f None s reader_done) ≡ false → IsOk (check_reset (lane_at_rest w n e limit f None s reader_done) size)
    → IsAtRest (lane_at_rest w n e limit f None s reader_done) n e → IsAtRest (lane_at_rest w n e limit (Some size) (Some code) s reader_done) n e
at_rest_reset w n e limit code size f s reader_done not_whole ok h =
    at_rest_thrown (lane_at_rest w n e limit (Some size) (Some code) s reader_done) n e refl
    (subst IsLawful (below_itself w n e limit code size s reader_done) (sound_reset (lane_at_rest w n e limit f None s reader_done) w.widest n e code size refl not_whole ok (sound_at_rest w n e limit f None s reader_done h)).lawful) h.stop_fits

pub reset_rest_is : (w : Windows) (n e limit code size : ℕ) (f s : Option ℕ) (reader_done : Bool) → is_whole (lane_at_rest w n e limit f None s reader_done) ≡ false
    → lane_at_rest w n e limit (Some size) (Some code) s reader_done ≡ take_reset (lane_at_rest w n e limit f None s reader_done) code size
reset_rest_is w n e limit code size f s reader_done not_whole =
    let lane : RecvLane = lane_at_rest w n e limit f None s reader_done in
    let after : RecvLane = record lane { arrived = forget lane.arrived; final_size = Some size; reset_code = Some code } in
    sym (ap (λ b. cond b lane after) not_whole ∙ below_itself w n e limit code size s reader_done)

-- what a stop leaves
pub stopped_at_rest : (w : Windows) (n e limit code : ℕ) (f r : Option ℕ) (reader_done : Bool)
    → (let lane : RecvLane = lane_at_rest w n e limit f r None reader_done in lane_at_rest w n e limit f r (Some code) reader_done ≡ record lane { arrived = discard lane.arrived; stop_code = Some code })
stopped_at_rest w n e limit code f r reader_done = grind (arith, nat_tests)

pub at_rest_stopped : (w : Windows) (n e limit code : ℕ) (f r : Option ℕ) (reader_done : Bool) → code ≤ MAX_VARINT
    → IsAtRest (lane_at_rest w n e limit f r None reader_done) n e → IsAtRest (lane_at_rest w n e limit f r (Some code) reader_done) n e
at_rest_stopped w n e limit code f r reader_done fits h =
    at_rest_thrown (lane_at_rest w n e limit f r (Some code) reader_done) n e (or_right (is_some r) true refl)
    (subst IsLawful (sym (stopped_at_rest w n e limit code f r reader_done)) (sound_stop (lane_at_rest w n e limit f r None reader_done) w.widest n e code fits (sound_at_rest w n e limit f r None reader_done h)).lawful) fits

-- What a reader is told

-- of its end where it is known and read, else nothing, where bytes aren't thrown away
pub ends_at_rest : (w : Windows) (n e limit room : ℕ) (f : Option ℕ) (reader_done : Bool) → IsAtRest (lane_at_rest w n e limit f None None reader_done) n e → read_answer (lane_at_rest w n e limit f None None reader_done) room ≡ cond (at_final_size n f) End Wait
ends_at_rest w n e limit room f reader_done h = grind (arith, nat_tests, contains-below)

-- A frame

pub taken_at_rest : (w : Windows) (n e e' limit offset : ℕ) (f r s : Option ℕ) (reader_done : Bool) (bytes : List ℕ) (fin : Bool) → EndsAt (lane_at_rest w n e limit f r s reader_done) offset bytes e'
    → lane_at_rest w n e' limit (cond fin (Some (offset + length bytes)) f) r s reader_done ≡ take_stream (lane_at_rest w n e limit f r s reader_done) offset bytes fin
taken_at_rest w n e e' limit offset f r s reader_done bytes fin h = grind (arith, nat_tests)

pub at_rest_taken : (w : Windows) (n e e' limit offset : ℕ) (f r s : Option ℕ) (reader_done : Bool) (bytes : List ℕ) (fin : Bool) → EndsAt (lane_at_rest w n e limit f r s reader_done) offset bytes e'
    → IsOk (check_stream (lane_at_rest w n e limit f r s reader_done) offset (length bytes) fin)
    → IsAtRest (lane_at_rest w n e limit f r s reader_done) n e → IsAtRest (lane_at_rest w n e' limit (cond fin (Some (offset + length bytes)) f) r s reader_done) n e'
at_rest_taken w n e e' limit offset f r s reader_done bytes fin ends ok h =
    let lane : RecvLane = lane_at_rest w n e limit f r s reader_done in
    record {
      lawful = subst IsLawful (sym (taken_at_rest w n e e' limit offset f r s reader_done bytes fin ends)) (lawful_take_stream lane offset bytes fin h.lawful ok);
      stop_fits = h.stop_fits;
      all_read = ends.all_read;
      ended = λ is_told on. same_size f (offset + length bytes) (length bytes) n fin (highest lane) (unbroken lane offset (length bytes) fin ok) (h.ended is_told on);
      nothing = λ untold on. omega (arith, ends.all_read on, h.all_read on, h.nothing untold on);
    }

pub grown_at_rest : (w : Windows) (n e e' limit offset : ℕ) (f r s : Option ℕ) (reader_done : Bool) (bytes : List ℕ) (fin : Bool) → EndsAt (lane_at_rest w n e limit f r s reader_done) offset bytes e'
    → IsAtRest (lane_at_rest w n e limit f r s reader_done) n e
    → highest (lane_at_rest w n e' limit (cond fin (Some (offset + length bytes)) f) r s reader_done) ≡ highest_after (lane_at_rest w n e limit f r s reader_done) offset (length bytes) fin
grown_at_rest w n e e' limit offset f r s reader_done bytes fin ends h =
    ap highest (taken_at_rest w n e e' limit offset f r s reader_done bytes fin ends) ∙ highest-take_stream (lane_at_rest w n e limit f r s reader_done) offset bytes fin h.lawful

-- where nothing new comes
pub ends_known : (w : Windows) (n e limit offset : ℕ) (f r s : Option ℕ) (reader_done : Bool) (bytes : List ℕ) → ContainsRange (numbers 0 e) offset (offset + length bytes)
    → IsAtRest (lane_at_rest w n e limit f r s reader_done) n e → EndsAt (lane_at_rest w n e limit f r s reader_done) offset bytes e
ends_known w n e limit offset f r s reader_done bytes known h =
    record { arrived = either (is_some r); all_read = h.all_read }
  where
    either : (b : Bool) → cond b (at_rest w.widest n e (is_some r || is_some s)) (put (at_rest w.widest n e (is_some r || is_some s)) offset bytes) ≡ at_rest w.widest n e (is_some r || is_some s)
    either true = refl
    either false = sym (put_known (at_rest w.widest n e (is_some r || is_some s)) offset bytes known)

-- after a reset
pub ends_passed : (w : Windows) (n e limit offset code : ℕ) (f s : Option ℕ) (reader_done : Bool) (bytes : List ℕ) → EndsAt (lane_at_rest w n e limit f (Some code) s reader_done) offset bytes e
ends_passed w n e limit offset code f s reader_done bytes = record { arrived = refl; all_read = λ on. absurd (both_ways true on refl) }

-- after a stop, where it touches what came
union_below : (e lo hi : ℕ) → lo ≤ e → e ≤ hi → set.union (numbers 0 e) (numbers lo hi) ≡ numbers 0 hi
union_below e lo hi touches ends =
    same_numbers _ _ (λ q.
    let old = contains-below e q in
    let new = contains-below hi q in
    contains-with_range (numbers 0 e) lo hi q ∙ grind (arith, nat_tests))

pub ends_more : (w : Windows) (n e limit offset code : ℕ) (f : Option ℕ) (reader_done : Bool) (bytes : List ℕ) → offset ≤ e → e ≤ offset + length bytes
    → EndsAt (lane_at_rest w n e limit f None (Some code) reader_done) offset bytes (offset + length bytes)
ends_more w n e limit offset code f reader_done bytes touches ends = grind (arith, nat_tests, union_below)

-- where memory may be taken

pub apart_below : (e offset end : ℕ) → e < offset → MissesRange (numbers 0 e) (offset - 1) end
apart_below e offset end new q low high = contains-below e q ∙ grind (arith, nat_tests)

-- A half that is reset

-- what a reset leaves is at rest
pub forgotten_is : (lane : RecvLane) (w n e code size : ℕ) → IsSound lane w n e
    → lane_at_rest (record { widest = w; size = lane.window; share = lane.share }) n e lane.limit (Some size) (Some code) lane.stop_code lane.reader_done ≡ record lane { arrived = forget lane.arrived; final_size = Some size; reset_code = Some code }
forgotten_is lane w n e code size h = grind (arith, nat_tests)

pub reset_at_rest : (lane : RecvLane) (w n e code size : ℕ) → is_some lane.reset_code ≡ false → is_whole lane ≡ false → IsOk (check_reset lane size) → IsSound lane w n e
    → IsAtRest (lane_at_rest (record { widest = w; size = lane.window; share = lane.share }) n e lane.limit (Some size) (Some code) lane.stop_code lane.reader_done) n e
reset_at_rest lane w n e code size no_reset not_whole ok h =
    at_rest_thrown (lane_at_rest (record { widest = w; size = lane.window; share = lane.share }) n e lane.limit (Some size) (Some code) lane.stop_code lane.reader_done) n e refl
    (subst IsLawful (sym (forgotten_is lane w n e code size h)) (sound_reset lane w n e code size no_reset not_whole ok h).lawful) h.stop_fits

-- A half of which the end, or a reset, was told, or that was stopped

abbrev pub is_done : RecvLane → Bool
is_done lane = lane.reader_done || is_some lane.stop_code

-- until bytes are thrown away it was told
done_told : (lane : RecvLane) → is_done lane ≡ true → IsLawful lane → lane.arrived.discarding ≡ false → lane.reader_done ≡ true
done_told lane done lawful on = grind (arith, nat_tests)

pub given_some : (b : Bool) (n : ℕ) → is_some (given b n) ≡ b
given_some b n = grind (arith, nat_tests)

pub done_at_rest : (lane : RecvLane) (w n e size : ℕ) → is_done lane ≡ true → IsSound lane w n e → IsLetGo lane size → IsAtRest lane n e
done_at_rest lane w n e size done h let_go = grind (arith, nat_tests, read_within)

nothing_left : (lane : RecvLane) (size : ℕ) → is_done lane ≡ true → IsLawful lane → IsLetGo lane size → lane.arrived.stored ≡ map.empty
nothing_left lane size done h let_go = go lane.arrived.discarding refl
  where
    go : (b : Bool) → lane.arrived.discarding ≡ b → lane.arrived.stored ≡ map.empty
    go true off = h.thrown_away off
    go false on = map.empty_of_len lane.arrived.stored (none_left lane h (let_go.ended (done_told lane done h on) on))

pub rested_is : (lane : RecvLane) (w n e size : ℕ) → is_done lane ≡ true → ContainsRange lane.arrived.received 0 e → IsSound lane w n e → IsLetGo lane size
    → lane_at_rest (record { widest = w; size = lane.window; share = lane.share }) n e lane.limit lane.final_size lane.reset_code lane.stop_code lane.reader_done ≡ lane
rested_is lane w n e size done all h let_go =
    let stored = nothing_left lane size done h.lawful let_go in
    let received : lane.arrived.received ≡ numbers 0 e =
    same_numbers _ _ (λ q. same_tests _ _ (λ is. contains-below e q ∙ (let below = below-end_of lane.arrived.received q is in let ends = h.end_is in grind (arith, nat_tests)))
    (λ is. let within : is_within 0 e q ≡ true = sym (contains-below e q) ∙ is in all q (omega arith) (grind (arith, nat_tests)))) in
    grind (arith, nat_tests)

-- ---- Nothing that may still come or be called changes a half that was read to its end.

-- the half stores nothing new of what came
same_put : (a : Assembled) (offset : ℕ) (bytes : List ℕ) (end : ℕ) → a.received ≡ numbers 0 end → (length bytes ≡ 0) ⊎ (offset + length bytes ≤ end) → put a offset bytes ≡ a
same_put a offset bytes end came within = grind (arith, nat_tests, put_known, known_below)

-- what passed the test of the final size lies within it, and names it where it ends the stream
unbroken_is : (size end n before : ℕ) (fin : Bool) → breaks_known (Some size) end n fin before ≡ false → ((n ≡ 0) ⊎ (end ≤ size)) × (fin ≡ true → end ≡ size)
unbroken_is size end n before fin h = grind (arith, nat_tests)

module _ (l : RecvLane) (h : IsOver l) where
  whole : is_whole l ≡ true
  whole = ap (whole_to l.arrived.received) h.size ∙ ap (λ r. covers r 0 l.arrived.read_count) h.came ∙ covers-of (numbers 0 l.arrived.read_count) 0 l.arrived.read_count (known_below l.arrived.read_count 0 l.arrived.read_count (inr (omega arith)))

  pub over_read : (room : ℕ) → read_answer l room ≡ End
  over_read room = grind (arith, nat_tests)

  pub over_bytes : (room : ℕ) → bytes_read l room ≡ []
  over_bytes room = ap (λ r. bytes_of r l room) (over_read room)

  pub over_after_read : (room : ℕ) → after_read l room ≡ l
  over_after_read room = ap (λ r. after_answer r l room) (over_read room) ∙ ap (λ b. record l { reader_done = b }) (sym h.reader_done)

  pub over_stream : (offset : ℕ) (bytes : List ℕ) (fin : Bool) → IsOkOfResult (check_stream l offset (length bytes) fin) → take_stream l offset bytes fin ≡ l
  over_stream offset bytes fin ok = grind (arith, nat_tests, unbroken_is, unbroken, same_put)

  pub over_grown : (offset n : ℕ) (fin : Bool) → IsOkOfResult (check_stream l offset n fin) → highest_after l offset n fin ≡ highest l
  over_grown offset n fin ok = grind (arith, nat_tests)

  pub over_reset : (code size : ℕ) → take_reset l code size ≡ l
  over_reset code size = ap (λ b. cond b l (record l { arrived = forget l.arrived; final_size = Some size; reset_code = Some code })) (or_right (is_some l.reset_code) (is_whole l) whole)

  -- a reset that may be taken names the size that is known
  pub over_size : (size : ℕ) → IsOkOfResult (check_reset l size) → highest l ≡ size
  over_size size ok = grind (arith, nat_tests)

  pub over_raise : raise l ≡ l
  over_raise = ap (λ f. record l { limit = cond (is_some f) l.limit (next_limit l.limit (taken l) l.window l.share) }) h.size

  pub over_over : is_over l ≡ true
  over_over = ap (λ b. b && (is_some l.reset_code || is_whole l)) h.reader_done ∙ or_right (is_some l.reset_code) (is_whole l) whole

  pub over_stop : (code : ℕ) → stop l code ≡ l
  over_stop code = ap (λ b. cond b l (record l { arrived = discard l.arrived; stop_code = Some code })) (or_right (is_some l.stop_code) (is_over l) over_over)

  pub over_forget : (code : ℕ) → stop_and_discard l code ≡ l
  over_forget code = ap (λ (k : RecvLane). record k { reader_done = true }) (over_stop code) ∙ ap (λ b. record l { reader_done = b }) (sym h.reader_done)
