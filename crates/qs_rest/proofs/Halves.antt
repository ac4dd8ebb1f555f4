-- A sending half keeps what holds of it.
use Rattle.std.proofs.Common.{◌≡◌, ℕ, ◌+◌, ◌-◌, ◌≤◌, max, Bool, true, false, List, [], length, Some, None, is_some, refl, sym, ◌∙◌, arith}
use Rattle.std.specs.Prelude.{cond}
use Rattle.std.proofs.lemmas.Option.{none-some}
use Rattle.std.proofs.lemmas.Bool.{cond_both, or_left, false≢true}
use Rattle.qs_ranges.specs.Numbers.{MAX_VARINT}
use Rattle.qs_send.specs.Lane.{SendLane, refusal, reset_refusal, write_lane, finish_lane, buffer_lane, reset_lane, broken_off, first_code, stop_taken, sent_lane, blocked_lane, allow_lane, acked_lane, reset_acked_lane}
use Rattle.qs_send.specs.declared.parts.Chunk.{Chunk}
use Rattle.qs_send.specs.declared.parts.SendFault.TheVariants.{Finished, WasReset}
use Rattle.qs_runs.specs.Pasts.{Past}
use Rattle.qs_runs.proofs.Members.{run-old}
use Rattle.qs_machine.proofs.EndsAfter.{has_code}
use Rattle.qs_rest.specs.Invariant.{IsAllAcked, HalfTrue, ResetTold}

-- what no call takes back of a sending half
pub record Lasts (l m : SendLane) : Type 0 where
  pub limit : l.limit ≤ m.limit
  pub reset : is_some l.was_reset ≡ true → is_some m.was_reset ≡ true
  pub whole : IsAllAcked l → IsAllAcked m
  pub stopped : is_some l.stopped ≡ true → is_some m.stopped ≡ true

pub lasts_same : (l : SendLane) → Lasts l l
lasts_same l = record { limit = omega arith; reset = λ is. is; whole = λ h. h; stopped = λ is. is }

pub lasts_twice : (l m k : SendLane) → Lasts l m → Lasts m k → Lasts l k
lasts_twice l m k a b = record { limit = omega (arith, a.limit, b.limit); reset = λ is. b.reset (a.reset is); whole = λ h. b.whole (a.whole h); stopped = λ is. b.stopped (a.stopped is) }

-- a half that refuses nothing isn't finished
not_finished : (l : SendLane) → refusal l ≡ None → l.finished ≡ false
not_finished l none = go (is_some l.was_reset) l.finished none
  where
    go : (a b : Bool) → cond a (Some WasReset) (cond b (Some Finished) None) ≡ None → b ≡ false
    go a false e = refl
    go false true e = absurd (none-some Finished (sym e))
    go true true e = absurd (none-some WasReset (sym e))

pub write_lasts : (l : SendLane) (bytes : List ℕ) → refusal l ≡ None → Lasts l (write_lane l bytes)
write_lasts l bytes none = record { limit = omega arith; reset = λ is. is; whole = λ h. absurd (false≢true (sym (not_finished l none) ∙ h.finished)); stopped = λ is. is }

pub finish_lasts : (l : SendLane) → Lasts l (finish_lane l)
finish_lasts l = record { limit = omega arith; reset = λ is. is; whole = λ h. record { finished = refl; end = h.end; offsets = h.offsets }; stopped = λ is. is }

pub buffer_lasts : (l : SendLane) (size : ℕ) → Lasts l (buffer_lane l size)
buffer_lasts l size = record { limit = omega arith; reset = λ is. is; whole = λ h. record { finished = h.finished; end = h.end; offsets = h.offsets }; stopped = λ is. is }

pub reset_lasts : (code : ℕ) (l : SendLane) → Lasts l (reset_lane l code)
reset_lasts code l =
    cond_both (is_some (reset_refusal l)) l (record l { kept = []; was_reset = Some (record { code = code; size = cond l.fin_sent l.written l.sent_end }) }) (Lasts l) (λ _. lasts_same l) (λ _.
    record { limit = omega arith; reset = λ is. refl; whole = λ h. record { finished = h.finished; end = h.end; offsets = h.offsets }; stopped = λ is. is })

-- a STOP_SENDING came
pub stopped_lasts : (answers : Bool) (code : ℕ) (l : SendLane) → Lasts l (stop_taken answers l code)
stopped_lasts true code l =
    cond_both (is_some (reset_refusal l)) l (record l { stopped = first_code l.stopped code }) (Lasts l) (λ _. lasts_same l) (λ _.
    record { limit = omega arith; reset = λ is. is; whole = λ h. record { finished = h.finished; end = h.end; offsets = h.offsets }; stopped = λ _. has_code l.stopped code })
stopped_lasts false code l =
    cond_both (is_some (reset_refusal l)) l (record (broken_off l code) { stopped = first_code l.stopped code }) (Lasts l) (λ _. lasts_same l) (λ _.
    record { limit = omega arith; reset = λ is. refl; whole = λ h. record { finished = h.finished; end = h.end; offsets = h.offsets }; stopped = λ _. has_code l.stopped code })

pub sent_lasts : (l : SendLane) (c : Chunk) → Lasts l (sent_lane l c)
sent_lasts l c = record { limit = omega arith; reset = λ is. is; whole = λ h. record { finished = h.finished; end = h.end; offsets = h.offsets }; stopped = λ is. is }

pub blocked_lasts : (l : SendLane) → Lasts l (blocked_lane l)
blocked_lasts l = record { limit = omega arith; reset = λ is. is; whole = λ h. record { finished = h.finished; end = h.end; offsets = h.offsets }; stopped = λ is. is }

pub allow_lasts : (l : SendLane) (m : ℕ) → Lasts l (allow_lane l m)
allow_lasts l m = record { limit = omega arith; reset = λ is. is; whole = λ h. record { finished = h.finished; end = h.end; offsets = h.offsets }; stopped = λ is. is }

pub acked_lasts : (l : SendLane) (c : Chunk) → Lasts l (acked_lane l c)
acked_lasts l c =
    record {
      limit = omega arith;
      reset = λ is. is;
      whole = λ h. record { finished = h.finished; end = or_left l.fin_acked c.fin h.end; offsets = λ q lt. run-old l.acked c.offset (c.offset + c.len) q (h.offsets q lt) };
      stopped = λ is. is;
    }

pub reset_acked_lasts : (l : SendLane) → Lasts l (reset_acked_lane l)
reset_acked_lasts l = record { limit = omega arith; reset = λ is. is; whole = λ h. record { finished = h.finished; end = h.end; offsets = h.offsets }; stopped = λ is. is }

-- What holds of a half

taken_bound : (written count max : ℕ) (l : SendLane) → count ≤ max - written → written ≤ max → written + count ≤ max
taken_bound written count max l few low = omega (arith, few, low)

module _ (p : Past) (n first : ℕ) (l : SendLane) (h : HalfTrue p n first l) where
  pub write_true : (bytes : List ℕ) → length bytes ≤ MAX_VARINT - l.written → HalfTrue p n first (write_lane l bytes)
  write_true bytes few = record { first_limit = h.first_limit; small = taken_bound l.written (length bytes) MAX_VARINT l few h.small; reset_told = h.reset_told }

  pub finish_true : HalfTrue p n first (finish_lane l)
  finish_true = record { first_limit = h.first_limit; small = h.small; reset_told = h.reset_told }

  pub buffer_true : (size : ℕ) → HalfTrue p n first (buffer_lane l size)
  buffer_true size = record { first_limit = h.first_limit; small = h.small; reset_told = h.reset_told }

  pub reset_true : (code : ℕ) → HalfTrue p n first (reset_lane l code)
  reset_true code =
      cond_both (is_some (reset_refusal l)) l (record l { kept = []; was_reset = Some (record { code = code; size = cond l.fin_sent l.written l.sent_end }) }) (HalfTrue p n first) (λ _. h) (λ _.
      record { first_limit = h.first_limit; small = h.small; reset_told = h.reset_told })

  pub stopped_true : (answers : Bool) (code : ℕ) → HalfTrue p n first (stop_taken answers l code)
  stopped_true true code =
      cond_both (is_some (reset_refusal l)) l (record l { stopped = first_code l.stopped code }) (HalfTrue p n first) (λ _. h) (λ _. record { first_limit = h.first_limit; small = h.small; reset_told = h.reset_told })
  stopped_true false code =
      cond_both (is_some (reset_refusal l)) l (record (broken_off l code) { stopped = first_code l.stopped code }) (HalfTrue p n first) (λ _. h) (λ _.
      record { first_limit = h.first_limit; small = h.small; reset_told = h.reset_told })

  pub sent_true : (c : Chunk) → HalfTrue p n first (sent_lane l c)
  sent_true c = record { first_limit = h.first_limit; small = h.small; reset_told = h.reset_told }

  pub blocked_true : HalfTrue p n first (blocked_lane l)
  blocked_true = record { first_limit = h.first_limit; small = h.small; reset_told = h.reset_told }

  pub allow_true : (m : ℕ) → HalfTrue p n first (allow_lane l m)
  allow_true m = record { first_limit = omega (arith, h.first_limit); small = h.small; reset_told = h.reset_told }

  pub acked_true : (c : Chunk) → HalfTrue p n first (acked_lane l c)
  acked_true c = record { first_limit = h.first_limit; small = h.small; reset_told = h.reset_told }

  pub reset_acked_true : ResetTold p n → HalfTrue p n first (reset_acked_lane l)
  reset_acked_true told = record { first_limit = h.first_limit; small = h.small; reset_told = λ is. told }
