-- What holds of the tables of an end is kept, as parts of it change.
use Rattle.std.specs.FinMap as fmap
use Rattle.std.proofs.lemmas.Bool.Decides.{nat_tests}
use Rattle.std.proofs.Common.{arith, ◌≡◌, ℕ, ◌+◌, ◌⊎◌, Bool, true, false, List, length, cond, Option, None, Some, refl, sym, ◌∙◌, ◌≤◌, not, ◌&&◌, ◌||◌, is_some, ap, subst, inr, Ok, if◌then◌else◌, ◌-◌, ◌^◌, ◌/◌, ◌%◌, ◌<◌}
use Rattle.std.specs.Prelude.{IsOk, max, is_none, ◌==◌}
use Rattle.std.proofs.lemmas.Bool.{both_ways, false_from_ne_true, cond_both, and_parts, true≢false}
use Rattle.std.proofs.lemmas.Option.{none-some, same_Some}
use Rattle.qs_wire.specs.declared.stream_id.Role.{Role}
use Rattle.qs_calls.specs.declared.settings.Settings.{Settings}
use Rattle.qs_recv.specs.Lane.{RecvLane, is_whole as is_recv_whole, check_stream, take_stream, take_reset, after_read, stop, stop_and_discard, is_over as is_read_off, raise, is_whole as recv_whole, new_lane as new_recv_lane, set_window, MAX_WINDOW, taken, limit_with, next_limit}
use Rattle.qs_recv.specs.Lawful.{IsLawful}
use Rattle.qs_recv.specs.declared.credit.Share.TheVariants.{Half}
use Rattle.qs_send.specs.declared.piece.Item.{Item}
use Rattle.qs_machine.specs.Tables.{Tables, type_of, lookup, updated, no_streams, open_to, each, total, table, update}
use Rattle.qs_machine.specs.Ends.{Present, first_window_by, End, is_uni, is_own, first_window, first_send_limit, opens, opened_by_peer, new_end, recv_lane, send_lane}
use Rattle.qs_machine.specs.Verdicts.{or_new}
use Rattle.qs_machine.specs.Standing.{KeepsCredit, HasLawfulLane, IsInCredit, IsWithinCredit}
use Rattle.qs_machine.proofs.EndedHalves.{whole_stays, reset_stays_ended}
use Rattle.qs_machine.proofs.LanesAgain.{data_after}
use Rattle.qs_conn.specs.Due.{Packets, packets_of, AreDue, IsDueWithout, IsItemMarked, IsMarkedIf, IsNotedBlock, IsBlockedBy, is_same, recv_limit, row_of}
use Rattle.qs_conn.specs.declared.due.Kind.TheVariants as kinds
use Rattle.qs_streams.specs.Flags.{HasMorePlaces, HasPlace, IsFlaggedAt}
use Rattle.qs_conn.proofs.Untolds.{still_told, forgotten_told, told_updated as ends_told_updated, told_read as toldends_told_read, told_opened, told_raised, none_told, each_update, end_put}
use Rattle.qs_send.specs.declared.piece.Item.TheVariants.{ResetStream, StreamDataBlocked}
use Rattle.qs_recv.specs.Assembled.{discard, forget}
use Rattle.qs_recv.specs.declared.credit.Share.{Share}
use Rattle.qs_send.specs.Lane.{new_lane as new_send_lane, Sending, SendLane, is_whole, unacked_from, answer_of, write_lane, finish_lane, reset_lane, broken_off, stop_taken, reset_refusal, refusal, blocked_lane, sent_lane, acked_lane, reset_acked_lane, allow_lane, buffer_lane}
use Rattle.qs_send.specs.declared.parts.SendFault.{SendFault}
use Rattle.qs_send.specs.declared.parts.SendFault.TheVariants.{Finished, WasReset}
use Rattle.qs_send.specs.declared.parts.Reset.{Reset}
use Rattle.qs_send.specs.declared.piece.Piece.{Piece}
use Rattle.qs_send.specs.declared.piece.Piece.TheVariants.{Data, Told}
use Rattle.qs_calls.specs.declared.settings.Tuning.{Tuning}
use Rattle.qs_calls.specs.Settings.{are_in_wide_range, MAX_LIFETIME, default_tuning}
use Rattle.qs_wire.specs.declared.stream_id.Dir.{Dir}
use Rattle.qs_wire.specs.declared.stream_id.Dir.TheVariants.{Bidi, Uni}
use Rattle.qs_machine.proofs.Counts.{within_credit}
use Rattle.qs_machine.specs.Credit.{recv_ended, send_ended, granted_streams, lifetime, count_after}
use Rattle.qs_machine.specs.Seen.{Seen, Stream, Control}
use Rattle.qs_machine.specs.Lawful.{frame_put, chunk_of}
use Rattle.qs_machine.specs.Sums.{or_none}
use Rattle.qs_machine.specs.Outgoing.{Outgoing, HasSending, first_acked_out, acked_at, IsIdle, with_sends, on_lane, sent_sum, IsBlockedAt, first_piece, first_lost_out, without_piece_out, AreApartIn, item_put_out, chunk_put}
use Rattle.qs_conn.specs.declared.by_dir.ByDir.{ByDir}
use Rattle.qs_conn.specs.Ended.{recv_over, send_over, over, is_over, recounted, half_of, AreAllCounted, IsToldOfEnd, CountsFit}
use Rattle.qs_conn.proofs.MadePackets.{recv_recounted, send_recounted, counted_same, updated_over, recvs_opened, sends_opened, counted_raised, none_counted, nothing_recounted, memory_less, memory_marks}
use Rattle.qs_ranges.specs.Numbers.{MAX_VARINT, NumberSet}
use Rattle.qs_machine.specs.Due.{IsCurrent}
use Rattle.qs_send.specs.declared.parts.Chunk.{Chunk}
use Rattle.qs_calls.specs.declared.settings.PeerLimits.{PeerLimits}
use Rattle.qs_calls.specs.declared.closing.Closed.{Closed}
use Rattle.qs_machine.proofs.Taken.{sum_open}
use Rattle.qs_conn.specs.declared.middle.Core.{Core}
use Rattle.qs_conn.specs.declared.due.Kind.{Kind}
use Rattle.qs_conn.specs.Layers.{stop_to_tell}
use Rattle.qs_conn.specs.Tasks.{IsFree, IsShort}
use Rattle.qs_conn.specs.OwnTold.{Kept, AreOwn, own_with, own_left}
use Rattle.qs_conn.specs.Middle.{IsCore, IsAtRest, IsKept, KeepsStreams, IsFilling, FillsOn, HasMemory, end_of}
use Rattle.qs_conn.specs.Filling.{slot_at, end_by, present_of, PutsItem, LeavesRest, LimitsFit, with_window, with_grant}
use Rattle.qs_conn.specs.Settled.{AreNextWhere}
use Rattle.qs_conn.specs.Marks.{IsIdle as IsIdleAt}
use Rattle.qs_conn.specs.Runs.{held_out}
use Rattle.qs_conn.proofs.Flows.{end_chunk}
use Rattle.qs_conn.proofs.Stages.{sum_lane, reset_sends, stop_sends, sum_piece, sum_put}
use Rattle.qs_machine.proofs.CallsSound.{sound_read, sound_stop, sound_forget, sound_window, sound_set, grant_within, keeps_open}
use Rattle.qs_conn.proofs.Dues.{IsCalmer, due_recv, due_stopped, due_discarded, due_windowed, due_send, due_written, due_sent, due_reset, due_chunk, due_placed, due_opened, allowed_keeps, reset_keeps, reset_same, stop_taken_keeps, stop_taken_same}
use Rattle.qs_conn.proofs.DuePackets.{due_acked, due_lost, due_cleared, due_put}
use Rattle.qs_conn.proofs.Owns.{own_risen, own_wanted, own_chunk, own_put, own_present, own_acked, own_lost}
use Rattle.qs_conn.proofs.Rests.{rest_same, rest_on}
use Rattle.qs_calls.specs.declared.settings.SetFault.TheVariants.{OutOfRange}
use Rattle.qs_machine.specs.Owner.{first_refusal, refuse_if}
use Rattle.qs_machine.specs.Setting.{ConnWindow, Grant, is_settable, count_with}
use Rattle.qs_conn.specs.declared.limits.Limits.{Limits}
use Rattle.qs_machine.proofs.TableEdits.{some_tested}
use Rattle.qs_machine.proofs.TableLaws.{lookup_same, lookup_each, total_update}
use Rattle.qs_conn.specs.Plain.{IsPlainLane, IsPlain}
use Rattle.qs_conn.proofs.Outboxes.{open_stays}
use Rattle.qs_conn.proofs.LaneEdits.{stream_settled}

data_calmer : (l : RecvLane) (offset : ℕ) (bytes : List ℕ) (fin : Bool) → IsLawful l → IsOk (check_stream l offset (length bytes) fin) → IsCalmer l (take_stream l offset bytes fin)
data_calmer l offset bytes fin lawful ok = record { limit = refl; stop = refl; size = size fin; reset = λ is. is; whole = part }
  where
    size : (b : Bool) → cond {A = Option ℕ} b (Some (offset + length bytes)) l.final_size ≡ None → l.final_size ≡ None
    size true is = absurd (none-some (offset + length bytes) (sym is))
    size false is = is

    part : is_recv_whole (take_stream l offset bytes fin) ≡ false → is_recv_whole l ≡ false
    part is = false_from_ne_true (is_recv_whole l) (λ at. (let after = data_after l offset bytes fin lawful ok in both_ways (is_recv_whole (take_stream l offset bytes fin)) is (whole_stays l (take_stream l offset bytes fin) after.received after.size at)))

pub reset_calmer : (l : RecvLane) (code size : ℕ) → IsCalmer l (take_reset l code size)
reset_calmer l code size = grind (arith, nat_tests)

read_calmer : (l : RecvLane) (room : ℕ) → IsCalmer l (after_read l room)
read_calmer l room = grind (arith, nat_tests)

-- bytes came that passed the check
pub due_streamed : {r : Role} {s : Settings} {recvs : Tables RecvLane} {sends : Tables SendLane} {q : Packets} {t : Tables (List ℕ)} → AreDue r s recvs sends q t → (p : Present) (g : ℕ) → KeepsCredit r s p recvs g → (now : Tables RecvLane) (n offset : ℕ) (bytes : List ℕ) (fin : Bool) → IsOk (check_stream (or_new (lookup recvs n) 0 Half) offset (length bytes) fin)
    → now ≡ updated recvs n (λ l. take_stream l offset bytes fin) (lookup recvs n) → AreDue r s now sends q t
due_streamed {r} {s} h p g k now n offset bytes fin passed is =
    due_recv h now n (λ l. take_stream l offset bytes fin) is
    (λ l there. data_calmer l offset bytes fin (subst (HasLawfulLane r s n) there (k.lanes n)).0 (subst (λ o. IsOk (check_stream (or_new o 0 Half) offset (length bytes) fin)) there passed))

-- ---- The counts of the streams that came to their end: each call keeps them right.

-- Changes that end no half

pub sends_same : (role : Role) (recvs : Tables RecvLane) (sends now : Tables SendLane) (n : ℕ) (f : SendLane → SendLane) (e : ByDir ℕ) → AreAllCounted role recvs sends e → now ≡ updated sends n f (lookup sends n)
    → ((l : SendLane) → lookup sends n ≡ Some l → send_ended (f l) ≡ send_ended l) → AreAllCounted role recvs now e
sends_same role recvs sends now n f e h after same =
    counted_same role recvs sends e h recvs now (λ m. ap (over role m (recv_over (lookup recvs m))) (updated_over send_over sends now n f after same m))

pub recvs_same : (role : Role) (recvs now : Tables RecvLane) (sends : Tables SendLane) (n : ℕ) (f : RecvLane → RecvLane) (e : ByDir ℕ) → AreAllCounted role recvs sends e → now ≡ updated recvs n f (lookup recvs n)
    → ((l : RecvLane) → lookup recvs n ≡ Some l → recv_ended (f l) ≡ recv_ended l) → AreAllCounted role now sends e
recvs_same role recvs now sends n f e h after same =
    counted_same role recvs sends e h now sends (λ m. ap (λ b. over role m b (send_over (lookup sends m))) (updated_over recv_over recvs now n f after same m))

-- What holds of an endpoint's counts

pub grants_fit : (s : Settings) → are_in_wide_range s ≡ true → (s.grant_bidi ≤ s.lifetime_bidi) × (s.grant_uni ≤ s.lifetime_uni)
grants_fit s fits = (grind (arith, nat_tests), grind (arith, nat_tests))

-- a new end
pub fit_new : (role : Role) (s : Settings) (recvs : Tables RecvLane) (sends : Tables SendLane) → are_in_wide_range s ≡ true → recvs ≡ no_streams → CountsFit role s recvs sends (record { bidi = 0; uni = 0 }) s.grant_bidi s.grant_uni
fit_new role s recvs sends fits none = (let g = grants_fit s fits in record { counted = none_counted role recvs sends none; told = none_told recvs none; bidi = g.0; uni = g.1 })

-- a half that may be broken off isn't at its end
open_still : (r : Option Reset) (w f a : Bool) → is_some {T = SendFault} (cond (is_some r) (Some WasReset) (cond w (Some Finished) None)) ≡ false → (a || false) ≡ (a || (is_none r && f && w))
open_still r w f a is = grind (arith, nat_tests)

-- one that is broken off, or whose peer stops reading
pub ends_as_reset : (code : ℕ) (l : SendLane) → send_ended (reset_lane l code) ≡ send_ended l
ends_as_reset code l = cond_both (is_some (reset_refusal l)) l (broken_off l code) (λ (k : SendLane). send_ended k ≡ send_ended l) (λ refused. refl) (λ goes. open_still l.was_reset (is_whole l) l.finished l.reset_acked goes)

pub ends_as_stopped : (answers : Bool) (code : ℕ) (l : SendLane) → send_ended (stop_taken answers l code) ≡ send_ended l
ends_as_stopped answers code l = grind (arith, nat_tests)

module _ (role : Role) (s : Settings) (recvs : Tables RecvLane) (sends : Tables SendLane) (e : ByDir ℕ) (b u : ℕ) (h : CountsFit role s recvs sends e b u) where
  pub fit_sends : (now : Tables SendLane) (e' : ByDir ℕ) → AreAllCounted role recvs now e' → CountsFit role s recvs now e' b u
  fit_sends now e' is = record { counted = is; told = h.told; bidi = h.bidi; uni = h.uni }

  pub fit_recvs : (now_r : Tables RecvLane) (now_s : Tables SendLane) (e' : ByDir ℕ) → AreAllCounted role now_r now_s e' → ((n : ℕ) → IsToldOfEnd (lookup now_r n)) → CountsFit role s now_r now_s e' b u
  fit_recvs now_r now_s e' is told = record { counted = is; told = told; bidi = h.bidi; uni = h.uni }

  -- a half changes, and its stream is counted anew
  recounts : (now : Tables RecvLane) (n : ℕ) (f : RecvLane → RecvLane) (e' : ByDir ℕ) (was is : Bool) → now ≡ updated recvs n f (lookup recvs n) → was ≡ is_over role recvs sends n → is ≡ is_over role now sends n → e' ≡ recounted n was is e
      → ((l : RecvLane) → lookup recvs n ≡ Some l → IsToldOfEnd (Some l) → IsToldOfEnd (Some (f l))) → CountsFit role s now sends e' b u
  recounts now n f e' was is after before behind to told =
      fit_recvs now sends e' (recv_recounted role recvs now sends n f e e' was is h.counted after before behind to) (ends_told_updated recvs now n f h.told after told)

  -- a stop
  pub fit_stopped : (now : Tables RecvLane) (n code : ℕ) → now ≡ updated recvs n (λ l. stop l code) (lookup recvs n) → CountsFit role s now sends e b u
  fit_stopped now n code is =
      fit_recvs now sends e (recvs_same role recvs now sends n (λ l. stop l code) e h.counted is (λ l there. cond_both (is_some l.stop_code || is_read_off l) l (off l) (λ (k : RecvLane). recv_ended k ≡ recv_ended l) (λ stays. refl) (λ goes. refl)))
      (ends_told_updated recvs now n (λ l. stop l code) h.told is (λ l there told. cond_both (is_some l.stop_code || is_read_off l) l (off l) (λ (k : RecvLane). IsToldOfEnd (Some k)) (λ stays. told) (λ goes is. inr refl)))
    where
      off : RecvLane → RecvLane
      off l = record l { arrived = discard l.arrived; stop_code = Some code }

  -- another window
  pub fit_windowed : (now : Tables RecvLane) (n w : ℕ) → now ≡ updated recvs n (λ l. set_window l w) (lookup recvs n) → CountsFit role s now sends e b u
  fit_windowed now n w is =
      fit_recvs now sends e (recvs_same role recvs now sends n (λ l. set_window l w) e h.counted is (λ l there. refl))
      (ends_told_updated recvs now n (λ l. set_window l w) h.told is (λ l there told. told))

  -- one of a stream that is forgotten
  pub fit_forgotten : (now : Tables RecvLane) (n code : ℕ) (e' : ByDir ℕ) (was is : Bool) → now ≡ updated recvs n (λ l. stop_and_discard l code) (lookup recvs n) → was ≡ is_over role recvs sends n → is ≡ is_over role now sends n → e' ≡ recounted n was is e
      → CountsFit role s now sends e' b u
  fit_forgotten now n code e' was is after before behind to = recounts now n (λ l. stop_and_discard l code) e' was is after before behind to (λ l there told. forgotten_told l code)

  -- a reset came
  pub fit_broken : (now : Tables RecvLane) (n code size : ℕ) (e' : ByDir ℕ) (was is : Bool) → now ≡ updated recvs n (λ l. take_reset l code size) (lookup recvs n) → was ≡ is_over role recvs sends n → is ≡ is_over role now sends n → e' ≡ recounted n was is e
      → CountsFit role s now sends e' b u
  fit_broken now n code size e' was is after before behind to =
      recounts now n (λ l. take_reset l code size) e' was is after before behind to
      (λ l there told. still_told l (take_reset l code size) told (cond_both (is_some l.reset_code || recv_whole l) l (broken l) (λ (k : RecvLane). k.reader_done ≡ l.reader_done) (λ stays. refl) (λ goes. refl)) (reset_stays_ended l code size)
      (λ off. cond_both (is_some l.reset_code || recv_whole l) l (broken l) (λ (k : RecvLane). is_some k.stop_code ≡ true) (λ stays. off) (λ goes. off)))
    where
      broken : RecvLane → RecvLane
      broken l = record l { arrived = forget l.arrived; final_size = Some size; reset_code = Some code }

  module _ (p : Present) (g : ℕ) (k : KeepsCredit role s p recvs g) where
    lawful_at : (n : ℕ) (l : RecvLane) → lookup recvs n ≡ Some l → IsLawful l
    lawful_at n l there = (subst (HasLawfulLane role s n) there (k.lanes n)).0

    -- bytes came that passed the check
    pub fit_streamed : (now : Tables RecvLane) (n offset : ℕ) (bytes : List ℕ) (fin : Bool) (e' : ByDir ℕ) (was is : Bool) → IsOk (check_stream (or_new (lookup recvs n) 0 Half) offset (length bytes) fin)
        → now ≡ updated recvs n (λ l. take_stream l offset bytes fin) (lookup recvs n) → was ≡ is_over role recvs sends n → is ≡ is_over role now sends n → e' ≡ recounted n was is e → CountsFit role s now sends e' b u
    fit_streamed now n offset bytes fin e' was is passed after before behind to =
        recounts now n (λ l. take_stream l offset bytes fin) e' was is after before behind to
        (λ l there told. still_told l (take_stream l offset bytes fin) told refl
        (data_after l offset bytes fin (lawful_at n l there) (subst (λ o. IsOk (check_stream (or_new o 0 Half) offset (length bytes) fin)) there passed)).ended (λ off. off))

    -- a stream is read, and counted anew
    pub fit_read : (now : Tables RecvLane) (n size : ℕ) (e' : ByDir ℕ) (was is : Bool) → now ≡ updated recvs n (λ l. after_read l size) (lookup recvs n) → was ≡ is_over role recvs sends n → is ≡ is_over role now sends n → e' ≡ recounted n was is e
        → CountsFit role s now sends e' b u
    fit_read now n size e' was is after before behind to =
        fit_recvs now sends e' (recv_recounted role recvs now sends n (λ l. after_read l size) e e' was is h.counted after before behind to) (toldends_told_read recvs now n size h.told after (lawful_at n))

  -- a sending half changes, and doesn't come to its end by that
  pub fit_sent : (now : Tables SendLane) (n : ℕ) (f : SendLane → SendLane) → now ≡ updated sends n f (lookup sends n) → ((l : SendLane) → lookup sends n ≡ Some l → send_ended (f l) ≡ send_ended l) → CountsFit role s recvs now e b u
  fit_sent now n f is same = fit_sends now e (sends_same role recvs sends now n f e h.counted is same)

  -- bytes are written, of a half that isn't finished
  pub fit_written : (now : Tables SendLane) (n : ℕ) (bytes : List ℕ) → refusal (or_none (lookup sends n)) ≡ None → now ≡ updated sends n (λ l. write_lane l bytes) (lookup sends n) → CountsFit role s recvs now e b u
  fit_written now n bytes allowed is =
      fit_sent now n (λ l. write_lane l bytes) is (λ l there.
      not_finished l.was_reset l.finished l.reset_acked (is_whole (write_lane l bytes)) (is_whole l) (subst (λ o. refusal (or_none o) ≡ None) there allowed))
    where
      not_finished : (r : Option Reset) (f a v w : Bool) → cond (is_some r) (Some WasReset) (cond f (Some Finished) None) ≡ None → (a || (is_none r && f && v)) ≡ (a || (is_none r && f && w))
      not_finished (Some r) f a v w none = refl
      not_finished None true a v w none = absurd (none-some Finished (sym none))
      not_finished None false a v w none = refl

  -- the end is asked for, of a half that isn't finished
  pub fit_finished : (now : Tables SendLane) (n : ℕ) (o : Outgoing) (half : Sending) → o.sends ≡ sends → HasSending o n half → answer_of (refusal (or_none (lookup sends n))) ≡ Ok tt → now ≡ updated sends n finish_lane (lookup sends n) → CountsFit role s recvs now e b u
  fit_finished now n o half same has allowed is = fit_sent now n finish_lane is each_lane
    where
      finished : (r : Option Reset) (f a from end : Bool) → answer_of (cond (is_some r) (Some WasReset) (cond f (Some Finished) None)) ≡ Ok tt → (end ≡ true → f ≡ true) → (a || (is_none r && true && (from && end))) ≡ (a || (is_none r && f && (from && end)))
      finished (Some r) f a from end ok asked = refl
      finished None false a true true ok asked = absurd (both_ways false refl (asked refl))
      finished None _ a _ _ ok asked = refl

      each_lane : (l : SendLane) → lookup sends n ≡ Some l → send_ended (finish_lane l) ≡ send_ended l
      each_lane l there =
          let lane : half.lane ≡ l = same_Some half.lane l (sym has.lane ∙ ap (λ (t : Tables SendLane). lookup t n) same ∙ there) in
          finished l.was_reset l.finished l.reset_acked (unacked_from l == l.written) l.fin_acked (subst (λ x. answer_of (refusal (or_none x)) ≡ Ok tt) there allowed)
          (subst (λ (x : SendLane). x.fin_acked ≡ true → x.finished ≡ true) lane (λ acked. has.lawful.ends.sent_asked (has.lawful.ends.acked_sent acked)))

  -- streams are opened
  pub fit_opened : (now_r : Tables RecvLane) (now_s : Tables SendLane) (n w : ℕ) (share : Share) (limit buffer : ℕ) (no_send no_recv : Bool) → now_s ≡ cond no_send sends (open_to sends n (λ m. new_send_lane m limit buffer))
      → now_r ≡ cond no_recv recvs (open_to recvs n (λ m. new_recv_lane w share)) → CountsFit role s now_r now_s e b u
  fit_opened now_r now_s n w share limit buffer no_send no_recv sent received =
      fit_recvs now_r now_s e (recvs_opened role recvs now_r now_s e n w share no_recv (sends_opened role recvs sends now_s e n limit buffer no_send h.counted sent) received) (told_opened recvs now_r n w share no_recv h.told received)

  -- limits rise, and each granted count becomes the next one
  pub fit_settled : (t : Tuning) (p : Present) (now : Tables RecvLane) (g v : ℕ) → now ≡ each raise recvs → g ≡ max b (count_after s t Bidi p.grant_bidi e.bidi) → v ≡ max u (count_after s t Uni p.grant_uni e.uni) → CountsFit role s now sends e g v
  fit_settled t p now g v is bidi uni = record { counted = counted_raised role recvs now sends e h.counted is; told = told_raised recvs now h.told is; bidi = omega (arith, bidi, h.bidi); uni = omega (arith, uni, h.uni) }

-- an end within the credit, whose granted counts are within its lifetimes
pub within_counted : (e : End) → IsInCredit e → e.granted_bidi ≤ e.settings.lifetime_bidi → e.granted_uni ≤ e.settings.lifetime_uni → IsWithinCredit e
within_counted e sound bidi uni =
    let w = within_credit (record e { granted_bidi = 0; granted_uni = 0 }) (sound, (omega arith, omega arith)) in
    record { stored = w.stored; credit = w.credit; spent = w.spent; lanes = w.lanes; counts = counts }
  where
    counts : (d : Dir) → granted_streams e d ≤ lifetime e.settings d
    counts Bidi = bidi
    counts Uni = uni

-- Streams that a frame opened are taken away

opened_counted : (e : End) (n : ℕ) (c : ByDir ℕ) (own : Bool) → AreAllCounted e.role e.recvs e.sends c → AreAllCounted e.role (cond own e (opens n e)).recvs (cond own e (opens n e)).sends c
opened_counted e n c true h = h
opened_counted e n c false h =
    recvs_opened e.role e.recvs _ _ c n (first_window e n) e.tuning.credit_step (is_uni n && is_own e n) (sends_opened e.role e.recvs e.sends _ c n (first_send_limit e n) e.settings.send_buffer (is_uni n && not (is_own e n)) h refl) refl

pub closed_counted : (e mid : End) (n : ℕ) (recvs : Tables RecvLane) (sends : Tables SendLane) (c c' : ByDir ℕ) → mid ≡ opened_by_peer n e → recvs ≡ e.recvs → sends ≡ e.sends → AreAllCounted e.role e.recvs e.sends c → AreAllCounted mid.role mid.recvs mid.sends c'
    → AreAllCounted mid.role recvs sends c'
closed_counted e mid n recvs sends c c' is r s h mid_h =
    let role : mid.role ≡ e.role = ap (λ (x : End). x.role) is ∙ cond_both (is_own e n) e (opens n e) (λ (x : End). x.role ≡ e.role) (λ own. refl) (λ new. refl) in
    let opened : AreAllCounted e.role mid.recvs mid.sends c = subst (λ (x : End). AreAllCounted e.role x.recvs x.sends c) (sym is) (opened_counted e n c (is_own e n) h) in
    let after : AreAllCounted e.role mid.recvs mid.sends c' = subst (λ (x : Role). AreAllCounted x mid.recvs mid.sends c') role mid_h in
    let back : AreAllCounted e.role e.recvs e.sends c' = record { bidi = after.bidi ∙ sym opened.bidi ∙ h.bidi; uni = after.uni ∙ sym opened.uni ∙ h.uni } in
    subst (λ (x : Role). AreAllCounted x recvs sends c') (sym role) (subst (λ (t : Tables RecvLane). AreAllCounted e.role t sends c') (sym r) (subst (λ (t : Tables SendLane). AreAllCounted e.role e.recvs t c') (sym s) back))

-- A packet is filled

pub put_counted : (role : Role) (e : End) (x : Seen) (c : ByDir ℕ) → AreAllCounted role e.recvs e.sends c → AreAllCounted role (frame_put x e).recvs (frame_put x e).sends c
unfolding frame_put
put_counted role e (Stream n offset bytes fin) c h = sends_same role e.recvs e.sends _ n (λ l. sent_lane l (chunk_of offset bytes fin)) c h refl (λ l there. refl)
put_counted role e (Control (StreamDataBlocked n m)) c h = sends_same role e.recvs e.sends _ n blocked_lane c h refl (λ l there. refl)
put_counted _ _ _ _ h = h

-- a piece of a stream is acknowledged, and the stream is counted anew
pub piece_recounted : (role : Role) (recvs : Tables RecvLane) (late : Bool) (k n : ℕ) (p : Piece) (o new : Outgoing) (e e' : ByDir ℕ) (was is : Bool) → half_of p ≡ Some n → new ≡ first_acked_out (acked_at late k p) o → AreAllCounted role recvs o.sends e
    → was ≡ is_over role recvs o.sends n → is ≡ is_over role recvs new.sends n → e' ≡ recounted n was is e → AreAllCounted role recvs new.sends e'
piece_recounted role recvs late k n p o new e e' was is half after h before behind to = go p half (ap (λ (x : Outgoing). x.sends) after)
  where
    go : (p : Piece) → half_of p ≡ Some n → new.sends ≡ (first_acked_out (acked_at late k p) o).sends → AreAllCounted role recvs new.sends e'
    go (Data m c) half at = (let same : m ≡ n = same_Some m n half in send_recounted role recvs o.sends new.sends n (λ l. acked_lane l c) e e' was is h (at ∙ ap (λ j. updated o.sends j (λ l. acked_lane l c) (lookup o.sends j)) same) before behind to)
    go (Told (ResetStream m code size)) half at = (let same : m ≡ n = same_Some m n half in send_recounted role recvs o.sends new.sends n reset_acked_lane e e' was is h (at ∙ ap (λ j. updated o.sends j reset_acked_lane (lookup o.sends j)) same) before behind to)
    go _ none at = absurd (none-some n none)

-- ---- What holds of the tables of an end: each change of a part keeps it.

-- The peer stays within its credit

-- an end with these receiving halves
abbrev pub end_with : Role → Settings → Present → Tables RecvLane → ℕ → End
end_with role s p recvs g = record (new_end role s default_tuning (record { max_data = 0; bidi_local = 0; bidi_remote = 0; uni = 0; streams_bidi = 0; streams_uni = 0 })) { present = p; recvs = recvs; granted = g }

-- a stream was opened, or wasn't
pub sound_opened : (role : Role) (s : Settings) (p : Present) (recvs now : Tables RecvLane) (g n w : ℕ) (share : Share) (absent : Bool) → KeepsCredit role s p recvs g → w ≡ first_window_by role s n → now ≡ cond absent recvs (open_to recvs n (λ m. new_recv_lane w share)) → KeepsCredit role s p now g
sound_opened role s p recvs now g n w share true k window is = subst (λ (t : Tables RecvLane). KeepsCredit role s p t g) (sym is) k
sound_opened role s p recvs now g n w share false k window is = subst (λ (t : Tables RecvLane). KeepsCredit role s p t g) (sym (is ∙ ap (λ v. open_to recvs n (λ m. new_recv_lane v share)) window)) (keeps_open role s p recvs g k n share)

-- the limits and the receiving halves stay, and stay again
pub streams_same : (a : Core) → KeepsStreams a a
streams_same a = record { limits = refl; recvs = refl }

pub streams_on : (a b c : Core) → KeepsStreams a b → KeepsStreams b c → KeepsStreams a c
streams_on a b c f g = record { limits = g.limits ∙ f.limits; recvs = g.recvs ∙ f.recvs }

-- but for a RESET_STREAM an item leaves the sending halves as they are
sends_stay : (late : Bool) (k : ℕ) (p : Piece) (o : Outgoing) → half_of p ≡ None → (first_acked_out (acked_at late k p) o).sends ≡ o.sends
sends_stay late k p o none = grind (arith, nat_tests)

-- the next number and the room of a packet are no part of it
pub core_outbox : (c : Core) → IsCore c → (next spare : ℕ) (o : Outgoing) → o ≡ record c.outbox { next = next; spare = spare } → IsCore (record c { outbox = o })
core_outbox c h next spare o is = subst (λ (x : Outgoing). IsCore (record c { outbox = x })) (sym is) (record { sound = h.sound; fits = h.fits; credit = h.credit; counts = h.counts; due = h.due; own = h.own })

-- the sending side, its counts and the marks change; the receiving halves and the limits stay
core_out : (c : Core) (h : IsCore c) (o : Outgoing) (t : Tables (List ℕ)) (ys : Kept) (e : ByDir ℕ) → sent_sum o.sends ≤ c.limits.known_data → AreAllCounted c.limits.role c.recvs o.sends e → AreDue c.limits.role c.limits.settings c.recvs o.sends (packets_of o) t → AreOwn c.limits (packets_of o) ys
    → IsCore (record c { outbox = o; due = t; own = ys; ended = e })
core_out c h o t ys e credit counted due own = grind (arith, nat_tests)

-- marks alone change
core_marks : (c : Core) (h : IsCore c) (t : Tables (List ℕ)) → AreDue c.limits.role c.limits.settings c.recvs c.outbox.sends (packets_of c.outbox) t → IsCore (record c { due = t })
core_marks c h t due = core_out c h c.outbox t c.own c.ended h.credit h.counts.counted due h.own

module _ (c : Core) (h : IsAtRest c) where
  abbrev core : IsCore c
  core = h.core

  -- Sending halves

  -- a half changes, and sends no more
  on_half : (n : ℕ) (f : SendLane → SendLane) (o : Outgoing) (t : Tables (List ℕ)) → o ≡ on_lane n f c.outbox → ((l : SendLane) → (f l).sent_end ≡ l.sent_end)
      → CountsFit c.limits.role c.limits.settings c.recvs (updated c.outbox.sends n f (lookup c.outbox.sends n)) c.ended c.limits.granted_streams.bidi c.limits.granted_streams.uni → AreDue c.limits.role c.limits.settings c.recvs (updated c.outbox.sends n f (lookup c.outbox.sends n)) (packets_of c.outbox) t
      → IsAtRest (record c { outbox = o; due = t })
  on_half n f o t is same counts due =
      let sum = sum_lane c.outbox.sends n f same in
      let credit = core.credit in
      subst (λ (x : Outgoing). IsAtRest (record c { outbox = x; due = t })) (sym is) (record { core = core_out c core (on_lane n f c.outbox) t c.own c.ended (omega (arith, sum, credit)) counts.counted due core.own; idle = h.idle })

  pub rest_allowed : (n limit : ℕ) (half : Sending) (o : Outgoing) → HasSending c.outbox n half → o ≡ on_lane n (λ l. allow_lane l limit) c.outbox → IsAtRest (record c { outbox = o })
  rest_allowed n limit half o has is =
      on_half n (λ l. allow_lane l limit) o c.due is (λ l. refl) (fit_sent _ _ _ _ _ _ _ core.counts _ n (λ l. allow_lane l limit) refl (λ l there. refl))
      (due_send core.due _ n (λ l. allow_lane l limit) refl (λ l at. allowed_keeps limit l (subst (λ (k : SendLane). k.sent_end ≤ k.limit) (same_Some half.lane l (sym has.lane ∙ at)) has.lawful.order.sent_limit)))

  pub rest_buffered : (n size : ℕ) (o : Outgoing) → o ≡ on_lane n (λ l. buffer_lane l size) c.outbox → IsAtRest (record c { outbox = o })
  rest_buffered n size o is =
      on_half n (λ l. buffer_lane l size) o c.due is (λ l. refl) (fit_sent _ _ _ _ _ _ _ core.counts _ n (λ l. buffer_lane l size) refl (λ l there. refl))
      (due_send core.due _ n (λ l. buffer_lane l size) refl (λ l at. (record { told = λ v has. has; tells = λ m v tells. tells }, record { told = λ v has. has; tells = λ m v tells. tells })))

  pub rest_written : (n count : ℕ) (bytes : List ℕ) (o : Outgoing) (t : Tables (List ℕ)) → refusal (or_none (lookup c.outbox.sends n)) ≡ None → o ≡ on_lane n (λ l. write_lane l bytes) c.outbox → length bytes ≡ count → IsNotedBlock (IsBlockedBy count (lookup o.sends n)) n c.due t → IsAtRest (record c { outbox = o; due = t })
  rest_written n count bytes o t free is len noted =
      on_half n (λ l. write_lane l bytes) o t is (λ l. refl) (fit_written _ _ _ _ _ _ _ core.counts _ n bytes free refl)
      (due_written core.due _ n count bytes t refl len (subst (λ (x : Outgoing). IsNotedBlock (IsBlockedBy count (lookup x.sends n)) n c.due t) is noted))

  pub rest_finished : (n : ℕ) (half : Sending) (o : Outgoing) → HasSending c.outbox n half → answer_of (refusal (or_none (lookup c.outbox.sends n))) ≡ Ok tt → o ≡ on_lane n finish_lane c.outbox → IsAtRest (record c { outbox = o })
  rest_finished n half o has free is =
      on_half n finish_lane o c.due is (λ l. refl) (fit_finished _ _ _ _ _ _ _ core.counts _ n c.outbox half refl has free refl)
      (due_send core.due _ n finish_lane refl (λ l at. (record { told = λ v has. has; tells = λ m v tells. tells }, record { told = λ v has. has; tells = λ m v tells. tells })))

  -- a half that is broken off has its reset to tell
  pub rest_reset : (n code : ℕ) (o : Outgoing) (t : Tables (List ℕ)) → answer_of (reset_refusal (or_none (lookup c.outbox.sends n))) ≡ Ok tt → o ≡ on_lane n (λ k. reset_lane k code) c.outbox → IsFlaggedAt c.due (row_of kinds.ResetStream) n true t → IsAtRest (record c { outbox = o; due = t })
  rest_reset n code o t allowed is set_at =
      on_half n (λ k. reset_lane k code) o t is (reset_sends code) (fit_sent _ _ _ _ _ _ _ core.counts _ n (λ k. reset_lane k code) refl (λ k at. ends_as_reset code k))
      (due_reset core.due _ n (λ k. reset_lane k code) t refl (reset_keeps code) (reset_same code) (λ none. set_at, λ some. absurd (true≢false (sym (not_reset (or_none (lookup c.outbox.sends n)) allowed) ∙ some))))
    where
      not_reset : (l : SendLane) → answer_of (reset_refusal l) ≡ Ok tt → is_none l.was_reset ≡ true
      not_reset l allowed = grind (arith, nat_tests)

  pub rest_told_to_stop : (answers : Bool) (n code : ℕ) (was : Option Reset) (o : Outgoing) (t : Tables (List ℕ)) → was ≡ (or_none (lookup c.outbox.sends n)).was_reset → o ≡ on_lane n (λ k. stop_taken answers k code) c.outbox → IsMarkedIf (is_none was) (row_of kinds.ResetStream) n c.due t → IsAtRest (record c { outbox = o; due = t })
  rest_told_to_stop answers n code was o t reset is marks =
      on_half n (λ k. stop_taken answers k code) o t is (stop_sends answers code) (fit_sent _ _ _ _ _ _ _ core.counts _ n (λ k. stop_taken answers k code) refl (λ k at. ends_as_stopped answers code k))
      (due_reset core.due _ n (λ k. stop_taken answers k code) t refl (stop_taken_keeps answers code) (stop_taken_same answers code) (subst (λ w. IsMarkedIf (is_none w) (row_of kinds.ResetStream) n c.due t) reset marks))

  -- Receiving halves

  pub rest_recvs : (now : Tables RecvLane) (e : ByDir ℕ) (t : Tables (List ℕ)) → KeepsCredit c.limits.role c.limits.settings (present_of c.limits) now c.limits.granted
      → CountsFit c.limits.role c.limits.settings now c.outbox.sends e c.limits.granted_streams.bidi c.limits.granted_streams.uni → AreDue c.limits.role c.limits.settings now c.outbox.sends (packets_of c.outbox) t → IsAtRest (record c { recvs = now; due = t; ended = e })
  rest_recvs now e t sound counts due =
      record { core = record { sound = sound; fits = core.fits; credit = core.credit; counts = counts; due = due; own = core.own }; idle = h.idle }

  -- a stream is read, and counted anew
  pub rest_read : (n size : ℕ) (now : Tables RecvLane) (e : ByDir ℕ) (was is : Bool) → now ≡ updated c.recvs n (λ l. after_read l size) (lookup c.recvs n) → was ≡ is_over c.limits.role c.recvs c.outbox.sends n → is ≡ is_over c.limits.role now c.outbox.sends n
      → e ≡ recounted n was is c.ended → IsAtRest (record c { recvs = now; ended = e })
  rest_read n size now e was is after before behind to =
      rest_recvs now e c.due (rw after (sound_read n size (end_with c.limits.role c.limits.settings (present_of c.limits) c.recvs c.limits.granted) core.sound))
      (fit_read _ _ _ _ _ _ _ core.counts _ _ core.sound now n size e was is after before behind to)
      (due_recv core.due now n (λ l. after_read l size) after (λ l there. read_calmer l size))

  pub rest_stopped : (n code : ℕ) (was : Option ℕ) (now : Tables RecvLane) (t : Tables (List ℕ)) → was ≡ stop_to_tell (lookup c.recvs n) → now ≡ updated c.recvs n (λ k. stop k code) (lookup c.recvs n) → IsMarkedIf (is_none was) (row_of kinds.StopSending) n c.due t → IsAtRest (record c { recvs = now; due = t })
  rest_stopped n code was now t told after marks =
      rest_recvs now c.ended t (rw after (sound_stop n code (end_with c.limits.role c.limits.settings (present_of c.limits) c.recvs c.limits.granted) core.sound))
      (fit_stopped _ _ _ _ _ _ _ core.counts now n code after) (due_stopped core.due now n code t after (subst (λ w. IsMarkedIf (is_none w) (row_of kinds.StopSending) n c.due t) told marks))

  -- a stream has another window
  pub rest_windowed : (n w : ℕ) (now : Tables RecvLane) → 1 ≤ w → w ≤ MAX_WINDOW → now ≡ updated c.recvs n (λ k. set_window k w) (lookup c.recvs n)
      → (t : Tables (List ℕ)) → IsMarkedIf (not (is_same (recv_limit c.recvs n) (recv_limit now n))) (row_of kinds.MaxStreamData) n c.due t → IsAtRest (record c { recvs = now; due = t })
  rest_windowed n w now some small after t marks =
      rest_recvs now c.ended t (rw after (sound_window n w (end_with c.limits.role c.limits.settings (present_of c.limits) c.recvs c.limits.granted) some small core.sound))
      (fit_windowed _ _ _ _ _ _ _ core.counts now n w after) (due_windowed core.due now n w t after marks)

  -- a stream is stopped and forgotten, and counted anew
  pub rest_forgotten : (n code : ℕ) (told : Option ℕ) (now : Tables RecvLane) (t : Tables (List ℕ)) (e : ByDir ℕ) (was is : Bool) → told ≡ stop_to_tell (lookup c.recvs n) → now ≡ updated c.recvs n (λ k. stop_and_discard k code) (lookup c.recvs n) → IsMarkedIf (is_none told) (row_of kinds.StopSending) n c.due t
      → was ≡ is_over c.limits.role c.recvs c.outbox.sends n → is ≡ is_over c.limits.role now c.outbox.sends n → e ≡ recounted n was is c.ended → IsAtRest (record c { recvs = now; due = t; ended = e })
  rest_forgotten n code told now t e was is same after marks before behind to =
      rest_recvs now e t (rw after (sound_forget n code (end_with c.limits.role c.limits.settings (present_of c.limits) c.recvs c.limits.granted) core.sound))
      (fit_forgotten _ _ _ _ _ _ _ core.counts now n code e was is after before behind to) (due_discarded core.due now n code t after (subst (λ w. IsMarkedIf (is_none w) (row_of kinds.StopSending) n c.due t) same marks))

  -- Streams open

  pub rest_opened : (n w : ℕ) (share : Share) (limit buffer : ℕ) (no_send no_recv : Bool) (o : Outgoing) (now : Tables RecvLane) → o ≡ with_sends (cond no_send c.outbox.sends (open_to c.outbox.sends n (λ m. new_send_lane m limit buffer))) c.outbox
      → now ≡ cond no_recv c.recvs (open_to c.recvs n (λ m. new_recv_lane w share)) → w ≡ first_window_by c.limits.role c.limits.settings n → ((k : ℕ) → type_of k ≡ type_of n → k ≤ n → HasPlace c.due k) → IsAtRest (record c { outbox = o; recvs = now })
  rest_opened n w share limit buffer no_send no_recv o now is after window placed =
      let sum = sum_open c.outbox.sends n limit buffer no_send in
      let credit = core.credit in
      subst (λ (x : Outgoing). IsAtRest (record c { outbox = x; recvs = now })) (sym is)
      (record {
        core = record {
          sound = sound_opened c.limits.role c.limits.settings (present_of c.limits) c.recvs now c.limits.granted n w share no_recv core.sound window after;
          fits = core.fits;
          credit = omega (arith, sum, credit);
          counts = fit_opened _ _ _ _ _ _ _ core.counts now _ n w share limit buffer no_send no_recv refl after;
          due = due_opened core.due n limit buffer w share no_recv no_send now _ placed window after refl;
          own = core.own;
        };
        idle = h.idle;
      })

  -- there are places for marks, and no stream opened
  pub rest_placed : (t : Tables (List ℕ)) → HasMorePlaces c.due t → IsAtRest (record c { due = t })
  rest_placed t wide = record { core = core_marks c core t (due_placed core.due t wide); idle = h.idle }

  -- Limits

  pub rest_known : (most : ℕ) (streams : ByDir ℕ) → c.limits.known_data ≤ most → c.limits.known_streams.bidi ≤ streams.bidi → c.limits.known_streams.uni ≤ streams.uni → most ≤ MAX_VARINT → streams.bidi ≤ 2 ^ 60 → streams.uni ≤ 2 ^ 60 → IsAtRest (record c { limits = record c.limits { known_data = most; known_streams = streams } })
  rest_known most streams more bidi_more uni_more small bidi uni =
      let credit = core.credit in
      let fits = core.fits in
      record {
        core = record {
          sound = core.sound;
          fits = record { granted = fits.granted; granted_bidi = fits.granted_bidi; granted_uni = fits.granted_uni; known = small; bidi = bidi; uni = uni };
          credit = omega (arith, credit, more);
          counts = core.counts;
          due = core.due;
          own = own_risen c.limits (packets_of c.outbox) c.own core.own _ (omega arith) (omega arith) (omega arith) more bidi_more uni_more;
        };
        idle = h.idle;
      }

  -- Pieces leave their packets

  -- the first piece of a packet is acknowledged, and the stream counted anew
  pub rest_acked : (late : Bool) (k : ℕ) (p : Piece) (o : Outgoing) (e : ByDir ℕ) → first_piece (fmap.get (held_out late c.outbox) k) ≡ Some p → o ≡ first_acked_out (acked_at late k p) c.outbox
      → AreAllCounted c.limits.role c.recvs o.sends e → IsIdle o → IsAtRest (record c { outbox = o; ended = e })
  rest_acked late k p o e first is counted idle =
      let sum = ap (λ (x : Outgoing). sent_sum x.sends) is ∙ sum_piece p (without_piece_out late k c.outbox) in
      let credit = core.credit in
      record { core = core_out c core o c.due c.own e (omega (arith, sum, credit)) counted (due_acked c.outbox o core.due k p late first is) (own_acked k p c.limits c.outbox o c.own core.own late first is); idle = idle }

  -- a piece that changes no half is acknowledged
  pub rest_acked_by : (late : Bool) (k : ℕ) (p : Piece) (o : Outgoing) → first_piece (fmap.get (held_out late c.outbox) k) ≡ Some p → half_of p ≡ None → o ≡ first_acked_out (acked_at late k p) c.outbox → IsIdle o → IsAtRest (record c { outbox = o })
  rest_acked_by late k p o first none ok idle =
      rest_acked late k p o c.ended first ok (subst (λ (t : Tables SendLane). AreAllCounted c.limits.role c.recvs t c.ended) (sym (ap (λ (x : Outgoing). x.sends) ok ∙ sends_stay late k p c.outbox none)) core.counts.counted) idle

  -- the first piece of a packet is lost
  pub rest_lost : (k : ℕ) (p : Piece) (o : Outgoing) → first_piece (fmap.get c.outbox.outstanding k) ≡ Some p → o ≡ first_lost_out k p c.outbox → IsIdle o
      → AreApartIn c.outbox.outstanding → (t : Tables (List ℕ)) → IsDueWithout p c.recvs o.sends c.due t → IsAtRest (record c { outbox = o; due = t; own = own_left p c.own })
  rest_lost k p o first is idle apart t marks =
      let sends = sym (ap (λ (x : Outgoing). x.sends) is) in
      record {
        core = core_out c core o t (own_left p c.own) c.ended (subst (λ (x : Tables SendLane). sent_sum x ≤ c.limits.known_data) sends core.credit) (subst (λ (x : Tables SendLane). AreAllCounted c.limits.role c.recvs x c.ended) sends core.counts.counted)
            (due_lost c.outbox o core.due k p t apart first is marks) (own_lost k p c.limits c.outbox o c.own core.own apart first is);
        idle = idle;
      }

-- A packet is filled

module _ (c : Core) (h : IsCore c) where
  -- some end with these tables
  abbrev there : End
  there = end_of c (new_end c.limits.role c.limits.settings c.limits.tuning (record { max_data = 0; bidi_local = 0; bidi_remote = 0; uni = 0; streams_bidi = 0; streams_uni = 0 }))

  -- a frame is put
  core_put : (f : Seen) (o : Outgoing) → end_by c.limits c.recvs o there ≡ frame_put f there → sent_sum o.sends ≤ c.limits.known_data → (t : Tables (List ℕ)) → AreDue c.limits.role c.limits.settings c.recvs o.sends (packets_of o) t → (ys : Kept) → AreOwn c.limits (packets_of o) ys → IsCore (record c { outbox = o; due = t; own = ys })
  core_put f o is credit t due ys values = core_out c h o t ys c.ended credit (subst (λ (x : End). AreAllCounted c.limits.role x.recvs x.sends c.ended) (sym is) (put_counted c.limits.role there f c.ended h.counts.counted)) due values

  -- an item went in, or didn't fit
  pub core_item : (i : Item) (before : List ℕ) (len : ℕ) (after : List ℕ) (end : ℕ) (o : Outgoing) (full : Bool) (t : Tables (List ℕ)) → PutsItem i before len c.outbox after end o full → (e : End) → IsCurrent (end_of c e) i → (full ≡ true → t ≡ c.due) → (full ≡ false → IsItemMarked i false c.due t)
      → IsCore (record c { outbox = o; due = t; own = if full then c.own else own_with i c.own })
  core_item i before len after end o true t (same, text, out, long) e current stays marks = rw (stays refl) (subst (λ (x : Outgoing). IsCore (record c { outbox = x })) (sym out) h)
  core_item i before len after end o false t (text, out) e current stays marks =
      let sum = sum_put i c.outbox in
      let credit = h.credit in
      subst (λ (x : Outgoing). IsCore (record c { outbox = x; due = t; own = own_with i c.own })) (sym out)
      (core_put (Control i) (item_put_out i c.outbox) (end_put c.limits c.recvs c.outbox there i) (omega (arith, sum, credit))
      t (due_put c.limits c.recvs c.outbox e c.due t h.due i current (marks refl)) (own_with i c.own) (own_put c.limits (packets_of c.outbox) c.own h.own c.outbox.next i (λ own. own_present c.limits c.recvs c.outbox e i own current)))

  -- a chunk went in, and where it reached the stream's limit the stream has a mark
  pub core_chunk : (n : ℕ) (chunk : Chunk) (bytes : List ℕ) (o : Outgoing) (half : Sending) (t : Tables (List ℕ)) (free : Bool) → o ≡ chunk_put n chunk c.outbox → length bytes ≡ chunk.len → sent_sum (chunk_put n chunk c.outbox).sends ≤ c.limits.known_data → HasSending c.outbox n half
      → (free ≡ true → IsFree c.outbox n chunk) → (free ≡ false → IsShort c.outbox n) → (free ≡ true → t ≡ c.due) → (free ≡ false → IsNotedBlock (IsBlockedAt (lookup o.sends n)) n c.due t) → IsCore (record c { outbox = o; due = t })
  core_chunk n chunk bytes o half t free is count credit has at_free at_short same noted =
      let put = chunk_put n chunk c.outbox in
      subst (λ (x : Outgoing). IsCore (record c { outbox = x; due = t })) (sym is)
      (core_put (Stream n chunk.offset bytes chunk.fin) put (end_chunk c.limits c.recvs c.outbox there n chunk bytes count) credit t
      (due_sent (due_chunk h.due c.outbox.next n chunk) _ n chunk free t refl (λ l at. (let lane = same_Some half.lane l (sym has.lane ∙ at) in (
        λ on. subst (λ (x : SendLane). (x.written ≤ x.limit) ⊎ ((sent_lane x chunk).sent_end ≡ x.sent_end)) lane (at_free on half has),
        λ off. subst (λ (x : SendLane). x.sent_end < x.limit) lane (at_short off half has),
      ))) same (λ off. subst (λ (x : Outgoing). IsNotedBlock (IsBlockedAt (lookup x.sends n)) n c.due t) is (noted off)))
      c.own (own_chunk c.limits (packets_of c.outbox) c.own h.own c.outbox.next n chunk))

  -- a half of which nothing is due has a mark no more
  pub core_cleared : (kind : Kind) (n : ℕ) (t : Tables (List ℕ)) → IsFlaggedAt c.due (row_of kind) n false t → ((e : End) → IsIdleAt (end_of c e) (slot_at kind n)) → IsCore (record c { due = t })
  core_cleared kind n t set_at idle = core_marks c h t (due_cleared c.limits c.recvs c.outbox there c.due h.due n kind (idle there) t set_at)

pub fills_same : (c : Core) (out : List ℕ) (len own : ℕ) → IsFilling c out len → FillsOn c out len c out len own
fills_same c out len own h =
    record { filling = h; memory = λ left. memory_less c (length out) len left (left - own) (omega arith); streams = streams_same c; ended = refl; rest = rest_same len out; room = refl }

-- the packets and the marks alone moved
pub fills_outbox : (c : Core) (o : Outgoing) (t : Tables (List ℕ)) (values : Kept) (xs ys : List ℕ) (i j own : ℕ) → IsCore (record c { outbox = o; due = t; own = values }) → j ≤ length ys
    → ((left : ℕ) → HasMemory c (length xs) i left → HasMemory (record c { outbox = o; due = t; own = values }) (length ys) j (left - own)) → LeavesRest i xs j ys → length ys ≡ length xs → FillsOn c xs i (record c { outbox = o; due = t; own = values }) ys j own
fills_outbox c o t values xs ys i j own core within memory rest room = record { filling = record { core = core; within = within }; memory = memory; streams = record { limits = refl; recvs = refl }; ended = refl; rest = rest; room = room }

pub fills_on : (a b c : Core) (xs ys zs : List ℕ) (i j k own more : ℕ) → FillsOn a xs i b ys j own → FillsOn b ys j c zs k more → FillsOn a xs i c zs k (own + more)
fills_on a b c xs ys zs i j k own more f g =
    record {
      filling = g.filling;
      memory = λ left h. memory_less c (length zs) k (left - own - more) (left - (own + more)) (omega arith) (g.memory (left - own) (f.memory left h));
      streams = streams_on a b c f.streams g.streams;
      ended = g.ended ∙ f.ended;
      rest = rest_on i j k xs ys zs f.rest g.rest;
      room = g.room ∙ f.room;
    }

-- what memory is left
pub memory_step : (a b : Core) (xs ys : List ℕ) (i j own left : ℕ) → FillsOn a xs i b ys j own → HasMemory a (length xs) i (own + left) → HasMemory b (length ys) j left
memory_step a b xs ys i j own left f h = memory_less b (length ys) j ((own + left) - own) left (omega arith) (f.memory (own + left) h)

pub memory_six : (c : Core) (room len left : ℕ) → left ≤ 6 → HasMemory c room len 6 → HasMemory c room len left
memory_six c room len left le h = memory_less c room len 6 left le h

-- marks alone moved
pub fills_marks : (a b : Core) (t : Tables (List ℕ)) (out : List ℕ) (len : ℕ) → IsFilling a out len → IsCore b → b ≡ record a { due = t } → FillsOn a out len b out len 0
fills_marks a b t out len h core is =
    record {
      filling = record { core = core; within = h.within };
      memory = λ left m. subst (λ (x : Core). HasMemory x (length out) len (left - 0)) (sym is) (memory_marks a t a.own (length out) len (left - 0) (memory_less a (length out) len left (left - 0) (omega arith) m));
      streams = record { limits = ap (λ (x : Core). x.limits) is; recvs = ap (λ (x : Core). x.recvs) is };
      ended = ap (λ (x : Core). x.ended) is;
      rest = rest_same len out;
      room = refl;
    }

-- no more are taken than may be
pub fills_within : (a b : Core) (xs ys : List ℕ) (i j own most : ℕ) → own ≤ most → FillsOn a xs i b ys j own → FillsOn a xs i b ys j most
fills_within a b xs ys i j own most le f =
    record {
      filling = f.filling;
      memory = λ left h. memory_less b (length ys) j (left - own) (left - most) (omega (arith, le)) (f.memory left h);
      streams = f.streams;
      ended = f.ended;
      rest = f.rest;
      room = f.room;
    }

-- What holds of an end between calls

module _ (c : Core) (peer : PeerLimits) (done : NumberSet) (is due : Bool) (closed : Option Closed) (k : IsKept c peer done is due closed) where
  -- where nothing moved each limit is still the next one
  pub kept_next : (now : Core) (same : Bool) → IsAtRest now → AreNextWhere same now.limits.settings now.limits.tuning (present_of now.limits) now.recvs now.ended now.limits.granted now.limits.granted_streams.bidi now.limits.granted_streams.uni
      → IsKept now peer done same due closed
  kept_next now same rest next = record { rest = rest; peer_fits = k.peer_fits; closing_fits = k.closing_fits; few = k.few; acks = k.acks; settled = next }

  -- packets and sending halves move, and marks
  pub kept_outbox : (o : Outgoing) (t : Tables (List ℕ)) → IsAtRest (record c { outbox = o; due = t }) → IsKept (record c { outbox = o; due = t }) peer done is due closed
  kept_outbox o t rest = kept_next _ is rest k.settled

  -- the limits, the receiving halves and the counts stay
  pub kept_streams : (now : Core) → IsAtRest now → KeepsStreams c now → now.ended ≡ c.ended → IsKept now peer done is due closed
  kept_streams now rest streams ended = kept_next now is rest (rw (streams.limits, streams.recvs, ended) k.settled)

  -- the ACK went out
  pub kept_no_ack : IsKept c peer done is false closed
  kept_no_ack = record { rest = k.rest; peer_fits = k.peer_fits; closing_fits = k.closing_fits; few = k.few; acks = λ due. absurd (true≢false (sym due)); settled = k.settled }

  -- and the counts too, if they are the same
  pub kept_recounted : (now : Core) (same : Bool) → IsAtRest now → KeepsStreams c now → (same ≡ true → now.ended ≡ c.ended) → IsKept now peer done (is && same) due closed
  kept_recounted now same rest streams told = kept_next now (is && same) rest (λ on. (let parts = and_parts is same on in rw (streams.limits, streams.recvs, told parts.1) (k.settled parts.0)))

  -- more may have moved, which is noted
  pub kept_moved : (now : Core) → IsAtRest now → IsKept now peer done false due closed
  kept_moved now rest = kept_next now false rest (λ on. absurd (true≢false (sym on)))

  -- the peer allows more
  pub kept_known : (most : ℕ) (streams : ByDir ℕ) → c.limits.known_data ≤ most → c.limits.known_streams.bidi ≤ streams.bidi → c.limits.known_streams.uni ≤ streams.uni → most ≤ MAX_VARINT → streams.bidi ≤ 2 ^ 60 → streams.uni ≤ 2 ^ 60 → IsKept (record c { limits = record c.limits { known_data = most; known_streams = streams } }) peer done is due closed
  kept_known most streams more bidi_more uni_more small bidi uni = kept_next _ is (rest_known c k.rest most streams more bidi_more uni_more small bidi uni) k.settled

-- What is set anew keeps what holds of an end

in_range : (b : Bool) → b ≡ true → first_refusal (refuse_if (not b) OutOfRange) None ≡ None
in_range b h = grind (arith, nat_tests)

limit_small : (present granted paid window : ℕ) → granted ≤ MAX_VARINT → limit_with present granted paid window ≤ MAX_VARINT
limit_small present granted paid window h = grind (arith, nat_tests)

limit_rises : (present granted paid window : ℕ) → granted ≤ limit_with present granted paid window
limit_rises present granted paid window = grind (arith, nat_tests)

count_rises : (present granted lifetime over grant : ℕ) → granted ≤ count_with present granted lifetime over grant
count_rises present granted lifetime over grant = grind (arith, nat_tests)

few_bidi : (s : Settings) → are_in_wide_range s ≡ true → s.lifetime_bidi ≤ MAX_LIFETIME
few_bidi s h = grind (arith, nat_tests)

few_uni : (s : Settings) → are_in_wide_range s ≡ true → s.lifetime_uni ≤ MAX_LIFETIME
few_uni s h = grind (arith, nat_tests)

module _ (c : Core) (peer : PeerLimits) (done : NumberSet) (is_settled due : Bool) (closed : Option Closed) (k : IsKept c peer done is_settled due closed) where
  abbrev Keeps : Limits → Type 0
  Keeps l = IsKept (record c { limits = l }) peer done false due closed

  inside : IsCore c
  inside = k.rest.core

  keeps : (l : Limits) → KeepsCredit l.role l.settings (present_of l) c.recvs l.granted → LimitsFit l → sent_sum c.outbox.sends ≤ l.known_data → CountsFit l.role l.settings c.recvs c.outbox.sends c.ended l.granted_streams.bidi l.granted_streams.uni
      → AreDue l.role l.settings c.recvs c.outbox.sends (packets_of c.outbox) c.due → AreOwn l (packets_of c.outbox) c.own → Keeps l
  keeps l sound fits credit counts due own = grind (arith, nat_tests)

  -- the count at which an open was blocked
  pub kept_wanted : (wanted : ByDir (Option ℕ)) → IsKept (record c { limits = record c.limits { wanted_streams = wanted } }) peer done is_settled due closed
  kept_wanted wanted =
      record {
        rest = record {
          core = record { sound = inside.sound; fits = record { granted = inside.fits.granted; granted_bidi = inside.fits.granted_bidi; granted_uni = inside.fits.granted_uni; known = inside.fits.known; bidi = inside.fits.bidi; uni = inside.fits.uni }; credit = inside.credit; counts = inside.counts; due = inside.due; own = own_wanted c.limits (packets_of c.outbox) c.own inside.own wanted };
          idle = k.rest.idle;
        };
        peer_fits = k.peer_fits;
        closing_fits = k.closing_fits;
        few = k.few;
        acks = k.acks;
        settled = k.settled;
      }

  -- the connection's window
  pub kept_window : (window paid : ℕ) (l : Limits) → is_settable (ConnWindow window) ≡ true → paid ≡ total taken c.recvs → l ≡ with_window window paid c.limits → Keeps l
  kept_window window paid l fits all is =
      subst Keeps (sym is) (subst (λ t. Keeps (with_window window t c.limits)) (sym all)
      (keeps (with_window window (total taken c.recvs) c.limits) (sound_set (ConnWindow window) (end_with c.limits.role c.limits.settings (present_of c.limits) c.recvs c.limits.granted) (in_range (is_settable (ConnWindow window)) fits) inside.sound)
      (record { granted = limit_small c.limits.conn_window c.limits.granted (total taken c.recvs) window inside.fits.granted; granted_bidi = inside.fits.granted_bidi; granted_uni = inside.fits.granted_uni; known = inside.fits.known; bidi = inside.fits.bidi; uni = inside.fits.uni })
      inside.credit inside.counts inside.due
      (own_risen c.limits (packets_of c.outbox) c.own inside.own _ (limit_rises c.limits.conn_window c.limits.granted (total taken c.recvs) window) (omega arith) (omega arith) (omega arith) (omega arith) (omega arith))))

  -- a direction's grant
  pub kept_grant : (dir : Dir) (streams over : ℕ) (l : Limits) → is_settable (Grant dir streams) ≡ true → l ≡ with_grant dir streams over c.limits → Keeps l
  kept_grant dir streams over l fits is = subst Keeps (sym is) (go dir fits)
    where
      go : (d : Dir) → is_settable (Grant d streams) ≡ true → Keeps (with_grant d streams over c.limits)
      go Bidi fits =
          let within = grant_within c.limits.grants.bidi c.limits.granted_streams.bidi c.limits.settings.lifetime_bidi over streams inside.counts.bidi in
          keeps (with_grant Bidi streams over c.limits) (sound_set (Grant Bidi streams) (end_with c.limits.role c.limits.settings (present_of c.limits) c.recvs c.limits.granted) (in_range (is_settable (Grant Bidi streams)) fits) inside.sound)
          (record { granted = inside.fits.granted; granted_bidi = omega (arith, within, few_bidi c.limits.settings inside.sound.settings); granted_uni = inside.fits.granted_uni; known = inside.fits.known; bidi = inside.fits.bidi; uni = inside.fits.uni })
          inside.credit (record { counted = inside.counts.counted; told = inside.counts.told; bidi = within; uni = inside.counts.uni }) inside.due
          (own_risen c.limits (packets_of c.outbox) c.own inside.own _ (omega arith) (count_rises c.limits.grants.bidi c.limits.granted_streams.bidi c.limits.settings.lifetime_bidi over streams) (omega arith) (omega arith) (omega arith) (omega arith))
      go Uni fits =
          let within = grant_within c.limits.grants.uni c.limits.granted_streams.uni c.limits.settings.lifetime_uni over streams inside.counts.uni in
          keeps (with_grant Uni streams over c.limits) (sound_set (Grant Uni streams) (end_with c.limits.role c.limits.settings (present_of c.limits) c.recvs c.limits.granted) (in_range (is_settable (Grant Uni streams)) fits) inside.sound)
          (record { granted = inside.fits.granted; granted_bidi = inside.fits.granted_bidi; granted_uni = omega (arith, within, few_uni c.limits.settings inside.sound.settings); known = inside.fits.known; bidi = inside.fits.bidi; uni = inside.fits.uni })
          inside.credit (record { counted = inside.counts.counted; told = inside.counts.told; bidi = inside.counts.bidi; uni = within }) inside.due
          (own_risen c.limits (packets_of c.outbox) c.own inside.own _ (omega arith) (omega arith) (count_rises c.limits.grants.uni c.limits.granted_streams.uni c.limits.settings.lifetime_uni over streams) (omega arith) (omega arith) (omega arith))

-- ---- A frame on a stream of which nothing was told moves no limit and no count of streams.

raised_still : (t : Tables RecvLane) (n : ℕ) (l y : RecvLane) → lookup t n ≡ Some l → each raise t ≡ t → ((raise l).limit ≡ l.limit → (raise y).limit ≡ y.limit) → each raise (update t n y) ≡ update t n y
raised_still t n l y at all keep = grind (arith, nat_tests, lookup_each, each_update)

-- one lane

plain_taken : (l : RecvLane) (offset : ℕ) (bytes : List ℕ) (fin : Bool) → IsPlainLane l → taken (take_stream l offset bytes fin) ≡ taken l
plain_taken l offset bytes fin p = grind (arith, nat_tests)

plain_ended : (l : RecvLane) (offset : ℕ) (bytes : List ℕ) (fin : Bool) → IsPlainLane l → recv_ended (take_stream l offset bytes fin) ≡ recv_ended l
plain_ended l offset bytes fin p = grind (arith, nat_tests)

-- a frame on it

module _ (recvs now : Tables RecvLane) (n offset : ℕ) (bytes : List ℕ) (fin : Bool) (l : RecvLane) (at : lookup recvs n ≡ Some l) (p : IsPlainLane l) (after : now ≡ updated recvs n (λ x. take_stream x offset bytes fin) (lookup recvs n)) where
  plain_there : now ≡ update recvs n (take_stream l offset bytes fin)
  plain_there = after ∙ ap (updated recvs n (λ x. take_stream x offset bytes fin)) at

  pub plain_next : (s : Settings) (t : Tuning) (pr : Present) (e : ByDir ℕ) (is : Bool) (g b u : ℕ) → AreNextWhere is s t pr recvs e g b u → AreNextWhere is s t pr now e g b u
  plain_next s t pr e is g b u next on =
      let was = next on in
      let moved = total_update taken recvs n l (take_stream l offset bytes fin) at in
      let stays = plain_taken l offset bytes fin p in
      let same : total taken now ≡ total taken recvs = ap (total taken) plain_there ∙ omega (arith, moved, stays) in
      record {
        streams = subst (λ (x : Tables RecvLane). each raise x ≡ x) (sym plain_there) (raised_still recvs n l _ at was.streams (stream_settled l offset bytes fin stays));
        connection = ap (λ k. next_limit g k pr.conn_window t.credit_step) same ∙ was.connection;
        bidi = was.bidi;
        uni = was.uni;
      }

  over_plain : (role : Role) (sends : Tables SendLane) → is_over role recvs sends n ≡ is_over role now sends n
  over_plain role sends = grind (arith, nat_tests, plain_ended, lookup_same)

  pub fit_plain : (role : Role) (s : Settings) (sends : Tables SendLane) (e : ByDir ℕ) (b u : ℕ) (h : CountsFit role s recvs sends e b u) (pr : Present) (g : ℕ) → KeepsCredit role s pr recvs g → IsOk (check_stream (or_new (lookup recvs n) 0 Half) offset (length bytes) fin) → CountsFit role s now sends e b u
  fit_plain role s sends e b u h pr g k passed =
      let was = is_over role recvs sends n in
      fit_streamed role s recvs sends e b u h pr g k now n offset bytes fin e was was passed after refl (over_plain role sends) (sym (nothing_recounted n was e))

-- Which stream is one

open_below : {X : Type 0} (t : Tables X) (n k i count : ℕ) → k ≡ n % 4 → i ≡ n / 4 → count ≡ length (table t k) → i < count → is_some (lookup t n) ≡ true
unfolding lookup
open_below t n k i count kind place len lt =
    let all = len ∙ ap (λ (j : ℕ). length (table t j)) kind in
    let below : n / 4 < count = omega (arith, lt, place) in
    sym (some_tested (table t (n % 4)) (n / 4) count all) ∙ grind (arith, nat_tests)

module _ (e : End) (n : ℕ) (l : RecvLane) (at : recv_lane e n ≡ Some l) (p : IsPlainLane l) where
  open_with : (is_uni n || is_some (send_lane e n)) ≡ true → IsPlain e n
  open_with both = grind (arith, nat_tests, open_stays, same_Some)

  pub plain_uni : (k : ℕ) → k ≡ n % 4 → 2 ≤ k → IsPlain e n
  plain_uni k kind le =
      let up : is_uni n ≡ true = grind (arith, nat_tests, kind, le) in
      open_with (ap (λ b. b || is_some (send_lane e n)) up)

  pub plain_bidi : (k i count : ℕ) → k ≡ n % 4 → i ≡ n / 4 → count ≡ length (table e.sends k) → i < count → IsPlain e n
  plain_bidi k i count kind place len lt = open_with (go (is_uni n) (open_below e.sends n k i count kind place len lt))
    where
      go : (b : Bool) → is_some (send_lane e n) ≡ true → (b || is_some (send_lane e n)) ≡ true
      go true is = refl
      go false is = is
