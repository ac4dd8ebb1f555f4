-- Which streams a frame of the peer opens.
use Rattle.std.specs.FinSet as set
use Rattle.std.specs.FinMap as fmap
use Rattle.std.proofs.lemmas.Bool.Decides.{nat_tests}
use Rattle.std.proofs.Common.{arith, ◌≡◌, ℕ, true, false, ◌||◌, Option, None, is_some, inl, inr, refl, sym, ap, ◌∙◌, subst, nat_cmp, ◌<◌, ◌%◌, Bool, List, [], length, take, Some, Result, Ok, Err, unwrap_or, ◌+◌, ◌*◌, ◌/◌, get_or, cond, zero, suc, ◌-◌, ◌≤◌, ◌&&◌, not, ◌∷◌, drop, slice_set}
use Rattle.std.proofs.lemmas.Bool.{both_ways, or_parts, true_from_ne_false, false_from_ne_true, cond_both, or_left}
use Rattle.qs_machine.specs.Ends.{End, is_own, is_uni, send_lane, recv_lane, opened_by_peer, Records, AckedItems, LostPackets, lost_with, lost_less}
use Rattle.qs_machine.specs.Memory.{IsYetToOpen, ChunkMayRunOut, PieceMayRunOut}
use Rattle.qs_machine.proofs.Again.{opened_back}
use Rattle.qs_ranges.specs.Numbers.{NumberSet, same_numbers, numbers, missing_from, contains-with_range, contains-without_range, is_within}
use Rattle.qs_recv.proofs.LawfulLaws.{same_tests}
use Rattle.qs_send.specs.declared.piece.Piece.TheVariants.{Data, Told}
use Rattle.qs_send.specs.Lane.{SendLane, Sending, new_sending, new_lane, accepted, refusal, reset_refusal, answer_of, write_lane, finish_lane, after_write, after_finish, after_reset, after_stopped, after_asked, after_stop, stop_taken, after_allow, after_buffer, after_acked, after_lost, after_reset_acked, lost_due, state, acked_lane, chunk_offsets, unacked_from}
use Rattle.qs_send.specs.Sound.{IsLawful}
use Rattle.qs_machine.specs.Due.{IsDue, IsEndDue}
use Rattle.qs_machine.specs.Outgoing.{IsCarried, IsTied, Outgoing, with_sends, on_lane, sent_sum, lanes_of, with_pending, AreOfOpen, AreTied, IsOutbox, HasSending, AreBelow, AreSent, IsSentPiece, IsOfReset, IsIdle, first_piece, acked_at, piece_acked_out, first_acked_out, first_lost_out, halves_acked, items_acked, halves_lost}
use Rattle.std.specs.Result.{OnOk, OnErr, IfOk, IfErr}
use Rattle.qs_send.specs.declared.parts.SendFault.{SendFault}
use Rattle.qs_send.specs.declared.parts.SendFault.TheVariants.{NoMemory as SendNoMemory}
use Rattle.qs_send.specs.declared.piece.Piece.{Piece}
use Rattle.qs_machine.specs.Tables.{Tables, table, with_table, lookup, update, updated, open_to, no_streams, total, widened}
use Rattle.qs_machine.specs.Sums.{or_none, or_no_sending, tables_of}
use Rattle.qs_machine.proofs.TablesAfter.{updated_back, update_back}
use Rattle.qs_machine.proofs.TableLaws.{total_update, total_open, lookup_same, table_same}
use Rattle.qs_machine.proofs.Carried.{some_is, IsShorter, shortened_is, first_carried, get_new}
use Rattle.qs_machine.proofs.Tied.{tied_write, tied_finish, tied_reset, tied_stopped, tied_told_stop, tied_allow, tied_buffer, tied_flight, tied_late, tied_reset_acked}
use Rattle.qs_machine.proofs.LaneTables.{lookup_lanes, lane_there, lanes_updated, lanes_opened, lanes_closed, update_lanes, half_of}
use Rattle.qs_machine.proofs.Ties.{ties_none, ties_updated, ties_opened, ties_closed, ties_acked, ties_lost, ties_item_gone}
use Rattle.std.proofs.Math.ListN.{set}
use Rattle.std.proofs.lemmas.List.{set-get_or, length-map, drop-drop}
use Rattle.qs_machine.proofs.TableEdits.{on_ok, opened_is, table_is, with_is}
use Rattle.qs_ranges.specs.declared.NoMemory.{NoMemory}
use Rattle.qs_send.specs.declared.parts.Chunk.{Chunk}
use Rattle.qs_send.specs.declared.piece.Item.TheVariants.{ResetStream}
use Rattle.qs_send.specs.declared.parts.SendState.{SendState}
use Rattle.qs_send.specs.declared.parts.SendState.TheVariants.{ResetSent}
use Rattle.qs_send.specs.LostRecords.{without_number}
use Rattle.qs_machine.specs.FrameStep.{without_first as frames_without_first}
use Rattle.qs_conn.specs.Runs.{held_out}
use Rattle.qs_ranges.proofs.Sets.{missing_from-more}
use Rattle.qs_send.specs.Chunks.{WasSent}
use Rattle.qs_send.specs.Writable.{is_writable}
use Rattle.qs_send.proofs.Steps.{write_nothing}
use Rattle.qs_send.specs.Records.{without_first}
use Rattle.qs_send.proofs.Outstanding.{get_other-without_first}
use Rattle.qs_conn.specs.Rows.{joined, IsAlone, Meets, IsRow, IsRowAt, without_row, row_acked, first_len, AcksDown, AcksRow, MayRunOutAt}

pub own_stays : (e : End) (n : ℕ) → is_own e n ≡ true → opened_by_peer n e ≡ e
own_stays e n own = opened_back n e (λ other. absurd (both_ways (is_own e n) other own))

pub none_is : {A : Type 0} (o : Option A) → is_some o ≡ false → o ≡ None
none_is o h = grind (arith, nat_tests)

-- the halves that the stream has here are open
pub open_stays : (e : End) (n : ℕ) → is_some (recv_lane e n) ≡ true → (is_uni n || is_some (send_lane e n)) ≡ true → opened_by_peer n e ≡ e
open_stays e n there both = grind (arith, nat_tests, opened_back)

pub none_in : (e : End) (n : ℕ) → is_own e n ≡ false → is_some (recv_lane e n) ≡ false → IsYetToOpen e n
none_in e n other none = (other, inl (none_is (recv_lane e n) none))

pub none_out : (e : End) (n : ℕ) → is_own e n ≡ false → (is_uni n || is_some (send_lane e n)) ≡ false → IsYetToOpen e n
none_out e n other none = (let (uni, rest) = or_parts (is_uni n) (is_some (send_lane e n)) none in (other, inr (uni, none_is (send_lane e n) rest)))

-- ---- What of a half is due, is due by the definition, and nothing else is.

-- a half with something due wasn't reset
due_open : (s : Sending) → IsLawful s → (q : ℕ) → set.contains s.due.offsets q ≡ true → s.lane.was_reset ≡ None
due_open s law q has =
    none_is s.lane.was_reset (false_from_ne_true (is_some s.lane.was_reset) (λ is. both_ways (set.contains s.due.offsets q) (ap (λ (x : NumberSet). set.contains x q) (law.parts.none_due is) ∙ set.contains-empty nat_cmp q) has))

end_open : (s : Sending) → IsLawful s → s.due.fin ≡ true → s.lane.was_reset ≡ None
end_open s law has = none_is s.lane.was_reset (false_from_ne_true (is_some s.lane.was_reset) (λ is. both_ways s.due.fin (law.ends.none_due is) has))

module _ (e : End) (n : ℕ) (s : Sending) (t : IsTied e.outstanding n s) where
  pub due_is : IsLawful s → (q : ℕ) → set.contains s.due.offsets q ≡ true → IsDue e n s.lane q
  due_is law q has = grind (arith, nat_tests, due_open, both_ways)

  pub is_due : (q : ℕ) → IsDue e n s.lane q → set.contains s.due.offsets q ≡ true
  is_due q d = true_from_ne_false (set.contains s.due.offsets q) (λ is. d.not_sent (t.flies q d.no_reset d.written d.not_acked is))

  pub end_due_is : IsLawful s → s.due.fin ≡ true → IsEndDue e n s.lane
  end_due_is law has =
      record {
        no_reset = end_open s law has;
        finished = law.ends.due_asked has;
        not_acked = law.ends.due_open has;
        not_sent = λ offset len out. both_ways s.due.fin (t.end_not_due (record { offset = offset; len = len; fin = true }) out refl) has;
      }

  pub is_end_due : IsEndDue e n s.lane → s.due.fin ≡ true
  is_end_due d = true_from_ne_false s.due.fin (λ is.
      let f = t.end_flies d.no_reset d.finished d.not_acked is in
      d.not_sent f.0.offset f.0.len (subst (λ b. IsCarried e.outstanding (Data n (record { offset = f.0.offset; len = f.0.len; fin = b }))) f.2 f.1))

-- of two halves with the same lane the same is due
module _ (m : Records) (n : ℕ) where
  due_also : (s x : Sending) → IsLawful s → IsTied m n s → IsTied m n x → s.lane ≡ x.lane → (q : ℕ) → set.contains s.due.offsets q ≡ true → set.contains x.due.offsets q ≡ true
  due_also s x law t u same q has = grind (arith, nat_tests, due_open, true_from_ne_false, both_ways)

  end_also : (s x : Sending) → IsLawful s → IsTied m n s → IsTied m n x → s.lane ≡ x.lane → s.due.fin ≡ true → x.due.fin ≡ true
  end_also s x law t u same has =
      let (open_end, asked, free) = subst (λ (l : SendLane). (l.was_reset ≡ None) × (l.finished ≡ true) × (l.fin_acked ≡ false)) same (end_open s law has, law.ends.due_asked has, law.ends.due_open has) in
      true_from_ne_false x.due.fin (λ none. (let (c, out, fin) = u.end_flies open_end asked free none in both_ways s.due.fin (t.end_not_due c out fin) has))

  pub one_sending : (s x : Sending) → IsLawful s → IsLawful x → IsTied m n s → IsTied m n x → s.lane ≡ x.lane → s ≡ x
  one_sending s x law law' t u same =
      same_parts same (same_numbers s.due.offsets x.due.offsets (λ q. same_tests _ _ (due_also s x law t u same q) (due_also x s law' u t (sym same) q)))
      (same_tests s.due.fin x.due.fin (end_also s x law t u same) (end_also x s law' u t (sym same)))
    where
      same_parts : s.lane ≡ x.lane → s.due.offsets ≡ x.due.offsets → s.due.fin ≡ x.due.fin → s ≡ x
      same_parts lane offsets fin = λ i. record { lane = lane i; due = record { offsets = offsets i; fin = fin i } }

-- ---- An outbox: what each call is to its value, and that it keeps what holds of it.

-- Tables

pub half_found : (t : Tables Sending) (n : ℕ) → is_some (lookup t n) ≡ true → lookup t n ≡ Some (or_no_sending (lookup t n))
half_found t n is = grind (arith, nat_tests)

pub open_now : (e now : Outgoing) (t : Tables Sending) (n : ℕ) → e ≡ now → e.sends ≡ lanes_of t → is_some (lookup t n) ≡ is_some (lookup now.sends n)
open_now e now t n is sends = grind (arith, nat_tests, lookup_lanes)

pub half_there : (e now : Outgoing) (t : Tables Sending) (n : ℕ) → e ≡ now → e.sends ≡ lanes_of t → is_some (lookup now.sends n) ≡ true → is_some (lookup t n) ≡ true
half_there e now t n is sends h = open_now e now t n is sends ∙ h

pub lane_is : (t : Tables Sending) (n : ℕ) → or_none (lookup (lanes_of t) n) ≡ (or_no_sending (lookup t n)).lane
lane_is t n = grind (arith, nat_tests, lookup_lanes)

pub lane_now : (e now : Outgoing) (t : Tables Sending) (n : ℕ) → e ≡ now → e.sends ≡ lanes_of t → or_none (lookup now.sends n) ≡ (or_no_sending (lookup t n)).lane
lane_now e now t n is sends = ap (λ x. or_none (lookup x n)) (ap (λ (o : Outgoing). o.sends) (sym is) ∙ sends) ∙ lane_is t n

pub lookup_now : (e now : Outgoing) (t : Tables Sending) (n : ℕ) (s : Sending) → e ≡ now → e.sends ≡ lanes_of t → lookup t n ≡ Some s → lookup now.sends n ≡ Some s.lane
lookup_now e now t n s is sends there = ap (λ x. lookup x n) (ap (λ (o : Outgoing). o.sends) (sym is) ∙ sends) ∙ lane_there t n s there

-- Values

pub sends_step : (e now : Outgoing) (x : Tables SendLane) (f : Tables SendLane → Tables SendLane) → e ≡ now → x ≡ f e.sends → with_sends x e ≡ with_sends (f now.sends) now
sends_step e now x f is sends = ap (λ y. with_sends y e) sends ∙ ap (λ (o : Outgoing). with_sends (f o.sends) o) is

pub lane_step : (e now : Outgoing) (n : ℕ) (g : SendLane → SendLane) (x : Tables SendLane) → e ≡ now → x ≡ updated e.sends n g (lookup e.sends n) → with_sends x e ≡ on_lane n g now
lane_step e now n g x is sends = ap (λ y. with_sends y e) sends ∙ ap (λ (o : Outgoing). on_lane n g o) is

-- the lanes of halves of which one was edited
pub lanes_edited : (x : Tables SendLane) (t t' : Tables Sending) (n : ℕ) (f : Sending → Sending) (g : SendLane → SendLane) → ((s : Sending) → (f s).lane ≡ g s.lane) → x ≡ lanes_of t → t' ≡ updated t n f (lookup t n) → lanes_of t' ≡ updated x n g (lookup x n)
lanes_edited x t t' n f g same sends is = ap lanes_of is ∙ lanes_updated t n f g (λ s there. same s) ∙ ap (λ y. updated y n g (lookup y n)) (sym sends)

-- so an outbox of which one half was edited
pub half_step : (e now : Outgoing) (t t' : Tables Sending) (n : ℕ) (f : Sending → Sending) (g : SendLane → SendLane) → e ≡ now → e.sends ≡ lanes_of t → ((s : Sending) → (f s).lane ≡ g s.lane) → t' ≡ updated t n f (lookup t n) → with_sends (lanes_of t') e ≡ on_lane n g now
half_step e now t t' n f g is sends same edited = lane_step e now n g (lanes_of t') is (lanes_edited e.sends t t' n f g same sends edited)

pub same_step : (e now : Outgoing) (x : Tables SendLane) → e ≡ now → x ≡ e.sends → with_sends x e ≡ now
same_step e now x is sends = ap (λ y. with_sends y e) sends ∙ is

-- What holds

-- that a half was reset stays, and so does what was sent of it
record Keeps (l m : SendLane) : Type 0 where
  reset : is_some l.was_reset ≡ true → is_some m.was_reset ≡ true
  ends : m.sent_end ≡ l.sent_end

keeps_one : (l : SendLane) → Keeps l l
keeps_one l = record { reset = λ x. x; ends = refl }

-- what a STOP_SENDING leaves of a half is a half of what it leaves of the lane
pub stop_lane : (answers : Bool) (s : Sending) (code : ℕ) → (after_stop answers s code).lane ≡ stop_taken answers s.lane code
stop_lane answers s code = grind (arith, nat_tests)

module _ (t t' : Tables Sending) (m : Records) (r : Bool) (ps : List Piece) (k sent spare free : ℕ) (h : IsOutbox t m r ps k sent spare free) where
  pub box_same : t' ≡ t → IsOutbox t' m r ps k sent spare free
  box_same is = subst (λ (x : Tables Sending). IsOutbox x m r ps k sent spare free) (sym is) h

  pub box_sends : AreTied t' (with_pending m k ps) → sent_sum (lanes_of t') ≡ sent_sum (lanes_of t) → IsOutbox t' m r ps k sent spare free
  box_sends tied sum = record { tied = tied; below = h.below; sum = sum ∙ h.sum; small = h.small; room = h.room; ready = h.ready }

  pub box_updated : (n : ℕ) (s s' : Sending) → lookup t n ≡ Some s → t' ≡ update t n s' → IsTied (with_pending m k ps) n s' → (is_some s.lane.was_reset ≡ true → is_some s'.lane.was_reset ≡ true) → s'.lane.sent_end ≡ s.lane.sent_end
      → IsOutbox t' m r ps k sent spare free
  box_updated n s s' there is tied keeps same = grind (arith, nat_tests, ties_updated, update_lanes, total_update, lane_there)

  box_half : (n : ℕ) (f : Sending → Sending) (s : Sending) → s ≡ or_no_sending (lookup t n) → is_some (lookup t n) ≡ true → t' ≡ updated t n f (lookup t n)
      → (IsTied (with_pending m k ps) n s → IsTied (with_pending m k ps) n (f s)) → Keeps s.lane (f s).lane → IsOutbox t' m r ps k sent spare free
  box_half n f s same there is tied keeps =
      let at : lookup t n ≡ Some s = half_found t n there ∙ ap Some (sym same) in
      box_updated n s (f s) at (is ∙ ap (updated t n f) at) (tied (h.tied.lanes n s at)) keeps.reset keeps.ends

  pub box_allowed : (n limit : ℕ) → is_some (lookup t n) ≡ true → t' ≡ updated t n (λ s. after_allow s limit) (lookup t n) → IsOutbox t' m r ps k sent spare free
  box_allowed n limit there is = box_half n (λ s. after_allow s limit) _ refl there is (λ tied. tied_allow _ n _ tied limit) (record { reset = λ x. x; ends = refl })

  pub box_buffered : (n size : ℕ) → is_some (lookup t n) ≡ true → t' ≡ updated t n (λ s. after_buffer s size) (lookup t n) → IsOutbox t' m r ps k sent spare free
  box_buffered n size there is = box_half n (λ s. after_buffer s size) _ refl there is (λ tied. tied_buffer _ n _ tied size) (record { reset = λ x. x; ends = refl })

  pub box_finished : (n : ℕ) → is_some (lookup t n) ≡ true → IsLawful (or_no_sending (lookup t n)) → t' ≡ updated t n after_finish (lookup t n) → IsOutbox t' m r ps k sent spare free
  box_finished n there law is =
      let s = or_no_sending (lookup t n) in
      box_half n after_finish s refl there is (λ tied. tied_finish _ n s tied law)
      (cond_both (is_some (refusal s.lane)) s _ (λ x. Keeps s.lane x.lane) (λ _. keeps_one s.lane) (λ _. record { reset = λ x. x; ends = refl }))

  pub box_reset : (n code : ℕ) → is_some (lookup t n) ≡ true → t' ≡ updated t n (λ s. after_reset s code) (lookup t n) → IsOutbox t' m r ps k sent spare free
  box_reset n code there is =
      let s = or_no_sending (lookup t n) in
      box_half n (λ x. after_reset x code) s refl there is (λ tied. tied_reset _ n s tied code)
      (cond_both (is_some (reset_refusal s.lane)) s.lane _ (Keeps s.lane) (λ _. keeps_one s.lane) (λ _. record { reset = λ x. refl; ends = refl }))

  pub box_stopped : (answers : Bool) (n code : ℕ) → is_some (lookup t n) ≡ true → t' ≡ updated t n (λ s. after_stop answers s code) (lookup t n) → IsOutbox t' m r ps k sent spare free
  box_stopped true n code there is =
      let s = or_no_sending (lookup t n) in
      box_half n (λ x. after_asked x code) s refl there is (λ tied. tied_told_stop _ n s tied code)
      (cond_both (is_some (reset_refusal s.lane)) s.lane _ (Keeps s.lane) (λ _. keeps_one s.lane) (λ _. record { reset = λ x. x; ends = refl }))
  box_stopped false n code there is =
      let s = or_no_sending (lookup t n) in
      box_half n (λ x. after_stopped x code) s refl there is (λ tied. tied_stopped _ n s tied code)
      (cond_both (is_some (reset_refusal s.lane)) s.lane _ (Keeps s.lane) (λ _. keeps_one s.lane) (λ _. record { reset = λ x. refl; ends = refl }))

  pub box_written : (n : ℕ) (bytes : List ℕ) (res : Result ℕ SendFault) → is_some (lookup t n) ≡ true → IsLawful (or_no_sending (lookup t n))
      → IfOk res (λ j. (refusal (or_no_sending (lookup t n)).lane ≡ None) × (j ≡ accepted (or_no_sending (lookup t n)).lane (length bytes)) × (t' ≡ updated t n (λ s. after_write s (take j bytes)) (lookup t n)))
      → IfErr res (λ f. (t' ≡ t) × (f ≡ unwrap_or (refusal (or_no_sending (lookup t n)).lane) SendNoMemory)) → IsOutbox t' m r ps k sent spare free
  box_written n bytes (Ok j) there law ok err = box_half n (λ s. after_write s (take j bytes)) _ refl there ok.2 (λ tied. tied_write _ n _ tied law (take j bytes)) (record { reset = λ x. x; ends = refl })
  box_written n bytes (Err f) there law ok err = box_same err.0

  pub box_opened : (n limit buffer : ℕ) → t' ≡ open_to t n (λ j. new_sending j limit buffer) → IsOutbox t' m r ps k sent spare free
  box_opened n limit buffer is =
      box_sends (subst (λ x. AreTied x (with_pending m k ps)) (sym is) (ties_opened t (with_pending m k ps) n limit buffer h.tied))
      (ap (λ x. sent_sum (lanes_of x)) is ∙ ap sent_sum (lanes_opened t n (λ j. new_sending j limit buffer)) ∙ total_open (λ (l : SendLane). l.sent_end) (lanes_of t) n (λ j. new_lane j limit buffer) (λ j. refl))

  pub box_closed : (n count : ℕ) → t' ≡ with_table t (n % 4) (take count (table t (n % 4)))
      → AreOfOpen (with_table (lanes_of t) (n % 4) (take count (table (lanes_of t) (n % 4)))) (with_pending m k ps)
      → sent_sum (with_table (lanes_of t) (n % 4) (take count (table (lanes_of t) (n % 4)))) ≡ sent_sum (lanes_of t) → IsOutbox t' m r ps k sent spare free
  box_closed n count is of sum =
      box_sends (subst (λ x. AreTied x (with_pending m k ps)) (sym is) (ties_closed t (with_pending m k ps) n count h.tied of))
      (ap (λ x. sent_sum (lanes_of x)) is ∙ ap sent_sum (lanes_closed t (n % 4) count) ∙ sum)

no_sum : sent_sum (lanes_of no_streams) ≡ 0
unfolding total
no_sum = refl

pub box_new : (t : Tables Sending) (m : Records) (r : Bool) (ps : List Piece) (free : ℕ) → t ≡ no_streams → m ≡ fmap.empty → ps ≡ [] → IsOutbox t m r ps 0 0 0 free
box_new t m r ps free is none empty =
    rw (is, none, empty)
    (record {
      tied = ties_none;
      below = λ k has. absurd (both_ways true (sym has ∙ ap is_some (fmap.get-empty nat_cmp k)) refl);
      sum = no_sum;
      small = omega arith;
      room = omega arith;
      ready = λ some. absurd (omega (arith, some));
    })

-- Answers

pub finish_ok : (t t' : Tables Sending) (n : ℕ) (r : Result (Unit {0}) SendFault) → is_some (lookup t n) ≡ true → t' ≡ updated t n after_finish (lookup t n) → r ≡ answer_of (refusal (or_no_sending (lookup t n)).lane)
    → OnOk r (lanes_of t' ≡ updated (lanes_of t) n finish_lane (lookup (lanes_of t) n))
finish_ok t t' n r there is answer =
    let s = or_no_sending (lookup t n) in
    let at = half_found t n there in
    on_none (refusal s.lane) r _ answer
    (λ none. ap lanes_of is ∙ lanes_updated t n after_finish finish_lane (λ x here. subst (λ (y : Sending). (after_finish y).lane ≡ finish_lane y.lane) (some_is (lookup t n) s x at here) (rw none refl)))
  where
    on_none : (o : Option SendFault) (r : Result (Unit {0}) SendFault) (P : Type 0) → r ≡ answer_of o → (o ≡ None → P) → OnOk r P
    on_none None r P is p = rw is (p refl)
    on_none (Some f) r P is p = rw is tt

pub finish_err : (t t' : Tables Sending) (n : ℕ) (r : Result (Unit {0}) SendFault) → is_some (lookup t n) ≡ true → t' ≡ updated t n after_finish (lookup t n) → r ≡ answer_of (refusal (or_no_sending (lookup t n)).lane) → OnErr r (t' ≡ t)
finish_err t t' n r there is answer = grind (arith, nat_tests, updated_back)

pub reset_err : (t t' : Tables Sending) (n code : ℕ) (r : Result (Unit {0}) SendFault) → is_some (lookup t n) ≡ true → t' ≡ updated t n (λ s. after_reset s code) (lookup t n) → r ≡ answer_of (reset_refusal (or_no_sending (lookup t n)).lane) → OnErr r (t' ≡ t)
reset_err t t' n code r there is answer = grind (arith, nat_tests, updated_back)

pub on_error : {A E : Type 0} (r : Result A E) (P Q : Type 0) → (P → Q) → OnErr r P → OnErr r Q
on_error r P Q f p = grind (arith, nat_tests)

pub write_ok : (e now : Outgoing) (t t' : Tables Sending) (n : ℕ) (bytes : List ℕ) (r : Result ℕ SendFault) → e ≡ now → e.sends ≡ lanes_of t
    → IfOk r (λ j. (refusal (or_no_sending (lookup t n)).lane ≡ None) × (j ≡ accepted (or_no_sending (lookup t n)).lane (length bytes)) × (t' ≡ updated t n (λ s. after_write s (take j bytes)) (lookup t n)))
    → IfOk r (λ j. (refusal (or_none (lookup now.sends n)) ≡ None) × (j ≡ accepted (or_none (lookup now.sends n)) (length bytes)) × (with_sends (lanes_of t') e ≡ on_lane n (λ l. write_lane l (take j bytes)) now))
write_ok e now t t' n bytes r is sends h = grind (arith, nat_tests, lane_now, half_step)

pub write_err : (e now : Outgoing) (t t' : Tables Sending) (n : ℕ) (r : Result ℕ SendFault) → e ≡ now → e.sends ≡ lanes_of t
    → IfErr r (λ f. (t' ≡ t) × (f ≡ unwrap_or (refusal (or_no_sending (lookup t n)).lane) SendNoMemory))
    → IfErr r (λ f. (with_sends (lanes_of t') e ≡ now) × (f ≡ unwrap_or (refusal (or_none (lookup now.sends n))) SendNoMemory))
write_err e now t t' n r is sends h = grind (arith, nat_tests, lane_now)

pub write_asks : (e now : Outgoing) (t : Tables Sending) (n : ℕ) (bytes : List ℕ) (r : Result ℕ SendFault) → e ≡ now → e.sends ≡ lanes_of t
    → (r ≡ Err SendNoMemory → 0 < accepted (or_no_sending (lookup t n)).lane (length bytes)) → r ≡ Err SendNoMemory → 0 < accepted (or_none (lookup now.sends n)) (length bytes)
write_asks e now t n bytes r is sends h none = subst (λ (l : SendLane). 0 < accepted l (length bytes)) (sym (lane_now e now t n is sends)) (h none)

-- a write to a half with no room
pub wrote_none : (e now : Outgoing) (t : Tables Sending) (n : ℕ) (bytes : List ℕ) (s : Sending) → e ≡ now → e.sends ≡ lanes_of t → lookup t n ≡ Some s → is_writable (or_no_sending (lookup t n)).lane ≡ false → refusal s.lane ≡ None
    → (let l = or_none (lookup now.sends n) in (refusal l ≡ None) × (0 ≡ accepted l (length bytes)) × (now ≡ on_lane n (λ x. write_lane x (take 0 bytes)) now))
wrote_none e now t n bytes s is sends there shut free =
    let lane = ap or_none (lookup_now e now t n s is sends there) in
    let none : is_writable s.lane ≡ false = grind (arith, there, shut) in
    let zero : 0 ≡ accepted s.lane (length bytes) = grind (arith, nat_tests) in
    (ap refusal lane ∙ free, zero ∙ ap (λ l. accepted l (length bytes)) (sym lane), sym (same_step e now (lanes_of t) is (sym sends)) ∙ half_step e now t t n (λ x. after_write x []) (λ l. write_lane l []) is sends (λ x. refl) (sym (updated_back t n (λ x. after_write x []) s there (sym (write_nothing s)))))

pub box_open : (t t' : Tables Sending) (m : Records) (r : Bool) (ps : List Piece) (k sent spare free : ℕ) → IsOutbox t m r ps k sent spare free → {E : Type 0} (n limit buffer : ℕ) (res : Result (Unit {0}) E)
    → OnOk res (t' ≡ open_to t n (λ j. new_sending j limit buffer)) → OnErr res (t' ≡ t) → IsOutbox t' m r ps k sent spare free
box_open t t' m r ps k sent spare free h n limit buffer (Ok a) ok err = box_opened t t' m r ps k sent spare free h n limit buffer ok
box_open t t' m r ps k sent spare free h n limit buffer (Err e) ok err = box_same t t' m r ps k sent spare free h err

pub sending_is : (e now : Outgoing) (t : Tables Sending) (n : ℕ) (s : Sending) → e ≡ now → e.sends ≡ lanes_of t → lookup t n ≡ Some s → IsLawful s → IsTied e.outstanding n s → HasSending now n s
sending_is e now t n s is sends there law tied =
    subst (λ o. HasSending o n s) is (record { lane = ap (λ x. lookup x n) sends ∙ lane_there t n s there; lawful = law; tied = tied; flight = tied_flight e.outstanding n s law tied })

-- Readers

pub no_lookup : (e now : Outgoing) (t : Tables Sending) (n : ℕ) → e ≡ now → e.sends ≡ lanes_of t → is_some (lookup t n) ≡ false → lookup now.sends n ≡ None
no_lookup e now t n is sends none = go (lookup now.sends n) refl (sym (open_now e now t n is sends) ∙ none)
  where
    go : (o : Option SendLane) → lookup now.sends n ≡ o → is_some o ≡ false → lookup now.sends n ≡ None
    go None e h = e
    go (Some l) e h = absurd (both_ways true h refl)

-- The four lists of sending halves: what a call of one list is to the tables

-- as many lanes as halves
pub count_lanes : (t : Tables Sending) (k : ℕ) → length (table (lanes_of t) k) ≡ length (table t k)
count_lanes t k = grind (arith, nat_tests, length-map)

-- a list that is as it was
pub same_is : (ls : List (List Sending)) (k : ℕ) (d ys : List Sending) → ys ≡ get_or ls k d → tables_of (set ls k ys) ≡ tables_of ls
same_is ls k d ys is = ap (λ l. tables_of (set ls k l)) is ∙ ap tables_of (set-get_or ls k d)

module _ (ls : List (List Sending)) (n k i : ℕ) (d : List Sending) (len : length ls ≡ 4) (kind : k ≡ n % 4) where
  pub closed_is : (ys : List Sending) (count : ℕ) → ys ≡ take count (get_or ls k d) → tables_of (set ls k ys) ≡ with_table (tables_of ls) (n % 4) (take count (table (tables_of ls) (n % 4)))
  closed_is ys count is = with_is ls n k ys len kind ∙ ap (with_table (tables_of ls) (n % 4)) (is ∙ ap (take count) (sym (table_is ls n k d len kind)))

  pub opened_ok : {E : Type 0} (j : ℕ) (ys : List Sending) (limit buffer : ℕ) (r : Result (Unit {0}) E) → j ≡ n % 4 → i ≡ n / 4
      → OnOk r (ys ≡ widened (get_or ls k d) (i + 1) (λ x. new_sending (x * 4 + j) limit buffer)) → OnOk r (tables_of (set ls k ys) ≡ open_to (tables_of ls) n (λ m. new_sending m limit buffer))
  opened_ok j ys limit buffer r same index h =
      on_ok r _ _
      (λ is. opened_is ls n k i d ys (λ m. new_sending m limit buffer) len kind index (is ∙ ap (λ x. widened (get_or ls k d) (i + 1) (λ y. new_sending (y * 4 + x) limit buffer)) same)) h

pub opened_err : {E : Type 0} (ls : List (List Sending)) (k : ℕ) (d ys : List Sending) (r : Result (Unit {0}) E) → OnErr r (ys ≡ get_or ls k d) → OnErr r (tables_of (set ls k ys) ≡ tables_of ls)
opened_err ls k d ys r h = on_error r _ _ (same_is ls k d ys) h

-- The half that a call edits

pub record Known (now : Outgoing) (t : Tables Sending) (n : ℕ) (s : Sending) : Type 0 where
  pub at : lookup t n ≡ Some s
  pub law : IsLawful s
  pub has : HasSending now n s

pub known : (e now : Outgoing) (t : Tables Sending) (n : ℕ) → e ≡ now → e.sends ≡ lanes_of t → is_some (lookup now.sends n) ≡ true
    → IsLawful (or_no_sending (lookup t n)) → ((s : Sending) → lookup t n ≡ Some s → IsTied e.outstanding n s) → Known now t n (or_no_sending (lookup t n))
known e now t n is sends open_half law tied =
    let at = half_found t n (half_there e now t n is sends open_half) in
    record { at = at; law = law; has = sending_is e now t n _ is sends at law (tied _ at) }

-- ---- A piece of an outbox is acknowledged or lost.

-- No packet is in the making

pub none_pending : (m : Records) (k : ℕ) (ps : List Piece) → fmap.get (with_pending m k ps) k ≡ None → ps ≡ []
none_pending m k ps is = grind (arith, nat_tests, get_new)

pub idle_none : (e now : Outgoing) (m : Records) (ps : List Piece) → e ≡ now → e.outstanding ≡ with_pending m e.next ps → IsIdle now → ps ≡ []
idle_none e now m ps is out idle = none_pending m e.next ps (ap (λ x. fmap.get x e.next) (sym out) ∙ ap (λ (o : Outgoing). fmap.get o.outstanding o.next) is ∙ idle)

-- the records are what is outstanding
pub idle_out : (e now : Outgoing) (m : Records) (ps : List Piece) → e ≡ now → e.outstanding ≡ with_pending m e.next ps → IsIdle now → m ≡ now.outstanding
idle_out e now m ps is out idle = grind (arith, nat_tests, idle_none)

pub none_above : (m : Records) (k : ℕ) → AreBelow m k → fmap.get m k ≡ None
none_above m k below = grind (arith, nat_tests)

pub idle_after : (m : Records) (k : ℕ) (ps : List Piece) → AreBelow m k → ps ≡ [] → fmap.get (with_pending m k ps) k ≡ None
idle_after m k ps below none = subst (λ qs. fmap.get (with_pending m k qs) k ≡ None) (sym none) (none_above m k below)

pub tied_at : (t : Tables Sending) (m : Records) (r : Bool) (ps : List Piece) (next sent spare free : ℕ) → IsOutbox t m r ps next sent spare free → ps ≡ [] → AreTied t m
tied_at t m r ps next sent spare free h none = subst (λ qs. AreTied t (with_pending m next qs)) none h.tied

-- The first piece was sent

pub sent_piece : (t : Tables Sending) (m : Records) (k : ℕ) (p : Piece) → AreTied t m → first_piece (fmap.get m k) ≡ Some p → IsSentPiece t p
sent_piece t m k (Data n c) h first =
    let out = first_carried m _ k (Data n c) (shortened_is m k (Data n c) first) in
    let half = half_of t n (h.of_open (Data n c) out) in
    (half.0, half.1, (h.lanes n half.0 half.1).sent c out)
sent_piece t m k (Told (ResetStream n code size)) h first = reset_half (lookup t n) refl (subst IsOfReset (lookup_lanes t n) (h.of_open (Told (ResetStream n code size)) (first_carried m _ k (Told (ResetStream n code size)) (shortened_is m k (Told (ResetStream n code size)) first))))
  where
    reset_half : (o : Option Sending) → lookup t n ≡ o → IsOfReset (elim o [ None ↦ None | Some s ↦ Some s.lane ]) → (s : Sending) × (lookup t n ≡ Some s) × (is_some s.lane.was_reset ≡ true)
    reset_half None e r = absurd r
    reset_half (Some s) e r = (s, e, r)
sent_piece _ _ _ _ _ _ = tt

-- Halves

same_end : (t : Tables Sending) (n : ℕ) (s s' : Sending) → lookup t n ≡ Some s → s'.lane.sent_end ≡ s.lane.sent_end → sent_sum (lanes_of (update t n s')) ≡ sent_sum (lanes_of t)
same_end t n s s' there same = grind (arith, nat_tests, update_lanes, total_update, lane_there)

-- halves that are tied to records, and spent as much as others
abbrev Follow : Tables Sending → Tables Sending → Records → Type 0
Follow t t' m = AreTied t' m × (sent_sum (lanes_of t') ≡ sent_sum (lanes_of t))

at_half : (t : Tables Sending) (m : Records) (n : ℕ) (s : Sending) (f : Sending → Sending) → lookup t n ≡ Some s → AreTied (update t n (f s)) m → (f s).lane.sent_end ≡ s.lane.sent_end → Follow t (updated t n f (lookup t n)) m
at_half t m n s f there tied same = subst (λ x. Follow t x m) (sym (ap (updated t n f) there)) (tied, same_end t n s (f s) there same)

-- a piece that goes by its being acknowledged
pub acked_follow : (t : Tables Sending) (m m' : Records) (k : ℕ) (p : Piece) → AreTied t m → IsShorter m k p m' → IsSentPiece t p → Follow t (halves_acked p t) m'
acked_follow t m m' k (Data n c) h short sent = at_half t m' n sent.0 (λ s. after_acked s c) sent.1 (ties_acked t m m' k n sent.0 c h short sent.1) refl
acked_follow t m m' k (Told (ResetStream n code size)) h short sent =
    let gone = ties_item_gone t m m' k (ResetStream n code size) h short in
    at_half t m' n sent.0 after_reset_acked sent.1 (ties_updated t m' n sent.0 (after_reset_acked sent.0) gone sent.1 (tied_reset_acked m' n sent.0 (gone.lanes n sent.0 sent.1)) (λ r. r)) refl
acked_follow t m m' k (Told i) h short sent = (ties_item_gone t m m' k i h short, refl)

lost_lane : (s : Sending) (c : Chunk) (b : Bool) → (cond b s (record s { due = lost_due s.lane s.due c })).lane ≡ s.lane
lost_lane s c b = grind (arith, nat_tests)

pub lost_follow : (t : Tables Sending) (m m' : Records) (k : ℕ) (p : Piece) → AreTied t m → IsShorter m k p m' → IsSentPiece t p → Follow t (halves_lost p t) m'
lost_follow t m m' k (Data n c) h short sent =
    at_half t m' n sent.0 (λ s. after_lost s c) sent.1 (ties_lost t m m' k n sent.0 c h short sent.1) (ap (λ (l : SendLane). l.sent_end) (lost_lane sent.0 c (is_some sent.0.lane.was_reset)))
lost_follow t m m' k (Told i) h short sent = (ties_item_gone t m m' k i h short, refl)

-- a piece of a lost packet that is acknowledged, late
late_follow : (t : Tables Sending) (m : Records) (p : Piece) → AreTied t m → IsSentPiece t p → Follow t (halves_acked p t) m
late_follow t m (Data n c) h sent = at_half t m n sent.0 (λ s. after_acked s c) sent.1 (ties_updated t m n sent.0 (after_acked sent.0 c) h sent.1 (tied_late m n sent.0 c (h.lanes n sent.0 sent.1)) (λ r. r)) refl
late_follow t m (Told (ResetStream n code size)) h sent =
    at_half t m n sent.0 after_reset_acked sent.1 (ties_updated t m n sent.0 (after_reset_acked sent.0) h sent.1 (tied_reset_acked m n sent.0 (h.lanes n sent.0 sent.1)) (λ r. r)) refl
late_follow _ _ _ h _ = (h, refl)

pub box_late : (t t' : Tables Sending) (m : Records) (r : Bool) (ps : List Piece) (next sent spare free : ℕ) (p : Piece) → IsOutbox t m r ps next sent spare free → t' ≡ halves_acked p t → IsSentPiece t p → IsOutbox t' m r ps next sent spare free
box_late t t' m r ps next sent spare free p h halves was =
    let follow = subst (λ (x : Tables Sending). Follow t x (with_pending m next ps)) (sym halves) (late_follow t (with_pending m next ps) p h.tied was) in
    box_sends t t' m r ps next sent spare free h follow.0 follow.1

-- What holds

pub short_at : (m m' : Records) (k : ℕ) (p : Piece) → first_piece (fmap.get m k) ≡ Some p → m' ≡ frames_without_first m k (fmap.get m k) → IsShorter m k p m'
short_at m m' k p first is = subst (λ (x : Records). IsShorter m k p x) (sym is) (shortened_is m k p first)

-- the first piece of a packet goes, and the halves follow
pub box_gone : (t t' : Tables Sending) (m m' : Records) (r r' : Bool) (ps : List Piece) (next sent spare free k : ℕ) (p : Piece) → IsOutbox t m r ps next sent spare free → ps ≡ [] → first_piece (fmap.get m k) ≡ Some p
    → m' ≡ frames_without_first m k (fmap.get m k) → (r ≡ true → r' ≡ true) → (AreTied t m → IsShorter m k p m' → IsSentPiece t p → Follow t t' m') → IsOutbox t' m' r' ps next sent spare free
box_gone t t' m m' r r' ps next sent spare free k p h none first gone ready follows =
    let tied = tied_at t m r ps next sent spare free h none in
    let short = short_at m m' k p first gone in
    let follow = follows tied short (sent_piece t m k p tied first) in
    grind (arith, nat_tests)

pub box_acked : (t t' : Tables Sending) (m m' : Records) (r r' : Bool) (ps : List Piece) (next sent spare free k : ℕ) (p : Piece) → IsOutbox t m r ps next sent spare free → ps ≡ [] → first_piece (fmap.get m k) ≡ Some p
    → t' ≡ halves_acked p t → m' ≡ frames_without_first m k (fmap.get m k) → (r ≡ true → r' ≡ true) → IsOutbox t' m' r' ps next sent spare free
box_acked t t' m m' r r' ps next sent spare free k p h none first halves gone ready =
    box_gone t t' m m' r r' ps next sent spare free k p h none first gone ready (λ tied short was. subst (λ (x : Tables Sending). Follow t x m') (sym halves) (acked_follow t m m' k p tied short was))

pub box_lost : (t t' : Tables Sending) (m m' : Records) (r r' : Bool) (ps : List Piece) (next sent spare free k : ℕ) (p : Piece) → IsOutbox t m r ps next sent spare free → ps ≡ [] → first_piece (fmap.get m k) ≡ Some p
    → t' ≡ halves_lost p t → m' ≡ frames_without_first m k (fmap.get m k) → (r ≡ true → r' ≡ true) → IsOutbox t' m' r' ps next sent spare free
box_lost t t' m m' r r' ps next sent spare free k p h none first halves gone ready =
    box_gone t t' m m' r r' ps next sent spare free k p h none first gone ready (λ tied short was. subst (λ (x : Tables Sending). Follow t x m') (sym halves) (lost_follow t m m' k p tied short was))

-- Values

piece_in : (p : Piece) (e : Outgoing) (t t' : Tables Sending) (a' : AckedItems) → e.sends ≡ lanes_of t → t' ≡ halves_acked p t → a' ≡ items_acked p e.acked → ◌≡◌ {A = Outgoing} (record e { sends = lanes_of t'; acked = a' }) (piece_acked_out p e)
piece_in p e t t' a' sends halves items = grind (arith, nat_tests, lanes_edited)

pub acked_value : (k : ℕ) (p : Piece) (e now : Outgoing) (t t' : Tables Sending) (m m' : Records) (ps : List Piece) (a' : AckedItems) → e ≡ now → e.sends ≡ lanes_of t → e.outstanding ≡ with_pending m e.next ps → ps ≡ []
    → t' ≡ halves_acked p t → m' ≡ frames_without_first m k (fmap.get m k) → a' ≡ items_acked p e.acked
    → ◌≡◌ {A = Outgoing} (record e { sends = lanes_of t'; outstanding = with_pending m' e.next ps; acked = a' }) (first_acked_out (acked_at false k p) now)
acked_value k p e now t t' m m' ps a' is sends out none halves gone items = grind (arith, nat_tests, piece_in)

lost_lanes : (p : Piece) (t : Tables Sending) → lanes_of (halves_lost p t) ≡ lanes_of t
lost_lanes p t = grind (arith, nat_tests, update_lanes, update_back, lane_there)

pub lost_value : (k : ℕ) (p : Piece) (e now : Outgoing) (t t' : Tables Sending) (m m' : Records) (ps : List Piece) → e ≡ now → e.sends ≡ lanes_of t → e.outstanding ≡ with_pending m e.next ps → ps ≡ []
    → t' ≡ halves_lost p t → m' ≡ frames_without_first m k (fmap.get m k) → (l : LostPackets) → l ≡ lost_with k p e.lost
    → ◌≡◌ {A = Outgoing} (record e { sends = lanes_of t'; outstanding = with_pending m' e.next ps; lost = l }) (first_lost_out k p now)
lost_value k p e now t t' m m' ps is sends out none halves gone l more = grind (arith, nat_tests, lost_lanes)

-- the lost records, once room was made and a piece was added
pub lost_added : (k : ℕ) (p : Piece) (m m' new : Records) (order order' last : List ℕ) → m' ≡ m → order' ≡ order → new ≡ (lost_with k p (record { pieces = m'; order = order' })).pieces → last ≡ (lost_with k p (record { pieces = m'; order = order' })).order
    → ◌≡◌ {A = LostPackets} (record { pieces = new; order = last }) (lost_with k p (record { pieces = m; order = order }))
lost_added k p m m' new order order' last same kept pieces numbers = grind (arith, nat_tests)

-- the lost records, once a first piece left
pub lost_left : (k : ℕ) (m new : Records) (order last : List ℕ) → new ≡ frames_without_first m k (fmap.get m k) → last ≡ cond (fmap.contains_key new k) order (without_number order k)
    → ◌≡◌ {A = LostPackets} (record { pieces = new; order = last }) (lost_less k (record { pieces = m; order = order }))
lost_left k m new order last pieces numbers = grind (arith, nat_tests)

pub late_value : (k : ℕ) (p : Piece) (e now : Outgoing) (t t' : Tables Sending) (a' : AckedItems) (l : LostPackets) → e ≡ now → e.sends ≡ lanes_of t → t' ≡ halves_acked p t → a' ≡ items_acked p e.acked → l ≡ lost_less k e.lost
    → ◌≡◌ {A = Outgoing} (record e { sends = lanes_of t'; acked = a'; lost = l }) (first_acked_out (acked_at true k p) now)
late_value k p e now t t' a' l is sends halves items less = grind (arith, nat_tests, piece_in)

-- a piece that a record begins with
pub first_in : (m : Records) (k : ℕ) (p : Piece) → first_piece (fmap.get m k) ≡ Some p → IsCarried m p
first_in m k p first = first_carried m (frames_without_first m k (fmap.get m k)) k p (shortened_is m k p first)

-- a RESET_STREAM that is acknowledged twice changes nothing more
pub reset_again : (t : Tables Sending) (n : ℕ) (s : Sending) → lookup t n ≡ Some s → s.lane.reset_acked ≡ true → t ≡ updated t n after_reset_acked (lookup t n)
reset_again t n s there acked = sym (updated_back t n after_reset_acked s there (ap (λ b. record s { lane = record s.lane { reset_acked = b } }) (sym acked)))

pub not_sent_again : (t : Tables Sending) (n : ℕ) (s : Sending) (st : SendState) → lookup t n ≡ Some s → ((x : Sending) × (lookup t n ≡ Some x) × (is_some x.lane.was_reset ≡ true)) → st ≡ state s.lane → (st ≡ ResetSent → ⊥)
    → t ≡ updated t n after_reset_acked (lookup t n)
not_sent_again t n s st there h is not = grind (arith, nat_tests, reset_again)

-- What a call knows of the first piece

pub first_at : (e now : Outgoing) (m : Records) (ps : List Piece) (k : ℕ) (p : Piece) → e ≡ now → e.outstanding ≡ with_pending m e.next ps → IsIdle now → first_piece (fmap.get now.outstanding k) ≡ Some p → first_piece (fmap.get m k) ≡ Some p
first_at e now m ps k p is out idle first = ap (λ x. first_piece (fmap.get x k)) (idle_out e now m ps is out idle) ∙ first

-- a piece that is kept was sent
pub sent_kept : (late : Bool) (e now : Outgoing) (t : Tables Sending) (m : Records) (r : Bool) (ps : List Piece) (sent spare free k : ℕ) (p : Piece) → e ≡ now → e.outstanding ≡ with_pending m e.next ps
    → IsIdle now → IsOutbox t m r ps e.next sent spare free → AreSent t e.lost.pieces → first_piece (fmap.get (held_out late now) k) ≡ Some p → IsSentPiece t p
sent_kept late e now t m r ps sent spare free k p is out idle h lost first = grind (arith, nat_tests, first_in, sent_piece, idle_none)

-- a chunk that was sent is of an open half, which may have asked for memory
pub chunk_may : (t : Tables Sending) (a : AckedItems) (n : ℕ) (c : Chunk) → IsSentPiece t (Data n c) → ChunkMayRunOut (or_no_sending (lookup t n)).lane c → PieceMayRunOut (lanes_of t) a (Data n c)
chunk_may t a n c (s, at, was) may = (s.lane, lane_there t n s at, subst (λ (o : Option Sending). ChunkMayRunOut (or_no_sending o).lane c) at may)

pub chunk_asks : (r : Result (Unit {0}) NoMemory) (t : Tables Sending) (a : AckedItems) (n : ℕ) (c : Chunk) → IsSentPiece t (Data n c) → OnErr r (ChunkMayRunOut (or_no_sending (lookup t n)).lane c)
    → OnErr r (PieceMayRunOut (lanes_of t) a (Data n c))
chunk_asks r t a n c sent may = on_error r _ _ (chunk_may t a n c sent) may

-- of an outbox, by its parts
pub stop_asks : (r : Result (Unit {0}) NoMemory) (e now : Outgoing) (p : Piece) → e ≡ now → PieceMayRunOut e.sends e.acked p → OnErr r (PieceMayRunOut now.sends now.acked p)
stop_asks r e now p is may = grind (arith, nat_tests)

-- ---- Packets in a row that carried bytes in a row: one more below, and their acknowledgement as one chunk.

-- One more packet, below

joined_thrice : (a b c : Chunk) → joined a (joined b c) ≡ joined (joined a b) c
joined_thrice a b c = let e : a.len + (b.len + c.len) ≡ a.len + b.len + c.len = omega arith in ap (λ n. record { offset = a.offset; len = n; fin = c.fin }) e

pub row_grows : (m : Records) (n first more : ℕ) (part c : Chunk) → IsRow m n (first + 1) more c → IsAlone m first n part → Meets part c → IsRow m n first (suc more) (joined part c)
row_grows m n first zero part c h alone meets = (part, c, subst (λ k. IsAlone m k n c) (let e : first + 1 ≡ first + suc zero = omega arith in e) h, alone, meets, refl)
row_grows m n first (suc more) part c (low, high, top, rest, ends, is) alone meets =
    let at : low.offset ≡ c.offset = sym (ap (λ (x : Chunk). x.offset) is) in
    let below : Meets part low = (meets.0 ∙ sym at, meets.1) in
    let e : first + 1 + suc more ≡ first + suc (suc more) = omega arith in
    let end = ends.0 in
    let begin = below.0 in (
      joined part low,
      high,
      subst (λ k. IsAlone m k n high) e top,
      row_grows m n first more part low rest alone below,
      (omega (arith, end, begin), ends.1),
      ap (joined part) is ∙ joined_thrice part low high,
    )

row_stays : (m : Records) (n first more k : ℕ) (c : Chunk) → first + more < k → IsRow m n first more c → IsRow (without_first m k (fmap.get m k)) n first more c
row_stays m n first zero k c lt h = get_other-without_first m k first (λ e. omega (arith, e, lt)) ∙ h
row_stays m n first (suc more) k c lt (low, high, top, rest, meets, is) = grind (arith, nat_tests, row_stays m n first more k low (omega (arith, lt)) rest, get_other-without_first)

-- Two chunks that meet are acknowledged as one

union_more : (s : NumberSet) (a b : ℕ) → missing_from s 0 ≤ missing_from (set.union s (numbers a b)) 0
union_more s a b = missing_from-more s (set.union s (numbers a b)) 0 (λ k is. contains-with_range s a b k ∙ or_left (set.contains s k) (is_within a b k) is)

drop_twice : (low mid high : ℕ) (kept : List ℕ) → low ≤ mid → mid ≤ high → drop (high - mid) (drop (mid - low) kept) ≡ drop (high - low) kept
drop_twice low mid high kept a b = let e : (mid - low) + (high - mid) ≡ high - low = omega (arith, a, b) in drop-drop (high - mid) (mid - low) kept ∙ ap (λ n. drop n kept) e

module _ (low high : Chunk) (meets : Meets low high) where
  ends : low.offset + low.len ≡ high.offset
  ends = meets.0

  all_acked : (s : NumberSet) → set.union (set.union s (chunk_offsets high)) (chunk_offsets low) ≡ set.union s (chunk_offsets (joined low high))
  all_acked s =
      same_numbers _ _ (λ q. let e = ends in
      grind (arith, nat_tests, contains-with_range (set.union s (chunk_offsets high)) low.offset (low.offset + low.len) q, contains-with_range s high.offset (high.offset + high.len) q, contains-with_range s low.offset (low.offset + (low.len + high.len)) q, e))

  none_due : (s : NumberSet) → set.difference (set.difference s (chunk_offsets high)) (chunk_offsets low) ≡ set.difference s (chunk_offsets (joined low high))
  none_due s =
      same_numbers _ _ (λ q. let e = ends in
      grind (arith, nat_tests, contains-without_range (set.difference s (chunk_offsets high)) low.offset (low.offset + low.len) q, contains-without_range s high.offset (high.offset + high.len) q, contains-without_range s low.offset (low.offset + (low.len + high.len)) q, e))

  pub lane_joined : (l : SendLane) → acked_lane (acked_lane l high) low ≡ acked_lane l (joined low high)
  lane_joined l = λ i. record l { acked = all_acked l.acked i; kept = kept i; fin_acked = fins i }
    where
      fins : ((l.fin_acked || high.fin) || low.fin) ≡ (l.fin_acked || high.fin)
      fins = let no = meets.1 in grind (arith, no)

      kept : (acked_lane (acked_lane l high) low).kept ≡ (acked_lane l (joined low high)).kept
      kept =
          drop_twice (unacked_from l) _ _ l.kept (union_more l.acked high.offset (high.offset + high.len)) (union_more (set.union l.acked (chunk_offsets high)) low.offset (low.offset + low.len))
          ∙ ap (λ s. drop (missing_from s 0 - unacked_from l) l.kept) (all_acked l.acked)

  pub half_joined : (s : Sending) → after_acked (after_acked s high) low ≡ after_acked s (joined low high)
  half_joined s = λ i. record { lane = lane_joined s.lane i; due = record { offsets = none_due s.due.offsets i; fin = fins i } }
    where
      fins : ((s.due.fin && not high.fin) && not low.fin) ≡ (s.due.fin && not high.fin)
      fins = let no = meets.1 in grind (arith, no)

module _ {X : Type 0} where
  set_again : (xs : List X) (i : ℕ) (y z : X) → slice_set (slice_set xs i y) i z ≡ slice_set xs i z
  set_again [] i y z = refl
  set_again (x ∷ xs) zero y z = refl
  set_again (x ∷ xs) (suc i) y z = ap (λ ys. x ∷ ys) (set_again xs i y z)

  with_again : (t : Tables X) (k : ℕ) (xs ys : List X) → with_table (with_table t k xs) k ys ≡ with_table t k ys
  with_again t k xs ys = grind (arith, nat_tests)

  update_again : (t : Tables X) (n : ℕ) (y z : X) → update (update t n y) n z ≡ update t n z
  unfolding update
  update_again t n y z =
      let once = slice_set (table t (n % 4)) (n / 4) y in
      with_again t (n % 4) once _ ∙ ap (with_table t (n % 4)) (ap (λ xs. slice_set xs (n / 4) z) (table_same t (n % 4) once) ∙ set_again (table t (n % 4)) (n / 4) y z)

  updated_twice : (t : Tables X) (n : ℕ) (f g h : X → X) → ((x : X) → g (f x) ≡ h x) → updated (updated t n f (lookup t n)) n g (lookup (updated t n f (lookup t n)) n) ≡ updated t n h (lookup t n)
  updated_twice t n f g h same = go (lookup t n) refl
    where
      go : (o : Option X) → lookup t n ≡ o → updated (updated t n f o) n g (lookup (updated t n f o) n) ≡ updated t n h o
      go None e = ap (updated t n g) e
      go (Some x) e = ap (updated (update t n (f x)) n g) (lookup_same t n x (f x) e) ∙ update_again t n (f x) (g (f x)) ∙ ap (update t n) (same x)

-- What the acknowledgement leaves

module _ (n first : ℕ) where
  same_row : (more : ℕ) (low high c : Chunk) (o : Outgoing) → Meets low high → c ≡ joined low high → row_acked n low first more (first_acked_out (acked_at false (first + suc more) (Data n high)) o) ≡ row_acked n c first (suc more) o
  same_row more low high c o meets is =
      ap (λ t. record o { sends = t; outstanding = without_row first (suc more) o.outstanding })
      (updated_twice o.sends n (λ l. acked_lane l high) (λ l. acked_lane l low) (λ l. acked_lane l c) (λ l. lane_joined low high meets l ∙ ap (acked_lane l) (sym is)))

  pub row_down : (more : ℕ) (c : Chunk) (o : Outgoing) → IsRow o.outstanding n first more c → AcksDown n first more o (row_acked n c first more o)
  row_down zero c o h = (c, h, refl)
  row_down (suc more) c o (low, high, top, rest, meets, is) =
      let mid = first_acked_out (acked_at false (first + suc more) (Data n high)) o in
      (mid, (high, top, refl), subst (λ x. AcksDown n first more mid x) (same_row more low high c o meets is) (row_down more low mid (row_stays o.outstanding n first more (first + suc more) low (omega arith) rest)))

  pub box_row : (more : ℕ) (c : Chunk) (t : Tables Sending) (m : Records) (r r' : Bool) (ps : List Piece) (next sent spare free : ℕ) → IsOutbox t m r ps next sent spare free → ps ≡ [] → IsRow m n first more c → (r ≡ true → r' ≡ true)
      → IsOutbox (halves_acked (Data n c) t) (without_row first more m) r' ps next sent spare free
  box_row zero c t m r r' ps next sent spare free h none row ready = box_acked t _ m _ r r' ps next sent spare free first (Data n c) h none (ap first_piece row) refl refl ready
  box_row (suc more) c t m r r' ps next sent spare free h none (low, high, top, rest, meets, is) ready =
      let k = first + suc more in
      let m' = without_first m k (fmap.get m k) in
      let h' = box_acked t (halves_acked (Data n high) t) m m' r r ps next sent spare free k (Data n high) h none (ap first_piece top) refl refl (λ x. x) in
      subst (λ x. IsOutbox x (without_row first more m') r' ps next sent spare free)
      (updated_twice t n (λ s. after_acked s high) (λ s. after_acked s low) (λ s. after_acked s c) (λ s. half_joined low high meets s ∙ ap (after_acked s) (sym is)))
      (box_row more low (halves_acked (Data n high) t) m' r r' ps next sent spare free h' none (row_stays m n first more k low (omega arith) rest) ready)

  pub row_value : (more : ℕ) (c : Chunk) (e now : Outgoing) (t t' : Tables Sending) (m m' : Records) (ps : List Piece) → e ≡ now → e.sends ≡ lanes_of t → e.outstanding ≡ with_pending m e.next ps → ps ≡ [] → t' ≡ halves_acked (Data n c) t → m' ≡ without_row first more m
      → ◌≡◌ {A = Outgoing} (record e { sends = lanes_of t'; outstanding = with_pending m' e.next ps }) (row_acked n c first more now)
  row_value more c e now t t' m m' ps is sends out none halves gone = grind (arith, nat_tests, lanes_edited)

-- The highest packet's bytes

record HasTop (m : Records) (n number : ℕ) (c : Chunk) : Type 0 where
  pub high : Chunk
  pub alone : IsAlone m number n high
  pub end : c.offset + c.len ≡ high.offset + high.len
  pub fin : c.fin ≡ high.fin
  pub begin : c.offset ≤ high.offset

row_top : (m : Records) (n first more : ℕ) (c : Chunk) → IsRow m n first more c → HasTop m n (first + more) c
row_top m n first zero c h = record { high = c; alone = subst (λ k. IsAlone m k n c) (let e : first ≡ first + zero = omega arith in e) h; end = refl; fin = refl; begin = omega arith }
row_top m n first (suc more) c (low, high, top, rest, meets, is) = grind (arith, nat_tests)

top_at : (m : Records) (n number first : ℕ) (c : Chunk) → IsRowAt m n number first c → HasTop m n number c
top_at m n number first c h = subst (λ k. HasTop m n k c) h.count (row_top m n first h.more c h.row)

-- what a call knows of a row: it stands in its records, and the bytes were sent
row_here : (e now : Outgoing) (m : Records) (ps : List Piece) (n number first : ℕ) (c : Chunk) → e ≡ now → e.outstanding ≡ with_pending m e.next ps → IsIdle now → IsRowAt now.outstanding n number first c → IsRowAt m n number first c
row_here e now m ps n number first c is out idle row = subst (λ (x : Records). IsRowAt x n number first c) (sym (idle_out e now m ps is out idle)) row

pub row_sent : (e now : Outgoing) (t : Tables Sending) (m : Records) (r : Bool) (ps : List Piece) (sent spare free n number first : ℕ) (c : Chunk) → e ≡ now → e.outstanding ≡ with_pending m e.next ps → IsIdle now → IsOutbox t m r ps e.next sent spare free
    → IsRowAt now.outstanding n number first c → IsSentPiece t (Data n c)
row_sent e now t m r ps sent spare free n number first c is out idle h row =
    let top = top_at m n number first c (row_here e now m ps n number first c is out idle row) in
    let (s, at, was) = sent_piece t m number (Data n top.high) (tied_at t m r ps e.next sent spare free h (idle_none e now m ps is out idle)) (ap first_piece top.alone) in
    let end = top.end in
    let sent = was.offsets in
    (s, at, record { offsets = omega (arith, end, sent); end = λ f. was.end (sym top.fin ∙ f) })

-- memory may be refused only where the highest packet's bytes may ask for it
pub row_asks : (r : Result (Unit {0}) NoMemory) (o : Outgoing) (n number first : ℕ) (c : Chunk) → IsRowAt o.outstanding n number first c → OnErr r (PieceMayRunOut o.sends o.acked (Data n c)) → OnErr r (MayRunOutAt number n o)
row_asks (Ok done) o n number first c h may = tt
row_asks (Err e) o n number first c h (l, at, may) =
    let top = top_at o.outstanding n number first c h in
    let end = top.end in
    let begin = top.begin in
    let more = h.some in
    let len = ap first_len top.alone in
    (top.high, top.alone, (l, at, (omega (arith, more, len), λ q ge lt. may.1 q (omega (arith, ge, begin)) (omega (arith, lt, end)))))

pub row_half_there : (t : Tables Sending) (n : ℕ) (c : Chunk) → IsSentPiece t (Data n c) → is_some (lookup t n) ≡ true
row_half_there t n c (s, at, was) = ap is_some at

pub half_sent : (t : Tables Sending) (n : ℕ) (c : Chunk) → IsSentPiece t (Data n c) → WasSent (or_no_sending (lookup t n)).lane c
half_sent t n c (s, at, was) = subst (λ (o : Option Sending). WasSent (or_no_sending o).lane c) (sym at) was

-- What an outbox is then

pub box_rowed : (e now : Outgoing) (n number first : ℕ) (c : Chunk) (t t' : Tables Sending) (m m' : Records) (r r' : Bool) (ps : List Piece) (sent spare free : ℕ) → e ≡ now → e.outstanding ≡ with_pending m e.next ps → IsIdle now
    → IsOutbox t m r ps e.next sent spare free → IsRowAt now.outstanding n number first c → t' ≡ halves_acked (Data n c) t → m' ≡ without_row first (number - first) m → (r ≡ true → r' ≡ true) → IsOutbox t' m' r' ps e.next sent spare free
box_rowed e now n number first c t t' m m' r r' ps sent spare free is out idle h there halves gone ready =
    let row = row_here e now m ps n number first c is out idle there in
    let sum = row.count in
    let count : number - first ≡ row.more = omega (arith, sum) in
    subst (λ (x : Tables Sending). IsOutbox x m' r' ps e.next sent spare free) (sym halves)
    (subst (λ (x : Records). IsOutbox (halves_acked (Data n c) t) x r' ps e.next sent spare free) (sym (gone ∙ ap (λ j. without_row first j m) count))
    (box_row n first row.more c t m r r' ps e.next sent spare free h (idle_none e now m ps is out idle) row.row ready))

pub row_acks : (n number first : ℕ) (c : Chunk) (e now : Outgoing) (t t' : Tables Sending) (m m' : Records) (ps : List Piece) → e ≡ now → e.sends ≡ lanes_of t → e.outstanding ≡ with_pending m e.next ps → ps ≡ [] → IsRowAt now.outstanding n number first c
    → t' ≡ halves_acked (Data n c) t → m' ≡ without_row first (number - first) m → AcksRow n number first now (record e { sends = lanes_of t'; outstanding = with_pending m' e.next ps })
row_acks n number first c e now t t' m m' ps is sends out none row halves gone =
    let sum = row.count in
    let count : number - first ≡ row.more = omega (arith, sum) in
    (row.more, row.count, subst (λ x. AcksDown n first row.more now x) (sym (row_value n first row.more c e now t t' m m' ps is sends out none halves (gone ∙ ap (λ j. without_row first j m) count))) (row_down n first row.more c now row.row))

pub row_lanes : (n : ℕ) (c : Chunk) (e now : Outgoing) (t t' : Tables Sending) → e ≡ now → e.sends ≡ lanes_of t → t' ≡ halves_acked (Data n c) t → lanes_of t' ≡ updated now.sends n (λ l. acked_lane l c) (lookup now.sends n)
row_lanes n c e now t t' is sends halves = lanes_edited now.sends t t' n (λ s. after_acked s c) (λ l. acked_lane l c) (λ s. refl) (ap (λ (o : Outgoing). o.sends) (sym is) ∙ sends) halves

-- Loops over rows

pub row_less : (first last : ℕ) (m m' : Records) → first < last → m' ≡ without_first m last (fmap.get m last) → without_row first (last - 1 - first) m' ≡ without_row first (last - first) m
row_less first last m m' lt is =
    let count : last - first ≡ suc (last - 1 - first) = omega (arith, lt) in
    let at : first + suc (last - 1 - first) ≡ last = omega (arith, lt) in
    ap (without_row first (last - 1 - first)) (is ∙ ap (λ k. without_first m k (fmap.get m k)) (sym at)) ∙ ap (λ j. without_row first j m) (sym count)

pub row_one : (m : Records) (n number : ℕ) (c : Chunk) → IsAlone m number n c → 0 < c.len → IsRowAt m n number number c
row_one m n number c alone pos = let len = ap first_len alone in record { more = 0; count = omega arith; row = alone; some = omega (arith, pos, len) }

pub row_longer : (m : Records) (n number first : ℕ) (c longer : Chunk) → 0 < first → IsRowAt m n number first c → ((low : Chunk) × IsAlone m (first - 1) n low × Meets low c × (longer ≡ joined low c)) → IsRowAt m n number (first - 1) longer
row_longer m n number first c longer pos h h2 = grind (arith, nat_tests, row_grows)
