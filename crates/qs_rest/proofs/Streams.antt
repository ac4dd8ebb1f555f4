-- Streams of two ends at rest: all credit is paid back, and each reset and each stop came to its end.
use Rattle.std.proofs.Common.{◌≡◌, ℕ, zero, suc, ◌+◌, ◌<◌, ◌≤◌, Bool, true, false, ◌⊎◌, Option, Some, None, is_some, unwrap_or, refl, sym, ap, ◌∙◌, arith, inl, inr}
use Rattle.std.proofs.lemmas.Option.{none-some, same_Some}
use Rattle.std.proofs.lemmas.Bool.{true≢false, false≢true}
use Rattle.std.specs.FinMap as fmap
use Rattle.std.specs.FinSet as set
use Rattle.qs_ranges.specs.Numbers.{end_of as set_end}
use Rattle.qs_ranges.proofs.Sets.{covers-is}
use Rattle.qs_recv.specs.Lane.{RecvLane, highest, taken, is_whole, whole_to, read_answer, state as recv_state}
use Rattle.qs_recv.specs.declared.half.RecvState.TheVariants.{DataRead, ResetRead}
use Rattle.qs_recv.proofs.LawfulLaws.{taken_within}
use Rattle.qs_send.specs.Lane.{SendLane}
use Rattle.qs_send.specs.declared.parts.Reset.{Reset}
use Rattle.qs_send.specs.declared.piece.Item.TheVariants.{ResetStream, StopSending}
use Rattle.qs_calls.specs.declared.settings.Settings.{Settings}
use Rattle.qs_calls.specs.declared.event.Side.{Side}
use Rattle.qs_machine.specs.Credit.{spent, all_taken, all_stored, all_sent}
use Rattle.qs_machine.specs.Seen.{Control}
use Rattle.qs_machine.proofs.Counts.{stored_and_taken}
use Rattle.qs_machine.proofs.TableLaws.{value, total_le, total_both}
use Rattle.qs_machine.proofs.Pieces.{All_at}
use Rattle.qs_runs.specs.Logs.{History, other, taken as taken_by}
use Rattle.qs_runs.specs.Worlds.{World, end_of}
use Rattle.qs_runs.specs.Pasts.{past}
use Rattle.qs_runs.specs.Clauses.{sending, receiving}
use Rattle.qs_runs.specs.Invariant.{WorldOk, FrameTaken}
use Rattle.qs_runs.proofs.Members.{end-le}
use Rattle.qs_runs.proofs.Histories.{confirmed_taken}
use Rattle.qs_runs.proofs.Runs.{run_keeps}
use Rattle.qs_runs.proofs.Clauses.{received_is_below_sent, final_size_is_declared, reset_code_is_the_senders}
use Rattle.qs_rest.specs.Invariant.{IsAllAcked, RestOk}
use Rattle.qs_rest.specs.Rest.{TellsNoNews, AtRest}
use Rattle.qs_rest.specs.Resting.{AtEachRest, CreditIsWhole, IsResetAtBoth, IsReadAtBoth, IsLeftToOwner, ResetsAreFinal}
use Rattle.qs_rest.proofs.Runs.{every_run_keeps}
use Rattle.qs_rest.proofs.Telling.{caught_up, end_told, reset_told, sent_acked, end_acked}
use Rattle.qs_rest.proofs.Resting.{items_acked, taken as item_taken, taken_here}
use Rattle.qs_rest.proofs.Effects.{some_of}
use Rattle.qs_rest.proofs.OneStream.{lawful, sender_ok, acked_sent, end_sent, size_sent, none_sent, highest_is, taken_is, read_at_both}

known_size : (o : Option RecvLane) (size : ℕ) (r : RecvLane) → (t : RecvLane) × (o ≡ Some t) × (t.final_size ≡ Some size) → o ≡ Some r → r.final_size ≡ Some size
known_size o size r (t, there, final) at = (let same : t ≡ r = same_Some t r (sym there ∙ at) in rw same at final)

module _ (a b : Settings) (h : History) (w : World) (ok : WorldOk a b h w) (keeps : (s : Side) → RestOk (past s h) (end_of w s)) (rest : (s : Side) → AtRest (end_of w s)) (s : Side) (n : ℕ) where
  pub no_news : (r : RecvLane) → receiving w s n ≡ Some r → TellsNoNews (read_answer r 1) r
  no_news r is = (rest (other s)).read_out n r is

  -- all that was written was sent, where all of it is acknowledged
  whole_sent : (l : SendLane) → sending w s n ≡ Some l → IsAllAcked l → l.sent_end ≡ l.written
  whole_sent l at all = go l.written refl
    where
      go : (k : ℕ) → l.written ≡ k → l.sent_end ≡ l.written
      go zero e = omega (arith, e, (sender_ok a b h w ok s n l at).sent_written)
      go (suc k) e = omega (arith, e, (sender_ok a b h w ok s n l at).sent_written, acked_sent a b h w ok s n l k at (all.offsets k (omega (arith, e))))

  -- of a half that wasn't reset all that was sent is acknowledged
  pub acked : (l : SendLane) → sending w s n ≡ Some l → l.was_reset ≡ None → (q : ℕ) → q < l.sent_end → set.contains l.acked q ≡ true
  acked l at none = sent_acked (end_of w s) (rest s) n l at none (sender_ok a b h w ok s n l at).sent_written (sender_ok a b h w ok s n l at).sent_limit

  -- a reset came, or all data had come before
  pub reset_came : (l : SendLane) (reset : Reset) → sending w s n ≡ Some l → l.was_reset ≡ Some reset →
      (l.reset_acked ≡ true) × ((r : RecvLane) × (receiving w s n ≡ Some r) × (is_some r.final_size ≡ true) × ((is_some r.reset_code ≡ true) ⊎ (is_whole r ≡ true)))
  reset_came l reset at is =
      let (m, there, acked) = items_acked (end_of w s) (ResetStream n reset.code reset.size) (rest s) (l, at, is) in
      let same : m ≡ l = same_Some m l (sym there ∙ at) in
      let known : l.reset_acked ≡ true = rw same at acked in
      let (code, size, told) = ((keeps s).sends n l at).reset_told known in
      let (r, found, ended) = item_taken a b h w ok keeps s (ResetStream n code size) told in
      let (k, holds, ack) = told in
      let sized = known_size (receiving w s n) size r (All_at (FrameTaken (end_of w (other s)).recvs) (taken_by (other s) h) (Control (ResetStream n code size)) (ok.ends (other s)).taken (confirmed_taken a b h w ok s k (Control (ResetStream n code size)) holds ack refl)) found in
      (known, (r, found, ap is_some sized, ended))

  -- the highest offset is the sent end
  pub highest_sent : (l : SendLane) (r : RecvLane) → sending w s n ≡ Some l → receiving w s n ≡ Some r → highest r ≡ l.sent_end
  highest_sent l r at is = by l.was_reset refl
    where
      by : (x : Option Reset) → l.was_reset ≡ x → highest r ≡ l.sent_end
      by None e = highest_is a b h w ok s n l at e (acked l at e) r is
      by (Some reset) e =
          let (known, (t, found, sized, ended)) = reset_came l reset at e in
          let same : t ≡ r = same_Some t r (sym found ∙ is) in
          let (size, final) = some_of r.final_size (rw same at sized) in
          size_sent a b h w ok s n l r size at is final

  -- whole data came below the highest offset
  whole_came : (r : RecvLane) → is_whole r ≡ true → (q : ℕ) → q < highest r → set.contains r.arrived.received q ≡ true
  whole_came r = go r.final_size
    where
      go : (o : Option ℕ) → whole_to r.arrived.received o ≡ true → (q : ℕ) → q < unwrap_or o (set_end r.arrived.received) → set.contains r.arrived.received q ≡ true
      go None e q lt = absurd (false≢true e)
      go (Some size) e q lt = covers-is r.arrived.received 0 size e q (omega arith) lt

  -- all of it was taken
  pub taken_sent : (l : SendLane) (r : RecvLane) → sending w s n ≡ Some l → receiving w s n ≡ Some r → taken r ≡ l.sent_end
  taken_sent l r at is = by l.was_reset refl
    where
      by : (x : Option Reset) → l.was_reset ≡ x → taken r ≡ l.sent_end
      by None e = taken_is a b h w ok s n l at e (acked l at e) no_news r is
      by (Some reset) e =
          let (known, (t, found, sized, ended)) = reset_came l reset at e in
          let same : t ≡ r = same_Some t r (sym found ∙ is) in
          caught_up r (lawful a b h w ok s n r is) (no_news r is) (elim ended [
            | inl reset_known ↦ inr (rw same at reset_known)
            | inr whole ↦ inl (whole_came r (rw same at whole))
          ]) ∙ highest_sent l r at is

  -- a half alone: nothing was sent, and nothing came
  pub sent_alone : (l : SendLane) → sending w s n ≡ Some l → receiving w s n ≡ None → l.sent_end ≡ 0
  sent_alone l at none = by l.was_reset refl
    where
      by : (x : Option Reset) → l.was_reset ≡ x → l.sent_end ≡ 0
      by (Some reset) e = (let (known, (t, found, sized, ended)) = reset_came l reset at e in absurd (none-some t (sym none ∙ found)))
      by None e = none_sent a b h w ok s n l at e (acked l at e) none

  came_alone : (r : RecvLane) → sending w s n ≡ None → receiving w s n ≡ Some r → highest r ≡ 0
  came_alone r none is = by r.final_size refl
    where
      by : (o : Option ℕ) → r.final_size ≡ o → highest r ≡ 0
      by (Some size) e = (let (l, at, declared, sent, count) = final_size_is_declared a b h w ok s n r size is e in absurd (none-some l (sym none ∙ at)))
      by None e =
          let top : highest r ≡ set_end r.arrived.received = rw e refl in
          let over : set_end r.arrived.received ≤ 0 = end-le r.arrived.received 0 (λ q has_it. (let (l, at, lt) = received_is_below_sent a b h w ok s n r q is has_it in absurd (none-some l (sym none ∙ at)))) in
          omega arith

  pub slots : (x : Option SendLane) (y : Option RecvLane) → sending w s n ≡ x → receiving w s n ≡ y →
      (value highest y ≡ value (λ l. l.sent_end) x) × (value taken y ≡ value (λ l. l.sent_end) x)
  slots None None ex ey = (refl, refl)
  slots (Some l) None ex ey = (let nothing = sent_alone l ex ey in (sym nothing, sym nothing))
  slots None (Some r) ex ey = (let nothing = came_alone r ex ey in (nothing, omega (arith, nothing, taken_within r (lawful a b h w ok s n r ey))))
  slots (Some l) (Some r) ex ey = (highest_sent l r ex ey, taken_sent l r ex ey)

  pub reader_paid : (y : Option RecvLane) → receiving w s n ≡ y → value (λ r. fmap.len r.arrived.stored + taken r) y ≤ value highest y
  reader_paid None e = omega arith
  reader_paid (Some r) e = stored_and_taken r (lawful a b h w ok s n r e)

  -- States

  pub is_reset : (l : SendLane) (reset : Reset) → sending w s n ≡ Some l → l.was_reset ≡ Some reset → IsResetAtBoth w s n
  is_reset l reset at e =
      let (known, (r, is, sized, ended)) = reset_came l reset at e in
      (l, r, at, is, rw known refl, by r is ended r.reset_code refl)
    where
      by : (r : RecvLane) → receiving w s n ≡ Some r → (is_some r.reset_code ≡ true) ⊎ (is_whole r ≡ true) → (x : Option ℕ) → r.reset_code ≡ x → (recv_state r ≡ ResetRead) ⊎ (recv_state r ≡ DataRead)
      by r is ended (Some code) ex = (let told = reset_told r (lawful a b h w ok s n r is) (no_news r is) code ex in inl (rw (ex, told) refl))
      by r is (inl reset_known) None ex = absurd (true≢false (sym reset_known ∙ ap is_some ex))
      by r is (inr whole) None ex = (let told = end_told r (lawful a b h w ok s n r is) (no_news r is) ex whole in inr (rw (ex, whole, told) refl))

  -- once the owner finished, and all was sent, the stream is delivered
  pub is_read : (l : SendLane) → sending w s n ≡ Some l → l.was_reset ≡ None → l.fin_acked ≡ true → l.sent_end ≡ l.written → IsReadAtBoth w s n
  is_read l at none = read_at_both a b h w ok s n l at none (acked l at none) no_news (keeps s)

  -- a reader that stopped
  pub is_stopped : (r : RecvLane) (code : ℕ) → receiving w s n ≡ Some r → r.stop_code ≡ Some code → IsResetAtBoth w s n ⊎ IsReadAtBoth w s n ⊎ IsLeftToOwner w s n
  is_stopped r code is stop = by_reset r.reset_code refl (is_whole r) refl
    where
      sized : (size : ℕ) → r.final_size ≡ Some size → r.reset_code ≡ None → IsResetAtBoth w s n ⊎ IsReadAtBoth w s n ⊎ IsLeftToOwner w s n
      sized size final none = by_sender (final_size_is_declared a b h w ok s n r size is final).0 (final_size_is_declared a b h w ok s n r size is final).1
        where
          by_sender : (l : SendLane) → sending w s n ≡ Some l → IsResetAtBoth w s n ⊎ IsReadAtBoth w s n ⊎ IsLeftToOwner w s n
          by_sender l at = go l.was_reset refl
            where
              go : (x : Option Reset) → l.was_reset ≡ x → IsResetAtBoth w s n ⊎ IsReadAtBoth w s n ⊎ IsLeftToOwner w s n
              go (Some reset) e = inl (is_reset l reset at e)
              go None e =
                  let ended = end_sent a b h w ok s n l r size at is final none in
                  inr (inl (is_read l at e (end_acked (end_of w s) (rest s) n l at e ended.0 ended.1) ended.1))

      by_whole : (o : Option ℕ) → r.final_size ≡ o → whole_to r.arrived.received o ≡ true → r.reset_code ≡ None → IsResetAtBoth w s n ⊎ IsReadAtBoth w s n ⊎ IsLeftToOwner w s n
      by_whole None e whole none = absurd (false≢true whole)
      by_whole (Some size) e whole none = sized size e none

      by_reset : (x : Option ℕ) → r.reset_code ≡ x → (c : Bool) → is_whole r ≡ c → IsResetAtBoth w s n ⊎ IsReadAtBoth w s n ⊎ IsLeftToOwner w s n
      by_reset (Some known) e c ec =
          let (l, size, at, reset) = reset_code_is_the_senders a b h w ok s n r known is e in
          inl (is_reset l _ at reset)
      by_reset None e true ec = by_whole r.final_size refl ec e
      by_reset None e false ec =
          let acked = items_acked (end_of w (other s)) (StopSending n code) (rest (other s)) (r, is, stop, e, ec) in
          let (other_code, told) = ((keeps (other s)).acked.stops n acked) in
          let (l, at, came) = taken_here a b h w ok keeps s (StopSending n other_code) told in
          elim came [
            | inl reset ↦ (let (x, ex) = some_of l.was_reset reset in inl (is_reset l x at ex))
            | inr other ↦ (elim other [ inl all ↦ by_all l at all l.was_reset refl | inr asked ↦ by_owner l at asked.0 asked.1 l.was_reset refl ])
          ]
        where
          by_all : (l : SendLane) → sending w s n ≡ Some l → IsAllAcked l → (x : Option Reset) → l.was_reset ≡ x → IsResetAtBoth w s n ⊎ IsReadAtBoth w s n ⊎ IsLeftToOwner w s n
          by_all l at all (Some reset) ex = inl (is_reset l reset at ex)
          by_all l at all None ex = inr (inl (is_read l at ex all.end (whole_sent l at all)))

          by_owner : (l : SendLane) → sending w s n ≡ Some l → (end_of w s).tuning.answers_stops ≡ true → is_some l.stopped ≡ true → (x : Option Reset) → l.was_reset ≡ x → IsResetAtBoth w s n ⊎ IsReadAtBoth w s n ⊎ IsLeftToOwner w s n
          by_owner l at chosen told (Some reset) ex = inl (is_reset l reset at ex)
          by_owner l at chosen told None ex = inr (inr (chosen, l, at, told, ex))

module _ (a b : Settings) (h : History) (w : World) (ok : WorldOk a b h w) (keeps : (s : Side) → RestOk (past s h) (end_of w s)) (rest : (s : Side) → AtRest (end_of w s)) (s : Side) where
  slot : (n : ℕ) → (value highest (receiving w s n) ≡ value (λ l. l.sent_end) (sending w s n)) × (value taken (receiving w s n) ≡ value (λ l. l.sent_end) (sending w s n))
  slot n = slots a b h w ok keeps rest s n (sending w s n) (receiving w s n) refl refl

  pub all_spent : spent (end_of w (other s)) ≡ all_sent (end_of w s)
  all_spent =
      omega (
        arith,
        total_le highest (λ l. l.sent_end) (end_of w (other s)).recvs (end_of w s).sends (λ n. omega (arith, (slot n).0)),
        total_le (λ l. l.sent_end) highest (end_of w s).sends (end_of w (other s)).recvs (λ n. omega (arith, (slot n).0)),
      )

  pub all_was_taken : all_taken (end_of w (other s)) ≡ all_sent (end_of w s)
  all_was_taken =
      omega (
        arith,
        total_le taken (λ l. l.sent_end) (end_of w (other s)).recvs (end_of w s).sends (λ n. omega (arith, (slot n).1)),
        total_le (λ l. l.sent_end) taken (end_of w s).sends (end_of w (other s)).recvs (λ n. omega (arith, (slot n).1)),
      )

  none_stored : all_stored (end_of w (other s)) ≡ 0
  none_stored =
      omega (
        arith,
        all_spent,
        all_was_taken,
        total_both (λ l. fmap.len l.arrived.stored) taken (end_of w (other s)).recvs,
        total_le (λ l. fmap.len l.arrived.stored + taken l) highest (end_of w (other s)).recvs (end_of w (other s)).recvs (λ n. reader_paid a b h w ok keeps rest s n (receiving w s n) refl),
      )

  pub credit_is_whole : CreditIsWhole h w s
  credit_is_whole =
      record {
        is_spent = all_spent;
        is_taken = all_was_taken;
        none_stored = none_stored;
        streams = λ n l r at is.
            let high : highest r ≡ l.sent_end = highest_sent a b h w ok keeps rest s n l r at is in
            let paid : taken r ≡ l.sent_end = taken_sent a b h w ok keeps rest s n l r at is in
            (high, paid, omega (arith, high, paid, stored_and_taken r (lawful a b h w ok s n r is)));
        alone = λ n l at none. sent_alone a b h w ok keeps rest s n l at none;
      }

  pub resets_are_final : ResetsAreFinal h w s
  resets_are_final =
      record {
        resets = λ n l at is. (let (reset, e) = some_of l.was_reset is in is_reset a b h w ok keeps rest s n l reset at e);
        stops = λ n r at is. (let (code, e) = some_of r.stop_code is in is_stopped a b h w ok keeps rest s n r code at e);
      }

pub each_credit_whole : AtEachRest CreditIsWhole
each_credit_whole a b h w run rest s = credit_is_whole a b h w (run_keeps a b h w run) (every_run_keeps a b h w run) rest s

pub each_reset_final : AtEachRest ResetsAreFinal
each_reset_final a b h w run rest s = resets_are_final a b h w (run_keeps a b h w run) (every_run_keeps a b h w run) rest s
