-- At rest no limit holds a stream back, and what was written was read.
use Rattle.std.proofs.Common.{◌≡◌, ℕ, ◌<◌, ◌≤◌, true, false, length, take, Option, Some, None, refl, sym, ap, ◌∙◌, subst, arith, inl, inr, length-append}
use Rattle.std.proofs.lemmas.Bool.{cases_lt, cond_both}
use Rattle.std.proofs.Math.Seq.{take-length}
use Rattle.qs_ranges.specs.Numbers.{MAX_VARINT}
use Rattle.qs_wire.specs.declared.stream_id.Role.{Role}
use Rattle.qs_recv.specs.Lane.{RecvLane, taken, next_limit}
use Rattle.qs_send.specs.Lane.{SendLane}
use Rattle.qs_calls.specs.declared.settings.Settings.{Settings}
use Rattle.qs_calls.specs.declared.event.Side.{Side}
use Rattle.qs_machine.specs.Ends.{is_uni, is_own_by, first_window_by, first_send_limit}
use Rattle.qs_machine.specs.Credit.{all_sent, all_taken}
use Rattle.qs_machine.proofs.CallsSound.{WindowsFit, windows_fit}
use Rattle.qs_runs.specs.Logs.{History, other, stopped, broken_off, read, written}
use Rattle.qs_runs.specs.Worlds.{World, end_of}
use Rattle.qs_runs.specs.Pasts.{past}
use Rattle.qs_runs.specs.Clauses.{sending, receiving}
use Rattle.qs_runs.specs.Invariant.{WorldOk, SendSlot}
use Rattle.qs_runs.proofs.Lists.{same_length_prefix}
use Rattle.qs_runs.proofs.Clauses.{prefix}
use Rattle.qs_runs.proofs.Runs.{run_keeps}
use Rattle.qs_rest.specs.Invariant.{RestOk}
use Rattle.qs_rest.specs.Rest.{AtRest}
use Rattle.qs_rest.specs.Resting.{AtEachRest, OnceLimitsKnown, KnowsFirstLimits, HasRoom, IsReadAtBoth, IsAhead, HasCreditAhead, AllIsDelivered}
use Rattle.qs_rest.proofs.Runs.{every_run_keeps}
use Rattle.qs_rest.proofs.Telling.{full, ahead, all_or_limit, end_acked}
use Rattle.qs_rest.proofs.Resting.{limits_known, window_known}
use Rattle.qs_rest.proofs.OneStream.{lawful, sender_ok, not_reset, no_reset_known, acked_sent, end_sent, sent_is_read}
use Rattle.qs_rest.proofs.Streams.{no_news, acked, sent_alone, taken_sent, all_was_taken, is_read}

-- each window is at least one byte
some_window : (role : Role) (s : Settings) (n : ℕ) → WindowsFit s → 1 ≤ first_window_by role s n
some_window role s n h =
    cond_both (is_uni n) s.uni _ (λ x. 1 ≤ x) (λ _. h.uni.0) (λ _.
    cond_both (is_own_by role n) s.bidi_local s.bidi_remote (λ x. 1 ≤ x) (λ _. h.local.0) (λ _. h.remote.0))

module _ (a b : Settings) (h : History) (w : World) (ok : WorldOk a b h w) (keeps : (s : Side) → RestOk (past s h) (end_of w s)) (rest : (s : Side) → AtRest (end_of w s)) (s : Side) (told : KnowsFirstLimits w s) where
  -- the connection's limit isn't used up
  has_credit : HasRoom w s → all_sent (end_of w s) < (end_of w s).known_data
  has_credit room =
      elim (cases_lt (all_sent (end_of w s)) (end_of w s).known_data) [
        | inl lt ↦ lt
        | inr le ↦ (
            let grants : (end_of w s).known_data ≡ (end_of w (other s)).granted = (limits_known a b h w ok keeps rest s told).connection in
            let within : all_sent (end_of w s) ≤ (end_of w s).known_data = (ok.ends s).credit.sent_known in
            let paid : all_taken (end_of w (other s)) ≡ all_sent (end_of w s) = all_was_taken a b h w ok keeps rest s in
            let same : all_taken (end_of w (other s)) ≡ (end_of w (other s)).granted = omega (arith, le, grants, within, paid) in
            let settled : next_limit (end_of w (other s)).granted (end_of w (other s)).granted (end_of w (other s)).present.conn_window (end_of w (other s)).tuning.credit_step ≡ (end_of w (other s)).granted =
            subst (λ t. next_limit (end_of w (other s)).granted t (end_of w (other s)).present.conn_window (end_of w (other s)).tuning.credit_step ≡ (end_of w (other s)).granted) same (keeps (other s)).limits.connection in
            let top : MAX_VARINT ≤ (end_of w (other s)).granted = full (end_of w (other s)).granted (end_of w (other s)).present.conn_window (end_of w (other s)).tuning.credit_step (ok.sound (other s)).0.present.some settled in
            absurd (omega (arith, room, le, grants, within, top)))
      ]

  -- the sender has credit ahead
  conn_ahead : IsAhead (all_sent (end_of w s)) (end_of w s).known_data (end_of w (other s)).present.conn_window (end_of w (other s)).tuning.credit_step
  conn_ahead =
      let grants : (end_of w s).known_data ≡ (end_of w (other s)).granted = (limits_known a b h w ok keeps rest s told).connection in
      let paid : all_taken (end_of w (other s)) ≡ all_sent (end_of w s) = all_was_taken a b h w ok keeps rest s in
      elim (ahead (end_of w (other s)).granted (all_taken (end_of w (other s))) (end_of w (other s)).present.conn_window (end_of w (other s)).tuning.credit_step (keeps (other s)).limits.connection) [
        | inl more ↦ inl (omega (arith, more, grants, paid))
        | inr top ↦ inr (omega (arith, top, grants))
      ]

  stream_ahead : (n : ℕ) (l : SendLane) (r : RecvLane) → sending w s n ≡ Some l → receiving w s n ≡ Some r → r.final_size ≡ None → IsAhead l.sent_end l.limit r.window r.share
  stream_ahead n l r at is e =
      let known : l.limit ≡ r.limit = (limits_known a b h w ok keeps rest s told).streams n l r at is e in
      let paid : taken r ≡ l.sent_end = taken_sent a b h w ok keeps rest s n l r at is in
      elim (ahead r.limit (taken r) r.window r.share ((keeps (other s)).limits.streams n r is e)) [
        | inl more ↦ inl (omega (arith, more, known, paid))
        | inr top ↦ inr (omega (arith, top, known))
      ]

  pub credit_ahead : HasCreditAhead h w s
  credit_ahead = record { connection = conn_ahead; streams = stream_ahead }

  module _ (n : ℕ) (l : SendLane) (at : sending w s n ≡ Some l) (none : l.was_reset ≡ None) where
    some_limit : 1 ≤ l.limit
    some_limit =
        omega (
          arith,
          some_window (end_of w (other s)).role (end_of w (other s)).settings n (windows_fit (end_of w (other s)).settings (ok.sound (other s)).0.settings),
          window_known a b h w ok keeps rest s told n,
          ((keeps s).sends n l at).first_limit,
        )

    -- nor is its own limit
    below_limit : l.sent_end < l.written → l.limit ≤ l.sent_end → ⊥
    below_limit more blocked = by (receiving w s n) refl
      where
        at_limit : l.sent_end ≤ l.limit
        at_limit = (sender_ok a b h w ok s n l at).sent_limit

        raised : (r : RecvLane) → receiving w s n ≡ Some r → r.final_size ≡ None → ⊥
        raised r is e =
            let known : l.limit ≡ r.limit = (limits_known a b h w ok keeps rest s told).streams n l r at is e in
            let paid : taken r ≡ l.sent_end = taken_sent a b h w ok keeps rest s n l r at is in
            let same : taken r ≡ r.limit = omega (arith, known, paid, blocked, at_limit) in
            let settled : next_limit r.limit r.limit r.window r.share ≡ r.limit = subst (λ t. next_limit r.limit t r.window r.share ≡ r.limit) same ((keeps (other s)).limits.streams n r is e) in
            let top : MAX_VARINT ≤ r.limit = full r.limit r.window r.share (lawful a b h w ok s n r is).some_window settled in
            let small : l.written ≤ MAX_VARINT = ((keeps s).sends n l at).small in
            omega (arith, top, small, more, known, blocked)

        sized : (r : RecvLane) → receiving w s n ≡ Some r → (o : Option ℕ) → r.final_size ≡ o → ⊥
        sized r is None e = raised r is e
        sized r is (Some size) e =
            let whole = (end_sent a b h w ok s n l r size at is e (no_reset_known a b h w ok s n l r at is none)).1 in
            omega (arith, whole, more)

        by : (y : Option RecvLane) → receiving w s n ≡ y → ⊥
        by None e = omega (arith, sent_alone a b h w ok keeps rest s n l at e, blocked, some_limit)
        by (Some r) e = sized r e r.final_size refl

    pub all_is_sent : HasRoom w s → l.sent_end ≡ l.written
    all_is_sent room =
        elim (all_or_limit (end_of w s) (rest s) n l at none (λ q acked. acked_sent a b h w ok s n l q at acked)) [
          | inl whole ↦ omega (arith, whole, (sender_ok a b h w ok s n l at).sent_written)
          | inr held ↦ elim held [
            | inl own ↦ absurd (below_limit own.0 own.1)
            | inr conn ↦ absurd (omega (arith, conn, has_credit room))
          ]
        ]

    pub all_is_read : HasRoom w s → stopped (other s) n h ≡ false → read (other s) n h ≡ written s n h
    all_is_read room going =
        let count : length (written s n h) ≡ l.sent_end = (sender_ok a b h w ok s n l at).count ∙ sym (all_is_sent room) in
        sent_is_read a b h w ok s n l at none (acked a b h w ok keeps rest s n l at none) (no_news a b h w ok keeps rest s n) going ∙ ap (λ k. take k (written s n h)) (sym count) ∙ take-length (written s n h)

    pub all_has_ended : HasRoom w s → l.finished ≡ true → IsReadAtBoth w s n
    all_has_ended room finished =
        let whole = all_is_sent room in
        is_read a b h w ok keeps rest s n l at none (end_acked (end_of w s) (rest s) n l at none finished whole) whole

  -- by the log alone
  all_streams : HasRoom w s → (n : ℕ) → broken_off s n h ≡ false → stopped (other s) n h ≡ false → read (other s) n h ≡ written s n h
  all_streams room n unbroken going = by (sending w s n) refl
    where
      by : (x : Option SendLane) → sending w s n ≡ x → read (other s) n h ≡ written s n h
      by (Some l) e = all_is_read n l e (not_reset a b h w ok s n l e unbroken going) room going
      by None e =
          let slot = subst (SendSlot (past s h) n (first_send_limit (end_of w s) n)) e ((ok.ends s).sends n) in
          let (left, is) = (prefix a b h w ok s n).prefix in
          let nothing : length (read (other s) n h) ≡ 0 = omega (arith, length-append (read (other s) n h) left, ap length is, ap length slot.no_bytes) in
          same_length_prefix _ _ (left, is) (nothing ∙ sym (ap length slot.no_bytes))

  pub all_is_delivered : AllIsDelivered h w s
  all_is_delivered room =
      record {
        halves = λ n l at none. record {
          is_sent = all_is_sent n l at none room;
          is_read = λ going. all_is_read n l at none room going;
          is_ended = λ finished. all_has_ended n l at none room finished;
        };
        streams = all_streams room;
      }

pub each_credit_ahead : AtEachRest (OnceLimitsKnown HasCreditAhead)
each_credit_ahead a b h w run rest s told = credit_ahead a b h w (run_keeps a b h w run) (every_run_keeps a b h w run) rest s told

pub each_delivered : AtEachRest (OnceLimitsKnown AllIsDelivered)
each_delivered a b h w run rest s told = all_is_delivered a b h w (run_keeps a b h w run) (every_run_keeps a b h w run) rest s told
