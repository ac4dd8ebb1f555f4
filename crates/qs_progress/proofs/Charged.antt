-- An end that still has more to send two turns later sent more than a width between them.
use Rattle.std.proofs.lemmas.Bool.Decides.{nat_tests}
use Rattle.std.proofs.Common.{◌≡◌, ℕ, suc, ◌+◌, ◌<◌, ◌≤◌, true, Option, Some, None, is_some, refl, sym, ap, ◌∙◌, subst, arith, inl, inr}
use Rattle.std.proofs.lemmas.Bool.{cases_lt, true≢false}
use Rattle.std.proofs.lemmas.Option.{same_Some}
use Rattle.qs_recv.specs.Lane.{RecvLane, taken, read_answer, step}
use Rattle.qs_recv.specs.declared.credit.Share.{Share}
use Rattle.qs_send.specs.Lane.{SendLane}
use Rattle.qs_calls.specs.declared.event.Side.{Side}
use Rattle.qs_calls.specs.declared.event.Side.TheVariants.{A, B}
use Rattle.qs_calls.specs.declared.settings.Settings.{Settings}
use Rattle.qs_machine.specs.Ends.{first_window, first_window_by}
use Rattle.qs_machine.specs.Credit.{all_sent, all_taken}
use Rattle.qs_machine.proofs.TableLaws.{value, total_le}
use Rattle.qs_runs.specs.Clauses.{sending, receiving}
use Rattle.qs_runs.specs.Invariant.{WorldOk, role_of, settings_of}
use Rattle.qs_runs.specs.Logs.{other}
use Rattle.qs_runs.specs.Pasts.{past}
use Rattle.qs_runs.specs.Worlds.{end_of}
use Rattle.qs_runs.proofs.Runs.{run_keeps}
use Rattle.qs_rest.specs.Invariant.{RestOk}
use Rattle.qs_rest.specs.Rest.{TellsNoNews}
use Rattle.qs_rest.specs.Resting.{HasRoom}
use Rattle.qs_rest.proofs.OneStream.{end_sent, no_reset_known}
use Rattle.qs_rest.proofs.Runs.{every_run_keeps}
use Rattle.qs_rest.proofs.Telling.{ahead}
use Rattle.qs_progress.specs.Laps.{Moment}
use Rattle.qs_progress.specs.Comes.{IsReached}
use Rattle.qs_progress.specs.Windows.{Widths, AreAsWide, sent_on}
use Rattle.qs_progress.proofs.Onward.{Later, end_twice, value_sent}
use Rattle.qs_progress.proofs.Landed.{Landed, data_known, stream_known, first_limit, first_data}
use Rattle.qs_progress.proofs.Paid.{paid_back}

-- a step is a byte at least
step_some : (share : Share) (w : ℕ) → 1 ≤ step share w
step_some share w = grind (arith, nat_tests)

module _ (a b : Settings) where
  -- a sender knows the limits that were told
  pub record Knows (s : Side) (m : Moment) : Type 0 where
    pub conn : (end_of m.ends (other s)).settings.conn_window < (end_of m.ends (other s)).granted → (end_of m.ends (other s)).granted ≤ (end_of m.ends s).known_data
    pub streams : (n : ℕ) (r : RecvLane) → receiving m.ends s n ≡ Some r → r.final_size ≡ None → first_window (end_of m.ends (other s)) n < r.limit → (l : SendLane) × (sending m.ends s n ≡ Some l) × (r.limit ≤ l.limit)

  pub knows : (s : Side) (m : Moment) → Landed a b (other s) m → Knows s m
  knows A m landed = record { conn = data_known a b B m landed; streams = stream_known a b B m landed }
  knows B m landed = record { conn = data_known a b A m landed; streams = stream_known a b A m landed }

  -- A turn of s, a moment at which the readers of the other end had no news, the end of that round, a turn of the other end, and one of s
  pub record Turns (s : Side) (sent seen end told again : Moment) : Type 0 where
    pub landed : Landed a b s sent
    pub to_seen : Later a b sent seen
    pub to_end : Later a b seen end
    pub from_sent : Later a b sent end
    pub quiet : (n : ℕ) (r : RecvLane) → receiving seen.ends s n ≡ Some r → TellsNoNews (read_answer r 1) r
    pub to_told : Later a b end told
    pub knows_all : Knows s told
    pub to_again : Later a b told again
    pub lands : Landed a b s again

  module _ (s : Side) (sent seen end told again : Moment) (x : Turns s sent seen end told again) (k : Widths) (wide : AreAsWide k (end_of end.ends (other s))) (room : HasRoom again.ends s) where
    keeps : (m : Moment) → IsReached a b m → (t : Side) → RestOk (past t m.log) (end_of m.ends t)
    keeps m r = every_run_keeps a b m.log m.ends r.run

    ok : (m : Moment) → IsReached a b m → WorldOk a b m.log m.ends
    ok m r = run_keeps a b m.log m.ends r.run

    -- what was sent of a stream was paid back
    slot_paid : (n : ℕ) → value (λ (l : SendLane). l.sent_end) (sending sent.ends s n) ≤ value taken (receiving end.ends s n)
    slot_paid n = go (sending sent.ends s n) refl
      where
        go : (o : Option SendLane) → sending sent.ends s n ≡ o → value (λ (l : SendLane). l.sent_end) o ≤ value taken (receiving end.ends s n)
        go None e = omega arith
        go (Some l) e = paid_back a b s sent x.landed n l e seen end x.to_seen x.to_end x.from_sent (x.quiet n)

    all_paid : all_sent (end_of sent.ends s) ≤ all_taken (end_of end.ends (other s))
    all_paid = total_le (λ (l : SendLane). l.sent_end) taken (end_of sent.ends s).sends (end_of end.ends (other s)).recvs slot_paid

    -- The connection

    data_is_known : (end_of end.ends (other s)).granted ≤ (end_of again.ends s).known_data
    data_is_known =
        let grew = (x.to_told.goes (other s)).granted in
        let up = (x.to_again.goes s).known in
        elim (cases_lt (end_of told.ends (other s)).settings.conn_window (end_of told.ends (other s)).granted) [
          | inl more ↦ (let known = x.knows_all.conn more in omega (arith, grew, known, up))
          | inr first ↦ (let low = first_data a b s told x.to_told.is_reached in omega (arith, grew, first, low, up))
        ]

    pub conn_charged : (end_of again.ends s).known_data ≤ all_sent (end_of again.ends s) → all_sent (end_of sent.ends s) + suc k.conn ≤ all_sent (end_of again.ends s)
    conn_charged blocked =
        let e = end_of end.ends (other s) in
        let known = data_is_known in
        let paid = all_paid in
        let width = wide.conn in
        elim (ahead e.granted (all_taken e) e.present.conn_window e.tuning.credit_step (keeps end x.from_sent.is_reached (other s)).limits.connection) [
          | inl more ↦ omega (arith, more, width, paid, known, blocked)
          | inr top ↦ absurd (omega (arith, top, known, blocked, room))
        ]

    -- A stream

    -- its first window is always the same
    window_is : (m : Moment) → IsReached a b m → (n : ℕ) → first_window (end_of m.ends (other s)) n ≡ first_window_by (role_of (other s)) (settings_of a b (other s)) n
    window_is m r n = ap (λ x. first_window_by x.role x.settings n) ((ok m r).stand (other s))

    module _ (n : ℕ) (l : SendLane) (at : sending again.ends s n ≡ Some l) (none : l.was_reset ≡ None) (more : l.sent_end < l.written) (blocked : l.limit ≤ l.sent_end) where
      z_reached : IsReached a b again
      z_reached = x.to_again.is_reached

      -- its first limit is the first window
      first_low : (m : Moment) → IsReached a b m → first_window (end_of m.ends (other s)) n ≤ l.limit
      first_low m r =
          let here = window_is m r n in
          let then = window_is again z_reached n in
          let first = first_limit a b s again z_reached n in
          let low = ((keeps again z_reached s).sends n l at).first_limit in
          omega (arith, here, then, first, low)

      -- no final size is known, for it is still to be sent
      unsized : (m : Moment) → Later a b m again → (r : RecvLane) → receiving m.ends s n ≡ Some r → r.final_size ≡ None
      unsized m later r is = go r.final_size refl
        where
          sized : (t : RecvLane) → receiving again.ends s n ≡ Some t → (o : Option ℕ) → t.final_size ≡ o → is_some o ≡ true → ⊥
          sized t here None e known = true≢false (sym known)
          sized t here (Some size) e known =
              let all = (end_sent a b again.log again.ends (ok again z_reached) s n l t size at here e (no_reset_known a b again.log again.ends (ok again z_reached) s n l t at here none)).1 in
              omega (arith, all, more)

          go : (o : Option ℕ) → r.final_size ≡ o → r.final_size ≡ None
          go None e = e
          go (Some size) e =
              let (t, here, on) = (later.goes (other s)).recvs n r is in
              absurd (sized t here t.final_size refl (on.3 (ap is_some e)))

      -- the sender knows the limit
      limit_known : (r : RecvLane) → receiving told.ends s n ≡ Some r → r.limit ≤ l.limit
      limit_known r is =
          elim (cases_lt (first_window (end_of told.ends (other s)) n) r.limit) [
            | inl above ↦ (
                let (m, here, le) = x.knows_all.streams n r is (unsized told x.to_again r is) above in
                let (j, then, on) = (x.to_again.goes s).sends n m here in
                let same : j ≡ l = same_Some j l (sym then ∙ at) in
                let up : m.limit ≤ l.limit = subst (λ y. m.limit ≤ y.limit) same on.2 in
                omega (arith, le, up))
            | inr below ↦ (let low = first_low told x.to_told.is_reached in omega (arith, below, low))
          ]

      to_z : Later a b end again
      to_z =
          record {
            is_reached = z_reached;
            goes = λ t. end_twice (end_of end.ends t) (end_of told.ends t) (end_of again.ends t) (x.to_told.goes t) (x.to_again.goes t);
            arrived = λ t f is. x.to_again.arrived t f (x.to_told.arrived t f is);
          }

      by_reader : (o : Option RecvLane) → receiving end.ends s n ≡ o → value (λ (j : SendLane). j.sent_end) (sending sent.ends s n) ≤ value taken o → value (λ (j : SendLane). j.sent_end) (sending sent.ends s n) + suc (k.streams n) ≤ l.sent_end
      by_reader None e paid =
          let width = wide.unopened n e in
          let some = step_some (end_of end.ends (other s)).tuning.credit_step (first_window (end_of end.ends (other s)) n) in
          let low = first_low end x.from_sent.is_reached in
          omega (arith, paid, width, some, low, blocked)
      by_reader (Some r) e paid =
          let width = wide.opened n r e in
          let (t, here, on) = (x.to_told.goes (other s)).recvs n r e in
          let known = limit_known t here in
          let grew = on.4 in
          let small = ((keeps again z_reached s).sends n l at).small in
          elim (ahead r.limit (taken r) r.window r.share ((keeps end x.from_sent.is_reached (other s)).limits.streams n r e (unsized end to_z r e))) [
            | inl lots ↦ omega (arith, lots, width, paid, known, grew, blocked)
            | inr top ↦ absurd (omega (arith, top, grew, known, blocked, more, small))
          ]

      pub stream_charged : sent_on (end_of sent.ends s) n + suc (k.streams n) ≤ sent_on (end_of again.ends s) n
      stream_charged =
          let before = value_sent (sending sent.ends s n) in
          let now : sent_on (end_of again.ends s) n ≡ l.sent_end = ap (λ (o : Option SendLane). elim o as (λ _. ℕ) [ None ↦ 0 | Some j ↦ j.sent_end ]) at in
          let all = by_reader (receiving end.ends s n) refl (slot_paid n) in
          omega (arith, before, now, all)
