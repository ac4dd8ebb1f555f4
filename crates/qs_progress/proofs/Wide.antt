-- A call that sets nothing leaves windows as they were: of the connection, of each stream that is open, and of each one that it opens.
use Rattle.std.proofs.Common.{◌≡◌, ℕ, ◌&&◌, List, [], ◌∷◌, take, Option, Some, None, refl, sym, ap, ◌∙◌, subst, arith, inl, inr}
use Rattle.std.proofs.lemmas.Bool.Decides.{nat_tests}
use Rattle.std.proofs.lemmas.Bool.{cases_eq, cond_both}
use Rattle.qs_wire.specs.declared.stream_id.Dir.TheVariants.{Uni}
use Rattle.qs_recv.specs.Lane.{RecvLane, new_lane as new_recv_lane, take_stream, take_reset, after_read, after_answer, read_answer, stop, stop_and_discard, raise}
use Rattle.qs_recv.specs.declared.credit.Share.{Share}
use Rattle.qs_recv.specs.declared.half.Read.{Read}
use Rattle.qs_send.specs.declared.piece.Item.TheVariants.{MaxStreamData, MaxStreams, ResetStream, StopSending, StreamDataBlocked}
use Rattle.qs_calls.specs.declared.event.Side.{Side}
use Rattle.qs_machine.specs.Tables.{lookup, update, updated, open_to, each}
use Rattle.qs_machine.specs.Ends.{End, recv_lane, is_own, is_uni, on_recv, opens, opened_by_peer, first_window}
use Rattle.qs_machine.specs.Seen.{Seen, Ack, Stream, Control}
use Rattle.qs_machine.specs.FrameStep.{frame_taken, acks, named}
use Rattle.qs_machine.specs.Lawful.{frame_put}
use Rattle.qs_machine.specs.EndStep.{Call, Answer, EndStep}
use Rattle.qs_machine.proofs.EveryCall.{Change, changed, Comes, relates, Wanted, Opened, Stopped, WasRead, WasSet, Took, Acked, Put, Settled, Forgotten}
use Rattle.qs_machine.proofs.Leaves.{but_sending, acks_leave, put_leaves}
use Rattle.qs_machine.proofs.TableLaws.{lookup_same, lookup_other, lookup_open, lookup_each}
use Rattle.qs_runs.specs.Logs.{other}
use Rattle.qs_runs.specs.Worlds.{end_of}
use Rattle.qs_runs.proofs.Histories.{two_sides}
use Rattle.qs_progress.specs.Laps.{Moment, Trail}
use Rattle.qs_progress.specs.Windows.{Widths, AreAsWide, RoundsLeaveWidths}
use Rattle.qs_progress.specs.ExclusionsWindows.{IsAsWide}
use Rattle.qs_progress.proofs.From.{window_by}
use Rattle.qs_progress.proofs.Unwritten.{IsUnwritten, round_on}

-- the window of a stream, and the share of it after which it moves; of one that isn't open those that it begins with
abbrev width_of : End → ℕ → Option RecvLane → ℕ × Share
width_of e n None = (first_window e n, e.tuning.credit_step)
width_of e n (Some r) = (r.window, r.share)

abbrev width_at : End → ℕ → ℕ × Share
width_at e n = width_of e n (recv_lane e n)

abbrev Keeps : End → End → Type 0
Keeps e f = (f.present.conn_window ≡ e.present.conn_window) × (f.tuning.credit_step ≡ e.tuning.credit_step) × ((n : ℕ) → width_at f n ≡ width_at e n)

stays : (e : End) → Keeps e e
stays e = (refl, refl, λ n. refl)

in_turn : (e f g : End) → Keeps e f → Keeps f g → Keeps e g
in_turn e f g x y = (y.0 ∙ x.0, y.1 ∙ x.1, λ n. y.2 n ∙ x.2 n)

-- where but the sending side is as it was
left : (e f : End) → but_sending f ≡ but_sending e → Keeps e f
left e f is = (ap (λ (x : End). x.present.conn_window) is, ap (λ (x : End). x.tuning.credit_step) is, λ n. ap (λ (x : End). width_of x n (recv_lane x n)) is)

abbrev SameWidth : (RecvLane → RecvLane) → Type 0
SameWidth f = (l : RecvLane) → ((f l).window ≡ l.window) × ((f l).share ≡ l.share)

one_edited : (n : ℕ) (f : RecvLane → RecvLane) (e : End) → SameWidth f → Keeps e (on_recv n f e)
one_edited n f e same = (refl, refl, go (recv_lane e n) refl)
  where
    go : (o : Option RecvLane) → recv_lane e n ≡ o → (m : ℕ) → width_of e m (lookup (updated e.recvs n f o) m) ≡ width_at e m
    go None is m = refl
    go (Some x) is m =
        elim (cases_eq m n) [
          | inl e2 ↦ (
              let after : width_of e m (lookup (update e.recvs n (f x)) m) ≡ ((f x).window, (f x).share) = ap (width_of e m) (ap (lookup (update e.recvs n (f x))) e2 ∙ lookup_same e.recvs n x (f x) is) in
              let before : width_at e m ≡ (x.window, x.share) = ap (width_of e m) (ap (lookup e.recvs) e2 ∙ is) in
              let (window, share) = same x in
              after ∙ (λ i. (window i, share i)) ∙ sym before)
          | inr ne ↦ ap (width_of e m) (lookup_other e.recvs n m (f x) ne)
        ]

one_opens : (n : ℕ) (e : End) → Keeps e (opens n e)
one_opens n e = (refl, refl, λ m. by m)
  where
    begin : ℕ → RecvLane
    begin m = new_recv_lane (first_window e n) e.tuning.credit_step

    new_one : (m : ℕ) → width_of e m (lookup (open_to e.recvs n (λ m. new_recv_lane (first_window e n) e.tuning.credit_step)) m) ≡ width_at e m
    new_one m =
        elim (lookup_open e.recvs n m (λ m. new_recv_lane (first_window e n) e.tuning.credit_step)) [
          | inl as_was ↦ ap (width_of e m) as_was
          | inr new ↦ ap (width_of e m) new.3 ∙ ap (λ w. (w, e.tuning.credit_step)) (sym (window_by e n m new.1)) ∙ sym (ap (width_of e m) new.0)
        ]

    by : (m : ℕ) → width_at (opens n e) m ≡ width_at e m
    by m = cond_both (is_uni n && is_own e n) e.recvs _ (λ t. width_of e m (lookup t m) ≡ width_at e m) (λ _. refl) (λ _. new_one m)

peer_opens : (n : ℕ) (e : End) → Keeps e (opened_by_peer n e)
peer_opens n e = cond_both (is_own e n) e (opens n e) (Keeps e) (λ _. stays e) (λ _. one_opens n e)

then_edited : (n : ℕ) (f : RecvLane → RecvLane) (e : End) → SameWidth f → Keeps e (on_recv n f (opened_by_peer n e))
then_edited n f e same = in_turn e (opened_by_peer n e) (on_recv n f (opened_by_peer n e)) (peer_opens n e) (one_edited n f (opened_by_peer n e) same)

all_settled : (e f : End) → (f.present.conn_window ≡ e.present.conn_window) → (f.tuning.credit_step ≡ e.tuning.credit_step) → ((n : ℕ) → first_window f n ≡ first_window e n) → f.recvs ≡ each raise e.recvs → Keeps e f
all_settled e f conn share first is = (conn, share, λ n. by n (recv_lane e n) refl)
  where
    by : (n : ℕ) (o : Option RecvLane) → recv_lane e n ≡ o → width_at f n ≡ width_at e n
    by n None at = (let there = ap (λ t. lookup t n) is ∙ lookup_each raise e.recvs n in rw (there, at) (λ i. (first n i, share i)))
    by n (Some l) at = (let there = ap (λ t. lookup t n) is ∙ lookup_each raise e.recvs n in rw (there, at) refl)

read_same : (size : ℕ) → SameWidth (λ l. after_read l size)
read_same size l = by (read_answer l size)
  where
    by : (answer : Read) → ((after_answer answer l size).window ≡ l.window) × ((after_answer answer l size).share ≡ l.share)
    by answer = grind arith

reset_same : (code size : ℕ) → SameWidth (λ l. take_reset l code size)
reset_same code size l = grind (arith, nat_tests)

stop_same : (code : ℕ) → SameWidth (λ l. stop l code)
stop_same code l = grind (arith, nat_tests)

discard_same : (code : ℕ) → SameWidth (λ l. stop_and_discard l code)
discard_same code l = grind (arith, nat_tests, stop_same)

took : (f : Seen) (e : End) → Keeps e (frame_taken f e)
unfolding frame_taken
took (Ack largest ranges) e = left e (acks (named e ranges) e) (acks_leave (named e ranges) e)
took (Stream n offset bytes fin) e = then_edited n (λ l. take_stream l offset bytes fin) e (λ l. (refl, refl))
took (Control (MaxStreamData n m)) e = peer_opens n e
took (Control (MaxStreams Uni m)) e = stays e
took (Control (ResetStream n code size)) e = then_edited n (λ l. take_reset l code size) e (reset_same code size)
took (Control (StopSending n code)) e = peer_opens n e
took (Control (StreamDataBlocked n m)) e = peer_opens n e
took f e = stays e

change : (old : End) (call : Call) → IsUnwritten call → (c : Change) (e : End) → Comes old call e c → Keeps e (changed c e)
change old call unset (Wanted Uni count) e comes = stays e
change old call unset (Opened n) e comes = one_opens n e
change old call unset (Stopped n code) e comes = one_edited n (λ m. stop m code) e (stop_same code)
change old call unset (Forgotten n code) e comes = one_edited n (λ m. stop_and_discard m code) e (discard_same code)
change old call unset (WasRead n size) e comes = one_edited n (λ m. after_read m size) e (read_same size)
change old call unset (WasSet x) e comes = absurd (subst IsUnwritten comes.1 unset)
change old call unset (Took f) e comes = took f e
change old call unset (Acked count ranges) e comes = left e (acks (take count (named e ranges)) e) (acks_leave (take count (named e ranges)) e)
change old call unset (Put f) e comes = left e (frame_put f e) (put_leaves f e)
change old call unset Settled e comes = all_settled e (changed Settled e) refl refl (λ n. refl) refl
change old call unset c e comes = stays e

call_keeps : (old : End) (call : Call) (answer : Answer call) (new : End) → IsUnwritten call → EndStep old call answer new → Keeps old new
call_keeps old call answer new unset step = relates Keeps stays in_turn old call (change old call unset) answer new step

-- so an end stays as wide

abbrev Fits : Widths → ℕ → ℕ × Share → Type 0
Fits k n w = IsAsWide (k.streams n) w.0 w.1

stays_wide : (k : Widths) (e f : End) → Keeps e f → AreAsWide k e → AreAsWide k f
stays_wide k e f same wide =
    record {
      conn = subst (IsAsWide k.conn f.present.conn_window) (sym same.1) (subst (λ w. IsAsWide k.conn w e.tuning.credit_step) (sym same.0) wide.conn);
      opened = λ n r at. subst (Fits k n) (sym (same.2 n) ∙ ap (width_of f n) at) (each_fits n (recv_lane e n) refl);
      unopened = λ n at. subst (Fits k n) (sym (same.2 n) ∙ ap (width_of f n) at) (each_fits n (recv_lane e n) refl);
    }
  where
    each_fits : (n : ℕ) (o : Option RecvLane) → recv_lane e n ≡ o → Fits k n (width_of e n o)
    each_fits n None at = wide.unopened n at
    each_fits n (Some r) at = wide.opened n r at

pub trail_wide : (k : Side → Widths) (ms : List Moment) (old new : Moment) → Trail IsUnwritten old ms new → ((s : Side) → AreAsWide (k s) (end_of old.ends s)) → (s : Side) → AreAsWide (k s) (end_of new.ends s)
trail_wide k [] old new is wide s = subst (λ (m : Moment). AreAsWide (k s) (end_of m.ends s)) (sym is) (wide s)
trail_wide k (m ∷ ms) old new ((x, unset, logged, step), rest) wide s =
    trail_wide k ms m new rest (λ t.
    stays_wide (k t) (end_of old.ends t) (end_of m.ends t)
    (two_sides (λ u. Keeps (end_of old.ends u) (end_of m.ends u)) x.end (call_keeps (end_of old.ends x.end) x.call x.answer (end_of m.ends x.end) unset step.step)
    (subst (Keeps (end_of old.ends (other x.end))) (sym step.still) (stays (end_of old.ends (other x.end)))) t)
    (wide t)) s

pub rounds_leave_widths : RoundsLeaveWidths
rounds_leave_widths w k old new wide round = (let (ms, trail) = round_on w old new round in (round, trail_wide k ms old new trail wide))
