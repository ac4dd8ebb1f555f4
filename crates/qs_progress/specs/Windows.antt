-- Trusted.
-- All that is written is read in time, and rest comes, and a number of windows bounds how many rounds that takes. The whole file is ours, but
-- that a clause names its section of RFC 9000.
use Rattle.std.specs.Prelude.{◌≡◌, ℕ, suc, ◌+◌, ◌-◌, ◌*◌, ◌/◌, ◌≤◌, Bool, false, not, List, None, Some}
use Rattle.std.specs.List.{range_with_len, sum_by}
use Rattle.qs_recv.specs.Lane.{RecvLane, step}
use Rattle.qs_send.specs.Lane.{SendLane}
use Rattle.qs_calls.specs.declared.settings.Settings.{Settings}
use Rattle.qs_calls.specs.declared.event.Side.{Side}
use Rattle.qs_calls.specs.declared.event.Side.TheVariants.{A, B}
use Rattle.qs_machine.specs.Tables.{total}
use Rattle.qs_machine.specs.Ends.{End, send_lane, recv_lane, first_window}
use Rattle.qs_machine.specs.Credit.{all_sent}
use Rattle.qs_runs.specs.Logs.{other, stopped, broken_off, written, read}
use Rattle.qs_runs.specs.Worlds.{end_of}
use Rattle.qs_rest.specs.Resting.{HasRoom}
use Rattle.qs_progress.specs.Laps.{Moment}
use Rattle.qs_progress.specs.Rounds.{Way, Round}
use Rattle.qs_progress.specs.Comes.{Course, how_many, IsReached, BothOpen, BothRest, IsComplete}

-- how wide an end's windows are at least, each less its step: that of the connection, and that of each stream
pub record Widths : Type 0 where
  pub conn : ℕ
  pub streams : ℕ → ℕ

-- so wide are an end's windows less their steps: of the connection, of each stream that is open, and of each one that isn't yet. So much
-- a reader leaves of a window at least, less one (RFC 9000, section 4.2).
pub record AreAsWide (k : Widths) (e : End) : Type 0 where
  pub conn : k.conn + step e.tuning.credit_step e.present.conn_window ≤ e.present.conn_window
  pub opened : (n : ℕ) (r : RecvLane) → recv_lane e n ≡ Some r → k.streams n + step r.share r.window ≤ r.window
  pub unopened : (n : ℕ) → recv_lane e n ≡ None → k.streams n + step e.tuning.credit_step (first_window e n) ≤ first_window e n

-- a round that leaves them so
abbrev pub WideRound : Way → (Side → Widths) → Moment → Moment → Type 0
WideRound way k old new = Round way old new × ((s : Side) → AreAsWide (k s) (end_of new.ends s))

-- ROUNDS LEAVE WINDOWS AS WIDE: nothing is set in one.
abbrev pub RoundsLeaveWidths : Type 0
RoundsLeaveWidths = (way : Way) (k : Side → Widths) (old new : Moment) → ((s : Side) → AreAsWide (k s) (end_of old.ends s)) → Round way old new → WideRound way k old new

-- how many bytes of a stream were sent
abbrev pub sent_on : End → ℕ → ℕ
sent_on e n = elim (send_lane e n) [ None ↦ 0 | Some l ↦ l.sent_end ]

-- how many sending halves an end has: no stream's index is as great
abbrev pub senders : End → ℕ
senders e = total (λ (l : SendLane). 1) e.sends

-- how many such widths, and a byte more for each, an end's first sendings filled from one moment to another: of the connection, and of each
-- of its streams
abbrev pub filled : Widths → End → End → ℕ
filled k old new =
    (all_sent new - all_sent old) / suc k.conn
    + sum_by (λ n. (sent_on new n - sent_on old n) / suc (k.streams n)) (range_with_len 0 (4 * senders new))

-- In every run, from each moment on, as long as neither end closes, and each sent fewer than 2^62 - 1 bytes: so many rounds at most begin
-- where this doesn't hold, two for each width that is filled, so many for each stretch, and as many.
abbrev pub ComesByWindows : ℕ → (Moment → Type 0) → Type 0
ComesByWindows each P =
    (way : Way) (a b : Settings) (k : Side → Widths) (parts : List Bool) (old new : Moment) → IsReached a b old →
    Course (λ v w. Round way v w × ((s : Side) → AreAsWide (k s) (end_of w.ends s))) P parts old new → BothOpen new.ends → ((s : Side) → HasRoom new.ends s) →
    how_many (λ step. step) parts ≤ 2 * (filled (k B) old.ends.a new.ends.a + filled (k A) old.ends.b new.ends.b) + each * how_many not parts + each

-- all that was written was read, but on streams that were broken off or stopped
abbrev pub IsAllRead : Moment → Type 0
IsAllRead m = (s : Side) (n : ℕ) → broken_off s n m.log ≡ false → stopped (other s) n m.log ≡ false → read (other s) n m.log ≡ written s n m.log

-- ALL IS READ: three for each stretch.
abbrev pub AllIsReadInRounds : Type 0
AllIsReadInRounds = ComesByWindows 3 IsAllRead

-- REST COMES, and with it all that holds at rest: five for each stretch.
abbrev pub RestComesInRounds : Type 0
RestComesInRounds = ComesByWindows 5 (λ m. BothRest m.ends)

abbrev pub AllComesInRounds : Type 0
AllComesInRounds = ComesByWindows 5 (λ m. IsComplete m.log m.ends)
