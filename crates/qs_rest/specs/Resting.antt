-- Trusted.
-- What holds of two ends at rest, in every run (the whole file is ours, but that each clause names its section of RFC 9000).
use Rattle.std.specs.Prelude.{◌≡◌, ℕ, ◌+◌, ◌<◌, ◌≤◌, true, false, ◌⊎◌, None, Some, is_some, Ok}
use Rattle.std.specs.FinMap as fmap
use Rattle.qs_ranges.specs.Numbers.{MAX_VARINT}
use Rattle.qs_wire.specs.declared.stream_id.Dir.{Dir}
use Rattle.qs_recv.specs.Lane.{RecvLane, highest, taken, step, state as recv_state}
use Rattle.qs_recv.specs.declared.credit.Share.{Share}
use Rattle.qs_recv.specs.declared.half.RecvState.TheVariants.{DataRead, ResetRead}
use Rattle.qs_send.specs.Lane.{SendLane, state as send_state}
use Rattle.qs_send.specs.declared.parts.SendState.TheVariants.{DataRecvd, ResetRecvd}
use Rattle.qs_send.specs.declared.piece.Item.{Item}
use Rattle.qs_calls.specs.Settings.{limits_of}
use Rattle.qs_calls.specs.declared.settings.Settings.{Settings}
use Rattle.qs_calls.specs.declared.event.Side.{Side}
use Rattle.qs_machine.specs.Ends.{End, send_lane, recv_lane}
use Rattle.qs_machine.specs.Credit.{spent, all_taken, all_stored, all_sent, granted_streams, next_count}
use Rattle.qs_machine.specs.Due.{IsCurrent, IsAcked, known_count}
use Rattle.qs_machine.specs.Seen.{Control}
use Rattle.qs_machine.specs.EndStep.{RaiseLimits}
use Rattle.qs_runs.specs.Logs.{Happening, History, other, stopped, broken_off, written, read}
use Rattle.qs_runs.specs.Worlds.{World, end_of, WorldStep, Run}
use Rattle.qs_runs.specs.Events.{Log, EventRun}
use Rattle.qs_runs.specs.Pasts.{past}
use Rattle.qs_rest.specs.Invariant.{WasTold, ItemTaken}
use Rattle.qs_rest.specs.Rest.{AtRest}

-- an end at rest has an acknowledgement of all that it is to tell (RFC 9000, section 13.3)
abbrev pub ItemsAreAcked : Type 0
ItemsAreAcked = (e : End) (i : Item) → AtRest e → IsCurrent e i → IsAcked e i

-- in every run, what was told in an acknowledged packet took effect at the peer (RFC 9000, section 13.3)
abbrev pub ToldIsTaken : Type 0
ToldIsTaken = (a b : Settings) (h : History) (w : World) → Run a b h w → (s : Side) (i : Item) → WasTold (past s h) i → ItemTaken (end_of w (other s)) (Control i)

-- what holds of side s as a sender in every run that leaves both ends at rest
abbrev pub AtEachRest : (History → World → Side → Type 0) → Type 0
AtEachRest P = (a b : Settings) (h : History) (w : World) → Run a b h w → ((s : Side) → AtRest (end_of w s)) → (s : Side) → P h w s

-- the end was told its peer's true limits, as it was made or later (RFC 9000, sections 7.4.1 and 18.2)
abbrev pub KnowsFirstLimits : World → Side → Type 0
KnowsFirstLimits w s = (end_of w s).peer ≡ limits_of (end_of w (other s)).settings

-- what holds of a sender that was told them (RFC 9000, section 7.4.1)
abbrev pub OnceLimitsKnown : (History → World → Side → Type 0) → History → World → Side → Type 0
OnceLimitsKnown P h w s = KnowsFirstLimits w s → P h w s

-- whatever happens, an end that was told them knows them
abbrev pub FirstLimitsStay : Type 0
FirstLimitsStay = (a b : Settings) (h : History) (v w : World) (x : Happening) → Run a b h v → WorldStep h v x w → (s : Side) → KnowsFirstLimits v s → KnowsFirstLimits w s

-- and so does one that takes them in
abbrev pub TakenInIsTold : Type 0
TakenInIsTold =
    (a b : Settings) (h : History) (v w : World) (s : Side) → Run a b h v → WorldStep h v (record { end = s; call = RaiseLimits (limits_of (end_of v (other s)).settings); answer = Ok tt }) w → KnowsFirstLimits w s

-- so in each run of events alone both ends know them
abbrev pub EventRunsTell : Type 0
EventRunsTell = (a b : Settings) (log : Log) (w : World) → EventRun a b log w → (s : Side) → KnowsFirstLimits w s

-- A sender knows what its peer grants (RFC 9000, sections 4.1 and 4.6).
pub record KnowsItsLimits (h : History) (w : World) (s : Side) : Type 0 where
  -- the limit on the connection (section 4.1)
  pub connection : (end_of w s).known_data ≡ (end_of w (other s)).granted
  -- the limit of each stream of which no final size came (sections 4.1 and 4.5)
  pub streams : (n : ℕ) (l : SendLane) (r : RecvLane) → send_lane (end_of w s) n ≡ Some l → recv_lane (end_of w (other s)) n ≡ Some r → r.final_size ≡ None → l.limit ≡ r.limit
  -- the counts of streams (section 4.6)
  pub counts : (d : Dir) → known_count (end_of w s) d ≡ granted_streams (end_of w (other s)) d
  -- and these are the next ones: the grant at least, and as many more as ended, in whole steps, up to the lifetime's (section 4.6)
  pub settled : (d : Dir) → granted_streams (end_of w (other s)) d ≡ next_count (end_of w (other s)) d

-- All credit is paid back (RFC 9000, sections 4.1 and 4.2).
pub record CreditIsWhole (h : History) (w : World) (s : Side) : Type 0 where
  -- what was sent is what counts against the connection's limit (section 4.1)
  pub is_spent : spent (end_of w (other s)) ≡ all_sent (end_of w s)
  -- all of it was taken, and so is granted anew (section 4.2)
  pub is_taken : all_taken (end_of w (other s)) ≡ all_sent (end_of w s)
  -- none of it is stored (section 4.1)
  pub none_stored : all_stored (end_of w (other s)) ≡ 0
  -- and so of each stream (sections 4.1 and 4.2)
  pub streams : (n : ℕ) (l : SendLane) (r : RecvLane) → send_lane (end_of w s) n ≡ Some l → recv_lane (end_of w (other s)) n ≡ Some r →
      (highest r ≡ l.sent_end) × (taken r ≡ l.sent_end) × (fmap.len r.arrived.stored ≡ 0)
  -- a stream on which anything was sent is open at the other end (section 2.1)
  pub alone : (n : ℕ) (l : SendLane) → send_lane (end_of w s) n ≡ Some l → recv_lane (end_of w (other s)) n ≡ None → l.sent_end ≡ 0

-- more than a window less a step lies between what was sent and the limit, and so a byte at least; or the limit is the greatest one (RFC
-- 9000, sections 4.1 and 4.2)
abbrev pub IsAhead : (sent limit window : ℕ) → Share → Type 0
IsAhead sent limit window share = (sent + window < limit + step share window) ⊎ (MAX_VARINT ≤ limit)

-- A sender has credit ahead (RFC 9000, sections 4.1 and 4.2).
pub record HasCreditAhead (h : History) (w : World) (s : Side) : Type 0 where
  -- on the connection (section 4.1)
  pub connection : IsAhead (all_sent (end_of w s)) (end_of w s).known_data (end_of w (other s)).present.conn_window (end_of w (other s)).tuning.credit_step
  -- and on each stream of which no final size came (sections 4.1 and 4.5)
  pub streams : (n : ℕ) (l : SendLane) (r : RecvLane) → send_lane (end_of w s) n ≡ Some l → recv_lane (end_of w (other s)) n ≡ Some r → r.final_size ≡ None → IsAhead l.sent_end l.limit r.window r.share

-- the stream is reset: Reset Recvd, and Reset Read, or Data Read where all data had come before (RFC 9000, sections 3.1 and 3.2)
abbrev pub IsResetAtBoth : World → Side → ℕ → Type 0
IsResetAtBoth w s n =
    (l : SendLane) × (r : RecvLane) × (send_lane (end_of w s) n ≡ Some l) × (recv_lane (end_of w (other s)) n ≡ Some r)
    × (send_state l ≡ ResetRecvd) × ((recv_state r ≡ ResetRead) ⊎ (recv_state r ≡ DataRead))

-- the stream is delivered: Data Recvd, and Data Read (RFC 9000, sections 3.1 and 3.2)
abbrev pub IsReadAtBoth : World → Side → ℕ → Type 0
IsReadAtBoth w s n =
    (l : SendLane) × (r : RecvLane) × (send_lane (end_of w s) n ≡ Some l) × (recv_lane (end_of w (other s)) n ≡ Some r) × (send_state l ≡ DataRecvd) × (recv_state r ≡ DataRead)

-- the stream's owner answers a STOP_SENDING: it was told of one, and hasn't reset the stream (RFC 9000, section 3.5)
abbrev pub IsLeftToOwner : World → Side → ℕ → Type 0
IsLeftToOwner w s n =
    ((end_of w s).tuning.answers_stops ≡ true) × (l : SendLane) × (send_lane (end_of w s) n ≡ Some l) × (is_some l.stopped ≡ true) × (l.was_reset ≡ None)

-- Resets and stops come to their end at both ends (RFC 9000, sections 3.1, 3.2 and 3.5).
pub record ResetsAreFinal (h : History) (w : World) (s : Side) : Type 0 where
  -- a stream that was reset (sections 3.1 and 3.2)
  pub resets : (n : ℕ) (l : SendLane) → send_lane (end_of w s) n ≡ Some l → is_some l.was_reset ≡ true → IsResetAtBoth w s n
  -- a stream whose reader stopped: it is reset, or all of it came, or its owner answers that and was told (section 3.5)
  pub stops : (n : ℕ) (r : RecvLane) → recv_lane (end_of w (other s)) n ≡ Some r → is_some r.stop_code ≡ true → IsResetAtBoth w s n ⊎ IsReadAtBoth w s n ⊎ IsLeftToOwner w s n

-- fewer bytes were sent than a limit on the connection can ever allow, 2^62-1 (RFC 9000, sections 4.1 and 16)
abbrev pub HasRoom : World → Side → Type 0
HasRoom w s = all_sent (end_of w s) < MAX_VARINT

-- A stream that wasn't reset (RFC 9000, sections 2.2, 3 and 4.1).
pub record IsDelivered (h : History) (w : World) (s : Side) (n : ℕ) (l : SendLane) : Type 0 where
  -- no limit holds it back: all that was written was sent (section 4.1)
  pub is_sent : l.sent_end ≡ l.written
  -- and read, unless the reader stopped (section 2.2)
  pub is_read : stopped (other s) n h ≡ false → read (other s) n h ≡ written s n h
  -- and once its owner finished, the end too was acknowledged, and told to the reader (sections 3.1 and 3.2)
  pub is_ended : l.finished ≡ true → IsReadAtBoth w s n

-- Each stream that wasn't reset; and by the log alone: unless its writer broke it off or its reader stopped, all that was written was read (RFC
-- 9000, sections 2.2, 3.1 and 3.5).
pub record IsAllDelivered (h : History) (w : World) (s : Side) : Type 0 where
  pub halves : (n : ℕ) (l : SendLane) → send_lane (end_of w s) n ≡ Some l → l.was_reset ≡ None → IsDelivered h w s n l
  pub streams : (n : ℕ) → broken_off s n h ≡ false → stopped (other s) n h ≡ false → read (other s) n h ≡ written s n h

-- unless the connection's credit is used up for good (RFC 9000, section 4.1)
abbrev pub AllIsDelivered : History → World → Side → Type 0
AllIsDelivered h w s = HasRoom w s → IsAllDelivered h w s
