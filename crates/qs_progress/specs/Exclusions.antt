-- Of laws.
-- What a score counts, and what it doesn't. The whole file is ours.
use Rattle.std.specs.Prelude.{◌≡◌, ℕ, ◌+◌, false, true, [], ◌∷◌, None, Some, Ok, Err}
use Rattle.qs_recv.specs.Lane.{RecvLane}
use Rattle.qs_send.specs.Lane.{SendLane}
use Rattle.qs_wire.specs.declared.stream_id.Role.{Role}
use Rattle.qs_wire.specs.declared.stream_id.Dir.TheVariants.{Uni}
use Rattle.qs_calls.specs.declared.settings.SetFault.{SetFault}
use Rattle.qs_calls.specs.declared.event.Side.TheVariants.{A, B}
use Rattle.qs_calls.specs.Settings.{limits_of, default_tuning}
use Rattle.qs_machine.specs.Ends.{End, no_items, new_end}
use Rattle.qs_machine.specs.Raising.{limits_raised}
use Rattle.qs_machine.specs.Setting.{ConnWindow, Grant, SendBuffer, StreamWindow}
use Rattle.qs_machine.specs.EndStep.{Set}
use Rattle.qs_machine.specs.Examples.{standard, client_of, server}
use Rattle.qs_machine.specs.SmallEnds.{raised, abc}
use Rattle.qs_runs.specs.Worlds.{World}
use Rattle.qs_runs.specs.Examples.{at, wrote}
use Rattle.qs_progress.specs.Score.{sent_marks, got_marks, score}
use Rattle.qs_progress.specs.Bound.{most}

-- a client that was told of four bytes more of the connection's credit
abbrev pub knowing : End
knowing = record (client_of standard) { known_data = 4100 }

-- a client and a server of the standard settings
abbrev pub two : World
two = record { a = client_of standard; b = server standard }

-- The bound counts
pub record BoundCounts : Type 0 where
  -- nothing where nothing happened, and nine for each byte that was accepted
  pub none : most [] two ≡ 6
  pub written : most (wrote A abc 3 ∷ wrote B abc 2 ∷ []) two ≡ 51
  -- three for each byte or stream by which a window or a grant was set beyond the first
  pub window : most (at A (Set (ConnWindow 5000)) (Ok tt) ∷ []) two ≡ 2718
  pub stream : most (at B (Set (StreamWindow 0 1034)) (Ok tt) ∷ []) two ≡ 36
  pub grant : most (at A (Set (Grant Uni 10)) (Ok tt) ∷ []) two ≡ 12
  -- none for a narrower one, for a buffer, or for what was refused
  pub narrower : most (at A (Set (ConnWindow 1)) (Ok tt) ∷ []) two ≡ 6
  pub buffer : most (at A (Set (SendBuffer 0 5000)) (Ok tt) ∷ []) two ≡ 6
  pub refused : (fault : SetFault) → most (at A (Set (ConnWindow 5000)) (Err fault) ∷ []) two ≡ 6

pub record Exclusions : Type 0 where
  pub bound : BoundCounts
  -- at an end that is new nothing is done
  pub new : (role : Role) → score (new_end role standard default_tuning (limits_of standard)) ≡ 0
  -- of a limit one thing for each value that the present one has passed, and one for that, once it is acknowledged
  pub passed : score raised ≡ 903
  pub acked : score (record raised { acked = record no_items { max_data = Some 5000 } }) ≡ 904
  -- but none for an older value
  pub older : score (record raised { acked = record no_items { max_data = Some 4500 } }) ≡ score raised
  -- two for each byte of credit that became known: the credit, and where it held the end back
  pub known : score knowing ≡ 8
  -- one for the end of a stream that is acknowledged, and for a reset
  pub end : (e : End) (n : ℕ) (l : SendLane) → l.fin_acked ≡ false → sent_marks e n (record l { fin_acked = true }) ≡ sent_marks e n l + 1
  pub reset : (e : End) (n : ℕ) (l : SendLane) → l.reset_acked ≡ false → sent_marks e n (record l { reset_acked = true }) ≡ sent_marks e n l + 1
  -- for a final size that is known, and for an end that the reader was told
  pub size : (e : End) (n size : ℕ) (l : RecvLane) → l.final_size ≡ None → got_marks e n (record l { final_size = Some size }) ≡ got_marks e n l + 1
  pub told : (e : End) (n : ℕ) (l : RecvLane) → l.reader_done ≡ false → got_marks e n (record l { reader_done = true }) ≡ got_marks e n l + 1
  -- none for what is written and sent
  pub written : (e : End) (n written sent : ℕ) (l : SendLane) → sent_marks e n (record l { written = written; sent_end = sent }) ≡ sent_marks e n l
  -- the premise is needed: limits that are taken in move what is counted from, and the score falls
  pub falls : score (limits_raised (record (limits_of standard) { max_data = 4098 }) knowing) ≡ 4
