-- Trusted.
-- One stream at rest, whatever the others do: what was sent of it was read (the whole file is ours, but that each clause names its section of
-- RFC 9000).
use Rattle.std.specs.Prelude.{◌≡◌, ℕ, ◌-◌, ◌<◌, true, false, length, take, None, Some}
use Rattle.qs_recv.specs.Lane.{RecvLane, read_answer}
use Rattle.qs_send.specs.Lane.{SendLane, state}
use Rattle.qs_send.specs.declared.parts.Chunk.{Chunk}
use Rattle.qs_send.specs.declared.parts.SendState.TheVariants.{DataRecvd}
use Rattle.qs_send.specs.declared.piece.Piece.TheVariants.{Data}
use Rattle.qs_calls.specs.declared.settings.Settings.{Settings}
use Rattle.qs_calls.specs.declared.event.Side.{Side}
use Rattle.qs_machine.specs.Ends.{send_lane, recv_lane}
use Rattle.qs_machine.specs.Due.{IsOutstanding, IsDue, IsEndDue}
use Rattle.qs_machine.specs.Owner.{is_read_no_more}
use Rattle.qs_machine.specs.Asking.{unsent, acked_below}
use Rattle.qs_machine.specs.News.{IsReadable}
use Rattle.qs_runs.specs.Logs.{History, other, stopped, broken_off, written, read}
use Rattle.qs_runs.specs.Worlds.{World, end_of, Run}
use Rattle.qs_rest.specs.Rest.{TellsNoNews}
use Rattle.qs_rest.specs.Resting.{IsReadAtBoth}

-- Stream n rests, as side s sends it: nothing that was sent of it is to go out again, or outstanding, and its reader knows all that came
-- (sections 3.1, 3.2 and 13.3).
pub record StreamRests (w : World) (s : Side) (n : ℕ) (l : SendLane) : Type 0 where
  pub bytes : (q : ℕ) → q < l.sent_end → IsDue (end_of w s) n l q → ⊥
  pub end : l.fin_sent ≡ true → IsEndDue (end_of w s) n l → ⊥
  pub none_out : (c : Chunk) → IsOutstanding (end_of w s) (Data n c) → ⊥
  pub read_out : (r : RecvLane) → recv_lane (end_of w (other s)) n ≡ Some r → TellsNoNews (read_answer r 1) r

-- Unless its writer broke it off or its reader stopped, all that was sent was read; and where the end was sent, and no reset is known, both
-- halves are in their last state (sections 2.2, 3.1, 3.2 and 3.5).
pub record SentIsRead (h : History) (w : World) (s : Side) (n : ℕ) (l : SendLane) : Type 0 where
  pub is_read : broken_off s n h ≡ false → stopped (other s) n h ≡ false → read (other s) n h ≡ take l.sent_end (written s n h)
  pub is_ended : l.was_reset ≡ None → l.fin_sent ≡ true → IsReadAtBoth w s n

-- in every run: no premise on limits, on the other streams, on what else is pending
abbrev pub EveryStreamRests : Type 0
EveryStreamRests =
    (a b : Settings) (h : History) (w : World) → Run a b h w → (s : Side) (n : ℕ) (l : SendLane) → send_lane (end_of w s) n ≡ Some l →
    StreamRests w s n l → SentIsRead h w s n l

-- What the two applications may ask of a stream, and be answered: `acked_below` is what was written less `unsent`; once the end was sent,
-- the sending half is in Data Recvd; and the reader's end, which is read on, has no news of it (sections 2.2, 3.1 and 13.3).
pub record AnswersSo (h : History) (w : World) (s : Side) (n : ℕ) (l : SendLane) : Type 0 where
  pub acked : acked_below (end_of w s) n ≡ Some (length (written s n h) - unsent (end_of w s) n)
  pub end : l.fin_sent ≡ true → state l ≡ DataRecvd
  pub read_on : is_read_no_more (end_of w (other s)) ≡ false
  pub no_news : IsReadable (end_of w (other s)) n → ⊥

-- in every run these answers tell the same
abbrev pub AnswersTell : Type 0
AnswersTell =
    (a b : Settings) (h : History) (w : World) → Run a b h w → (s : Side) (n : ℕ) (l : SendLane) → send_lane (end_of w s) n ≡ Some l →
    AnswersSo h w s n l → SentIsRead h w s n l
