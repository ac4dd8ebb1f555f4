-- Of private contracts.
-- A stream of which a frame moves no limit and no count of streams.
use Rattle.std.specs.Prelude.{◌≡◌, ℕ, false, None, Some}
use Rattle.qs_recv.specs.Lane.{RecvLane}
use Rattle.qs_machine.specs.Tables.{lookup}
use Rattle.qs_machine.specs.Ends.{End, opened_by_peer}

-- no end, reset or stop was told of a lane (RFC 9000, sections 3.2 and 3.5)
pub record IsPlainLane (l : RecvLane) : Type 0 where
  pub untold : l.reader_done ≡ false
  pub going : l.stop_code ≡ None
  pub whole : l.reset_code ≡ None

-- a stream is open with the halves that it has here, and its receiving half is such a one
pub record IsPlain (e : End) (n : ℕ) : Type 0 where
  pub stays : opened_by_peer n e ≡ e
  pub lane : (l : RecvLane) → lookup e.recvs n ≡ Some l → IsPlainLane l
