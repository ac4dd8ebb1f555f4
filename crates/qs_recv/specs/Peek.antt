-- Trusted.
-- What a look at a lane tells, by which nothing is read (RFC 9000, section 2.2).
use Rattle.std.specs.Prelude.{◌≡◌, ℕ, ◌+◌, ◌<◌, false, List, ◌++◌, length}
use Rattle.std.specs.FinSet as set
use Rattle.qs_recv.specs.declared.half.Peek.{Peek}
use Rattle.qs_recv.specs.declared.half.Peek.TheVariants as peeks
use Rattle.qs_recv.specs.declared.half.Read.TheVariants.{Bytes, End, Reset, Wait}
use Rattle.qs_recv.specs.Lane.{RecvLane, read_answer, bytes_read}

-- the bytes that a read with room enough would hand out, one at least: the next one behind them didn't come (RFC 9000, section 2.2)
pub record IsFront (lane : RecvLane) (bytes : List ℕ) : Type 0 where
  pub some : 0 < length bytes
  pub answer : read_answer lane (length bytes) ≡ Bytes (length bytes)
  pub are : bytes ≡ bytes_read lane (length bytes)
  pub whole : set.contains lane.arrived.received (lane.arrived.read_count + length bytes) ≡ false

-- what a read of one byte would tell, or all the bytes that are next, in two pieces (RFC 9000, sections 2.2 and 3.2)
abbrev pub IsPeek : RecvLane → Peek → Type 0
IsPeek lane (peeks.Bytes front back) = IsFront lane (front.now ++ back.now)
IsPeek lane peeks.End = read_answer lane 1 ≡ End
IsPeek lane (peeks.Reset code) = read_answer lane 1 ≡ Reset code
IsPeek lane peeks.Wait = read_answer lane 1 ≡ Wait
