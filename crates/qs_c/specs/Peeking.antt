-- Of public contracts.
-- How C is told what a look at a stream shows. All of it is ours.
use Rattle.std.specs.Prelude.{ℕ, Result, Ok, Err}
use Rattle.qs_recv.specs.declared.half.Peek.{Peek}
use Rattle.qs_recv.specs.declared.half.Peek.TheVariants as peeks
use Rattle.qs_calls.specs.declared.uses.UseFault.{UseFault}
use Rattle.qs_c.specs.declared.peeking.GvPieces.{GvPieces}
use Rattle.qs_c.specs.Statuses.{use_status}

-- a look writes the pieces in which the bytes lie, or the code of the reset
abbrev pub peek_told : Result Peek UseFault → ℕ → GvPieces → ℕ × ℕ × GvPieces
peek_told (Ok (peeks.Bytes front back)) code old = (0, code, record { front = front; back = back })
peek_told (Ok peeks.Wait) code old = (16, code, old)
peek_told (Ok peeks.End) code old = (17, code, old)
peek_told (Ok (peeks.Reset of)) code old = (18, of, old)
peek_told (Err fault) code old = (use_status fault, code, old)
