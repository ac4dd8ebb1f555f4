-- Of laws.
-- What a stream at rest excludes, clause by clause, and what its rest tells (RFC 9000, sections 2.2, 3 and 13.3).
use Rattle.std.specs.Prelude.{◌≡◌, true, false, [], ◌∷◌, None, Some}
use Rattle.qs_ranges.specs.Numbers.{numbers}
use Rattle.qs_send.specs.Lane.{SendLane}
use Rattle.qs_send.specs.declared.piece.Piece.TheVariants.{Data}
use Rattle.qs_calls.specs.declared.closing.Closed.TheVariants.{ByPeer}
use Rattle.qs_calls.specs.declared.event.Side.TheVariants.{A, B}
use Rattle.qs_machine.specs.Ends.{End}
use Rattle.qs_machine.specs.Due.{Sendable}
use Rattle.qs_machine.specs.Examples.{standard, client_of, server}
use Rattle.qs_machine.specs.SmallEnds.{client_with, server_with, carrying, abc, chunk, begun, wrote, sent, finished, fresh, three_came, all_came}
use Rattle.qs_runs.specs.Logs.{History}
use Rattle.qs_runs.specs.Worlds.{World}
use Rattle.qs_runs.specs.Examples.{wrote as wrote_by, got, reset}
use Rattle.qs_rest.specs.Resting.{IsAllDelivered}
use Rattle.qs_rest.specs.OneStream.{StreamRests, SentIsRead, AnswersSo}
use Rattle.qs_rest.specs.Exclusions.{beside_server}

abbrev pub both : End → End → World
both a b = record { a = a; b = b }

-- three bytes were sent, and all are acknowledged
abbrev pub acked : SendLane
acked = record sent { kept = []; acked = numbers 0 3 }

-- the end was sent, with nothing written
abbrev pub end_sent : SendLane
end_sent = record finished { fin_sent = true }

-- a client whose stream 0 rests, and that has three bytes to send on stream 4
abbrev pub busy : End
busy = record (client_of standard) { sends = record { client_bidi = acked ∷ wrote ∷ []; server_bidi = []; client_uni = []; server_uni = [] } }

-- It doesn't rest
pub record DoesNotRest : Type 0 where
  -- while a byte that was sent is to go out again (section 13.3)
  pub byte : StreamRests (beside_server (client_with sent)) A 0 sent → ⊥
  -- or the end is, once it was sent (section 13.3)
  pub end : StreamRests (beside_server (client_with end_sent)) A 0 end_sent → ⊥
  -- while a packet with a chunk of it is outstanding (section 13.3)
  pub in_flight : StreamRests (beside_server (carrying (Data 0 (chunk 0 3 false)) (client_with acked))) A 0 acked → ⊥
  -- while its reader has bytes to read (section 2.2)
  pub unread : StreamRests (both (client_with begun) (server_with three_came)) A 0 begun → ⊥

-- It rests while another stream of its sender is at work
pub record RestsBesideAnother : Type 0 where
  pub rests : StreamRests (beside_server busy) A 0 acked
  pub works : Sendable busy

-- Not all that was sent is read (sections 2.2, 3.1 and 3.2)
pub record IsNotAllRead (w : World) : Type 0 where
  -- where the reader has less
  pub less : SentIsRead (wrote_by A abc 3 ∷ []) w A 0 sent → ⊥
  -- or more
  pub more : SentIsRead (got B abc ∷ wrote_by A abc 3 ∷ []) w A 0 wrote → ⊥
  -- though nothing is said of what its writer broke off
  pub broken : SentIsRead (reset A 0 ∷ wrote_by A abc 3 ∷ []) w A 0 sent
  -- nor all that was written, by the log alone, where the reader has less
  pub unread : IsAllDelivered (wrote_by A abc 3 ∷ []) w A → ⊥
  -- where the end isn't acknowledged
  pub sender : SentIsRead [] (both (client_with end_sent) (server_with (record fresh { reader_done = true }))) A 0 end_sent → ⊥
  -- or wasn't told to the reader
  pub reader : (l : SendLane) → l.was_reset ≡ None → l.fin_sent ≡ true → SentIsRead [] (both (client_with l) (server_with all_came)) A 0 l → ⊥

-- The applications aren't answered so
pub record IsNotAnswered : Type 0 where
  -- where a byte that was sent isn't acknowledged (section 13.3)
  pub acked : AnswersSo (wrote_by A abc 3 ∷ []) (beside_server (client_with sent)) A 0 sent → ⊥
  -- or the end isn't (section 3.1)
  pub end : (h : History) → AnswersSo h (beside_server (client_with end_sent)) A 0 end_sent → ⊥
  -- where there is something to read (section 2.2)
  pub news : (h : History) → AnswersSo h (both (client_with begun) (server_with three_came)) A 0 begun → ⊥
  -- or nobody reads on at an end that closed (section 10.2)
  pub shut : (h : History) → AnswersSo h (both (client_with begun) (record (server standard) { closed = Some (ByPeer 0) })) A 0 begun → ⊥

pub record OneStreamExclusions : Type 0 where
  pub others : DoesNotRest
  pub beside : RestsBesideAnother
  pub unread : (w : World) → IsNotAllRead w
  pub unanswered : IsNotAnswered
