-- Of laws.
-- What a rest excludes: beside ends that are at rest, one that isn't for each reason.
use Rattle.std.specs.Prelude.{true, [], Some}
use Rattle.qs_calls.specs.declared.event.Side.TheVariants.{A}
use Rattle.qs_wire.specs.declared.stream_id.Role.{Role}
use Rattle.qs_recv.specs.Lane.{RecvLane, take_stream}
use Rattle.qs_send.specs.Lane.{SendLane}
use Rattle.qs_send.specs.declared.piece.Item.TheVariants.{MaxData}
use Rattle.qs_send.specs.declared.piece.Piece.TheVariants.{Told}
use Rattle.qs_calls.specs.Settings.{limits_of, default_tuning}
use Rattle.qs_machine.specs.Ends.{End, new_end}
use Rattle.qs_machine.specs.Due.{Sendable}
use Rattle.qs_machine.specs.Examples.{standard, server, client_of}
use Rattle.qs_machine.specs.SmallEnds.{only, client_with, carrying, wrote, reset_half, finished, fresh, three_came, raised}
use Rattle.qs_runs.specs.Worlds.{World}
use Rattle.qs_rest.specs.Rest.{AtRest}
use Rattle.qs_rest.specs.Resting.{IsLeftToOwner}

-- a client that only reads stream 0, by this half
abbrev pub reads_by : RecvLane → End
reads_by l = record (client_of standard) { recvs = only l }

-- An end is at rest
pub record IsAtRest : Type 0 where
  -- that is new, the client's and the server's (section 3)
  pub new : (role : Role) → AtRest (new_end role standard default_tuning (limits_of standard))
  -- of which an ACK is due, and no more (section 13.2.1)
  pub ack : AtRest (record (client_of standard) { ack_due = true })
  -- whose reader waits (section 2.2)
  pub waits : AtRest (reads_by fresh)
  -- whose reader was told the end (section 3.2)
  pub told_end : AtRest (reads_by (record (take_stream fresh 0 [] true) { reader_done = true }))
  -- or the reset (section 3.2)
  pub told_reset : AtRest (reads_by (record fresh { final_size = Some 0; reset_code = Some 7; reader_done = true }))

-- It isn't at rest
pub record IsNotAtRest : Type 0 where
  -- where a limit was raised that wasn't told (section 13.3)
  pub limit : AtRest raised → ⊥
  -- where a byte is due (section 13.3)
  pub byte : AtRest (client_with wrote) → ⊥
  -- where the end of a stream is due (section 13.3)
  pub end : AtRest (client_with finished) → ⊥
  -- while a packet of its own is outstanding, though nothing may go out (section 13.3)
  pub in_flight : (Sendable (carrying (Told (MaxData 4096)) (client_of standard)) → ⊥) × (AtRest (carrying (Told (MaxData 4096)) (client_of standard)) → ⊥)
  -- while a reader has bytes to read, though nothing may go out (section 2.2)
  pub unread : (Sendable (reads_by three_came) → ⊥) × (AtRest (reads_by three_came) → ⊥)
  -- or wasn't told the end (section 3.2)
  pub untold_end : (Sendable (reads_by (take_stream fresh 0 [] true)) → ⊥) × (AtRest (reads_by (take_stream fresh 0 [] true)) → ⊥)
  -- or the reset (section 3.2)
  pub untold_reset : (Sendable (reads_by (record fresh { final_size = Some 0; reset_code = Some 7 })) → ⊥)
      × (AtRest (reads_by (record fresh { final_size = Some 0; reset_code = Some 7 })) → ⊥)

-- the owner of this end answers each STOP_SENDING (section 3.5)
abbrev pub answering : End → End
answering e = record e { tuning = record default_tuning { answers_stops = true } }

-- the peer stopped the half
abbrev pub stopped : SendLane → SendLane
stopped l = record l { stopped = Some 7 }

abbrev pub beside_server : End → World
beside_server e = record { a = e; b = server standard }

-- A stream that its reader stopped is left to its owner
pub record IsLeft : Type 0 where
  -- who answers that, was told, and hasn't reset it (section 3.5)
  pub told : IsLeftToOwner (beside_server (answering (client_with (stopped wrote)))) A 0

-- It isn't left to its owner
pub record IsNotLeft : Type 0 where
  -- where the end answers by itself (section 3.5)
  pub answered : IsLeftToOwner (beside_server (client_with (stopped wrote))) A 0 → ⊥
  -- or the peer didn't stop it (section 3.5)
  pub untold : IsLeftToOwner (beside_server (answering (client_with wrote))) A 0 → ⊥
  -- or it was reset (section 3.1)
  pub reset : IsLeftToOwner (beside_server (answering (client_with (stopped reset_half)))) A 0 → ⊥
  -- or it isn't open (section 2.1)
  pub unopened : IsLeftToOwner (beside_server (answering (client_of standard))) A 0 → ⊥

pub record Exclusions : Type 0 where
  pub rests : IsAtRest
  pub others : IsNotAtRest
  pub left : IsLeft
  pub not_left : IsNotLeft
