-- Of laws.
-- A run of one step, and printed lines of small reports.
use Rattle.std.specs.Prelude.{◌≡◌, true, false, [], ◌∷◌, codes, None, Some, Ok}
use Rattle.qs_wire.specs.declared.stream_id.Dir.TheVariants.{Bidi}
use Rattle.qs_calls.specs.declared.event.Side.TheVariants.{A, B}
use Rattle.qs_calls.specs.declared.event.Act.TheVariants as acts
use Rattle.qs_calls.specs.declared.answer.Answer.TheVariants as answers
use Rattle.qs_machine.specs.Examples.{standard}
use Rattle.qs_runs.specs.Events.{EventRun}
use Rattle.qs_runs.specs.Worlds.{World}
use Rattle.qs_world.specs.PlayText.{lane_text, end_text}

pub record ReportLines : Type 0 where
  pub lane : lane_text (record { sender = A; id = 0; written = 5; read = 5; received = true; declared = Some 5; known = Some 5 })
      ≡ codes "lane A 0 written 5 read 5 received yes declared 5 known 5"
  pub other_lane : lane_text (record { sender = B; id = 0; written = 0; read = 0; received = false; declared = None; known = None })
      ≡ codes "lane B 0 written 0 read 0 received no declared none known none"
  pub end : end_text A (record { spent = 0; granted = 4096; stored = 0; closing = None }) ≡ codes "end A spent 0 granted 4096 stored 0"
  pub closed_end : end_text B (record { spent = 4; granted = 8; stored = 0; closing = Some (record { code = 3; frame_type = 0x0a; place = 11 }) })
      ≡ codes "end B spent 4 granted 8 stored 0 closing 0x03 0x0a 11"

-- A opens a stream, and may be answered number 0 alone.
pub record StreamsBeginAtZero : Type 0 where
  pub world : World
  pub runs : EventRun standard standard ((record { end = A; act = acts.OpenStream Bidi }, answers.OpenStream (Ok 0)) ∷ []) world
  pub not_four : (w : World) → EventRun standard standard ((record { end = A; act = acts.OpenStream Bidi }, answers.OpenStream (Ok 4)) ∷ []) w → ⊥

pub record Examples : Type 0 where
  pub first_stream : StreamsBeginAtZero
  pub reports : ReportLines
