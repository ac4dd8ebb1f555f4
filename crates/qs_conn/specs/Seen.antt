-- Of private contracts.
-- A frame as an endpoint keeps it while it takes it in.
use Rattle.std.specs.Prelude.{◌≡◌, ℕ, ◌+◌, ◌≤◌, ◌<◌, ◌^◌, Bool, true, length, None, Some, Result, Ok, Err, ⊤}
use Rattle.qs_wire.specs.Varint.{numbers_of}
use Rattle.qs_wire.specs.Layout.{taken, ack_ranges_of}
use Rattle.qs_wire.specs.Grammar.{Fits}
use Rattle.qs_machine.specs.Ends.{End}
use Rattle.qs_machine.specs.Seen.{Seen, Ack, Stream, Control, Close, Plain}
use Rattle.qs_machine.specs.Verdicts.{verdict}
use Rattle.qs_machine.specs.Changes.{changes}
use Rattle.qs_conn.specs.declared.seen.SeenFrame.{SeenFrame}
use Rattle.qs_conn.specs.declared.seen.SeenFrame.TheVariants as frames
use Rattle.qs_conn.specs.Filling.{frame_of_item}

-- what it is to the machine
abbrev pub view_seen : SeenFrame → Seen
view_seen (frames.Ack largest ranges) = Ack largest (ack_ranges_of largest (numbers_of ranges.now))
view_seen (frames.Stream n offset bytes fin) = Stream n offset bytes.now fin
view_seen (frames.Control item) = Control item
view_seen (frames.Close code) = Close code
view_seen (frames.Plain asks) = Plain asks

-- its numbers have a spelling (RFC 9000, section 16)
abbrev pub SeenFits : SeenFrame → Type 0
SeenFits (frames.Ack largest ranges) = (largest < 2 ^ 62) × (taken (numbers_of ranges.now) ≤ largest + 1)
SeenFits (frames.Stream n offset bytes fin) = offset + length bytes.now < 2 ^ 62
SeenFits (frames.Control item) = Fits (frame_of_item item)
SeenFits (frames.Close code) = code < 2 ^ 62
SeenFits (frames.Plain asks) = ⊤

-- the code with which a frame closes the connection; of another frame, whether it is sure that it changes the end
abbrev pub Judges : End → Seen → Result Bool ℕ → Type 0
Judges e f (Err code) = verdict e f ≡ Some code
Judges e f (Ok sure) = (verdict e f ≡ None) × (sure ≡ true → changes e f ≡ true)
