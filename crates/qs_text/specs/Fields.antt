-- Of public contracts.
-- The text of a field as the program holds it.
use Rattle.std.specs.Prelude.{ℕ, List, []}
use Rattle.std.specs.Fmt.{decimal}
use Rattle.qs_wire.specs.Layout.{ack_ranges_of}
use Rattle.qs_wire.specs.Varint.{numbers_of}
use Rattle.qs_text.specs.declared.fields.Field.{Field}
use Rattle.qs_text.specs.declared.fields.Field.TheVariants as held
use Rattle.qs_text.specs.EventText.{hex_text, code_text}
use Rattle.qs_text.specs.FrameText.{shown_text, ranges_text, ecn_text}

abbrev pub field_text : Field → List ℕ
field_text (held.Nothing) = []
field_text (held.Number name n) = shown_text (name.now, decimal n)
field_text (held.Code name n) = shown_text (name.now, code_text n)
field_text (held.Word name word) = shown_text (name.now, word.now)
field_text (held.Bytes name bytes) = shown_text (name.now, hex_text bytes.now)
field_text (held.Ranges name largest ranges) = shown_text (name.now, ranges_text (ack_ranges_of largest.number (numbers_of ranges.now)))
field_text (held.Ecn name ecn) = shown_text (name.now, ecn_text ecn)
