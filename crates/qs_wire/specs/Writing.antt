-- Of private contracts.
-- The fields of a canonical text, and what a write into the middle of a slice leaves.
use Rattle.std.specs.Prelude.{◌≡◌, ℕ, ◌+◌, ◌^◌, ◌<◌, ◌≤◌, List, [], ◌++◌, length, take, drop}
use Rattle.qs_wire.specs.declared.writing.Part.{Part}
use Rattle.qs_wire.specs.declared.writing.Part.TheVariants as parts
use Rattle.qs_wire.specs.Varint.{short, numbers_of}
use Rattle.qs_wire.specs.Layout.{counted, identifier, ack_ranges}
use Rattle.qs_wire.specs.Grammar.{short_field, short_ecn, AreRanges, CountsFit, IsIdentifierLength}

abbrev pub part_text : Part → List ℕ
part_text parts.Nothing = []
part_text (parts.Number v) = short v
part_text (parts.Plain b) = b.now
part_text (parts.Counted b) = short_field counted b.now
part_text (parts.Identifier b) = short_field identifier b.now
part_text (parts.Ranges b) = short_field ack_ranges (numbers_of b.now)
part_text (parts.Counts ecn) = short_ecn ecn

-- what the canonical text can spell
abbrev pub PartFits : Part → Type 0
PartFits parts.Nothing = Unit {0}
PartFits (parts.Number v) = v < 2 ^ 62
PartFits (parts.Plain b) = Unit {0}
PartFits (parts.Counted b) = length b.now < 2 ^ 62
PartFits (parts.Identifier b) = IsIdentifierLength (length b.now)
PartFits (parts.Ranges b) = AreRanges (numbers_of b.now)
PartFits (parts.Counts ecn) = CountsFit ecn

-- new is old with the text in place of as many bytes from a place on
pub record Puts (at : ℕ) (text old new : List ℕ) : Type 0 where
  pub room : at + length text ≤ length old
  pub is : new ≡ take at old ++ (text ++ drop (at + length text) old)
