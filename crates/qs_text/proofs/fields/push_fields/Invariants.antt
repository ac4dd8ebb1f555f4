use Rattle.std.proofs.Common.{◌≡◌, ◌++◌, take}
use Rattle.std.specs.List.{flat_map}
use Rattle.std.specs.String.{string_bytes}
use Rattle.qs_text.specs.Fields.{field_text}
use Rattle.qs_text.proofs.fields.push_fields.Given as goal

-- the fields so far are appended
abbrev pub invariant-loop-field : goal.invariant-loop-field
invariant-loop-field l = string_bytes l.text ≡ string_bytes l.fn.text ++ flat_map field_text (take l.field-index l.fields)
