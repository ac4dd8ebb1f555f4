-- Of private contracts.
-- What there is of each direction of streams (RFC 9000, section 2.1).
use Rattle.std.specs.Prelude.{Option, None, Some}
use Rattle.qs_wire.specs.declared.stream_id.Dir.{Dir}
use Rattle.qs_wire.specs.declared.stream_id.Dir.TheVariants.{Bidi, Uni}
use Rattle.qs_conn.specs.declared.by_dir.ByDir.{ByDir}

abbrev pub of_dir : {T : Type 0} → ByDir T → Dir → T
of_dir x Bidi = x.bidi
of_dir x Uni = x.uni

abbrev pub with_dir : {T : Type 0} → Dir → T → ByDir T → ByDir T
with_dir Bidi value x = record x { bidi = value }
with_dir Uni value x = record x { uni = value }

-- the answer is the first direction with the property, bidirectional streams before others, and None where none has it
abbrev pub IsFirstDir : (Dir → Type 0) → Option Dir → Type 0
IsFirstDir P None = (d : Dir) → P d → ⊥
IsFirstDir P (Some Bidi) = P Bidi
IsFirstDir P (Some Uni) = P Uni × (P Bidi → ⊥)
