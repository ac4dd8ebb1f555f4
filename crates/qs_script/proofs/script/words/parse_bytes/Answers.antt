use Rattle.std.proofs.Common.{◌≡◌, false, refl, sym, ◌∙◌, inl, inr}
use Rattle.std.specs.Prelude.{codes}
use Rattle.qs_script.specs.Scripts.{same}
use Rattle.qs_script.proofs.ScriptDigits.{long_hex, short_hex}
use Rattle.qs_script.proofs.script.words.parse_bytes.Goals as goal

pub returns-then-word-gt-MAX_BYTES-clause-read : goal.returns-then-word-gt-MAX_BYTES-clause-read
returns-then-word-gt-MAX_BYTES-clause-read c =
    let dash : same c.args.word.now (codes "-") ≡ false = rw c.as_slice.ensures at (sym c.eq.ensures ∙ c.if-eq.false) in
    inl (long_hex c.args.word.now dash (sym c.is_hex.ensures ∙ c.if-not-is_hex.false) c.if-word-gt-MAX_BYTES.true)

pub returns-in_default-clause-read : goal.returns-in_default-clause-read
returns-in_default-clause-read c =
    let dash : same c.args.word.now (codes "-") ≡ false = rw c.as_slice.ensures at (sym c.eq.ensures ∙ c.if-eq.false) in
    inr (refl, short_hex c.args.word.now dash (sym c.is_hex.ensures ∙ c.if-not-is_hex.false) c.if-word-gt-MAX_BYTES.false)
