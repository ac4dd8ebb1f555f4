use Rattle.std.proofs.Common.{◌∙◌, sym, subst, inl, inr, refl}
use Rattle.std.proofs.lemmas.Bool.{true≢false}
use Rattle.qs_machine.specs.Due.{StreamGoes}
use Rattle.qs_conn.specs.Middle.{end_of}
use Rattle.qs_conn.proofs.MadePackets.{tells_yes, tells_same}
use Rattle.qs_conn.proofs.middle.Core.has_wanted_stream.Goals as goal

pub returns-then-not-want : goal.returns-then-not-want
returns-then-not-want c = λ e (n, asked, goes). true≢false (sym asked.0 ∙ c.if-not-want.true)

pub returns-then-want : goal.returns-then-want
returns-then-want c = λ e.
    tells_same c.goes.result _ _ (λ goes. (c.args.want.now.first, (c.if-not-want.false, inr refl), goes))
    (λ (n, asked, goes). elim asked.1 [ inl all ↦ absurd (true≢false (sym c.if-want.true ∙ all)) | inr is ↦ subst (StreamGoes (end_of c.args.self.now e)) is goes ]) (c.goes.ensures e)

pub returns : goal.returns
returns c = λ e. tells_same c.has_stream.result _ _ (λ (n, goes). (n, (c.if-not-want.false, inl c.if-want.false), goes)) (λ (n, asked, goes). (n, goes)) (c.has_stream.ensures e)

pub returns-then-goes : goal.returns-then-goes
returns-then-goes c = λ e. (c.in-Some.stream, (c.if-not-want.false, inl c.if-want.false), tells_yes _ _ c.if-goes.true (c.goes-in-Some.ensures e))
