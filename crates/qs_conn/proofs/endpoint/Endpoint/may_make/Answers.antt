use Rattle.std.proofs.Common.{◌∙◌, sym, ap, refl, inl, inr}
use Rattle.std.proofs.lemmas.Bool.{true≢false}
use Rattle.qs_machine.specs.Ends.{End}
use Rattle.qs_conn.specs.Sending.{FrameGoes}
use Rattle.qs_conn.proofs.MadePackets.{tells_at}
use Rattle.qs_conn.proofs.endpoint.Endpoint.may_make.Goals as goal

pub returns-then-self : goal.returns-then-self
returns-then-self c = ((λ h. inl (ap (λ (e : End). e.ack_due) (sym c.self.view_is) ∙ c.if-self.true)), (λ h. refl))

pub returns : goal.returns
returns c =
    let frame = tells_at _ c.args.self.now c.self.inside.core c.has_frame.result FrameGoes c.self.view_is refl c.has_frame.ensures in
    ((λ h. inr (frame.0 h)), (λ goes. elim goes [ inl ack ↦ absurd (true≢false (sym ack ∙ ap (λ (e : End). e.ack_due) (sym c.self.view_is) ∙ c.if-self.false)) | inr some ↦ frame.1 some ]))
