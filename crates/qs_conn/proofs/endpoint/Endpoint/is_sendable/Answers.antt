use Rattle.std.proofs.Common.{◌∙◌, sym, ap, is_some, refl}
use Rattle.std.proofs.lemmas.Bool.{true≢false}
use Rattle.qs_machine.specs.Ends.{End}
use Rattle.qs_conn.specs.Sending.{FrameGoes}
use Rattle.qs_conn.proofs.Outboxes.{none_is}
use Rattle.qs_conn.proofs.MadePackets.{tells_at}
use Rattle.qs_conn.proofs.endpoint.Endpoint.is_sendable.Goals as goal

pub returns-then-is_some : goal.returns-then-is_some
returns-then-is_some c = (
  (λ h. absurd (true≢false (sym h))),
  (λ goes. absurd (true≢false (sym c.if-is_some.true ∙ c.is_some.ensures ∙ ap (λ (e : End). is_some e.closed) c.self.view_is ∙ ap is_some goes.0))),
)

pub returns : goal.returns
returns c =
    let frame = tells_at _ c.args.self.now c.self.inside.core c.has_frame.result FrameGoes c.self.view_is refl c.has_frame.ensures in
    ((λ h. (ap (λ (e : End). e.closed) (sym c.self.view_is) ∙ none_is _ (sym c.is_some.ensures ∙ c.if-is_some.false), frame.0 h)), (λ goes. frame.1 goes.1))
