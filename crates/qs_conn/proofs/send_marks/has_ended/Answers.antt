-- Whether a sending half came to its end, by its state.
use Rattle.std.proofs.Common.{Some, refl, ◌∙◌, ◌≡◌, true, false, Option, ◌⊎◌, inl, inr, sym, ap}
use Rattle.qs_send.specs.Lane.{SendLane, Sending, state}
use Rattle.qs_send.specs.Sound.{IsLawful}
use Rattle.qs_send.specs.declared.parts.SendState.{SendState}
use Rattle.qs_send.specs.declared.parts.SendState.TheVariants.{DataRecvd, ResetRecvd}
use Rattle.qs_machine.specs.Laws.{is_last_send}
use Rattle.qs_machine.proofs.EndedHalves.{ended_is_last}
use Rattle.qs_conn.specs.Ended.{send_over}
use Rattle.qs_conn.proofs.send_marks.has_ended.Goals as goal

by_state : (o : Option SendLane) (s : Sending) → o ≡ Some s.lane → IsLawful s → send_over o ≡ is_last_send (state s.lane)
by_state o s there h = ap send_over there ∙ ended_is_last.send s h

over_yes : (o : Option SendLane) (s : Sending) (k : SendState) → o ≡ Some s.lane → IsLawful s → k ≡ state s.lane → (k ≡ DataRecvd) ⊎ (k ≡ ResetRecvd) → true ≡ send_over o
over_yes o s k there h at last = sym (by_state o s there h ∙ ap is_last_send (sym at) ∙ elim last [ inl all ↦ ap is_last_send all | inr reset ↦ ap is_last_send reset ])

over_no : (o : Option SendLane) (s : Sending) → o ≡ Some s.lane → IsLawful s → (state s.lane ≡ DataRecvd → ⊥) → (state s.lane ≡ ResetRecvd → ⊥) → false ≡ send_over o
over_no o s there h no_data no_reset = sym (by_state o s there h ∙ go (state s.lane) refl)
  where
    go : (k : SendState) → state s.lane ≡ k → is_last_send k ≡ false
    go DataRecvd is = absurd (no_data is)
    go ResetRecvd is = absurd (no_reset is)
    go _ is = refl

pub returns-in-DataRecvd : goal.returns-in-DataRecvd
returns-in-DataRecvd c = over_yes (Some c.args.half.now.lane) c.args.half.now c.state.result refl c.learn_lawful.ensures c.state.ensures c.in-DataRecvd.is

pub returns-in_default : goal.returns-in_default
returns-in_default c = over_no (Some c.args.half.now.lane) c.args.half.now refl c.learn_lawful.ensures (λ is. c.in_default.not-DataRecvd (c.state.ensures ∙ is)) (λ is. c.in_default.not-ResetRecvd (c.state.ensures ∙ is))
