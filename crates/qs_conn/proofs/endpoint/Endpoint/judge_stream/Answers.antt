use Rattle.std.proofs.Common.{◌≡◌, ◌∙◌, None, Some, length, sym, ap, subst}
use Rattle.std.proofs.lemmas.Option.{same_Some}
use Rattle.qs_recv.specs.Lane.{check_stream, check_bytes}
use Rattle.qs_recv.specs.Lawful.{IsLawful}
use Rattle.qs_machine.specs.Ends.{recv_lane, first_window}
use Rattle.qs_machine.specs.Verdicts.{or_new, state_fault_in, credit_fault, bytes_fault, fault_of, lane_of}
use Rattle.qs_conn.proofs.MadePackets.{rise_changes, no_fault}
use Rattle.qs_conn.proofs.endpoint.Endpoint.judge_stream.Goals as goal

pub returns-in-Ok : goal.returns-in-Ok
returns-in-Ok c =
    let e = c.args.self.now in
    let n = c.args.stream in
    let bytes = c.args.bytes.now in
    let found : recv_lane e n ≡ Some c.in-Some-half.half.now = rw (← c.self.view_is) c.in-Some-half.ensures.found in
    let lane : lane_of e n ≡ c.in-Some-half.half.now = ap (λ o. or_new o (first_window e n) e.tuning.credit_step) found in
    let state : state_fault_in e n ≡ None = sym c.state_fault_in.ensures ∙ c.in_default.is in
    let is = c.judge-judged.ensures.stream ∙ ap (λ l. check_stream l c.args.offset (length bytes) c.args.fin) (sym lane) in
    let credit : credit_fault e (check_stream (lane_of e n) c.args.offset (length bytes) c.args.fin) ≡ None = ap (credit_fault e) (sym is) ∙ sym c.credit_fault.ensures ∙ c.in_default-credit_fault.is in
    let alike : bytes_fault e n c.args.offset bytes ≡ None = ap (λ l. fault_of (check_bytes l c.args.offset bytes)) lane ∙ ap fault_of (sym c.judge-judged.ensures.bytes ∙ c.in-Ok.is) in (
      no_fault e n c.args.offset bytes c.args.fin state credit alike,
      λ up.
          let (h, is_found, rises) = c.is_rise.ensures up in
          rise_changes e n c.args.offset bytes c.args.fin h (λ l at. subst IsLawful (same_Some _ l (sym found ∙ at)) c.learn_lawful.ensures) state (sym is ∙ is_found) rises,
    )
