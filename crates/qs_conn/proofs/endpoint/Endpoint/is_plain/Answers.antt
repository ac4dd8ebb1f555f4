use Rattle.std.proofs.Common.{◌≡◌, ◌<◌, ◌≤◌, Some, is_some, ap, sym, ◌∙◌, arith}
use Rattle.std.proofs.lemmas.Bool.Decides.{nat_tests}
use Rattle.qs_machine.specs.Tables.{type_of, index_of}
use Rattle.qs_machine.specs.Ends.{recv_lane}
use Rattle.qs_conn.specs.Plain.{IsPlainLane}
use Rattle.qs_conn.proofs.Outboxes.{none_is}
use Rattle.qs_conn.proofs.Cores.{plain_uni, plain_bidi}
use Rattle.qs_conn.proofs.endpoint.Endpoint.is_plain.Goals as goal

pub returns-then-stream-ge2 : goal.returns-then-stream-ge2
returns-then-stream-ge2 c on =
    let found : recv_lane c.args.self.now c.args.stream ≡ Some c.in-Some.half.now = rw (← c.self.view_is) c.in-Some.ensures.found in
    let plain : IsPlainLane c.in-Some.half.now = record {
      untold = sym c.is_told.ensures ∙ c.if-is_told.false;
      going = none_is _ (sym (ap is_some c.stop_code.ensures.value) ∙ sym c.is_some.ensures ∙ c.if-is_some.false);
      whole = none_is _ (sym (ap is_some c.reset_code.ensures) ∙ sym c.is_some-2.ensures ∙ c.if-is_some-2.false);
    } in
    let up : 2 ≤ c.stream.inside.stream_type = omega (arith, c.if-stream-ge2.true) in
    plain_uni c.args.self.now c.args.stream c.in-Some.half.now found plain c.stream.inside.stream_type (c.stream.invariant.0 ∙ ap type_of c.stream.view_is) up

pub returns : goal.returns
returns c on =
    let found : recv_lane c.args.self.now c.args.stream ≡ Some c.in-Some.half.now = rw (← c.self.view_is) c.in-Some.ensures.found in
    let plain : IsPlainLane c.in-Some.half.now = record {
      untold = sym c.is_told.ensures ∙ c.if-is_told.false;
      going = none_is _ (sym (ap is_some c.stop_code.ensures.value) ∙ sym c.is_some.ensures ∙ c.if-is_some.false);
      whole = none_is _ (sym (ap is_some c.reset_code.ensures) ∙ sym c.is_some-2.ensures ∙ c.if-is_some-2.false);
    } in
    let below : c.stream.inside.index < c.count_of.result = grind (arith, nat_tests, on) in
    plain_bidi c.args.self.now c.args.stream c.in-Some.half.now found plain c.stream.inside.stream_type c.stream.inside.index c.count_of.result
    (c.stream.invariant.0 ∙ ap type_of c.stream.view_is) (c.stream.invariant.1 ∙ ap index_of c.stream.view_is) (rw (← c.self.view_is) c.count_of.ensures.value) below
