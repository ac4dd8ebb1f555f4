use Rattle.std.proofs.Common.{◌≡◌, ◌≤◌, length, arith, ap, ◌∙◌, rules}
use Rattle.qs_send.specs.Lane.{allow_lane}
use Rattle.qs_machine.specs.Tables.{table}
use Rattle.qs_machine.specs.Ends.{End, first_send_limit}
use Rattle.qs_machine.specs.Raising.{type_allowed}
use Rattle.qs_conn.proofs.LaneEdits.{id_is}
use Rattle.qs_conn.proofs.Tasks.{half_there, halves_more, halves_all}
use Rattle.qs_conn.proofs.endpoint.Endpoint.allow_type.Goals as goal

pub allow_to-requires-clause-open : goal.allow_to-requires-clause-open
allow_to-requires-clause-open c = search (rules, id_is, half_there)

pub loop-index-preserved : goal.loop-index-preserved
loop-index-preserved c = search (rules, id_is, halves_more)

pub returns : goal.returns
returns c =
    let stream_type = id_is c.new.result c.unwrap.result c.args.stream_type c.unwrap.ensures c.new.ensures.some in
    let limit : c.first_send_limit-limit.result ≡ first_send_limit c.args.self.now c.args.stream_type = c.first_send_limit-limit.ensures.value ∙ ap (first_send_limit c.args.self.now) stream_type in
    let count = c.count_of-index-end.ensures.value ∙ ap (λ (e : End). length (table e.sends c.args.stream_type)) c.self.view_is in
    let all : length (table c.args.self.now.sends c.args.stream_type) ≤ c.loop-index.index = omega (arith, c.loop-index-test.false, count) in
    halves_all (λ m. allow_lane m c.first_send_limit-limit.result) c.args.stream_type c.loop-index.index c.args.self.now c.loop-index.self c.loop-index.invariant all
    ∙ ap (λ m. record c.args.self.now { sends = type_allowed c.args.stream_type m c.args.self.now.sends }) limit
