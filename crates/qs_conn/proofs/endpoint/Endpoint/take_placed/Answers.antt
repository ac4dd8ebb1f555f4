use Rattle.std.proofs.Common.{◌≡◌, Some, rules}
use Rattle.qs_calls.specs.declared.closing.Closed.TheVariants.{ByUs}
use Rattle.qs_wire.specs.Layout.{view}
use Rattle.qs_wire.specs.Reading.{view_placed}
use Rattle.qs_machine.specs.Seen.{seen}
use Rattle.qs_machine.specs.Verdicts.{verdict}
use Rattle.qs_conn.proofs.Asked.{is_refused, closed_tells}
use Rattle.qs_conn.proofs.endpoint.Endpoint.take_placed.Goals as goal

pub returns-in-Some : goal.returns-in-Some
returns-in-Some g c =
    let f = seen (view c.args.placed.now.frame) in
    let fault : verdict c.args.self.now (seen (view c.args.placed.now.frame)) ≡ Some c.in-Some.code = search (rules, c.verdict.ensures, c.in-Some.is, c.seen-seen.ensures.value) in
    record {
      step = is_refused (view_placed c.args.placed.now) f c.args.self.now c.close_at.new.self c.in-Some.code c.close_at.result fault c.close_at.ensures.value c.close_at.ensures.after;
      told = closed_tells g.T.Told.tells f (ByUs c.close_at.result) c.args.self.now c.close_at.new.self c.args.told.now c.close_at.ensures.after;
    }
