use Rattle.std.proofs.Common.{◌≡◌, false, None, arith, inl, inr}
use Rattle.qs_conn.specs.Marks.{both}
use Rattle.qs_conn.proofs.Boths.{summed_both}
use Rattle.qs_conn.proofs.Marked.{next_stream, neither}
use Rattle.qs_conn.proofs.marks.Marks.next_both.Goals as goal

pub search-requires-clause-summed : goal.search-requires-clause-summed
search-requires-clause-summed c = summed_both _ _ _ _ c.self.invariant.0 c.others.invariant.0

pub returns-then-not-may_have-clause-least : goal.returns-then-not-may_have-clause-least
returns-then-not-may_have-clause-least c =
    let none : c.may_have.result ≡ false = grind (arith, c.if-not-may_have.true) in
    next_stream (both c.args.self.now c.args.others.now) c.args.stream_type 0 0 c.requires (omega (arith, c.requires)) None (neither c.args.self.now c.args.others.now (inl (c.may_have.ensures none)))

pub returns-then-not-may_have-2-clause-least : goal.returns-then-not-may_have-2-clause-least
returns-then-not-may_have-2-clause-least c =
    let none : c.may_have-2.result ≡ false = grind (arith, c.if-not-may_have-2.true) in
    next_stream (both c.args.self.now c.args.others.now) c.args.stream_type 0 0 c.requires (omega (arith, c.requires)) None (neither c.args.self.now c.args.others.now (inr (c.may_have-2.ensures none)))

pub returns-clause-least : goal.returns-clause-least
returns-clause-least c = rw (← c.self.view_is, ← c.others.view_is, c.numbered.ensures.value) (next_stream (both c.self.inside.marks c.others.inside.marks) c.args.stream_type 0 0 c.requires (omega (arith, c.requires)) c.search.result c.search.ensures)
