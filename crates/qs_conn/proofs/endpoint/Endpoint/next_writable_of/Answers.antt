use Rattle.std.proofs.Common.{arith, refl, true, false}
use Rattle.qs_send.specs.Writable.{is_writable}
use Rattle.qs_conn.specs.Tasks.{is_funded}
use Rattle.qs_conn.proofs.Hearing.{takes_by, takes_full, takes_untold}
use Rattle.qs_conn.proofs.endpoint.Endpoint.next_writable_of.Goals as goal

pub returns-then-not-may_have : goal.returns-then-not-may_have
returns-then-not-may_have c = takes_untold c.args.self.now c.args.self.now refl c.args.short.now (c.may_have.ensures (grind (arith, c.if-not-may_have.true)))

pub returns-then-takes_nothing : goal.returns-then-takes_nothing
returns-then-takes_nothing c = takes_full c.args.self.now c.args.self.now refl c.args.short.now (c.takes_nothing.ensures.none c.if-takes_nothing.true)

pub returns-then-self : goal.returns-then-self
returns-then-self c = takes_by _ c.args.self.now c.self.view_is c.args.short.now (c.takes_nothing.ensures.some c.if-takes_nothing.false) true c.if-self.true c.next_sought.result (c.next_sought.ensures is_funded (λ s. refl))

pub returns : goal.returns
returns c = takes_by _ c.args.self.now c.self.view_is c.args.short.now (c.takes_nothing.ensures.some c.if-takes_nothing.false) false c.if-self.false c.next_sought-2.result (c.next_sought-2.ensures is_writable (λ s. refl))
