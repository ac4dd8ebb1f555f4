use Rattle.std.proofs.Common.{refl, sym, ◌∙◌, arith}
use Rattle.qs_calls.specs.declared.news.News.TheVariants.{Opened, Readable, Writable, Stopped, Ended, Available}
use Rattle.qs_conn.specs.contracts.heard.Heard.{the_view}
use Rattle.qs_conn.proofs.Hearing.{Freed, none_below, first_of, first_sent, dir_here, dir_least, dir_none, first_later}
use Rattle.qs_conn.proofs.heard.Heard.first.Goals as goal

pub returns-in-Some : goal.returns-in-Some
returns-in-Some c = rw (← c.self.view_is) (let is = c.in-Some.ensures _ refl refl in first_of c.args.end.now (the_view c.self.inside) 0 (Opened c.in-Some.stream) (λ other o. omega arith) refl (is.found _ refl).1 is)

pub returns-in-Some-next_readable_untold : goal.returns-in-Some-next_readable_untold
returns-in-Some-next_readable_untold c = rw (← c.self.view_is) (first_of c.args.end.now (the_view c.self.inside) 1 (Readable c.in-Some-next_readable_untold.stream) (none_below c.args.end.now (the_view c.self.inside) 0 (λ other o. omega arith) (c.in_default.ensures _ refl refl)) refl (c.in-Some-next_readable_untold.ensures.found _ refl).1 c.in-Some-next_readable_untold.ensures)

pub returns-in-Some-next_writable_of : goal.returns-in-Some-next_writable_of
returns-in-Some-next_writable_of c = rw (← c.self.view_is) (first_of c.args.end.now (the_view c.self.inside) 2 (Writable c.in-Some-next_writable_of.stream) (none_below c.args.end.now (the_view c.self.inside) 1 (none_below c.args.end.now (the_view c.self.inside) 0 (λ other o. omega arith) (c.in_default.ensures _ refl refl)) c.in_default-next_readable_untold.ensures) refl (c.in-Some-next_writable_of.ensures.found _ refl).1 c.in-Some-next_writable_of.ensures)

pub returns-in-Some-next_ended_untold : goal.returns-in-Some-next_ended_untold
returns-in-Some-next_ended_untold c = rw (← c.self.view_is) (first_of c.args.end.now (the_view c.self.inside) 5 (Ended c.in-Some-next_ended_untold.stream) (none_below c.args.end.now (the_view c.self.inside) 4 (none_below c.args.end.now (the_view c.self.inside) 3 (none_below c.args.end.now (the_view c.self.inside) 2 (none_below c.args.end.now (the_view c.self.inside) 1 (none_below c.args.end.now (the_view c.self.inside) 0 (λ other o. omega arith) (c.in_default.ensures _ refl refl)) c.in_default-next_readable_untold.ensures) c.in_default-next_writable_of.ensures) c.in_default-next_stopped_untold.ensures) c.in_default-next_sent_untold.ensures) refl (c.in-Some-next_ended_untold.ensures.found _ refl).1 c.in-Some-next_ended_untold.ensures)

pub returns-in-Some-next_stopped_untold : goal.returns-in-Some-next_stopped_untold
returns-in-Some-next_stopped_untold c = rw (← c.self.view_is) (first_of c.args.end.now (the_view c.self.inside) 3 (Stopped c.in-Some-next_stopped_untold.stream c.in_ok-stopped_with.field-0) (none_below c.args.end.now (the_view c.self.inside) 2 (none_below c.args.end.now (the_view c.self.inside) 1 (none_below c.args.end.now (the_view c.self.inside) 0 (λ other o. omega arith) (c.in_default.ensures _ refl refl)) c.in_default-next_readable_untold.ensures) c.in_default-next_writable_of.ensures) refl (sym c.stopped_with.ensures ∙ c.in_ok-stopped_with.was, (c.in-Some-next_stopped_untold.ensures.found _ refl).1.1) c.in-Some-next_stopped_untold.ensures)

pub returns-in-Some-next_sent_untold : goal.returns-in-Some-next_sent_untold
returns-in-Some-next_sent_untold c = rw (← c.self.view_is) (first_sent c.args.end.now (the_view c.self.inside) c.in-Some-next_sent_untold.stream c.sent_news.result (none_below c.args.end.now (the_view c.self.inside) 3 (none_below c.args.end.now (the_view c.self.inside) 2 (none_below c.args.end.now (the_view c.self.inside) 1 (none_below c.args.end.now (the_view c.self.inside) 0 (λ other o. omega arith) (c.in_default.ensures _ refl refl)) c.in_default-next_readable_untold.ensures) c.in_default-next_writable_of.ensures) c.in_default-next_stopped_untold.ensures) c.in-Some-next_sent_untold.ensures c.sent_news.ensures)

pub returns-in-Some-next_available : goal.returns-in-Some-next_available
returns-in-Some-next_available c = rw (← c.self.view_is) (let is = c.in-Some-next_available.ensures (the_view c.self.inside) refl refl in first_of c.args.end.now (the_view c.self.inside) 6 (Available c.in-Some-next_available.dir) (none_below c.args.end.now (the_view c.self.inside) 5 (none_below c.args.end.now (the_view c.self.inside) 4 (none_below c.args.end.now (the_view c.self.inside) 3 (none_below c.args.end.now (the_view c.self.inside) 2 (none_below c.args.end.now (the_view c.self.inside) 1 (none_below c.args.end.now (the_view c.self.inside) 0 (λ other o. omega arith) (c.in_default.ensures _ refl refl)) c.in_default-next_readable_untold.ensures) c.in_default-next_writable_of.ensures) c.in_default-next_stopped_untold.ensures) c.in_default-next_sent_untold.ensures) c.in_default-next_ended_untold.ensures) refl (dir_here c.args.end.now (the_view c.self.inside) (Freed c.args.end.now (the_view c.self.inside)) c.in-Some-next_available.dir is) (dir_least c.args.end.now (the_view c.self.inside) (Freed c.args.end.now (the_view c.self.inside)) c.in-Some-next_available.dir is))

pub returns-in-None : goal.returns-in-None
returns-in-None c = rw (← c.self.view_is) (first_later c.args.end.now (the_view c.self.inside) c.first_blocked.result (none_below c.args.end.now (the_view c.self.inside) 6 (none_below c.args.end.now (the_view c.self.inside) 5 (none_below c.args.end.now (the_view c.self.inside) 4 (none_below c.args.end.now (the_view c.self.inside) 3 (none_below c.args.end.now (the_view c.self.inside) 2 (none_below c.args.end.now (the_view c.self.inside) 1 (none_below c.args.end.now (the_view c.self.inside) 0 (λ other o. omega arith) (c.in_default.ensures _ refl refl)) c.in_default-next_readable_untold.ensures) c.in_default-next_writable_of.ensures) c.in_default-next_stopped_untold.ensures) c.in_default-next_sent_untold.ensures) c.in_default-next_ended_untold.ensures) (dir_none c.args.end.now (the_view c.self.inside) (Freed c.args.end.now (the_view c.self.inside)) (c.in-None.ensures (the_view c.self.inside) refl refl))) (rw c.self.view_is c.first_blocked.ensures))
