use Rattle.std.proofs.Common.{ap, ◌∙◌, subst}
use Rattle.qs_recv.specs.declared.credit.Share.TheVariants.{Half}
use Rattle.qs_machine.specs.Tables.{type_of, index_of}
use Rattle.qs_machine.proofs.TableEdits.{lane_is}
use Rattle.qs_conn.specs.RecvEdits.{LeavesCalm}
use Rattle.qs_conn.proofs.LaneEdits.{edited_in}
use Rattle.qs_conn.proofs.recv_tables.RecvTables.edit.Goals as goal

pub edit-requires-clause-calm : goal.edit-requires-clause-calm
edit-requires-clause-calm g c =
    subst (λ l. LeavesCalm g.F.FnOnce c.args.f l c.args.into.now) (lane_is c.self.inside.types c.args.stream c.stream.inside.stream_type c.stream.inside.index c.index-self-stream.result 0 Half c.self.invariant (c.stream.invariant.0 ∙ ap type_of c.stream.view_is) (c.stream.invariant.1 ∙ ap index_of c.stream.view_is)) (rw (← c.self.view_is) at c.requires.calm)

pub returns : goal.returns
returns g c = rw (← c.self.view_is) (edited_in _ c.self.inside.types c.args.stream c.stream.inside.stream_type c.stream.inside.index c.index-self-stream.result _ _ _ c.edit.result (lane_is c.self.inside.types c.args.stream c.stream.inside.stream_type c.stream.inside.index c.index-self-stream.result 0 Half c.self.invariant (c.stream.invariant.0 ∙ ap type_of c.stream.view_is) (c.stream.invariant.1 ∙ ap index_of c.stream.view_is)) c.self.invariant (c.stream.invariant.0 ∙ ap type_of c.stream.view_is) (c.stream.invariant.1 ∙ ap index_of c.stream.view_is) (rw (← c.self.view_is) at c.requires.open) c.edit.ensures)
