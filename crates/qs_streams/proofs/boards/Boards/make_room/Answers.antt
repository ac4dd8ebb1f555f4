use Rattle.qs_machine.proofs.TableEdits.{on_ok}
use Rattle.qs_streams.proofs.BoardsOf.{placed, roomier}
use Rattle.qs_streams.proofs.boards.Boards.make_room.Goals as goal

pub returns-clause-more : goal.returns-clause-more
returns-clause-more c = rw (← c.self.view_is) (roomier c.self.inside.types c.args.stream c.type_of.result c.index_of.result c.index-self-type_of.result c.self.invariant c.type_of.ensures.value c.index_of.ensures.value _ c.make_room.ensures.more.flags c.make_room.ensures.more.least)

pub returns-clause-ok : goal.returns-clause-ok
returns-clause-ok c = on_ok c.make_room.result _ _ (placed c.self.inside.types c.args.stream c.type_of.result c.index_of.result c.index-self-type_of.result c.self.invariant c.type_of.ensures.value c.index_of.ensures.value _) c.make_room.ensures.ok
