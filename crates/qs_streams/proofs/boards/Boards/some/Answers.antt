use Rattle.qs_streams.proofs.BoardsOf.{none_four, off_four}
use Rattle.qs_streams.proofs.boards.Boards.some.Goals as goal

pub returns : goal.returns
returns c t lt off =
    let (a, b, d, e) = off_four c.some.result c.some-2.result c.some-3.result c.some-4.result t off in
    rw (← c.self.view_is) (none_four c.self.inside.types t _ _ _ _ c.self.invariant (c.some.ensures t lt a) (c.some-2.ensures t lt b) (c.some-3.ensures t lt d) (c.some-4.ensures t lt e))
