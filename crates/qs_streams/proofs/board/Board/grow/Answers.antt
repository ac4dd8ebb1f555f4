use Rattle.std.proofs.Common.{◌≡◌, ◌*◌, length, arith}
use Rattle.qs_streams.proofs.BoardEdits.{more_tops, more_blocks}
use Rattle.qs_streams.proofs.board.Board.grow.Goals as goal

pub invariant_of-self : goal.invariant_of-self
invariant_of-self c =
    more_blocks _ _ _ _ _ c.self.invariant _ c.grow.ensures.longer (omega (arith, c.grow.ensures.longer.most, c.if-len.true, c.len-2.ensures.len, c.len-3.ensures.len)) (omega (arith, c.grow.ensures.longer.most, c.if-len-ge-MOST_BLOCKS.false, c.len.ensures.len))

pub invariant_of-self-2 : goal.invariant_of-self-2
invariant_of-self-2 c =
    let full : 64 * length c.self.inside.tops ≡ length c.self.inside.blocks = omega (arith, c.if-len.false, c.self.invariant.room, c.len-2.ensures.len, c.len-3.ensures.len) in
    more_blocks _ _ _ _ _ (more_tops _ _ _ _ _ c.self.invariant _ c.grow-2.ensures.longer full) _ c.grow-3.ensures.longer
    (omega (arith, c.grow-3.ensures.longer.most, c.in_ok-grow.ensures.ok, c.self.invariant.room)) (omega (arith, c.grow-3.ensures.longer.most, c.if-len-ge-MOST_BLOCKS.false, c.len.ensures.len))
