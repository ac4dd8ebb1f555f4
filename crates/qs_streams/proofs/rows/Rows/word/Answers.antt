use Rattle.qs_streams.proofs.Flags.{word_read}
use Rattle.qs_streams.proofs.rows.Rows.word.Goals as goal

pub returns : goal.returns
returns c = rw (← c.self.view_is) (word_read c.self.inside.blocks.items c.args.row c.args.place c.index.result.now (rw (← c.self.view_is) at c.requires.there) c.index.ensures)
