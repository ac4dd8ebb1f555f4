use Rattle.qs_streams.proofs.Flags.{on_test}
use Rattle.qs_streams.proofs.rows.has_bit.Goals as goal

pub returns : goal.returns
returns c = on_test c.args.word c.args.bit
