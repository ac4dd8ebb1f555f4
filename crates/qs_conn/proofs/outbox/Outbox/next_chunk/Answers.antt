use Rattle.std.proofs.Common.{refl}
use Rattle.qs_conn.proofs.Outboxes.{half_there, sending_is}
use Rattle.qs_conn.proofs.Flows.{chunk_found}
use Rattle.qs_machine.specs.Sums.{tables_of}
use Rattle.qs_conn.proofs.outbox.Outbox.next_chunk.Goals as goal

pub half_of-half-requires-clause-open : goal.half_of-half-requires-clause-open
half_of-half-requires-clause-open c = half_there _ c.args.self.now (tables_of c.self.inside.types) c.args.stream c.self.view_is refl c.requires

pub returns : goal.returns
returns c = (c.half_of-half.result, sending_is _ c.args.self.now (tables_of c.self.inside.types) c.args.stream c.half_of-half.result c.self.view_is refl c.half_of-half.ensures c.learn_lawful.ensures (c.self.invariant.0.tied.lanes c.args.stream c.half_of-half.result c.half_of-half.ensures), chunk_found c.half_of-half.result c.args.room c.args.fresh c.next_chunk.result c.next_chunk.ensures.found c.next_chunk.ensures.none c.next_chunk.ensures.kept)
