use Rattle.std.proofs.Common.{◌-◌, [], arith, leb, rules}
use Rattle.std.proofs.lemmas.List.Sorted.{IsPartitionPoint-from_clause, IsPartitionedBy-leb}
use Rattle.std.proofs.lemmas.Bool.{leb-true, leb-false}
use Rattle.qs_chunks.proofs.SpotLaws.{offsets_rise}
use Rattle.qs_chunks.proofs.chunk_list.ChunkList.place_past.Goals as goal

pub returns-in-Some-clause-before : goal.returns-in-Some-clause-before
returns-in-Some-clause-before c =
    let cs = c.self.inside.chunks.items in
    let rise = IsPartitionedBy-leb (λ p. p.offset) cs c.args.start (offsets_rise cs 0 (rw (← c.self.view_is) at c.requires)) in
    let point = IsPartitionPoint-from_clause (λ p. leb p.offset c.args.start) cs _ c.partition_point.ensures.partitioned rise (λ a r q k. search rules) in
    λ some. rw (← c.self.view_is) (leb-true _ _ (point.0 (c.partition_point.result - 1) (record { offset = 0; bytes = [] }) (omega arith) (omega arith)))

pub returns-in-Some-clause-behind : goal.returns-in-Some-clause-behind
returns-in-Some-clause-behind c =
    let cs = c.self.inside.chunks.items in
    let rise = IsPartitionedBy-leb (λ p. p.offset) cs c.args.start (offsets_rise cs 0 (rw (← c.self.view_is) at c.requires)) in
    let point = IsPartitionPoint-from_clause (λ p. leb p.offset c.args.start) cs _ c.partition_point.ensures.partitioned rise (λ a r q k. search rules) in
    λ more. rw (← c.self.view_is) (leb-false _ _ (point.1 c.partition_point.result (record { offset = 0; bytes = [] }) (omega arith) (rw (← c.self.view_is) at more)))
