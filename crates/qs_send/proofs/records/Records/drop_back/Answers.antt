use Rattle.std.proofs.Common.{◌≡◌, ◌+◌, ◌-◌, ◌<◌, ℕ, List, length, take, false, rules}
use Rattle.std.specs.FinMap as fmap
use Rattle.std.proofs.lemmas.List.{length-take}
use Rattle.qs_send.specs.declared.piece.Piece.{Piece}
use Rattle.qs_send.specs.Records.{packets_of}
use Rattle.qs_send.proofs.Outstanding.{back_gone}
use Rattle.qs_send.proofs.records.Records.drop_back.Goals as goal

same : (base len : ℕ) (ss rest : List (List Piece)) → len ≡ length ss → 0 < length ss → rest ≡ take (len - 1) ss → fmap.contains_key (packets_of base ss) (base + length ss - 1) ≡ false → packets_of base rest ≡ packets_of base ss
same base len ss rest is some without none = search (rules, back_gone)

pub returns-clause-pieces : goal.returns-clause-pieces
returns-clause-pieces c = rw (← c.self.view_is) (search (rules, same))

pub invariant_of-self : goal.invariant_of-self
invariant_of-self c = search (rules, same, length-take)
