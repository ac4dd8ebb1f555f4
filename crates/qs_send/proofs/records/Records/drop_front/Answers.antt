use Rattle.std.proofs.Common.{◌≡◌, ◌∙◌, ◌+◌, ℕ, List, length, drop, false, ap, rules}
use Rattle.std.specs.FinMap as fmap
use Rattle.std.proofs.lemmas.List.{length-drop}
use Rattle.qs_send.specs.declared.piece.Piece.{Piece}
use Rattle.qs_send.specs.Records.{packets_of}
use Rattle.qs_send.proofs.Outstanding.{front_gone, base_moved}
use Rattle.qs_send.proofs.records.Records.drop_front.Goals as goal

later : (base : ℕ) (ss rest : List (List Piece)) → rest ≡ drop 1 ss → fmap.contains_key (packets_of base ss) base ≡ false → packets_of (base + 1) rest ≡ packets_of base ss
later base ss rest is none = ap (packets_of (base + 1)) is ∙ front_gone base ss none

ended : (base : ℕ) (ss rest : List (List Piece)) → rest ≡ drop 1 ss → fmap.contains_key (packets_of base ss) base ≡ false → length rest ≡ 0 → packets_of base rest ≡ packets_of base ss
ended base ss rest is none no_slot = base_moved base (base + 1) rest no_slot ∙ later base ss rest is none

pub returns-then-not-is_empty-clause-pieces : goal.returns-then-not-is_empty-clause-pieces
returns-then-not-is_empty-clause-pieces c = rw (← c.self.view_is) (search (rules, later))

pub returns-else-not-is_empty-clause-pieces : goal.returns-else-not-is_empty-clause-pieces
returns-else-not-is_empty-clause-pieces c = rw (← c.self.view_is) (search (rules, ended))

pub invariant_of-self : goal.invariant_of-self
invariant_of-self c = search (rules, later, length-drop)

pub invariant_of-self-else-not-is_empty : goal.invariant_of-self-else-not-is_empty
invariant_of-self-else-not-is_empty c = search (rules, ended)
