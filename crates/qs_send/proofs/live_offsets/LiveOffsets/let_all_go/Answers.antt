use Rattle.std.proofs.Common.{◌≡◌, [], refl, ◌∙◌, arith}
use Rattle.std.proofs.lemmas.List.{drop_all}
use Rattle.qs_send.proofs.Steps.{offsets_without}
use Rattle.qs_send.proofs.Runs.{due-none}
use Rattle.qs_send.proofs.live_offsets.LiveOffsets.let_all_go.Goals as goal

none_left : (c : goal.After-drop_below) → c.let_go.new.self.bytes ≡ []
none_left c = c.let_go.ensures.bytes ∙ drop_all c.len-count.result c.self.inside.kept.bytes (omega (arith, c.len-count.ensures))

pub invariant_of-self : goal.invariant_of-self
invariant_of-self c = rw (none_left c, c.drop_below.ensures) (offsets_without _ _ _ _ _ c.self.invariant)

pub returns-clause-parts : goal.returns-clause-parts
returns-clause-parts c = rw (← c.self.view_is, none_left c, c.drop_below.ensures, due-none c.self.inside.noted c.self.inside.acked c.self.inside.written c.self.invariant.noted_written) refl
