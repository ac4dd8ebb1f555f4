use Rattle.std.proofs.Common.{◌≡◌, ◌+◌, ◌∙◌, ◌⊎◌, true, false, is_some, inl, inr}
use Rattle.qs_recv.specs.Rest.{given}
use Rattle.qs_recv.proofs.LawfulLaws.{changed_by, covered_is}
use Rattle.qs_recv.proofs.RestLaws.{given_some}
use Rattle.qs_recv.proofs.live.LiveHalf.stream_changes.Goals as goal
use Rattle.qs_recv.proofs.live.LiveHalf.stream_changes.Goals.{else-fin-via-then-fin+else-not-self, else-fin-via-else-fin}

pub returns : goal.returns
returns g c =
    let sized : (c.args.fin ≡ false) ⊎ (is_some (given c.self.inside.is_sized c.self.inside.size) ≡ true) = elim c.else-fin.branch [
      | else-fin-via-then-fin+else-not-self w ↦ inr (given_some _ _ ∙ w.if-not-self.false)
      | else-fin-via-else-fin w ↦ inl w.if-fin.false
    ] in
    let s = c.self.inside in
    rw (← c.self.view_is)
    (changed_by (given s.is_sized s.size) (given s.is_reset s.reset) _ c.args.offset (c.args.offset + c.args.len) c.args.fin c.covers.result sized (given_some _ _ ∙ c.if-self.false)
    (covered_is _ _ _ _ (rw c.received.ensures at c.covers.ensures)))
