use Rattle.std.proofs.Common.{◌∙◌, ◌||◌, is_some, ap, sym, arith}
use Rattle.std.proofs.lemmas.Bool.{both_ways}
use Rattle.qs_recv.specs.Rest.{given}
use Rattle.qs_recv.proofs.RestLaws.{given_some, let_go_ended, let_go_read, all_read, read_all}
use Rattle.qs_recv.proofs.LawfulLaws.{sound_front, sound_told, small_front}
use Rattle.qs_recv.proofs.live.LiveHalf.skip.Goals as goal

pub overflow_add-self : goal.overflow_add-self
overflow_add-self g c = rw c.skip-count.ensures.count (let small = small_front _ _ _ _ c.args.most c.self.invariant.0 in omega arith)

pub invariant_of-self-2 : goal.invariant_of-self-2
invariant_of-self-2 g c = rw (c.skip-count.ensures.rest, c.skip-count.ensures.count) (
  sound_front _ _ _ _ _ c.self.invariant.0,
  let_go_read _ _ _ c.args.most
      (c.self.invariant.0.lawful.discards ∙ ap (λ o. is_some (given o c.self.inside.reset) || is_some (given c.self.inside.is_stopped c.self.inside.stop)) c.if-self.false ∙ given_some _ _ ∙ c.if-self-2.false)
      (λ all. both_ways _ (rw (← c.self.view_is) at (sym c.is_at_end.ensures ∙ c.if-is_at_end.false)) (read_all _ _ all)) c.self.invariant.1,
)

pub invariant_of-self-then-is_at_end : goal.invariant_of-self-then-is_at_end
invariant_of-self-then-is_at_end g c = rw c.give_back.ensures.same (sound_told _ _ _ _ c.self.invariant.0, let_go_ended _ _ _ (all_read _ _ (rw (← c.self.view_is) at (sym c.is_at_end.ensures ∙ c.if-is_at_end.true))) c.self.invariant.0.lawful c.self.invariant.1 c.give_back.ensures.gone)
