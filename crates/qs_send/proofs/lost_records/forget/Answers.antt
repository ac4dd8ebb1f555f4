use Rattle.std.proofs.Common.{◌∙◌, rules, not, nat_eq}
use Rattle.std.proofs.lemmas.Fn.{filter_same}
use Rattle.qs_send.proofs.Outstanding.{filter-without}
use Rattle.qs_send.proofs.lost_records.forget.Goals as goal

pub returns : goal.returns
returns c = filter_same _ (λ k. not (nat_eq k c.args.number)) _ (λ x b f called. (search rules, search rules)) _ _ c.retain.ensures.filtered ∙ filter-without c.args.number c.args.order.now.items
