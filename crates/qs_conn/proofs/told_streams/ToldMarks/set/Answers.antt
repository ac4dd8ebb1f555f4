use Rattle.std.proofs.Common.{◌≡◌, ◌/◌, ◌<◌, ◌∙◌, Bool, List, true, length, arith, ap, set, subst}
use Rattle.qs_conn.specs.Words.{IsWordOf}
use Rattle.qs_conn.proofs.Marked.{full_here, below_more, below_next}
use Rattle.qs_conn.proofs.told_streams.ToldMarks.set.Goals as goal

pub invariant_of-self-then-self-word : goal.invariant_of-self-then-self-word
invariant_of-self-then-self-word c =
    let few = c.requires in
    let is = ap length c.self.view_is in
    let there : c.args.index < length c.self.inside.marks = omega (arith, few, is) in
    let marked : c.set.new.self ≡ set c.self.inside.marks c.args.index true = c.set.ensures ∙ ap (set c.self.inside.marks c.args.index) c.if-not-is_marked.false in
    let room : c.args.index / 64 < length c.self.inside.full = (let r = c.self.invariant.0.room in omega (arith, r, there)) in (
      full_here c.self.inside.marks c.self.inside.full c.set.new.self c.set-then-word.new.self c.args.index c.word.result c.self.invariant.0 there marked (subst (λ (ms : List Bool). IsWordOf ms (c.args.index / 64) c.word.result) c.bits.ensures c.word.ensures) c.if-word.true c.set-then-word.ensures,
      below_next c.self.inside.full c.set-then-word.new.self (c.args.index / 64) room c.set-then-word.ensures c.self.inside.first c.if-self-word.true c.self.invariant.1,
    )

pub invariant_of-self-else-self-word : goal.invariant_of-self-else-self-word
invariant_of-self-else-self-word c =
    let few = c.requires in
    let is = ap length c.self.view_is in
    let there : c.args.index < length c.self.inside.marks = omega (arith, few, is) in
    let marked : c.set.new.self ≡ set c.self.inside.marks c.args.index true = c.set.ensures ∙ ap (set c.self.inside.marks c.args.index) c.if-not-is_marked.false in
    let room : c.args.index / 64 < length c.self.inside.full = (let r = c.self.invariant.0.room in omega (arith, r, there)) in (
      full_here c.self.inside.marks c.self.inside.full c.set.new.self c.set-then-word.new.self c.args.index c.word.result c.self.invariant.0 there marked (subst (λ (ms : List Bool). IsWordOf ms (c.args.index / 64) c.word.result) c.bits.ensures c.word.ensures) c.if-word.true c.set-then-word.ensures,
      below_more c.self.inside.full c.set-then-word.new.self (c.args.index / 64) room c.set-then-word.ensures c.self.inside.first c.self.invariant.1,
    )
