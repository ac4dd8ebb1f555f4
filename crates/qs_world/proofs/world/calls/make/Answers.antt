use Rattle.std.proofs.Common.{rules, arith, ◌≡◌, ◌++◌, ℕ, List, take, drop, length, Option, None, Some, Result, Ok, Err, refl, sym, ap, ◌∙◌, subst}
use Rattle.qs_calls.specs.declared.making.Made.{Made}
use Rattle.qs_calls.specs.declared.making.MakeFault.{MakeFault}
use Rattle.qs_machine.specs.Making.{MakeStep}
use Rattle.qs_conn.specs.Filling.{made_text}
use Rattle.qs_world.specs.Buffers.{count_made}
use Rattle.qs_world.proofs.ReadCuts.{kept}
use Rattle.qs_world.proofs.world.calls.make.Goals as goal

cut_is : (r : Result (Option Made) MakeFault) (out : List ℕ) → take (count_made r) out ≡ made_text r out
cut_is (Ok (Some made)) out = refl
cut_is (Ok None) out = refl
cut_is (Err fault) out = refl

pub returns : goal.returns
returns c =
    let out = c.make_packet-answer.new.out in
    let r = c.make_packet-answer.result in
    let len : length c.args.buffer.items ≡ c.args.buffer.len = search rules in
    let same : length out ≡ length c.args.buffer.items = search rules in
    let whole = kept out c.args.buffer.items c.args.buffer.len same len in
    let text : c.truncate.new.self.items ≡ made_text r out = c.truncate.ensures.items ∙ ap (take c.count_made.result) whole ∙ ap (λ n. take n out) c.count_made.ensures ∙ cut_is r out in
    let step = rw c.deref_mut.ensures.value at c.make_packet-answer.ensures.step in
    subst (λ t. MakeStep c.args.end.now 0 0 (length c.args.buffer.items) r t c.make_packet-answer.new.self) (sym text) step
