use Rattle.std.proofs.Common.{◌≡◌, ℕ, take, drop, length, subst, sym, ap, ◌∙◌, rules}
use Rattle.std.proofs.Math.Seq.{take-append_seam}
use Rattle.qs_machine.specs.Owner.{ReadStep, recv_refusal, is_read_no_more}
use Rattle.qs_world.proofs.ReadCuts.{kept, count_is}
use Rattle.qs_world.proofs.world.calls.read.Goals as goal

pub returns : goal.returns
returns c =
    let (bytes, is, step) = c.read-answer.ensures in
    let e = c.args.end.now in
    let into = c.read-answer.new.into in
    let r = c.read-answer.result in
    let len : length c.args.buffer.items ≡ c.args.buffer.len = search rules in
    let same : length into ≡ length c.args.buffer.items = search rules in
    let whole = kept into c.args.buffer.items c.args.buffer.len same len in
    let count : c.count_read.result ≡ length bytes = c.count_read.ensures ∙ count_is (recv_refusal (is_read_no_more e) e c.args.stream) e c.read-answer.new.self c.args.stream (length c.deref_mut.result.now) r bytes step in
    let text : c.truncate.new.self.items ≡ bytes =
    c.truncate.ensures.items ∙ ap (take c.count_read.result) whole ∙ ap (λ n. take n into) count ∙ ap (take (length bytes)) is
    ∙ take-append_seam bytes (drop (length bytes) c.deref_mut.result.now)
    in
    let read = rw c.deref_mut.ensures.value at step in
    subst (λ b. ReadStep e c.args.stream (length c.args.buffer.items) r b c.read-answer.new.self) (sym text) read
