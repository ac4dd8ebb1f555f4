use Rattle.std.proofs.Common.{◌≡◌, ℕ, ◌+◌, ◌-◌, ◌<◌, ◌≤◌, List, ◌++◌, length, take, drop, refl, sym, ap, ◌∙◌, arith}
use Rattle.std.proofs.lemmas.List.{length-append, length-drop}
use Rattle.qs_wire.specs.Grammar.{canonical}
use Rattle.qs_wire.specs.Acks.{ack_of}
use Rattle.qs_wire.proofs.Numbers.{length-short}
use Rattle.qs_wire.proofs.PairLaws.{top, text_below, first_text, length-first_text, ack_take, length-ack_take}
use Rattle.qs_wire.proofs.Writes.{Puts-before}
use Rattle.qs_wire.proofs.acks.put_delayed_ack.Goals as goal

pub returns-then-first-out-clause-full : goal.returns-then-first-out-clause-full
returns-then-first-out-clause-full c =
    let ps = c.args.pairs.now in
    let a = (top ps).1 - 1 in
    let l = a - (top ps).0 in
    (omega (arith, length-ack_take c.args.delay ps c.split_at.result.1.now 0 c.requires.pairs c.split_at.ensures.back (omega arith), length-short a, length-short l, length-short c.args.delay, c.varint_len.ensures.exact, c.varint_len-2.ensures.exact, c.varint_len-3.ensures.exact, c.if-first-out.true), refl)

pub put_numbers-requires-clause-room : goal.put_numbers-requires-clause-room
put_numbers-requires-clause-room c =
    let ps = c.args.pairs.now in
    let a = (top ps).1 - 1 in
    let l = a - (top ps).0 in
    let k = c.put_ranges-count.result.0 in
    let few : k < 64 = omega (arith, c.put_ranges-count.ensures.count, c.requires.pairs.few, ap length c.split_at.ensures.back, length-drop 1 ps) in
    omega (arith, length-first_text c.args.delay (top ps) k few, length-short a, length-short l, length-short c.args.delay, c.varint_len.ensures.exact, c.varint_len-2.ensures.exact, c.varint_len-3.ensures.exact, c.if-first-out.false, c.put_ranges-count.auto.out)

pub returns-clause-written : goal.returns-clause-written
returns-clause-written c =
    let ps = c.args.pairs.now in
    let others = c.split_at.result.1.now in
    let k = c.put_ranges-count.result.0 in
    let at : ℕ = c.varint_len.result + c.varint_len-2.result + c.varint_len-3.result + 2 in
    let a = (top ps).1 - 1 in
    let l = a - (top ps).0 in
    let out = c.args.out.now in
    let first = first_text c.args.delay (top ps) k in
    let text = text_below (top ps).0 (take k others) in
    let count : k ≤ length others = c.put_ranges-count.ensures.count in
    let few : k < 64 = omega (arith, count, c.requires.pairs.few, ap length c.split_at.ensures.back, length-drop 1 ps) in
    let head : length first ≡ at = omega (arith, length-first_text c.args.delay (top ps) k few, length-short a, length-short l, length-short c.args.delay, c.varint_len.ensures.exact, c.varint_len-2.ensures.exact, c.varint_len-3.ensures.exact) in
    let begins = c.put_numbers.ensures.written ∙ ap (λ (n : ℕ). first ++ drop n c.put_ranges-count.new.out) (c.put_numbers.ensures.next ∙ head) in
    let whole = Puts-before at first text out c.put_ranges-count.new.out c.put_numbers.new.out head c.put_ranges-count.ensures.puts begins in
    let is : canonical (ack_of c.args.delay (take (k + 1) ps)) ≡ first ++ text = ack_take c.args.delay ps others k c.requires.pairs.some c.split_at.ensures.back count in
    let len : c.put_ranges-count.result.1 ≡ length (first ++ text) = omega (arith, head, length-append first text, c.put_ranges-count.ensures.next) in (
      len ∙ sym (ap length is),
      omega (arith, c.put_ranges-count.ensures.puts.room, c.put_ranges-count.ensures.next),
      whole ∙ ap (λ (n : ℕ). (first ++ text) ++ drop n out) (sym len) ∙ ap (λ (t : List ℕ). t ++ drop c.put_ranges-count.result.1 out) (sym is),
    )

pub returns-clause-most : goal.returns-clause-most
returns-clause-most c = λ n lt le.
    let ps = c.args.pairs.now in
    let others = c.split_at.result.1.now in
    let a = (top ps).1 - 1 in
    let l = a - (top ps).0 in
    let k : ℕ = n - 1 in
    let back = ap length c.split_at.ensures.back in
    let within : k ≤ length others = omega (arith, back, length-drop 1 ps) in
    let more = c.put_ranges-count.ensures.most k (omega arith) within in
    let all = length-ack_take c.args.delay ps others k c.requires.pairs c.split_at.ensures.back within in
    let same : length (canonical (ack_of c.args.delay (take n ps))) ≡ length (canonical (ack_of c.args.delay (take (k + 1) ps))) = ap (λ (m : ℕ). length (canonical (ack_of c.args.delay (take m ps)))) (omega arith) in
    omega (arith, more, all, same, length-short a, length-short l, length-short c.args.delay, c.varint_len.ensures.exact, c.varint_len-2.ensures.exact, c.varint_len-3.ensures.exact)
