use Rattle.std.proofs.Common.{◌≡◌, ◌+◌, ℕ, List, ◌++◌, [], length, sym, ap, subst, ◌∙◌, append_assoc, arith}
use Rattle.std.proofs.lemmas.List.{append-nil, length-append}
use Rattle.qs_wire.specs.Varint.{short}
use Rattle.qs_wire.specs.Writing.{Puts}
use Rattle.qs_wire.proofs.Writes.{Puts-then}
use Rattle.qs_wire.proofs.writing.put_counts.Goals as goal

pub returns-clause-puts : goal.returns-clause-puts
returns-clause-puts c =
    let x = short c.args.counts.ect0 in
    let y = short c.args.counts.ect1 in
    let z = short c.args.counts.ce in
    let a = c.put_number-next in
    let b = c.put_number-next-2 in
    let d = c.put_number in
    let two = Puts-then c.args.at a.result x y c.args.out.now a.new.out b.new.out a.ensures.puts a.ensures.next b.ensures.puts in
    let next : b.result ≡ c.args.at + length (x ++ y) = omega (arith, a.ensures.next, b.ensures.next, length-append x y) in
    let three = Puts-then c.args.at b.result (x ++ y) z c.args.out.now b.new.out d.new.out two next d.ensures.puts in
    let is : (x ++ y) ++ z ≡ x ++ (y ++ (z ++ [])) = append_assoc x y z ∙ ap (λ (t : List ℕ). x ++ (y ++ t)) (sym (append-nil z)) in
    subst (λ (t : List ℕ). Puts c.args.at t c.args.out.now d.new.out) is three
