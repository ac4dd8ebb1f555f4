use Rattle.std.proofs.Common.{◌≡◌, ℕ, ◌+◌, ◌-◌, ◌/◌, List, ◌++◌, length, ap, subst, ◌∙◌, arith}
use Rattle.std.specs.List.{flat_map}
use Rattle.qs_wire.specs.Varint.{short, numbers_of}
use Rattle.qs_wire.specs.Writing.{Puts}
use Rattle.qs_wire.proofs.Writes.{Puts-then, identifier_text}
use Rattle.qs_wire.proofs.writing.Part.put.Goals as goal

pub put_counted-requires-in-Identifier-clause-room : goal.put_counted-requires-in-Identifier-clause-room
put_counted-requires-in-Identifier-clause-room c =
    let fits = rw c.in-Identifier.is at c.requires.fits in
    let room = rw c.in-Identifier.is at c.requires.room in
    rw (identifier_text c.in-Identifier.bytes.now fits) room

pub returns-in-Identifier-clause-puts : goal.returns-in-Identifier-clause-puts
returns-in-Identifier-clause-puts c =
    let fits = rw c.in-Identifier.is at c.requires.fits in
    rw c.in-Identifier.is (subst (λ (t : List ℕ). Puts c.args.at t c.args.out.now c.put_counted-in-Identifier.new.out) (identifier_text c.in-Identifier.bytes.now fits) c.put_counted-in-Identifier.ensures.puts)

pub returns-in-Identifier-clause-next : goal.returns-in-Identifier-clause-next
returns-in-Identifier-clause-next c =
    let fits = rw c.in-Identifier.is at c.requires.fits in
    rw c.in-Identifier.is (c.put_counted-in-Identifier.ensures.next ∙ ap (λ (t : List ℕ). c.args.at + length t) (identifier_text c.in-Identifier.bytes.now fits))

pub returns-in-Ranges-clause-puts : goal.returns-in-Ranges-clause-puts
returns-in-Ranges-clause-puts c =
    let v = numbers_of c.in-Ranges.numbers.now in
    let fit = rw c.in-Ranges.is at c.requires.fits in
    let n : ℕ = c.shortest-count.result.0 / 2 in
    let half : n ≡ (length v - 1) / 2 = omega (arith, c.shortest-count.ensures.count, fit.odd) in
    let both = Puts-then c.args.at c.put_number-next.result (short n) (flat_map short v) c.args.out.now c.put_number-next.new.out c.put_shortest.new.out c.put_number-next.ensures.puts c.put_number-next.ensures.next c.put_shortest.ensures.puts in
    rw c.in-Ranges.is (subst (λ (m : ℕ). Puts c.args.at (short m ++ flat_map short v) c.args.out.now c.put_shortest.new.out) half both)
