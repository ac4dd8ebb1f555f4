use Rattle.std.proofs.Common.{◌≡◌, ◌+◌, ◌++◌, ℕ, ◌∙◌, List, [], ◌∷◌, length, sym, ap, subst, arith}
use Rattle.std.proofs.lemmas.Bool.{eqb-true}
use Rattle.std.proofs.lemmas.List.{append-nil, length-append}
use Rattle.qs_wire.specs.Varint.{short}
use Rattle.qs_wire.specs.Writing.{Puts}
use Rattle.qs_wire.proofs.Writes.{Puts-then}
use Rattle.qs_wire.proofs.writing.put_pieces.Goals as goal

-- the count of both pieces stands before their bytes
counted : (at next : ℕ) (front back old mid new : List ℕ) → Puts at (short (length front + length back)) old mid → next ≡ at + length (short (length front + length back)) → Puts next (front ++ back) mid new → Puts at (short (length (front ++ back)) ++ (front ++ back)) old new
counted at next front back old mid new number after bytes =
    let count : length front + length back ≡ length (front ++ back) = sym (length-append front back) in
    let told : Puts at (short (length (front ++ back))) old mid = subst (λ (n : ℕ). Puts at (short n) old mid) count number in
    Puts-then at next (short (length (front ++ back))) (front ++ back) old mid new told (omega (arith, after, ap (λ n. length (short n)) count)) bytes

-- an empty second piece adds nothing
alone : (next : ℕ) (front back mid new : List ℕ) → length back ≡ 0 → Puts next front mid new → Puts next (front ++ back) mid new
alone next front [] mid new none puts = rw (append-nil front) puts
alone next front (b ∷ back) mid new none puts = absurd (omega (arith, none))

pub returns-then-is_empty-clause-puts : goal.returns-then-is_empty-clause-puts
returns-then-is_empty-clause-puts c =
    let front = c.args.front.now in
    let none : length c.args.back.now ≡ 0 = eqb-true _ _ (sym c.is_empty.ensures ∙ c.if-is_empty.true) in
    let bytes = alone c.put_number-next.result front c.args.back.now c.put_number-next.new.out c.put_bytes-next.new.out none c.put_bytes-next.ensures.puts in
    counted c.args.at c.put_number-next.result front c.args.back.now c.args.out.now c.put_number-next.new.out c.put_bytes-next.new.out c.put_number-next.ensures.puts c.put_number-next.ensures.next bytes

pub returns-clause-puts : goal.returns-clause-puts
returns-clause-puts c =
    let front = c.args.front.now in
    let back = c.args.back.now in
    let bytes = Puts-then c.put_number-next.result c.put_bytes-next.result front back c.put_number-next.new.out c.put_bytes-next.new.out c.put_bytes.new.out c.put_bytes-next.ensures.puts c.put_bytes-next.ensures.next c.put_bytes.ensures.puts in
    counted c.args.at c.put_number-next.result front back c.args.out.now c.put_number-next.new.out c.put_bytes.new.out c.put_number-next.ensures.puts c.put_number-next.ensures.next bytes
