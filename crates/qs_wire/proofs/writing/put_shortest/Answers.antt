use Rattle.std.proofs.Common.{◌≡◌, ℕ, List, [], ◌++◌, length, Some, sym, ap, subst, ◌∙◌, append_assoc, arith}
use Rattle.std.specs.List.{flat_map}
use Rattle.std.proofs.lemmas.List.{append-nil, length-append}
use Rattle.qs_wire.specs.Varint.{varint_at, short, numbers_of}
use Rattle.qs_wire.specs.Writing.{Puts}
use Rattle.qs_wire.proofs.Ranges.{shortest_next, shortest_none, shortest_len, none_from_default}
use Rattle.qs_wire.proofs.Writes.{Puts-then}
use Rattle.qs_wire.proofs.writing.put_shortest.Goals as goal

-- where nothing is left, the front is all
front_is : (front rest total : List ℕ) → front ++ rest ≡ total → rest ≡ [] → front ≡ total
front_is front rest total whole none = sym (append-nil front) ∙ ap (λ (t : List ℕ). front ++ t) (sym none) ∙ whole

pub put_number-next-requires-clause-room : goal.put_number-next-requires-clause-room
put_number-next-requires-clause-room c =
    let rest = c.loop-value.rest.now in
    let i = c.loop-value.invariant in
    let e : varint_at rest ≡ Some (c.in-Some.value, c.in-Some.len) = sym c.in-Some.ensures.exact in
    omega (arith, shortest_len rest (c.in-Some.value, c.in-Some.len) e, ap length i.1, length-append i.0 (flat_map short (numbers_of rest)), c.requires, i.3, c.loop-value.auto.out)

pub loop-value-preserved : goal.loop-value-preserved
loop-value-preserved c =
    let rest = c.loop-value.rest.now in
    let v = c.in-Some.value in
    let i = c.loop-value.invariant in
    let e : varint_at rest ≡ Some (v, c.in-Some.len) = sym c.in-Some.ensures.exact in
    let after = c.split_at.result.1.now in
    let more : short v ++ flat_map short (numbers_of after) ≡ flat_map short (numbers_of rest) =
    ap (λ (t : List ℕ). short v ++ flat_map short (numbers_of t)) c.split_at.ensures.back ∙ sym (shortest_next rest (v, c.in-Some.len) e) in (
      i.0 ++ short v,
      append_assoc i.0 (short v) (flat_map short (numbers_of after)) ∙ ap (λ (t : List ℕ). i.0 ++ t) more ∙ i.1,
      Puts-then c.args.at c.loop-value.next i.0 (short v) c.args.out.now c.loop-value.out c.put_number-next.new.out i.2 i.3 c.put_number-next.ensures.puts,
      omega (arith, c.put_number-next.ensures.next, i.3, length-append i.0 (short v)),
    )

pub returns-clause-puts : goal.returns-clause-puts
returns-clause-puts c =
    let i = c.loop-value.invariant in
    let none = shortest_none c.loop-value.rest.now (none_from_default (varint_at c.loop-value.rest.now) c.read_varint.result c.read_varint.ensures.exact c.in_default.not-Some) in
    subst (λ (t : List ℕ). Puts c.args.at t c.args.out.now c.loop-value.out) (front_is i.0 _ _ i.1 none) i.2

pub returns-clause-next : goal.returns-clause-next
returns-clause-next c =
    let i = c.loop-value.invariant in
    let none = shortest_none c.loop-value.rest.now (none_from_default (varint_at c.loop-value.rest.now) c.read_varint.result c.read_varint.ensures.exact c.in_default.not-Some) in
    omega (arith, ap length (front_is i.0 _ _ i.1 none), i.3)
