use Rattle.std.proofs.Common.{◌≡◌, ◌<◌, List, ℕ, Bool, true, false, length, drop, refl, sym, ap, ◌∙◌, arith}
use Rattle.std.specs.Prelude.{nat_lt, if◌then◌else◌, [], ◌++◌}
use Rattle.std.proofs.lemmas.List.{length-append}
use Rattle.qs_wire.specs.declared.frame_type.FrameType.TheVariants.{Stream}
use Rattle.qs_wire.specs.Layout.{number_of_type, stream}
use Rattle.qs_wire.specs.Grammar.{canonical}
use Rattle.qs_wire.specs.Varint.{short, short_len}
use Rattle.qs_wire.proofs.Numbers.{short_byte, length-short}
use Rattle.qs_wire.proofs.Writes.{Puts-four, Puts-front, stream_text, stream_len}
use Rattle.qs_wire.proofs.writing.put_stream.Goals as goal

small_type : (off fin : Bool) → number_of_type (Stream off true fin) < 64
small_type true true = omega arith
small_type true false = omega arith
small_type false true = omega arith
small_type false false = omega arith

pub returns-then-len-out-clause-full : goal.returns-then-len-out-clause-full
returns-then-len-out-clause-full c =
    let small = small_type (nat_lt 0 c.args.offset) c.args.fin in
    (omega (arith, stream_len c.args.id c.args.offset c.args.fin (c.args.front.now ++ c.args.back.now) small, ap short_len c.value.ensures.same, c.varint_len.ensures.exact, c.len_if.ensures.exact, c.varint_len-2.ensures.exact, length-append c.args.front.now c.args.back.now, ap short_len (length-append c.args.front.now c.args.back.now), c.if-len-out.true), refl)

pub put_number-next-requires-clause-room : goal.put_number-next-requires-clause-room
put_number-next-requires-clause-room c = omega (arith, ap length (short_byte c.number.result c.number.ensures.small), c.if-len-out.false)

pub put_number-next-requires-2-clause-room : goal.put_number-next-requires-2-clause-room
put_number-next-requires-2-clause-room c =
    omega (arith, ap length (short_byte c.number.result c.number.ensures.small), c.put_number-next.ensures.next, c.put_number-next.auto.out, length-short c.value-2.result, ap short_len c.value.ensures.same, ap short_len c.value-2.ensures.same, c.varint_len.ensures.exact, c.if-len-out.false)

pub put_number_if-next-requires-clause-room : goal.put_number_if-next-requires-clause-room
put_number_if-next-requires-clause-room c =
    omega (arith, ap length (short_byte c.number.result c.number.ensures.small), c.put_number-next.ensures.next, c.put_number-next-2.ensures.next, c.put_number-next.auto.out, c.put_number-next-2.auto.out, length-short c.value-2.result, ap short_len c.value.ensures.same, ap short_len c.value-2.ensures.same, c.varint_len.ensures.exact, c.len_if.ensures.exact, c.if-len-out.false)

pub put_pieces-requires-clause-room : goal.put_pieces-requires-clause-room
put_pieces-requires-clause-room c =
    omega (arith, ap length (short_byte c.number.result c.number.ensures.small), c.put_number-next.ensures.next, c.put_number-next-2.ensures.next, c.put_number_if-next.ensures.next, c.put_number-next.auto.out, c.put_number-next-2.auto.out, c.put_number_if-next.auto.out, length-short c.value-2.result, ap short_len c.value.ensures.same, ap short_len c.value-2.ensures.same, c.varint_len.ensures.exact, c.len_if.ensures.exact, c.varint_len-2.ensures.exact, length-append c.args.front.now c.args.back.now, ap short_len (length-append c.args.front.now c.args.back.now), length-append (short (length (c.args.front.now ++ c.args.back.now))) (c.args.front.now ++ c.args.back.now), length-short (length (c.args.front.now ++ c.args.back.now)), c.if-len-out.false)

pub returns-clause-written : goal.returns-clause-written
returns-clause-written c =
    let id = c.args.id in
    let offset = c.args.offset in
    let fin = c.args.fin in
    let bytes : List ℕ = c.args.front.now ++ c.args.back.now in
    let out = c.args.out.now in
    let at : List ℕ = if nat_lt 0 offset then short offset else [] in
    let told : List ℕ = short (length bytes) ++ bytes in
    let whole : List ℕ = short c.number.result ++ (short c.value-2.result ++ (at ++ (told ++ []))) in
    let text : canonical (stream id offset fin bytes) ≡ whole =
    stream_text id offset fin bytes ∙ ap (λ (n : ℕ). short n ++ (short id ++ (at ++ (told ++ [])))) (sym c.number.ensures.number) ∙ ap (λ (n : ℕ). short c.number.result ++ (short n ++ (at ++ (told ++ [])))) (sym c.value-2.ensures.same) in
    let puts = Puts-four (short c.number.result) (short c.value-2.result) at told out c.put_number-next.new.out c.put_number-next-2.new.out c.put_number_if-next.new.out c.put_pieces.new.out c.put_number-next.result c.put_number-next-2.result c.put_number_if-next.result
    c.put_number-next.ensures.puts c.put_number-next.ensures.next c.put_number-next-2.ensures.puts c.put_number-next-2.ensures.next c.put_number_if-next.ensures.puts c.put_number_if-next.ensures.next c.put_pieces.ensures.puts in
    let end : c.put_pieces.result ≡ length (canonical (stream id offset fin bytes)) =
    omega (arith, stream_len id offset fin bytes (small_type (nat_lt 0 offset) fin), ap length (short_byte c.number.result c.number.ensures.small), c.put_number-next.ensures.next, c.put_number-next-2.ensures.next, c.put_number_if-next.ensures.next, c.put_pieces.ensures.next, length-short c.value-2.result, ap short_len c.value-2.ensures.same, length-append (short (length bytes)) bytes, length-short (length bytes)) in (
      end,
      omega (arith, end, stream_len id offset fin bytes (small_type (nat_lt 0 offset) fin), ap short_len c.value.ensures.same, c.varint_len.ensures.exact, c.len_if.ensures.exact, c.varint_len-2.ensures.exact, length-append c.args.front.now c.args.back.now, ap short_len (length-append c.args.front.now c.args.back.now), c.if-len-out.false),
      Puts-front whole out c.put_pieces.new.out puts ∙ ap (λ (n : ℕ). whole ++ drop n out) (sym (end ∙ ap length text)) ∙ ap (λ (t : List ℕ). t ++ drop c.put_pieces.result out) (sym text),
    )
