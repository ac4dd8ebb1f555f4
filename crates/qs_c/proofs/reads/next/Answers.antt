use Rattle.std.proofs.Common.{◌≡◌, ℕ, ◌-◌, List, [], length, drop, take, Some, refl, sym, ap, ◌∙◌, arith}
use Rattle.std.proofs.lemmas.Bool.{le-leb}
use Rattle.std.proofs.lemmas.List.{length-drop}
use Rattle.qs_wire.specs.declared.fault.WireFault.{WireFault}
use Rattle.qs_wire.specs.Reading.{Reading, reading_of}
use Rattle.qs_wire.proofs.Numbers.{IsBytes, IsBytes-drop}
use Rattle.qs_wire.proofs.Payloads.{at_end}
use Rattle.qs_c.proofs.Told.{by_true, slice_from, fault_again, next_frame, next_none, next_fault}
use Rattle.qs_c.proofs.reads.next.Goals.{else-at-payload-2-via-then-at-payload-2+else-at-gt0, else-at-payload-2-via-else-at-payload-2}
use Rattle.qs_c.proofs.reads.next.Goals as goal

pub returns-then-at-gt0 : goal.returns-then-at-gt0
returns-then-at-gt0 c =
    let payload : List ℕ = c.args.payload.now in
    let at : ℕ = c.args.place.now in
    by_true _ _ _ (le-leb at (length payload) c.if-at-payload.false)
    (next_none _ payload _ _ (at_end at (drop at payload) c.if-at-gt0.true (omega (arith, length-drop at payload, c.if-at-payload-2.true))) refl)

pub returns-in-Ok-Some : goal.returns-in-Ok-Some
returns-in-Ok-Some c =
    let payload : List ℕ = c.args.payload.now in
    let at : ℕ = c.args.place.now in
    let n = c.told_of-end.ensures payload (sym (slice_from at payload)) c.if-at-payload.false in
    by_true _ _ _ (le-leb at (length payload) c.if-at-payload.false)
    (next_frame _ n.first _ payload _ _ n.reading (record { frame = n.told; further = n.further; within = n.within; left = refl; fault = refl }))

pub returns-in-Err : goal.returns-in-Err
returns-in-Err c =
    let payload : List ℕ = c.args.payload.now in
    let at : ℕ = c.args.place.now in
    let bytes : List ℕ = take (length payload - at) (drop at payload) in
    let same : bytes ≡ drop at payload = slice_from at payload in
    let fits : IsBytes (drop at payload) = IsBytes-drop at payload (λ i. omega (arith, c.type_inv.payload i)) in
    let empty : length (drop at payload) ≡ 0 → at ≡ 0 = λ none. elim c.else-at-payload-2.branch [
      | else-at-payload-2-via-then-at-payload-2+else-at-gt0 w ↦ omega (arith, w.if-at-gt0.false)
      | else-at-payload-2-via-else-at-payload-2 w ↦ absurd (w.if-at-payload-2.false (omega (arith, none, length-drop at payload, c.if-at-payload.false)))
    ] in
    by_true _ _ _ (le-leb at (length payload) c.if-at-payload.false)
    (next_fault _ _ payload _ _ (fault_again (drop at payload) at c.in-Err.wire fits empty (ap reading_of (sym same) ∙ sym c.new.ensures.exact ∙ c.in-Err.ensures.step.0)) c.of.ensures refl refl)
