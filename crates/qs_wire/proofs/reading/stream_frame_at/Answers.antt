use Rattle.std.proofs.Common.{◌≡◌, ℕ, Bool, List, Some, Result, Ok, Err, sym, ap, ◌∙◌, arith}
use Rattle.qs_wire.specs.declared.frame_type.FrameType.TheVariants.{Stream}
use Rattle.qs_wire.specs.declared.reading.Broken.{Broken}
use Rattle.qs_wire.specs.Layout.{type_of, view}
use Rattle.qs_wire.specs.Reading.{number_of_type_at}
use Rattle.qs_wire.proofs.FitLaws.{is_read, StreamFront, stream_front}
use Rattle.qs_wire.proofs.Shapes.{byte_type, frame_is}
use Rattle.qs_wire.proofs.reading.stream_frame_at.Goals as goal
use Rattle.qs_wire.proofs.reading.stream_frame_at.Goals.{in_default-via-in-Some+in_default, in_default-via-in_default}

pub returns-in-Ok-clause-read : goal.returns-in-Ok-clause-read
returns-in-Ok-clause-read c =
    is_read c.args.bytes.now (c.in_ok-frame_type.frame_type, view c.in-Ok.frame, c.in-Ok.rest.now) (λ i. omega (arith, c.type_inv.bytes i)) c.in_ok-frame_type.ensures.typed
    (frame_is c.args.bytes.now c.in_ok-frame_type.rest.now c.in_ok-frame_type.frame_type c.in-Some-Stream.field-0 (Ok (view c.in-Ok.frame, c.in-Ok.rest.now)) c.in_ok-frame_type.ensures.gives (sym c.in-Some-Stream.ensures) (rw c.in-Some-Stream.field-0-is c.in-Ok.ensures))

pub returns-in_err-frame_type-clause-other : goal.returns-in_err-frame_type-clause-other
returns-in_err-frame_type-clause-other c = rw c.from_residual.ensures (λ type id offset fin sent rest e.
    let front = stream_front c.args.bytes.now type id offset fin sent rest (λ i. omega (arith, c.type_inv.bytes i)) e in
    omega (arith, front.below, c.in_err-frame_type.ensures.longer front.byte front.behind front.parts))

abbrev typed : ℕ × List ℕ → Result (ℕ × List ℕ) Broken
typed x = Ok x

same : (x y : ℕ × List ℕ) → typed x ≡ typed y → x ≡ y
same x y e = cc

pub returns-in_default-clause-other : goal.returns-in_default-clause-other
returns-in_default-clause-other c = λ type id offset fin sent rest e. at (stream_front c.args.bytes.now type id offset fin sent rest (λ i. omega (arith, c.type_inv.bytes i)) e)
  where
    known : StreamFront c.args.bytes.now → (off : Bool) × (len : Bool) × (last : Bool) × (c.of.result ≡ Some (Stream off len last))
    known front = (front.off, front.len, front.last, c.of.ensures ∙ ap (λ (x : ℕ × List ℕ). type_of x.0) (same _ _ (sym c.in_ok-frame_type.ensures.gives ∙ ap number_of_type_at front.parts ∙ byte_type front.byte front.behind front.below)) ∙ front.typed)

    never : (off len last : Bool) → c.of.result ≡ Some (Stream off len last) → ⊥
    never off len last is = elim c.in_default.branch [ in_default-via-in-Some+in_default w ↦ grind arith | in_default-via-in_default w ↦ absurd (cc (is, w.in_default.is)) ]

    at : StreamFront c.args.bytes.now → ⊥
    at front = let k = known front in never k.0 k.1 k.2 k.3

pub returns-in-Err-clause-other : goal.returns-in-Err-clause-other
returns-in-Err-clause-other c = λ type id offset fin sent rest e.
    absurd (cc (e, frame_is c.args.bytes.now c.in_ok-frame_type.rest.now c.in_ok-frame_type.frame_type c.in-Some-Stream.field-0 (Err c.in-Err._kind) c.in_ok-frame_type.ensures.gives (sym c.in-Some-Stream.ensures) (rw c.in-Some-Stream.field-0-is c.in-Err.ensures)))
