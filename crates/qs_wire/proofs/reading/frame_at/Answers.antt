use Rattle.std.proofs.Common.{Ok, Err, sym, arith}
use Rattle.qs_wire.specs.Layout.{view}
use Rattle.qs_wire.proofs.Shapes.{frame_is}
use Rattle.qs_wire.proofs.FitLaws.{is_read}
use Rattle.qs_wire.proofs.reading.frame_at.Goals as goal

pub returns-in-Ok-clause-gives : goal.returns-in-Ok-clause-gives
returns-in-Ok-clause-gives c =
    frame_is c.args.bytes.now c.in_ok-frame_type.rest.now c.in_ok-frame_type.frame_type c.in-Some.known (Ok (view c.in-Ok.frame, c.in-Ok.rest.now)) c.in_ok-frame_type.ensures.gives (sym c.in-Some.ensures) c.in-Ok.ensures

pub returns-in-Err-clause-gives : goal.returns-in-Err-clause-gives
returns-in-Err-clause-gives c =
    frame_is c.args.bytes.now c.in_ok-frame_type.rest.now c.in_ok-frame_type.frame_type c.in-Some.known (Err c.in-Err.kind) c.in_ok-frame_type.ensures.gives (sym c.in-Some.ensures) c.in-Err.ensures

pub returns-in-Ok-clause-read : goal.returns-in-Ok-clause-read
returns-in-Ok-clause-read c =
    is_read c.args.bytes.now (c.in_ok-frame_type.frame_type, view c.in-Ok.frame, c.in-Ok.rest.now) (λ i. omega (arith, c.type_inv.bytes i)) c.in_ok-frame_type.ensures.typed
    (frame_is c.args.bytes.now c.in_ok-frame_type.rest.now c.in_ok-frame_type.frame_type c.in-Some.known (Ok (view c.in-Ok.frame, c.in-Ok.rest.now)) c.in_ok-frame_type.ensures.gives (sym c.in-Some.ensures) c.in-Ok.ensures)
