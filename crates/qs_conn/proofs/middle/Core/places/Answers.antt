use Rattle.std.proofs.Common.{subst}
use Rattle.qs_conn.proofs.DuePackets.{kind_idle}
use Rattle.qs_conn.proofs.Places.{each_slot, kind_off, none_past, off_or, row_small, stream_bit}
use Rattle.qs_streams.specs.Rows.{on}
use Rattle.std.proofs.Common.{◌≡◌, false, bit_and, bit_or}
use Rattle.qs_conn.specs.Due.{row_of}
use Rattle.qs_conn.specs.Filling.{slot_at, slot_place}
use Rattle.qs_conn.specs.Marks.{IsIdle}
use Rattle.qs_conn.specs.Middle.{end_of}
use Rattle.qs_conn.proofs.middle.Core.places.Goals as goal

pub returns-clause-idle : goal.returns-clause-idle
returns-clause-idle c = λ s e.
    let self = c.args.self.now in
    let own = c.own_places.result in
    let kinds = bit_and c.some.result 184 in
    each_slot (λ s. on (bit_or own kinds) (slot_place s).0 ≡ false → IsIdle (end_of self e) s)
    (λ s mine off. c.own_places.ensures.idle s e mine (off_or own kinds (slot_place s).0 off).0)
    (λ kind n off. (
    let at = subst (λ t. on kinds t ≡ false) (stream_bit kind n) (off_or own kinds (slot_place (slot_at kind n)).0 off).1 in
    kind_idle self.limits self.recvs self.outbox e self.due c.requires.due n kind (c.some.ensures (row_of kind) (row_small kind) (kind_off c.some.result kind at) n)))
    s

pub returns-clause-few : goal.returns-clause-few
returns-clause-few c = λ t past small. none_past c.own_places.result c.some.result t past (c.own_places.ensures.few t past small)
