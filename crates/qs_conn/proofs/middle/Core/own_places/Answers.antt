use Rattle.qs_conn.proofs.Places.{six_none, six_of}
use Rattle.qs_conn.specs.Marks.{IsIdle}
use Rattle.qs_conn.specs.Middle.{end_of}
use Rattle.qs_conn.proofs.middle.Core.own_places.Goals as goal

pub returns-clause-idle : goal.returns-clause-idle
returns-clause-idle c = λ s e.
    six_of _ _ _ _ _ _ _ _ _ _ _ _ c.with_bit-places.ensures c.with_bit-places-2.ensures c.with_bit-places-3.ensures c.with_bit-places-4.ensures c.with_bit-places-5.ensures c.with_bit.ensures (IsIdle (end_of c.args.self.now e))
    (λ off. c.may_ask.ensures off e) (λ off. c.may_ask-2.ensures off e) (λ off. c.may_ask-3.ensures off e) (λ off. c.may_ask-4.ensures off e) (λ off. c.may_ask-5.ensures off e) (λ off. c.may_ask-6.ensures off e) s

pub returns-clause-few : goal.returns-clause-few
returns-clause-few c =
    six_none _ _ _ _ _ _ _ _ _ _ _ _ c.with_bit-places.ensures c.with_bit-places-2.ensures c.with_bit-places-3.ensures c.with_bit-places-4.ensures c.with_bit-places-5.ensures c.with_bit.ensures
