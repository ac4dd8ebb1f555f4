use Rattle.std.proofs.Common.{rules, ◌≡◌, ◌≤◌, true, length, refl}
use Rattle.std.specs.FinMap as fmap
use Rattle.qs_c.specs.Statuses.{is_small}
use Rattle.qs_c.specs.Telling.{LieWithin}
use Rattle.qs_c.proofs.Noting.{telling, same_slice}
use Rattle.qs_c.proofs.Steps.{tested}
use Rattle.qs_c.proofs.thing.Thing.receive_with_acks.Goals as goal

pub returns : goal.returns
returns c =
    let small : is_small c.args.number ≡ true = search rules in
    let ends : c.self.inside.end ≡ c.args.self.now = search rules in
    let within : LieWithin c.args.self.now.outstanding (length c.args.told.now) = search rules in
    let few : length (fmap.keys c.args.self.now.outstanding) ≤ length c.args.told.now = search rules in
    let same = same_slice c.self.inside.end c.args.self.now c.receive_with_acks-answer.new.self c.args.payload.now _ c.receive_with_acks-answer.new.told few ends c.receive_with_acks-answer.ensures.told refl in
    tested (is_small c.args.number) _ _ _ _ small
    (telling c.args.number c.args.payload.now c.self.inside.end c.args.self.now c.receive_with_acks-answer.new.self c.of_received.result c.args.count.now c.args.closing.now c.of_received.new.closing c.args.told.now _ c.receive_with_acks-answer.result _ c.receive_with_acks-answer.new.told
    ends within few c.of_received.ensures c.receive_with_acks-answer.ensures.step c.receive_with_acks-answer.ensures.told refl refl (search (rules, same)))
