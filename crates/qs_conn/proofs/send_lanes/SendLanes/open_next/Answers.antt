use Rattle.std.proofs.Common.{Some, ◌≡◌, ◌∙◌, ◌++◌, ◌∷◌, [], ap, rules}
use Rattle.qs_send.specs.Lane.{new_sending}
use Rattle.qs_conn.proofs.LaneEdits.{id_is}
use Rattle.qs_conn.proofs.Tasks.{all_next}
use Rattle.qs_conn.proofs.send_lanes.SendLanes.open_next.Goals as goal

pub invariant_of-self-2 : goal.invariant_of-self-2
invariant_of-self-2 c =
    let is : c.new.result ≡ Some c.unwrap-id.result = search (rules, c.unwrap-id.ensures) in
    let half = c.new-2.ensures ∙ ap (λ k. new_sending k c.args.limit c.args.buffer) (id_is c.new.result c.unwrap-id.result _ is c.new.ensures.some) in
    all_next c.self.inside.halves c.self.inside.marks c.make_room.new.self c.len-index.result c.len-index.ensures.value c.make_room.ensures.wider c.self.invariant.1 c.args.stream_type c.args.limit c.args.buffer _ _ _ _ (rw (c.len-index.ensures.value, c.self.view_is) c.requires.few)
    (c.in_ok-push.ensures.ok ∙ ap (λ h. c.self.inside.halves ++ h ∷ []) half) c.in_ok-make_room.ensures.ok c.begin.ensures c.self.invariant.2
