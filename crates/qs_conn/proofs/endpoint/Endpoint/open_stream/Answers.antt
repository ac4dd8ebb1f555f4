use Rattle.std.proofs.Common.{refl, sym, ap, ◌∙◌}
use Rattle.qs_machine.specs.Asking.{kept_on}
use Rattle.qs_machine.specs.Ends.{End, first_window}
use Rattle.qs_machine.proofs.Taken.{none_back, lost_back, unsent_back, out_back}
use Rattle.qs_conn.specs.Promised.{promised_on}
use Rattle.qs_conn.proofs.Cores.{kept_moved, kept_streams, rest_opened, rest_placed}
use Rattle.qs_conn.proofs.Tasks.{unwritten_back}
use Rattle.qs_conn.proofs.endpoint.Endpoint.open_stream.Goals as goal

pub returns-in-Err-clause-err : goal.returns-in-Err-clause-err
returns-in-Err-clause-err c =
    let back = out_back c.self.inside.core.outbox c.open_sends.new.outbox c.args.stream c.count_of-before.result _ _ _ c.in_ok-open_sends.ensures.ok (rw c.type_of.ensures.value at c.count_of-before.ensures.value) c.close_to.new.self c.close_to.ensures in
    rw (← c.self.view_is, back, c.in-Err.ensures.err) refl

pub invariant_of-self-2 : goal.invariant_of-self-2
invariant_of-self-2 c =
    let core = c.self.inside.core in
    let h = c.self.invariant.rest in
    let window = c.window-window.ensures.value ∙ ap (λ (e : End). first_window e c.args.stream) (sym c.self.view_is) in
    let placed = rest_placed core h c.make_room.new.self c.make_room.ensures.more in
    kept_moved _ _ _ _ _ _ c.self.invariant _
    (rest_opened (record core { due = c.make_room.new.self }) placed c.args.stream c.window-window.result _ _ _ _ _ _ _ c.in_ok-open_sends.ensures.ok c.in_default.ensures.ok window c.in_ok-make_room.ensures.ok)

pub close_to-requires : goal.close_to-requires
close_to-requires c =
    let old = c.self.inside.core.outbox in
    let new = c.open_sends.new.outbox in
    record {
      none = none_back old new c.args.stream c.count_of-before.result _ _ _ c.in_ok-open_sends.ensures.ok (rw c.type_of.ensures.value at c.count_of-before.ensures.value) c.learn_of_open.ensures.outstanding;
      lost = lost_back old new c.args.stream c.count_of-before.result _ _ _ c.in_ok-open_sends.ensures.ok (rw c.type_of.ensures.value at c.count_of-before.ensures.value) c.learn_of_open.ensures.lost;
      unsent = unsent_back old new c.args.stream c.count_of-before.result _ _ _ c.in_ok-open_sends.ensures.ok (rw c.type_of.ensures.value at c.count_of-before.ensures.value);
      unwritten = unwritten_back promised_on (λ j limit buffer. refl) old new c.args.stream c.count_of-before.result _ _ _ c.in_ok-open_sends.ensures.ok (rw c.type_of.ensures.value at c.count_of-before.ensures.value);
      unkept = unwritten_back kept_on (λ j limit buffer. refl) old new c.args.stream c.count_of-before.result _ _ _ c.in_ok-open_sends.ensures.ok (rw c.type_of.ensures.value at c.count_of-before.ensures.value);
    }

pub invariant_of-self-in-Err : goal.invariant_of-self-in-Err
invariant_of-self-in-Err c =
    let core = c.self.inside.core in
    let h = c.self.invariant.rest in
    let back = out_back core.outbox c.open_sends.new.outbox c.args.stream c.count_of-before.result _ _ _ c.in_ok-open_sends.ensures.ok (rw c.type_of.ensures.value at c.count_of-before.ensures.value) c.close_to.new.self c.close_to.ensures in
    let placed = rest_placed core h c.make_room.new.self c.make_room.ensures.more in
    kept_moved _ _ _ _ _ _ c.self.invariant _ (rw (back, c.in-Err.ensures.err) placed)

pub invariant_of-self-in_err-open_sends : goal.invariant_of-self-in_err-open_sends
invariant_of-self-in_err-open_sends c =
    let core = c.self.inside.core in
    rw c.in_err-open_sends.ensures.err
    (kept_streams _ _ _ _ _ _ c.self.invariant _ (rest_placed core c.self.invariant.rest c.make_room.new.self c.make_room.ensures.more) (record { limits = refl; recvs = refl }) refl)

pub returns-clause-ok : goal.returns-clause-ok
returns-clause-ok c = rw (c.in_ok-open_sends.ensures.ok, c.in_default.ensures.ok, c.is_uni-uni.ensures, c.is_own-own.ensures, c.first_send_limit-limit.ensures.value, c.window-window.ensures.value, c.send_buffer-buffer.ensures, ← c.self.view_is) refl

pub invariant_of-self : goal.invariant_of-self
invariant_of-self c = kept_streams _ _ _ _ _ _ c.self.invariant _ (rest_placed c.self.inside.core c.self.invariant.rest c.make_room.new.self c.make_room.ensures.more) (record { limits = refl; recvs = refl }) refl
