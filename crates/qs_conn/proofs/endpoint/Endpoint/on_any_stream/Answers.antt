use Rattle.std.proofs.Common.{◌≡◌, ℕ, Option, inr, is_some, arith, length, refl, sym, ap, ◌∙◌, subst, take, ◌%◌}
use Rattle.qs_recv.specs.Lane.{RecvLane}
use Rattle.qs_recv.specs.declared.credit.Share.TheVariants.{Half}
use Rattle.qs_machine.specs.Tables.{Tables, table, with_table, lookup}
use Rattle.qs_machine.specs.Ends.{End}
use Rattle.qs_machine.specs.Verdicts.{or_new}
use Rattle.qs_machine.specs.Memory.{HasNews}
use Rattle.qs_machine.specs.Standing.{IsInCredit}
use Rattle.qs_machine.specs.Sums.{tally_on}
use Rattle.qs_machine.specs.Outgoing.{Outgoing, AreOfOpen, sent_sum}
use Rattle.qs_conn.proofs.Cores.{fit_recvs, fit_streamed, closed_counted, kept_moved, rest_recvs, due_streamed}
use Rattle.qs_conn.proofs.MadePackets.{may_recount}
use Rattle.qs_conn.specs.Ended.{AreAllCounted, IsToldOfEnd}
use Rattle.qs_conn.proofs.Dues.{due_closed}
use Rattle.qs_conn.proofs.DuePackets.{packets_at, due_before}
use Rattle.qs_conn.proofs.AckRuns.{idle_with}
use Rattle.qs_machine.proofs.Taken.{in_there, stream_in, stream_checked, stream_unchanged, stream_sound, sends_back, recvs_back, tally_back, restored_out, peer_none, peer_lost, peer_unsent, back_sound}
use Rattle.qs_conn.specs.Due.{AreDue, packets_of}
use Rattle.qs_conn.specs.OwnTold.{AreOwn}
use Rattle.qs_machine.specs.Asking.{kept_on}
use Rattle.qs_conn.specs.Promised.{promised_on}
use Rattle.qs_conn.proofs.Tasks.{peer_unwritten}
use Rattle.qs_conn.proofs.endpoint.Endpoint.on_any_stream.Goals as goal

pub take_stream-requires-clause-open : goal.take_stream-requires-clause-open
take_stream-requires-clause-open c =
    rw c.of-place.ensures (ap is_some
    (in_there c.args.self.now _ c.args.stream (stream_in c.args.self.now c.args.stream c.args.offset c.args.bytes.now c.args.fin c.requires.passed) (c.self-2.view_is ∙ c.in_ok-open_by_peer.ensures.ok)))

pub take_stream-requires-clause-passed : goal.take_stream-requires-clause-passed
take_stream-requires-clause-passed c =
    rw c.of-place.ensures (stream_checked c.args.self.now _ c.args.stream c.args.offset c.args.bytes.now c.args.fin c.requires.passed (c.self-2.view_is ∙ c.in_ok-open_by_peer.ensures.ok))

pub take_stream-requires-clause-unchanged : goal.take_stream-requires-clause-unchanged
take_stream-requires-clause-unchanged c =
    rw c.of-place.ensures (stream_unchanged c.args.self.now _ c.args.stream c.args.offset c.args.bytes.now c.args.fin c.requires.passed (c.self-2.view_is ∙ c.in_ok-open_by_peer.ensures.ok))

pub close_to-requires-in-Err : goal.close_to-requires-in-Err
close_to-requires-in-Err c =
    subst (λ (t : Tables RecvLane). tally_on (take c.count_of-recvs.result (table t (c.args.stream % 4))) ≡ tally_on (table t (c.args.stream % 4))) (sym c.in-Err.ensures.err)
    (tally_back c.args.self.now _ c.args.stream c.count_of-recvs.result (c.self-2.view_is ∙ c.in_ok-open_by_peer.ensures.ok) ((rw c.type_of-stream_type.ensures.value at c.count_of-recvs.ensures.value) ∙ ap (λ (e : End). length (table e.recvs (c.args.stream % 4))) c.self.view_is))

pub invariant_of-self : goal.invariant_of-self
invariant_of-self c =
    let core = c.self-2.inside.core in
    let h = c.self-2.invariant.rest in
    let was = c.self.invariant.rest in
    let credit = h.core.credit in
    let opened = c.self-2.view_is ∙ c.in_ok-open_by_peer.ensures.ok in
    let sound : IsInCredit c.args.self.now = subst (λ (k : End). IsInCredit k) c.self.view_is was.core.sound in
    let back = recvs_back c.args.self.now _ c.args.stream c.count_of-recvs.result c.close_to-in-Err.new.self opened ((rw c.type_of-stream_type.ensures.value at c.count_of-recvs.ensures.value) ∙ ap (λ (e : End). length (table e.recvs (c.args.stream % 4))) c.self.view_is) (c.close_to-in-Err.ensures ∙ ap (λ (t : Tables RecvLane). with_table t (c.args.stream % 4) (take c.count_of-recvs.result (table t (c.args.stream % 4)))) c.in-Err.ensures.err) in
    let sends = sends_back c.args.self.now _ c.args.stream c.count_of-sends.result c.close_to.new.self.sends opened ((rw c.type_of-stream_type.ensures.value at c.count_of-sends.ensures.value) ∙ ap (λ (e : End). length (table e.sends (c.args.stream % 4))) c.self.view_is) (ap (λ (x : Outgoing). x.sends) c.close_to.ensures) in
    let was_due : AreDue c.args.self.now.role c.args.self.now.settings c.args.self.now.recvs c.args.self.now.sends (packets_at c.args.self.now) c.self.inside.core.due = subst (λ (k : End). AreDue k.role k.settings k.recvs k.sends (packets_at k) c.self.inside.core.due) c.self.view_is was.core.due in
    let before : AreDue core.limits.role core.limits.settings c.close_to-in-Err.new.self c.close_to.new.self.sends (packets_of core.outbox) c.self.inside.core.due = due_before c.args.self.now _ c.args.stream c.close_to-in-Err.new.self c.close_to.new.self.sends c.self.inside.core.due opened back sends was_due in
    let sum = ap (λ (x : Outgoing). sent_sum x.sends) c.close_to.ensures ∙ peer_unsent c.args.self.now _ c.args.stream c.count_of-sends.result opened ((rw c.type_of-stream_type.ensures.value at c.count_of-sends.ensures.value) ∙ ap (λ (e : End). length (table e.sends (c.args.stream % 4))) c.self.view_is) in
    kept_moved _ _ _ _ _ _ c.self-2.invariant _
    (record {
      core = record {
        sound = back_sound c.args.self.now _ c.args.stream c.close_to-in-Err.new.self sound opened back;
        fits = h.core.fits;
        credit = omega (arith, sum, credit);
        counts = fit_recvs _ _ _ _ _ _ _ h.core.counts _ _ _ (closed_counted c.args.self.now _ c.args.stream _ _ c.self.inside.core.ended _ opened back sends (subst (λ (k : End). AreAllCounted k.role k.recvs k.sends c.self.inside.core.ended) c.self.view_is was.core.counts.counted) h.core.counts.counted)
            (subst (λ (t : Tables RecvLane). (n : ℕ) → IsToldOfEnd (lookup t n)) (sym back) (subst (λ (k : End). (n : ℕ) → IsToldOfEnd (lookup k.recvs n)) c.self.view_is was.core.counts.told));
        due = subst (λ (x : Outgoing). AreDue core.limits.role core.limits.settings c.close_to-in-Err.new.self x.sends (packets_of x) core.due) (sym c.close_to.ensures)
            (due_closed h.core.due c.take_stream.new.self c.close_to-in-Err.new.self _ c.args.stream c.count_of-recvs.result c.count_of-sends.result c.in-Err.ensures.err c.close_to-in-Err.ensures refl
            c.self.inside.core.due (subst (λ (x : Outgoing). AreDue core.limits.role core.limits.settings c.close_to-in-Err.new.self x.sends (packets_of core.outbox) c.self.inside.core.due) c.close_to.ensures before));
        own = subst (λ (x : Outgoing). AreOwn core.limits (packets_of x) core.own) (sym c.close_to.ensures) h.core.own;
      };
      idle = idle_with core.outbox _ _ c.close_to.ensures h.idle;
    })

pub returns-in-Err-clause-err : goal.returns-in-Err-clause-err
returns-in-Err-clause-err c =
    let recvs = recvs_back c.args.self.now _ c.args.stream c.count_of-recvs.result c.close_to-in-Err.new.self (c.self-2.view_is ∙ c.in_ok-open_by_peer.ensures.ok) ((rw c.type_of-stream_type.ensures.value at c.count_of-recvs.ensures.value) ∙ ap (λ (e : End). length (table e.recvs (c.args.stream % 4))) c.self.view_is) (c.close_to-in-Err.ensures ∙ ap (λ (t : Tables RecvLane). with_table t (c.args.stream % 4) (take c.count_of-recvs.result (table t (c.args.stream % 4)))) c.in-Err.ensures.err) in
    restored_out c.args.self.now _ c.args.stream c.count_of-sends.result c.self-2.inside.core.outbox.spare c.close_to.new.self c.close_to-in-Err.new.self (c.self-2.view_is ∙ c.in_ok-open_by_peer.ensures.ok)
    ((rw c.type_of-stream_type.ensures.value at c.count_of-sends.ensures.value) ∙ ap (λ (e : End). length (table e.sends (c.args.stream % 4))) c.self.view_is) c.close_to.ensures recvs

pub close_to-requires : goal.close_to-requires
close_to-requires c =
    let opened = c.self-2.view_is ∙ c.in_ok-open_by_peer.ensures.ok in
    let count = (rw c.type_of-stream_type.ensures.value at c.count_of-sends.ensures.value) ∙ ap (λ (e : End). length (table e.sends (c.args.stream % 4))) c.self.view_is in
    record {
      none = peer_none c.args.self.now _ c.args.stream c.count_of-sends.result opened count (subst (λ (k : End). AreOfOpen k.sends k.outstanding) c.self.view_is c.learn_of_open.ensures.outstanding);
      lost = peer_lost c.args.self.now _ c.args.stream c.count_of-sends.result opened count (subst (λ (k : End). AreOfOpen k.sends k.lost.pieces) c.self.view_is c.learn_of_open.ensures.lost);
      unsent = peer_unsent c.args.self.now _ c.args.stream c.count_of-sends.result opened count;
      unwritten = peer_unwritten promised_on (λ j limit buffer. refl) c.args.self.now _ c.args.stream c.count_of-sends.result opened count;
      unkept = peer_unwritten kept_on (λ j limit buffer. refl) c.args.self.now _ c.args.stream c.count_of-sends.result opened count;
    }

pub invariant_of-self-2 : goal.invariant_of-self-2
invariant_of-self-2 c =
    let after = rw c.of-place.ensures at c.in_default.ensures.ok in
    let core = c.self-2.inside.core in
    let h = c.self-2.invariant.rest in
    let opened = c.self-2.view_is ∙ c.in_ok-open_by_peer.ensures.ok in
    let sound : IsInCredit c.args.self.now = subst (λ (k : End). IsInCredit k) c.self.view_is c.self.invariant.rest.core.sound in
    let checked = stream_checked c.args.self.now _ c.args.stream c.args.offset c.args.bytes.now c.args.fin c.requires.passed opened in
    kept_moved _ _ _ _ _ _ c.self-2.invariant _
    (rest_recvs core h c.take_stream.new.self c.recount.new.self core.due
    (stream_sound c.args.self.now _ c.args.stream c.args.offset c.args.bytes.now c.args.fin c.take_stream.new.self sound c.requires.passed opened after)
    (fit_streamed _ _ _ _ _ _ _ h.core.counts _ _ h.core.sound _ c.args.stream _ _ _ _ c.is_over-was.result c.is_over-is.result checked after c.is_over-was.ensures.value c.is_over-is.ensures.value (c.recount.ensures (may_recount _ _ _ _ _ _ h.core.counts.counted c.is_over-was.ensures.value c.is_over-was.ensures.few)))
    (due_streamed h.core.due _ _ h.core.sound c.take_stream.new.self c.args.stream c.args.offset c.args.bytes.now c.args.fin checked after))

pub returns-in-Err-clause-asks : goal.returns-in-Err-clause-asks
returns-in-Err-clause-asks c =
    inr (subst (λ (o : Option RecvLane). HasNews (or_new o 0 Half) c.args.offset (length c.args.bytes.now))
    (in_there c.args.self.now _ c.args.stream (stream_in c.args.self.now c.args.stream c.args.offset c.args.bytes.now c.args.fin c.requires.passed) (c.self-2.view_is ∙ c.in_ok-open_by_peer.ensures.ok)) (rw c.of-place.ensures at c.in-Err.ensures.news))
