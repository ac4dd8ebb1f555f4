use Rattle.std.proofs.Common.{◌≡◌, ◌≤◌, ◌-◌, [], arith, inl, inr, sym, ap, subst, ◌∙◌, take, length, false, refl, rules}
use Rattle.std.proofs.lemmas.Bool.{cases_Bool}
use Rattle.qs_machine.specs.Ends.{End}
use Rattle.qs_machine.specs.Credit.{all_sent}
use Rattle.qs_machine.specs.Outgoing.{sent_sum}
use Rattle.qs_conn.specs.Middle.{FillsOn, end_of}
use Rattle.qs_conn.specs.Filling.{no_slot, IsPassed, Begun, Flowing, Flow, turn_at}
use Rattle.qs_conn.proofs.Cores.{streams_same, fills_on}
use Rattle.qs_conn.proofs.Flows.{flow_first, flow_bare, unwished}
use Rattle.qs_conn.proofs.MadePackets.{memory_less, memory_on}
use Rattle.qs_conn.proofs.middle.Core.fill.Goals as goal

pub put_items-packet-requires-clause-filling : goal.put_items-packet-requires-clause-filling
put_items-packet-requires-clause-filling c = search (rules)

pub put_items-packet-requires-clause-memory : goal.put_items-packet-requires-clause-memory
put_items-packet-requires-clause-memory c = search (rules, memory_on)

pub put_streams-requires-clause-memory : goal.put_streams-requires-clause-memory
put_streams-requires-clause-memory c = c.put_items-packet.ensures.filled.memory 6 (memory_on _ _ 0 _ _ 6 c.put_ack_if-len.ensures.room (omega arith) c.requires.memory)

pub returns-clause-packed : goal.returns-clause-packed
returns-clause-packed c = λ old left parts same goes fresh.
    let self = c.args.self.now in
    let wish = c.args.wish.now in
    let room = length c.args.out.now in
    let first = wish.want.first in
    let begins : End = record old { ack_due = left } in
    let sends : all_sent old ≡ sent_sum self.outbox.sends = ap (λ (e : End). all_sent e) (sym parts) in
    let known : old.known_data ≡ self.limits.known_data = ap (λ (e : End). e.known_data) (sym parts) in
    let sent : all_sent old ≤ old.known_data = omega (arith, sends, known, c.requires.filling.core.credit) in
    let at : end_of self begins ≡ begins = ap (λ (e : End). record e { ack_due = left }) parts in
    let text = take c.put_ack_if-len.result c.put_ack_if-len.new.out in
    let flow : Flow wish room old (take c.put_items-packet.result.len c.put_items-packet.new.out) (end_of c.put_items-packet.new.self begins) wish.want.most_bytes c.put_items-packet.result.is_full (turn_at false first first) =
    elim (cases_Bool wish.want.items) [
      | inl asked ↦ (
          let begun : Begun wish room old text begins (IsPassed no_slot) = c.put_ack_if-len.ensures.begun old left asked same goes sent fresh in
          let stage : Begun wish room old text (end_of self begins) (IsPassed no_slot) = subst (λ e. Begun wish room old text e (IsPassed no_slot)) (sym at) begun in
          let items = c.put_items-packet.ensures.stage room old begins asked (sym c.put_ack_if-len.ensures.room) stage in
          flow_first first wish room old (take c.put_items-packet.result.len c.put_items-packet.new.out) (end_of c.put_items-packet.new.self begins) c.put_items-packet.result.is_full refl items)
      | inr unasked ↦ (
          let none : wish.ack_due ≡ false = unwished wish.ack_due wish.want.items c.requires.together unasked in
          let bare : Flowing wish room old [] begins wish.want.most_bytes (turn_at false first first) = flow_bare first wish room old left refl unasked goes none sent fresh in
          let empty : text ≡ [] = ap (λ k. take k c.put_ack_if-len.new.out) (c.put_ack_if-len.ensures.none none) in
          let begun : Flowing wish room old text (end_of self begins) wish.want.most_bytes (turn_at false first first) = rw (empty, at) bare in
          let passed = c.put_items-packet.ensures.passed unasked in
          rw (passed.0, passed.1, passed.2) begun)
    ] in
    c.put_streams.ensures.packed room old begins (sym (c.put_items-packet.ensures.filled.room ∙ c.put_ack_if-len.ensures.room)) flow

pub returns-clause-filled : goal.returns-clause-filled
returns-clause-filled c =
    let ack = c.put_ack_if-len.ensures in
    let self = c.args.self.now in
    let begun : FillsOn self c.args.out.now 0 self c.put_ack_if-len.new.out c.put_ack_if-len.result 0 =
    record {
      filling = record { core = c.requires.filling.core; within = ack.within };
      memory = λ left h. memory_less self _ _ left (left - 0) (omega arith) (memory_on self _ 0 _ _ left ack.room (omega arith) h);
      streams = streams_same self;
      ended = refl;
      rest = (omega arith, ack.rest);
      room = ack.room;
    } in
    let items = fills_on _ _ _ _ _ _ _ _ _ _ _ begun c.put_items-packet.ensures.filled in
    fills_on _ _ _ _ _ _ _ _ _ _ _ items c.put_streams.ensures.filled
