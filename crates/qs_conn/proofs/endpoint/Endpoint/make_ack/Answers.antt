-- What a call of make_ack leaves.
use Rattle.std.proofs.Common.{◌∙◌, arith, refl, sym, length, false, ◌≡◌, ℕ, ◌+◌, ◌≤◌, List, [], ◌∷◌, take, ap, subst, Some, is_some}
use Rattle.qs_conn.proofs.Rests.{rest_kept}
use Rattle.std.specs.Prelude.{Ok}
use Rattle.std.proofs.lemmas.List.{length-take-le}
use Rattle.qs_ranges.specs.Numbers.{MAX_VARINT}
use Rattle.qs_machine.specs.Ends.{End}
use Rattle.qs_machine.specs.Credit.{all_sent, settle}
use Rattle.qs_machine.specs.Seen.{Ack}
use Rattle.qs_machine.specs.Lawful.{Lawful, frame_put}
use Rattle.qs_machine.specs.Making.{IsAckMade, MakeAckAt, MakeAckStep}
use Rattle.qs_machine.specs.Outgoing.{Outgoing, with_outgoing}
use Rattle.qs_conn.specs.Filling.{IsAckText}
use Rattle.qs_conn.proofs.MadePackets.{no_refusal, outgoing_of}
use Rattle.qs_conn.proofs.endpoint.Endpoint.make_ack.Goals as goal

-- the end after a packet of an ACK alone, before its limits move
abbrev acked_alone : End → End
acked_alone v = record v { ack_due = false; next = v.next + 1 }

lawful_ack : (v : End) (delay room : ℕ) (text : List ℕ) (t : IsAckText delay room v text) → all_sent v ≤ v.known_data → Lawful v (Ack t.largest t.ranges ∷ []) (acked_alone v)
unfolding frame_put
lawful_ack v delay room text t within = record { some = λ none. omega (arith, ap length none); filled = (record v { ack_due = false }, (t.may, refl), refl); within = within }

-- an ACK was due
ack_some : (v old new : End) (o : Outgoing) (delay room len number : ℕ) (out : List ℕ) → v ≡ old → is_some v.closed ≡ false → v.next ≤ MAX_VARINT → all_sent v ≤ v.known_data → IsAckText delay room v (take len out) → len ≤ room → length out ≡ room
    → number ≡ v.next → o ≡ record (outgoing_of 0 v) { next = v.next + 1 } → new ≡ settle (with_outgoing o (record v { ack_due = false })) → MakeAckStep old delay room (Ok (Some (record { number = number; len = len; is_ack_eliciting = false }))) (take len out) new
ack_some v old new o delay room len number out same clear le within t fits count is after settled =
    let inside : length (take len out) ≡ len = length-take-le len out (omega (arith, fits, count)) in
    let end : new ≡ settle (acked_alone v) = settled ∙ ap settle (ap (λ (p : Outgoing). with_outgoing p (record v { ack_due = false })) after) in
    let made : IsAckMade v delay room (record { number = number; len = len; is_ack_eliciting = false }) (take len out) new =
    record {
      number = is;
      len = sym inside;
      fits = omega (arith, inside, fits);
      asks = refl;
      frame = t.frame;
      spells = t.spells;
      most = t.most;
      largest = t.largest;
      ranges = t.ranges;
      is = t.is;
      mid = acked_alone v;
      lawful = lawful_ack v delay room (take len out) t within;
      after = end;
    } in
    subst (λ e. MakeAckStep e delay room (Ok (Some (record { number = number; len = len; is_ack_eliciting = false }))) (take len out) new) same
    (subst (λ r. MakeAckAt r v delay room (Ok (Some (record { number = number; len = len; is_ack_eliciting = false }))) (take len out) new) (sym (no_refusal v clear le)) made)

pub returns-clause-step : goal.returns-clause-step
returns-clause-step c =
    ack_some _ c.args.self.now c.settle.new.self c.commit.new.self c.args.delay (length c.args.out.now) c.put_kept-len.result c.next-number.result c.put_kept-len.new.out c.self.view_is (sym c.is_some.ensures ∙ c.if-is_some.false) (omega (arith, c.if-number-gt-MAX_VARINT.false, c.next-number.ensures))
    c.self.invariant.rest.core.credit (c.put_kept-len.ensures.alone _ refl c.if-not-self.false) (omega (arith, c.put_kept-len.ensures.within, c.put_kept-len.ensures.room)) c.put_kept-len.ensures.room c.next-number.ensures c.commit.ensures.after c.settle.ensures

pub returns-clause-rest : goal.returns-clause-rest
returns-clause-rest c = rest_kept (record { number = c.next-number.result; len = c.put_kept-len.result; is_ack_eliciting = false }) c.args.out.now c.put_kept-len.new.out c.put_kept-len.ensures.within c.put_kept-len.ensures.rest
