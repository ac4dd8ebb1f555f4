-- The peer makes packets: the invariant of this end speaks of them only by what they tell, so it stays.
use Rattle.std.proofs.Common.{ℕ, ◌++◌, inl, inr, Option, Some, None}
use Rattle.qs_recv.specs.Lane.{RecvLane}
use Rattle.qs_send.specs.Lane.{SendLane}
use Rattle.qs_machine.specs.Tables.{lookup}
use Rattle.qs_machine.specs.Ends.{End, first_send_limit, first_window}
use Rattle.qs_runs.specs.Pasts.{Packets, Past}
use Rattle.qs_runs.proofs.Changes.{send_alike}
use Rattle.qs_runs.proofs.Past.{Tells-more, TellsOffset-more, TellsByte-more, TellsEnd-more, Confirmed-more, IsNamed-more}
use Rattle.qs_runs.specs.Invariant.{EndOk, SendSlot, RecvSlot}

abbrev pub with_theirs : Past → Packets → Past
with_theirs p more = record p { theirs = p.theirs ++ more }

module _ (p : Past) (more : Packets) where
  send_slot : (n limit : ℕ) (o : Option SendLane) → SendSlot p n limit o → SendSlot (with_theirs p more) n limit o
  send_slot n limit None h = h
  send_slot n limit (Some l) h = send_alike h (λ own. own) (λ is. is) (λ f t. Tells-more p.theirs more f t) (λ k ack. Confirmed-more p.theirs more p.tokens k ack) h.sent_limit (elim h.limit_told [ inl e ↦ inl e | inr t ↦ inr (Tells-more p.theirs more _ t) ])

  recv_slot : (n window : ℕ) (o : Option RecvLane) → RecvSlot p n window o → RecvSlot (with_theirs p more) n window o
  recv_slot n window None h = h
  recv_slot n window (Some l) h =
      record {
        received = λ q is. (let (m, le, told) = h.received q is in (m, le, TellsOffset-more p.theirs more n m told));
        stored = λ q b is. TellsByte-more p.theirs more n q b (h.stored q b is);
        count = h.count;
        gave = λ q b is. TellsByte-more p.theirs more n q b (h.gave q b is);
        final = λ size is. elim (h.final size is) [ inl t ↦ inl (TellsEnd-more p.theirs more n size t) | inr t ↦ inr (t.0, t.1, Tells-more p.theirs more _ t.2) ];
        reset = λ code is. (let (size, final, t) = h.reset code is in (size, final, Tells-more p.theirs more _ t));
        not_stopped = h.not_stopped;
        ended = λ is. (let (size, read, final, t) = h.ended is in (size, read, final, TellsEnd-more p.theirs more n size t));
        window_granted = h.window_granted;
        limit_told = h.limit_told;
        stop_asked = h.stop_asked;
      }

  pub peer_moves : (e : End) → EndOk p e → EndOk (with_theirs p more) e
  peer_moves e ok =
      record {
        sends = λ n. send_slot n (first_send_limit e n) (lookup e.sends n) (ok.sends n);
        recvs = λ n. recv_slot n (first_window e n) (lookup e.recvs n) (ok.recvs n);
        packets = ok.packets;
        taken = ok.taken;
        credit = record {
          sent_known = ok.credit.sent_known;
          known_told = elim ok.credit.known_told [ inl e ↦ inl e | inr t ↦ inr (Tells-more p.theirs more _ t) ];
          window_granted = ok.credit.window_granted;
          granted_told = ok.credit.granted_told;
        };
        streams = record {
          own_send = ok.streams.own_send;
          own_recv = ok.streams.own_recv;
          own_both = ok.streams.own_both;
          their_send = λ n is own. (let (bidi, named) = ok.streams.their_send n is own in (bidi, IsNamed-more p.theirs more n named));
          their_recv = λ n is own. IsNamed-more p.theirs more n (ok.streams.their_recv n is own);
          bidi_told = elim ok.streams.bidi_told [ inl e ↦ inl e | inr t ↦ inr (Tells-more p.theirs more _ t) ];
          uni_told = elim ok.streams.uni_told [ inl e ↦ inl e | inr t ↦ inr (Tells-more p.theirs more _ t) ];
        };
      }
