-- Where nothing changed but records and what is acknowledged, an end has no more to send than it had.
use Rattle.std.proofs.Common.{◌≡◌, ℕ, ◌<◌, ◌≤◌, true, false, Option, Some, refl, sym, ap, ◌∙◌, subst, arith, inl, inr}
use Rattle.std.specs.FinSet as set
use Rattle.std.proofs.lemmas.Bool.{true≢false}
use Rattle.std.proofs.lemmas.Bool.Decides.{nat_tests}
use Rattle.qs_wire.specs.declared.stream_id.Dir.TheVariants.{Bidi, Uni}
use Rattle.qs_recv.specs.Lane.{RecvLane}
use Rattle.qs_send.specs.Lane.{SendLane}
use Rattle.qs_send.specs.declared.piece.Item.{Item}
use Rattle.qs_send.specs.declared.piece.Item.TheVariants.{MaxData, MaxStreamData, MaxStreams, ResetStream, StopSending, DataBlocked, StreamDataBlocked, StreamsBlocked}
use Rattle.qs_send.specs.declared.piece.Piece.{Piece}
use Rattle.qs_send.specs.declared.piece.Piece.TheVariants.{Data, Told}
use Rattle.qs_machine.specs.Tables.{lookup}
use Rattle.qs_machine.specs.Ends.{End, first_window, first_window_by}
use Rattle.qs_machine.specs.Credit.{all_sent}
use Rattle.qs_machine.specs.Due.{IsCurrent, IsAcked, IsCovered, IsDue, StreamGoes}
use Rattle.qs_machine.proofs.TableLaws.{value, total_le}
use Rattle.qs_rest.specs.Rest.{HasMore}
use Rattle.qs_rest.proofs.ItemParts.{acked_or_not}
use Rattle.qs_progress.specs.Outstanding.{IsIn, IsWhollyAcked}
use Rattle.qs_progress.proofs.Items.{ItemsGrow}
use Rattle.qs_progress.proofs.Outstanding.{StayIn, reached_stays}
use Rattle.qs_progress.proofs.Going.{done_acked}
use Rattle.qs_progress.proofs.Undone.{IsUndone, unless}
use Rattle.qs_progress.proofs.Alike.{Alike, alike_at, alike_back}
use Rattle.qs_progress.proofs.Steps.{Quiet, IsReady, current_undone}

pub acked_reached : (e : End) (i : Item) → IsAcked e i → IsWhollyAcked e (Told i)
acked_reached e i is = grind (arith, nat_tests)

module _ (a b : End) (quiet : Quiet a b) (grow : ItemsGrow a.acked b.acked) (ready_a : IsReady a) (ready_b : IsReady b) (keeps : (k : ℕ) (p : Piece) → IsIn a.outstanding k p → IsUndone a p → IsIn b.outstanding k p) where
  recv_at : (n : ℕ) (l : RecvLane) → lookup b.recvs n ≡ Some l → lookup a.recvs n ≡ Some l
  recv_at n l is = ap (λ (x : End). lookup x.recvs n) (sym quiet.rest) ∙ is

  send_at : (n : ℕ) (m : SendLane) → lookup b.sends n ≡ Some m → (l : SendLane) × (lookup a.sends n ≡ Some l) × Alike l m
  send_at = alike_back a.sends b.sends quiet.sends

  known_same : b.known_data ≡ a.known_data
  known_same = ap (λ (x : End). x.known_data) quiet.rest

  sent_same : all_sent b ≡ all_sent a
  sent_same =
      let more = total_le (λ (l : SendLane). l.sent_end) (λ (l : SendLane). l.sent_end) a.sends b.sends (λ n. up n (lookup a.sends n) refl) in
      let less = total_le (λ (l : SendLane). l.sent_end) (λ (l : SendLane). l.sent_end) b.sends a.sends (λ n. down n (lookup b.sends n) refl) in
      omega (arith, more, less)
    where
      up : (n : ℕ) (o : Option SendLane) → lookup a.sends n ≡ o → value (λ (l : SendLane). l.sent_end) (lookup a.sends n) ≤ value (λ (l : SendLane). l.sent_end) (lookup b.sends n)
      up n o is = grind (arith, nat_tests)

      down : (n : ℕ) (o : Option SendLane) → lookup b.sends n ≡ o → value (λ (l : SendLane). l.sent_end) (lookup b.sends n) ≤ value (λ (l : SendLane). l.sent_end) (lookup a.sends n)
      down n o is = grind (arith, nat_tests)

  current_back : (i : Item) → IsCurrent b i → IsCurrent a i
  current_back (MaxData m) (is, more) = (is ∙ ap (λ (x : End). x.granted) quiet.rest, subst (λ s. s.conn_window < m) (ap (λ (x : End). x.settings) quiet.rest) more)
  current_back (MaxStreamData n m) (l, there, is, more, unsized) =
      let same : first_window b n ≡ first_window a n = ap (λ (x : End). first_window_by x.role x.settings n) quiet.rest in
      (l, recv_at n l there, is, omega (arith, more, same), unsized)
  current_back (MaxStreams Bidi m) (is, more) = (is ∙ ap (λ (x : End). x.granted_bidi) quiet.rest, subst (λ s. s.grant_bidi < m) (ap (λ (x : End). x.settings) quiet.rest) more)
  current_back (MaxStreams Uni m) (is, more) = (is ∙ ap (λ (x : End). x.granted_uni) quiet.rest, subst (λ s. s.grant_uni < m) (ap (λ (x : End). x.settings) quiet.rest) more)
  current_back (ResetStream n code size) (m, there, is) = (let (l, at, al) = send_at n m there in (l, at, sym al.was_reset ∙ is))
  current_back (StopSending n code) (l, there, is, unreset, missing) = (l, recv_at n l there, is, unreset, missing)
  current_back (DataBlocked v) (is, sent, (n, m, wants)) =
      let (l, at, al) = send_at n m wants.lane in
      let more = wants.more in
      let below = wants.below in
      (is ∙ known_same, sym sent_same ∙ sent, (n, l, record { lane = at; no_reset = sym al.was_reset ∙ wants.no_reset; more = omega (arith, more, al.sent_end, al.written); below = omega (arith, below, al.sent_end, al.limit) }))
  current_back (StreamDataBlocked n v) (m, there, unreset, is, more, end) =
      let (l, at, al) = send_at n m there in
      (l, at, sym al.was_reset ∙ unreset, is ∙ al.limit, omega (arith, more, al.limit, al.written), sym al.sent_end ∙ end ∙ al.limit)
  current_back (StreamsBlocked Bidi m) (want, is) = (ap (λ (x : End). x.wanted_bidi) (sym quiet.rest) ∙ want, is ∙ ap (λ (x : End). x.known_bidi) quiet.rest)
  current_back (StreamsBlocked Uni m) (want, is) = (ap (λ (x : End). x.wanted_uni) (sym quiet.rest) ∙ want, is ∙ ap (λ (x : End). x.known_uni) quiet.rest)

  kept : StayIn a.sends b.sends
  kept n l is = let (m, there, al) = alike_at a.sends b.sends quiet.sends n l is in (m, there, al.acks)

  acked_stays : (i : Item) → IsCurrent b i → IsAcked a i → IsAcked b i
  acked_stays i now acked = done_acked b ready_b.within i now (reached_stays a b kept grow (Told i) (acked_reached a i acked))

  covered_stays : (i : Item) → IsCurrent b i → IsCovered a i → IsCovered b i
  covered_stays i now (inr acked) = inr (acked_stays i now acked)
  covered_stays i now (inl (k, ps, at, among)) =
      elim (acked_or_not a i) [
        | inl acked ↦ inr (acked_stays i now acked)
        | inr not ↦ (
            let was = current_back i now in
            let (qs, there, still) = keeps k (Told i) (ps, at, among) (current_undone a ready_a i was (λ reached. not (done_acked a ready_a.within i was reached))) in
            inl (k, qs, there, still))
      ]

  due_back : (n : ℕ) (l m : SendLane) (q : ℕ) → lookup a.sends n ≡ Some l → Alike l m → IsDue b n m q → IsDue a n l q
  due_back n l m q at al due =
      let not : set.contains l.acked q ≡ false = unless (set.contains l.acked q) (λ is. true≢false (sym (al.acks.0 q is) ∙ due.not_acked)) in
      let lt = due.written in
      record {
        no_reset = sym al.was_reset ∙ due.no_reset;
        written = omega (arith, lt, al.written);
        not_acked = not;
        not_sent = λ (c, (k, ps, there, among), low, high).
            let (qs, still, one) = keeps k (Data n c) (ps, there, among) (l, at, inl (q, low, high, not)) in
            due.not_sent (c, (k, qs, still, one), low, high);
      }

  stream_back : (n : ℕ) → StreamGoes b n → StreamGoes a n
  stream_back n (m, there, inl (q, due, lt, first)) =
      let (l, at, al) = send_at n m there in (
        l,
        at,
        inl (
          q,
          due_back n l m q at al due,
          omega (arith, lt, al.limit),
          elim first [
            | inl again ↦ inl (omega (arith, again, al.sent_end))
            | inr (next, credit) ↦ inr (next ∙ al.sent_end, omega (arith, credit, sent_same, known_same))
          ],
        ),
      )
  stream_back n (m, there, inr (due, whole)) =
      let (l, at, al) = send_at n m there in
      let not : l.fin_acked ≡ false = unless l.fin_acked (λ is. true≢false (sym (al.acks.1 is) ∙ due.not_acked)) in (
        l,
        at,
        inr (
          record {
            no_reset = sym al.was_reset ∙ due.no_reset;
            finished = sym al.finished ∙ due.finished;
            not_acked = not;
            not_sent = λ offset len (k, ps, flies, among).
                let (qs, still, one) = keeps k (Data n (record { offset = offset; len = len; fin = true })) (ps, flies, among) (l, at, inr (refl, not)) in
                due.not_sent offset len (k, qs, still, one);
          },
          sym al.sent_end ∙ whole ∙ al.written,
        ),
      )

  pub more_back : HasMore b → HasMore a
  more_back (inl (i, (now, uncovered))) = inl (i, (current_back i now, λ covered. uncovered (covered_stays i now covered)))
  more_back (inr (n, goes)) = inr (n, stream_back n goes)
