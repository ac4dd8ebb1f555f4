-- One stream at rest: what was sent of it came, and was read.
use Rattle.std.proofs.Common.{◌≡◌, ℕ, zero, suc, ◌+◌, ◌-◌, ◌<◌, ◌≤◌, Bool, true, false, List, length, take, Option, Some, None, is_some, refl, sym, ap, ◌∙◌, subst, arith, inl, inr}
use Rattle.std.proofs.lemmas.Option.{none-some, same_Some}
use Rattle.std.proofs.lemmas.Bool.{and_from, and_parts, eq-eqb, true≢false, false≢true}
use Rattle.std.proofs.lemmas.Bool.Decides.{nat_tests}
use Rattle.std.proofs.Math.Seq.{take-append_seam}
use Rattle.std.specs.FinSet as set
use Rattle.qs_ranges.specs.Numbers.{NumberSet, missing_from, end_of as set_end}
use Rattle.qs_ranges.proofs.Sets.{covers-of, missing_from-of}
use Rattle.qs_recv.specs.Lane.{RecvLane, highest, taken, is_whole, whole_to, read_answer}
use Rattle.qs_recv.specs.Lawful.{IsLawful}
use Rattle.qs_recv.specs.News.{is_readable}
use Rattle.qs_send.specs.Lane.{SendLane, unacked_from, is_whole as send_whole, state as send_state}
use Rattle.qs_send.specs.declared.parts.Reset.{Reset}
use Rattle.qs_send.specs.declared.parts.SendState.TheVariants.{DataRecvd}
use Rattle.qs_send.specs.declared.piece.Item.TheVariants.{StopSending}
use Rattle.qs_calls.specs.declared.settings.Settings.{Settings}
use Rattle.qs_calls.specs.declared.event.Side.{Side}
use Rattle.qs_machine.specs.Ends.{first_send_limit, first_window}
use Rattle.qs_machine.specs.Asking.{unsent, unsent_of, acked_below, acked_below_of}
use Rattle.qs_machine.specs.Standing.{HasLawfulLane}
use Rattle.qs_machine.specs.Seen.{Stream, Control}
use Rattle.qs_runs.specs.Logs.{History, other, stopped, broken_off, read, written}
use Rattle.qs_runs.specs.Worlds.{World, end_of}
use Rattle.qs_runs.specs.Agree.{IsPrefixOf}
use Rattle.qs_runs.specs.Pasts.{past, Tells}
use Rattle.qs_runs.specs.Clauses.{HasArrived, sending, receiving}
use Rattle.qs_runs.specs.Invariant.{WorldOk, SendOk, SendSlot, RecvOk, RecvSlot}
use Rattle.qs_runs.proofs.Changes.{before-missing}
use Rattle.qs_runs.proofs.Members.{end-le, below-end}
use Rattle.qs_runs.proofs.Histories.{theirs_mine}
use Rattle.qs_runs.proofs.Runs.{run_keeps}
use Rattle.qs_runs.proofs.Clauses.{prefix, received_is_below_sent, arrived_was_taken, acked_has_arrived, final_size_is_declared, reset_code_is_the_senders}
use Rattle.qs_rest.specs.Invariant.{RestOk}
use Rattle.qs_rest.specs.Rest.{TellsNoNews}
use Rattle.qs_rest.specs.Resting.{IsReadAtBoth}
use Rattle.qs_rest.specs.OneStream.{StreamRests, SentIsRead, EveryStreamRests, AnswersSo, AnswersTell}
use Rattle.qs_rest.proofs.Runs.{every_run_keeps}
use Rattle.qs_rest.proofs.Telling.{caught_up, end_told, no_news as told_all}

pub missing_is : (t : NumberSet) (k : ℕ) → ((q : ℕ) → q < k → set.contains t q ≡ true) → ((q : ℕ) → set.contains t q ≡ true → q < k) → missing_from t 0 ≡ k
missing_is t k all below = sym (missing_from-of t 0 k (record { from = omega arith; missing = go (set.contains t k) refl; all_before = λ q from lt. all q lt }))
  where
    go : (b : Bool) → set.contains t k ≡ b → set.contains t k ≡ false
    go true is = (let lt : k < k = below k is in absurd (omega arith))
    go false is = is

-- a prefix is as many of the first
prefix_take : (xs ys : List ℕ) → IsPrefixOf xs ys → xs ≡ take (length xs) ys
prefix_take xs ys (rest, e) = sym (take-append_seam xs rest) ∙ ap (take (length xs)) e

-- a half in Data Recvd: all was acknowledged
pub whole_state : (l : SendLane) → send_state l ≡ DataRecvd → send_whole l ≡ true
whole_state l e = grind (arith, nat_tests)

module _ (a b : Settings) (h : History) (w : World) (ok : WorldOk a b h w) (s : Side) (n : ℕ) where
  pub lawful : (r : RecvLane) → receiving w s n ≡ Some r → IsLawful r
  lawful r is = (subst (HasLawfulLane (end_of w (other s)).role (end_of w (other s)).settings n) is ((ok.sound (other s)).0.lanes n)).0

  pub sender_ok : (l : SendLane) → sending w s n ≡ Some l → SendOk (past s h) n (first_send_limit (end_of w s) n) l
  sender_ok l at = subst (SendSlot (past s h) n (first_send_limit (end_of w s) n)) at ((ok.ends s).sends n)

  pub reader_ok : (r : RecvLane) → receiving w s n ≡ Some r → RecvOk (past (other s) h) n (first_window (end_of w (other s)) n) r
  reader_ok r is = subst (RecvSlot (past (other s) h) n (first_window (end_of w (other s)) n)) is ((ok.ends (other s)).recvs n)

  -- a half that its owner didn't reset, and whose reader didn't stop, wasn't reset
  pub not_reset : (l : SendLane) → sending w s n ≡ Some l → broken_off s n h ≡ false → stopped (other s) n h ≡ false → l.was_reset ≡ None
  not_reset l at unbroken going = by l.was_reset refl
    where
      asked : (code : ℕ) → Tells (past (other s) h).mine (Control (StopSending n code)) → (y : Option RecvLane) → receiving w s n ≡ y → ⊥
      asked code t None e = (subst (RecvSlot (past (other s) h) n (first_window (end_of w (other s)) n)) e ((ok.ends (other s)).recvs n)).no_stop code t
      asked code t (Some r) e = false≢true (sym going ∙ (reader_ok r e).stop_asked code t)

      by : (x : Option Reset) → l.was_reset ≡ x → l.was_reset ≡ None
      by None e = e
      by (Some reset) e =
          elim ((sender_ok l at).reset_asked (ap is_some e)) [
            | inl own ↦ absurd (false≢true (sym unbroken ∙ own))
            | inr (code, t) ↦ absurd (asked code t (receiving w s n) refl)
          ]

  -- what is acknowledged was sent
  pub acked_sent : (l : SendLane) (q : ℕ) → sending w s n ≡ Some l → set.contains l.acked q ≡ true → q < l.sent_end
  acked_sent l q at acked =
      let (k, offset, bytes, fin, holds, low, high, ack) = (sender_ok l at).acked q acked in
      omega (arith, high, ((sender_ok l at).told offset bytes fin (k, holds)).below)

  -- where a final size is known without a reset, the owner finished, and all was sent
  pub end_sent : (l : SendLane) (r : RecvLane) (size : ℕ) → sending w s n ≡ Some l → receiving w s n ≡ Some r → r.final_size ≡ Some size → r.reset_code ≡ None → (l.finished ≡ true) × (l.sent_end ≡ l.written)
  end_sent l r size at is final none =
      elim ((reader_ok r is).final size final) [
        | inl (offset, bytes, t, same) ↦ (let tells = subst (λ x. Tells x (Stream n offset bytes true)) (theirs_mine s h) t in (sender_ok l at).end (((sender_ok l at).told offset bytes true tells).end refl).0)
        | inr (code, known, t) ↦ absurd (none-some code (sym none ∙ known))
      ]

  -- where the sender didn't reset, the receiver knows no reset
  pub no_reset_known : (l : SendLane) (r : RecvLane) → sending w s n ≡ Some l → receiving w s n ≡ Some r → l.was_reset ≡ None → r.reset_code ≡ None
  no_reset_known l r at is none = go r.reset_code refl
    where
      go : (o : Option ℕ) → r.reset_code ≡ o → r.reset_code ≡ None
      go None e = e
      go (Some code) e =
          let (m, size, there, reset) = reset_code_is_the_senders a b h w ok s n r code is e in
          let same : m ≡ l = same_Some m l (sym there ∙ at) in
          let here : l.was_reset ≡ Some (record { code = code; size = size }) = rw same at reset in
          absurd (none-some _ (sym none ∙ here))

  -- an offset that is acknowledged came
  acked_came : (l : SendLane) (q : ℕ) → sending w s n ≡ Some l → l.was_reset ≡ None → set.contains l.acked q ≡ true → (r : RecvLane) × (receiving w s n ≡ Some r) × (set.contains r.arrived.received q ≡ true)
  acked_came l q at none acked =
      let (offset, bytes, fin, arrived, low, high) = (acked_has_arrived a b h w ok s n).offsets l q at acked in
      let (r, is, took, fins) = arrived_was_taken a b h w ok s n offset bytes fin arrived in
      elim took [
        | inl all ↦ (r, is, all q low high)
        | inr reset ↦ absurd (true≢false (sym reset ∙ ap is_some (no_reset_known l r at is none)))
      ]

  -- what came is below the sent end
  pub came_below : (l : SendLane) (r : RecvLane) → sending w s n ≡ Some l → receiving w s n ≡ Some r → (q : ℕ) → set.contains r.arrived.received q ≡ true → q < l.sent_end
  came_below l r at is q has_it =
      let (m, there, lt) = received_is_below_sent a b h w ok s n r q is has_it in
      let same : m ≡ l = same_Some m l (sym there ∙ at) in
      rw same at lt

  -- where the final size is known, that is the sent end
  pub size_sent : (l : SendLane) (r : RecvLane) (size : ℕ) → sending w s n ≡ Some l → receiving w s n ≡ Some r → r.final_size ≡ Some size → highest r ≡ l.sent_end
  size_sent l r size at is e =
      let (m, there, declared, sent, count) = final_size_is_declared a b h w ok s n r size is e in
      let same : m ≡ l = same_Some m l (sym there ∙ at) in
      let sent_is : l.sent_end ≡ size = rw same at sent in
      let top : highest r ≡ size = rw e refl in
      top ∙ sym sent_is

  -- A half that wasn't reset, of which all that was sent is acknowledged

  module _ (l : SendLane) (at : sending w s n ≡ Some l) (none : l.was_reset ≡ None) (acked : (q : ℕ) → q < l.sent_end → set.contains l.acked q ≡ true) where
    -- each offset that was sent came
    pub sent_came : (q : ℕ) → q < l.sent_end → (r : RecvLane) × (receiving w s n ≡ Some r) × (set.contains r.arrived.received q ≡ true)
    sent_came q lt = acked_came l q at none (acked q lt)

    pub came_at : (r : RecvLane) → receiving w s n ≡ Some r → (q : ℕ) → q < l.sent_end → set.contains r.arrived.received q ≡ true
    came_at r is q lt =
        let (m, there, has_it) = sent_came q lt in
        let same : m ≡ r = same_Some m r (sym there ∙ is) in
        rw same at has_it

    -- where no such half is there, nothing was sent
    pub none_sent : receiving w s n ≡ None → l.sent_end ≡ 0
    none_sent gone = by l.sent_end refl
      where
        by : (k : ℕ) → l.sent_end ≡ k → l.sent_end ≡ 0
        by zero e = e
        by (suc k) e = (let (t, found, has_it) = sent_came k (omega (arith, e)) in absurd (none-some t (sym gone ∙ found)))

    -- the highest offset is the sent end
    pub highest_is : (r : RecvLane) → receiving w s n ≡ Some r → highest r ≡ l.sent_end
    highest_is r is = by r.final_size refl
      where
        low : (k : ℕ) → l.sent_end ≡ k → k ≤ set_end r.arrived.received
        low zero e = omega arith
        low (suc k) e = below-end r.arrived.received k (came_at r is k (omega (arith, e)))

        by : (o : Option ℕ) → r.final_size ≡ o → highest r ≡ l.sent_end
        by (Some size) e = size_sent l r size at is e
        by None e =
            let top : highest r ≡ set_end r.arrived.received = rw e refl in
            let over : set_end r.arrived.received ≤ l.sent_end = end-le r.arrived.received l.sent_end (came_below l r at is) in
            omega (arith, low l.sent_end refl)

    -- And whose reader has no news

    module _ (no_news : (r : RecvLane) → receiving w s n ≡ Some r → TellsNoNews (read_answer r 1) r) where
      -- all of it was taken
      pub taken_is : (r : RecvLane) → receiving w s n ≡ Some r → taken r ≡ l.sent_end
      taken_is r is =
          let top : highest r ≡ l.sent_end = highest_is r is in
          caught_up r (lawful r is) (no_news r is) (inl (λ q lt. came_at r is q (omega (arith, top)))) ∙ top

      -- and read, unless the reader stopped
      pub sent_is_read : stopped (other s) n h ≡ false → read (other s) n h ≡ take l.sent_end (written s n h)
      sent_is_read going = prefix_take _ _ (prefix a b h w ok s n).prefix ∙ ap (λ k. take k (written s n h)) (by (receiving w s n) refl)
        where
          by : (y : Option RecvLane) → receiving w s n ≡ y → length (read (other s) n h) ≡ l.sent_end
          by None e =
              let slot = subst (RecvSlot (past (other s) h) n (first_window (end_of w (other s)) n)) e ((ok.ends (other s)).recvs n) in
              let nothing : length (read (other s) n h) ≡ 0 = ap length slot.no_bytes in
              nothing ∙ sym (none_sent e)
          by (Some r) e =
              let half = reader_ok r e in
              let given : length (read (other s) n h) ≡ r.arrived.read_count = half.count in
              let no_stop : r.stop_code ≡ None = half.not_stopped going in
              let no_reset : r.reset_code ≡ None = no_reset_known l r at e none in
              let took : taken r ≡ r.arrived.read_count = rw (no_reset, no_stop) refl in
              given ∙ sym took ∙ taken_is r e

      -- once the owner finished, and all was sent, the stream is delivered
      pub read_at_both : RestOk (past s h) (end_of w s) → l.fin_acked ≡ true → l.sent_end ≡ l.written → IsReadAtBoth w s n
      read_at_both keeps end all = by ((acked_has_arrived a b h w ok s n).end l at end)
        where
          below : (q : ℕ) → set.contains l.acked q ≡ true → q < l.written
          below q has_it = omega (arith, all, acked_sent l q at has_it)

          first : unacked_from l ≡ l.written
          first = missing_is l.acked l.written (λ q lt. acked q (omega (arith, all))) below

          not_reset : (c : Bool) → l.reset_acked ≡ c → l.reset_acked ≡ false
          not_reset false e = e
          not_reset true e =
              let (code, size, (k, holds, ack)) = (keeps.sends n l at).reset_told e in
              absurd (none-some _ (sym none ∙ (sender_ok l at).told_reset code size (k, holds)))

          sent : send_state l ≡ DataRecvd
          sent =
              let whole : send_whole l ≡ true = and_from _ _ (eq-eqb (unacked_from l) l.written first) end in
              rw (not_reset l.reset_acked refl, none, whole) refl

          by : (offset : ℕ) × (bytes : List ℕ) × HasArrived h s (Stream n offset bytes true) → IsReadAtBoth w s n
          by (offset, bytes, arrived) =
              let (r, is, took, fins) = arrived_was_taken a b h w ok s n offset bytes true arrived in
              let final = fins refl in
              let top : highest r ≡ offset + length bytes = rw final refl in
              let end_is : l.sent_end ≡ offset + length bytes = sym (highest_is r is) ∙ top in
              let no_reset = no_reset_known l r at is none in
              let whole : is_whole r ≡ true = ap (whole_to r.arrived.received) final ∙ covers-of r.arrived.received 0 (offset + length bytes) (λ q low lt. came_at r is q (omega (arith, end_is))) in
              let told = end_told r (lawful r is) (no_news r is) no_reset whole in
              (l, r, at, is, sent, rw (no_reset, whole, told) refl)

-- The two laws

module _ (a b : Settings) (h : History) (w : World) (ok : WorldOk a b h w) (keeps : (s : Side) → RestOk (past s h) (end_of w s)) (s : Side) (n : ℕ) (l : SendLane) (at : sending w s n ≡ Some l) where
  -- what was sent of a stream that rests is acknowledged
  sent_acked : StreamRests w s n l → l.was_reset ≡ None → (q : ℕ) → q < l.sent_end → set.contains l.acked q ≡ true
  sent_acked rests none q lt = go (set.contains l.acked q) refl
    where
      go : (b : Bool) → set.contains l.acked q ≡ b → set.contains l.acked q ≡ true
      go true is = is
      go false is =
          absurd (rests.bytes q lt (record {
            no_reset = none;
            written = omega (arith, lt, (sender_ok a b h w ok s n l at).sent_written);
            not_acked = is;
            not_sent = λ (c, flies, low, high). rests.none_out c flies;
          }))

  end_acked : StreamRests w s n l → l.was_reset ≡ None → l.fin_sent ≡ true → l.fin_acked ≡ true
  end_acked rests none sent = go l.fin_acked refl
    where
      go : (b : Bool) → l.fin_acked ≡ b → l.fin_acked ≡ true
      go true is = is
      go false is =
          absurd (rests.end sent (record { no_reset = none; finished = ((sender_ok a b h w ok s n l at).end sent).0; not_acked = is; not_sent = λ offset len flies. rests.none_out _ flies }))

  pub stream_rests : StreamRests w s n l → SentIsRead h w s n l
  stream_rests rests =
      record {
        is_read = λ unbroken going. (let none = not_reset a b h w ok s n l at unbroken going in sent_is_read a b h w ok s n l at none (sent_acked rests none) rests.read_out going);
        is_ended = λ none sent. read_at_both a b h w ok s n l at none (sent_acked rests none) rests.read_out (keeps s) (end_acked rests none sent) ((sender_ok a b h w ok s n l at).end sent).1;
      }

  -- all below `acked_below` is acknowledged, and that is what was sent
  answer_acked : AnswersSo h w s n l → l.was_reset ≡ None → (q : ℕ) → q < l.sent_end → set.contains l.acked q ≡ true
  answer_acked answers none q lt =
      let below : acked_below (end_of w s) n ≡ Some (unacked_from l) = ap acked_below_of at in
      let left : unsent (end_of w s) n ≡ l.written - l.sent_end = ap unsent_of at ∙ rw none refl in
      let same : unacked_from l ≡ length (written s n h) - unsent (end_of w s) n = same_Some _ _ (sym below ∙ answers.acked) in
      before-missing l.acked q (omega (arith, lt, same, left, (sender_ok a b h w ok s n l at).count, (sender_ok a b h w ok s n l at).sent_written))

  answer_news : AnswersSo h w s n l → (r : RecvLane) → receiving w s n ≡ Some r → TellsNoNews (read_answer r 1) r
  answer_news answers r is = told_all r ((keeps (other s)).told n r is) (go (is_readable r) refl)
    where
      go : (b : Bool) → is_readable r ≡ b → is_readable r ≡ false
      go true same = absurd (answers.no_news (answers.read_on, (r, is, same)))
      go false same = same

  pub answers_tell : AnswersSo h w s n l → SentIsRead h w s n l
  answers_tell answers =
      record {
        is_read = λ unbroken going. (let none = not_reset a b h w ok s n l at unbroken going in sent_is_read a b h w ok s n l at none (answer_acked answers none) (answer_news answers) going);
        is_ended = λ none sent.
            let whole : send_whole l ≡ true = whole_state l (answers.end sent) in
            let parts = and_parts _ _ whole in
            read_at_both a b h w ok s n l at none (answer_acked answers none) (answer_news answers) (keeps s) parts.1 ((sender_ok a b h w ok s n l at).end sent).1;
      }

pub every_stream_rests : EveryStreamRests
every_stream_rests a b h w run s n l at = stream_rests a b h w (run_keeps a b h w run) (every_run_keeps a b h w run) s n l at

pub every_answer_tells : AnswersTell
every_answer_tells a b h w run s n l at = answers_tell a b h w (run_keeps a b h w run) (every_run_keeps a b h w run) s n l at
