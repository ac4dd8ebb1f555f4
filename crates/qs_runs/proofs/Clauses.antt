-- What agrees in a world that meets the invariant: each clause, and the laws as they are stated.
use Rattle.std.proofs.lemmas.Bool.Decides.{nat_tests}
use Rattle.std.proofs.Common.{◌≡◌, ℕ, List, [], ◌∷◌, Some, true, sym, subst, refl, ap, ◌∙◌, slice_get, ◌+◌, ◌<◌, ◌≤◌, ◌⊎◌, length, Option, None, is_some, Bool, false, not, arith, inl, inr, if◌then◌else◌}
use Rattle.std.proofs.lemmas.Bool.{false≢true}
use Rattle.std.proofs.lemmas.Option.{none-some}
use Rattle.std.specs.List.{AllByRecursion}
use Rattle.qs_recv.specs.Lane.{RecvLane}
use Rattle.qs_send.specs.Lane.{SendLane}
use Rattle.qs_send.specs.declared.piece.Item.TheVariants.{ResetStream}
use Rattle.qs_calls.specs.declared.closing.Closed.{Closed}
use Rattle.qs_calls.specs.declared.closing.Closed.TheVariants.{ByPeer}
use Rattle.qs_calls.specs.declared.settings.Settings.{Settings}
use Rattle.qs_calls.specs.declared.event.Side.{Side}
use Rattle.qs_calls.specs.declared.event.Side.TheVariants.{A, B}
use Rattle.qs_machine.specs.Tables.{lookup, index_of}
use Rattle.qs_machine.specs.Ends.{End, closes, first_send_limit, first_window, is_own, is_uni}
use Rattle.qs_machine.specs.Credit.{spent}
use Rattle.qs_machine.specs.Seen.{Seen, Stream, Control}
use Rattle.qs_machine.specs.Plains.{frames_in}
use Rattle.qs_machine.specs.Laws.{StaysOnceClosed}
use Rattle.qs_machine.specs.EndStep.{Call, Answer, EndStep, Receive, TakeFrame, TakeFrames}
use Rattle.qs_machine.proofs.EveryCall.{closed_stays}
use Rattle.qs_machine.proofs.Plains.{close_comes}
use Rattle.qs_machine.proofs.Pieces.{All_at}
use Rattle.qs_runs.specs.Logs.{Happening, History, other, processed, written}
use Rattle.qs_runs.specs.Worlds.{World, end_of, May, WorldStep}
use Rattle.qs_runs.specs.Agree.{Agree, PrefixAgrees, ShownAgrees, WholeAgrees, FinalSizesAgree, CreditAgrees, StaysOpen, StepAgrees, IsOld, handed_in}
use Rattle.qs_runs.specs.Invariant.{WorldOk, SendSlot, RecvSlot, FrameTaken, EndOk}
use Rattle.qs_runs.specs.Pasts.{past, Holds, Tells, IsNamed}
use Rattle.qs_runs.specs.Clauses.{Carries, HasArrived, sending, receiving, PiecesAreWritten, ReceivedIsBelowSent, StoredIsWritten, ReadIsWritten, ArrivedWasTaken, ArrivedResetWasTaken, AckedHasArrived, FinalSizeIsDeclared, ResetCodeIsTheSenders, SentIsWithinKnown, KnownIsWithinGranted, IsOpen, IsOpenAtInitiator, known_for, OpenedIsBelowKnown}
use Rattle.qs_runs.specs.Laws.{ArrivedWasAlwaysTaken}
use Rattle.qs_runs.proofs.Unharmed.{spent_le, Facing, lane_limit, own_sends, final_sent, data_granted}
use Rattle.qs_runs.proofs.Agreement.{prefix_agrees, whole_agrees, received_agrees, size_agrees, reset_agrees, byte_written, gave_written, end_written, written_count}
use Rattle.qs_runs.proofs.Receives.{Hands, settle_spends, repeats, spends_nothing, frames_spend, none_spent}
use Rattle.qs_runs.proofs.Histories.{theirs_mine, payload_seen, confirmed_taken, frames_told, payload_come}
use Rattle.qs_runs.proofs.Runs.{ends_face, opposite, step_keeps}

-- What agrees in a world that meets the invariant, and at each step from it.

-- the number of a payload
abbrev number_of : Call → ℕ
number_of (Receive k bytes) = k
number_of call = 0

abbrev is_receive : Call → Bool
is_receive (Receive k bytes) = true
is_receive call = false

hands_or : (call : Call) → Hands call ⊎ (Hands call → ⊥)
hands_or call = grind (arith, nat_tests)

-- of an end that closed nothing changes
hands_same : (old new : End) (call : Call) → Hands call → StaysOnceClosed old call new → new ≡ old
hands_same old new call hands same = grind (arith, nat_tests)

module _ (a b : Settings) (h : History) (w : World) (ok : WorldOk a b h w) where
  pub prefix : (s : Side) (n : ℕ) → PrefixAgrees h s n
  prefix s n =
      let sender : End = end_of w s in
      let receiver : End = end_of w (other s) in
      record {
        prefix = prefix_agrees (past s h) (past (other s) h) n (first_send_limit sender n) (first_window receiver n) (theirs_mine s h) (lookup sender.sends n) (lookup receiver.recvs n) ((ok.ends s).sends n) ((ok.ends (other s)).recvs n);
        ended = whole_agrees (past s h) (past (other s) h) n (first_send_limit sender n) (first_window receiver n) (theirs_mine s h) (lookup sender.sends n) (lookup receiver.recvs n) ((ok.ends s).sends n) ((ok.ends (other s)).recvs n);
      }

  pub whole : (s : Side) (n : ℕ) → WholeAgrees h w s n
  whole s n l there =
      let sender : End = end_of w s in
      let receiver : End = end_of w (other s) in
      received_agrees (past s h) (past (other s) h) n (first_send_limit sender n) (first_window receiver n) (theirs_mine s h) receiver ((ok.ends (other s)).recvs n) (λ k g holds ack land. All_at (FrameTaken receiver.recvs) (past (other s) h).taken g (ok.ends (other s)).taken (confirmed_taken a b h w ok s k g holds ack land)) l
      (subst (SendSlot (past s h) n (first_send_limit sender n)) there ((ok.ends s).sends n))

  pub final_sizes : (s : Side) (n : ℕ) → FinalSizesAgree w s n
  final_sizes s n =
      let sender : End = end_of w s in
      let receiver : End = end_of w (other s) in
      record {
        size = λ r size there. size_agrees (past s h) (past (other s) h) n (first_send_limit sender n) (first_window receiver n) (theirs_mine s h) (lookup sender.sends n) r size ((ok.ends s).sends n)
            (subst (RecvSlot (past (other s) h) n (first_window receiver n)) there ((ok.ends (other s)).recvs n));
        code = λ r code there. reset_agrees (past s h) (past (other s) h) n (first_send_limit sender n) (first_window receiver n) (theirs_mine s h) (lookup sender.sends n) r code ((ok.ends s).sends n)
            (subst (RecvSlot (past (other s) h) n (first_window receiver n)) there ((ok.ends (other s)).recvs n));
      }

  -- the receiver is the side that was asked for
  pub credit : (s : Side) → CreditAgrees w s
  credit A = spent_le (past A h) (past B h) refl refl w.a w.b (ends_face a b h w ok B) (ok.ends A) (ok.ends B)
  credit B = spent_le (past B h) (past A h) refl refl w.b w.a (ends_face a b h w ok A) (ok.ends B) (ok.ends A)

  pub stays_open : (s : Side) → StaysOpen h w s
  stays_open s = ok.unclosed s

  pub agrees : ((s : Side) (n : ℕ) → ShownAgrees h s n) → Agree h w
  agrees shown = record { prefix = prefix; shown = shown; credit = credit; whole = whole; final_sizes = final_sizes; stays_open = stays_open }

  -- One call of a side

  module _ (s : Side) (new : End) where
    abbrev old : End
    old = end_of w s

    -- a packet that was processed comes again, in whatever bytes
    again : (call : Call) (answer : Answer call) → EndStep old call answer new → (k : ℕ) (bytes : List ℕ) → call ≡ Receive k bytes → processed s k h ≡ true → new ≡ old
    again (Receive j text) answer step k bytes is done = by old.closed refl
      where
        by : (o : Option Closed) → old.closed ≡ o → new ≡ old
        by None open_end = repeats (past s h) old new j text answer (ok.ends s) open_end step (subst (λ i. processed s i h ≡ true) (sym (ap number_of is)) done)
        by (Some closed) shut = closed_stays old (Receive j text) answer new (ap is_some shut) step
    again call answer step k bytes is done = absurd (false≢true (ap is_receive is))

    -- what comes to an open end
    heard_spends : old.closed ≡ None → (call : Call) (answer : Answer call) → Hands call → May h w s call → EndStep old call answer new → AllByRecursion (IsOld old) (handed_in call) → spent new ≡ spent old
    heard_spends open_end (Receive k bytes) answer hands (inl made) step all = spends_nothing (past s h) old new k bytes answer (ok.ends s) (payload_come h s k bytes made) open_end step all
    heard_spends open_end (Receive k bytes) answer hands (inr (told, code, is)) step all = close_comes (λ r n. spent n ≡ spent old) k code bytes old new answer open_end is step refl refl (settle_spends (closes (ByPeer code) old))
    heard_spends open_end (TakeFrames fs) answer hands may step all = frames_spend (past s h) old new fs answer (ok.ends s) open_end (frames_told h s (ok.texts (other s)) fs may) all (inl step)
    heard_spends open_end (TakeFrame f) answer hands may step all = frames_spend (past s h) old new (f ∷ []) answer (ok.ends s) open_end (frames_told h s (ok.texts (other s)) (f ∷ []) (may, tt)) all (inr (f, refl, step))
    heard_spends open_end call answer hands may step all = absurd hands

    -- it tells nothing new
    old_news : (call : Call) (answer : Answer call) → (old.closed ≡ None → May h w s call) → EndStep old call answer new → AllByRecursion (IsOld old) (handed_in call) → spent new ≡ spent old
    old_news call answer may step all =
        elim (hands_or call) [
          | inl hands ↦ by hands old.closed refl
          | inr idle ↦ none_spent old new call answer idle step
        ]
      where
        by : Hands call → (o : Option Closed) → old.closed ≡ o → spent new ≡ spent old
        by hands None open_end = heard_spends open_end call answer hands (may open_end) step all
        by hands (Some closed) shut = ap spent (hands_same old new call hands (closed_stays old call answer new (ap is_some shut) step))

  pub step_agrees : (x : Happening) (new : World) → WorldStep h w x new → StepAgrees h w x new
  step_agrees x new step = record { again = again x.end (end_of new x.end) x.call x.answer step.step; old_news = old_news x.end (end_of new x.end) x.call x.answer step.may step.step }

-- Each clause follows from the invariant of the two ends.

-- a packet carries what it holds
carries_holds : (s : Side) (h : History) (k : ℕ) (f : Seen) → Carries h s k f → Holds (past s h).mine k f
carries_holds s h k f (text, is, a) = (frames_in text, payload_seen s k h text is, a)

module _ (a b : Settings) (h : History) (w : World) (ok : WorldOk a b h w) (s : Side) where
  abbrev sender : End
  sender = end_of w s

  abbrev receiver : End
  receiver = end_of w (other s)

  sends_ok : EndOk (past s h) (end_of w s)
  sends_ok = ok.ends s

  recvs_ok : EndOk (past (other s) h) (end_of w (other s))
  recvs_ok = ok.ends (other s)

  module _ (n : ℕ) where
    send_slot : SendSlot (past s h) n (first_send_limit sender n) (sending w s n)
    send_slot = sends_ok.sends n

    recv_at : (r : RecvLane) → receiving w s n ≡ Some r → RecvSlot (past (other s) h) n (first_window receiver n) (Some r)
    recv_at r is = subst (RecvSlot (past (other s) h) n (first_window receiver n)) is (recvs_ok.recvs n)

    send_at : (l : SendLane) → sending w s n ≡ Some l → SendSlot (past s h) n (first_send_limit sender n) (Some l)
    send_at l is = subst (SendSlot (past s h) n (first_send_limit sender n)) is (sends_ok.sends n)

    pub pieces_are_written : PiecesAreWritten h w s n
    pieces_are_written k offset bytes fin c = by (sending w s n) refl send_slot
      where
        by : (o : Option SendLane) → sending w s n ≡ o → SendSlot (past s h) n (first_send_limit sender n) o → (l : SendLane) × (sending w s n ≡ Some l)
            × ((i b : ℕ) → slice_get bytes i ≡ Some b → slice_get (written s n h) (offset + i) ≡ Some b) × (offset + length bytes ≤ l.sent_end)
        by None is slot = absurd (slot.no_stream offset bytes fin (k, carries_holds s h k _ c))
        by (Some l) is slot = (let t = slot.told offset bytes fin (k, carries_holds s h k _ c) in (l, is, t.same, t.below))

    pub received_is_below_sent : ReceivedIsBelowSent w s n
    received_is_below_sent r q is has_it =
        let (m, le, (offset, bytes, fin, t, low, high)) = (recv_at r is).received q has_it in
        by (sending w s n) refl send_slot m le offset bytes fin (subst (λ x. Tells x (Stream n offset bytes fin)) (theirs_mine s h) t) low high
      where
        by : (o : Option SendLane) → sending w s n ≡ o → SendSlot (past s h) n (first_send_limit sender n) o → (m : ℕ) → q ≤ m → (offset : ℕ) (bytes : List ℕ) (fin : Bool) → Tells (past s h).mine (Stream n offset bytes fin) → offset ≤ m → m < offset + length bytes →
            (l : SendLane) × (sending w s n ≡ Some l) × (q < l.sent_end)
        by None at slot m le offset bytes fin t low high = absurd (slot.no_stream offset bytes fin t)
        by (Some l) at slot m le offset bytes fin t low high = (let below : offset + length bytes ≤ l.sent_end = (slot.told offset bytes fin t).below in (l, at, omega arith))

    pub stored_is_written : StoredIsWritten h w s n
    stored_is_written r q b is has_it = byte_written (past s h) (past (other s) h) n (first_send_limit sender n) (first_window receiver n) (theirs_mine s h) (sending w s n) send_slot q b ((recv_at r is).stored q b has_it)

    pub read_is_written : ReadIsWritten h s n
    read_is_written q b has_it = gave_written (past s h) (past (other s) h) n (first_send_limit sender n) (first_window receiver n) (theirs_mine s h) (sending w s n) (receiving w s n) send_slot (recvs_ok.recvs n) q b has_it

    -- a frame that arrived took effect
    frame_taken_by : (f : Seen) → HasArrived h s f → FrameTaken receiver.recvs f
    frame_taken_by f came = All_at (FrameTaken receiver.recvs) (past (other s) h).taken f recvs_ok.taken came

    pub arrived_was_taken : ArrivedWasTaken h w s n
    arrived_was_taken offset bytes fin came =
        let (r, is, taken) = frame_taken_by (Stream n offset bytes fin) came in
        (r, is, by r.reset_code refl (λ none. taken.offsets none), taken.end)
      where
        by : {P : Type 0} (o : Option ℕ) {x : Option ℕ} → x ≡ o → (x ≡ None → P) → P ⊎ (is_some x ≡ true)
        by None e f = inl (f e)
        by (Some code) e f = inr (ap is_some e)

    pub arrived_reset_was_taken : ArrivedResetWasTaken h w s n
    arrived_reset_was_taken code size came = frame_taken_by (Control (ResetStream n code size)) came

    pub acked_has_arrived : AckedHasArrived h w s n
    acked_has_arrived =
        record {
          offsets = λ l q is has_it.
              let (k, offset, bytes, fin, holds, low, high, confirmed) = (send_at l is).acked q has_it in
              (offset, bytes, fin, confirmed_taken a b h w ok s k (Stream n offset bytes fin) holds confirmed refl, low, high);
          end = λ l is set.
              let (k, offset, bytes, holds, confirmed) = (send_at l is).end_acked set in
              (offset, bytes, confirmed_taken a b h w ok s k (Stream n offset bytes true) holds confirmed refl);
        }

    pub final_size_is_declared : FinalSizeIsDeclared h w s n
    final_size_is_declared r size is final =
        let (l, at, declared) = size_agrees (past s h) (past (other s) h) n (first_send_limit sender n) (first_window receiver n) (theirs_mine s h) (sending w s n) r size send_slot (recv_at r is) final in
        (l, at, declared, sym (final_sent (past (other s) h) (past s h) (theirs_mine s h) n (first_send_limit sender n) (first_window receiver n) (Some l) r (send_at l at) (recv_at r is) size final), λ none. count l at none)
      where
        count : (l : SendLane) → sending w s n ≡ Some l → r.reset_code ≡ None → length (written s n h) ≡ size
        count l at none =
            elim ((recv_at r is).final size final) [
              | inl t ↦ (
                  let (m, there, sent, end) = end_written (past s h) (past (other s) h) n (first_send_limit sender n) (first_window receiver n) (theirs_mine s h) (sending w s n) size send_slot t in
                  written_count (past s h) (past (other s) h) n (first_send_limit sender n) (first_window receiver n) (theirs_mine s h) (sending w s n) m send_slot there ∙ end)
              | inr t ↦ absurd (none-some t.0 (sym none ∙ t.1))
            ]

    pub reset_code_is_the_senders : ResetCodeIsTheSenders w s n
    reset_code_is_the_senders r code is known = reset_agrees (past s h) (past (other s) h) n (first_send_limit sender n) (first_window receiver n) (theirs_mine s h) (sending w s n) r code send_slot (recv_at r is) known

  pub sent_is_within_known : SentIsWithinKnown w s
  sent_is_within_known = record { connection = sends_ok.credit.sent_known; streams = λ n l is. (send_at n l is).sent_limit }

  -- the receiver faces the sender
  face : Facing receiver sender
  face = ends_face a b h w ok s

  pub known_is_within_granted : KnownIsWithinGranted w s
  known_is_within_granted =
      record {
        connection = data_granted (past (other s) h) (past s h) (theirs_mine s h) refl receiver sender face recvs_ok sends_ok;
        streams = λ n l r there is. lane_limit (past (other s) h) (past s h) (theirs_mine s h) refl receiver sender face recvs_ok sends_ok n l r there is;
      }

  pub is_open_at_initiator : (n : ℕ) → IsOpenAtInitiator w s n
  is_open_at_initiator n open_here own = own_sends (past (other s) h) (past s h) (theirs_mine s h) refl receiver sender face recvs_ok sends_ok n own (named open_here)
    where
      theirs : is_own sender n ≡ false
      theirs = opposite a b h w ok s n ∙ ap not own

      named : IsOpen w s n → IsNamed (past s h).theirs n
      named (inl sends) = (sends_ok.streams.their_send n sends theirs).1
      named (inr recvs) = sends_ok.streams.their_recv n recvs theirs

  pub opened_is_below_known : OpenedIsBelowKnown w s
  opened_is_below_known = record { opened = opened; known = λ n. known n (is_uni n) }
    where
      opened : (n : ℕ) → IsOpen w s n → is_own sender n ≡ true → index_of n < known_for sender n
      opened n (inl sends) own = sends_ok.streams.own_send n sends own
      opened n (inr recvs) own = sends_ok.streams.own_send n (sends_ok.streams.own_recv n recvs own).1 own

      known : (n : ℕ) (u : Bool) → (if u then sender.known_uni else sender.known_bidi) ≤ (if u then receiver.granted_uni else receiver.granted_bidi)
      known n true = face.uni
      known n false = face.bidi

-- What holds in every world holds after a step.
pub each_step : {P : Settings → Settings → History → World → Type 0} → ((a b : Settings) (h : History) (w : World) → WorldOk a b h w → P a b h w) →
    (a b : Settings) (h : History) (v w : World) (x : Happening) → WorldOk a b h v → WorldStep h v x w → P a b (x ∷ h) w
each_step holds a b h v w x ok step = holds a b (x ∷ h) w (step_keeps a b h v w x ok step)

pub law_arrived_was_taken : ArrivedWasAlwaysTaken
law_arrived_was_taken = λ a b h v w x ok step s n. (arrived_was_taken a b (x ∷ h) w (step_keeps a b h v w x ok step) s n, arrived_reset_was_taken a b (x ∷ h) w (step_keeps a b h v w x ok step) s n)
