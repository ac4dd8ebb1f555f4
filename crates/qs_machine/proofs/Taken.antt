-- What a frame without a fault finds, and leaves.
use Rattle.std.proofs.lemmas.Bool.Decides.{nat_tests}
use Rattle.std.proofs.Common.{arith}
use Rattle.std.proofs.Common.{◌≡◌, ℕ, ◌%◌, Bool, true, not, ◌&&◌, ◌||◌, List, take, length, Option, Some, None, is_some, Result, refl, ap, sym, ◌∙◌, subst, cond}
use Rattle.std.specs.Prelude.{is_none, IsOk}
use Rattle.qs_send.specs.Lane.{SendLane, new_lane as new_send_lane}
use Rattle.qs_send.specs.declared.piece.Item.TheVariants.{ResetStream}
use Rattle.qs_recv.specs.Lane.{RecvLane, new_lane, check_stream, check_reset, check_bytes, take_stream, take_reset}
use Rattle.qs_recv.specs.declared.credit.Share.TheVariants.{Half}
use Rattle.qs_recv.specs.declared.half.Highest.{Highest}
use Rattle.qs_recv.specs.declared.half.RecvFault.{RecvFault}
use Rattle.qs_machine.specs.Tables.{Tables, table, with_table, lookup, updated, open_to}
use Rattle.qs_machine.specs.Outgoing.{Outgoing, with_outgoing, with_sends, sent_sum, AreOfOpen}
use Rattle.qs_machine.specs.Ends.{End, Records, LostPackets, first_window, opens, is_own, is_uni, opened_by_peer, first_send_limit}
use Rattle.qs_machine.specs.Seen.{Stream, Control}
use Rattle.qs_machine.specs.Verdicts.{verdict, state_fault_in, state_fault_out, credit_fault, fault_of, or_new, lane_of}
use Rattle.qs_machine.specs.FrameStep.{frame_taken}
use Rattle.qs_machine.specs.Standing.{KeepsCredit, IsInCredit}
use Rattle.qs_machine.specs.Sums.{tally_on}
use Rattle.qs_machine.proofs.TableEdits.{opened_closed, same_tally}
use Rattle.qs_machine.proofs.TableLaws.{open_at, total_open}
use Rattle.qs_machine.proofs.CallsSound.{opened_lane, sound_frame, first_passed, second_passed}
use Rattle.qs_machine.proofs.EveryCall.{same_either}

of_either : {X : Type 0} (f : End → X) (e o : End) (a : Bool) → f (cond a e o) ≡ cond a (f e) (f o)
of_either f e o a = grind arith

is_there : (o : Option SendLane) → cond {A = Option ℕ} (is_none o) (Some 5) None ≡ None → is_some o ≡ true
is_there o h = grind arith

-- a half of which a frame may speak is there once the frame opened the stream
pub out_there : (e mid : End) (n : ℕ) → state_fault_out e n ≡ None → mid ≡ opened_by_peer n e → is_some (lookup mid.sends n) ≡ true
out_there e mid n none is = grind (arith, nat_tests, of_either, not, is_there, open_at)

pub in_there : (e mid : End) (n : ℕ) → state_fault_in e n ≡ None → mid ≡ opened_by_peer n e → lookup mid.recvs n ≡ Some (lane_of e n)
in_there e mid n none is = ap (λ (k : End). lookup k.recvs n) is ∙ opened_lane n e none

checked : (e : End) (r : Result Highest RecvFault) → credit_fault e r ≡ None → IsOk r
checked e r h = grind arith

unchanged : (r : Result (Unit {0}) RecvFault) → fault_of r ≡ None → IsOk r
unchanged r h = grind arith

pub reset_in : (e : End) (n code size : ℕ) → verdict e (Control (ResetStream n code size)) ≡ None → state_fault_in e n ≡ None
unfolding verdict
reset_in e n code size h = first_passed _ _ h

pub stream_in : (e : End) (n offset : ℕ) (bytes : List ℕ) (fin : Bool) → verdict e (Stream n offset bytes fin) ≡ None → state_fault_in e n ≡ None
unfolding verdict
stream_in e n offset bytes fin h = first_passed _ _ h

pub reset_checked : (e mid : End) (n code size : ℕ) → verdict e (Control (ResetStream n code size)) ≡ None → mid ≡ opened_by_peer n e → IsOk (check_reset (or_new (lookup mid.recvs n) 0 Half) size)
unfolding verdict
reset_checked e mid n code size h is = grind (arith, nat_tests, in_there, first_passed, checked, second_passed)

pub stream_checked : (e mid : End) (n offset : ℕ) (bytes : List ℕ) (fin : Bool) → verdict e (Stream n offset bytes fin) ≡ None → mid ≡ opened_by_peer n e
    → IsOk (check_stream (or_new (lookup mid.recvs n) 0 Half) offset (length bytes) fin)
unfolding verdict
stream_checked e mid n offset bytes fin h is = grind (arith, nat_tests, in_there, first_passed, checked, second_passed)

pub stream_unchanged : (e mid : End) (n offset : ℕ) (bytes : List ℕ) (fin : Bool) → verdict e (Stream n offset bytes fin) ≡ None → mid ≡ opened_by_peer n e
    → IsOk (check_bytes (or_new (lookup mid.recvs n) 0 Half) offset bytes)
unfolding verdict
stream_unchanged e mid n offset bytes fin h is = grind (arith, nat_tests, in_there, first_passed, unchanged, second_passed)

-- the credit is kept

pub reset_sound : (e mid : End) (n code size : ℕ) (recvs : Tables RecvLane) → IsInCredit e → verdict e (Control (ResetStream n code size)) ≡ None → mid ≡ opened_by_peer n e
    → recvs ≡ updated mid.recvs n (λ l. take_reset l code size) (lookup mid.recvs n) → KeepsCredit mid.role mid.settings mid.present recvs mid.granted
unfolding frame_taken
reset_sound e mid n code size recvs sound passed is after =
    subst (λ (t : Tables RecvLane). KeepsCredit mid.role mid.settings mid.present t mid.granted) (sym after)
    (subst (λ (k : End). KeepsCredit k.role k.settings k.present (updated k.recvs n (λ l. take_reset l code size) (lookup k.recvs n)) k.granted) (sym is)
    (sound_frame (Control (ResetStream n code size)) e passed sound))

pub stream_sound : (e mid : End) (n offset : ℕ) (bytes : List ℕ) (fin : Bool) (recvs : Tables RecvLane) → IsInCredit e → verdict e (Stream n offset bytes fin) ≡ None → mid ≡ opened_by_peer n e
    → recvs ≡ updated mid.recvs n (λ l. take_stream l offset bytes fin) (lookup mid.recvs n) → KeepsCredit mid.role mid.settings mid.present recvs mid.granted
unfolding frame_taken
stream_sound e mid n offset bytes fin recvs sound passed is after =
    subst (λ (t : Tables RecvLane). KeepsCredit mid.role mid.settings mid.present t mid.granted) (sym after)
    (subst (λ (k : End). KeepsCredit k.role k.settings k.present (updated k.recvs n (λ l. take_stream l offset bytes fin) (lookup k.recvs n)) k.granted) (sym is)
    (sound_frame (Stream n offset bytes fin) e passed sound))

-- What a refusal takes back

nested : {X : Type 0} (a b : Bool) (x y : X) → cond a x (cond b x y) ≡ cond (a || b) x y
nested a b x y = grind arith

pub mid_sends : (e mid : End) (n : ℕ) → mid ≡ opened_by_peer n e
    → mid.sends ≡ cond (is_own e n || (is_uni n && not (is_own e n))) e.sends (open_to e.sends n (λ m. new_send_lane m (first_send_limit e n) e.settings.send_buffer))
mid_sends e mid n is = ap (λ (k : End). k.sends) is ∙ of_either (λ (k : End). k.sends) e (opens n e) (is_own e n) ∙ nested (is_own e n) (is_uni n && not (is_own e n)) e.sends _

mid_recvs : (e mid : End) (n : ℕ) → mid ≡ opened_by_peer n e → mid.recvs ≡ cond (is_own e n || (is_uni n && is_own e n)) e.recvs (open_to e.recvs n (λ m. new_lane (first_window e n) e.tuning.credit_step))
mid_recvs e mid n is = ap (λ (k : End). k.recvs) is ∙ of_either (λ (k : End). k.recvs) e (opens n e) (is_own e n) ∙ nested (is_own e n) (is_uni n && is_own e n) e.recvs _

pub sends_back : (e mid : End) (n m : ℕ) (now : Tables SendLane) → mid ≡ opened_by_peer n e → m ≡ length (table e.sends (n % 4))
    → now ≡ with_table mid.sends (n % 4) (take m (table mid.sends (n % 4))) → now ≡ e.sends
sends_back e mid n m now is len cut = opened_closed e.sends n _ _ mid.sends now m (mid_sends e mid n is) len cut

pub recvs_back : (e mid : End) (n m : ℕ) (now : Tables RecvLane) → mid ≡ opened_by_peer n e → m ≡ length (table e.recvs (n % 4))
    → now ≡ with_table mid.recvs (n % 4) (take m (table mid.recvs (n % 4))) → now ≡ e.recvs
recvs_back e mid n m now is len cut = opened_closed e.recvs n _ _ mid.recvs now m (mid_recvs e mid n is) len cut

pub tally_back : (e mid : End) (n m : ℕ) → mid ≡ opened_by_peer n e → m ≡ length (table e.recvs (n % 4)) → tally_on (take m (table mid.recvs (n % 4))) ≡ tally_on (table mid.recvs (n % 4))
tally_back e mid n m is len = same_tally e.recvs n (first_window e n) e.tuning.credit_step _ mid.recvs m (mid_recvs e mid n is) len

-- but for its tables an end that opened a stream is as before
pub restored : (e mid : End) (n : ℕ) (sends : Tables SendLane) (recvs : Tables RecvLane) → mid ≡ opened_by_peer n e → sends ≡ e.sends → recvs ≡ e.recvs
    → record mid { sends = sends; recvs = recvs } ≡ e
restored e mid n sends recvs is p q = grind arith

pub back_sound : (e mid : End) (n : ℕ) (recvs : Tables RecvLane) → IsInCredit e → mid ≡ opened_by_peer n e → recvs ≡ e.recvs → KeepsCredit mid.role mid.settings mid.present recvs mid.granted
back_sound e mid n recvs sound is same = grind arith

-- The sending side, once what was opened is closed again

pub sum_open : (t : Tables SendLane) (n limit buffer : ℕ) (b : Bool) → sent_sum (cond b t (open_to t n (λ m. new_send_lane m limit buffer))) ≡ sent_sum t
sum_open t n limit buffer b = grind (arith, nat_tests, total_open)

pub out_peer : (e : End) (n : ℕ) (b : Bool) → (cond b e (opens n e)).outstanding ≡ e.outstanding
out_peer e n b = same_either (λ (k : End). k.outstanding) b e (opens n e) refl

pub peer_none : (e mid : End) (n m : ℕ) → mid ≡ opened_by_peer n e → m ≡ length (table e.sends (n % 4)) → AreOfOpen e.sends e.outstanding
    → AreOfOpen (with_table mid.sends (n % 4) (take m (table mid.sends (n % 4)))) mid.outstanding
peer_none e mid n m is len h = grind (arith, nat_tests, sends_back, out_peer)

pub peer_lost : (e mid : End) (n m : ℕ) → mid ≡ opened_by_peer n e → m ≡ length (table e.sends (n % 4)) → AreOfOpen e.sends e.lost.pieces
    → AreOfOpen (with_table mid.sends (n % 4) (take m (table mid.sends (n % 4)))) mid.lost.pieces
peer_lost e mid n m is len h = grind (arith, nat_tests, sends_back, same_either)

pub peer_unsent : (e mid : End) (n m : ℕ) → mid ≡ opened_by_peer n e → m ≡ length (table e.sends (n % 4)) → sent_sum (with_table mid.sends (n % 4) (take m (table mid.sends (n % 4)))) ≡ sent_sum mid.sends
peer_unsent e mid n m is len =
    ap sent_sum (sends_back e mid n m _ is len refl)
    ∙ sym (ap sent_sum (mid_sends e mid n is) ∙ sum_open e.sends n (first_send_limit e n) e.settings.send_buffer (is_own e n || (is_uni n && not (is_own e n))))

-- the sending side of an end
abbrev side_of : End → ℕ → Outgoing
side_of e spare = record { sends = e.sends; next = e.next; outstanding = e.outstanding; lost = e.lost; acked = e.acked; spare = spare }

pub restored_out : (e mid : End) (n m spare : ℕ) (now : Outgoing) (recvs : Tables RecvLane) → mid ≡ opened_by_peer n e → m ≡ length (table e.sends (n % 4))
    → now ≡ with_sends (with_table mid.sends (n % 4) (take m (table mid.sends (n % 4)))) (side_of mid spare) → recvs ≡ e.recvs → with_outgoing now (record mid { recvs = recvs }) ≡ e
restored_out e mid n m spare now recvs is len cut q = grind (arith, nat_tests, restored, sends_back)

module _ (o mid : Outgoing) (n m limit buffer : ℕ) (b : Bool) (is : mid ≡ with_sends (cond b o.sends (open_to o.sends n (λ j. new_send_lane j limit buffer))) o) (len : m ≡ length (table o.sends (n % 4))) where
  cut_back : with_table mid.sends (n % 4) (take m (table mid.sends (n % 4))) ≡ o.sends
  cut_back = opened_closed o.sends n (λ j. new_send_lane j limit buffer) b mid.sends _ m (ap (λ (x : Outgoing). x.sends) is) len refl

  pub none_back : AreOfOpen o.sends o.outstanding → AreOfOpen (with_table mid.sends (n % 4) (take m (table mid.sends (n % 4)))) mid.outstanding
  none_back h =
      subst (λ (t : Tables SendLane). AreOfOpen t mid.outstanding) (sym cut_back) (subst (λ (r : Records). AreOfOpen o.sends r) (sym (ap (λ (x : Outgoing). x.outstanding) is)) h)

  pub lost_back : AreOfOpen o.sends o.lost.pieces → AreOfOpen (with_table mid.sends (n % 4) (take m (table mid.sends (n % 4)))) mid.lost.pieces
  lost_back h =
      subst (λ (t : Tables SendLane). AreOfOpen t mid.lost.pieces) (sym cut_back) (subst (λ (l : LostPackets). AreOfOpen o.sends l.pieces) (sym (ap (λ (x : Outgoing). x.lost) is)) h)

  pub unsent_back : sent_sum (with_table mid.sends (n % 4) (take m (table mid.sends (n % 4)))) ≡ sent_sum mid.sends
  unsent_back = ap sent_sum cut_back ∙ sym (ap (λ (x : Outgoing). sent_sum x.sends) is ∙ sum_open o.sends n limit buffer b)

  pub out_back : (now : Outgoing) → now ≡ with_sends (with_table mid.sends (n % 4) (take m (table mid.sends (n % 4)))) mid → now ≡ o
  out_back now cut = cut ∙ ap (λ (t : Tables SendLane). with_sends t mid) cut_back ∙ ap (with_sends o.sends) is
