-- Every frame and every call keeps an end within the credit that it granted.
use Rattle.std.proofs.Common.{◌≡◌, ℕ, ◌+◌, ◌%◌, ◌≤◌, true, Option, Some, None, option_map, refl, subst, arith, ◌-◌, Bool, false, ◌&&◌, ◌||◌, List, length, is_some, sym, ap, ◌∙◌, inl, inr, not, take}
use Rattle.std.proofs.lemmas.Bool.{cond_both, and_right}
use Rattle.std.proofs.lemmas.Bool.Decides.{nat_tests}
use Rattle.qs_ranges.proofs.Sets.{end_of-empty}
use Rattle.qs_wire.specs.declared.stream_id.Role.{Role}
use Rattle.qs_recv.specs.Lane.{MAX_WINDOW, RecvLane, new_lane, highest, taken, raise, next_limit, check_stream, check_reset, take_stream, take_reset, is_whole, breaks_final_size, MAX_CONN_WINDOW, after_read, after_answer, read_answer, stop, stop_and_discard, is_over, set_window}
use Rattle.qs_recv.specs.declared.credit.Share.{Share}
use Rattle.qs_recv.specs.Lawful.{IsLawful}
use Rattle.qs_recv.proofs.LawfulLaws.{lawful_new, highest-take_stream, lawful_after_call, grows_after_call}
use Rattle.qs_calls.specs.declared.settings.Settings.{Settings}
use Rattle.qs_calls.specs.Settings.{are_in_wide_range, is_between, MAX_GRANT}
use Rattle.qs_machine.specs.Tables.{Tables, lookup, update, updated, open_to, each, total}
use Rattle.qs_machine.specs.Ends.{Present, first_window_by, is_uni, End, is_own, recv_lane, opens, opened_by_peer, first_window, on_recv}
use Rattle.qs_machine.specs.Standing.{HasLawfulLane, KeepsCredit, IsInCredit, CountsStand}
use Rattle.qs_machine.proofs.TableLaws.{slots_updated, slots_opened, slots_each, total_update, total_open, total_each, lookup_open, open_at}
use Rattle.std.specs.Prelude.{cond, max, nat_le, nat_lt, is_none, Result, Ok, Err, IsOk}
use Rattle.std.proofs.lemmas.Option.{same_Some}
use Rattle.qs_wire.specs.declared.stream_id.Dir.TheVariants.{Uni, Bidi}
use Rattle.qs_recv.specs.Assembled.{Assembled, put, discard}
use Rattle.qs_recv.specs.Laws.{TakeStream, TakeReset, ReadUpTo, StopWith, ForgetWith, SetWindow}
use Rattle.qs_recv.specs.declared.half.Highest.{Highest}
use Rattle.qs_recv.specs.declared.half.RecvFault.{RecvFault}
use Rattle.qs_recv.specs.declared.half.RecvFault.TheVariants.{FinalSize, StreamCredit}
use Rattle.qs_send.specs.declared.piece.Item.{Item}
use Rattle.qs_send.specs.declared.piece.Item.TheVariants.{MaxStreamData, MaxStreams, ResetStream, StopSending, StreamDataBlocked}
use Rattle.qs_machine.specs.Credit.{spent, all_taken, ended, settle}
use Rattle.qs_machine.specs.Seen.{Seen, Ack, Stream, Control}
use Rattle.qs_machine.specs.Verdicts.{verdict, item_verdict, or_else, fault_if, state_fault_in, credit_fault, bytes_fault, lane_of, or_new}
use Rattle.qs_machine.specs.FrameStep.{frame_taken, item_taken, AckedPiece, acks, named}
use Rattle.qs_machine.proofs.Leaves.{acks_leave, frame_leaves, put_leaves}
use Rattle.qs_machine.proofs.EveryCall.{not_chosen, Change, changed, Comes, relates, Wanted, Opened, Stopped, WasRead, WasSet, Took, Acked, Put, Settled, Forgotten, same_either}
use Rattle.qs_recv.specs.declared.half.Read.{Read}
use Rattle.qs_calls.specs.declared.settings.SetFault.{SetFault}
use Rattle.qs_calls.specs.declared.settings.SetFault.TheVariants as setting
use Rattle.qs_machine.specs.Owner.{first_refusal, refuse_if}
use Rattle.qs_machine.specs.Setting.{Setting, ConnWindow, Grant, count_with, is_settable, set_refusal, with_setting, half_fault, StreamWindow, SendBuffer}
use Rattle.qs_machine.specs.EndStep.{Call, Answer, EndStep}
use Rattle.qs_machine.proofs.Counts.{counts_stand}
use Rattle.qs_machine.proofs.Rising.{next_limit_grows, window_grows}

-- Every call keeps an end within the credit that it granted.

-- Settings

pub record WindowsFit (s : Settings) : Type 0 where
  pub local : (1 ≤ s.bidi_local) × (s.bidi_local ≤ MAX_WINDOW)
  pub remote : (1 ≤ s.bidi_remote) × (s.bidi_remote ≤ MAX_WINDOW)
  pub uni : (1 ≤ s.uni) × (s.uni ≤ MAX_WINDOW)

pub windows_fit : (s : Settings) → are_in_wide_range s ≡ true → WindowsFit s
windows_fit s h = grind (arith, nat_tests)

window_fits : (role : Role) (s : Settings) (n : ℕ) → WindowsFit s → (1 ≤ first_window_by role s n) × (first_window_by role s n ≤ MAX_WINDOW)
window_fits role s n h = grind arith

-- streams of one type have one window
window_same : (role : Role) (s : Settings) (n m : ℕ) → m % 4 ≡ n % 4 → first_window_by role s n ≡ first_window_by role s m
window_same role s n m e = rw e refl

-- Changes of a table

module _ (role : Role) (s : Settings) (p : Present) (recvs : Tables RecvLane) (granted : ℕ) (h : KeepsCredit role s p recvs granted) where
  lane_at : (n : ℕ) (l : RecvLane) → lookup recvs n ≡ Some l → IsLawful l × (first_window_by role s n ≤ l.arrived.widest)
  lane_at n l is = subst (HasLawfulLane role s n) is (h.lanes n)

  pub keeps_update : (n : ℕ) (l m : RecvLane) → lookup recvs n ≡ Some l → IsLawful m → l.arrived.widest ≤ m.arrived.widest → taken l ≤ taken m
      → total highest recvs + highest m ≤ granted + highest l → KeepsCredit role s p (update recvs n m) granted
  keeps_update n l m is lawful wider more credit =
      record {
        settings = h.settings;
        present = h.present;
        lanes = slots_updated (HasLawfulLane role s) recvs n l m is (λ j ne. h.lanes j) (lawful, omega (arith, wider, (lane_at n l is).1));
        spent = omega (arith, total_update highest recvs n l m is, credit);
        in_window = omega (arith, total_update taken recvs n l m is, more, h.in_window);
      }

  -- a change of a lane, where the lane is open
  pub keeps_widened : (n : ℕ) (f : RecvLane → RecvLane)
      → ((l : RecvLane) → lookup recvs n ≡ Some l → IsLawful l → IsLawful (f l) × (l.arrived.widest ≤ (f l).arrived.widest) × (taken l ≤ taken (f l)) × (total highest recvs + highest (f l) ≤ granted + highest l))
      → KeepsCredit role s p (updated recvs n f (lookup recvs n)) granted
  keeps_widened n f keeps = go (lookup recvs n) refl
    where
      go : (o : Option RecvLane) → lookup recvs n ≡ o → KeepsCredit role s p (updated recvs n f o) granted
      go None is = h
      go (Some l) is = (let k = keeps l is (lane_at n l is).0 in keeps_update n l (f l) is k.0 k.1 k.2 k.3)

  -- a change that leaves its window as it was
  pub keeps_updated : (n : ℕ) (f : RecvLane → RecvLane)
      → ((l : RecvLane) → lookup recvs n ≡ Some l → IsLawful l → IsLawful (f l) × ((f l).arrived.widest ≡ l.arrived.widest) × (taken l ≤ taken (f l)) × (total highest recvs + highest (f l) ≤ granted + highest l))
      → KeepsCredit role s p (updated recvs n f (lookup recvs n)) granted
  keeps_updated n f keeps =
      keeps_widened n f (λ l is lawful.
      let k = keeps l is lawful in
      let same = k.1 in
      (k.0, omega (arith, same), k.2, k.3))

  pub keeps_open : (n : ℕ) (share : Share) → KeepsCredit role s p (open_to recvs n (λ m. new_lane (first_window_by role s n) share)) granted
  keeps_open n share =
      let w = first_window_by role s n in
      let fits = window_fits role s n (windows_fit s h.settings) in
      record {
        settings = h.settings;
        present = h.present;
        lanes = slots_opened (HasLawfulLane role s) recvs n (λ m. new_lane w share) h.lanes (λ m none kind. (let same = window_same role s n m kind in (lawful_new w share fits.0 fits.1, omega (arith, same))));
        spent = omega (arith, total_open highest recvs n (λ m. new_lane w share) (λ m. end_of-empty), h.spent);
        in_window = omega (arith, total_open taken recvs n (λ m. new_lane w share) (λ m. refl), h.in_window);
      }

  next_limit_within : (l t w v : ℕ) (share : Share) → w ≤ v → l ≤ t + v → next_limit l t w share ≤ t + v
  next_limit_within l t w v share le h = grind (arith, nat_tests)

  raised_lane : (n : ℕ) (o : Option RecvLane) → HasLawfulLane role s n o → HasLawfulLane role s n (option_map raise o)
  raised_lane n o has = grind (arith, nat_tests)

  pub keeps_settle : (share : Share) → KeepsCredit role s p (each raise recvs) (next_limit granted (total taken recvs) p.conn_window share)
  keeps_settle share =
      let limit = next_limit granted (total taken recvs) p.conn_window share in
      record {
        settings = h.settings;
        present = h.present;
        lanes = slots_each (HasLawfulLane role s) raise recvs (λ m. raised_lane m (lookup recvs m) (h.lanes m));
        spent = omega (arith, total_each highest raise recvs (λ l. refl), h.spent, next_limit_grows granted (total taken recvs) p.conn_window share);
        in_window = omega (arith, total_each taken raise recvs (λ l. refl), next_limit_within granted (total taken recvs) p.conn_window p.widest share h.present.widest h.in_window);
      }

-- A frame that has no fault keeps an end within the credit that it granted.

-- Checks that were passed

pub first_passed : (a b : Option ℕ) → or_else a b ≡ None → a ≡ None
first_passed a b e = grind arith

pub second_passed : (a b : Option ℕ) → or_else a b ≡ None → b ≡ None
second_passed a b e = grind arith

pub no_fault : (b : Bool) (code : ℕ) → fault_if b code ≡ None → b ≡ false
no_fault b code e = grind arith

is_open : (o : Option RecvLane) (w : ℕ) (share : Share) → is_none o ≡ false → o ≡ Some (or_new o w share)
is_open o w share e = grind arith

-- the check of a lane that was passed, and what it says
credit_passed : (e : End) (r : Result Highest RecvFault) → credit_fault e r ≡ None → (h : Highest) × (r ≡ Ok h) × (spent e + (h.after - h.before) ≤ e.granted)
credit_passed e r p = grind arith

two_checks : (b c : Bool) (f g : RecvFault) (x h : Highest) → cond b (Err f) (cond c (Err g) (Ok x)) ≡ Ok h → (x ≡ h) × IsOk (cond b (Err f) (cond c (Err g) (Ok x)))
two_checks b c f g x h e = grind arith

-- Opening

pub sound_opens : (n : ℕ) (e : End) → IsInCredit e → IsInCredit (opens n e)
sound_opens n e h =
    cond_both (is_uni n && is_own e n) e.recvs (open_to e.recvs n (λ m. new_lane (first_window e n) e.tuning.credit_step)) (λ t. KeepsCredit e.role e.settings e.present t e.granted)
    (λ _. h) (λ _. keeps_open e.role e.settings e.present e.recvs e.granted h n e.tuning.credit_step)

pub sound_opened : (n : ℕ) (e : End) → IsInCredit e → IsInCredit (opened_by_peer n e)
sound_opened n e h = cond_both (is_own e n) e (opens n e) IsInCredit (λ _. h) (λ _. sound_opens n e h)

spent_opens : (n : ℕ) (e : End) → spent (opens n e) ≡ spent e
spent_opens n e = grind (arith, nat_tests, cond_both, total_open, end_of-empty)

-- a lane that was opened is there as it was, or as it begins
begun : (t : Tables RecvLane) (n w : ℕ) (share : Share) → lookup (open_to t n (λ m. new_lane w share)) n ≡ Some (or_new (lookup t n) w share)
begun t n w share =
    elim (lookup_open t n n (λ m. new_lane w share)) [
      | inl same ↦ same ∙ there (lookup t n) (sym (ap is_some same) ∙ open_at t n (λ m. new_lane w share))
      | inr new ↦ new.3 ∙ ap (λ o. Some (or_new o w share)) (sym new.0)
    ]
  where
    there : (o : Option RecvLane) → is_some o ≡ true → o ≡ Some (or_new o w share)
    there o none = grind arith

opens_lane : (n : ℕ) (e : End) → is_own e n ≡ false → recv_lane (opens n e) n ≡ Some (lane_of e n)
opens_lane n e other =
    ap (λ t. lookup t n) (not_chosen (is_uni n && is_own e n) e.recvs (open_to e.recvs n (λ m. new_lane (first_window e n) e.tuning.credit_step)) (and_right (is_uni n) (is_own e n) other))
    ∙ begun e.recvs n (first_window e n) e.tuning.credit_step

-- the lane that a frame which passed the first checks changes
pub opened_lane : (n : ℕ) (e : End) → state_fault_in e n ≡ None → recv_lane (opened_by_peer n e) n ≡ Some (lane_of e n)
opened_lane n e passed = grind (arith, nat_tests, is_open, no_fault, opens_lane)

-- Frames with data and resets

-- a change of the lane that a frame names, by a call that passed its check
on_named : (n : ℕ) (e : End) (f : RecvLane → RecvLane) (h : Highest) → IsInCredit e → state_fault_in e n ≡ None
    → (IsLawful (lane_of e n) → IsLawful (f (lane_of e n)) × (taken (lane_of e n) ≤ taken (f (lane_of e n))) × (highest (lane_of e n) ≤ highest (f (lane_of e n))))
    → (f (lane_of e n)).arrived.widest ≡ (lane_of e n).arrived.widest
    → (IsLawful (lane_of e n) → (h.before ≡ highest (lane_of e n)) × (highest (f (lane_of e n)) ≤ max h.before h.after))
    → spent e + (h.after - h.before) ≤ e.granted
    → KeepsCredit (opened_by_peer n e).role (opened_by_peer n e).settings (opened_by_peer n e).present (updated (opened_by_peer n e).recvs n f (recv_lane (opened_by_peer n e) n)) (opened_by_peer n e).granted
on_named n e f h sound passed keeps same counts credit =
    let open_end = opened_by_peer n e in
    let there = opened_lane n e passed in
    keeps_updated open_end.role open_end.settings open_end.present open_end.recvs open_end.granted (sound_opened n e sound) n f (λ l is lawful.
    let this : lane_of e n ≡ l = same_Some (lane_of e n) l (sym there ∙ is) in
    let at_lane : IsLawful (lane_of e n) = subst IsLawful (sym this) lawful in
    let k = keeps at_lane in
    let c = counts at_lane in
    let growth : spent open_end + highest (f (lane_of e n)) ≤ open_end.granted + highest (lane_of e n) =
    omega (arith, (cond_both (is_own e n) e (opens n e) (λ x. spent x ≡ spent e) (λ _. refl) (λ _. spent_opens n e)), (cond_both (is_own e n) e (opens n e) (λ x. x.granted ≡ e.granted) (λ _. refl) (λ _. refl)), credit, c.0, c.1, k.2) in
    subst (λ x. IsLawful (f x) × ((f x).arrived.widest ≡ x.arrived.widest) × (taken x ≤ taken (f x)) × (spent open_end + highest (f x) ≤ open_end.granted + highest x)) this (k.0, same, k.1, growth))

sound_stream : (n offset : ℕ) (bytes : List ℕ) (fin : Bool) (e : End) → verdict e (Stream n offset bytes fin) ≡ None → IsInCredit e → IsInCredit (frame_taken (Stream n offset bytes fin) e)
unfolding verdict frame_taken
sound_stream n offset bytes fin e v sound =
    let lane = lane_of e n in
    let check = check_stream lane offset (length bytes) fin in
    let later = or_else (credit_fault e check) (bytes_fault e n offset bytes) in
    let passed : state_fault_in e n ≡ None = first_passed (state_fault_in e n) later v in
    let (h, ok, credit) = credit_passed e check (first_passed (credit_fault e check) (bytes_fault e n offset bytes) (second_passed (state_fault_in e n) later v)) in
    let (same, allowed) = two_checks (breaks_final_size lane offset (length bytes) fin) (nat_lt lane.limit (max (highest lane) (offset + length bytes))) FinalSize StreamCredit _ h ok in
    on_named n e (λ l. take_stream l offset bytes fin) h sound passed
    (λ lawful.
    let g = grows_after_call lane (TakeStream offset bytes fin) lawful allowed in
    (lawful_after_call lane (TakeStream offset bytes fin) lawful allowed, g.taken_grows, g.highest_grows))
    (same_either (λ (a : Assembled). a.widest) (is_some lane.reset_code) lane.arrived (put lane.arrived offset bytes) refl)
    (λ lawful.
    let after : highest (take_stream lane offset bytes fin) ≡ h.after = highest-take_stream lane offset bytes fin lawful ∙ ap (λ (x : Highest). x.after) same in
    let most : highest (take_stream lane offset bytes fin) ≤ max h.before h.after = omega (arith, after) in
    (sym (ap (λ (x : Highest). x.before) same), most))
    credit

sound_reset : (n code size : ℕ) (e : End) → item_verdict e (ResetStream n code size) ≡ None → IsInCredit e → IsInCredit (item_taken (ResetStream n code size) e)
sound_reset n code size e v sound =
    let lane = lane_of e n in
    let check = check_reset lane size in
    let passed : state_fault_in e n ≡ None = first_passed (state_fault_in e n) (credit_fault e check) v in
    let (h, ok, credit) = credit_passed e check (second_passed (state_fault_in e n) (credit_fault e check) v) in
    let (same, allowed) = two_checks (breaks_final_size lane size 0 true) (nat_lt lane.limit size) FinalSize StreamCredit _ h ok in
    on_named n e (λ l. take_reset l code size) h sound passed
    (λ lawful.
    let g = grows_after_call lane (TakeReset code size) lawful allowed in
    (lawful_after_call lane (TakeReset code size) lawful allowed, g.taken_grows, g.highest_grows))
    (cond_both (is_some lane.reset_code || is_whole lane) lane _ (λ l. l.arrived.widest ≡ lane.arrived.widest) (λ _. refl) (λ _. refl))
    (λ lawful.
    let before : highest lane ≡ h.before = ap (λ (x : Highest). x.before) same in
    let after : size ≡ h.after = ap (λ (x : Highest). x.after) same in
    (sym before, cond_both (is_some lane.reset_code || is_whole lane) lane _ (λ l. highest l ≤ max h.before h.after) (λ _. omega arith) (λ _. omega arith)))
    credit

-- Acknowledgements

pub sound_acks : (ps : List AckedPiece) (e : End) → IsInCredit e → IsInCredit (acks ps e)
sound_acks ps e h = subst IsInCredit (sym (acks_leave ps e)) h

-- Frames

sound_item : (i : Item) (e : End) → item_verdict e i ≡ None → IsInCredit e → IsInCredit (item_taken i e)
sound_item (MaxStreamData n m) e v h = sound_opened n e h
sound_item (MaxStreams Uni m) e v h = h
sound_item (ResetStream n code size) e v h = sound_reset n code size e v h
sound_item (StopSending n code) e v h = sound_opened n e h
sound_item (StreamDataBlocked n m) e v h = sound_opened n e h
sound_item i e v h = h

pub sound_frame : (f : Seen) (e : End) → verdict e f ≡ None → IsInCredit e → IsInCredit (frame_taken f e)
unfolding verdict frame_taken
sound_frame (Ack largest ranges) e v h = sound_acks (named e ranges) e h
sound_frame (Stream n offset bytes fin) e v h = sound_stream n offset bytes fin e v h
sound_frame (Control i) e v h = sound_item i e v h
sound_frame f e v h = h

-- Every call keeps an end within the credit that it granted.

pub sound_settle : (e : End) → IsInCredit e → IsInCredit (settle e)
sound_settle e h = keeps_settle e.role e.settings e.present e.recvs e.granted h e.tuning.credit_step

read_window : (answer : Read) (l : RecvLane) (size : ℕ) → (after_answer answer l size).arrived.widest ≡ l.arrived.widest
read_window answer l size = grind arith

read_highest : (answer : Read) (l : RecvLane) (size : ℕ) → highest (after_answer answer l size) ≡ highest l
read_highest answer l size = grind arith

pub sound_read : (n size : ℕ) (e : End) → IsInCredit e → IsInCredit (on_recv n (λ l. after_read l size) e)
sound_read n size e h =
    keeps_updated e.role e.settings e.present e.recvs e.granted h n (λ l. after_read l size) (λ l is lawful.
    let g = grows_after_call l (ReadUpTo size) lawful tt in
    (lawful_after_call l (ReadUpTo size) lawful tt, read_window (read_answer l size) l size, g.taken_grows, omega (arith, read_highest (read_answer l size) l size, h.spent)))

pub sound_stop : (n code : ℕ) (e : End) → IsInCredit e → IsInCredit (on_recv n (λ l. stop l code) e)
sound_stop n code e h =
    let stopped : RecvLane → RecvLane = λ l. record l { arrived = discard l.arrived; stop_code = Some code } in
    keeps_updated e.role e.settings e.present e.recvs e.granted h n (λ l. stop l code) (λ l is lawful.
    let g = grows_after_call l (StopWith code) lawful tt in
    (lawful_after_call l (StopWith code) lawful tt, same_either (λ (m : RecvLane). m.arrived.widest) (is_some l.stop_code || is_over l) l (stopped l) refl, g.taken_grows, omega (arith, same_either highest (is_some l.stop_code || is_over l) l (stopped l) refl, h.spent)))

-- a setting that isn't refused lies in its range
settable : (closed b : Bool) (f g : SetFault) (o : Option SetFault) → first_refusal (refuse_if closed f) (first_refusal (refuse_if (not b) g) o) ≡ None → b ≡ true
settable closed b f g o h = grind arith

-- another window of a stream
pub sound_window : (n w : ℕ) (e : End) → 1 ≤ w → w ≤ MAX_WINDOW → IsInCredit e → IsInCredit (on_recv n (λ l. set_window l w) e)
sound_window n w e some small h =
    keeps_widened e.role e.settings e.present e.recvs e.granted h n (λ l. set_window l w)
    (λ l is lawful. (lawful_after_call l (SetWindow w) lawful (some, small), omega arith, omega arith, omega (arith, h.spent)))

pub sound_set : (x : Setting) (e : End) → set_refusal e x ≡ None → IsInCredit e → IsInCredit (with_setting x e)
sound_set (ConnWindow w) e allowed h =
    let fits : is_between 1 MAX_CONN_WINDOW w ≡ true = settable (is_some e.closed) (is_settable (ConnWindow w)) setting.Closed setting.OutOfRange None allowed in
    let some : 1 ≤ w = grind (arith, nat_tests, fits) in
    let small : w ≤ MAX_CONN_WINDOW = grind (arith, nat_tests, fits) in
    record {
      settings = h.settings;
      present = record { some = some; widest = omega arith; small = omega (arith, small, h.present.small); bidi = h.present.bidi; uni = h.present.uni };
      lanes = h.lanes;
      spent = omega (arith, h.spent, window_grows e.present.conn_window e.granted (all_taken e) w);
      in_window = grind (arith, nat_tests, h.in_window);
    }
sound_set (Grant Bidi n) e allowed h =
    let fits : nat_le n MAX_GRANT ≡ true = settable (is_some e.closed) (is_settable (Grant Bidi n)) setting.Closed setting.OutOfRange None allowed in
    let few : n ≤ MAX_GRANT = grind (arith, nat_tests, fits) in
    record { settings = h.settings; present = record { some = h.present.some; widest = h.present.widest; small = h.present.small; bidi = few; uni = h.present.uni }; lanes = h.lanes; spent = h.spent; in_window = h.in_window }
sound_set (Grant Uni n) e allowed h =
    let fits : nat_le n MAX_GRANT ≡ true = settable (is_some e.closed) (is_settable (Grant Uni n)) setting.Closed setting.OutOfRange None allowed in
    let few : n ≤ MAX_GRANT = grind (arith, nat_tests, fits) in
    record { settings = h.settings; present = record { some = h.present.some; widest = h.present.widest; small = h.present.small; bidi = h.present.bidi; uni = few }; lanes = h.lanes; spent = h.spent; in_window = h.in_window }
sound_set (SendBuffer n size) e allowed h = h
sound_set (StreamWindow n w) e allowed h =
    let fits : is_between 1 MAX_WINDOW w ≡ true = settable (is_some e.closed) (is_settable (StreamWindow n w)) setting.Closed setting.OutOfRange (half_fault e (StreamWindow n w)) allowed in
    let some : 1 ≤ w = grind (arith, nat_tests, fits) in
    let small : w ≤ MAX_WINDOW = grind (arith, nat_tests, fits) in
    sound_window n w e some small h

pub sound_forget : (n code : ℕ) (e : End) → IsInCredit e → IsInCredit (on_recv n (λ l. stop_and_discard l code) e)
sound_forget n code e h =
    let stopped : RecvLane → RecvLane = λ l. record l { arrived = discard l.arrived; stop_code = Some code } in
    keeps_updated e.role e.settings e.present e.recvs e.granted h n (λ l. stop_and_discard l code) (λ l is lawful.
    let g = grows_after_call l (ForgetWith code) lawful tt in
    (lawful_after_call l (ForgetWith code) lawful tt, same_either (λ (m : RecvLane). m.arrived.widest) (is_some l.stop_code || is_over l) l (stopped l) refl, g.taken_grows, omega (arith, same_either highest (is_some l.stop_code || is_over l) l (stopped l) refl, h.spent)))

pub sound_change : (old : End) (call : Call) (c : Change) (e : End) → Comes old call e c → IsInCredit e → IsInCredit (changed c e)
sound_change old call (Wanted Uni count) e comes h = h
sound_change old call (Opened n) e comes h = sound_opens n e h
sound_change old call (Stopped n code) e comes h = sound_stop n code e h
sound_change old call (Forgotten n code) e comes h = sound_forget n code e h
sound_change old call (WasRead n size) e comes h = sound_read n size e h
sound_change old call (WasSet x) e comes h = sound_set x e comes.0 h
sound_change old call (Took f) e comes h = sound_frame f e comes.0 h
sound_change old call (Acked count ranges) e comes h = sound_acks (take count (named e ranges)) e h
sound_change old call (Put f) e comes h = subst IsInCredit (sym (put_leaves f e)) h
sound_change old call Settled e comes h = sound_settle e h
sound_change old call c e comes h = h

pub sound_call : (old : End) (call : Call) (answer : Answer call) (new : End) → IsInCredit old → EndStep old call answer new → IsInCredit new
sound_call old call answer new h step = relates (λ a b. IsInCredit a → IsInCredit b) (λ e is. is) (λ a b c x y is. y (x is)) old call (sound_change old call) answer new step h

-- and no count of streams above its lifetime's

-- the count that a grant moves is no lower, and within its lifetime's
pub grant_grows : (present g all ended n : ℕ) → g ≤ count_with present g all ended n
grant_grows present g all ended n = grind (arith, nat_tests)

pub grant_within : (present g all ended n : ℕ) → g ≤ all → count_with present g all ended n ≤ all
grant_within present g all ended n h = grind (arith, nat_tests, h)

stand_set : (x : Setting) (e : End) → CountsStand e → CountsStand (with_setting x e)
stand_set x e h = grind arith

stand_change : (old : End) (call : Call) (c : Change) (e : End) → Comes old call e c → CountsStand e → CountsStand (changed c e)
stand_change old call c e comes h = grind (arith, nat_tests, stand_set, frame_leaves, acks_leave, put_leaves, counts_stand)

pub stand_call : (old : End) (call : Call) (answer : Answer call) (new : End) → CountsStand old → EndStep old call answer new → CountsStand new
stand_call old call answer new h step = relates (λ a b. CountsStand a → CountsStand b) (λ e is. is) (λ a b c x y is. y (x is)) old call (stand_change old call) answer new step h
