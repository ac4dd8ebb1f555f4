-- In every run both halves of a bidirectional stream of the peer are open or neither, and a half that a STOP_SENDING came for is reset, unless
-- its owner answers it.
use Rattle.std.proofs.lemmas.Bool.Decides.{nat_tests}
use Rattle.std.proofs.Common.{arith}
use Rattle.std.proofs.Common.{◌≡◌, ℕ, ◌%◌, ◌/◌, true, false, not, ◌&&◌, List, [], ◌∷◌, ◌⊎◌, take, option_map, Option, Some, None, is_some, refl, sym, ap, ◌∙◌, subst, inl, inr}
use Rattle.std.specs.Prelude.{⊤}
use Rattle.std.proofs.lemmas.Bool.{cases_eq, cond_both, false≢true}
use Rattle.std.proofs.lemmas.Option.{slice_get-map}
use Rattle.qs_wire.specs.declared.stream_id.Dir.TheVariants.{Uni}
use Rattle.qs_recv.specs.Lane.{RecvLane, after_read, stop, stop_and_discard, raise, set_window}
use Rattle.qs_send.specs.Lane.{SendLane, reset_refusal, broken_off, first_code, stop_taken, allow_lane, write_lane, finish_lane, reset_lane, buffer_lane, new_lane as new_send_lane}
use Rattle.qs_send.specs.declared.piece.Item.TheVariants.{MaxData}
use Rattle.qs_send.specs.declared.piece.Piece.{Piece}
use Rattle.qs_send.specs.declared.piece.Piece.TheVariants.{Told}
use Rattle.qs_calls.specs.declared.settings.Settings.{Settings}
use Rattle.qs_calls.specs.declared.settings.Tuning.{Tuning}
use Rattle.qs_calls.specs.declared.settings.PeerLimits.{PeerLimits}
use Rattle.qs_calls.specs.declared.event.Side.{Side}
use Rattle.qs_calls.specs.declared.event.Side.TheVariants.{A}
use Rattle.qs_machine.specs.Tables.{Tables, table, lookup, updated, open_to, no_streams}
use Rattle.qs_machine.specs.Ends.{End, is_own, is_own_by, is_uni, on_recv, opens, opened_by_peer, first_send_limit}
use Rattle.qs_machine.specs.Raising.{knows_limits, type_allowed, limits_raised}
use Rattle.qs_machine.specs.Seen.{Seen}
use Rattle.qs_machine.specs.FrameStep.{AckedPiece, frame_taken, acks, first_acked, piece_acked, without_piece, named}
use Rattle.qs_machine.specs.Lawful.{frame_put}
use Rattle.qs_machine.specs.Setting.{Grant, SendBuffer, StreamWindow}
use Rattle.qs_machine.specs.EndStep.{Call, Answer as CallAnswer, EndStep}
use Rattle.qs_machine.proofs.EveryCall.{Change, changed, Comes, relates, Wanted, Opened, Written, Finished, WasReset, Stopped, Forgotten, WasRead, Raised, WasSet, Took, Acked, Put, Settled}
use Rattle.qs_machine.proofs.TableLaws.{slots_updated, slots_opened, lookup_other, lookup_open, lookup_each, open_at, open_lower, with_same, with_other, lookup_in}
use Rattle.qs_machine.proofs.TablesAfter.{kept_updated, kept_open, still_open}
use Rattle.qs_machine.proofs.EachHalf.{kept_raised}
use Rattle.qs_machine.proofs.Leaves.{acks_leave, put_leaves, frame_leaves}
use Rattle.qs_machine.proofs.Ties.{nowhere}
use Rattle.qs_runs.specs.Logs.{History}
use Rattle.qs_runs.specs.Worlds.{World, end_of, Run}
use Rattle.qs_runs.proofs.Histories.{two_sides}
use Rattle.qs_runs.proofs.NewEnds.{first_world, made_first}
use Rattle.qs_runs.proofs.Stays.{each_side}
use Rattle.qs_progress.proofs.Outstanding.{AcksStay, in_acks, in_frame, in_put}

abbrev pub Paired : End → Type 0
Paired e = (n : ℕ) → is_own e n ≡ false → is_uni n ≡ false → is_some (lookup e.recvs n) ≡ true → is_some (lookup e.sends n) ≡ true

abbrev pub StopsReset : End → Type 0
StopsReset e = e.tuning.answers_stops ≡ false → (n : ℕ) (l : SendLane) → lookup e.sends n ≡ Some l → is_some l.stopped ≡ true → is_some l.was_reset ≡ true

-- Halves that are reset

abbrev IsReset : SendLane → Type 0
IsReset l = is_some l.stopped ≡ true → is_some l.was_reset ≡ true

abbrev ResetSlot : Option SendLane → Type 0
ResetSlot None = ⊤
ResetSlot (Some l) = IsReset l

abbrev AllReset : Tables SendLane → Type 0
AllReset t = (n : ℕ) → ResetSlot (lookup t n)

reset_updated : (t : Tables SendLane) (n : ℕ) (f : SendLane → SendLane) → ((l : SendLane) → IsReset l → IsReset (f l)) → AllReset t → AllReset (updated t n f (lookup t n))
reset_updated t n f keeps all = go (lookup t n) refl
  where
    go : (o : Option SendLane) → lookup t n ≡ o → AllReset (updated t n f o)
    go None is = all
    go (Some l) is = slots_updated (λ m o. ResetSlot o) t n l (f l) is (λ m other. all m) (keeps l (subst ResetSlot is (all n)))

reset_opens : (n : ℕ) (e : End) → AllReset e.sends → AllReset (opens n e).sends
reset_opens n e all =
    cond_both (is_uni n && not (is_own e n)) e.sends (open_to e.sends n (λ m. new_send_lane m (first_send_limit e n) e.settings.send_buffer)) AllReset (λ _. all)
    (λ _. slots_opened (λ m o. ResetSlot o) e.sends n (λ m. new_send_lane m (first_send_limit e n) e.settings.send_buffer) all (λ m none kind told. absurd (false≢true told)))

reset_opened : (n : ℕ) (e : End) → AllReset e.sends → AllReset (opened_by_peer n e).sends
reset_opened n e all = cond_both (is_own e n) e (opens n e) (λ x. AllReset x.sends) (λ _. all) (λ _. reset_opens n e all)

reset_allowed : (t : Tables SendLane) (k limit : ℕ) → AllReset t → AllReset (type_allowed (k % 4) limit t)
reset_allowed t k limit all m =
    elim (cases_eq (m % 4) (k % 4)) [
      | inl e ↦ subst ResetSlot (sym (with_same t k m _ e ∙ slice_get-map (λ (x : SendLane). allow_lane x limit) (table t (k % 4)) (m / 4) ∙ ap (option_map (λ (x : SendLane). allow_lane x limit)) (sym (lookup_in t k m e)))) (mapped (lookup t m) (all m))
      | inr ne ↦ subst ResetSlot (sym (with_other t k m _ ne)) (all m)
    ]
  where
    mapped : (o : Option SendLane) → ResetSlot o → ResetSlot (option_map (λ (x : SendLane). allow_lane x limit) o)
    mapped None h = tt
    mapped (Some l) h = h

reset_raised : (p : PeerLimits) (e : End) → AllReset e.sends → AllReset (limits_raised p e).sends
reset_raised p e all =
    let f = knows_limits p e in
    reset_allowed _ 3 (first_send_limit f 3) (reset_allowed _ 2 (first_send_limit f 2) (reset_allowed _ 1 (first_send_limit f 1) (reset_allowed e.sends 0 (first_send_limit f 0) all)))

lane_resets : (code : ℕ) (l : SendLane) → IsReset l → IsReset (reset_lane l code)
lane_resets code l h = cond_both (is_some (reset_refusal l)) l (broken_off l code) IsReset (λ _. h) (λ _ told. refl)

lane_stops : (code : ℕ) (l : SendLane) → IsReset l → IsReset (stop_taken false l code)
lane_stops code l h = cond_both (is_some (reset_refusal l)) l (record (broken_off l code) { stopped = first_code l.stopped code }) IsReset (λ _. h) (λ _ told. refl)

reset_piece : (p : Piece) (e : End) → AllReset e.sends → AllReset (piece_acked p e).sends
reset_piece p e all = grind (arith, nat_tests, reset_updated)

reset_acks : (ps : List AckedPiece) (e : End) → AllReset e.sends → AllReset (acks ps e).sends
unfolding acks
reset_acks [] e all = all
reset_acks (a ∷ ps) e all = reset_acks ps (first_acked a e) (reset_piece a.piece (without_piece a.late a.number e) all)

reset_frame : (f : Seen) (e : End) → e.tuning.answers_stops ≡ false → AllReset e.sends → AllReset (frame_taken f e).sends
unfolding frame_taken
reset_frame f e off all = grind (arith, nat_tests, reset_acks, reset_opened, reset_updated, lane_stops)

reset_put : (f : Seen) (e : End) → AllReset e.sends → AllReset (frame_put f e).sends
unfolding frame_put
reset_put f e all = grind (arith, nat_tests, reset_updated)

abbrev Resets : End → End → Type 0
Resets a b = (b.tuning ≡ a.tuning) × (a.tuning.answers_stops ≡ false → AllReset a.sends → AllReset b.sends)

resets_twice : (a b c : End) → Resets a b → Resets b c → Resets a c
resets_twice a b c x y = (y.0 ∙ x.0, λ off all. y.1 (ap (λ (t : Tuning). t.answers_stops) x.0 ∙ off) (x.1 off all))

resets_change : (old : End) (call : Call) (c : Change) (e : End) → Comes old call e c → Resets e (changed c e)
resets_change old call c e comes = grind (arith, nat_tests, reset_opens, reset_updated, lane_resets, reset_raised, frame_leaves, reset_frame, acks_leave, reset_acks, put_leaves, reset_put)

resets_call : (old : End) (call : Call) (answer : CallAnswer call) (new : End) → EndStep old call answer new → Resets old new
resets_call old call answer new step = relates Resets (λ e. (refl, λ off all. all)) resets_twice old call (resets_change old call) answer new step

all_reset : (a b : Settings) (h : History) (w : World) → Run a b h w → (s : Side) → (end_of w s).tuning.answers_stops ≡ false → AllReset (end_of w s).sends
all_reset a b [] w begins s off =
    (subst (λ x. (end_of x s).tuning.answers_stops ≡ false → AllReset (end_of x s).sends) (sym (made_first a b begins.tuned_a begins.tuned_b begins.of_a begins.of_b w begins.begun))
    (two_sides (λ t. (end_of (first_world a b begins.tuned_a begins.tuned_b begins.of_a begins.of_b) t).tuning.answers_stops ≡ false → AllReset (end_of (first_world a b begins.tuned_a begins.tuned_b begins.of_a begins.of_b) t).sends) A (λ off n. subst ResetSlot (sym (nowhere n)) tt) (λ off n. subst ResetSlot (sym (nowhere n)) tt) s)) off
all_reset a b (x ∷ h) w (v, run, step) s off =
    let kept = each_side Resets (λ e. (refl, λ off all. all)) v w (λ t call answer made. resets_call (end_of v t) call answer (end_of w t) made) h x step s in
    let was : (end_of v s).tuning.answers_stops ≡ false = ap (λ (t : Tuning). t.answers_stops) (sym kept.0) ∙ off in
    kept.1 was (all_reset a b h v run s was)

pub runs_reset : (a b : Settings) (h : History) (w : World) → Run a b h w → (s : Side) → StopsReset (end_of w s)
runs_reset a b h w run s off n l is = subst ResetSlot is (all_reset a b h w run s off n)

-- Halves that are open

abbrev open_in : {X : Type 0} → Tables X → ℕ → Type 0
open_in t n = is_some (lookup t n) ≡ true

abbrev Any : SendLane → SendLane → Type 0
Any l m = ⊤

open_edited : (t : Tables SendLane) (n : ℕ) (f : SendLane → SendLane) (m : ℕ) → open_in t m → open_in (updated t n f (lookup t n)) m
open_edited t n f m is = still_open Any t (updated t n f (lookup t n)) m (kept_updated Any (λ l. tt) t n f (λ l at. tt)) is

was_edited : (t : Tables RecvLane) (n : ℕ) (f : RecvLane → RecvLane) (m : ℕ) → open_in (updated t n f (lookup t n)) m → open_in t m
was_edited t n f m = go (lookup t n) refl
  where
    go : (o : Option RecvLane) → lookup t n ≡ o → open_in (updated t n f o) m → open_in t m
    go o is h = grind (arith, nat_tests, cases_eq, lookup_other)

-- a receiving half of the peer's bidirectional stream that is open was so, or the sending half is open too
abbrev Opens : End → End → Type 0
Opens e f = (b : ℕ) → is_own e b ≡ false → is_uni b ≡ false → open_in f.recvs b → open_in e.recvs b ⊎ open_in f.sends b

opens_both : (n : ℕ) (e : End) → Opens e (opens n e)
opens_both n e m foreign bidi = grind (arith, nat_tests, cond_both, lookup_open, not, open_lower, open_at)

peer_opens : (n : ℕ) (e : End) → Opens e (opened_by_peer n e)
peer_opens n e = cond_both (is_own e n) e (opens n e) (Opens e) (λ _ m foreign bidi h. inl h) (λ _. opens_both n e)

frame_opens : (f : Seen) (e : End) → Opens e (frame_taken f e)
unfolding frame_taken
frame_opens f e m foreign bidi h = grind (arith, nat_tests, acks_leave, peer_opens, was_edited, open_edited)

abbrev Pairs : End → End → Type 0
Pairs e f = (f.role ≡ e.role) × ((m : ℕ) → open_in e.sends m → open_in f.sends m) × Opens e f

pairs_twice : (a b c : End) → Pairs a b → Pairs b c → Pairs a c
pairs_twice a b c x y = grind (arith, nat_tests)

-- tables of which no receiving half opened
pairs_sends : (e f : End) → f.role ≡ e.role → f.recvs ≡ e.recvs → ((m : ℕ) → open_in e.sends m → open_in f.sends m) → Pairs e f
pairs_sends e f role recvs stay = (role, stay, λ m foreign bidi h. inl (subst (λ t. open_in t m) recvs h))

pairs_recv : (n : ℕ) (f : RecvLane → RecvLane) (e : End) → Pairs e (on_recv n f e)
pairs_recv n f e = (refl, (λ m h. h), λ m foreign bidi h. inl (was_edited e.recvs n f m h))

pairs_change : (old : End) (call : Call) (c : Change) (e : End) → Comes old call e c → Pairs e (changed c e)
pairs_change old call (Wanted Uni count) e comes = pairs_sends e (changed (Wanted Uni count) e) refl refl (λ m h. h)
pairs_change old call (Opened n) e comes = (
  refl,
  (λ m h. cond_both (is_uni n && not (is_own e n)) e.sends (open_to e.sends n (λ j. new_send_lane j (first_send_limit e n) e.settings.send_buffer)) (λ t. open_in t m) (λ _. h)
      (λ _. still_open Any e.sends _ m (kept_open Any (λ l. tt) e.sends n (λ j. new_send_lane j (first_send_limit e n) e.settings.send_buffer)) h)),
  opens_both n e,
)
pairs_change old call (Written n bytes l) e comes = pairs_sends e (changed (Written n bytes l) e) refl refl (open_edited e.sends n (λ m. write_lane m bytes))
pairs_change old call (Finished n) e comes = pairs_sends e (changed (Finished n) e) refl refl (open_edited e.sends n finish_lane)
pairs_change old call (WasReset n code) e comes = pairs_sends e (changed (WasReset n code) e) refl refl (open_edited e.sends n (λ m. reset_lane m code))
pairs_change old call (Stopped n code) e comes = pairs_recv n (λ m. stop m code) e
pairs_change old call (Forgotten n code) e comes = pairs_recv n (λ m. stop_and_discard m code) e
pairs_change old call (WasRead n size) e comes = pairs_recv n (λ m. after_read m size) e
pairs_change old call (Raised p) e comes = pairs_sends e (changed (Raised p) e) refl refl (λ m h. still_open Any e.sends (limits_raised p e).sends m (kept_raised Any (λ l. tt) (λ l m k x y. tt) (λ limit l. tt) p e) h)
pairs_change old call (WasSet (SendBuffer n size)) e comes = pairs_sends e (changed (WasSet (SendBuffer n size)) e) refl refl (open_edited e.sends n (λ m. buffer_lane m size))
pairs_change old call (WasSet (Grant Uni n)) e comes = pairs_sends e (changed (WasSet (Grant Uni n)) e) refl refl (λ m h. h)
pairs_change old call (WasSet (StreamWindow n w)) e comes = pairs_recv n (λ l. set_window l w) e
pairs_change old call (Took f) e comes = (ap (λ (x : End). x.role) (frame_leaves f e), (λ m h. still_open AcksStay e.sends (frame_taken f e).sends m (in_frame f e) h), frame_opens f e)
pairs_change old call (Acked count ranges) e comes =
    let ps = take count (named e ranges) in
    pairs_sends e (acks ps e) (ap (λ (x : End). x.role) (acks_leave ps e)) (ap (λ (x : End). x.recvs) (acks_leave ps e)) (λ m h. still_open AcksStay e.sends (acks ps e).sends m (in_acks ps e) h)
pairs_change old call (Put f) e comes =
    pairs_sends e (frame_put f e) (ap (λ (x : End). x.role) (put_leaves f e)) (ap (λ (x : End). x.recvs) (put_leaves f e)) (λ m h. still_open AcksStay e.sends (frame_put f e).sends m (in_put 0 (Told (MaxData 0)) f e) h)
pairs_change old call Settled e comes = (refl, (λ m h. h), λ m foreign bidi h. inl (mapped (lookup e.recvs m) (ap is_some (sym (lookup_each raise e.recvs m)) ∙ h)))
  where
    mapped : (o : Option RecvLane) → is_some (option_map raise o) ≡ true → is_some o ≡ true
    mapped o h = grind (arith, nat_tests)
pairs_change old call c e comes = pairs_sends e (changed c e) refl refl (λ m h. h)

pairs_call : (old : End) (call : Call) (answer : CallAnswer call) (new : End) → EndStep old call answer new → Pairs old new
pairs_call old call answer new step = relates Pairs (λ e. pairs_sends e e refl refl (λ m h. h)) pairs_twice old call (pairs_change old call) answer new step

none_open : (n : ℕ) → is_some (lookup (no_streams {X = RecvLane}) n) ≡ true → ⊥
none_open n h = false≢true (ap is_some (sym (nowhere {X = RecvLane} n)) ∙ h)

pub runs_pair : (a b : Settings) (h : History) (w : World) → Run a b h w → (s : Side) → Paired (end_of w s)
runs_pair a b [] w begins s n foreign bidi now =
    subst (λ x. Paired (end_of x s)) (sym (made_first a b begins.tuned_a begins.tuned_b begins.of_a begins.of_b w begins.begun))
    (two_sides (λ t. Paired (end_of (first_world a b begins.tuned_a begins.tuned_b begins.of_a begins.of_b) t)) A (λ j far two h. absurd (none_open j h)) (λ j far two h. absurd (none_open j h)) s)
    n foreign bidi now
runs_pair a b (x ∷ h) w (v, run, step) s n foreign bidi now =
    let kept = each_side Pairs (λ e. pairs_sends e e refl refl (λ m h. h)) v w (λ t call answer made. pairs_call (end_of v t) call answer (end_of w t) made) h x step s in
    let was : is_own (end_of v s) n ≡ false = ap (λ r. is_own_by r n) (sym kept.0) ∙ foreign in
    elim (kept.2 n was bidi now) [ inl before ↦ kept.1 n (runs_pair a b h v run s n was bidi before) | inr open_now ↦ open_now ]
