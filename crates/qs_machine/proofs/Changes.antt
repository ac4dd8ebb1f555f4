-- A frame without a fault changes an end exactly where a test of what it finds says so.
use Rattle.std.proofs.Common.{◌≡◌, ℕ, ◌+◌, Bool, true, false, not, ◌&&◌, ◌||◌, cond, List, length, Option, Some, None, is_some, ◌⊎◌, refl, sym, ap, ◌∙◌, subst, arith, inl, inr}
use Rattle.std.specs.Prelude.{max, nat_lt, is_none, IsOk}
use Rattle.std.proofs.lemmas.Option.{none-some, same_Some}
use Rattle.std.proofs.lemmas.Bool.{and_parts, both_ways, cond_both, or_cases, or_right}
use Rattle.std.proofs.lemmas.Bool.Decides.{nat_tests}
use Rattle.qs_ranges.specs.Numbers.{covers}
use Rattle.qs_ranges.proofs.Sets.{covers-is, covers-of, inside}
use Rattle.qs_wire.specs.declared.stream_id.Dir.TheVariants.{Bidi, Uni}
use Rattle.qs_recv.specs.Assembled.{forget}
use Rattle.qs_recv.specs.Lane.{RecvLane, check_stream, take_stream, take_reset, breaks_known, highest}
use Rattle.qs_recv.specs.declared.credit.Share.TheVariants.{Half}
use Rattle.qs_recv.specs.Changes.{stream_changes}
use Rattle.qs_recv.proofs.RingLaws.{contains-with_run}
use Rattle.qs_recv.proofs.LawfulLaws.{unbroken}
use Rattle.qs_send.specs.Lane.{SendLane, stop_taken, allow_lane}
use Rattle.qs_send.specs.Changes.{changes_by_stop}
use Rattle.qs_send.specs.declared.piece.Item.{Item}
use Rattle.qs_send.specs.declared.piece.Item.TheVariants.{MaxData, MaxStreamData, MaxStreams, ResetStream, StopSending, StreamDataBlocked}
use Rattle.qs_machine.specs.Tables.{Tables, lookup, updated, open_to}
use Rattle.qs_machine.specs.Ends.{End, is_own, is_uni, send_lane, recv_lane, on_send, on_recv, opens, opened_by_peer, first_window}
use Rattle.qs_machine.specs.Seen.{Seen, Ack, Stream, Control}
use Rattle.qs_machine.specs.Verdicts.{verdict, state_fault_in, state_fault_out, or_new}
use Rattle.qs_machine.specs.FrameStep.{frame_taken, item_taken}
use Rattle.qs_machine.specs.Alone.{is_ours}
use Rattle.qs_machine.specs.Changes.{is_yet_to_open, half_changes, reset_changes, item_changes, changes}
use Rattle.qs_machine.proofs.EveryCall.{not_chosen}
use Rattle.qs_machine.proofs.TablesAfter.{open_back}
use Rattle.qs_machine.proofs.Taken.{out_there, in_there, stream_in, reset_in, stream_checked, mid_sends}
use Rattle.qs_machine.proofs.LanesAgain.{put_again}
use Rattle.qs_machine.proofs.Again.{WasOpened, opens_it, opened_back, recv_back, send_back, changed, allow_back}
use Rattle.std.proofs.Math.Bool.{and-false}

-- Tests

neither : (a b : Bool) → (a || b) ≡ false → (a ≡ false) × (b ≡ false)
neither a b h = grind arith

not_false : (b : Bool) → not b ≡ false → b ≡ true
not_false b h = grind arith

not_true : (b : Bool) → not b ≡ true → b ≡ false
not_true b h = grind arith

is_missing : {X : Type 0} (o : Option X) → is_none o ≡ true → o ≡ None
is_missing o h = grind arith

the_one : {X : Type 0} (o : Option X) → is_some o ≡ true → (x : X) × (o ≡ Some x)
the_one o h = grind arith

half_true : {L : Type 0} (g : L → Bool) (o : Option L) → half_changes g o ≡ true → (l : L) × (o ≡ Some l) × (g l ≡ true)
half_true g o h = grind arith

half_false : {L : Type 0} (g : L → Bool) (o : Option L) (l : L) → o ≡ Some l → half_changes g o ≡ false → g l ≡ false
half_false g o l is h = sym (ap (half_changes g) is) ∙ h

-- Receiving halves

known_end : (f : Option ℕ) (end n : ℕ) (fin : Bool) (before : ℕ) → breaks_known f end n fin before ≡ false → (fin && is_none f) ≡ false → cond fin (Some end) f ≡ f
known_end f end n fin before fine told = grind arith

data_same : (l : RecvLane) (offset : ℕ) (bytes : List ℕ) (fin : Bool) → IsOk (check_stream l offset (length bytes) fin) → stream_changes l offset (length bytes) fin ≡ false → take_stream l offset bytes fin ≡ l
data_same l offset bytes fin ok none =
    let (told, came) = neither _ _ none in
    let size = known_end l.final_size (offset + length bytes) (length bytes) fin (highest l) (unbroken l offset (length bytes) fin ok) told in
    let arrived = by_reset l.reset_code (covers l.arrived.received offset (offset + length bytes)) came (λ all. put_again l.arrived offset bytes (covers-is l.arrived.received offset (offset + length bytes) all)) in
    λ i. record l { arrived = arrived i; final_size = size i }
  where
    by_reset : {X : Type 0} {x y : X} (o : Option ℕ) (b : Bool) → (is_none o && not b) ≡ false → (b ≡ true → y ≡ x) → cond (is_some o) x y ≡ x
    by_reset o b h same = grind arith

data_differs : (l : RecvLane) (offset : ℕ) (bytes : List ℕ) (fin : Bool) → stream_changes l offset (length bytes) fin ≡ true → take_stream l offset bytes fin ≡ l → ⊥
data_differs l offset bytes fin some same = grind (arith, nat_tests, or_cases, and_parts, both_ways, not_true, covers-of, is_missing, contains-with_run, or_right, inside, none-some)

reset_differs : (l : RecvLane) (code size : ℕ) → reset_changes l ≡ true → take_reset l code size ≡ l → ⊥
reset_differs l code size some same = grind arith

-- Sending halves

allow_differs : (l : SendLane) (m : ℕ) → nat_lt l.limit m ≡ true → allow_lane l m ≡ l → ⊥
allow_differs l m some same = let e : max l.limit m ≡ l.limit = ap (λ (k : SendLane). k.limit) same in grind (arith, nat_tests)

stop_same : (answers : Bool) (l : SendLane) (code : ℕ) → changes_by_stop answers l ≡ false → stop_taken answers l code ≡ l
stop_same answers l code none = grind arith

stop_differs : (answers : Bool) (l : SendLane) (code : ℕ) → changes_by_stop answers l ≡ true → stop_taken answers l code ≡ l → ⊥
stop_differs answers l code some same = grind arith

-- The streams of an end

half_missing : (own uni : Bool) (r : Option RecvLane) (s : Option SendLane) → (not own && (is_none r || (not uni && is_none s))) ≡ true → (own ≡ false) × ((r ≡ None) ⊎ ((uni ≡ false) × (s ≡ None)))
half_missing own uni r s h = grind arith

was_opened : (n : ℕ) (e : End) → is_yet_to_open e n ≡ false → WasOpened e n
was_opened n e none other = grind arith

updated_open : {X : Type 0} (t : Tables X) (n : ℕ) (f : X → X) → is_some (lookup t n) ≡ true → is_some (lookup (updated t n f (lookup t n)) n) ≡ true
updated_open t n f is = let (x, there) = the_one (lookup t n) is in ap is_some (changed t n f x there)

-- an end at which a half is open that wasn't before is another end
open_differs : (n : ℕ) (e k : End) → is_yet_to_open e n ≡ true
    → (is_some (lookup (opened_by_peer n e).recvs n) ≡ true → is_some (lookup k.recvs n) ≡ true)
    → (is_some (lookup (opened_by_peer n e).sends n) ≡ true → is_some (lookup k.sends n) ≡ true)
    → k ≡ e → ⊥
open_differs n e k yet recvs sends same =
    let (other, missing) = half_missing (is_own e n) (is_uni n) (recv_lane e n) (send_lane e n) yet in
    let opened : opened_by_peer n e ≡ opens n e = not_chosen (is_own e n) e (opens n e) other in
    let at = opens_it n e in
    elim missing [
      | inl none ↦
          both_ways (is_some (recv_lane e n)) (ap is_some none)
          (sym (ap (λ (x : End). is_some (lookup x.recvs n)) same) ∙ recvs (ap (λ (x : End). is_some (lookup x.recvs n)) opened ∙ at.recvs (ap (λ b. is_uni n && b) other ∙ and-false (is_uni n))))
      | inr (bidi, none) ↦
          both_ways (is_some (send_lane e n)) (ap is_some none)
          (sym (ap (λ (x : End). is_some (lookup x.sends n)) same) ∙ sends (ap (λ (x : End). is_some (lookup x.sends n)) opened ∙ at.sends (ap (λ b. b && not (is_own e n)) bidi)))
    ]

recv_same : (n : ℕ) (f : RecvLane → RecvLane) (e : End) → state_fault_in e n ≡ None → is_yet_to_open e n ≡ false → ((l : RecvLane) → lookup e.recvs n ≡ Some l → f l ≡ l) → on_recv n f (opened_by_peer n e) ≡ e
recv_same n f e fine none stays = grind (arith, nat_tests, was_opened, in_there, opened_back, recv_back)

recv_differs : (n : ℕ) (f : RecvLane → RecvLane) (e : End) (l : RecvLane) → state_fault_in e n ≡ None → lookup e.recvs n ≡ Some l → (f l ≡ l → ⊥) → on_recv n f (opened_by_peer n e) ≡ e → ⊥
recv_differs n f e l fine is differs same =
    let mid = opened_by_peer n e in
    let there : lookup mid.recvs n ≡ Some l = in_there e mid n fine refl ∙ ap (λ o. Some (or_new o (first_window e n) e.tuning.credit_step)) is in
    differs (same_Some (f l) l (sym (changed mid.recvs n f l there) ∙ ap (λ (x : End). lookup x.recvs n) same ∙ is))

send_same : (n : ℕ) (f : SendLane → SendLane) (e : End) → state_fault_out e n ≡ None → is_yet_to_open e n ≡ false → ((l : SendLane) → lookup e.sends n ≡ Some l → f l ≡ l) → on_send n f (opened_by_peer n e) ≡ e
send_same n f e fine none stays =
    let was = was_opened n e none in
    let (l, is) = the_one (lookup e.sends n) (out_there e e n fine (sym (opened_back n e was))) in
    send_back n f l e was is (stays l is)

send_differs : (n : ℕ) (f : SendLane → SendLane) (e : End) (l : SendLane) → lookup e.sends n ≡ Some l → (f l ≡ l → ⊥) → on_send n f (opened_by_peer n e) ≡ e → ⊥
send_differs n f e l is differs same =
    let mid = opened_by_peer n e in
    let kept : mid.sends ≡ e.sends = mid_sends e mid n refl ∙ cond_both _ e.sends (open_to e.sends n _) (λ t. t ≡ e.sends) (λ _. refl) (λ _. open_back e.sends n _ (ap is_some is)) in
    let there : lookup mid.sends n ≡ Some l = ap (λ t. lookup t n) kept ∙ is in
    differs (same_Some (f l) l (sym (changed mid.sends n f l there) ∙ ap (λ (x : End). lookup x.sends n) same ∙ is))

on_recv_differs : (n : ℕ) (f : RecvLane → RecvLane) (e : End) → is_yet_to_open e n ≡ true → on_recv n f (opened_by_peer n e) ≡ e → ⊥
on_recv_differs n f e yet = open_differs n e (on_recv n f (opened_by_peer n e)) yet (updated_open (opened_by_peer n e).recvs n f) (λ is. is)

on_send_differs : (n : ℕ) (f : SendLane → SendLane) (e : End) → is_yet_to_open e n ≡ true → on_send n f (opened_by_peer n e) ≡ e → ⊥
on_send_differs n f e yet = open_differs n e (on_send n f (opened_by_peer n e)) yet (λ is. is) (updated_open (opened_by_peer n e).sends n f)

-- Frames

max_same : (a m : ℕ) → nat_lt a m ≡ false → max a m ≡ a
max_same a m none = grind (arith, nat_tests)

max_differs : (a m : ℕ) → nat_lt a m ≡ true → max a m ≡ a → ⊥
max_differs a m some same = grind (arith, nat_tests)

item_same : (i : Item) (e : End) → verdict e (Control i) ≡ None → item_changes e i ≡ false → item_taken i e ≡ e
unfolding verdict
item_same (MaxData m) e v none = ap (λ k. record e { known_data = k }) (max_same e.known_data m none)
item_same (MaxStreamData n m) e v none =
    let (yet, half) = neither _ _ none in
    send_same n (λ l. allow_lane l m) e v yet (λ l is. (allow_back l m (grind ((half_false (λ (k : SendLane). nat_lt k.limit m) (send_lane e n) l is half), arith, nat_tests))))
item_same (MaxStreams Bidi m) e v none = ap (λ k. record e { known_bidi = k }) (max_same e.known_bidi m none)
item_same (MaxStreams Uni m) e v none = ap (λ k. record e { known_uni = k }) (max_same e.known_uni m none)
item_same (ResetStream n code size) e v none =
    let (yet, half) = neither _ _ none in
    recv_same n (λ l. take_reset l code size) e (reset_in e n code size v) yet (λ l is. (ap (λ b. cond b l (record l { arrived = forget l.arrived; final_size = Some size; reset_code = Some code })) (not_false _ (half_false reset_changes (recv_lane e n) l is half))))
item_same (StopSending n code) e v none =
    let (yet, half) = neither _ _ none in
    let answers = e.tuning.answers_stops in
    send_same n (λ l. stop_taken answers l code) e v yet (λ l is. stop_same answers l code (half_false (changes_by_stop answers) (send_lane e n) l is half))
item_same (StreamDataBlocked n m) e v none = opened_back n e (was_opened n e none)
item_same _ e v none = refl

item_differs : (i : Item) (e : End) → verdict e (Control i) ≡ None → item_changes e i ≡ true → item_taken i e ≡ e → ⊥
unfolding verdict
item_differs (MaxData m) e v some same = max_differs e.known_data m some (ap (λ (x : End). x.known_data) same)
item_differs (MaxStreamData n m) e v some same =
    elim (or_cases _ _ some) [
      | inl yet ↦ on_send_differs n (λ l. allow_lane l m) e yet same
      | inr half ↦ (let (l, is, more) = half_true (λ (k : SendLane). nat_lt k.limit m) (send_lane e n) half in send_differs n (λ l. allow_lane l m) e l is (allow_differs l m more) same)
    ]
item_differs (MaxStreams Bidi m) e v some same = max_differs e.known_bidi m some (ap (λ (x : End). x.known_bidi) same)
item_differs (MaxStreams Uni m) e v some same = max_differs e.known_uni m some (ap (λ (x : End). x.known_uni) same)
item_differs (ResetStream n code size) e v some same =
    elim (or_cases _ _ some) [
      | inl yet ↦ on_recv_differs n (λ l. take_reset l code size) e yet same
      | inr half ↦ (let (l, is, more) = half_true reset_changes (recv_lane e n) half in recv_differs n (λ l. take_reset l code size) e l (reset_in e n code size v) is (reset_differs l code size more) same)
    ]
item_differs (StopSending n code) e v some same =
    elim (or_cases _ _ some) [
      | inl yet ↦ on_send_differs n (λ l. stop_taken e.tuning.answers_stops l code) e yet same
      | inr half ↦
          let answers = e.tuning.answers_stops in
          let (l, is, more) = half_true (changes_by_stop answers) (send_lane e n) half in
          send_differs n (λ l. stop_taken answers l code) e l is (stop_differs answers l code more) same
    ]
item_differs (StreamDataBlocked n m) e v some same = open_differs n e (opened_by_peer n e) some (λ is. is) (λ is. is) same
item_differs _ e v some same = both_ways false refl some

-- a frame of which the test says so changes nothing
pub frame_same : (f : Seen) (e : End) → is_ours f ≡ true → verdict e f ≡ None → changes e f ≡ false → frame_taken f e ≡ e
unfolding frame_taken
frame_same (Ack largest ranges) e ours v none = absurd (both_ways false refl ours)
frame_same (Stream n offset bytes fin) e ours v none =
    let (yet, half) = neither _ _ none in
    let fine = stream_in e n offset bytes fin v in
    let back = opened_back n e (was_opened n e yet) in
    recv_same n (λ l. take_stream l offset bytes fin) e fine yet (λ l is.
    data_same l offset bytes fin (subst (λ o. IsOk (check_stream (or_new o 0 Half) offset (length bytes) fin)) is (stream_checked e e n offset bytes fin v (sym back)))
    (half_false (λ k. stream_changes k offset (length bytes) fin) (recv_lane e n) l is half))
frame_same (Control i) e ours v none = item_same i e v none
frame_same _ e ours v none = refl

-- and one of which it says so changes something
pub frame_differs : (f : Seen) (e : End) → verdict e f ≡ None → changes e f ≡ true → frame_taken f e ≡ e → ⊥
unfolding frame_taken
frame_differs f e v some same = grind (arith, nat_tests, or_cases, on_recv_differs, half_true, recv_differs, stream_in, data_differs, item_differs, both_ways)
