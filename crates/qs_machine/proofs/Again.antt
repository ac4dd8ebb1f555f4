-- What comes again changes nothing: frames that took effect, a payload that found no memory, and one that was processed.
use Rattle.std.proofs.Common.{◌≡◌, ℕ, ◌/◌, ◌≤◌, Bool, true, false, not, ◌&&◌, cond, List, [], ◌∷◌, length, Option, Some, None, is_some, refl, ◌⊎◌, sym, ap, ◌∙◌, subst, arith, inl, inr, ◌||◌, ◌++◌, take, map}
use Rattle.std.specs.Prelude.{⊤, max, nat_le, is_none, IsOk, Result, Ok, Err}
use Rattle.std.specs.FinMap as fmap
use Rattle.std.proofs.lemmas.Bool.{both_ways, cond_both}
use Rattle.std.proofs.lemmas.Bool.Decides.{nat_tests}
use Rattle.qs_wire.specs.declared.stream_id.Role.{Role}
use Rattle.qs_wire.specs.declared.stream_id.Dir.TheVariants.{Bidi, Uni}
use Rattle.qs_recv.specs.Lane.{RecvLane, highest, check_stream, check_reset, check_bytes, take_stream, take_reset, taken, raise, step, next_limit}
use Rattle.qs_recv.specs.declared.credit.Share.TheVariants.{Half}
use Rattle.qs_recv.specs.declared.half.Highest.{Highest}
use Rattle.qs_recv.specs.declared.half.RecvFault.{RecvFault}
use Rattle.qs_send.specs.Lane.{SendLane, reset_refusal, stop_taken, allow_lane}
use Rattle.qs_send.specs.Records.{Among}
use Rattle.qs_send.specs.declared.piece.Item.{Item}
use Rattle.qs_send.specs.declared.piece.Item.TheVariants.{MaxData, MaxStreamData, MaxStreams, ResetStream, StopSending, DataBlocked, StreamDataBlocked, StreamsBlocked}
use Rattle.qs_machine.specs.Tables.{Tables, lookup, updated, each}
use Rattle.qs_machine.specs.Ends.{End, is_own, is_own_by, is_uni, on_send, on_recv, opens, opened_by_peer, first_window, closes}
use Rattle.qs_machine.specs.Credit.{settle, all_taken}
use Rattle.qs_machine.specs.Seen.{Seen, Ack, Stream, Control, Close, Plain, seen, seen_all, asks_ack, any_asks}
use Rattle.qs_machine.specs.Verdicts.{verdict, item_verdict, state_fault_in, state_fault_out, credit_fault, bytes_fault, fault_of, ack_fault, fault_if, or_else, or_new}
use Rattle.qs_machine.specs.FrameStep.{frame_taken, item_taken, frames_taken, held, is_named, NoFault, named, acks}
use Rattle.qs_machine.specs.Receiving.{GoesOn, Takes, EndsBy, AtEnd, RunsOut, TakesPayload, noted_receive, OpenReceive, ReceiveBy, ReceiveStep}
use Rattle.qs_machine.specs.Standing.{IsInCredit, IsSound}
use Rattle.qs_machine.specs.Repeats.{SentWasWritten, AreAmong, Resumes, OnlyRecords, WasWritten}
use Rattle.qs_machine.proofs.EveryCall.{not_chosen, no_fault_there, stops_by, by_open}
use Rattle.qs_machine.proofs.TableLaws.{lookup_same, open_at, total_each}
use Rattle.qs_machine.proofs.CallsSound.{sound_frame, sound_opened, sound_acks, sound_settle}
use Rattle.qs_machine.proofs.Taken.{out_there, in_there, stream_in, reset_in, stream_checked, stream_unchanged, reset_checked}
use Rattle.qs_machine.proofs.LanesAgain.{HasData, HasReset, data_stays, data_taken, data_again, reset_stays, reset_taken, reset_again}
use Rattle.qs_machine.proofs.TablesAfter.{updated_back, open_back}
use Rattle.qs_machine.proofs.Pieces.{All_take}
use Rattle.qs_machine.proofs.EndsAfter.{HalfAfter, IsAfter, IsBare, after_same, after_twice, after_opened, after_frame, mid_stream, mid_reset, mid_allow, mid_stop, lawful_in, sent_stays, after_closes, after_recorded, after_settle, after_acks, named_written}
use Rattle.qs_machine.proofs.AcksAgain.{named_bare, named_again, named_nothing}
use Rattle.qs_wire.specs.Layout.{PlacedValue}
use Rattle.qs_wire.specs.Grammar.{frames_of}
use Rattle.qs_wire.specs.declared.fault.WireFault.{WireFault}
use Rattle.qs_calls.specs.declared.closing.Closing.{Closing}
use Rattle.qs_calls.specs.declared.closing.Received.{Received}
use Rattle.qs_wire.specs.Reading.{reading_of}
use Rattle.qs_calls.specs.declared.closing.Closed.{Closed}
use Rattle.qs_calls.specs.declared.closing.Received.TheVariants as received
use Rattle.qs_machine.specs.Recording.{recorded}
use Rattle.qs_recv.specs.declared.credit.Share.{Share}
use Rattle.qs_calls.specs.declared.closing.Closer.{Closer}
use Rattle.qs_calls.specs.declared.closing.Closed.TheVariants.{ByUs, ByPeer, Noted}
use Rattle.qs_machine.proofs.Leaves.{frame_leaves}
use Rattle.qs_machine.proofs.Counts.{next_settle}
use Rattle.std.proofs.Math.Bool.{or-false, or_assoc}

-- Frames that took effect and come again have no fault and change nothing.

-- Openings

pub record IsOpenAt (e : End) (n : ℕ) : Type 0 where
  pub recvs : (is_uni n && is_own e n) ≡ false → is_some (lookup e.recvs n) ≡ true
  pub sends : (is_uni n && not (is_own e n)) ≡ false → is_some (lookup e.sends n) ≡ true

-- a frame that named the stream opened it, where it is one of the peer
abbrev pub WasOpened : End → ℕ → Type 0
WasOpened e n = is_own e n ≡ false → IsOpenAt e n

pub opens_it : (n : ℕ) (e : End) → IsOpenAt (opens n e) n
opens_it n e = grind (arith, nat_tests, not_chosen, open_at, not)

was_opened : (n : ℕ) (e : End) → WasOpened (opened_by_peer n e) n
was_opened n e = grind (arith, nat_tests, both_ways, opens_it)

opened_stays : (n : ℕ) (a b : End) → IsAfter a b → WasOpened a n → WasOpened b n
opened_stays n a b x h other = grind arith

-- a stream that was opened isn't opened again
pub opened_back : (n : ℕ) (e : End) → WasOpened e n → opened_by_peer n e ≡ e
opened_back n e h = grind (arith, nat_tests, cond_both, not, open_back)

pub recv_back : (n : ℕ) (f : RecvLane → RecvLane) (l : RecvLane) (e : End) → WasOpened e n → lookup e.recvs n ≡ Some l → f l ≡ l → on_recv n f (opened_by_peer n e) ≡ e
recv_back n f l e was is stays = grind (arith, nat_tests, updated_back, opened_back)

pub send_back : (n : ℕ) (f : SendLane → SendLane) (l : SendLane) (e : End) → WasOpened e n → lookup e.sends n ≡ Some l → f l ≡ l → on_send n f (opened_by_peer n e) ≡ e
send_back n f l e was is stays = grind (arith, nat_tests, updated_back, opened_back)

-- Verdicts on the stream

-- by the counts that are granted
abbrev pub count_fault : ℕ → ℕ → ℕ → Option ℕ
count_fault bidi uni n = fault_if (nat_le (cond (is_uni n) uni bidi) (n / 4)) 0x04

abbrev in_of : Role → Option RecvLane → ℕ → ℕ → ℕ → Option ℕ
in_of role o bidi uni n = cond (is_own_by role n) (fault_if (is_none o) 0x05) (count_fault bidi uni n)

abbrev out_of : Role → Option SendLane → ℕ → ℕ → ℕ → Option ℕ
out_of role o bidi uni n = cond (is_own_by role n) (fault_if (is_none o) 0x05) (cond (is_uni n) (Some 0x05) (count_fault bidi uni n))

-- a half that is there stays there
pub own_stays : {X : Type 0} (own : Bool) (other later : Option ℕ) (o p : Option X) → (is_some o ≡ true → is_some p ≡ true) → (other ≡ None → later ≡ None) → cond own (fault_if (is_none o) 0x05) other ≡ None → cond own (fault_if (is_none p) 0x05) later ≡ None
own_stays own other later o p more fine h = grind arith

in_stays : (n : ℕ) (a b : End) → IsAfter a b → state_fault_in a n ≡ None → state_fault_in b n ≡ None
in_stays n a b x h = grind arith

out_stays : (n : ℕ) (a b : End) → IsAfter a b → state_fault_out a n ≡ None → state_fault_out b n ≡ None
out_stays n a b x h = grind arith

ack_stays : (largest : ℕ) (a b : End) → IsAfter a b → ack_fault a largest ≡ None → ack_fault b largest ≡ None
ack_stays largest a b x h = grind arith

-- What a frame that took effect leaves

-- a STOP_SENDING changes nothing any more: a reset can't be made, or the owner answers the one that came
abbrev pub IsStopped : Bool → SendLane → Type 0
IsStopped answers l = (is_some (reset_refusal l) ≡ true) ⊎ ((answers ≡ true) × (is_some l.stopped ≡ true))

abbrev ItemDone : Item → End → Type 0
ItemDone (MaxData m) e = m ≤ e.known_data
ItemDone (MaxStreamData n m) e = (state_fault_out e n ≡ None) × WasOpened e n × (l : SendLane) × (lookup e.sends n ≡ Some l) × (m ≤ l.limit)
ItemDone (MaxStreams Bidi m) e = m ≤ e.known_bidi
ItemDone (MaxStreams Uni m) e = m ≤ e.known_uni
ItemDone (ResetStream n code size) e = (state_fault_in e n ≡ None) × WasOpened e n × (l : RecvLane) × (lookup e.recvs n ≡ Some l) × HasReset l size
ItemDone (StopSending n code) e = (state_fault_out e n ≡ None) × WasOpened e n × (l : SendLane) × (lookup e.sends n ≡ Some l) × IsStopped e.tuning.answers_stops l
ItemDone (StreamDataBlocked n m) e = (state_fault_in e n ≡ None) × WasOpened e n
ItemDone _ e = ⊤

abbrev pub IsDone : Seen → End → Type 0
IsDone (Ack largest ranges) e = (ack_fault e largest ≡ None) × ((late : Bool) (k : ℕ) → is_named ranges k ≡ true → IsBare (fmap.get (held late e) k))
IsDone (Stream n offset bytes fin) e = (state_fault_in e n ≡ None) × WasOpened e n × (l : RecvLane) × (lookup e.recvs n ≡ Some l) × HasData l offset bytes fin
IsDone (Control i) e = ItemDone i e
IsDone (Close code) e = ⊥
IsDone (Plain asks) e = ⊤

-- it stays so

stopped_stays : (answers : Bool) (l k : SendLane) → HalfAfter l k → IsStopped answers l → IsStopped answers k
stopped_stays answers l k r h = grind arith

item_stays : (i : Item) (a b : End) → IsAfter a b → ItemDone i a → ItemDone i b
item_stays (MaxData m) a b x h = omega (arith, h, x.credit)
item_stays (MaxStreamData n m) a b x (fine, was, l, is, le) =
    let (k, there, r) = x.sends n l is in
    (out_stays n a b x fine, opened_stays n a b x was, k, there, omega (arith, le, r.limit))
item_stays (MaxStreams Bidi m) a b x h = omega (arith, h, x.bidi)
item_stays (MaxStreams Uni m) a b x h = omega (arith, h, x.uni)
item_stays (ResetStream n code size) a b x (fine, was, l, is, has) =
    let (k, there, r) = x.recvs n l is in
    (in_stays n a b x fine, opened_stays n a b x was, k, there, reset_stays l k size r has)
item_stays (StopSending n code) a b x (fine, was, l, is, done) =
    let (k, there, r) = x.sends n l is in
    (out_stays n a b x fine, opened_stays n a b x was, k, there, subst (λ t. IsStopped t.answers_stops k) (sym x.tuning) (stopped_stays a.tuning.answers_stops l k r done))
item_stays (StreamDataBlocked n m) a b x (fine, was) = (in_stays n a b x fine, opened_stays n a b x was)
item_stays _ a b x h = tt

pub done_stays : (f : Seen) (a b : End) → IsAfter a b → IsDone f a → IsDone f b
done_stays (Ack largest ranges) a b x (fine, bare) = (ack_stays largest a b x fine, λ late k is. x.bare late k (bare late k is))
done_stays (Stream n offset bytes fin) a b x (fine, was, l, is, has) =
    let (k, there, r) = x.recvs n l is in
    (in_stays n a b x fine, opened_stays n a b x was, k, there, data_stays l k offset bytes fin r has)
done_stays (Control i) a b x h = item_stays i a b x h
done_stays (Close code) a b x h = absurd h
done_stays (Plain asks) a b x h = tt

-- and it is so once the frame took effect

pub changed : {X : Type 0} (t : Tables X) (n : ℕ) (f : X → X) (x : X) → lookup t n ≡ Some x → lookup (updated t n f (lookup t n)) n ≡ Some (f x)
changed t n f x is = ap (λ o. lookup (updated t n f o) n) is ∙ lookup_same t n x (f x) is

the_half : (o : Option SendLane) → is_some o ≡ true → (l : SendLane) × (o ≡ Some l)
the_half None h = absurd (both_ways false refl h)
the_half (Some l) h = (l, refl)

stopped_then : (answers : Bool) (l : SendLane) (code : ℕ) → IsStopped answers (stop_taken answers l code)
stopped_then answers l code = grind arith

item_done : (i : Item) (e : End) → verdict e (Control i) ≡ None → IsInCredit e → ItemDone i (item_taken i e)
unfolding verdict
item_done (MaxStreamData n m) e v sound =
    let mid = opened_by_peer n e in
    let x = mid_allow n m e in
    let (l, is) = the_half (lookup mid.sends n) (out_there e mid n v refl) in
    (out_stays n e _ (after_twice e mid _ (after_opened n e) x) v, opened_stays n mid _ x (was_opened n e), allow_lane l m, changed mid.sends n (λ k. allow_lane k m) l is, omega arith)
item_done (MaxStreams Bidi m) e v sound = omega arith
item_done (ResetStream n code size) e v sound =
    let mid = opened_by_peer n e in
    let x = mid_reset n code size e v sound in
    let fine = reset_in e n code size v in
    let is = in_there e mid n fine refl in
    let ok = subst (λ o. IsOk (check_reset (or_new o 0 Half) size)) is (reset_checked e mid n code size v refl) in
    (in_stays n e _ (after_twice e mid _ (after_opened n e) x) fine, opened_stays n mid _ x (was_opened n e), _, changed mid.recvs n (λ k. take_reset k code size) _ is, reset_taken _ code size (lawful_in mid n _ (sound_opened n e sound) is) ok)
item_done (StopSending n code) e v sound =
    let mid = opened_by_peer n e in
    let answers = e.tuning.answers_stops in
    let x = mid_stop answers n code e in
    let (l, is) = the_half (lookup mid.sends n) (out_there e mid n v refl) in
    let y = after_twice e mid _ (after_opened n e) x in (
      out_stays n e _ y v,
      opened_stays n mid _ x (was_opened n e),
      stop_taken answers l code,
      changed mid.sends n (λ k. stop_taken answers k code) l is,
      subst (λ t. IsStopped t.answers_stops (stop_taken answers l code)) (sym y.tuning) (stopped_then answers l code),
    )
item_done (DataBlocked m) e v sound = tt
item_done (StreamDataBlocked n m) e v sound = (in_stays n e _ (after_opened n e) v, was_opened n e)
item_done (StreamsBlocked d m) e v sound = tt
item_done _ e v sound = omega arith

ack_done : (largest : ℕ) (ranges : List (ℕ × ℕ)) (e : End) → verdict e (Ack largest ranges) ≡ None → IsInCredit e → SentWasWritten e → ack_fault (frame_taken (Ack largest ranges) e) largest ≡ None
unfolding verdict
ack_done largest ranges e v sound sent = ack_stays largest e (frame_taken (Ack largest ranges) e) (after_frame (Ack largest ranges) e v sound sent) v

pub frame_done : (f : Seen) (e : End) → GoesOn e f → IsInCredit e → SentWasWritten e → IsDone f (frame_taken f e)
unfolding frame_taken
frame_done (Ack largest ranges) e goes sound sent = (ack_done largest ranges e goes sound sent, named_bare e ranges)
frame_done (Stream n offset bytes fin) e v sound sent =
    let mid = opened_by_peer n e in
    let x = mid_stream n offset bytes fin e v sound in
    let fine = stream_in e n offset bytes fin v in
    let is = in_there e mid n fine refl in
    let ok = subst (λ o. IsOk (check_stream (or_new o 0 Half) offset (length bytes) fin)) is (stream_checked e mid n offset bytes fin v refl) in
    let alike = subst (λ o. IsOk (check_bytes (or_new o 0 Half) offset bytes)) is (stream_unchanged e mid n offset bytes fin v refl) in (
      in_stays n e _ (after_twice e mid _ (after_opened n e) x) fine,
      opened_stays n mid _ x (was_opened n e),
      _,
      changed mid.recvs n (λ k. take_stream k offset bytes fin) _ is,
      data_taken _ offset bytes fin (lawful_in mid n _ (sound_opened n e sound) is) ok alike,
    )
frame_done (Control i) e v sound sent = item_done i e v sound
frame_done (Close code) e goes sound sent = absurd goes
frame_done (Plain asks) e v sound sent = tt

-- It comes again

in_again : (n : ℕ) (l : RecvLane) (e : End) (check : RecvLane → Result Highest RecvFault) → state_fault_in e n ≡ None → lookup e.recvs n ≡ Some l → check l ≡ Ok (record { before = highest l; after = highest l }) → IsInCredit e
    → or_else (state_fault_in e n) (credit_fault e (check (or_new (lookup e.recvs n) (first_window e n) e.tuning.credit_step))) ≡ None
in_again n l e check fine is passes sound = grind (arith, nat_tests)

-- a third check that passes, past two that do
passes_last : (a b c : Option ℕ) → or_else a b ≡ None → c ≡ None → or_else a (or_else b c) ≡ None
passes_last a b c h last = grind arith

max_known : (a m : ℕ) → m ≤ a → max a m ≡ a
max_known a m le = omega (arith, le)

pub stopped_back : (answers : Bool) (l : SendLane) (code : ℕ) → IsStopped answers l → stop_taken answers l code ≡ l
stopped_back answers l code h = grind arith

pub allow_back : (l : SendLane) (m : ℕ) → m ≤ l.limit → allow_lane l m ≡ l
allow_back l m le = ap (λ k. record l { limit = k }) (max_known l.limit m le)

item_again : (i : Item) (e : End) → ItemDone i e → IsInCredit e → (item_verdict e i ≡ None) × (item_taken i e ≡ e)
item_again (MaxData m) e le sound = (refl, ap (λ k. record e { known_data = k }) (max_known e.known_data m le))
item_again (MaxStreamData n m) e (fine, was, l, is, le) sound = (fine, send_back n (λ k. allow_lane k m) l e was is (allow_back l m le))
item_again (MaxStreams Bidi m) e le sound = (refl, ap (λ k. record e { known_bidi = k }) (max_known e.known_bidi m le))
item_again (MaxStreams Uni m) e le sound = (refl, ap (λ k. record e { known_uni = k }) (max_known e.known_uni m le))
item_again (ResetStream n code size) e (fine, was, l, is, has) sound =
    let h = reset_again l code size has in
    (in_again n l e (λ k. check_reset k size) fine is h.0 sound, recv_back n (λ k. take_reset k code size) l e was is h.1)
item_again (StopSending n code) e (fine, was, l, is, done) sound = (fine, send_back n (λ k. stop_taken e.tuning.answers_stops k code) l e was is (stopped_back e.tuning.answers_stops l code done))
item_again (StreamDataBlocked n m) e (fine, was) sound = (fine, opened_back n e was)
item_again _ e h sound = (refl, refl)

pub frame_again : (f : Seen) (e : End) → IsDone f e → IsInCredit e → GoesOn e f × (frame_taken f e ≡ e)
unfolding verdict frame_taken
frame_again (Ack largest ranges) e (fine, bare) sound = (fine, named_again e ranges bare)
frame_again (Stream n offset bytes fin) e (fine, was, l, is, has) sound =
    let h = data_again l offset bytes fin (lawful_in e n l sound is) has in (
      passes_last _ _ (bytes_fault e n offset bytes) (in_again n l e (λ k. check_stream k offset (length bytes) fin) fine is h.0 sound) (ap (λ o. fault_of (check_bytes (or_new o (first_window e n) e.tuning.credit_step) offset bytes)) is ∙ ap fault_of h.1),
      recv_back n (λ k. take_stream k offset bytes fin) l e was is h.2,
    )
frame_again (Control i) e h sound = item_again i e h sound
frame_again (Close code) e h sound = absurd h
frame_again (Plain asks) e h sound = (refl, refl)

-- Lists of frames

pub first_goes : (e : End) (f : Seen) (fs : List Seen) → NoFault e (f ∷ fs) → GoesOn e f × NoFault (frame_taken f e) fs
first_goes e f fs h = grind arith

pub one_more : (e : End) (f : Seen) (fs : List Seen) → GoesOn e f → NoFault (frame_taken f e) fs → NoFault e (f ∷ fs)
one_more e f fs goes rest = grind arith

-- what frames leave
pub record IsLeft (e new : End) : Type 0 where
  pub after : IsAfter e new
  pub sound : IsSound new
  pub sent : SentWasWritten new

pub one_left : (f : Seen) (e : End) → GoesOn e f → IsSound e → SentWasWritten e → IsLeft e (frame_taken f e)
one_left f e goes sound sent =
    let v = no_fault_there e f goes in
    let x = after_frame f e v sound.0 sent in
    record { after = x; sound = (sound_frame f e v sound.0, x.counts sound.1); sent = sent_stays e (frame_taken f e) x sent }

pub all_left : (fs : List Seen) (e : End) → IsSound e → SentWasWritten e → NoFault e fs → IsLeft e (frames_taken fs e)
unfolding frames_taken
all_left [] e sound sent h = record { after = after_same e; sound = sound; sent = sent }
all_left (f ∷ fs) e sound sent h =
    let (goes, rest) = first_goes e f fs h in
    let one = one_left f e goes sound sent in
    let more = all_left fs (frame_taken f e) one.sound one.sent rest in
    record { after = after_twice e (frame_taken f e) _ one.after more.after; sound = more.sound; sent = more.sent }

pub all_done : (fs : List Seen) (e : End) → IsSound e → SentWasWritten e → NoFault e fs → (f : Seen) → Among f fs → IsDone f (frames_taken fs e)
unfolding frames_taken
all_done [] e sound sent h f a = absurd a
all_done (g ∷ fs) e sound sent h f a =
    let (goes, rest) = first_goes e g fs h in
    let one = one_left g e goes sound sent in
    elim a [
      | inl is ↦ subst (λ k. IsDone k (frames_taken fs (frame_taken g e))) (sym is) (done_stays g (frame_taken g e) _ (all_left fs (frame_taken g e) one.sound one.sent rest).after (frame_done g e goes sound.0 sent))
      | inr later ↦ all_done fs (frame_taken g e) one.sound one.sent rest f later
    ]

pub all_again : (fs : List Seen) (e : End) → IsInCredit e → ((f : Seen) → Among f fs → IsDone f e) → NoFault e fs × (frames_taken fs e ≡ e)
unfolding frames_taken
all_again [] e sound h = (tt, refl)
all_again (f ∷ fs) e sound h =
    let (goes, same) = frame_again f e (h f (inl refl)) sound in
    let rest = all_again fs e sound (λ g a. h g (inr a)) in
    (one_more e f fs goes (subst (λ k. NoFault k fs) (sym same) rest.0), ap (frames_taken fs) same ∙ rest.1)

-- frames that took effect have none when they come again
pub frames_repeat : (e : End) (frames again : List Seen) → IsSound e → SentWasWritten e → NoFault e frames → AreAmong again frames
    → NoFault (frames_taken frames e) again × (frames_taken again (frames_taken frames e) ≡ frames_taken frames e)
frames_repeat e frames again sound sent h among = grind (arith, nat_tests, all_again, all_left, all_done)

-- The first frames of a payload took effect, for some number of them.

abbrev pub seen_in : List PlacedValue → List Seen
seen_in ps = seen_all (frames_of ps)

pub takes_prefix : (number : ℕ) (fault : Option WireFault) (asks : Bool) (e : End) (ps : List PlacedValue) (result : Result Received Closing) (new : End) → Takes number fault asks e ps result new
    → (taken : List PlacedValue) × (left : List PlacedValue) × (ps ≡ taken ++ left) × NoFault e (seen_in taken) × EndsBy number fault (asks || any_asks (seen_in taken)) left (frames_taken (seen_in taken) e) result new
unfolding frames_taken
takes_prefix number fault asks e [] result new takes = ([], [], refl, tt, subst (λ a. EndsBy number fault a [] e result new) (sym (or-false asks)) takes)
takes_prefix number fault asks e (p ∷ ps) result new takes =
    elim takes [
      | inl stops ↦ ([], p ∷ ps, refl, tt, stops)
      | inr goes ↦
          let f = seen p.frame in
          let (taken, left, parts, fine, ends) = takes_prefix number fault (asks || asks_ack f) (frame_taken f e) ps result new goes.1 in (
            p ∷ taken,
            left,
            ap (λ qs. p ∷ qs) parts,
            one_more e f (seen_in taken) goes.0 fine,
            subst (λ a. EndsBy number fault a left (frames_taken (seen_in taken) (frame_taken f e)) result new) (or_assoc asks (asks_ack f) (any_asks (seen_in taken))) ends,
          )
    ]

-- A payload whose processing ended, and that comes again, goes on where it ended.

-- What the end of a processing leaves

left_by : (e new : End) → IsSound e → SentWasWritten e → IsAfter e new → IsInCredit new → IsLeft e new
left_by e new sound sent x keeps = record { after = x; sound = (keeps, x.counts sound.1); sent = sent_stays e new x sent }

becomes : (e mid new : End) → new ≡ mid → IsLeft e mid → IsLeft e new
becomes e mid new same h = subst (IsLeft e) (sym same) h

left_same : (e : End) → IsSound e → SentWasWritten e → IsLeft e e
left_same e sound sent = left_by e e sound sent (after_same e) sound.0

left_closes : (c : Closed) (e : End) → IsSound e → SentWasWritten e → IsLeft e (closes c e)
left_closes c e sound sent = left_by e (closes c e) sound sent (after_closes c e) sound.0

left_end : (number : ℕ) (asks : Bool) (fault : Option WireFault) (e : End) (result : Result Received Closing) (new : End) → IsSound e → SentWasWritten e → AtEnd number asks fault e result new → IsLeft e new
left_end number asks None e (Ok received.Done) new sound sent step = becomes e _ new step (left_by e (recorded number asks e) sound sent (after_recorded number asks e) sound.0)
left_end number asks None e (Ok received.NoMemory) new sound sent step = becomes e e new step.0 (left_same e sound sent)
left_end number asks (Some fault) e (Err closing) new sound sent step = becomes e _ new step.1 (left_closes _ e sound sent)
left_end number asks fault e result new sound sent step = absurd step

left_runs_out : (e : End) (f : Seen) (new : End) → IsSound e → SentWasWritten e → RunsOut e f new → IsLeft e new
left_runs_out e (Ack largest ranges) new sound sent (m, after, asks) =
    becomes e _ new after
    (left_by e (acks (take m (named e ranges)) e) sound sent
    (after_acks (take m (named e ranges)) e (All_take (λ a. WasWritten e.sends a.piece) m (named e ranges) (named_written e ranges sent)))
    (sound_acks (take m (named e ranges)) e sound.0))
left_runs_out e f new sound sent after = becomes e e new after.0 (left_same e sound sent)

pub left_ends : (number : ℕ) (fault : Option WireFault) (asks : Bool) (left : List PlacedValue) (e : End) (result : Result Received Closing) (new : End)
    → IsSound e → SentWasWritten e → EndsBy number fault asks left e result new → IsLeft e new
left_ends number fault asks [] e result new sound sent h = left_end number asks fault e result new sound sent h
left_ends number fault asks (p ∷ ps) e result new sound sent h =
    stops_by (IsLeft e new) p (seen p.frame) e result new h
    (λ c same fault. becomes e _ new same (left_closes c e sound sent))
    (λ is out. left_runs_out e (seen p.frame) new sound sent out)

-- It comes again

acks_none : (m : ℕ) (e : End) → acks (take m []) e ≡ e
unfolding acks
acks_none m e = grind arith

-- where a frame that took effect finds no memory, nothing changes
out_again : (f : Seen) (e new : End) → IsDone f e → RunsOut e f new → new ≡ e
out_again f e new done h = grind (arith, nat_tests, named_nothing, acks_none)

takes_again : (number : ℕ) (fault : Option WireFault) (asks : Bool) (e : End) (taken left : List PlacedValue) (result : Result Received Closing) (new : End)
    → IsInCredit e → ((f : Seen) → Among f (seen_in taken) → IsDone f e) → Takes number fault asks e (taken ++ left) result new → Resumes number fault (asks || any_asks (seen_in taken)) e left result new
takes_again number fault asks e [] left result new sound done takes = inr (subst (λ a. Takes number fault a e left result new) (sym (or-false asks)) takes)
takes_again number fault asks e (p ∷ taken) left result new sound done takes =
    let f = seen p.frame in
    let here : IsDone f e = done f (inl refl) in
    let (goes, same) = frame_again f e here sound in
    elim takes [
      | inl stops ↦
          stops_by (Resumes number fault (asks || any_asks (seen_in (p ∷ taken))) e left result new) p f e result new stops
          (λ c closed fault. absurd (fault goes))
          (λ is out. inl (is, out_again f e new here out))
      | inr on ↦
          subst (λ a. Resumes number fault a e left result new) (or_assoc asks (asks_ack f) (any_asks (seen_in taken)))
          (takes_again number fault (asks || asks_ack f) e taken left result new sound (λ g a. done g (inr a))
          (subst (λ k. Takes number fault (asks || asks_ack f) k (taken ++ left) result new) same on.1))
    ]

pub payloads_repeat : (number again : ℕ) (payload : List ℕ) (old mid : End) (result : Result Received Closing) → IsSound old → SentWasWritten old → TakesPayload number payload old result mid
    → (taken : List PlacedValue) × (left : List PlacedValue)
    × ((reading_of payload).left ≡ taken ++ left)
    × EndsBy number (reading_of payload).fault (any_asks (seen_in taken)) left (frames_taken (seen_in taken) old) result mid
    × ((next : Result Received Closing) (new : End) → TakesPayload again payload (settle mid) next new → Resumes again (reading_of payload).fault (any_asks (seen_in taken)) (settle mid) left next new)
payloads_repeat number again payload old mid result sound sent takes =
    let (taken, left, parts, fine, ends) = takes_prefix number (reading_of payload).fault false old (reading_of payload).left result mid takes in
    let then_end = frames_taken (seen_in taken) old in
    let first = all_left (seen_in taken) old sound sent fine in
    let last = left_ends number (reading_of payload).fault (any_asks (seen_in taken)) left then_end result mid first.sound first.sent ends in
    let x : IsAfter then_end (settle mid) = after_twice then_end mid (settle mid) last.after (after_settle mid) in
    let done : (f : Seen) → Among f (seen_in taken) → IsDone f (settle mid) = λ f a. done_stays f then_end (settle mid) x (all_done (seen_in taken) old sound sent fine f a) in (
      taken,
      left,
      parts,
      ends,
      λ next new more.
          takes_again again (reading_of payload).fault false (settle mid) taken left next new (sound_settle mid last.sound.0) done
          (subst (λ ps. Takes again (reading_of payload).fault false (settle mid) ps next new) parts more),
    )

-- A payload that was processed and comes again only records its number.

-- Limits that moved don't move again

pub next_twice : (l t w : ℕ) (share : Share) → next_limit (next_limit l t w share) t w share ≡ next_limit l t w share
next_twice l t w share = grind arith

pub raise_twice : (l : RecvLane) → raise (raise l) ≡ raise l
raise_twice l = grind arith

map_twice : {X : Type 0} (f : X → X) → ((x : X) → f (f x) ≡ f x) → (xs : List X) → map f (map f xs) ≡ map f xs
map_twice f same [] = refl
map_twice f same (x ∷ xs) = λ i. same x i ∷ map_twice f same xs i

each_twice : {X : Type 0} (f : X → X) → ((x : X) → f (f x) ≡ f x) → (t : Tables X) → each f (each f t) ≡ each f t
unfolding each
each_twice f same t = λ i. record { client_bidi = map_twice f same t.client_bidi i; server_bidi = map_twice f same t.server_bidi i; client_uni = map_twice f same t.client_uni i; server_uni = map_twice f same t.server_uni i }

pub settle_twice : (e : End) → settle (settle e) ≡ settle e
settle_twice e =
    let r : each raise (each raise e.recvs) ≡ each raise e.recvs = each_twice raise raise_twice e.recvs in
    let t : all_taken (settle e) ≡ all_taken e = total_each taken raise e.recvs (λ l. refl) in
    let g : next_limit (next_limit e.granted (all_taken e) e.present.conn_window e.tuning.credit_step) (all_taken (settle e)) e.present.conn_window e.tuning.credit_step ≡ next_limit e.granted (all_taken e) e.present.conn_window e.tuning.credit_step =
    ap (λ k. next_limit (next_limit e.granted (all_taken e) e.present.conn_window e.tuning.credit_step) k e.present.conn_window e.tuning.credit_step) t ∙ next_twice e.granted (all_taken e) e.present.conn_window e.tuning.credit_step in
    λ i. record e { recvs = r i; granted = g i; granted_bidi = next_settle e Bidi i; granted_uni = next_settle e Uni i }

-- Frames close nothing

open_frames : (fs : List Seen) (e : End) → (frames_taken fs e).closed ≡ e.closed
unfolding frames_taken
open_frames [] e = refl
open_frames (f ∷ fs) e = open_frames fs (frame_taken f e) ∙ ap (λ (x : End). x.closed) (frame_leaves f e)

-- A payload that was processed

-- all its frames took effect, and it ended without a fault
all_taken_by : (number : ℕ) (fault : Option WireFault) (asks : Bool) (left : List PlacedValue) (e mid : End) → EndsBy number fault asks left e (Ok received.Done) mid → (left ≡ []) × (fault ≡ None) × (mid ≡ recorded number asks e)
all_taken_by number fault asks left e mid h = grind arith

was_open : (c : Option Closed) (number : ℕ) (payload : List ℕ) (old new : End) → ReceiveBy c number payload old (Ok received.Done) new
    → (c ≡ None) × (mid : End) × TakesPayload number payload old (Ok received.Done) mid × (new ≡ settle mid)
was_open (Some (ByUs closing)) number payload old new step = absurd (not_ok closing step.0)
  where
    not_ok : (c : Closing) → ◌≡◌ {A = Result Received Closing} (Ok received.Done) (Err c) → ⊥
    not_ok c h = cc
was_open (Some (ByPeer code)) number payload old new step = absurd (not_done code step.0)
  where
    not_done : (code : ℕ) → ◌≡◌ {A = Result Received Closing} (Ok received.Done) (Ok (received.PeerClosed code)) → ⊥
    not_done code h = cc
was_open (Some (Noted close)) number payload old new step = absurd (never close.by step.0)
  where
    never : (c : Closer) → ◌≡◌ {A = Result Received Closing} (Ok received.Done) (noted_receive c close.code) → ⊥
    never c h = grind arith
was_open None number payload old new step =
    let Rest : Type 0 = (mid : End) × TakesPayload number payload old (Ok received.Done) mid × (new ≡ settle mid) in
    let found : Rest = by_open Rest number payload old (Ok received.Done) new step (λ low is. absurd (cc)) (λ again is. absurd (cc)) (λ high mid takes is. (mid, takes, is)) in
    (refl, found.0, found.1, found.2)

-- what comes of it again, where no frame is left and no fault follows
ends_again : (again : ℕ) (asks : Bool) (answer : Result Received Closing) (e mid later : End) → settle e ≡ e → Resumes again None asks e [] answer mid → later ≡ settle mid → OnlyRecords again asks answer e later
ends_again again asks answer e mid later same h is = grind arith

opened_again : (again : ℕ) (payload : List ℕ) (asks : Bool) (e : End) (answer : Result Received Closing) (later : End) → ((mid : End) → TakesPayload again payload e answer mid → later ≡ settle mid → OnlyRecords again asks answer e later)
    → OpenReceive again payload e answer later → OnlyRecords again asks answer e later
opened_again again payload asks e answer later taken step = grind arith

append_none : (ps : List PlacedValue) → ps ++ [] ≡ ps
append_none [] = refl
append_none (p ∷ ps) = ap (λ qs. p ∷ qs) (append_none ps)

pub processed_repeat : (number again : ℕ) (payload : List ℕ) (old new later : End) (answer : Result Received Closing) → IsSound old → SentWasWritten old
    → ReceiveStep old number payload (Ok received.Done) new → ReceiveStep new again payload answer later
    → OnlyRecords again (any_asks (seen_all (frames_of (reading_of payload).left))) answer new later
processed_repeat number again payload old new later answer sound sent step next =
    let (unclosed, mid, takes, is) = was_open old.closed number payload old new step in
    let (taken, left, parts, ends, resume) = payloads_repeat number again payload old mid (Ok received.Done) sound sent takes in
    let (none, fine, at) = all_taken_by number (reading_of payload).fault (any_asks (seen_all (frames_of taken))) left (frames_taken (seen_all (frames_of taken)) old) mid ends in
    let whole : taken ≡ (reading_of payload).left = sym (parts ∙ ap (λ qs. taken ++ qs) none ∙ append_none taken) in
    let still : new.closed ≡ None = ap (λ (k : End). k.closed) is ∙ ap (λ (k : End). k.closed) at ∙ open_frames (seen_all (frames_of taken)) old ∙ unclosed in
    let settled : settle new ≡ new = ap settle is ∙ settle_twice mid ∙ sym is in
    subst (λ ps. OnlyRecords again (any_asks (seen_all (frames_of ps))) answer new later) whole
    (opened_again again payload (any_asks (seen_all (frames_of taken))) new answer later
    (λ end more ended.
    let on : Resumes again (reading_of payload).fault (any_asks (seen_all (frames_of taken))) (settle mid) left answer end = resume answer end (subst (λ (k : End). TakesPayload again payload k answer end) is more) in
    let there : Resumes again None (any_asks (seen_all (frames_of taken))) new [] answer end =
    subst (λ (k : End). Resumes again None (any_asks (seen_all (frames_of taken))) k [] answer end) (sym is)
    (subst (λ qs. Resumes again None (any_asks (seen_all (frames_of taken))) (settle mid) qs answer end) none
    (subst (λ fault. Resumes again fault (any_asks (seen_all (frames_of taken))) (settle mid) left answer end) fine on)) in
    ends_again again (any_asks (seen_all (frames_of taken))) answer new end later settled there ended)
    (subst (λ c. ReceiveBy c again payload new answer later) still next))
