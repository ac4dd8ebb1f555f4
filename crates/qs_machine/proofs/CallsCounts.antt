-- As each call ends the granted counts of streams are what the streams that ended make them; none is lower, and a receiving half keeps what it knows.
use Rattle.std.proofs.Common.{◌≡◌, ℕ, ◌+◌, ◌&&◌, take, refl, sym, ap, subst, arith}
use Rattle.std.proofs.lemmas.Bool.{cond_both}
use Rattle.qs_wire.specs.declared.stream_id.Dir.TheVariants.{Bidi, Uni}
use Rattle.qs_recv.specs.Lane.{RecvLane, new_lane as new_recv_lane, after_read, stop, raise, stop_and_discard, set_window}
use Rattle.qs_send.specs.declared.piece.Piece.{Piece}
use Rattle.qs_calls.specs.declared.closing.Closed.{Closed}
use Rattle.qs_calls.specs.declared.closing.Closed.TheVariants.{Noted}
use Rattle.qs_machine.specs.Ends.{End, on_recv, is_own, is_uni, opens, closes, first_window}
use Rattle.qs_machine.specs.FrameStep.{frame_taken, acks, named}
use Rattle.qs_machine.specs.Lawful.{frame_put}
use Rattle.qs_machine.specs.Making.{first_lost}
use Rattle.qs_machine.specs.EndStep.{Call, Answer, EndStep}
use Rattle.qs_machine.specs.Setting.{Setting, ConnWindow, Grant, with_setting, StreamWindow, SendBuffer}
use Rattle.qs_machine.proofs.Leaves.{put_leaves}
use Rattle.qs_machine.specs.Standing.{IsSound, IsInCredit, CountsAreSettled, CountsRise}
use Rattle.qs_machine.specs.Repeats.{SentWasWritten, WasWritten}
use Rattle.qs_machine.proofs.EveryCall.{Change, changed, Comes, each_call, ends_by, Wanted, Opened, Stopped, WasRead, WasSet, Took, Acked, Put, Settled, Forgotten, Lost, Numbered, Shut}
use Rattle.qs_machine.proofs.TablesAfter.{KeptIn, kept_same, kept_twice, kept_updated, kept_open, kept_each}
use Rattle.qs_machine.proofs.Counts.{counts_settle, counts_rise}
use Rattle.qs_machine.proofs.CallsSound.{sound_call, sound_change, stand_call, grant_grows}
use Rattle.qs_machine.proofs.SentCalls.{keeps_change}
use Rattle.qs_recv.specs.Lawful.{IsLawful}
use Rattle.qs_machine.proofs.LanesAgain.{LaneAfter, lane_same, lane_twice, raise_after, stop_after, read_after, forget_after, window_after}
use Rattle.qs_machine.specs.Credit.{ended, settle}
use Rattle.qs_machine.proofs.Pieces.{All_take}
use Rattle.qs_machine.proofs.EndsAfter.{IsAfter, lawful_in, after_frame, after_acks, named_written}

-- A packet that is lost changes no count, nor does a number that is claimed or a close that is told.

settled_lost : (k : ℕ) (p : Piece) (e : End) → CountsAreSettled e → CountsAreSettled (first_lost k p e)
settled_lost k p e h d = grind arith

settled_claimed : (e : End) → CountsAreSettled e → CountsAreSettled (record e { next = e.next + 1 })
settled_claimed e h d = grind arith

settled_shut : (c : Closed) (e : End) → CountsAreSettled e → CountsAreSettled (closes c e)
settled_shut c e h d = grind arith

-- After every call the counts are settled.
pub settled_call : (old : End) (call : Call) (answer : Answer call) (new : End) → CountsAreSettled old → EndStep old call answer new → CountsAreSettled new
settled_call old call answer new h step =
    ends_by CountsAreSettled old h counts_settle settled_lost (settled_claimed old h) (λ c. settled_shut c old h) call answer new step

-- Every call leaves a sound end sound.
pub sound_end : (old : End) (call : Call) (answer : Answer call) (new : End) → IsSound old → EndStep old call answer new → IsSound new
sound_end old call answer new h step = (sound_call old call answer new h.0 step, stand_call old call answer new h.1 step)

-- What a change leaves: no count falls, and a receiving half keeps what it knows.

abbrev pub Moves : End → End → Type 0
Moves a b = CountsRise a b × KeptIn LaneAfter a.recvs b.recvs

-- a change that leaves the counts
moves_recvs : (e new : End) → new.granted_bidi ≡ e.granted_bidi → new.granted_uni ≡ e.granted_uni → KeptIn LaneAfter e.recvs new.recvs → Moves e new
moves_recvs e new bidi uni kept = (counts_rise e new (omega (arith, bidi)) (omega (arith, uni)), kept)

moves_same : (e : End) → Moves e e
moves_same e = moves_recvs e e refl refl (kept_same LaneAfter lane_same e.recvs)

-- one that leaves the receiving halves, too
moves_none : (e new : End) → new.granted_bidi ≡ e.granted_bidi → new.granted_uni ≡ e.granted_uni → new.recvs ≡ e.recvs → Moves e new
moves_none e new bidi uni same = moves_recvs e new bidi uni (subst (KeptIn LaneAfter e.recvs) (sym same) (kept_same LaneAfter lane_same e.recvs))

moves_twice : (a b c : End) → Moves a b → Moves b c → Moves a c
moves_twice a b c x y = (
  counts_rise a c (omega (arith, x.0 Bidi, y.0 Bidi)) (omega (arith, x.0 Uni, y.0 Uni)),
  kept_twice LaneAfter lane_same lane_twice a.recvs b.recvs c.recvs x.1 y.1,
)

moves_recv : (n : ℕ) (f : RecvLane → RecvLane) (e : End) → IsInCredit e → ((l : RecvLane) → IsLawful l → LaneAfter l (f l)) → Moves e (on_recv n f e)
moves_recv n f e sound kept = moves_recvs e (on_recv n f e) refl refl (kept_updated LaneAfter lane_same e.recvs n f (λ l is. kept l (lawful_in e n l sound is)))

moves_opens : (n : ℕ) (e : End) → Moves e (opens n e)
moves_opens n e =
    moves_recvs e (opens n e) refl refl
    (cond_both (is_uni n && is_own e n) e.recvs _ (KeptIn LaneAfter e.recvs) (λ _. kept_same LaneAfter lane_same e.recvs) (λ _. kept_open LaneAfter lane_same e.recvs n (λ m. new_recv_lane (first_window e n) e.tuning.credit_step)))

moves_set : (x : Setting) (e : End) → Moves e (with_setting x e)
moves_set (ConnWindow w) e = moves_none e (with_setting (ConnWindow w) e) refl refl refl
moves_set (Grant Bidi n) e =
    (counts_rise e (with_setting (Grant Bidi n) e) (grant_grows e.present.grant_bidi e.granted_bidi e.settings.lifetime_bidi (ended e Bidi) n) (omega arith), kept_same LaneAfter lane_same e.recvs)
moves_set (Grant Uni n) e =
    (counts_rise e (with_setting (Grant Uni n) e) (omega arith) (grant_grows e.present.grant_uni e.granted_uni e.settings.lifetime_uni (ended e Uni) n), kept_same LaneAfter lane_same e.recvs)
moves_set (SendBuffer n size) e = moves_none e (with_setting (SendBuffer n size) e) refl refl refl
moves_set (StreamWindow n w) e = moves_recvs e (with_setting (StreamWindow n w) e) refl refl (kept_updated LaneAfter lane_same e.recvs n (λ l. set_window l w) (λ l is. window_after l w))

moves_after : (a b : End) → IsAfter a b → Moves a b
moves_after a b after = (counts_rise a b after.bidi_granted after.uni_granted, after.recvs)

pub moves_change : (old : End) (call : Call) (c : Change) (e : End) → Comes old call e c → IsInCredit e → SentWasWritten e → Moves e (changed c e)
moves_change old call (Wanted Uni count) e comes sound sent = moves_same e
moves_change old call (Opened n) e comes sound sent = moves_opens n e
moves_change old call (Stopped n code) e comes sound sent = moves_recv n (λ m. stop m code) e sound (λ l lawful. stop_after l code lawful)
moves_change old call (Forgotten n code) e comes sound sent = moves_recv n (λ m. stop_and_discard m code) e sound (λ l lawful. forget_after l code lawful)
moves_change old call (WasRead n size) e comes sound sent = moves_recv n (λ m. after_read m size) e sound (λ l lawful. read_after l size lawful)
moves_change old call (WasSet x) e comes sound sent = moves_set x e
moves_change old call (Took f) e comes sound sent = moves_after e (frame_taken f e) (after_frame f e comes.0 sound sent)
moves_change old call (Acked count ranges) e comes sound sent =
    moves_after e (acks (take count (named e ranges)) e) (after_acks (take count (named e ranges)) e (All_take (λ a. WasWritten e.sends a.piece) count (named e ranges) (named_written e ranges sent)))
moves_change old call (Put f) e comes sound sent = moves_none e (frame_put f e) (ap (λ (x : End). x.granted_bidi) (put_leaves f e)) (ap (λ (x : End). x.granted_uni) (put_leaves f e)) (ap (λ (x : End). x.recvs) (put_leaves f e))
moves_change old call Settled e comes sound sent = (counts_rise e (settle e) (omega arith) (omega arith), kept_each LaneAfter lane_same e.recvs raise raise_after)
moves_change old call c e comes sound sent = moves_none e (changed c e) refl refl refl

-- Every call

-- A relation that holds across each change of a sound end that sent what was written, and across two where it does across each, holds across every call.
module _ (T : End → End → Type 0) (same : (e : End) → T e e) (twice : (a b c : End) → T a b → T b c → T a c) (old : End) (sound : IsSound old) (sent : SentWasWritten old) (call : Call)
    (one : (c : Change) (e : End) → Comes old call e c → IsInCredit e → SentWasWritten e → T e (changed c e)) where
  -- an end that the call has led to so far
  abbrev IsReached : End → Type 0
  IsReached e = IsInCredit e × SentWasWritten e × T old e

  reached : (c : Change) (e : End) → Comes old call e c → IsReached e → IsReached (changed c e)
  reached c e comes h = (sound_change old call c e comes h.0, keeps_change old call c e comes h.1, twice old e (changed c e) h.2 (one c e comes h.0 h.1))

  at_first : IsReached old
  at_first = (sound.0, sent, same old)

  pub relates_sound : (answer : Answer call) (new : End) → EndStep old call answer new → T old new
  relates_sound answer new step =
      (each_call old call IsReached IsReached (record { begins = at_first; goes = reached; stays = at_first; settles = λ e. reached Settled e tt; loses = λ k p e is. reached (Lost k p) e is; claims = reached (Numbered (old.next + 1)) old refl at_first; shuts = λ comes close. reached (Shut (Noted close)) old comes at_first }) answer new step).2

keeps_all : (old : End) → IsSound old → SentWasWritten old → (call : Call) (answer : Answer call) (new : End) → EndStep old call answer new → Moves old new
keeps_all old sound sent call answer new step = relates_sound Moves moves_same moves_twice old sound sent call (moves_change old call) answer new step

pub counts_call : (old : End) → IsSound old → SentWasWritten old → (call : Call) (answer : Answer call) (new : End) → EndStep old call answer new → CountsRise old new
counts_call old sound sent call answer new step = (keeps_all old sound sent call answer new step).0

pub lanes_call : (old : End) → IsSound old → SentWasWritten old → (call : Call) (answer : Answer call) (new : End) → EndStep old call answer new → KeptIn LaneAfter old.recvs new.recvs
lanes_call old sound sent call answer new step = (keeps_all old sound sent call answer new step).1
