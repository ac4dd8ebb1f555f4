-- What a table has came from what it had, or is new.
use Rattle.std.proofs.Common.{◌≡◌, ℕ, ◌%◌, false, not, ◌&&◌, ◌||◌, List, [], ◌∷◌, ◌⊎◌, take, option_map, Option, Some, None, is_some, refl, sym, ap, ◌∙◌, subst, inl, inr, arith}
use Rattle.std.specs.Prelude.{⊤}
use Rattle.std.proofs.lemmas.Bool.{cases_eq, cond_both}
use Rattle.std.proofs.lemmas.Option.{none-some, same_Some}
use Rattle.qs_wire.specs.declared.stream_id.Dir.TheVariants.{Uni}
use Rattle.qs_recv.specs.Assembled.{forget}
use Rattle.qs_recv.specs.Lane.{RecvLane, new_lane as new_recv_lane, take_stream, take_reset, after_read, after_answer, read_answer, raise, is_whole}
use Rattle.qs_recv.specs.declared.half.Read.{Read}
use Rattle.qs_send.specs.Lane.{SendLane, new_lane as new_send_lane, acked_lane, reset_acked_lane, allow_lane}
use Rattle.qs_send.specs.Records.{Among}
use Rattle.qs_send.specs.declared.piece.Item.TheVariants.{MaxStreamData, MaxStreams, ResetStream, StopSending, StreamDataBlocked, StreamsBlocked}
use Rattle.qs_send.specs.declared.piece.Piece.{Piece}
use Rattle.qs_send.specs.declared.piece.Piece.TheVariants.{Data, Told}
use Rattle.qs_machine.specs.Tables.{Tables, lookup, update, updated, open_to, each}
use Rattle.qs_machine.specs.Ends.{End, is_own, is_uni, on_recv, opens, opened_by_peer, first_send_limit, first_window}
use Rattle.qs_machine.specs.Seen.{Seen, Ack, Stream, Control}
use Rattle.qs_machine.specs.FrameStep.{AckedPiece, frame_taken, frames_taken, without_piece, acks, first_acked, piece_acked, named}
use Rattle.qs_machine.proofs.TableLaws.{lookup_same, lookup_other, lookup_open, lookup_each}
use Rattle.qs_machine.proofs.Leaves.{but_streams, acks_leave, fills_leave, frame_leaves}
use Rattle.qs_progress.proofs.CalmCalls.{Ends, Forms}

-- each part came from one that was there, and keeps what R says, or is new
abbrev pub FromIn : {X : Type 0} → (X → X → Type 0) → (ℕ → X → Type 0) → Tables X → Tables X → Type 0
FromIn {X} R New old new = (n : ℕ) (y : X) → lookup new n ≡ Some y → ((x : X) × (lookup old n ≡ Some x) × R x y) ⊎ New n y

module _ {X : Type 0} (R : X → X → Type 0) (New : ℕ → X → Type 0) (same : (x : X) → R x x) where
  pub from_same : (t : Tables X) → FromIn R New t t
  from_same t n y is = inl (y, is, same y)

  pub from_twice : ((x y z : X) → R x y → R y z → R x z) → ((n : ℕ) (x y : X) → New n x → R x y → New n y) → (t u v : Tables X) → FromIn R New t u → FromIn R New u v → FromIn R New t v
  from_twice twice grown t u v a b n z is =
      elim (b n z is) [
        | inr new ↦ inr new
        | inl later ↦ (
            let (y, at, r) = later in
            elim (a n y at) [
              | inl first ↦ (let (x, was, q) = first in inl (x, was, twice x y z q r))
              | inr new ↦ inr (grown n y z new r)
            ])
      ]

  pub from_updated : (t : Tables X) (n : ℕ) (f : X → X) → ((x : X) → R x (f x)) → FromIn R New t (updated t n f (lookup t n))
  from_updated t n f keeps = go (lookup t n) refl
    where
      go : (o : Option X) → lookup t n ≡ o → FromIn R New t (updated t n f o)
      go None is m y there = inl (y, there, same y)
      go (Some x) is m y there =
          elim (cases_eq m n) [
            | inl e ↦ (let now : f x ≡ y = same_Some (f x) y (sym (lookup_same t n x (f x) is) ∙ ap (lookup (update t n (f x))) (sym e) ∙ there) in inl (x, ap (lookup t) e ∙ is, subst (R x) now (keeps x)))
            | inr ne ↦ inl (y, sym (lookup_other t n m (f x) ne) ∙ there, same y)
          ]

  pub from_open : (t : Tables X) (n : ℕ) (begin : ℕ → X) → ((m : ℕ) → m % 4 ≡ n % 4 → New m (begin m)) → FromIn R New t (open_to t n begin)
  from_open t n begin begins m y is =
      elim (lookup_open t n m begin) [
        | inl as_was ↦ inl (y, sym as_was ∙ is, same y)
        | inr new ↦ inr (subst (New m) (same_Some (begin m) y (sym new.3 ∙ is)) (begins m new.1))
      ]

  pub from_each : (t : Tables X) (f : X → X) → ((x : X) → R x (f x)) → FromIn R New t (each f t)
  from_each t f keeps m y is = go (lookup t m) refl
    where
      go : (o : Option X) → lookup t m ≡ o → ((x : X) × (lookup t m ≡ Some x) × R x y) ⊎ New m y
      go None e = absurd (none-some y (sym (lookup_each f t m ∙ ap (option_map f) e) ∙ is))
      go (Some x) e = inl (x, e, subst (R x) (same_Some (f x) y (sym (lookup_each f t m ∙ ap (option_map f) e) ∙ is)) (keeps x))

-- Sending halves, where no STOP_SENDING comes

abbrev pub Firm : SendLane → SendLane → Type 0
Firm l m = (m.written ≡ l.written) × (m.finished ≡ l.finished) × (m.was_reset ≡ l.was_reset) × (m.sent_end ≡ l.sent_end)

abbrev pub Fresh : ℕ → SendLane → Type 0
Fresh n m = (m.written ≡ 0) × (m.finished ≡ false) × (m.was_reset ≡ None)

abbrev pub SendsFrom : Tables SendLane → Tables SendLane → Type 0
SendsFrom t u = FromIn Firm Fresh t u

firm_same : (l : SendLane) → Firm l l
firm_same l = (refl, refl, refl, refl)

firm_twice : (l m k : SendLane) → Firm l m → Firm m k → Firm l k
firm_twice l m k a b = (b.0 ∙ a.0, b.1 ∙ a.1, b.2 ∙ a.2, b.3 ∙ a.3)

fresh_grown : (n : ℕ) (l m : SendLane) → Fresh n l → Firm l m → Fresh n m
fresh_grown n l m a b = (b.0 ∙ a.0, b.1 ∙ a.1, b.2 ∙ a.2)

pub sends_same : (t : Tables SendLane) → SendsFrom t t
sends_same t = from_same Firm Fresh firm_same t

sends_twice : (t u v : Tables SendLane) → SendsFrom t u → SendsFrom u v → SendsFrom t v
sends_twice t u v a b = from_twice Firm Fresh firm_same firm_twice fresh_grown t u v a b

sends_edited : (t : Tables SendLane) (n : ℕ) (f : SendLane → SendLane) → ((l : SendLane) → Firm l (f l)) → SendsFrom t (updated t n f (lookup t n))
sends_edited t n f keeps = from_updated Firm Fresh firm_same t n f keeps

sends_opened : (n : ℕ) (e : End) → SendsFrom e.sends (opened_by_peer n e).sends
sends_opened n e =
    cond_both (is_own e n) e (opens n e) (λ x. SendsFrom e.sends x.sends) (λ _. sends_same e.sends) (λ _.
    cond_both (is_uni n && not (is_own e n)) e.sends _ (SendsFrom e.sends) (λ _. sends_same e.sends) (λ _. from_open Firm Fresh firm_same e.sends n (λ m. new_send_lane m (first_send_limit e n) e.settings.send_buffer) (λ m kind. (refl, refl, refl))))

sends_piece : (p : Piece) (e : End) → SendsFrom e.sends (piece_acked p e).sends
sends_piece (Data n c) e = sends_edited e.sends n (λ l. acked_lane l c) firm_same
sends_piece (Told (ResetStream n code size)) e = sends_edited e.sends n reset_acked_lane firm_same
sends_piece (Told (MaxStreams Uni m)) e = sends_same e.sends
sends_piece (Told (StreamsBlocked Uni m)) e = sends_same e.sends
sends_piece (Told i) e = sends_same e.sends

sends_acks : (ps : List AckedPiece) (e : End) → SendsFrom e.sends (acks ps e).sends
unfolding acks
sends_acks [] e = sends_same e.sends
sends_acks (a ∷ ps) e = sends_twice e.sends (first_acked a e).sends (acks ps (first_acked a e)).sends (sends_piece a.piece (without_piece a.late a.number e)) (sends_acks ps (first_acked a e))

abbrev pub IsStop : Seen → Type 0
IsStop (Control (StopSending n code)) = ⊤
IsStop f = ⊥

sends_frame : (f : Seen) (e : End) → (IsStop f → ⊥) → SendsFrom e.sends (frame_taken f e).sends
unfolding frame_taken
sends_frame (Ack largest ranges) e other = sends_acks (named e ranges) e
sends_frame (Stream n offset bytes fin) e other = sends_opened n e
sends_frame (Control (MaxStreamData n m)) e other = sends_twice e.sends (opened_by_peer n e).sends _ (sends_opened n e) (sends_edited (opened_by_peer n e).sends n (λ l. allow_lane l m) firm_same)
sends_frame (Control (MaxStreams Uni m)) e other = sends_same e.sends
sends_frame (Control (ResetStream n code size)) e other = sends_opened n e
sends_frame (Control (StopSending n code)) e other = absurd (other tt)
sends_frame (Control (StreamDataBlocked n m)) e other = sends_opened n e
sends_frame f e other = sends_same e.sends

pub sends_frames : (fs : List Seen) (e : End) → ((f : Seen) → Among f fs → IsStop f → ⊥) → SendsFrom e.sends (frames_taken fs e).sends
unfolding frames_taken
sends_frames [] e others = sends_same e.sends
sends_frames (f ∷ fs) e others = sends_twice e.sends (frame_taken f e).sends (frames_taken fs (frame_taken f e)).sends (sends_frame f e (others f (inl refl))) (sends_frames fs (frame_taken f e) (λ g later. others g (inr later)))

-- Receiving halves, where neither data nor a reset comes

-- a half that is opened by the peer
abbrev pub Begun : End → ℕ → RecvLane → Type 0
Begun e n r = r ≡ new_recv_lane (first_window e n) e.tuning.credit_step

abbrev pub Same : RecvLane → RecvLane → Type 0
Same l m = m ≡ l

abbrev pub RecvsFrom : End → Tables RecvLane → Tables RecvLane → Type 0
RecvsFrom base t u = FromIn Same (Begun base) t u

pub recvs_same : (base : End) (t : Tables RecvLane) → RecvsFrom base t t
recvs_same base t = from_same Same (Begun base) (λ l. refl) t

pub recvs_twice : (base : End) (t u v : Tables RecvLane) → RecvsFrom base t u → RecvsFrom base u v → RecvsFrom base t v
recvs_twice base t u v a b = from_twice Same (Begun base) (λ l. refl) (λ l m k x y. y ∙ x) (λ n l m new is. is ∙ new) t u v a b

-- streams of a type have a first window in common
pub window_by : (e : End) (n m : ℕ) → m % 4 ≡ n % 4 → first_window e m ≡ first_window e n
window_by e n m same = rw same refl

recvs_opened : (base : End) (n : ℕ) (e : End) → but_streams e ≡ but_streams base → RecvsFrom base e.recvs (opened_by_peer n e).recvs
recvs_opened base n e stands =
    cond_both (is_own e n) e (opens n e) (λ x. RecvsFrom base e.recvs x.recvs) (λ _. recvs_same base e.recvs) (λ _.
    cond_both (is_uni n && is_own e n) e.recvs _ (RecvsFrom base e.recvs) (λ _. recvs_same base e.recvs) (λ _.
    from_open Same (Begun base) (λ l. refl) e.recvs n (λ m. new_recv_lane (first_window e n) e.tuning.credit_step)
    (λ m kind. ap (λ k. new_recv_lane k e.tuning.credit_step) (sym (window_by e n m kind)) ∙ ap (λ (x : End). new_recv_lane (first_window x m) x.tuning.credit_step) stands)))

abbrev pub IsSoft : Seen → Type 0
IsSoft (Stream n offset bytes fin) = ⊥
IsSoft (Control (ResetStream n code size)) = ⊥
IsSoft (Control (StopSending n code)) = ⊥
IsSoft f = ⊤

recvs_frame : (base : End) (f : Seen) (e : End) → but_streams e ≡ but_streams base → IsSoft f → RecvsFrom base e.recvs (frame_taken f e).recvs
unfolding frame_taken
recvs_frame base (Ack largest ranges) e stands soft = subst (RecvsFrom base e.recvs) (sym (ap (λ (x : End). x.recvs) (acks_leave (named e ranges) e))) (recvs_same base e.recvs)
recvs_frame base (Control (MaxStreamData n m)) e stands soft = recvs_opened base n e stands
recvs_frame base (Control (MaxStreams Uni m)) e stands soft = recvs_same base e.recvs
recvs_frame base (Control (StreamDataBlocked n m)) e stands soft = recvs_opened base n e stands
recvs_frame base (Stream n offset bytes fin) e stands soft = absurd soft
recvs_frame base (Control (ResetStream n code size)) e stands soft = absurd soft
recvs_frame base (Control (StopSending n code)) e stands soft = absurd soft
recvs_frame base f e stands soft = recvs_same base e.recvs

pub recvs_frames : (base : End) (fs : List Seen) (e : End) → but_streams e ≡ but_streams base → ((f : Seen) → Among f fs → IsSoft f) → RecvsFrom base e.recvs (frames_taken fs e).recvs × (but_streams (frames_taken fs e) ≡ but_streams base)
unfolding frames_taken
recvs_frames base [] e stands soft = (recvs_same base e.recvs, stands)
recvs_frames base (f ∷ fs) e stands soft =
    let (rest, left) = recvs_frames base fs (frame_taken f e) (frame_leaves f e ∙ stands) (λ g later. soft g (inr later)) in
    (recvs_twice base e.recvs (frame_taken f e).recvs (frames_taken fs (frame_taken f e)).recvs (recvs_frame base f e stands (soft f (inl refl))) rest, left)

-- Stops, in calm calls

abbrev SameStop : RecvLane → RecvLane → Type 0
SameStop l m = m.stop_code ≡ l.stop_code

abbrev Unstopped : ℕ → RecvLane → Type 0
Unstopped n m = m.stop_code ≡ None

abbrev pub StopsFrom : Tables RecvLane → Tables RecvLane → Type 0
StopsFrom t u = FromIn SameStop Unstopped t u

pub stops_same : (t : Tables RecvLane) → StopsFrom t t
stops_same t = from_same SameStop Unstopped (λ l. refl) t

stops_twice : (t u v : Tables RecvLane) → StopsFrom t u → StopsFrom u v → StopsFrom t v
stops_twice t u v a b = from_twice SameStop Unstopped (λ l. refl) (λ l m k x y. y ∙ x) (λ n l m new is. is ∙ new) t u v a b

stops_edited : (t : Tables RecvLane) (n : ℕ) (f : RecvLane → RecvLane) → ((l : RecvLane) → SameStop l (f l)) → StopsFrom t (updated t n f (lookup t n))
stops_edited t n f keeps = from_updated SameStop Unstopped (λ l. refl) t n f keeps

stops_settled : (t : Tables RecvLane) → StopsFrom t (each raise t)
stops_settled t = from_each SameStop Unstopped (λ l. refl) t raise (λ l. refl)

stops_opened : (n : ℕ) (e : End) → StopsFrom e.recvs (opened_by_peer n e).recvs
stops_opened n e =
    cond_both (is_own e n) e (opens n e) (λ x. StopsFrom e.recvs x.recvs) (λ _. stops_same e.recvs) (λ _.
    cond_both (is_uni n && is_own e n) e.recvs _ (StopsFrom e.recvs) (λ _. stops_same e.recvs) (λ _. from_open SameStop Unstopped (λ l. refl) e.recvs n (λ m. new_recv_lane (first_window e n) e.tuning.credit_step) (λ m kind. refl)))

read_stop : (size : ℕ) (l : RecvLane) → SameStop l (after_read l size)
read_stop size l = by (read_answer l size)
  where
    by : (answer : Read) → SameStop l (after_answer answer l size)
    by answer = grind arith

reset_stop : (code size : ℕ) (l : RecvLane) → SameStop l (take_reset l code size)
reset_stop code size l = cond_both (is_some l.reset_code || is_whole l) l (record l { arrived = forget l.arrived; final_size = Some size; reset_code = Some code }) (SameStop l) (λ _. refl) (λ _. refl)

stops_frame : (f : Seen) (e : End) → StopsFrom e.recvs (frame_taken f e).recvs
unfolding frame_taken
stops_frame (Ack largest ranges) e = subst (StopsFrom e.recvs) (sym (ap (λ (x : End). x.recvs) (acks_leave (named e ranges) e))) (stops_same e.recvs)
stops_frame (Stream n offset bytes fin) e = stops_twice e.recvs (opened_by_peer n e).recvs _ (stops_opened n e) (stops_edited (opened_by_peer n e).recvs n (λ l. take_stream l offset bytes fin) (λ l. refl))
stops_frame (Control (MaxStreamData n m)) e = stops_opened n e
stops_frame (Control (MaxStreams Uni m)) e = stops_same e.recvs
stops_frame (Control (ResetStream n code size)) e = stops_twice e.recvs (opened_by_peer n e).recvs _ (stops_opened n e) (stops_edited (opened_by_peer n e).recvs n (λ l. take_reset l code size) (reset_stop code size))
stops_frame (Control (StopSending n code)) e = stops_opened n e
stops_frame (Control (StreamDataBlocked n m)) e = stops_opened n e
stops_frame f e = stops_same e.recvs

stops_frames : (fs : List Seen) (e : End) → StopsFrom e.recvs (frames_taken fs e).recvs
unfolding frames_taken
stops_frames [] e = stops_same e.recvs
stops_frames (f ∷ fs) e = stops_twice e.recvs (frame_taken f e).recvs (frames_taken fs (frame_taken f e)).recvs (stops_frame f e) (stops_frames fs (frame_taken f e))

stops_ends : (e mid : End) → Ends e mid → StopsFrom e.recvs mid.recvs
stops_ends e mid (inl is) = subst (λ (x : End). StopsFrom e.recvs x.recvs) (sym is) (stops_same e.recvs)
stops_ends e mid (inr (inl (c, is))) = subst (λ (x : End). StopsFrom e.recvs x.recvs) (sym is) (stops_same e.recvs)
stops_ends e mid (inr (inr (inl (number, asks, is)))) = subst (λ (x : End). StopsFrom e.recvs x.recvs) (sym is) (stops_same e.recvs)
stops_ends e mid (inr (inr (inr (count, ranges, is)))) =
    subst (λ (x : End). StopsFrom e.recvs x.recvs) (sym is) (subst (StopsFrom e.recvs) (sym (ap (λ (x : End). x.recvs) (acks_leave (take count (named e ranges)) e))) (stops_same e.recvs))

pub stops_forms : (old : End) → Forms old (λ (e : End). StopsFrom old.recvs e.recvs)
stops_forms old =
    record {
      same = stops_same old.recvs;
      claims = stops_same old.recvs;
      accepts = λ bidi uni. stops_settled old.recvs;
      reads = λ n size. stops_twice old.recvs (on_recv n (λ m. after_read m size) old).recvs _ (stops_edited old.recvs n (λ m. after_read m size) (read_stop size)) (stops_settled _);
      consumes = λ n size.
          let first = on_recv n (λ m. after_read m size) old in
          stops_twice old.recvs first.recvs _ (stops_edited old.recvs n (λ m. after_read m size) (read_stop size))
          (stops_twice first.recvs (on_recv n (λ m. after_read m 0) first).recvs _ (stops_edited first.recvs n (λ m. after_read m 0) (read_stop 0)) (stops_settled _));
      packet = λ fs last filled. subst (λ t. StopsFrom old.recvs (each raise t)) (sym (ap (λ (x : End). x.recvs) (fills_leave old fs old last filled))) (stops_settled old.recvs);
      frames = λ fs mid none ends. stops_twice old.recvs (frames_taken fs old).recvs _ (stops_frames fs old) (stops_twice (frames_taken fs old).recvs mid.recvs _ (stops_ends (frames_taken fs old) mid ends) (stops_settled mid.recvs));
    }
