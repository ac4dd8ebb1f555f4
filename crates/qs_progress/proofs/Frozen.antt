-- Frames that come and raise no score change nothing but records.
use Rattle.std.proofs.Common.{◌≡◌, ℕ, ◌+◌, ◌≤◌, Bool, true, false, not, ◌&&◌, ◌||◌, cond, List, [], ◌∷◌, ◌⊎◌, length, Some, None, is_some, refl, sym, ap, ◌∙◌, subst, arith, inl, inr}
use Rattle.std.specs.FinSet as set
use Rattle.std.proofs.lemmas.Bool.{or_cases, or_left, or_right, true≢false}
use Rattle.std.proofs.lemmas.Option.{same_Some}
use Rattle.qs_ranges.specs.Numbers.{contains-with_range, is_within}
use Rattle.std.proofs.lemmas.Bool.Decides.{nat_tests}
use Rattle.qs_wire.specs.declared.stream_id.Dir.{Dir}
use Rattle.qs_wire.specs.declared.stream_id.Dir.TheVariants.{Bidi, Uni}
use Rattle.qs_recv.specs.Assembled.{put, forget}
use Rattle.qs_recv.specs.Lane.{RecvLane, take_stream, take_reset, is_whole}
use Rattle.qs_send.specs.Lane.{SendLane, stop_taken, allow_lane}
use Rattle.qs_send.specs.declared.piece.Item.{Item}
use Rattle.qs_send.specs.declared.piece.Item.TheVariants.{MaxData, MaxStreamData, MaxStreams, ResetStream, StopSending, DataBlocked, StreamDataBlocked, StreamsBlocked}
use Rattle.qs_machine.specs.Tables.{Tables, lookup, updated}
use Rattle.qs_machine.specs.Ends.{End, is_own, is_own_by, is_uni, first_send_limit, opens, opened_by_peer}
use Rattle.qs_machine.specs.Due.{known_count}
use Rattle.qs_machine.specs.Seen.{Seen, Ack, Stream, Control, Close, Plain}
use Rattle.qs_machine.specs.Verdicts.{verdict, lane_of}
use Rattle.qs_machine.specs.FrameStep.{frame_taken, frames_taken, named, NoFault}
use Rattle.qs_machine.specs.Receiving.{GoesOn}
use Rattle.qs_machine.specs.Standing.{IsSound, IsInCredit}
use Rattle.qs_machine.specs.Repeats.{SentWasWritten}
use Rattle.qs_machine.proofs.EveryCall.{not_chosen}
use Rattle.qs_machine.proofs.TablesAfter.{KeptIn, still_open}
use Rattle.qs_machine.proofs.Taken.{in_there, out_there, stream_in, reset_in}
use Rattle.qs_machine.proofs.LanesAgain.{LaneAfter, put_again}
use Rattle.qs_machine.proofs.EndsAfter.{IsAfter, HalfAfter, after_twice, mid_stream, mid_reset, mid_allow, mid_stop}
use Rattle.qs_machine.proofs.Again.{WasOpened, IsStopped, opens_it, opened_back, recv_back, send_back, stopped_back, allow_back, changed, first_goes, one_left, all_left}
use Rattle.qs_progress.specs.Score.{first_count, score}
use Rattle.qs_progress.proofs.Score.{Goes}
use Rattle.qs_progress.proofs.Outstanding.{the_one}
use Rattle.qs_progress.proofs.Even.{members_even, open_even, broken_even, limit_even, received_even, size_even, code_even, known_even, known_count_even}
use Rattle.qs_progress.proofs.Alike.{but_records, SendsAlike, alike_at, alike_back, slots_same, slots_twice, alike_acks, acks_rest}

-- what holds of an end that is told its peer's first limits, in every run
pub record IsSteady (e : End) : Type 0 where
  pub credit : e.peer.max_data ≤ e.known_data
  pub counts : (d : Dir) → first_count e.peer d ≤ known_count e d
  pub limits : (n : ℕ) (l : SendLane) → lookup e.sends n ≡ Some l → first_send_limit e n ≤ l.limit
  pub both : (n : ℕ) → is_own e n ≡ false → is_uni n ≡ false → is_some (lookup e.recvs n) ≡ true → is_some (lookup e.sends n) ≡ true
  pub stops : e.tuning.answers_stops ≡ false → (n : ℕ) (l : SendLane) → lookup e.sends n ≡ Some l → is_some l.stopped ≡ true → is_some l.was_reset ≡ true

none_and : (b : Bool) → (b && false) ≡ false
none_and b = grind (arith, nat_tests)

module _ (old new : End) (g : Goes old new) (even : score new ≤ score old) (steady : IsSteady old) (kept : KeptIn LaneAfter old.recvs new.recvs) where
  module _ (e : End) (same : but_records e ≡ but_records old) (alike : SendsAlike old.sends e.sends) where
    recvs_same : e.recvs ≡ old.recvs
    recvs_same = ap (λ (x : End). x.recvs) same

    role_same : e.role ≡ old.role
    role_same = ap (λ (x : End). x.role) same

    at_old : (n : ℕ) (l : RecvLane) → lookup e.recvs n ≡ Some l → lookup old.recvs n ≡ Some l
    at_old n l is = ap (λ (t : Tables RecvLane). lookup t n) (sym recvs_same) ∙ is

    -- a stream that is named was open
    was_open : (n : ℕ) → IsAfter (opened_by_peer n e) new → WasOpened e n
    was_open n x other =
        let mid = opened_by_peer n e in
        let opened : is_some (lookup mid.recvs n) ≡ true = subst (λ (y : End). is_some (lookup y.recvs n) ≡ true) (sym (not_chosen (is_own e n) e (opens n e) other)) ((opens_it n e).recvs (ap (λ b. is_uni n && b) other ∙ none_and (is_uni n))) in
        let later = still_open LaneAfter mid.recvs new.recvs n x.recvs opened in
        let foreign : is_own new n ≡ false = ap (λ r. is_own_by r n) (g.role ∙ sym role_same) ∙ other in
        let before : is_some (lookup old.recvs n) ≡ true = open_even old new g even n foreign later in
        record {
          recvs = λ c. subst (λ (t : Tables RecvLane). is_some (lookup t n) ≡ true) (sym recvs_same) before;
          sends = λ c.
              let bidi : is_uni n ≡ false = one_way (is_uni n) (is_own e n) other c in
              let (l, at) = the_one (lookup old.sends n) (steady.both n (ap (λ r. is_own_by r n) (sym role_same) ∙ other) bidi before) in
              let (m, there, a) = alike_at old.sends e.sends alike n l at in
              ap is_some there;
        }
      where
        one_way : (u o : Bool) → o ≡ false → (u && not o) ≡ false → u ≡ false
        one_way u o is c = grind (arith, nat_tests)

    -- Frames on what the peer sends

    module _ (n : ℕ) (l x : RecvLane) (at : lookup e.recvs n ≡ Some l) (led : (m : RecvLane) → lookup new.recvs n ≡ Some m → LaneAfter x m) where
      there : (m : RecvLane) × (lookup new.recvs n ≡ Some m) × LaneAfter l m
      there = kept n l (at_old n l at)

      back : (q : ℕ) → set.contains x.arrived.received q ≡ true → set.contains l.arrived.received q ≡ true
      back q is = members_even l.arrived.received there.0.arrived.received there.2.received (received_even old new g even n l there.0 (at_old n l at) there.1) q ((led there.0 there.1).received q is)

      -- a final size that is known now was known
      size_back : (s : ℕ) → x.final_size ≡ Some s → l.final_size ≡ Some s
      size_back s is =
          let now : there.0.final_size ≡ Some s = (led there.0 there.1).size s is in
          let (k, known) = the_one l.final_size (size_even old new g even n l there.0 (at_old n l at) there.1 (ap is_some now)) in
          known ∙ sym (there.2.size k known) ∙ now

      code_back : is_some x.reset_code ≡ true → is_some l.reset_code ≡ true
      code_back is = code_even old new g even n l there.0 (at_old n l at) there.1 ((led there.0 there.1).reset is)

    stream_same : (n offset : ℕ) (bytes : List ℕ) (fin : Bool) (l : RecvLane) → lookup e.recvs n ≡ Some l → ((m : RecvLane) → lookup new.recvs n ≡ Some m → LaneAfter (take_stream l offset bytes fin) m) → take_stream l offset bytes fin ≡ l
    stream_same n offset bytes fin l at led = λ i. record l { arrived = arrived (is_some l.reset_code) refl i; final_size = size fin refl i }
      where
        arrived : (b : Bool) → is_some l.reset_code ≡ b → cond (is_some l.reset_code) l.arrived (put l.arrived offset bytes) ≡ l.arrived
        arrived true is = ap (λ b. cond b l.arrived (put l.arrived offset bytes)) is
        arrived false is =
            let come : cond (is_some l.reset_code) l.arrived (put l.arrived offset bytes) ≡ put l.arrived offset bytes = ap (λ b. cond b l.arrived (put l.arrived offset bytes)) is in
            come ∙ put_again l.arrived offset bytes (λ q low high.
            let here : is_within offset (offset + length bytes) q ≡ true = grind (arith, nat_tests) in
            back n l (take_stream l offset bytes fin) at led q (ap (λ a. set.contains a.received q) come ∙ contains-with_range l.arrived.received offset (offset + length bytes) q ∙ or_right _ _ here))

        size : (b : Bool) → fin ≡ b → cond fin (Some (offset + length bytes)) l.final_size ≡ l.final_size
        size false is = ap (λ b. cond b (Some (offset + length bytes)) l.final_size) is
        size true is =
            let come : cond fin (Some (offset + length bytes)) l.final_size ≡ Some (offset + length bytes) = ap (λ b. cond b (Some (offset + length bytes)) l.final_size) is in
            come ∙ sym (size_back n l (take_stream l offset bytes fin) at led (offset + length bytes) come)

    reset_same : (n code size : ℕ) (l : RecvLane) → lookup e.recvs n ≡ Some l → ((m : RecvLane) → lookup new.recvs n ≡ Some m → LaneAfter (take_reset l code size) m) → take_reset l code size ≡ l
    reset_same n code size l at led = go (is_some l.reset_code || is_whole l) refl
      where
        fresh : RecvLane
        fresh = record l { arrived = forget l.arrived; final_size = Some size; reset_code = Some code }

        go : (b : Bool) → (is_some l.reset_code || is_whole l) ≡ b → cond (is_some l.reset_code || is_whole l) l fresh ≡ l
        go true is = ap (λ b. cond b l fresh) is
        go false is =
            let come : cond (is_some l.reset_code || is_whole l) l fresh ≡ fresh = ap (λ b. cond b l fresh) is in
            absurd (true≢false (sym (or_left _ _ (code_back n l (take_reset l code size) at led (ap (λ (k : RecvLane). is_some k.reset_code) come))) ∙ is))

    -- Frames on what this end sends

    module _ (n : ℕ) (l x : SendLane) (at : lookup e.sends n ≡ Some l) (mid : End) (there : lookup mid.sends n ≡ Some x) (after : IsAfter mid new) where
      before : (k : SendLane) × (lookup old.sends n ≡ Some k) × ((k.limit ≡ l.limit) × (k.stopped ≡ l.stopped) × (k.was_reset ≡ l.was_reset))
      before = let (k, is, a) = alike_back old.sends e.sends alike n l at in (k, is, (sym a.limit, sym a.stopped, sym a.was_reset))

      later : (k : SendLane) × (lookup new.sends n ≡ Some k) × HalfAfter x k
      later = after.sends n x there

      limit_back : x.limit ≤ l.limit
      limit_back =
          let few = limit_even old new g even n before.0 later.0 before.1 later.1 (steady.limits n before.0 before.1) in
          omega (arith, few, later.2.limit, before.2.0)

      stop_back : is_some x.stopped ≡ true → (is_some l.stopped ≡ true) ⊎ (is_some l.was_reset ≡ true)
      stop_back is =
          elim (or_cases (is_some before.0.stopped) (is_some before.0.was_reset) (broken_even old new g even n before.0 later.0 before.1 later.1 (or_left _ _ (later.2.stopped is)))) [
            | inl told ↦ inl (ap is_some (sym before.2.1) ∙ told)
            | inr reset ↦ inr (ap is_some (sym before.2.2) ∙ reset)
          ]

    stopped_was : (n code : ℕ) (l : SendLane) → lookup e.sends n ≡ Some l → ((is_some (stop_taken e.tuning.answers_stops l code).stopped ≡ true) → (is_some l.stopped ≡ true) ⊎ (is_some l.was_reset ≡ true)) → IsStopped e.tuning.answers_stops l
    stopped_was n code l at told = grind (arith, nat_tests)

    led_lane : (n : ℕ) (f : RecvLane → RecvLane) (l : RecvLane) (mid after : End) → lookup mid.recvs n ≡ Some l → after.recvs ≡ updated mid.recvs n f (lookup mid.recvs n) → IsAfter after new → (m : RecvLane) → lookup new.recvs n ≡ Some m → LaneAfter (f l) m
    led_lane n f l mid after at is x m there =
        let (k, found, r) = x.recvs n (f l) (ap (λ (t : Tables RecvLane). lookup t n) is ∙ changed mid.recvs n f l at) in
        subst (LaneAfter (f l)) (same_Some k m (sym found ∙ there)) r

    item_same : (i : Item) → verdict e (Control i) ≡ None → IsInCredit e → IsAfter (frame_taken (Control i) e) new → frame_taken (Control i) e ≡ e
    unfolding frame_taken verdict
    item_same (MaxData m) v sound x =
        let few = known_even old new g even steady.credit in
        let was : e.known_data ≡ old.known_data = ap (λ (y : End). y.known_data) same in
        ap (λ k. record e { known_data = k }) (omega (arith, x.credit, few, was))
    item_same (MaxStreamData n m) v sound x =
        let mid = opened_by_peer n e in
        let was = was_open n (after_twice mid _ new (mid_allow n m e) x) in
        let (l, there) = the_one (lookup mid.sends n) (out_there e mid n v refl) in
        let at : lookup e.sends n ≡ Some l = subst (λ (y : End). lookup y.sends n ≡ Some l) (opened_back n e was) there in
        let le = limit_back n l (allow_lane l m) at (frame_taken (Control (MaxStreamData n m)) e) (changed mid.sends n (λ k. allow_lane k m) l there) x in
        send_back n (λ k. allow_lane k m) l e was at (allow_back l m (omega (arith, le)))
    item_same (MaxStreams Bidi m) v sound x =
        let few = known_count_even old new g even Bidi (steady.counts Bidi) in
        let was : e.known_bidi ≡ old.known_bidi = ap (λ (y : End). y.known_bidi) same in
        ap (λ k. record e { known_bidi = k }) (omega (arith, x.bidi, few, was))
    item_same (MaxStreams Uni m) v sound x =
        let few = known_count_even old new g even Uni (steady.counts Uni) in
        let was : e.known_uni ≡ old.known_uni = ap (λ (y : End). y.known_uni) same in
        ap (λ k. record e { known_uni = k }) (omega (arith, x.uni, few, was))
    item_same (ResetStream n code size) v sound x =
        let mid = opened_by_peer n e in
        let was = was_open n (after_twice mid _ new (mid_reset n code size e v sound) x) in
        let there = in_there e mid n (reset_in e n code size v) refl in
        let at : lookup e.recvs n ≡ Some (lane_of e n) = subst (λ (y : End). lookup y.recvs n ≡ Some (lane_of e n)) (opened_back n e was) there in
        recv_back n (λ l. take_reset l code size) (lane_of e n) e was at (reset_same n code size (lane_of e n) at (led_lane n (λ l. take_reset l code size) (lane_of e n) mid (frame_taken (Control (ResetStream n code size)) e) there refl x))
    item_same (StopSending n code) v sound x =
        let mid = opened_by_peer n e in
        let answers = e.tuning.answers_stops in
        let was = was_open n (after_twice mid _ new (mid_stop answers n code e) x) in
        let (l, there) = the_one (lookup mid.sends n) (out_there e mid n v refl) in
        let at : lookup e.sends n ≡ Some l = subst (λ (y : End). lookup y.sends n ≡ Some l) (opened_back n e was) there in
        send_back n (λ k. stop_taken answers k code) l e was at
        (stopped_back answers l code (stopped_was n code l at (stop_back n l (stop_taken answers l code) at (frame_taken (Control (StopSending n code)) e) (changed mid.sends n (λ k. stop_taken answers k code) l there) x)))
    item_same (DataBlocked m) v sound x = refl
    item_same (StreamDataBlocked n m) v sound x = opened_back n e (was_open n x)
    item_same (StreamsBlocked d m) v sound x = refl

    -- the end but for its records, and its halves but for what is acknowledged
    abbrev IsLike : End → Type 0
    IsLike y = (but_records y ≡ but_records e) × SendsAlike e.sends y.sends

    frame_like : (f : Seen) → GoesOn e f → IsInCredit e → IsAfter (frame_taken f e) new → IsLike (frame_taken f e)
    unfolding frame_taken
    frame_like (Ack largest ranges) goes sound x = (acks_rest (named e ranges) e, alike_acks (named e ranges) e)
    frame_like (Stream n offset bytes fin) v sound x =
        let mid = opened_by_peer n e in
        let was = was_open n (after_twice mid _ new (mid_stream n offset bytes fin e v sound) x) in
        let there = in_there e mid n (stream_in e n offset bytes fin v) refl in
        let at : lookup e.recvs n ≡ Some (lane_of e n) = subst (λ (y : End). lookup y.recvs n ≡ Some (lane_of e n)) (opened_back n e was) there in
        let is = recv_back n (λ l. take_stream l offset bytes fin) (lane_of e n) e was at (stream_same n offset bytes fin (lane_of e n) at (led_lane n (λ l. take_stream l offset bytes fin) (lane_of e n) mid (frame_taken (Stream n offset bytes fin) e) there refl x)) in
        subst IsLike (sym is) (refl, slots_same e.sends)
    frame_like (Control i) v sound x = subst IsLike (sym (item_same i v sound x)) (refl, slots_same e.sends)
    frame_like (Close code) goes sound x = absurd goes
    frame_like (Plain asks) goes sound x = (refl, slots_same e.sends)

  -- and so frame after frame
  pub frames_like : (fs : List Seen) (e : End) → but_records e ≡ but_records old → SendsAlike old.sends e.sends → IsSound e → SentWasWritten e → NoFault e fs → IsAfter (frames_taken fs e) new
      → (but_records (frames_taken fs e) ≡ but_records old) × SendsAlike old.sends (frames_taken fs e).sends
  unfolding frames_taken
  frames_like [] e same alike sound sent none x = (same, alike)
  frames_like (f ∷ fs) e same alike sound sent none x =
      let (goes, rest) = first_goes e f fs none in
      let one = one_left f e goes sound sent in
      let more = all_left fs (frame_taken f e) one.sound one.sent rest in
      let (is, like) = frame_like e same alike f goes sound.0 (after_twice (frame_taken f e) (frames_taken fs (frame_taken f e)) new more.after x) in
      frames_like fs (frame_taken f e) (is ∙ same) (slots_twice old.sends e.sends (frame_taken f e).sends alike like) one.sound one.sent rest x
