-- Rest comes two rounds after nothing is left to send.
use Rattle.std.proofs.Common.{◌≡◌, ℕ, zero, suc, ◌+◌, ◌*◌, true, List, [], ◌∷◌, Option, Some, None, refl, sym, ap, ◌∙◌, subst, inl, inr, arith}
use Rattle.std.specs.Prelude.{⊤}
use Rattle.std.proofs.lemmas.Bool.Decides.{nat_tests}
use Rattle.qs_recv.specs.Lane.{RecvLane, read_answer, answer_by, after_read, after_answer}
use Rattle.qs_calls.specs.declared.event.Side.{Side}
use Rattle.qs_calls.specs.declared.event.Side.TheVariants.{A, B}
use Rattle.qs_calls.specs.declared.settings.Settings.{Settings}
use Rattle.qs_calls.specs.declared.uses.UseFault.{UseFault}
use Rattle.qs_wire.specs.declared.stream_id.Dir.{Dir}
use Rattle.qs_wire.specs.declared.stream_id.Dir.TheVariants.{Bidi, Uni}
use Rattle.qs_machine.specs.Tables.{Tables, lookup}
use Rattle.qs_machine.specs.Ends.{End, on_recv, peer_type}
use Rattle.qs_machine.specs.Credit.{settle}
use Rattle.qs_machine.specs.Owner.{GivesUni, GivesBidi, GivesNone, AcceptOpen, AcceptOpenOf, AcceptStep, AcceptOfStep, ReadBy, recv_refusal, is_read_no_more}
use Rattle.qs_machine.specs.EndStep.{Call, Answer, EndStep, Accept, AcceptOf, ReadUpTo, Consume, Peek}
use Rattle.qs_machine.specs.FrameStep.{frames_taken}
use Rattle.qs_machine.specs.Plains.{frames_in}
use Rattle.qs_machine.proofs.EveryCall.{by_refusal, by_test}
use Rattle.qs_machine.proofs.TablesAfter.{updated_back}
use Rattle.qs_runs.specs.Logs.{Happening, other}
use Rattle.qs_runs.specs.Worlds.{World, end_of, WorldStep}
use Rattle.qs_runs.proofs.Claims.{run_settled}
use Rattle.qs_runs.proofs.Histories.{two_sides}
use Rattle.qs_rest.specs.Rest.{HasMore, TellsNoNews}
use Rattle.qs_progress.specs.Laps.{Moment, Trail}
use Rattle.qs_progress.specs.Comes.{BothOpen, BothRest, IsReached}
use Rattle.qs_progress.specs.Rounds.{Way, Packets, Tokens, Idles, Delivers, IsRead, TakesTurn, Round}
use Rattle.qs_progress.proofs.Trails.{reached}
use Rattle.qs_progress.proofs.Passing.{IsClear}
use Rattle.qs_progress.specs.Outstanding.{IsIn}
use Rattle.qs_progress.proofs.Turns.{IsSame, as_was, same_as, same_out, Sends, loses, loses_trail, other_twice, passed}
use Rattle.qs_progress.proofs.ByTokens.{exchanged, told_by}
use Rattle.qs_progress.proofs.ComesInRounds.{read_calm}
use Rattle.qs_progress.proofs.Clear.{a_clear, a_clear_mid, b_clear, r_mid}
use Rattle.qs_progress.proofs.Onward.{onward}
use Rattle.qs_progress.proofs.Landed.{Landed, turned}
use Rattle.qs_progress.proofs.ReadInRounds.{Half, a_half, b_half, NoneLeft}
use Rattle.qs_progress.proofs.From.{SendsFrom, sends_same}
use Rattle.qs_progress.proofs.Ceased.{CalmStep, calm_step, NoStops, IsSpent, AllDone, IsReadOut, stops_stay, spent_stays, done_stays, spent_at, done_at}
use Rattle.qs_progress.proofs.Eased.{NoLimits, NoBlocks, read_out_stays, limits_stay, blocks_stay}
use Rattle.qs_progress.proofs.Moves.{Step, Moves, moved, takes_spent, puts_none, nothing_due}

-- Two calls, one of each end

calm_then : (e f g : End) → g ≡ f → CalmStep e f → CalmStep e g
calm_then e f g is x = subst (CalmStep e) (sym is) x

calm_since : (e f g : End) → f ≡ e → CalmStep f g → CalmStep e g
calm_since e f g is x = subst (λ y. CalmStep y g) is x

-- Reads

told_same : (l : RecvLane) → l.reader_done ≡ true → record l { reader_done = true } ≡ l
told_same l told = λ i. record l { reader_done = sym told i }

-- a read that has no news changes nothing
no_news_same : (l : RecvLane) (size : ℕ) → TellsNoNews (read_answer l 1) l → after_read l size ≡ l
no_news_same l size quiet = by l.reset_code quiet
  where
    by : (o : Option ℕ) → TellsNoNews (answer_by o l 1) l → after_answer (answer_by o l size) l size ≡ l
    by o none = grind (arith, nat_tests, told_same)

module _ (e : End) (settled : settle e ≡ e) where
  -- an end that accepts a stream
  accepts : (f : End) (bidi uni : ℕ) → f ≡ settle (record e { accepted_bidi = bidi; accepted_uni = uni }) → IsSame e f
  accepts f bidi uni is = subst (IsSame e) (sym is) (ap (λ (y : End). record y { accepted_bidi = bidi; accepted_uni = uni }) settled)

  accepts_uni : (answer : Option ℕ) (f : End) → GivesUni e answer f → IsSame e f
  accepts_uni answer f g =
      by_test (IsSame e f) _ ((answer ≡ Some (e.accepted_uni * 4 + peer_type e Uni)) × (f ≡ settle (record e { accepted_uni = e.accepted_uni + 1 }))) (GivesNone e answer f) g
      (λ u. accepts f e.accepted_bidi (e.accepted_uni + 1) u.1) (λ none. as_was e f none.1)

  accepts_bidi : (answer : Option ℕ) (f : End) → GivesBidi e answer f → IsSame e f
  accepts_bidi answer f g = accepts f (e.accepted_bidi + 1) e.accepted_uni g.1

  accept_same : (answer : Option ℕ) (f : End) → AcceptStep e answer f → IsSame e f
  accept_same answer f step =
      by_test (IsSame e f) _ (GivesNone e answer f) (AcceptOpen e answer f) step (λ none. as_was e f none.1)
      (λ goes. by_test (IsSame e f) _ (GivesBidi e answer f) (GivesUni e answer f) goes (accepts_bidi answer f) (accepts_uni answer f))

  accept_of_same : (d : Dir) (answer : Option ℕ) (f : End) → AcceptOfStep e d answer f → IsSame e f
  accept_of_same d answer f step = by_test (IsSame e f) _ (GivesNone e answer f) (AcceptOpenOf e d answer f) step (λ none. as_was e f none.1) (go d)
    where
      go : (d : Dir) → AcceptOpenOf e d answer f → IsSame e f
      go Bidi goes = by_test (IsSame e f) _ (GivesBidi e answer f) (GivesNone e answer f) goes (accepts_bidi answer f) (λ none. as_was e f none.1)
      go Uni goes = accepts_uni answer f goes

  module _ (quiet : IsReadOut e) where
    lane_idle : (n size : ℕ) (l : RecvLane) → lookup e.recvs n ≡ Some l → on_recv n (λ m. after_read m size) e ≡ e
    lane_idle n size l at = ap (λ (t : Tables RecvLane). record e { recvs = t }) (updated_back e.recvs n (λ m. after_read m size) l at (no_news_same l size (quiet n l at)))

    read_by : (r : Option UseFault) (n size : ℕ) (answer : Answer (ReadUpTo n size)) (f : End) → ReadBy r e n size answer.0 answer.1 f → f ≡ e
    read_by (Some fault) n size answer f step = step.2
    read_by None n size answer f (l, at, told, given, is) = is ∙ ap settle (lane_idle n size l at) ∙ settled

    read_idle : (call : Call) (answer : Answer call) (f : End) → IsRead call → EndStep e call answer f → IsSame e f
    read_idle Accept answer f reads step = accept_same answer f step
    read_idle (AcceptOf d) answer f reads step = accept_of_same d answer f step
    read_idle (ReadUpTo n size) answer f reads step = as_was e f (read_by (recv_refusal (is_read_no_more e) e n) n size answer f step)
    read_idle (Consume n most) answer f reads step =
        as_was e f
        (by_refusal (f ≡ e) (recv_refusal (is_read_no_more e) e n) e answer.0 f _ step.0 (λ is. is)
        (λ (l, at, told, is). is ∙ ap settle (ap (on_recv n (λ m. after_read m 0)) (lane_idle n most l at) ∙ lane_idle n 0 l at) ∙ settled))
    read_idle (Peek n) answer f reads step = as_was e f step.1
    read_idle call answer f reads step = absurd reads

read_sends : (call : Call) (e : End) (answer : Answer call) (f : End) → IsRead call → EndStep e call answer f → f.sends ≡ e.sends
read_sends call e answer f reads step = grind (arith, nat_tests, by_test)

-- the first is of s, and the second of the other
both_calm : (s : Side) (old at new : Moment) → ((t : Side) → CalmStep (end_of old.ends t) (end_of at.ends t)) → ((t : Side) → CalmStep (end_of at.ends t) (end_of new.ends t))
    → end_of at.ends (other s) ≡ end_of old.ends (other s) → end_of new.ends s ≡ end_of at.ends s → (t : Side) → CalmStep (end_of old.ends t) (end_of new.ends t)
both_calm s old at new first second there here =
    two_sides (λ u. CalmStep (end_of old.ends u) (end_of new.ends u)) s
    (calm_then (end_of old.ends s) (end_of at.ends s) (end_of new.ends s) here (first s))
    (calm_since (end_of old.ends (other s)) (end_of at.ends (other s)) (end_of new.ends (other s)) there (second (other s)))

back_twice : (s : Side) (at new : Moment) → end_of new.ends (other (other s)) ≡ end_of at.ends (other (other s)) → end_of new.ends s ≡ end_of at.ends s
back_twice s at new still = subst (λ t. end_of new.ends t ≡ end_of at.ends t) (other_twice s) still

same_world : (v w : World) (s : Side) → end_of w s ≡ end_of v s → end_of w (other s) ≡ end_of v (other s) → w ≡ v
same_world v w A x y = λ i. record { a = x i; b = y i }
same_world v w B x y = λ i. record { a = y i; b = x i }

module _ (a b : Settings) where
  idle_read : (old m : Moment) (x : Happening) → IsReached a b old → IsRead x.call → WorldStep old.log old.ends x m.ends → (t : Side) → IsReadOut (end_of old.ends t) → IsSame (end_of old.ends t) (end_of m.ends t)
  idle_read old m x r reads step t quiet =
      two_sides (λ u. IsReadOut (end_of old.ends u) → IsSame (end_of old.ends u) (end_of m.ends u)) x.end
      (λ out. read_idle (end_of old.ends x.end) (run_settled a b old.log old.ends r.run x.end) out x.call x.answer (end_of m.ends x.end) reads step.step)
      (λ out. as_was (end_of old.ends (other x.end)) (end_of m.ends (other x.end)) step.still) t quiet

  -- an end whose readers have no news has none after
  reads_idle : (t : Side) (ms : List Moment) (old new : Moment) → IsReached a b old → Trail IsRead old ms new → IsReadOut (end_of old.ends t) → IsReadOut (end_of new.ends t)
  reads_idle t [] old new r is quiet = subst (λ (m : Moment). IsReadOut (end_of m.ends t)) (sym is) quiet
  reads_idle t (m ∷ ms) old new r ((x, reads, logged, step), rest) quiet =
      let out = same_as (λ y. y.recvs) (end_of old.ends t) (end_of m.ends t) (idle_read old m x r reads step t quiet) (λ bidi uni. refl) in
      reads_idle t ms m new (reached a b old m x r logged step) rest (λ n l at. quiet n l (ap (λ y. lookup y n) (sym out) ∙ at))

  -- what such reads keep of both ends
  reads_still : (P : World → Type 0) → ((w : World) → P w → (t : Side) → IsReadOut (end_of w t)) → ((old new : Moment) → Step a b A old new → ((t : Side) → IsSame (end_of old.ends t) (end_of new.ends t)) → P old.ends → P new.ends)
      → (ms : List Moment) (old new : Moment) → IsReached a b old → Trail IsRead old ms new → P old.ends → P new.ends
  reads_still P out one [] old new r is p = subst (λ (m : Moment). P m.ends) (sym is) p
  reads_still P out one (m ∷ ms) old new r ((x, reads, logged, step), rest) p =
      let there = reached a b old m x r logged step in
      let same : (t : Side) → IsSame (end_of old.ends t) (end_of m.ends t) = λ t. idle_read old m x r reads step t (out old.ends p t) in
      reads_still P out one ms m new there rest
      (one old m (record { was = r; is = there; moves = inr (inr same); calm = calm_step a b old m x r (read_calm x.call reads) logged step }) same p)

  -- what calm calls keep where no half changes is kept as ends read
  reads_keep : (Q : End → Type 0) → ((e f : End) → CalmStep e f → SendsFrom e.sends f.sends → Q e → Q f) → (t : Side) (ms : List Moment) (old new : Moment) → IsReached a b old → Trail IsRead old ms new → Q (end_of old.ends t) → Q (end_of new.ends t)
  reads_keep Q stay t [] old new r is q = subst (λ (m : Moment). Q (end_of m.ends t)) (sym is) q
  reads_keep Q stay t (m ∷ ms) old new r ((x, reads, logged, step), rest) q =
      let from : SendsFrom (end_of old.ends t).sends (end_of m.ends t).sends =
      two_sides (λ u. SendsFrom (end_of old.ends u).sends (end_of m.ends u).sends) x.end
      (subst (SendsFrom (end_of old.ends x.end).sends) (sym (read_sends x.call (end_of old.ends x.end) x.answer (end_of m.ends x.end) reads step.step)) (sends_same (end_of old.ends x.end).sends))
      (subst (λ (y : End). SendsFrom (end_of old.ends (other x.end)).sends y.sends) (sym step.still) (sends_same (end_of old.ends (other x.end)).sends)) t in
      reads_keep Q stay t ms m new (reached a b old m x r logged step) rest
      (stay (end_of old.ends t) (end_of m.ends t) (calm_step a b old m x r (read_calm x.call reads) logged step t) from q)

  -- Turns

  -- what comes with a packet of an end, or with its frames
  module _ (w : Way) (s : Side) where
    idle_of : (old new : Moment) → IsReached a b old → Idles old new → IsReached a b new × Step a b s old new
    idle_of old new r (x, calm, (logged, step), same) =
        let there = reached a b old new x r logged step in
        (there, record { was = r; is = there; moves = inr (inr same); calm = calm_step a b old new x r calm logged step })

    step_of : (old new : Moment) → IsReached a b old → Delivers w s old new → IsReached a b new × Step a b s old new
    step_of = by w
      where
        by : (w : Way) (old new : Moment) → IsReached a b old → Delivers w s old new → IsReached a b new × Step a b s old new
        by Packets old new r (inl (call, answer, bytes, at, calm, make, receive)) =
            let (there, x) = passed a b s old at new call answer bytes r make receive in
            let r_at = reached a b old at _ r make.0 make.1 in (
              there,
              record {
                was = r;
                is = there;
                moves = inl (record {
                  frames = x.frames;
                  last = x.last;
                  filled = x.filled;
                  made = x.made;
                  came = x.came;
                  took = subst (λ (y : End). y ≡ record (settle (frames_taken x.came (end_of old.ends (other s)))) { done = y.done; floor = y.floor; ack_due = y.ack_due }) (sym x.took) refl;
                  only = x.only;
                });
                calm = both_calm s old at new (calm_step a b old at _ r calm make.0 make.1) (calm_step a b at new _ r_at tt receive.0 receive.1) make.1.still (back_twice s at new receive.1.still);
              },
            )
        by Packets old new r (inr idle) = idle_of old new r idle
        by Tokens old new r (inl (want, room, filled, text, frames, told, at, same, fill, take)) =
            let x = exchanged a b s old at new want room filled text frames told r same fill take in
            let it = x.made_it in
            let r_at = reached a b old at _ r fill.0 fill.1 in (
              x.is_reached,
              record {
                was = r;
                is = x.is_reached;
                moves = inl (record {
                  frames = it.frames;
                  last = it.last;
                  filled = it.filled;
                  made = it.made;
                  came = frames_in text;
                  took = subst (λ (y : End). y ≡ record (settle (frames_taken (frames_in text) (end_of old.ends (other s)))) { done = y.done; floor = y.floor; ack_due = y.ack_due }) (sym x.took) refl;
                  only = it.back;
                });
                calm = both_calm s old at new (calm_step a b old at _ r tt fill.0 fill.1) (calm_step a b at new _ r_at tt take.0 take.1) fill.1.still (back_twice s at new take.1.still);
              },
            )
        by Tokens old new r (inr (inr idle)) = idle_of old new r idle
        by Tokens old new r (inr (inl (u, token, (logged, step)))) =
            let there = reached a b old new _ r logged step in (
              there,
              record {
                was = r;
                is = there;
                moves = inr (inl (u, told_by (end_of old.ends u) (end_of new.ends u) token step.step, step.still));
                calm = calm_step a b old new _ r tt logged step;
              },
            )

  -- what each step keeps is kept by a turn of an end of which nothing is outstanding
  module _ (w : Way) (s : Side) (P : World → Type 0) (one : (old new : Moment) → Step a b s old new → P old.ends → P new.ends) where
    sends_keep : (n : ℕ) (old new : Moment) → IsReached a b old → Sends w s n old new → P old.ends → P new.ends
    sends_keep zero old new r (is, none) p = subst (λ (m : Moment). P m.ends) (sym is) p
    sends_keep (suc n) old new r (mid, delivers, rest) p =
        let (there, moves) = step_of w s old mid r delivers in
        sends_keep n mid new there rest (one old mid moves p)

    turn_keeps : (old new : Moment) → IsReached a b old → TakesTurn w s old new → IsClear (end_of old.ends s) → P old.ends → P new.ends
    turn_keeps old new r (mid, (n, lost), (k, sent)) clear p =
        let after = loses w s n old mid lost in
        let (ms, trail) = loses_trail w s n old mid lost in
        sends_keep k mid new (onward a b (λ call. ⊤) ms old mid r trail).is_reached sent
        (subst P (sym (same_world old.ends mid.ends s (after.here.same clear) after.there)) p)

  -- Both ends have no data to send, and nothing to read

  abbrev Base : World → Type 0
  Base w = (t : Side) → IsSpent (end_of w t) × IsReadOut (end_of w t)

  module _ (s : Side) (old new : Moment) (x : Step a b s old new) where
    module _ (base : Base old.ends) where
      moves : (t : Side) → Moves (end_of old.ends t) (end_of new.ends t) (NoLimits (end_of old.ends s))
      moves = moved a b s old new x (base s).0

      base_stays : Base new.ends
      base_stays t =
          let e = end_of old.ends t in
          let f = end_of new.ends t in
          (spent_stays e f (x.calm t) (moves t).sends (base t).0, read_out_stays e f (moves t).recvs (base t).1)

      done_on : (t : Side) → AllDone (end_of old.ends t) → AllDone (end_of new.ends t)
      done_on t done = done_stays (end_of old.ends t) (end_of new.ends t) (x.calm t) (moves t).sends done

      limits_on : (t : Side) → AllDone (end_of old.ends t) → NoLimits (end_of old.ends t) → NoLimits (end_of new.ends t)
      limits_on t done none = limits_stay (end_of old.ends t) (end_of new.ends t) (x.calm t) (moves t).recvs ((moves t).same done) none

      blocks_on : (t : Side) → NoLimits (end_of old.ends s) → NoBlocks (end_of old.ends t) → NoBlocks (end_of new.ends t)
      blocks_on t limits none = blocks_stay (end_of old.ends t) (end_of new.ends t) (x.calm t) (moves t).wants ((moves t).known limits) none

  limits_at : (e : End) → (HasMore e → ⊥) → NoLimits e
  limits_at e quiet i is due = quiet (inl (i, due))

  blocks_at : (e : End) → (HasMore e → ⊥) → NoBlocks e
  blocks_at e quiet d m due = quiet (inl (_, due))

  -- Four rounds in a row, in the second of which nothing is left to send

  module _ (w : Way) (m1 m2 m3 m4 m5 : Moment) (r1 : IsReached a b m1) (x2 : Round w m1 m2) (x3 : Round w m2 m3) (x4 : Round w m3 m4) (x5 : Round w m4 m5) (unclosed : BothOpen m3.ends) (none_a : NoneLeft a b A x3.sent_a) (none_b : NoneLeft a b B x3.sent_b) where
    a2 : Landed a b A x2.sent_a
    a2 = turned a b w A m1 x2.sent_a r1 x2.turn_a

    b2 : Landed a b B x2.sent_b
    b2 = turned a b w B x2.sent_a x2.sent_b a2.is_reached x2.turn_b

    r2 : IsReached a b m2
    r2 = r_mid a b w m1 m2 r1 x2

    a3 : Half a b A m2 x3.sent_a m3
    a3 = a_half a b w m2 m3 r2 x3 unclosed

    b3 : Half a b B m2 x3.sent_b m3
    b3 = b_half a b w m2 m3 r2 x3 unclosed

    r3 : IsReached a b m3
    r3 = a3.to_new.is_reached

    a4 : Landed a b A x4.sent_a
    a4 = turned a b w A m3 x4.sent_a r3 x4.turn_a

    b4 : Landed a b B x4.sent_b
    b4 = turned a b w B x4.sent_a x4.sent_b a4.is_reached x4.turn_b

    r4 : IsReached a b m4
    r4 = r_mid a b w m3 m4 r3 x4

    a5 : Landed a b A x5.sent_a
    a5 = turned a b w A m4 x5.sent_a r4 x5.turn_a

    b5 : Landed a b B x5.sent_b
    b5 = turned a b w B x5.sent_a x5.sent_b a5.is_reached x5.turn_b

    -- from B's turn in the first of them on it has no STOP_SENDING to send
    stops_2 : NoStops m2.ends.b
    stops_2 = reads_keep NoStops (λ e f x from. stops_stay e f x) B x2.moments x2.sent_b m2 b2.is_reached x2.reads (λ n code due. b2.none_to_send (inl (_, due)))

    stops_3 : NoStops x3.sent_a.ends.b
    stops_3 = turn_keeps w A (λ w. NoStops w.b) (λ old new x. stops_stay old.ends.b new.ends.b (x.calm B)) m2 x3.sent_a r2 x3.turn_a (a_clear_mid a b w m1 m2 r1 x2) stops_2

    -- nor has A data, through B's next turn
    kept_3 : NoStops x3.sent_b.ends.b × IsSpent x3.sent_b.ends.a
    kept_3 =
        turn_keeps w B (λ w. NoStops w.b × IsSpent w.a) (λ old new x p. (stops_stay old.ends.b new.ends.b (x.calm B) p.0, takes_spent a b B old new x p.0 p.1)) x3.sent_a x3.sent_b a3.landed.is_reached x3.turn_b
        (b_clear a b w m1 m2 r1 x2 x3.sent_a x3.turn_a)
        (stops_3, spent_at a b x3.sent_a a3.landed.is_reached A a3.landed.none_to_send none_a)

    spent_b : IsSpent x3.sent_b.ends.b
    spent_b = spent_at a b x3.sent_b b3.landed.is_reached B b3.landed.none_to_send none_b

    -- as the second round ends
    base_3 : Base m3.ends
    base_3 A = (
      reads_keep IsSpent spent_stays A x3.moments x3.sent_b m3 b3.landed.is_reached x3.reads kept_3.1,
      reads_idle A b3.after.0 b3.seen m3 b3.to_seen.is_reached b3.after.1 b3.quiet,
    )
    base_3 B = (
      reads_keep IsSpent spent_stays B x3.moments x3.sent_b m3 b3.landed.is_reached x3.reads spent_b,
      reads_idle B a3.after.0 a3.seen m3 a3.to_seen.is_reached a3.after.1 a3.quiet,
    )

    done_3 : AllDone m3.ends.a
    done_3 = reads_keep AllDone done_stays A x3.moments x3.sent_b m3 b3.landed.is_reached x3.reads (done_at x3.sent_b.ends.a kept_3.1 (a_clear a b w m2 m3 r2 x3))

    -- A's next turn
    kept_4 : Base x4.sent_a.ends × AllDone x4.sent_a.ends.a
    kept_4 = turn_keeps w A (λ w. Base w × AllDone w.a) (λ old new x p. (base_stays A old new x p.0, done_on A old new x p.0 A p.1)) m3 x4.sent_a r3 x4.turn_a (a_clear_mid a b w m2 m3 r2 x3) (base_3, done_3)

    clear_4 : IsClear x4.sent_a.ends.b
    clear_4 = b_clear a b w m2 m3 r2 x3 x4.sent_a x4.turn_a

    -- and B's
    abbrev Done : World → Type 0
    Done w = Base w × ((t : Side) → AllDone (end_of w t))

    done_step : (s : Side) (old new : Moment) → Step a b s old new → Done old.ends → Done new.ends
    done_step s old new x p = (base_stays s old new x p.0, λ t. done_on s old new x p.0 t (p.1 t))

    kept_b4 : Done x4.sent_b.ends × NoLimits x4.sent_b.ends.a
    kept_b4 =
        turn_keeps w B (λ w. Done w × NoLimits w.a) (λ old new x p. (done_step B old new x p.0, limits_on B old new x p.0.0 A (p.0.1 A) p.1)) x4.sent_a x4.sent_b a4.is_reached x4.turn_b clear_4
        ((kept_4.0, two_sides (λ t. AllDone (end_of x4.sent_a.ends t)) A kept_4.1 (done_at x4.sent_a.ends.b (kept_4.0 B).0 clear_4)), limits_at x4.sent_a.ends.a a4.none_to_send)

    abbrev Told : World → Type 0
    Told w = Done w × ((t : Side) → NoLimits (end_of w t))

    told_step : (s : Side) (old new : Moment) → Step a b s old new → Told old.ends → Told new.ends
    told_step s old new x p = (done_step s old new x p.0, λ t. limits_on s old new x p.0.0 t (p.0.1 t) (p.1 t))

    told_on : (old new : Moment) → Step a b A old new → Told old.ends × NoBlocks old.ends.b → Told new.ends × NoBlocks new.ends.b
    told_on old new x p = (told_step A old new x p.0, blocks_on A old new x p.0.0.0 B (p.0.1 A) p.1)

    kept_r4 : Told m4.ends × NoBlocks m4.ends.b
    kept_r4 =
        reads_still (λ w. Told w × NoBlocks w.b) (λ w p t. (p.0.0.0 t).1) (λ old new x same. told_on old new x) x4.moments x4.sent_b m4 b4.is_reached x4.reads
        ((kept_b4.0, two_sides (λ t. NoLimits (end_of x4.sent_b.ends t)) A kept_b4.1 (limits_at x4.sent_b.ends.b b4.none_to_send)), blocks_at x4.sent_b.ends.b b4.none_to_send)

    kept_5 : Told x5.sent_a.ends × NoBlocks x5.sent_a.ends.b
    kept_5 = turn_keeps w A (λ w. Told w × NoBlocks w.b) told_on m4 x5.sent_a r4 x5.turn_a (a_clear_mid a b w m3 m4 r3 x4) kept_r4

    -- nothing goes out any more
    abbrev Still : World → Type 0
    Still w = Told w × ((t : Side) → NoBlocks (end_of w t))

    still_step : (s : Side) (old new : Moment) → Step a b s old new → Still old.ends → Still new.ends
    still_step s old new x p = (told_step s old new x p.0, λ t. blocks_on s old new x p.0.0.0 t (p.0.1 s) (p.1 t))

    kept_b5 : Still x5.sent_b.ends × IsClear x5.sent_b.ends.b
    kept_b5 =
        turn_keeps w B (λ w. Still w × IsClear w.b) (λ old new x p. (still_step B old new x p.0, puts_none a b B old new x (p.0.0.0.0 B).0 (p.0.0.1 B) (p.0.1 B) p.1)) x5.sent_a x5.sent_b a5.is_reached x5.turn_b
        (b_clear a b w m3 m4 r3 x4 x5.sent_a x5.turn_a)
        ((kept_5.0, two_sides (λ t. NoBlocks (end_of x5.sent_a.ends t)) A (blocks_at x5.sent_a.ends.a a5.none_to_send) kept_5.1), b_clear a b w m3 m4 r3 x4 x5.sent_a x5.turn_a)

    -- as they read, too
    abbrev AllClear : World → Type 0
    AllClear w = (t : Side) → IsClear (end_of w t)

    kept_r5 : Still m5.ends × AllClear m5.ends
    kept_r5 =
        reads_still (λ w. Still w × AllClear w) (λ w p t. (p.0.0.0.0 t).1)
        (λ old new x same p. (still_step A old new x p.0, λ t j q here. p.1 t j q (subst (λ m. IsIn m j q) (same_out (end_of old.ends t) (end_of new.ends t) (same t)) here)))
        x5.moments x5.sent_b m5 b5.is_reached x5.reads
        (kept_b5.0, two_sides (λ u. IsClear (end_of x5.sent_b.ends u)) A (a_clear a b w m4 m5 r4 x5) kept_b5.1)

    pub both_rest : BothRest m5.ends
    both_rest t =
        let e = end_of m5.ends t in
        let (told, blocks) = kept_r5.0 in
        let (done, limits) = told in
        let (spent, out) = done.0 t in
        record { quiet = more e spent (limits t) (blocks t); none_out = λ p (k, ps, at, among). kept_r5.1 t k p (ps, at, among); read_out = out }
      where
        more : (e : End) → IsSpent e → NoLimits e → NoBlocks e → HasMore e → ⊥
        more e spent limits blocks (inl (i, due)) = nothing_due e spent limits blocks i due
        more e spent limits blocks (inr (n, (l, at, inl (q, due, lt, first)))) = spent.bytes n l q at due
        more e spent limits blocks (inr (n, (l, at, inr (due, whole)))) = spent.ends n l at due
