-- All is read in time: where not all was read as a round begins, each of the two rounds before it but one filled a width.
use Rattle.std.proofs.Common.{◌≡◌, ℕ, zero, suc, ◌+◌, ◌*◌, ◌<◌, ◌≤◌, Bool, true, false, not, ◌&&◌, List, [], ◌∷◌, Option, Some, None, is_some, length, refl, sym, ap, ◌∙◌, subst, arith, inl, inr, length-append}
use Rattle.std.specs.Prelude.{⊤}
use Rattle.std.proofs.lemmas.Bool.{cases_lt, true≢false}
use Rattle.std.proofs.lemmas.Option.{none-some}
use Rattle.qs_recv.specs.Lane.{RecvLane, read_answer}
use Rattle.qs_recv.specs.News.{is_readable}
use Rattle.qs_send.specs.Lane.{SendLane}
use Rattle.qs_send.specs.Records.{Among}
use Rattle.qs_send.specs.declared.parts.Reset.{Reset}
use Rattle.qs_calls.specs.declared.event.Side.{Side}
use Rattle.qs_calls.specs.declared.event.Side.TheVariants.{A, B}
use Rattle.qs_calls.specs.declared.settings.Settings.{Settings}
use Rattle.qs_machine.specs.Ends.{recv_lane, first_send_limit}
use Rattle.qs_machine.specs.EndStep.{Call}
use Rattle.qs_machine.specs.News.{IsLeast, IsReadable}
use Rattle.qs_machine.proofs.TableLaws.{value}
use Rattle.qs_recv.specs.Lane.{taken}
use Rattle.qs_runs.specs.Agree.{IsPrefixOf}
use Rattle.qs_runs.specs.Clauses.{sending, receiving}
use Rattle.qs_runs.specs.Invariant.{WorldOk, SendSlot}
use Rattle.qs_runs.specs.Logs.{other, stopped, broken_off, read, written}
use Rattle.qs_runs.specs.Pasts.{past}
use Rattle.qs_runs.specs.Worlds.{end_of}
use Rattle.qs_runs.proofs.Clauses.{prefix}
use Rattle.qs_runs.proofs.Lists.{same_length_prefix}
use Rattle.qs_runs.proofs.Runs.{run_keeps}
use Rattle.qs_rest.specs.Rest.{TellsNoNews}
use Rattle.qs_rest.specs.Resting.{HasRoom}
use Rattle.qs_rest.proofs.OneStream.{sender_ok, reader_ok, not_reset, no_reset_known}
use Rattle.qs_rest.proofs.Runs.{every_run_keeps}
use Rattle.qs_rest.proofs.Telling.{no_news}
use Rattle.qs_progress.specs.Laps.{Moment, Trail}
use Rattle.qs_progress.specs.Comes.{BothOpen, IsReached, Course}
use Rattle.qs_progress.specs.Rounds.{Way, IsRead, Round}
use Rattle.qs_progress.specs.Windows.{Widths, senders, AreAsWide, WideRound, IsAllRead, AllIsReadInRounds}
use Rattle.qs_progress.proofs.Trails.{trail_open}
use Rattle.qs_progress.proofs.Filled.{filled_to, filled_grows, conn_fills, stream_fills}
use Rattle.qs_progress.proofs.Onward.{Later, later_same, later_twice, onward, sends_more, senders_more, is_counted}
use Rattle.qs_progress.proofs.Landed.{Landed, turned, held_back}
use Rattle.qs_progress.proofs.Paid.{has_read, paid_back}
use Rattle.qs_progress.proofs.Charged.{knows, Turns, conn_charged, stream_charged}
use Rattle.qs_progress.proofs.Unwritten.{IsUnwritten, Unwritten, turn_on, reads_on, round_on, then_on, written_same}
use Rattle.qs_progress.proofs.Sums.{steps_in, stretches_in}

-- a moment of a trail parts it
parted : (Is : Call → Type 0) (ms : List Moment) (old new m : Moment) → Trail Is old ms new → Among m (old ∷ ms) → ((ns : List Moment) × Trail Is old ns m) × ((ns : List Moment) × Trail Is m ns new)
parted Is [] old new m trail (inl is) = subst (λ x. ((ns : List Moment) × Trail Is old ns x) × ((ns : List Moment) × Trail Is x ns new)) (sym is) (([], refl), ([], trail))
parted Is [] old new m trail (inr later) = absurd later
parted Is (k ∷ ms) old new m (first, rest) (inl is) = subst (λ x. ((ns : List Moment) × Trail Is old ns x) × ((ns : List Moment) × Trail Is x ns new)) (sym is) (([], refl), (k ∷ ms, (first, rest)))
parted Is (k ∷ ms) old new m (first, rest) (inr later) =
    let ((ns, before), after) = parted Is ms k new m rest later in
    ((k ∷ ns, (first, before)), after)

module _ (a b : Settings) where
  pub led_to : (old new : Moment) → IsReached a b old → Unwritten old new → Later a b old new
  led_to old new r (ms, trail) = onward a b IsUnwritten ms old new r trail

  -- the readers of an end have no news
  quiet_at : (m : Moment) → IsReached a b m → BothOpen m.ends → (t : Side) → IsLeast (IsReadable (end_of m.ends t)) 0 None → (n : ℕ) (l : RecvLane) → recv_lane (end_of m.ends t) n ≡ Some l → TellsNoNews (read_answer l 1) l
  quiet_at m r unclosed t least n l is = no_news l ((every_run_keeps a b m.log m.ends r.run t).told n l is) (go (is_readable l) refl)
    where
      go : (c : Bool) → is_readable l ≡ c → is_readable l ≡ false
      go false same = same
      go true same =
          let (n2, found, le) = least.least n (omega arith) (ap (λ c. is_some c && not (end_of m.ends t).tuning.reads_when_closed) (unclosed t), (l, is, same)) in
          absurd (none-some n2 found)

  -- What a round leaves

  -- a turn of one end, and a moment at which the other's readers had no news
  pub record Half (s : Side) (old sent new : Moment) : Type 0 where
    pub landed : Landed a b s sent
    pub to_sent : Later a b old sent
    pub unwritten : Unwritten sent new
    pub to_new : Later a b sent new
    pub seen : Moment
    pub to_seen : Later a b sent seen
    pub from_seen : Later a b seen new
    pub after : (ns : List Moment) × Trail IsRead seen ns new
    pub quiet : (n : ℕ) (r : RecvLane) → receiving seen.ends s n ≡ Some r → TellsNoNews (read_answer r 1) r

  module _ (w : Way) (old new : Moment) (r : IsReached a b old) (round : Round w old new) (unclosed : BothOpen new.ends) where
    a_landed : Landed a b A round.sent_a
    a_landed = turned a b w A old round.sent_a r round.turn_a

    b_landed : Landed a b B round.sent_b
    b_landed = turned a b w B round.sent_a round.sent_b a_landed.is_reached round.turn_b

    to_a : Later a b old round.sent_a
    to_a = led_to old round.sent_a r (turn_on w A old round.sent_a round.turn_a)

    pub a_to_b : Later a b round.sent_a round.sent_b
    a_to_b = led_to round.sent_a round.sent_b a_landed.is_reached (turn_on w B round.sent_a round.sent_b round.turn_b)

    reads : Unwritten round.sent_b new
    reads = reads_on round.moments round.sent_b new round.reads

    -- a moment of the reads
    record Seen (t : Side) : Type 0 where
      seen : Moment
      to_seen : Later a b round.sent_b seen
      from_seen : Later a b seen new
      after : (ns : List Moment) × Trail IsRead seen ns new
      quiet : (n : ℕ) (l : RecvLane) → recv_lane (end_of seen.ends t) n ≡ Some l → TellsNoNews (read_answer l 1) l

    seen_by : (t : Side) → Seen t
    seen_by t =
        let (m, among, least) = round.none_to_read t in
        let ((ms, before), (ns, after)) = parted IsRead round.moments round.sent_b new m round.reads among in
        let first = led_to round.sent_b m b_landed.is_reached (reads_on ms round.sent_b m before) in
        record {
          seen = m;
          to_seen = first;
          from_seen = led_to m new first.is_reached (reads_on ns m new after);
          after = (ns, after);
          quiet = quiet_at m first.is_reached (trail_open IsRead ns m new after unclosed) t least;
        }

    pub a_half : Half A old round.sent_a new
    a_half =
        let by = seen_by B in
        let on = then_on round.sent_a round.sent_b new (turn_on w B round.sent_a round.sent_b round.turn_b) reads in
        record {
          landed = a_landed;
          to_sent = to_a;
          unwritten = on;
          to_new = led_to round.sent_a new a_landed.is_reached on;
          seen = by.seen;
          to_seen = later_twice a b round.sent_a round.sent_b by.seen a_to_b by.to_seen;
          from_seen = by.from_seen;
          after = by.after;
          quiet = by.quiet;
        }

    pub b_half : Half B old round.sent_b new
    b_half =
        let by = seen_by A in
        record {
          landed = b_landed;
          to_sent = later_twice a b old round.sent_a round.sent_b to_a a_to_b;
          unwritten = reads;
          to_new = led_to round.sent_b new b_landed.is_reached reads;
          seen = by.seen;
          to_seen = by.to_seen;
          from_seen = by.from_seen;
          after = by.after;
          quiet = by.quiet;
        }

  -- Where nothing was left to send, all is read

  -- no half of an end has more to send
  abbrev pub NoneLeft : Side → Moment → Type 0
  NoneLeft s m = (n : ℕ) (l : SendLane) → sending m.ends s n ≡ Some l → l.was_reset ≡ None → l.sent_end < l.written → ⊥

  module _ (s : Side) (old sent new : Moment) (half : Half s old sent new) (none_left : NoneLeft s sent) (n : ℕ) (unbroken : broken_off s n new.log ≡ false) (going : stopped (other s) n new.log ≡ false) where
    ok : WorldOk a b new.log new.ends
    ok = run_keeps a b new.log new.ends half.to_new.is_reached.run

    ok_sent : WorldOk a b sent.log sent.ends
    ok_sent = run_keeps a b sent.log sent.ends half.landed.is_reached.run

    same_bytes : written s n new.log ≡ written s n sent.log
    same_bytes = written_same half.unwritten.0 sent new half.unwritten.1 s n

    -- so many bytes were read
    enough : length (written s n new.log) ≤ length (read (other s) n new.log)
    enough = by_sent (sending sent.ends s n) refl
      where
        by_read : (l : SendLane) → sending sent.ends s n ≡ Some l → length (written s n new.log) ≤ l.sent_end → (k : SendLane) → sending new.ends s n ≡ Some k → k.was_reset ≡ None → (o : Option RecvLane) → receiving new.ends s n ≡ o → length (written s n new.log) ≤ length (read (other s) n new.log)
        by_read l at few k there none None e =
            let paid : l.sent_end ≤ 0 = subst (λ o. l.sent_end ≤ value taken o) e (paid_back a b s sent half.landed n l at half.seen new half.to_seen half.from_seen half.to_new (half.quiet n)) in
            omega (arith, few, paid)
        by_read l at few k there none (Some r) e =
            let count : length (read (other s) n new.log) ≡ r.arrived.read_count = (reader_ok a b new.log new.ends ok s n r e).count in
            elim (has_read a b s sent half.landed n l at half.seen new half.to_seen half.from_seen half.to_new (half.quiet n) r e) [
              | inl reset ↦ absurd (true≢false (sym reset ∙ ap is_some (no_reset_known a b new.log new.ends ok s n k r there e none)))
              | inr more ↦ elim more [
                | inl quit ↦ absurd (true≢false (sym quit ∙ ap is_some ((reader_ok a b new.log new.ends ok s n r e).not_stopped going)))
                | inr all ↦ omega (arith, few, count, all)
              ]
            ]

        by_sent : (o : Option SendLane) → sending sent.ends s n ≡ o → length (written s n new.log) ≤ length (read (other s) n new.log)
        by_sent None e =
            let slot = subst (SendSlot (past s sent.log) n (first_send_limit (end_of sent.ends s) n)) e ((ok_sent.ends s).sends n) in
            let nothing : length (written s n new.log) ≡ 0 = ap length same_bytes ∙ ap length slot.no_bytes in
            omega (arith, nothing)
        by_sent (Some l) e =
            let (k, there, more) = (half.to_new.goes s).sends n l e in
            let none : k.was_reset ≡ None = not_reset a b new.log new.ends ok s n k there unbroken going in
            let count : length (written s n sent.log) ≡ l.written = (sender_ok a b sent.log sent.ends ok_sent s n l e).count in
            let same : length (written s n new.log) ≡ l.written = ap length same_bytes ∙ count in
            let whole : l.written ≤ l.sent_end = elim (cases_lt l.sent_end l.written) [ inl lt ↦ absurd (none_left n l e (was_none l k more.1 none) lt) | inr le ↦ le ] in
            by_read l e (omega (arith, same, whole)) k there none (receiving new.ends s n) refl
          where
            was_none : (l k : SendLane) → (is_some l.was_reset ≡ true → is_some k.was_reset ≡ true) → k.was_reset ≡ None → l.was_reset ≡ None
            was_none l k stays none = go l.was_reset refl
              where
                go : (o : Option Reset) → l.was_reset ≡ o → l.was_reset ≡ None
                go None is = is
                go (Some reset) is = absurd (true≢false (sym (stays (ap is_some is)) ∙ ap is_some none))

    pub is_read : read (other s) n new.log ≡ written s n new.log
    is_read =
        let first : IsPrefixOf (read (other s) n new.log) (written s n new.log) = (prefix a b new.log new.ends ok s n).prefix in
        same_length_prefix _ _ first (let low = enough in omega (arith, low, length-append (read (other s) n new.log) first.0, ap length first.1))

  -- Three rounds in a row

  module _ (w : Way) (k : Side → Widths) (begun last : Moment) (room : (s : Side) → HasRoom last.ends s) where
    abbrev pub filled_by : Side → Moment → ℕ
    filled_by s m = filled_to (k (other s)) (end_of begun.ends s) (4 * senders (end_of last.ends s)) (end_of m.ends s)

    pub fills_on : (s : Side) (old new : Moment) → Later a b old new → filled_by s old ≤ filled_by s new
    fills_on s old new later = filled_grows (k (other s)) (end_of begun.ends s) (4 * senders (end_of last.ends s)) (end_of old.ends s) (end_of new.ends s) (sends_more (end_of old.ends s) (end_of new.ends s) (later.goes s))

    module _ (s : Side) (sent seen end told again : Moment) (x : Turns a b s sent seen end told again) (wide : AreAsWide (k (other s)) (end_of end.ends (other s))) (before : Later a b begun sent) (between : Later a b sent again) (after : Later a b again last) where
      -- an end that has more to send fills one more
      fills : (n : ℕ) (l : SendLane) → sending again.ends s n ≡ Some l → l.was_reset ≡ None → l.sent_end < l.written → filled_by s sent + 1 ≤ filled_by s again
      fills n l at none more =
          let sooner = sends_more (end_of begun.ends s) (end_of sent.ends s) (before.goes s) in
          let grows = sends_more (end_of sent.ends s) (end_of again.ends s) (between.goes s) in
          let later = sends_more (end_of again.ends s) (end_of last.ends s) (after.goes s) in
          let all = later.all in
          let room_now : HasRoom again.ends s = (let few = room s in omega (arith, all, few)) in
          elim (held_back a b s again x.lands n l at none more) [
            | inl blocked ↦ (
                let counted = is_counted (end_of again.ends s).sends n l at in
                let few = senders_more (end_of again.ends s) (end_of last.ends s) (after.goes s) in
                stream_fills (k (other s)) (end_of begun.ends s) (4 * senders (end_of last.ends s)) (end_of sent.ends s) (end_of again.ends s) grows n (omega (arith, counted, few)) (sooner.each n)
                (stream_charged a b s sent seen end told again x (k (other s)) wide room_now n l at none more blocked))
            | inr blocked ↦
                conn_fills (k (other s)) (end_of begun.ends s) (4 * senders (end_of last.ends s)) (end_of sent.ends s) (end_of again.ends s) grows sooner.all
                (conn_charged a b s sent seen end told again x (k (other s)) wide room_now blocked)
          ]

      pub fills_or_none : filled_by s again ≤ filled_by s sent → NoneLeft s again
      fills_or_none even n l at none more = (let grew = fills n l at none more in absurd (omega (arith, even, grew)))

    -- What rounds fill
    abbrev pub level_at : Moment → ℕ
    level_at m = filled_by A m + filled_by B m

    abbrev pub level_of : (old new : Moment) → WideRound w k old new → ℕ
    level_of old new x = filled_by A x.0.sent_a + filled_by B x.0.sent_b

    pub open_before : (old new : Moment) → WideRound w k old new → BothOpen new.ends → BothOpen old.ends
    open_before old new x unclosed = (let (ms, trail) = round_on w old new x.0 in trail_open IsUnwritten ms old new trail unclosed)

    pub later_round : (old new : Moment) → IsReached a b old → WideRound w k old new → Later a b old new
    later_round old new r x = led_to old new r (round_on w old new x.0)

    pub within : (old new : Moment) → IsReached a b old → (x : WideRound w k old new) → BothOpen new.ends → (level_at old ≤ level_of old new x) × (level_of old new x ≤ level_at new)
    within old new r x unclosed =
        let ha = a_half w old new r x.0 unclosed in
        let hb = b_half w old new r x.0 unclosed in
        let a1 = fills_on A old x.0.sent_a ha.to_sent in
        let b1 = fills_on B old x.0.sent_b hb.to_sent in
        let a2 = fills_on A x.0.sent_a new ha.to_new in
        let b2 = fills_on B x.0.sent_b new hb.to_new in
        (omega (arith, a1, b1), omega (arith, a2, b2))

    -- where the third of three rounds fills no more than the first, all is read
    module _ (m0 m1 m2 m3 : Moment) (r0 : IsReached a b m0) (x1 : WideRound w k m0 m1) (x2 : WideRound w k m1 m2) (x3 : WideRound w k m2 m3) (since : Later a b begun m0) (until : Later a b m3 last) (unclosed : BothOpen m3.ends) where
      open_2 : BothOpen m2.ends
      open_2 = open_before m2 m3 x3 unclosed

      open_1 : BothOpen m1.ends
      open_1 = open_before m1 m2 x2 open_2

      to_1 : Later a b m0 m1
      to_1 = later_round m0 m1 r0 x1

      to_2 : Later a b m1 m2
      to_2 = later_round m1 m2 to_1.is_reached x2

      a1 : Half A m0 x1.0.sent_a m1
      a1 = a_half w m0 m1 r0 x1.0 open_1

      b1 : Half B m0 x1.0.sent_b m1
      b1 = b_half w m0 m1 r0 x1.0 open_1

      a2 : Half A m1 x2.0.sent_a m2
      a2 = a_half w m1 m2 to_1.is_reached x2.0 open_2

      b2 : Half B m1 x2.0.sent_b m2
      b2 = b_half w m1 m2 to_1.is_reached x2.0 open_2

      a3 : Half A m2 x3.0.sent_a m3
      a3 = a_half w m2 m3 to_2.is_reached x3.0 unclosed

      b3 : Half B m2 x3.0.sent_b m3
      b3 = b_half w m2 m3 to_2.is_reached x3.0 unclosed

      a_turns : Turns a b A x1.0.sent_a a1.seen m1 x2.0.sent_b x3.0.sent_a
      a_turns =
          record {
            landed = a1.landed;
            to_seen = a1.to_seen;
            to_end = a1.from_seen;
            from_sent = a1.to_new;
            quiet = a1.quiet;
            to_told = b2.to_sent;
            knows_all = knows a b A x2.0.sent_b b2.landed;
            to_again = later_twice a b x2.0.sent_b m2 x3.0.sent_a b2.to_new a3.to_sent;
            lands = a3.landed;
          }

      b_turns : Turns a b B x1.0.sent_b b1.seen m1 x2.0.sent_a x3.0.sent_b
      b_turns =
          record {
            landed = b1.landed;
            to_seen = b1.to_seen;
            to_end = b1.from_seen;
            from_sent = b1.to_new;
            quiet = b1.quiet;
            to_told = a2.to_sent;
            knows_all = knows a b B x2.0.sent_a a2.landed;
            to_again = later_twice a b x2.0.sent_a m2 x3.0.sent_b a2.to_new b3.to_sent;
            lands = b3.landed;
          }

      a_between : Later a b x1.0.sent_a x3.0.sent_a
      a_between = later_twice a b x1.0.sent_a m1 x3.0.sent_a a1.to_new (later_twice a b m1 m2 x3.0.sent_a to_2 a3.to_sent)

      b_between : Later a b x1.0.sent_b x3.0.sent_b
      b_between = later_twice a b x1.0.sent_b m1 x3.0.sent_b b1.to_new (later_twice a b m1 m2 x3.0.sent_b to_2 b3.to_sent)

      pub a_none : level_of m2 m3 x3 ≤ level_of m0 m1 x1 → NoneLeft A x3.0.sent_a
      a_none even =
          let grows = fills_on B x1.0.sent_b x3.0.sent_b b_between in
          fills_or_none A x1.0.sent_a a1.seen m1 x2.0.sent_b x3.0.sent_a a_turns (x1.1 B) (later_twice a b begun m0 x1.0.sent_a since a1.to_sent) a_between
          (later_twice a b x3.0.sent_a m3 last a3.to_new until) (omega (arith, even, grows))

      pub b_none : level_of m2 m3 x3 ≤ level_of m0 m1 x1 → NoneLeft B x3.0.sent_b
      b_none even =
          let grows = fills_on A x1.0.sent_a x3.0.sent_a a_between in
          fills_or_none B x1.0.sent_b b1.seen m1 x2.0.sent_a x3.0.sent_b b_turns (x1.1 A) (later_twice a b begun m0 x1.0.sent_b since b1.to_sent) b_between
          (later_twice a b x3.0.sent_b m3 last b3.to_new until) (omega (arith, even, grows))

      pub all_is_read : level_of m2 m3 x3 ≤ level_of m0 m1 x1 → IsAllRead m3
      all_is_read even A n unbroken going = is_read A m2 x3.0.sent_a m3 a3 (a_none even) n unbroken going
      all_is_read even B n unbroken going = is_read B m2 x3.0.sent_b m3 b3 (b_none even) n unbroken going

    -- Rounds in a row

    -- so many led here
    abbrev pub Row : ℕ → Moment → Type 0
    Row zero old = IsReached a b old × Later a b begun old
    Row (suc n) old = (m : Moment) × Row n m × WideRound w k m old

    pub row_led : (n : ℕ) (old : Moment) → Row n old → IsReached a b old × Later a b begun old
    row_led zero old row = row
    row_led (suc n) old (m, row, x) =
        let (r, since) = row_led n m row in
        let on = later_round m old r x in
        (on.is_reached, later_twice a b begun m old since on)

    -- all but the first of them
    abbrev pub row_rest : (n : ℕ) (old : Moment) → Row (suc n) old → Row n old
    row_rest zero old row = row_led 1 old row
    row_rest (suc n) old (m, row, x) = (m, row_rest n m row, x)

    -- what the first two filled
    abbrev pub level : (n : ℕ) (old : Moment) → Row n old → ℕ
    level zero old row = 2 * level_at old
    level (suc zero) old (m, row, x) = 2 * level_at m
    level (suc (suc zero)) old (m, (first, row, x), y) = level_of first m x + level_of m old y
    level (suc (suc (suc n))) old (m, row, x) = level (suc (suc n)) m row

    low : (n : ℕ) (old : Moment) (row : Row n old) → BothOpen old.ends → level n old row ≤ 2 * level_at old
    low zero old row unclosed = omega arith
    low (suc zero) old (m, row, x) unclosed = (let up = within m old (row_led 0 m row).0 x unclosed in omega (arith, up.0, up.1))
    low (suc (suc zero)) old (m, (first, row, x), y) unclosed =
        let up = within first m (row_led 0 first row).0 x (open_before m old y unclosed) in
        let more = within m old (row_led 1 m (first, row, x)).0 y unclosed in
        omega (arith, up.1, more.0, more.1)
    low (suc (suc (suc n))) old (m, row, x) unclosed =
        let few = low (suc (suc n)) m row (open_before m old x unclosed) in
        let up = within m old (row_led (suc (suc n)) m row).0 x unclosed in
        omega (arith, few, up.0, up.1)

    -- one more fills no less
    more : (n : ℕ) (old new : Moment) (row : Row n old) (y : WideRound w k old new) → BothOpen new.ends → level n old row ≤ level (suc n) new (old, row, y)
    more zero old new row y unclosed = omega arith
    more (suc zero) old new (m, row, x) y unclosed =
        let up = within m old (row_led 0 m row).0 x (open_before old new y unclosed) in
        let over = within old new (row_led 1 old (m, row, x)).0 y unclosed in
        omega (arith, up.0, up.1, over.0)
    more (suc (suc n)) old new row y unclosed = omega arith

    -- Courses: where each round that begins where this doesn't hold, after so many others in a row, fills more than the first of these did

    module _ (P : Moment → Type 0) (depth : ℕ) (fills_more : (n : ℕ) → depth ≤ n → n ≤ depth → (old new : Moment) (row : Row n old) (y : WideRound w k old new) → Later a b old last → BothOpen old.ends → (P old → ⊥) → level n old row + 1 ≤ level n new (row_rest n new (old, row, y))) where
      course_later : (parts : List Bool) (old : Moment) → IsReached a b old → Course (WideRound w k) P parts old last → Later a b old last
      course_later [] old r is = subst (Later a b old) (sym is) (later_same a b old r)
      course_later (true ∷ parts) old r (begins, mid, step, rest) =
          let first = later_round old mid r step in
          later_twice a b old mid last first (course_later parts mid first.is_reached rest)
      course_later (false ∷ parts) old r (ms, mid, stretch, rest) =
          let first = onward a b (λ call. ⊤) ms old mid r stretch in
          later_twice a b old mid last first (course_later parts mid first.is_reached rest)

      course_open : (parts : List Bool) (old : Moment) → Course (WideRound w k) P parts old last → BothOpen last.ends → BothOpen old.ends
      course_open [] old is unclosed = subst (λ (m : Moment). BothOpen m.ends) is unclosed
      course_open (true ∷ parts) old (begins, mid, step, rest) unclosed = open_before old mid step (course_open parts mid rest unclosed)
      course_open (false ∷ parts) old (ms, mid, stretch, rest) unclosed = trail_open (λ call. ⊤) ms old mid stretch (course_open parts mid rest unclosed)

      pub courses : (parts : List Bool) (old : Moment) (n : ℕ) → n ≤ depth → (row : Row n old) → Course (WideRound w k) P parts old last → BothOpen last.ends →
          steps_in parts + level n old row + n ≤ 2 * level_at last + depth * stretches_in parts + depth
      courses [] old n few row is unclosed =
          let same : last ≡ old = is in
          let below = low n old row (subst (λ (m : Moment). BothOpen m.ends) same unclosed) in
          subst (λ (m : Moment). 0 + level n old row + n ≤ 2 * level_at m + depth * 0 + depth) (sym same) (omega (arith, few, below))
      courses (true ∷ parts) old n few row (begins, mid, step, rest) unclosed =
          let open_mid = course_open parts mid rest unclosed in
          elim (cases_lt n depth) [
            | inl lt ↦ (
                let counted = courses parts mid (suc n) (omega (arith, lt)) (old, row, step) rest unclosed in
                let grows = more n old mid row step open_mid in
                omega (arith, counted, grows))
            | inr ge ↦ (
                let first = later_round old mid (row_led n old row).0 step in
                let until = later_twice a b old mid last first (course_later parts mid first.is_reached rest) in
                let grows = fills_more n ge few old mid row step until (open_before old mid step open_mid) begins in
                let counted = courses parts mid n few (row_rest n mid (old, row, step)) rest unclosed in
                omega (arith, counted, grows))
          ]
      courses (false ∷ parts) old n few row (ms, mid, stretch, rest) unclosed =
          let (r, since) = row_led n old row in
          let first = onward a b (λ call. ⊤) ms old mid r stretch in
          let below = low n old row (trail_open (λ call. ⊤) ms old mid stretch (course_open parts mid rest unclosed)) in
          let up_a = fills_on A old mid first in
          let up_b = fills_on B old mid first in
          let counted = courses parts mid 0 (omega arith) (first.is_reached, later_twice a b begun old mid since first) rest unclosed in
          let parted : depth * (stretches_in parts + 1) ≡ depth * stretches_in parts + depth = omega arith in
          omega (arith, few, below, up_a, up_b, counted, parted)

    read_fills : (n : ℕ) → 3 ≤ n → n ≤ 3 → (old new : Moment) (row : Row n old) (y : WideRound w k old new) → Later a b old last → BothOpen old.ends → (IsAllRead old → ⊥) → level n old row + 1 ≤ level n new (row_rest n new (old, row, y))
    read_fills (suc (suc (suc zero))) ge le old new (m2, (m1, (m0, start, x1), x2), x3) y until unclosed begins =
        elim (cases_lt (level_of m0 m1 x1) (level_of m2 old x3)) [
          | inl lt ↦ omega (arith, lt)
          | inr even ↦ absurd (begins (all_is_read m0 m1 m2 old start.0 x1 x2 x3 start.1 until unclosed even))
        ]
    read_fills (suc (suc (suc (suc n)))) ge le old new row y until unclosed begins = absurd (omega (arith, le))
    read_fills n ge le old new row y until unclosed begins = absurd (omega (arith, ge))

pub all_is_read_in_rounds : AllIsReadInRounds
all_is_read_in_rounds w a b k parts old new r course unclosed room =
    let counted = courses a b w k old new room IsAllRead 3 (read_fills a b w k old new room) parts old 0 (omega arith) (r, later_same a b old r) course unclosed in
    omega (arith, counted)
