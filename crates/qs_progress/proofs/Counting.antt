-- What each step of a round adds to what is done, and to what would be once all that is outstanding is acknowledged.
use Rattle.std.proofs.lemmas.Bool.Decides.{nat_tests}
use Rattle.std.proofs.Common.{arith}
use Rattle.std.proofs.Common.{◌≡◌, ℕ, suc, ◌+◌, ◌<◌, ◌≤◌, Bool, true, false, List, ◌⊎◌, Option, Some, None, is_some, refl, sym, ap, ◌∙◌, subst, inl, inr}
use Rattle.std.specs.Prelude.{Result, Ok}
use Rattle.std.proofs.lemmas.Bool.{cases_lt}
use Rattle.qs_recv.specs.Lane.{RecvLane, after_read, raise}
use Rattle.qs_recv.specs.Lawful.{IsLawful}
use Rattle.qs_recv.specs.declared.half.Read.{Read}
use Rattle.qs_send.specs.declared.piece.Piece.{Piece}
use Rattle.qs_calls.specs.declared.settings.Settings.{Settings}
use Rattle.qs_calls.specs.declared.event.Side.{Side}
use Rattle.qs_calls.specs.declared.making.Made.{Made}
use Rattle.qs_calls.specs.declared.uses.UseFault.{UseFault}
use Rattle.qs_calls.specs.declared.uses.UseFault.TheVariants as uses
use Rattle.qs_machine.specs.Tables.{lookup}
use Rattle.qs_machine.specs.Ends.{End, send_lane, recv_lane}
use Rattle.qs_machine.specs.Credit.{settle}
use Rattle.qs_machine.specs.Making.{IsMade, make_refusal}
use Rattle.qs_machine.specs.Owner.{ReadBy, recv_refusal, is_read_no_more, first_refusal, refuse_if, no_half}
use Rattle.qs_machine.specs.News.{IsReadable}
use Rattle.qs_machine.specs.EndStep.{Make, ReadUpTo}
use Rattle.qs_machine.proofs.EachHalf.{sends_kept}
use Rattle.qs_machine.proofs.EndsAfter.{lawful_in}
use Rattle.qs_runs.specs.Logs.{Happening, other}
use Rattle.qs_runs.specs.Worlds.{end_of}
use Rattle.qs_runs.proofs.Histories.{two_sides}
use Rattle.qs_runs.proofs.Runs.{run_keeps}
use Rattle.qs_progress.specs.Score.{score, one_if}
use Rattle.qs_progress.specs.Laps.{Moment, IsCalm}
use Rattle.qs_progress.specs.Outstanding.{IsIn, IsWhollyAcked}
use Rattle.qs_progress.specs.Comes.{IsReached}
use Rattle.qs_progress.specs.Rounds.{Happens}
use Rattle.qs_progress.proofs.Sums.{le_same}
use Rattle.qs_progress.proofs.Score.{Goes, goes_call, peer_stays}
use Rattle.qs_progress.proofs.Within.{items_are_within}
use Rattle.qs_progress.proofs.Undone.{acks_edits}
use Rattle.qs_progress.proofs.Outstanding.{AcksStay, StayIn, stay_same, stay_twice, homes_of, what_is_out_stays}
use Rattle.qs_progress.proofs.Even.{read_even, told_even_of}
use Rattle.qs_progress.proofs.Steps.{IsNew, read_same, raised_at}
use Rattle.qs_progress.proofs.Unread.{none_unread, news_read}
use Rattle.qs_progress.proofs.Pairs.{ready}
use Rattle.qs_progress.proofs.Trails.{reached}
use Rattle.qs_progress.proofs.Turns.{is_made}
use Rattle.qs_progress.proofs.Ahead.{ahead, out_in, OutHomes, ahead_goes, ahead_grows, ahead_more}
use Rattle.qs_progress.proofs.Carrying.{ahead_puts, ahead_reads, adds, undone_new}

-- what would be done of a side
abbrev pub would : Side → Moment → ℕ
would s m = score (ahead (end_of m.ends s))

-- whether an ACK is due
abbrev pub due : Side → Moment → ℕ
due s m = one_if (end_of m.ends s).ack_due

module _ (a b : Settings) where
  out_homes : (m : Moment) → IsReached a b m → (s : Side) → OutHomes (end_of m.ends s)
  out_homes m r s p among =
      let (k, (ps, at, here)) = out_in (end_of m.ends s) p among in
      homes_of (end_of m.ends s) ((run_keeps a b m.log m.ends r.run).sent s) (items_are_within a b m.log m.ends r.run s) false p (k, ps, at, here)

  module _ (x : Happening) (old new : Moment) (r : IsReached a b old) (calm : IsCalm x.call) (happens : Happens x old new) where
    r_new : IsReached a b new
    r_new = reached a b old new x r happens.0 happens.1

    goes : Goes (end_of old.ends x.end) (end_of new.ends x.end)
    goes = goes_call (end_of old.ends x.end) x.call x.answer (end_of new.ends x.end) happens.1.step (peer_stays a b old.log old.ends new.ends x r.run happens.1 x.end (r.knows_first x.end))

    stays : StayIn (end_of old.ends x.end).sends (end_of new.ends x.end).sends
    stays = (sends_kept AcksStay stay_same stay_twice acks_edits (end_of old.ends x.end) x.call x.answer (end_of new.ends x.end) happens.1.step).1

    out : (k : ℕ) (p : Piece) → IsIn (end_of old.ends x.end).outstanding k p → IsIn (end_of new.ends x.end).outstanding k p ⊎ IsWhollyAcked (end_of new.ends x.end) p
    out k p here = what_is_out_stays a b old.log old.ends new.ends x r.run happens.1 calm x.end k p here

    -- it never falls
    pub would_grow : (s : Side) → would s old ≤ would s new
    would_grow s =
        two_sides (λ t. would t old ≤ would t new) x.end
        (ahead_grows (end_of old.ends x.end) (end_of new.ends x.end) goes stays (out_homes new r_new x.end) out)
        (subst (λ e. would (other x.end) old ≤ score (ahead e)) (sym happens.1.still) (le_same (would (other x.end) old))) s

    -- what goes out raises it
    pub would_put : (p : Piece) → IsIn (end_of new.ends x.end).outstanding (end_of old.ends x.end).next p → IsNew (end_of old.ends x.end) p → would x.end old < would x.end new
    would_put p at due =
        let e = end_of old.ends x.end in
        ahead_puts e (end_of new.ends x.end) goes stays (out_homes new r_new x.end) out e.next p at (undone_new e (ready a b x.end old r) p due)

    -- and so does what a reader is told
    pub would_read : (n : ℕ) (l m : RecvLane) → recv_lane (end_of old.ends x.end) n ≡ Some l → recv_lane (end_of new.ends x.end) n ≡ Some m
        → (l.arrived.read_count < m.arrived.read_count) ⊎ ((l.reader_done ≡ false) × (m.reader_done ≡ true)) → would x.end old < would x.end new
    would_read = ahead_reads (end_of old.ends x.end) (end_of new.ends x.end) goes stays (out_homes new r_new x.end) out

  -- a packet that is made adds to it, or an ACK is due no more
  pub made_adds : (s : Side) (first delay room : ℕ) (made : Made) (text : List ℕ) (old new : Moment) → IsReached a b old
      → Happens (record { end = s; call = Make first delay room; answer = (Ok (Some made), text) }) old new → would s old + 1 + due s new ≤ would s new + due s old
  made_adds s first delay room made text old new r happens =
      let x : Happening = record { end = s; call = Make first delay room; answer = (Ok (Some made), text) } in
      let e = end_of old.ends s in
      let f = end_of new.ends s in
      let it : IsMade e first delay room made text f = is_made (make_refusal e) e f first delay room made text happens.1.step in
      let (last, filled, ends) = it.lawful.filled in
      adds e (ready a b s old r) _ last f filled it.lawful.some (it.after ∙ ap settle ends) (goes x old new r tt happens) (stays x old new r tt happens) (out_homes new (r_new x old new r tt happens) s) (out x old new r tt happens)

  -- what is done is no more
  pub would_more : (s : Side) (m : Moment) → score (end_of m.ends s) ≤ would s m
  would_more s m = ahead_more (end_of m.ends s)

  -- a read of a stream with news adds to it, too
  pub read_adds : (s : Side) (n size : ℕ) (answer : Result Read UseFault × List ℕ) (old new : Moment) → IsReached a b old → IsReadable (end_of old.ends s) n
      → Happens (record { end = s; call = ReadUpTo n (suc size); answer = answer }) old new → would s old < would s new
  read_adds s n size answer old new r (unshut, (l, at, news)) happens =
      elim (cases_lt (would s old) (would s new)) [
        | inl lt ↦ lt
        | inr even ↦ absurd (stuck even (recv_refusal (is_read_no_more e) e n) refl happens.1.step)
      ]
    where
      e : End
      e = end_of old.ends s

      f : End
      f = end_of new.ends s

      lawful : IsLawful l
      lawful = lawful_in e n l ((run_keeps a b old.log old.ends r.run).sound s).0 at

      stuck : would s new ≤ would s old → (o : Option UseFault) → recv_refusal (is_read_no_more e) e n ≡ o → ReadBy o e n (suc size) answer.0 answer.1 f → ⊥
      stuck even (Some fault) is step = not_refused (is_read_no_more e) unshut (recv_lane e n) at (Some fault) is
        where
          not_refused : (b : Bool) → b ≡ false → (q : Option RecvLane) → q ≡ Some l → (o : Option UseFault) → first_refusal (refuse_if b uses.Closed) (elim q [ None ↦ Some (no_half (is_some (send_lane e n))) | Some x ↦ None ]) ≡ Some fault → ⊥
          not_refused b is q there o refused = grind (arith, nat_tests)
      stuck even None is (k, there, answered, told, after) =
          let x : Happening = record { end = s; call = ReadUpTo n (suc size); answer = answer } in
          let g = ahead_goes e f (goes x old new r tt happens) (stays x old new r tt happens) (out_homes new (r_new x old new r tt happens) s) (out x old new r tt happens) in
          let next = raise (after_read l (suc size)) in
          let now : lookup f.recvs n ≡ Some next = ap (λ (y : End). lookup y.recvs n) after ∙ raised_at e (ready a b s old r) n (λ m. after_read m (suc size)) l at in
          news_read l size lawful (none_unread a b old.log old.ends r.run s n l at) news
          (read_same l (suc size) lawful (read_even (ahead e) (ahead f) g even n l next at now) (told_even_of (ahead e) (ahead f) g even n l next at now))
