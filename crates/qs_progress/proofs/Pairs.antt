-- Two laps in a row, of which the second doesn't begin at rest, raise a score.
use Rattle.std.proofs.lemmas.Bool.Decides.{nat_tests}
use Rattle.std.proofs.Common.{◌≡◌, ℕ, ◌+◌, ◌<◌, ◌≤◌, Bool, true, false, not, ◌&&◌, List, [], ◌∷◌, ◌⊎◌, length, Some, None, is_some, refl, sym, ap, ◌∙◌, subst, arith, inl, inr}
use Rattle.std.proofs.lemmas.Bool.{cases_lt, true≢false}
use Rattle.std.proofs.lemmas.Option.{none-some, slice_get_within}
use Rattle.qs_wire.specs.declared.stream_id.Dir.{Dir}
use Rattle.qs_wire.specs.declared.stream_id.Dir.TheVariants.{Bidi, Uni}
use Rattle.qs_recv.specs.Lane.{RecvLane}
use Rattle.qs_recv.specs.News.{is_readable}
use Rattle.qs_send.specs.Records.{Among}
use Rattle.qs_send.specs.declared.piece.Piece.{Piece}
use Rattle.qs_calls.specs.declared.settings.Settings.{Settings}
use Rattle.qs_calls.specs.declared.event.Side.{Side}
use Rattle.qs_calls.specs.declared.event.Side.TheVariants.{A, B}
use Rattle.qs_machine.specs.Tables.{lookup}
use Rattle.qs_machine.specs.Ends.{End}
use Rattle.qs_machine.specs.Due.{known_count}
use Rattle.qs_machine.specs.FrameStep.{frames_taken}
use Rattle.qs_machine.specs.News.{IsLeast, IsReadable}
use Rattle.qs_machine.proofs.EachHalf.{sends_kept}
use Rattle.qs_machine.proofs.CallsCounts.{lanes_call}
use Rattle.qs_machine.proofs.Again.{all_left}
use Rattle.qs_runs.specs.Logs.{Happening, other}
use Rattle.qs_runs.specs.Pasts.{Packets, PieceOf, past}
use Rattle.qs_runs.specs.Worlds.{end_of, WorldStep}
use Rattle.qs_runs.proofs.Histories.{two_sides}
use Rattle.qs_runs.proofs.Runs.{run_keeps}
use Rattle.qs_rest.specs.Rest.{AtRest, HasMore}
use Rattle.qs_rest.proofs.Runs.{every_run_keeps}
use Rattle.qs_rest.proofs.Telling.{no_news}
use Rattle.qs_progress.specs.Score.{score, first_count}
use Rattle.qs_progress.specs.Laps.{Moment, IsCalm, Trail, Sometime, Lap}
use Rattle.qs_progress.specs.Outstanding.{IsIn}
use Rattle.qs_progress.specs.Comes.{BothRest, BothOpen, IsReached}
use Rattle.qs_progress.proofs.Score.{Goes, goes_call, peer_stays, what_is_done_stays}
use Rattle.qs_progress.proofs.Items.{ItemsGrow}
use Rattle.qs_progress.proofs.Within.{items_are_within}
use Rattle.qs_progress.proofs.CalmCalls.{Forms, calm_call}
use Rattle.qs_progress.proofs.Outstanding.{AcksStay, stay_same, stay_twice, what_is_out_stays}
use Rattle.qs_progress.proofs.Undone.{IsUndone, undone_unreached, acks_edits, undone_stays}
use Rattle.qs_progress.proofs.Alike.{slots_same, slots_twice}
use Rattle.qs_progress.proofs.Steps.{Quiet, PutsOut, IsReady, Result, forms, ends_after}
use Rattle.qs_progress.proofs.More.{more_back}
use Rattle.qs_progress.proofs.Trails.{trail_open, reached}
use Rattle.qs_progress.proofs.Steady.{runs_pair, runs_reset}

quiet_same : (e : End) → Quiet e e
quiet_same e = record { rest = refl; sends = slots_same e.sends; carried = λ k p here. here }

quiet_twice : (a b c : End) → Quiet a b → Quiet b c → Quiet a c
quiet_twice a b c x y = record { rest = y.rest ∙ x.rest; sends = slots_twice a.sends b.sends c.sends x.sends y.sends; carried = λ k p here. x.carried k p (y.carried k p here) }

-- what isn't acknowledged stays outstanding
abbrev Keeps : End → End → Type 0
Keeps a b = (k : ℕ) (p : Piece) → IsIn a.outstanding k p → IsUndone a p → IsIn b.outstanding k p × IsUndone b p

-- numbers don't fall
next_forms : (old : End) → IsReady old → Forms old (λ (e : End). old.next ≤ e.next)
next_forms old ready =
    record {
      same = omega arith;
      claims = omega arith;
      accepts = λ bidi uni. omega arith;
      reads = λ n size. omega arith;
      consumes = λ n size. omega arith;
      packet = λ fs last filled. omega arith;
      frames = λ fs mid none ends.
          let left = all_left fs old ready.sound ready.sent none in
          let first = left.after.next in
          let second = (ends_after old ready (frames_taken fs old) mid left.sent ends).next in
          omega (arith, first, second);
    }

pub stood_in : (mine : Packets) (k : ℕ) (p : Piece) → PieceOf mine k p → k < length mine
stood_in mine k p h = grind (arith, nat_tests, slice_get_within)

module _ (a b : Settings) where
  module _ (s : Side) where
    abbrev at : Moment → End
    at m = end_of m.ends s

    pub ready : (m : Moment) → IsReached a b m → IsReady (at m)
    ready m r =
        let ok = run_keeps a b m.log m.ends r.run in
        let rest = every_run_keeps a b m.log m.ends r.run s in
        record {
          steady = record {
            credit = rest.conn;
            counts = counted rest.bidi rest.uni;
            limits = λ n l is. (rest.sends n l is).first_limit;
            both = runs_pair a b m.log m.ends r.run s;
            stops = runs_reset a b m.log m.ends r.run s;
          };
          sound = ok.sound s;
          sent = ok.sent s;
          within = items_are_within a b m.log m.ends r.run s;
          limits = rest.limits;
          counts = rest.counts;
        }
      where
        counted : first_count (at m).peer Bidi ≤ known_count (at m) Bidi → first_count (at m).peer Uni ≤ known_count (at m) Uni → (d : Dir) → first_count (at m).peer d ≤ known_count (at m) d
        counted bidi uni d = grind (arith, nat_tests)

    -- what comes of one happening: numbers and scores don't fall, nor what is acknowledged
    record Moves (e f : End) : Type 0 where
      next : e.next ≤ f.next
      grows : score e ≤ score f
      items : ItemsGrow e.acked f.acked
      quiet : score f ≤ score e → PutsOut e f ⊎ Quiet e f
      keeps : score f ≤ score e → Keeps e f

    idle : (e : End) → Moves e e
    idle e = record { next = omega arith; grows = omega arith; items = λ i is. is; quiet = λ even. inr (quiet_same e); keeps = λ even k p here undone. (here, undone) }

    moves : (old new : Moment) (x : Happening) → IsReached a b old → IsCalm x.call → WorldStep old.log old.ends x new.ends → Moves (at old) (at new)
    moves old new x r calm step =
        two_sides (λ t. t ≡ s → Moves (end_of old.ends t) (end_of new.ends t)) x.end here (λ is. subst (Moves (end_of old.ends (other x.end))) (sym step.still) (idle (end_of old.ends (other x.end)))) s refl
      where
        here : x.end ≡ s → Moves (end_of old.ends x.end) (end_of new.ends x.end)
        here is =
            let e = end_of old.ends x.end in
            let f = end_of new.ends x.end in
            let e_ready : IsReady e = subst (λ t. IsReady (end_of old.ends t)) (sym is) (ready old r) in
            let peer = peer_stays a b old.log old.ends new.ends x r.run step x.end (r.knows_first x.end) in
            let g : Goes e f = goes_call e x.call x.answer f step.step peer in
            let kept = (sends_kept AcksStay stay_same stay_twice acks_edits e x.call x.answer f step.step).1 in
            let lanes = lanes_call e e_ready.sound e_ready.sent x.call x.answer f step.step in
            record {
              next = calm_call e _ (next_forms e e_ready) x.call x.answer f calm step.step;
              grows = what_is_done_stays a b old.log old.ends new.ends x r.run step x.end (r.knows_first x.end);
              items = g.items;
              quiet = calm_call e (Result e e_ready) (forms e e_ready) x.call x.answer f calm step.step g kept lanes;
              keeps = λ even k p there undone.
                  let still = undone_stays e f g even kept p undone in
                  elim (what_is_out_stays a b old.log old.ends new.ends x r.run step calm x.end k p there) [
                    | inl stays ↦ (stays, still)
                    | inr reached ↦ absurd (undone_unreached f p still reached)
                  ];
            }

    -- and of a trail
    pub record Leads (e f : End) : Type 0 where
      pub next : e.next ≤ f.next
      pub grows : score e ≤ score f
      pub items : ItemsGrow e.acked f.acked
      pub keeps : score f ≤ score e → Keeps e f

    pub leads : (ms : List Moment) (old new : Moment) → IsReached a b old → Trail IsCalm old ms new → IsReached a b new × Leads (at old) (at new)
    leads [] old new r is = subst (λ m. IsReached a b m × Leads (at old) (at m)) (sym is) (r, record { next = omega arith; grows = omega arith; items = λ i h. h; keeps = λ even k p here undone. (here, undone) })
    leads (m ∷ ms) old new r ((x, calm, logged, step), rest) =
        let first = moves old m x r calm step in
        let (there, later) = leads ms m new (reached a b old m x r logged step) rest in
        let up = first.grows in
        let more = later.grows in
        let nexts = first.next in
        let more_nexts = later.next in (
          there,
          record {
            next = omega (arith, nexts, more_nexts);
            grows = omega (arith, up, more);
            items = λ i h. later.items i (first.items i h);
            keeps = λ even k p here undone.
                let (still, yet) = first.keeps (omega (arith, even, more)) k p here undone in
                later.keeps (omega (arith, even, up)) k p still yet;
          },
        )

    -- where no packet that is made carries what isn't acknowledged, nothing changes but records
    stays_quiet : (ms : List Moment) (old mid : Moment) → IsReached a b old → Trail IsCalm old ms mid → score (at mid) ≤ score (at old)
        → ((m : Moment) (rest : List Moment) → IsReached a b m → Trail IsCalm m rest mid → (k : ℕ) (p : Piece) → k < (at mid).next → IsIn (at m).outstanding k p → IsUndone (at m) p → score (at mid) ≤ score (at m) → ⊥) → Quiet (at old) (at mid)
    stays_quiet [] old mid r is even never = subst (λ m. Quiet (at old) (at m)) (sym is) (quiet_same (at old))
    stays_quiet (m ∷ ms) old mid r ((x, calm, logged, step), rest) even never =
        let first = moves old m x r calm step in
        let r_m = reached a b old m x r logged step in
        let (there, later) = leads ms m mid r_m rest in
        let up = first.grows in
        let more = later.grows in
        let even_m : score (at mid) ≤ score (at m) = omega (arith, even, up) in
        elim (first.quiet (omega (arith, even, more))) [
          | inl (p, here, undone, lt) ↦ (let nexts = later.next in absurd (never m ms r_m rest (at old).next p (omega (arith, lt, nexts)) here undone even_m))
          | inr quiet ↦ quiet_twice (at old) (at m) (at mid) quiet (stays_quiet ms m mid r_m rest even_m never)
        ]

    -- each of its moments leads on to the end
    from_moment : (ms : List Moment) (old mid m : Moment) → IsReached a b old → Trail IsCalm old ms mid → Among m ms → (rest : List Moment) × IsReached a b m × Trail IsCalm m rest mid × (score (at old) ≤ score (at m))
    from_moment [] old mid m r is among = absurd among
    from_moment (n ∷ ms) old mid m r ((x, calm, logged, step), rest) among =
        let first = moves old n x r calm step in
        let r_n = reached a b old n x r logged step in
        let up = first.grows in
        elim among [
          | inl is ↦ subst (λ y. (rest : List Moment) × IsReached a b y × Trail IsCalm y rest mid × (score (at old) ≤ score (at y))) (sym is) (ms, r_n, rest, up)
          | inr later ↦ (let (after, r_m, tail, more) = from_moment ms n mid m r_n rest later in (after, r_m, tail, omega (arith, up, more)))
        ]

    -- one of its moments, or the first one, leads on to the end
    from_any : (ms : List Moment) (old mid m : Moment) → IsReached a b old → Trail IsCalm old ms mid → Among m (old ∷ ms) → (rest : List Moment) × IsReached a b m × Trail IsCalm m rest mid × (score (at old) ≤ score (at m))
    from_any ms old mid m r trail (inl is) = subst (λ y. (rest : List Moment) × IsReached a b y × Trail IsCalm y rest mid × (score (at old) ≤ score (at y))) (sym is) (ms, r, trail, omega arith)
    from_any ms old mid m r trail (inr later) = from_moment ms old mid m r trail later

    -- Two calm trails, the second from where the first ended, or where this end is the same. What was outstanding as each began isn't at its
    -- end; and at some moment of the first there was no more to send, and at some moment no more to read.
    pub record Legs (old mid again new : Moment) : Type 0 where
      pub begins : IsReached a b old
      pub goes_on : IsReached a b again
      pub same : at again ≡ at mid
      pub firsts : List Moment
      pub seconds : List Moment
      pub first : Trail IsCalm old firsts mid
      pub second : Trail IsCalm again seconds new
      pub none_out_first : (k : ℕ) (p : Piece) → k < (at old).next → IsIn (at mid).outstanding k p → ⊥
      pub none_out : (k : ℕ) (p : Piece) → k < (at mid).next → IsIn (at new).outstanding k p → ⊥
      pub none_to_send : Sometime (λ w. HasMore (end_of w s) → ⊥) (old ∷ firsts)
      pub none_to_read : Sometime (λ w. IsLeast (IsReadable (end_of w s)) 0 None) (old ∷ firsts)
      pub unclosed : BothOpen mid.ends
      pub even_first : score (at mid) ≤ score (at old)
      pub even : score (at new) ≤ score (at mid)

    module _ (old mid again new : Moment) (legs : Legs old mid again new) where
      r_mid : IsReached a b mid
      r_mid = (leads legs.firsts old mid legs.begins legs.first).0

      -- what went out in the first trail would have been acknowledged by the end of the second
      never : (m : Moment) (rest : List Moment) → IsReached a b m → Trail IsCalm m rest mid → (k : ℕ) (p : Piece) → k < (at mid).next → IsIn (at m).outstanding k p → IsUndone (at m) p → score (at mid) ≤ score (at m) → ⊥
      never m rest r_m trail k p lt here undone even =
          let (there, yet) = (leads rest m mid r_m trail).1.keeps even k p here undone in
          let even_again = subst (λ (e : End). score (at new) ≤ score e) (sym legs.same) legs.even in
          let (still, open_yet) = (leads legs.seconds again new legs.goes_on legs.second).1.keeps even_again k p (subst (λ (e : End). IsIn e.outstanding k p) (sym legs.same) there) (subst (λ e. IsUndone e p) (sym legs.same) yet) in
          legs.none_out k p lt still

      -- from a moment of the first trail on
      since : (m : Moment) → Among m (old ∷ legs.firsts) → IsReached a b m × Quiet (at m) (at mid) × Leads (at m) (at mid)
      since m among =
          let (rest, r_m, trail, up) = from_any legs.firsts old mid m legs.begins legs.first among in
          let even : score (at mid) ≤ score (at m) = (let least = legs.even_first in omega (arith, least, up)) in
          (r_m, stays_quiet rest m mid r_m trail even never, (leads rest m mid r_m trail).1)

      keeps_all : (m : Moment) (among : Among m (old ∷ legs.firsts)) (k : ℕ) (p : Piece) → IsIn (at m).outstanding k p → IsUndone (at m) p → IsIn (at mid).outstanding k p
      keeps_all m among k p here undone =
          let (rest, r_m, trail, up) = from_any legs.firsts old mid m legs.begins legs.first among in
          let least = legs.even_first in
          ((leads rest m mid r_m trail).1.keeps (omega (arith, least, up)) k p here undone).0

      pub rests : AtRest (at mid)
      rests =
          record {
            quiet = λ more.
                let (m, among, none) = legs.none_to_send in
                let (r_m, quiet, led) = since m among in
                none (more_back (at m) (at mid) quiet led.items (ready m r_m) (ready mid r_mid) (keeps_all m among) more);
            none_out = λ p (k, ps, there, among).
                let ok = run_keeps a b old.log old.ends legs.begins.run in
                let (qs, before, was) = (stays_quiet legs.firsts old mid legs.begins legs.first legs.even_first never).carried k p (ps, there, among) in
                let below = stood_in (past s old.log).mine k p ((ok.ends s).packets.records k qs p before was) in
                legs.none_out_first k p (omega (arith, below, (ok.ends s).packets.count)) (ps, there, among);
            read_out = λ n l there.
                let (m, among, least) = legs.none_to_read in
                let (r_m, quiet, led) = since m among in
                no_news l ((every_run_keeps a b mid.log mid.ends r_mid.run s).told n l there) (unread m among least n l (ap (λ (e : End). lookup e.recvs n) (sym quiet.rest) ∙ there) (is_readable l) refl);
          }
        where
          unread : (m : Moment) → Among m (old ∷ legs.firsts) → IsLeast (IsReadable (at m)) 0 None → (n : ℕ) (l : RecvLane) → lookup (at m).recvs n ≡ Some l → (c : Bool) → is_readable l ≡ c → is_readable l ≡ false
          unread m among least n l is false same = same
          unread m among least n l is true same =
              let (rest, r_m, trail, up) = from_any legs.firsts old mid m legs.begins legs.first among in
              let unclosed : (at m).closed ≡ None = trail_open IsCalm rest m mid trail legs.unclosed s in
              let (n2, found, le) = least.least n (omega arith) (ap (λ c. is_some c && not (at m).tuning.reads_when_closed) unclosed, (l, is, same)) in
              absurd (none-some n2 found)

    -- two laps are such trails
    laps : (old mid new : Moment) → IsReached a b old → Lap old mid → Lap mid new → BothOpen new.ends → score (at mid) ≤ score (at old) → score (at new) ≤ score (at mid) → Legs old mid mid new
    laps old mid new r first second open_end even_first even =
        record {
          begins = r;
          goes_on = (leads first.moments old mid r first.calm).0;
          same = refl;
          firsts = first.moments;
          seconds = second.moments;
          first = first.calm;
          second = second.calm;
          none_out_first = λ k p lt (ps, there, among). true≢false (sym (ap is_some there) ∙ first.none_out s k lt);
          none_out = λ k p lt (ps, there, among). true≢false (sym (ap is_some there) ∙ second.none_out s k lt);
          none_to_send = let (m, among, none) = first.none_to_send s in (m, inr among, none);
          none_to_read = let (m, among, least) = first.none_to_read s in (m, inr among, least);
          unclosed = trail_open IsCalm second.moments mid new second.calm open_end;
          even_first = even_first;
          even = even;
        }

  -- where no score falls, such trails raise one, or this end is at rest between them, and so are both
  pub legs_raise : (old mid again new : Moment) → ((s : Side) → (score (end_of old.ends s) ≤ score (end_of mid.ends s)) × (score (end_of mid.ends s) ≤ score (end_of new.ends s)))
      → ((s : Side) → score (end_of mid.ends s) ≤ score (end_of old.ends s) → score (end_of new.ends s) ≤ score (end_of mid.ends s) → Legs s old mid again new)
      → (BothRest mid.ends → ⊥) → score old.ends.a + score old.ends.b < score new.ends.a + score new.ends.b
  legs_raise old mid again new grows legs begins =
      let (a1, a2) = grows A in
      let (b1, b2) = grows B in
      elim (cases_lt (score old.ends.a + score old.ends.b) (score new.ends.a + score new.ends.b)) [
        | inl lt ↦ lt
        | inr ge ↦ absurd (begins (two_sides (λ s. AtRest (end_of mid.ends s)) A
            (rests A old mid again new (legs A (omega (arith, ge, a1, b1, a2, b2)) (omega (arith, ge, a1, b1, a2, b2))))
            (rests B old mid again new (legs B (omega (arith, ge, a1, b1, a2, b2)) (omega (arith, ge, a1, b1, a2, b2))))))
      ]

  pub laps_raise : (old mid new : Moment) → IsReached a b old → Lap old mid → (BothRest mid.ends → ⊥) → Lap mid new → BothOpen new.ends → score old.ends.a + score old.ends.b < score new.ends.a + score new.ends.b
  laps_raise old mid new r first begins second open_end =
      legs_raise old mid mid new (λ s. (let (r_mid, led) = leads s first.moments old mid r first.calm in (led.grows, (leads s second.moments mid new r_mid second.calm).1.grows))) (λ s. laps s old mid new r first second open_end) begins
