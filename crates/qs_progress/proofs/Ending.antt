-- Calls that send something, or tell a reader something, come to an end; and a packet with room to spare sends something, where there is more.
use Rattle.std.proofs.lemmas.Bool.Decides.{nat_tests}
use Rattle.std.proofs.Common.{◌≡◌, ℕ, ◌+◌, ◌<◌, ◌≤◌, Bool, true, false, List, [], ◌∷◌, ◌⊎◌, refl, sym, ap, ◌∙◌, subst, arith, inl, inr}
use Rattle.qs_send.specs.Records.{Among}
use Rattle.qs_send.specs.declared.piece.Item.{Item}
use Rattle.qs_send.specs.declared.piece.Piece.TheVariants.{Told}
use Rattle.qs_send.specs.declared.piece.Piece.{Piece}
use Rattle.qs_calls.specs.declared.settings.Settings.{Settings}
use Rattle.qs_calls.specs.declared.event.Side.{Side}
use Rattle.qs_calls.specs.declared.event.Side.TheVariants.{A, B}
use Rattle.qs_machine.specs.Ends.{End}
use Rattle.qs_machine.specs.Due.{StreamGoes}
use Rattle.qs_machine.specs.Seen.{Seen, Control}
use Rattle.qs_machine.specs.FrameStep.{frames_taken}
use Rattle.qs_machine.specs.Lawful.{Fills, frame_put, IsWhole}
use Rattle.qs_machine.specs.Making.{IsMade, make_refusal}
use Rattle.qs_machine.proofs.Leaves.{put_leaves}
use Rattle.qs_runs.specs.Logs.{Happening, other}
use Rattle.qs_runs.specs.Worlds.{end_of}
use Rattle.qs_runs.proofs.Histories.{two_sides}
use Rattle.qs_runs.proofs.Runs.{run_keeps}
use Rattle.qs_rest.specs.Rest.{HasMore}
use Rattle.qs_progress.specs.Score.{score}
use Rattle.qs_progress.specs.Laps.{Moment, IsCalm, Trail}
use Rattle.qs_progress.specs.Outstanding.{IsIn}
use Rattle.qs_progress.specs.Comes.{IsReached}
use Rattle.qs_progress.specs.Rounds.{Happens}
use Rattle.qs_progress.specs.Ending.{Carries, RoomyPacketsCarry, TellsNews, Does, CallsComeToAnEnd}
use Rattle.qs_progress.proofs.Bound.{ahead_below}
use Rattle.qs_progress.proofs.CalmCalls.{Forms, calm_call}
use Rattle.qs_progress.proofs.Going.{frames_back, ends_back}
use Rattle.qs_progress.proofs.Steps.{IsNew, fills_new, noted_in, in_fills}
use Rattle.qs_progress.proofs.Ahead.{ahead}
use Rattle.qs_progress.proofs.Counting.{would, would_grow, would_put, would_read}
use Rattle.qs_progress.proofs.Trails.{reached}
use Rattle.qs_progress.proofs.Pairs.{stood_in}
use Rattle.qs_progress.proofs.Turns.{is_made}
use Rattle.qs_progress.proofs.Sums.{steps_in}

-- A packet that carries anything carries what is due

abbrev PutsNew : End → End → Type 0
PutsNew old new = (p : Piece) → IsIn new.outstanding old.next p → (q : Piece) × IsIn new.outstanding old.next q × IsNew old q

puts_new : (old : End) → ((p : Piece) → IsIn old.outstanding old.next p → ⊥) → Forms old (PutsNew old)
puts_new old none =
    record {
      same = λ p here. absurd (none p here);
      claims = λ p here. absurd (none p here);
      accepts = λ bidi uni p here. absurd (none p here);
      reads = λ n size p here. absurd (none p here);
      consumes = λ n size p here. absurd (none p here);
      packet = λ fs last filled p here. elim (fills_new old fs old last refl filled) [
        | inl (same, acks) ↦ absurd (none p (subst (λ (x : End). IsIn x.outstanding old.next p) same here))
        | inr (q, there, new) ↦ (q, there, new)
      ];
      frames = λ fs mid fine ends p here. absurd (none p (frames_back old.next p fs old (ends_back old.next p (frames_taken fs old) mid ends here)));
    }

-- an end as it was tells nothing
pub no_news : (e : End) → TellsNews e e → ⊥
no_news e h = grind (arith, nat_tests)

module _ (a b : Settings) where
  -- what is outstanding has a lower number
  next_free : (m : Moment) → IsReached a b m → (s : Side) (p : Piece) → IsIn (end_of m.ends s).outstanding (end_of m.ends s).next p → ⊥
  next_free m r s p h = grind (arith, nat_tests, run_keeps, stood_in)

  -- one calm call
  module _ (old new : Moment) (x : Happening) (r : IsReached a b old) (calm : IsCalm x.call) (happens : Happens x old new) where
    abbrev Climbs : Side → Type 0
    Climbs s = (would s old ≤ would s new) × (Carries (end_of old.ends s) (end_of new.ends s) ⊎ TellsNews (end_of old.ends s) (end_of new.ends s) → would s old < would s new)

    here : Climbs x.end
    here = (
      would_grow a b x old new r calm happens x.end,
      λ does. elim does [
        | inl (p, put) ↦ (
            let e = end_of old.ends x.end in
            let (q, at, due) = calm_call e (PutsNew e) (puts_new e (next_free old r x.end)) x.call x.answer (end_of new.ends x.end) calm happens.1.step p put in
            would_put a b x old new r calm happens q at due)
        | inr (n, l, m, at, later, news) ↦ would_read a b x old new r calm happens n l m at later news
      ],
    )

    -- the other end is as it was
    there : Climbs (other x.end)
    there =
        let e = end_of old.ends (other x.end) in
        subst (λ f. (score (ahead e) ≤ score (ahead f)) × (Carries e f ⊎ TellsNews e f → score (ahead e) < score (ahead f))) (sym happens.1.still) (
          omega arith,
          λ does. elim does [ inl (p, at) ↦ absurd (next_free old r (other x.end) p at) | inr news ↦ absurd (no_news e news) ],
        )

    climbs : (s : Side) → Climbs s
    climbs = two_sides Climbs x.end here there

  abbrev both : Moment → ℕ
  both m = would A m + would B m

  trail_climbs : (marks : List Bool) (ms : List Moment) (old new : Moment) → IsReached a b old → Trail IsCalm old ms new → Does marks old ms → IsReached a b new × (steps_in marks + both old ≤ both new)
  trail_climbs [] [] old new r is does = subst (λ m. IsReached a b m × (0 + both old ≤ both m)) (sym is) (r, omega arith)
  trail_climbs (true ∷ marks) (m ∷ ms) old new r ((x, calm, logged, step), rest) ((s, one), does) =
      let (there, more) = trail_climbs marks ms m new (reached a b old m x r logged step) rest does in
      (there, omega (arith, more, sum s (climbs old m x r calm (logged, step)) one))
    where
      sum : (s : Side) → ((t : Side) → Climbs old m x r calm (logged, step) t) → Carries (end_of old.ends s) (end_of m.ends s) ⊎ TellsNews (end_of old.ends s) (end_of m.ends s) → both old + 1 ≤ both m
      sum A up one = (let here = (up A).1 one in let there = (up B).0 in omega (arith, here, there))
      sum B up one = (let here = (up B).1 one in let there = (up A).0 in omega (arith, here, there))
  trail_climbs (false ∷ marks) (m ∷ ms) old new r ((x, calm, logged, step), rest) does =
      let (there, more) = trail_climbs marks ms m new (reached a b old m x r logged step) rest does in
      let up_a = (climbs old m x r calm (logged, step) A).0 in
      let up_b = (climbs old m x r calm (logged, step) B).0 in
      (there, omega (arith, more, up_a, up_b))
  trail_climbs marks ms old new r trail none = absurd none

pub calls_come_to_an_end : CallsComeToAnEnd
calls_come_to_an_end a b marks ms old new r trail does =
    let (there, counted) = trail_climbs a b marks ms old new r trail does in
    let few = ahead_below a b new.log new.ends there.run there.knows_first in
    omega (arith, counted, few)

-- Packets with room to spare

-- streams go whether or not an ACK is due, and whatever the next number is
goes_too : (e : End) (due : Bool) (next n : ℕ) → StreamGoes e n → StreamGoes (record e { ack_due = due; next = next }) n
goes_too e due next n (l, at, inl (q, d, low, or)) = (l, at, inl (q, record { no_reset = d.no_reset; written = d.written; not_acked = d.not_acked; not_sent = d.not_sent }, low, or))
goes_too e due next n (l, at, inr (d, all)) = (l, at, inr (record { no_reset = d.no_reset; finished = d.finished; not_acked = d.not_acked; not_sent = d.not_sent }, all))

module _ (old : End) where
  put_control : (i : Item) (e : End) → e.next ≡ old.next → IsIn (frame_put (Control i) e).outstanding old.next (Told i)
  unfolding frame_put
  put_control i e is = grind (arith, nat_tests, noted_in)

  control_in : (i : Item) (fs : List Seen) (e last : End) → e.next ≡ old.next → Fills old e fs last → Among (Control i) fs → IsIn last.outstanding old.next (Told i)
  control_in i [] e last is filled among = absurd among
  control_in i (f ∷ fs) e last is (may, rest) (inl here) =
      in_fills old fs (frame_put f e) last old.next (Told i) rest (subst (λ g. IsIn (frame_put g e).outstanding old.next (Told i)) here (put_control i e is))
  control_in i (f ∷ fs) e last is (may, rest) (inr later) = control_in i fs (frame_put f e) last (ap (λ (x : End). x.next) (put_leaves f e) ∙ is) rest later

pub roomy_packets_carry : RoomyPacketsCarry
roomy_packets_carry old new first delay room made text more step roomy =
    let it : IsMade old first delay room made text new = is_made (make_refusal old) old new first delay room made text step in
    let (last, filled, ends) = it.lawful.filled in
    let whole = it.whole (omega (arith, roomy, it.len)) in
    let same : new.outstanding ≡ last.outstanding = ap (λ (x : End). x.outstanding) it.after ∙ ap (λ (x : End). x.outstanding) ends in
    let (p, here) = carried last it.mid filled ends whole more in
    (p, subst (λ m. IsIn m old.next p) (sym same) here)
  where
    carried : {frames : List Seen} (last mid : End) → Fills old old frames last → mid ≡ record last { next = old.next + 1 } → IsWhole old frames mid → HasMore old → (p : Piece) × IsIn last.outstanding old.next p
    carried {frames = frames} last mid filled ends whole (inl (i, due)) = (Told i, control_in old i frames old last refl filled (whole.items i due))
    carried {frames = frames} last mid filled ends whole (inr (n, goes)) =
        elim (fills_new old frames old last refl filled) [
          | inr (p, there, due) ↦ (p, there)
          | inl (same, acks) ↦ (
              let back : record last { next = old.next + 1 } ≡ record old { ack_due = last.ack_due; next = old.next + 1 } = λ i. record (same i) { ack_due = last.ack_due; next = old.next + 1 } in
              absurd (whole.no_stream n (subst (λ x. StreamGoes x n) (sym (ends ∙ back)) (goes_too old last.ack_due (old.next + 1) n goes))))
        ]
