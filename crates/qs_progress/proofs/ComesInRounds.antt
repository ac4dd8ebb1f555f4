-- Rest comes by rounds: from the end of A's turn to the end of its next turn, where the round between doesn't begin at rest, something is
-- done for good.
use Rattle.std.proofs.lemmas.Bool.Decides.{nat_tests}
use Rattle.std.proofs.Common.{◌≡◌, ℕ, ◌+◌, ◌<◌, ◌≤◌, List, [], ◌∷◌, ◌++◌, ◌⊎◌, refl, sym, ap, ◌∙◌, subst, arith, inl, inr}
use Rattle.std.specs.Prelude.{⊤}
use Rattle.qs_send.specs.Records.{Among}
use Rattle.qs_send.specs.declared.piece.Piece.{Piece}
use Rattle.qs_calls.specs.declared.event.Side.{Side}
use Rattle.qs_calls.specs.declared.event.Side.TheVariants.{A, B}
use Rattle.qs_calls.specs.declared.settings.Settings.{Settings}
use Rattle.qs_machine.specs.Ends.{End}
use Rattle.qs_machine.specs.EndStep.{Call, Answer, EndStep}
use Rattle.qs_machine.proofs.EveryCall.{by_test}
use Rattle.qs_runs.specs.Logs.{other}
use Rattle.qs_runs.specs.Worlds.{end_of}
use Rattle.qs_runs.proofs.Histories.{two_sides}
use Rattle.qs_runs.proofs.Lists.{Among_left, Among_right}
use Rattle.qs_rest.specs.Rest.{HasMore}
use Rattle.qs_progress.specs.Score.{score}
use Rattle.qs_progress.specs.Laps.{Moment, IsCalm, Trail, Sometime}
use Rattle.qs_progress.specs.Outstanding.{IsIn}
use Rattle.qs_progress.specs.Comes.{BothRest, BothOpen, IsReached}
use Rattle.qs_progress.specs.Rounds.{Way, Packets, IsRead, TakesTurn, Round}
use Rattle.qs_progress.proofs.Trails.{eased, joined, last_of}
use Rattle.qs_progress.proofs.Passing.{Owes, IsClear}
use Rattle.qs_progress.proofs.Turns.{owes_as, HasLost, below_next, loses, loses_trail, sends, tells, sends_trail, sends_all}
use Rattle.qs_progress.proofs.Pairs.{Legs, leads, legs_raise}
use Rattle.qs_progress.proofs.Comes.{both, trail}

-- Reads

abbrev pub Lasts : End → End → Type 0
Lasts e f = (f.outstanding ≡ e.outstanding) × (f.done ≡ e.done) × (f.ack_due ≡ e.ack_due)

lasts_same : (e : End) → Lasts e e
lasts_same e = (refl, refl, refl)

lasts_as : (e f g : End) → Lasts e f → g ≡ f → Lasts e g
lasts_as e f g lasts is = subst (Lasts e) (sym is) lasts

read_lasts : (call : Call) (e : End) (answer : Answer call) (f : End) → IsRead call → EndStep e call answer f → Lasts e f
read_lasts call e answer f reads step = grind (arith, nat_tests, by_test)

pub read_calm : (call : Call) → IsRead call → IsCalm call
read_calm call reads = grind (arith, nat_tests)

pub reads_last : (ms : List Moment) (old new : Moment) → Trail IsRead old ms new → (s : Side) → Lasts (end_of old.ends s) (end_of new.ends s)
reads_last [] old new is s = subst (λ (m : Moment). Lasts (end_of old.ends s) (end_of m.ends s)) (sym is) (lasts_same (end_of old.ends s))
reads_last (m ∷ ms) old new ((x, reads, logged, step), rest) s =
    let first : Lasts (end_of old.ends s) (end_of m.ends s) = two_sides (λ t. Lasts (end_of old.ends t) (end_of m.ends t)) x.end (read_lasts x.call (end_of old.ends x.end) x.answer (end_of m.ends x.end) reads step.step) (lasts_as (end_of old.ends (other x.end)) (end_of old.ends (other x.end)) (end_of m.ends (other x.end)) (lasts_same (end_of old.ends (other x.end))) step.still) s in
    let more = reads_last ms m new rest s in
    (more.0 ∙ first.0, more.1 ∙ first.1, more.2 ∙ first.2)

-- What is owed

pub clear_as : (e f : End) → f.outstanding ≡ e.outstanding → IsClear e → IsClear f
clear_as e f out clear k p here = clear k p (subst (λ m. IsIn m k p) out here)

-- Turns and rounds are trails

abbrev pub Led : Moment → Moment → Type 0
Led old new = (ms : List Moment) × Trail (λ call. ⊤) old ms new

led_on : (old mid new : Moment) → Led old mid → Led mid new → Led old new
led_on old mid new (ms, first) (ns, second) = (ms ++ ns, joined (λ call. ⊤) ms ns old mid new first second)

pub turn_leads : (w : Way) (s : Side) (old new : Moment) → TakesTurn w s old new → Led old new
turn_leads w s old new (mid, (n, lost), (k, sent)) =
    let (ms, calm) = sends_trail w s k mid new sent in
    led_on old mid new (loses_trail w s n old mid lost) (ms, eased IsCalm (λ call. ⊤) (λ call calm. tt) ms mid new calm)

pub round_ends : (w : Way) (old new : Moment) (r : Round w old new) → Led r.sent_a new
round_ends w old new r = led_on r.sent_a r.sent_b new (turn_leads w B r.sent_a r.sent_b r.turn_b) (r.moments, eased IsRead (λ call. ⊤) (λ call reads. tt) r.moments r.sent_b new r.reads)

pub round_leads : (w : Way) (old new : Moment) → Round w old new → Led old new
round_leads w old new r = led_on old r.sent_a new (turn_leads w A old r.sent_a r.turn_a) (round_ends w old new r)

-- From A's turn to A's turn

module _ (a b : Settings) where
  pub led : (old new : Moment) → IsReached a b old → Led old new → IsReached a b new × (both old.ends ≤ both new.ends)
  led old new r (ms, t) = trail a b (λ call. ⊤) ms old new r t

  owes_none : (m : Moment) → IsReached a b m → (s : Side) → IsClear (end_of m.ends s) → Owes (end_of m.ends s).next (end_of m.ends s).next (end_of m.ends s) (end_of m.ends (other s))
  owes_none m r s clear =
      record {
        order = omega arith;
        from = λ k p here. absurd (clear k p here);
        kept = λ k low high. absurd (omega (arith, low, high));
        below = below_next a b m r s;
        due = λ k p here. absurd (clear k p here);
      }

  module _ (old mid : Moment) (r : IsReached a b old) (first : Round Packets old mid) where
    abbrev lost_a : Moment
    lost_a = first.turn_a.0

    abbrev lost_b : Moment
    lost_b = first.turn_b.0

    r_lost_a : IsReached a b lost_a
    r_lost_a = (led old lost_a r (loses_trail Packets A first.turn_a.1.0 old lost_a first.turn_a.1.1)).0

    a_lost : HasLost A old lost_a
    a_lost = loses Packets A first.turn_a.1.0 old lost_a first.turn_a.1.1

    a_sent : IsReached a b first.sent_a × Owes lost_a.ends.a.next first.sent_a.ends.a.next first.sent_a.ends.a first.sent_a.ends.b
    a_sent = sends a b A first.turn_a.2.0 lost_a first.sent_a lost_a.ends.a.next r_lost_a first.turn_a.2.1 (owes_none lost_a r_lost_a A a_lost.clear)

    b_lost : HasLost B first.sent_a lost_b
    b_lost = loses Packets B first.turn_b.1.0 first.sent_a lost_b first.turn_b.1.1

    to_lost_b : IsReached a b lost_b × (both first.sent_a.ends ≤ both lost_b.ends)
    to_lost_b = led first.sent_a lost_b a_sent.0 (loses_trail Packets B first.turn_b.1.0 first.sent_a lost_b first.turn_b.1.1)

    b_sends : IsReached a b first.sent_b × Owes lost_b.ends.b.next first.sent_b.ends.b.next first.sent_b.ends.b first.sent_b.ends.a
    b_sends = sends a b B first.turn_b.2.0 lost_b first.sent_b lost_b.ends.b.next to_lost_b.0 first.turn_b.2.1 (owes_none lost_b to_lost_b.0 B b_lost.clear)

    -- what A sent is acknowledged
    pub a_clear : IsClear first.sent_b.ends.a
    a_clear =
        tells a b B first.turn_b.2.0 lost_b first.sent_b lost_a.ends.a.next first.sent_a.ends.a.next to_lost_b.0 first.turn_b.2.1
        (inl (owes_as _ _ first.sent_a.ends.a lost_b.ends.a first.sent_a.ends.b lost_b.ends.b (ap (λ (e : End). e.outstanding) b_lost.there) b_lost.here.done b_lost.here.due a_sent.1))

    pub r_mid : IsReached a b mid
    r_mid = (led first.sent_a mid a_sent.0 (round_ends Packets old mid first)).0

    lasts : (s : Side) → Lasts (end_of first.sent_b.ends s) (end_of mid.ends s)
    lasts = reads_last first.moments first.sent_b mid first.reads

    pub a_clear_mid : IsClear mid.ends.a
    a_clear_mid = clear_as first.sent_b.ends.a mid.ends.a (lasts A).0 a_clear

    b_owed : Owes lost_b.ends.b.next first.sent_b.ends.b.next mid.ends.b mid.ends.a
    b_owed = owes_as _ _ first.sent_b.ends.b mid.ends.b first.sent_b.ends.a mid.ends.a (lasts B).0 (lasts A).1 (lasts A).2 b_sends.1

    module _ (sent : Moment) (turn_a : TakesTurn Packets A mid sent) where
      abbrev again : Moment
      again = turn_a.0

      -- so A declares nothing lost
      a_again : HasLost A mid again
      a_again = loses Packets A turn_a.1.0 mid again turn_a.1.1

      same : (s : Side) → end_of again.ends s ≡ end_of mid.ends s
      same A = a_again.here.same a_clear_mid
      same B = a_again.there

      r_again : IsReached a b again
      r_again = (led mid again r_mid (loses_trail Packets A turn_a.1.0 mid again turn_a.1.1)).0

      -- and tells what B sent
      pub b_clear : IsClear sent.ends.b
      b_clear =
          tells a b A turn_a.2.0 again sent lost_b.ends.b.next first.sent_b.ends.b.next r_again turn_a.2.1
          (inl (owes_as _ _ mid.ends.b again.ends.b mid.ends.a again.ends.a (ap (λ (e : End). e.outstanding) (same B)) (ap (λ (e : End). e.done) (same A)) (ap (λ (e : End). e.ack_due) (same A)) b_owed))

      a_more : Owes again.ends.a.next sent.ends.a.next sent.ends.a sent.ends.b
      a_more = (sends a b A turn_a.2.0 again sent again.ends.a.next r_again turn_a.2.1 (owes_none again r_again A a_again.clear)).1

      -- B's turn and the reads
      turn : (ms : List Moment) × Trail IsCalm lost_b ms first.sent_b
      turn = sends_trail Packets B first.turn_b.2.0 lost_b first.sent_b first.turn_b.2.1

      to_mid : Trail IsCalm lost_b (turn.0 ++ first.moments) mid
      to_mid = joined IsCalm turn.0 first.moments lost_b first.sent_b mid turn.1 (eased IsRead IsCalm read_calm first.moments first.sent_b mid first.reads)

      -- A's next turn
      turn_again : (ms : List Moment) × Trail IsCalm again ms sent
      turn_again = sends_trail Packets A turn_a.2.0 again sent turn_a.2.1

      is_there : (m : Moment) → Among m (first.sent_b ∷ first.moments) → Among m (lost_b ∷ turn.0 ++ first.moments)
      is_there m (inl is) = subst (λ x. Among x (lost_b ∷ turn.0 ++ first.moments)) (sym is) (Among_left (lost_b ∷ turn.0) first.moments first.sent_b (last_of IsCalm turn.0 lost_b first.sent_b turn.1))
      is_there m (inr later) = Among_right (lost_b ∷ turn.0) first.moments m later

      grows : (s : Side) → (score (end_of lost_b.ends s) ≤ score (end_of mid.ends s)) × (score (end_of mid.ends s) ≤ score (end_of sent.ends s))
      grows s = (
        (leads a b s (turn.0 ++ first.moments) lost_b mid to_lost_b.0 to_mid).1.grows,
        subst (λ e. score e ≤ score (end_of sent.ends s)) (same s) (leads a b s turn_again.0 again sent r_again turn_again.1).1.grows,
      )

      legs : BothOpen mid.ends → (s : Side) → score (end_of mid.ends s) ≤ score (end_of lost_b.ends s) → score (end_of sent.ends s) ≤ score (end_of mid.ends s) → Legs a b s lost_b mid again sent
      legs unclosed s even_first even =
          record {
            begins = to_lost_b.0;
            goes_on = r_again;
            same = same s;
            firsts = turn.0 ++ first.moments;
            seconds = turn_again.0;
            first = to_mid;
            second = turn_again.1;
            none_out_first = none_out_first s;
            none_out = none_out s;
            none_to_send = none_to_send s;
            none_to_read = let (m, among, least) = first.none_to_read s in (m, is_there m among, least);
            unclosed = unclosed;
            even_first = even_first;
            even = even;
          }
        where
          none_out_first : (s : Side) (k : ℕ) (p : Piece) → k < (end_of lost_b.ends s).next → IsIn (end_of mid.ends s).outstanding k p → ⊥
          none_out_first A k p lt here = a_clear_mid k p here
          none_out_first B k p lt here = (let (low, high) = b_owed.from k p here in omega (arith, lt, low))

          none_out : (s : Side) (k : ℕ) (p : Piece) → k < (end_of mid.ends s).next → IsIn (end_of sent.ends s).outstanding k p → ⊥
          none_out A k p lt here = (let (low, high) = a_more.from k p here in let is = ap (λ (e : End). e.next) (same A) in omega (arith, lt, low, is))
          none_out B k p lt here = b_clear k p here

          none_to_send : (s : Side) → Sometime (λ w. HasMore (end_of w s) → ⊥) (lost_b ∷ turn.0 ++ first.moments)
          none_to_send A = (lost_b, inl refl, λ more. sends_all Packets A first.turn_a.2.0 lost_a first.sent_a first.turn_a.2.1 (inr (subst HasMore b_lost.there more)))
          none_to_send B = (first.sent_b, is_there first.sent_b (inl refl), λ more. sends_all Packets B first.turn_b.2.0 lost_b first.sent_b first.turn_b.2.1 (inr more))

      pub turns_raise : BothOpen mid.ends → (BothRest mid.ends → ⊥) → both first.sent_a.ends < both sent.ends
      turns_raise unclosed begins = (let grew = legs_raise a b lost_b mid again sent grows (legs unclosed) begins in let up = to_lost_b.1 in omega (arith, grew, up))

  -- what comes before: anything, or a round
  abbrev pub Before : Moment → Type 0
  Before old = Unit {0} ⊎ ((past : Moment) × IsReached a b past × Round Packets past old)

  abbrev pub level : (old : Moment) → Before old → ℕ
  level old (inl u) = both old.ends
  level old (inr (past, r, round)) = both round.sent_a.ends + 1

  pub ends_up : (old new : Moment) → IsReached a b old → (r : Round Packets old new) → IsReached a b new × (both old.ends ≤ both r.sent_a.ends) × (both r.sent_a.ends ≤ both new.ends)
  ends_up old new r round =
      let (at_sent, low) = led old round.sent_a r (turn_leads Packets A old round.sent_a round.turn_a) in
      let (there, high) = led round.sent_a new at_sent (round_ends Packets old new round) in
      (there, low, high)

  pub level_low : (old : Moment) (before : Before old) → level old before ≤ both old.ends + 1
  level_low old (inl u) = omega arith
  level_low old (inr (past, r, round)) = (let (there, low, high) = ends_up past old r round in omega (arith, high))

  pub level_grows : (old new : Moment) (before : Before old) → IsReached a b old → BothOpen old.ends → (BothRest old.ends → ⊥) → (round : Round Packets old new) → level old before ≤ both round.sent_a.ends
  level_grows old new (inl u) r unclosed begins round = (let (there, low, high) = ends_up old new r round in low)
  level_grows old new (inr (past, was, first)) r unclosed begins round = (let grew = turns_raise past old was first round.sent_a round.turn_a unclosed begins in omega (arith, grew))
