-- The events of a plain loop are those of rounds, and are counted so.
use Rattle.std.proofs.Common.{◌≡◌, ℕ, zero, suc, ◌+◌, ◌*◌, ◌<◌, ◌≤◌, Bool, true, false, cond, List, [], ◌∷◌, ◌++◌, ◌⊎◌, length, take, nat_le, Option, None, Some, is_some, Result, Ok, Err, refl, sym, ap, ◌∙◌, subst, arith, inl, inr, if◌then◌else◌}
use Rattle.std.specs.Prelude.{◌&&◌, ◌||◌}
use Rattle.std.specs.List.{list_any, sum_by}
use Rattle.std.specs.FinMap as fmap
use Rattle.std.proofs.lemmas.Bool.{true≢false, false≢true, cases_lt}
use Rattle.std.proofs.lemmas.Bool.Decides.{nat_tests}
use Rattle.std.proofs.lemmas.List.{length-append, length-map}
use Rattle.std.proofs.lemmas.List.Sums.{sum_by-cons}
use Rattle.std.proofs.lemmas.Option.{none-some, same_Some}
use Rattle.qs_ranges.specs.Numbers.{MAX_VARINT}
use Rattle.qs_send.specs.declared.piece.Piece.{Piece}
use Rattle.qs_calls.specs.declared.settings.Settings.{Settings}
use Rattle.qs_calls.specs.declared.closing.Received.TheVariants.{Done}
use Rattle.qs_calls.specs.declared.closing.Received.TheVariants as received
use Rattle.qs_calls.specs.declared.making.Made.{Made}
use Rattle.qs_calls.specs.declared.making.MakeFault.{MakeFault}
use Rattle.qs_calls.specs.declared.event.Side.{Side}
use Rattle.qs_calls.specs.declared.event.Side.TheVariants.{A, B}
use Rattle.qs_calls.specs.declared.event.Act.{Act}
use Rattle.qs_calls.specs.declared.event.Act.TheVariants as acts
use Rattle.qs_calls.specs.declared.event.Event.{Event}
use Rattle.qs_calls.specs.declared.answer.Answer.{Answer}
use Rattle.qs_calls.specs.declared.answer.Answer.TheVariants as answers
use Rattle.qs_recv.specs.declared.half.Read.{Read}
use Rattle.qs_calls.specs.declared.uses.UseFault.{UseFault}
use Rattle.qs_machine.specs.News.{IsReadable}
use Rattle.qs_machine.specs.Ends.{End}
use Rattle.qs_machine.specs.Asking.{IsNextOutstanding}
use Rattle.qs_machine.specs.Due.{Sendable}
use Rattle.qs_calls.specs.declared.making.MakeFault.TheVariants as making
use Rattle.qs_machine.specs.Making.{MakeAt, make_refusal, ClaimStep}
use Rattle.qs_machine.specs.Owner.{Certain, refuse_if}
use Rattle.qs_machine.specs.Plains.{frames_in}
use Rattle.qs_machine.specs.EndStep.{Call, Make, Lose, Claim, Receive, ReadUpTo}
use Rattle.qs_runs.specs.Logs.{Happening, History, effects, made, payload, other, same_side}
use Rattle.qs_runs.specs.Pasts.{past}
use Rattle.qs_runs.specs.Events.{Log, call_of, calls, happened, EventStep, EventRun}
use Rattle.qs_runs.specs.Worlds.{World, end_of, WorldStep, Run}
use Rattle.qs_runs.proofs.Runs.{run_keeps, event_runs}
use Rattle.qs_runs.proofs.Scripts.{made_by, made_more}
use Rattle.qs_rest.proofs.FirstLimits.{event_runs_tell}
use Rattle.qs_progress.specs.Bound.{most}
use Rattle.qs_progress.specs.Laps.{Moment}
use Rattle.qs_progress.specs.Comes.{BothRest, BothOpen, IsReached}
use Rattle.qs_progress.specs.Rounds.{Happens}
use Rattle.qs_progress.specs.Windows.{filled}
use Rattle.qs_progress.proofs.Comes.{both}
use Rattle.qs_progress.proofs.Idles.{none_bare, rest_idles}
use Rattle.qs_progress.proofs.Pairs.{stood_in}
use Rattle.qs_progress.proofs.InARow.{few_rounds}
use Rattle.qs_progress.proofs.InTurns as round
use Rattle.qs_world.specs.declared.world.draining.Turn.{Turn}
use Rattle.qs_world.specs.declared.world.draining.Turn.TheVariants as turns
use Rattle.qs_world.specs.Plays.{Played, HasAgreed}
use Rattle.qs_world.specs.declared.world.draining.Drained.TheVariants.{UsedUp}
use Rattle.qs_world.specs.Comes.{is_refused, makes_none, ComesToRest}
use Rattle.qs_world.specs.Draining.{IsIdle, AreIdle, next_turn, number_made, just_made, act_of_making, IsOf, IsOver, turn_after, Passes, PlainStep, PlainSteps, HasDrained}
use Rattle.qs_world.proofs.Done.{both_open}
use Rattle.qs_world.proofs.JustMade.{numbered}
use Rattle.qs_world.proofs.OneMore.{is_run, keeps}

-- No number is above the greatest

claimed_small : (e new : End) (k : ℕ) → ClaimStep e (Ok k) new → e.next ≤ MAX_VARINT
claimed_small e new k step = go (nat_le (MAX_VARINT + 1) e.next) refl step
  where
    is_ok : Result ℕ MakeFault → Bool
    is_ok (Ok n) = true
    is_ok (Err fault) = false

    go : (b : Bool) → nat_le (MAX_VARINT + 1) e.next ≡ b → Certain (refuse_if b making.Exhausted) e (Ok k) new ((◌≡◌ {A = Result ℕ MakeFault} (Ok k) (Ok e.next)) × (new ≡ record e { next = e.next + 1 })) → e.next ≤ MAX_VARINT
    go true is step = absurd (false≢true (sym (ap is_ok step.0)))
    go false is step = grind (arith, nat_tests, is)

abbrev Few : Side → World → List (List ℕ) → Type 0
Few s v texts = (texts ≡ []) ⊎ ((length texts ≡ 1) × ((end_of v s).next ≤ MAX_VARINT))

few_here : (log : Log) (v w : World) (s : Side) (act : Act) (answer : Answer) → EventStep log v (record { end = s; act = act }) answer w → Few s v (made_by act answer)
few_here log v w s (acts.Make room) (answers.Make (Ok (Some packet)) text) (x, is, step) =
    let (next, small, content, same) = numbered (happened log) v w s (acts.Make room) (answers.Make (Ok (Some packet)) text) x packet.number is step refl in
    inr (refl, subst (λ k. k ≤ MAX_VARINT) next small)
few_here log v w s acts.Claim (answers.Claim (Ok number)) (x, is, step) =
    let call : Happening = record { end = s; call = Claim; answer = Ok number } in
    inr (refl, claimed_small (end_of v s) (end_of w s) number (subst (λ y. WorldStep (happened log) v y w) (sym (same_Some call x is)) step).step)
few_here log v w s act answer step = inl refl

few_made : (log : Log) (v w : World) (s t : Side) (act : Act) (answer : Answer) → EventStep log v (record { end = t; act = act }) answer w → Few s v (if same_side s t then made_by act answer else [])
few_made log v w A A act answer step = few_here log v w A act answer step
few_made log v w B B act answer step = few_here log v w B act answer step
few_made log v w A B act answer step = inl refl
few_made log v w B A act answer step = inl refl

none_yet : (s : Side) → length (made s []) ≡ 0
unfolding effects
none_yet s = refl

next_small : (a b : Settings) (log : Log) (w : World) → EventRun a b log w → (s : Side) → length (made s (happened log)) ≤ MAX_VARINT + 1
next_small a b [] w run s = (let none = none_yet s in omega (arith, none))
next_small a b (x ∷ log) w (v, before, step) s =
    let texts : List (List ℕ) = if same_side s x.0.end then made_by x.0.act x.1 else [] in
    let was = next_small a b log v before s in
    let count = ((keeps a b log v before).ends s).packets.count ∙ length-map (made s (happened log)) frames_in in
    let all : length (made s (happened (x ∷ log))) ≡ length (made s (happened log)) + length texts = ap length (made_more s x log) ∙ length-append (made s (happened log)) texts in
    elim (few_made log v w s x.0.end x.0.act x.1 step) [
      | inl none ↦ (let zero = ap length none in omega (arith, was, all, zero))
      | inr (one, small) ↦ omega (arith, all, one, small, count)
    ]

all_small : (a b : Settings) (log : Log) (w : World) → EventRun a b log w → (s : Side) (k : ℕ) → fmap.contains_key (end_of w s).outstanding k ≡ true → k ≤ MAX_VARINT
all_small a b log w run s k held = go (fmap.get (end_of w s).outstanding k) refl held
  where
    go : (o : Option (List Piece)) → fmap.get (end_of w s).outstanding k ≡ o → is_some o ≡ true → k ≤ MAX_VARINT
    go None is some = absurd (false≢true some)
    go (Some []) is some = absurd (none_bare a b (happened log) w (event_runs a b log w run) s k is)
    go (Some (p ∷ ps)) is some =
        let packets = ((keeps a b log w run).ends s).packets in
        let lt = stood_in (past s (happened log)).mine k p (packets.records k (p ∷ ps) p is (inl refl)) in
        let same = length-map (made s (happened log)) frames_in in
        let small = next_small a b log w run s in
        omega (arith, lt, same, small)

-- How often A's turn ended

abbrev ended_by : Event × Answer → ℕ
ended_by x = if same_side A x.0.end && makes_none x.1 then 1 else 0

abbrev ended : Log → ℕ
ended log = sum_by ended_by log

-- it did in this round
abbrev begun_in : Turn → ℕ
begun_in (turns.Lose A) = 0
begun_in (turns.Make A) = 0
begun_in turn = 1

module _ (log : Log) (v w : World) where
  lose_ended : (s : Side) (k : ℕ) (answer : Answer) → EventStep log v (record { end = s; act = acts.Lose k }) answer w → begun_in (turn_after (turns.Lose s) answer) ≡ begun_in (turns.Lose s) + ended_by (record { end = s; act = acts.Lose k }, answer)
  lose_ended A k (answers.Lose r) step = refl
  lose_ended B k (answers.Lose r) step = refl
  lose_ended s k answer (x, is, step) = absurd (none-some x is)

  read_ended : (s : Side) (n : ℕ) (answer : Answer) → EventStep log v (record { end = s; act = acts.ReadUpTo n 1024 }) answer w
      → begun_in (turn_after (turns.Read s) answer) ≡ begun_in (turns.Read s) + ended_by (record { end = s; act = acts.ReadUpTo n 1024 }, answer)
  read_ended A n (answers.ReadUpTo r bytes) step = refl
  read_ended B n (answers.ReadUpTo r bytes) step = refl
  read_ended s n answer (x, is, step) = absurd (none-some x is)

  make_ended : (s : Side) (o : Option ℕ) (answer : Answer) → EventStep log v (record { end = s; act = act_of_making o }) answer w
      → begun_in (turn_after (turns.Make s) answer) ≡ begun_in (turns.Make s) + ended_by (record { end = s; act = act_of_making o }, answer)
  make_ended A None (answers.Make (Ok (Some made)) text) step = refl
  make_ended B None (answers.Make (Ok (Some made)) text) step = refl
  make_ended A None (answers.Make (Ok None) text) step = refl
  make_ended B None (answers.Make (Ok None) text) step = refl
  make_ended A None (answers.Make (Err fault) text) step = refl
  make_ended B None (answers.Make (Err fault) text) step = refl
  make_ended A (Some k) (answers.Deliver r) step = refl
  make_ended B (Some k) (answers.Deliver r) step = refl
  make_ended s None answer (x, is, step) = absurd (none-some x is)
  make_ended s (Some k) answer (x, is, step) = absurd (none-some x is)

  one_ended : (turn : Turn) (p : Played) (event : Event) (answer : Answer) → IsOf turn p event → EventStep log v event answer w → begun_in (turn_after turn answer) ≡ begun_in turn + ended_by (event, answer)
  one_ended (turns.Lose s) p event answer (k, held, is) step = subst (λ x. begun_in (turn_after (turns.Lose s) answer) ≡ begun_in (turns.Lose s) + ended_by (x, answer)) (sym is) (lose_ended s k answer (subst (λ x. EventStep log v x answer w) is step))
  one_ended (turns.Make s) p event answer is step = subst (λ x. begun_in (turn_after (turns.Make s) answer) ≡ begun_in (turns.Make s) + ended_by (x, answer)) (sym is) (make_ended s (just_made s p.log) answer (subst (λ x. EventStep log v x answer w) is step))
  one_ended (turns.Read s) p event answer (n, news, is) step = subst (λ x. begun_in (turn_after (turns.Read s) answer) ≡ begun_in (turns.Read s) + ended_by (x, answer)) (sym is) (read_ended s n answer (subst (λ x. EventStep log v x answer w) is step))

one_most : (turn : Turn) → begun_in turn ≤ 1
one_most (turns.Lose A) = omega arith
one_most (turns.Lose B) = omega arith
one_most (turns.Make A) = omega arith
one_most (turns.Make B) = omega arith
one_most (turns.Read s) = omega arith

-- What was played, as a moment

abbrev moment : Played → Moment
moment p = record { log = happened p.log; ends = p.ends }

abbrev IsRun : Settings → Settings → Played → Type 0
IsRun a b p = EventRun a b p.log p.ends

module _ (a b : Settings) where
  there : (p : Played) → IsRun a b p → IsReached a b (moment p)
  there p run = record { run = event_runs a b p.log p.ends run; knows_first = event_runs_tell a b p.log p.ends run }

  opened : (p : Played) → IsRun a b p → BothOpen p.ends
  opened p run = both_open a b p.log p.ends (event_runs a b p.log p.ends run)

  busy : (p : Played) → IsRun a b p → (AreIdle p.ends → ⊥) → BothRest p.ends → ⊥
  busy p run not rests =
      let idle : (s : Side) → IsIdle (end_of p.ends s) = λ s. rest_idles (end_of p.ends s) (none_bare a b (happened p.log) p.ends (event_runs a b p.log p.ends run) s) (rests s) in
      not (idle A, idle B)

  -- an end's losses are over
  none_left : (p : Played) → IsRun a b p → (s : Side) → IsOver (turns.Lose s) p.ends → IsNextOutstanding (end_of p.ends s).outstanding 0 None
  none_left p run s over k low = go (fmap.contains_key (end_of p.ends s).outstanding k) refl
    where
      go : (c : Bool) → fmap.contains_key (end_of p.ends s).outstanding k ≡ c → c ≡ false
      go false is = refl
      go true is = sym is ∙ over k (all_small a b p.log p.ends run s k is)

  happens_by : (old new : Played) (event : Event) (answer : Answer) (x : Happening) → new.log ≡ (event, answer) ∷ old.log → call_of (happened old.log) event.end event.act answer ≡ Some x → WorldStep (happened old.log) old.ends x new.ends → Happens x (moment old) (moment new)
  happens_by old new event answer x log is step =
      (ap happened log ∙ ap (λ o. elim o as (λ _. History) [ None ↦ happened old.log | Some y ↦ y ∷ happened old.log ]) is, step)

  -- Where a loop stands

  module _ (old : Played) where
    abbrev first : ℕ
    first = both old.ends

    abbrev allowed : ℕ
    allowed = round.waiting a b old.ends + 1

    -- a packet may have been made just before the loop began, that still comes
    abbrev MaySend : ℕ → Played → Type 0
    MaySend n p = ((n ≡ 0) × (p ≡ old)) ⊎ (just_made A p.log ≡ None)

    abbrev SendsA : ℕ → ℕ → Played → Type 0
    SendsA k n p =
        (round.SendsA a b first allowed (moment old) k n (moment p) × (((n ≡ 0) × (p ≡ old) × IsNextOutstanding p.ends.a.outstanding 0 None) ⊎ (just_made A p.log ≡ None)))
        ⊎ ((j : ℕ) × (n ≡ suc j) × (pends : round.PendsA a b first allowed (moment old) k j (moment p)) × (just_made A p.log ≡ Some pends.3.made.number))

    abbrev SendsB : ℕ → ℕ → Played → Type 0
    SendsB k n p =
        (round.SendsB a b first allowed (moment old) k n (moment p) × (just_made B p.log ≡ None))
        ⊎ ((j : ℕ) × (n ≡ suc j) × (pends : round.PendsB a b first allowed (moment old) k j (moment p)) × (just_made B p.log ≡ Some pends.2.made.number))

    -- so many events happened, and it is this one's turn in a round after so many
    abbrev Stands : ℕ → ℕ → Turn → Played → Type 0
    Stands k n (turns.Lose A) p = round.LosesA a b first allowed (moment old) k n (moment p) × MaySend n p
    Stands k n (turns.Make A) p = SendsA k n p
    Stands k n (turns.Lose B) p = round.LosesB a b first allowed (moment old) k n (moment p) × (just_made B p.log ≡ None)
    Stands k n (turns.Make B) p = SendsB k n p
    Stands k n (turns.Read A) p = round.ReadsA a b first allowed (moment old) k n (moment p) × (just_made A p.log ≡ None)
    Stands k n (turns.Read B) p = round.ReadsB a b first allowed (moment old) k n (moment p) × (just_made A p.log ≡ None)

    -- a turn that is over is passed by
    pass : (k n : ℕ) (turn : Turn) (p : Played) → IsRun a b p → Stands k n turn p → IsOver turn p.ends → (j : ℕ) × Stands j n (next_turn turn) p × (j + begun_in (next_turn turn) ≡ k + begun_in turn)
    pass k n (turns.Lose A) p run (st, may) over =
        let none = none_left p run A over in
        (k, inl (round.over_a a b first allowed (moment old) k n (moment p) st none, elim may [ inl (start, same) ↦ inl (start, same, none) | inr unmade ↦ inr unmade ]), refl)
    pass k n (turns.Lose B) p run (st, made) over = (k, inl (round.over_b a b first allowed (moment old) k n (moment p) st (none_left p run B over), made), refl)
    pass k n (turns.Make A) p run st over = absurd over
    pass k n (turns.Make B) p run st over = absurd over
    pass k n (turns.Read A) p run (st, made) over = (k, (round.over_read_a a b first allowed (moment old) k n (moment p) st over, made), refl)
    pass k n (turns.Read B) p run (st, made) over = (suc k, (round.over_read_b a b first allowed (moment old) k n (moment p) st over (opened p run), inr made), omega arith)

    passes : (count k n : ℕ) (turn after : Turn) (p : Played) → IsRun a b p → Stands k n turn p → Passes count p.ends turn after → (j : ℕ) × Stands j n after p × (j + begun_in after ≡ k + begun_in turn)
    passes zero k n turn after p run st is = subst (λ t. (j : ℕ) × Stands j n t p × (j + begun_in t ≡ k + begun_in turn)) (sym is) (k, st, refl)
    passes (suc count) k n turn after p run st (before, more, over, is) =
        let (j, there, same) = passes count k n turn before p run st more in
        let (i, next, even) = pass j n before p run there over in
        subst (λ t. (i : ℕ) × Stands i n t p × (i + begun_in t ≡ k + begun_in turn)) (sym is) (i, next, even ∙ same)

    -- One event

    same_ends : (s : Side) (v w : World) → end_of w s ≡ end_of v s → end_of w (other s) ≡ end_of v (other s) → w ≡ v
    same_ends A v w one two = λ i. record { a = one i; b = two i }
    same_ends B v w one two = λ i. record { a = two i; b = one i }

    -- none was made: nothing may go
    none_made : (o : Option MakeFault) (e new : End) (room : ℕ) (text : List ℕ) → MakeAt o e 0 0 room (Ok None) text new → (Sendable e → ⊥) × (new ≡ e)
    none_made None e new room text step = (step.0, step.2)
    none_made (Some fault) e new room text step = absurd (false≢true (sym (ap is_ok step.0)))
      where
        is_ok : Result (Option Made) MakeFault → Bool
        is_ok (Ok m) = true
        is_ok (Err fault) = false

    module _ (k n : ℕ) (p q : Played) (run : IsRun a b p) (not : AreIdle p.ends → ⊥) where
      -- what the log's newest event leaves
      abbrev Comes : Event → Answer → Type 0
      Comes event answer = (q.log ≡ (event, answer) ∷ p.log) × EventStep p.log p.ends event answer q.ends × (is_refused answer ≡ false)

      lose_a : (j : ℕ) (answer : Answer) → round.LosesA a b first allowed (moment old) k n (moment p) → fmap.contains_key p.ends.a.outstanding j ≡ true → Comes (record { end = A; act = acts.Lose j }) answer
          → Stands k (suc n) (turn_after (turns.Lose A) answer) q
      lose_a j (answers.Lose (Ok done)) st held (log, (x, is, step), fine) =
          let call = same_Some (round.loses A j) x is in
          let happens = happens_by p q (record { end = A; act = acts.Lose j }) (answers.Lose (Ok done)) (round.loses A j) log refl (subst (λ y. WorldStep (happened p.log) p.ends y q.ends) (sym call) step) in
          (round.lose_a a b first allowed (moment old) k n j (moment p) (moment q) st (busy p run not) held happens, inr (ap (just_made A) log))
      lose_a j (answers.Lose (Err fault)) st held (log, step, fine) = absurd (true≢false fine)
      lose_a j answer st held (log, (x, is, step), fine) = absurd (none-some x is)

      lose_b : (j : ℕ) (answer : Answer) → round.LosesB a b first allowed (moment old) k n (moment p) → fmap.contains_key p.ends.b.outstanding j ≡ true → Comes (record { end = B; act = acts.Lose j }) answer
          → Stands k (suc n) (turn_after (turns.Lose B) answer) q
      lose_b j (answers.Lose (Ok done)) st held (log, (x, is, step), fine) =
          let call = same_Some (round.loses B j) x is in
          let happens = happens_by p q (record { end = B; act = acts.Lose j }) (answers.Lose (Ok done)) (round.loses B j) log refl (subst (λ y. WorldStep (happened p.log) p.ends y q.ends) (sym call) step) in
          (round.lose_b a b first allowed (moment old) k n j (moment p) (moment q) st held happens, ap (just_made B) log)
      lose_b j (answers.Lose (Err fault)) st held (log, step, fine) = absurd (true≢false fine)
      lose_b j answer st held (log, (x, is, step), fine) = absurd (none-some x is)

      abbrev packing : Side → Result (Option Made) MakeFault → List ℕ → Happening
      packing s r text = record { end = s; call = Make 0 0 1200; answer = (r, text) }

      make_a : (answer : Answer) → round.SendsA a b first allowed (moment old) k n (moment p) → Comes (record { end = A; act = acts.Make 1200 }) answer → Stands k (suc n) (turn_after (turns.Make A) answer) q
      make_a (answers.Make (Ok (Some made)) text) st (log, (x, is, step), fine) =
          let call = same_Some (packing A (Ok (Some made)) text.items) x is in
          let happens = happens_by p q (record { end = A; act = acts.Make 1200 }) (answers.Make (Ok (Some made)) text) (packing A (Ok (Some made)) text.items) log refl (subst (λ y. WorldStep (happened p.log) p.ends y q.ends) (sym call) step) in
          inr (n, refl, (moment p, st, busy p run not, record { first = 0; delay = 0; room = 1200; made = made; text = text.items; happens = happens }), ap (just_made A) log)
      make_a (answers.Make (Ok None) text) st (log, (x, is, step), fine) =
          let call = same_Some (packing A (Ok None) text.items) x is in
          let at = subst (λ y. WorldStep (happened p.log) p.ends y q.ends) (sym call) step in
          let happens = happens_by p q (record { end = A; act = acts.Make 1200 }) (answers.Make (Ok None) text) (packing A (Ok None) text.items) log refl at in
          let (none, same) = none_made (make_refusal p.ends.a) p.ends.a q.ends.a 1200 text.items at.step in
          (round.none_a a b first allowed (moment old) k n (packing A (Ok None) text.items) (moment p) (moment q) st (busy p run not) happens tt (same_ends A p.ends q.ends same at.still) none, ap (just_made B) log)
      make_a (answers.Make (Err fault) text) st (log, step, fine) = absurd (true≢false fine)
      make_a answer st (log, (x, is, step), fine) = absurd (none-some x is)

      make_b : (answer : Answer) → round.SendsB a b first allowed (moment old) k n (moment p) → Comes (record { end = B; act = acts.Make 1200 }) answer → Stands k (suc n) (turn_after (turns.Make B) answer) q
      make_b (answers.Make (Ok (Some made)) text) st (log, (x, is, step), fine) =
          let call = same_Some (packing B (Ok (Some made)) text.items) x is in
          let happens = happens_by p q (record { end = B; act = acts.Make 1200 }) (answers.Make (Ok (Some made)) text) (packing B (Ok (Some made)) text.items) log refl (subst (λ y. WorldStep (happened p.log) p.ends y q.ends) (sym call) step) in
          inr (n, refl, (moment p, st, record { first = 0; delay = 0; room = 1200; made = made; text = text.items; happens = happens }), ap (just_made B) log)
      make_b (answers.Make (Ok None) text) st (log, (x, is, step), fine) =
          let call = same_Some (packing B (Ok None) text.items) x is in
          let at = subst (λ y. WorldStep (happened p.log) p.ends y q.ends) (sym call) step in
          let happens = happens_by p q (record { end = B; act = acts.Make 1200 }) (answers.Make (Ok None) text) (packing B (Ok None) text.items) log refl at in
          let (none, same) = none_made (make_refusal p.ends.b) p.ends.b q.ends.b 1200 text.items at.step in
          (round.none_b a b first allowed (moment old) k n (packing B (Ok None) text.items) (moment p) (moment q) st happens tt (same_ends B p.ends q.ends same at.still) none, ap (just_made A) log)
      make_b (answers.Make (Err fault) text) st (log, step, fine) = absurd (true≢false fine)
      make_b answer st (log, (x, is, step), fine) = absurd (none-some x is)

      -- a packet comes
      arrives : (s : Side) (number : ℕ) (answer : Answer) → Comes (record { end = s; act = acts.Deliver number }) answer
          → (answer ≡ answers.Deliver (Ok Done)) × (bytes : List ℕ) × Happens (round.comes (other s) number bytes) (moment p) (moment q)
      arrives s number (answers.Deliver (Ok Done)) (log, (x, is, step), fine) = go (payload s number (happened p.log)) refl is
        where
          go : (o : Option (List ℕ)) → payload s number (happened p.log) ≡ o → elim o [ None ↦ None | Some text ↦ calls (other s) (Receive number text) (Ok Done) ] ≡ Some x
              → (answers.Deliver (Ok Done) ≡ answers.Deliver (Ok Done)) × (bytes : List ℕ) × Happens (round.comes (other s) number bytes) (moment p) (moment q)
          go None none at = absurd (none-some x at)
          go (Some text) there at =
              let call = same_Some (round.comes (other s) number text) x at in (
                refl,
                text,
                happens_by p q (record { end = s; act = acts.Deliver number }) (answers.Deliver (Ok Done)) (round.comes (other s) number text) log
                    (ap (λ o. elim o as (λ _. Option Happening) [ None ↦ None | Some bytes ↦ calls (other s) (Receive number bytes) (Ok Done) ]) there) (subst (λ y. WorldStep (happened p.log) p.ends y q.ends) (sym call) step),
              )
      arrives s number (answers.Deliver (Ok received.NoMemory)) (log, step, fine) = absurd (true≢false fine)
      arrives s number (answers.Deliver (Ok received.Duplicate)) (log, step, fine) = absurd (true≢false fine)
      arrives s number (answers.Deliver (Ok received.BelowFloor)) (log, step, fine) = absurd (true≢false fine)
      arrives s number (answers.Deliver (Ok (received.PeerClosed code))) (log, step, fine) = absurd (true≢false fine)
      arrives s number (answers.Deliver (Err closing)) (log, step, fine) = absurd (true≢false fine)
      arrives s number answer (log, (x, is, step), fine) = absurd (none-some x is)

      -- and so with each turn
      deliver_a : (number : ℕ) (answer : Answer) (j : ℕ) → n ≡ suc j → (pends : round.PendsA a b first allowed (moment old) k j (moment p)) → number ≡ pends.3.made.number → Comes (record { end = A; act = acts.Deliver number }) answer
          → Stands k (suc n) (turn_after (turns.Make A) answer) q
      deliver_a number answer j count pends same comes =
          let (is, bytes, happens) = arrives A number answer comes in
          let at = subst (λ m. Happens (round.comes B m bytes) (moment p) (moment q)) same happens in
          subst (λ y. Stands k (suc n) (turn_after (turns.Make A) y) q) (sym is)
          (inl (subst (λ m. round.SendsA a b first allowed (moment old) k (suc m) (moment q)) (sym count) (round.deliver_a a b first allowed (moment old) k j (moment p) (moment q) bytes pends at), inr (ap (just_made A) comes.0 ∙ ap number_made is)))

      deliver_b : (number : ℕ) (answer : Answer) (j : ℕ) → n ≡ suc j → (pends : round.PendsB a b first allowed (moment old) k j (moment p)) → number ≡ pends.2.made.number → Comes (record { end = B; act = acts.Deliver number }) answer
          → Stands k (suc n) (turn_after (turns.Make B) answer) q
      deliver_b number answer j count pends same comes =
          let (is, bytes, happens) = arrives B number answer comes in
          let at = subst (λ m. Happens (round.comes A m bytes) (moment p) (moment q)) same happens in
          subst (λ y. Stands k (suc n) (turn_after (turns.Make B) y) q) (sym is)
          (inl (subst (λ m. round.SendsB a b first allowed (moment old) k (suc m) (moment q)) (sym count) (round.deliver_b a b first allowed (moment old) k j (moment p) (moment q) bytes pends at), ap (just_made B) comes.0 ∙ ap number_made is))

      abbrev reading : Side → ℕ → Result Read UseFault → List ℕ → Happening
      reading s j r bytes = round.reads s j 1024 (r, bytes)

      read_a : (j : ℕ) (answer : Answer) → round.ReadsA a b first allowed (moment old) k n (moment p) → IsReadable p.ends.a j → Comes (record { end = A; act = acts.ReadUpTo j 1024 }) answer → Stands k (suc n) (turn_after (turns.Read A) answer) q
      read_a j (answers.ReadUpTo r bytes) st news (log, (x, is, step), fine) =
          let call = same_Some (reading A j r bytes.items) x is in
          let happens = happens_by p q (record { end = A; act = acts.ReadUpTo j 1024 }) (answers.ReadUpTo r bytes) (reading A j r bytes.items) log refl (subst (λ y. WorldStep (happened p.log) p.ends y q.ends) (sym call) step) in
          (round.read_one a b first allowed (moment old) k n A j 1023 (r, bytes.items) (moment p) (moment q) st news happens, ap (just_made A) log)
      read_a j answer st news (log, (x, is, step), fine) = absurd (none-some x is)

      read_b : (j : ℕ) (answer : Answer) → round.ReadsB a b first allowed (moment old) k n (moment p) → IsReadable p.ends.b j → Comes (record { end = B; act = acts.ReadUpTo j 1024 }) answer → Stands k (suc n) (turn_after (turns.Read B) answer) q
      read_b j (answers.ReadUpTo r bytes) st news (log, (x, is, step), fine) =
          let call = same_Some (reading B j r bytes.items) x is in
          let happens = happens_by p q (record { end = B; act = acts.ReadUpTo j 1024 }) (answers.ReadUpTo r bytes) (reading B j r bytes.items) log refl (subst (λ y. WorldStep (happened p.log) p.ends y q.ends) (sym call) step) in
          (round.read_b a b first allowed (moment old) k n j 1023 (r, bytes.items) (moment p) (moment q) st news happens, ap (just_made A) log)
      read_b j answer st news (log, (x, is, step), fine) = absurd (none-some x is)

      -- a packet of before comes first
      first_came : (number : ℕ) (answer : Answer) → n ≡ 0 → p ≡ old → IsNextOutstanding p.ends.a.outstanding 0 None → Comes (record { end = A; act = acts.Deliver number }) answer → Stands 0 (suc n) (turn_after (turns.Make A) answer) q
      first_came number answer none same over comes =
          let (is, bytes, happens) = arrives A number answer comes in
          let at = round.start_came a b (moment p) (moment q) number bytes (there p run) over happens in
          let since = subst (λ o. round.SendsA a b (both o.ends) (round.waiting a b o.ends + 1) (moment o) 0 1 (moment q)) same at in
          subst (λ y. Stands 0 (suc n) (turn_after (turns.Make A) y) q) (sym is)
          (inl (subst (λ m. round.SendsA a b first allowed (moment old) 0 (suc m) (moment q)) (sym none) since, inr (ap (just_made A) comes.0 ∙ ap number_made is)))

      one_event : (turn : Turn) (event : Event) (answer : Answer) → Stands k n turn p → IsOf turn p event → Comes event answer → (j : ℕ) × Stands j (suc n) (turn_after turn answer) q × ((j ≡ k) ⊎ (n ≡ 0))
      one_event (turns.Lose A) event answer (st, may) (j, held, is) comes = (k, lose_a j answer st held (subst (λ v. Comes v answer) is comes), inl refl)
      one_event (turns.Lose B) event answer (st, unmade) (j, held, is) comes = (k, lose_b j answer st held (subst (λ v. Comes v answer) is comes), inl refl)
      one_event (turns.Make A) event answer (inl (st, inr unmade)) is comes = (k, make_a answer st (subst (λ v. Comes v answer) (is ∙ ap (λ o. record { end = A; act = act_of_making o }) unmade) comes), inl refl)
      one_event (turns.Make A) event answer (inl (st, inl (none, same, over))) is comes = go (just_made A p.log) refl
        where
          go : (o : Option ℕ) → just_made A p.log ≡ o → (j : ℕ) × Stands j (suc n) (turn_after (turns.Make A) answer) q × ((j ≡ k) ⊎ (n ≡ 0))
          go None unmade = (k, make_a answer st (subst (λ v. Comes v answer) (is ∙ ap (λ o. record { end = A; act = act_of_making o }) unmade) comes), inl refl)
          go (Some number) at = (0, first_came number answer none same over (subst (λ v. Comes v answer) (is ∙ ap (λ o. record { end = A; act = act_of_making o }) at) comes), inr none)
      one_event (turns.Make A) event answer (inr (j, count, pends, at)) is comes = (k, deliver_a pends.3.made.number answer j count pends refl (subst (λ v. Comes v answer) (is ∙ ap (λ o. record { end = A; act = act_of_making o }) at) comes), inl refl)
      one_event (turns.Make B) event answer (inl (st, unmade)) is comes = (k, make_b answer st (subst (λ v. Comes v answer) (is ∙ ap (λ o. record { end = B; act = act_of_making o }) unmade) comes), inl refl)
      one_event (turns.Make B) event answer (inr (j, count, pends, at)) is comes = (k, deliver_b pends.2.made.number answer j count pends refl (subst (λ v. Comes v answer) (is ∙ ap (λ o. record { end = B; act = act_of_making o }) at) comes), inl refl)
      one_event (turns.Read A) event answer (st, unmade) (j, news, is) comes = (k, read_a j answer st news (subst (λ v. Comes v answer) is comes), inl refl)
      one_event (turns.Read B) event answer (st, unmade) (j, news, is) comes = (k, read_b j answer st news (subst (λ v. Comes v answer) is comes), inl refl)

    -- All of them

    none_of : (b c : Bool) → (b || c) ≡ false → (b ≡ false) × (c ≡ false)
    none_of false c is = (refl, is)
    none_of true c is = absurd (true≢false is)

    loop : (n : ℕ) (turn : Turn) (p : Played) → IsRun a b old → PlainSteps old n turn p → list_any (λ x. is_refused x.1) (take n p.log) ≡ false → IsRun a b p × (j : ℕ) × Stands j n turn p × (ended (take n p.log) ≤ j + begun_in turn)
    loop zero turn p run (begins, is) fine =
        subst (λ y. IsRun a b y × (j : ℕ) × Stands j 0 turn y × (ended (take 0 y.log) ≤ j + begun_in turn)) (sym is)
        (run, 0, subst (λ t. Stands 0 0 t old) (sym begins) (round.start a b (moment old) (there old run), inl (refl, refl)), omega arith)
    loop (suc n) turn p run (before, now, passed, mid, steps, over, (event, answer, not, of, log, step, after)) fine =
        let (good, rest) = none_of (is_refused answer) (list_any (λ x. is_refused x.1) (take n mid.log)) (sym (ap (λ h. list_any (λ x. is_refused x.1) (take (suc n) h)) log) ∙ fine) in
        let (run_mid, k, st, few_ended) = loop n before mid run steps rest in
        let (j, ready, even) = passes passed k n before now mid run_mid st over in
        let (i, done, same) = one_event j n mid p run_mid not now event answer ready of (log, step, good) in
        let more = one_ended mid.log mid.ends p.ends now mid event answer of step in
        let one : ended (take (suc n) p.log) ≡ ended_by (event, answer) + ended (take n mid.log) = ap (λ h. ended (take (suc n) h)) log ∙ sum_by-cons ended_by (event, answer) (take n mid.log) in
        let few_now : ended (take (suc n) p.log) ≤ i + begun_in turn =
        rw after
        (elim same [
          | inl is ↦ omega (arith, few_ended, even, more, one, is)
          | inr none ↦ (let nothing : ended (take n mid.log) ≡ 0 = ap (λ m. ended (take m mid.log)) none in omega (arith, nothing, more, one))
        ]) in
        (subst (λ h. EventRun a b h p.ends) (sym log) (mid.ends, run_mid, step), i, subst (λ t. Stands i (suc n) t p) (sym after) done, few_now)

    -- where the round began
    since : (k n : ℕ) (turn : Turn) (p : Played) → Stands k n turn p → round.Since a b first allowed (moment old) k (moment p)
    since k n (turns.Lose A) p (st, may) = st.since
    since k n (turns.Lose B) p (st, unmade) = st.after.since
    since k n (turns.Make A) p (inl (st, may)) = st.since
    since k n (turns.Make A) p (inr (j, count, (was, st, busy, pend), at)) = round.since_next a b first allowed (moment old) (round.makes A pend.first pend.delay pend.room pend.made pend.text) was (moment p) st.since pend.happens
    since k n (turns.Make B) p (inl (st, unmade)) = st.after.since
    since k n (turns.Make B) p (inr (j, count, (was, st, pend), at)) = round.since_next a b first allowed (moment old) (round.makes B pend.first pend.delay pend.room pend.made pend.text) was (moment p) st.after.since pend.happens
    since k n (turns.Read A) p (st, unmade) = st.after.since
    since k n (turns.Read B) p (st, unmade) = st.reads.after.since

    few : (k n : ℕ) (turn : Turn) (p : Played) → Stands k n turn p → n ≤ allowed + 8 * most (happened p.log) p.ends + 12
    few k n (turns.Lose A) p (st, may) = round.few_loses_a a b first allowed (moment old) k n (moment p) st
    few k n (turns.Lose B) p (st, unmade) = round.few_loses_b a b first allowed (moment old) k n (moment p) st
    few k n (turns.Make A) p (inl (st, may)) = round.few_sends_a a b first allowed (moment old) k n (moment p) st
    few k n (turns.Make A) p (inr (j, count, pends, at)) = subst (λ m. m ≤ allowed + 8 * most (happened p.log) p.ends + 12) (sym count) (round.few_pends_a a b first allowed (moment old) k j (moment p) pends)
    few k n (turns.Make B) p (inl (st, unmade)) = round.few_sends_b a b first allowed (moment old) k n (moment p) st
    few k n (turns.Make B) p (inr (j, count, pends, at)) = subst (λ m. m ≤ allowed + 8 * most (happened p.log) p.ends + 12) (sym count) (round.few_pends_b a b first allowed (moment old) k j (moment p) pends)
    few k n (turns.Read A) p (st, unmade) = round.few_reads a b first allowed (moment old) k n (moment p) st
    few k n (turns.Read B) p (st, unmade) = round.few_reads a b first allowed (moment old) k n (moment p) st.reads

pub comes_to_rest : (old new : Played) (n left : ℕ) (turn : Turn) → HasAgreed old → HasDrained old n new left turn → left ≡ 0 → ComesToRest old n (Ok UsedUp) new
comes_to_rest old new n left turn agreed (m, before, passed, sum, steps, over) none fine =
    let a = old.ends.a.settings in
    let b = old.ends.b.settings in
    let all : m ≡ n = omega (arith, sum, none) in
    let run_old = is_run a b old.log old.ends agreed in
    let (run, k, st, few_ended) = loop a b old m before new run_old steps (subst (λ i. list_any (λ x. is_refused x.1) (take i new.log) ≡ false) (sym all) fine) in
    let bound = few a b old k m before new st in
    let it = since a b old k m before new st in (
      omega (arith, bound, all),
      λ widths wide room.
          let rounds = few_rounds widths (moment old) wide a b k it.begins (moment new) (there a b old run_old) it.base.row it.led (opened a b new run) room in
          let last = one_most before in
          let ended_all : ended (take m new.log) ≤ 2 * (filled (widths B) old.ends.a new.ends.a + filled (widths A) old.ends.b new.ends.b) + 6 = omega (arith, few_ended, rounds, last) in
          subst (λ i. ended (take i new.log) ≤ 2 * (filled (widths B) old.ends.a new.ends.a + filled (widths A) old.ends.b new.ends.b) + 6) all ended_all,
    )
