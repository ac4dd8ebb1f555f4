-- Nothing is written or set in a round.
use Rattle.std.proofs.lemmas.Bool.Decides.{nat_tests}
use Rattle.std.proofs.Common.{◌≡◌, ℕ, zero, suc, List, [], ◌∷◌, ◌++◌, append-nil, refl, ap, ◌∙◌, arith}
use Rattle.std.specs.Prelude.{⊤, flat_map}
use Rattle.std.proofs.lemmas.Grind.{flat_map-append}
use Rattle.qs_calls.specs.declared.event.Side.{Side}
use Rattle.qs_calls.specs.declared.event.Side.TheVariants.{A, B}
use Rattle.qs_machine.specs.EndStep.{Call, Answer, Write, Set}
use Rattle.qs_runs.specs.Logs.{Happening, History, wrote_in, written, effects, effects_of}
use Rattle.qs_runs.proofs.Histories.{did, effects_here, effects_there, two_sides}
use Rattle.qs_progress.specs.Laps.{Moment, IsCalm, Trail}
use Rattle.qs_progress.specs.Rounds.{Way, Packets, Tokens, Loses, TakesTurn, IsRead, Round}
use Rattle.qs_progress.proofs.Trails.{eased, joined}
use Rattle.qs_progress.proofs.Turns.{Losses, sends_trail}

abbrev pub IsUnwritten : Call → Type 0
IsUnwritten (Write n bytes) = ⊥
IsUnwritten (Set x) = ⊥
IsUnwritten call = ⊤

wrote_none : (n : ℕ) (call : Call) (answer : Answer call) → IsUnwritten call → flat_map (wrote_in n) (effects_of call answer) ≡ []
wrote_none n call answer is = grind (arith, nat_tests)

written_here : (x : Happening) (h : History) (n : ℕ) → IsUnwritten x.call → written x.end n (x ∷ h) ≡ written x.end n h
written_here x h n is =
    ap (flat_map (wrote_in n)) (effects_here x h) ∙ flat_map-append (wrote_in n) (effects x.end h) (did x h) ∙ ap (λ bs. written x.end n h ++ bs) (wrote_none n x.call x.answer is) ∙ append-nil (written x.end n h)

written_stays : (x : Happening) (h : History) (s : Side) (n : ℕ) → IsUnwritten x.call → written s n (x ∷ h) ≡ written s n h
written_stays x h s n is = two_sides (λ t. written t n (x ∷ h) ≡ written t n h) x.end (written_here x h n is) (ap (flat_map (wrote_in n)) (effects_there x h)) s

pub written_same : (ms : List Moment) (old new : Moment) → Trail IsUnwritten old ms new → (s : Side) (n : ℕ) → written s n new.log ≡ written s n old.log
written_same [] old new is s n = ap (λ (m : Moment). written s n m.log) is
written_same (m ∷ ms) old new ((x, kind, logged, step), rest) s n = written_same ms m new rest s n ∙ ap (written s n) logged ∙ written_stays x old.log s n kind

calm_unwritten : (call : Call) → IsCalm call → IsUnwritten call
calm_unwritten call calm = grind (arith, nat_tests)

read_unwritten : (call : Call) → IsRead call → IsUnwritten call
read_unwritten call reads = grind (arith, nat_tests)

abbrev pub Unwritten : Moment → Moment → Type 0
Unwritten old new = (ms : List Moment) × Trail IsUnwritten old ms new

pub then_on : (old mid new : Moment) → Unwritten old mid → Unwritten mid new → Unwritten old new
then_on old mid new (ms, first) (ns, second) = (ms ++ ns, joined IsUnwritten ms ns old mid new first second)

loss_on : (w : Way) (s : Side) (old new : Moment) → Loses w s old new → Trail IsUnwritten old (new ∷ []) new
loss_on Packets s old new (k, (logged, step)) = ((_, tt, logged, step), refl)
loss_on Tokens s old new (t, (logged, step)) = ((_, tt, logged, step), refl)

losses_on : (w : Way) (s : Side) (n : ℕ) (old new : Moment) → Losses w s n old new → Unwritten old new
losses_on w s zero old new (is, none) = ([], is)
losses_on w s (suc n) old new (mid, one, rest) = then_on old mid new (mid ∷ [], loss_on w s old mid one) (losses_on w s n mid new rest)

pub turn_on : (w : Way) (s : Side) (old new : Moment) → TakesTurn w s old new → Unwritten old new
turn_on w s old new (mid, (n, lost), (k, sent)) =
    let (ms, calm) = sends_trail w s k mid new sent in
    then_on old mid new (losses_on w s n old mid lost) (ms, eased IsCalm IsUnwritten calm_unwritten ms mid new calm)

pub reads_on : (ms : List Moment) (old new : Moment) → Trail IsRead old ms new → Unwritten old new
reads_on ms old new reads = (ms, eased IsRead IsUnwritten read_unwritten ms old new reads)

pub round_on : (w : Way) (old new : Moment) → Round w old new → Unwritten old new
round_on w old new r =
    then_on old r.sent_a new (turn_on w A old r.sent_a r.turn_a)
    (then_on r.sent_a r.sent_b new (turn_on w B r.sent_a r.sent_b r.turn_b) (reads_on r.moments r.sent_b new r.reads))
