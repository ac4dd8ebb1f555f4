use Rattle.std.proofs.Common.{◌≡◌, ◌+◌, List, ◌∷◌, Result, drop, map, sym, ap, ◌∙◌, subst, rules}
use Rattle.std.proofs.lemmas.List.{at_drop_more, at_drop_all}
use Rattle.qs_wire.specs.Layout.{FrameValue, view}
use Rattle.qs_wire.specs.declared.frame.Frame.{Frame}
use Rattle.qs_calls.specs.declared.token.Taken.{Taken}
use Rattle.qs_calls.specs.declared.token.TakeFault.{TakeFault}
use Rattle.qs_machine.specs.Ends.{End}
use Rattle.qs_machine.specs.Alone.{after_one, TakesEach}
use Rattle.qs_conn.proofs.Asked.{one_more, one_passed, one_stops, none_left}
use Rattle.qs_conn.proofs.endpoint.Endpoint.take_each.Goals as goal
use Rattle.qs_conn.proofs.endpoint.Endpoint.take_each.Goals.{then-is_ours+in_ok-take_one, else-is_ours}

pub loop-frame-preserved : goal.loop-frame-preserved
loop-frame-preserved c =
    let fs = c.args.frames.now in
    let later_frames = map view (drop (c.loop-frame.frame-index + 1) fs) in
    let All : Result Taken TakeFault → End → Type 0 = λ r x. TakesEach (map view fs) c.args.self.now r x in
    let left : map view (drop c.loop-frame.frame-index fs) ≡ view c.frame-item.result ∷ later_frames =
    at_drop_more (map view) fs c.loop-frame.frame-index c.frame-item.result c.loop-frame-test.true ∙ ap (λ (f : Frame). view f ∷ later_frames) (sym c.frame-item.is) in
    let onward : (later : Result Taken TakeFault) (last : End) → TakesEach (view c.frame-item.result ∷ later_frames) c.loop-frame.self later last → All (after_one c.loop-frame.taken later) last =
    λ later last h. c.loop-frame.invariant later last (subst (λ (l : List FrameValue). TakesEach l c.loop-frame.self later last) (sym left) h) in
    λ answer new rest. elim c.if-is_ours.branch [
      | then-is_ours+in_ok-take_one w ↦
          subst (λ (t : Taken). All (after_one t answer) new) (sym (w.taken-is ∙ w.of_both-taken.ensures))
          (one_more c.loop-frame.taken _ (view c.frame-item.result) later_frames c.loop-frame.self w.take_one.new.self new answer All (sym c.is_ours.ensures ∙ w.if-is_ours.true) w.in_ok-take_one.ensures onward
          (subst (λ (e : End). TakesEach later_frames e answer new) w.self-is rest))
      | else-is_ours w ↦
          subst (λ (t : Taken). All (after_one t answer) new) (sym w.taken-is)
          (one_passed c.loop-frame.taken (view c.frame-item.result) later_frames c.loop-frame.self new answer All (sym c.is_ours.ensures ∙ w.if-is_ours.false) onward
          (subst (λ (e : End). TakesEach later_frames e answer new) w.self-is rest))
    ]

pub returns-in_err-take_one : goal.returns-in_err-take_one
returns-in_err-take_one c =
    let fs = c.args.frames.now in
    let later_frames = map view (drop (c.loop-frame.frame-index + 1) fs) in
    let All : Result Taken TakeFault → End → Type 0 = λ r x. TakesEach (map view fs) c.args.self.now r x in
    let left : map view (drop c.loop-frame.frame-index fs) ≡ view c.frame-item.result ∷ later_frames =
    at_drop_more (map view) fs c.loop-frame.frame-index c.frame-item.result c.loop-frame-test.true ∙ ap (λ (f : Frame). view f ∷ later_frames) (sym c.frame-item.is) in
    let onward : (later : Result Taken TakeFault) (last : End) → TakesEach (view c.frame-item.result ∷ later_frames) c.loop-frame.self later last → All (after_one c.loop-frame.taken later) last =
    λ later last h. c.loop-frame.invariant later last (subst (λ (l : List FrameValue). TakesEach l c.loop-frame.self later last) (sym left) h) in
    let h = one_stops c.loop-frame.taken (view c.frame-item.result) later_frames c.loop-frame.self c.take_one.new.self _ All (sym c.is_ours.ensures ∙ c.if-is_ours.true) c.in_err-take_one.ensures onward in
    search (rules, h, c.from_residual.ensures)

pub returns : goal.returns
returns c =
    none_left c.loop-frame.taken c.loop-frame.self (λ r x. TakesEach (map view c.args.frames.now) c.args.self.now r x)
    (λ (later : Result Taken TakeFault) (last : End) h. c.loop-frame.invariant later last (subst (λ (l : List FrameValue). TakesEach l c.loop-frame.self later last) (sym (at_drop_all (map view) c.args.frames.now c.loop-frame.frame-index c.loop-frame-test.false)) h))
