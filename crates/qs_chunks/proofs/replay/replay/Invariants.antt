use Rattle.qs_recv.specs.Assembled.{nothing_yet}
use Rattle.qs_chunks.proofs.ReplayLaws.{HasShown}
use Rattle.qs_chunks.proofs.replay.replay.Given as goal

-- the steps so far showed what they had to
abbrev pub invariant-loop-step : goal.invariant-loop-step
invariant-loop-step g l = HasShown (nothing_yet l.fn.window) l.steps l.step-index l.player l.shown.items
