use Rattle.qs_world.specs.Randoms.{IsDrawnRun, seeded}
use Rattle.qs_world.proofs.random.random_script.Given as goal

-- so many events happened so far
abbrev pub invariant-loop : goal.invariant-loop
invariant-loop l = IsDrawnRun (seeded l.seed) l.counter l.world l.words
