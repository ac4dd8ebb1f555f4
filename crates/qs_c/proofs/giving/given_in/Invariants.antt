use Rattle.std.proofs.Common.{◌≡◌, true, map, take, drop}
use Rattle.qs_wire.specs.Layout.{view}
use Rattle.qs_c.specs.Giving.{given_in, are_given}
use Rattle.qs_c.proofs.giving.given_in.Given as goal

-- the frames so far, and those that are left are frames
abbrev pub invariant-loop-given : goal.invariant-loop-given
invariant-loop-given l = record {
  left : are_given (drop l.given-index l.frames) ≡ true;
  so_far : map view l.all.items ≡ map given_in (take l.given-index l.frames);
}
