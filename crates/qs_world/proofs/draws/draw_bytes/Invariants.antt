use Rattle.std.proofs.Common.{◌≡◌, ◌++◌, ◌-◌, ◌≤◌, vec_len}
use Rattle.qs_world.specs.Draws.{bytes_from, after_all}
use Rattle.qs_world.proofs.draws.draw_bytes.Given as goal

-- the bytes so far and those to come make up the whole
abbrev pub invariant-loop-bytes : goal.invariant-loop-bytes
invariant-loop-bytes l = record {
  drawn : l.bytes.items ++ bytes_from (l.count - vec_len l.bytes) l.words ≡ bytes_from l.fn.count l.fn.words;
  next : after_all (l.count - vec_len l.bytes) l.words ≡ after_all l.fn.count l.fn.words;
  within : vec_len l.bytes ≤ l.count;
}

abbrev pub decreases-loop-bytes : goal.decreases-loop-bytes
decreases-loop-bytes l = l.count - vec_len l.bytes
