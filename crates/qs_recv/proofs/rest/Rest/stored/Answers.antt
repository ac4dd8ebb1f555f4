use Rattle.std.proofs.Common.{ℕ, sym}
use Rattle.std.specs.Ordering.{nat_cmp}
use Rattle.std.specs.FinMap as map
use Rattle.qs_recv.specs.Rest.{given}
use Rattle.qs_recv.proofs.RestLaws.{no_room}
use Rattle.qs_recv.proofs.rest.Rest.stored.Goals as goal

pub returns-clause-value : goal.returns-clause-value
returns-clause-value c = rw (← c.self.view_is) (sym (map.len-empty nat_cmp ℕ))

pub returns-clause-room : goal.returns-clause-room
returns-clause-room c =
    let s = c.self.inside in
    rw (← c.self.view_is)
    (no_room s.windows s.read_count s.received_end s.limit (given s.is_sized s.size) (given s.is_reset s.reset) (given s.is_stopped s.stop) s.reader_done c.self.invariant)
