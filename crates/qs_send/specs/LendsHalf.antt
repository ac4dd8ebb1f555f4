-- Of public contracts.
-- What a table of sending halves ends as, where one of them is lent.
use Rattle.std.specs.Prelude.{ℕ, List, Option, slice_set}
use Rattle.std.specs.Borrow.{LendsIf, Fml, MutBor}
use Rattle.qs_send.specs.Lane.{Sending}
use Rattle.qs_send.specs.contracts.halves.SendHalves.{the_row}
use Rattle.qs_send.specs.contracts.half.SendHalf.{the_row as half_row}

-- once r ends, the half at the index is the last one written through r, and where there is none all are as before
abbrev pub lends_half : MutBor (List Sending) → ℕ → Option (MutBor Sending) → Fml
lends_half halves i r = LendsIf the_row half_row halves r (slice_set halves.now i) halves.now
