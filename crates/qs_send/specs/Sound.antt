-- Of public contracts.
-- What holds of a sending lane at all times.
use Rattle.std.specs.Prelude.{◌≡◌, ℕ, ◌+◌, ◌≤◌, Bool, true, false, [], length, Some, is_some}
use Rattle.std.specs.FinSet as set
use Rattle.qs_ranges.specs.Numbers.{MAX_VARINT, NumberSet, ContainsRange, AllBelow, AreDisjoint}
use Rattle.qs_send.specs.declared.parts.Reset.{Reset}
use Rattle.qs_send.specs.Lane.{SendLane, Sending, unacked_from}

-- what was sent lies below what was written and below the limit, and a reset has it as its final size
pub record AreInOrder (l : SendLane) : Type 0 where
  pub small_id : l.id ≤ MAX_VARINT
  pub small : l.written ≤ MAX_VARINT
  pub small_limit : l.limit ≤ MAX_VARINT
  pub sent_written : l.sent_end ≤ l.written
  pub sent_limit : l.sent_end ≤ l.limit
  pub reset_size : (r : Reset) → l.was_reset ≡ Some r → r.size ≡ l.sent_end

-- the bytes from the lowest offset not acknowledged on are kept, but after a reset none is (RFC 9000, section 13.3); and they fit
-- the greatest buffer
pub record IsKept (l : SendLane) : Type 0 where
  pub from : is_some l.was_reset ≡ false → unacked_from l + length l.kept ≡ l.written
  pub let_go : is_some l.was_reset ≡ true → l.kept ≡ []
  pub buffered : length l.kept ≤ l.widest
  pub widest : l.buffer ≤ l.widest

-- no offset is due and acknowledged; the acknowledged ones were sent; those that weren't are due
pub record ArePartsOf (written sent_end : ℕ) (acked due : NumberSet) (reset : Bool) : Type 0 where
  pub acked_sent : AllBelow acked sent_end
  pub due_written : AllBelow due written
  pub apart : AreDisjoint due acked
  pub unsent_due : reset ≡ false → ContainsRange due sent_end written
  pub none_due : reset ≡ true → due ≡ set.empty

-- the end is sent with or after the last byte, and due until then
pub record IsEnded (written sent_end : ℕ) (finished fin_sent fin_acked fin_due reset : Bool) : Type 0 where
  pub sent_whole : fin_sent ≡ true → sent_end ≡ written
  pub sent_asked : fin_sent ≡ true → finished ≡ true
  pub acked_sent : fin_acked ≡ true → fin_sent ≡ true
  pub due_asked : fin_due ≡ true → finished ≡ true
  pub due_open : fin_due ≡ true → fin_acked ≡ false
  pub due_first : reset ≡ false → finished ≡ true → fin_sent ≡ false → fin_due ≡ true
  pub none_due : reset ≡ true → fin_due ≡ false

-- what holds of a half at all times
pub record IsLawful (s : Sending) : Type 0 where
  pub order : AreInOrder s.lane
  pub bytes : IsKept s.lane
  pub parts : ArePartsOf s.lane.written s.lane.sent_end s.lane.acked s.due.offsets (is_some s.lane.was_reset)
  pub ends : IsEnded s.lane.written s.lane.sent_end s.lane.finished s.lane.fin_sent s.lane.fin_acked s.due.fin (is_some s.lane.was_reset)
