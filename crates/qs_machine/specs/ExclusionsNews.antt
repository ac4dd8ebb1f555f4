-- Of laws.
-- Which streams no search among them answers (RFC 9000, sections 2.2, 2.4, 3 and 13.3).
use Rattle.std.specs.Prelude.{◌≡◌, ◌≤◌, true, None, Some}
use Rattle.qs_recv.specs.Lane.{stop, stop_and_discard}
use Rattle.qs_machine.specs.News.{IsLeast, IsReadable, IsSendable, IsWritable, IsEnded}
use Rattle.qs_machine.specs.SmallEnds.{client_with, server_with, begun, wrote, finished, reset_half, fresh, three_came, all_came}
use Rattle.qs_machine.specs.ExclusionsOwner.{over, reading_on}

-- a search doesn't answer so
pub record NoSuchSearch : Type 0 where
  -- with none, where a number has the property
  pub passed_over : IsLeast (λ n. n ≡ 4) 0 None → ⊥
  -- with a number below the one that it begins from
  pub too_low : IsLeast (λ n. n ≡ 4) 8 (Some 4) → ⊥
  -- with one that hasn't the property
  pub another : IsLeast (λ n. n ≡ 4) 0 (Some 8) → ⊥
  -- with one above the least
  pub not_least : IsLeast (λ n. 4 ≤ n) 0 (Some 8) → ⊥

-- such a stream has nothing to read that is new (sections 2.2, 3.2 and 3.5)
pub record NotReadable : Type 0 where
  -- to which nothing came
  pub nothing_came : IsReadable (server_with fresh) 0 → ⊥
  -- of which the end was told
  pub told : IsReadable (server_with (record all_came { reader_done = true })) 0 → ⊥
  -- that was stopped and whose end didn't come
  pub stopped : IsReadable (server_with (stop three_came 7)) 0 → ⊥
  -- that was forgotten, also where its end came
  pub forgotten : IsReadable (server_with (stop_and_discard all_came 7)) 0 → ⊥
  -- of a closed end
  pub closed : IsReadable (over (server_with all_came)) 0 → ⊥
  -- though not where its owner chose to read on: a search doesn't pass over the reset that came
  pub read_on : IsLeast (IsReadable (reading_on (server_with (record fresh { final_size = Some 0; reset_code = Some 7 })))) 0 None → ⊥
  -- that isn't open
  pub unopened : IsReadable (server_with all_came) 4 → ⊥

-- such a stream has nothing for a packet (sections 3.1, 4.1 and 13.3)
pub record NotSendable : Type 0 where
  -- on which nothing was written
  pub nothing_written : IsSendable (client_with begun) 0 → ⊥
  -- whose own limit lets nothing go
  pub past_limit : IsSendable (client_with (record wrote { limit = 0 })) 0 → ⊥
  -- that was reset
  pub after_reset : IsSendable (client_with reset_half) 0 → ⊥
  -- of a closed end
  pub closed : IsSendable (over (client_with wrote)) 0 → ⊥

-- such a stream takes no byte (sections 2.2 and 2.4)
pub record NotWritable : Type 0 where
  -- whose buffer is full
  pub no_room : IsWritable (client_with (record begun { buffer = 0 })) 0 → ⊥
  -- that was finished
  pub after_finish : IsWritable (client_with finished) 0 → ⊥
  -- that was reset
  pub after_reset : IsWritable (client_with reset_half) 0 → ⊥
  -- of a closed end
  pub closed : IsWritable (over (client_with begun)) 0 → ⊥

-- such a stream isn't over (sections 3.1 to 3.4)
pub record NotOver : Type 0 where
  -- of which one half alone is, the sending one
  pub sending_alone : IsEnded (client_with (record begun { finished = true; fin_sent = true; fin_acked = true })) 0 → ⊥
  -- or the receiving one
  pub receiving_alone : IsEnded (server_with (record all_came { reader_done = true })) 0 → ⊥

pub record NotFound : Type 0 where
  pub search : NoSuchSearch
  pub readable : NotReadable
  pub sendable : NotSendable
  pub writable : NotWritable
  pub ended : NotOver
