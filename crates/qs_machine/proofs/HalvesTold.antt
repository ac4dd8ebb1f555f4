-- What an owner heard of a sending half stays: with which code it was stopped, and that it came to its end.
use Rattle.std.proofs.Common.{◌≡◌, ℕ, ◌+◌, ◌≤◌, Bool, true, false, List, Some, None, is_some, refl, ◌∙◌, arith}
use Rattle.qs_send.specs.Lane.{SendLane, refusal, reset_refusal, write_lane, reset_lane, stop_taken, acked_lane, reset_acked_lane, sent_lane}
use Rattle.qs_send.specs.declared.parts.Chunk.{Chunk}
use Rattle.qs_machine.specs.Credit.{send_ended}
use Rattle.qs_machine.specs.Heard.{HasFinished}
use Rattle.qs_machine.proofs.EndedHalves.{acked_keeps}

-- a reset that was acknowledged was made
abbrev pub IsOwnReset : SendLane → Type 0
IsOwnReset l = l.reset_acked ≡ true → is_some l.was_reset ≡ true

pub record TellsOn (l m : SendLane) : Type 0 where
  pub code : (c : ℕ) → l.stopped ≡ Some c → m.stopped ≡ Some c
  pub reset : l.reset_acked ≡ true → m.reset_acked ≡ true
  pub finished : HasFinished l → HasFinished m
  pub own : IsOwnReset l → IsOwnReset m
  -- once it came to its end it takes no stop
  pub quiet : IsOwnReset l → send_ended l ≡ true → m.stopped ≡ l.stopped

pub tells_same : (l : SendLane) → TellsOn l l
tells_same l = record { code = λ c is. is; reset = λ is. is; finished = λ is. is; own = λ is. is; quiet = λ own is. refl }

-- it ended as well, in either way
pub tells_ended : (l m : SendLane) → TellsOn l m → send_ended l ≡ true → send_ended m ≡ true
tells_ended l m t ended = go l.reset_acked refl
  where
    go : (b : Bool) → l.reset_acked ≡ b → send_ended m ≡ true
    go true acked = grind (arith, t.reset)
    go false not = (t.finished (not, ended)).1

pub tells_twice : (l m k : SendLane) → TellsOn l m → TellsOn m k → TellsOn l k
tells_twice l m k a b =
    record {
      code = λ c is. b.code c (a.code c is);
      reset = λ is. b.reset (a.reset is);
      finished = λ is. b.finished (a.finished is);
      own = λ is. b.own (a.own is);
      quiet = λ own ended. b.quiet (a.own own) (tells_ended l m a ended) ∙ a.quiet own ended;
    }

-- a half that takes bytes wasn't finished, so that it didn't come to its end by all its data
pub tells_written : (l : SendLane) (bytes : List ℕ) → refusal l ≡ None → TellsOn l (write_lane l bytes)
tells_written l bytes allowed = record { code = λ c is. is; reset = λ is. is; finished = λ is. grind arith; own = λ is. is; quiet = λ own is. refl }

-- one of which all was acknowledged isn't reset any more
pub tells_broken : (code : ℕ) (l : SendLane) → TellsOn l (reset_lane l code)
tells_broken code l = record { code = λ c is. grind arith; reset = λ is. grind arith; finished = λ is. grind arith; own = λ own is. grind arith; quiet = λ own is. grind arith }

-- one that came to its end can't be reset any more, so that a stop changes nothing
ended_refused : (l : SendLane) → IsOwnReset l → send_ended l ≡ true → is_some (reset_refusal l) ≡ true
ended_refused l own ended = go l.reset_acked refl
  where
    go : (b : Bool) → l.reset_acked ≡ b → is_some (reset_refusal l) ≡ true
    go true acked = let made = own acked in grind (arith, made)
    go false not = grind (arith, ended, not)

stop_refused : (answers : Bool) (code : ℕ) (l : SendLane) → is_some (reset_refusal l) ≡ true → (stop_taken answers l code).stopped ≡ l.stopped
stop_refused answers code l refused = grind arith

pub tells_stopped : (answers : Bool) (code : ℕ) (l : SendLane) → TellsOn l (stop_taken answers l code)
tells_stopped answers code l =
    record { code = λ c is. grind arith; reset = λ is. grind arith; finished = λ is. grind arith; own = λ own is. grind arith; quiet = λ own ended. stop_refused answers code l (ended_refused l own ended) }

-- so no reset of one that finished is acknowledged
pub tells_reset_acked : (l : SendLane) → is_some l.was_reset ≡ true → TellsOn l (reset_acked_lane l)
tells_reset_acked l broken = record { code = λ c is. is; reset = λ is. refl; finished = λ is. grind arith; own = λ own is. broken; quiet = λ own is. refl }

pub tells_acked : (l : SendLane) (c : Chunk) → c.offset + c.len ≤ l.written → TellsOn l (acked_lane l c)
tells_acked l c within = record { code = λ k is. is; reset = λ is. is; finished = λ is. (is.0, acked_keeps l c within is.1); own = λ is. is; quiet = λ own is. refl }

pub tells_sent : (l : SendLane) (c : Chunk) → TellsOn l (sent_lane l c)
tells_sent l c = record { code = λ k is. is; reset = λ is. is; finished = λ is. grind arith; own = λ is. is; quiet = λ own is. refl }
