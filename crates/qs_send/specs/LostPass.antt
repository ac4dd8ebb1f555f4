-- Of public contracts.
-- A late ACK is taken in by one pass over the lost records, from the highest number down (RFC 9000, section 13.3).
--     count_below order n      how many numbers of the order are below n
--     lost_ahead p l           how many turns the pass may still take
--     IsNextLost l p answer q      the answer is the greatest lost number ahead, and no turn is lost
--     LostPassGivesAllNamed        what follows for a whole pass
use Rattle.std.specs.Prelude.{◌≡◌, ℕ, ◌+◌, ◌-◌, ◌<◌, ◌≤◌, ◌↔◌, ◌⊎◌, true, false, List, [], ◌∷◌, length, nat_lt, if◌then◌else◌, Option, None, Some}
use Rattle.std.specs.FinMap as fmap
use Rattle.std.specs.Option.{IfSome}
use Rattle.qs_wire.specs.Acks.{FallBelow}
use Rattle.qs_send.specs.Records.{PacketPieces, Among}
use Rattle.qs_send.specs.AckPass.{Passing, PAST_NUMBERS, pass_over, IsNamed, Falls, IsNextNamed, AreFalling, more_turns, turns_given}
use Rattle.qs_send.specs.LostRecords.{Lost, without_number}

-- how many numbers of the order are below n
abbrev pub count_below : List ℕ → ℕ → ℕ
count_below [] n = 0
count_below (k ∷ ks) n = if nat_lt k n then count_below ks n + 1 else count_below ks n

-- the records of the numbers that lie below, and the ranges that were not read
abbrev pub lost_ahead : Passing → Lost → ℕ
lost_ahead p l = count_below l.order p.below + length p.unread

-- a number was looked at: no lost number lies between it and a bound above it, and it is lost
abbrev pub IsSeen : PacketPieces → ℕ → ℕ → Type 0
IsSeen m below n = n < below → (fmap.contains_key m n ≡ true) × ((j : ℕ) → n < j → j < below → fmap.contains_key m j ≡ false)

-- 1 where the number that was looked at is still ahead, so that its turn was counted before
abbrev pub seen_below : ℕ → ℕ → ℕ
seen_below n below = if nat_lt n below then 1 else 0

-- What one answer says of the lost records and of the pass before and after it. A turn is one record or one range less that is ahead;
-- the record that is given and each range that was read are counted.
pub record IsNextLost (l : Lost) (p : Passing) (given : Option ℕ) (q : Passing) : Type 0 where
  pub answer : Falls p → IsNextNamed l.pieces p given q
  pub falls : Falls p → Falls q
  pub below : IfSome given (λ k. (q.below ≡ k) × (k < p.below))
  pub turns : q.turns + lost_ahead q l ≤ p.turns + lost_ahead p l
  pub counted : p.turns ≤ q.turns
  pub each : more_turns p.turns (turns_given given + (length p.unread - length q.unread)) ≤ q.turns

-- Whole passes

-- no record but that of k goes
pub record MayGo (l : Lost) (k : ℕ) (s : Lost) : Type 0 where
  pub order : (s.order ≡ l.order) ⊎ (s.order ≡ without_number l.order k)
  pub others : (j : ℕ) → (j ≡ k → ⊥) → fmap.contains_key s.pieces j ≡ fmap.contains_key l.pieces j

-- the pass gives these numbers and then none, and after each the record of that number may go
abbrev pub LostPassGives : Lost → Passing → List ℕ → Passing → Type 0
LostPassGives l p [] q = IsNextLost l p None q
LostPassGives l p (k ∷ ks) q = (s : Lost) × (next : Passing) × IsNextLost l p (Some k) next × MayGo l k s × LostPassGives s next ks q

-- A pass gives the lost numbers that the ranges name, each once and the highest first, in no more turns than there are records and
-- ranges, and in one at least for each number that it gives and each range that it reads.
pub record GivesAllLost (l : Lost) (ranges : List (ℕ × ℕ)) (ks : List ℕ) (q : Passing) : Type 0 where
  pub falling : AreFalling PAST_NUMBERS ks
  pub all_named : (k : ℕ) → Among k ks ↔ (IsNamed ranges k × (fmap.contains_key l.pieces k ≡ true))
  pub turns : q.turns ≤ length l.order + length ranges
  pub each : more_turns 0 (length ks + (length ranges - length q.unread)) ≤ q.turns

abbrev pub LostPassGivesAllNamed : Type 0
LostPassGivesAllNamed =
    (l : Lost) (ranges : List (ℕ × ℕ)) (ks : List ℕ) (q : Passing) → FallBelow PAST_NUMBERS ranges → LostPassGives l (pass_over ranges) ks q → GivesAllLost l ranges ks q
