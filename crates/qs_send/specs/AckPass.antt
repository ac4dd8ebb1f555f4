-- Of public contracts.
-- An ACK is taken in by one pass over the slots of the records, from the highest number down (RFC 9000, sections 13.3 and 19.3).
--     Passing            how far the pass has come
--     IsAhead p k        the ranges name number k, and the pass has not come to it
--     IsNextNamed m p answer q      the answer is the greatest outstanding number ahead, and q is ahead what lies below it
--     IsNext r p answer q           that, and that no turn is lost
--     PassGivesAllNamed             what follows for a whole pass
--     turns_ahead p r    how many turns the pass may still take at most
use Rattle.std.specs.Prelude.{◌≡◌, ℕ, ◌+◌, ◌-◌, ◌^◌, ◌<◌, ◌≤◌, ◌↔◌, true, false, List, [], ◌∷◌, length, min, Option, None, Some, ◌⊎◌, refl}
use Rattle.std.specs.Coded.{Coded, code_by, coded×, coded_ℕ, coded_list}
use Rattle.std.specs.FinMap as fmap
use Rattle.qs_wire.specs.Acks.{FallBelow}
use Rattle.std.specs.Option.{IfSome}
use Rattle.qs_send.specs.Records.{PacketPieces, Recorded, Among}

-- Of the range that was read last, the numbers from `low` on are left. No number from `below` on is given any more.
pub record Passing : Type 0 where
  pub low : ℕ
  pub below : ℕ
  pub unread : List (ℕ × ℕ)
  pub turns : ℕ

abbrev pub passing_code : Coded Passing
passing_code =
    code_by (ℕ × (ℕ × (List (ℕ × ℕ) × ℕ))) (coded× coded_ℕ (coded× coded_ℕ (coded× (coded_list (coded× coded_ℕ coded_ℕ)) coded_ℕ))) (λ p. (p.low, (p.below, (p.unread, p.turns))))
    (λ p. record { low = p.0; below = p.1.0; unread = p.1.1.0; turns = p.1.1.1 })
    (λ _. refl)

-- the greatest number of 64 bits, above each packet number
abbrev pub PAST_NUMBERS : ℕ
PAST_NUMBERS = 2 ^ 64 - 1

-- a pass over these ranges as it begins
abbrev pub pass_over : List (ℕ × ℕ) → Passing
pass_over ranges = record { low = PAST_NUMBERS; below = PAST_NUMBERS; unread = ranges; turns = 0 }

-- a number lies in one of the ranges
abbrev pub IsNamed : List (ℕ × ℕ) → ℕ → Type 0
IsNamed [] k = ⊥
IsNamed (r ∷ rs) k = ((r.0 ≤ k) × (k ≤ r.1)) ⊎ IsNamed rs k

-- the ranges name a number that the pass has not come to
abbrev pub IsAhead : Passing → ℕ → Type 0
IsAhead p k = (k < p.below) × ((p.low ≤ k) ⊎ IsNamed p.unread k)

-- the ranges that are left fall, as those of each frame do that was read
abbrev pub Falls : Passing → Type 0
Falls p = FallBelow p.low p.unread

-- k is the greatest outstanding number ahead, and then those below it are ahead
pub record GivesNumber (m : PacketPieces) (p : Passing) (k : ℕ) (q : Passing) : Type 0 where
  pub named : IsAhead p k
  pub held : fmap.contains_key m k ≡ true
  pub greatest : (j : ℕ) → IsAhead p j → fmap.contains_key m j ≡ true → j ≤ k
  pub left : (j : ℕ) → IsAhead q j ↔ ((j < k) × IsAhead p j)

abbrev pub IsNextNamed : PacketPieces → Passing → Option ℕ → Passing → Type 0
IsNextNamed m p None q = (j : ℕ) → IsAhead p j → fmap.contains_key m j ≡ false
IsNextNamed m p (Some k) q = GivesNumber m p k q

-- the slots that lie below, and the ranges that were not read
abbrev pub turns_ahead : Passing → Recorded → ℕ
turns_ahead p r = min (p.below - r.base) r.slots + length p.unread

-- so many turns more; the count stays at its greatest value
abbrev pub more_turns : ℕ → ℕ → ℕ
more_turns turns more = min (turns + more) PAST_NUMBERS

-- a number that is given takes a turn at least
abbrev pub turns_given : Option ℕ → ℕ
turns_given None = 0
turns_given (Some k) = 1

-- What one answer says of the records and of the pass before and after it. A turn is one slot or one range less that is ahead: a pass
-- looks at no slot twice. The number that is given and each range that was read are counted.
pub record IsNext (r : Recorded) (p : Passing) (given : Option ℕ) (q : Passing) : Type 0 where
  pub answer : Falls p → IsNextNamed r.pieces p given q
  pub falls : Falls p → Falls q
  pub below : IfSome given (λ k. (q.below ≡ k) × (k < p.below))
  pub turns : q.turns + turns_ahead q r ≤ p.turns + turns_ahead p r
  pub counted : p.turns ≤ q.turns
  pub each : more_turns p.turns (turns_given given + (length p.unread - length q.unread)) ≤ q.turns
  pub reads : length q.unread ≤ length p.unread
  pub ended : given ≡ None → q.unread ≡ []

-- the next range was read
pub record HasRead (p : Passing) (range : ℕ × ℕ) (q : Passing) : Type 0 where
  pub unread : p.unread ≡ range ∷ q.unread
  pub low : q.low ≡ range.0
  pub below : q.below ≡ min p.below (range.1 + 1)
  pub turns : q.turns ≡ more_turns p.turns 1

-- Whole passes

-- the slots stay, and no record but that of k goes
pub record MayEmpty (r : Recorded) (k : ℕ) (s : Recorded) : Type 0 where
  pub base : s.base ≡ r.base
  pub slots : s.slots ≡ r.slots
  pub others : (j : ℕ) → (j ≡ k → ⊥) → fmap.contains_key s.pieces j ≡ fmap.contains_key r.pieces j

-- the pass gives these numbers and then none, and after each the record of that number may go
abbrev pub PassGives : Recorded → Passing → List ℕ → Passing → Type 0
PassGives r p [] q = IsNext r p None q
PassGives r p (k ∷ ks) q = (s : Recorded) × (next : Passing) × IsNext r p (Some k) next × MayEmpty r k s × PassGives s next ks q

-- the numbers fall, all below a bound
abbrev pub AreFalling : ℕ → List ℕ → Type 0
AreFalling bound [] = Unit {0}
AreFalling bound (k ∷ ks) = (k < bound) × AreFalling k ks

-- A pass gives the outstanding numbers that the ranges name, each once and the highest first, in no more turns than there are slots and
-- ranges, and in one at least for each number and each range.
pub record GivesAllNamed (r : Recorded) (ranges : List (ℕ × ℕ)) (ks : List ℕ) (q : Passing) : Type 0 where
  pub falling : AreFalling PAST_NUMBERS ks
  pub all_named : (k : ℕ) → Among k ks ↔ (IsNamed ranges k × (fmap.contains_key r.pieces k ≡ true))
  pub turns : q.turns ≤ r.slots + length ranges
  pub each : more_turns 0 (length ks + length ranges) ≤ q.turns

abbrev pub PassGivesAllNamed : Type 0
PassGivesAllNamed =
    (r : Recorded) (ranges : List (ℕ × ℕ)) (ks : List ℕ) (q : Passing) → FallBelow PAST_NUMBERS ranges → PassGives r (pass_over ranges) ks q → GivesAllNamed r ranges ks q

-- so far the numbers of p that are not ahead any more are not outstanding, and above each one that is
pub record HasPassed (m : PacketPieces) (p q : Passing) : Type 0 where
  pub falls : Falls q
  pub ahead : (j : ℕ) → IsAhead q j → IsAhead p j
  pub passed : (j : ℕ) → IsAhead p j → IsAhead q j ⊎ ((fmap.contains_key m j ≡ false) × ((i : ℕ) → IsAhead q i → i < j))
