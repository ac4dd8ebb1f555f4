-- The pass over an ACK: what it passes without an answer, and what its answers say.
use Rattle.std.specs.FinMap as fmap
use Rattle.std.proofs.lemmas.Bool.Decides.{nat_tests}
use Rattle.std.proofs.Common.{◌≡◌, ◌∙◌, ℕ, suc, ◌+◌, ◌-◌, ◌<◌, ◌≤◌, true, false, Some, List, [], ◌∷◌, length, min, refl, sym, ap, subst, arith, inl, inr, ◌⊎◌, ◌↔◌, cond, nat_lt}
use Rattle.std.proofs.lemmas.Bool.{both_ways, cases_lt}
use Rattle.qs_wire.specs.Acks.{FallBelow}
use Rattle.qs_send.specs.Records.{PacketPieces, Recorded, Among}
use Rattle.qs_send.specs.AckPass.{IsNext, MayEmpty, PassGives, AreFalling, PassGivesAllNamed, Passing, IsNamed, IsAhead, Falls, HasRead, HasPassed, turns_ahead, more_turns}
use Rattle.qs_send.specs.LostRecords.{Lost, without_number}
use Rattle.qs_send.specs.LostPass.{count_below, IsSeen, seen_below, lost_ahead, IsNextLost, MayGo, LostPassGives, LostPassGivesAllNamed}

-- each number that falling ranges name lies below
pub named_below : (high : ℕ) (rs : List (ℕ × ℕ)) (j : ℕ) → FallBelow high rs → IsNamed rs j → j + 1 < high
named_below high [] j falls named = absurd named
named_below high (r ∷ rs) j falls (inl here) = omega (arith, falls.0, here.1)
named_below high (r ∷ rs) j falls (inr later) = let lt = named_below r.0 rs j falls.2 later in omega (arith, falls.0, falls.1)

-- The numbers of a range went by without an answer, and the next range is read
module _ (m : PacketPieces) (p q cut : Passing) (low : cut.low ≡ q.low) (unread : cut.unread ≡ q.unread) (below : cut.below ≤ q.below)
    (none : (j : ℕ) → q.low ≤ j → j < q.below → fmap.contains_key m j ≡ false) (past : (j : ℕ) → cut.below ≤ j → j < q.below → fmap.contains_key m j ≡ false) where
  module _ (range : ℕ × ℕ) (after : Passing) (read : HasRead cut range after) where
    left : q.unread ≡ range ∷ after.unread
    left = sym unread ∙ read.unread

    bound : after.below ≤ cut.below
    bound = let b = read.below in omega arith

    -- what is ahead then is named by the ranges that were left
    then_named : (j : ℕ) → IsAhead after j → IsNamed (range ∷ after.unread) j
    then_named j ahead = grind (arith, nat_tests)

    was : (j : ℕ) → IsAhead after j → IsAhead q j
    was j ahead = let lt = ahead.0 in (omega (arith, bound, lt), inr (subst (λ rs. IsNamed rs j) (sym left) (then_named j ahead)))

    fall : Falls q → FallBelow q.low (range ∷ after.unread)
    fall falls = subst (FallBelow q.low) left falls

    gone : Falls q → (j : ℕ) → IsAhead q j → IsAhead after j ⊎ ((fmap.contains_key m j ≡ false) × ((i : ℕ) → IsAhead after i → i < j))
    gone falls j ahead = grind (arith, nat_tests, named_below, cases_lt)

    pub passed_range : HasPassed m p q → HasPassed m p after
    passed_range so_far = record {
      falls = subst (λ x. FallBelow x after.unread) (sym read.low) (fall so_far.falls).2;
      ahead = λ j ahead. so_far.ahead j (was j ahead);
      passed = λ j ahead. elim (so_far.passed j ahead) [ inl ahead_still ↦ gone so_far.falls j ahead_still | inr went ↦ inr (went.0, (λ i a. went.1 i (was i a))) ];
    }

-- A number is given

-- Turns

pub turns_read : (p q cut after : Passing) (r : Recorded) (range : ℕ × ℕ) → cut.unread ≡ q.unread → cut.turns + min (cut.below - r.base) r.slots ≤ q.turns + min (q.below - r.base) r.slots → HasRead cut range after
    → q.turns + turns_ahead q r ≤ p.turns + turns_ahead p r → after.turns + turns_ahead after r ≤ p.turns + turns_ahead p r
turns_read p q cut after r range unread less read so_far = grind (arith, nat_tests)

-- Whole passes

-- the numbers of a pass from p on
record FromHere (r : Recorded) (p : Passing) (ks : List ℕ) (q : Passing) : Type 0 where
  falling : AreFalling p.below ks
  given : (j : ℕ) → Among j ks → IsAhead p j × (fmap.contains_key r.pieces j ≡ true)
  all : (j : ℕ) → IsAhead p j → fmap.contains_key r.pieces j ≡ true → Among j ks
  turns : q.turns + turns_ahead q r ≤ p.turns + turns_ahead p r
  each : more_turns p.turns (length ks + length p.unread) ≤ q.turns

same_turns : (p : Passing) (r s : Recorded) → s.base ≡ r.base → s.slots ≡ r.slots → turns_ahead p s ≡ turns_ahead p r
same_turns p r s base slots = ap (λ x. min (p.below - x) s.slots + length p.unread) base ∙ ap (λ x. min (p.below - r.base) x + length p.unread) slots

-- a number is given, after some ranges were read, and then the rest
turns_then : (a b c given left later : ℕ) → later ≤ left → more_turns a (1 + (left - later)) ≤ b → more_turns b (given + later) ≤ c → more_turns a (suc given + left) ≤ c
turns_then a b c given left later le first second = omega (arith, le, first, second)

one_given : (r s : Recorded) (p next q : Passing) (k : ℕ) (ks : List ℕ) → Falls p → IsNext r p (Some k) next → MayEmpty r k s → FromHere s next ks q → FromHere r p (k ∷ ks) q
one_given r s p next q k ks falls is gone later =
    let at = is.answer falls in
    record {
      falling = (is.below.1, subst (λ b. AreFalling b ks) is.below.0 later.falling);
      given = grind (arith, nat_tests);
      all = grind (arith, nat_tests);
      turns =
          let now = is.turns in
          let rest = later.turns in
          let same = same_turns next r s gone.base gone.slots in
          let end = same_turns q r s gone.base gone.slots in
          omega (arith, now, rest, same, end);
      each = turns_then p.turns next.turns q.turns (length ks) (length p.unread) (length next.unread) is.reads is.each later.each;
    }

from_here : (r : Recorded) (p : Passing) (ks : List ℕ) (q : Passing) → Falls p → PassGives r p ks q → FromHere r p ks q
from_here r p [] q falls is = record {
  falling = tt;
  given = λ j among. absurd among;
  all = λ j ahead held. absurd (both_ways _ (is.answer falls j ahead) held);
  turns = is.turns;
  each = let all = ap length (is.ended refl) in let now = is.each in omega (arith, all, now);
}
from_here r p (k ∷ ks) q falls is =
    one_given r is.0 p is.1 q k ks falls is.2 is.3 (from_here is.0 is.1 ks q (is.2.falls falls) is.4)

pub pass_gives_all_named : PassGivesAllNamed
pass_gives_all_named r ranges ks q falls is = grind (arith, nat_tests, from_here, named_below)

-- ---- The pass of a late ACK over the lost records: its turns, and what whole passes give.

-- How many numbers are below

pub count_less : (ks : List ℕ) (a b : ℕ) → a ≤ b → count_below ks a ≤ count_below ks b
count_less [] a b le = omega arith
count_less (k ∷ ks) a b le = let rest = count_less ks a b le in grind (arith, nat_tests)

pub count_given : (ks : List ℕ) (k b : ℕ) → Among k ks → k < b → count_below ks k + 1 ≤ count_below ks b
count_given [] k b among lt = absurd among
count_given (j ∷ ks) k b (inl same) lt = let rest = count_less ks k b (omega (arith, lt)) in grind (arith, nat_tests, rest)
count_given (j ∷ ks) k b (inr later) lt = let rest = count_given ks k b later lt in grind (arith, nat_tests)

count_most : (ks : List ℕ) (b : ℕ) → count_below ks b ≤ length ks
count_most [] b = omega arith
count_most (k ∷ ks) b = grind (arith, nat_tests, count_most ks b)

count_without : (ks : List ℕ) (n b : ℕ) → count_below (without_number ks n) b ≤ count_below ks b
count_without [] n b = omega arith
count_without (k ∷ ks) n b = grind (arith, nat_tests, count_without ks n b)

-- The record that was looked at last

seen_one : (n b : ℕ) → n < b → seen_below n b ≡ 1
seen_one n b lt = grind (arith, nat_tests)

seen_none : (n b : ℕ) → b ≤ n → seen_below n b ≡ 0
seen_none n b le = grind (arith, nat_tests)

pub seen_lower : (m : PacketPieces) (n b c : ℕ) → c ≤ b → IsSeen m b n → IsSeen m c n
seen_lower m n b c le seen lt = let s = seen (omega (arith, lt, le)) in (s.0, λ j more small. s.1 j more (omega (arith, small, le)))

pub seen_drops : (m : PacketPieces) (order : List ℕ) → ((k : ℕ) → Among k order ↔ (fmap.contains_key m k ≡ true)) → (n b c : ℕ) → c ≤ b → IsSeen m b n → count_below order c + seen_below n b ≤ count_below order b + seen_below n c
seen_drops m order same n b c le seen =
    let fewer = count_less order c b le in
    elim (cases_lt n b) [
      | inl lt ↦
          let one = seen_one n b lt in
          elim (cases_lt n c) [
            | inl still ↦ let too = seen_one n c still in omega (arith, one, too, fewer)
            | inr past ↦
                let none = seen_none n c past in
                let given = count_given order n b ((same n).1 (seen lt).0) lt in
                let under = count_less order c n past in
                omega (arith, one, none, given, under)
          ]
      | inr ge ↦ let none = seen_none n b ge in omega (arith, none, fewer)
    ]

pub count_none : (ks : List ℕ) → count_below ks 0 ≡ 0
count_none [] = refl
count_none (k ∷ ks) = let rest = count_none ks in grind (arith, nat_tests)

-- Turns

pub look_turns : (order : List ℕ) (seen number below t s : ℕ) → count_below order number + 1 ≤ count_below order below → (seen < below → s ≡ t) → (below ≤ seen → s ≡ more_turns t 1)
    → (s + count_below order number) + seen_below seen below ≤ (t + count_below order below) + seen_below number number
look_turns order seen number below t s given old new = grind (arith, nat_tests)

-- each record looked at and each range read is counted
pub each_step : (p t s : ℕ) (x seen next below : ℕ) → next ≤ seen → seen ≤ below → more_turns p (x + seen_below seen below) ≤ t → s ≡ cond (nat_lt next seen) (more_turns t 1) t → more_turns p (x + seen_below next below) ≤ s
each_step p t s x seen next below le most so_far is = grind (arith, nat_tests)

pub each_read : (p s u : ℕ) (x y z : ℕ) → more_turns p (x + z) ≤ s → u ≡ more_turns s 1 → y ≤ x + 1 → more_turns p (y + z) ≤ u
each_read p s u x y z so_far is le = omega (arith, so_far, is, le)

pub lost_turns_look : (l : Lost) (p q cut : Passing) (seen next : ℕ) → cut.unread ≡ q.unread → (cut.turns + count_below l.order cut.below) + seen_below seen q.below ≤ (q.turns + count_below l.order q.below) + seen_below next cut.below
    → q.turns + lost_ahead q l ≤ (p.turns + lost_ahead p l) + seen_below seen q.below → cut.turns + lost_ahead cut l ≤ (p.turns + lost_ahead p l) + seen_below next cut.below
lost_turns_look l p q cut seen next unread less so_far = grind (arith, nat_tests)

pub lost_turns_read : (l : Lost) (p cut after : Passing) (range : ℕ × ℕ) (next : ℕ) → ((k : ℕ) → Among k l.order ↔ (fmap.contains_key l.pieces k ≡ true)) → IsSeen l.pieces cut.below next → HasRead cut range after
    → cut.turns + lost_ahead cut l ≤ (p.turns + lost_ahead p l) + seen_below next cut.below → after.turns + lost_ahead after l ≤ (p.turns + lost_ahead p l) + seen_below next after.below
lost_turns_read l p cut after range next same seen read so_far =
    let b = read.below in
    let one = read.turns in
    let drops = seen_drops l.pieces l.order same next cut.below after.below (omega (arith, b)) seen in
    let len : length cut.unread ≡ length (range ∷ after.unread) = ap length read.unread in
    omega (arith, one, drops, len, so_far)

-- the ranges were all read, and nothing below is looked at any more
pub lost_turns_end : (l : Lost) (p cut end : Passing) (next : ℕ) → ((k : ℕ) → Among k l.order ↔ (fmap.contains_key l.pieces k ≡ true)) → IsSeen l.pieces cut.below next → end.turns ≡ cut.turns → end.below ≡ 0 → end.unread ≡ cut.unread
    → cut.turns + lost_ahead cut l ≤ (p.turns + lost_ahead p l) + seen_below next cut.below → end.turns + lost_ahead end l ≤ p.turns + lost_ahead p l
lost_turns_end l p cut end next same seen turns below unread so_far = grind (arith, nat_tests, seen_drops, count_none)

-- no lost number is ahead
pub none_ahead : (m : PacketPieces) (p q : Passing) → HasPassed m p q → ((j : ℕ) → q.low ≤ j → j < q.below → fmap.contains_key m j ≡ false) → q.unread ≡ [] → (j : ℕ) → IsAhead p j → fmap.contains_key m j ≡ false
none_ahead m p q so_far none ended j ahead = grind (arith, nat_tests)

-- Whole passes

-- the numbers of a pass from p on
record FromHereOfLostPassing (l : Lost) (p : Passing) (ks : List ℕ) (q : Passing) : Type 0 where
  falling : AreFalling p.below ks
  given : (j : ℕ) → Among j ks → IsAhead p j × (fmap.contains_key l.pieces j ≡ true)
  all : (j : ℕ) → IsAhead p j → fmap.contains_key l.pieces j ≡ true → Among j ks
  turns : q.turns ≤ p.turns + lost_ahead p l
  each : more_turns p.turns (length ks + (length p.unread - length q.unread)) ≤ q.turns

fewer : (l s : Lost) (k b : ℕ) → MayGo l k s → count_below s.order b ≤ count_below l.order b
fewer l s k b gone = grind (arith, nat_tests, count_without)

lostpassing_one_given : (l s : Lost) (p next q : Passing) (k : ℕ) (ks : List ℕ) → Falls p → IsNextLost l p (Some k) next → MayGo l k s → FromHereOfLostPassing s next ks q → FromHereOfLostPassing l p (k ∷ ks) q
lostpassing_one_given l s p next q k ks falls is gone later =
    let at = is.answer falls in
    record {
      falling = (is.below.1, subst (λ b. AreFalling b ks) is.below.0 later.falling);
      given = grind (arith, nat_tests);
      all = grind (arith, nat_tests);
      turns =
          let now = is.turns in
          let rest = later.turns in
          let less = fewer l s k next.below gone in
          omega (arith, now, rest, less);
      each = let now = is.each in let rest = later.each in omega (arith, now, rest);
    }

lostpassing_from_here : (l : Lost) (p : Passing) (ks : List ℕ) (q : Passing) → Falls p → LostPassGives l p ks q → FromHereOfLostPassing l p ks q
lostpassing_from_here l p [] q falls is = record {
  falling = tt;
  given = λ j among. absurd among;
  all = λ j ahead held. absurd (both_ways _ (is.answer falls j ahead) held);
  turns = let t = is.turns in omega (arith, t);
  each = is.each;
}
lostpassing_from_here l p (k ∷ ks) q falls is =
    lostpassing_one_given l is.0 p is.1 q k ks falls is.2 is.3 (lostpassing_from_here is.0 is.1 ks q (is.2.falls falls) is.4)

pub lost_pass_gives_all_named : LostPassGivesAllNamed
lost_pass_gives_all_named l ranges ks q falls is = grind (arith, nat_tests, lostpassing_from_here, named_below, count_most)
