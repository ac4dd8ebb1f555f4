use Rattle.std.proofs.Common.{◌≡◌, ℕ, ◌+◌, ◌-◌, ◌*◌, ◌/◌, ◌<◌, ◌≤◌, ◌⊎◌, max, true}
use Rattle.qs_recv.specs.Pages.{AreWhole, has_page, is_used, page_byte}
use Rattle.qs_recv.proofs.pages.Pages.make.Given as goal

abbrev pub invariant-loop-number : goal.invariant-loop-number
invariant-loop-number l =
    record {
      begins : l.from / 2048 ≤ l.number;
      small : l.number * 2048 ≤ max l.from (l.to + 2048);
      whole : AreWhole l.self.pages;
      made : (q : ℕ) → l.from ≤ q → q / 2048 < l.number → has_page l.self.pages q ≡ true;
      same : (q : ℕ) → page_byte l.self.pages q ≡ page_byte l.initial.self.pages q;
      stay : (n : ℕ) → is_used l.initial.self.pages n ≡ true → is_used l.self.pages n ≡ true;
      only : (n : ℕ) → is_used l.self.pages n ≡ true → (is_used l.initial.self.pages n ≡ true) ⊎ ((l.from < n * 2048 + 2048) × (n * 2048 < l.to));
    }

abbrev pub decreases-loop-number : goal.decreases-loop-number
decreases-loop-number l = l.to - l.number * 2048
