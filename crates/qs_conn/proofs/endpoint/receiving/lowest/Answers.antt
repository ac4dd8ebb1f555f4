use Rattle.std.proofs.Common.{◌≡◌, ℕ, List, [], ◌∷◌, refl, ap, sym, ◌∙◌}
use Rattle.std.specs.List.{list_any}
use Rattle.std.specs.Ordering.{nat_cmp, eq_by_cmp}
use Rattle.std.specs.Cmp.{unsigned_tied}
use Rattle.std.proofs.lemmas.Bool.{both_ways, or_left, eq-eqb}
use Rattle.qs_ranges.proofs.Sets.{has_empty}
use Rattle.std.specs.FinSet as set
use Rattle.qs_ranges.specs.Numbers.{NumberSet}
use Rattle.qs_machine.specs.Recording.{least_in}
use Rattle.qs_machine.proofs.RunLaws.{least_member}
use Rattle.qs_conn.proofs.endpoint.receiving.lowest.Goals as goal

pub returns-in-Some : goal.returns-in-Some
returns-in-Some c = sym (least_member c.args.done.now c.in-Some.number c.in-Some.ensures.found)

-- nothing is listed where nothing is a member
none_least : (s : NumberSet) (ks : List ℕ) → set.items s ≡ ks → s ≡ set.empty → 0 ≡ least_in ks
none_least s [] is none = refl
none_least s (k ∷ ks) is none =
    let listed = set.contains-items s k ∙ ap (list_any (eq_by_cmp nat_cmp k)) is in
    let absent = ap (λ (t : NumberSet). set.contains t k) none ∙ has_empty k in
    absurd (both_ways _ absent (listed ∙ or_left _ _ (unsigned_tied k k ∙ eq-eqb k k refl)))

pub returns-in-None : goal.returns-in-None
returns-in-None c = none_least c.args.done.now (set.items c.args.done.now) refl c.in-None.ensures.empty
