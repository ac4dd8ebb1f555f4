-- Recording a number that is above all kept ones keeps the run that it ends.
use Rattle.std.proofs.Common.{◌≡◌, ℕ, ◌+◌, ◌<◌, ◌≤◌, Bool, true, false, [], ◌∷◌, nat_lt, refl, sym, ap, ◌∙◌, subst, arith, inl, inr}
use Rattle.std.specs.Prelude.{cond}
use Rattle.std.proofs.lemmas.Bool.{true≢false, cases_lt}
use Rattle.std.proofs.lemmas.Bool.Decides.{nat_tests}
use Rattle.std.specs.FinSet as set
use Rattle.qs_ranges.specs.Numbers.{NumberSet, numbers, is_within, same_numbers, run_starts, missing_from}
use Rattle.qs_ranges.specs.Runs.{set_of}
use Rattle.qs_ranges.proofs.Edits.{contains-set_of, len-run_starts}
use Rattle.qs_machine.specs.Ends.{End}
use Rattle.qs_machine.specs.Recording.{recorded, has_too_many, lowest_end, least_in}
use Rattle.qs_machine.proofs.RunLaws.{lowest_run, lowest_end_is}
use Rattle.qs_runs.proofs.Members.{insert-cases, insert-old, insert-new, cut-kept}

few_of_one : (a k : ℕ) → a ≤ k → has_too_many (set_of ((a, k + 1) ∷ [])) ≡ false
unfolding has_too_many
few_of_one a k le =
    let one : set.len (run_starts (set_of ((a, k + 1) ∷ []))) ≡ 1 = len-run_starts ((a, k + 1) ∷ []) (omega arith, omega (arith, le), tt) in
    ap (λ n. nat_lt 32 n) one

module _ (s : NumberSet) (lo k : ℕ) (le : lo ≤ k) (top : (j : ℕ) → set.contains s j ≡ true → j ≤ k) (run : (j : ℕ) → lo ≤ j → j ≤ k → set.contains s j ≡ true) where
  abbrev least : ℕ
  least = least_in (set.items s)

  abbrev end : ℕ
  end = missing_from s least

  -- were the lowest run the one of the largest number, there would be one run alone
  one_run : lo < end → has_too_many s ≡ false
  one_run lt = subst (λ (t : NumberSet). has_too_many t ≡ false) (sym same) (few_of_one least k low)
    where
      there : set.contains s k ≡ true
      there = run k le (omega arith)

      from : (q : ℕ) → set.contains s q ≡ true → least ≤ q
      from q is = elim (cases_lt q least) [ inl under ↦ absurd (true≢false (sym is ∙ (lowest_run s k there).starts.none_before q (omega arith) under)) | inr ge ↦ ge ]

      low : least ≤ k
      low = from k there

      past : k < end
      past = elim (cases_lt k end) [ inl lt ↦ lt | inr ge ↦ absurd (true≢false (sym (run end (omega (arith, lt)) ge) ∙ (lowest_run s k there).ends.missing)) ]

      member : (q : ℕ) (b : Bool) → set.contains s q ≡ b → b ≡ is_within least (k + 1) q
      member q true is = (let ge = from q is in let under = top q is in grind (arith, nat_tests, ge, under))
      member q false is =
          elim (cases_lt q least) [
            | inl under ↦ grind (arith, nat_tests, under)
            | inr ge ↦ elim (cases_lt k q) [
              | inl over ↦ grind (arith, nat_tests, over)
              | inr within ↦ absurd (true≢false (sym ((lowest_run s k there).ends.all_before q ge (omega (arith, past, within))) ∙ is))
            ]
          ]

      same : s ≡ set_of ((least, k + 1) ∷ [])
      same = same_numbers s (set_of ((least, k + 1) ∷ [])) (λ q. (let is = member q (set.contains s q) refl in let listed = contains-set_of ((least, k + 1) ∷ []) q in grind (arith, is, listed)))

  end_low : has_too_many s ≡ true → lowest_end s ≤ lo
  end_low many =
      let is : lowest_end s ≡ end = lowest_end_is s (least, end) (lowest_run s k (run k le (omega arith))) in
      elim (cases_lt lo end) [
        | inl lt ↦ absurd (true≢false (sym many ∙ one_run lt))
        | inr ge ↦ omega (arith, is, ge)
      ]

  kept_by : (b : Bool) → has_too_many s ≡ b → (j : ℕ) → lo ≤ j → j ≤ k → set.contains (cond b (set.difference s (numbers 0 (lowest_end s))) s) j ≡ true
  kept_by true many j ge under = (let low = end_low many in cut-kept s (lowest_end s) j (run j ge under) (omega (arith, low, ge)))
  kept_by false few j ge under = run j ge under

module _ (e : End) (lo k : ℕ) (asks : Bool) (le : lo ≤ k) (below : (j : ℕ) → set.contains e.done j ≡ true → j < k) (run : (j : ℕ) → lo ≤ j → j < k → set.contains e.done j ≡ true) where
  top : (j : ℕ) → set.contains (set.insert e.done k) j ≡ true → j ≤ k
  top j is = elim (insert-cases e.done k j is) [ inl same ↦ omega (arith, same) | inr old ↦ (let lt = below j old in omega (arith, lt)) ]

  longer : (j : ℕ) → lo ≤ j → j ≤ k → set.contains (set.insert e.done k) j ≡ true
  longer j ge under = elim (cases_lt j k) [ inl lt ↦ insert-old e.done k j (run j ge lt) | inr over ↦ (let same : k ≡ j = omega (arith, under, over) in subst (λ x. set.contains (set.insert e.done k) x ≡ true) same (insert-new e.done k)) ]

  -- the numbers of the run stay, with the new one
  pub top_run_stays : (j : ℕ) → lo ≤ j → j ≤ k → set.contains (recorded k asks e).done j ≡ true
  top_run_stays = kept_by (set.insert e.done k) lo k le top longer (has_too_many (set.insert e.done k)) refl
