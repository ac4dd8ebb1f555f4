use Rattle.std.proofs.Common.{arith, inl, inr}
use Rattle.std.proofs.lemmas.Bool.{cases_lt}
use Rattle.qs_chunks.proofs.SpotLaws.{spot_found, all_before, all_around, all_within}
use Rattle.qs_chunks.proofs.chunk_list.ChunkList.find_spot.Goals as goal

pub returns-then-from-end-clause-none : goal.returns-then-from-end-clause-none
returns-then-from-end-clause-none c =
    all_before c.args.self.now c.args.start c.args.end c.place_past-first.result c.end_before-left_end.result c.place_past-first.ensures.within c.place_past-first.ensures.before
    c.end_before-left_end.ensures.none c.end_before-left_end.ensures.end (omega arith)

pub returns-then-saturating_sub-held-clause-none : goal.returns-then-saturating_sub-held-clause-none
returns-then-saturating_sub-held-clause-none c =
    let held = c.inner-after.ensures.held in
    let room = c.saturating_sub.ensures in
    elim (cases_lt c.max-from.result c.min-to.result) [
      | inl some ↦
          all_within c.args.self.now c.args.start c.args.end c.place_past-first.result c.inner-after.result.0 c.max-from.result c.min-to.result
          (spot_found c.args.self.now c.args.start c.args.end c.place_past-first.result c.inner-after.result.0 c.max-from.result c.min-to.result c.end_before-left_end.result c.next_begin.result
          c.requires c.place_past-first.ensures.within c.inner-after.ensures.ordered c.inner-after.ensures.in_bounds c.place_past-first.ensures.before c.place_past-first.ensures.behind
          c.inner-after.ensures.last c.inner-after.ensures.next c.end_before-left_end.ensures.none c.end_before-left_end.ensures.end
          (λ h. let n = c.next_begin.ensures.none h in let f = c.ranges.end.fits in omega (arith, n, f)) c.next_begin.ensures.begin c.max-from.ensures c.min-to.ensures some)
          (omega (arith, held, room))
      | inr none ↦
          all_around c.args.self.now c.args.start c.args.end c.place_past-first.result c.inner-after.result.0 c.end_before-left_end.result c.next_begin.result
          c.place_past-first.ensures.within c.place_past-first.ensures.before c.end_before-left_end.ensures.none c.end_before-left_end.ensures.end
          c.inner-after.ensures.next (λ h. let n = c.next_begin.ensures.none h in let f = c.ranges.end.fits in omega (arith, n, f)) c.next_begin.ensures.begin (omega arith) (omega arith)
    ]

pub returns-then-left_end-from-clause-found : goal.returns-then-left_end-from-clause-found
returns-then-left_end-from-clause-found c =
    spot_found c.args.self.now c.args.start c.args.end c.place_past-first.result c.inner-after.result.0 c.max-from.result c.min-to.result c.end_before-left_end.result c.next_begin.result
    c.requires c.place_past-first.ensures.within c.inner-after.ensures.ordered c.inner-after.ensures.in_bounds c.place_past-first.ensures.before c.place_past-first.ensures.behind
    c.inner-after.ensures.last c.inner-after.ensures.next c.end_before-left_end.ensures.none c.end_before-left_end.ensures.end
    (λ h. let n = c.next_begin.ensures.none h in let f = c.ranges.end.fits in omega (arith, n, f)) c.next_begin.ensures.begin c.max-from.ensures c.min-to.ensures (let room = c.saturating_sub.ensures in omega (arith, room))

pub returns-else-left_end-from-clause-found : goal.returns-else-left_end-from-clause-found
returns-else-left_end-from-clause-found c =
    spot_found c.args.self.now c.args.start c.args.end c.place_past-first.result c.inner-after.result.0 c.max-from.result c.min-to.result c.end_before-left_end.result c.next_begin.result
    c.requires c.place_past-first.ensures.within c.inner-after.ensures.ordered c.inner-after.ensures.in_bounds c.place_past-first.ensures.before c.place_past-first.ensures.behind
    c.inner-after.ensures.last c.inner-after.ensures.next c.end_before-left_end.ensures.none c.end_before-left_end.ensures.end
    (λ h. let n = c.next_begin.ensures.none h in let f = c.ranges.end.fits in omega (arith, n, f)) c.next_begin.ensures.begin c.max-from.ensures c.min-to.ensures (let room = c.saturating_sub.ensures in omega (arith, room))
