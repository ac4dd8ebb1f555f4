use Rattle.std.proofs.Common.{◌≡◌, ◌∙◌, ◌+◌, ◌-◌, ◌<◌, ◌≤◌, ℕ, true, is_some, sym, ap, arith, inl, inr}
use Rattle.std.specs.FinMap as map
use Rattle.std.proofs.lemmas.Bool.{both_ways, cases_lt}
use Rattle.qs_ranges.specs.Numbers.{end_of}
use Rattle.qs_ranges.proofs.Sets.{below-end_of}
use Rattle.qs_recv.proofs.LawfulLaws.{len_within}
use Rattle.qs_chunks.specs.Chunks.{stored_in}
use Rattle.qs_chunks.proofs.ChunkLaws.{len-stored_in, none_below}
use Rattle.qs_chunks.proofs.chunk_assembly.ChunkAssemblyAssembly.held.Goals as goal

pub returns-clause-bound : goal.returns-clause-bound
returns-clause-bound c =
    let s = c.self.inside in
    let counted = c.self.invariant.counted ∙ sym (len-stored_in s.chunks s.read_count c.self.invariant.ordered) in
    let stands : (q : ℕ) → map.contains_key (stored_in s.chunks) q ≡ true → (s.read_count ≤ q) × (q < s.read_count + (end_of s.received - s.read_count)) = λ q some.
    let below = below-end_of s.received q (c.self.invariant.came q some) in
    let low : s.read_count ≤ q = elim (cases_lt q s.read_count) [ inl read ↦ absurd (both_ways _ (ap is_some (none_below s.chunks s.read_count q c.self.invariant.ordered read)) some) | inr from ↦ from ] in
    (low, omega (arith, below, low)) in
    let within = len_within (end_of s.received - s.read_count) s.read_count (stored_in s.chunks) stands in
    rw (← c.self.view_is) (omega (arith, counted, within))

pub returns-clause-idle : goal.returns-clause-idle
returns-clause-idle c =
    let s = c.self.inside in
    let counted = c.self.invariant.counted ∙ sym (len-stored_in s.chunks s.read_count c.self.invariant.ordered) in
    rw (← c.self.view_is) (λ none. omega (arith, counted, none))

pub returns-clause-room : goal.returns-clause-room
returns-clause-room c =
    let s = c.self.inside in
    let counted = c.self.invariant.counted ∙ sym (len-stored_in s.chunks s.read_count c.self.invariant.ordered) in
    rw (← c.self.view_is) (omega (arith, counted))

pub returns-clause-value : goal.returns-clause-value
returns-clause-value c =
    let s = c.self.inside in
    rw (← c.self.view_is) (c.self.invariant.counted ∙ sym (len-stored_in s.chunks s.read_count c.self.invariant.ordered))
