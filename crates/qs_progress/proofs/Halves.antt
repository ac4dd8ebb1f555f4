-- What is done of a half stays done, across each of its edits.
use Rattle.std.proofs.Common.{◌≡◌, ℕ, ◌≤◌, Bool, true, ◌||◌, Some, is_some, ◌∙◌, arith}
use Rattle.std.specs.FinSet as set
use Rattle.std.specs.Cmp.{nat_cmp_total}
use Rattle.std.proofs.lemmas.Bool.{cond_both, or_left, or_right}
use Rattle.std.proofs.lemmas.Bool.Decides.{nat_tests}
use Rattle.qs_ranges.specs.Numbers.{NumberSet, numbers, end_of, contains-numbers}
use Rattle.qs_ranges.proofs.Sets.{below-end_of, len_le_of_members}
use Rattle.qs_recv.specs.Assembled.{discard}
use Rattle.qs_recv.specs.Lane.{RecvLane, after_answer, stop, is_over}
use Rattle.qs_recv.specs.declared.half.Read.{Read}
use Rattle.qs_recv.proofs.LawfulLaws.{raised_grows, under_grows}
use Rattle.qs_send.specs.Lane.{SendLane, stop_taken}
use Rattle.qs_machine.proofs.EachHalf.{SendEdit, send_edited, RecvEdit, recv_edited}
use Rattle.qs_progress.proofs.Sums.{le_same}

more_with : (s : NumberSet) (lo hi : ℕ) → set.len s ≤ set.len (set.union s (numbers lo hi))
more_with s lo hi = len_le_of_members s (set.union s (numbers lo hi)) (λ q is. set.contains-union nat_cmp_total s (numbers lo hi) q ∙ or_left _ _ is)

-- what came counts on after a reset
more_below : (s : NumberSet) → set.len s ≤ set.len (numbers 0 (end_of s))
more_below s = len_le_of_members s (numbers 0 (end_of s)) (λ q is. let below = below-end_of s q is in contains-numbers 0 (end_of s) q ∙ grind (arith, nat_tests))

-- Sending halves

abbrev pub is_broken : SendLane → Bool
is_broken l = is_some l.stopped || is_some l.was_reset

abbrev pub SentGrows : SendLane → SendLane → Type 0
SentGrows l m =
    (set.len l.acked ≤ set.len m.acked)
    × (l.fin_acked ≡ true → m.fin_acked ≡ true)
    × (l.reset_acked ≡ true → m.reset_acked ≡ true)
    × (is_broken l ≡ true → is_broken m ≡ true)
    × (l.limit ≤ m.limit)

pub sent_same : (l : SendLane) → SentGrows l l
sent_same l = (le_same (set.len l.acked), λ is. is, λ is. is, λ is. is, le_same l.limit)

pub sent_twice : (l m k : SendLane) → SentGrows l m → SentGrows m k → SentGrows l k
sent_twice l m k a b = (omega (arith, a.0, b.0), λ is. b.1 (a.1 is), λ is. b.2 (a.2 is), λ is. b.3 (a.3 is), omega (arith, a.4, b.4))

sent_stopped : (answers : Bool) (code : ℕ) (l : SendLane) → SentGrows l (stop_taken answers l code)
sent_stopped answers code l = grind (arith, nat_tests)

pub sent_edits : (x : SendEdit) (l : SendLane) → SentGrows l (send_edited x l)
sent_edits x l = grind (arith, nat_tests, cond_both, sent_same, le_same, or_right, sent_stopped, more_with, or_left)

-- Receiving halves

abbrev pub GotGrows : RecvLane → RecvLane → Type 0
GotGrows l m =
    (set.len l.arrived.received ≤ set.len m.arrived.received)
    × (l.arrived.read_count ≤ m.arrived.read_count)
    × (is_some l.final_size ≡ true → is_some m.final_size ≡ true)
    × (is_some l.reset_code ≡ true → is_some m.reset_code ≡ true)
    × (l.reader_done ≡ true → m.reader_done ≡ true)
    × (l.limit ≤ m.limit)

pub got_same : (l : RecvLane) → GotGrows l l
got_same l = (le_same (set.len l.arrived.received), le_same l.arrived.read_count, λ is. is, λ is. is, λ is. is, le_same l.limit)

pub got_twice : (l m k : RecvLane) → GotGrows l m → GotGrows m k → GotGrows l k
got_twice l m k a b = (omega (arith, a.0, b.0), omega (arith, a.1, b.1), λ is. b.2 (a.2 is), λ is. b.3 (a.3 is), λ is. b.4 (a.4 is), omega (arith, a.5, b.5))

got_read : (answer : Read) (size : ℕ) (l : RecvLane) → GotGrows l (after_answer answer l size)
got_read answer size l = grind (arith, nat_tests)

got_stopped : (code : ℕ) (l : RecvLane) → GotGrows l (stop l code)
got_stopped code l = cond_both (is_some l.stop_code || is_over l) l (record l { arrived = discard l.arrived; stop_code = Some code }) (GotGrows l) (λ _. got_same l) (λ _. got_same l)

pub got_edits : (x : RecvEdit) (l : RecvLane) → GotGrows l (recv_edited x l)
got_edits x l = grind (arith, nat_tests, got_stopped, got_read, le_same, under_grows, cond_both, more_with, got_same, more_below, raised_grows)
