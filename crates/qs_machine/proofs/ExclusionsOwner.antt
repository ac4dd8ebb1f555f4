-- What the definitions exclude of the calls of an owner, of its questions, of news, and of what it heard.
use Rattle.std.proofs.Common.{◌≡◌, ℕ, List, [], ◌∷◌, length, Bool, true, false, ◌&&◌, Option, Some, None, refl, sym, ap, ◌∙◌, subst, arith, inl, slice_index, if◌then◌else◌}
use Rattle.std.specs.Prelude.{Result, Ok, Err}
use Rattle.std.specs.FinSet as set
use Rattle.std.specs.Ordering.{nat_cmp}
use Rattle.std.proofs.lemmas.Option.{same_Some, none-some}
use Rattle.std.proofs.lemmas.Bool.{false≢true, true≢false, both_ways}
use Rattle.qs_recv.specs.Lane.{RecvLane, read_answer, noted, stop, stop_and_discard}
use Rattle.qs_recv.specs.declared.half.Read.{Read}
use Rattle.qs_recv.specs.declared.half.Read.TheVariants as reads
use Rattle.qs_send.specs.Lane.{SendLane}
use Rattle.qs_send.specs.declared.parts.Reset.{Reset}
use Rattle.qs_calls.specs.declared.reading.Consumed.{Consumed}
use Rattle.qs_calls.specs.declared.uses.OpenFault.{OpenFault}
use Rattle.qs_calls.specs.declared.uses.OpenFault.TheVariants as opening
use Rattle.qs_calls.specs.declared.uses.UseFault.{UseFault}
use Rattle.qs_calls.specs.declared.uses.UseFault.TheVariants.{NoSuchStream}
use Rattle.qs_machine.specs.Tables.{lookup, update, open_to, each, total}
use Rattle.qs_machine.specs.Ends.{End}
use Rattle.qs_machine.specs.Credit.{recv_ended, send_ended}
use Rattle.qs_machine.specs.FrameStep.{frame_taken}
use Rattle.qs_machine.specs.SmallEnds.{client_with, begun, wrote, reset_half, fresh, server_with, all_came, only, finished, three_came}
use Rattle.qs_machine.specs.ExclusionsOwner.{NoSuchOpening, NoSuchAccepting, NoSuchAcceptingOf, NoSuchSending, NoSuchWriting, NoSuchKeeping, NoSuchReading, LimitsSettle, SetsNoMore, SetsNoMoreOfIt, NotOwned, NoSuchForgetting}
use Rattle.qs_machine.proofs.EveryCall.{not_chosen}
use Rattle.qs_machine.proofs.ExclusionsMaking.{ok_is_no_err, came_whole}
use Rattle.std.proofs.lemmas.Bool.Decides.{nat_tests}
use Rattle.qs_ranges.specs.Numbers.{numbers, missing_from, contains-numbers, contains-with_range, run_starts}
use Rattle.qs_ranges.specs.Runs.{set_of}
use Rattle.qs_ranges.proofs.Edits.{len-run_starts, set_of-is}
use Rattle.qs_ranges.proofs.Sets.{starts_below_end, end_of-empty, missing_from-of}
use Rattle.qs_recv.specs.Assembled.{front, front_of}
use Rattle.qs_recv.specs.News.{tells_something, is_readable}
use Rattle.qs_recv.specs.Peek.{IsFront}
use Rattle.qs_recv.proofs.RingLaws.{get-insert_nat}
use Rattle.qs_machine.specs.Asking.{all_noted}
use Rattle.qs_machine.specs.ExclusionsAsking.{CreditIsSent, RoomIsTaken, UnsentIsNew, AckedInARow, RunsAreNoted, BytesAreTaken, NotAsked, KeptUntilAcked, NoSuchLook, one_stored, two_stored, was_reset}
use Rattle.qs_send.specs.Writable.{is_writable}
use Rattle.qs_machine.specs.News.{IsHeld, IsReadable, HasForPacket}
use Rattle.qs_machine.specs.ExclusionsNews.{NoSuchSearch, NotReadable, NotSendable, NotWritable, NotOver, NotFound}
use Rattle.qs_ranges.specs.declared.NoMemory.{NoMemory}
use Rattle.qs_calls.specs.declared.news.News.{News}
use Rattle.qs_calls.specs.declared.news.News.TheVariants.{Opened, Readable}
use Rattle.qs_machine.specs.Heard.{Hearing, heard_nothing, IsNews, ComesBefore, IsFirstNews, TakesMemory, is_told}
use Rattle.qs_machine.specs.ExclusionsHeard.{heard_one, reset_came, NoNews, NotFirst, NotRefused, NotTaken, NotNoted, NotHeard}
use Rattle.std.proofs.Math.Bool.{and-false}

-- Which answers an end's owner isn't given, and what its calls don't leave.

-- Answers, told apart

abbrev is_blocked : Result ℕ OpenFault → Bool
is_blocked (Err (opening.Blocked count)) = true
is_blocked answer = false

abbrev count_of : Result ℕ OpenFault → ℕ
count_of (Ok n) = n
count_of (Err (opening.Blocked count)) = count
count_of (Err fault) = 0

abbrev number_of : {F : Type 0} → Result ℕ F → ℕ
number_of (Ok n) = n
number_of (Err fault) = 0

abbrev read_of : Result Consumed UseFault → Result Read UseFault
read_of (Ok answer) = Ok answer.read
read_of (Err fault) = Err fault

abbrev told_at : Option RecvLane → Bool
told_at (Some l) = l.reader_done
told_at None = false

openings : NoSuchOpening
openings = grind arith

acceptings : NoSuchAccepting
acceptings = grind arith

acceptings_of : NoSuchAcceptingOf
acceptings_of = grind arith

-- what was written to the first of some halves
abbrev first_written : List SendLane → ℕ
first_written [] = 0
first_written (l ∷ ls) = l.written

abbrev written_of : End → ℕ
written_of e = first_written e.sends.client_bidi

abbrev size_of : Option Reset → ℕ
size_of None = 0
size_of (Some r) = r.size

sendings : NoSuchSending
unfolding lookup update
sendings = grind arith

writings : NoSuchWriting
unfolding lookup update total
writings = grind arith

keepings : NoSuchKeeping
unfolding lookup update total
keepings = grind arith

-- nothing came, so a reader waits
waits : read_answer fresh 10 ≡ reads.Wait
waits = not_chosen _ _ reads.Wait (set.contains-empty nat_cmp 0)

readings : NoSuchReading
unfolding lookup update each
readings = grind (arith, nat_tests, false≢true, same_Some, waits, ok_is_no_err, true≢false, not_chosen)

forgetting : NoSuchForgetting
unfolding lookup update each
forgetting = grind (arith, nat_tests, ok_is_no_err, none-some, same_Some, waits, true≢false, false≢true, came_whole)

settling : LimitsSettle
unfolding frame_taken lookup update open_to each total
settling = record { by_one = refl; of_direction = refl; whole_step = refl; by_two = refl; to_lifetime = refl; one_at_least = refl; stream = refl; ended = refl; connection = refl; early = (refl, refl); quarter = (refl, refl); opened = refl }

sets : SetsNoMore
unfolding frame_taken lookup update open_to each total
sets = grind arith

sets_its : SetsNoMoreOfIt
unfolding lookup update open_to each total
sets_its = grind arith

pub not_owned : NotOwned
not_owned = record {
  opening = openings;
  accepting = acceptings;
  accepting_of = acceptings_of;
  sending = sendings;
  within_credit = writings;
  within_window = keepings;
  reading = readings;
  forgetting = forgetting;
  settling = settling;
  rising = record { lower = refl; open_too = refl; of_type = refl; closed = λ new h. ok_is_no_err _ _ h.0; uncountable = λ new h. ok_is_no_err _ _ h.0 };
  setting = sets;
  setting_its = sets_its;
}

-- What an end that is asked tells, and doesn't count.

credit : CreditIsSent
unfolding total
credit = record { written = refl; sent_three = refl }

taken : RoomIsTaken
unfolding lookup total
taken = record { kept = refl; beyond = refl; within_its = refl; within_all = refl; within_window = refl; beside_other = refl; used_up = refl; last = refl; after_finish = refl; after_reset = refl; unopened = refl; closed = refl }

new : UnsentIsNew
unfolding lookup total
new = record { written = refl; sent_three = refl; after_reset = refl; all_written = refl; all_sent_three = refl; all_after_reset = refl }

kept : KeptUntilAcked
unfolding lookup total
kept = record { written = refl; sent_three = refl; two_acked = refl; after_reset = refl }

two_acked : missing_from (numbers 0 2) 0 ≡ 2
two_acked =
    sym (missing_from-of (numbers 0 2) 0 2 (record {
      from = omega arith;
      missing = grind (arith, nat_tests, contains-numbers 0 2 2);
      all_before = λ q low below. grind (arith, nat_tests, contains-numbers 0 2 q, below);
    }))

none_acked : missing_from (numbers 1 2) 0 ≡ 0
none_acked =
    sym (missing_from-of (numbers 1 2) 0 0 (record {
      from = omega arith;
      missing = grind (arith, nat_tests, contains-numbers 1 2 0);
      all_before = λ q low below. absurd (omega (arith, below));
    }))

acked : AckedInARow
unfolding lookup
acked = record { two = ap (λ n. Some n) two_acked; second = ap (λ n. Some n) none_acked; unopened = refl }

-- three bytes in a row, and three more behind a gap
row : set.union set.empty (numbers 0 3) ≡ set_of ((0, 3) ∷ [])
row = sym (set_of-is ((0, 3) ∷ []) (set.union set.empty (numbers 0 3)) (λ q. grind (arith, nat_tests, contains-with_range set.empty 0 3 q, set.contains-empty nat_cmp q)))

apart : set.union (set.union set.empty (numbers 0 3)) (numbers 5 8) ≡ set_of ((0, 3) ∷ (5, 8) ∷ [])
apart = sym (set_of-is ((0, 3) ∷ (5, 8) ∷ []) (set.union (set.union set.empty (numbers 0 3)) (numbers 5 8)) (λ q. grind (arith, nat_tests, contains-with_range (set.union set.empty (numbers 0 3)) 5 8 q, contains-with_range set.empty 0 3 q, set.contains-empty nat_cmp q)))

one_run : set.len (run_starts (set.union set.empty (numbers 0 3))) ≡ 1
one_run = ap (λ u. set.len (run_starts u)) row ∙ len-run_starts ((0, 3) ∷ []) (omega arith, omega arith, tt)

two_runs : set.len (run_starts (set.union (set.union set.empty (numbers 0 3)) (numbers 5 8))) ≡ 2
two_runs = ap (λ u. set.len (run_starts u)) apart ∙ len-run_starts ((0, 3) ∷ (5, 8) ∷ []) (omega arith, omega arith, (omega arith, omega arith, tt))

of_one : (l : RecvLane) (n : ℕ) → noted l ≡ n → all_noted (server_with l) ≡ n
unfolding total
of_one l n is = omega (arith, is)

runs : RunsAreNoted
runs = grind (arith, nat_tests, of_one, starts_below_end, end_of-empty, row, one_run, two_runs, came_whole)

bytes : BytesAreTaken
unfolding lookup total
bytes = record { read = refl; waiting = refl; after_reset = refl; sum = refl; unopened = refl }

-- nothing came to read
waits_of_questions : (n : ℕ) → tells_something (read_answer fresh n) ≡ false
waits_of_questions n = ap (λ b. tells_something (if b then reads.Bytes (length (front_of fresh.arrived n)) else reads.Wait)) (set.contains-empty nat_cmp 0)

abbrev code_of : Read → ℕ
code_of (reads.Reset code) = code
code_of answer = 0

other_byte : IsFront one_stored (98 ∷ []) → ⊥
unfolding front
other_byte h = grind (arith, nat_tests, get-insert_nat, slice_index)

in_part : IsFront two_stored (97 ∷ []) → ⊥
in_part h = false≢true (sym h.whole ∙ contains-numbers 0 2 1)

looks : NoSuchLook
unfolding lookup
looks = record {
  none_came = λ bytes h. false≢true (sym (waits_of_questions (length bytes)) ∙ ap tells_something h.answer);
  none_shown = λ h. omega (arith, h.some);
  other = other_byte;
  in_part = in_part;
  after_stop = λ bytes h. false≢true (ap tells_something h.answer);
  no_end = λ (none, l, at, is). false≢true (sym (waits_of_questions 1) ∙ ap (λ k. tells_something (read_answer k 1)) (same_Some _ l at) ∙ ap tells_something is);
  after_reset = λ (none, l, at, is). true≢false (ap (λ k. tells_something (read_answer k 1)) (same_Some _ l at) ∙ ap tells_something is);
  other_code = λ (none, l, at, is). (
      let told : reads.Reset 7 ≡ reads.Reset 8 = ap (λ (k : RecvLane). read_answer k 1) (same_Some was_reset l at) ∙ is in
      let e : 7 ≡ 8 = ap code_of told in
      omega (arith, e));
  unopened = λ peek h. none-some _ (sym h.0);
  closed = λ peek h. none-some _ (sym h.0);
  refused = λ fault h. none-some _ h;
}

pub not_asked : NotAsked
not_asked = record { looks = looks; kept = kept; bytes = bytes; runs = runs; credit = credit; taken = taken; new = new; acked = acked }

-- Which streams no search among them answers.

search : NoSuchSearch
search =
    record {
      passed_over = λ h. (let l = h.least 4 (omega arith) refl in none-some l.0 l.1);
      too_low = λ h. (let f = h.found 4 refl in omega (arith, f.0));
      another = λ h. (let f = h.found 8 refl in omega (arith, f.1));
      not_least = λ h. (let l = h.least 4 (omega arith) (omega arith) in let same : 8 ≡ l.0 = same_Some 8 l.0 l.1 in omega (arith, same, l.2));
    }

-- the half of the only stream
pub only_is : {X : Type 0} (P : X → Type 0) (x : X) → IsHeld P (only x) 0 → P x
unfolding lookup
only_is P x (y, at, p) = subst P (sym (same_Some x y at)) p

pub held_by : {X : Type 0} (P : X → Type 0) (x : X) → P x → IsHeld P (only x) 0
unfolding lookup
held_by P x p = (x, refl, p)

no_other : {X : Type 0} (P : X → Type 0) (x : X) → IsHeld P (only x) 4 → ⊥
unfolding lookup
no_other P x (y, at, p) = none-some y at

pub nothing_readable : IsReadable (server_with fresh) 0 → ⊥
nothing_readable h = both_ways (is_readable fresh) (ap tells_something (not_chosen _ _ reads.Wait (set.contains-empty nat_cmp 0))) (only_is (λ l. is_readable l ≡ true) fresh h.1)

readable : NotReadable
readable =
    record {
      nothing_came = nothing_readable;
      told = λ h. false≢true (only_is (λ l. is_readable l ≡ true) (record all_came { reader_done = true }) h.1);
      stopped = λ h. false≢true (only_is (λ l. is_readable l ≡ true) (stop three_came 7) h.1);
      forgotten = λ h. false≢true (only_is (λ l. is_readable l ≡ true) (stop_and_discard all_came 7) h.1);
      closed = λ h. true≢false h.0;
      read_on = λ h. (let (m, found, le) = h.least 0 (omega arith) (refl, held_by (λ l. is_readable l ≡ true) (record fresh { final_size = Some 0; reset_code = Some 7 }) refl) in none-some m found);
      unopened = λ h. no_other (λ l. is_readable l ≡ true) all_came h.1;
    }

sendable : NotSendable
sendable =
    record {
      nothing_written = λ h. nothing begun refl refl (client_with begun) (only_is (HasForPacket (client_with begun) 0) begun h.1);
      past_limit = λ h. held (client_with (record wrote { limit = 0 })) (only_is (HasForPacket (client_with (record wrote { limit = 0 })) 0) (record wrote { limit = 0 }) h.1);
      after_reset = λ h. gone (client_with reset_half) (only_is (HasForPacket (client_with reset_half) 0) reset_half h.1);
      closed = λ h. none-some _ (sym h.0);
    }
  where
    nothing : (l : SendLane) → l.written ≡ 0 → l.finished ≡ false → (e : End) → HasForPacket e 0 l → ⊥
    nothing l none unfinished e h = grind arith

    held : (e : End) → HasForPacket e 0 (record wrote { limit = 0 }) → ⊥
    held e h = grind arith

    gone : (e : End) → HasForPacket e 0 reset_half → ⊥
    gone e h = grind arith

writable : NotWritable
writable =
    record {
      no_room = λ h. false≢true (only_is (λ l. is_writable l ≡ true) (record begun { buffer = 0 }) h.1);
      after_finish = λ h. false≢true (only_is (λ l. is_writable l ≡ true) finished h.1);
      after_reset = λ h. false≢true (only_is (λ l. is_writable l ≡ true) reset_half h.1);
      closed = λ h. none-some _ (sym h.0);
    }

ended : NotOver
ended =
    record {
      sending_alone = λ h. false≢true (only_is (λ l. recv_ended l ≡ true) _ (h.receiving refl));
      receiving_alone = λ h. false≢true (only_is (λ l. send_ended l ≡ true) _ (h.sending refl));
    }

pub not_found : NotFound
not_found = record { search = search; readable = readable; sendable = sendable; writable = writable; ended = ended }

-- What is no news, and what an owner didn't hear by it.

no_and : (b : Bool) → (b && false) ≡ true → ⊥
no_and b is = both_ways _ (and-false b) is

news : NoNews
unfolding lookup
news = grind (arith, nat_tests, true≢false, nothing_readable, false≢true, none-some, same_Some, no_and, only_is)

opens_first : IsNews (server_with all_came) heard_nothing (Opened 0)
opens_first = record { theirs = refl; opened = omega arith; next = refl }

first : NotFirst
first =
    record {
      kept_back = λ h. (let f = h.first (Opened 0) opens_first in none-some f.0 f.1);
      out_of_order = λ h. (let f = h.first (Opened 0) opens_first in f.2 (subst (ComesBefore (Opened 0)) (same_Some (Readable 0) f.0 f.1) (inl (omega arith))));
    }

is_ok : Result (Unit {0}) NoMemory → Bool
is_ok (Ok done) = true
is_ok (Err refused) = false

noted_of_heard : NotNoted
unfolding lookup update open_to is_ok
noted_of_heard = grind (arith, nat_tests, false≢true, is_ok, none-some, nothing_readable, true≢false)

not_taken : NotTaken
unfolding lookup
not_taken = grind (arith, nat_tests, none-some)

-- what comes behind a stream that opened comes behind any that did
behind_opened : (h : Hearing) (news : News) → TakesMemory news h → ComesBefore (Opened 0) news
behind_opened h news takes = grind arith

abbrev marks_one : Hearing
marks_one = record heard_one { readable = only false }

behind_readable : (news : News) → TakesMemory news marks_one → ComesBefore (Readable 0) news
unfolding lookup
behind_readable news takes = grind arith

-- a piece of news before the one that is first
too_early : (e : End) (h : Hearing) (news other : News) → IsFirstNews e h (Some news) → IsNews e h other → ComesBefore other news → ⊥
too_early e h news other is o earlier = (let f = is.first other o in f.2 (subst (ComesBefore other) (same_Some news f.0 f.1) earlier))

reads_first : IsNews (server_with reset_came) marks_one (Readable 0)
unfolding lookup
reads_first = ((refl, held_by (λ l. is_readable l ≡ true) reset_came refl), refl)

refused : NotRefused
unfolding lookup
refused =
    record {
      opened = λ refusal h. (let (news, is, takes) = h.1 in too_early (server_with all_came) heard_nothing news (Opened 0) is opens_first (behind_opened heard_nothing news takes));
      marked = λ refusal h. (let (news, is, takes) = h.1 in too_early (server_with reset_came) marks_one news (Readable 0) is reads_first (behind_readable news takes));
      noted = λ refusal h. true≢false (ap (λ (x : Hearing). is_told x.readable 0) h.0);
    }

pub not_heard : NotHeard
not_heard = record { news = news; first = first; refused = refused; taken = not_taken; noted = noted_of_heard }
