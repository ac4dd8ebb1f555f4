-- Each clause of what agrees excludes something; and what the premises of a run leave out, and what they let in.
use Rattle.std.proofs.Common.{◌≡◌, ℕ, ◌+◌, ◌≤◌, List, [], ◌∷◌, ◌++◌, ◌⊎◌, inl, inr, length, take, slice_get, Bool, true, false, cond, ◌&&◌, ◌==◌, Some, Ok, Err, refl, sym, ap, ◌∙◌, arith, subst}
use Rattle.std.specs.FinSet as set
use Rattle.std.specs.List.{AllByRecursion}
use Rattle.std.proofs.lemmas.Option.{same_Some, none-some}
use Rattle.std.proofs.lemmas.Bool.{both_ways, false≢true}
use Rattle.std.proofs.lemmas.Bool.Decides.{nat_tests}
use Rattle.qs_ranges.specs.Numbers.{contains-numbers, numbers}
use Rattle.qs_ranges.proofs.Sets.{end_of-empty, missing_from-of}
use Rattle.qs_wire.specs.Layout.{ping, max_data}
use Rattle.qs_wire.specs.Varint.{varint_at, short_len}
use Rattle.qs_wire.specs.Reading.{reading_from, frames_at, frame_at, number_of_type_at, body_at, number_at, counted_at, plain_at}
use Rattle.qs_wire.specs.declared.stream_id.Dir.TheVariants.{Bidi}
use Rattle.qs_recv.specs.Lane.{RecvLane}
use Rattle.qs_recv.specs.declared.half.Peek.{Peek}
use Rattle.qs_recv.specs.declared.half.Peek.TheVariants as kinds
use Rattle.qs_send.specs.Lane.{SendLane, state, unacked_from, declared_size}
use Rattle.qs_send.specs.Records.{Among}
use Rattle.qs_send.specs.declared.parts.Reset.{Reset}
use Rattle.qs_send.specs.declared.parts.SendState.TheVariants.{DataRecvd, DataSent}
use Rattle.qs_send.specs.declared.piece.Item.TheVariants.{MaxData, DataBlocked, StreamsBlocked, StreamDataBlocked}
use Rattle.qs_calls.specs.declared.closing.Received.TheVariants.{NoMemory}
use Rattle.qs_calls.specs.declared.closing.NotedClose.{NotedClose}
use Rattle.qs_calls.specs.declared.token.TakeFault.TheVariants as faults
use Rattle.qs_calls.specs.declared.event.Side.{Side}
use Rattle.qs_calls.specs.declared.event.Side.TheVariants.{A, B}
use Rattle.qs_machine.specs.Tables.{lookup, total}
use Rattle.qs_machine.specs.Ends.{End}
use Rattle.qs_machine.specs.Credit.{spent}
use Rattle.qs_machine.specs.Seen.{Seen, Control, Plain}
use Rattle.qs_machine.specs.Plains.{frames_in, but_plain}
use Rattle.qs_machine.specs.SmallEnds.{server_with, abc, sent, fresh, all_came}
use Rattle.qs_machine.specs.EndStep.{Receive, TakeFrames}
use Rattle.qs_runs.specs.Logs.{History, other, effects, written, read, shown, payload, taken, was_noted_closed, must_land, HasMade, HasLanded}
use Rattle.qs_runs.specs.Worlds.{World, IsPayload, May}
use Rattle.qs_runs.specs.Agree.{IsPrefixOf, ShownAgrees, IsOld}
use Rattle.qs_runs.specs.Examples.{wrote, got, looked}
use Rattle.qs_runs.specs.Exclusions.{ReadIsNoPrefix, LooksAreOther, WholeIsMissing, SizesDiffer, WorldsDiffer, NewsIsNotOld, StepsSpend, two_frames, sent_two, took, came_as, PayloadsThatCome, closing, ClosesThatCome, FramesThatCome, TokensThatAreAcked, OtherSteps, blocked, BlockedFramesLand, OtherBytesCome, LimitsAreAbove, NoneBegin, Exclusions, acknowledged, first_of_three}
use Rattle.qs_runs.proofs.Wire.{ping_seen}

prefix : ReadIsNoPrefix (97 ∷ 120 ∷ [])
unfolding effects
prefix = grind (arith, nat_tests)

-- Bytes that a look shows, whatever happened before it
module _ (peek : Peek) (bs : List ℕ) (is : shown B 0 (looked B peek ∷ []) ≡ bs) where
  shows : (h : History) → shown B 0 (looked B peek ∷ h) ≡ bs
  shows h = go peek is
    where
      go : (x : Peek) → shown B 0 (looked B x ∷ []) ≡ bs → shown B 0 (looked B x ∷ h) ≡ bs
      go (kinds.Bytes front back) e = e
      go kinds.End e = e
      go (kinds.Reset code) e = e
      go kinds.Wait e = e

  follows : (h : History) → ShownAgrees (looked B peek ∷ h) A 0 → IsPrefixOf (read B 0 (looked B peek ∷ h) ++ bs) (written A 0 (looked B peek ∷ h))
  follows h agrees = subst (λ xs. IsPrefixOf (read B 0 (looked B peek ∷ h) ++ xs) (written A 0 (looked B peek ∷ h))) (shows h) agrees.follows

looks : (peek : Peek) → LooksAreOther (97 ∷ 120 ∷ []) peek
unfolding effects
looks peek =
    record {
      other_byte = λ is agrees. (
          let (rest, e) = follows peek _ is (wrote A abc 3 ∷ []) agrees in
          let same : 120 ≡ 98 = same_Some 120 98 (ap (λ xs. slice_get xs 1) e) in omega (arith, same)
          );
      more = λ is agrees. (let (rest, e) = follows peek _ is (wrote A abc 2 ∷ []) agrees in none-some 99 (sym (ap (λ xs. slice_get xs 2) e)));
      again = λ is agrees. (let (rest, e) = follows peek _ is (got B abc ∷ wrote A abc 3 ∷ []) agrees in none-some 97 (sym (ap (λ xs. slice_get xs 3) e)));
      taken = λ is agrees. other_taken (shown B 0 (looked B peek ∷ [])) is agrees;
      read = λ is agrees. other_taken (shown B 0 (looked B peek ∷ [])) is agrees;
      read_before = refl;
    }
  where
    other_taken : (bs : List ℕ) → bs ≡ abc → take 2 bs ≡ take (length bs) (97 ∷ 120 ∷ []) → ⊥
    other_taken bs is same =
        let e : take 2 abc ≡ take 3 (97 ∷ 120 ∷ []) = subst (λ xs. take 2 xs ≡ take (length xs) (97 ∷ 120 ∷ [])) is same in
        let one : 98 ≡ 120 = same_Some 98 120 (ap (λ xs. slice_get xs 1) e) in omega (arith, one)

-- all was acknowledged
all_acked : unacked_from acknowledged ≡ 3
all_acked =
    sym (missing_from-of (numbers 0 3) 0 3 (record {
      from = omega arith;
      missing = contains-numbers 0 3 3;
      all_before = λ q low high. contains-numbers 0 3 q ∙ (grind (arith, nat_tests));
    }))

received : state acknowledged ≡ DataRecvd
received = ap (λ n. cond ((n == 3) && true) DataRecvd DataSent) all_acked

whole : WholeIsMissing
unfolding effects lookup
whole =
    record {
      unopened = λ h. (let (r, at, size, all) = h acknowledged refl received in none-some r at);
      offset = λ h. (let (r, at, size, all) = h acknowledged refl received in both_ways _ (contains-numbers 0 1 1) (ap (λ (k : RecvLane). set.contains k.arrived.received 1) (same_Some first_of_three r at) ∙ all 1 (omega arith)));
      unsized = λ h. (let (r, at, size, all) = h acknowledged refl received in none-some _ (ap (λ (k : RecvLane). k.final_size) (same_Some _ r at) ∙ size));
      other_size = λ h. (let (r, at, size, all) = h acknowledged refl received in let e : ◌≡◌ {A = ℕ} 3 2 = same_Some _ _ (ap (λ (k : RecvLane). k.final_size) (same_Some _ r at) ∙ size) in omega (arith, e));
    }

final_sizes : SizesDiffer
unfolding lookup
final_sizes =
    record {
      unopened = λ h. (let (l, at, size) = h.size all_came 3 refl refl in none-some l at);
      undeclared = λ h. (let (l, at, size) = h.size all_came 3 refl refl in none-some 3 (ap declared_size (same_Some sent l at) ∙ size));
      other_size = λ h. (let (l, at, size) = h.size all_came 3 refl refl in let e : 2 ≡ 3 = same_Some 2 3 (ap declared_size (same_Some _ l at) ∙ size) in omega arith);
      other_code = λ h. (
          let (l, size, at, reset) = h.code (record all_came { reset_code = Some 8 }) 8 refl refl in
          let e : 7 ≡ 8 = ap (λ (r : Reset). r.code) (same_Some _ _ (ap (λ (k : SendLane). k.was_reset) (same_Some _ l at) ∙ reset)) in omega arith
          );
    }

worlds : WorldsDiffer
unfolding total
worlds =
    record {
      credit = λ h agree. (let le : 3 ≤ 0 = agree.credit B in omega arith);
      client_closed = λ h closing untold agree. elim (agree.stays_open A untold) [ inl none ↦ none-some _ (sym none) | inr (told, code, is) ↦ absurd (cc is) ];
      server_closed = λ h untold peer agree. elim (agree.stays_open B untold) [ inl none ↦ none-some _ (sym none) | inr (told, code, is) ↦ false≢true (sym peer ∙ told) ];
    }

news : NewsIsNotOld
unfolding lookup
news =
    record {
      offset = λ old. (let (l, at, came) = old.0 1 (omega arith) (omega arith) in both_ways _ (contains-numbers 0 1 1) (ap (λ (k : RecvLane). set.contains k.arrived.received 1) (same_Some first_of_three l at) ∙ came));
      unopened = λ old. (let (l, at, came) = old.0 0 (omega arith) (omega arith) in none-some l at);
      end = λ old. (let (l, at, known) = old.1 refl in known (ap (λ (k : RecvLane). k.final_size) (sym (same_Some fresh l at))));
      reset = λ (l, at, known). known (ap (λ (k : RecvLane). k.final_size) (sym (same_Some fresh l at)));
      nothing = (λ q low high. absurd (omega (arith, low, high)), λ set. absurd (false≢true set));
      came = (λ q low high. (first_of_three, refl, contains-numbers 0 1 q ∙ (grind (arith, nat_tests))), λ set. absurd (false≢true set));
    }

nothing_spent : spent (server_with fresh) ≡ 0
unfolding total
nothing_spent = rw end_of-empty refl

spends : (text : List ℕ) → StepsSpend text
unfolding effects total
spends text =
    record {
      again = λ bytes agrees. (let e : ◌≡◌ {A = ℕ} 1 0 = ap (λ (x : End). length x.recvs.client_bidi) (agrees.again 0 bytes refl refl) in omega (arith, e));
      old_news = λ agrees. three (agrees.old_news (subst (AllByRecursion (IsOld (server_with fresh))) (sym ping_seen) (tt, tt)));
      old_frame = λ agrees. three (agrees.old_news (tt, tt));
      other_call = λ agrees. three (agrees.old_news tt);
    }
  where
    three : ◌≡◌ {A = ℕ} 3 (spent (server_with fresh)) → ⊥
    three e = (let f : ◌≡◌ {A = ℕ} 3 0 = e ∙ nothing_spent in omega (arith, f))

abbrev five : Seen
five = Control (MaxData 5)

abbrev six : Seen
six = Control (MaxData 6)

-- the values of two frames
abbrev value : Seen → ℕ
value (Control (MaxData m)) = m
value f = 0

abbrev first_of : List Seen → ℕ
first_of [] = 0
first_of (f ∷ fs) = value f

abbrev second_of : List Seen → ℕ
second_of [] = 0
second_of (f ∷ []) = 0
second_of (f ∷ g ∷ fs) = value g

abbrev third_of : List Seen → Bool
third_of (f ∷ g ∷ k ∷ fs) = true
third_of fs = false

reads_two : frames_in two_frames ≡ five ∷ six ∷ []
unfolding reading_from frames_at frame_at number_of_type_at body_at number_at varint_at short_len
reads_two = refl

reads_ping : frames_in (1 ∷ two_frames) ≡ Plain true ∷ five ∷ six ∷ []
unfolding reading_from frames_at frame_at number_of_type_at body_at number_at varint_at short_len
reads_ping = refl

sent_payload : payload A 0 sent_two ≡ Some two_frames
unfolding effects
sent_payload = refl

-- where the peer was told of no close its payload comes
only_payload : (h : History) (w : World) (s : Side) (k : ℕ) (bytes : List ℕ) → was_noted_closed (other s) h ≡ false → May h w s (Receive k bytes) → IsPayload h (other s) k bytes
only_payload h w s k bytes none h2 = grind (arith, nat_tests)

-- what comes as packet 0 differs from it in plain frames alone
is_two : (w : World) (bytes : List ℕ) → May sent_two w B (Receive 0 bytes) → but_plain (frames_in bytes) ≡ five ∷ six ∷ []
unfolding effects
is_two w bytes m = let (text, is, d) = only_payload sent_two w B 0 bytes refl m in d.same ∙ ap (λ t. but_plain (frames_in t)) (same_Some text two_frames (sym is ∙ sent_payload)) ∙ ap but_plain reads_two

payloads : (w : World) → PayloadsThatCome w
unfolding effects reading_from frames_at frame_at number_of_type_at body_at number_at varint_at short_len counted_at plain_at
payloads w =
    record {
      unmade = λ m. (let (text, is, d) = only_payload [] w B 0 two_frames refl m in none-some text is);
      other_number = λ m. (let (text, is, d) = only_payload sent_two w B 1 two_frames refl m in none-some text is);
      its_own = λ m. (let (text, is, d) = only_payload sent_two w A 0 two_frames refl m in none-some text is);
      left_out = λ m. (let n : ◌≡◌ {A = ℕ} 0 6 = ap second_of (is_two w _ m) in omega (arith, n));
      another = λ m. (let n : ◌≡◌ {A = ℕ} 7 6 = ap second_of (is_two w _ m) in omega (arith, n));
      turned = λ m. (let n : ◌≡◌ {A = ℕ} 6 5 = ap first_of (is_two w _ m) in omega (arith, n));
      closing = λ m. false≢true (sym (ap third_of (is_two w _ m)));
      made = inl (two_frames, refl, record { reads = refl; reads_other = refl; same = refl });
      front = inl (two_frames, refl, record { reads = refl; reads_other = refl; same = refl });
      between = inl (two_frames, refl, record { reads = refl; reads_other = refl; same = refl });
      behind = inl (two_frames, refl, record { reads = refl; reads_other = refl; same = refl });
    }

closes : (w : World) (close : NotedClose) → ClosesThatCome w close
unfolding effects reading_from frames_at frame_at number_of_type_at body_at number_at varint_at short_len counted_at plain_at
closes w close = grind (arith, nat_tests)

-- A frame that stood in the packet is one of the two
module _ (f : Seen) where
  of_two : HasMade sent_two A f → (f ≡ five) ⊎ (f ≡ six)
  unfolding effects
  of_two h = grind (arith, nat_tests, same_Some, reads_two, none-some)

none_of_two : HasMade sent_two A (Control (MaxData 7)) → ⊥
none_of_two m =
    elim (of_two (Control (MaxData 7)) m) [
      | inl is ↦ (let n : ◌≡◌ {A = ℕ} 7 5 = ap value is in omega (arith, n))
      | inr is ↦ (let n : ◌≡◌ {A = ℕ} 7 6 = ap value is in omega (arith, n))
    ]

nothing_made : (s : Side) (f : Seen) → HasMade [] s f → ⊥
unfolding effects
nothing_made s f (k, text, is, among) = none-some text is

not_by_B : (f : Seen) → HasMade sent_two B f → ⊥
unfolding effects
not_by_B f (k, text, is, among) = none-some text is

made_five : HasMade sent_two A five
unfolding effects
made_five = (0, two_frames, refl, subst (Among five) (sym reads_two) (inl refl))

made_six : HasMade sent_two A six
unfolding effects
made_six = (0, two_frames, refl, subst (Among six) (sym reads_two) (inr (inl refl)))

alone : (w : World) → FramesThatCome w
alone w =
    record {
      unmade = λ m. nothing_made A five (m refl);
      another = λ m. none_of_two (m refl);
      its_own = λ m. not_by_B five (m refl);
      one_of = λ m. none_of_two (m.1.1.0 refl);
      made = λ ours. made_six;
      several = (λ ours. made_six, (λ ours. made_five, (λ ours. made_six, tt)));
      own_ping = λ ours. absurd (false≢true ours);
      own_ack = λ ours. absurd (false≢true ours);
      own_crypto = λ offset bytes ours. absurd (false≢true ours);
      own_close = λ code kind reason ours. absurd (false≢true ours);
      among = (λ ours. absurd (false≢true ours), (λ ours. made_five, (λ ours. absurd (false≢true ours), tt)));
    }

-- Tokens

-- both frames of the packet were taken, where it landed
module _ (h : History) (sends : payload A 0 h ≡ Some two_frames) where
  both_taken : HasLanded h A 0 → Among five (taken B h) × Among six (taken B h)
  both_taken h = grind (arith, nat_tests, same_Some, reads_two)

  has_landed : Among five (taken B h) → Among six (taken B h) → HasLanded h A 0
  has_landed a b = (two_frames, sends, λ f among ours. elim (subst (Among f) reads_two among) [ inl is ↦ subst (λ g. Among g (taken B h)) (sym is) a | inr (inl is) ↦ subst (λ g. Among g (taken B h)) (sym is) b | inr (inr z) ↦ absurd z ])

not_one : ◌≡◌ {A = ℕ} 1 0 → ⊥
not_one n = omega (arith, n)

one_taken : Among six (five ∷ []) → ⊥
one_taken h = grind (arith, nat_tests)

two_taken : Among five (six ∷ six ∷ []) → ⊥
two_taken h = grind (arith, nat_tests)

tokens : (w : World) (epoch : w.a.tuning.epoch ≡ 0) → TokensThatAreAcked w epoch
unfolding effects
tokens w epoch =
    record {
      unmade = λ m. (let (text, is, all) = m (sym epoch) 0 refl in none-some text is);
      on_its_way = λ m. (both_taken sent_two refl (m (sym epoch) 0 refl)).0;
      first = λ m. one_taken (both_taken (took (max_data 5 ∷ []) ∷ sent_two) refl (m (sym epoch) 0 refl)).1;
      twice = λ m. two_taken (both_taken (took (max_data 6 ∷ []) ∷ took (max_data 6 ∷ []) ∷ sent_two) refl (m (sym epoch) 0 refl)).0;
      no_memory = λ m. (both_taken (record { end = B; call = TakeFrames (max_data 5 ∷ max_data 6 ∷ []); answer = Err faults.NoMemory } ∷ sent_two) refl (m (sym epoch) 0 refl)).0;
      not_processed = λ m. (both_taken (record { end = B; call = Receive 0 two_frames; answer = Ok NoMemory } ∷ sent_two) refl (m (sym epoch) 0 refl)).0;
      half = λ m. (let (text, is, all) = m (sym epoch) 1 refl in none-some text is);
      each = has_landed (took (max_data 5 ∷ []) ∷ took (ping ∷ max_data 6 ∷ []) ∷ sent_two) refl (inr (inr (inl refl))) (inr (inl refl));
      processed = has_landed (came_as (1 ∷ two_frames) ∷ sent_two) refl (subst (λ fs. Among five (fs ++ [])) (sym reads_ping) (inr (inl refl))) (subst (λ fs. Among six (fs ++ [])) (sym reads_ping) (inr (inr (inl refl))));
      foreign = λ same. absurd (not_one (same ∙ epoch));
    }

-- Other steps

others : (h : History) (v w : World) → OtherSteps h v w
others h v w = grind (arith, nat_tests)

reads_blocked : frames_in blocked ≡ Control (DataBlocked 5) ∷ Control (StreamsBlocked Bidi 6) ∷ Control (StreamDataBlocked 0 7) ∷ []
unfolding reading_from frames_at frame_at number_of_type_at body_at number_at varint_at short_len
reads_blocked = refl

blocked_land : BlockedFramesLand
unfolding effects
blocked_land =
    record {
      all = λ (text, is, all). all (Control (StreamDataBlocked 0 7)) (subst (λ t. Among (Control (StreamDataBlocked 0 7)) (frames_in t)) (same_Some blocked text is) (subst (Among (Control (StreamDataBlocked 0 7))) (sym reads_blocked) (inr (inr (inl refl))))) refl;
      one = (blocked, refl, λ f a land. one f (subst (Among f) reads_blocked a) land);
    }
  where
    one : (f : Seen) → Among f (Control (DataBlocked 5) ∷ Control (StreamsBlocked Bidi 6) ∷ Control (StreamDataBlocked 0 7) ∷ []) → must_land f ≡ true → Among f (Control (StreamDataBlocked 0 7) ∷ [])
    one f (inl is) land = absurd (false≢true (ap must_land (sym is) ∙ land))
    one f (inr (inl is)) land = absurd (false≢true (ap must_land (sym is) ∙ land))
    one f (inr (inr a)) land = a

-- the limit that the first frame tells
abbrev told : List Seen → ℕ
told (Control (MaxData m) ∷ fs) = m
told fs = 0

bytes_come : OtherBytesCome
unfolding reading_from frames_at frame_at number_of_type_at body_at number_at varint_at short_len
bytes_come = grind (arith, nat_tests)

limits : LimitsAreAbove
limits = grind (arith, nat_tests)

begins : NoneBegin
begins = grind (arith, nat_tests)

pub exclusions_hold : Exclusions
exclusions_hold =
    record { prefix = prefix; looks = looks; whole = whole; final_sizes = final_sizes; worlds = worlds; news = news; spent = spends; payloads = payloads; closes = closes; frames = alone; tokens = tokens; blocked = blocked_land; others = others; bytes = bytes_come; limits = limits; begins = begins }
