-- What the definitions exclude of payloads, frames and tokens that come, and of memory.
use Rattle.std.proofs.lemmas.Bool.Decides.{nat_tests}
use Rattle.std.proofs.Common.{◌≡◌, ℕ, zero, suc, ◌+◌, ◌<◌, List, [], ◌∷◌, ◌++◌, take, Bool, true, false, cond, not, ◌&&◌, ◌||◌, nat_lt, Option, Some, None, is_some, refl, sym, ap, ◌∙◌, subst, arith, inl, inr, ◌⊎◌, slice_get}
use Rattle.std.specs.Prelude.{Result, Ok, Err, MatchBool, flat_map}
use Rattle.std.specs.FinMap as fmap
use Rattle.std.specs.FinSet as set
use Rattle.std.specs.Ordering.{nat_cmp, eq_by_cmp}
use Rattle.std.specs.Cmp.{nat_cmp_total, unsigned_tied}
use Rattle.std.proofs.lemmas.Option.{same_Some, none-some}
use Rattle.std.proofs.lemmas.Bool.{true≢false, both_ways, and_right, or_cases, eqb-true, false≢true, false_from_ne_true}
use Rattle.qs_ranges.specs.Numbers.{NumberSet, numbers, is_within, has_predecessor, run_starts, contains-without_range, same_numbers, contains-numbers, contains-with_range}
use Rattle.qs_ranges.proofs.Sets.{end_of-empty, end_of-with_range}
use Rattle.qs_wire.specs.Layout.{PlacedValue, FrameValue, max_data}
use Rattle.qs_wire.specs.declared.fault.WireFault.{WireFault}
use Rattle.qs_recv.specs.declared.half.RecvState.TheVariants.{DataRecvd, SizeKnown}
use Rattle.qs_send.specs.Lane.{new_lane as new_send_lane, state as send_state, SendLane}
use Rattle.qs_send.specs.declared.parts.SendState.TheVariants as sends
use Rattle.qs_send.specs.declared.piece.Piece.{Piece}
use Rattle.qs_send.specs.declared.piece.Piece.TheVariants.{Data}
use Rattle.qs_send.specs.Records.{without_first, IsCarried}
use Rattle.qs_calls.specs.declared.closing.Closing.{Closing}
use Rattle.qs_calls.specs.declared.closing.Received.{Received}
use Rattle.qs_calls.specs.declared.closing.Received.TheVariants.{Done, Duplicate, BelowFloor, PeerClosed}
use Rattle.qs_wire.specs.Reading.{reading_of}
use Rattle.qs_machine.specs.Tables.{lookup, update, open_to, total}
use Rattle.qs_machine.specs.Ends.{End}
use Rattle.qs_machine.specs.Seen.{Seen, Stream, seen, asks_ack}
use Rattle.qs_machine.specs.Credit.{settle}
use Rattle.qs_machine.specs.Verdicts.{verdict}
use Rattle.qs_machine.specs.FrameStep.{frame_taken, frames_taken, acks, named, pieces_of, is_named}
use Rattle.qs_machine.specs.Recording.{has_too_many, lowest_end}
use Rattle.qs_machine.specs.Receiving.{Takes, Stops, TakesPayload}
use Rattle.qs_machine.specs.Examples.{letters}
use Rattle.qs_machine.specs.SmallEnds.{chunk, only, second_acked}
use Rattle.qs_machine.specs.ExclusionsReceiving.{CodesAreThese, NoSuchStop, NothingTookEffect, NoSuchEnd, NoSuchReceipt, AcksAskNothing, RunsAreFew, RepeatsNeedSoundness, AbortsCount, ReportIsOfHighest, NotReceived, ten, flying, evens, closing}
use Rattle.qs_machine.proofs.EveryCall.{not_chosen, by_test}
use Rattle.qs_machine.proofs.Examples.{none_differs, five}
use Rattle.qs_machine.proofs.Named.{filter_nothing}
use Rattle.qs_machine.proofs.RunLaws.{lowest_end_is}
use Rattle.qs_machine.proofs.SmallEndsLaws.{no_member, only_open}
use Rattle.qs_machine.proofs.ExclusionsMaking.{came_whole, whole, ok_is_no_err, not_made}
use Rattle.qs_wire.specs.Grammar.{Fits}
use Rattle.qs_calls.specs.declared.making.LostFault.{LostFault}
use Rattle.qs_calls.specs.declared.making.LostFault.TheVariants as losing
use Rattle.qs_calls.specs.declared.token.Taken.{Taken}
use Rattle.qs_calls.specs.declared.token.Taken.TheVariants.{Took, Unchanged, NotOurs}
use Rattle.qs_calls.specs.declared.token.TakeFault.{TakeFault}
use Rattle.qs_calls.specs.declared.token.TakeFault.TheVariants as faults
use Rattle.qs_calls.specs.declared.token.TokenFault.{TokenFault}
use Rattle.qs_calls.specs.declared.token.TokenFault.TheVariants as tokens
use Rattle.qs_machine.specs.Making.{LoseStep}
use Rattle.qs_machine.specs.Alone.{MayTake, TakesOne, TakesEach, HasFault, after_one, lost_answer, LosesEach}
use Rattle.qs_machine.specs.ExclusionsMaking.{two_flying}
use Rattle.qs_machine.specs.ExclusionsAlone.{NoSuchTake, NoSuchFrameAnswer, NoSuchFramesAnswer, NoSuchToken, NotAlone, past_all, eleven_bytes}
use Rattle.qs_machine.specs.ExclusionsMemory.{NoFrameRunsOut, NoPieceRunsOut, NoOtherEnd, NotRefused}

-- How a payload isn't taken, and which answers aren't given.

codes : CodesAreThese
unfolding verdict frame_taken lookup update open_to total
codes = record { flow_control = rw end_of-empty refl; stream_limit = refl; stream_state = refl; final_size = refl; unused = refl }

pub past_limit : verdict ten (Stream 0 0 (letters 11) false) ≡ Some 0x03
past_limit = codes.flow_control

stops : NoSuchStop
unfolding verdict
stops = grind (arith, nat_tests, none-some, past_limit, same_Some)

is_number : (q k : ℕ) → eq_by_cmp nat_cmp q k ≡ true → q ≡ k
is_number q k is = eqb-true q k (sym (unsigned_tied q k) ∙ is)

-- Want of memory

abbrev three_bytes : List Piece
three_bytes = Data 0 (chunk 0 3 false) ∷ []

-- nothing that is outstanding is named
pub none_named : named flying ((5, 5) ∷ []) ≡ []
none_named i = flat_map (pieces_of false flying.outstanding) (filter_nothing flying.outstanding (is_named ((5, 5) ∷ [])) only_zero i) ++ flat_map (pieces_of true fmap.empty) (filter_nothing fmap.empty (is_named ((5, 5) ∷ [])) none_late i)
  where
    only_zero : (j : ℕ) → is_some (fmap.get flying.outstanding j) ≡ true → is_named ((5, 5) ∷ []) j ≡ false
    only_zero j there = by_test (eq_by_cmp nat_cmp j 0) refl (sym (ap is_some (fmap.get-insert nat_cmp_total fmap.empty 0 three_bytes j)) ∙ there)
      where
        by_test : (b : Bool) → eq_by_cmp nat_cmp j 0 ≡ b → is_some (cond b (Some three_bytes) (fmap.get {R = nat_cmp} fmap.empty j)) ≡ true → is_named ((5, 5) ∷ []) j ≡ false
        by_test true is h = ap (is_named ((5, 5) ∷ [])) (is_number j 0 is)
        by_test false is h = absurd (both_ways _ (ap is_some (fmap.get-empty nat_cmp j)) h)

    none_late : (j : ℕ) → is_some (fmap.get (fmap.empty {X = List Piece} {R = nat_cmp}) j) ≡ true → is_named ((5, 5) ∷ []) j ≡ false
    none_late j there = absurd (both_ways _ (ap is_some (fmap.get-empty nat_cmp j)) there)

take_nothing : {X : Type 0} (m : ℕ) → ◌≡◌ {A = List X} (take m []) []
take_nothing m = grind arith

gone : fmap.get (without_first flying.outstanding 0 (fmap.get flying.outstanding 0)) 0 ≡ None
gone = ap (λ o. fmap.get (without_first flying.outstanding 0 o) 0) (fmap.get-insert nat_cmp_total fmap.empty 0 three_bytes 0) ∙ fmap.get-remove nat_cmp_total flying.outstanding 0 0

out_of_memory : NothingTookEffect
unfolding frame_taken lookup update open_to acks
out_of_memory = grind (arith, nat_tests, none-some, gone, none_named, take_nothing)

-- The processing of frames never ends so

no_duplicate_at : (p : PlacedValue) (f : Seen) (e new : End) → Stops p f e (Ok Duplicate) new → ⊥
no_duplicate_at p f e new h = grind arith

no_duplicate : (number : ℕ) (fault : Option WireFault) (asks : Bool) (e : End) (ps : List PlacedValue) (new : End) → Takes number fault asks e ps (Ok Duplicate) new → ⊥
no_duplicate number None asks e [] new h = h
no_duplicate number (Some fault) asks e [] new h = h
no_duplicate number fault asks e (p ∷ ps) new h =
    elim h [
      | inl stops ↦ no_duplicate_at p (seen p.frame) e new stops
      | inr goes ↦ no_duplicate number fault (asks || asks_ack (seen p.frame)) (frame_taken (seen p.frame) e) ps new goes.1
    ]

not_below_at : (p : PlacedValue) (f : Seen) (e new : End) → Stops p f e (Ok BelowFloor) new → ⊥
not_below_at p f e new h = grind arith

not_below : (number : ℕ) (fault : Option WireFault) (asks : Bool) (e : End) (ps : List PlacedValue) (new : End) → Takes number fault asks e ps (Ok BelowFloor) new → ⊥
not_below number None asks e [] new h = h
not_below number (Some fault) asks e [] new h = h
not_below number fault asks e (p ∷ ps) new h =
    elim h [
      | inl stops ↦ not_below_at p (seen p.frame) e new stops
      | inr goes ↦ not_below number fault (asks || asks_ack (seen p.frame)) (frame_taken (seen p.frame) e) ps new goes.1
    ]

abbrev is_done : Result Received Closing → Bool
is_done (Ok Done) = true
is_done answer = false

abbrev is_below : Result Received Closing → Bool
is_below (Ok BelowFloor) = true
is_below answer = false

abbrev code_of : Result Received Closing → ℕ
code_of (Ok (PeerClosed code)) = code
code_of (Ok received) = 0
code_of (Err closing) = closing.code

-- what comes of a number that is kept, and of another one
abbrev IsRepeat : Result Received Closing → End → End → Type 0
IsRepeat answer new old = (answer ≡ Ok Duplicate) × (new ≡ old)

abbrev IsTaken : ℕ → List ℕ → Result Received Closing → End → End → Type 0
IsTaken number payload answer new old = (mid : End) × TakesPayload number payload old answer mid × (new ≡ settle mid)

receipts : NoSuchReceipt
receipts =
    record {
      closed = λ payload new h. ok_is_no_err _ _ h.0;
      other_closing = λ payload new h. (let e : 6 ≡ 3 = ap code_of h.0 in omega arith);
      other_peer = λ payload new h. (let e : 8 ≡ 7 = ap code_of h.0 in omega arith);
      below = λ payload new h. true≢false (ap is_done h.0);
      at_floor = λ payload new h. by_test ⊥ (set.contains set.empty 5) (IsRepeat (Ok BelowFloor) new (record ten { floor = 5 })) (IsTaken 5 payload (Ok BelowFloor) new (record ten { floor = 5 })) h
          (λ repeat. true≢false (ap is_below repeat.0))
          (λ (mid, takes, after). not_below 5 (reading_of payload).fault false (record ten { floor = 5 }) (reading_of payload).left mid takes);
      twice = λ payload new h. true≢false (ap is_done (subst (λ b. MatchBool b (IsRepeat (Ok Done) new (record ten { done = set.insert set.empty 4 })) (IsTaken 4 payload (Ok Done) new (record ten { done = set.insert set.empty 4 }))) (set.contains-insert nat_cmp_total set.empty 4 4) h).0);
      once = λ payload new h. once_taken payload new (subst (λ b. MatchBool b (IsRepeat (Ok Duplicate) new ten) (IsTaken 4 payload (Ok Duplicate) new ten)) (set.contains-empty nat_cmp 4) h);
    }
  where
    once_taken : (payload : List ℕ) (new : End) → IsTaken 4 payload (Ok Duplicate) new ten → ⊥
    once_taken payload new (mid, takes, after) = no_duplicate 4 (reading_of payload).fault false ten (reading_of payload).left mid takes

asks : AcksAskNothing
asks = record { alone = refl; padded = refl; beside = refl }

-- Runs of even numbers

evens_have : (n q : ℕ) → set.contains (evens n) q ≡ true → (j : ℕ) × (j < n) × (q ≡ j + j)
evens_have zero q is = absurd (no_member q is)
evens_have (suc n) q is =
    elim (or_cases _ _ (sym (set.contains-insert nat_cmp_total (evens n) (n + n) q) ∙ is)) [
      | inl here ↦ (n, omega arith, is_number q (n + n) here)
      | inr before ↦ (let (j, lt, e) = evens_have n q before in (j, omega (arith, lt), e))
    ]

evens_at : (n j : ℕ) → j < n → set.contains (evens n) (j + j) ≡ true
evens_at zero j lt = absurd (omega (arith, lt))
evens_at (suc n) j lt = set.contains-insert nat_cmp_total (evens n) (n + n) (j + j) ∙ by_test (λ less. evens_at n j less) (eq_by_cmp nat_cmp (j + j) (n + n)) refl
  where
    by_test : (j < n → set.contains (evens n) (j + j) ≡ true) → (b : Bool) → eq_by_cmp nat_cmp (j + j) (n + n) ≡ b → (b || set.contains (evens n) (j + j)) ≡ true
    by_test before b is = grind arith

not_at : (n q : ℕ) → ((j : ℕ) → j < n → q ≡ j + j → ⊥) → set.contains (evens n) q ≡ false
not_at n q none = false_from_ne_true _ (λ is. let (j, lt, e) = evens_have n q is in none j lt e)

evens_len : (n : ℕ) → set.len (evens n) ≡ n
evens_len zero = set.len-empty nat_cmp
evens_len (suc n) =
    set.len-insert nat_cmp_total (evens n) (n + n) ∙ ap (λ b. cond b (set.len (evens n)) (set.len (evens n) + 1)) (not_at n (n + n) (λ j lt e. omega (arith, lt, e)))
    ∙ ap (λ k. k + 1) (evens_len n) ∙ omega arith

-- each starts a run
all_start : (n : ℕ) → run_starts (evens n) ≡ evens n
all_start n = same_numbers _ _ (λ q. set.contains-retain (evens n) (λ k. not (has_predecessor (evens n) k)) q (λ x e. ap (λ k. not (has_predecessor (evens n) k)) (sym (set.nat_cmp-IsAntisymmetric q x e))) ∙ by_test q (set.contains (evens n) q) refl)
  where
    none_before : (q : ℕ) → set.contains (evens n) q ≡ true → has_predecessor (evens n) q ≡ false
    none_before zero is = refl
    none_before (suc q) is = (let (j, lt, e) = evens_have n (suc q) is in not_at n q (λ k less f. omega (arith, e, f)))

    by_test : (q : ℕ) (b : Bool) → set.contains (evens n) q ≡ b → (b && not (has_predecessor (evens n) q)) ≡ b
    by_test q true is = ap not (none_before q is)
    by_test q false is = refl

too_many : (n : ℕ) → has_too_many (evens n) ≡ nat_lt 32 n
unfolding has_too_many
too_many n = ap (nat_lt 32) (ap set.len (all_start n) ∙ evens_len n)

lowest : (n : ℕ) → 0 < n → lowest_end (evens n) ≡ 1
lowest n some =
    lowest_end_is (evens n) (0, 1) (record {
      starts = record { from = omega arith; member = evens_at n 0 some; none_before = λ k low high. absurd (omega (arith, high)) };
      ends = record {
        from = omega arith;
        missing = not_at n 1 (λ j lt e. omega (arith, e));
        all_before = λ k low high. subst (λ m. set.contains (evens n) m ≡ true) (omega (arith, high)) (evens_at n 0 some);
      };
    })

-- the numbers that are kept, where these would be
abbrev left : ℕ → Bool → NumberSet
left n b = cond b (set.difference (evens n) (numbers 0 (lowest_end (evens n)))) (evens n)

runs : RunsAreFew
runs =
    record {
      thirty_two = ap (λ b. set.contains (left 32 b) 0) (too_many 32) ∙ evens_at 32 0 (omega arith);
      thirty_three =
          ap (λ b. set.contains (left 33 b) 0) (too_many 33)
          ∙ contains-without_range (evens 33) 0 (lowest_end (evens 33)) 0
          ∙ ap (λ k. set.contains (evens 33) 0 && not (is_within 0 k 0)) (lowest 33 (omega arith))
          ∙ and_right _ false refl;
      second =
          ap (λ b. set.contains (left 33 b) 2) (too_many 33)
          ∙ contains-without_range (evens 33) 0 (lowest_end (evens 33)) 2
          ∙ ap (λ k. set.contains (evens 33) 2 && not (is_within 0 k 2)) (lowest 33 (omega arith))
          ∙ ap (λ b. b && true) (evens_at 33 1 (omega arith));
      floor = ap (λ b. cond b (lowest_end (evens 33)) 0) (too_many 33) ∙ lowest 33 (omega arith);
    }

ends : NoSuchEnd
ends =
    record {
      bytes_follow = λ fault new h. h;
      no_memory = λ fault new h. h;
      all_read = λ code new h. h;
      kept = λ new h none. both_ways _ none (ap (λ (e : End). set.contains e.done 0) h ∙ ap (λ b. set.contains (left 1 b) 0) (too_many 1) ∙ evens_at 1 0 (omega arith));
      unkept = λ new h is. no_member 0 (ap (λ (e : End). set.contains e.done 0) (sym h.0) ∙ is);
    }

aborts : AbortsCount
aborts = grind (arith, nat_tests, end_of-with_range, end_of-empty, whole)

report : ReportIsOfHighest
unfolding frame_taken lookup update open_to
report i =
    Some (record {
      send = Some (record { state = ready i; written = 0; final_size = None; reset_code = None; limit = 1024 });
      recv = Some (record { state = ap (λ b. cond b DataRecvd SizeKnown) (came_whole 5) i; read_count = 0; highest = 5; limit = 1024; final_size = Some 5; reset_code = None; stop_code = None });
    })
  where
    ready : send_state (new_send_lane 0 1024 2048) ≡ sends.Ready
    ready = not_chosen (_ && false) sends.DataRecvd sends.Ready (and_right _ false refl)

repeats : RepeatsNeedSoundness
unfolding verdict frame_taken frames_taken lookup update open_to total
repeats = grind (arith, nat_tests, end_of-empty, none_differs, five)

pub not_received : NotReceived
not_received = record { codes = codes; stops = stops; out_of_memory = out_of_memory; ends = ends; receipts = receipts; asks = asks; runs = runs; aborts = aborts; report = report; repeats = repeats }

-- How a frame isn't taken alone, and what isn't told by tokens.

-- the value has no text
unspelled : Fits past_all → ⊥
unspelled fits = omega (arith, fits)

-- the code of a fault
of_eleven : (code : ℕ) → HasFault ten eleven_bytes code → code ≡ 3
of_eleven code h = grind (arith, nat_tests, same_Some, past_limit)

of_past_all : (code : ℕ) → HasFault ten past_all code → code ≡ 7
of_past_all code h = grind arith

of_max_data : (code : ℕ) → HasFault ten (max_data 5000) code → ⊥
unfolding verdict
of_max_data code h = grind arith

take_of_frames : NoSuchTake
unfolding verdict frame_taken
take_of_frames = grind (arith, nat_tests, none-some, past_limit, unspelled, of_past_all, of_max_data, of_eleven)

abbrev fault_in : Result Taken TakeFault → Option TakeFault
fault_in (Ok taken) = None
fault_in (Err fault) = Some fault

abbrev is_took : Result Taken TakeFault → Bool
is_took (Ok Took) = true
is_took r = false

frame : NoSuchFrameAnswer
frame = grind arith

-- what is answered of a frame that was taken
was_taken : (e : End) (f : FrameValue) (one : Taken) (new : End) → TakesOne e f (Ok one) new → MayTake e f × (new ≡ frame_taken (seen f) e)
was_taken e f one new h = grind arith

-- a limit that no text has takes no effect behind another frame
behind : (mid : End) (one : Taken) (later : Result Taken TakeFault) (new : End) → TakesEach (past_all ∷ []) mid later new → ◌≡◌ {A = Result Taken TakeFault} (Ok Took) (after_one one later) → ⊥
behind mid one later new h took = grind arith

-- and the frame before it has its effect
stays : (mid : End) (later : Result Taken TakeFault) (new : End) → TakesEach (past_all ∷ []) mid later new → new.known_data ≡ mid.known_data
stays mid later new h = grind arith

no_first : (fault : TakeFault) (new : End) → TakesOne ten (max_data 5000) (Err fault) new → ⊥
no_first (faults.Closing closing) new one = of_max_data closing.code one.0
no_first faults.NoMemory new one = one.1.1
no_first (faults.PeerClosed code) new one = one

-- a frame that was taken is of these kinds, whatever comes behind it
after_took : (e : End) (f : FrameValue) (one : Taken) (mid : End) (later : Result Taken TakeFault) → TakesOne e f (Ok one) mid → ◌≡◌ {A = Result Taken TakeFault} (Ok NotOurs) (after_one one later) → ⊥
after_took e f one mid later h is = grind arith

abbrev is_same : Result Taken TakeFault → Bool
is_same (Ok Unchanged) = true
is_same r = false

-- where a limit rises behind other frames, something changed
changed_last : (mid : End) (one : Taken) (later : Result Taken TakeFault) (new : End) → mid.known_data ≡ 4096 → TakesEach (max_data 5000 ∷ []) mid later new → ◌≡◌ {A = Result Taken TakeFault} (Ok Unchanged) (after_one one later) → ⊥
unfolding frame_taken
changed_last mid one later new at h same = grind arith

-- a limit that rises before other frames changed something
changed_first : (mid : End) (one : Taken) (later : Result Taken TakeFault) → TakesOne ten (max_data 5000) (Ok one) mid → ◌≡◌ {A = Result Taken TakeFault} (Ok Unchanged) (after_one one later) → ⊥
changed_first mid Took (Ok later) h is = false≢true (sym (ap is_same is))
changed_first mid Took (Err fault) h is = none-some fault (ap fault_in is)
changed_first mid Unchanged later h is = take_of_frames.raised mid h
changed_first mid NotOurs later h is = absurd h

-- and one that rises no limit changed nothing
changed_none : (mid : End) (one : Taken) (later : Result Taken TakeFault) → TakesOne ten (max_data 4000) (Ok one) mid → later ≡ Ok NotOurs → ◌≡◌ {A = Result Taken TakeFault} (Ok Took) (after_one one later) → ⊥
changed_none mid Took later h none is = take_of_frames.not_raised mid h
changed_none mid Unchanged later h none is = false≢true (sym (ap is_took (is ∙ ap (after_one Unchanged) none)))
changed_none mid NotOurs later h none is = absurd h

frames : NoSuchFramesAnswer
unfolding frame_taken
frames = grind (arith, nat_tests, unspelled, was_taken, false≢true, behind, stays, no_first, after_took, none-some, changed_first, changed_last, changed_none)

-- Tokens

abbrev noted_fault : Result (Unit {0}) TokenFault → Option TokenFault
noted_fault (Ok done) = None
noted_fault (Err fault) = Some fault

abbrev is_memory : Result (Unit {0}) TokenFault → Bool
is_memory (Err tokens.NoMemory) = true
is_memory answer = false

-- no declared loss is answered so
not_given : (declared : Result (Unit {0}) LostFault) → ◌≡◌ {A = Result (Unit {0}) TokenFault} (Err tokens.NotGiven) (lost_answer declared) → ⊥
not_given declared is = grind arith

lost_part : (declared : Result (Unit {0}) LostFault) (new : End) → LoseStep two_flying 0 declared new → ◌≡◌ {A = Result (Unit {0}) TokenFault} (Ok tt) (lost_answer declared) → IsCarried new.outstanding (Data 0 (chunk 0 3 false)) → ⊥
lost_part (Ok done) new lose is carried = not_made.losses.in_part new lose carried
lost_part (Err losing.NotOutstanding) new lose is carried = not_made.losses.known new lose
lost_part _ new lose is carried = none-some _ (ap noted_fault is)

lost_whole : (declared : Result (Unit {0}) LostFault) (new : End) → LoseStep two_flying 0 declared new → ◌≡◌ {A = Result (Unit {0}) TokenFault} (Err tokens.NoMemory) (lost_answer declared) → fmap.get new.outstanding 0 ≡ None → ⊥
lost_whole (Err losing.NoMemory) new lose is none = not_made.losses.whole new lose none
lost_whole (Err losing.Closed) new lose is none = false≢true (sym (ap is_memory is))
lost_whole _ new lose is none = none-some _ (sym (ap noted_fault is))

-- a packet that isn't outstanding changes nothing
none_there : (e : End) (k : ℕ) (declared : Result (Unit {0}) LostFault) (new : End) → fmap.get e.outstanding k ≡ None → LoseStep e k declared new → new ≡ e
none_there e k declared new none step = grind arith

second_is_none : fmap.get two_flying.outstanding 1 ≡ None
second_is_none = fmap.get-insert nat_cmp_total fmap.empty 0 _ 1 ∙ fmap.get-empty nat_cmp 1

part_of_one : (e new : End) → e ≡ two_flying → LosesEach 1 0 e (Ok tt) new → IsCarried new.outstanding (Data 0 (chunk 0 3 false)) → ⊥
part_of_one e new same h carried = grind (arith, nat_tests, lost_part, none-some)

told : NoSuchToken
told =
    record {
      next = λ new step. none-some _ (ap noted_fault step.0);
      next_lost = λ new step. none-some _ (ap noted_fault step.0);
      not_all = λ new step. none-some _ (ap noted_fault step.0);
      not_all_lost = λ new step. none-some _ (ap noted_fault step.0);
      none = λ new step. none-some _ (ap noted_fault step.0);
      none_lost = λ new step. none-some _ (ap noted_fault step.0);
      foreign = λ new step. none-some _ (ap noted_fault step.0);
      foreign_lost = λ new step. none-some _ (ap noted_fault step.0);
      last = λ new step. elim step [ inl done ↦ none-some _ (sym (ap noted_fault done.0)) | inr out ↦ false≢true (ap is_memory out.0) ];
      last_lost = λ new step. elim step [ inl done ↦ none-some _ (sym (ap noted_fault done.2.0)) | inr (fault, (declared, lose, is), same) ↦ not_given declared (same ∙ is) ];
      closed = λ new step. none-some _ (ap noted_fault step.0);
      closed_lost = λ new step. none-some _ (ap noted_fault step.0);
      not_closed = λ new step. elim step [ inl done ↦ none-some _ (sym (ap noted_fault done.0)) | inr out ↦ false≢true (ap is_memory out.0) ];
      in_part = λ new step. part_of_one two_flying new refl step;
      in_part_of_two = λ new step. elim step [
        | inl (mid, (declared, lose, is), later) ↦ part_of_one mid new (none_there two_flying 1 declared mid second_is_none lose) later
        | inr (fault, one, is) ↦ λ carried. none-some _ (ap noted_fault is)
      ];
      whole = λ new step. elim step [ inl done ↦ λ none. none-some _ (sym (ap noted_fault done.2.0)) | inr (fault, (declared, lose, is), same) ↦ lost_whole declared new lose (same ∙ is) ];
    }

pub not_alone : NotAlone
not_alone = record { take = take_of_frames; frame = frame; frames = frames; tokens = told }

-- Where memory isn't asked for, and how a payload doesn't end.

last_came : set.contains (set.union set.empty (numbers 0 3)) 2 ≡ true
last_came = contains-with_range set.empty 0 3 2 ∙ ap (λ b. b || true) (set.contains-empty _ 2)

-- both halves are open
both_open : {X Y U : Type 0} (x : X) (y : Y) → (◌≡◌ {A = Option X} (Some x) None ⊎ (U × ◌≡◌ {A = Option Y} (Some y) None)) → ⊥
both_open x y h = grind arith

frames_of_memory : NoFrameRunsOut
unfolding lookup
frames_of_memory = grind (arith, nat_tests, stops, slice_get, none_named, both_open, none-some, false≢true, both_ways, came_whole, last_came)

not_found : (l : SendLane) → lookup (only second_acked) 4 ≡ Some l → ⊥
unfolding lookup
not_found l at = none-some l at

-- at an end with one open sending half
pieces : NoPieceRunsOut
pieces =
    record {
      past_last = λ h. h;
      max_data = λ h. h;
      max_streams = λ h. h;
      reset = λ h. h;
      data_blocked = λ h. h;
      streams_blocked = λ h. h;
      max_stream_data = λ h. h _ (fmap.get-insert nat_cmp_total fmap.empty 0 _ 0);
      stream_blocked = λ h. h _ (fmap.get-insert nat_cmp_total fmap.empty 0 _ 0);
      stop_sending = λ h. h 1 (omega arith) (omega arith) (set.contains-insert nat_cmp_total set.empty 1 1);
      first_limit = λ v is. none-some v (sym (fmap.get-insert nat_cmp_total fmap.empty 4 _ 0 ∙ fmap.get-empty nat_cmp 0) ∙ is);
      end_alone = λ (l, at, may). absurd (omega (arith, may.0));
      beside = λ (l, at, may). both_ways _ (may.1 1 (omega arith) (omega arith)) (ap (λ (k : SendLane). set.contains k.acked 1) (only_open second_acked l 0 at) ∙ contains-numbers 1 2 1);
      not_open = λ (l, at, may). not_found l at;
    }

ends_of_memory : NoOtherEnd
ends_of_memory =
    record {
      above_kept = λ new h. both_ways _ (h.1 0 (omega arith) (omega arith)) (set.contains-insert nat_cmp_total set.empty 0 0);
      below_kept = λ new h. both_ways _ (h.1 1 (omega arith) (omega arith)) (set.contains-insert nat_cmp_total set.empty 1 1);
      asked = λ new h none. both_ways _ none (ap (λ (e : End). e.ack_due) h);
      duplicate = λ new h. h;
      other_closing = λ fault c new other h. other h.0;
      still_open = λ fault c h. none-some _ (ap (λ (e : End). e.closed) h.1);
    }

pub not_refused : NotRefused
not_refused = record { frames = frames_of_memory; pieces = pieces; ends = ends_of_memory }
