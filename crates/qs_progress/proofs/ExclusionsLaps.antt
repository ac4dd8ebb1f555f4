-- Which small trails are laps, and which aren't.
use Rattle.std.proofs.Common.{◌≡◌, ℕ, ◌+◌, max, false, List, [], ◌∷◌, length, Option, Some, None, nat_cmp, refl, sym, ap, ◌∙◌, subst, arith, inl, inr}
use Rattle.std.proofs.lemmas.Option.{none-some, same_Some}
use Rattle.std.proofs.lemmas.Bool.{false≢true, true≢false, or_left}
use Rattle.std.proofs.lemmas.Bool.Decides.{nat_tests}
use Rattle.std.specs.FinMap as fmap
use Rattle.std.specs.FinSet as set
use Rattle.std.specs.Cmp.{nat_cmp_total}
use Rattle.qs_wire.specs.declared.stream_id.Role.TheVariants.{Server}
use Rattle.qs_send.specs.Lane.{SendLane, reset_acked_lane}
use Rattle.qs_send.specs.Records.{Among}
use Rattle.qs_send.specs.declared.piece.Item.{Item}
use Rattle.qs_send.specs.declared.piece.Item.TheVariants.{MaxData, MaxStreamData, MaxStreams, ResetStream, StopSending, DataBlocked, StreamDataBlocked, StreamsBlocked}
use Rattle.qs_send.proofs.Outstanding.{carried-empty}
use Rattle.qs_wire.specs.declared.stream_id.Dir.TheVariants.{Bidi, Uni}
use Rattle.qs_calls.specs.declared.event.Side.{Side}
use Rattle.qs_calls.specs.declared.event.Side.TheVariants.{A, B}
use Rattle.qs_machine.specs.Tables.{lookup, total, each, update, updated}
use Rattle.qs_machine.specs.Ends.{End, AckedItems, no_items, on_send}
use Rattle.qs_machine.specs.Due.{IsCurrent, IsAcked, IsDueItem}
use Rattle.qs_machine.specs.Acked.{greatest, or_zero, greatest_of}
use Rattle.qs_machine.specs.FrameStep.{item_acked}
use Rattle.qs_machine.specs.News.{IsReadable}
use Rattle.qs_machine.specs.EndStep.{Call, Open, Write, Finish, Reset, Stop, StopAndDiscard, TokenLost, Lose, RaiseLimits, Set, NoteClosed}
use Rattle.qs_machine.specs.Examples.{standard, server}
use Rattle.qs_machine.specs.ExclusionsDue.{held_back, two_of_three}
use Rattle.qs_machine.specs.SmallEnds.{client_with, raised}
use Rattle.qs_machine.proofs.Again.{changed}
use Rattle.qs_machine.proofs.Carried.{get_new, tied_itself}
use Rattle.qs_machine.proofs.Counts.{no_lane}
use Rattle.qs_machine.proofs.SmallEndsLaws.{only_open}
use Rattle.qs_runs.specs.Logs.{Happening, History}
use Rattle.qs_runs.specs.Worlds.{end_of, WorldStep}
use Rattle.qs_rest.specs.Rest.{HasMore, AtRest}
use Rattle.qs_rest.proofs.Exclusions.{exclusions as rest_exclusions}
use Rattle.qs_progress.specs.Laps.{Moment, IsCalm, Trail, Sometime, Lap}
use Rattle.qs_progress.specs.ExclusionsLaps.{ended_half, reads_end, before, after, Follows, MakesNoLap, IsNoLap, GoesOut, LapExclusions}

-- A lap

pub rests : (s : Side) → AtRest (end_of after.ends s)
rests A = rest_exclusions.rests.told_end
rests B = rest_exclusions.rests.new Server

pub none_readable : (s : Side) (n : ℕ) → IsReadable (end_of after.ends s) n → ⊥
none_readable s n h = grind (arith, nat_tests, only_open, false≢true, none-some, no_lane)

pub reads_step : WorldStep before.log before.ends reads_end after.ends
unfolding lookup total each update
reads_step = record { step = (ended_half false, refl, refl, refl, refl); still = refl; may = λ none. tt }

none_made : (s : Side) → (end_of before.ends s).next ≡ 0
none_made s = grind (arith, nat_tests)

reads_lap : Lap before after
reads_lap =
    record {
      moments = after ∷ [];
      calm = ((reads_end, tt, refl, reads_step), refl);
      none_out = λ s k low. absurd (omega (arith, low, none_made s));
      none_to_send = λ s. (after, inl refl, (rests s).quiet);
      none_to_read = λ s. (after, inl refl, record { found = λ n is. absurd (none-some n is); least = λ n from readable. absurd (none_readable s n readable) });
    }

-- No lap

-- a trail logs one thing for each of its moments
logged : (Is : Call → Type 0) (ms : List Moment) (old new : Moment) → Trail Is old ms new → length new.log ≡ length ms + length old.log
logged Is [] old new is =
    let same : length new.log ≡ length old.log = ap (λ (m : Moment). length m.log) is in
    omega (arith, same)
logged Is (m ∷ ms) old new ((x, calm, log, step), rest) =
    let first : length m.log ≡ length (x ∷ old.log) = ap length log in
    let later = logged Is ms m new rest in
    omega (arith, first, later)

abbrev pub first_of : Happening → History → Happening
first_of x [] = x
first_of x (y ∷ h) = y

-- what happened in between was calm, and the last moment is the only one
only_one : (x : Happening) (ms : List Moment) (old new : Moment) → Follows x old new → Trail IsCalm old ms new → IsCalm x.call × (ms ≡ new ∷ [])
only_one x [] old new follows trail =
    let more : length new.log ≡ length (x ∷ old.log) = ap length follows in
    absurd (omega (arith, more, logged IsCalm [] old new trail))
only_one x (m ∷ []) old new follows ((y, calm, log, step), is) =
    let same : y ≡ x = ap (first_of x) (sym log ∙ ap (λ (k : Moment). k.log) (sym is) ∙ follows) in
    (subst (λ (h : Happening). IsCalm h.call) same calm, ap (λ k. k ∷ []) (sym is))
only_one x (m ∷ k ∷ ms) old new follows trail =
    let more : length new.log ≡ length (x ∷ old.log) = ap length follows in
    absurd (omega (arith, more, logged IsCalm (m ∷ k ∷ ms) old new trail))

no_lap : (call : Call) → (IsCalm call → ⊥) → MakesNoLap call
no_lap call none s answer old new follows lap = none (only_one (record { end = s; call = call; answer = answer }) lap.moments old new follows lap.calm).0

module _ (x : Happening) (old new : Moment) (s : Side) (follows : Follows x old new) (lap : Lap old new) where
  no_more : HasMore (end_of new.ends s) → ⊥
  no_more more =
      let (m, among, quiet) = lap.none_to_send s in
      let one = (only_one x lap.moments old new follows lap.calm).1 in
      quiet (subst (λ (k : Moment). HasMore (end_of k.ends s)) (sym (at m (subst (Among m) one among))) more)
    where
      at : (m : Moment) → Among m (new ∷ []) → m ≡ new
      at m h = grind (arith, nat_tests)

  none_unread : (n : ℕ) → IsReadable (end_of new.ends s) n → ⊥
  none_unread n more =
      let (m, among, least) = lap.none_to_read s in
      let one = (only_one x lap.moments old new follows lap.calm).1 in
      let (k, is, low) = least.least n (omega arith) (subst (λ (k : Moment). IsReadable (end_of k.ends s) n) (sym (at m (subst (Among m) one among))) more) in
      none-some k is
    where
      at : (m : Moment) → Among m (new ∷ []) → m ≡ new
      at m h = grind (arith, nat_tests)

nothing_happens : (m : Moment) → Lap m m → ⊥
nothing_happens m lap = go lap.moments lap.calm (lap.none_to_send A)
  where
    go : (ms : List Moment) → Trail IsCalm m ms m → Sometime (λ w. HasMore (end_of w A) → ⊥) ms → ⊥
    go [] trail (k, among, quiet) = among
    go (k ∷ ms) trail none_to_send = omega (arith, logged IsCalm (k ∷ ms) m m trail)

no_laps : IsNoLap
no_laps =
    record {
      number = λ k. no_lap (Lose k) (λ calm. calm);
      token = λ t. no_lap (TokenLost t) (λ calm. calm);
      opens = λ d. no_lap (Open d) (λ calm. calm);
      writes = λ n bytes. no_lap (Write n bytes) (λ calm. calm);
      finishes = λ n. no_lap (Finish n) (λ calm. calm);
      resets = λ n code. no_lap (Reset n code) (λ calm. calm);
      stops = λ n code. no_lap (Stop n code) (λ calm. calm);
      discards = λ n code. no_lap (StopAndDiscard n code) (λ calm. calm);
      raises = λ p. no_lap (RaiseLimits p) (λ calm. calm);
      sets = λ x. no_lap (Set x) (λ calm. calm);
      closes = λ c. no_lap (NoteClosed c) (λ calm. calm);
      outstanding = λ old new s k low there lap. true≢false (sym there ∙ lap.none_out s k low);
      more = λ x old new s follows more lap. no_more x old new s follows lap more;
      unread = λ x old new s n follows more lap. none_unread x old new s follows lap n more;
      nothing = nothing_happens;
    }

-- What goes out

abbrev told : ℕ → End
told m = record raised { acked = record no_items { max_data = Some m } }

-- but the limit nothing is due that wasn't before it was raised
due_before : (i : Item) → IsDueItem (told 5000) i → HasMore (server standard)
due_before i h = grind (arith, nat_tests, none-some, no_lane)

not_again : HasMore (told 5000) → ⊥
not_again h = grind (arith, nat_tests, due_before, none-some, no_lane)

-- where none was, an acknowledged item is so with its value
greatest_first : (o : Option ℕ) (m : ℕ) → o ≡ None → greatest o m ≡ Some m
greatest_first o m none = ap (λ x. greatest x m) none

greatest_of_first : (values : fmap.FinMap nat_cmp ℕ) (n m : ℕ) → values ≡ fmap.empty → fmap.get (greatest_of values n m) n ≡ Some m
greatest_of_first values n m none =
    let first : fmap.get values n ≡ None = ap (λ v. fmap.get v n) none ∙ fmap.get-empty nat_cmp n in
    let least : max 0 m ≡ m = grind (arith, nat_tests) in
    get_new values n (max (or_zero (fmap.get values n)) m) ∙ ap (λ o. Some (max (or_zero o) m)) first ∙ ap Some least

reset_now : (n : ℕ) (e : End) (o : Option SendLane) → lookup e.sends n ≡ o → (l : SendLane) → lookup (updated e.sends n reset_acked_lane o) n ≡ Some l → IsAcked (on_send n reset_acked_lane e) (ResetStream n 0 0)
reset_now n e None is l there = absurd (none-some l (sym is ∙ there))
reset_now n e (Some k) is l there = (reset_acked_lane k, changed e.sends n reset_acked_lane k is, refl)

acked_now : (i : Item) (e : End) → e.acked ≡ no_items → IsCurrent (item_acked i e) i → IsAcked (item_acked i e) i
acked_now (MaxData m) e none is = greatest_first e.acked.max_data m (ap (λ (a : AckedItems). a.max_data) none)
acked_now (MaxStreamData n m) e none is = greatest_of_first e.acked.max_stream_data n m (ap (λ (a : AckedItems). a.max_stream_data) none)
acked_now (MaxStreams Bidi m) e none is = greatest_first e.acked.bidi_streams m (ap (λ (a : AckedItems). a.bidi_streams) none)
acked_now (MaxStreams Uni m) e none is = greatest_first e.acked.uni_streams m (ap (λ (a : AckedItems). a.uni_streams) none)
acked_now (ResetStream n code size) e none (l, there, reset) = reset_now n e (lookup e.sends n) refl l there
acked_now (StopSending n code) e none is = set.contains-insert nat_cmp_total e.acked.stop_sending n n ∙ or_left _ _ (tied_itself n)
acked_now (DataBlocked m) e none is = greatest_first e.acked.data_blocked m (ap (λ (a : AckedItems). a.data_blocked) none)
acked_now (StreamDataBlocked n m) e none is = greatest_of_first e.acked.stream_data_blocked n m (ap (λ (a : AckedItems). a.stream_data_blocked) none)
acked_now (StreamsBlocked Bidi m) e none is = greatest_first e.acked.bidi_blocked m (ap (λ (a : AckedItems). a.bidi_blocked) none)
acked_now (StreamsBlocked Uni m) e none is = greatest_first e.acked.uni_blocked m (ap (λ (a : AckedItems). a.uni_blocked) none)

data_blocked : IsDueItem (held_back two_of_three) (DataBlocked 2)
unfolding lookup total
data_blocked = (
  (refl, refl, (0, two_of_three, record { lane = refl; no_reset = refl; more = omega arith; below = omega arith })),
  λ covered. elim covered [ inl flies ↦ carried-empty _ flies | inr acked ↦ none-some 2 acked ],
)

stream_blocked : IsDueItem (client_with (record two_of_three { limit = 2 })) (StreamDataBlocked 0 2)
unfolding lookup
stream_blocked = (
  (record two_of_three { limit = 2 }, refl, refl, refl, omega arith, refl),
  λ covered. elim covered [ inl flies ↦ carried-empty _ flies | inr acked ↦ none-some 2 (sym (fmap.get-empty nat_cmp 0) ∙ acked) ],
)

goes_out : GoesOut
goes_out =
    record {
      older = inl (MaxData 5000, ((refl, omega arith), λ covered. elim covered [ inl flies ↦ carried-empty _ flies | inr acked ↦ (let same : 4500 ≡ 5000 = same_Some 4500 5000 acked in omega (arith, same)) ]));
      blocked = data_blocked;
      stream_blocked = stream_blocked;
      again = not_again;
      acked = λ i e none due. due.1 (inr (acked_now i e none due.0));
      ack = rest_exclusions.rests.ack.quiet;
      asks = λ largest ranges is. false≢true is;
    }

pub lap_exclusions : LapExclusions
lap_exclusions = record { laps = record { reads = reads_lap; begins = λ rest. rest_exclusions.others.untold_end.1 (rest A) }; others = no_laps; out = goes_out }
