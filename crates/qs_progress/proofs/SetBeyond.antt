-- How far windows and grants go beyond the first ones, and how much was written, is bounded by the log.
use Rattle.std.proofs.Common.{◌≡◌, ℕ, zero, suc, ◌+◌, ◌*◌, ◌-◌, ◌%◌, ◌/◌, ◌<◌, ◌≤◌, ◌==◌, Bool, true, false, ◌&&◌, ◌||◌, List, [], ◌∷◌, ◌++◌, map, length, slice_get, sum_by, Option, Some, None, is_some, option_map, Ok, Err, take, refl, sym, ap, ◌∙◌, subst, arith, inl, inr, if◌then◌else◌, length-append}
use Rattle.std.specs.Prelude.{flat_map, zip}
use Rattle.std.specs.List.{filter}
use Rattle.std.proofs.lemmas.Bool.{true≢false, false≢true, cond_both, cases_eq, eq-eqb, ne_eqb}
use Rattle.std.proofs.lemmas.Bool.Decides.{nat_tests}
use Rattle.std.proofs.lemmas.Option.{none-some, same_Some, slice_get-map}
use Rattle.std.proofs.lemmas.List.Sums.{sum_by-cons}
use Rattle.qs_wire.specs.declared.stream_id.Role.{Role}
use Rattle.qs_wire.specs.declared.stream_id.Dir.{Dir}
use Rattle.qs_wire.specs.declared.stream_id.Dir.TheVariants.{Bidi, Uni}
use Rattle.qs_recv.specs.Lane.{RecvLane, taken, new_lane, take_stream, take_reset, is_whole, is_over, read_answer, after_answer, after_read, stop, stop_and_discard, raise, set_window}
use Rattle.qs_recv.specs.Assembled.{Assembled, put, discard, forget}
use Rattle.qs_recv.specs.declared.half.Read.{Read}
use Rattle.qs_recv.specs.declared.half.Read.TheVariants as reads
use Rattle.qs_send.specs.Lane.{SendLane}
use Rattle.qs_send.specs.declared.piece.Item.TheVariants.{MaxStreamData, MaxStreams, ResetStream, StopSending, StreamDataBlocked}
use Rattle.qs_calls.specs.declared.settings.Settings.{Settings}
use Rattle.qs_calls.specs.declared.settings.SetFault.{SetFault}
use Rattle.qs_calls.specs.declared.event.Side.{Side}
use Rattle.qs_calls.specs.declared.event.Side.TheVariants.{A, B}
use Rattle.qs_machine.specs.Tables.{Tables, no_streams, table, lookup, update, updated, total}
use Rattle.qs_machine.specs.Ends.{End, Present, is_own, is_uni, role_bit, peer_type, first_window, first_window_by, on_recv, opens, opened_by_peer}
use Rattle.qs_machine.specs.Credit.{all_taken, ended, both_ended, recv_ended, count_step, settle}
use Rattle.qs_machine.specs.Setting.{Setting, ConnWindow, Grant, SendBuffer, StreamWindow, SetStep, set_refusal, with_setting, count_with}
use Rattle.qs_machine.specs.Standing.{IsSound, IsInCredit, HasLawfulLane}
use Rattle.qs_machine.specs.Repeats.{SentWasWritten}
use Rattle.qs_machine.specs.Seen.{Seen, Ack, Stream, Control}
use Rattle.qs_machine.specs.FrameStep.{frame_taken, named}
use Rattle.qs_machine.specs.Lawful.{frame_put}
use Rattle.qs_machine.specs.EndStep.{Call, Answer, EndStep, Set}
use Rattle.qs_machine.proofs.Counts.{steps_within, one_step}
use Rattle.qs_machine.proofs.CallsCounts.{moves_change, relates_sound}
use Rattle.qs_machine.proofs.EveryCall.{Change, changed, Comes, Wanted, Opened, Stopped, Forgotten, WasRead, WasSet, Took, Acked, Put, Settled, same_either}
use Rattle.qs_machine.proofs.LanesAgain.{LaneAfter, lane_same, raise_after}
use Rattle.qs_machine.proofs.Leaves.{acks_leave, put_leaves, frame_leaves}
use Rattle.qs_machine.proofs.TableLaws.{value, total_le, total_update, lookup_same, lookup_other, slots_updated, slots_opened, slots_each}
use Rattle.qs_machine.proofs.TablesAfter.{KeptIn, kept_each}
use Rattle.qs_machine.proofs.Ties.{nowhere}
use Rattle.qs_runs.specs.Logs.{Happening, History, Effect, Wrote, other, same_side, effects, wrote_in}
use Rattle.qs_runs.specs.Worlds.{World, end_of, WorldStep, Begins, Run}
use Rattle.qs_runs.specs.Pasts.{past}
use Rattle.qs_runs.specs.Invariant.{WorldOk, SendSlot, role_of, settings_of}
use Rattle.qs_runs.proofs.Histories.{two_sides}
use Rattle.qs_runs.proofs.NewEnds.{each_begun}
use Rattle.qs_runs.proofs.Runs.{run_keeps}
use Rattle.qs_runs.proofs.Standing.{certain_cases}
use Rattle.qs_progress.specs.Bound.{bytes_in, streams_at, set_beyond, most}

-- Lists and tables

pub length_kept : {X Y : Type 0} (xs : List X) (ys : List Y) → ((i : ℕ) → is_some (slice_get xs i) ≡ true → is_some (slice_get ys i) ≡ true) → length xs ≤ length ys
length_kept [] ys kept = omega arith
length_kept (x ∷ xs) [] kept = absurd (true≢false (sym (kept 0 refl)))
length_kept (x ∷ xs) (y ∷ ys) kept = omega (arith, length_kept xs ys (λ i. kept (suc i)))

length_filter : {X : Type 0} (p : X → Bool) (xs : List X) → length (filter p xs) ≤ length xs
length_filter p [] = omega arith
length_filter p (x ∷ xs) = cond_both (p x) (x ∷ filter p xs) (filter p xs) (λ ys. length ys ≤ length (x ∷ xs)) (λ _. omega (arith, length_filter p xs)) (λ _. omega (arith, length_filter p xs))

length_zip : {X Y : Type 0} (xs : List X) (ys : List Y) → length (zip xs ys) ≤ length xs
length_zip [] ys = omega arith
length_zip (x ∷ xs) [] = omega arith
length_zip (x ∷ xs) (y ∷ ys) = omega (arith, length_zip xs ys)

pub lookup_at : {X : Type 0} (t : Tables X) (k i : ℕ) → k < 4 → lookup t (i * 4 + k) ≡ slice_get (table t k) i
unfolding lookup
lookup_at t k i lt = grind (arith, nat_tests)

-- The same by what is kept of streams

abbrev pub written_on : End → ℕ
written_on e = total (λ (l : SendLane). l.written) e.sends

abbrev pub beyond_on : End → ℕ → ℕ
beyond_on e kind = sum_by (λ (l : RecvLane). l.limit - (first_window e kind + taken l)) (table e.recvs kind)

-- how many streams of a direction are open that the peer opens
abbrev pub peers : End → Dir → ℕ
peers e d = length (table e.recvs (peer_type e d))

abbrev given_at : End → ℕ
given_at e =
    (e.granted - (e.settings.conn_window + all_taken e))
    + beyond_on e 0 + beyond_on e 1 + beyond_on e 2 + beyond_on e 3
    + (e.granted_bidi - (e.settings.grant_bidi + peers e Bidi))
    + (e.granted_uni - (e.settings.grant_uni + peers e Uni))

abbrev pub lanes_most : World → ℕ
lanes_most w = 9 * (written_on w.a + written_on w.b) + 20 * (streams_at w.a + streams_at w.b) + 6 + 3 * (given_at w.a + given_at w.b)

-- Accounts: amounts under numbers

abbrev pub Account : Type 0
Account = List (ℕ × ℕ)

-- what is due under a number, and all
abbrev pub due : ℕ → Account → ℕ
due n [] = 0
due n (x ∷ xs) = (if n == x.0 then x.1 else 0) + due n xs

abbrev pub all : Account → ℕ
all [] = 0
all (x ∷ xs) = x.1 + all xs

-- a table of numbers, each of which is due
covered : (t : Tables ℕ) (xs : Account) → ((n k : ℕ) → lookup t n ≡ Some k → k ≤ due n xs) → total (λ k. k) t ≤ all xs
unfolding total
covered t [] h = total_le (λ k. k) (λ (k : ℕ). k) t no_streams (λ m. go m (lookup t m) refl)
  where
    go : (m : ℕ) (o : Option ℕ) → lookup t m ≡ o → value (λ k. k) (lookup t m) ≤ value (λ (k : ℕ). k) (lookup no_streams m)
    go m None is = rw is (omega arith)
    go m (Some k) is = (let none : k ≤ 0 = h m k is in rw is (omega (arith, none)))
covered t ((m, k) ∷ xs) h = go (λ u hu. covered u xs hu) (lookup t m) refl
  where
    go : ((u : Tables ℕ) → ((n k : ℕ) → lookup u n ≡ Some k → k ≤ due n xs) → total (λ k. k) u ≤ all xs) → (o : Option ℕ) → lookup t m ≡ o → total (λ k. k) t ≤ k + all xs
    go rest None is = omega (
      arith,
      rest t (λ n j at. elim (cases_eq n m) [
        | inl e ↦ absurd (none-some j (sym is ∙ ap (lookup t) (sym e) ∙ at))
        | inr ne ↦ (let le : j ≤ (if n == m then k else 0) + due n xs = h n j at in let none : (if n == m then k else 0) ≡ 0 = rw (ne_eqb n m ne) refl in omega (arith, le, none))
      ]),
    )
    go rest (Some j) is = omega (
      arith,
      total_update (λ k. k) t m j (j - k) is,
      rest (update t m (j - k)) (λ n i at. elim (cases_eq n m) [
        | inl e ↦ (
            let le : j ≤ (if m == m then k else 0) + due m xs = h m j is in
            let one : (if m == m then k else 0) ≡ k = rw (eq-eqb m m refl) refl in
            let here : j - k ≡ i = same_Some (j - k) i (sym (lookup_same t m j (j - k) is) ∙ ap (lookup (update t m (j - k))) (sym e) ∙ at) in
            subst (λ x. i ≤ due x xs) (sym e) (omega (arith, le, one, here)))
        | inr ne ↦ (
            let le : i ≤ (if n == m then k else 0) + due n xs = h n i (sym (lookup_other t m n (j - k) ne) ∙ at) in
            let none : (if n == m then k else 0) ≡ 0 = rw (ne_eqb n m ne) refl in
            omega (arith, le, none))
      ]),
    )

-- the numbers of a table, by the type of a stream
module _ {X : Type 0} (F : ℕ → X → ℕ) where
  abbrev numbers_of : Tables X → Tables ℕ
  numbers_of t = record { client_bidi = map (F 0) t.client_bidi; server_bidi = map (F 1) t.server_bidi; client_uni = map (F 2) t.client_uni; server_uni = map (F 3) t.server_uni }

  abbrev sum_of : Tables X → ℕ
  sum_of t = sum_by (F 0) t.client_bidi + sum_by (F 1) t.server_bidi + sum_by (F 2) t.client_uni + sum_by (F 3) t.server_uni

  sum_mapped : (f : X → ℕ) (xs : List X) → sum_by (λ k. k) (map f xs) ≡ sum_by f xs
  sum_mapped f [] = refl
  sum_mapped f (x ∷ xs) = sum_by-cons (λ (k : ℕ). k) (f x) (map f xs) ∙ ap (λ k. f x + k) (sum_mapped f xs) ∙ sym (sum_by-cons f x xs)

  total_of : (t : Tables X) → total (λ k. k) (numbers_of t) ≡ sum_of t
  unfolding total
  total_of t =
      let zeroth = sum_mapped (F 0) t.client_bidi in
      let first = sum_mapped (F 1) t.server_bidi in
      let second = sum_mapped (F 2) t.client_uni in
      let third = sum_mapped (F 3) t.server_uni in
      omega (arith, zeroth, first, second, third)

  number_at : (t : Tables X) (n : ℕ) → lookup (numbers_of t) n ≡ option_map (F (n % 4)) (lookup t n)
  unfolding lookup
  number_at t n = go (n % 4) (omega arith)
    where
      go : (r : ℕ) → r < 4 → slice_get (table (numbers_of t) r) (n / 4) ≡ option_map (F r) (slice_get (table t r) (n / 4))
      go zero lt = slice_get-map (F 0) t.client_bidi (n / 4)
      go (suc zero) lt = slice_get-map (F 1) t.server_bidi (n / 4)
      go (suc (suc zero)) lt = slice_get-map (F 2) t.client_uni (n / 4)
      go (suc (suc (suc zero))) lt = slice_get-map (F 3) t.server_uni (n / 4)
      go (suc (suc (suc (suc r)))) lt = absurd (omega (arith, lt))

  pub sum_covered : (t : Tables X) (xs : Account) → ((n : ℕ) (x : X) → lookup t n ≡ Some x → F (n % 4) x ≤ due n xs) → sum_of t ≤ all xs
  sum_covered t xs h = omega (arith, total_of t, covered (numbers_of t) xs (λ n k at. go n k (lookup t n) refl (sym (number_at t n) ∙ at)))
    where
      go : (n k : ℕ) (o : Option X) → lookup t n ≡ o → option_map (F (n % 4)) (lookup t n) ≡ Some k → k ≤ due n xs
      go n k None is at = absurd (none-some k (sym (ap (option_map (F (n % 4))) is) ∙ at))
      go n k (Some x) is at =
          let same : F (n % 4) x ≡ k = same_Some (F (n % 4) x) k (sym (ap (option_map (F (n % 4))) is) ∙ at) in
          omega (arith, same, h n x is)

-- What was written

-- the account of what was written
abbrev pub written_account : List Effect → Account
written_account [] = []
written_account (Wrote n bytes ∷ xs) = (n, length bytes) ∷ written_account xs
written_account (x ∷ xs) = written_account xs

written_due : (n : ℕ) (xs : List Effect) → due n (written_account xs) ≡ length (flat_map (wrote_in n) xs)
written_due n [] = refl
written_due n (Wrote m bytes ∷ xs) = go (n == m) (written_due n xs)
  where
    go : (b : Bool) → due n (written_account xs) ≡ length (flat_map (wrote_in n) xs) → (if b then length bytes else 0) + due n (written_account xs) ≡ length ((if b then bytes else []) ++ flat_map (wrote_in n) xs)
    go true rest = omega (arith, rest, length-append bytes (flat_map (wrote_in n) xs))
    go false rest = omega (arith, rest)
written_due n (x ∷ xs) = written_due n xs

written_all : (xs : List Effect) → all (written_account xs) ≡ sum_by bytes_in xs
written_all [] = refl
written_all (Wrote n bytes ∷ xs) = omega (arith, written_all xs, sum_by-cons bytes_in (Wrote n bytes) xs)
written_all (x ∷ xs) = omega (arith, written_all xs, sum_by-cons bytes_in x xs)

module _ (a b : Settings) (h : History) (w : World) (ok : WorldOk a b h w) (s : Side) where
  half_written : (n : ℕ) (l : SendLane) → lookup (end_of w s).sends n ≡ Some l → l.written ≤ due n (written_account (effects s h))
  half_written n l at =
      let half = subst (SendSlot (past s h) n _) at ((ok.ends s).sends n) in
      omega (arith, half.count, written_due n (effects s h))

  written_few : written_on (end_of w s) ≤ sum_by bytes_in (effects s h)
  unfolding total
  written_few = (let few = sum_covered (λ kind (l : SendLane). l.written) (end_of w s).sends (written_account (effects s h)) half_written in omega (arith, few, written_all (effects s h)))

-- What was set

-- what a call set beyond the first window of the connection, the first grant of a direction, and the first window of a stream
abbrev pub conn_part : Settings → (call : Call) → Answer call → ℕ
conn_part st (Set (ConnWindow window)) (Ok done) = window - st.conn_window
conn_part st call answer = 0

abbrev pub bidi_part : Settings → (call : Call) → Answer call → ℕ
bidi_part st (Set (Grant Bidi streams)) (Ok done) = streams - st.grant_bidi
bidi_part st call answer = 0

abbrev pub uni_part : Settings → (call : Call) → Answer call → ℕ
uni_part st (Set (Grant Uni streams)) (Ok done) = streams - st.grant_uni
uni_part st call answer = 0

abbrev pub stream_part : Role → Settings → (call : Call) → Answer call → Account
stream_part r st (Set (StreamWindow stream window)) (Ok done) = (stream, window - first_window_by r st stream) ∷ []
stream_part r st call answer = []

-- these are all
parts_are : (e : End) (call : Call) (answer : Answer call) →
    set_beyond e call answer ≡ conn_part e.settings call answer + bidi_part e.settings call answer + uni_part e.settings call answer + all (stream_part e.role e.settings call answer)
parts_are e (Set (ConnWindow window)) (Ok done) = omega arith
parts_are e (Set (ConnWindow window)) (Err fault) = refl
parts_are e (Set (Grant Bidi streams)) (Ok done) = omega arith
parts_are e (Set (Grant Bidi streams)) (Err fault) = refl
parts_are e (Set (Grant Uni streams)) (Ok done) = omega arith
parts_are e (Set (Grant Uni streams)) (Err fault) = refl
parts_are e (Set (StreamWindow stream window)) (Ok done) = omega arith
parts_are e (Set (StreamWindow stream window)) (Err fault) = refl
parts_are e (Set (SendBuffer stream size)) answer = refl
parts_are e call answer = refl

-- What an end has, by what was set: its windows and grants go no further beyond the first ones.
record SetTrue (conn bidi uni : ℕ) (streams : Account) (e : End) : Type 0 where
  pub window : e.present.widest ≤ e.settings.conn_window + conn
  pub grant_bidi : e.present.grant_bidi ≤ e.settings.grant_bidi + bidi
  pub grant_uni : e.present.grant_uni ≤ e.settings.grant_uni + uni
  pub granted_bidi : e.granted_bidi ≤ e.settings.grant_bidi + bidi + peers e Bidi
  pub granted_uni : e.granted_uni ≤ e.settings.grant_uni + uni + peers e Uni
  pub lanes : (n : ℕ) → value (λ (r : RecvLane). r.arrived.widest) (lookup e.recvs n) ≤ first_window e n + due n streams

-- Windows of streams

abbrev width : RecvLane → ℕ
width r = r.arrived.widest

module _ (bound : ℕ → ℕ) where
  abbrev Wide : Tables RecvLane → Type 0
  Wide t = (n : ℕ) → value width (lookup t n) ≤ bound n

  wide_edited : (t : Tables RecvLane) (n : ℕ) (f : RecvLane → RecvLane) → ((l : RecvLane) → width l ≤ bound n → width (f l) ≤ bound n) → Wide t → Wide (updated t n f (lookup t n))
  wide_edited t n f keeps h = go (lookup t n) refl
    where
      go : (o : Option RecvLane) → lookup t n ≡ o → Wide (updated t n f o)
      go None is = h
      go (Some l) is = slots_updated (λ m o. value width o ≤ bound m) t n l (f l) is (λ m ne. h m) (keeps l (subst (λ o. value width o ≤ bound n) is (h n)))

  module _ (e : End) (first : (n : ℕ) → first_window e n ≤ bound n) (h : Wide e.recvs) where
    first_same : (n m : ℕ) → m % 4 ≡ n % 4 → first_window e m ≡ first_window e n
    first_same n m kind = rw kind refl

    wide_opens : (n : ℕ) → Wide (opens n e).recvs
    wide_opens n =
        cond_both (is_uni n && is_own e n) e.recvs _ Wide (λ _. h) (λ _.
        slots_opened (λ m o. value width o ≤ bound m) e.recvs n (λ m. new_lane (first_window e n) e.tuning.credit_step) h (λ m none kind. omega (arith, first m, first_same n m kind)))

    wide_peer : (n : ℕ) → Wide (opened_by_peer n e).recvs
    wide_peer n = cond_both (is_own e n) e (opens n e) (λ x. Wide x.recvs) (λ _. h) (λ _. wide_opens n)

    wide_frame : (f : Seen) → Wide (frame_taken f e).recvs
    unfolding frame_taken
    wide_frame (Ack largest ranges) = subst Wide (sym (ap (λ (x : End). x.recvs) (acks_leave (named e ranges) e))) h
    wide_frame (Stream n offset bytes fin) =
        wide_edited (opened_by_peer n e).recvs n (λ l. take_stream l offset bytes fin) (λ l le. (let same = same_either (λ (a : Assembled). a.widest) (is_some l.reset_code) l.arrived (put l.arrived offset bytes) refl in omega (arith, le, same))) (wide_peer n)
    wide_frame (Control (MaxStreamData n m)) = wide_peer n
    wide_frame (Control (MaxStreams Uni m)) = h
    wide_frame (Control (ResetStream n code size)) =
        wide_edited (opened_by_peer n e).recvs n (λ l. take_reset l code size) (λ l le. (let same = same_either width (is_some l.reset_code || is_whole l) l (record l { arrived = forget l.arrived; final_size = Some size; reset_code = Some code }) refl in omega (arith, le, same))) (wide_peer n)
    wide_frame (Control (StopSending n code)) = wide_peer n
    wide_frame (Control (StreamDataBlocked n m)) = wide_peer n
    wide_frame f = h

read_width : (l : RecvLane) (size : ℕ) → width (after_read l size) ≡ width l
read_width l size = go (read_answer l size)
  where
    go : (r : Read) → width (after_answer r l size) ≡ width l
    go (reads.Bytes n) = refl
    go reads.End = refl
    go (reads.Reset code) = refl
    go reads.Wait = refl

stop_width : (l : RecvLane) (code : ℕ) → width (stop l code) ≡ width l
stop_width l code = same_either width (is_some l.stop_code || is_over l) l (record l { arrived = discard l.arrived; stop_code = Some code }) refl

-- Streams that are open stay so

longer : (t u : Tables RecvLane) (k : ℕ) → k < 4 → KeptIn LaneAfter t u → length (table t k) ≤ length (table u k)
longer t u k lt kept = length_kept (table t k) (table u k) (λ i is. go i (lookup t (i * 4 + k)) refl is)
  where
    go : (i : ℕ) (o : Option RecvLane) → lookup t (i * 4 + k) ≡ o → is_some (slice_get (table t k) i) ≡ true → is_some (slice_get (table u k) i) ≡ true
    go i None at is = absurd (true≢false (sym is ∙ ap is_some (sym (lookup_at t k i lt) ∙ at)))
    go i (Some l) at is = (let (m, there, after) = kept (i * 4 + k) l at in ap is_some (sym (lookup_at u k i lt) ∙ there))

bidi_kind : (r : Role) → 1 - role_bit r < 4
bidi_kind r = omega arith

uni_kind : (r : Role) → 3 - role_bit r < 4
uni_kind r = omega arith

-- How many ended is at most how many are open

ended_few : (e : End) (d : Dir) → ended e d ≤ peers e d
ended_few e Bidi = omega (arith, length_filter both_ended (zip (table e.recvs (peer_type e Bidi)) (table e.sends (peer_type e Bidi))), length_zip (table e.recvs (peer_type e Bidi)) (table e.sends (peer_type e Bidi)))
ended_few e Uni = length_filter recv_ended (table e.recvs (peer_type e Uni))

-- One change

abbrev is_set : Call → Bool
is_set (Set x) = true
is_set call = false

module _ (conn bidi uni : ℕ) (streams : Account) where
  abbrev IsSet : End → Type 0
  IsSet e = SetTrue conn bidi uni streams e

  abbrev bound_of : End → ℕ → ℕ
  bound_of e n = first_window e n + due n streams

  -- windows, grants and what was granted stay
  set_stays : (e new : End) → new.role ≡ e.role → new.settings ≡ e.settings → new.present ≡ e.present → new.granted_bidi ≡ e.granted_bidi → new.granted_uni ≡ e.granted_uni → KeptIn LaneAfter e.recvs new.recvs →
      Wide (bound_of e) new.recvs → IsSet e → IsSet new
  set_stays e new role settings present gb gu kept wide h =
      let first = ap (λ (x : Settings). x.conn_window) settings in
      let bidi_first = ap (λ (x : Settings). x.grant_bidi) settings in
      let uni_first = ap (λ (x : Settings). x.grant_uni) settings in
      let widest = ap (λ (x : Present). x.widest) present in
      let bidi_now = ap (λ (x : Present). x.grant_bidi) present in
      let uni_now = ap (λ (x : Present). x.grant_uni) present in
      let more_bidi : peers e Bidi ≤ peers new Bidi = subst (λ r. peers e Bidi ≤ length (table new.recvs (1 - role_bit r))) (sym role) (longer e.recvs new.recvs (1 - role_bit e.role) (bidi_kind e.role) kept) in
      let more_uni : peers e Uni ≤ peers new Uni = subst (λ r. peers e Uni ≤ length (table new.recvs (3 - role_bit r))) (sym role) (longer e.recvs new.recvs (3 - role_bit e.role) (uni_kind e.role) kept) in
      record {
        window = omega (arith, h.window, first, widest);
        grant_bidi = omega (arith, h.grant_bidi, bidi_first, bidi_now);
        grant_uni = omega (arith, h.grant_uni, uni_first, uni_now);
        granted_bidi = omega (arith, h.granted_bidi, gb, bidi_first, more_bidi);
        granted_uni = omega (arith, h.granted_uni, gu, uni_first, more_uni);
        lanes = λ n. (let same : first_window new n ≡ first_window e n = λ i. first_window_by (role i) (settings i) n in omega (arith, wide n, same));
      }

  -- the limits move
  set_settles : (e : End) → KeptIn LaneAfter e.recvs (settle e).recvs → IsSet e → IsSet (settle e)
  set_settles e kept h =
      let more_bidi = longer e.recvs (settle e).recvs (1 - role_bit e.role) (bidi_kind e.role) kept in
      let more_uni = longer e.recvs (settle e).recvs (3 - role_bit e.role) (uni_kind e.role) kept in
      record {
        window = h.window;
        grant_bidi = h.grant_bidi;
        grant_uni = h.grant_uni;
        granted_bidi = omega (arith, h.granted_bidi, h.grant_bidi, more_bidi, ended_few e Bidi, steps_within (count_step e.tuning.count_step e.present.grant_bidi) (ended e Bidi) (one_step e.tuning.count_step e.present.grant_bidi));
        granted_uni = omega (arith, h.granted_uni, h.grant_uni, more_uni, ended_few e Uni, steps_within (count_step e.tuning.count_step e.present.grant_uni) (ended e Uni) (one_step e.tuning.count_step e.present.grant_uni));
        lanes = slots_each (λ n o. value width o ≤ bound_of e n) raise e.recvs (λ n. go (lookup e.recvs n) (h.lanes n));
      }
    where
      go : {k : ℕ} (o : Option RecvLane) → value width o ≤ k → value width (option_map raise o) ≤ k
      go None le = le
      go (Some l) le = le

  -- every change but a setting
  set_change : (old : End) (call : Call) → ((x : Setting) → call ≡ Set x → ⊥) → (c : Change) (e : End) → Comes old call e c → IsInCredit e → SentWasWritten e → IsSet e → IsSet (changed c e)
  set_change old call unset c e comes sound sent h = by c comes (moves_change old call c e comes sound sent).1
    where
      edited : (n : ℕ) (f : RecvLane → RecvLane) → ((l : RecvLane) → width (f l) ≡ width l) → KeptIn LaneAfter e.recvs (on_recv n f e).recvs → IsSet (on_recv n f e)
      edited n f same kept = set_stays e (on_recv n f e) refl refl refl refl refl kept (wide_edited (bound_of e) e.recvs n f (λ l le. (let is = same l in omega (arith, le, is))) h.lanes) h

      by : (c : Change) → Comes old call e c → KeptIn LaneAfter e.recvs (changed c e).recvs → IsSet (changed c e)
      by (Wanted Bidi count) comes kept = set_stays e (changed (Wanted Bidi count) e) refl refl refl refl refl kept h.lanes h
      by (Wanted Uni count) comes kept = set_stays e (changed (Wanted Uni count) e) refl refl refl refl refl kept h.lanes h
      by (Opened n) comes kept = set_stays e (opens n e) refl refl refl refl refl kept (wide_opens (bound_of e) e (λ m. omega arith) h.lanes n) h
      by (Stopped n code) comes kept = edited n (λ m. stop m code) (λ l. stop_width l code) kept
      by (Forgotten n code) comes kept = edited n (λ m. stop_and_discard m code) (λ l. stop_width l code) kept
      by (WasRead n size) comes kept = edited n (λ m. after_read m size) (λ l. read_width l size) kept
      by (WasSet x) comes kept = absurd (unset x comes.1)
      by (Took f) comes kept =
          let left = frame_leaves f e in
          set_stays e (frame_taken f e) (ap (λ (x : End). x.role) left) (ap (λ (x : End). x.settings) left) (ap (λ (x : End). x.present) left) (ap (λ (x : End). x.granted_bidi) left) (ap (λ (x : End). x.granted_uni) left) kept
          (wide_frame (bound_of e) e (λ m. omega arith) h.lanes f) h
      by (Acked count ranges) comes kept =
          let left = acks_leave (take count (named e ranges)) e in
          set_stays e (changed (Acked count ranges) e) (ap (λ (x : End). x.role) left) (ap (λ (x : End). x.settings) left) (ap (λ (x : End). x.present) left) (ap (λ (x : End). x.granted_bidi) left) (ap (λ (x : End). x.granted_uni) left) kept
          (subst (Wide (bound_of e)) (sym (ap (λ (x : End). x.recvs) left)) h.lanes) h
      by (Put f) comes kept =
          let left = put_leaves f e in
          set_stays e (frame_put f e) (ap (λ (x : End). x.role) left) (ap (λ (x : End). x.settings) left) (ap (λ (x : End). x.present) left) (ap (λ (x : End). x.granted_bidi) left) (ap (λ (x : End). x.granted_uni) left) kept
          (subst (Wide (bound_of e)) (sym (ap (λ (x : End). x.recvs) left)) h.lanes) h
      by Settled comes kept = set_settles e kept h
      by c comes kept = set_stays e (changed c e) refl refl refl refl refl kept h.lanes h

  -- so every call but a setting
  set_call : (old : End) → IsSound old → SentWasWritten old → (call : Call) → ((x : Setting) → call ≡ Set x → ⊥) → (answer : Answer call) (new : End) → EndStep old call answer new → IsSet old → IsSet new
  set_call old sound sent call unset answer new step =
      relates_sound (λ a b. IsSet a → IsSet b) (λ e h. h) (λ a b c x y h. y (x h)) old sound sent call (set_change old call unset) answer new step

  -- more was set
  set_more : (conn_more bidi_more uni_more : ℕ) (streams_more : Account) (e : End) → IsSet e → SetTrue (conn_more + conn) (bidi_more + bidi) (uni_more + uni) (streams_more ++ streams) e
  set_more conn_more bidi_more uni_more streams_more e h =
      record {
        window = omega (arith, h.window);
        grant_bidi = omega (arith, h.grant_bidi);
        grant_uni = omega (arith, h.grant_uni);
        granted_bidi = omega (arith, h.granted_bidi);
        granted_uni = omega (arith, h.granted_uni);
        lanes = λ n. omega (arith, h.lanes n, due_more n streams_more);
      }
    where
      due_more : (n : ℕ) (xs : Account) → due n streams ≤ due n (xs ++ streams)
      due_more n [] = omega arith
      due_more n (x ∷ xs) = omega (arith, due_more n xs)

  -- a setting
  abbrev IsSetBy : End → (call : Call) → Answer call → End → Type 0
  IsSetBy e call answer new = SetTrue (conn_part e.settings call answer + conn) (bidi_part e.settings call answer + bidi) (uni_part e.settings call answer + uni) (stream_part e.role e.settings call answer ++ streams) new

  set_is : (x : Setting) (e : End) → KeptIn LaneAfter e.recvs (with_setting x e).recvs → IsSet e → IsSetBy e (Set x) (Ok tt) (with_setting x e)
  set_is (ConnWindow w) e kept h = record { window = omega (arith, h.window); grant_bidi = omega (arith, h.grant_bidi); grant_uni = omega (arith, h.grant_uni); granted_bidi = omega (arith, h.granted_bidi); granted_uni = omega (arith, h.granted_uni); lanes = h.lanes }
  set_is (Grant Bidi n) e kept h =
      record {
        window = omega (arith, h.window);
        grant_bidi = omega arith;
        grant_uni = omega (arith, h.grant_uni);
        granted_bidi = counted e.present.grant_bidi e.granted_bidi e.settings.lifetime_bidi (ended e Bidi) n (e.settings.grant_bidi) bidi (peers e Bidi) (ended_few e Bidi) h.granted_bidi;
        granted_uni = omega (arith, h.granted_uni);
        lanes = h.lanes;
      }
    where
      counted : (present granted lifetime n grant first more there : ℕ) → n ≤ there → granted ≤ first + more + there → count_with present granted lifetime n grant ≤ first + ((grant - first) + more) + there
      counted present granted lifetime n grant first more there few le = grind (arith, nat_tests)
  set_is (Grant Uni n) e kept h =
      record {
        window = omega (arith, h.window);
        grant_bidi = omega (arith, h.grant_bidi);
        grant_uni = omega arith;
        granted_bidi = omega (arith, h.granted_bidi);
        granted_uni = counted e.present.grant_uni e.granted_uni e.settings.lifetime_uni (ended e Uni) n (e.settings.grant_uni) uni (peers e Uni) (ended_few e Uni) h.granted_uni;
        lanes = h.lanes;
      }
    where
      counted : (present granted lifetime n grant first more there : ℕ) → n ≤ there → granted ≤ first + more + there → count_with present granted lifetime n grant ≤ first + ((grant - first) + more) + there
      counted present granted lifetime n grant first more there few le = grind (arith, nat_tests)
  set_is (SendBuffer n size) e kept h = set_more 0 0 0 [] (with_setting (SendBuffer n size) e) (set_stays e (with_setting (SendBuffer n size) e) refl refl refl refl refl kept h.lanes h)
  set_is (StreamWindow n w) e kept h =
      let new : End = with_setting (StreamWindow n w) e in
      let more : Account = (n, w - first_window e n) ∷ [] in
      let base = set_more 0 0 0 more e h in
      let more_bidi = longer e.recvs new.recvs (1 - role_bit e.role) (bidi_kind e.role) kept in
      let more_uni = longer e.recvs new.recvs (3 - role_bit e.role) (uni_kind e.role) kept in
      record {
        window = base.window;
        grant_bidi = base.grant_bidi;
        grant_uni = base.grant_uni;
        granted_bidi = omega (arith, base.granted_bidi, more_bidi);
        granted_uni = omega (arith, base.granted_uni, more_uni);
        lanes = wide_edited (λ m. first_window e m + due m (more ++ streams)) e.recvs n (λ l. set_window l w) (λ l le. (let one : (if n == n then w - first_window e n else 0) ≡ w - first_window e n = rw (eq-eqb n n refl) refl in omega (arith, le, one))) base.lanes;
      }

module _ (conn bidi uni : ℕ) (streams : Account) where
  set_by : (x : Setting) (answer : Answer (Set x)) (e new : End) → IsSound e → SentWasWritten e → SetStep e x answer new → SetTrue conn bidi uni streams e → IsSetBy conn bidi uni streams e (Set x) answer new
  set_by x answer e new sound sent step h =
      elim (certain_cases (set_refusal e x) e answer new _ step) [
        | inl (fault, is, same) ↦ subst (λ r. IsSetBy conn bidi uni streams e (Set x) r new) (sym is) (subst (IsSetBy conn bidi uni streams e (Set x) (Err fault)) (sym same) (refused x fault))
        | inr (allowed, (is, same)) ↦ subst (λ r. IsSetBy conn bidi uni streams e (Set x) r new) (sym is) (subst (IsSetBy conn bidi uni streams e (Set x) (Ok tt)) (sym same)
            (set_settles (conn_part e.settings (Set x) (Ok tt) + conn) (bidi_part e.settings (Set x) (Ok tt) + bidi) (uni_part e.settings (Set x) (Ok tt) + uni) (stream_part e.role e.settings (Set x) (Ok tt) ++ streams) (with_setting x e)
            (kept_each LaneAfter lane_same (with_setting x e).recvs raise raise_after)
            (set_is conn bidi uni streams x e (moves_change e (Set x) (WasSet x) e (allowed, refl) sound.0 sent).1 h)))
      ]
    where
      refused : (x : Setting) (fault : SetFault) → IsSetBy conn bidi uni streams e (Set x) (Err fault) e
      refused (ConnWindow w) fault = set_more conn bidi uni streams 0 0 0 [] e h
      refused (Grant Bidi n) fault = set_more conn bidi uni streams 0 0 0 [] e h
      refused (Grant Uni n) fault = set_more conn bidi uni streams 0 0 0 [] e h
      refused (SendBuffer n size) fault = set_more conn bidi uni streams 0 0 0 [] e h
      refused (StreamWindow n w) fault = set_more conn bidi uni streams 0 0 0 [] e h

  -- every call
  set_goes : (call : Call) (answer : Answer call) (e new : End) → IsSound e → SentWasWritten e → EndStep e call answer new → SetTrue conn bidi uni streams e → IsSetBy conn bidi uni streams e call answer new
  set_goes (Set x) answer e new sound sent step h = set_by x answer e new sound sent step h
  set_goes call answer e new sound sent step h = set_more conn bidi uni streams 0 0 0 [] new (set_call conn bidi uni streams e sound sent call (λ x is. false≢true (ap is_set is)) answer new step h)

-- Runs

-- what was set by one side
abbrev conn_set : Settings → Side → History → ℕ
conn_set st s [] = 0
conn_set st s (x ∷ h) = (if same_side s x.end then conn_part st x.call x.answer else 0) + conn_set st s h

abbrev bidi_set : Settings → Side → History → ℕ
bidi_set st s [] = 0
bidi_set st s (x ∷ h) = (if same_side s x.end then bidi_part st x.call x.answer else 0) + bidi_set st s h

abbrev uni_set : Settings → Side → History → ℕ
uni_set st s [] = 0
uni_set st s (x ∷ h) = (if same_side s x.end then uni_part st x.call x.answer else 0) + uni_set st s h

abbrev streams_set : Role → Settings → Side → History → Account
streams_set r st s [] = []
streams_set r st s (x ∷ h) = (if same_side s x.end then stream_part r st x.call x.answer else []) ++ streams_set r st s h

abbrev IsSetIn : Role → Settings → Side → History → End → Type 0
IsSetIn r st s h e = SetTrue (conn_set st s h) (bidi_set st s h) (uni_set st s h) (streams_set r st s h) e

module _ (a b : Settings) where
  abbrev AllSet : Side → History → End → Type 0
  AllSet s h e = IsSetIn (role_of s) (settings_of a b s) s h e

  same_here : (s : Side) → same_side s s ≡ true
  same_here A = refl
  same_here B = refl

  same_there : (s : Side) → same_side (other s) s ≡ false
  same_there A = refl
  same_there B = refl

  first_sets : (w : World) → Begins a b w → (s : Side) → AllSet s [] (end_of w s)
  first_sets w begins = each_begun (λ s e. AllSet s [] e) a b w begins (λ s t told made granted. record {
    window = omega arith;
    grant_bidi = omega arith;
    grant_uni = omega arith;
    granted_bidi = omega arith;
    granted_uni = omega arith;
    lanes = λ n. subst (λ o. value width o ≤ first_window_by (role_of s) (settings_of a b s) n + 0) (sym (nowhere n)) (omega arith);
  })

  module _ (h : History) (v w : World) (x : Happening) (ok : WorldOk a b h v) (step : WorldStep h v x w) (before : (s : Side) → AllSet s h (end_of v s)) where
    here : AllSet x.end (x ∷ h) (end_of w x.end)
    here =
        let role : (end_of v x.end).role ≡ role_of x.end = ap (λ y. y.role) (ok.stand x.end) in
        let settings : (end_of v x.end).settings ≡ settings_of a b x.end = ap (λ y. y.settings) (ok.stand x.end) in
        let went = set_goes _ _ _ _ x.call x.answer (end_of v x.end) (end_of w x.end) (ok.sound x.end) (ok.sent x.end) step.step (before x.end) in
        subst (λ c. SetTrue ((if c then conn_part (settings_of a b x.end) x.call x.answer else 0) + conn_set (settings_of a b x.end) x.end h) ((if c then bidi_part (settings_of a b x.end) x.call x.answer else 0) + bidi_set (settings_of a b x.end) x.end h) ((if c then uni_part (settings_of a b x.end) x.call x.answer else 0) + uni_set (settings_of a b x.end) x.end h) ((if c then stream_part (role_of x.end) (settings_of a b x.end) x.call x.answer else []) ++ streams_set (role_of x.end) (settings_of a b x.end) x.end h) (end_of w x.end)) (sym (same_here x.end))
        (subst (λ r. SetTrue (conn_part (settings_of a b x.end) x.call x.answer + conn_set (settings_of a b x.end) x.end h) (bidi_part (settings_of a b x.end) x.call x.answer + bidi_set (settings_of a b x.end) x.end h) (uni_part (settings_of a b x.end) x.call x.answer + uni_set (settings_of a b x.end) x.end h) (stream_part r (settings_of a b x.end) x.call x.answer ++ streams_set (role_of x.end) (settings_of a b x.end) x.end h) (end_of w x.end)) role
        (subst (λ st. SetTrue (conn_part st x.call x.answer + conn_set (settings_of a b x.end) x.end h) (bidi_part st x.call x.answer + bidi_set (settings_of a b x.end) x.end h) (uni_part st x.call x.answer + uni_set (settings_of a b x.end) x.end h) (stream_part (end_of v x.end).role st x.call x.answer ++ streams_set (role_of x.end) (settings_of a b x.end) x.end h) (end_of w x.end)) settings went))

    there : AllSet (other x.end) (x ∷ h) (end_of w (other x.end))
    there =
        let s : Side = other x.end in
        subst (λ c. SetTrue ((if c then conn_part (settings_of a b s) x.call x.answer else 0) + conn_set (settings_of a b s) s h) ((if c then bidi_part (settings_of a b s) x.call x.answer else 0) + bidi_set (settings_of a b s) s h) ((if c then uni_part (settings_of a b s) x.call x.answer else 0) + uni_set (settings_of a b s) s h) ((if c then stream_part (role_of s) (settings_of a b s) x.call x.answer else []) ++ streams_set (role_of s) (settings_of a b s) s h) (end_of w s)) (sym (same_there x.end))
        (set_more _ _ _ _ 0 0 0 [] (end_of w s) (subst (AllSet s h) (sym step.still) (before s)))

    sets : (s : Side) → AllSet s (x ∷ h) (end_of w s)
    sets s = two_sides (λ s. AllSet s (x ∷ h) (end_of w s)) x.end here there s

  run_sets : (h : History) (w : World) → Run a b h w → (s : Side) → AllSet s h (end_of w s)
  run_sets [] w begins = first_sets w begins
  run_sets (x ∷ h) w (v, run, step) = sets h v w x (run_keeps a b h v run) step (run_sets h v run)

  -- What was given beyond

  module _ (h : History) (w : World) (ok : WorldOk a b h w) (s : Side) (set : AllSet s h (end_of w s)) where
    abbrev e : End
    e = end_of w s

    abbrev streams : Account
    streams = streams_set (role_of s) (settings_of a b s) s h

    kind_first : (n : ℕ) → first_window e (n % 4) ≡ first_window e n
    kind_first n = (let same : n % 4 % 4 ≡ n % 4 = omega arith in rw same refl)

    lane_given : (n : ℕ) (r : RecvLane) → lookup e.recvs n ≡ Some r → r.limit - (first_window e (n % 4) + taken r) ≤ due n streams
    lane_given n r at =
        let lawful = (subst (HasLawfulLane e.role e.settings n) at ((ok.sound s).0.lanes n)).0 in
        let wide : width r ≤ first_window e n + due n streams = subst (λ o. value width o ≤ first_window e n + due n streams) at (set.lanes n) in
        omega (arith, lawful.in_window, wide, kind_first n)

    given_few : given_at e ≤ conn_set (settings_of a b s) s h + bidi_set (settings_of a b s) s h + uni_set (settings_of a b s) s h + all streams
    given_few =
        let lanes = sum_covered (λ kind (r : RecvLane). r.limit - (first_window e kind + taken r)) e.recvs streams lane_given in
        omega (arith, (ok.sound s).0.in_window, set.window, set.granted_bidi, set.granted_uni, lanes)

-- The sum over both sides

abbrev set_at : End → Side → History → ℕ
set_at e s [] = 0
set_at e s (x ∷ h) = (if same_side s x.end then set_beyond e x.call x.answer else 0) + set_at e s h

all_joined : (xs ys : Account) → all (xs ++ ys) ≡ all xs + all ys
all_joined [] ys = omega arith
all_joined (x ∷ xs) ys = omega (arith, all_joined xs ys)

set_at_is : (e : End) (s : Side) (h : History) → set_at e s h ≡ conn_set e.settings s h + bidi_set e.settings s h + uni_set e.settings s h + all (streams_set e.role e.settings s h)
set_at_is e s [] = refl
set_at_is e s (x ∷ h) = go (same_side s x.end) (set_at_is e s h)
  where
    go : (c : Bool) → set_at e s h ≡ conn_set e.settings s h + bidi_set e.settings s h + uni_set e.settings s h + all (streams_set e.role e.settings s h) →
        (if c then set_beyond e x.call x.answer else 0) + set_at e s h ≡ ((if c then conn_part e.settings x.call x.answer else 0) + conn_set e.settings s h) + ((if c then bidi_part e.settings x.call x.answer else 0) + bidi_set e.settings s h) + ((if c then uni_part e.settings x.call x.answer else 0) + uni_set e.settings s h) + all ((if c then stream_part e.role e.settings x.call x.answer else []) ++ streams_set e.role e.settings s h)
    go true before = omega (arith, before, parts_are e x.call x.answer, all_joined (stream_part e.role e.settings x.call x.answer) (streams_set e.role e.settings s h))
    go false before = omega (arith, before)

both_sets : (w : World) (h : History) → sum_by (λ (x : Happening). set_beyond (end_of w x.end) x.call x.answer) h ≡ set_at w.a A h + set_at w.b B h
both_sets w [] = refl
both_sets w (x ∷ h) = omega (arith, sum_by-cons (λ (y : Happening). set_beyond (end_of w y.end) y.call y.answer) x h, both_sets w h, part x.end x.call x.answer)
  where
    part : (t : Side) (call : Call) (answer : Answer call) → set_beyond (end_of w t) call answer ≡ (if same_side A t then set_beyond w.a call answer else 0) + (if same_side B t then set_beyond w.b call answer else 0)
    part A call answer = omega arith
    part B call answer = omega arith

pub lanes_few : (a b : Settings) (h : History) (w : World) → Run a b h w → lanes_most w ≤ most h w
lanes_few a b h w run = omega (arith, written_few a b h w ok A, written_few a b h w ok B, given A, given B, both_sets w h)
  where
    ok : WorldOk a b h w
    ok = run_keeps a b h w run

    given : (s : Side) → given_at (end_of w s) ≤ set_at (end_of w s) s h
    given s =
        let role : role_of s ≡ (end_of w s).role = sym (ap (λ y. y.role) (ok.stand s)) in
        let settings : settings_of a b s ≡ (end_of w s).settings = sym (ap (λ y. y.settings) (ok.stand s)) in
        let few = given_few a b h w ok s (run_sets a b h w run s) in
        let own : given_at (end_of w s) ≤ conn_set (end_of w s).settings s h + bidi_set (end_of w s).settings s h + uni_set (end_of w s).settings s h + all (streams_set (end_of w s).role (end_of w s).settings s h) =
        subst (λ st. given_at (end_of w s) ≤ conn_set st s h + bidi_set st s h + uni_set st s h + all (streams_set (end_of w s).role st s h)) settings
        (subst (λ r. given_at (end_of w s) ≤ conn_set (settings_of a b s) s h + bidi_set (settings_of a b s) s h + uni_set (settings_of a b s) s h + all (streams_set r (settings_of a b s) s h)) role few) in
        omega (arith, own, set_at_is (end_of w s) s h)
