-- What only grows, whatever happens: what was sent and granted, what is known and was read, and what arrived.
use Rattle.std.proofs.lemmas.Bool.Decides.{nat_tests}
use Rattle.std.proofs.Common.{◌≡◌, ℕ, ◌/◌, ◌%◌, ◌<◌, ◌≤◌, Bool, true, ◌||◌, List, [], ◌∷◌, length, slice_get, sum_by, Option, Some, None, is_some, sym, subst, refl, ap, ◌∙◌, arith}
use Rattle.std.specs.Prelude.{flat_map}
use Rattle.std.proofs.lemmas.Bool.{cond_both}
use Rattle.std.proofs.lemmas.List.Sums.{sum_by-cons}
use Rattle.std.proofs.lemmas.Option.{slice_get_within}
use Rattle.qs_recv.specs.Assembled.{discard}
use Rattle.qs_recv.specs.Lane.{RecvLane, after_answer, stop, is_over}
use Rattle.qs_recv.specs.declared.half.Read.{Read}
use Rattle.qs_recv.proofs.LawfulLaws.{raised_grows, under_grows}
use Rattle.qs_send.specs.Lane.{SendLane, stop_taken}
use Rattle.qs_send.specs.Records.{Among}
use Rattle.qs_calls.specs.declared.event.Side.{Side}
use Rattle.qs_calls.specs.declared.settings.Settings.{Settings}
use Rattle.qs_machine.specs.Tables.{Tables, table, lookup, total}
use Rattle.qs_machine.specs.Ends.{End}
use Rattle.qs_machine.specs.EndStep.{Call, Answer as CallAnswer, EndStep}
use Rattle.qs_machine.specs.Seen.{Seen}
use Rattle.qs_machine.proofs.EachHalf.{SendEdit, send_edited, sends_kept, RecvEdit, recv_edited, recvs_kept}
use Rattle.qs_machine.proofs.Rising.{rises_call}
use Rattle.qs_machine.proofs.TableLaws.{value, total_le}
use Rattle.qs_machine.proofs.TablesAfter.{KeptIn, kept_same, kept_twice}
use Rattle.qs_runs.specs.Clauses.{HasArrived}
use Rattle.qs_runs.specs.Logs.{History, Happening, other, taken, took_in}
use Rattle.qs_runs.specs.Worlds.{end_of, WorldStep}
use Rattle.qs_runs.proofs.Histories.{did, effects_there, taken_here, two_sides}
use Rattle.qs_runs.proofs.Lists.{Among_left}
use Rattle.qs_runs.proofs.Stays.{each_side}
use Rattle.qs_progress.specs.Laps.{Moment, Trail}
use Rattle.qs_progress.specs.Comes.{IsReached}
use Rattle.qs_progress.specs.Windows.{senders}
use Rattle.qs_progress.proofs.Filled.{SentMore}
use Rattle.qs_progress.proofs.Sums.{le_same}
use Rattle.qs_progress.proofs.Trails.{reached}

-- Halves

abbrev pub MoreSent : SendLane → SendLane → Type 0
MoreSent l m = (l.sent_end ≤ m.sent_end) × (is_some l.was_reset ≡ true → is_some m.was_reset ≡ true) × (l.limit ≤ m.limit)

more_same : (l : SendLane) → MoreSent l l
more_same l = (le_same l.sent_end, λ is. is, le_same l.limit)

more_twice : (l m k : SendLane) → MoreSent l m → MoreSent m k → MoreSent l k
more_twice l m k a b = (omega (arith, a.0, b.0), λ is. b.1 (a.1 is), omega (arith, a.2, b.2))

more_stopped : (answers : Bool) (code : ℕ) (l : SendLane) → MoreSent l (stop_taken answers l code)
more_stopped answers code l = grind (arith, nat_tests)

more_edits : (x : SendEdit) (l : SendLane) → MoreSent l (send_edited x l)
more_edits x l = grind (arith, nat_tests, cond_both, more_same, le_same, more_stopped)

abbrev pub ReadsOn : RecvLane → RecvLane → Type 0
ReadsOn l m =
    (l.arrived.read_count ≤ m.arrived.read_count)
    × (is_some l.reset_code ≡ true → is_some m.reset_code ≡ true)
    × (is_some l.stop_code ≡ true → is_some m.stop_code ≡ true)
    × (is_some l.final_size ≡ true → is_some m.final_size ≡ true)
    × (l.limit ≤ m.limit)

on_same : (l : RecvLane) → ReadsOn l l
on_same l = (le_same l.arrived.read_count, λ is. is, λ is. is, λ is. is, le_same l.limit)

on_twice : (l m k : RecvLane) → ReadsOn l m → ReadsOn m k → ReadsOn l k
on_twice l m k a b = (omega (arith, a.0, b.0), λ is. b.1 (a.1 is), λ is. b.2 (a.2 is), λ is. b.3 (a.3 is), omega (arith, a.4, b.4))

on_read : (answer : Read) (size : ℕ) (l : RecvLane) → ReadsOn l (after_answer answer l size)
on_read answer size l = grind (arith, nat_tests)

on_stopped : (code : ℕ) (l : RecvLane) → ReadsOn l (stop l code)
on_stopped code l =
    cond_both (is_some l.stop_code || is_over l) l (record l { arrived = discard l.arrived; stop_code = Some code }) (ReadsOn l) (λ _. on_same l)
    (λ _. (le_same l.arrived.read_count, λ is. is, λ is. refl, λ is. is, le_same l.limit))

on_edits : (x : RecvEdit) (l : RecvLane) → ReadsOn l (recv_edited x l)
on_edits x l = grind (arith, nat_tests, on_stopped, on_read, le_same, under_grows, cond_both, on_same, raised_grows)

-- Ends

pub record EndGoes (e f : End) : Type 0 where
  pub sends : KeptIn MoreSent e.sends f.sends
  pub recvs : KeptIn ReadsOn e.recvs f.recvs
  pub granted : e.granted ≤ f.granted
  pub known : e.known_data ≤ f.known_data

pub end_stays : (e : End) → EndGoes e e
end_stays e = record { sends = kept_same MoreSent more_same e.sends; recvs = kept_same ReadsOn on_same e.recvs; granted = le_same e.granted; known = le_same e.known_data }

pub end_twice : (e f g : End) → EndGoes e f → EndGoes f g → EndGoes e g
end_twice e f g x y =
    record {
      sends = kept_twice MoreSent more_same more_twice e.sends f.sends g.sends x.sends y.sends;
      recvs = kept_twice ReadsOn on_same on_twice e.recvs f.recvs g.recvs x.recvs y.recvs;
      granted = (let low = x.granted in let high = y.granted in omega (arith, low, high));
      known = (let low = x.known in let high = y.known in omega (arith, low, high));
    }

end_call : (old : End) (call : Call) (answer : CallAnswer call) (new : End) → EndStep old call answer new → EndGoes old new
end_call old call answer new step =
    let rises = rises_call old call answer new step in
    record {
      sends = (sends_kept MoreSent more_same more_twice more_edits old call answer new step).1;
      recvs = recvs_kept ReadsOn on_same on_twice on_edits old call answer new step;
      granted = rises.0;
      known = rises.1;
    }

-- what an end sent
pub value_sent : (o : Option SendLane) → value (λ (l : SendLane). l.sent_end) o ≡ elim o as (λ _. ℕ) [ None ↦ 0 | Some l ↦ l.sent_end ]
value_sent None = refl
value_sent (Some l) = refl

pub sent_grows : (e f : End) → EndGoes e f → (n : ℕ) → value (λ (l : SendLane). l.sent_end) (lookup e.sends n) ≤ value (λ (l : SendLane). l.sent_end) (lookup f.sends n)
sent_grows e f goes n = go (lookup e.sends n) refl
  where
    go : (o : Option SendLane) → lookup e.sends n ≡ o → value (λ (l : SendLane). l.sent_end) o ≤ value (λ (l : SendLane). l.sent_end) (lookup f.sends n)
    go None is = omega arith
    go (Some l) is = (let (m, there, more) = goes.sends n l is in rw there more.0)

pub sends_more : (e f : End) → EndGoes e f → SentMore e f
sends_more e f goes =
    record {
      all = total_le (λ (l : SendLane). l.sent_end) (λ (l : SendLane). l.sent_end) e.sends f.sends (sent_grows e f goes);
      each = λ n.
          let before = value_sent (lookup e.sends n) in
          let after = value_sent (lookup f.sends n) in
          let grows = sent_grows e f goes n in
          omega (arith, before, after, grows);
    }

-- Moments

still_taken : (x : Happening) (h : History) (s : Side) (f : Seen) → Among f (taken s h) → Among f (taken s (x ∷ h))
still_taken x h s f = two_sides (λ t. Among f (taken t h) → Among f (taken t (x ∷ h))) x.end
    (λ a. subst (Among f) (sym (taken_here x h)) (Among_left (taken x.end h) (flat_map took_in (did x h)) f a))
    (λ a. subst (Among f) (sym (ap (flat_map took_in) (effects_there x h))) a) s

pub record Later (a b : Settings) (old new : Moment) : Type 0 where
  pub is_reached : IsReached a b new
  pub goes : (s : Side) → EndGoes (end_of old.ends s) (end_of new.ends s)
  pub arrived : (s : Side) (f : Seen) → HasArrived old.log s f → HasArrived new.log s f

module _ (a b : Settings) where
  pub later_same : (m : Moment) → IsReached a b m → Later a b m m
  later_same m r = record { is_reached = r; goes = λ s. end_stays (end_of m.ends s); arrived = λ s f is. is }

  pub later_twice : (old mid new : Moment) → Later a b old mid → Later a b mid new → Later a b old new
  later_twice old mid new x y =
      record {
        is_reached = y.is_reached;
        goes = λ s. end_twice (end_of old.ends s) (end_of mid.ends s) (end_of new.ends s) (x.goes s) (y.goes s);
        arrived = λ s f is. y.arrived s f (x.arrived s f is);
      }

  later_step : (old new : Moment) (x : Happening) → IsReached a b old → new.log ≡ x ∷ old.log → WorldStep old.log old.ends x new.ends → Later a b old new
  later_step old new x r logged step =
      record {
        is_reached = reached a b old new x r logged step;
        goes = λ s. each_side EndGoes end_stays old.ends new.ends (λ t call answer made. end_call (end_of old.ends t) call answer (end_of new.ends t) made) old.log x step s;
        arrived = λ s f is. subst (λ h. HasArrived h s f) (sym logged) (still_taken x old.log (other s) f is);
      }

  pub onward : (Is : Call → Type 0) (ms : List Moment) (old new : Moment) → IsReached a b old → Trail Is old ms new → Later a b old new
  onward Is [] old new r is = subst (Later a b old) (sym is) (later_same old r)
  onward Is (m ∷ ms) old new r ((x, kind, logged, step), rest) =
      let first = later_step old m x r logged step in
      later_twice old m new first (onward Is ms m new first.is_reached rest)

-- how many sending halves there are
pub senders_more : (e f : End) → EndGoes e f → senders e ≤ senders f
senders_more e f goes = total_le (λ (l : SendLane). 1) (λ (l : SendLane). 1) e.sends f.sends (λ n. go (lookup e.sends n) (lookup f.sends n) (λ l is. let (m, there, more) = goes.sends n l is in (m, there)))
  where
    go : (o p : Option SendLane) → ((x : SendLane) → o ≡ Some x → (y : SendLane) × (p ≡ Some y)) → value (λ (l : SendLane). 1) o ≤ value (λ (l : SendLane). 1) p
    go None p more = omega arith
    go (Some x) p more = (let (y, is) = more x refl in rw is (omega arith))

sum_ones : {X : Type 0} (xs : List X) → sum_by (λ (x : X). 1) xs ≡ length xs
sum_ones [] = refl
sum_ones {X} (y ∷ xs) = sum_by-cons (λ (x : X). 1) y xs ∙ omega (arith, sum_ones xs)

-- a stream that has a half is counted
pub is_counted : {X : Type 0} (t : Tables X) (n : ℕ) (x : X) → lookup t n ≡ Some x → n / 4 < total (λ (y : X). 1) t
unfolding lookup total
is_counted {X} t n x is = by (n % 4) is
  where
    by : (k : ℕ) → slice_get (table t k) (n / 4) ≡ Some x → n / 4 < total (λ (y : X). 1) t
    by k at = grind (arith, nat_tests, slice_get_within, sum_ones)
