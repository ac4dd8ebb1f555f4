use Rattle.std.proofs.Common.{List, ◌≡◌, ℕ, Bool, true, false, not, ◌&&◌, Option, Some, None, refl, ap, sym, ◌∙◌, arith, rules, subst, cond, replicate}
use Rattle.std.specs.FinSet as set
use Rattle.std.proofs.lemmas.Bool.{true≢false}
use Rattle.std.proofs.lemmas.Bool.Decides.{nat_tests}
use Rattle.qs_ranges.specs.Numbers.{NumberSet, run_starts}
use Rattle.qs_wire.specs.declared.stream_id.Role.{Role}
use Rattle.qs_recv.specs.Lane.{RecvLane}
use Rattle.qs_calls.specs.declared.settings.Settings.{Settings}
use Rattle.qs_calls.specs.declared.settings.Tuning.{Tuning}
use Rattle.qs_calls.specs.declared.settings.PeerLimits.{PeerLimits}
use Rattle.qs_calls.specs.declared.settings.SetupFault.TheVariants.{OutOfRange, TooManyStreams}
use Rattle.qs_calls.specs.Settings.{are_in_wide_range, are_spellable, are_countable, wide_setup_fault}
use Rattle.qs_machine.specs.Tables.{Tables, no_streams}
use Rattle.qs_machine.specs.Ends.{first_present, new_end, end_unless}
use Rattle.qs_machine.specs.Standing.{KeepsCredit}
use Rattle.qs_machine.specs.Outgoing.{Outgoing, no_packets, sent_sum}
use Rattle.qs_conn.specs.declared.by_dir.ByDir.{ByDir}
use Rattle.qs_conn.specs.Middle.{IsKept}
use Rattle.qs_conn.specs.OwnTold.{Kept}
use Rattle.qs_conn.proofs.DuePackets.{due_none, nothing_put}
use Rattle.qs_conn.proofs.Owns.{own_new}
use Rattle.qs_conn.proofs.Cores.{fit_new}
use Rattle.qs_conn.proofs.Stages.{no_sum, no_runs}
use Rattle.qs_conn.proofs.AckRuns.{idle_new}
use Rattle.qs_conn.specs.Due.{packets_of}
use Rattle.qs_machine.proofs.Counts.{new_ends_sound}
use Rattle.qs_conn.proofs.endpoint.Endpoint.begun.Goals as goal

record AllTrue (a b c : Bool) : Type 0 where
  pub first : a ≡ true
  pub second : b ≡ true
  pub third : c ≡ true

all_true : (a b c : Bool) → cond (not (a && b)) (Some OutOfRange) (cond (not c) (Some TooManyStreams) None) ≡ None → AllTrue a b c
all_true true true true h = record { first = refl; second = refl; third = refl }
all_true _ _ _ h = absurd (search (rules, h))

-- a new end
kept_new : (role : Role) (s : Settings) (tuned : Tuning) (p : PeerLimits) (wanted : ByDir (Option ℕ)) (o : Outgoing) (recvs : Tables RecvLane) (t : Tables (List ℕ)) (xs : Kept) (done : NumberSet) → wide_setup_fault s p ≡ None → o ≡ no_packets → recvs ≡ no_streams → done ≡ set.empty → xs ≡ replicate 6 None
    → IsKept
    (record {
      limits = record {
        role = role;
        settings = s;
        tuning = tuned;
        conn_window = s.conn_window;
        widest = s.conn_window;
        grants = record { bidi = s.grant_bidi; uni = s.grant_uni };
        granted = s.conn_window;
        known_data = p.max_data;
        granted_streams = record { bidi = s.grant_bidi; uni = s.grant_uni };
        known_streams = record { bidi = p.streams_bidi; uni = p.streams_uni };
        wanted_streams = wanted;
      };
      outbox = o;
      recvs = recvs;
      due = t;
      own = xs;
      ended = record { bidi = 0; uni = 0 };
    })
    p done false false None
kept_new role s tuned p wanted o recvs t xs done is empty none no_numbers no_values =
    let h = all_true (are_in_wide_range s) (are_spellable p) (are_countable p) is in
    let in_range = h.first in
    let spellable = h.second in
    let countable = h.third in
    let sum : sent_sum o.sends ≡ 0 = ap (λ (x : Outgoing). sent_sum x.sends) empty ∙ no_sum in
    let runs : set.len (run_starts done) ≡ 0 = ap (λ (t : NumberSet). set.len (run_starts t)) no_numbers ∙ no_runs in
    record {
      rest = record {
        core = record {
          sound = subst (λ (t : Tables RecvLane). KeepsCredit role s (first_present s) t s.conn_window) (sym none) (new_ends_sound role s tuned p (new_end role s tuned p) (ap (λ o. end_unless o (new_end role s tuned p)) is)).0;
          fits = record {
            granted = grind (arith, nat_tests, in_range);
            granted_bidi = grind (arith, nat_tests, in_range);
            granted_uni = grind (arith, nat_tests, in_range);
            known = grind (arith, nat_tests, spellable);
            bidi = grind (arith, nat_tests, countable);
            uni = grind (arith, nat_tests, countable);
          };
          credit = omega (arith, sum);
          counts = fit_new role s recvs o.sends in_range none;
          due = due_none role s recvs o.sends (packets_of o) t none (ap (λ (x : Outgoing). x.sends) empty) (nothing_put o empty);
          own = own_new _ o xs empty no_values;
        };
        idle = idle_new o empty;
      };
      peer_fits = spellable;
      closing_fits = tt;
      few = omega (arith, runs);
      acks = λ due. absurd (true≢false (sym due));
      settled = λ on. absurd (true≢false (sym on));
    }

pub invariant_of-result : goal.invariant_of-result
invariant_of-result c = rw (c.new.ensures, c.new-2.ensures, c.new-3.ensures, c.new-9.ensures) (search (rules, kept_new))
