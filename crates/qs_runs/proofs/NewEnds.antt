-- A new end meets the invariant: nothing was made, written or read.
use Rattle.std.proofs.lemmas.Bool.Decides.{nat_tests}
use Rattle.std.proofs.Common.{◌≡◌, ℕ, true, false, [], length, None, Result, Ok, is_some, sym, ap, ◌∙◌, subst, arith, inl, nat_cmp}
use Rattle.std.proofs.lemmas.Option.{none-some}
use Rattle.std.proofs.lemmas.Bool.{false≢true}
use Rattle.std.specs.FinSet as set
use Rattle.std.specs.FinMap as fmap
use Rattle.qs_wire.specs.declared.stream_id.Role.{Role}
use Rattle.qs_wire.specs.declared.stream_id.Role.TheVariants.{Client, Server}
use Rattle.qs_recv.specs.Lane.{RecvLane}
use Rattle.qs_send.specs.Lane.{SendLane}
use Rattle.qs_calls.specs.declared.settings.Settings.{Settings}
use Rattle.qs_calls.specs.declared.settings.Tuning.{Tuning}
use Rattle.qs_calls.specs.declared.settings.PeerLimits.{PeerLimits}
use Rattle.qs_calls.specs.declared.settings.SetupFault.{SetupFault}
use Rattle.qs_calls.specs.Settings.{limits_of, default_tuning}
use Rattle.qs_machine.specs.Tables.{total, no_streams}
use Rattle.qs_machine.specs.Ends.{End, first_send_limit, first_window, new_end, end_made, wide_end_made}
use Rattle.qs_machine.specs.Seen.{Seen}
use Rattle.qs_machine.proofs.Counts.{new_ends_wide}
use Rattle.qs_machine.proofs.Ties.{nowhere}
use Rattle.qs_calls.specs.declared.event.Side.{Side}
use Rattle.qs_calls.specs.declared.event.Side.TheVariants.{A, B}
use Rattle.qs_runs.specs.Logs.{other}
use Rattle.qs_runs.specs.Worlds.{World, AreGranted, Begins, begun_with, both_made, end_of}
use Rattle.qs_runs.specs.Events.{world_made}
use Rattle.std.specs.List.{AllByRecursion}
use Rattle.qs_runs.specs.Pasts.{Packets, Past, Tells}
use Rattle.qs_runs.specs.Invariant.{EndOk, SendSlot, RecvSlot, FrameTaken, is_open, role_of, settings_of}

pub tells_nothing : (ms : Packets) (f : Seen) → ms ≡ [] → Tells ms f → ⊥
tells_nothing ms f none (k, (fs, at, a)) = none-some fs (rw none at at)

module _ (role : Role) (own : Settings) (tuned : Tuning) (told : PeerLimits) (p : Past) (made : p.mine ≡ []) (wrote : (n : ℕ) → p.bytes n ≡ []) (gave : (n : ℕ) → p.gave n ≡ []) (stopped : (n : ℕ) → p.stopped n ≡ false) (ended : (n : ℕ) → p.ended n ≡ false) (processed : (k : ℕ) → p.processed k ≡ false) (taken : p.taken ≡ []) where
  new_send : (n limit : ℕ) → SendSlot p n limit None
  new_send n limit = grind (arith, nat_tests)

  new_recv : (n window : ℕ) → RecvSlot p n window None
  new_recv n window = grind (arith, nat_tests)

  not_open : (X : Type 0) (n : ℕ) → is_open (no_streams {X = X}) n ≡ true → ⊥
  not_open X n is = false≢true (sym (ap is_some (nowhere {X = X} n)) ∙ is)

  pub new_ok : EndOk p (new_end role own tuned told)
  unfolding total
  new_ok =
      record {
        sends = λ n. subst (SendSlot p n (first_send_limit (new_end role own tuned told) n)) (sym (nowhere n)) (new_send n (first_send_limit (new_end role own tuned told) n));
        recvs = λ n. subst (RecvSlot p n (first_window (new_end role own tuned told) n)) (sym (nowhere n)) (new_recv n (first_window (new_end role own tuned told) n));
        packets = record {
          count = sym (ap length made);
          records = λ k ps x is a. absurd (none-some ps (sym (fmap.get-empty nat_cmp k) ∙ is));
          lost_records = λ k ps x is a. absurd (none-some ps (sym (fmap.get-empty nat_cmp k) ∙ is));
          acks_told = λ largest ranges t. absurd (tells_nothing p.mine _ made t);
          kinds = λ f t. absurd (tells_nothing p.mine f made t);
          is_done = λ k is. absurd (false≢true (sym (set.contains-empty nat_cmp k) ∙ is));
          above = λ k is. omega arith;
          kept = λ k is. absurd (false≢true (sym (processed k) ∙ is));
        };
        taken = subst (AllByRecursion (FrameTaken no_streams)) (sym taken) tt;
        credit = record { sent_known = omega arith; known_told = inl (omega arith); window_granted = omega arith; granted_told = λ limit t. absurd (tells_nothing p.mine _ made t) };
        streams = record {
          own_send = λ n is o. absurd (not_open SendLane n is);
          own_recv = λ n is o. absurd (not_open RecvLane n is);
          own_both = λ n is o b. absurd (not_open SendLane n is);
          their_send = λ n is o. absurd (not_open SendLane n is);
          their_recv = λ n is o. absurd (not_open RecvLane n is);
          bidi_told = inl (omega arith);
          uni_told = inl (omega arith);
        };
      }

-- the two ends that the first world has, each told limits of the other
abbrev pub first_world : (a b : Settings) (x y : Tuning) (of_a of_b : PeerLimits) → World
first_world a b x y of_a of_b = record { a = new_end Client a x of_b; b = new_end Server b y of_a }

pub made_first : (a b : Settings) (x y : Tuning) (of_a of_b : PeerLimits) (w : World) → begun_with a b x y of_a of_b ≡ Ok w → w ≡ first_world a b x y of_a of_b
made_first a b x y of_a of_b w is = grind (arith, nat_tests)

-- each end of it was made
two_made : (x y : Result End SetupFault) (w : World) → both_made x y ≡ Ok w → (x ≡ Ok w.a) × (y ≡ Ok w.b)
two_made x y w e = grind (arith, nat_tests)

pub ends_made : (a b : Settings) (x y : Tuning) (of_a of_b : PeerLimits) (w : World) → begun_with a b x y of_a of_b ≡ Ok w → (wide_end_made Client a x of_b ≡ Ok w.a) × (wide_end_made Server b y of_a ≡ Ok w.b)
ends_made a b x y of_a of_b w is = two_made (wide_end_made Client a x of_b) (wide_end_made Server b y of_a) w is

-- so what holds of an end that was made, told limits that its peer grants, holds of both
pub each_begun : (P : Side → End → Type 0) (a b : Settings) (w : World) → Begins a b w →
    ((s : Side) (t : Tuning) (told : PeerLimits) → wide_end_made (role_of s) (settings_of a b s) t told ≡ Ok (new_end (role_of s) (settings_of a b s) t told) → AreGranted told (settings_of a b (other s)) → P s (new_end (role_of s) (settings_of a b s) t told)) →
    (s : Side) → P s (end_of w s)
each_begun P a b w begins each s = subst (λ x. P s (end_of x s)) (sym is) (by s)
  where
    is : w ≡ first_world a b begins.tuned_a begins.tuned_b begins.of_a begins.of_b
    is = made_first a b begins.tuned_a begins.tuned_b begins.of_a begins.of_b w begins.begun

    by : (s : Side) → P s (end_of (first_world a b begins.tuned_a begins.tuned_b begins.of_a begins.of_b) s)
    by A = each A begins.tuned_a begins.of_b (ends_made a b begins.tuned_a begins.tuned_b begins.of_a begins.of_b (first_world a b begins.tuned_a begins.tuned_b begins.of_a begins.of_b) (begins.begun ∙ ap Ok is)).0 begins.granted_b
    by B = each B begins.tuned_b begins.of_a (ends_made a b begins.tuned_a begins.tuned_b begins.of_a begins.of_b (first_world a b begins.tuned_a begins.tuned_b begins.of_a begins.of_b) (begins.begun ∙ ap Ok is)).1 begins.granted_a

-- an end grants its own limits
pub all_granted : (s : Settings) → AreGranted (limits_of s) s
all_granted s = record { max_data = omega arith; bidi_local = omega arith; bidi_remote = omega arith; uni = omega arith; streams_bidi = omega arith; streams_uni = omega arith }

-- two ends of a script's ranges are of the wide ones, too
pub made_wide : (a b : Settings) (w : World) → world_made a b ≡ Ok w → begun_with a b default_tuning default_tuning (limits_of a) (limits_of b) ≡ Ok w
made_wide a b w is =
    let made = two_made (end_made Client a (limits_of b)) (end_made Server b (limits_of a)) w is in
    let client = new_ends_wide Client a (limits_of b) w.a made.0 in
    let server = new_ends_wide Server b (limits_of a) w.b made.1 in
    ap (λ r. both_made r (wide_end_made Server b default_tuning (limits_of a))) client ∙ ap (λ r. both_made (Ok w.a) r) server

pub begins_true : (a b : Settings) (w : World) → world_made a b ≡ Ok w → Begins a b w
begins_true a b w is = record { tuned_a = default_tuning; tuned_b = default_tuning; of_a = limits_of a; of_b = limits_of b; granted_a = all_granted a; granted_b = all_granted b; begun = made_wide a b w is }
