-- As each call ends every limit is its own next one.
use Rattle.std.proofs.Common.{◌≡◌, Option, Some, None, refl, sym, ap, ◌∙◌, subst, arith}
use Rattle.std.specs.Prelude.{Ok, option_map}
use Rattle.std.proofs.lemmas.Bool.Decides.{nat_tests}
use Rattle.std.proofs.lemmas.Option.{same_Some, none-some}
use Rattle.qs_wire.specs.declared.stream_id.Role.{Role}
use Rattle.qs_recv.specs.Lane.{RecvLane, taken, raise, next_limit}
use Rattle.qs_calls.specs.declared.settings.Settings.{Settings}
use Rattle.qs_calls.specs.declared.settings.Tuning.{Tuning}
use Rattle.qs_calls.specs.declared.settings.PeerLimits.{PeerLimits}
use Rattle.qs_calls.specs.Settings.{wide_setup_fault}
use Rattle.qs_machine.specs.Tables.{total}
use Rattle.qs_machine.specs.Ends.{End, new_end, wide_end_made}
use Rattle.qs_machine.specs.Credit.{settle, all_taken}
use Rattle.qs_machine.specs.EndStep.{Call, Answer, EndStep}
use Rattle.qs_machine.specs.SettledLimits.{LimitsAreSettled}
use Rattle.qs_machine.proofs.Counts.{made_end, no_lane}
use Rattle.qs_machine.proofs.EveryCall.{ends_by}
use Rattle.qs_machine.proofs.Again.{next_twice}
use Rattle.qs_machine.proofs.TableLaws.{lookup_each, total_each}

none_taken : (role : Role) (s : Settings) (t : Tuning) (p : PeerLimits) → all_taken (new_end role s t p) ≡ 0
unfolding total
none_taken role s t p = refl

new_settled : (role : Role) (s : Settings) (t : Tuning) (p : PeerLimits) → LimitsAreSettled (new_end role s t p)
new_settled role s t p =
    record {
      connection = ap (λ k. next_limit s.conn_window k s.conn_window t.credit_step) (none_taken role s t p) ∙ (grind (arith, nat_tests));
      streams = λ n l is. absurd (none-some l (sym (no_lane n) ∙ is));
    }

pub new_ends_settled : (role : Role) (s : Settings) (t : Tuning) (p : PeerLimits) (e : End) → wide_end_made role s t p ≡ Ok e → LimitsAreSettled e
new_ends_settled role s t p e made = subst LimitsAreSettled (made_end (wide_setup_fault s p) (new_end role s t p) e made).1 (new_settled role s t p)

-- a limit that was raised isn't raised again
raised_stays : (k l : RecvLane) → raise k ≡ l → l.final_size ≡ None → next_limit l.limit (taken l) l.window l.share ≡ l.limit
raised_stays k l is none = grind arith

found : (o : Option RecvLane) (l : RecvLane) → option_map raise o ≡ Some l → (k : RecvLane) × (raise k ≡ l)
found None l is = absurd (none-some l is)
found (Some k) l is = (k, same_Some (raise k) l is)

settles : (e : End) → LimitsAreSettled (settle e)
settles e = grind (arith, nat_tests, total_each, next_twice, found, lookup_each, raised_stays)

pub calls_settle : (old : End) (call : Call) (answer : Answer call) (new : End) → LimitsAreSettled old → EndStep old call answer new → LimitsAreSettled new
calls_settle old call answer new h step = ends_by LimitsAreSettled old h settles (λ k p e is. record { connection = is.connection; streams = is.streams }) (record { connection = h.connection; streams = h.streams }) (λ c. record { connection = h.connection; streams = h.streams }) call answer new step
