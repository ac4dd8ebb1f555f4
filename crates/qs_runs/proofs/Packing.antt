-- An ACK alone and what is filled in are packets of `make_packet`, or nothing happens; and what each call of an owner leaves.
use Rattle.std.proofs.lemmas.Bool.Decides.{nat_tests}
use Rattle.std.proofs.Common.{arith}
use Rattle.std.proofs.Common.{◌≡◌, ℕ, List, [], length, inl, inr, Option, None, Some, Result, Ok, Err, sym, subst, refl, ap}
use Rattle.std.specs.Prelude.{flat_map}
use Rattle.qs_calls.specs.declared.filling.Fill.{Fill}
use Rattle.qs_calls.specs.declared.filling.Filled.{Filled}
use Rattle.qs_calls.specs.declared.making.Made.{Made}
use Rattle.qs_calls.specs.declared.making.MakeFault.{MakeFault}
use Rattle.qs_calls.specs.declared.making.MakeFault.TheVariants as making
use Rattle.qs_machine.specs.Ends.{End}
use Rattle.qs_machine.specs.Making.{MakeStep, MakeAt, MakeAckStep, make_refusal}
use Rattle.qs_machine.specs.Filling.{FillStep, FillAt, as_made}
use Rattle.qs_machine.specs.EndStep.{Call, Answer, EndStep, Make, MakeAck, FillIn, Claim}
use Rattle.qs_machine.proofs.Ways.{ack_packet}
use Rattle.qs_runs.specs.Logs.{Effect, effects_of, sent_in}
use Rattle.qs_runs.specs.Pasts.{Past, packets_in}
use Rattle.qs_runs.specs.Invariant.{EndOk}
use Rattle.qs_runs.proofs.Past.{with_effects}
use Rattle.qs_runs.proofs.Wire.{ping_faultless, ping_fits}
use Rattle.qs_runs.proofs.OwnMoves.{Hears, ended_by, packet_moves, claim_moves, own_moves}
use Rattle.qs_runs.proofs.Granting.{TellCounts, packet_counts, claim_counts}
use Rattle.qs_runs.proofs.Histories.{AreFaultless, packet_faultless, none_sent}

-- What a call leaves of an end: its invariant, with what the call did; the packets that it sent tell counts that are granted, and have no fault.
pub record Leaves (p : Past) (e new : End) (xs : List Effect) : Type 0 where
  pub ok : EndOk (with_effects xs p) new
  pub counts : TellCounts e (packets_in xs)
  pub faultless : AreFaultless (flat_map sent_in xs)

-- where it sent none
pub none_leaves : (p : Past) (e new : End) (xs : List Effect) → flat_map sent_in xs ≡ [] → EndOk (with_effects xs p) new → Leaves p e new xs
none_leaves p e new xs none ok = grind (arith, nat_tests)

module _ (p : Past) (e new : End) (ok : EndOk p e) where
  packet_leaves : (first delay room : ℕ) (answer : Result (Option Made) MakeFault) (text : List ℕ) → MakeStep e first delay room answer text new → Leaves p e new (effects_of (Make first delay room) (answer, text))
  packet_leaves first delay room answer text step =
      record { ok = packet_moves p e new ok first delay room answer text step; counts = packet_counts e new first delay room answer text step; faultless = packet_faultless e first delay room answer text new step }

  pub nothing_leaves : (xs : List Effect) → xs ≡ [] → new ≡ e → Leaves p e new xs
  nothing_leaves xs none same = subst (Leaves p e new) (sym none) (none_leaves p e new [] refl (ended_by p e new same ok))

  ack_leaves : (delay room : ℕ) (result : Result (Option Made) MakeFault) (text : List ℕ) → MakeAckStep e delay room result text new → Leaves p e new (effects_of (MakeAck delay room) (result, text))
  ack_leaves delay room result text step =
      elim (ack_packet e new 0 delay room result text step) [
        | inl made ↦ packet_leaves 0 delay (length text) result text made
        | inr none ↦ nothing_leaves _ (ap (λ r. effects_of (MakeAck delay room) (r, text)) none.0) none.2
      ]

  fill_leaves : (want : Fill) (room : ℕ) (result : Result (Option Filled) MakeFault) (text : List ℕ) → FillStep e want room result text new → Leaves p e new (effects_of (FillIn want room) (result, text))
  fill_leaves want room result text step = by (make_refusal e) refl result step
    where
      by : (o : Option MakeFault) → make_refusal e ≡ o → (r : Result (Option Filled) MakeFault) → FillAt o e want room r text new → Leaves p e new (effects_of (FillIn want room) (r, text))
      by (Some fault) is r h = nothing_leaves _ (ap (λ x. effects_of (FillIn want room) (x, text)) h.0) h.2
      by None is (Ok (Some filled)) h =
          packet_leaves want.first 0 (length text) (Ok (Some (as_made filled))) text (subst (λ o. MakeAt o e want.first 0 (length text) (Ok (Some (as_made filled))) text new) (sym is) h.made)
      by None is (Err making.Closed) h = absurd h
      by None is (Err making.Exhausted) h = absurd h
      by None is r h = nothing_leaves _ refl h.2

  claim_faultless : (r : Result ℕ MakeFault) → AreFaultless (flat_map sent_in (effects_of Claim r))
  claim_faultless r = grind (arith, nat_tests, ping_faultless, ping_fits)

  -- each call in which an end hears nothing of its peer
  pub own_leaves : (call : Call) (answer : Answer call) → (Hears call → ⊥) → EndStep e call answer new → Leaves p e new (effects_of call answer)
  own_leaves (Make first delay room) answer deaf step = packet_leaves first delay room answer.0 answer.1 step
  own_leaves (MakeAck delay room) answer deaf step = ack_leaves delay room answer.0 answer.1 step
  own_leaves (FillIn want room) answer deaf step = fill_leaves want room answer.0 answer.1 step
  own_leaves Claim answer deaf step = record { ok = claim_moves p e new ok answer step; counts = claim_counts e answer; faultless = claim_faultless answer }
  own_leaves call answer deaf step = none_leaves p e new (effects_of call answer) (none_sent call answer (λ no. no)) (own_moves p e new call answer deaf (λ no. no) ok step)
