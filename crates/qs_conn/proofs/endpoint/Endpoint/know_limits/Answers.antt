use Rattle.std.proofs.Common.{rules, ◌≡◌, Bool, Some, None, true, refl, ap, ◌∙◌, arith}
use Rattle.std.specs.Prelude.{◌≤◌, ◌^◌, not, if◌then◌else◌}
use Rattle.std.proofs.lemmas.Bool.Decides.{nat_tests}
use Rattle.qs_ranges.specs.Numbers.{MAX_VARINT}
use Rattle.qs_calls.specs.Settings.{are_spellable, are_countable}
use Rattle.qs_calls.specs.declared.settings.PeerLimits.{PeerLimits}
use Rattle.qs_calls.specs.declared.settings.SetupFault.TheVariants.{OutOfRange, TooManyStreams}
use Rattle.qs_machine.specs.Raising.{greater_limits}
use Rattle.qs_conn.proofs.Cores.{rest_known}
use Rattle.qs_conn.proofs.endpoint.Endpoint.know_limits.Goals as goal

-- limits that aren't refused can be spelled and counted
both_true : (b c : Bool) → (if not b then Some OutOfRange else (if not c then Some TooManyStreams else None)) ≡ None → (b ≡ true) × (c ≡ true)
both_true true true h = (refl, refl)
both_true _ _ h = absurd (search (rules, h))

-- so can the greater ones of two
greater_spelled : (a b : PeerLimits) → are_spellable a ≡ true → are_spellable b ≡ true → are_spellable (greater_limits a b) ≡ true
greater_spelled a b ha hb = grind (arith, nat_tests, ha, hb)

-- what they are at most
spelled : (p : PeerLimits) → are_spellable p ≡ true → p.max_data ≤ MAX_VARINT
spelled p is = grind (arith, nat_tests, is)

counted : (p : PeerLimits) → are_countable p ≡ true → (p.streams_bidi ≤ 2 ^ 60) × (p.streams_uni ≤ 2 ^ 60)
counted p is = (grind (arith, nat_tests, is), grind (arith, nat_tests, is))

pub invariant_of-self : goal.invariant_of-self
invariant_of-self c =
    let k = c.self.invariant in
    let fits = k.rest.core.fits in
    let (spellable, countable) = both_true (are_spellable c.args.limits.now) (are_countable c.args.limits.now) c.requires in
    let most = spelled c.args.limits.now spellable in
    let streams = counted c.args.limits.now countable in
    record {
      rest = rest_known c.self.inside.core k.rest _ _ (search rules) (search rules) (search rules) (omega (arith, fits.known, most, c.max-self-inside.ensures)) (omega (arith, fits.bidi, streams.0, c.max-self-inside-2.ensures)) (omega (arith, fits.uni, streams.1, c.max-self-inside-3.ensures));
      peer_fits = ap are_spellable c.greater_limits-self-inside.ensures ∙ greater_spelled c.self.inside.peer c.args.limits.now k.peer_fits spellable;
      closing_fits = k.closing_fits;
      few = k.few;
      acks = k.acks;
      settled = k.settled;
    }
