-- Limits and counts that nothing has moved since they were looked at.
use Rattle.std.proofs.Common.{arith, refl, ap, sym, ◌∙◌, ℕ, subst, ◌≡◌}
use Rattle.std.specs.Prelude.{max, ◌≤◌}
use Rattle.std.proofs.lemmas.Bool.Decides.{nat_tests}
use Rattle.qs_recv.specs.Lane.{RecvLane, highest, taken, raise, next_limit}
use Rattle.qs_wire.specs.declared.stream_id.Dir.TheVariants.{Bidi, Uni}
use Rattle.qs_machine.specs.Credit.{count_after, settle}
use Rattle.qs_machine.specs.Tables.{Tables, total, each}
use Rattle.qs_machine.specs.Standing.{KeepsCredit}
use Rattle.qs_machine.proofs.TableLaws.{total_each}
use Rattle.qs_machine.proofs.CallsSound.{keeps_settle}
use Rattle.qs_machine.proofs.Rising.{next_limit_grows}
use Rattle.qs_conn.proofs.Cores.{kept_next, fit_settled}
use Rattle.qs_conn.specs.Filling.{present_of}
use Rattle.qs_conn.specs.Due.{packets_of}
use Rattle.qs_conn.proofs.Dues.{due_raised}
use Rattle.qs_conn.proofs.Owns.{own_risen}
use Rattle.qs_calls.specs.declared.settings.Settings.{Settings}
use Rattle.qs_calls.specs.declared.settings.Tuning.{Tuning}
use Rattle.qs_machine.specs.Ends.{End, Present}
use Rattle.qs_machine.proofs.Again.{next_twice}
use Rattle.qs_conn.specs.declared.by_dir.ByDir.{ByDir}
use Rattle.qs_conn.specs.Ended.{AreAllCounted}
use Rattle.qs_conn.specs.Settled.{AreNext}
use Rattle.qs_conn.proofs.LaneEdits.{raised_once}
use Rattle.qs_conn.proofs.endpoint.Endpoint.settle.Goals as goal

-- As a call ends

raised_again : (t : Tables RecvLane) → each raise (each raise t) ≡ each raise t
unfolding each
raised_again t = λ i. record {
  client_bidi = raised_once t.client_bidi i;
  server_bidi = raised_once t.server_bidi i;
  client_uni = raised_once t.client_uni i;
  server_uni = raised_once t.server_uni i;
}

next_now : (s : Settings) (t : Tuning) (p : Present) (recvs now : Tables RecvLane) (e : ByDir ℕ) (granted bidi_before uni_before g b u : ℕ) → now ≡ each raise recvs → g ≡ next_limit granted (total taken recvs) p.conn_window t.credit_step → b ≡ max bidi_before (count_after s t Bidi p.grant_bidi e.bidi) → u ≡ max uni_before (count_after s t Uni p.grant_uni e.uni)
    → AreNext s t p now e g b u
next_now s t p recvs now e granted bidi_before uni_before g b u raised limit bidi uni =
    record {
      streams = ap (each raise) raised ∙ raised_again recvs ∙ sym raised;
      connection =
          ap (λ k. next_limit k (total taken now) p.conn_window t.credit_step) limit
          ∙ ap (λ k. next_limit (next_limit granted (total taken recvs) p.conn_window t.credit_step) k p.conn_window t.credit_step) (ap (total taken) raised ∙ total_each taken raise recvs (λ l. refl))
          ∙ next_twice granted (total taken recvs) p.conn_window t.credit_step
          ∙ sym limit;
      bidi = omega (arith, bidi);
      uni = omega (arith, uni);
    }

-- nothing is left to settle
settled_already : (v : End) (e : ByDir ℕ) → AreAllCounted v.role v.recvs v.sends e → AreNext v.settings v.tuning v.present v.recvs e v.granted v.granted_bidi v.granted_uni → v ≡ settle v
settled_already v e counted next =
    let bidi : (settle v).granted_bidi ≡ v.granted_bidi = ap (λ n. max v.granted_bidi (count_after v.settings v.tuning Bidi v.present.grant_bidi n)) (sym counted.bidi) ∙ next.bidi in
    let uni : (settle v).granted_uni ≡ v.granted_uni = ap (λ n. max v.granted_uni (count_after v.settings v.tuning Uni v.present.grant_uni n)) (sym counted.uni) ∙ next.uni in
    sym (λ i. record v { recvs = next.streams i; granted = next.connection i; granted_bidi = bidi i; granted_uni = uni i })

pub tally-taken-requires : goal.tally-taken-requires
tally-taken-requires c =
    let e = ap (total highest) c.raise_all.ensures.after ∙ total_each highest raise c.self.inside.core.recvs (λ l. refl) in
    omega (arith, e, c.self.invariant.rest.core.sound.spent, c.self.invariant.rest.core.fits.granted)

pub next_limit-self-inside-requires-clause-taken : goal.next_limit-self-inside-requires-clause-taken
next_limit-self-inside-requires-clause-taken c =
    let e = ap (total highest) c.raise_all.ensures.after ∙ total_each highest raise c.self.inside.core.recvs (λ l. refl) in
    omega (arith, e, c.self.invariant.rest.core.sound.spent, c.self.invariant.rest.core.fits.granted, c.tally-taken.ensures.spent, c.tally-taken.ensures.paid.moved)

pub invariant_of-self : goal.invariant_of-self
invariant_of-self c =
    let core = c.self.inside.core in
    let limits = core.limits in
    let k = c.self.invariant in
    let h = k.rest.core in
    let paid = c.tally-taken.ensures.taken ∙ ap (total taken) c.raise_all.ensures.after ∙ total_each taken raise core.recvs (λ l. refl) in
    let limit = c.next_limit-self-inside.ensures.value ∙ ap (λ k. next_limit limits.granted k limits.conn_window limits.tuning.credit_step) paid in
    let in_range = h.sound.settings in
    kept_next _ _ _ _ _ _ k _ _
    (record {
      core = record {
        sound =
            subst (λ (g : ℕ). KeepsCredit limits.role limits.settings (present_of limits) c.raise_all.new.self g) (sym limit)
            (subst (λ (t : Tables RecvLane). KeepsCredit limits.role limits.settings (present_of limits) t (next_limit limits.granted (total taken core.recvs) limits.conn_window limits.tuning.credit_step)) (sym c.raise_all.ensures.after)
            (keeps_settle limits.role limits.settings (present_of limits) core.recvs limits.granted h.sound limits.tuning.credit_step));
        fits = record {
          granted = c.next_limit-self-inside.ensures.in_range;
          granted_bidi = grind (arith, nat_tests, in_range, h.fits.granted_bidi, c.next_count.ensures);
          granted_uni = grind (arith, nat_tests, in_range, h.fits.granted_uni, c.next_count-2.ensures);
          known = h.fits.known;
          bidi = h.fits.bidi;
          uni = h.fits.uni;
        };
        credit = h.credit;
        counts = fit_settled _ _ _ _ _ _ _ h.counts limits.tuning (present_of limits) _ _ _ c.raise_all.ensures.after c.next_count.ensures c.next_count-2.ensures;
        due = due_raised h.due c.raise_all.new.self c.raise_all.new.limits c.raise_all.ensures.after c.raise_all.ensures.marked;
        own = own_risen limits (packets_of core.outbox) core.own h.own _ (subst (λ k. limits.granted ≤ k) (sym limit) (next_limit_grows limits.granted (total taken core.recvs) limits.conn_window limits.tuning.credit_step)) (omega (arith, c.next_count.ensures)) (omega (arith, c.next_count-2.ensures)) (omega arith) (omega arith) (omega arith);
      };
      idle = k.rest.idle;
    })
    (λ _. next_now limits.settings limits.tuning (present_of limits) core.recvs c.raise_all.new.self core.ended limits.granted _ _ _ _ _ c.raise_all.ensures.after limit c.next_count.ensures c.next_count-2.ensures)

pub returns : goal.returns
returns c =
    let inside = c.self.inside.core in
    let paid = c.tally-taken.ensures.taken ∙ ap (total taken) c.raise_all.ensures.after ∙ total_each taken raise inside.recvs (λ l. refl) in
    let limit = c.next_limit-self-inside.ensures.value ∙ ap (λ k. next_limit inside.limits.granted k inside.limits.conn_window inside.limits.tuning.credit_step) paid in
    let bidi = c.next_count.ensures ∙ ap (λ n. max inside.limits.granted_streams.bidi (count_after inside.limits.settings inside.limits.tuning Bidi inside.limits.grants.bidi n)) c.self.invariant.rest.core.counts.counted.bidi in
    let uni = c.next_count-2.ensures ∙ ap (λ n. max inside.limits.granted_streams.uni (count_after inside.limits.settings inside.limits.tuning Uni inside.limits.grants.uni n)) c.self.invariant.rest.core.counts.counted.uni in
    rw (← c.self.view_is, limit, c.raise_all.ensures.after, bidi, uni) refl

pub returns-then-self : goal.returns-then-self
returns-then-self c = rw (← c.self.view_is) (settled_already _ c.self.inside.core.ended c.self.invariant.rest.core.counts.counted (c.self.invariant.settled c.if-self.true))
