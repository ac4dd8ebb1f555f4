-- What came of an end's turn is paid back once the other's readers read all of it.
use Rattle.std.proofs.Common.{◌≡◌, ℕ, zero, suc, ◌<◌, ◌≤◌, Bool, true, false, ◌⊎◌, Option, Some, None, is_some, refl, sym, ap, ◌∙◌, subst, arith, inl, inr}
use Rattle.std.specs.FinSet as set
use Rattle.std.proofs.lemmas.Bool.{cases_lt, true≢false, false≢true, eqb-true}
use Rattle.std.proofs.lemmas.Option.{none-some, same_Some}
use Rattle.qs_ranges.specs.Numbers.{end_of as set_end}
use Rattle.qs_ranges.proofs.Sets.{covers-is}
use Rattle.qs_recv.specs.Lane.{RecvLane, highest, taken, is_whole, whole_to, read_answer, at_final_size}
use Rattle.qs_send.specs.Lane.{SendLane}
use Rattle.qs_send.specs.declared.parts.Reset.{Reset}
use Rattle.qs_send.specs.declared.piece.Item.TheVariants.{ResetStream}
use Rattle.qs_calls.specs.declared.event.Side.{Side}
use Rattle.qs_calls.specs.declared.settings.Settings.{Settings}
use Rattle.qs_machine.specs.Ends.{send_lane}
use Rattle.qs_machine.specs.Seen.{Stream, Control}
use Rattle.qs_machine.proofs.Pieces.{All_at}
use Rattle.qs_machine.proofs.TableLaws.{value}
use Rattle.qs_runs.specs.Clauses.{sending, receiving}
use Rattle.qs_runs.specs.Invariant.{WorldOk}
use Rattle.qs_runs.specs.Logs.{other}
use Rattle.qs_runs.specs.Pasts.{past}
use Rattle.qs_runs.specs.Worlds.{end_of}
use Rattle.qs_runs.proofs.Clauses.{arrived_was_taken, arrived_reset_was_taken, final_size_is_declared}
use Rattle.qs_runs.proofs.Members.{below-end}
use Rattle.qs_runs.proofs.Runs.{run_keeps}
use Rattle.qs_rest.specs.Invariant.{ItemTaken}
use Rattle.qs_rest.specs.Rest.{TellsNoNews}
use Rattle.qs_rest.proofs.OneStream.{reader_ok}
use Rattle.qs_rest.proofs.Runs.{every_run_keeps}
use Rattle.qs_progress.specs.Laps.{Moment}
use Rattle.qs_progress.proofs.Onward.{ReadsOn, Later}
use Rattle.qs_progress.proofs.Landed.{Landed, offset_came, reset_came}

-- a reader knows a reset, stopped, or has read so many bytes
abbrev pub HasRead : ℕ → RecvLane → Type 0
HasRead k r = (is_some r.reset_code ≡ true) ⊎ (is_some r.stop_code ≡ true) ⊎ (k ≤ r.arrived.read_count)

reads_on : (k : ℕ) (r t : RecvLane) → ReadsOn r t → HasRead k r → HasRead k t
reads_on k r t on (inl reset) = inl (on.1 reset)
reads_on k r t on (inr (inl stopped)) = inr (inl (on.2 stopped))
reads_on k r t on (inr (inr read)) = inr (inr (omega (arith, read, on.0)))

-- then as much is paid back, if it came
has_taken : (k : ℕ) (r : RecvLane) → HasRead k r → k ≤ highest r → k ≤ taken r
has_taken k r read high = go (is_some r.reset_code) (is_some r.stop_code) refl refl
  where
    go : (x y : Bool) → is_some r.reset_code ≡ x → is_some r.stop_code ≡ y → k ≤ taken r
    go true y ex ey = rw ex high
    go false true ex ey = rw (ex, ey) high
    go false false ex ey =
        rw (ex, ey)
        (elim read [
          | inl reset ↦ absurd (true≢false (sym reset ∙ ex))
          | inr more ↦ elim more [ inl stopped ↦ absurd (true≢false (sym stopped ∙ ey)) | inr count ↦ count ]
        ])

-- a reader that neither knows a reset nor stopped has read up to the final size, or to an offset that didn't come
open_reader : (r : RecvLane) → TellsNoNews (read_answer r 1) r → r.reset_code ≡ None → r.stop_code ≡ None → (r.final_size ≡ Some r.arrived.read_count) ⊎ (set.contains r.arrived.received r.arrived.read_count ≡ false)
open_reader r quiet no_reset no_stop = go (at_final_size r.arrived.read_count r.final_size) (set.contains r.arrived.received r.arrived.read_count) refl refl
  where
    sized : (o : Option ℕ) (k : ℕ) → at_final_size k o ≡ true → o ≡ Some k
    sized None k e = absurd (false≢true e)
    sized (Some size) k e = ap Some (sym (eqb-true k size e))

    go : (x y : Bool) → at_final_size r.arrived.read_count r.final_size ≡ x → set.contains r.arrived.received r.arrived.read_count ≡ y →
        (r.final_size ≡ Some r.arrived.read_count) ⊎ (set.contains r.arrived.received r.arrived.read_count ≡ false)
    go true y ex ey = inl (sized r.final_size r.arrived.read_count ex)
    go false true ex ey = absurd (rw (no_reset, no_stop, ex, ey) at quiet)
    go false false ex ey = inr ey

-- what is whole came, up to the final size
whole_size : (r : RecvLane) (size : ℕ) → r.final_size ≡ Some size → is_whole r ≡ true → (q : ℕ) → q < size → set.contains r.arrived.received q ≡ true
whole_size r size is whole q lt = covers-is r.arrived.received 0 size (sym (ap (whole_to r.arrived.received) is) ∙ whole) q (omega arith) lt

module _ (a b : Settings) (s : Side) (sent : Moment) (landed : Landed a b s sent) (n : ℕ) (l : SendLane) (at : send_lane (end_of sent.ends s) n ≡ Some l) where
  -- at a later moment

  module _ (m : Moment) (later : Later a b sent m) where
    ok : WorldOk a b m.log m.ends
    ok = run_keeps a b m.log m.ends later.is_reached.run

    -- the half has sent no less
    sent_then : (k : SendLane) → sending m.ends s n ≡ Some k → l.sent_end ≤ k.sent_end
    sent_then k there =
        let (j, is, more) = (later.goes s).sends n l at in
        let same : j ≡ k = same_Some j k (sym is ∙ there) in
        subst (λ x. l.sent_end ≤ x.sent_end) same more.0

    -- each offset came, or a reset
    came : (q : ℕ) → q < l.sent_end → (r : RecvLane) × (receiving m.ends s n ≡ Some r) × ((set.contains r.arrived.received q ≡ true) ⊎ (is_some r.final_size ≡ true) × ((is_some r.reset_code ≡ true) ⊎ (is_whole r ≡ true)))
    came q lt = by l.was_reset refl
      where
        sized : (r : RecvLane) → receiving m.ends s n ≡ Some r → is_some r.reset_code ≡ true → is_some r.final_size ≡ true
        sized r is = go r.reset_code refl
          where
            go : (o : Option ℕ) → r.reset_code ≡ o → is_some o ≡ true → is_some r.final_size ≡ true
            go None e known = absurd (false≢true known)
            go (Some code) e known = (let (size, final, told) = (reader_ok a b m.log m.ends ok s n r is).reset code e in ap is_some final)

        by : (o : Option Reset) → l.was_reset ≡ o → (r : RecvLane) × (receiving m.ends s n ≡ Some r) × ((set.contains r.arrived.received q ≡ true) ⊎ (is_some r.final_size ≡ true) × ((is_some r.reset_code ≡ true) ⊎ (is_whole r ≡ true)))
        by None none =
            let (offset, bytes, fin, arrived, low, high) = offset_came a b s sent landed n l at none q lt in
            let (r, is, took, fins) = arrived_was_taken a b m.log m.ends ok s n offset bytes fin (later.arrived s (Stream n offset bytes fin) arrived) in
            (r, is, elim took [ inl all ↦ inl (all q low high) | inr reset ↦ inr (sized r is reset, inl reset) ])
        by (Some reset) e =
            let (code, size, arrived) = reset_came a b s sent landed n l reset at e in
            let here = later.arrived s (Control (ResetStream n code size)) arrived in
            let (r, is, final) = arrived_reset_was_taken a b m.log m.ends ok s n code size here in
            let (t, there, ended) = All_at (ItemTaken (end_of m.ends (other s))) (past (other s) m.log).taken (Control (ResetStream n code size)) (every_run_keeps a b m.log m.ends later.is_reached.run (other s)).taken here in
            let same : t ≡ r = same_Some t r (sym there ∙ is) in
            (r, is, inr (ap is_some final, subst (λ x. (is_some x.reset_code ≡ true) ⊎ (is_whole x ≡ true)) same ended))

    -- the final size is no less than was sent
    below_size : (r : RecvLane) (size : ℕ) → receiving m.ends s n ≡ Some r → r.final_size ≡ Some size → l.sent_end ≤ size
    below_size r size is final =
        let (k, there, declared, end, count) = final_size_is_declared a b m.log m.ends ok s n r size is final in
        let low = sent_then k there in
        omega (arith, low, end)

    -- where the readers have no news, all that came was read
    pub all_read : ((r : RecvLane) → receiving m.ends s n ≡ Some r → TellsNoNews (read_answer r 1) r) → (r : RecvLane) → receiving m.ends s n ≡ Some r → HasRead l.sent_end r
    all_read quiet r is = by r.reset_code r.stop_code refl refl
      where
        lacks : r.reset_code ≡ None → set.contains r.arrived.received r.arrived.read_count ≡ false → r.arrived.read_count < l.sent_end → ⊥
        lacks none gap lt =
            let (t, there, took) = came r.arrived.read_count lt in
            let same : t ≡ r = same_Some t r (sym there ∙ is) in
            elim (subst (λ x. (set.contains x.arrived.received r.arrived.read_count ≡ true) ⊎ (is_some x.final_size ≡ true) × ((is_some x.reset_code ≡ true) ⊎ (is_whole x ≡ true))) same took) [
              | inl all ↦ true≢false (sym all ∙ gap)
              | inr ended ↦ elim ended.1 [
                | inl reset ↦ true≢false (sym reset ∙ ap is_some none)
                | inr whole ↦ by_size r.final_size refl ended.0 whole
              ]
            ]
          where
            by_size : (o : Option ℕ) → r.final_size ≡ o → is_some r.final_size ≡ true → is_whole r ≡ true → ⊥
            by_size None e known whole = true≢false (sym known ∙ ap is_some e)
            by_size (Some size) e known whole =
                let low = below_size r size is e in
                true≢false (sym (whole_size r size e whole r.arrived.read_count (omega (arith, low, lt))) ∙ gap)

        by : (x y : Option ℕ) → r.reset_code ≡ x → r.stop_code ≡ y → HasRead l.sent_end r
        by (Some code) y ex ey = inl (ap is_some ex)
        by None (Some code) ex ey = inr (inl (ap is_some ey))
        by None None ex ey =
            elim (open_reader r (quiet r is) ex ey) [
              | inl at_end ↦ inr (inr (below_size r r.arrived.read_count is at_end))
              | inr gap ↦ elim (cases_lt r.arrived.read_count l.sent_end) [ inl lt ↦ absurd (lacks ex gap lt) | inr le ↦ inr (inr le) ]
            ]

    -- the highest offset is no less
    pub came_high : (r : RecvLane) → receiving m.ends s n ≡ Some r → l.sent_end ≤ highest r
    came_high r is = by l.sent_end refl r.final_size refl
      where
        by : (k : ℕ) → l.sent_end ≡ k → (o : Option ℕ) → r.final_size ≡ o → l.sent_end ≤ highest r
        by zero e o eo = omega (arith, e)
        by (suc q) e (Some size) eo = (let low = below_size r size is eo in let top : highest r ≡ size = rw eo refl in omega (arith, low, top))
        by (suc q) e None eo =
            let (t, there, took) = came q (omega (arith, e)) in
            let same : t ≡ r = same_Some t r (sym there ∙ is) in
            let top : highest r ≡ set_end r.arrived.received = rw eo refl in
            elim (subst (λ x. (set.contains x.arrived.received q ≡ true) ⊎ (is_some x.final_size ≡ true) × ((is_some x.reset_code ≡ true) ⊎ (is_whole x ≡ true))) same took) [
              | inl has_it ↦ (let low = below-end r.arrived.received q has_it in omega (arith, e, top, low))
              | inr ended ↦ absurd (true≢false (sym ended.0 ∙ ap is_some eo))
            ]

  -- read at one moment, and paid back at a later one
  module _ (seen end : Moment) (first : Later a b sent seen) (more : Later a b seen end) (whole : Later a b sent end) (quiet : (r : RecvLane) → receiving seen.ends s n ≡ Some r → TellsNoNews (read_answer r 1) r) where
    pub has_read : (r : RecvLane) → receiving end.ends s n ≡ Some r → HasRead l.sent_end r
    has_read r is = by l.sent_end refl
      where
        by : (k : ℕ) → l.sent_end ≡ k → HasRead l.sent_end r
        by zero e = inr (inr (omega (arith, e)))
        by (suc q) e =
            let (t, there, took) = came seen first q (omega (arith, e)) in
            let (u, here, on) = (more.goes (other s)).recvs n t there in
            let same : u ≡ r = same_Some u r (sym here ∙ is) in
            subst (HasRead l.sent_end) same (reads_on l.sent_end t u on (all_read seen first quiet t there))

    pub paid_back : l.sent_end ≤ value taken (receiving end.ends s n)
    paid_back = by (receiving end.ends s n) refl
      where
        nothing : (k : ℕ) → l.sent_end ≡ k → receiving end.ends s n ≡ None → l.sent_end ≤ 0
        nothing zero e none = omega (arith, e)
        nothing (suc q) e none = (let (t, there, took) = came end whole q (omega (arith, e)) in absurd (none-some t (sym none ∙ there)))

        by : (o : Option RecvLane) → receiving end.ends s n ≡ o → l.sent_end ≤ value taken o
        by None e = nothing l.sent_end refl e
        by (Some r) e = has_taken l.sent_end r (has_read r e) (came_high end whole r e)
