-- What an end has nothing more of to send, and that this stays so in calm calls.
use Rattle.std.proofs.Common.{◌≡◌, ℕ, ◌<◌, ◌≤◌, Bool, true, false, not, List, [], ◌∷◌, ◌⊎◌, Option, Some, None, is_some, refl, sym, ap, ◌∙◌, subst, arith, inl, inr}
use Rattle.std.specs.FinSet as set
use Rattle.std.proofs.lemmas.Bool.{cases_lt, true≢false}
use Rattle.std.proofs.lemmas.Bool.Decides.{nat_tests}
use Rattle.std.proofs.lemmas.Option.{none-some, same_Some}
use Rattle.qs_recv.specs.Lane.{RecvLane, is_whole, read_answer}
use Rattle.qs_send.specs.Lane.{SendLane}
use Rattle.qs_send.specs.Records.{Among}
use Rattle.qs_send.specs.declared.parts.Reset.{Reset}
use Rattle.qs_send.specs.declared.piece.Item.{Item}
use Rattle.qs_send.specs.declared.piece.Item.TheVariants.{ResetStream, StopSending, StreamDataBlocked}
use Rattle.qs_send.specs.declared.piece.Piece.{Piece}
use Rattle.qs_send.specs.declared.piece.Piece.TheVariants.{Data, Told}
use Rattle.qs_calls.specs.declared.event.Side.{Side}
use Rattle.qs_calls.specs.declared.settings.Settings.{Settings}
use Rattle.qs_machine.specs.Tables.{lookup}
use Rattle.qs_machine.specs.Ends.{End}
use Rattle.qs_machine.specs.Due.{IsOutstanding, IsDue, IsEndDue, IsCurrent, IsCovered, IsDueItem}
use Rattle.qs_machine.specs.Lawful.{MayPut, Fills, frame_put}
use Rattle.qs_machine.specs.Seen.{Seen, Ack, Stream, Control, Close, Plain}
use Rattle.qs_machine.proofs.EachHalf.{sends_kept}
use Rattle.qs_machine.proofs.EndedHalves.{whole_stays}
use Rattle.qs_machine.proofs.LanesAgain.{LaneAfter, lane_same}
use Rattle.qs_machine.proofs.CallsCounts.{lanes_call}
use Rattle.qs_machine.proofs.OffsetParts.{one_part}
use Rattle.qs_machine.proofs.TablesAfter.{KeptIn, kept_same}
use Rattle.qs_runs.specs.Invariant.{WorldOk}
use Rattle.qs_runs.specs.Logs.{Happening, other}
use Rattle.qs_runs.specs.Worlds.{end_of, WorldStep}
use Rattle.qs_runs.proofs.Histories.{two_sides}
use Rattle.qs_runs.proofs.Runs.{run_keeps}
use Rattle.qs_runs.proofs.Stays.{each_side}
use Rattle.qs_rest.specs.Rest.{HasMore, TellsNoNews}
use Rattle.qs_rest.proofs.ItemParts.{item_part}
use Rattle.qs_rest.proofs.OneStream.{sender_ok}
use Rattle.qs_progress.specs.Laps.{Moment, IsCalm}
use Rattle.qs_progress.specs.Outstanding.{IsIn, IsWhollyAcked}
use Rattle.qs_progress.specs.Comes.{IsReached}
use Rattle.qs_progress.proofs.Within.{items_are_within, current_present}
use Rattle.qs_progress.proofs.CalmCalls.{calm_call}
use Rattle.qs_progress.proofs.Outstanding.{AcksStay, StayIn, stay_same, stay_twice, in_same, put_in, what_is_out_stays}
use Rattle.qs_progress.proofs.Going.{done_acked}
use Rattle.qs_progress.proofs.Undone.{acks_edits, unless}
use Rattle.qs_progress.proofs.Acknowledged.{acknowledged_goes_by_value}
use Rattle.qs_progress.proofs.Trails.{reached}
use Rattle.qs_progress.proofs.Passing.{IsClear}
use Rattle.qs_progress.proofs.From.{StopsFrom, stops_same, stops_forms, SendsFrom}

-- A calm call keeps what is acknowledged, outstanding and stopped, and what came.
pub record CalmStep (e f : End) : Type 0 where
  pub out : (k : ℕ) (p : Piece) → IsIn e.outstanding k p → IsIn f.outstanding k p ⊎ IsWhollyAcked f p
  pub covered : (i : Item) → IsCurrent f i → IsCovered e i → IsCovered f i
  pub acks : StayIn e.sends f.sends
  pub lanes : KeptIn LaneAfter e.recvs f.recvs
  pub stops : StopsFrom e.recvs f.recvs

module _ (a b : Settings) (old new : Moment) (x : Happening) (r : IsReached a b old) (calm : IsCalm x.call) (logged : new.log ≡ x ∷ old.log) (step : WorldStep old.log old.ends x new.ends) (s : Side) where
  out_step : (k : ℕ) (p : Piece) → IsIn (end_of old.ends s).outstanding k p → IsIn (end_of new.ends s).outstanding k p ⊎ IsWhollyAcked (end_of new.ends s) p
  out_step = what_is_out_stays a b old.log old.ends new.ends x r.run step calm s

  covered_step : (i : Item) → IsCurrent (end_of new.ends s) i → IsCovered (end_of old.ends s) i → IsCovered (end_of new.ends s) i
  covered_step i now (inr acked) = inr ((acknowledged_goes_by_value a b old.log old.ends new.ends x r.run step s).stays i acked (current_present (end_of new.ends s) i now))
  covered_step i now (inl (k, ps, at, among)) =
      elim (out_step k (Told i) (ps, at, among)) [
        | inl still ↦ (let (qs, there, one) = still in inl (k, qs, there, one))
        | inr is ↦ inr (done_acked (end_of new.ends s) (items_are_within a b new.log new.ends (reached a b old new x r logged step).run s) i now is)
      ]

  pub calm_step : CalmStep (end_of old.ends s) (end_of new.ends s)
  calm_step =
      let ok = run_keeps a b old.log old.ends r.run in
      record {
        out = out_step;
        covered = covered_step;
        acks = each_side (λ e f. StayIn e.sends f.sends) (λ e. in_same e.sends) old.ends new.ends (λ t call answer made. (sends_kept AcksStay stay_same stay_twice acks_edits (end_of old.ends t) call answer (end_of new.ends t) made).1) old.log x step s;
        lanes = each_side (λ e f. KeptIn LaneAfter e.recvs f.recvs) (λ e. kept_same LaneAfter lane_same e.recvs) old.ends new.ends (λ t call answer made. lanes_call (end_of old.ends t) (ok.sound t) (ok.sent t) call answer (end_of new.ends t) made) old.log x step s;
        stops = two_sides (λ t. StopsFrom (end_of old.ends t).recvs (end_of new.ends t).recvs) x.end
            (calm_call (end_of old.ends x.end) _ (stops_forms (end_of old.ends x.end)) x.call x.answer (end_of new.ends x.end) calm step.step)
            (subst (λ (e : End). StopsFrom (end_of old.ends (other x.end)).recvs e.recvs) (sym step.still) (stops_same (end_of old.ends (other x.end)).recvs)) s;
      }

-- No STOP_SENDING is due

abbrev pub NoStops : End → Type 0
NoStops e = (n code : ℕ) → IsDueItem e (StopSending n code) → ⊥

none_back : (o p : Option ℕ) → (is_some o ≡ true → is_some p ≡ true) → p ≡ None → o ≡ None
none_back o p stays is = grind (arith, nat_tests)

-- No byte, no end of a stream, no reset and no STOP_SENDING is due, and all that was written was sent
pub record IsSpent (e : End) : Type 0 where
  pub whole : (n : ℕ) (l : SendLane) → lookup e.sends n ≡ Some l → l.was_reset ≡ None → l.written ≤ l.sent_end
  pub bytes : (n : ℕ) (l : SendLane) (q : ℕ) → lookup e.sends n ≡ Some l → IsDue e n l q → ⊥
  pub ends : (n : ℕ) (l : SendLane) → lookup e.sends n ≡ Some l → IsEndDue e n l → ⊥
  pub resets : (n code size : ℕ) → IsDueItem e (ResetStream n code size) → ⊥
  pub stops : NoStops e

-- all that was written, asked for and reset of a half is acknowledged
abbrev pub IsDone : SendLane → Type 0
IsDone l = (l.was_reset ≡ None → ((q : ℕ) → q < l.written → set.contains l.acked q ≡ true) × (l.finished ≡ true → l.fin_acked ≡ true)) × (is_some l.was_reset ≡ true → l.reset_acked ≡ true)

abbrev pub AllDone : End → Type 0
AllDone e = (n : ℕ) (l : SendLane) → lookup e.sends n ≡ Some l → IsDone l

-- no reader has news
abbrev pub IsReadOut : End → Type 0
IsReadOut e = (n : ℕ) (l : RecvLane) → lookup e.recvs n ≡ Some l → TellsNoNews (read_answer l 1) l

-- It stays so

module _ (e f : End) (x : CalmStep e f) where
  pub stops_stay : NoStops e → NoStops f
  stops_stay not n code ((r, at, stop, unreset, missing), uncovered) =
      elim (x.stops n r at) [
        | inr new ↦ absurd (none-some code (sym new ∙ stop))
        | inl from ↦ (
            let (l, was, same) = from in
            let (m, there, after) = x.lanes n l was in
            let one : m ≡ r = same_Some m r (sym there ∙ at) in
            let before : LaneAfter l r = subst (LaneAfter l) one after in
            let none : l.reset_code ≡ None = none_back l.reset_code r.reset_code before.reset unreset in
            let gap : is_whole l ≡ false = unless (is_whole l) (λ is. true≢false (sym (whole_stays l r before.received before.size is) ∙ missing)) in
            not n code ((l, was, sym same ∙ stop, none, gap), λ covered. uncovered (x.covered (StopSending n code) (r, at, stop, unreset, missing) covered)))
      ]

  module _ (from : SendsFrom e.sends f.sends) where
    acks_of : (n : ℕ) (l m : SendLane) → lookup e.sends n ≡ Some l → lookup f.sends n ≡ Some m → AcksStay l m
    acks_of n l m at there = (let (k, found, acks) = x.acks n l at in subst (AcksStay l) (same_Some k m (sym found ∙ there)) acks)

    bytes_stay : IsSpent e → (n : ℕ) (m : SendLane) (q : ℕ) → lookup f.sends n ≡ Some m → IsDue f n m q → ⊥
    bytes_stay spent n m q there due =
        elim (from n m there) [
          | inr new ↦ (let lt = due.written in absurd (omega (arith, lt, new.0)))
          | inl old ↦ (
              let (l, at, firm) = old in
              let acks = acks_of n l m at there in
              let lt = due.written in
              spent.bytes n l q at
              (record {
                no_reset = sym firm.2 ∙ due.no_reset;
                written = omega (arith, lt, firm.0);
                not_acked = unless (set.contains l.acked q) (λ is. true≢false (sym (acks.0 q is) ∙ due.not_acked));
                not_sent = λ (c, (k, ps, here, among), low, high).
                    elim (x.out k (Data n c) (ps, here, among)) [
                      | inl still ↦ (let (qs, yet, one) = still in due.not_sent (c, (k, qs, yet, one), low, high))
                      | inr is ↦ (
                          let (k2, found, all, end) = is in
                          true≢false (sym (all q low high) ∙ ap (λ (y : SendLane). set.contains y.acked q) (same_Some k2 m (sym found ∙ there)) ∙ due.not_acked))
                    ];
              }))
        ]

    ends_stay : IsSpent e → (n : ℕ) (m : SendLane) → lookup f.sends n ≡ Some m → IsEndDue f n m → ⊥
    ends_stay spent n m there due =
        elim (from n m there) [
          | inr new ↦ true≢false (sym due.finished ∙ new.1)
          | inl old ↦ (
              let (l, at, firm) = old in
              let acks = acks_of n l m at there in
              spent.ends n l at
              (record {
                no_reset = sym firm.2 ∙ due.no_reset;
                finished = sym firm.1 ∙ due.finished;
                not_acked = unless l.fin_acked (λ is. true≢false (sym (acks.1 is) ∙ due.not_acked));
                not_sent = λ offset len (k, ps, here, among).
                    elim (x.out k (Data n (record { offset = offset; len = len; fin = true })) (ps, here, among)) [
                      | inl still ↦ (let (qs, yet, one) = still in due.not_sent offset len (k, qs, yet, one))
                      | inr is ↦ (
                          let (k2, found, all, end) = is in
                          true≢false (sym (end refl) ∙ ap (λ (y : SendLane). y.fin_acked) (same_Some k2 m (sym found ∙ there)) ∙ due.not_acked))
                    ];
              }))
        ]

    pub spent_stays : IsSpent e → IsSpent f
    spent_stays spent =
        record {
          whole = λ n m there none.
              elim (from n m there) [
                | inr new ↦ omega (arith, new.0)
                | inl old ↦ (let (l, at, firm) = old in let le = spent.whole n l at (sym firm.2 ∙ none) in omega (arith, le, firm.0, firm.3))
              ];
          bytes = bytes_stay spent;
          ends = ends_stay spent;
          resets = λ n code size ((m, there, is), uncovered).
              elim (from n m there) [
                | inr new ↦ none-some _ (sym new.2 ∙ is)
                | inl old ↦ (
                    let (l, at, firm) = old in
                    spent.resets n code size ((l, at, sym firm.2 ∙ is), λ covered. uncovered (x.covered (ResetStream n code size) (m, there, is) covered)))
              ];
          stops = stops_stay spent.stops;
        }

    pub done_stays : AllDone e → AllDone f
    done_stays done n m there =
        elim (from n m there) [
          | inr new ↦ ((λ none. ((λ q lt. absurd (omega (arith, lt, new.0))), (λ is. absurd (true≢false (sym is ∙ new.1))))), (λ is. absurd (true≢false (sym is ∙ ap is_some new.2))))
          | inl old ↦ (
              let (l, at, firm) = old in
              let acks = acks_of n l m at there in
              let was = done n l at in (
                (λ none. (let first = was.0 (sym firm.2 ∙ none) in ((λ q lt. acks.0 q (first.0 q (omega (arith, lt, firm.0)))), (λ is. acks.1 (first.1 (sym firm.1 ∙ is)))))),
                (λ is. acks.2 (was.1 (ap is_some (sym firm.2) ∙ is))),
              ))
        ]

-- At a moment

module _ (a b : Settings) (m : Moment) (r : IsReached a b m) (s : Side) where
  abbrev here : End
  here = end_of m.ends s

  -- nothing may go, and nothing waits for credit
  pub spent_at : (HasMore here → ⊥) → ((n : ℕ) (l : SendLane) → lookup here.sends n ≡ Some l → l.was_reset ≡ None → l.sent_end < l.written → ⊥) → IsSpent here
  spent_at quiet none_left =
      record {
        whole = all_sent;
        bytes = λ n l q at due.
            let half = sender_ok a b m.log m.ends ok s n l at in
            let le = all_sent n l at due.no_reset in
            let lt = due.written in
            let few = half.sent_limit in
            quiet (inr (n, (l, at, inl (q, due, omega (arith, le, lt, few), inl (omega (arith, le, lt))))));
        ends = λ n l at due.
            let half = sender_ok a b m.log m.ends ok s n l at in
            let le = all_sent n l at due.no_reset in
            let few = half.sent_written in
            quiet (inr (n, (l, at, inr (due, omega (arith, le, few)))));
        resets = λ n code size due. quiet (inl (ResetStream n code size, due));
        stops = λ n code due. quiet (inl (StopSending n code, due));
      }
    where
      ok : WorldOk a b m.log m.ends
      ok = run_keeps a b m.log m.ends r.run

      all_sent : (n : ℕ) (l : SendLane) → lookup here.sends n ≡ Some l → l.was_reset ≡ None → l.written ≤ l.sent_end
      all_sent n l at none = elim (cases_lt l.sent_end l.written) [ inl lt ↦ absurd (none_left n l at none lt) | inr le ↦ le ]

-- what isn't due, and isn't outstanding, is acknowledged
pub done_at : (e : End) → IsSpent e → IsClear e → AllDone e
done_at e spent clear n l at = ((λ none. ((λ q lt. byte none q lt), (λ finished. end none finished l.fin_acked refl))), (λ is. reset l.was_reset refl is))
  where
    byte : l.was_reset ≡ None → (q : ℕ) → q < l.written → set.contains l.acked q ≡ true
    byte none q lt =
        elim (one_part e n l q none lt) [
          | inl acked ↦ acked
          | inr more ↦ elim more [
            | inl flies ↦ (let (c, (k, ps, there, among), low, high) = flies.1 in absurd (clear k (Data n c) (ps, there, among)))
            | inr due ↦ absurd (spent.bytes n l q at due)
          ]
        ]

    end : l.was_reset ≡ None → l.finished ≡ true → (c : Bool) → l.fin_acked ≡ c → l.fin_acked ≡ true
    end none finished true is = is
    end none finished false is = absurd (spent.ends n l at (record { no_reset = none; finished = finished; not_acked = is; not_sent = λ offset len (k, ps, there, among). clear k _ (ps, there, among) }))

    reset : (o : Option Reset) → l.was_reset ≡ o → is_some l.was_reset ≡ true → l.reset_acked ≡ true
    reset None is known = absurd (true≢false (sym known ∙ ap is_some is))
    reset (Some x) is known =
        elim (item_part e (ResetStream n x.code x.size) (l, at, is)) [
          | inl flies ↦ (let (k, ps, there, among) = flies in absurd (clear k _ (ps, there, among)))
          | inr down ↦ elim down [
            | inl acked ↦ (let (k, there, told) = acked in ap (λ (y : SendLane). y.reset_acked) (same_Some l k (sym at ∙ there)) ∙ told)
            | inr due ↦ absurd (spent.resets n x.code x.size due)
          ]
        ]

-- What is put in a packet was due

pub put_due : (old : End) (i : Item) (fs : List Seen) (e last : End) → Fills old e fs last → Among (Control i) fs → IsDueItem old i
put_due old i [] e last is none = absurd none
put_due old i (f ∷ fs) e last (may, rest) (inl is) = (subst (MayPut old e) (sym is) may).0
put_due old i (f ∷ fs) e last (may, rest) (inr later) = put_due old i fs (frame_put f e) last rest later

module _ (old : End) (spent : IsSpent old) where
  -- no data is put, and the sending halves stay as they are
  pub no_data : (fs : List Seen) (e last : End) → e.sends ≡ old.sends → ((k : ℕ) (p : Piece) → IsIn old.outstanding k p → IsIn e.outstanding k p) → Fills old e fs last
      → (last.sends ≡ old.sends) × ((n offset : ℕ) (bytes : List ℕ) (fin : Bool) → Among (Stream n offset bytes fin) fs → ⊥)
  unfolding frame_put
  no_data [] e last same flew is = (ap (λ (x : End). x.sends) is ∙ same, λ n offset bytes fin none. none)
  no_data (Ack largest ranges ∷ fs) e last same flew (may, rest) =
      let (left, none) = no_data fs (frame_put (Ack largest ranges) e) last same flew rest in
      (left, λ n offset bytes fin among. elim among [ inl is ↦ absurd cc | inr later ↦ none n offset bytes fin later ])
  no_data (Stream n offset bytes fin ∷ fs) e last same flew ((l, may), rest) =
      let at : lookup old.sends n ≡ Some l = ap (λ t. lookup t n) (sym same) ∙ may.lane in
      let new : (p : Piece) → IsOutstanding old p → IsOutstanding e p = λ p (k, ps, there, among). (let (qs, yet, one) = flew k p (ps, there, among) in (k, qs, yet, one)) in
      elim may.something [
        | inl some ↦ (
            let due = may.due offset (omega arith) (omega (arith, some)) in
            absurd (spent.bytes n l offset at (record { no_reset = due.no_reset; written = due.written; not_acked = due.not_acked; not_sent = λ (d, flies, low, high). due.not_sent (d, new (Data n d) flies, low, high) })))
        | inr last_one ↦ (
            let due = (may.end last_one).0 in
            absurd (spent.ends n l at (record { no_reset = due.no_reset; finished = due.finished; not_acked = due.not_acked; not_sent = λ from len flies. due.not_sent from len (new _ flies) })))
      ]
  no_data (Control (StreamDataBlocked n m) ∷ fs) e last same flew (may, rest) =
      let (l, at, none, is, more, end) = may.0.0 in
      let le = spent.whole n l at none in
      absurd (omega (arith, more, end, le))
  no_data (Control i ∷ fs) e last same flew (may, rest) =
      let (left, none) = no_data fs (frame_put (Control i) e) last same (λ k p here. put_in k p (Control i) e (flew k p here)) rest in
      (left, λ n offset bytes fin among. elim among [ inl is ↦ absurd cc | inr later ↦ none n offset bytes fin later ])
  no_data (Close code ∷ fs) e last same flew (may, rest) = absurd may
  no_data (Plain asks ∷ fs) e last same flew (may, rest) = absurd may
