-- Each packet that carries something adds to what would be done once all that is outstanding is acknowledged.
use Rattle.std.proofs.lemmas.Bool.Decides.{nat_tests}
use Rattle.std.proofs.Common.{◌≡◌, ℕ, ◌+◌, ◌<◌, ◌≤◌, true, false, List, [], ◌∷◌, ◌⊎◌, Some, refl, sym, ap, ◌∙◌, subst, arith, inl, inr}
use Rattle.std.specs.Prelude.{◌≢◌}
use Rattle.std.specs.FinSet as set
use Rattle.std.proofs.lemmas.Bool.{cases_lt, true≢false}
use Rattle.std.proofs.lemmas.Option.{same_Some}
use Rattle.qs_recv.specs.Lane.{RecvLane}
use Rattle.qs_send.specs.Lane.{SendLane}
use Rattle.qs_send.specs.declared.parts.Reset.{Reset}
use Rattle.qs_send.specs.declared.piece.Item.{Item}
use Rattle.qs_send.specs.declared.piece.Item.TheVariants.{MaxData, MaxStreamData, MaxStreams, ResetStream, StopSending, DataBlocked, StreamDataBlocked, StreamsBlocked}
use Rattle.qs_send.specs.declared.piece.Piece.{Piece}
use Rattle.qs_send.specs.declared.piece.Piece.TheVariants.{Data, Told}
use Rattle.qs_machine.specs.Tables.{lookup}
use Rattle.qs_machine.specs.Ends.{End}
use Rattle.qs_machine.specs.Credit.{settle}
use Rattle.qs_machine.specs.Due.{IsOutstanding, IsInFlight, IsCurrent, IsDueItem}
use Rattle.qs_machine.specs.Seen.{Seen}
use Rattle.qs_machine.specs.Lawful.{Fills, frame_put}
use Rattle.qs_progress.specs.Score.{is_done, one_if, score}
use Rattle.qs_progress.specs.Within.{IsWithin}
use Rattle.qs_progress.specs.Outstanding.{IsIn, IsWhollyAcked}
use Rattle.qs_progress.proofs.Outstanding.{StayIn}
use Rattle.qs_progress.proofs.Score.{Goes}
use Rattle.qs_progress.proofs.Sums.{one_grows}
use Rattle.qs_progress.proofs.Even.{read_even, told_even_of}
use Rattle.qs_progress.proofs.Undone.{IsUndone, undone_unreached, undone_stays, unless}
use Rattle.qs_progress.proofs.Going.{done_acked}
use Rattle.qs_progress.proofs.Alike.{alike_at}
use Rattle.qs_progress.proofs.Steps.{IsReady, IsNew, due_undone, fills_new}
use Rattle.qs_progress.proofs.Facts.{Fact, Offset, Ending, Resetting, Telling, Holds, Gives, Covers, facts_step}
use Rattle.qs_progress.proofs.Ahead.{out_of, out_in, out_reached, ahead, alike_ahead, half_ahead, OutHomes, ahead_goes, ahead_grows}

-- What raises the count

module _ (e f : End) (g : Goes e f) (stay : StayIn e.sends f.sends) (homes : OutHomes f) (out : (k : ℕ) (p : Piece) → IsIn e.outstanding k p → IsIn f.outstanding k p ⊎ IsWhollyAcked f p) where
  -- what goes out raises it
  pub ahead_puts : (k : ℕ) (p : Piece) → IsIn f.outstanding k p → IsUndone (ahead e) p → score (ahead e) < score (ahead f)
  ahead_puts k p here undone =
      elim (cases_lt (score (ahead e)) (score (ahead f))) [
        | inl lt ↦ lt
        | inr even ↦ absurd (undone_unreached (ahead f) p (undone_stays (ahead e) (ahead f) (ahead_goes e f g stay homes out) even (λ n l at. (let (j, there, acks, grows) = half_ahead e f g stay homes out n l at in (j, there, acks))) p undone) (out_reached f homes k p here))
      ]

  -- and so does what a reader is told
  pub ahead_reads : (n : ℕ) (l m : RecvLane) → lookup e.recvs n ≡ Some l → lookup f.recvs n ≡ Some m
      → (l.arrived.read_count < m.arrived.read_count) ⊎ ((l.reader_done ≡ false) × (m.reader_done ≡ true)) → score (ahead e) < score (ahead f)
  ahead_reads n l m at there news =
      elim (cases_lt (score (ahead e)) (score (ahead f))) [
        | inl lt ↦ lt
        | inr even ↦ elim news [
          | inl more ↦ (let few = read_even (ahead e) (ahead f) (ahead_goes e f g stay homes out) even n l m at there in absurd (omega (arith, more, few)))
          | inr (untold, told) ↦ absurd (true≢false (sym (told_even_of (ahead e) (ahead f) (ahead_goes e f g stay homes out) even n l m at there told) ∙ untold))
        ]
      ]

-- A due item isn't told by what is outstanding

module _ (old : End) (ready : IsReady old) where
  fact_not : (x : Fact) → (Holds old x → ⊥) → ((k : ℕ) (p : Piece) → IsIn old.outstanding k p → Gives p x → ⊥) → Holds (ahead old) x → ⊥
  fact_not x not none is =
      elim (facts_step (out_of old) old x is) [
        | inl was ↦ not was
        | inr (p, among, gives) ↦ (let (k, here) = out_in old p among in none k p here gives)
      ]

  covered_is : (j i : Item) → Covers j i → IsWithin old j → IsCurrent old i → j ≡ i
  covered_is j i le within now = grind (arith, nat_tests)

  reached_of : (i : Item) → is_done old.acked i ≡ true → IsWhollyAcked old (Told i)
  reached_of i is = grind (arith, nat_tests)

  within_of : (k : ℕ) (j : Item) → IsIn old.outstanding k (Told j) → IsWithin old j
  within_of k j (ps, at, among) = ready.within j (inl (false, (k, ps, at, among)))

  item_not : (i : Item) → IsDueItem old i → Holds (ahead old) (Telling i) → ⊥
  item_not i due = fact_not (Telling i) (λ was. due.1 (inr (done_acked old ready.within i due.0 (reached_of i was)))) none
    where
      none : (k : ℕ) (p : Piece) → IsIn old.outstanding k p → Gives p (Telling i) → ⊥
      none k (Data n c) here gives = gives
      none k (Told (ResetStream n code size)) here gives = gives
      none k (Told j) here gives =
          let (ps, at, among) = subst (λ y. IsIn old.outstanding k (Told y)) (covered_is j i gives (within_of k j here) due.0) here in
          due.1 (inl (k, ps, at, among))

  reset_not : (n code size : ℕ) → IsDueItem old (ResetStream n code size) → Holds (ahead old) (Resetting n) → ⊥
  reset_not n code size (now, uncovered) = fact_not (Resetting n) (λ was. uncovered (inr was)) none
    where
      none : (k : ℕ) (p : Piece) → IsIn old.outstanding k p → Gives p (Resetting n) → ⊥
      none k (Told (ResetStream j other last)) here same =
          let (l, at, is) = within_of k (ResetStream j other last) here in
          let (r, there, wants) = now in
          let one : l ≡ r = same_Some l r (sym at ∙ ap (lookup old.sends) (sym same) ∙ there) in
          let value : ◌≡◌ {A = Reset} (record { code = other; size = last }) (record { code = code; size = size }) = same_Some _ _ (sym is ∙ ap (λ (x : SendLane). x.was_reset) one ∙ wants) in
          let (ps, found, among) = subst (λ y. IsIn old.outstanding k (Told y)) (λ i. ResetStream (sym same i) (value i).code (value i).size) here in
          uncovered (inl (k, ps, found, among))
      none k (Data j c) here gives = gives
      none k (Told j) here gives = gives

  undone_told : (i : Item) → IsDueItem old i → IsUndone old (Told i) → IsUndone (ahead old) (Told i)
  undone_told (MaxData m) due u = (u.0, u.1, unless _ (item_not (MaxData m) due))
  undone_told (MaxStreamData n m) due (l, at, is, low, un) = (l, at, is, low, unless _ (item_not (MaxStreamData n m) due))
  undone_told (MaxStreams d m) due u = (u.0, u.1, unless _ (item_not (MaxStreams d m) due))
  undone_told (ResetStream n code size) due (l, at, un) =
      let (k, there, like) = alike_at old.sends (ahead old).sends (alike_ahead old) n l at in
      (k, there, unless k.reset_acked (λ acked. reset_not n code size due (k, there, acked)))
  undone_told (StopSending n code) due (l, at, un) = (l, at, unless _ (item_not (StopSending n code) due))
  undone_told (DataBlocked m) due u = (u.0, u.1, unless _ (item_not (DataBlocked m) due))
  undone_told (StreamDataBlocked n m) due (l, at, is, low, un) =
      let (k, there, like) = alike_at old.sends (ahead old).sends (alike_ahead old) n l at in
      (k, there, is ∙ sym like.limit, low, unless _ (item_not (StreamDataBlocked n m) due))
  undone_told (StreamsBlocked d m) due u = (u.0, u.1, unless _ (item_not (StreamsBlocked d m) due))

  -- what is due isn't acknowledged then
  pub undone_new : (p : Piece) → IsNew old p → IsUndone (ahead old) p
  undone_new (Told i) due = undone_told i due (due_undone old ready i due)
  undone_new (Data n c) (l, at, or) =
      let (k, there, like) = alike_at old.sends (ahead old).sends (alike_ahead old) n l at in (
        k,
        there,
        elim or [
          | inl (q, low, high, due) ↦ inl (
            q,
            low,
            high,
            unless (set.contains k.acked q) (λ is.
                fact_not (Offset n q) (λ (r, found, was). true≢false (sym was ∙ ap (λ (x : SendLane). set.contains x.acked q) (same_Some r l (sym found ∙ at)) ∙ due.not_acked))
                (λ j p here gives. due.not_sent (in_flight q j p here gives)) (k, there, is)),
          )
          | inr (fin, due) ↦ inr (
            fin,
            unless k.fin_acked (λ is.
                fact_not (Ending n) (λ (r, found, was). true≢false (sym was ∙ ap (λ (x : SendLane). x.fin_acked) (same_Some r l (sym found ∙ at)) ∙ due.not_acked))
                (λ j p here gives. (let (first, len, flies) = end_flies j p here gives in due.not_sent first len flies)) (k, there, is)),
          )
        ],
      )
    where
      in_flight : (q j : ℕ) (p : Piece) → IsIn old.outstanding j p → Gives p (Offset n q) → IsInFlight old n q
      in_flight q j p here h = grind (arith, nat_tests)

      end_flies : (j : ℕ) (p : Piece) → IsIn old.outstanding j p → Gives p (Ending n) → (first len : ℕ) × IsOutstanding old (Data n (record { offset = first; len = len; fin = true }))
      end_flies j (Data m c) here (same, fin) =
          let here_n : IsIn old.outstanding j (Data n c) = subst (λ y. IsIn old.outstanding j (Data y c)) (sym same) here in
          let (ps, at, among) = subst (λ b. IsIn old.outstanding j (Data n (record { offset = c.offset; len = c.len; fin = b }))) fin here_n in
          (c.offset, c.len, (j, ps, at, among))
      end_flies j (Told (ResetStream m code size)) here none = absurd none
      end_flies j (Told i) here none = absurd none

  -- A packet

  -- no frame makes an ACK due
  due_put : (f : Seen) (e : End) → (frame_put f e).ack_due ≡ true → e.ack_due ≡ true
  unfolding frame_put
  due_put f e is = grind (arith, nat_tests)

  due_falls : (fs : List Seen) (e last : End) → Fills old e fs last → last.ack_due ≡ true → e.ack_due ≡ true
  due_falls [] e last is due = sym (ap (λ (x : End). x.ack_due) is) ∙ due
  due_falls (f ∷ fs) e last (may, rest) due = due_put f e (due_falls fs (frame_put f e) last rest due)

  module _ (fs : List Seen) (last f : End) (filled : Fills old old fs last) (some : fs ≢ []) (is : f ≡ settle (record last { next = old.next + 1 }))
      (g : Goes old f) (stay : StayIn old.sends f.sends) (homes : OutHomes f) (out : (k : ℕ) (p : Piece) → IsIn old.outstanding k p → IsIn f.outstanding k p ⊎ IsWhollyAcked f p) where
    due_is : f.ack_due ≡ last.ack_due
    due_is = ap (λ (x : End). x.ack_due) is

    -- something is carried, or an ACK is due no more
    pub adds : score (ahead old) + 1 + one_if f.ack_due ≤ score (ahead f) + one_if old.ack_due
    adds =
        elim (fills_new old fs old last refl filled) [
          | inr (p, here, new) ↦ (
              let there : IsIn f.outstanding old.next p = subst (λ (x : End). IsIn x.outstanding old.next p) (sym is) here in
              let lt = ahead_puts old f g stay homes out old.next p there (undone_new p new) in
              let falls = one_grows f.ack_due old.ack_due (λ due. due_falls fs old last filled (sym due_is ∙ due)) in
              omega (arith, lt, falls))
          | inl (same, inl (none, left)) ↦ absurd (some none)
          | inl (same, inr (due, quiet)) ↦ (
              let up = ahead_grows old f g stay homes out in
              let none : one_if f.ack_due ≡ 0 = ap one_if (due_is ∙ quiet) in
              let one : one_if old.ack_due ≡ 1 = ap one_if due in
              omega (arith, up, none, one))
        ]
