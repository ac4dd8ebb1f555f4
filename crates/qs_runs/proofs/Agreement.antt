-- What the two halves of the invariant say together: of one lane, p is the past of its sender and q that of its receiver.
use Rattle.std.proofs.lemmas.Bool.Decides.{nat_tests}
use Rattle.std.proofs.Common.{◌≡◌, ℕ, ◌+◌, ◌-◌, ◌<◌, true, ◌==◌, length, Option, Some, None, slice_get, refl, sym, ap, ◌∙◌, arith, inl, inr, subst}
use Rattle.std.proofs.lemmas.Option.{none-some, same_Some}
use Rattle.std.proofs.lemmas.Bool.{and_parts, eqb-true}
use Rattle.std.specs.FinSet as set
use Rattle.qs_recv.specs.Lane.{RecvLane}
use Rattle.qs_send.specs.Lane.{SendLane, state, is_whole, declared_size, unacked_from}
use Rattle.qs_send.specs.declared.parts.Reset.{Reset}
use Rattle.qs_send.specs.declared.parts.SendState.TheVariants.{DataRecvd}
use Rattle.qs_machine.specs.Ends.{End, recv_lane}
use Rattle.qs_machine.specs.Seen.{Seen, Stream}
use Rattle.qs_runs.specs.Agree.{IsPrefixOf}
use Rattle.qs_runs.proofs.Lists.{prefix_by_place, same_length_prefix}
use Rattle.qs_runs.proofs.Changes.{before-missing}
use Rattle.qs_runs.specs.Pasts.{Past, Holds, TellsByte, TellsEnd, TellsReset, WasConfirmed}
use Rattle.qs_runs.specs.Logs.{must_land}
use Rattle.qs_runs.specs.Invariant.{SendOk, SendSlot, RecvOk, RecvSlot, FrameTaken}

module _ (p q : Past) (n limit window : ℕ) (from : q.theirs ≡ p.mine) where
  -- a byte that stands in a packet was written
  pub byte_written : (s : Option SendLane) → SendSlot p n limit s → (i b : ℕ) → TellsByte q.theirs n i b → slice_get (p.bytes n) i ≡ Some b
  byte_written None h i b (offset, bytes, fin, t, low, is) = absurd (h.no_stream offset bytes fin (rw from at t))
  byte_written (Some l) h i b (offset, bytes, fin, t, low, is) =
      let same : offset + (i - offset) ≡ i = omega arith in
      rw same at ((h.told offset bytes fin (rw from at t)).same (i - offset) b is)

  pub gave_written : (s : Option SendLane) (r : Option RecvLane) → SendSlot p n limit s → RecvSlot q n window r → (i b : ℕ) → slice_get (q.gave n) i ≡ Some b → slice_get (p.bytes n) i ≡ Some b
  gave_written s None hs hr i b is = absurd (none-some b (rw hr.no_bytes at is))
  gave_written s (Some r) hs hr i b is = byte_written s hs i b (hr.gave i b is)

  pub prefix_agrees : (s : Option SendLane) (r : Option RecvLane) → SendSlot p n limit s → RecvSlot q n window r → IsPrefixOf (q.gave n) (p.bytes n)
  prefix_agrees s r hs hr = prefix_by_place _ _ (gave_written s r hs hr)

  -- an end that was told is where the written bytes end
  pub end_written : (s : Option SendLane) (size : ℕ) → SendSlot p n limit s → TellsEnd q.theirs n size → (l : SendLane) × (s ≡ Some l) × (l.fin_sent ≡ true) × (l.written ≡ size)
  end_written None size h (offset, bytes, t, is) = absurd (h.no_stream offset bytes true (rw from at t))
  end_written (Some l) size h (offset, bytes, t, is) =
      let told = (h.told offset bytes true (rw from at t)).end refl in
      (l, refl, told.0, sym told.1 ∙ is)

  pub written_count : (s : Option SendLane) (l : SendLane) → SendSlot p n limit s → s ≡ Some l → length (p.bytes n) ≡ l.written
  written_count s l h e = grind (arith, nat_tests)

  pub whole_agrees : (s : Option SendLane) (r : Option RecvLane) → SendSlot p n limit s → RecvSlot q n window r → q.ended n ≡ true → q.gave n ≡ p.bytes n
  whole_agrees s None hs hr is = absurd (cc (hr.no_end))
  whole_agrees s (Some r) hs hr is =
      let (size, read, final, t) = hr.ended is in
      let (l, at, fin, written) = end_written s size hs t in
      same_length_prefix _ _ (prefix_agrees s (Some r) hs hr) (hr.count ∙ read ∙ sym written ∙ sym (written_count s l hs at))

  -- the sender's reset, where one was told
  reset_told : (s : Option SendLane) (code size : ℕ) → SendSlot p n limit s → TellsReset q.theirs n code size → (l : SendLane) × (s ≡ Some l) × (l.was_reset ≡ Some (record { code = code; size = size }))
  reset_told None code size h t = absurd (h.no_reset code size (rw from at t))
  reset_told (Some l) code size h t = (l, refl, h.told_reset code size (rw from at t))

  pub reset_agrees : (s : Option SendLane) (r : RecvLane) (code : ℕ) → SendSlot p n limit s → RecvOk q n window r → r.reset_code ≡ Some code →
      (l : SendLane) × (size : ℕ) × (s ≡ Some l) × (l.was_reset ≡ Some (record { code = code; size = size }))
  reset_agrees s r code hs hr is =
      let (size, final, t) = hr.reset code is in
      let (l, at, same) = reset_told s code size hs t in
      (l, size, at, same)

  -- a reset tells the declared size
  declared_reset : (l : SendLane) (r : Reset) → l.was_reset ≡ Some r → declared_size l ≡ Some r.size
  declared_reset l r e = rw e refl

  declared_slot : (s : Option SendLane) (l : SendLane) → SendSlot p n limit s → s ≡ Some l → l.fin_sent ≡ true → declared_size l ≡ Some l.written
  declared_slot s l h e fin = grind (arith, nat_tests)

  pub size_agrees : (s : Option SendLane) (r : RecvLane) (size : ℕ) → SendSlot p n limit s → RecvOk q n window r → r.final_size ≡ Some size → (l : SendLane) × (s ≡ Some l) × (declared_size l ≡ Some size)
  size_agrees s r size hs hr is =
      elim (hr.final size is) [
        | inl t ↦ (let (l, at, fin, written) = end_written s size hs t in (l, at, declared_slot s l hs at fin ∙ ap Some written))
        | inr t ↦ (let (l, at, same) = reset_told s t.0 size hs t.2 in (l, at, declared_reset l _ same))
      ]

-- a half in Data Recvd: no reset, and all was acknowledged
acked_state : (l : SendLane) → state l ≡ DataRecvd → (l.was_reset ≡ None) × (is_whole l ≡ true)
acked_state l e = grind (arith, nat_tests)

module _ (p q : Past) (n limit window : ℕ) (from : q.theirs ≡ p.mine) (f : End) (recvs : RecvSlot q n window (recv_lane f n))
    (acked_taken : (k : ℕ) (g : Seen) → Holds p.mine k g → WasConfirmed p.theirs p.tokens k → must_land g ≡ true → FrameTaken f.recvs g) where
  -- without a reset at the sender there is none at the receiver
  no_reset_known : (l : SendLane) (r : RecvLane) → SendOk p n limit l → l.was_reset ≡ None → recv_lane f n ≡ Some r → r.reset_code ≡ None
  no_reset_known l r h none is = go r.reset_code refl
    where
      go : (o : Option ℕ) → r.reset_code ≡ o → r.reset_code ≡ None
      go None e = e
      go (Some code) e =
          let (size, final, t) = (rw is at recvs).reset code e in
          absurd (none-some _ (sym none ∙ h.told_reset code size (subst (λ x. TellsReset x n code size) from t)))

  pub received_agrees : (l : SendLane) → SendOk p n limit l → state l ≡ DataRecvd →
      (r : RecvLane) × (recv_lane f n ≡ Some r) × (r.final_size ≡ Some (length (p.bytes n))) × ((x : ℕ) → x < length (p.bytes n) → set.contains r.arrived.received x ≡ true)
  received_agrees l h state =
      let (none, all) = acked_state l state in
      let parts : ((unacked_from l == l.written) ≡ true) × (l.fin_acked ≡ true) = and_parts _ _ all in
      let same_end : unacked_from l ≡ l.written = eqb-true (unacked_from l) l.written parts.0 in
      let (k, offset, bytes, holds, ack) = h.end_acked parts.1 in
      let (r, is, taken) = acked_taken k (Stream n offset bytes true) holds ack refl in
      let end = (h.told offset bytes true (k, holds)).end refl in (
        r,
        is,
        taken.end refl ∙ ap Some (end.1 ∙ sym h.count),
        λ x lt.
            let (j, at, bs, fin, has_it, low, high, ack') = h.acked x (before-missing l.acked x (omega (arith, h.count, same_end))) in
            let (r', is', taken') = acked_taken j (Stream n at bs fin) has_it ack' refl in
            let same : r' ≡ r = same_Some r' r (sym is' ∙ is) in
            rw same at (taken'.offsets (no_reset_known l r' h none is') x low high),
      )
