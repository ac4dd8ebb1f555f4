-- What a reader was told stands, and a stopped half gives its credit back.
use Rattle.std.proofs.Common.{◌≡◌, ℕ, ◌+◌, ◌<◌, ◌≤◌, ◌==◌, ◌&&◌, ◌||◌, min, nat_le, nat_lt, Bool, true, false, ◌⊎◌, Option, Some, None, is_some, unwrap_or, refl, sym, ap, ◌∙◌, arith, inl, inr, List, length, take, subst}
use Rattle.std.specs.Prelude.{cond, option_map, not}
use Rattle.std.proofs.lemmas.Bool.{cases_lt, eqb-true, true≢false, false≢true, and_parts, cond_both}
use Rattle.std.proofs.lemmas.Bool.Decides.{nat_tests}
use Rattle.std.specs.FinSet as set
use Rattle.qs_ranges.specs.Numbers.{MAX_VARINT, end_of}
use Rattle.qs_ranges.proofs.Sets.{covers-is}
use Rattle.qs_recv.specs.Lane.{RecvLane, highest, taken, step, next_limit, is_whole, whole_to, read_answer, at_final_size, new_lane as new_recv_lane, take_stream, take_reset, answer_by, after_answer, after_read, stop, stop_and_discard, is_over, raise, set_window}
use Rattle.qs_recv.specs.declared.credit.Share.{Share}
use Rattle.qs_recv.specs.Lawful.{IsLawful}
use Rattle.qs_recv.proofs.LawfulLaws.{taken_within}
use Rattle.qs_send.specs.Lane.{SendLane}
use Rattle.qs_send.specs.declared.piece.Piece.TheVariants.{Data}
use Rattle.qs_machine.specs.Ends.{End, send_lane, on_recv, is_own, is_uni, opens, opened_by_peer, first_window}
use Rattle.qs_machine.specs.Credit.{all_sent, settle}
use Rattle.qs_machine.specs.Due.{IsDue, IsEndDue}
use Rattle.qs_rest.specs.Rest.{TellsNoNews, AtRest}
use Rattle.qs_rest.specs.Resting.{IsAhead}
use Rattle.std.proofs.lemmas.Option.{same_Some}
use Rattle.qs_recv.specs.Assembled.{discard, front_of, put, forget, Assembled}
use Rattle.qs_recv.specs.News.{is_readable, tells_something}
use Rattle.qs_recv.specs.declared.half.Read.{Read}
use Rattle.qs_recv.specs.declared.half.Read.TheVariants as reads
use Rattle.qs_send.specs.declared.piece.Item.{Item}
use Rattle.qs_send.specs.declared.piece.Item.TheVariants.{MaxStreamData, MaxStreams, ResetStream, StopSending, StreamDataBlocked}
use Rattle.qs_machine.specs.Tables.{Tables, lookup, updated, open_to}
use Rattle.qs_wire.specs.declared.stream_id.Dir.TheVariants.{Bidi, Uni}
use Rattle.qs_machine.specs.Setting.{Grant, SendBuffer, StreamWindow}
use Rattle.qs_machine.specs.Seen.{Seen, Ack, Stream, Control}
use Rattle.qs_machine.specs.FrameStep.{frame_taken, item_taken, named}
use Rattle.qs_machine.proofs.TableLaws.{slots_updated, slots_opened, slots_each}
use Rattle.qs_rest.specs.Invariant.{IsToldOf, ToldTrue}
use Rattle.qs_machine.specs.EndStep.{Call, Answer, EndStep}
use Rattle.qs_machine.specs.Standing.{IsSound, IsInCredit}
use Rattle.qs_machine.specs.Repeats.{SentWasWritten}
use Rattle.qs_machine.proofs.EveryCall.{Change, changed, Comes, Wanted, Opened, Stopped, Forgotten, WasRead, WasSet, Took, Acked, Put, Settled, same_either}
use Rattle.qs_machine.proofs.Leaves.{acks_leave, put_leaves}
use Rattle.qs_machine.proofs.TablesAfter.{KeptIn}
use Rattle.qs_machine.proofs.LanesAgain.{LaneAfter}
use Rattle.qs_machine.proofs.CallsCounts.{moves_change, relates_sound}
use Rattle.qs_rest.specs.Laws.{StopsGiveBack}
use Rattle.qs_machine.proofs.EachHalf.{RecvEdit, Stops, Forgets, Reads, IsReset, recv_edited, recvs_kept}

-- Halves of a stream of ends at rest, each by itself.

-- a window's limit that is its own next one with all of it taken is the greatest
pub full : (l w : ℕ) (share : Share) → 1 ≤ w → next_limit l l w share ≡ l → MAX_VARINT ≤ l
full l w share some is = elim (cases_lt l MAX_VARINT) [ inl lt ↦ absurd (go _ refl lt is) | inr le ↦ le ]
  where
    go : (b : Bool) → (nat_le (l + step share w) (min MAX_VARINT (l + w)) || (min MAX_VARINT (l + w) == MAX_VARINT && nat_lt l (min MAX_VARINT (l + w)))) ≡ b → l < MAX_VARINT →
        cond b (min MAX_VARINT (l + w)) l ≡ l → ⊥
    go true e lt same = omega arith
    go false e lt same = grind (arith, nat_tests)

-- of a limit that is its own next one less than a step was taken, or it is the greatest
pub ahead : (l t w : ℕ) (share : Share) → next_limit l t w share ≡ l → IsAhead t l w share
ahead l t w share is = elim (cases_lt l MAX_VARINT) [ inl lt ↦ inl (go _ refl lt is) | inr le ↦ inr le ]
  where
    go : (b : Bool) → (nat_le (l + step share w) (min MAX_VARINT (t + w)) || (min MAX_VARINT (t + w) == MAX_VARINT && nat_lt l (min MAX_VARINT (t + w)))) ≡ b → l < MAX_VARINT →
        cond b (min MAX_VARINT (t + w)) l ≡ l → t + w < l + step share w
    go _ e lt same = grind (arith, nat_tests)

-- The receiving half

module _ (r : RecvLane) (lawful : IsLawful r) (rest : TellsNoNews (read_answer r 1) r) where
  -- a reset was told
  pub reset_told : (code : ℕ) → r.reset_code ≡ Some code → r.reader_done ≡ true
  reset_told code is = rw is at rest

  -- a reader that neither knows a reset nor stopped has read up to the final size, or to an offset that didn't come
  open_reader : r.reset_code ≡ None → r.stop_code ≡ None → ((r.final_size ≡ Some r.arrived.read_count) × (r.reader_done ≡ true)) ⊎ (set.contains r.arrived.received r.arrived.read_count ≡ false)
  open_reader no_reset no_stop = go (at_final_size r.arrived.read_count r.final_size) (set.contains r.arrived.received r.arrived.read_count) refl refl
    where
      sized : (o : Option ℕ) (k : ℕ) → at_final_size k o ≡ true → o ≡ Some k
      sized None k e = absurd (false≢true e)
      sized (Some size) k e = ap Some (sym (eqb-true k size e))

      go : (a b : Bool) → at_final_size r.arrived.read_count r.final_size ≡ a → set.contains r.arrived.received r.arrived.read_count ≡ b →
          ((r.final_size ≡ Some r.arrived.read_count) × (r.reader_done ≡ true)) ⊎ (set.contains r.arrived.received r.arrived.read_count ≡ false)
      go true b ea eb = inl (sized r.final_size r.arrived.read_count ea, rw (no_reset, no_stop, ea) at rest)
      go false true ea eb = absurd (rw (no_reset, no_stop, ea, eb) at rest)
      go false false ea eb = inr eb

  -- where all came, or a reset is known, all was taken
  pub caught_up : ((q : ℕ) → q < highest r → set.contains r.arrived.received q ≡ true) ⊎ (is_some r.reset_code ≡ true) → taken r ≡ highest r
  caught_up came = go r.reset_code r.stop_code refl refl
    where
      all : r.reset_code ≡ None → (q : ℕ) → q < highest r → set.contains r.arrived.received q ≡ true
      all none = elim came [ inl here ↦ here | inr is ↦ absurd (true≢false (sym is ∙ ap is_some none)) ]

      read : r.reset_code ≡ None → r.stop_code ≡ None → r.arrived.read_count ≤ highest r → r.arrived.read_count ≡ highest r
      read none open_half within =
          elim (open_reader none open_half) [
            | inl at_end ↦ sym (ap (λ o. unwrap_or o (end_of r.arrived.received)) at_end.0)
            | inr gap ↦ elim (cases_lt r.arrived.read_count (highest r)) [
              | inl lt ↦ absurd (true≢false (sym (all none r.arrived.read_count lt) ∙ gap))
              | inr le ↦ omega arith
            ]
          ]

      go : (x y : Option ℕ) → r.reset_code ≡ x → r.stop_code ≡ y → taken r ≡ highest r
      go (Some code) y ex ey = rw ex refl
      go None (Some code) ex ey = rw (ex, ey) refl
      go None None ex ey =
          let same : taken r ≡ r.arrived.read_count = rw (ex, ey) refl in
          same ∙ read ex ey (omega (arith, same, taken_within r lawful))

  -- where all came and no reset is known, the end was told
  pub end_told : r.reset_code ≡ None → is_whole r ≡ true → r.reader_done ≡ true
  end_told none whole = go r.stop_code refl
    where
      all : (o : Option ℕ) → whole_to r.arrived.received o ≡ true → (q : ℕ) → q < unwrap_or o (end_of r.arrived.received) → set.contains r.arrived.received q ≡ true
      all None e q lt = absurd (false≢true e)
      all (Some size) e q lt = covers-is r.arrived.received 0 size e q (omega arith) lt

      sized : (o : Option ℕ) → r.final_size ≡ o → whole_to r.arrived.received o ≡ true → taken r ≡ unwrap_or o (end_of r.arrived.received) → r.arrived.read_count ≡ taken r → at_final_size r.arrived.read_count o ≡ true
      sized None e whole same read = absurd (false≢true whole)
      sized (Some size) e whole same read = grind (arith, nat_tests)

      go : (x : Option ℕ) → r.stop_code ≡ x → r.reader_done ≡ true
      go (Some code) e = rw (none, e, whole) at rest
      go None e =
          let read : taken r ≡ r.arrived.read_count = rw (none, e) refl in
          let at_end : at_final_size r.arrived.read_count r.final_size ≡ true = sized r.final_size refl whole (caught_up (inl (all r.final_size whole))) (sym read) in
          rw (none, e, at_end) at rest

-- The sending half

module _ (e : End) (rest : AtRest e) (n : ℕ) (l : SendLane) (at : send_lane e n ≡ Some l) (no_reset : l.was_reset ≡ None) where
  due_or_acked : (q : ℕ) → q < l.written → (set.contains l.acked q ≡ true) ⊎ IsDue e n l q
  due_or_acked q lt = go (set.contains l.acked q) refl
    where
      go : (b : Bool) → set.contains l.acked q ≡ b → (set.contains l.acked q ≡ true) ⊎ IsDue e n l q
      go true is = inl is
      go false is = inr (record { no_reset = no_reset; written = lt; not_acked = is; not_sent = λ (c, flies, low, high). rest.none_out (Data n c) flies })

  -- what was sent is acknowledged
  pub sent_acked : l.sent_end ≤ l.written → l.sent_end ≤ l.limit → (q : ℕ) → q < l.sent_end → set.contains l.acked q ≡ true
  sent_acked written limit q lt =
      elim (due_or_acked q (omega arith)) [
        | inl acked ↦ acked
        | inr due ↦ absurd (rest.quiet (inr (n, (l, at, inl (q, due, omega arith, inl lt)))))
      ]

  -- all was sent, or a limit is used up
  pub all_or_limit : ((q : ℕ) → set.contains l.acked q ≡ true → q < l.sent_end) → (l.written ≤ l.sent_end) ⊎ ((l.sent_end < l.written) × (l.limit ≤ l.sent_end)) ⊎ (e.known_data ≤ all_sent e)
  all_or_limit below =
      elim (cases_lt l.sent_end l.written) [
        | inr whole ↦ inl whole
        | inl more ↦ elim (cases_lt l.sent_end l.limit) [
          | inr blocked ↦ inr (inl (more, blocked))
          | inl room ↦ elim (cases_lt (all_sent e) e.known_data) [
            | inr blocked ↦ inr (inr blocked)
            | inl credit ↦ elim (due_or_acked l.sent_end more) [
              | inl acked ↦ (let lt : l.sent_end < l.sent_end = below l.sent_end acked in absurd (omega arith))
              | inr due ↦ absurd (rest.quiet (inr (n, (l, at, inl (l.sent_end, due, room, inr (refl, credit))))))
            ]
          ]
        ]
      ]

  -- an end that was asked for is acknowledged once all was sent
  pub end_acked : l.finished ≡ true → l.sent_end ≡ l.written → l.fin_acked ≡ true
  end_acked finished whole = go l.fin_acked refl
    where
      go : (b : Bool) → l.fin_acked ≡ b → l.fin_acked ≡ true
      go true is = is
      go false is =
          let due : IsEndDue e n l = record { no_reset = no_reset; finished = finished; not_acked = is; not_sent = λ offset len flies. rest.none_out _ flies } in
          absurd (rest.quiet (inr (n, (l, at, inr (due, whole)))))

-- What a reader was told of the end of a stream stands for good.

-- One half

sized : (o : Option ℕ) (k : ℕ) → at_final_size k o ≡ true → o ≡ Some k
sized None k e = absurd (false≢true e)
sized (Some size) k e = ap Some (sym (eqb-true k size e))

same_size : (k : ℕ) → (k == k) ≡ true
same_size k = grind (arith, nat_tests)

-- what a read tells, taken apart
abbrev tells_by : (stopped whole at_end there : Bool) → ℕ → Read
tells_by stopped whole at_end there n = cond stopped (cond whole reads.End reads.Wait) (cond at_end reads.End (cond there (reads.Bytes n) reads.Wait))

-- an end or a reset that is told stands
end_stands : (size : ℕ) (l : RecvLane) → read_answer l size ≡ reads.End → IsToldOf l
end_stands size l = by_reset l.reset_code refl
  where
    go : (s w a t : Bool) → is_some l.stop_code ≡ s → is_whole l ≡ w → at_final_size l.arrived.read_count l.final_size ≡ a → tells_by s w a t (length (front_of l.arrived size)) ≡ reads.End → IsToldOf l
    go true true a t es ew ea is = inr (inl es)
    go false w true t es ew ea is = inr (inr (sized l.final_size l.arrived.read_count ea))
    go false w false true es ew ea is = absurd (cc is)
    go _ w a t es ew ea is = absurd (cc is)

    by_reset : (o : Option ℕ) → l.reset_code ≡ o → answer_by o l size ≡ reads.End → IsToldOf l
    by_reset (Some code) e is = absurd (cc is)
    by_reset None e is = go (is_some l.stop_code) (is_whole l) (at_final_size l.arrived.read_count l.final_size) (set.contains l.arrived.received l.arrived.read_count) refl refl refl is

reset_stands : (size code : ℕ) (l : RecvLane) → read_answer l size ≡ reads.Reset code → IsToldOf l
reset_stands size code l = by_reset l.reset_code refl
  where
    go : (s w a t : Bool) → tells_by s w a t (length (front_of l.arrived size)) ≡ reads.Reset code → IsToldOf l
    go true true a t is = absurd (cc is)
    go false w false true is = absurd (cc is)
    go false w false false is = absurd (cc is)
    go _ w a t is = absurd (cc is)

    by_reset : (o : Option ℕ) → l.reset_code ≡ o → answer_by o l size ≡ reads.Reset code → IsToldOf l
    by_reset (Some c) e is = inl (ap is_some e)
    by_reset None e is = go (is_some l.stop_code) (is_whole l) (at_final_size l.arrived.read_count l.final_size) (set.contains l.arrived.received l.arrived.read_count) is

-- and from then on a read tells no bytes
pub no_bytes : (size n : ℕ) (l : RecvLane) → IsToldOf l → read_answer l size ≡ reads.Bytes n → ⊥
no_bytes size n l of = by_reset l.reset_code refl
  where
    go : (s w a t : Bool) → is_some l.stop_code ≡ s → is_whole l ≡ w → at_final_size l.arrived.read_count l.final_size ≡ a → (is_some l.reset_code ≡ false) → tells_by s w a t (length (front_of l.arrived size)) ≡ reads.Bytes n → ⊥
    go true true a t es ew ea none is = absurd (cc is)
    go false w false t es ew ea none is =
        elim of [
          | inl reset ↦ false≢true (sym none ∙ reset)
          | inr more ↦ elim more [
            | inl stopped ↦ false≢true (sym es ∙ stopped)
            | inr at_end ↦ true≢false (sym (ap (at_final_size l.arrived.read_count) at_end ∙ same_size l.arrived.read_count) ∙ ea)
          ]
        ]
    go _ w a t es ew ea none is = absurd (cc is)

    by_reset : (o : Option ℕ) → l.reset_code ≡ o → answer_by o l size ≡ reads.Bytes n → ⊥
    by_reset (Some code) e is = absurd (cc is)
    by_reset None e is = go (is_some l.stop_code) (is_whole l) (at_final_size l.arrived.read_count l.final_size) (set.contains l.arrived.received l.arrived.read_count) refl refl refl (ap is_some e) is

new_told : (w : ℕ) (share : Share) → ToldTrue (new_recv_lane w share)
new_told w share told = absurd (false≢true told)

stop_told : (code : ℕ) (l : RecvLane) → ToldTrue l → ToldTrue (stop l code)
stop_told code l h = cond_both (is_some l.stop_code || is_over l) l (record l { arrived = discard l.arrived; stop_code = Some code }) ToldTrue (λ _. h) (λ _ told. inr (inl refl))

forget_told : (code : ℕ) (l : RecvLane) → ToldTrue l → ToldTrue (stop_and_discard l code)
forget_told code l h told = go (is_some l.stop_code) (is_over l) refl refl
  where
    go : (a o : Bool) → is_some l.stop_code ≡ a → is_over l ≡ o → IsToldOf (record (cond (a || o) l (record l { arrived = discard l.arrived; stop_code = Some code })) { reader_done = true })
    go true o ea eo = inr (inl ea)
    go false true ea eo = h (and_parts l.reader_done (is_some l.reset_code || is_whole l) eo).0
    go false false ea eo = inr (inl refl)

answer_told : (size : ℕ) (l : RecvLane) → ToldTrue l → ToldTrue (after_read l size)
answer_told size l h = go (read_answer l size) refl
  where
    go : (r : Read) → read_answer l size ≡ r → ToldTrue (after_answer r l size)
    go (reads.Bytes n) is told = absurd (no_bytes size n l (h told) is)
    go reads.End is told = end_stands size l is
    go (reads.Reset code) is told = reset_stands size code l is
    go reads.Wait is told = h told

-- the second half is the first as a frame leaves it
pub record Held (l m : RecvLane) : Type 0 where
  pub told : l.reader_done ≡ true
  pub stopped : is_some l.stop_code ≡ true → is_some m.stop_code ≡ true
  pub read : m.arrived.read_count ≡ l.arrived.read_count

held_told : (l m : RecvLane) → LaneAfter l m → Held l m → ToldTrue l → IsToldOf m
held_told l m g h old =
    elim (old h.told) [
      | inl reset ↦ inl (g.reset reset)
      | inr more ↦ elim more [
        | inl stopped ↦ inr (inl (h.stopped stopped))
        | inr at_end ↦ inr (inr (g.size l.arrived.read_count at_end ∙ ap Some (sym h.read)))
      ]
    ]

-- The halves of an end

abbrev ToldSlot : Option RecvLane → Type 0
ToldSlot None = Unit {0}
ToldSlot (Some l) = ToldTrue l

abbrev pub AllTold : Tables RecvLane → Type 0
AllTold t = (n : ℕ) → ToldSlot (lookup t n)

pub all_told : (e : End) → ((n : ℕ) (l : RecvLane) → lookup e.recvs n ≡ Some l → ToldTrue l) → AllTold e.recvs
all_told e told n = go (lookup e.recvs n) refl
  where
    go : (o : Option RecvLane) → lookup e.recvs n ≡ o → ToldSlot o
    go None is = tt
    go (Some l) is = told n l is

pub told_at : (e : End) → AllTold e.recvs → (n : ℕ) (l : RecvLane) → lookup e.recvs n ≡ Some l → ToldTrue l
told_at e all n l is = subst ToldSlot is (all n)

told_updated : (t : Tables RecvLane) (n : ℕ) (f : RecvLane → RecvLane) → AllTold t → ((l : RecvLane) → ToldTrue l → ToldTrue (f l)) → AllTold (updated t n f (lookup t n))
told_updated t n f all keeps = go (lookup t n) refl
  where
    go : (o : Option RecvLane) → lookup t n ≡ o → AllTold (updated t n f o)
    go None is = all
    go (Some l) is = slots_updated (λ m o. ToldSlot o) t n l (f l) is (λ m other. all m) (keeps l (subst ToldSlot is (all n)))

told_opens : (n : ℕ) (e : End) → AllTold e.recvs → AllTold (opens n e).recvs
told_opens n e all =
    cond_both (is_uni n && is_own e n) e.recvs (open_to e.recvs n (λ m. new_recv_lane (first_window e n) e.tuning.credit_step)) AllTold (λ _. all)
    (λ _. slots_opened (λ m o. ToldSlot o) e.recvs n (λ m. new_recv_lane (first_window e n) e.tuning.credit_step) all (λ m none kind. new_told (first_window e n) e.tuning.credit_step))

told_settles : (e : End) → AllTold e.recvs → AllTold (settle e).recvs
told_settles e all = slots_each (λ m o. ToldSlot o) raise e.recvs (λ m. go (lookup e.recvs m) (all m))
  where
    go : (o : Option RecvLane) → ToldSlot o → ToldSlot (option_map raise o)
    go None h = tt
    go (Some l) h = h

-- What a frame leaves: a half whose reader was told is one of before

abbrev HeldSlot : Tables RecvLane → ℕ → Option RecvLane → Type 0
HeldSlot t n None = Unit {0}
HeldSlot t n (Some m) = m.reader_done ≡ true → (l : RecvLane) × (lookup t n ≡ Some l) × Held l m

abbrev pub AllHeld : Tables RecvLane → Tables RecvLane → Type 0
AllHeld t u = (n : ℕ) → HeldSlot t n (lookup u n)

held_same : (t : Tables RecvLane) → AllHeld t t
held_same t n = go (lookup t n) refl
  where
    go : (o : Option RecvLane) → lookup t n ≡ o → HeldSlot t n o
    go None is = tt
    go (Some l) is = λ told. (l, is, record { told = told; stopped = λ h. h; read = refl })

-- such a change of a half leaves these alone
record Leaves (l m : RecvLane) : Type 0 where
  told : m.reader_done ≡ l.reader_done
  stopped : m.stop_code ≡ l.stop_code
  read : m.arrived.read_count ≡ l.arrived.read_count

module _ (t : Tables RecvLane) where
  held_more : (n : ℕ) (l m : RecvLane) → Leaves l m → HeldSlot t n (Some l) → HeldSlot t n (Some m)
  held_more n l m same h told =
      let (k, is, held) = h (sym same.told ∙ told) in
      (k, is, record { told = held.told; stopped = λ s. ap is_some same.stopped ∙ held.stopped s; read = same.read ∙ held.read })

  held_updated : (u : Tables RecvLane) (n : ℕ) (f : RecvLane → RecvLane) → AllHeld t u → ((l : RecvLane) → Leaves l (f l)) → AllHeld t (updated u n f (lookup u n))
  held_updated u n f all leaves = go (lookup u n) refl
    where
      go : (o : Option RecvLane) → lookup u n ≡ o → AllHeld t (updated u n f o)
      go None is = all
      go (Some l) is = slots_updated (HeldSlot t) u n l (f l) is (λ m other. all m) (held_more n l (f l) (leaves l) (subst (HeldSlot t n) is (all n)))

  held_opens : (n : ℕ) (e : End) → AllHeld t e.recvs → AllHeld t (opens n e).recvs
  held_opens n e all =
      cond_both (is_uni n && is_own e n) e.recvs (open_to e.recvs n (λ m. new_recv_lane (first_window e n) e.tuning.credit_step)) (AllHeld t) (λ _. all)
      (λ _. slots_opened (HeldSlot t) e.recvs n (λ m. new_recv_lane (first_window e n) e.tuning.credit_step) all (λ m none kind told. absurd (false≢true told)))

  held_opened : (n : ℕ) (e : End) → AllHeld t e.recvs → AllHeld t (opened_by_peer n e).recvs
  held_opened n e all = cond_both (is_own e n) e (opens n e) (λ x. AllHeld t x.recvs) (λ _. all) (λ _. held_opens n e all)

  held_changed : (n : ℕ) (f : RecvLane → RecvLane) (e : End) → AllHeld t e.recvs → ((l : RecvLane) → Leaves l (f l)) → AllHeld t (on_recv n f (opened_by_peer n e)).recvs
  held_changed n f e all leaves = held_updated (opened_by_peer n e).recvs n f (held_opened n e all) leaves

  held_equal : (u v : Tables RecvLane) → v ≡ u → AllHeld t u → AllHeld t v
  held_equal u v same all = subst (AllHeld t) (sym same) all

  reset_leaves : (code size : ℕ) (l : RecvLane) → Leaves l (take_reset l code size)
  reset_leaves code size l =
      cond_both (is_some l.reset_code || is_whole l) l (record l { arrived = forget l.arrived; final_size = Some size; reset_code = Some code }) (Leaves l)
      (λ _. record { told = refl; stopped = refl; read = refl }) (λ _. record { told = refl; stopped = refl; read = refl })

  stream_leaves : (offset : ℕ) (bytes : List ℕ) (fin : Bool) (l : RecvLane) → Leaves l (take_stream l offset bytes fin)
  stream_leaves offset bytes fin l = record { told = refl; stopped = refl; read = same_either (λ (a : Assembled). a.read_count) (is_some l.reset_code) l.arrived (put l.arrived offset bytes) refl }

  held_item : (i : Item) (e : End) → AllHeld t e.recvs → AllHeld t (item_taken i e).recvs
  held_item (MaxStreamData n m) e all = held_opened n e all
  held_item (MaxStreams Bidi m) e all = all
  held_item (ResetStream n code size) e all = held_changed n (λ l. take_reset l code size) e all (reset_leaves code size)
  held_item (StopSending n code) e all = held_opened n e all
  held_item (StreamDataBlocked n m) e all = held_opened n e all
  held_item _ e all = all

  held_frame : (f : Seen) (e : End) → AllHeld t e.recvs → AllHeld t (frame_taken f e).recvs
  unfolding frame_taken
  held_frame (Ack largest ranges) e all = held_equal e.recvs _ (ap (λ (x : End). x.recvs) (acks_leave (named e ranges) e)) all
  held_frame (Stream n offset bytes fin) e all = held_changed n (λ l. take_stream l offset bytes fin) e all (stream_leaves offset bytes fin)
  held_frame (Control i) e all = held_item i e all
  held_frame _ e all = all

frame_told : (f : Seen) (e : End) → KeptIn LaneAfter e.recvs (frame_taken f e).recvs → AllTold e.recvs → AllTold (frame_taken f e).recvs
frame_told f e kept all n = go (lookup (frame_taken f e).recvs n) refl (held_frame e.recvs f e (held_same e.recvs) n)
  where
    go : (o : Option RecvLane) → lookup (frame_taken f e).recvs n ≡ o → HeldSlot e.recvs n o → ToldSlot o
    go None is h = tt
    go (Some m) is h = λ told.
        let (l, was, held) = h told in
        let (x, there, a) = kept n l was in
        held_told l m (subst (LaneAfter l) (same_Some x m (sym there ∙ is)) a) held (subst ToldSlot was (all n))

-- Every call

told_change : (old : End) (call : Call) (c : Change) (e : End) → Comes old call e c → IsInCredit e → SentWasWritten e → AllTold e.recvs → AllTold (changed c e).recvs
told_change old call (Wanted Uni count) e comes sound sent all = all
told_change old call (Opened n) e comes sound sent all = told_opens n e all
told_change old call (Stopped n code) e comes sound sent all = told_updated e.recvs n (λ m. stop m code) all (stop_told code)
told_change old call (Forgotten n code) e comes sound sent all = told_updated e.recvs n (λ m. stop_and_discard m code) all (forget_told code)
told_change old call (WasRead n size) e comes sound sent all = told_updated e.recvs n (λ m. after_read m size) all (answer_told size)
told_change old call (WasSet (SendBuffer n size)) e comes sound sent all = all
told_change old call (WasSet (Grant Uni n)) e comes sound sent all = all
told_change old call (WasSet (StreamWindow n w)) e comes sound sent all = told_updated e.recvs n (λ l. set_window l w) all (λ l was. was)
told_change old call (Took f) e comes sound sent all = frame_told f e (moves_change old call (Took f) e comes sound sent).1 all
told_change old call (Acked count ranges) e comes sound sent all = subst AllTold (sym (ap (λ (x : End). x.recvs) (acks_leave (take count (named e ranges)) e))) all
told_change old call (Put f) e comes sound sent all = subst AllTold (sym (ap (λ (x : End). x.recvs) (put_leaves f e))) all
told_change old call Settled e comes sound sent all = told_settles e all
told_change old call c e comes sound sent all = all

pub told_call : (old : End) → IsSound old → SentWasWritten old → AllTold old.recvs → (call : Call) (answer : Answer call) (new : End) → EndStep old call answer new → AllTold new.recvs
told_call old sound sent all call answer new step =
    relates_sound (λ a b. AllTold a.recvs → AllTold b.recvs) (λ e h. h) (λ a b c f g h. g (f h)) old sound sent call (told_change old call) answer new step all

-- A reader of an end that nothing waits for was told all

pub no_news : (l : RecvLane) → ToldTrue l → is_readable l ≡ false → TellsNoNews (read_answer l 1) l
no_news l true_of quiet = go l.reader_done (read_answer l 1) refl refl
  where
    go : (t : Bool) (r : Read) → l.reader_done ≡ t → read_answer l 1 ≡ r → TellsNoNews r l
    go true (reads.Bytes n) et er = absurd (no_bytes 1 n l (true_of et) er)
    go true reads.End et er = et
    go true (reads.Reset code) et er = et
    go true reads.Wait et er = tt
    go false reads.Wait et er = tt
    go false _ et er = absurd (false≢true (sym quiet ∙ ap (λ x. not l.reader_done && tells_something x) er ∙ ap (λ x. not x && true) et))

-- A half whose reader stopped stays so, and has taken all that came.

-- the code of a stop stays
abbrev StopStays : RecvLane → RecvLane → Type 0
StopStays l m = (code : ℕ) → l.stop_code ≡ Some code → m.stop_code ≡ Some code

stays_same : (l : RecvLane) → StopStays l l
stays_same l code is = is

-- One half

stop_stays : (code : ℕ) (l : RecvLane) → StopStays l (stop l code)
stop_stays code l = go (is_some l.stop_code) (is_over l) refl
  where
    go : (b o : Bool) → is_some l.stop_code ≡ b → StopStays l (cond (b || o) l (record l { arrived = discard l.arrived; stop_code = Some code }))
    go false false is = λ c there. absurd (cc (is, there))
    go _ o is = stays_same l

reset_stays : (code size : ℕ) (l : RecvLane) → StopStays l (take_reset l code size)
reset_stays code size l =
    cond_both (is_some l.reset_code || is_whole l) l (record l { arrived = forget l.arrived; final_size = Some size; reset_code = Some code }) (StopStays l) (λ _. stays_same l) (λ _ c is. is)

answer_stays : (answer : Read) (size : ℕ) (l : RecvLane) → StopStays l (after_answer answer l size)
answer_stays (reads.Bytes n) size l = λ c is. is
answer_stays _ size l = λ c is. is

recv_stays : (x : RecvEdit) (l : RecvLane) → StopStays l (recv_edited x l)
recv_stays (Stops code) l = stop_stays code l
recv_stays (Forgets code) l = stop_stays code l
recv_stays (Reads size) l = answer_stays (read_answer l size) size l
recv_stays (IsReset code size) l = reset_stays code size l
recv_stays x l = λ c is. is

-- what a stopped half has taken
pub stopped_taken : (l : RecvLane) (code : ℕ) → l.stop_code ≡ Some code → taken l ≡ highest l
stopped_taken l code is = go (is_some l.reset_code)
  where
    stopped : is_some l.stop_code ≡ true
    stopped = ap is_some is

    go : (b : Bool) → cond (b || is_some l.stop_code) (highest l) l.arrived.read_count ≡ highest l
    go true = refl
    go false = rw stopped refl

pub give_back : StopsGiveBack
give_back old call answer new n code l step is stopped =
    let (m, there, stays) = recvs_kept StopStays stays_same (λ l m k r s c at. s c (r c at)) recv_stays old call answer new step n l is in
    (m, there, stays code stopped, stopped_taken m code (stays code stopped))
