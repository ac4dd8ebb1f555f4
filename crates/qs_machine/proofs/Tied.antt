-- What of a half is due is what isn't outstanding: each call keeps it.
use Rattle.std.proofs.Common.{◌≡◌, ℕ, ◌+◌, ◌<◌, ◌≤◌, Bool, true, false, not, ◌&&◌, ◌||◌, IsTrue, List, [], refl, sym, ap, ◌∙◌, subst, inl, inr, Option, None, Some, is_some, cond, length, arith, max}
use Rattle.std.proofs.lemmas.Bool.{both_ways, or_left, or_right, false_from_ne_true}
use Rattle.std.proofs.lemmas.Bool.Decides.{nat_tests}
use Rattle.std.specs.FinSet as set
use Rattle.std.specs.Ordering.{nat_cmp}
use Rattle.qs_ranges.specs.Numbers.{numbers, is_within, contains-numbers, contains-with_range, contains-without_range}
use Rattle.qs_ranges.proofs.Sets.{has_difference, has_union}
use Rattle.qs_send.specs.declared.parts.Chunk.{Chunk}
use Rattle.qs_send.specs.declared.parts.Reset.{Reset}
use Rattle.qs_send.specs.declared.parts.SendFault.TheVariants.{Finished, WasReset}
use Rattle.qs_send.specs.declared.piece.Item.{Item}
use Rattle.qs_send.specs.declared.piece.Piece.{Piece}
use Rattle.qs_send.specs.declared.piece.Piece.TheVariants.{Data, Told}
use Rattle.qs_send.specs.Lane.{Sending, new_sending, refusal, reset_refusal, finish_lane, after_write, after_finish, after_reset, broken_off, first_code, after_stopped, after_asked, after_reset_acked, after_blocked, after_allow, after_buffer, after_sent, after_acked, after_lost, lost_due}
use Rattle.qs_send.specs.Chunks.{IsDueChunk}
use Rattle.qs_send.specs.Parts.{in_flight}
use Rattle.qs_send.specs.Sound.{IsLawful}
use Rattle.qs_machine.specs.Ends.{Records}
use Rattle.qs_machine.specs.Outgoing.{IsCarried, CarriesOffset, IsTied, FliesAsCarried, AreApart}
use Rattle.qs_machine.proofs.Carried.{none_some, IsShorter, with_piece, carried_before, carried_still, carried_more, carried_new, carried_is}

-- Pieces

abbrev chunk_in : Piece → Chunk → Chunk
chunk_in (Data n c) d = c
chunk_in (Told i) d = d

abbrev stream_in : Piece → ℕ
stream_in (Data n c) = n
stream_in (Told i) = 0

abbrev is_data : Piece → Bool
is_data (Data n c) = true
is_data (Told i) = false

pub same_chunk : (n k : ℕ) (c d : Chunk) → ◌≡◌ {A = Piece} (Data n c) (Data k d) → c ≡ d
same_chunk n k c d e = ap (λ p. chunk_in p c) e

pub same_stream : (n k : ℕ) (c d : Chunk) → ◌≡◌ {A = Piece} (Data n c) (Data k d) → n ≡ k
same_stream n k c d e = ap stream_in e

pub not_told : (n : ℕ) (c : Chunk) (i : Item) → ◌≡◌ {A = Piece} (Data n c) (Told i) → ⊥
not_told n c i e = both_ways true (ap is_data e) refl

-- The same chunks of a stream are carried

pub record CarriesSame (m m' : Records) (n : ℕ) : Type 0 where
  pub to : (c : Chunk) → IsCarried m (Data n c) → IsCarried m' (Data n c)
  pub from : (c : Chunk) → IsCarried m' (Data n c) → IsCarried m (Data n c)

pub tied_same : (m m' : Records) (n : ℕ) (s : Sending) → CarriesSame m m' n → IsTied m n s → IsTied m' n s
tied_same m m' n s same t =
    record {
      id = t.id;
      sent = λ c out. t.sent c (same.from c out);
      not_due = λ q f. t.not_due q (f.0, same.from f.0 f.1, f.2, f.3);
      flies = λ q clear below un not. (let f = t.flies q clear below un not in (f.0, same.to f.0 f.1, f.2, f.3));
      end_not_due = λ c out fin. t.end_not_due c (same.from c out) fin;
      end_flies = λ clear fin un not. (let f = t.end_flies clear fin un not in (f.0, same.to f.0 f.1, f.2));
    }

-- another stream's piece, or an item, was put or went
pub other_put : (m : Records) (k : ℕ) (p : Piece) (n : ℕ) → ((c : Chunk) → ◌≡◌ {A = Piece} (Data n c) p → ⊥) → CarriesSame m (with_piece m k p) n
other_put m k p n other =
    record {
      to = λ c out. carried_more m k p (Data n c) out;
      from = λ c out. elim (carried_is m k p (Data n c) out) [ inl before ↦ before | inr e ↦ absurd (other c e) ];
    }

pub other_gone : (m m' : Records) (k : ℕ) (p : Piece) (n : ℕ) → IsShorter m k p m' → ((c : Chunk) → ◌≡◌ {A = Piece} (Data n c) p → ⊥) → CarriesSame m m' n
other_gone m m' k p n h other =
    record {
      to = λ c out. elim (carried_still m m' k p h (Data n c) out) [ inl e ↦ absurd (other c e) | inr still ↦ still ];
      from = λ c out. carried_before m m' k p h (Data n c) out;
    }

-- Calls that leave the records alone

pub tied_new : (m : Records) (n limit buffer : ℕ) → ((c : Chunk) → IsCarried m (Data n c) → ⊥) → IsTied m n (new_sending n limit buffer)
tied_new m n limit buffer none =
    record {
      id = refl;
      sent = λ c out. absurd (none c out);
      not_due = λ q f. absurd (none f.0 f.1);
      flies = λ q clear below un not. absurd (omega (arith, below));
      end_not_due = λ c out fin. absurd (none c out);
      end_flies = λ clear fin un not. absurd (both_ways true (sym fin) refl);
    }

-- what no clause speaks of may be anything
tied_alike : {blocked confirmed : Bool} {limit buffer widest : ℕ} {stopped : Option ℕ} (m : Records) (n : ℕ) (s : Sending) → IsTied m n s
    → IsTied m n (record s { lane = record s.lane { blocked_sent = blocked; reset_acked = confirmed; limit = limit; buffer = buffer; widest = widest; stopped = stopped } })
tied_alike m n s t =
    record {
      id = t.id;
      sent = λ c out. (let w = t.sent c out in record { offsets = w.offsets; end = w.end });
      not_due = t.not_due;
      flies = t.flies;
      end_not_due = t.end_not_due;
      end_flies = t.end_flies;
    }

module _ (m : Records) (n : ℕ) (s : Sending) (t : IsTied m n s) where
  pub tied_allow : (limit : ℕ) → IsTied m n (after_allow s limit)
  tied_allow limit = tied_alike m n s t

  pub tied_buffer : (size : ℕ) → IsTied m n (after_buffer s size)
  tied_buffer size = tied_alike m n s t

  pub tied_blocked : IsTied m n (after_blocked s)
  tied_blocked = tied_alike m n s t

  pub tied_reset_acked : IsTied m n (after_reset_acked s)
  tied_reset_acked = tied_alike m n s t

  pub tied_write : IsLawful s → (bytes : List ℕ) → IsTied m n (after_write s bytes)
  tied_write law bytes =
      record {
        id = t.id;
        sent = λ c out. (let w = t.sent c out in record { offsets = w.offsets; end = w.end });
        not_due = λ q f.
            (let w = t.sent f.0 f.1 in
            let below : q < s.lane.written = omega (arith, w.offsets, law.order.sent_written, f.3) in
            grind (arith, nat_tests, below, t.not_due q f, contains-with_range s.due.offsets s.lane.written (s.lane.written + length bytes) q));
        flies = λ q clear below un not.
            t.flies q clear (grind (arith, nat_tests, below, not, contains-with_range s.due.offsets s.lane.written (s.lane.written + length bytes) q)) un
            (grind (arith, nat_tests, not, contains-with_range s.due.offsets s.lane.written (s.lane.written + length bytes) q));
        end_not_due = t.end_not_due;
        end_flies = t.end_flies;
      }

  tied_finished : IsLawful s → s.lane.finished ≡ false → IsTied m n (record { lane = finish_lane s.lane; due = record { offsets = s.due.offsets; fin = true } })
  tied_finished law clear =
      record {
        id = t.id;
        sent = λ c out. (let w = t.sent c out in record { offsets = w.offsets; end = w.end });
        not_due = t.not_due;
        flies = t.flies;
        end_not_due = λ c out fin. absurd (both_ways s.lane.finished clear (law.ends.sent_asked ((t.sent c out).end fin)));
        end_flies = λ un fin ack not. absurd (both_ways true not refl);
      }

  finished_by : IsLawful s → (b : Bool) → (b ≡ false → s.lane.finished ≡ false) → IsTied m n (cond b s (record { lane = finish_lane s.lane; due = record { offsets = s.due.offsets; fin = true } }))
  finished_by law true unfinished = t
  finished_by law false unfinished = tied_finished law (unfinished refl)

  pub tied_finish : IsLawful s → IsTied m n (after_finish s)
  tied_finish law = finished_by law (is_some (refusal s.lane)) (λ none. not_finished s.lane.was_reset s.lane.finished none)
    where
      not_finished : (r : Option Reset) (fin : Bool) → is_some (cond (is_some r) (Some WasReset) (cond fin (Some Finished) None)) ≡ false → fin ≡ false
      not_finished r fin is = grind arith

  reset_by : (code : ℕ) (b : Bool)
      → IsTied m n (record {
        lane = cond b s.lane (record s.lane { kept = []; was_reset = Some (record { code = code; size = cond s.lane.fin_sent s.lane.written s.lane.sent_end }) });
        due = cond b s.due (record { offsets = set.empty; fin = false });
      })
  reset_by code true = t
  reset_by code false =
      record {
        id = t.id;
        sent = λ c out. (let w = t.sent c out in record { offsets = w.offsets; end = w.end });
        not_due = λ q f. set.contains-empty nat_cmp q;
        flies = λ q clear below un not. absurd (none_some _ (sym clear));
        end_not_due = λ c out fin. refl;
        end_flies = λ clear fin un not. absurd (none_some _ (sym clear));
      }

  pub tied_reset : (code : ℕ) → IsTied m n (after_reset s code)
  tied_reset code = reset_by code (is_some (reset_refusal s.lane))

  stopped_by : (code : ℕ) (b : Bool)
      → IsTied m n (record {
        lane = cond b s.lane (record (broken_off s.lane code) { stopped = first_code s.lane.stopped code });
        due = cond b s.due (record { offsets = set.empty; fin = false });
      })
  stopped_by code true = t
  stopped_by code false = tied_alike m n _ (reset_by code false)

  pub tied_stopped : (code : ℕ) → IsTied m n (after_stopped s code)
  tied_stopped code = stopped_by code (is_some (reset_refusal s.lane))

  noted_by : (code : ℕ) (b : Bool) → IsTied m n (record s { lane = cond b s.lane (record s.lane { stopped = first_code s.lane.stopped code }) })
  noted_by code true = t
  noted_by code false = tied_alike m n s t

  pub tied_told_stop : (code : ℕ) → IsTied m n (after_asked s code)
  tied_told_stop code = noted_by code (is_some (reset_refusal s.lane))

-- A chunk goes out

pub tied_sent : (m : Records) (k n : ℕ) (s : Sending) (c : Chunk) → IsTied m n s → IsLawful s → IsDueChunk s c → IsTied (with_piece m k (Data n c)) n (after_sent s c)
tied_sent m k n s c t law due =
    record {
      id = t.id;
      sent = λ d out.
          elim (carried_is m k (Data n c) (Data n d) out) [
            | inl before ↦ (let w = t.sent d before in record { offsets = omega (arith, w.offsets); end = λ fin. or_left _ _ (w.end fin) })
            | inr e ↦ (let same = same_chunk n n d c e in record { offsets = subst (λ (x : Chunk). x.offset + x.len ≤ max s.lane.sent_end (c.offset + c.len)) (sym same) (omega arith); end = λ fin. or_right _ _ (ap (λ (x : Chunk). x.fin) (sym same) ∙ fin) })
          ];
      not_due = λ q f.
          (let (d, out, low, high) = f in
          elim (carried_is m k (Data n c) (Data n d) out) [
            | inl before ↦ grind (arith, nat_tests, t.not_due q (d, before, low, high), contains-without_range s.due.offsets c.offset (c.offset + c.len) q)
            | inr e ↦ (let same = same_chunk n n d c e in (grind (arith, nat_tests, (subst (λ (x : Chunk). x.offset ≤ q) same low), (subst (λ (x : Chunk). q < x.offset + x.len) same high), contains-without_range s.due.offsets c.offset (c.offset + c.len) q)))
          ]);
      flies = λ q clear below un not. flies_by q clear below un not (set.contains s.due.offsets q) refl;
      end_not_due = λ d out fin.
          elim (carried_is m k (Data n c) (Data n d) out) [
            | inl before ↦ ap (λ b. b && not c.fin) (t.end_not_due d before fin)
            | inr e ↦ (let same = same_chunk n n d c e in let is : c.fin ≡ true = ap (λ (x : Chunk). x.fin) (sym same) ∙ fin in grind (arith, is))
          ];
      end_flies = λ clear fin un not. end_by clear fin un not c.fin refl;
    }
  where
    flies_by : (q : ℕ) → s.lane.was_reset ≡ None → q < s.lane.written → set.contains s.lane.acked q ≡ false → set.contains (after_sent s c).due.offsets q ≡ false → (b : Bool) → set.contains s.due.offsets q ≡ b → CarriesOffset (with_piece m k (Data n c)) n q
    flies_by q clear below un not false is = (let f = t.flies q clear below un is in (f.0, carried_more m k (Data n c) (Data n f.0) f.1, f.2, f.3))
    flies_by q clear below un not true is = (
      c,
      carried_new m k (Data n c),
      grind (arith, nat_tests, is, not, contains-without_range s.due.offsets c.offset (c.offset + c.len) q),
      grind (arith, nat_tests, is, not, contains-without_range s.due.offsets c.offset (c.offset + c.len) q),
    )

    end_by : s.lane.was_reset ≡ None → s.lane.finished ≡ true → s.lane.fin_acked ≡ false → (s.due.fin && not c.fin) ≡ false → (b : Bool) → c.fin ≡ b → (d : Chunk) × IsCarried (with_piece m k (Data n c)) (Data n d) × (d.fin ≡ true)
    end_by clear fin un not true is = (c, carried_new m k (Data n c), is)
    end_by clear fin un not false is = (let f = t.end_flies clear fin un (grind (arith, is, not)) in (f.0, carried_more m k (Data n c) (Data n f.0) f.1, f.2))

-- Two chunks apart

apart_at : (c d : Chunk) → AreApart c d → (q : ℕ) → d.offset ≤ q → q < d.offset + d.len → is_within c.offset (c.offset + c.len) q ≡ false
apart_at c d apart q low high = false_from_ne_true _ (λ is. apart.offsets q (grind (arith, nat_tests, is)) (grind (arith, nat_tests, is)) low high)

other_end : (c d : Chunk) → AreApart c d → d.fin ≡ true → c.fin ≡ false
other_end c d apart fin = false_from_ne_true c.fin (λ is. apart.ends is fin)

-- A chunk is acknowledged

pub tied_acked : (m m' : Records) (k n : ℕ) (s : Sending) (c : Chunk) → IsShorter m k (Data n c) m' → IsTied m n s → IsTied m' n (after_acked s c)
tied_acked m m' k n s c h t =
    record {
      id = t.id;
      sent = λ d out. (let w = t.sent d (back d out) in record { offsets = w.offsets; end = w.end });
      not_due = λ q f. grind (arith, nat_tests, t.not_due q (f.0, back f.0 f.1, f.2, f.3), contains-without_range s.due.offsets c.offset (c.offset + c.len) q);
      flies = λ q clear below un not.
          (let out : is_within c.offset (c.offset + c.len) q ≡ false = grind (arith, un, contains-with_range s.lane.acked c.offset (c.offset + c.len) q) in
          let f = t.flies q clear below (grind (arith, un, contains-with_range s.lane.acked c.offset (c.offset + c.len) q)) (grind (arith, out, not, contains-without_range s.due.offsets c.offset (c.offset + c.len) q)) in
          elim (carried_still m m' k (Data n c) h (Data n f.0) f.1) [
            | inl e ↦ (let same = same_chunk n n f.0 c e in let low = subst (λ (x : Chunk). x.offset ≤ q) same f.2 in let high = subst (λ (x : Chunk). q < x.offset + x.len) same f.3 in absurd (grind (arith, nat_tests, out, low, high)))
            | inr still ↦ (f.0, still, f.2, f.3)
          ]);
      end_not_due = λ d out fin. ap (λ b. b && not c.fin) (t.end_not_due d (back d out) fin);
      end_flies = λ clear fin un not.
          (let none : c.fin ≡ false = grind (arith, un) in
          let f = t.end_flies clear fin (grind (arith, un)) (grind (arith, none, not)) in
          elim (carried_still m m' k (Data n c) h (Data n f.0) f.1) [
            | inl e ↦ (let same = same_chunk n n f.0 c e in absurd (both_ways c.fin none (ap (λ (x : Chunk). x.fin) (sym same) ∙ f.2)))
            | inr still ↦ (f.0, still, f.2)
          ]);
    }
  where
    back : (d : Chunk) → IsCarried m' (Data n d) → IsCarried m (Data n d)
    back d out = carried_before m m' k (Data n c) h (Data n d) out

-- a chunk of a lost packet is acknowledged, late
pub tied_late : (m : Records) (n : ℕ) (s : Sending) (c : Chunk) → IsTied m n s → IsTied m n (after_acked s c)
tied_late m n s c t =
    record {
      id = t.id;
      sent = λ d out. (let w = t.sent d out in record { offsets = w.offsets; end = w.end });
      not_due = λ q f. grind (arith, nat_tests, t.not_due q f, contains-without_range s.due.offsets c.offset (c.offset + c.len) q);
      flies = λ q clear below un not.
          (let out : is_within c.offset (c.offset + c.len) q ≡ false = grind (arith, un, contains-with_range s.lane.acked c.offset (c.offset + c.len) q) in
          t.flies q clear below (grind (arith, un, contains-with_range s.lane.acked c.offset (c.offset + c.len) q)) (grind (arith, out, not, contains-without_range s.due.offsets c.offset (c.offset + c.len) q)));
      end_not_due = λ d out fin. ap (λ b. b && not c.fin) (t.end_not_due d out fin);
      end_flies = λ clear fin un not. (let none : c.fin ≡ false = grind (arith, un) in t.end_flies clear fin (grind (arith, un)) (grind (arith, none, not)));
    }

-- A chunk is lost

pub tied_lost : (m m' : Records) (k n : ℕ) (s : Sending) (c : Chunk) → IsShorter m k (Data n c) m' → ((d : Chunk) → IsCarried m' (Data n d) → AreApart c d) → IsTied m n s → IsTied m' n (after_lost s c)
tied_lost m m' k n s c h apart t = by_reset s.lane.was_reset refl
  where
    back : (d : Chunk) → IsCarried m' (Data n d) → IsCarried m (Data n d)
    back d out = carried_before m m' k (Data n c) h (Data n d) out

    again : (q : ℕ) → set.contains (lost_due s.lane s.due c).offsets q ≡ (set.contains s.due.offsets q || (is_within c.offset (c.offset + c.len) q && not (set.contains s.lane.acked q)))
    again q = grind (arith, has_union s.due.offsets (set.difference (numbers c.offset (c.offset + c.len)) s.lane.acked) q, has_difference (numbers c.offset (c.offset + c.len)) s.lane.acked q, contains-numbers c.offset (c.offset + c.len) q)

    lost_open : IsTied m' n (record s { due = lost_due s.lane s.due c })
    lost_open =
        record {
          id = t.id;
          sent = λ d out. t.sent d (back d out);
          not_due = λ q f. grind (arith, again q, t.not_due q (f.0, back f.0 f.1, f.2, f.3), (apart_at c f.0 (apart f.0 f.1) q f.2 f.3));
          flies = λ q clear below un not.
              (let f = t.flies q clear below un (grind (arith, again q, not)) in
              elim (carried_still m m' k (Data n c) h (Data n f.0) f.1) [
                | inl e ↦ (let same = same_chunk n n f.0 c e in let low = subst (λ (x : Chunk). x.offset ≤ q) same f.2 in let high = subst (λ (x : Chunk). q < x.offset + x.len) same f.3 in absurd (grind (arith, nat_tests, again q, not, un, low, high)))
                | inr still ↦ (f.0, still, f.2, f.3)
              ]);
          end_not_due = λ d out fin. (let none = (other_end c d (apart d out) fin) in grind (arith, none, t.end_not_due d (back d out) fin));
          end_flies = λ clear fin un not.
              (let f = t.end_flies clear fin un (grind (arith, not)) in
              elim (carried_still m m' k (Data n c) h (Data n f.0) f.1) [
                | inl e ↦ (let same = same_chunk n n f.0 c e in let is : c.fin ≡ true = ap (λ (x : Chunk). x.fin) (sym same) ∙ f.2 in absurd (grind (arith, is, un, not)))
                | inr still ↦ (f.0, still, f.2)
              ]);
        }

    lost_reset : (r : Reset) → s.lane.was_reset ≡ Some r → IsTied m' n s
    lost_reset r is =
        record {
          id = t.id;
          sent = λ d out. t.sent d (back d out);
          not_due = λ q f. t.not_due q (f.0, back f.0 f.1, f.2, f.3);
          flies = λ q clear below un not. absurd (none_some r (sym clear ∙ is));
          end_not_due = λ d out fin. t.end_not_due d (back d out) fin;
          end_flies = λ clear fin un not. absurd (none_some r (sym clear ∙ is));
        }

    by_reset : (r : Option Reset) → s.lane.was_reset ≡ r → IsTied m' n (after_lost s c)
    by_reset None is = subst (λ b. IsTied m' n (cond b s (record s { due = lost_due s.lane s.due c }))) (ap is_some (sym is)) lost_open
    by_reset (Some r) is = subst (λ b. IsTied m' n (cond b s (record s { due = lost_due s.lane s.due c }))) (ap is_some (sym is)) (lost_reset r is)

-- The offsets in flight

pub tied_flight : (m : Records) (n : ℕ) (s : Sending) → IsLawful s → IsTied m n s → FliesAsCarried m n s
tied_flight m n s law t clear q = (to, from)
  where
    in_parts : set.contains (in_flight s) q ≡ ((is_within 0 s.lane.written q && not (set.contains s.lane.acked q)) && not (set.contains s.due.offsets q))
    in_parts = grind (
      arith,
      has_difference (set.difference (numbers 0 s.lane.written) s.lane.acked) s.due.offsets q,
      has_difference (numbers 0 s.lane.written) s.lane.acked q,
      contains-numbers 0 s.lane.written q,
    )

    to : IsTrue (set.contains (in_flight s) q) → CarriesOffset m n q × (set.contains s.lane.acked q ≡ false)
    to is = (
        let there : set.contains (in_flight s) q ≡ true = is in
        let un : set.contains s.lane.acked q ≡ false = grind (arith, in_parts, there) in
        (t.flies q clear (grind (arith, nat_tests, in_parts, there)) un (grind (arith, in_parts, there)), un)
        )

    from : CarriesOffset m n q × (set.contains s.lane.acked q ≡ false) → IsTrue (set.contains (in_flight s) q)
    from (f, un) = (
        let w = t.sent f.0 f.1 in
        let below : q < s.lane.written = omega (arith, w.offsets, law.order.sent_written, f.3) in
        grind (arith, nat_tests, in_parts, below, un, t.not_due q f)
        )
