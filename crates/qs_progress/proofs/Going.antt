-- What goes out wasn't acknowledged.
use Rattle.std.proofs.Common.{◌≡◌, ℕ, ◌≤◌, Bool, true, false, List, [], ◌∷◌, ◌⊎◌, take, Option, Some, refl, sym, ap, ◌∙◌, subst, arith, inl, inr}
use Rattle.std.specs.FinMap as fmap
use Rattle.std.specs.FinSet as set
use Rattle.std.proofs.lemmas.Bool.{cases_eq, cond_both, true≢false}
use Rattle.std.proofs.lemmas.Bool.Decides.{nat_tests}
use Rattle.std.proofs.lemmas.Option.{same_Some}
use Rattle.qs_wire.specs.declared.stream_id.Dir.TheVariants.{Bidi, Uni}
use Rattle.qs_recv.specs.Lane.{RecvLane}
use Rattle.qs_send.specs.Lane.{SendLane, sent_lane, blocked_lane}
use Rattle.qs_send.specs.Records.{PacketPieces}
use Rattle.qs_send.specs.declared.piece.Item.{Item}
use Rattle.qs_send.specs.declared.piece.Item.TheVariants.{MaxData, MaxStreamData, MaxStreams, ResetStream, StopSending, DataBlocked, StreamDataBlocked, StreamsBlocked}
use Rattle.qs_send.specs.declared.piece.Piece.{Piece}
use Rattle.qs_send.specs.declared.piece.Piece.TheVariants.{Data, Told}
use Rattle.qs_send.proofs.Outstanding.{rest_of}
use Rattle.qs_machine.specs.Ends.{End, is_own, on_send, opens, opened_by_peer}
use Rattle.qs_machine.specs.Due.{IsCurrent, IsAcked}
use Rattle.qs_machine.specs.Seen.{Seen, Ack, Stream, Control, Close, Plain}
use Rattle.qs_machine.specs.FrameStep.{AckedPiece, acked_at, frame_taken, frames_taken, without_piece, acks, first_acked, named}
use Rattle.qs_machine.specs.Lawful.{MayPut, MayCarry, Fills, frame_put, noted, chunk_of}
use Rattle.qs_machine.proofs.AcksAgain.{held_piece, first_other}
use Rattle.qs_machine.proofs.Carried.{get_new, get_other, among_push, so_far}
use Rattle.qs_runs.specs.Worlds.{end_of}
use Rattle.qs_runs.proofs.Histories.{two_sides}
use Rattle.qs_progress.specs.Score.{reaches}
use Rattle.qs_progress.specs.Within.{WasPut, IsWithin, AllWithin}
use Rattle.qs_progress.specs.Acknowledged.{IsPresent}
use Rattle.qs_progress.specs.Outstanding.{IsIn, IsWhollyAcked}
use Rattle.qs_progress.specs.Going.{WhatGoesOutIsNew}
use Rattle.qs_progress.proofs.Items.{ItemsGrow, items_put}
use Rattle.qs_progress.proofs.Within.{items_are_within, current_present}
use Rattle.qs_progress.proofs.InOrder.{first_same}
use Rattle.qs_progress.proofs.Outstanding.{StayIn, in_same, in_turn, in_put, reached_stays}
use Rattle.qs_progress.proofs.CalmCalls.{Ends, Forms, calm_call}

-- What is reached of a present value is acknowledged

reached_is : (o : Option ℕ) (m : ℕ) → reaches o m ≡ true → ((k : ℕ) → o ≡ Some k → k ≤ m) → o ≡ Some m
reached_is o m is few = grind (arith, nat_tests)

-- also at an end at which more was acknowledged, but nothing above the present values
pub done_present : (e now : End) → ((i : Item) → WasPut now i → IsWithin e i) → (i : Item) → IsPresent e i → IsWhollyAcked now (Told i) → IsAcked now i
done_present e now within (MaxData m) same is = reached_is now.acked.max_data m is (λ k at. let le = within (MaxData k) (inr at) in omega (arith, le, same))
done_present e now within (MaxStreamData n m) (l, there, same) is =
    reached_is (fmap.get now.acked.max_stream_data n) m is (λ k at.
    let (j, found, le) = within (MaxStreamData n k) (inr at) in
    let one : j.limit ≡ l.limit = ap (λ (x : RecvLane). x.limit) (same_Some j l (sym found ∙ there)) in
    omega (arith, le, one, same))
done_present e now within (MaxStreams Bidi m) same is = reached_is now.acked.bidi_streams m is (λ k at. let le = within (MaxStreams Bidi k) (inr at) in omega (arith, le, same))
done_present e now within (MaxStreams Uni m) same is = reached_is now.acked.uni_streams m is (λ k at. let le = within (MaxStreams Uni k) (inr at) in omega (arith, le, same))
done_present e now within (ResetStream n code size) same is = is
done_present e now within (StopSending n code) same is = is
done_present e now within (DataBlocked m) same is = reached_is now.acked.data_blocked m is (λ k at. let le = within (DataBlocked k) (inr at) in omega (arith, le, same))
done_present e now within (StreamDataBlocked n m) (l, there, same) is =
    reached_is (fmap.get now.acked.stream_data_blocked n) m is (λ k at.
    let (j, found, le) = within (StreamDataBlocked n k) (inr at) in
    let one : j.limit ≡ l.limit = ap (λ (x : SendLane). x.limit) (same_Some j l (sym found ∙ there)) in
    omega (arith, le, one, same))
done_present e now within (StreamsBlocked Bidi m) same is = reached_is now.acked.bidi_blocked m is (λ k at. let le = within (StreamsBlocked Bidi k) (inr at) in omega (arith, le, same))
done_present e now within (StreamsBlocked Uni m) same is = reached_is now.acked.uni_blocked m is (λ k at. let le = within (StreamsBlocked Uni k) (inr at) in omega (arith, le, same))

pub done_acked : (e : End) → AllWithin e → (i : Item) → IsCurrent e i → IsWhollyAcked e (Told i) → IsAcked e i
done_acked e within i now is = done_present e e within i (current_present e i now) is

-- a STREAM frame that may go has an offset or an end that isn't acknowledged
pub chunk_unreached : (e : End) (n offset : ℕ) (bytes : List ℕ) (fin : Bool) (l : SendLane) → MayCarry e n offset bytes fin l → IsWhollyAcked e (Data n (chunk_of offset bytes fin)) → ⊥
chunk_unreached e n offset bytes fin l may (m, there, all, end) =
    let same : m ≡ l = same_Some m l (sym there ∙ may.lane) in
    elim may.something [
      | inl some ↦ true≢false (sym (all offset (omega arith) (omega (arith, some))) ∙ ap (λ (x : SendLane). set.contains x.acked offset) same ∙ (may.due offset (omega arith) (omega (arith, some))).not_acked)
      | inr last ↦ true≢false (sym (end last) ∙ ap (λ (x : SendLane). x.fin_acked) same ∙ (may.end last).0.not_acked)
    ]

-- What stands in a record stood there

module _ (k : ℕ) (p : Piece) where
  rest_back : (m m' : PacketPieces) (o : Option (List Piece)) → fmap.get m k ≡ o → fmap.get m' k ≡ rest_of o → IsIn m' k p → IsIn m k p
  rest_back m m' o is left h = grind (arith, nat_tests)

  first_back : (late : Bool) (j : ℕ) (r : Piece) (e : End) → IsIn (first_acked (acked_at late j r) e).outstanding k p → IsIn e.outstanding k p
  first_back true j r e here = subst (λ m. IsIn m k p) (held_piece false r (without_piece true j e)) here
  first_back false j r e here =
      elim (cases_eq k j) [
        | inl same ↦ (
            let after = first_acked (acked_at false j r) e in
            let left : fmap.get after.outstanding k ≡ rest_of (fmap.get e.outstanding k) = ap (fmap.get after.outstanding) same ∙ first_same false j r e ∙ ap (λ n. rest_of (fmap.get e.outstanding n)) (sym same) in
            rest_back e.outstanding after.outstanding (fmap.get e.outstanding k) refl left here)
        | inr ne ↦ (let (ps, at, among) = here in (ps, sym (first_other false j k r e ne) ∙ at, among))
      ]

  acks_back : (ps : List AckedPiece) (e : End) → IsIn (acks ps e).outstanding k p → IsIn e.outstanding k p
  unfolding acks
  acks_back [] e here = here
  acks_back (a ∷ ps) e here = first_back a.late a.number a.piece e (acks_back ps (first_acked a e) here)

  opened_back : (n : ℕ) (e : End) → IsIn (opened_by_peer n e).outstanding k p → IsIn e.outstanding k p
  opened_back n e = cond_both (is_own e n) e (opens n e) (λ x. IsIn x.outstanding k p → IsIn e.outstanding k p) (λ _ h. h) (λ _ h. h)

  frame_back : (f : Seen) (e : End) → IsIn (frame_taken f e).outstanding k p → IsIn e.outstanding k p
  unfolding frame_taken
  frame_back (Ack largest ranges) e here = acks_back (named e ranges) e here
  frame_back (Stream n offset bytes fin) e here = opened_back n e here
  frame_back (Control (MaxStreamData n m)) e here = opened_back n e here
  frame_back (Control (MaxStreams Uni m)) e here = here
  frame_back (Control (ResetStream n code size)) e here = opened_back n e here
  frame_back (Control (StopSending n code)) e here = opened_back n e here
  frame_back (Control (StreamDataBlocked n m)) e here = opened_back n e here
  frame_back f e here = here

  pub frames_back : (fs : List Seen) (e : End) → IsIn (frames_taken fs e).outstanding k p → IsIn e.outstanding k p
  unfolding frames_taken
  frames_back [] e here = here
  frames_back (f ∷ fs) e here = frame_back f e (frames_back fs (frame_taken f e) here)

  pub ends_back : (e mid : End) → Ends e mid → IsIn mid.outstanding k p → IsIn e.outstanding k p
  ends_back e mid (inl is) here = subst (λ (x : End). IsIn x.outstanding k p) is here
  ends_back e mid (inr (inl (c, is))) here = subst (λ (x : End). IsIn x.outstanding k p) is here
  ends_back e mid (inr (inr (inl (number, asks, is)))) here = subst (λ (x : End). IsIn x.outstanding k p) is here
  ends_back e mid (inr (inr (inr (count, ranges, is)))) here = acks_back (take count (named e ranges)) e (subst (λ (x : End). IsIn x.outstanding k p) is here)

  -- Packets

  noted_back : (q : Piece) (e : End) → IsIn (noted q e).outstanding k p → IsIn e.outstanding k p ⊎ (p ≡ q)
  noted_back q e h = grind (arith, nat_tests, cases_eq, same_Some, get_new, among_push, so_far, get_other)

  module _ (old : End) (within : AllWithin old) where
    abbrev Fresh : Type 0
    Fresh = IsWhollyAcked old p → ⊥

    put_back : (f : Seen) (e : End) → MayPut old e f → StayIn old.sends e.sends → ItemsGrow old.acked e.acked → IsIn (frame_put f e).outstanding k p → IsIn e.outstanding k p ⊎ Fresh
    unfolding frame_put
    put_back (Ack largest ranges) e may kept grow here = inl here
    put_back (Stream n offset bytes fin) e (l, may) kept grow here =
        elim (noted_back (Data n (chunk_of offset bytes fin)) (on_send n (λ m. sent_lane m (chunk_of offset bytes fin)) e) here) [
          | inl before ↦ inl before
          | inr is ↦ inr (λ reached. chunk_unreached e n offset bytes fin l may (subst (IsWhollyAcked e) is (reached_stays old e kept grow p reached)))
        ]
    put_back (Control (StreamDataBlocked n m)) e may kept grow here =
        elim (noted_back (Told (StreamDataBlocked n m)) (on_send n blocked_lane e) here) [
          | inl before ↦ inl before
          | inr is ↦ inr (λ reached. may.0.1 (inr (done_acked old within (StreamDataBlocked n m) may.0.0 (subst (IsWhollyAcked old) is reached))))
        ]
    put_back (Control i) e may kept grow here =
        elim (noted_back (Told i) e here) [
          | inl before ↦ inl before
          | inr is ↦ inr (λ reached. may.0.1 (inr (done_acked old within i may.0.0 (subst (IsWhollyAcked old) is reached))))
        ]
    put_back (Close code) e may kept grow here = absurd may
    put_back (Plain asks) e may kept grow here = absurd may

    fills_back : (fs : List Seen) (e last : End) → Fills old e fs last → StayIn old.sends e.sends → ItemsGrow old.acked e.acked → IsIn last.outstanding k p → IsIn e.outstanding k p ⊎ Fresh
    fills_back [] e last is kept grow here = inl (subst (λ (x : End). IsIn x.outstanding k p) is here)
    fills_back (f ∷ fs) e last (may, rest) kept grow here =
        elim (fills_back fs (frame_put f e) last rest (in_turn old.sends e.sends (frame_put f e).sends kept (in_put k p f e)) (λ i done. items_put f e i (grow i done)) here) [
          | inl put ↦ put_back f e may kept grow put
          | inr fresh ↦ inr fresh
        ]

    going : Forms old (λ (e : End). IsIn e.outstanding k p → IsIn old.outstanding k p ⊎ Fresh)
    going =
        record {
          same = inl;
          claims = inl;
          accepts = λ bidi uni. inl;
          reads = λ n size. inl;
          consumes = λ n size. inl;
          packet = λ fs last filled here. fills_back fs old last filled (in_same old.sends) (λ i done. done) here;
          frames = λ fs mid none ends here. inl (frames_back fs old (ends_back (frames_taken fs old) mid ends here));
        }

pub what_goes_out_is_new : WhatGoesOutIsNew
what_goes_out_is_new a b h v w x run step calm s k p =
    two_sides (λ t. IsIn (end_of w t).outstanding k p → IsIn (end_of v t).outstanding k p ⊎ (IsWhollyAcked (end_of v t) p → ⊥)) x.end
    (calm_call (end_of v x.end) _ (going k p (end_of v x.end) (items_are_within a b h v run x.end)) x.call x.answer (end_of w x.end) calm step.step)
    (λ here. inl (subst (λ (e : End). IsIn e.outstanding k p) step.still here)) s
