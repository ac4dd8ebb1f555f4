-- What is outstanding stays so or is acknowledged, where nothing is lost.
use Rattle.std.proofs.Common.{◌≡◌, ℕ, ◌+◌, Bool, true, false, ◌&&◌, not, List, [], ◌∷◌, ◌++◌, ◌⊎◌, take, Option, Some, None, is_some, refl, sym, ap, ◌∙◌, subst, inl, inr, arith}
use Rattle.std.specs.Prelude.{⊤, max}
use Rattle.std.specs.List.{AllByRecursion}
use Rattle.std.specs.FinMap as fmap
use Rattle.std.specs.FinSet as set
use Rattle.std.specs.Ordering.{nat_cmp}
use Rattle.std.specs.Cmp.{nat_cmp_total}
use Rattle.std.proofs.lemmas.Bool.{cases_eq, cond_both, or_left, or_right}
use Rattle.std.proofs.lemmas.Bool.Decides.{nat_tests}
use Rattle.std.proofs.lemmas.Option.{same_Some}
use Rattle.qs_ranges.specs.Numbers.{contains-with_range, is_within}
use Rattle.qs_wire.specs.declared.stream_id.Dir.TheVariants.{Bidi, Uni}
use Rattle.qs_recv.specs.Lane.{after_read}
use Rattle.qs_send.specs.Lane.{SendLane, stop_taken, allow_lane, acked_lane, reset_acked_lane, sent_lane, blocked_lane, new_lane as new_send_lane}
use Rattle.qs_send.specs.Records.{Among, IsCarried, PacketPieces}
use Rattle.qs_send.specs.declared.parts.Chunk.{Chunk}
use Rattle.qs_send.specs.declared.piece.Item.TheVariants.{MaxData, MaxStreamData, MaxStreams, ResetStream, StopSending, DataBlocked, StreamDataBlocked, StreamsBlocked}
use Rattle.qs_send.specs.declared.piece.Piece.{Piece}
use Rattle.qs_send.specs.declared.piece.Piece.TheVariants.{Data, Told}
use Rattle.qs_send.proofs.Outstanding.{rest_of}
use Rattle.qs_machine.specs.Tables.{Tables, lookup, updated}
use Rattle.qs_machine.specs.Ends.{End, is_own, is_uni, on_send, on_recv, opens, opened_by_peer, first_send_limit, closes}
use Rattle.qs_machine.specs.Credit.{settle}
use Rattle.qs_machine.specs.Recording.{recorded}
use Rattle.qs_machine.specs.Seen.{Seen, Ack, Stream, Control}
use Rattle.qs_machine.specs.Acked.{greatest, greatest_of, or_zero}
use Rattle.qs_machine.specs.FrameStep.{AckedPiece, acked_at, held, frame_taken, frames_taken, without_piece, acks, first_acked, piece_acked, named, NoFault}
use Rattle.qs_machine.specs.Standing.{IsSound}
use Rattle.qs_machine.specs.Repeats.{SentWasWritten, IsWritten}
use Rattle.qs_machine.specs.Lawful.{Fills, frame_put, noted, pieces_so_far, chunk_of}
use Rattle.qs_machine.proofs.TablesAfter.{KeptIn, kept_same, kept_twice, kept_updated, kept_open, still_open}
use Rattle.qs_machine.proofs.EndsAfter.{HalfAfter, IsAfter}
use Rattle.qs_machine.proofs.Again.{changed, first_goes, one_left, all_left}
use Rattle.qs_machine.proofs.AcksAgain.{held_piece, first_other}
use Rattle.qs_machine.proofs.Carried.{get_new, get_other, among_more, tied_itself}
use Rattle.qs_machine.proofs.Pieces.{All_take, All_more, all_named}
use Rattle.qs_runs.specs.Worlds.{end_of}
use Rattle.qs_runs.proofs.Histories.{two_sides}
use Rattle.qs_runs.proofs.Runs.{run_keeps}
use Rattle.qs_progress.specs.Score.{reaches}
use Rattle.qs_progress.specs.Within.{AllWithin}
use Rattle.qs_progress.specs.Outstanding.{IsIn, IsWhollyAcked, WhatIsOutStays}
use Rattle.qs_progress.proofs.Items.{ItemsGrow, items_acks, items_frame, items_put}
use Rattle.qs_progress.proofs.InOrder.{InOrder, order_take, order_named, first_same}
use Rattle.qs_progress.proofs.Within.{items_are_within}
use Rattle.qs_progress.proofs.CalmCalls.{Ends, Forms, calm_call}

-- What is acknowledged stays so

abbrev pub AcksStay : SendLane → SendLane → Type 0
AcksStay l m = ((q : ℕ) → set.contains l.acked q ≡ true → set.contains m.acked q ≡ true) × (l.fin_acked ≡ true → m.fin_acked ≡ true) × (l.reset_acked ≡ true → m.reset_acked ≡ true)

pub stay_same : (l : SendLane) → AcksStay l l
stay_same l = (λ q is. is, λ is. is, λ is. is)

pub stay_twice : (l m k : SendLane) → AcksStay l m → AcksStay m k → AcksStay l k
stay_twice l m k a b = (λ q is. b.0 q (a.0 q is), λ is. b.1 (a.1 is), λ is. b.2 (a.2 is))

abbrev pub StayIn : Tables SendLane → Tables SendLane → Type 0
StayIn t u = KeptIn AcksStay t u

pub in_same : (t : Tables SendLane) → StayIn t t
in_same t = kept_same AcksStay stay_same t

pub in_turn : (t u v : Tables SendLane) → StayIn t u → StayIn u v → StayIn t v
in_turn t u v a b = kept_twice AcksStay stay_same stay_twice t u v a b

in_edited : (t : Tables SendLane) (n : ℕ) (f : SendLane → SendLane) → ((l : SendLane) → AcksStay l (f l)) → StayIn t (updated t n f (lookup t n))
in_edited t n f stays = kept_updated AcksStay stay_same t n f (λ l is. stays l)

pub in_opened : (n : ℕ) (e : End) → StayIn e.sends (opened_by_peer n e).sends
in_opened n e =
    cond_both (is_own e n) e (opens n e) (λ x. StayIn e.sends x.sends) (λ _. in_same e.sends) (λ _.
    cond_both (is_uni n && not (is_own e n)) e.sends _ (StayIn e.sends) (λ _. in_same e.sends) (λ _. kept_open AcksStay stay_same e.sends n (λ m. new_send_lane m (first_send_limit e n) e.settings.send_buffer)))

pub stop_stays : (answers : Bool) (code : ℕ) (l : SendLane) → AcksStay l (stop_taken answers l code)
stop_stays answers code l = grind (arith, nat_tests)

pub in_piece : (p : Piece) (e : End) → StayIn e.sends (piece_acked p e).sends
in_piece (Data n c) e = in_edited e.sends n (λ l. acked_lane l c) (λ l. (λ q is. contains-with_range l.acked c.offset (c.offset + c.len) q ∙ or_left _ _ is, λ is. or_left l.fin_acked c.fin is, λ is. is))
in_piece (Told (ResetStream n code size)) e = in_edited e.sends n reset_acked_lane (λ l. (λ q is. is, λ is. is, λ is. refl))
in_piece (Told (MaxStreams Uni m)) e = in_same e.sends
in_piece (Told (StreamsBlocked Uni m)) e = in_same e.sends
in_piece (Told i) e = in_same e.sends

pub in_acks : (ps : List AckedPiece) (e : End) → StayIn e.sends (acks ps e).sends
unfolding acks
in_acks [] e = in_same e.sends
in_acks (a ∷ ps) e = in_turn e.sends (first_acked a e).sends _ (in_piece a.piece (without_piece a.late a.number e)) (in_acks ps (first_acked a e))

pub in_frame : (f : Seen) (e : End) → StayIn e.sends (frame_taken f e).sends
unfolding frame_taken
in_frame (Ack largest ranges) e = in_acks (named e ranges) e
in_frame (Stream n offset bytes fin) e = in_opened n e
in_frame (Control (MaxStreamData n m)) e = in_turn e.sends (opened_by_peer n e).sends _ (in_opened n e) (in_edited (opened_by_peer n e).sends n (λ l. allow_lane l m) stay_same)
in_frame (Control (MaxStreams Uni m)) e = in_same e.sends
in_frame (Control (ResetStream n code size)) e = in_opened n e
in_frame (Control (StopSending n code)) e = in_turn e.sends (opened_by_peer n e).sends _ (in_opened n e) (in_edited (opened_by_peer n e).sends n (λ l. stop_taken e.tuning.answers_stops l code) (stop_stays e.tuning.answers_stops code))
in_frame (Control (StreamDataBlocked n m)) e = in_opened n e
in_frame f e = in_same e.sends

pub reached_stays : (a b : End) → StayIn a.sends b.sends → ItemsGrow a.acked b.acked → (p : Piece) → IsWhollyAcked a p → IsWhollyAcked b p
reached_stays a b kept grow (Data n c) (l, is, all, end) = (let (m, there, r) = kept n l is in (m, there, (λ q low high. r.0 q (all q low high)), (λ fin. r.1 (end fin))))
reached_stays a b kept grow (Told (ResetStream n code size)) (l, is, acked) = (let (m, there, r) = kept n l is in (m, there, r.2 acked))
reached_stays a b kept grow (Told i) is = grow i is

-- Each piece of a record has its half

abbrev pub HasHome : Tables SendLane → Piece → Type 0
HasHome t (Data n c) = is_some (lookup t n) ≡ true
HasHome t (Told (ResetStream n code size)) = is_some (lookup t n) ≡ true
HasHome t (Told i) = ⊤

abbrev pub Homes : End → Type 0
Homes e = (late : Bool) (p : Piece) → IsCarried (held late e) p → HasHome e.sends p

pub home_stays : {R : SendLane → SendLane → Type 0} (t u : Tables SendLane) → KeptIn R t u → (p : Piece) → HasHome t p → HasHome u p
home_stays {R} t u kept (Data n c) h = still_open R t u n kept h
home_stays {R} t u kept (Told (ResetStream n code size)) h = still_open R t u n kept h
home_stays t u kept (Told i) h = tt

homes_after : (a b : End) → IsAfter a b → Homes a → Homes b
homes_after a b x h late p is = home_stays {R = HalfAfter} a.sends b.sends x.sends p (h late p (x.carried late p is))

-- What an ACK takes is acknowledged

pub the_one : {X : Type 0} (o : Option X) → is_some o ≡ true → (x : X) × (o ≡ Some x)
the_one o none = grind (arith, nat_tests)

greatest_now : (o : Option ℕ) (m : ℕ) → reaches (greatest o m) m ≡ true
greatest_now o m = grind (arith, nat_tests)

greatest_of_now : (values : fmap.FinMap nat_cmp ℕ) (n m : ℕ) → reaches (fmap.get (greatest_of values n m) n) m ≡ true
greatest_of_now values n m = ap (λ o. reaches o m) (get_new values n (max (or_zero (fmap.get values n)) m)) ∙ (grind (arith, nat_tests))

pub reached_now : (p : Piece) (e : End) → HasHome e.sends p → IsWhollyAcked (piece_acked p e) p
reached_now (Data n c) e home =
    let (l, is) = the_one (lookup e.sends n) home in (
      acked_lane l c,
      changed e.sends n (λ k. acked_lane k c) l is,
      (λ q low high. let here : is_within c.offset (c.offset + c.len) q ≡ true = grind (arith, nat_tests) in contains-with_range l.acked c.offset (c.offset + c.len) q ∙ or_right _ _ here),
      (λ fin. or_right l.fin_acked c.fin fin),
    )
reached_now (Told (MaxData m)) e home = greatest_now e.acked.max_data m
reached_now (Told (MaxStreamData n m)) e home = greatest_of_now e.acked.max_stream_data n m
reached_now (Told (MaxStreams Bidi m)) e home = greatest_now e.acked.bidi_streams m
reached_now (Told (MaxStreams Uni m)) e home = greatest_now e.acked.uni_streams m
reached_now (Told (ResetStream n code size)) e home = let (l, is) = the_one (lookup e.sends n) home in (reset_acked_lane l, changed e.sends n reset_acked_lane l is, refl)
reached_now (Told (StopSending n code)) e home = set.contains-insert nat_cmp_total e.acked.stop_sending n n ∙ or_left _ _ (tied_itself n)
reached_now (Told (DataBlocked m)) e home = greatest_now e.acked.data_blocked m
reached_now (Told (StreamDataBlocked n m)) e home = greatest_of_now e.acked.stream_data_blocked n m
reached_now (Told (StreamsBlocked Bidi m)) e home = greatest_now e.acked.bidi_blocked m
reached_now (Told (StreamsBlocked Uni m)) e home = greatest_now e.acked.uni_blocked m

abbrev AllHome : Tables SendLane → List AckedPiece → Type 0
AllHome t = AllByRecursion (λ (a : AckedPiece). HasHome t a.piece)

pub all_homes : (e : End) (ranges : List (ℕ × ℕ)) → Homes e → AllHome e.sends (named e ranges)
all_homes e ranges h = all_named (λ (a : AckedPiece). HasHome e.sends a.piece) ranges e (λ late k ps is at p among. h late p (k, ps, at, among))

-- One piece of one packet

module _ (k : ℕ) (p : Piece) where
  abbrev pub Stays : End → Type 0
  Stays e = IsIn e.outstanding k p ⊎ IsWhollyAcked e p

  alike : (a b : End) → b.outstanding ≡ a.outstanding → StayIn a.sends b.sends → ItemsGrow a.acked b.acked → Stays a → Stays b
  alike a b same kept grow h = grind (arith, nat_tests, reached_stays)

  left_in : (m : PacketPieces) (first : Piece) (rest : List Piece) → fmap.get m k ≡ rest_of (Some (first ∷ rest)) → Among p (first ∷ rest) → (p ≡ first) ⊎ IsIn m k p
  left_in m first rest is h = grind (arith, nat_tests)

  first_out : (late : Bool) (j : ℕ) (r : Piece) (rest : List Piece) (e : End) → HasHome e.sends r → fmap.get (held late e) j ≡ Some (r ∷ rest) → IsIn e.outstanding k p → Stays (first_acked (acked_at late j r) e)
  first_out true j r rest e home is here = inl (subst (λ m. IsIn m k p) (sym (held_piece false r (without_piece true j e))) here)
  first_out false j r rest e home is (ps, at, among) =
      elim (cases_eq k j) [
        | inl same ↦ (
            let after = first_acked (acked_at false j r) e in
            let left : fmap.get after.outstanding k ≡ rest_of (Some (r ∷ rest)) = ap (fmap.get after.outstanding) same ∙ first_same false j r e ∙ ap rest_of is in
            elim (left_in after.outstanding r rest left (subst (Among p) (same_Some ps (r ∷ rest) (sym at ∙ ap (fmap.get e.outstanding) same ∙ is)) among)) [
              | inl e1 ↦ inr (subst (IsWhollyAcked after) (sym e1) (reached_now r (without_piece false j e) home))
              | inr still ↦ inl still
            ])
        | inr ne ↦ inl (ps, first_other false j k r e ne ∙ at, among)
      ]

  pub out_acks : (ps : List AckedPiece) (e : End) → InOrder ps e → AllHome e.sends ps → Stays e → Stays (acks ps e)
  unfolding acks
  out_acks [] e order homes s = s
  out_acks (a ∷ ps) e order homes (inr reached) = inr (reached_stays e (acks ps (first_acked a e)) (in_acks (a ∷ ps) e) (items_acks (a ∷ ps) e) p reached)
  out_acks (a ∷ ps) e order homes (inl here) =
      out_acks ps (first_acked a e) order.1
      (All_more (λ (x : AckedPiece). HasHome e.sends x.piece) (λ (x : AckedPiece). HasHome (first_acked a e).sends x.piece) ps (λ x is. home_stays {R = AcksStay} e.sends (first_acked a e).sends (in_piece a.piece (without_piece a.late a.number e)) x.piece is) homes.1)
      (first_out a.late a.number a.piece order.0.0 e homes.0 order.0.1 here)

  -- Frames

  in_opens : (n : ℕ) (e : End) → IsIn e.outstanding k p → IsIn (opened_by_peer n e).outstanding k p
  in_opens n e here = cond_both (is_own e n) e (opens n e) (λ x. IsIn x.outstanding k p) (λ _. here) (λ _. here)

  out_frame : (f : Seen) (e : End) → Homes e → Stays e → Stays (frame_taken f e)
  unfolding frame_taken
  out_frame (Ack largest ranges) e homes s = out_acks (named e ranges) e (order_named e ranges) (all_homes e ranges homes) s
  out_frame f e homes (inr reached) = inr (reached_stays e (frame_taken f e) (in_frame f e) (items_frame f e) p reached)
  out_frame (Stream n offset bytes fin) e homes (inl here) = inl (in_opens n e here)
  out_frame (Control (MaxStreamData n m)) e homes (inl here) = inl (in_opens n e here)
  out_frame (Control (MaxStreams Bidi m)) e homes (inl here) = inl here
  out_frame (Control (MaxStreams Uni m)) e homes (inl here) = inl here
  out_frame (Control (ResetStream n code size)) e homes (inl here) = inl (in_opens n e here)
  out_frame (Control (StopSending n code)) e homes (inl here) = inl (in_opens n e here)
  out_frame (Control (StreamDataBlocked n m)) e homes (inl here) = inl (in_opens n e here)
  out_frame f e homes (inl here) = inl here

  out_frames : (fs : List Seen) (e : End) → IsSound e → SentWasWritten e → Homes e → NoFault e fs → Stays e → Stays (frames_taken fs e)
  unfolding frames_taken
  out_frames [] e sound sent homes none s = s
  out_frames (f ∷ fs) e sound sent homes none s =
      let (goes, rest) = first_goes e f fs none in
      let one = one_left f e goes sound sent in
      out_frames fs (frame_taken f e) one.sound one.sent (homes_after e (frame_taken f e) one.after homes) rest (out_frame f e homes s)

  out_ends : (e mid : End) → Homes e → Ends e mid → Stays e → Stays mid
  out_ends e mid homes (inl is) s = subst Stays (sym is) s
  out_ends e mid homes (inr (inl (c, is))) s = subst Stays (sym is) (alike e (closes c e) refl (in_same e.sends) (λ i h. h) s)
  out_ends e mid homes (inr (inr (inl (number, asks, is)))) s = subst Stays (sym is) (alike e (recorded number asks e) refl (in_same e.sends) (λ i h. h) s)
  out_ends e mid homes (inr (inr (inr (count, ranges, is)))) s =
      subst Stays (sym is) (out_acks (take count (named e ranges)) e (order_take count (named e ranges) e (order_named e ranges)) (All_take (λ (a : AckedPiece). HasHome e.sends a.piece) count (named e ranges) (all_homes e ranges homes)) s)

  -- Packets

  in_noted : (q : Piece) (e : End) → IsIn e.outstanding k p → IsIn (noted q e).outstanding k p
  in_noted q e (ps, at, among) =
      elim (cases_eq k e.next) [
        | inl same ↦ (
          pieces_so_far e e.next ++ q ∷ [],
          ap (fmap.get (noted q e).outstanding) same ∙ get_new e.outstanding e.next (pieces_so_far e e.next ++ q ∷ []),
          among_more (pieces_so_far e e.next) (q ∷ []) p (subst (λ o. Among p (elim o as (λ _. List Piece) [ None ↦ [] | Some qs ↦ qs ])) (sym at ∙ ap (fmap.get e.outstanding) same) among),
        )
        | inr ne ↦ (ps, get_other e.outstanding e.next (pieces_so_far e e.next ++ q ∷ []) k ne ∙ at, among)
      ]

  pub in_put : (f : Seen) (e : End) → StayIn e.sends (frame_put f e).sends
  unfolding frame_put
  in_put (Stream n offset bytes fin) e = in_edited e.sends n (λ l. sent_lane l (chunk_of offset bytes fin)) stay_same
  in_put (Control (StreamDataBlocked n m)) e = in_edited e.sends n blocked_lane stay_same
  in_put f e = in_same e.sends

  pub put_in : (f : Seen) (e : End) → IsIn e.outstanding k p → IsIn (frame_put f e).outstanding k p
  unfolding frame_put
  put_in (Stream n offset bytes fin) e here = in_noted (Data n (chunk_of offset bytes fin)) (on_send n (λ l. sent_lane l (chunk_of offset bytes fin)) e) here
  put_in (Control (StreamDataBlocked n m)) e here = in_noted (Told (StreamDataBlocked n m)) (on_send n blocked_lane e) here
  put_in (Control i) e here = in_noted (Told i) e here
  put_in f e here = here

  out_put : (f : Seen) (e : End) → Stays e → Stays (frame_put f e)
  out_put f e (inr reached) = inr (reached_stays e (frame_put f e) (in_put f e) (items_put f e) p reached)
  out_put f e (inl here) = inl (put_in f e here)

  out_fills : (old : End) (fs : List Seen) (e last : End) → Fills old e fs last → Stays e → Stays last
  out_fills old [] e last is s = subst Stays (sym is) s
  out_fills old (f ∷ fs) e last (may, rest) s = out_fills old fs (frame_put f e) last rest (out_put f e s)

  out_forms : (old : End) → IsSound old → SentWasWritten old → Homes old → Stays old → Forms old Stays
  out_forms old sound sent homes s =
      record {
        same = s;
        claims = alike old (record old { next = old.next + 1 }) refl (in_same old.sends) (λ i h. h) s;
        accepts = λ bidi uni. alike old (settle (record old { accepted_bidi = bidi; accepted_uni = uni })) refl (in_same old.sends) (λ i h. h) s;
        reads = λ n size. alike old (settle (on_recv n (λ m. after_read m size) old)) refl (in_same old.sends) (λ i h. h) s;
        consumes = λ n size. alike old (settle (on_recv n (λ m. after_read m 0) (on_recv n (λ m. after_read m size) old))) refl (in_same old.sends) (λ i h. h) s;
        packet = λ fs last filled. alike last (settle (record last { next = old.next + 1 })) refl (in_same last.sends) (λ i h. h) (out_fills old fs old last filled s);
        frames = λ fs mid none ends.
            let led = frames_taken fs old in
            let homes_there = homes_after old led (all_left fs old sound sent none).after homes in
            alike mid (settle mid) refl (in_same mid.sends) (λ i h. h) (out_ends led mid homes_there ends (out_frames fs old sound sent homes none s));
      }

-- In every run

written_home : (o : Option SendLane) (c : Chunk) → IsWritten o c → is_some o ≡ true
written_home o c h = grind (arith, nat_tests)

pub homes_of : (e : End) → SentWasWritten e → AllWithin e → Homes e
homes_of e sent within late (Data n c) is = written_home (lookup e.sends n) c (sent late (Data n c) is)
homes_of e sent within late (Told (ResetStream n code size)) is = let (l, at, same) = within (ResetStream n code size) (inl (late, is)) in ap is_some at
homes_of e sent within late (Told i) is = tt

pub what_is_out_stays : WhatIsOutStays
what_is_out_stays a b h v w x run step calm s k p =
    let ok = run_keeps a b h v run in
    two_sides (λ t. IsIn (end_of v t).outstanding k p → Stays k p (end_of w t)) x.end
    (λ here.
    calm_call (end_of v x.end) (Stays k p)
    (out_forms k p (end_of v x.end) (ok.sound x.end) (ok.sent x.end) (homes_of (end_of v x.end) (ok.sent x.end) (items_are_within a b h v run x.end)) (inl here))
    x.call x.answer (end_of w x.end) calm step.step)
    (λ here. inl (subst (λ e. IsIn e.outstanding k p) (sym step.still) here)) s
