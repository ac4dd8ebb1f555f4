-- Whether the present value of a control item was acknowledged goes by that value.
use Rattle.std.proofs.Common.{◌≡◌, ℕ, true, List, [], ◌∷◌, ◌⊎◌, is_some, refl, sym, ap, ◌∙◌, subst, arith, inl, inr}
use Rattle.std.proofs.lemmas.Bool.{cond_both}
use Rattle.std.proofs.lemmas.Bool.Decides.{nat_tests}
use Rattle.std.proofs.lemmas.Option.{same_Some}
use Rattle.qs_wire.specs.declared.stream_id.Dir.TheVariants.{Uni}
use Rattle.qs_recv.specs.Lane.{RecvLane}
use Rattle.qs_send.specs.Lane.{SendLane}
use Rattle.qs_send.specs.Records.{Among}
use Rattle.qs_send.specs.declared.piece.Item.{Item}
use Rattle.qs_send.specs.declared.piece.Item.TheVariants.{MaxData, MaxStreamData, MaxStreams, ResetStream, StopSending, DataBlocked, StreamDataBlocked, StreamsBlocked}
use Rattle.qs_send.specs.declared.piece.Piece.TheVariants.{Told}
use Rattle.qs_machine.specs.Tables.{lookup}
use Rattle.qs_machine.specs.Ends.{End, is_own, opens, opened_by_peer}
use Rattle.qs_machine.specs.Credit.{granted_streams}
use Rattle.qs_machine.specs.Due.{IsAcked, known_count}
use Rattle.qs_machine.specs.Seen.{Ack, Stream, Control}
use Rattle.qs_machine.specs.FrameStep.{AckedPiece, acks, first_acked, without_piece, frame_taken, named}
use Rattle.qs_machine.specs.EndStep.{Call, Answer as CallAnswer, EndStep}
use Rattle.qs_machine.proofs.EachHalf.{SendEdit, send_edited, sends_kept}
use Rattle.qs_runs.specs.Worlds.{end_of}
use Rattle.qs_runs.proofs.Stays.{each_side}
use Rattle.qs_progress.specs.Within.{IsKept, IsWithin, AllWithin}
use Rattle.qs_progress.specs.Outstanding.{IsWhollyAcked}
use Rattle.qs_progress.specs.Acknowledged.{IsPresent, IsOther, GoesByValue, AcknowledgedGoesByValue, AcksTellPresent, OnlyAcksTell}
use Rattle.qs_progress.proofs.Items.{grown_call, items_acks}
use Rattle.qs_progress.proofs.Within.{items_are_within, all_within_call, from_call, within_call, present_within, now_within, kept_piece, put_named, all_there}
use Rattle.qs_progress.proofs.Outstanding.{AcksStay, HasHome, home_stays, in_piece, in_acks, reached_now, reached_stays}
use Rattle.qs_progress.proofs.Going.{done_present}
use Rattle.qs_progress.proofs.More.{acked_reached}

-- Across a call

abbrev KeepsAcked : SendLane → SendLane → Type 0
KeepsAcked l m = l.reset_acked ≡ true → m.reset_acked ≡ true

keeps_acked : (x : SendEdit) (l : SendLane) → KeepsAcked l (send_edited x l)
keeps_acked x l is = grind (arith, nat_tests)

reached_call : (old : End) (call : Call) (answer : CallAnswer call) (new : End) → EndStep old call answer new → (i : Item) → IsWhollyAcked old (Told i) → IsWhollyAcked new (Told i)
reached_call old call answer new step (ResetStream n code size) (l, at, is) =
    let (k, there, keeps) = (sends_kept KeepsAcked (λ l is. is) (λ l m k x y is. y (x is)) keeps_acked old call answer new step).1 n l at in
    (k, there, keeps is)
reached_call old call answer new step i is = (grown_call old call answer new step).3 i is

acked_kept : (e : End) (i j : Item) → IsOther i j → IsAcked e j → IsKept e.acked j
acked_kept e (MaxData m) (MaxData k) other is = is
acked_kept e (MaxStreamData n m) (MaxStreamData r k) other is = is
acked_kept e (MaxStreams d m) (MaxStreams c k) other is = is
acked_kept e (DataBlocked m) (DataBlocked k) other is = is
acked_kept e (StreamDataBlocked n m) (StreamDataBlocked r k) other is = is
acked_kept e (StreamsBlocked d m) (StreamsBlocked c k) other is = is
acked_kept e i j other is = absurd other

-- what is at most the present value of before, and that at most the present one, is that
parted : (old new : End) (i j : Item) → IsOther i j → IsPresent old i → IsPresent new j → IsWithin old j → IsWithin new i → ⊥
parted old new (MaxData m) (MaxData k) ne was is low high = ne (omega (arith, was, is, low, high))
parted old new (MaxStreamData n m) (MaxStreamData r k) (same, ne) (l, at, was) (y, there, is) (x, before, low) (z, after, high) =
    let one : l.limit ≡ x.limit = ap (λ (h : RecvLane). h.limit) (same_Some l x (sym at ∙ ap (lookup old.recvs) same ∙ before)) in
    let two : y.limit ≡ z.limit = ap (λ (h : RecvLane). h.limit) (same_Some y z (sym there ∙ ap (lookup new.recvs) (sym same) ∙ after)) in
    ne (omega (arith, was, is, low, high, one, two))
parted old new (MaxStreams d m) (MaxStreams c k) (same, ne) was is low high =
    let one : granted_streams old d ≡ granted_streams old c = ap (granted_streams old) same in
    let two : granted_streams new d ≡ granted_streams new c = ap (granted_streams new) same in
    ne (omega (arith, was, is, low, high, one, two))
parted old new (DataBlocked m) (DataBlocked k) ne was is low high = ne (omega (arith, was, is, low, high))
parted old new (StreamDataBlocked n m) (StreamDataBlocked r k) (same, ne) (l, at, was) (y, there, is) (x, before, low) (z, after, high) =
    let one : l.limit ≡ x.limit = ap (λ (h : SendLane). h.limit) (same_Some l x (sym at ∙ ap (lookup old.sends) same ∙ before)) in
    let two : y.limit ≡ z.limit = ap (λ (h : SendLane). h.limit) (same_Some y z (sym there ∙ ap (lookup new.sends) (sym same) ∙ after)) in
    ne (omega (arith, was, is, low, high, one, two))
parted old new (StreamsBlocked d m) (StreamsBlocked c k) (same, ne) was is low high =
    let one : known_count old d ≡ known_count old c = ap (known_count old) same in
    let two : known_count new d ≡ known_count new c = ap (known_count new) same in
    ne (omega (arith, was, is, low, high, one, two))
parted old new i j other was is low high = absurd other

by_value : (old : End) (call : Call) (answer : CallAnswer call) (new : End) → EndStep old call answer new → AllWithin old → GoesByValue old new
by_value old call answer new step within =
    record {
      stays = λ i was is. done_present new new (all_within_call old call answer new step within) i is (reached_call old call answer new step i (acked_reached old i was));
      ends = λ i j other was is acked.
          let before : IsWithin old j = elim (from_call old call answer new step j (inr (acked_kept new i j other acked))) [ inl put ↦ within j put | inr current ↦ now_within old j current ] in
          parted old new i j other was is before (within_call old call answer new step i (present_within old i was));
    }

-- of an end at which nothing happens
as_before : (e : End) → AllWithin e → GoesByValue e e
as_before e within =
    record {
      stays = λ i was is. was;
      ends = λ i j other was is acked. parted e e i j other was is (within j (inr (acked_kept e i j other acked))) (present_within e i was);
    }

pub acknowledged_goes_by_value : AcknowledgedGoesByValue
acknowledged_goes_by_value a b h v w x run step s =
    each_side (λ e f. AllWithin e → GoesByValue e f) as_before v w (λ t call answer made. by_value (end_of v t) call answer (end_of w t) made) h x step s (items_are_within a b h v run s)

-- What an ACK acknowledges

told_acks : (ps : List AckedPiece) (e : End) (i : Item) → HasHome e.sends (Told i) → (p : AckedPiece) → Among p ps → p.piece ≡ Told i → IsWhollyAcked (acks ps e) (Told i)
unfolding acks
told_acks [] e i home p among is = absurd among
told_acks (a ∷ ps) e i home p (inl same) is =
    let told : a.piece ≡ Told i = ap (λ (q : AckedPiece). q.piece) (sym same) ∙ is in
    let now : IsWhollyAcked (first_acked a e) a.piece = reached_now a.piece (without_piece a.late a.number e) (subst (HasHome e.sends) (sym told) home) in
    reached_stays (first_acked a e) (acks ps (first_acked a e)) (in_acks ps (first_acked a e)) (items_acks ps (first_acked a e)) (Told i) (subst (IsWhollyAcked (first_acked a e)) told now)
told_acks (a ∷ ps) e i home p (inr later) is =
    told_acks ps (first_acked a e) i (home_stays {R = AcksStay} e.sends (first_acked a e).sends (in_piece a.piece (without_piece a.late a.number e)) (Told i) home) p later is

home_of : (e : End) (i : Item) → IsPresent e i → HasHome e.sends (Told i)
home_of e (ResetStream n code size) (l, at, is) = ap is_some at
home_of e i is = tt

pub acks_tell_present : AcksTellPresent
unfolding frame_taken
acks_tell_present a b h w run s largest ranges p i among told is =
    let e = end_of w s in
    done_present e (acks (named e ranges) e) (λ j put. items_are_within a b h w run s j (put_named (named e ranges) e j (all_there ranges e) put)) i is (told_acks (named e ranges) e i (home_of e i is) p among told)

-- and nothing else does

kept_acks : (ps : List AckedPiece) (e : End) (i : Item) → IsKept (acks ps e).acked i → IsKept e.acked i ⊎ ((p : AckedPiece) × Among p ps × (p.piece ≡ Told i))
unfolding acks
kept_acks [] e i is = inl is
kept_acks (a ∷ ps) e i is =
    elim (kept_acks ps (first_acked a e) i is) [
      | inl first ↦ elim (kept_piece a.piece (without_piece a.late a.number e) i first) [ inl was ↦ inl was | inr same ↦ inr (a, inl refl, same) ]
      | inr (p, among, same) ↦ inr (p, inr among, same)
    ]

kept_opened : (n : ℕ) (e : End) (i : Item) → IsKept (opened_by_peer n e).acked i → IsKept e.acked i
kept_opened n e i = cond_both (is_own e n) e (opens n e) (λ x. IsKept x.acked i → IsKept e.acked i) (λ _ is. is) (λ _ is. is)

pub only_acks_tell : OnlyAcksTell
unfolding frame_taken
only_acks_tell e (Ack largest ranges) i is = kept_acks (named e ranges) e i is
only_acks_tell e (Stream n offset bytes fin) i is = inl (kept_opened n e i is)
only_acks_tell e (Control (MaxStreamData n m)) i is = inl (kept_opened n e i is)
only_acks_tell e (Control (MaxStreams Uni m)) i is = inl is
only_acks_tell e (Control (ResetStream n code size)) i is = inl (kept_opened n e i is)
only_acks_tell e (Control (StopSending n code)) i is = inl (kept_opened n e i is)
only_acks_tell e (Control (StreamDataBlocked n m)) i is = inl (kept_opened n e i is)
only_acks_tell e f i is = inl is
