-- The marks of what may be due stay right, as packets come and go and as limits rise.
use Rattle.std.specs.FinMap as fmap
use Rattle.std.specs.FinSet as set
use Rattle.qs_conn.specs.declared.due.Slot.TheVariants as slots
use Rattle.qs_conn.specs.declared.due.Kind.TheVariants as kinds
use Rattle.std.proofs.lemmas.Bool.Decides.{nat_tests}
use Rattle.std.proofs.Common.{if◌then◌else◌, arith, ◌||◌, ◌≡◌, ℕ, Bool, true, false, ◌⊎◌, Option, None, Some, is_some, refl, sym, ap, ◌∙◌, subst, inl, inr, nat_cmp, ◌%◌, ◌≤◌, max, ◌<◌, ◌/◌, nat_lt, List, [], ◌∷◌, length, get_or, slice_get}
use Rattle.std.proofs.lemmas.Bool.{true≢false, cases_eq, cond_both, or_right}
use Rattle.std.proofs.lemmas.Option.{none-some, same_Some, cond_some, get_or_from_slice_get, slice_get_cases}
use Rattle.std.specs.Cmp.{nat_cmp_total}
use Rattle.std.specs.Ordering.{eq_by_cmp}
use Rattle.std.proofs.Math.ListN.{set as list_set}
use Rattle.qs_send.specs.Records.{IsCarried}
use Rattle.qs_send.specs.declared.piece.Item.{Item}
use Rattle.qs_send.specs.declared.piece.Item.TheVariants.{MaxStreamData, ResetStream, StopSending, StreamDataBlocked}
use Rattle.qs_send.specs.declared.piece.Piece.{Piece}
use Rattle.qs_send.specs.declared.piece.Piece.TheVariants.{Told, Data}
use Rattle.qs_send.specs.declared.parts.Reset.{Reset}
use Rattle.qs_machine.specs.Tables.{Tables, lookup, update, updated, no_streams, table, with_table}
use Rattle.qs_machine.specs.Sums.{tables_of, changed}
use Rattle.qs_machine.specs.Ends.{AckedItems, End, lost_less, is_own, opens, opened_by_peer}
use Rattle.qs_machine.specs.Due.{IsCurrent, IsCovered}
use Rattle.qs_machine.specs.FrameStep.{without_first}
use Rattle.qs_machine.specs.Acked.{HasAcked, greatest_of}
use Rattle.qs_machine.specs.Outgoing.{AreApartIn, Outgoing, IsAckedOut, IsAckedReset, blocked_noted, no_packets, first_piece, first_acked_out, first_lost_out, acked_at, items_acked}
use Rattle.qs_machine.proofs.Carried.{carried_before, carried_still, shortened_is, get_new, get_other, tied_itself}
use Rattle.qs_machine.proofs.LostSent.{lost_carried}
use Rattle.qs_machine.proofs.TableLaws.{table_same}
use Rattle.qs_machine.proofs.Ties.{nowhere}
use Rattle.qs_send.proofs.Outstanding.{carried-without_first}
use Rattle.qs_recv.specs.Lane.{RecvLane, raise, raise_answer, raised_limit}
use Rattle.qs_send.specs.Lane.{SendLane, acked_lane, reset_acked_lane, blocked_lane}
use Rattle.qs_wire.specs.declared.stream_id.Role.{Role}
use Rattle.qs_calls.specs.declared.settings.Settings.{Settings}
use Rattle.qs_conn.specs.declared.limits.Limits.{Limits}
use Rattle.qs_conn.specs.declared.due.Kind.{Kind}
use Rattle.qs_conn.specs.Filling.{end_by, slot_at, slot_of}
use Rattle.qs_conn.specs.Marks.{IsIdle}
use Rattle.qs_conn.specs.Runs.{held_out}
use Rattle.qs_conn.specs.Due.{Packets, packets_of, WasPut, IsKnown, IsToldIn, TellsStop, TellsLimit, TellsReset, TellsBlock, HasStop, IsWithinLimit, HasReset, HasBlocked, AreDue, HavePlaces, IsDueWithout, IsItemMarked, reset_at, row_of, StayMarked, StayMarkedOf, marks_of}
use Rattle.qs_streams.specs.Flags.{HasPlace, IsFlaggedAt, MovesRow}
use Rattle.qs_streams.proofs.BoardsOf.{moves_row}
use Rattle.qs_conn.proofs.Untolds.{updated_here, of_mapped, of_slot, acked_out}
use Rattle.qs_conn.proofs.LaneEdits.{not_raised}
use Rattle.qs_conn.proofs.Dues.{came, block_telling, blocks_tell, due_came, due_gone, due_other, due_send, first_is, is_marked_by, limit_telling, limits_tell, mark_here, marked_is, places_changed, places_more, right_as, right_changed, right_none, right_risen, right_told, stop_telling, stops_tell, told_same}

-- Packets of no endpoint's doing

-- the packets of an end
abbrev pub packets_at : End → Packets
packets_at e = record { out = e.outstanding; lost = e.lost.pieces; acked = e.acked }

-- no packet moves as the peer opens streams
pub due_before : (e mid : End) (n : ℕ) (recvs : Tables RecvLane) (sends : Tables SendLane) (t : Tables (List ℕ)) → mid ≡ opened_by_peer n e → recvs ≡ e.recvs → sends ≡ e.sends → AreDue e.role e.settings e.recvs e.sends (packets_at e) t → AreDue mid.role mid.settings recvs sends (packets_at mid) t
due_before e mid n recvs sends t is in_same out_same h = rw (is, in_same, out_same) (cond_both (is_own e n) e (opens n e) (λ (x : End). AreDue x.role x.settings e.recvs e.sends (packets_at x) t) (λ own. h) (λ new. h))

-- before the first packet none told anything
pub nothing_put : (o : Outgoing) → o ≡ no_packets → (i : Item) → WasPut (packets_of o) i → ⊥
nothing_put o is i put = go i (subst (λ (x : Outgoing). WasPut (packets_of x) i) is put)
  where
    none : (x : Piece) → IsCarried fmap.empty x → ⊥
    none x (k, ps, there, among) = none-some ps (sym (fmap.get-empty nat_cmp k) ∙ there)

    go : (i : Item) → WasPut (packets_of no_packets) i → ⊥
    go i (inl out) = none (Told i) out
    go i (inr (inl lost)) = none (Told i) lost
    go (MaxStreamData n v) (inr (inr known)) = none-some v (sym (fmap.get-empty nat_cmp n) ∙ known)
    go (StreamDataBlocked n v) (inr (inr known)) = none-some v (sym (fmap.get-empty nat_cmp n) ∙ known)
    go _ (inr (inr known)) = known

-- Pieces are acknowledged and lost

-- what is known of limits
greatest_is : (m : fmap.FinMap nat_cmp ℕ) (n j w v : ℕ) → fmap.get (greatest_of m j w) n ≡ Some v → (fmap.get m n ≡ Some v) ⊎ ((j ≡ n) × (w ≡ v))
greatest_is m n j w v is = grind (arith, nat_tests, cases_eq, get_new, get_other, max)

greatest_stays : (m : fmap.FinMap nat_cmp ℕ) (n j w v : ℕ) → ((u : ℕ) → fmap.get m n ≡ Some u → u ≤ v) → (j ≡ n → w ≤ v) → ((j ≡ n) × (w ≡ v)) ⊎ (fmap.get m n ≡ Some v) → fmap.get (greatest_of m j w) n ≡ Some v
greatest_stays m n j w v within le told = grind (arith, nat_tests, cases_eq, get_new, get_other, max)

known_is : (x : Piece) (a : AckedItems) (i : Item) → IsKnown (items_acked x a) i → IsKnown a i ⊎ (Told i ≡ x)
known_is x a i known = grind (arith, nat_tests, greatest_is)

limits_other : (x : Piece) (a : AckedItems) → ((n w : ℕ) → x ≡ Told (MaxStreamData n w) → ⊥) → (items_acked x a).max_stream_data ≡ a.max_stream_data
limits_other x a none = grind (arith, nat_tests)

limit_still : (x : Piece) (a : AckedItems) (n v : ℕ) → ((w : ℕ) → IsKnown a (MaxStreamData n w) → w ≤ v) → ((w : ℕ) → x ≡ Told (MaxStreamData n w) → w ≤ v) → (Told (MaxStreamData n v) ≡ x) ⊎ HasAcked a (MaxStreamData n v) → HasAcked (items_acked x a) (MaxStreamData n v)
limit_still x a n v known within told = elim (limit_telling x) [
  | inl (j, w, is) ↦ subst (λ y. HasAcked (items_acked y a) (MaxStreamData n v)) (sym is)
      (greatest_stays a.max_stream_data n j w v known (λ e. within w (is ∙ ap (λ q. Told (MaxStreamData q w)) e)) (elim told [ inl same ↦ inl (limits_tell n j v w (told_same (MaxStreamData j w) (MaxStreamData n v) (sym is ∙ sym same))) | inr noted ↦ inr noted ]))
  | inr none ↦ elim told [ inl same ↦ absurd (none n v (sym same)) | inr noted ↦ ap (λ m. fmap.get m n) (limits_other x a none) ∙ noted ]
]

blocks_other : (x : Piece) (a : AckedItems) → ((n w : ℕ) → x ≡ Told (StreamDataBlocked n w) → ⊥) → (items_acked x a).stream_data_blocked ≡ a.stream_data_blocked
blocks_other x a none = grind (arith, nat_tests)

block_still : (x : Piece) (a : AckedItems) (n v : ℕ) → ((w : ℕ) → IsKnown a (StreamDataBlocked n w) → w ≤ v) → ((w : ℕ) → x ≡ Told (StreamDataBlocked n w) → w ≤ v) → (Told (StreamDataBlocked n v) ≡ x) ⊎ HasAcked a (StreamDataBlocked n v) → HasAcked (items_acked x a) (StreamDataBlocked n v)
block_still x a n v known within told = elim (block_telling x) [
  | inl (j, w, is) ↦ subst (λ y. HasAcked (items_acked y a) (StreamDataBlocked n v)) (sym is)
      (greatest_stays a.stream_data_blocked n j w v known (λ e. within w (is ∙ ap (λ q. Told (StreamDataBlocked q w)) e)) (elim told [ inl same ↦ inl (blocks_tell n j v w (told_same (StreamDataBlocked j w) (StreamDataBlocked n v) (sym is ∙ sym same))) | inr noted ↦ inr noted ]))
  | inr none ↦ elim told [ inl same ↦ absurd (none n v (sym same)) | inr noted ↦ ap (λ m. fmap.get m n) (blocks_other x a none) ∙ noted ]
]

stops_other : (x : Piece) (a : AckedItems) → ((n w : ℕ) → x ≡ Told (StopSending n w) → ⊥) → (items_acked x a).stop_sending ≡ a.stop_sending
stops_other x a none = grind (arith, nat_tests)

stop_still : (x : Piece) (a : AckedItems) (n v : ℕ) → (Told (StopSending n v) ≡ x) ⊎ HasAcked a (StopSending n v) → HasAcked (items_acked x a) (StopSending n v)
stop_still x a n v told = elim (stop_telling x) [
  | inl (j, w, is) ↦ subst (λ y. HasAcked (items_acked y a) (StopSending n v)) (sym is)
      (set.contains-insert nat_cmp_total a.stop_sending j n ∙ elim told [ inl same ↦ ap (λ b. b || set.contains a.stop_sending n) (itself j n (stops_tell n j v w (told_same (StopSending j w) (StopSending n v) (sym is ∙ sym same))).0) | inr noted ↦ or_right _ _ noted ])
  | inr none ↦ elim told [ inl same ↦ absurd (none n v (sym same)) | inr noted ↦ ap (λ m. set.contains m n) (stops_other x a none) ∙ noted ]
]
  where
    itself : (j n : ℕ) → j ≡ n → eq_by_cmp nat_cmp n j ≡ true
    itself j n is = ap (eq_by_cmp nat_cmp n) is ∙ tied_itself n

module _ (o : Outgoing) (k : ℕ) (x : Piece) where
  -- the packets as it left its own
  abbrev pub left_as : Bool → Packets
  left_as late = record { out = if late then o.outstanding else without_first o.outstanding k (fmap.get o.outstanding k); lost = (if late then lost_less k o.lost else o.lost).pieces; acked = items_acked x o.acked }

  pub left_is : (late : Bool) → packets_of (first_acked_out (acked_at late k x) o) ≡ left_as late
  left_is late = go x
    where
      go : (y : Piece) → packets_of (first_acked_out (acked_at late k y) o) ≡ record (left_as late) { acked = items_acked y o.acked }
      go (Data n c) = refl
      go (Told i) = refl

  pub out_less : (late : Bool) → first_piece (fmap.get (held_out late o) k) ≡ Some x → (y : Piece) → IsCarried (left_as late).out y → IsCarried o.outstanding y
  out_less true at y out = out
  out_less false at y out = carried_before o.outstanding _ k x (shortened_is o.outstanding k x at) y out

  pub out_still : (late : Bool) → first_piece (fmap.get (held_out late o) k) ≡ Some x → (y : Piece) → IsCarried o.outstanding y → (y ≡ x) ⊎ IsCarried (left_as late).out y
  out_still true at y out = inr out
  out_still false at y out = carried_still o.outstanding _ k x (shortened_is o.outstanding k x at) y out

module _ {r : Role} {s : Settings} {recvs : Tables RecvLane} (o new : Outgoing) {t : Tables (List ℕ)} (h : AreDue r s recvs o.sends (packets_of o) t) (k : ℕ) (x : Piece) where
  -- the halves as the piece is acknowledged
  due_noted : (late : Bool) → AreDue r s recvs (first_acked_out (acked_at late k x) o).sends (packets_of o) t
  due_noted late = go x
    where
      go : (y : Piece) → AreDue r s recvs (first_acked_out (acked_at late k y) o).sends (packets_of o) t
      go (Data n c) = due_send h _ n (λ l. acked_lane l c) refl (λ l there. (record { told = λ v has. has; tells = λ m v tells. tells }, record { told = λ v has. has; tells = λ m v tells. tells }))
      go (Told (ResetStream n code size)) = due_send h _ n reset_acked_lane refl (λ l there. (record { told = λ v has. has; tells = λ m v tells. absurd (true≢false tells.1) }, record { told = λ v has. has; tells = λ m v tells. tells }))
      go (Told _) = h

  piece_put : (late : Bool) → first_piece (fmap.get (held_out late o) k) ≡ Some x → (i : Item) → Told i ≡ x → WasPut (packets_of o) i
  piece_put false at i is = inl (subst (IsCarried o.outstanding) (sym is) (first_is o.outstanding k x at))
  piece_put true at i is = inr (inl (subst (IsCarried o.lost.pieces) (sym is) (first_is o.lost.pieces k x at)))

  put_less : (late : Bool) → first_piece (fmap.get (held_out late o) k) ≡ Some x → (i : Item) → WasPut (left_as o k x late) i → WasPut (packets_of o) i
  put_less late at i (inl out) = inl (out_less o k x late at (Told i) out)
  put_less true at i (inr (inl lost)) = inr (inl (carried-without_first o.lost.pieces k (Told i) lost))
  put_less false at i (inr (inl lost)) = inr (inl lost)
  put_less late at i (inr (inr known)) = elim (known_is x o.acked i known) [ inl was ↦ inr (inr was) | inr is ↦ piece_put late at i is ]

  -- the first piece of a packet is acknowledged
  pub due_acked : (late : Bool) → first_piece (fmap.get (held_out late o) k) ≡ Some x → new ≡ first_acked_out (acked_at late k x) o → AreDue r s recvs new.sends (packets_of new) t
  due_acked late at is =
      rw is (subst (λ q. AreDue r s recvs (first_acked_out (acked_at late k x) o).sends q t) (sym (left_is o k x late))
      (due_other (due_noted late) (left_as o k x late) (put_less late at) (out_less o k x late at)
      (λ n v l there tells told. elim told [
        | inl out ↦ elim (out_still o k x late at (Told (StopSending n v)) out) [ inl e ↦ inr (stop_still x o.acked n v (inl e)) | inr still ↦ inl still ]
        | inr noted ↦ inr (stop_still x o.acked n v (inr noted))
      ])
      (λ n v within told. (
      let is_still = limit_still x o.acked n v (λ w known. within w (inr (inr known))) (λ w e. within w (piece_put late at (MaxStreamData n w) (sym e))) in
      elim told [ inl out ↦ elim (out_still o k x late at (Told (MaxStreamData n v)) out) [ inl e ↦ inr (is_still (inl e)) | inr still ↦ inl still ] | inr noted ↦ inr (is_still (inr noted)) ]))
      (λ n v l there tells told. elim told [
        | inl out ↦ elim (out_still o k x late at (Told (reset_at n v)) out) [ inl e ↦ absurd (not_reset late n v l (sym e) there tells) | inr still ↦ inl still ]
        | inr noted ↦ absurd noted
      ])
      (λ n v within told. (
      let is_still = block_still x o.acked n v (λ w known. within w (inr (inr known))) (λ w e. within w (piece_put late at (StreamDataBlocked n w) (sym e))) in
      elim told [ inl out ↦ elim (out_still o k x late at (Told (StreamDataBlocked n v)) out) [ inl e ↦ inr (is_still (inl e)) | inr still ↦ inl still ] | inr noted ↦ inr (is_still (inr noted)) ]))))
    where
      -- a reset that is acknowledged isn't to be told
      not_reset : (late : Bool) (n : ℕ) (v : Reset) (l : SendLane) → x ≡ Told (reset_at n v) → lookup (first_acked_out (acked_at late k x) o).sends n ≡ Some l → TellsReset n l v → ⊥
      not_reset late n v l e there tells =
          of_mapped reset_acked_lane (lookup o.sends n) (λ m. m.reset_acked ≡ false → ⊥) (λ m at off. true≢false off) l
          (sym (updated_here o.sends n reset_acked_lane) ∙ subst (λ (y : Piece). lookup (first_acked_out (acked_at late k y) o).sends n ≡ Some l) e there) tells.1

  -- the first piece of a packet is lost
  pub due_lost : (u : Tables (List ℕ)) → AreApartIn o.outstanding → first_piece (fmap.get o.outstanding k) ≡ Some x → new ≡ first_lost_out k x o → IsDueWithout x recvs new.sends t u → AreDue r s recvs new.sends (packets_of new) u
  due_lost u apart at is without =
      rw is (due_gone h (packets_of (first_lost_out k x o)) k x u (shortened_is o.outstanding k x at) apart put refl (subst (λ (y : Outgoing). IsDueWithout x recvs y.sends t u) is without))
    where
      put : (i : Item) → WasPut (packets_of (first_lost_out k x o)) i → WasPut (packets_of o) i
      put i (inl out) = inl (carried_before o.outstanding _ k x (shortened_is o.outstanding k x at) (Told i) out)
      put i (inr (inl lost)) = elim (lost_carried k x o.lost (Told i) lost) [ inl was ↦ inr (inl was) | inr e ↦ inl (subst (IsCarried o.outstanding) (sym e) (first_is o.outstanding k x at)) ]
      put i (inr (inr known)) = inr (inr known)

-- a current item goes into a packet
pub due_put : {r : Role} {s : Settings} (l : Limits) (recvs : Tables RecvLane) (o : Outgoing) (e : End) (t u : Tables (List ℕ)) → AreDue r s recvs o.sends (packets_of o) t → (i : Item) → IsCurrent (end_by l recvs o e) i → IsItemMarked i false t u → AreDue r s recvs (blocked_noted i o.sends) (came o.next (Told i) (packets_of o)) u
due_put {r} {s} l recvs o e t u h i current marks =
    blocked i
    (due_came h o.next (Told i) u (marked_is i false recvs o.sends t u h.recv_places h.send_places marks) (λ n v is. (let (x, there, has, goes, part) = now (StopSending n v) is in (x, there, has, λ w tells. same_Some w v (sym tells.0 ∙ has))))
    (λ n v is. (let (x, there, has, above, unsized) = now (MaxStreamData n v) is in (x, there, omega (arith, has), λ w tells. tells.0 ∙ sym has)))
    (λ n v is. (let (x, there, has) = now (reset_at n v) is in (x, there, has, λ w tells. same_Some w v (sym tells.0 ∙ has))))
    (λ n v is. (let (x, there, none, has, more, sent) = now (StreamDataBlocked n v) is in (x, there, inr (has, more, omega (arith, sent)), λ w tells. tells.1 ∙ sym has))))
  where
    now : (j : Item) → Told i ≡ Told j → IsCurrent (end_by l recvs o e) j
    now j is = subst (IsCurrent (end_by l recvs o e)) (told_same i j is) current

    blocked : (j : Item) → AreDue r s recvs o.sends (came o.next (Told i) (packets_of o)) u → AreDue r s recvs (blocked_noted j o.sends) (came o.next (Told i) (packets_of o)) u
    blocked (StreamDataBlocked n v) h = due_send h _ n blocked_lane refl (λ l there. (record { told = λ v has. has; tells = λ m v tells. tells }, record { told = λ v has. has; tells = λ m v tells. tells }))
    blocked _ h = h

pub due_none : (r : Role) (s : Settings) (recvs : Tables RecvLane) (sends : Tables SendLane) (p : Packets) (t : Tables (List ℕ)) → recvs ≡ no_streams → sends ≡ no_streams → ((i : Item) → WasPut p i → ⊥) → AreDue r s recvs sends p t
due_none r s recvs sends p t is are none =
    record {
      stops = right_none StopSending TellsStop HasStop recvs p (marks_of kinds.StopSending t) is (λ n v. none (StopSending n v));
      limits = right_none MaxStreamData (TellsLimit r s) IsWithinLimit recvs p (marks_of kinds.MaxStreamData t) is (λ n v. none (MaxStreamData n v));
      resets = right_none reset_at TellsReset HasReset sends p (marks_of kinds.ResetStream t) are (λ n v. none (reset_at n v));
      blocks = right_none StreamDataBlocked TellsBlock HasBlocked sends p (marks_of kinds.StreamDataBlocked t) are (λ n v. none (StreamDataBlocked n v));
      recv_places = nowhere_placed recvs t is;
      send_places = nowhere_placed sends t are;
    }
  where
    nowhere_placed : {L : Type 0} (lanes : Tables L) (t : Tables (List ℕ)) → lanes ≡ no_streams → HavePlaces lanes t
    nowhere_placed {L} lanes t is n some = absurd (true≢false (sym some ∙ ap is_some (ap (λ (x : Tables L). lookup x n) is ∙ nowhere n)))

-- What marks tell of what is current

module _ (l : Limits) (recvs : Tables RecvLane) (o : Outgoing) (e : End) (t : Tables (List ℕ)) (h : AreDue l.role l.settings recvs o.sends (packets_of o) t) (n : ℕ) where
  abbrev there : End
  there = end_by l recvs o e

  -- a current item of a half is covered if it has no mark, and if it has one and wasn't acknowledged it isn't
  abbrev Tells : Bool → Item → Type 0
  Tells b i = IsCurrent there i → (b ≡ false → IsCovered there i) × (b ≡ true → (IsAckedOut o i → ⊥) → IsCarried o.outstanding (Told i) → ⊥)

  covered : (i : Item) → IsToldIn (packets_of o) i → IsCovered there i
  covered i told = elim told [ inl out ↦ inl out | inr noted ↦ inr (acked_out l recvs o e i (noted_out i noted)) ]
    where
      noted_out : (i : Item) → HasAcked o.acked i → IsAckedOut o i
      noted_out i noted = grind (arith, nat_tests)

  stop_tells : (i : Item) → slot_of i ≡ slots.StopSending n → Tells (marks_of kinds.StopSending t n) i
  stop_tells = of_slot (Tells (marks_of kinds.StopSending t n)) (slots.StopSending n) (λ v (x, at, has, goes, part). (let (on, off) = mark_here h.stops n x at in (λ is. covered (StopSending n v) (off is v (has, goes, part)), λ is not. on is v (has, goes, part))))

  limit_tells : (i : Item) → slot_of i ≡ slots.MaxStreamData n → Tells (marks_of kinds.MaxStreamData t n) i
  limit_tells = of_slot (Tells (marks_of kinds.MaxStreamData t n)) (slots.MaxStreamData n) (λ v (x, at, has, above, unsized). (let (on, off) = mark_here h.limits n x at in (λ is. covered (MaxStreamData n v) (off is v (has, above, unsized)), λ is not. on is v (has, above, unsized))))

  reset_tells : (i : Item) → slot_of i ≡ slots.ResetStream n → Tells (marks_of kinds.ResetStream t n) i
  reset_tells = of_slot (Tells (marks_of kinds.ResetStream t n)) (slots.ResetStream n) (λ code size (x, at, has). go code size x at has x.reset_acked refl)
    where
      go : (code size : ℕ) (x : SendLane) → lookup o.sends n ≡ Some x → x.was_reset ≡ Some (record { code = code; size = size }) → (b : Bool) → x.reset_acked ≡ b → (marks_of kinds.ResetStream t n ≡ false → IsCovered there (ResetStream n code size)) × (marks_of kinds.ResetStream t n ≡ true → (IsAckedOut o (ResetStream n code size) → ⊥) → IsCarried o.outstanding (Told (ResetStream n code size)) → ⊥)
      go code size x at has true acked = (λ is. inr (x, at, acked), λ is not. absurd (not (subst IsAckedReset (sym at) acked)))
      go code size x at has false acked = (let (on, off) = mark_here h.resets n x at in (λ is. covered (ResetStream n code size) (off is (record { code = code; size = size }) (has, acked)), λ is not. on is (record { code = code; size = size }) (has, acked)))

  block_tells : (i : Item) → slot_of i ≡ slots.StreamDataBlocked n → Tells (marks_of kinds.StreamDataBlocked t n) i
  block_tells = of_slot (Tells (marks_of kinds.StreamDataBlocked t n)) (slots.StreamDataBlocked n) (λ v (x, at, none, has, more, sent). (let (on, off) = mark_here h.blocks n x at in (λ is. covered (StreamDataBlocked n v) (off is v (none, has, more, sent)), λ is not. on is v (none, has, more, sent))))

  -- where what is current of a half was told, its mark goes
  pub due_cleared : (kind : Kind) → IsIdle there (slot_at kind n) → (u : Tables (List ℕ)) → IsFlaggedAt t (row_of kind) n false u → AreDue l.role l.settings recvs o.sends (packets_of o) u
  due_cleared kinds.StopSending idle u set_at =
      let moves = moves_row t u 4 n false set_at in
      record {
        stops = right_told h.stops n (marks_of kinds.StopSending u) (is_marked_by recvs t u 4 n false h.recv_places set_at) (λ x v at tells. idle (StopSending n v) refl (x, at, tells.0, tells.1, tells.2));
        limits = right_as h.limits (marks_of kinds.MaxStreamData u) (λ k. moves.rows 5 k (λ is. omega (arith, is)));
        resets = right_as h.resets (marks_of kinds.ResetStream u) (λ k. moves.rows 3 k (λ is. omega (arith, is)));
        blocks = right_as h.blocks (marks_of kinds.StreamDataBlocked u) (λ k. moves.rows 7 k (λ is. omega (arith, is)));
        recv_places = λ k some. moves.places k (h.recv_places k some);
        send_places = λ k some. moves.places k (h.send_places k some);
      }
  due_cleared kinds.MaxStreamData idle u set_at =
      let moves = moves_row t u 5 n false set_at in
      record {
        stops = right_as h.stops (marks_of kinds.StopSending u) (λ k. moves.rows 4 k (λ is. omega (arith, is)));
        limits = right_told h.limits n (marks_of kinds.MaxStreamData u) (is_marked_by recvs t u 5 n false h.recv_places set_at) (λ x v at tells. idle (MaxStreamData n v) refl (x, at, tells.0, tells.1, tells.2));
        resets = right_as h.resets (marks_of kinds.ResetStream u) (λ k. moves.rows 3 k (λ is. omega (arith, is)));
        blocks = right_as h.blocks (marks_of kinds.StreamDataBlocked u) (λ k. moves.rows 7 k (λ is. omega (arith, is)));
        recv_places = λ k some. moves.places k (h.recv_places k some);
        send_places = λ k some. moves.places k (h.send_places k some);
      }
  due_cleared kinds.ResetStream idle u set_at =
      let moves = moves_row t u 3 n false set_at in
      record {
        stops = right_as h.stops (marks_of kinds.StopSending u) (λ k. moves.rows 4 k (λ is. omega (arith, is)));
        limits = right_as h.limits (marks_of kinds.MaxStreamData u) (λ k. moves.rows 5 k (λ is. omega (arith, is)));
        resets = right_told h.resets n (marks_of kinds.ResetStream u) (is_marked_by o.sends t u 3 n false h.send_places set_at) (λ x v at tells. elim (idle (reset_at n v) refl (x, at, tells.0)) [ inl out ↦ inl out | inr (y, there_y, acked) ↦ absurd (true≢false (sym acked ∙ ap (λ (z : SendLane). z.reset_acked) (same_Some y x (sym there_y ∙ at)) ∙ tells.1)) ]);
        blocks = right_as h.blocks (marks_of kinds.StreamDataBlocked u) (λ k. moves.rows 7 k (λ is. omega (arith, is)));
        recv_places = λ k some. moves.places k (h.recv_places k some);
        send_places = λ k some. moves.places k (h.send_places k some);
      }
  due_cleared kinds.StreamDataBlocked idle u set_at =
      let moves = moves_row t u 7 n false set_at in
      record {
        stops = right_as h.stops (marks_of kinds.StopSending u) (λ k. moves.rows 4 k (λ is. omega (arith, is)));
        limits = right_as h.limits (marks_of kinds.MaxStreamData u) (λ k. moves.rows 5 k (λ is. omega (arith, is)));
        resets = right_as h.resets (marks_of kinds.ResetStream u) (λ k. moves.rows 3 k (λ is. omega (arith, is)));
        blocks = right_told h.blocks n (marks_of kinds.StreamDataBlocked u) (is_marked_by o.sends t u 7 n false h.send_places set_at) (λ x v at tells. idle (StreamDataBlocked n v) refl (x, at, tells.0, tells.1, tells.2, tells.3));
        recv_places = λ k some. moves.places k (h.recv_places k some);
        send_places = λ k some. moves.places k (h.send_places k some);
      }

  pub kind_tells : (kind : Kind) (i : Item) → slot_of i ≡ slot_at kind n → Tells (marks_of kind t n) i
  kind_tells kinds.StopSending = stop_tells
  kind_tells kinds.MaxStreamData = limit_tells
  kind_tells kinds.ResetStream = reset_tells
  kind_tells kinds.StreamDataBlocked = block_tells

  -- without a mark all was told
  pub kind_idle : (kind : Kind) → marks_of kind t n ≡ false → IsIdle there (slot_at kind n)
  kind_idle kind off i at current = (kind_tells kind i at current).0 off

-- ---- As limits of receiving halves rise, their marks stay right.

-- One lane of a type

with_twice : {X : Type 0} (t : Tables X) (kind : ℕ) (xs ys : List X) → with_table (with_table t kind xs) kind ys ≡ with_table t kind ys
with_twice t kind xs ys = grind (arith, nat_tests)

row_at : {X : Type 0} (t : Tables X) (kind i n : ℕ) (xs : List X) → n % 4 ≡ kind → n / 4 ≡ i → lookup (with_table t kind xs) n ≡ slice_get xs i
unfolding lookup
row_at {X} t kind i n xs k j = ap (λ q. slice_get (table (with_table t kind xs) q) (n / 4)) k ∙ ap (λ ys. slice_get ys (n / 4)) (table_same t kind xs) ∙ ap (slice_get xs) j

row_changed : {X : Type 0} (t : Tables X) (kind i n : ℕ) (xs : List X) (f : X → X) → n % 4 ≡ kind → n / 4 ≡ i → with_table t kind (changed xs i f (slice_get xs i)) ≡ updated (with_table t kind xs) n f (lookup (with_table t kind xs) n)
unfolding update
row_changed {X} t kind i n xs f k j = go (slice_get xs i) ∙ ap (updated (with_table t kind xs) n f) (sym (row_at t kind i n xs k j))
  where
    go : (o : Option X) → with_table t kind (changed xs i f o) ≡ updated (with_table t kind xs) n f o
    go None = refl
    go (Some x) = rw (k, j, table_same t kind xs) (sym (with_twice t kind xs (list_set xs i (f x))))

-- A limit rises, or stays

rises : (l : RecvLane) (v : ℕ) → raise_answer l ≡ Some v → l.limit < raised_limit l
rises l v is = let up = (cond_some (nat_lt l.limit (raised_limit l)) (raised_limit l) v is).0 in grind (arith, nat_tests)

moves_none : (rows : Tables (List ℕ)) → MovesRow (row_of kinds.MaxStreamData) rows rows
moves_none rows = record { rows = λ u m other. refl; places = λ m place. place }

module _ (kind : ℕ) (xs ys : List RecvLane) (i n : ℕ) (x : RecvLane) (is : ys ≡ changed xs i raise (slice_get xs i)) (k : n % 4 ≡ kind) (j : n / 4 ≡ i) (at : slice_get xs i ≡ Some x) (rows : Tables (List ℕ)) where
  abbrev in_row : Tables RecvLane → Tables RecvLane
  in_row t = with_table t kind xs

  -- the table with the row as it is now
  now : (t : Tables RecvLane) → with_table t kind ys ≡ updated (in_row t) n raise (lookup (in_row t) n)
  now t = ap (with_table t kind) is ∙ row_changed t kind i n xs raise k j

  there_is : (t : Tables RecvLane) → lookup (in_row t) n ≡ Some x
  there_is t = row_at t kind i n xs k j ∙ at

  pub limit_rose : (v : ℕ) (new : Tables (List ℕ)) → raise_answer x ≡ Some v → IsFlaggedAt rows (row_of kinds.MaxStreamData) n true new → StayMarkedOf kind xs ys rows new
  limit_rose v new rose set_at t r s p places h =
      let up = rises x v rose in (
        right_risen h (with_table t kind ys) n raise (marks_of kinds.MaxStreamData new) (now t) (is_marked_by (in_row t) rows new 5 n true places set_at) (λ l u there. subst (λ (q : RecvLane). u ≤ q.limit → u ≤ (raise q).limit) (same_Some x l (sym (there_is t) ∙ there)) (λ le. omega (arith, le, up)))
            (λ l u there. subst (λ (q : RecvLane). u ≤ q.limit → TellsLimit r s n (raise q) u → ⊥) (same_Some x l (sym (there_is t) ∙ there)) (λ le tells. (let same = tells.0 in omega (arith, le, same, up)))),
        moves_row rows new 5 n true set_at,
        places_more (with_table t kind ys) rows new (moves_row rows new 5 n true set_at).places (places_changed (in_row t) (with_table t kind ys) rows n raise (now t) places),
      )

  pub limit_stayed : ((v : ℕ) → raise_answer x ≡ Some v → ⊥) → StayMarkedOf kind xs ys rows rows
  limit_stayed none t r s p places h = (
    right_changed h (with_table t kind ys) n raise (now t)
        (λ l u there le. subst (λ (q : RecvLane). u ≤ q.limit) (sym (still l there)) le)
        (λ l u there tells. subst (λ (q : RecvLane). TellsLimit r s n q u) (still l there) tells),
    moves_none rows,
    places_changed (in_row t) (with_table t kind ys) rows n raise (now t) places,
  )
    where
      still : (l : RecvLane) → lookup (in_row t) n ≡ Some l → raise l ≡ l
      still l there = subst (λ q. raise q ≡ q) (same_Some x l (sym (there_is t) ∙ there)) (not_raised x none)

pub lane_at : (xs : List RecvLane) (i : ℕ) (x : RecvLane) → i < length xs → x ≡ get_or xs i x → slice_get xs i ≡ Some x
lane_at xs i x lt at = grind (arith, nat_tests, slice_get_cases, get_or_from_slice_get)

-- Of several lanes one after the other

pub stays_of : (kind : ℕ) (xs ys : List RecvLane) (rows : Tables (List ℕ)) → ys ≡ xs → StayMarkedOf kind xs ys rows rows
stays_of kind xs ys rows is = subst (λ zs. StayMarkedOf kind xs zs rows rows) (sym is) (λ t r s p places h. (h, moves_none rows, places))

-- no mark moved and none is missing, twice
moves_twice : (a b c : Tables (List ℕ)) → MovesRow (row_of kinds.MaxStreamData) a b → MovesRow (row_of kinds.MaxStreamData) b c → MovesRow (row_of kinds.MaxStreamData) a c
moves_twice a b c f g = record { rows = λ u m other. g.rows u m other ∙ f.rows u m other; places = λ m place. g.places m (f.places m place) }

pub stays_twice : (kind : ℕ) (xs ys zs : List RecvLane) (a b c : Tables (List ℕ)) → StayMarkedOf kind xs ys a b → StayMarkedOf kind ys zs b c → StayMarkedOf kind xs zs a c
stays_twice kind xs ys zs a b c f g t r s p places h =
    let (right, moves, placed) = f t r s p places h in
    let (now, move, there) = g t r s p placed right in
    (now, moves_twice a b c moves move, there)

-- of the halves of all types
stay_then : (xs ys zs : Tables RecvLane) (a b c : Tables (List ℕ)) → StayMarked xs ys a b → StayMarked ys zs b c → StayMarked xs zs a c
stay_then xs ys zs a b c f g r s p places h =
    let (right, moves, placed) = f r s p places h in
    let (now, move, there) = g r s p placed right in
    (now, moves_twice a b c moves move, there)

-- the lanes of all four types
pub stays_four : (ls : List (List RecvLane)) (a b c d e f g k : List RecvLane) (t u v w z : Tables (List ℕ)) → length ls ≡ 4 → StayMarkedOf 0 (get_or ls 0 e) a t u → StayMarkedOf 1 (get_or (list_set ls 0 a) 1 f) b u v → StayMarkedOf 2 (get_or (list_set (list_set ls 0 a) 1 b) 2 g) c v w
    → StayMarkedOf 3 (get_or (list_set (list_set (list_set ls 0 a) 1 b) 2 c) 3 k) d w z → StayMarked (tables_of ls) (tables_of (list_set (list_set (list_set (list_set ls 0 a) 1 b) 2 c) 3 d)) t z
stays_four (x ∷ y ∷ l ∷ o ∷ []) a b c d e f g k t u v w z len p q r s =
    stay_then _ _ _ t u z (p (tables_of (x ∷ y ∷ l ∷ o ∷ []))) (stay_then _ _ _ u v z (q (tables_of (a ∷ y ∷ l ∷ o ∷ []))) (stay_then _ _ _ v w z (r (tables_of (a ∷ b ∷ l ∷ o ∷ []))) (s (tables_of (a ∷ b ∷ c ∷ o ∷ [])))))
stays_four _ a b c d e f g k t u v w z len p q r s = absurd (omega (arith, len))
