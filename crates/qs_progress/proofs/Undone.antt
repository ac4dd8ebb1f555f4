-- A piece whose acknowledgement would be something new stays so as long as a score does.
use Rattle.std.proofs.lemmas.Bool.Decides.{nat_tests}
use Rattle.std.proofs.Common.{◌≡◌, ℕ, ◌+◌, ◌<◌, ◌≤◌, Bool, true, false, ◌⊎◌, Some, sym, ◌∙◌, arith, inl, inr}
use Rattle.std.specs.FinSet as set
use Rattle.std.proofs.lemmas.Bool.{true≢false, cond_both, or_left}
use Rattle.qs_ranges.specs.Numbers.{contains-with_range}
use Rattle.qs_recv.specs.Lane.{RecvLane}
use Rattle.qs_send.specs.Lane.{SendLane}
use Rattle.qs_send.specs.declared.piece.Item.{Item}
use Rattle.qs_send.specs.declared.piece.Item.TheVariants.{MaxData, MaxStreamData, MaxStreams, ResetStream, StopSending, DataBlocked, StreamDataBlocked, StreamsBlocked}
use Rattle.qs_send.specs.declared.piece.Piece.{Piece}
use Rattle.qs_send.specs.declared.piece.Piece.TheVariants.{Data, Told}
use Rattle.qs_machine.specs.Tables.{lookup}
use Rattle.qs_machine.specs.Ends.{End, AckedItems, first_send_limit, first_window}
use Rattle.qs_machine.specs.Credit.{granted_streams, first_grant}
use Rattle.qs_machine.specs.Due.{known_count}
use Rattle.qs_machine.proofs.TablesAfter.{KeptIn}
use Rattle.qs_machine.proofs.EachHalf.{SendEdit, send_edited}
use Rattle.qs_progress.specs.Score.{is_done, told_from, first_count, score}
use Rattle.qs_progress.specs.Outstanding.{IsWhollyAcked}
use Rattle.qs_progress.proofs.Score.{Goes, first_same, window_same}
use Rattle.qs_progress.proofs.Outstanding.{AcksStay, stay_same, stop_stays}
use Rattle.qs_progress.proofs.Even.{members_even, acked_even, fin_even, reset_even, sent_told_even, stop_even, got_told_even, granted_told_even, blocked_told_even, data_told_even, data_blocked_even}

abbrev pub IsUndone : End → Piece → Type 0
IsUndone e (Data n c) =
    (l : SendLane) × (lookup e.sends n ≡ Some l)
    × (((q : ℕ) × (c.offset ≤ q) × (q < c.offset + c.len) × (set.contains l.acked q ≡ false)) ⊎ ((c.fin ≡ true) × (l.fin_acked ≡ false)))
IsUndone e (Told (MaxData m)) = (m ≡ e.granted) × (e.settings.conn_window + 1 ≤ m) × (is_done e.acked (MaxData m) ≡ false)
IsUndone e (Told (MaxStreamData n m)) = (l : RecvLane) × (lookup e.recvs n ≡ Some l) × (m ≡ l.limit) × (first_window e n + 1 ≤ m) × (is_done e.acked (MaxStreamData n m) ≡ false)
IsUndone e (Told (MaxStreams d m)) = (m ≡ granted_streams e d) × (first_grant e.settings d + 1 ≤ m) × (is_done e.acked (MaxStreams d m) ≡ false)
IsUndone e (Told (ResetStream n code size)) = (l : SendLane) × (lookup e.sends n ≡ Some l) × (l.reset_acked ≡ false)
IsUndone e (Told (StopSending n code)) = (l : RecvLane) × (lookup e.recvs n ≡ Some l) × (is_done e.acked (StopSending n code) ≡ false)
IsUndone e (Told (DataBlocked m)) = (m ≡ e.known_data) × (e.peer.max_data ≤ m) × (is_done e.acked (DataBlocked m) ≡ false)
IsUndone e (Told (StreamDataBlocked n m)) = (l : SendLane) × (lookup e.sends n ≡ Some l) × (m ≡ l.limit) × (first_send_limit e n ≤ m) × (is_done e.acked (StreamDataBlocked n m) ≡ false)
IsUndone e (Told (StreamsBlocked d m)) = (m ≡ known_count e d) × (first_count e.peer d ≤ m) × (is_done e.acked (StreamsBlocked d m) ≡ false)

-- it isn't acknowledged
pub undone_unreached : (e : End) (p : Piece) → IsUndone e p → IsWhollyAcked e p → ⊥
undone_unreached e p h h2 = grind (arith, nat_tests)

-- what is acknowledged of a half stays so, across each of its edits
pub acks_edits : (x : SendEdit) (l : SendLane) → AcksStay l (send_edited x l)
acks_edits x l = grind (arith, nat_tests, cond_both, stay_same, stop_stays, contains-with_range, or_left)

-- an item's value that isn't acknowledged is the present one still, and isn't acknowledged yet
item_even : (x y : AckedItems) (item : ℕ → Item) (least low m p q : ℕ) → m ≡ p → low ≡ least → least ≤ m → p ≤ q → is_done x (item m) ≡ false → told_from low q (is_done y (item q)) ≤ told_from least p (is_done x (item p))
    → (m ≡ q) × (low ≤ m) × (is_done y (item m) ≡ false)
item_even x y item least low m p q is same few le not even = grind (arith, nat_tests)

pub unless : (b : Bool) → (b ≡ true → ⊥) → b ≡ false
unless b not = grind (arith, nat_tests)

module _ (a b : End) (g : Goes a b) (even : score b ≤ score a) (kept : KeptIn AcksStay a.sends b.sends) where
  pub undone_stays : (p : Piece) → IsUndone a p → IsUndone b p
  undone_stays (Data n c) (l, at, missing) =
      let (m, there, r) = kept n l at in (
        m,
        there,
        elim missing [
          | inl (q, low, high, not) ↦ inl (q, low, high, unless (set.contains m.acked q) (λ is. true≢false (sym (members_even l.acked m.acked r.0 (acked_even a b g even n l m at there) q is) ∙ not)))
          | inr (fin, not) ↦ inr (fin, unless m.fin_acked (λ is. true≢false (sym (fin_even a b g even n l m at there is) ∙ not)))
        ],
      )
  undone_stays (Told (MaxData m)) (is, low, not) =
      item_even a.acked b.acked MaxData (a.settings.conn_window + 1) (b.settings.conn_window + 1) m a.granted b.granted is (λ i. (g.settings i).conn_window + 1) low g.granted not (data_told_even a b g even)
  undone_stays (Told (MaxStreamData n m)) (l, at, is, low, not) =
      let (k, there, r) = g.recvs n l at in
      let (now, still, unset) = item_even a.acked b.acked (MaxStreamData n) (first_window a n + 1) (first_window b n + 1) m l.limit k.limit is (window_same a b g n) low r.5 not (got_told_even a b g even n l k at there) in
      (k, there, now, still, unset)
  undone_stays (Told (MaxStreams d m)) (is, low, not) =
      item_even a.acked b.acked (MaxStreams d) (first_grant a.settings d + 1) (first_grant b.settings d + 1) m (granted_streams a d) (granted_streams b d) is (λ i. first_grant (g.settings i) d + 1) low (g.counts d) not (granted_told_even a b g even d)
  undone_stays (Told (ResetStream n code size)) (l, at, not) =
      let (m, there, r) = kept n l at in
      (m, there, unless m.reset_acked (λ is. true≢false (sym (reset_even a b g even n l m at there is) ∙ not)))
  undone_stays (Told (StopSending n code)) (l, at, not) =
      let (m, there, r) = g.recvs n l at in
      (m, there, unless (is_done b.acked (StopSending n code)) (λ is. true≢false (sym (stop_even a b g even n l m at there is) ∙ not)))
  undone_stays (Told (DataBlocked m)) (is, low, not) =
      item_even a.acked b.acked DataBlocked a.peer.max_data b.peer.max_data m a.known_data b.known_data is (λ i. (g.peer i).max_data) low g.known not (data_blocked_even a b g even)
  undone_stays (Told (StreamDataBlocked n m)) (l, at, is, low, not) =
      let (k, there, r) = g.sends n l at in
      let (now, still, unset) = item_even a.acked b.acked (StreamDataBlocked n) (first_send_limit a n) (first_send_limit b n) m l.limit k.limit is (first_same a b g n) low r.4 not (sent_told_even a b g even n l k at there) in
      (k, there, now, still, unset)
  undone_stays (Told (StreamsBlocked d m)) (is, low, not) =
      item_even a.acked b.acked (StreamsBlocked d) (first_count a.peer d) (first_count b.peer d) m (known_count a d) (known_count b d) is (λ i. first_count (g.peer i) d) low (g.known_counts d) not (blocked_told_even a b g even d)
