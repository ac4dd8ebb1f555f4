-- What is acknowledged of control items stays so, and grants and what an end was made with don't fall, across each call of an end.
use Rattle.std.proofs.Common.{◌≡◌, ℕ, ◌≤◌, Bool, true, cond, List, [], ◌∷◌, take, Option, Some, refl, ap, ◌∙◌, arith}
use Rattle.std.specs.Prelude.{max}
use Rattle.std.specs.FinMap as fmap
use Rattle.std.specs.FinSet as set
use Rattle.std.specs.Ordering.{nat_cmp, eq_by_cmp}
use Rattle.std.specs.Cmp.{nat_cmp_total}
use Rattle.std.proofs.lemmas.Bool.{cond_both, or_right}
use Rattle.std.proofs.lemmas.Bool.Decides.{nat_tests}
use Rattle.qs_wire.specs.declared.stream_id.Dir.TheVariants.{Bidi, Uni}
use Rattle.qs_send.specs.declared.piece.Item.{Item}
use Rattle.qs_send.specs.declared.piece.Item.TheVariants.{MaxData, MaxStreamData, MaxStreams, ResetStream, StopSending, DataBlocked, StreamDataBlocked, StreamsBlocked}
use Rattle.qs_send.specs.declared.piece.Piece.{Piece}
use Rattle.qs_send.specs.declared.piece.Piece.TheVariants.{Data, Told}
use Rattle.qs_machine.specs.Ends.{End, AckedItems, is_own, opens, opened_by_peer}
use Rattle.qs_machine.specs.Credit.{ended}
use Rattle.qs_machine.specs.Seen.{Seen, Ack, Stream, Control}
use Rattle.qs_machine.specs.Acked.{greatest, greatest_of, or_zero}
use Rattle.qs_machine.specs.FrameStep.{frame_taken, AckedPiece, acks, first_acked, without_piece, piece_acked, item_acked, named}
use Rattle.qs_machine.specs.Lawful.{frame_put}
use Rattle.qs_machine.specs.Setting.{Grant, SendBuffer, StreamWindow, count_with}
use Rattle.qs_machine.specs.EndStep.{Call, Answer, EndStep}
use Rattle.qs_machine.proofs.EveryCall.{Change, changed, Comes, relates, Wanted, WasSet, Took, Acked, Put, Settled}
use Rattle.qs_machine.proofs.Leaves.{acks_leave, put_leaves, frame_leaves}
use Rattle.qs_progress.specs.Score.{reaches, is_done}
use Rattle.qs_progress.proofs.Sums.{le_same}

-- Items

abbrev pub ItemsGrow : AckedItems → AckedItems → Type 0
ItemsGrow a b = (i : Item) → is_done a i ≡ true → is_done b i ≡ true

greatest_reaches : (o : Option ℕ) (v m : ℕ) → reaches o m ≡ true → reaches (greatest o v) m ≡ true
greatest_reaches o v m is = grind (arith, nat_tests)

greatest_of_reaches : (values : fmap.FinMap nat_cmp ℕ) (n v k m : ℕ) → reaches (fmap.get values k) m ≡ true → reaches (fmap.get (greatest_of values n v) k) m ≡ true
greatest_of_reaches values n v k m is = ap (λ o. reaches o m) (fmap.get-insert nat_cmp_total values n (max (or_zero (fmap.get values n)) v) k) ∙ go (eq_by_cmp nat_cmp k n) refl
  where
    go : (b : Bool) → eq_by_cmp nat_cmp k n ≡ b → reaches (cond b (Some (max (or_zero (fmap.get values n)) v)) (fmap.get values k)) m ≡ true
    go b other = grind (arith, nat_tests)

noted : (j : Item) (e : End) → ItemsGrow e.acked (item_acked j e).acked
noted (MaxData v) e (MaxData m) is = greatest_reaches e.acked.max_data v m is
noted (MaxStreamData n v) e (MaxStreamData k m) is = greatest_of_reaches e.acked.max_stream_data n v k m is
noted (MaxStreams Bidi v) e (MaxStreams Bidi m) is = greatest_reaches e.acked.bidi_streams v m is
noted (MaxStreams Bidi v) e i is = is
noted (MaxStreams Uni v) e (MaxStreams Uni m) is = greatest_reaches e.acked.uni_streams v m is
noted (MaxStreams Uni v) e i is = is
noted (StopSending n code) e (StopSending k other) is = set.contains-insert nat_cmp_total e.acked.stop_sending n k ∙ or_right _ _ is
noted (DataBlocked v) e (DataBlocked m) is = greatest_reaches e.acked.data_blocked v m is
noted (StreamDataBlocked n v) e (StreamDataBlocked k m) is = greatest_of_reaches e.acked.stream_data_blocked n v k m is
noted (StreamsBlocked Bidi v) e (StreamsBlocked Bidi m) is = greatest_reaches e.acked.bidi_blocked v m is
noted (StreamsBlocked Bidi v) e i is = is
noted (StreamsBlocked Uni v) e (StreamsBlocked Uni m) is = greatest_reaches e.acked.uni_blocked v m is
noted (StreamsBlocked Uni v) e i is = is
noted j e i is = is

pub items_piece : (p : Piece) (e : End) → ItemsGrow e.acked (piece_acked p e).acked
items_piece (Data n c) e i is = is
items_piece (Told j) e i is = noted j e i is

pub items_acks : (ps : List AckedPiece) (e : End) → ItemsGrow e.acked (acks ps e).acked
unfolding acks
items_acks [] e i is = is
items_acks (p ∷ ps) e i is = items_acks ps (first_acked p e) i (items_piece p.piece (without_piece p.late p.number e) i is)

items_opened : (n : ℕ) (e : End) → ItemsGrow e.acked (opened_by_peer n e).acked
items_opened n e i is = cond_both (is_own e n) e (opens n e) (λ x. is_done x.acked i ≡ true) (λ _. is) (λ _. is)

pub items_frame : (f : Seen) (e : End) → ItemsGrow e.acked (frame_taken f e).acked
unfolding frame_taken
items_frame (Ack largest ranges) e i is = items_acks (named e ranges) e i is
items_frame (Stream n offset bytes fin) e i is = items_opened n e i is
items_frame (Control (MaxStreamData n m)) e i is = items_opened n e i is
items_frame (Control (MaxStreams Uni m)) e i is = is
items_frame (Control (ResetStream n code size)) e i is = items_opened n e i is
items_frame (Control (StopSending n code)) e i is = items_opened n e i is
items_frame (Control (StreamDataBlocked n m)) e i is = items_opened n e i is
items_frame f e i is = is

pub items_put : (f : Seen) (e : End) → ItemsGrow e.acked (frame_put f e).acked
unfolding frame_put
items_put f e i is = grind (arith, nat_tests)

-- What an end was made with, its grants and its items

abbrev pub Grown : End → End → Type 0
Grown a b = (b.settings ≡ a.settings) × (a.granted_bidi ≤ b.granted_bidi) × (a.granted_uni ≤ b.granted_uni) × ItemsGrow a.acked b.acked

pub grown_same : (e : End) → Grown e e
grown_same e = (refl, le_same e.granted_bidi, le_same e.granted_uni, λ i is. is)

grown_twice : (a b c : End) → Grown a b → Grown b c → Grown a c
grown_twice a b c x y = (y.0 ∙ x.0, omega (arith, x.1, y.1), omega (arith, x.2, y.2), λ i is. y.3 i (x.3 i is))

no_lower : (m n : ℕ) → n ≡ m → m ≤ n
no_lower m n is = omega (arith, is)

grown_acks : (ps : List AckedPiece) (e : End) → Grown e (acks ps e)
grown_acks ps e =
    let left = acks_leave ps e in (
      ap (λ (x : End). x.settings) left,
      no_lower _ _ (ap (λ (x : End). x.granted_bidi) left),
      no_lower _ _ (ap (λ (x : End). x.granted_uni) left),
      items_acks ps e,
    )

count_grows : (present granted lifetime ended grant : ℕ) → granted ≤ count_with present granted lifetime ended grant
count_grows present granted lifetime ended grant = grind (arith, nat_tests)

pub grown_change : (old : End) (call : Call) (c : Change) (e : End) → Comes old call e c → Grown e (changed c e)
grown_change old call (Wanted Uni count) e comes = grown_same e
grown_change old call (WasSet (Grant Bidi n)) e comes = (refl, count_grows e.present.grant_bidi e.granted_bidi e.settings.lifetime_bidi (ended e Bidi) n, le_same e.granted_uni, λ i is. is)
grown_change old call (WasSet (Grant Uni n)) e comes = (refl, le_same e.granted_bidi, count_grows e.present.grant_uni e.granted_uni e.settings.lifetime_uni (ended e Uni) n, λ i is. is)
grown_change old call (WasSet (SendBuffer n size)) e comes = grown_same e
grown_change old call (WasSet (StreamWindow n w)) e comes = grown_same e
grown_change old call (Took f) e comes =
    let left = frame_leaves f e in (
      ap (λ (x : End). x.settings) left,
      no_lower _ _ (ap (λ (x : End). x.granted_bidi) left),
      no_lower _ _ (ap (λ (x : End). x.granted_uni) left),
      items_frame f e,
    )
grown_change old call (Acked count ranges) e comes = grown_acks (take count (named e ranges)) e
grown_change old call (Put f) e comes =
    let left = put_leaves f e in (
      ap (λ (x : End). x.settings) left,
      no_lower _ _ (ap (λ (x : End). x.granted_bidi) left),
      no_lower _ _ (ap (λ (x : End). x.granted_uni) left),
      items_put f e,
    )
grown_change old call Settled e comes = (refl, omega arith, omega arith, λ i is. is)
grown_change old call c e comes = grown_same e

pub grown_call : (old : End) (call : Call) (answer : Answer call) (new : End) → EndStep old call answer new → Grown old new
grown_call old call answer new step = relates Grown grown_same grown_twice old call (grown_change old call) answer new step
