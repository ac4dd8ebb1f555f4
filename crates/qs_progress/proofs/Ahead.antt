-- An end as if all that is outstanding were acknowledged. What is done then never falls where nothing is lost, and each packet that
-- carries something adds to it.
use Rattle.std.proofs.lemmas.Bool.Decides.{nat_tests}
use Rattle.std.proofs.Common.{◌≡◌, ℕ, ◌≤◌, List, [], ◌∷◌, ◌⊎◌, Option, Some, None, is_some, refl, sym, ap, ◌∙◌, subst, arith, inl, inr}
use Rattle.std.specs.Prelude.{flat_map, ◌||◌}
use Rattle.std.specs.FinMap as fmap
use Rattle.std.specs.FinSet as set
use Rattle.std.proofs.lemmas.Option.{same_Some}
use Rattle.qs_ranges.proofs.Sets.{len_le_of_members}
use Rattle.qs_wire.specs.declared.stream_id.Dir.{Dir}
use Rattle.qs_send.specs.Lane.{SendLane}
use Rattle.qs_send.specs.Records.{Among, PacketPieces}
use Rattle.qs_send.specs.declared.piece.Piece.{Piece}
use Rattle.qs_machine.specs.Tables.{Tables, lookup}
use Rattle.qs_machine.specs.Ends.{End, AckedItems}
use Rattle.qs_machine.specs.Credit.{granted_streams}
use Rattle.qs_machine.specs.Due.{known_count}
use Rattle.qs_machine.specs.FrameStep.{piece_acked}
use Rattle.qs_machine.proofs.AcksAgain.{among_any}
use Rattle.qs_machine.proofs.TablesAfter.{KeptIn, kept_same}
use Rattle.qs_runs.proofs.Lists.{Among_either, Among_left, Among_right}
use Rattle.qs_progress.specs.Score.{score}
use Rattle.qs_progress.specs.Outstanding.{IsIn, IsWhollyAcked}
use Rattle.qs_progress.proofs.Items.{ItemsGrow, items_piece}
use Rattle.qs_progress.proofs.Halves.{is_broken, SentGrows, GotGrows, got_same}
use Rattle.qs_progress.proofs.Score.{Goes, score_grows}
use Rattle.qs_progress.proofs.Outstanding.{AcksStay, StayIn, in_same, in_turn, in_piece, HasHome, home_stays, reached_now, reached_stays}
use Rattle.qs_progress.proofs.Alike.{Alike, SendsAlike, slots_same, slots_twice, alike_piece, alike_at, alike_back}
use Rattle.qs_progress.proofs.Facts.{Offset, Ending, Resetting, Telling, pieces_acked, Under, under_all}

-- The pieces that are outstanding

abbrev pub pieces_at : Option (List Piece) → List Piece
pieces_at None = []
pieces_at (Some ps) = ps

abbrev pub pieces_of : PacketPieces → List ℕ → List Piece
pieces_of m ks = flat_map (λ k. pieces_at (fmap.get m k)) ks

abbrev pub out_of : End → List Piece
out_of e = pieces_of e.outstanding (fmap.keys e.outstanding)

at_in : (m : PacketPieces) (k : ℕ) (p : Piece) (o : Option (List Piece)) → fmap.get m k ≡ o → Among p (pieces_at o) → IsIn m k p
at_in m k p o is none = grind (arith, nat_tests)

of_in : (m : PacketPieces) (ks : List ℕ) (p : Piece) → Among p (pieces_of m ks) → (k : ℕ) × IsIn m k p
of_in m [] p none = absurd none
of_in m (k ∷ ks) p among =
    elim (Among_either (pieces_at (fmap.get m k)) (pieces_of m ks) p among) [
      | inl here ↦ (k, at_in m k p (fmap.get m k) refl here)
      | inr later ↦ of_in m ks p later
    ]

in_of : (m : PacketPieces) (ks : List ℕ) (k : ℕ) (p : Piece) → Among k ks → IsIn m k p → Among p (pieces_of m ks)
in_of m [] k p none here = absurd none
in_of m (j ∷ ks) k p (inl is) (ps, at, among) = Among_left (pieces_at (fmap.get m j)) (pieces_of m ks) p (subst (λ o. Among p (pieces_at o)) (sym (ap (fmap.get m) (sym is) ∙ at)) among)
in_of m (j ∷ ks) k p (inr later) here = Among_right (pieces_at (fmap.get m j)) (pieces_of m ks) p (in_of m ks k p later here)

pub out_in : (e : End) (p : Piece) → Among p (out_of e) → (k : ℕ) × IsIn e.outstanding k p
out_in e p among = of_in e.outstanding (fmap.keys e.outstanding) p among

in_out : (e : End) (k : ℕ) (p : Piece) → IsIn e.outstanding k p → Among p (out_of e)
in_out e k p here =
    let (ps, at, among) = here in
    in_of e.outstanding (fmap.keys e.outstanding) k p (among_any k (fmap.keys e.outstanding) (sym (fmap.contains_key-keys e.outstanding k) ∙ ap is_some at)) here

-- Pieces that are acknowledged one after the other

stay_all : (ps : List Piece) (e : End) → StayIn e.sends (pieces_acked ps e).sends
stay_all [] e = in_same e.sends
stay_all (p ∷ ps) e = in_turn e.sends (piece_acked p e).sends (pieces_acked ps (piece_acked p e)).sends (in_piece p e) (stay_all ps (piece_acked p e))

items_all : (ps : List Piece) (e : End) → ItemsGrow e.acked (pieces_acked ps e).acked
items_all [] e i is = is
items_all (p ∷ ps) e i is = items_all ps (piece_acked p e) i (items_piece p e i is)

alike_all : (ps : List Piece) (e : End) → SendsAlike e.sends (pieces_acked ps e).sends
alike_all [] e = slots_same e.sends
alike_all (p ∷ ps) e = slots_twice e.sends (piece_acked p e).sends (pieces_acked ps (piece_acked p e)).sends (alike_piece p e) (alike_all ps (piece_acked p e))

reached_all : (ps : List Piece) (e : End) → ((p : Piece) → Among p ps → HasHome e.sends p) → (p : Piece) → Among p ps → IsWhollyAcked (pieces_acked ps e) p
reached_all [] e homes p none = absurd none
reached_all (r ∷ ps) e homes p (inl is) =
    subst (IsWhollyAcked (pieces_acked (r ∷ ps) e)) (sym is)
    (reached_stays (piece_acked r e) (pieces_acked ps (piece_acked r e)) (stay_all ps (piece_acked r e)) (items_all ps (piece_acked r e)) r (reached_now r e (homes r (inl refl))))
reached_all (r ∷ ps) e homes p (inr later) =
    reached_all ps (piece_acked r e) (λ q among. home_stays {R = AcksStay} e.sends (piece_acked r e).sends (in_piece r e) q (homes q (inr among))) p later

-- an end with other sending halves, and other items acknowledged
abbrev pub with_acks : Tables SendLane → AckedItems → End → End
with_acks t items e = record e { sends = t; acked = items }

piece_leaves : (p : Piece) (e : End) → piece_acked p e ≡ with_acks (piece_acked p e).sends (piece_acked p e).acked e
piece_leaves p e = grind (arith, nat_tests)

all_leave : (ps : List Piece) (e : End) → pieces_acked ps e ≡ with_acks (pieces_acked ps e).sends (pieces_acked ps e).acked e
all_leave [] e = refl
all_leave (p ∷ ps) e = all_leave ps (piece_acked p e) ∙ ap (with_acks (pieces_acked (p ∷ ps) e).sends (pieces_acked (p ∷ ps) e).acked) (piece_leaves p e)

-- All of it

abbrev pub ahead : End → End
ahead e = with_acks (pieces_acked (out_of e) e).sends (pieces_acked (out_of e) e).acked e

pub alike_ahead : (e : End) → SendsAlike e.sends (ahead e).sends
alike_ahead e = alike_all (out_of e) e

-- each outstanding piece has its half
abbrev pub OutHomes : End → Type 0
OutHomes e = (p : Piece) → Among p (out_of e) → HasHome e.sends p

-- it is acknowledged then, and so is what was
pub out_reached : (e : End) → OutHomes e → (k : ℕ) (p : Piece) → IsIn e.outstanding k p → IsWhollyAcked (ahead e) p
out_reached e homes k p here = subst (λ x. IsWhollyAcked x p) (all_leave (out_of e) e) (reached_all (out_of e) e homes p (in_out e k p here))

still_reached : (e : End) (p : Piece) → IsWhollyAcked e p → IsWhollyAcked (ahead e) p
still_reached e p is = reached_stays e (ahead e) (stay_all (out_of e) e) (items_all (out_of e) e) p is

holds_stay : (e f : End) → StayIn e.sends f.sends → ItemsGrow e.acked f.acked → Under e f
holds_stay e f stay grow (Offset n q) (l, at, is) = (let (m, there, r) = stay n l at in (m, there, r.0 q is))
holds_stay e f stay grow (Ending n) (l, at, is) = (let (m, there, r) = stay n l at in (m, there, r.1 is))
holds_stay e f stay grow (Resetting n) (l, at, is) = (let (m, there, r) = stay n l at in (m, there, r.2 is))
holds_stay e f stay grow (Telling i) is = grow i is

broken_same : (l m : SendLane) → Alike l m → is_broken m ≡ is_broken l
broken_same l m a = λ i. is_some (a.stopped i) || is_some (a.was_reset i)

module _ (e f : End) (g : Goes e f) (stay : StayIn e.sends f.sends) (homes : OutHomes f) (out : (k : ℕ) (p : Piece) → IsIn e.outstanding k p → IsIn f.outstanding k p ⊎ IsWhollyAcked f p) where
  under_ahead : Under (ahead e) (ahead f)
  under_ahead =
      under_all (out_of e) e (ahead f)
      (λ x is. holds_stay f (ahead f) (stay_all (out_of f) f) (items_all (out_of f) f) x (holds_stay e f stay g.items x is))
      (λ p among.
      let (k, here) = out_in e p among in
      elim (out k p here) [ inl still ↦ out_reached f homes k p still | inr reached ↦ still_reached f p reached ])

  pub half_ahead : (n : ℕ) (k : SendLane) → lookup (ahead e).sends n ≡ Some k → (j : SendLane) × (lookup (ahead f).sends n ≡ Some j) × AcksStay k j × SentGrows k j
  half_ahead n k at =
      let (l, was, like) = alike_back e.sends (ahead e).sends (alike_ahead e) n k at in
      let (m, is, r) = g.sends n l was in
      let (j, there, more) = alike_at f.sends (ahead f).sends (alike_ahead f) n m is in
      let one : (o : SendLane) → lookup (ahead f).sends n ≡ Some o → o ≡ j = λ o found. same_Some o j (sym found ∙ there) in
      let acks : AcksStay k j = (
        (λ q acked. let (o, found, now) = under_ahead (Offset n q) (k, at, acked) in ap (λ (y : SendLane). set.contains y.acked q) (sym (one o found)) ∙ now),
        (λ acked. let (o, found, now) = under_ahead (Ending n) (k, at, acked) in ap (λ (y : SendLane). y.fin_acked) (sym (one o found)) ∙ now),
        (λ acked. let (o, found, now) = under_ahead (Resetting n) (k, at, acked) in ap (λ (y : SendLane). y.reset_acked) (sym (one o found)) ∙ now),
      ) in (
        j,
        there,
        acks,
        (
          len_le_of_members k.acked j.acked acks.0,
          acks.1,
          acks.2,
          (λ broken. broken_same m j more ∙ r.3 (sym (broken_same l k like) ∙ broken)),
          omega (arith, like.limit, more.limit, r.4),
        ),
      )

  pub ahead_goes : Goes (ahead e) (ahead f)
  ahead_goes =
      record {
        role = g.role;
        peer = g.peer;
        settings = g.settings;
        items = λ i is. under_ahead (Telling i) is;
        granted = g.granted;
        counts = g.counts;
        known = g.known;
        known_counts = g.known_counts;
        sends = λ n k at. (let (j, there, acks, grows) = half_ahead n k at in (j, there, grows));
        recvs = g.recvs;
      }

  -- it never falls
  pub ahead_grows : score (ahead e) ≤ score (ahead f)
  ahead_grows = score_grows (ahead e) (ahead f) ahead_goes

-- it is no less than what is done
pub ahead_more : (e : End) → score e ≤ score (ahead e)
ahead_more e =
    score_grows e (ahead e)
    (record { role = refl; peer = refl; settings = refl; items = items_all (out_of e) e; granted = omega arith; counts = counts; known = omega arith; known_counts = known; sends = sends; recvs = kept_same GotGrows got_same e.recvs })
  where
    counts : (d : Dir) → granted_streams e d ≤ granted_streams (ahead e) d
    counts d = grind (arith, nat_tests)

    known : (d : Dir) → known_count e d ≤ known_count (ahead e) d
    known d = grind (arith, nat_tests)

    sends : KeptIn SentGrows e.sends (ahead e).sends
    sends n l at =
        let (k, there, like) = alike_at e.sends (ahead e).sends (alike_ahead e) n l at in
        (k, there, (len_le_of_members l.acked k.acked like.acks.0, like.acks.1, like.acks.2, (λ is. broken_same l k like ∙ is), omega (arith, like.limit)))
