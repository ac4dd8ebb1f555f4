-- Each item that is to be told is outstanding, acknowledged or due.
use Rattle.std.proofs.Common.{◌≡◌, ℕ, ◌⊎◌, Bool, true, false, List, [], ◌∷◌, Option, Some, None, is_some, nat_eq, refl, sym, ap, ◌∙◌, subst, inl, inr}
use Rattle.std.specs.List.{list_any}
use Rattle.std.specs.FinMap as fmap
use Rattle.std.specs.FinSet as set
use Rattle.std.specs.Ordering.{nat_cmp, eq_by_cmp}
use Rattle.std.specs.Cmp.{unsigned_tied}
use Rattle.std.proofs.lemmas.Option.{same_Some, none-some}
use Rattle.std.proofs.lemmas.Bool.{both_ways, or_cases, eqb-true, eq-eqb, true≢false}
use Rattle.qs_wire.specs.declared.stream_id.Dir.TheVariants.{Bidi, Uni}
use Rattle.qs_send.specs.Lane.{SendLane}
use Rattle.qs_send.specs.Records.{Among, IsCarried, PacketPieces}
use Rattle.qs_send.specs.declared.piece.Item.{Item}
use Rattle.qs_send.specs.declared.piece.Item.TheVariants.{MaxData, MaxStreamData, MaxStreams, ResetStream, StopSending, DataBlocked, StreamDataBlocked, StreamsBlocked}
use Rattle.qs_send.specs.declared.piece.Piece.{Piece}
use Rattle.qs_send.specs.declared.piece.Piece.TheVariants.{Told}
use Rattle.qs_send.specs.contracts.piece.PiecePartialEq.TheImpl as piece
use Rattle.qs_send.proofs.PieceEquality.{among_of_any, any_of_among}
use Rattle.qs_machine.specs.Ends.{End, send_lane}
use Rattle.qs_machine.specs.Due.{IsAcked}
use Rattle.qs_machine.specs.Seen.{Ack, Close, Plain}
use Rattle.qs_rest.specs.Laws.{ItemsAreInOnePart, AllButAcksAsk}

-- it holds, or it doesn't
abbrev pub IsDecided : Type 0 → Type 0
IsDecided P = P ⊎ (P → ⊥)

module _ (p : Piece) where
  in_list : (ps : List Piece) → IsDecided (Among p ps)
  in_list ps = go (list_any (λ y. piece.ghosts.eq y p) ps) refl
    where
      go : (b : Bool) → list_any (λ y. piece.ghosts.eq y p) ps ≡ b → IsDecided (Among p ps)
      go true is = inl (among_of_any p ps is)
      go false is = inr (λ a. both_ways _ is (any_of_among p ps a))

  in_packet : (k : ℕ) (m : PacketPieces) (o : Option (List Piece)) → fmap.get m k ≡ o → IsCarried m p ⊎ ((ps : List Piece) → fmap.get m k ≡ Some ps → Among p ps → ⊥)
  in_packet k m None is = inr (λ ps at a. none-some ps (sym is ∙ at))
  in_packet k m (Some ps) is =
      elim (in_list ps) [
        | inl a ↦ inl (k, ps, is, a)
        | inr none ↦ inr (λ qs at a. none (subst (Among p) (same_Some qs ps (sym at ∙ is)) a))
      ]

  in_packets : (ks : List ℕ) (m : PacketPieces) → IsCarried m p ⊎ ((k : ℕ) (ps : List Piece) → list_any (eq_by_cmp nat_cmp k) ks ≡ true → fmap.get m k ≡ Some ps → Among p ps → ⊥)
  in_packets [] m = inr (λ k ps listed at a. true≢false (sym listed))
  in_packets (j ∷ ks) m =
      elim (in_packet j m (fmap.get m j) refl) [
        | inl one ↦ inl one
        | inr none ↦ elim (in_packets ks m) [
          | inl later ↦ inl later
          | inr no_more ↦ inr (λ k ps listed at a. elim (or_cases _ _ listed) [
            | inl is ↦ (let e : k ≡ j = eqb-true k j (sym (unsigned_tied k j) ∙ is) in none ps (ap (fmap.get m) (sym e) ∙ at) a)
            | inr after ↦ no_more k ps after at a
          ])
        ]
      ]

  pub carried_or_not : (m : PacketPieces) → IsDecided (IsCarried m p)
  carried_or_not m =
      elim (in_packets (fmap.keys m) m) [
        | inl one ↦ inl one
        | inr none ↦ inr (λ (k, ps, at, a). none k ps (sym (fmap.contains_key-keys m k) ∙ ap is_some at) at a)
      ]

-- a number that is known is this one or not
pub same_number : (o : Option ℕ) (m : ℕ) → IsDecided (o ≡ Some m)
same_number None m = inr (λ is. none-some m is)
same_number (Some k) m = go (nat_eq k m) refl
  where
    go : (b : Bool) → nat_eq k m ≡ b → IsDecided (Some k ≡ Some m)
    go true is = inl (ap Some (eqb-true k m is))
    go false is = inr (λ e. both_ways _ is (eq-eqb k m (same_Some k m e)))

is_true : (b : Bool) → IsDecided (b ≡ true)
is_true true = inl refl
is_true false = inr (λ is. true≢false (sym is))

reset_acked : (e : End) (n : ℕ) (o : Option SendLane) → send_lane e n ≡ o → IsDecided ((l : SendLane) × (send_lane e n ≡ Some l) × (l.reset_acked ≡ true))
reset_acked e n None is = inr (λ (l, there, acked). none-some l (sym is ∙ there))
reset_acked e n (Some l) is =
    elim (is_true l.reset_acked) [
      | inl acked ↦ inl (l, is, acked)
      | inr none ↦ inr (λ (m, there, acked). none (ap (λ (x : SendLane). x.reset_acked) (same_Some l m (sym is ∙ there)) ∙ acked))
    ]

pub acked_or_not : (e : End) (i : Item) → IsDecided (IsAcked e i)
acked_or_not e (MaxData m) = same_number e.acked.max_data m
acked_or_not e (MaxStreamData n m) = same_number (fmap.get e.acked.max_stream_data n) m
acked_or_not e (MaxStreams Bidi m) = same_number e.acked.bidi_streams m
acked_or_not e (MaxStreams Uni m) = same_number e.acked.uni_streams m
acked_or_not e (ResetStream n code size) = reset_acked e n (send_lane e n) refl
acked_or_not e (StopSending n code) = is_true (set.contains e.acked.stop_sending n)
acked_or_not e (DataBlocked m) = same_number e.acked.data_blocked m
acked_or_not e (StreamDataBlocked n m) = same_number (fmap.get e.acked.stream_data_blocked n) m
acked_or_not e (StreamsBlocked Bidi m) = same_number e.acked.bidi_blocked m
acked_or_not e (StreamsBlocked Uni m) = same_number e.acked.uni_blocked m

pub item_part : ItemsAreInOnePart
item_part e i current =
    elim (carried_or_not (Told i) e.outstanding) [
      | inl flies ↦ inl flies
      | inr grounded ↦ elim (acked_or_not e i) [
        | inl acked ↦ inr (inl acked)
        | inr unacked ↦ inr (inr (current, λ covered. elim covered [ inl o ↦ grounded o | inr a ↦ unacked a ]))
      ]
    ]

pub all_ask : AllButAcksAsk
all_ask old e (Ack largest ranges) may = inl (largest, ranges, refl)
all_ask old e (Close code) may = absurd may
all_ask old e (Plain asks) may = absurd may
all_ask old e _ may = inr refl
