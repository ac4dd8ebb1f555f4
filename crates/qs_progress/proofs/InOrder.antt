-- An ACK takes the pieces of each packet in the order in which they stand in its record.
use Rattle.std.proofs.Common.{◌≡◌, ℕ, suc, ◌+◌, Bool, true, false, cond, List, [], ◌∷◌, ◌++◌, map, take, Option, Some, None, refl, sym, ap, ◌∙◌, subst, inl, inr, arith}
use Rattle.std.specs.Prelude.{⊤, reverse, flat_map}
use Rattle.std.specs.List.{filter}
use Rattle.std.specs.FinMap as fmap
use Rattle.std.proofs.lemmas.Grind.{reverse_onto}
use Rattle.std.proofs.lemmas.Bool.Decides.{nat_tests}
use Rattle.qs_send.specs.Records.{Among}
use Rattle.qs_send.specs.declared.piece.Piece.{Piece}
use Rattle.qs_send.proofs.Outstanding.{rest_of, get_same-without_first}
use Rattle.qs_machine.specs.Ends.{End, Records}
use Rattle.qs_machine.specs.FrameStep.{AckedPiece, acked_at, held, pieces_of, acks, first_acked, named_in, named, acked_numbers}
use Rattle.qs_machine.proofs.AcksAgain.{held_piece, first_other, piece_list, filter_among, reverse_among, late_stays}
use Rattle.qs_machine.proofs.Named.{Rises, above, keys_rise}
use Rattle.qs_runs.proofs.Lists.{Among_push}

-- each piece is the first one of its packet's record when its turn comes
abbrev pub InOrder : List AckedPiece → End → Type 0
InOrder [] e = ⊤
InOrder (a ∷ ps) e = ((rest : List Piece) × (fmap.get (held a.late e) a.number ≡ Some (a.piece ∷ rest))) × InOrder ps (first_acked a e)

pub order_take : (n : ℕ) (ps : List AckedPiece) (e : End) → InOrder ps e → InOrder (take n ps) e
order_take (suc n) (a ∷ ps) e h = (h.0, order_take n ps (first_acked a e) h.1)
order_take _ ps e h = tt

order_append : (ps qs : List AckedPiece) (e : End) → InOrder ps e → InOrder qs (acks ps e) → InOrder (ps ++ qs) e
unfolding acks
order_append [] qs e h later = later
order_append (a ∷ ps) qs e h later = (h.0, order_append ps qs (first_acked a e) h.1 later)

-- Numbers of records, each once

abbrev Distinct : List ℕ → Type 0
Distinct [] = ⊤
Distinct (k ∷ ks) = (Among k ks → ⊥) × Distinct ks

distinct_last : (ks : List ℕ) (j : ℕ) → Distinct ks → (Among j ks → ⊥) → Distinct (ks ++ j ∷ [])
distinct_last [] j d new = ((λ a. a), tt)
distinct_last (k ∷ ks) j d new = ((λ a. elim (Among_push ks j k a) [ inl was ↦ d.0 was | inr e ↦ new (inl (sym e)) ]), distinct_last ks j d.1 (λ a. new (inr a)))

distinct_reverse : (ks : List ℕ) → Distinct ks → Distinct (reverse ks)
distinct_reverse [] d = tt
distinct_reverse (k ∷ ks) d = subst Distinct (sym (reverse_onto ks k [])) (distinct_last (reverse ks) k (distinct_reverse ks d.1) (λ a. d.0 (reverse_among k ks a)))

distinct_filter : (f : ℕ → Bool) (ks : List ℕ) → Distinct ks → Distinct (filter f ks)
distinct_filter f [] d = tt
distinct_filter f (k ∷ ks) d = either (f k) (distinct_filter f ks d.1)
  where
    either : (b : Bool) → Distinct (filter f ks) → Distinct (cond b (k ∷ filter f ks) (filter f ks))
    either b rest = grind (arith, nat_tests, filter_among)

distinct_rise : (low : ℕ) (ks : List ℕ) → Rises low ks → Distinct ks
distinct_rise low [] r = tt
distinct_rise low (k ∷ ks) r = ((λ a. let le = above (k + 1) ks r.1 k a in absurd (omega (arith, le))), distinct_rise (k + 1) ks r.1)

distinct_keys : (m : Records) → Distinct (fmap.keys m)
distinct_keys m = distinct_rise 0 (fmap.keys m) (keys_rise m)

-- One packet

pub first_same : (late : Bool) (k : ℕ) (p : Piece) (e : End) → fmap.get (held late (first_acked (acked_at late k p) e)) k ≡ rest_of (fmap.get (held late e) k)
first_same late k p e = grind (arith, nat_tests, held_piece, get_same-without_first)

order_packet : (late : Bool) (k : ℕ) (ps : List Piece) (e : End) → fmap.get (held late e) k ≡ Some ps → InOrder (map (acked_at late k) ps) e
order_packet late k [] e is = tt
order_packet late k (p ∷ []) e is = (([], is), tt)
order_packet late k (p ∷ q ∷ ps) e is = ((q ∷ ps, is), order_packet late k (q ∷ ps) (first_acked (acked_at late k p) e) (first_same late k p e ∙ ap rest_of is))

others_left : (late : Bool) (k j : ℕ) (ps : List Piece) (e : End) → (j ≡ k → ⊥) → fmap.get (held late (acks (map (acked_at late k) ps) e)) j ≡ fmap.get (held late e) j
unfolding acks
others_left late k j [] e ne = refl
others_left late k j (p ∷ ps) e ne = others_left late k j ps (first_acked (acked_at late k p) e) ne ∙ first_other late k j p e ne

-- and packet after packet
order_packets : (late : Bool) (m : Records) (ks : List ℕ) (e : End) → Distinct ks → ((k : ℕ) → Among k ks → fmap.get (held late e) k ≡ fmap.get m k) → InOrder (flat_map (pieces_of late m) ks) e
unfolding acks
order_packets late m [] e d same = tt
order_packets late m (k ∷ ks) e d same =
    order_append (pieces_of late m k) (flat_map (pieces_of late m) ks) e (one (fmap.get m k) (same k (inl refl)))
    (order_packets late m ks (acks (pieces_of late m k) e) d.1 (λ j a. left j (λ is. d.0 (subst (λ i. Among i ks) is a)) (fmap.get m k) ∙ same j (inr a)))
  where
    one : (o : Option (List Piece)) → fmap.get (held late e) k ≡ o → InOrder (piece_list late k o) e
    one o is = grind (arith, nat_tests, order_packet)

    left : (j : ℕ) → (j ≡ k → ⊥) → (o : Option (List Piece)) → fmap.get (held late (acks (piece_list late k o) e)) j ≡ fmap.get (held late e) j
    left j ne None = refl
    left j ne (Some ps) = others_left late k j ps e ne

order_in : (late : Bool) (m : Records) (ranges : List (ℕ × ℕ)) (e : End) → held late e ≡ m → InOrder (named_in late m ranges) e
order_in late m ranges e is = grind (arith, nat_tests, order_packets, distinct_reverse, distinct_filter, distinct_keys)

pub order_named : (e : End) (ranges : List (ℕ × ℕ)) → InOrder (named e ranges) e
order_named e ranges =
    order_append (named_in false e.outstanding ranges) (named_in true e.lost.pieces ranges) e (order_in false e.outstanding ranges e refl)
    (order_in true e.lost.pieces ranges (acks (named_in false e.outstanding ranges) e) (late_stays e.outstanding (acked_numbers e.outstanding ranges) e))
