-- Bytes that are held against pieces, one piece after another.
--     one_by_slices      two runs of bytes are held against each other by the slices that both have
--     same_from      from the first piece that may have an offset of theirs
--     same_step, same_changed      past a piece that agrees, and at one that doesn't
--     same_end      to a piece that begins past them
use Rattle.std.specs.Prelude.{◌≡◌, ℕ, ◌+◌, ◌-◌, ◌<◌, ◌≤◌, zero, suc, Bool, true, false, cond, max, min, List, [], ◌∷◌, length, take, drop, slice_index, is_some, refl}
use Rattle.std.proofs.Common.{sym, ◌∙◌, ap, subst, arith, inl, inr}
use Rattle.std.specs.Bool.{Decides}
use Rattle.std.specs.Cmp.{both_ways as same_tests}
use Rattle.std.specs.FinMap as map
use Rattle.std.proofs.lemmas.Bool.{both_ways, cases_lt, false_from_ne_true}
use Rattle.std.proofs.lemmas.Grind.{same_number_lists}
use Rattle.qs_recv.specs.Assembled.{same}
use Rattle.qs_chunks.specs.Chunks.{AreOne, Piece, IsOrdered, end_of_piece, piece_at, pieces_end, stored_in}
use Rattle.qs_chunks.proofs.ChunkLaws.{byte_of, get-stored_in, in_piece, none_below, not_in_below, past_piece}
use Rattle.qs_recv.proofs.RingLaws.{byte_in, byte_there, length_part, part, part_at, same_at, same_by, same_none, same_true}
use Rattle.qs_chunks.proofs.SpotLaws.{drop_first, ordered_drop, ordered_from}

pub one_by_slices : (at offset from to : ℕ) (own bytes : List ℕ) (r : Bool) → from ≡ max at offset → to ≡ min (at + length own) (offset + length bytes) → from < to
    → Decides r (take (to - at - (from - at)) (drop (from - at) own) ≡ take (to - offset - (from - offset)) (drop (from - offset) bytes)) → Decides r (AreOne at own offset bytes)
one_by_slices at offset from to own bytes r from_is to_is some decides = (
  λ equal q b c e f.
      let slices = decides.0 equal in
      let x = byte_in at own q b e in
      let y = byte_in offset bytes q c f in
      let low : from ≤ q = omega (arith, x.0, y.0) in
      let high : q < to = omega (arith, x.1, y.1) in
      let back : from + (q - from) ≡ q = omega arith in
      sym (part_at at own from to (q - from) (omega arith) (omega arith) ∙ ap (λ i. slice_index own (i - at)) back ∙ x.2)
      ∙ ap (λ xs. slice_index xs (q - from)) slices
      ∙ part_at offset bytes from to (q - from) (omega arith) (omega arith) ∙ ap (λ i. slice_index bytes (i - offset)) back ∙ y.2,
  λ one.
      let len = length_part at own from to (omega arith) (omega arith) (omega arith) in
      let len' = length_part offset bytes from to (omega arith) (omega arith) (omega arith) in
      decides.1 (same_number_lists (part at own from to) (part offset bytes from to) (len ∙ sym len') (λ k below.
      let b : k < to - from = omega (arith, below, len) in
      part_at at own from to k (omega arith) b
      ∙ one (from + k) (slice_index own (from + k - at)) (slice_index bytes (from + k - offset)) (byte_there at own (from + k) (omega arith) (omega arith)) (byte_there offset bytes (from + k) (omega arith) (omega arith))
      ∙ sym (part_at offset bytes from to k (omega arith) b))),
)

begins_past : (cs : List Piece) (low k : ℕ) → IsOrdered low cs → k < length cs → low ≤ (piece_at cs k).offset
begins_past [] low k o h = absurd (omega arith)
begins_past (c ∷ cs) low zero o h = o.0
begins_past (c ∷ cs) low (suc k) o h = let l = o.0 in let r = begins_past cs (end_of_piece c) k o.2 (omega arith) in omega (arith, l, r)

get_from : (cs : List Piece) (low k q : ℕ) → IsOrdered low cs → k < length cs → (piece_at cs k).offset ≤ q → map.get (stored_in cs) q ≡ map.get (stored_in (drop k cs)) q
get_from cs low zero q o h at = refl
get_from [] low (suc k) q o h at = absurd (omega arith)
get_from (c ∷ cs) low (suc k) q o h at =
    let past = begins_past cs (end_of_piece c) k o.2 (omega arith) in
    past_piece c cs q (omega (arith, past, at)) ∙ get_from cs (end_of_piece c) k q o.2 (omega arith) at

-- the first n pieces begin no later than the bytes, and all but the last of them end no later
pub same_from : (cs : List Piece) (n at : ℕ) (bytes : List ℕ) → IsOrdered 0 cs → n ≤ length cs → (0 < n → (piece_at cs (n - 1)).offset ≤ at)
    → same (stored_in cs) at bytes ≡ same (stored_in (drop (n - 1) cs)) at bytes
same_from cs n at bytes o within begins =
    elim (cases_lt 0 n) [
      | inl some ↦ same_by (stored_in cs) (stored_in (drop (n - 1) cs)) at bytes (λ q low high. let b = begins some in get_from cs 0 (n - 1) q o (omega arith) (omega (arith, b, low)))
      | inr none ↦ let e : n - 1 ≡ 0 = omega arith in ap (λ k. same (stored_in (drop k cs)) at bytes) (sym e)
    ]

-- a piece is held against the bytes by itself
piece_agrees : (c : Piece) (cs : List Piece) (at : ℕ) (bytes : List ℕ) → same (stored_in (c ∷ cs)) at bytes ≡ true → AreOne c.offset c.bytes at bytes
piece_agrees c cs at bytes all q b x e f =
    let r = byte_in c.offset c.bytes q b e in
    same_at (stored_in (c ∷ cs)) at bytes q b x all (in_piece c cs q r.0 r.1 ∙ e) f

rest_agrees : (c : Piece) (cs : List Piece) (low at : ℕ) (bytes : List ℕ) → IsOrdered low (c ∷ cs) → same (stored_in (c ∷ cs)) at bytes ≡ true → same (stored_in cs) at bytes ≡ true
rest_agrees c cs low at bytes o all =
    same_true (stored_in cs) at bytes (λ q b x e f.
    elim (cases_lt q (end_of_piece c)) [
      | inl before ↦ absurd (both_ways _ (ap is_some (none_below cs (end_of_piece c) q o.2 before)) (ap is_some e))
      | inr past ↦ same_at (stored_in (c ∷ cs)) at bytes q b x all (past_piece c cs q past ∙ e) f
    ])

both_agree : (c : Piece) (cs : List Piece) (at : ℕ) (bytes : List ℕ) → AreOne c.offset c.bytes at bytes → same (stored_in cs) at bytes ≡ true → same (stored_in (c ∷ cs)) at bytes ≡ true
both_agree c cs at bytes one rest =
    same_true (stored_in (c ∷ cs)) at bytes (λ q b x e f.
    elim (cases_lt q c.offset) [
      | inl before ↦ same_at (stored_in cs) at bytes q b x rest (sym (below q before) ∙ e) f
      | inr low ↦ elim (cases_lt q (end_of_piece c)) [
        | inl within ↦ one q b x (sym (in_piece c cs q low within) ∙ e) f
        | inr past ↦ same_at (stored_in cs) at bytes q b x rest (sym (past_piece c cs q past) ∙ e) f
      ]
    ])
  where
    below : (q : ℕ) → q < c.offset → map.get (stored_in (c ∷ cs)) q ≡ map.get (stored_in cs) q
    below q h = get-stored_in c cs q ∙ ap (λ b. cond b (byte_of c q) (map.get (stored_in cs) q)) (not_in_below q c h)

from_place : (cs : List Piece) (k : ℕ) → k < length cs → drop k cs ≡ piece_at cs k ∷ drop (k + 1) cs
from_place cs k h = let e : suc k ≡ k + 1 = omega arith in drop_first cs k h ∙ ap (λ j. piece_at cs k ∷ drop j cs) e

pub same_step : (cs : List Piece) (k at : ℕ) (bytes : List ℕ) → IsOrdered 0 cs → k < length cs → AreOne (piece_at cs k).offset (piece_at cs k).bytes at bytes
    → same (stored_in (drop k cs)) at bytes ≡ same (stored_in (drop (k + 1) cs)) at bytes
same_step cs k at bytes o h one =
    let c = piece_at cs k in
    let rest = drop (k + 1) cs in
    let ordered : IsOrdered (pieces_end 0 (take k cs)) (c ∷ rest) = subst (IsOrdered (pieces_end 0 (take k cs))) (from_place cs k h) (ordered_drop cs 0 k o) in
    ap (λ ps. same (stored_in ps) at bytes) (from_place cs k h)
    ∙ same_tests (same (stored_in (c ∷ rest)) at bytes) (same (stored_in rest) at bytes) (rest_agrees c rest (pieces_end 0 (take k cs)) at bytes ordered) (both_agree c rest at bytes one)

pub same_changed : (cs : List Piece) (k at : ℕ) (bytes : List ℕ) → k < length cs → (AreOne (piece_at cs k).offset (piece_at cs k).bytes at bytes → ⊥) → same (stored_in (drop k cs)) at bytes ≡ false
same_changed cs k at bytes h changed =
    false_from_ne_true _ (λ all. changed (piece_agrees (piece_at cs k) (drop (k + 1) cs) at bytes (sym (ap (λ ps. same (stored_in ps) at bytes) (from_place cs k h)) ∙ all)))

pub same_end : (cs : List Piece) (k at : ℕ) (bytes : List ℕ) → IsOrdered 0 cs → (k < length cs → at + length bytes ≤ (piece_at cs k).offset) → same (stored_in (drop k cs)) at bytes ≡ true
same_end cs k at bytes o past =
    let behind = ordered_from cs (pieces_end 0 (take k cs)) (at + length bytes) k (ordered_drop cs 0 k o) past in
    same_none (stored_in (drop k cs)) at bytes (λ q low high. none_below (drop k cs) (at + length bytes) q behind high)
