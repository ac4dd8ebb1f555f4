-- Lists of pieces edited at a place.
use Rattle.std.specs.Prelude.{◌≡◌, ℕ, ◌+◌, ◌-◌, ◌<◌, ◌≤◌, zero, suc, List, [], ◌∷◌, ◌++◌, length, take, drop, insert, remove, refl}
use Rattle.std.proofs.Common.{sym, ◌∙◌, ap, arith, length-append, append_assoc}
use Rattle.std.proofs.lemmas.List.{take_at}
use Rattle.qs_chunks.specs.Chunks.{Piece, with_longer, with_shorter}

pub longer_then_shorter : (cs : List Piece) (k : ℕ) (bytes : List ℕ) → k < length cs → with_shorter (with_longer cs k bytes) k (length bytes) ≡ cs
longer_then_shorter [] k bytes h = absurd (omega arith)
longer_then_shorter (c ∷ cs) zero bytes h =
    let e : length (c.bytes ++ bytes) ≡ length c.bytes + length bytes = length-append c.bytes bytes in
    let f : length c.bytes ≡ length (c.bytes ++ bytes) - length bytes = omega (arith, e) in
    ap (λ bs. record { offset = c.offset; bytes = bs } ∷ cs) (take_at c.bytes bytes (length (c.bytes ++ bytes) - length bytes) f)
longer_then_shorter (c ∷ cs) (suc k) bytes h = ap (λ xs. c ∷ xs) (longer_then_shorter cs k bytes (omega arith))

pub insert_then_remove : (cs : List Piece) (k : ℕ) (c : Piece) → k ≤ length cs → remove (insert cs k c) k ≡ cs
insert_then_remove cs zero c h = refl
insert_then_remove [] (suc k) c h = absurd (omega arith)
insert_then_remove (d ∷ cs) (suc k) c h = ap (λ xs. d ∷ xs) (insert_then_remove cs k c (omega arith))

take_inserted : (cs : List Piece) (k : ℕ) (c : Piece) → k ≤ length cs → take (suc k) (insert cs k c) ≡ take k cs ++ c ∷ []
take_inserted cs zero c h = refl
take_inserted [] (suc k) c h = absurd (omega arith)
take_inserted (d ∷ cs) (suc k) c h = ap (λ xs. d ∷ xs) (take_inserted cs k c (omega arith))

drop_inserted : (cs : List Piece) (k j : ℕ) (c : Piece) → k ≤ length cs → drop (suc (k + j)) (insert cs k c) ≡ drop (k + j) cs
drop_inserted cs zero j c h = refl
drop_inserted [] (suc k) j c h = absurd (omega arith)
drop_inserted (d ∷ cs) (suc k) j c h =
    let e : suc k + j ≡ suc (k + j) = omega arith in
    ap (λ i. drop (suc i) (insert (d ∷ cs) (suc k) c)) e ∙ drop_inserted cs k j c (omega arith) ∙ sym (ap (λ i. drop i (d ∷ cs)) e)

pub cleared_behind_inserted : (cs : List Piece) (first after : ℕ) (c : Piece) → first ≤ length cs → first ≤ after
    → take (first + 1) (insert cs first c) ++ drop (first + 1 + (after - first)) (insert cs first c) ≡ take first cs ++ c ∷ drop after cs
cleared_behind_inserted cs first after c within ordered =
    let e : first + 1 ≡ suc first = omega arith in
    let f : first + 1 + (after - first) ≡ suc (first + (after - first)) = omega arith in
    let g : first + (after - first) ≡ after = omega arith in
    ap (λ k. take k (insert cs first c) ++ drop (first + 1 + (after - first)) (insert cs first c)) e
    ∙ ap (λ k. take (suc first) (insert cs first c) ++ drop k (insert cs first c)) f
    ∙ ap (λ xs. xs ++ drop (suc (first + (after - first))) (insert cs first c)) (take_inserted cs first c within)
    ∙ ap (λ xs. (take first cs ++ c ∷ []) ++ xs) (drop_inserted cs first (after - first) c within ∙ ap (λ k. drop k cs) g)
    ∙ append_assoc (take first cs) (c ∷ []) (drop after cs)
