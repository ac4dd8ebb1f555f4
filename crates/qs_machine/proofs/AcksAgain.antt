-- An ACK that took effect leaves no piece of a packet that it names, so when it comes again it takes none.
use Rattle.std.proofs.lemmas.Bool.Decides.{nat_tests}
use Rattle.std.proofs.Common.{arith}
use Rattle.std.proofs.Common.{◌≡◌, ℕ, Bool, true, false, cond, List, [], ◌∷◌, ◌++◌, map, nat_cmp, Option, Some, None, is_some, ◌⊎◌, refl, sym, ap, ◌∙◌, subst, inl, inr}
use Rattle.std.specs.Prelude.{reverse, flat_map}
use Rattle.std.specs.List.{list_any, filter}
use Rattle.std.specs.Ordering.{eq_by_cmp}
use Rattle.std.specs.Cmp.{unsigned_tied}
use Rattle.std.specs.FinMap as fmap
use Rattle.std.proofs.lemmas.Grind.{reverse_onto}
use Rattle.std.proofs.lemmas.Bool.{both_ways, or_cases, eqb-true, cases_eq}
use Rattle.qs_send.specs.Records.{Among, without_first}
use Rattle.qs_send.specs.declared.piece.Piece.{Piece}
use Rattle.qs_send.proofs.Outstanding.{rest_of, get_same-without_first, get_other-without_first}
use Rattle.qs_machine.specs.Ends.{End, Records}
use Rattle.qs_machine.specs.FrameStep.{AckedPiece, acked_at, held, without_piece, pieces_of, acks, first_acked, piece_acked, named_in, named, acked_numbers, is_named}
use Rattle.qs_machine.proofs.EndsAfter.{IsBare, bare_without}

-- Lists of numbers

pub among_any : (k : ℕ) (xs : List ℕ) → list_any (eq_by_cmp nat_cmp k) xs ≡ true → Among k xs
among_any k [] h = absurd (both_ways false refl h)
among_any k (x ∷ xs) h =
    elim (or_cases _ _ h) [
      | inl here ↦ inl (eqb-true k x (sym (unsigned_tied k x) ∙ here))
      | inr later ↦ inr (among_any k xs later)
    ]

pub among_filter : {X : Type 0} (f : X → Bool) (k : X) (xs : List X) → Among k xs → f k ≡ true → Among k (filter f xs)
among_filter f k [] a is = absurd a
among_filter f k (x ∷ xs) (inl e) is = subst (λ b. Among k (cond b (x ∷ filter f xs) (filter f xs))) (sym (ap f (sym e) ∙ is)) (inl e)
among_filter f k (x ∷ xs) (inr a) is = either (f x) (among_filter f k xs a is)
  where
    either : (b : Bool) → Among k (filter f xs) → Among k (cond b (x ∷ filter f xs) (filter f xs))
    either b h = grind arith

pub filter_among : {X : Type 0} (f : X → Bool) (k : X) (xs : List X) → Among k (filter f xs) → Among k xs × (f k ≡ true)
filter_among f k [] a = absurd a
filter_among {X} f k (x ∷ xs) a = go (filter_among f k xs) (f x) refl a
  where
    go : (Among k (filter f xs) → Among k xs × (f k ≡ true)) → (b : Bool) → f x ≡ b → Among k (cond b (x ∷ filter f xs) (filter f xs)) → (◌≡◌ {A = X} k x ⊎ Among k xs) × (f k ≡ true)
    go rest b is h = grind arith

among_last : (k x : ℕ) (xs : List ℕ) → Among k xs ⊎ (k ≡ x) → Among k (xs ++ x ∷ [])
among_last k x [] (inl a) = absurd a
among_last k x [] (inr e) = inl e
among_last k x (y ∷ ys) (inl (inl e)) = inl e
among_last k x (y ∷ ys) (inl (inr a)) = inr (among_last k x ys (inl a))
among_last k x (y ∷ ys) (inr e) = inr (among_last k x ys (inr e))

last_among : (k x : ℕ) (xs : List ℕ) → Among k (xs ++ x ∷ []) → Among k xs ⊎ (k ≡ x)
last_among k x [] (inl e) = inr e
last_among k x [] (inr a) = absurd a
last_among k x (y ∷ ys) (inl e) = inl (inl e)
last_among k x (y ∷ ys) (inr a) = elim (last_among k x ys a) [ inl b ↦ inl (inr b) | inr e ↦ inr e ]

among_reverse : (k : ℕ) (xs : List ℕ) → Among k xs → Among k (reverse xs)
among_reverse k [] a = a
among_reverse k (x ∷ xs) (inl e) = subst (Among k) (sym (reverse_onto xs x [])) (among_last k x (reverse xs) (inr e))
among_reverse k (x ∷ xs) (inr a) = subst (Among k) (sym (reverse_onto xs x [])) (among_last k x (reverse xs) (inl (among_reverse k xs a)))

pub reverse_among : (k : ℕ) (xs : List ℕ) → Among k (reverse xs) → Among k xs
reverse_among k [] a = a
reverse_among k (x ∷ xs) a =
    elim (last_among k x (reverse xs) (subst (Among k) (reverse_onto xs x []) a)) [ inl b ↦ inr (reverse_among k xs b) | inr e ↦ inl e ]

-- What acknowledgements leave

pub held_piece : (late : Bool) (p : Piece) (e : End) → held late (piece_acked p e) ≡ held late e
held_piece late p e = grind arith

held_first : (late : Bool) (k : ℕ) (p : Piece) (e : End) → held late (first_acked (acked_at late k p) e) ≡ without_first (held late e) k (fmap.get (held late e) k)
held_first late k p e = grind arith

-- packet j after the first piece of packet k is acknowledged
first_same : (late : Bool) (k : ℕ) (p : Piece) (e : End) → fmap.get (held late (first_acked (acked_at late k p) e)) k ≡ rest_of (fmap.get (held late e) k)
first_same late k p e = ap (λ m. fmap.get m k) (held_first late k p e) ∙ get_same-without_first (held late e) k

pub first_other : (late : Bool) (k j : ℕ) (p : Piece) (e : End) → (j ≡ k → ⊥) → fmap.get (held late (first_acked (acked_at late k p) e)) j ≡ fmap.get (held late e) j
first_other late k j p e ne = ap (λ m. fmap.get m j) (held_first late k p e) ∙ get_other-without_first (held late e) k j ne

pub stays_bare : (late : Bool) (ps : List AckedPiece) (e : End) (j : ℕ) → IsBare (fmap.get (held late e) j) → IsBare (fmap.get (held late (acks ps e)) j)
unfolding acks
stays_bare late [] e j h = h
stays_bare late (p ∷ ps) e j h =
    stays_bare late ps (first_acked p e) j (subst (λ m. IsBare (fmap.get m j)) (sym (held_piece late p.piece (without_piece p.late p.number e))) (bare_without late p.late p.number e j h))

stays_other : (late : Bool) (k j : ℕ) (ps : List Piece) (e : End) → (j ≡ k → ⊥) → fmap.get (held late (acks (map (acked_at late k) ps) e)) j ≡ fmap.get (held late e) j
unfolding acks
stays_other late k j [] e ne = refl
stays_other late k j (p ∷ ps) e ne = stays_other late k j ps (first_acked (acked_at late k p) e) ne ∙ first_other late k j p e ne

all_taken : (late : Bool) (k : ℕ) (ps : List Piece) (e : End) → fmap.get (held late e) k ≡ Some ps → IsBare (fmap.get (held late (acks (map (acked_at late k) ps) e)) k)
unfolding acks
all_taken late k [] e is = subst IsBare (sym is) tt
all_taken late k (p ∷ []) e is = subst IsBare (sym (first_same late k p e ∙ ap rest_of is)) tt
all_taken late k (p ∷ q ∷ ps) e is = all_taken late k (q ∷ ps) (first_acked (acked_at late k p) e) (first_same late k p e ∙ ap rest_of is)

pub acks_append : (ps qs : List AckedPiece) (e : End) → acks (ps ++ qs) e ≡ acks qs (acks ps e)
unfolding acks
acks_append [] qs e = refl
acks_append (p ∷ ps) qs e = acks_append ps qs (first_acked p e)

-- each packet is as it began, or has no piece left
abbrev AreLeft : Bool → Records → End → Type 0
AreLeft late m e = (j : ℕ) → (fmap.get (held late e) j ≡ fmap.get m j) ⊎ IsBare (fmap.get (held late e) j)

abbrev pub piece_list : Bool → ℕ → Option (List Piece) → List AckedPiece
piece_list late k o = elim o [ None ↦ [] | Some ps ↦ map (acked_at late k) ps ]

packet_bare : (late : Bool) (m : Records) (e : End) (k : ℕ) → AreLeft late m e → IsBare (fmap.get (held late (acks (pieces_of late m k) e)) k)
unfolding acks
packet_bare late m e k left = grind (arith, nat_tests, stays_bare, all_taken)

packet_left : (late : Bool) (m : Records) (e : End) (k : ℕ) → AreLeft late m e → AreLeft late m (acks (pieces_of late m k) e)
unfolding acks
packet_left late m e k left j = grind (arith, nat_tests, cases_eq, packet_bare, stays_bare, stays_other)

packets_bare : (late : Bool) (m : Records) (ks : List ℕ) (e : End) → AreLeft late m e → (k : ℕ) → Among k ks → IsBare (fmap.get (held late (acks (flat_map (pieces_of late m) ks) e)) k)
packets_bare late m [] e left k a = absurd a
packets_bare late m (j ∷ ks) e left k a =
    subst (λ (x : End). IsBare (fmap.get (held late x) k)) (sym (acks_append (pieces_of late m j) (flat_map (pieces_of late m) ks) e)) (elim a [
      | inl here ↦ stays_bare late (flat_map (pieces_of late m) ks) (acks (pieces_of late m j) e) k (subst (λ i. IsBare (fmap.get (held late (acks (pieces_of late m j) e)) i)) (sym here) (packet_bare late m e j left))
      | inr later ↦ packets_bare late m ks (acks (pieces_of late m j) e) (packet_left late m e j left) k later
    ])

in_bare : (late : Bool) (m : Records) (e : End) (ranges : List (ℕ × ℕ)) (k : ℕ) → held late e ≡ m → is_named ranges k ≡ true → IsBare (fmap.get (held late (acks (named_in late m ranges) e)) k)
in_bare late m e ranges k same is = go (fmap.get m k) refl
  where
    go : (o : Option (List Piece)) → fmap.get m k ≡ o → IsBare (fmap.get (held late (acks (named_in late m ranges) e)) k)
    go None none = stays_bare late (named_in late m ranges) e k (subst IsBare (sym (ap (λ (x : Records). fmap.get x k) same ∙ none)) tt)
    go (Some ps) some =
        let there : Among k (fmap.keys m) = among_any k (fmap.keys m) (sym (fmap.contains_key-keys m k) ∙ ap is_some some) in
        packets_bare late m (acked_numbers m ranges) e (λ j. inl (ap (λ (x : Records). fmap.get x j) same)) k (among_reverse k _ (among_filter (is_named ranges) k (fmap.keys m) there is))

-- the pieces of outstanding packets leave the lost ones alone
late_packet : (k : ℕ) (ps : List Piece) (e : End) → held true (acks (map (acked_at false k) ps) e) ≡ held true e
unfolding acks
late_packet k [] e = refl
late_packet k (p ∷ ps) e = late_packet k ps (first_acked (acked_at false k p) e) ∙ held_piece true p (without_piece false k e)

pub late_stays : (m : Records) (ks : List ℕ) (e : End) → held true (acks (flat_map (pieces_of false m) ks) e) ≡ held true e
unfolding acks
late_stays m [] e = refl
late_stays m (k ∷ ks) e = ap (held true) (acks_append (pieces_of false m k) (flat_map (pieces_of false m) ks) e) ∙ late_stays m ks (acks (pieces_of false m k) e) ∙ go (fmap.get m k)
  where
    go : (o : Option (List Piece)) → held true (acks (piece_list false k o) e) ≡ held true e
    go None = refl
    go (Some ps) = late_packet k ps e

-- of a packet that an ACK names no piece is left, outstanding or lost
pub named_bare : (e : End) (ranges : List (ℕ × ℕ)) (late : Bool) (k : ℕ) → is_named ranges k ≡ true → IsBare (fmap.get (held late (acks (named e ranges) e)) k)
named_bare e ranges late k is = grind (arith, nat_tests, acks_append, stays_bare, in_bare, late_stays)

-- What an ACK takes again

pub bare_none : (late : Bool) (m : Records) (k : ℕ) → IsBare (fmap.get m k) → pieces_of late m k ≡ []
bare_none late m k h = grind arith

none_flat : (f : ℕ → List AckedPiece) (ks : List ℕ) → ((k : ℕ) → Among k ks → f k ≡ []) → flat_map f ks ≡ []
none_flat f [] h = refl
none_flat f (k ∷ ks) h = ap (λ xs. xs ++ flat_map f ks) (h k (inl refl)) ∙ none_flat f ks (λ j a. h j (inr a))

in_nothing : (late : Bool) (m : Records) (ranges : List (ℕ × ℕ)) → ((k : ℕ) → is_named ranges k ≡ true → IsBare (fmap.get m k)) → named_in late m ranges ≡ []
in_nothing late m ranges bare = grind (arith, nat_tests, none_flat, bare_none, filter_among, reverse_among)

pub named_nothing : (e : End) (ranges : List (ℕ × ℕ)) → ((late : Bool) (k : ℕ) → is_named ranges k ≡ true → IsBare (fmap.get (held late e) k)) → named e ranges ≡ []
named_nothing e ranges bare = ap (λ ps. ps ++ named_in true e.lost.pieces ranges) (in_nothing false e.outstanding ranges (bare false)) ∙ in_nothing true e.lost.pieces ranges (bare true)

pub named_again : (e : End) (ranges : List (ℕ × ℕ)) → ((late : Bool) (k : ℕ) → is_named ranges k ≡ true → IsBare (fmap.get (held late e) k)) → acks (named e ranges) e ≡ e
unfolding acks
named_again e ranges bare = ap (λ ps. acks ps e) (named_nothing e ranges bare)
