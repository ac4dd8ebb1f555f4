-- Each written offset is acknowledged, in flight or due.
use Rattle.std.proofs.Common.{◌≡◌, ℕ, ◌+◌, ◌<◌, ◌≤◌, ◌⊎◌, Bool, true, false, List, [], ◌∷◌, Option, Some, None, is_some, nat_eq, refl, sym, ap, ◌∙◌, subst, arith, inl, inr}
use Rattle.std.specs.List.{list_any}
use Rattle.std.specs.FinMap as fmap
use Rattle.std.specs.FinSet as set
use Rattle.std.specs.Ordering.{nat_cmp, eq_by_cmp}
use Rattle.std.specs.Cmp.{unsigned_tied}
use Rattle.std.proofs.lemmas.Option.{same_Some, none-some}
use Rattle.std.proofs.lemmas.Bool.{both_ways, cases_lt, or_cases, eqb-true, eq-eqb, true≢false}
use Rattle.qs_send.specs.Records.{Among, IsCarried, PacketPieces}
use Rattle.qs_send.specs.declared.parts.Chunk.{Chunk}
use Rattle.qs_send.specs.declared.piece.Piece.{Piece}
use Rattle.qs_send.specs.declared.piece.Piece.TheVariants.{Data, Told}
use Rattle.qs_machine.specs.Ends.{End}
use Rattle.qs_machine.specs.Due.{IsInFlight, IsDue}
use Rattle.qs_machine.specs.OffsetParts.{OffsetsAreInOnePart}

-- a chunk of the stream has the offset
abbrev Has : ℕ → Chunk → Type 0
Has q c = (c.offset ≤ q) × (q < c.offset + c.len)

abbrev chunk_of : Chunk → Piece → Chunk
chunk_of c (Data n d) = d
chunk_of c (Told i) = c

abbrev stream_of : Piece → ℕ
stream_of (Data n d) = n
stream_of (Told i) = 0

abbrev is_data : Piece → Bool
is_data (Data n d) = true
is_data (Told i) = false

module _ (n q : ℕ) where
  -- one piece
  here : (p : Piece) → ((c : Chunk) × (Data n c ≡ p) × Has q c) ⊎ ((c : Chunk) → Data n c ≡ p → Has q c → ⊥)
  here (Told i) = inr (λ c e has. true≢false (ap is_data e))
  here (Data m d) = by_test (nat_eq n m) refl
    where
      differs : (c : Chunk) → Data n c ≡ Data m d → c ≡ d
      differs c e = ap (chunk_of c) e

      inside : n ≡ m → ((c : Chunk) × (Data n c ≡ Data m d) × Has q c) ⊎ ((c : Chunk) → Data n c ≡ Data m d → Has q c → ⊥)
      inside e =
          elim (cases_lt q d.offset) [
            | inl low ↦ inr (λ c is has. (let f : c.offset ≡ d.offset = ap (λ (x : Chunk). x.offset) (differs c is) in omega (arith, low, has.0, f)))
            | inr above ↦ elim (cases_lt q (d.offset + d.len)) [
              | inl below ↦ inl (d, ap (λ k. Data k d) e, (above, below))
              | inr past ↦ inr (λ c is has. (let f : c.offset + c.len ≡ d.offset + d.len = ap (λ (x : Chunk). x.offset + x.len) (differs c is) in omega (arith, past, has.1, f)))
            ]
          ]

      by_test : (b : Bool) → nat_eq n m ≡ b → ((c : Chunk) × (Data n c ≡ Data m d) × Has q c) ⊎ ((c : Chunk) → Data n c ≡ Data m d → Has q c → ⊥)
      by_test true is = inside (eqb-true n m is)
      by_test false is = inr (λ c e has. both_ways _ is (eq-eqb n m (ap stream_of e)))

  -- the pieces of a packet
  in_list : (ps : List Piece) → ((c : Chunk) × Among (Data n c) ps × Has q c) ⊎ ((c : Chunk) → Among (Data n c) ps → Has q c → ⊥)
  in_list [] = inr (λ c a has. a)
  in_list (p ∷ ps) =
      elim (here p) [
        | inl one ↦ (let (c, is, has) = one in inl (c, inl is, has))
        | inr none ↦ elim (in_list ps) [
          | inl later ↦ (let (c, a, has) = later in inl (c, inr a, has))
          | inr no_more ↦ inr (λ c a has. elim a [ inl is ↦ none c is has | inr after ↦ no_more c after has ])
        ]
      ]

  -- a packet that may be outstanding
  in_packet : (k : ℕ) (m : PacketPieces) (o : Option (List Piece)) → fmap.get m k ≡ o → ((c : Chunk) × IsCarried m (Data n c) × Has q c) ⊎ ((c : Chunk) (ps : List Piece) → fmap.get m k ≡ Some ps → Among (Data n c) ps → Has q c → ⊥)
  in_packet k m None is = inr (λ c ps at a has. none-some ps (sym is ∙ at))
  in_packet k m (Some ps) is =
      elim (in_list ps) [
        | inl one ↦ (let (c, a, has) = one in inl (c, (k, ps, is, a), has))
        | inr none ↦ inr (λ c qs at a has. none c (subst (Among (Data n c)) (same_Some qs ps (sym at ∙ is)) a) has)
      ]

  -- packets by their numbers
  in_packets : (ks : List ℕ) (m : PacketPieces) → ((c : Chunk) × IsCarried m (Data n c) × Has q c) ⊎ ((k : ℕ) (c : Chunk) (ps : List Piece) → list_any (eq_by_cmp nat_cmp k) ks ≡ true → fmap.get m k ≡ Some ps → Among (Data n c) ps → Has q c → ⊥)
  in_packets [] m = inr (λ k c ps listed at a has. true≢false (sym listed))
  in_packets (j ∷ ks) m =
      elim (in_packet j m (fmap.get m j) refl) [
        | inl one ↦ inl one
        | inr none ↦ elim (in_packets ks m) [
          | inl later ↦ inl later
          | inr no_more ↦ inr (λ k c ps listed at a has. elim (or_cases _ _ listed) [
            | inl is ↦ (let e : k ≡ j = eqb-true k j (sym (unsigned_tied k j) ∙ is) in none c ps (ap (fmap.get m) (sym e) ∙ at) a has)
            | inr after ↦ no_more k c ps after at a has
          ])
        ]
      ]

  -- whether some outstanding piece has the offset
  flies_or_not : (e : End) → IsInFlight e n q ⊎ (IsInFlight e n q → ⊥)
  flies_or_not e =
      elim (in_packets (fmap.keys e.outstanding) e.outstanding) [
        | inl one ↦ (let (c, carried, has) = one in inl (c, carried, has.0, has.1))
        | inr none ↦ inr (λ (c, (k, ps, at, a), low, high). none k c ps (sym (fmap.contains_key-keys e.outstanding k) ∙ ap is_some at) at a (low, high))
      ]

pub one_part : OffsetsAreInOnePart
one_part e n l q fine written = by_test (set.contains l.acked q) refl
  where
    by_test : (b : Bool) → set.contains l.acked q ≡ b → (set.contains l.acked q ≡ true) ⊎ ((set.contains l.acked q ≡ false) × IsInFlight e n q) ⊎ IsDue e n l q
    by_test true is = inl is
    by_test false is =
        elim (flies_or_not n q e) [
          | inl flies ↦ inr (inl (is, flies))
          | inr grounded ↦ inr (inr (record { no_reset = fine; written = written; not_acked = is; not_sent = grounded }))
        ]
