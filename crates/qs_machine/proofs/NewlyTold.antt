-- What the frames of a payload newly acknowledge, one after the other.
use Rattle.std.proofs.lemmas.Bool.Decides.{nat_tests}
use Rattle.std.proofs.Common.{arith}
use Rattle.std.proofs.Common.{◌≡◌, ℕ, Bool, true, false, not, List, [], ◌∷◌, ◌++◌, take, Option, Some, is_some, refl, sym, ap, ◌∙◌, subst}
use Rattle.std.specs.Prelude.{reverse}
use Rattle.std.specs.List.{AllByRecursion, filter, FoldsTo}
use Rattle.std.specs.FinMap as fmap
use Rattle.std.proofs.Math.Bool.{and-false, and-true}
use Rattle.std.proofs.lemmas.Bool.{both_ways, true_from_ne_false, false_from_ne_true}
use Rattle.qs_send.specs.declared.piece.Item.{Item}
use Rattle.qs_send.specs.declared.piece.Piece.{Piece}
use Rattle.qs_send.specs.Records.{NoneEmpty, without_first}
use Rattle.qs_send.proofs.Outstanding.{rest_of, get-without_first, get_other-without_first}
use Rattle.qs_machine.specs.Ends.{End, Records, is_own}
use Rattle.qs_machine.specs.FrameStep.{AckedPiece, without_piece, acks, first_acked, named, acked_numbers, is_named, frame_taken, item_taken, held}
use Rattle.qs_machine.specs.Newly.{gone, in_turn}
use Rattle.qs_machine.specs.Seen.{Seen, Ack, Stream, Control, Plain}
use Rattle.qs_machine.proofs.EndsAfter.{IsBare}
use Rattle.qs_machine.proofs.Pieces.{All_take, all_named}
use Rattle.qs_machine.proofs.AcksAgain.{held_piece, stays_bare, named_bare}
use Rattle.qs_machine.proofs.Named.{filter_reverse, filters_held, filter_within, filters_nothing, filter_empty}
use Rattle.qs_machine.proofs.Taken.{out_peer}

-- Records without empty packets

abbrev pub holds : End → ℕ → Bool
holds e j = is_some (fmap.get e.outstanding j)

-- no packet is outstanding that wasn't
abbrev pub Within : End → End → Type 0
Within new e = (j : ℕ) → holds new j ≡ true → holds e j ≡ true

bare_held : (m : Records) (j : ℕ) → NoneEmpty m → IsBare (fmap.get m j) → is_some (fmap.get m j) ≡ false
bare_held m j none bare = grind arith

held_bare : (o : Option (List Piece)) → is_some o ≡ false → IsBare o
held_bare o is = grind arith

rest_full : (o : Option (List Piece)) → rest_of o ≡ Some [] → ⊥
rest_full o is = grind arith

none_less : (m : Records) (k : ℕ) → NoneEmpty m → NoneEmpty (without_first m k (fmap.get m k))
none_less m k none j is = grind (arith, nat_tests, get-without_first, rest_of, rest_full)

none_first : (a : AckedPiece) (e : End) → NoneEmpty e.outstanding → NoneEmpty (first_acked a e).outstanding
none_first a e none = grind (arith, nat_tests, held_piece, none_less)

none_acks : (ps : List AckedPiece) (e : End) → NoneEmpty e.outstanding → NoneEmpty (acks ps e).outstanding
unfolding acks
none_acks [] e none = none
none_acks (a ∷ ps) e none = none_acks ps (first_acked a e) (none_first a e none)

-- Pieces of packets that ranges name

abbrev pub AllNamed : List (ℕ × ℕ) → List AckedPiece → Type 0
AllNamed r = AllByRecursion (λ a. is_named r a.number ≡ true)

pub each_named : (e : End) (r : List (ℕ × ℕ)) → AllNamed r (named e r)
each_named e r = all_named (λ a. is_named r a.number ≡ true) r e (λ late k ps is at p a. is)

-- packets that they don't name stay as they are
pub others_stay : (late : Bool) (r : List (ℕ × ℕ)) (ps : List AckedPiece) (e : End) (j : ℕ) → AllNamed r ps → is_named r j ≡ false → fmap.get (held late (acks ps e)) j ≡ fmap.get (held late e) j
unfolding acks
others_stay late r [] e j all off = refl
others_stay late r (a ∷ ps) e j all off =
    others_stay late r ps (first_acked a e) j all.1 off ∙ ap (λ (m : Records). fmap.get m j) (held_piece late a.piece (without_piece a.late a.number e)) ∙ go late a.late
  where
    apart : j ≡ a.number → ⊥
    apart same = both_ways _ off (ap (is_named r) same ∙ all.0)

    go : (late b : Bool) → fmap.get (held late (without_piece b a.number e)) j ≡ fmap.get (held late e) j
    go true true = get_other-without_first e.lost.pieces a.number j apart
    go false false = get_other-without_first e.outstanding a.number j apart
    go _ _ = refl

-- some pieces of packets that the ranges name were acknowledged
pub record AcksSome (r : List (ℕ × ℕ)) (e new : End) : Type 0 where
  pub none : NoneEmpty new.outstanding
  pub within : Within new e
  pub others : (j : ℕ) → is_named r j ≡ false → holds new j ≡ holds e j

some_of : (r : List (ℕ × ℕ)) (ps : List AckedPiece) (e : End) → NoneEmpty e.outstanding → AllNamed r ps → AcksSome r e (acks ps e)
some_of r ps e none all =
    record {
      none = none_acks ps e none;
      within = λ j is. true_from_ne_false _ (λ was. both_ways _ (bare_held (acks ps e).outstanding j (none_acks ps e none) (stays_bare false ps e j (held_bare (fmap.get e.outstanding j) was))) is);
      others = λ j off. ap is_some (others_stay false r ps e j all off);
    }

pub acks_some : (r : List (ℕ × ℕ)) (e : End) (m : ℕ) → NoneEmpty e.outstanding → AcksSome r e (acks (take m (named e r)) e)
acks_some r e m none = some_of r (take m (named e r)) e none (All_take (λ a. is_named r a.number ≡ true) m (named e r) (each_named e r))

pub acks_all : (r : List (ℕ × ℕ)) (e : End) → NoneEmpty e.outstanding → AcksSome r e (acks (named e r) e)
acks_all r e none = some_of r (named e r) e none (each_named e r)

pub none_named : (r : List (ℕ × ℕ)) (e : End) (j : ℕ) → NoneEmpty e.outstanding → is_named r j ≡ true → holds (acks (named e r) e) j ≡ false
none_named r e j none is = bare_held (acks (named e r) e).outstanding j (none_acks (named e r) e none) (named_bare e r false j is)

-- What is told in turn

pub turn_none : (fs : List Seen) → in_turn fs [] ≡ []
turn_none (Ack largest r ∷ fs) = turn_none fs
turn_none (Stream n offset bytes fin ∷ fs) = turn_none fs
turn_none (Control item ∷ fs) = turn_none fs
turn_none (Plain asks ∷ fs) = turn_none fs
turn_none _ = refl

pub gone_none : (e new : End) → new.outstanding ≡ e.outstanding → gone e new ≡ []
gone_none e new same = filter_empty e.outstanding (λ n. not (fmap.contains_key new.outstanding n)) (λ j is. ap not (ap (λ (m : Records). is_some (fmap.get m j)) same ∙ is))

pub false_from_not : (b c : Bool) → b ≡ false → (c ≡ true → b ≡ true) → c ≡ false
false_from_not b c is from = false_from_ne_true c (λ now. both_ways b is (from now))

-- of the packets that are gone those that an ACK names, where one that it names is gone with it or stays
pub told_first : (r : List (ℕ × ℕ)) (e mid new : End) → ((j : ℕ) → is_named r j ≡ true → holds new j ≡ holds mid j)
    → reverse (filter (is_named r) (gone e new)) ≡ filter (λ n. not (fmap.contains_key mid.outstanding n)) (acked_numbers e.outstanding r)
told_first r e mid new alike = grind (arith, nat_tests, filters_held, not, filter_reverse, and-true, and-false)

-- and those that it doesn't name, where it took effect
pub told_later : (r : List (ℕ × ℕ)) (e mid new : End) → AcksSome r e mid → ((j : ℕ) → is_named r j ≡ true → holds mid j ≡ false) → filter (λ n. not (is_named r n)) (gone e new) ≡ gone mid new
told_later r e mid new some off = grind (arith, nat_tests, filter_within, not, and-false, and-true)

-- and where it did so in part, and nothing follows
pub told_last : (r : List (ℕ × ℕ)) (e new : End) → ((j : ℕ) → is_named r j ≡ false → holds new j ≡ holds e j) → filter (λ n. not (is_named r n)) (gone e new) ≡ []
told_last r e new others = grind (arith, nat_tests, filters_nothing, not, and-false, and-true)

-- what is told now, and then what follows
pub tells_on : {S : Type 0} (R : S → ℕ → S → Type 0) (s : S) (xs : List ℕ) (t : S) (ys : List ℕ) (u : S) → FoldsTo R s xs t → FoldsTo R t ys u → FoldsTo R s (xs ++ ys) u
tells_on R s [] t ys u first later = subst (λ x. FoldsTo R x ys u) (sym first) later
tells_on R s (x ∷ xs) t ys u (j, one, rest) later = (j, one, tells_on R j xs t ys u rest later)

-- Other frames

pub item_out : (i : Item) (e : End) → (item_taken i e).outstanding ≡ e.outstanding
item_out i e = grind arith

pub stream_out : (n offset : ℕ) (bytes : List ℕ) (fin : Bool) (e : End) → (frame_taken (Stream n offset bytes fin) e).outstanding ≡ e.outstanding
unfolding frame_taken
stream_out n offset bytes fin e = out_peer e n (is_own e n)
