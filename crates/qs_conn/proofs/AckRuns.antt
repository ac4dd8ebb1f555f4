-- The pieces of packets are lost, one after the other.
use Rattle.std.specs.FinMap as fmap
use Rattle.qs_calls.specs.declared.making.LostFault.TheVariants as losing
use Rattle.std.proofs.lemmas.Bool.Decides.{nat_tests}
use Rattle.std.proofs.Common.{◌≡◌, ℕ, suc, ◌<◌, false, List, [], ◌∷◌, length, take, Option, None, Some, is_some, Result, Ok, Err, nat_cmp, refl, sym, ap, ◌∙◌, subst, inl, inr, arith, ◌≢◌, zero, ◌+◌, ◌^◌, ◌≤◌, Bool, true, nat_le, ◌&&◌, ◌++◌, map, not, cond, ◌-◌, min}
use Rattle.std.specs.Prelude.{is_none, ◌↔◌, reverse, flat_map, slice_get}
use Rattle.qs_ranges.specs.declared.NoMemory.{NoMemory}
use Rattle.qs_send.specs.declared.piece.Piece.{Piece}
use Rattle.qs_send.specs.Records.{NoneEmpty, first_piece, without_first}
use Rattle.qs_calls.specs.declared.making.LostFault.{LostFault}
use Rattle.qs_calls.specs.declared.closing.Closed.{Closed}
use Rattle.qs_machine.specs.Ends.{End, Records, AckedItems}
use Rattle.qs_machine.specs.Owner.{first_refusal, refuse_if}
use Rattle.qs_machine.specs.Making.{LoseStep, lose_refusal, losses}
use Rattle.qs_machine.specs.Outgoing.{Outgoing, with_outgoing, with_sends, first_lost_out, no_packets, pieces_in, IsIdle, piece_acked_out, without_piece_out, first_acked_out, first_piece as first_outgoing, acked_at as acked_outgoing}
use Rattle.qs_conn.specs.Runs.{losses_out, pieces_left, LosesBy, Loses, held_out, acks_out, AcksBy, AcksPacket, AreSameBelow, named_out, AcksNamed, AcksRanges, is_ahead, ahead_pieces, AcksAhead, AcksBoth, from_below}
use Rattle.qs_machine.specs.Tables.{Tables}
use Rattle.qs_send.specs.Lane.{SendLane}
use Rattle.qs_machine.proofs.Carried.{get_new, get_removed, none_some, some_is}
use Rattle.std.specs.List.{filter, FoldsTo, All}
use Rattle.std.proofs.lemmas.Bool.{both_ways, cases_lt, or_cases, false_from_ne_true, cases_eq}
use Rattle.qs_wire.specs.Acks.{FallBelow}
use Rattle.qs_send.specs.AckPass.{Passing, PAST_NUMBERS, IsNamed, IsAhead, Falls, GivesNumber, IsNextNamed, pass_over}
use Rattle.qs_send.proofs.Passing.{named_below}
use Rattle.qs_send.proofs.Outstanding.{get_other-without_first, rest_of, get-without_first, get_same-without_first}
use Rattle.qs_wire.specs.Layout.{taken, ack_ranges_of}
use Rattle.qs_wire.proofs.PairLaws.{ranges_fall}
use Rattle.std.specs.Result.{OnOk, OnErr, IfErr}
use Rattle.qs_machine.specs.Memory.{PieceMayRunOut, StopsAt}
use Rattle.qs_machine.specs.FrameStep.{AckedPiece, is_named, acked_at, pieces_of, acked_numbers, piece_acked, first_acked, named_in, named, acks, frame_taken}
use Rattle.qs_conn.proofs.Flows.{same_truth}
use Rattle.qs_machine.proofs.Named.{filter_first, filter_held, filter_nothing, filters_nothing, filter_reverse}
use Rattle.qs_calls.specs.declared.token.Token.{Token}
use Rattle.qs_machine.specs.Receiving.{RunsOut}
use Rattle.qs_machine.specs.Alone.{only}
use Rattle.std.proofs.lemmas.Grind.{common_steps}
use Rattle.qs_send.specs.declared.piece.Piece.TheVariants.{Told, Data}
use Rattle.qs_send.specs.declared.piece.Item.TheVariants.{MaxData}
use Rattle.std.proofs.lemmas.List.Elements.{All-nil, All-append, All-map, All-from_get_or, All-tail, All-head}
use Rattle.std.specs.Option.{IfSome}
use Rattle.qs_conn.specs.NewlyTold.{gone_from, ahead_numbers, TellsAhead, TellsNamed}
use Rattle.qs_conn.proofs.Untolds.{outstanding_acked}
use Rattle.qs_conn.specs.declared.by_dir.ByDir.{ByDir}
use Rattle.qs_conn.specs.declared.middle.Core.{Core}
use Rattle.qs_conn.specs.Ended.{AreAllCounted, is_over, recounted}
use Rattle.qs_conn.specs.Middle.{IsAtRest}
use Rattle.qs_conn.specs.Rows.{AcksAlone, AcksDown, AcksRow, AcksFrom, MayRunOutAt, numbers_down}
use Rattle.qs_conn.proofs.Cores.{piece_recounted, rest_acked}

-- Losses

-- the first piece stands before those that are left
pub pieces_first : (m : Records) (k : ℕ) (p : Piece) → first_piece (fmap.get m k) ≡ Some p → pieces_in m k ≡ p ∷ pieces_in (without_first m k (fmap.get m k)) k
pieces_first m k p first = grind (arith, nat_tests, get_removed, get_new)

pub pieces_none : (m : Records) (k : ℕ) → first_piece (fmap.get m k) ≡ None → pieces_in m k ≡ []
pieces_none m k first = grind (arith, nat_tests)

pub less_left : (m : Records) (k : ℕ) (p : Piece) → first_piece (fmap.get m k) ≡ Some p → length (pieces_in (without_first m k (fmap.get m k)) k) < length (pieces_in m k)
less_left m k p first = let e = ap length (pieces_first m k p first) in omega (arith, e)

pub loses_end : (k : ℕ) (o : Outgoing) → first_piece (fmap.get o.outstanding k) ≡ None → Loses k o (Ok tt) o
unfolding Loses losses_out
loses_end k o first = ap (λ ps. losses_out k ps o) (sym (pieces_none o.outstanding k first))

pub loses_stop : (k : ℕ) (o new : Outgoing) (p : Piece) (e : NoMemory) → first_piece (fmap.get o.outstanding k) ≡ Some p → new ≡ o → Loses k o (Err e) new
unfolding Loses losses_out
loses_stop k o new p e first same = (0, (let some = ap length (pieces_first o.outstanding k p first) in omega (arith, some)), same)

loses_cons : (k : ℕ) (p : Piece) (ps : List Piece) (o new : Outgoing) (result : Result (Unit {0}) NoMemory) → LosesBy k ps (first_lost_out k p o) result new → LosesBy k (p ∷ ps) o result new
unfolding losses_out
loses_cons k p ps o new (Ok done) h = h
loses_cons k p ps o new (Err e) h = (suc h.0, omega (arith, h.1), h.2)

pub loses_more : (k : ℕ) (o next new : Outgoing) (p : Piece) (result : Result (Unit {0}) NoMemory) → first_piece (fmap.get o.outstanding k) ≡ Some p → next ≡ first_lost_out k p o → Loses k next result new → Loses k o result new
unfolding Loses
loses_more k o next new p result first is h = grind (arith, nat_tests, pieces_first, loses_cons)

pub loses_less : (k : ℕ) (o next : Outgoing) (p : Piece) → first_piece (fmap.get o.outstanding k) ≡ Some p → next ≡ first_lost_out k p o → pieces_left false k next < pieces_left false k o
unfolding pieces_left
loses_less k o next p first is = subst (λ (x : Outgoing). length (pieces_in x.outstanding k) < length (pieces_in o.outstanding k)) (sym is) (less_left o.outstanding k p first)

-- A packet is declared lost

pub not_outstanding : (e : End) (k : ℕ) → is_some e.closed ≡ false → NoneEmpty e.outstanding → first_piece (fmap.get e.outstanding k) ≡ None → Some losing.NotOutstanding ≡ lose_refusal e k
not_outstanding e k goes full first = grind (arith, nat_tests)

pub is_outstanding : (e : End) (k : ℕ) (p : Piece) → is_some e.closed ≡ false → first_piece (fmap.get e.outstanding k) ≡ Some p → None ≡ lose_refusal e k
is_outstanding e k p goes first = grind (arith, nat_tests)

pub lost_refused : (e : End) (k : ℕ) (fault : LostFault) → Some fault ≡ lose_refusal e k → LoseStep e k (Err fault) e
lost_refused e k fault is = rw (← is) (refl, refl)

there : (e : End) (k : ℕ) → None ≡ lose_refusal e k → (ps : List Piece) × (fmap.get e.outstanding k ≡ Some ps)
there e k is = grind (arith, nat_tests)

losses_view : (k : ℕ) (ps : List Piece) (o : Outgoing) (e : End) → with_outgoing (losses_out k ps o) e ≡ losses k ps (with_outgoing o e)
unfolding losses_out losses
losses_view k [] o e = refl
losses_view k (p ∷ ps) o e = losses_view k ps (first_lost_out k p o) e

-- the pieces of the record, as both say it
same_pieces : (e : End) (o : Outgoing) (k : ℕ) (ps : List Piece) → fmap.get e.outstanding k ≡ Some ps → e ≡ with_outgoing o e → pieces_in o.outstanding k ≡ ps
same_pieces e o k ps is same = ap (λ (x : Option (List Piece)). elim x as (λ _. List Piece) [ None ↦ [] | Some qs ↦ qs ]) (ap (λ (x : End). fmap.get x.outstanding k) (sym same) ∙ is)

-- what came of the loop, as an end
came : (k : ℕ) (ps : List Piece) (o new : Outgoing) (v : End) → v ≡ with_outgoing o v → new ≡ losses_out k ps o → with_outgoing new v ≡ losses k ps v
came k ps o new v same is = ap (λ (x : Outgoing). with_outgoing x v) is ∙ losses_view k ps o v ∙ ap (losses k ps) (sym same)

-- what a call answers, by what came of its loop
pub lost_ok : (v e : End) (o new : Outgoing) (k : ℕ) (r : Result (Unit {0}) NoMemory) (answer : Result (Unit {0}) LostFault) → v ≡ e → v ≡ with_outgoing o v → None ≡ lose_refusal e k → r ≡ Ok tt → answer ≡ Ok tt → Loses k o r new
    → LoseStep e k answer (with_outgoing new v)
unfolding Loses
lost_ok v e o new k r answer is same free done said h =
    let open_end = subst (λ (x : End). None ≡ lose_refusal x k) (sym is) free in
    let (ps, at) = there v k open_end in
    let all : LosesBy k (pieces_in o.outstanding k) o (Ok tt) new = rw done at h in
    subst (λ (x : End). LoseStep x k answer (with_outgoing new v)) is
    (rw (← open_end) (ps, at, inl (said, came k (pieces_in o.outstanding k) o new v same all ∙ ap (λ (qs : List Piece). losses k qs v) (same_pieces v o k ps at same))))

pub lost_err : (v e : End) (o new : Outgoing) (k : ℕ) (r : Result (Unit {0}) NoMemory) (refused : NoMemory) (answer : Result (Unit {0}) LostFault) → v ≡ e → v ≡ with_outgoing o v → None ≡ lose_refusal e k → r ≡ Err refused → answer ≡ Err losing.NoMemory
    → Loses k o r new → LoseStep e k answer (with_outgoing new v)
unfolding Loses
lost_err v e o new k r refused answer is same free done said h =
    let open_end = subst (λ (x : End). None ≡ lose_refusal x k) (sym is) free in
    let (ps, at) = there v k open_end in
    let listed = same_pieces v o k ps at same in
    let some : LosesBy k (pieces_in o.outstanding k) o (Err refused) new = rw done at h in
    let (moved, few, after) = some in
    subst (λ (x : End). LoseStep x k answer (with_outgoing new v)) is
    (rw (← open_end) (ps, at, inr (moved, subst (λ (qs : List Piece). moved < length qs) listed few, said, came k (take moved (pieces_in o.outstanding k)) o new v same after ∙ ap (λ (qs : List Piece). losses k (take moved qs) v) listed)))

-- No packet is in the making

pub idle_with : (o new : Outgoing) (t : Tables SendLane) → new ≡ with_sends t o → IsIdle o → IsIdle new
idle_with o new t is idle = subst IsIdle (sym is) idle

pub idle_new : (o : Outgoing) → o ≡ no_packets → IsIdle o
idle_new o is = subst IsIdle (sym is) (fmap.get-empty nat_cmp 0)

-- ---- Packets are acknowledged: the pieces of one, and those of all that a pass over an ACK has ahead.

-- Lists of pieces

pub acks_cons : (a : AckedPiece) (ps : List AckedPiece) (o new : Outgoing) (result : Result (Unit {0}) NoMemory) → AcksBy ps (first_acked_out a o) result new → AcksBy (a ∷ ps) o result new
unfolding acks_out
acks_cons a ps o new (Ok done) h = h
acks_cons a ps o new (Err e) (m, is, asks) = (suc m, is, asks)

pub acks_append : (ps qs : List AckedPiece) (o new : Outgoing) (result : Result (Unit {0}) NoMemory) → AcksBy qs (acks_out ps o) result new → AcksBy (ps ++ qs) o result new
unfolding acks_out
acks_append [] qs o new result h = h
acks_append (a ∷ ps) qs o new result h = acks_cons a (ps ++ qs) o new result (acks_append ps qs (first_acked_out a o) new result h)

prefix : (m : ℕ) (ps qs : List AckedPiece) (t : Tables SendLane) (a : AckedItems) → StopsAt t a (slice_get ps m) → (take m (ps ++ qs) ≡ take m ps) × (slice_get (ps ++ qs) m ≡ slice_get ps m)
prefix m [] qs t a stops = absurd stops
prefix zero (p ∷ ps) qs t a stops = (refl, refl)
prefix (suc m) (p ∷ ps) qs t a stops = let r = prefix m ps qs t a stops in (ap (λ xs. p ∷ xs) r.0, r.1)

pub acks_some : (ps qs : List AckedPiece) (o new : Outgoing) (e : NoMemory) → AcksBy ps o (Err e) new → AcksBy (ps ++ qs) o (Err e) new
acks_some ps qs o new e (m, is, stops) =
    let r = prefix m ps qs new.sends new.acked stops in
    (m, is ∙ ap (λ xs. acks_out xs o) (sym r.0), subst (λ x. StopsAt new.sends new.acked x) (sym r.1) stops)

-- One packet

held_piece : (late : Bool) (p : Piece) (o : Outgoing) → held_out late (piece_acked_out p o) ≡ held_out late o
held_piece late p o = grind (arith, nat_tests)

held_without : (late : Bool) (k : ℕ) (o : Outgoing) → held_out late (without_piece_out late k o) ≡ without_first (held_out late o) k (fmap.get (held_out late o) k)
held_without late k o = grind (arith, nat_tests)

pub out_is : (late : Bool) (k : ℕ) (p : Piece) (o : Outgoing) → held_out late (first_acked_out (acked_at late k p) o) ≡ without_first (held_out late o) k (fmap.get (held_out late o) k)
out_is late k p o = held_piece late p (without_piece_out late k o) ∙ held_without late k o

-- the pieces that an ACK takes are those of the record
pieces_are : (late : Bool) (m : Records) (k : ℕ) → pieces_of late m k ≡ map (acked_at late k) (pieces_in m k)
pieces_are late m k = grind (arith, nat_tests)

pieces_next : (late : Bool) (m : Records) (k : ℕ) (p : Piece) → first_outgoing (fmap.get m k) ≡ Some p → pieces_of late m k ≡ acked_at late k p ∷ pieces_of late (without_first m k (fmap.get m k)) k
pieces_next late m k p first = grind (arith, nat_tests, pieces_first)

pub packet_end : (late : Bool) (k : ℕ) (o : Outgoing) → first_outgoing (fmap.get (held_out late o) k) ≡ None → AcksPacket late k o (Ok tt) o
unfolding AcksPacket acks_out
packet_end late k o first = ap (λ xs. acks_out xs o) (sym (pieces_are late (held_out late o) k ∙ ap (map (acked_at late k)) (pieces_none (held_out late o) k first)))

pub packet_stop : (late : Bool) (k : ℕ) (o new : Outgoing) (p : Piece) (e : NoMemory) → first_outgoing (fmap.get (held_out late o) k) ≡ Some p → new ≡ o → PieceMayRunOut o.sends o.acked p → AcksPacket late k o (Err e) new
unfolding AcksPacket acks_out
packet_stop late k o new p e first same may = grind (arith, nat_tests)

pub packet_more : (late : Bool) (k : ℕ) (o next new : Outgoing) (p : Piece) (result : Result (Unit {0}) NoMemory) → first_outgoing (fmap.get (held_out late o) k) ≡ Some p → next ≡ first_acked_out (acked_at late k p) o → AcksPacket late k next result new
    → AcksPacket late k o result new
unfolding AcksPacket
packet_more late k o next new p result first is h = grind (arith, nat_tests, pieces_next, acks_cons)

pub packet_less : (late : Bool) (k : ℕ) (o next : Outgoing) (p : Piece) → first_outgoing (fmap.get (held_out late o) k) ≡ Some p → next ≡ first_acked_out (acked_at late k p) o → pieces_left late k next < pieces_left late k o
unfolding pieces_left
packet_less late k o next p first is = grind (arith, nat_tests, less_left)

-- other packets stay
pub others : (late : Bool) (k j : ℕ) (ps : List Piece) (o : Outgoing) → j ≢ k → fmap.get (held_out late (acks_out (map (acked_at late k) ps) o)) j ≡ fmap.get (held_out late o) j
unfolding acks_out
others late k j [] o ne = refl
others late k j (p ∷ ps) o ne = grind (arith, nat_tests, others late k j ps (first_acked_out (acked_at late k p) o) ne, get_other-without_first)

pub others_at : (late : Bool) (k j : ℕ) (o : Outgoing) → j ≢ k → fmap.get (held_out late (acks_out (pieces_of late (held_out late o) k) o)) j ≡ fmap.get (held_out late o) j
others_at late k j o ne = ap (λ ps. fmap.get (held_out late (acks_out ps o)) j) (pieces_are late (held_out late o) k) ∙ others late k j (pieces_in (held_out late o) k) o ne

-- What a pass has ahead, as a test

named_as : (rs : List (ℕ × ℕ)) (k : ℕ) → IsNamed rs k → is_named rs k ≡ true
named_as [] k named = absurd named
named_as (r ∷ rs) k (inl here) = let low = here.0 in let high = here.1 in grind (arith, nat_tests, low)
named_as (r ∷ rs) k (inr later) = let rest = named_as rs k later in grind (arith, nat_tests)

as_named : (rs : List (ℕ × ℕ)) (k : ℕ) → is_named rs k ≡ true → IsNamed rs k
as_named [] k is = absurd (both_ways false refl is)
as_named (r ∷ rs) k is = elim (or_cases (nat_le r.0 k && nat_le k r.1) (is_named rs k) is) [ inl here ↦ inl (grind (arith, nat_tests), grind (arith, nat_tests)) | inr later ↦ inr (as_named rs k later) ]

ahead_as : (p : Passing) (k : ℕ) → IsAhead p k → is_ahead p k ≡ true
ahead_as p k h = grind (arith, nat_tests, named_as)

pub as_ahead : (p : Passing) (k : ℕ) → is_ahead p k ≡ true → IsAhead p k
as_ahead p k is = grind (arith, nat_tests, as_named)

pub not_ahead : (p : Passing) (k : ℕ) → (IsAhead p k → ⊥) → is_ahead p k ≡ false
not_ahead p k not = false_from_ne_true (is_ahead p k) (λ is. not (as_ahead p k is))

-- A pass goes from what p has ahead to what q has

-- of what p has ahead k is above each outstanding number, and q has what lies below it
pub record GoesBelow (m : Records) (p : Passing) (k : ℕ) (q : Passing) : Type 0 where
  pub named : IsAhead p k
  pub greatest : (j : ℕ) → IsAhead p j → is_some (fmap.get m j) ≡ true → j ≤ k
  pub left : (j : ℕ) → IsAhead q j ↔ ((j < k) × IsAhead p j)

pub goes_below : (m : Records) (p q : Passing) (k : ℕ) (r : Option ℕ) → r ≡ Some k → IsNextNamed m p r q → GoesBelow m p k q
goes_below m p q k r is answer = let given : GivesNumber m p k q = subst (λ x. IsNextNamed m p x q) is answer in record { named = given.named; greatest = given.greatest; left = given.left }

module _ (late : Bool) (p q : Passing) (k : ℕ) (o : Outgoing) (m : Records) (goes : GoesBelow (held_out late o) p k q) (same : AreSameBelow p.below m (held_out late o)) where
  past : (j : ℕ) → k ≤ j → is_ahead q j ≡ false
  past j ge = not_ahead q j (λ ahead. let lt = ((goes.left j).0 ahead).0 in omega (arith, ge, lt))

  below : (j : ℕ) → j < k → is_ahead p j ≡ is_ahead q j
  below j lt = same_truth (is_ahead p j) (is_ahead q j) (λ is. ahead_as q j ((goes.left j).1 (lt, as_ahead p j is))) (λ is. ahead_as p j ((goes.left j).0 (as_ahead q j is)).1)

  above : (j : ℕ) → k < j → is_some (fmap.get m j) ≡ true → is_ahead p j ≡ false
  above j gt held = not_ahead p j (λ ahead. let le = goes.greatest j ahead (ap is_some (sym (same j ahead.0)) ∙ held) in omega (arith, gt, le))

  -- k comes first, if it is outstanding
  pub numbers_ahead : is_some (fmap.get m k) ≡ true → reverse (filter (is_ahead p) (fmap.keys m)) ≡ k ∷ reverse (filter (is_ahead q) (fmap.keys m))
  numbers_ahead held = filter_first m (is_ahead p) (is_ahead q) k held (ahead_as p k goes.named) past below above

  alike : fmap.get m k ≡ None → (j : ℕ) → is_some (fmap.get m j) ≡ true → is_ahead p j ≡ is_ahead q j
  alike none j held = elim (cases_lt j k) [
    | inl lt ↦ below j lt
    | inr ge ↦ elim (cases_lt k j) [
      | inl gt ↦ above j gt held ∙ sym (past j ge)
      | inr le ↦ (let at : k ≡ j = omega (arith, ge, le) in absurd (both_ways _ (ap is_some (ap (fmap.get m) (sym at) ∙ none)) held))
    ]
  ]

  first_ahead : ahead_pieces late m p ≡ pieces_of late (held_out late o) k ++ ahead_pieces late m q
  first_ahead = go (fmap.get m k) refl ∙ ap (λ x. listed x ++ ahead_pieces late m q) (same k goes.named.0)
    where
      listed : Option (List Piece) → List AckedPiece
      listed x = elim x [ None ↦ [] | Some ps ↦ map (acked_at late k) ps ]

      go : (x : Option (List Piece)) → fmap.get m k ≡ x → ahead_pieces late m p ≡ pieces_of late m k ++ ahead_pieces late m q
      go None is =
          ap (λ ks. flat_map (pieces_of late m) (reverse ks)) (filter_held m (is_ahead p) (is_ahead q) (alike is)) ∙ sym (ap (λ x. listed x ++ ahead_pieces late m q) is)
      go (Some ps) is = ap (flat_map (pieces_of late m)) (numbers_ahead (ap is_some is))

pub ahead_stop : (late : Bool) (p q : Passing) (k : ℕ) (o new : Outgoing) (e e' : NoMemory) → (Falls p → GoesBelow (held_out late o) p k q) → AcksPacket late k o (Err e) new → AcksAhead late p o (Err e') new
unfolding AcksPacket AcksAhead
ahead_stop late p q k o new e e' goes acked = λ m falls same.
    subst (λ xs. AcksBy xs o (Err e) new) (sym (first_ahead late p q k o m (goes falls) same)) (acks_some (pieces_of late (held_out late o) k) (ahead_pieces late m q) o new e acked)

pub ahead_more : (late : Bool) (p q : Passing) (k : ℕ) (o next new : Outgoing) (result : Result (Unit {0}) NoMemory) → (Falls p → GoesBelow (held_out late o) p k q) → (Falls p → Falls q) → q.below ≡ k
    → AcksPacket late k o (Ok tt) next → AcksAhead late q next result new → AcksAhead late p o result new
unfolding AcksPacket AcksAhead
ahead_more late p q k o next new result goes fall bound acked rest = λ m falls same.
    let lt = (goes falls).named.0 in
    let later = rest m (fall falls) (λ j small. same j (omega (arith, small, bound, lt)) ∙ sym (ap (λ (x : Outgoing). fmap.get (held_out late x) j) acked ∙ others_at late k j o (λ e. omega (arith, e, small, bound)))) in
    subst (λ xs. AcksBy xs o result new) (sym (first_ahead late p q k o m (goes falls) same))
    (acks_append (pieces_of late (held_out late o) k) (ahead_pieces late m q) o new result (subst (λ (x : Outgoing). AcksBy (ahead_pieces late m q) x result new) acked later))

-- The pass over an ACK

pub pass_end : (late : Bool) (p q : Passing) (o : Outgoing) (r : Option ℕ) → r ≡ None → (Falls p → IsNextNamed (held_out late o) p r q) → AcksAhead late p o (Ok tt) o
unfolding AcksAhead acks_out
pass_end late p q o r is answer = grind (arith, nat_tests, not_ahead, filter_nothing)

-- of a pass that begins all that the ranges name is ahead
pub begins_named : (m : Records) (p : Passing) (ranges : List (ℕ × ℕ)) → p ≡ pass_over ranges → FallBelow PAST_NUMBERS ranges → reverse (filter (is_ahead p) (fmap.keys m)) ≡ acked_numbers m ranges
begins_named m p ranges begins falls = grind (arith, nat_tests, as_ahead, named_as, named_below, as_named, ahead_as)

pub all_named : (late : Bool) (p : Passing) (ranges : List (ℕ × ℕ)) (o mid new : Outgoing) (result : Result (Unit {0}) NoMemory) → p ≡ pass_over ranges → AcksAhead late p o result mid → new ≡ mid → AcksNamed late ranges o result new
unfolding AcksAhead AcksNamed
all_named late p ranges o mid new result begins acked same = λ falls.
    let start = subst (λ (x : Passing). Falls x) (sym begins) falls in
    let by_pass = acked (held_out late o) start (λ k lt. refl) in
    subst (λ (x : Outgoing). AcksBy (named_in late (held_out late o) ranges) o result x) (sym same)
    (subst (λ ks. AcksBy (flat_map (pieces_of late (held_out late o)) ks) o result mid) (begins_named (held_out late o) p ranges begins falls) by_pass)

-- Both passes

out_append : (ps qs : List AckedPiece) (o : Outgoing) → acks_out (ps ++ qs) o ≡ acks_out qs (acks_out ps o)
unfolding acks_out
out_append [] qs o = refl
out_append (a ∷ ps) qs o = out_append ps qs (first_acked_out a o)

-- the pieces of the packets that a test takes
abbrev taken_by : (ℕ → Bool) → Bool → Records → List AckedPiece
taken_by f late m = flat_map (pieces_of late m) (reverse (filter f (fmap.keys m)))

-- the first pass leaves lost records alone
lost_piece : (p : Piece) (o : Outgoing) → (piece_acked_out p o).lost ≡ o.lost
lost_piece p o = grind (arith, nat_tests)

lost_packet : (k : ℕ) (ps : List Piece) (o : Outgoing) → (acks_out (map (acked_at false k) ps) o).lost ≡ o.lost
unfolding acks_out
lost_packet k [] o = refl
lost_packet k (p ∷ ps) o = lost_packet k ps (first_acked_out (acked_at false k p) o) ∙ lost_piece p (without_piece_out false k o)

lost_stays : (m : Records) (ks : List ℕ) (o : Outgoing) → (acks_out (flat_map (pieces_of false m) ks) o).lost ≡ o.lost
unfolding acks_out
lost_stays m [] o = refl
lost_stays m (k ∷ ks) o = grind (arith, nat_tests, lost_stays m ks (acks_out (pieces_of false m k) o), out_append, lost_packet)

-- of what a test takes first the outstanding ones are acknowledged, and then the lost ones
pub both_by : (f : ℕ → Bool) (o mid new : Outgoing) (result : Result (Unit {0}) NoMemory) → AcksBy (taken_by f false o.outstanding) o (Ok tt) mid → AcksBy (taken_by f true mid.lost.pieces) mid result new
    → AcksBy (taken_by f false o.outstanding ++ taken_by f true o.lost.pieces) o result new
both_by f o mid new result one late = grind (arith, nat_tests, acks_append, lost_stays)

pub both_passes : (ranges : List (ℕ × ℕ)) (o mid new : Outgoing) (result : Result (Unit {0}) NoMemory) → AcksNamed false ranges o (Ok tt) mid → AcksNamed true ranges mid result new → AcksRanges ranges o result new
unfolding AcksNamed AcksRanges
both_passes ranges o mid new result first late = λ falls. both_by (is_named ranges) o mid new result (first falls) (late falls)

-- none is lost
no_pieces : (m : Records) → ((n : ℕ) → fmap.get m n ≡ None) → (ks : List ℕ) → flat_map (pieces_of true m) ks ≡ []
no_pieces m none [] = refl
no_pieces m none (k ∷ ks) = rw (none k, pieces_of) (no_pieces m none ks)

pub none_named : (ranges : List (ℕ × ℕ)) (o : Outgoing) → ((n : ℕ) → fmap.get o.lost.pieces n ≡ None) → AcksNamed true ranges o (Ok tt) o
unfolding AcksNamed acks_out
none_named ranges o none = λ falls. subst (λ ps. AcksBy ps o (Ok tt) o) (sym (no_pieces o.lost.pieces none (reverse (filter (is_named ranges) (fmap.keys o.lost.pieces))))) refl

pub first_stops : (ranges : List (ℕ × ℕ)) (o new : Outgoing) (e e' : NoMemory) → AcksNamed false ranges o (Err e) new → AcksRanges ranges o (Err e') new
unfolding AcksNamed AcksRanges
first_stops ranges o new e e' first = λ falls. acks_some (named_in false o.outstanding ranges) (named_in true o.lost.pieces ranges) o new e (first falls)

pub fall_less : (high more : ℕ) (ranges : List (ℕ × ℕ)) → high ≤ more → FallBelow high ranges → FallBelow more ranges
fall_less high more [] le falls = tt
fall_less high more (r ∷ rs) le falls = (omega (arith, falls.0, le), falls.1, falls.2)

-- What an end is then

piece_view : (p : Piece) (o : Outgoing) (e : End) → with_outgoing (piece_acked_out p o) e ≡ piece_acked p (with_outgoing o e)
piece_view p o e = grind (arith, nat_tests)

first_view : (a : AckedPiece) (o : Outgoing) (e : End) → with_outgoing (first_acked_out a o) e ≡ first_acked a (with_outgoing o e)
first_view a o e = piece_view a.piece (without_piece_out a.late a.number o) e

acks_view : (ps : List AckedPiece) (o : Outgoing) (e : End) → with_outgoing (acks_out ps o) e ≡ acks ps (with_outgoing o e)
unfolding acks_out acks
acks_view [] o e = refl
acks_view (p ∷ ps) o e = acks_view ps (first_acked_out p o) e ∙ ap (acks ps) (first_view p o e)

-- of a call: the pieces that ranges name are acknowledged, or some first ones, where memory was refused
abbrev pub Comes : List (ℕ × ℕ) → End → Outgoing → Result (Unit {0}) NoMemory → Type 0
Comes ranges e new result =
    OnOk result (with_outgoing new e ≡ acks (named e ranges) e) × OnErr result ((m : ℕ) × (with_outgoing new e ≡ acks (take m (named e ranges)) e) × StopsAt new.sends new.acked (slice_get (named e ranges) m))

pub comes_by : (ranges : List (ℕ × ℕ)) (o new : Outgoing) (e : End) (result : Result (Unit {0}) NoMemory) → e ≡ with_outgoing o e → AcksBy (named_out o ranges) o result new → Comes ranges e new result
comes_by ranges o new e result same h = grind (arith, nat_tests, acks_view)

pub ack_comes : (largest : ℕ) (numbers : List ℕ) (o new : Outgoing) (e : End) (result : Result (Unit {0}) NoMemory) → e ≡ with_outgoing o e → largest < 2 ^ 62 → taken numbers ≤ largest + 1
    → AcksRanges (ack_ranges_of largest numbers) o result new → Comes (ack_ranges_of largest numbers) e new result
unfolding AcksRanges
ack_comes largest numbers o new e result same small above h =
    let ranges = ack_ranges_of largest numbers in
    comes_by ranges o new e result same (h (fall_less (largest + 2) PAST_NUMBERS ranges (omega (arith, small)) (ranges_fall largest numbers above)))

-- The packets of a token: numbers from one on and below another, as by an ACK of them alone

pub range_end : (late : Bool) (first end : ℕ) (o : Outgoing) → end ≤ first → AcksAhead late (from_below first end) o (Ok tt) o
unfolding AcksAhead acks_out
range_end late first end o le = grind (arith, nat_tests, filter_nothing)

-- A pass goes down by one number, whether or not it is outstanding

abbrev pub below_at : Passing → ℕ → Passing
below_at q k = record q { below = k }

pub steps_down : (m : Records) (q : Passing) (k end : ℕ) → q.low ≤ k → k + 1 ≡ end → GoesBelow m (below_at q end) k (below_at q k)
steps_down m q k end le is = grind (arith, nat_tests)

pub down_more : (late : Bool) (q : Passing) (k end : ℕ) (o next new : Outgoing) (result : Result (Unit {0}) NoMemory) → q.low ≤ k → k + 1 ≡ end → AcksPacket late k o (Ok tt) next → AcksAhead late (below_at q k) next result new
    → AcksAhead late (below_at q end) o result new
down_more late q k end o next new result le is acked rest =
    ahead_more late (below_at q end) (below_at q k) k o next new result (λ falls. steps_down (held_out late o) q k end le is) (λ falls. falls) refl acked rest

pub range_stop : (late : Bool) (first end k : ℕ) (o new : Outgoing) (e e' : NoMemory) → first < end → k + 1 ≡ end → AcksPacket late k o (Err e) new → AcksAhead late (from_below first end) o (Err e') new
range_stop late first end k o new e e' lt is acked =
    ahead_stop late (from_below first end) (from_below first k) k o new e e' (λ falls. steps_down (held_out late o) (from_below first end) k end (omega (arith, lt, is)) is) acked

pub range_more : (late : Bool) (first end k : ℕ) (o next new : Outgoing) (result : Result (Unit {0}) NoMemory) → first < end → k + 1 ≡ end → AcksPacket late k o (Ok tt) next → AcksAhead late (from_below first k) next result new
    → AcksAhead late (from_below first end) o result new
range_more late first end k o next new result lt is acked rest = down_more late (from_below first end) k end o next new result (omega (arith, lt, is)) is acked rest

-- The outstanding ones and the lost ones

pub both_done : (first end : ℕ) (o mid new : Outgoing) (result : Result (Unit {0}) NoMemory) → AcksAhead false (from_below first end) o (Ok tt) mid → AcksAhead true (from_below first end) mid result new → AcksBoth (from_below first end) o result new
unfolding AcksAhead AcksBoth
both_done first end o mid new result one late = both_by (is_ahead (from_below first end)) o mid new result (one o.outstanding tt (λ k lt. refl)) (late mid.lost.pieces tt (λ k lt. refl))

pub both_stops : (first end : ℕ) (o new : Outgoing) (e e' : NoMemory) → AcksAhead false (from_below first end) o (Err e) new → AcksBoth (from_below first end) o (Err e') new
unfolding AcksAhead AcksBoth
both_stops first end o new e e' one = acks_some (ahead_pieces false o.outstanding (from_below first end)) (ahead_pieces true o.lost.pieces (from_below first end)) o new e (one o.outstanding tt (λ k lt. refl))

-- none is lost
pub none_late : (first end : ℕ) (o : Outgoing) → ((n : ℕ) → fmap.get o.lost.pieces n ≡ None) → AcksAhead true (from_below first end) o (Ok tt) o
none_late first zero o none = range_end true first zero o (omega arith)
none_late first (suc k) o none =
    elim (cases_lt first (suc k)) [
      | inl lt ↦ range_more true first (suc k) k o o o (Ok tt) lt (omega arith) (packet_end true k o (ap first_outgoing (none k))) (none_late first k o none)
      | inr ge ↦ range_end true first (suc k) o ge
    ]

-- What an end is then

token_only : (t : Token) (o new : Outgoing) (result : Result (Unit {0}) NoMemory) → AcksBoth (from_below t.first (t.number + 1)) o result new → AcksBy (named_out o ((t.first, t.number) ∷ [])) o result new
unfolding AcksBoth
token_only t o new result h = grind (arith, nat_tests)

pub only_comes : (t : Token) (o new : Outgoing) (e : End) (result : Result (Unit {0}) NoMemory) → e ≡ with_outgoing o e → AcksBoth (from_below t.first (t.number + 1)) o result new
    → OnOk result (with_outgoing new e ≡ frame_taken (only t) e) × OnErr result (RunsOut e (only t) (with_outgoing new e))
unfolding frame_taken
only_comes t o new e result same h = comes_by ((t.first, t.number) ∷ []) o new e result same (token_only t o new result h)

-- ---- Which packets are told as they are newly acknowledged.

abbrev holds : Outgoing → ℕ → Bool
holds o j = is_some (fmap.get o.outstanding j)

-- What acknowledgements leave

less_gone : (m : Records) (k j : ℕ) → is_some (fmap.get m j) ≡ false → is_some (fmap.get (without_first m k (fmap.get m k)) j) ≡ false
less_gone m k j off = grind (arith, nat_tests, get-without_first, rest_of)

-- no packet is outstanding that wasn't
pub record IsLess (o new : Outgoing) : Type 0 where
  pub gone : (j : ℕ) → holds o j ≡ false → holds new j ≡ false

less_first : (a : AckedPiece) (o : Outgoing) → IsLess o (first_acked_out a o)
less_first a o = grind (arith, nat_tests, less_gone)

pub less_self : (o : Outgoing) → IsLess o o
less_self o = record { gone = λ j off. off }

pub less_on : (o mid new : Outgoing) → IsLess o mid → IsLess mid new → IsLess o new
less_on o mid new one two = record { gone = λ j off. two.gone j (one.gone j off) }

less_acks : (ps : List AckedPiece) (o : Outgoing) → IsLess o (acks_out ps o)
unfolding acks_out
less_acks [] o = less_self o
less_acks (a ∷ ps) o = less_on o (first_acked_out a o) (acks_out ps (first_acked_out a o)) (less_first a o) (less_acks ps (first_acked_out a o))

less_by : (ps : List AckedPiece) (o new : Outgoing) (result : Result (Unit {0}) NoMemory) → AcksBy ps o result new → IsLess o new
less_by ps o new (Ok done) is = subst (λ (x : Outgoing). IsLess o x) (sym is) (less_acks ps o)
less_by ps o new (Err refused) (m, is, stops) = subst (λ (x : Outgoing). IsLess o x) (sym is) (less_acks (take m ps) o)

pub less_packet : (late : Bool) (k : ℕ) (o new : Outgoing) (result : Result (Unit {0}) NoMemory) → AcksPacket late k o result new → IsLess o new
unfolding AcksPacket
less_packet late k o new result h = less_by (pieces_of late (held_out late o) k) o new result h

-- One packet

abbrev piece_list : ℕ → Option (List Piece) → List AckedPiece
piece_list k o = elim o [ None ↦ [] | Some ps ↦ map (acked_at false k) ps ]

first_left : (k : ℕ) (p : Piece) (o : Outgoing) → fmap.get (first_acked_out (acked_at false k p) o).outstanding k ≡ rest_of (fmap.get o.outstanding k)
first_left k p o = ap (λ (m : Records). fmap.get m k) (out_is false k p o) ∙ get_same-without_first o.outstanding k

all_gone : (k : ℕ) (p : Piece) (ps : List Piece) (o : Outgoing) → fmap.get o.outstanding k ≡ Some (p ∷ ps) → holds (acks_out (map (acked_at false k) (p ∷ ps)) o) k ≡ false
unfolding acks_out
all_gone k p [] o is = ap is_some (first_left k p o ∙ ap rest_of is)
all_gone k p (q ∷ ps) o is = all_gone k q ps (first_acked_out (acked_at false k p) o) (first_left k p o ∙ ap rest_of is)

-- a packet whose pieces were acknowledged isn't outstanding
packet_gone : (k : ℕ) (o new : Outgoing) → NoneEmpty o.outstanding → AcksPacket false k o (Ok tt) new → holds new k ≡ false
unfolding AcksPacket acks_out
packet_gone k o new full is = ap (λ (x : Outgoing). holds x k) is ∙ go (fmap.get o.outstanding k) refl
  where
    go : (x : Option (List Piece)) → fmap.get o.outstanding k ≡ x → holds (acks_out (piece_list k x) o) k ≡ false
    go None none = ap is_some none
    go (Some []) none = absurd (full k none)
    go (Some (p ∷ ps)) some = all_gone k p ps o some

some_left : (k m : ℕ) (ps : List Piece) (o : Outgoing) → fmap.get o.outstanding k ≡ Some ps → is_some (slice_get (map (acked_at false k) ps) m) ≡ true → holds (acks_out (take m (map (acked_at false k) ps)) o) k ≡ true
unfolding acks_out
some_left k zero (p ∷ ps) o is there = ap is_some is
some_left k (suc m) (p ∷ q ∷ ps) o is there = some_left k m (q ∷ ps) (first_acked_out (acked_at false k p) o) (first_left k p o ∙ ap rest_of is) there
some_left _ _ _ _ _ there = absurd (both_ways false refl there)

stops_some : (new : Outgoing) (x : Option AckedPiece) → StopsAt new.sends new.acked x → is_some x ≡ true
stops_some new x stops = grind (arith, nat_tests)

take_map : (k m : ℕ) (ps : List Piece) → take m (map (acked_at false k) ps) ≡ map (acked_at false k) (take m ps)
take_map k (suc m) (p ∷ ps) = ap (λ xs. acked_at false k p ∷ xs) (take_map k m ps)
take_map _ _ _ = refl

-- where memory was refused all packets that were outstanding are
packet_stays : (k : ℕ) (o new : Outgoing) (e : NoMemory) (j : ℕ) → AcksPacket false k o (Err e) new → holds o j ≡ true → holds new j ≡ true
unfolding AcksPacket
packet_stays k o new e j (m, is, stops) there =
    ap (λ (x : Outgoing). holds x j) is ∙ go (fmap.get o.outstanding k) refl (stops_some new (slice_get (pieces_of false o.outstanding k) m) stops)
  where
    go : (x : Option (List Piece)) → fmap.get o.outstanding k ≡ x → is_some (slice_get (piece_list k x) m) ≡ true → holds (acks_out (take m (piece_list k x)) o) j ≡ true
    go None none some = absurd (both_ways false refl some)
    go (Some ps) was some = elim (cases_eq j k) [
      | inl same ↦ subst (λ i. holds (acks_out (take m (map (acked_at false k) ps)) o) i ≡ true) (sym same) (some_left k m ps o was some)
      | inr other ↦ ap (λ xs. holds (acks_out xs o) j) (take_map k m ps) ∙ ap is_some (others false k j (take m ps) o other) ∙ there
    ]

-- The pass

pub tells_end : {S : Type 0} (R : S → ℕ → S → Type 0) (late : Bool) (p q : Passing) (o : Outgoing) (r : Option ℕ) (s : S) → late ≡ false → r ≡ None → (Falls p → IsNextNamed (held_out late o) p r q) → TellsAhead R p o o s s
unfolding TellsAhead
tells_end R late p q o r s early is answer = grind (arith, nat_tests, not_ahead, filter_nothing)

pub asks_stop : {S : Type 0} (R : S → ℕ → S → Type 0) (late : Bool) (p : Passing) (k : ℕ) (o new : Outgoing) (e : NoMemory) (s : S) → late ≡ false → AcksPacket late k o (Err e) new → TellsAhead R p o new s s
unfolding TellsAhead
asks_stop R late p k o new e s early acked = grind (arith, nat_tests, filter_reverse, filters_nothing, packet_stays)

pub tells_more : {S : Type 0} (R : S → ℕ → S → Type 0) (late : Bool) (p q : Passing) (k : ℕ) (o next new : Outgoing) (r : Option ℕ) (s u t : S) → late ≡ false → r ≡ Some k → (Falls p → IsNextNamed (held_out late o) p r q) → (Falls p → Falls q)
    → IfSome r (λ j. (q.below ≡ j) × (j < p.below)) → NoneEmpty o.outstanding → AcksPacket late k o (Ok tt) next → R s k u → IsLess next new → TellsAhead R q next new u t → TellsAhead R p o new s t
unfolding TellsAhead AcksPacket
tells_more R true p q k o next new r s u t early is answer fall below full acked one less rest = absurd (both_ways true early refl)
tells_more R false p q k o next new None s u t early is answer fall below full acked one less rest = absurd (none_some k is)
tells_more R false p q k o next new (Some i) s u t early is answer fall below full acked one less rest = λ m falls same.
    let at : i ≡ k = some_is (Some i) i k refl is in
    let given = subst (λ (x : ℕ). GivesNumber o.outstanding p x q) at (answer falls) in
    let bound = below.0 in
    let lt = below.1 in
    let later = rest m (fall falls) (λ j small. same j (omega (arith, small, bound, lt)) ∙ sym (ap (λ (x : Outgoing). fmap.get x.outstanding j) acked ∙ others_at false k j o (λ e. omega (arith, e, small, bound, at)))) in
    let off : holds new k ≡ false = less.gone k (packet_gone k o next full acked) in
    subst (λ ks. FoldsTo R s (gone_from new.outstanding ks) t) (sym (numbers_ahead false p q k o m (goes_below o.outstanding p q k (Some k) refl given) same (ap is_some (same k given.named.0) ∙ given.held)))
    (subst (λ b. FoldsTo R s (cond (not b) (k ∷ gone_from new.outstanding (ahead_numbers m q)) (gone_from new.outstanding (ahead_numbers m q))) t) (sym off) (u, one, later))

-- Both passes

pub told_named : {S : Type 0} (R : S → ℕ → S → Type 0) (p : Passing) (ranges : List (ℕ × ℕ)) (o mid new : Outgoing) (s t : S) → p ≡ pass_over ranges → TellsAhead R p o mid s t → new ≡ mid → TellsNamed R ranges o new s t
unfolding TellsAhead TellsNamed
told_named R p ranges o mid new s t begins tells same = grind (arith, nat_tests, begins_named)

abbrev AllLate : List AckedPiece → Type 0
AllLate ps = All (λ a. a.late ≡ true) ps

late_flat : (m : Records) (ks : List ℕ) → AllLate (flat_map (pieces_of true m) ks)
late_flat m [] = All-nil (λ a. a.late ≡ true)
late_flat m (k ∷ ks) = All-append (λ a. a.late ≡ true) (pieces_of true m k) (flat_map (pieces_of true m) ks) (go (fmap.get m k)) (late_flat m ks)
  where
    go : (x : Option (List Piece)) → AllLate (elim x [ None ↦ [] | Some ps ↦ map (acked_at true k) ps ])
    go None = All-nil (λ a. a.late ≡ true)
    go (Some ps) = All-map (λ a. a.late ≡ true) (acked_at true k) ps (All-from_get_or (λ p. true ≡ true) ps (Told (MaxData 0)) (λ i lt. refl))

late_out : (ps : List AckedPiece) (o : Outgoing) → AllLate ps → (acks_out ps o).outstanding ≡ o.outstanding
unfolding acks_out
late_out [] o all = refl
late_out (a ∷ ps) o all =
    late_out ps (first_acked_out a o) (All-tail (λ a. a.late ≡ true) a ps all) ∙ outstanding_acked a.late a.number a.piece o ∙ ap (λ b. cond b o.outstanding (without_first o.outstanding a.number (fmap.get o.outstanding a.number))) (All-head (λ a. a.late ≡ true) a ps all)

late_by : (ps : List AckedPiece) (o new : Outgoing) (result : Result (Unit {0}) NoMemory) → AllLate ps → AcksBy ps o result new → new.outstanding ≡ o.outstanding
late_by ps o new result all is = grind (arith, common_steps, late_out)

-- the second pass changes no outstanding packet
pub told_both : {S : Type 0} (R : S → ℕ → S → Type 0) (ranges : List (ℕ × ℕ)) (o mid new : Outgoing) (result : Result (Unit {0}) NoMemory) (s t : S) → TellsNamed R ranges o mid s t → AcksNamed true ranges mid result new → TellsNamed R ranges o new s t
unfolding TellsNamed AcksNamed
told_both R ranges o mid new result s t tells acked = λ falls.
    subst (λ (m : Records). FoldsTo R s (gone_from m (acked_numbers o.outstanding ranges)) t)
    (sym (late_by (named_in true mid.lost.pieces ranges) mid new result (late_flat mid.lost.pieces (acked_numbers mid.lost.pieces ranges)) (acked falls))) (tells falls)

-- of an ACK that fits
pub told_ranges : {S : Type 0} (R : S → ℕ → S → Type 0) (largest : ℕ) (numbers : List ℕ) (o new : Outgoing) (s t : S) → largest < 2 ^ 62 → taken numbers ≤ largest + 1 → TellsNamed R (ack_ranges_of largest numbers) o new s t
    → FoldsTo R s (gone_from new.outstanding (acked_numbers o.outstanding (ack_ranges_of largest numbers))) t
unfolding TellsNamed
told_ranges R largest numbers o new s t small above tells = tells (fall_less (largest + 2) PAST_NUMBERS (ack_ranges_of largest numbers) (omega (arith, small)) (ranges_fall largest numbers above))

-- ---- Packets in a row are acknowledged at once: as one after the other, so of a pass over an ACK and of an end.

-- One packet

pub alone_packet : (n k : ℕ) (o new : Outgoing) → AcksAlone n k o new → AcksPacket false k o (Ok tt) new
unfolding AcksPacket acks_out
alone_packet n k o new (c, alone, is) = is ∙ ap (λ (x : Option (List Piece)). acks_out (elim x [ None ↦ [] | Some ps ↦ map (acked_outgoing false k) ps ]) o) (sym alone)

-- memory was refused at the row's highest packet
pub row_err : (r : Result ℕ NoMemory) (late : Bool) (n number : ℕ) (o new : Outgoing) → late ≡ false → new ≡ o → MayRunOutAt number n o → IfErr r (λ e. AcksPacket late number o (Err e) new)
row_err (Ok x) late n number o new early same may = tt
row_err (Err e) late n number o new early same (high, alone, may) = subst (λ b. AcksPacket b number o (Err e) new) (sym early) (packet_stop false number o new (Data n high) e (ap first_outgoing alone) same may)

-- by a row, which may be one packet
pub from_row : (late : Bool) (n number low first : ℕ) (o new : Outgoing) → late ≡ false → (first < number → low ≤ first) → AcksRow n number first o new → AcksFrom late number low first o new
from_row late n number low first o new early within (zero, count, down) =
    let same : first ≡ number = omega (arith, count) in
    inl (same, subst (λ b. AcksPacket b number o (Ok tt) new) (sym early) (subst (λ k. AcksPacket false k o (Ok tt) new) same (alone_packet n first o new down)))
from_row late n number low first o new early within (suc more, count, down) = inr (early, within (omega (arith, count)), n, more, count, down)

-- A pass

down_ahead : (q : Passing) (n first more end : ℕ) (o mid new : Outgoing) (result : Result (Unit {0}) NoMemory) → q.low ≤ first → first + more + 1 ≡ end → AcksDown n first more o mid → AcksAhead false (below_at q first) mid result new → AcksAhead false (below_at q end) o result new
down_ahead q n first zero end o mid new result le is acked rest = down_more false q first end o mid new result le (omega (arith, is)) (alone_packet n first o mid acked) rest
down_ahead q n first (suc more) end o mid new result le is (x, top, down) rest =
    let k = first + suc more in
    down_more false q k end o x new result (omega (arith, le)) is (alone_packet n k o x top) (down_ahead q n first more k x mid new result le (omega arith) down rest)

pub from_numbers : (late : Bool) (low number first : ℕ) (o mid new : Outgoing) (result : Result (Unit {0}) NoMemory) → low ≤ number → AcksFrom late number low first o mid → AcksAhead late (from_below low first) mid result new
    → AcksAhead late (from_below low (number + 1)) o result new
from_numbers late low number first o mid new result le (inl (is, packet)) rest =
    down_more late (from_below low 0) number (number + 1) o mid new result le refl packet (subst (λ k. AcksAhead late (from_below low k) mid result new) is rest)
from_numbers late low number first o mid new result le (inr (early, least, n, more, count, down)) rest =
    subst (λ b. AcksAhead b (from_below low (number + 1)) o result new) (sym early)
    (down_ahead (from_below low 0) n first (suc more) (number + 1) o mid new result least (omega (arith, count)) down (subst (λ b. AcksAhead b (from_below low first) mid result new) early rest))

-- where the pass gave a number
given_is : (p q : Passing) (r : Option ℕ) (number : ℕ) → r ≡ Some number → IfSome r (λ j. (q.below ≡ j) × (j < p.below)) → q.below ≡ number
given_is p q r number is below = (subst (λ x. IfSome x (λ j. (q.below ≡ j) × (j < p.below))) is below).0

-- the pass goes on below the lowest number
pub from_ahead : (late : Bool) (p q q' : Passing) (number first : ℕ) (o mid new : Outgoing) (r : Option ℕ) (result : Result (Unit {0}) NoMemory) → r ≡ Some number → (Falls p → IsNextNamed (held_out late o) p r q) → (Falls p → Falls q) → IfSome r (λ j. (q.below ≡ j) × (j < p.below))
    → q' ≡ record q { below = min q.below first } → AcksFrom late number q.low first o mid → AcksAhead late q' mid result new → AcksAhead late p o result new
from_ahead late p q q' number first o mid new r result is answer falls below moved (inl (same, packet)) rest =
    let at = given_is p q r number is below in
    let e : min q.below first ≡ q.below = omega (arith, at, same) in
    ahead_more late p q number o mid new result (λ f. goes_below (held_out late o) p q number r is (answer f)) falls at packet (subst (λ x. AcksAhead late x mid result new) (moved ∙ ap (below_at q) e) rest)
from_ahead late p q q' number first o mid new r result is answer falls below moved (inr (early, least, n, more, count, (x, top, down))) rest =
    let at = given_is p q r number is below in
    let e : min q.below first ≡ first = omega (arith, at, count) in
    let later = subst (λ b. AcksAhead b (below_at q first) mid result new) early (subst (λ y. AcksAhead late y mid result new) (moved ∙ ap (below_at q) e) rest) in
    ahead_more late p q number o x new result (λ f. goes_below (held_out late o) p q number r is (answer f)) falls at (subst (λ b. AcksPacket b number o (Ok tt) x) (sym early) (subst (λ k. AcksPacket false k o (Ok tt) x) count (alone_packet n (first + suc more) o x top)))
    (subst (λ b. AcksAhead b q x result new) (sym early) (down_ahead q n first more q.below x mid new result least (omega (arith, at, count)) down later))

-- An end

module _ (n first : ℕ) where
  idle_alone : (k : ℕ) (o x : Outgoing) → AcksAlone n k o x → IsIdle o → IsIdle x
  idle_alone k o x h idle = grind (arith, nat_tests, get_other-without_first, none_some)

  pub rest_row : (more : ℕ) (c : Core) (e : ByDir ℕ) (o : Outgoing) → IsAtRest c → AcksDown n first more c.outbox o → AreAllCounted c.limits.role c.recvs o.sends e → IsAtRest (record c { outbox = o; ended = e })
  rest_row zero c e o h (ch, alone, is) counted = rest_acked c h false first (Data n ch) o e (ap first_outgoing alone) is counted (idle_alone first c.outbox o (ch, alone, is) h.idle)
  rest_row (suc more) c e o h (x, (ch, alone, is), down) counted =
      let k = first + suc more in
      let mid_ended = recounted n (is_over c.limits.role c.recvs c.outbox.sends n) (is_over c.limits.role c.recvs x.sends n) c.ended in
      let mid_counted = piece_recounted c.limits.role c.recvs false k n (Data n ch) c.outbox x c.ended mid_ended _ _ refl is h.core.counts.counted refl refl refl in
      let mid = rest_acked c h false k (Data n ch) x mid_ended (ap first_outgoing alone) is mid_counted (idle_alone k c.outbox x (ch, alone, is) h.idle) in
      rest_row more (record c { outbox = x; ended = mid_ended }) e o mid down counted

pub rest_rowed : (n number first : ℕ) (c : Core) (e : ByDir ℕ) (o : Outgoing) → IsAtRest c → AcksRow n number first c.outbox o → AreAllCounted c.limits.role c.recvs o.sends e → IsAtRest (record c { outbox = o; ended = e })
rest_rowed n number first c e o h (more, count, down) counted = rest_row n first more c e o h down counted

-- What is told

full_less : (m : Records) (k : ℕ) → NoneEmpty m → NoneEmpty (without_first m k (fmap.get m k))
full_less m k full j is = grind (arith, nat_tests, get-without_first, rest_of)

full_alone : (n k : ℕ) (o x : Outgoing) → AcksAlone n k o x → NoneEmpty o.outstanding → NoneEmpty x.outstanding
full_alone n k o x (c, alone, is) full = subst (λ (y : Outgoing). NoneEmpty y.outstanding) (sym is) (full_less o.outstanding k full)

down_less : (n first more : ℕ) (o new : Outgoing) → AcksDown n first more o new → IsLess o new
down_less n first zero o new acked = less_packet false first o new (Ok tt) (alone_packet n first o new acked)
down_less n first (suc more) o new (x, top, down) = less_on o x new (less_packet false (first + suc more) o x (Ok tt) (alone_packet n (first + suc more) o x top)) (down_less n first more x new down)

pub from_less : (late : Bool) (number low first : ℕ) (o mid : Outgoing) → AcksFrom late number low first o mid → IsLess o mid
from_less late number low first o mid (inl (is, packet)) = less_packet late number o mid (Ok tt) packet
from_less late number low first o mid (inr (early, least, n, more, count, down)) = down_less n first (suc more) o mid down

pub from_le : (late : Bool) (number low first : ℕ) (o mid : Outgoing) → AcksFrom late number low first o mid → first ≤ number
from_le late number low first o mid h = grind (arith, nat_tests)

gives : (q : Passing) (n k end : ℕ) (o x : Outgoing) → q.low ≤ k → k + 1 ≡ end → AcksAlone n k o x → GivesNumber o.outstanding (below_at q end) k (below_at q k)
gives q n k end o x le is h = grind (arith, nat_tests)

module _ {S : Type 0} (R : S → ℕ → S → Type 0) where
  down_tells : (q : Passing) (n first more end : ℕ) (o mid new : Outgoing) (s u t : S) → q.low ≤ first → first + more + 1 ≡ end → NoneEmpty o.outstanding → AcksDown n first more o mid → FoldsTo R s (numbers_down first more) u → IsLess mid new → TellsAhead R (below_at q first) mid new u t
      → TellsAhead R (below_at q end) o new s t
  down_tells q n first zero end o mid new s u t le is full acked (v, one, same) less rest =
      tells_more R false (below_at q end) (below_at q first) first o mid new (Some first) s v t refl refl (λ falls. gives q n first end o mid le (omega (arith, is)) acked) (λ falls. falls) (refl, omega (arith, is)) full (alone_packet n first o mid acked) one less
      (subst (λ w. TellsAhead R (below_at q first) mid new w t) (sym same) rest)
  down_tells q n first (suc more) end o mid new s u t le is full (x, top, down) (v, one, later) less rest =
      let k = first + suc more in
      tells_more R false (below_at q end) (below_at q k) k o x new (Some k) s v t refl refl (λ falls. gives q n k end o x (omega (arith, le)) is top) (λ falls. falls) (refl, omega (arith, is)) full (alone_packet n k o x top) one (less_on x mid new (down_less n first more x mid down) less)
      (down_tells q n first more k x mid new v u t le (omega arith) (full_alone n k o x top full) down later less rest)

  pub from_told : (late : Bool) (p q q' : Passing) (number first : ℕ) (o mid new : Outgoing) (r : Option ℕ) (s u t : S) → late ≡ false → r ≡ Some number → (Falls p → IsNextNamed (held_out late o) p r q) → (Falls p → Falls q) → IfSome r (λ j. (q.below ≡ j) × (j < p.below))
      → q' ≡ record q { below = min q.below first } → NoneEmpty o.outstanding → IsLess mid new → TellsAhead R q' mid new u t → AcksFrom late number q.low first o mid → FoldsTo R s (numbers_down first (number - first)) u → TellsAhead R p o new s t
  from_told late p q q' number first o mid new r s u t early is answer falls below moved full less rest (inl (same, packet)) folds =
      let at = given_is p q r number is below in
      let none : number - first ≡ zero = omega (arith, same) in
      let e : min q.below first ≡ q.below = omega (arith, at, same) in
      let (v, one, end) = subst (λ j. FoldsTo R s (numbers_down first j) u) none folds in
      tells_more R late p q number o mid new r s v t early is answer falls below full packet (subst (λ k. R s k v) same one) less
      (subst (λ w. TellsAhead R q mid new w t) (sym end) (subst (λ y. TellsAhead R y mid new u t) (moved ∙ ap (below_at q) e) rest))
  from_told late p q q' number first o mid new r s u t early is answer falls below moved full less rest (inr (still, least, n, more, count, (x, top, down))) folds =
      let at = given_is p q r number is below in
      let many : number - first ≡ suc more = omega (arith, count) in
      let e : min q.below first ≡ first = omega (arith, at, count) in
      let (v, one, later) = subst (λ j. FoldsTo R s (numbers_down first j) u) many folds in
      tells_more R late p q number o x new r s v t early is answer falls below full (subst (λ b. AcksPacket b number o (Ok tt) x) (sym early) (subst (λ k. AcksPacket false k o (Ok tt) x) count (alone_packet n (first + suc more) o x top))) (subst (λ k. R s k v) count one)
      (less_on x mid new (down_less n first more x mid down) less)
      (down_tells q n first more q.below x mid new v u t least (omega (arith, at, count)) (full_alone n (first + suc more) o x top full) down later less (subst (λ y. TellsAhead R y mid new u t) (moved ∙ ap (below_at q) e) rest))

-- The numbers of a row are told one after the other

module _ {S : Type 0} (R : S → ℕ → S → Type 0) where
  pub down_next : (first last : ℕ) (s u t : S) → first < last → R s last u → FoldsTo R u (numbers_down first (last - 1 - first)) t → FoldsTo R s (numbers_down first (last - first)) t
  down_next first last s u t lt one later = grind (arith, nat_tests)
