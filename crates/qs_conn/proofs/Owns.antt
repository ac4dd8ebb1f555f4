-- The values that are kept of the connection's own items tell which of them were told, as limits and records change.
use Rattle.std.specs.FinMap as fmap
use Rattle.std.proofs.lemmas.Bool.Decides.{nat_tests}
use Rattle.std.proofs.Common.{List, arith, if◌then◌else◌, ◌≡◌, ◌≢◌, ℕ, Bool, true, false, ◌⊎◌, Option, None, Some, refl, sym, ap, ◌∙◌, subst, inl, inr, nat_cmp, ◌≤◌, ◌↔◌, IsTrue, Result, ◌<◌, nat_lt, length, zero, suc, replicate, slice_set, max}
use Rattle.std.proofs.lemmas.Bool.{cases_eq}
use Rattle.std.proofs.lemmas.Option.{none-some, same_Some}
use Rattle.qs_send.specs.declared.piece.Item.{Item}
use Rattle.qs_send.specs.declared.piece.Piece.{Piece}
use Rattle.qs_send.specs.declared.piece.Piece.TheVariants.{Told, Data}
use Rattle.qs_machine.specs.Tables.{Tables}
use Rattle.qs_machine.specs.Ends.{Records, AckedItems, End, no_items}
use Rattle.qs_machine.specs.Acked.{HasAcked, greatest, with_item}
use Rattle.qs_machine.proofs.LostSent.{lost_carried}
use Rattle.qs_send.proofs.Outstanding.{carried-without_first}
use Rattle.qs_machine.specs.Outgoing.{AreApartIn, Apart, Outgoing, IsCarried, IsAckedOut, no_packets, items_acked, first_piece, first_acked_out, first_lost_out, acked_at}
use Rattle.qs_machine.proofs.Apart.{gone_apart}
use Rattle.qs_machine.proofs.Carried.{IsShorter, with_piece, carried_more, carried_new, carried_is, carried_before, carried_still, shortened_is}
use Rattle.qs_conn.proofs.Untolds.{acked_out}
use Rattle.qs_conn.proofs.Dues.{came, first_is, told_same}
use Rattle.qs_conn.proofs.DuePackets.{kind_tells, left_as, left_is, out_less, out_still}
use Rattle.qs_conn.specs.Due.{AreDue, IsMarkedAt, IsToldIn, Packets, packets_of, marks_of}
use Rattle.qs_conn.specs.declared.due.Kind.{Kind}
use Rattle.qs_conn.specs.declared.due.Slot.{Slot}
use Rattle.qs_conn.specs.declared.due.Kind.TheVariants as kinds
use Rattle.qs_conn.specs.Filling.{slot_at}
use Rattle.std.specs.Result.{OnErr}
use Rattle.qs_recv.specs.Lane.{RecvLane}
use Rattle.qs_send.specs.declared.parts.Chunk.{Chunk}
use Rattle.qs_send.specs.declared.piece.Item.TheVariants.{MaxData, MaxStreamData, ResetStream, StopSending, StreamDataBlocked, MaxStreams, DataBlocked, StreamsBlocked}
use Rattle.qs_machine.specs.Due.{IsCurrent, IsCovered}
use Rattle.qs_machine.specs.FrameStep.{without_first}
use Rattle.qs_conn.specs.declared.limits.Limits.{Limits}
use Rattle.qs_conn.specs.declared.by_dir.ByDir.{ByDir}
use Rattle.qs_conn.specs.Filling.{end_by, slot_of}
use Rattle.qs_conn.specs.Runs.{held_out}
use Rattle.std.proofs.Math.ListN.{set}
use Rattle.std.proofs.lemmas.List.{length-set, get_or-set_same, get_or-set_other, get_or-replicate}
use Rattle.qs_wire.specs.declared.stream_id.Dir.TheVariants.{Bidi, Uni}
use Rattle.qs_conn.specs.OwnTold.{Kept, own_place, own_value, present_at, kept_at, has_own, own_with, own_without, own_left, WasTold, IsOwn, AreOwn}

-- Whether an item is covered

module _ (l : Limits) (recvs : Tables RecvLane) (o : Outgoing) (e : End) (i : Item) where
  pub covered_no : (b r : Bool) → (b ≡ true → r ≡ true) → (b ≡ false → IsCarried o.outstanding (Told i) → ⊥) → (b ≡ false → IsTrue r ↔ IsAckedOut o i) → r ≡ false → IsCovered (end_by l recvs o e) i → ⊥
  covered_no b r on free acked is c = grind (arith, nat_tests)

-- An item of the connection itself is told by its place and its value

abbrev item_at : (k v : ℕ) → Item
item_at zero v = MaxData v
item_at (suc zero) v = MaxStreams Bidi v
item_at (suc (suc zero)) v = MaxStreams Uni v
item_at (suc (suc (suc zero))) v = DataBlocked v
item_at (suc (suc (suc (suc zero)))) v = StreamsBlocked Bidi v
item_at (suc (suc (suc (suc (suc k))))) v = StreamsBlocked Uni v

at_own : (i : Item) → own_place i < 6 → item_at (own_place i) (own_value i) ≡ i
at_own i own = grind (arith, nat_tests)

own_same : (i j : Item) → own_place i < 6 → own_place j < 6 → own_place i ≡ own_place j → own_value i ≡ own_value j → i ≡ j
own_same i j own other place value = sym (at_own i own) ∙ ap (λ k. item_at k (own_value i)) place ∙ ap (item_at (own_place j)) value ∙ at_own j other

-- a current one has the present value
pub own_present : (l : Limits) (recvs : Tables RecvLane) (o : Outgoing) (e : End) (i : Item) → own_place i < 6 → IsCurrent (end_by l recvs o e) i → own_value i ≡ present_at l (own_place i)
own_present l recvs o e i own c = grind (arith, nat_tests)

-- What is kept

own_yes : (i : Item) (xs : Kept) → has_own i xs ≡ true → (own_place i < 6) × (kept_at xs (own_place i) ≡ Some (own_value i))
own_yes i xs = grind (arith, nat_tests)

own_no : (i : Item) (xs : Kept) → own_place i < 6 → has_own i xs ≡ false → kept_at xs (own_place i) ≡ Some (own_value i) → ⊥
own_no i xs own = grind (arith, nat_tests)

set_here : (xs : Kept) (i : ℕ) (x : Option ℕ) → length xs ≡ 6 → i < 6 → kept_at (slice_set xs i x) i ≡ x
set_here xs i x len lt = get_or-set_same xs i x None (omega (arith, len, lt))

module _ (t : Limits) (p : Packets) (xs : Kept) (h : AreOwn t p xs) where
  -- limits rise, or stay
  pub own_risen : (now : Limits) → t.granted ≤ now.granted → t.granted_streams.bidi ≤ now.granted_streams.bidi → t.granted_streams.uni ≤ now.granted_streams.uni → t.known_data ≤ now.known_data → t.known_streams.bidi ≤ now.known_streams.bidi → t.known_streams.uni ≤ now.known_streams.uni → AreOwn now p xs
  own_risen now a b d f g e = record { places = h.places; each = λ i own. one i own (rises (own_place i) own) }
    where
      rises : (k : ℕ) → k < 6 → present_at t k ≤ present_at now k
      rises k lt = grind (arith, nat_tests)

      one : (i : Item) → own_place i < 6 → present_at t (own_place i) ≤ present_at now (own_place i) → IsOwn now p xs i
      one i own up =
          let was = h.each i own in
          record {
            within = λ is. (let le = was.within is in omega (arith, le, up));
            below = λ put. (let le = was.below put in omega (arith, le, up));
            told = λ is now_is. (let le = was.within is in was.told is (omega (arith, le, up, now_is)));
            found = λ out now_is. (let le = was.below (inl out) in was.found out (omega (arith, le, up, now_is)));
          }

  -- the count at which an open was blocked is no present value
  pub own_wanted : (wanted : ByDir (Option ℕ)) → AreOwn (record t { wanted_streams = wanted }) p xs
  own_wanted wanted = own_risen (record t { wanted_streams = wanted }) (omega arith) (omega arith) (omega arith) (omega arith) (omega arith) (omega arith)

  -- Pieces come

  other_put : (k : ℕ) (x : Piece) → ((i : Item) → own_place i < 6 → Told i ≡ x → ⊥) → AreOwn t (came k x p) xs
  other_put k x other = record { places = h.places; each = one }
    where
      back : (i : Item) → own_place i < 6 → IsCarried (with_piece p.out k x) (Told i) → IsCarried p.out (Told i)
      back i own out = elim (carried_is p.out k x (Told i) out) [ inl was ↦ was | inr e ↦ absurd (other i own e) ]

      one : (i : Item) → own_place i < 6 → IsOwn t (came k x p) xs i
      one i own =
          let was = h.each i own in
          record {
            within = was.within;
            below = λ put. elim put [ inl out ↦ was.below (inl (back i own out)) | inr earlier ↦ was.below (inr earlier) ];
            told = λ is now. elim (was.told is now) [ inl out ↦ inl (carried_more p.out k x (Told i) out) | inr noted ↦ inr noted ];
            found = λ out. was.found (back i own out);
          }

  pub own_chunk : (k n : ℕ) (c : Chunk) → AreOwn t (came k (Data n c) p) xs
  own_chunk k n c = other_put k (Data n c) (λ i own e. absurd (cc (e)))

  -- an item has its present value as it comes
  pub own_put : (k : ℕ) (i : Item) → (own_place i < 6 → own_value i ≡ present_at t (own_place i)) → AreOwn t (came k (Told i) p) (own_with i xs)
  own_put k i present = go (nat_lt (own_place i) 6) refl
    where
      go : (b : Bool) → nat_lt (own_place i) 6 ≡ b → AreOwn t (came k (Told i) p) (if b then slice_set xs (own_place i) (Some (own_value i)) else xs)
      go false e = other_put k (Told i) (λ j own is. (let le = subst (λ x. own_place x < 6) (told_same j i is) own in grind (arith, nat_tests, e, le)))
      go true e = record { places = length-set xs (own_place i) (Some (own_value i)) ∙ h.places; each = λ j own. one j own (cases_eq (own_place j) (own_place i)) }
        where
          here : own_place i < 6
          here = grind (arith, nat_tests, e)

          now : Kept
          now = slice_set xs (own_place i) (Some (own_value i))

          kept : (j : Item) → own_place j ≡ own_place i → kept_at now (own_place j) ≡ Some (own_value i)
          kept j place = ap (kept_at now) place ∙ set_here xs (own_place i) (Some (own_value i)) h.places here

          one : (j : Item) → own_place j < 6 → (own_place j ≡ own_place i) ⊎ (own_place j ≢ own_place i) → IsOwn t (came k (Told i) p) now j
          one j own (inl place) =
              let is_present : own_value i ≡ present_at t (own_place j) = present here ∙ sym (ap (present_at t) place) in
              let same : kept_at now (own_place j) ≡ Some (own_value j) → own_value i ≡ own_value j = λ is. same_Some _ _ (sym (kept j place) ∙ is) in
              record {
                within = λ is. (let e = same is in omega (arith, e, is_present));
                below = λ put. elim put [
                  | inl out ↦ elim (carried_is p.out k (Told i) (Told j) out) [ inl was ↦ (h.each j own).below (inl was) | inr e ↦ (let e_is = ap own_value (told_same j i e) ∙ is_present in omega (arith, e_is)) ]
                  | inr earlier ↦ (h.each j own).below (inr earlier)
                ];
                told = λ is now. inl (subst (λ x. IsCarried (with_piece p.out k (Told i)) (Told x)) (own_same i j here own (sym place) (same is)) (carried_new p.out k (Told i)));
                found = λ out is. kept j place ∙ ap Some (is_present ∙ sym is);
              }
          one j own (inr ne) =
              let was = h.each j own in
              let stays : kept_at now (own_place j) ≡ kept_at xs (own_place j) = get_or-set_other xs (own_place i) (own_place j) (Some (own_value i)) None ne in
              let back : IsCarried (with_piece p.out k (Told i)) (Told j) → IsCarried p.out (Told j) = λ out. elim (carried_is p.out k (Told i) (Told j) out) [ inl was ↦ was | inr e ↦ absurd (ne (ap own_place (told_same j i e))) ] in
              record {
                within = λ is. was.within (sym stays ∙ is);
                below = λ put. elim put [ inl out ↦ was.below (inl (back out)) | inr earlier ↦ was.below (inr earlier) ];
                told = λ is now. elim (was.told (sym stays ∙ is) now) [ inl out ↦ inl (carried_more p.out k (Told i) (Told j) out) | inr noted ↦ inr noted ];
                found = λ out is. stays ∙ was.found (back out) is;
              }

  -- The first piece of a packet leaves it, and what was told by then stays told

  module _ (p' : Packets) (x : Piece) (less : (y : Piece) → IsCarried p'.out y → IsCarried p.out y) (still : (y : Piece) → IsCarried p.out y → (y ≡ x) ⊎ IsCarried p'.out y) (put : (i : Item) → own_place i < 6 → WasTold p' i → WasTold p i) where
    -- it is acknowledged
    own_noted : ((i : Item) → own_place i < 6 → ((j : Item) → own_place j ≡ own_place i → (Told j ≡ x) ⊎ HasAcked p.acked j → own_value j ≤ own_value i) → (Told i ≡ x) ⊎ HasAcked p.acked i → HasAcked p'.acked i)
        → ((j : Item) → Told j ≡ x → WasTold p j) → AreOwn t p' xs
    own_noted noted there = record { places = h.places; each = one }
      where
        one : (i : Item) → own_place i < 6 → IsOwn t p' xs i
        one i own =
            let was = h.each i own in
            record {
              within = was.within;
              below = λ told. was.below (put i own told);
              told = λ is now. (
                  let within : (j : Item) → own_place j ≡ own_place i → (Told j ≡ x) ⊎ HasAcked p.acked j → own_value j ≤ own_value i =
                  λ j place by. (
                  let le : own_value j ≤ present_at t (own_place j) = (h.each j (subst (λ k. k < 6) (sym place) own)).below (elim by [ inl e ↦ there j e | inr was_noted ↦ inr (inr was_noted) ]) in
                  let e = ap (present_at t) place in
                  omega (arith, le, e, now)) in
                  elim (was.told is now) [
                    | inl out ↦ elim (still (Told i) out) [ inl e ↦ inr (noted i own within (inl e)) | inr out' ↦ inl out' ]
                    | inr was_noted ↦ inr (noted i own within (inr was_noted))
                  ]);
              found = λ out. was.found (less (Told i) out);
            }

    -- it is lost
    module _ (acked : p'.acked ≡ p.acked) (apart : (y : Piece) → IsCarried p'.out y → Apart x y) where
      told_still : (i : Item) → (Told i ≡ x → ⊥) → IsToldIn p i → IsToldIn p' i
      told_still i other (inl out) = elim (still (Told i) out) [ inl e ↦ absurd (other e) | inr out' ↦ inl out' ]
      told_still i other (inr noted) = inr (subst (λ a. HasAcked a i) (sym acked) noted)

      other_gone : ((i : Item) → own_place i < 6 → kept_at xs (own_place i) ≡ Some (own_value i) → Told i ≡ x → ⊥) → AreOwn t p' xs
      other_gone other = record { places = h.places; each = one }
        where
          one : (i : Item) → own_place i < 6 → IsOwn t p' xs i
          one i own =
              let was = h.each i own in
              record {
                within = was.within;
                below = λ told. was.below (put i own told);
                told = λ is now. told_still i (other i own is) (was.told is now);
                found = λ out. was.found (less (Told i) out);
              }

      item_gone : (i : Item) → x ≡ Told i → AreOwn t p' (own_without i xs)
      item_gone i is_x = go (has_own i xs) refl
        where
          go : (b : Bool) → has_own i xs ≡ b → AreOwn t p' (if b then slice_set xs (own_place i) None else xs)
          go false e = other_gone (λ j own is out. (let same = told_same j i (out ∙ is_x) in own_no j xs own (ap (λ y. has_own y xs) same ∙ e) is))
          go true e = record { places = length-set xs (own_place i) None ∙ h.places; each = λ j own. one j own (cases_eq (own_place j) (own_place i)) }
            where
              here : own_place i < 6
              here = (own_yes i xs e).0

              now : Kept
              now = slice_set xs (own_place i) None

              one : (j : Item) → own_place j < 6 → (own_place j ≡ own_place i) ⊎ (own_place j ≢ own_place i) → IsOwn t p' now j
              one j own (inl place) =
                  let was = h.each j own in
                  let none : kept_at now (own_place j) ≡ None = ap (kept_at now) place ∙ set_here xs (own_place i) None h.places here in
                  record {
                    within = λ is. absurd (none-some (own_value j) (sym none ∙ is));
                    below = λ told. was.below (put j own told);
                    told = λ is. absurd (none-some (own_value j) (sym none ∙ is));
                    found = λ out is.
                        (let same = own_same i j here own (sym place) (same_Some _ _ (sym (own_yes i xs e).1 ∙ sym (ap (kept_at xs) place) ∙ was.found (less (Told j) out) is)) in
                        absurd (subst (λ q. Apart q (Told j)) (is_x ∙ ap Told same) (apart (Told j) out) refl));
                  }
              one j own (inr ne) =
                  let was = h.each j own in
                  let stays : kept_at now (own_place j) ≡ kept_at xs (own_place j) = get_or-set_other xs (own_place i) (own_place j) None None ne in
                  record {
                    within = λ is. was.within (sym stays ∙ is);
                    below = λ told. was.below (put j own told);
                    told = λ is present. told_still j (λ same. ne (ap own_place (told_same j i (same ∙ is_x)))) (was.told (sym stays ∙ is) present);
                    found = λ out is. stays ∙ was.found (less (Told j) out) is;
                  }

      own_gone : AreOwn t p' (own_left x xs)
      own_gone = go x refl
        where
          go : (q : Piece) → x ≡ q → AreOwn t p' (own_left q xs)
          go (Data n c) is = other_gone (λ i own kept e. absurd (cc (e, is)))
          go (Told i) is = item_gone i is

-- no packet told anything
pub own_new : (t : Limits) (o : Outgoing) (xs : Kept) → o ≡ no_packets → xs ≡ replicate 6 None → AreOwn t (packets_of o) xs
own_new t o xs empty none =
    rw (empty, none)
    (record { places = refl; each = λ i own. record { within = λ is. absurd (none-some (own_value i) (sym (get_or-replicate 6 (own_place i) None None own) ∙ is)); below = λ put. absurd (nothing i own put); told = λ is. absurd (none-some (own_value i) (sym (get_or-replicate 6 (own_place i) None None own) ∙ is)); found = λ out. absurd (nothing i own (inl out)) } })
  where
    no_piece : (x : Piece) → IsCarried fmap.empty x → ⊥
    no_piece x (k, ps, there, among) = none-some ps (sym (fmap.get-empty nat_cmp k) ∙ there)

    nothing : (i : Item) → own_place i < 6 → WasTold (packets_of no_packets) i → ⊥
    nothing i own (inl out) = no_piece (Told i) out
    nothing i own (inr (inl lost)) = no_piece (Told i) lost
    nothing i own (inr (inr noted)) = none_noted i own noted
      where
        none_noted : (i : Item) → own_place i < 6 → HasAcked no_items i → ⊥
        none_noted i own noted = grind (arith, nat_tests)

-- Pieces are acknowledged and lost

-- the greatest acknowledged value of a kind
abbrev noted_at : AckedItems → ℕ → Option ℕ
noted_at a zero = a.max_data
noted_at a (suc zero) = a.bidi_streams
noted_at a (suc (suc zero)) = a.uni_streams
noted_at a (suc (suc (suc zero))) = a.data_blocked
noted_at a (suc (suc (suc (suc zero)))) = a.bidi_blocked
noted_at a (suc (suc (suc (suc (suc k))))) = a.uni_blocked

noted_here : (a : AckedItems) (i : Item) → own_place i < 6 → HasAcked a i → noted_at a (own_place i) ≡ Some (own_value i)
noted_here a i own noted = grind (arith, nat_tests)

here_noted : (a : AckedItems) (i : Item) → own_place i < 6 → noted_at a (own_place i) ≡ Some (own_value i) → HasAcked a i
here_noted a i own at = grind (arith, nat_tests)

place_at : (k v : ℕ) → k < 6 → own_place (item_at k v) ≡ k
place_at k v lt = grind (arith, nat_tests)

value_at : (k v : ℕ) → own_value (item_at k v) ≡ v
value_at k v = grind (arith, nat_tests)

at_noted : (a : AckedItems) (k v : ℕ) → k < 6 → noted_at a k ≡ Some v → HasAcked a (item_at k v)
at_noted a k v lt at = here_noted a (item_at k v) (subst (λ j. j < 6) (sym (place_at k v lt)) lt) (ap (noted_at a) (place_at k v lt) ∙ at ∙ ap Some (sym (value_at k v)))

noted_same : (j : Item) (a : AckedItems) → own_place j < 6 → noted_at (with_item j a) (own_place j) ≡ greatest (noted_at a (own_place j)) (own_value j)
noted_same j a own = grind (arith, nat_tests)

noted_other : (j : Item) (a : AckedItems) (k : ℕ) → k < 6 → own_place j ≢ k → noted_at (with_item j a) k ≡ noted_at a k
noted_other j a k lt ne = grind (arith, nat_tests)

greatest_keeps : (known : Option ℕ) (w v : ℕ) → ((u : ℕ) → known ≡ Some u → u ≤ v) → w ≤ v → (w ≡ v) ⊎ (known ≡ Some v) → greatest known w ≡ Some v
greatest_keeps known w v within le by = grind (arith, nat_tests, max)

-- what is known of an item once a piece is acknowledged
noted_is : (x : Piece) (a : AckedItems) (i : Item) → own_place i < 6 → HasAcked (items_acked x a) i → HasAcked a i ⊎ (Told i ≡ x)
noted_is x a i own noted = grind (arith, nat_tests)

noted_still : (x : Piece) (a : AckedItems) (i : Item) → own_place i < 6 → ((j : Item) → own_place j ≡ own_place i → (Told j ≡ x) ⊎ HasAcked a j → own_value j ≤ own_value i) → (Told i ≡ x) ⊎ HasAcked a i → HasAcked (items_acked x a) i
noted_still (Data n c) a i own within (inl e) = absurd (cc (e))
noted_still (Data n c) a i own within (inr noted) = noted
noted_still (Told j) a i own within told = elim (cases_eq (own_place j) (own_place i)) [
  | inl place ↦ (
      let known : (u : ℕ) → noted_at a (own_place i) ≡ Some u → u ≤ own_value i =
      λ u at. subst (λ w. w ≤ own_value i) (value_at (own_place i) u) (within (item_at (own_place i) u) (place_at (own_place i) u own) (inr (at_noted a (own_place i) u own at))) in
      let less : own_value j ≤ own_value i = within j place (inl refl) in
      let by : (own_value j ≡ own_value i) ⊎ (noted_at a (own_place i) ≡ Some (own_value i)) = elim told [ inl e ↦ inl (sym (ap own_value (told_same i j e))) | inr noted ↦ inr (noted_here a i own noted) ] in
      here_noted (with_item j a) i own (ap (noted_at (with_item j a)) (sym place) ∙ noted_same j a (subst (λ k. k < 6) (sym place) own) ∙ ap (λ k. greatest (noted_at a k) (own_value j)) place ∙ greatest_keeps (noted_at a (own_place i)) (own_value j) (own_value i) known less by)
      )
  | inr ne ↦ elim told [
    | inl e ↦ absurd (ne (sym (ap own_place (told_same i j e))))
    | inr noted ↦ here_noted (with_item j a) i own (noted_other j a (own_place i) own ne ∙ noted_here a i own noted)
  ]
]

module _ (k : ℕ) (x : Piece) (t : Limits) (o new : Outgoing) (xs : Kept) (h : AreOwn t (packets_of o) xs) where
  abbrev gone : Records
  gone = without_first o.outstanding k (fmap.get o.outstanding k)

  pub own_acked : (late : Bool) → first_piece (fmap.get (held_out late o) k) ≡ Some x → new ≡ first_acked_out (acked_at late k x) o → AreOwn t (packets_of new) xs
  own_acked late at is =
      rw (is, left_is o k x late)
      (own_noted t (packets_of o) xs h (left_as o k x late) x (out_less o k x late at) (out_still o k x late at) (put late at) (noted_still x o.acked) (there late at))
    where
      there : (late : Bool) → first_piece (fmap.get (held_out late o) k) ≡ Some x → (j : Item) → Told j ≡ x → WasTold (packets_of o) j
      there false at j is = inl (subst (IsCarried o.outstanding) (sym is) (first_is o.outstanding k x at))
      there true at j is = inr (inl (subst (IsCarried o.lost.pieces) (sym is) (first_is o.lost.pieces k x at)))

      put : (late : Bool) → first_piece (fmap.get (held_out late o) k) ≡ Some x → (i : Item) → own_place i < 6 → WasTold (left_as o k x late) i → WasTold (packets_of o) i
      put late at i own (inl out) = inl (out_less o k x late at (Told i) out)
      put true at i own (inr (inl lost)) = inr (inl (carried-without_first o.lost.pieces k (Told i) lost))
      put false at i own (inr (inl lost)) = inr (inl lost)
      put late at i own (inr (inr noted)) = elim (noted_is x o.acked i own noted) [ inl was ↦ inr (inr was) | inr is ↦ there late at i is ]

  pub own_lost : AreApartIn o.outstanding → first_piece (fmap.get o.outstanding k) ≡ Some x → new ≡ first_lost_out k x o → AreOwn t (packets_of new) (own_left x xs)
  own_lost apart at is =
      rw is
      (own_gone t (packets_of o) xs h (packets_of (first_lost_out k x o)) x (carried_before o.outstanding _ k x short) (carried_still o.outstanding _ k x short) put refl (gone_apart o.outstanding _ k x short apart))
    where
      short : IsShorter o.outstanding k x gone
      short = shortened_is o.outstanding k x at

      put : (i : Item) → own_place i < 6 → WasTold (packets_of (first_lost_out k x o)) i → WasTold (packets_of o) i
      put i own (inl out) = inl (carried_before o.outstanding _ k x short (Told i) out)
      put i own (inr (inl lost)) = elim (lost_carried k x o.lost (Told i) lost) [ inl was ↦ inr (inl was) | inr e ↦ inl (subst (IsCarried o.outstanding) (sym e) (first_is o.outstanding k x at)) ]
      put i own (inr (inr noted)) = inr (inr noted)

-- What is kept tells what is covered

module _ (l : Limits) (recvs : Tables RecvLane) (o : Outgoing) (e : End) (xs : Kept) (h : AreOwn l (packets_of o) xs) where
  abbrev there : End
  there = end_by l recvs o e

  told_in : (i : Item) → IsToldIn (packets_of o) i → IsCovered there i
  told_in i told = elim told [ inl out ↦ inl out | inr noted ↦ inr (acked_out l recvs o e i (noted_out i noted)) ]
    where
      noted_out : (i : Item) → HasAcked o.acked i → IsAckedOut o i
      noted_out i noted = grind (arith, nat_tests)

  -- a present item that is kept is
  kept_covered : (i : Item) → has_own i xs ≡ true → own_value i ≡ present_at l (own_place i) → IsCovered there i
  kept_covered i has now = told_in i ((h.each i (own_yes i xs has).0).told (own_yes i xs has).1 now)

-- an item is of the connection itself, or of a half
item_slot : (i : Item) → (own_place i < 6) ⊎ ((kind : Kind) × (n : ℕ) × (slot_of i ≡ slot_at kind n))
item_slot (MaxStreamData n m) = inr (kinds.MaxStreamData, n, refl)
item_slot (ResetStream n code size) = inr (kinds.ResetStream, n, refl)
item_slot (StopSending n code) = inr (kinds.StopSending, n, refl)
item_slot (StreamDataBlocked n m) = inr (kinds.StreamDataBlocked, n, refl)
item_slot (MaxStreams Bidi m) = inl (omega arith)
item_slot (MaxStreams Uni m) = inl (omega arith)
item_slot (StreamsBlocked Bidi m) = inl (omega arith)
item_slot (StreamsBlocked Uni m) = inl (omega arith)
item_slot _ = inl (omega arith)

was_acked : (r : Bool) (A : Type 0) → r ≡ true → IsTrue r ↔ A → A
was_acked r A on is = grind (arith, nat_tests)

not_acked : (r : Bool) (A : Type 0) → r ≡ false → IsTrue r ↔ A → A → ⊥
not_acked r A off is a = grind (arith, nat_tests)

-- and so do the marks of halves
module _ (l : Limits) (recvs : Tables RecvLane) (o : Outgoing) (e : End) (xs : Kept) (t : Tables (List ℕ)) (h : AreOwn l (packets_of o) xs) (due : AreDue l.role l.settings recvs o.sends (packets_of o) t) (i : Item) (r : Bool) (on : has_own i xs ≡ true → r ≡ true) (acked : has_own i xs ≡ false → IsTrue r ↔ IsAckedOut o i) where
  pub told_covered : IsCurrent (end_by l recvs o e) i → r ≡ true → IsCovered (end_by l recvs o e) i
  told_covered current is = go (has_own i xs) refl
    where
      go : (b : Bool) → has_own i xs ≡ b → IsCovered (end_by l recvs o e) i
      go true has = kept_covered l recvs o e xs h i has (own_present l recvs o e i (own_yes i xs has).0 current)
      go false none = inr (acked_out l recvs o e i (was_acked r _ is (acked none)))

  pub told_uncovered : (slot : Slot) → slot_of i ≡ slot → IsMarkedAt t slot → IsCurrent (end_by l recvs o e) i → r ≡ false → IsCovered (end_by l recvs o e) i → ⊥
  told_uncovered slot at marked current off = covered_no l recvs o e i (has_own i xs) r on not_out acked off
    where
      not_out : has_own i xs ≡ false → IsCarried o.outstanding (Told i) → ⊥
      not_out none out = elim (item_slot i) [
        | inl own ↦ own_no i xs own none ((h.each i own).found out (own_present l recvs o e i own current))
        | inr (kind, n, is) ↦ (kind_tells l recvs o e t due n kind i is current).1 (marked kind n (sym at ∙ is)) (not_acked r _ off (acked none)) out
      ]

-- a slot of a half with a mark
pub marked_at : (t : Tables (List ℕ)) (kind : Kind) (n : ℕ) → marks_of kind t n ≡ true → IsMarkedAt t (slot_at kind n)
marked_at t kind n is = grind (arith, nat_tests)

-- Refusals

pub on_err : {A E : Type 0} (r : Result A E) (P : Type 0) → P → OnErr r P
on_err r P p = grind (arith, nat_tests)

pub on_err_by : {A E : Type 0} (r : Result A E) (P Q : Type 0) → (P → Q) → OnErr r P → OnErr r Q
on_err_by r P Q f p = grind (arith, nat_tests)
