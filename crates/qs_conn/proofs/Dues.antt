-- The marks of what may be due of halves stay right, as halves, packets and marks change.
use Rattle.std.specs.FinMap as fmap
use Rattle.std.proofs.lemmas.Bool.Decides.{nat_tests}
use Rattle.std.proofs.Common.{if◌then◌else◌, arith, ◌≡◌, ◌≢◌, is_none, not, ℕ, Bool, true, false, ◌⊎◌, cond, Option, None, Some, is_some, option_map, unwrap_or, refl, sym, ap, ◌∙◌, subst, inl, inr, ◌%◌, ◌≤◌, ◌==◌, ◌+◌, take, ◌<◌, List, length}
use Rattle.std.proofs.lemmas.Bool.{true≢false, eqb-true, eqb-false, cases_eq}
use Rattle.std.proofs.lemmas.Option.{none-some, same_Some}
use Rattle.qs_machine.specs.Sums.{or_none}
use Rattle.qs_send.specs.Records.{IsCarried}
use Rattle.qs_send.specs.declared.piece.Item.{Item}
use Rattle.qs_send.specs.declared.piece.Item.TheVariants.{MaxData, MaxStreamData, ResetStream, StopSending, StreamDataBlocked}
use Rattle.qs_send.specs.declared.piece.Piece.{Piece}
use Rattle.qs_send.specs.declared.piece.Piece.TheVariants.{Told, Data}
use Rattle.qs_send.specs.declared.parts.Reset.{Reset}
use Rattle.qs_machine.specs.Tables.{Tables, lookup, updated, no_streams, open_to, each, table, with_table}
use Rattle.qs_machine.specs.Ends.{Records, first_window_by}
use Rattle.qs_machine.specs.Heard.{is_told}
use Rattle.qs_machine.specs.Outgoing.{AreApartIn, Apart, IsBlockedAt, first_piece}
use Rattle.qs_machine.proofs.Apart.{gone_apart}
use Rattle.qs_machine.proofs.Carried.{IsShorter, with_piece, carried_more, carried_new, carried_is, carried_before, carried_still, first_carried, shortened_is}
use Rattle.qs_machine.proofs.LanesAgain.{window_after}
use Rattle.qs_machine.proofs.TableLaws.{lookup_each, lookup_open, slots_each}
use Rattle.qs_machine.proofs.Ties.{nowhere, closed_at}
use Rattle.qs_recv.specs.Lane.{RecvLane, is_whole, stop, stop_and_discard, set_window, raise, new_lane as new_recv_lane}
use Rattle.qs_recv.specs.declared.credit.Share.{Share}
use Rattle.qs_send.specs.Lane.{SendLane, write_lane, sent_lane, allow_lane, new_lane as new_send_lane, reset_lane, stop_taken}
use Rattle.qs_send.specs.declared.parts.Chunk.{Chunk}
use Rattle.qs_wire.specs.declared.stream_id.Role.{Role}
use Rattle.qs_calls.specs.declared.settings.Settings.{Settings}
use Rattle.qs_conn.specs.declared.due.Kind.TheVariants as kinds
use Rattle.qs_conn.specs.Layers.{stop_to_tell}
use Rattle.qs_conn.specs.Due.{Packets, WasPut, IsToldIn, TellsStop, TellsLimit, TellsReset, TellsBlock, HasStop, IsWithinLimit, HasReset, HasBlocked, IsRightAt, AreRight, AreDue, HavePlaces, StayMarked, marks_of, row_of, reset_at, recv_limit, is_limit, is_present, is_same, IsItemMarked, IsMarkedIf, IsDueWithout, IsBlockedBy, IsNotedBlock}
use Rattle.qs_streams.specs.Flags.{HasMorePlaces, HasPlace, IsFlaggedAt, flag}
use Rattle.qs_streams.proofs.BoardsOf.{flagged_here, flagged_others, moves_row}
use Rattle.qs_conn.proofs.Untolds.{updated_here, updated_other, slots_changed, opened_some, stop_some, stop_of}
use Rattle.qs_conn.proofs.Hearing.{window_same}

pub told_same : (i j : Item) → Told i ≡ Told j → i ≡ j
told_same i j e = cc e

-- One stream

module _ {L V : Type 0} (at : ℕ → V → Item) (Tells : ℕ → L → V → Type 0) (Within : L → V → Type 0) (n : ℕ) where
  abbrev At : Packets → Bool → Option L → Type 0
  At p = IsRightAt at Tells Within p n

  -- a packet in flight told it
  abbrev Out : Packets → V → Type 0
  Out p v = IsCarried p.out (Told (at n v))

  module _ (p : Packets) where
    -- a half changes, and has no more to tell
    at_kept : (b : Bool) (x : Option L) (f : L → L) → ((l : L) (v : V) → x ≡ Some l → Within l v → Within (f l) v) → ((l : L) (v : V) → x ≡ Some l → Tells n (f l) v → Tells n l v) → At p b x → At p b (option_map f x)
    at_kept b None f w t h = h
    at_kept b (Some l) f w t h = (λ v put. w l v refl (h.0 v put), λ on v tells. h.1 on v (t l v refl tells), λ off v tells. h.2 off v (t l v refl tells))

    -- it has something to tell that no packet told, and a mark
    at_risen : (b : Bool) (l m : L) → ((v : V) → Within l v → Within m v) → ((v : V) → Within l v → Tells n m v → ⊥) → At p b (Some l) → At p true (Some m)
    at_risen b l m w r h = (λ v put. w v (h.0 v put), λ on v tells out. r v (h.0 v (inl out)) tells, λ off. absurd (true≢false off))

    -- what it has to tell was told, and its mark goes
    at_told : (b : Bool) (l : L) → ((v : V) → Tells n l v → IsToldIn p (at n v)) → At p b (Some l) → At p false (Some l)
    at_told b l t h = (h.0, λ on. absurd (true≢false (sym on)), λ off v tells. t v tells)

    -- a half begins with nothing to tell
    at_begun : (b c : Bool) (l : L) → ((v : V) → Tells n l v → ⊥) → At p b None → At p c (Some l)
    at_begun b c l none h = (λ v put. absurd (h v put), λ on v tells. absurd (none v tells), λ off v tells. absurd (none v tells))

  module _ (p q : Packets) where
    -- packets move, and what was told is told still
    at_other : (b : Bool) (x : Option L) → ((v : V) → WasPut q (at n v) → WasPut p (at n v)) → ((v : V) → Out q v → Out p v) → ((l : L) (v : V) → x ≡ Some l → Tells n l v → ((w : V) → WasPut p (at n w) → Within l w) → IsToldIn p (at n v) → IsToldIn q (at n v)) → At p b x → At q b x
    at_other b None put out told h = λ v w. h v (put v w)
    at_other b (Some l) put out told h = (λ v w. h.0 v (put v w), λ on v tells now. h.1 on v tells (out v now), λ off v tells. told l v refl tells h.0 (h.2 off v tells))

    -- the present item goes out, and the mark goes
    at_put : (b : Bool) (l : L) (u : V) → ((v : V) → WasPut q (at n v) → WasPut p (at n v) ⊎ (v ≡ u)) → Out q u → Within l u → ((v : V) → Tells n l v → v ≡ u) → At p b (Some l) → At q false (Some l)
    at_put b l u put out within only h = (λ v w. elim (put v w) [ inl was ↦ h.0 v was | inr is ↦ subst (Within l) (sym is) within ], λ on. absurd (true≢false (sym on)), λ off v tells. inl (subst (Out q) (sym (only v tells)) out))

    -- it is lost, and there is a mark
    at_lost : (b : Bool) (l : L) → ((v : V) → WasPut q (at n v) → WasPut p (at n v)) → ((v : V) → Within l v → Tells n l v → Out q v → ⊥) → At p b (Some l) → At q true (Some l)
    at_lost b l put none h = (λ v w. h.0 v (put v w), λ on v tells out. none v (h.0 v (put v (inl out))) tells out, λ off. absurd (true≢false off))

-- All streams

-- whether a piece tells an item of the kind, and which
abbrev pub IsTelling : {V : Type 0} → (ℕ → V → Item) → Piece → Type 0
IsTelling {V} at p = ((n : ℕ) × (v : V) × (p ≡ Told (at n v))) ⊎ ((n : ℕ) (v : V) → p ≡ Told (at n v) → ⊥)

-- One stream's mark is set or cleared, where it has a half, and no other's moves.
pub record IsMarked {L : Type 0} (lanes : Tables L) (n : ℕ) (v : Bool) (old new : ℕ → Bool) : Type 0 where
  pub here : (l : L) → lookup lanes n ≡ Some l → new n ≡ v
  pub others : (k : ℕ) → k ≢ n → new k ≡ old k

-- the marks once it came or went
abbrev pub MarkedBy : {L V : Type 0} (at : ℕ → V → Item) (p : Piece) → IsTelling at p → Tables L → Bool → (old new : ℕ → Bool) → Type 0
MarkedBy at p (inl (n, v, is)) lanes b old new = IsMarked lanes n b old new
MarkedBy at p (inr none) lanes b old new = (n : ℕ) → new n ≡ old n

-- an item tells its stream and its value
abbrev pub AreTellable : {V : Type 0} → (ℕ → V → Item) → Type 0
AreTellable {V} at = (n j : ℕ) (u v : V) → at j v ≡ at n u → (j ≡ n) × (v ≡ u)

-- the packets once a piece goes into one
abbrev pub came : ℕ → Piece → Packets → Packets
came k x p = record p { out = with_piece p.out k x }

put_is : (k : ℕ) (x : Piece) (p : Packets) (i : Item) → WasPut (came k x p) i → WasPut p i ⊎ (Told i ≡ x)
put_is k x p i (inl out) = elim (carried_is p.out k x (Told i) out) [ inl was ↦ inl (inl was) | inr e ↦ inr e ]
put_is k x p i (inr was) = inl (inr was)

told_more : (k : ℕ) (x : Piece) (p : Packets) (i : Item) → IsToldIn p i → IsToldIn (came k x p) i
told_more k x p i told = elim told [ inl out ↦ inl (carried_more p.out k x (Told i) out) | inr noted ↦ inr noted ]

-- the same marks in other words
pub right_as : {L V : Type 0} {at : ℕ → V → Item} {Tells : ℕ → L → V → Type 0} {Within : L → V → Type 0} {lanes : Tables L} {p : Packets} {marks : ℕ → Bool} → AreRight at Tells Within lanes p marks → (marks' : ℕ → Bool) → ((n : ℕ) → marks' n ≡ marks n) → AreRight at Tells Within lanes p marks'
right_as {L} {V} {at} {Tells} {Within} {lanes} {p} {marks} h marks' same = record { each = λ n. subst (λ b. IsRightAt at Tells Within p n b (lookup lanes n)) (sym (same n)) (h.each n) }

module _ {L V : Type 0} {at : ℕ → V → Item} {Tells : ℕ → L → V → Type 0} {Within : L → V → Type 0} {lanes : Tables L} {p : Packets} {marks : ℕ → Bool} (h : AreRight at Tells Within lanes p marks) where
  abbrev Here : ℕ → Bool → Option L → Type 0
  Here n = IsRightAt at Tells Within p n

  here : (n : ℕ) (l : L) → lookup lanes n ≡ Some l → Here n (marks n) (Some l)
  here n l there = subst (Here n (marks n)) there (h.each n)

  -- a half changes, and has no more to tell
  pub right_changed : (now : Tables L) (n : ℕ) (f : L → L) → now ≡ updated lanes n f (lookup lanes n) → ((l : L) (v : V) → lookup lanes n ≡ Some l → Within l v → Within (f l) v) → ((l : L) (v : V) → lookup lanes n ≡ Some l → Tells n (f l) v → Tells n l v) → AreRight at Tells Within now p marks
  right_changed now n f is w t =
      rw is (record { each = slots_changed (λ k o. Here k (marks k) o) lanes n f (λ k ne. h.each k) (at_kept at Tells Within n p (marks n) (lookup lanes n) f w t (h.each n)) })

  -- each half does
  pub right_each : (now : Tables L) (f : L → L) → now ≡ each f lanes → ((l : L) (v : V) → Within l v → Within (f l) v) → ((n : ℕ) (l : L) (v : V) → Tells n (f l) v → Tells n l v) → AreRight at Tells Within now p marks
  right_each now f is w t =
      rw is (record { each = slots_each (λ n o. Here n (marks n) o) f lanes (λ n. at_kept at Tells Within n p (marks n) (lookup lanes n) f (λ l v there. w l v) (λ l v there. t n l v) (h.each n)) })

  -- it has something to tell that no packet told, and a mark
  pub right_risen : (now : Tables L) (n : ℕ) (f : L → L) (marks' : ℕ → Bool) → now ≡ updated lanes n f (lookup lanes n) → IsMarked lanes n true marks marks' → ((l : L) (v : V) → lookup lanes n ≡ Some l → Within l v → Within (f l) v) → ((l : L) (v : V) → lookup lanes n ≡ Some l → Within l v → Tells n (f l) v → ⊥) → AreRight at Tells Within now p marks'
  right_risen now n f marks' is marked w r =
      rw is (record {
        each = λ k. elim (cases_eq k n) [
          | inl e ↦ subst (λ j. Here j (marks' j) (lookup (updated lanes n f (lookup lanes n)) j)) (sym e) (rw (updated_here lanes n f) (go (lookup lanes n) refl))
          | inr ne ↦ rw (marked.others k ne, updated_other lanes n k f ne) (h.each k)
        ];
      })
    where
      go : (o : Option L) → lookup lanes n ≡ o → Here n (marks' n) (option_map f o)
      go None there = subst (Here n (marks n)) there (h.each n)
      go (Some l) there = rw (marked.here l there) (at_risen at Tells Within n p (marks n) l (f l) (λ v. w l v there) (λ v. r l v there) (here n l there))

  -- what it has to tell was told, and its mark goes
  pub right_told : (n : ℕ) (marks' : ℕ → Bool) → IsMarked lanes n false marks marks' → ((l : L) (v : V) → lookup lanes n ≡ Some l → Tells n l v → IsToldIn p (at n v)) → AreRight at Tells Within lanes p marks'
  right_told n marks' marked t =
      record {
        each = λ k. elim (cases_eq k n) [
          | inl e ↦ subst (λ j. Here j (marks' j) (lookup lanes j)) (sym e) (go (lookup lanes n) refl)
          | inr ne ↦ rw (marked.others k ne) (h.each k)
        ];
      }
    where
      go : (o : Option L) → lookup lanes n ≡ o → Here n (marks' n) (lookup lanes n)
      go None there = rw there (subst (Here n (marks n)) there (h.each n))
      go (Some l) there = rw (there, marked.here l there) (at_told at Tells Within n p (marks n) l (λ v. t l v there) (here n l there))

  -- what packets told of a half is within what it had to tell
  pub within_here : (n : ℕ) (l : L) (v : V) → lookup lanes n ≡ Some l → WasPut p (at n v) → Within l v
  within_here n l v there = (here n l there).0 v

  -- what a mark tells, and what none does
  pub mark_here : (n : ℕ) (l : L) → lookup lanes n ≡ Some l → (marks n ≡ true → (v : V) → Tells n l v → IsCarried p.out (Told (at n v)) → ⊥) × (marks n ≡ false → (v : V) → Tells n l v → IsToldIn p (at n v))
  mark_here n l there = ((here n l there).1, (here n l there).2)

  -- streams open that have nothing to tell, or none do
  pub right_opens : (n : ℕ) (absent : Bool) (now : Tables L) (begin : ℕ → L) → now ≡ cond absent lanes (open_to lanes n begin) → ((k : ℕ) (v : V) → k % 4 ≡ n % 4 → Tells k (begin k) v → ⊥) → AreRight at Tells Within now p marks
  right_opens n true now begin is none = rw is h
  right_opens n false now begin is none = rw is (record { each = opened })
    where
      opened : (k : ℕ) → Here k (marks k) (lookup (open_to lanes n begin) k)
      opened k = elim (lookup_open lanes n k begin) [
        | inl same ↦ rw same (h.each k)
        | inr (gone, kind, le, new) ↦ rw new (at_begun at Tells Within k p (marks k) (marks k) (begin k) (λ v. none k v kind) (subst (Here k (marks k)) gone (h.each k)))
      ]

  -- streams that opened are taken back
  pub right_back : (now : Tables L) (was : ℕ → Bool) → AreRight at Tells Within now p was → ((n : ℕ) (l : L) → lookup now n ≡ Some l → lookup lanes n ≡ Some l) → AreRight at Tells Within now p marks
  right_back now was old fewer = record { each = λ n. go n (lookup now n) refl (old.each n) }
    where
      go : (n : ℕ) (o : Option L) → lookup now n ≡ o → IsRightAt at Tells Within p n (was n) o → Here n (marks n) o
      go n None there none = none
      go n (Some l) there out = here n l (fewer n l there)

  module _ (q : Packets) where
    -- packets move, and what was told is told still
    pub right_other : ((n : ℕ) (v : V) → WasPut q (at n v) → WasPut p (at n v)) → ((n : ℕ) (v : V) → IsCarried q.out (Told (at n v)) → IsCarried p.out (Told (at n v)))
        → ((n : ℕ) (l : L) (v : V) → lookup lanes n ≡ Some l → Tells n l v → ((w : V) → WasPut p (at n w) → Within l w) → IsToldIn p (at n v) → IsToldIn q (at n v)) → AreRight at Tells Within lanes q marks
    right_other put out told = record { each = λ n. at_other at Tells Within n p q (marks n) (lookup lanes n) (put n) (out n) (told n) (h.each n) }

  -- a piece goes into a packet, with the present item of a half if with one
  pub right_came : (k : ℕ) (x : Piece) (tells : IsTelling at x) (marks' : ℕ → Bool) → MarkedBy at x tells lanes false marks marks' → AreTellable at → ((n : ℕ) (v : V) → x ≡ Told (at n v) → (l : L) × (lookup lanes n ≡ Some l) × Within l v × ((w : V) → Tells n l w → w ≡ v)) → AreRight at Tells Within lanes (came k x p) marks'
  right_came k x (inr none) marks' marked same new =
      record {
        each = λ n. subst (λ b. IsRightAt at Tells Within (came k x p) n b (lookup lanes n)) (sym (marked n))
            (at_other at Tells Within n p (came k x p) (marks n) (lookup lanes n) (λ v put. elim (put_is k x p (at n v) put) [ inl was ↦ was | inr e ↦ absurd (none n v (sym e)) ])
            (λ v out. elim (carried_is p.out k x (Told (at n v)) out) [ inl was ↦ was | inr e ↦ absurd (none n v (sym e)) ]) (λ l v there tells within told. told_more k x p (at n v) told) (h.each n));
      }
  right_came k x (inl (n, u, is)) marks' marked same new =
      record {
        each = λ j. elim (cases_eq j n) [
          | inl e ↦ subst (λ i. IsRightAt at Tells Within (came k x p) i (marks' i) (lookup lanes i)) (sym e)
              (let (l, there, within, only) = new n u is in
              rw (there, marked.here l there)
              (at_put at Tells Within n p (came k x p) (marks n) l u (λ v put. elim (put_is k x p (at n v) put) [ inl was ↦ inl was | inr e ↦ inr (same n n u v (told_same (at n v) (at n u) (e ∙ is))).1 ])
              (subst (IsCarried (with_piece p.out k x)) is (carried_new p.out k x)) within only (here n l there)))
          | inr ne ↦ rw (marked.others j ne)
              (at_other at Tells Within j p (came k x p) (marks j) (lookup lanes j) (λ v put. elim (put_is k x p (at j v) put) [ inl was ↦ was | inr e ↦ absurd (ne (same n j u v (told_same (at j v) (at n u) (e ∙ is))).0) ])
              (λ v out. elim (carried_is p.out k x (Told (at j v)) out) [ inl was ↦ was | inr e ↦ absurd (ne (same n j u v (told_same (at j v) (at n u) (e ∙ is))).0) ]) (λ l v there tells within told. told_more k x p (at j v) told) (h.each j))
        ];
      }

  -- the first piece of a packet is lost; whether with the present item of a half, a flag tells, if with one
  module _ (q : Packets) (k : ℕ) (x : Piece) (short : IsShorter p.out k x q.out) (apart : AreApartIn p.out) (put : (i : Item) → WasPut q i → WasPut p i) (known : q.acked ≡ p.acked) where
    less : (y : Piece) → IsCarried q.out y → IsCarried p.out y
    less = carried_before p.out q.out k x short

    still : (i : Item) → (Told i ≡ x → ⊥) → IsToldIn p i → IsToldIn q i
    still i other told = elim told [
      | inl out ↦ elim (carried_still p.out q.out k x short (Told i) out) [ inl e ↦ absurd (other e) | inr stays ↦ inl stays ]
      | inr noted ↦ inr (rw known noted)
    ]

    lost_left : ((n : ℕ) (v : V) (l : L) → x ≡ Told (at n v) → lookup lanes n ≡ Some l → Tells n l v → ⊥) → AreRight at Tells Within lanes q marks
    lost_left other = right_other q (λ n v. put (at n v)) (λ n v. less (Told (at n v))) (λ n l v there tells within. still (at n v) (λ e. other n v l (sym e) there tells))

    lost_here : (n : ℕ) (u : V) (marks' : ℕ → Bool) → x ≡ Told (at n u) → IsMarked lanes n true marks marks' → AreTellable at → ((l : L) (v : V) → lookup lanes n ≡ Some l → Tells n l v → v ≡ u) → AreRight at Tells Within lanes q marks'
    lost_here n u marks' is marked same only = record {
      each = λ j. elim (cases_eq j n) [
        | inl e ↦ subst (λ i. IsRightAt at Tells Within q i (marks' i) (lookup lanes i)) (sym e) (go (lookup lanes n) refl)
        | inr ne ↦ rw (marked.others j ne) (at_other at Tells Within j p q (marks j) (lookup lanes j) (λ v. put (at j v)) (λ v. less (Told (at j v)))
            (λ l v there tells within. still (at j v) (λ e. ne (same n j u v (told_same (at j v) (at n u) (e ∙ is))).0)) (h.each j))
      ];
    }
      where
        go : (o : Option L) → lookup lanes n ≡ o → IsRightAt at Tells Within q n (marks' n) (lookup lanes n)
        go None there = rw there (λ v w. subst (Here n (marks n)) there (h.each n) v (put (at n v) w))
        go (Some l) there =
            rw (there, marked.here l there) (at_lost at Tells Within n p q (marks n) l (λ v. put (at n v))
            (λ v within tells out. subst (λ y. Apart y (Told (at n v))) (is ∙ ap (λ w. Told (at n w)) (sym (only l v there tells))) (gone_apart p.out q.out k x short apart (Told (at n v)) out) refl) (here n l there))

    pub right_lost : (tells : IsTelling at x) (marks' : ℕ → Bool) → AreTellable at → (b : Bool) → (b ≡ true → MarkedBy at x tells lanes true marks marks') → (b ≡ false → (n : ℕ) → marks' n ≡ marks n)
        → ((n : ℕ) (v : V) (l : L) → x ≡ Told (at n v) → lookup lanes n ≡ Some l → (b ≡ true → (w : V) → Tells n l w → w ≡ v) × (b ≡ false → Tells n l v → ⊥)) → AreRight at Tells Within lanes q marks'
    right_lost tells marks' same false on off leaves = right_as (lost_left (λ n v l is there. (leaves n v l is there).1 refl)) marks' (off refl)
    right_lost (inr none) marks' same true on off leaves = right_as (lost_left (λ n v l is there has. none n v is)) marks' (on refl)
    right_lost (inl (n, v, is)) marks' same true on off leaves = lost_here n v marks' is (on refl) same (λ l w there. (leaves n v l is there).0 refl w)

-- without streams nothing is marked
pub right_none : {L V : Type 0} (at : ℕ → V → Item) (Tells : ℕ → L → V → Type 0) (Within : L → V → Type 0) (lanes : Tables L) (p : Packets) (marks : ℕ → Bool) → lanes ≡ no_streams → ((n : ℕ) (v : V) → WasPut p (at n v) → ⊥) → AreRight at Tells Within lanes p marks
right_none {L} {V} at Tells Within lanes p marks is none = rw is (record { each = λ n. rw (nowhere {X = L} n) (none n) })

-- ---- The marks of all kinds

-- What a piece tells of a kind of item

unfoldable pub stop_telling : (p : Piece) → IsTelling StopSending p
stop_telling (Told (StopSending n code)) = inl (n, code, refl)
stop_telling _ = inr (λ n code e. cc (e))

unfoldable pub limit_telling : (p : Piece) → IsTelling MaxStreamData p
limit_telling (Told (MaxStreamData n v)) = inl (n, v, refl)
limit_telling _ = inr (λ n v e. cc (e))

unfoldable pub reset_telling : (p : Piece) → IsTelling reset_at p
reset_telling (Told (ResetStream n code size)) = inl (n, record { code = code; size = size }, refl)
reset_telling _ = inr (λ n r e. cc (e))

unfoldable pub block_telling : (p : Piece) → IsTelling StreamDataBlocked p
block_telling (Told (StreamDataBlocked n v)) = inl (n, v, refl)
block_telling _ = inr (λ n v e. cc (e))

pub stops_tell : AreTellable StopSending
stops_tell n j u v e = (cc (e), cc (e))

pub limits_tell : AreTellable MaxStreamData
limits_tell n j u v e = (cc (e), cc (e))

resets_tell : AreTellable reset_at
resets_tell n j r s e = (cc (e), let code : s.code ≡ r.code = cc (e) in let size : s.size ≡ r.size = cc (e) in ap (λ c. record { code = c; size = s.size }) code ∙ ap (λ c. record { code = r.code; size = c }) size)

pub blocks_tell : AreTellable StreamDataBlocked
blocks_tell n j u v e = (cc (e), cc (e))

-- the marks of all kinds once a piece came or went
pub record AreMarked (x : Piece) (b : Bool) (recvs : Tables RecvLane) (sends : Tables SendLane) (t u : Tables (List ℕ)) : Type 0 where
  pub stops : MarkedBy StopSending x (stop_telling x) recvs b (marks_of kinds.StopSending t) (marks_of kinds.StopSending u)
  pub limits : MarkedBy MaxStreamData x (limit_telling x) recvs b (marks_of kinds.MaxStreamData t) (marks_of kinds.MaxStreamData u)
  pub resets : MarkedBy reset_at x (reset_telling x) sends b (marks_of kinds.ResetStream t) (marks_of kinds.ResetStream u)
  pub blocks : MarkedBy StreamDataBlocked x (block_telling x) sends b (marks_of kinds.StreamDataBlocked t) (marks_of kinds.StreamDataBlocked u)
  pub places : (m : ℕ) → HasPlace t m → HasPlace u m

-- a flag is set of a stream of which an open half has a place
pub is_marked_by : {L : Type 0} (lanes : Tables L) (t u : Tables (List ℕ)) (r n : ℕ) (v : Bool) → HavePlaces lanes t → IsFlaggedAt t r n v u → IsMarked lanes n v (flag t r) (flag u r)
is_marked_by lanes t u r n v places set_at = record {
  here = λ l there. flagged_here t u r n v set_at (places n (ap is_some there));
  others = flagged_others t u r n v set_at;
}

pub marked_is : (i : Item) (b : Bool) (recvs : Tables RecvLane) (sends : Tables SendLane) (t u : Tables (List ℕ)) → HavePlaces recvs t → HavePlaces sends t → IsItemMarked i b t u → AreMarked (Told i) b recvs sends t u
unfolding stop_telling limit_telling reset_telling block_telling
marked_is (StopSending n code) b recvs sends t u placed has_places set_at =
    let moves = moves_row t u 4 n b set_at in
    record {
      stops = is_marked_by recvs t u 4 n b placed set_at;
      limits = λ k. moves.rows 5 k (λ is. omega (arith, is));
      resets = λ k. moves.rows 3 k (λ is. omega (arith, is));
      blocks = λ k. moves.rows 7 k (λ is. omega (arith, is));
      places = moves.places;
    }
marked_is (MaxStreamData n v) b recvs sends t u placed has_places set_at =
    let moves = moves_row t u 5 n b set_at in
    record {
      stops = λ k. moves.rows 4 k (λ is. omega (arith, is));
      limits = is_marked_by recvs t u 5 n b placed set_at;
      resets = λ k. moves.rows 3 k (λ is. omega (arith, is));
      blocks = λ k. moves.rows 7 k (λ is. omega (arith, is));
      places = moves.places;
    }
marked_is (ResetStream n code size) b recvs sends t u placed has_places set_at =
    let moves = moves_row t u 3 n b set_at in
    record {
      stops = λ k. moves.rows 4 k (λ is. omega (arith, is));
      limits = λ k. moves.rows 5 k (λ is. omega (arith, is));
      resets = is_marked_by sends t u 3 n b has_places set_at;
      blocks = λ k. moves.rows 7 k (λ is. omega (arith, is));
      places = moves.places;
    }
marked_is (StreamDataBlocked n v) b recvs sends t u placed has_places set_at =
    let moves = moves_row t u 7 n b set_at in
    record {
      stops = λ k. moves.rows 4 k (λ is. omega (arith, is));
      limits = λ k. moves.rows 5 k (λ is. omega (arith, is));
      resets = λ k. moves.rows 3 k (λ is. omega (arith, is));
      blocks = is_marked_by sends t u 7 n b has_places set_at;
      places = moves.places;
    }
marked_is _ b recvs sends t u placed has_places is = rw is (record { stops = λ k. refl; limits = λ k. refl; resets = λ k. refl; blocks = λ k. refl; places = λ m place. place })

-- whether a piece tells the present value of its half
abbrev is_now : Piece → Tables RecvLane → Tables SendLane → Bool
is_now (Data n c) recvs sends = true
is_now (Told i) recvs sends = is_present i recvs sends

-- an item with this value alone may be to tell, or another one
abbrev Goes : {V : Type 0} → (Tells : V → Type 0) → V → Bool → Type 0
Goes {V} Tells v b = (b ≡ true → (w : V) → Tells w → w ≡ v) × (b ≡ false → Tells v → ⊥)

limit_goes : (limit v : ℕ) (b : Bool) → b ≡ (limit == v) → Goes (λ w. w ≡ limit) v b
limit_goes limit v b is = (λ on w now. now ∙ eqb-true limit v (sym is ∙ on), λ off now. eqb-false limit v (sym is ∙ off) (sym now))

-- Halves change

-- a receiving half has no more to tell
pub record IsCalmer (l m : RecvLane) : Type 0 where
  pub limit : m.limit ≡ l.limit
  pub stop : m.stop_code ≡ l.stop_code
  pub size : m.final_size ≡ None → l.final_size ≡ None
  pub reset : m.reset_code ≡ None → l.reset_code ≡ None
  pub whole : is_whole m ≡ false → is_whole l ≡ false

-- nor a sending one of its reset, and what packets may have told of that they may have told
pub record KeepsReset (l m : SendLane) : Type 0 where
  pub told : (v : Reset) → HasReset l v → HasReset m v
  pub tells : (n : ℕ) (v : Reset) → TellsReset n m v → TellsReset n l v

-- nor of its limit
pub record KeepsBlock (l m : SendLane) : Type 0 where
  pub told : (v : ℕ) → HasBlocked l v → HasBlocked m v
  pub tells : (n v : ℕ) → TellsBlock n m v → TellsBlock n l v

-- two halves have the same to tell
pub record TellsAlike (l m : RecvLane) : Type 0 where
  pub stop : l.stop_code ≡ m.stop_code
  pub reset : l.reset_code ≡ m.reset_code
  pub limit : l.limit ≡ m.limit
  pub size : l.final_size ≡ m.final_size
  pub whole : is_whole l ≡ is_whole m

-- a stop is told of a half that had none
stop_new : (l : RecvLane) (n code v w : ℕ) → stop_to_tell (Some l) ≡ None → l.stop_code ≡ Some v → TellsStop n (stop l code) w → ⊥
stop_new l n code v w none has tells = grind (arith, nat_tests, stop_of)

-- one that has one to tell stays as it is
stop_same : (l : RecvLane) (code c : ℕ) → stop_to_tell (Some l) ≡ Some c → stop l code ≡ l
stop_same l code c tells = grind (arith, nat_tests, stop_some)

pub stop_keeps : (l : RecvLane) (code : ℕ) → ((stop l code).limit ≡ l.limit) × ((stop l code).final_size ≡ l.final_size) × ((v : ℕ) → l.stop_code ≡ Some v → (stop l code).stop_code ≡ Some v)
stop_keeps l code = grind (arith, nat_tests)

blocked_le : (l : SendLane) (w v : ℕ) → HasBlocked l w → TellsBlock 0 l v → w ≤ v
blocked_le l w v (inl below) tells = (let e = tells.1 in omega (arith, below, e))
blocked_le l w v (inr same) tells = (let e = tells.1 in let f = same.0 in omega (arith, e, f))

written_told : (l : SendLane) (bytes : List ℕ) (v : ℕ) → HasBlocked l v → HasBlocked (write_lane l bytes) v
written_told l bytes v (inl below) = inl below
written_told l bytes v (inr (same, more, all)) = inr (same, omega (arith, more), all)

written_tells : (l : SendLane) (bytes : List ℕ) (count v : ℕ) → length bytes ≡ count → TellsBlock 0 (write_lane l bytes) v → ((write_lane l bytes).written ≤ v + count → ⊥) → TellsBlock 0 l v
written_tells l bytes count v len (none, is, more, all) many = (none, is, grind (arith, nat_tests, len, is, many), all)

written_new : (l : SendLane) (bytes : List ℕ) (count m v : ℕ) → length bytes ≡ count → IsBlockedBy count (Some (write_lane l bytes)) m → HasBlocked l v → TellsBlock 0 (write_lane l bytes) v → ⊥
written_new l bytes count m v len by (inl below) tells = (let e = tells.1 in omega (arith, e, below))
written_new l bytes count m v len by (inr same) tells = (let e = by.0.1 in let few = by.1 in let more = same.1 in omega (arith, e, few, more, len))

sent_told : (l : SendLane) (c : Chunk) (v : ℕ) → HasBlocked l v → HasBlocked (sent_lane l c) v
sent_told l c v (inl below) = inl below
sent_told l c v (inr (same, more, all)) = inr (same, more, omega (arith, all))

sent_tells : (l : SendLane) (c : Chunk) (v : ℕ) → (l.written ≤ l.limit) ⊎ ((sent_lane l c).sent_end ≡ l.sent_end) → TellsBlock 0 (sent_lane l c) v → TellsBlock 0 l v
sent_tells l c v (inl free) (none, is, more, all) = absurd (omega (arith, free, more))
sent_tells l c v (inr same) (none, is, more, all) = (none, is, more, sym same ∙ all)

below_new : (l : SendLane) (v limit : ℕ) → limit ≡ l.limit → l.sent_end < l.limit → HasBlocked l v → v ≡ limit → ⊥
below_new l v limit is short (inl below) e = omega (arith, is, below, e)
below_new l v limit is short (inr same) e = (let all = same.2 in omega (arith, short, all))

tells_goes : {V : Type 0} (P Q : V → Type 0) (v : V) (b : Bool) → ((w : V) → P w → Q w) → Goes Q v b → Goes P v b
tells_goes P Q v b less goes = (λ on w tells. goes.0 on w (less w tells), λ off tells. goes.1 off (less v tells))

-- Places stay

some_changed : {L : Type 0} (lanes now : Tables L) (n k : ℕ) (f : L → L) → now ≡ updated lanes n f (lookup lanes n) → is_some (lookup now k) ≡ is_some (lookup lanes k)
some_changed lanes now n k f is =
    rw is (elim (cases_eq k n) [
      | inl e ↦ rw e (rw (updated_here lanes n f) (mapped (lookup lanes n)))
      | inr ne ↦ rw (updated_other lanes n k f ne) refl
    ])
  where
    mapped : (o : Option _) → is_some (option_map f o) ≡ is_some o
    mapped None = refl
    mapped (Some x) = refl

pub places_changed : {L : Type 0} (lanes now : Tables L) (t : Tables (List ℕ)) (n : ℕ) (f : L → L) → now ≡ updated lanes n f (lookup lanes n) → HavePlaces lanes t → HavePlaces now t
places_changed lanes now t n f is places k some = places k (sym (some_changed lanes now n k f is) ∙ some)

pub places_more : {L : Type 0} (lanes : Tables L) (t u : Tables (List ℕ)) → ((m : ℕ) → HasPlace t m → HasPlace u m) → HavePlaces lanes t → HavePlaces lanes u
places_more lanes t u more places k some = more k (places k some)

places_opened : {L : Type 0} (lanes : Tables L) (t : Tables (List ℕ)) (n : ℕ) (absent : Bool) (now : Tables L) (begin : ℕ → L) → ((k : ℕ) → k % 4 ≡ n % 4 → k ≤ n → HasPlace t k) → now ≡ cond absent lanes (open_to lanes n begin) → HavePlaces lanes t → HavePlaces now t
places_opened lanes t n true now begin placed is places k some = places k (sym (ap (λ (x : Tables _). is_some (lookup x k)) is) ∙ some)
places_opened lanes t n false now begin placed is places k some = elim (lookup_open lanes n k begin) [
  | inl same ↦ places k (sym (ap (λ (x : Tables _). is_some (lookup x k)) is ∙ ap is_some same) ∙ some)
  | inr (gone, kind, le, new) ↦ placed k kind le
]

places_fewer : {L : Type 0} (lanes now : Tables L) (t : Tables (List ℕ)) → ((n : ℕ) (x : L) → lookup now n ≡ Some x → lookup lanes n ≡ Some x) → HavePlaces lanes t → HavePlaces now t
places_fewer lanes now t fewer places k some = go (lookup now k) refl
  where
    go : (o : Option _) → lookup now k ≡ o → HasPlace t k
    go None none = absurd (true≢false (sym some ∙ ap is_some none))
    go (Some x) at = places k (ap is_some (fewer k x at))

-- a chunk tells no item
chunk_marked : (n : ℕ) (c : Chunk) (b : Bool) (recvs : Tables RecvLane) (sends : Tables SendLane) (t u : Tables (List ℕ)) → u ≡ t → AreMarked (Data n c) b recvs sends t u
unfolding stop_telling limit_telling reset_telling block_telling
chunk_marked n c b recvs sends t u is = rw is (record { stops = λ j. refl; limits = λ j. refl; resets = λ j. refl; blocks = λ j. refl; places = λ m place. place })

-- The marks of all kinds, as halves, packets and marks change
module _ {r : Role} {s : Settings} {recvs : Tables RecvLane} {sends : Tables SendLane} {p : Packets} {t : Tables (List ℕ)} (h : AreDue r s recvs sends p t) where
  -- a receiving half has no more to tell
  pub due_recv : (now : Tables RecvLane) (n : ℕ) (f : RecvLane → RecvLane) → now ≡ updated recvs n f (lookup recvs n) → ((l : RecvLane) → lookup recvs n ≡ Some l → IsCalmer l (f l)) → AreDue r s now sends p t
  due_recv now n f is calmer =
      record {
        stops = right_changed h.stops now n f is (λ l v there has. (calmer l there).stop ∙ has) (λ l v there tells. (let c = calmer l there in (sym c.stop ∙ tells.0, c.reset tells.1, c.whole tells.2)));
        limits = right_changed h.limits now n f is (λ l v there le. (let same = (calmer l there).limit in omega (arith, le, same))) (λ l v there tells. (let c = calmer l there in (tells.0 ∙ c.limit, tells.1, c.size tells.2)));
        resets = h.resets;
        blocks = h.blocks;
        recv_places = places_changed recvs now t n f is h.recv_places;
        send_places = h.send_places;
      }

  -- one is stopped, and has a mark if there was no stop to tell
  due_stopped_as : (now : Tables RecvLane) (n code : ℕ) (f : RecvLane → RecvLane) (u : Tables (List ℕ)) → ((k : RecvLane) → TellsAlike (f k) (stop k code)) → now ≡ updated recvs n f (lookup recvs n)
      → IsMarkedIf (is_none (stop_to_tell (lookup recvs n))) (row_of kinds.StopSending) n t u → AreDue r s now sends p u
  due_stopped_as now n code f u alike is marks = go (stop_to_tell (lookup recvs n)) refl
    where
      kept : (k : RecvLane) (v : ℕ) → HasStop k v → HasStop (f k) v
      kept k v has = (alike k).stop ∙ (stop_keeps k code).2 v has

      back : (k : RecvLane) (v : ℕ) → TellsStop n (f k) v → TellsStop n (stop k code) v
      back k v tells = (sym (alike k).stop ∙ tells.0, sym (alike k).reset ∙ tells.1, sym (alike k).whole ∙ tells.2)

      limits : AreRight MaxStreamData (TellsLimit r s) IsWithinLimit now p (marks_of kinds.MaxStreamData t)
      limits = right_changed h.limits now n f is (λ k v _ le. (let same = (alike k).limit ∙ (stop_keeps k code).0 in omega (arith, le, same))) (λ k v _ tells. (tells.0 ∙ (alike k).limit ∙ (stop_keeps k code).0, tells.1, sym (stop_keeps k code).1 ∙ sym (alike k).size ∙ tells.2))

      go : (o : Option ℕ) → stop_to_tell (lookup recvs n) ≡ o → AreDue r s now sends p u
      go None tells =
          let set_at = marks.0 (ap is_none tells) in
          let moves = moves_row t u 4 n true set_at in
          record {
            stops = right_risen h.stops now n f (marks_of kinds.StopSending u) is (is_marked_by recvs t u 4 n true h.recv_places set_at) (λ k v _. kept k v) (λ k v here has told. stop_new k n code v v (sym (ap stop_to_tell here) ∙ tells) has (back k v told));
            limits = right_as limits (marks_of kinds.MaxStreamData u) (λ k. moves.rows 5 k (λ is. omega (arith, is)));
            resets = right_as h.resets (marks_of kinds.ResetStream u) (λ k. moves.rows 3 k (λ is. omega (arith, is)));
            blocks = right_as h.blocks (marks_of kinds.StreamDataBlocked u) (λ k. moves.rows 7 k (λ is. omega (arith, is)));
            recv_places = places_more now t u moves.places (places_changed recvs now t n f is h.recv_places);
            send_places = places_more sends t u moves.places h.send_places;
          }
      go (Some c) tells = rw (marks.1 (ap is_none tells)) (record {
        stops = right_changed h.stops now n f is (λ k v _. kept k v) (λ k v here told. subst (λ x. TellsStop n x v) (stop_same k code c (sym (ap stop_to_tell here) ∙ tells)) (back k v told));
        limits = limits;
        resets = h.resets;
        blocks = h.blocks;
        recv_places = places_changed recvs now t n f is h.recv_places;
        send_places = h.send_places;
      })

  pub due_stopped : (now : Tables RecvLane) (n code : ℕ) (u : Tables (List ℕ)) → now ≡ updated recvs n (λ k. stop k code) (lookup recvs n)
      → IsMarkedIf (is_none (stop_to_tell (lookup recvs n))) (row_of kinds.StopSending) n t u → AreDue r s now sends p u
  due_stopped now n code u = due_stopped_as now n code (λ k. stop k code) u (λ k. record { stop = refl; reset = refl; limit = refl; size = refl; whole = refl })

  -- so is one that is forgotten
  pub due_discarded : (now : Tables RecvLane) (n code : ℕ) (u : Tables (List ℕ)) → now ≡ updated recvs n (λ k. stop_and_discard k code) (lookup recvs n)
      → IsMarkedIf (is_none (stop_to_tell (lookup recvs n))) (row_of kinds.StopSending) n t u → AreDue r s now sends p u
  due_discarded now n code u = due_stopped_as now n code (λ k. stop_and_discard k code) u (λ k. record { stop = refl; reset = refl; limit = refl; size = refl; whole = refl })

  -- one has another window, and a mark if its limit rose
  pub due_windowed : (now : Tables RecvLane) (n w : ℕ) (u : Tables (List ℕ)) → now ≡ updated recvs n (λ k. set_window k w) (lookup recvs n)
      → IsMarkedIf (not (is_same (recv_limit recvs n) (recv_limit now n))) (row_of kinds.MaxStreamData) n t u → AreDue r s now sends p u
  due_windowed now n w u is marks = limits (lookup recvs n) refl
    where
      stops : AreRight StopSending TellsStop HasStop now p (marks_of kinds.StopSending t)
      stops = right_changed h.stops now n (λ k. set_window k w) is (λ k v _ has. has) (λ k v _ has. has)

      placed : HavePlaces now t
      placed = places_changed recvs now t n (λ k. set_window k w) is h.recv_places

      -- a mark was set
      risen : IsFlaggedAt t (row_of kinds.MaxStreamData) n true u → AreRight MaxStreamData (TellsLimit r s) IsWithinLimit now p (marks_of kinds.MaxStreamData u) → AreDue r s now sends p u
      risen set_at right =
          let moves = moves_row t u 5 n true set_at in
          record {
            stops = right_as stops (marks_of kinds.StopSending u) (λ k. moves.rows 4 k (λ is. omega (arith, is)));
            limits = right;
            resets = right_as h.resets (marks_of kinds.ResetStream u) (λ k. moves.rows 3 k (λ is. omega (arith, is)));
            blocks = right_as h.blocks (marks_of kinds.StreamDataBlocked u) (λ k. moves.rows 7 k (λ is. omega (arith, is)));
            recv_places = places_more now t u moves.places placed;
            send_places = places_more sends t u moves.places h.send_places;
          }

      limits : (o : Option RecvLane) → lookup recvs n ≡ o → AreDue r s now sends p u
      limits None there =
          let set_at = marks.0 (rw (ap (option_map (λ (k : RecvLane). k.limit)) there) refl) in
          risen set_at
          (right_risen h.limits now n (λ k. set_window k w) (marks_of kinds.MaxStreamData u) is (is_marked_by recvs t u 5 n true h.recv_places set_at) (λ k v here. absurd (none-some k (sym there ∙ here))) (λ k v here. absurd (none-some k (sym there ∙ here))))
      limits (Some l) there = go (l.limit == (set_window l w).limit) refl
        where
          after : recv_limit now n ≡ Some (set_window l w).limit
          after = ap (λ (x : Tables RecvLane). recv_limit x n) is ∙ ap (option_map (λ (k : RecvLane). k.limit)) (updated_here recvs n (λ k. set_window k w) ∙ ap (option_map (λ k. set_window k w)) there)

          before : recv_limit recvs n ≡ Some l.limit
          before = ap (option_map (λ (k : RecvLane). k.limit)) there

          test : is_same (recv_limit recvs n) (recv_limit now n) ≡ (l.limit == (set_window l w).limit)
          test = rw (before, after) refl

          up : l.limit ≤ (set_window l w).limit
          up = grind (arith, nat_tests, window_after)

          is_l : (k : RecvLane) → lookup recvs n ≡ Some k → l ≡ k
          is_l k here = same_Some l k (sym there ∙ here)

          go : (b : Bool) → (l.limit == (set_window l w).limit) ≡ b → AreDue r s now sends p u
          go true same =
              let eq = eqb-true l.limit (set_window l w).limit same in
              rw (marks.1 (ap not (test ∙ same))) (record {
                stops = stops;
                limits = right_changed h.limits now n (λ k. set_window k w) is (λ k v here. subst (λ (x : RecvLane). v ≤ x.limit → v ≤ (set_window x w).limit) (is_l k here) (λ le. omega (arith, le, eq)))
                    (λ k v here tells. (tells.0 ∙ subst (λ (x : RecvLane). (set_window x w).limit ≡ x.limit) (is_l k here) (sym eq), tells.1, tells.2));
                resets = h.resets;
                blocks = h.blocks;
                recv_places = placed;
                send_places = h.send_places;
              })
          go false other =
              let ne = eqb-false l.limit (set_window l w).limit other in
              let set_at = marks.0 (ap not (test ∙ other)) in
              risen set_at
              (right_risen h.limits now n (λ k. set_window k w) (marks_of kinds.MaxStreamData u) is (is_marked_by recvs t u 5 n true h.recv_places set_at) (λ k v here. subst (λ (x : RecvLane). v ≤ x.limit → v ≤ (set_window x w).limit) (is_l k here) (λ le. omega (arith, le, up)))
              (λ k v here. subst (λ (x : RecvLane). v ≤ x.limit → TellsLimit r s n (set_window x w) v → ⊥) (is_l k here) (λ le tells. ne (let e = tells.0 in omega (arith, le, e, up)))))

  -- each of them has the next limit
  pub due_raised : (now : Tables RecvLane) (u : Tables (List ℕ)) → now ≡ each raise recvs → StayMarked recvs now t u → AreDue r s now sends p u
  due_raised now u is stay =
      let (limits, moves, placed) = stay r s p h.recv_places h.limits in
      record {
        stops = right_as (right_each h.stops now raise is (λ l v e. e) (λ n l v e. e)) (marks_of kinds.StopSending u) (λ k. moves.rows 4 k (λ is. omega (arith, is)));
        limits = limits;
        resets = right_as h.resets (marks_of kinds.ResetStream u) (λ k. moves.rows 3 k (λ is. omega (arith, is)));
        blocks = right_as h.blocks (marks_of kinds.StreamDataBlocked u) (λ k. moves.rows 7 k (λ is. omega (arith, is)));
        recv_places = placed;
        send_places = places_more sends t u moves.places h.send_places;
      }

  -- a sending half has no more to tell
  pub due_send : (now : Tables SendLane) (n : ℕ) (f : SendLane → SendLane) → now ≡ updated sends n f (lookup sends n) → ((l : SendLane) → lookup sends n ≡ Some l → KeepsReset l (f l) × KeepsBlock l (f l)) → AreDue r s recvs now p t
  due_send now n f is keeps =
      record {
        stops = h.stops;
        limits = h.limits;
        resets = right_changed h.resets now n f is (λ l v there. (keeps l there).0.told v) (λ l v there. (keeps l there).0.tells n v);
        blocks = right_changed h.blocks now n f is (λ l v there. (keeps l there).1.told v) (λ l v there. (keeps l there).1.tells n v);
        recv_places = h.recv_places;
        send_places = places_changed sends now t n f is h.send_places;
      }

  -- one comes to its limit with more written, and has a mark for that
  due_blocked : (now : Tables SendLane) (n : ℕ) (f : SendLane → SendLane) (u : Tables (List ℕ)) → now ≡ updated sends n f (lookup sends n) → IsFlaggedAt t (row_of kinds.StreamDataBlocked) n true u → ((k : SendLane) → KeepsReset k (f k)) → ((k : SendLane) (v : ℕ) → HasBlocked k v → HasBlocked (f k) v) → ((k : SendLane) (v : ℕ) → lookup sends n ≡ Some k → HasBlocked k v → TellsBlock n (f k) v → ⊥)
      → AreDue r s recvs now p u
  due_blocked now n f u is set_at keeps told new =
      let moves = moves_row t u 7 n true set_at in
      record {
        stops = right_as h.stops (marks_of kinds.StopSending u) (λ k. moves.rows 4 k (λ is. omega (arith, is)));
        limits = right_as h.limits (marks_of kinds.MaxStreamData u) (λ k. moves.rows 5 k (λ is. omega (arith, is)));
        resets = right_as (right_changed h.resets now n f is (λ k v _. (keeps k).told v) (λ k v _. (keeps k).tells n v)) (marks_of kinds.ResetStream u) (λ k. moves.rows 3 k (λ is. omega (arith, is)));
        blocks = right_risen h.blocks now n f (marks_of kinds.StreamDataBlocked u) is (is_marked_by sends t u 7 n true h.send_places set_at) (λ k v _. told k v) new;
        recv_places = places_more recvs t u moves.places h.recv_places;
        send_places = places_more now t u moves.places (places_changed sends now t n f is h.send_places);
      }

  -- bytes are written, and a stream that comes to its limit by them has a mark for that
  pub due_written : (now : Tables SendLane) (n count : ℕ) (bytes : List ℕ) (u : Tables (List ℕ)) → now ≡ updated sends n (λ l. write_lane l bytes) (lookup sends n) → length bytes ≡ count → IsNotedBlock (IsBlockedBy count (lookup now n)) n t u → AreDue r s recvs now p u
  due_written now n count bytes u is len noted = elim noted [
    | inl (none, same) ↦ rw same (due_send now n (λ l. write_lane l bytes) is (λ l there. (keeps l, record { told = written_told l bytes; tells = λ m v tells. written_tells l bytes count v len tells (λ few. none v (subst (λ o. IsBlockedBy count o v) (sym (after l there)) (tells, few))) })))
    | inr ((m, here), marks) ↦ due_blocked now n (λ l. write_lane l bytes) u is marks keeps (λ l. written_told l bytes) (λ l v there has tells. written_new l bytes count m v len (subst (λ o. IsBlockedBy count o m) (after l there) here) has tells)
  ]
    where
      keeps : (l : SendLane) → KeepsReset l (write_lane l bytes)
      keeps l = record { told = λ v has. has; tells = λ m v tells. tells }

      after : (l : SendLane) → lookup sends n ≡ Some l → lookup now n ≡ Some (write_lane l bytes)
      after l there = ap (λ (x : Tables SendLane). lookup x n) is ∙ updated_here sends n (λ k. write_lane k bytes) ∙ ap (option_map (λ k. write_lane k bytes)) there

  -- a chunk goes out that brings the stream to no limit, or one below its limit, and a stream that comes to that has a mark
  pub due_sent : (now : Tables SendLane) (n : ℕ) (c : Chunk) (free : Bool) (u : Tables (List ℕ)) → now ≡ updated sends n (λ l. sent_lane l c) (lookup sends n)
      → ((l : SendLane) → lookup sends n ≡ Some l → (free ≡ true → (l.written ≤ l.limit) ⊎ ((sent_lane l c).sent_end ≡ l.sent_end)) × (free ≡ false → l.sent_end < l.limit)) → (free ≡ true → u ≡ t) → (free ≡ false → IsNotedBlock (IsBlockedAt (lookup now n)) n t u) → AreDue r s recvs now p u
  due_sent now n c free u is at same noted = go free refl
    where
      keeps : (l : SendLane) → KeepsReset l (sent_lane l c)
      keeps l = record { told = λ v has. has; tells = λ m v tells. tells }

      after : (l : SendLane) → lookup sends n ≡ Some l → lookup now n ≡ Some (sent_lane l c)
      after l there = ap (λ (x : Tables SendLane). lookup x n) is ∙ updated_here sends n (λ k. sent_lane k c) ∙ ap (option_map (λ k. sent_lane k c)) there

      go : (b : Bool) → free ≡ b → AreDue r s recvs now p u
      go true on = rw (same on) (due_send now n (λ l. sent_lane l c) is (λ l there. (keeps l, record { told = sent_told l c; tells = λ m v. sent_tells l c v ((at l there).0 on) })))
      go false off = elim (noted off) [
        | inl (none, stays) ↦ rw stays (due_send now n (λ l. sent_lane l c) is (λ l there. (keeps l, record { told = sent_told l c; tells = λ m v tells. absurd (none v (subst (λ o. IsBlockedAt o v) (sym (after l there)) tells)) })))
        | inr (here, marks) ↦ due_blocked now n (λ l. sent_lane l c) u is marks keeps (λ l. sent_told l c) (λ l v there has tells. below_new l v l.limit refl ((at l there).1 off) has tells.1)
      ]

  -- one is reset, and has a mark if it wasn't
  pub due_reset : (now : Tables SendLane) (n : ℕ) (f : SendLane → SendLane) (u : Tables (List ℕ)) → now ≡ updated sends n f (lookup sends n) → ((k : SendLane) → KeepsBlock k (f k)) → ((k : SendLane) → is_some k.was_reset ≡ true → f k ≡ k)
      → IsMarkedIf (is_none (or_none (lookup sends n)).was_reset) (row_of kinds.ResetStream) n t u → AreDue r s recvs now p u
  due_reset now n f u is keeps same marks = go (or_none (lookup sends n)).was_reset refl
    where
      of_lane : (k : SendLane) → lookup sends n ≡ Some k → (or_none (lookup sends n)).was_reset ≡ k.was_reset
      of_lane k here = ap (λ (o : Option SendLane). (or_none o).was_reset) here

      blocks : AreRight StreamDataBlocked TellsBlock HasBlocked now p (marks_of kinds.StreamDataBlocked t)
      blocks = right_changed h.blocks now n f is (λ k v _. (keeps k).told v) (λ k v _. (keeps k).tells n v)

      go : (o : Option Reset) → (or_none (lookup sends n)).was_reset ≡ o → AreDue r s recvs now p u
      go None none =
          let set_at = marks.0 (ap is_none none) in
          let moves = moves_row t u 3 n true set_at in
          let new : (k : SendLane) (v : Reset) → lookup sends n ≡ Some k → HasReset k v → ⊥ = λ k v here has. none-some v (sym none ∙ of_lane k here ∙ has) in
          record {
            stops = right_as h.stops (marks_of kinds.StopSending u) (λ k. moves.rows 4 k (λ is. omega (arith, is)));
            limits = right_as h.limits (marks_of kinds.MaxStreamData u) (λ k. moves.rows 5 k (λ is. omega (arith, is)));
            resets = right_risen h.resets now n f (marks_of kinds.ResetStream u) is (is_marked_by sends t u 3 n true h.send_places set_at) (λ k v here has. absurd (new k v here has)) (λ k v here has tells. new k v here has);
            blocks = right_as blocks (marks_of kinds.StreamDataBlocked u) (λ k. moves.rows 7 k (λ is. omega (arith, is)));
            recv_places = places_more recvs t u moves.places h.recv_places;
            send_places = places_more now t u moves.places (places_changed sends now t n f is h.send_places);
          }
      go (Some r) was =
          let stays : (k : SendLane) → lookup sends n ≡ Some k → f k ≡ k = λ k here. same k (ap is_some (sym (of_lane k here) ∙ was)) in
          rw (marks.1 (ap is_none was)) (record {
            stops = h.stops;
            limits = h.limits;
            resets = right_changed h.resets now n f is (λ k v here. subst (λ x. HasReset x v) (sym (stays k here))) (λ k v here. subst (λ x. TellsReset n x v) (stays k here));
            blocks = blocks;
            recv_places = h.recv_places;
            send_places = places_changed sends now t n f is h.send_places;
          })

  -- Packets

  -- what was told of halves was told still, as packets move
  pub due_other : (q : Packets) → ((i : Item) → WasPut q i → WasPut p i) → ((x : Piece) → IsCarried q.out x → IsCarried p.out x)
      → ((n v : ℕ) (l : RecvLane) → lookup recvs n ≡ Some l → TellsStop n l v → IsToldIn p (StopSending n v) → IsToldIn q (StopSending n v))
      → ((n v : ℕ) → ((w : ℕ) → WasPut p (MaxStreamData n w) → w ≤ v) → IsToldIn p (MaxStreamData n v) → IsToldIn q (MaxStreamData n v))
      → ((n : ℕ) (v : Reset) (l : SendLane) → lookup sends n ≡ Some l → TellsReset n l v → IsToldIn p (reset_at n v) → IsToldIn q (reset_at n v))
      → ((n v : ℕ) → ((w : ℕ) → WasPut p (StreamDataBlocked n w) → w ≤ v) → IsToldIn p (StreamDataBlocked n v) → IsToldIn q (StreamDataBlocked n v)) → AreDue r s recvs sends q t
  due_other q put out stop limit reset block =
      record {
        stops = right_other h.stops q (λ n v. put (StopSending n v)) (λ n v. out (Told (StopSending n v))) (λ n l v there tells within. stop n v l there tells);
        limits = right_other h.limits q (λ n v. put (MaxStreamData n v)) (λ n v. out (Told (MaxStreamData n v))) (λ n l v there tells within. limit n v (λ w was. (let le = within w was in let e = tells.0 in omega (arith, le, e))));
        resets = right_other h.resets q (λ n v. put (reset_at n v)) (λ n v. out (Told (reset_at n v))) (λ n l v there tells within. reset n v l there tells);
        blocks = right_other h.blocks q (λ n v. put (StreamDataBlocked n v)) (λ n v. out (Told (StreamDataBlocked n v))) (λ n l v there tells within. block n v (λ w was. blocked_le l w v (within w was) tells));
        recv_places = h.recv_places;
        send_places = h.send_places;
      }

  -- a piece goes into a packet, with the present item of a half if with one
  pub due_came : (k : ℕ) (x : Piece) (u : Tables (List ℕ)) → AreMarked x false recvs sends t u → ((n v : ℕ) → x ≡ Told (StopSending n v) → (l : RecvLane) × (lookup recvs n ≡ Some l) × HasStop l v × ((w : ℕ) → TellsStop n l w → w ≡ v))
      → ((n v : ℕ) → x ≡ Told (MaxStreamData n v) → (l : RecvLane) × (lookup recvs n ≡ Some l) × IsWithinLimit l v × ((w : ℕ) → TellsLimit r s n l w → w ≡ v))
      → ((n : ℕ) (v : Reset) → x ≡ Told (reset_at n v) → (l : SendLane) × (lookup sends n ≡ Some l) × HasReset l v × ((w : Reset) → TellsReset n l w → w ≡ v))
      → ((n v : ℕ) → x ≡ Told (StreamDataBlocked n v) → (l : SendLane) × (lookup sends n ≡ Some l) × HasBlocked l v × ((w : ℕ) → TellsBlock n l w → w ≡ v)) → AreDue r s recvs sends (came k x p) u
  due_came k x u marks stop limit reset block =
      record {
        stops = right_came h.stops k x (stop_telling x) (marks_of kinds.StopSending u) marks.stops stops_tell stop;
        limits = right_came h.limits k x (limit_telling x) (marks_of kinds.MaxStreamData u) marks.limits limits_tell limit;
        resets = right_came h.resets k x (reset_telling x) (marks_of kinds.ResetStream u) marks.resets resets_tell reset;
        blocks = right_came h.blocks k x (block_telling x) (marks_of kinds.StreamDataBlocked u) marks.blocks blocks_tell block;
        recv_places = places_more recvs t u marks.places h.recv_places;
        send_places = places_more sends t u marks.places h.send_places;
      }

  pub due_chunk : (k n : ℕ) (c : Chunk) → AreDue r s recvs sends (came k (Data n c) p) t
  due_chunk k n c = due_came k (Data n c) t (chunk_marked n c false recvs sends t t refl) (λ j v e. absurd (cc (e))) (λ j v e. absurd (cc (e))) (λ j v e. absurd (cc (e))) (λ j v e. absurd (cc (e)))

  -- the first piece of a packet is lost
  pub due_gone : (q : Packets) (k : ℕ) (x : Piece) (u : Tables (List ℕ)) → IsShorter p.out k x q.out → AreApartIn p.out → ((i : Item) → WasPut q i → WasPut p i) → q.acked ≡ p.acked → IsDueWithout x recvs sends t u → AreDue r s recvs sends q u
  due_gone q k x u short apart put known without = by_piece x refl without
    where
      put_in : (i : Item) → x ≡ Told i → WasPut p i
      put_in i is = inl (subst (IsCarried p.out) is (first_carried p.out q.out k x short))

      all : (b : Bool) → b ≡ is_now x recvs sends → (b ≡ true → AreMarked x true recvs sends t u) → (b ≡ false → u ≡ t) → AreDue r s recvs sends q u
      all b now on off = record {
        stops = right_lost h.stops q k x short apart put known (stop_telling x) (marks_of kinds.StopSending u) stops_tell b (λ is. (on is).stops) (λ is n. rw (off is) refl) (λ n v l is there. (λ on w tells. same_Some w v (sym tells.0 ∙ within_here h.stops n l v there (put_in (StopSending n v) is)), λ off. absurd (true≢false (sym (now ∙ ap (λ y. is_now y recvs sends) is) ∙ off))));
        limits = right_lost h.limits q k x short apart put known (limit_telling x) (marks_of kinds.MaxStreamData u) limits_tell b (λ is. (on is).limits) (λ is n. rw (off is) refl) (λ n v l is there. tells_goes (TellsLimit r s n l) (λ w. w ≡ l.limit) v b (λ w tells. tells.0) (limit_goes l.limit v b (now ∙ ap (λ y. is_now y recvs sends) is ∙ ap (λ (o : Option RecvLane). is_limit (option_map (λ (k : RecvLane). k.limit) o) v) there)));
        resets = right_lost h.resets q k x short apart put known (reset_telling x) (marks_of kinds.ResetStream u) resets_tell b (λ is. (on is).resets) (λ is n. rw (off is) refl) (λ n v l is there. (λ on w tells. same_Some w v (sym tells.0 ∙ within_here h.resets n l v there (put_in (reset_at n v) is)), λ off. absurd (true≢false (sym (now ∙ ap (λ y. is_now y recvs sends) is) ∙ off))));
        blocks = right_lost h.blocks q k x short apart put known (block_telling x) (marks_of kinds.StreamDataBlocked u) blocks_tell b (λ is. (on is).blocks) (λ is n. rw (off is) refl) (λ n v l is there. tells_goes (TellsBlock n l) (λ w. w ≡ l.limit) v b (λ w tells. tells.1) (limit_goes l.limit v b (now ∙ ap (λ y. is_now y recvs sends) is ∙ ap (λ (o : Option SendLane). is_limit (option_map (λ (k : SendLane). k.limit) o) v) there)));
        recv_places = places_more recvs t u (more b refl) h.recv_places;
        send_places = places_more sends t u (more b refl) h.send_places;
      }
        where
          more : (c : Bool) → b ≡ c → (m : ℕ) → HasPlace t m → HasPlace u m
          more true is = (on is).places
          more false is = λ m place. rw (off is) place

      by_piece : (y : Piece) → y ≡ x → IsDueWithout y recvs sends t u → AreDue r s recvs sends q u
      by_piece (Data n c) is same = all true (ap (λ z. is_now z recvs sends) is) (λ on. subst (λ z. AreMarked z true recvs sends t u) is (chunk_marked n c true recvs sends t u same)) (λ off. same)
      by_piece (Told i) is marks =
          all (is_present i recvs sends) (ap (λ z. is_now z recvs sends) is) (λ on. subst (λ z. AreMarked z true recvs sends t u) is (marked_is i true recvs sends t u h.recv_places h.send_places (marks.0 on))) marks.1

  -- Streams open

  pub due_placed : (u : Tables (List ℕ)) → HasMorePlaces t u → AreDue r s recvs sends p u
  due_placed u more =
      record {
        stops = right_as h.stops (marks_of kinds.StopSending u) (λ k. more.flags 4 k);
        limits = right_as h.limits (marks_of kinds.MaxStreamData u) (λ k. more.flags 5 k);
        resets = right_as h.resets (marks_of kinds.ResetStream u) (λ k. more.flags 3 k);
        blocks = right_as h.blocks (marks_of kinds.StreamDataBlocked u) (λ k. more.flags 7 k);
        recv_places = places_more recvs t u more.places h.recv_places;
        send_places = places_more sends t u more.places h.send_places;
      }

  -- there is a place for each stream of the type up to that one
  pub due_opened : (n limit buffer w : ℕ) (share : Share) (no_recv no_send : Bool) (now : Tables RecvLane) (nows : Tables SendLane) → ((k : ℕ) → k % 4 ≡ n % 4 → k ≤ n → HasPlace t k) → w ≡ first_window_by r s n → now ≡ cond no_recv recvs (open_to recvs n (λ k. new_recv_lane w share)) → nows ≡ cond no_send sends (open_to sends n (λ k. new_send_lane k limit buffer))
      → AreDue r s now nows p t
  due_opened n limit buffer w share no_recv no_send now nows placed window is are =
      record {
        stops = right_opens h.stops n no_recv now (λ k. new_recv_lane w share) is (λ k v kind tells. none-some v tells.0);
        limits = right_opens h.limits n no_recv now (λ k. new_recv_lane w share) is (λ k v kind tells. (let first = window ∙ window_at k kind in let e = tells.0 in let more = tells.1 in omega (arith, first, e, more)));
        resets = right_opens h.resets n no_send nows (λ k. new_send_lane k limit buffer) are (λ k v kind tells. none-some v tells.0);
        blocks = right_opens h.blocks n no_send nows (λ k. new_send_lane k limit buffer) are (λ k v kind tells. (let more = tells.2 in omega (arith, more)));
        recv_places = places_opened recvs t n no_recv now (λ k. new_recv_lane w share) placed is h.recv_places;
        send_places = places_opened sends t n no_send nows (λ k. new_send_lane k limit buffer) placed are h.send_places;
      }
    where
      window_at : (k : ℕ) → k % 4 ≡ n % 4 → first_window_by r s n ≡ first_window_by r s k
      window_at k kind = sym (window_same r s n (n % 4) refl (omega arith)) ∙ window_same r s k (n % 4) kind (omega arith)

  -- and are taken back
  due_back : (now : Tables RecvLane) (nows : Tables SendLane) (u : Tables (List ℕ)) → AreDue r s now nows p u → ((n : ℕ) (x : RecvLane) → lookup now n ≡ Some x → lookup recvs n ≡ Some x) → ((n : ℕ) (x : SendLane) → lookup nows n ≡ Some x → lookup sends n ≡ Some x) → AreDue r s now nows p t
  due_back now nows u was fewer less =
      record {
        stops = right_back h.stops now (marks_of kinds.StopSending u) was.stops fewer;
        limits = right_back h.limits now (marks_of kinds.MaxStreamData u) was.limits fewer;
        resets = right_back h.resets nows (marks_of kinds.ResetStream u) was.resets less;
        blocks = right_back h.blocks nows (marks_of kinds.StreamDataBlocked u) was.blocks less;
        recv_places = places_fewer recvs now t fewer h.recv_places;
        send_places = places_fewer sends nows t less h.send_places;
      }

  -- as lanes of a type from a count on are taken away
  pub due_closed : (mid now : Tables RecvLane) (nows : Tables SendLane) (n count counts : ℕ) → mid ≡ recvs → now ≡ with_table mid (n % 4) (take count (table mid (n % 4))) → nows ≡ with_table sends (n % 4) (take counts (table sends (n % 4))) → (u : Tables (List ℕ)) → AreDue r s now nows p u → AreDue r s now nows p t
  due_closed mid now nows n count counts is cut cuts u was =
      due_back now nows u was
      (λ k l at. closed_at recvs n count k l (sym (ap (λ (x : Tables RecvLane). lookup x k) (cut ∙ ap (λ (x : Tables RecvLane). with_table x (n % 4) (take count (table x (n % 4)))) is)) ∙ at))
      (λ k l at. closed_at sends n counts k l (sym (ap (λ (x : Tables SendLane). lookup x k) cuts) ∙ at))

pub first_is : (m : Records) (k : ℕ) (x : Piece) → first_piece (fmap.get m k) ≡ Some x → IsCarried m x
first_is m k x at = first_carried m _ k x (shortened_is m k x at)

-- What sending halves keep

-- a limit that rises leaves the stream below it
pub allowed_keeps : (limit : ℕ) (l : SendLane) → l.sent_end ≤ l.limit → KeepsReset l (allow_lane l limit) × KeepsBlock l (allow_lane l limit)
allowed_keeps limit l sent = (record { told = λ v has. has; tells = λ n v tells. tells }, record { told = λ v has. grind (arith, nat_tests); tells = λ n v tells. grind (arith, nat_tests) })

pub reset_keeps : (code : ℕ) (l : SendLane) → KeepsBlock l (reset_lane l code)
reset_keeps code l = grind (arith, nat_tests)

pub stop_taken_keeps : (answers : Bool) (code : ℕ) (l : SendLane) → KeepsBlock l (stop_taken answers l code)
stop_taken_keeps answers code l = grind (arith, nat_tests)

pub reset_same : (code : ℕ) (l : SendLane) → is_some l.was_reset ≡ true → reset_lane l code ≡ l
reset_same code l was = grind (arith, nat_tests)

pub stop_taken_same : (answers : Bool) (code : ℕ) (l : SendLane) → is_some l.was_reset ≡ true → stop_taken answers l code ≡ l
stop_taken_same answers code l was = grind (arith, nat_tests)
