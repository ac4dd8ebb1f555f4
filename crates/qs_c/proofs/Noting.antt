-- What a payload newly acknowledges finds a place in the slice, and is noted there in turn.
use Rattle.std.proofs.Common.{◌≡◌, ℕ, zero, suc, ◌+◌, ◌≤◌, Bool, true, false, not, List, [], ◌∷◌, ◌++◌, length, take, drop, None, Some, is_some, Result, Ok, Err, nat_eq, IsTrue, MatchBool, Option, refl, sym, ap, ◌∙◌, subst, arith}
use Rattle.std.specs.Prelude.{nat_lt, reverse, slice_set}
use Rattle.std.specs.List.{filter, FoldsTo}
use Rattle.std.specs.FinMap as fmap
use Rattle.std.proofs.lemmas.Bool.{both_ways}
use Rattle.std.proofs.lemmas.Bool.Decides.{nat_tests}
use Rattle.std.proofs.lemmas.List.{append_assoc, drop-set-lt, length-append, length-reverse, take-append-drop, take_more_set}
use Rattle.std.proofs.lemmas.List.Filters.{length-filter_both}
use Rattle.qs_machine.specs.Ends.{End, Records}
use Rattle.qs_machine.specs.Asking.{IsLeastFrom, IsNextOutstanding}
use Rattle.qs_machine.specs.FrameStep.{is_named}
use Rattle.qs_machine.specs.Newly.{newly_acked, in_turn, gone}
use Rattle.qs_machine.specs.Seen.{Seen, Ack, Stream, Control, Close, Plain, seen_all}
use Rattle.qs_machine.proofs.Named.{filter_first, filter_held, filter_empty}
use Rattle.qs_wire.specs.Grammar.{frames_of}
use Rattle.qs_wire.specs.Reading.{reading_of}
use Rattle.qs_machine.specs.Receiving.{ReceiveStep}
use Rattle.qs_calls.specs.declared.closing.Closing.{Closing}
use Rattle.qs_calls.specs.declared.closing.Received.{Received}
use Rattle.qs_calls.specs.declared.closing.Received.TheVariants as received
use Rattle.qs_c.specs.declared.structs.GvClosing.{GvClosing}
use Rattle.qs_c.specs.Statuses.{received_told}
use Rattle.qs_c.specs.Telling.{LieWithin, NotesOne, Tells, TellingOut, TellingStep}
use Rattle.qs_c.specs.declared.telling.Notes.{Notes}

-- How many there are

at_most : (p : ℕ → Bool) (ns : List ℕ) → length (filter p ns) ≤ length ns
at_most p ns = let both = length-filter_both p (λ n. not (p n)) (λ n. refl) ns in omega (arith, both)

filter_always : (ns : List ℕ) → filter (λ n. true) ns ≡ ns
filter_always [] = refl
filter_always (n ∷ ns) = ap (λ ms. n ∷ ms) (filter_always ns)

-- each packet is told once at most
turn_fits : (fs : List Seen) (ns : List ℕ) → length (in_turn fs ns) ≤ length ns
turn_fits [] ns = omega arith
turn_fits (Ack largest ranges ∷ fs) ns =
    let here = length-reverse (filter (is_named ranges) ns) in
    let both = length-filter_both (is_named ranges) (λ n. not (is_named ranges n)) (λ n. refl) ns in
    let rest = turn_fits fs (filter (λ n. not (is_named ranges n)) ns) in
    let all = length-append (reverse (filter (is_named ranges) ns)) (in_turn fs (filter (λ n. not (is_named ranges n)) ns)) in
    omega (arith, here, both, rest, all)
turn_fits (Stream stream offset bytes fin ∷ fs) ns = turn_fits fs ns
turn_fits (Control item ∷ fs) ns = turn_fits fs ns
turn_fits (Close code ∷ fs) ns = omega arith
turn_fits (Plain asks ∷ fs) ns = turn_fits fs ns

-- so many packets at most lie within so many numbers
module _ (m : Records) (least : ℕ) (is_least : IsLeastFrom m 0 least) where
  counted : (r : ℕ) → length (filter (λ j. nat_lt j (least + r)) (fmap.keys m)) ≤ r
  counted zero = let none = filter_empty m (λ j. nat_lt j (least + zero)) (λ j held. (let above = is_least.least j (omega arith) held in grind (arith, nat_tests, above))) in let same = ap length none in omega (arith, same)
  counted (suc r) = go (counted r) (is_some (fmap.get m (least + r))) refl
    where
      go : length (filter (λ j. nat_lt j (least + r)) (fmap.keys m)) ≤ r → (b : Bool) → is_some (fmap.get m (least + r)) ≡ b → length (filter (λ j. nat_lt j (least + suc r)) (fmap.keys m)) ≤ suc r
      go rest true here =
          let first = filter_first m (λ j. nat_lt j (least + suc r)) (λ j. nat_lt j (least + r)) (least + r) here (grind (arith, nat_tests)) (λ j above. grind (arith, nat_tests, above)) (λ j below. grind (arith, nat_tests, below)) (λ j above held. grind (arith, nat_tests, above)) in
          let long = sym (length-reverse (filter (λ j. nat_lt j (least + suc r)) (fmap.keys m))) ∙ ap length first ∙ ap suc (length-reverse (filter (λ j. nat_lt j (least + r)) (fmap.keys m))) in
          omega (arith, long, rest)
      go rest false off =
          let same = filter_held m (λ j. nat_lt j (least + suc r)) (λ j. nat_lt j (least + r)) (λ j held. other j held) in
          let long = ap length same in
          omega (arith, long, rest)
        where
          other : (j : ℕ) → is_some (fmap.get m j) ≡ true → nat_lt j (least + suc r) ≡ nat_lt j (least + r)
          other j held = grind (arith, nat_tests, here)
            where
              here : j ≡ least + r → ⊥
              here same = both_ways (is_some (fmap.get m (least + r))) off (subst (λ i. is_some (fmap.get m i) ≡ true) same held)

  pub keys_fit : (room : ℕ) → IsNextOutstanding m (least + room) None → length (fmap.keys m) ≤ room
  keys_fit room none =
      let same = filter_held m (λ j. true) (λ j. nat_lt j (least + room)) (λ j held. below j held) in
      let long = ap length (sym (filter_always (fmap.keys m)) ∙ same) in
      let rest = counted room in
      omega (arith, long, rest)
    where
      below : (j : ℕ) → is_some (fmap.get m j) ≡ true → true ≡ nat_lt j (least + room)
      below j held = go (nat_lt j (least + room)) refl
        where
          go : (b : Bool) → nat_lt j (least + room) ≡ b → true ≡ nat_lt j (least + room)
          go true is = sym is
          go false is = absurd (both_ways (is_some (fmap.get m j)) (none j (grind (arith, nat_tests, is))) held)

pub none_fit : (m : Records) (room : ℕ) → IsNextOutstanding m 0 None → length (fmap.keys m) ≤ room
none_fit m room none =
    let empty = ap length (sym (filter_always (fmap.keys m)) ∙ filter_empty m (λ j. true) (λ j held. absurd (both_ways (is_some (fmap.get m j)) (none j (omega arith)) held))) in
    omega (arith, empty)

-- the packets that a payload newly acknowledges are no more than were outstanding
pub newly_fit : (e f : End) (payload : List ℕ) (room : ℕ) → length (fmap.keys e.outstanding) ≤ room → length (newly_acked e payload f) ≤ room
newly_fit e f payload room fits =
    let turn = turn_fits (seen_all (frames_of (reading_of payload).left)) (gone e f) in
    let most = at_most (λ n. not (fmap.contains_key f.outstanding n)) (fmap.keys e.outstanding) in
    omega (arith, turn, most, fits)

-- What is noted

-- these numbers stand in the same slice behind those before
record Noted (ns : List ℕ) (s t : Notes) : Type 0 where
  pub same_room : t.room.ghost_name ≡ s.room.ghost_name
  pub count : t.count ≡ s.count + length ns
  pub room : t.room.now ≡ take s.count s.room.now ++ (ns ++ drop (s.count + length ns) s.room.now)

all_noted : (ns : List ℕ) (s t : Notes) → FoldsTo NotesOne s ns t → s.count + length ns ≤ length s.room.now → Noted ns s t
all_noted [] s t same fits =
    subst (λ u. Noted [] s u) same (record {
      same_room = refl;
      count = omega arith;
      room = sym (take-append-drop s.count s.room.now) ∙ ap (λ k. take s.count s.room.now ++ drop k s.room.now) (omega arith);
    })
all_noted (n ∷ ns) s t (j, one, rest) fits =
    let here = one.noted (omega (arith, fits)) in
    let then = all_noted ns j t rest (omega (arith, fits, here.0, one.long)) in
    let c : j.count ≡ s.count + 1 = here.0 in
    let r : j.room.now ≡ slice_set s.room.now s.count n = here.1 in
    record {
      same_room = then.same_room ∙ one.same_room;
      count = omega (arith, then.count, c);
      room = then.room ∙ seam c r;
    }
  where
    seam : j.count ≡ s.count + 1 → j.room.now ≡ slice_set s.room.now s.count n
        → take j.count j.room.now ++ (ns ++ drop (j.count + length ns) j.room.now) ≡ take s.count s.room.now ++ ((n ∷ ns) ++ drop (s.count + length (n ∷ ns)) s.room.now)
    seam c r =
        ap (λ k. take k j.room.now ++ (ns ++ drop (k + length ns) j.room.now)) c
        ∙ ap (λ xs. take (s.count + 1) xs ++ (ns ++ drop (s.count + 1 + length ns) xs)) r
        ∙ ap (λ xs. xs ++ (ns ++ drop (s.count + 1 + length ns) (slice_set s.room.now s.count n))) (take_more_set s.room.now s.count n (omega (arith, fits)))
        ∙ ap (λ xs. (take s.count s.room.now ++ n ∷ []) ++ (ns ++ xs)) (drop-set-lt (s.count + 1 + length ns) s.room.now s.count n (omega arith) ∙ ap (λ k. drop k s.room.now) (omega arith))
        ∙ append_assoc (take s.count s.room.now) (n ∷ []) (ns ++ drop (s.count + length (n ∷ ns)) s.room.now)

-- From an empty slice's front on what is told stands there in turn.
pub noted : (ns : List ℕ) (s t : Notes) → FoldsTo NotesOne s ns t → s.count ≡ 0 → length ns ≤ length s.room.now → (t.room.ghost_name ≡ s.room.ghost_name) × (t.count ≡ length ns) × (t.room.now ≡ ns ++ drop (length ns) s.room.now)
noted ns s t folds none fits =
    let all = all_noted ns s t folds (omega (arith, none, fits)) in
    (all.same_room, omega (arith, all.count, none), all.room ∙ ap (λ c. take c s.room.now ++ (ns ++ drop (c + length ns) s.room.now)) none ∙ ap (λ k. ns ++ drop k s.room.now) (omega arith))

-- The call

-- where none of these packets lies beyond so many numbers they are no more than that
pub few : (d e : End) (room least past : ℕ) (first second : Option ℕ) (is : Bool) → d ≡ e → IsNextOutstanding d.outstanding 0 first → first ≡ Some least → past ≡ least + room → IsNextOutstanding d.outstanding past second → is_some second ≡ not is
    → IsTrue is → length (fmap.keys e.outstanding) ≤ room
few d e room least past first second is same begins some far next none holds =
    subst (λ (x : End). length (fmap.keys x.outstanding) ≤ room) same
    (keys_fit d.outstanding least (subst (λ o. IsNextOutstanding d.outstanding 0 o) some begins) room
    (subst (λ p. IsNextOutstanding d.outstanding p None) far (no_more second is next none holds)))
  where
    no_more : (o : Option ℕ) (b : Bool) → IsNextOutstanding d.outstanding past o → is_some o ≡ not b → IsTrue b → IsNextOutstanding d.outstanding past None
    no_more None b next none holds = next
    no_more (Some k) true next none holds = absurd (both_ways true none refl)
    no_more (Some k) false next none holds = absurd (both_ways true (sym holds) refl)

-- no answer of a payload is told by the status of too little room
other_status : (a : Result Received Closing) (was : GvClosing) → nat_eq (received_told a was).0 22 ≡ false
other_status (Ok received.Done) was = refl
other_status (Ok received.NoMemory) was = refl
other_status (Ok received.Duplicate) was = refl
other_status (Ok received.BelowFloor) was = refl
other_status (Ok (received.PeerClosed code)) was = refl
other_status (Err closing) was = refl

-- what was noted in the slice is what is told
pub telling : (number : ℕ) (payload : List ℕ) (d e f : End) (status count : ℕ) (was is : GvClosing) (numbers last : List ℕ) (a : Result Received Closing) (s t : Notes)
    → d ≡ e → LieWithin e.outstanding (length numbers) → length (fmap.keys e.outstanding) ≤ length numbers → (status, is) ≡ received_told a was → ReceiveStep d number payload a f
    → FoldsTo NotesOne s (newly_acked d payload f) t → s.count ≡ 0 → s.room.now ≡ numbers → last ≡ t.room.now
    → TellingStep number payload e f status (record { closing = was; numbers = numbers; count = count }) (record { closing = is; numbers = last; count = t.count })
telling number payload d e f status count was is numbers last a s t same within most told step folds none room ends =
    let folds_on : FoldsTo NotesOne s (newly_acked e payload f) t = subst (λ (x : End). FoldsTo NotesOne s (newly_acked x payload f) t) same folds in
    let fits : length (newly_acked e payload f) ≤ length s.room.now = subst (λ xs. length (newly_acked e payload f) ≤ length xs) (sym room) (newly_fit e f payload (length numbers) most) in
    let all = noted (newly_acked e payload f) s t folds_on none fits in
    subst (λ b. MatchBool b ((LieWithin e.outstanding (length numbers) → ⊥) × (f ≡ e) × (after ≡ before)) (Tells number payload e f status before after))
    (sym (ap (λ p. nat_eq p.0 22) told ∙ other_status a was))
    (record {
      within = within;
      answer = a;
      told = told;
      step = subst (λ (x : End). ReceiveStep x number payload a f) same step;
      numbers = ends ∙ all.2 ∙ ap (λ xs. newly_acked e payload f ++ drop (length (newly_acked e payload f)) xs) room;
      count = all.1;
    })
  where
    before : TellingOut
    before = record { closing = was; numbers = numbers; count = count }

    after : TellingOut
    after = record { closing = is; numbers = last; count = t.count }

-- and it is the same slice still
pub same_slice : (d e f : End) (payload : List ℕ) (s t : Notes) → length (fmap.keys e.outstanding) ≤ length s.room.now → d ≡ e → FoldsTo NotesOne s (newly_acked d payload f) t → s.count ≡ 0 → t.room.ghost_name ≡ s.room.ghost_name
same_slice d e f payload s t most same folds none =
    let on = subst (λ (x : End). FoldsTo NotesOne s (newly_acked x payload f) t) same folds in
    (noted (newly_acked e payload f) s t on none (newly_fit e f payload (length s.room.now) most)).0
