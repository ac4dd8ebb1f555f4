-- What a look shows follows what was read, and is what is taken then.
use Rattle.std.proofs.Common.{◌≡◌, ℕ, suc, ◌+◌, ◌-◌, ◌≤◌, ◌==◌, Bool, true, false, if◌then◌else◌, List, [], ◌∷◌, ◌++◌, length, take, drop, Some, Ok, slice_get, refl, sym, ap, ◌∙◌, subst, arith, inl, inr, append-nil, length-append}
use Rattle.std.specs.Prelude.{flat_map}
use Rattle.std.proofs.lemmas.Bool.{eqb-true}
use Rattle.std.proofs.lemmas.Option.{none-some, same_Some}
use Rattle.std.proofs.lemmas.Grind.{flat_map-append}
use Rattle.qs_recv.specs.Assembled.{front, front_of}
use Rattle.qs_recv.specs.Lane.{RecvLane, bytes_of}
use Rattle.qs_recv.specs.Peek.{IsFront}
use Rattle.qs_recv.specs.declared.half.Peek.TheVariants as looks
use Rattle.qs_calls.specs.declared.settings.Settings.{Settings}
use Rattle.qs_calls.specs.declared.event.Side.{Side}
use Rattle.qs_calls.specs.declared.event.Side.TheVariants.{A, B}
use Rattle.qs_machine.specs.Tables.{lookup}
use Rattle.qs_machine.specs.Ends.{first_window}
use Rattle.qs_machine.specs.EndStep.{Call, Answer, EndStep, Peek}
use Rattle.qs_runs.specs.Logs.{Happening, History, other, same_side, effects, effects_of, gave_in, wrote_in, written, read, shown, shown_after}
use Rattle.qs_runs.specs.Worlds.{World, end_of, WorldStep, Run}
use Rattle.qs_runs.specs.Agree.{IsPrefixOf, IsTakenAsShown, ShownAgrees, EveryRunAgrees}
use Rattle.qs_runs.specs.Pasts.{past}
use Rattle.qs_runs.specs.Invariant.{WorldOk, RecvSlot, RecvOk}
use Rattle.qs_runs.proofs.Lists.{slice_get-append, slice_get-joined, slice_get-drop, prefix_by_place}
use Rattle.qs_runs.proofs.Members.{get-front}
use Rattle.qs_runs.proofs.Histories.{effects_here, effects_there, two_sides, back_again}
use Rattle.qs_runs.proofs.Runs.{run_keeps}
use Rattle.qs_runs.proofs.Clauses.{prefix, stored_is_written, read_is_written, agrees, step_agrees}

-- Lists

prefix_place : (xs ys : List ℕ) → IsPrefixOf xs ys → (i b : ℕ) → slice_get xs i ≡ Some b → slice_get ys i ≡ Some b
prefix_place xs ys (rest, e) i b is = subst (λ zs. slice_get zs i ≡ Some b) e (slice_get-append xs rest i b is)

prefix_more : (xs ys zs : List ℕ) → IsPrefixOf xs ys → IsPrefixOf xs (ys ++ zs)
prefix_more xs ys zs p = prefix_by_place xs (ys ++ zs) (λ i b is. slice_get-append ys zs i b (prefix_place xs ys p i b is))

-- two that go on from the same are equal as far as both go
both_go : (a b w : List ℕ) → IsPrefixOf a w → IsPrefixOf b w → take (length a) b ≡ take (length b) a
both_go [] [] w p q = refl
both_go [] (y ∷ b) w p q = refl
both_go (x ∷ a) [] w p q = refl
both_go (x ∷ a) (y ∷ b) [] p q = absurd (none-some x (prefix_place (x ∷ a) [] p 0 x refl))
both_go (x ∷ a) (y ∷ b) (z ∷ w) p q =
    let first : z ≡ x = same_Some z x (prefix_place (x ∷ a) (z ∷ w) p 0 x refl) in
    let second : z ≡ y = same_Some z y (prefix_place (y ∷ b) (z ∷ w) q 0 y refl) in
    let rest = both_go a b w (prefix_by_place a w (λ i c is. prefix_place (x ∷ a) (z ∷ w) p (suc i) c is)) (prefix_by_place b w (λ i c is. prefix_place (y ∷ b) (z ∷ w) q (suc i) c is)) in
    λ i. (sym second ∙ first) i ∷ rest i

-- as far as they follow what is before them
go_from : (r a b w : List ℕ) → IsPrefixOf (r ++ a) w → IsPrefixOf (r ++ b) w → take (length a) b ≡ take (length b) a
go_from [] a b w p q = both_go a b w p q
go_from (x ∷ r) a b [] p q = absurd (none-some x (prefix_place (x ∷ r ++ a) [] p 0 x refl))
go_from (x ∷ r) a b (z ∷ w) p q =
    go_from r a b w (prefix_by_place (r ++ a) w (λ i c is. prefix_place (x ∷ r ++ a) (z ∷ w) p (suc i) c is)) (prefix_by_place (r ++ b) w (λ i c is. prefix_place (x ∷ r ++ b) (z ∷ w) q (suc i) c is))

-- what was shown, less what was read of it, follows what is read then
still_follows : (r g s w : List ℕ) → IsPrefixOf (r ++ g) w → IsPrefixOf (r ++ s) w → IsPrefixOf ((r ++ g) ++ drop (length g) s) w
still_follows r g s w p q = prefix_by_place _ w by
  where
    by : (i b : ℕ) → slice_get ((r ++ g) ++ drop (length g) s) i ≡ Some b → slice_get w i ≡ Some b
    by i b is =
        elim (slice_get-joined (r ++ g) (drop (length g) s) i b is) [
          | inl old ↦ prefix_place (r ++ g) w p i b old
          | inr (le, there) ↦ prefix_place (r ++ s) w q i b (behind i b le (slice_get-drop (length g) s (i - length (r ++ g)) b there))
        ]
      where
        at_place : (k i b : ℕ) → slice_get s k ≡ Some b → i ≡ length r + k → slice_get (r ++ s) i ≡ Some b
        at_place k i b is same = subst (λ j. slice_get (r ++ s) j ≡ Some b) (sym same) (past r)
          where
            past : (r : List ℕ) → slice_get (r ++ s) (length r + k) ≡ Some b
            past [] = (let e : k ≡ 0 + k = omega arith in subst (λ j. slice_get s j ≡ Some b) e is)
            past (x ∷ r) = (let e : suc (length r + k) ≡ suc (length r) + k = omega arith in subst (λ j. slice_get (x ∷ r ++ s) j ≡ Some b) e (past r))

        behind : (i b : ℕ) → length (r ++ g) ≤ i → slice_get s (length g + (i - length (r ++ g))) ≡ Some b → slice_get (r ++ s) i ≡ Some b
        behind i b le is = at_place (length g + (i - length (r ++ g))) i b is (omega (arith, le, length-append r g))

-- The bytes that a look shows

-- they are stored where the reader is
front_stored : (l : RecvLane) (bytes : List ℕ) → IsFront l bytes → bytes ≡ front_of l.arrived (length bytes)
front_stored l bytes is = is.are ∙ ap (λ a. bytes_of a l (length bytes)) is.answer

module _ (a b : Settings) (h : History) (w : World) (ok : WorldOk a b h w) (s : Side) (n : ℕ) where
  look_follows : (l : RecvLane) (bytes : List ℕ) → lookup (end_of w (other s)).recvs n ≡ Some l → IsFront l bytes → IsPrefixOf (read (other s) n h ++ bytes) (written s n h)
  look_follows l bytes at is = prefix_by_place _ _ by
    where
      half : RecvOk (past (other s) h) n (first_window (end_of w (other s)) n) l
      half = subst (RecvSlot (past (other s) h) n (first_window (end_of w (other s)) n)) at ((ok.ends (other s)).recvs n)

      by : (i b : ℕ) → slice_get (read (other s) n h ++ bytes) i ≡ Some b → slice_get (written s n h) i ≡ Some b
      by i c there =
          elim (slice_get-joined (read (other s) n h) bytes i c there) [
            | inl old ↦ read_is_written a b h w ok s n i c old
            | inr (le, new) ↦ (
                let count : length (read (other s) n h) ≡ l.arrived.read_count = half.count in
                let stored = get-front l.arrived.stored l.arrived.read_count (length bytes) (i - length (read (other s) n h)) c (subst (λ bs. slice_get bs (i - length (read (other s) n h)) ≡ Some c) (front_stored l bytes is) new) in
                let place : l.arrived.read_count + (i - length (read (other s) n h)) ≡ i = omega (arith, le, count) in
                stored_is_written a b h w ok s n l i c at (rw place at stored))
          ]

-- What is shown follows what was read

-- of the stream as side t reads it, and the other side sends it
abbrev Follows : History → Side → ℕ → Type 0
Follows h t n = IsPrefixOf (read t n h ++ shown t n h) (written (other t) n h)

forth : (P : Side → Type 0) (t : Side) → P (other (other t)) → P t
forth P A is = is
forth P B is = is

same : (t : Side) → same_side t t ≡ true
same A = refl
same B = refl

not_same : (t : Side) → same_side (other t) t ≡ false
not_same A = refl
not_same B = refl

module _ (a b : Settings) (h : History) (w : World) (ok : WorldOk a b h w) (n : ℕ) where
  prefix_of : (t : Side) → IsPrefixOf (read t n h) (written (other t) n h)
  prefix_of A = (prefix a b h w ok B n).prefix
  prefix_of B = (prefix a b h w ok A n).prefix

  look_of : (t : Side) (l : RecvLane) (bytes : List ℕ) → lookup (end_of w t).recvs n ≡ Some l → IsFront l bytes → IsPrefixOf (read t n h ++ bytes) (written (other t) n h)
  look_of A l bytes at is = look_follows a b h w ok B n l bytes at is
  look_of B l bytes at is = look_follows a b h w ok A n l bytes at is

-- One happening more

module _ (a b : Settings) (h : History) (v w : World) (x : Happening) (ok : WorldOk a b h v) (after : WorldOk a b (x ∷ h) w) (step : WorldStep h v x w) (n : ℕ) (before : (t : Side) → Follows h t n) where
  -- what that call gave
  abbrev given : (call : Call) → Answer call → List ℕ
  given call answer = flat_map (gave_in n) (effects_of call answer)

  read_here : read x.end n (x ∷ h) ≡ read x.end n h ++ given x.call x.answer
  read_here = ap (flat_map (gave_in n)) (effects_here x h) ∙ flat_map-append (gave_in n) (effects x.end h) (effects_of x.call x.answer)

  read_there : read (other x.end) n (x ∷ h) ≡ read (other x.end) n h
  read_there = ap (flat_map (gave_in n)) (effects_there x h)

  written_here : written x.end n (x ∷ h) ≡ written x.end n h ++ flat_map (wrote_in n) (effects_of x.call x.answer)
  written_here = ap (flat_map (wrote_in n)) (effects_here x h) ∙ flat_map-append (wrote_in n) (effects x.end h) (effects_of x.call x.answer)

  written_there : written (other x.end) n (x ∷ h) ≡ written (other x.end) n h
  written_there = ap (flat_map (wrote_in n)) (effects_there x h)

  shown_here : shown x.end n (x ∷ h) ≡ shown_after n x.call x.answer (shown x.end n h)
  shown_here = ap (λ b. if b then shown_after n x.call x.answer (shown x.end n h) else shown x.end n h) (same x.end)

  shown_there : shown (other x.end) n (x ∷ h) ≡ shown (other x.end) n h
  shown_there = ap (λ b. if b then shown_after n x.call x.answer (shown (other x.end) n h) else shown (other x.end) n h) (not_same x.end)

  -- what is read then
  goes_on : IsPrefixOf (read x.end n h ++ given x.call x.answer) (written (other x.end) n h)
  goes_on = subst (λ xs. IsPrefixOf xs (written (other x.end) n h)) read_here (subst (IsPrefixOf (read x.end n (x ∷ h))) written_there (prefix_of a b (x ∷ h) w after n x.end))

  -- the reader made the call
  by_call : (call : Call) (answer : Answer call) → EndStep (end_of v x.end) call answer (end_of w x.end) → IsPrefixOf (read x.end n h ++ given call answer) (written (other x.end) n h) →
      IsPrefixOf ((read x.end n h ++ given call answer) ++ shown_after n call answer (shown x.end n h)) (written (other x.end) n h)
  by_call (Peek m) (Ok (looks.Bytes front back)) (peeked, stays) p = go (n == m) refl
    where
      go : (c : Bool) → (n == m) ≡ c → IsPrefixOf ((read x.end n h ++ []) ++ (if c then front.now ++ back.now else shown x.end n h)) (written (other x.end) n h)
      go true e =
          let (fine, l, at, is) = peeked in
          let there : lookup (end_of v x.end).recvs n ≡ Some l = subst (λ k. lookup (end_of v x.end).recvs k ≡ Some l) (sym (eqb-true n m e)) at in
          subst (λ xs. IsPrefixOf (xs ++ (front.now ++ back.now)) (written (other x.end) n h)) (sym (append-nil (read x.end n h))) (look_of a b h v ok n x.end l (front.now ++ back.now) there is)
      go false e = subst (λ xs. IsPrefixOf (xs ++ shown x.end n h) (written (other x.end) n h)) (sym (append-nil (read x.end n h))) (before x.end)
  by_call (Peek m) answer step p = none answer (n == m)
    where
      none : (r : Answer (Peek m)) (c : Bool) → IsPrefixOf ((read x.end n h ++ []) ++ (if c then [] else shown x.end n h)) (written (other x.end) n h)
      none r true = subst (λ xs. IsPrefixOf xs (written (other x.end) n h)) (sym (append-nil (read x.end n h ++ []))) p
      none r false = subst (λ xs. IsPrefixOf (xs ++ shown x.end n h) (written (other x.end) n h)) (sym (append-nil (read x.end n h))) (before x.end)
  by_call call answer step p = still_follows (read x.end n h) (given call answer) (shown x.end n h) (written (other x.end) n h) p (before x.end)

  follows_here : Follows (x ∷ h) x.end n
  follows_here =
      subst (IsPrefixOf (read x.end n (x ∷ h) ++ shown x.end n (x ∷ h))) (sym written_there)
      (subst (λ xs. IsPrefixOf (xs ++ shown x.end n (x ∷ h)) (written (other x.end) n h)) (sym read_here)
      (subst (λ ys. IsPrefixOf ((read x.end n h ++ given x.call x.answer) ++ ys) (written (other x.end) n h)) (sym shown_here) (by_call x.call x.answer step.step goes_on)))

  follows_there : Follows (x ∷ h) (other x.end) n
  follows_there =
      back_again (λ u. IsPrefixOf (read (other x.end) n (x ∷ h) ++ shown (other x.end) n (x ∷ h)) (written u n (x ∷ h))) x.end
      (subst (IsPrefixOf (read (other x.end) n (x ∷ h) ++ shown (other x.end) n (x ∷ h))) (sym written_here)
      (prefix_more _ _ _
      (subst (λ xs. IsPrefixOf (xs ++ shown (other x.end) n (x ∷ h)) (written x.end n h)) (sym read_there)
      (subst (λ ys. IsPrefixOf (read (other x.end) n h ++ ys) (written x.end n h)) (sym shown_there)
      (forth (λ u. IsPrefixOf (read (other x.end) n h ++ shown (other x.end) n h) (written u n h)) x.end (before (other x.end)))))))

  follow : (t : Side) → Follows (x ∷ h) t n
  follow t = two_sides (λ t. Follows (x ∷ h) t n) x.end follows_here follows_there t

  as_shown : IsTakenAsShown n (x ∷ h)
  as_shown = go_from (read x.end n h) (given x.call x.answer) (shown x.end n h) (written (other x.end) n h) goes_on (before x.end)

-- Each run

follows : (a b : Settings) (h : History) (w : World) → Run a b h w → (n : ℕ) (t : Side) → Follows h t n
unfolding effects
follows a b [] w begins n t = (written (other t) n [], refl)
follows a b (x ∷ h) w (v, run, step) n t = follow a b h v w x (run_keeps a b h v run) (run_keeps a b (x ∷ h) w (v, run, step)) step n (follows a b h v run n) t

taken_as_shown : (a b : Settings) (h : History) (w : World) → Run a b h w → (n : ℕ) → IsTakenAsShown n h
taken_as_shown a b [] w begins n = tt
taken_as_shown a b (x ∷ h) w (v, run, step) n = as_shown a b h v w x (run_keeps a b h v run) (run_keeps a b (x ∷ h) w (v, run, step)) step n (follows a b h v run n)

pub shown_agrees : (a b : Settings) (h : History) (w : World) → Run a b h w → (s : Side) (n : ℕ) → ShownAgrees h s n
shown_agrees a b h w run A n = record { follows = follows a b h w run n B; taken = taken_as_shown a b h w run n }
shown_agrees a b h w run B n = record { follows = follows a b h w run n A; taken = taken_as_shown a b h w run n }

pub every_run_agrees : EveryRunAgrees
every_run_agrees a b h w run =
    let ok : WorldOk a b h w = run_keeps a b h w run in
    (agrees a b h w ok (shown_agrees a b h w run), λ x new s. step_agrees a b h w ok x new s)
