-- How many streams ended and what is stored: bounds, sums over the halves of a type, and counts that never fall.
use Rattle.std.proofs.Common.{◌≡◌, ℕ, zero, suc, ◌+◌, ◌-◌, ◌*◌, ◌/◌, ◌%◌, ◌<◌, ◌≤◌, Bool, true, false, cond, List, [], ◌∷◌, length, map, Option, None, Some, slice_get, refl, sym, ap, ◌∙◌, subst, arith, not, ◌&&◌, ◌||◌, is_some, ◌++◌, take}
use Rattle.std.specs.Prelude.{max, zip, Ok}
use Rattle.std.specs.List.{filter, sum_by}
use Rattle.std.proofs.lemmas.Option.{none-some, same_Some}
use Rattle.std.proofs.lemmas.Bool.{and_parts, and_from, cond_both}
use Rattle.std.proofs.lemmas.Nat.{le-div, mod_below}
use Rattle.std.proofs.Math.Nat.{mul-le-mul_right}
use Rattle.qs_wire.specs.declared.stream_id.Dir.{Dir}
use Rattle.qs_wire.specs.declared.stream_id.Dir.TheVariants.{Bidi, Uni}
use Rattle.qs_wire.specs.declared.stream_id.Role.{Role}
use Rattle.qs_recv.specs.Lane.{RecvLane, raise, highest, taken, new_lane, noted, MAX_WINDOW}
use Rattle.qs_send.specs.Lane.{SendLane}
use Rattle.qs_calls.specs.declared.settings.Settings.{Settings}
use Rattle.qs_calls.specs.declared.settings.Tuning.{Tuning}
use Rattle.qs_recv.specs.declared.credit.Share.{Share}
use Rattle.qs_machine.specs.Tables.{Tables, table, lookup, each, total, no_streams}
use Rattle.qs_machine.specs.Ends.{End, role_bit, peer_type, new_end, end_made, wide_end_made, end_unless}
use Rattle.qs_machine.specs.Credit.{recv_ended, send_ended, both_ended, ended, lifetime, count_step, in_steps, count_after, next_count, settle, spent, all_taken, all_stored, granted_streams}
use Rattle.qs_machine.specs.Standing.{CountsStand, CountsAreSettled, CountsRise, HasLawfulLane, IsInCredit, IsSound, IsWithinCredit}
use Rattle.qs_machine.proofs.EndedHalves.{RecvStays, SendStays}
use Rattle.qs_machine.proofs.TablesAfter.{KeptIn}
use Rattle.std.specs.FinMap as fmap
use Rattle.std.specs.Ordering.{nat_cmp}
use Rattle.std.proofs.lemmas.Bool.Decides.{nat_tests}
use Rattle.qs_ranges.proofs.Sets.{below-end_of, end_of-empty, starts_below_end}
use Rattle.qs_recv.specs.Lawful.{IsLawful}
use Rattle.qs_recv.proofs.LawfulLaws.{len_within, stored_within, taken_within, lawful_new, lawful_raise}
use Rattle.qs_calls.specs.declared.settings.PeerLimits.{PeerLimits}
use Rattle.qs_calls.specs.declared.settings.SetupFault.{SetupFault}
use Rattle.qs_calls.specs.declared.settings.SetupFault.TheVariants.{OutOfRange, TooManyStreams}
use Rattle.qs_calls.specs.Settings.{are_in_wide_range, are_spellable, are_countable, setup_fault, wide_setup_fault, default_tuning}
use Rattle.qs_machine.proofs.TableLaws.{value, total_le, total_both}
use Rattle.std.specs.FinSet as set
use Rattle.std.proofs.lemmas.List.Sums.{sum_by-cons, sum_by-append}
use Rattle.std.proofs.Math.ListN.{set}
use Rattle.qs_machine.specs.declared.tally.Tally.{Tally}
use Rattle.qs_machine.specs.Sums.{stored_on, tally_on, IsPaid, EachLawful}

-- How many streams ended: no fewer where halves that ended stay so, and as many once limits were raised.

-- Lists

one_more : {X Y : Type 0} (b c : Bool) (x : X) (y : Y) (xs : List X) (ys : List Y) → (b ≡ true → c ≡ true) → length xs ≤ length ys → length (cond b (x ∷ xs) xs) ≤ length (cond c (y ∷ ys) ys)
one_more b c x y xs ys stays le = grind arith

same_more : {X Y : Type 0} (b : Bool) (x : X) (y : Y) (xs : List X) (ys : List Y) → length xs ≡ length ys → length (cond b (x ∷ xs) xs) ≡ length (cond b (y ∷ ys) ys)
same_more b x y xs ys e = grind arith

-- each place of the first list is one of the second, and keeps what R says
abbrev KeptAt : {X : Type 0} → (X → X → Type 0) → List X → List X → Type 0
KeptAt {X} R xs ys = (i : ℕ) (x : X) → slice_get xs i ≡ Some x → (y : X) × (slice_get ys i ≡ Some y) × R x y

first_kept : {X : Type 0} (R : X → X → Type 0) (x y : X) (xs ys : List X) → KeptAt R (x ∷ xs) (y ∷ ys) → R x y
first_kept R x y xs ys kept = let (z, is, r) = kept 0 x refl in subst (R x) (sym (same_Some y z is)) r

none_kept : {X : Type 0} (R : X → X → Type 0) (x : X) (xs : List X) → KeptAt R (x ∷ xs) [] → ⊥
none_kept R x xs kept = let (z, is, r) = kept 0 x refl in none-some z is

recvs_grow : (xs ys : List RecvLane) → KeptAt RecvStays xs ys → length (filter recv_ended xs) ≤ length (filter recv_ended ys)
recvs_grow [] ys kept = omega arith
recvs_grow (x ∷ xs) [] kept = absurd (none_kept RecvStays x xs kept)
recvs_grow (x ∷ xs) (y ∷ ys) kept =
    one_more (recv_ended x) (recv_ended y) x y (filter recv_ended xs) (filter recv_ended ys) (first_kept RecvStays x y xs ys kept) (recvs_grow xs ys (λ i. kept (suc i)))

both_grow : (rs ts : List RecvLane) (xs ys : List SendLane) → KeptAt RecvStays rs ts → KeptAt SendStays xs ys → length (filter both_ended (zip rs xs)) ≤ length (filter both_ended (zip ts ys))
both_grow (r ∷ rs) [] (x ∷ xs) ys a b = absurd (none_kept RecvStays r rs a)
both_grow (r ∷ rs) (t ∷ ts) (x ∷ xs) [] a b = absurd (none_kept SendStays x xs b)
both_grow (r ∷ rs) (t ∷ ts) (x ∷ xs) (y ∷ ys) a b =
    one_more (both_ended (r, x)) (both_ended (t, y)) (r, x) (t, y) (filter both_ended (zip rs xs)) (filter both_ended (zip ts ys))
    (λ h. (let (p, q) = and_parts (recv_ended r) (send_ended x) h in and_from (recv_ended t) (send_ended y) (first_kept RecvStays r t rs ts a p) (first_kept SendStays x y xs ys b q)))
    (both_grow rs ts xs ys (λ i. a (suc i)) (λ i. b (suc i)))
both_grow _ ts xs ys a b = omega arith

pub recvs_raised : (xs : List RecvLane) → length (filter recv_ended (map raise xs)) ≡ length (filter recv_ended xs)
recvs_raised [] = refl
recvs_raised (x ∷ xs) = same_more (recv_ended x) (raise x) x (filter recv_ended (map raise xs)) (filter recv_ended xs) (recvs_raised xs)

both_raised : (rs : List RecvLane) (xs : List SendLane) → length (filter both_ended (zip (map raise rs) xs)) ≡ length (filter both_ended (zip rs xs))
both_raised (r ∷ rs) (x ∷ xs) = same_more (both_ended (r, x)) (raise r, x) (r, x) (filter both_ended (zip (map raise rs) xs)) (filter both_ended (zip rs xs)) (both_raised rs xs)
both_raised _ xs = refl

-- Tables

kept_table : {X : Type 0} (R : X → X → Type 0) (t u : Tables X) (k : ℕ) → k < 4 → KeptIn R t u → KeptAt R (table t k) (table u k)
unfolding lookup
kept_table {X} R t u k few kept i x is = let (y, there, r) = kept (i * 4 + k) x (at t ∙ is) in (y, sym (at u) ∙ there, r)
  where
    at : (v : Tables X) → slice_get (table v ((i * 4 + k) % 4)) ((i * 4 + k) / 4) ≡ slice_get (table v k) i
    at v = ap (λ j. slice_get (table v j) ((i * 4 + k) / 4)) (omega arith) ∙ ap (slice_get (table v k)) (omega arith)

each_table : {X : Type 0} (f : X → X) (t : Tables X) (k : ℕ) → table (each f t) k ≡ map f (table t k)
unfolding each
each_table f t k = grind arith

-- Whole steps

-- a step is one stream at least
pub one_step : (o : Option Share) (grant : ℕ) → 0 < count_step o grant
one_step o grant = grind arith

-- whole steps are at most all
pub steps_within : (k n : ℕ) → 0 < k → in_steps k n ≤ n
steps_within k n pos = omega (arith, mod_below n k pos)

-- more streams make no fewer whole steps, and no lower count
steps_more : (k a b : ℕ) → 0 < k → a ≤ b → in_steps k a ≤ in_steps k b
steps_more k a b pos le = mul-le-mul_right k (le-div (a / k) b k pos (omega (arith, le, steps_within k a pos)))

pub count_more : (s : Settings) (t : Tuning) (d : Dir) (grant a b : ℕ) → a ≤ b → count_after s t d grant a ≤ count_after s t d grant b
count_more s t d grant a b le = (let more = steps_more (count_step t.count_step grant) a b (one_step t.count_step grant) le in omega (arith, more))

-- Ends

pub bidi_few : (r : Role) → 1 - role_bit r < 4
bidi_few r = omega arith

pub uni_few : (r : Role) → 3 - role_bit r < 4
uni_few r = omega arith

-- at least as many streams ended
pub ended_grows : (a b : End) → b.role ≡ a.role → KeptIn RecvStays a.recvs b.recvs → KeptIn SendStays a.sends b.sends → (d : Dir) → ended a d ≤ ended b d
ended_grows a b role recvs sends Bidi =
    subst (λ r. ended a Bidi ≤ length (filter both_ended (zip (table b.recvs (1 - role_bit r)) (table b.sends (1 - role_bit r))))) (sym role)
    (both_grow (table a.recvs (peer_type a Bidi)) (table b.recvs (peer_type a Bidi)) (table a.sends (peer_type a Bidi)) (table b.sends (peer_type a Bidi))
    (kept_table RecvStays a.recvs b.recvs (peer_type a Bidi) (bidi_few a.role) recvs) (kept_table SendStays a.sends b.sends (peer_type a Bidi) (bidi_few a.role) sends))
ended_grows a b role recvs sends Uni =
    subst (λ r. ended a Uni ≤ length (filter recv_ended (table b.recvs (3 - role_bit r)))) (sym role)
    (recvs_grow (table a.recvs (peer_type a Uni)) (table b.recvs (peer_type a Uni)) (kept_table RecvStays a.recvs b.recvs (peer_type a Uni) (uni_few a.role) recvs))

-- Limits that rise end no stream.
pub ended_settle : (e : End) (d : Dir) → ended (settle e) d ≡ ended e d
ended_settle e d = grind (arith, nat_tests, each_table, both_raised, recvs_raised)

greater_twice : (g c : ℕ) → max (max g c) c ≡ max g c
greater_twice g c = omega arith

pub next_settle : (e : End) (d : Dir) → next_count (settle e) d ≡ next_count e d
next_settle e d = grind (arith, nat_tests, ended_settle, greater_twice)

pub counts_settle : (e : End) → CountsAreSettled (settle e)
counts_settle e d = grind (arith, nat_tests, next_settle)

pub counts_stand : (e : End) → CountsStand e → CountsStand (settle e)
counts_stand e h = (omega (arith, h.0), omega (arith, h.1))

-- no count falls where those of each direction don't
pub counts_rise : (a b : End) → a.granted_bidi ≤ b.granted_bidi → a.granted_uni ≤ b.granted_uni → CountsRise a b
counts_rise a b bidi uni d = grind arith

-- A sound end stores at most what it granted, and a new end is sound.

-- of one lane: what is stored and what was taken, together, the peer has used up
pub stored_and_taken : (l : RecvLane) → IsLawful l → fmap.len l.arrived.stored + taken l ≤ highest l
stored_and_taken l h = by_use (is_some l.reset_code || is_some l.stop_code) h.discards (taken_within l h)
  where
    by_use : (b : Bool) → l.arrived.discarding ≡ b → cond b (highest l) l.arrived.read_count ≤ highest l → fmap.len l.arrived.stored + cond b (highest l) l.arrived.read_count ≤ highest l
    by_use true is within =
        let none : fmap.len l.arrived.stored ≡ 0 = ap fmap.len (h.thrown_away is) ∙ fmap.len-empty nat_cmp ℕ in
        omega arith
    by_use false is within =
        let few : fmap.len l.arrived.stored ≤ highest l - l.arrived.read_count =
        len_within (highest l - l.arrived.read_count) l.arrived.read_count l.arrived.stored (λ q some.
        let p = h.stored_received q some in
        let below = below-end_of l.arrived.received q p.1 in
        (p.0, omega (arith, below, h.received_within, p.0))) in
        omega arith

slot_within : (role : Role) (s : Settings) (n : ℕ) (o : Option RecvLane) → HasLawfulLane role s n o → value (λ l. fmap.len l.arrived.stored + taken l) o ≤ value highest o
slot_within role s n o h = grind (arith, nat_tests, stored_and_taken)

few_counts : (e : End) → CountsStand e → (d : Dir) → granted_streams e d ≤ lifetime e.settings d
few_counts e h d = grind arith

pub within_credit : (e : End) → IsSound e → IsWithinCredit e
within_credit e h =
    let all : all_stored e + all_taken e ≤ spent e =
    omega (
      arith,
      total_both (λ l. fmap.len l.arrived.stored) taken e.recvs,
      total_le (λ l. fmap.len l.arrived.stored + taken l) highest e.recvs e.recvs (λ n. slot_within e.role e.settings n (lookup e.recvs n) (h.0.lanes n)),
    ) in
    record {
      stored = omega (arith, all, h.0.spent);
      credit = omega (arith, h.0.in_window);
      spent = h.0.spent;
      lanes = λ n l is. (let p : HasLawfulLane e.role e.settings n (Some l) = subst (HasLawfulLane e.role e.settings n) is (h.0.lanes n) in (record { stored = stored_within l p.0; credit = omega (arith, p.0.in_window); spent = p.0.granted }));
      counts = few_counts e h.1;
    }

-- A new end

pub no_table : {X : Type 0} (k : ℕ) → table (no_streams {X = X}) k ≡ []
no_table k = grind arith

pub no_lane : {X : Type 0} (n : ℕ) → lookup (no_streams {X = X}) n ≡ None
unfolding lookup
no_lane n = ap (λ xs. slice_get xs (n / 4)) (no_table (n % 4))

new_end_in_credit : (role : Role) (s : Settings) (t : Tuning) (p : PeerLimits) → are_in_wide_range s ≡ true → IsInCredit (new_end role s t p)
unfolding total
new_end_in_credit role s t p fits = grind (arith, nat_tests, no_lane)

-- none of its streams ended

pub record GrantsFit (s : Settings) : Type 0 where
  pub bidi : s.grant_bidi ≤ s.lifetime_bidi
  pub uni : s.grant_uni ≤ s.lifetime_uni

grants_fit : (s : Settings) → are_in_wide_range s ≡ true → GrantsFit s
grants_fit s h = record { bidi = grind (arith, nat_tests, h); uni = grind (arith, nat_tests, h) }

new_end_sound : (role : Role) (s : Settings) (t : Tuning) (p : PeerLimits) → are_in_wide_range s ≡ true → IsSound (new_end role s t p)
new_end_sound role s t p fits = (new_end_in_credit role s t p fits, ((grants_fit s fits).bidi, (grants_fit s fits).uni))

in_range : (a b c : Bool) → cond (not (a && b)) (Some OutOfRange) (cond (not c) (Some TooManyStreams) None) ≡ None → a ≡ true
in_range a b c e = grind arith

pub made_end : (o : Option SetupFault) (x e : End) → end_unless o x ≡ Ok e → (o ≡ None) × (x ≡ e)
made_end o x e made = grind arith

-- what is in a script's ranges is in the wide ones

pub no_wide_fault : (s : Settings) (p : PeerLimits) → setup_fault s p ≡ None → wide_setup_fault s p ≡ None
no_wide_fault s p none = grind (arith, nat_tests, in_range)

pub new_ends_wide : (role : Role) (s : Settings) (p : PeerLimits) (e : End) → end_made role s p ≡ Ok e → wide_end_made role s default_tuning p ≡ Ok e
new_ends_wide role s p e made =
    let (none, is) = made_end (setup_fault s p) (new_end role s default_tuning p) e made in
    ap (λ o. end_unless o (new_end role s default_tuning p)) (no_wide_fault s p none) ∙ ap Ok is

pub new_ends_sound : (role : Role) (s : Settings) (t : Tuning) (p : PeerLimits) (e : End) → wide_end_made role s t p ≡ Ok e → IsSound e
new_ends_sound role s t p e made =
    let (none, is) = made_end (wide_setup_fault s p) (new_end role s t p) e made in
    subst IsSound is (new_end_sound role s t p (in_range (are_in_wide_range s) (are_spellable p) (are_countable p) none))

pub new_ends_settled : (role : Role) (s : Settings) (t : Tuning) (p : PeerLimits) (e : End) → wide_end_made role s t p ≡ Ok e → CountsAreSettled e
new_ends_settled role s t p e made = grind (arith, nat_tests)

-- The sums over the receiving lanes of one type of stream, where one of them changes, and where some are opened.

-- One lane among all

abbrev sums : ℕ → ℕ → ℕ → ℕ → Tally
sums spent taken stored count = record { spent = spent; taken = taken; stored = stored; noted = count }

same_tally : (a b : Tally) → a.spent ≡ b.spent → a.taken ≡ b.taken → a.stored ≡ b.stored → a.noted ≡ b.noted → a ≡ b
same_tally a b p q r t = grind arith

noted_within : (l : RecvLane) → IsLawful l → noted l ≤ highest l
noted_within l h = grind (arith, nat_tests, cond_both, starts_below_end)

pub each_paid : (xs : List RecvLane) → EachLawful xs → IsPaid (tally_on xs)
each_paid [] each = record { moved = omega arith; noted = omega arith }
each_paid (x ∷ xs) each =
    let rest = each_paid xs each.1 in
    let one = stored_and_taken x each.0 in
    record {
      moved = omega (arith, rest.moved, one, sum_by-cons taken x xs, sum_by-cons highest x xs, sum_by-cons stored_on x xs);
      noted = omega (arith, rest.noted, noted_within x each.0, sum_by-cons noted x xs, sum_by-cons highest x xs);
    }

-- Each lane is lawful

pub lawful_set : (xs : List RecvLane) (i : ℕ) (y : RecvLane) → IsLawful y → EachLawful xs → EachLawful (set xs i y)
lawful_set [] i y is each = tt
lawful_set (x ∷ xs) zero y is each = (is, each.1)
lawful_set (x ∷ xs) (suc i) y is each = (each.0, lawful_set xs i y is each.1)

pub lawful_take : (n : ℕ) (xs : List RecvLane) → EachLawful xs → EachLawful (take n xs)
lawful_take (suc n) (x ∷ xs) each = (each.0, lawful_take n xs each.1)
lawful_take _ xs each = tt

pub lawful_append : (xs ys : List RecvLane) → EachLawful xs → EachLawful ys → EachLawful (xs ++ ys)
lawful_append [] ys a b = b
lawful_append (x ∷ xs) ys a b = (a.0, lawful_append xs ys a.1 b)

pub lawful_begun : (w : ℕ) (share : Share) (ks : List ℕ) → 1 ≤ w → w ≤ MAX_WINDOW → EachLawful (map (λ (i : ℕ). new_lane w share) ks)
lawful_begun w share [] some small = tt
lawful_begun w share (k ∷ ks) some small = (lawful_new w share some small, lawful_begun w share ks some small)

pub lawful_raised : (xs : List RecvLane) → EachLawful xs → EachLawful (map raise xs)
lawful_raised [] each = tt
lawful_raised (x ∷ xs) each = (lawful_raise x each.0, lawful_raised xs each.1)

-- Lanes that are opened have spent nothing

sum_begun : (f : RecvLane → ℕ) (w : ℕ) (share : Share) (ks : List ℕ) → f (new_lane w share) ≡ 0 → sum_by f (map (λ (i : ℕ). new_lane w share) ks) ≡ 0
sum_begun f w share [] none = refl
sum_begun f w share (k ∷ ks) none = sum_by-cons f (new_lane w share) (map (λ (i : ℕ). new_lane w share) ks) ∙ omega (arith, none, sum_begun f w share ks none)

sum_opened : (f : RecvLane → ℕ) (xs : List RecvLane) (w : ℕ) (share : Share) (ks : List ℕ) → f (new_lane w share) ≡ 0 → sum_by f (xs ++ map (λ (i : ℕ). new_lane w share) ks) ≡ sum_by f xs
sum_opened f xs w share ks none = sum_by-append f xs (map (λ (i : ℕ). new_lane w share) ks) ∙ omega (arith, sum_begun f w share ks none)

pub tally_opened : (xs : List RecvLane) (w : ℕ) (share : Share) (ks : List ℕ) → tally_on (xs ++ map (λ (i : ℕ). new_lane w share) ks) ≡ tally_on xs
tally_opened xs w share ks =
    same_tally _ _ (sum_opened highest xs w share ks end_of-empty) (sum_opened taken xs w share ks refl) (sum_opened stored_on xs w share ks (fmap.len-empty nat_cmp ℕ)) (sum_opened noted xs w share ks (omega (arith, starts_below_end set.empty, end_of-empty)))

-- A raised limit changes no sum

sum_raised : (f : RecvLane → ℕ) → ((l : RecvLane) → f (raise l) ≡ f l) → (xs : List RecvLane) → sum_by f (map raise xs) ≡ sum_by f xs
sum_raised f same [] = refl
sum_raised f same (x ∷ xs) =
    let rest = sum_raised f same xs in
    let one = same x in
    sum_by-cons f (raise x) (map raise xs) ∙ omega (arith, rest, one, sum_by-cons f x xs)

pub tally_raised : (xs : List RecvLane) → tally_on (map raise xs) ≡ tally_on xs
tally_raised xs = same_tally _ _ (sum_raised highest (λ l. refl) xs) (sum_raised taken (λ l. refl) xs) (sum_raised stored_on (λ l. refl) xs) (sum_raised noted (λ l. refl) xs)
