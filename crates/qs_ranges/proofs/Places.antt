-- Where a run of a block stands among the runs of all blocks.
use Rattle.std.proofs.lemmas.Bool.Decides.{nat_tests}
use Rattle.std.proofs.Common.{◌≡◌, ℕ, suc, zero, ◌+◌, ◌-◌, ◌<◌, ◌≤◌, [], subst, ◌∷◌, ◌++◌, length, take, drop, set, get_or, append_assoc, length-append, refl, sym, ap, ◌∙◌, arith, inl, inr, Result, Ok, Err, OnOk, slice_index_or}
use Rattle.std.proofs.lemmas.Bool.{cases_lt}
use Rattle.std.proofs.lemmas.List.{append-nil, take_more, take_all, take-append-le, drop-append-le, get_or_append_left, get_or-append-add, take_more_set, take-append-drop, length-take-le, drop_all, drop-drop, take-take, get_or-drop, get_or_read}
use Rattle.qs_ranges.specs.Runs.{Runs}
use Rattle.qs_ranges.specs.Blocks.{Blocks, all_runs, block_at, place}
use Rattle.std.specs.List.{insert}
use Rattle.std.proofs.lemmas.List.Edits.{length-insert, get_or-insert_below}

pub all_append : (xs ys : Blocks) → all_runs (xs ++ ys) ≡ all_runs xs ++ all_runs ys
all_append [] ys = refl
all_append (x ∷ xs) ys = ap (λ l. x ++ l) (all_append xs ys) ∙ sym (append_assoc x (all_runs xs) (all_runs ys))

-- the runs before a place, and those behind it
pub take_place : (bs : Blocks) (b i : ℕ) → i ≤ length (block_at bs b) → take (place bs b i) (all_runs bs) ≡ all_runs (take b bs) ++ take i (block_at bs b)
take_place [] zero i le = let none : i ≡ 0 = omega arith in rw none refl
take_place [] (suc b) i le = let none : i ≡ 0 = omega arith in rw none refl
take_place (x ∷ xs) zero i le = grind (arith, nat_tests, take-append-le)
take_place (x ∷ xs) (suc b) i le =
    let more : place (x ∷ xs) (suc b) i ≡ length x + place xs b i = omega (arith, length-append x (all_runs (take b xs))) in
    ap (λ n. take n (x ++ all_runs xs)) more
    ∙ past x (all_runs xs) (place xs b i)
    ∙ ap (λ l. x ++ l) (take_place xs b i le)
    ∙ sym (append_assoc x (all_runs (take b xs)) (take i (block_at xs b)))
  where
    past : (p q : Runs) (n : ℕ) → take (length p + n) (p ++ q) ≡ p ++ take n q
    past [] q n = let all : 0 + n ≡ n = omega arith in ap (λ m. take m q) all
    past (r ∷ p) q n = let more : suc (length p) + n ≡ suc (length p + n) = omega arith in ap (λ m. take m (r ∷ (p ++ q))) more ∙ ap (λ l. r ∷ l) (past p q n)

drop_from : (bs : Blocks) (b i : ℕ) → i ≤ length (block_at bs b) → drop (place bs b i) (all_runs bs) ≡ drop i (block_at bs b) ++ all_runs (drop (suc b) bs)
drop_from [] zero i le = let none : i ≡ 0 = omega arith in rw none refl
drop_from [] (suc b) i le = let none : i ≡ 0 = omega arith in rw none refl
drop_from (x ∷ xs) zero i le = grind (arith, nat_tests, drop-append-le)
drop_from (x ∷ xs) (suc b) i le =
    let more : place (x ∷ xs) (suc b) i ≡ length x + place xs b i = omega (arith, length-append x (all_runs (take b xs))) in
    ap (λ n. drop n (x ++ all_runs xs)) more
    ∙ past x (all_runs xs) (place xs b i)
    ∙ drop_from xs b i le
  where
    past : (p q : Runs) (n : ℕ) → drop (length p + n) (p ++ q) ≡ drop n q
    past [] q n = let all : 0 + n ≡ n = omega arith in ap (λ m. drop m q) all
    past (r ∷ p) q n = let more : suc (length p) + n ≡ suc (length p + n) = omega arith in ap (λ m. drop m (r ∷ (p ++ q))) more ∙ past p q n

pub drop_place : (bs : Blocks) (b i : ℕ) → i ≤ length (block_at bs b) → drop (place bs b i) (all_runs bs) ≡ drop i (block_at bs b) ++ all_runs (drop (b + 1) bs)
drop_place bs b i le = let next : suc b ≡ b + 1 = omega arith in drop_from bs b i le ∙ ap (λ n. drop i (block_at bs b) ++ all_runs (drop n bs)) next

-- the runs of blocks one of which is another now
all_changed : (bs : Blocks) (b : ℕ) (new : Runs) → b < length bs → all_runs (set bs b new) ≡ all_runs (take b bs) ++ (new ++ all_runs (drop (suc b) bs))
all_changed [] b new lt = absurd (omega arith)
all_changed (x ∷ xs) zero new lt = refl
all_changed (x ∷ xs) (suc b) new lt = ap (λ l. x ++ l) (all_changed xs b new (omega arith)) ∙ sym (append_assoc x (all_runs (take b xs)) (new ++ all_runs (drop (suc b) xs)))

pub all_set : (bs : Blocks) (b : ℕ) (new : Runs) → b < length bs → all_runs (set bs b new) ≡ all_runs (take b bs) ++ (new ++ all_runs (drop (b + 1) bs))
all_set bs b new lt = let next : suc b ≡ b + 1 = omega arith in all_changed bs b new lt ∙ ap (λ n. all_runs (take b bs) ++ (new ++ all_runs (drop n bs))) next

-- a place lies within the runs
pub place_within : (bs : Blocks) (b i : ℕ) → i ≤ length (block_at bs b) → place bs b i ≤ length (all_runs bs)
place_within [] zero i le = omega arith
place_within [] (suc b) i le = omega arith
place_within (x ∷ xs) zero i le = omega (arith, length-append x (all_runs xs))
place_within (x ∷ xs) (suc b) i le = omega (arith, length-append x (all_runs xs), length-append x (all_runs (take b xs)), place_within xs b i le)

-- the run at a place
pub run_at_place : (bs : Blocks) (b i : ℕ) (d : ℕ × ℕ) → i < length (block_at bs b) → get_or (all_runs bs) (place bs b i) d ≡ get_or (block_at bs b) i d
run_at_place [] b i d lt = grind (arith, nat_tests)
run_at_place (x ∷ xs) zero i d lt = grind (arith, nat_tests, get_or_append_left)
run_at_place (x ∷ xs) (suc b) i d lt = grind (arith, nat_tests, run_at_place xs b i d lt, length-append, get_or-append-add)

-- where a block ends, the next one begins
pub place_next : (bs : Blocks) (b : ℕ) → place bs b (length (block_at bs b)) ≡ place bs (suc b) 0
place_next [] zero = refl
place_next [] (suc b) = refl
place_next (x ∷ xs) zero = omega (arith, length-append x [])
place_next (x ∷ xs) (suc b) = omega (arith, place_next xs b, length-append x (all_runs (take b xs)), length-append x (all_runs (take (suc b) xs)))

-- past the last block are all runs
pub place_end : (bs : Blocks) → place bs (length bs) 0 ≡ length (all_runs bs)
place_end bs = ap (λ l. length (all_runs l) + 0) (take_all (length bs) bs (omega arith)) ∙ omega arith

-- the runs of one block more
pub all_more : (bs : Blocks) (b : ℕ) → b < length bs → all_runs (take (b + 1) bs) ≡ all_runs (take b bs) ++ block_at bs b
all_more bs b lt = ap all_runs (take_more bs b [] lt) ∙ all_append (take b bs) (block_at bs b ∷ []) ∙ ap (λ l. all_runs (take b bs) ++ l) (append-nil (block_at bs b))

pub length_more : (bs : Blocks) (b : ℕ) → b < length bs → length (all_runs (take (b + 1) bs)) ≡ length (all_runs (take b bs)) + length (block_at bs b)
length_more bs b lt = ap length (all_more bs b lt) ∙ length-append (all_runs (take b bs)) (block_at bs b)

-- and no more than all
pub length_within : (bs : Blocks) (b : ℕ) → b < length bs → length (all_runs (take b bs)) + length (block_at bs b) ≤ length (all_runs bs)
length_within bs b lt = place_within bs b (length (block_at bs b)) (omega arith)

-- what is so of the run before a place, and of the one at it
pub before_place : (P : ℕ × ℕ → Type 0) (bs : Blocks) (b i : ℕ) → i ≤ length (block_at bs b)
    → (0 < i → P (get_or (block_at bs b) (i - 1) (0, 0)))
    → (i ≡ 0 → 0 < b → (0 < length (block_at bs (b - 1))) × P (get_or (block_at bs (b - 1)) (length (block_at bs (b - 1)) - 1) (0, 0)))
    → 0 < place bs b i → P (get_or (all_runs bs) (place bs b i - 1) (0, 0))
before_place P bs b i le here there some = grind (arith, nat_tests, run_at_place, place_next)

pub at_place : (P : ℕ × ℕ → Type 0) (bs : Blocks) (b i : ℕ) → i < length (block_at bs b) → P (get_or (block_at bs b) i (0, 0)) → P (get_or (all_runs bs) (place bs b i) (0, 0))
at_place P bs b i lt found = subst P (sym (run_at_place bs b i (0, 0) lt)) found

-- what is so of the run at a place behind a block's last run too
pub at_place_or_next : (P : ℕ × ℕ → Type 0) (bs : Blocks) (b i : ℕ) → i ≤ length (block_at bs b) → b < length bs
    → (i < length (block_at bs b) → P (get_or (block_at bs b) i (0, 0)))
    → (i ≡ length (block_at bs b) → b + 1 < length bs → (0 < length (block_at bs (b + 1))) × P (get_or (block_at bs (b + 1)) 0 (0, 0)))
    → place bs b i < length (all_runs bs) → P (get_or (all_runs bs) (place bs b i) (0, 0))
at_place_or_next P bs b i le within here there lt = elim (cases_lt i (length (block_at bs b))) [
  | inl less ↦ at_place P bs b i less (here less)
  | inr ge ↦
      let last : i ≡ length (block_at bs b) = omega arith in
      let next : suc b ≡ b + 1 = omega arith in
      let is : place bs b i ≡ place bs (b + 1) 0 = ap (place bs b) last ∙ place_next bs b ∙ ap (λ n. place bs n 0) next in
      elim (cases_lt (b + 1) (length bs)) [
        | inl more ↦ subst (λ k. P (get_or (all_runs bs) k (0, 0))) (sym is) (at_place P bs (b + 1) 0 (there last more).0 (there last more).1)
        | inr none ↦
            let end : b + 1 ≡ length bs = omega arith in
            let all : place bs b i ≡ length (all_runs bs) = is ∙ ap (λ n. place bs n 0) end ∙ place_end bs in
            absurd (omega arith)
      ]
]

-- places rise with the blocks, and in a block with the runs
pub blocks_rise : (bs : Blocks) (b e : ℕ) → b ≤ e → place bs b 0 ≤ place bs e 0
blocks_rise bs zero e le = omega arith
blocks_rise [] (suc b) e le = omega arith
blocks_rise (x ∷ xs) (suc b) zero le = absurd (omega arith)
blocks_rise (x ∷ xs) (suc b) (suc e) le = omega (arith, blocks_rise xs b e (omega arith), length-append x (all_runs (take b xs)), length-append x (all_runs (take e xs)))

pub places_rise : (bs : Blocks) (b i e j : ℕ) → b < e → i ≤ length (block_at bs b) → place bs b i ≤ place bs e j
places_rise bs b i e j lt le = omega (arith, place_next bs b, blocks_rise bs (suc b) e (omega arith))

-- ---- What stands where blocks were changed, parted, or taken out.

-- a block that was read is the one at the number
pub read_block : (bs : Blocks) (b : ℕ) (x : Runs) → b < length bs → x ≡ slice_index_or bs b x → x ≡ block_at bs b
read_block bs b x lt is = get_or_read bs b x lt is []

-- the blocks up to one that was changed, and those from it on
pub up_to_changed : (bs : Blocks) (b : ℕ) (new : Runs) → b < length bs → all_runs (take (b + 1) (set bs b new)) ≡ all_runs (take b bs) ++ new
up_to_changed bs b new lt = grind (arith, nat_tests, take_more_set, all_append, append-nil)

-- runs changed within one block
pub changed_within : (bs : Blocks) (b i j : ℕ) (middle : Runs) → b < length bs → i ≤ length (block_at bs b) → j ≤ length (block_at bs b)
    → all_runs (set bs b (take i (block_at bs b) ++ (middle ++ drop j (block_at bs b)))) ≡ take (place bs b i) (all_runs bs) ++ (middle ++ drop (place bs b j) (all_runs bs))
changed_within bs b i j middle lt in_i in_j = grind (arith, nat_tests, all_set, append_assoc, take_place, drop_place)

-- lists that are one from a place on are so from each later place on
pub rest_same : (m n : ℕ) (xs ys : Blocks) → m ≤ n → drop m xs ≡ drop m ys → drop n xs ≡ drop n ys
rest_same m n xs ys le same =
    let more : n ≡ m + (n - m) = omega arith in
    ap (λ k. drop k xs) more ∙ sym (drop-drop (n - m) m xs) ∙ ap (drop (n - m)) same ∙ drop-drop (n - m) m ys ∙ ap (λ k. drop k ys) (sym more)

-- runs changed from a place of one block to a place of a later one: before and after say what is kept of the two, and the blocks between went
pub changed_across : (bs one two : Blocks) (b e first last i j : ℕ) (front back : Runs) → b < e → e < length bs → first ≤ b + 1
    → all_runs (take first one) ≡ all_runs (take b bs) ++ front → drop (b + 1) one ≡ drop (b + 1) bs
    → take e two ≡ take e one → all_runs (drop last two) ≡ back ++ all_runs (drop (e + 1) one)
    → all_runs (take first two ++ drop last two) ≡ all_runs (take b bs) ++ (front ++ (back ++ all_runs (drop (e + 1) bs)))
changed_across bs one two b e first last i j front back lt within le before behind same after =
    all_append (take first two) (drop last two)
    ∙ ap (λ l. all_runs l ++ all_runs (drop last two)) firsts
    ∙ ap (λ l. l ++ all_runs (drop last two)) before
    ∙ ap (λ l. (all_runs (take b bs) ++ front) ++ l) (after ∙ ap (λ l. back ++ all_runs l) (rest_same (b + 1) (e + 1) one bs (omega arith) behind))
    ∙ append_assoc (all_runs (take b bs)) front (back ++ all_runs (drop (e + 1) bs))
  where
    firsts : take first two ≡ take first one
    firsts = sym (take-take first e two (omega arith)) ∙ ap (take first) same ∙ take-take first e one (omega arith)

-- the runs of a block that end with another, and those that begin with another
pub ends_with : (x b : Runs) (from len : ℕ) (run : ℕ × ℕ) → x ≡ b → len ≡ length b → take from x ++ run ∷ drop len x ≡ take from b ++ run ∷ []
ends_with x b from len run same is = grind (arith, nat_tests, drop_all)

pub ends_at : (x b : Runs) (from len : ℕ) → x ≡ b → len ≡ length b → take from x ++ drop len x ≡ take from b
ends_at x b from len same is = grind (arith, nat_tests, drop_all, append-nil)

-- a block in two halves
parted_at : (bs : Blocks) (b half : ℕ) → b < length bs → all_runs (set (insert bs (suc b) (drop half (block_at bs b))) b (take half (block_at bs b))) ≡ all_runs bs
parted_at [] b half lt = absurd (omega arith)
parted_at (x ∷ xs) zero half lt = sym (append_assoc (take half x) (drop half x) (all_runs xs)) ∙ ap (λ l. l ++ all_runs xs) (take-append-drop half x)
parted_at (x ∷ xs) (suc b) half lt = ap (λ l. x ++ l) (parted_at xs b half (omega arith))

pub parted : (bs : Blocks) (b half : ℕ) → b < length bs → all_runs (set (insert bs (b + 1) (drop half (block_at bs b))) b (take half (block_at bs b))) ≡ all_runs bs
parted bs b half lt = let next : b + 1 ≡ suc b = omega arith in ap (λ n. all_runs (set (insert bs n (drop half (block_at bs b))) b (take half (block_at bs b)))) next ∙ parted_at bs b half lt

-- and a place in the upper one
pub parted_place : (bs : Blocks) (b half at : ℕ) (upper : Runs) → b < length bs → half ≤ length (block_at bs b) → half ≤ at → place (set (insert bs (b + 1) upper) b (take half (block_at bs b))) (b + 1) (at - half) ≡ place bs b at
parted_place bs b half at upper lt within le = grind (arith, nat_tests, take-append-le, length-take-le, take-take, up_to_changed, length-append)

-- the block before a new one is as it was
pub before_new : (bs : Blocks) (b : ℕ) (upper : Runs) → b < length bs → block_at (insert bs (b + 1) upper) b ≡ block_at bs b
before_new bs b upper lt = get_or-insert_below bs (b + 1) upper [] b (omega arith) (omega arith)

-- a run in a block of its own
pub own_block : (bs : Blocks) (b : ℕ) (run : ℕ × ℕ) → all_runs (insert bs b (run ∷ [])) ≡ take (place bs b 0) (all_runs bs) ++ run ∷ drop (place bs b 0) (all_runs bs)
own_block bs b run =
    let xs = all_runs (take b bs) in
    let ys = all_runs (drop b bs) in
    let n = place bs b 0 in
    let whole : all_runs bs ≡ xs ++ ys = ap all_runs (sym (take-append-drop b bs)) ∙ all_append (take b bs) (drop b bs) in
    let before : take n (all_runs bs) ≡ xs = ap (take n) whole ∙ take-append-le n xs ys (omega arith) ∙ take_all n xs (omega arith) in
    let behind : drop n (all_runs bs) ≡ ys = ap (drop n) whole ∙ drop-append-le n xs ys (omega arith) ∙ ap (λ l. l ++ ys) (drop_all n xs (omega arith)) in
    all_append (take b bs) ((run ∷ []) ∷ drop b bs) ∙ ap (λ l. l ++ run ∷ ys) (sym before) ∙ ap (λ l. take n (all_runs bs) ++ run ∷ l) (sym behind)

-- the place behind a block's runs is that before those of the next one
pub before_next : (bs : Blocks) (b next len : ℕ) → b + 1 ≡ next → len ≡ length (block_at bs b) → place bs b len ≡ place bs next 0
before_next bs b next len is counted = grind (arith, nat_tests, place_next)

-- a block behind a change is as it was
pub block_behind_same : (xs ys : Blocks) (m e : ℕ) → m ≤ e → drop m xs ≡ drop m ys → block_at xs e ≡ block_at ys e
block_behind_same xs ys m e le same =
    let is : e ≡ m + (e - m) = omega arith in
    ap (λ k. block_at xs k) is ∙ sym (get_or-drop m xs (e - m) []) ∙ ap (λ l. get_or l (e - m) []) same ∙ get_or-drop m ys (e - m) [] ∙ ap (λ k. block_at ys k) (sym is)

-- runs changed across blocks, by places
pub spliced : (bs one two : Blocks) (b e first last i j : ℕ) (middle kept : Runs) → b < e → e < length bs → i ≤ length (block_at bs b) → j ≤ length (block_at bs e) → first ≤ b + 1
    → all_runs (take first one) ≡ all_runs (take b bs) ++ (take i (block_at bs b) ++ middle) → drop (b + 1) one ≡ drop (b + 1) bs
    → take e two ≡ take e one → all_runs (drop last two) ≡ (kept ++ drop j (block_at one e)) ++ all_runs (drop (e + 1) one)
    → all_runs (take first two ++ drop last two) ≡ take (place bs b i) (all_runs bs) ++ (middle ++ (kept ++ drop (place bs e j) (all_runs bs)))
spliced bs one two b e first last i j middle kept lt within in_i in_j le before behind same after = grind (arith, nat_tests, block_behind_same, changed_across, append_assoc, take_place, drop_place)

-- what a parting in two leaves, from what was read and written
pub room : (bs ys : Blocks) (b half len : ℕ) (upper x y z low : Runs) → b < length bs → ys ≡ insert bs (b + 1) upper → upper ≡ drop half y
    → y ≡ slice_index_or bs b y → z ≡ slice_index_or bs b z → len ≡ length z → x ≡ slice_index_or ys b x → low ≡ take half x ++ drop len x
    → set ys b low ≡ set (insert bs (b + 1) (drop half (block_at bs b))) b (take half (block_at bs b))
room bs ys b half len upper x y z low lt put copied of_y of_z counted of_x cut = grind (arith, nat_tests, read_block, length-insert, before_new, ends_at)

-- a block taken out as a whole
pub whole_out : (bs : Blocks) (b to : ℕ) → to ≡ length (block_at bs b) → all_runs (take b bs ++ drop (b + 1) bs) ≡ take (place bs b 0) (all_runs bs) ++ drop (place bs b to) (all_runs bs)
whole_out bs b to is = grind (arith, nat_tests, take_place, append-nil, drop_place, drop_all, all_append)

-- runs changed within a block, from what was read and written
pub edited : (bs : Blocks) (b e i j : ℕ) (middle x new : Runs) → b < length bs → b ≡ e → i ≤ length (block_at bs b) → j ≤ length (block_at bs e)
    → x ≡ slice_index_or bs b x → new ≡ take i x ++ (middle ++ drop j x)
    → all_runs (set bs b new) ≡ take (place bs b i) (all_runs bs) ++ (middle ++ drop (place bs e j) (all_runs bs))
edited bs b e i j middle x new lt same in_i in_j of_x is = grind (arith, nat_tests, read_block, changed_within)

-- the same in blocks that have the runs of others, at a place that is the same
pub edited_roomy : (bs ys : Blocks) (b i p k : ℕ) (middle x new : Runs) → all_runs ys ≡ all_runs bs → place ys b i ≡ p → b < length ys → i + k ≤ length (block_at ys b)
    → x ≡ slice_index_or ys b x → new ≡ take i x ++ (middle ++ drop (i + k) x)
    → all_runs (set ys b new) ≡ take p (all_runs bs) ++ (middle ++ drop (p + k) (all_runs bs))
edited_roomy bs ys b i p k middle x new same at lt within of_x is = grind (arith, nat_tests, edited)

-- the same on a success
pub edited_if_ok : {T E : Type 0} (r : Result T E) (bs ys : Blocks) (b i p k : ℕ) (middle x new : Runs) → all_runs ys ≡ all_runs bs → place ys b i ≡ p → b < length ys → i + k ≤ length (block_at ys b)
    → x ≡ slice_index_or ys b x → OnOk r (new ≡ take i x ++ (middle ++ drop (i + k) x))
    → OnOk r (all_runs (set ys b new) ≡ take p (all_runs bs) ++ (middle ++ drop (p + k) (all_runs bs)))
edited_if_ok r bs ys b i p k middle x new same at lt within of_x is = grind (arith, nat_tests, edited_roomy)

-- a run put into a block
pub inserted_if_ok : {T E : Type 0} (r : Result T E) (bs ys : Blocks) (b i p : ℕ) (run : ℕ × ℕ) (x new : Runs) → all_runs ys ≡ all_runs bs → place ys b i ≡ p → b < length ys → i ≤ length (block_at ys b)
    → x ≡ slice_index_or ys b x → OnOk r (new ≡ take i x ++ run ∷ drop i x)
    → OnOk r (all_runs (set ys b new) ≡ take p (all_runs bs) ++ run ∷ drop p (all_runs bs))
inserted_if_ok (Ok t) bs ys b i p run x new same at lt within of_x is =
    edited ys b b i i (run ∷ []) x new lt refl within within of_x is
    ∙ ap (λ l. take (place ys b i) l ++ run ∷ drop (place ys b i) l) same
    ∙ ap (λ n. take n (all_runs bs) ++ run ∷ drop n (all_runs bs)) at
inserted_if_ok (Err e) bs ys b i p run x new same at lt within of_x is = tt
