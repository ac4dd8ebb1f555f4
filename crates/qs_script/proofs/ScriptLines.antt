-- The lines of a script.
use Rattle.std.proofs.Common.{◌≡◌, ℕ, suc, ◌+◌, ◌<◌, ◌≤◌, Bool, true, false, List, [], ◌∷◌, ◌++◌, length, take, drop, Option, Some, None, Result, Ok, Err, get_or, ◌-◌, refl, sym, ap, ◌∙◌, inl, inr, arith}
use Rattle.std.specs.Prelude.{◌==◌, ◌&&◌, position, IsOk, ◌⊎◌, if◌then◌else◌}
use Rattle.std.specs.List.{position_or_len, onto_first}
use Rattle.std.proofs.lemmas.Grind.{common_steps}
use Rattle.std.proofs.lemmas.Bool.Decides.{nat_tests}
use Rattle.qs_script.specs.declared.script.Reason.{Reason}
use Rattle.qs_script.specs.Scripts.{Said, feeds, bare, lines_of, line_says, lines_say, one_says, follows, script_of, RanOut, IsFaultOf}
use Rattle.qs_script.proofs.ScriptWords.{drop_one, take_one}

-- the events of some lines in front of those that follow
abbrev pub prepend : List Said → Result (List Said) (ℕ × Reason) → Result (List Said) (ℕ × Reason)
prepend before (Ok more) = Ok (before ++ more)
prepend before (Err fault) = Err fault

abbrev pub place : Result (List Said) (ℕ × Reason) → ℕ
place (Ok more) = 0
place (Err fault) = fault.0

-- no line is named that stands before the first of these
later : (n : ℕ) (lines : List (List ℕ)) (m : ℕ) (reason : Reason) → lines_say n lines ≡ Err (m, reason) → n ≤ m
later n [] m reason is = absurd (cc (is))
later n (line ∷ lines) m reason is = go (line_says line) is (λ r e. later (n + 1) lines m r e) where
  go : (one : Result (Option Said) Reason) → one_says one n (lines_say (n + 1) lines) ≡ Err (m, reason)
      → ((r : Reason) → lines_say (n + 1) lines ≡ Err (m, r) → n + 1 ≤ m) → n ≤ m
  go (Err other) is rest = let e : n ≡ m = ap place is in omega (arith, e)
  go (Ok None) is rest = omega (arith, rest reason is)
  go (Ok (Some s)) is rest = behind (lines_say (n + 1) lines) is (λ r e. rest r e) where
    behind : (more : Result (List Said) (ℕ × Reason)) → follows s more ≡ Err (m, reason) → ((r : Reason) → more ≡ Err (m, r) → n + 1 ≤ m) → n ≤ m
    behind (Ok more) is rest = absurd (cc (is))
    behind (Err fault) is rest = omega (arith, rest reason is)

-- a line that is no event is the script's first fault
pub stops : (before : List Said) (n : ℕ) (line : List ℕ) (lines : List (List ℕ)) (whole : Result (List Said) (ℕ × Reason)) (reason : Reason)
    → prepend before (lines_say n (line ∷ lines)) ≡ whole → line_says line ≡ Err reason → whole ≡ Err (n, reason)
stops before n line lines whole reason is bad = sym is ∙ (rw bad refl)

-- where a line is an event, or none is asked for, the first fault is a later line's
pub not_yet : (before : List Said) (n : ℕ) (line : List ℕ) (lines : List (List ℕ)) (whole : Result (List Said) (ℕ × Reason))
    → prepend before (lines_say n (line ∷ lines)) ≡ whole → IsOk (line_says line) → (m : ℕ) (reason : Reason) → whole ≡ Err (m, reason) → n < m
not_yet before n line lines whole is good m reason fault = go (line_says line) good (is ∙ fault) where
  go : (one : Result (Option Said) Reason) → IsOk one → prepend before (one_says one n (lines_say (n + 1) lines)) ≡ Err (m, reason) → n < m
  go (Err other) good is = absurd (cc (good))
  go (Ok None) good is = rest (lines_say (n + 1) lines) refl is where
    rest : (more : Result (List Said) (ℕ × Reason)) → lines_say (n + 1) lines ≡ more → prepend before more ≡ Err (m, reason) → n < m
    rest (Ok more) e is = absurd (cc (is))
    rest (Err fault) e is = omega (arith, later (n + 1) lines m reason (e ∙ is))
  go (Ok (Some s)) good is = rest (lines_say (n + 1) lines) refl is where
    rest : (more : Result (List Said) (ℕ × Reason)) → lines_say (n + 1) lines ≡ more → prepend before (follows s more) ≡ Err (m, reason) → n < m
    rest (Ok more) e is = absurd (cc (is))
    rest (Err fault) e is = omega (arith, later (n + 1) lines m reason (e ∙ is))

-- the fault of a line that couldn't be read
pub fault_at : (script : List ℕ) (before : List Said) (n : ℕ) (rest line after : List ℕ) (reason : Reason)
    → prepend before (lines_say (n + 1) (lines_of rest)) ≡ script_of script → n + length (lines_of rest) ≤ length (lines_of script)
    → lines_of rest ≡ line ∷ lines_of after → (line_says line ≡ Err reason) ⊎ RanOut reason (line_says line)
    → IsFaultOf script (record { line = n + 1; reason = reason })
fault_at script before n rest line after reason whole counted cut why = go (rw cut at whole) (rw cut at counted) why where
  go : prepend before (lines_say (n + 1) (line ∷ lines_of after)) ≡ script_of script → n + length (line ∷ lines_of after) ≤ length (lines_of script)
      → (line_says line ≡ Err reason) ⊎ RanOut reason (line_says line) → IsFaultOf script (record { line = n + 1; reason = reason })
  go whole counted (inl bad) = inl (stops before (n + 1) line (lines_of after) (script_of script) reason whole bad)
  go whole counted (inr out) =
      inr (out.0, omega arith, omega (arith, counted), not_yet before (n + 1) line (lines_of after) (script_of script) whole out.1)

abbrev pub feed : List ℕ → ℕ
feed xs = position_or_len (λ byte. byte == 10) xs

-- a carriage return that stands last goes
pub bare_cut : (xs : List ℕ) → get_or xs (length xs - 1) 0 ≡ 13 → bare xs ≡ take (length xs - 1) xs
bare_cut [] is = absurd (cc (is))
bare_cut (x ∷ []) is = grind (arith, nat_tests, is)
bare_cut (x ∷ y ∷ ys) is =
    let e : length (x ∷ y ∷ ys) - 1 ≡ suc (length (y ∷ ys) - 1) = omega arith in
    let at : get_or (x ∷ y ∷ ys) (suc (length (y ∷ ys) - 1)) 0 ≡ 13 = ap (λ k. get_or (x ∷ y ∷ ys) k 0) (sym e) ∙ is in
    ap (λ l. x ∷ l) (bare_cut (y ∷ ys) at) ∙ ap (λ k. take k (x ∷ y ∷ ys)) (sym e)

pub bare_whole : (xs : List ℕ) → (get_or xs (length xs - 1) 0 ≡ 13 → ⊥) → bare xs ≡ xs
bare_whole [] other = refl
bare_whole (x ∷ []) other = grind (arith, nat_tests, other)
bare_whole (x ∷ y ∷ ys) other =
    let e : length (x ∷ y ∷ ys) - 1 ≡ suc (length (y ∷ ys) - 1) = omega arith in
    ap (λ l. x ∷ l) (bare_whole (y ∷ ys) (λ is. other (ap (λ k. get_or (x ∷ y ∷ ys) k 0) e ∙ is)))

-- a text with no line feed is one line
pub lines_whole : (x : ℕ) (xs : List ℕ) → length (x ∷ xs) ≤ feed (x ∷ xs) → lines_of (x ∷ xs) ≡ (x ∷ xs) ∷ []
lines_whole x [] h = grind (arith, common_steps, nat_tests, h)
lines_whole x (y ∷ ys) h = grind (arith, common_steps, nat_tests, h, lines_whole y ys)

-- one byte more in front of the first line
join : (x : ℕ) (xs : List ℕ) (ls : List (List ℕ)) → feed xs < length xs
    → (if (x == 13) && feeds xs then bare (take (feed xs) xs) ∷ ls else onto_first x (bare (take (feed xs) xs) ∷ ls)) ≡ bare (x ∷ take (feed xs) xs) ∷ ls
join x [] ls h = absurd (omega arith)
join x (y ∷ ys) ls h = go (x == 13) refl (y == 10) refl where
  go : (a : Bool) → (x == 13) ≡ a → (b : Bool) → (y == 10) ≡ b
      → (if (x == 13) && feeds (y ∷ ys) then bare (take (feed (y ∷ ys)) (y ∷ ys)) ∷ ls else onto_first x (bare (take (feed (y ∷ ys)) (y ∷ ys)) ∷ ls))
      ≡ bare (x ∷ take (feed (y ∷ ys)) (y ∷ ys)) ∷ ls
  go true a true b = rw (b, a) refl
  go false a true b = rw (b, a) refl
  go true a false b = rw (b, a) (rw (take_one (feed ys) y ys) refl)
  go false a false b = rw (b, a) (rw (take_one (feed ys) y ys) refl)

-- the first line ends with the first line feed
pub lines_cut : (xs : List ℕ) → feed xs < length xs → lines_of xs ≡ bare (take (feed xs) xs) ∷ lines_of (drop 1 (drop (feed xs) xs))
lines_cut [] h = absurd (omega arith)
lines_cut (x ∷ xs) h = go (λ lt. lines_cut xs lt) (x == 10) refl where
  go : (feed xs < length xs → lines_of xs ≡ bare (take (feed xs) xs) ∷ lines_of (drop 1 (drop (feed xs) xs))) → (b : Bool) → (x == 10) ≡ b
      → lines_of (x ∷ xs) ≡ bare (take (feed (x ∷ xs)) (x ∷ xs)) ∷ lines_of (drop 1 (drop (feed (x ∷ xs)) (x ∷ xs)))
  go rest true e = rw e refl
  go rest false e =
      let below : 1 + feed xs < length (x ∷ xs) = rw e at h in
      let lt : feed xs < length xs = omega (arith, below) in
      rw (e, take_one (feed xs) x xs, drop_one (feed xs) x xs, rest lt) (join x xs (lines_of (drop 1 (drop (feed xs) xs))) lt)

pub lines_some : (xs : List ℕ) (i : ℕ) → position (λ byte. byte == 10) xs ≡ Some i → lines_of xs ≡ bare (take i xs) ∷ lines_of (drop 1 (drop i xs))
lines_some xs i e = grind (arith, nat_tests, e, lines_cut xs)

pub lines_none : (xs : List ℕ) → 0 < length xs → position (λ byte. byte == 10) xs ≡ None → lines_of xs ≡ xs ∷ []
lines_none [] some e = absurd (omega arith)
lines_none (x ∷ xs) some e = grind (arith, nat_tests, e, lines_whole x xs)
