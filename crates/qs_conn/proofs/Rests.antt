-- What stands in the slice behind a packet in the making stays as it was.
use Rattle.std.proofs.lemmas.Bool.Decides.{nat_tests}
use Rattle.std.proofs.Common.{◌≡◌, ℕ, ◌+◌, ◌-◌, ◌≤◌, List, [], ◌++◌, length, drop, sym, ap, ◌∙◌, arith, refl, Option, Some}
use Rattle.std.specs.Prelude.{Result, Ok}
use Rattle.std.proofs.lemmas.List.{drop-drop, take-append-drop, length-take-le}
use Rattle.qs_calls.specs.declared.filling.Filled.{Filled}
use Rattle.qs_calls.specs.declared.making.Made.{Made}
use Rattle.qs_calls.specs.declared.making.MakeFault.{MakeFault}
use Rattle.qs_conn.specs.Written.{made_text, KeepsRest, filled_text, KeepsBehind}
use Rattle.qs_conn.specs.Filling.{LeavesRest}

pub rest_same : (len : ℕ) (out : List ℕ) → LeavesRest len out len out
rest_same len out = (omega arith, refl)

-- what stays behind some bytes stays behind more of them
fewer : (a b : ℕ) (xs ys : List ℕ) → a ≤ b → drop a xs ≡ drop a ys → drop b xs ≡ drop b ys
fewer a b xs ys le same =
    let more : b ≡ a + (b - a) = omega (arith, le) in
    ap (λ k. drop k xs) more ∙ sym (drop-drop (b - a) a xs) ∙ ap (drop (b - a)) same ∙ drop-drop (b - a) a ys ∙ ap (λ k. drop k ys) (sym more)

-- one step after the other
pub rest_on : (a b c : ℕ) (xs ys zs : List ℕ) → LeavesRest a xs b ys → LeavesRest b ys c zs → LeavesRest a xs c zs
rest_on a b c xs ys zs (le, first) (more, next) = (omega (arith, le, more), next ∙ fewer b c ys xs more first)

-- the slice with a packet in it
pub rest_kept : (made : Made) (before after : List ℕ) → made.len ≤ length after → drop made.len after ≡ drop made.len before → KeepsRest (Ok (Some made)) before after
rest_kept made before after within same = grind (arith, nat_tests, take-append-drop, length-take-le)

-- the slice without one
pub rest_none : (answer : Result (Option Made) MakeFault) (out : List ℕ) → made_text answer out ≡ [] → KeepsRest answer out out
rest_none answer out none = sym (ap (λ t. t ++ drop (length t) out) none)

-- the slice with what was filled in
pub behind_kept : (filled : Filled) (before after : List ℕ) → filled.len ≤ length after → drop filled.len after ≡ drop filled.len before → KeepsBehind (Ok (Some filled)) before after
behind_kept filled before after within same = grind (arith, nat_tests, take-append-drop, length-take-le)

pub behind_none : (answer : Result (Option Filled) MakeFault) (out : List ℕ) → filled_text answer out ≡ [] → KeepsBehind answer out out
behind_none answer out none = sym (ap (λ t. t ++ drop (length t) out) none)
