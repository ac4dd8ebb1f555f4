-- Text that grows by one part after another.
use Rattle.std.proofs.Common.{◌≡◌, ◌++◌, ℕ, List, Result, Ok, Err, OnOk, ap, ◌∙◌}
use Rattle.std.proofs.lemmas.List.{append_assoc}

-- two parts are one
pub joined : (old between new a b : List ℕ) → between ≡ old ++ a → new ≡ between ++ b → new ≡ old ++ (a ++ b)
joined old between new a b first second = second ∙ (ap (λ t. t ++ b) first ∙ append_assoc old a b)

-- and so they are where the second may fail
pub goes_on : {E : Type 0} (r : Result (Unit {0}) E) (old between new a b : List ℕ)
    → between ≡ old ++ a → OnOk r (new ≡ between ++ b) → OnOk r (new ≡ old ++ (a ++ b))
goes_on (Ok done) old between new a b first second = joined old between new a b first second
goes_on (Err fault) old between new a b first second = tt
