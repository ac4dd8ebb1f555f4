-- One more byte is drawn.
use Rattle.std.proofs.Common.{◌≡◌, ℕ, suc, ◌-◌, ◌<◌, List, [], ◌∷◌, ◌++◌, refl, arith, zero}
use Rattle.std.proofs.lemmas.Grind.{common_steps}
use Rattle.rand_pcg.specs.Lcg.{Lcg}
use Rattle.qs_world.specs.Draws.{draw, after, bytes_from, after_all}

bytes_from-step : (n : ℕ) (g : Lcg) → 0 < n → bytes_from n g ≡ draw 256 g ∷ bytes_from (n - 1) (after g)
bytes_from-step zero g h = absurd (omega arith)
bytes_from-step (suc n) g h = let e : suc n - 1 ≡ n = omega arith in rw e refl

after_all-step : (n : ℕ) (g : Lcg) → 0 < n → after_all n g ≡ after_all (n - 1) (after g)
after_all-step zero g h = absurd (omega arith)
after_all-step (suc n) g h = let e : suc n - 1 ≡ n = omega arith in rw e refl

-- what is drawn and what is to come are the same after one more
pub drawn-step : (xs ys whole : List ℕ) (n m b : ℕ) (g h : Lcg) → 0 < n → m ≡ n - 1 → b ≡ draw 256 g → h ≡ after g → ys ≡ xs ++ b ∷ []
    → xs ++ bytes_from n g ≡ whole → ys ++ bytes_from m h ≡ whole
drawn-step xs ys whole n m b g h some less byte next more all =
    grind (arith, common_steps, less, byte, next, more, all, bytes_from-step n g some)

pub next-step : (n m : ℕ) (g h last : Lcg) → 0 < n → m ≡ n - 1 → h ≡ after g → after_all n g ≡ last → after_all m h ≡ last
next-step n m g h last some less next all = cc (less, next, all, after_all-step n g some)
