-- What a slice of bytes holds is below 256. Assumes nothing.
use Rattle.std.proofs.Common.{◌≡◌, ℕ, suc, ◌≤◌, true, List, [], ◌∷◌, get_or, refl, arith, w8, Fits}
use Rattle.coins.specs.Calls.{all_to}

pub all_bytes : (bs : List ℕ) → ((i : ℕ) → Fits w8 (get_or bs i 0)) → all_to 255 bs ≡ true
unfolding all_to
all_bytes [] typed = refl
all_bytes (b ∷ bs) typed =
    let h : b ≤ 255 = omega (arith, (typed 0).fits) in
    grind (arith, all_bytes bs (λ i. typed (suc i)))
