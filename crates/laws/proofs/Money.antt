-- What coins are worth as some come and go. Assumes nothing.
use Rattle.std.proofs.Common.{◌≡◌, ℕ, ◌+◌, true, List, [], ◌∷◌, length, refl, mul-le-mul_left, arith}
use native.Mathlib.Nat.{mul-sub}
use Rattle.coins.specs.Coins.{worth, within}
use Rattle.coins.specs.Calls.{added, less}

pub worth-less : (vs ns xs : List ℕ) → within xs ns ≡ true → worth vs (less ns xs) + worth vs xs ≡ worth vs ns
unfolding worth within less
worth-less [] ns xs h = omega arith
worth-less (v ∷ vs) ns xs h = grind (arith, mul-sub, mul-le-mul_left, worth-less vs)

pub worth-added : (vs ns xs : List ℕ) → length ns ≡ length vs → worth vs (added ns xs) ≡ worth vs ns + worth vs xs
unfolding worth added
worth-added [] ns xs e = omega arith
worth-added (v ∷ vs) ns xs e = grind (arith, worth-added vs)

pub within_trans : (xs ns ms : List ℕ) → within xs ns ≡ true → within ns ms ≡ true → within xs ms ≡ true
unfolding within
within_trans [] ns ms h g = refl
within_trans (a ∷ xs) ns ms h g = grind (arith, within_trans xs)
