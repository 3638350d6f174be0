-- Which of the ways with the fewest coins is paid. Assumes nothing: a definition, and a statement whose proof is owed.
use Rattle.std.specs.Prelude.{◌≡◌, ℕ, Bool, true, false, List, [], ◌∷◌, length, ◌==◌, nat_lt}
use Rattle.coins.specs.Coins.{pick, sum, worth, within, paid}

-- of two ways the first has more of the largest coin of which they have not the same number; or they are the same
unfoldable pub at_least : List ℕ → List ℕ → Bool
at_least [] [] = true
at_least [] (b ∷ ys) = false
at_least (a ∷ xs) [] = true
at_least (a ∷ xs) (b ∷ ys) = pick (a == b) (at_least xs ys) (nat_lt b a)

-- 6. Of all ways with the fewest coins, the one with the most of the largest coin is paid, then of the next, and so on
unfoldable pub MostLarge : Type 0
MostLarge =
    (vs ns xs : List ℕ) (x : ℕ) → length ns ≡ length vs → length xs ≡ length vs → within xs ns ≡ true → worth vs xs ≡ x → sum xs ≡ sum (paid vs ns x) →
    at_least (paid vs ns x) xs ≡ true
