-- So many coins of one value, the rest by any way at all: what `with_some` and `as_many` find, over any `rest`. Assumes nothing.
use Rattle.std.proofs.Common.{◌≡◌, ℕ, zero, suc, ◌+◌, ◌-◌, ◌*◌, ◌<◌, ◌≤◌, arith}
use Rattle.coins.specs.Coins.{with_some, as_many}

-- no more coins are needed than with any number j of this one and a way for the rest y
pub some_at_most : (k v x : ℕ) (rest : ℕ → ℕ) (j y : ℕ) → j ≤ k → j * v + y ≡ x → 0 < rest y →
    (0 < with_some k v x rest) × (with_some k v x rest ≤ j + rest y)
unfolding with_some
some_at_most zero v x rest j y h e r = grind arith
some_at_most (suc k) v x rest j y h e r = grind (arith, some_at_most k v x rest j y)

-- the number that `as_many` finds is one that is tried, and reaches the fewest
pub as_many_reaches : (k v x most : ℕ) (rest : ℕ → ℕ) → 0 < most → with_some k v x rest ≡ most →
    let j : ℕ = as_many k v x most rest in
    (j ≤ k) × (j * v ≤ x) × (0 < rest (x - j * v)) × (j + rest (x - j * v) ≡ most)
unfolding with_some as_many
as_many_reaches zero v x most rest p e = grind arith
as_many_reaches (suc k) v x most rest p e = grind (arith, as_many_reaches k v x most rest p)

-- and no larger number does
pub as_many_largest : (k v x most : ℕ) (rest : ℕ → ℕ) (j y : ℕ) → j ≤ k → j * v + y ≡ x → 0 < rest y → j + rest y ≡ most → j ≤ as_many k v x most rest
unfolding as_many
as_many_largest zero v x most rest j y h f p e = h
as_many_largest (suc k) v x most rest j y h f p e = grind (arith, as_many_largest k v x most rest j y)
