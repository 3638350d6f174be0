-- `falling`, one value at a time. Assumes nothing.
use Rattle.std.proofs.Common.{◌≡◌, ℕ, ◌+◌, ◌<◌, ◌≤◌, Bool, true, ◌&&◌, eqb, ltb, leb, List, [], ◌∷◌, get_or, drop, length, refl, ap, arith}
use Rattle.std.proofs.lemmas.List.{drop_more, drop_all}
use Rattle.coins.specs.Coins.{falling}

-- a set of coins has some value
pub some_value : (vs : List ℕ) → falling vs ≡ true → 0 < length vs
unfolding falling
some_value [] t = grind arith
some_value (v ∷ vs) t = omega arith

-- each value is below the one before it, the first below a, and the last is 1
unfoldable pub falls_below : ℕ → List ℕ → Bool
falls_below a [] = eqb a 1
falls_below a (v ∷ vs) = ltb v a && falls_below v vs

falling_first : (v : ℕ) (vs : List ℕ) → falling (v ∷ vs) ≡ (leb v 65535 && falls_below v vs)
unfolding falling falls_below
falling_first v [] = grind arith
falling_first v (w ∷ vs) = grind (arith, falling_first w vs)

pub falling_below : (vs : List ℕ) → falls_below 65536 vs ≡ falling vs
unfolding falling falls_below
falling_below [] = refl
falling_below (v ∷ vs) = grind (arith, falling_first v vs)

-- one value on, and at the end
pub falls_more : (a i : ℕ) (vs : List ℕ) → i < length vs → falls_below a (drop i vs) ≡ (ltb (get_or vs i 0) a && falls_below (get_or vs i 0) (drop (i + 1) vs))
unfolding falls_below
falls_more a i vs h = ap (falls_below a) (drop_more vs i 0 h)

pub falls_end : (a i : ℕ) (vs : List ℕ) → length vs ≤ i → falls_below a (drop i vs) ≡ eqb a 1
unfolding falls_below
falls_end a i vs h = ap (falls_below a) (drop_all i vs h)

-- what a loop through the values needs
pub ruleset falls = (falling_below, falls_more, falls_end)
