-- What a set of coins in the code stands for, and so many of each. Assumes nothing: definitions, and statements whose
-- proof is owed.
use Rattle.std.specs.Prelude.{◌≡◌, ℕ, ◌≤◌, true, List, length}
use Rattle.coins.specs.Coins.{falling}
use Rattle.coins.specs.Places.{numbers_of}
use Rattle.coins.specs.declared.Counts.{Counts}
use Rattle.coins.specs.declared.coin_set.CoinSet.{CoinSet}

-- the values of a set of coins, from the largest on
abbrev pub values_of : CoinSet → List ℕ
values_of s = numbers_of s.values

-- numbers that are a set of coins: 1 to 16, each larger than the next, the last 1, none above 65,535
abbrev pub IsCoinSet : List ℕ → Type 0
IsCoinSet vs = (length vs ≤ 16) × (falling vs ≡ true)

-- so many of each coin, from the largest on
abbrev pub counts_of : Counts → List ℕ
counts_of c = numbers_of c.0

-- every set of coins in the code is one
abbrev pub EverySet : Type 0
EverySet = (s : CoinSet) → IsCoinSet (values_of s)

-- and there are never so many of more kinds than a set has
abbrev pub FewCounts : Type 0
FewCounts = (c : Counts) → length (counts_of c) ≤ 16
