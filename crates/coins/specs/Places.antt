-- What a number for each kind of coin stands for. Assumes nothing: a definition, and a statement whose proof is owed.
use Rattle.std.specs.Prelude.{◌≡◌, ℕ, List, take}
use Rattle.coins.specs.declared.per_kind.PerKind.{PerKind}

-- the numbers of the kinds that there are, from that of the largest coin on
abbrev pub numbers_of : PerKind → List ℕ
numbers_of p = take p.kinds p.numbers

-- the same numbers are the same value: all places are the same
abbrev pub SameNumbers : Type 0
SameNumbers = (p q : PerKind) → numbers_of p ≡ numbers_of q → (p.kinds ≡ q.kinds) × (p.numbers ≡ q.numbers)
