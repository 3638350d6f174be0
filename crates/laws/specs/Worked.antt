-- Worked payments. Assumes nothing: a statement whose proof is owed.
use Rattle.std.specs.Prelude.{◌≡◌, ℕ, List, [], ◌∷◌}
use Rattle.coins.specs.Coins.{paid}

-- with coins of 25, 10 and 1, of which there are ns, the amount x is paid by xs
abbrev pub Pays : List ℕ → ℕ → List ℕ → Type 0
Pays ns x xs = paid (25 ∷ 10 ∷ 1 ∷ []) ns x ≡ xs

-- 8. Three 10s are fewer coins than a 25 and five 1s; with 1 3 4 there is no other way; nothing is paid with no coin
unfoldable pub Worked : Type 0
Worked =
    Pays (2 ∷ 5 ∷ 3 ∷ []) 30 (0 ∷ 3 ∷ 0 ∷ []) ×
    Pays (2 ∷ 5 ∷ 9 ∷ []) 30 (0 ∷ 3 ∷ 0 ∷ []) ×
    Pays (1 ∷ 3 ∷ 4 ∷ []) 34 (0 ∷ 3 ∷ 4 ∷ []) ×
    Pays (0 ∷ 0 ∷ 0 ∷ []) 0 (0 ∷ 0 ∷ 0 ∷ [])
