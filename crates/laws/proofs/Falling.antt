-- Values of coins, from the largest on to 1. Assumes nothing.
use Rattle.std.proofs.Common.{◌≡◌, ℕ, zero, suc, ◌<◌, ◌≤◌, true, List, [], ◌∷◌, length, get_or, arith}
use mathlib.Core.Bool.{false≢true}
use Rattle.std.proofs.lemmas.Bool.{eqb-true}
use Rattle.coins.specs.Coins.{falling}

-- sets of coins that are taken, as a recursion follows them
pub data Falls : List ℕ → Type 0 where
  one : Falls (1 ∷ [])
  more : {v w : ℕ} {vs : List ℕ} → w < v → Falls (w ∷ vs) → Falls (v ∷ (w ∷ vs))

pub falls : (vs : List ℕ) → falling vs ≡ true → Falls vs
unfolding falling
falls [] t = absurd (false≢true t)
falls (v ∷ []) t = rw (eqb-true v 1 t) one
falls (v ∷ (w ∷ vs)) t = more (grind arith) (falls (w ∷ vs) (grind arith))

-- each value is at least 1, and less than those before it
abbrev pub Positive : List ℕ → Type 0
Positive vs = (k : ℕ) → k < length vs → 0 < get_or vs k 0

pub positive : {vs : List ℕ} → Falls vs → Positive vs
positive one k h = grind arith
positive (more l f) k h = grind (arith, positive f)

pub descends : {vs : List ℕ} → Falls vs → (i j : ℕ) → i < j → j < length vs → get_or vs j 0 < get_or vs i 0
descends one i j h t = omega arith
descends (more l f) zero j h t = grind (arith, descends f 0)
descends (more l f) (suc i) j h t = grind (arith, descends f i)

pub no_larger : {vs : List ℕ} → Falls vs → (i j : ℕ) → i ≤ j → j < length vs → get_or vs j 0 ≤ get_or vs i 0
no_larger f i j h t = grind (arith, descends f i j)
