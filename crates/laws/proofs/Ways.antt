-- `fewest` counts the coins of a fewest way, and `paid` is one. Assumes nothing.
use Rattle.std.proofs.Common.{◌≡◌, ℕ, suc, ◌<◌, ◌≤◌, true, List, [], ◌∷◌, length, refl, arith}
use Rattle.coins.specs.Coins.{sum, worth, within, with_some, fewest, paid}
use Rattle.coins.specs.Order.{at_least}
use Rattle.laws.proofs.Some.{some_at_most, as_many_reaches, as_many_largest}

pub worth_none : (vs : List ℕ) → worth vs [] ≡ 0
unfolding worth
worth_none [] = refl
worth_none (v ∷ vs) = refl

pub length-paid : (vs ns : List ℕ) (x : ℕ) → length ns ≡ length vs → length (paid vs ns x) ≡ length vs
unfolding paid
length-paid [] ns x e = refl
length-paid (v ∷ vs) ns x e = grind (arith, length-paid vs)

-- no way has fewer coins
pub fewest_at_most : (vs ns xs : List ℕ) (x : ℕ) → within xs ns ≡ true → worth vs xs ≡ x → (0 < fewest vs ns x) × (fewest vs ns x ≤ suc (sum xs))
unfolding within fewest worth sum
fewest_at_most [] ns xs x h e = grind arith
fewest_at_most (v ∷ vs) [] xs x h e = grind arith
fewest_at_most (v ∷ vs) (n ∷ ns) [] x h e = grind (arith, worth_none, fewest_at_most vs ns [] x h, some_at_most n v x (fewest vs ns) 0 x)
fewest_at_most (v ∷ vs) (n ∷ ns) (a ∷ xs) x h e =
    grind (arith, fewest_at_most vs ns xs (worth vs xs), some_at_most n v x (fewest vs ns) a (worth vs xs))

-- where there is a way, what is paid is one, with so many coins
pub paid_is_way : (vs ns : List ℕ) (x : ℕ) → 0 < fewest vs ns x →
    (worth vs (paid vs ns x) ≡ x) × (within (paid vs ns x) ns ≡ true) × (suc (sum (paid vs ns x)) ≡ fewest vs ns x)
unfolding within fewest worth sum paid
paid_is_way [] ns x h = grind arith
paid_is_way (v ∷ vs) [] x h = grind arith
paid_is_way (v ∷ vs) (n ∷ ns) x h = grind (arith, as_many_reaches n v x (fewest (v ∷ vs) (n ∷ ns) x) (fewest vs ns), paid_is_way vs ns)

-- and of the ways with so many coins it has the most of the largest coin, then of the next, and so on
pub paid_most_large : (vs ns xs : List ℕ) (x : ℕ) → length xs ≡ length vs → within xs ns ≡ true → worth vs xs ≡ x → fewest vs ns x ≡ suc (sum xs) → at_least (paid vs ns x) xs ≡ true
unfolding within fewest worth sum paid at_least
paid_most_large [] ns xs x q h e f = grind arith
paid_most_large (v ∷ vs) [] xs x q h e f = grind arith
paid_most_large (v ∷ vs) (n ∷ ns) [] x q h e f = refl
paid_most_large (v ∷ vs) (n ∷ ns) (a ∷ xs) x q h e f =
    let y : ℕ = worth vs xs in
    let rest = fewest vs ns in
    grind (arith, fewest_at_most vs ns xs y, some_at_most n v x rest a y, as_many_largest n v x (with_some n v x rest) rest a y, paid_most_large vs ns xs y)
