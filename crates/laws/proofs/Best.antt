-- A way that is no worse than any other is what is paid. So one lemma shows a payment by trying all ways,
-- and the worked payments are shown by it. Assumes nothing.
use Rattle.std.proofs.Common.{◌≡◌, ℕ, zero, suc, ◌≤◌, Bool, true, not, ◌&&◌, ◌||◌, eqb, ltb, List, [], ◌∷◌, length, refl, arith}
use Rattle.coins.specs.Coins.{sum, worth, within, paid}
use Rattle.coins.specs.Order.{at_least}
use Rattle.laws.specs.Worked.{Worked}
use Rattle.laws.proofs.Ways.{length-paid, fewest_at_most, paid_is_way, paid_most_large}

-- two ways of which each has at least as many large coins are the same
same : (xs ys : List ℕ) → at_least xs ys ≡ true → at_least ys xs ≡ true → xs ≡ ys
unfolding at_least
same [] [] p q = refl
same [] (b ∷ ys) p q = grind arith
same (a ∷ xs) [] p q = grind arith
same (a ∷ xs) (b ∷ ys) p q = grind (arith, same xs ys)

-- xs is no worse than ys: it has no more coins, and where it has as many, at least as many large ones
pub record Beats (xs ys : List ℕ) : Type 0 where
  pub fewer : sum xs ≤ sum ys
  pub larger : sum xs ≡ sum ys → at_least xs ys ≡ true

pub best_is_paid : (vs ns xs : List ℕ) (x : ℕ) → length ns ≡ length vs → length xs ≡ length vs → within xs ns ≡ true → worth vs xs ≡ x →
    ((ys : List ℕ) → length ys ≡ length vs → within ys ns ≡ true → worth vs ys ≡ x → Beats xs ys) → paid vs ns x ≡ xs
best_is_paid vs ns xs x n k h e best =
    let most = fewest_at_most vs ns xs x h e in
    let (pays, there, many) = paid_is_way vs ns x most.0 in
    let beats = best (paid vs ns x) (length-paid vs ns x n) there pays in
    same (paid vs ns x) xs (paid_most_large vs ns xs x k h e (omega arith)) (beats.larger (omega arith))

-- a test holds of each number up to k, and of each list of numbers within ns
up_to : ℕ → (ℕ → Bool) → Bool
up_to zero f = f 0
up_to (suc k) f = f (suc k) && up_to k f

every : List ℕ → (List ℕ → Bool) → Bool
every [] f = f []
every (n ∷ ns) f = up_to n (λ a. every ns (λ xs. f (a ∷ xs)))

every_up_to : (k : ℕ) (f : ℕ → Bool) (a : ℕ) → up_to k f ≡ true → a ≤ k → f a ≡ true
unfolding up_to
every_up_to zero f a t h = grind arith
every_up_to (suc k) f a t h = grind (arith, every_up_to k f a)

every_way : (ns : List ℕ) (f : List ℕ → Bool) (xs : List ℕ) → every ns f ≡ true → length xs ≡ length ns → within xs ns ≡ true → f xs ≡ true
unfolding every within
every_way [] f [] t e h = t
every_way [] f (a ∷ xs) t e h = absurd (omega arith)
every_way (n ∷ ns) f [] t e h = absurd (omega arith)
every_way (n ∷ ns) f (a ∷ xs) t e h =
    every_way ns (λ ys. f (a ∷ ys)) xs (every_up_to n (λ b. every ns (λ ys. f (b ∷ ys))) a t (grind arith)) (omega arith) (grind arith)

-- ys is no way to pay x, or xs beats it
beats : List ℕ → ℕ → List ℕ → List ℕ → Bool
beats vs x xs ys = not (eqb (worth vs ys) x) || (ltb (sum xs) (sum ys) || (eqb (sum xs) (sum ys) && at_least xs ys))

-- xs is a way to pay x, and is tried against all ways
is_best : List ℕ → List ℕ → ℕ → List ℕ → Bool
is_best vs ns x xs = (within xs ns && eqb (worth vs xs) x) && every ns (beats vs x xs)

tried_is_paid : (vs ns : List ℕ) (x : ℕ) (xs : List ℕ) → length ns ≡ length vs → length xs ≡ length vs → is_best vs ns x xs ≡ true → paid vs ns x ≡ xs
unfolding is_best beats
tried_is_paid vs ns x xs n k t =
    best_is_paid vs ns xs x n k (grind arith) (grind arith)
    (λ ys l h e. let b = every_way ns (beats vs x xs) ys (grind arith) (omega arith) h in record { fewer = grind arith; larger = λ q. grind arith })

pub worked_stands : Worked
unfolding Worked is_best beats every up_to within worth sum at_least
worked_stands = (
  tried_is_paid _ _ _ _ refl refl refl,
  tried_is_paid _ _ _ _ refl refl refl,
  tried_is_paid _ _ _ _ refl refl refl,
  tried_is_paid _ _ _ _ refl refl refl,
)
