-- The fewest coins that pay x, with plenty of each. Assumes nothing.
use Rattle.std.proofs.Common.{◌≡◌, ℕ, suc, ◌<◌, ◌≤◌, true, List, [], ◌∷◌, length, sym, refl, ap, mul_comm, le-mul_of_pos_right, arith}
use Rattle.coins.specs.Coins.{sum, worth, within, fewest, paid, plenty, largest_first}
use Rattle.coins.specs.Promise.{Spoilt}
use Rattle.laws.proofs.Ways.{length-paid, fewest_at_most, paid_is_way}
use Rattle.laws.proofs.Falling.{Falls, Positive, positive}
use Rattle.laws.proofs.Coin.{Way}
use Rattle.laws.proofs.Largest.{takes_pays, largest_zero}

length-plenty : (vs : List ℕ) (x : ℕ) → length (plenty vs x) ≡ length vs
unfolding plenty
length-plenty [] x = refl
length-plenty (v ∷ vs) x = ap suc (length-plenty vs x)

within-plenty : (vs xs : List ℕ) (x : ℕ) → Positive vs → length xs ≡ length vs → worth vs xs ≤ x → within xs (plenty vs x) ≡ true
unfolding within plenty worth
within-plenty vs [] x pos e h = refl
within-plenty [] (a ∷ xs) x pos e h = absurd (omega arith)
within-plenty (v ∷ vs) (a ∷ xs) x pos e h =
    grind (arith, mul_comm a v, le-mul_of_pos_right a (pos 0 (omega arith)), within-plenty vs xs x (λ k t. pos (suc k) (omega arith)))

pub few : List ℕ → ℕ → ℕ
few vs x = sum (paid vs (plenty vs x) x)

module _ {vs : List ℕ} (f : Falls vs) where
  at_most : (x k : ℕ) → Way vs x k → (0 < fewest vs (plenty vs x) x) × (fewest vs (plenty vs x) x ≤ suc k)
  at_most x k w =
      let m = fewest_at_most vs (plenty vs x) w.coins x (within-plenty vs w.coins x (positive f) w.long (omega arith)) w.pays in
      omega arith

  paid_pays : (x : ℕ) → (worth vs (paid vs (plenty vs x) x) ≡ x) × (within (paid vs (plenty vs x) x) (plenty vs x) ≡ true) × (suc (few vs x) ≡ fewest vs (plenty vs x) x)
  unfolding few
  paid_pays x = paid_is_way vs (plenty vs x) x (at_most x (largest_first vs x) (takes_pays f x)).0

  pub fewest_is : (x : ℕ) → fewest vs (plenty vs x) x ≡ suc (few vs x)
  fewest_is x = sym (paid_pays x).2

  pub few_pays : (x : ℕ) → Way vs x (few vs x)
  unfolding few
  few_pays x =
      record { coins = paid vs (plenty vs x) x; long = length-paid vs (plenty vs x) x (length-plenty vs x); pays = (paid_pays x).0; many = refl }

  pub few_least : (x k : ℕ) → Way vs x k → few vs x ≤ k
  few_least x k w = omega (arith, at_most x k w, fewest_is x)

  -- an amount is spoilt if largest first takes more
  pub spoilt_more : (x : ℕ) → Spoilt vs x → few vs x < largest_first vs x
  spoilt_more x s = omega (arith, fewest_is x, few_least x (largest_first vs x) (takes_pays f x))

  pub more_spoilt : (x : ℕ) → few vs x < largest_first vs x → Spoilt vs x
  more_spoilt x h = omega (arith, fewest_is x)

  pub spoilt_positive : (x : ℕ) → Spoilt vs x → 0 < x
  spoilt_positive x s = grind (arith, spoilt_more x s, largest_zero f)
