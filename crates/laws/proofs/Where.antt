-- The smallest spoilt amount w comes of two coins. Assumes nothing.
--
-- A coin is good if w can be paid with it and what the largest first takes of the rest, with no more coins than the fewest for w; the coins of a fewest way are,
-- since no amount below w is spoilt. The coin that the largest first begins with at w is not good, or w were not spoilt. So there is a coin i just before the first good one, p.
-- With j the last coin that the largest first takes of w less p, the own way of i and j is p and these: its amount is w, and it has the fewest coins.
use Rattle.std.proofs.Common.{◌≡◌, ℕ, zero, suc, ◌+◌, ◌-◌, ◌<◌, ◌≤◌, List, length, get_or, ap, ◌∙◌, subst, inl, inr, arith}
use mathlib.Core.Logic.Dec
use native.Mathlib.Decide.{dec_le}
use Rattle.std.proofs.lemmas.Bool.{cases_lt}
use Rattle.coins.specs.Coins.{largest_first}
use Rattle.laws.specs.Pairs.{own_way, of_two, Passes}
use Rattle.laws.proofs.First.{First, first}
use Rattle.laws.proofs.Falling.{Falls, positive, descends, no_larger}
use Rattle.laws.proofs.Coin.{Way, add, same_way, one_more, one_less}
use Rattle.laws.proofs.Largest.{own, takes, takes_pays, own_pays, first_coin, largest_next, last}
use Rattle.laws.proofs.Few.{few, few_pays, few_least, more_spoilt, spoilt_positive}

-- a coin that some fewest way of w has, where no smaller amount is spoilt
abbrev Good : List ℕ → ℕ → ℕ → Type 0
Good vs w k = (get_or vs k 0 ≤ w) × (suc (largest_first vs (w - get_or vs k 0)) ≤ few vs w)

good_or_not : (vs : List ℕ) (w k : ℕ) → Dec (Good vs w k)
good_or_not vs w k = Dec.and (dec_le (get_or vs k 0) w) (dec_le (suc (largest_first vs (w - get_or vs k 0))) (few vs w))

-- w is spoilt, and no smaller amount
module _ {vs : List ℕ} (f : Falls vs) (w : ℕ) (s : First (λ x. few vs x < largest_first vs x) w) where
  -- the coins of a fewest way are good
  good : (q y m : ℕ) → q < length vs → get_or vs q 0 + y ≡ w → Way vs y m → suc m ≤ few vs w → Good vs w q
  good q y m l e way h =
      let rest : y ≡ w - get_or vs q 0 = omega arith in
      let n = few_least f (w - get_or vs q 0) m (subst (λ (x : ℕ). Way vs x m) rest way) in
      omega (arith, s.1 (w - get_or vs q 0), positive f q l)

  first_good : (p : ℕ) × (p < length vs) × First (Good vs w) p
  first_good =
      let (k, l, (y, m, e, n, way)) = one_less vs w (few vs w) (spoilt_positive f w (more_spoilt f w s.0)) (few_pays f w) in
      let (p, le, here) = first (Good vs w) (good_or_not vs w) k (good k y m l e way (omega arith)) in
      (p, omega arith, here)

  -- the coin that largest first begins with isn't good, so it is larger than any that is
  larger : (p : ℕ) → p < length vs → Good vs w p → (g : ℕ) × (g < p) × (get_or vs g 0 ≤ w)
  larger p l (at, h) =
      let (g, le, small, e) = largest_next f w p l at in
      (g, grind (arith, s.0), small)

  -- largest first of w less a good coin begins with a good coin, so it is less than each coin before the first that is
  rest_small : (p i j : ℕ) → First (Good vs w) p → i < p → p < length vs → j < length vs → Good vs w j → w - get_or vs j 0 < get_or vs i 0
  rest_small p i j here h l lj (at, fewer) =
      elim (cases_lt (w - get_or vs j 0) (get_or vs i 0)) [
        | inl t ↦ t
        | inr t ↦
            let (q, le, small, e) = largest_next f (w - get_or vs j 0) i (omega arith) t in
            let y = w - get_or vs j 0 - get_or vs q 0 in
            let k = largest_first vs y in
            absurd (here.1 q (omega arith) (good q (get_or vs j 0 + y) (suc k) (omega arith) (omega arith) (one_more vs y k j lj (takes_pays f y)) (omega arith)))
      ]

  -- where largest first ends with the coin j for u, the own way of i and j is the coin after i and what largest first takes of u
  pair_is : (i j u : ℕ) → suc i < length vs → suc i ≤ j → get_or vs (suc i) 0 + u ≡ w → get_or vs i 0 ≤ w → w - get_or vs j 0 < get_or vs i 0 →
      ((t : ℕ) → u - get_or vs j 0 ≤ t → t < u → own vs j t ≡ takes vs u) →
      (of_two vs i j ≡ get_or vs (suc i) 0 + u) × (own_way vs j (get_or vs i 0 - 1) ≡ suc (largest_first vs u))
  unfolding own_pays one_more takes_pays
  pair_is i j u l le e fits low same =
      let z = get_or vs i 0 - 1 in
      let down = descends f i (suc i) (omega arith) l in
      same_way vs _ _ _ _ (own_pays vs j z (positive f)) (one_more vs u (largest_first vs u) (suc i) l (takes_pays f u))
      (first_coin vs (suc i) j z l le (positive f (suc i) l) (omega arith) (λ k t. omega (arith, no_larger f k i (omega arith) (omega arith)))
      ∙ ap (add (suc i)) (same (z - get_or vs (suc i) 0) (omega arith) (omega arith)))

  -- two coins that pass, whose amount is w, with no more coins than the fewest
  abbrev Pair : Type 0
  Pair = (i : ℕ) × (j : ℕ) × Passes vs i j × (of_two vs i j ≡ w) × (own_way vs j (get_or vs i 0 - 1) ≤ few vs w)

  -- i is the coin before the first good one, and j the last that the largest first takes of w less that one
  found : (p : ℕ) → p < length vs → First (Good vs w) p → Pair
  found zero l here = absurd (omega (arith, (larger zero l here.0).1))
  found (suc i) l here =
      let (g, h, at) = larger (suc i) l here.0 in
      let u = w - get_or vs (suc i) 0 in
      let down = descends f i (suc i) (omega arith) l in
      let fits : get_or vs i 0 ≤ w = omega (arith, no_larger f g i (omega arith) (omega arith)) in
      let (j, lj, (y, m, e, n, way), same) = last f u (omega arith) in
      let good_j = good j (get_or vs (suc i) 0 + y) (suc m) lj (omega arith) (one_more vs y m (suc i) l way) (omega arith) in
      let later : suc i ≤ j = grind (arith, here.1 j, good_j) in
      let (amount, count) = pair_is i j u l later (omega arith) fits (rest_small (suc i) i j here (omega arith) l lj good_j) same in
      let amount_is : of_two vs i j ≡ w = omega arith in
      (i, j, (later, lj, omega (arith, s.0, here.0, ap (largest_first vs) amount_is)), amount_is, omega (arith, here.0))

  pub smallest : Pair
  smallest = let (p, l, here) = first_good in found p l here
