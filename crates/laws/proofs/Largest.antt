-- What is taken by the largest coin first. Assumes nothing.
use Rattle.std.proofs.Common.{◌≡◌, ℕ, zero, suc, ◌+◌, ◌-◌, ◌*◌, ◌/◌, ◌%◌, ◌<◌, ◌≤◌, List, [], ◌∷◌, length, get_or, sym, refl, ap, ◌∙◌, inl, inr, mod-lt, mod-eq_of_lt, suc-mul, mul_comm, eq-zero-or-pos, lt_of_not-le, mul-suc, div-one, add-one, arith}
use native.Mathlib.Nat.{mod-one, div-add-mod, zero-div, zero-mod, div-eq_of_lt, div-eq-sub-div, mod-eq-sub-mod, div-eq_of_lt-le, dvd_of_mod-eq-zero, le_of_dvd, pos_of_dvd_of_pos, mod-le}
use native.Mathlib.Decide.{dec_le}
use lib.Dec.{leb-suc-suc, eqb-suc-suc, leb-zero, eqb-zero-suc}
use Rattle.coins.specs.Coins.{sum, worth, largest_first}
use Rattle.coins.specs.Calls.{no_coins}
use Rattle.coins.specs.Promise.{first_part}
use Rattle.laws.specs.Pairs.{own_way}
use Rattle.laws.proofs.First.{first}
use Rattle.laws.proofs.Falling.{Falls, one, more, Positive, positive}
use Rattle.laws.proofs.Coin.{add, Way, same_way, one_more, Without, without}

-- largest first of x, up to the j-th coin, and one more of that, if there is a j-th
unfoldable pub own : List ℕ → ℕ → ℕ → List ℕ
own [] j x = []
own (v ∷ vs) zero x = suc (x / v) ∷ no_coins vs
own (v ∷ vs) (suc j) x = x / v ∷ own vs j (x % v)

-- largest first
abbrev pub takes : List ℕ → ℕ → List ℕ
takes vs x = own vs (length vs) x

-- both are ways
none : (vs : List ℕ) → (length (no_coins vs) ≡ length vs) × (worth vs (no_coins vs) ≡ 0) × (sum (no_coins vs) ≡ 0)
unfolding no_coins worth sum
none [] = omega arith
none (v ∷ vs) = omega (arith, none vs)

one_place : (vs : List ℕ) (j x k : ℕ) → first_part vs (suc j) x (suc k) ≡ first_part vs j x k
unfolding first_part
one_place [] j x k = refl
one_place (zero ∷ vs) j x k = one_place vs j x (suc k)
one_place (suc v ∷ vs) j x k = simp (leb-suc-suc, eqb-suc-suc, one_place vs j (x % suc v) (suc k))

pub own_is : (vs : List ℕ) (j x : ℕ) → Positive vs →
    (length (own vs j x) ≡ length vs) × (worth vs (own vs j x) ≡ first_part vs j x 0) × (sum (own vs j x) ≡ own_way vs j x)
unfolding own worth first_part sum own_way
own_is [] j x pos = omega arith
own_is (zero ∷ vs) j x pos = absurd (omega (arith, pos 0 (omega arith)))
own_is (suc v ∷ vs) zero x pos = omega (arith, none vs, mul-suc (suc v) (x / suc v))
own_is (suc v ∷ vs) (suc j) x pos =
    simp (leb-zero, eqb-zero-suc, one_place vs j (x % suc v) 0) (omega (arith, own_is vs j (x % suc v) (λ k h. pos (suc k) (omega arith))))

pub takes_is : {vs : List ℕ} → Falls vs → (x : ℕ) → (worth vs (takes vs x) ≡ x) × (sum (takes vs x) ≡ largest_first vs x)
unfolding own worth sum largest_first
takes_is one x = simp div-one (omega arith)
takes_is (more {v = zero} l f) x = omega arith
takes_is (more {v = suc v} l f) x = omega (arith, takes_is f (x % suc v), div-add-mod x (suc v))

unfoldable pub own_pays : (vs : List ℕ) (j x : ℕ) → Positive vs → Way vs (first_part vs j x 0) (own_way vs j x)
own_pays vs j x pos =
    let (long, pays, many) = own_is vs j x pos in
    record { coins = own vs j x; long = long; pays = pays; many = many }

unfoldable pub takes_pays : {vs : List ℕ} → Falls vs → (x : ℕ) → Way vs x (largest_first vs x)
takes_pays {vs} f x =
    record { coins = takes vs x; long = (own_is vs (length vs) x (positive f)).0; pays = (takes_is f x).0; many = (takes_is f x).1 }

-- it takes the largest coin that is not more than x, and then what it takes of the rest
pub first_coin : (vs : List ℕ) (p j x : ℕ) → p < length vs → p ≤ j → 0 < get_or vs p 0 → get_or vs p 0 ≤ x → ((k : ℕ) → k < p → x < get_or vs k 0) →
    own vs j x ≡ add p (own vs j (x - get_or vs p 0))
unfolding own
first_coin [] p j x l le pos h large = absurd (omega arith)
first_coin (v ∷ vs) zero zero x l le pos h large = rw (div-eq-sub-div pos h, add-one)
first_coin (v ∷ vs) zero (suc j) x l le pos h large = rw (div-eq-sub-div pos h, add-one, mod-eq-sub-mod h)
first_coin (v ∷ vs) (suc p) zero x l le pos h large = absurd (omega arith)
first_coin (v ∷ vs) (suc p) (suc j) x l le pos h large =
    let small : x < v = large 0 (omega arith) in
    let less : x - get_or vs p 0 < v = omega arith in
    simp (div-eq_of_lt small, mod-eq_of_lt small, div-eq_of_lt less, mod-eq_of_lt less)
    (ap (λ (xs : List ℕ). 0 ∷ xs) (first_coin vs p j x (omega arith) (omega arith) pos h (λ k t. large (suc k) (omega arith))))

pub largest_next : {vs : List ℕ} → Falls vs → (x p : ℕ) → p < length vs → get_or vs p 0 ≤ x →
    (g : ℕ) × (g ≤ p) × (get_or vs g 0 ≤ x) × (largest_first vs x ≡ suc (largest_first vs (x - get_or vs g 0)))
unfolding takes_pays one_more
largest_next {vs} f x p l h =
    let (g, le, (at, before)) = first (λ k. get_or vs k 0 ≤ x) (λ k. dec_le (get_or vs k 0) x) p h in
    let rest = x - get_or vs g 0 in
    let e = first_coin vs g (length vs) x (omega arith) (omega arith) (positive f g (omega arith)) at (λ k t. lt_of_not-le (before k t)) in
    (g, le, at, (same_way vs _ _ _ _ (takes_pays f x) (one_more vs rest (largest_first vs rest) g (omega arith) (takes_pays f rest)) e).1)

takes_zero : (vs : List ℕ) → takes vs 0 ≡ no_coins vs
unfolding own no_coins
takes_zero [] = refl
takes_zero (v ∷ vs) = simp (zero-div, zero-mod, takes_zero vs)

pub largest_zero : {vs : List ℕ} → Falls vs → largest_first vs 0 ≡ 0
largest_zero {vs} f = sym (takes_is f 0).1 ∙ ap sum (takes_zero vs) ∙ (none vs).2

quotient : (v q t : ℕ) → v * q ≤ t → t < v * q + v → t / v ≡ q
quotient v q t low high = div-eq_of_lt-le v (omega (arith, mul_comm v q)) (simp add-one (omega (arith, mul_comm v q, suc-mul q v)))

-- the last coin j that it takes of u: of each amount from u less j on, up to u, it takes up to j one coin j less than of u
abbrev Last : List ℕ → ℕ → Type 0
Last vs u =
    (j : ℕ) × (ys : List ℕ) × (j < length vs) × (get_or vs j 0 ≤ u) × (takes vs u ≡ add j ys) ×
    ((t : ℕ) → u - get_or vs j 0 ≤ t → t < u → own vs j t ≡ takes vs u)

whole : (v : ℕ) (vs : List ℕ) (u : ℕ) → 0 < u → u % v ≡ 0 → Last (v ∷ vs) u
unfolding own
whole v vs u h e =
    let divides = dvd_of_mod-eq-zero v e in
    let enough : v ≤ u = le_of_dvd h divides in
    let next : u / v ≡ suc ((u - v) / v) = div-eq-sub-div (pos_of_dvd_of_pos divides h) enough ∙ add-one ((u - v) / v) in
    let rest : (u - v) % v ≡ 0 = sym (mod-eq-sub-mod enough) ∙ e in
    let is = div-add-mod (u - v) v in (
      0,
      (u - v) / v ∷ takes vs (u % v),
      omega arith,
      enough,
      rw next,
      λ t low high.
          let q : t / v ≡ (u - v) / v = quotient v ((u - v) / v) t (omega arith) (omega arith) in
          rw (q, next, e, takes_zero vs),
    )

last_coin : {vs : List ℕ} → Falls vs → (u : ℕ) → 0 < u → Last vs u
unfolding own
last_coin one u h = whole 1 [] u h (mod-one u)
last_coin (more {v} {w} {vs} l f) u h =
    elim (eq-zero-or-pos (u % v)) [
      | inl e ↦ whole v (w ∷ vs) u h e
      | inr pos ↦
          let (j, ys, lj, le, e, same) = last_coin f (u % v) pos in (
            suc j,
            u / v ∷ ys,
            omega arith,
            omega (arith, mod-le u v),
            ap (λ (xs : List ℕ). u / v ∷ xs) e,
            λ t low high.
                let u_is = div-add-mod u v in
                let q : t / v ≡ u / v = quotient v (u / v) t (omega arith) (omega (arith, mod-lt u {m = v} (omega arith))) in
                let t_is = rw q at (div-add-mod t v) in
                rw q (ap (λ (xs : List ℕ). u / v ∷ xs) (same (t % v) (omega arith) (omega arith))),
          )
    ]

pub last : {vs : List ℕ} → Falls vs → (u : ℕ) → 0 < u →
    (j : ℕ) × (j < length vs) × Without vs u (largest_first vs u) j × ((t : ℕ) → u - get_or vs j 0 ≤ t → t < u → own vs j t ≡ takes vs u)
unfolding takes_pays
last {vs} f u h =
    let (j, ys, l, le, e, same) = last_coin f u h in
    (j, l, without vs u (largest_first vs u) j ys (takes_pays f u) l e, same)
