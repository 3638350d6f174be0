-- Ways to pay, with a coin more and a coin less. Assumes nothing.
use Rattle.std.proofs.Common.{◌≡◌, ℕ, zero, suc, ◌+◌, ◌<◌, List, [], ◌∷◌, length, get_or, sym, refl, ap, ◌∙◌, mul-suc, arith}
use Rattle.coins.specs.Coins.{sum, worth}

-- a way to pay x, with k coins
pub record Way (vs : List ℕ) (x k : ℕ) : Type 0 where
  pub coins : List ℕ
  pub long : length coins ≡ length vs
  pub pays : worth vs coins ≡ x
  pub many : sum coins ≡ k

pub same_way : (vs : List ℕ) (x k y m : ℕ) (a : Way vs x k) (b : Way vs y m) → a.coins ≡ b.coins → (x ≡ y) × (k ≡ m)
same_way vs x k y m a b e = (sym a.pays ∙ ap (worth vs) e ∙ b.pays, sym a.many ∙ ap sum e ∙ b.many)

-- one more of the p-th coin
abbrev pub add : ℕ → List ℕ → List ℕ
add p [] = []
add zero (x ∷ xs) = suc x ∷ xs
add (suc p) (x ∷ xs) = x ∷ add p xs

pub length-add : (p : ℕ) (xs : List ℕ) → length (add p xs) ≡ length xs
length-add p [] = refl
length-add zero (x ∷ xs) = refl
length-add (suc p) (x ∷ xs) = ap suc (length-add p xs)

pub worth-add : (vs xs : List ℕ) (p : ℕ) → length xs ≡ length vs → p < length vs →
    (worth vs (add p xs) ≡ get_or vs p 0 + worth vs xs) × (sum (add p xs) ≡ suc (sum xs))
unfolding sum worth
worth-add [] xs p e h = omega arith
worth-add (v ∷ vs) [] p e h = omega arith
worth-add (v ∷ vs) (x ∷ xs) p e h = grind (arith, mul-suc, worth-add vs xs)

unfoldable pub one_more : (vs : List ℕ) (x k p : ℕ) → p < length vs → Way vs x k → Way vs (get_or vs p 0 + x) (suc k)
one_more vs x k p h w =
    let (pays, many) = worth-add vs w.coins p w.long h in
    record {
      coins = add p w.coins;
      long = length-add p w.coins ∙ w.long;
      pays = pays ∙ ap (λ y. get_or vs p 0 + y) w.pays;
      many = many ∙ ap suc w.many;
    }

-- a way without one of its p-th coin
abbrev pub Without : List ℕ → ℕ → ℕ → ℕ → Type 0
Without vs x k p = (y : ℕ) × (m : ℕ) × (get_or vs p 0 + y ≡ x) × (suc m ≡ k) × Way vs y m

pub without : (vs : List ℕ) (x k p : ℕ) (ys : List ℕ) (w : Way vs x k) → p < length vs → w.coins ≡ add p ys → Without vs x k p
unfolding one_more
without vs x k p ys w h e =
    let long : length ys ≡ length vs = sym (length-add p ys) ∙ ap length (sym e) ∙ w.long in
    let rest : Way vs (worth vs ys) (sum ys) = record { coins = ys; long = long; pays = refl; many = refl } in
    let (x_is, k_is) = same_way vs x k _ _ w (one_more vs (worth vs ys) (sum ys) p h rest) e in
    (worth vs ys, sum ys, sym x_is, sym k_is, rest)

-- a way to pay something has some coin
take_one : (vs xs : List ℕ) → 0 < worth vs xs → (p : ℕ) × (ys : List ℕ) × (p < length ys) × (xs ≡ add p ys)
unfolding worth
take_one [] xs h = absurd (omega arith)
take_one (v ∷ vs) [] h = absurd (omega arith)
take_one (v ∷ vs) (suc x ∷ xs) h = (0, x ∷ xs, omega arith, refl)
take_one (v ∷ vs) (zero ∷ xs) h =
    let (p, ys, l, e) = take_one vs xs (omega arith) in
    (suc p, 0 ∷ ys, omega arith, ap (λ (r : List ℕ). 0 ∷ r) e)

pub one_less : (vs : List ℕ) (x k : ℕ) → 0 < x → Way vs x k → (p : ℕ) × (p < length vs) × Without vs x k p
one_less vs x k h w =
    let (p, ys, l, e) = take_one vs w.coins (rw w.pays h) in
    let l : p < length vs = omega (arith, length-add p ys, ap length e, w.long) in
    (p, l, without vs x k p ys w l e)
