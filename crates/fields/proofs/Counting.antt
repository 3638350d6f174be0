-- Numbers taken as counts, one at a time. Assumes nothing.
use Rattle.std.proofs.Common.{◌≡◌, ℕ, zero, suc, ◌<◌, ◌≤◌, true, false, ◌&&◌, ◌⊎◌, List, [], ◌∷◌, ◌++◌, length, get_or, take, replicate, refl, ap, ◌∙◌, inl, inr, append_assoc, arith}
use Rattle.std.proofs.lemmas.List.{length-append, append-nil, length_push, take_at}
use Rattle.coins.specs.Calls.{all_to}
use Rattle.fields.specs.Counted.{are_counts}
use Rattle.fields.proofs.Numbers.{numbers_none}

-- a limit of a list that is put together of two
pub all_to-append : (m : ℕ) (xs ys : List ℕ) → all_to m (xs ++ ys) ≡ (all_to m xs && all_to m ys)
unfolding all_to
all_to-append m [] ys = grind arith
all_to-append m (x ∷ xs) ys = grind (arith, all_to-append m xs ys)

pub all_to-take : (m j : ℕ) (xs : List ℕ) → all_to m xs ≡ true → all_to m (take j xs) ≡ true
unfolding all_to
all_to-take m zero xs t = refl
all_to-take m (suc j) [] t = refl
all_to-take m (suc j) (x ∷ xs) t = grind (arith, all_to-take m j xs)

pub get_or-all_to : (m i : ℕ) (xs : List ℕ) → all_to m xs ≡ true → get_or xs i 0 ≤ m
unfolding all_to
get_or-all_to m i [] t = omega arith
get_or-all_to m zero (x ∷ xs) t = grind arith
get_or-all_to m (suc i) (x ∷ xs) t = get_or-all_to m i xs (grind arith)

pub all_to_more : (m n : ℕ) (xs : List ℕ) → m ≤ n → all_to m xs ≡ true → all_to n xs ≡ true
unfolding all_to
all_to_more m n [] h t = refl
all_to_more m n (x ∷ xs) h t = grind (arith, all_to_more m n xs)

pub all_to-replicate : (m j x : ℕ) → x ≤ m → all_to m (replicate j x) ≡ true
unfolding all_to
all_to-replicate m zero x h = refl
all_to-replicate m (suc j) x h = grind (arith, all_to-replicate m j x)

-- a seventeenth number, or one that is too large
pub not_counts : (ns held rest : List ℕ) (n : ℕ) → ns ≡ held ++ n ∷ rest → (16 ≤ length held) ⊎ (65535 < n) → are_counts ns ≡ false
unfolding all_to
not_counts ns held rest n e w =
    let l = ap length e ∙ length-append held (n ∷ rest) in
    let a = ap (all_to 65535) e ∙ all_to-append 65535 held (n ∷ rest) in
    elim w [ inl p ↦ grind arith | inr p ↦ grind arith ]

-- one more count is held
pub count_more : (held : List ℕ) (n : ℕ) → all_to 65535 held ≡ true → n ≤ 65535 → all_to 65535 (held ++ n ∷ []) ≡ true
unfolding all_to
count_more held n t h = grind (arith, all_to-append 65535 held (n ∷ []))

-- what the loop through the numbers needs, and the first of them taken from an array
pub ruleset counted = (not_counts, count_more, numbers_none, append_assoc, append-nil, length_push, take_at)
