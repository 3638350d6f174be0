-- The smallest spoilt amount, looked for by two coins at a time. Assumes nothing: definitions, and statements whose proof is owed.
use Rattle.std.specs.Prelude.{◌≡◌, ℕ, zero, suc, ◌+◌, ◌-◌, ◌/◌, ◌%◌, ◌<◌, ◌≤◌, List, [], ◌∷◌, length, slice_index}
use Rattle.coins.specs.Coins.{fewest, plenty, largest_first}
use Rattle.coins.specs.Calls.{Limits, first_spoilt}
use Rattle.coins.specs.Promise.{Taken, first_part, Spoilt}

-- the amount of the i-th and the j-th coin: what the largest first takes of one cent less than the i-th, with the coins up to the j-th, and one more of the j-th
abbrev pub of_two : List ℕ → ℕ → ℕ → ℕ
of_two vs i j = first_part vs j (slice_index vs i - 1) 0

-- these coins are a way to pay it: how many they are, where x is one cent less than the i-th coin
unfoldable pub own_way : List ℕ → ℕ → ℕ → ℕ
own_way [] j x = 0
own_way (v ∷ vs) zero x = suc (x / v)
own_way (v ∷ vs) (suc j) x = x / v + own_way vs j (x % v)

-- the test of two coins: their own way has fewer coins than the largest first takes
abbrev pub Passes : List ℕ → ℕ → ℕ → Type 0
Passes vs i j = (i < j) × (j < length vs) × (own_way vs j (slice_index vs i - 1) < largest_first vs (of_two vs i j))

-- x is the smallest spoilt amount
abbrev pub SmallestSpoilt : List ℕ → ℕ → Type 0
SmallestSpoilt vs x = Spoilt vs x × ((y : ℕ) → y < x → ¬ (Spoilt vs y))

-- two coins that pass, and none that pass have a smaller amount
abbrev pub SmallestPair : List ℕ → ℕ → ℕ → Type 0
SmallestPair vs i j = Passes vs i j × ((p q : ℕ) → Passes vs p q → of_two vs i j ≤ of_two vs p q)

-- 4. The smallest spoilt amount is the amount of two coins that pass, and their own way has the fewest coins
abbrev pub SmallestIsOne : Type 0
SmallestIsOne =
    (l : Limits) (vs : List ℕ) (x : ℕ) → Taken l vs → SmallestSpoilt vs x →
    (i : ℕ) × (j : ℕ) × Passes vs i j × (of_two vs i j ≡ x) × (suc (own_way vs j (slice_index vs i - 1)) ≡ fewest vs (plenty vs x) x)

-- 7. The smallest amount of two coins that pass is the smallest spoilt amount; and where none pass, no amount at all is spoilt
abbrev pub SearchRight : Type 0
SearchRight =
    (l : Limits) (vs : List ℕ) → Taken l vs →
    ((i j : ℕ) → SmallestPair vs i j → SmallestSpoilt vs (of_two vs i j)) × (((i j : ℕ) → ¬ (Passes vs i j)) → (x : ℕ) → ¬ (Spoilt vs x))

-- so the search answers what the written till does: the smallest of these amounts, if it is at most n, and 0 if none is
abbrev pub SearchAnswers : Type 0
SearchAnswers =
    (l : Limits) (vs : List ℕ) (n : ℕ) → Taken l vs →
    (((i j : ℕ) → Passes vs i j → n < of_two vs i j) → first_spoilt vs n 1 ≡ 0) ×
    ((i j : ℕ) → SmallestPair vs i j → of_two vs i j ≤ n → first_spoilt vs n 1 ≡ of_two vs i j)
