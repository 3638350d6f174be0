-- Coins, ways to pay, and the fewest coins. Assumes nothing: these are definitions.
--
-- A set of coins is a list of values, from the largest on. So many of each coin are a list of counts, as long as the values.
-- A way to pay an amount is a list of counts, no more than there are, that are worth the amount together.
-- "One more, or 0": a number of coins is told as one more than it is, and 0 says that there is no way.
use Rattle.std.specs.Prelude.{ℕ, zero, suc, ◌+◌, ◌-◌, ◌*◌, ◌/◌, ◌%◌, Bool, true, false, ◌&&◌, List, [], ◌∷◌, ◌==◌, nat_le, nat_lt}

-- the first where the test holds, else the second
abbrev pub pick : {A : Type 0} → Bool → A → A → A
pick true a b = a
pick false a b = b

-- how many coins so many of each are together
unfoldable pub sum : List ℕ → ℕ
sum [] = 0
sum (x ∷ xs) = x + sum xs

-- what so many of each coin are worth together
unfoldable pub worth : List ℕ → List ℕ → ℕ
worth [] ns = 0
worth (v ∷ vs) [] = 0
worth (v ∷ vs) (n ∷ ns) = v * n + worth vs ns

-- of no coin more than there are
unfoldable pub within : List ℕ → List ℕ → Bool
within [] ns = true
within (a ∷ xs) [] = false
within (a ∷ xs) (n ∷ ns) = nat_le a n && within xs ns

-- the smaller of two numbers of coins, each one more, or 0 where there is no way
abbrev pub fewer : ℕ → ℕ → ℕ
fewer zero b = b
fewer (suc a) zero = suc a
fewer (suc a) (suc b) = pick (nat_lt b a) (suc b) (suc a)

-- k coins besides: one more, or 0
abbrev pub and_more : ℕ → ℕ → ℕ
and_more k zero = 0
and_more k (suc a) = suc (k + a)

-- with up to k coins of value v: the fewest over all numbers of them, what is left of x by some way `rest`
unfoldable pub with_some : ℕ → ℕ → ℕ → (ℕ → ℕ) → ℕ
with_some zero v x rest = rest x
with_some (suc k) v x rest = fewer (pick (nat_le (suc k * v) x) (and_more (suc k) (rest (x - suc k * v))) 0) (with_some k v x rest)

-- the fewest coins that pay x, over all numbers of all coins: one more, or 0
unfoldable pub fewest : List ℕ → List ℕ → ℕ → ℕ
fewest [] ns x = pick (x == 0) 1 0
fewest (v ∷ vs) [] x = pick (x == 0) 1 0
fewest (v ∷ vs) (n ∷ ns) x = with_some n v x (fewest vs ns)

-- of up to k coins of value v the largest number with which x is paid by `most` coins in all (one more), what is left by `rest`
unfoldable pub as_many : ℕ → ℕ → ℕ → ℕ → (ℕ → ℕ) → ℕ
as_many zero v x most rest = 0
as_many (suc k) v x most rest = pick (nat_le (suc k * v) x && and_more (suc k) (rest (x - suc k * v)) == most) (suc k) (as_many k v x most rest)

-- which coins are paid: of the largest coin as many as there can be in a way with the fewest coins, of the next as many as there can be then, and so on
unfoldable pub paid : List ℕ → List ℕ → ℕ → List ℕ
paid [] ns x = []
paid (v ∷ vs) [] x = []
paid (v ∷ vs) (n ∷ ns) x =
    let a : ℕ = as_many n v x (fewest (v ∷ vs) (n ∷ ns) x) (fewest vs ns) in
    a ∷ paid vs ns (x - a * v)

-- plenty of each coin for the amount x: x of each, since every value is at least 1
unfoldable pub plenty : List ℕ → ℕ → List ℕ
plenty [] x = []
plenty (v ∷ vs) x = x ∷ plenty vs x

-- the largest coin first, with plenty of each: of the largest coin as many as fit, of what is left as many of the next, and so on; how many coins
unfoldable pub largest_first : List ℕ → ℕ → ℕ
largest_first [] x = 0
largest_first (zero ∷ vs) x = largest_first vs x
largest_first (suc v ∷ vs) x = x / suc v + largest_first vs (x % suc v)

-- a list that is a set of coins but for its length: each value larger than the next, the last 1, none above 65,535
unfoldable pub falling : List ℕ → Bool
falling [] = false
falling (v ∷ []) = v == 1
falling (v ∷ (w ∷ vs)) = (nat_lt w v && nat_le v 65535) && falling (w ∷ vs)
