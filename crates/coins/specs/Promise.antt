-- What is promised: each statement is a type, and its proof is owed by the contract of some function. Assumes nothing.
use Rattle.std.specs.Prelude.{◌≡◌, ℕ, zero, suc, ◌+◌, ◌-◌, ◌*◌, ◌/◌, ◌%◌, ◌<◌, ◌≤◌, Bool, true, false, ◌&&◌, ◌||◌, ◌≢◌, List, [], ◌∷◌, length, ◌==◌, nat_le, nat_lt, slice_index}
use Rattle.coins.specs.Coins.{pick, sum, worth, within, fewest, paid, plenty, largest_first, falling}
use Rattle.coins.specs.Calls.{Call, pays, sells, Answer, Limits, turned, after, answers, no_coins}

-- limits and values with which a till may be opened: 1 to 16 values, from the largest on, the last 1
abbrev pub Taken : Limits → List ℕ → Type 0
Taken l vs = (length vs ≤ 16) × (falling vs ≡ true) × (l.each ≤ 1000) × (l.most ≤ 1000000)

-- memory, as far as it is kept from call to call and not only worked in
pub record Memory : Type 0 where
  pub words : List ℕ

-- THE MAIN PROMISE. A keeper is what the contracts of the session's open and call say: which memory opening leaves, and for each call which memory it leaves and what it answers.
pub record Keeper : Type 0 where
  pub opened : Limits → List ℕ → Memory
  pub next : Memory → Call → Memory
  pub says : Memory → Call → Answer

-- what the keeper answers to a list of calls
unfoldable pub told_by : Keeper → Memory → List Call → List Answer
told_by k m [] = []
told_by k m (c ∷ cs) = k.says m c ∷ told_by k (k.next m c) cs

-- which memory it leaves after them
unfoldable pub left_by : Keeper → Memory → List Call → Memory
left_by k m [] = m
left_by k m (c ∷ cs) = left_by k (k.next m c) cs

-- so many of each coin after them in the written till
unfoldable pub ran : Limits → List ℕ → List ℕ → List Call → List ℕ
ran l vs ns [] = ns
ran l vs ns (c ∷ cs) = ran l vs (after l vs ns c) cs

-- for every set of coins and every list of calls, the keeper answers what the written till does, which tries all numbers of all coins
unfoldable pub Right : (ℕ → Bool) → Keeper → Type 0
Right can k = (l : Limits) (vs : List ℕ) (cs : List Call) → Taken l vs → l.calls_can ≡ can → told_by k (k.opened l vs) cs ≡ answers l vs (no_coins vs) cs

-- and a call that is turned away leaves the memory as it was
unfoldable pub RefusalKeeps : (ℕ → Bool) → Keeper → Type 0
RefusalKeeps can k =
    (l : Limits) (vs : List ℕ) (cs : List Call) (c : Call) → Taken l vs → l.calls_can ≡ can → 0 < turned l vs (ran l vs (no_coins vs) cs) c →
    k.next (left_by k (k.opened l vs) cs) c ≡ left_by k (k.opened l vs) cs

-- the calls of the first stage: it fills, pays, and says what could be paid and what is in the till
abbrev pub thin : ℕ → Bool
thin k = nat_lt k 2 || (k == 3 || k == 4)

-- all calls
abbrev pub whole : ℕ → Bool
whole k = true

-- THE LAWS. 1. What is paid is the amount, from coins that are there, and no way has fewer coins
unfoldable pub Fewest : Type 0
Fewest =
    (l : Limits) (vs ns xs : List ℕ) (x : ℕ) → Taken l vs → length ns ≡ length vs → length xs ≡ length vs → within xs ns ≡ true → worth vs xs ≡ x →
    (0 < fewest vs ns x) × (worth vs (paid vs ns x) ≡ x) × (within (paid vs ns x) ns ≡ true) × (suc (sum (paid vs ns x)) ≡ fewest vs ns x) × (sum (paid vs ns x) ≤ sum xs)

-- and where `fewest` says that there is no way, there is none
unfoldable pub NotOtherwise : Type 0
NotOtherwise =
    (vs ns xs : List ℕ) (x : ℕ) → length ns ≡ length vs → length xs ≡ length vs → fewest vs ns x ≡ 0 → within xs ns ≡ true → worth vs xs ≢ x

-- 2. Money is kept: a sale leaves the price more in the till, a payment the amount less
unfoldable pub Kept : Type 0
Kept =
    (l : Limits) (vs ns cs : List ℕ) (p x : ℕ) → Taken l vs → length ns ≡ length vs →
    (turned l vs ns (sells p cs) ≡ 0 → worth vs (after l vs ns (sells p cs)) ≡ worth vs ns + p)
    × (turned l vs ns (pays x) ≡ 0 → worth vs (after l vs ns (pays x)) + x ≡ worth vs ns)

-- 3. More coins are never worse: what could be paid still can be, with no more coins
unfoldable pub MoreCoins : Type 0
MoreCoins = (l : Limits) (vs ns ms : List ℕ) (x : ℕ) → Taken l vs → length ns ≡ length vs → length ms ≡ length vs → within ns ms ≡ true → 0 < fewest vs ns x → (0 < fewest vs ms x) × (fewest vs ms x ≤ fewest vs ns x)

-- 4. Where to look. What the largest first takes of x with the coins up to the j-th, and one more of the j-th, are worth this together, where the first value of the list is the k-th coin
unfoldable pub first_part : List ℕ → ℕ → ℕ → ℕ → ℕ
first_part [] j x k = 0
first_part (zero ∷ vs) j x k = first_part vs j x (suc k)
first_part (suc v ∷ vs) j x k = pick (nat_le k j) (suc v * (x / suc v) + pick (k == j) (suc v) (first_part vs j (x % suc v) (suc k))) 0

-- with plenty of coins, the largest first is not the fewest
abbrev pub Spoilt : List ℕ → ℕ → Type 0
Spoilt vs x = fewest vs (plenty vs x) x ≢ suc (largest_first vs x)

-- if any amount is spoilt, one that is not larger comes of two coins: of the i-th less one cent, what the largest first takes up to the j-th, and one more of the j-th
unfoldable pub WhereToLook : Type 0
WhereToLook =
    (l : Limits) (vs : List ℕ) (x : ℕ) → Taken l vs → Spoilt vs x →
    (i : ℕ) × (j : ℕ) × (i < length vs) × (j < length vs) × (i < j) × Spoilt vs (first_part vs j (slice_index vs i - 1) 0) × (first_part vs j (slice_index vs i - 1) 0 ≤ x)

-- 5. Coins of which each is a multiple of the next are never spoilt
unfoldable pub each_divides : List ℕ → Bool
each_divides [] = true
each_divides (v ∷ []) = true
each_divides (v ∷ (zero ∷ vs)) = false
each_divides (v ∷ (suc w ∷ vs)) = v % suc w == 0 && each_divides (suc w ∷ vs)

unfoldable pub NeverSpoilt : Type 0
NeverSpoilt = (l : Limits) (vs : List ℕ) (x : ℕ) → Taken l vs → each_divides vs ≡ true → fewest vs (plenty vs x) x ≡ suc (largest_first vs x)
