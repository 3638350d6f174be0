-- The till: what is asked of it, what it answers, and what is in it then. Assumes nothing: these are definitions.
--
-- A till has limits l, values vs, and so many of each coin, ns. `answer` says what a call is answered, `after` how many of each coin there are then.
use Rattle.std.specs.Prelude.{ℕ, zero, suc, ◌+◌, ◌-◌, Bool, true, ◌&&◌, ◌||◌, List, [], ◌∷◌, length, ◌==◌, nat_le, nat_lt, slice_index, slice_set}
use Rattle.coins.specs.Coins.{pick, sum, worth, fewest, paid, plenty, largest_first}

pub data Call : Type 0 where
  fills : ℕ → ℕ → Call  -- a coin, by its place from 0, and how many more of it
  pays : ℕ → Call  -- an amount, to be paid with the fewest coins
  sells : ℕ → List ℕ → Call  -- a price, and the coins put in, so many of each: what they are worth more than the price is paid back, also from these
  could : ℕ → Call  -- an amount: with how many coins it could be paid
  holds : Call  -- what is in the till
  spoils : ℕ → Call  -- a bound: the smallest amount up to it that is spoilt, with plenty of coins
  garbled : ℕ → Call  -- no call: it can't be read from this place on

pub data Answer : Type 0 where
  refused : ℕ → ℕ → Answer  -- a number that says why, and the place
  number : ℕ → Answer
  two : ℕ → ℕ → Answer
  coins : List ℕ → Answer  -- so many of each coin

pub record Limits : Type 0 where
  pub calls_can : ℕ → Bool  -- which calls the till does, by their numbers
  pub each : ℕ  -- how many of each coin it holds at most
  pub most : ℕ  -- the largest amount, price or bound

-- each call's number; `garbled` has none of its own
unfoldable pub call_number : Call → ℕ
call_number (fills i k) = 0
call_number (pays x) = 1
call_number (sells p cs) = 2
call_number (could x) = 3
call_number holds = 4
call_number (spoils n) = 5
call_number (garbled n) = 255

-- so many of each coin, with so many more of each
unfoldable pub added : List ℕ → List ℕ → List ℕ
added [] ys = []
added (x ∷ xs) [] = x ∷ xs
added (x ∷ xs) (y ∷ ys) = (x + y) ∷ added xs ys

-- so many of each coin, with so many taken away of each
unfoldable pub less : List ℕ → List ℕ → List ℕ
less [] ys = []
less (x ∷ xs) [] = x ∷ xs
less (x ∷ xs) (y ∷ ys) = (x - y) ∷ less xs ys

-- each is at most m
unfoldable pub all_to : ℕ → List ℕ → Bool
all_to m [] = true
all_to m (x ∷ xs) = nat_le x m && all_to m xs

-- why a call is turned away, 0 if it is done. 1: it can't be read. 2: out of range. 4: no such coin. 5: less put in than the price.
-- 7: more of a coin than the limit would be in the till. 6: it can't be paid. A sale is checked in this order: 2, 5, 7 with all coins put in and none paid yet, then 6
unfoldable pub turned_by : Limits → List ℕ → List ℕ → Call → ℕ
turned_by l vs ns (fills i k) = pick (nat_lt i (length vs)) (pick (nat_le (slice_index ns i + k) l.each) 0 7) 4
turned_by l vs ns (pays x) = pick (nat_le x l.most) (pick (fewest vs ns x == 0) 6 0) 2
turned_by l vs ns (sells p cs) =
    pick (length cs == length vs && (all_to l.each cs && (nat_le p l.most && nat_le (worth vs cs) l.most)))
    (pick (nat_le p (worth vs cs)) (pick (all_to l.each (added ns cs)) (pick (fewest vs (added ns cs) (worth vs cs - p) == 0) 6 0) 7) 5) 2
turned_by l vs ns (could x) = pick (nat_le x l.most) 0 2
turned_by l vs ns holds = 0
turned_by l vs ns (spoils n) = pick (nat_le n l.most) 0 2
turned_by l vs ns (garbled n) = 1

-- the same, and 2 for a call that this till does not do
abbrev pub turned : Limits → List ℕ → List ℕ → Call → ℕ
turned l vs ns c = pick (call_number c == 255 || l.calls_can (call_number c)) (turned_by l vs ns c) 2

-- the place of a refusal, by its number: the field of the call that is at fault, from 0; of what can't be read, where it ceases to be a call
unfoldable pub place : Call → ℕ → ℕ
place (garbled n) k = n
place (fills i k) m = pick (m == 7) 1 0
place (pays x) k = 0
place (sells p cs) k = pick (k == 5 || k == 7) 1 0
place (could x) k = 0
place holds k = 0
place (spoils n) k = 0

-- so many of each coin after a call that is done
unfoldable pub changed : List ℕ → List ℕ → Call → List ℕ
changed vs ns (fills i k) = slice_set ns i (slice_index ns i + k)
changed vs ns (pays x) = less ns (paid vs ns x)
changed vs ns (sells p cs) = less (added ns cs) (paid vs (added ns cs) (worth vs cs - p))
changed vs ns (could x) = ns
changed vs ns holds = ns
changed vs ns (spoils n) = ns
changed vs ns (garbled n) = ns

-- so many of each coin after any call: one that is turned away changes nothing
abbrev pub after : Limits → List ℕ → List ℕ → Call → List ℕ
after l vs ns c = pick (turned l vs ns c == 0) (changed vs ns c) ns

-- of the n amounts from x on the first that is spoilt: with plenty of coins the largest first is not the fewest; 0 if none is
unfoldable pub first_spoilt : List ℕ → ℕ → ℕ → ℕ
first_spoilt vs zero x = 0
first_spoilt vs (suc n) x = pick (fewest vs (plenty vs x) x == suc (largest_first vs x)) (first_spoilt vs n (suc x)) x

-- what a call that is done is answered
unfoldable pub told : List ℕ → List ℕ → Call → Answer
told vs ns (fills i k) = number (slice_index ns i + k)
told vs ns (pays x) = coins (paid vs ns x)
told vs ns (sells p cs) = coins (paid vs (added ns cs) (worth vs cs - p))
told vs ns (could x) = number (fewest vs ns x)
told vs ns holds = two (worth vs ns) (sum ns)
told vs ns (spoils n) = number (first_spoilt vs n 1)
told vs ns (garbled n) = number 0

-- what any call is answered
abbrev pub answer : Limits → List ℕ → List ℕ → Call → Answer
answer l vs ns c = pick (turned l vs ns c == 0) (told vs ns c) (refused (turned l vs ns c) (place c (turned l vs ns c)))

-- what a list of calls is answered, one after the other
unfoldable pub answers : Limits → List ℕ → List ℕ → List Call → List Answer
answers l vs ns [] = []
answers l vs ns (c ∷ cs) = answer l vs ns c ∷ answers l vs (after l vs ns c) cs

-- none of each coin: a till that was just opened
unfoldable pub no_coins : List ℕ → List ℕ
no_coins [] = []
no_coins (v ∷ vs) = 0 ∷ no_coins vs
