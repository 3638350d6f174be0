-- What opening a till answers. Assumes nothing: these are definitions.
use Rattle.std.specs.Prelude.{◌≡◌, ℕ, ◌&&◌, List, length, Some, None, Option, Result, MatchResult, nat_le}
use Rattle.coins.specs.Coins.{pick, falling}
use Rattle.coins.specs.Values.{values_of}
use Rattle.till.specs.declared.opening.Limits.{Limits}
use Rattle.till.specs.declared.opening.Till.{Till}
use Rattle.till.specs.declared.opening.OpenError.{OpenError}
use Rattle.till.specs.declared.opening.OpenError.TheVariants.{NotCoinSet, LimitsOutOfRange, NotServed}

-- the place of each refusal
abbrev pub place_of : OpenError → ℕ
place_of NotCoinSet = 0
place_of LimitsOutOfRange = 1
place_of NotServed = 2

-- why no till is opened, if none is: no set of coins, then limits out of range, then more than the program's memory serves
abbrev pub opening_error : Limits → List ℕ → Option OpenError
opening_error l vs =
    pick (nat_le (length vs) 16 && falling vs)
    (pick (nat_le l.each 1000 && nat_le l.most 1000000) (pick (nat_le (length vs) 8 && nat_le l.most 4096) None (Some NotServed)) (Some LimitsOutOfRange))
    (Some NotCoinSet)

-- a till with these limits and coins, or why there is none
abbrev pub Opens : Limits → List ℕ → Result Till OpenError → Type 0
Opens l vs r = MatchResult r (λ t. (opening_error l vs ≡ None) × (t.limits ≡ l) × (values_of t.set ≡ vs)) (λ error. opening_error l vs ≡ Some error)
