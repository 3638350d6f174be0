-- Numbers that are counts of coins. Assumes nothing: a definition.
use Rattle.std.specs.Prelude.{ℕ, Bool, ◌&&◌, List, length, nat_le}
use Rattle.coins.specs.Calls.{all_to}

-- no more than a set has kinds, each below 2^16
abbrev pub are_counts : List ℕ → Bool
are_counts ns = nat_le (length ns) 16 && all_to 65535 ns
