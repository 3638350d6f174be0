use Rattle.std.proofs.Common.{◌≡◌, ◌≤◌, ◌∷◌, length, get_or, take, drop}
use Rattle.coins.specs.Coins.{falling}
use Rattle.coins.specs.Places.{numbers_of}
use Rattle.coins.proofs.Falls.{falls_below}
use Rattle.coins.proofs.coin_set.CoinSetTryFromRefSliceU32.try_from.Given as goal

abbrev pub invariant-loop-value : goal.invariant-loop-value
invariant-loop-value l = record {
  fits : l.above ≤ 65536;
  last : l.above ≡ get_or (65536 ∷ l.values) l.value-index 0;
  room : length (numbers_of l.held) ≤ 16;
  held : numbers_of l.held ≡ take l.value-index l.values;
  falls : falls_below l.above (drop l.value-index l.values) ≡ falling l.values;
}
