use Rattle.std.proofs.Common.{◌≡◌, ◌≤◌, length, take}
use Rattle.coins.specs.Places.{numbers_of}
use Rattle.coins.proofs.per_kind.PerKindTryFromRefSliceU16.try_from.Given as goal

abbrev pub invariant-loop-number : goal.invariant-loop-number
invariant-loop-number l = record {
  room : length (numbers_of l.taken) ≤ 16;
  taken : numbers_of l.taken ≡ take l.number-index l.numbers;
}
