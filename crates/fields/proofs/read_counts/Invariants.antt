use Rattle.std.proofs.Common.{◌≡◌, ◌≤◌, true, ◌++◌, length}
use Rattle.coins.specs.Calls.{all_to}
use Rattle.coins.specs.Places.{numbers_of}
use Rattle.fields.specs.Bytes.{numbers}
use Rattle.fields.proofs.read_counts.Given as goal

abbrev pub invariant-loop-number : goal.invariant-loop-number
invariant-loop-number l = record {
  room : length (numbers_of l.counts) ≤ 16;
  all : numbers l.bytes ≡ numbers_of l.counts ++ numbers l.rest;
  small : all_to 65535 (numbers_of l.counts) ≡ true;
}

abbrev pub decreases-loop-number : goal.decreases-loop-number
decreases-loop-number l = length l.rest
