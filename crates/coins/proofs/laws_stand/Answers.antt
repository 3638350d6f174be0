-- `laws_stand` cites the laws.
use Rattle.coins.proofs.Kept.{every_set, few_counts, same_numbers}
use Rattle.coins.proofs.laws_stand.Goals as goal

pub returns : goal.returns
returns c = record {
  every_set = every_set;
  few_counts = few_counts;
  same_numbers = same_numbers;
}
