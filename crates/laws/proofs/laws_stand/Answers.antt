-- `laws_stand` cites the laws.
use Rattle.laws.proofs.Promises.{fewest_stands, not_otherwise_stands, most_large_stands, kept_stands, more_coins_stands}
use Rattle.laws.proofs.Never.{never_spoilt}
use Rattle.laws.proofs.Pairs.{where_to_look, smallest_is_one, search_right, search_answers}
use Rattle.laws.proofs.Best.{worked_stands}
use Rattle.laws.proofs.laws_stand.Goals as goal

pub returns : goal.returns
returns c = record {
  fewest = fewest_stands;
  not_otherwise = not_otherwise_stands;
  most_large = most_large_stands;
  kept = kept_stands;
  more_coins = more_coins_stands;
  never_spoilt = never_spoilt;
  where_to_look = where_to_look;
  smallest_is_one = smallest_is_one;
  search_right = search_right;
  search_answers = search_answers;
  worked = worked_stands;
}
