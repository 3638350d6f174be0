-- The next value of a set of coins: each fact by itself.
use Rattle.std.proofs.Common.{rules, arith}
use Rattle.coins.proofs.Falls.{falls}
use Rattle.coins.proofs.Held.{held_more}
use Rattle.coins.proofs.coin_set.CoinSetTryFromRefSliceU32.try_from.Goals as goal

pub loop-value-preserved : goal.loop-value-preserved
loop-value-preserved c = record {
  fits = search (rules, falls, held_more);
  last = search (rules, falls, held_more);
  room = search (rules, falls, held_more);
  held = search (rules, falls, held_more);
  falls = search (rules, falls, held_more);
}
