-- The promises stand. Assumes nothing.
use Rattle.std.proofs.Common.{arith}
use Rattle.coins.specs.Coins.{paid}
use Rattle.coins.specs.Calls.{turned_by, changed, call_number}
use Rattle.coins.specs.Promise.{Fewest, NotOtherwise, Kept, MoreCoins}
use Rattle.coins.specs.Order.{MostLarge}
use Rattle.laws.proofs.Ways.{fewest_at_most, paid_is_way, paid_most_large}
use Rattle.laws.proofs.Money.{worth-less, worth-added, within_trans}

pub fewest_stands : Fewest
unfolding Fewest
fewest_stands l vs ns xs x t n k h e = grind (arith, fewest_at_most vs ns xs x, paid_is_way vs ns x)

pub not_otherwise_stands : NotOtherwise
unfolding NotOtherwise
not_otherwise_stands vs ns xs x n k z h e = omega (arith, fewest_at_most vs ns xs x h e)

pub more_coins_stands : MoreCoins
unfolding MoreCoins
more_coins_stands l vs ns ms x t n k h p = grind (arith, paid_is_way, fewest_at_most vs ms (paid vs ns x) x, within_trans (paid vs ns x) ns ms)

pub most_large_stands : MostLarge
unfolding MostLarge
most_large_stands vs ns xs x n k h e s = grind (arith, fewest_at_most vs ns xs x, paid_is_way vs ns x, paid_most_large)

pub kept_stands : Kept
unfolding Kept turned_by changed call_number
kept_stands l vs ns cs p x t n = grind (arith, worth-less, worth-added, paid_is_way)
