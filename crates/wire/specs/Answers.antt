-- Answers as bytes, and bytes as answers. Assumes nothing: these are definitions.
use Rattle.std.specs.Prelude.{ℕ, ◌+◌, ◌*◌, Bool, ◌&&◌, List, [], ◌∷◌, length, drop, Some, None, Option, ◌==◌, nat_le, slice_index}
use Rattle.coins.specs.Coins.{pick}
use Rattle.coins.specs.Calls.{Answer, refused, number, two, coins}
use Rattle.fields.specs.Bytes.{fields, numbers}
use Rattle.fields.specs.Counted.{are_counts}

-- the bytes of an answer: its form, and its numbers; coins have their count in a byte before them
unfoldable pub answer_bytes : Answer → List ℕ
answer_bytes (refused k p) = 0 ∷ fields (k ∷ p ∷ [])
answer_bytes (number n) = 1 ∷ fields (n ∷ [])
answer_bytes (two a b) = 2 ∷ fields (a ∷ b ∷ [])
answer_bytes (coins ns) = 3 ∷ (length ns ∷ fields ns)

-- the numbers of refusals
abbrev pub is_reason : ℕ → Bool
is_reason k = nat_le 1 k && nat_le k 7

-- the answer of this form with these bytes behind it, if it is one
abbrev pub answer_of : ℕ → List ℕ → Option Answer
answer_of k bs =
    pick (k == 0) (pick (length bs == 8 && is_reason (slice_index (numbers bs) 0)) (Some (refused (slice_index (numbers bs) 0) (slice_index (numbers bs) 1))) None)
    (pick (k == 1) (pick (length bs == 4) (Some (number (slice_index (numbers bs) 0))) None)
    (pick (k == 2) (pick (length bs == 8) (Some (two (slice_index (numbers bs) 0) (slice_index (numbers bs) 1))) None)
    (pick (k == 3 && (length bs == 1 + 4 * slice_index bs 0 && are_counts (numbers (drop 1 bs)))) (Some (coins (numbers (drop 1 bs))))
    None)))

-- the answer that bytes are, if they are one that a till may give: at most 16 coins, so many of each below 2^16
unfoldable pub read_answer : List ℕ → Option Answer
read_answer [] = None
read_answer (k ∷ bs) = answer_of k bs
