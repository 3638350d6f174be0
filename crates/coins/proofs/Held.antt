-- Numbers held one after the other. Assumes nothing.
use Rattle.std.proofs.Common.{◌≡◌, ℕ, ◌+◌, ◌-◌, ◌<◌, ◌≤◌, List, drop, set, replicate, ap, ◌∙◌, sym, arith}
use Rattle.std.proofs.lemmas.List.{drop-drop, drop-set-lt, drop-replicate, take_more, take_all, take_at, drop_at, length-take-le, length-drop, length-append, length_push}

-- one place fewer is left behind one more number, put at a place of those that there are then
pub rest_more : (k j : ℕ) (xs : List ℕ) (y : ℕ) → k < 16 → j ≤ k → drop k xs ≡ replicate (16 - k) 0 → drop (k + 1) (set xs j y) ≡ replicate (16 - (k + 1)) 0
rest_more k j xs y h m rest = drop-set-lt (k + 1) xs j y (omega arith) ∙ sym (drop-drop 1 k xs) ∙ ap (drop 1) rest ∙ drop-replicate 1 (16 - k) 0 ∙ ap (λ n. replicate n 0) (omega arith)

-- what a loop that holds one more of a list each time needs
pub ruleset held_more = (take_more, take_all, length_push)

-- what a copy of numbers over the first places needs
pub ruleset placed = (take_at, drop_at, drop-replicate, length-take-le, length-drop, length-append)
