-- Coins of which each divides the one before are never spoilt. Assumes nothing.
use Rattle.std.proofs.Common.{◌≡◌, ℕ, zero, suc, ◌+◌, ◌*◌, ◌/◌, ◌%◌, ◌<◌, ◌≤◌, true, List, [], ◌∷◌, length, ap, zero-lt-suc, mul_assoc, mul_comm, one-mul, le-div_iff_mul-le, le-mul_of_pos_right, div-one, arith}
use mathlib.Core.Bool.{false≢true}
use Prim.Native.Nat.{◌∣◌}
use native.Mathlib.Nat.{mul-add-div, mul-add-mod_self_left, mod-mod_of_dvd, dvd_of_mod-eq-zero, div-add-mod, mul-div_cancel'}
use Rattle.coins.specs.Coins.{sum, worth, largest_first}
use Rattle.coins.specs.Promise.{each_divides, NeverSpoilt}
use Rattle.laws.proofs.Falling.{Falls, one, more, falls}
use Rattle.laws.proofs.Largest.{takes_pays}
use Rattle.laws.proofs.Few.{fewest_is, few_pays, few_least}

-- coins of the next smaller value in place of larger coins save nothing
exchange : (v w y : ℕ) → 0 < w → w ≤ v → w ∣ v → y / v + y % v / w ≤ y / w
exchange v w y pos le divides =
    let k = v / w in
    let q = y / v in
    let y_is : y ≡ w * (k * q) + y % v = omega (arith, div-add-mod y v, mul_assoc w k q, ap (λ n. n * q) (mul-div_cancel' w divides)) in
    let some : 0 < k = (le-div_iff_mul-le pos).1 (omega (arith, one-mul w)) in
    omega (arith, ap (λ n. n / w) y_is, mul-add-div pos (k * q) (y % v), mul_comm k q, le-mul_of_pos_right q some)

largest_least : {vs : List ℕ} → Falls vs → each_divides vs ≡ true → (xs : List ℕ) → length xs ≡ length vs → largest_first vs (worth vs xs) ≤ sum xs
unfolding each_divides worth sum largest_first
largest_least one d [] e = absurd (omega arith)
largest_least one d (a ∷ xs) e = simp div-one (omega arith)
largest_least (more l f) d [] e = absurd (omega arith)
largest_least (more {v = zero} l f) d (a ∷ xs) e = absurd (omega arith)
largest_least (more {v = suc v} {w = zero} l f) d (a ∷ xs) e = absurd (false≢true d)
largest_least (more {v = suc v} {w = suc w} {vs = vs} l f) d (a ∷ xs) e =
    let y = worth (suc w ∷ vs) xs in
    let divides : suc w ∣ suc v = dvd_of_mod-eq-zero (suc w) (grind arith) in
    rw (mul-add-div (zero-lt-suc v) a y, mul-add-mod_self_left (suc v) a y, mod-mod_of_dvd (suc w) y divides)
    (omega (arith, exchange (suc v) (suc w) y (zero-lt-suc w) (omega arith) divides, largest_least f (grind arith) xs (omega arith)))

pub never_spoilt : NeverSpoilt
unfolding NeverSpoilt
never_spoilt l vs x t d =
    let f = falls vs t.1 in
    let w = few_pays f x in
    let e = w.pays in
    let least = largest_least f d w.coins w.long in
    omega (arith, fewest_is f x, few_least f x (largest_first vs x) (takes_pays f x), rw e at least)
