-- The search by two coins is right. Assumes nothing.
use Rattle.std.proofs.Common.{◌≡◌, ℕ, zero, suc, ◌+◌, ◌-◌, ◌<◌, ◌≤◌, List, get_or, ap, arith}
use native.Mathlib.Decide.{dec_lt}
use Rattle.coins.specs.Coins.{largest_first}
use Rattle.coins.specs.Calls.{first_spoilt}
use Rattle.coins.specs.Promise.{Spoilt, WhereToLook}
use Rattle.laws.specs.Pairs.{own_way, of_two, Passes, SmallestSpoilt, SmallestPair, SmallestIsOne, SearchRight, SearchAnswers}
use Rattle.laws.proofs.First.{First, first}
use Rattle.laws.proofs.Falling.{Falls, falls, positive}
use Rattle.laws.proofs.Largest.{own_pays}
use Rattle.laws.proofs.Few.{few, fewest_is, few_least, spoilt_more, more_spoilt, spoilt_positive}
use Rattle.laws.proofs.Where.{smallest}

module _ {vs : List ℕ} (f : Falls vs) where
  -- no way has fewer coins than `few` says, the own way of two coins neither
  own_least : (i j : ℕ) → few vs (of_two vs i j) ≤ own_way vs j (get_or vs i 0 - 1)
  own_least i j = few_least f (of_two vs i j) (own_way vs j (get_or vs i 0 - 1)) (own_pays vs j (get_or vs i 0 - 1) (positive f))

  -- the amount of two coins that pass is spoilt
  pub passes_spoilt : (i j : ℕ) → Passes vs i j → Spoilt vs (of_two vs i j)
  passes_spoilt i j (h, le, less) = more_spoilt f (of_two vs i j) (omega (arith, own_least i j))

  -- of a spoilt amount, the smallest that is spoilt
  smallest_below : (x : ℕ) → Spoilt vs x → (w : ℕ) × (w ≤ x) × First (λ y. few vs y < largest_first vs y) w
  smallest_below x s = first (λ y. few vs y < largest_first vs y) (λ y. dec_lt (few vs y) (largest_first vs y)) x (spoilt_more f x s)

  -- some two coins that pass have an amount that is not larger
  pub spoilt_passes : (x : ℕ) → Spoilt vs x → (i : ℕ) × (j : ℕ) × Passes vs i j × (of_two vs i j ≤ x)
  spoilt_passes x s =
      let (w, le, here) = smallest_below x s in
      let (i, j, passes, e, many) = smallest f w here in
      (i, j, passes, omega arith)

  -- so the smallest such amount is the smallest spoilt amount
  pub pair_smallest : (i j : ℕ) → SmallestPair vs i j → SmallestSpoilt vs (of_two vs i j)
  pair_smallest i j (passes, least) = (
    passes_spoilt i j passes,
    λ y h s. let (p, q, others, le) = spoilt_passes y s in omega (arith, least p q others),
  )

pub where_to_look : WhereToLook
unfolding WhereToLook
where_to_look l vs x t s =
    let f = falls vs t.1 in
    let (i, j, passes, le) = spoilt_passes f x s in
    (i, j, omega arith, passes.1, passes.0, passes_spoilt f i j passes, le)

pub smallest_is_one : SmallestIsOne
smallest_is_one l vs x t (s, none) =
    let f = falls vs t.1 in
    let (i, j, passes, e, many) = smallest f x (spoilt_more f x s, λ y h more. none y h (more_spoilt f y more)) in
    (i, j, passes, e, omega (arith, fewest_is f x, own_least f i j, ap (few vs) e))

pub search_right : SearchRight
search_right l vs t =
    let f = falls vs t.1 in
    (pair_smallest f, λ none x s. let (i, j, passes, le) = spoilt_passes f x s in none i j passes)

-- the first spoilt amount of n, from x on
scan_none : (vs : List ℕ) (n x : ℕ) → ((y : ℕ) → x ≤ y → y < n + x → ¬ (Spoilt vs y)) → first_spoilt vs n x ≡ 0
unfolding first_spoilt
scan_none vs zero x none = grind arith
scan_none vs (suc n) x none =
    grind (arith, none x (omega arith) (omega arith), scan_none vs n (suc x) (λ y h l. none y (omega arith) (omega arith)))

scan_first : (vs : List ℕ) (n x m : ℕ) → x ≤ m → m < n + x → Spoilt vs m → ((y : ℕ) → y < m → ¬ (Spoilt vs y)) → first_spoilt vs n x ≡ m
unfolding first_spoilt
scan_first vs zero x m low high s none = absurd (omega arith)
scan_first vs (suc n) x m low high s none = grind (arith, none x, scan_first vs n (suc x) m)

pub search_answers : SearchAnswers
search_answers l vs n t =
    let f = falls vs t.1 in (
      (λ large. scan_none vs n 1 (λ y h le s. let (i, j, passes, e) = spoilt_passes f y s in omega (arith, large i j passes))),
      λ i j pair le.
          let (s, none) = pair_smallest f i j pair in
          scan_first vs n 1 (of_two vs i j) (spoilt_positive f (of_two vs i j) s) (omega arith) s none,
    )
