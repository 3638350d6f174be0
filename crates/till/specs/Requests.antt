-- What a line's first word and the numbers after it spell. Assumes nothing: these are definitions.
use Rattle.std.specs.Prelude.{◌≡◌, ℕ, ◌≤◌, List, length, drop, vec_items, codes, slice_index}
use Rattle.std.specs.Global.{Vec}
use Rattle.wire.specs.declared.call.Call.{Call}
use Rattle.wire.specs.declared.call.Call.TheVariants.{Fill, Pay, Sell, Could, Holds, Spoils}
use Rattle.till.specs.declared.request.Request.{Request}
use Rattle.till.specs.declared.request.Request.TheVariants as request

-- the word and the numbers are this call
abbrev pub SpellsCall : List ℕ → List ℕ → Call (Vec ℕ) → Type 0
SpellsCall word ns (Fill i k) = (word ≡ codes "fill") × (length ns ≡ 2) × (i ≡ slice_index ns 0) × (k ≡ slice_index ns 1)
SpellsCall word ns (Pay x) = (word ≡ codes "pay") × (length ns ≡ 1) × (x ≡ slice_index ns 0)
SpellsCall word ns (Sell p cs) = (word ≡ codes "sell") × (1 ≤ length ns) × (length ns ≤ 17) × (p ≡ slice_index ns 0) × (vec_items cs ≡ drop 1 ns)
SpellsCall word ns (Could x) = (word ≡ codes "could") × (length ns ≡ 1) × (x ≡ slice_index ns 0)
SpellsCall word ns Holds = (word ≡ codes "holds") × (length ns ≡ 0)
SpellsCall word ns (Spoils n) = (word ≡ codes "spoils") × (length ns ≡ 1) × (n ≡ slice_index ns 0)

-- the numbers behind `open` are this opening
abbrev pub SpellsOpen : List ℕ → Request → Type 0
SpellsOpen ns (request.Open l vs) = (2 ≤ length ns) × (l.each ≡ slice_index ns 0) × (l.most ≡ slice_index ns 1) × (vec_items vs ≡ drop 2 ns)
SpellsOpen ns (request.Call c) = ⊥
