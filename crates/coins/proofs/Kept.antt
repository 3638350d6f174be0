-- What every value of the types is. Assumes nothing.
use Rattle.std.proofs.Common.{◌≡◌, ◌-◌, ◌≤◌, ◌++◌, length, replicate, ap, ◌∙◌, sym, subst}
use Rattle.std.proofs.lemmas.List.{length-take-le, take-append-drop}
use Rattle.coins.specs.declared.per_kind.PerKind.{PerKind}
use Rattle.coins.specs.Places.{numbers_of, SameNumbers}
use Rattle.coins.specs.Values.{EverySet, FewCounts}

pub length-numbers : (p : PerKind) → length (numbers_of p) ≡ p.kinds
length-numbers p = length-take-le p.kinds p.numbers (subst (λ n. p.kinds ≤ n) (sym p.long) p.few)

pub few_numbers : (p : PerKind) → length (numbers_of p) ≤ 16
few_numbers p = subst (λ n. n ≤ 16) (sym (length-numbers p)) p.few

pub every_set : EverySet
every_set s = (few_numbers s.values, s.falls)

pub few_counts : FewCounts
few_counts c = few_numbers c.0

-- all places: the numbers, and 0 in each that is left
pub all_places : (p : PerKind) → numbers_of p ++ replicate (16 - p.kinds) 0 ≡ p.numbers
all_places p = ap (λ ys. numbers_of p ++ ys) (sym p.rest) ∙ take-append-drop p.kinds p.numbers

pub same_numbers : SameNumbers
same_numbers p q e =
    let k : p.kinds ≡ q.kinds = sym (length-numbers p) ∙ ap length e ∙ length-numbers q in
    (k, sym (all_places p) ∙ ap (λ l. l ++ replicate (16 - p.kinds) 0) e ∙ ap (λ n. numbers_of q ++ replicate (16 - n) 0) k ∙ all_places q)
