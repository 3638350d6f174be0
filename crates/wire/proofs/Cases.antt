-- The cases of `read`. Assumes nothing.
use Rattle.std.proofs.Common.{◌≡◌, ℕ, suc, ◌<◌, ◌≤◌, min, true, false, List, ◌∷◌, length, refl, ap, ◌∙◌, inl, inr, arith}
use Rattle.std.proofs.lemmas.Bool.{cases_lt, cases_Bool}
use Rattle.coins.specs.Calls.{garbled}
use Rattle.fields.specs.Bytes.{numbers}
use Rattle.wire.specs.declared.call.Kind.{Kind}
use Rattle.wire.specs.declared.call.Kind.TheVariants as kind
use Rattle.wire.specs.Calls.{longest, may_have, call_of, read}
use Rattle.wire.specs.Meant.{kind_number}

pub kind_small : (k : Kind) → kind_number k ≤ 5
kind_small kind.Fill = omega arith
kind_small kind.Pay = omega arith
kind_small kind.Sell = omega arith
kind_small kind.Could = omega arith
kind_small kind.Holds = omega arith
kind_small kind.Spoils = omega arith

-- no kind
pub read_none : (bs rest : List ℕ) (k : ℕ) → bs ≡ k ∷ rest → 5 < k → read bs ≡ garbled 0
unfolding read
read_none bs rest k e h = ap read e ∙ grind arith

-- a kind, and as many bytes as a call of it has
pub read_call : (bs rest : List ℕ) (k : ℕ) → bs ≡ k ∷ rest → k ≤ 5 → may_have k (suc (length rest)) ≡ true → read bs ≡ call_of k (numbers rest)
unfolding read
read_call bs rest k e h t = ap read e ∙ grind arith

-- or not as many
pub read_cut : (bs rest : List ℕ) (k : ℕ) → bs ≡ k ∷ rest → k ≤ 5 → may_have k (suc (length rest)) ≡ false → read bs ≡ garbled (min (length bs) (longest k))
unfolding read
read_cut bs rest k e h t = ap read e ∙ grind (arith, ap length e)

-- the three, for any bytes but none
pub data Ways (k : ℕ) (rest : List ℕ) : Type 0 where
  none : 5 < k → read (k ∷ rest) ≡ garbled 0 → Ways k rest
  call : k ≤ 5 → may_have k (suc (length rest)) ≡ true → read (k ∷ rest) ≡ call_of k (numbers rest) → Ways k rest
  cut : k ≤ 5 → may_have k (suc (length rest)) ≡ false → read (k ∷ rest) ≡ garbled (min (suc (length rest)) (longest k)) → Ways k rest

pub ways : (k : ℕ) (rest : List ℕ) → Ways k rest
ways k rest =
    elim (cases_lt 5 k) [
      | inl h ↦ none h (read_none (k ∷ rest) rest k refl h)
      | inr h ↦ elim (cases_Bool (may_have k (suc (length rest)))) [
        | inl t ↦ call h t (read_call (k ∷ rest) rest k refl h t)
        | inr t ↦ cut h t (read_cut (k ∷ rest) rest k refl h t)
      ]
    ]
