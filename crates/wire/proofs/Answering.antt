-- Answers are read as they were written. Assumes nothing.
use Rattle.std.proofs.Common.{◌≡◌, ℕ, zero, suc, ◌+◌, ◌*◌, ◌≤◌, Bool, true, false, ◌&&◌, eqb, List, [], ◌∷◌, length, get_or, Some, None, refl, ap, ◌∙◌, subst, arith}
use Rattle.coins.specs.Coins.{pick}
use Rattle.coins.specs.Calls.{Answer, refused, number, two, coins, all_to}
use Rattle.fields.specs.Bytes.{fields, numbers}
use Rattle.fields.specs.Counted.{are_counts}
use Rattle.fields.proofs.Numbers.{all_to_first, numbers_back, fields_back, numbers_fit, length_whole}
use Rattle.fields.proofs.Writing.{length-fields}
use Rattle.fields.proofs.Counting.{get_or-all_to, all_to_more}
use Rattle.wire.specs.Answers.{answer_bytes, is_reason, answer_of, read_answer}
use Rattle.wire.specs.Back.{IsAnswer, AnswersBack}
use Rattle.wire.proofs.Back.{one_of, two_of}

answers_back : (a : Answer) → IsAnswer a → read_answer (answer_bytes a) ≡ Some a
unfolding answer_bytes read_answer all_to
answers_back (refused k p) h = grind (arith, length-fields (k ∷ (p ∷ [])), numbers_back (k ∷ (p ∷ [])))
answers_back (number n) h = grind (arith, length-fields (n ∷ []), numbers_back (n ∷ []))
answers_back (two a b) h = grind (arith, length-fields (a ∷ (b ∷ [])), numbers_back (a ∷ (b ∷ [])))
answers_back (coins ns) h =
    let e = numbers_back ns (all_to_more 65535 4294967295 ns (omega arith) (grind arith)) in
    grind (arith, e, length-fields ns)

-- what a test lets through
picked : (b : Bool) (x a : Answer) → pick b (Some x) None ≡ Some a → (b ≡ true) × (x ≡ a)
picked true x a e = (refl, cc)
picked false x a e = absurd cc

-- the numbers of whole fields
first_number : (bs : List ℕ) → all_to 255 bs ≡ true → (i : ℕ) → get_or (numbers bs) i 0 ≤ 4294967295
first_number bs t i = get_or-all_to 4294967295 i (numbers bs) (numbers_fit bs t)

lone_field : (bs : List ℕ) → all_to 255 bs ≡ true → length bs ≡ 4 → fields (get_or (numbers bs) 0 0 ∷ []) ≡ bs
lone_field bs t h = ap fields (one_of (numbers bs) (omega (arith, length_whole bs (omega arith)))) ∙ fields_back bs t (omega arith)

two_fields : (bs : List ℕ) → all_to 255 bs ≡ true → length bs ≡ 8 → fields (get_or (numbers bs) 0 0 ∷ (get_or (numbers bs) 1 0 ∷ [])) ≡ bs
two_fields bs t h = ap fields (two_of (numbers bs) (omega (arith, length_whole bs (omega arith)))) ∙ fields_back bs t (omega arith)

-- the answer a has the form k and these bytes behind it
Has : ℕ → List ℕ → Answer → Type 0
Has k bs a = IsAnswer a × (answer_bytes a ≡ k ∷ bs)

forth : (k : ℕ) (bs : List ℕ) (a : Answer) → all_to 255 bs ≡ true → answer_of k bs ≡ Some a → Has k bs a
unfolding Has answer_bytes
forth zero bs a t e =
    let (h, is) = picked (eqb (length bs) 8 && is_reason (get_or (numbers bs) 0 0)) _ a e in
    subst (Has 0 bs) is ((grind arith, first_number bs t 1), ap (λ l. 0 ∷ l) (two_fields bs t (grind arith)))
forth (suc zero) bs a t e =
    let (h, is) = picked (eqb (length bs) 4) _ a e in
    subst (Has 1 bs) is (first_number bs t 0, ap (λ l. 1 ∷ l) (lone_field bs t (grind arith)))
forth (suc (suc zero)) bs a t e =
    let (h, is) = picked (eqb (length bs) 8) _ a e in
    subst (Has 2 bs) is ((first_number bs t 0, first_number bs t 1), ap (λ l. 2 ∷ l) (two_fields bs t (grind arith)))
forth (suc (suc (suc zero))) [] a t e = absurd cc
forth (suc (suc (suc zero))) (n ∷ bs) a t e =
    let (h, is) = picked (eqb (suc (length bs)) (1 + 4 * n) && are_counts (numbers bs)) _ a e in
    let whole : length bs ≡ 4 * n = grind arith in
    let many : length (numbers bs) ≡ n = omega (arith, length_whole bs (omega arith)) in
    let back = fields_back bs (all_to_first 255 n bs t).1 (omega arith) in
    subst (Has 3 (n ∷ bs)) is (grind arith, cc)
forth (suc (suc (suc (suc k)))) bs a t e = absurd (grind arith)

answers_forth : (bs : List ℕ) (a : Answer) → all_to 255 bs ≡ true → read_answer bs ≡ Some a → IsAnswer a × (answer_bytes a ≡ bs)
unfolding Has read_answer
answers_forth [] a t e = absurd cc
answers_forth (k ∷ bs) a t e = forth k bs a (all_to_first 255 k bs t).1 e

pub answers_back_stands : AnswersBack
answers_back_stands = (answers_back, answers_forth)
