-- Fields and numbers, one field at a time. Assumes nothing.
use Rattle.std.proofs.Common.{◌≡◌, ℕ, ◌+◌, ◌*◌, ◌/◌, ◌%◌, ◌<◌, ◌≤◌, true, List, [], ◌∷◌, ◌++◌, length, get_or, drop, refl, ap, ◌∙◌, arith}
use native.Mathlib.Nat.{div-div-eq-div-mul}
use Rattle.coins.specs.Calls.{all_to}
use Rattle.fields.specs.Bytes.{field, fields, number_of, numbers}
use Rattle.fields.specs.Back.{FieldsBack}

-- bytes with a whole field in front
pub numbers_more : (bs : List ℕ) → 4 ≤ length bs → numbers bs ≡ number_of (get_or bs 0 0) (get_or bs 1 0) (get_or bs 2 0) (get_or bs 3 0) ∷ numbers (drop 4 bs)
unfolding numbers
numbers_more [] h = absurd (omega arith)
numbers_more (a ∷ []) h = absurd (omega arith)
numbers_more (a ∷ (b ∷ [])) h = absurd (omega arith)
numbers_more (a ∷ (b ∷ (c ∷ []))) h = absurd (omega arith)
numbers_more (a ∷ (b ∷ (c ∷ (d ∷ bs)))) h = refl

-- bytes with no whole field
pub numbers_none : (bs : List ℕ) → length bs < 4 → numbers bs ≡ []
unfolding numbers
numbers_none [] h = refl
numbers_none (a ∷ []) h = refl
numbers_none (a ∷ (b ∷ [])) h = refl
numbers_none (a ∷ (b ∷ (c ∷ []))) h = refl
numbers_none (a ∷ (b ∷ (c ∷ (d ∷ bs)))) h = absurd (omega arith)

-- a limit of the first, and of the others
pub all_to_first : (m x : ℕ) (xs : List ℕ) → all_to m (x ∷ xs) ≡ true → (x ≤ m) × (all_to m xs ≡ true)
unfolding all_to
all_to_first m x xs t = (grind arith, grind arith)

number_field : (n : ℕ) → n ≤ 4294967295 → number_of (n % 256) (n / 256 % 256) (n / 65536 % 256) (n / 16777216 % 256) ≡ n
number_field n h =
    let e : n / 256 ≡ n / 256 % 256 + n / 65536 * 256 = rw (← div-div-eq-div-mul n 256 256) (omega arith) in
    let f : n / 65536 ≡ n / 65536 % 256 + n / 16777216 * 256 = rw (← div-div-eq-div-mul n 65536 256) (omega arith) in
    let g : n / 16777216 % 256 ≡ n / 16777216 = omega arith in
    omega arith

field_number : (a b c d : ℕ) → a ≤ 255 → b ≤ 255 → c ≤ 255 → d ≤ 255 → field (number_of a b c d) ≡ a ∷ (b ∷ (c ∷ (d ∷ [])))
field_number a b c d h k l m =
    let n : ℕ = number_of a b c d in
    let e : n % 256 ≡ a = omega arith in
    let f : n / 256 ≡ b + (c + d * 256) * 256 = omega arith in
    let g : n / 65536 ≡ c + d * 256 = omega arith in
    let i : n / 16777216 ≡ d = omega arith in
    let j : n / 256 % 256 ≡ b = rw f (omega arith) in
    let o : n / 65536 % 256 ≡ c = rw g (omega arith) in
    let p : n / 16777216 % 256 ≡ d = rw i (omega arith) in
    cc

pub numbers_back : (ns : List ℕ) → all_to 4294967295 ns ≡ true → numbers (fields ns) ≡ ns
unfolding all_to fields numbers
numbers_back [] t = refl
numbers_back (n ∷ ns) t = let e = number_field n (grind arith) in let f = numbers_back ns (grind arith) in cc

pub fields_back : (bs : List ℕ) → all_to 255 bs ≡ true → length bs % 4 ≡ 0 → fields (numbers bs) ≡ bs
unfolding all_to fields numbers
fields_back [] t h = refl
fields_back (a ∷ []) t h = absurd (omega arith)
fields_back (a ∷ (b ∷ [])) t h = absurd (omega arith)
fields_back (a ∷ (b ∷ (c ∷ []))) t h = absurd (omega arith)
fields_back (a ∷ (b ∷ (c ∷ (d ∷ bs)))) t h =
    let e = field_number a b c d (grind arith) (grind arith) (grind arith) (grind arith) in
    let f = fields_back bs (grind arith) (omega arith) in
    ap (λ l. l ++ fields (numbers bs)) e ∙ ap (λ l. a ∷ (b ∷ (c ∷ (d ∷ l)))) f

-- the number of a field is below 2^32
pub numbers_fit : (bs : List ℕ) → all_to 255 bs ≡ true → all_to 4294967295 (numbers bs) ≡ true
unfolding all_to numbers
numbers_fit [] t = refl
numbers_fit (a ∷ []) t = refl
numbers_fit (a ∷ (b ∷ [])) t = refl
numbers_fit (a ∷ (b ∷ (c ∷ []))) t = refl
numbers_fit (a ∷ (b ∷ (c ∷ (d ∷ bs)))) t =
    let (h, t₁) = all_to_first 255 a (b ∷ (c ∷ (d ∷ bs))) t in
    let (k, t₂) = all_to_first 255 b (c ∷ (d ∷ bs)) t₁ in
    let (l, t₃) = all_to_first 255 c (d ∷ bs) t₂ in
    let (m, t₄) = all_to_first 255 d bs t₃ in
    let small : number_of a b c d ≤ 4294967295 = omega arith in
    let rest = numbers_fit bs t₄ in
    grind (arith, small, rest)

-- whole fields are four bytes each
pub length_whole : (bs : List ℕ) → length bs % 4 ≡ 0 → length bs ≡ 4 * length (numbers bs)
unfolding numbers
length_whole [] h = refl
length_whole (a ∷ []) h = absurd (omega arith)
length_whole (a ∷ (b ∷ [])) h = absurd (omega arith)
length_whole (a ∷ (b ∷ (c ∷ []))) h = absurd (omega arith)
length_whole (a ∷ (b ∷ (c ∷ (d ∷ bs)))) h = omega (arith, length_whole bs (omega arith))

pub fields_back_stands : FieldsBack
fields_back_stands = (numbers_back, fields_back)
