-- Numbers as bytes: a field has four bytes, the lowest first. Assumes nothing: these are definitions.
use Rattle.std.specs.Prelude.{◌≡◌, ℕ, ◌+◌, ◌*◌, ◌/◌, ◌%◌, ◌<◌, List, [], ◌∷◌, ◌++◌, length, drop, Option, MatchOption}

-- the field of a number
abbrev pub field : ℕ → List ℕ
field n = (n % 256) ∷ (n / 256 % 256) ∷ (n / 65536 % 256) ∷ (n / 16777216 % 256) ∷ []

-- the number of a field
abbrev pub number_of : ℕ → ℕ → ℕ → ℕ → ℕ
number_of a b c d = a + b * 256 + c * 65536 + d * 16777216

-- the fields of numbers, one after the other
unfoldable pub fields : List ℕ → List ℕ
fields [] = []
fields (n ∷ ns) = field n ++ fields ns

-- the numbers of bytes, field by field; what is left over after the last whole field is none
unfoldable pub numbers : List ℕ → List ℕ
numbers [] = []
numbers (a ∷ []) = []
numbers (a ∷ (b ∷ [])) = []
numbers (a ∷ (b ∷ (c ∷ []))) = []
numbers (a ∷ (b ∷ (c ∷ (d ∷ bs)))) = number_of a b c d ∷ numbers bs

-- bytes written over the front of lent memory, the rest as it was
abbrev pub over_front : List ℕ → List ℕ → List ℕ
over_front bs memory = bs ++ drop (length bs) memory

-- they are written, and how many they are is told; or the memory is too short, and stays as it was
abbrev pub Written : List ℕ → List ℕ → List ℕ → Option ℕ → Type 0
Written bs before after r = MatchOption r ((length before < length bs) × (after ≡ before)) (λ n. (n ≡ length bs) × (after ≡ over_front bs before))
