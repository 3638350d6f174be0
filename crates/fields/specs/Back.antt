-- Fields are read as they were written. Assumes nothing: statements whose proof is owed.
use Rattle.std.specs.Prelude.{◌≡◌, ℕ, ◌%◌, true, List, length}
use Rattle.coins.specs.Calls.{all_to}
use Rattle.fields.specs.Bytes.{fields, numbers}

-- the numbers of the fields of numbers below 2^32 are these numbers; and the fields of the numbers of bytes are these bytes, if the fields are whole
abbrev pub FieldsBack : Type 0
FieldsBack =
    ((ns : List ℕ) → all_to 4294967295 ns ≡ true → numbers (fields ns) ≡ ns) ×
    ((bs : List ℕ) → all_to 255 bs ≡ true → length bs % 4 ≡ 0 → fields (numbers bs) ≡ bs)
