-- What was written is read again, and what is read was written. Assumes nothing: definitions, and statements whose proof is owed.
use Rattle.std.specs.Prelude.{◌≡◌, ℕ, ◌+◌, ◌*◌, ◌<◌, ◌≤◌, true, ◌⊎◌, List, ◌++◌, length, take, Some}
use Rattle.coins.specs.Calls.{Call, sells, garbled, call_number, Answer, refused, number, two, coins, all_to}
use Rattle.fields.specs.Counted.{are_counts}
use Rattle.wire.specs.Calls.{call_fields, call_bytes, read}
use Rattle.wire.specs.Answers.{answer_bytes, is_reason, read_answer}

-- a call that has bytes: not `garbled`, numbers below 2^32, at most 16 coins put in
abbrev pub IsCall : Call → Type 0
IsCall c = (call_number c ≤ 5) × (all_to 4294967295 (call_fields c) ≡ true) × (length (call_fields c) ≤ 17)

-- an answer that a till may give
abbrev pub IsAnswer : Answer → Type 0
IsAnswer (refused k p) = (is_reason k ≡ true) × (p ≤ 4294967295)
IsAnswer (number n) = n ≤ 4294967295
IsAnswer (two a b) = (a ≤ 4294967295) × (b ≤ 4294967295)
IsAnswer (coins ns) = are_counts ns ≡ true

-- the call that was written is read, and the bytes that were read are those of the call
abbrev pub CallsBack : Type 0
CallsBack =
    ((c : Call) → IsCall c → read (call_bytes c) ≡ c) ×
    ((bs : List ℕ) → all_to 255 bs ≡ true → call_number (read bs) ≤ 5 → IsCall (read bs) × (call_bytes (read bs) ≡ bs))

-- different calls have different bytes
abbrev pub CallsDiffer : Type 0
CallsDiffer = (c d : Call) → IsCall c → IsCall d → call_bytes c ≡ call_bytes d → c ≡ d

-- the answer that was written is read, and the bytes that were read are those of the answer
abbrev pub AnswersBack : Type 0
AnswersBack =
    ((a : Answer) → IsAnswer a → read_answer (answer_bytes a) ≡ Some a) ×
    ((bs : List ℕ) (a : Answer) → all_to 255 bs ≡ true → read_answer bs ≡ Some a → IsAnswer a × (answer_bytes a ≡ bs))

-- the first n bytes of a sale are one with fewer coins put in
abbrev pub ShorterSale : Call → ℕ → Type 0
ShorterSale c n = (p : ℕ) × (cs : List ℕ) × (k : ℕ) × (c ≡ sells p cs) × (k < length cs) × (n ≡ 5 + 4 * k) × (read (take n (call_bytes c)) ≡ sells p (take k cs))

-- every front of a call's bytes is refused at its own length, but one that is itself a sale
abbrev pub FrontsRefused : Type 0
FrontsRefused = (c : Call) (n : ℕ) → IsCall c → n < length (call_bytes c) → (read (take n (call_bytes c)) ≡ garbled n) ⊎ ShorterSale c n

-- some call begins with these bytes
abbrev pub Begins : List ℕ → Type 0
Begins bs = (c : Call) × (rest : List ℕ) × IsCall c × (call_bytes c ≡ bs ++ rest)

-- n is the length of the longest front of these bytes with which some call begins
abbrev pub LongestFront : List ℕ → ℕ → Type 0
LongestFront bs n = (n ≤ length bs) × Begins (take n bs) × ((m : ℕ) → n < m → m ≤ length bs → ¬ (Begins (take m bs)))

-- and this is the place of what can't be read
abbrev pub PlaceRight : Type 0
PlaceRight = (bs : List ℕ) (n : ℕ) → all_to 255 bs ≡ true → read bs ≡ garbled n → LongestFront bs n
