-- Calls as bytes, and bytes as calls. Assumes nothing: these are definitions.
--
-- A call is a byte, its number, and its fields. Every list of bytes is read in one way: as a call, or as `garbled` at a place.
use Rattle.std.specs.Prelude.{ℕ, suc, ◌%◌, min, Bool, ◌&&◌, List, [], ◌∷◌, length, drop, ◌==◌, nat_le, slice_index}
use Rattle.coins.specs.Coins.{pick}
use Rattle.coins.specs.Calls.{Call, fills, pays, sells, could, holds, spoils, garbled, call_number}
use Rattle.fields.specs.Bytes.{fields, numbers}

-- the numbers of a call, field by field
unfoldable pub call_fields : Call → List ℕ
call_fields (fills i k) = i ∷ k ∷ []
call_fields (pays x) = x ∷ []
call_fields (sells p cs) = p ∷ cs
call_fields (could x) = x ∷ []
call_fields holds = []
call_fields (spoils n) = n ∷ []
call_fields (garbled n) = []

-- the bytes of a call
abbrev pub call_bytes : Call → List ℕ
call_bytes c = call_number c ∷ fields (call_fields c)

-- how many bytes a call of this number has at most: a sale a price and 16 coins put in
abbrev pub longest : ℕ → ℕ
longest k = pick (k == 0) 9 (pick (k == 2) 69 (pick (k == 4) 1 5))

-- a call of this number may have so many bytes: a sale any whole fields from the price on, any other just as many as there are at most
abbrev pub may_have : ℕ → ℕ → Bool
may_have k n = pick (k == 2) (n % 4 == 1 && (nat_le 5 n && nat_le n 69)) (n == longest k)

-- the call of this number with these fields
abbrev pub call_of : ℕ → List ℕ → Call
call_of k ns =
    pick (k == 0) (fills (slice_index ns 0) (slice_index ns 1))
    (pick (k == 1) (pays (slice_index ns 0))
    (pick (k == 2) (sells (slice_index ns 0) (drop 1 ns))
    (pick (k == 3) (could (slice_index ns 0))
    (pick (k == 4) holds
    (spoils (slice_index ns 0))))))

-- the call that bytes are. Where they are none, the place is 0 if there is no byte or the first is no call's number, else where they are cut short or, too long, the first byte beyond
unfoldable pub read : List ℕ → Call
read [] = garbled 0
read (k ∷ bs) =
    pick (nat_le k 5)
    (pick (may_have k (suc (length bs))) (call_of k (numbers bs)) (garbled (min (suc (length bs)) (longest k))))
    (garbled 0)
