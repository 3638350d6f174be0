-- Bytes that may be written, and are or not. Assumes nothing.
use Rattle.std.proofs.Common.{◌≡◌, ℕ, ◌%◌, Bool, true, List, ◌∷◌, ◌++◌, length, get_or, Some, None, Option, sym, ap, subst, arith}
use Rattle.coins.specs.Calls.{sells, call_number, all_to}
use Rattle.fields.specs.Bytes.{field, fields, numbers, Written}
use Rattle.fields.proofs.Numbers.{fields_back}
use Rattle.wire.specs.Calls.{call_fields, call_bytes}
use Rattle.wire.specs.Reads.{whole_fields, WritesIf}

pub writes_if : (may : Bool) (bs before after : List ℕ) (r : Option ℕ) → may ≡ true → Written bs before after r → WritesIf may bs before after r
writes_if may bs before after None t w = (grind arith, w.1)
writes_if may bs before after (Some n) t w = (t, w.0, w.1)

-- the bytes of a sale: its number, the field of the price, and the coins put in as they are
sale_bytes : (p : ℕ) (price put_in : List ℕ) → price ≡ field p → all_to 255 put_in ≡ true → length put_in % 4 ≡ 0 →
    2 ∷ (get_or price 0 0 ∷ (get_or price 1 0 ∷ (get_or price 2 0 ∷ (get_or price 3 0 ∷ put_in)))) ≡ call_bytes (sells p (numbers put_in))
unfolding call_number call_fields fields
sale_bytes p price put_in e t h = rw e (ap (λ l. 2 ∷ (field p ++ l)) (sym (fields_back put_in t h)))

pub writes_sale : (p : ℕ) (price put_in before after : List ℕ) (r : Option ℕ) → price ≡ field p → all_to 255 put_in ≡ true → whole_fields put_in ≡ true →
    Written (2 ∷ (get_or price 0 0 ∷ (get_or price 1 0 ∷ (get_or price 2 0 ∷ (get_or price 3 0 ∷ put_in))))) before after r →
    WritesIf (whole_fields put_in) (call_bytes (sells p (numbers put_in))) before after r
writes_sale p price put_in before after r e t h w =
    writes_if (whole_fields put_in) (call_bytes (sells p (numbers put_in))) before after r h (subst (λ bs. Written bs before after r) (sale_bytes p price put_in e t (grind arith)) w)
