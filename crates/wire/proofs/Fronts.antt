-- Fronts of calls, and the place of what can't be read. Assumes nothing.
use Rattle.std.proofs.Common.{◌≡◌, ℕ, zero, suc, ◌-◌, ◌*◌, ◌/◌, ◌%◌, ◌<◌, ◌≤◌, min, true, List, [], ◌∷◌, ◌++◌, length, get_or, take, replicate, sym, refl, ap, ◌∙◌, subst, inl, inr, arith}
use Rattle.std.proofs.lemmas.List.{length-append, length-replicate, length-take-le}
use Rattle.coins.specs.Calls.{Call, fills, pays, sells, could, holds, spoils, garbled, call_number, all_to}
use Rattle.fields.specs.Bytes.{fields, numbers}
use Rattle.fields.proofs.Numbers.{all_to_first}
use Rattle.fields.proofs.Writing.{length-fields, take-fields}
use Rattle.fields.proofs.Counting.{all_to-append, all_to-take, all_to-replicate}
use Rattle.wire.specs.Calls.{call_fields, call_bytes, longest, may_have, call_of, read}
use Rattle.wire.specs.Back.{IsCall, ShorterSale, FrontsRefused, Begins, LongestFront, PlaceRight}
use Rattle.wire.proofs.Cases.{ways, none, call, cut}
use Rattle.wire.proofs.Back.{calls_back, call_whole, not_garbled}

-- no call has more bytes than the longest of its number
no_longer : (c : Call) → IsCall c → length (call_bytes c) ≤ longest (call_number c)
unfolding call_number call_fields
no_longer (fills i k) h = omega (arith, length-fields (i ∷ (k ∷ [])))
no_longer (pays x) h = omega (arith, length-fields (x ∷ []))
no_longer (sells p cs) h = omega (arith, length-fields (p ∷ cs))
no_longer (could x) h = omega (arith, length-fields (x ∷ []))
no_longer holds h = omega (arith, length-fields [])
no_longer (spoils n) h = omega (arith, length-fields (n ∷ []))
no_longer (garbled n) h = absurd (omega arith)

-- the first fields of a sale are a sale with fewer coins put in
shorter_sale : (p : ℕ) (cs : List ℕ) (n : ℕ) → IsCall (sells p cs) → n < length (call_bytes (sells p cs)) → may_have 2 n ≡ true → ShorterSale (sells p cs) n
unfolding call_number call_fields
shorter_sale p cs n h l t =
    let k : ℕ = n / 4 - 1 in
    let (m, (low, high)) : (n % 4 ≡ 1) × ((5 ≤ n) × (n ≤ 69)) = grind arith in
    let e : n ≡ suc (4 * suc k) = omega arith in
    let few : k < length cs = omega (arith, length-fields (p ∷ cs)) in
    let bytes : take n (call_bytes (sells p cs)) ≡ call_bytes (sells p (take k cs)) =
    ap (λ j. take j (call_bytes (sells p cs))) e ∙ ap (λ l. 2 ∷ l) (take-fields (suc k) (p ∷ cs)) in
    let is : IsCall (sells p (take k cs)) = (h.0, all_to-take 4294967295 (suc k) (p ∷ cs) h.1, omega (arith, h.2, length-take-le k cs (omega arith))) in
    (p, cs, k, refl, few, omega arith, ap read bytes ∙ calls_back (sells p (take k cs)) is)

-- of the other calls no front has as many bytes as a call of that number
only_sale : (c : Call) (n : ℕ) → IsCall c → n < length (call_bytes c) → may_have (call_number c) n ≡ true → ShorterSale c n
unfolding call_number call_fields
only_sale (fills i k) n h l t = absurd (grind (arith, length-fields (i ∷ (k ∷ []))))
only_sale (pays x) n h l t = absurd (grind (arith, length-fields (x ∷ [])))
only_sale (sells p cs) n h l t = shorter_sale p cs n h l t
only_sale (could x) n h l t = absurd (grind (arith, length-fields (x ∷ [])))
only_sale holds n h l t = absurd (grind (arith, length-fields []))
only_sale (spoils x) n h l t = absurd (grind (arith, length-fields (x ∷ [])))
only_sale (garbled x) n h l t = absurd (omega arith)

pub fronts_refused : FrontsRefused
unfolding read
fronts_refused c zero h l = inl refl
fronts_refused c (suc m) h l =
    let front = take m (fields (call_fields c)) in
    let long : length front ≡ m = length-take-le m (fields (call_fields c)) (omega arith) in
    elim (ways (call_number c) front) [
      | none k e ↦ absurd (omega (arith, h.0))
      | cut k t e ↦ inl (e ∙ ap garbled (omega (arith, no_longer c h)))
      | call k t e ↦ inr (only_sale c (suc m) h l (ap (λ n. may_have (call_number c) (suc n)) (sym long) ∙ t))
    ]

-- bytes with which some call begins have its number in front, and are no more than it has at most
begins_at_most : (k m : ℕ) (bs : List ℕ) → 0 < m → m ≤ suc (length bs) → Begins (take m (k ∷ bs)) → (k ≤ 5) × (m ≤ longest k)
begins_at_most k zero bs h l b = absurd (omega arith)
begins_at_most k (suc m) bs h l (c, rest, is, e) =
    let number : call_number c ≡ k = ap (λ xs. get_or xs 0 0) e in
    let long = ap length e ∙ length-append (take (suc m) (k ∷ bs)) rest in
    let most : length (call_bytes c) ≤ longest k = subst (λ j. length (call_bytes c) ≤ longest j) number (no_longer c is) in
    (omega (arith, is.0), omega (arith, length-take-le m bs (omega arith)))

-- bytes with a call's number in front, no more than it has at most, are a front of a call
begins_up_to : (k m : ℕ) (bs : List ℕ) → all_to 255 bs ≡ true → k ≤ 5 → 0 < m → m ≤ suc (length bs) → m ≤ longest k → Begins (take m (k ∷ bs))
begins_up_to k zero bs t h p l n = absurd (omega arith)
begins_up_to k (suc m) bs t h p l n =
    let zeros : List ℕ = replicate (longest k - suc m) 0 in
    let whole : List ℕ = take m bs ++ zeros in
    let long : suc (length whole) ≡ longest k = omega (arith, length-append (take m bs) zeros, length-take-le m bs (omega arith), length-replicate {A = ℕ} (longest k - suc m) 0) in
    let small : all_to 255 whole ≡ true = grind (arith, all_to-append 255 (take m bs) zeros, all_to-take 255 m bs t, all_to-replicate 255 (longest k - suc m) 0) in
    let may : may_have k (longest k) ≡ true = grind arith in
    let (is, bytes) = call_whole k whole small h (ap (may_have k) long ∙ may) in
    (call_of k (numbers whole), zeros, is, bytes)

-- every call begins with no bytes
begins_empty : Begins []
unfolding call_number call_fields fields all_to
begins_empty = (holds, 4 ∷ [], (omega arith, refl, omega arith), refl)

pub place_right : PlaceRight
unfolding read
place_right [] n t e =
    let z : n ≡ 0 = cc in
    subst (LongestFront []) (sym z) (omega arith, begins_empty, λ m l h b. omega arith)
place_right (k ∷ bs) n t e =
    elim (ways k bs) [
      | none l f ↦
          let z : n ≡ 0 = cc in
          subst (LongestFront (k ∷ bs)) (sym z) (omega arith, begins_empty, λ m p h b. omega (arith, begins_at_most k m bs p h b))
      | cut l c f ↦
          let z : n ≡ min (suc (length bs)) (longest k) = cc in
          let some : 0 < longest k = grind arith in (
            omega arith,
            begins_up_to k n bs (all_to_first 255 k bs t).1 l (omega arith) (omega arith) (omega arith),
            λ m p h b. omega (arith, begins_at_most k m bs (omega arith) h b),
          )
      | call l c f ↦ absurd (not_garbled (call_of k (numbers bs)) n (sym f ∙ e) (call_whole k bs (all_to_first 255 k bs t).1 l c).0.0)
    ]
