-- Calls are read as they were written. Assumes nothing.
use Rattle.std.proofs.Common.{◌≡◌, ℕ, zero, suc, ◌*◌, ◌≤◌, true, List, [], ◌∷◌, length, get_or, sym, refl, ap, ◌∙◌, subst, arith}
use Rattle.std.proofs.lemmas.List.{nil_from_length, drop_more}
use Rattle.coins.specs.Calls.{Call, fills, pays, sells, could, holds, spoils, garbled, call_number, all_to}
use Rattle.fields.specs.Bytes.{fields, numbers}
use Rattle.fields.proofs.Numbers.{all_to_first, numbers_back, fields_back, numbers_fit, length_whole}
use Rattle.fields.proofs.Writing.{length-fields}
use Rattle.wire.specs.Calls.{call_fields, call_bytes, may_have, call_of, read}
use Rattle.wire.specs.Back.{IsCall, CallsBack, CallsDiffer}
use Rattle.wire.proofs.Cases.{read_call, ways, none, call, cut}

-- a call by its number and its fields
pub call_is : (c : Call) → call_number c ≤ 5 → call_of (call_number c) (call_fields c) ≡ c
unfolding call_number call_fields
call_is (fills i k) h = refl
call_is (pays x) h = refl
call_is (sells p cs) h = refl
call_is (could x) h = refl
call_is holds h = refl
call_is (spoils n) h = refl
call_is (garbled n) h = absurd (omega arith)

-- it has as many bytes as a call of its number may have
pub may_have_call : (c : Call) → IsCall c → may_have (call_number c) (suc (4 * length (call_fields c))) ≡ true
unfolding call_number call_fields
may_have_call (fills i k) h = refl
may_have_call (pays x) h = refl
may_have_call (sells p cs) h = grind arith
may_have_call (could x) h = refl
may_have_call holds h = refl
may_have_call (spoils n) h = refl
may_have_call (garbled n) h = absurd (omega arith)

pub calls_back : (c : Call) → IsCall c → read (call_bytes c) ≡ c
calls_back c h =
    let n = ap (λ n. may_have (call_number c) (suc n)) (length-fields (call_fields c)) ∙ may_have_call c h in
    read_call (call_bytes c) (fields (call_fields c)) (call_number c) refl h.0 n ∙ ap (call_of (call_number c)) (numbers_back (call_fields c) h.1) ∙ call_is c h.0

pub calls_differ : CallsDiffer
calls_differ c d h k e = sym (calls_back c h) ∙ ap read e ∙ calls_back d k

-- a list by its first places
pub two_of : (ns : List ℕ) → length ns ≡ 2 → get_or ns 0 0 ∷ (get_or ns 1 0 ∷ []) ≡ ns
two_of [] h = absurd (omega arith)
two_of (a ∷ []) h = absurd (omega arith)
two_of (a ∷ (b ∷ [])) h = refl
two_of (a ∷ (b ∷ (c ∷ ns))) h = absurd (omega arith)

pub one_of : (ns : List ℕ) → length ns ≡ 1 → get_or ns 0 0 ∷ [] ≡ ns
one_of [] h = absurd (omega arith)
one_of (a ∷ []) h = refl
one_of (a ∷ (b ∷ ns)) h = absurd (omega arith)

-- a number, and as many fields as a call of it may have, are those of a call
pub fields_of_call : (k : ℕ) (ns : List ℕ) → k ≤ 5 → may_have k (suc (4 * length ns)) ≡ true →
    (call_number (call_of k ns) ≡ k) × (call_fields (call_of k ns) ≡ ns) × (length ns ≤ 17)
unfolding call_number call_fields
fields_of_call zero ns h t = (refl, two_of ns (grind arith), grind arith)
fields_of_call (suc zero) ns h t = (refl, one_of ns (grind arith), grind arith)
fields_of_call (suc (suc zero)) ns h t = (refl, sym (drop_more ns 0 0 (grind arith)), grind arith)
fields_of_call (suc (suc (suc zero))) ns h t = (refl, one_of ns (grind arith), grind arith)
fields_of_call (suc (suc (suc (suc zero)))) ns h t = (refl, sym (nil_from_length ns (grind arith)), grind arith)
fields_of_call (suc (suc (suc (suc (suc zero))))) ns h t = (refl, one_of ns (grind arith), grind arith)
fields_of_call (suc (suc (suc (suc (suc (suc k)))))) ns h t = absurd (omega arith)

-- bytes that are a call: its fields are whole, and it has these bytes
pub call_whole : (k : ℕ) (bs : List ℕ) → all_to 255 bs ≡ true → k ≤ 5 → may_have k (suc (length bs)) ≡ true →
    IsCall (call_of k (numbers bs)) × (call_bytes (call_of k (numbers bs)) ≡ k ∷ bs)
call_whole k bs t h m =
    let f = fields_back bs t (grind arith) in
    let n = length_whole bs (grind arith) in
    let (number, fs, few) = fields_of_call k (numbers bs) h (ap (λ l. may_have k (suc l)) (sym n) ∙ m) in
    ((omega (arith, number), ap (all_to 4294967295) fs ∙ numbers_fit bs t, omega (arith, ap length fs)), cc)

-- what can't be read is no call
pub not_garbled : (c : Call) (n : ℕ) → c ≡ garbled n → call_number c ≤ 5 → ⊥
unfolding call_number
not_garbled c n e h = omega (arith, ap call_number e)

pub calls_forth : (bs : List ℕ) → all_to 255 bs ≡ true → call_number (read bs) ≤ 5 → IsCall (read bs) × (call_bytes (read bs) ≡ bs)
unfolding read
calls_forth [] t h = absurd (not_garbled (garbled 0) 0 refl h)
calls_forth (k ∷ bs) t h =
    elim (ways k bs) [
      | none l e ↦ absurd (not_garbled _ _ e h)
      | cut l m e ↦ absurd (not_garbled _ _ e h)
      | call l m e ↦
          let (is, bytes) = call_whole k bs (all_to_first 255 k bs t).1 l m in
          (subst IsCall (sym e) is, ap call_bytes e ∙ bytes)
    ]

pub calls_back_stands : CallsBack
calls_back_stands = (calls_back, calls_forth)
