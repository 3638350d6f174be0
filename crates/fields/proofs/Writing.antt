-- Fields written one after another, behind some bytes, over the front of memory. Assumes nothing.
use Rattle.std.proofs.Common.{◌≡◌, ℕ, zero, suc, ◌+◌, ◌*◌, ◌<◌, List, [], ◌∷◌, ◌++◌, length, get_or, take, drop, sym, refl, ap, ◌∙◌, append_assoc, arith}
use Rattle.std.proofs.lemmas.List.{take_at, drop_at, take_more, take_all, length-append, length-take-le, length-map, get_or-map}
use Rattle.std.proofs.lemmas.Slice.{drop-append-drop}
use Rattle.fields.specs.Bytes.{field, fields, over_front}

pub length-fields : (ns : List ℕ) → length (fields ns) ≡ 4 * length ns
unfolding fields
length-fields [] = refl
length-fields (n ∷ ns) = omega (arith, length-fields ns)

pub fields-append : (ms ns : List ℕ) → fields (ms ++ ns) ≡ fields ms ++ fields ns
unfolding fields
fields-append [] ns = refl
fields-append (m ∷ ms) ns = ap (λ l. field m ++ l) (fields-append ms ns)

-- the first fields
pub take-fields : (j : ℕ) (ns : List ℕ) → take (4 * j) (fields ns) ≡ fields (take j ns)
unfolding fields
take-fields zero ns = refl
take-fields (suc j) [] = take_all (4 * suc j) [] (omega arith)
take-fields (suc j) (n ∷ ns) =
    let e : 4 * suc j ≡ suc (suc (suc (suc (4 * j)))) = omega arith in
    ap (λ m. take m (field n ++ fields ns)) e ∙ ap (λ l. field n ++ l) (take-fields j ns)

-- memory, after the bytes `head` and the fields of the first i numbers were written over its front
abbrev pub SoFar : List ℕ → List ℕ → List ℕ → ℕ → List ℕ → Type 0
SoFar head ns memory i out = out ≡ head ++ (fields (take i ns) ++ drop (length head + 4 * i) memory)

-- no field yet
pub none_yet : (head copied rest ns : List ℕ) → copied ≡ head → SoFar head ns (copied ++ rest) 0 (copied ++ rest)
unfolding fields
none_yet head copied rest ns e = rw e (ap (λ l. head ++ l) (sym (drop_at head rest (length head + 4 * 0) (omega arith))))

-- one more field
pub field_more : (head ns memory out after : List ℕ) (i : ℕ) → i < length ns → SoFar head ns memory i out →
    after ≡ take (length head + 4 * i) out ++ (field (get_or ns i 0) ++ drop (length head + 4 * i + 4) out) → SoFar head ns memory (i + 1) after
unfolding fields
field_more head ns memory out after i h is step =
    let p : ℕ = length head + 4 * i in
    let front = head ++ fields (take i ns) in
    let f : List ℕ = field (get_or ns i 0) in
    let long : length front ≡ p = omega (arith, length-append head (fields (take i ns)), length-fields (take i ns), length-take-le i ns (omega arith)) in
    let a : out ≡ front ++ drop p memory = is ∙ sym (append_assoc head (fields (take i ns)) (drop p memory)) in
    let b : take p out ≡ front = ap (take p) a ∙ take_at front (drop p memory) p long in
    let d : drop (p + 4) out ≡ drop (length head + 4 * (i + 1)) memory =
    ap (drop (p + 4)) a ∙ drop-append-drop p memory front (p + 4) (omega arith) long ∙ ap (λ n. drop n memory) (omega arith) in
    let m : fields (take (i + 1) ns) ≡ fields (take i ns) ++ f = ap fields (take_more ns i 0 h) ∙ fields-append (take i ns) (get_or ns i 0 ∷ []) in
    let g = append_assoc head (fields (take i ns)) (f ++ drop (length head + 4 * (i + 1)) memory) in
    let j = append_assoc (fields (take i ns)) f (drop (length head + 4 * (i + 1)) memory) in
    cc

-- all fields, and behind them what was there before `head` was written
pub all_fields : (head copied ns before out : List ℕ) (k i : ℕ) → copied ≡ head → k ≡ length head → length ns ≡ i → SoFar head ns (copied ++ drop k before) i out →
    (length head + 4 * length ns ≡ length (head ++ fields ns)) × (out ≡ over_front (head ++ fields ns) before)
all_fields head copied ns before out k i e f h is =
    let n : length head + 4 * i ≡ length (head ++ fields ns) = omega (arith, length-append head (fields ns), length-fields ns) in
    let d : drop (length head + 4 * i) (copied ++ drop k before) ≡ drop (length head + 4 * i) before =
    drop-append-drop k before copied (length head + 4 * i) (omega arith) (omega (arith, ap length e)) in
    let t = take_all i ns (omega arith) in
    let g = append_assoc head (fields ns) (drop (length (head ++ fields ns)) before) in
    (omega (arith, n), cc)

-- what the loop that writes the fields needs
pub ruleset written = (none_yet, field_more, length-fields, length-append, length-map, get_or-map)
