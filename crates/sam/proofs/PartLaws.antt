-- The parts of a record, one after the other, are the record; ops as bytes, and read back.
use Prim.Native.Nat.{ℕ, zero, suc, ◌+◌, ◌-◌, ◌*◌, ◌/◌, ◌%◌, ◌≤◌, ◌<◌}
use mathlib.Core.Path.{◌≡◌, refl, sym, ap, ◌∙◌}
use mathlib.Core.List.{List, [], ◌∷◌, ◌++◌, append_assoc}
use native.Mathlib.Omega.{arith}
use lib.ListN.{length, get_or, take, drop, take-append-drop, length-append}
use lib.Seq.{drop-drop, drop_at}
use Rattle.lists.specs.Lists.{Each}
use Rattle.lists.proofs.Walks.{step}
use Rattle.sam.specs.Record.{le32, name_len_of, op_count_of, seq_len_of, ops_start, bases_start, quals_start, ops_in, uint32, op_bytes}
use Rattle.sam.specs.Bases.{packed_size}
use Rattle.sam.specs.Parts.{part, header_part, name_part, ops_part, bases_part, quals_part, tags_part}
use Rattle.sam.proofs.TagLaws.{number}

-- a part and what follows
then_rest : (b : List ℕ) (at n : ℕ) → part b at n ++ drop (at + n) b ≡ drop at b
then_rest b at n = ap (λ (l : List ℕ). part b at n ++ l) (sym (drop-drop n at b)) ∙ take-append-drop n (drop at b)

pub parts_whole : (b : List ℕ) → header_part b ++ (name_part b ++ (ops_part b ++ (bases_part b ++ (quals_part b ++ tags_part b)))) ≡ b
parts_whole b =
    ap (λ (l : List ℕ). header_part b ++ (name_part b ++ (ops_part b ++ (bases_part b ++ l)))) (then_rest b (quals_start b) (seq_len_of b))
    ∙ ap (λ (l : List ℕ). header_part b ++ (name_part b ++ (ops_part b ++ l))) (then_rest b (bases_start b) (packed_size (seq_len_of b)))
    ∙ ap (λ (l : List ℕ). header_part b ++ (name_part b ++ l)) (then_rest b (ops_start b) (4 * op_count_of b))
    ∙ ap (λ (l : List ℕ). header_part b ++ l) (then_rest b 32 (name_len_of b))
    ∙ take-append-drop 32 b

-- ---- ops

pub length_op_bytes : (xs : List ℕ) → length (op_bytes xs) ≡ 4 * length xs
unfolding op_bytes
length_op_bytes [] = refl
length_op_bytes (o ∷ xs) = let l = length_op_bytes xs in omega arith

-- the ops behind a front are read back
pub read_ops : (p xs s : List ℕ) → Each (λ o. o < 4294967296) xs → ops_in (p ++ (op_bytes xs ++ s)) (length p) (length xs) ≡ xs
unfolding ops_in op_bytes
read_ops p [] s h = refl
read_ops p (o ∷ xs) s h =
    let b = p ++ ((uint32 o ++ op_bytes xs) ++ s) in
    let z : length p + 0 ≡ length p = omega arith in
    let f : le32 b (length p) ≡ o =
    sym (number b (length p) 0 (length p) z) ∙ ap (λ (l : List ℕ). le32 l 0) (drop_at p ((uint32 o ++ op_bytes xs) ++ s) (length p) refl) ∙ omega (arith, h.0) in
    let g : b ≡ (p ++ uint32 o) ++ (op_bytes xs ++ s) = sym (append_assoc p (uint32 o) (op_bytes xs ++ s)) in
    let k : length p + 4 ≡ length (p ++ uint32 o) = omega (arith, length-append p (uint32 o)) in
    ap (λ (y : ℕ). y ∷ ops_in b (length p + 4) (length xs)) f
    ∙ ap (λ (l : List ℕ). o ∷ l) (ap (λ (l : List ℕ). ops_in l (length p + 4) (length xs)) g
    ∙ ap (λ (at : ℕ). ops_in ((p ++ uint32 o) ++ (op_bytes xs ++ s)) at (length xs)) k
    ∙ read_ops (p ++ uint32 o) xs s h.1)

pub ops_append : (xs ys : List ℕ) → op_bytes (xs ++ ys) ≡ op_bytes xs ++ op_bytes ys
unfolding op_bytes
ops_append [] ys = refl
ops_append (x ∷ xs) ys = ap (λ (l : List ℕ). uint32 x ++ l) (ops_append xs ys)

-- four bytes as they stand are a number's
four : (b : List ℕ) (at : ℕ) → ((i : ℕ) → get_or b i 0 < 256) → at + 4 ≤ length b → drop at b ≡ uint32 (le32 b at) ++ drop (at + 4) b
four b at w h =
    let w₀ = w at in let w₁ = w (at + 1) in let w₂ = w (at + 2) in let w₃ = w (at + 3) in
    let a₁ : at + 1 + 1 ≡ at + 2 = omega arith in
    let a₂ : at + 2 + 1 ≡ at + 3 = omega arith in
    let a₃ : at + 3 + 1 ≡ at + 4 = omega arith in
    step b at (le32 b at % 256) (omega arith) (omega arith)
    ∙ ap (λ (l : List ℕ). (le32 b at % 256) ∷ l)
    (step b (at + 1) (le32 b at / 256 % 256) (omega arith) (omega arith)
    ∙ ap (λ (l : List ℕ). (le32 b at / 256 % 256) ∷ l)
    (ap (λ (k : ℕ). drop k b) a₁
    ∙ step b (at + 2) (le32 b at / 256 / 256 % 256) (omega arith) (omega arith)
    ∙ ap (λ (l : List ℕ). (le32 b at / 256 / 256 % 256) ∷ l)
    (ap (λ (k : ℕ). drop k b) a₂
    ∙ step b (at + 3) (le32 b at / 256 / 256 / 256 % 256) (omega arith) (omega arith)
    ∙ ap (λ (k : ℕ). (le32 b at / 256 / 256 / 256 % 256) ∷ drop k b) a₃)))

-- the bytes of the n ops that lie in b from a place on
pub ops_stand : (b : List ℕ) (at n : ℕ) → ((i : ℕ) → get_or b i 0 < 256) → at + 4 * n ≤ length b → take (4 * n) (drop at b) ≡ op_bytes (ops_in b at n)
unfolding op_bytes ops_in
ops_stand b at zero w h = refl
ops_stand b at (suc n) w h =
    ap (take (4 * suc n)) (four b at w (omega arith))
    ∙ ap (λ (k : ℕ). take k (uint32 (le32 b at) ++ drop (at + 4) b)) {x = 4 * suc n} {y = suc (suc (suc (suc (4 * n))))} (omega arith)
    ∙ ap (λ (l : List ℕ). uint32 (le32 b at) ++ l) (ops_stand b (at + 4) n w (omega arith))

-- ops from an op on, and ops before an op
pub drop_ops : (b : List ℕ) (at n k : ℕ) → k ≤ n → drop k (ops_in b at n) ≡ ops_in b (at + 4 * k) (n - k)
unfolding ops_in
drop_ops b at n zero h = ap (λ (a : ℕ). ops_in b a n) {x = at} {y = at + 4 * 0} (omega arith) ∙ ap (ops_in b (at + 4 * 0)) {x = n} {y = n - 0} (omega arith)
drop_ops b at zero (suc k) h = absurd (omega arith)
drop_ops b at (suc n) (suc k) h =
    drop_ops b (at + 4) n k (omega arith)
    ∙ ap (λ (a : ℕ). ops_in b a (n - k)) {x = at + 4 + 4 * k} {y = at + 4 * suc k} (omega arith)
    ∙ ap (ops_in b (at + 4 * suc k)) {x = n - k} {y = suc n - suc k} (omega arith)

pub take_ops : (b : List ℕ) (at n k : ℕ) → k ≤ n → take k (ops_in b at n) ≡ ops_in b at k
unfolding ops_in
take_ops b at n zero h = refl
take_ops b at zero (suc k) h = absurd (omega arith)
take_ops b at (suc n) (suc k) h = ap (λ (l : List ℕ). le32 b at ∷ l) (take_ops b (at + 4) n k (omega arith))
