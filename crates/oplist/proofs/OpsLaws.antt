-- Ops in bytes: how many there are, each by its place, and the bytes of a part of a record.
use Rattle.std.proofs.Common.{◌≡◌, refl, sym, ap, ◌∙◌, Bool, true, false, List, [], ◌∷◌, ℕ, zero, suc, ◌+◌, ◌*◌, ◌/◌, ◌≤◌, ◌<◌, arith, length, get_or, take, drop, length-take-le, length-drop, leb, leb-true, leb-false, le-leb}
use Rattle.std.proofs.lemmas.Bool.{lt-leb}
use lib.Seq.{get_or-take, get_or-drop}
use Rattle.sam.specs.Record.{le32, ops_in, ops_start, op_count_of, ops_end}
use Rattle.oplist.specs.declared.Area.{Area}
use Rattle.oplist.specs.Ops.{ops_in_bytes, area_ops, record_ops}
use Rattle.oplist.specs.Few.{count_is}

get_ops_in : (b : List ℕ) (at n i : ℕ) → i < n → get_or (ops_in b at n) i 0 ≡ le32 b (at + 4 * i)
unfolding ops_in
get_ops_in b at zero i h = absurd (omega arith)
get_ops_in b at (suc n) zero h = let e : at ≡ at + 4 * 0 = omega arith in ap (le32 b) e
get_ops_in b at (suc n) (suc i) h = let e : at + 4 + 4 * i ≡ at + 4 * suc i = omega arith in get_ops_in b (at + 4) n i (omega arith) ∙ ap (le32 b) e

pub op_is : (b : List ℕ) (i : ℕ) → i < length (ops_in_bytes b) → le32 b (4 * i) ≡ get_or (ops_in_bytes b) i 0
unfolding ops_in_bytes
op_is b i h = let k = count_is b in let e : 4 * i ≡ 0 + 4 * i = omega arith in ap (le32 b) e ∙ sym (get_ops_in b 0 (length b / 4) i (omega arith))

-- the bytes of a part of a record
module _ (b : List ℕ) (at size : ℕ) (fits : at + size ≤ length b) where
  byte : (k : ℕ) → k < size → get_or (take size (drop at b)) k 0 ≡ get_or b (at + k) 0
  byte k h = get_or-take size (drop at b) k 0 h ∙ get_or-drop at b k 0

  word : (k : ℕ) → k + 4 ≤ size → le32 (take size (drop at b)) k ≡ le32 b (at + k)
  word k h =
      let e : (j : ℕ) → j < 4 → get_or (take size (drop at b)) (k + j) 0 ≡ get_or b (at + k + j) 0 =
      λ j l. byte (k + j) (omega arith) ∙ ap (λ (m : ℕ). get_or b m 0) (omega arith)
      in
      let e0 = byte k (omega arith) in
      let e1 = e 1 (omega arith) in
      let e2 = e 2 (omega arith) in
      let e3 = e 3 (omega arith) in
      omega arith

  part : (n k : ℕ) → k + 4 * n ≤ size → ops_in (take size (drop at b)) k n ≡ ops_in b (at + k) n
  unfolding ops_in
  part zero k h = refl
  part (suc n) k h =
      let e : at + (k + 4) ≡ at + k + 4 = omega arith in
      (λ i. word k (omega arith) i ∷ (part n (k + 4) (omega arith) ∙ ap (λ (m : ℕ). ops_in b m n) e) i)

-- the area's bytes, where it ends within the record and where it does not
pub area_in : (b : List ℕ) (at n : ℕ) → at + 4 * n ≤ length b → ops_in_bytes (take (4 * n) (drop at b)) ≡ area_ops b at n
unfolding ops_in_bytes area_ops
area_in b at n h =
    let l : length (take (4 * n) (drop at b)) ≡ 4 * n = length-take-le (4 * n) (drop at b) (let d = length-drop at b in omega arith) in
    let c : length (take (4 * n) (drop at b)) / 4 ≡ n = omega arith in
    let z : at + 0 ≡ at = omega arith in
    ap (ops_in (take (4 * n) (drop at b)) 0) c ∙ part b at (4 * n) h n 0 (omega arith) ∙ ap (λ (m : ℕ). ops_in b m n) z ∙ sym (simp (le-leb _ _ h))

pub area_out : (b : List ℕ) (at n : ℕ) → length b < at + 4 * n → ops_in_bytes [] ≡ area_ops b at n
unfolding ops_in_bytes ops_in area_ops
area_out b at n h = let z : 0 / 4 ≡ 0 = refl in ap (ops_in [] 0) z ∙ sym (simp (lt-leb _ _ h))

pub record_is : (b : List ℕ) (at n : ℕ) → at ≡ ops_start b → n ≡ op_count_of b → area_ops b at n ≡ record_ops b
unfolding area_ops record_ops
record_is b at n p q = simp (p, q)

-- whether a record's ops end within it
module _ (b : List ℕ) (o : Area) (p : (o.at ≡ ops_start b) × (o.n ≡ op_count_of b)) (t : Bool) (e : t ≡ leb (o.at + 4 * o.n) (length b)) where
  pub lies : t ≡ true → ops_end b ≤ length b
  lies q = let h = leb-true (o.at + 4 * o.n) (length b) (sym e ∙ q) in omega (arith, p.0, p.1)

  pub overruns : t ≡ false → length b < ops_end b
  overruns q = let h = leb-false (o.at + 4 * o.n) (length b) (sym e ∙ q) in omega (arith, p.0, p.1)
