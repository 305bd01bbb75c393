-- Ops are compared by parts as they are written: those put in place by their numbers, the others as their bytes stand.
use Prim.Native.Nat.{ℕ, ◌+◌, ◌-◌, ◌*◌, ◌≤◌, ◌<◌}
use mathlib.Core.Path.{◌≡◌, refl, sym, ap, ◌∙◌}
use mathlib.Core.Bool.{Bool, true, false, ◌&&◌}
use mathlib.Core.List.{List, [], ◌∷◌, ◌++◌, reverse, reverse-append}
use native.Mathlib.Omega.{arith}
use borrow.Author.Tests.{eqb-true, eqb-false, eq-eqb, ne_eqb}
use lib.Dec.{eqb}
use lib.ListN.{length, get_or, take, drop}
use Rattle.lists.proofs.ListLaws.{reverse_drop}
use Rattle.sam.specs.Record.{le32, uint32, ops_in, op_bytes}
use Rattle.sam.proofs.PartLaws.{length_op_bytes, ops_append, ops_stand, drop_ops, take_ops}
use Rattle.oplist.specs.Few.{length_ops_in}
use Rattle.receive_rules.specs.Receiving.{same}
use Rattle.receive_rules.proofs.SameLaws.{same_parts, same_number}

-- a number of 32 bits at a place of g
pub number_at : (g : List ℕ) → ((i : ℕ) → get_or g i 0 < 256) → (i n : ℕ) → n < 4294967296 → i + 4 ≤ length g → same (take 4 (drop i g)) (uint32 n) ≡ eqb (le32 g i) n
unfolding op_bytes ops_in
number_at g w i n k h =
    let w₀ = w i in let w₁ = w (i + 1) in let w₂ = w (i + 2) in let w₃ = w (i + 3) in
    ap (λ (l : List ℕ). same l (uint32 n)) (ops_stand g i 1 w (omega arith)) ∙ same_number (le32 g i) n (omega arith) k

-- ---- the first `heads` of two ops a and b, at a place of g

module _ (g : List ℕ) (at a b : ℕ) (w : (i : ℕ) → get_or g i 0 < 256) (u : a < 4294967296) (v : b < 4294967296) where
  abbrev heads-same : ℕ → Bool
  heads-same heads = same (take (4 * heads) (drop at g)) (op_bytes (take heads (a ∷ (b ∷ []))))

  one : at + 4 ≤ length g → heads-same 1 ≡ eqb (le32 g at) a
  unfolding op_bytes
  one h = number_at g w at a u h

  two : at + 8 ≤ length g → heads-same 2 ≡ (eqb (le32 g at) a && eqb (le32 g (at + 4)) b)
  unfolding op_bytes
  two h =
      same_parts g at 4 4 (uint32 a) (uint32 b) refl (omega arith)
      ∙ ap (λ (t : Bool). t && same (take 4 (drop (at + 4) g)) (uint32 b)) (number_at g w at a u (omega arith))
      ∙ ap (λ (t : Bool). eqb (le32 g at) a && t) (number_at g w (at + 4) b v (omega arith))

  module _ (heads : ℕ) (h : at + 4 * heads ≤ length g) where
    pub no-heads : heads ≡ 0 → true ≡ heads-same heads
    unfolding op_bytes same
    no-heads e = sym (ap heads-same e)

    pub first-differs : (x : ℕ) → x ≡ le32 g at → (heads ≡ 0 → ⊥) → heads ≤ 2 → (x ≡ a → ⊥) → false ≡ heads-same heads
    first-differs x e z k n = go (eqb heads 1) refl
      where
        not_a : eqb (le32 g at) a ≡ false
        not_a = ne_eqb (le32 g at) a (λ f. n (e ∙ f))

        go : (t : Bool) → eqb heads 1 ≡ t → false ≡ heads-same heads
        go true q = let i = eqb-true heads 1 q in sym (ap heads-same i ∙ one (omega arith) ∙ not_a)
        go false q =
            let i = eqb-false heads 1 q in
            let j : heads ≡ 2 = omega arith in
            sym (ap heads-same j ∙ two (omega arith) ∙ ap (λ (t : Bool). t && eqb (le32 g (at + 4)) b) not_a)

    pub one-head : (x : ℕ) → x ≡ le32 g at → x ≡ a → heads ≡ 1 → true ≡ heads-same heads
    one-head x e f q = sym (ap heads-same q ∙ one (omega arith) ∙ eq-eqb (le32 g at) a (sym e ∙ f))

    pub two-heads : (x y : ℕ) → x ≡ le32 g at → x ≡ a → y ≡ le32 g (at + 4) → heads ≡ 2 → eqb y b ≡ heads-same heads
    two-heads x y e f i q = sym
        (ap heads-same q
        ∙ two (omega arith)
        ∙ ap (λ (t : Bool). t && eqb (le32 g (at + 4)) b) (eq-eqb (le32 g at) a (sym e ∙ f))
        ∙ ap (λ (k : ℕ). eqb k b) (sym i))

-- ---- the ops that a plan leaves of n ops, which lie in b from place `area` on

module _ (g b : List ℕ) (at area n skip heads : ℕ) (vs : List ℕ) (w : (i : ℕ) → get_or b i 0 < 256) (s : skip ≤ n) (f : area + 4 * n ≤ length b)
    (r : at + 4 * (heads + (n - skip)) ≤ length g) where
  -- heads, then the ops from place skip on
  pub ops_start : length vs ≡ heads
      → (same (take (4 * heads) (drop at g)) (op_bytes vs)
      && same (take (4 * (n - skip)) (drop (at + 4 * heads) g)) (take (4 * (n - skip)) (drop (area + 4 * skip) b)))
      ≡ same (take (4 * (heads + (n - skip))) (drop at g)) (op_bytes (vs ++ drop skip (ops_in b area n)))
  ops_start e =
      let l = length_op_bytes vs in
      sym
      (ap (λ (k : ℕ). same (take k (drop at g)) (op_bytes (vs ++ drop skip (ops_in b area n)))) {x = 4 * (heads + (n - skip))} {y = 4 * heads + 4 * (n - skip)} (omega arith)
      ∙ ap (same (take (4 * heads + 4 * (n - skip)) (drop at g))) (ops_append vs (drop skip (ops_in b area n)))
      ∙ same_parts g at (4 * heads) (4 * (n - skip)) (op_bytes vs) (op_bytes (drop skip (ops_in b area n))) (omega arith) (omega arith)
      ∙ ap (λ (l : List ℕ). same (take (4 * heads) (drop at g)) (op_bytes vs) && same (take (4 * (n - skip)) (drop (at + 4 * heads) g)) l)
      (ap op_bytes (drop_ops b area n skip s) ∙ sym (ops_stand b (area + 4 * skip) (n - skip) w (omega arith))))

  -- the ops but for the last skip, then heads in reverse
  pub ops_end : (ws : List ℕ) → ws ≡ reverse vs
      → (same (take (4 * (n - skip)) (drop at g)) (take (4 * (n - skip)) (drop area b)) && same (take (4 * heads) (drop (at + 4 * (n - skip)) g)) (op_bytes ws))
      ≡ same (take (4 * (heads + (n - skip))) (drop at g)) (op_bytes (reverse (vs ++ drop skip (reverse (ops_in b area n)))))
  ops_end ws e =
      let xs : List ℕ = ops_in b area n in
      let ys : List ℕ = ops_in b area (n - skip) in
      let m : length xs ≡ n = length_ops_in b area n in
      let k : length ys ≡ n - skip = length_ops_in b area (n - skip) in
      let l = length_op_bytes ys in
      let t : reverse (drop skip (reverse xs)) ≡ ys =
      reverse_drop xs skip (omega arith) ∙ ap (λ (i : ℕ). take (i - skip) xs) m ∙ take_ops b area n (n - skip) (omega arith) in
      let z : op_bytes (reverse (vs ++ drop skip (reverse xs))) ≡ op_bytes ys ++ op_bytes ws =
      ap op_bytes (reverse-append vs (drop skip (reverse xs)) ∙ ap (λ (i : List ℕ). reverse (drop skip (reverse xs)) ++ i) (sym e) ∙ ap (λ (i : List ℕ). i ++ ws) t)
      ∙ ops_append ys ws in
      sym
      (ap (λ (i : ℕ). same (take i (drop at g)) (op_bytes (reverse (vs ++ drop skip (reverse xs))))) {x = 4 * (heads + (n - skip))} {y = 4 * (n - skip) + 4 * heads} (omega arith)
      ∙ ap (same (take (4 * (n - skip) + 4 * heads) (drop at g))) z
      ∙ same_parts g at (4 * (n - skip)) (4 * heads) (op_bytes ys) (op_bytes ws) (omega arith) (omega arith)
      ∙ ap (λ (i : List ℕ). same (take (4 * (n - skip)) (drop at g)) i && same (take (4 * heads) (drop (at + 4 * (n - skip)) g)) (op_bytes ws))
      (sym (ops_stand b area (n - skip) w (omega arith))))
