-- Laws of `specs/Lists.antt`: a list seen from its end, and a list written into another. Assumes nothing.
use mathlib.Core.Path.{◌≡◌, refl, sym, ap, ◌∙◌}
use mathlib.Core.Bool.{Bool, true, false}
use mathlib.Core.List.{List, [], ◌∷◌, ◌++◌, reverse, append_assoc, reverse-append, reverse-reverse}
use Prim.Native.Nat.{ℕ, ◌+◌, ◌-◌, ◌≤◌, ◌<◌}
use native.Mathlib.Numerals.{add-one}
use native.Mathlib.Omega.{arith}
use lib.ListN.{length, take, drop, get_or, set, length-append, length-reverse, length-drop, take-append-drop}
use lib.Seq.{take_at, drop_at, drop-drop, drop-append-add, set_split, take-suc, get_or-drop, length-take-le}
use Rattle.lists.specs.Lists.{facing, splice}

-- ---- a list seen from the chosen end

pub length_facing : (b : Bool) (xs : List ℕ) → length (facing b xs) ≡ length xs
length_facing true xs = refl
length_facing false xs = length-reverse xs

-- what the end keeps of a list
pub reverse_drop : (xs : List ℕ) (k : ℕ) → k ≤ length xs → reverse (drop k (reverse xs)) ≡ take (length xs - k) xs
reverse_drop xs k h =
    let m : ℕ = length xs - k in
    let e : reverse xs ≡ reverse (drop m xs) ++ reverse (take m xs) =
    ap reverse (sym (take-append-drop m xs)) ∙ reverse-append (take m xs) (drop m xs) in
    let n : length (reverse (drop m xs)) ≡ k = simp (length-reverse, length-drop) (omega arith) in
    ap (λ (l : List ℕ). reverse (drop k l)) e
    ∙ ap reverse (drop_at (reverse (drop m xs)) (reverse (take m xs)) k n)
    ∙ reverse-reverse (take m xs)

-- ---- a list written into another

module _ (d : List ℕ) (at : ℕ) (vs : List ℕ) (fits : at + length vs ≤ length d) where
  head_length : length (take at d ++ vs) ≡ at + length vs
  head_length = length-append (take at d) vs ∙ ap (λ (k : ℕ). k + length vs) (length-take-le at d (omega arith))

  splice_head : splice d at vs ≡ (take at d ++ vs) ++ drop (at + length vs) d
  unfolding splice
  splice_head = sym (append_assoc (take at d) vs (drop (at + length vs) d))

  pub length_splice : length (splice d at vs) ≡ length d
  length_splice =
      ap length splice_head ∙ length-append (take at d ++ vs) (drop (at + length vs) d)
      ∙ let p = head_length in let q = length-drop (at + length vs) d in omega arith

  -- a second list, written after the first
  pub splice_append : (ws : List ℕ) → splice (splice d at vs) (at + length vs) ws ≡ splice d at (vs ++ ws)
  unfolding splice
  splice_append ws =
      let n : ℕ = at + length vs in
      let p : List ℕ = take at d ++ vs in
      ap (λ (l : List ℕ). take n l ++ (ws ++ drop (n + length ws) l)) splice_head
      ∙ ap (λ (l : List ℕ). l ++ (ws ++ drop (n + length ws) (p ++ drop n d))) (take_at p (drop n d) n head_length)
      ∙ ap (λ (l : List ℕ). p ++ (ws ++ l))
      (ap (λ (k : ℕ). drop (k + length ws) (p ++ drop n d)) (sym head_length)
      ∙ drop-append-add p (drop n d) (length ws)
      ∙ drop-drop (length ws) n d)
      ∙ append_assoc (take at d) vs (ws ++ drop (n + length ws) d)
      ∙ ap (λ (l : List ℕ). take at d ++ l) (sym (append_assoc vs ws (drop (n + length ws) d)))
      ∙ ap (λ (k : ℕ). take at d ++ ((vs ++ ws) ++ drop k d))
      (let q = length-append vs ws in let r : n + length ws ≡ at + length (vs ++ ws) = omega arith in r)

pub splice_nil : (d : List ℕ) (at : ℕ) → splice d at [] ≡ d
unfolding splice
splice_nil d at = let e : at + 0 ≡ at = omega arith in rw e (take-append-drop at d)

-- one store
pub splice_one : (d : List ℕ) (at x : ℕ) → at < length d → set d at x ≡ splice d at (x ∷ [])
unfolding splice
splice_one d at x h = rw (add-one at) (set_split d at x h)

-- one store after a list
pub splice_snoc : (d : List ℕ) (at : ℕ) (vs : List ℕ) (n x : ℕ) → length vs ≡ n → at + n < length d
    → set (splice d at vs) (at + n) x ≡ splice d at (vs ++ (x ∷ []))
splice_snoc d at vs n x e h =
    let f : at + length vs ≤ length d = omega arith in
    let l = length_splice d at vs f in
    ap (λ (k : ℕ). set (splice d at vs) (at + k) x) (sym e)
    ∙ splice_one (splice d at vs) (at + length vs) x (omega arith)
    ∙ splice_append d at vs f (x ∷ [])

-- one turn of a loop that copies
pub splice_turn : (d : List ℕ) (at : ℕ) (s : List ℕ) (from j : ℕ) → from + j < length s → at + j < length d
    → set (splice d at (take j (drop from s))) (at + j) (get_or s (from + j) 0) ≡ splice d at (take (j + 1) (drop from s))
splice_turn d at s from j h k =
    let m : length (drop from s) ≡ length s - from = length-drop from s in
    splice_snoc d at (take j (drop from s)) j (get_or s (from + j) 0) (length-take-le j (drop from s) (omega arith)) k
    ∙ ap (splice d at)
    (ap (λ (x : ℕ). take j (drop from s) ++ (x ∷ [])) (sym (get_or-drop from s j 0))
    ∙ sym (take-suc (drop from s) j 0 (omega arith))
    ∙ ap (λ (n : ℕ). take n (drop from s)) (sym (add-one j)))

-- two stores
pub splice_two : (d : List ℕ) (at x y : ℕ) → at + 2 ≤ length d → set (set d at x) (at + 1) y ≡ splice d at (x ∷ (y ∷ []))
splice_two d at x y h =
    ap (λ (l : List ℕ). set l (at + 1) y) (splice_one d at x (omega arith)) ∙ splice_snoc d at (x ∷ []) 1 y refl (omega arith)

-- two lists, one written after the other
pub two_parts : (d d₁ d₂ : List ℕ) (at n : ℕ) (vs ws : List ℕ) → at + length vs ≡ n → n ≤ length d → d₁ ≡ splice d at vs → d₂ ≡ splice d₁ n ws → d₂ ≡ splice d at (vs ++ ws)
two_parts d d₁ d₂ at n vs ws e h p q =
    q ∙ ap (λ (l : List ℕ). splice l n ws) p ∙ ap (λ (k : ℕ). splice (splice d at vs) k ws) (sym e) ∙ splice_append d at vs (omega arith) ws
