-- A clipped list is written in two parts, and at the end its ops come in reverse.
use mathlib.Core.Path.{◌≡◌, refl, sym, ap, ◌∙◌}
use mathlib.Core.List.{List, [], ◌∷◌, ◌++◌, reverse, reverse-append}
use Prim.Native.Nat.{ℕ, zero, suc, ◌-◌, ◌≤◌}
use native.Mathlib.Omega.{arith}
use lib.ListN.{length, take, drop, length-drop}
use lib.Seq.{length-take-le, take_all}
use Rattle.lists.specs.Lists.{splice}
use Rattle.lists.proofs.ListLaws.{two_parts, reverse_drop}

-- heads, then the ops from place skip on
pub front_is : (d d₁ d₂ ops : List ℕ) (skip n heads a b : ℕ) → n ≡ length ops - skip → heads ≤ 2 → heads ≤ length d
    → d₁ ≡ splice d 0 (take heads (a ∷ (b ∷ []))) → d₂ ≡ splice d₁ heads (take n (drop skip ops))
    → d₂ ≡ splice d 0 (take heads (a ∷ (b ∷ [])) ++ drop skip ops)
front_is d d₁ d₂ ops skip n heads a b e h k p q =
    let l = length-take-le heads (a ∷ (b ∷ [])) h in
    let m = length-drop skip ops in
    let w : take n (drop skip ops) ≡ drop skip ops = take_all n (drop skip ops) (omega arith) in
    two_parts d d₁ d₂ 0 heads (take heads (a ∷ (b ∷ []))) (drop skip ops) (omega arith) k p (q ∙ ap (splice d₁ heads) w)

-- the ops but for the last skip, then heads in reverse
pub back_is : (d d₁ d₂ ops : List ℕ) (skip n : ℕ) (vs ws : List ℕ) → n ≡ length ops - skip → skip ≤ length ops → n ≤ length d → ws ≡ reverse vs
    → d₁ ≡ splice d 0 (take n ops) → d₂ ≡ splice d₁ n ws
    → d₂ ≡ splice d 0 (reverse (vs ++ drop skip (reverse ops)))
back_is d d₁ d₂ ops skip n vs ws e s k f p q =
    let l : length (take n ops) ≡ n = length-take-le n ops (omega arith) in
    two_parts d d₁ d₂ 0 n (take n ops) ws (omega arith) k p q
    ∙ ap (splice d 0)
    (ap (λ (m : ℕ). take m ops ++ ws) e
    ∙ ap (λ (v : List ℕ). v ++ ws) (sym (reverse_drop ops skip s))
    ∙ ap (λ (v : List ℕ). reverse (drop skip (reverse ops)) ++ v) f
    ∙ sym (reverse-append vs (drop skip (reverse ops))))

pub few_reverse : (heads a b : ℕ) → heads ≤ 1 → take heads (a ∷ (b ∷ [])) ≡ reverse (take heads (a ∷ (b ∷ [])))
few_reverse zero a b h = refl
few_reverse (suc zero) a b h = refl
few_reverse (suc (suc n)) a b h = absurd (omega arith)

pub two_reverse : (heads a b : ℕ) → heads ≡ 2 → take heads (b ∷ (a ∷ [])) ≡ reverse (take heads (a ∷ (b ∷ [])))
two_reverse heads a b e = rw e
