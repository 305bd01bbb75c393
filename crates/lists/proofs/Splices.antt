-- Writing into a list: a turn of a loop, four elements, a list into the front part of another; and parts of parts.
use Prim.Native.Nat.{ℕ, zero, suc, ◌+◌, ◌-◌, ◌≤◌}
use mathlib.Core.Path.{◌≡◌, sym, ap, ◌∙◌}
use mathlib.Core.List.{List, [], ◌∷◌, ◌++◌, append_assoc}
use native.Mathlib.Omega.{arith}
use lib.ListN.{length, take, drop, length-append}
use lib.Seq.{take-append-le, drop-append-le, take-take, take-nil}
use Rattle.lists.specs.Lists.{splice}
use Rattle.lists.proofs.ListLaws.{length_splice}

pub splice_front : (vs r : List ℕ) (at : ℕ) (ws : List ℕ) → at + length ws ≤ length vs → splice (vs ++ r) at ws ≡ splice vs at ws ++ r
unfolding splice
splice_front vs r at ws h =
    ap (λ (l : List ℕ). l ++ (ws ++ drop (at + length ws) (vs ++ r))) (take-append-le at vs r (omega arith))
    ∙ ap (λ (l : List ℕ). take at vs ++ (ws ++ l)) (drop-append-le (at + length ws) vs r h)
    ∙ ap (λ (l : List ℕ). take at vs ++ l) (sym (append_assoc ws (drop (at + length ws) vs) r))
    ∙ sym (append_assoc (take at vs) (ws ++ drop (at + length ws) vs) r)

pub splice_start : (d vs : List ℕ) → splice d 0 vs ≡ vs ++ drop (length vs) d
unfolding splice
splice_start d vs = ap (λ (k : ℕ). vs ++ drop k d) {x = 0 + length vs} {y = length vs} (omega arith)

-- a store into the first part of what stands at the front
pub front_step : (d d₁ d₂ h n : List ℕ) (at : ℕ) (ws : List ℕ) → at + length ws ≤ length h
    → d₁ ≡ splice d 0 (h ++ n) → d₂ ≡ splice d₁ at ws → d₂ ≡ splice d 0 (splice h at ws ++ n)
front_step d d₁ d₂ h n at ws f p q =
    let r : List ℕ = drop (length (h ++ n)) d in
    let l = length_splice h at ws f in
    let s = length-append h n in
    let t = length-append (splice h at ws) n in
    let e : length (h ++ n) ≡ length (splice h at ws ++ n) = omega arith in
    q
    ∙ ap (λ (m : List ℕ). splice m at ws) (p ∙ splice_start d (h ++ n) ∙ append_assoc h n r)
    ∙ splice_front h (n ++ r) at ws f
    ∙ sym (append_assoc (splice h at ws) n r)
    ∙ ap (λ (k : ℕ). (splice h at ws ++ n) ++ drop k d) e
    ∙ sym (splice_start d (splice h at ws ++ n))

-- a part of a front
pub drop-take : (k l : ℕ) (xs : List ℕ) → drop k (take (k + l) xs) ≡ take l (drop k xs)
drop-take zero l xs = ap (λ (n : ℕ). take n xs) {x = 0 + l} {y = l} (omega arith)
drop-take (suc k) l [] = ap (drop (suc k)) (take-nil (suc k + l)) ∙ sym (take-nil l)
drop-take (suc k) l (x ∷ xs) = ap (λ (n : ℕ). drop (suc k) (take n (x ∷ xs))) {x = suc k + l} {y = suc (k + l)} (omega arith) ∙ drop-take k l xs

pub part_of_front : (xs : List ℕ) (from n l : ℕ) → from + n ≤ l → take n (drop from (take l xs)) ≡ take n (drop from xs)
part_of_front xs from n l h =
    let e : l ≡ from + (l - from) = omega arith in
    ap (λ (k : ℕ). take n (drop from (take k xs))) e
    ∙ ap (take n) (drop-take from (l - from) xs)
    ∙ take-take n (l - from) (drop from xs) (omega arith)
