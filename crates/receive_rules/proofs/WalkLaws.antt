-- Comparing goes with writing: a stretch, packed bases and ops are compared by parts as they are written by parts.
use Prim.Native.Nat.{ℕ, ◌+◌, ◌-◌, ◌*◌, ◌/◌, ◌%◌, ◌≤◌, ◌<◌}
use mathlib.Core.Path.{◌≡◌, refl, sym, ap, ◌∙◌}
use mathlib.Core.Bool.{Bool, true, false, ◌&&◌}
use mathlib.Core.List.{List, [], ◌∷◌}
use native.Mathlib.Omega.{arith}
use lib.Dec.{eqb}
use lib.ListN.{length, get_or, take, drop, length-drop}
use lib.Seq.{get_or-drop, take_all}
use Rattle.lists.proofs.Walks.{step}
use Rattle.sam.specs.Bases.{bases_of, packed}
use Rattle.sam.proofs.BaseLaws.{length_behind, packed_size, shifted_byte, packed_last}
use Rattle.receive_rules.specs.Receiving.{same}
use Rattle.receive_rules.proofs.SameLaws.{same_turn, same_parts, lengths_differ}

-- ---- bytes

-- one turn
pub bytes_turn : (g b : List ℕ) (at from j : ℕ) → at + j < length g → from + j < length b
    → (same (take j (drop at g)) (take j (drop from b)) && eqb (get_or g (at + j) 0) (get_or b (from + j) 0)) ≡ same (take (j + 1) (drop at g)) (take (j + 1) (drop from b))
bytes_turn g b at from j h k =
    let l = length-drop at g in
    let m = length-drop from b in
    same_turn (drop at g) (drop from b) j (get_or g (at + j) 0) (get_or b (from + j) 0) (sym (get_or-drop at g j 0)) (sym (get_or-drop from b j 0)) (omega arith) (omega arith)

-- two ends that are not of one length
pub rest_differs : (g b : List ℕ) (at from : ℕ) → (length g - at ≡ length b - from → ⊥) → same (drop at g) (drop from b) ≡ false
rest_differs g b at from h =
    let l = length-drop at g in
    let m = length-drop from b in
    lengths_differ (drop at g) (drop from b) (λ e. h (omega arith))

-- ---- bases

-- one turn, from an odd base on
pub shifted_turn : (g b : List ℕ) (at area from k j y : ℕ) → from % 2 ≡ 1 → j < k → at + k ≤ length g → area + (from + 2 * k + 1) / 2 ≤ length b
    → y ≡ get_or b (area + from / 2 + j) 0 % 16 * 16 + get_or b (area + from / 2 + j + 1) 0 / 16 % 16
    → let p = packed (take (2 * k) (drop from (bases_of (drop area b)))) in
    (same (take j (drop at g)) (take j p) && eqb (get_or g (at + j) 0) y) ≡ same (take (j + 1) (drop at g)) (take (j + 1) p)
shifted_turn g b at area from k j y o h f w e =
    let bs : List ℕ = bases_of (drop area b) in
    let l : length bs ≡ 2 * (length b - area) = length_behind b area in
    let m : length (packed (take (2 * k) (drop from bs))) ≡ (2 * k + 1) / 2 = packed_size bs from (2 * k) (omega arith) in
    let d = length-drop at g in
    same_turn (drop at g) (packed (take (2 * k) (drop from bs))) j (get_or g (at + j) 0) y (sym (get_or-drop at g j 0))
    (e ∙ shifted_byte b area from (2 * k) j o (omega arith)) (omega arith) (omega arith)

-- all of them
pub shifted_whole : (g b : List ℕ) (at area from k : ℕ) → area + (from + 2 * k + 1) / 2 ≤ length b
    → let p = packed (take (2 * k) (drop from (bases_of (drop area b)))) in same (take k (drop at g)) (take k p) ≡ same (take k (drop at g)) p
shifted_whole g b at area from k w =
    let bs : List ℕ = bases_of (drop area b) in
    let l : length bs ≡ 2 * (length b - area) = length_behind b area in
    let m : length (packed (take (2 * k) (drop from bs))) ≡ (2 * k + 1) / 2 = packed_size bs from (2 * k) (omega arith) in
    ap (same (take k (drop at g))) (take_all k (packed (take (2 * k) (drop from bs))) (omega arith))

-- n bases of bs from base `from` on beside the bytes of g from place `at` on: pairs, and an odd last one by itself
module _ (g bs : List ℕ) (at from n : ℕ) (f : at + (n + 1) / 2 ≤ length g) (w : from + n ≤ length bs) where
  abbrev pairs : Bool
  pairs = same (take (n / 2) (drop at g)) (packed (take (2 * (n / 2)) (drop from bs)))

  abbrev whole : Bool
  whole = same (take ((n + 1) / 2) (drop at g)) (packed (take n (drop from bs)))

  pub bases_odd : n % 2 ≡ 1 → (pairs && eqb (get_or g (at + n / 2) 0) (get_or bs (from + n - 1) 0 * 16 + 0)) ≡ whole
  unfolding same
  bases_odd e =
      let k : ℕ = n / 2 in
      let v : List ℕ = packed (take (2 * k) (drop from bs)) in
      let y : ℕ = get_or (drop from bs) (2 * k) 0 * 16 in
      let d = length-drop from bs in
      let m : length v ≡ (2 * k + 1) / 2 = packed_size bs from (2 * k) (omega arith) in
      let r : take 1 (drop (at + k) g) ≡ get_or g (at + k) 0 ∷ [] = ap (take 1) (step g (at + k) (get_or g (at + k) 0) refl (omega arith)) in
      let x : get_or bs (from + n - 1) 0 * 16 + 0 ≡ y =
      ap (λ (i : ℕ). get_or bs i 0 * 16 + 0) {x = from + n - 1} {y = from + 2 * k} (omega arith) ∙ omega (arith, get_or-drop from bs (2 * k) 0) in
      sym
      (ap (λ (i : ℕ). same (take i (drop at g)) (packed (take n (drop from bs)))) {x = (n + 1) / 2} {y = k + 1} (omega arith)
      ∙ ap (λ (i : ℕ). same (take (k + 1) (drop at g)) (packed (take i (drop from bs)))) {x = n} {y = 2 * k + 1} (omega arith)
      ∙ ap (same (take (k + 1) (drop at g))) (packed_last k (drop from bs) (omega arith))
      ∙ same_parts g at k 1 v (y ∷ []) (omega arith) (omega arith)
      ∙ ap (λ (l : List ℕ). pairs && same l (y ∷ [])) r
      ∙ ap (λ (i : ℕ). pairs && same (get_or g (at + k) 0 ∷ []) (i ∷ [])) (sym x)
      ∙ ap (λ (t : Bool). pairs && t) (and_right (eqb (get_or g (at + k) 0) (get_or bs (from + n - 1) 0 * 16 + 0))))
    where
      and_right : (p : Bool) → (p && true) ≡ p
      and_right true = refl
      and_right false = refl
