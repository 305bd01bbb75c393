-- An odd last base is written behind the pairs; and bases that are shifted are written in blocks of sixteen bytes.
use Prim.Native.Nat.{ℕ, zero, suc, ◌+◌, ◌-◌, ◌*◌, ◌/◌, ◌%◌, ◌≤◌, ◌<◌}
use mathlib.Core.Path.{◌≡◌, refl, sym, ap, ◌∙◌}
use mathlib.Core.List.{List, [], ◌∷◌, ◌++◌}
use native.Mathlib.Numerals.{add-one}
use native.Mathlib.Omega.{arith}
use lib.ListN.{length, get_or, take, drop, set, length-drop}
use lib.Seq.{get_or-drop, take-suc, take-suc-set, drop-drop, drop-nil, take_all}
use Rattle.record_parts.proofs.PutLaws.{whole_written, blocks}
use Rattle.lists.proofs.Splices.{splice_start}
use Rattle.lists.specs.Lists.{splice}
use Rattle.lists.proofs.ListLaws.{splice_snoc}
use Rattle.sam.specs.Bases.{bases_of, packed}
use Rattle.sam.proofs.BaseLaws.{length_bases, packed_size, packed_last, shifted_byte}

-- k pairs are written, and behind them the base that is left
pub put_last : (bs d p : List ℕ) (from n k x : ℕ) → n ≡ 2 * k + 1 → from + n ≤ length bs → length d ≡ (n + 1) / 2
    → p ≡ packed (take (2 * k) (drop from bs)) → x ≡ get_or bs (from + n - 1) 0 * 16 + 0 → set (p ++ drop k d) k x ≡ packed (take n (drop from bs))
put_last bs d p from n k x h r l e q =
    let P : List ℕ = packed (take (2 * k) (drop from bs)) in
    let j : length (drop from bs) ≡ length bs - from = length-drop from bs in
    let s = packed_size bs from (2 * k) (omega arith) in
    let t = packed_size bs from n (omega arith) in
    let g = get_or-drop from bs (2 * k) 0 in
    let z : get_or bs (from + n - 1) 0 ≡ get_or bs (from + 2 * k) 0 = ap (λ (i : ℕ). get_or bs i 0) (omega arith) in
    let v : x ≡ get_or (drop from bs) (2 * k) 0 * 16 = omega arith in
    let w : length P ≡ k = omega arith in
    ap (λ (m : List ℕ). set m k x) (ap (λ (m : List ℕ). m ++ drop k d) e ∙ ap (λ (i : ℕ). P ++ drop i d) (sym w) ∙ sym (splice_start d P))
    ∙ ap (λ (i : ℕ). set (splice d 0 P) i x) {x = k} {y = 0 + k} (omega arith)
    ∙ splice_snoc d 0 P k x (omega arith) (omega arith)
    ∙ ap (λ (b : ℕ). splice d 0 (P ++ (b ∷ []))) v
    ∙ ap (splice d 0) (sym (packed_last k (drop from bs) (omega arith)))
    ∙ ap (λ (m : ℕ). splice d 0 (packed (take m (drop from bs)))) {x = 2 * k + 1} {y = n} (omega arith)
    ∙ whole_written d (packed (take n (drop from bs))) (omega arith)

-- ---- from the second base on

-- k bytes of bases from the second base on
abbrev pub shifted : List ℕ → ℕ → List ℕ
shifted s k = packed (take (2 * k) (drop 1 (bases_of s)))

pub shifted_size : (s : List ℕ) (k : ℕ) → k < length s → length (shifted s k) ≡ k
shifted_size s k h =
    let l = length_bases s in
    let m = packed_size (bases_of s) 1 (2 * k) (omega arith) in
    omega arith

-- byte i
pub shifted_at : (s : List ℕ) (k i x : ℕ) → i < k → x ≡ get_or s i 0 % 16 * 16 + get_or s (i + 1) 0 / 16 % 16 → x ≡ get_or (shifted s k) i 0
shifted_at s k i x h e =
    e
    ∙ ap (λ (j : ℕ). get_or s j 0 % 16 * 16 + get_or s (j + 1) 0 / 16 % 16) {x = i} {y = 0 + 1 / 2 + i} (omega arith)
    ∙ shifted_byte s 0 1 (2 * k) i refl (omega arith)

-- one turn of holding the elements of s from place `from` on
pub hold_turn : (l s : List ℕ) (from i x : ℕ) → i < length l → from + i < length s → x ≡ get_or s (from + i) 0 → take i l ≡ take i (drop from s)
    → take (i + 1) (set l i x) ≡ take (i + 1) (drop from s)
hold_turn l s from i x h k v e =
    let d = length-drop from s in
    ap (λ (n : ℕ). take n (set l i x)) (add-one i)
    ∙ take-suc-set l i x h
    ∙ ap (λ (p : List ℕ). p ++ (x ∷ [])) e
    ∙ ap (λ (y : ℕ). take i (drop from s) ++ (y ∷ [])) (v ∙ sym (get_or-drop from s i 0))
    ∙ sym (take-suc (drop from s) i 0 (omega arith))
    ∙ ap (λ (n : ℕ). take n (drop from s)) (sym (add-one i))

-- sixteen bytes from byte m on, where the first j bytes are written
pub shifted_block : (s d d₁ d₂ : List ℕ) (j m n : ℕ) → m + 16 ≡ n → m ≤ j → j ≤ n → n ≤ length d → length d < length s → length d₁ ≡ length d
    → d₁ ≡ splice d 0 (take j (shifted s (length d))) → d₂ ≡ splice d₁ m (take 16 (drop m (shifted s (length d₁)))) → d₂ ≡ splice d 0 (take n (shifted s (length d)))
shifted_block s d d₁ d₂ j m n h g₁ g₂ g₃ f e p q =
    let l = shifted_size s (length d) f in
    blocks d d₁ d₂ (shifted s (length d)) j m 16 n h g₁ g₂ (omega arith) g₃ p (q ∙ ap (λ (k : ℕ). splice d₁ m (take 16 (drop m (shifted s k)))) e)

-- all of them
pub shifted_whole : (s d : List ℕ) → length d < length s → splice d 0 (take (length d) (shifted s (length d))) ≡ shifted s (length d)
shifted_whole s d h =
    let l = shifted_size s (length d) h in
    ap (splice d 0) (take_all (length d) (shifted s (length d)) (omega arith)) ∙ whole_written d (shifted s (length d)) (omega arith)

-- the bases but for those of the first k bytes
bases_drop : (k : ℕ) (s : List ℕ) → bases_of (drop k s) ≡ drop (2 * k) (bases_of s)
unfolding bases_of
bases_drop zero s = refl
bases_drop (suc k) [] = sym (drop-nil (2 * suc k))
bases_drop (suc k) (x ∷ s) = bases_drop k s ∙ ap (λ (n : ℕ). drop n (bases_of (x ∷ s))) {x = suc (suc (2 * k))} {y = 2 * suc k} (omega arith)

-- from an odd base on: from the second base of the byte that holds it
pub odd_from : (s : List ℕ) (from k : ℕ) → from % 2 ≡ 1 → shifted (drop (from / 2) s) k ≡ packed (take (2 * k) (drop from (bases_of s)))
odd_from s from k o =
    let e : 2 * (from / 2) + 1 ≡ from = omega arith in
    ap (λ (l : List ℕ). packed (take (2 * k) (drop 1 l))) (bases_drop (from / 2) s)
    ∙ ap (λ (l : List ℕ). packed (take (2 * k) l)) (drop-drop 1 (2 * (from / 2)) (bases_of s) ∙ ap (λ (n : ℕ). drop n (bases_of s)) e)
