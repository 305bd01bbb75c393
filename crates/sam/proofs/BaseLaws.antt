-- Bases by index: what stands where in bytes and bases, and how many there are; and unpacking what was packed gives the bases back.
use Prim.Native.Nat.{ℕ, zero, suc, ◌+◌, ◌-◌, ◌*◌, ◌/◌, ◌%◌, ◌≤◌, ◌<◌}
use mathlib.Core.Path.{◌≡◌, refl, sym, ap, ◌∙◌}
use mathlib.Core.List.{List, [], ◌∷◌, ◌++◌}
use native.Mathlib.Omega.{arith}
use lib.ListN.{length, get_or, take, drop, length-drop}
use lib.Seq.{get_or-drop, get_or-take, length-take-le, take-nil, ext_get_or}
use Rattle.sam.specs.Bases.{bases_of, packed}

pub length_bases : (s : List ℕ) → length (bases_of s) ≡ 2 * length s
unfolding bases_of
length_bases [] = refl
length_bases (x ∷ s) = let e = length_bases s in omega arith

pub length_packed : (bs : List ℕ) → length (packed bs) ≡ (length bs + 1) / 2
unfolding packed
length_packed [] = refl
length_packed (h ∷ []) = refl
length_packed (h ∷ (l ∷ bs)) = let e = length_packed bs in omega arith

-- the two bases of byte i
pub first_base : (s : List ℕ) (i : ℕ) → get_or (bases_of s) (2 * i) 0 ≡ get_or s i 0 / 16 % 16
unfolding bases_of
first_base [] i = refl
first_base (x ∷ s) zero = refl
first_base (x ∷ s) (suc i) = ap (λ (k : ℕ). get_or (bases_of (x ∷ s)) k 0) {x = 2 * suc i} {y = suc (suc (2 * i))} (omega arith) ∙ first_base s i

pub second_base : (s : List ℕ) (i : ℕ) → get_or (bases_of s) (2 * i + 1) 0 ≡ get_or s i 0 % 16
unfolding bases_of
second_base [] i = refl
second_base (x ∷ s) zero = refl
second_base (x ∷ s) (suc i) = ap (λ (k : ℕ). get_or (bases_of (x ∷ s)) k 0) {x = 2 * suc i + 1} {y = suc (suc (2 * i + 1))} (omega arith) ∙ second_base s i

-- byte j of packed bases: a base that is not there counts 0
pub packed_byte : (bs : List ℕ) (j : ℕ) → get_or (packed bs) j 0 ≡ get_or bs (2 * j) 0 * 16 + get_or bs (2 * j + 1) 0
unfolding packed
packed_byte [] j = refl
packed_byte (h ∷ []) zero = omega arith
packed_byte (h ∷ []) (suc j) = sym
    (ap (λ (k : ℕ). get_or (h ∷ []) k 0 * 16 + get_or (h ∷ []) (2 * suc j + 1) 0) {x = 2 * suc j} {y = suc (2 * j + 1)} (omega arith)
    ∙ ap (λ (k : ℕ). 0 * 16 + get_or (h ∷ []) k 0) {x = 2 * suc j + 1} {y = suc (2 * j + 2)} (omega arith))
packed_byte (h ∷ (l ∷ bs)) zero = refl
packed_byte (h ∷ (l ∷ bs)) (suc j) = packed_byte bs j ∙ sym
    (ap (λ (k : ℕ). get_or (h ∷ (l ∷ bs)) k 0 * 16 + get_or (h ∷ (l ∷ bs)) (2 * suc j + 1) 0) {x = 2 * suc j} {y = suc (suc (2 * j))} (omega arith)
    ∙ ap (λ (k : ℕ). get_or bs (2 * j) 0 * 16 + get_or (h ∷ (l ∷ bs)) k 0) {x = 2 * suc j + 1} {y = suc (suc (2 * j + 1))} (omega arith))

-- the bases of the first k bytes
pub bases_take : (k : ℕ) (s : List ℕ) → bases_of (take k s) ≡ take (2 * k) (bases_of s)
unfolding bases_of
bases_take zero s = refl
bases_take (suc k) [] = sym (take-nil (2 * suc k))
bases_take (suc k) (x ∷ s) =
    ap (λ (l : List ℕ). (x / 16 % 16) ∷ ((x % 16) ∷ l)) (bases_take k s)
    ∙ ap (λ (n : ℕ). take n (bases_of (x ∷ s))) {x = suc (suc (2 * k))} {y = 2 * suc k} (omega arith)

-- a base of a record's bytes, by the byte that holds it
module _ (s : List ℕ) (area i q : ℕ) where
  pub first-at : i ≡ 2 * q → get_or s (area + q) 0 / 16 % 16 ≡ get_or (bases_of (drop area s)) i 0
  first-at e =
      ap (λ (x : ℕ). x / 16 % 16) (sym (get_or-drop area s q 0)) ∙ sym (first_base (drop area s) q) ∙ ap (λ (k : ℕ). get_or (bases_of (drop area s)) k 0) (sym e)

  pub second_at : i ≡ 2 * q + 1 → get_or s (area + q) 0 % 16 ≡ get_or (bases_of (drop area s)) i 0
  second_at e =
      ap (λ (x : ℕ). x % 16) (sym (get_or-drop area s q 0)) ∙ sym (second_base (drop area s) q) ∙ ap (λ (k : ℕ). get_or (bases_of (drop area s)) k 0) (sym e)

-- byte j of n bases from base `from` on
pub byte-is : (bs : List ℕ) (from n j : ℕ) → 2 * j + 1 < n
    → get_or bs (from + 2 * j) 0 * 16 + get_or bs (from + (2 * j + 1)) 0 ≡ get_or (packed (take n (drop from bs))) j 0
byte-is bs from n j h = sym
    (packed_byte (take n (drop from bs)) j
    ∙ ap (λ (x : ℕ). x * 16 + get_or (take n (drop from bs)) (2 * j + 1) 0) (get_or-take n (drop from bs) (2 * j) 0 (omega arith) ∙ get_or-drop from bs (2 * j) 0)
    ∙ ap (λ (x : ℕ). get_or bs (from + 2 * j) 0 * 16 + x) (get_or-take n (drop from bs) (2 * j + 1) 0 h ∙ get_or-drop from bs (2 * j + 1) 0))

-- how many bytes n bases are
pub packed_size : (bs : List ℕ) (from n : ℕ) → from + n ≤ length bs → length (packed (take n (drop from bs))) ≡ (n + 1) / 2
packed_size bs from n h =
    let l = length-drop from bs in
    length_packed (take n (drop from bs)) ∙ ap (λ (k : ℕ). (k + 1) / 2) (length-take-le n (drop from bs) (omega arith))

-- an odd last base
pub packed_last : (k : ℕ) (bs : List ℕ) → 2 * k < length bs → packed (take (2 * k + 1) bs) ≡ packed (take (2 * k) bs) ++ (get_or bs (2 * k) 0 * 16 ∷ [])
unfolding packed
packed_last k [] h = absurd (omega arith)
packed_last zero (x ∷ bs) h = refl
packed_last (suc k) (x ∷ []) h = absurd (no h)
  where
    no : 2 * suc k < 1 → ⊥
    no h = omega arith
packed_last (suc k) (x ∷ (y ∷ bs)) h =
    ap (λ (n : ℕ). packed (take n (x ∷ (y ∷ bs)))) {x = 2 * suc k + 1} {y = suc (suc (2 * k + 1))} (omega arith)
    ∙ ap (λ (l : List ℕ). (x * 16 + y) ∷ l) (packed_last k bs (omega arith))
    ∙ ap (λ (n : ℕ). packed (take n (x ∷ (y ∷ bs))) ++ (get_or (x ∷ (y ∷ bs)) n 0 * 16 ∷ [])) {x = suc (suc (2 * k))} {y = 2 * suc k} (omega arith)

-- from an odd base on: the second base of a byte and the first of the next
pub shifted_byte : (s : List ℕ) (area from n j : ℕ) → from % 2 ≡ 1 → 2 * j + 1 < n
    → get_or s (area + from / 2 + j) 0 % 16 * 16 + get_or s (area + from / 2 + j + 1) 0 / 16 % 16 ≡ get_or (packed (take n (drop from (bases_of (drop area s))))) j 0
shifted_byte s area from n j o h =
    ap (λ (k : ℕ). get_or s k 0 % 16 * 16 + get_or s (area + from / 2 + j + 1) 0 / 16 % 16) {x = area + from / 2 + j} {y = area + (from / 2 + j)} (omega arith)
    ∙ ap (λ (x : ℕ). x * 16 + get_or s (area + from / 2 + j + 1) 0 / 16 % 16) (second_at s area (from + 2 * j) (from / 2 + j) (omega arith))
    ∙ ap (λ (k : ℕ). get_or (bases_of (drop area s)) (from + 2 * j) 0 * 16 + get_or s k 0 / 16 % 16) {x = area + from / 2 + j + 1} {y = area + (from / 2 + j + 1)} (omega arith)
    ∙ ap (λ (x : ℕ). get_or (bases_of (drop area s)) (from + 2 * j) 0 * 16 + x) (first-at s area (from + (2 * j + 1)) (from / 2 + j + 1) (omega arith))
    ∙ byte-is (bases_of (drop area s)) from n j h

-- how many bases stand behind a place
pub length_behind : (s : List ℕ) (area : ℕ) → length (bases_of (drop area s)) ≡ 2 * (length s - area)
length_behind s area = length_bases (drop area s) ∙ ap (λ (k : ℕ). 2 * k) (length-drop area s)

-- from an even base on: the bytes as they stand
pub aligned : (s : List ℕ) (area from k : ℕ) → ((i : ℕ) → get_or s i 0 < 256) → from % 2 ≡ 0 → area + (from + 2 * k) / 2 ≤ length s
    → take k (drop (area + from / 2) s) ≡ packed (take (2 * k) (drop from (bases_of (drop area s))))
aligned s area from k bytes o h =
    let bs : List ℕ = bases_of (drop area s) in
    let l : length bs ≡ 2 * (length s - area) = length_behind s area in
    let m : length (drop (area + from / 2) s) ≡ length s - (area + from / 2) = length-drop (area + from / 2) s in
    let n : length (take k (drop (area + from / 2) s)) ≡ k = length-take-le k (drop (area + from / 2) s) (omega arith) in
    let p : length (packed (take (2 * k) (drop from bs))) ≡ (2 * k + 1) / 2 = packed_size bs from (2 * k) (omega arith) in
    ext_get_or 0 (take k (drop (area + from / 2) s)) (packed (take (2 * k) (drop from bs))) (omega arith)
    (λ i g. each i (omega arith))
  where
    each : (i : ℕ) → i < k → get_or (take k (drop (area + from / 2) s)) i 0 ≡ get_or (packed (take (2 * k) (drop from (bases_of (drop area s))))) i 0
    each i g =
        let bs : List ℕ = bases_of (drop area s) in
        let x : ℕ = get_or s (area + (from / 2 + i)) 0 in
        let b = bytes (area + (from / 2 + i)) in
        let r : x ≡ x / 16 % 16 * 16 + x % 16 = omega arith in
        get_or-take k (drop (area + from / 2) s) i 0 g
        ∙ get_or-drop (area + from / 2) s i 0
        ∙ ap (λ (n : ℕ). get_or s n 0) {x = area + from / 2 + i} {y = area + (from / 2 + i)} (omega arith)
        ∙ r
        ∙ ap (λ (y : ℕ). y * 16 + x % 16) (first-at s area (from + 2 * i) (from / 2 + i) (omega arith))
        ∙ ap (λ (y : ℕ). get_or bs (from + 2 * i) 0 * 16 + y) (second_at s area (from + (2 * i + 1)) (from / 2 + i) (omega arith))
        ∙ byte-is bs from (2 * k) i (omega arith)

-- a base is a number below 16
pub base_below : (s : List ℕ) (i : ℕ) → get_or (bases_of s) i 0 < 16
unfolding bases_of
base_below [] i = omega arith
base_below (x ∷ s) zero = omega arith
base_below (x ∷ s) (suc zero) = omega arith
base_below (x ∷ s) (suc (suc i)) = base_below s i

-- a list of bases, unpacked from its bytes
pub unpacked : (bs : List ℕ) → ((i : ℕ) → get_or bs i 0 < 16) → take (length bs) (bases_of (packed bs)) ≡ bs
unfolding bases_of packed
unpacked [] w = refl
unpacked (h ∷ []) w = let a = w 0 in ap (λ (x : ℕ). x ∷ []) {x = h * 16 / 16 % 16} {y = h} (omega arith)
unpacked (h ∷ (l ∷ bs)) w =
    let a : h < 16 = w 0 in
    let b : l < 16 = w 1 in
    ap (λ (x : ℕ). x ∷ (((h * 16 + l) % 16) ∷ take (length bs) (bases_of (packed bs)))) {x = (h * 16 + l) / 16 % 16} {y = h} (omega arith)
    ∙ ap (λ (x : ℕ). h ∷ (x ∷ take (length bs) (bases_of (packed bs)))) {x = (h * 16 + l) % 16} {y = l} (omega arith)
    ∙ ap (λ (r : List ℕ). h ∷ (l ∷ r)) (unpacked bs (λ i. w (suc (suc i))))

module _ (s : List ℕ) (from n : ℕ) (fits : from + n ≤ length (bases_of s)) where
  -- the bases that were written
  part_below : (i : ℕ) → get_or (take n (drop from (bases_of s))) i 0 < 16
  part_below i = below-take n (drop from (bases_of s)) i (λ j. let g = get_or-drop from (bases_of s) j 0 in let b = base_below s (from + j) in omega arith)
    where
      below-take : (n : ℕ) (l : List ℕ) (i : ℕ) → ((j : ℕ) → get_or l j 0 < 16) → get_or (take n l) i 0 < 16
      below-take zero l i w = omega arith
      below-take (suc n) [] i w = omega arith
      below-take (suc n) (x ∷ l) zero w = w 0
      below-take (suc n) (x ∷ l) (suc i) w = below-take n l i (λ j. w (suc j))

  pub read_back : take n (bases_of (packed (take n (drop from (bases_of s))))) ≡ take n (drop from (bases_of s))
  read_back =
      let l : length (drop from (bases_of s)) ≡ length (bases_of s) - from = length-drop from (bases_of s) in
      ap (λ (k : ℕ). take k (bases_of (packed (take n (drop from (bases_of s)))))) (sym (length-take-le n (drop from (bases_of s)) (omega arith)))
      ∙ unpacked (take n (drop from (bases_of s))) part_below

-- an odd last half is 0
pub last_half : (k : ℕ) (bs : List ℕ) → length bs ≡ 2 * k + 1 → get_or (bases_of (packed bs)) (2 * k + 1) 0 ≡ 0
unfolding bases_of packed
last_half k [] e = refl
last_half zero (h ∷ []) e = omega arith
last_half zero (h ∷ (l ∷ bs)) e = absurd (omega arith)
last_half (suc k) (h ∷ []) e = absurd (omega arith)
last_half (suc k) (h ∷ (l ∷ bs)) e =
    ap (λ (i : ℕ). get_or (bases_of (packed (h ∷ (l ∷ bs)))) i 0) {x = 2 * suc k + 1} {y = suc (suc (2 * k + 1))} (omega arith) ∙ last_half k bs (omega arith)
