-- Over every min_shift and depth: on 0 ≤ beg < end ≤ 2^(min_shift + 3 * depth) the rule finds the smallest bin that holds the region, there is one such bin, and bins that meet
-- the region are numbered level by level.
use Prim.Native.Nat.{ℕ, zero, suc, ◌+◌, ◌-◌, ◌*◌, ◌/◌, ◌≤◌, ◌<◌, ◌^◌}
use mathlib.Core.Path.{◌≡◌, refl, sym, ap, ◌∙◌, subst}
use mathlib.Core.Bool.{Bool, true, false, cond}
use native.Mathlib.Omega.{arith}
use native.Mathlib.Nat.{le_antisymm, lt_of_not-le, le_of_suc-le-suc, suc-mul, mul-le-mul_right, div-add-mod', mod-lt, le-div_iff_mul-le, div-lt_iff_lt-mul, lt-div-mul-add}
use borrow.Author.Tests.{eqb-true, eqb-false}
use lib.Arith.{digits_div, le_of_le-suc-ne}
use lib.Dec.{eqb}
use lib.Pow.{pow_pos, pow_mono, pow-lt, shr_lt}
use Rattle.sam.specs.Bins.{first_of, size_of, Holds, Meets, MeetingBin, SmallestBin, bin_up}
use Rattle.sam.proofs.BinLevels.{eight, seven, first_next, first_mono}

-- a place of the bin of size m at i
placed : (m i x : ℕ) → i * m ≤ x → x < i * m + m → x / m ≡ i
placed m i x a b =
    let e : i * m + (x - i * m) ≡ x = omega arith in
    ap (λ (y : ℕ). y / m) (sym e) ∙ digits_div i (omega arith)

module _ (m beg end : ℕ) (pm : 0 < m) (h : beg < end) where
  -- the ends agree after division by m exactly where one bin of size m holds the region
  holds_same : beg / m ≡ (end - 1) / m → Holds m (beg / m) beg end
  holds_same e =
      let p = div-add-mod' beg m in
      let q = div-add-mod' (end - 1) m in
      let r = mod-lt (end - 1) pm in
      let s = ap (λ (x : ℕ). x * m) e in
      record { from = omega arith; to = omega arith }

  same_holds : (i : ℕ) → Holds m i beg end → beg / m ≡ (end - 1) / m
  same_holds i k = placed m i beg k.from (omega (arith, k.to)) ∙ sym (placed m i (end - 1) (omega (arith, k.from)) (omega (arith, k.to)))

  -- a bin of size m meets the region exactly where its place lies from that of the first place to that of the last
  pub between_meets : (i : ℕ) → beg / m ≤ i → i ≤ (end - 1) / m → Meets m i beg end
  between_meets i a b =
      let p = (le-div_iff_mul-le pm).0 b in
      let q = lt-div-mul-add {a = beg} {b = m} pm in
      let r = mul-le-mul_right m a in
      record { starts = omega arith; ends = omega arith }

  pub meets_between : (i : ℕ) → Meets m i beg end → (beg / m ≤ i) × (i ≤ (end - 1) / m)
  meets_between i k =
      let s = k.starts in
      let e = k.ends in
      let f : suc i * m ≡ i * m + m = suc-mul i m in
      let a : beg / m < suc i = (div-lt_iff_lt-mul pm).1 (omega arith) in
      (omega arith, (le-div_iff_mul-le pm).1 (omega arith))

-- a finer level has no larger bins
finer : (s d l m : ℕ) → m ≤ l → size_of s d l ≤ size_of s d m
finer s d l m h = pow_mono {i = s + 3 * (d - l)} {j = s + 3 * (d - m)} (omega arith)

module _ (s d beg end : ℕ) (h : beg < end) (g : end ≤ 2 ^ (s + 3 * d)) where
  -- no level finer than l holds the region
  abbrev Left : ℕ → Type 0
  Left l = (m i : ℕ) → m ≤ d → Holds (size_of s d m) i beg end → m ≤ l

  abbrev Agree : ℕ → Bool → Type 0
  Agree l t = eqb (beg / size_of s d l) ((end - 1) / size_of s d l) ≡ t

  coarser : (l : ℕ) → Agree (suc l) false → Left (suc l) → Left l
  coarser l a left m i k q =
      le_of_le-suc-ne (left m i k q)
      (λ e. eqb-false _ _ a (same_holds (size_of s d (suc l)) beg end (pow_pos (s + 3 * (d - suc l))) h i (subst (λ (n : ℕ). Holds (size_of s d n) i beg end) e q)))

  -- the rule, begun at such a level, finds the smallest bin
  from : (l : ℕ) → l ≤ d → Left l → SmallestBin s d beg end (bin_up l (s + 3 * (d - l)) beg (end - 1))
  unfolding bin_up first_of
  from zero k left =
      let e : s + 3 * d ≡ s + 3 * (d - 0) = omega arith in
      let f : end ≤ 2 ^ (s + 3 * (d - 0)) = subst (λ (n : ℕ). end ≤ 2 ^ n) e g in
      record { level = 0; place = 0; known = k; number = refl; holds = record { from = omega arith; to = omega arith }; least = λ m i n q. finer s d 0 m (left m i n q) }
  from (suc l) k left = go (eqb (beg / size_of s d (suc l)) ((end - 1) / size_of s d (suc l))) refl (from l (omega arith))
    where
      go : (t : Bool) → Agree (suc l) t → (Left l → SmallestBin s d beg end (bin_up l (s + 3 * (d - l)) beg (end - 1)))
          → SmallestBin s d beg end (cond t (first_of (suc l) + beg / size_of s d (suc l)) (bin_up l (s + 3 * (d - suc l) + 3) beg (end - 1)))
      go true a next =
          record {
            level = suc l;
            place = beg / size_of s d (suc l);
            known = k;
            number = refl;
            holds = holds_same (size_of s d (suc l)) beg end (pow_pos (s + 3 * (d - suc l))) h (eqb-true _ _ a);
            least = λ m i n q. finer s d (suc l) m (left m i n q);
          }
      go false a next =
          let e : s + 3 * (d - l) ≡ s + 3 * (d - suc l) + 3 = omega arith in
          subst (λ (n : ℕ). SmallestBin s d beg end (bin_up l n beg (end - 1))) e (next (coarser l a left))

  pub smallest : SmallestBin s d beg end (bin_up d s beg (end - 1))
  smallest =
      let e : s + 3 * (d - d) ≡ s = omega arith in
      subst (λ (n : ℕ). SmallestBin s d beg end (bin_up d n beg (end - 1))) e (from d (omega arith) (λ m i k q. k))

  -- it meets the region, which has a place
  pub holds_meets : (bin : ℕ) → SmallestBin s d beg end bin → MeetingBin s d beg end bin
  holds_meets bin k =
      let a = k.holds.from in
      let b = k.holds.to in
      record { level = k.level; place = k.place; known = k.known; number = k.number; meets = record { starts = omega arith; ends = omega arith } }

  -- a level's numbers that meet the region are below the next level's
  pub level_below : (bin : ℕ) (p : MeetingBin s d beg end bin) → bin < first_of (suc p.level)
  level_below bin p =
      let l = p.level in
      let k = p.known in
      let e : s + 3 * d ≡ 3 * l + (s + 3 * (d - l)) = omega arith in
      let w : end ≤ 2 ^ (3 * l + (s + 3 * (d - l))) = subst (λ (n : ℕ). end ≤ 2 ^ n) e g in
      let i = (meets_between (size_of s d l) beg end (pow_pos (s + 3 * (d - l))) h p.place p.meets).1 in
      let q = shr_lt {n = end - 1} (3 * l) (s + 3 * (d - l)) (omega arith) in
      let n = p.number in
      let f = first_next l in
      omega arith

  -- so a coarser level's are below a finer one's
  pub coarser_first : (a b : ℕ) (p : MeetingBin s d beg end a) (q : MeetingBin s d beg end b) → p.level < q.level → a < b
  coarser_first a b p q l =
      let x = level_below a p in
      let y = first_mono l in
      let n = q.number in
      omega arith

  -- "Bins are below (8^(depth+1) - 1) / 7"
  pub bin_most : (bin : ℕ) → MeetingBin s d beg end bin → bin < (8 ^ suc d - 1) / 7
  bin_most bin p =
      let x = level_below bin p in
      let k = p.known in
      let y = first_mono {l = suc p.level} {m = suc d} (omega arith) in
      let e = eight (suc d) in
      let f = seven (suc d) in
      omega arith

-- there is one smallest bin
no_finer : (s d beg end a b : ℕ) (p : SmallestBin s d beg end a) (q : SmallestBin s d beg end b) → q.level ≤ p.level
no_finer s d beg end a b p q = le_of_suc-le-suc (lt_of_not-le (λ (l : p.level < q.level). no l))
  where
    no : p.level < q.level → ⊥
    no l =
        let k = q.known in
        let x = pow-lt {i = s + 3 * (d - q.level)} {j = s + 3 * (d - p.level)} (omega arith) in
        let y = p.least q.level q.place q.known q.holds in
        omega arith

pub unique : (s d beg end a b : ℕ) → beg < end → SmallestBin s d beg end a → SmallestBin s d beg end b → a ≡ b
unique s d beg end a b h p q =
    let e : p.level ≡ q.level = le_antisymm (no_finer s d beg end b a q p) (no_finer s d beg end a b p q) in
    let i = at (size_of s d p.level) p.place p.holds in
    let j = at (size_of s d q.level) q.place q.holds in
    let f : p.place ≡ q.place = sym i ∙ ap (λ (l : ℕ). beg / size_of s d l) e ∙ j in
    p.number ∙ ap (λ (l : ℕ). first_of l + p.place) e ∙ ap (λ (n : ℕ). first_of q.level + n) f ∙ sym q.number
  where
    at : (m i : ℕ) → Holds m i beg end → beg / m ≡ i
    at m i k = placed m i beg k.from (omega (arith, k.to))
