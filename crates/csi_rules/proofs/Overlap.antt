-- Over every min_shift and depth: the list has exactly the bins whose interval meets the region, each once, level by level.
use Prim.Native.Nat.{ℕ, zero, suc, ◌+◌, ◌-◌, ◌*◌, ◌/◌, ◌≤◌, ◌<◌, ◌^◌}
use mathlib.Core.Path.{◌≡◌, refl, sym, ap, subst}
use mathlib.Core.Logic.{⊎_elim}
use mathlib.Core.List.Memᴰ
use mathlib.Core.List.{List, [], ◌∷◌, ◌++◌, Memᴰ}
use native.Mathlib.Omega.{arith}
use native.Mathlib.Nat.{div-eq_of_lt, eq-or-lt_of_le, lt_of_lt_of_le}
use lib.Pow.{pow_pos, shr_lt, shr_mono}
use Rattle.lists.specs.Lists.{Each}
use Rattle.lists.proofs.EachLaws.{each_append, each_map}
use Rattle.sam.specs.Bins.{first_of, size_of, Meets, MeetingBin, Ascending, AllBins}
use Rattle.sam.proofs.BinLevels.{first_next, first_mono}
use Rattle.sam.proofs.BinLaws.{between_meets, meets_between}
use Rattle.csi_rules.specs.Csi.{numbers_from, level_bins, bins_up}

-- ---- numbers from a on

each_from : (P : ℕ → Type 0) (a n : ℕ) → ((y : ℕ) → a ≤ y → y < a + n → P y) → Each P (numbers_from a n)
unfolding numbers_from
each_from P a zero f = tt
each_from P a (suc n) f = (f a (omega arith) (omega arith), each_from P (suc a) n (λ y h k. f y (omega arith) (omega arith)))

has_from : (a n y : ℕ) → a ≤ y → y < a + n → Memᴰ y (numbers_from a n)
unfolding numbers_from
has_from a zero y h k = absurd (omega arith)
has_from a (suc n) y h k =
    ⊎_elim
    (λ (e : a ≡ y). Memᴰ.head (sym e))
    (λ (l : a < y). Memᴰ.tail (has_from (suc a) n y l (omega arith)))
    (eq-or-lt_of_le h)

ascends_from : (a n : ℕ) → Ascending (numbers_from a n)
unfolding numbers_from Ascending
ascends_from a zero = tt
ascends_from a (suc n) = (each_from (λ (y : ℕ). a < y) (suc a) n (λ y h k. h), ascends_from (suc a) n)

-- two ascending lists, the one below m, the other from m on
joined : (m : ℕ) (xs ys : List ℕ) → Ascending xs → Ascending ys → Each (λ (x : ℕ). x < m) xs → Each (λ (y : ℕ). m ≤ y) ys → Ascending (xs ++ ys)
unfolding Ascending
joined m [] ys p q a b = q
joined m (x ∷ xs) ys p q a b = (
  each_append (λ (y : ℕ). x < y) xs ys p.0 (each_map (λ (y : ℕ). m ≤ y) (λ (y : ℕ). x < y) (λ y h. lt_of_lt_of_le a.0 h) ys b),
  joined m xs ys p.1 q a.1 b,
)

-- ---- order

module _ (beg last : ℕ) (h : beg ≤ last) where
  -- the list ascends, and the numbers of the levels up to l are below the next level's
  ordered : (l shift : ℕ) → last < 2 ^ (3 * l + shift) → Ascending (bins_up l shift beg last) × Each (λ (y : ℕ). y < first_of (suc l)) (bins_up l shift beg last)
  unfolding bins_up Ascending first_of
  ordered zero shift k = ((tt, tt), (omega arith, tt))
  ordered (suc l) shift k =
      let coarser = bins_up l (shift + 3) beg last in
      let here = level_bins (suc l) shift beg last in
      let e : 3 * suc l + shift ≡ 3 * l + (shift + 3) = omega arith in
      let p = ordered l (shift + 3) (subst (λ (n : ℕ). last < 2 ^ n) e k) in
      let o = first_mono {l = suc l} {m = suc (suc l)} (omega arith) in
      let q = shr_lt {n = last} (3 * suc l) shift k in
      let m = shr_mono {a = beg} {b = last} shift h in
      let f = first_next (suc l) in (
        joined (first_of (suc l)) coarser here p.0 (ascends_from _ _) p.1 (each_from (λ (y : ℕ). first_of (suc l) ≤ y) _ _ (λ y i j. omega arith)),
        each_append (λ (y : ℕ). y < first_of (suc (suc l))) coarser here
            (each_map (λ (y : ℕ). y < first_of (suc l)) (λ (y : ℕ). y < first_of (suc (suc l))) (λ y i. lt_of_lt_of_le i o) coarser p.1)
            (each_from (λ (y : ℕ). y < first_of (suc (suc l))) _ _ (λ y i j. omega arith)),
      )

-- ---- which bins

module _ (s d beg end : ℕ) (h : beg < end) (g : end ≤ 2 ^ (s + 3 * d)) where
  coarsest : end ≤ 2 ^ (s + 3 * (d - 0))
  coarsest = let e : s + 3 * d ≡ s + 3 * (d - 0) = omega arith in subst (λ (n : ℕ). end ≤ 2 ^ n) e g

  -- each of the list meets the region
  meet : (l : ℕ) → l ≤ d → Each (MeetingBin s d beg end) (bins_up l (s + 3 * (d - l)) beg (end - 1))
  unfolding bins_up first_of
  meet zero k =
      let f = coarsest in
      (record { level = 0; place = 0; known = k; number = refl; meets = record { starts = omega arith; ends = omega arith } }, tt)
  meet (suc l) k =
      let e : s + 3 * (d - l) ≡ s + 3 * (d - suc l) + 3 = omega arith in
      each_append (MeetingBin s d beg end) (bins_up l (s + 3 * (d - suc l) + 3) beg (end - 1)) (level_bins (suc l) (s + 3 * (d - suc l)) beg (end - 1))
      (subst (λ (n : ℕ). Each (MeetingBin s d beg end) (bins_up l n beg (end - 1))) e (meet l (omega arith)))
      (each_from (MeetingBin s d beg end) _ _ here)
    where
      here : (y : ℕ) → first_of (suc l) + beg / size_of s d (suc l) ≤ y → y < first_of (suc l) + beg / size_of s d (suc l) + ((end - 1) / size_of s d (suc l) - beg / size_of s d (suc l) + 1) → MeetingBin s d beg end y
      here y a b =
          let o = shr_mono {a = beg} {b = end - 1} (s + 3 * (d - suc l)) (omega arith) in
          record {
            level = suc l;
            place = y - first_of (suc l);
            known = k;
            number = omega arith;
            meets = between_meets (size_of s d (suc l)) beg end (pow_pos (s + 3 * (d - suc l))) h (y - first_of (suc l)) (omega arith) (omega arith);
          }

  -- each bin that meets it is listed
  all : (l : ℕ) → l ≤ d → (m i : ℕ) → m ≤ l → Meets (size_of s d m) i beg end → Memᴰ (first_of m + i) (bins_up l (s + 3 * (d - l)) beg (end - 1))
  unfolding bins_up first_of
  all zero k zero i n q =
      let f = coarsest in
      let p = (meets_between (size_of s d 0) beg end (pow_pos (s + 3 * (d - 0))) h i q).1 in
      let z : (end - 1) / size_of s d 0 ≡ 0 = div-eq_of_lt (omega arith) in
      let r : 0 + i ≡ 0 = omega arith in
      Memᴰ.head r
  all zero k (suc m) i n q = absurd (omega arith)
  all (suc l) k m i n q =
      let e : s + 3 * (d - l) ≡ s + 3 * (d - suc l) + 3 = omega arith in
      ⊎_elim
      (λ (c : m ≡ suc l). Memᴰ.cast (ap (λ (x : ℕ). first_of x + i) c) (Memᴰ.append_right (bins_up l (s + 3 * (d - suc l) + 3) beg (end - 1)) (here (subst (λ (x : ℕ). Meets (size_of s d x) i beg end) c q))))
      (λ (c : m < suc l). Memᴰ.append_left _ (subst (λ (x : ℕ). Memᴰ (first_of m + i) (bins_up l x beg (end - 1))) e (all l (omega arith) m i (omega arith) q)))
      (eq-or-lt_of_le n)
    where
      here : Meets (size_of s d (suc l)) i beg end → Memᴰ (first_of (suc l) + i) (level_bins (suc l) (s + 3 * (d - suc l)) beg (end - 1))
      here q =
          let p = meets_between (size_of s d (suc l)) beg end (pow_pos (s + 3 * (d - suc l))) h i q in
          has_from _ _ _ (omega arith) (omega arith)

  pub all_bins : AllBins s d beg end (bins_up d s beg (end - 1))
  all_bins =
      let e : s + 3 * (d - d) ≡ s = omega arith in
      let f : s + 3 * d ≡ 3 * d + s = omega arith in
      let w : end ≤ 2 ^ (3 * d + s) = subst (λ (n : ℕ). end ≤ 2 ^ n) f g in
      record {
        meet = subst (λ (n : ℕ). Each (MeetingBin s d beg end) (bins_up d n beg (end - 1))) e (meet d (omega arith));
        all = λ bin q. Memᴰ.cast q.number (subst (λ (n : ℕ). Memᴰ (first_of q.level + q.place) (bins_up d n beg (end - 1))) e (all d (omega arith) q.level q.place q.known q.meets));
        once = (ordered beg (end - 1) (omega arith) d s (omega arith)).0;
      }
