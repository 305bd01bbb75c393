-- The three ways of a read to lie to its mate, each from its tests: the definition's own, on either side.
use Prim.Native.Nat.{ℕ, ◌+◌, ◌-◌, ◌≤◌}
use mathlib.Core.Path.{◌≡◌, refl, sym, ap, ◌∙◌}
use mathlib.Core.Bool.{Bool, true, false, not, cond}
use mathlib.Core.List.{List, reverse}
use native.Mathlib.Omega.{arith}
use lib.IntN.{ℤ}
use lib.Signed.{lt_z}
use mir.Syntax.{w32}
use mir.Val.{SFits}
use borrow.Author.Tests.{ltb-true, ltb-false}
use Rattle.lists.specs.Lists.{facing, sum_of}
use Rattle.signed.specs.Whole.{raised}
use Rattle.sam.specs.Op.{ref_len}
use Rattle.overhang_rules.specs.Reach.{soft_clip, up_to}
use Rattle.overhang_rules.specs.Overhang.{end_at, end_of, soft_start, soft_end, later_of, forward_overhang, reverse_overhang, overhang_of}
use Rattle.overhang_rules.specs.InnerSides.{short_of, clip_gap, meet_at, past_of, room_past, Free}
use Rattle.overhang_rules.proofs.Places.{raised_lt}
use Rattle.overhang_rules.proofs.Mirror.{past_left, past_right}

pub differ : {r a b x y : ℕ} → r ≡ a - b → a ≡ x → b ≡ y → r ≡ x - y
differ e p q = cc

-- of equal positions
pub of_places : (b : Bool) (xs ys : List ℕ) {p q m l : ℤ} {n : ℕ} → n ≡ overhang_of b p xs m ys → p ≡ q → m ≡ l → n ≡ overhang_of b q xs l ys
of_places b xs ys e f g = cc

-- the extent of a list from p on, by its n reference bases
pub lies : {p q e : ℤ} {n : ℕ} (xs : List ℕ) → q ≡ p → e ≡ end_at p n → n ≡ sum_of ref_len xs → e ≡ end_of q xs
lies xs f g h = rw (f, g, h) refl

-- the later of two positions is at or after each
later_over : (p m t : ℤ) → SFits w32 p → SFits w32 m → t ≡ later_of p m → (raised p ≤ raised t) × (raised m ≤ raised t)
later_over p m t f g z = rw z (go (lt_z p m) refl)
  where
    go : (c : Bool) → lt_z p m ≡ c → (raised p ≤ raised (cond c m p)) × (raised m ≤ raised (cond c m p))
    go true e = (omega (arith, ltb-true (raised p) (raised m) (sym (raised_lt p m f g) ∙ e)), omega arith)
    go false e = (omega arith, omega (arith, ltb-false (raised p) (raised m) (sym (raised_lt p m f g) ∙ e)))

module _ (p m : ℤ) (xs ys : List ℕ) (e f : ℤ) (h : e ≡ end_of p xs) (k : f ≡ end_of m ys) (r : ℕ) where
  pub short : (b : Bool) (g : ℕ) → short_of b p e m f ≡ true → g ≡ clip_gap b p e m f (soft_clip b ys) → r ≡ soft_clip b xs - g → r ≡ overhang_of b p xs m ys
  unfolding overhang_of forward_overhang reverse_overhang soft_start soft_end
  short true g t z q = simp (sym h, sym k, t, sym z) q
  short false g t z q = simp (sym h, sym k, t, sym z) q

  pub away : (b : Bool) → short_of b p e m f ≡ false → short_of (not b) p e m f ≡ true → r ≡ 0 → r ≡ overhang_of b p xs m ys
  unfolding overhang_of forward_overhang reverse_overhang
  away true t u q = simp (sym h, sym k, t, u) q
  away false t u q = simp (sym h, sym k, t, u) q

  module _ (b : Bool) (t : ℤ) (u : short_of b p e m f ≡ false) (v : short_of (not b) p e m f ≡ false) (z : t ≡ meet_at b p e m f) where
    pub shared : r ≡ past_of b t p xs - past_of b t m ys → r ≡ overhang_of b p xs m ys
    unfolding overhang_of forward_overhang reverse_overhang
    shared = go b u v z
      where
        go : (b : Bool) → short_of b p e m f ≡ false → short_of (not b) p e m f ≡ false → t ≡ meet_at b p e m f → r ≡ past_of b t p xs - past_of b t m ys → r ≡ overhang_of b p xs m ys
        go true u v z q = simp (sym h, sym k, u, v, sym z) q
        go false u v z q = simp (sym h, sym k, u, v, sym z) q

    -- with no position clamped, by the n and l reference bases of each
    pub free : (n l : ℕ) → n ≡ sum_of ref_len xs → l ≡ sum_of ref_len ys → SFits w32 t → SFits w32 p → SFits w32 m → Free b t p n × Free b t m l
        → r ≡ up_to 0 (facing b xs) (room_past b t p n) - up_to 0 (facing b ys) (room_past b t m l) → r ≡ overhang_of b p xs m ys
    free n l i j a c d F q = shared (sides b z F.0 F.1 q)
      where
        sides : (b : Bool) → t ≡ meet_at b p e m f → Free b t p n → Free b t m l
            → r ≡ up_to 0 (facing b xs) (room_past b t p n) - up_to 0 (facing b ys) (room_past b t m l) → r ≡ past_of b t p xs - past_of b t m ys
        sides true z F G q =
            let o = later_over p m t c d z in
            differ q (sym (past_left t p xs a c F.before_last o.0)) (sym (past_left t m ys a d G.before_last o.1))
        sides false z F G q =
            let u = F.reaches refl in
            let v = G.reaches refl in
            differ q
            (ap (λ (k : ℕ). up_to 0 (reverse xs) (raised p + k - (raised t + 1))) i ∙ sym (past_right t p xs a c F.before_last (omega arith)))
            (ap (λ (k : ℕ). up_to 0 (reverse ys) (raised m + k - (raised t + 1))) j ∙ sym (past_right t m ys a d G.before_last (omega arith)))
