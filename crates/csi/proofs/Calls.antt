-- What the two calls rest on: a region that is taken has what the functions of the levels ask, and the two ways of a list into lent memory.
use Prim.Native.Nat.{ℕ, ◌+◌, ◌-◌, ◌*◌, ◌≤◌, ◌<◌, ◌^◌}
use Rattle.std.specs.Prelude.{Err, Ok}
use mathlib.Core.Path.{◌≡◌, refl, sym, ap, subst, ◌∙◌}
use mathlib.Core.Bool.{Bool, true, false}
use mathlib.Core.List.{List}
use native.Mathlib.Omega.{arith}
use borrow.Author.Tests.{lt-ltb, le-ltb}
use lib.IntN.{ℤ}
use lib.ListN.{length}
use Rattle.lists.specs.Lists.{splice}
use Rattle.lists.proofs.Absurd.{never}
use Rattle.signed.specs.Whole.{natural}
use Rattle.answers.specs.Settled.{keeps}
use Rattle.answers.specs.declared.Refusal.TheVariants.{NoRoom}
use Rattle.answers.proofs.Unique.{outcome}
use Rattle.csi_rules.specs.declared.Region.{Region}
use Rattle.csi_rules.specs.Csi.{served, inside, region_of, last_place, filled}
use Rattle.csi_rules.proofs.Ranges.{levels, within}
use Rattle.csi_rules.proofs.Cases.{levels_first, region_next, taken}
use Rattle.csi_levels.specs.InnerLevels.{Sound}

-- a region that is taken
pub found : (beg end : ℤ) (s d : ℕ) (r : Region) → region_of beg end s d ≡ Ok r → Sound d s r.first r.last
found beg end s d r e = go (served s d) refl (inside s d beg end) refl
  where
    go : (t : Bool) → served s d ≡ t → (u : Bool) → inside s d beg end ≡ u → Sound d s r.first r.last
    go true p true q =
        let f = sym (taken beg end s d p q) ∙ e in
        let g : ◌≡◌ {A = Region} (record { first = natural beg; last = last_place end }) r = cc in
        let x : natural beg ≡ r.first = ap (λ (k : Region). k.first) g in
        let y : natural end - 1 ≡ r.last = ap (λ (k : Region). k.last) g in
        let v = levels s d p in
        let w = within s d beg end q in
        let k : s + 3 * d ≡ 3 * d + s = omega arith in
        let t : natural end ≤ 2 ^ (3 * d + s) = subst (λ (n : ℕ). natural end ≤ 2 ^ n) k w.1 in
        record { few = v.shallow; bits = omega arith; order = omega arith; whole = omega arith }
    go true p false q = let f = sym (region_next beg end s d p q) ∙ e in never cc
    go false p u q = let f = sym (levels_first beg end s d p) ∙ e in never cc

-- the two ways of a list into lent memory
pub filled_none : (bins out : List ℕ) → length out < length bins → filled bins out ≡ keeps (Err NoRoom) out
filled_none bins out h = simp (lt-ltb (length out) (length bins) h)

pub filled_all : (bins out now : List ℕ) (n : ℕ) → length bins ≤ length out → n ≡ length bins → now ≡ splice out 0 bins → filled bins out ≡ record { answer = Ok n; left = now }
filled_all bins out now n h e f = simp (le-ltb (length out) (length bins) h) (outcome (ap Ok e) f)
