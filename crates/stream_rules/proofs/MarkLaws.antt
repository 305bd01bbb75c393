-- The mark is told by the first five bytes; behind it alone no record is counted.
use Prim.Native.Nat.{ℕ, suc, ◌+◌, ◌*◌, ◌≤◌}
use mathlib.Core.Path.{◌≡◌, refl, sym}
use mathlib.Core.Bool.{Bool, true, false, cond, ◌&&◌}
use mathlib.Core.List.{List, [], ◌∷◌, ◌++◌}
use native.Mathlib.Omega.{arith}
use lib.Dec.{ltb, eqb}
use lib.ListN.{length, length-append, get_or-append}
use borrow.Author.Tests.{le-ltb, ltb-false, eqb-true, eq-eqb, ne_eqb}
use Rattle.std.specs.List.{starts_with}
use Rattle.std.proofs.Common.{rules}
use Rattle.lists.proofs.Absurd.{never}
use Rattle.sam.specs.Record.{byte_at, le16}
use Rattle.decimal.specs.Decimal.{decimal}
use Rattle.stream_rules.specs.Stream.{is_marked, next_in, records_line, closing, Reports.none, Prints}

-- the version, of two bytes
version : (d e : ℕ) → eqb 1 d && (eqb 0 e && true) ≡ eqb (d + 256 * e) 1
version d e = go (eqb 1 d) refl (eqb 0 e) refl
  where
    go : (b : Bool) → eqb 1 d ≡ b → (c : Bool) → eqb 0 e ≡ c → b && (c && true) ≡ eqb (d + 256 * e) 1
    go true p true q = let h = eqb-true 1 d p in let k = eqb-true 0 e q in sym (eq-eqb (d + 256 * e) 1 (omega arith))
    go true p false q = sym (ne_eqb (d + 256 * e) 1 (λ h. let k : 0 ≡ e = omega arith in let z = eq-eqb 0 e k in never (cc)))
    go false p c q = sym (ne_eqb (d + 256 * e) 1 (λ h. let k : 1 ≡ d = omega arith in let z = eq-eqb 1 d k in never (cc)))

eqb_comm : (a b : ℕ) → eqb a b ≡ eqb b a
eqb_comm a b = search rules

-- its bytes stand in front
pub starts_marked : (s : List ℕ) → starts_with eqb s (67 ∷ 71 ∷ 82 ∷ 1 ∷ 0 ∷ []) ≡ is_marked s
unfolding is_marked
starts_marked [] = refl
starts_marked (a ∷ []) = search rules
starts_marked (a ∷ b ∷ []) = search rules
starts_marked (a ∷ b ∷ c ∷ []) = search rules
starts_marked (a ∷ b ∷ c ∷ d ∷ []) = search rules
starts_marked (a ∷ b ∷ c ∷ d ∷ e ∷ s) = simp (eqb_comm 67 a, eqb_comm 71 b, eqb_comm 82 c, version d e, le-ltb (suc (suc (suc (suc (suc (length s)))))) 5 (omega arith)) refl

-- it is told by the first five bytes
pub same_mark : (head ys : List ℕ) → 5 ≤ length head → is_marked (head ++ ys) ≡ is_marked head
unfolding is_marked
same_mark head ys h =
    let l = length-append head ys in
    simp (
      le-ltb (length (head ++ ys)) 5 (omega arith),
      le-ltb (length head) 5 h,
      get_or-append head ys 0 0 (omega arith),
      get_or-append head ys 0 1 (omega arith),
      get_or-append head ys 0 2 (omega arith),
      get_or-append head ys 0 3 (omega arith),
      get_or-append head ys 0 (3 + 1) (omega arith),
    )

pub long : (head : List ℕ) → is_marked head ≡ true → 5 ≤ length head
unfolding is_marked
long head e = go (ltb (length head) 5) refl e
  where
    go : (b : Bool) → ltb (length head) 5 ≡ b → cond b false (eqb (byte_at head 0) 67 && (eqb (byte_at head 1) 71 && (eqb (byte_at head 2) 82 && eqb (le16 head 3) 1))) ≡ true → 5 ≤ length head
    go true p f = never (cc)
    go false p f = ltb-false (length head) 5 p

-- of a stream that ends behind its version `records 0` is printed
pub nothing_behind : Prints (67 ∷ 71 ∷ 82 ∷ 1 ∷ 0 ∷ []) (114 ∷ 101 ∷ 99 ∷ 111 ∷ 114 ∷ 100 ∷ 115 ∷ 32 ∷ 48 ∷ 10 ∷ [])
unfolding is_marked next_in closing records_line decimal
nothing_behind = none refl
