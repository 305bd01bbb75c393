-- What is taken and what is left, by the four ways of one op; and taking in two goes.
use mathlib.Core.Path.{◌≡◌, refl, sym, ap, ◌∙◌}
use mathlib.Core.Bool.{Bool, true, false}
use mathlib.Core.List.{List, [], ◌∷◌}
use Prim.Native.Nat.{ℕ, ◌+◌, ◌-◌, ◌≤◌, ◌<◌}
use native.Mathlib.Omega.{arith}
use lib.Dec.{eqb, leb}
use borrow.Author.Tests.{le-leb, lt-leb, leb-true, leb-false, eq-eqb, ne_eqb, eqb-true, eqb-false}
use Rattle.sam.specs.Op.{len_of, code_of, op_of, ref_len}
use Rattle.ops.specs.Ops.{is_read, read_len}
use Rattle.clip_rules.specs.Clipping.{Taken, more, goes, ends, taking}
use Rattle.clip_rules.proofs.CodeLaws.{read_all, read_is, cut_read, op_len, op_code}
use Rattle.clip_rules.proofs.RuleLaws.{taken_eq, more_more, more_none, take-nil, goes_enough, goes_short}
use Rattle.clip_laws.proofs.CodeLaws.{ref_is, read_I, ref_I, cut_refs, cut_ref}

-- ---- the cases of one op

-- how a taking treats its first op: it goes, or none is wanted, or it is an insertion taken whole, or it is cut
pub data Way (n o : ℕ) : Type 0 where
  whole : goes n o ≡ true → Way n o
  none : goes n o ≡ false → n ≡ 0 → Way n o
  over : goes n o ≡ false → (n ≡ 0 → ⊥) → code_of o ≡ 1 → n < read_len o → Way n o
  cuts : goes n o ≡ false → (n ≡ 0 → ⊥) → (code_of o ≡ 1 → ⊥) → n < read_len o → Way n o

pub way : (n o : ℕ) → Way n o
way n o = go (goes n o) refl (eqb n 0) refl (eqb (code_of o) 1) refl
  where
    go : (g : Bool) → goes n o ≡ g → (z : Bool) → eqb n 0 ≡ z → (i : Bool) → eqb (code_of o) 1 ≡ i → Way n o
    go true p z q i r = whole p
    go false p true q i r = none p (eqb-true n 0 q)
    go false p false q true r = over p (eqb-false n 0 q) (eqb-true (code_of o) 1 r) (goes_short n o p (eqb-false n 0 q))
    go false p false q false r = cuts p (eqb-false n 0 q) (eqb-false (code_of o) 1 r) (goes_short n o p (eqb-false n 0 q))

module _ (n o : ℕ) (xs : List ℕ) where
  pub take_whole : goes n o ≡ true → taking (o ∷ xs) n ≡ more (read_len o) (ref_len o) (taking xs (n - read_len o))
  unfolding taking
  take_whole e = simp e

  pub take_none : goes n o ≡ false → n ≡ 0 → taking (o ∷ xs) n ≡ record { left = o ∷ xs; bases = 0; lost = 0 }
  unfolding taking ends
  take_none e z = simp (e, eq-eqb n 0 z)

  pub take_over : goes n o ≡ false → (n ≡ 0 → ⊥) → code_of o ≡ 1 → taking (o ∷ xs) n ≡ record { left = xs; bases = len_of o; lost = 0 }
  unfolding taking ends
  take_over e z q = simp (e, ne_eqb n 0 z, eq-eqb (code_of o) 1 q)

  pub take-cut : goes n o ≡ false → (n ≡ 0 → ⊥) → (code_of o ≡ 1 → ⊥) → taking (o ∷ xs) n ≡ record { left = op_of (len_of o - n) (code_of o) ∷ xs; bases = n; lost = n }
  unfolding taking ends
  take-cut e z q = simp (e, ne_eqb n 0 z, ne_eqb (code_of o) 1 q)

pub goes_some : (n o : ℕ) → (n ≡ 0 → ⊥) → read_len o ≤ n → goes n o ≡ true
unfolding goes
goes_some n o z h = simp (ne_eqb n 0 z, le-leb (read_len o) n h)

pub goes_not : (n o : ℕ) → (n ≡ 0 → ⊥) → n < read_len o → goes n o ≡ false
unfolding goes
goes_not n o z h = simp (ne_eqb n 0 z, lt-leb (read_len o) n h)

-- ---- taking in two goes

two_whole : (n m o : ℕ) (xs : List ℕ) → 0 < m → goes n o ≡ true
    → taking xs ((taking xs (n - read_len o)).bases + m) ≡ more (taking xs (n - read_len o)).bases (taking xs (n - read_len o)).lost (taking (taking xs (n - read_len o)).left m)
    → taking (o ∷ xs) (read_len o + (taking xs (n - read_len o)).bases + m) ≡ more (read_len o + (taking xs (n - read_len o)).bases) (ref_len o + (taking xs (n - read_len o)).lost) (taking (taking xs (n - read_len o)).left m)
two_whole n m o xs h g ih =
    let t = taking xs (n - read_len o) in
    let e : read_len o + t.bases + m - read_len o ≡ t.bases + m = omega arith in
    take_whole (read_len o + t.bases + m) o xs (goes_some (read_len o + t.bases + m) o (omega arith) (omega arith))
    ∙ ap (λ (k : ℕ). more (read_len o) (ref_len o) (taking xs k)) e
    ∙ ap (more (read_len o) (ref_len o)) ih
    ∙ more_more (read_len o) (ref_len o) t.bases t.lost (taking t.left m)

two_over : (m o : ℕ) (xs : List ℕ) → 0 < m → code_of o ≡ 1 → taking (o ∷ xs) (len_of o + m) ≡ more (len_of o) 0 (taking xs m)
two_over m o xs h q =
    let r = read_I o q in
    let e : len_of o + m - read_len o ≡ m = omega arith in
    take_whole (len_of o + m) o xs (goes_some (len_of o + m) o (omega arith) (omega arith))
    ∙ ap (λ (k : ℕ). more (read_len o) (ref_len o) (taking xs k)) e
    ∙ rw (r, ref_I o q) refl

two_cut : (n m o : ℕ) (xs : List ℕ) → 0 < m → (n ≡ 0 → ⊥) → (code_of o ≡ 1 → ⊥) → n < read_len o
    → taking (o ∷ xs) (n + m) ≡ more n n (taking (op_of (len_of o - n) (code_of o) ∷ xs) m)
two_cut n m o xs h z q s = go (leb (len_of o) (n + m)) refl
  where
    i : is_read (code_of o) ≡ true
    i = read_all n o s

    r : read_len o ≡ len_of o
    r = read_is o i

    f : ref_len o ≡ len_of o
    f = ref_is o (cut_ref o i q)

    k : ℕ
    k = len_of o - n

    o' : ℕ
    o' = op_of k (code_of o)

    r' : read_len o' ≡ k
    r' = cut_read k o i

    f' : ref_len o' ≡ k
    f' = cut_refs k o i q

    q' : code_of o' ≡ 1 → ⊥
    q' e = q (sym (op_code k o) ∙ e)

    go : (b : Bool) → leb (len_of o) (n + m) ≡ b → taking (o ∷ xs) (n + m) ≡ more n n (taking (o' ∷ xs) m)
    go true e =
        let l = leb-true (len_of o) (n + m) e in
        let r₁ = r in
        let r₂ = r' in
        let f₁ = f in
        let f₂ = f' in
        let u : n + m - read_len o ≡ m - read_len o' = omega arith in
        take_whole (n + m) o xs (goes_some (n + m) o (omega arith) (omega arith))
        ∙ ap (λ (j : ℕ). more (read_len o) (ref_len o) (taking xs j)) u
        ∙ taken_eq refl (omega arith) (omega arith)
        ∙ sym (ap (more n n) (take_whole m o' xs (goes_some m o' (omega arith) (omega arith))))
    go false e =
        let l = leb-false (len_of o) (n + m) e in
        let r₁ = r in
        let r₂ = r' in
        let c : op_of (len_of o - (n + m)) (code_of o) ≡ op_of (len_of o' - m) (code_of o') = let p = op_len k o in let w = op_code k o in omega arith in
        take-cut (n + m) o xs (goes_not (n + m) o (omega arith) (omega arith)) (omega arith) q
        ∙ taken_eq (ap (λ (j : ℕ). j ∷ xs) c) refl refl
        ∙ sym (ap (more n n) (take-cut m o' xs (goes_not m o' (omega arith) (omega arith)) (omega arith) q'))

-- n bases, and then m more than were taken, from what was left
pub two_goes : (xs : List ℕ) (n m : ℕ) → 0 < m → taking xs ((taking xs n).bases + m) ≡ more (taking xs n).bases (taking xs n).lost (taking (taking xs n).left m)
two_goes [] n m h = rw (take-nil n) (take-nil (0 + m) ∙ sym (ap (more 0 0) (take-nil m)))
two_goes (o ∷ xs) n m h = go (way n o) (two_goes xs (n - read_len o) m h)
  where
    go : Way n o
        → taking xs ((taking xs (n - read_len o)).bases + m) ≡ more (taking xs (n - read_len o)).bases (taking xs (n - read_len o)).lost (taking (taking xs (n - read_len o)).left m)
        → taking (o ∷ xs) ((taking (o ∷ xs) n).bases + m) ≡ more (taking (o ∷ xs) n).bases (taking (o ∷ xs) n).lost (taking (taking (o ∷ xs) n).left m)
    go (whole g) ih = rw (take_whole n o xs g) (two_whole n m o xs h g ih)
    go (none g z) ih = rw (take_none n o xs g z) (let e : 0 + m ≡ m = omega arith in ap (taking (o ∷ xs)) e ∙ sym (more_none (taking (o ∷ xs) m)))
    go (over g z q s) ih = rw (take_over n o xs g z q) (two_over m o xs h q)
    go (cuts g z q s) ih = rw (take-cut n o xs g z q) (two_cut n m o xs h z q s)

-- ---- inside one insertion

same_goes : (n m o : ℕ) → n ≤ m → goes n o ≡ true → goes m o ≡ true
same_goes n m o h g = go (eqb m 0) refl
  where
    go : (b : Bool) → eqb m 0 ≡ b → goes m o ≡ true
    go true e = let z = eqb-true m 0 e in let q : m ≡ n = omega arith in ap (λ (k : ℕ). goes k o) q ∙ g
    go false e = let r = goes_enough n o g in goes_some m o (eqb-false m 0 e) (omega arith)

-- an amount from n up to the bases that were taken, not all of them, takes the same
pub same_take : (xs : List ℕ) (n m : ℕ) → n ≤ m → m < (taking xs n).bases → taking xs m ≡ taking xs n
same_take [] n m h k = take-nil m ∙ sym (take-nil n)
same_take (o ∷ xs) n m h k = go (way n o) (same_take xs (n - read_len o) (m - read_len o))
  where
    go : Way n o → (n - read_len o ≤ m - read_len o → m - read_len o < (taking xs (n - read_len o)).bases → taking xs (m - read_len o) ≡ taking xs (n - read_len o))
        → taking (o ∷ xs) m ≡ taking (o ∷ xs) n
    go (whole g) ih =
        let e = ap (λ (t : Taken). t.bases) (take_whole n o xs g) in
        let r = goes_enough n o g in
        take_whole m o xs (same_goes n m o h g)
        ∙ ap (more (read_len o) (ref_len o)) (ih (omega arith) (omega arith))
        ∙ sym (take_whole n o xs g)
    go (none g z) ih = let e = ap (λ (t : Taken). t.bases) (take_none n o xs g z) in absurd (omega arith)
    go (over g z q s) ih =
        let e = ap (λ (t : Taken). t.bases) (take_over n o xs g z q) in
        let r = read_I o q in
        take_over m o xs (goes_not m o (omega arith) (omega arith)) (omega arith) q ∙ sym (take_over n o xs g z q)
    go (cuts g z q s) ih = let e = ap (λ (t : Taken). t.bases) (take-cut n o xs g z q) in absurd (omega arith)
