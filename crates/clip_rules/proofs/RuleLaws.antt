-- How each definition of the rule steps where a loop's turn, its early return and its end stand.
use mathlib.Core.Path.{◌≡◌, refl, sym, ap, ◌∙◌}
use mathlib.Core.Bool.{Bool, true, false, cond}
use mathlib.Core.List.{List, [], ◌∷◌}
use Prim.Native.Nat.{ℕ, ◌+◌, ◌-◌, ◌≤◌, ◌<◌, min}
use native.Mathlib.Nat.{add_assoc}
use native.Mathlib.Numerals.{one-add}
use native.Mathlib.Omega.{arith}
use lib.ListN.{length, drop}
use lib.Dec.{eqb, leb}
use borrow.Author.Tests.{le-leb, lt-leb, leb-true, leb-false, eq-eqb, ne_eqb, eqb-true, eqb-false}
use Rattle.lists.specs.Lists.{sum_of}
use Rattle.lists.proofs.Sums.{sum-le}
use Rattle.sam.specs.Op.{len_of, code_of, op_of, ref_len}
use Rattle.ops.specs.Ops.{read_len}
use Rattle.clip_run_rules.specs.Clips.{leading_clips}
use Rattle.clip_run_rules.specs.InnerWalked.{OuterIs}
use Rattle.clip_run_rules.proofs.RunLaws.{outer_total}
use Rattle.clip_rules.specs.Clipping.{Taken, more, goes, ends, taking, Cut, soft_of, upgraded, cut_into, clip}
use Rattle.clip_rules.specs.InnerPlan.{taken_of, cut_of, TakingIs}
use Rattle.clip_rules.proofs.CodeLaws.{read_le, read_D, read_all, read_is, cut_read}

-- ---- taking

pub taken_eq : {l m : List ℕ} {b c f g : ℕ} → l ≡ m → b ≡ c → f ≡ g → ◌≡◌ {A = Taken} (record { left = l; bases = b; lost = f }) (record { left = m; bases = c; lost = g })
taken_eq p q r = λ i. record { left = p i; bases = q i; lost = r i }

pub cut_eq : {l m : List ℕ} {f g : ℕ} → l ≡ m → f ≡ g → ◌≡◌ {A = Cut} (record { ops = l; lost = f }) (record { ops = m; lost = g })
cut_eq p r = λ i. record { ops = p i; lost = r i }

pub more_more : (a b c d : ℕ) (t : Taken) → more a b (more c d t) ≡ more (a + c) (b + d) t
more_more a b c d t = taken_eq refl (sym (add_assoc a c t.bases)) (sym (add_assoc b d t.lost))

pub more_none : (t : Taken) → more 0 0 t ≡ t
more_none t = taken_eq refl (omega arith) (omega arith)

pub goes_turn : (n : ℕ) (xs : List ℕ) (i o : ℕ) → drop i xs ≡ o ∷ drop (i + 1) xs → goes n o ≡ true
    → taking (drop i xs) n ≡ more (read_len o) (ref_len o) (taking (drop (i + 1) xs) (n - read_len o))
unfolding taking
goes_turn n xs i o e t = ap (λ (l : List ℕ). taking l n) e ∙ simp t

pub goes_stop : (n : ℕ) (xs : List ℕ) (i o : ℕ) → drop i xs ≡ o ∷ drop (i + 1) xs → goes n o ≡ false
    → taking (drop i xs) n ≡ ends n o (drop (i + 1) xs)
unfolding taking
goes_stop n xs i o e t = ap (λ (l : List ℕ). taking l n) e ∙ simp t

pub take-nil : (n : ℕ) → taking [] n ≡ record { left = []; bases = 0; lost = 0 }
unfolding taking
take-nil n = refl

pub goes_none : (n o k : ℕ) → n ≡ 0 → k ≡ code_of o → eqb k 2 ≡ goes n o
unfolding goes
goes_none n o k z e = simp (eq-eqb n 0 z, e)

pub goes_some : (n o k : ℕ) → (n ≡ 0 → ⊥) → k ≡ read_len o → leb k n ≡ goes n o
unfolding goes
goes_some n o k z e = simp (ne_eqb n 0 z, e)

pub taking_turn : (n : ℕ) (xs : List ℕ) (i o b l k f : ℕ) → drop i xs ≡ o ∷ drop (i + 1) xs → goes n o ≡ true → k ≡ read_len o → f ≡ ref_len o
    → more (b + k) (l + f) (taking (drop (i + 1) xs) (n - k)) ≡ more b l (taking (drop i xs) n)
taking_turn n xs i o b l k f e t p q =
    rw (p, q) (sym (more_more b l (read_len o) (ref_len o) (taking (drop (i + 1) xs) (n - read_len o)))
    ∙ ap (more b l) (sym (goes_turn n xs i o e t)))

pub goes_enough : (n o : ℕ) → goes n o ≡ true → read_len o ≤ n
unfolding goes
goes_enough n o e = go (eqb n 0) refl
  where
    go : (b : Bool) → eqb n 0 ≡ b → read_len o ≤ n
    go true q = let z = read_D o (eqb-true (code_of o) 2 (simp q at e)) in omega arith
    go false q = leb-true (read_len o) n (simp q at e)

pub goes_short : (n o : ℕ) → goes n o ≡ false → (n ≡ 0 → ⊥) → n < read_len o
unfolding goes
goes_short n o e z = leb-false (read_len o) n (simp (ne_eqb n 0 z) at e)

module _ (xs : List ℕ) (i n o bases lost : ℕ) where
  pub stop_none : n ≡ 0 → drop i xs ≡ o ∷ drop (i + 1) xs → taken_of xs i bases lost 0 0 ≡ more bases lost (ends n o (drop (i + 1) xs))
  unfolding ends
  stop_none z e = simp (eq-eqb n 0 z) (taken_eq e (omega arith) (omega arith))

  pub stop_whole : (n ≡ 0 → ⊥) → code_of o ≡ 1 → taken_of xs (i + 1) (bases + len_of o) lost 0 0 ≡ more bases lost (ends n o (drop (i + 1) xs))
  unfolding ends
  stop_whole z e = simp (ne_eqb n 0 z, eq-eqb (code_of o) 1 e) (taken_eq refl refl (omega arith))

  pub stop_cut : (r : ℕ) → (n ≡ 0 → ⊥) → (code_of o ≡ 1 → ⊥) → r ≡ op_of (len_of o - n) (code_of o)
      → taken_of xs (i + 1) (bases + n) (lost + n) 1 r ≡ more bases lost (ends n o (drop (i + 1) xs))
  unfolding ends
  stop_cut r z e q = simp (ne_eqb n 0 z, ne_eqb (code_of o) 1 e) (taken_eq (ap (λ (x : ℕ). x ∷ drop (i + 1) xs) q) refl refl)

-- ---- the read bases of a taking

-- those taken, and those left
abbrev reads_of : Taken → ℕ
reads_of t = t.bases + sum_of read_len t.left

ends_reads : (n o : ℕ) (xs : List ℕ) → goes n o ≡ false → reads_of (ends n o xs) ≡ read_len o + sum_of read_len xs
unfolding ends sum_of
ends_reads n o xs g = go (eqb n 0) refl (eqb (code_of o) 1)
  where
    go : (b : Bool) → eqb n 0 ≡ b → (d : Bool)
        → reads_of (cond b (record { left = o ∷ xs; bases = 0; lost = 0 }) (cond d (record { left = xs; bases = len_of o; lost = 0 }) (record { left = op_of (len_of o - n) (code_of o) ∷ xs; bases = n; lost = n }))) ≡ read_len o + sum_of read_len xs
    go true q d = omega arith
    go false q true = let i = read_all n o (goes_short n o g (eqb-false n 0 q)) in let r = read_is o i in omega arith
    go false q false =
        let s = goes_short n o g (eqb-false n 0 q) in
        let i = read_all n o s in
        let r = read_is o i in
        let c = cut_read (len_of o - n) o i in
        omega arith

pub taking_reads : (xs : List ℕ) (n : ℕ) → reads_of (taking xs n) ≡ sum_of read_len xs
unfolding taking sum_of
taking_reads [] n = refl
taking_reads (o ∷ xs) n = go (goes n o) refl (taking_reads xs (n - read_len o))
  where
    go : (b : Bool) → goes n o ≡ b → reads_of (taking xs (n - read_len o)) ≡ sum_of read_len xs
        → reads_of (cond b (more (read_len o) (ref_len o) (taking xs (n - read_len o))) (ends n o xs)) ≡ read_len o + sum_of read_len xs
    go true q h = omega arith
    go false q h = ends_reads n o xs q

-- where the list has as many as are wanted, so many are taken
ends_enough : (n o : ℕ) (xs : List ℕ) → goes n o ≡ false → n ≤ (ends n o xs).bases
unfolding ends
ends_enough n o xs g = go (eqb n 0) refl (eqb (code_of o) 1)
  where
    go : (b : Bool) → eqb n 0 ≡ b → (d : Bool)
        → n ≤ (cond {A = Taken} b (record { left = o ∷ xs; bases = 0; lost = 0 }) (cond {A = Taken} d (record { left = xs; bases = len_of o; lost = 0 }) (record { left = op_of (len_of o - n) (code_of o) ∷ xs; bases = n; lost = n }))).bases
    go true q d = let z = eqb-true n 0 q in omega arith
    go false q true = let s = goes_short n o g (eqb-false n 0 q) in let r = read_le o in omega arith
    go false q false = omega arith

pub taking_enough : (xs : List ℕ) (n : ℕ) → n ≤ sum_of read_len xs → n ≤ (taking xs n).bases
unfolding taking sum_of
taking_enough [] n h = h
taking_enough (o ∷ xs) n h = go (goes n o) refl (taking_enough xs (n - read_len o))
  where
    go : (b : Bool) → goes n o ≡ b → (n - read_len o ≤ sum_of read_len xs → n - read_len o ≤ (taking xs (n - read_len o)).bases)
        → n ≤ (cond b (more (read_len o) (ref_len o) (taking xs (n - read_len o))) (ends n o xs)).bases
    go true q ih = let b = ih (omega arith) in omega arith
    go false q ih = ends_enough n o xs q

pub taking_fits : {xs : List ℕ} {from n next bases lost cut rest : ℕ} → TakingIs xs from n next bases lost cut rest → bases ≤ sum_of len_of (drop from xs)
taking_fits {xs} {from} {n} T =
    let e = ap (λ (u : Taken). u.bases) T.taken_is in
    let r = taking_reads (drop from xs) n in
    let l = sum-le read_len len_of read_le (drop from xs) in
    omega arith

-- ---- upgrading

pub upgrade_all : (xs : List ℕ) (h s a skip first : ℕ) → s ≤ a - h → first ≡ op_of (h + s) 5 → cut_of xs skip 1 first 0 0 ≡ upgraded h s a (drop skip xs)
unfolding upgraded soft_of
upgrade_all xs h s a skip first k e =
    let m : min s (a - h) ≡ s = omega arith in
    let z : s - s ≡ 0 = omega arith in
    simp (m, z, e)

pub upgrade_some : (xs : List ℕ) (h s a skip u first second : ℕ) → u ≡ a - h → u < s → first ≡ op_of (h + u) 5 → second ≡ op_of (s - u) 4
    → cut_of xs skip 2 first second 0 ≡ upgraded h s a (drop skip xs)
unfolding upgraded soft_of
upgrade_some xs h s a skip u first second v k e f =
    let m : min s (a - h) ≡ u = omega arith in
    simp (m, ne_eqb (s - u) 0 (omega arith), e, f)

-- ---- the whole rule

pub clip_none : (xs : List ℕ) (a : ℕ) → a ≡ 0 → record { ops = xs; lost = 0 } ≡ clip xs a
unfolding clip
clip_none xs a z = simp (eq-eqb a 0 z)

pub clip_empty : (xs : List ℕ) (a : ℕ) → (a ≡ 0 → ⊥) → length xs ≡ 0 → record { ops = xs; lost = 0 } ≡ clip xs a
unfolding clip
clip_empty xs a n z = simp (ne_eqb a 0 n, eq-eqb (length xs) 0 z)

module _ {xs : List ℕ} {e h s next : ℕ} (E : e ≡ leading_clips xs) (O : OuterIs xs h s next) where
  pub outer_fits : h + s + sum_of len_of (drop next xs) ≡ sum_of len_of xs
  outer_fits = omega (arith, O.hard_is, O.soft_is, ap (sum_of len_of) O.rest-is, outer_total xs)

  module _ (a : ℕ) (some : a ≡ 0 → ⊥) (any : length xs ≡ 0 → ⊥) where
    pub clip-upgrade : a ≤ e → upgraded h s a (drop next xs) ≡ clip xs a
    unfolding clip
    clip-upgrade k =
        simp (ne_eqb a 0 some, ne_eqb (length xs) 0 any, ← E, le-leb a e k, ← O.hard_is, ← O.soft_is, ← O.rest-is)

    pub clip-cut : {end bases lost cut rest : ℕ} (first : ℕ) → e < a → TakingIs xs next (a - e) end bases lost cut rest → first ≡ op_of (h + s + bases) 5
        → cut_of xs end (1 + cut) first rest lost ≡ clip xs a
    unfolding clip cut_into
    clip-cut first k T f =
        simp (ne_eqb a 0 some, ne_eqb (length xs) 0 any, ← E, lt-leb a e k, ← O.hard_is, ← O.soft_is, ← O.rest-is, ← T.taken_is, one-add, f)
