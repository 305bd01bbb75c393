-- The pass answers by the rules: it counts the ops, sums their reference bases up to 2^31 - 1, and its last place says whether they are valid.
use Prim.Native.Nat.{ℕ, ◌+◌, ◌≤◌, ◌<◌, min}
use Rattle.std.specs.Prelude.{None, Option, Some}
use mathlib.Core.Path.{◌≡◌, refl, sym, ap, ◌∙◌}
use mathlib.Core.Bool.{Bool, true, false, cond}
use mathlib.Core.List.{List, [], ◌∷◌}
use native.Mathlib.Omega.{arith}
use native.Mathlib.Nat.{min-eq_left, min-eq_right}
use lib.IntN.{ℤ, pos}
use lib.ListN.{length, drop}
use lib.Dec.{leb, ltb}
use borrow.Author.Tests.{leb-true, leb-false, ltb-true, ltb-false}
use Rattle.lists.proofs.Absurd.{never}
use Rattle.lists.specs.Lists.{sum_of}
use Rattle.signed.specs.Whole.{clamp32}
use Rattle.signed.proofs.Ranges.{clamp_in, clamp_above}
use Rattle.sam.specs.Op.{len_of, code_of, op_of, is_ref, ref_len}
use Rattle.text_rules.specs.Text.{is_row, text_ops}
use Rattle.text_rules.specs.Valid.{valid_mapped}
use Rattle.parsed_rules.specs.Parsed.{measured_text}
use Rattle.parsed_rules.proofs.ParsedLaws.{measured_ops, row_measured}
use Rattle.validity.specs.InnerStages.{code_class, class_of, step_of, accept_of, is_wrong, stage_after}
use Rattle.measure_text.specs.InnerPass.{ref_bases_of, took_of, ending_of, on_took, at_start, walk_of}
use Rattle.tokens.specs.InnerToken.{OpAt, NoneAt}
use Rattle.validity.specs.InnerClass.{Class, Class.Reference, Class.Other, Class.Soft, Class.Hard, Class.Unknown}
use Rattle.validity.specs.declared.Stage.{Stage}
use Rattle.measure_text.specs.declared.SoFar.{SoFar}
use Rattle.parsed_rules.specs.declared.Measured.{Measured}
use Rattle.tokens.proofs.TextLaws.{at-end}
use Rattle.validity.proofs.StageLaws.{ref_b, class_ref, long_class, short_class, wrong_accept, valid_run}

-- ---- the reference bases

pub ref_by : (k : Class) (n : ℕ) → ref_bases_of k n ≡ cond (ref_b k) n 0
ref_by Reference n = refl
ref_by Other n = refl
ref_by Soft n = refl
ref_by Hard n = refl
ref_by Unknown n = refl

none_either : (t : Bool) → ◌≡◌ {A = ℕ} 0 (cond t 0 0)
none_either true = refl
none_either false = refl

ref_class : (o : ℕ) → ref_bases_of (class_of o) (len_of o) ≡ ref_len o
unfolding ref_len
ref_class o = go (ltb 0 (len_of o)) refl
  where
    go : (t : Bool) → ltb 0 (len_of o) ≡ t → ref_bases_of (class_of o) (len_of o) ≡ cond (is_ref (code_of o)) (len_of o) 0
    go true q =
        ap (λ (k : Class). ref_bases_of k (len_of o)) (long_class o (ltb-true 0 (len_of o) q))
        ∙ ref_by (code_class (code_of o)) (len_of o)
        ∙ ap (λ (t : Bool). cond t (len_of o) 0) (class_ref (code_of o) (omega arith))
    go false q =
        let h = ltb-false 0 (len_of o) q in
        let z : len_of o ≡ 0 = omega arith in
        ap (λ (k : Class). ref_bases_of k (len_of o)) (short_class o z) ∙ none_either (is_ref (code_of o)) ∙ ap (λ (n : ℕ). cond (is_ref (code_of o)) n 0) (sym z)

pub saturated : (n : ℕ) → pos (min n 2147483647) ≡ clamp32 (pos n)
saturated n = go (leb n 2147483647) refl
  where
    go : (t : Bool) → leb n 2147483647 ≡ t → pos (min n 2147483647) ≡ clamp32 (pos n)
    go true q = let h = leb-true n 2147483647 q in ap pos (min-eq_left h) ∙ sym (clamp_in (pos n) (omega arith) (omega arith))
    go false q = let h = leb-false n 2147483647 q in ap pos (min-eq_right (omega arith)) ∙ sym (clamp_above (pos n) (omega arith))

-- ---- the pass over a list

abbrev passed : Stage → ℕ → ℕ → List ℕ → Option Measured
passed p n refs xs = cond (accept_of (stage_after p xs)) (Some (record { ops = n + length xs; refs = pos (min (refs + sum_of ref_len xs) 2147483647) })) None

walk_one : (q : Stage) (n refs : ℕ) (xs : List ℕ) → refs ≤ 2147483647
    → ((s : SoFar) → s.refs ≤ 2147483647 → walk_of s xs ≡ passed s.stage s.n s.refs xs)
    → on_took (cond (is_wrong q) None (Some (record { stage = q; n = n; refs = refs }))) (λ t. walk_of t xs) None ≡ passed q n refs xs
walk_one q n refs xs h ih = go (is_wrong q) refl
  where
    go : (t : Bool) → is_wrong q ≡ t → on_took (cond t None (Some (record { stage = q; n = n; refs = refs }))) (λ t. walk_of t xs) None ≡ passed q n refs xs
    go true e = rw (wrong_accept q xs e) refl
    go false e = ih (record { stage = q; n = n; refs = refs }) h

walk : (xs : List ℕ) (s : SoFar) → s.refs ≤ 2147483647 → walk_of s xs ≡ passed s.stage s.n s.refs xs
unfolding walk_of stage_after sum_of
walk [] s h =
    ap (λ (n : ℕ). cond (accept_of s.stage) (Some (record { ops = n; refs = pos s.refs })) None) {x = s.n} {y = s.n + 0} (omega arith)
    ∙ ap (λ (n : ℕ). cond (accept_of s.stage) (Some (record { ops = s.n + 0; refs = pos n })) None) {x = s.refs} {y = min (s.refs + 0) 2147483647} (omega arith)
walk (o ∷ xs) s h =
    let q = step_of s.stage (class_of o) in
    let r = s.refs + ref_bases_of (class_of o) (len_of o) in
    let e = ref_class o in
    walk_one q (s.n + 1) (min r 2147483647) xs (omega arith) (walk xs)
    ∙ ap (λ (n : ℕ). cond (accept_of (stage_after q xs)) (Some (record { ops = n; refs = pos (min (min r 2147483647 + sum_of ref_len xs) 2147483647) })) None) {x = s.n + 1 + length xs} {y = s.n + length (o ∷ xs)} (omega arith)
    ∙ ap (λ (n : ℕ). cond (accept_of (stage_after q xs)) (Some (record { ops = s.n + length (o ∷ xs); refs = pos n })) None)
    {x = min (min r 2147483647 + sum_of ref_len xs) 2147483647} {y = min (s.refs + (ref_len o + sum_of ref_len xs)) 2147483647} (omega arith)

walk_measured : (xs : List ℕ) → walk_of at_start xs ≡ measured_ops xs
unfolding measured_ops
walk_measured xs =
    walk xs at_start (omega arith)
    ∙ rw (valid_run xs) refl
    ∙ ap (λ (z : ℤ). cond (valid_mapped xs) (Some (record { ops = 0 + length xs; refs = z })) None)
    (ap (λ (n : ℕ). pos (min n 2147483647)) {x = 0 + sum_of ref_len xs} {y = sum_of ref_len xs} (omega arith) ∙ saturated (sum_of ref_len xs))
    ∙ ap (λ (n : ℕ). cond (valid_mapped xs) (Some (record { ops = n; refs = clamp32 (pos (sum_of ref_len xs)) })) None) {x = 0 + length xs} {y = length xs} (omega arith)

-- one op more keeps the bounds
pub took_fits : (s t : SoFar) (len : ℕ) (k : Class) → took_of s len k ≡ Some t → (t.n ≡ s.n + 1) × (t.refs ≤ 2147483647)
took_fits s t len k e = go (is_wrong (step_of s.stage k)) e
  where
    more : SoFar
    more = record { stage = step_of s.stage k; n = s.n + 1; refs = min (s.refs + ref_bases_of k len) 2147483647 }

    go : (w : Bool) → cond w None (Some (record { stage = step_of s.stage k; n = s.n + 1; refs = min (s.refs + ref_bases_of k len) 2147483647 })) ≡ Some t → (t.n ≡ s.n + 1) × (t.refs ≤ 2147483647)
    go true q = never (cc)
    go false q =
        let g : ◌≡◌ {A = SoFar} (record { stage = step_of s.stage k; n = s.n + 1; refs = min (s.refs + ref_bases_of k len) 2147483647 }) t = cc in
        let m : t.refs ≡ min (s.refs + ref_bases_of k len) 2147483647 = sym (ap (λ (x : SoFar). x.refs) g) in
        (sym (ap (λ (x : SoFar). x.n) g), omega arith)

-- one turn of the walk over a list
module _ (s : SoFar) (o : ℕ) (xs : List ℕ) where
  pub walk_more : (t : SoFar) → took_of s (len_of o) (class_of o) ≡ Some t → walk_of s (o ∷ xs) ≡ walk_of t xs
  unfolding walk_of
  walk_more t e = ap (λ (x : Option SoFar). on_took x (λ t. walk_of t xs) None) e

  pub walk_stop : took_of s (len_of o) (class_of o) ≡ None → walk_of s (o ∷ xs) ≡ None
  unfolding walk_of
  walk_stop e = ap (λ (x : Option SoFar). on_took x (λ t. walk_of t xs) None) e

-- ---- the pass over a text

-- what is left of it
unfoldable pub left_of : SoFar → Bool → List ℕ → Option Measured
left_of s row xs = cond row (walk_of s xs) None

pub left_measured : (s : List ℕ) → left_of at_start (is_row s) (text_ops s) ≡ measured_text s
unfolding left_of
left_measured s = ap (λ (m : Option Measured). cond (is_row s) m None) (walk_measured (text_ops s)) ∙ row_measured s

module _ (s : SoFar) (len code : ℕ) (some : 0 < len) (few : code < 9) (row : Bool) (xs : List ℕ) where
  same_took : took_of s len (code_class code) ≡ took_of s (len_of (op_of len code)) (class_of (op_of len code))
  same_took =
      let l : len_of (op_of len code) ≡ len = omega arith in
      let c : code_of (op_of len code) ≡ code = omega arith in
      let k : class_of (op_of len code) ≡ code_class code = long_class (op_of len code) (omega arith) ∙ ap code_class c in
      rw (l, k) refl

  pub left_more : (t : SoFar) → took_of s len (code_class code) ≡ Some t → left_of s row (op_of len code ∷ xs) ≡ left_of t row xs
  unfolding left_of
  left_more t e = ap (λ (m : Option Measured). cond row m None) (walk_more s (op_of len code) xs t (sym same_took ∙ e))

  pub left_stop : took_of s len (code_class code) ≡ None → left_of s row (op_of len code ∷ xs) ≡ None
  unfolding left_of
  left_stop e = ap (λ (m : Option Measured). cond row m None) (walk_stop s (op_of len code) xs (sym same_took ∙ e)) ∙ go row
    where
      go : (t : Bool) → cond {A = Option Measured} t None None ≡ None
      go true = refl
      go false = refl

-- what is left of the pass at place i of a text
abbrev pub left_at : SoFar → ℕ → List ℕ → Option Measured
left_at seen i s = left_of seen (is_row (drop i s)) (text_ops (drop i s))

module _ (s : List ℕ) (i : ℕ) (seen : SoFar) where
  pub pass_none : NoneAt s i → left_at seen i s ≡ None
  unfolding left_of
  pass_none n = rw n.row refl

  pub pass_end : length s ≤ i → left_at seen i s ≡ ending_of seen
  unfolding left_of walk_of
  pass_end h = let d = at-end s i 0 false h in rw (d.0, d.1) refl

  module _ (len code next : ℕ) (o : OpAt s i len code next) where
    at_op : left_at seen i s ≡ left_of seen (is_row (drop next s)) (op_of len code ∷ text_ops (drop next s))
    at_op = rw (o.row, o.ops) refl

    pub pass-more : (t : SoFar) → took_of seen len (code_class code) ≡ Some t → left_at seen i s ≡ left_at t next s
    pass-more t e = at_op ∙ left_more seen len code o.some o.known (is_row (drop next s)) (text_ops (drop next s)) t e

    pub pass-stop : took_of seen len (code_class code) ≡ None → left_at seen i s ≡ None
    pass-stop e = at_op ∙ left_stop seen len code o.some o.known (is_row (drop next s)) (text_ops (drop next s)) e
