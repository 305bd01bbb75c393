-- The list in the first CG, tag by tag; and the list in that CG, refusal by refusal.
use Prim.Native.Nat.{ℕ, ◌+◌, ◌≤◌, ◌<◌}
use Rattle.std.specs.Prelude.{Ok, Err}
use Rattle.answers.specs.Answer.{Answer}
use mathlib.Core.Path.{◌≡◌, refl, sym, ap, ◌∙◌}
use mathlib.Core.Bool.{true, false}
use mathlib.Core.List.{List}
use native.Mathlib.Omega.{arith}
use lib.ListN.{length, drop, length-drop}
use lib.Seq.{drop-drop}
use borrow.Author.Tests.{lt-ltb, le-ltb, eq-eqb, ne_eqb}
use Rattle.sam.specs.Record.{byte_at, le32}
use Rattle.sam.specs.Tags.{tag_size, tag_at, tags_of, is_cg, array_count}
use Rattle.sam.proofs.TagLaws.{value-length, tags_end, tags_break, tags_then}
use Rattle.sam.proofs.TagArrayLaws.{count-is, no-array, array-of-ops}
use Rattle.oplist.specs.Ops.{most_long_ops}
use Rattle.answers.specs.declared.Refusal.TheVariants.{TooManyOps, BadTags, OtherCg}
use Rattle.tag_rules.specs.Long.{found, list_in, first_cg}
use Rattle.oplist.specs.declared.Area.{Area}

-- ---- the first CG

module _ (without : Answer Area) (b : List ℕ) (at : ℕ) where
  pub walk_ends : length b ≤ at → first_cg without at (tags_of (drop at b)) ≡ without
  unfolding first_cg
  walk_ends h = ap (first_cg without at) (tags_end (drop at b) (simp length-drop (omega arith)))

  pub walk_breaks : at < length b → tag_size (drop at b) ≡ 0 → first_cg without at (tags_of (drop at b)) ≡ Err BadTags
  unfolding first_cg
  walk_breaks h e = ap (first_cg without at) (tags_break (drop at b) (simp length-drop (omega arith)) e)

  pub walk_found : 0 < tag_size (drop at b) → is_cg (tag_at (drop at b)) ≡ true → first_cg without at (tags_of (drop at b)) ≡ list_in (at + 3) (tag_at (drop at b))
  unfolding first_cg
  walk_found h e = ap (first_cg without at) (tags_then (drop at b) h) ∙ simp e

  pub walk_on : (n : ℕ) → n ≡ tag_size (drop at b) → 0 < n → is_cg (tag_at (drop at b)) ≡ false
      → first_cg without at (tags_of (drop at b)) ≡ first_cg without (at + n) (tags_of (drop (at + n) b))
  unfolding first_cg
  walk_on n e h f =
      let g : 0 < tag_size (drop at b) = omega arith in
      ap (first_cg without at) (tags_then (drop at b) g)
      ∙ simp f (ap (λ (k : ℕ). first_cg without (at + k) (tags_of (drop (tag_size (drop at b)) (drop at b)))) (value-length (drop at b) g ∙ sym e)
      ∙ ap (λ (l : List ℕ). first_cg without (at + n) (tags_of l)) (ap (λ (k : ℕ). drop k (drop at b)) (sym e) ∙ drop-drop n at b))

pub walk_same : (b : List ℕ) (p q : Answer Area) (at at' : ℕ) → p ≡ q → at ≡ at' → first_cg p at (tags_of (drop at b)) ≡ first_cg q at' (tags_of (drop at' b))
walk_same b p q at at' e f = rw (e, f) refl

-- ---- the list in a CG

module _ (at : ℕ) (s : List ℕ) (h : 0 < tag_size s) where
  pub kind_other : (byte_at s 2 ≡ 66 → ⊥) → list_in at (tag_at s) ≡ Err OtherCg
  unfolding list_in
  kind_other f = simp (no-array s h f)

  module _ (e : byte_at s 2 ≡ 66) where
    pub numbers-other : (byte_at s 3 ≡ 73 → ⊥) → list_in at (tag_at s) ≡ Err OtherCg
    unfolding list_in
    numbers-other f = simp (array-of-ops s h e false (ne_eqb (byte_at s 3) 73 f))

    module _ (f : byte_at s 3 ≡ 73) where
      pub list-long : most_long_ops < le32 s 4 → list_in at (tag_at s) ≡ Err TooManyOps
      unfolding list_in
      list-long k = let n = count-is s h e in simp (array-of-ops s h e true (eq-eqb (byte_at s 3) 73 f), lt-ltb most_long_ops (array_count (tag_at s)) (omega arith))

      pub list_is : le32 s 4 ≤ most_long_ops → list_in at (tag_at s) ≡ Ok (record { at = at + 5; n = le32 s 4 })
      unfolding list_in
      list_is k =
          let n = count-is s h e in
          simp (array-of-ops s h e true (eq-eqb (byte_at s 3) 73 f), le-ltb most_long_ops (array_count (tag_at s)) (omega arith)) (ap (found (at + 5)) n)
