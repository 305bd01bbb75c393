-- The end with its clips, step by step: the first sum that is not there decides.
use Rattle.std.specs.Prelude.{◌≡◌, Option, Some, None, ℤ, pos, ◌+ℤ◌, ◌-ℤ◌}
use Rattle.signed.specs.Whole.{checked}
use Rattle.ends_rules.specs.Sums.{both, ◌⊕◌, ◌⊖◌}

pub less : (at n : ℤ) (clips : Option ℤ) → clips ≡ Some n → checked (at -ℤ n) ≡ Some at ⊖ clips
unfolding both
less at n clips e = simp e

pub no_less : (at : ℤ) (clips : Option ℤ) → clips ≡ None → None ≡ Some at ⊖ clips
unfolding both
no_less at clips e = simp e

module _ (at : ℤ) (refs clips : Option ℤ) where
  abbrev pub last : Option ℤ
  last = Some at ⊕ refs ⊕ clips ⊖ Some (pos 1)

  pub no_refs : refs ≡ None → None ≡ last
  unfolding both
  no_refs e = simp e

  module _ (r : ℤ) (refs_is : refs ≡ Some r) where
    pub no_end : checked (at +ℤ r) ≡ None → None ≡ last
    unfolding both
    no_end e = simp (refs_is, e)

    module _ (end : ℤ) (end_is : checked (at +ℤ r) ≡ Some end) where
      pub no_clips : clips ≡ None → None ≡ last
      unfolding both
      no_clips e = simp (refs_is, end_is, e)

      module _ (k : ℤ) (clips_is : clips ≡ Some k) where
        pub no_clipped : checked (end +ℤ k) ≡ None → None ≡ last
        unfolding both
        no_clipped e = simp (refs_is, end_is, clips_is, e)

        pub clipped : (m : ℤ) → checked (end +ℤ k) ≡ Some m → checked (m -ℤ pos 1) ≡ last
        unfolding both
        clipped m e = simp (refs_is, end_is, clips_is, e)
