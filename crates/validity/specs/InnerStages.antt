-- The walk's stages, as its inner functions go; no public contract cites them. Document 01's rules are `text_rules`' Valid.antt, and the law `valid_run` of proofs/
-- says that the walk answers them.
use Rattle.std.specs.Prelude.{ℕ, Bool, true, false, cond, List, [], ◌∷◌, ltb, eqb}
use Rattle.sam.specs.Op.{code_of, is_ref}
use Rattle.validity.specs.InnerClass.{Class, Class.Reference, Class.Other, Class.Soft, Class.Hard, Class.Unknown}
use Rattle.validity.specs.declared.Stage.{Stage}
use Rattle.validity.specs.declared.Stage.TheVariants.{Start, AfterHard, Inner, Good, EndSoft, EndHard, Wrong}

unfoldable pub code_class : ℕ → Class
code_class c = cond (is_ref c) Reference (cond (eqb c 4) Soft (cond (eqb c 5) Hard (cond (ltb 8 c) Unknown Other)))

unfoldable pub class_of : ℕ → Class
unfolding code_class
class_of o = cond (ltb o 16) Unknown (code_class (code_of o))

abbrev pub step_of : Stage → Class → Stage
step_of Start Reference = Good
step_of Start Other = Inner
step_of Start Soft = Inner
step_of Start Hard = AfterHard
step_of Start Unknown = Wrong
step_of AfterHard Reference = Good
step_of AfterHard Other = Inner
step_of AfterHard Soft = Inner
step_of AfterHard Hard = Wrong
step_of AfterHard Unknown = Wrong
step_of Inner Reference = Good
step_of Inner Other = Inner
step_of Inner Soft = Wrong
step_of Inner Hard = Wrong
step_of Inner Unknown = Wrong
step_of Good Reference = Good
step_of Good Other = Good
step_of Good Soft = EndSoft
step_of Good Hard = EndHard
step_of Good Unknown = Wrong
step_of EndSoft Reference = Wrong
step_of EndSoft Other = Wrong
step_of EndSoft Soft = Wrong
step_of EndSoft Hard = EndHard
step_of EndSoft Unknown = Wrong
step_of EndHard k = Wrong
step_of Wrong k = Wrong

abbrev pub accept_of : Stage → Bool
accept_of Start = false
accept_of AfterHard = false
accept_of Inner = false
accept_of Good = true
accept_of EndSoft = true
accept_of EndHard = true
accept_of Wrong = false

abbrev pub is_wrong : Stage → Bool
is_wrong Start = false
is_wrong AfterHard = false
is_wrong Inner = false
is_wrong Good = false
is_wrong EndSoft = false
is_wrong EndHard = false
is_wrong Wrong = true

abbrev pub is_past : Stage → Bool
is_past Start = false
is_past AfterHard = false
is_past Inner = false
is_past Good = false
is_past EndSoft = true
is_past EndHard = true
is_past Wrong = true

abbrev pub is_inner_class : Class → Bool
is_inner_class Reference = true
is_inner_class Other = true
is_inner_class Soft = false
is_inner_class Hard = false
is_inner_class Unknown = false

-- the stage after a list
unfoldable pub stage_after : Stage → List ℕ → Stage
stage_after p [] = p
stage_after p (o ∷ xs) = stage_after (step_of p (class_of o)) xs
