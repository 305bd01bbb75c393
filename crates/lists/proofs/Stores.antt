-- A run of stores, element after element, is a list written at a place.
use Prim.Native.Nat.{ℕ, ◌+◌, ◌≤◌}
use mathlib.Core.Path.{◌≡◌, ◌∙◌}
use mathlib.Core.List.{List, append_assoc}
use lib.ListN.{length, take, drop}
use lib.Seq.{sets, sets-eq}
use Rattle.lists.specs.Lists.{splice}

pub sets_splice : (d : List ℕ) (at : ℕ) (vs : List ℕ) → at + length vs ≤ length d → sets d at vs ≡ splice d at vs
unfolding splice
sets_splice d at vs h = sets-eq vs d at h ∙ append_assoc (take at d) vs (drop (at + length vs) d)
