-- Whole records, for what is promised of the reader: a front with a placeholder, up to the tags; tags without a CG; and a CG that holds ops.
use Rattle.std.specs.Prelude.{ℕ, ◌≤◌, ◌≡◌, true, false, List, ◌∷◌, ◌++◌, length}
use Rattle.lists.specs.Lists.{Each}
use Rattle.sam.specs.Record.{seq_len_of, tags_start, uint32, op_bytes}
use Rattle.sam.specs.Tags.{Tag, is_cg, is_placeholder}
use Rattle.oplist.specs.Ops.{record_ops}

-- a record up to its tags, whose ops are a placeholder
pub record Front (p : List ℕ) : Type 0 where
  pub long : 32 ≤ length p
  pub holds : is_placeholder (seq_len_of p) (record_ops p) ≡ true
  pub ends : tags_start p ≡ length p

abbrev pub NoCg : List Tag → Type 0
NoCg ts = Each (λ t. is_cg t ≡ false) ts

-- CG, a `B` array of type `I`, of ops
abbrev pub cg_of : List ℕ → Tag
cg_of xs = record { first = 67; second = 71; kind = 66; value = 73 ∷ (uint32 (length xs) ++ op_bytes xs) }
