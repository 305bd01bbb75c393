-- Document 01, module 10: the fields that a pair test's answer needs, of two records a and b.
use Rattle.std.specs.Prelude.{ℕ, ◌≡◌, List}
use Rattle.sam.specs.Record.{ref_id_of, pos_of, flags_of, mate_ref_id_of, mate_pos_of, is_paired, is_unmapped, is_mate_unmapped, is_reverse, is_mate_reverse}
use Rattle.length_rules.specs.Lengths.{checked_ref_length}

-- "paired, both mapped, same reference, strands differ"
pub record SamePair (a b : List ℕ) : Type 0 where
  pub paired : is_paired (flags_of a) ≡ is_paired (flags_of b)
  pub unmapped : is_unmapped (flags_of a) ≡ is_unmapped (flags_of b)
  pub mate_unmapped : is_mate_unmapped (flags_of a) ≡ is_mate_unmapped (flags_of b)
  pub reverse : is_reverse (flags_of a) ≡ is_reverse (flags_of b)
  pub mate_reverse : is_mate_reverse (flags_of a) ≡ is_mate_reverse (flags_of b)
  pub reference : ref_id_of a ≡ ref_id_of b
  pub mate_reference : mate_ref_id_of a ≡ mate_ref_id_of b

-- mate start and own end
pub record SameReverse (a b : List ℕ) : Type 0 where
  pub mate_place : mate_pos_of a ≡ mate_pos_of b
  pub place : pos_of a ≡ pos_of b
  pub span : checked_ref_length a ≡ checked_ref_length b
