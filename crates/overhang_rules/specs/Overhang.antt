-- Document 01, module 10: how many query bases a read has past its mate, `bases_extending_past_mate_ops`; as the Rust (overlap.rs), each step within an i32.
-- p and xs are the read's start, counted from 1, and ops; m and ys the mate's. A forward read is measured at its right end, a reverse read at its left.
use Rattle.std.specs.Prelude.{ℕ, ◌-◌, Bool, true, false, cond, List, ℤ, pos, ◌+ℤ◌, ◌-ℤ◌, length, ltb, Err, Ok}
use Rattle.answers.specs.Answer.{Answer}
use Rattle.std.specs.Int.Signed.{lt_z}
use Rattle.lists.specs.Lists.{sum_of}
use Rattle.signed.specs.Whole.{natural, clamp32}
use Rattle.sam.specs.Op.{query_len, ref_len}
use Rattle.answers.specs.declared.Refusal.TheVariants.{TooManyOps}
use Rattle.oplist.specs.Ops.{most_ops}
use Rattle.overhang_rules.specs.Reach.{bases_up_to, soft_clip}

-- the last position of n reference bases from p on; p - 1 where there is none
unfoldable pub end_at : ℤ → ℕ → ℤ
end_at p n = clamp32 (clamp32 (p -ℤ pos 1) +ℤ clamp32 (pos n))

abbrev pub end_of : ℤ → List ℕ → ℤ
end_of p xs = end_at p (sum_of ref_len xs)

-- the mate's ends with its soft clipped bases laid along the reference
unfoldable pub soft_start : ℤ → List ℕ → ℤ
soft_start m ys = clamp32 (m -ℤ clamp32 (pos (soft_clip true ys)))

unfoldable pub soft_end : ℤ → List ℕ → ℤ
soft_end m ys = clamp32 (end_of m ys +ℤ clamp32 (pos (soft_clip false ys)))

-- the positions from b to before a
abbrev pub gap_to : ℤ → ℤ → ℕ
gap_to a b = natural (clamp32 (a -ℤ b))

-- the smaller and the larger of two positions
abbrev pub earlier_of : ℤ → ℤ → ℤ
earlier_of a b = cond (lt_z b a) b a

abbrev pub later_of : ℤ → ℤ → ℤ
later_of a b = cond (lt_z a b) b a

-- the query bases past a position
abbrev pub bases_past : ℤ → ℤ → List ℕ → ℕ
bases_past t p xs = sum_of query_len xs - bases_up_to 1 t p xs

-- A forward read that ends before its mate begins: its soft clipped tail, laid along the reference, as far as it passes the mate's soft clipped end.
-- A mate that ends before the read begins faces away: 0. Else the read's bases past the last position they share, less the mate's past it
unfoldable pub forward_overhang : ℤ → List ℕ → ℤ → List ℕ → ℕ
forward_overhang p xs m ys =
    cond (lt_z (end_of p xs) m) (soft_clip false xs - gap_to (soft_end m ys) (end_of p xs))
    (cond (lt_z (end_of m ys) p) 0
    (bases_past (earlier_of (end_of p xs) (end_of m ys)) p xs - bases_past (earlier_of (end_of p xs) (end_of m ys)) m ys))

-- A reverse read is the mirror: its bases before the first position they share, less the mate's before it
unfoldable pub reverse_overhang : ℤ → List ℕ → ℤ → List ℕ → ℕ
reverse_overhang p xs m ys =
    cond (lt_z (end_of m ys) p) (soft_clip true xs - gap_to p (soft_start m ys))
    (cond (lt_z (end_of p xs) m) 0
    (bases_up_to 0 (later_of p m) p xs - bases_up_to 0 (later_of p m) m ys))

unfoldable pub overhang_of : Bool → ℤ → List ℕ → ℤ → List ℕ → ℕ
overhang_of reverse p xs m ys = cond reverse (reverse_overhang p xs m ys) (forward_overhang p xs m ys)

-- `bases_extending_past_mate_ops`: 3 where either list is too long
unfoldable pub bases_extending : Bool → ℤ → List ℕ → ℤ → List ℕ → Answer ℕ
bases_extending reverse p xs m ys =
    cond (ltb most_ops (length xs)) (Err TooManyOps)
    (cond (ltb most_ops (length ys)) (Err TooManyOps)
    (Ok (overhang_of reverse p xs m ys)))
