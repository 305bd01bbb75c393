-- Document 01, module 10, the overhang's counts of query bases: as the Rust (overlap.rs), whose positions stay within an i32.
use Rattle.std.specs.Prelude.{ℕ, ◌+◌, ◌-◌, ◌≡◌, Bool, true, cond, ◌&&◌, List, [], ◌∷◌, ◌⊎◌, ℤ, pos, ◌+ℤ◌, ◌-ℤ◌, ltb}
use Rattle.std.specs.Int.Signed.{lt_z, le_z}
use Rattle.lists.specs.Lists.{facing, sum_of}
use Rattle.signed.specs.Whole.{natural, clamp32}
use Rattle.sam.specs.Columns.{Over, Base, Gap, Off}
use Rattle.sam.specs.Op.{code_of, is_query, query_len, ref_len}
use Rattle.clip_run_rules.specs.Clips.{leading_soft}

-- the positions from p to before t, and t itself where on is 1
abbrev pub span_to : ℕ → ℤ → ℤ → ℕ
span_to on t p = natural (t -ℤ p) + on

-- the query bases that an alignment from p on places before position t, and the one on t where on is 1. Past t nothing counts; of an op that
-- reaches past t with query bases over reference bases (M = X), those up to t do; bases in a gap (I S) count where the gap is not past t
unfoldable pub bases_up_to : ℕ → ℤ → ℤ → List ℕ → ℕ
bases_up_to on t p [] = 0
bases_up_to on t p (o ∷ xs) =
    cond (lt_z t p) 0
    (cond (is_query (code_of o) && ltb (span_to on t p) (ref_len o)) (span_to on t p)
    (query_len o + bases_up_to on t (clamp32 (p +ℤ pos (ref_len o))) xs))

-- the soft clipped bases at one end
abbrev pub soft_clip : Bool → List ℕ → ℕ
soft_clip start xs = leading_soft (facing start xs)

-- no position that counts is clamped at 2^31 - 1: the target t lies before it, or the alignment from p on ends before it
abbrev pub Unclamped : ℤ → ℤ → List ℕ → Type 0
Unclamped t p xs = (lt_z t (pos 2147483647) ≡ true) ⊎ (le_z (p +ℤ pos (sum_of ref_len xs)) (pos 2147483647) ≡ true)

-- where no position is clamped: the query bases before reference base k, counted from 0, and with on = 1 the one over it
unfoldable pub up_to : ℕ → List ℕ → ℕ → ℕ
unfolding query_len
up_to on [] k = 0
up_to on (o ∷ xs) k = cond (ltb k (ref_len o)) (cond (is_query (code_of o)) (k + on) 0) (query_len o + up_to on xs (k - ref_len o))

-- the query base over a reference base, if on is 1
abbrev pub on_base : ℕ → Over → ℕ
on_base on Base = on
on_base on Gap = 0
on_base on Off = 0
