-- Item 10 at work, and which premises it needs: antt computes each line.
use Prim.Native.Nat.{ℕ}
use Rattle.std.specs.Prelude.{Ok, Err, Some, None, Option}
use Rattle.answers.specs.Answer.{Answer}
use mathlib.Core.Path.{◌≡◌, refl}
use mathlib.Core.Bool.{Bool, true, false}
use mathlib.Core.List.{List, [], ◌∷◌}
use Rattle.lists.specs.Lists.{sum_of}
use Rattle.lists.specs.Runs.{leading, after_leading}
use Rattle.sam.specs.Op.{op_of, is_ref, is_query, ref_len, query_len}
use Rattle.ops.specs.Ops.{is_read, read_len, is_clip}
use Rattle.answers.specs.declared.Refusal.TheVariants.{TooManyOps}
use Rattle.oplist.specs.Ops.{most_ops}
use Rattle.clip_run_rules.specs.Clips.{outer_hard, next_soft, inside, leading_clips}
use Rattle.clip_rules.specs.Clipping.{goes, ends, taking, soft_of, upgraded, cut_into, clip}
use Rattle.clip_rules.specs.Answer.{clipped_ops, clipped_count}
use Rattle.lookup_rules.specs.Lookup.{look, lookup_up_to, looked_up_to}
use Rattle.lookup_rules.specs.Examined.{reached, first_above, place_of, examined}
use Rattle.partner_laws.specs.Partners.{partner}

-- what lookup tells with a limit on the ops
abbrev told : ℕ → List ℕ → ℕ → ℕ → Bool → Answer (Option ℕ)
told limit xs start at asked = partner (looked_up_to limit xs start at asked)

-- 2S3M1D4M at 10 by 4 at the start: 4H1M1D4M at 12, and 4 query bases are gone; at 12 5 and 1, at 13 none, at 14 6 and 2, at 18 none
abbrev whole : List ℕ
whole = op_of 2 4 ∷ op_of 3 0 ∷ op_of 1 2 ∷ op_of 4 0 ∷ []

abbrev from_start : List ℕ
from_start = op_of 4 5 ∷ op_of 1 0 ∷ op_of 1 2 ∷ op_of 4 0 ∷ []

pub start_is : (clipped_ops whole 4 true ≡ from_start) × (clipped_count whole 4 true ≡ 2) × (sum_of query_len whole ≡ 9) × (sum_of query_len from_start ≡ 5)
unfolding is_read is_ref is_query is_clip read_len ref_len query_len leading sum_of after_leading goes ends taking soft_of upgraded cut_into outer_hard next_soft inside leading_clips clip clipped_ops clipped_count
start_is = (refl, refl, refl, refl)

pub start_keeps : (told most_ops whole 10 12 false ≡ Ok (Some 5)) × (told most_ops from_start 12 12 false ≡ Ok (Some 1))
    × (told most_ops whole 10 13 false ≡ Ok None) × (told most_ops from_start 12 13 false ≡ Ok None)
    × (told most_ops whole 10 14 false ≡ Ok (Some 6)) × (told most_ops from_start 12 14 false ≡ Ok (Some 2))
    × (told most_ops whole 10 18 false ≡ Ok None) × (told most_ops from_start 12 18 false ≡ Ok None)
unfolding is_ref is_query ref_len query_len look lookup_up_to looked_up_to reached first_above place_of examined
start_keeps = (refl, refl, refl, refl, refl, refl, refl, refl)

-- by 3 at the end: 2S3M1D1M3H at 10, of 5 reference bases; at 14 6 as before, at 15 none where it was 7
abbrev from_end : List ℕ
from_end = op_of 2 4 ∷ op_of 3 0 ∷ op_of 1 2 ∷ op_of 1 0 ∷ op_of 3 5 ∷ []

pub end_is : (clipped_ops whole 3 false ≡ from_end) × (sum_of ref_len from_end ≡ 5)
unfolding is_read is_ref is_query is_clip read_len ref_len query_len leading sum_of after_leading goes ends taking soft_of upgraded cut_into outer_hard next_soft inside leading_clips clip clipped_ops
end_is = (refl, refl)

pub end_keeps : (told most_ops from_end 10 14 false ≡ Ok (Some 6)) × (told most_ops whole 10 15 false ≡ Ok (Some 7)) × (told most_ops from_end 10 15 false ≡ Ok None)
unfolding is_ref is_query ref_len query_len look lookup_up_to looked_up_to reached first_above place_of examined
end_keeps = (refl, refl, refl)

-- ---- needed: "deletions not answered", at the start. 2I2D3M by 1 leaves 2H2D3M, and 2 query bases are gone; at its first base lookup, if asked, tells 2 before and 1 after
abbrev inserted : List ℕ
inserted = op_of 2 1 ∷ op_of 2 2 ∷ op_of 3 0 ∷ []

abbrev deleted : List ℕ
deleted = op_of 2 5 ∷ op_of 2 2 ∷ op_of 3 0 ∷ []

pub deletions_needed : (clipped_ops inserted 1 true ≡ deleted) × (clipped_count inserted 1 true ≡ 0) × (told most_ops inserted 10 10 true ≡ Ok (Some 2)) × (told most_ops deleted 10 10 true ≡ Ok (Some 1))
unfolding is_read is_ref is_query is_clip read_len ref_len query_len leading sum_of after_leading goes ends taking soft_of upgraded cut_into outer_hard next_soft inside leading_clips clip clipped_ops clipped_count look lookup_up_to looked_up_to reached first_above place_of examined
deletions_needed = (refl, refl, refl, refl)

-- needed: fewer ops than the limit. With a limit of 1, 5M by 2 at the end leaves 3M2H, which lookup refuses by 3
pub few_needed : (clipped_ops (op_of 5 0 ∷ []) 2 false ≡ op_of 3 0 ∷ op_of 2 5 ∷ []) × (told 1 (op_of 3 0 ∷ op_of 2 5 ∷ []) 10 10 false ≡ Err TooManyOps)
unfolding is_read is_ref is_query is_clip read_len ref_len query_len leading sum_of after_leading goes ends taking soft_of upgraded cut_into outer_hard next_soft inside leading_clips clip clipped_ops look lookup_up_to looked_up_to reached first_above place_of examined
few_needed = (refl, refl)
