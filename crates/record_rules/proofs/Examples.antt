-- A record of 2S5M at 6, seven bases 1 2 4 8 1 2 4 and qualities 30 to 36, with one tag, by the definitions: an odd number lost at the start, nothing lost, a clip turned hard
-- without a base of the alignment, and an output that is too short for that.
use Prim.Native.Nat.{ℕ}
use Rattle.std.specs.Prelude.{Ok, Err}
use mathlib.Core.Path.{◌≡◌, refl}
use mathlib.Core.List.{List, [], ◌∷◌, ◌++◌}
use Rattle.lists.specs.Lists.{splice, sum_of}
use Rattle.lists.specs.Runs.{leading, after_leading}
use Rattle.signed.specs.Whole.{twos32, side_of, checked}
use Rattle.signed.specs.Equal.{eqℤ}
use Rattle.sam.specs.Op.{is_query, is_ref, query_len, ref_len}
use Rattle.sam.specs.Record.{ops_in, op_bytes}
use Rattle.sam.specs.Bases.{bases_of, packed}
use Rattle.oplist.specs.Ops.{record_ops}
use Rattle.ops.specs.Ops.{is_read, read_len, is_clip}
use Rattle.answers.specs.Settled.{keeps}
use Rattle.answers.specs.declared.Refusal.TheVariants.{NoRoom}
use Rattle.length_rules.specs.Lengths.{as_int}
use Rattle.bin_rules.specs.Bin.{low16, first_agreed, bin_to, reg2bin, bin_up_to, bin_from}
use Rattle.clip_run_rules.specs.Clips.{leading_clips, outer_hard, next_soft, inside}
use Rattle.clip_rules.specs.Clipping.{goes, ends, taking, soft_of, upgraded, cut_into, clip}
use Rattle.clip_rules.specs.Answer.{clipped_ops, clipped_count, clippable, is_beyond}
use Rattle.record_rules.specs.Written.{new_record}
use Rattle.record_rules.specs.Clipping.{differs, bin_at, binned, placed, counted, clipped_fate, put_into, written, clipped_record_start}

-- header with position, bin, op count and l_seq; then name, ops, bases, qualities, tag
abbrev made : ℕ → ℕ → ℕ → List ℕ → List ℕ
made place count len rest =
    0 ∷ 0 ∷ 0 ∷ 0 ∷ place ∷ 0 ∷ 0 ∷ 0 ∷ 2 ∷ 30 ∷ 73 ∷ 18 ∷ count ∷ 0 ∷ 99 ∷ 0 ∷ len ∷ 0 ∷ 0 ∷ 0 ∷ 0 ∷ 0 ∷ 0 ∷ 0 ∷ 36 ∷ 0 ∷ 0 ∷ 0 ∷ 39 ∷ 0 ∷ 0 ∷ 0 ∷ 97 ∷ 0 ∷ rest

abbrev tag : List ℕ
tag = 78 ∷ 77 ∷ 67 ∷ 5 ∷ []

abbrev sample : List ℕ
sample = made 6 2 7 (36 ∷ 0 ∷ 0 ∷ 0 ∷ 80 ∷ 0 ∷ 0 ∷ 0 ∷ 18 ∷ 72 ∷ 18 ∷ 79 ∷ 30 ∷ 31 ∷ 32 ∷ 33 ∷ 34 ∷ 35 ∷ 36 ∷ tag)

-- three lost at the start: 3H4M at 7, bases 8 1 2 4; the count is 1
pub odd_start : clipped_record_start sample 3 (sample ++ (0 ∷ []))
    ≡ record { answer = Ok (record { written = 52; lost = 1 }); left = splice (sample ++ (0 ∷ [])) 0 (made 7 2 4 (53 ∷ 0 ∷ 0 ∷ 0 ∷ 64 ∷ 0 ∷ 0 ∷ 0 ∷ 129 ∷ 36 ∷ 33 ∷ 34 ∷ 35 ∷ 36 ∷ tag)) }
unfolding splice sum_of leading after_leading twos32 side_of checked eqℤ is_query is_ref query_len ref_len ops_in op_bytes bases_of packed record_ops is_read read_len is_clip as_int low16 first_agreed bin_to reg2bin bin_up_to bin_from leading_clips outer_hard next_soft inside goes ends taking soft_of upgraded cut_into clip clipped_ops clipped_count clippable is_beyond new_record differs bin_at binned placed counted clipped_fate put_into written
odd_start = refl

-- nothing lost: the record as it was, but for the half behind its last base, which is 0
pub none_lost : clipped_record_start sample 0 sample
    ≡ record { answer = Ok (record { written = 57; lost = 0 }); left = made 6 2 7 (36 ∷ 0 ∷ 0 ∷ 0 ∷ 80 ∷ 0 ∷ 0 ∷ 0 ∷ 18 ∷ 72 ∷ 18 ∷ 64 ∷ 30 ∷ 31 ∷ 32 ∷ 33 ∷ 34 ∷ 35 ∷ 36 ∷ tag) }
unfolding splice sum_of leading after_leading twos32 side_of checked eqℤ is_query is_ref query_len ref_len ops_in op_bytes bases_of packed record_ops is_read read_len is_clip as_int low16 first_agreed bin_to reg2bin bin_up_to bin_from leading_clips outer_hard next_soft inside goes ends taking soft_of upgraded cut_into clip clipped_ops clipped_count clippable is_beyond new_record differs bin_at binned placed counted clipped_fate put_into written
none_lost = refl

-- one soft base turned hard: 1H1S5M, six bases 2 4 8 1 2 4; the same room is not enough for an op more
pub turned : clipped_record_start sample 1 (sample ++ (0 ∷ 0 ∷ []))
    ≡ record { answer = Ok (record { written = 59; lost = 0 }); left = made 6 3 6 (21 ∷ 0 ∷ 0 ∷ 0 ∷ 20 ∷ 0 ∷ 0 ∷ 0 ∷ 80 ∷ 0 ∷ 0 ∷ 0 ∷ 36 ∷ 129 ∷ 36 ∷ 31 ∷ 32 ∷ 33 ∷ 34 ∷ 35 ∷ 36 ∷ tag) }
unfolding splice sum_of leading after_leading twos32 side_of checked eqℤ is_query is_ref query_len ref_len ops_in op_bytes bases_of packed record_ops is_read read_len is_clip as_int low16 first_agreed bin_to reg2bin bin_up_to bin_from leading_clips outer_hard next_soft inside goes ends taking soft_of upgraded cut_into clip clipped_ops clipped_count clippable is_beyond new_record differs bin_at binned placed counted clipped_fate put_into written
turned = refl

pub no_room : clipped_record_start sample 1 sample ≡ keeps (Err NoRoom) sample
unfolding splice sum_of leading after_leading twos32 side_of checked eqℤ is_query is_ref query_len ref_len ops_in op_bytes bases_of packed record_ops is_read read_len is_clip as_int low16 first_agreed bin_to reg2bin bin_up_to bin_from leading_clips outer_hard next_soft inside goes ends taking soft_of upgraded cut_into clip clipped_ops clipped_count clippable is_beyond new_record differs bin_at binned placed counted clipped_fate put_into written
no_room = refl
