-- P1 to P10 as one tabled fact: antt computes both columns of the table.
use mathlib.Core.Path.{◌≡◌, refl}
use Rattle.lists.specs.Lists.{splice, sum_of}
use Rattle.lists.specs.Runs.{leading, after_leading}
use Rattle.signed.specs.Whole.{checked, side_of}
use Rattle.sam.specs.Op.{index_of, letter_code, is_ref, is_query, ref_len, query_len}
use Rattle.ops.specs.Ops.{is_read, read_len, is_clip}
use Rattle.clip_run_rules.specs.Clips.{outer_hard, next_soft, inside, leading_clips}
use Rattle.clip_rules.specs.Clipping.{goes, ends, taking, soft_of, upgraded, cut_into, clip}
use Rattle.clip_rules.specs.Answer.{clipped_ops, clipped_count, clippable, is_beyond, clipped_into, clipped_up_to}
use Rattle.text_rules.specs.Text.{effect_of, row_from, ops_from}
use Rattle.text_rules.specs.Valid.{is_empty, all_hard, any_ref, each, valid_mapped}
use Rattle.text_rules.specs.Strict.{strict}
use Rattle.parsed_rules.specs.Parsed.{parsed}
use Rattle.lookup_rules.specs.Lookup.{look, lookup_up_to, looked_up_to}
use Rattle.lookup_rules.specs.Examined.{reached, first_above, place_of, examined}
use Rattle.signed.specs.Equal.{eqℤ}
use Rattle.bin_rules.specs.Bin.{low16, first_agreed, bin_to, reg2bin}
use Rattle.promises.specs.Marked.{marked, calls, sayings}

pub p1_to_p10 : calls marked ≡ sayings marked
unfolding splice sum_of is_ref is_query ref_len query_len is_read read_len is_clip leading after_leading goes ends taking soft_of upgraded cut_into outer_hard next_soft inside leading_clips clip clipped_ops clipped_count clippable is_beyond clipped_into clipped_up_to index_of letter_code effect_of row_from ops_from is_empty all_hard any_ref each valid_mapped strict parsed look lookup_up_to looked_up_to reached first_above place_of examined checked side_of eqℤ low16 first_agreed bin_to reg2bin
p1_to_p10 = refl
