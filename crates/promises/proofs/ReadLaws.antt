-- What documents 01 and 02 promise of lengths, ends, bins, lookup, pair tests and overhangs beside the answers. Each line is a theorem of the crate that it is cited from, over the definitions that the contracts use.
use Prim.Native.Nat.{ℕ, ◌+◌, ◌-◌, ◌≤◌, ◌<◌}
use Rattle.std.specs.Prelude.{Err, Ok, Some}
use mathlib.Core.Path.{◌≡◌}
use mathlib.Core.Bool.{Bool, true, false}
use mathlib.Core.List.{List, ◌∷◌, ◌++◌}
use lib.IntN.{ℤ, pos, ◌+ℤ◌, ◌-ℤ◌}
use lib.ListN.{length, take}
use lib.Signed.{lt_z, le_z}
use lib.Dec.{ltb}
use borrow.Author.Tests.{ltb-false}
use mir.Syntax.{w32}
use mir.Val.{SFits}
use Rattle.lists.specs.Lists.{facing, sum_of}
use Rattle.sam.specs.Op.{query_len}
use Rattle.sam.specs.Columns.{Column, Spot, columns, queries, refs, ref_of, Seen}
use Rattle.sam.specs.Record.{pos_of, flags_of, mate_pos_of, template_len_of, is_reverse, is_short}
use Rattle.answers.specs.Settled.{keeps}
use Rattle.answers.specs.declared.Pos1.{Pos1}
use Rattle.answers.specs.declared.Refusal.{Refusal}
use Rattle.oplist.specs.Ops.{most_ops, record_ops}
use Rattle.text_rules.specs.Text.{text_ops}
use Rattle.text_rules.specs.Valid.{valid_mapped}
use Rattle.text_rules.specs.Strict.{strict}
use Rattle.clip_run_rules.specs.Clips.{soft_len, hard_len, leading_clips, leading_soft, leading_hard, has_inner, trailing_soft, trailing_hard, clips_after_reference}
use Rattle.clip_run_rules.proofs.RunLaws as Clips
use Rattle.clip_run_rules.proofs.EndLaws as EndClips
use Rattle.length_rules.specs.Lengths.{checked_ref_length}
use Rattle.bin_rules.specs.Bin.{record_bin, set_bin}
use Rattle.bin_rules.proofs.Records as Bins
use Rattle.ends_rules.specs.Ends.{unclipped_start, unclipped_end, alignment_start, alignment_end}
use Rattle.ends_rules.specs.Tails.{greatest_run, Reached}
use Rattle.ends_rules.proofs.CaseLaws as EndCases
use Rattle.ends_rules.proofs.Meaning as Ends
use Rattle.ends_rules.proofs.RunMost as Runs
use Rattle.lookup_rules.specs.Examined.{examined, Deciding}
use Rattle.lookup_rules.proofs.PlaceLaws as Places
use Rattle.pairs_rules.specs.Pairs.{is_opposite, start_of, last_of, are_opposite, is_primary_fr, opposite_pair, fr_pair, primary_fr_pair}
use Rattle.pairs_rules.specs.Needed.{SamePair, SameReverse}
use Rattle.pairs_rules.proofs.Edges as Edges
use Rattle.pairs_rules.proofs.Needed as Pairs
use Rattle.overhang_rules.specs.Reach.{bases_up_to, on_base, Unclamped}
use Rattle.overhang_rules.specs.Overhang.{end_of, soft_start, soft_end, bases_past, bases_extending}
use Rattle.overhang_rules.proofs.Meaning as Counts
use Rattle.overhang_rules.proofs.Gaps as Gaps
use Rattle.overlap_rules.specs.Overlap.{is_fr_by, past_mate_cigar, past_mate_record, past_mate_text}
use Rattle.overlap_rules.specs.Bound.{Within, WithinText}
use Rattle.overlap_rules.proofs.Promised as Most

-- ---- lengths: the clips at both ends

-- "each over the whole run of S and H (any order) that clipping calls E at that end"
pub leading_pair : (xs : List ℕ) → leading_soft xs + leading_hard xs ≡ leading_clips xs
leading_pair xs = Clips.leading_parts xs

pub trailing_pair : (xs : List ℕ) → has_inner xs ≡ true → trailing_soft xs + trailing_hard xs ≡ leading_clips (facing false xs)
trailing_pair xs e = EndClips.trailing_parts xs e

-- "For a list of clips only, the leading pair takes all and the trailing pair is 0"
pub clips_only : (xs : List ℕ) → has_inner xs ≡ false → (leading_soft xs ≡ sum_of soft_len xs) × (leading_hard xs ≡ sum_of hard_len xs) × (trailing_soft xs ≡ 0) × (trailing_hard xs ≡ 0)
clips_only xs e = (EndClips.all_soft xs e, EndClips.all-hard xs e, EndClips.none_soft xs e, EndClips.none_hard xs e)

-- ---- ends: a place that was not refused is the plain sum

-- "forward less the leading S and H"
pub start_is : (at : ℤ) (xs : List ℕ) (z : ℤ) → unclipped_start at xs ≡ Some z → at -ℤ pos (leading_clips xs) ≡ z
start_is at xs z e = Ends.start_is at xs z e

-- "reverse plus reference length plus clips after the last reference op, less 1"; the reference length is the count of reference bases in the columns
pub end_is : (at : ℤ) (xs : List ℕ) (z : ℤ) → unclipped_end at xs ≡ Some z → at +ℤ pos (refs (columns xs)) +ℤ pos (clips_after_reference xs) -ℤ pos 1 ≡ z
end_is at xs z e = Ends.end_is at xs z e

-- "0-based record positions and 1-based answers are kept apart": a record's start is the same place as `pos`, counted from 1
pub first-is : (b : List ℕ) (p : Pos1) → alignment_start b ≡ Ok (Some p) → pos_of b +ℤ pos 1 ≡ p.0
first-is b p e = Ends.first-is b p e

-- its end is `pos` and the reference length, which counts the last place from 1
pub last-is : (b : List ℕ) (p : Pos1) (n : ℤ) → checked_ref_length b ≡ Ok n → alignment_end b ≡ Ok (Some p) → pos_of b +ℤ n ≡ p.0
last-is b p n l e = Ends.last-is b p n l e

-- 4 "where Rust with overflow checks stops": its one sum of clips, after any number of ops, is at most the greatest run, and comes to it
pub run_most : (xs : List ℕ) (i : ℕ) → clips_after_reference (take i xs) ≤ greatest_run xs
run_most xs i = Runs.run_most xs i

pub run_reached : (xs : List ℕ) → Reached xs
run_reached xs = Runs.run_reached xs

-- ---- lookup: the ops that it examined

-- the place of the op that decides, and no other number is that place; "never exceeds the list length"
pub examined_means : (xs : List ℕ) (start at : ℕ) → start ≤ at → Deciding xs (at - start) (examined xs start at)
examined_means xs start at h = Places.examined_means xs start at h

pub examined_only : (xs : List ℕ) (start at n : ℕ) → start ≤ at → Deciding xs (at - start) n → n ≡ examined xs start at
examined_only xs start at n h d = Places.examined_only xs start at n h d

pub examined_before : (xs : List ℕ) (start at : ℕ) → at < start → examined xs start at ≡ 0
examined_before xs start at h = Places.examined_before xs start at h

pub examined_most : (xs : List ℕ) (start at : ℕ) → examined xs start at ≤ length xs
examined_most xs start at = Places.examined_most xs start at

-- ---- pair tests

-- an answer needs only the fields that document 01 names: two records that agree in them, both long enough or both too short, have the same answer
pub opposite_only : (a b : List ℕ) → is_short a ≡ is_short b → SamePair a b → opposite_pair a ≡ opposite_pair b
opposite_only a b l s = Pairs.opposite_only a b l s

-- a reverse record needs no template length
pub reverse_only : (a b : List ℕ) → is_short a ≡ is_short b → SamePair a b → is_reverse (flags_of a) ≡ true → SameReverse a b → fr_pair a ≡ fr_pair b
reverse_only a b l s r t = Pairs.reverse_only a b l s r t

-- a forward one nothing but the template length
pub forward_only : (a b : List ℕ) → is_short a ≡ is_short b → SamePair a b → is_reverse (flags_of a) ≡ false → template_len_of a ≡ template_len_of b → fr_pair a ≡ fr_pair b
forward_only a b l s r t = Pairs.forward_only a b l s r t

-- "if mate start ≤ own end": a mate that starts at a reverse record's last base is enough
pub fr_at_end : (b : List ℕ) → is_short b ≡ false → (n : ℤ) → is_opposite b ≡ true → is_reverse (flags_of b) ≡ true → checked_ref_length b ≡ Ok n
    → start_of (mate_pos_of b) ≡ last_of (pos_of b) n → fr_pair b ≡ Ok true
fr_at_end b l n o r k e = Edges.fr_at_end b l n o r k e

-- "if template length is at least 1": a forward record that has none, 0 in the SAM specification, is no FR pair
pub no_template : (b : List ℕ) → is_short b ≡ false → is_reverse (flags_of b) ≡ false → template_len_of b ≡ pos 0 → fr_pair b ≡ Ok false
no_template b l r t = Edges.no_template b l r t

-- which of two records comes first plays no part
pub symmetric : (a b : List ℕ) → primary_fr_pair a b ≡ primary_fr_pair b a
symmetric a b = Pairs.symmetric a b

-- ---- a damaged record: b, which has 32 bytes, and r, by which its reference length is refused

module _ (b : List ℕ) (l : is_short b ≡ false) where
  -- "A record with negative `pos` still gets bin 4680, because that test comes first"
  pub negative_bin : lt_z (pos_of b) (pos 0) ≡ true → record_bin b ≡ Ok 4680
  negative_bin t = Bins.before_first b (ltb-false (length b) 32 l) t

  -- "a pair whose flags already fail still answers no"
  pub flags_first : is_opposite b ≡ false → fr_pair b ≡ Ok false
  flags_first o = Edges.flags_first b l o

  pub both_flags_first : (a : List ℕ) → is_short a ≡ false → are_opposite b a ≡ false → primary_fr_pair b a ≡ Ok false
  both_flags_first a k o = Edges.both_flags_first b a l k o

  -- "`alignment_end_from_raw`, bin, the pair tests and overhang pass the refusal on wherever they ask for this length"
  module _ (r : Refusal) (e : checked_ref_length b ≡ Err r) where
    pub no_end : lt_z (pos_of b) (pos 0) ≡ false → alignment_end b ≡ Err r
    no_end t = EndCases.no_end b (ltb-false (length b) 32 l) r t e

    pub no_bin : lt_z (pos_of b) (pos 0) ≡ false → record_bin b ≡ Err r
    no_bin t = Bins.no_length b (ltb-false (length b) 32 l) r t e

    pub no_pair : is_opposite b ≡ true → is_reverse (flags_of b) ≡ true → fr_pair b ≡ Err r
    no_pair o t = Edges.no_length b l r o t e

  -- the overhang's pair test is refused by a length alone, and then the call is: before 4 of a place, and before 6
  pub cigar_no_length : (ys : List ℕ) (r : Refusal) → ltb most_ops (length ys) ≡ false → valid_mapped ys ≡ true → is_fr_by b ys ≡ Err r → past_mate_cigar b ys ≡ Err r
  cigar_no_length ys r m v e = Most.cigar_no_length b ys r l m v e

  pub record_no_length : (m : List ℕ) (r : Refusal) → is_short m ≡ false → is_primary_fr b m ≡ Err r → past_mate_record b m ≡ Err r
  record_no_length m r k e = Most.record_no_length b m r l k e

  pub text_no_length : (s d : List ℕ) (r : Refusal) → strict s ≡ true → ltb most_ops (length (text_ops s)) ≡ false → is_fr_by b (text_ops s) ≡ Err r
      → past_mate_text b s d ≡ keeps (Err r) d
  text_no_length s d r t m e = Most.text_no_length b s d r l t m e

-- `set_bin_from_raw_bam` leaves a record that has no bin as it was
pub not_written : (b : List ℕ) (r : Refusal) → record_bin b ≡ Err r → set_bin b ≡ keeps (Err r) b
not_written b r e = Bins.not_written b r e

-- ---- "An overhang never exceeds the read's query length", of each call

pub ops_most : (reverse : Bool) (p : ℤ) (xs : List ℕ) (m : ℤ) (ys : List ℕ) → Within (bases_extending reverse p xs m ys) (sum_of query_len xs)
ops_most reverse p xs m ys = Most.ops_most reverse p xs m ys

pub cigar_most : (b ys : List ℕ) → Within (past_mate_cigar b ys) (sum_of query_len (record_ops b))
cigar_most b ys = Most.cigar_most b ys

pub record_most : (b m : List ℕ) → Within (past_mate_record b m) (sum_of query_len (record_ops b))
record_most b m = Most.record_most b m

pub text_most : (b s d : List ℕ) → WithinText (past_mate_text b s d).answer (sum_of query_len (record_ops b))
text_most b s d = Most.text_most b s d

-- ---- what the overhang's counts mean

-- the gap of a read that stops short is never negative
pub gap_forward : (p m : ℤ) (xs ys : List ℕ) → lt_z (end_of p xs) m ≡ true → le_z (end_of p xs) (soft_end m ys) ≡ true
gap_forward p m xs ys t = Gaps.gap_forward p m xs ys t

pub gap_reverse : (p m : ℤ) (xs ys : List ℕ) → SFits w32 p → SFits w32 m → lt_z (end_of m ys) p ≡ true → le_z (soft_start m ys) p ≡ true
gap_reverse p m xs ys f g t = Gaps.gap_reverse p m xs ys f g t

-- an alignment from p on, and a target t, k positions after p, with no position clamped
module _ (t p : ℤ) (k : ℕ) (xs : List ℕ) (f : SFits w32 t) (g : SFits w32 p) (e : t ≡ p +ℤ pos k) (u : Unclamped t p xs) where
  -- the count is of the query bases before the target's column, and the one in it if on is 1
  pub bases_up_to_seen : (on : ℕ) (s : Spot) → on ≤ 1 → Seen (columns xs) k s → bases_up_to on t p xs ≡ s.before + on_base on s.over
  bases_up_to_seen on s h S = Counts.bases_up_to_seen t p k xs f g e u on s h S

  -- the query bases before the target are those of the columns on its left, and those past it of the columns on its right
  pub before_left : (left right : List Column) (c : Column) → refs left ≡ k → ref_of c ≡ 1 → columns xs ≡ left ++ (c ∷ right) → bases_up_to 0 t p xs ≡ queries left
  before_left left right c l r d = Counts.before_left t p k xs f g e u left right l c r d

  pub past_right : (left right : List Column) (c : Column) → refs left ≡ k → ref_of c ≡ 1 → columns xs ≡ left ++ (c ∷ right) → bases_past t p xs ≡ queries right
  past_right left right c l r d = Counts.past_right t p k xs f g e u left right l c r d
