-- The cases of the unclipped position by their tests, and what clipping makes of the list that is handed back.
use Prim.Native.Nat.{ℕ, ◌≤◌, ◌<◌}
use Rattle.std.specs.Prelude.{Ok, Err}
use mathlib.Core.Path.{◌≡◌, refl, sym, ap, ◌∙◌}
use mathlib.Core.Bool.{Bool, true, false}
use mathlib.Core.List.{List}
use lib.ListN.{length}
use borrow.Author.Tests.{lt-ltb, le-ltb, le-leb}
use Rattle.sam.specs.Record.{seq_len_of, pos_of, flags_of, is_unmapped, is_reverse, op_count_of, ops_start, ops_end, ops_in}
use Rattle.sam.specs.Tags.{is_placeholder}
use Rattle.oplist.specs.Ops.{record_ops}
use Rattle.answers.specs.declared.Refusal.TheVariants.{ShortRecord}
use Rattle.tag_rules.specs.Long.{true_list, read_from}
use Rattle.tag_rules.proofs.ListLaws.{ordinary}
use Rattle.ends_rules.specs.Ends.{unclipped_by, unclipped_of}
use Rattle.ends_rules.proofs.CaseLaws as Own
use Rattle.clip_rules.specs.Answer.{clipped_into, clipped_record}
use Rattle.true_rules.specs.True.{stop_kept, true_unclipped, true_clipped, HandsBack}
use Rattle.ends_rules.specs.declared.Unclipped.TheVariants as Unclipped

pub is_short : (b : List ℕ) → length b < 32 → Err ShortRecord ≡ true_unclipped b
unfolding true_unclipped
is_short b h = simp (lt-ltb (length b) 32 h)

module _ (b : List ℕ) (h : 32 ≤ length b) where
  -- whatever the ops and the tags are
  pub is-unmapped : is_unmapped (flags_of b) ≡ true → (Ok Unclipped.Unmapped) ≡ true_unclipped b
  unfolding true_unclipped
  is-unmapped t = simp (le-ltb (length b) 32 h, t)

  pub is_mapped : is_unmapped (flags_of b) ≡ false
      → read_from Err (λ xs. unclipped_by xs (record { 0 = pos_of b }) (is_reverse (flags_of b))) b (true_list b) ≡ true_unclipped b
  unfolding true_unclipped
  is_mapped t = simp (le-ltb (length b) 32 h, t)

-- the list that is handed back is clipped
pub clips_held : (b xs : List ℕ) → HandsBack b xs → (amount : ℕ) (start : Bool) (d : List ℕ) → true_clipped b amount start d ≡ clipped_into xs amount start d
clips_held b xs H amount start d =
    ap (read_from (stop_kept Err d) (λ (l : List ℕ). clipped_into l amount start d) b) H.list_is ∙ ap (λ (l : List ℕ). clipped_into l amount start d) H.ops_are

-- without a placeholder it is the record's own, of which each call makes what it made
module _ (b : List ℕ) (h : 32 ≤ length b) (k : ops_end b ≤ length b) (e : is_placeholder (seq_len_of b) (record_ops b) ≡ false) where
  own_ops : ops_in b (ops_start b) (op_count_of b) ≡ record_ops b
  unfolding record_ops
  own_ops = simp (le-leb (ops_end b) (length b) k)

  pub own-list : HandsBack b (record_ops b)
  own-list = record { at = ops_start b; count = op_count_of b; list_is = ordinary b h k e; ops_are = own_ops }

  pub same_position : true_unclipped b ≡ unclipped_of b
  same_position = go (is_unmapped (flags_of b)) refl
    where
      go : (t : Bool) → is_unmapped (flags_of b) ≡ t → true_unclipped b ≡ unclipped_of b
      go true p = sym (is-unmapped b h p) ∙ Own.is-unmapped b h p
      go false p =
          sym (is_mapped b h p)
          ∙ ap (read_from Err (λ (l : List ℕ). unclipped_by l (record { 0 = pos_of b }) (is_reverse (flags_of b))) b) own-list.list_is
          ∙ ap (λ (l : List ℕ). unclipped_by l (record { 0 = pos_of b }) (is_reverse (flags_of b))) own-list.ops_are
          ∙ Own.is_mapped b h p

  pub same_clip : (amount : ℕ) (start : Bool) (d : List ℕ) → true_clipped b amount start d ≡ clipped_record b amount start d
  unfolding clipped_record
  same_clip amount start d = clips_held b (record_ops b) own-list amount start d ∙ simp (le-ltb (length b) 32 h)
