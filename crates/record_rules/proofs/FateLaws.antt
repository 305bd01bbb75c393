-- What a record that is not refused has passed, and how it changes.
use Prim.Native.Nat.{ℕ, ◌≤◌}
use Rattle.std.specs.Prelude.{Err, None, Ok, Option, Some}
use Rattle.answers.specs.Answer.{Answer}
use mathlib.Core.Path.{◌≡◌, refl, sym, ap, subst⁻¹, ◌∙◌}
use mathlib.Core.Bool.{Bool, true, false}
use mathlib.Core.List.{List}
use lib.Dec.{ltb}
use lib.IntN.{ℤ, pos, ◌+ℤ◌}
use lib.ListN.{length}
use borrow.Author.Tests.{ltb-true, ltb-false}
use Rattle.lists.specs.Lists.{sum_of}
use Rattle.signed.specs.Whole.{checked}
use Rattle.sam.specs.Op.{len_of, ref_len, query_len}
use Rattle.sam.specs.Record.{seq_len_of, pos_of, tags_start}
use Rattle.oplist.specs.Ops.{record_ops}
use Rattle.answers.specs.declared.Refusal.{Refusal}
use Rattle.clip_rules.specs.Answer.{clipped_ops, is_beyond}
use Rattle.record_rules.specs.Written.{Change}
use Rattle.record_rules.specs.Clipping.{most_record_ops, differs, new_len, first_kept, start_count, bin_at, Fate, Refuses, Becomes, binned, placed, counted, clipped_fate}
use Rattle.record_rules.proofs.PlanLaws.{short_is, overrun-is, long-is, beyond_is, within-is, differs_is, over-is, counted_is, placed_is, placed_not, binned_is, binned_not}

-- the tests that it passed, in their order, and its parts
pub record Passed (b : List ℕ) (amount : ℕ) (start : Bool) (c : Change) : Type 0 where
  pub long : 32 ≤ length b
  pub whole : tags_start b ≤ length b
  pub short : sum_of len_of (record_ops b) ≤ 268435455
  pub within : is_beyond (record_ops b) amount start ≡ false
  pub agrees : differs (seq_len_of b) (sum_of query_len (record_ops b)) ≡ false
  pub few : length (clipped_ops (record_ops b) amount start) ≤ 65535
  pub place_is : checked (pos_of b +ℤ pos (start_count (record_ops b) amount start)) ≡ Some c.place
  pub bin_is : bin_at c.place (sum_of ref_len (clipped_ops (record_ops b) amount start)) ≡ Ok c.bin
  pub ops_is : c.ops ≡ clipped_ops (record_ops b) amount start
  pub len_is : c.len ≡ new_len b (clipped_ops (record_ops b) amount start)
  pub from_is : c.from ≡ first_kept b start (new_len b (clipped_ops (record_ops b) amount start))
  pub count-is : c.count ≡ start_count (record_ops b) amount start

-- a fate is one of two
abbrev Changes : Fate → Type 0
Changes (Refuses r) = ⊥
Changes (Becomes c) = Unit {0}

not_both : {f : Fate} {r : Refusal} {c : Change} → f ≡ Refuses r → f ≡ Becomes c → ⊥
not_both p q = subst⁻¹ Changes (sym p ∙ q) tt

abbrev change_or : Change → Fate → Change
change_or d (Refuses r) = d
change_or d (Becomes c) = c

same_change : {f : Fate} {c d : Change} → f ≡ Becomes c → f ≡ Becomes d → c ≡ d
same_change {c = c} p q = ap (change_or c) (sym p ∙ q)

module _ (b : List ℕ) (amount : ℕ) (start : Bool) (c : Change) (e : clipped_fate b amount start ≡ Becomes c) where
  -- behind each test; the fate is then what is left of the definition
  module _ (l : 32 ≤ length b) (t : tags_start b ≤ length b) (s : sum_of len_of (record_ops b) ≤ 268435455) (w : is_beyond (record_ops b) amount start ≡ false) where
    module _ (a : differs (seq_len_of b) (sum_of query_len (record_ops b)) ≡ false) (f : length (clipped_ops (record_ops b) amount start) ≤ 65535) where
      with-bin : (z : ℤ) → checked (pos_of b +ℤ pos (start_count (record_ops b) amount start)) ≡ Some z
          → clipped_fate b amount start ≡ binned b (clipped_ops (record_ops b) amount start) start (start_count (record_ops b) amount start) z (bin_at z (sum_of ref_len (clipped_ops (record_ops b) amount start)))
          → (m : Answer ℕ) → bin_at z (sum_of ref_len (clipped_ops (record_ops b) amount start)) ≡ m → Passed b amount start c
      with-bin z p q (Err r) g = absurd (not_both (q ∙ binned_not b (clipped_ops (record_ops b) amount start) start (start_count (record_ops b) amount start) z _ r g) e)
      with-bin z p q (Ok m) g =
          let d = same_change e (q ∙ binned_is b (clipped_ops (record_ops b) amount start) start (start_count (record_ops b) amount start) z _ z m _ _ refl g refl refl) in
          record {
            long = l;
            whole = t;
            short = s;
            within = w;
            agrees = a;
            few = f;
            place_is = rw d p;
            bin_is = rw d g;
            ops_is = ap (λ (c : Change). c.ops) d;
            len_is = ap (λ (c : Change). c.len) d;
            from_is = ap (λ (c : Change). c.from) d;
            count-is = ap (λ (c : Change). c.count) d;
          }

      with-place : clipped_fate b amount start ≡ placed b (clipped_ops (record_ops b) amount start) start (start_count (record_ops b) amount start) (checked (pos_of b +ℤ pos (start_count (record_ops b) amount start)))
          → (m : Option ℤ) → checked (pos_of b +ℤ pos (start_count (record_ops b) amount start)) ≡ m → Passed b amount start c
      with-place q None p = absurd (not_both (q ∙ placed_not b (clipped_ops (record_ops b) amount start) start (start_count (record_ops b) amount start) _ p) e)
      with-place q (Some z) p =
          with-bin z p (q ∙ placed_is b (clipped_ops (record_ops b) amount start) start (start_count (record_ops b) amount start) _ z _ p refl) (bin_at z (sum_of ref_len (clipped_ops (record_ops b) amount start))) refl

    with_count : clipped_fate b amount start ≡ counted b (clipped_ops (record_ops b) amount start) start (start_count (record_ops b) amount start) → Passed b amount start c
    with_count q = go (differs (seq_len_of b) (sum_of query_len (record_ops b))) refl (ltb most_record_ops (length (clipped_ops (record_ops b) amount start))) refl
      where
        go : (i : Bool) → differs (seq_len_of b) (sum_of query_len (record_ops b)) ≡ i → (j : Bool) → ltb most_record_ops (length (clipped_ops (record_ops b) amount start)) ≡ j → Passed b amount start c
        go true i j k = absurd (not_both (q ∙ differs_is b (clipped_ops (record_ops b) amount start) start (start_count (record_ops b) amount start) i) e)
        go false i true k = absurd (not_both (q ∙ over-is b (clipped_ops (record_ops b) amount start) start (start_count (record_ops b) amount start) i (ltb-true most_record_ops _ k)) e)
        go false i false k =
            with-place i (ltb-false most_record_ops _ k)
            (q ∙ counted_is b (clipped_ops (record_ops b) amount start) start (start_count (record_ops b) amount start) i (ltb-false most_record_ops _ k)) _ refl

  pub passed : Passed b amount start c
  passed = go (ltb (length b) 32) refl (ltb (length b) (tags_start b)) refl (ltb 268435455 (sum_of len_of (record_ops b))) refl (is_beyond (record_ops b) amount start) refl
    where
      go : (i : Bool) → ltb (length b) 32 ≡ i → (j : Bool) → ltb (length b) (tags_start b) ≡ j → (k : Bool) → ltb 268435455 (sum_of len_of (record_ops b)) ≡ k
          → (m : Bool) → is_beyond (record_ops b) amount start ≡ m → Passed b amount start c
      go true i j p k q m r = absurd (not_both (short_is b amount start (ltb-true (length b) 32 i)) e)
      go false i true p k q m r = absurd (not_both (overrun-is b amount start (ltb-false (length b) 32 i) (ltb-true (length b) (tags_start b) p)) e)
      go false i false p true q m r = absurd (not_both (long-is b amount start (ltb-false (length b) 32 i) (ltb-false (length b) (tags_start b) p) (ltb-true 268435455 _ q)) e)
      go false i false p false q true r =
          absurd (not_both (beyond_is b amount start (ltb-false (length b) 32 i) (ltb-false (length b) (tags_start b) p) (ltb-false 268435455 _ q) r) e)
      go false i false p false q false r =
          with_count (ltb-false (length b) 32 i) (ltb-false (length b) (tags_start b) p) (ltb-false 268435455 _ q) r
          (within-is b amount start (ltb-false (length b) 32 i) (ltb-false (length b) (tags_start b) p) (ltb-false 268435455 _ q) r)
