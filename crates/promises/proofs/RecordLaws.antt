-- Document 02, item 8, of every record that a call wrote, over the definitions in the calls' contracts: what reading it back gives; and demand 3 for records, through two
-- written records.
use Prim.Native.Nat.{ℕ, ◌+◌, ◌≤◌}
use mathlib.Core.Path.{◌≡◌, sym, ap, subst, subst⁻¹, ◌∙◌}
use mathlib.Core.Bool.{Bool, true, false}
use mathlib.Core.List.{List, ◌++◌}
use native.Mathlib.Omega.{arith}
use borrow.Author.Tests.{le-ltb}
use lib.ListN.{length}
use Rattle.sam.specs.Parts.{header_part, name_part, ops_part, bases_part, quals_part, tags_part}
use Rattle.sam.proofs.PartLaws as Parts
use Rattle.oplist.specs.Ops.{most_ops, record_ops}
use Rattle.copied_ops.specs.Copied.{copied_ops, get_ops}
use Rattle.clip_rules.specs.Answer.{clipped_ops, clipped_count, is_beyond}
use Rattle.clip_rules.proofs.BeyondLaws.{not_within}
use Rattle.clip_laws.specs.Demand3.{Takes, most, StartGives, EndGives, Given, Further, StartTwice, InRecord}
use Rattle.clip_laws.proofs.Demand3.{most_is, still, rule-twice}
use Rattle.record_rules.specs.Written.{Change, new_record}
use Rattle.record_rules.specs.Clipping.{Becomes, clipped_fate, clipped_record_start, clipped_record_end}
use Rattle.record_rules.specs.Reading.{Bytes, ReadsBack}
use Rattle.record_rules.proofs.FateLaws.{passed}
use Rattle.record_rules.proofs.ReadLaws.{ops_back}
use Rattle.record_rules.proofs.BackLaws.{holdable, reads_back}
use Rattle.record_rules.proofs.TwiceLaws.{further, fate_then, record_then, counts_add}
use Rattle.record_rules.proofs.GiveLaws.{start_given, end_given, start_gives, end_gives}

-- ---- SAM 4.2: the parts of a record, one after the other, are the record

pub parts_whole : (b : List ℕ) → header_part b ++ (name_part b ++ (ops_part b ++ (bases_part b ++ (quals_part b ++ tags_part b)))) ≡ b
parts_whole b = Parts.parts_whole b

-- ---- "Reading the output back gives the clipped list, the remaining bases in order and the same tags."

-- `clip_record_start`
pub reads_back_start : (b : List ℕ) (amount : ℕ) (new : List ℕ) (count : ℕ) → Bytes b → StartGives clipped_record_start b amount new count → ReadsBack b amount true new count
reads_back_start b amount new count w G =
    let g = start_given b amount new count G in
    let r = reads_back b amount true g.change w (passed b amount true g.change g.fate_is) in
    subst (λ (n : ℕ). ReadsBack b amount true new n) g.count-is (subst (λ (l : List ℕ). ReadsBack b amount true l g.change.count) g.record_is r)

-- `clip_record_end`: there the count is 0
pub reads_back_end : (b : List ℕ) (amount : ℕ) (new : List ℕ) → Bytes b → EndGives clipped_record_end b amount new → ReadsBack b amount false new 0
reads_back_end b amount new w G =
    let g = end_given b amount new G in
    let p = passed b amount false g.change g.fate_is in
    subst (λ (n : ℕ). ReadsBack b amount false new n) p.count-is (subst (λ (l : List ℕ). ReadsBack b amount false l g.change.count) g.record_is (reads_back b amount false g.change w p))

-- `get_cigar_ops` of what was written copies the clipped list
same_ops : (new ys d : List ℕ) → 32 ≤ length new → record_ops new ≡ ys → get_ops new d ≡ copied_ops ys d
unfolding get_ops
same_ops new ys d l e = simp (le-ltb (length new) 32 l) (ap (λ (xs : List ℕ). copied_ops xs d) e)

pub ops_of_start : (b : List ℕ) (amount : ℕ) (new : List ℕ) (count : ℕ) → Bytes b → StartGives clipped_record_start b amount new count
    → (d : List ℕ) → get_ops new d ≡ copied_ops (clipped_ops (record_ops b) amount true) d
ops_of_start b amount new count w G d = let r = reads_back_start b amount new count w G in same_ops new (clipped_ops (record_ops b) amount true) d r.long r.ops

pub ops_of_end : (b : List ℕ) (amount : ℕ) (new : List ℕ) → Bytes b → EndGives clipped_record_end b amount new → (d : List ℕ) → get_ops new d ≡ copied_ops (clipped_ops (record_ops b) amount false) d
ops_of_end b amount new w G d = let r = reads_back_end b amount new w G in same_ops new (clipped_ops (record_ops b) amount false) d r.long r.ops

-- ---- DEMAND 3 for records: "a then b gives b's" record, bin and all, "and the two counts add to b's count". s holds the list xs, a wrote r of it, and b writes t

-- what demand 3 says of the lists
abbrev ListsTwice : Bool → ℕ → ℕ → List ℕ → Type 0
ListsTwice start a b xs =
    (clipped_ops (clipped_ops xs a start) b start ≡ clipped_ops xs b start)
    × (clipped_count xs a start + clipped_count (clipped_ops xs a start) b start ≡ clipped_count xs b start)
    × (is_beyond (clipped_ops xs a start) b start ≡ false)

lists_twice : {limit : ℕ} (start : Bool) (xs : List ℕ) (T : Takes limit xs) (a b : ℕ) → b ≤ most T.shape start → Further start xs a b (clipped_ops xs a start) → ListsTwice start a b xs
lists_twice start xs T a b h F =
    let t = rule-twice xs start T a b F in
    let m = most_is xs start T in
    let k = still xs start T a in
    (t.0, t.1, not_within (clipped_ops xs a start) b start (omega arith))

module _ (start : Bool) (s xs : List ℕ) (a b : ℕ) (w : Bytes s) (G : Given most_ops InRecord start s xs b) (c₁ c₂ : Change)
    (e₁ : clipped_fate s a start ≡ Becomes c₁) (e₂ : clipped_fate s b start ≡ Becomes c₂) (F : Further start xs a b (record_ops (new_record s c₁))) where
  ops_left : record_ops (new_record s c₁) ≡ clipped_ops xs a start
  ops_left =
      let P = passed s a start c₁ e₁ in
      ops_back s c₁ (holdable s a start c₁ w P) ∙ P.ops_is ∙ ap (λ (l : List ℕ). clipped_ops l a start) G.holds.1

  twice_lists : ListsTwice start a b (record_ops s)
  twice_lists = subst⁻¹ (ListsTwice start a b) G.holds.1 (lists_twice start xs G.takes a b G.within (subst (Further start xs a b) ops_left F))

  -- the change from the record that a wrote
  then_change : Change
  then_change = further s a b start c₁ c₂ w (passed s a start c₁ e₁) (passed s b start c₂ e₂) twice_lists.0 twice_lists.1 twice_lists.2

  then_fate : clipped_fate (new_record s c₁) b start ≡ Becomes then_change
  unfolding then_change
  then_fate = fate_then s a b start c₁ c₂ w (passed s a start c₁ e₁) (passed s b start c₂ e₂) twice_lists.0 twice_lists.1 twice_lists.2

  then_record : new_record (new_record s c₁) then_change ≡ new_record s c₂
  unfolding then_change
  then_record = record_then s a b start c₁ c₂ w (passed s a start c₁ e₁) (passed s b start c₂ e₂) twice_lists.0 twice_lists.1 twice_lists.2

  then_counts : c₁.count + then_change.count ≡ c₂.count
  unfolding then_change
  then_counts = counts_add s a b start c₁ c₂ w (passed s a start c₁ e₁) (passed s b start c₂ e₂) twice_lists.0 twice_lists.1 twice_lists.2

pub twice_start : (s xs : List ℕ) (a b : ℕ) → Bytes s → Given most_ops InRecord true s xs b
    → (r : List ℕ) (first : ℕ) → StartGives clipped_record_start s a r first
    → (t : List ℕ) (whole : ℕ) → StartGives clipped_record_start s b t whole
    → Further true xs a b (record_ops r) → StartTwice clipped_record_start r b first t whole
twice_start s xs a b w G r first A t whole B F =
    let x = start_given s a r first A in
    let y = start_given s b t whole B in
    let F' = subst⁻¹ (λ (l : List ℕ). Further true xs a b (record_ops l)) x.record_is F in
    let c = then_change true s xs a b w G x.change y.change x.fate_is y.fate_is F' in
    let f = then_fate true s xs a b w G x.change y.change x.fate_is y.fate_is F' in
    let e = then_record true s xs a b w G x.change y.change x.fate_is y.fate_is F' in
    let k = then_counts true s xs a b w G x.change y.change x.fate_is y.fate_is F' in
    record {
      second = c.count;
      then_b =
          subst (λ (l : List ℕ). StartGives clipped_record_start l b t c.count) x.record_is
          (subst (λ (l : List ℕ). StartGives clipped_record_start (new_record s x.change) b l c.count) (e ∙ y.record_is) (start_gives (new_record s x.change) b c f));
      counts_add = ap (λ (n : ℕ). n + c.count) (sym x.count-is) ∙ k ∙ y.count-is;
    }

pub twice_end : (s xs : List ℕ) (a b : ℕ) → Bytes s → Given most_ops InRecord false s xs b
    → (r : List ℕ) → EndGives clipped_record_end s a r
    → (t : List ℕ) → EndGives clipped_record_end s b t
    → Further false xs a b (record_ops r) → EndGives clipped_record_end r b t
twice_end s xs a b w G r A t B F =
    let x = end_given s a r A in
    let y = end_given s b t B in
    let F' = subst⁻¹ (λ (l : List ℕ). Further false xs a b (record_ops l)) x.record_is F in
    let c = then_change false s xs a b w G x.change y.change x.fate_is y.fate_is F' in
    let f = then_fate false s xs a b w G x.change y.change x.fate_is y.fate_is F' in
    let e = then_record false s xs a b w G x.change y.change x.fate_is y.fate_is F' in
    subst (λ (l : List ℕ). EndGives clipped_record_end l b t) x.record_is
    (subst (λ (l : List ℕ). EndGives clipped_record_end (new_record s x.change) b l) (e ∙ y.record_is) (end_gives (new_record s x.change) b c f))
