-- The record that a plan is for: its size, its places, and its parts put together.
use Prim.Native.Nat.{ℕ, ◌+◌, ◌-◌, ◌*◌, ◌/◌, ◌≤◌}
use mathlib.Core.Path.{◌≡◌, sym, ap, ◌∙◌}
use mathlib.Core.Bool.{Bool}
use mathlib.Core.List.{List, ◌++◌, append_assoc}
use native.Mathlib.Omega.{arith}
use lib.ListN.{length, length-append}
use Rattle.lists.specs.Lists.{splice}
use Rattle.lists.proofs.ListLaws.{length_splice, two_parts}
use Rattle.sam.specs.Record.{name_len_of, ops_in, ops_start, op_count_of, tags_start, op_bytes}
use Rattle.sam.proofs.PartLaws.{length_op_bytes}
use Rattle.oplist.specs.Ops.{record_ops}
use Rattle.oplist.specs.Few.{length_ops_in}
use Rattle.record_rules.specs.Written.{new_header, new_name, new_ops, new_bases, new_quals, new_tags, new_record}
use Rattle.record_rules.specs.InnerPlan.{change_by, planned_ops, Fits}
use Rattle.record_rules.specs.declared.RecordPlan.{RecordPlan}
use Rattle.record_rules.proofs.PlanLaws.{ops_lie, planned_count, ops_left}
use Rattle.record_rules.proofs.PartLaws.{front_size, record_size}

module _ (b : List ℕ) (start : Bool) (p : RecordPlan) (F : Fits b p) where
  pub size_is : (n : ℕ) → n ≡ 32 + name_len_of b + (4 * p.n + ((p.len + 1) / 2 + (p.len + (length b - tags_start b)))) → n ≡ length (new_record b (change_by b start p))
  size_is n e = let s = record_size b (change_by b start p) F.whole F.bases_in in let k = ops_left b start p F in omega arith

  -- its places lie within memory that it fits
  pub ops_fit : (m at n : ℕ) → length (new_record b (change_by b start p)) ≤ m → at ≡ ops_start b → n ≡ op_count_of b
      → (p.ops.skip ≤ n) × (at + 4 * n ≤ length b) × (at + 4 * (p.ops.heads + (n - p.ops.skip)) ≤ m)
  ops_fit m at n h ea en =
      let s = record_size b (change_by b start p) F.whole F.bases_in in
      let k = ops_left b start p F in
      (omega (arith, F.skip_in), omega (arith, F.whole), omega (arith, F.n-is, F.skip_in))

  pub front_fit : (m : ℕ) → length (new_record b (change_by b start p)) ≤ m → 32 + name_len_of b ≤ m
  front_fit m h = let s = record_size b (change_by b start p) F.whole F.bases_in in omega arith

  tail_fit : (m at : ℕ) → length (new_record b (change_by b start p)) ≤ m → at ≡ ops_start b → at + 4 * p.n + ((p.len + 1) / 2 + (p.len + (length b - tags_start b))) ≤ m
  tail_fit m at h ea = let s = record_size b (change_by b start p) F.whole F.bases_in in let k = ops_left b start p F in omega arith

  -- also when front and ops are written
  pub tail_room : (d d₁ d₂ : List ℕ) (at n : ℕ) → at ≡ ops_start b → n ≡ op_count_of b → length (new_record b (change_by b start p)) ≤ length d
      → d₁ ≡ splice d 0 (new_header b (change_by b start p) ++ new_name b (change_by b start p)) → d₂ ≡ splice d₁ at (op_bytes (planned_ops start (ops_in b at n) p.ops))
      → at + 4 * p.n + ((p.len + 1) / 2 + (p.len + (length b - tags_start b))) ≤ length d₂
  tail_room d d₁ d₂ at n ea en f q₁ q₂ =
      let c = change_by b start p in
      let s = front_size b c F.whole F.bases_in in
      let g = tail_fit (length d) at f ea in
      let l₁ = ap length q₁ ∙ length_splice d 0 (new_header b c ++ new_name b c) (omega arith) in
      let x = length_ops_in b at n in
      let m = planned_count start (ops_in b at n) p.ops F.heads_in (omega (arith, F.skip_in)) in
      let o = length_op_bytes (planned_ops start (ops_in b at n) p.ops) in
      let k : length (planned_ops start (ops_in b at n) p.ops) ≡ p.n = omega (arith, F.n-is, F.skip_in) in
      let l₂ = ap length q₂ ∙ length_splice d₁ at (op_bytes (planned_ops start (ops_in b at n) p.ops)) (omega arith) in
      omega arith

  -- front, ops, tail
  pub record_is : (d d₁ d₂ d₃ : List ℕ) (at n : ℕ) → at ≡ ops_start b → n ≡ op_count_of b → length (new_record b (change_by b start p)) ≤ length d
      → d₁ ≡ splice d 0 (new_header b (change_by b start p) ++ new_name b (change_by b start p)) → d₂ ≡ splice d₁ at (op_bytes (planned_ops start (ops_in b at n) p.ops))
      → d₃ ≡ splice d₂ (at + 4 * p.n) (new_bases b (change_by b start p) ++ (new_quals b (change_by b start p) ++ new_tags b (change_by b start p)))
      → d₃ ≡ splice d 0 (new_record b (change_by b start p))
  unfolding new_record
  record_is d d₁ d₂ d₃ at n ea en f q₁ q₂ q₃ =
      let c = change_by b start p in
      let z : List ℕ = new_bases b c ++ (new_quals b c ++ new_tags b c) in
      let k = ops_left b start p F in
      let g = tail_fit (length d) at f ea in
      let s = front_size b c F.whole F.bases_in in
      let l = length_op_bytes c.ops in
      let m = length-append (new_header b c ++ new_name b c) (new_ops b c) in
      let o : ops_in b at n ≡ record_ops b = ap (λ (i : ℕ). ops_in b i n) ea ∙ ap (ops_in b (ops_start b)) en ∙ sym (ops_lie b F.whole) in
      two_parts d d₂ d₃ 0 (at + 4 * p.n) ((new_header b c ++ new_name b c) ++ new_ops b c) z (omega arith) (omega arith)
      (two_parts d d₁ d₂ 0 at (new_header b c ++ new_name b c) (new_ops b c) (omega arith) (omega arith) q₁
      (q₂ ∙ ap (λ (xs : List ℕ). splice d₁ at (op_bytes (planned_ops start xs p.ops))) o))
      q₃
      ∙ ap (splice d 0) (append_assoc (new_header b c ++ new_name b c) (new_ops b c) z ∙ append_assoc (new_header b c) (new_name b c) (new_ops b c ++ z))
