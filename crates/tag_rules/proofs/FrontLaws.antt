-- What a record's front says stays, whatever bytes follow it.
use Prim.Native.Nat.{ℕ, zero, suc, ◌+◌, ◌*◌, ◌≤◌, ◌<◌}
use mathlib.Core.Path.{◌≡◌, refl, sym, ap, ◌∙◌}
use mathlib.Core.List.{List, ◌∷◌, ◌++◌}
use native.Mathlib.Omega.{arith}
use lib.ListN.{length, length-append, get_or-append}
use Rattle.sam.specs.Record.{byte_at, le32, op_count_of, seq_len_of, ops_start, ops_end, ops_in, tags_start}
use Rattle.oplist.specs.Ops.{record_ops}
use Rattle.tag_rules.proofs.ListLaws.{area_in}

module _ (p q : List ℕ) where
  kept : (i : ℕ) → i < length p → byte_at (p ++ q) i ≡ byte_at p i
  kept i h = get_or-append p q 0 i h

  kept_number : (i : ℕ) → i + 4 ≤ length p → le32 (p ++ q) i ≡ le32 p i
  kept_number i h = simp (kept i (omega arith), kept (i + 1) (omega arith), kept (i + 2) (omega arith), kept (i + 3) (omega arith))

  kept_ops : (at n : ℕ) → at + 4 * n ≤ length p → ops_in (p ++ q) at n ≡ ops_in p at n
  unfolding ops_in
  kept_ops at zero h = refl
  kept_ops at (suc n) h =
      ap (λ (k : ℕ). k ∷ ops_in (p ++ q) (at + 4) n) (kept_number at (omega arith)) ∙ ap (λ (l : List ℕ). le32 p at ∷ l) (kept_ops (at + 4) n (omega arith))

  module _ (h : 32 ≤ length p) where
    pub front-seq : seq_len_of (p ++ q) ≡ seq_len_of p
    front-seq = kept_number 16 (omega arith)

    pub front-start : ops_start (p ++ q) ≡ ops_start p
    front-start = ap (λ (k : ℕ). 32 + k) (kept 8 (omega arith))

    pub front-count : op_count_of (p ++ q) ≡ op_count_of p
    front-count = simp (kept 12 (omega arith), kept 13 (omega arith))

    pub front-end : ops_end (p ++ q) ≡ ops_end p
    front-end = let a = front-start in let b = front-count in omega arith

    pub front-tags : tags_start (p ++ q) ≡ tags_start p
    front-tags = let a = front-end in let b = front-seq in omega arith

    pub front-ops : ops_end p ≤ length p → record_ops (p ++ q) ≡ record_ops p
    front-ops k =
        let l = length-append p q in
        let e = front-end in
        area_in (p ++ q) (omega arith)
        ∙ ap (λ (n : ℕ). ops_in (p ++ q) n (op_count_of (p ++ q))) front-start
        ∙ ap (ops_in (p ++ q) (ops_start p)) front-count
        ∙ kept_ops (ops_start p) (op_count_of p) k
        ∙ sym (area_in p k)
