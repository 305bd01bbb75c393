-- The ops of a clipped record, as the writers leave them.
use Prim.Native.Nat.{ℕ, ◌+◌, ◌-◌, ◌*◌, ◌≤◌, ◌<◌}
use mathlib.Core.Path.{◌≡◌, sym, ap, ◌∙◌}
use mathlib.Core.List.{List, ◌++◌, reverse, reverse-append}
use native.Mathlib.Omega.{arith}
use lib.ListN.{length, get_or, take, drop}
use Rattle.lists.specs.Lists.{splice}
use Rattle.lists.proofs.ListLaws.{two_parts, reverse_drop}
use Rattle.sam.specs.Record.{ops_in, op_bytes}
use Rattle.sam.proofs.PartLaws.{length_op_bytes, ops_append, ops_stand, drop_ops, take_ops}
use Rattle.oplist.specs.Few.{length_ops_in}

module _ (b d d₁ d₂ : List ℕ) (area n skip at : ℕ) (vs : List ℕ) (w : (i : ℕ) → get_or b i 0 < 256) (s : skip ≤ n) (f : area + 4 * n ≤ length b) where
  -- heads, then the ops from place skip on
  pub ops_start : (heads : ℕ) → length vs ≡ heads → at + 4 * heads ≤ length d → d₁ ≡ splice d at (op_bytes vs)
      → d₂ ≡ splice d₁ (at + 4 * heads) (take (4 * (n - skip)) (drop (area + 4 * skip) b))
      → d₂ ≡ splice d at (op_bytes (vs ++ drop skip (ops_in b area n)))
  ops_start heads e g p q =
      let l = length_op_bytes vs in
      two_parts d d₁ d₂ at (at + 4 * heads) (op_bytes vs) (op_bytes (drop skip (ops_in b area n))) (omega arith) g p
      (q ∙ ap (splice d₁ (at + 4 * heads))
      (ops_stand b (area + 4 * skip) (n - skip) w (omega arith) ∙ ap op_bytes (sym (drop_ops b area n skip s))))
      ∙ ap (splice d at) (sym (ops_append vs (drop skip (ops_in b area n))))

  -- the ops but for the last skip, then heads in reverse
  pub ops_end : (ws : List ℕ) → ws ≡ reverse vs → at + 4 * (n - skip) ≤ length d → d₁ ≡ splice d at (take (4 * (n - skip)) (drop area b))
      → d₂ ≡ splice d₁ (at + 4 * (n - skip)) (op_bytes ws)
      → d₂ ≡ splice d at (op_bytes (reverse (vs ++ drop skip (reverse (ops_in b area n)))))
  ops_end ws e g p q =
      let xs : List ℕ = ops_in b area n in
      let m : length xs ≡ n = length_ops_in b area n in
      let k : length (ops_in b area (n - skip)) ≡ n - skip = length_ops_in b area (n - skip) in
      let l = length_op_bytes (ops_in b area (n - skip)) in
      let t : ops_in b area (n - skip) ≡ reverse (drop skip (reverse xs)) =
      sym (take_ops b area n (n - skip) (omega arith)) ∙ ap (λ (i : ℕ). take (i - skip) xs) (sym m) ∙ sym (reverse_drop xs skip (omega arith)) in
      two_parts d d₁ d₂ at (at + 4 * (n - skip)) (op_bytes (ops_in b area (n - skip))) (op_bytes ws) (omega arith) g
      (p ∙ ap (splice d at) (ops_stand b area (n - skip) w (omega arith))) q
      ∙ ap (splice d at)
      (sym (ops_append (ops_in b area (n - skip)) ws)
      ∙ ap (λ (v : List ℕ). op_bytes (v ++ ws)) t
      ∙ ap (λ (v : List ℕ). op_bytes (reverse (drop skip (reverse xs)) ++ v)) e
      ∙ ap op_bytes (sym (reverse-append vs (drop skip (reverse xs)))))
