-- Runs are written one behind the other.
use Prim.Native.Nat.{ℕ, ◌+◌, ◌≤◌, ◌<◌}
use mathlib.Core.Path.{◌≡◌, refl, sym, ap, ◌∙◌}
use mathlib.Core.List.{List, [], ◌∷◌}
use native.Mathlib.Omega.{arith}
use lib.ListN.{length, set, length-append}
use Rattle.lists.specs.Lists.{splice}
use Rattle.lists.proofs.ListLaws.{splice_nil, splice_one, two_parts}
use Rattle.md_rules.specs.InnerWalk.{run_of, pair_of}
use Rattle.md_rules.proofs.RunLaws.{pair_is}

-- where a writer from a place has come to, and what it has left
abbrev pub Put : List ℕ → ℕ → List ℕ → ℕ → List ℕ → Type 0
Put d place vs next e = (next ≡ place + length vs) × (e ≡ splice d place vs)

module _ (d : List ℕ) (place : ℕ) where
  pub put_none : {vs : List ℕ} → vs ≡ [] → Put d place vs place d
  put_none v = rw v (omega arith, sym (splice_nil d place))

  pub put_one : (o : ℕ) {vs : List ℕ} → vs ≡ o ∷ [] → place < length d → Put d place vs (place + 1) (set d place o)
  put_one o v h = rw v (refl, splice_one d place o h)

  pub put_two : (e g : List ℕ) (next last : ℕ) (k m : ℕ) → Put d place (run_of k 8) next e → Put e next (run_of m 7) last g → place + length (pair_of k m) ≤ length d → Put d place (pair_of k m) last g
  put_two e g next last k m p q h =
      let v = pair_is k m {rs = run_of k 8} {ss = run_of m 7} refl refl in
      let l = ap length v ∙ length-append (run_of k 8) (run_of m 7) in
      (omega (arith, p.0, q.0, l), two_parts d e g place next (run_of k 8) (run_of m 7) (sym p.0) (omega (arith, p.0, l, h)) p.1 q.1 ∙ ap (splice d place) (sym v))

pub pair_length : (k m : ℕ) → length (pair_of k m) ≡ length (run_of k 8) + length (run_of m 7)
pair_length k m = ap length (pair_is k m {rs = run_of k 8} {ss = run_of m 7} refl refl) ∙ length-append (run_of k 8) (run_of m 7)
