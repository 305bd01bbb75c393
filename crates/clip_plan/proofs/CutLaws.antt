-- A clip that ends within the first op, an M, = or X: there are no clips, and the taking cuts that op.
use Prim.Native.Nat.{ℕ, ◌+◌, ◌-◌, ◌<◌}
use mathlib.Core.Path.{◌≡◌, refl, sym, ap, ◌∙◌}
use mathlib.Core.Bool.{Bool, false}
use mathlib.Core.List.{List, ◌∷◌}
use native.Mathlib.Omega.{arith}
use lib.ListN.{length, get_or, drop}
use lib.Dec.{eqb}
use borrow.Author.Tests.{lt-leb, ne_eqb}
use Rattle.lists.specs.Lists.{facing, sum_of}
use Rattle.lists.proofs.Walks.{step}
use Rattle.sam.specs.Op.{len_of, code_of, op_of}
use Rattle.ops.specs.Ops.{read_len, is_clip}
use Rattle.clip_run_rules.specs.Clips.{is_soft, is_hard, run, after_run, leading_clips, outer_hard, next_soft, inside}
use Rattle.clip_run_rules.specs.InnerWalked.{OuterIs}
use Rattle.clip_run_rules.proofs.RunLaws.{run_out, rest_out, other_op}
use Rattle.clip_rules.specs.Clipping.{goes, taking}
use Rattle.clip_rules.specs.Answer.{is_beyond}
use Rattle.clip_rules.specs.InnerPlan.{TakingIs, PlanIs}
use Rattle.clip_rules.proofs.CodeLaws.{read_S, read_H}
use Rattle.clip_rules.proofs.RuleLaws.{taken_eq, more_none, goes_some, goes_stop, stop_cut, clip-cut}
use Rattle.clip_rules.proofs.BeyondLaws.{enough-within}

module _ (xs : List ℕ) (o a : ℕ) (e : xs ≡ o ∷ drop 1 xs) (h : a < read_len o) where
  not_soft : eqb (code_of o) 4 ≡ false
  not_soft = ne_eqb (code_of o) 4 (λ q. let z = read_S o q in omega arith)

  not_hard : eqb (code_of o) 5 ≡ false
  not_hard = ne_eqb (code_of o) 5 (λ q. let z = read_H o q in omega arith)

  no_clips : 0 ≡ leading_clips xs
  unfolding leading_clips
  no_clips = sym (ap (λ (l : List ℕ). sum_of len_of (run is_clip l)) e ∙ run_out is_clip o (drop 1 xs) len_of (other_op o not_soft not_hard))

  after_hard : after_run is_hard xs ≡ o ∷ drop 1 xs
  after_hard = ap (after_run is_hard) e ∙ rest_out is_hard o (drop 1 xs) not_hard

  no_outer : OuterIs xs 0 0 0
  unfolding outer_hard next_soft inside
  no_outer =
      record {
        hard_is = sym (ap (λ (l : List ℕ). sum_of len_of (run is_hard l)) e ∙ run_out is_hard o (drop 1 xs) len_of not_hard);
        soft_is = sym (ap (λ (l : List ℕ). sum_of len_of (run is_soft l)) after_hard ∙ run_out is_soft o (drop 1 xs) len_of not_soft);
        rest-is = e ∙ sym (ap (after_run is_soft) after_hard ∙ rest_out is_soft o (drop 1 xs) not_soft);
        next_in = omega arith;
      }

  module _ (some : a ≡ 0 → ⊥) (other : code_of o ≡ 1 → ⊥) (rest : ℕ) (left : rest ≡ op_of (len_of o - a) (code_of o)) where
    stays : goes a o ≡ false
    stays = sym (goes_some a o (read_len o) some refl) ∙ lt-leb (read_len o) a h

    first_taken : TakingIs xs 0 (a - 0) 1 a a 1 rest
    first_taken =
        let k : a ≡ a - 0 = omega arith in
        let n = ap length e in
        record {
          taken_is = taken_eq refl (omega arith) (omega arith)
              ∙ stop_cut xs 0 a o 0 0 rest some other left
              ∙ more_none _
              ∙ sym (goes_stop a xs 0 o e stays)
              ∙ ap (taking xs) k;
          next_in = omega arith;
          cut_in = omega arith;
        }

pub first_plan : (zs : List ℕ) (start : Bool) (o a first rest : ℕ) → o ≡ get_or (facing start zs) 0 0 → 0 < length (facing start zs) → (a ≡ 0 → ⊥) → (code_of o ≡ 1 → ⊥) × (a < read_len o)
    → first ≡ op_of a 5 → rest ≡ op_of (len_of o - a) (code_of o) → (is_beyond zs a start ≡ false) × PlanIs (facing start zs) a 1 2 first rest a
first_plan zs start o a first rest q n some w f r =
    let xs : List ℕ = facing start zs in
    let e : xs ≡ o ∷ drop 1 xs = step xs 0 o q n in
    let E : 0 ≡ leading_clips xs = no_clips xs o a e w.1 in
    let O : OuterIs xs 0 0 0 = no_outer xs o a e w.1 in
    let T : TakingIs xs 0 (a - 0) 1 a a 1 rest = first_taken xs o a e w.1 some w.0 rest r in
    let k : 0 < a = omega arith in
    let z : a ≡ 0 + 0 + a = omega arith in (
      enough-within zs a start E O k T (omega arith),
      record { cut_is = clip-cut E O a some (λ m. omega arith) first k T (f ∙ ap (λ (i : ℕ). op_of i 5) z); skip_in = T.next_in; heads_in = omega arith },
    )
