-- What the walks found is what the definition sums: a run of clips has no reference base, and of query bases the soft ones.
use mathlib.Core.Path.{◌≡◌, refl, sym, ap, ◌∙◌}
use Rattle.std.specs.Prelude.{Ok}
use Rattle.answers.specs.Answer.{Answer}
use Rattle.length_rules.specs.declared.RecordLengths.{RecordLengths}
use mathlib.Core.Bool.{false}
use mathlib.Core.List.{List, [], ◌∷◌}
use Prim.Native.Nat.{ℕ, ◌+◌, ◌-◌, ◌<◌}
use native.Mathlib.Omega.{arith}
use lib.IntN.{ℤ}
use lib.ListN.{length, drop}
use Rattle.lists.specs.Lists.{facing, sum_of}
use Rattle.sam.specs.Op.{ref_len, query_len}
use Rattle.ops.specs.Ops.{is_clip}
use Rattle.lists.specs.Runs.{leading, holds}
use Rattle.clip_run_rules.specs.Clips.{leading_soft, leading_hard, has_inner, trailing_soft, trailing_hard}
use Rattle.clip_run_rules.specs.InnerWalked.{RunIs}
use Rattle.clip_run_rules.proofs.RunLaws.{soft_found, hard_found}
use Rattle.clip_run_rules.proofs.EndLaws.{none_soft, none_hard, some_soft, some_hard, run_refs, run_query, clips_refs, clips_query, clips_only, some_inner, parted}
use Rattle.list_lengths.specs.InnerLengths.{of_clips}
use Rattle.length_rules.specs.Lengths.{as_int, list_lengths}

-- the answer of six numbers
abbrev six : ℤ → ℕ → ℕ → ℕ → ℕ → ℕ → Answer RecordLengths
six z q a b c d = Ok (record { reference = z; query = q; leading = record { soft = a; hard = b }; trailing = record { soft = c; hard = d } })

-- of no op
pub no_ops : (xs : List ℕ) → length xs ≡ 0 → Ok (of_clips 0 0) ≡ list_lengths xs
unfolding as_int sum_of leading leading_soft leading_hard holds has_inner trailing_soft trailing_hard
no_ops [] e = refl
no_ops (o ∷ xs) e = absurd (omega arith)

module _ {xs : List ℕ} {soft hard next : ℕ} (L : RunIs xs 0 is_clip soft hard next) where
  pub only_clips : next ≡ length xs → Ok (of_clips soft hard) ≡ list_lengths xs
  unfolding as_int
  only_clips e =
      let i = clips_only L e in
      rw (clips_refs xs i, clips_query xs i, none_soft xs i, none_hard xs i, soft_found L, hard_found L)

  module _ {s h k : ℕ} (T : RunIs (facing false xs) 0 is_clip s h k) where
    module _ (n m : ℕ) (e : n ≡ length xs) (g : m + sum_of ref_len (drop (n - k) xs) ≡ sum_of ref_len (drop next xs)) where
      pub refs_are : m ≡ sum_of ref_len xs
      refs_are = omega (arith, parted L T ref_len n m e g, run_refs xs, run_refs (facing false xs))

      pub six-are : (z : ℤ) → as_int m ≡ Ok z → next < length xs
          → (q : ℕ) → q + sum_of query_len (drop (n - k) xs) ≡ sum_of query_len (drop next xs)
          → six z (soft + q + s) soft hard s h ≡ list_lengths xs
      six-are z w l q f =
          let i = some_inner L l in
          let y : soft + q + s ≡ sum_of query_len xs =
          omega (arith, parted L T query_len n q e f, run_query xs, run_query (facing false xs), soft_found L, soft_found T) in
          rw (sym (ap as_int refs_are) ∙ w, y, soft_found L, hard_found L, some_soft xs i, some_hard xs i, soft_found T, hard_found T)
