-- What is answered of a text, one test after another: of each case the answer that is due.
use Prim.Native.Nat.{ℕ, ◌≤◌, ◌<◌}
use Rattle.std.specs.Prelude.{Some, None, Option, Err, Ok}
use mathlib.Core.Path.{◌≡◌, refl, ap}
use mathlib.Core.Bool.{Bool, true, false, cond, ◌&&◌}
use mathlib.Core.List.{List}
use lib.IntN.{ℤ, pos}
use lib.ListN.{length}
use borrow.Author.Tests.{lt-ltb, le-ltb}
use Rattle.lists.specs.Lists.{sum_of, splice}
use Rattle.lists.proofs.Absurd.{never}
use Rattle.signed.specs.Whole.{clamp32}
use Rattle.sam.specs.Op.{ref_len}
use Rattle.oplist.specs.Ops.{most_ops}
use Rattle.answers.specs.Settled.{keeps}
use Rattle.answers.specs.declared.Refusal.TheVariants.{NotACigar, TooManyOps, NoRoom}
use Rattle.answers.proofs.Unique.{outcome}
use Rattle.text_rules.specs.Text.{is_row, text_ops}
use Rattle.text_rules.specs.Valid.{valid_mapped}
use Rattle.text_rules.specs.Strict.{strict}
use Rattle.parsed_rules.specs.Parsed.{measured_text, parsed}
use Rattle.parsed_rules.specs.declared.Measured.{Measured}

-- ---- the reader

module _ (s d : List ℕ) where
  pub not_strict : strict s ≡ false → parsed s d ≡ keeps (Err NotACigar) d
  unfolding parsed
  not_strict e = rw e refl

  module _ (n : ℕ) (t : strict s ≡ true) (k : length (text_ops s) ≡ n) where
    pub too_many : most_ops < n → parsed s d ≡ keeps (Err TooManyOps) d
    unfolding parsed
    too_many h = rw (t, k, lt-ltb most_ops n h) refl

    pub no_place : n ≤ most_ops → length d < n → parsed s d ≡ keeps (Err NoRoom) d
    unfolding parsed
    no_place h l = rw (t, k, le-ltb most_ops n h, lt-ltb (length d) n l) refl

    pub all_told : n ≤ most_ops → n ≤ length d → (e : List ℕ) → e ≡ splice d 0 (text_ops s) → parsed s d ≡ record { answer = Ok n; left = e }
    unfolding parsed
    all_told h l e q = rw (t, k, le-ltb most_ops n h, le-ltb (length d) n l) (outcome refl q)

-- ---- the measuring pass

-- what the pass says of a list
unfoldable pub measured_ops : List ℕ → Option Measured
measured_ops xs = cond (valid_mapped xs) (Some (record { ops = length xs; refs = clamp32 (pos (sum_of ref_len xs)) })) None

pub row_measured : (s : List ℕ) → cond (is_row s) (measured_ops (text_ops s)) None ≡ measured_text s
unfolding measured_text strict measured_ops
row_measured s = go (is_row s)
  where
    go : (t : Bool) → cond t (measured_ops (text_ops s)) None ≡ cond (t && valid_mapped (text_ops s)) (Some (record { ops = length (text_ops s); refs = clamp32 (pos (sum_of ref_len (text_ops s))) })) None
    go true = refl
    go false = refl

-- ---- which case a measured list or text is

pub ops_bad : (b : Bool) (n : ℕ) (z : ℤ) → cond {A = Option Measured} b (Some (record { ops = n; refs = z })) None ≡ None → b ≡ false
ops_bad true n z e = never (cc)
ops_bad false n z e = refl

pub ops_some : (b : Bool) (n m : ℕ) (z w : ℤ) → cond {A = Option Measured} b (Some (record { ops = n; refs = z })) None ≡ Some (record { ops = m; refs = w }) → (b ≡ true) × (n ≡ m) × (z ≡ w)
ops_some true n m z w e =
    let q : ◌≡◌ {A = Measured} (record { ops = n; refs = z }) (record { ops = m; refs = w }) = cc in
    (refl, ap (λ (v : Measured). v.ops) q, ap (λ (v : Measured). v.refs) q)
ops_some false n m z w e = never (cc)
