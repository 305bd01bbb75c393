-- A byte of a text takes the row and its ops one byte on, by what `effect_of` says of it.
use Prim.Native.Nat.{ℕ, ◌+◌, ◌≤◌, ◌<◌}
use mathlib.Core.Path.{◌≡◌, refl, ◌∙◌}
use mathlib.Core.Bool.{Bool, true, false, not}
use mathlib.Core.List.{List, [], ◌∷◌}
use native.Mathlib.Omega.{arith}
use lib.ListN.{length, get_or, drop}
use lib.Dec.{ltb}
use borrow.Author.Tests.{lt-ltb, le-ltb}
use Rattle.lists.proofs.Walks.{step, done}
use Rattle.sam.specs.Op.{op_of}
use Rattle.tokens.specs.InnerToken.{OpAt, NoneAt}
use Rattle.text_rules.specs.Text.{Effect, effect_of, row_from, ops_from}

-- ---- one byte on

abbrev RowOps : ℕ → Bool → List ℕ → Bool → List ℕ → Type 0
RowOps num some s row ops = (row_from num some s ≡ row) × (ops_from num s ≡ ops)

module _ (s : List ℕ) (i num b : ℕ) (some : Bool) (e : b ≡ get_or s i 0) (h : i < length s) where
  pub on_digit : (v : ℕ) → effect_of num b ≡ Effect.Number v → RowOps num some (drop i s) (row_from v true (drop (i + 1) s)) (ops_from v (drop (i + 1) s))
  unfolding row_from ops_from
  on_digit v n = let d = step s i b e h in (rw (d, n), rw (d, n))

  pub on_letter : (c : ℕ) → effect_of num b ≡ Effect.Letter c
      → RowOps num some (drop i s) (row_from 0 false (drop (i + 1) s)) (op_of num c ∷ ops_from 0 (drop (i + 1) s))
  unfolding row_from ops_from
  on_letter c n = let d = step s i b e h in (rw (d, n), rw (d, n))

  pub on_bad : effect_of num b ≡ Effect.Bad → RowOps num some (drop i s) false []
  unfolding row_from ops_from
  on_bad n = let d = step s i b e h in (rw (d, n), rw (d, n))

pub at-end : (s : List ℕ) (i num : ℕ) (some : Bool) → length s ≤ i → RowOps num some (drop i s) (not some) []
unfolding row_from ops_from
at-end s i num some h = let d = done s i h in (rw d, rw d)

-- ---- an op, byte by byte: what stands from place `at` on is what is left at i after the number num

abbrev pub Reading : List ℕ → ℕ → ℕ → ℕ → Type 0
Reading s at i num = (row_from 0 false (drop at s) ≡ row_from num (ltb at i) (drop i s)) × (ops_from 0 (drop at s) ≡ ops_from num (drop i s))

pub reading : (s : List ℕ) (at : ℕ) → Reading s at at 0
reading s at = (rw (le-ltb at at (omega arith)) refl, refl)

module _ (s : List ℕ) (at i num : ℕ) (r : Reading s at i num) where
  pub read_bad : i < length s → effect_of num (get_or s i 0) ≡ Effect.Bad → NoneAt s at
  read_bad h n = let d = on_bad s i num (get_or s i 0) (ltb at i) refl h n in record { row = r.0 ∙ d.0; ops = r.1 ∙ d.1 }

  pub read_digit : (v : ℕ) → i < length s → at ≤ i → effect_of num (get_or s i 0) ≡ Effect.Number v → Reading s at (i + 1) v
  read_digit v h l n =
      let d = on_digit s i num (get_or s i 0) (ltb at i) refl h v n in
      (r.0 ∙ d.0 ∙ rw (lt-ltb at (i + 1) (omega arith)) refl, r.1 ∙ d.1)

  pub read_letter : (c : ℕ) → i < length s → at < i → 0 < num → num ≤ 268435455 → c < 9 → effect_of num (get_or s i 0) ≡ Effect.Letter c → OpAt s at num c (i + 1)
  read_letter c h l some most known n =
      let d = on_letter s i num (get_or s i 0) (ltb at i) refl h c n in
      record { ahead = omega arith; inside = omega arith; some = some; most = most; known = known; row = r.0 ∙ d.0; ops = r.1 ∙ d.1 }

  pub read_end : length s ≤ i → at < i → NoneAt s at
  read_end h l =
      let d = at-end s i num (ltb at i) h in
      record { row = r.0 ∙ d.0 ∙ rw (lt-ltb at i l) refl; ops = r.1 ∙ d.1 }
