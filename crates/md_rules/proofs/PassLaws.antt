-- The two passes over a list: what is passed and what is left make the whole, and what they come to.
use Prim.Native.Nat.{ℕ, zero, suc, ◌+◌, ◌*◌, ◌≤◌, ◌<◌}
use Rattle.std.specs.Prelude.{IsTrue, ◌↔◌}
use Rattle.std.specs.List.{HoldsAt}
use Rattle.std.proofs.lemmas.Bool.Decides.{same_from_decides, Decides-by_or}
use mathlib.Core.Path.{◌≡◌, refl, sym, ap, ◌∙◌}
use mathlib.Core.Bool.{Bool, true, false, cond, ◌||◌}
use mathlib.Core.List.{List, [], ◌∷◌, ◌++◌}
use native.Mathlib.Omega.{arith}
use lib.ListN.{length, get_or, drop, length-append}
use Rattle.lists.specs.Lists.{sum_of, splice}
use Rattle.lists.specs.Runs.{holds}
use Rattle.lists.proofs.Absurd.{false_true}
use Rattle.lists.proofs.ListLaws.{splice_append, splice_nil}
use Rattle.sam.specs.Op.{len_of}
use Rattle.sam.specs.Md.{is_capital, MdColumn}
use Rattle.md_rules.specs.Md.{fits, well_formed, Within.InNumber, columns_from, columns_of}
use Rattle.md_rules.specs.Rule.{is_told, op_agrees, op_leaves, op_told, agrees, told}
use Rattle.md_rules.specs.InnerWalk.{most, Behind, columns_at, columns_here, ReadAt, MayWrite, Measured}
use Rattle.md_rules.specs.declared.Spot.{Spot}
use Rattle.md_rules.specs.declared.Place.TheVariants.{Number}
use Rattle.md_rules.proofs.PlaceLaws.{no_columns, ends_well, letter-columns, must-caret, lost_here}
use Rattle.md_rules.proofs.RunLaws.{used}
use Rattle.md_rules.proofs.OpLaws.{agrees_step, told_step, agrees_end, told_end, left_over, total_fits}

sum_drop : (f : ℕ → ℕ) (i : ℕ) (xs : List ℕ) → sum_of f (drop i xs) ≤ sum_of f xs
unfolding sum_of
sum_drop f zero xs = omega arith
sum_drop f (suc i) [] = omega arith
sum_drop f (suc i) (x ∷ xs) = let h = sum_drop f i xs in omega arith

-- the bases of a list are few
abbrev pub Few : List ℕ → Type 0
Few xs = sum_of len_of xs ≤ most

pub few_bases : (xs : List ℕ) → length xs ≤ 65535 → ((j : ℕ) → get_or xs j 0 < 4294967296) → Few xs
few_bases xs h w = omega (arith, total_fits xs w)

-- ---- i ops are passed

pub record Passed (xs text : List ℕ) (i : ℕ) (s : Spot) : Type 0 where
  pub behind : Behind text s.at
  pub agree : agrees xs (columns_of text) ≡ agrees (drop i xs) (columns_here text s)
  pub counted : s.count + length (told (drop i xs) (columns_here text s)) ≡ length (told xs (columns_of text))
  pub few : s.count ≤ 268435456 * i

module _ (xs text : List ℕ) (n at : ℕ) (r : ReadAt text 0 n at) where
  pub start : Passed xs text 0 (record { at = at; left = n; count = 0 })
  start =
      record {
        behind = record { inside = r.inside; onward = r.onward; apart = r.apart };
        agree = ap (agrees xs) r.columns;
        counted = let u = ap (λ (cs : List MdColumn). length (told xs cs)) (sym r.columns) in omega (arith, u);
        few = omega arith;
      }

-- no number there, or one that is too large
pub no_start : (xs text : List ℕ) → Few xs → (well_formed text ≡ true → most < length (columns_of text)) → well_formed text ≡ true → agrees xs (columns_of text) ≡ false
no_start xs text few u f = go (agrees xs (columns_of text)) refl
  where
    go : (t : Bool) → agrees xs (columns_of text) ≡ t → t ≡ false
    go true q = absurd (omega (arith, few, u f, used xs (columns_of text) q))
    go false q = refl

module _ (xs text : List ℕ) (i : ℕ) (s : Spot) (p : Passed xs text i s) where
  -- where all agree, the columns that are left are few
  pub few_left : Few xs → agrees xs (columns_of text) ≡ true → length (columns_here text s) ≤ most
  few_left few a = omega (arith, few, sum_drop len_of i xs, used (drop i xs) (columns_here text s) (sym p.agree ∙ a))

  module _ (o : ℕ) (e : o ≡ get_or xs i 0) (h : i < length xs) where
    op-agrees : agrees xs (columns_of text) ≡ true → op_agrees o (columns_here text s) ≡ true
    op-agrees a = go (op_agrees o (columns_here text s)) refl (sym (agrees_step xs i o e h (columns_here text s)) ∙ sym p.agree ∙ a)
      where
        go : (t : Bool) → op_agrees o (columns_here text s) ≡ t → cond t (agrees (drop (i + 1) xs) (op_leaves o (columns_here text s))) false ≡ true → t ≡ true
        go true q a = refl
        go false q a = false_true a

    pub differs : Few xs → (well_formed text ≡ true → op_agrees o (columns_here text s) ≡ true → most < length (columns_here text s)) → well_formed text ≡ true → agrees xs (columns_of text) ≡ false
    differs few u f = go (agrees xs (columns_of text)) refl
      where
        go : (t : Bool) → agrees xs (columns_of text) ≡ t → t ≡ false
        go true q = absurd (omega (arith, u f (op-agrees q), few_left few q))
        go false q = refl

    module _ (t : Spot) (b : Behind text t.at) (a : op_agrees o (columns_here text s) ≡ true) (l : op_leaves o (columns_here text s) ≡ columns_here text t) (c : t.count ≡ s.count + length (op_told o (columns_here text s))) where
      told-next : told (drop i xs) (columns_here text s) ≡ op_told o (columns_here text s) ++ told (drop (i + 1) xs) (columns_here text t)
      told-next = told_step xs i o e h (columns_here text s) ∙ ap (λ (ds : List MdColumn). op_told o (columns_here text s) ++ told (drop (i + 1) xs) ds) l

      pub next : t.count ≤ s.count + 268435456 → Passed xs text (i + 1) t
      next f =
          let u = ap length told-next ∙ length-append (op_told o (columns_here text s)) (told (drop (i + 1) xs) (columns_here text t)) in
          record {
            behind = b;
            agree = p.agree ∙ agrees_step xs i o e h (columns_here text s) ∙ rw a (ap (agrees (drop (i + 1) xs)) l);
            counted = omega (arith, p.counted, u, c);
            few = omega (arith, p.few, f);
          }

      -- what is written behind what was
      pub written : (d e : List ℕ) (W : List ℕ) → e ≡ splice d s.count (op_told o (columns_here text s)) → s.count + length (op_told o (columns_here text s)) ≤ length d
          → splice d s.count (told (drop i xs) (columns_here text s)) ≡ W → splice e t.count (told (drop (i + 1) xs) (columns_here text t)) ≡ W
      written d e W q r w =
          ap (λ (l : List ℕ). splice l t.count (told (drop (i + 1) xs) (columns_here text t))) q
          ∙ ap (λ (j : ℕ). splice (splice d s.count (op_told o (columns_here text s))) j (told (drop (i + 1) xs) (columns_here text t))) c
          ∙ splice_append d s.count (op_told o (columns_here text s)) r (told (drop (i + 1) xs) (columns_here text t))
          ∙ ap (splice d s.count) (sym told-next) ∙ w

    pub may_write : (d : List ℕ) → Few xs → well_formed text ≡ true → agrees xs (columns_of text) ≡ true → length (told xs (columns_of text)) ≤ length d → MayWrite text s o d
    may_write d few f a r =
        let u = ap length (told_step xs i o e h (columns_here text s)) ∙ length-append (op_told o (columns_here text s)) (told (drop (i + 1) xs) (op_leaves o (columns_here text s))) in
        record { behind = p.behind; formed = f; agree = op-agrees a; few = few_left few a; room = omega (arith, p.counted, u, r) }

  -- ---- all ops are passed

  module _ (h : length xs ≤ i) where
    end : agrees xs (columns_of text) ≡ agrees [] (columns_here text s)
    end = p.agree ∙ agrees_end xs i h (columns_here text s)

    pub matches_left : (s.left ≡ 0 → ⊥) → agrees xs (columns_of text) ≡ false
    matches_left n = end ∙ left_over s.left (columns_from InNumber 0 (drop s.at text)) (omega arith)

    module _ (z : s.left ≡ 0) where
      here : columns_here text s ≡ columns_from InNumber 0 (drop s.at text)
      here = ap (λ (j : ℕ). columns_at text s.at j) z

      pub text-left : s.at < length text → well_formed text ≡ true → agrees xs (columns_of text) ≡ false
      unfolding agrees
      text-left k f = end ∙ ap (agrees []) here ∙ go (is_capital (get_or text s.at 0)) refl
        where
          good : fits Number (drop s.at text) ≡ true
          good = sym p.behind.onward ∙ f

          go : (t : Bool) → is_capital (get_or text s.at 0) ≡ t → agrees [] (columns_from InNumber 0 (drop s.at text)) ≡ false
          go true q = ap (agrees []) (letter-columns text s.at _ refl k q)
          go false q = ap (agrees []) (lost_here text s.at k (must-caret text s.at _ refl k p.behind.apart q good) good).0

      pub all-passed : length text ≤ s.at → Measured xs text s.count
      unfolding agrees
      all-passed k =
          record {
            formed = p.behind.onward ∙ ends_well text s.at k;
            agree = end ∙ ap (agrees []) (here ∙ no_columns text s.at k);
            many = let u = ap length (told_end xs i h (columns_here text s)) in omega (arith, p.counted, u);
          }

  pub all_written : length xs ≤ i → (d W : List ℕ) → splice d s.count (told (drop i xs) (columns_here text s)) ≡ W → d ≡ W
  all_written h d W w = sym (splice_nil d s.count) ∙ ap (splice d s.count) (sym (told_end xs i h (columns_here text s))) ∙ w

-- ---- = and X

-- a test that finds one of the two tells whether a list holds them
pub told_any : (r : Bool) (xs : List ℕ) → (IsTrue r ↔ ((k : ℕ) × (k < length xs) × HoldsAt (λ o. is_told o ≡ true) xs k)) → r ≡ holds is_told xs
unfolding holds
told_any r xs h =
    same_from_decides r (holds is_told xs) h (Decides-by_or is_told (λ o. is_told o ≡ true) (holds is_told) (λ o. (λ e. e, λ e. e)) refl (λ o os. either (is_told o) (holds is_told os)) xs)
  where
    either : (a b : Bool) → cond a true b ≡ (a || b)
    either true b = refl
    either false b = refl
