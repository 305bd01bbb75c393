-- What an M, a D of nonzero length and any other op come to is what the rule has of an op.
use Prim.Native.Nat.{ℕ, ◌+◌, ◌≤◌, ◌<◌}
use Rattle.std.specs.Prelude.{None, Option, Some, IsSome}
use mathlib.Core.Path.{◌≡◌, refl, sym, ap, ◌∙◌}
use mathlib.Core.Bool.{Bool, true, false}
use mathlib.Core.List.{List, ◌∷◌}
use mathlib.Core.Logic.{⊎_elim}
use native.Mathlib.Omega.{arith}
use lib.Dec.{eqb}
use lib.ListN.{length, get_or, set, take, drop, length-drop}
use borrow.Author.Tests.{eq-eqb, eqb-true, eqb-false}
use Rattle.lists.specs.Lists.{splice}
use Rattle.lists.proofs.ListLaws.{splice_one}
use Rattle.sam.specs.Op.{len_of}
use Rattle.md_rules.specs.Rule.{is_match, is_loss, lost_at, op_told}
use Rattle.md_rules.specs.InnerWalk.{most, Behind, columns_here, ReadAt, FigureAt, all_capital, RunsAt, LossAt, StepOf, StepAt, MayWrite, Wrote}
use Rattle.md_rules.specs.declared.Figure.{Figure}
use Rattle.md_rules.specs.declared.Spot.{Spot}
use Rattle.md_rules.proofs.OpLaws.{match-agrees, match-leaves, match-told, kept-told, loss-agrees, loss-leaves, other-agrees, other-leaves, lost_behind, lost-end, lost-letter, lost-room, lost-capital, lost-large, loss-here, loss-behind}
use Rattle.md_rules.proofs.PlaceLaws.{side}
use Rattle.md_rules.proofs.RunLaws.{loss_some}

module _ (text : List ℕ) (s : Spot) (o : ℕ) where
  pub step_match : (r : Option Spot) → is_match o ≡ true → len_of o < 268435456 → RunsAt text s (len_of o) r → StepAt text s o r
  step_match (Some t) m h r =
      record {
        behind = r.behind;
        agree = match-agrees o (columns_here text s) m ∙ r.are;
        rest = match-leaves o (columns_here text s) m ∙ r.rest;
        counted = r.counted ∙ ap (λ (l : List ℕ). s.count + length l) (sym (match-told o (columns_here text s) m));
        few = omega (arith, r.few);
      }
  step_match None m h r = λ f a. r f (sym (match-agrees o (columns_here text s) m) ∙ a)

  pub step_loss : (r : Option Spot) → is_match o ≡ false → is_loss o ≡ true → LossAt text s (len_of o) r → StepAt text s o r
  step_loss (Some t) m l r =
      let c = r.counted ∙ ap (λ (l : List ℕ). s.count + length l) {x = o ∷ _} (sym (kept-told o (columns_here text s) m)) in
      record {
        behind = r.behind;
        agree = loss-agrees o (columns_here text s) m l ∙ eq-eqb (lost_at (columns_here text s)) (len_of o) r.is;
        rest = loss-leaves o (columns_here text s) m l ∙ r.rest;
        counted = c;
        few = omega (arith, r.counted);
      }
  step_loss None m l r = λ f a. r f (eqb-true (lost_at (columns_here text s)) (len_of o) (sym (loss-agrees o (columns_here text s) m l) ∙ a))

  pub step_other : is_match o ≡ false → is_loss o ≡ false → Behind text s.at → StepOf text s o (record { at = s.at; left = s.left; count = s.count + 1 })
  step_other m l b =
      record {
        behind = b;
        agree = other-agrees o (columns_here text s) m l;
        rest = other-leaves o (columns_here text s) m l;
        counted = ap (λ (l : List ℕ). s.count + length l) (sym (kept-told o (columns_here text s) m));
        few = omega arith;
      }

-- ---- a D that agrees, in the writing pass: `^`, its letters, and a number

module _ (text : List ℕ) (s : Spot) (o : ℕ) (d : List ℕ) (w : MayWrite text s o d) (m : is_match o ≡ false) where
  -- an op that stays is written at one place
  pub kept_room : s.count < length d
  kept_room = omega (arith, w.room, ap length (kept-told o (columns_here text s) m))

  pub kept_written : set d s.count o ≡ splice d s.count (op_told o (columns_here text s))
  kept_written = splice_one d s.count o kept_room ∙ ap (splice d s.count) (sym (kept-told o (columns_here text s) m))

  pub kept_counted : s.count + 1 ≡ s.count + length (op_told o (columns_here text s))
  kept_counted = ap (λ (l : List ℕ). s.count + length l) (sym (kept-told o (columns_here text s) m))

  pub other_wrote : is_loss o ≡ false → Wrote text s o (record { at = s.at; left = s.left; count = s.count + 1 }) d (set d s.count o)
  other_wrote l = record { behind = w.behind; rest = other-leaves o (columns_here text s) m l; counted = kept_counted; few = omega arith; written = kept_written }

  module _ (l : is_loss o ≡ true) where
    lost : lost_at (columns_here text s) ≡ len_of o
    lost = eqb-true (lost_at (columns_here text s)) (len_of o) (sym (loss-agrees o (columns_here text s) m l) ∙ w.agree)

    large : {A : Type 0} → most < length (columns_here text s) → A
    large h = absurd (omega (arith, w.few))

    none : s.left ≡ 0
    none = go (eqb s.left 0) refl
      where
        go : (t : Bool) → eqb s.left 0 ≡ t → s.left ≡ 0
        go true q = eqb-true s.left 0 q
        go false q = let z = eqb-false s.left 0 q in large (lost_behind text s.at s.left (len_of o) w.behind (loss_some o l) (omega arith) lost)

    inside : s.at < length text
    inside = ⊎_elim (λ h. large (lost-end text s.at s.left (len_of o) w.behind (loss_some o l) none h lost)) (λ h. h) (side s.at (length text))

    caret : get_or text s.at 0 ≡ 94
    caret = go (eqb (get_or text s.at 0) 94) refl
      where
        go : (t : Bool) → eqb (get_or text s.at 0) 94 ≡ t → get_or text s.at 0 ≡ 94
        go true q = eqb-true (get_or text s.at 0) 94 q
        go false q = large (lost-letter text s.at s.left (len_of o) w.behind (loss_some o l) none inside (eqb-false (get_or text s.at 0) 94 q) w.formed lost)

    pub loss-room : s.at + 1 + len_of o ≤ length text
    loss-room = omega (arith, inside, length-drop (s.at + 1) text, lost-room text s.at s.left (len_of o) w.behind (loss_some o l) none inside caret w.formed lost)

    pub loss-read : (r : Option Figure) → FigureAt text (s.at + 1 + len_of o) r → IsSome r
    loss-read (Some f) u = refl
    loss-read None u = large (lost-large text s.at s.left (len_of o) w.behind (loss_some o l) none inside caret u w.formed lost)

    module _ (f : Figure) (read : ReadAt text (s.at + 1 + len_of o) f.n f.at) where
      all : all_capital (take (len_of o) (drop (s.at + 1) text)) ≡ true
      all = lost-capital text s.at s.left (len_of o) w.behind (loss_some o l) none inside caret w.formed lost

      pub loss-wrote : Wrote text s o (record { at = f.at; left = f.n; count = s.count + 1 }) d (set d s.count o)
      loss-wrote =
          record {
            behind = loss-behind text s.at s.left (len_of o) w.behind (loss_some o l) none inside caret loss-room all f.n f.at read;
            rest = loss-leaves o (columns_here text s) m l ∙ ap (drop 1) (loss-here text s.at s.left (len_of o) w.behind (loss_some o l) none inside caret loss-room all f.n f.at read);
            counted = kept_counted;
            few = omega arith;
            written = kept_written;
          }
