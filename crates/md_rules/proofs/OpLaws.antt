-- What an op does to the columns, case by case, and a whole list op by op.
use Prim.Native.Nat.{ℕ, zero, suc, ◌+◌, ◌*◌, ◌≤◌, ◌<◌}
use mathlib.Core.Path.{◌≡◌, refl, sym, ap, ◌∙◌}
use mathlib.Core.Bool.{Bool, true, false, cond}
use mathlib.Core.List.{List, [], ◌∷◌, ◌++◌}
use native.Mathlib.Omega.{arith}
use lib.Dec.{eqb}
use lib.ListN.{length, get_or, take, drop, replicate}
use Rattle.lists.specs.Lists.{sum_of}
use Rattle.lists.proofs.Walks.{step, done}
use Rattle.sam.specs.Op.{len_of}
use Rattle.sam.specs.Md.{is_capital, MdColumn, MdColumn.Match, MdColumn.Deleted}
use Rattle.md_rules.specs.Md.{fits, well_formed, Within.InNumber, columns_from}
use Rattle.md_rules.specs.Rule.{is_match, is_loss, runs, bases, lost_at, op_agrees, op_leaves, op_told, agrees, told}
use Rattle.md_rules.specs.InnerWalk.{most, Behind, columns_at, ReadAt, all_capital}
use Rattle.md_rules.specs.declared.Place.TheVariants.{Wants}
use Rattle.md_rules.proofs.ByteLaws.{capitals, within_capitals}
use Rattle.md_rules.proofs.PlaceLaws.{no_columns, letter-columns, must-caret, lost_here, loss-columns, loss-fits}
use Rattle.md_rules.proofs.RunLaws.{same_lost}
use lib.Seq.{drop-drop}

-- ---- an op

module _ (o : ℕ) (cs : List MdColumn) where
  module _ (m : is_match o ≡ true) where
    pub match-agrees : op_agrees o cs ≡ bases (len_of o) cs
    unfolding op_agrees
    match-agrees = rw m

    pub match-leaves : op_leaves o cs ≡ drop (len_of o) cs
    unfolding op_leaves
    match-leaves = rw m

    pub match-told : op_told o cs ≡ runs (take (len_of o) cs)
    unfolding op_told
    match-told = rw m

  module _ (m : is_match o ≡ false) where
    pub kept-told : op_told o cs ≡ o ∷ []
    unfolding op_told
    kept-told = rw m

    module _ (l : is_loss o ≡ true) where
      pub loss-agrees : op_agrees o cs ≡ eqb (lost_at cs) (len_of o)
      unfolding op_agrees
      loss-agrees = rw (m, l)

      pub loss-leaves : op_leaves o cs ≡ drop 1 cs
      unfolding op_leaves
      loss-leaves = rw (m, l)

    module _ (l : is_loss o ≡ false) where
      pub other-agrees : op_agrees o cs ≡ true
      unfolding op_agrees
      other-agrees = rw (m, l)

      pub other-leaves : op_leaves o cs ≡ cs
      unfolding op_leaves
      other-leaves = rw (m, l)

-- ---- a D of nonzero length at a place

module _ (text : List ℕ) (at left n : ℕ) (w : Behind text at) (some : 0 < n) where
  -- matches are left, or no `^` stands there
  pub lost_behind : 0 < left → lost_at (columns_at text at left) ≡ n → most < length (columns_at text at left)
  lost_behind h e = absurd (omega (arith, same_lost left (columns_from InNumber 0 (drop at text)) h, e))

  module _ (z : left ≡ 0) where
    here : columns_at text at left ≡ columns_from InNumber 0 (drop at text)
    here = ap (λ (j : ℕ). columns_at text at j) z

    pub lost-end : length text ≤ at → lost_at (columns_at text at left) ≡ n → most < length (columns_at text at left)
    unfolding lost_at
    lost-end h e = absurd (omega (arith, some, sym e ∙ ap lost_at (here ∙ no_columns text at h)))

    pub lost-letter : at < length text → (get_or text at 0 ≡ 94 → ⊥) → well_formed text ≡ true → lost_at (columns_at text at left) ≡ n → most < length (columns_at text at left)
    unfolding lost_at
    lost-letter h c f e = go (is_capital (get_or text at 0)) refl
      where
        go : (t : Bool) → is_capital (get_or text at 0) ≡ t → most < length (columns_at text at left)
        go true q = absurd (omega (arith, some, sym e ∙ ap lost_at (here ∙ letter-columns text at _ refl h q)))
        go false q = absurd (c (must-caret text at _ refl h w.apart q (sym w.onward ∙ f)))

    -- `^` stands there: as many letters as the D is long
    module _ (h : at < length text) (c : get_or text at 0 ≡ 94) where
      letters : well_formed text ≡ true → lost_at (columns_at text at left) ≡ n → capitals (drop (at + 1) text) ≡ n
      unfolding lost_at
      letters f e = sym (ap lost_at (here ∙ (lost_here text at h c (sym w.onward ∙ f)).0)) ∙ e

      pub lost-room : well_formed text ≡ true → lost_at (columns_at text at left) ≡ n → n ≤ length (drop (at + 1) text)
      lost-room f e = omega (arith, letters f e, (lost_here text at h c (sym w.onward ∙ f)).1.within)

      pub lost-capital : well_formed text ≡ true → lost_at (columns_at text at left) ≡ n → all_capital (take n (drop (at + 1) text)) ≡ true
      lost-capital f e = within_capitals n (drop (at + 1) text) (omega (arith, letters f e))

      pub lost-number : well_formed text ≡ true → lost_at (columns_at text at left) ≡ n → (fits Wants (drop (at + 1 + n) text) ≡ true) × (columns_at text at left ≡ Deleted n ∷ columns_from InNumber 0 (drop (at + 1 + n) text))
      lost-number f e =
          let k = letters f e in
          let l = lost_here text at h c (sym w.onward ∙ f) in
          let d = drop-drop n (at + 1) text in (
            ap (fits Wants) (sym d) ∙ ap (λ (j : ℕ). fits Wants (drop j (drop (at + 1) text))) (sym k) ∙ l.1.onward,
            here ∙ l.0 ∙ ap (λ (j : ℕ). Deleted j ∷ columns_from InNumber 0 (drop j (drop (at + 1) text))) k ∙ ap (λ (s : List ℕ). Deleted n ∷ columns_from InNumber 0 s) d,
          )

      pub lost-large : (fits Wants (drop (at + 1 + n) text) ≡ true → most < length (columns_from InNumber 0 (drop (at + 1 + n) text)))
          → well_formed text ≡ true → lost_at (columns_at text at left) ≡ n → most < length (columns_at text at left)
      lost-large u f e = let k = lost-number f e in omega (arith, u k.0, ap length k.1)

      -- n letters and a number: they are the D's
      module _ (room : at + 1 + n ≤ length text) (all : all_capital (take n (drop (at + 1) text)) ≡ true) (m next : ℕ) (r : ReadAt text (at + 1 + n) m next) where
        within : at + 1 + n < length text
        within = omega (arith, r.past, r.inside)

        pub loss-here : columns_at text at left ≡ Deleted n ∷ columns_at text next m
        loss-here = here ∙ loss-columns text at h c n some room all r.begins within ∙ ap (λ (ds : List MdColumn). Deleted n ∷ ds) r.columns

        pub loss-behind : Behind text next
        loss-behind = record { inside = r.inside; onward = w.onward ∙ loss-fits text at h c n some room all r.begins within ∙ r.onward; apart = r.apart }

-- ---- a list

module _ (xs : List ℕ) (i o : ℕ) (e : o ≡ get_or xs i 0) (h : i < length xs) (cs : List MdColumn) where
  pub agrees_step : agrees (drop i xs) cs ≡ cond (op_agrees o cs) (agrees (drop (i + 1) xs) (op_leaves o cs)) false
  unfolding agrees
  agrees_step = ap (λ (l : List ℕ). agrees l cs) (step xs i o e h)

  pub told_step : told (drop i xs) cs ≡ op_told o cs ++ told (drop (i + 1) xs) (op_leaves o cs)
  unfolding told
  told_step = ap (λ (l : List ℕ). told l cs) (step xs i o e h)

module _ (xs : List ℕ) (i : ℕ) (h : length xs ≤ i) (cs : List MdColumn) where
  pub agrees_end : agrees (drop i xs) cs ≡ agrees [] cs
  agrees_end = ap (λ (l : List ℕ). agrees l cs) (done xs i h)

  pub told_end : told (drop i xs) cs ≡ []
  unfolding told
  told_end = ap (λ (l : List ℕ). told l cs) (done xs i h)

pub left_over : (left : ℕ) (cs : List MdColumn) → 0 < left → agrees [] (replicate left Match ++ cs) ≡ false
unfolding agrees
left_over zero cs h = absurd (omega arith)
left_over (suc left) cs h = refl

-- words have 32 bits, so a list's bases are few
pub total_fits : (xs : List ℕ) → ((j : ℕ) → get_or xs j 0 < 4294967296) → sum_of len_of xs ≤ 268435455 * length xs
unfolding sum_of
total_fits [] h = omega arith
total_fits (x ∷ xs) h = let u = total_fits xs (λ j. h (suc j)) in let v : x < 4294967296 = h 0 in omega arith
