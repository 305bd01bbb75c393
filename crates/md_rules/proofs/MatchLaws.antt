-- An M, number by number of the text: what is passed and what is left make the whole.
use Prim.Native.Nat.{ℕ, suc, ◌+◌, ◌-◌, ◌≤◌, ◌<◌}
use Rattle.std.specs.Prelude.{Option, Some, None, IsSome}
use mathlib.Core.Path.{◌≡◌, refl, sym, ap, ◌∙◌}
use mathlib.Core.Bool.{Bool, true, false}
use mathlib.Core.List.{List, ◌∷◌, ◌++◌}
use mathlib.Core.Logic.{⊎_elim}
use native.Mathlib.Omega.{arith}
use lib.ListN.{length, get_or, take, drop, replicate, length-append}
use Rattle.lists.specs.Lists.{splice}
use Rattle.lists.proofs.Absurd.{false_true}
use Rattle.lists.proofs.ListLaws.{splice_append}
use Rattle.sam.specs.Md.{is_capital, MdColumn, MdColumn.Match, MdColumn.Mismatch}
use Rattle.md_rules.specs.Md.{fits, well_formed, Within.InNumber, columns_from}
use Rattle.md_rules.specs.Rule.{runs, bases}
use Rattle.md_rules.specs.declared.Figure.{Figure}
use Rattle.md_rules.specs.InnerWalk.{most, Behind, columns_at, ReadAt, FigureAt, pair_of, closed_by, open_by}
use Rattle.md_rules.specs.declared.Place.TheVariants.{Wants}
use Rattle.md_rules.proofs.PlaceLaws.{letter_read, letter-columns, letter-fits, no_letter, side}
use Rattle.md_rules.proofs.RunLaws.{runs_left, bases_same, on_bases, on_drop, on_runs, end_bases, end_drop, end_runs, pair_few, closed_few, no_base}

-- of an M of N bases at columns cs, with `from` ops before it: n bases are left, k mismatches are not written yet, the text stands behind a number of which `left` are left
pub record Left (text : List ℕ) (cs : List MdColumn) (N from n k at left count : ℕ) : Type 0 where
  pub behind : Behind text at
  pub are : bases N cs ≡ bases n (columns_at text at left)
  pub rest : drop N cs ≡ drop n (columns_at text at left)
  pub counted : count + length (runs_left k n (columns_at text at left)) ≡ from + length (runs (take N cs))
  pub since : from ≤ count
  pub few : count + k + n ≤ from + N
  pub longer : length (columns_at text at left) ≤ length cs

module _ (text : List ℕ) (cs : List MdColumn) (N from n k at left count : ℕ) (l : Left text cs N from n k at left count) where
  -- the matches that are left, a letter and a number
  module _ (h : left < n) (i : at < length text) (c : is_capital (get_or text at 0) ≡ true) where
    module _ (m next : ℕ) (r : ReadAt text (at + 1) m next) where
      whole : columns_at text at left ≡ replicate left Match ++ (Mismatch ∷ columns_at text next m)
      whole = ap (λ (ds : List MdColumn). replicate left Match ++ ds) (letter_read text at m next l.behind i c r).1

      e : n ≡ left + suc (n - (left + 1))
      e = omega arith

      pub turn-runs : runs_left k n (columns_at text at left) ≡ closed_by k left ++ runs_left (open_by k left) (n - (left + 1)) (columns_at text next m)
      turn-runs = ap (runs_left k n) whole ∙ on_runs left n (n - (left + 1)) (columns_at text next m) e k

      pub turn : Left text cs N from (n - (left + 1)) (open_by k left) next m (count + length (closed_by k left))
      turn =
          let q = ap length whole in
          let u = length-append (replicate left Match) (Mismatch ∷ columns_at text next m) in
          let v = ap length turn-runs ∙ length-append (closed_by k left) (runs_left (open_by k left) (n - (left + 1)) (columns_at text next m)) in
          record {
            behind = (letter_read text at m next l.behind i c r).0;
            are = l.are ∙ ap (bases n) whole ∙ on_bases left n (n - (left + 1)) (columns_at text next m) e;
            rest = l.rest ∙ ap (drop n) whole ∙ on_drop left n (n - (left + 1)) (columns_at text next m) e;
            counted = omega (arith, l.counted, v);
            since = omega (arith, l.since);
            few = omega (arith, l.few, closed_few k left);
            longer = omega (arith, l.longer, q, u);
          }

      -- the runs that it closes are written behind what was
      pub turn-room : count + length (closed_by k left) ≤ from + length (runs (take N cs))
      turn-room = omega (arith, l.counted, ap length turn-runs ∙ length-append (closed_by k left) (runs_left (open_by k left) (n - (left + 1)) (columns_at text next m)))

      pub turn-written : (d e W : List ℕ) → e ≡ splice d count (closed_by k left) → count + length (closed_by k left) ≤ length d
          → splice d count (runs_left k n (columns_at text at left)) ≡ W → splice e (count + length (closed_by k left)) (runs_left (open_by k left) (n - (left + 1)) (columns_at text next m)) ≡ W
      turn-written d e W q h w =
          ap (λ (x : List ℕ). splice x (count + length (closed_by k left)) (runs_left (open_by k left) (n - (left + 1)) (columns_at text next m))) q
          ∙ splice_append d count (closed_by k left) h (runs_left (open_by k left) (n - (left + 1)) (columns_at text next m))
          ∙ ap (splice d count) (sym turn-runs) ∙ w

    pub no_number : (fits Wants (drop (at + 1) text) ≡ true → most < length (columns_from InNumber 0 (drop (at + 1) text))) → well_formed text ≡ true → most < length cs
    no_number u f =
        let v = u (sym (letter-fits text at _ refl i c) ∙ sym l.behind.onward ∙ f) in
        let q = ap length (letter-columns text at _ refl i c) in
        let r = length-append (replicate left Match) (columns_from InNumber 0 (drop at text)) in
        omega (arith, v, q, r, l.longer)

  -- no letter there: the M has not its bases
  pub not_there : left < n → (at < length text → is_capital (get_or text at 0) ≡ false) → well_formed text ≡ true → bases N cs ≡ true → most < length cs
  not_there h c f b =
      let k : n ≡ left + (n - left) = omega arith in
      let z = no_base (n - left) (columns_from InNumber 0 (drop at text)) (omega arith) (no_letter text at l.behind f c) in
      false_true (sym (ap (λ (j : ℕ). bases j (columns_at text at left)) k ∙ bases_same left (n - left) Match (columns_from InNumber 0 (drop at text)) refl ∙ z) ∙ sym l.are ∙ b)

  -- where the M has them, a letter stands there, and a number behind it
  pub there : left < n → well_formed text ≡ true → bases N cs ≡ true → length cs ≤ most → (at < length text) × (is_capital (get_or text at 0) ≡ true)
  there h f b few = ⊎_elim
      (λ i. absurd (omega (arith, few, not_there h (λ j. absurd (omega arith)) f b)))
      (λ i. (i, go (is_capital (get_or text at 0)) refl))
      (side at (length text))
    where
      go : (t : Bool) → is_capital (get_or text at 0) ≡ t → t ≡ true
      go true q = refl
      go false q = absurd (omega (arith, few, not_there h (λ j. q) f b))

  -- and it can be told
  pub is_there : (r : Option Figure) → left < n → well_formed text ≡ true → bases N cs ≡ true → length cs ≤ most → FigureAt text (at + 1) r → IsSome r
  is_there (Some f) h w b few u = refl
  is_there None h w b few u = let i = there h w b few in absurd (omega (arith, few, no_number h i.0 i.1 u w))

  -- the M ends within the matches
  module _ (h : n ≤ left) where
    pub last_runs : runs_left k n (columns_at text at left) ≡ pair_of k n
    last_runs = end_runs left n (columns_from InNumber 0 (drop at text)) h k

    pub ended-are : bases N cs ≡ true
    ended-are = l.are ∙ end_bases left n (columns_from InNumber 0 (drop at text)) h

    pub ended-rest : drop N cs ≡ columns_at text at (left - n)
    ended-rest = l.rest ∙ end_drop left n (columns_from InNumber 0 (drop at text)) h

    pub ended-counted : count + length (pair_of k n) ≡ from + length (runs (take N cs))
    ended-counted = sym (ap (λ (rs : List ℕ). count + length rs) last_runs) ∙ l.counted

    pub ended-few : count + length (pair_of k n) ≤ from + N
    ended-few = omega (arith, l.few, pair_few k n)
