-- What the functions of `md` go by: what a place of a text stands for, and what an op does to it.
use Rattle.std.specs.Prelude.{ℕ, zero, suc, ◌+◌, ◌≤◌, ◌<◌, ◌≡◌, Bool, true, false, ◌&&◌, List, [], ◌∷◌, ◌++◌, length, take, drop, get_or, replicate, None, Option, Some}
use Rattle.lists.specs.Lists.{splice}
use Rattle.sam.specs.Op.{op_of}
use Rattle.sam.specs.Text.{is_digit}
use Rattle.sam.specs.Md.{is_capital, MdColumn, MdColumn.Match}
use Rattle.md_rules.specs.Md.{fits, well_formed, Within.InNumber, columns_from, columns_of}
use Rattle.md_rules.specs.Rule.{runs, bases, lost_at, op_agrees, op_leaves, op_told, agrees, told}
use Rattle.md_rules.specs.declared.Place.TheVariants.{Wants, Number}
use Rattle.md_rules.specs.declared.Figure.{Figure}
use Rattle.md_rules.specs.declared.Spot.{Spot}

-- more bases than 65,535 ops have
abbrev pub most : ℕ
most = 17592186044416

-- a place of a text behind a number: the text is well formed where the rest goes on well
pub record Behind (text : List ℕ) (at : ℕ) : Type 0 where
  pub inside : at ≤ length text
  pub onward : well_formed text ≡ fits Number (drop at text)
  pub apart : is_digit (get_or text at 0) ≡ false

-- the columns from there on, with what is left of the number
abbrev pub columns_at : List ℕ → ℕ → ℕ → List MdColumn
columns_at text at left = replicate left Match ++ columns_from InNumber 0 (drop at text)

abbrev pub columns_here : List ℕ → Spot → List MdColumn
columns_here text s = columns_at text s.at s.left

-- a number that stands at a place
pub record ReadAt (text : List ℕ) (from n at : ℕ) : Type 0 where
  pub past : from < at
  pub inside : at ≤ length text
  pub fair : n ≤ most
  pub begins : is_digit (get_or text from 0) ≡ true
  pub onward : fits Wants (drop from text) ≡ fits Number (drop at text)
  pub apart : is_digit (get_or text at 0) ≡ false
  pub columns : columns_from InNumber 0 (drop from text) ≡ columns_at text at n

-- or there is none, or one that is too large
abbrev pub FigureAt : List ℕ → ℕ → Option Figure → Type 0
FigureAt text from (Some f) = ReadAt text from f.n f.at
FigureAt text from None = fits Wants (drop from text) ≡ true → most < length (columns_from InNumber 0 (drop from text))

-- whether all are capital letters
unfoldable pub all_capital : List ℕ → Bool
all_capital [] = true
all_capital (b ∷ s) = is_capital b && all_capital s

-- the run of n bases of a code: none where there are none
unfoldable pub run_of : ℕ → ℕ → List ℕ
run_of zero c = []
run_of (suc n) c = op_of (suc n) c ∷ []

-- the runs of k mismatches and, behind them, m matches
unfoldable pub pair_of : ℕ → ℕ → List ℕ
pair_of k m = run_of k 8 ++ run_of m 7

-- m matches behind k mismatches: where there are some, both runs are closed, and a mismatch behind them is the first of its run; else it is one more of the k
unfoldable pub closed_by : ℕ → ℕ → List ℕ
closed_by k zero = []
closed_by k (suc m) = pair_of k (suc m)

unfoldable pub open_by : ℕ → ℕ → ℕ
open_by k zero = k + 1
open_by k (suc m) = 1

-- an M of n bases: it has them, and what is behind them stands at t, which has counted its runs too; or it has not, or the text has more bases than any list
pub record RunsOf (text : List ℕ) (s : Spot) (n : ℕ) (t : Spot) : Type 0 where
  pub behind : Behind text t.at
  pub are : bases n (columns_here text s) ≡ true
  pub rest : drop n (columns_here text s) ≡ columns_here text t
  pub counted : t.count ≡ s.count + length (runs (take n (columns_here text s)))
  pub few : t.count ≤ s.count + n

abbrev pub RunsAt : List ℕ → Spot → ℕ → Option Spot → Type 0
RunsAt text s n (Some t) = RunsOf text s n t
RunsAt text s n None = well_formed text ≡ true → bases n (columns_here text s) ≡ true → most < length (columns_here text s)

-- a D of n bases, not 0
pub record LossOf (text : List ℕ) (s : Spot) (n : ℕ) (t : Spot) : Type 0 where
  pub behind : Behind text t.at
  pub is : lost_at (columns_here text s) ≡ n
  pub rest : drop 1 (columns_here text s) ≡ columns_here text t
  pub counted : t.count ≡ s.count + 1

abbrev pub LossAt : List ℕ → Spot → ℕ → Option Spot → Type 0
LossAt text s n (Some t) = LossOf text s n t
LossAt text s n None = well_formed text ≡ true → lost_at (columns_here text s) ≡ n → most < length (columns_here text s)

-- an op
pub record StepOf (text : List ℕ) (s : Spot) (o : ℕ) (t : Spot) : Type 0 where
  pub behind : Behind text t.at
  pub agree : op_agrees o (columns_here text s) ≡ true
  pub rest : op_leaves o (columns_here text s) ≡ columns_here text t
  pub counted : t.count ≡ s.count + length (op_told o (columns_here text s))
  pub few : t.count ≤ s.count + 268435456

abbrev pub StepAt : List ℕ → Spot → ℕ → Option Spot → Type 0
StepAt text s o (Some t) = StepOf text s o t
StepAt text s o None = well_formed text ≡ true → op_agrees o (columns_here text s) ≡ true → most < length (columns_here text s)

-- in the writing pass an op agrees, and no number is too large
pub record MayWrite (text : List ℕ) (s : Spot) (o : ℕ) (d : List ℕ) : Type 0 where
  pub behind : Behind text s.at
  pub formed : well_formed text ≡ true
  pub agree : op_agrees o (columns_here text s) ≡ true
  pub few : length (columns_here text s) ≤ most
  pub room : s.count + length (op_told o (columns_here text s)) ≤ length d

-- what it has written then, from the place that was counted on
pub record Wrote (text : List ℕ) (s : Spot) (o : ℕ) (t : Spot) (d e : List ℕ) : Type 0 where
  pub behind : Behind text t.at
  pub rest : op_leaves o (columns_here text s) ≡ columns_here text t
  pub counted : t.count ≡ s.count + length (op_told o (columns_here text s))
  pub few : t.count ≤ s.count + 268435456
  pub written : e ≡ splice d s.count (op_told o (columns_here text s))

-- what the measuring pass tells
pub record Measured (xs s : List ℕ) (n : ℕ) : Type 0 where
  pub formed : well_formed s ≡ true
  pub agree : agrees xs (columns_of s) ≡ true
  pub many : n ≡ length (told xs (columns_of s))

abbrev pub WalkedIs : List ℕ → List ℕ → Option ℕ → Type 0
WalkedIs xs s (Some n) = Measured xs s n
WalkedIs xs s None = well_formed s ≡ true → agrees xs (columns_of s) ≡ false
