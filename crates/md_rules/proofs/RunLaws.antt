-- Runs: as many equal bases as stand there are one op; what an M's bases become, number by number of the text; and how many columns a list can use.
use Prim.Native.Nat.{ℕ, zero, suc, ◌+◌, ◌-◌, ◌≤◌, ◌<◌}
use mathlib.Core.Path.{◌≡◌, refl, sym, ap, ◌∙◌, subst}
use mathlib.Core.Bool.{Bool, true, false, cond, ◌&&◌}
use mathlib.Core.List.{List, [], ◌∷◌, ◌++◌, append_assoc, append-nil}
use native.Mathlib.Omega.{arith}
use lib.Dec.{ltb, eqb}
use lib.ListN.{length, take, drop, replicate, length-replicate, length-drop, replicate-append-replicate}
use lib.Seq.{take-append-add, drop-append-add}
use borrow.Author.Tests.{ltb-true, eqb-true, eq-eqb, ne_eqb}
use Rattle.lists.specs.Lists.{sum_of}
use Rattle.lists.proofs.Absurd.{false_true}
use Rattle.sam.specs.Op.{len_of, code_of, op_of}
use Rattle.sam.specs.Md.{MdColumn, MdColumn.Match, MdColumn.Mismatch, MdColumn.Deleted}
use Rattle.md_rules.specs.Rule.{is_match, is_loss, code_for, is_base, joined, runs, bases, lost_at, op_agrees, op_leaves, agrees}
use Rattle.md_rules.specs.Meaning.{first_is}
use Rattle.md_rules.specs.InnerWalk.{run_of, pair_of, closed_by, open_by}

code_small : (c : MdColumn) → code_for c < 16
code_small Match = omega arith
code_small Mismatch = omega arith
code_small (Deleted n) = omega arith

join_new : (c : ℕ) (os : List ℕ) → first_is c os ≡ false → joined c os ≡ op_of 1 c ∷ os
unfolding joined first_is
join_new c [] e = refl
join_new c (o ∷ os) e = rw e

join_more : (c o : ℕ) (os : List ℕ) → code_of o ≡ c → joined c (o ∷ os) ≡ (o + 16) ∷ os
unfolding joined
join_more c o os e = rw (eq-eqb (code_of o) c e)

pub joined_first : (c d : ℕ) (os : List ℕ) → d < 16 → (d ≡ c → ⊥) → first_is c (joined d os) ≡ false
unfolding joined first_is
joined_first c d [] h n = ne_eqb (code_of (op_of 1 d)) c (λ e. n (omega arith))
joined_first c d (o ∷ os) h n = go (eqb (code_of o) d) refl
  where
    go : (t : Bool) → eqb (code_of o) d ≡ t → first_is c (cond t ((o + 16) ∷ os) (op_of 1 d ∷ (o ∷ os))) ≡ false
    go true q = let w = eqb-true (code_of o) d q in ne_eqb (code_of (o + 16)) c (λ e. n (omega arith))
    go false q = ne_eqb (code_of (op_of 1 d)) c (λ e. n (omega arith))

-- equal bases are one run
pub run-of : (k : ℕ) (c : MdColumn) (cs : List MdColumn) → first_is (code_for c) (runs cs) ≡ false → runs (replicate (suc k) c ++ cs) ≡ op_of (suc k) (code_for c) ∷ runs cs
unfolding runs
run-of zero c cs h = join_new (code_for c) (runs cs) h
run-of (suc k) c cs h =
    let s = code_small c in
    ap (joined (code_for c)) (run-of k c cs h)
    ∙ join_more (code_for c) (op_of (suc k) (code_for c)) (runs cs) (omega arith)
    ∙ ap (λ (o : ℕ). o ∷ runs cs) {x = op_of (suc k) (code_for c) + 16} {y = op_of (suc (suc k)) (code_for c)} (omega arith)

-- k mismatches, m matches and no match behind them; where there are no matches, no mismatch behind them either
pub pair_runs : (k m : ℕ) (cs : List MdColumn) → first_is 7 (runs cs) ≡ false → (m ≡ 0 → first_is 8 (runs cs) ≡ false)
    → runs (replicate k Mismatch ++ (replicate m Match ++ cs)) ≡ pair_of k m ++ runs cs
unfolding run_of pair_of first_is
pair_runs zero zero cs s o = refl
pair_runs zero (suc m) cs s o = run-of m Match cs s
pair_runs (suc k) zero cs s o = run-of k Mismatch cs (o refl)
pair_runs (suc k) (suc m) cs s o =
    let r = run-of m Match cs s in
    let f : first_is 8 (runs (replicate (suc m) Match ++ cs)) ≡ false = rw r (ne_eqb (code_of (op_of (suc m) 7)) 8 (λ e. omega arith)) in
    run-of k Mismatch (replicate (suc m) Match ++ cs) f ∙ ap (λ (l : List ℕ). op_of (suc k) 8 ∷ l) r

-- ---- n bases at the front of some matches, and of these and a mismatch

-- what is left to write of an M with n bases left, k mismatches before them not yet written
abbrev pub runs_left : ℕ → ℕ → List MdColumn → List ℕ
runs_left k n cs = runs (replicate k Mismatch ++ take n cs)

module _ (left n : ℕ) (cs : List MdColumn) where
  take_same : take (left + n) (replicate left Match ++ cs) ≡ replicate left Match ++ take n cs
  take_same = subst (λ (j : ℕ). take (j + n) (replicate left Match ++ cs) ≡ replicate left Match ++ take n cs) (length-replicate left Match) (take-append-add (replicate left Match) cs n)

  drop_same : drop (left + n) (replicate left Match ++ cs) ≡ drop n cs
  drop_same = subst (λ (j : ℕ). drop (j + n) (replicate left Match ++ cs) ≡ drop n cs) (length-replicate left Match) (drop-append-add (replicate left Match) cs n)

pub bases_same : (k n : ℕ) (c : MdColumn) (cs : List MdColumn) → is_base c ≡ true → bases (k + n) (replicate k c ++ cs) ≡ bases n cs
unfolding bases
bases_same zero n c cs h = ap (λ (j : ℕ). bases j cs) {x = 0 + n} {y = n} (omega arith)
bases_same (suc k) n c cs h =
    ap (λ (j : ℕ). bases j (c ∷ (replicate k c ++ cs))) {x = suc k + n} {y = suc (k + n)} (omega arith)
    ∙ rw h (bases_same k n c cs h)

one_more : (k : ℕ) (c : MdColumn) (cs : List MdColumn) → replicate k c ++ (c ∷ cs) ≡ replicate (k + 1) c ++ cs
one_more k c cs = go k ∙ ap (λ (j : ℕ). replicate j c ++ cs) {x = suc k} {y = k + 1} (omega arith)
  where
    go : (k : ℕ) → replicate k c ++ (c ∷ cs) ≡ replicate (suc k) c ++ cs
    go zero = refl
    go (suc k) = ap (λ (l : List MdColumn). c ∷ l) (go k)

-- the M ends past the matches and the mismatch
module _ (left n m : ℕ) (cs : List MdColumn) (e : n ≡ left + suc m) where
  pub on_bases : bases n (replicate left Match ++ (Mismatch ∷ cs)) ≡ bases m cs
  unfolding bases
  on_bases = ap (λ (j : ℕ). bases j (replicate left Match ++ (Mismatch ∷ cs))) e ∙ bases_same left (suc m) Match (Mismatch ∷ cs) refl

  pub on_drop : drop n (replicate left Match ++ (Mismatch ∷ cs)) ≡ drop m cs
  on_drop = ap (λ (j : ℕ). drop j (replicate left Match ++ (Mismatch ∷ cs))) e ∙ drop_same left (suc m) (Mismatch ∷ cs)

  pub on_runs : (k : ℕ) → runs_left k n (replicate left Match ++ (Mismatch ∷ cs)) ≡ closed_by k left ++ runs_left (open_by k left) m cs
  unfolding closed_by open_by runs
  on_runs k =
      ap (λ (j : ℕ). runs_left k j (replicate left Match ++ (Mismatch ∷ cs))) e
      ∙ ap (λ (l : List MdColumn). runs (replicate k Mismatch ++ l)) (take_same left (suc m) (Mismatch ∷ cs))
      ∙ go left
    where
      go : (l : ℕ) → runs (replicate k Mismatch ++ (replicate l Match ++ (Mismatch ∷ take m cs))) ≡ closed_by k l ++ runs_left (open_by k l) m cs
      go zero = ap runs (one_more k Mismatch (take m cs))
      go (suc l) = pair_runs k (suc l) (Mismatch ∷ take m cs) (joined_first 7 8 (runs (take m cs)) (omega arith) (λ z. omega arith)) (λ z. absurd (omega arith))

-- it ends within the matches
module _ (left n : ℕ) (cs : List MdColumn) (h : n ≤ left) where
  split_same : replicate left Match ++ cs ≡ replicate n Match ++ (replicate (left - n) Match ++ cs)
  split_same =
      ap (λ (j : ℕ). replicate j Match ++ cs) {x = left} {y = n + (left - n)} (omega arith)
      ∙ ap (λ (l : List MdColumn). l ++ cs) (sym (replicate-append-replicate n (left - n) Match))
      ∙ append_assoc (replicate n Match) (replicate (left - n) Match) cs

  none_more : n ≡ n + 0
  none_more = omega arith

  pub end_bases : bases n (replicate left Match ++ cs) ≡ true
  unfolding bases
  end_bases = ap (bases n) split_same ∙ ap (λ (j : ℕ). bases j (replicate n Match ++ (replicate (left - n) Match ++ cs))) none_more ∙ bases_same n 0 Match (replicate (left - n) Match ++ cs) refl

  pub end_drop : drop n (replicate left Match ++ cs) ≡ replicate (left - n) Match ++ cs
  end_drop = ap (drop n) split_same ∙ ap (λ (j : ℕ). drop j (replicate n Match ++ (replicate (left - n) Match ++ cs))) none_more ∙ drop_same n 0 (replicate (left - n) Match ++ cs)

  pub end_runs : (k : ℕ) → runs_left k n (replicate left Match ++ cs) ≡ pair_of k n
  unfolding runs first_is
  end_runs k =
      ap (λ (l : List MdColumn). runs (replicate k Mismatch ++ take n l)) split_same
      ∙ ap (λ (j : ℕ). runs (replicate k Mismatch ++ take j (replicate n Match ++ (replicate (left - n) Match ++ cs)))) none_more
      ∙ ap (λ (l : List MdColumn). runs (replicate k Mismatch ++ l)) (take_same n 0 (replicate (left - n) Match ++ cs))
      ∙ pair_runs k n [] refl (λ z. refl) ∙ append-nil (pair_of k n)

-- ---- how many runs

pub run_none : (n c : ℕ) → n ≡ 0 → run_of n c ≡ []
unfolding run_of
run_none zero c e = refl
run_none (suc n) c e = absurd (omega arith)

pub run_some : (n c : ℕ) → (n ≡ 0 → ⊥) → run_of n c ≡ op_of n c ∷ []
unfolding run_of
run_some zero c e = absurd (e refl)
run_some (suc n) c e = refl

pub pair_is : (k m : ℕ) {rs ss : List ℕ} → run_of k 8 ≡ rs → run_of m 7 ≡ ss → pair_of k m ≡ rs ++ ss
unfolding pair_of
pair_is k m e f = rw (e, f) refl

pub closed_none : (k m : ℕ) → m ≡ 0 → (closed_by k m ≡ []) × (open_by k m ≡ k + 1)
unfolding closed_by open_by
closed_none k zero e = (refl, refl)
closed_none k (suc m) e = absurd (omega arith)

pub closed_some : (k m : ℕ) → (m ≡ 0 → ⊥) → (closed_by k m ≡ pair_of k m) × (open_by k m ≡ 1)
unfolding closed_by open_by
closed_some k zero e = absurd (e refl)
closed_some k (suc m) e = (refl, refl)

pub pair_few : (k m : ℕ) → length (pair_of k m) ≤ k + m
unfolding run_of pair_of
pair_few zero zero = omega arith
pair_few zero (suc m) = omega arith
pair_few (suc k) zero = omega arith
pair_few (suc k) (suc m) = omega arith

pub closed_few : (k m : ℕ) → length (closed_by k m) + open_by k m ≤ k + m + 1
unfolding closed_by open_by run_of pair_of
closed_few k zero = omega arith
closed_few zero (suc m) = omega arith
closed_few (suc k) (suc m) = omega arith

-- ---- no base where one is wanted

pub no_base : (n : ℕ) (cs : List MdColumn) → 0 < n → bases 1 cs ≡ false → bases n cs ≡ false
unfolding bases
no_base zero cs h b = absurd (omega arith)
no_base (suc n) [] h b = refl
no_base (suc n) (Match ∷ cs) h b = false_true (sym b)
no_base (suc n) (Mismatch ∷ cs) h b = false_true (sym b)
no_base (suc n) (Deleted k ∷ cs) h b = refl

pub same_lost : (left : ℕ) (cs : List MdColumn) → 0 < left → lost_at (replicate left Match ++ cs) ≡ 0
unfolding lost_at
same_lost zero cs h = absurd (omega arith)
same_lost (suc left) cs h = refl

-- ---- a list that agrees has a length for each column

pub loss_some : (o : ℕ) → is_loss o ≡ true → 0 < len_of o
loss_some o l = go (eqb (code_of o) 2) l
  where
    go : (t : Bool) → (t && ltb 0 (len_of o)) ≡ true → 0 < len_of o
    go true l = ltb-true 0 (len_of o) l
    go false l = false_true l

left_behind : (o : ℕ) (cs : List MdColumn) → length cs ≤ len_of o + length (op_leaves o cs)
unfolding op_leaves
left_behind o cs = go (is_match o) (is_loss o) refl
  where
    go : (t u : Bool) → is_loss o ≡ u → length cs ≤ len_of o + length (cond t (drop (len_of o) cs) (cond u (drop 1 cs) cs))
    go true u q = omega (arith, length-drop (len_of o) cs)
    go false true q = let z = loss_some o q in omega (arith, length-drop 1 cs)
    go false false q = omega arith

pub used : (xs : List ℕ) (cs : List MdColumn) → agrees xs cs ≡ true → length cs ≤ sum_of len_of xs
unfolding agrees sum_of
used [] [] e = omega arith
used [] (c ∷ cs) e = false_true e
used (o ∷ xs) cs e = go (op_agrees o cs) e (λ g. used xs (op_leaves o cs) g)
  where
    go : (t : Bool) → cond t (agrees xs (op_leaves o cs)) false ≡ true → (agrees xs (op_leaves o cs) ≡ true → length (op_leaves o cs) ≤ sum_of len_of xs) → length cs ≤ len_of o + sum_of len_of xs
    go true e r = let h = r e in omega (arith, left_behind o cs)
    go false e r = false_true e
