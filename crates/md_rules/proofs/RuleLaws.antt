-- The rule in document 02's words and the definition that is computed are one: what is computed replaces each M by alternating runs with the text's columns, and nothing else does.
use Prim.Native.Nat.{ℕ, zero, suc, ◌+◌, ◌-◌, ◌<◌}
use mathlib.Core.Path.{◌≡◌, refl, sym, ap, ◌∙◌, subst}
use mathlib.Core.Bool.{Bool, true, false, cond, not, ◌&&◌, ◌||◌}
use mathlib.Core.List.{List, [], ◌∷◌, ◌++◌, map, append_assoc}
use native.Mathlib.Omega.{arith}
use lib.Dec.{ltb, eqb}
use lib.ListN.{length, take, drop, replicate, take-append-drop, length-append, length-replicate, replicate-append-replicate}
use lib.Seq.{take_at, drop_at}
use borrow.Author.Tests.{lt-ltb, ltb-true, eqb-true, eq-eqb, ne_eqb}
use Rattle.lists.specs.Lists.{sum_of}
use Rattle.lists.specs.Runs.{holds}
use Rattle.lists.proofs.Absurd.{false_true}
use Rattle.sam.specs.Op.{len_of, code_of, op_of, is_query, is_ref}
use Rattle.sam.specs.Columns.{Column, Column.Both, spell, columns}
use Rattle.sam.specs.Md.{MdColumn, MdColumn.Match, MdColumn.Mismatch, MdColumn.Deleted, md_spell, md_columns}
use Rattle.md_rules.specs.Rule.{is_match, is_told, is_loss, is_base, code_for, joined, runs, bases, lost_at, op_agrees, op_leaves, op_told, agrees, told}
use Rattle.md_rules.specs.Meaning.{first_is, alternates, Replaces, Replaces.none, Replaces.match, Replaces.other, others, read_back, together}
use Rattle.md_rules.proofs.RunLaws.{run-of, bases_same, loss_some}
use Rattle.md_rules.proofs.OpLaws.{match-agrees, match-leaves, match-told, kept-told, loss-agrees, loss-leaves, other-agrees, other-leaves}

-- ---- = and X

told_code : (o : ℕ) → is_told o ≡ true → (P : ℕ → Type 0) → P 7 → P 8 → P (code_of o)
told_code o e P a b = go (eqb (code_of o) 7) refl (eqb (code_of o) 8) refl e
  where
    go : (t : Bool) → eqb (code_of o) 7 ≡ t → (u : Bool) → eqb (code_of o) 8 ≡ u → (t || u) ≡ true → P (code_of o)
    go true q u r e = rw (eqb-true (code_of o) 7 q) a
    go false q true r e = rw (eqb-true (code_of o) 8 r) b
    go false q false r e = false_true e

base_code : (c : MdColumn) → is_base c ≡ true → (o : ℕ) → code_of o ≡ code_for c → is_told o ≡ true
base_code Match b o e = rw (eq-eqb (code_of o) 7 e)
base_code Mismatch b o e = rw (ne_eqb (code_of o) 7 (λ z. omega arith), eq-eqb (code_of o) 8 e)
base_code (Deleted n) b o e = false_true b

one_base : (c : MdColumn) → is_base c ≡ true → (code_of (op_of 1 (code_for c)) ≡ code_for c) × (len_of (op_of 1 (code_for c)) ≡ 1)
one_base Match b = (refl, refl)
one_base Mismatch b = (refl, refl)
one_base (Deleted n) b = false_true b

-- what an op of the code of a base spells
base_spell : (c : MdColumn) → is_base c ≡ true → (o : ℕ) → code_of o ≡ code_for c → md_spell (code_of o) (len_of o) ≡ replicate (len_of o) c
base_spell Match b o e = rw (eq-eqb (code_of o) 7 e) refl
base_spell Mismatch b o e = rw (ne_eqb (code_of o) 7 (λ z. omega arith), eq-eqb (code_of o) 8 e) refl
base_spell (Deleted n) b o e = false_true b

-- n bases: what holds of no runs, and of one base more before runs, holds of theirs
by_bases : (P : List MdColumn → List ℕ → Type 0) → P [] []
    → ((c : MdColumn) (cs : List MdColumn) (os : List ℕ) → is_base c ≡ true → P cs os → P (c ∷ cs) (joined (code_for c) os))
    → (n : ℕ) (cs : List MdColumn) → bases n cs ≡ true → P (take n cs) (runs (take n cs))
unfolding bases runs
by_bases P z s zero cs e = z
by_bases P z s (suc n) [] e = false_true e
by_bases P z s (suc n) (Match ∷ cs) e = s Match (take n cs) (runs (take n cs)) refl (by_bases P z s n cs e)
by_bases P z s (suc n) (Mismatch ∷ cs) e = s Mismatch (take n cs) (runs (take n cs)) refl (by_bases P z s n cs e)
by_bases P z s (suc n) (Deleted k ∷ cs) e = false_true e

bases_length : (n : ℕ) (cs : List MdColumn) → bases n cs ≡ true → length (take n cs) ≡ n
unfolding bases
bases_length zero cs e = refl
bases_length (suc n) [] e = false_true e
bases_length (suc n) (Match ∷ cs) e = ap suc (bases_length n cs e)
bases_length (suc n) (Mismatch ∷ cs) e = ap suc (bases_length n cs e)
bases_length (suc n) (Deleted k ∷ cs) e = false_true e

-- ---- runs alternate, none is empty

record Alternate (o : ℕ) (os : List ℕ) : Type 0 where
  told_first : is_told o ≡ true
  some : 0 < len_of o
  differ : first_is (code_of o) os ≡ false
  rest : alternates os ≡ true

alternate : (o : ℕ) (os : List ℕ) → alternates (o ∷ os) ≡ true → Alternate o os
unfolding alternates
alternate o os a = go (is_told o) refl (ltb 0 (len_of o)) refl (first_is (code_of o) os) refl a
  where
    go : (t : Bool) → is_told o ≡ t → (u : Bool) → ltb 0 (len_of o) ≡ u → (v : Bool) → first_is (code_of o) os ≡ v → (t && (u && (not v && alternates os))) ≡ true → Alternate o os
    go true p true q false r a = record { told_first = p; some = ltb-true 0 (len_of o) q; differ = r; rest = a }
    go true p true q true r a = false_true a
    go true p false q v r a = false_true a
    go false p u q v r a = false_true a

alternates_cons : (o : ℕ) (os : List ℕ) → Alternate o os → alternates (o ∷ os) ≡ true
unfolding alternates
alternates_cons o os a = rw (a.told_first, lt-ltb 0 (len_of o) a.some, a.differ, a.rest) refl

joined_alternates : (c : MdColumn) (cs : List MdColumn) (os : List ℕ) → is_base c ≡ true → alternates os ≡ true → alternates (joined (code_for c) os) ≡ true
unfolding joined first_is
joined_alternates c cs [] b a =
    let k = one_base c b in
    alternates_cons _ [] (record { told_first = base_code c b _ k.0; some = omega (arith, k.1); differ = refl; rest = a })
joined_alternates c cs (o ∷ os) b a = go (eqb (code_of o) (code_for c)) refl
  where
    go : (t : Bool) → eqb (code_of o) (code_for c) ≡ t → alternates (cond t ((o + 16) ∷ os) (op_of 1 (code_for c) ∷ (o ∷ os))) ≡ true
    go true q =
        let e = eqb-true (code_of o) (code_for c) q in
        let h : code_of (o + 16) ≡ code_of o = omega arith in
        let k = alternate o os a in
        alternates_cons (o + 16) os (record { told_first = base_code c b (o + 16) (h ∙ e); some = omega arith; differ = ap (λ (d : ℕ). first_is d os) h ∙ k.differ; rest = k.rest })
    go false q =
        let k = one_base c b in
        alternates_cons (op_of 1 (code_for c)) (o ∷ os) (record { told_first = base_code c b _ k.0; some = omega (arith, k.1); differ = rw k.0 q; rest = a })

runs_alternate : (n : ℕ) (cs : List MdColumn) → bases n cs ≡ true → alternates (runs (take n cs)) ≡ true
unfolding alternates
runs_alternate = by_bases (λ cs os. alternates os ≡ true) refl joined_alternates

-- ---- and have the bases' columns

joined_columns : (c : MdColumn) (cs : List MdColumn) (os : List ℕ) → is_base c ≡ true → md_columns os ≡ cs → md_columns (joined (code_for c) os) ≡ c ∷ cs
unfolding joined md_columns
joined_columns c cs [] b e =
    let k = one_base c b in
    ap (λ (l : List MdColumn). l ++ []) (base_spell c b (op_of 1 (code_for c)) k.0 ∙ ap (λ (n : ℕ). replicate n c) k.1) ∙ ap (λ (l : List MdColumn). c ∷ l) e
joined_columns c cs (o ∷ os) b e = go (eqb (code_of o) (code_for c)) refl
  where
    go : (t : Bool) → eqb (code_of o) (code_for c) ≡ t → md_columns (cond t ((o + 16) ∷ os) (op_of 1 (code_for c) ∷ (o ∷ os))) ≡ c ∷ cs
    go true q =
        let h = eqb-true (code_of o) (code_for c) q in
        let k : code_of (o + 16) ≡ code_of o = omega arith in
        let l : len_of (o + 16) ≡ suc (len_of o) = omega arith in
        ap (λ (x : List MdColumn). x ++ md_columns os) (base_spell c b (o + 16) (k ∙ h) ∙ ap (λ (n : ℕ). replicate n c) l)
        ∙ ap (λ (x : List MdColumn). c ∷ (x ++ md_columns os)) (sym (base_spell c b o h)) ∙ ap (λ (x : List MdColumn). c ∷ x) e
    go false q =
        let k = one_base c b in
        ap (λ (l : List MdColumn). l ++ md_columns (o ∷ os)) (base_spell c b (op_of 1 (code_for c)) k.0 ∙ ap (λ (n : ℕ). replicate n c) k.1) ∙ ap (λ (l : List MdColumn). c ∷ l) e

runs_columns : (n : ℕ) (cs : List MdColumn) → bases n cs ≡ true → md_columns (runs (take n cs)) ≡ take n cs
unfolding md_columns
runs_columns = by_bases (λ cs os. md_columns os ≡ cs) refl joined_columns

columns_both : (xs ys : List ℕ) → md_columns (xs ++ ys) ≡ md_columns xs ++ md_columns ys
unfolding md_columns
columns_both [] ys = refl
columns_both (o ∷ xs) ys = ap (λ (l : List MdColumn). md_spell (code_of o) (len_of o) ++ l) (columns_both xs ys) ∙ sym (append_assoc (md_spell (code_of o) (len_of o)) (md_columns xs) (md_columns ys))

-- the bases of alternating runs: as many as the runs are long, and the runs are theirs
record BasesOf (rs : List ℕ) : Type 0 where
  as_many : length (md_columns rs) ≡ sum_of len_of rs
  are : (cs : List MdColumn) → bases (sum_of len_of rs) (md_columns rs ++ cs) ≡ true
  back : runs (md_columns rs) ≡ rs

module _ (o : ℕ) (rs : List ℕ) (k : Alternate o rs) (r : BasesOf rs) where
  of_base : (c : MdColumn) → is_base c ≡ true → code_of o ≡ code_for c → BasesOf (o ∷ rs)
  unfolding md_columns sum_of
  of_base c b e =
      let s = base_spell c b o e in
      let n : len_of o ≡ suc (len_of o - 1) = omega (arith, k.some) in
      record {
        as_many = let q = length-append (md_spell (code_of o) (len_of o)) (md_columns rs) in omega (arith, q, ap length s ∙ length-replicate (len_of o) c, r.as_many);
        are = λ cs.
            ap (bases (len_of o + sum_of len_of rs)) (append_assoc (md_spell (code_of o) (len_of o)) (md_columns rs) cs ∙ ap (λ (l : List MdColumn). l ++ (md_columns rs ++ cs)) s)
            ∙ bases_same (len_of o) (sum_of len_of rs) c (md_columns rs ++ cs) b ∙ r.are cs;
        back =
            ap (λ (l : List MdColumn). runs (l ++ md_columns rs)) (s ∙ ap (λ (j : ℕ). replicate j c) n)
            ∙ run-of (len_of o - 1) c (md_columns rs) (rw r.back (ap (λ (d : ℕ). first_is d rs) (sym e) ∙ k.differ))
            ∙ ap (λ (x : ℕ). x ∷ runs (md_columns rs)) {x = op_of (suc (len_of o - 1)) (code_for c)} {y = o} (omega (arith, e, k.some))
            ∙ ap (λ (l : List ℕ). o ∷ l) r.back;
      }

  of_run : BasesOf (o ∷ rs)
  of_run = go (eqb (code_of o) 7) refl
    where
      go : (t : Bool) → eqb (code_of o) 7 ≡ t → BasesOf (o ∷ rs)
      go true q = of_base Match refl (eqb-true (code_of o) 7 q)
      go false q = of_base Mismatch refl (told_code o k.told_first (λ x. eqb x 7 ≡ false → x ≡ 8) (λ z. false_true (sym z)) (λ z. refl) q)

runs_bases : (rs : List ℕ) → alternates rs ≡ true → BasesOf rs
unfolding md_columns sum_of runs bases
runs_bases [] a = record { as_many = refl; are = λ cs. refl; back = refl }
runs_bases (o ∷ rs) a = let k = alternate o rs a in of_run o rs k (runs_bases rs k.rest)

-- ---- an op of the list

none_told : (o : ℕ) (xs : List ℕ) → holds is_told (o ∷ xs) ≡ false → (is_told o ≡ false) × (holds is_told xs ≡ false)
unfolding holds
none_told o xs h = go (is_told o) refl h
  where
    go : (t : Bool) → is_told o ≡ t → cond t true (holds is_told xs) ≡ false → (t ≡ false) × (holds is_told xs ≡ false)
    go true q h = false_true (sym h)
    go false q h = (refl, h)

kept_spell : (o : ℕ) → is_told o ≡ false → md_spell (code_of o) (len_of o) ≡ cond (is_loss o) (Deleted (len_of o) ∷ []) []
kept_spell o t = go (eqb (code_of o) 7) refl (eqb (code_of o) 8) refl t
  where
    go : (a : Bool) → eqb (code_of o) 7 ≡ a → (b : Bool) → eqb (code_of o) 8 ≡ b → (a || b) ≡ false → cond a (replicate (len_of o) Match) (cond b (replicate (len_of o) Mismatch) (cond (is_loss o) (Deleted (len_of o) ∷ []) [])) ≡ cond (is_loss o) (Deleted (len_of o) ∷ []) []
    go true p b q e = false_true (sym e)
    go false p true q e = false_true (sym e)
    go false p false q e = refl

module _ (o : ℕ) (xs : List ℕ) (cs ds : List MdColumn) (l : op_leaves o cs ≡ ds) where
  agrees_cons : op_agrees o cs ≡ true → agrees (o ∷ xs) cs ≡ agrees xs ds
  unfolding agrees
  agrees_cons a = rw (a, l) refl

  told_cons : (rs : List ℕ) → op_told o cs ≡ rs → told (o ∷ xs) cs ≡ rs ++ told xs ds
  unfolding told
  told_cons rs t = rw (t, l) refl

-- ---- what replaces the M's so is what is computed

agrees_nil : agrees [] [] ≡ true
unfolding agrees
agrees_nil = refl

told_nil : told [] [] ≡ []
unfolding told
told_nil = refl

by_loss : (o : ℕ) (xs ys : List ℕ) → is_match o ≡ false → md_spell (code_of o) (len_of o) ++ md_columns ys ≡ cond (is_loss o) (Deleted (len_of o) ∷ []) [] ++ md_columns ys → (t : Bool) → is_loss o ≡ t
    → (agrees xs (md_columns ys) ≡ true) × (told xs (md_columns ys) ≡ ys) → (agrees (o ∷ xs) (md_columns (o ∷ ys)) ≡ true) × (told (o ∷ xs) (md_columns (o ∷ ys)) ≡ o ∷ ys)
unfolding md_columns lost_at
by_loss o xs ys m k true q u =
    let e : md_columns (o ∷ ys) ≡ Deleted (len_of o) ∷ md_columns ys = k ∙ ap (λ (t : Bool). cond t (Deleted (len_of o) ∷ []) [] ++ md_columns ys) q in
    let d = loss-leaves o (md_columns (o ∷ ys)) m q ∙ ap (drop 1) e in
    let w = loss-agrees o (md_columns (o ∷ ys)) m q ∙ eq-eqb (lost_at (md_columns (o ∷ ys))) (len_of o) (ap lost_at e) in
    (agrees_cons o xs (md_columns (o ∷ ys)) (md_columns ys) d w ∙ u.0, told_cons o xs (md_columns (o ∷ ys)) (md_columns ys) d (o ∷ []) (kept-told o (md_columns (o ∷ ys)) m) ∙ ap (λ (l : List ℕ). o ∷ l) u.1)
by_loss o xs ys m k false q u =
    let e : md_columns (o ∷ ys) ≡ md_columns ys = k ∙ ap (λ (t : Bool). cond t (Deleted (len_of o) ∷ []) [] ++ md_columns ys) q in
    let d = other-leaves o (md_columns (o ∷ ys)) m q ∙ e in
    (agrees_cons o xs (md_columns (o ∷ ys)) (md_columns ys) d (other-agrees o (md_columns (o ∷ ys)) m q) ∙ u.0, told_cons o xs (md_columns (o ∷ ys)) (md_columns ys) d (o ∷ []) (kept-told o (md_columns (o ∷ ys)) m) ∙ ap (λ (l : List ℕ). o ∷ l) u.1)

pub unique : {xs ys : List ℕ} → Replaces xs ys → holds is_told xs ≡ false → (agrees xs (md_columns ys) ≡ true) × (told xs (md_columns ys) ≡ ys)
unfolding md_columns lost_at
unique none h = (agrees_nil, told_nil)
unique (match {o} {xs} {ys} rs m a l r) h =
    let u = unique r (none_told o xs h).1 in
    let b = runs_bases rs a in
    let c = columns_both rs ys in
    let n : length (md_columns rs) ≡ len_of o = b.as_many ∙ l in
    let d : op_leaves o (md_columns (rs ++ ys)) ≡ md_columns ys = match-leaves o (md_columns (rs ++ ys)) m ∙ ap (drop (len_of o)) c ∙ drop_at (md_columns rs) (md_columns ys) (len_of o) n in
    let w : op_agrees o (md_columns (rs ++ ys)) ≡ true = match-agrees o (md_columns (rs ++ ys)) m ∙ ap (bases (len_of o)) c ∙ ap (λ (j : ℕ). bases j (md_columns rs ++ md_columns ys)) (sym l) ∙ b.are (md_columns ys) in
    let t : op_told o (md_columns (rs ++ ys)) ≡ rs = match-told o (md_columns (rs ++ ys)) m ∙ ap (λ (q : List MdColumn). runs (take (len_of o) q)) c ∙ ap runs (take_at (md_columns rs) (md_columns ys) (len_of o) n) ∙ b.back in
    (agrees_cons o xs (md_columns (rs ++ ys)) (md_columns ys) d w ∙ u.0, told_cons o xs (md_columns (rs ++ ys)) (md_columns ys) d rs t ∙ ap (λ (q : List ℕ). rs ++ q) u.1)
unique (other {o} {xs} {ys} m r) h =
    let u = unique r (none_told o xs h).1 in
    let k = ap (λ (q : List MdColumn). q ++ md_columns ys) (kept_spell o (none_told o xs h).0) in
    by_loss o xs ys m k (is_loss o) refl u

-- ---- what is computed replaces them so

abbrev Rightly : List ℕ → List MdColumn → List ℕ → Type 0
Rightly xs cs ys = Replaces xs ys × (md_columns ys ≡ cs)

lost_is : (n : ℕ) (cs : List MdColumn) → 0 < n → lost_at cs ≡ n → cs ≡ Deleted n ∷ drop 1 cs
unfolding lost_at
lost_is n [] h e = absurd (omega arith)
lost_is n (Match ∷ cs) h e = absurd (omega arith)
lost_is n (Mismatch ∷ cs) h e = absurd (omega arith)
lost_is n (Deleted k ∷ cs) h e = rw e refl

module _ (o : ℕ) (xs : List ℕ) (cs : List MdColumn) (a : op_agrees o cs ≡ true) (r : Rightly xs (op_leaves o cs) (told xs (op_leaves o cs))) where
  with_match : is_match o ≡ true → Rightly (o ∷ xs) cs (runs (take (len_of o) cs) ++ told xs (op_leaves o cs))
  with_match m =
      let b : bases (len_of o) cs ≡ true = sym (match-agrees o cs m) ∙ a in
      let w = runs_alternate (len_of o) cs b in
      let c = runs_columns (len_of o) cs b in (
        match (runs (take (len_of o) cs)) m w (sym (runs_bases (runs (take (len_of o) cs)) w).as_many ∙ ap length c ∙ bases_length (len_of o) cs b) r.0,
        columns_both (runs (take (len_of o) cs)) (told xs (op_leaves o cs)) ∙ ap (λ (l : List MdColumn). l ++ md_columns (told xs (op_leaves o cs))) c
            ∙ ap (λ (l : List MdColumn). take (len_of o) cs ++ l) (r.1 ∙ match-leaves o cs m) ∙ take-append-drop (len_of o) cs,
      )

  with_other : is_match o ≡ false → is_told o ≡ false → (t : Bool) → is_loss o ≡ t → Rightly (o ∷ xs) cs (o ∷ told xs (op_leaves o cs))
  unfolding md_columns
  with_other m n true q =
      let e = lost_is (len_of o) cs (loss_some o q) (eqb-true (lost_at cs) (len_of o) (sym (loss-agrees o cs m q) ∙ a)) in (
        other m r.0,
        ap (λ (l : List MdColumn). l ++ md_columns (told xs (op_leaves o cs))) (kept_spell o n ∙ ap (λ (t : Bool). cond t (Deleted (len_of o) ∷ []) []) q)
            ∙ ap (λ (l : List MdColumn). Deleted (len_of o) ∷ l) (r.1 ∙ loss-leaves o cs m q) ∙ sym e,
      )
  with_other m n false q = (
    other m r.0,
    ap (λ (l : List MdColumn). l ++ md_columns (told xs (op_leaves o cs))) (kept_spell o n ∙ ap (λ (t : Bool). cond t (Deleted (len_of o) ∷ []) []) q)
        ∙ r.1 ∙ other-leaves o cs m q,
  )

  with_op : is_told o ≡ false → (t : Bool) → is_match o ≡ t → Rightly (o ∷ xs) cs (op_told o cs ++ told xs (op_leaves o cs))
  with_op n true m = subst (λ (rs : List ℕ). Rightly (o ∷ xs) cs (rs ++ told xs (op_leaves o cs))) (sym (match-told o cs m)) (with_match m)
  with_op n false m = subst (λ (rs : List ℕ). Rightly (o ∷ xs) cs (rs ++ told xs (op_leaves o cs))) (sym (kept-told o cs m)) (with_other m n (is_loss o) refl)

pub answered : (xs : List ℕ) (cs : List MdColumn) → holds is_told xs ≡ false → agrees xs cs ≡ true → Replaces xs (told xs cs) × (md_columns (told xs cs) ≡ cs)
unfolding agrees told md_columns
answered [] [] h a = (none, refl)
answered [] (c ∷ cs) h a = false_true a
answered (o ∷ xs) cs h a = go (op_agrees o cs) refl a (λ b. answered xs (op_leaves o cs) (none_told o xs h).1 b)
  where
    go : (t : Bool) → op_agrees o cs ≡ t → cond t (agrees xs (op_leaves o cs)) false ≡ true → (agrees xs (op_leaves o cs) ≡ true → Rightly xs (op_leaves o cs) (told xs (op_leaves o cs)))
        → Rightly (o ∷ xs) cs (op_told o cs ++ told xs (op_leaves o cs))
    go true q a r = with_op o xs cs q (r a) (none_told o xs h).0 (is_match o) refl
    go false q a r = false_true a

-- ---- of any list with its M's replaced so

-- the same alignment, column for column
runs_spell : (rs : List ℕ) → alternates rs ≡ true → columns rs ≡ replicate (sum_of len_of rs) Both
unfolding columns sum_of is_query is_ref
runs_spell [] a = refl
runs_spell (o ∷ rs) a =
    let k = alternate o rs a in
    ap (λ (l : List Column). l ++ columns rs) (told_code o k.told_first (λ c. spell (is_query c) (is_ref c) (len_of o) ≡ replicate (len_of o) Both) refl refl)
    ∙ ap (λ (l : List Column). replicate (len_of o) Both ++ l) (runs_spell rs k.rest)
    ∙ replicate-append-replicate (len_of o) (sum_of len_of rs) Both

spell_both : (xs ys : List ℕ) → columns (xs ++ ys) ≡ columns xs ++ columns ys
unfolding columns
spell_both [] ys = refl
spell_both (o ∷ xs) ys = ap (λ (l : List Column). spell (is_query (code_of o)) (is_ref (code_of o)) (len_of o) ++ l) (spell_both xs ys) ∙ sym (append_assoc (spell (is_query (code_of o)) (is_ref (code_of o)) (len_of o)) (columns xs) (columns ys))

pub same_alignment : {xs ys : List ℕ} → Replaces xs ys → columns ys ≡ columns xs
unfolding columns is_query is_ref
same_alignment none = refl
same_alignment (match {o} {xs} {ys} rs m a l r) =
    spell_both rs ys ∙ ap (λ (q : List Column). q ++ columns ys) (runs_spell rs a ∙ ap (λ (n : ℕ). replicate n Both) l)
    ∙ ap (λ (q : List Column). replicate (len_of o) Both ++ q) (same_alignment r)
    ∙ ap (λ (c : ℕ). spell (is_query c) (is_ref c) (len_of o) ++ columns xs) (sym (eqb-true (code_of o) 0 m))
same_alignment (other {o} {xs} {ys} m r) = ap (λ (q : List Column). spell (is_query (code_of o)) (is_ref (code_of o)) (len_of o) ++ q) (same_alignment r)

-- the same other ops
runs_others : (rs ys : List ℕ) → alternates rs ≡ true → others (rs ++ ys) ≡ others ys
unfolding others
runs_others [] ys a = refl
runs_others (o ∷ rs) ys a = let k = alternate o rs a in rw k.told_first (either (is_match o)) ∙ runs_others rs ys k.rest
  where
    either : (t : Bool) → cond (t || true) (others (rs ++ ys)) (o ∷ others (rs ++ ys)) ≡ others (rs ++ ys)
    either true = refl
    either false = refl

pub same_others : {xs ys : List ℕ} → Replaces xs ys → others ys ≡ others xs
unfolding others
same_others none = refl
same_others (match {o} {xs} {ys} rs m a l r) = runs_others rs ys a ∙ same_others r ∙ rw m refl
same_others (other {o} {xs} {ys} m r) = rw (same_others r) refl

-- read back: one op for each piece
joined_back : (rs : List ℕ) (o : ℕ) → is_match o ≡ true → alternates rs ≡ true → sum_of len_of rs ≡ len_of o → read_back rs ≡ o
unfolding read_back sum_of
joined_back [] o m a l = let c = eqb-true (code_of o) 0 m in omega arith
joined_back (x ∷ rs) o m a l = let c = eqb-true (code_of o) 0 m in rw (alternate x rs a).told_first (omega (arith, l, c))

pub reads_back : {xs ys : List ℕ} → Replaces xs ys → holds is_told xs ≡ false → (ps : List (List ℕ)) × (together ps ≡ ys) × (map read_back ps ≡ xs)
unfolding together read_back
reads_back none h = ([], refl, refl)
reads_back (match {o} {xs} {ys} rs m a l r) h =
    let u = reads_back r (none_told o xs h).1 in
    (rs ∷ u.0, ap (λ (q : List ℕ). rs ++ q) u.1, ap (λ (n : ℕ). n ∷ map read_back u.0) (joined_back rs o m a l) ∙ ap (λ (q : List ℕ). o ∷ q) u.2)
reads_back (other {o} {xs} {ys} m r) h =
    let u = reads_back r (none_told o xs h).1 in
    ((o ∷ []) ∷ u.0, ap (λ (q : List ℕ). o ∷ q) u.1, ap (λ (n : ℕ). n ∷ map read_back u.0) {y = o} (rw (none_told o xs h).0 refl) ∙ ap (λ (q : List ℕ). o ∷ q) u.2)
