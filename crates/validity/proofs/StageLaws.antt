-- The stages of the walk are those of the clips: its last stage accepts just what `is_valid_mapped_cigar` takes.
use Prim.Native.Nat.{ℕ, ◌+◌, ◌≤◌, ◌<◌}
use mathlib.Core.Path.{◌≡◌, refl, sym, ap, ◌∙◌}
use mathlib.Core.Bool.{Bool, true, false, cond, not, ◌&&◌, ◌||◌, and-true, and-false}
use mathlib.Core.List.{List, [], ◌∷◌, ◌++◌}
use native.Mathlib.Omega.{arith}
use lib.Dec.{ltb, eqb}
use lib.ListN.{get_or, drop}
use borrow.Author.Tests.{lt-ltb, le-ltb, ltb-true, ltb-false, eqb-true}
use Rattle.lists.proofs.Absurd.{never}
use Rattle.lists.proofs.Tables.{below_same}
use Rattle.sam.specs.Op.{len_of, code_of, is_ref}
use Rattle.text_rules.specs.Valid.{is_empty, soft_op, hard_op, all_hard, any_ref, each, no_zero, hard_outside, soft_outside, in_table, valid_mapped}
use Rattle.validity.specs.InnerStages.{code_class, class_of, step_of, accept_of, is_wrong, stage_after}
use Rattle.validity.specs.InnerClass.{Class, Class.Reference, Class.Other, Class.Soft, Class.Hard, Class.Unknown}
use Rattle.validity.specs.declared.Stage.{Stage}
use Rattle.validity.specs.declared.Stage.TheVariants.{Start, AfterHard, Inner, Good, EndSoft, EndHard, Wrong}
use Rattle.text_rules.proofs.ValidLaws.{split_and}

-- ---- the rules, without the ops on the left

unfoldable plain : List ℕ → Bool
plain [] = true
plain (o ∷ xs) = (ltb 0 (len_of o) && ltb (code_of o) 9) && plain xs

-- `first`: no op came before; `hard`: only H came before
unfoldable placed_from : Bool → Bool → List ℕ → Bool
placed_from first hard [] = true
placed_from first hard (o ∷ xs) =
    (cond (hard_op o) (first || is_empty xs) true && cond (soft_op o) (hard || all_hard xs) true) && placed_from false (hard && hard_op o) xs

and_swap : (a b c d : Bool) → ((a && b) && (c && d)) ≡ ((a && c) && (b && d))
and_swap true true true d = refl
and_swap true true false d = refl
and_swap true false true d = refl
and_swap true false false d = refl
and_swap false b c d = refl

each_plain : (xs left : List ℕ) → (each no_zero left xs && each in_table left xs) ≡ plain xs
unfolding each plain
each_plain [] left = refl
each_plain (o ∷ xs) left =
    let more = left ++ (o ∷ []) in
    and_swap (ltb 0 (len_of o)) (each no_zero more xs) (ltb (code_of o) 9) (each in_table more xs) ∙ rw (each_plain xs more)

empty_more : (left : List ℕ) (o : ℕ) → is_empty (left ++ (o ∷ [])) ≡ false
unfolding is_empty
empty_more [] o = refl
empty_more (x ∷ left) o = refl

hard_more : (left : List ℕ) (o : ℕ) → all_hard (left ++ (o ∷ [])) ≡ (all_hard left && hard_op o)
unfolding all_hard
hard_more [] o = and-true (hard_op o)
hard_more (x ∷ left) o = ap (λ (t : Bool). hard_op x && t) (hard_more left o) ∙ and-three (hard_op x) (all_hard left) (hard_op o)
  where
    and-three : (a b c : Bool) → (a && (b && c)) ≡ ((a && b) && c)
    and-three true b c = refl
    and-three false b c = refl

each_placed : (xs left : List ℕ) → (each hard_outside left xs && each soft_outside left xs) ≡ placed_from (is_empty left) (all_hard left) xs
unfolding each placed_from
each_placed [] left = refl
each_placed (o ∷ xs) left =
    let more = left ++ (o ∷ []) in
    and_swap (hard_outside left o xs) (each hard_outside more xs) (soft_outside left o xs) (each soft_outside more xs)
    ∙ rw (each_placed xs more, empty_more left o, hard_more left o)

regroup : (e z h s k r : Bool) → (e && z && h && s && k && r) ≡ (e && ((z && k) && ((h && s) && r)))
regroup false z h s k r = refl
regroup true false h s k r = refl
regroup true true false s k r = sym (and-false k)
regroup true true true false k r = sym (and-false k)
regroup true true true true k r = refl

valid-is : (xs : List ℕ) → valid_mapped xs ≡ (not (is_empty xs) && (plain xs && (placed_from true true xs && any_ref xs)))
unfolding valid_mapped is_empty all_hard
valid-is xs =
    regroup (not (is_empty xs)) (each no_zero [] xs) (each hard_outside [] xs) (each soft_outside [] xs) (each in_table [] xs) (any_ref xs)
    ∙ rw (each_plain xs [], each_placed xs [])

-- ---- the class of an op, as the rules' tests

abbrev number : Class → ℕ
number Reference = 0
number Other = 1
number Soft = 2
number Hard = 3
number Unknown = 4

abbrev numbered : ℕ → Class
numbered n = get_or (Reference ∷ Other ∷ Soft ∷ Hard ∷ []) n Unknown

numbered_number : (k : Class) → numbered (number k) ≡ k
numbered_number Reference = refl
numbered_number Other = refl
numbered_number Soft = refl
numbered_number Hard = refl
numbered_number Unknown = refl

-- the class of a number
abbrev has : ℕ → Class → Bool
has n k = eqb (number k) n

pub has_is : (n : ℕ) (k : Class) → has n k ≡ true → numbered n ≡ k
has_is n k e = ap numbered (sym (eqb-true (number k) n e)) ∙ numbered_number k

abbrev pub ref_b : Class → Bool
ref_b = has 0

abbrev pub soft_b : Class → Bool
soft_b = has 2

abbrev pub hard_b : Class → Bool
hard_b = has 3

abbrev unknown_b : Class → Bool
unknown_b = has 4

pub class_ref : (c : ℕ) → c < 16 → ref_b (code_class c) ≡ is_ref c
unfolding code_class is_ref
class_ref c h = below_same (λ d. ref_b (code_class d)) is_ref 16 c refl h

pub class_soft : (c : ℕ) → c < 16 → soft_b (code_class c) ≡ eqb c 4
unfolding code_class is_ref
class_soft c h = below_same (λ d. soft_b (code_class d)) (λ d. eqb d 4) 16 c refl h

pub class_hard : (c : ℕ) → c < 16 → hard_b (code_class c) ≡ eqb c 5
unfolding code_class is_ref
class_hard c h = below_same (λ d. hard_b (code_class d)) (λ d. eqb d 5) 16 c refl h

class_known : (c : ℕ) → c < 16 → unknown_b (code_class c) ≡ ltb 8 c
unfolding code_class is_ref
class_known c h = below_same (λ d. unknown_b (code_class d)) (λ d. ltb 8 d) 16 c refl h

-- an op with a length has the class of its code
pub long_class : (o : ℕ) → 0 < len_of o → class_of o ≡ code_class (code_of o)
unfolding class_of
long_class o h = rw (le-ltb o 16 (omega arith))

pub short_class : (o : ℕ) → len_of o ≡ 0 → class_of o ≡ Unknown
unfolding class_of
short_class o h = rw (lt-ltb o 16 (omega arith))

odd_class : (o : ℕ) → 9 ≤ code_of o → class_of o ≡ Unknown
unfolding class_of
odd_class o h = go (ltb o 16)
  where
    go : (t : Bool) → cond t Unknown (code_class (code_of o)) ≡ Unknown
    go true = refl
    go false = sym (has_is 4 (code_class (code_of o)) (class_known (code_of o) (omega arith) ∙ lt-ltb 8 (code_of o) (omega arith)))

-- ---- the walk by its last stage

pub wrong_run : (xs : List ℕ) → accept_of (stage_after Wrong xs) ≡ false
unfolding stage_after
wrong_run [] = refl
wrong_run (o ∷ xs) = wrong_run xs

pub wrong_accept : (q : Stage) (xs : List ℕ) → is_wrong q ≡ true → accept_of (stage_after q xs) ≡ false
wrong_accept Start xs e = never (cc)
wrong_accept AfterHard xs e = never (cc)
wrong_accept Inner xs e = never (cc)
wrong_accept Good xs e = never (cc)
wrong_accept EndSoft xs e = never (cc)
wrong_accept EndHard xs e = never (cc)
wrong_accept Wrong xs e = wrong_run xs

pub step_unknown : (p : Stage) → step_of p Unknown ≡ Wrong
step_unknown Start = refl
step_unknown AfterHard = refl
step_unknown Inner = refl
step_unknown Good = refl
step_unknown EndSoft = refl
step_unknown EndHard = refl
step_unknown Wrong = refl

pub unknown_run : (p : Stage) (o : ℕ) (xs : List ℕ) → class_of o ≡ Unknown → accept_of (stage_after p (o ∷ xs)) ≡ false
unfolding stage_after
unknown_run p o xs e = rw (e, step_unknown p) (wrong_run xs)

pub long_run : (p : Stage) (o : ℕ) (xs : List ℕ) → 16 ≤ o → accept_of (stage_after p (o ∷ xs)) ≡ accept_of (stage_after (step_of p (code_class (code_of o))) xs)
unfolding stage_after
long_run p o xs h = ap (λ (k : Class). accept_of (stage_after (step_of p k) xs)) (long_class o (omega arith))

odd_run : (xs : List ℕ) (p : Stage) → plain xs ≡ false → accept_of (stage_after p xs) ≡ false
unfolding plain stage_after
odd_run [] p e = never (cc)
odd_run (o ∷ xs) p e = go (ltb 0 (len_of o)) (ltb (code_of o) 9) refl refl e (odd_run xs (step_of p (class_of o)))
  where
    go : (a b : Bool) → ltb 0 (len_of o) ≡ a → ltb (code_of o) 9 ≡ b → ((a && b) && plain xs) ≡ false
        → (plain xs ≡ false → accept_of (stage_after (step_of p (class_of o)) xs) ≡ false) → accept_of (stage_after p (o ∷ xs)) ≡ false
    go true true q r t ih = ih t
    go true false q r t ih = unknown_run p o xs (odd_class o (ltb-false (code_of o) 9 r))
    go false b q r t ih = let h = ltb-false 0 (len_of o) q in unknown_run p o xs (short_class o (omega arith))

-- what each stage asks of the ops that are left
record States (xs : List ℕ) : Type 0 where
  start : accept_of (stage_after Start xs) ≡ (placed_from true true xs && any_ref xs)
  after_hard : accept_of (stage_after AfterHard xs) ≡ (placed_from false true xs && any_ref xs)
  inner : accept_of (stage_after Inner xs) ≡ (placed_from false false xs && any_ref xs)
  good : accept_of (stage_after Good xs) ≡ placed_from false false xs
  end_soft : accept_of (stage_after EndSoft xs) ≡ (all_hard xs && placed_from false false xs)
  end_hard : accept_of (stage_after EndHard xs) ≡ is_empty xs
  wrong : accept_of (stage_after Wrong xs) ≡ false
  no_ref : (all_hard xs && any_ref xs) ≡ false
  empty_ref : (is_empty xs && any_ref xs) ≡ false
  empty_placed : (is_empty xs && placed_from false false xs) ≡ is_empty xs
  empty_hard : (all_hard xs && is_empty xs) ≡ is_empty xs

-- three tests in a row, of which the outer two exclude each other
and_skip : (a b c : Bool) → (a && c) ≡ false → ((a && b) && c) ≡ false
and_skip true true c e = e
and_skip true false c e = refl
and_skip false b c e = refl

module _ (o : ℕ) (xs : List ℕ) (r : States xs) where
  cons : (c : Class) → class_of o ≡ c → is_ref (code_of o) ≡ ref_b c → soft_op o ≡ soft_b c → hard_op o ≡ hard_b c → unknown_b c ≡ false → States (o ∷ xs)
  unfolding stage_after placed_from any_ref all_hard is_empty
  cons Reference k er es eh u = record {
    start = simp (k, er, es, eh, r.good, and-true);
    after_hard = simp (k, er, es, eh, r.good, and-true);
    inner = simp (k, er, es, eh, r.good, and-true);
    good = simp (k, er, es, eh, r.good, and-true);
    end_soft = simp (k, er, es, eh, r.wrong);
    end_hard = simp (k, r.wrong);
    wrong = r.wrong;
    no_ref = simp (eh);
    empty_ref = refl;
    empty_placed = refl;
    empty_hard = simp (eh);
  }
  cons Other k er es eh u = record {
    start = simp (k, er, es, eh, r.inner);
    after_hard = simp (k, er, es, eh, r.inner);
    inner = simp (k, er, es, eh, r.inner);
    good = simp (k, es, eh, r.good);
    end_soft = simp (k, eh, r.wrong);
    end_hard = simp (k, r.wrong);
    wrong = r.wrong;
    no_ref = simp eh;
    empty_ref = refl;
    empty_placed = refl;
    empty_hard = simp eh;
  }
  cons Soft k er es eh u = record {
    start = simp (k, er, es, eh, r.inner);
    after_hard = simp (k, er, es, eh, r.inner);
    inner = simp (k, er, es, eh, r.wrong, and_skip (all_hard xs) (placed_from false false xs) (any_ref xs) r.no_ref);
    good = simp (k, es, eh, r.end_soft);
    end_soft = simp (k, eh, r.wrong);
    end_hard = simp (k, r.wrong);
    wrong = r.wrong;
    no_ref = simp eh;
    empty_ref = refl;
    empty_placed = refl;
    empty_hard = simp eh;
  }
  cons Hard k er es eh u = record {
    start = simp (k, er, es, eh, r.after_hard);
    after_hard = simp (k, er, es, eh, r.wrong, and-true, and_skip (is_empty xs) (placed_from false true xs) (any_ref xs) r.empty_ref);
    inner = simp (k, er, es, eh, r.wrong, and-true, and_skip (is_empty xs) (placed_from false false xs) (any_ref xs) r.empty_ref);
    good = simp (k, es, eh, r.end_hard, and-true, r.empty_placed);
    end_soft = simp (k, es, eh, r.end_hard, and-true, r.empty_placed, r.empty_hard);
    end_hard = simp (k, r.wrong);
    wrong = r.wrong;
    no_ref = simp (eh, er, r.no_ref);
    empty_ref = refl;
    empty_placed = refl;
    empty_hard = simp (eh, and-false);
  }
  cons Unknown k er es eh u = never (cc)

states : (xs : List ℕ) → plain xs ≡ true → States xs
unfolding stage_after placed_from any_ref all_hard is_empty plain
states [] e = record { start = refl; after_hard = refl; inner = refl; good = refl; end_soft = refl; end_hard = refl; wrong = refl; no_ref = refl; empty_ref = refl; empty_placed = refl; empty_hard = refl }
states (o ∷ xs) e =
    let h = split_and (ltb 0 (len_of o) && ltb (code_of o) 9) (plain xs) e in
    let k = split_and (ltb 0 (len_of o)) (ltb (code_of o) 9) h.0 in
    let low : code_of o < 9 = ltb-true (code_of o) 9 k.1 in
    let c : code_of o < 16 = omega arith in
    cons o xs (states xs h.1) (code_class (code_of o)) (long_class o (ltb-true 0 (len_of o) k.0))
    (sym (class_ref (code_of o) c)) (sym (class_soft (code_of o) c)) (sym (class_hard (code_of o) c))
    (class_known (code_of o) c ∙ le-ltb 8 (code_of o) (omega arith))

-- the last stage accepts just what the rules take
-- a turn of the walk at op o, which stands at i
module _ (xs : List ℕ) (i o : ℕ) (p : Stage) (left : drop i xs ≡ o ∷ drop (i + 1) xs) where
  pub valid_short : o < 16 → false ≡ accept_of (stage_after p (drop i xs))
  valid_short h = sym (ap (λ (l : List ℕ). accept_of (stage_after p l)) left ∙ unknown_run p o (drop (i + 1) xs) (short_class o (omega arith)))

  pub valid_turn : 16 ≤ o → (q : Stage) → q ≡ step_of p (code_class (code_of o)) → accept_of (stage_after q (drop (i + 1) xs)) ≡ accept_of (stage_after p (drop i xs))
  valid_turn h q e =
      let ys = drop (i + 1) xs in
      ap (λ (s : Stage). accept_of (stage_after s ys)) e ∙ sym (long_run p o ys h) ∙ ap (λ (l : List ℕ). accept_of (stage_after p l)) (sym left)

pub valid_run : (xs : List ℕ) → accept_of (stage_after Start xs) ≡ valid_mapped xs
unfolding stage_after is_empty plain placed_from any_ref
valid_run [] = sym (valid-is [])
valid_run (o ∷ xs) = go (plain (o ∷ xs)) refl ∙ sym (valid-is (o ∷ xs))
  where
    go : (t : Bool) → plain (o ∷ xs) ≡ t → accept_of (stage_after Start (o ∷ xs)) ≡ (not (is_empty (o ∷ xs)) && (plain (o ∷ xs) && (placed_from true true (o ∷ xs) && any_ref (o ∷ xs))))
    go true e = (states (o ∷ xs) e).start ∙ rw e refl
    go false e = odd_run (o ∷ xs) Start e ∙ rw e refl
