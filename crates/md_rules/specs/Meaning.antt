-- Document 02, item 13, what is promised of the answer: "the same reference and query lengths and the same other ops, and the runs from one M alternate, none is empty, and a 0M goes".
use Rattle.std.specs.Prelude.{ℕ, ◌≡◌, Bool, true, false, cond, not, ◌&&◌, ◌||◌, List, [], ◌∷◌, ◌++◌, ltb, eqb}
use Rattle.lists.specs.Lists.{sum_of}
use Rattle.sam.specs.Op.{len_of, code_of, op_of}
use Rattle.sam.specs.Md.{SpellsMd, md_columns}
use Rattle.md_rules.specs.Rule.{is_match, is_told}

-- whether a list begins with an op of this code
unfoldable pub first_is : ℕ → List ℕ → Bool
first_is c [] = false
first_is c (o ∷ os) = eqb (code_of o) c

-- "alternate, none is empty": all are = and X, none has length 0, and neighbours differ
unfoldable pub alternates : List ℕ → Bool
alternates [] = true
alternates (o ∷ os) = is_told o && (ltb 0 (len_of o) && (not (first_is (code_of o) os) && alternates os))

-- each M of a list replaced by alternating runs as long as it is, and every other op as it was
pub data Replaces : List ℕ → List ℕ → Type 0 where
  none : Replaces [] []
  match : {o : ℕ} {xs ys : List ℕ} (rs : List ℕ) → is_match o ≡ true → alternates rs ≡ true → sum_of len_of rs ≡ len_of o → Replaces xs ys → Replaces (o ∷ xs) (rs ++ ys)
  other : {o : ℕ} {xs ys : List ℕ} → is_match o ≡ false → Replaces xs ys → Replaces (o ∷ xs) (o ∷ ys)

-- THE RULE: M's replaced so that the columns of =, X and D are the text's columns
pub record Tells (xs s ys : List ℕ) : Type 0 where
  pub replaced : Replaces xs ys
  pub columns : SpellsMd s (md_columns ys)

-- the ops but M, = and X, in order
unfoldable pub others : List ℕ → List ℕ
others [] = []
others (o ∷ xs) = cond (is_match o || is_told o) (others xs) (o ∷ others xs)

-- reading back what came from one op: runs of = and X joined to an M, none to 0M, any other op itself
unfoldable pub read_back : List ℕ → ℕ
read_back [] = 0
read_back (o ∷ os) = cond (is_told o) (op_of (sum_of len_of (o ∷ os)) 0) o

-- lists one behind the other
unfoldable pub together : List (List ℕ) → List ℕ
together [] = []
together (p ∷ ps) = p ++ together ps
