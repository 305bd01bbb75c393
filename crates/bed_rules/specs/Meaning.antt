-- Document 02, item 5, what is promised of blocks: "the first is 0, and the last block ends at chromEnd. Sum of sizes plus the N lengths equals the reference length";
-- they ascend and don't overlap, and hold each reference base of the alignment but those that an N skips.
use Rattle.std.specs.Prelude.{ℕ, ◌+◌, ◌≤◌, ◌<◌, ◌≡◌, true, false, cond, List, [], ◌∷◌, ◌++◌, reverse, ◌⊎◌}
use Rattle.lists.specs.Lists.{Each}
use Rattle.sam.specs.Columns.{columns, refs}
use Rattle.sam.specs.Op.{len_of}
use Rattle.bed_rules.specs.Blocks.{is_skip, Block}

-- the length of an N
unfoldable pub skip_len : ℕ → ℕ
skip_len o = cond (is_skip o) (len_of o) 0

-- each block has a base, and starts at or behind the end of the one before it
abbrev pub Apart : ℕ → List Block → Type 0
Apart from [] = Unit {0}
Apart from (b ∷ bs) = (from ≤ b.start) × (0 < b.size) × Apart (b.start + b.size) bs

-- where the last block ends; `from` where there is none
unfoldable pub last_end : ℕ → List Block → ℕ
last_end from [] = from
last_end from (b ∷ bs) = last_end (b.start + b.size) bs

-- a block holds reference base k, counted from the alignment's start
abbrev pub Within : List Block → ℕ → Type 0
Within [] k = ⊥
Within (b ∷ bs) k = ((b.start ≤ k) × (k < b.start + b.size)) ⊎ Within bs k

-- the column of reference base k is one of those that op o spells
pub record Spelled (xs : List ℕ) (k o : ℕ) : Type 0 where
  pub left : List ℕ
  pub right : List ℕ
  pub whole : xs ≡ left ++ (o ∷ right)
  pub from : refs (columns left) ≤ k
  pub to : k < refs (columns (left ++ (o ∷ [])))

-- nothing, or an N first
abbrev pub Separated : List ℕ → Type 0
Separated [] = Unit {0}
Separated (o ∷ xs) = is_skip o ≡ true

-- THE MEANING of a block: a stretch of ops between N's, or an N and an end of the list, whose reference length is not 0; start and size count the reference bases in the columns
pub record IsBlock (xs : List ℕ) (b : Block) : Type 0 where
  pub before : List ℕ
  pub ops : List ℕ
  pub behind : List ℕ
  pub whole : xs ≡ before ++ (ops ++ behind)
  pub own : Each (λ o. is_skip o ≡ false) ops
  pub from : Separated (reverse before)
  pub to : Separated behind
  pub start_is : b.start ≡ refs (columns before)
  pub size_is : b.size ≡ refs (columns ops)
  pub some : 0 < b.size
