-- SAM specification 1.4.6: an alignment as columns, each with a query base, a reference base, or both.
use Rattle.std.specs.Prelude.{ℕ, ◌+◌, ◌≤◌, ◌≡◌, Bool, true, false, List, [], ◌∷◌, ◌++◌, replicate}
use Rattle.sam.specs.Op.{len_of, code_of, is_ref, is_query}

-- a query base over a reference base, a query base alone, a reference base alone
pub data Column : Type 0 where
  Both : Column
  Query : Column
  Reference : Column

-- n columns of an op that consumes the query or not, and the reference or not
abbrev pub spell : Bool → Bool → ℕ → List Column
spell true true n = replicate n Both
spell true false n = replicate n Query
spell false true n = replicate n Reference
spell false false n = []

-- the columns that an op list spells: M = X both, I S the query, D N the reference, H P none
unfoldable pub columns : List ℕ → List Column
columns [] = []
columns (o ∷ xs) = spell (is_query (code_of o)) (is_ref (code_of o)) (len_of o) ++ columns xs

-- the query and the reference bases of columns
abbrev pub query_of : Column → ℕ
query_of Both = 1
query_of Query = 1
query_of Reference = 0

abbrev pub ref_of : Column → ℕ
ref_of Both = 1
ref_of Query = 0
ref_of Reference = 1

unfoldable pub queries : List Column → ℕ
queries [] = 0
queries (c ∷ cs) = query_of c + queries cs

unfoldable pub refs : List Column → ℕ
refs [] = 0
refs (c ∷ cs) = ref_of c + refs cs

-- what stands over a reference base: a query base, or none; or the alignment has no such reference base
pub data Over : Type 0 where
  Base : Over
  Gap : Over
  Off : Over

-- that, and how many query bases stand before it
pub record Spot : Type 0 where
  pub before : ℕ
  pub over : Over

-- THE MEANING of lookup: what is seen at reference base k, counted from 0
pub data Seen (cs : List Column) (k : ℕ) (s : Spot) : Type 0 where
  base : (left right : List Column) → cs ≡ left ++ (Both ∷ right) → refs left ≡ k → s ≡ record { before = queries left; over = Base } → Seen cs k s
  gap : (left right : List Column) → cs ≡ left ++ (Reference ∷ right) → refs left ≡ k → s ≡ record { before = queries left; over = Gap } → Seen cs k s
  off : refs cs ≤ k → s ≡ record { before = queries cs; over = Off } → Seen cs k s

-- m query bases more stand before
abbrev pub past : ℕ → Spot → Spot
past m s = record { before = m + s.before; over = s.over }
