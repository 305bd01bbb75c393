-- Reference and query length are the counts of columns: each op spells as many columns as it consumes bases.
use mathlib.Core.Path.{◌≡◌, refl}
use mathlib.Core.List.{List, [], ◌∷◌, ◌++◌}
use Prim.Native.Nat.{ℕ, ◌+◌}
use native.Mathlib.Omega.{arith}
use Rattle.lists.specs.Lists.{sum_of}
use Rattle.sam.specs.Op.{len_of, code_of, is_ref, is_query, query_len, ref_len}
use Rattle.sam.specs.Columns.{Column, spell, columns, queries, refs}
use Rattle.sam.proofs.ColumnLaws.{queries_spell, queries_append, refs_spell, refs_append}

-- a count of columns that adds, and counts the columns of an op as its length
counts : (count : List Column → ℕ) (len : ℕ → ℕ) → count [] ≡ 0 → ((p cs : List Column) → count (p ++ cs) ≡ count p + count cs)
    → ((o : ℕ) → count (spell (is_query (code_of o)) (is_ref (code_of o)) (len_of o)) ≡ len o) → (xs : List ℕ) → sum_of len xs ≡ count (columns xs)
unfolding sum_of columns
counts count len z add each [] = omega arith
counts count len z add each (o ∷ xs) =
    let e = counts count len z add each xs in
    let q = each o in
    let a = add (spell (is_query (code_of o)) (is_ref (code_of o)) (len_of o)) (columns xs) in
    omega arith

pub query-length : (xs : List ℕ) → sum_of query_len xs ≡ queries (columns xs)
unfolding query_len queries
query-length = counts queries query_len refl queries_append (λ o. queries_spell (is_query (code_of o)) (is_ref (code_of o)) (len_of o))

pub reference_length : (xs : List ℕ) → sum_of ref_len xs ≡ refs (columns xs)
unfolding ref_len refs
reference_length = counts refs ref_len refl refs_append (λ o. refs_spell (is_query (code_of o)) (is_ref (code_of o)) (len_of o))
