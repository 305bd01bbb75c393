-- What document 02, item 13, promises of matches told apart from MD. Each line is a theorem of `md_rules`, over the definitions that the contract uses.
use Prim.Native.Nat.{ℕ}
use Rattle.std.specs.Prelude.{Ok}
use Rattle.answers.specs.Answer.{Answer}
use mathlib.Core.Path.{◌≡◌, sym, ap, ◌∙◌, subst}
use mathlib.Core.Bool.{true, false}
use mathlib.Core.List.{List, map}
use Rattle.lists.specs.Lists.{sum_of}
use Rattle.lists.specs.Runs.{holds}
use Rattle.sam.specs.Op.{ref_len, query_len}
use Rattle.sam.specs.Columns.{columns, refs, queries}
use Rattle.sam.proofs.LengthLaws.{query-length, reference_length}
use Rattle.sam.specs.Md.{MdColumn, SpellsMd}
use Rattle.md_rules.specs.Md.{well_formed, columns_of}
use Rattle.md_rules.specs.Rule.{is_told, agrees, told, match_ops}
use Rattle.md_rules.specs.Meaning.{Replaces, Tells, others, read_back, together}
use Rattle.md_rules.proofs.GrammarLaws as Grammar
use Rattle.md_rules.proofs.RuleLaws as Rule
use Rattle.md_rules.proofs.AnswerLaws as Answer

-- "the MD text of the SAM tags document": 20 is not given exactly to the grammar's texts, and a text's columns are those that the grammar has
pub in_grammar : (s : List ℕ) → well_formed s ≡ true → SpellsMd s (columns_of s)
in_grammar s f = Grammar.spells s f

pub grammar_only : {s : List ℕ} {cs : List MdColumn} → SpellsMd s cs → (well_formed s ≡ true) × (columns_of s ≡ cs)
grammar_only t = Grammar.spelled t

-- "replace M by runs of = and X": an answer has its M's replaced by alternating runs, none empty, and the columns of its =, X and D are the text's: none is used twice, none is left over
pub answer_tells : (xs s d : List ℕ) (n : ℕ) → (match_ops xs s d).answer ≡ Ok n → Tells xs s (told xs (columns_of s))
answer_tells xs s d n e =
    let a = Answer.answered xs s d n e in
    let r = Rule.answered xs (columns_of s) a.1 a.2 in
    record { replaced = r.0; columns = subst (SpellsMd s) (sym r.1) (Grammar.spells s a.0) }

-- and it is the only such list: where there is one, neither 20 nor 22 is due, and it is the one that is answered
pub only_answer : {xs s ys : List ℕ} → holds is_told xs ≡ false → Tells xs s ys → (well_formed s ≡ true) × (agrees xs (columns_of s) ≡ true) × (told xs (columns_of s) ≡ ys)
only_answer {xs} h t =
    let g = Grammar.spelled t.columns in
    let u = Rule.unique t.replaced h in
    (g.0, ap (agrees xs) g.1 ∙ u.0, ap (told xs) g.1 ∙ u.1)

-- "the same reference and query lengths": the very same alignment, column for column
pub same_alignment : {xs ys : List ℕ} → Replaces xs ys → columns ys ≡ columns xs
same_alignment r = Rule.same_alignment r

pub same_reference : {xs ys : List ℕ} → Replaces xs ys → sum_of ref_len ys ≡ sum_of ref_len xs
same_reference {xs} {ys} r = reference_length ys ∙ ap refs (Rule.same_alignment r) ∙ sym (reference_length xs)

pub same_query : {xs ys : List ℕ} → Replaces xs ys → sum_of query_len ys ≡ sum_of query_len xs
same_query {xs} {ys} r = query-length ys ∙ ap queries (Rule.same_alignment r) ∙ sym (query-length xs)

-- "the same other ops", in order
pub same_others : {xs ys : List ℕ} → Replaces xs ys → others ys ≡ others xs
same_others r = Rule.same_others r

-- reading back, M for = and X, joined as they came, gives the list
pub reads_back : {xs ys : List ℕ} → holds is_told xs ≡ false → Replaces xs ys → (ps : List (List ℕ)) × (together ps ≡ ys) × (map read_back ps ≡ xs)
reads_back h r = Rule.reads_back r h
