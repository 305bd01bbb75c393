-- What the tables of codes say of each other: a test that antt computes over the 16 codes, carried to each.
use mathlib.Core.Path.{◌≡◌, refl, ap, ◌∙◌}
use mathlib.Core.Bool.{Bool, true, false, not, beq}
use Prim.Native.Nat.{ℕ}
use native.Mathlib.Omega.{arith}
use lib.Dec.{eqb}
use borrow.Author.Tests.{ne_eqb, not-true}
use Rattle.lists.proofs.Absurd.{false_true}
use Rattle.lists.proofs.Tables.{below, below_at, same_true}
use Rattle.sam.specs.Op.{len_of, code_of, op_of, is_ref, is_query, ref_len, query_len}
use Rattle.ops.specs.Ops.{is_read, read_len}
use Rattle.clip_run_rules.specs.Clips.{is_hard, len_if}
use Rattle.clip_rules.specs.Clipping.{hard_of}
use Rattle.clip_rules.proofs.CodeLaws.{read_is, op_len, op_code}
use Rattle.clip_laws.specs.Demand3.{is_inner, kept_len}

-- if one test holds of a code, so does another: computed for the codes
abbrev pub imp : Bool → Bool → Bool
imp true q = q
imp false q = true

imp_true : (p q : Bool) → imp p q ≡ true → p ≡ true → q ≡ true
imp_true true q h e = h
imp_true false q h e = false_true e

pub by_codes : (p q : ℕ → Bool) → below (λ d. imp (p d) (q d)) 16 ≡ true → (o : ℕ) → p (code_of o) ≡ true → q (code_of o) ≡ true
by_codes p q h o = imp_true (p (code_of o)) (q (code_of o)) (below_at (λ d. imp (p d) (q d)) 16 (code_of o) h (omega arith))

-- and so does it not
pub never : (p q : ℕ → Bool) → below (λ d. imp (p d) (not (q d))) 16 ≡ true → (o : ℕ) → p (code_of o) ≡ true → q (code_of o) ≡ false
never p q h o e = not-true (q (code_of o)) (by_codes p (λ d. not (q d)) h o e)

-- ---- read bases

pub read_I : (o : ℕ) → code_of o ≡ 1 → read_len o ≡ len_of o
unfolding is_read
read_I o e = read_is o (ap is_read e)

-- ---- reference bases

pub ref_is : (o : ℕ) → is_ref (code_of o) ≡ true → ref_len o ≡ len_of o
unfolding ref_len
ref_is o e = simp e

pub ref_I : (o : ℕ) → code_of o ≡ 1 → ref_len o ≡ 0
unfolding ref_len is_ref
ref_I o e = simp e

-- what reads and is no insertion refers
pub cut_ref : (o : ℕ) → is_read (code_of o) ≡ true → (code_of o ≡ 1 → ⊥) → is_ref (code_of o) ≡ true
unfolding is_read is_ref
cut_ref o e z =
    imp_true (not (eqb (code_of o) 1)) (is_ref (code_of o)) (by_codes is_read (λ d. imp (not (eqb d 1)) (is_ref d)) refl o e)
    (simp (ne_eqb (code_of o) 1 z))

-- ---- an op that is cut

-- what is left of it refers to what its length says
pub cut_refs : (k o : ℕ) → is_read (code_of o) ≡ true → (code_of o ≡ 1 → ⊥) → ref_len (op_of k (code_of o)) ≡ k
cut_refs k o e z = ref_is (op_of k (code_of o)) (ap is_ref (op_code k o) ∙ cut_ref o e z) ∙ op_len k o

-- ---- the ops that a clip puts in place

pub hard_len : (n : ℕ) → len_of (hard_of n) ≡ n
hard_len n = omega arith

pub hard_code : (n : ℕ) → code_of (hard_of n) ≡ 5
hard_code n = omega arith

pub soft_len : (n : ℕ) → len_of (op_of n 4) ≡ n
soft_len n = omega arith

pub soft_code : (n : ℕ) → code_of (op_of n 4) ≡ 4
soft_code n = omega arith

-- ---- query plus hard bases

pub kept_H : (o : ℕ) → code_of o ≡ 5 → kept_len o ≡ len_of o
unfolding kept_len len_if query_len is_query
kept_H o e = simp e (omega arith)

pub kept_S : (o : ℕ) → code_of o ≡ 4 → kept_len o ≡ len_of o
unfolding kept_len len_if query_len is_query
kept_S o e = simp e (omega arith)

-- an inner op keeps what it reads
pub kept_read : (o : ℕ) → is_inner (code_of o) ≡ true → kept_len o ≡ read_len o
unfolding kept_len len_if query_len read_len is_inner is_query is_read
kept_read o e =
    let h = never is_inner is_hard refl o e in
    let q = same_true (is_query (code_of o)) (is_read (code_of o)) (by_codes is_inner (λ d. beq (is_query d) (is_read d)) refl o e) in
    simp (h, q) (omega arith)
