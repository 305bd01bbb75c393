-- What an op reads: all of its length or nothing, and a D and a clip nothing.
use mathlib.Core.Path.{◌≡◌, refl, ap, ◌∙◌}
use mathlib.Core.Bool.{Bool, true, false, cond}
use Prim.Native.Nat.{ℕ, ◌≤◌, ◌<◌}
use native.Mathlib.Omega.{arith}
use Rattle.sam.specs.Op.{len_of, code_of, op_of}
use Rattle.ops.specs.Ops.{is_read, read_len}

pub read_le : (o : ℕ) → read_len o ≤ len_of o
unfolding read_len
read_le o = go (is_read (code_of o))
  where
    go : (b : Bool) → cond b (len_of o) 0 ≤ len_of o
    go true = omega arith
    go false = omega arith

read_not : (o : ℕ) → is_read (code_of o) ≡ false → read_len o ≡ 0
unfolding read_len
read_not o e = simp e

pub read_D : (o : ℕ) → code_of o ≡ 2 → read_len o ≡ 0
unfolding is_read
read_D o e = read_not o (ap is_read e)

pub read_S : (o : ℕ) → code_of o ≡ 4 → read_len o ≡ 0
unfolding is_read
read_S o e = read_not o (ap is_read e)

pub read_H : (o : ℕ) → code_of o ≡ 5 → read_len o ≡ 0
unfolding is_read
read_H o e = read_not o (ap is_read e)

-- an op with read bases reads its whole length
pub read_all : (n o : ℕ) → n < read_len o → is_read (code_of o) ≡ true
unfolding read_len
read_all n o = go (is_read (code_of o))
  where
    go : (b : Bool) → n < cond b (len_of o) 0 → b ≡ true
    go true h = refl
    go false h = absurd (omega arith)

pub read_is : (o : ℕ) → is_read (code_of o) ≡ true → read_len o ≡ len_of o
unfolding read_len
read_is o e = simp e

-- ---- an op that is cut

pub op_len : (n o : ℕ) → len_of (op_of n (code_of o)) ≡ n
op_len n o = omega arith

pub op_code : (n o : ℕ) → code_of (op_of n (code_of o)) ≡ code_of o
op_code n o = omega arith

-- what is left of it reads what its length says
pub cut_read : (k o : ℕ) → is_read (code_of o) ≡ true → read_len (op_of k (code_of o)) ≡ k
cut_read k o e = read_is (op_of k (code_of o)) (ap is_read (op_code k o) ∙ e) ∙ op_len k o
