-- Every head that can be written is read back, and the records begin behind it.
use Prim.Native.Nat.{ℕ, suc, ◌<◌}
use mathlib.Core.Path.{◌≡◌, refl, sym, ap, ◌∙◌}
use mathlib.Core.Bool.{Bool, cond}
use mathlib.Core.List.{List, [], ◌∷◌, ◌++◌, append_assoc}
use native.Mathlib.Omega.{arith}
use lib.ListN.{length, length-append}
use lib.Seq.{drop_at}
use Rattle.sam.specs.Record.{le32, uint32}
use Rattle.bam_header.specs.Header.{Head, Head.Records, Head.NotBam, past_bytes, past_number, references, counted, texted, head_of}
use Rattle.bam_header.specs.Written.{Reference, reference, all_of, head_bytes, SmallNames}
use Rattle.bam_header.proofs.HeadLaws.{starts_bam, past_long, number_in}

number_of : (n : ℕ) (f : ℕ → List ℕ → Head) (s : List ℕ) → n < 4294967296 → past_number f (uint32 n ++ s) ≡ f n s
number_of n f s h = number_in f (uint32 n) s (omega arith) ∙ ap (λ (k : ℕ). f k s) {x = le32 (uint32 n) 0} {y = n} (omega arith)

past_of : (f : List ℕ → Head) (t s : List ℕ) → past_bytes (length t) f (t ++ s) ≡ f s
past_of f t s = let l = length-append t s in past_long (length t) f (t ++ s) (omega arith) ∙ ap f (drop_at t s (length t) refl)

references_of : (refs : List Reference) (s : List ℕ) → SmallNames refs → references (length refs) (all_of refs ++ s) ≡ Records s
unfolding references all_of reference
references_of [] s h = refl
references_of (r ∷ rs) s h =
    let n = length r.name in
    let rest = all_of rs ++ s in
    ap (references (suc (length rs))) (simp append_assoc)
    ∙ number_of n (λ size. past_bytes size (past_bytes 4 (references (length rs)))) (r.name ++ (uint32 r.size ++ rest)) h.0
    ∙ past_of (past_bytes 4 (references (length rs))) r.name (uint32 r.size ++ rest)
    ∙ past_of (references (length rs)) (uint32 r.size) rest
    ∙ references_of rs s h.1

magic_of : (s : List ℕ) → head_of (66 ∷ 65 ∷ 77 ∷ 1 ∷ s) ≡ texted s
unfolding head_of
magic_of s = ap (λ (b : Bool). cond b (texted s) NotBam) (sym (starts_bam (66 ∷ 65 ∷ 77 ∷ 1 ∷ s)))

pub read_back : (text : List ℕ) (refs : List Reference) (s : List ℕ) → length text < 4294967296 → length refs < 4294967296 → SmallNames refs → head_of (head_bytes text refs ++ s) ≡ Records s
unfolding texted counted head_bytes
read_back text refs s h k m =
    magic_of ((uint32 (length text) ++ (text ++ (uint32 (length refs) ++ all_of refs))) ++ s)
    ∙ ap texted {x = (uint32 (length text) ++ (text ++ (uint32 (length refs) ++ all_of refs))) ++ s} {y = uint32 (length text) ++ (text ++ (uint32 (length refs) ++ (all_of refs ++ s)))} (simp append_assoc)
    ∙ number_of (length text) (λ size. past_bytes size counted) (text ++ (uint32 (length refs) ++ (all_of refs ++ s))) h
    ∙ past_of counted text (uint32 (length refs) ++ (all_of refs ++ s))
    ∙ number_of (length refs) references (all_of refs ++ s) k
    ∙ references_of refs s m
