-- Heads of the specification, byte by byte.
use mathlib.Core.Path.{◌≡◌, refl}
use mathlib.Core.List.{List, [], ◌∷◌}
use Rattle.bam_header.specs.Header.{Head, Head.Records, Head.CutShort, Head.NotBam, is_bam, past_bytes, past_number, references, counted, texted, head_of}

-- a head of one reference, cut short, and another stream
pub examples : ◌≡◌ {A = List Head}
    (head_of (66 ∷ 65 ∷ 77 ∷ 1 ∷ 2 ∷ 0 ∷ 0 ∷ 0 ∷ 64 ∷ 10 ∷ 1 ∷ 0 ∷ 0 ∷ 0 ∷ 2 ∷ 0 ∷ 0 ∷ 0 ∷ 99 ∷ 0 ∷ 9 ∷ 0 ∷ 0 ∷ 0 ∷ 5 ∷ 6 ∷ [])
    ∷ head_of (66 ∷ 65 ∷ 77 ∷ 1 ∷ 2 ∷ 0 ∷ 0 ∷ 0 ∷ 64 ∷ 10 ∷ 1 ∷ 0 ∷ 0 ∷ 0 ∷ 2 ∷ 0 ∷ 0 ∷ 0 ∷ 99 ∷ 0 ∷ 9 ∷ 0 ∷ 0 ∷ [])
    ∷ head_of (66 ∷ 65 ∷ 77 ∷ 2 ∷ 0 ∷ 0 ∷ 0 ∷ 0 ∷ [])
    ∷ [])
    (Records (5 ∷ 6 ∷ []) ∷ CutShort ∷ NotBam ∷ [])
unfolding head_of is_bam texted counted references past_number past_bytes
examples = refl
