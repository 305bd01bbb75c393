-- What `bam_to_cgr` writes of a BAM stream is `converted`, by its own theorem, and what `report` prints of what it read is `Prints`, by its own: so the two together print what `Reported` says.
use Prim.Native.Nat.{ℕ}
use mathlib.Core.Path.{◌≡◌, refl, sym, subst}
use mathlib.Core.Bool.{Bool, true, false, cond}
use mathlib.Core.List.{List, [], ◌++◌}
use native.Mathlib.Omega.{arith}
use lib.ListN.{length, drop}
use borrow.Author.Tests.{le-ltb}
use Rattle.bam_header.specs.Header.{Head, Head.Records, Head.CutShort, Head.NotBam, head_of}
use Rattle.bam_header.specs.Converted.{cgr_mark, converted}
use Rattle.stream_rules.specs.Stream.{is_marked, Reports, bad_input, Prints}
use Rattle.bam_report.specs.Reported.{Reported}

mark_first : (s : List ℕ) → is_marked (cgr_mark ++ s) ≡ true
unfolding is_marked
mark_first s = simp (le-ltb (length (cgr_mark ++ s)) 5 (omega arith))

none_marked : is_marked [] ≡ false
unfolding is_marked
none_marked = refl

reported : (h : Head) (t : List ℕ) → Prints (converted h) t → Reported h t
reported (Records s) t p = subst (λ (b : Bool). cond b (Reports false 0 s t) (t ≡ bad_input)) (mark_first s) p
reported CutShort t p = subst (λ (b : Bool). cond b (Reports false 0 (drop 5 []) t) (t ≡ bad_input)) none_marked p
reported NotBam t p = subst (λ (b : Bool). cond b (Reports false 0 (drop 5 []) t) (t ≡ bad_input)) none_marked p

pub together : (stream written t : List ℕ) → converted (head_of stream) ≡ written → Prints written t → Reported (head_of stream) t
together stream written t w p = reported (head_of stream) t (subst (λ (l : List ℕ). Prints l t) (sym w) p)
