-- Document 01, module 6, "The digit run belongs to the scan": what the scan holds after one byte more, and after a text. What that comes to is said in Pieces.antt
-- without it, and proofs/Scans.antt has the law that the two agree.
use Rattle.std.specs.Prelude.{ℕ, cond, List, [], ◌∷◌, ℤ, pos}
use Rattle.sam.specs.Text.{is_digit}
use Rattle.mate_rules.specs.Run.{push_of, counts_as}

-- the run: a byte that is no digit empties it
unfoldable pub run_after : ℕ → ℕ → ℕ
run_after x b = cond (is_digit b) (push_of x b) 0

-- what a scan found: f takes in the piece that the byte ends
unfoldable pub found_after : {S : Type 0} → (S → ℤ → ℕ → S) → ℕ → S → ℕ → S
found_after f x s b = cond (is_digit b) s (f s (pos (counts_as x)) b)

-- what it finds in a text, from a run and what was found before
unfoldable pub scan : {S : Type 0} → (S → ℤ → ℕ → S) → ℕ → S → List ℕ → S
scan f x s [] = s
scan f x s (b ∷ t) = scan f (run_after x b) (found_after f x s b) t
