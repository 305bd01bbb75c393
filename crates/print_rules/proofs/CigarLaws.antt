-- What is printed of one op or more is in the specification's grammar, and means the list.
use Prim.Native.Nat.{ℕ, ◌<◌}
use mathlib.Core.Path.{◌≡◌}
use mathlib.Core.Bool.{false}
use mathlib.Core.List.{List}
use lib.ListN.{length}
use Rattle.sam.specs.Text.{Cigar}
use Rattle.print_rules.specs.Text.{text_of, any_bad}
use Rattle.print_rules.proofs.GrammarLaws.{print_spells}

pub print_cigar : (xs : List ℕ) → any_bad xs ≡ false → 0 < length xs → Cigar (text_of xs) xs
print_cigar xs e h = record { spells = print_spells xs e; some = h }
