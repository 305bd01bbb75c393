-- The refusal table of matches told apart from MD: each test of the definition is a row, in the same order.
use Prim.Native.Nat.{ℕ}
use Rattle.std.specs.Prelude.{Err, Ok}
use mathlib.Core.Path.{refl}
use mathlib.Core.Bool.{not}
use mathlib.Core.List.{List}
use lib.Dec.{ltb}
use lib.ListN.{length}
use Rattle.lists.specs.Runs.{holds}
use Rattle.oplist.specs.Ops.{most_ops}
use Rattle.answers.specs.Answers.{tell_count}
use Rattle.answers.specs.declared.Refusal.TheVariants.{TooManyOps, BadMd, MatchesTold, MdDisagrees, NoRoom}
use Rattle.md_rules.specs.Md.{well_formed, columns_of}
use Rattle.md_rules.specs.Rule.{is_told, agrees, told, match_ops}
use Rattle.promises.specs.Table.{GivesFilled}
use Rattle.promises.specs.MdRows.{md_rows}
use Rattle.promises.proofs.RowLaws.{kept_row, last_row}

pub match_ops_from_md : (xs s d : List ℕ) → GivesFilled tell_count (match_ops xs s d) d (md_rows xs s d) (Ok (length (told xs (columns_of s)))) (told xs (columns_of s))
unfolding match_ops
match_ops_from_md xs s d =
    kept_row tell_count (ltb most_ops (length xs)) (Err TooManyOps) 3 refl refl
    (kept_row tell_count (not (well_formed s)) (Err BadMd) 20 refl refl
    (kept_row tell_count (holds is_told xs) (Err MatchesTold) 21 refl refl
    (kept_row tell_count (not (agrees xs (columns_of s))) (Err MdDisagrees) 22 refl refl
    (last_row tell_count (told xs (columns_of s)) (Err NoRoom) _ refl refl))))
