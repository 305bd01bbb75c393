-- What the inner functions of printing promise; no public contract cites it. Document 01's rule is `Text`.
use Rattle.std.specs.Prelude.{ℕ, cond, List, length, None, Option, Some}
use Rattle.print_rules.specs.Text.{any_bad, text_of}

unfoldable pub room_of : List ℕ → Option ℕ
room_of xs = cond (any_bad xs) None (Some (length (text_of xs)))
