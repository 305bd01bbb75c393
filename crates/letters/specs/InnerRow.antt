-- How the table is read: sixteen entries are one number, four bits each, the first one lowest.
use Rattle.std.specs.Prelude.{ℕ, List, get_or}

-- the entries of a table from byte 16 n on
unfoldable pub row_of : List ℕ → ℕ → ℕ
row_of codes n = get_or codes n 0
