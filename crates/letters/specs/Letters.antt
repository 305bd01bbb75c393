-- Document 02, item 4: "one table of 256 numbers, an op code or a mark for no op at each byte."
use Rattle.std.specs.Prelude.{ℕ, cond, ltb}
use Rattle.sam.specs.Op.{letter_code}

-- the entry at a byte: the code of the letter, 0 to 8, by the specification's table; 15 for any other byte
unfoldable pub entry_of : ℕ → ℕ
entry_of b = cond (ltb 8 (letter_code b)) 15 (letter_code b)
