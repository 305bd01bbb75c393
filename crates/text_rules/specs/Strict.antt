-- Document 01, module 5: the strict reader refuses "a list failing `is_valid_mapped_cigar`".
use Rattle.std.specs.Prelude.{ℕ, Bool, ◌&&◌, List}
use Rattle.text_rules.specs.Text.{is_row, text_ops}
use Rattle.text_rules.specs.Valid.{valid_mapped}

-- the text is one that the strict reader takes
unfoldable pub strict : List ℕ → Bool
strict s = is_row s && valid_mapped (text_ops s)
