-- The mask is the table; past the table nothing is read.
use Rattle.std.proofs.Common.{sym, ◌∙◌, arith}
use borrow.Author.Tests.{lt-leb}
use Rattle.ops.proofs.CodeLaws.{read_bit, read_none}
use Rattle.ops.proofs.consumes_read.Goals as goal

pub returns-then-code-le8 : goal.returns-then-code-le8
returns-then-code-le8 c = c.has_bit.ensures ∙ read_bit c.args.code (omega arith)

pub returns-else-code-le8 : goal.returns-else-code-le8
returns-else-code-le8 c = lt-leb c.args.code 8 (omega arith) ∙ sym (read_none c.args.code (omega arith))
