-- Document 01: "lent op lists hold at most 65,535 ops"; an op list lies in a lent list or in a record, and is empty where it overruns the record.
use Rattle.std.specs.Prelude.{ℕ, ◌+◌, ◌*◌, ◌/◌, cond, List, [], length, leb}
use Rattle.sam.specs.Record.{ops_in, ops_start, ops_end, op_count_of}

-- the ops in bytes that hold nothing else
unfoldable pub ops_in_bytes : List ℕ → List ℕ
ops_in_bytes b = ops_in b 0 (length b / 4)

-- the n ops from place `at` of a record on; none where they end past it
unfoldable pub area_ops : List ℕ → ℕ → ℕ → List ℕ
area_ops b at n = cond (leb (at + 4 * n) (length b)) (ops_in b at n) []

-- the most ops of a list, given or parsed: refusal 3
abbrev pub most_ops : ℕ
most_ops = 65535

-- document 02, item 1: "Limits rise to 1,048,576 ops through this new mode"
abbrev pub most_long_ops : ℕ
most_long_ops = 1048576

-- a record's ops; none where their area ends past the record
unfoldable pub record_ops : List ℕ → List ℕ
record_ops b = cond (leb (ops_end b) (length b)) (ops_in b (ops_start b) (op_count_of b)) []
