-- How many ops there are: what the laws of `OpList` rest on.
use Rattle.std.specs.Prelude.{◌≡◌, refl, ℕ, zero, suc, ◌+◌, ◌*◌, ◌/◌, ◌≤◌, Bool, List, length}
use Rattle.std.proofs.Common.{ap, arith}
use Rattle.lists.specs.Lists.{facing}
use Rattle.lists.proofs.ListLaws.{length_facing}
use Rattle.sam.specs.Record.{ops_in}
use Rattle.oplist.specs.Ops.{ops_in_bytes}

pub length_ops_in : (b : List ℕ) (at n : ℕ) → length (ops_in b at n) ≡ n
unfolding ops_in
length_ops_in b at zero = refl
length_ops_in b at (suc n) = ap suc (length_ops_in b (at + 4) n)

pub count_is : (b : List ℕ) → length (ops_in_bytes b) ≡ length b / 4
unfolding ops_in_bytes
count_is b = length_ops_in b 0 (length b / 4)

-- never more than 4,294,967,295
pub few_in_bytes : (b : List ℕ) → length b ≤ 4 * 4294967295 → length (ops_in_bytes b) ≤ 4294967295
few_in_bytes b h = let k = count_is b in omega arith

pub few_facing : (start : Bool) (xs : List ℕ) → length xs ≤ 4294967295 → length (facing start xs) ≤ 4294967295
few_facing start xs h = let k = length_facing start xs in omega arith
