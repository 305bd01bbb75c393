-- Each op takes the reader on.
use Prim.Native.Nat.{◌+◌, ◌*◌, ◌≤◌}
use mathlib.Core.Path.{◌≡◌}
use lib.ListN.{length}
use Rattle.read_text.specs.InnerRead.{Onward}
use Rattle.read_text.proofs.stretch.Given as goal

abbrev pub invariant-loop : goal.invariant-loop
invariant-loop l =
    (l.n * 2 ≤ l.i) × (l.i ≤ length l.text) × (length l.out ≡ length l.initial.out) × (l.initial.i + l.counter ≤ l.i) × Onward l.text l.initial.p l.initial.n l.initial.i l.initial.out l.p l.n l.i l.out
