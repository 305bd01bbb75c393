-- A whole stream, of an input and an output that say their bytes: what is written stands behind what the output held, and it is what is printed of the stream.
use Rattle.std.proofs.Common.{ℕ, ◌≡◌, true, false, List, [], ◌++◌, take, Option, None, Some, sym, subst}
use Rattle.std.specs.Io.KnownBytes.{Consumes, Appends, IsAtEnd}
use Rattle.std.proofs.KnownBytes.{Consumes-trans}
use Rattle.blocks.specs.Fill.{is_over, is_failed, First}
use Rattle.blocks.specs.Tied.{Tied}
use Rattle.blocks.specs.declared.Read.{Read}
use Rattle.blocks.proofs.BlockLaws.{gathered}
use Rattle.stream_rules.specs.Stream.{is_marked, bad_input, Prints}
use Rattle.report_rules.specs.Run.{Came, Printed}
use Rattle.report_rules.specs.declared.State.{State}
use Rattle.report_rules.proofs.RunLaws.{prints, refuses}

-- the input gave what was read, and what is left of it follows
split : (before left held holds : Option (List ℕ)) (read written : List ℕ) → Consumes before left read → ((ys : List ℕ) → (IsAtEnd left → ys ≡ []) → Prints (read ++ ys) written) → Appends held holds written
    → Printed before held holds
split None left held holds read written b p w = tt
split (Some stream) None held holds read written b p w = absurd b
split (Some stream) (Some ys) held holds read written b p w = (written, subst (λ (l : List ℕ). Prints l written) (sym b) (p ys (λ z. z)), w)

-- a stream that begins with its mark
pub whole_came : {first block out : List ℕ} {s : State} (before : Option (List ℕ)) {had left held holds : Option (List ℕ)} → Consumes before had first → (c : Came s block out) → s.going ≡ false → is_failed s.source ≡ false
    → (is_over s.source ≡ true → IsAtEnd left) → Tied first had left held holds c.read c.written → Printed before held holds
whole_came {first = first} before {had} {left} {held} {holds} b c e ok z t =
    split before left held holds c.read c.written (subst (Consumes before left) (sym t.behind) (Consumes-trans before had left first t.more b t.took))
    (λ ys none. prints ys c.ran e ok (λ h. none (z h)))
    t.wrote

-- another stream
pub whole_refused : {block : List ℕ} {r : Read} (before had held holds : Option (List ℕ)) (f : First 5 r block) → is_marked (take r.have block) ≡ false → Consumes before had (take r.have block)
    → (is_over r.source ≡ true → IsAtEnd had) → Appends held holds bad_input → Printed before held holds
whole_refused before had held holds f m b z w =
    split before had held holds f.read bad_input (subst (Consumes before had) (gathered f.gathers) b) (λ ys none. refuses ys f m (λ h. none (z h))) w
