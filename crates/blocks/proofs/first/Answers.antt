use Rattle.std.proofs.Common.{◌≡◌, [], true, false, refl, true≢false, take, sym, subst, ◌∙◌, arith}
use Rattle.std.specs.Io.KnownBytes.{Consumes}
use Rattle.std.proofs.KnownBytes.{Consumes-nil, Consumes-trans}
use Rattle.blocks.specs.Fill.{First, Gathers.starts, Gathers.reads}
use Rattle.blocks.proofs.BlockLaws.{fill_behind}
use Rattle.blocks.proofs.first.Given as given
use Rattle.blocks.proofs.first.Goals as goal
use Rattle.blocks.proofs.first.Goals.{After-fill-r}

pub loop-r-init : goal.loop-r-init
loop-r-init g c = record { some = refl; first = record { read = []; gathers = starts; within = omega arith; enough = λ e. omega arith }; bytes = Consumes-nil _ }

-- what is gathered behind a read
gone : (g : given.Over) (c : After-fill-r g) → First 0 c.fill-r.result c.fill-r.new.block
gone g c = let f = c.fill-r.ensures.filled in record { read = _; gathers = reads c.loop-r.invariant.first.gathers f; within = omega (arith, c.fill-r.ensures.have_le_have, f.same); enough = λ e. omega arith }

bytes : (g : given.Over) (c : After-fill-r g) → Consumes (g.R.Read.remaining c.args.input.now) (g.R.Read.remaining c.fill-r.new.input) (take c.fill-r.result.have c.fill-r.new.block)
bytes g c = subst (Consumes _ _) (sym (fill_behind c.fill-r.ensures.filled)) (Consumes-trans _ _ _ _ _ c.loop-r.invariant.bytes c.fill-r.ensures.bytes)

pub returns-then-is_over-clause-first : goal.returns-then-is_over-clause-first
returns-then-is_over-clause-first g c =
    let f = gone g (goal.at.returns-then-is_over-clause-first g c).After-fill-r in
    record { read = f.read; gathers = f.gathers; within = f.within; enough = λ e. let z : true ≡ false = sym c.if-is_over.true ∙ c.is_over.ensures ∙ e in absurd (true≢false z) }

pub returns-then-is_over-clause-bytes : goal.returns-then-is_over-clause-bytes
returns-then-is_over-clause-bytes g c = bytes g (goal.at.returns-then-is_over-clause-bytes g c).After-fill-r

pub loop-r-preserved : goal.loop-r-preserved
loop-r-preserved g c = let f = (goal.at.loop-r-preserved g c).After-fill-r in record { some = sym c.is_over.ensures ∙ c.if-is_over.false; first = gone g f; bytes = bytes g f }
