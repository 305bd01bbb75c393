-- The program ran so far, and by an input and an output that say their bytes it took what was read, and wrote what was written.
use Rattle.std.proofs.Common.{sym, ◌∙◌, arith}
use Rattle.blocks.proofs.BlockLaws.{gathered}
use Rattle.blocks.proofs.TiedLaws.{tied_start, tied_on}
use Rattle.bam_rules.specs.Run.{read_in, due_bytes}
use Rattle.bam_rules.proofs.RunLaws.{along_start, along_on, along_off, along_last}
use Rattle.bam_to_cgr.proofs.convert.Goals as goal

pub loop-init : goal.loop-init
unfolding along_start
loop-init g c =
    let f = c.requires.0 in
    (along_start f (omega (arith, f.within)) c.requires.1 c.start.ensures, tied_start _ _ (sym (gathered f.gathers)))

pub returns-then-is_over-clause-came : goal.returns-then-is_over-clause-came
returns-then-is_over-clause-came g c =
    let t = c.turn.ensures in
    along_off c.loop.counter c.loop.invariant.0 t.bam_turn c.in_ok-write_due.ensures.state t.used_le_have_2.0 t.used_le_have_2.1 (omega (arith, t.used_le_have_2)) (sym c.is_over.ensures ∙ c.if-is_over.true)

pub returns-then-is_over-clause-tied : goal.returns-then-is_over-clause-tied
unfolding along_off
returns-then-is_over-clause-tied g c =
    let t = c.turn.ensures in
    let w = c.in_ok-write_due.ensures in (
      along_off c.loop.counter c.loop.invariant.0 t.bam_turn w.state t.used_le_have_2.0 t.used_le_have_2.1 (omega (arith, t.used_le_have_2)) (sym c.is_over.ensures ∙ c.if-is_over.true),
      tied_on (read_in c.loop.s c.turn.new.s c.turn.new.block) (due_bytes c.turn.new.s c.turn.new.block) c.loop.invariant.1 t.bytes w.bytes,
    )

pub loop-preserved : goal.loop-preserved
unfolding along_on
loop-preserved g c =
    let t = c.turn.ensures in
    let w = c.in_ok-write_due.ensures in (
      along_on c.loop.counter c.loop.invariant.0 t.bam_turn w.state t.used_le_have_2.0 t.used_le_have_2.1 (omega (arith, t.used_le_have_2)) (sym c.is_over.ensures ∙ c.if-is_over.false),
      tied_on (read_in c.loop.s c.turn.new.s c.turn.new.block) (due_bytes c.turn.new.s c.turn.new.block) c.loop.invariant.1 t.bytes w.bytes,
    )

pub returns-clause-tied : goal.returns-clause-tied
unfolding along_last
returns-clause-tied g c = (along_last c.loop.counter (omega arith) c.loop.invariant.0, c.loop.invariant.1)
