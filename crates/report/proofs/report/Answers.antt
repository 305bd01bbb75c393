-- The program ran so far, and by an input and an output that say their bytes it took what was read, and wrote what was written.
use Rattle.std.proofs.Common.{ℕ, ◌≡◌, ◌≤◌, take, sym, ap, ◌∙◌, arith, length-take-le}
use Rattle.blocks.specs.declared.Source.TheVariants.{Ended}
use Rattle.blocks.proofs.BlockLaws.{gathered}
use Rattle.blocks.proofs.TiedLaws.{tied_start, tied_on}
use Rattle.stream_rules.proofs.MarkLaws.{long}
use Rattle.report_rules.specs.Run.{read_behind, due_of, relieved_of}
use Rattle.report_rules.specs.declared.State.{State}
use Rattle.report_rules.proofs.TurnLaws.{grown}
use Rattle.report_rules.proofs.RunLaws.{along_start, along_on, along_off, along_last}
use Rattle.report.proofs.report.Given as given
use Rattle.report.proofs.report.Goals as goal
use Rattle.report.proofs.report.Goals.{Start}

-- the mark takes five bytes
enough : (g : given.Over) (c : Start g) → 5 ≤ c.args.first.have
enough g c = let f = c.requires in omega (arith, long (take c.args.first.have c.args.block.now) f.1, length-take-le c.args.first.have c.args.block.now f.0.within)

-- turn and write leave what was told of the read
kept : {A : Type 0} (s s₁ r : State) → s₁.source ≡ s.source → r ≡ relieved_of s₁ → (s.source ≡ Ended → A) → r.source ≡ Ended → A
kept s s₁ r same e p h = p (sym same ∙ sym (ap (λ (q : State). q.source) e) ∙ h)

pub shift-requires : goal.shift-requires
shift-requires g c = let e = enough g (goal.at.shift-requires g c).Start in (omega (arith, e), c.requires.0.within)

pub overflow_sub-have : goal.overflow_sub-have
overflow_sub-have g c = enough g (goal.at.overflow_sub-have g c).Start

pub loop-init : goal.loop-init
unfolding along_start
loop-init g c =
    let e = c.start-s.ensures in
    let f = c.requires in
    record {
      have = omega (arith, ap (λ (q : State). q.have) e, f.0.within);
      put = omega (arith, ap (λ (q : State). q.put) e);
      counted = omega (arith, ap (λ (q : State). q.records) e);
      end = λ h. let o = ap (λ (q : State). q.source) e in let z : ◌≡◌ {A = ℕ} 0 1 = cc in absurd (omega arith);
      along = (along_start c.args.out.now f.0 f.1 c.shift.ensures e, tied_start _ _ (sym (gathered f.0.gathers)));
    }

pub returns-then-not-s-clause-came : goal.returns-then-not-s-clause-came
returns-then-not-s-clause-came g c =
    along_off c.loop.counter c.loop.invariant.along.0 c.refill.ensures.refilled c.turn.ensures.turned c.write_due.ensures.state.0 c.if-not-s.true

pub returns-then-not-s-clause-tied : goal.returns-then-not-s-clause-tied
unfolding along_off
returns-then-not-s-clause-tied g c =
    let l = c.loop.invariant.along in (
      along_off c.loop.counter l.0 c.refill.ensures.refilled c.turn.ensures.turned c.write_due.ensures.state.0 c.if-not-s.true,
      tied_on (read_behind c.loop.s c.refill.new.s c.refill.new.block) (take (due_of c.turn.new.s) c.turn.new.out) l.1 c.refill.ensures.bytes c.in_ok-write_due.ensures.bytes,
    )

pub returns-then-not-s-clause-end : goal.returns-then-not-s-clause-end
returns-then-not-s-clause-end g c =
    kept c.refill.new.s c.turn.new.s c.write_due.new.s c.turn.ensures.turned.same c.write_due.ensures.state.0 (c.refill.ensures.end c.loop.invariant.end)

pub loop-preserved : goal.loop-preserved
unfolding along_on
loop-preserved g c =
    let i = c.loop.invariant in
    let f = c.refill.ensures in
    let t = c.turn.ensures in
    let e = c.write_due.ensures.state.0 in
    record {
      have = omega (arith, ap (λ (q : State). q.have) e, t.have_le_have, f.have_bound_2);
      put = c.write_due.ensures.state.1;
      counted = omega (arith, ap (λ (q : State). q.records) e, t.have_le_have, (grown f.refilled).records, i.counted);
      end = kept c.refill.new.s c.turn.new.s c.write_due.new.s t.turned.same e (f.end i.end);
      along = (
        along_on c.loop.counter i.along.0 f.refilled t.turned e c.if-not-s.false t.have_le_have.0 (omega (arith, f.have_bound_2)),
        tied_on (read_behind c.loop.s c.refill.new.s c.refill.new.block) (take (due_of c.turn.new.s) c.turn.new.out) i.along.1 f.bytes c.in_ok-write_due.ensures.bytes,
      );
    }

pub returns-clause-tied : goal.returns-clause-tied
unfolding along_last
returns-clause-tied g c = let l = c.loop.invariant.along in (along_last c.loop.counter (omega arith) l.0, l.1)
