-- What is skipped, and a number, each lead to the place behind them.
use Rattle.std.proofs.Common.{ℕ, ◌≡◌, ◌++◌, sym, ap, ◌∙◌, length, drop, arith}
use Rattle.sam.specs.Record.{le32}
use Rattle.bam_header.specs.Header.{past_bytes}
use Rattle.bam_header.specs.Inner.{from_part, from_place, behind_number}
use Rattle.bam_header.specs.declared.HeadPlace.{HeadPlace}
use Rattle.bam_header.proofs.HeadLaws.{past_none, past_some, part_in, ready_skip, ready_number}
use Rattle.bam_header.proofs.turn.Goals as goal

pub returns-then-p-gt0-clause-head_gone : goal.returns-then-p-gt0-clause-head_gone
returns-then-p-gt0-clause-head_gone c =
    let p = c.args.p in
    let n = c.min-n.result in
    let e = c.min-n.ensures in
    let some = ready_skip p (length c.args.s.now) c.requires c.if-p-gt0.true in
    record { within = omega arith; same = λ ys. past_some p.skip n (from_part p.part) c.args.s.now ys (omega arith) (omega arith) }

pub returns-clause-head_gone : goal.returns-clause-head_gone
returns-clause-head_gone c =
    let p = c.args.p in
    let s = c.args.s.now in
    let r = ready_number p (length s) c.requires c.if-p-gt0.false in
    let z : p.skip ≡ 0 = omega (arith, c.if-p-gt0.false) in
    let e : behind_number p.part (le32 s 0) ≡ c.behind_number.result = ap (behind_number p.part) (sym c.u32_at-number.ensures) ∙ sym c.behind_number.ensures in
    record {
      within = r.1;
      same = λ ys.
          ap (λ (k : ℕ). past_bytes k (from_part p.part) (s ++ ys)) z
          ∙ past_none (from_part p.part) (s ++ ys)
          ∙ part_in p.part s ys r.0 r.1
          ∙ ap (λ (q : HeadPlace). from_place q (drop 4 s ++ ys)) e;
    }
