-- The digits are stored, then the letter behind them.
use native.Mathlib.Omega.{arith}
use Rattle.print_rules.proofs.PrintLaws.{op_text_length, op_stores}
use Rattle.print.proofs.put_op.Goals as goal

pub put_digits-requires : goal.put_digits-requires
put_digits-requires c =
    let n = op_text_length c.args.op c.width-k.result c.width-k.ensures in omega arith

pub bounds-out-e : goal.bounds-out-e
bounds-out-e c =
    omega (arith, op_text_length c.args.op c.width-k.result c.width-k.ensures, c.put_digits.auto.out, c.requires)

pub returns-clause-value : goal.returns-clause-value
returns-clause-value c =
    omega (arith, op_text_length c.args.op c.width-k.result c.width-k.ensures)

pub returns-clause-out_after : goal.returns-clause-out_after
returns-clause-out_after c =
    cc (op_stores c.args.op c.width-k.result c.width-k.ensures c.args.out.now c.args.at, c.named-named.ensures.1)
