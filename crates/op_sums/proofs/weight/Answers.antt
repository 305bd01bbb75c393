-- Each arm is the table's entry at its code, and the last one's is the code that is left.
use Rattle.sam.specs.Op.{is_ref, is_query}
use Rattle.op_sums.proofs.Weights.{arm, last}
use Rattle.op_sums.proofs.weight.Goals as goal

pub returns-in-0 : goal.returns-in-0
unfolding is_ref is_query
returns-in-0 c =
    arm _ 0 c.in-0.is

pub returns-in-1 : goal.returns-in-1
unfolding is_ref is_query
returns-in-1 c =
    arm _ 1 c.in-1.is

pub returns-in-2 : goal.returns-in-2
unfolding is_ref is_query
returns-in-2 c =
    arm _ 2 c.in-2.is

pub returns-in-3 : goal.returns-in-3
unfolding is_ref is_query
returns-in-3 c =
    arm _ 3 c.in-3.is

pub returns-in-4 : goal.returns-in-4
unfolding is_ref is_query
returns-in-4 c =
    arm _ 4 c.in-4.is

pub returns-in-5 : goal.returns-in-5
unfolding is_ref is_query
returns-in-5 c =
    arm _ 5 c.in-5.is

pub returns-in-6 : goal.returns-in-6
unfolding is_ref is_query
returns-in-6 c =
    arm _ 6 c.in-6.is

pub returns-in-7 : goal.returns-in-7
unfolding is_ref is_query
returns-in-7 c =
    arm _ 7 c.in-7.is

pub returns-in-8 : goal.returns-in-8
unfolding is_ref is_query
returns-in-8 c =
    arm _ 8 c.in-8.is

pub returns-in-9 : goal.returns-in-9
unfolding is_ref is_query
returns-in-9 c =
    arm _ 9 c.in-9.is

pub returns-in-10 : goal.returns-in-10
unfolding is_ref is_query
returns-in-10 c =
    arm _ 10 c.in-10.is

pub returns-in-11 : goal.returns-in-11
unfolding is_ref is_query
returns-in-11 c =
    arm _ 11 c.in-11.is

pub returns-in-12 : goal.returns-in-12
unfolding is_ref is_query
returns-in-12 c =
    arm _ 12 c.in-12.is

pub returns-in-13 : goal.returns-in-13
unfolding is_ref is_query
returns-in-13 c =
    arm _ 13 c.in-13.is

pub returns-in-14 : goal.returns-in-14
unfolding is_ref is_query
returns-in-14 c =
    arm _ 14 c.in-14.is

pub returns-in_default : goal.returns-in_default
unfolding is_ref is_query
returns-in_default c =
    arm _ 15 (last _ c.requires c.in_default.in_default-own.rest)
