-- Each way out is one case of the rule, and 19 is due where the taking fell short; the lengths fit, since all of them fit together.
use Prim.Native.Nat.{ℕ, ◌+◌, ◌<◌, ◌≤◌}
use mathlib.Core.Path.{◌≡◌, refl, sym, ◌∙◌}
use mathlib.Core.List.{List}
use native.Mathlib.Omega.{arith}
use lib.ListN.{length, drop}
use Rattle.lists.specs.Lists.{facing, sum_of}
use Rattle.lists.proofs.ListLaws.{length_facing}
use Rattle.lists.proofs.Sums.{sum_facing}
use Rattle.sam.specs.Op.{len_of}
use Rattle.clip_rules.proofs.RuleLaws.{taking_fits, clip_none, clip_empty, outer_fits, clip-upgrade, clip-cut}
use Rattle.clip_rules.proofs.BeyondLaws.{not_of_none, not_within, not-in-clips, short-beyond, enough-within}
use Rattle.clip_rules.proofs.CodeLaws.{read_le}
use Rattle.clip_plan.proofs.CutLaws.{first_plan}
use Rattle.clip_plan.proofs.make_plan.Goals as goal

pub returns-then-amount-eq0 : goal.returns-then-amount-eq0
returns-then-amount-eq0 g c =
    let xs : List ℕ = g.L.OpList.ops c.args.list in
    let ys : List ℕ = facing c.args.start xs in
    let z : c.args.amount ≡ 0 = c.if-amount-eq0.true in (
      not_within xs c.args.amount c.args.start (omega arith),
      record { cut_is = rw (c.unchanged.ensures.0, c.unchanged.ensures.1, c.unchanged.ensures.2) (clip_none ys c.args.amount z); skip_in = omega arith; heads_in = omega arith },
    )

pub returns-then-count-eq0 : goal.returns-then-count-eq0
returns-then-count-eq0 g c =
    let xs : List ℕ = g.L.OpList.ops c.args.list in
    let ys : List ℕ = facing c.args.start xs in
    let long : length ys ≡ length xs = length_facing c.args.start xs in
    let z : length xs ≡ 0 = sym c.count.ensures.value ∙ c.if-count-eq0.true in (
      not_of_none xs c.args.amount c.args.start z,
      record { cut_is = rw (c.unchanged-then-count-eq0.ensures.0, c.unchanged-then-count-eq0.ensures.1, c.unchanged-then-count-eq0.ensures.2) (clip_empty ys c.args.amount c.if-amount-eq0.false (long ∙ z)); skip_in = omega arith; heads_in = omega arith },
    )

pub cut_first-requires : goal.cut_first-requires
cut_first-requires g c =
    let w = (c.ends_within.ensures c.if-ends_within.true).1 in let l = read_le c.op-op.result in omega arith

pub returns-then-ends_within : goal.returns-then-ends_within
returns-then-ends_within g c =
    let xs : List ℕ = g.L.OpList.ops c.args.list in
    let ys : List ℕ = facing c.args.start xs in
    let long : length ys ≡ length xs = length_facing c.args.start xs in
    rw (c.cut_first.ensures.skip_value.0, c.cut_first.ensures.skip_value.1, c.cut_first.ensures.skip_value.2)
    (first_plan xs c.args.start c.op-op.result c.args.amount c.cut_first.result.first c.cut_first.result.second
    (rw c.new-seen.ensures at c.op-op.ensures) (omega arith) c.if-amount-eq0.false (c.ends_within.ensures c.if-ends_within.true) c.cut_first.ensures.first_value.0 c.cut_first.ensures.first_value.1)

pub upgrade-requires : goal.upgrade-requires
upgrade-requires g c =
    let xs : List ℕ = g.L.OpList.ops c.args.list in
    let ys : List ℕ = facing c.args.start xs in
    let p = outer_fits (rw c.new-seen.ensures at c.leading_clips-clips.ensures) (rw c.new-seen.ensures at c.outer_runs-outer.ensures) in
    let t = sum_facing len_of c.args.start xs in
    let f : c.outer_runs-outer.result.hard + c.outer_runs-outer.result.soft + sum_of len_of (drop c.outer_runs-outer.result.next ys) < 268435456 = omega arith in
    omega arith

pub returns-then-amount-clips : goal.returns-then-amount-clips
returns-then-amount-clips g c =
    let xs : List ℕ = g.L.OpList.ops c.args.list in
    let ys : List ℕ = facing c.args.start xs in
    let long : length ys ≡ length xs = length_facing c.args.start xs in
    let any : length xs ≡ 0 → ⊥ = λ e. c.if-count-eq0.false (c.count.ensures.value ∙ e) in
    let seen : length ys ≡ 0 → ⊥ = λ e. any (sym long ∙ e) in (
      not-in-clips xs c.args.amount c.args.start (rw c.new-seen.ensures at c.leading_clips-clips.ensures) c.if-amount-clips.true,
      record {
        cut_is = c.upgrade.ensures.by_index ys
            ∙ clip-upgrade (rw c.new-seen.ensures at c.leading_clips-clips.ensures) (rw c.new-seen.ensures at c.outer_runs-outer.ensures) c.args.amount c.if-amount-eq0.false seen c.if-amount-clips.true;
        skip_in = let o = rw c.new-seen.ensures at c.outer_runs-outer.ensures in omega (arith, o.next_in);
        heads_in = c.upgrade.ensures.skip_value.1;
      },
    )

pub take_bases-t-requires : goal.take_bases-t-requires
take_bases-t-requires g c =
    let xs : List ℕ = g.L.OpList.ops c.args.list in
    let ys : List ℕ = facing c.args.start xs in
    let long : length ys ≡ length xs = length_facing c.args.start xs in
    omega arith

pub returns-then-t-n : goal.returns-then-t-n
returns-then-t-n g c =
    let xs : List ℕ = g.L.OpList.ops c.args.list in
    let ys : List ℕ = facing c.args.start xs in
    let any : length xs ≡ 0 → ⊥ = λ e. c.if-count-eq0.false (c.count.ensures.value ∙ e) in (
      short-beyond xs c.args.amount c.args.start (rw c.new-seen.ensures at c.leading_clips-clips.ensures) (rw c.new-seen.ensures at c.outer_runs-outer.ensures) c.if-amount-clips.false (rw c.new-seen.ensures at c.take_bases-t.ensures) any (omega arith),
      refl,
    )

pub overflow_add-outer : goal.overflow_add-outer
overflow_add-outer g c =
    let xs : List ℕ = g.L.OpList.ops c.args.list in
    let ys : List ℕ = facing c.args.start xs in
    let p = outer_fits (rw c.new-seen.ensures at c.leading_clips-clips.ensures) (rw c.new-seen.ensures at c.outer_runs-outer.ensures) in
    let t = sum_facing len_of c.args.start xs in
    let f : c.outer_runs-outer.result.hard + c.outer_runs-outer.result.soft + sum_of len_of (drop c.outer_runs-outer.result.next ys) < 268435456 = omega arith in
    omega arith

pub overflow_add-outer-2 : goal.overflow_add-outer-2
overflow_add-outer-2 g c =
    let xs : List ℕ = g.L.OpList.ops c.args.list in
    let ys : List ℕ = facing c.args.start xs in
    let p = outer_fits (rw c.new-seen.ensures at c.leading_clips-clips.ensures) (rw c.new-seen.ensures at c.outer_runs-outer.ensures) in
    let t = sum_facing len_of c.args.start xs in
    let f : c.outer_runs-outer.result.hard + c.outer_runs-outer.result.soft + sum_of len_of (drop c.outer_runs-outer.result.next ys) < 268435456 = omega arith in
    let g : c.take_bases-t.result.bases ≤ sum_of len_of (drop c.outer_runs-outer.result.next ys) = taking_fits (rw c.new-seen.ensures at c.take_bases-t.ensures) in
    omega arith

pub encode_op-requires-clause-len_bound : goal.encode_op-requires-clause-len_bound
encode_op-requires-clause-len_bound g c =
    let xs : List ℕ = g.L.OpList.ops c.args.list in
    let ys : List ℕ = facing c.args.start xs in
    let p = outer_fits (rw c.new-seen.ensures at c.leading_clips-clips.ensures) (rw c.new-seen.ensures at c.outer_runs-outer.ensures) in
    let t = sum_facing len_of c.args.start xs in
    let f : c.outer_runs-outer.result.hard + c.outer_runs-outer.result.soft + sum_of len_of (drop c.outer_runs-outer.result.next ys) < 268435456 = omega arith in
    let g : c.take_bases-t.result.bases ≤ sum_of len_of (drop c.outer_runs-outer.result.next ys) = taking_fits (rw c.new-seen.ensures at c.take_bases-t.ensures) in
    omega arith

pub returns : goal.returns
returns g c =
    let xs : List ℕ = g.L.OpList.ops c.args.list in
    let ys : List ℕ = facing c.args.start xs in
    let long : length ys ≡ length xs = length_facing c.args.start xs in
    let any : length xs ≡ 0 → ⊥ = λ e. c.if-count-eq0.false (c.count.ensures.value ∙ e) in
    let seen : length ys ≡ 0 → ⊥ = λ e. any (sym long ∙ e) in (
      enough-within xs c.args.amount c.args.start (rw c.new-seen.ensures at c.leading_clips-clips.ensures) (rw c.new-seen.ensures at c.outer_runs-outer.ensures) c.if-amount-clips.false (rw c.new-seen.ensures at c.take_bases-t.ensures) (omega arith),
      record {
        cut_is = clip-cut (rw c.new-seen.ensures at c.leading_clips-clips.ensures) (rw c.new-seen.ensures at c.outer_runs-outer.ensures) c.args.amount c.if-amount-eq0.false seen
            c.encode_op.result c.if-amount-clips.false (rw c.new-seen.ensures at c.take_bases-t.ensures) c.encode_op.ensures;
        skip_in = (rw c.new-seen.ensures at c.take_bases-t.ensures).next_in;
        heads_in = omega arith;
      },
    )
