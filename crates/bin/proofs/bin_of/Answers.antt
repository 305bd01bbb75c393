-- Shift by shift, from the finest: the first at which the ends agree.
use Prim.Native.Nat.{ℕ}
use lib.IntN.{ℤ}
use mathlib.Core.Bool.{true, false}
use mathlib.Core.Path.{◌≡◌, ap, sym, ◌∙◌}
use lib.ListN.{drop}
use Rattle.signed.specs.Equal.{eqℤ}
use Rattle.bin_rules.specs.Bin.{shifts, shr, low16, first_agreed, bin_of}
use Rattle.bin_rules.proofs.Shifts.{agrees, placed, agree_here, agree_later}
use Rattle.bin.proofs.bin_of.Goals as goal

pub returns-then-agree : goal.returns-then-agree
returns-then-agree c =
    placed c.args.beg c.ranges.beg 4681 14 _ c.bin_at.ensures
    ∙ sym (ap low16 (agree_here c.args.beg c.args.last _ _ (agrees c.args.beg c.args.last c.ranges.beg c.ranges.last 14 _ true c.agree.ensures c.if-agree.true)))

pub returns-then-agree-2 : goal.returns-then-agree-2
returns-then-agree-2 c =
    let Past : ℕ → Type 0 =
    λ n. bin_of c.args.beg c.args.last ≡ first_agreed (drop n shifts) c.args.beg c.args.last
    in
    let past-14 : Past 1 =
    agree_later c.args.beg c.args.last _ _ (agrees c.args.beg c.args.last c.ranges.beg c.ranges.last 14 _ false c.agree.ensures c.if-agree.false)
    in
    placed c.args.beg c.ranges.beg 585 17 _ c.bin_at-then-agree-2.ensures
    ∙ sym (ap low16 (past-14 ∙ agree_here c.args.beg c.args.last _ _ (agrees c.args.beg c.args.last c.ranges.beg c.ranges.last 17 _ true c.agree-2.ensures c.if-agree-2.true)))

pub returns-then-agree-3 : goal.returns-then-agree-3
returns-then-agree-3 c =
    let Past : ℕ → Type 0 =
    λ n. bin_of c.args.beg c.args.last ≡ first_agreed (drop n shifts) c.args.beg c.args.last
    in
    let past-14 : Past 1 =
    agree_later c.args.beg c.args.last _ _ (agrees c.args.beg c.args.last c.ranges.beg c.ranges.last 14 _ false c.agree.ensures c.if-agree.false)
    in
    let past-17 : Past 2 =
    past-14 ∙ agree_later c.args.beg c.args.last _ _ (agrees c.args.beg c.args.last c.ranges.beg c.ranges.last 17 _ false c.agree-2.ensures c.if-agree-2.false)
    in
    placed c.args.beg c.ranges.beg 73 20 _ c.bin_at-then-agree-3.ensures
    ∙ sym (ap low16 (past-17 ∙ agree_here c.args.beg c.args.last _ _ (agrees c.args.beg c.args.last c.ranges.beg c.ranges.last 20 _ true c.agree-3.ensures c.if-agree-3.true)))

pub returns-then-agree-4 : goal.returns-then-agree-4
returns-then-agree-4 c =
    let Past : ℕ → Type 0 =
    λ n. bin_of c.args.beg c.args.last ≡ first_agreed (drop n shifts) c.args.beg c.args.last
    in
    let past-14 : Past 1 =
    agree_later c.args.beg c.args.last _ _ (agrees c.args.beg c.args.last c.ranges.beg c.ranges.last 14 _ false c.agree.ensures c.if-agree.false)
    in
    let past-17 : Past 2 =
    past-14 ∙ agree_later c.args.beg c.args.last _ _ (agrees c.args.beg c.args.last c.ranges.beg c.ranges.last 17 _ false c.agree-2.ensures c.if-agree-2.false)
    in
    let past-20 : Past 3 =
    past-17 ∙ agree_later c.args.beg c.args.last _ _ (agrees c.args.beg c.args.last c.ranges.beg c.ranges.last 20 _ false c.agree-3.ensures c.if-agree-3.false)
    in
    placed c.args.beg c.ranges.beg 9 23 _ c.bin_at-then-agree-4.ensures
    ∙ sym (ap low16 (past-20 ∙ agree_here c.args.beg c.args.last _ _ (agrees c.args.beg c.args.last c.ranges.beg c.ranges.last 23 _ true c.agree-4.ensures c.if-agree-4.true)))

pub returns-then-agree-5 : goal.returns-then-agree-5
returns-then-agree-5 c =
    let Past : ℕ → Type 0 =
    λ n. bin_of c.args.beg c.args.last ≡ first_agreed (drop n shifts) c.args.beg c.args.last
    in
    let past-14 : Past 1 =
    agree_later c.args.beg c.args.last _ _ (agrees c.args.beg c.args.last c.ranges.beg c.ranges.last 14 _ false c.agree.ensures c.if-agree.false)
    in
    let past-17 : Past 2 =
    past-14 ∙ agree_later c.args.beg c.args.last _ _ (agrees c.args.beg c.args.last c.ranges.beg c.ranges.last 17 _ false c.agree-2.ensures c.if-agree-2.false)
    in
    let past-20 : Past 3 =
    past-17 ∙ agree_later c.args.beg c.args.last _ _ (agrees c.args.beg c.args.last c.ranges.beg c.ranges.last 20 _ false c.agree-3.ensures c.if-agree-3.false)
    in
    let past-23 : Past 4 =
    past-20 ∙ agree_later c.args.beg c.args.last _ _ (agrees c.args.beg c.args.last c.ranges.beg c.ranges.last 23 _ false c.agree-4.ensures c.if-agree-4.false)
    in
    placed c.args.beg c.ranges.beg 1 26 _ c.bin_at-then-agree-5.ensures
    ∙ sym (ap low16 (past-23 ∙ agree_here c.args.beg c.args.last _ _ (agrees c.args.beg c.args.last c.ranges.beg c.ranges.last 26 _ true c.agree-5.ensures c.if-agree-5.true)))

all_passed : (beg last : ℤ) → eqℤ (shr beg 14) (shr last 14) ≡ false → eqℤ (shr beg 17) (shr last 17) ≡ false → eqℤ (shr beg 20) (shr last 20) ≡ false → eqℤ (shr beg 23) (shr last 23) ≡ false
    → eqℤ (shr beg 26) (shr last 26) ≡ false → bin_of beg last ≡ first_agreed (drop 5 shifts) beg last
all_passed beg last h14 h17 h20 h23 h26 =
    let p14 : bin_of beg last ≡ first_agreed (drop 1 shifts) beg last = agree_later beg last _ _ h14 in
    let p17 : bin_of beg last ≡ first_agreed (drop 2 shifts) beg last = p14 ∙ agree_later beg last _ _ h17 in
    let p20 : bin_of beg last ≡ first_agreed (drop 3 shifts) beg last = p17 ∙ agree_later beg last _ _ h20 in
    let p23 : bin_of beg last ≡ first_agreed (drop 4 shifts) beg last = p20 ∙ agree_later beg last _ _ h23 in
    p23 ∙ agree_later beg last _ _ h26

pub returns : goal.returns
unfolding low16 first_agreed
returns c =
    sym (ap low16 (all_passed c.args.beg c.args.last
    (agrees c.args.beg c.args.last c.ranges.beg c.ranges.last 14 _ false c.agree.ensures c.if-agree.false)
    (agrees c.args.beg c.args.last c.ranges.beg c.ranges.last 17 _ false c.agree-2.ensures c.if-agree-2.false)
    (agrees c.args.beg c.args.last c.ranges.beg c.ranges.last 20 _ false c.agree-3.ensures c.if-agree-3.false)
    (agrees c.args.beg c.args.last c.ranges.beg c.ranges.last 23 _ false c.agree-4.ensures c.if-agree-4.false)
    (agrees c.args.beg c.args.last c.ranges.beg c.ranges.last 26 _ false c.agree-5.ensures c.if-agree-5.false)))
