-- Name, then ops: the first test that fails names its part; then the rest.
use Prim.Native.Nat.{◌+◌, ◌-◌}
use mathlib.Core.Path.{◌≡◌, ◌∙◌}
use native.Mathlib.Omega.{arith}
use Rattle.sam.specs.Parts.{name_part, ops_part}
use Rattle.record_rules.specs.InnerPlan.{change_by}
use Rattle.record_rules.specs.Written.{new_name, new_ops}
use Rattle.receive_rules.specs.Receiving.{same}
use Rattle.receive_rules.proofs.AnswerLaws.{name-part, ops-part, ops-differ, ops-same}
use Rattle.receive.proofs.compare_behind.Goals as goal

pub returns-then-not-same_ops : goal.returns-then-not-same_ops
returns-then-not-same_ops c =
    let name : let a = c.args in c.same_bytes.result ≡ same (name_part a.got.now) (new_name a.rec.now (change_by a.rec.now a.start a.p)) =
    let a = c.args in
    c.same_bytes.ensures ∙ name-part a.got.now a.rec.now c.u8_at-name.result c.u8_at-name.ensures.0 c.requires.got_value
    in
    let ops : let a = c.args in c.same_ops.result ≡ same (ops_part a.got.now) (new_ops a.rec.now (change_by a.rec.now a.start a.p)) =
    let a = c.args in
    let F = c.requires.fits in
    c.same_ops.ensures
    ∙ ops-part a.got.now a.rec.now a.start a.p.ops (32 + c.u8_at-name.result) c.u16_at-n.result (a.p.ops.heads + (c.u16_at-n.result - a.p.ops.skip)) F.whole
    (omega (arith, c.u8_at-name.ensures.0)) c.u16_at-n.ensures.0 (omega (arith, F.n-is, F.skip_in, c.requires.got_value_2)) c.requires.got_value
    in
    let a = c.args in
    ops-differ a.got.now a.rec.now (change_by a.rec.now a.start a.p) _ (name) _ (ops) (c.if-not-same_bytes.false) (c.if-not-same_ops.true)

pub returns : goal.returns
returns c =
    let name : let a = c.args in c.same_bytes.result ≡ same (name_part a.got.now) (new_name a.rec.now (change_by a.rec.now a.start a.p)) =
    let a = c.args in
    c.same_bytes.ensures ∙ name-part a.got.now a.rec.now c.u8_at-name.result c.u8_at-name.ensures.0 c.requires.got_value
    in
    let ops : let a = c.args in c.same_ops.result ≡ same (ops_part a.got.now) (new_ops a.rec.now (change_by a.rec.now a.start a.p)) =
    let a = c.args in
    let F = c.requires.fits in
    c.same_ops.ensures
    ∙ ops-part a.got.now a.rec.now a.start a.p.ops (32 + c.u8_at-name.result) c.u16_at-n.result (a.p.ops.heads + (c.u16_at-n.result - a.p.ops.skip)) F.whole
    (omega (arith, c.u8_at-name.ensures.0)) c.u16_at-n.ensures.0 (omega (arith, F.n-is, F.skip_in, c.requires.got_value_2)) c.requires.got_value
    in
    let a = c.args in
    ops-same a.got.now a.rec.now (change_by a.rec.now a.start a.p) _ (name) _ (ops) (c.if-not-same_bytes.false) (c.if-not-same_ops.false) _ c.compare_tail.ensures
