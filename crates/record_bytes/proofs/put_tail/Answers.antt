-- Bases, qualities, tags: the last two as one copy, or as two.
use Rattle.std.proofs.Common.{◌+◌, ◌-◌, ◌/◌, length}
use mathlib.Core.Path.{refl}
use native.Mathlib.Omega.{arith}
use Rattle.record_parts.proofs.PutLaws.{part_copied}
use Rattle.record_bytes.proofs.ByteLaws.{bases_put, tail-is, tail_at_once}
use Rattle.record_bytes.proofs.put_tail.Goals as goal

pub returns-then-first-n : goal.returns-then-first-n
returns-then-first-n c =
    let b = c.args.rec.now in
    let at = c.args.at in
    let second = c.args.at + (c.args.n + 1) / 2 in
    let first = c.quals_start-quals.result + c.args.from in
    tail_at_once b c.args.out.now _ _ c.args.from c.args.n at second _ _ _
    c.bases_start-bases.ensures.0 c.quals_start-quals.ensures.0 c.tags_start-tags.ensures.0 (omega arith) (omega arith) refl (omega arith) c.if-first-n.true
    (bases_put b c.args.out.now _ c.args.from c.args.n at _ _ c.bases_start-bases.ensures.0 (omega arith) (omega arith) (omega arith) c.put_bases.ensures) (omega arith)
    (part_copied _ b _ second first (length b - first) _ _ (omega arith) (omega arith) (omega arith) c.copy_bytes.ensures)

pub returns : goal.returns
returns c =
    let b = c.args.rec.now in
    let at = c.args.at in
    let second = c.args.at + (c.args.n + 1) / 2 in
    let first = c.quals_start-quals.result + c.args.from in
    tail-is b c.args.out.now _ _ _ c.args.from c.args.n at second _ _ _
    c.bases_start-bases.ensures.0 c.quals_start-quals.ensures.0 c.tags_start-tags.ensures.0 (omega arith) (omega arith) refl (omega arith)
    (bases_put b c.args.out.now _ c.args.from c.args.n at _ _ c.bases_start-bases.ensures.0 (omega arith) (omega arith) (omega arith) c.put_bases.ensures)
    (part_copied _ b _ second first c.args.n _ _ (omega arith) (omega arith) (omega arith) c.copy_bytes-2.ensures)
    (part_copied _ b _ (second + c.args.n) c.tags_start-tags.result (length b - c.tags_start-tags.result) _ _ (omega arith) (omega arith) (omega arith) c.copy_bytes-3.ensures)
