-- The runs that are written and those that are left make the M's.
use Prim.Native.Nat.{ℕ, ◌+◌, ◌≤◌}
use mathlib.Core.Path.{◌≡◌, sym, ap, ◌∙◌, subst}
use mathlib.Core.Bool.{true}
use mathlib.Core.List.{List}
use native.Mathlib.Omega.{arith}
use lib.ListN.{length, take}
use Rattle.lists.specs.Lists.{splice}
use Rattle.lists.proofs.ListLaws.{length_splice, splice_nil}
use Rattle.sam.specs.Op.{len_of}
use Rattle.md_rules.specs.Rule.{is_match, runs, bases}
use Rattle.md_rules.specs.InnerWalk.{columns_here, closed_by, open_by, FigureAt, MayWrite}
use Rattle.md_rules.proofs.OpLaws.{match-agrees, match-leaves, match-told}
use Rattle.md_rules.proofs.MatchLaws.{turn, turn-room, turn-written, there, is_there, last_runs, ended-rest, ended-counted, ended-few}
use Rattle.md_rules.specs.declared.Spot.{Spot}
use Rattle.md_rules.proofs.RunLaws.{closed_none, closed_some}
use Rattle.md_runs.proofs.write_runs.Goals as goal
use Rattle.md_runs.proofs.write_runs.Goals.{then-left-eq0, else-left-eq0}

-- what an M that is written is known to have: its bases, and room for its runs
has : (text : List ℕ) (s : Spot) (o : ℕ) (d : List ℕ) → MayWrite text s o d → is_match o ≡ true
    → (bases (len_of o) (columns_here text s) ≡ true) × (s.count + length (runs (take (len_of o) (columns_here text s))) ≤ length d)
has text s o d w m =
    (sym (match-agrees o (columns_here text s) m) ∙ w.agree, omega (arith, w.room, ap length (match-told o (columns_here text s) m)))

pub unwrap-f-requires : goal.unwrap-f-requires
unwrap-f-requires c =
    let l = c.loop-left in
    let have = has c.args.text.now c.args.s c.args.op c.args.out.now c.requires.0 c.requires.1 in
    is_there c.args.text.now _ _ _ l.n l.k l.at l.left l.place l.invariant.0 _ (omega arith) c.requires.0.formed have.0 c.requires.0.few c.number.ensures

pub put_pair-place-requires : goal.put_pair-place-requires
put_pair-place-requires c =
    let l = c.loop-left in
    let have = has c.args.text.now c.args.s c.args.op c.args.out.now c.requires.0 c.requires.1 in
    let i = there c.args.text.now _ _ _ l.n l.k l.at l.left l.place l.invariant.0 (omega arith) c.requires.0.formed have.0 c.requires.0.few in
    let read = subst (FigureAt c.args.text.now (l.at + 1)) c.unwrap-f.ensures c.number.ensures in
    let u = turn-room c.args.text.now _ _ _ l.n l.k l.at l.left l.place l.invariant.0 (omega arith) i.0 i.1 c.unwrap-f.result.n c.unwrap-f.result.at read in
    let v = ap length (closed_some l.k l.left c.if-left-eq0.false).0 in
    (omega (arith, l.invariant.0.few, l.invariant.0.since), omega (arith, l.invariant.0.few, l.invariant.0.since), omega (arith, u, v, have.1, l.invariant.2))

pub loop-left-preserved : goal.loop-left-preserved
loop-left-preserved c =
    let l = c.loop-left in
    let b = c.if-left-eq0 in
    let have = has c.args.text.now c.args.s c.args.op c.args.out.now c.requires.0 c.requires.1 in
    let i = there c.args.text.now _ _ _ l.n l.k l.at l.left l.place l.invariant.0 (omega arith) c.requires.0.formed have.0 c.requires.0.few in
    let read = subst (FigureAt c.args.text.now (l.at + 1)) c.unwrap-f.ensures c.number.ensures in
    let u = turn-room c.args.text.now _ _ _ l.n l.k l.at l.left l.place l.invariant.0 (omega arith) i.0 i.1 c.unwrap-f.result.n c.unwrap-f.result.at read in
    let h : l.place + length (closed_by l.k l.left) ≤ length l.out = omega (arith, u, have.1, l.invariant.2) in
    let now : (b.place ≡ l.place + length (closed_by l.k l.left)) × (b.k ≡ open_by l.k l.left) × (b.out ≡ splice l.out l.place (closed_by l.k l.left)) =
    elim c.if-left-eq0.branch [
      | then-left-eq0 w ↦
          let z = closed_none l.k l.left w.if-left-eq0.true in
          (omega (arith, w.place-is, ap length z.0), w.k-is ∙ sym z.1, w.out-is ∙ sym (splice_nil l.out l.place) ∙ ap (splice l.out l.place) (sym z.0))
      | else-left-eq0 w ↦
          let z = closed_some l.k l.left w.if-left-eq0.false in
          (omega (arith, w.place-is, w.put_pair-place.ensures.value, ap length z.0), w.k-is ∙ sym z.1, w.out-is ∙ w.put_pair-place.ensures.out_after ∙ ap (splice l.out l.place) (sym z.0))
    ]
    in (
      rw (now.0, now.1) (turn c.args.text.now _ _ _ l.n l.k l.at l.left l.place l.invariant.0 (omega arith) i.0 i.1 c.unwrap-f.result.n c.unwrap-f.result.at read),
      rw (now.0, now.1) (turn-written c.args.text.now _ _ _ l.n l.k l.at l.left l.place l.invariant.0 (omega arith) i.0 i.1 c.unwrap-f.result.n c.unwrap-f.result.at read l.out b.out _ now.2 h l.invariant.1),
      ap length now.2 ∙ length_splice l.out l.place (closed_by l.k l.left) h ∙ l.invariant.2,
    )

pub put_pair-end-requires : goal.put_pair-end-requires
put_pair-end-requires c =
    let have = has c.args.text.now c.args.s c.args.op c.args.out.now c.requires.0 c.requires.1 in
    let u = ended-counted c.args.text.now _ _ _ c.loop-left.n c.loop-left.k c.loop-left.at c.loop-left.left c.loop-left.place c.loop-left.invariant.0 (omega arith) in
    (omega (arith, c.loop-left.invariant.0.few, c.loop-left.invariant.0.since), omega (arith, c.loop-left.invariant.0.few, c.loop-left.invariant.0.since), omega (arith, u, have.1, c.loop-left.invariant.2))

pub returns : goal.returns
returns c =
    let h : c.loop-left.n ≤ c.loop-left.left = omega arith in
    let t = match-told c.args.op (columns_here c.args.text.now c.args.s) c.requires.1 in
    record {
      behind = c.loop-left.invariant.0.behind;
      rest = match-leaves c.args.op (columns_here c.args.text.now c.args.s) c.requires.1 ∙ ended-rest c.args.text.now _ _ _ c.loop-left.n _ c.loop-left.at c.loop-left.left _ c.loop-left.invariant.0 h;
      counted = c.put_pair-end.ensures.value ∙ ended-counted c.args.text.now _ _ _ c.loop-left.n c.loop-left.k c.loop-left.at c.loop-left.left c.loop-left.place c.loop-left.invariant.0 h ∙ ap (λ (rs : List ℕ). c.args.s.count + length rs) (sym t);
      few = omega (arith, c.put_pair-end.ensures.value, ended-few c.args.text.now _ _ _ c.loop-left.n c.loop-left.k c.loop-left.at c.loop-left.left c.loop-left.place c.loop-left.invariant.0 h);
      written = c.put_pair-end.ensures.out_after ∙ ap (splice c.loop-left.out c.loop-left.place) (sym (last_runs c.args.text.now _ _ _ c.loop-left.n c.loop-left.k c.loop-left.at c.loop-left.left _ c.loop-left.invariant.0 h)) ∙ c.loop-left.invariant.1 ∙ ap (splice c.args.out.now c.args.s.count) (sym t);
    }
