-- Each refusal is decided before anything is written, and what is written fits.
use mathlib.Core.Path.{◌≡◌, refl, sym, ap, ◌∙◌}
use Rattle.std.specs.Prelude.{Err, Ok, Option}
use lib.ListN.{length, take}
use lib.Seq.{take_all}
use Prim.Native.Nat.{ℕ, ◌≤◌}
use native.Mathlib.Omega.{arith}
use Rattle.lists.specs.Lists.{splice}
use Rattle.sam.specs.Record.{mate_pos_of}
use Rattle.answers.specs.Answer.{Answer}
use Rattle.answers.proofs.Unique.{settled, outcome}
use Rattle.text_rules.specs.Text.{text_ops}
use Rattle.overlap_rules.specs.declared.Overhang.{Overhang}
use Rattle.overlap_rules.specs.declared.PairPlaces.{PairPlaces}
use Rattle.overlap_rules.specs.Overlap.{placed_pair, bases_at, list_left}
use Rattle.overlap_rules.proofs.CallLaws.{list_over, list-room, list_is, take_splice}
use borrow.Author.Rules.{rules}
use Rattle.overlap_text.proofs.list_left.Goals as goal

told_as : {b k n m : ℕ} → b ≡ k → n ≡ m → ◌≡◌ {A = Answer Overhang} (Ok (record { bases = b; written = n })) (Ok (record { bases = k; written = m }))
told_as e f = rw (e, f) refl

pub returns-in_err-placed : goal.returns-in_err-placed
returns-in_err-placed c =
    let told : c.placed_pair.result ≡ Err c.in_err-placed.field-0.0 = search rules in
    let passed : c.from_residual.result ≡ Err c.in_err-placed.field-0.0 = search rules in
    let lie : list_left (placed_pair c.args.fr c.args.bam.now (mate_pos_of c.args.bam.now)) c.args.bam.now (text_ops c.args.text.now) c.args.out.now ≡ list_left (Err c.in_err-placed.field-0.0) c.args.bam.now (text_ops c.args.text.now) c.args.out.now =
    ap (λ (p : Answer (Option PairPlaces)). list_left p c.args.bam.now (text_ops c.args.text.now) c.args.out.now) (sym (c.placed_pair.ensures ∙ ap (placed_pair c.args.fr c.args.bam.now) c.mate_place.ensures) ∙ told)
    in
    settled (lie ∙ list_over c.args.bam.now (text_ops c.args.text.now) c.args.out.now _ ∙ outcome passed refl)

pub returns-then-out-n : goal.returns-then-out-n
returns-then-out-n c =
    let told : c.placed_pair.result ≡ Ok c.in_ok-placed.placed = search rules in
    let lie : list_left (placed_pair c.args.fr c.args.bam.now (mate_pos_of c.args.bam.now)) c.args.bam.now (text_ops c.args.text.now) c.args.out.now ≡ list_left (Ok c.in_ok-placed.placed) c.args.bam.now (text_ops c.args.text.now) c.args.out.now =
    ap (λ (p : Answer (Option PairPlaces)). list_left p c.args.bam.now (text_ops c.args.text.now) c.args.out.now) (sym (c.placed_pair.ensures ∙ ap (placed_pair c.args.fr c.args.bam.now) c.mate_place.ensures) ∙ told)
    in
    settled (lie ∙ list-room c.args.bam.now (text_ops c.args.text.now) c.args.out.now c.in_ok-placed.placed (omega (arith, c.requires.1, c.if-out-n.true)))

pub returns : goal.returns
returns c =
    let told : c.placed_pair.result ≡ Ok c.in_ok-placed.placed = search rules in
    let lie : list_left (placed_pair c.args.fr c.args.bam.now (mate_pos_of c.args.bam.now)) c.args.bam.now (text_ops c.args.text.now) c.args.out.now ≡ list_left (Ok c.in_ok-placed.placed) c.args.bam.now (text_ops c.args.text.now) c.args.out.now =
    ap (λ (p : Answer (Option PairPlaces)). list_left p c.args.bam.now (text_ops c.args.text.now) c.args.out.now) (sym (c.placed_pair.ensures ∙ ap (placed_pair c.args.fr c.args.bam.now) c.mate_place.ensures) ∙ told)
    in
    let fits : length (text_ops c.args.text.now) ≤ length c.args.out.now = omega (arith, c.requires.1, c.if-out-n.false) in
    let left = c.write_ops.ensures ∙ ap (splice c.args.out.now 0) (take_all (length c.args.out.now) (text_ops c.args.text.now) fits) in
    let new : (length (take c.args.n c.write_ops.new.out) ≤ 65535) × (c.unwrap-list.result.words.now ≡ take c.args.n c.write_ops.new.out) = rw c.unwrap-list.ensures at c.new.ensures in
    let list : c.unwrap-list.result.words.now ≡ text_ops c.args.text.now = new.1 ∙ ap (take c.args.n) left ∙ take_splice c.args.out.now (text_ops c.args.text.now) c.args.n c.requires.1 in
    settled (lie ∙ list_is c.args.bam.now (text_ops c.args.text.now) c.args.out.now c.in_ok-placed.placed fits
    ∙ outcome (told_as (c.bases_at.ensures ∙ ap (bases_at (Ok c.in_ok-placed.placed) c.args.bam.now) list) (sym c.requires.1)) left)
