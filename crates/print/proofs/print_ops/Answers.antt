-- The measuring walk decides 7 and 6, and what is written fits.
use mathlib.Core.Path.{◌≡◌, sym, ap, ◌∙◌}
use Rattle.std.proofs.Common.{Ok, Err, Some, None, rules}
use Rattle.answers.specs.declared.Refusal.TheVariants.{BadCode}
use native.Mathlib.Omega.{arith}
use mathlib.Core.Bool.{false}
use lib.ListN.{length}
use Rattle.lists.proofs.Stores.{sets_splice}
use Rattle.answers.proofs.Unique.{settled, outcome}
use Rattle.print_rules.specs.Text.{text_of, any_bad}
use Rattle.print_rules.specs.Inner.{room_of}
use Rattle.print_rules.proofs.PrintLaws.{room_bad, room_some}
use Rattle.print_rules.proofs.AnswerLaws.{bad_code, no_room, fits}
use Rattle.print.proofs.print_ops.Goals as goal

pub returns-in_err-n : goal.returns-in_err-n
unfolding room_of
returns-in_err-n g c =
    let none : c.room_for.result ≡ None = search rules in
    let passed : c.from_residual.result ≡ Err BadCode = search rules in
    rw passed (settled (bad_code (g.L.OpList.ops c.args.list) _ (room_bad (any_bad (g.L.OpList.ops c.args.list)) _ (sym c.room_for.ensures ∙ none))))

pub returns-then-out-n : goal.returns-then-out-n
unfolding room_of
returns-then-out-n g c =
    let some : c.room_for.result ≡ Some c.in_ok-n.n = search rules in
    let told : (any_bad (g.L.OpList.ops c.args.list) ≡ false) × (length (text_of (g.L.OpList.ops c.args.list)) ≡ c.in_ok-n.n) =
    room_some _ _ _ (sym c.room_for.ensures ∙ some)
    in
    let t = told in
    settled (no_room (g.L.OpList.ops c.args.list) c.args.out.now t.0 (omega (arith, t.1, c.if-out-n.true)))

pub put_text-requires : goal.put_text-requires
unfolding room_of
put_text-requires g c =
    let some : c.room_for.result ≡ Some c.in_ok-n.n = search rules in
    let told : (any_bad (g.L.OpList.ops c.args.list) ≡ false) × (length (text_of (g.L.OpList.ops c.args.list)) ≡ c.in_ok-n.n) =
    room_some _ _ _ (sym c.room_for.ensures ∙ some)
    in
    omega (arith, (told).1, c.if-out-n.false)

pub returns : goal.returns
unfolding room_of
returns g c =
    let some : c.room_for.result ≡ Some c.in_ok-n.n = search rules in
    let told : (any_bad (g.L.OpList.ops c.args.list) ≡ false) × (length (text_of (g.L.OpList.ops c.args.list)) ≡ c.in_ok-n.n) =
    room_some _ _ _ (sym c.room_for.ensures ∙ some)
    in
    let ops = g.L.OpList.ops c.args.list in
    let t = told in
    settled (fits ops c.args.out.now t.0 (omega (arith, t.1, c.if-out-n.false))
    ∙ outcome (ap Ok (sym t.1)) (c.put_text.ensures ∙ sets_splice c.args.out.now 0 (text_of ops) (omega (arith, t.1, c.if-out-n.false))))
