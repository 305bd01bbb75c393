-- The place of the first NUL from the place on, or the end.
use Rattle.std.proofs.Common.{rules, tests, ◌≡◌, ◌+◌, ◌-◌, length, take, drop, ℕ, eqb, ap, ◌∙◌, Option, arith}
use Rattle.std.specs.Option.{unwrap_or}
use Rattle.std.specs.List.{position_or_len}
use Rattle.std.proofs.lemmas.List.{take_all}
use lib.ListN.{length-drop}
use Rattle.std.proofs.lemmas.Iterator.{YieldsList-from_slice}
use Rattle.std.proofs.lemmas.Iterator.Search.{position_from_yields_List}
use Rattle.sam.specs.Tags.{to_nul}
use Rattle.tag_sizes.proofs.SizeLaws.{nul_is, nul_or_end}
use Rattle.tag_sizes.proofs.to_nul.Goals as goal

pub returns : goal.returns
returns c =
    let b = c.args.b.now in
    let t = take (length b - c.args.at) (drop c.args.at b) in
    let w : t ≡ drop c.args.at b = take_all _ _ (simp length-drop (omega arith)) in
    let e = position_from_yields_List (λ (x : ℕ). eqb x 0) _ _ c.position.result c.position.ensures.ran (YieldsList-from_slice t cc) (λ x b q k. search (rules, tests)) in
    let f : c.unwrap_or-before.result ≡ position_or_len (λ (x : ℕ). eqb x 0) t =
    c.unwrap_or-before.ensures ∙ ap (λ (o : Option ℕ). unwrap_or o (length t)) e ∙ nul_or_end t
    in
    ap (λ (n : ℕ). n + 1) f ∙ nul_is t ∙ ap to_nul w
