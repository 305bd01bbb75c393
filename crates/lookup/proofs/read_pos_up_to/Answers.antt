-- The refusals and the position before the start by their tests; else the answer is read off what the walk saw over the lent list.
use Rattle.std.proofs.Common.{◌≡◌, ap, sym, ◌∙◌, inl, inr, List, ℕ, ◌-◌, Option, Some, None, Err, arith, rules, lt-ltb, le-ltb}
use Rattle.std.proofs.lemmas.Option.{MatchOption-at_some, MatchOption-at_none}
use Rattle.answers.specs.declared.Refusal.TheVariants.{TooManyOps}
use Rattle.sam.specs.Columns.{Spot}
use Rattle.lookup_rules.specs.Lookup.{look, lookup_up_to, looked_up_to, counted, read_over}
use Rattle.lookup_rules.specs.Examined.{place_of, examined}
use Rattle.lookup_rules.specs.Meaning.{InBounds}
use Rattle.lookup_rules.proofs.LookupLaws.{looked_at}
use Rattle.lookup_rules.proofs.PlaceLaws.{place_most}
use Rattle.answers.specs.Answer.{Answer}
use Rattle.lookup.proofs.read_pos_up_to.Goals as goal

pub returns-in_err-list : goal.returns-in_err-list
unfolding looked_up_to lookup_up_to examined
returns-in_err-list c =
    let n : c.new.result ≡ None = grind arith in
    let h = MatchOption-at_none _ _ n c.new.ensures in
    let passed : c.from_residual.result ≡ Err TooManyOps = search rules in
    passed ∙ sym (simp (lt-ltb _ _ h))

pub returns-then-start-lt1 : goal.returns-then-start-lt1
unfolding looked_up_to lookup_up_to examined
returns-then-start-lt1 c =
    let n : c.new.result ≡ Some c.in_ok-list.list = grind arith in
    let l = MatchOption-at_some _ _ _ n c.new.ensures in
    elim c.then-start-lt1.either [ inl h ↦ simp (le-ltb _ _ l.0, lt-ltb _ _ h) | inr h ↦ simp (le-ltb _ _ l.0, le-ltb _ _ h.0, lt-ltb _ _ h.1) ]

pub returns-then-pos-start : goal.returns-then-pos-start
unfolding looked_up_to lookup_up_to examined
returns-then-pos-start c =
    let n : c.new.result ≡ Some c.in_ok-list.list = grind arith in
    let l = MatchOption-at_some _ _ _ n c.new.ensures in
    simp (le-ltb _ _ l.0, le-ltb _ _ c.if-start-lt1.false, le-ltb _ _ c.if-start-gt-LAST_START.false, lt-ltb _ _ c.if-pos-start.true)

pub overflow_cast-result : goal.overflow_cast-result
overflow_cast-result c =
    let p = c.look_at-s.ensures.place_value in
    let m = place_most c.in_ok-list.list.words.now (c.args.pos - c.args.start) in
    let few = c.in_ok-list.list.short in
    omega arith

pub returns : goal.returns
returns c =
    let n : c.new.result ≡ Some c.in_ok-list.list = grind arith in
    let l = MatchOption-at_some _ _ _ n c.new.ensures in
    let t : InBounds c.args.limit c.args.cigar.now c.args.start = record { few = l.0; low = c.if-start-lt1.false; high = c.if-start-gt-LAST_START.false } in
    let e = c.look_at-s.ensures.result_value.0 ∙ ap (λ (l : List ℕ). look l (c.args.pos - c.args.start)) l.1 in
    let p = c.look_at-s.ensures.place_value ∙ ap (λ (l : List ℕ). place_of l (c.args.pos - c.args.start)) l.1 in
    ap (λ (q : Answer (Option ℕ)). counted q c.look_at-s.result.place) c.read_over.ensures
    ∙ ap (λ (u : Spot). counted (read_over c.args.asked u.before u.over) c.look_at-s.result.place) e
    ∙ ap (counted (read_over c.args.asked (look c.args.cigar.now (c.args.pos - c.args.start)).before (look c.args.cigar.now (c.args.pos - c.args.start)).over)) p
    ∙ sym (looked_at c.args.limit c.args.cigar.now c.args.start c.args.pos c.args.asked t c.if-pos-start.false)
