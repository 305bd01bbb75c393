-- Each turn puts one line more, that of the record at the place reached.
use Rattle.std.proofs.Common.{ℕ, ◌+◌, ◌-◌, ◌≤◌, ◌≡◌, Bool, List, length, take, drop, refl, sym, ap, ◌∙◌, arith, length-drop, take_all}
use Rattle.line_rules.specs.Line.{line_of}
use Rattle.put_text.proofs.PutLaws.{put_as}
use Rattle.stream_rules.specs.Stream.{next_in, so_far}
use Rattle.stream_rules.specs.declared.NextFrame.{NextFrame}
use Rattle.stream_rules.specs.declared.NextFrame.TheVariants.{Record}
use Rattle.stream_rules.proofs.FrameLaws.{far_record, gone_turn, record_in}
use Rattle.report_stream.proofs.lines_at_hand.Goals as goal

-- a part that goes to the end
all_of : (s : List ℕ) (used : ℕ) (whole : Bool) → so_far whole (next_in (take (length s - used) (drop used s))) ≡ so_far whole (next_in (drop used s))
all_of s used whole = ap (λ (l : List ℕ). so_far whole (next_in l)) (take_all (length s - used) (drop used s) (simp length-drop (omega arith)))

is_next : (s : List ℕ) (used size : ℕ) (whole : Bool) {n : NextFrame} → n ≡ so_far whole (next_in (take (length s - used) (drop used s))) → n ≡ Record size → next_in (drop used s) ≡ Record size
is_next s used size whole e r = far_record whole (next_in (drop used s)) size (sym (e ∙ all_of s used whole) ∙ r)

in_it : (s : List ℕ) (used size : ℕ) (whole : Bool) {n : NextFrame} → n ≡ so_far whole (next_in (take (length s - used) (drop used s))) → n ≡ Record size → used + 4 + size ≤ length s
in_it s used size whole e r = record_in s used size (is_next s used size whole e r)

pub overflow_add-end-in-loop-put : goal.overflow_add-end-in-loop-put
overflow_add-end-in-loop-put c = omega (arith, in_it c.args.s.now c.loop-put.used c.in-Record.size c.args.whole c.comes_next-next.ensures c.in-Record.is)

pub overflow_add-n : goal.overflow_add-n
overflow_add-n c = omega (arith, in_it c.args.s.now c.loop-put.used c.in-Record.size c.args.whole c.comes_next-next.ensures c.in-Record.is)

pub slice_bounds-line-end : goal.slice_bounds-line-end
slice_bounds-line-end c = omega (arith, in_it c.args.s.now c.loop-put.used c.in-Record.size c.args.whole c.comes_next-next.ensures c.in-Record.is)

pub loop-put-smaller : goal.loop-put-smaller
loop-put-smaller c = omega (arith, in_it c.args.s.now c.loop-put.used c.in-Record.size c.args.whole c.comes_next-next.ensures c.in-Record.is)

pub loop-put-preserved : goal.loop-put-preserved
loop-put-preserved c =
    let s = c.args.s.now in
    let used = c.loop-put.used in
    let size = c.in-Record.size in
    let e : used + 4 + size - (used + 4) ≡ size = omega arith in
    let p = put_as _ (ap (λ (k : ℕ). line_of (c.loop-put.n + 1) (take k (drop (used + 4) s))) e) refl refl c.line-put.ensures.put in
    gone_turn s used size (is_next s used size c.args.whole c.comes_next-next.ensures c.in-Record.is) c.loop-put.invariant p (omega arith) (omega (arith, c.line-put.ensures.upper_bound, c.loop-put-test.true))
