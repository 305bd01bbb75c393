-- Whatever sizes the reads have, what a run has written at its end is what is printed of what it read: turn by turn, whatever follows.
use Prim.Native.Nat.{ℕ, ◌+◌, ◌-◌, ◌*◌, ◌≤◌, ◌<◌}
use mathlib.Core.Path.{◌≡◌, refl, sym, ap, ◌∙◌, subst}
use mathlib.Core.Bool.{Bool, true, false, cond}
use mathlib.Core.Logic.{◌⊎◌, inl, inr}
use mathlib.Core.List.{List, [], ◌++◌, append-nil, append_assoc}
use native.Mathlib.Omega.{arith}
use lib.Dec.{leb}
use lib.ListN.{length, take, drop, length-append, length-drop, take-append-drop}
use lib.Seq.{take-take, length-take-le, drop-append-le}
use Rattle.lists.proofs.Absurd.{never}
use Rattle.blocks.specs.Fill.{is_over, is_failed, Gathers, First}
use Rattle.blocks.specs.declared.Read.{Read}
use Rattle.blocks.proofs.BlockLaws.{drop-take, gathered}
use Rattle.stream_rules.proofs.MarkLaws.{same_mark, long}
use Rattle.stream_rules.specs.Stream.{is_marked, Reports, bad_input, Prints}
use Rattle.report_rules.specs.Run.{at_hand, waiting, begun, Refilled, read_behind, Turned, added, due_of, relieved_of, Ran, Ran.starts, Ran.turns, Came}
use Rattle.report_rules.specs.declared.State.{State}
use Rattle.report_rules.proofs.TurnLaws.{grown}

-- ---- one turn

given_behind : {s r : State} {block block' : List ℕ} → Refilled s block r block' → at_hand r block' ≡ at_hand s block ++ read_behind s r block'
given_behind {s} {r} {block} {block'} f =
    let g = grown f in
    sym (take-append-drop s.have (at_hand r block'))
    ∙ ap (λ (l : List ℕ). l ++ read_behind s r block') (take-take s.have r.have block' g.grows ∙ g.kept)

added_behind : {s r : State} {block block' out out' : List ℕ} → Turned s block out r block' out' → waiting r out' ≡ waiting s out ++ added s r out'
added_behind {s} {r} {out' = out'} w = sym (take-append-drop s.put (waiting r out')) ∙ ap (λ (l : List ℕ). l ++ added s r out') w.kept

-- what is written and what waits behind it is what waited
due_first : (s : State) (out : List ℕ) → take (due_of s) out ++ waiting (relieved_of s) out ≡ waiting s out
due_first s out = go s.going (leb s.put 65280)
  where
    all : take s.put out ++ take (s.put - s.put) out ≡ take s.put out
    all = ap (λ (k : ℕ). take s.put out ++ take k out) {x = s.put - s.put} {y = 0} (omega arith) ∙ append-nil (take s.put out)

    go : (g l : Bool) → take (cond g (cond l 0 s.put) s.put) out ++ take (s.put - cond g (cond l 0 s.put) s.put) out ≡ take s.put out
    go true true = ap (λ (k : ℕ). take k out) {x = s.put - 0} {y = s.put} (omega arith)
    go true false = all
    go false l = all

-- at the end it is all
pub due_last : (s : State) → s.going ≡ false → due_of s ≡ s.put
due_last s e = ap (λ (g : Bool). cond g (cond (leb s.put 65280) 0 s.put) s.put) e

module _ {s s₁ s₂ : State} {block block₁ block₂ out out₁ : List ℕ} (f : Refilled s block s₁ block₁) (w : Turned s₁ block₁ out s₂ block₂ out₁) where
  waited : waiting s₂ out₁ ≡ waiting s out ++ added s₁ s₂ out₁
  waited = added_behind w ∙ ap (λ (k : ℕ). take k out ++ added s₁ s₂ out₁) (grown f).put

  -- what is printed of the bytes at hand behind the read is printed of those before it, with the read behind them
  before_read : (failed : Bool) (ys t : List ℕ) → Reports failed s₁.records (at_hand s₁ block₁ ++ ys) t → Reports failed s.records (at_hand s block ++ (read_behind s s₁ block₁ ++ ys)) t
  before_read failed ys t p =
      subst (λ (n : ℕ). Reports failed n (at_hand s block ++ (read_behind s s₁ block₁ ++ ys)) t) (grown f).records
      (subst (λ (l : List ℕ). Reports failed s₁.records l t) (ap (λ (l : List ℕ). l ++ ys) (given_behind f) ∙ append_assoc (at_hand s block) (read_behind s s₁ block₁) ys) p)

  regroup : (written t : List ℕ) → written ++ (waiting s out ++ (added s₁ s₂ out₁ ++ t)) ≡ written ++ take (due_of s₂) out₁ ++ (waiting (relieved_of s₂) out₁ ++ t)
  regroup written t =
      ap (λ (l : List ℕ). written ++ l)
      (sym (append_assoc (waiting s out) (added s₁ s₂ out₁) t)
      ∙ ap (λ (l : List ℕ). l ++ t) (sym (due_first s₂ out₁ ∙ waited))
      ∙ append_assoc (take (due_of s₂) out₁) (waiting (relieved_of s₂) out₁) t)
      ∙ sym (append_assoc written (take (due_of s₂) out₁) (waiting (relieved_of s₂) out₁ ++ t))

-- ---- the mark

module _ {read block : List ℕ} {r : Read} (g : Gathers read r block) (m : is_marked (take r.have block) ≡ true) where
  mark_first : 5 ≤ length read
  mark_first = long read (ap is_marked (sym (gathered g)) ∙ m)

  -- what stands behind it is at hand
  behind_mark : (block₁ ys : List ℕ) → take (r.have - 5) block₁ ≡ take (r.have - 5) (drop 5 block) → take (r.have - 5) block₁ ++ ys ≡ drop 5 (read ++ ys)
  behind_mark block₁ ys moved =
      ap (λ (l : List ℕ). l ++ ys) (moved ∙ sym (drop-take 5 r.have block) ∙ ap (drop 5) (gathered g))
      ∙ sym (drop-append-le 5 read ys mark_first)

-- ---- turn after turn

-- a run goes on from a marked stream
marked : {read written block out : List ℕ} {s : State} → Ran read written s block out → (ys : List ℕ) → is_marked (read ++ ys) ≡ true
marked (starts {read} g m moved) ys = same_mark read ys (mark_first g m) ∙ ap is_marked (sym (gathered g)) ∙ m
marked (turns {read} {block₁ = block₁} {s = s} {s₁} ran on f w) ys = ap is_marked (append_assoc read (read_behind s s₁ block₁) ys) ∙ marked ran (read_behind s s₁ block₁ ++ ys)

-- whatever follows, and whatever t is printed of the rest: what was written, what waits and t are printed of all
pub so_far : {read written block out : List ℕ} {s : State} → Ran read written s block out → s.going ≡ true → (failed : Bool) (ys t : List ℕ) → Reports failed s.records (at_hand s block ++ ys) t
    → Reports failed 0 (drop 5 (read ++ ys)) (written ++ (waiting s out ++ t))
so_far (starts {block₁ = block₁} g m moved) e failed ys t p = subst (λ (l : List ℕ). Reports failed 0 l t) (behind_mark g m block₁ ys moved) p
so_far (turns {read} {written} {block₁ = block₁} {out₁ = out₁} {s = s} {s₁} {s₂} ran on f w) e failed ys t p =
    subst (λ (l : List ℕ). Reports failed 0 (drop 5 l) (written ++ take (due_of s₂) out₁ ++ (waiting (relieved_of s₂) out₁ ++ t))) (sym (append_assoc read (read_behind s s₁ block₁) ys))
    (subst (λ (l : List ℕ). Reports failed 0 (drop 5 (read ++ (read_behind s s₁ block₁ ++ ys))) l) (regroup f w written t)
    (so_far ran on failed (read_behind s s₁ block₁ ++ ys) (added s₁ s₂ out₁ ++ t) (before_read f w failed ys (added s₁ s₂ out₁ ++ t) (w.goes e failed ys t p))))

-- at the end: where a read gave nothing, nothing follows
pub printed : {read written block out : List ℕ} {s : State} → Ran read written s block out → s.going ≡ false → (ys : List ℕ) → (is_over s.source ≡ true → ys ≡ [])
    → Reports (is_failed s.source) 0 (drop 5 (read ++ ys)) written
printed (starts g m moved) e ys none = never (cc)
printed (turns {read} {written} {block₁ = block₁} {out = out} {out₁} {s} {s₁} {s₂} ran on f w) e ys none =
    subst (λ (b : Bool). Reports b 0 (drop 5 (read ++ read_behind s s₁ block₁ ++ ys)) (written ++ take (due_of s₂) out₁)) (ap is_failed (sym w.same))
    (subst (λ (l : List ℕ). Reports (is_failed s₁.source) 0 (drop 5 l) (written ++ take (due_of s₂) out₁)) (sym (append_assoc read (read_behind s s₁ block₁) ys))
    (subst (λ (l : List ℕ). Reports (is_failed s₁.source) 0 (drop 5 (read ++ (read_behind s s₁ block₁ ++ ys))) (written ++ l)) (sym (ap (λ (k : ℕ). take k out₁) (due_last s₂ e) ∙ waited f w))
    (so_far ran on (is_failed s₁.source) (read_behind s s₁ block₁ ++ ys) (added s₁ s₂ out₁) (before_read f w (is_failed s₁.source) ys (added s₁ s₂ out₁) (w.ends e ys (λ h. none (ap is_over w.same ∙ h)))))))

-- each turn reads a byte, or uses one
pub turn_paid : {s s₁ s₂ : State} {block block₁ block₂ out out₁ : List ℕ} (k n : ℕ) → Refilled s block s₁ block₁ → Turned s₁ block₁ out s₂ block₂ out₁ → s₂.going ≡ true → s₂.have ≤ s₁.have
    → s₁.have ≤ length block₁ → k + s.have ≤ 2 * n → k + 1 + s₂.have ≤ 2 * (n + length (read_behind s s₁ block₁))
turn_paid {s} {s₁} {s₂} {block₁ = block₁} k n f w e less fits h = go (grown f).more
  where
    l : length (read_behind s s₁ block₁) ≡ s₁.have - s.have
    l = length-drop s.have (take s₁.have block₁) ∙ ap (λ (k : ℕ). k - s.have) (length-take-le s₁.have block₁ fits)

    go : ((is_over s₁.source ≡ true) ⊎ (32772 ≤ s₁.have)) ⊎ (s.have < s₁.have) → k + 1 + s₂.have ≤ 2 * (n + length (read_behind s s₁ block₁))
    go (inl q) = omega (arith, w.uses e q, (grown f).grows, l)
    go (inr q) = omega (arith, (grown f).grows, l)

-- the program is under way, after so many turns
pub record Along (turns : ℕ) (s : State) (block out : List ℕ) : Type 0 where
  pub read : List ℕ
  pub written : List ℕ
  pub ran : Ran read written s block out
  pub on : s.going ≡ true
  pub paid : turns + s.have ≤ 2 * length read

unfoldable pub along_start : {s : State} {r : Read} {block block₁ : List ℕ} (out : List ℕ) (f : First 5 r block) → is_marked (take r.have block) ≡ true → take (r.have - 5) block₁ ≡ take (r.have - 5) (drop 5 block)
    → s ≡ begun (r.have - 5) → Along 0 s block₁ out
along_start {r = r} {block} {block₁} out f m moved e =
    let l : length f.read ≡ r.have = ap length (sym (gathered f.gathers)) ∙ length-take-le r.have block f.within in record {
      read = f.read;
      written = [];
      ran = subst (λ (q : State). Ran f.read [] q block₁ out) (sym e) (starts f.gathers m moved);
      on = ap (λ (q : State). q.going) e;
      paid = omega (arith, ap (λ (q : State). q.have) e, l);
    }

module _ {s s₁ s₂ r : State} {block block₁ block₂ out out₁ : List ℕ} (n : ℕ) (a : Along n s block out) (f : Refilled s block s₁ block₁) (w : Turned s₁ block₁ out s₂ block₂ out₁) (e : r ≡ relieved_of s₂) where
  unfoldable pub along_on : r.going ≡ true → s₂.have ≤ s₁.have → s₁.have ≤ length block₁ → Along (n + 1) r block₂ out₁
  along_on g less fits =
      let h : s₂.going ≡ true = sym (ap (λ (q : State). q.going) e) ∙ g in record {
        read = a.read ++ read_behind s s₁ block₁;
        written = a.written ++ take (due_of s₂) out₁;
        ran = subst (λ (q : State). Ran (a.read ++ read_behind s s₁ block₁) (a.written ++ take (due_of s₂) out₁) q block₂ out₁) (sym e) (turns a.ran a.on f w);
        on = g;
        paid = simp length-append (omega (arith, ap (λ (q : State). q.have) e, turn_paid n (length a.read) f w h less fits a.paid));
      }

  unfoldable pub along_off : r.going ≡ false → Came r block₂ out₁
  along_off g = record {
    read = a.read ++ read_behind s s₁ block₁;
    written = a.written ++ take (due_of s₂) out₁;
    ran = subst (λ (q : State). Ran (a.read ++ read_behind s s₁ block₁) (a.written ++ take (due_of s₂) out₁) q block₂ out₁) (sym e) (turns a.ran a.on f w);
    last = λ h. never (cc);
  }

unfoldable pub along_last : {s : State} {block out : List ℕ} (n : ℕ) → 140737488355328 ≤ n → Along n s block out → Came s block out
along_last n h a = record { read = a.read; written = a.written; ran = a.ran; last = λ e. omega (arith, a.paid) }

-- ---- a whole stream

-- What the program prints of a stream that begins with its mark: of the bytes that were read, and of what follows them, which is nothing where a read gave nothing.
pub prints : {read written block out : List ℕ} {s : State} (ys : List ℕ) → Ran read written s block out → s.going ≡ false → is_failed s.source ≡ false → (is_over s.source ≡ true → ys ≡ []) → Prints (read ++ ys) written
prints {read} {written} ys ran e ok none =
    let p : Reports false 0 (drop 5 (read ++ ys)) written = subst (λ (b : Bool). Reports b 0 (drop 5 (read ++ ys)) written) ok (printed ran e ys none) in
    rw (marked ran ys) p

-- And of another stream.
pub refuses : {r : Read} {block : List ℕ} (ys : List ℕ) (f : First 5 r block) → is_marked (take r.have block) ≡ false → (is_over r.source ≡ true → ys ≡ []) → Prints (f.read ++ ys) bad_input
refuses {r} {block} ys f m none = rw is refl
  where
    same : is_marked f.read ≡ false
    same = ap is_marked (sym (gathered f.gathers)) ∙ m

    size : length f.read ≡ r.have
    size = ap length (sym (gathered f.gathers)) ∙ length-take-le r.have block f.within

    go : (b : Bool) → is_over r.source ≡ b → is_marked (f.read ++ ys) ≡ is_marked f.read
    go true e = ap is_marked (ap (λ (l : List ℕ). f.read ++ l) (none e) ∙ append-nil f.read)
    go false e = same_mark f.read ys (omega (arith, size, f.enough e))

    is : is_marked (f.read ++ ys) ≡ false
    is = go (is_over r.source) refl ∙ same
