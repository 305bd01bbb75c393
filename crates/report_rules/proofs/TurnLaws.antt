-- What the calls of one turn promise comes to a turn.
use Prim.Native.Nat.{ℕ, ◌-◌, ◌≤◌, ◌<◌}
use mathlib.Core.Path.{◌≡◌, refl, sym, ap, ◌∙◌, subst}
use mathlib.Core.Bool.{true, false}
use mathlib.Core.Logic.{◌⊎◌, inl, inr, ⊎_elim}
use mathlib.Core.List.{List, ◌++◌}
use native.Mathlib.Omega.{arith}
use lib.ListN.{length, take, drop, length-take}
use lib.Seq.{take-take, take-append-le, drop-append-le, length-take-le}
use Rattle.lists.proofs.Absurd.{never}
use Rattle.blocks.specs.Fill.{is_over, is_failed}
use Rattle.blocks.proofs.BlockLaws.{drop-take, fill_more, fill_some}
use Rattle.put_text.specs.Puts.{Put}
use Rattle.stream_rules.specs.Stream.{closing, last_word, Reports}
use Rattle.stream_rules.specs.Inner.{Went, goes_on}
use Rattle.stream_rules.specs.declared.NextFrame.{NextFrame}
use Rattle.stream_rules.specs.declared.Block.{Block}
use Rattle.stream_rules.proofs.FrameLaws.{ends_there, went_on}
use Rattle.report_rules.specs.Run.{at_hand, Enough, Refilled, Refilled.enough, Refilled.reads, Turned}
use Rattle.report_rules.specs.declared.State.{State}

-- ---- a read

-- what a turn needs of it
pub record Grown (s : State) (block : List ℕ) (r : State) (block' : List ℕ) : Type 0 where
  pub kept : take s.have block' ≡ at_hand s block
  pub grows : s.have ≤ r.have
  pub records : r.records ≡ s.records
  pub put : r.put ≡ s.put
  pub more : Enough r ⊎ (s.have < r.have)

pub grown : {s r : State} {block block' : List ℕ} → Refilled s block r block' → Grown s block r block'
grown (enough e) = record { kept = refl; grows = omega arith; records = refl; put = refl; more = inl e }
grown (reads low f) = record {
  kept = f.kept;
  grows = fill_more f;
  records = refl;
  put = refl;
  more = ⊎_elim (λ e. inl (inl e)) (λ h. inr h) (fill_some f);
}

-- ---- a turn

module _ (s : State) (block out : List ℕ) (w : Block) (out₁ : List ℕ) (went : Went (take s.have block) (is_over s.source) s.records out s.put w out₁) (fits : s.have ≤ length block) where
  pub within : w.used ≤ s.have
  within = omega (arith, simp length-take at went.gone.within)

  pub turned_on : (block₁ : List ℕ) → s.put ≤ 65280 → goes_on w.next ≡ true → take (s.have - w.used) block₁ ≡ take (s.have - w.used) (drop w.used block)
      → Turned s block out (record { have = s.have - w.used; source = s.source; records = w.records; put = w.put; going = true }) block₁ out₁
  turned_on block₁ low on moved =
      let g = went.gone in record {
        kept = take-take s.put w.put out₁ g.from ∙ g.kept;
        same = refl;
        uses = λ e k. omega (arith, within, went_on went low on (at-hand k));
        goes = λ e failed ys t p. g.lines failed ys t (subst (λ (l : List ℕ). Reports failed w.records (l ++ ys) t) (moved ∙ sym (drop-take w.used s.have block)) p);
        ends = λ e. never (cc);
      }
    where
      at-hand : Enough s → (is_over s.source ≡ true) ⊎ (32772 ≤ length (take s.have block))
      at-hand (inl e) = inl e
      at-hand (inr k) = inr (omega (arith, length-take-le s.have block fits))

  pub turned_off : (end : ℕ) (out₂ : List ℕ) → 131072 ≤ length out → goes_on w.next ≡ false → Put out₁ w.put (closing (last_word (is_failed s.source) w.next) w.records) end out₂
      → Turned s block out (record { have = s.have; source = s.source; records = w.records; put = end; going = false }) block out₂
  turned_off end out₂ room off p =
      let g = went.gone in
      let last = closing (last_word (is_failed s.source) w.next) w.records in
      let n : length (take w.put out₁) ≡ w.put = length-take-le w.put out₁ (omega (arith, g.upto, g.same)) in
      let b = g.from in
      let m : take end out₂ ≡ take w.put out₁ ++ last = ap (λ (k : ℕ). take k out₂) p.next ∙ p.head in record {
        kept = ap (take s.put) m ∙ take-append-le s.put (take w.put out₁) last (omega arith) ∙ take-take s.put w.put out₁ b ∙ g.kept;
        same = refl;
        uses = λ e. never (cc);
        goes = λ e. never (cc);
        ends = λ e ys none.
            subst (λ (l : List ℕ). Reports (is_failed s.source) s.records (take s.have block ++ ys) l)
            (sym (ap (drop s.put) m ∙ drop-append-le s.put (take w.put out₁) last (omega arith)))
            (g.lines (is_failed s.source) ys last
            (subst (λ (x : NextFrame). Reports (is_failed s.source) w.records (drop w.used (take s.have block) ++ ys) (closing (last_word (is_failed s.source) x) w.records)) (sym went.next)
            (ends_there (is_failed s.source) (is_over s.source) w.records (drop w.used (take s.have block)) ys none (sym (ap goes_on went.next) ∙ off))));
      }
