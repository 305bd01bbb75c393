-- The answers of the two calls: what a sent record is refused for, and what comes of one that is not; and what the writing calls write is accepted.
use Prim.Native.Nat.{ℕ, ◌≤◌}
use Rattle.std.specs.Prelude.{None, Option, Some, Ok, Err}
use Rattle.answers.specs.Answer.{Answer}
use mathlib.Core.Path.{◌≡◌, sym, ap, ◌∙◌}
use mathlib.Core.Logic.{inl, inr}
use mathlib.Core.Bool.{Bool}
use mathlib.Core.List.{List, [], ◌∷◌}
use native.Mathlib.Omega.{arith}
use lib.ListN.{length}
use Rattle.lists.specs.Lists.{splice}
use Rattle.lists.proofs.Absurd.{never}
use Rattle.sam.specs.Record.{tags_start}
use Rattle.answers.specs.declared.Refusal.{Refusal}
use Rattle.record_rules.specs.Written.{Change}
use Rattle.record_rules.specs.Clipping.{Fate, Refuses, Becomes, clipped_fate}
use Rattle.record_rules.specs.Reading.{Bytes}
use Rattle.record_rules.proofs.FateLaws.{passed}
use Rattle.record_rules.proofs.BackLaws.{holdable}
use Rattle.record_rules.proofs.GiveLaws.{Given}
use Rattle.receive_rules.specs.Receiving.{weighed, received_as}
use Rattle.receive_rules.specs.Meaning.{AsWritten, First}
use Rattle.receive_rules.specs.declared.Part.{Part}
use Rattle.receive_rules.proofs.HeaderLaws.{bin_cleared}
use Rattle.receive_rules.proofs.MeaningLaws.{accepted_written, due_accepted, named_first, first_is_named, written_due, answered_whole, whole_answered}

-- a fate that is known
module _ (g b : List ℕ) {f : Fate} where
  pub becomes_is : {c : Change} → f ≡ Becomes c → received_as g b f ≡ weighed g b c
  unfolding received_as
  becomes_is e = ap (received_as g b) e

  pub refuses_is : {r : Refusal} → f ≡ Refuses r → received_as g b f ≡ Err r
  unfolding received_as
  refuses_is e = ap (received_as g b) e

-- how many ops a change has that is not refused
pub few_ops : (b : List ℕ) (amount : ℕ) (start : Bool) (c : Change) → clipped_fate b amount start ≡ Becomes c → length c.ops ≤ 65535
few_ops b amount start c e = let P = passed b amount start c e in let l = ap length P.ops_is in omega (arith, P.few)

refused_accepted : (why : Refusal) → ◌≡◌ {A = Answer (Option Part)} (Err why) (Ok None) → ⊥
refused_accepted why e = never (cc)

refused_differs : (p : Part) (why : Refusal) → Err why ≡ (Ok (Some p)) → ⊥
refused_differs p why e = never (cc)

module _ (b : List ℕ) (amount : ℕ) (start : Bool) (g : List ℕ) (c : Change) (e : clipped_fate b amount start ≡ Becomes c) where
  pub accepts_only : received_as g b (clipped_fate b amount start) ≡ (Ok None) → AsWritten g b c
  accepts_only h = accepted_written g b c (answered_whole g b c (Ok None) refused_accepted (sym (becomes_is g b e) ∙ h)).1

  pub accepts_all : Bytes b → AsWritten g b c → received_as g b (clipped_fate b amount start) ≡ (Ok None)
  accepts_all w a =
      let p = written_due g b c (holdable b amount start c w (passed b amount start c e)) a in
      becomes_is g b e ∙ whole_answered g b c p.1 ∙ due_accepted g b c p.0

  module _ (p : Part) where
    pub names_first : received_as g b (clipped_fate b amount start) ≡ (Ok (Some p)) → (tags_start g ≤ length g) × First p g b c
    names_first h = let a = answered_whole g b c (Ok (Some p)) (refused_differs p) (sym (becomes_is g b e) ∙ h) in (a.0, named_first g b c p a.1)

    pub first_named : tags_start g ≤ length g → First p g b c → received_as g b (clipped_fate b amount start) ≡ (Ok (Some p))
    first_named h F = becomes_is g b e ∙ whole_answered g b c h ∙ first_is_named g b c p F

-- what the writing calls write
module _ (b : List ℕ) (amount : ℕ) (start : Bool) (w : Bytes b) (new : List ℕ) (count : ℕ) (G : Given b (clipped_fate b amount start) new count) where
  pub given_accepted : received_as new b (clipped_fate b amount start) ≡ (Ok None)
  given_accepted = accepts_all b amount start new G.change G.fate_is w (inl (sym G.record_is))

  -- and with its bin 0
  pub cleared_accepted : received_as (splice new 10 (0 ∷ 0 ∷ [])) b (clipped_fate b amount start) ≡ (Ok None)
  cleared_accepted =
      let P = passed b amount start G.change G.fate_is in
      accepts_all b amount start (splice new 10 (0 ∷ 0 ∷ [])) G.change G.fate_is w
      (inr (ap (λ (l : List ℕ). splice l 10 (0 ∷ 0 ∷ [])) (sym G.record_is) ∙ bin_cleared b G.change P.long))
