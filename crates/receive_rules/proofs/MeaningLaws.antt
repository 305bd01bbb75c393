-- A record is accepted exactly where it is the one that is written, with its bin or with 0; a part is named exactly where it is the first that differs.
use Prim.Native.Nat.{ℕ, suc, ◌≤◌, ◌<◌}
use Rattle.std.specs.Prelude.{None, Option, Some, Ok, Err}
use Rattle.answers.specs.Answer.{Answer}
use mathlib.Core.Path.{◌≡◌, refl, sym, ap, subst, ◌∙◌}
use mathlib.Core.Logic.{◌⊎◌, inl, inr}
use mathlib.Core.Bool.{Bool, true, false, cond}
use mathlib.Core.List.{List}
use native.Mathlib.Omega.{arith}
use borrow.Author.Tests.{ltb-false}
use lib.Dec.{ltb}
use lib.ListN.{length}
use Rattle.lists.proofs.Absurd.{never, false_true}
use Rattle.sam.specs.Record.{is_short, tags_start}
use Rattle.sam.specs.Parts.{header_part, name_part, ops_part, bases_part, quals_part, tags_part}
use Rattle.sam.proofs.PartLaws.{parts_whole}
use Rattle.answers.specs.declared.Refusal.{Refusal}
use Rattle.answers.specs.declared.Refusal.TheVariants.{ReceivedShort, ReceivedCut}
use Rattle.record_rules.specs.Written.{Change, new_header, new_name, new_ops, new_bases, new_quals, new_tags, new_record}
use Rattle.record_rules.proofs.ReadLaws.{Holdable, header_back, name_back, ops_part_back, bases_part_back, quals_back, tags_back, whole_back}
use Rattle.receive_rules.specs.Receiving.{same, binless, same_header, unless, compared, weighed, part_number}
use Rattle.receive_rules.specs.Meaning.{AsWritten, AsDue, First}
use Rattle.receive_rules.specs.declared.Part.{Part}
use Rattle.receive_rules.specs.declared.Part.TheVariants.{Header, Name, Ops, Bases, Qualities, Tags}
use Rattle.receive_rules.proofs.SameLaws.{same_equal, equal_same}
use Rattle.receive_rules.proofs.HeaderLaws.{or-true, or_right}
use Rattle.receive_rules.proofs.AnswerLaws.{received_whole}

-- ---- six tests, one after the other

-- the answer of a test for each part
abbrev chain : (Part → Bool) → Answer (Option Part)
chain t =
    unless (t Header) Header (unless (t Name) Name (unless (t Ops) Ops (unless (t Bases) Bases (unless (t Qualities) Qualities (unless (t Tags) Tags (Ok None))))))

module _ (ok : Bool) (h : Part) (next : Answer (Option Part)) where
  passes : unless ok h next ≡ (Ok None) → (ok ≡ true) × (next ≡ (Ok None))
  passes e = go ok refl e
    where
      go : (u : Bool) → ok ≡ u → unless u h next ≡ (Ok None) → (ok ≡ true) × (next ≡ (Ok None))
      go true q e = (q, e)
      go false q e = never (cc)

  -- a part of a larger number is named
  later : (p : Part) → unless ok h next ≡ (Ok (Some p)) → part_number h < part_number p → (ok ≡ true) × (next ≡ (Ok (Some p)))
  later p e k = go ok refl e
    where
      go : (u : Bool) → ok ≡ u → unless u h next ≡ (Ok (Some p)) → (ok ≡ true) × (next ≡ (Ok (Some p)))
      go true q e = (q, e)
      go false q e = let z : h ≡ p = cc in let n : part_number h ≡ part_number p = ap part_number z in absurd (omega arith)

-- r names no part of a number below n
abbrev From : ℕ → Answer (Option Part) → Type 0
From n r = (p : Part) → r ≡ (Ok (Some p)) → n ≤ part_number p

none_named : (n : ℕ) → From n (Ok None)
none_named n p e = never (cc)

from_part : (ok : Bool) (h : Part) (next : Answer (Option Part)) → From (suc (part_number h)) next → From (part_number h) (unless ok h next)
from_part true h next f p e = let n = f p e in omega arith
from_part false h next f p e = let z : h ≡ p = cc in let n : part_number h ≡ part_number p = ap part_number z in omega arith

-- the part itself is named
here : (ok : Bool) (h : Part) (next : Answer (Option Part)) → From (suc (part_number h)) next → unless ok h next ≡ (Ok (Some h)) → ok ≡ false
here true h next f e = let n = f h e in absurd (omega arith)
here false h next f e = refl

module _ (t : Part → Bool) where
  abbrev r₆ : Answer (Option Part)
  r₆ = unless (t Tags) Tags (Ok None)

  abbrev r₅ : Answer (Option Part)
  r₅ = unless (t Qualities) Qualities r₆

  abbrev r₄ : Answer (Option Part)
  r₄ = unless (t Bases) Bases r₅

  abbrev r₃ : Answer (Option Part)
  r₃ = unless (t Ops) Ops r₄

  abbrev r₂ : Answer (Option Part)
  r₂ = unless (t Name) Name r₃

  f₆ : From 6 r₆
  f₆ = from_part (t Tags) Tags (Ok None) (none_named 7)

  f₅ : From 5 r₅
  f₅ = from_part (t Qualities) Qualities r₆ f₆

  f₄ : From 4 r₄
  f₄ = from_part (t Bases) Bases r₅ f₅

  f₃ : From 3 r₃
  f₃ = from_part (t Ops) Ops r₄ f₄

  f₂ : From 2 r₂
  f₂ = from_part (t Name) Name r₃ f₃

  pub all_pass : chain t ≡ (Ok None) → (q : Part) → t q ≡ true
  all_pass e =
      let h = passes (t Header) Header r₂ e in
      let n = passes (t Name) Name r₃ h.1 in
      let o = passes (t Ops) Ops r₄ n.1 in
      let b = passes (t Bases) Bases r₅ o.1 in
      let q = passes (t Qualities) Qualities r₆ b.1 in
      let s = passes (t Tags) Tags (Ok None) q.1 in
      each h.0 n.0 o.0 b.0 q.0 s.0
    where
      each : t Header ≡ true → t Name ≡ true → t Ops ≡ true → t Bases ≡ true → t Qualities ≡ true → t Tags ≡ true → (q : Part) → t q ≡ true
      each h n o b q s Header = h
      each h n o b q s Name = n
      each h n o b q s Ops = o
      each h n o b q s Bases = b
      each h n o b q s Qualities = q
      each h n o b q s Tags = s

  pub pass_all : ((q : Part) → t q ≡ true) → chain t ≡ (Ok None)
  pass_all a = simp (a Header, a Name, a Ops, a Bases, a Qualities, a Tags)

  -- those before the named part pass, and it doesn't
  pub before_named : (p : Part) → chain t ≡ (Ok (Some p)) → (q : Part) → part_number q < part_number p → t q ≡ true
  before_named p e Header k = (later (t Header) Header r₂ p e k).0
  before_named p e Name k = (later (t Name) Name r₃ p (later (t Header) Header r₂ p e (omega arith)).1 k).0
  before_named p e Ops k =
      (later (t Ops) Ops r₄ p (later (t Name) Name r₃ p (later (t Header) Header r₂ p e (omega arith)).1 (omega arith)).1 k).0
  before_named p e Bases k =
      (later (t Bases) Bases r₅ p (later (t Ops) Ops r₄ p (later (t Name) Name r₃ p (later (t Header) Header r₂ p e (omega arith)).1 (omega arith)).1 (omega arith)).1 k).0
  before_named p e Qualities k =
      (later (t Qualities) Qualities r₆ p
      (later (t Bases) Bases r₅ p
      (later (t Ops) Ops r₄ p (later (t Name) Name r₃ p (later (t Header) Header r₂ p e (omega arith)).1 (omega arith)).1 (omega arith)).1 (omega arith)).1
      k).0
  before_named p e Tags k =
      (later (t Tags) Tags (Ok None) p
      (later (t Qualities) Qualities r₆ p
      (later (t Bases) Bases r₅ p
      (later (t Ops) Ops r₄ p (later (t Name) Name r₃ p (later (t Header) Header r₂ p e (omega arith)).1 (omega arith)).1 (omega arith)).1 (omega arith)).1
      (omega arith)).1
      k).0

  pub named_fails : (p : Part) → chain t ≡ (Ok (Some p)) → t p ≡ false
  named_fails Header e = here (t Header) Header r₂ f₂ e
  named_fails Name e = here (t Name) Name r₃ f₃ (later (t Header) Header r₂ Name e (omega arith)).1
  named_fails Ops e = here (t Ops) Ops r₄ f₄ (later (t Name) Name r₃ Ops (later (t Header) Header r₂ Ops e (omega arith)).1 (omega arith)).1
  named_fails Bases e =
      here (t Bases) Bases r₅ f₅
      (later (t Ops) Ops r₄ Bases (later (t Name) Name r₃ Bases (later (t Header) Header r₂ Bases e (omega arith)).1 (omega arith)).1 (omega arith)).1
  named_fails Qualities e =
      here (t Qualities) Qualities r₆ f₆
      (later (t Bases) Bases r₅ Qualities
      (later (t Ops) Ops r₄ Qualities (later (t Name) Name r₃ Qualities (later (t Header) Header r₂ Qualities e (omega arith)).1 (omega arith)).1 (omega arith)).1 (omega arith)
      ).1
  named_fails Tags e =
      here (t Tags) Tags (Ok None) (none_named 7)
      (later (t Qualities) Qualities r₆ Tags
      (later (t Bases) Bases r₅ Tags
      (later (t Ops) Ops r₄ Tags (later (t Name) Name r₃ Tags (later (t Header) Header r₂ Tags e (omega arith)).1 (omega arith)).1 (omega arith)).1 (omega arith)).1
      (omega arith)).1

  -- and the other way round
  pub first_named : (p : Part) → ((q : Part) → part_number q < part_number p → t q ≡ true) → t p ≡ false → chain t ≡ (Ok (Some p))
  first_named Header a f = simp f
  first_named Name a f = simp (a Header (omega arith), f)
  first_named Ops a f = simp (a Header (omega arith), a Name (omega arith), f)
  first_named Bases a f = simp (a Header (omega arith), a Name (omega arith), a Ops (omega arith), f)
  first_named Qualities a f = simp (a Header (omega arith), a Name (omega arith), a Ops (omega arith), a Bases (omega arith), f)
  first_named Tags a f = simp (a Header (omega arith), a Name (omega arith), a Ops (omega arith), a Bases (omega arith), a Qualities (omega arith), f)

-- ---- the tests of a received record

abbrev test : List ℕ → List ℕ → Change → Part → Bool
test g b c Header = same_header g b c
test g b c Name = same (name_part g) (new_name b c)
test g b c Ops = same (ops_part g) (new_ops b c)
test g b c Bases = same (bases_part g) (new_bases b c)
test g b c Qualities = same (quals_part g) (new_quals b c)
test g b c Tags = same (tags_part g) (new_tags b c)

module _ (g b : List ℕ) (c : Change) where
  compared_chain : compared g b c ≡ chain (test g b c)
  unfolding compared
  compared_chain = refl

  due : (q : Part) → test g b c q ≡ true → AsDue q g b c
  due Header e = either (or-true (same (header_part g) (new_header b c)) (same (header_part g) (new_header b (binless c))) e)
    where
      either : (same (header_part g) (new_header b c) ≡ true) ⊎ (same (header_part g) (new_header b (binless c)) ≡ true) → AsDue Header g b c
      either (inl s) = inl (same_equal (header_part g) (new_header b c) s)
      either (inr s) = inr (same_equal (header_part g) (new_header b (binless c)) s)
  due Name e = same_equal (name_part g) (new_name b c) e
  due Ops e = same_equal (ops_part g) (new_ops b c) e
  due Bases e = same_equal (bases_part g) (new_bases b c) e
  due Qualities e = same_equal (quals_part g) (new_quals b c) e
  due Tags e = same_equal (tags_part g) (new_tags b c) e

  tested : (q : Part) → AsDue q g b c → test g b c q ≡ true
  tested Header (inl e) = simp (equal_same (header_part g) (new_header b c) e)
  tested Header (inr e) = simp (equal_same (header_part g) (new_header b (binless c)) e) (or_right (same (header_part g) (new_header b c)))
  tested Name e = equal_same (name_part g) (new_name b c) e
  tested Ops e = equal_same (ops_part g) (new_ops b c) e
  tested Bases e = equal_same (bases_part g) (new_bases b c) e
  tested Qualities e = equal_same (quals_part g) (new_quals b c) e
  tested Tags e = equal_same (tags_part g) (new_tags b c) e

  not_due : (q : Part) → (AsDue q g b c → ⊥) → test g b c q ≡ false
  not_due q n = go (test g b c q) refl
    where
      go : (u : Bool) → test g b c q ≡ u → u ≡ false
      go true e = absurd (n (due q e))
      go false e = refl

  -- all parts, one after the other, are the record
  joined : (d : Change) → header_part g ≡ new_header b d → ((q : Part) → test g b c q ≡ true) → new_name b d ≡ new_name b c → new_ops b d ≡ new_ops b c
      → new_bases b d ≡ new_bases b c → new_quals b d ≡ new_quals b c → new_tags b d ≡ new_tags b c → g ≡ new_record b d
  unfolding new_record
  joined d h a n o p q s =
      sym (parts_whole g)
      ∙ rw (h, due Name (a Name), due Ops (a Ops), due Bases (a Bases), due Qualities (a Qualities), due Tags (a Tags), n, o, p, q, s) refl

  pub accepted_written : compared g b c ≡ (Ok None) → AsWritten g b c
  accepted_written e =
      let a = all_pass (test g b c) (sym compared_chain ∙ e) in
      either a (due Header (a Header))
    where
      either : ((q : Part) → test g b c q ≡ true) → AsDue Header g b c → AsWritten g b c
      either a (inl h) = inl (joined c h a refl refl refl refl refl)
      either a (inr h) = inr (joined (binless c) h a refl refl refl refl refl)

  pub due_accepted : ((q : Part) → AsDue q g b c) → compared g b c ≡ (Ok None)
  due_accepted a = compared_chain ∙ pass_all (test g b c) (λ q. tested q (a q))

  pub named_first : (p : Part) → compared g b c ≡ (Ok (Some p)) → First p g b c
  named_first p e =
      let k = sym compared_chain ∙ e in
      record {
        differs = λ h. false_true (sym (named_fails (test g b c) p k) ∙ tested p h);
        before = λ q n. due q (before_named (test g b c) p k q n);
      }

  pub first_is_named : (p : Part) → First p g b c → compared g b c ≡ (Ok (Some p))
  first_is_named p F = compared_chain ∙ first_named (test g b c) p (λ q n. tested q (F.before q n)) (not_due p F.differs)

-- what is written has its parts as they are due, with its bin or with 0
module _ (g b : List ℕ) (c : Change) where
  due_of : (d : Change) → Holdable b d → g ≡ new_record b d → AsDue Header g b c → new_ops b d ≡ new_ops b c → new_bases b d ≡ new_bases b c → new_quals b d ≡ new_quals b c
      → (q : Part) → AsDue q g b c
  due_of d H e h o p r Header = h
  due_of d H e h o p r Name = ap name_part e ∙ name_back b d H
  due_of d H e h o p r Ops = ap ops_part e ∙ ops_part_back b d H ∙ o
  due_of d H e h o p r Bases = ap bases_part e ∙ bases_part_back b d H ∙ p
  due_of d H e h o p r Qualities = ap quals_part e ∙ quals_back b d H ∙ r
  due_of d H e h o p r Tags = ap tags_part e ∙ tags_back b d H

  pub written_due : Holdable b c → AsWritten g b c → ((q : Part) → AsDue q g b c) × (tags_start g ≤ length g)
  written_due H (inl e) = (due_of c H e (inl (ap header_part e ∙ header_back b c H)) refl refl refl, subst (λ (l : List ℕ). tags_start l ≤ length l) (sym e) (whole_back b c H))
  written_due H (inr e) =
      let d = binless c in
      let I : Holdable b d = record {
        bytes = H.bytes;
        whole = H.whole;
        within = H.within;
        few = H.few;
        ops_small = H.ops_small;
        place_fits = H.place_fits;
        bin_small = omega arith;
      } in
      (due_of d I e (inr (ap header_part e ∙ header_back b d I)) refl refl refl, subst (λ (l : List ℕ). tags_start l ≤ length l) (sym e) (whole_back b d I))

-- ---- with the refusals of the received record before

past : (t : Bool) (why : Refusal) (x y : Answer (Option Part)) → (Err why ≡ y → ⊥) → cond t (Err why) x ≡ y → (t ≡ false) × (x ≡ y)
past true why x y n e = absurd (n e)
past false why x y n e = (refl, e)

-- an answer that is no refusal comes of comparing a whole record
pub answered_whole : (g b : List ℕ) (c : Change) (y : Answer (Option Part)) → ((why : Refusal) → Err why ≡ y → ⊥) → weighed g b c ≡ y → (tags_start g ≤ length g) × (compared g b c ≡ y)
unfolding weighed
answered_whole g b c y n e =
    let p = past (is_short g) ReceivedShort _ y (n ReceivedShort) e in
    let q = past (ltb (length g) (tags_start g)) ReceivedCut (compared g b c) y (n ReceivedCut) p.1 in
    (ltb-false (length g) (tags_start g) q.0, q.1)

pub whole_answered : (g b : List ℕ) (c : Change) → tags_start g ≤ length g → weighed g b c ≡ compared g b c
whole_answered g b c h = sym (received_whole g b c (omega arith) h)
