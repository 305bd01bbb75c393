-- The reader's way into lent memory, as its inner functions go; no public contract cites it.
use Rattle.std.specs.Prelude.{ℕ, ◌+◌, ◌-◌, ◌*◌, ◌≤◌, ◌<◌, ◌≡◌, Bool, true, false, ◌&&◌, List, length, take, drop, None, Option, Some}
use Rattle.std.proofs.lemmas.List.Edits.{sets}
use Rattle.lists.specs.Lists.{splice}
use Rattle.text_rules.specs.Text.{is_row, text_ops}
use Rattle.text_rules.specs.Strict.{strict}
use Rattle.validity.specs.InnerStages.{stage_after, accept_of}
use Rattle.validity.specs.declared.Stage.{Stage}
use Rattle.read_text.specs.declared.Reached.{Reached}

-- from stage p at place i of the text s, with n ops of it in d, the reader came to stage q at place j, with m ops of it in e: what is left there is what was left here
pub record Onward (s : List ℕ) (p : Stage) (n i : ℕ) (d : List ℕ) (q : Stage) (m j : ℕ) (e : List ℕ) : Type 0 where
  pub ahead : i ≤ j
  pub inside : j ≤ length s
  pub few : m * 2 + i ≤ n * 2 + j
  pub room : length e ≡ length d
  pub row : is_row (drop i s) ≡ is_row (drop j s)
  pub number : n + length (text_ops (drop i s)) ≡ m + length (text_ops (drop j s))
  pub stage : stage_after p (text_ops (drop i s)) ≡ stage_after q (text_ops (drop j s))
  pub stores : sets d n (take (length d - n) (text_ops (drop i s))) ≡ sets e m (take (length e - m) (text_ops (drop j s)))

-- whether what is left at place i completes a valid mapped CIGAR
abbrev pub taken_from : List ℕ → Stage → ℕ → Bool
taken_from s p i = is_row (drop i s) && accept_of (stage_after p (text_ops (drop i s)))

abbrev pub Stretched : List ℕ → Reached → List ℕ → Option Reached → List ℕ → Type 0
Stretched s t d (Some u) e = Onward s t.stage t.n t.at d u.stage u.n u.at e × (t.at < length s → t.at < u.at)
Stretched s t d None e = taken_from s t.stage t.at ≡ false

-- the reader told the text's ops, and what of them there was room for is in e; or that there are none
abbrev pub ReadTo : List ℕ → List ℕ → Option ℕ → List ℕ → Type 0
ReadTo s d (Some n) e = (strict s ≡ true) × (length (text_ops s) ≡ n) × (n * 2 ≤ length s) × (e ≡ splice d 0 (take (length d) (text_ops s)))
ReadTo s d None e = strict s ≡ false
