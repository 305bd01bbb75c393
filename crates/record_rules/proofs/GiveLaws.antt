-- A call that answers has written the record that its change is for; and such a change is answered into every memory that has room.
use Prim.Native.Nat.{ℕ, ◌≤◌}
use Rattle.std.specs.Prelude.{Err, Ok}
use Rattle.answers.specs.Answer.{Answer}
use mathlib.Core.Path.{◌≡◌, refl, sym, ap, subst⁻¹, ◌∙◌}
use mathlib.Core.Bool.{Bool, true, false, cond}
use mathlib.Core.List.{List}
use borrow.Author.Tests.{le-ltb}
use lib.Dec.{ltb}
use lib.ListN.{length, take}
use native.Mathlib.Omega.{arith}
use Rattle.lists.specs.Lists.{splice}
use Rattle.answers.specs.Settled.{Outcome, keeps}
use Rattle.answers.specs.declared.Refusal.TheVariants.{NoRoom}
use Rattle.clip_rules.specs.Answer.{without_count, uncounted}
use Rattle.clip_rules.specs.declared.Clipped.{Clipped}
use Rattle.clip_laws.specs.Demand3.{StartGives, EndGives}
use Rattle.clip_laws.proofs.Demand3.{take_written}
use Rattle.record_rules.specs.Written.{Change, new_record}
use Rattle.record_rules.specs.Clipping.{Fate, Refuses, Becomes, clipped_fate, put_into, written, clipped_record_start, clipped_record_end}

-- ---- from a change

put_room : (new : List ℕ) (count : ℕ) (d : List ℕ) → length new ≤ length d → put_into new count d ≡ record { answer = Ok (record { written = length new; lost = count }); left = splice d 0 new }
unfolding put_into
put_room new count d h = simp (le-ltb (length d) (length new) h)

written_room : (b : List ℕ) (f : Fate) (c : Change) → f ≡ Becomes c → (d : List ℕ) → length (new_record b c) ≤ length d
    → written b f d ≡ record { answer = Ok (record { written = length (new_record b c); lost = c.count }); left = splice d 0 (new_record b c) }
unfolding written
written_room b f c e d h = ap (λ (g : Fate). written b g d) e ∙ put_room (new_record b c) c.count d h

pub start_gives : (b : List ℕ) (a : ℕ) (c : Change) → clipped_fate b a true ≡ Becomes c → StartGives clipped_record_start b a (new_record b c) c.count
start_gives b a c e d h = written_room b (clipped_fate b a true) c e d h

pub end_gives : (b : List ℕ) (a : ℕ) (c : Change) → clipped_fate b a false ≡ Becomes c → EndGives clipped_record_end b a (new_record b c)
end_gives b a c e d h = ap without_count (written_room b (clipped_fate b a false) c e d h)

-- ---- to a change

-- the fate of an answer, and what was written
pub record Given (b : List ℕ) (f : Fate) (new : List ℕ) (count : ℕ) : Type 0 where
  pub change : Change
  pub fate_is : f ≡ Becomes change
  pub record_is : new_record b change ≡ new
  pub count-is : change.count ≡ count

abbrev Answers : Answer Clipped → Type 0
Answers (Ok got) = Unit {0}
Answers (Err r) = ⊥

abbrev size_in : Answer Clipped → ℕ
size_in (Ok got) = got.written
size_in (Err r) = 0

abbrev count_in : Answer Clipped → ℕ
count_in (Ok got) = got.lost
count_in (Err r) = 0

-- an answer that was given into the very record that it wrote
module _ (b new : List ℕ) (count : ℕ) where
  put_given : (c : Change) (d : List ℕ) → length new ≡ length d → put_into (new_record b c) c.count d ≡ record { answer = Ok (record { written = length new; lost = count }); left = splice d 0 new }
      → (new_record b c ≡ new) × (c.count ≡ count)
  unfolding put_into
  put_given c d l e = go (ltb (length d) (length (new_record b c))) e
    where
      go : (t : Bool) → cond t (keeps {A = Answer Clipped} (Err NoRoom) d) (record { answer = Ok (record { written = length (new_record b c); lost = c.count }); left = splice d 0 (new_record b c) })
          ≡ record { answer = Ok (record { written = length new; lost = count }); left = splice d 0 new } → (new_record b c ≡ new) × (c.count ≡ count)
      go true e = absurd (subst⁻¹ Answers (ap (λ (o : Outcome (Answer Clipped)). o.answer) e) tt)
      go false e =
          let n : length (new_record b c) ≡ length new = ap (λ (o : Outcome (Answer Clipped)). size_in o.answer) e in (
            sym (take_written d (new_record b c))
                ∙ ap (λ (o : Outcome (Answer Clipped)). take (length (new_record b c)) o.left) e
                ∙ ap (λ (k : ℕ). take k (splice d 0 new)) n
                ∙ take_written d new,
            ap (λ (o : Outcome (Answer Clipped)). count_in o.answer) e,
          )

  fate_given : (f : Fate) → written b f new ≡ record { answer = Ok (record { written = length new; lost = count }); left = splice new 0 new } → Given b f new count
  unfolding written
  fate_given (Refuses r) e = absurd (subst⁻¹ Answers (ap (λ (o : Outcome (Answer Clipped)). o.answer) e) tt)
  fate_given (Becomes c) e = let p = put_given c new refl e in record { change = c; fate_is = refl; record_is = p.0; count-is = p.1 }

pub start_given : (b : List ℕ) (a : ℕ) (new : List ℕ) (count : ℕ) → StartGives clipped_record_start b a new count → Given b (clipped_fate b a true) new count
start_given b a new count G = fate_given b new count (clipped_fate b a true) (G new (omega arith))

-- at the end the answer leaves its count out
module _ (b new : List ℕ) where
  abbrev Counts : Answer ℕ → Type 0
  Counts (Ok n) = Unit {0}
  Counts (Err r) = ⊥

  abbrev number_in : Answer ℕ → ℕ
  number_in (Ok n) = n
  number_in (Err r) = 0

  abbrev told : ℕ → ℕ → Answer Clipped
  told n count = Ok (record { written = n; lost = count })

  counted_again : (o : Outcome (Answer Clipped)) → without_count o ≡ record { answer = Ok (length new); left = splice new 0 new }
      → o ≡ record { answer = Ok (record { written = length new; lost = count_in o.answer }); left = splice new 0 new }
  counted_again o e = go o.answer refl
    where
      go : (c : Answer Clipped) → o.answer ≡ c → o ≡ record { answer = Ok (record { written = length new; lost = count_in o.answer }); left = splice new 0 new }
      go (Ok got) p =
          let q : uncounted o.answer ≡ Ok (length new) = ap (λ (x : Outcome (Answer ℕ)). x.answer) e in
          let n : got.written ≡ length new = ap number_in (sym (ap uncounted p) ∙ q) in
          let l : o.left ≡ splice new 0 new = ap (λ (x : Outcome (Answer ℕ)). x.left) e in
          ap (λ (c : Answer Clipped). record { answer = c; left = o.left }) (p ∙ ap (λ (k : ℕ). told k got.lost) n ∙ ap (told (length new)) (sym (ap count_in p)))
          ∙ ap (λ (m : List ℕ). record { answer = Ok (record { written = length new; lost = count_in o.answer }); left = m }) l
      go (Err r) p = absurd (subst⁻¹ Counts (sym (ap uncounted p) ∙ ap (λ (x : Outcome (Answer ℕ)). x.answer) e) tt)

pub end_given : (b : List ℕ) (a : ℕ) (new : List ℕ) → EndGives clipped_record_end b a new → Given b (clipped_fate b a false) new (count_in (written b (clipped_fate b a false) new).answer)
end_given b a new G = fate_given b new _ (clipped_fate b a false) (counted_again b new (written b (clipped_fate b a false) new) (G new (omega arith)))
