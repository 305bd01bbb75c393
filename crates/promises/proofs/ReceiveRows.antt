-- The refusal table of the receiving check: the sent record is refused as it is where it is written with room enough; then the received record's two tests.
use Prim.Native.Nat.{ℕ, ◌≤◌}
use Rattle.std.specs.Prelude.{None, Option, Ok, Err}
use Rattle.answers.specs.Answer.{Answer}
use mathlib.Core.Path.{◌≡◌, refl, sym, ap, ◌∙◌}
use mathlib.Core.Bool.{Bool, true, false, cond}
use mathlib.Core.List.{List, [], ◌∷◌, ◌++◌}
use native.Mathlib.Omega.{arith}
use borrow.Author.Tests.{le-ltb}
use lib.Dec.{ltb, eqb}
use lib.ListN.{length, length-append}
use Rattle.lists.specs.Lists.{Each, splice}
use Rattle.sam.specs.Record.{is_short, tags_start}
use Rattle.sam.specs.Parts.{name_part, ops_part, bases_part, quals_part, tags_part}
use Rattle.answers.specs.Answers.{number_of}
use Rattle.answers.specs.Settled.{keeps}
use Rattle.answers.proofs.Numbers.{not-zero}
use Rattle.answers.specs.declared.Refusal.TheVariants.{NoRoom, ReceivedShort, ReceivedCut}
use Rattle.clip_rules.specs.Answer.{given, tell_clipped}
use Rattle.record_rules.specs.Written.{Change, new_name, new_ops, new_bases, new_quals, new_tags, new_record}
use Rattle.record_rules.specs.Clipping.{Fate, Refuses, Becomes, clipped_fate, put_into, written}
use Rattle.receive_rules.specs.Receiving.{same, same_header, unless, compared, weighed, received_as, checked_start, checked_end, tell_received}
use Rattle.receive_rules.specs.declared.Part.{Part}
use Rattle.receive_rules.specs.declared.Part.TheVariants.{Header, Name, Ops, Bases, Qualities, Tags}
use Rattle.promises.specs.Table.{Row, ◌when◌, first, Gives}
use Rattle.promises.specs.RecordRows.{clipped_record}
use Rattle.promises.specs.ReceiveRows.{sent_rows, received_short, received_cut, check_rows}
use Rattle.promises.proofs.RowLaws.{refusal, answer, like, row}
use Rattle.promises.proofs.RecordRows.{fate_rows}

-- ---- rows before rows

-- the first of those before, or where none of them holds the first behind
first_append : (xs ys : List Row) → Each (λ r. eqb r.number 0 ≡ false) xs → first (xs ++ ys) ≡ cond (eqb (first xs) 0) (first ys) (first xs)
first_append [] ys h = refl
first_append (r ∷ xs) ys h = go r.due (first_append xs ys h.1)
  where
    go : (t : Bool) → first (xs ++ ys) ≡ cond (eqb (first xs) 0) (first ys) (first xs)
        → cond t r.number (first (xs ++ ys)) ≡ cond (eqb (cond t r.number (first xs)) 0) (first ys) (cond t r.number (first xs))
    go true e = sym (ap (λ (u : Bool). cond u (first ys) r.number) h.0)
    go false e = e

-- a last row that doesn't hold
last_idle : (xs : List Row) (n : ℕ) (t : Bool) → t ≡ false → first (xs ++ ((n when t) ∷ [])) ≡ first xs
last_idle [] n t e = ap (λ (u : Bool). cond u n 0) e
last_idle (r ∷ xs) n t e = ap (cond r.due r.number) (last_idle xs n t e)

-- ---- the sent record

-- the number of a fate: 0 where the record is not refused
abbrev fate_number : Fate → ℕ
fate_number (Refuses r) = number_of r
fate_number (Becomes c) = 0

module _ (b : List ℕ) (amount : ℕ) (start : Bool) where
  -- what the writing calls tell, where there is room for the record
  told_with_room : (d : List ℕ) → length (clipped_record b amount start) ≤ length d → (tell_clipped (written b (clipped_fate b amount start) d).answer).number ≡ first (sent_rows b amount start)
  told_with_room d h =
      (fate_rows b amount start d).refusal.gives.number
      ∙ last_idle (sent_rows b amount start) 6 (ltb (length d) (length (clipped_record b amount start))) (le-ltb (length d) (length (clipped_record b amount start)) h)

  sent_first : (f : Fate) → clipped_fate b amount start ≡ f → fate_number f ≡ first (sent_rows b amount start)
  unfolding written put_into
  sent_first (Refuses r) e =
      let d = clipped_record b amount start in
      sym (ap (λ (f : Fate). (tell_clipped (written b f d).answer).number) e) ∙ told_with_room d (omega arith)
  sent_first (Becomes c) e =
      let d = new_record b c ++ clipped_record b amount start in
      let l = length-append (new_record b c) (clipped_record b amount start) in
      fits (ltb (length d) (length (new_record b c))) (le-ltb (length d) (length (new_record b c)) (omega arith))
      ∙ sym (ap (λ (f : Fate). (tell_clipped (written b f d).answer).number) e)
      ∙ told_with_room d (omega arith)
    where
      fits : (t : Bool) → t ≡ false → 0 ≡ (tell_clipped (cond t (keeps (Err NoRoom) (new_record b c ++ clipped_record b amount start))
          (record { answer = given (length (new_record b c)) c.count; left = splice (new_record b c ++ clipped_record b amount start) 0 (new_record b c) })).answer).number
      fits t e = rw e

-- ---- the received record

-- a part that differs is an answer
unless_answers : (ok : Bool) (p : Part) (x : Answer (Option Part)) → (tell_received x).number ≡ 0 → (tell_received (unless ok p x)).number ≡ 0
unless_answers true p x h = h
unless_answers false p x h = refl

compared_answers : (g b : List ℕ) (c : Change) → (tell_received (compared g b c)).number ≡ 0
unfolding compared
compared_answers g b c =
    unless_answers (same_header g b c) Header _
    (unless_answers (same (name_part g) (new_name b c)) Name _
    (unless_answers (same (ops_part g) (new_ops b c)) Ops _
    (unless_answers (same (bases_part g) (new_bases b c)) Bases _
    (unless_answers (same (quals_part g) (new_quals b c)) Qualities _ (unless_answers (same (tags_part g) (new_tags b c)) Tags (Ok None) refl)))))

weighed_rows : (g b : List ℕ) (c : Change) → Gives (tell_received (weighed g b c)) (received_short g ∷ received_cut g ∷ [])
unfolding weighed
weighed_rows g b c =
    row tell_received (is_short g) (Err ReceivedShort) _ 23 refl
    (row tell_received (ltb (length g) (tags_start g)) (Err ReceivedCut) (compared g b c) 24 refl (answer (compared_answers g b c) refl))

-- ---- the two calls

module _ (b : List ℕ) (amount : ℕ) (start : Bool) (g : List ℕ) where
  -- the sent record's rows stand before the received one's
  before : first (check_rows b amount start g)
      ≡ cond (eqb (first (sent_rows b amount start)) 0) (first (received_short g ∷ received_cut g ∷ [])) (first (sent_rows b amount start))
  before =
      first_append (sent_rows b amount start) (received_short g ∷ received_cut g ∷ []) (refl, (refl, (refl, (refl, (refl, (refl, (refl, tt)))))))

  behind : ℕ → ℕ
  behind n = cond (eqb n 0) (first (received_short g ∷ received_cut g ∷ [])) n

  fate_gives : (f : Fate) → clipped_fate b amount start ≡ f → Gives (tell_received (received_as g b f)) (check_rows b amount start g)
  unfolding received_as behind
  fate_gives (Refuses r) e = refusal refl (sym (before ∙ ap behind (sym (sent_first b amount start (Refuses r) e)) ∙ simp (not-zero r)))
  fate_gives (Becomes c) e = like (sym (before ∙ ap behind (sym (sent_first b amount start (Becomes c) e)))) (weighed_rows g b c)

pub check_clipped_start : (b : List ℕ) (amount : ℕ) (g : List ℕ) → Gives (tell_received (checked_start b amount g)) (check_rows b amount true g)
check_clipped_start b amount g = fate_gives b amount true g (clipped_fate b amount true) refl

pub check_clipped_end : (b : List ℕ) (amount : ℕ) (g : List ℕ) → Gives (tell_received (checked_end b amount g)) (check_rows b amount false g)
check_clipped_end b amount g = fate_gives b amount false g (clipped_fate b amount false) refl
