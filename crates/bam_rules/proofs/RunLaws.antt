-- Whatever sizes the reads have, what a run has written at its end is what the whole stream converts to: turn by turn, whatever follows.
use Prim.Native.Nat.{ℕ, ◌+◌, ◌-◌, ◌≤◌, ◌<◌}
use mathlib.Core.Path.{◌≡◌, refl, sym, ap, ◌∙◌, subst}
use mathlib.Core.Bool.{Bool, true, false, cond, ◌&&◌}
use mathlib.Core.List.{List, [], ◌++◌, append-nil, append_assoc}
use native.Mathlib.Omega.{arith}
use lib.Dec.{ltb, eqb}
use lib.ListN.{length, take, drop, length-append, length-take, length-drop, get_or-append}
use lib.Seq.{drop-append-le, length-take-le}
use borrow.Author.Tests.{le-ltb, ltb-false}
use Rattle.lists.proofs.Absurd.{never}
use Rattle.lists.proofs.Walks.{done}
use Rattle.sam.specs.Record.{byte_at}
use Rattle.blocks.specs.Fill.{is_over, First}
use Rattle.blocks.specs.declared.Read.{Read}
use Rattle.blocks.proofs.BlockLaws.{drop-take, fill_behind, fill_grows, gathered}
use Rattle.bam_header.specs.Header.{Head.Records, Head.CutShort, is_bam, texted, head_of}
use Rattle.bam_header.specs.Inner.{from_place, is_begun}
use Rattle.bam_header.specs.declared.HeadPlace.{HeadPlace}
use Rattle.bam_header.proofs.HeadLaws.{begun_records}
use Rattle.bam_header.specs.Converted.{cgr_mark, converted}
use Rattle.bam_rules.specs.Run.{left, BamTurn, read_in, due_bytes, behind_all, head_start, BamRan, BamRan.starts, BamRan.turns, BamCame, Wrote, Wrote.ended, Wrote.refused}
use Rattle.bam_rules.specs.declared.BamState.{BamState}

-- ---- the magic

-- it is told by the first four bytes
same_magic : (first ys : List ℕ) → 4 ≤ length first → is_bam (first ++ ys) ≡ is_bam first
unfolding is_bam
same_magic first ys h =
    let l = length-append first ys in
    simp (
      le-ltb (length (first ++ ys)) 4 (omega arith),
      le-ltb (length first) 4 h,
      get_or-append first ys 0 0 (omega arith),
      get_or-append first ys 0 1 (omega arith),
      get_or-append first ys 0 2 (omega arith),
      get_or-append first ys 0 3 (omega arith),
    )

pub long : (first : List ℕ) → is_bam first ≡ true → 4 ≤ length first
unfolding is_bam
long first e = go (ltb (length first) 4) refl e
  where
    go : (b : Bool) → ltb (length first) 4 ≡ b → cond b false (eqb (byte_at first 0) 66 && (eqb (byte_at first 1) 65 && (eqb (byte_at first 2) 77 && eqb (byte_at first 3) 1))) ≡ true → 4 ≤ length first
    go true p f = never (cc)
    go false p f = ltb-false (length first) 4 p

head_is : (first ys : List ℕ) → is_bam first ≡ true → head_of (first ++ ys) ≡ texted (drop 4 first ++ ys)
unfolding head_of
head_is first ys m = let k = long first m in simp (same_magic first ys k, m, drop-append-le 4 first ys k)

-- of another stream
other : (first ys : List ℕ) → is_bam (first ++ ys) ≡ false → converted (head_of (first ++ ys)) ≡ []
unfolding head_of
other first ys m = simp m

-- ---- one turn

module _ {s r : BamState} {block block' : List ℕ} (t : BamTurn s block r block') where
  -- what was left, and what is read behind it, is at hand
  left_first : take r.have block' ≡ left s block ++ read_in s r block'
  left_first = fill_behind t.filled ∙ ap (λ (l : List ℕ). l ++ read_in s r block') (t.front ∙ sym (drop-take s.used s.have block))

  -- in the head: whatever follows, the rest comes to the same from the place reached
  head_on : (ys : List ℕ) → from_place s.place (left s block ++ (read_in s r block' ++ ys)) ≡ from_place r.place (left r block' ++ ys)
  head_on ys =
      ap (from_place s.place) (sym (append_assoc (left s block) (read_in s r block') ys) ∙ ap (λ (l : List ℕ). l ++ ys) (sym left_first))
      ∙ t.went.gone.same ys

  -- behind it all that is read is left
  all_left : is_begun s.place ≡ true → left s block ≡ [] → (is_begun r.place ≡ true) × (left r block' ≡ read_in s r block')
  all_left b none = go (is_begun r.place) refl
    where
      hand : take r.have block' ≡ read_in s r block'
      hand = left_first ∙ ap (λ (l : List ℕ). l ++ read_in s r block') none

      all : (c : Bool) → is_begun r.place ≡ c → c ≡ true → left r block' ≡ read_in s r block'
      all c e f =
          let p : Records (take r.have block' ++ []) ≡ Records (left r block' ++ []) = sym (begun_records s.place (take r.have block' ++ []) b) ∙ t.went.begins (e ∙ f) [] in
          let q : take r.have block' ++ [] ≡ left r block' ++ [] = cc in
          sym (append-nil (left r block')) ∙ sym q ∙ append-nil (take r.have block') ∙ hand

      go : (c : Bool) → is_begun r.place ≡ c → (is_begun r.place ≡ true) × (left r block' ≡ read_in s r block')
      go true e = (e, all true e refl)
      go false e =
          let p : Records (take r.have block') ≡ CutShort = sym (begun_records s.place (take r.have block') b) ∙ t.went.ends e in
          never (cc)

-- the state behind the writes
relieved_begun : (r : BamState) → is_begun r.place ≡ true → behind_all r ≡ record { place = r.place; have = r.have; used = r.have; source = r.source; marked = true }
relieved_begun r e = simp e

pub relieved_not : (r : BamState) → is_begun r.place ≡ false → behind_all r ≡ r
relieved_not r e = simp e

-- ---- turn after turn

-- In the head nothing is written, and whatever follows the stream comes to what the bytes that are left come to from the place reached; behind it all records so far are written.
data Stands (read written : List ℕ) (s : BamState) (block : List ℕ) : Type 0 where
  inside : written ≡ [] → s.marked ≡ false → ((ys : List ℕ) → head_of (read ++ ys) ≡ from_place s.place (left s block ++ ys)) → (is_over s.source ≡ true → head_of read ≡ CutShort) → Stands read written s block
  behind : (records : List ℕ) → written ≡ cgr_mark ++ records → s.marked ≡ true → is_begun s.place ≡ true → left s block ≡ [] → ((ys : List ℕ) → head_of (read ++ ys) ≡ Records (records ++ ys))
      → Stands read written s block

none_left : (h : ℕ) (block : List ℕ) → drop h (take h block) ≡ []
none_left h block = done (take h block) h (simp length-take (omega arith))

module _ (read : List ℕ) {written block block' : List ℕ} {s r : BamState} (t : BamTurn s block r block') where
  -- a turn in the head
  from_inside : written ≡ [] → s.marked ≡ false → ((ys : List ℕ) → head_of (read ++ ys) ≡ from_place s.place (left s block ++ ys)) → Stands (read ++ read_in s r block') (written ++ due_bytes r block') (behind_all r) block'
  from_inside w m h = go (is_begun r.place) refl
    where
      on : (ys : List ℕ) → head_of (read ++ read_in s r block' ++ ys) ≡ from_place r.place (left r block' ++ ys)
      on ys = ap head_of (append_assoc read (read_in s r block') ys) ∙ h (read_in s r block' ++ ys) ∙ head_on t ys

      cut : is_begun r.place ≡ false → head_of (read ++ read_in s r block') ≡ CutShort
      cut e = h (read_in s r block') ∙ ap (from_place s.place) (sym (left_first t)) ∙ t.went.ends e

      due : is_begun r.place ≡ true → due_bytes r block' ≡ cgr_mark ++ left r block'
      due e = simp (e, t.same ∙ m)

      go : (b : Bool) → is_begun r.place ≡ b → Stands (read ++ read_in s r block') (written ++ due_bytes r block') (behind_all r) block'
      go true e =
          subst (λ (q : BamState). Stands (read ++ read_in s r block') (written ++ due_bytes r block') q block') (sym (relieved_begun r e))
          (behind (left r block') (ap (λ (l : List ℕ). l ++ due_bytes r block') w ∙ due e) refl e (none_left r.have block') (λ ys. on ys ∙ begun_records r.place (left r block' ++ ys) e))
      go false e =
          subst (λ (q : BamState). Stands (read ++ read_in s r block') (written ++ due_bytes r block') q block') (sym (relieved_not r e))
          (inside (ap (λ (l : List ℕ). l ++ due_bytes r block') w ∙ simp e) (t.same ∙ m) on (λ f. cut e))

  -- a turn behind it
  from_behind : (records : List ℕ) → written ≡ cgr_mark ++ records → s.marked ≡ true → is_begun s.place ≡ true → left s block ≡ [] → ((ys : List ℕ) → head_of (read ++ ys) ≡ Records (records ++ ys))
      → Stands (read ++ read_in s r block') (written ++ due_bytes r block') (behind_all r) block'
  from_behind records w m b none h =
      let a = all_left t b none in
      let d : due_bytes r block' ≡ read_in s r block' = simp (a.0, t.same ∙ m) a.1 in
      subst (λ (q : BamState). Stands (read ++ read_in s r block') (written ++ due_bytes r block') q block') (sym (relieved_begun r a.0))
      (behind (records ++ read_in s r block')
      (ap (λ (l : List ℕ). l ++ due_bytes r block') w ∙ ap (λ (l : List ℕ). cgr_mark ++ records ++ l) d ∙ append_assoc cgr_mark records (read_in s r block'))
      refl a.0 (none_left r.have block')
      (λ ys. ap head_of (append_assoc read (read_in s r block') ys) ∙ h (read_in s r block' ++ ys) ∙ ap Records (sym (append_assoc records (read_in s r block') ys))))

stands : {read written block : List ℕ} {s : BamState} → BamRan read written s block → Stands read written s block
stands (starts {read} {block} {r} {p} g m next) =
    inside refl refl
    (λ ys. ap (λ (l : List ℕ). head_of (l ++ ys)) (sym (gathered g)) ∙ head_is (take r.have block) ys m ∙ sym (next (drop 4 (take r.have block) ++ ys)))
    (λ e. never (cc))
stands (turns {read} {written} {block} {block'} {s} {r} ran on t) = go (stands ran)
  where
    go : Stands read written s block → Stands (read ++ read_in s r block') (written ++ due_bytes r block') (behind_all r) block'
    go (inside w m h c) = from_inside read t w m h
    go (behind records w m b none h) = from_behind read t records w m b none h

-- ---- a whole stream

ends : {read written block : List ℕ} {s : BamState} → Stands read written s block → is_over s.source ≡ true → converted (head_of read) ≡ written
ends (inside w m h c) e = ap converted (c e) ∙ sym w
ends {read} (behind records w m b none h) e = ap (λ (l : List ℕ). converted (head_of l)) (sym (append-nil read)) ∙ ap converted (h []) ∙ ap (λ (l : List ℕ). cgr_mark ++ l) (append-nil records) ∙ sym w

-- what is written of a stream is what it converts to
pub converts : {stream written : List ℕ} → Wrote stream written → converted (head_of stream) ≡ written
converts (ended ran e) = ends (stands ran) e
converts (refused {block} {r} ys f m none) = other f.read ys (go (is_over r.source) refl ∙ same)
  where
    same : is_bam f.read ≡ false
    same = ap is_bam (sym (gathered f.gathers)) ∙ m

    size : length f.read ≡ r.have
    size = ap length (sym (gathered f.gathers)) ∙ length-take-le r.have block f.within

    go : (b : Bool) → is_over r.source ≡ b → is_bam (f.read ++ ys) ≡ is_bam f.read
    go true e = ap is_bam (ap (λ (l : List ℕ). f.read ++ l) (none e) ∙ append-nil f.read)
    go false e = same_magic f.read ys (omega (arith, size, f.enough e))

-- ---- the turns are counted

-- the program is under way, after so many turns
pub record BamAlong (turns : ℕ) (s : BamState) (block : List ℕ) : Type 0 where
  pub read : List ℕ
  pub written : List ℕ
  pub ran : BamRan read written s block
  pub on : is_over s.source ≡ false
  pub paid : turns ≤ length read
  pub within : s.used ≤ s.have
  pub fits : s.have ≤ 65536
  pub room : s.have < s.used + 65536

unfoldable pub along_start : {r : Read} {p : HeadPlace} {block : List ℕ} (f : First 4 r block) → r.have ≤ 65536 → is_bam (take r.have block) ≡ true → ((ys : List ℕ) → from_place p ys ≡ texted ys)
    → BamAlong 0 (head_start p r.have) block
along_start {r} {block = block} f h m next =
    let l = long (take r.have block) m in
    let k = length-take-le r.have block f.within in
    record { read = f.read; written = []; ran = starts f.gathers m next; on = refl; paid = omega arith; within = omega arith; fits = h; room = omega arith }

-- the writes leave the rest of the state as it was, and room for a read
pub record Relieved (r q : BamState) : Type 0 where
  pub ended : is_over q.source ≡ is_over r.source
  pub have : q.have ≡ r.have
  pub within : q.used ≤ q.have
  pub room : q.have < q.used + 65536

pub relieved : (r : BamState) (block : List ℕ) → (is_begun r.place ≡ false → length (take r.have block) < r.used + 4) → r.used ≤ r.have → r.have ≤ length block → Relieved r (behind_all r)
relieved r block short low high = go (is_begun r.place) refl
  where
    go : (b : Bool) → is_begun r.place ≡ b → Relieved r (behind_all r)
    go true e = subst (λ (q : BamState). Relieved r q) (sym (relieved_begun r e)) (record { ended = refl; have = refl; within = omega arith; room = omega arith })
    go false e = subst (λ (q : BamState). Relieved r q) (sym (relieved_not r e)) (record { ended = refl; have = refl; within = low; room = omega (arith, short e, length-take-le r.have block high) })

module _ {s s₁ s₂ : BamState} {block block₁ : List ℕ} (n : ℕ) (a : BamAlong n s block) (t : BamTurn s block s₁ block₁) (e : s₂ ≡ behind_all s₁) (low : s₁.used ≤ s₁.have) (high : s₁.have ≤ 65536) (within : s₁.have ≤ length block₁) where
  unfoldable pub along_on : is_over s₂.source ≡ false → BamAlong (n + 1) s₂ block₁
  along_on on =
      let k : Relieved s₁ s₂ = subst (λ (q : BamState). Relieved s₁ q) (sym e) (relieved s₁ block₁ t.went.short low within) in
      let g = fill_grows t.filled (sym k.ended ∙ on) in
      let l : length (read_in s s₁ block₁) ≡ s₁.have - (s.have - s.used) =
      length-drop (s.have - s.used) (take s₁.have block₁) ∙ ap (λ (i : ℕ). i - (s.have - s.used)) (length-take-le s₁.have block₁ within) in record {
        read = a.read ++ read_in s s₁ block₁;
        written = a.written ++ due_bytes s₁ block₁;
        ran = subst (λ (q : BamState). BamRan (a.read ++ read_in s s₁ block₁) (a.written ++ due_bytes s₁ block₁) q block₁) (sym e) (turns a.ran a.on t);
        on = on;
        paid = simp length-append (omega (arith, a.paid));
        within = k.within;
        fits = omega (arith, k.have);
        room = k.room;
      }

  unfoldable pub along_off : is_over s₂.source ≡ true → BamCame s₂ block₁
  along_off off = record {
    read = a.read ++ read_in s s₁ block₁;
    written = a.written ++ due_bytes s₁ block₁;
    ran = subst (λ (q : BamState). BamRan (a.read ++ read_in s s₁ block₁) (a.written ++ due_bytes s₁ block₁) q block₁) (sym e) (turns a.ran a.on t);
    last = λ h. never (cc);
  }

unfoldable pub along_last : {s : BamState} {block : List ℕ} (n : ℕ) → 140737488355328 ≤ n → BamAlong n s block → BamCame s block
along_last n h a = record { read = a.read; written = a.written; ran = a.ran; last = λ e. omega (arith, a.paid) }
