-- The refusal table of clipping: each test of a definition is a row, in the same order, and an answer keeps its rows without its count.
use Prim.Native.Nat.{ℕ}
use Rattle.std.specs.Prelude.{Err, Ok}
use Rattle.answers.specs.Answer.{Answer}
use mathlib.Core.Path.{refl, sym, ap}
use mathlib.Core.Bool.{Bool, true, false}
use mathlib.Core.List.{List, ◌∷◌}
use lib.ListN.{length}
use lib.Dec.{ltb}
use Rattle.lists.specs.Lists.{sum_of}
use Rattle.lists.proofs.Absurd.{nil-cons}
use Rattle.sam.specs.Op.{len_of}
use Rattle.sam.specs.Record.{is_short}
use Rattle.oplist.specs.Ops.{most_ops, record_ops}
use Rattle.answers.specs.Answers.{tell_count}
use Rattle.answers.specs.Settled.{Outcome}
use Rattle.answers.specs.declared.Refusal.TheVariants.{ShortRecord, TooManyOps, TooLong, NoRoom, AmountBeyond}
use Rattle.clip_rules.specs.Answer.{given, clipped_ops, clipped_count, clippable, is_beyond, clipped_into, clipped_up_to, clipped_record, uncounted, without_count, clipped_start, clipped_end, record_start, record_end, tell_clipped}
use Rattle.clip_rules.specs.declared.Clipped.{Clipped}
use Rattle.promises.specs.Table.{Row, ◌when◌, Gives, GivesFilled}
use Rattle.promises.specs.Rows.{clip_into, clip_rows, clip_record_rows}
use Rattle.promises.proofs.RowLaws.{kept_row, last_row}

module _ (amount : ℕ) (start : Bool) (d : List ℕ) where
  abbrev done : List ℕ → Answer Clipped
  done xs = given (length (clipped_ops xs amount start)) (clipped_count xs amount start)

  -- 8, 19, 6, of an op list wherever it lies
  pub into_rows : (xs : List ℕ) → GivesFilled tell_clipped (clipped_into xs amount start d) d (clip_into xs amount start d) (done xs) (clipped_ops xs amount start)
  unfolding clipped_into is_beyond clippable
  into_rows xs =
      kept_row tell_clipped (ltb 268435455 (sum_of len_of xs)) (Err TooLong) 8 refl refl
      (kept_row tell_clipped (is_beyond xs amount start) (Err AmountBeyond) 19 refl refl
      (last_row tell_clipped (clipped_ops xs amount start) (Err NoRoom) (done xs) refl refl))

  -- of a list of at most `limit` ops
  pub list_rows : (limit : ℕ) (xs : List ℕ)
      → GivesFilled tell_clipped (clipped_up_to limit xs amount start d) d ((3 when ltb limit (length xs)) ∷ clip_into xs amount start d) (done xs) (clipped_ops xs amount start)
  unfolding clipped_up_to
  list_rows limit xs = kept_row tell_clipped (ltb limit (length xs)) (Err TooManyOps) 3 refl refl (into_rows xs)

  record_rows : (b : List ℕ)
      → GivesFilled tell_clipped (clipped_record b amount start d) d (clip_record_rows b amount start d) (done (record_ops b)) (clipped_ops (record_ops b) amount start)
  unfolding clipped_record
  record_rows b = kept_row tell_clipped (is_short b) (Err ShortRecord) 1 refl refl (into_rows (record_ops b))

-- an answer without its count has the same number, and no value beside a refusal
uncounted_gives : (c : Answer Clipped) {rows : List Row} → Gives (tell_clipped c) rows → Gives (tell_count (uncounted c)) rows
uncounted_gives (Ok got) g = record { number = g.number; alone = λ h. nil-cons (sym (g.alone h)) }
uncounted_gives (Err r) g = record { number = g.number; alone = g.alone }

pub uncounted_rows : {o : Outcome (Answer Clipped)} {d : List ℕ} {rows : List Row} {a : Answer Clipped} {ys : List ℕ} → GivesFilled tell_clipped o d rows a ys → GivesFilled tell_count (without_count o) d rows (uncounted a) ys
uncounted_rows {o} q =
    record { refusal = record { gives = uncounted_gives o.answer q.refusal.gives; kept = q.refusal.kept }; answer = λ h. ap uncounted (q.answer h); fills = q.fills }

-- ---- the four calls

module _ (xs : List ℕ) (amount : ℕ) (d : List ℕ) where
  pub clip_cigar_start_raw : GivesFilled tell_clipped (clipped_start xs amount d) d (clip_rows xs amount true d) (given (length (clipped_ops xs amount true)) (clipped_count xs amount true)) (clipped_ops xs amount true)
  clip_cigar_start_raw = list_rows amount true d most_ops xs

  pub clip_cigar_end_raw : GivesFilled tell_count (clipped_end xs amount d) d (clip_rows xs amount false d) (Ok (length (clipped_ops xs amount false))) (clipped_ops xs amount false)
  clip_cigar_end_raw = uncounted_rows (list_rows amount false d most_ops xs)

module _ (b : List ℕ) (amount : ℕ) (d : List ℕ) where
  pub clip_cigar_start : GivesFilled tell_clipped (record_start b amount d) d (clip_record_rows b amount true d)
      (given (length (clipped_ops (record_ops b) amount true)) (clipped_count (record_ops b) amount true)) (clipped_ops (record_ops b) amount true)
  clip_cigar_start = record_rows amount true d b

  pub clip_cigar_end : GivesFilled tell_count (record_end b amount d) d (clip_record_rows b amount false d) (Ok (length (clipped_ops (record_ops b) amount false))) (clipped_ops (record_ops b) amount false)
  clip_cigar_end = uncounted_rows (record_rows amount false d b)
