-- What is promised of the calls. Document 01: "An overhang never exceeds the read's query length". Document 02, item 7: overhang calls "pass the refusal on wherever they ask for this length".
use Prim.Native.Nat.{ℕ, ◌≤◌}
use Rattle.std.specs.Prelude.{Err, None, Ok, Option, Some}
use Rattle.answers.specs.Answer.{Answer}
use mathlib.Core.Path.{◌≡◌}
use mathlib.Core.Bool.{Bool, true, false, cond, not}
use mathlib.Core.List.{List}
use native.Mathlib.Omega.{arith}
use lib.IntN.{ℤ}
use lib.ListN.{length}
use lib.Dec.{ltb}
use Rattle.lists.specs.Lists.{sum_of, splice}
use Rattle.sam.specs.Op.{query_len}
use Rattle.sam.specs.Record.{flags_of, pos_of, mate_pos_of, is_reverse, is_short}
use Rattle.answers.specs.Settled.{Outcome, keeps}
use Rattle.answers.specs.declared.Refusal.{Refusal}
use Rattle.answers.specs.declared.Refusal.TheVariants.{ShortRecord, TooManyOps, NoRoom}
use Rattle.oplist.specs.Ops.{most_ops, record_ops}
use Rattle.text_rules.specs.Text.{text_ops}
use Rattle.text_rules.specs.Valid.{valid_mapped}
use Rattle.text_rules.specs.Strict.{strict}
use Rattle.pairs_rules.specs.Pairs.{is_primary_fr}
use Rattle.overhang_rules.specs.Overhang.{overhang_of, bases_extending}
use Rattle.overhang_rules.proofs.Most.{overhang_most}
use Rattle.overlap_rules.specs.declared.PairPlaces.{PairPlaces}
use Rattle.overlap_rules.specs.declared.Overhang.{Overhang}
use Rattle.overlap_rules.specs.Bound.{Within, WithinText}
use Rattle.overlap_rules.specs.Overlap.{placed_pair, bases_at, overhang_at, pair_overhang, is_fr_by, past_mate_cigar, past_mate_record, list_left, pair_list_left, past_mate_text}

-- ---- the pair test's refusal, which is a length's, is the call's: before 4 of a place, and before 6

pub cigar_no_length : (b ys : List ℕ) (r : Refusal) → is_short b ≡ false → ltb most_ops (length ys) ≡ false → valid_mapped ys ≡ true → is_fr_by b ys ≡ Err r → past_mate_cigar b ys ≡ Err r
unfolding past_mate_cigar
cigar_no_length b ys r s m v e = rw (s, m, v) (passed (is_fr_by b ys) e)
  where
    passed : (fr : Answer Bool) → fr ≡ Err r → pair_overhang fr b (mate_pos_of b) ys ≡ Err r
    passed fr f = rw f

pub record_no_length : (b m : List ℕ) (r : Refusal) → is_short b ≡ false → is_short m ≡ false → is_primary_fr b m ≡ Err r → past_mate_record b m ≡ Err r
unfolding past_mate_record
record_no_length b m r s t e = rw (s, t, e)

pub text_no_length : (b s d : List ℕ) (r : Refusal) → is_short b ≡ false → strict s ≡ true → ltb most_ops (length (text_ops s)) ≡ false → is_fr_by b (text_ops s) ≡ Err r
    → past_mate_text b s d ≡ keeps (Err r) d
unfolding past_mate_text
text_no_length b s d r l t m e = rw (l, t, m) (passed (is_fr_by b (text_ops s)) e)
  where
    passed : (fr : Answer Bool) → fr ≡ Err r → pair_list_left fr b (text_ops s) d ≡ keeps (Err r) d
    passed fr f = rw f

-- ---- the most that an overhang is

bases_most : (p : Answer (Option PairPlaces)) (b ys : List ℕ) → bases_at p b ys ≤ sum_of query_len (record_ops b)
bases_most (Ok None) b ys = omega arith
bases_most (Ok (Some w)) b ys = overhang_most (is_reverse (flags_of b)) w.own.0 (record_ops b) w.mate.0 ys
bases_most (Err r) b ys = omega arith

at_most : (p : Answer (Option PairPlaces)) (b ys : List ℕ) → Within (overhang_at p b ys) (sum_of query_len (record_ops b))
unfolding overhang_at
at_most (Ok p) b ys = bases_most (Ok p) b ys
at_most (Err r) b ys = tt

pub ops_most : (b : Bool) (p : ℤ) (xs : List ℕ) (m : ℤ) (ys : List ℕ) → Within (bases_extending b p xs m ys) (sum_of query_len xs)
unfolding bases_extending
ops_most b p xs m ys = go (ltb most_ops (length xs)) (ltb most_ops (length ys))
  where
    go : (t u : Bool) → Within (cond t (Err TooManyOps) (cond u (Err TooManyOps) (Ok (overhang_of b p xs m ys)))) (sum_of query_len xs)
    go true u = tt
    go false true = tt
    go false false = overhang_most b p xs m ys

pair_most : (fr : Answer Bool) (b : List ℕ) (m : ℤ) (ys : List ℕ) → Within (pair_overhang fr b m ys) (sum_of query_len (record_ops b))
pair_most (Ok fr) b m ys = at_most (placed_pair fr b m) b ys
pair_most (Err r) b m ys = tt

pub cigar_most : (b ys : List ℕ) → Within (past_mate_cigar b ys) (sum_of query_len (record_ops b))
unfolding past_mate_cigar
cigar_most b ys = go (is_short b) (ltb most_ops (length ys)) (valid_mapped ys)
  where
    go : (t u v : Bool) → Within (cond t (Err ShortRecord) (cond u (Err TooManyOps) (cond v (pair_overhang (is_fr_by b ys) b (mate_pos_of b) ys) (Ok 0)))) (sum_of query_len (record_ops b))
    go true u v = tt
    go false true v = tt
    go false false true = pair_most (is_fr_by b ys) b (mate_pos_of b) ys
    go false false false = omega arith

pub record_most : (b m : List ℕ) → Within (past_mate_record b m) (sum_of query_len (record_ops b))
unfolding past_mate_record
record_most b m = go (is_short b) (is_short m)
  where
    go : (t u : Bool) → Within (cond t (Err ShortRecord) (cond u (Err ShortRecord) (pair_overhang (is_primary_fr b m) b (pos_of m) (record_ops m)))) (sum_of query_len (record_ops b))
    go true u = tt
    go false true = tt
    go false false = pair_most (is_primary_fr b m) b (pos_of m) (record_ops m)

left_at : (p : Answer (Option PairPlaces)) (b xs d : List ℕ) → WithinText (list_left p b xs d).answer (sum_of query_len (record_ops b))
unfolding list_left
left_at (Ok p) b xs d = go (ltb (length d) (length xs))
  where
    done : Outcome (Answer Overhang)
    done = record { answer = Ok (record { bases = bases_at (Ok p) b xs; written = length xs }); left = splice d 0 xs }

    go : (x : Bool) → WithinText (cond {A = Outcome (Answer Overhang)} x (keeps (Err NoRoom) d) done).answer (sum_of query_len (record_ops b))
    go true = tt
    go false = bases_most (Ok p) b xs
left_at (Err r) b xs d = tt

left_most : (fr : Answer Bool) (b xs d : List ℕ) → WithinText (pair_list_left fr b xs d).answer (sum_of query_len (record_ops b))
left_most (Ok fr) b xs d = left_at (placed_pair fr b (mate_pos_of b)) b xs d
left_most (Err r) b xs d = tt

pub text_most : (b s d : List ℕ) → WithinText (past_mate_text b s d).answer (sum_of query_len (record_ops b))
unfolding past_mate_text
text_most b s d = go (is_short b) (strict s) (ltb most_ops (length (text_ops s)))
  where
    left : Outcome (Answer Overhang)
    left = pair_list_left (is_fr_by b (text_ops s)) b (text_ops s) d

    go : (t u v : Bool) → WithinText (cond {A = Outcome (Answer Overhang)} t (keeps (Err ShortRecord) d) (cond {A = Outcome (Answer Overhang)} (not u) (keeps (Ok (record { bases = 0; written = 0 })) d)
        (cond {A = Outcome (Answer Overhang)} v (keeps (Err TooManyOps) d) left))).answer (sum_of query_len (record_ops b))
    go true u v = tt
    go false false v = omega arith
    go false true true = tt
    go false true false = left_most (is_fr_by b (text_ops s)) b (text_ops s) d
