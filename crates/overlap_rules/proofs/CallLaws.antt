-- The ways out of each call, over plain lists: one test after another, as the definitions have them.
use Prim.Native.Nat.{ℕ, ◌≤◌, ◌<◌}
use Rattle.std.specs.Prelude.{Some, None, Err, Ok, Option}
use Rattle.answers.specs.Answer.{Answer}
use mathlib.Core.Path.{◌≡◌, refl}
use mathlib.Core.Bool.{Bool, true, false, cond}
use mathlib.Core.List.{List}
use native.Mathlib.Omega.{arith}
use lib.IntN.{ℤ, pos}
use lib.Dec.{ltb}
use lib.ListN.{length, take}
use lib.Seq.{take_at}
use borrow.Author.Tests.{lt-ltb, le-ltb}
use Rattle.lists.specs.Lists.{sum_of, splice}
use Rattle.signed.specs.Whole.{clamp32}
use Rattle.sam.specs.Op.{ref_len}
use Rattle.sam.specs.Record.{pos_of, mate_pos_of}
use Rattle.answers.specs.Settled.{keeps}
use Rattle.answers.specs.declared.Refusal.{Refusal}
use Rattle.answers.specs.declared.Refusal.TheVariants.{ShortRecord, TooManyOps, Overflow, NoRoom}
use Rattle.oplist.specs.Ops.{most_ops, record_ops}
use Rattle.ends_rules.specs.Ends.{plus_one}
use Rattle.text_rules.specs.Text.{text_ops}
use Rattle.text_rules.specs.Valid.{valid_mapped}
use Rattle.text_rules.specs.Strict.{strict}
use Rattle.parsed_rules.specs.Parsed.{measured_text}
use Rattle.parsed_rules.proofs.ParsedLaws.{ops_bad, ops_some}
use Rattle.pairs_rules.specs.Pairs.{is_fr_with_mate, is_primary_fr}
use Rattle.overlap_rules.specs.declared.PairPlaces.{PairPlaces}
use Rattle.overlap_rules.specs.Overlap.{both_places, placed_pair, is_over, bases_at, overhang_at, pair_overhang, is_fr_by, past_mate_cigar, past_mate_record, list_left, pair_list_left, past_mate_text}

-- ---- where the two lie

module _ (fr : Bool) (b : List ℕ) (m : ℤ) where
  pub apart : fr ≡ false → Ok None ≡ placed_pair fr b m
  unfolding placed_pair
  apart e = simp e

  pub together : {r : Answer (Option PairPlaces)} {x y : Option ℤ} → fr ≡ true → x ≡ plus_one (record { 0 = pos_of b }) → y ≡ plus_one (record { 0 = m }) → r ≡ both_places x y → r ≡ placed_pair fr b m
  unfolding placed_pair
  together e p q h = simp e (rw (← p, ← q) h)

-- the one refusal of the places is 4
sums : (x y : Option ℤ) (b ys : List ℕ) → overhang_at (both_places x y) b ys ≡ cond (is_over (both_places x y)) (Err Overflow) (Ok (bases_at (both_places x y) b ys))
unfolding overhang_at
sums (Some p) (Some m) b ys = refl
sums (Some p) None b ys = refl
sums None y b ys = refl

pub overhang_is : (fr : Bool) (b : List ℕ) (m : ℤ) (ys : List ℕ) → overhang_at (placed_pair fr b m) b ys ≡ cond (is_over (placed_pair fr b m)) (Err Overflow) (Ok (bases_at (placed_pair fr b m) b ys))
unfolding placed_pair overhang_at
overhang_is true b m ys = sums (plus_one (record { 0 = pos_of b })) (plus_one (record { 0 = m })) b ys
overhang_is false b m ys = refl

-- ---- the mate's record

module _ (b m : List ℕ) where
  pub record_short : length b < 32 → Err ShortRecord ≡ past_mate_record b m
  unfolding past_mate_record
  record_short h = simp (lt-ltb (length b) 32 h)

  pub mate_short : 32 ≤ length b → length m < 32 → Err ShortRecord ≡ past_mate_record b m
  unfolding past_mate_record
  mate_short h k = simp (le-ltb (length b) 32 h, lt-ltb (length m) 32 k)

  pub record_is : {r : Answer ℕ} {fr : Answer Bool} {ys : List ℕ} {z : ℤ} → 32 ≤ length b → 32 ≤ length m → fr ≡ is_primary_fr b m → z ≡ pos_of m
      → ys ≡ record_ops m → r ≡ pair_overhang fr b z ys → r ≡ past_mate_record b m
  unfolding past_mate_record
  record_is h k f g y e = simp (le-ltb (length b) 32 h, le-ltb (length m) 32 k) (rw (← f, ← g, ← y) e)

-- ---- the mate's ops

module _ (b ys : List ℕ) where
  pub cigar_short : length b < 32 → Err ShortRecord ≡ past_mate_cigar b ys
  unfolding past_mate_cigar
  cigar_short h = simp (lt-ltb (length b) 32 h)

  module _ (h : 32 ≤ length b) where
    pub cigar-many : most_ops < length ys → Err TooManyOps ≡ past_mate_cigar b ys
    unfolding past_mate_cigar
    cigar-many k = simp (le-ltb (length b) 32 h, lt-ltb most_ops (length ys) k)

    module _ (k : length ys ≤ most_ops) where
      pub cigar-bad : valid_mapped ys ≡ false → Ok 0 ≡ past_mate_cigar b ys
      unfolding past_mate_cigar
      cigar-bad e = simp (le-ltb (length b) 32 h, le-ltb most_ops (length ys) k, e)

      -- a pair that is not FR, whether or not the list is valid
      pub cigar-apart : is_fr_by b ys ≡ Ok false → Ok 0 ≡ past_mate_cigar b ys
      unfolding past_mate_cigar placed_pair overhang_at
      cigar-apart e = simp (le-ltb (length b) 32 h, le-ltb most_ops (length ys) k, e) (go (valid_mapped ys))
        where
          go : (v : Bool) → ◌≡◌ {A = Answer ℕ} (Ok 0) (cond v (Ok 0) (Ok 0))
          go true = refl
          go false = refl

      pub cigar-is : {r : Answer ℕ} {fr : Answer Bool} {z : ℤ} {xs : List ℕ} → valid_mapped ys ≡ true → fr ≡ is_fr_by b ys → z ≡ mate_pos_of b → xs ≡ ys → r ≡ pair_overhang fr b z xs → r ≡ past_mate_cigar b ys
      unfolding past_mate_cigar
      cigar-is e f g x q = simp (le-ltb (length b) 32 h, le-ltb most_ops (length ys) k, e) (rw (← f, ← g, ← x) q)

-- ---- the mate's text

module _ (s : List ℕ) (n : ℕ) (z : ℤ) (e : measured_text s ≡ Some (record { ops = n; refs = z })) where
  pub text_taken : strict s ≡ true
  unfolding measured_text
  text_taken = (ops_some (strict s) _ _ _ _ e).0

  pub text_count : length (text_ops s) ≡ n
  unfolding measured_text
  text_count = (ops_some (strict s) _ _ _ _ e).1

  pub text_span : clamp32 (pos (sum_of ref_len (text_ops s))) ≡ z
  unfolding measured_text
  text_span = (ops_some (strict s) _ _ _ _ e).2

module _ (b s d : List ℕ) where
  pub text_short : length b < 32 → past_mate_text b s d ≡ keeps (Err ShortRecord) d
  unfolding past_mate_text
  text_short h = simp (lt-ltb (length b) 32 h)

  module _ (h : 32 ≤ length b) where
    pub text-bad : measured_text s ≡ None → past_mate_text b s d ≡ keeps (Ok (record { bases = 0; written = 0 })) d
    unfolding past_mate_text measured_text
    text-bad e = simp (le-ltb (length b) 32 h, ops_bad (strict s) _ _ e)

    module _ (n : ℕ) (z : ℤ) (e : measured_text s ≡ Some (record { ops = n; refs = z })) where
      pub text-many : most_ops < n → past_mate_text b s d ≡ keeps (Err TooManyOps) d
      unfolding past_mate_text
      text-many k = simp (le-ltb (length b) 32 h, text_taken s n z e, lt-ltb most_ops (length (text_ops s)) (omega (arith, text_count s n z e)))

      pub text-left : (fr : Answer Bool) → n ≤ most_ops → fr ≡ is_fr_with_mate b z → past_mate_text b s d ≡ pair_list_left fr b (text_ops s) d
      unfolding past_mate_text
      text-left fr k f = simp (le-ltb (length b) 32 h, text_taken s n z e, le-ltb most_ops (length (text_ops s)) (omega (arith, text_count s n z e)), text_span s n z e) (rw f)

-- 4, 6, or the list
module _ (b xs d : List ℕ) where
  pub list_over : (r : Refusal) → list_left (Err r) b xs d ≡ keeps (Err r) d
  unfolding list_left
  list_over r = refl

  module _ (p : Option PairPlaces) where
    pub list-room : length d < length xs → list_left (Ok p) b xs d ≡ keeps (Err NoRoom) d
    unfolding list_left
    list-room l = simp (lt-ltb (length d) (length xs) l)

    pub list_is : length xs ≤ length d → list_left (Ok p) b xs d ≡ record { answer = Ok (record { bases = bases_at (Ok p) b xs; written = length xs }); left = splice d 0 xs }
    unfolding list_left
    list_is l = simp (le-ltb (length d) (length xs) l)

left_sums : (x y : Option ℤ) (b xs d : List ℕ) → list_left (both_places x y) b xs d
    ≡ cond (is_over (both_places x y)) (keeps (Err Overflow) d)
    (cond (ltb (length d) (length xs)) (keeps (Err NoRoom) d) (record { answer = Ok (record { bases = bases_at (both_places x y) b xs; written = length xs }); left = splice d 0 xs }))
unfolding list_left
left_sums (Some p) (Some m) b xs d = refl
left_sums (Some p) None b xs d = refl
left_sums None y b xs d = refl

pub left_is : (fr : Bool) (b : List ℕ) (m : ℤ) (xs d : List ℕ) → list_left (placed_pair fr b m) b xs d
    ≡ cond (is_over (placed_pair fr b m)) (keeps (Err Overflow) d)
    (cond (ltb (length d) (length xs)) (keeps (Err NoRoom) d) (record { answer = Ok (record { bases = bases_at (placed_pair fr b m) b xs; written = length xs }); left = splice d 0 xs }))
unfolding placed_pair list_left
left_is true b m xs d = left_sums (plus_one (record { 0 = pos_of b })) (plus_one (record { 0 = m })) b xs d
left_is false b m xs d = refl

-- the written list is what the room's first places hold
pub take_splice : (d xs : List ℕ) (n : ℕ) → length xs ≡ n → take n (splice d 0 xs) ≡ xs
unfolding splice
take_splice d xs n e = take_at xs _ n e
