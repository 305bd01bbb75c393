-- Which case of the answer a call's tests lead to, and what the measuring pass tells of a list.
use Prim.Native.Nat.{ℕ, ◌+◌, ◌≤◌, ◌<◌}
use Rattle.std.specs.Prelude.{Ok, Err, Some, None, Option}
use Rattle.answers.specs.Answer.{Answer}
use mathlib.Core.Path.{◌≡◌, refl, sym, ap, ◌∙◌}
use mathlib.Core.Bool.{Bool, true, false, cond, ◌||◌}
use mathlib.Core.List.{List}
use native.Mathlib.Omega.{arith}
use borrow.Author.Tests.{lt-ltb, le-ltb}
use lib.Dec.{ltb}
use lib.IntN.{ℤ, pos}
use lib.ListN.{length}
use lib.Signed.{lt_z}
use Rattle.lists.specs.Lists.{sum_of, splice}
use Rattle.lists.proofs.Absurd.{never}
use Rattle.signed.specs.Whole.{natural}
use Rattle.sam.specs.Op.{ref_len}
use Rattle.oplist.specs.Ops.{most_ops}
use Rattle.answers.specs.Settled.{OutcomeTwo, keeps_both}
use Rattle.answers.specs.declared.Refusal.TheVariants.{TooManyOps, NoBlocks, Overflow, NoRoom}
use Rattle.bed_rules.specs.Blocks.{blocks}
use Rattle.bed_rules.specs.Bed.{sizes_of, starts_of, unfit, chrom_end, bed_from, bed_blocks}
use Rattle.bed_rules.specs.InnerWalk.{measured}
use Rattle.bed_rules.specs.declared.Bed.{Bed}
use Rattle.bed_rules.specs.declared.Measured.{Measured}

module _ (start : ℤ) (xs d e : List ℕ) where
  pub too_many : most_ops < length xs → bed_blocks start xs d e ≡ keeps_both (Err TooManyOps) d e
  unfolding bed_blocks
  too_many h = simp (lt-ltb most_ops (length xs) h)

  pub below-zero : length xs ≤ most_ops → lt_z start (pos 0) ≡ true → bed_blocks start xs d e ≡ keeps_both (Err NoBlocks) d e
  unfolding bed_blocks
  below-zero h t = simp (le-ltb most_ops (length xs) h, t)

  module _ (h : length xs ≤ most_ops) (t : lt_z start (pos 0) ≡ false) where
    pub not-fit : unfit xs ≡ true → bed_blocks start xs d e ≡ keeps_both (Err NoBlocks) d e
    unfolding bed_blocks
    not-fit u = simp (le-ltb most_ops (length xs) h, t, u)

    pub fit : unfit xs ≡ false → bed_blocks start xs d e ≡ bed_from (natural start) xs d e
    unfolding bed_blocks
    fit u = simp (le-ltb most_ops (length xs) h, t, u)

module _ (at : ℕ) (xs d e : List ℕ) where
  pub past_end : 2147483647 < chrom_end at xs → bed_from at xs d e ≡ keeps_both (Err Overflow) d e
  unfolding bed_from
  past_end h = simp (lt-ltb 2147483647 (chrom_end at xs) h)

  module _ (h : chrom_end at xs ≤ 2147483647) where
    pub no-room-first : length d < length (blocks xs) → bed_from at xs d e ≡ keeps_both (Err NoRoom) d e
    unfolding bed_from
    no-room-first l = simp (le-ltb 2147483647 (chrom_end at xs) h, lt-ltb (length d) (length (blocks xs)) l)

    module _ (f : length (blocks xs) ≤ length d) where
      pub no-room-second : length e < length (blocks xs) → bed_from at xs d e ≡ keeps_both (Err NoRoom) d e
      unfolding bed_from
      no-room-second l = simp (le-ltb 2147483647 (chrom_end at xs) h, le-ltb (length d) (length (blocks xs)) f, lt-ltb (length e) (length (blocks xs)) l)

      pub done : length (blocks xs) ≤ length e
          → bed_from at xs d e ≡ record { answer = Ok (record { chrom_start = at; chrom_end = chrom_end at xs; block_count = length (blocks xs) }); first = splice d 0 (sizes_of (blocks xs)); second = splice e 0 (starts_of (blocks xs)) }
      unfolding bed_from
      done g = simp (le-ltb 2147483647 (chrom_end at xs) h, le-ltb (length d) (length (blocks xs)) f, le-ltb (length e) (length (blocks xs)) g)

-- an answer was not refused
pub answered : (start : ℤ) (xs d e : List ℕ) (at end n : ℕ) → (bed_blocks start xs d e).answer ≡ Ok (record { chrom_start = at; chrom_end = end; block_count = n }) → (unfit xs ≡ false) × (end ≡ chrom_end at xs)
unfolding bed_blocks bed_from
answered start xs d e at end n =
    go (ltb most_ops (length xs)) (lt_z start (pos 0)) (unfit xs) (ltb 2147483647 (chrom_end (natural start) xs)) (ltb (length d) (length (blocks xs)) || ltb (length e) (length (blocks xs)))
  where
    go : (s t u v w : Bool)
        → (cond {A = OutcomeTwo (Answer Bed)} s (keeps_both (Err TooManyOps) d e)
        (cond (t || u) (keeps_both (Err NoBlocks) d e)
        (cond v (keeps_both (Err Overflow) d e)
        (cond w (keeps_both (Err NoRoom) d e)
        (record { answer = Ok (record { chrom_start = natural start; chrom_end = chrom_end (natural start) xs; block_count = length (blocks xs) }); first = splice d 0 (sizes_of (blocks xs)); second = splice e 0 (starts_of (blocks xs)) }))))).answer ≡ Ok (record { chrom_start = at; chrom_end = end; block_count = n })
        → (u ≡ false) × (end ≡ chrom_end at xs)
    go true t u v w a = never (cc)
    go false true u v w a = never (cc)
    go false false true v w a = never (cc)
    go false false false true w a = never (cc)
    go false false false false true a = never (cc)
    go false false false false false a =
        let g : ◌≡◌ {A = Bed} (record { chrom_start = natural start; chrom_end = chrom_end (natural start) xs; block_count = length (blocks xs) }) (record { chrom_start = at; chrom_end = end; block_count = n }) = cc in
        let p : natural start ≡ at = ap (λ (b : Bed). b.chrom_start) g in
        let q : chrom_end (natural start) xs ≡ end = ap (λ (b : Bed). b.chrom_end) g in
        (refl, omega arith)

-- an answer by the numbers that the call has
pub same_answer : (xs : List ℕ) {n refs : ℕ} (at : ℕ) → refs ≡ sum_of ref_len xs → n ≡ length (blocks xs) → ◌≡◌ {A = Answer Bed} (Ok (record { chrom_start = at; chrom_end = at + refs; block_count = n })) (Ok (record { chrom_start = at; chrom_end = chrom_end at xs; block_count = length (blocks xs) }))
same_answer xs at e f = rw (e, f) refl

-- ---- the measuring pass

pub measured_not : (xs : List ℕ) → unfit xs ≡ true → measured xs ≡ None
unfolding measured
measured_not xs u = rw u refl

pub measured_are : (xs : List ℕ) → unfit xs ≡ false → (n refs : ℕ) → n ≡ length (blocks xs) → refs ≡ sum_of ref_len xs → (Some (record { blocks = n; refs = refs })) ≡ measured xs
unfolding measured
measured_are xs u n refs e f = rw (u, e, f) refl

pub told_nothing : (xs : List ℕ) → measured xs ≡ None → unfit xs ≡ true
unfolding measured
told_nothing xs = go (unfit xs)
  where
    go : (t : Bool) → cond {A = Option Measured} t None (Some (record { blocks = length (blocks xs); refs = sum_of ref_len xs })) ≡ None → t ≡ true
    go true e = refl
    go false e = never (cc)

pub told_blocks : (xs : List ℕ) (got : Measured) → measured xs ≡ Some got → (unfit xs ≡ false) × (got.blocks ≡ length (blocks xs)) × (got.refs ≡ sum_of ref_len xs)
unfolding measured
told_blocks xs got = go (unfit xs)
  where
    go : (t : Bool) → cond {A = Option Measured} t None (Some (record { blocks = length (blocks xs); refs = sum_of ref_len xs })) ≡ Some got → (t ≡ false) × (got.blocks ≡ length (blocks xs)) × (got.refs ≡ sum_of ref_len xs)
    go true e = never (cc)
    go false e =
        let g : ◌≡◌ {A = Measured} (record { blocks = length (blocks xs); refs = sum_of ref_len xs }) got = cc in
        (refl, sym (ap (λ (k : Measured). k.blocks) g), sym (ap (λ (k : Measured). k.refs) g))

-- behind the measuring pass: the call is `bed_from`, and what the pass told is the list's
pub measured_fit : (start : ℤ) (xs d e : List ℕ) (at : ℕ) (got : Measured) → length xs ≤ most_ops → lt_z start (pos 0) ≡ false → at ≡ natural start → measured xs ≡ Some got
    → (bed_blocks start xs d e ≡ bed_from at xs d e) × (got.blocks ≡ length (blocks xs)) × (got.refs ≡ sum_of ref_len xs)
measured_fit start xs d e at got h t p m =
    let told = told_blocks xs got m in
    (fit start xs d e h t told.0 ∙ ap (λ (n : ℕ). bed_from n xs d e) (sym p), told.1, told.2)
