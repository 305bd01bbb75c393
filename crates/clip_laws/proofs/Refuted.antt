-- Demand 3 has teeth: four clippers that document 01 names don't meet it at the start, nor does one that copies at the end, each shown by a list of one or two ops.
-- antt computes what they leave.
use mathlib.Core.Path.{◌≡◌, refl, sym, ap, ◌∙◌}
use Rattle.std.specs.Prelude.{Ok}
use Rattle.answers.specs.Answer.{Answer}
use mathlib.Core.Bool.{true, false, cond}
use mathlib.Core.List.{List, [], ◌∷◌}
use Prim.Native.Nat.{ℕ, zero, suc, ◌≤◌}
use native.Mathlib.Omega.{arith}
use lib.Dec.{leb, lit<, lit≤}
use lib.ListN.{length, take, replicate, length-replicate}
use lib.Seq.{take_all}
use Rattle.lists.specs.Lists.{facing, splice, sum_of}
use Rattle.lists.specs.Runs.{leading, after_leading}
use Rattle.sam.specs.Op.{op_of, is_ref, ref_len}
use Rattle.answers.specs.Settled.{Outcome, keeps}
use Rattle.ops.specs.Ops.{is_read, read_len, is_clip}
use Rattle.clip_run_rules.specs.Clips.{outer_hard, next_soft, inside, leading_clips}
use Rattle.oplist.specs.Ops.{most_ops}
use Rattle.clip_rules.specs.Clipping.{goes, ends, taking, soft_of, upgraded, cut_into, clip}
use Rattle.clip_rules.specs.Answer.{clipped_ops, clipped_up_to, written}
use Rattle.clip_rules.specs.declared.Clipped.{Clipped}
use Rattle.clip_laws.specs.Demand3.{is_inner, Takes, most, Clipper, Given, Demand3Start, Demand3End, Itself}
use Rattle.clip_laws.proofs.Demand3.{take_written, same_start, same_end}

-- ---- the lists: 1M, 1H1M, 1I

matched : List ℕ
matched = op_of 1 0 ∷ []

hard : List ℕ
hard = op_of 1 5 ∷ (op_of 1 0 ∷ [])

inserted : List ℕ
inserted = op_of 1 1 ∷ []

matched_taken : Takes most_ops matched
unfolding matched is_inner sum_of
matched_taken =
    record {
      shape = record { hards = []; softs = []; inner = matched; softs' = []; hards' = []; list_is = refl; hards_are = tt; softs_are = tt; inner_are = (refl, tt); inner_some = lit< tt; softs'_are = tt; hards'_are = tt };
      few = lit< tt;
      short = lit< tt;
    }

hard_taken : Takes most_ops hard
unfolding hard is_inner sum_of
hard_taken =
    record {
      shape = record { hards = op_of 1 5 ∷ []; softs = []; inner = op_of 1 0 ∷ []; softs' = []; hards' = []; list_is = refl; hards_are = (refl, tt); softs_are = tt; inner_are = (refl, tt); inner_some = lit< tt; softs'_are = tt; hards'_are = tt };
      few = lit< tt;
      short = lit< tt;
    }

inserted_taken : Takes most_ops inserted
unfolding inserted is_inner sum_of
inserted_taken =
    record {
      shape = record { hards = []; softs = []; inner = inserted; softs' = []; hards' = []; list_is = refl; hards_are = tt; softs_are = tt; inner_are = (refl, tt); inner_some = lit< tt; softs'_are = tt; hards'_are = tt };
      few = lit< tt;
      short = lit< tt;
    }

matched_most : 1 ≤ most matched_taken.shape true
unfolding matched matched_taken leading_clips leading is_clip sum_of read_len is_read
matched_most = lit≤ tt

hard_most : 2 ≤ most hard_taken.shape true
unfolding hard hard_taken leading_clips leading is_clip sum_of read_len is_read
hard_most = lit≤ tt

inserted_most : 1 ≤ most inserted_taken.shape true
unfolding inserted inserted_taken leading_clips leading is_clip sum_of read_len is_read
inserted_most = lit≤ tt

given : Given most_ops Itself true matched matched 1
given = record { holds = refl; takes = matched_taken; within = matched_most }

given_end : Given most_ops Itself false matched matched 1
unfolding matched matched_taken leading_clips leading is_clip sum_of read_len is_read
given_end = record { holds = refl; takes = matched_taken; within = lit≤ tt }

-- ---- "A clipper that copies its list breaks demand 3's hard-clip floor"

abbrev copies : Clipper (Answer Clipped)
copies xs a d = written xs 0 d

pub copier : Demand3Start most_ops Itself copies → ⊥
unfolding matched outer_hard leading sum_of
copier D =
    let O = D.once matched matched 1 given in
    let e = same_start copies matched 1 O.ys matched O.count 0 O.gives (λ d room. refl) in
    let z : outer_hard matched ≡ 0 = refl in
    let f = ap outer_hard e.0 in
    omega (arith, O.clips.floor)

abbrev copies_end : Clipper (Answer ℕ)
copies_end xs a d = record { answer = Ok (length xs); left = splice d 0 xs }

pub end_copier : Demand3End most_ops Itself copies_end → ⊥
unfolding matched outer_hard leading sum_of
end_copier D =
    let O = D.once matched matched 1 given_end in
    let e = same_end copies_end matched 1 O.ys matched O.gives (λ d room. refl) in
    let z : outer_hard (facing false matched) ≡ 0 = refl in
    let f = ap (λ (l : List ℕ). outer_hard (facing false l)) e in
    omega (arith, O.clips.floor)

-- ---- "One that clips honestly once and then only copies breaks [..] demand 3 for b beyond the first cut": 1H1M, which 2M by 1 leaves, by 2

abbrev once_only : Clipper (Answer Clipped)
once_only xs a d = cond (leb 1 (outer_hard xs)) (written xs 0 d) (clipped_up_to most_ops xs a true d)

pub honest_once : Demand3Start most_ops Itself once_only → ⊥
unfolding hard outer_hard leading sum_of
honest_once D =
    let O = D.once hard hard 2 (record { holds = refl; takes = hard_taken; within = hard_most }) in
    let e = same_start once_only hard 2 O.ys hard O.count 0 O.gives (λ d room. refl) in
    let z : outer_hard hard ≡ 1 = refl in
    let f = ap outer_hard e.0 in
    omega (arith, O.clips.floor)

-- ---- "An invented count fails the lost reference length": the amount for the count

abbrev invents : Clipper (Answer Clipped)
invents xs a d = written (clipped_ops xs a true) a d

pub invented : Demand3Start most_ops Itself invents → ⊥
unfolding inserted is_read is_ref is_clip read_len ref_len leading sum_of after_leading goes ends taking soft_of upgraded cut_into outer_hard next_soft inside leading_clips clip clipped_ops
invented D =
    let O = D.once inserted inserted 1 (record { holds = refl; takes = inserted_taken; within = inserted_most }) in
    let e = same_start invents inserted 1 O.ys (clipped_ops inserted 1 true) O.count 1 O.gives (λ d room. refl) in
    let z : sum_of ref_len inserted ≡ 0 = refl in
    omega (arith, O.lost, e.1)

-- ---- "Refusing everything, or one constant reply": whatever the reply

zeros_soft : (n : ℕ) → outer_hard (replicate n 0) ≡ 0
unfolding outer_hard leading sum_of
zeros_soft zero = refl
zeros_soft (suc n) = refl

pub constant : (r : Answer Clipped) → Demand3Start most_ops Itself (λ xs a d. keeps r d) → ⊥
constant r D =
    let O = D.once matched matched 1 given in
    let n = length O.ys in
    let d : List ℕ = replicate n 0 in
    let l : length d ≡ n = length-replicate n 0 in
    let m : d ≡ splice d 0 O.ys = ap (λ (o : Outcome (Answer Clipped)). o.left) (O.gives d (omega arith)) in
    let y : O.ys ≡ d = sym (take_written d O.ys) ∙ ap (take n) (sym m) ∙ take_all n d (omega arith) in
    let f = ap outer_hard y in
    let z = zeros_soft n in
    omega (arith, O.clips.floor)
