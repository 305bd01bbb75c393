-- The three answers by the tests of the definition, each of which is one of the fold's: so each is given exactly when its words say, and folded back it is the Rust's number.
use Prim.Native.Nat.{ℕ}
use Rattle.std.specs.Prelude.{Err, None, Ok, Option, Some}
use Rattle.answers.specs.Answer.{Answer}
use mathlib.Core.Path.{◌≡◌, refl, sym, ap, ◌∙◌}
use mathlib.Core.Bool.{Bool, true, false, cond, not}
use mathlib.Core.List.{List}
use borrow.Author.Tests.{ltb-false}
use lib.Dec.{eqb}
use lib.IntN.{ℤ, pos, ◌+ℤ◌, ◌-ℤ◌}
use lib.ListN.{length}
use Rattle.lists.proofs.Absurd.{false_true}
use Rattle.sam.specs.Columns.{columns, refs}
use Rattle.sam.specs.Record.{is_short, pos_of, flags_of, is_unmapped, is_reverse}
use Rattle.oplist.specs.Ops.{record_ops}
use Rattle.clip_run_rules.specs.Clips.{leading_clips, clips_after_reference}
use Rattle.answers.specs.declared.Pos1.{Pos1}
use Rattle.answers.specs.declared.Refusal.TheVariants.{ShortRecord}
use Rattle.answers.proofs.Numbers.{not-zero}
use Rattle.ends_rules.specs.Ends.{plus_one, five_prime, has_no_ops, as_unclipped, unclipped_at, unclipped_of, tell_unclipped}
use Rattle.ends_rules.specs.declared.Unclipped.{Unclipped}
use Rattle.ends_rules.proofs.CaseLaws as Cases
use Rattle.ends_rules.proofs.Meaning as Ends
use Rattle.promises.specs.Table.{first, refuses}
use Rattle.promises.specs.Rows.{unclipped_rows}
use Rattle.promises.specs.ThreeAnswers.{lacks_ops, five_of, ThreeAnswers, as_rust, sum_as_int, from_next, rust_number}
use Rattle.promises.proofs.EndRows.{unclipped_5prime_from_raw_bam}

module _ (b : List ℕ) where
  -- the number that is told is the first row's
  told : (u : Answer Unclipped) → unclipped_of b ≡ u → (tell_unclipped u).number ≡ first (unclipped_rows b)
  told u e = ap (λ (v : Answer Unclipped). (tell_unclipped v).number) (sym e) ∙ (unclipped_5prime_from_raw_bam b).number

  five_is : (p : Pos1) → unclipped_of b ≡ (Ok (Unclipped.At p)) → five_of b ≡ p.0
  five_is p e = go (is_reverse (flags_of b)) refl
    where
      at : ℤ
      at = pos_of b +ℤ pos 1

      xs : List ℕ
      xs = record_ops b

      go : (t : Bool) → is_reverse (flags_of b) ≡ t → cond t (at +ℤ pos (refs (columns xs)) +ℤ pos (clips_after_reference xs) -ℤ pos 1) (at -ℤ pos (leading_clips xs)) ≡ p.0
      go true r = Ends.reverse_is b p r e
      go false r = Ends.forward-is b p r e

  module _ (p : Pos1) (m : is_unmapped (flags_of b) ≡ false) (o : lacks_ops b ≡ false) (f : refuses (unclipped_rows b) ≡ false) (h : five_of b ≡ p.0) where
    -- neither of the other answers, and no refusal
    settle : (u : Answer Unclipped) → unclipped_of b ≡ u → unclipped_of b ≡ (Ok (Unclipped.At p))
    settle (Ok (Unclipped.At q)) e = e ∙ ap (λ (z : ℤ). (Ok (Unclipped.At (record { 0 = z })))) (sym (five_is q e) ∙ h)
    settle (Ok Unclipped.Unmapped) e = false_true (sym m ∙ (Ends.unmapped_only b e).1)
    settle (Ok Unclipped.NoOps) e = false_true (sym o ∙ sym (Ends.no_ops_is b) ∙ (Ends.no_ops_only b e).2)
    settle (Err r) e = false_true (sym f ∙ ap (λ (n : ℕ). not (eqb n 0)) (sym (told (Err r) e)) ∙ ap not (not-zero r))

-- "a position, unmapped, or no ops, which an overrun area also gives"
pub three_answers : (b : List ℕ) → ThreeAnswers b (unclipped_of b)
three_answers b =
    record {
      unmapped = record { only = Ends.unmapped_only b; always = λ w. sym (Cases.is-unmapped b (ltb-false (length b) 32 w.0) w.1) };
      no_ops = record {
        only = λ e. let w = Ends.no_ops_only b e in (w.0, w.1, sym (Ends.no_ops_is b) ∙ w.2);
        always = λ w. sym (Cases.no_ops b (ltb-false (length b) 32 w.0) w.1 (Ends.no_ops_is b ∙ w.2));
      };
      position = λ p. record {
        only = λ e. let w = Ends.position-only b p e in (w.0, sym (Ends.no_ops_is b) ∙ w.1, ap (λ (n : ℕ). not (eqb n 0)) (sym (told b (Ok (Unclipped.At p)) e)), five_is b p e);
        always = λ w. settle b p w.0 w.1 w.2 w.3 (unclipped_of b) refl;
      };
    }

-- "Demand 2 then equals Rust after the three answers are folded back to its numbers"
as_sum : (s : Option ℤ) → as_rust (as_unclipped s) ≡ sum_as_int s
as_sum (Some z) = refl
as_sum None = refl

as_place : (s : Option ℤ) (reverse : Bool) (xs : List ℕ) → as_rust (unclipped_at s reverse xs) ≡ sum_as_int (from_next s reverse xs)
as_place (Some at) reverse xs = as_sum (five_prime reverse at xs)
as_place None reverse xs = refl

pub as-rust : (b : List ℕ) → as_rust (unclipped_of b) ≡ rust_number b
unfolding unclipped_of rust_number
as-rust b = rw (sym (Ends.no_ops_is b)) (go (is_short b) (is_unmapped (flags_of b)) (has_no_ops b))
  where
    rest : Answer Unclipped
    rest = unclipped_at (plus_one (record { 0 = pos_of b })) (is_reverse (flags_of b)) (record_ops b)

    number : Answer ℤ
    number = sum_as_int (from_next (plus_one (record { 0 = pos_of b })) (is_reverse (flags_of b)) (record_ops b))

    go : (s t u : Bool) → as_rust (cond s (Err ShortRecord) (cond t (Ok Unclipped.Unmapped) (cond u (Ok Unclipped.NoOps) rest))) ≡ cond s (Err ShortRecord) (cond t (Ok (pos 0)) (cond u (Ok (pos 2147483647)) number))
    go true t u = refl
    go false true u = refl
    go false false true = refl
    go false false false = as_place (plus_one (record { 0 = pos_of b })) (is_reverse (flags_of b)) (record_ops b)
