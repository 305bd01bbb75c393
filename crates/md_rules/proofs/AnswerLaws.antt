-- Which case of the answer a call's tests lead to.
use Prim.Native.Nat.{ℕ, ◌≤◌, ◌<◌}
use Rattle.std.specs.Prelude.{Err, Ok}
use Rattle.answers.specs.Answer.{Answer}
use mathlib.Core.Path.{◌≡◌, refl, sym}
use mathlib.Core.Bool.{Bool, true, false, cond, not}
use mathlib.Core.List.{List}
use borrow.Author.Tests.{lt-ltb, le-ltb}
use lib.Dec.{ltb}
use lib.ListN.{length}
use Rattle.lists.specs.Lists.{splice}
use Rattle.lists.specs.Runs.{holds}
use Rattle.lists.proofs.Absurd.{never}
use Rattle.oplist.specs.Ops.{most_ops}
use Rattle.answers.specs.Settled.{Outcome, keeps}
use Rattle.answers.specs.declared.Refusal.TheVariants.{TooManyOps, BadMd, MatchesTold, MdDisagrees, NoRoom}
use Rattle.md_rules.specs.Md.{well_formed, columns_of}
use Rattle.md_rules.specs.Rule.{is_told, agrees, told, match_ops}

module _ (xs s d : List ℕ) where
  pub too_many : most_ops < length xs → match_ops xs s d ≡ keeps (Err TooManyOps) d
  unfolding match_ops
  too_many h = simp (lt-ltb most_ops (length xs) h)

  module _ (h : length xs ≤ most_ops) where
    pub malformed : well_formed s ≡ false → match_ops xs s d ≡ keeps (Err BadMd) d
    unfolding match_ops
    malformed f = simp (le-ltb most_ops (length xs) h, f)

    module _ (f : well_formed s ≡ true) where
      pub told-apart : holds is_told xs ≡ true → match_ops xs s d ≡ keeps (Err MatchesTold) d
      unfolding match_ops
      told-apart t = simp (le-ltb most_ops (length xs) h, f, t)

      module _ (t : holds is_told xs ≡ false) where
        pub disagrees : agrees xs (columns_of s) ≡ false → match_ops xs s d ≡ keeps (Err MdDisagrees) d
        unfolding match_ops
        disagrees a = simp (le-ltb most_ops (length xs) h, f, t, a)

        module _ (a : agrees xs (columns_of s) ≡ true) where
          pub no_room : length d < length (told xs (columns_of s)) → match_ops xs s d ≡ keeps (Err NoRoom) d
          unfolding match_ops
          no_room r = simp (le-ltb most_ops (length xs) h, f, t, a, lt-ltb (length d) (length (told xs (columns_of s))) r)

          pub replaced : length (told xs (columns_of s)) ≤ length d
              → match_ops xs s d ≡ record { answer = Ok (length (told xs (columns_of s))); left = splice d 0 (told xs (columns_of s)) }
          unfolding match_ops
          replaced r = simp (le-ltb most_ops (length xs) h, f, t, a, le-ltb (length d) (length (told xs (columns_of s))) r)

-- an answer was not refused
pub answered : (xs s d : List ℕ) (n : ℕ) → (match_ops xs s d).answer ≡ Ok n → (well_formed s ≡ true) × (holds is_told xs ≡ false) × (agrees xs (columns_of s) ≡ true) × (n ≡ length (told xs (columns_of s)))
unfolding match_ops
answered xs s d n = go (ltb most_ops (length xs)) (well_formed s) (holds is_told xs) (agrees xs (columns_of s)) (ltb (length d) (length (told xs (columns_of s))))
  where
    go : (t f h a r : Bool)
        → (cond {A = Outcome (Answer ℕ)} t (keeps (Err TooManyOps) d)
        (cond (not f) (keeps (Err BadMd) d)
        (cond h (keeps (Err MatchesTold) d)
        (cond (not a) (keeps (Err MdDisagrees) d)
        (cond r (keeps (Err NoRoom) d)
        (record { answer = Ok (length (told xs (columns_of s))); left = splice d 0 (told xs (columns_of s)) })))))).answer ≡ Ok n
        → (f ≡ true) × (h ≡ false) × (a ≡ true) × (n ≡ length (told xs (columns_of s)))
    go true f h a r e = never (cc)
    go false false h a r e = never (cc)
    go false true true a r e = never (cc)
    go false true false false r e = never (cc)
    go false true false true true e = never (cc)
    go false true false true false e = let p : length (told xs (columns_of s)) ≡ n = cc in (refl, refl, refl, sym p)
