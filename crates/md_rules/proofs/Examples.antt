-- Worked texts and lists.
use Prim.Native.Nat.{ℕ}
use Rattle.std.specs.Prelude.{Err, Ok}
use Rattle.answers.specs.Answer.{Answer}
use mathlib.Core.Path.{◌≡◌, refl}
use mathlib.Core.Bool.{true, false}
use mathlib.Core.List.{List, [], ◌∷◌}
use Rattle.lists.specs.Lists.{splice}
use Rattle.lists.specs.Runs.{holds}
use Rattle.answers.specs.Settled.{Outcome, keeps}
use Rattle.answers.specs.declared.Refusal.TheVariants.{BadMd, MatchesTold, MdDisagrees, NoRoom}
use Rattle.md_rules.specs.Md.{fits, well_formed, columns_from}
use Rattle.md_rules.specs.Rule.{joined, runs, bases, lost_at, op_agrees, op_leaves, op_told, agrees, told, match_ops}

-- the empty text, a letter alone, no number at the end, `^` with no letter, a small letter; and `0`
pub malformed : (well_formed [] ∷ well_formed (65 ∷ []) ∷ well_formed (49 ∷ 65 ∷ []) ∷ well_formed (49 ∷ 94 ∷ 49 ∷ []) ∷ well_formed (49 ∷ 97 ∷ 49 ∷ []) ∷ well_formed (48 ∷ []) ∷ [])
    ≡ (false ∷ false ∷ false ∷ false ∷ false ∷ true ∷ [])
unfolding fits
malformed = refl

-- 1S3M1I1M2D0D1M with `2A1^CG01`: 1S 2= 1X 1I 1= 2D 0D 1=, with a place more than there are and with one less
abbrev into : List ℕ → Outcome (Answer ℕ)
into d = match_ops (20 ∷ 48 ∷ 17 ∷ 16 ∷ 34 ∷ 2 ∷ 16 ∷ []) (50 ∷ 65 ∷ 49 ∷ 94 ∷ 67 ∷ 71 ∷ 48 ∷ 49 ∷ []) d

pub replaced : into (1 ∷ 1 ∷ 1 ∷ 1 ∷ 1 ∷ 1 ∷ 1 ∷ 1 ∷ 9 ∷ []) ≡ record { answer = Ok 8; left = 20 ∷ 39 ∷ 24 ∷ 17 ∷ 23 ∷ 34 ∷ 2 ∷ 23 ∷ 9 ∷ [] }
unfolding match_ops fits columns_from joined runs bases lost_at op_agrees op_leaves op_told agrees told holds splice
replaced = refl

pub full : into (0 ∷ 0 ∷ 0 ∷ 0 ∷ 0 ∷ 0 ∷ 0 ∷ []) ≡ keeps (Err NoRoom) (0 ∷ 0 ∷ 0 ∷ 0 ∷ 0 ∷ 0 ∷ 0 ∷ [])
unfolding match_ops fits columns_from joined runs bases lost_at op_agrees op_leaves op_told agrees told holds splice
full = refl

abbrev of : List ℕ → List ℕ → Outcome (Answer ℕ)
of xs s = match_ops xs s (0 ∷ 0 ∷ [])

-- the empty list with `0`; 0M with `0`; `0A0C0` is one run; 1M1M with `2` are two
pub small : ((of [] (48 ∷ [])).left ∷ (of (0 ∷ []) (48 ∷ [])).left ∷ (of (32 ∷ []) (48 ∷ 65 ∷ 48 ∷ 67 ∷ 48 ∷ [])).left ∷ (of (16 ∷ 16 ∷ []) (50 ∷ [])).left ∷ [])
    ≡ ((0 ∷ 0 ∷ []) ∷ (0 ∷ 0 ∷ []) ∷ (40 ∷ 0 ∷ []) ∷ (23 ∷ 23 ∷ []) ∷ [])
unfolding match_ops fits columns_from joined runs bases lost_at op_agrees op_leaves op_told agrees told holds splice
small = refl

-- 20 before 21, 21 before 22; left-over MD; 2D3D with `0^ACGTA0`, and with `0^AC0^GTA0`; 2D with `0^ACG0`
pub refused : ((of (7 ∷ []) []).answer ∷ (of (7 ∷ []) (49 ∷ [])).answer ∷ (of (16 ∷ []) (50 ∷ [])).answer
    ∷ (of (34 ∷ 50 ∷ []) (48 ∷ 94 ∷ 65 ∷ 67 ∷ 71 ∷ 84 ∷ 65 ∷ 48 ∷ [])).answer ∷ (of (34 ∷ 50 ∷ []) (48 ∷ 94 ∷ 65 ∷ 67 ∷ 48 ∷ 94 ∷ 71 ∷ 84 ∷ 65 ∷ 48 ∷ [])).answer
    ∷ (of (34 ∷ []) (48 ∷ 94 ∷ 65 ∷ 67 ∷ 71 ∷ 48 ∷ [])).answer ∷ [])
    ≡ (Err BadMd ∷ Err MatchesTold ∷ Err MdDisagrees ∷ Err MdDisagrees ∷ Ok 2 ∷ Err MdDisagrees ∷ [])
unfolding match_ops fits columns_from joined runs bases lost_at op_agrees op_leaves op_told agrees told holds splice
refused = refl
