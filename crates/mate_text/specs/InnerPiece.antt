-- What the two scans take in of a piece: its number, and the letter that ends it; and how the second goes on, piece by piece.
use Rattle.std.specs.Prelude.{ℕ, ◌≤◌, ◌<◌, ◌≡◌, Bool, true, false, cond, Option, Some, None, List, ℤ, pos, ◌+ℤ◌, length, drop}
use Rattle.signed.specs.Whole.{clamp32}
use Rattle.mate_rules.specs.Pieces.{is_ref_letter, is_clip_letter}
use Rattle.mate_rules.specs.InnerScan.{scan}
use Rattle.mate_text.specs.declared.Trail.{Trail}
use Rattle.mate_text.specs.declared.Ahead.{Ahead}

-- the leading clips, and whether no other letter was met
pub record Lead : Type 0 where
  pub clips : ℤ
  pub on : Bool

-- they go up to the first letter that is no clip
unfoldable pub lead_piece : Lead → ℤ → ℕ → Lead
lead_piece s n b =
    cond s.on (cond (is_clip_letter b) (record { clips = clamp32 (s.clips +ℤ n); on = true }) (record { clips = s.clips; on = false })) s

-- the clips behind a reference letter with one clip more: none are counted before the first
abbrev pub with_clip : Option ℤ → ℤ → Option ℤ
with_clip None n = None
with_clip (Some c) n = Some (clamp32 (c +ℤ n))

-- the reference length, and the clips since its last letter
unfoldable pub trail_piece : Trail → ℤ → ℕ → Trail
trail_piece s n b =
    cond (is_ref_letter b) (record { refs = clamp32 (s.refs +ℤ n); clips = Some (pos 0) })
    (cond (is_clip_letter b) (record { refs = s.refs; clips = with_clip s.clips n }) s)

-- from a run that holds x, with s found before the place i, to r: what was found before a place further on, at which a piece begins or the text ends. What is left of the text
-- comes to the same from there
pub record GoesOn (text : List ℕ) (x : ℕ) (s : Trail) (i : ℕ) (r : Ahead) : Type 0 where
  pub left : scan trail_piece 0 r.found (drop r.at text) ≡ scan trail_piece x s (drop i text)
  pub onward : i ≤ r.at
  pub ahead : i < length text → i < r.at
  pub within : r.at ≤ length text
