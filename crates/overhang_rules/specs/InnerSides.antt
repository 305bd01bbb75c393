-- The overhang's parts, one for both sides: a reverse read is measured at its left end, a forward read at its right.
-- p and e are the read's first and last position, m and f the mate's.
use Rattle.std.specs.Prelude.{ℕ, ◌+◌, ◌-◌, ◌<◌, ◌≡◌, Bool, false, cond, List, ℤ, pos, ◌+ℤ◌, ◌-ℤ◌}
use Rattle.std.specs.Int.Signed.{lt_z}
use Rattle.signed.specs.Whole.{raised, clamp32}
use Rattle.overhang_rules.specs.Reach.{bases_up_to}
use Rattle.overhang_rules.specs.Overhang.{gap_to, earlier_of, later_of, bases_past}

-- the read ends before its mate begins; for the other side, the mate faces away
abbrev pub short_of : Bool → ℤ → ℤ → ℤ → ℤ → Bool
short_of reverse p e m f = cond reverse (lt_z f p) (lt_z e m)

-- the gap of a read that stops short, to its mate with c soft clipped bases
abbrev pub clip_gap : Bool → ℤ → ℤ → ℤ → ℤ → ℕ → ℕ
clip_gap reverse p e m f c = cond reverse (gap_to p (clamp32 (m -ℤ clamp32 (pos c)))) (gap_to (clamp32 (f +ℤ clamp32 (pos c))) e)

-- the first or the last shared position
abbrev pub meet_at : Bool → ℤ → ℤ → ℤ → ℤ → ℤ
meet_at reverse p e m f = cond reverse (later_of p m) (earlier_of e f)

-- the query bases past a position
abbrev pub past_of : Bool → ℤ → ℤ → List ℕ → ℕ
past_of reverse t p xs = cond reverse (bases_up_to 0 t p xs) (bases_past t p xs)

-- the reference bases past a position, of n from p on; exact where no position is clamped
abbrev pub room_past : Bool → ℤ → ℤ → ℕ → ℕ
room_past reverse t p n = cond reverse (raised t - raised p) (raised p + n - (raised t + 1))

-- no position up to t is clamped within an i32, and a forward read reaches past t
pub record Free (reverse : Bool) (t p : ℤ) (n : ℕ) : Type 0 where
  pub before_last : raised t < 4294967295
  pub reaches : reverse ≡ false → raised t < raised p + n
