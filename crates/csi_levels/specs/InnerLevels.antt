-- What the functions of the levels ask: few levels left, few bits, and a region inside.
use Rattle.std.specs.Prelude.{ℕ, ◌+◌, ◌*◌, ◌≤◌, ◌<◌, ◌^◌}

pub record Sound (left shift beg last : ℕ) : Type 0 where
  pub few : left ≤ 8
  pub bits : 3 * left + shift ≤ 44
  pub order : beg ≤ last
  pub whole : last < 2 ^ (3 * left + shift)
