-- What a program read and wrote, of an input and an output that say their bytes: all that was read stands behind the first bytes that it had, it was taken from the input, and what was written
-- stands behind what the output held.
use Rattle.std.specs.Prelude.{ℕ, ◌≡◌, List, ◌++◌, Option}
use Rattle.std.specs.Io.KnownBytes.{Consumes, Appends}

pub record Tied (first : List ℕ) (had left held holds : Option (List ℕ)) (read written : List ℕ) : Type 0 where
  pub more : List ℕ
  pub behind : read ≡ first ++ more
  pub took : Consumes had left more
  pub wrote : Appends held holds written
