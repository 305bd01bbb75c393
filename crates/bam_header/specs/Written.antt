-- SAM specification 4.2, the other way round: the bytes that stand before the records, of a text and references. What `Header` reads is held to them.
use Rattle.std.specs.Prelude.{ℕ, ◌<◌, List, [], ◌∷◌, ◌++◌, length}
use Rattle.sam.specs.Record.{uint32}

-- "name", with the NUL that ends it, and "l_ref"
pub record Reference : Type 0 where
  pub name : List ℕ
  pub size : ℕ

-- "l_name; name; l_ref"
unfoldable pub reference : Reference → List ℕ
reference r = uint32 (length r.name) ++ (r.name ++ uint32 r.size)

unfoldable pub all_of : List Reference → List ℕ
all_of [] = []
all_of (r ∷ rs) = reference r ++ all_of rs

-- "magic; l_text; text; n_ref", and the references
unfoldable pub head_bytes : List ℕ → List Reference → List ℕ
head_bytes text refs = 66 ∷ 65 ∷ 77 ∷ 1 ∷ (uint32 (length text) ++ (text ++ (uint32 (length refs) ++ all_of refs)))

-- the sizes of names are numbers of 32 bits
abbrev pub SmallNames : List Reference → Type 0
SmallNames [] = Unit
SmallNames (r ∷ rs) = (length r.name < 4294967296) × SmallNames rs
