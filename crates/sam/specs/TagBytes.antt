-- SAM specification 4.2.4, the other way round: the bytes of tags. What `Tags` reads is held to them.
use Rattle.std.specs.Prelude.{ℕ, ◌*◌, ◌<◌, ◌≡◌, true, List, [], ◌∷◌, ◌++◌, length}
use Rattle.lists.specs.Lists.{Each}
use Rattle.sam.specs.Record.{uint32}
use Rattle.sam.specs.Tags.{among, number_size, Tag, Tags, Then}

-- text is without NUL up to its end
abbrev pub NoNul : List ℕ → Type 0
NoNul s = Each (λ x. x ≡ 0 → ⊥) s

-- a value of the listed types: a character; a number; text (Z H) and its NUL; an array, its type, its count and so many numbers
pub data Proper (t : Tag) : Type 0 where
  character : t.kind ≡ 65 → length t.value ≡ 1 → Proper t
  number : number_size t.kind ≡ length t.value → 0 < length t.value → Proper t
  text : (s : List ℕ) → among t.kind (90 ∷ 72 ∷ []) ≡ true → NoNul s → t.value ≡ s ++ (0 ∷ []) → Proper t
  array : (k n : ℕ) (xs : List ℕ) → t.kind ≡ 66 → 0 < number_size k → n < 4294967296 → length xs ≡ number_size k * n → t.value ≡ k ∷ (uint32 n ++ xs) → Proper t

-- "tag; val_type; value"
abbrev pub bytes_of : Tag → List ℕ
bytes_of t = t.first ∷ t.second ∷ t.kind ∷ t.value

unfoldable pub all_bytes : List Tag → List ℕ
all_bytes [] = []
all_bytes (t ∷ ts) = bytes_of t ++ all_bytes ts

-- tags, and what follows them
unfoldable pub followed : List Tag → Tags → Tags
followed [] a = a
followed (t ∷ ts) a = Then t (followed ts a)
