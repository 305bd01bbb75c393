-- Document 02, item 9: "how many ops were examined: the place of the deciding op counted from 1 (a D or N that answers none decides too), the list length if none
-- decides, and 0 for a position before the start."
use Rattle.std.specs.Prelude.{ℕ, ◌+◌, ◌-◌, ◌≤◌, ◌<◌, ◌≡◌, cond, List, [], ◌∷◌, ◌++◌, ltb, length}
use Rattle.lists.specs.Lists.{sum_of}
use Rattle.sam.specs.Op.{ref_len}

-- the reference bases that are reached with each op, if r come before the first
unfoldable pub reached : ℕ → List ℕ → List ℕ
reached r [] = []
reached r (o ∷ xs) = (r + ref_len o) ∷ reached (r + ref_len o) xs

-- the place, counted from 1, of the first number above k; the length where there is none
unfoldable pub first_above : ℕ → List ℕ → ℕ
first_above k [] = 0
first_above k (n ∷ ns) = cond (ltb k n) 1 (first_above k ns + 1)

-- the op that decides at reference base k, counted from 0, is the first with which more than k are reached
unfoldable pub place_of : List ℕ → ℕ → ℕ
place_of xs k = first_above k (reached 0 xs)

-- of a position, and the alignment's start
unfoldable pub examined : List ℕ → ℕ → ℕ → ℕ
examined xs start at = cond (ltb at start) 0 (place_of xs (at - start))

-- THE MEANING of that place: the op holds reference base k and the ops before it don't reach it, or no op does
pub data Deciding (xs : List ℕ) (k n : ℕ) : Type 0 where
  op : (left right : List ℕ) (o : ℕ) → xs ≡ left ++ (o ∷ right) → sum_of ref_len left ≤ k → k < sum_of ref_len left + ref_len o → n ≡ length left + 1 → Deciding xs k n
  none : sum_of ref_len xs ≤ k → n ≡ length xs → Deciding xs k n
