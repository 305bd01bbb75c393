-- A turn of lookup's walk: the op holds the reference base, or it is passed.
use Prim.Native.Nat.{ℕ, ◌+◌, ◌-◌, ◌≤◌, ◌<◌}
use mathlib.Core.Path.{◌≡◌, refl, sym}
use mathlib.Core.Bool.{Bool}
use mathlib.Core.List.{List}
use native.Mathlib.Omega.{arith}
use lib.ListN.{length, drop, get_or}
use borrow.Author.Tests.{lt-ltb, le-ltb}
use Rattle.lists.proofs.Walks.{step, done}
use Rattle.sam.specs.Columns.{Off, Spot, past}
use Rattle.sam.specs.Op.{code_of, is_query, query_len, ref_len}
use Rattle.lookup_rules.specs.Lookup.{spot_in, look}
use Rattle.sam.proofs.ColumnLaws.{past_past, spot_eq}

module _ (xs : List ℕ) (i o : ℕ) (e : o ≡ get_or xs i 0) (h : i < length xs) where
  pub look_turn : (b k n q : ℕ) → n ≡ ref_len o → q ≡ query_len o → n ≤ k → past (b + q) (look (drop (i + 1) xs) (k - n)) ≡ past b (look (drop i xs) k)
  unfolding look
  look_turn b k n q f g l =
      let w : ref_len o ≤ k = omega arith in
      rw (step xs i o e h, le-ltb k (ref_len o) w, f, g) (sym (past_past b (query_len o) (look (drop (i + 1) xs) (k - ref_len o))))

  pub look_held : (b k n : ℕ) (q : Bool) → n ≡ ref_len o → q ≡ is_query (code_of o) → k < n → past b (spot_in q k) ≡ past b (look (drop i xs) k)
  unfolding look
  look_held b k n q f g l =
      let w : k < ref_len o = omega arith in
      rw (step xs i o e h, lt-ltb k (ref_len o) w, g) refl

pub look_done : (xs : List ℕ) (i b k : ℕ) → length xs ≤ i → ◌≡◌ {A = Spot} (record { before = b; over = Off }) (past b (look (drop i xs) k))
unfolding look
look_done xs i b k h = rw (done xs i h) (spot_eq (omega arith) refl)
