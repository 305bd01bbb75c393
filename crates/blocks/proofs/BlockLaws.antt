-- Bytes that are moved to the front, and what a read did.
use Prim.Native.Nat.{ℕ, zero, suc, ◌+◌, ◌-◌, ◌≤◌, ◌<◌}
use mathlib.Core.Path.{◌≡◌, refl, sym, ap, subst, ◌∙◌}
use mathlib.Core.Bool.{true, false}
use mathlib.Core.Logic.{◌⊎◌, inl, inr, ◌≢◌}
use mathlib.Core.List.{List, [], ◌∷◌, ◌++◌}
use native.Mathlib.Omega.{arith}
use lib.IntN.{ℤ, pos, negsuc}
use lib.ListN.{length, take, drop, length-drop, take-append-drop}
use lib.Seq.{take-take, take-append-le, take_at, drop_at, length-take-le, take-nil}
use borrow.Author.Tests.{ne_eqb}
use Rattle.lists.proofs.Absurd.{never}
use Rattle.blocks.specs.Fill.{is_over, is_failed, source_of, clamp_len, Filled, given, Gathers, Gathers.starts, Gathers.reads}
use Rattle.blocks.specs.declared.Read.{Read}
use Rattle.blocks.specs.declared.Source.{Source}
use Rattle.blocks.specs.declared.Source.TheVariants.{Open, Ended, Failed, Failing}

-- ---- bytes that are moved to the front

-- the bytes from u on of the first h
pub drop-take : (u h : ℕ) (b : List ℕ) → drop u (take h b) ≡ take (h - u) (drop u b)
drop-take zero h b = ap (λ (k : ℕ). take k b) {x = h} {y = h - 0} (omega arith)
drop-take (suc u) zero b = sym (ap (λ (k : ℕ). take k (drop (suc u) b)) {x = 0 - suc u} {y = 0} (omega arith))
drop-take (suc u) (suc h) [] = sym (take-nil (suc h - suc u))
drop-take (suc u) (suc h) (x ∷ b) = drop-take u h b ∙ ap (λ (k : ℕ). take k (drop u b)) {x = h - u} {y = suc h - suc u} (omega arith)

-- n bytes of block from u on, copied to its front
pub moved : (block : List ℕ) (u n : ℕ) → u + n ≤ length block → take n (take 0 block ++ take n (drop u block) ++ drop (0 + n) block) ≡ take n (drop u block)
moved block u n h =
    let l : length (take n (drop u block)) ≡ n = length-take-le n (drop u block) (omega (arith, length-drop u block)) in
    take_at (take n (drop u block)) (drop (0 + n) block) n l

-- ---- a read

-- a read that gave none and did not fail found the end of the input
pub ended_is : (s : Source) → is_over s ≡ true → is_failed s ≡ false → s ≡ Ended
ended_is Open o f = never (cc)
ended_is Ended o f = refl
ended_is Failed o f = never (cc)
ended_is Failing o f = never (cc)

pub filled : (block block' : List ℕ) (have : ℕ) (got : ℤ) (n room : ℕ) → n ≡ clamp_len got room → room ≡ length block - have → length block' ≡ length block → take have block' ≡ take have block
    → Filled block have (record { have = have + n; source = source_of got n }) block'
filled block block' have got n room e q l k = record {
  got = got;
  is = ap (λ (m : ℕ). record { have = have + m; source = source_of got m }) (e ∙ ap (clamp_len got) q);
  same = l;
  kept = k;
}

-- it gave n bytes
pub filled_some : (block new block' : List ℕ) (have n : ℕ) → n ≤ length new → length new ≡ length block - have → length block' ≡ length block
    → take have block' ≡ take have block → n ≢ 0 → Filled block have (record { have = have + n; source = Open }) block'
filled_some block new block' have n h q l k some =
    subst (λ (x : Source). Filled block have (record { have = have + n; source = x }) block') (simp (ne_eqb n 0 some))
    (filled block block' have (pos n) n (length new) (omega (arith, h)) q l k)

-- it gave none
pub filled_none : (block block' : List ℕ) (have : ℕ) (got : ℤ) → 0 ≡ clamp_len got (length block - have) → length block' ≡ length block → take have block' ≡ take have block
    → Filled block have (record { have = have; source = source_of got 0 }) block'
filled_none block block' have got e l k =
    subst (λ (m : ℕ). Filled block have (record { have = m; source = source_of got 0 }) block') {x = have + 0} {y = have} (omega arith)
    (filled block block' have got 0 (length block - have) e refl l k)

-- the bytes that it gave stand behind those at hand
pub given_read : (block new block' : List ℕ) (have n : ℕ) → n ≤ length new → have ≤ length block → (rest : List ℕ) → block' ≡ take have block ++ (new ++ rest)
    → drop have (take (have + n) block') ≡ take n new
given_read block new block' have n h k rest e =
    drop-take have (have + n) block'
    ∙ ap (λ (m : ℕ). take m (drop have block')) {x = have + n - have} {y = n} (omega arith)
    ∙ ap (λ (l : List ℕ). take n (drop have l)) e
    ∙ ap (take n) (drop_at (take have block) (new ++ rest) have (length-take-le have block k))
    ∙ take-append-le n new rest h

module _ {block block' : List ℕ} {have : ℕ} {r : Read} (f : Filled block have r block') where
  pub fill_more : have ≤ r.have
  fill_more = omega (arith, ap (λ (q : Read). q.have) f.is)

  -- it gave none, or the bytes at hand are more
  pub fill_some : (is_over r.source ≡ true) ⊎ (have < r.have)
  fill_some = go f.got (clamp_len f.got (length block - have)) f.is
    where
      go : (got : ℤ) (n : ℕ) → r ≡ record { have = have + n; source = source_of got n } → (is_over r.source ≡ true) ⊎ (have < r.have)
      go (pos k) zero e = inl (ap (λ (q : Read). is_over q.source) e)
      go (negsuc k) zero e = inl (ap (λ (q : Read). is_over q.source) e)
      go got (suc n) e = inr (omega (arith, ap (λ (q : Read). q.have) e))

  pub fill_grows : is_over r.source ≡ false → have < r.have
  fill_grows e = go fill_some
    where
      go : (is_over r.source ≡ true) ⊎ (have < r.have) → have < r.have
      go (inl f) = never (cc)
      go (inr h) = h

  -- what it gave stands behind the bytes at hand
  pub fill_behind : take r.have block' ≡ take have block ++ given have r block'
  fill_behind =
      sym (take-append-drop have (take r.have block'))
      ∙ ap (λ (l : List ℕ). l ++ given have r block') (take-take have r.have block' fill_more ∙ f.kept)

-- what the first reads gave is at hand
pub gathered : {read block : List ℕ} {r : Read} → Gathers read r block → take r.have block ≡ read
gathered starts = refl
gathered (reads {block' = block'} {s = s} {r = r} g f) = fill_behind f ∙ ap (λ (l : List ℕ). l ++ given s.have r block') (gathered g)
