-- What is put behind what was put is put with it; a run of stores is put; decimal is as many digits as there are.
use Prim.Native.Nat.{ℕ, suc, ◌+◌, ◌≤◌}
use mathlib.Core.Path.{◌≡◌, refl, sym, ap, ◌∙◌, subst}
use mathlib.Core.List.{List, [], ◌∷◌, ◌++◌, append_assoc, append-nil}
use native.Mathlib.Omega.{arith}
use lib.IntN.{ℤ, pos, negsuc, nat_abs}
use lib.ListN.{length, take, drop, length-append}
use lib.Seq.{sets, sets-eq, length-sets, take_at, take-take, length-take-le}
use Rattle.decimal.specs.Decimal.{decimal}
use Rattle.decimal.specs.Inner.{Width, last_digits}
use Rattle.decimal.proofs.DigitLaws.{decimal-digits, length_digits}
use Rattle.put_text.specs.Puts.{Put, sign_of, signed_decimal}

pub put_then : {a b c : List ℕ} {at m r : ℕ} (vs ws : List ℕ) → Put a at vs m b → Put b m ws r c → Put a at (vs ++ ws) r c
put_then {a} {b} {c} {at} {m} {r} vs ws p q =
    let n : at + length (vs ++ ws) ≡ m + length ws = let l = length-append vs ws in let e = p.next in omega arith in record {
      next = q.next ∙ sym n;
      same = q.same ∙ p.same;
      head =
          ap (λ (k : ℕ). take k c) n ∙ q.head ∙ ap (λ (k : ℕ). take k b ++ ws) p.next ∙ ap (λ (l : List ℕ). l ++ ws) p.head ∙ append_assoc (take at a) vs ws;
    }

-- of what was put only the memory before it is wanted
pub put_dropped : {d d' : List ℕ} {at r : ℕ} (vs : List ℕ) → at ≤ length d → Put d at vs r d' → Put d at [] at d'
put_dropped {d} {d'} {at} vs h p =
    let l : length (take at d) ≡ at = length-take-le at d h in record {
      next = omega arith;
      same = p.same;
      head =
          ap (λ (k : ℕ). take k d') {x = at + 0} {y = at} (omega arith)
          ∙ sym (take-take at (at + length vs) d' (omega arith))
          ∙ ap (take at) p.head
          ∙ take_at (take at d) vs at l
          ∙ sym (append-nil (take at d));
    }

pub put_sets : (d : List ℕ) (at : ℕ) (vs : List ℕ) → at + length vs ≤ length d → Put d at vs (at + length vs) (sets d at vs)
put_sets d at vs h =
    let l : length (take at d ++ vs) ≡ at + length vs = length-append (take at d) vs ∙ ap (λ (k : ℕ). k + length vs) (length-take-le at d (omega arith)) in record {
      next = refl;
      same = length-sets d at vs;
      head =
          ap (take (at + length vs)) (sets-eq vs d at h)
          ∙ take_at (take at d ++ vs) (drop (at + length vs) d) (at + length vs) l;
    }

-- other names for the same
pub put_as : {d d' e' : List ℕ} {at r s : ℕ} (vs : List ℕ) {ws : List ℕ} → vs ≡ ws → r ≡ s → d' ≡ e' → Put d at vs r d' → Put d at ws s e'
put_as {d} {d'} {e'} {at} {r} {s} vs {ws} p q m h =
    let h₁ : Put d at ws r d' = subst (λ (l : List ℕ). Put d at l r d') p h in
    let h₂ : Put d at ws s d' = subst (λ (k : ℕ). Put d at ws k d') q h₁ in
    subst (λ (l : List ℕ). Put d at ws s l) m h₂

pub put_decimal : (n r : ℕ) → Width n r → (d d' : List ℕ) (at : ℕ) → at + r ≤ length d → d' ≡ sets d at (last_digits r n) → Put d at (decimal n) (at + r) d'
put_decimal n r w d d' at h e =
    let l = length_digits r n in
    put_as (last_digits r n) (sym (decimal-digits n r w)) (ap (λ (k : ℕ). at + k) l) (sym e) (put_sets d at (last_digits r n) (omega arith))

-- a sign and the number without it
pub signed_is : (z : ℤ) → sign_of z ++ decimal (nat_abs z) ≡ signed_decimal z
unfolding signed_decimal
signed_is (pos n) = refl
signed_is (negsuc n) = ap (λ (k : ℕ). 45 ∷ decimal k) {x = suc n} {y = n + 1} (omega arith)
