-- One op after another: what the reader left behind it is what was asked, and what is left is the rest.
use Prim.Native.Nat.{ℕ, zero, suc, ◌+◌, ◌-◌, ◌*◌, ◌≤◌}
use Rattle.std.specs.Prelude.{None, Some}
use mathlib.Core.Path.{◌≡◌, refl, sym, ap, ◌∙◌}
use mathlib.Core.Bool.{Bool, true, false, ◌&&◌, and-false}
use mathlib.Core.List.{List, [], ◌∷◌, ◌++◌}
use native.Mathlib.Omega.{arith}
use lib.ListN.{length, take, drop, set, length-set, length-append}
use lib.Seq.{sets, take_all, take_at}
use lib.Dec.{ltb}
use borrow.Author.Tests.{ltb-true, ltb-false}
use Rattle.lists.proofs.Absurd.{never}
use Rattle.lists.specs.Lists.{splice}
use Rattle.sam.specs.Op.{code_of, op_of}
use Rattle.text_rules.specs.Text.{is_row, text_ops}
use Rattle.text_rules.specs.Strict.{strict}
use Rattle.tokens.specs.InnerToken.{OpAt}
use Rattle.tokens.proofs.TextLaws.{at-end}
use Rattle.validity.specs.InnerClass.{Class, Class.Reference, Class.Other, Class.Soft, Class.Hard, Class.Unknown}
use Rattle.validity.specs.InnerStages.{code_class, class_of, step_of, accept_of, is_wrong, is_inner_class, stage_after}
use Rattle.validity.specs.declared.Stage.{Stage}
use Rattle.validity.specs.declared.Stage.TheVariants.{Start, Good}
use Rattle.validity.proofs.StageLaws.{long_class, wrong_accept, valid_run}
use Rattle.read_text.specs.InnerRead.{Onward, taken_from, ReadTo}
use Rattle.parsed_rules.proofs.PutLaws.{put_one, put_none, put_all}

-- ---- stores

-- a store past the end changes nothing
pub set_past : (d : List ℕ) (n x : ℕ) → length d ≤ n → set d n x ≡ d
set_past [] n x h = refl
set_past (y ∷ d) zero x h = absurd (omega arith)
set_past (y ∷ d) (suc n) x h = ap (λ (l : List ℕ). y ∷ l) (set_past d n x (omega arith))

no_room : (d : List ℕ) (n : ℕ) (xs : List ℕ) → length d ≤ n → sets d n (take (length d - n) xs) ≡ d
no_room d n xs h = let k : length d - n ≡ 0 = omega arith in rw k refl

stored : (d : List ℕ) (n o : ℕ) (xs rest : List ℕ) → xs ≡ o ∷ rest
    → sets d n (take (length d - n) xs) ≡ sets (set d n o) (n + 1) (take (length (set d n o) - (n + 1)) rest)
stored d n o xs rest e = go (ltb n (length d)) refl ∙ ap (λ (k : ℕ). sets (set d n o) (n + 1) (take (k - (n + 1)) rest)) (sym (length-set d n o))
  where
    go : (t : Bool) → ltb n (length d) ≡ t → sets d n (take (length d - n) xs) ≡ sets (set d n o) (n + 1) (take (length d - (n + 1)) rest)
    go true q = sym (put_one d (length d) n xs o rest (ltb-true n (length d) q) e)
    go false q =
        let h = ltb-false n (length d) q in
        let l : length (set d n o) ≤ n + 1 = simp length-set (omega arith) in
        no_room d n xs (omega arith)
        ∙ sym (set_past d n o (omega arith))
        ∙ sym (no_room (set d n o) (n + 1) rest l)
        ∙ ap (λ (k : ℕ). sets (set d n o) (n + 1) (take (k - (n + 1)) rest)) (length-set d n o)

-- ---- the way on

module _ (s : List ℕ) where
  pub on_from : (p q r : Stage) (n m k i j l : ℕ) (d e f : List ℕ) → Onward s p n i d q m j e → Onward s q m j e r k l f → Onward s p n i d r k l f
  on_from p q r n m k i j l d e f x y = record {
    ahead = omega (arith, x.ahead, y.ahead);
    inside = y.inside;
    few = omega (arith, x.few, y.few);
    room = y.room ∙ x.room;
    row = x.row ∙ y.row;
    number = x.number ∙ y.number;
    stage = x.stage ∙ y.stage;
    stores = x.stores ∙ y.stores;
  }

  module _ (p : Stage) (n i len code next : ℕ) (o : OpAt s i len code next) where
    op-class : class_of (op_of len code) ≡ code_class code
    op-class =
        let c : code_of (op_of len code) ≡ code = omega (arith, o.known) in
        long_class (op_of len code) (omega (arith, o.some, o.known)) ∙ ap code_class c

    op-stage : stage_after p (text_ops (drop i s)) ≡ stage_after (step_of p (code_class code)) (text_ops (drop next s))
    unfolding stage_after
    op-stage = ap (stage_after p) o.ops ∙ ap (λ (k : Class). stage_after (step_of p k) (text_ops (drop next s))) op-class

    pub op-on : (q : Stage) (d e : List ℕ) → q ≡ step_of p (code_class code) → e ≡ set d n (op_of len code) → Onward s p n i d q (n + 1) next e
    op-on q d e u v = record {
      ahead = omega (arith, o.ahead);
      inside = o.inside;
      few = omega (arith, o.ahead);
      room = ap length v ∙ length-set d n (op_of len code);
      row = o.row;
      number = ap (λ (xs : List ℕ). n + length xs) o.ops ∙ omega arith;
      stage = op-stage ∙ ap (λ (t : Stage). stage_after t (text_ops (drop next s))) (sym u);
      stores = stored d n (op_of len code) (text_ops (drop i s)) (text_ops (drop next s)) o.ops
          ∙ ap (λ (xs : List ℕ). sets xs (n + 1) (take (length xs - (n + 1)) (text_ops (drop next s)))) (sym v);
    }

    pub op-wrong : is_wrong (step_of p (code_class code)) ≡ true → taken_from s p i ≡ false
    op-wrong w =
        ap (λ (t : Stage). is_row (drop i s) && accept_of t) op-stage
        ∙ ap (λ (b : Bool). is_row (drop i s) && b) (wrong_accept (step_of p (code_class code)) (text_ops (drop next s)) w)
        ∙ and-false (is_row (drop i s))

  pub same_taken : (p q : Stage) (n m i j : ℕ) (d e : List ℕ) → Onward s p n i d q m j e → taken_from s p i ≡ taken_from s q j
  same_taken p q n m i j d e x = rw (x.row, x.stage) refl

  -- ---- from the start

  pub strict_taken : taken_from s Start 0 ≡ strict s
  unfolding strict
  strict_taken = ap (λ (b : Bool). is_row s && b) (valid_run (text_ops s))

  module _ (p : Stage) (n i : ℕ) (d e : List ℕ) (x : Onward s Start 0 0 d p n i e) (h : length s ≤ i) where
    ended : taken_from s p i ≡ accept_of p
    unfolding stage_after
    ended = let z = at-end s i 0 false h in rw (z.0, z.1) refl

    verdict : strict s ≡ accept_of p
    verdict = sym strict_taken ∙ same_taken Start p 0 n 0 i d e x ∙ ended

    pub read_none : accept_of p ≡ false → ReadTo s d None e
    read_none a = verdict ∙ a

    pub read_all : accept_of p ≡ true → ReadTo s d (Some n) e
    read_all a =
        let z = at-end s i 0 false h in
        let c : length (text_ops s) ≡ n + length (text_ops (drop i s)) = omega (arith, x.number) in
        let k : length (text_ops s) ≡ n = c ∙ ap (λ (xs : List ℕ). n + length xs) z.1 ∙ omega arith in (
          verdict ∙ a,
          k,
          omega (arith, x.few, x.inside),
          sym (put_none e (length e) n (text_ops (drop i s)) z.1) ∙ sym x.stores
              ∙ ap (λ (k : ℕ). sets d 0 (take k (text_ops s))) {x = length d - 0} {y = length d} (omega arith) ∙ put_all d (text_ops s),
        )

-- an inner op leaves what is well as it is
pub inner_good : (k : Class) → is_inner_class k ≡ true → Good ≡ step_of Good k
inner_good Reference e = refl
inner_good Other e = refl
inner_good Soft e = never (cc)
inner_good Hard e = never (cc)
inner_good Unknown e = never (cc)

-- ---- what was read

-- memory that holds an op for every two bytes holds them all
pub held : (s d e : List ℕ) (n : ℕ) → ReadTo s d (Some n) e → length s ≤ length d * 2 → (n ≤ length e) × (take n e ≡ text_ops s)
unfolding splice
held s d e n r h =
    let xs = text_ops s in
    let k = r.1 in
    let q : e ≡ xs ++ drop (0 + length xs) d = r.3 ∙ ap (splice d 0) (take_all (length d) xs (omega (arith, k, r.2))) in
    let l : length e ≡ length xs + length (drop (0 + length xs) d) = ap length q ∙ length-append xs (drop (0 + length xs) d) in
    (omega (arith, l, k), ap (take n) q ∙ take_at xs (drop (0 + length xs) d) n k)
