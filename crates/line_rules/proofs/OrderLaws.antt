-- The calls, asked one after the other, give the first of 1, 7, 6, 2, 4: each can only give some of these, the bin beside 4 what the length gives, and all choices of them are computed.
use Prim.Native.Nat.{ℕ, ◌≤◌}
use Rattle.std.specs.Prelude.{Err, None, Ok, Option, Some}
use Rattle.answers.specs.Answer.{Answer}
use mathlib.Core.Path.{◌≡◌, refl, sym, ap, ◌∙◌}
use mathlib.Core.Bool.{Bool, true, false, cond, ◌&&◌}
use mathlib.Core.List.{List, [], ◌∷◌}
use native.Mathlib.Omega.{arith}
use lib.Dec.{ltb, eqb}
use lib.ListN.{length, length-replicate}
use lib.Signed.{lt_z}
use lib.IntN.{ℤ, pos, ◌+ℤ◌, ◌-ℤ◌}
use borrow.Author.Tests.{le-ltb, ltb-false, eq-eqb, eqb-true}
use Rattle.lists.proofs.Absurd.{never}
use Rattle.lists.specs.Lists.{splice, sum_of}
use Rattle.lists.specs.Runs.{holds}
use Rattle.signed.specs.Whole.{checked}
use Rattle.sam.specs.Op.{ref_len, query_len}
use Rattle.sam.specs.Record.{ops_end, pos_of, flags_of, is_unmapped, is_reverse, is_short}
use Rattle.oplist.specs.Ops.{record_ops}
use Rattle.answers.specs.Answers.{tell_count, tell_int, tell_nat}
use Rattle.answers.specs.Settled.{Outcome, keeps}
use Rattle.answers.specs.declared.Refusal.{Refusal}
use Rattle.answers.specs.declared.Refusal.TheVariants.{ShortRecord, AreaOverrun, Overflow, NoRoom, BadCode}
use Rattle.print_rules.specs.Text.{text_of, any_bad, printed}
use Rattle.length_rules.specs.Lengths.{as_int, checked_ref_length, record_query_length}
use Rattle.ends_rules.specs.Sums.{◌⊕◌}
use Rattle.ends_rules.specs.Ends.{plus_one, five_prime, has_no_ops, as_unclipped, unclipped_at, unclipped_of, tell_unclipped}
use Rattle.ends_rules.specs.declared.Unclipped.{Unclipped}
use Rattle.bin_rules.specs.Bin.{bin_to, reg2bin, bin_up_to, span_of, record_bin, bin_from}
use Rattle.line_rules.specs.Line.{text_room, text_told, refs_told, five_told, bin_told, order, first_of, refusal_of}

-- ---- a test over all numbers of a list

abbrev every : (ℕ → Bool) → List ℕ → Bool
every f [] = true
every f (x ∷ xs) = f x && every f xs

abbrev Among : ℕ → List ℕ → Type 0
Among x xs = holds (eqb x) xs ≡ true

every_at : (f : ℕ → Bool) (x : ℕ) (xs : List ℕ) → every f xs ≡ true → Among x xs → f x ≡ true
unfolding holds
every_at f x [] e h = never (cc)
every_at f x (y ∷ ys) e h = go (every_at f x ys) (f y) refl e (eqb x y) refl h
  where
    go : (every f ys ≡ true → Among x ys → f x ≡ true) → (t : Bool) → f y ≡ t → (t && every f ys) ≡ true → (u : Bool) → eqb x y ≡ u → cond u true (holds (eqb x) ys) ≡ true → f x ≡ true
    go ih true q e' true r h' = ap f (eqb-true x y r) ∙ q
    go ih true q e' false r h' = ih e' h'
    go ih false q e' u r h' = never (cc)

-- the first that is given, asked one after the other
abbrev pub first_given : ℕ → ℕ → ℕ → ℕ → ℕ
first_given p i u n = cond (eqb p 0) (cond (eqb i 0) (cond (eqb u 0) n u) i) p

abbrev agrees : ℕ → ℕ → ℕ → ℕ → Bool
agrees p i u n = eqb (first_of order (p ∷ i ∷ 0 ∷ u ∷ n ∷ [])) (first_given p i u n)

ordered : (p i u n : ℕ) → Among p (0 ∷ 7 ∷ 6 ∷ []) → Among i (0 ∷ 2 ∷ 4 ∷ []) → Among u (0 ∷ 4 ∷ []) → Among n (0 ∷ 4 ∷ i ∷ []) → first_of order (p ∷ i ∷ 0 ∷ u ∷ n ∷ []) ≡ first_given p i u n
unfolding first_of holds
ordered p i u n hp hi hu hn =
    let some4 : List ℕ = 0 ∷ 4 ∷ [] in
    let some24 : List ℕ = 0 ∷ 2 ∷ 4 ∷ [] in
    let a = every_at (λ p. every (λ i. every (λ u. every (λ n. agrees p i u n) (0 ∷ 4 ∷ i ∷ [])) some4) some24) p (0 ∷ 7 ∷ 6 ∷ []) refl hp in
    let b = every_at (λ i. every (λ u. every (λ n. agrees p i u n) (0 ∷ 4 ∷ i ∷ [])) some4) i some24 a hi in
    let c = every_at (λ u. every (λ n. agrees p i u n) (0 ∷ 4 ∷ i ∷ [])) u some4 b hu in
    eqb-true _ _ (every_at (λ n. agrees p i u n) n (0 ∷ 4 ∷ i ∷ []) c hn)

-- ---- the printing

room_length : length text_room ≡ 65536
unfolding text_room
room_length = length-replicate {A = ℕ} 65536 0

abbrev printing : Bool → Bool → Bool → List ℕ → List ℕ → Answer ℕ → Outcome (Answer ℕ)
printing s t u d l x = cond s (keeps (Err ShortRecord) d) (cond t (keeps (Err BadCode) d) (cond u (keeps (Err NoRoom) d) (record { answer = x; left = l })))

same_answer : (s t u : Bool) (d l e m : List ℕ) (x : Answer ℕ) → (printing s t u d l x).answer ≡ (printing s t u e m x).answer
same_answer true t u d l e m x = refl
same_answer false true u d l e m x = refl
same_answer false false true d l e m x = refl
same_answer false false false d l e m x = refl

-- the answer is that of any room of 65,536 bytes
pub any_room : (b d : List ℕ) → length d ≡ 65536 → (printed b d).answer ≡ (printed b text_room).answer
unfolding printed
any_room b d h =
    let n : ℕ = length (text_of (record_ops b)) in
    let l : List ℕ = splice text_room 0 (text_of (record_ops b)) in
    same_answer (is_short b) (any_bad (record_ops b)) (ltb (length d) n) d _ text_room l (Ok n)
    ∙ ap (λ (k : ℕ). (printing (is_short b) (any_bad (record_ops b)) (ltb k n) text_room l (Ok n)).answer) (h ∙ sym room_length)

-- an answer of the printing, by what it says
pub text_refused : (b d : List ℕ) (w : Refusal) → (printed b d).answer ≡ Err w → (printed b d).left ≡ d
unfolding printed
text_refused b d w = go (is_short b) (any_bad (record_ops b)) (ltb (length d) (length (text_of (record_ops b)))) _ _
  where
    go : (s t u : Bool) (l : List ℕ) (n : ℕ) → (printing s t u d l (Ok n)).answer ≡ Err w → (printing s t u d l (Ok n)).left ≡ d
    go true t u l n e = refl
    go false true u l n e = refl
    go false false true l n e = refl
    go false false false l n e = never (cc)

pub record Shown (b d : List ℕ) (n : ℕ) : Type 0 where
  pub long : 32 ≤ length b
  pub count : n ≡ length (text_of (record_ops b))
  pub fits : n ≤ length d
  pub left : (printed b d).left ≡ splice d 0 (text_of (record_ops b))

pub text_shown : (b d : List ℕ) (n : ℕ) → (printed b d).answer ≡ Ok n → Shown b d n
unfolding printed
text_shown b d n e = go (is_short b) refl (any_bad (record_ops b)) refl (ltb (length d) (length (text_of (record_ops b)))) refl
  where
    go : (s : Bool) → is_short b ≡ s → (t : Bool) → any_bad (record_ops b) ≡ t → (u : Bool) → ltb (length d) (length (text_of (record_ops b))) ≡ u → Shown b d n
    go true p t q u r = let f : Err ShortRecord ≡ Ok n = rw p at e in never (cc)
    go false p true q u r = let f : Err BadCode ≡ Ok n = rw (p, q) at e in never (cc)
    go false p false q true r = let f : Err NoRoom ≡ Ok n = rw (p, q, r) at e in never (cc)
    go false p false q false r =
        let f : Ok (length (text_of (record_ops b))) ≡ Ok n = rw (p, q, r) at e in
        let g : length (text_of (record_ops b)) ≡ n = cc in
        let k = ltb-false (length d) (length (text_of (record_ops b))) r in
        record { long = ltb-false (length b) 32 p; count = sym g; fits = omega arith; left = rw (p, q, r) }

-- ---- what each call can give of a record of 32 bytes

module _ (b : List ℕ) (h : 32 ≤ length b) where
  text_among : Among (text_told b).number (0 ∷ 7 ∷ 6 ∷ [])
  unfolding holds text_told printed
  text_among = rw (le-ltb (length b) 32 h) (go (any_bad (record_ops b)) (ltb (length text_room) (length (text_of (record_ops b)))) _)
    where
      go : (t u : Bool) (l : List ℕ) → Among (tell_count (printing false t u text_room l (Ok (length (text_of (record_ops b))))).answer).number (0 ∷ 7 ∷ 6 ∷ [])
      go true u l = refl
      go false true l = refl
      go false false l = refl

  refs_among : Among (refs_told b).number (0 ∷ 2 ∷ 4 ∷ [])
  unfolding holds checked_ref_length as_int
  refs_among = rw (le-ltb (length b) 32 h) (go (ltb (length b) (ops_end b)) (ltb 2147483647 (sum_of ref_len (record_ops b))))
    where
      go : (t u : Bool) → Among (tell_int (cond t (Err AreaOverrun) (cond u (Err Overflow) (Ok (pos (sum_of ref_len (record_ops b))))))).number (0 ∷ 2 ∷ 4 ∷ [])
      go true u = refl
      go false true = refl
      go false false = refl

  pub query_is : record_query_length b ≡ Ok (sum_of query_len (record_ops b))
  unfolding record_query_length
  query_is = rw (le-ltb (length b) 32 h)

five_sum : (s : Option ℤ) → Among (tell_unclipped (as_unclipped s)).number (0 ∷ 4 ∷ [])
unfolding holds
five_sum (Some z) = refl
five_sum None = refl

five_at : (s : Option ℤ) (r : Bool) (xs : List ℕ) → Among (tell_unclipped (unclipped_at s r xs)).number (0 ∷ 4 ∷ [])
unfolding holds
five_at (Some z) r xs = five_sum (five_prime r z xs)
five_at None r xs = refl

five_among : (b : List ℕ) → 32 ≤ length b → Among (five_told b).number (0 ∷ 4 ∷ [])
unfolding holds unclipped_of plus_one
five_among b h = rw (le-ltb (length b) 32 h) (go (is_unmapped (flags_of b)) (has_no_ops b))
  where
    go : (t u : Bool) → Among (tell_unclipped (cond t (Ok Unclipped.Unmapped) (cond u (Ok Unclipped.NoOps) (unclipped_at (plus_one (record { 0 = pos_of b })) (is_reverse (flags_of b)) (record_ops b))))).number (0 ∷ 4 ∷ [])
    go true u = refl
    go false true = refl
    go false false = five_at (Some (pos_of b) ⊕ Some (pos 1)) (is_reverse (flags_of b)) (record_ops b)

-- nothing, 4, or what the length gives
module _ (k : ℕ) where
  last_among : Among k (0 ∷ 4 ∷ k ∷ [])
  unfolding holds
  last_among = rw (eq-eqb k k refl) (go (eqb k 0) (eqb k 4))
    where
      go : (t u : Bool) → cond t true (cond u true true) ≡ true
      go true u = refl
      go false true = refl
      go false false = refl

  bin-to : (z : ℤ) (s : Option ℤ) → Among (tell_nat (bin_to z s)).number (0 ∷ 4 ∷ k ∷ [])
  unfolding holds bin_to
  bin-to z (Some l) = refl
  bin-to z None = refl

  bin-up-to : (z : ℤ) (s : Option ℤ) → Among (tell_nat (bin_up_to z s)).number (0 ∷ 4 ∷ k ∷ [])
  unfolding holds bin_up_to reg2bin
  bin-up-to z (Some e) = bin-to z (checked (e -ℤ pos 1))
  bin-up-to z None = refl

bin-from : (z : ℤ) (n : Answer ℤ) → Among (tell_nat (bin_from z n)).number (0 ∷ 4 ∷ (tell_int n).number ∷ [])
unfolding bin_from
bin-from z (Ok n) = bin-up-to 0 z (checked (z +ℤ span_of n))
bin-from z (Err r) = last_among (tell_int (Err r)).number

bin_among : (b : List ℕ) → 32 ≤ length b → Among (bin_told b).number (0 ∷ 4 ∷ (refs_told b).number ∷ [])
unfolding holds record_bin
bin_among b h = rw (le-ltb (length b) 32 h) (go (lt_z (pos_of b) (pos 0)) (checked_ref_length b))
  where
    go : (t : Bool) (n : Answer ℤ) → Among (tell_nat (cond t (Ok 4680) (bin_from (pos_of b) n))).number (0 ∷ 4 ∷ (tell_int n).number ∷ [])
    go true n = refl
    go false n = bin-from (pos_of b) n

-- ---- the refusal of a record

pub refusal_long : (b : List ℕ) → 32 ≤ length b → refusal_of b ≡ first_given (text_told b).number (refs_told b).number (five_told b).number (bin_told b).number
unfolding refusal_of
refusal_long b h =
    ap (λ (q : ℕ). first_of order ((text_told b).number ∷ (refs_told b).number ∷ q ∷ (five_told b).number ∷ (bin_told b).number ∷ [])) (ap (λ (x : Answer ℕ). (tell_count x).number) (query_is b h))
    ∙ ordered _ _ _ _ (text_among b h) (refs_among b h) (five_among b h) (bin_among b h)

pub refusal_short : (b : List ℕ) → (text_told b).number ≡ 1 → refusal_of b ≡ 1
unfolding refusal_of first_of holds
refusal_short b e = rw e
