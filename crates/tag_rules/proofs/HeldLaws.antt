-- The list that the reader hands back lies in the record, so that every walk over a record's ops reads it; and it is the ops that stand in the CG.
use Prim.Native.Nat.{ℕ, zero, suc, ◌+◌, ◌-◌, ◌*◌, ◌≤◌, ◌<◌}
use Rattle.std.specs.Prelude.{Ok, Err}
use Rattle.answers.specs.Answer.{Answer}
use mathlib.Core.Path.{◌≡◌, refl, sym, ap, ◌∙◌, subst, subst⁻¹}
use mathlib.Core.Bool.{Bool, true, false, cond}
use mathlib.Core.List.{List, [], ◌∷◌, ◌++◌, append_assoc}
use native.Mathlib.Omega.{arith}
use lib.ListN.{length, take, drop, length-append, length-drop}
use lib.Dec.{ltb, eqb}
use lib.Seq.{drop_at, take_at}
use borrow.Author.Tests.{ltb-true, ltb-false, le-ltb, eqb-true, eqb-false}
use Rattle.lists.specs.Lists.{Each}
use Rattle.sam.specs.Record.{byte_at, le32, seq_len_of, ops_end, ops_in, tags_start, uint32, op_bytes}
use Rattle.sam.specs.Tags.{number_size, tag_size, tags_behind, tags_of, Tag, tag_at, Breaks, Then, is_cg, is_op_array, is_placeholder}
use Rattle.sam.specs.TagBytes.{Proper, array, bytes_of, all_bytes}
use Rattle.sam.proofs.TagLaws.{whole, value-length}
use Rattle.sam.proofs.TagArrayLaws.{ops_size}
use Rattle.sam.proofs.PartLaws.{length_op_bytes, read_ops}
use Rattle.std.proofs.Common.{le-leb}
use Rattle.oplist.specs.Ops.{most_long_ops, area_ops, record_ops}
use Rattle.answers.specs.declared.Refusal.{Refusal}
use Rattle.tag_rules.specs.Long.{found, own_list, list_in, first_cg, true_list, part_of, read_from}
use Rattle.tag_rules.specs.Whole.{Front, NoCg, cg_of}
use Rattle.oplist.specs.declared.Area.{Area}
use Rattle.tag_rules.proofs.ListLaws.{short, overrun, ordinary, behind, bases_overrun, tags_walked}
use Rattle.tag_rules.proofs.WalkLaws.{kind_other, numbers-other, list-long, list_is}
use Rattle.tag_rules.proofs.TrueLaws.{first_cg_counts}

-- ---- where the list ends

-- a list ends before a place
abbrev EndsBy : ℕ → Answer Area → Type 0
EndsBy end (Ok got) = got.at + 4 * got.n ≤ end
EndsBy end (Err r) = Unit

module _ (s : List ℕ) (h : 0 < tag_size s) where
  list_ends : (at : ℕ) → EndsBy (at + tag_size s) (list_in (at + 3) (tag_at s))
  list_ends at = go (eqb (byte_at s 2) 66) refl (eqb (byte_at s 3) 73) refl (ltb most_long_ops (le32 s 4)) refl
    where
      go : (t : Bool) → eqb (byte_at s 2) 66 ≡ t → (u : Bool) → eqb (byte_at s 3) 73 ≡ u → (v : Bool) → ltb most_long_ops (le32 s 4) ≡ v
          → EndsBy (at + tag_size s) (list_in (at + 3) (tag_at s))
      go false p u q v r = subst⁻¹ (EndsBy (at + tag_size s)) (kind_other (at + 3) s h (eqb-false (byte_at s 2) 66 p)) tt
      go true p false q v r = subst⁻¹ (EndsBy (at + tag_size s)) (numbers-other (at + 3) s h (eqb-true (byte_at s 2) 66 p) (eqb-false (byte_at s 3) 73 q)) tt
      go true p true q true r =
          subst⁻¹ (EndsBy (at + tag_size s)) (list-long (at + 3) s h (eqb-true (byte_at s 2) 66 p) (eqb-true (byte_at s 3) 73 q) (ltb-true most_long_ops (le32 s 4) r)) tt
      go true p true q false r =
          let z = ops_size s h (eqb-true (byte_at s 2) 66 p) (eqb-true (byte_at s 3) 73 q) in
          let k : at + 3 + 5 + 4 * le32 s 4 ≤ at + tag_size s = omega arith in
          subst⁻¹ (EndsBy (at + tag_size s)) (list_is (at + 3) s h (eqb-true (byte_at s 2) 66 p) (eqb-true (byte_at s 3) 73 q) (ltb-false most_long_ops (le32 s 4) r)) k

later : (e e' : ℕ) → e ≤ e' → (p : Answer Area) → EndsBy e p → EndsBy e' p
later e e' h (Ok got) k = omega arith
later e e' h (Err r) k = tt

walk_in : (without : Answer Area) (e : ℕ) → EndsBy e without → (n : ℕ) (s : List ℕ) (at : ℕ) → at + length s ≤ e → EndsBy e (first_cg without (at + n) (tags_behind n s))
unfolding first_cg tags_behind
walk_in without e o n [] at l = o
walk_in without e o zero (x ∷ s) at l = go (eqb (tag_size (x ∷ s)) 0) refl (is_cg (tag_at (x ∷ s))) refl (walk_in without e o (tag_size (x ∷ s) - 1) s (at + 1) (omega arith))
  where
    go : (t : Bool) → eqb (tag_size (x ∷ s)) 0 ≡ t → (u : Bool) → is_cg (tag_at (x ∷ s)) ≡ u
        → EndsBy e (first_cg without (at + 1 + (tag_size (x ∷ s) - 1)) (tags_behind (tag_size (x ∷ s) - 1) s))
        → EndsBy e (first_cg without (at + 0) (cond t Breaks (Then (tag_at (x ∷ s)) (tags_behind (tag_size (x ∷ s) - 1) s))))
    go true p u q i = tt
    go false p true q i =
        let z = eqb-false (tag_size (x ∷ s)) 0 p in
        let h : 0 < tag_size (x ∷ s) = omega arith in
        let w = whole (x ∷ s) h in
        rw q (later (at + 0 + tag_size (x ∷ s)) e (omega arith) (list_in (at + 0 + 3) (tag_at (x ∷ s))) (list_ends (x ∷ s) h (at + 0)))
    go false p false q i =
        let z = eqb-false (tag_size (x ∷ s)) 0 p in
        let h : 0 < tag_size (x ∷ s) = omega arith in
        let v = value-length (x ∷ s) h in
        let n : at + 1 + (tag_size (x ∷ s) - 1) ≡ at + 0 + (3 + length (tag_at (x ∷ s)).value) = omega arith in
        rw q (subst (λ (k : ℕ). EndsBy e (first_cg without k (tags_behind (tag_size (x ∷ s) - 1) s))) n i)
walk_in without e o (suc n) (x ∷ s) at l =
    subst (λ (k : ℕ). EndsBy e (first_cg without k (tags_behind n s))) {x = at + 1 + n} {y = at + suc n} (omega arith) (walk_in without e o n s (at + 1) (omega arith))

-- the list lies in the record
in_record : (b : List ℕ) → EndsBy (length b) (true_list b)
in_record b = go (ltb (length b) 32) refl (ltb (length b) (ops_end b)) refl (is_placeholder (seq_len_of b) (record_ops b)) refl (ltb (length b) (tags_start b)) refl
  where
    go : (t : Bool) → ltb (length b) 32 ≡ t → (u : Bool) → ltb (length b) (ops_end b) ≡ u → (v : Bool) → is_placeholder (seq_len_of b) (record_ops b) ≡ v
        → (w : Bool) → ltb (length b) (tags_start b) ≡ w → EndsBy (length b) (true_list b)
    go true p u q v r w f = subst⁻¹ (EndsBy (length b)) (short b (ltb-true (length b) 32 p)) tt
    go false p true q v r w f = subst⁻¹ (EndsBy (length b)) (overrun b (ltb-false (length b) 32 p) (ltb-true (length b) (ops_end b) q)) tt
    go false p false q false r w f =
        let k = ltb-false (length b) (ops_end b) q in
        subst⁻¹ (EndsBy (length b)) (ordinary b (ltb-false (length b) 32 p) k r) k
    go false p false q true r true f =
        subst⁻¹ (EndsBy (length b))
        (behind b (ltb-false (length b) 32 p) (ltb-false (length b) (ops_end b) q) r ∙ bases_overrun b (ltb-true (length b) (tags_start b) f))
        tt
    go false p false q true r false f =
        let k = ltb-false (length b) (ops_end b) q in
        let m = ltb-false (length b) (tags_start b) f in
        let l = length-drop (tags_start b) b in
        let z : tags_start b + 0 ≡ tags_start b = omega arith in
        subst⁻¹ (EndsBy (length b)) (behind b (ltb-false (length b) 32 p) k r ∙ tags_walked b m)
        (subst (λ (n : ℕ). EndsBy (length b) (first_cg (own_list b) n (tags_of (drop (tags_start b) b)))) z (walk_in (own_list b) (length b) k 0 (drop (tags_start b) b) (tags_start b) (omega arith)))

module _ (b : List ℕ) (at n : ℕ) (e : true_list b ≡ Ok (record { at = at; n = n })) where
  pub within : at + 4 * n ≤ length b
  within = subst (EndsBy (length b)) e (in_record b)

  -- so every walk over an op list of a record reads it
  pub list_ops : area_ops b at n ≡ ops_in b at n
  unfolding area_ops
  list_ops = simp (le-leb _ _ within)

-- a call that reads the list makes of it what it makes of these ops, or stops as the reader does
module _ {A : Type 0} (stop : Refusal → A) (make : List ℕ → A) (b : List ℕ) where
  pub reads_list : (at n : ℕ) → true_list b ≡ Ok (record { at = at; n = n }) → read_from stop make b (true_list b) ≡ make (area_ops b at n)
  reads_list at n e = ap (read_from stop make b) e ∙ ap make (sym (list_ops b at n e))

-- ---- ops that stand in a record: their part is their bytes

ops-part : (p xs s : List ℕ) → part_of (p ++ (op_bytes xs ++ s)) (Ok (record { at = length p; n = length xs })) ≡ op_bytes xs
ops-part p xs s =
    ap (take (4 * length xs)) (drop_at p (op_bytes xs ++ s) (length p) refl)
    ∙ take_at (op_bytes xs) s (4 * length xs) (length_op_bytes xs)

-- ---- the ops in a CG

module _ (xs : List ℕ) (few : length xs ≤ most_long_ops) where
  cg_proper : Proper (cg_of xs)
  unfolding number_size
  cg_proper = array 73 (length xs) (op_bytes xs) refl (omega arith) (omega arith) (length_op_bytes xs) refl

  cg_list : (at : ℕ) → list_in at (cg_of xs) ≡ Ok (record { at = at + 5; n = length xs })
  unfolding list_in is_op_array
  cg_list at =
      let n : le32 (73 ∷ (uint32 (length xs) ++ op_bytes xs)) 1 ≡ length xs = omega arith in
      simp (n, le-ltb most_long_ops (length xs) few)

-- what the reader hands back of a record whose first CG holds the ops xs: their place, their number, these ops, and their bytes
module _ (p : List ℕ) (f : Front p) (ts : List Tag) (a : Each Proper ts) (n : NoCg ts) (xs s : List ℕ) (few : length xs ≤ most_long_ops) (small : Each (λ o. o < 4294967296) xs) where
  abbrev bytes : List ℕ
  bytes = p ++ (all_bytes ts ++ (bytes_of (cg_of xs) ++ s))

  -- its bytes before the ops
  abbrev ahead : List ℕ
  ahead = p ++ (all_bytes ts ++ (67 ∷ 71 ∷ 66 ∷ 73 ∷ uint32 (length xs)))

  abbrev place : ℕ
  place = length p + length (all_bytes ts) + 8

  place_is : place ≡ length ahead
  place_is =
      omega (arith, length-append p (all_bytes ts ++ (67 ∷ 71 ∷ 66 ∷ 73 ∷ uint32 (length xs))), length-append (all_bytes ts) (67 ∷ 71 ∷ 66 ∷ 73 ∷ uint32 (length xs)))

  parted : bytes ≡ ahead ++ (op_bytes xs ++ s)
  parted =
      sym (append_assoc p (all_bytes ts ++ (67 ∷ 71 ∷ 66 ∷ 73 ∷ uint32 (length xs))) (op_bytes xs ++ s)
      ∙ ap (λ (l : List ℕ). p ++ l) (append_assoc (all_bytes ts) (67 ∷ 71 ∷ 66 ∷ 73 ∷ uint32 (length xs)) (op_bytes xs ++ s)))

  pub held_list : true_list (p ++ (all_bytes ts ++ (bytes_of (cg_of xs) ++ s))) ≡ Ok (record { at = length p + length (all_bytes ts) + 8; n = length xs })
  unfolding is_cg
  held_list =
      first_cg_counts p f ts a n (cg_of xs) s (cg_proper xs few) refl
      ∙ cg_list xs few (length p + length (all_bytes ts) + 3)
      ∙ ap (λ (k : ℕ). found k (length xs)) {x = length p + length (all_bytes ts) + 3 + 5} {y = length p + length (all_bytes ts) + 8} (omega arith)

  pub held_ops : ops_in (p ++ (all_bytes ts ++ (bytes_of (cg_of xs) ++ s))) (length p + length (all_bytes ts) + 8) (length xs) ≡ xs
  held_ops = ap (λ (l : List ℕ). ops_in l place (length xs)) parted ∙ ap (λ (k : ℕ). ops_in (ahead ++ (op_bytes xs ++ s)) k (length xs)) place_is ∙ read_ops ahead xs s small

  pub held_part : part_of (p ++ (all_bytes ts ++ (bytes_of (cg_of xs) ++ s))) (true_list (p ++ (all_bytes ts ++ (bytes_of (cg_of xs) ++ s)))) ≡ op_bytes xs
  held_part =
      ap (part_of bytes) held_list
      ∙ ap (λ (l : List ℕ). part_of l (Ok (record { at = place; n = length xs }))) parted
      ∙ ap (λ (k : ℕ). part_of (ahead ++ (op_bytes xs ++ s)) (Ok (record { at = k; n = length xs }))) place_is
      ∙ ops-part ahead xs s
