-- The answer, test by test, as the functions of `receive` come to it.
use Prim.Native.Nat.{ℕ, ◌+◌, ◌*◌, ◌/◌, ◌≤◌, ◌<◌}
use Rattle.std.specs.Prelude.{None, Option, Some, Ok, Err}
use Rattle.receive_rules.specs.declared.Part.{Part}
use Rattle.answers.specs.Answer.{Answer}
use mathlib.Core.Path.{◌≡◌, sym, ap, ◌∙◌}
use mathlib.Core.Bool.{Bool, true, false}
use mathlib.Core.List.{List}
use native.Mathlib.Omega.{arith}
use borrow.Author.Tests.{lt-ltb, le-ltb}
use lib.ListN.{length, take, drop}
use lib.Seq.{drop-drop}
use Rattle.lists.proofs.Splices.{part_of_front}
use Rattle.sam.specs.Record.{name_len_of, op_count_of, seq_len_of, ops_start, ops_in, bases_start, quals_start, tags_start, op_bytes}
use Rattle.sam.specs.Bases.{bases_of, packed}
use Rattle.sam.specs.Parts.{part, name_part, ops_part, bases_part, quals_part, tags_part, record_bases}
use Rattle.oplist.specs.Ops.{record_ops}
use Rattle.answers.specs.declared.Refusal.TheVariants.{ReceivedShort, ReceivedCut}
use Rattle.clip_rules.specs.declared.Plan.{Plan}
use Rattle.record_rules.specs.Written.{Change, new_name, new_ops}
use Rattle.record_rules.specs.InnerPlan.{planned_ops}
use Rattle.record_rules.proofs.PlanLaws.{ops_lie}
use Rattle.record_rules.proofs.PartLaws.{bases_left}
use Rattle.receive_rules.specs.Receiving.{same, same_header, compared, weighed}
use Rattle.receive_rules.specs.InnerCompared.{behind_ops, behind_header}
use Rattle.receive_rules.specs.declared.Part.TheVariants.{Header, Ops, Bases, Qualities, Tags}

-- ---- the parts of the received record beside the stretches that are compared

module _ (g b : List ℕ) where
  pub name-part : (n : ℕ) → n ≡ name_len_of b → name_len_of g ≡ name_len_of b → same (take n (drop 32 g)) (take n (drop 32 b)) ≡ same (name_part g) (name_part b)
  name-part n e f =
      ap (λ (k : ℕ). same (take k (drop 32 g)) (take n (drop 32 b))) (e ∙ sym f) ∙ ap (λ (k : ℕ). same (name_part g) (take k (drop 32 b))) e

  pub ops-part : (start : Bool) (p : Plan) (at n m : ℕ) → tags_start b ≤ length b → at ≡ 32 + name_len_of b → n ≡ op_count_of b → m ≡ op_count_of g → name_len_of g ≡ name_len_of b
      → same (take (4 * m) (drop at g)) (op_bytes (planned_ops start (ops_in b at n) p)) ≡ same (ops_part g) (op_bytes (planned_ops start (record_ops b) p))
  ops-part start p at n m t e f k q =
      ap (λ (i : ℕ). same (take (4 * m) (drop i g)) (op_bytes (planned_ops start (ops_in b at n) p))) {x = at} {y = ops_start g} (omega arith)
      ∙ ap (λ (i : ℕ). same (take (4 * i) (drop (ops_start g) g)) (op_bytes (planned_ops start (ops_in b at n) p))) k
      ∙ ap (λ (i : ℕ). same (ops_part g) (op_bytes (planned_ops start (ops_in b i n) p))) e
      ∙ ap (λ (i : ℕ). same (ops_part g) (op_bytes (planned_ops start (ops_in b (ops_start b) i) p))) f
      ∙ ap (λ (xs : List ℕ). same (ops_part g) (op_bytes (planned_ops start xs p))) (sym (ops_lie b t))

  module _ (from n x y : ℕ) (e : seq_len_of g ≡ n) (f : from + n ≤ seq_len_of b) where
    pub bases-part : x ≡ bases_start g → y ≡ bases_start b
        → same (take ((n + 1) / 2) (drop x g)) (packed (take n (drop from (bases_of (drop y b))))) ≡ same (bases_part g) (packed (part (record_bases b) from n))
    bases-part i j =
        ap (λ (k : ℕ). same (take ((k + 1) / 2) (drop x g)) (packed (take n (drop from (bases_of (drop y b)))))) (sym e)
        ∙ ap (λ (k : ℕ). same (take ((seq_len_of g + 1) / 2) (drop k g)) (packed (take n (drop from (bases_of (drop y b)))))) i
        ∙ ap (λ (k : ℕ). same (bases_part g) (packed (take n (drop from (bases_of (drop k b)))))) j
        ∙ ap (λ (l : List ℕ). same (bases_part g) (packed l)) (bases_left b from n f)

    pub quals-part : x ≡ quals_start g → y ≡ quals_start b → same (take n (drop x g)) (take n (drop (y + from) b)) ≡ same (quals_part g) (part (quals_part b) from n)
    quals-part i j =
        ap (λ (k : ℕ). same (take k (drop x g)) (take n (drop (y + from) b))) (sym e)
        ∙ ap (λ (k : ℕ). same (take (seq_len_of g) (drop k g)) (take n (drop (y + from) b))) i
        ∙ ap (λ (k : ℕ). same (quals_part g) (take n (drop (k + from) b))) j
        ∙ ap (same (quals_part g)) (ap (take n) (sym (drop-drop from (quals_start b) b)) ∙ sym (part_of_front (drop (quals_start b) b) from n (seq_len_of b) f))

  pub tags-part : (x y : ℕ) → x ≡ tags_start g → y ≡ tags_start b → same (drop x g) (drop y b) ≡ same (tags_part g) (tags_part b)
  tags-part x y i j = ap (λ (k : ℕ). same (drop k g) (drop y b)) i ∙ ap (λ (k : ℕ). same (tags_part g) (drop k b)) j

-- ---- the answer, from a part on; t, u, v are what the code found

module _ (g b : List ℕ) (from n : ℕ) (t : Bool) (e : t ≡ same (bases_part g) (packed (part (record_bases b) from n))) where
  pub tail_bases : t ≡ false → (Ok (Some Bases)) ≡ behind_ops g b from n
  tail_bases f = simp (sym e ∙ f)

  module _ (u : Bool) (h : u ≡ same (quals_part g) (part (quals_part b) from n)) where
    pub tail-quals : t ≡ true → u ≡ false → (Ok (Some Qualities)) ≡ behind_ops g b from n
    tail-quals f k = simp (sym e ∙ f, sym h ∙ k)

    module _ (v : Bool) (i : v ≡ same (tags_part g) (tags_part b)) where
      pub tail-tags : t ≡ true → u ≡ true → v ≡ false → (Ok (Some Tags)) ≡ behind_ops g b from n
      tail-tags f k l = simp (sym e ∙ f, sym h ∙ k, sym i ∙ l)

      pub tail-same : t ≡ true → u ≡ true → v ≡ true → (Ok None) ≡ behind_ops g b from n
      tail-same f k l = simp (sym e ∙ f, sym h ∙ k, sym i ∙ l)

module _ (g b : List ℕ) (c : Change) (t : Bool) (e : t ≡ same (name_part g) (new_name b c)) where
  module _ (u : Bool) (h : u ≡ same (ops_part g) (new_ops b c)) where
    pub ops-differ : t ≡ true → u ≡ false → (Ok (Some Ops)) ≡ behind_header g b c
    ops-differ f k = simp (sym e ∙ f, sym h ∙ k)

    pub ops-same : t ≡ true → u ≡ true → (r : Answer (Option Part)) → r ≡ behind_ops g b c.from c.len → r ≡ behind_header g b c
    ops-same f k r q = q ∙ simp (sym e ∙ f, sym h ∙ k)

-- ---- the answer

module _ (g b : List ℕ) (c : Change) where
  pub header_differs : same_header g b c ≡ false → (Ok (Some Header)) ≡ compared g b c
  unfolding compared
  header_differs e = simp e

  pub header_same : same_header g b c ≡ true → (r : Answer (Option Part)) → r ≡ behind_header g b c → r ≡ compared g b c
  unfolding compared
  header_same e r f = f ∙ simp e

  pub received_short : length g < 32 → Err ReceivedShort ≡ weighed g b c
  unfolding weighed
  received_short h = simp (lt-ltb (length g) 32 h)

  pub received_cut : 32 ≤ length g → length g < tags_start g → Err ReceivedCut ≡ weighed g b c
  unfolding weighed
  received_cut h k = simp (le-ltb (length g) 32 h, lt-ltb (length g) (tags_start g) k)

  pub received_whole : 32 ≤ length g → tags_start g ≤ length g → compared g b c ≡ weighed g b c
  unfolding weighed
  received_whole h k = simp (le-ltb (length g) 32 h, le-ltb (length g) (tags_start g) k)
