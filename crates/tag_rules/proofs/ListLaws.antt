-- Whether a record's ops are a placeholder, op by op; and where its list lies, refusal by refusal.
use Prim.Native.Nat.{ℕ, ◌+◌, ◌≤◌, ◌<◌}
use Rattle.std.specs.Prelude.{Err}
use mathlib.Core.Path.{◌≡◌, refl, sym, ap, ◌∙◌}
use mathlib.Core.Bool.{true, false, ◌&&◌}
use mathlib.Core.List.{List}
use native.Mathlib.Omega.{arith}
use lib.Dec.{eqb}
use lib.ListN.{length, drop}
use borrow.Author.Tests.{lt-ltb, le-ltb, le-leb, eq-eqb, ne_eqb}
use Rattle.sam.specs.Op.{len_of, code_of}
use Rattle.sam.specs.Record.{le32, seq_len_of, ops_start, op_count_of, ops_end, ops_in, tags_start}
use Rattle.sam.specs.Tags.{tags_of, is_placeholder}
use Rattle.oplist.specs.Ops.{record_ops}
use Rattle.oplist.specs.Few.{length_ops_in}
use Rattle.answers.specs.declared.Refusal.TheVariants.{ShortRecord, AreaOverrun, BadTags}
use Rattle.tag_rules.specs.Long.{found, own_list, first_cg, behind_placeholder, true_list}

-- ---- the placeholder

module _ (b : List ℕ) (h : ops_end b ≤ length b) where
  pub area_in : record_ops b ≡ ops_in b (ops_start b) (op_count_of b)
  unfolding record_ops
  area_in = simp (le-leb (ops_end b) (length b) h)

  module _ (at n : ℕ) (p : (at ≡ ops_start b) × (n ≡ op_count_of b)) where
    pub other-count : (n ≡ 2 → ⊥) → is_placeholder (seq_len_of b) (record_ops b) ≡ false
    unfolding is_placeholder
    other-count f =
        let l : length (record_ops b) ≡ op_count_of b = ap length area_in ∙ length_ops_in b (ops_start b) (op_count_of b) in
        simp (ne_eqb (length (record_ops b)) 2 (λ z. f (omega (arith, p.1))))

    module _ (e : n ≡ 2) where
      two : is_placeholder (seq_len_of b) (record_ops b)
          ≡ (eqb (code_of (le32 b at)) 4 && (eqb (len_of (le32 b at)) (seq_len_of b) && eqb (code_of (le32 b (at + 4))) 3))
      unfolding is_placeholder ops_in
      two =
          ap (is_placeholder (seq_len_of b))
          (area_in ∙ ap (ops_in b (ops_start b)) (sym p.1 ∙ e) ∙ ap (λ (k : ℕ). ops_in b k 2) (sym p.0))

      module _ (x : ℕ) (q : x ≡ le32 b at) where
        pub no_clip : (code_of x ≡ 4 → ⊥) → is_placeholder (seq_len_of b) (record_ops b) ≡ false
        no_clip f = two ∙ simp (sym q, ne_eqb (code_of x) 4 f)

        module _ (k : code_of x ≡ 4) (l : ℕ) (r : l ≡ seq_len_of b) where
          pub other_length : (len_of x ≡ l → ⊥) → is_placeholder (seq_len_of b) (record_ops b) ≡ false
          other_length f = two ∙ simp (sym q, sym r, eq-eqb (code_of x) 4 k, ne_eqb (len_of x) l f)

          pub last_op : len_of x ≡ l → (y : ℕ) → y ≡ le32 b (at + 4) → is_placeholder (seq_len_of b) (record_ops b) ≡ eqb (code_of y) 3
          last_op f y g = two ∙ simp (sym q, sym r, sym g, eq-eqb (code_of x) 4 k, eq-eqb (len_of x) l f)

-- ---- the answer, refusal by refusal

module _ (b : List ℕ) where
  pub short : length b < 32 → true_list b ≡ Err ShortRecord
  unfolding true_list
  short h = simp (lt-ltb (length b) 32 h)

  module _ (h : 32 ≤ length b) where
    pub overrun : length b < ops_end b → true_list b ≡ Err AreaOverrun
    unfolding true_list
    overrun k = simp (le-ltb (length b) 32 h, lt-ltb (length b) (ops_end b) k)

    module _ (k : ops_end b ≤ length b) where
      pub ordinary : is_placeholder (seq_len_of b) (record_ops b) ≡ false → true_list b ≡ own_list b
      unfolding true_list
      ordinary e = simp (le-ltb (length b) 32 h, le-ltb (length b) (ops_end b) k, e)

      pub behind : is_placeholder (seq_len_of b) (record_ops b) ≡ true → true_list b ≡ behind_placeholder b
      unfolding true_list
      behind e = simp (le-ltb (length b) 32 h, le-ltb (length b) (ops_end b) k, e)

  -- behind a placeholder
  pub bases_overrun : length b < tags_start b → behind_placeholder b ≡ Err BadTags
  unfolding behind_placeholder
  bases_overrun h = simp (lt-ltb (length b) (tags_start b) h)

  pub tags_walked : tags_start b ≤ length b → behind_placeholder b ≡ first_cg (own_list b) (tags_start b) (tags_of (drop (tags_start b) b))
  unfolding behind_placeholder
  tags_walked h = simp (le-ltb (length b) (tags_start b) h)

pub same_list : (a a' n n' : ℕ) → a ≡ a' → n ≡ n' → found a n ≡ found a' n'
same_list a a' n n' p q = rw (p, q) refl
