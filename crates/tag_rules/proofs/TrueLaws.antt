-- Document 02, item 1, in the words of whole records: without a placeholder no byte behind the ops plays a part; the first CG counts, and nothing behind it plays a
-- part; without a CG the ordinary list stands.
use Prim.Native.Nat.{ℕ, ◌+◌, ◌≤◌}
use Rattle.answers.specs.Answer.{Answer}
use mathlib.Core.Path.{◌≡◌, refl, ap, ◌∙◌}
use mathlib.Core.Bool.{true, false}
use mathlib.Core.List.{List, [], ◌∷◌, ◌++◌}
use native.Mathlib.Omega.{arith}
use lib.ListN.{length, length-append}
use lib.Seq.{drop_at}
use Rattle.lists.specs.Lists.{Each}
use Rattle.sam.specs.Record.{seq_len_of, ops_end, tags_start}
use Rattle.sam.specs.Tags.{Tag, Tags, Ends, Then, tags_of, is_cg, is_placeholder}
use Rattle.sam.specs.TagBytes.{Proper, bytes_of, all_bytes, followed}
use Rattle.sam.proofs.TagByteLaws.{reads_tag, reads_tags, read_back}
use Rattle.oplist.specs.Ops.{record_ops}
use Rattle.tag_rules.specs.Long.{own_list, list_in, first_cg, true_list}
use Rattle.tag_rules.specs.Whole.{Front, NoCg}
use Rattle.oplist.specs.declared.Area.{Area}
use Rattle.tag_rules.proofs.ListLaws.{ordinary, behind, tags_walked, same_list}
use Rattle.tag_rules.proofs.WalkLaws.{walk_same}
use Rattle.tag_rules.proofs.FrontLaws.{front-seq, front-start, front-count, front-end, front-tags, front-ops}

-- ---- a record is its front up to the ops, and what follows

module _ (p q : List ℕ) (h : 32 ≤ length p) (k : ops_end p ≤ length p) where
  same_test : is_placeholder (seq_len_of (p ++ q)) (record_ops (p ++ q)) ≡ is_placeholder (seq_len_of p) (record_ops p)
  same_test = ap (λ (n : ℕ). is_placeholder n (record_ops (p ++ q))) (front-seq p q h) ∙ ap (is_placeholder (seq_len_of p)) (front-ops p q h k)

  longer : 32 ≤ length (p ++ q)
  longer = let l = length-append p q in omega arith

  ends_in : ops_end (p ++ q) ≤ length (p ++ q)
  ends_in = let l = length-append p q in let e = front-end p q h in omega arith

  own_is : own_list (p ++ q) ≡ own_list p
  own_is = same_list _ _ _ _ (front-start p q h) (front-count p q h)

  -- without a placeholder the ordinary list stands, whatever follows the ops
  pub no_placeholder : is_placeholder (seq_len_of p) (record_ops p) ≡ false → true_list (p ++ q) ≡ own_list p
  no_placeholder e = ordinary (p ++ q) longer ends_in (same_test ∙ e) ∙ own_is

  -- behind a placeholder, and behind the qualities, the tags are walked
  walked : is_placeholder (seq_len_of p) (record_ops p) ≡ true → tags_start p ≡ length p → true_list (p ++ q) ≡ first_cg (own_list p) (length p) (tags_of q)
  walked e t =
      let l = length-append p q in
      behind (p ++ q) longer ends_in (same_test ∙ e)
      ∙ tags_walked (p ++ q) (omega (arith, front-tags p q h))
      ∙ walk_same (p ++ q) (own_list (p ++ q)) (own_list p) (tags_start (p ++ q)) (length p) own_is (front-tags p q h ∙ t)
      ∙ ap (λ (s : List ℕ). first_cg (own_list p) (length p) (tags_of s)) (drop_at p q (length p) refl)

-- ---- tags

cg_follows : (without : Answer Area) (at : ℕ) (ts : List Tag) (cg : Tag) (more : Tags) → NoCg ts → is_cg cg ≡ true
    → first_cg without at (followed ts (Then cg more)) ≡ list_in (at + length (all_bytes ts) + 3) cg
unfolding first_cg followed all_bytes
cg_follows without at [] cg more h e = simp e (ap (λ (k : ℕ). list_in k cg) {x = at + 3} {y = at + 0 + 3} (omega arith))
cg_follows without at (t ∷ ts) cg more h e =
    let l = length-append t.value (all_bytes ts) in
    simp h.0
    (cg_follows without (at + (3 + length t.value)) ts cg more h.1 e
    ∙ ap (λ (k : ℕ). list_in k cg) {x = at + (3 + length t.value) + length (all_bytes ts) + 3} {y = at + length (bytes_of t ++ all_bytes ts) + 3} (omega arith))

none_follows : (without : Answer Area) (at : ℕ) (ts : List Tag) → NoCg ts → first_cg without at (followed ts Ends) ≡ without
unfolding first_cg followed
none_follows without at [] h = refl
none_follows without at (t ∷ ts) h = simp h.0 (none_follows without (at + (3 + length t.value)) ts h.1)

-- ---- whole records

module _ (p : List ℕ) (f : Front p) (ts : List Tag) (a : Each Proper ts) (n : NoCg ts) where
  behind_front : (q : List ℕ) → true_list (p ++ q) ≡ first_cg (own_list p) (length p) (tags_of q)
  behind_front q = walked p q f.long (omega (arith, f.ends)) f.holds f.ends

  -- the first CG counts, and nothing behind it plays a part: s stands on the left side alone
  pub first_cg_counts : (cg : Tag) (s : List ℕ) → Proper cg → is_cg cg ≡ true
      → true_list (p ++ (all_bytes ts ++ (bytes_of cg ++ s))) ≡ list_in (length p + length (all_bytes ts) + 3) cg
  first_cg_counts cg s c g =
      behind_front (all_bytes ts ++ (bytes_of cg ++ s))
      ∙ ap (first_cg (own_list p) (length p)) (reads_tags ts (bytes_of cg ++ s) a ∙ ap (followed ts) (reads_tag cg s c))
      ∙ cg_follows (own_list p) (length p) ts cg (tags_of s) n g

  -- without a CG the ordinary list stands
  pub no_cg : true_list (p ++ all_bytes ts) ≡ own_list p
  no_cg =
      behind_front (all_bytes ts)
      ∙ ap (first_cg (own_list p) (length p)) (read_back ts a)
      ∙ none_follows (own_list p) (length p) ts n
