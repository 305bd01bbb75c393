-- Document 02, item 1: what is promised of the reader of long op lists beside its answers. Each line is a theorem of the crate that it is cited from, over the definitions that the contracts use.
-- A record is its front p up to the ops or, with a placeholder, up to the tags (`Front`), and what follows.
use Prim.Native.Nat.{ℕ, ◌+◌, ◌*◌, ◌≤◌, ◌<◌}
use Rattle.std.specs.Prelude.{Ok}
use mathlib.Core.Path.{◌≡◌, ap, sym, ◌∙◌}
use mathlib.Core.Bool.{true, false}
use mathlib.Core.List.{List, ◌++◌}
use lib.ListN.{length}
use Rattle.lists.specs.Lists.{Each}
use Rattle.sam.specs.Record.{seq_len_of, ops_end, ops_in, op_bytes}
use Rattle.sam.specs.Tags.{Tag, is_cg, is_placeholder}
use Rattle.sam.specs.TagBytes.{Proper, bytes_of, all_bytes}
use Rattle.oplist.specs.Ops.{most_long_ops, record_ops}
use Rattle.tag_rules.specs.Long.{own_list, list_in, true_list, part_of}
use Rattle.tag_rules.specs.Whole.{Front, NoCg, cg_of}
use Rattle.ends_rules.specs.Ends.{unclipped_of}
use Rattle.clip_rules.specs.Answer.{without_count, record_start, record_end}
use Rattle.true_rules.specs.True.{true_unclipped, true_start, true_end, HandsBack}
use Rattle.true_rules.proofs.Cases as Cases
use Rattle.tag_rules.proofs.TrueLaws as True
use Rattle.tag_rules.proofs.HeldLaws as Held

-- "The tags are walked only behind one", "Without placeholder [..], the ordinary list stands": no byte behind the ops plays a part
module _ (p : List ℕ) (h : 32 ≤ length p) (k : ops_end p ≤ length p) (e : is_placeholder (seq_len_of p) (record_ops p) ≡ false) where
  pub no_placeholder : (q : List ℕ) → true_list (p ++ q) ≡ own_list p
  no_placeholder q = True.no_placeholder p q h k e

  pub no_tag_byte : (q r : List ℕ) → true_list (p ++ q) ≡ true_list (p ++ r)
  no_tag_byte q r = no_placeholder q ∙ sym (no_placeholder r)

-- so the calls on the true list answer what those on the record's own do
module _ (b : List ℕ) (h : 32 ≤ length b) (k : ops_end b ≤ length b) (e : is_placeholder (seq_len_of b) (record_ops b) ≡ false) where
  pub own-list : HandsBack b (record_ops b)
  own-list = Cases.own-list b h k e

  pub same_position : true_unclipped b ≡ unclipped_of b
  same_position = Cases.same_position b h k e

  pub same_start : (amount : ℕ) (d : List ℕ) → true_start b amount d ≡ record_start b amount d
  same_start amount d = Cases.same_clip b h k e amount true d

  pub same_end : (amount : ℕ) (d : List ℕ) → true_end b amount d ≡ record_end b amount d
  same_end amount d = ap without_count (Cases.same_clip b h k e amount false d)

module _ (p : List ℕ) (f : Front p) (ts : List Tag) (a : Each Proper ts) (n : NoCg ts) where
  -- "Without [..] CG, the ordinary list stands"
  pub no_cg : true_list (p ++ all_bytes ts) ≡ own_list p
  no_cg = True.no_cg p f ts a n

  -- "the first CG counts": behind tags that are no CG; and nothing behind it plays a part, since s stands on the left side alone
  pub first_cg_counts : (cg : Tag) (s : List ℕ) → Proper cg → is_cg cg ≡ true
      → true_list (p ++ (all_bytes ts ++ (bytes_of cg ++ s))) ≡ list_in (length p + length (all_bytes ts) + 3) cg
  first_cg_counts cg s c g = True.first_cg_counts p f ts a n cg s c g

  -- where that CG holds the ops xs, the reader hands back their place and number, the ops there are xs, and the part is their bytes
  module _ (xs s : List ℕ) (few : length xs ≤ most_long_ops) (small : Each (λ o. o < 4294967296) xs) where
    pub held_list : true_list (p ++ (all_bytes ts ++ (bytes_of (cg_of xs) ++ s))) ≡ Ok (record { at = length p + length (all_bytes ts) + 8; n = length xs })
    held_list = Held.held_list p f ts a n xs s few small

    pub held_ops : ops_in (p ++ (all_bytes ts ++ (bytes_of (cg_of xs) ++ s))) (length p + length (all_bytes ts) + 8) (length xs) ≡ xs
    held_ops = Held.held_ops p f ts a n xs s few small

    -- so it hands back xs: what the calls on the true list are promised of
    pub held : HandsBack (p ++ (all_bytes ts ++ (bytes_of (cg_of xs) ++ s))) xs
    held = record { at = length p + length (all_bytes ts) + 8; count = length xs; list_is = held_list; ops_are = held_ops }

    pub held_part : part_of (p ++ (all_bytes ts ++ (bytes_of (cg_of xs) ++ s))) (true_list (p ++ (all_bytes ts ++ (bytes_of (cg_of xs) ++ s)))) ≡ op_bytes xs
    held_part = Held.held_part p f ts a n xs s few small

-- the part that is handed back lies in the record
pub part_within : (b : List ℕ) (at n : ℕ) → true_list b ≡ Ok (record { at = at; n = n }) → at + 4 * n ≤ length b
part_within b at n e = Held.within b at n e
