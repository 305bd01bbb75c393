-- Demand 2: "Op meanings, text, clip placement and bins are also proved against the SAM specification"; and so are the tags (document 02, item 1). Each line is a theorem of the crate that it is cited from,
-- over the definitions of crate `sam` and those that the contracts use.
use Prim.Native.Nat.{ℕ, ◌-◌, ◌<◌, ◌≤◌}
use Rattle.std.specs.Prelude.{Option, Ok}
use Rattle.answers.specs.Answer.{Answer}
use mathlib.Core.Path.{◌≡◌, refl}
use mathlib.Core.Bool.{Bool, true, false}
use mathlib.Core.List.{List, [], ◌∷◌, ◌++◌}
use lib.IntN.{pos}
use lib.ListN.{length, get_or}
use Rattle.lists.specs.Lists.{facing, Each, sum_of}
use Rattle.sam.specs.Op.{len_of, op_of, letters, ref_len, query_len}
use Rattle.sam.specs.Columns.{columns, queries, refs}
use Rattle.sam.specs.Placement.{WellPlaced}
use Rattle.sam.specs.Text.{Cigar}
use Rattle.sam.specs.Bins.{SmallestBin}
use Rattle.sam.specs.Tags.{Tag, Ends, tags_of, is_placeholder}
use Rattle.sam.specs.TagBytes.{Proper, all_bytes, followed}
use Rattle.sam.proofs.LengthLaws as Length
use Rattle.sam.proofs.TagLaws as Tagged
use Rattle.sam.proofs.TagByteLaws as Written
use Rattle.ops.specs.Ops.{letter_of}
use Rattle.letters.specs.Letters.{entry_of}
use Rattle.letters.proofs.Table as Table
use Rattle.print_rules.specs.Text.{any_bad, text_of}
use Rattle.print_rules.proofs.CigarLaws as Printed
use Rattle.text_rules.specs.Text.{text_ops}
use Rattle.text_rules.specs.Valid.{valid_mapped}
use Rattle.text_rules.specs.Strict.{strict}
use Rattle.text_rules.specs.Meaning.{Mapped, MappedText}
use Rattle.text_rules.proofs.GrammarLaws as Strict
use Rattle.text_rules.proofs.ValidLaws as Valid
use Rattle.promises.specs.RoundTrip.{without_zeros}
use Rattle.promises.proofs.RoundTrip as Round
use Rattle.mate_rules.specs.Readers.{Agree}
use Rattle.mate_rules.proofs.Agree as Mate
use Rattle.lookup_rules.specs.Lookup.{lookup_up_to}
use Rattle.lookup_rules.specs.Meaning.{InBounds, Reads}
use Rattle.lookup_rules.proofs.LookupLaws as Looked
use Rattle.bin_rules.specs.Bin.{bin_of, low16, reg2bin}
use Rattle.bin_rules.proofs.Smallest as Bins
use Rattle.clip_rules.specs.Clipping.{clip}
use Rattle.clip_rules.specs.Answer.{clipped_ops}
use Rattle.clip_laws.specs.Drops.{Drops}
use Rattle.clip_laws.proofs.Placement as Placed
use Rattle.clip_laws.proofs.Drops as Dropped

-- ---- op meanings. What an op consumes is stated in the contracts of `ops` by the specification's own tables (`is_ref`, `is_query`); so is its letter

pub letter_is : (code : ℕ) → letter_of code ≡ get_or letters code 0
unfolding letter_of
letter_is code = refl

-- printing's letters and the table of both readers are inverse: at the letter of a code 0 to 8 the table has the code
pub letter_read : (code : ℕ) → code < 9 → entry_of (letter_of code) ≡ code
unfolding letter_of
letter_read code h = Table.inverse code h

-- lengths are numbers of columns
pub query-length : (xs : List ℕ) → sum_of query_len xs ≡ queries (columns xs)
query-length xs = Length.query-length xs

pub reference_length : (xs : List ℕ) → sum_of ref_len xs ≡ refs (columns xs)
reference_length xs = Length.reference_length xs

-- lookup, whatever its limit, answers the query base in the column of a reference base, and no other answer does
pub lookup_means : (limit : ℕ) (xs : List ℕ) (start at : ℕ) (asked : Bool) → InBounds limit xs start → Reads (columns xs) start at asked (lookup_up_to limit xs start at asked)
lookup_means limit xs start at asked t = Looked.lookup_means limit xs start at asked t

pub lookup_only : (limit : ℕ) (xs : List ℕ) (start at : ℕ) (asked : Bool) → InBounds limit xs start → (r : Answer (Option ℕ)) → Reads (columns xs) start at asked r → r ≡ lookup_up_to limit xs start at asked
lookup_only limit xs start at asked t r s = Looked.lookup_only limit xs start at asked t r s

-- ---- text

-- what is printed of one op or more is in the grammar, and means the list
pub printed_means : (xs : List ℕ) → any_bad xs ≡ false → 0 < length xs → Cigar (text_of xs) xs
printed_means xs e h = Printed.print_cigar xs e h

-- the strict reader takes only texts of the grammar, with lengths 1 to 268,435,455, well placed, with a reference op, and answers the list that the text means
pub strict_only : (s : List ℕ) → strict s ≡ true → MappedText s (text_ops s)
strict_only s e = Strict.accepts s e

-- and it takes each of them
pub strict_takes : (s xs : List ℕ) → MappedText s xs → (strict s ≡ true) × (text_ops s ≡ xs)
strict_takes s xs m = Strict.accepted s xs m

-- what is printed of a valid list is read as that list; what is printed of what was read is the text without leading zeros
pub read_printed : (xs : List ℕ) → valid_mapped xs ≡ true → Each (λ o. len_of o ≤ 268435455) xs → (strict (text_of xs) ≡ true) × (text_ops (text_of xs) ≡ xs)
read_printed xs v l = Round.read_printed xs v l

pub print_read : (s : List ℕ) → strict s ≡ true → (any_bad (text_ops s) ≡ false) × (text_of (text_ops s) ≡ without_zeros false s)
print_read s e = Round.print_read s e

-- `is_valid_mapped_cigar` is the specification's sentences on H and S, with nonzero lengths, codes 0 to 8 and a reference op
pub valid_only : (xs : List ℕ) → valid_mapped xs ≡ true → Mapped xs
valid_only xs e = Valid.valid-mapped xs e

pub valid_takes : (xs : List ℕ) → Mapped xs → valid_mapped xs ≡ true
valid_takes xs m = Valid.mapped_valid xs m

-- the mate text's reader agrees with the list on each text that the strict reader takes
pub mate_agrees : (s : List ℕ) → strict s ≡ true → Agree s (text_ops s)
mate_agrees s e = let m = Strict.accepts s e in Mate.readers_agree m.spells m.fits

-- ---- clip placement

-- clipping a well placed list leaves it well placed, by any amount at either end
pub clip_well_placed : (xs : List ℕ) (a : ℕ) (start : Bool) → WellPlaced xs → WellPlaced (clipped_ops xs a start)
clip_well_placed xs a start w = Placed.clip_well_placed xs a start w

-- and drops columns at that end only, with as many reference bases as the rule counts
pub clip_drops : (xs : List ℕ) (a : ℕ) (start : Bool) → Drops (facing start xs) (facing start (clipped_ops xs a start)) (clip (facing start xs) a).lost
clip_drops xs a start = Dropped.clip_drops xs a start

-- ---- bins

-- for 0 ≤ beg < end ≤ 2^29 `reg2bin` answers the smallest bin that holds the region
pub bin_smallest : (beg end : ℕ) → beg < end → end ≤ 536870912
    → (reg2bin (pos beg) (pos end) ≡ Ok (low16 (bin_of (pos beg) (pos (end - 1))))) × SmallestBin 14 5 beg end (low16 (bin_of (pos beg) (pos (end - 1))))
bin_smallest beg end h g = (Bins.answered beg end h g, Bins.smallest beg end h g)

-- ---- tags

-- tags that can be written are read back, whatever follows them; and an area that is read to its end is its tags, byte for byte
pub tags_read : (ts : List Tag) (s : List ℕ) → Each Proper ts → tags_of (all_bytes ts ++ s) ≡ followed ts (tags_of s)
tags_read ts s h = Written.reads_tags ts s h

pub tags_written : (s : List ℕ) (ts : List Tag) → tags_of s ≡ followed ts Ends → s ≡ all_bytes ts
tags_written s ts e = Written.written_back s ts e

-- a placeholder is "kSmN", and nothing else is
pub placeholder_is : (k m : ℕ) → is_placeholder k (op_of k 4 ∷ op_of m 3 ∷ []) ≡ true
placeholder_is k m = Tagged.placeholder_is k m

pub placeholder_only : (k : ℕ) (xs : List ℕ) → is_placeholder k xs ≡ true → xs ≡ op_of k 4 ∷ op_of (len_of (get_or xs 1 0)) 3 ∷ []
placeholder_only k xs e = Tagged.placeholder_only k xs e
