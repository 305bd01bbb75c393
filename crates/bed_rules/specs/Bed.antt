-- Document 02, item 5: "From a start and an op list, write chromStart, chromEnd, blockCount, blockSizes and blockStarts". Refusals 3, 14, 4, 6.
use Rattle.std.specs.Prelude.{ℕ, ◌+◌, Bool, false, cond, ◌||◌, ◌&&◌, List, [], ◌∷◌, map, reverse, eqb, ltb, ℤ, pos, length, Ok, Err}
use Rattle.answers.specs.Answer.{Answer}
use Rattle.std.specs.Int.Signed.{lt_z}
use Rattle.lists.specs.Lists.{sum_of, splice}
use Rattle.signed.specs.Whole.{natural}
use Rattle.sam.specs.Op.{ref_len}
use Rattle.oplist.specs.Ops.{most_ops}
use Rattle.answers.specs.Answers.{Told, answered, refused}
use Rattle.answers.specs.Settled.{OutcomeTwo, keeps_both}
use Rattle.answers.specs.declared.Refusal.TheVariants.{TooManyOps, NoBlocks, Overflow, NoRoom}
use Rattle.bed_rules.specs.Blocks.{is_skip, Block, blocks}
use Rattle.bed_rules.specs.declared.Bed.{Bed}

-- "blockSizes and blockStarts, as numbers"
abbrev pub sizes_of : List Block → List ℕ
sizes_of bs = map (λ (b : Block). b.size) bs

abbrev pub starts_of : List Block → List ℕ
starts_of bs = map (λ (b : Block). b.start) bs

abbrev pub no_block : List ℕ → Bool
no_block xs = eqb (length (blocks xs)) 0

-- an N after the last block: one behind which there is no block
unfoldable pub skips_last : List ℕ → Bool
skips_last [] = false
skips_last (o ∷ xs) = (is_skip o && no_block xs) || skips_last xs

-- "no block, or an N before the first or after the last block": before the first is after the last, as seen from the other end
unfoldable pub unfit : List ℕ → Bool
unfolding skips_last
unfit xs = no_block xs || (skips_last (reverse xs) || skips_last xs)

-- chromEnd is the start and the list's reference length
abbrev pub chrom_end : ℕ → List ℕ → ℕ
chrom_end at xs = at + sum_of ref_len xs

-- from a start that is not below 0: "4, which is given when chromEnd would pass 2,147,483,647, and 6", for want of places in either output; d takes the sizes and e the starts
unfoldable pub bed_from : ℕ → List ℕ → List ℕ → List ℕ → OutcomeTwo (Answer Bed)
bed_from at xs d e =
    cond (ltb 2147483647 (chrom_end at xs)) (keeps_both (Err Overflow) d e)
    (cond (ltb (length d) (length (blocks xs)) || ltb (length e) (length (blocks xs))) (keeps_both (Err NoRoom) d e)
    (record { answer = Ok (record { chrom_start = at; chrom_end = chrom_end at xs; block_count = length (blocks xs) }); first = splice d 0 (sizes_of (blocks xs)); second = splice e 0 (starts_of (blocks xs)) }))

-- `bed_blocks`: "14 a start below 0, no block, or an N before the first or after the last block; after 3 and before 4"
unfoldable pub bed_blocks : ℤ → List ℕ → List ℕ → List ℕ → OutcomeTwo (Answer Bed)
bed_blocks start xs d e =
    cond (ltb most_ops (length xs)) (keeps_both (Err TooManyOps) d e)
    (cond (lt_z start (pos 0) || unfit xs) (keeps_both (Err NoBlocks) d e)
    (bed_from (natural start) xs d e))

-- the numbers of an answer: chromStart, chromEnd, blockCount
abbrev pub tell_bed : Answer Bed → Told
tell_bed (Ok got) = answered (pos got.chrom_start ∷ pos got.chrom_end ∷ pos got.block_count ∷ [])
tell_bed (Err r) = refused r
