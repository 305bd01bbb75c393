-- The place of the tags is the sum of the parts before them.
use mathlib.Core.Path.{sym, ◌∙◌}
use native.Mathlib.Omega.{arith}
use Rattle.sam.specs.Record.{ops_start, op_count_of, tags_start}
use Rattle.tag_rules.specs.Long.{own_list}
use Rattle.tag_rules.proofs.WalkLaws.{walk_same}
use Rattle.tag_rules.proofs.ListLaws.{bases_overrun, tags_walked, same_list}
use Rattle.tags.proofs.behind_placeholder.Goals as goal

pub returns-then-bam-start : goal.returns-then-bam-start
returns-then-bam-start c =
    sym (bases_overrun c.args.bam.now (omega (arith, c.requires.at_value.0, c.requires.at_value.1)))

pub returns : goal.returns
returns c =
    c.first_cg.ensures
    ∙ walk_same c.args.bam.now _ (own_list c.args.bam.now) _ (tags_start c.args.bam.now) (same_list c.args.area.at (ops_start c.args.bam.now) c.args.area.n (op_count_of c.args.bam.now) c.requires.at_value.0 c.requires.at_value.1) (omega (arith, c.requires.at_value.0, c.requires.at_value.1))
    ∙ sym (tags_walked c.args.bam.now (omega (arith, c.requires.at_value.0, c.requires.at_value.1)))
