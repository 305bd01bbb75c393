-- What planning a record hands on, as it stands to the definitions of `Clipping` and `Written`: places and numbers for lists.
use Rattle.std.specs.Prelude.{ℕ, ◌+◌, ◌≤◌, ◌≡◌, Bool, List, [], ◌∷◌, ◌++◌, length, take, drop, Ok, Err}
use Rattle.answers.specs.Answer.{Answer}
use Rattle.lists.specs.Lists.{facing}
use Rattle.sam.specs.Record.{seq_len_of, op_count_of, tags_start}
use Rattle.oplist.specs.Ops.{record_ops}
use Rattle.clip_rules.specs.declared.Plan.{Plan}
use Rattle.record_rules.specs.declared.RecordPlan.{RecordPlan}
use Rattle.record_rules.specs.Written.{Change}
use Rattle.record_rules.specs.Clipping.{Fate, Refuses, Becomes}

-- the ops that a plan leaves of xs: as seen from the chosen end, the first `heads` of two, then those from place skip on
abbrev pub planned_ops : Bool → List ℕ → Plan → List ℕ
planned_ops start xs p = facing start (take p.heads (p.first ∷ p.second ∷ []) ++ drop p.skip (facing start xs))

-- the change that a plan is for
abbrev pub change_by : List ℕ → Bool → RecordPlan → Change
change_by b start p =
    record { ops = planned_ops start (record_ops b) p.ops; place = p.place; bin = p.bin; len = p.len; from = p.from; count = p.count }

-- its places lie within the record, and n is how many ops it leaves
pub record Fits (b : List ℕ) (p : RecordPlan) : Type 0 where
  pub whole : tags_start b ≤ length b
  pub heads_in : p.ops.heads ≤ 2
  pub skip_in : p.ops.skip ≤ op_count_of b
  pub n-is : p.n + p.ops.skip ≡ p.ops.heads + op_count_of b
  pub bases_in : p.from + p.len ≤ seq_len_of b

-- what planning answers, of a fate
abbrev pub FateIs : List ℕ → Bool → Fate → Answer RecordPlan → Type 0
FateIs b start f (Ok p) = (f ≡ Becomes (change_by b start p)) × Fits b p
FateIs b start f (Err r) = f ≡ Refuses r
