-- What the planning functions hand on, as it stands to the rule of document 01, "Clipping" (`Clipping.antt`): places and numbers for lists.
use Rattle.std.specs.Prelude.{ℕ, ◌≤◌, ◌<◌, ◌≡◌, Bool, true, false, ◌⊎◌, List, [], ◌∷◌, ◌++◌, length, take, drop, Err, Ok}
use Rattle.answers.specs.Answer.{Answer}
use Rattle.clip_rules.specs.declared.Plan.{Plan}
use Rattle.lists.specs.Lists.{facing, sum_of}
use Rattle.sam.specs.Op.{len_of}
use Rattle.answers.specs.declared.Refusal.TheVariants.{TooManyOps, TooLong, AmountBeyond}
use Rattle.clip_rules.specs.Clipping.{Taken, Cut, taking, clip}
use Rattle.clip_rules.specs.Answer.{is_beyond}

-- what is left of xs: the first `cut` of the one op `rest`, then the ops from place next on
abbrev pub taken_of : List ℕ → ℕ → ℕ → ℕ → ℕ → ℕ → Taken
taken_of xs next bases lost cut rest = record { left = take cut (rest ∷ []) ++ drop next xs; bases = bases; lost = lost }

-- a taking of n read bases from place `from` on
pub record TakingIs (xs : List ℕ) (from n next bases lost cut rest : ℕ) : Type 0 where
  pub taken_is : taken_of xs next bases lost cut rest ≡ taking (drop from xs) n
  pub next_in : next ≤ length xs
  pub cut_in : cut ≤ 1

-- the first `heads` of two ops, then the ops from place skip on
abbrev pub cut_of : List ℕ → ℕ → ℕ → ℕ → ℕ → ℕ → Cut
cut_of xs skip heads first second lost = record { ops = take heads (first ∷ (second ∷ [])) ++ drop skip xs; lost = lost }

-- a plan of a clip: what it makes is what the rule makes
pub record PlanIs (xs : List ℕ) (amount skip heads first second lost : ℕ) : Type 0 where
  pub cut_is : cut_of xs skip heads first second lost ≡ clip xs amount
  pub skip_in : skip ≤ length xs
  pub heads_in : heads ≤ 2

-- what planning answers for a list that is not too long: 19, or a plan of the list as seen from the chosen end
abbrev pub MadeIs : List ℕ → ℕ → Bool → Answer Plan → Type 0
MadeIs xs amount start (Ok p) = (is_beyond xs amount start ≡ false) × PlanIs (facing start xs) amount p.skip p.heads p.first p.second p.lost
MadeIs xs amount start (Err r) = (is_beyond xs amount start ≡ true) × (r ≡ AmountBeyond)

-- for a list of at most `limit` ops: 3, then 8, then that
abbrev pub PlannedIs : ℕ → List ℕ → ℕ → Bool → Answer Plan → Type 0
PlannedIs limit xs amount start (Ok p) = (length xs ≤ limit) × (sum_of len_of xs ≤ 268435455) × MadeIs xs amount start (Ok p)
PlannedIs limit xs amount start (Err r) =
    ((limit < length xs) × (r ≡ TooManyOps))
    ⊎ (((length xs ≤ limit) × (268435455 < sum_of len_of xs) × (r ≡ TooLong))
    ⊎ ((length xs ≤ limit) × (sum_of len_of xs ≤ 268435455) × MadeIs xs amount start (Err r)))
