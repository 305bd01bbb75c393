-- Demand 3, of any clipper at one end: the lists that it takes, what one call promises, and what two calls promise; once for a call that clips at the start, and once for one
-- that clips at the end (document 02, item 12: "Demand 3 reads once for each call, adding counts at the start only").
use Rattle.std.specs.Prelude.{ℕ, ◌+◌, ◌^◌, ◌≤◌, ◌<◌, ◌≡◌, Bool, true, false, ◌||◌, List, [], ◌∷◌, ◌++◌, length, get_or, Ok}
use Rattle.answers.specs.Answer.{Answer}
use Rattle.lists.specs.Lists.{Each, facing, splice, sum_of}
use Rattle.sam.specs.Op.{len_of, code_of, ref_len, query_len}
use Rattle.oplist.specs.Ops.{record_ops}
use Rattle.ops.specs.Ops.{read_len}
use Rattle.clip_run_rules.specs.Clips.{is_hard, is_soft, hard_len, outer_hard, inside, leading_clips}
use Rattle.answers.specs.Settled.{Outcome}
use Rattle.clip_rules.specs.declared.Clipped.{Clipped}
use Rattle.clip_rules.specs.Answer.{given}

-- "inner ops (M, I, D, N, P, =, X)"
unfoldable pub is_inner : ℕ → Bool
is_inner c = get_or (true ∷ true ∷ true ∷ true ∷ false ∷ false ∷ true ∷ true ∷ true ∷ []) c false

-- each op's code passes a test
abbrev pub All : (ℕ → Bool) → List ℕ → Type 0
All p xs = Each (λ o. p (code_of o) ≡ true) xs

-- "hard clips, soft clips, one or more inner ops, soft clips, hard clips; clip runs may be absent". A length may be 0
pub record Shaped (xs : List ℕ) : Type 0 where
  pub hards : List ℕ
  pub softs : List ℕ
  pub inner : List ℕ
  pub softs' : List ℕ
  pub hards' : List ℕ
  pub list_is : xs ≡ hards ++ (softs ++ (inner ++ (softs' ++ hards')))
  pub hards_are : All is_hard hards
  pub softs_are : All is_soft softs
  pub inner_are : All is_inner inner
  pub inner_some : 0 < length inner
  pub softs'_are : All is_soft softs'
  pub hards'_are : All is_hard hards'

-- "Take at most 65,534 ops with total length below 2^28": fewer ops than the limit of the call, which is 65,535. Document 02, item 1: "demand 3's count rises to 1,048,575"
pub record Takes (limit : ℕ) (xs : List ℕ) : Type 0 where
  pub shape : Shaped xs
  pub few : length xs < limit
  pub short : sum_of len_of xs < 2 ^ 28

-- "the chosen end's clips plus inner M, I, = and X bases": E + R
abbrev pub most : {xs : List ℕ} → Shaped xs → Bool → ℕ
most {xs} S start = leading_clips (facing start xs) + sum_of read_len S.inner

-- "query plus hard bases" of an op
unfoldable pub kept_len : ℕ → ℕ
kept_len o = query_len o + hard_len o

-- "an inner op survives": one is among the ops, of any length
unfoldable pub survives : List ℕ → Bool
survives [] = false
survives (o ∷ xs) = is_inner (code_of o) || survives xs

-- "b is the end of an insertion that a fell inside", of a list seen from the chosen end; `before` are the ops ahead of it
pub record EndsInsertion (xs : List ℕ) (a b : ℕ) : Type 0 where
  pub before : List ℕ
  pub insertion : ℕ
  pub after : List ℕ
  pub list_is : inside xs ≡ before ++ (insertion ∷ after)
  pub is_insertion : code_of insertion ≡ 1
  pub a_past : leading_clips xs + sum_of read_len before < a
  pub a_within : a < b
  pub b_end : b ≡ leading_clips xs + (sum_of read_len before + len_of insertion)

-- ---- any clipper at one end

-- of a list or a record, an amount and a lent buffer: what it answers, and what it leaves in the buffer
abbrev pub Clipper : Type 0 → Type 0
Clipper A = List ℕ → ℕ → List ℕ → Outcome A

-- "Buffers have room": into each buffer that the clipped list ys fits, the call leaves ys, and answers so
abbrev pub Leaves : {A : Type 0} → Clipper A → List ℕ → ℕ → A → List ℕ → Type 0
Leaves f s amount answer ys = (d : List ℕ) → length ys ≤ length d → f s amount d ≡ record { answer = answer; left = splice d 0 ys }

-- a call at the start answers the ops written and a count, one at the end the ops written
abbrev pub StartGives : Clipper (Answer Clipped) → List ℕ → ℕ → List ℕ → ℕ → Type 0
StartGives f s amount ys count = Leaves f s amount (given (length ys) count) ys

abbrev pub EndGives : Clipper (Answer ℕ) → List ℕ → ℕ → List ℕ → Type 0
EndGives f s amount ys = Leaves f s amount (Ok (length ys)) ys

-- ---- what both say

-- What a clipper is given holds a list: it is the list, or a record of it. "Take at most 65,534 ops [..]": `Takes` with the limit 65,535.
-- "For an amount up to the chosen end's clips plus inner M, I, = and X bases"
pub record Given (limit : ℕ) (Holds : List ℕ → List ℕ → Type 0) (start : Bool) (s xs : List ℕ) (a : ℕ) : Type 0 where
  pub holds : Holds s xs
  pub takes : Takes limit xs
  pub within : a ≤ most takes.shape start

-- one call by a leaves ys of the list xs
pub record Clips (start : Bool) (xs : List ℕ) (a : ℕ) (ys : List ℕ) : Type 0 where
  -- "clipping leaves at least that amount hard clipped there
  pub floor : a ≤ outer_hard (facing start ys)
  -- and conserves query plus hard bases"
  pub kept : sum_of kept_len ys ≡ sum_of kept_len xs
  -- at most one op more: so much room is enough
  pub long : length ys ≤ length xs + 1

-- "For two such amounts a ≤ b at one end [..], if an inner op survives a and b isn't the end of an insertion that a fell inside": a left ys
pub record Further (start : Bool) (xs : List ℕ) (a b : ℕ) (ys : List ℕ) : Type 0 where
  pub le : a ≤ b
  pub survivor : survives ys ≡ true
  pub apart : EndsInsertion (facing start xs) a b → ⊥

-- ---- DEMAND 3 at the start

-- one call, by a, on s, which holds the list xs
pub record StartOnce (f : Clipper (Answer Clipped)) (s xs : List ℕ) (a : ℕ) : Type 0 where
  pub ys : List ℕ
  pub count : ℕ
  pub gives : StartGives f s a ys count
  pub clips : Clips true xs a ys
  -- "at the start it returns exactly the reference length lost"
  pub lost : count + sum_of ref_len ys ≡ sum_of ref_len xs

-- a second call, by b, on t, which holds the list that the first call left; b alone answers zs and the count whole
pub record StartTwice (f : Clipper (Answer Clipped)) (t : List ℕ) (b first : ℕ) (zs : List ℕ) (whole : ℕ) : Type 0 where
  pub second : ℕ
  -- "a then b gives b's list,
  pub then_b : StartGives f t b zs second
  -- and the two counts add to b's count"
  pub counts_add : first + second ≡ whole

-- two calls of f: a answered ys and first, b zs and whole; then a call of a clipper g, which is f, or takes what f leaves
abbrev pub StartThen : ℕ → (List ℕ → List ℕ → Type 0) → Clipper (Answer Clipped) → (List ℕ → List ℕ → Type 0) → Clipper (Answer Clipped) → Type 0
StartThen limit Holds f Left g =
    (s xs : List ℕ) (a b : ℕ) → Given limit Holds true s xs b
    → (ys : List ℕ) (first : ℕ) → StartGives f s a ys first
    → (zs : List ℕ) (whole : ℕ) → StartGives f s b zs whole
    → Further true xs a b ys
    → (t : List ℕ) → Left t ys → StartTwice g t b first zs whole

pub record Demand3Start (limit : ℕ) (Holds : List ℕ → List ℕ → Type 0) (f : Clipper (Answer Clipped)) : Type 0 where
  pub once : (s xs : List ℕ) (a : ℕ) → Given limit Holds true s xs a → StartOnce f s xs a
  pub twice : StartThen limit Holds f Holds f

-- ---- DEMAND 3 at the end

pub record EndOnce (f : Clipper (Answer ℕ)) (s xs : List ℕ) (a : ℕ) : Type 0 where
  pub ys : List ℕ
  pub gives : EndGives f s a ys
  pub clips : Clips false xs a ys

-- "a then b gives b's list"
abbrev pub EndThen : ℕ → (List ℕ → List ℕ → Type 0) → Clipper (Answer ℕ) → (List ℕ → List ℕ → Type 0) → Clipper (Answer ℕ) → Type 0
EndThen limit Holds f Left g =
    (s xs : List ℕ) (a b : ℕ) → Given limit Holds false s xs b
    → (ys : List ℕ) → EndGives f s a ys
    → (zs : List ℕ) → EndGives f s b zs
    → Further false xs a b ys
    → (t : List ℕ) → Left t ys → EndGives g t b zs

pub record Demand3End (limit : ℕ) (Holds : List ℕ → List ℕ → Type 0) (f : Clipper (Answer ℕ)) : Type 0 where
  pub once : (s xs : List ℕ) (a : ℕ) → Given limit Holds false s xs a → EndOnce f s xs a
  pub twice : EndThen limit Holds f Holds f

-- a call on a list is given the list itself, one on a record a record that holds it
abbrev pub Itself : List ℕ → List ℕ → Type 0
Itself s xs = s ≡ xs

abbrev pub InRecord : List ℕ → List ℕ → Type 0
InRecord b xs = (32 ≤ length b) × (record_ops b ≡ xs)
