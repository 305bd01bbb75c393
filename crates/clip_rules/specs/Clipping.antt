-- Document 01, "Clipping": the rule, on the list as seen from the chosen end. E, h, s and the ops inside the two runs are of crate clip_runs.
use Rattle.std.specs.Prelude.{ℕ, ◌+◌, ◌-◌, min, Bool, cond, List, [], ◌∷◌, ◌++◌, length, eqb, leb}
use Rattle.sam.specs.Op.{len_of, code_of, op_of, ref_len}
use Rattle.ops.specs.Ops.{read_len}
use Rattle.clip_run_rules.specs.Clips.{leading_clips, outer_hard, next_soft, inside}

-- what a taking leaves of a list, the read bases taken, and the reference length taken
pub record Taken : Type 0 where
  pub left : List ℕ
  pub bases : ℕ
  pub lost : ℕ

-- with an op more that was taken before
abbrev pub more : ℕ → ℕ → Taken → Taken
more bases lost t = record { left = t.left; bases = bases + t.bases; lost = lost + t.lost }

-- whether an op goes whole and the taking goes on, n bases being wanted. "Non-read ops on the way go too."
-- "If exactly n are gone and no op was cut, following D ops go too."
unfoldable pub goes : ℕ → ℕ → Bool
goes n o = cond (eqb n 0) (eqb (code_of o) 2) (leb (read_len o) n)

-- the op at which the taking ends: none is wanted, and it stays; "I is taken whole"; "M, = or X reached with too little left is cut"
unfoldable pub ends : ℕ → ℕ → List ℕ → Taken
ends n o xs =
    cond (eqb n 0) (record { left = o ∷ xs; bases = 0; lost = 0 })
    (cond (eqb (code_of o) 1) (record { left = xs; bases = len_of o; lost = 0 })
    (record { left = op_of (len_of o - n) (code_of o) ∷ xs; bases = n; lost = n }))

-- ops "are taken from that end until n `consumes_read` bases are gone"
unfoldable pub taking : List ℕ → ℕ → Taken
taking [] n = record { left = []; bases = 0; lost = 0 }
taking (o ∷ xs) n = cond (goes n o) (more (read_len o) (ref_len o) (taking xs (n - read_len o))) (ends n o xs)

-- one H; and "one S .. if that isn't 0"
abbrev pub hard_of : ℕ → ℕ
hard_of n = op_of n 5

unfoldable pub soft_of : ℕ → List ℕ
soft_of n = cond (eqb n 0) [] (op_of n 4 ∷ [])

-- a clipped list, and the reference length taken
pub record Cut : Type 0 where
  pub ops : List ℕ
  pub lost : ℕ

-- "Amount ≤ E: u = min(s, max(0, amount - h)). The two runs become one H of h + u, then one S of s - u if that isn't 0. Count 0."
unfoldable pub upgraded : ℕ → ℕ → ℕ → List ℕ → Cut
upgraded h s amount rest =
    let u = min s (amount - h) in
    record { ops = hard_of (h + u) ∷ (soft_of (s - u) ++ rest); lost = 0 }

-- "Otherwise n = amount - E." Ops are taken, and "one H of h + s + bases taken stands there."
unfoldable pub cut_into : ℕ → ℕ → Taken → Cut
cut_into h s t = record { ops = hard_of (h + s + t.bases) ∷ t.left; lost = t.lost }

-- THE RULE. "Amount 0 or an empty list: unchanged, count 0."
unfoldable pub clip : List ℕ → ℕ → Cut
clip xs amount =
    let E = leading_clips xs in
    let h = outer_hard xs in
    let s = next_soft xs in
    let n = amount - E in
    cond (eqb amount 0) (record { ops = xs; lost = 0 })
    (cond (eqb (length xs) 0) (record { ops = xs; lost = 0 })
    (cond (leb amount E) (upgraded h s amount (inside xs))
    (cut_into h s (taking (inside xs) n))))
