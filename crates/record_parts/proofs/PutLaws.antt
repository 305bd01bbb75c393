-- Bytes are copied in blocks, of which the last may overlap the one before.
use Prim.Native.Nat.{ℕ, ◌+◌, ◌-◌, ◌≤◌}
use mathlib.Core.Path.{◌≡◌, sym, ap, ◌∙◌}
use borrow.Rule.Slice.PartMut.{put_mid}
use Rattle.std.proofs.lemmas.List.{drop_all}
use mathlib.Core.List.{append-nil, List, ◌++◌}
use native.Mathlib.Omega.{arith}
use lib.ListN.{length, take, drop, length-drop}
use lib.Seq.{take_all, take-add, take-append_seam, drop-append-add, drop-drop, length-take-le}
use Rattle.std.proofs.Common.{rules, w16, w32, ◌%◌}
use Rattle.std.specs.Int.{to_le_bytes}
use Rattle.sam.specs.Record.{uint32}
use Rattle.sam.specs.Parts.{uint16}
use Rattle.lists.specs.Lists.{splice}
use Rattle.lists.proofs.Splices.{splice_start}
use Rattle.lists.proofs.ListLaws.{splice_append, length_splice}

-- what a write to a part of a list leaves
pub part_written : (d ys vs : List ℕ) (at k : ℕ) → length vs ≡ k → ys ≡ vs → put_mid at k d ys ≡ splice d at vs
unfolding splice
part_written d ys vs at k e f =
    ap (λ (l : List ℕ). take at d ++ (l ++ drop k (drop at d))) f
    ∙ ap (λ (l : List ℕ). take at d ++ (vs ++ l)) (drop-drop k at d ∙ ap (λ (n : ℕ). drop (at + n) d) (sym e))

-- n bytes of s, from place `from` on, that are copied to a part of a list, and to its front
pub part_copied : (d s ys : List ℕ) (at from n j k : ℕ) → j ≡ n → k ≡ n → from + n ≤ length s → ys ≡ take j (drop from s) → put_mid at k d ys ≡ splice d at (take n (drop from s))
part_copied d s ys at from n j k e f h g =
    let l = length-drop from s in
    let m = length-take-le n (drop from s) (omega arith) in
    part_written d ys (take n (drop from s)) at k (omega arith) (g ∙ ap (λ (i : ℕ). take i (drop from s)) e)

pub front_copied : (d s ys : List ℕ) (n : ℕ) → n ≤ length s → ys ≡ take n s → ys ++ drop n d ≡ splice d 0 (take n (drop 0 s))
front_copied d s ys n h e =
    let m : length (take n s) ≡ n = length-take-le n s h in
    ap (λ (l : List ℕ). l ++ drop n d) e ∙ ap (λ (k : ℕ). take n s ++ drop k d) (sym m) ∙ sym (splice_start d (take n s))

-- a number's bytes, the lowest first
pub two_bytes_of : (n : ℕ) → to_le_bytes w16 (n % 65536) ≡ uint16 n
two_bytes_of n = search rules

pub bytes_of : (n : ℕ) → to_le_bytes w32 n ≡ uint32 n
bytes_of n = search rules

-- all of a list is written over
pub whole_written : (d vs : List ℕ) → length d ≡ length vs → splice d 0 vs ≡ vs
whole_written d vs e = splice_start d vs ∙ ap (λ (l : List ℕ). vs ++ l) (drop_all (length vs) d (omega arith)) ∙ append-nil vs

-- what is written over another, from the same place on and no shorter
over_written : (d : List ℕ) (at : ℕ) (us ws : List ℕ) → length us ≤ length ws → at + length ws ≤ length d → splice (splice d at us) at ws ≡ splice d at ws
unfolding splice
over_written d at us ws h k =
    let t : length (take at d) ≡ at = length-take-le at d (omega arith) in
    let e : at + length ws ≡ length (take at d) + length ws = omega arith in
    let f : length ws ≡ length us + (length ws - length us) = omega arith in
    let g : at + length us + (length ws - length us) ≡ at + length ws = omega arith in
    ap (λ (l : List ℕ). l ++ (ws ++ drop (at + length ws) (take at d ++ (us ++ drop (at + length us) d))))
    (ap (λ (n : ℕ). take n (take at d ++ (us ++ drop (at + length us) d))) (sym t) ∙ take-append_seam (take at d) (us ++ drop (at + length us) d))
    ∙ ap (λ (l : List ℕ). take at d ++ (ws ++ l))
    (ap (λ (n : ℕ). drop n (take at d ++ (us ++ drop (at + length us) d))) e
    ∙ drop-append-add (take at d) (us ++ drop (at + length us) d) (length ws)
    ∙ ap (λ (n : ℕ). drop n (us ++ drop (at + length us) d)) f
    ∙ drop-append-add us (drop (at + length us) d) (length ws - length us)
    ∙ drop-drop (length ws - length us) (at + length us) d
    ∙ ap (λ (n : ℕ). drop n d) g)

-- k elements from m on, where the first j are written and m ≤ j ≤ m + k: the first m + k are
block_written : (d s : List ℕ) (m k j : ℕ) → m ≤ j → j ≤ m + k → m + k ≤ length s → m + k ≤ length d
    → splice (splice d 0 (take j s)) m (take k (drop m s)) ≡ splice d 0 (take (m + k) s)
block_written d s m k j h₁ h₂ f g =
    let vs : List ℕ = take m s in
    let us : List ℕ = take (j - m) (drop m s) in
    let ws : List ℕ = take k (drop m s) in
    let n : length (drop m s) ≡ length s - m = length-drop m s in
    let a : length vs ≡ m = length-take-le m s (omega arith) in
    let z : 0 + length vs ≡ m = omega arith in
    let b : length us ≡ j - m = length-take-le (j - m) (drop m s) (omega arith) in
    let c : length ws ≡ k = length-take-le k (drop m s) (omega arith) in
    let e : j ≡ m + (j - m) = omega arith in
    let p : length (splice d 0 vs) ≡ length d = length_splice d 0 vs (omega arith) in
    ap (λ (t : List ℕ). splice (splice d 0 t) m ws) (ap (λ (i : ℕ). take i s) e ∙ take-add m (j - m) s)
    ∙ ap (λ (t : List ℕ). splice t m ws) (sym (splice_append d 0 vs (omega arith) us) ∙ ap (λ (i : ℕ). splice (splice d 0 vs) i us) z)
    ∙ over_written (splice d 0 vs) m us ws (omega arith) (omega arith)
    ∙ ap (λ (i : ℕ). splice (splice d 0 vs) i ws) (sym z)
    ∙ splice_append d 0 vs (omega arith) ws
    ∙ ap (splice d 0) (sym (take-add m k s))

-- the first j elements are written, and then k from m on, where m ≤ j: the first m + k are
pub blocks : (d d₁ d₂ s : List ℕ) (j m k n : ℕ) → m + k ≡ n → m ≤ j → j ≤ n → n ≤ length s → n ≤ length d
    → d₁ ≡ splice d 0 (take j s) → d₂ ≡ splice d₁ m (take k (drop m s)) → d₂ ≡ splice d 0 (take n s)
blocks d d₁ d₂ s j m k n e h₁ h₂ f g p q =
    q
    ∙ ap (λ (l : List ℕ). splice l m (take k (drop m s))) p
    ∙ block_written d s m k j h₁ (omega arith) (omega arith) (omega arith)
    ∙ ap (λ (i : ℕ). splice d 0 (take i s)) e

-- the first j elements are written, and then those from m on, where m ≤ j: all are, where these end the list
pub two_blocks : (d d₁ d₂ s : List ℕ) (j m k : ℕ) → m + k ≡ length s → m ≤ j → j ≤ length s → length d ≡ length s
    → d₁ ≡ splice d 0 (take j s) → d₂ ≡ splice d₁ m (take k (drop m s)) → d₂ ≡ s
two_blocks d d₁ d₂ s j m k e h₁ h₂ f p q = blocks d d₁ d₂ s j m k (length s) e h₁ h₂ (omega arith) (omega arith) p q ∙ ap (splice d 0) (take_all (length s) s (omega arith)) ∙ whole_written d s f
