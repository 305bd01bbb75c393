-- What stands before and behind the ops of a clipped record, as the writers leave it.
use Prim.Native.Nat.{ℕ, ◌+◌, ◌-◌, ◌*◌, ◌/◌, ◌≤◌}
use mathlib.Core.Path.{◌≡◌, refl, sym, ap, ◌∙◌}
use mathlib.Core.List.{List, ◌++◌, append_assoc}
use native.Mathlib.Omega.{arith}
use lib.ListN.{length, take, drop, length-drop, length-append}
use lib.Seq.{take-add, take_all, drop-drop, length-take-le}
use borrow.Rule.Slice.PartMut.{put_mid}
use Rattle.std.specs.List.{between}
use Rattle.std.proofs.lemmas.Slice.{between_to_end}
use Rattle.record_parts.proofs.PutLaws.{part_written}
use Rattle.lists.specs.Lists.{splice}
use Rattle.lists.proofs.ListLaws.{splice_append, length_splice, two_parts}
use Rattle.lists.proofs.Splices.{front_step, part_of_front}
use Rattle.signed.specs.Whole.{bits32}
use Rattle.sam.specs.Record.{name_len_of, seq_len_of, bases_start, quals_start, tags_start, uint32}
use Rattle.sam.specs.Bases.{bases_of, packed}
use Rattle.sam.specs.Parts.{part, header_part, name_part, quals_part, tags_part, record_bases, uint16}
use Rattle.sam.proofs.BaseLaws.{packed_size, length_behind}
use Rattle.record_rules.specs.Written.{Change, new_header, new_name}
use Rattle.record_rules.proofs.PartLaws.{header_stored, bases_left}

-- header and name
pub front_is : (b d d₁ d₂ d₃ d₄ d₅ : List ℕ) (c : Change) (n place bin count len : ℕ) → n ≡ 32 + name_len_of b → n ≤ length b
    → place ≡ bits32 c.place → bin ≡ c.bin → count ≡ length c.ops → len ≡ c.len
    → d₁ ≡ splice d 0 (take n (drop 0 b)) → d₂ ≡ splice d₁ 4 (uint32 place) → d₃ ≡ splice d₂ 10 (uint16 bin) → d₄ ≡ splice d₃ 12 (uint16 count) → d₅ ≡ splice d₄ 16 (uint32 len)
    → d₅ ≡ splice d 0 (new_header b c ++ new_name b c)
front_is b d d₁ d₂ d₃ d₄ d₅ c n place bin count len e f g₁ g₂ g₃ g₄ p₁ p₂ p₃ p₄ p₅ =
    let h : List ℕ = header_part b in
    let l : length h ≡ 32 = length-take-le 32 b (omega arith) in
    let h₁ : List ℕ = splice h 4 (uint32 place) in
    let l₁ : length h₁ ≡ length h = length_splice h 4 (uint32 place) (omega arith) in
    let h₂ : List ℕ = splice h₁ 10 (uint16 bin) in
    let l₂ : length h₂ ≡ length h₁ = length_splice h₁ 10 (uint16 bin) (omega arith) in
    let h₃ : List ℕ = splice h₂ 12 (uint16 count) in
    let l₃ : length h₃ ≡ length h₂ = length_splice h₂ 12 (uint16 count) (omega arith) in
    front_step d d₄ d₅ h₃ (name_part b) 16 (uint32 len) (omega arith)
    (front_step d d₃ d₄ h₂ (name_part b) 12 (uint16 count) (omega arith)
    (front_step d d₂ d₃ h₁ (name_part b) 10 (uint16 bin) (omega arith)
    (front_step d d₁ d₂ h (name_part b) 4 (uint32 place) (omega arith)
    (p₁ ∙ ap (λ (k : ℕ). splice d 0 (take k b)) e ∙ ap (splice d 0) (take-add 32 (name_len_of b) b)) p₂) p₃) p₄) p₅
    ∙ ap (λ (l : List ℕ). splice d 0 (l ++ name_part b)) (header_stored b place bin count len (omega arith) ∙ same_header b c place bin count len g₁ g₂ g₃ g₄)
  where
    same_header : (b : List ℕ) (c : Change) (place bin count len : ℕ) → place ≡ bits32 c.place → bin ≡ c.bin → count ≡ length c.ops → len ≡ c.len
        → part b 0 4 ++ (uint32 place ++ (part b 8 2 ++ (uint16 bin ++ (uint16 count ++ (part b 14 2 ++ (uint32 len ++ part b 20 12)))))) ≡ new_header b c
    same_header b c place bin count len e₁ e₂ e₃ e₄ = rw (e₁, e₂, e₃, e₄) refl

-- the bases, in their part of a list
pub bases_put : (b d ys : List ℕ) (from n at x k : ℕ) → x ≡ bases_start b → tags_start b ≤ length b → from + n ≤ seq_len_of b → k ≡ (n + 1) / 2
    → ys ≡ packed (take n (drop from (bases_of (between x (length b) b)))) → put_mid at k d ys ≡ splice d at (packed (take n (drop from (bases_of (drop x b)))))
bases_put b d ys from n at x k ex t f e g =
    let l = length_behind b x in
    let m = packed_size (bases_of (drop x b)) from n (omega arith) in
    part_written d ys (packed (take n (drop from (bases_of (drop x b))))) at k (omega arith)
    (g ∙ ap (λ (s : List ℕ). packed (take n (drop from (bases_of s)))) (between_to_end b x (length b) (omega arith)))

-- bases, qualities and tags
pub tail-is : (b d d₁ d₂ d₃ : List ℕ) (from n at second x y z : ℕ) → x ≡ bases_start b → y ≡ quals_start b → z ≡ tags_start b → tags_start b ≤ length b → from + n ≤ seq_len_of b
    → second ≡ at + (n + 1) / 2 → second + n ≤ length d
    → d₁ ≡ splice d at (packed (take n (drop from (bases_of (drop x b))))) → d₂ ≡ splice d₁ second (take n (drop (y + from) b))
    → d₃ ≡ splice d₂ (second + n) (take (length b - z) (drop z b))
    → d₃ ≡ splice d at (packed (part (record_bases b) from n) ++ (part (quals_part b) from n ++ tags_part b))
tail-is b d d₁ d₂ d₃ from n at second x y z ex ey ez t f e g p q r =
    let bs : List ℕ = bases_of (drop (bases_start b) b) in
    let l : length bs ≡ 2 * (length b - bases_start b) = length_behind b (bases_start b) in
    let v : List ℕ = packed (part bs from n) in
    let m : length v ≡ (n + 1) / 2 = packed_size bs from n (omega arith) in
    let u : List ℕ = part b (quals_start b + from) n in
    let k : length u ≡ n = length-take-le n (drop (quals_start b + from) b) (let o = length-drop (quals_start b + from) b in omega arith) in
    let a = length-append v u in
    let w : take (length b - tags_start b) (drop (tags_start b) b) ≡ tags_part b =
    take_all (length b - tags_start b) (drop (tags_start b) b) (let o = length-drop (tags_start b) b in omega arith) in
    two_parts d d₂ d₃ at (second + n) (v ++ u) (tags_part b) (omega arith) g
    (two_parts d d₁ d₂ at second v u (omega arith) (omega arith)
    (p ∙ ap (λ (i : ℕ). splice d at (packed (part (bases_of (drop i b)) from n))) ex)
    (q ∙ ap (λ (i : ℕ). splice d₁ second (part b (i + from) n)) ey))
    (r ∙ ap (λ (i : ℕ). splice d₂ (second + n) (take (length b - i) (drop i b))) ez ∙ ap (splice d₂ (second + n)) w)
    ∙ ap (splice d at)
    (append_assoc v u (tags_part b)
    ∙ ap (λ (o : List ℕ). packed o ++ (u ++ tags_part b)) (bases_left b from n f)
    ∙ ap (λ (o : List ℕ). packed (part (record_bases b) from n) ++ (o ++ tags_part b))
    (ap (take n) (sym (drop-drop from (quals_start b) b)) ∙ sym (part_of_front (drop (quals_start b) b) from n (seq_len_of b) f)))

-- the same, where the last quality stays, and so qualities and tags stand side by side
pub tail_at_once : (b d d₁ d₂ : List ℕ) (from n at second x y z : ℕ) → x ≡ bases_start b → y ≡ quals_start b → z ≡ tags_start b → tags_start b ≤ length b → from + n ≤ seq_len_of b
    → second ≡ at + (n + 1) / 2 → second + n ≤ length d → y + from + n ≡ z
    → d₁ ≡ splice d at (packed (take n (drop from (bases_of (drop x b))))) → length d₁ ≡ length d → d₂ ≡ splice d₁ second (take (length b - (y + from)) (drop (y + from) b))
    → d₂ ≡ splice d at (packed (part (record_bases b) from n) ++ (part (quals_part b) from n ++ tags_part b))
tail_at_once b d d₁ d₂ from n at second x y z ex ey ez t f e g k p l q =
    let s : List ℕ = drop (y + from) b in
    let v : List ℕ = take n s in
    let m : length v ≡ n = length-take-le n s (let o = length-drop (y + from) b in omega arith) in
    let i : length b - (y + from) ≡ n + (length b - z) = omega arith in
    let j : y + from + n ≡ z = k in
    tail-is b d d₁ (splice d₁ second v) d₂ from n at second x y z ex ey ez t f e g p refl
    (q
    ∙ ap (λ (o : ℕ). splice d₁ second (take o s)) i
    ∙ ap (splice d₁ second) (take-add n (length b - z) s)
    ∙ sym (splice_append d₁ second v (omega arith) (take (length b - z) (drop n s)))
    ∙ ap (λ (o : ℕ). splice (splice d₁ second v) (second + o) (take (length b - z) (drop n s))) m
    ∙ ap (λ (o : List ℕ). splice (splice d₁ second v) (second + n) (take (length b - z) o)) (drop-drop n (y + from) b ∙ ap (λ (o : ℕ). drop o b) j))
