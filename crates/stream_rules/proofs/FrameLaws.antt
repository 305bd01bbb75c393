-- A record that is at hand stays the next whatever follows; so lines that were put stay the first that are printed.
use Prim.Native.Nat.{ℕ, zero, suc, ◌+◌, ◌≤◌, ◌<◌}
use mathlib.Core.Path.{◌≡◌, refl, sym, ap, ◌∙◌, subst}
use mathlib.Core.Bool.{Bool, true, false, cond}
use mathlib.Core.Logic.{◌⊎◌, inl, inr}
use mathlib.Core.List.{List, [], ◌++◌, append_assoc, append-nil}
use native.Mathlib.Omega.{arith}
use lib.Dec.{ltb, eqb}
use lib.ListN.{length, take, drop, length-append, length-drop}
use lib.Seq.{drop-append-le, take-append-le, drop-drop, take-take, length-take-le}
use borrow.Author.Tests.{lt-ltb, le-ltb, ne_eqb, eqb-true, ltb-true, ltb-false}
use Rattle.lists.proofs.Absurd.{never}
use Rattle.sam.specs.Record.{le32}
use Rattle.little_endian.proofs.FrontLaws.{front_number}
use Rattle.line_rules.specs.Line.{line_of}
use Rattle.put_text.specs.Puts.{Put}
use Rattle.stream_rules.specs.Stream.{next_in, so_far, closing, last_word, Reports}
use Rattle.stream_rules.specs.Inner.{Gone, Went, goes_on}
use Rattle.stream_rules.specs.declared.NextFrame.{NextFrame}
use Rattle.stream_rules.specs.declared.NextFrame.TheVariants.{Record, TooLong, CutShort, End, More}
use Rattle.stream_rules.specs.declared.Block.{Block}

-- ---- a record that is next

pub next_record : (s : List ℕ) (size : ℕ) → 4 + size ≤ length s → size ≡ le32 s 0 → size ≤ 32768 → next_in s ≡ Record size
unfolding next_in
next_record s size h e m =
    simp (ne_eqb (length s) 0 (omega arith), le-ltb (length s) 4 (omega arith), le-ltb 32768 (le32 s 0) (omega arith), le-ltb (length s) (4 + le32 s 0) (omega arith)) (ap Record (sym e))

pub record Fits (s : List ℕ) (size : ℕ) : Type 0 where
  pub whole : 4 + size ≤ length s
  pub is : size ≡ le32 s 0
  pub small : size ≤ 32768

pub record_fits : (s : List ℕ) (size : ℕ) → next_in s ≡ Record size → Fits s size
unfolding next_in
record_fits s size e = go (eqb (length s) 0) (ltb (length s) 4) refl (ltb 32768 (le32 s 0)) refl (ltb (length s) (4 + le32 s 0)) refl e
  where
    go : (a b : Bool) → ltb (length s) 4 ≡ b → (c : Bool) → ltb 32768 (le32 s 0) ≡ c → (d : Bool) → ltb (length s) (4 + le32 s 0) ≡ d
        → cond a End (cond b CutShort (cond c TooLong (cond d CutShort (Record (le32 s 0))))) ≡ Record size → Fits s size
    go true b p c q d r f = never (cc)
    go false true p c q d r f = never (cc)
    go false false p true q d r f = never (cc)
    go false false p false q true r f = never (cc)
    go false false p false q false r f =
        let g : le32 s 0 ≡ size = cc in
        record { whole = omega (arith, ltb-false (length s) (4 + le32 s 0) r); is = sym g; small = omega (arith, ltb-false 32768 (le32 s 0) q) }

pub next_more : (s ys : List ℕ) (size : ℕ) → next_in s ≡ Record size → next_in (s ++ ys) ≡ Record size
next_more s ys size e =
    let f = record_fits s size e in
    let l = length-append s ys in
    let w = f.whole in
    next_record (s ++ ys) size (omega arith) (f.is ∙ sym (front_number s ys (omega arith))) f.small

pub far_record : (whole : Bool) (n : NextFrame) (size : ℕ) → so_far whole n ≡ Record size → n ≡ Record size
far_record true n size e = e
far_record false (Record k) size e = e
far_record false TooLong size e = never (cc)
far_record false CutShort size e = never (cc)
far_record false End size e = never (cc)
far_record false More size e = never (cc)

-- ---- where reading ends, and where it goes on

-- a size that is too long stays so, whatever follows
pub over_more : (s ys : List ℕ) → next_in s ≡ TooLong → next_in (s ++ ys) ≡ TooLong
unfolding next_in
over_more s ys e = go (eqb (length s) 0) (ltb (length s) 4) refl (ltb 32768 (le32 s 0)) refl (ltb (length s) (4 + le32 s 0)) e
  where
    more : 4 ≤ length s → 32768 < le32 s 0 → next_in (s ++ ys) ≡ TooLong
    more h k =
        let l = length-append s ys in
        let f = front_number s ys h in
        simp (ne_eqb (length (s ++ ys)) 0 (omega arith), le-ltb (length (s ++ ys)) 4 (omega arith), lt-ltb 32768 (le32 (s ++ ys) 0) (omega arith))

    go : (a b : Bool) → ltb (length s) 4 ≡ b → (c : Bool) → ltb 32768 (le32 s 0) ≡ c → (d : Bool)
        → cond a End (cond b CutShort (cond c TooLong (cond d CutShort (Record (le32 s 0))))) ≡ TooLong → next_in (s ++ ys) ≡ TooLong
    go true b p c q d f = never (cc)
    go false true p c q d f = never (cc)
    go false false p true q d f = more (ltb-false (length s) 4 p) (ltb-true 32768 (le32 s 0) q)
    go false false p false q true f = never (cc)
    go false false p false q false f = never (cc)

-- the last lines are those of the stream, whatever follows the bytes at hand
pub ends_there : (failed whole : Bool) (n : ℕ) (s ys : List ℕ) → (whole ≡ true → ys ≡ []) → goes_on (so_far whole (next_in s)) ≡ false
    → Reports failed n (s ++ ys) (closing (last_word failed (so_far whole (next_in s))) n)
ends_there failed whole n s ys f h = go whole f (next_in s) refl h
  where
    all : ys ≡ [] → s ≡ s ++ ys
    all e = sym (ap (λ (l : List ℕ). s ++ l) e ∙ append-nil s)

    go : (b : Bool) → (b ≡ true → ys ≡ []) → (w : NextFrame) → next_in s ≡ w → goes_on (so_far b w) ≡ false → Reports failed n (s ++ ys) (closing (last_word failed (so_far b w)) n)
    go true f (Record k) e h = never (cc)
    go true f TooLong e h = Reports.over (over_more s ys e)
    go true f CutShort e h = subst (λ (l : List ℕ). Reports failed n l (closing CutShort n)) (all (f refl)) (Reports.short e)
    go true f End e h = subst (λ (l : List ℕ). Reports failed n l (closing (last_word failed End) n)) (all (f refl)) (Reports.none e)
    go true f More e h = never (cc)
    go false f (Record k) e h = never (cc)
    go false f TooLong e h = Reports.over (over_more s ys e)
    go false f CutShort e h = never (cc)
    go false f End e h = never (cc)
    go false f More e h = never (cc)

-- no more has to be read where all is at hand, or as much as the longest record takes
pub no_more : (whole : Bool) (s : List ℕ) → (whole ≡ true) ⊎ (32772 ≤ length s) → so_far whole (next_in s) ≡ More → ⊥
unfolding next_in
no_more whole s h e = go whole h (eqb (length s) 0) refl (ltb (length s) 4) refl (ltb 32768 (le32 s 0)) refl (ltb (length s) (4 + le32 s 0)) refl e
  where
    go : (w : Bool) → (w ≡ true) ⊎ (32772 ≤ length s) → (a : Bool) → eqb (length s) 0 ≡ a → (b : Bool) → ltb (length s) 4 ≡ b → (c : Bool) → ltb 32768 (le32 s 0) ≡ c
        → (d : Bool) → ltb (length s) (4 + le32 s 0) ≡ d → so_far w (cond a End (cond b CutShort (cond c TooLong (cond d CutShort (Record (le32 s 0)))))) ≡ More → ⊥
    go true h true o b p c q d r f = never (cc)
    go true h false o true p c q d r f = never (cc)
    go true h false o false p true q d r f = never (cc)
    go true h false o false p false q true r f = never (cc)
    go true h false o false p false q false r f = never (cc)
    go false (inl k) a o b p c q d r f = never (cc)
    go false (inr k) true o b p c q d r f = omega (arith, eqb-true (length s) 0 o)
    go false (inr k) false o true p c q d r f = omega (arith, ltb-true (length s) 4 p)
    go false (inr k) false o false p true q d r f = never (cc)
    go false (inr k) false o false p false q true r f = omega (arith, ltb-false 32768 (le32 s 0) q, ltb-true (length s) (4 + le32 s 0) r)
    go false (inr k) false o false p false q false r f = never (cc)

-- ---- lines that were put

-- the record at place used of s
module _ (s : List ℕ) (used size : ℕ) (e : next_in (drop used s) ≡ Record size) where
  pub record_in : used + 4 + size ≤ length s
  record_in = let f = (record_fits (drop used s) size e).whole in let l = length-drop used s in omega arith

  line_first : (failed : Bool) (n : ℕ) (ys t : List ℕ) → Reports failed (n + 1) (drop (used + 4 + size) s ++ ys) t → Reports failed n (drop used s ++ ys) (line_of (n + 1) (take size (drop (used + 4) s)) ++ t)
  line_first failed n ys t p =
      let f = (record_fits (drop used s) size e).whole in
      let l = length-drop 4 (drop used s) in
      let g : drop (4 + size) (drop used s ++ ys) ≡ drop (used + 4 + size) s ++ ys =
      drop-append-le (4 + size) (drop used s) ys f
      ∙ ap (λ (l : List ℕ). l ++ ys) (drop-drop (4 + size) used s ∙ ap (λ (k : ℕ). drop k s) {x = used + (4 + size)} {y = used + 4 + size} (omega arith)) in
      let h : take size (drop 4 (drop used s ++ ys)) ≡ take size (drop (used + 4) s) =
      ap (take size) (drop-append-le 4 (drop used s) ys (omega arith))
      ∙ take-append-le size (drop 4 (drop used s)) ys (omega arith)
      ∙ ap (take size) (drop-drop 4 used s) in
      subst (λ (l : List ℕ). Reports failed n (drop used s ++ ys) (line_of (n + 1) l ++ t)) h
      (Reports.line (next_more (drop used s) ys size e) (subst (λ (l : List ℕ). Reports failed (n + 1) l t) (sym g) p))

  pub gone_turn : {records at n put put' : ℕ} {d d₁ d₂ : List ℕ} → Gone s records d at used n put d₁ → Put d₁ put (line_of (n + 1) (take size (drop (used + 4) s))) put' d₂ → 131072 ≤ length d → put' ≤ 131072
      → Gone s records d at (used + 4 + size) (n + 1) put' d₂
  gone_turn {records} {at} {n} {put} {put'} {d} {d₁} {d₂} g p w h =
      let L = line_of (n + 1) (take size (drop (used + 4) s)) in
      let b = g.from in
      let k : length (take put d₁) ≡ put = length-take-le put d₁ (omega (arith, g.upto, g.same)) in
      let m : take put' d₂ ≡ take put d₁ ++ L = ap (λ (i : ℕ). take i d₂) p.next ∙ p.head in record {
        within = record_in;
        counted = omega (arith, g.counted);
        from = omega (arith, p.next);
        upto = h;
        same = p.same ∙ g.same;
        kept =
            sym (take-take at put' d₂ (omega (arith, p.next)))
            ∙ ap (take at) m
            ∙ take-append-le at (take put d₁) L (omega arith)
            ∙ take-take at put d₁ b
            ∙ g.kept;
        earned = λ l. omega arith;
        lines = λ b ys t q.
            subst (λ (l : List ℕ). Reports b records (s ++ ys) l)
            (sym (append_assoc (drop at (take put d₁)) L t) ∙ ap (λ (l : List ℕ). l ++ t) (sym (drop-append-le at (take put d₁) L (omega arith)) ∙ ap (drop at) (sym m)))
            (g.lines b ys (L ++ t) (line_first b n ys t q));
      }

-- reading goes on behind a record, unless more has to be read
pub went_on : {s d d' : List ℕ} {whole : Bool} {records at : ℕ} {r : Block} → Went s whole records d at r d' → at ≤ 65280 → goes_on r.next ≡ true → (whole ≡ true) ⊎ (32772 ≤ length s) → 0 < r.used
went_on {s} {whole = whole} {at = at} {r} w h e k = go r.next refl e r.used refl
  where
    go : (x : NextFrame) → r.next ≡ x → goes_on x ≡ true → (n : ℕ) → r.used ≡ n → 0 < n
    go x p q (suc n) u = omega arith
    go (Record size) p q zero u = let l = w.gone.earned (omega (arith, w.full size p)) in absurd (omega arith)
    go TooLong p q zero u = never (cc)
    go CutShort p q zero u = never (cc)
    go End p q zero u = never (cc)
    go More p q zero u = absurd (no_more whole s k (ap (λ (n : ℕ). so_far whole (next_in (drop n s))) (sym u) ∙ sym w.next ∙ p))
