-- What the program prints is determined by the stream: there is one text, and only one, and how the stream was cut into blocks plays no part. By cases on what comes next.
use Prim.Native.Nat.{ℕ, zero, suc, ◌+◌, ◌<◌}
use mathlib.Core.Path.{◌≡◌, refl, sym, ap, ◌∙◌, subst}
use mathlib.Core.Bool.{Bool, true, false, cond}
use mathlib.Core.Logic.{inl}
use mathlib.Core.List.{List, ◌++◌}
use native.Mathlib.Omega.{arith}
use lib.ListN.{length, take, drop, length-drop}
use Rattle.lists.proofs.Absurd.{never}
use Rattle.line_rules.specs.Line.{line_of}
use Rattle.stream_rules.specs.Stream.{is_marked, next_in, closing, last_word, Reports, bad_input, Prints}
use Rattle.stream_rules.specs.declared.NextFrame.{NextFrame}
use Rattle.stream_rules.specs.declared.NextFrame.TheVariants.{Record, TooLong, CutShort, End, More}
use Rattle.stream_rules.proofs.FrameLaws.{record_fits, no_more}

-- two texts that the definition admits are the same
pub reports_unique : {failed : Bool} {n : ℕ} {s t u : List ℕ} → Reports failed n s t → Reports failed n s u → t ≡ u
reports_unique {failed} {n} {s} (Reports.line {size = a} {t = t} p x) (Reports.line {size = b} {t = u} q y) =
    let e : a ≡ b = cc in
    let y' : Reports failed (n + 1) (drop (4 + a) s) u = subst (λ (k : ℕ). Reports failed (n + 1) (drop (4 + k) s) u) (sym e) y in
    ap (λ (l : List ℕ). line_of (n + 1) (take a (drop 4 s)) ++ l) (reports_unique x y') ∙ ap (λ (k : ℕ). line_of (n + 1) (take k (drop 4 s)) ++ u) e
reports_unique (Reports.line p x) (Reports.over q) = never (cc)
reports_unique (Reports.line p x) (Reports.short q) = never (cc)
reports_unique (Reports.line p x) (Reports.none q) = never (cc)
reports_unique (Reports.over p) (Reports.line q y) = never (cc)
reports_unique (Reports.over p) (Reports.over q) = refl
reports_unique (Reports.over p) (Reports.short q) = never (cc)
reports_unique (Reports.over p) (Reports.none q) = never (cc)
reports_unique (Reports.short p) (Reports.line q y) = never (cc)
reports_unique (Reports.short p) (Reports.over q) = never (cc)
reports_unique (Reports.short p) (Reports.short q) = refl
reports_unique (Reports.short p) (Reports.none q) = never (cc)
reports_unique (Reports.none p) (Reports.line q y) = never (cc)
reports_unique (Reports.none p) (Reports.over q) = never (cc)
reports_unique (Reports.none p) (Reports.short q) = never (cc)
reports_unique (Reports.none p) (Reports.none q) = refl

-- a text that the definition admits
pub record Some (P : List ℕ → Type 0) : Type 0 where
  pub text : List ℕ
  pub is : P text

-- there is one: each record takes bytes
pub reports_total : (failed : Bool) (n : ℕ) (s : List ℕ) → Some (Reports failed n s)
reports_total failed n s = go (suc (length s)) n s (omega arith) (next_in s) refl
  where
    go : (most n : ℕ) (s : List ℕ) → length s < most → (w : NextFrame) → next_in s ≡ w → Some (Reports failed n s)
    go zero n s h w e = absurd (omega arith)
    go (suc k) n s h (Record size) e =
        let rest = drop (4 + size) s in
        let r = go k (n + 1) rest (omega (arith, length-drop (4 + size) s, (record_fits s size e).whole)) (next_in rest) refl in
        record { text = line_of (n + 1) (take size (drop 4 s)) ++ r.text; is = Reports.line e r.is }
    go (suc k) n s h TooLong e = record { text = closing TooLong n; is = Reports.over e }
    go (suc k) n s h CutShort e = record { text = closing CutShort n; is = Reports.short e }
    go (suc k) n s h End e = record { text = closing (last_word failed End) n; is = Reports.none e }
    go (suc k) n s h More e = absurd (no_more true s (inl refl) e)

-- the same of a whole stream
pub prints_total : (s : List ℕ) → Some (Prints s)
prints_total s = go (is_marked s)
  where
    go : (b : Bool) → Some (λ t. cond b (Reports false 0 (drop 5 s) t) (t ≡ bad_input))
    go true = reports_total false 0 (drop 5 s)
    go false = record { text = bad_input; is = refl }

pub prints_unique : (s t u : List ℕ) → Prints s t → Prints s u → t ≡ u
prints_unique s t u = go (is_marked s)
  where
    go : (b : Bool) → cond b (Reports false 0 (drop 5 s) t) (t ≡ bad_input) → cond b (Reports false 0 (drop 5 s) u) (u ≡ bad_input) → t ≡ u
    go true p q = reports_unique p q
    go false p q = p ∙ sym q
