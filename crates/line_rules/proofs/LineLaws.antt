-- The line by its three ways: the printing refuses, a later call refuses, or all answer; and a part of memory that was printed into.
use Prim.Native.Nat.{ℕ, suc, ◌+◌, ◌≤◌, ◌<◌}
use Rattle.std.specs.Prelude.{Err, Ok}
use Rattle.answers.specs.Answer.{Answer}
use mathlib.Core.Path.{◌≡◌, refl, sym, ap, ◌∙◌}
use mathlib.Core.Bool.{Bool, true, false}
use mathlib.Core.List.{List, [], ◌∷◌, ◌++◌, append_assoc}
use native.Mathlib.Omega.{arith}
use lib.IntN.{ℤ}
use lib.ListN.{length, take, drop, length-append, length-take, length-drop}
use lib.Seq.{take_at, length-take-le}
use borrow.Author.Tests.{ltb-false, le-ltb, lt-ltb, eq-eqb, ne_eqb}
use borrow.Rule.Slice.PartMut.{mid_of, post_of, put_mid, same_len_mid, put_same}
use Rattle.lists.proofs.Absurd.{never}
use Rattle.lists.specs.Lists.{sum_of, splice}
use Rattle.lists.proofs.ListLaws.{length_splice}
use Rattle.sam.specs.Op.{ref_len, query_len}
use Rattle.sam.specs.Record.{ops_end, seq_len_of, is_short}
use Rattle.oplist.specs.Ops.{record_ops}
use Rattle.answers.specs.Answers.{number_of, tell_count, tell_int, tell_nat}
use Rattle.answers.specs.Settled.{Settled}
use Rattle.answers.specs.declared.Refusal.{Refusal}
use Rattle.answers.specs.declared.Refusal.TheVariants.{ShortRecord, AreaOverrun}
use Rattle.answers.specs.declared.Pos1.{Pos1}
use Rattle.decimal.specs.Decimal.{decimal}
use Rattle.print_rules.specs.Text.{text_of, printed}
use Rattle.length_rules.specs.Lengths.{as_int, checked_ref_length}
use Rattle.ends_rules.specs.Ends.{unclipped_of, tell_unclipped}
use Rattle.ends_rules.specs.declared.Unclipped.{Unclipped}
use Rattle.bin_rules.specs.Bin.{record_bin}
use Rattle.put_text.specs.Puts.{Put, signed_decimal}
use Rattle.put_text.proofs.PutLaws.{put_then, put_as, put_dropped}
use Rattle.line_rules.specs.Line.{text_room, text_told, refs_told, five_told, bin_told, refusal_of, shown, or_star, or_dot, length_mark, tabbed, refused_fields, line_of}
use Rattle.line_rules.specs.Inner.{row_of, figures_of, row_fields}
use Rattle.line_rules.specs.declared.LineRow.{LineRow}
use Rattle.answers.proofs.Numbers.{not-zero}
use Rattle.line_rules.proofs.OrderLaws.{any_room, text_refused, text_shown, first_given, query_is, refusal_long, refusal_short}

-- ---- the last field: `-` where no sequence is stored, 1 where it is as long as the query, else 0

pub no_sequence : (q : ℕ) → length_mark q 0 ≡ 45
no_sequence q = refl

pub same_length : (n : ℕ) → 1 ≤ n → length_mark n n ≡ 49
same_length n h = rw (ne_eqb n 0 (λ (e : n ≡ 0). omega arith), eq-eqb n n refl) refl

pub other_length : (q n : ℕ) → 1 ≤ n → (q ≡ n → ⊥) → length_mark q n ≡ 48
other_length q n h d = rw (ne_eqb n 0 (λ (e : n ≡ 0). omega arith), ne_eqb q n d) refl

-- ---- the fifth field: "`.` for the latter two", unmapped and no ops

pub position_shown : (p : Pos1) → or_dot (Ok (Unclipped.At p)) ≡ signed_decimal p.0
position_shown p = refl

pub unmapped_shown : or_dot (Ok Unclipped.Unmapped) ≡ 46 ∷ []
unmapped_shown = refl

pub no_ops_shown : or_dot (Ok Unclipped.NoOps) ≡ 46 ∷ []
no_ops_shown = refl

-- ---- the text, where a part of memory was printed into

pub star_none : (t : List ℕ) → length t ≡ 0 → 42 ∷ [] ≡ or_star t
star_none [] e = refl
star_none (x ∷ t) e = absurd (no e)
  where
    no : suc (length t) ≡ 0 → ⊥
    no e = omega arith

pub star_some : (t : List ℕ) → 0 < length t → t ≡ or_star t
star_some [] h = absurd (no h)
  where
    no : 0 < 0 → ⊥
    no h = omega arith
star_some (x ∷ t) h = refl

-- a list in the first places of the part
pub put_part : (d : List ℕ) (from w : ℕ) (t ys : List ℕ) → ys ≡ splice (mid_of from w d) 0 t → length t ≤ length (mid_of from w d) → from ≤ length d
    → Put d from t (from + length t) (put_mid from w d ys)
unfolding splice
put_part d from w t ys e h k =
    let m : List ℕ = mid_of from w d in
    let l : length ys ≡ length m = ap length e ∙ length_splice m 0 t (omega arith) in
    let n : length (take from d ++ t) ≡ from + length t = length-append (take from d) t ∙ ap (λ (i : ℕ). i + length t) (length-take-le from d k) in record {
      next = refl;
      same = same_len_mid from w d ys l;
      head =
          ap (λ (l : List ℕ). take (from + length t) (take from d ++ (l ++ post_of from w d))) (e ∙ ap (λ (k : ℕ). t ++ drop k m) {x = 0 + length t} {y = length t} (omega arith))
          ∙ ap (λ (l : List ℕ). take (from + length t) (take from d ++ l)) (append_assoc t (drop (length t) m) (post_of from w d))
          ∙ ap (take (from + length t)) (sym (append_assoc (take from d) t (drop (length t) m ++ post_of from w d)))
          ∙ take_at (take from d ++ t) (drop (length t) m ++ post_of from w d) (from + length t) n;
    }

-- a text of n bytes behind a tab
pub record TextAt (b d : List ℕ) (at from n : ℕ) (d' : List ℕ) : Type 0 where
  pub long : 32 ≤ length b
  pub count : n ≡ length (text_of (record_ops b))
  pub fits : n ≤ 65536
  pub told : (printed b text_room).answer ≡ Ok (length (text_of (record_ops b)))
  pub put : Put d at (9 ∷ text_of (record_ops b)) (from + n) d'

module _ (b d d₁ ys : List ℕ) (at from w : ℕ) (r : Answer ℕ) (p : Put d at (9 ∷ []) from d₁) (q : Settled (printed b (mid_of from w d₁)) r ys) (e : w ≡ 65536) (f : from + 65536 ≤ length d₁) where
  room : length (mid_of from w d₁) ≡ 65536
  room = length-take w (drop from d₁) ∙ (let l = length-drop from d₁ in omega arith)

  answer : (printed b text_room).answer ≡ r
  answer = sym (any_room b (mid_of from w d₁) room) ∙ sym q.answer

  pub no_text : (why : Refusal) → r ≡ Err why → ((printed b text_room).answer ≡ Err why) × Put d at [] at (put_mid from w d₁ ys)
  no_text why g =
      let k : put_mid from w d₁ ys ≡ d₁ =
      ap (put_mid from w d₁) (q.memory ∙ text_refused b (mid_of from w d₁) why (sym q.answer ∙ g)) ∙ put_same from w d₁ in
      (answer ∙ g, put_dropped (9 ∷ []) (omega (arith, p.next, p.same)) (put_as (9 ∷ []) refl refl (sym k) p))

  pub a_text : (n : ℕ) → r ≡ Ok n → TextAt b d at from n (put_mid from w d₁ ys)
  a_text n g =
      let s = text_shown b (mid_of from w d₁) n (sym q.answer ∙ g) in
      let t = text_of (record_ops b) in
      let k = s.count in record {
        long = s.long;
        count = k;
        fits = omega (arith, s.fits, room);
        told = answer ∙ g ∙ ap Ok k;
        put = put_as (9 ∷ t) refl (ap (λ (i : ℕ). from + i) (sym k)) refl (put_then (9 ∷ []) t p (put_part d₁ from w t ys (q.memory ∙ s.left) (omega (arith, s.fits)) (omega arith)));
      }

-- ---- a refused record

refused_line : (n : ℕ) (b : List ℕ) (w : Refusal) → refusal_of b ≡ number_of w → line_of n b ≡ decimal n ++ tabbed (refused_fields (number_of w))
unfolding line_of
refused_line n b w e = rw (e, not-zero w)

text_refusal : (b : List ℕ) (w : Refusal) → (printed b text_room).answer ≡ Err w → refusal_of b ≡ number_of w
unfolding text_told printed
text_refusal b w e = go (is_short b) refl
  where
    t : (text_told b).number ≡ number_of w
    t = ap (λ (x : Answer ℕ). (tell_count x).number) e

    go : (s : Bool) → is_short b ≡ s → refusal_of b ≡ number_of w
    go true q =
        let f : Err ShortRecord ≡ Err w = rw q at e in
        let g : ShortRecord ≡ w = cc in
        refusal_short b (t ∙ ap number_of (sym g)) ∙ ap number_of g
    go false q = refusal_long b (ltb-false (length b) 32 q) ∙ rw (t, not-zero w)

pub line_no_text : (n : ℕ) (b : List ℕ) (w : Refusal) → (printed b text_room).answer ≡ Err w → line_of n b ≡ decimal n ++ tabbed (refused_fields (number_of w))
line_no_text n b w e = refused_line n b w (text_refusal b w e)

-- ---- the figures

module _ (b : List ℕ) (h : 32 ≤ length b) where
  pub refs_overrun : length b < ops_end b → checked_ref_length b ≡ Err AreaOverrun
  unfolding checked_ref_length
  refs_overrun k = simp (le-ltb _ _ h, lt-ltb (length b) (ops_end b) k)

  pub refs_within : ops_end b ≤ length b → as_int (sum_of ref_len (record_ops b)) ≡ checked_ref_length b
  unfolding checked_ref_length
  refs_within k = simp (le-ltb _ _ h, le-ltb (length b) (ops_end b) k)

pub figures_are : (b : List ℕ) (i : Answer ℤ) (q : ℕ) (u : Answer Unclipped) (k : Answer ℕ) (l : ℕ) → checked_ref_length b ≡ i → sum_of query_len (record_ops b) ≡ q → unclipped_of b ≡ u → record_bin b ≡ k → seq_len_of b ≡ l
    → figures_of b ≡ row_of i q u k (length_mark q l)
unfolding figures_of
figures_are b i q u k l e f g h m = cc

-- a position, unmapped and no ops are told with no refusal
answers : (u : Unclipped) → (tell_unclipped (Ok u)).number ≡ 0
answers (Unclipped.At p) = refl
answers Unclipped.Unmapped = refl
answers Unclipped.NoOps = refl

row_refused : (i : Answer ℤ) (q : ℕ) (u : Answer Unclipped) (k : Answer ℕ) (s : ℕ) (w : Refusal) → row_of i q u k s ≡ Err w
    → first_given 0 (tell_int i).number (tell_unclipped u).number (tell_nat k).number ≡ number_of w
unfolding row_of
row_refused (Err r) q u k s w e = let g : r ≡ w = cc in rw (not-zero r) (ap number_of g)
row_refused (Ok z) q (Err r) k s w e = let g : r ≡ w = cc in rw (not-zero r) (ap number_of g)
row_refused (Ok z) q (Ok u) (Err r) s w e = let g : r ≡ w = cc in rw (answers u) (ap number_of g)
row_refused (Ok z) q (Ok u) (Ok m) s w e = never (cc)

row_given : (i : Answer ℤ) (q : ℕ) (u : Answer Unclipped) (k : Answer ℕ) (s : ℕ) (w : LineRow) → row_of i q u k s ≡ Ok w
    → first_given 0 (tell_int i).number (tell_unclipped u).number (tell_nat k).number ≡ 0
unfolding row_of
row_given (Err r) q u k s w e = never (cc)
row_given (Ok z) q (Err r) k s w e = never (cc)
row_given (Ok z) q (Ok u) (Err r) s w e = never (cc)
row_given (Ok z) q (Ok u) (Ok m) s w e = rw (answers u) refl

row_shown : (i : Answer ℤ) (q : ℕ) (u : Answer Unclipped) (k : Answer ℕ) (s : ℕ) (w : LineRow) → row_of i q u k s ≡ Ok w
    → shown (tell_int i) ∷ decimal q ∷ or_dot u ∷ shown (tell_nat k) ∷ (s ∷ []) ∷ [] ≡ row_fields w
unfolding row_of signed_decimal
row_shown (Err r) q u k s w e = never (cc)
row_shown (Ok z) q (Err r) k s w e = never (cc)
row_shown (Ok z) q (Ok u) (Err r) s w e = never (cc)
row_shown (Ok z) q (Ok u) (Ok m) s w e =
    let g : ◌≡◌ {A = LineRow} (record { refs = z; query = q; five = u; bin = m; mark = s }) w = cc in ap row_fields g

module _ (n : ℕ) (b : List ℕ) (h : 32 ≤ length b) (k : ℕ) (e : (printed b text_room).answer ≡ Ok k) where
  given : refusal_of b ≡ first_given 0 (refs_told b).number (five_told b).number (bin_told b).number
  unfolding text_told
  given = refusal_long b h ∙ ap (λ (x : Answer ℕ). first_given (tell_count x).number (refs_told b).number (five_told b).number (bin_told b).number) e

  pub line_no_row : (w : Refusal) → figures_of b ≡ Err w → line_of n b ≡ decimal n ++ tabbed (refused_fields (number_of w))
  unfolding figures_of
  line_no_row w f = refused_line n b w (given ∙ row_refused (checked_ref_length b) _ (unclipped_of b) (record_bin b) _ w f)

  pub line_row : (w : LineRow) → figures_of b ≡ Ok w → line_of n b ≡ decimal n ++ ((9 ∷ or_star (text_of (record_ops b))) ++ tabbed (row_fields w))
  unfolding figures_of line_of tabbed signed_decimal
  line_row w f =
      let z : refusal_of b ≡ 0 = given ∙ row_given (checked_ref_length b) _ (unclipped_of b) (record_bin b) _ w f in
      rw (z, query_is b h)
      (ap (λ (fs : List (List ℕ)). decimal n ++ tabbed (or_star (text_of (record_ops b)) ∷ fs)) (row_shown (checked_ref_length b) _ (unclipped_of b) (record_bin b) _ w f))
