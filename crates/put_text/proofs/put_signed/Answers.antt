-- The tab, the sign, and the number without it.
use Rattle.std.proofs.Common.{ℕ, ◌≡◌, List, [], ◌∷◌, ◌++◌, refl, ap, ◌∙◌, nat_abs}
use mir.Facts.{to_z-of_z}
use Rattle.decimal.specs.Decimal.{decimal}
use Rattle.put_text.specs.Puts.{sign_of}
use Rattle.put_text.proofs.PutLaws.{put_then, put_as, signed_is}
use Rattle.put_text.proofs.put_signed.Goals as goal

pub returns-clause-put : goal.returns-clause-put
returns-clause-put c =
    let z = c.args.z in
    let e : c.from.result ≡ nat_abs z = simp (to_z-of_z c.ranges.z) at (c.from.ensures ∙ c.unsigned_abs.ensures.value) in
    let f = put_then (9 ∷ []) (sign_of z ++ decimal c.from.result) c.put_byte-from.ensures.put (put_then (sign_of z) (decimal c.from.result) (simp (to_z-of_z c.ranges.z) at c.put_sign-digits.ensures.put) c.put_number.ensures.put) in
    put_as _ (ap (λ (k : ℕ). 9 ∷ (sign_of z ++ decimal k)) e ∙ ap (λ (l : List ℕ). 9 ∷ l) (signed_is z)) refl refl f
