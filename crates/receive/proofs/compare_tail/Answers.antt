-- Bases, qualities, tags: the first test that fails names its part.
use mathlib.Core.Path.{◌≡◌, ◌∙◌}
use Rattle.sam.specs.Bases.{packed}
use Rattle.sam.specs.Parts.{part, bases_part, quals_part, tags_part, record_bases}
use Rattle.receive_rules.specs.Receiving.{same}
use Rattle.receive_rules.proofs.AnswerLaws.{bases-part, quals-part, tags-part, tail_bases, tail-quals, tail-tags, tail-same}
use Rattle.receive.proofs.compare_tail.Goals as goal

pub returns-then-not-same_bases : goal.returns-then-not-same_bases
returns-then-not-same_bases c =
    let bases : let a = c.args in c.same_bases.result ≡ same (bases_part a.got.now) (packed (part (record_bases a.rec.now) a.from a.n)) =
    let a = c.args in
    c.same_bases.ensures
    ∙ bases-part a.got.now a.rec.now a.from a.n c.bases_start.result c.bases_start-bases.result c.requires.got_value c.requires.n_bound
    c.bases_start.ensures.0 c.bases_start-bases.ensures.0
    in
    let a = c.args in
    tail_bases a.got.now a.rec.now a.from a.n _ (bases) (c.if-not-same_bases.true)

pub returns-then-not-same_bytes : goal.returns-then-not-same_bytes
returns-then-not-same_bytes c =
    let bases : let a = c.args in c.same_bases.result ≡ same (bases_part a.got.now) (packed (part (record_bases a.rec.now) a.from a.n)) =
    let a = c.args in
    c.same_bases.ensures
    ∙ bases-part a.got.now a.rec.now a.from a.n c.bases_start.result c.bases_start-bases.result c.requires.got_value c.requires.n_bound
    c.bases_start.ensures.0 c.bases_start-bases.ensures.0
    in
    let quals : let a = c.args in c.same_bytes.result ≡ same (quals_part a.got.now) (part (quals_part a.rec.now) a.from a.n) =
    let a = c.args in
    c.same_bytes.ensures
    ∙ quals-part a.got.now a.rec.now a.from a.n c.quals_start.result c.quals_start-quals.result c.requires.got_value c.requires.n_bound
    c.quals_start.ensures.0 c.quals_start-quals.ensures.0
    in
    let a = c.args in
    tail-quals a.got.now a.rec.now a.from a.n _ (bases) _ (quals) (c.if-not-same_bases.false) (c.if-not-same_bytes.true)

pub returns-then-not-same_rest : goal.returns-then-not-same_rest
returns-then-not-same_rest c =
    let bases : let a = c.args in c.same_bases.result ≡ same (bases_part a.got.now) (packed (part (record_bases a.rec.now) a.from a.n)) =
    let a = c.args in
    c.same_bases.ensures
    ∙ bases-part a.got.now a.rec.now a.from a.n c.bases_start.result c.bases_start-bases.result c.requires.got_value c.requires.n_bound
    c.bases_start.ensures.0 c.bases_start-bases.ensures.0
    in
    let quals : let a = c.args in c.same_bytes.result ≡ same (quals_part a.got.now) (part (quals_part a.rec.now) a.from a.n) =
    let a = c.args in
    c.same_bytes.ensures
    ∙ quals-part a.got.now a.rec.now a.from a.n c.quals_start.result c.quals_start-quals.result c.requires.got_value c.requires.n_bound
    c.quals_start.ensures.0 c.quals_start-quals.ensures.0
    in
    let tags : let a = c.args in c.same_rest.result ≡ same (tags_part a.got.now) (tags_part a.rec.now) =
    let a = c.args in
    c.same_rest.ensures ∙ tags-part a.got.now a.rec.now c.tags_start.result c.tags_start-tags.result c.tags_start.ensures.0 c.tags_start-tags.ensures.0
    in
    let a = c.args in
    tail-tags a.got.now a.rec.now a.from a.n _ (bases) _ (quals) _ (tags) (c.if-not-same_bases.false) (c.if-not-same_bytes.false)
    (c.if-not-same_rest.true)

pub returns : goal.returns
returns c =
    let bases : let a = c.args in c.same_bases.result ≡ same (bases_part a.got.now) (packed (part (record_bases a.rec.now) a.from a.n)) =
    let a = c.args in
    c.same_bases.ensures
    ∙ bases-part a.got.now a.rec.now a.from a.n c.bases_start.result c.bases_start-bases.result c.requires.got_value c.requires.n_bound
    c.bases_start.ensures.0 c.bases_start-bases.ensures.0
    in
    let quals : let a = c.args in c.same_bytes.result ≡ same (quals_part a.got.now) (part (quals_part a.rec.now) a.from a.n) =
    let a = c.args in
    c.same_bytes.ensures
    ∙ quals-part a.got.now a.rec.now a.from a.n c.quals_start.result c.quals_start-quals.result c.requires.got_value c.requires.n_bound
    c.quals_start.ensures.0 c.quals_start-quals.ensures.0
    in
    let tags : let a = c.args in c.same_rest.result ≡ same (tags_part a.got.now) (tags_part a.rec.now) =
    let a = c.args in
    c.same_rest.ensures ∙ tags-part a.got.now a.rec.now c.tags_start.result c.tags_start-tags.result c.tags_start.ensures.0 c.tags_start-tags.ensures.0
    in
    let a = c.args in
    tail-same a.got.now a.rec.now a.from a.n _ (bases) _ (quals) _ (tags) (c.if-not-same_bases.false) (c.if-not-same_bytes.false)
    (c.if-not-same_rest.false)
