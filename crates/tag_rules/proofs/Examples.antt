-- Worked records, each with what the reader answers: reads of three bases, whose tags begin at 46, unless another length is said.
use Prim.Native.Nat.{ℕ}
use Rattle.std.specs.Prelude.{Ok, Err}
use Rattle.answers.specs.Answer.{Answer}
use mathlib.Core.Path.{◌≡◌, refl}
use mathlib.Core.List.{List, [], ◌∷◌, ◌++◌}
use lib.ListN.{length, take, replicate}
use Rattle.sam.specs.Record.{ops_in, uint32, op_bytes}
use Rattle.sam.specs.Tags.{number_size, to_nul, array_size, value_size, tag_size, tag_at, tags_behind, is_cg, is_op_array, is_placeholder}
use Rattle.oplist.specs.Ops.{record_ops}
use Rattle.answers.specs.declared.Refusal.TheVariants.{ShortRecord, AreaOverrun, BadTags, OtherCg}
use Rattle.tag_rules.specs.Long.{list_in, first_cg, behind_placeholder, true_list}
use Rattle.oplist.specs.declared.Area.{Area}

-- a record of so many bases with these ops and what follows them; its name is a NUL
abbrev made : ℕ → List ℕ → List ℕ → List ℕ
made seq ops rest = replicate 8 0 ++ (1 ∷ 0 ∷ 0 ∷ 0 ∷ length ops ∷ 0 ∷ 0 ∷ 0 ∷ (uint32 seq ++ (replicate 12 0 ++ (0 ∷ (op_bytes ops ++ rest)))))

-- 3S10N, two bytes of bases, three of qualities, tags
abbrev three : List ℕ → Answer Area
three tags = true_list (made 3 (52 ∷ 163 ∷ []) (replicate 5 9 ++ tags))

-- NM:C:5, RG:Z:a, XB:B:s,1,2
abbrev before : List ℕ
before = 78 ∷ 77 ∷ 67 ∷ 5 ∷ 82 ∷ 71 ∷ 90 ∷ 97 ∷ 0 ∷ 88 ∷ 66 ∷ 66 ∷ 115 ∷ 2 ∷ 0 ∷ 0 ∷ 0 ∷ 1 ∷ 0 ∷ 2 ∷ 0 ∷ []

-- CG of so many numbers of a type
abbrev cg : ℕ → ℕ → List ℕ → List ℕ
cg kind n xs = 67 ∷ 71 ∷ 66 ∷ kind ∷ (uint32 n ++ op_bytes xs)

-- a CG behind other tags, before a byte that is no tag, before a CG of another type, of no op; no tag; tags without CG
pub worked : ◌≡◌ {A = List (Answer Area)}
    (three (before ++ cg 73 2 (16 ∷ 32 ∷ []))
    ∷ three (cg 73 2 (16 ∷ 32 ∷ []) ++ (1 ∷ []))
    ∷ three (cg 73 1 (16 ∷ []) ++ cg 105 1 (16 ∷ []))
    ∷ three (cg 73 0 [])
    ∷ three []
    ∷ three before
    ∷ [])
    ((Ok (record { at = 75; n = 2 })) ∷ (Ok (record { at = 54; n = 2 })) ∷ (Ok (record { at = 54; n = 1 })) ∷ (Ok (record { at = 54; n = 0 })) ∷ (Ok (record { at = 33; n = 2 })) ∷ (Ok (record { at = 33; n = 2 })) ∷ [])
unfolding ops_in op_bytes record_ops number_size to_nul array_size value_size tag_size tag_at tags_behind is_placeholder is_cg is_op_array list_in first_cg behind_placeholder true_list
worked = refl

-- refusal 12: one and two bytes where a tag should begin; a type and an array's type that are not listed; a text without its NUL; a CG cut in its count, one short of a
-- number, of 2^30 + 1 numbers, of a type not listed; then 13: a CG that is an array of signed numbers, and one that is a text
pub refused : ◌≡◌ {A = List (Answer Area)}
    (three (before ++ (88 ∷ []))
    ∷ three (before ++ (88 ∷ 89 ∷ []))
    ∷ three (88 ∷ 89 ∷ 100 ∷ 1 ∷ 2 ∷ 3 ∷ 4 ∷ 5 ∷ 6 ∷ 7 ∷ 8 ∷ [])
    ∷ three (88 ∷ 89 ∷ 66 ∷ 65 ∷ 1 ∷ 0 ∷ 0 ∷ 0 ∷ 1 ∷ [])
    ∷ three (88 ∷ 89 ∷ 72 ∷ 65 ∷ 65 ∷ [])
    ∷ three (67 ∷ 71 ∷ 66 ∷ 73 ∷ 0 ∷ 0 ∷ 0 ∷ [])
    ∷ three (cg 73 2 (16 ∷ []))
    ∷ three (cg 73 1073741825 (16 ∷ []))
    ∷ three (67 ∷ 71 ∷ 100 ∷ 1 ∷ [])
    ∷ three (cg 105 1 (16 ∷ []))
    ∷ three (67 ∷ 71 ∷ 90 ∷ 97 ∷ 0 ∷ [])
    ∷ [])
    (replicate 9 (Err BadTags) ++ (Err OtherCg ∷ Err OtherCg ∷ []))
unfolding ops_in op_bytes record_ops number_size to_nul array_size value_size tag_size tag_at tags_behind is_placeholder is_cg is_op_array list_in first_cg behind_placeholder true_list
refused = refl

-- no bases, `0S` and `0N`: the tags begin at 41; S of another length, and three ops, are no placeholder, whatever follows; an l_seq that no S can have; qualities that
-- overrun, far and by one; an area that overruns; a short record
pub fronts : ◌≡◌ {A = List (Answer Area)}
    (true_list (made 0 (4 ∷ 3 ∷ []) (cg 73 1 (16 ∷ [])))
    ∷ true_list (made 3 (36 ∷ 163 ∷ []) (replicate 5 9 ++ cg 73 1 (16 ∷ [])))
    ∷ true_list (made 3 (52 ∷ 163 ∷ 0 ∷ []) (88 ∷ []))
    ∷ true_list (made 4294967295 (52 ∷ 163 ∷ []) [])
    ∷ true_list (made 268435455 (4294967284 ∷ 163 ∷ []) (replicate 5 9))
    ∷ true_list (made 3 (52 ∷ 163 ∷ []) (replicate 4 9))
    ∷ true_list (take 40 (made 3 (52 ∷ 163 ∷ []) []))
    ∷ true_list (take 31 (made 3 (52 ∷ 163 ∷ []) []))
    ∷ [])
    ((Ok (record { at = 49; n = 1 })) ∷ (Ok (record { at = 33; n = 2 })) ∷ (Ok (record { at = 33; n = 3 })) ∷ (Ok (record { at = 33; n = 2 })) ∷ Err BadTags ∷ Err BadTags ∷ Err AreaOverrun ∷ Err ShortRecord ∷ [])
unfolding ops_in op_bytes record_ops number_size to_nul array_size value_size tag_size tag_at tags_behind is_placeholder is_cg is_op_array list_in first_cg behind_placeholder true_list
fronts = refl
