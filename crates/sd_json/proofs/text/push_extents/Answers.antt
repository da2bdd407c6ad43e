use Rattle.std.proofs.Common.{◌≡◌, ap, sym, ◌∙◌, map, unsigned_abs, string_bytes, take_all, ◌++◌, ◌∷◌, append_assoc}
use Rattle.std.specs.List.{flat_map}
use Rattle.std.specs.Fmt.{decimal}
use Rattle.std.proofs.lemmas.List.Folds.{flat_map-map}
use Rattle.sd_range.specs.declared.affine.Affine.{Affine}
use Rattle.sd_json.specs.AnswerText.{extents_text}
use Rattle.sd_json.proofs.text.push_extents.Goals as goal

pub returns : goal.returns
returns c =
    let old = string_bytes c.args.line.now in
    let others = c.in-Some.others.now in
    let first : string_bytes c.write.new.self ≡ old ++ decimal (unsigned_abs c.in-Some.extent.now.constant) = c.in_ok-write.ensures.bytes ∙ ap (λ n. old ++ decimal n) c.extent_value.ensures in
    c.loop-other.invariant
    ∙ (λ i. first i ++ flat_map (λ other. 44 ∷ decimal (unsigned_abs other.constant)) (take_all c.loop-other.other-index others c.loop-other-test.false i))
    ∙ append_assoc old (decimal (unsigned_abs c.in-Some.extent.now.constant)) (flat_map (λ other. 44 ∷ decimal (unsigned_abs other.constant)) others)
    ∙ ap (λ rest. old ++ (decimal (unsigned_abs c.in-Some.extent.now.constant) ++ rest)) (sym (flat_map-map (λ n. 44 ∷ decimal n) (λ (extent : Affine). unsigned_abs extent.constant) others))
    ∙ ap (λ all. old ++ extents_text (map (λ (extent : Affine). unsigned_abs extent.constant) all)) (sym c.in-Some.ensures.cases.0)
