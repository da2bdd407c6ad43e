-- An index that is inside is kept whole.
use Rattle.std.proofs.Common.{◌≡◌, ℕ, ◌-◌, ℤ, pos, negsuc, List, [], ◌∷◌, ◌++◌, map, length, take, drop, replicate, true, ◌&&◌, int_le, int_lt, unsigned_abs, Ok, Err, refl, sym, ap, ◌∙◌}
use Rattle.std.proofs.Math.Seq.{take-append_seam, drop-append_seam}
use Rattle.std.proofs.lemmas.List.{length-map, map-append}
use Rattle.sd_range.specs.Subset.{inside}
use Rattle.sd_graph.specs.PlainTree.{ValueTree, ValueTrees, assign}
use Rattle.sd_graph.specs.TaskletMeaning as meaning
use Rattle.sd_tasklet.specs.tasklet.Kept.{filled, told, come_to, assignment_of}
use Rattle.sd_tasklet.specs.declared.tasklet.effect.Effect.{Effect}
use Rattle.sd_tasklet.proofs.tasklet_lemmas.Places.{both, inside_count}

-- the numbers of an index that is inside are natural
naturals : (extents : List ℕ) (at : List ℤ) → inside extents at ≡ true → map pos (map unsigned_abs at) ≡ at
naturals [] [] h = refl
naturals [] (number ∷ at) h = cc
naturals (extent ∷ extents) [] h = cc
naturals (extent ∷ extents) (pos n ∷ at) h = ap (λ rest. pos n ∷ rest) (naturals extents at (both (int_le (pos 0) (pos n) && int_lt (pos n) (pos extent)) (inside extents at) h).1)
naturals (extent ∷ extents) (negsuc n ∷ at) h = cc

pub front_filled : (extents : List ℕ) (at : List ℤ) → inside extents at ≡ true → map pos (take (length extents) (filled at)) ≡ at
front_filled extents at h =
    let many : length extents ≡ length (map unsigned_abs at) = inside_count extents at h ∙ sym (length-map at unsigned_abs) in
    rw many (ap (map pos) (take-append_seam (map unsigned_abs at) (replicate (4 - length at) 0)) ∙ naturals extents at h)

pub behind_filled : (extents : List ℕ) (at : List ℤ) → inside extents at ≡ true → drop (length extents) (filled at) ≡ replicate (4 - length extents) 0
behind_filled extents at h =
    let many : length extents ≡ length (map unsigned_abs at) = inside_count extents at h ∙ sym (length-map at unsigned_abs) in
    let same : length at ≡ length extents = sym (inside_count extents at h) in
    ap (λ n. drop n (filled at)) many ∙ (drop-append_seam (map unsigned_abs at) (replicate (4 - length at) 0) ∙ ap (λ n. replicate (4 - n) 0) same)

-- one effect is told as it was meant
pub told_as_meant : (inputs meant : meaning.Inputs) (locals : List ℤ) (connector : ℕ) (at : ValueTrees) (value : ValueTree) (place : List ℤ) (number : ℤ) (kept : List ℕ) →
    meaning.place_of meant connector (meaning.values_of meant locals at) ≡ Ok place → inside (meaning.extents_of_connector inputs connector) place ≡ true →
    meaning.value_of meant locals value ≡ Ok number → kept ≡ filled place →
    assignment_of meant locals connector at value ≡ Ok (told inputs (record { connector = connector; at = kept; value = number }))
told_as_meant inputs meant locals connector at value place number kept e h g k =
    rw (e, g, k) (λ i. Ok (record { connector = connector; at = sym (front_filled (meaning.extents_of_connector inputs connector) place h) i; value = number }))

-- an assignment adds its effect
effect_added : (now : meaning.Progress) (connector : ℕ) (place : meaning.Meaning (List ℤ)) (value : meaning.Meaning ℤ) →
    meaning.and_then place (λ at. meaning.and_then value (λ value. Ok (meaning.with_effect now connector at value)))
    ≡ meaning.and_then (meaning.and_then place (λ at. meaning.and_then value (λ value. Ok (record { connector = connector; at = at; value = value }))))
    (λ effect. Ok (record now { effects = now.effects ++ effect ∷ [] }))
effect_added now connector (Ok at) (Ok value) = refl
effect_added now connector (Ok at) (Err kind) = refl
effect_added now connector (Err kind) value = refl

pub assigned : (inputs meant : meaning.Inputs) (locals : List ℤ) (effects : List Effect) (connector : ℕ) (at : ValueTrees) (value : ValueTree) (effect : Effect) →
    assignment_of meant locals connector at value ≡ Ok (told inputs effect) →
    meaning.act_of meant (assign connector at value) (come_to inputs locals effects) ≡ Ok (come_to inputs locals (effects ++ effect ∷ []))
assigned inputs meant locals effects connector at value effect e =
    effect_added (come_to inputs locals effects) connector (meaning.place_of meant connector (meaning.values_of meant locals at)) (meaning.value_of meant locals value)
    ∙ (ap (λ meant. meaning.and_then meant (λ effect. Ok (record (come_to inputs locals effects) { effects = map (told inputs) effects ++ effect ∷ [] }))) e
    ∙ ap (λ told. Ok (record { locals = locals; effects = told })) (sym (map-append (told inputs) effects (effect ∷ []))))
