use Rattle.std.proofs.Common.{◌≡◌, ℕ, ◌<◌, length, List, map, get_or, ap, sym, ◌∙◌, subst}
use Rattle.std.specs.List.{filter_map}
use Rattle.std.specs.BTreeMap.{get_by_text}
use Rattle.sd_json.specs.Given.{IsFull}
use Rattle.sd_json.specs.Entries.{array_kept, size_kept}
use Rattle.sd_json.specs.ArraysReading.{array_in, size_in}
use Rattle.sd_json.specs.declared.array.Array.{Array}
use Rattle.sd_json.proofs.Refusals.{sizes_same, arrays_same, same_contents, unrefused_reading}
use Rattle.sd_json.proofs.Full.{unrefused_are_full}
use Rattle.sd_json.proofs.reading.judged.Goals as goal

pub new-requires : goal.new-requires
new-requires c =
    let fields = c.requires.object.0 in
    let kept = c.requires.object.1 in
    let arrays : c.in_ok-arrays.arrays ≡ map (array_in fields) c.args.names.now.arguments =
    c.in_ok-arrays.ensures ∙ ap (map (λ name. array_kept (get_by_text c.args.kept.entries name))) c.as_slice-2.ensures ∙ arrays_same c.args.names.now c.args.kept fields kept in
    subst (λ (all : List Array). (k : ℕ) (d : Array) → k < length all → IsFull (get_or all k d)) (sym arrays) (unrefused_are_full c.args.names.now fields (sym (c.in_ok-refusal.ensures fields kept) ∙ c.in_default.is))

pub returns-clause-ok : goal.returns-clause-ok
returns-clause-ok c = λ fields kept.
    let arrays : c.in_ok-arrays.arrays ≡ map (array_in fields) c.args.names.now.arguments =
    c.in_ok-arrays.ensures ∙ ap (map (λ name. array_kept (get_by_text c.args.kept.entries name))) c.as_slice-2.ensures ∙ arrays_same c.args.names.now c.args.kept fields kept in
    let sizes : c.in_ok-sizes.sizes ≡ filter_map (size_in fields) c.args.names.now.symbols =
    c.in_ok-sizes.ensures ∙ ap (filter_map (λ symbol. size_kept symbol (get_by_text c.args.kept.entries symbol))) c.as_slice.ensures ∙ sizes_same c.args.names.now c.args.kept fields kept in
    unrefused_reading c.args.names.now fields c.new.result (sym (c.in_ok-refusal.ensures fields kept) ∙ c.in_default.is)
    (same_contents _ _ (sym (c.new.ensures.sizes ∙ sizes)) (sym (c.new.ensures.arrays ∙ arrays)))
