use Rattle.std.proofs.Common.{map, string_bytes, bytes_eq, ap, sym, ◌∙◌, subst}
use Rattle.std.specs.List.{IsDistinct}
use Rattle.sd_json.proofs.NameLists.{names_opened, argument_names, cut_names, same_names, map_take, names_differ}
use Rattle.sd_json.proofs.names.Names.of.Goals as goal

pub returns-clause-names : goal.returns-clause-names
returns-clause-names c =
    let symbols = cut_names _ _ _ _ c.as_slice-variables.ensures.value c.min-symbols.ensures in
    let arguments = cut_names _ _ _ _ (c.as_slice-containers.ensures ∙ c.keys.ensures.rest) c.min-arguments.ensures in
    same_names _ _ (c.in_ok-copied.ensures ∙ ap (map string_bytes) symbols ∙ map_take string_bytes _ _) (c.in_ok-copied-2.ensures ∙ ap (map string_bytes) arguments ∙ argument_names _ _)
    ∙ sym (names_opened c.args.graph.now)

pub returns-clause-distinct : goal.returns-clause-distinct
returns-clause-distinct c =
    let arguments = cut_names _ _ _ _ (c.as_slice-containers.ensures ∙ c.keys.ensures.rest) c.min-arguments.ensures in
    subst (IsDistinct bytes_eq) (sym (c.in_ok-copied-2.ensures ∙ ap (map string_bytes) arguments)) (names_differ _ _ c.keys.ensures.unique)
