use Rattle.std.proofs.Common.{◌≡◌, false, refl, ap, ◌∙◌, ◌||◌, bytes_eq}
use Rattle.std.specs.List.{list_any}
use Rattle.std.specs.BTreeSet.{contains_text}
use Rattle.sd_json.proofs.Finding.{neither_is_extra}
use Rattle.sd_json.proofs.entries.wanted.Goals as goal

pub returns : goal.returns
returns c = λ name.
    let none : contains_text c.new-set.result name ≡ false = rw c.new-set.ensures.empty refl in
    neither_is_extra c.args.names.now _ _ _ name none
    (c.in_ok-add.ensures name ∙ ap (λ all. contains_text c.new-set.result name || list_any (bytes_eq name) all) c.as_slice.ensures)
    (c.in_ok-add-2.ensures name ∙ ap (λ all. contains_text c.add.new.set name || list_any (bytes_eq name) all) c.as_slice-2.ensures)
