use Rattle.std.proofs.Common.{ap, ◌∙◌, None, cond, bytes_eq}
use Rattle.std.specs.BTreeMap.{get_by_text}
use Rattle.std.proofs.lemmas.Map.Text.{btree_map_updates_text}
use Rattle.sd_json.proofs.reading.take_array.Goals as goal

pub returns-in-Some-clause-others : goal.returns-in-Some-clause-others
returns-in-Some-clause-others c = λ other differs.
    btree_map_updates_text c.as_str.result.now c.args.entries.now c.remove.new.self None c.remove.ensures.updates other
    ∙ ap (λ name. cond (bytes_eq name other) None (get_by_text c.args.entries.now other)) c.as_str.ensures
    ∙ ap (λ same. cond same None (get_by_text c.args.entries.now other)) differs
