use Rattle.std.proofs.Common.{◌≡◌, ap, ◌∙◌, cond, true, bytes_eq, string_bytes}
use Rattle.std.specs.BTreeSet.{contains_text}
use Rattle.std.proofs.lemmas.Map.Text.{btree_set_updates_text}
use Rattle.sd_json.proofs.Finding.{one_more_name}
use Rattle.sd_json.proofs.entries.add.Goals as goal

pub loop-name-preserved : goal.loop-name-preserved
loop-name-preserved c =
    let copied : string_bytes c.in_ok-to_string.field-0 ≡ c.name-item.result = c.in_ok-to_string.ensures.ok ∙ c.as_str.ensures in
    one_more_name (contains_text c.insert.new.self) (contains_text c.loop-name.set) (contains_text c.args.set.now) c.args.names.now c.loop-name.name-index c.name-item.result c.loop-name-test.true c.name-item.is c.loop-name.invariant
    (λ name. btree_set_updates_text (string_bytes c.in_ok-to_string.field-0) c.loop-name.set c.insert.new.self true c.in_ok-insert.ensures.updates name ∙ ap (λ added. cond (bytes_eq added name) true (contains_text c.loop-name.set name)) copied)
