use Rattle.std.proofs.Common.{◌≡◌, ap, sym, ◌∙◌, arith, bytes_eq, get_or, ◌++◌, ◌∷◌, []}
use Rattle.sd_json.specs.Entries.{array_kept}
use Rattle.std.specs.BTreeMap.{get_by_text}
use Rattle.sd_json.proofs.Finding.{makes_more, two_differ}
use Rattle.sd_json.proofs.reading.take_arrays.Goals as goal

pub loop-name-preserved : goal.loop-name-preserved
loop-name-preserved c =
    let item = c.name-item.result in
    let at = c.name-item.is in
    let here = c.loop-name.invariant.left c.loop-name.name-index item (omega arith) c.loop-name-test.true in
    let taken : c.take_array.result ≡ array_kept (get_by_text c.args.entries.now item) =
    c.take_array.ensures.array ∙ ap array_kept (ap (get_by_text c.loop-name.entries) at ∙ here ∙ sym (ap (get_by_text c.args.entries.now) at)) in record {
      made = makes_more (λ name. array_kept (get_by_text c.args.entries.now name)) c.args.names.now c.loop-name.name-index item _ _ c.loop-name-test.true at c.loop-name.invariant.made (c.in_ok-push.ensures.items ∙ ap (λ a. c.loop-name.arrays.items ++ a ∷ []) taken);
      left = λ k none from less.
          c.take_array.ensures.others (get_or c.args.names.now k none) (ap (λ name. bytes_eq name (get_or c.args.names.now k none)) at ∙ two_differ c.args.names.now c.loop-name.name-index k none item c.requires (omega arith) less)
          ∙ c.loop-name.invariant.left k none (omega arith) less;
    }
