use Rattle.std.proofs.Common.{◌≡◌, true, false, sym, ap, ◌∙◌}
use Rattle.std.specs.BTreeMap.{get_by_text}
use Rattle.sd_json.specs.Entries.{has_fault}
use Rattle.sd_json.proofs.Finding.{found_here, found_later}
use Rattle.sd_json.proofs.fault.Fault.first.Goals as goal

pub returns-then-is_of : goal.returns-then-is_of
returns-then-is_of c =
    let found : has_fault c.args.self (get_by_text c.args.entries.now c.name-item.result) ≡ true = ap (λ name. has_fault c.args.self (get_by_text c.args.entries.now name)) (sym c.as_str.ensures) ∙ ap (has_fault c.args.self) (sym c.get.ensures.value) ∙ sym c.is_of.ensures ∙ c.if-is_of.true in
    sym (c.loop-name.invariant ∙ found_here _ _ _ _ c.loop-name-test.true c.name-item.is found)

pub loop-name-preserved : goal.loop-name-preserved
loop-name-preserved c =
    let found : has_fault c.args.self (get_by_text c.args.entries.now c.name-item.result) ≡ false = ap (λ name. has_fault c.args.self (get_by_text c.args.entries.now name)) (sym c.as_str.ensures) ∙ ap (has_fault c.args.self) (sym c.get.ensures.value) ∙ sym c.is_of.ensures ∙ c.if-is_of.false in
    c.loop-name.invariant ∙ found_later _ _ _ _ c.loop-name-test.true c.name-item.is found
