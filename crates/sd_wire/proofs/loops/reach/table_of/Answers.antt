use Rattle.std.proofs.Common.{◌≡◌, false, length, replicate, ap, ◌∙◌, rules}
use Rattle.std.proofs.lemmas.List.{length-replicate}
use Rattle.sd_wire.proofs.loops_lemmas.Spread.{set_length}
use Rattle.sd_wire.proofs.loops.reach.table_of.Goals as goal

pub returns-clause-room : goal.returns-clause-room
returns-clause-room c =
    let made : c.in_ok-table.table.items ≡ replicate c.args.count false = search rules in
    ap length c.add_state.ensures ∙ set_length _ c.args.state ∙ ap length made ∙ length-replicate c.args.count false
