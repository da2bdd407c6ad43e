use Rattle.std.proofs.Common.{refl}
use Rattle.sd_rows.specs.rows.Map.{context_at}
use Rattle.sd_rows.proofs.rows_lemmas.RowEnds.{tracks_end, row_told, given_back, kept_so}
use Rattle.sd_rows.proofs.rows.rows.run_tracks.Goals as goal

pub returns-clause-end : goal.returns-clause-end
returns-clause-end c =
    let task = c.args.task.now in
    let row = c.args.row.now in
    let steps = c.args.steps.now in
    row_told task row steps c.end_at.result c.run_row-end.result c.args.machine.now c.give_back.new.self c.end_at.ensures.end
    (tracks_end task row steps (context_at task).containers c.args.tracks.now c.args.instance.now.code c.args.instance.now.frame c.args.own.now.contents
    c.args.machine.now c.lend.new.self c.run_row-end.new.machine c.give_back.new.self c.run_row-end.result c.requires.none c.requires.instance c.requires.tracks
    refl c.requires.own c.in_ok-lend.ensures.memories c.in_ok-lend.ensures.turns c.give_back.ensures.memories c.give_back.ensures.turns c.run_row-end.ensures.end)

pub returns-clause-own : goal.returns-clause-own
returns-clause-own c =
    let task = c.args.task.now in
    kept_so task c.args.row.now c.args.steps.now c.end_at.result _
    (given_back task c.args.row.now c.args.steps.now c.args.tracks.now c.args.instance.now.code c.args.instance.now.frame c.args.own.now.contents c.give_back.new.own.contents
    c.args.machine.now c.lend.new.self c.run_row-end.new.machine c.requires.none c.requires.instance c.requires.tracks c.requires.own c.in_ok-lend.ensures.memories c.run_row-end.ensures.own c.give_back.ensures.memory)
