use Rattle.std.proofs.Common.{option_map, ap, sym, ◌∙◌}
use Rattle.sd_mem.specs.machine.Stack.{reference_of}
use Rattle.sd_rows.specs.rows.Map.{standing}
use Rattle.sd_rows.proofs.rows_lemmas.Tracks.{on_track}
use Rattle.sd_rows.proofs.rows.between.track_of.Goals as goal

pub returns-in-Some-spaced_between : goal.returns-in-Some-spaced_between
returns-in-Some-spaced_between c steps values context way =
    let task = c.args.task.now in
    on_track steps c.args.gaps (standing task c.args.first.now) (standing task c.args.last.now) values context way c.args.link.now
    c.in-Some.begin c.in-Some-2.end (sym (ap (option_map reference_of) c.in-Some.is) ∙ c.in_ok-begin.ensures) (sym (ap (option_map reference_of) c.in-Some-2.is) ∙ c.in_ok-end.ensures)
    c.in-Some-spaced_between.elements c.in-Some-spaced_between.ensures
