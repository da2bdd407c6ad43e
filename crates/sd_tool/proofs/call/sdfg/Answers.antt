use Rattle.std.proofs.Common.{[]}
use Rattle.sd_tool.specs.Answer.{listed, checked, planned, matched}
use Rattle.sd_tool.proofs.EndLemmas.{prints_from_end, traced_from_end, written_from_end, race_from_end}
use Rattle.sd_tool.proofs.Presented.{asked_prints, presented_prints}
use Rattle.sd_tool.proofs.RunOutcome.{ends_somehow, steps_somehow}
use Rattle.sd_tool.proofs.StatusEnds.{one_race, asked_step, asked_text, asked_check, asked_plan, asked_matches, statuses}
use Rattle.sd_tool.proofs.call.sdfg.Goals as goal

pub returns-clause-headline : goal.returns-clause-headline
returns-clause-headline g c = λ call run work other presents is makes free quiet. presented_prints _ _ _ c.perform.result call run work other presents makes is free quiet c.perform.ensures.ends

pub returns-clause-run : goal.returns-clause-run
returns-clause-run g c = λ call run work other asks is makes accepted quiet. asked_prints _ _ _ c.perform.result call run work other asks makes is accepted quiet c.perform.ensures.ends

pub returns-clause-interleaving : goal.returns-clause-interleaving
returns-clause-interleaving g c = λ call step picks work other asks is traces makes gives accepted quiet.
    let ended = ends_somehow _ _ call work asks step.turns in
    let picked = steps_somehow _ _ call work asks other step.turns picks step.traces makes in
    prints_from_end _ _ _ c.perform.result work step.turns ended.0 ended.1
    (asked_step _ _ call work other asks makes step picks [] picked.outcome ended.0 is gives accepted (picked.none traces) ended.1) quiet c.perform.ensures.ends

pub returns-clause-trace : goal.returns-clause-trace
returns-clause-trace g c = λ call step picks work other asks is traces makes gives accepted quiet.
    let ended = ends_somehow _ _ call work asks step.turns in
    let picked = steps_somehow _ _ call work asks other step.turns picks step.traces makes in
    traced_from_end _ _ _ c.perform.result work other picks step.turns picked.outcome picked.trace ended.0 picked.traced ended.1
    (asked_step _ _ call work other asks makes step picks picked.trace picked.outcome ended.0 is gives accepted (picked.all traces) ended.1) quiet c.perform.ensures.ends

pub returns-clause-listing : goal.returns-clause-listing
returns-clause-listing g c = λ call work other asks is makes quiet. written_from_end _ _ _ c.perform.result (listed other) (asked_text _ _ call work other asks makes is) quiet c.perform.ensures.ends

pub returns-clause-verdict : goal.returns-clause-verdict
returns-clause-verdict g c = λ call work other asks is makes accepted quiet. written_from_end _ _ _ c.perform.result (checked other) (asked_check _ _ call work other asks makes is accepted) quiet c.perform.ensures.ends

pub returns-clause-planning : goal.returns-clause-planning
returns-clause-planning g c = λ call work other asks is makes accepted quiet. written_from_end _ _ _ c.perform.result (planned other) (asked_plan _ _ call work other asks makes is accepted) quiet c.perform.ensures.ends

pub returns-clause-matching : goal.returns-clause-matching
returns-clause-matching g c = λ call work other asks is makes quiet. written_from_end _ _ _ c.perform.result (matched other) (asked_matches _ _ call work other asks makes is) quiet c.perform.ensures.ends

pub returns-clause-race : goal.returns-clause-race
returns-clause-race g c = λ call work other picks asks makes gives checks refused quiet. race_from_end _ _ _ c.perform.result other (one_race _ _ call work other asks makes picks gives checks refused) quiet c.perform.ensures.ends

pub returns-clause-statuses : goal.returns-clause-statuses
returns-clause-statuses g c = statuses _ _ _ c.perform.result c.perform.ensures.ends
