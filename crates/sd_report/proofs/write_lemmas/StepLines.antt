-- The lines of steps, cut at one of them.
use Rattle.std.proofs.Common.{◌≡◌, ℕ, ◌+◌, ◌<◌, List, ◌++◌, take, drop, length, get_or, ap, sym, ◌∙◌}
use Rattle.std.proofs.lemmas.List.{take-append-drop, drop_more, map-append}
use Rattle.std.proofs.lemmas.List.Concat.{flat_map-append}
use Rattle.sd_core.specs.declared.run.Chosen.{Chosen}
use Rattle.sd_report.specs.write.RunText.{pair_of, steps_told, step_text, steps_text}

-- the lines of steps and of those behind them
lines_append : (first second : List Chosen) → steps_text (steps_told (first ++ second)) ≡ steps_text (steps_told first) ++ steps_text (steps_told second)
lines_append first second = ap steps_text (map-append pair_of first second) ∙ flat_map-append step_text (steps_told first) (steps_told second)

-- what comes before a line, the line, and what comes after it
pub steps_cut : (steps : List Chosen) (number : ℕ) (default : Chosen) → number < length steps →
    steps_text (steps_told steps) ≡ steps_text (steps_told (take number steps)) ++ (step_text (pair_of (get_or steps number default)) ++ steps_text (steps_told (drop (number + 1) steps)))
steps_cut steps number default within =
    ap (λ all. steps_text (steps_told all)) (sym (take-append-drop number steps))
    ∙ lines_append (take number steps) (drop number steps)
    ∙ ap (λ rest. steps_text (steps_told (take number steps)) ++ steps_text (steps_told rest)) (drop_more steps number default within)
