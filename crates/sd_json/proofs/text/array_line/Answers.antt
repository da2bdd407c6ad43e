use Rattle.std.proofs.Common.{◌++◌, ◌∷◌, [], ap, ◌∙◌}
use Rattle.sd_json.specs.AnswerText.{elements_text}
use Rattle.sd_json.proofs.text.array_line.Goals as goal

pub returns : goal.returns
returns c =
    c.in_ok-push_str.ensures.bytes
    ∙ ap (λ line. line ++ 10 ∷ []) (c.in_ok-push_elements.ensures ∙ (λ i. c.in_ok-line.ensures i ++ elements_text (c.cells.ensures.elements i)))
