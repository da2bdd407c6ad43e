use Rattle.std.proofs.Common.{◌≡◌, ◌∙◌, ◌++◌, ◌∷◌, ℕ, List, [], codes, ap, sym, append_assoc}
use Rattle.std.specs.Fmt.{decimal}
use Rattle.sd_tool.proofs.lines.condition.Goals as goal

-- a newline behind four parts
ended : (first second third fourth : List ℕ) → first ++ (second ++ (third ++ (fourth ++ 10 ∷ []))) ≡ (((first ++ second) ++ third) ++ fourth) ++ 10 ∷ []
ended first second third fourth =
    sym (append_assoc ((first ++ second) ++ third) fourth (10 ∷ []) ∙ append_assoc (first ++ second) third (fourth ++ 10 ∷ []) ∙ append_assoc first second (third ++ (fourth ++ 10 ∷ [])))

pub returns : goal.returns
returns c =
    let number = decimal c.args.number in
    let condition = decimal c.args.condition in
    c.in_ok-writeln.ensures.bytes
    ∙ ap (λ text. text ++ (codes "chain refused at line " ++ (number ++ (codes " condition " ++ (condition ++ 10 ∷ []))))) c.new-text.ensures.bytes
    ∙ ended (codes "chain refused at line ") number (codes " condition ") condition
