-- The texts of refusals, each line ended by a newline.
use Rattle.std.specs.Prelude.{ℕ, List, [], ◌∷◌, ◌++◌, Option, Some, None, codes}
use Rattle.std.specs.Fmt.{decimal}
use Rattle.sd_context.specs.declared.blocks.refusal.Refusal.{Refusal}
use Rattle.sd_report.specs.write.RunText.{line}
use Rattle.sd_tool.specs.declared.ending.ArraysRefusal.{ArraysRefusal}

abbrev pub source_text : Refusal → List ℕ
source_text refusal = line (codes "source error " ++ decimal refusal.number ++ codes " at line " ++ decimal refusal.line)

-- a name, after a space
abbrev pub named : Option (List ℕ) → List ℕ
named None = []
named (Some name) = 32 ∷ name

abbrev pub arrays_text : ArraysRefusal → List ℕ
arrays_text refusal = line (codes "arrays error " ++ decimal refusal.number ++ named refusal.name)

-- the number of a word that is no pick
abbrev pub picks_text : (word : ℕ) → List ℕ
picks_text word = line (codes "picks refused at word " ++ decimal word)

-- the number of a line of a chain that is no form
abbrev pub chain_text : (number : ℕ) → List ℕ
chain_text number = line (codes "chain refused at line " ++ decimal number)

-- the number of a line of a chain whose step may not be done, and that of the condition that fails
abbrev pub condition_text : (number condition : ℕ) → List ℕ
condition_text number condition = line (codes "chain refused at line " ++ decimal number ++ codes " condition " ++ decimal condition)
