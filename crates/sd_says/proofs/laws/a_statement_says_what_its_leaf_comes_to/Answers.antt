use Rattle.sd_range.specs.Subset.{whole}
use Rattle.sd_says.specs.Setting.{place_at}
use Rattle.sd_says.specs.Operators.{resolution_of}
use Rattle.sd_says.specs.Parts.{part_extents, part_elements, part_element}
use Rattle.sd_says.specs.Pieces.{copied, target_place}
use Rattle.sd_says.proofs.SamePieces.{doing-same, element-statement-same, reduction-same, guard-same}
use Rattle.sd_says.proofs.Same.{tasklet-same, taking-same}
use Rattle.sd_says.proofs.laws.a_statement_says_what_its_leaf_comes_to.Goals as goal

pub returns-clause-element : goal.returns-clause-element
returns-clause-element c = λ setting line in_scope name at add value memories turns. element-statement-same setting (place_at setting line) in_scope name at add value memories turns

pub returns-clause-tasklet : goal.returns-clause-tasklet
returns-clause-tasklet c = tasklet-same

pub returns-clause-taking : goal.returns-clause-taking
returns-clause-taking c = taking-same

pub returns-clause-copy : goal.returns-clause-copy
returns-clause-copy c = λ place from to memories turns. doing-same place (copied from to) memories turns

pub returns-clause-reduction : goal.returns-clause-reduction
returns-clause-reduction c = λ place lambda from to axis identity memories turns.
    reduction-same place (resolution_of lambda) identity (part_elements to) (λ at. part_element from at) (λ at. part_element to (target_place axis at)) (whole (part_extents from)) memories turns

pub returns-clause-condition : goal.returns-clause-condition
returns-clause-condition c = guard-same
