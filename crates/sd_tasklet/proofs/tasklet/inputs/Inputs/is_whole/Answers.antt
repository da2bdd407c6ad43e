use Rattle.std.proofs.Common.{ℕ, ◌≤◌, List, [], length, subst, sym}
use Rattle.std.specs.Prelude.{slice_index_or}
use Rattle.sd_tasklet.proofs.tasklet_lemmas.Members.{all_few}
use Rattle.sd_tasklet.proofs.tasklet.inputs.Inputs.is_whole.Goals as goal

pub returns-else-have_few_dimensions-clause-no : goal.returns-else-have_few_dimensions-clause-no
returns-else-have_few_dimensions-clause-no c whole =
    c.have_few_dimensions.ensures.no (all_few c.as_slice-extents.result.now
    (subst (λ (l : List (List ℕ)). (connector : ℕ) → length (slice_index_or l connector []) ≤ 4) (sym c.as_slice-extents.ensures) whole.dimensions))
