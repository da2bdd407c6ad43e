use Rattle.sd_tie.proofs.elements_lemmas.Affines.{affine_exact}
use Rattle.sd_tie.proofs.elements.laws.an_affine_expression_has_its_value.Goals as goal

pub returns : goal.returns
returns c = affine_exact
