use Rattle.sd_tie.proofs.elements_lemmas.Statements.{element_statement_tied}
use Rattle.sd_tie.proofs.elements.laws.an_element_statement_does_what_it_says.Goals as goal

pub returns : goal.returns
returns c = λ known table setting context tied are line name at add value knows affine in_scope.
    element_statement_tied known table setting context tied are in_scope name _ knows.0 at affine.0 add value knows.1 knows.0 affine.1 line
