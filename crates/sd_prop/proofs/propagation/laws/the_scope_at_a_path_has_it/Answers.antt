use Rattle.sd_prop.specs.propagation.Scopes.{all_scopes}
use Rattle.sd_prop.proofs.propagation_lemmas.ScopeLaws.{found}
use Rattle.sd_prop.proofs.propagation.laws.the_scope_at_a_path_has_it.Goals as goal

pub returns : goal.returns
returns c = record {
  path = λ tree path scope is. (found path (all_scopes tree) scope is).has;
  member = λ tree path scope is. (found path (all_scopes tree) scope is).member;
}
