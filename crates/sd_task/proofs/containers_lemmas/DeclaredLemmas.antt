-- The names that are declared after others stand behind them.
use Rattle.std.proofs.Common.{◌≡◌, ◌∙◌, List, [], ◌∷◌, ◌++◌, Bool, true, false, cond, refl, ap, sym}
use Rattle.std.proofs.lemmas.List.{append-nil, append_assoc}
use Rattle.sd_lex.specs.PlainTree.{StatementTree, argument_array, local_array, local_stream, assign, copy, reduce, map_scope, tasklet, consume_scope, call, for_loop, while_loop, branch, input, output, set, set_at, tasklet_branch, Block, no_statement, and_statement}
use Rattle.sd_lex.specs.StatementKind.{has_connector}
use Rattle.sd_program.specs.Names.{Name}
use Rattle.sd_program.specs.DeclaredNames.{declared_names, declared_names_all}

-- two blocks one after the other
joined : (first second : List Name → List Name) (names : List Name) → ((names : List Name) → first names ≡ names ++ first []) → ((names : List Name) → second names ≡ names ++ second []) →
    second (first names) ≡ names ++ second (first [])
joined first second names one other =
    other (first names) ∙ ap (λ front. front ++ second []) (one names) ∙ append_assoc names (first []) (second []) ∙ ap (λ back. names ++ back) (sym (other (first [])))

mutual
  pub names_joined : (statement : StatementTree) (names : List Name) → declared_names statement names ≡ names ++ declared_names statement []
  names_joined (argument_array line name bits extents) names = refl
  names_joined (local_array line name extents bits) names = refl
  names_joined (local_stream line name bits size) names = refl
  names_joined (map_scope line parameters ranges body) names = names_joined_all body names
  names_joined (consume_scope line stream size name element worker body) names = by (has_connector body) (names_joined_all body)
    where
      by : (is_task : Bool) → ((names : List Name) → declared_names_all body names ≡ names ++ declared_names_all body []) →
          cond is_task names (declared_names_all body (names ++ element ∷ [])) ≡ names ++ cond is_task [] (declared_names_all body (element ∷ []))
      by true rest = sym (append-nil names)
      by false rest = rest (names ++ element ∷ []) ∙ append_assoc names (element ∷ []) (declared_names_all body []) ∙ ap (λ back. names ++ back) (sym (rest (element ∷ [])))
  names_joined (for_loop line name begin end step body) names = names_joined_all body names
  names_joined (while_loop line when body) names = names_joined_all body names
  names_joined (branch line when body other) names = joined (declared_names_all body) (declared_names_all other) names (names_joined_all body) (names_joined_all other)
  names_joined (assign line name at add value) names = sym (append-nil names)
  names_joined (copy line to to_dimensions from from_dimensions) names = sym (append-nil names)
  names_joined (reduce line lambda from to axis identity) names = sym (append-nil names)
  names_joined (tasklet line body) names = sym (append-nil names)
  names_joined (call line name arguments) names = sym (append-nil names)
  names_joined (input line connector memlet) names = sym (append-nil names)
  names_joined (output line connector memlet) names = sym (append-nil names)
  names_joined (set line name value) names = sym (append-nil names)
  names_joined (set_at line name at value) names = sym (append-nil names)
  names_joined (tasklet_branch line when body other) names = sym (append-nil names)

  pub names_joined_all : (block : Block) (names : List Name) → declared_names_all block names ≡ names ++ declared_names_all block []
  names_joined_all no_statement names = sym (append-nil names)
  names_joined_all (and_statement first rest) names = joined (declared_names first) (declared_names_all rest) names (names_joined first) (names_joined_all rest)
