-- What a consume scope and a branch declare, by what their parts do.
use Rattle.std.proofs.Common.{◌≡◌, ℕ, ℤ, List, [], ◌∷◌, Option, Bool, true, false, cond, pos, sym, subst}
use Rattle.sd_lex.specs.PlainTree.{Expression, StatementTree, consume_scope, branch, Block}
use Rattle.sd_lex.specs.StatementKind.{has_connector}
use Rattle.sd_graph.specs.declared.container.ContainerKind.TheVariants.{Private}
use Rattle.sd_program.specs.Affines.{affine_number}
use Rattle.sd_program.specs.Names.{Name, Named}
use Rattle.sd_task.specs.containers.Declarations.{Containers, containers_with, containers_with_all, followed_by, with_element}
use Rattle.sd_program.specs.DeclaredNames.{declared_names, declared_names_all}
use Rattle.sd_task.specs.containers.NamesToCome.{Declares}
use Rattle.sd_task.proofs.containers_lemmas.ToComeLemmas.{declares_both}

module _ (symbols : Named ℕ) (declared : List Name) (in_scope : Bool) (before after : Containers) (tree : StatementTree) where
  -- a consume scope, by whether it is one tasklet
  consume_arm : (line : ℕ) (stream : Name) (size : ℤ) (name element : Name) (worker : Option Name) (body : Block) (is_task : Bool) →
      tree ≡ consume_scope line stream size name element worker body → has_connector body ≡ is_task →
      Declares declared before (cond is_task [] (declared_names_all body (element ∷ [])))
      (cond is_task (with_element declared before is_task element) (containers_with_all symbols declared body true (with_element declared before is_task element))) after →
      Declares declared before (declared_names tree []) (containers_with symbols declared tree in_scope before) after
  consume_arm line stream size name element worker body is_task is has made =
      subst (λ tree. Declares declared before (declared_names tree []) (containers_with symbols declared tree in_scope before) after) (sym is)
      (subst
      (λ test. Declares declared before (cond test [] (declared_names_all body (element ∷ [])))
      (cond test (with_element declared before test element) (containers_with_all symbols declared body true (with_element declared before test element))) after) (sym has) made)

  pub taken_arm : (line : ℕ) (stream : Name) (size : ℤ) (name element : Name) (worker : Option Name) (body : Block) → tree ≡ consume_scope line stream size name element worker body → has_connector body ≡ true →
      Declares declared before [] (with_element declared before true element) after → Declares declared before (declared_names tree []) (containers_with symbols declared tree in_scope before) after
  taken_arm line stream size name element worker body is has made = consume_arm line stream size name element worker body true is has made

  pub body_arm : (between : Containers) (line : ℕ) (stream : Name) (size : ℤ) (name element : Name) (worker : Option Name) (body : Block) → tree ≡ consume_scope line stream size name element worker body →
      has_connector body ≡ false → Declares declared before (element ∷ []) (followed_by before element (affine_number (pos 1) ∷ []) Private) between →
      Declares declared between (declared_names_all body []) (containers_with_all symbols declared body true between) after →
      Declares declared before (declared_names tree []) (containers_with symbols declared tree in_scope before) after
  body_arm between line stream size name element worker body is has one other =
      consume_arm line stream size name element worker body false is has
      (declares_both declared before between after (followed_by before element (affine_number (pos 1) ∷ []) Private) (element ∷ []) body (λ containers. containers_with_all symbols declared body true containers) one other)

  pub if_arm : (between : Containers) (line : ℕ) (when : Expression) (body other : Block) → tree ≡ branch line when body other →
      Declares declared before (declared_names_all body []) (containers_with_all symbols declared body in_scope before) between →
      Declares declared between (declared_names_all other []) (containers_with_all symbols declared other in_scope between) after →
      Declares declared before (declared_names tree []) (containers_with symbols declared tree in_scope before) after
  if_arm between line when body other is one two =
      subst (λ tree. Declares declared before (declared_names tree []) (containers_with symbols declared tree in_scope before) after) (sym is)
      (declares_both declared before between after (containers_with_all symbols declared body in_scope before) (declared_names_all body []) other
      (λ containers. containers_with_all symbols declared other in_scope containers) one two)
