-- The containers of a program are those of its arguments and then those of its body.
use Rattle.std.proofs.Common.{◌≡◌, ◌∙◌, ℕ, List, [], ◌++◌, ap, sym, subst, false, bytes_eq}
use Rattle.std.specs.List.{IsDistinct}
use Rattle.std.proofs.lemmas.List.{append-nil}
use Rattle.sd_lex.specs.PlainTree.{Block, FunctionTree}
use Rattle.sd_program.specs.Names.{Name, Named}
use Rattle.sd_task.specs.in_force.Names.{with_numbered}
use Rattle.sd_task.specs.containers.Declarations.{Containers, containers_with_all, containers_of_function}
use Rattle.sd_program.specs.DeclaredNames.{declared_names_all, container_names}
use Rattle.sd_task.specs.containers.NamesToCome.{AreToCome, Declares}
use Rattle.sd_task.proofs.containers_lemmas.ToComeLemmas.{declares_both, all_to_come}

pub function_declared : (symbols : List Name) (function : FunctionTree) (known : Named ℕ) (declared : List Name) (before between after : Containers) (arguments body : Block) →
    known ≡ with_numbered symbols 0 [] → declared ≡ container_names function → before ≡ [] → arguments ≡ function.arguments → body ≡ function.body → IsDistinct bytes_eq (container_names function) →
    Declares declared before (declared_names_all arguments []) (containers_with_all known declared arguments false before) between →
    Declares declared between (declared_names_all body []) (containers_with_all known declared body false between) after → after ≡ containers_of_function symbols function
function_declared symbols function known declared before between after arguments body known_is declared_is before_is arguments_is body_is different one other =
    let names : List Name = container_names function in
    let of_arguments : Declares declared before (declared_names_all function.arguments []) (containers_with_all known declared function.arguments false before) between =
    subst (λ block. Declares declared before (declared_names_all block []) (containers_with_all known declared block false before) between) arguments_is one in
    let of_body : Declares declared between (declared_names_all function.body []) (containers_with_all known declared function.body false between) after =
    subst (λ block. Declares declared between (declared_names_all block []) (containers_with_all known declared block false between) after) body_is other in
    let both : Declares declared before names (containers_with_all known declared function.body false (containers_with_all known declared function.arguments false before)) after =
    declares_both declared before between after (containers_with_all known declared function.arguments false before) (declared_names_all function.arguments []) function.body
    (λ containers. containers_with_all known declared function.body false containers) of_arguments of_body in
    let here : AreToCome names [] (names ++ []) = subst (AreToCome names []) (sym (append-nil names)) (all_to_come names different) in
    let come : AreToCome declared before (names ++ []) =
    subst (λ all. AreToCome all before (names ++ [])) (sym declared_is) (subst (λ containers. AreToCome names containers (names ++ [])) (sym before_is) here) in
    (both [] come).0
    ∙ ap (λ known. containers_with_all known declared function.body false (containers_with_all known declared function.arguments false before)) known_is
    ∙ ap (λ all. containers_with_all (with_numbered symbols 0 []) all function.body false (containers_with_all (with_numbered symbols 0 []) all function.arguments false before)) declared_is
    ∙ ap (λ containers. containers_with_all (with_numbered symbols 0 []) names function.body false (containers_with_all (with_numbered symbols 0 []) names function.arguments false containers)) before_is
