-- What is read and what is written, told by one access.
use Rattle.std.proofs.Common.{◌≡◌, ◌<◌, ◌++◌, refl, ap, sym, ◌∙◌, List, [], ◌∷◌, map, length, arith, String, Vec}
use Rattle.std.specs.declared.alloc.Global.{Global}
use Rattle.sd_lex.specs.TreeFold.{call_argument_of}
use Rattle.sd_lex.specs.declared.syntax.memlet.Slot.{Slot}
use Rattle.sd_lex.specs.PlainTree.{Expression, number, named, element_at, one, two, choice, Dimension, Block}
use Rattle.sd_source.specs.nodes.Items.{Name}
use Rattle.sd_source.specs.nodes.Names.{noted_own}
use Rattle.sd_source.specs.nodes.Nodes.{chosen}
use Rattle.sd_source.specs.nodes.SourceItems.{Parameters, given, connected, elements_in, with_elements}
use Rattle.sd_source.specs.declared.nodes.access.Access.{Access}
use Rattle.sd_source.specs.declared.nodes.access.Access.TheVariants.{Read, Write}
use Rattle.sd_source.proofs.nodes_lemmas.NameLemmas.{own_both}

-- what has no item gives nothing
pub given_nothing : (access : Access) (parameters : Parameters) (arguments : List (String Global × Vec Slot Global)) → length arguments < 1 → given access parameters (map call_argument_of arguments) ≡ []
given_nothing access [] arguments h = refl
given_nothing access (parameter ∷ parameters) [] h = refl
given_nothing access (parameter ∷ parameters) (argument ∷ arguments) h = absurd (omega arith)

pub chosen_given : (access : Access) (parameters : Parameters) (arguments : List (Name × List Dimension)) → chosen access (given Read parameters arguments) (given Write parameters arguments) ≡ given access parameters arguments
chosen_given Read parameters arguments = refl
chosen_given Write parameters arguments = refl

pub chosen_connected : (access : Access) (body : Block) → chosen access (connected Read body) (connected Write body) ≡ connected access body
chosen_connected Read body = refl
chosen_connected Write body = refl

-- elements are noted one after another
pub with_elements_is : (own known : List Name) (expression : Expression) → with_elements own known expression ≡ noted_own own known (elements_in expression)
with_elements_is own known (number value) = refl
with_elements_is own known (named name) = refl
with_elements_is own known (element_at name at) = refl
with_elements_is own known (one sign of) = with_elements_is own known of
with_elements_is own known (two sign left right) =
    with_elements_is own (with_elements own known left) right ∙ ap (λ names. noted_own own names (elements_in right)) (with_elements_is own known left) ∙ sym (own_both own known (elements_in left) (elements_in right))
with_elements_is own known (choice value when other) =
    with_elements_is own (with_elements own (with_elements own known value) when) other
    ∙ ap (λ names. noted_own own names (elements_in other)) (with_elements_is own (with_elements own known value) when ∙ ap (λ names. noted_own own names (elements_in when)) (with_elements_is own known value))
    ∙ sym (own_both own known (elements_in value) (elements_in when ++ elements_in other) ∙ own_both own (noted_own own known (elements_in value)) (elements_in when) (elements_in other))
