-- Contexts inside a point or an element.
use Rattle.std.proofs.Common.{◌≡◌, ℕ, ℤ, List, [], ◌∷◌, ◌++◌, map, length, refl, ap, sym, ◌∙◌}
use Rattle.std.proofs.lemmas.List.{append_assoc, map-append}
use Rattle.sd_range.specs.declared.range.Range.{Range}
use Rattle.sd_range.specs.Variables.{with_variables}
use Rattle.sd_graph.specs.PlainTree.{GraphTree}
use Rattle.sd_graph.specs.TreeParts.{containers_of}
use Rattle.sd_graph.specs.Context.{named_values, entered}
use Rattle.sd_graph.specs.LoopScope.{loops_in_force}
use Rattle.sd_graph.specs.Unfold.{at_point, at_element, assigned, name_of}
use Rattle.sd_scope.specs.declared.scope.base.Base.{Base}
use Rattle.sd_scope.specs.declared.scope.scope.ShownName.TheVariants.{Element}
use Rattle.sd_scope.specs.declared.scope.scope.Shown.{Shown}
use Rattle.sd_scope.specs.declared.scope.scope.Scope.{Scope}
use Rattle.sd_scope.specs.scope.Standing.{names_of, states_of, shown_name, all_shown, context_of, parameter_shown, IsInside}

-- what is shown, with its name
abbrev pub told : GraphTree → Shown → List ℕ × ℤ
told tree shown = (shown_name tree shown.name, shown.value)

-- a parameter with its name
abbrev pub parameter_told : GraphTree → Base → Scope → ℕ × ℤ → List ℕ × ℤ
parameter_told tree base scope assignment = (name_of (context_of tree base scope) assignment.0, assignment.1)

-- what is shown inside, behind what is shown outside
pub shown_inside : (tree : GraphTree) (own : List ℕ) (outer inner : Scope) (shown : List Shown) → IsInside own outer inner → inner.shown ≡ outer.shown ++ shown →
    all_shown tree inner ≡ all_shown tree outer ++ map (told tree) shown
shown_inside tree own outer inner shown inside more =
    let named = λ (begun : List ℤ) (state : ℕ). named_values (names_of tree) begun (loops_in_force (states_of tree) (length (names_of tree)) state) in
    ap (λ begun. named begun inner.state ++ map (told tree) inner.shown) inside.begun
    ∙ ap (λ state. named outer.begun state ++ map (told tree) inner.shown) inside.state
    ∙ ap (λ list. named outer.begun outer.state ++ map (told tree) list) more
    ∙ ap (λ list. named outer.begun outer.state ++ list) (map-append (told tree) outer.shown shown)
    ∙ sym (append_assoc (named outer.begun outer.state) (map (told tree) outer.shown) (map (told tree) shown))

-- a context inside
pub entered_context : (tree : GraphTree) (base : Base) (own : List ℕ) (outer inner : Scope) (shown : List Shown) → IsInside own outer inner → inner.shown ≡ outer.shown ++ shown →
    context_of tree base inner ≡ entered (context_of tree base outer) own inner.values.values (map (told tree) shown)
entered_context tree base own outer inner shown inside more = λ i. record {
  containers = containers_of tree;
  names = names_of tree;
  values = inner.values.values;
  reach = inside.reach (containers_of tree) base i;
  shown = shown_inside tree own outer inner shown inside more i;
  around = base.around;
}

-- parameters are shown by their names
pub parameters_told : (tree : GraphTree) (base : Base) (scope : Scope) (assignments : List (ℕ × ℤ)) →
    map (told tree) (map parameter_shown assignments)
    ≡ map (parameter_told tree base scope) assignments
parameters_told tree base scope [] = refl
parameters_told tree base scope (assignment ∷ assignments) =
    ap (λ (list : List (List ℕ × ℤ)). (name_of (context_of tree base scope) assignment.0, assignment.1) ∷ list) (parameters_told tree base scope assignments)

-- the context at a point
pub point_context : (tree : GraphTree) (base : Base) (private : List ℕ) (outer inner : Scope) (params : List (ℕ × Range)) (point : List ℤ) → IsInside private outer inner →
    inner.values.values ≡ with_variables (assigned params point) outer.values.values →
    inner.shown ≡ outer.shown ++ map parameter_shown (assigned params point) →
    context_of tree base inner ≡ at_point (context_of tree base outer) params private point
point_context tree base private outer inner params point inside values more =
    entered_context tree base private outer inner (map parameter_shown (assigned params point)) inside more
    ∙ ap (λ values. entered (context_of tree base outer) private values (map (told tree) (map parameter_shown (assigned params point)))) values
    ∙ ap (λ shown. entered (context_of tree base outer) private (with_variables (assigned params point) outer.values.values) shown) (parameters_told tree base outer (assigned params point))

-- the context at an element
pub element_context : (tree : GraphTree) (base : Base) (private : List ℕ) (outer inner : Scope) (element : ℕ) (value : ℤ) → IsInside (element ∷ private) outer inner →
    inner.values.values ≡ outer.values.values →
    inner.shown ≡ outer.shown ++ record { name = Element element; value = value } ∷ [] →
    context_of tree base inner ≡ at_element (context_of tree base outer) element private value
element_context tree base private outer inner element value inside values more =
    entered_context tree base (element ∷ private) outer inner (record { name = Element element; value = value } ∷ []) inside more
    ∙ ap (λ values. entered (context_of tree base outer) (element ∷ private) values ((shown_name tree (Element element), value) ∷ [])) values
