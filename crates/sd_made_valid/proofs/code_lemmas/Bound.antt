-- Sizes leave code as large as it is.
use Rattle.std.proofs.Common.{◌≡◌, ℕ, suc, ◌+◌, nat_le, ℤ, List, [], ◌∷◌, map, length, Bool, true, false, if◌then◌else◌, refl, ap, arith}
use Rattle.std.specs.Prelude.{⊤}
use Rattle.std.specs.List.{list_all}
use Rattle.sd_range.specs.declared.affine.Affine.{Affine}
use Rattle.sd_range.specs.declared.range.Range.{Range}
use Rattle.sd_range.specs.declared.subset.Dim.{Dim}
use Rattle.sd_range.specs.declared.subset.Dim.TheVariants.{Index, Span}
use Rattle.sd_graph.specs.PlainTree as plain
use Rattle.sd_graph.specs.PlainTree.{ValueTree, literal, variable, local, input, one, two, choice, ValueTrees, no_value, and_value, ActTree, set_local, assign, branch, ActTrees, no_act, and_act, TaskletTree, KindTree}
use Rattle.sd_graph.specs.declared.link.Link.{Link}
use Rattle.sd_valid.specs.BoundCode.{names_symbol, bound_value, bound_values, bound_act, bound_acts, bound_tasklet}
use Rattle.sd_valid.specs.BoundExpression.{bound_link, bound_param}
use Rattle.sd_valid.specs.BoundTree.{bound_kind}
use Rattle.sd_validity.specs.rules.Parts.{is_dim_passed, is_range_passed, are_links_passed, are_params_passed, is_kind_passed}
use Rattle.sd_validity.specs.rules.CodeSize.{levels_of, subscript_levels, greatest_levels, act_levels, acts_levels, act_lines, acts_lines, is_code_small}
use Rattle.sd_made_valid.specs.code.Code.{code_tests}
use Rattle.sd_made_valid.proofs.code_lemmas.Expressions.{IsBrief}

-- ---- code

module _ (sizes : List ℤ) (variables : List ℕ) where
  variable_bound : (test : Bool) (value : ℤ) (place : ℕ) → levels_of (if test then literal value else variable place) ≡ 0
  variable_bound true value place = refl
  variable_bound false value place = refl

  mutual
    value_bound : (value : ValueTree) → levels_of (bound_value sizes variables value) ≡ levels_of value
    value_bound (literal number) = refl
    value_bound (variable place) = variable_bound (names_symbol (length sizes) variables place) _ place
    value_bound (local number) = refl
    value_bound (input connector at) = subscripts_bound at
    value_bound (one sign of) = ap suc (value_bound of)
    value_bound (two sign left right) = rw (value_bound left, value_bound right) refl
    value_bound (choice value when other) = rw (value_bound value, value_bound when, value_bound other) refl

    subscripts_bound : (at : ValueTrees) → subscript_levels (bound_values sizes variables at) ≡ subscript_levels at
    subscripts_bound no_value = refl
    subscripts_bound (and_value first rest) = rw (value_bound first, values_bound rest) refl

    values_bound : (at : ValueTrees) → greatest_levels (bound_values sizes variables at) ≡ greatest_levels at
    values_bound no_value = refl
    values_bound (and_value first rest) = rw (value_bound first, values_bound rest) refl

  mutual
    act_bound : (act : ActTree) → act_levels (bound_act sizes variables act) ≡ act_levels act
    act_bound (set_local number value) = value_bound value
    act_bound (assign connector at value) = rw (values_bound at, value_bound value) refl
    act_bound (branch when body other) = rw (value_bound when, acts_bound body, acts_bound other) refl

    acts_bound : (acts : ActTrees) → acts_levels (bound_acts sizes variables acts) ≡ acts_levels acts
    acts_bound no_act = refl
    acts_bound (and_act act acts) = rw (act_bound act, acts_bound acts) refl

  mutual
    line_bound : (act : ActTree) → act_lines (bound_act sizes variables act) ≡ act_lines act
    line_bound (set_local number value) = refl
    line_bound (assign connector at value) = refl
    line_bound (branch when body other) = rw (lines_bound body, lines_bound other) refl

    lines_bound : (acts : ActTrees) → acts_lines (bound_acts sizes variables acts) ≡ acts_lines acts
    lines_bound no_act = refl
    lines_bound (and_act act acts) = rw (line_bound act, lines_bound acts) refl

pub brief_bound : (sizes : List ℤ) (code : TaskletTree) → IsBrief code → is_code_small (bound_tasklet sizes code) ≡ true
brief_bound sizes code is =
    let ports : nat_le (length code.ins + length code.outs) 64 ≡ true = grind (arith, is.ports) in
    let lines : nat_le (acts_lines code.body) 1024 ≡ true = grind (arith, is.lines) in
    let levels : nat_le (acts_levels code.body) 64 ≡ true = grind (arith, is.levels) in
    rw (ports, lines_bound sizes code.variables code.body, acts_bound sizes code.variables code.body, lines, levels) refl

-- ---- nothing is asked of the rest

nothing_asked : {A : Type 0} (members : List A) → list_all (λ (member : A). true) members ≡ true
nothing_asked [] = refl
nothing_asked (member ∷ members) = nothing_asked members

range_passed : (range : Range) → is_range_passed code_tests range ≡ true
range_passed range = nothing_asked range.ends

dims_passed : (dims : List Dim) → list_all (is_dim_passed code_tests) dims ≡ true
dims_passed [] = refl
dims_passed (Index at ∷ dims) = dims_passed dims
dims_passed (Span range ∷ dims) = rw (range_passed range) (dims_passed dims)

pub links_passed : (links : List Link) → are_links_passed code_tests links ≡ true
links_passed [] = refl
links_passed (link ∷ links) = rw (dims_passed link.memlet.subset.dims) (links_passed links)

params_passed : (params : List (ℕ × Range)) → are_params_passed code_tests params ≡ true
params_passed [] = refl
params_passed (param ∷ params) = rw (range_passed param.1) (params_passed params)

pub sets_passed : (set : List (ℕ × Affine)) → list_all (λ (assignment : ℕ × Affine). true) set ≡ true
sets_passed set = nothing_asked set

-- ---- an item

-- the code of a tasklet is small
abbrev pub HasBriefCode : KindTree → Type 0
HasBriefCode (plain.task code ins outs) = IsBrief code
HasBriefCode (plain.map_scope sequential params private body) = ⊤
HasBriefCode (plain.consume_scope stream element private body) = ⊤
HasBriefCode (plain.nested_graph inner links) = ⊤
HasBriefCode (plain.reduction resolution axis identity from to) = ⊤
HasBriefCode (plain.copy from to) = ⊤

pub kind_passed : (sizes : List ℤ) (kind : KindTree) → HasBriefCode kind → is_kind_passed code_tests (bound_kind sizes kind) ≡ true
kind_passed sizes (plain.task code ins outs) is = rw (brief_bound sizes code is, links_passed (map (bound_link sizes) ins)) (links_passed (map (bound_link sizes) outs))
kind_passed sizes (plain.map_scope sequential params private body) is = params_passed (map (bound_param sizes) params)
kind_passed sizes (plain.consume_scope stream element private body) is = refl
kind_passed sizes (plain.nested_graph inner links) is = links_passed (map (bound_link sizes) links)
kind_passed sizes (plain.reduction resolution axis identity from to) is = rw (dims_passed (bound_link sizes from).memlet.subset.dims) (dims_passed (bound_link sizes to).memlet.subset.dims)
kind_passed sizes (plain.copy from to) is = rw (dims_passed (bound_link sizes from).memlet.subset.dims) (dims_passed (bound_link sizes to).memlet.subset.dims)
