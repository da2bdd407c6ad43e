-- What passes the tests of expressions, and those of code, passes the tests of the rule on limits.
use Rattle.std.proofs.Common.{◌≡◌, ◌∙◌, List, [], ◌∷◌, Option, Some, None, true, ◌&&◌, refl}
use Rattle.std.specs.List.{list_all}
use Rattle.sd_range.specs.declared.subset.Dim.{Dim}
use Rattle.sd_range.specs.declared.subset.Dim.TheVariants.{Index, Span}
use Rattle.sd_graph.specs.declared.link.Link.{Link}
use Rattle.sd_graph.specs.PlainTree.{KindTree, task, map_scope, consume_scope, nested_graph, reduction, copy, GuardTree, ExitTree}
use Rattle.sd_validity.specs.rules.Places.{Thing, whole, leaving, doing}
use Rattle.sd_validity.specs.rules.Parts.{is_dim_passed, is_link_passed, are_links_passed, is_condition_passed, is_exit_passed, is_kind_passed, is_thing_passed}
use Rattle.sd_validity.specs.rules.CodeSize.{is_code_small}
use Rattle.sd_validity.specs.rules.WithinLimits.{is_small, limits_tests}
use Rattle.sd_validity.proofs.rules_lemmas.HoldingLemmas.{both}
use Rattle.sd_made.specs.limits.Expressions.{expression_tests}
use Rattle.sd_made_valid.specs.code.Code.{code_tests}

-- ---- links have no code

dim_same : (dim : Dim) → is_dim_passed limits_tests dim ≡ is_dim_passed expression_tests dim
dim_same (Index at) = refl
dim_same (Span range) = refl

link_same : (link : Link) → is_link_passed limits_tests link ≡ is_link_passed expression_tests link
link_same link = λ i. list_all (λ dim. dim_same dim i) link.memlet.subset.dims

links_same : (links : List Link) → are_links_passed limits_tests links ≡ are_links_passed expression_tests links
links_same links = λ i. list_all (λ link. link_same link i) links

-- ---- conditions, transitions and items

condition_passed : (when : Option GuardTree) → is_condition_passed expression_tests when ≡ true → is_condition_passed code_tests when ≡ true → is_condition_passed limits_tests when ≡ true
condition_passed None expressions codes = refl
condition_passed (Some guard) expressions codes =
    let reads = both (are_links_passed expression_tests guard.reads) true expressions in
    let code = both (are_links_passed code_tests guard.reads) (is_code_small guard.code) codes in
    λ i. (links_same guard.reads ∙ reads.0) i && code.1 i

exit_passed : (exit : ExitTree) → is_exit_passed expression_tests exit ≡ true → is_exit_passed code_tests exit ≡ true → is_exit_passed limits_tests exit ≡ true
exit_passed exit expressions codes =
    let small = both (is_condition_passed expression_tests exit.when) (list_all (λ assignment. is_small assignment.1) exit.set) expressions in
    let code = both (is_condition_passed code_tests exit.when) (list_all (λ assignment. true) exit.set) codes in
    λ i. condition_passed exit.when small.0 code.0 i && small.1 i

exits_passed : (exits : List ExitTree) → list_all (is_exit_passed expression_tests) exits ≡ true → list_all (is_exit_passed code_tests) exits ≡ true → list_all (is_exit_passed limits_tests) exits ≡ true
exits_passed [] expressions codes = refl
exits_passed (exit ∷ exits) expressions codes =
    let small = both (is_exit_passed expression_tests exit) (list_all (is_exit_passed expression_tests) exits) expressions in
    let code = both (is_exit_passed code_tests exit) (list_all (is_exit_passed code_tests) exits) codes in
    λ i. exit_passed exit small.0 code.0 i && exits_passed exits small.1 code.1 i

kind_passed : (kind : KindTree) → is_kind_passed expression_tests kind ≡ true → is_kind_passed code_tests kind ≡ true → is_kind_passed limits_tests kind ≡ true
kind_passed (task code ins outs) expressions codes =
    let small : (are_links_passed limits_tests ins && are_links_passed limits_tests outs) ≡ true = (λ i. links_same ins i && links_same outs i) ∙ expressions in
    let code_passed = both (is_code_small code) (are_links_passed code_tests ins && are_links_passed code_tests outs) codes in
    λ i. code_passed.0 i && small i
kind_passed (map_scope sequential params private body) expressions codes = expressions
kind_passed (consume_scope stream element private body) expressions codes = refl
kind_passed (nested_graph inner links) expressions codes = links_same links ∙ expressions
kind_passed (reduction resolution axis identity from to) expressions codes = (λ i. link_same from i && link_same to i) ∙ expressions
kind_passed (copy from to) expressions codes = (λ i. link_same from i && link_same to i) ∙ expressions

pub thing_passed : (thing : Thing) → is_thing_passed expression_tests thing ≡ true → is_thing_passed code_tests thing ≡ true → is_thing_passed limits_tests thing ≡ true
thing_passed whole expressions codes = refl
thing_passed (leaving items exits) expressions codes = exits_passed exits expressions codes
thing_passed (doing kind) expressions codes = kind_passed kind expressions codes
