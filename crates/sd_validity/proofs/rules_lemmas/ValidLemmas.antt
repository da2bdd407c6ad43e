-- A graph is valid where no rule fails.
use Rattle.std.proofs.Common.{◌≡◌, ℕ, List, Option, Some, None, refl}
use Rattle.sd_graph.specs.PlainTree.{GraphTree}
use Rattle.sd_validity.specs.rules.Failing.{first_failing}
use Rattle.sd_validity.specs.rules.NamesInForce.{rule_1}
use Rattle.sd_validity.specs.rules.Dimensions.{rule_2}
use Rattle.sd_validity.specs.rules.Transitions.{rule_3}
use Rattle.sd_validity.specs.rules.StreamUse.{rule_4}
use Rattle.sd_validity.specs.rules.NestedLinks.{rule_5}
use Rattle.sd_validity.specs.rules.MovedShapes.{rule_6}
use Rattle.sd_validity.specs.rules.WithinLimits.{rule_7}
use Rattle.sd_validity.specs.rules.SizesGone.{rule_8}
use Rattle.sd_validity.specs.rules.Valid.{unless_failing, invalidity, IsValid}

-- where nothing fails, this rule does not, nor what comes after
pub none_failing : (number : ℕ) (first : Option (List ℕ)) (next : Option (ℕ × List ℕ)) → unless_failing number first next ≡ None → (first ≡ None) × (next ≡ None)
none_failing number None next none = (refl, none)
none_failing number (Some path) next none = cc

all_none : (first second third fourth fifth sixth seventh eighth : Option (List ℕ)) →
    first ≡ None → second ≡ None → third ≡ None → fourth ≡ None → fifth ≡ None → sixth ≡ None → seventh ≡ None → eighth ≡ None →
    unless_failing 1 first (unless_failing 2 second (unless_failing 3 third (unless_failing 4 fourth
    (unless_failing 5 fifth (unless_failing 6 sixth (unless_failing 7 seventh (unless_failing 8 eighth None))))))) ≡ None
all_none first second third fourth fifth sixth seventh eighth one two three four five six seven eight =
    rw (one, two, three, four, five, six, seven, eight) refl

pub valid_where_none : (tree : GraphTree) → invalidity tree ≡ None → IsValid tree
valid_where_none tree none =
    let one = none_failing 1 (first_failing rule_1 tree) _ none in
    let two = none_failing 2 (first_failing rule_2 tree) _ one.1 in
    let three = none_failing 3 (first_failing rule_3 tree) _ two.1 in
    let four = none_failing 4 (first_failing rule_4 tree) _ three.1 in
    let five = none_failing 5 (first_failing rule_5 tree) _ four.1 in
    let six = none_failing 6 (first_failing rule_6 tree) _ five.1 in
    let seven = none_failing 7 (first_failing rule_7 tree) _ six.1 in
    let eight = none_failing 8 (first_failing rule_8 tree) None seven.1 in
    record { names = one.0; dimensions = two.0; transitions = three.0; streams = four.0; nesting = five.0; shapes = six.0; limits = seven.0; sizes = eight.0 }

pub none_where_valid : (tree : GraphTree) → IsValid tree → invalidity tree ≡ None
none_where_valid tree valid =
    all_none (first_failing rule_1 tree) (first_failing rule_2 tree) (first_failing rule_3 tree) (first_failing rule_4 tree) (first_failing rule_5 tree)
    (first_failing rule_6 tree) (first_failing rule_7 tree) (first_failing rule_8 tree)
    valid.names valid.dimensions valid.transitions valid.streams valid.nesting valid.shapes valid.limits valid.sizes
