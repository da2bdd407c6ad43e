-- Counts that are kept no further than one more than the limit tell the same lines.
use Rattle.std.proofs.Common.{◌≡◌, ◌<◌, refl, ap, ◌∙◌, ℕ, suc, ◌+◌, ◌-◌, min, nat_lt, Bool, List, [], ◌∷◌, map, arith, Option, Some, None, if◌then◌else◌}
use Rattle.std.proofs.lemmas.Grind.{common_steps}
use Rattle.std.specs.Prelude.{is_some}
use Rattle.sd_lex.specs.PlainTree.{FunctionTree}
use Rattle.sd_source.specs.nodes.Items.{Name}
use Rattle.sd_source.specs.nodes.Names.{Named, found, put}
use Rattle.sd_source.specs.nodes.NodeLimits.{or_none, nested, weight, count_of, line_over, first_of, states_over, count_in_all, lesser, any_state_over, graph_over, with_function, functions_over}
use Rattle.sd_source.specs.nodes.KeptCounts.{with_kept_function, kept_over}
use Rattle.sd_source.specs.nodes.SourceNodes.{parameters_of, states_of}
use Rattle.sd_source.specs.declared.nodes.access.Access.{Access}
use Rattle.sd_source.specs.declared.nodes.functions.Functions.{Functions}
use Rattle.sd_source.specs.declared.nodes.limits.Limits.{Limits}
use Rattle.sd_source.specs.declared.nodes.node.Node.{Node}

-- ---- lines

pub lesser_assoc : (a b c : Option ℕ) → lesser (lesser a b) c ≡ lesser a (lesser b c)
lesser_assoc None b c = refl
lesser_assoc (Some a) None c = refl
lesser_assoc (Some a) (Some b) None = refl
lesser_assoc (Some a) (Some b) (Some c) = ap (λ n. Some n) (omega arith)

-- ---- counts and lines of one limit

-- there are more than the limit exactly where a line is told
pub line_tells : (counts : Named ℕ) (limit : ℕ) (nodes : List Node) → nat_lt limit (count_of counts nodes) ≡ is_some (line_over counts limit nodes)
line_tells counts limit [] = grind arith
line_tells counts limit (node ∷ nodes) = grind (arith, common_steps, line_tells counts (limit - weight counts node) nodes)

pub states_tell : (counts : Named ℕ) (limit : ℕ) (states : List (List Node)) → nat_lt limit (count_in_all counts states) ≡ is_some (states_over counts limit states)
states_tell counts limit [] = grind arith
states_tell counts limit (nodes ∷ states) = grind (arith, common_steps, line_tells counts limit nodes, states_tell counts (limit - count_of counts nodes) states)

pub count_over : (counts : Named ℕ) (limit : ℕ) (states : List (List Node)) (line : ℕ) → states_over counts limit states ≡ Some line → suc limit ≡ min (suc limit) (count_in_all counts states)
count_over counts limit states line h = grind (arith, states_tell counts limit states, h)

pub count_below : (counts : Named ℕ) (limit : ℕ) (states : List (List Node)) → states_over counts limit states ≡ None → limit - (limit - count_in_all counts states) ≡ min (suc limit) (count_in_all counts states)
count_below counts limit states h = grind (arith, states_tell counts limit states, h)

-- ---- kept counts

abbrev pub kept_counts : (most : ℕ) → Named ℕ → Named ℕ
kept_counts most = map (λ entry. (entry.0, min most entry.1))

abbrev pub kept : (most : ℕ) → Functions → Functions
kept most functions = record { parameters = functions.parameters; counts = kept_counts most functions.counts }

found_kept : (most : ℕ) (counts : Named ℕ) (name : Name) → or_none (found (kept_counts most counts) name) ≡ min most (or_none (found counts name))
found_kept most [] name = grind arith
found_kept most (entry ∷ counts) name = grind (arith, common_steps, found_kept most counts name)

put_kept : (most : ℕ) (counts : Named ℕ) (name : Name) (count : ℕ) → put (kept_counts most counts) name (min most count) ≡ kept_counts most (put counts name count)
put_kept most [] name count = refl
put_kept most (entry ∷ counts) name count = grind (arith, common_steps, put_kept most counts name count)

nested_kept : (most : ℕ) (counts : Named ℕ) (called : Option Name) → nested (kept_counts most counts) called ≡ min most (nested counts called)
nested_kept most counts None = grind arith
nested_kept most counts (Some name) = found_kept most counts name

weight_kept : (most : ℕ) (counts : Named ℕ) (node : Node) → weight (kept_counts most counts) node ≡ suc (min most (nested counts node.called))
weight_kept most counts node = ap (λ n. suc n) (nested_kept most counts node.called)

-- ---- what is kept tells the same lines

min_of_sum : (most a b c d : ℕ) → min most a ≡ min most b → min most c ≡ min most d → min most (a + c) ≡ min most (b + d)
min_of_sum most a b c d h k = omega arith

weight_as : (most : ℕ) (counts : Named ℕ) (node : Node) → min most (weight (kept_counts most counts) node) ≡ min most (weight counts node)
weight_as most counts node = rw (weight_kept most counts node) (omega arith)

count_as : (most : ℕ) (counts : Named ℕ) (nodes : List Node) → min most (count_of (kept_counts most counts) nodes) ≡ min most (count_of counts nodes)
count_as most counts [] = refl
count_as most counts (node ∷ nodes) =
    min_of_sum most (weight (kept_counts most counts) node) (weight counts node) (count_of (kept_counts most counts) nodes) (count_of counts nodes) (weight_as most counts node) (count_as most counts nodes)

all_as : (most : ℕ) (counts : Named ℕ) (states : List (List Node)) → min most (count_in_all (kept_counts most counts) states) ≡ min most (count_in_all counts states)
all_as most counts [] = refl
all_as most counts (nodes ∷ states) =
    min_of_sum most (count_of (kept_counts most counts) nodes) (count_of counts nodes) (count_in_all (kept_counts most counts) states) (count_in_all counts states) (count_as most counts nodes) (all_as most counts states)

-- numbers that are the same up to more than a limit pass it alike
lt_as : (most limit a b : ℕ) → limit < most → min most a ≡ min most b → nat_lt limit a ≡ nat_lt limit b
lt_as most limit a b h k = grind (arith, h, k)

left_as : (most limit a b : ℕ) → limit < most → min most a ≡ min most b → limit - a ≡ limit - b
left_as most limit a b h k = omega arith

below : (most limit a : ℕ) → limit < most → limit - a < most
below most limit a h = omega arith

choice_as : {A : Type 0} (test other : Bool) (a b c : A) → test ≡ other → b ≡ c → (if test then a else b) ≡ (if other then a else c)
choice_as test other a b c h k = ap (λ t. if t then a else b) h ∙ ap (λ x. if other then a else x) k

line_as : (most : ℕ) (counts : Named ℕ) (limit : ℕ) (nodes : List Node) → limit < most → line_over (kept_counts most counts) limit nodes ≡ line_over counts limit nodes
line_as most counts limit [] h = refl
line_as most counts limit (node ∷ nodes) h =
    let w : ℕ = weight counts node in
    choice_as (nat_lt limit (weight (kept_counts most counts) node)) (nat_lt limit w) (Some node.line)
    (line_over (kept_counts most counts) (limit - weight (kept_counts most counts) node) nodes) (line_over counts (limit - w) nodes)
    (lt_as most limit (weight (kept_counts most counts) node) w h (weight_as most counts node))
    (ap (λ left. line_over (kept_counts most counts) left nodes) (left_as most limit (weight (kept_counts most counts) node) w h (weight_as most counts node))
    ∙ line_as most counts (limit - w) nodes (below most limit w h))

states_as : (most : ℕ) (counts : Named ℕ) (limit : ℕ) (states : List (List Node)) → limit < most → states_over (kept_counts most counts) limit states ≡ states_over counts limit states
states_as most counts limit [] h = refl
states_as most counts limit (nodes ∷ states) h =
    let count : ℕ = count_of counts nodes in
    ap (λ line. first_of line (states_over (kept_counts most counts) (limit - count_of (kept_counts most counts) nodes) states)) (line_as most counts limit nodes h)
    ∙ ap (λ line. first_of (line_over counts limit nodes) line)
    (ap (λ left. states_over (kept_counts most counts) left states) (left_as most limit (count_of (kept_counts most counts) nodes) count h (count_as most counts nodes))
    ∙ states_as most counts (limit - count) states (below most limit count h))

graph_as : (limits : Limits) (counts : Named ℕ) (states : List (List Node)) → graph_over limits (kept_counts (suc limits.all) counts) states ≡ graph_over limits counts states
graph_as limits counts states = ap (λ line. lesser (any_state_over limits.state states) line) (states_as (suc limits.all) counts limits.all states (omega arith))

function_as : (limits : Limits) (functions : Functions) (function : FunctionTree) → with_kept_function limits (kept (suc limits.all) functions) function ≡ kept (suc limits.all) (with_function functions function)
function_as limits functions function =
    let parameters : Named (List (Option Access)) = put functions.parameters function.name (parameters_of functions.parameters function) in
    let states : List (List Node) = states_of functions.parameters function in
    ap (λ counts. record { parameters = parameters; counts = counts })
    (ap (λ count. put (kept_counts (suc limits.all) functions.counts) function.name count) (all_as (suc limits.all) functions.counts states)
    ∙ put_kept (suc limits.all) functions.counts function.name (count_in_all functions.counts states))

-- the lines of the functions behind these
pub kept_is : (limits : Limits) (before : Functions) (functions : List FunctionTree) → kept_over limits (kept (suc limits.all) before) functions ≡ functions_over limits before functions
kept_is limits before [] = refl
kept_is limits before (function ∷ functions) =
    ap (λ line. lesser line (kept_over limits (with_kept_function limits (kept (suc limits.all) before) function) functions)) (graph_as limits before.counts (states_of before.parameters function))
    ∙ ap (λ line. lesser (graph_over limits before.counts (states_of before.parameters function)) line)
    (ap (λ next. kept_over limits next functions) (function_as limits before function) ∙ kept_is limits (with_function before function) functions)

pub kept_is_exact : (limits : Limits) (functions : List FunctionTree) → kept_over limits (record { parameters = []; counts = [] }) functions ≡ functions_over limits (record { parameters = []; counts = [] }) functions
kept_is_exact limits functions = kept_is limits (record { parameters = []; counts = [] }) functions
