-- Names of connectors, and lines of tasklets that name them.
use Rattle.std.proofs.Common.{◌≡◌, List, [], ◌∷◌, ◌++◌, append-nil, map, Bool, true, false, not, ◌||◌, bytes_eq, refl, ap, ◌∙◌}
use Rattle.std.specs.List.{list_any}
use Rattle.std.proofs.lemmas.Slice.Eq.{bytes_eq-Decides}
use Rattle.sd_lex.specs.PlainTree.{Expression, number, named, element_at, one, two, choice, Expressions, no_expression, and_expression, StatementTree, argument_array, local_array, local_stream, assign, copy, reduce, map_scope, tasklet, consume_scope, call, for_loop, while_loop, branch, input, output, set, set_at, tasklet_branch, Block, no_statement, and_statement}
use Rattle.sd_lex.specs.TreeFold.{block_listed}
use Rattle.sd_names.specs.Names.{Name, Names, meaning_of, is_input, is_number_in_code}
use Rattle.sd_names.specs.Expressions.{any_name_of, expression_list}
use Rattle.sd_uses.specs.Uses.{code}
use Rattle.sd_uses.specs.UnknownName.{has_unknown_in_code, is_unknown_use}
use Rattle.sd_tie.specs.tasklets.Connected.{input_named, inputs_named, output_named, outputs_named, IsAmong, SubscriptsInputs, SubscriptInputs, IsConnected, AreConnected}
use Rattle.sd_read.proofs.readable_lemmas.kept.Affine.{negated}
use Rattle.sd_read.proofs.readable_lemmas.kept.Passing.{neither, false_is_not_true}

-- ---- names among names

pub none_among : {P : Type 0} (name : Name) → IsAmong [] name → P
none_among name is = false_is_not_true is

pub among_more : (names more : List Name) (name : Name) → IsAmong names name → IsAmong (names ++ more) name
among_more [] more name is = none_among name is
among_more (first ∷ rest) more name is = by_test (bytes_eq name first) (among_more rest more name) is where
  by_test : (test : Bool) → (IsAmong rest name → IsAmong (rest ++ more) name) → test || list_any (bytes_eq name) rest ≡ true → test || list_any (bytes_eq name) (rest ++ more) ≡ true
  by_test true later is = refl
  by_test false later is = later is

pub among_last : (names : List Name) (name : Name) → IsAmong (names ++ name ∷ []) name
among_last [] name = ap (λ test. test || false) ((bytes_eq-Decides name name).1 refl)
among_last (first ∷ rest) name = by_test (bytes_eq name first) (among_last rest name) where
  by_test : (test : Bool) → IsAmong (rest ++ name ∷ []) name → test || list_any (bytes_eq name) (rest ++ name ∷ []) ≡ true
  by_test true later = refl
  by_test false later = later

-- ---- connectors of lists of statements

abbrev pub inputs_in : List StatementTree → List Name
inputs_in statements = inputs_named (block_listed statements)

abbrev pub outputs_in : List StatementTree → List Name
outputs_in statements = outputs_named (block_listed statements)

input_first : (s : StatementTree) (some more : List Name) → input_named s (some ++ more) ≡ input_named s some ++ more
input_first (argument_array line name bits extents) some more = refl
input_first (local_array line name extents bits) some more = refl
input_first (local_stream line name bits size) some more = refl
input_first (assign line name at add value) some more = refl
input_first (copy line to to_dimensions from from_dimensions) some more = refl
input_first (reduce line lambda from to axis identity) some more = refl
input_first (map_scope line parameters ranges body) some more = refl
input_first (tasklet line body) some more = refl
input_first (consume_scope line from size name element worker body) some more = refl
input_first (call line name arguments) some more = refl
input_first (for_loop line name begin end step body) some more = refl
input_first (while_loop line when body) some more = refl
input_first (branch line when body other) some more = refl
input_first (input line name memlet) some more = refl
input_first (output line name memlet) some more = refl
input_first (set line name value) some more = refl
input_first (set_at line name at value) some more = refl
input_first (tasklet_branch line when body other) some more = refl

output_first : (s : StatementTree) (some more : List Name) → output_named s (some ++ more) ≡ output_named s some ++ more
output_first (argument_array line name bits extents) some more = refl
output_first (local_array line name extents bits) some more = refl
output_first (local_stream line name bits size) some more = refl
output_first (assign line name at add value) some more = refl
output_first (copy line to to_dimensions from from_dimensions) some more = refl
output_first (reduce line lambda from to axis identity) some more = refl
output_first (map_scope line parameters ranges body) some more = refl
output_first (tasklet line body) some more = refl
output_first (consume_scope line from size name element worker body) some more = refl
output_first (call line name arguments) some more = refl
output_first (for_loop line name begin end step body) some more = refl
output_first (while_loop line when body) some more = refl
output_first (branch line when body other) some more = refl
output_first (input line name memlet) some more = refl
output_first (output line name memlet) some more = refl
output_first (set line name value) some more = refl
output_first (set_at line name at value) some more = refl
output_first (tasklet_branch line when body other) some more = refl

pub inputs-joined : (xs ys : List StatementTree) → inputs_in (xs ++ ys) ≡ inputs_in xs ++ inputs_in ys
inputs-joined [] ys = refl
inputs-joined (x ∷ xs) ys = ap (input_named x) (inputs-joined xs ys) ∙ input_first x (inputs_in xs) (inputs_in ys)

pub outputs-joined : (xs ys : List StatementTree) → outputs_in (xs ++ ys) ≡ outputs_in xs ++ outputs_in ys
outputs-joined [] ys = refl
outputs-joined (x ∷ xs) ys = ap (output_named x) (outputs-joined xs ys) ∙ output_first x (outputs_in xs) (outputs_in ys)

pub inputs_same : (xs ys : List StatementTree) → inputs_in ys ≡ [] → inputs_in (xs ++ ys) ≡ inputs_in xs
inputs_same xs ys none = inputs-joined xs ys ∙ ap (λ more. inputs_in xs ++ more) none ∙ append-nil (inputs_in xs)

pub outputs_same : (xs ys : List StatementTree) → outputs_in ys ≡ [] → outputs_in (xs ++ ys) ≡ outputs_in xs
outputs_same xs ys none = outputs-joined xs ys ∙ ap (λ more. outputs_in xs ++ more) none ∙ append-nil (outputs_in xs)

-- ---- lines that name connectors

module _ (ins more : List Name) where
  mutual
    code_more : (e : Expression) → SubscriptsInputs ins e → SubscriptsInputs (ins ++ more) e
    code_more (number value) holds = tt
    code_more (named name) holds = tt
    code_more (element_at name at) holds = (among_more ins more name holds.0, codes_more at holds.1)
    code_more (one sign of) holds = code_more of holds
    code_more (two sign left right) holds = (code_more left holds.0, code_more right holds.1)
    code_more (choice value when other) holds = (code_more value holds.0, (code_more when holds.1.0, code_more other holds.1.1))

    codes_more : (at : Expressions) → SubscriptInputs ins at → SubscriptInputs (ins ++ more) at
    codes_more no_expression holds = tt
    codes_more (and_expression first rest) holds = (code_more first holds.0, codes_more rest holds.1)

module _ (ins outs more_ins more_outs : List Name) where
  mutual
    line_more : (s : StatementTree) → IsConnected ins outs s → IsConnected (ins ++ more_ins) (outs ++ more_outs) s
    line_more (argument_array line name bits extents) holds = tt
    line_more (local_array line name extents bits) holds = tt
    line_more (local_stream line name bits size) holds = tt
    line_more (assign line name at add value) holds = tt
    line_more (copy line to to_dimensions from from_dimensions) holds = tt
    line_more (reduce line lambda from to axis identity) holds = tt
    line_more (map_scope line parameters ranges body) holds = tt
    line_more (tasklet line body) holds = tt
    line_more (consume_scope line from size name element worker body) holds = tt
    line_more (call line name arguments) holds = tt
    line_more (for_loop line name begin end step body) holds = tt
    line_more (while_loop line when body) holds = tt
    line_more (branch line when body other) holds = tt
    line_more (input line name memlet) holds = tt
    line_more (output line name memlet) holds = tt
    line_more (set line name value) holds = code_more ins more_ins value holds
    line_more (set_at line name at value) holds = (among_more outs more_outs name holds.0, (codes_more ins more_ins at holds.1.0, code_more ins more_ins value holds.1.1))
    line_more (tasklet_branch line when body other) holds = (code_more ins more_ins when holds.0, (lines_more body holds.1.0, lines_more other holds.1.1))

    pub lines_more : (block : Block) → AreConnected ins outs block → AreConnected (ins ++ more_ins) (outs ++ more_outs) block
    lines_more no_statement holds = tt
    lines_more (and_statement first rest) holds = (line_more first holds.0, lines_more rest holds.1)

pub connected-joined : (ins outs : List Name) (xs ys : List StatementTree) → AreConnected ins outs (block_listed xs) → AreConnected ins outs (block_listed ys) → AreConnected ins outs (block_listed (xs ++ ys))
connected-joined ins outs [] ys all others = others
connected-joined ins outs (x ∷ xs) ys all others = (all.0, connected-joined ins outs xs ys all.1 others)

-- ---- what a line is known to name

module _ (names : Names) (ins : List Name) (known : (name : Name) → is_input (meaning_of names name) ≡ true → IsAmong ins name) where
  mutual
    pub code_known : (e : Expression) → has_unknown_in_code names e ≡ false → SubscriptsInputs ins e
    code_known (number value) none = tt
    code_known (named name) none = tt
    code_known (element_at name at) none =
        let both = neither (not (is_input (meaning_of names name))) (any_name_of (λ name. not (is_number_in_code (meaning_of names name))) (λ name count. not (is_input (meaning_of names name))) at) none in
        (known name (negated (is_input (meaning_of names name)) both.0), codes_known at both.1)
    code_known (one sign of) none = code_known of none
    code_known (two sign left right) none =
        let both = neither (has_unknown_in_code names left) (has_unknown_in_code names right) none in
        (code_known left both.0, code_known right both.1)
    code_known (choice value when other) none =
        let both = neither (has_unknown_in_code names value || has_unknown_in_code names when) (has_unknown_in_code names other) none in
        let first = neither (has_unknown_in_code names value) (has_unknown_in_code names when) both.0 in
        (code_known value first.0, (code_known when first.1, code_known other both.1))

    codes_known : (at : Expressions) → any_name_of (λ name. not (is_number_in_code (meaning_of names name))) (λ name count. not (is_input (meaning_of names name))) at ≡ false → SubscriptInputs ins at
    codes_known no_expression none = tt
    codes_known (and_expression first rest) none =
        let both = neither (has_unknown_in_code names first) (any_name_of (λ name. not (is_number_in_code (meaning_of names name))) (λ name count. not (is_input (meaning_of names name))) rest) none in
        (code_known first both.0, codes_known rest both.1)

  -- a list with one use of code
  pub use_known : (e : Expression) → list_any (is_unknown_use names) (code e ∷ []) ≡ false → SubscriptsInputs ins e
  use_known e none = code_known e (neither (has_unknown_in_code names e) false none).0

  -- subscripts and a value
  pub uses_known : (at : Expressions) (e : Expression) → list_any (is_unknown_use names) (map code (expression_list at) ++ code e ∷ []) ≡ false → SubscriptInputs ins at × SubscriptsInputs ins e
  uses_known no_expression e none = (tt, use_known e none)
  uses_known (and_expression first rest) e none =
      let both = neither (has_unknown_in_code names first) (list_any (is_unknown_use names) (map code (expression_list rest) ++ code e ∷ [])) none in
      let later = uses_known rest e both.1 in
      ((code_known first both.0, later.0), later.1)
