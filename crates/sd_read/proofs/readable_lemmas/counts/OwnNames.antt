-- The containers of each program have different names.
use Rattle.std.proofs.Common.{◌≡◌, ℕ, ℤ, List, [], ◌∷◌, ◌++◌, Bool, true, false, not, ◌||◌, if◌then◌else◌, Option, Some, None, is_some, bytes_eq, refl, ap, sym, ◌∙◌, subst}
use Rattle.std.specs.Bool.{⊤}
use Rattle.std.specs.List.{AllByRecursion, IsDistinct}
use Rattle.std.proofs.lemmas.Map.Keys.{IsDistinct-cons}
use Rattle.std.proofs.lemmas.Map.Made.{IsDistinct-from_AllPairs}
use Rattle.std.proofs.lemmas.Slice.Eq.{bytes_eq-Decides}
use Rattle.std.proofs.Common.{arith}
use Rattle.sd_lex.specs.PlainTree.{Expressions, StatementTree, argument_array, local_array, local_stream, assign, copy, reduce, map_scope, tasklet, consume_scope, call, for_loop, while_loop, branch, input, output, set, set_at, tasklet_branch, Block, FunctionTree}
use Rattle.sd_lex.specs.TreeFold.{block_listed}
use Rattle.sd_line.specs.declared.line.head.BlockKind.{BlockKind}
use Rattle.sd_line.specs.declared.line.head.BlockKind.TheVariants.{Top, Program, Scope, Tasklet}
use Rattle.sd_line.specs.line.Head.{HeadTree, import_line, symbol_line, program_decorator, program_head, statement_head, reduce_head, input_head, output_head, consume_decorator, consume_head, elif_head, else_head}
use Rattle.sd_names.specs.declared.meaning.Meaning.TheVariants.{Variable, Input, Local}
use Rattle.sd_names.specs.declared.meaning.Container.TheVariants.{Array}
use Rattle.sd_names.specs.Extents.{one_extent}
use Rattle.sd_names.specs.Names.{Name, Names, meaning_of, container_of, is_among, noted, is_free, reserved, with_meaning, with_container, all_meaning}
use Rattle.sd_names.specs.Expressions.{optional}
use Rattle.sd_refusal.specs.OverLimit.{is_tasklet}
use Rattle.sd_uses.specs.Twice.{declares, are_not_new, declares_local}
use Rattle.sd_program.specs.DeclaredNames.{declared_names, declared_names_all, container_names}
use Rattle.sd_context.specs.context.After.{context_after}
use Rattle.sd_context.specs.context.Context.{Branch, Opener, file, function, statement, consumer, if_block, else_block, OpenBlock, Awaited, nothing, block, function_def, consume_def, Context, site_of}
use Rattle.sd_context.specs.context.Declaring.{with_local, with_worker}
use Rattle.sd_context.specs.context.Placing.{consumer_of}
use Rattle.sd_read.proofs.readable_lemmas.kept.Heads.{Fits, IsInner, AreNested}
use Rattle.sd_read.proofs.readable_lemmas.kept.Passing.{passes, neither, true_is_not_false, false_is_not_true}
use Rattle.sd_read.proofs.readable_lemmas.kept.Steps.{IsWellNested, IsAccepted}
use Rattle.sd_read.proofs.readable_lemmas.kept.Nesting.{inner_statement}
use Rattle.sd_read.proofs.readable_lemmas.kept.Trees.{all-more}
use Rattle.sd_read.proofs.readable_lemmas.kept.NewNames.{first_new, declares_new}

-- ---- names that differ

abbrev pub Differ : List Name → Type 0
Differ [] = ⊤
Differ (name ∷ names) = AllByRecursion (λ other. bytes_eq name other ≡ false) names × Differ names

-- the names are among those that the program has declared
abbrev pub AreKnown : (known : List Name) → List Name → Type 0
AreKnown known names = AllByRecursion (λ name. is_among known name ≡ true) names

pub distinct : (names : List Name) → Differ names → IsDistinct bytes_eq names
distinct [] differ = IsDistinct-from_AllPairs bytes_eq-Decides [] (λ i j other before within. absurd (omega (arith, within)))
distinct (name ∷ names) differ = IsDistinct-cons bytes_eq name names differ.0 (distinct names differ.1)

differ-more : (names : List Name) (name : Name) → Differ names → AllByRecursion (λ other. bytes_eq other name ≡ false) names → Differ (names ++ name ∷ [])
differ-more [] name differ new = (tt, tt)
differ-more (first ∷ rest) name differ new = (all-more (λ other. bytes_eq first other ≡ false) rest name differ.0 new.0, differ-more rest name differ.1 new.1)

-- a name that is not known is none of the known ones
unknown-differs : (known names : List Name) (name : Name) → is_among known name ≡ false → AreKnown known names → AllByRecursion (λ other. bytes_eq other name ≡ false) names
unknown-differs known [] name new all = tt
unknown-differs known (first ∷ rest) name new all = (by_test (bytes_eq first name) refl, unknown-differs known rest name new all.1) where
  by_test : (test : Bool) → bytes_eq first name ≡ test → test ≡ false
  by_test true is = true_is_not_false (sym all.0 ∙ ap (is_among known) ((bytes_eq-Decides first name).0 is) ∙ new)
  by_test false is = refl

among-joined : (known : List Name) (name other : Name) → is_among known other ≡ true → is_among (known ++ name ∷ []) other ≡ true
among-joined [] name other is = false_is_not_true is
among-joined (first ∷ rest) name other is = by_test (bytes_eq other first) is (among-joined rest name other) where
  by_test : (test : Bool) → test || is_among rest other ≡ true → (is_among rest other ≡ true → is_among (rest ++ name ∷ []) other ≡ true) → test || is_among (rest ++ name ∷ []) other ≡ true
  by_test true is later = refl
  by_test false is later = later is

same_name : (name : Name) → bytes_eq name name ≡ true
same_name name = by_test (bytes_eq name name) refl where
  by_test : (test : Bool) → bytes_eq name name ≡ test → test ≡ true
  by_test true is = refl
  by_test false not = sym not ∙ (bytes_eq-Decides name name).1 refl

among-last : (known : List Name) (name : Name) → is_among (known ++ name ∷ []) name ≡ true
among-last [] name = ap (λ b. b || false) (same_name name)
among-last (first ∷ rest) name = ap (λ b. bytes_eq name first || b) (among-last rest name) ∙ or_true (bytes_eq name first) where
  or_true : (test : Bool) → test || true ≡ true
  or_true true = refl
  or_true false = refl

known-joined : (known names : List Name) (name : Name) → AreKnown known names → AreKnown (known ++ name ∷ []) names
known-joined known [] name all = tt
known-joined known (first ∷ rest) name all = (among-joined known name first all.0, known-joined known rest name all.1)

-- a new name goes behind the known ones
noted-new : (known : List Name) (name : Name) → is_among known name ≡ false → noted known name ≡ known ++ name ∷ []
noted-new known name new = ap (λ test. if test then known else known ++ name ∷ []) new

free_declared : (names : Names) (name : Name) → is_free names name ≡ true → is_among names.declared name ≡ false
free_declared names name free =
    (neither (is_among reserved name || is_some (meaning_of names name) || is_some (container_of names name)) (is_among names.declared name)
    (by_not (is_among reserved name || is_some (meaning_of names name) || is_some (container_of names name) || is_among names.declared name) free)).1 where
      by_not : (test : Bool) → not test ≡ true → test ≡ false
      by_not true is = sym is
      by_not false is = refl

-- ---- the names of the open blocks

abbrev pub names_over : List StatementTree → List Name → List Name
names_over statements names = declared_names_all (block_listed statements) names

abbrev pub names_through : List Branch → List Name → List Name
names_through [] names = names
names_through (b ∷ branches) names = names_through branches (names_over b.statements names)

-- behind what opens a block that is no tasklet
abbrev pub names_by : (arguments : List StatementTree) → Opener → List Name → List Name
names_by arguments file names = names
names_by arguments (function name) names = names_over arguments []
names_by arguments (statement s) names = names
names_by arguments (consumer line from size name element worker) names = names ++ element ∷ []
names_by arguments (if_block earlier when) names = names_through earlier names
names_by arguments (else_block earlier) names = names_through earlier names

-- the names that the program has declared, those of its open blocks last; a tasklet declares none
abbrev pub so_far : (arguments : List StatementTree) → OpenBlock → List OpenBlock → List Name
so_far arguments inner [] = []
so_far arguments inner (about ∷ outer) =
    if is_tasklet inner.kind then so_far arguments about outer else names_over inner.statements (names_by arguments inner.opener (so_far arguments about outer))

abbrev pub names_of : Context → List Name
names_of context = so_far context.arguments context.block context.outer

abbrev pub HasOwnNames : FunctionTree → Type 0
HasOwnNames f = IsDistinct bytes_eq (container_names f)

pub record OwnNames (context : Context) : Type 0 where
  pub differ : Differ (names_of context)
  pub known : AreKnown context.names.declared (names_of context)
  pub functions : AllByRecursion HasOwnNames context.functions

-- nothing is declared
pub same : (context after : Context) → names_of after ≡ names_of context → after.names.declared ≡ context.names.declared → after.functions ≡ context.functions → OwnNames context → OwnNames after
same context after names known functions good = record {
  differ = subst Differ (sym names) good.differ;
  known = subst (λ known. AreKnown known (names_of after)) (sym known) (subst (AreKnown context.names.declared) (sym names) good.known);
  functions = subst (AllByRecursion HasOwnNames) (sym functions) good.functions;
}

-- a name is
pub more : (context after : Context) (name : Name) → names_of after ≡ names_of context ++ name ∷ [] → after.names.declared ≡ noted context.names.declared name → after.functions ≡ context.functions →
    is_free context.names name ≡ true → OwnNames context → OwnNames after
more context after name names known functions free good =
    let new = free_declared context.names name free in
    let all : after.names.declared ≡ context.names.declared ++ name ∷ [] = known ∙ noted-new context.names.declared name new in
    record {
      differ = subst Differ (sym names) (differ-more (names_of context) name good.differ (unknown-differs context.names.declared (names_of context) name new good.known));
      known = subst (λ known. AreKnown known (names_of after)) (sym all)
          (subst (AreKnown (context.names.declared ++ name ∷ [])) (sym names)
          (all-more (λ other. is_among (context.names.declared ++ name ∷ []) other ≡ true) (names_of context) name (known-joined context.names.declared (names_of context) name good.known) (among-last context.names.declared name)));
      functions = subst (AllByRecursion HasOwnNames) (sym functions) good.functions;
    }

-- ---- lines

pub over-joined : (xs ys : List StatementTree) (names : List Name) → names_over (xs ++ ys) names ≡ names_over ys (names_over xs names)
over-joined [] ys names = refl
over-joined (x ∷ xs) ys names = over-joined xs ys (declared_names x names)

pub through-more : (branches : List Branch) (b : Branch) (names : List Name) → names_through (branches ++ b ∷ []) names ≡ names_over b.statements (names_through branches names)
through-more [] b names = refl
through-more (first ∷ rest) b names = through-more rest b (names_over first.statements names)

-- a statement that declares nothing
silent : (arguments : List StatementTree) (b : OpenBlock) (outer : List OpenBlock) (s : StatementTree) → ((names : List Name) → declared_names s names ≡ names) →
    so_far arguments (record b { statements = b.statements ++ s ∷ [] }) outer ≡ so_far arguments b outer
silent arguments b [] s none = refl
silent arguments b (about ∷ outer) s none = by_kind (is_tasklet b.kind) where
  before : List Name
  before = names_by arguments b.opener (so_far arguments about outer)

  by_kind : (test : Bool) → (if test then so_far arguments about outer else names_over (b.statements ++ s ∷ []) before) ≡ (if test then so_far arguments about outer else names_over b.statements before)
  by_kind true = refl
  by_kind false = over-joined b.statements (s ∷ []) before ∙ none (names_over b.statements before)

-- one that declares a name
declaring : (arguments : List StatementTree) (b : OpenBlock) (outer : List OpenBlock) (s : StatementTree) (name : Name) → ((names : List Name) → declared_names s names ≡ names ++ name ∷ []) → is_tasklet b.kind ≡ false → IsInner b.kind → AreNested b outer →
    so_far arguments (record b { statements = b.statements ++ s ∷ [] }) outer ≡ so_far arguments b outer ++ name ∷ []
declaring arguments b [] s name one plain inside shape = absurd (subst IsInner shape.0 inside)
declaring arguments b (about ∷ outer) s name one plain inside shape = by_kind (is_tasklet b.kind) plain where
  before : List Name
  before = names_by arguments b.opener (so_far arguments about outer)

  by_kind : (test : Bool) → test ≡ false → (if test then so_far arguments about outer else names_over (b.statements ++ s ∷ []) before) ≡ (if test then so_far arguments about outer else names_over b.statements before) ++ name ∷ []
  by_kind true plain = true_is_not_false plain
  by_kind false plain = over-joined b.statements (s ∷ []) before ∙ one (names_over b.statements before)

same_local : (names : Names) (name : Name) → (with_local names name).declared ≡ names.declared
same_local names name = by_test (declares_local (meaning_of names name)) where
  by_test : (test : Bool) → (if test then with_meaning names name Local else names).declared ≡ names.declared
  by_test true = refl
  by_test false = refl

same_variables : (parameters : List Name) (names : Names) → (all_meaning Variable names parameters).declared ≡ names.declared
same_variables [] names = refl
same_variables (parameter ∷ parameters) names = same_variables parameters (with_meaning names parameter Variable)

same_worker : (worker : Option Name) (names : Names) → (with_worker worker names).declared ≡ names.declared
same_worker None names = refl
same_worker (Some name) names = refl

-- a container is declared in a body
array_inside : (kind : BlockKind) (at : ℕ) (name : Name) (extents : Expressions) (bits : ℕ) → Fits kind (statement_head (local_array at name extents bits)) → is_tasklet kind ≡ false
array_inside Top at name extents bits fit = refl
array_inside Program at name extents bits fit = refl
array_inside Scope at name extents bits fit = refl
array_inside Tasklet at name extents bits fit = absurd fit

stream_inside : (kind : BlockKind) (at : ℕ) (name : Name) (bits : ℕ) (size : Option ℤ) → Fits kind (statement_head (local_stream at name bits size)) → is_tasklet kind ≡ false
stream_inside Top at name bits size fit = refl
stream_inside Program at name bits size fit = refl
stream_inside Scope at name bits size fit = refl
stream_inside Tasklet at name bits size fit = absurd fit

no_argument : (kind : BlockKind) (at : ℕ) (name : Name) (bits : ℕ) (extents : Expressions) → Fits kind (statement_head (argument_array at name bits extents)) → ⊥
no_argument Top at name bits extents fit = fit
no_argument Program at name bits extents fit = fit
no_argument Scope at name bits extents fit = fit
no_argument Tasklet at name bits extents fit = fit

no_consume : (kind : BlockKind) (at : ℕ) (from : Name) (size : ℤ) (name element : Name) (worker : Option Name) (body : Block) → Fits kind (statement_head (consume_scope at from size name element worker body)) → ⊥
no_consume Top at from size name element worker body fit = fit
no_consume Program at from size name element worker body fit = fit
no_consume Scope at from size name element worker body fit = fit
no_consume Tasklet at from size name element worker body fit = fit

-- the name that an accepted line declares first is free
pub free_name : (context : Context) (head : HeadTree) (name : Name) (rest : List Name) → IsAccepted context head → declares context.names head ≡ name ∷ rest → is_free context.names name ≡ true
free_name context head name rest accepted' is =
    first_new context.names name rest (subst (λ list. are_not_new context.names [] list ≡ false) is (declares_new context.names (site_of context) head (passes context.names (site_of context) head accepted')))

quiet : (context : Context) (line : ℕ) (scoped : Bool) (s : StatementTree) → ((names : List Name) → declared_names s names ≡ names) →
    so_far context.arguments (record context.block { statements = context.block.statements ++ s ∷ [] }) context.outer ≡ names_of context
quiet context line scoped s none = silent context.arguments context.block context.outer s none

statement_own : (context : Context) (line : ℕ) (scoped : Bool) (s : StatementTree) → Fits context.block.kind (statement_head s) → IsAccepted context (statement_head s) → IsWellNested context → OwnNames context →
    OwnNames (context_after context line scoped (statement_head s))
statement_own context line scoped (argument_array at name bits extents) fit accepted' shape good = absurd (no_argument context.block.kind at name bits extents fit)
statement_own context line scoped (local_array at name extents bits) fit accepted' shape good =
    let s = local_array at name extents bits in
    more context (context_after context line scoped (statement_head s)) name
    (declaring context.arguments context.block context.outer s name (λ names. refl) (array_inside context.block.kind at name extents bits fit) (inner_statement context.block.kind s fit) shape) refl refl (free_name context (statement_head s) name [] accepted' refl) good
statement_own context line scoped (local_stream at name bits size) fit accepted' shape good =
    let s = local_stream at name bits size in
    more context (context_after context line scoped (statement_head s)) name
    (declaring context.arguments context.block context.outer s name (λ names. refl) (stream_inside context.block.kind at name bits size fit) (inner_statement context.block.kind s fit) shape) refl refl (free_name context (statement_head s) name [] accepted' refl) good
statement_own context line scoped (assign at name subscripts add value) fit accepted' shape good =
    let s = assign at name subscripts add value in same context (context_after context line scoped (statement_head s)) (quiet context line scoped s (λ names. refl)) refl refl good
statement_own context line scoped (copy at to to_dimensions from from_dimensions) fit accepted' shape good =
    let s = copy at to to_dimensions from from_dimensions in same context (context_after context line scoped (statement_head s)) (quiet context line scoped s (λ names. refl)) refl refl good
statement_own context line scoped (reduce at lambda from to axis identity) fit accepted' shape good =
    let s = reduce at lambda from to axis identity in same context (context_after context line scoped (statement_head s)) (quiet context line scoped s (λ names. refl)) refl refl good
statement_own context line scoped (map_scope at parameters ranges body) fit accepted' shape good =
    same context (context_after context line scoped (statement_head (map_scope at parameters ranges body))) refl (same_variables parameters context.names) refl good
statement_own context line scoped (tasklet at body) fit accepted' shape good = same context (context_after context line scoped (statement_head (tasklet at body))) refl refl refl good
statement_own context line scoped (consume_scope at from size name element worker body) fit accepted' shape good = absurd (no_consume context.block.kind at from size name element worker body fit)
statement_own context line scoped (call at name arguments) fit accepted' shape good =
    let s = call at name arguments in same context (context_after context line scoped (statement_head s)) (quiet context line scoped s (λ names. refl)) refl refl good
statement_own context line scoped (for_loop at name begin end step body) fit accepted' shape good = same context (context_after context line scoped (statement_head (for_loop at name begin end step body))) refl refl refl good
statement_own context line scoped (while_loop at when body) fit accepted' shape good = same context (context_after context line scoped (statement_head (while_loop at when body))) refl refl refl good
statement_own context line scoped (branch at when body other) fit accepted' shape good = same context (context_after context line scoped (statement_head (branch at when body other))) refl refl refl good
statement_own context line scoped (input at connector memlet) fit accepted' shape good =
    let s = input at connector memlet in same context (context_after context line scoped (statement_head s)) (quiet context line scoped s (λ names. refl)) refl refl good
statement_own context line scoped (output at connector memlet) fit accepted' shape good =
    let s = output at connector memlet in same context (context_after context line scoped (statement_head s)) (quiet context line scoped s (λ names. refl)) refl refl good
statement_own context line scoped (set at name value) fit accepted' shape good =
    let s = set at name value in same context (context_after context line scoped (statement_head s)) (quiet context line scoped s (λ names. refl)) (same_local context.names name) refl good
statement_own context line scoped (set_at at name subscripts value) fit accepted' shape good =
    let s = set_at at name subscripts value in same context (context_after context line scoped (statement_head s)) (quiet context line scoped s (λ names. refl)) refl refl good
statement_own context line scoped (tasklet_branch at when body other) fit accepted' shape good = same context (context_after context line scoped (statement_head (tasklet_branch at when body other))) refl refl refl good

-- ---- other lines

consumer_names : (arguments : List StatementTree) (before : Awaited) (name element : Name) (worker : Option Name) (names : List Name) → names_by arguments (consumer_of before name element worker) names ≡ names ++ element ∷ []
consumer_names arguments nothing name element worker names = refl
consumer_names arguments block name element worker names = refl
consumer_names arguments (function_def at) name element worker names = refl
consumer_names arguments (consume_def at from size) name element worker names = refl

consume_own : (context : Context) (line : ℕ) (scoped : Bool) (name element : Name) (worker : Option Name) → IsAccepted context (consume_head name element worker) → OwnNames context → OwnNames (context_after context line scoped (consume_head name element worker))
consume_own context line true name element worker accepted' good = same context (context_after context line true (consume_head name element worker)) refl (same_worker worker (with_meaning context.names element (Input 0))) refl good
consume_own context line false name element worker accepted' good =
    more context (context_after context line false (consume_head name element worker)) element (consumer_names context.arguments context.awaited name element worker (names_of context)) (same_worker worker (with_container context.names element (Array (one_extent ∷ [])))) refl
    (free_name context (consume_head name element worker) element (optional worker) accepted' refl) good

pub pass_own : (context : Context) (line : ℕ) (scoped : Bool) (head : HeadTree) → Fits context.block.kind head → IsAccepted context head → IsWellNested context → OwnNames context → OwnNames (context_after context line scoped head)
pass_own context line scoped import_line fit accepted' shape good = same context (context_after context line scoped import_line) refl refl refl good
pass_own context line scoped (symbol_line name quoted) fit accepted' shape good = same context (context_after context line scoped (symbol_line name quoted)) refl refl refl good
pass_own context line scoped program_decorator fit accepted' shape good = same context (context_after context line scoped program_decorator) refl refl refl good
pass_own context line scoped (program_head name arguments) fit accepted' shape good = record { differ = tt; known = tt; functions = good.functions }
pass_own context line scoped (statement_head s) fit accepted' shape good = statement_own context line scoped s fit accepted' shape good
pass_own context line scoped (reduce_head lambda from to axis identity) fit accepted' shape good = same context (context_after context line scoped (reduce_head lambda from to axis identity)) (quiet context line scoped _ (λ names. refl)) refl refl good
pass_own context line scoped (input_head connector memlet) fit accepted' shape good = same context (context_after context line scoped (input_head connector memlet)) (quiet context line scoped _ (λ names. refl)) refl refl good
pass_own context line scoped (output_head connector memlet) fit accepted' shape good = same context (context_after context line scoped (output_head connector memlet)) (quiet context line scoped _ (λ names. refl)) refl refl good
pass_own context line scoped (consume_decorator from size) fit accepted' shape good = same context (context_after context line scoped (consume_decorator from size)) refl refl refl good
pass_own context line scoped (consume_head name element worker) fit accepted' shape good = consume_own context line scoped name element worker accepted' good
pass_own context line scoped (elif_head when) fit accepted' shape good = same context (context_after context line scoped (elif_head when)) refl refl refl good
pass_own context line scoped else_head fit accepted' shape good = same context (context_after context line scoped else_head) refl refl refl good
