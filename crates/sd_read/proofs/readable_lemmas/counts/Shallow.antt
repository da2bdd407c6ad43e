-- How long chains of calls are.
use Rattle.std.proofs.Common.{◌≡◌, ◌≤◌, ℕ, ◌+◌, max, zero, suc, List, [], ◌∷◌, ◌++◌, take, reverse, Bool, true, false, if◌then◌else◌, cond, Option, Some, None, unwrap_or, bytes_eq, refl, ap, sym, ◌∙◌, subst, arith}
use Rattle.std.specs.Bool.{⊤}
use Rattle.std.specs.List.{AllByRecursion}
use Rattle.std.proofs.Math.Nat.{le-max_left, le-max_right, max-le}
use Rattle.sd_lex.specs.PlainTree.{Dimension, StatementTree, argument_array, local_array, local_stream, assign, copy, reduce, map_scope, tasklet, consume_scope, call, for_loop, while_loop, branch, input, output, set, set_at, tasklet_branch, FunctionTree}
use Rattle.sd_lex.specs.TreeFold.{block_listed}
use Rattle.sd_line.specs.line.Head.{HeadTree, import_line, symbol_line, program_decorator, program_head, statement_head, reduce_head, input_head, output_head, consume_decorator, consume_head, elif_head, else_head}
use Rattle.sd_names.specs.declared.meaning.Meaning.{Meaning}
use Rattle.sd_names.specs.declared.meaning.Meaning.TheVariants.{Symbol, Variable, Program as Program_name, Worker, Input, Output, Local}
use Rattle.sd_names.specs.declared.meaning.Signature.{Signature}
use Rattle.sd_names.specs.Names.{Name, Names, listed, put, meaning_of, signature_by, with_meaning, all_meaning}
use Rattle.sd_refusal.specs.Counting.{counts_behind}
use Rattle.sd_refusal.specs.OverLimit.{call_depth, depth_by}
use Rattle.sd_uses.specs.Twice.{declares_local}
use Rattle.sd_uses.specs.ShapeMismatch.{is_no_call}
use Rattle.sd_refusal.specs.declared.site.Counts.{Counts}
use Rattle.sd_refusal.specs.declared.site.Site.{Site}
use Rattle.sd_context.specs.context.Context.{Branch, Opener, file, function, statement, consumer, if_block, else_block, OpenBlock, Awaited, nothing, block, function_def, consume_def, Context, site_of}
use Rattle.sd_context.specs.context.After.{begins_tasklet, first_connectors, context_after}
use Rattle.sd_context.specs.context.Declaring.{with_local, with_worker, names_behind, statement_names, connector_dimensions, element_names}
use Rattle.sd_context.specs.context.Placing.{consumer_of}
use Rattle.sd_read.proofs.readable_lemmas.kept.Heads.{Fits}
use Rattle.sd_read.proofs.readable_lemmas.kept.Passing.{Passes, passes, true_is_not_false}
use Rattle.sd_read.proofs.readable_lemmas.kept.Steps.{IsAccepted}
use Rattle.sd_read.proofs.readable_lemmas.kept.Trees.{of_line, all-joined}
use Rattle.sd_read.proofs.readable_lemmas.kept.Affine.{none_is_not_some}
use Rattle.sd_read.proofs.readable_lemmas.kept.InForce.{listed-put}
use Rattle.sd_read.proofs.readable_lemmas.kept.Counted.{within}
use Rattle.sd_program.specs.Names.{Named, in_force}
use Rattle.sd_program.specs.Calls.{calls_in, calls_in_all, call_depths, CallShallowly}

-- ---- what is known of the programs above

-- a program's signature says at least how long the chains below it are
abbrev pub DepthsAgree : List (Name × Meaning) → List FunctionTree → Type 0
DepthsAgree meanings programs = (name : Name) (signature' : Signature) → listed meanings name ≡ Some (Program_name (Some signature')) → unwrap_or (in_force (call_depths programs) name) 0 ≤ signature'.depth

abbrev IsCallableMeaning : Option Meaning → Type 0
IsCallableMeaning (Some (Program_name (Some signature'))) = ⊤
IsCallableMeaning other = ⊥

put_meaning : (meanings : List (Name × Meaning)) (name : Name) (meaning : Meaning) (programs : List FunctionTree) → (IsCallableMeaning (Some meaning) → ⊥) → DepthsAgree meanings programs → DepthsAgree (put meanings name meaning) programs
put_meaning meanings name meaning programs none agree wanted signature' is = by_test (bytes_eq wanted name) (sym (listed-put meanings name meaning wanted) ∙ is) where
  by_test : (test : Bool) → (if test then Some meaning else listed meanings wanted) ≡ Some (Program_name (Some signature')) → unwrap_or (in_force (call_depths programs) wanted) 0 ≤ signature'.depth
  by_test true is = absurd (none (subst IsCallableMeaning (sym is) tt))
  by_test false is = agree wanted signature' is

put_variables : (parameters : List Name) (names : Names) (programs : List FunctionTree) → DepthsAgree names.meanings programs → DepthsAgree (all_meaning Variable names parameters).meanings programs
put_variables [] names programs agree = agree
put_variables (parameter ∷ parameters) names programs agree =
    put_variables parameters (with_meaning names parameter Variable) programs (put_meaning names.meanings parameter Variable programs (λ none. none) agree)

local_meanings : (names : Names) (name : Name) (programs : List FunctionTree) → DepthsAgree names.meanings programs → DepthsAgree (with_local names name).meanings programs
local_meanings names name programs agree = by_test (declares_local (meaning_of names name)) where
  by_test : (test : Bool) → DepthsAgree (if test then with_meaning names name Local else names).meanings programs
  by_test true = put_meaning names.meanings name Local programs (λ none. none) agree
  by_test false = agree

worker_meanings : (worker : Option Name) (names : Names) (programs : List FunctionTree) → DepthsAgree names.meanings programs → DepthsAgree (with_worker worker names).meanings programs
worker_meanings None names programs agree = agree
worker_meanings (Some name) names programs agree = put_meaning names.meanings name Worker programs (λ none. none) agree

element_meanings : (scoped : Bool) (names : Names) (element : Name) (programs : List FunctionTree) → DepthsAgree names.meanings programs → DepthsAgree (element_names scoped names element).meanings programs
element_meanings true names element programs agree = put_meaning names.meanings element (Input 0) programs (λ none. none) agree
element_meanings false names element programs agree = agree

statement_meanings : (names : Names) (s : StatementTree) (programs : List FunctionTree) → DepthsAgree names.meanings programs → DepthsAgree (statement_names names s).meanings programs
statement_meanings names (argument_array at name bits extents) programs agree = agree
statement_meanings names (local_array at name extents bits) programs agree = agree
statement_meanings names (local_stream at name bits size) programs agree = agree
statement_meanings names (assign at name subscripts add value) programs agree = agree
statement_meanings names (copy at to to_dimensions from from_dimensions) programs agree = agree
statement_meanings names (reduce at lambda from to axis identity) programs agree = agree
statement_meanings names (map_scope at parameters ranges body) programs agree = put_variables parameters names programs agree
statement_meanings names (tasklet at body) programs agree = agree
statement_meanings names (consume_scope at from size name element worker body) programs agree = agree
statement_meanings names (call at name arguments) programs agree = agree
statement_meanings names (for_loop at name begin end step body) programs agree = put_meaning names.meanings name Variable programs (λ none. none) agree
statement_meanings names (while_loop at when body) programs agree = agree
statement_meanings names (branch at when body other) programs agree = agree
statement_meanings names (input at connector memlet) programs agree = agree
statement_meanings names (output at connector memlet) programs agree = agree
statement_meanings names (set at name value) programs agree = local_meanings names name programs agree
statement_meanings names (set_at at name subscripts value) programs agree = agree
statement_meanings names (tasklet_branch at when body other) programs agree = agree

pub line_meanings : (names : Names) (scoped : Bool) (head : HeadTree) (programs : List FunctionTree) → DepthsAgree names.meanings programs → DepthsAgree (names_behind names scoped head).meanings programs
line_meanings names scoped import_line programs agree = agree
line_meanings names scoped (symbol_line name quoted) programs agree = put_meaning names.meanings name Symbol programs (λ none. none) agree
line_meanings names scoped program_decorator programs agree = agree
line_meanings names scoped (program_head name arguments) programs agree = put_meaning names.meanings name (Program_name None) programs (λ none. none) agree
line_meanings names scoped (statement_head s) programs agree = statement_meanings names s programs agree
line_meanings names scoped (reduce_head lambda from to axis identity) programs agree = agree
line_meanings names scoped (input_head connector memlet) programs agree = put_meaning names.meanings connector (Input (connector_dimensions names memlet)) programs (λ none. none) agree
line_meanings names scoped (output_head connector memlet) programs agree = put_meaning names.meanings connector (Output (connector_dimensions names memlet)) programs (λ none. none) agree
line_meanings names scoped (consume_decorator from size) programs agree = agree
line_meanings names scoped (consume_head name element worker) programs agree = worker_meanings worker (element_names scoped names element) programs (element_meanings scoped names element programs agree)
line_meanings names scoped (elif_head when) programs agree = agree
line_meanings names scoped else_head programs agree = agree

take_listed : (entries : List (Name × Meaning)) (count : ℕ) (name : Name) (meaning : Meaning) → listed (take count entries) name ≡ Some meaning → listed entries name ≡ Some meaning
take_listed [] zero name meaning is = is
take_listed [] (suc count) name meaning is = is
take_listed (entry ∷ entries) zero name meaning is = none_is_not_some meaning is
take_listed (entry ∷ entries) (suc count) name meaning is = by_test (bytes_eq name entry.0) is (take_listed entries count name meaning) where
  by_test : (test : Bool) → (if test then Some entry.1 else listed (take count entries) name) ≡ Some meaning → (listed (take count entries) name ≡ Some meaning → listed entries name ≡ Some meaning) →
      (if test then Some entry.1 else listed entries name) ≡ Some meaning
  by_test true is later = is
  by_test false is later = later is

pub take_agree : (meanings : List (Name × Meaning)) (count : ℕ) (programs : List FunctionTree) → DepthsAgree meanings programs → DepthsAgree (take count meanings) programs
take_agree meanings count programs agree name signature' is = agree name signature' (take_listed meanings count name _ is)

-- a program that ends
pub depth_agrees : (meanings : List (Name × Meaning)) (count : ℕ) (f : FunctionTree) (signature' : Signature) (programs : List FunctionTree) → calls_in_all (call_depths programs) f.body ≤ signature'.depth → DepthsAgree meanings programs →
    DepthsAgree (put (take count meanings) f.name (Program_name (Some signature'))) (f ∷ programs)
depth_agrees meanings count f signature' programs deep agree wanted found is = by_test (bytes_eq wanted f.name) (sym (listed-put (take count meanings) f.name (Program_name (Some signature')) wanted) ∙ is) where
  depth_of : Option Meaning → ℕ
  depth_of (Some (Program_name (Some s))) = s.depth
  depth_of other = 0

  by_test : (test : Bool) → (if test then Some (Program_name (Some signature')) else listed (take count meanings) wanted) ≡ Some (Program_name (Some found)) →
      unwrap_or (cond test (Some (calls_in_all (call_depths programs) f.body)) (in_force (call_depths programs) wanted)) 0 ≤ found.depth
  by_test true is = subst (λ n. calls_in_all (call_depths programs) f.body ≤ n) (ap depth_of is) deep
  by_test false is = agree wanted found (take_listed meanings count wanted _ is)

-- a name with a signature means a program
by_signature : {P : Type 0} (meaning : Option Meaning) (signature' : Signature) → signature_by meaning ≡ Some signature' → (meaning ≡ Some (Program_name (Some signature')) → P) → P
by_signature None signature' is go = none_is_not_some signature' is
by_signature (Some Symbol) signature' is go = none_is_not_some signature' is
by_signature (Some Variable) signature' is go = none_is_not_some signature' is
by_signature (Some (Program_name found)) signature' is go = go (ap (λ found. Some (Program_name found)) is)
by_signature (Some Worker) signature' is go = none_is_not_some signature' is
by_signature (Some (Input dimensions)) signature' is go = none_is_not_some signature' is
by_signature (Some (Output dimensions)) signature' is go = none_is_not_some signature' is
by_signature (Some Local) signature' is go = none_is_not_some signature' is

-- a call that is accepted makes no longer chain than was counted
call_counted : (names : Names) (programs : List FunctionTree) (name : Name) (arguments : List (Name × List Dimension)) → DepthsAgree names.meanings programs → is_no_call names arguments (signature_by (meaning_of names name)) ≡ false →
    unwrap_or (in_force (call_depths programs) name) 0 + 1 ≤ depth_by (signature_by (meaning_of names name))
call_counted names programs name arguments agree matching = by_found (signature_by (meaning_of names name)) refl matching where
  by_found : (found : Option Signature) → signature_by (meaning_of names name) ≡ found → is_no_call names arguments found ≡ false → unwrap_or (in_force (call_depths programs) name) 0 + 1 ≤ depth_by found
  by_found None is fits = true_is_not_false fits
  by_found (Some signature') is fits = by_signature (meaning_of names name) signature' is (λ known. omega (arith, agree name signature' known))

-- ---- the chains of the open blocks

abbrev pub AllFew : Named ℕ → (most : ℕ) → List StatementTree → Type 0
AllFew depths most statements = AllByRecursion (λ s. calls_in depths s ≤ most) statements

abbrev pub BranchesFew : Named ℕ → (most : ℕ) → List Branch → Type 0
BranchesFew depths most branches = AllByRecursion (λ b. AllFew depths most b.statements) branches

abbrev pub Held : Named ℕ → (most : ℕ) → Opener → (Own Outside : Type 0) → Type 0
Held depths most file Own Outside = ⊤
Held depths most (function name) Own Outside = Own
Held depths most (statement s) Own Outside = Own × Outside
Held depths most (consumer line from size name element worker) Own Outside = Own × Outside
Held depths most (if_block earlier when) Own Outside = BranchesFew depths most earlier × (Own × Outside)
Held depths most (else_block earlier) Own Outside = BranchesFew depths most earlier × (Own × Outside)

abbrev pub AreShallow : Named ℕ → (most : ℕ) → List OpenBlock → Type 0
AreShallow depths most [] = ⊤
AreShallow depths most (b ∷ outer) = Held depths most b.opener (AllFew depths most b.statements) (AreShallow depths most outer)

all-weaken : (depths : Named ℕ) (most more : ℕ) → most ≤ more → (statements : List StatementTree) → AllFew depths most statements → AllFew depths more statements
all-weaken depths most more le [] all = tt
all-weaken depths most more le (s ∷ statements) all = (omega (arith, le, all.0), all-weaken depths most more le statements all.1)

branches-weaken : (depths : Named ℕ) (most more : ℕ) → most ≤ more → (branches : List Branch) → BranchesFew depths most branches → BranchesFew depths more branches
branches-weaken depths most more le [] all = tt
branches-weaken depths most more le (b ∷ branches) all = (all-weaken depths most more le b.statements all.0, branches-weaken depths most more le branches all.1)

held-map : (depths : Named ℕ) (most more : ℕ) → most ≤ more → (opener : Opener) (Own Outside Own' Outside' : Type 0) → (Own → Own') → (Outside → Outside') → Held depths most opener Own Outside → Held depths more opener Own' Outside'
held-map depths most more le file Own Outside Own' Outside' own outside held = tt
held-map depths most more le (function name) Own Outside Own' Outside' own outside held = own held
held-map depths most more le (statement s) Own Outside Own' Outside' own outside held = (own held.0, outside held.1)
held-map depths most more le (consumer line from size name element worker) Own Outside Own' Outside' own outside held = (own held.0, outside held.1)
held-map depths most more le (if_block earlier when) Own Outside Own' Outside' own outside held = (branches-weaken depths most more le earlier held.0, (own held.1.0, outside held.1.1))
held-map depths most more le (else_block earlier) Own Outside Own' Outside' own outside held = (branches-weaken depths most more le earlier held.0, (own held.1.0, outside held.1.1))

pub blocks-weaken : (depths : Named ℕ) (most more : ℕ) → most ≤ more → (blocks : List OpenBlock) → AreShallow depths most blocks → AreShallow depths more blocks
blocks-weaken depths most more le [] all = tt
blocks-weaken depths most more le (b ∷ outer) all =
    held-map depths most more le b.opener (AllFew depths most b.statements) (AreShallow depths most outer) (AllFew depths more b.statements) (AreShallow depths more outer)
    (all-weaken depths most more le b.statements) (blocks-weaken depths most more le outer) all

pub blocks-more : (depths : Named ℕ) (most : ℕ) (b : OpenBlock) (outer : List OpenBlock) (more : List StatementTree) → AllFew depths most more → AreShallow depths most (b ∷ outer) →
    AreShallow depths most (record b { statements = b.statements ++ more } ∷ outer)
blocks-more depths most b outer more few all =
    held-map depths most most (omega arith) b.opener (AllFew depths most b.statements) (AreShallow depths most outer) (AllFew depths most (b.statements ++ more)) (AreShallow depths most outer)
    (λ own. all-joined (λ s. calls_in depths s ≤ most) b.statements more own few) (λ outside. outside) all

pub all-listed : (depths : Named ℕ) (most : ℕ) (statements : List StatementTree) → AllFew depths most statements → calls_in_all depths (block_listed statements) ≤ most
all-listed depths most [] all = omega arith
all-listed depths most (s ∷ statements) all = max-le all.0 (all-listed depths most statements all.1)

pub record FewCalls (context : Context) : Type 0 where
  pub shallow : AreShallow (call_depths (reverse context.functions)) context.counts.calls (context.block ∷ context.outer)
  pub few : context.counts.calls ≤ 8
  pub known : DepthsAgree context.names.meanings (reverse context.functions)
  pub functions : CallShallowly (reverse context.functions)

-- ---- lines

pub same_calls : (test : Bool) (first lines : ℕ) (counts : Counts) → (if test then record counts { connectors = first; lines = lines } else counts).calls ≡ counts.calls
same_calls true first lines counts = refl
same_calls false first lines counts = refl

consumer_held : (depths : Named ℕ) (most : ℕ) (before : Awaited) (name element : Name) (worker : Option Name) (Outside : Type 0) → Outside → Held depths most (consumer_of before name element worker) ⊤ Outside
consumer_held depths most nothing name element worker Outside outside = (tt, outside)
consumer_held depths most block name element worker Outside outside = (tt, outside)
consumer_held depths most (function_def at) name element worker Outside outside = (tt, outside)
consumer_held depths most (consume_def at from size) name element worker Outside outside = (tt, outside)

-- what a statement changes
pub statement_after : (context : Context) (line : ℕ) (scoped : Bool) (s : StatementTree) → let after = context_after context line scoped (statement_head s) in
    (after.counts.calls ≡ max context.counts.calls (call_depth context.names (statement_head s))) × ((after.functions ≡ context.functions) × (after.names.meanings ≡ (names_behind context.names scoped (statement_head s)).meanings))
statement_after context line scoped (argument_array at name bits extents) =
    (same_calls (begins_tasklet scoped (statement_head (argument_array at name bits extents))) (first_connectors (statement_head (argument_array at name bits extents))) 0 (counts_behind context.names context.counts context.block.kind (statement_head (argument_array at name bits extents))), (refl, refl))
statement_after context line scoped (local_array at name extents bits) =
    (same_calls (begins_tasklet scoped (statement_head (local_array at name extents bits))) (first_connectors (statement_head (local_array at name extents bits))) 0 (counts_behind context.names context.counts context.block.kind (statement_head (local_array at name extents bits))), (refl, refl))
statement_after context line scoped (local_stream at name bits size) =
    (same_calls (begins_tasklet scoped (statement_head (local_stream at name bits size))) (first_connectors (statement_head (local_stream at name bits size))) 0 (counts_behind context.names context.counts context.block.kind (statement_head (local_stream at name bits size))), (refl, refl))
statement_after context line scoped (assign at name subscripts add value) =
    (same_calls (begins_tasklet scoped (statement_head (assign at name subscripts add value))) (first_connectors (statement_head (assign at name subscripts add value))) 0 (counts_behind context.names context.counts context.block.kind (statement_head (assign at name subscripts add value))), (refl, refl))
statement_after context line scoped (copy at to to_dimensions from from_dimensions) =
    (same_calls (begins_tasklet scoped (statement_head (copy at to to_dimensions from from_dimensions))) (first_connectors (statement_head (copy at to to_dimensions from from_dimensions))) 0 (counts_behind context.names context.counts context.block.kind (statement_head (copy at to to_dimensions from from_dimensions))), (refl, refl))
statement_after context line scoped (reduce at lambda from to axis identity) =
    (same_calls (begins_tasklet scoped (statement_head (reduce at lambda from to axis identity))) (first_connectors (statement_head (reduce at lambda from to axis identity))) 0 (counts_behind context.names context.counts context.block.kind (statement_head (reduce at lambda from to axis identity))), (refl, refl))
statement_after context line scoped (map_scope at parameters ranges body) =
    (same_calls (begins_tasklet scoped (statement_head (map_scope at parameters ranges body))) (first_connectors (statement_head (map_scope at parameters ranges body))) 0 (counts_behind context.names context.counts context.block.kind (statement_head (map_scope at parameters ranges body))), (refl, refl))
statement_after context line scoped (tasklet at body) =
    (same_calls (begins_tasklet scoped (statement_head (tasklet at body))) (first_connectors (statement_head (tasklet at body))) 0 (counts_behind context.names context.counts context.block.kind (statement_head (tasklet at body))), (refl, refl))
statement_after context line scoped (consume_scope at from size name element worker body) =
    (same_calls (begins_tasklet scoped (statement_head (consume_scope at from size name element worker body))) (first_connectors (statement_head (consume_scope at from size name element worker body))) 0 (counts_behind context.names context.counts context.block.kind (statement_head (consume_scope at from size name element worker body))), (refl, refl))
statement_after context line scoped (call at name arguments) =
    (same_calls (begins_tasklet scoped (statement_head (call at name arguments))) (first_connectors (statement_head (call at name arguments))) 0 (counts_behind context.names context.counts context.block.kind (statement_head (call at name arguments))), (refl, refl))
statement_after context line scoped (for_loop at name begin end step body) =
    (same_calls (begins_tasklet scoped (statement_head (for_loop at name begin end step body))) (first_connectors (statement_head (for_loop at name begin end step body))) 0 (counts_behind context.names context.counts context.block.kind (statement_head (for_loop at name begin end step body))), (refl, refl))
statement_after context line scoped (while_loop at when body) =
    (same_calls (begins_tasklet scoped (statement_head (while_loop at when body))) (first_connectors (statement_head (while_loop at when body))) 0 (counts_behind context.names context.counts context.block.kind (statement_head (while_loop at when body))), (refl, refl))
statement_after context line scoped (branch at when body other) =
    (same_calls (begins_tasklet scoped (statement_head (branch at when body other))) (first_connectors (statement_head (branch at when body other))) 0 (counts_behind context.names context.counts context.block.kind (statement_head (branch at when body other))), (refl, refl))
statement_after context line scoped (input at connector memlet) =
    (same_calls (begins_tasklet scoped (statement_head (input at connector memlet))) (first_connectors (statement_head (input at connector memlet))) 0 (counts_behind context.names context.counts context.block.kind (statement_head (input at connector memlet))), (refl, refl))
statement_after context line scoped (output at connector memlet) =
    (same_calls (begins_tasklet scoped (statement_head (output at connector memlet))) (first_connectors (statement_head (output at connector memlet))) 0 (counts_behind context.names context.counts context.block.kind (statement_head (output at connector memlet))), (refl, refl))
statement_after context line scoped (set at name value) =
    (same_calls (begins_tasklet scoped (statement_head (set at name value))) (first_connectors (statement_head (set at name value))) 0 (counts_behind context.names context.counts context.block.kind (statement_head (set at name value))), (refl, refl))
statement_after context line scoped (set_at at name subscripts value) =
    (same_calls (begins_tasklet scoped (statement_head (set_at at name subscripts value))) (first_connectors (statement_head (set_at at name subscripts value))) 0 (counts_behind context.names context.counts context.block.kind (statement_head (set_at at name subscripts value))), (refl, refl))
statement_after context line scoped (tasklet_branch at when body other) =
    (same_calls (begins_tasklet scoped (statement_head (tasklet_branch at when body other))) (first_connectors (statement_head (tasklet_branch at when body other))) 0 (counts_behind context.names context.counts context.block.kind (statement_head (tasklet_branch at when body other))), (refl, refl))

statement_shallow : (context : Context) (line : ℕ) (scoped : Bool) (s : StatementTree) (depths : Named ℕ) (most : ℕ) → Fits context.block.kind (statement_head s) →
    ((at : ℕ) (name : Name) (arguments : List (Name × List Dimension)) → s ≡ call at name arguments → unwrap_or (in_force depths name) 0 + 1 ≤ most) →
    AreShallow depths most (context.block ∷ context.outer) →
    let after = context_after context line scoped (statement_head s) in AreShallow depths most (after.block ∷ after.outer)
statement_shallow context line scoped (argument_array at name bits extents) depths most fit called all = all
statement_shallow context line scoped (local_array at name extents bits) depths most fit called all = blocks-more depths most context.block context.outer ((local_array at name extents bits) ∷ []) (omega arith, tt) all
statement_shallow context line scoped (local_stream at name bits size) depths most fit called all = blocks-more depths most context.block context.outer ((local_stream at name bits size) ∷ []) (omega arith, tt) all
statement_shallow context line scoped (assign at name subscripts add value) depths most fit called all = blocks-more depths most context.block context.outer ((assign at name subscripts add value) ∷ []) (omega arith, tt) all
statement_shallow context line scoped (copy at to to_dimensions from from_dimensions) depths most fit called all = blocks-more depths most context.block context.outer ((copy at to to_dimensions from from_dimensions) ∷ []) (omega arith, tt) all
statement_shallow context line scoped (reduce at lambda from to axis identity) depths most fit called all = absurd (of_line context.block.kind (reduce at lambda from to axis identity) fit)
statement_shallow context line scoped (map_scope at parameters ranges body) depths most fit called all = (tt, all)
statement_shallow context line scoped (tasklet at body) depths most fit called all = (tt, all)
statement_shallow context line scoped (consume_scope at from size name element worker body) depths most fit called all = absurd (of_line context.block.kind (consume_scope at from size name element worker body) fit)
statement_shallow context line scoped (call at name arguments) depths most fit called all = blocks-more depths most context.block context.outer ((call at name arguments) ∷ []) (called at name arguments refl, tt) all
statement_shallow context line scoped (for_loop at name begin end step body) depths most fit called all = (tt, all)
statement_shallow context line scoped (while_loop at when body) depths most fit called all = (tt, all)
statement_shallow context line scoped (branch at when body other) depths most fit called all = (tt, (tt, all))
statement_shallow context line scoped (input at connector memlet) depths most fit called all = absurd (of_line context.block.kind (input at connector memlet) fit)
statement_shallow context line scoped (output at connector memlet) depths most fit called all = absurd (of_line context.block.kind (output at connector memlet) fit)
statement_shallow context line scoped (set at name value) depths most fit called all = blocks-more depths most context.block context.outer ((set at name value) ∷ []) (omega arith, tt) all
statement_shallow context line scoped (set_at at name subscripts value) depths most fit called all = blocks-more depths most context.block context.outer ((set_at at name subscripts value) ∷ []) (omega arith, tt) all
statement_shallow context line scoped (tasklet_branch at when body other) depths most fit called all = (tt, (tt, all))

-- what is accepted of a call
called : (names : Names) (site : Site) (programs : List FunctionTree) (s : StatementTree) → DepthsAgree names.meanings programs → Passes names site (statement_head s) →
    (at : ℕ) (name : Name) (arguments : List (Name × List Dimension)) → s ≡ call at name arguments → unwrap_or (in_force (call_depths programs) name) 0 + 1 ≤ call_depth names (statement_head s)
called names site programs s agree passed at name arguments is =
    subst (λ s. Passes names site (statement_head s) → unwrap_or (in_force (call_depths programs) name) 0 + 1 ≤ call_depth names (statement_head s)) (sym is)
    (λ passed. call_counted names programs name arguments agree passed.matching) passed

pub counted_line : (context after : Context) (head : HeadTree) → FewCalls context → IsAccepted context head → after.counts.calls ≡ max context.counts.calls (call_depth context.names head) →
    (after.functions ≡ context.functions) × DepthsAgree after.names.meanings (reverse context.functions) →
    ((most : ℕ) → call_depth context.names head ≤ most → AreShallow (call_depths (reverse context.functions)) most (context.block ∷ context.outer) → AreShallow (call_depths (reverse context.functions)) most (after.block ∷ after.outer)) →
    FewCalls after
counted_line context after head good accepted' same others more =
    let kept = within context.names (site_of context) head (passes context.names (site_of context) head accepted') in
    let depths = call_depths (reverse context.functions) in
    let most = max context.counts.calls (call_depth context.names head) in
    let now : AreShallow depths most (after.block ∷ after.outer) =
    more most (le-max_right context.counts.calls (call_depth context.names head))
    (blocks-weaken depths context.counts.calls most (le-max_left context.counts.calls (call_depth context.names head)) (context.block ∷ context.outer) good.shallow) in
    record {
      shallow = subst (λ functions. AreShallow (call_depths (reverse functions)) after.counts.calls (after.block ∷ after.outer)) (sym others.0)
          (subst (λ n. AreShallow depths n (after.block ∷ after.outer)) (sym same) now);
      few = subst (λ n. n ≤ 8) (sym same) (max-le good.few kept.calls);
      known = subst (λ functions. DepthsAgree after.names.meanings (reverse functions)) (sym others.0) others.1;
      functions = subst (λ functions. CallShallowly (reverse functions)) (sym others.0) good.functions;
    }

-- a statement
statement_total : (context : Context) (line : ℕ) (scoped : Bool) (s : StatementTree) → Fits context.block.kind (statement_head s) → FewCalls context → IsAccepted context (statement_head s) →
    FewCalls (context_after context line scoped (statement_head s))
statement_total context line scoped s fit good accepted' =
    let after = statement_after context line scoped s in
    let programs = reverse context.functions in
    counted_line context (context_after context line scoped (statement_head s)) (statement_head s) good accepted' after.0
    (after.1.0, subst (λ meanings. DepthsAgree meanings programs) (sym after.1.1) (line_meanings context.names scoped (statement_head s) programs good.known))
    (λ most le all. statement_shallow context line scoped s (call_depths programs) most fit
    (λ at name arguments is. omega (arith, le, called context.names (site_of context) programs s good.known (passes context.names (site_of context) (statement_head s) accepted') at name arguments is)) all)

pub line_total : (context : Context) (line : ℕ) (scoped : Bool) (head : HeadTree) → Fits context.block.kind head → FewCalls context → IsAccepted context head → FewCalls (context_after context line scoped head)
line_total context line scoped import_line fit good accepted' = counted_line context (context_after context line scoped import_line) import_line good accepted' (same_calls (begins_tasklet scoped import_line) (first_connectors import_line) 0 (counts_behind context.names context.counts context.block.kind import_line)) (refl, line_meanings context.names scoped import_line (reverse context.functions) good.known) (λ most le all. all)
line_total context line scoped (symbol_line name quoted) fit good accepted' = counted_line context (context_after context line scoped (symbol_line name quoted)) (symbol_line name quoted) good accepted' (same_calls (begins_tasklet scoped (symbol_line name quoted)) (first_connectors (symbol_line name quoted)) 0 (counts_behind context.names context.counts context.block.kind (symbol_line name quoted))) (refl, line_meanings context.names scoped (symbol_line name quoted) (reverse context.functions) good.known) (λ most le all. all)
line_total context line scoped program_decorator fit good accepted' = counted_line context (context_after context line scoped program_decorator) program_decorator good accepted' (same_calls (begins_tasklet scoped program_decorator) (first_connectors program_decorator) 0 (counts_behind context.names context.counts context.block.kind program_decorator)) (refl, line_meanings context.names scoped program_decorator (reverse context.functions) good.known) (λ most le all. all)
line_total context line scoped (program_head name arguments) fit good accepted' = record { shallow = tt; few = omega arith; known = line_meanings context.names scoped (program_head name arguments) (reverse context.functions) good.known; functions = good.functions }
line_total context line scoped (statement_head s) fit good accepted' = statement_total context line scoped s fit good accepted'
line_total context line scoped (reduce_head lambda from to axis identity) fit good accepted' = counted_line context (context_after context line scoped (reduce_head lambda from to axis identity)) (reduce_head lambda from to axis identity) good accepted' (same_calls (begins_tasklet scoped (reduce_head lambda from to axis identity)) (first_connectors (reduce_head lambda from to axis identity)) 0 (counts_behind context.names context.counts context.block.kind (reduce_head lambda from to axis identity))) (refl, line_meanings context.names scoped (reduce_head lambda from to axis identity) (reverse context.functions) good.known) (λ most le all. blocks-more (call_depths (reverse context.functions)) most context.block context.outer (_ ∷ []) (omega arith, tt) all)
line_total context line scoped (input_head connector memlet) fit good accepted' = counted_line context (context_after context line scoped (input_head connector memlet)) (input_head connector memlet) good accepted' (same_calls (begins_tasklet scoped (input_head connector memlet)) (first_connectors (input_head connector memlet)) 0 (counts_behind context.names context.counts context.block.kind (input_head connector memlet))) (refl, line_meanings context.names scoped (input_head connector memlet) (reverse context.functions) good.known) (λ most le all. blocks-more (call_depths (reverse context.functions)) most context.block context.outer (_ ∷ []) (omega arith, tt) all)
line_total context line scoped (output_head connector memlet) fit good accepted' = counted_line context (context_after context line scoped (output_head connector memlet)) (output_head connector memlet) good accepted' (same_calls (begins_tasklet scoped (output_head connector memlet)) (first_connectors (output_head connector memlet)) 0 (counts_behind context.names context.counts context.block.kind (output_head connector memlet))) (refl, line_meanings context.names scoped (output_head connector memlet) (reverse context.functions) good.known) (λ most le all. blocks-more (call_depths (reverse context.functions)) most context.block context.outer (_ ∷ []) (omega arith, tt) all)
line_total context line scoped (consume_decorator from size) fit good accepted' = counted_line context (context_after context line scoped (consume_decorator from size)) (consume_decorator from size) good accepted' (same_calls (begins_tasklet scoped (consume_decorator from size)) (first_connectors (consume_decorator from size)) 0 (counts_behind context.names context.counts context.block.kind (consume_decorator from size))) (refl, line_meanings context.names scoped (consume_decorator from size) (reverse context.functions) good.known) (λ most le all. all)
line_total context line scoped (consume_head name element worker) fit good accepted' = counted_line context (context_after context line scoped (consume_head name element worker)) (consume_head name element worker) good accepted' (same_calls (begins_tasklet scoped (consume_head name element worker)) (first_connectors (consume_head name element worker)) 0 (counts_behind context.names context.counts context.block.kind (consume_head name element worker))) (refl, line_meanings context.names scoped (consume_head name element worker) (reverse context.functions) good.known) (λ most le all. consumer_held (call_depths (reverse context.functions)) most context.awaited name element worker (AreShallow (call_depths (reverse context.functions)) most (context.block ∷ context.outer)) all)
line_total context line scoped (elif_head when) fit good accepted' = counted_line context (context_after context line scoped (elif_head when)) (elif_head when) good accepted' (same_calls (begins_tasklet scoped (elif_head when)) (first_connectors (elif_head when)) 0 (counts_behind context.names context.counts context.block.kind (elif_head when))) (refl, line_meanings context.names scoped (elif_head when) (reverse context.functions) good.known) (λ most le all. all)
line_total context line scoped else_head fit good accepted' = counted_line context (context_after context line scoped else_head) else_head good accepted' (same_calls (begins_tasklet scoped else_head) (first_connectors else_head) 0 (counts_behind context.names context.counts context.block.kind else_head)) (refl, line_meanings context.names scoped else_head (reverse context.functions) good.known) (λ most le all. all)
