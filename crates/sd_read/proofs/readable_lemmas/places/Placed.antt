-- What holds of each statement in its place as its line is accepted holds of it in the program.
use Rattle.std.proofs.Common.{◌≡◌, ◌≤◌, ℕ, ℤ, List, [], ◌∷◌, ◌++◌, length, take, reverse, Bool, true, false, Option, Some, is_some, refl, sym, ap, ◌∙◌, subst}
use Rattle.std.specs.Bool.{⊤}
use Rattle.sd_lex.specs.PlainTree.{Expression, Expressions, StatementTree, argument_array, reduce, map_scope, tasklet, consume_scope, for_loop, while_loop, branch, input, output, tasklet_branch, no_statement, FunctionTree}
use Rattle.sd_lex.specs.TreeFold.{block_listed}
use Rattle.sd_phrase.specs.Memlet.{LambdaTree, MemletTree}
use Rattle.sd_line.specs.declared.line.head.BlockKind.{BlockKind}
use Rattle.sd_line.specs.declared.line.head.BlockKind.TheVariants.{Top, Program, Scope, Tasklet}
use Rattle.sd_line.specs.line.Head.{statement_head, reduce_head, input_head, output_head, consume_decorator, elif_head}
use Rattle.sd_names.specs.declared.meaning.Container.{Container}
use Rattle.sd_names.specs.declared.meaning.Meaning.{Meaning}
use Rattle.sd_names.specs.declared.meaning.Meaning.TheVariants.{Program as Program_name}
use Rattle.sd_names.specs.declared.meaning.Signature.{Signature}
use Rattle.sd_names.specs.Names.{Name, Names, listed, put}
use Rattle.sd_refusal.specs.OverLimit.{is_tasklet}
use Rattle.sd_refusal.specs.declared.site.Site.{Site}
use Rattle.sd_context.specs.context.Context.{Branch, Opener, file, function, statement, consumer, if_block, else_block, OpenBlock, Awaited, nothing, block, function_def, consume_def, Context}
use Rattle.sd_context.specs.context.Placing.{memlet_of, kind_in, lambda_or_last}
use Rattle.sd_context.specs.blocks.Closing.{branch_with, keeps_containers}
use Rattle.sd_program.specs.Names.{Named, in_force}
use Rattle.sd_program.specs.Calls.{argument_counts}
use Rattle.sd_program.specs.Declared.{containers_in_all}
use Rattle.sd_program.specs.Place.{Holder, Around, program, scope, task, signature, Place, behind, behind_all, past, past_all, in_map, in_tasklet, in_loop, in_consume, in_signature, in_function, EveryAt, EveryFrom, EveryFunction}
use Rattle.sd_read.proofs.readable_lemmas.kept.Heads.{AreExtents, IsOfLine, Fits, IsInner, IsIf, AreNested}
use Rattle.sd_read.proofs.readable_lemmas.kept.Passing.{Passes}
use Rattle.sd_read.proofs.readable_lemmas.kept.Trees.{bare}
use Rattle.sd_read.proofs.readable_lemmas.kept.InForce.{Agrees, take-put, length-put}

abbrev pub around_of : BlockKind → Around
around_of Top = signature
around_of Program = program
around_of Scope = scope
around_of Tasklet = task

-- ---- places of the open blocks

abbrev pub over : List StatementTree → Place → Place
over statements place = past_all (block_listed statements) place

-- behind the branches of an `if`
abbrev pub through : List Branch → Place → Place
through [] place = place
through (b ∷ branches) place = through branches (over b.statements place)

abbrev pub begins_by : StatementTree → Place → Place
begins_by (map_scope line parameters ranges body) place = in_map place
begins_by (tasklet line body) place = in_tasklet place
begins_by (for_loop line name begin end step body) place = in_loop place
begins_by (while_loop line when body) place = in_loop place
begins_by s place = place

-- where a block begins that stands at this place
abbrev pub begins : (arguments : List StatementTree) → BlockKind → Opener → Place → Place
begins arguments kind file place = place
begins arguments kind (function name) place = in_function place.programs (block_listed arguments)
begins arguments kind (statement s) place = begins_by s place
begins arguments kind (consumer line from size name element worker) place = in_consume (is_tasklet kind) element place
begins arguments kind (if_block earlier when) place = through earlier place
begins arguments kind (else_block earlier) place = through earlier place

-- where the innermost block begins, with these programs above
abbrev pub place_at : List FunctionTree → (arguments : List StatementTree) → OpenBlock → List OpenBlock → Place
place_at programs arguments inner [] = in_signature programs
place_at programs arguments inner (about ∷ outer) = begins arguments inner.kind inner.opener (over about.statements (place_at programs arguments about outer))

-- where the next statement stands
abbrev pub now : List FunctionTree → (arguments : List StatementTree) → OpenBlock → List OpenBlock → Place
now programs arguments inner outer = over inner.statements (place_at programs arguments inner outer)

-- ---- lists of statements

pub behind-joined : (xs ys : List StatementTree) (containers : Named Holder) → behind_all (block_listed (xs ++ ys)) containers ≡ behind_all (block_listed ys) (behind_all (block_listed xs) containers)
behind-joined [] ys containers = refl
behind-joined (x ∷ xs) ys containers = behind-joined xs ys (behind x containers)

pub over-joined : (xs ys : List StatementTree) (place : Place) → over (xs ++ ys) place ≡ over ys (over xs place)
over-joined xs ys place = λ i. record { programs = place.programs; around = place.around; depth = place.depth; containers = behind-joined xs ys place.containers i }

pub through-more : (branches : List Branch) (b : Branch) (place : Place) → through (branches ++ b ∷ []) place ≡ over b.statements (through branches place)
through-more [] b place = refl
through-more (first ∷ rest) b place = through-more rest b (over first.statements place)

-- what a program's signature says of its arguments is so
abbrev pub SignaturesAgree : List (Name × Meaning) → List FunctionTree → Type 0
SignaturesAgree meanings programs = (name : Name) (signature' : Signature) → listed meanings name ≡ Some (Program_name (Some signature')) → in_force (argument_counts programs) name ≡ Some (length signature'.parameters)

module _ (Holds : Place → StatementTree → Type 0) where
  abbrev pub AllFrom : Place → List StatementTree → Type 0
  AllFrom place statements = EveryFrom Holds place (block_listed statements)

  pub from-joined : (place : Place) (xs ys : List StatementTree) → AllFrom place xs → AllFrom (over xs place) ys → AllFrom place (xs ++ ys)
  from-joined place [] ys all others = others
  from-joined place (x ∷ xs) ys all others = (all.0, from-joined (past x place) xs ys all.1 others)

  -- ---- the open blocks

  abbrev pub HasHead : Place → BlockKind → Branch → Type 0
  HasHead place kind b = Holds place (branch_with kind (record { line = b.line; when = b.when; statements = [] }) no_statement)

  abbrev pub AreBranches : BlockKind → List Branch → Place → Type 0
  AreBranches kind [] place = ⊤
  AreBranches kind (b ∷ branches) place = (HasHead place kind b × AllFrom place b.statements) × AreBranches kind branches (over b.statements place)

  abbrev pub IsGoodOpener : BlockKind → (line : ℕ) → Opener → Place → Type 0
  IsGoodOpener kind line file place = ⊤
  IsGoodOpener kind line (function name) place = ⊤
  IsGoodOpener kind line (statement s) place = Holds place (bare s)
  IsGoodOpener kind line (consumer at from size name element worker) place = Holds place (consume_scope at from size name element worker no_statement)
  IsGoodOpener kind line (if_block earlier when) place = AreBranches kind earlier place × HasHead (through earlier place) kind (record { line = line; when = when; statements = [] })
  IsGoodOpener kind line (else_block earlier) place = AreBranches kind earlier place

  -- a place is that of a block
  pub record IsPlaceOf (inner : OpenBlock) (place : Place) : Type 0 where
    pub depth : place.depth ≡ inner.depth
    pub around : place.around ≡ around_of inner.kind

  pub record IsGoodBlock (inner : OpenBlock) (at begin : Place) : Type 0 where
    pub opener : IsGoodOpener inner.kind inner.line inner.opener at
    pub all : AllFrom begin inner.statements
    pub place : IsPlaceOf inner begin

  abbrev pub AreGoodBlocks : List FunctionTree → (arguments : List StatementTree) → OpenBlock → List OpenBlock → Type 0
  AreGoodBlocks programs arguments inner [] = (inner.statements ≡ []) × (inner.depth ≡ 0)
  AreGoodBlocks programs arguments inner (about ∷ outer) =
      IsGoodBlock inner (now programs arguments about outer) (place_at programs arguments inner (about ∷ outer)) × AreGoodBlocks programs arguments about outer

  -- ---- names outside of the innermost block

  abbrev pub by_keeping : Bool → (kept cut : Type 0) → Type 0
  by_keeping true kept cut = kept
  by_keeping false kept cut = cut

  abbrev pub by_way : Opener → (kept cut : Type 0) → Type 0
  by_way (function name) kept cut = ⊤
  by_way opener kept cut = by_keeping (keeps_containers opener) kept cut

  abbrev pub AgreeOutside : List FunctionTree → (arguments : List StatementTree) → List (Name × Container) → OpenBlock → List OpenBlock → Type 0
  AgreeOutside programs arguments known inner [] = ⊤
  AgreeOutside programs arguments known inner (about ∷ outer) =
      by_way inner.opener (AgreeOutside programs arguments known about outer)
      ((inner.before.containers ≤ length known)
      × (Agrees (take inner.before.containers known) (now programs arguments about outer).containers
      × AgreeOutside programs arguments (take inner.before.containers known) about outer))

  -- ---- what keeps the blocks good

  -- a block that is not the file has a place
  pub block_place : (programs : List FunctionTree) (arguments : List StatementTree) (inner : OpenBlock) (outer : List OpenBlock) → AreNested inner outer → IsInner inner.kind →
      AreGoodBlocks programs arguments inner outer → IsPlaceOf inner (place_at programs arguments inner outer)
  block_place programs arguments inner [] shape inside good = absurd (subst IsInner shape.0 inside)
  block_place programs arguments inner (about ∷ outer) shape inside good = good.0.place

  pub place-same : (programs : List FunctionTree) (arguments : List StatementTree) (inner : OpenBlock) (outer : List OpenBlock) (statements : List StatementTree) →
      place_at programs arguments (record inner { statements = statements }) outer ≡ place_at programs arguments inner outer
  place-same programs arguments inner [] statements = refl
  place-same programs arguments inner (about ∷ outer) statements = refl

  pub outside-same : (programs : List FunctionTree) (arguments : List StatementTree) (known : List (Name × Container)) (inner : OpenBlock) (outer : List OpenBlock) (statements : List StatementTree) →
      AgreeOutside programs arguments known inner outer → AgreeOutside programs arguments known (record inner { statements = statements }) outer
  outside-same programs arguments known inner [] statements outside = outside
  outside-same programs arguments known inner (about ∷ outer) statements outside = outside

  -- one statement more
  pub one_more : (programs : List FunctionTree) (arguments : List StatementTree) (inner : OpenBlock) (outer : List OpenBlock) (s : StatementTree) → AreNested inner outer → IsInner inner.kind →
      EveryAt Holds (now programs arguments inner outer) s → AreGoodBlocks programs arguments inner outer → AreGoodBlocks programs arguments (record inner { statements = inner.statements ++ s ∷ [] }) outer
  one_more programs arguments inner [] s shape inside every good = absurd (subst IsInner shape.0 inside)
  one_more programs arguments inner (about ∷ outer) s shape inside every good = (
    record {
      opener = good.0.opener;
      all = from-joined (place_at programs arguments inner (about ∷ outer)) inner.statements (s ∷ []) good.0.all (every, tt);
      place = record { depth = good.0.place.depth; around = good.0.place.around };
    },
    good.1,
  )

  -- the place behind it
  pub now-more : (programs : List FunctionTree) (arguments : List StatementTree) (inner : OpenBlock) (outer : List OpenBlock) (s : StatementTree) →
      now programs arguments (record inner { statements = inner.statements ++ s ∷ [] }) outer ≡ past s (now programs arguments inner outer)
  now-more programs arguments inner outer s =
      ap (over (inner.statements ++ s ∷ [])) (place-same programs arguments inner outer (inner.statements ++ s ∷ [])) ∙ over-joined inner.statements (s ∷ []) (place_at programs arguments inner outer)

  way-map : (opener : Opener) (K K' C C' : Type 0) → (K → K') → (C → C') → by_way opener K C → by_way opener K' C'
  way-map opener K K' C C' kept cut = by_opener opener where
    by_test : (test : Bool) → by_keeping test K C → by_keeping test K' C'
    by_test true = kept
    by_test false = cut

    by_opener : (opener : Opener) → by_way opener K C → by_way opener K' C'
    by_opener file = by_test (keeps_containers file)
    by_opener (function name) = λ all. all
    by_opener (statement s) = by_test (keeps_containers (statement s))
    by_opener (consumer line from size name element worker) = by_test false
    by_opener (if_block earlier when) = by_test true
    by_opener (else_block earlier) = by_test true

  -- a new container
  pub outside-put : (programs : List FunctionTree) (arguments : List StatementTree) (known : List (Name × Container)) (inner : OpenBlock) (outer : List OpenBlock) (name : Name) (c : Container) →
      is_some (listed known name) ≡ false → AgreeOutside programs arguments known inner outer → AgreeOutside programs arguments (put known name c) inner outer
  outside-put programs arguments known inner [] name c new outside = tt
  outside-put programs arguments known inner (about ∷ outer) name c new outside =
      way-map inner.opener _ _ _ _ (outside-put programs arguments known about outer name c new)
      (λ cut. (
        length-put known name c inner.before.containers new cut.0,
        subst (λ list. Agrees list (now programs arguments about outer).containers × AgreeOutside programs arguments list about outer) (sym (take-put known name c inner.before.containers new cut.0)) cut.1,
      ))
      outside

  -- ---- what a line says in its place

  pub record IsAt (names : Names) (site : Site) (place : Place) : Type 0 where
    pub containers : Agrees names.containers place.containers
    pub programs : SignaturesAgree names.meanings place.programs
    pub depth : place.depth ≡ site.depth
    pub around : place.around ≡ around_of site.kind

  pub record HoldsInPlaces : Type 0 where
    pub strip : (place : Place) (s : StatementTree) → Holds place s → Holds place (bare s)
    pub fill : (place : Place) (s : StatementTree) → Holds place (bare s) → Holds place s
    pub moved : (place : Place) (line other : ℕ) (when : Expression) → Holds place (branch line when no_statement no_statement) → Holds place (branch other when no_statement no_statement)
    pub moved_inside : (place : Place) (line other : ℕ) (when : Expression) → Holds place (tasklet_branch line when no_statement no_statement) → Holds place (tasklet_branch other when no_statement no_statement)
    pub said : (names : Names) (site : Site) (place : Place) (s : StatementTree) → IsAt names site place → IsOfLine s → Fits site.kind (statement_head s) → Passes names site (statement_head s) → Holds place s
    pub argument : (names : Names) (site : Site) (place : Place) (line : ℕ) (name : Name) (bits : ℕ) (extents : Expressions) → AreExtents extents → place.around ≡ signature → place.depth ≡ 0 →
        Passes names site (statement_head (argument_array line name bits extents)) → Holds place (argument_array line name bits extents)
    pub reduced : (names : Names) (site : Site) (place : Place) (line : ℕ) (lambda : LambdaTree) (from to : Name) (axis identity : Option ℤ) → IsAt names site place →
        Fits site.kind (reduce_head lambda from to axis identity) → Passes names site (reduce_head lambda from to axis identity) → Holds place (reduce line (lambda_or_last (kind_in lambda)) from to axis identity)
    pub decorated : (names : Names) (site : Site) (place : Place) (from : Name) (size : ℤ) → IsAt names site place → Fits site.kind (consume_decorator from size) → Passes names site (consume_decorator from size) →
        (line : ℕ) (name element : Name) (worker : Option Name) → Holds place (consume_scope line from size name element worker no_statement)
    pub put_in : (names : Names) (site : Site) (place : Place) (line : ℕ) (connector : Name) (memlet : MemletTree) → IsAt names site place → Fits site.kind (input_head connector memlet) →
        Passes names site (input_head connector memlet) → Holds place (input line connector (memlet_of memlet))
    pub put_out : (names : Names) (site : Site) (place : Place) (line : ℕ) (connector : Name) (memlet : MemletTree) → IsAt names site place → Fits site.kind (output_head connector memlet) →
        Passes names site (output_head connector memlet) → Holds place (output line connector (memlet_of memlet))
    pub other : (names : Names) (site : Site) (place : Place) (line : ℕ) (when : Expression) → IsIf site.kind → IsAt names site place → Fits site.kind (elif_head when) → Passes names site (elif_head when) →
        Holds place (branch_with site.kind (record { line = line; when = when; statements = [] }) no_statement)

  abbrev pub AwaitsWell : Awaited → Place → Type 0
  AwaitsWell nothing place = ⊤
  AwaitsWell block place = ⊤
  AwaitsWell (function_def line) place = ⊤
  AwaitsWell (consume_def line from size) place = (line : ℕ) (name element : Name) (worker : Option Name) → Holds place (consume_scope line from size name element worker no_statement)

  -- it holds of all that was read
  pub record HoldsSoFar (context : Context) : Type 0 where
    pub blocks : AreGoodBlocks (reverse context.functions) context.arguments context.block context.outer
    pub agrees : Agrees context.names.containers (now (reverse context.functions) context.arguments context.block context.outer).containers
    pub outside : AgreeOutside (reverse context.functions) context.arguments context.names.containers context.block context.outer
    pub programs : SignaturesAgree context.names.meanings (reverse context.functions)
    pub arguments : AllFrom (in_signature (reverse context.functions)) context.arguments
    pub functions : EveryFunction Holds (reverse context.functions)
    pub counted : length context.parameters ≡ containers_in_all (block_listed context.arguments)
    pub awaits : AwaitsWell context.awaited (now (reverse context.functions) context.arguments context.block context.outer)
