-- Graphs of one program, and of several.
use Rattle.std.proofs.Common.{◌≡◌, ◌∙◌, ℕ, ◌+◌, List, [], ◌∷◌, ◌++◌, length, map, reverse, refl, ap, sym, subst, arith, bytes_eq}
use Rattle.std.specs.List.{AllByRecursion, IsDistinct}
use Rattle.sd_lex.specs.PlainTree.{FunctionTree}
use Rattle.sd_lex.specs.TreeFold.{function_of}
use Rattle.sd_lex.specs.declared.syntax.program.Function.{Function}
use Rattle.sd_graph.proofs.TreeLemmas.{map_grown}
use Rattle.sd_graph.specs.PlainTree.{no_item, GraphTree, graph}
use Rattle.sd_graph.specs.TreeFold.{PlainState, states_listed}
use Rattle.sd_program.specs.Bounds.{EachBound}
use Rattle.sd_program.specs.Every.{EveryOf}
use Rattle.sd_program.specs.Declared.{containers_in_all}
use Rattle.sd_program.specs.IsAffine.{IsAffine}
use Rattle.sd_program.specs.Names.{Name, Named}
use Rattle.sd_program.specs.Small.{IsSmall}
use Rattle.sd_program.specs.DeclaredNames.{container_names}
use Rattle.sd_task.specs.containers.Declarations.{Containers, containers_of_function, variable_names_all}
use Rattle.sd_elab.specs.items.Graphs.{no_graph, graph_named}
use Rattle.sd_elab.specs.states.BuildingOf.{nothing_made}
use Rattle.sd_elab.specs.elab.Elaborable.{IsElaborable, AreElaborable}
use Rattle.std.proofs.lemmas.List.{reverse-append, reverse-reverse}
use Rattle.sd_source.specs.nodes.Names.{noted}
use Rattle.sd_lex.specs.PlainTree.{Block}
use Rattle.sd_elab.specs.needs.Needed.{called_in, needed_from}
use Rattle.sd_elab.proofs.needs_lemmas.NeededLemmas.{among_new, each_among, needed_holds, made_of, needed_suffice}
use Rattle.sd_elab.proofs.elab_lemmas.AgreeLemmas.{same_graph}
use Rattle.sd_elab.specs.elab.Elaboration.{start_of, states_of_function, function_graph, graphs_with, latest}
use Rattle.sd_elab.specs.states.Standing.{Standing, behind_all, state_behind}
use Rattle.sd_elab.specs.states.States.{chained_all}
use Rattle.sd_elab.specs.states.Threaded.{Threaded, closed, threaded_all}
use Rattle.sd_elab.proofs.states_lemmas.StandingLemmas.{all_behind_block}
use Rattle.sd_elab.proofs.states_lemmas.ThreadedLemmas.{all_chained}

-- the graphs of programs and one more
pub graphs_grown : (symbols : List Name) (before : Named GraphTree) (functions : List FunctionTree) (last : FunctionTree) →
    graphs_with symbols before (functions ++ last ∷ []) ≡ (last.name, function_graph symbols (graph_named (graphs_with symbols before functions)) last) ∷ graphs_with symbols before functions
graphs_grown symbols before [] last = refl
graphs_grown symbols before (function ∷ functions) last =
    graphs_grown symbols ((function.name, function_graph symbols (graph_named before) function) ∷ before) functions last

-- one program more, the last of those that are left
pub graphs_more : (symbols : List Name) (before after : Named GraphTree) (all rest : List FunctionTree) (function : FunctionTree) (name : Name) (tree : GraphTree) →
    all ≡ rest ++ function ∷ [] → name ≡ function.name → tree ≡ function_graph symbols (graph_named before) function → after ≡ (name, tree) ∷ before →
    graphs_with symbols after (reverse rest) ≡ graphs_with symbols before (reverse all)
graphs_more symbols before after all rest function name tree more named made pushed =
    ap (λ (graphs : Named GraphTree). graphs_with symbols graphs (reverse rest))
    (pushed
    ∙ ap (λ (n : Name). (n, tree) ∷ before) named
    ∙ ap (λ (g : GraphTree). (function.name, g) ∷ before) made)
    ∙ ap (graphs_with symbols before) (sym (ap reverse more ∙ reverse-append rest (function ∷ [])))

-- what is made of a block that begins with nothing, and is closed without an exit
pub states_made : (symbols : List Name) (graphs : Name → GraphTree) (function : FunctionTree) (at : Standing) (begun made whole : Threaded) →
    begun ≡ nothing_made → at ≡ start_of symbols function → made ≡ threaded_all graphs function.body at begun → whole ≡ closed made [] → whole.finished ≡ states_of_function symbols graphs function
states_made symbols graphs function at begun made whole nothing start threads closes =
    ap (λ (t : Threaded). t.finished) closes
    ∙ ap (λ (t : Threaded). (closed t []).finished) threads
    ∙ ap (λ (t : Threaded). (closed (threaded_all graphs function.body at t) []).finished) nothing
    ∙ all_chained graphs function.body at nothing_made []
    ∙ ap (λ (t : Standing). chained_all graphs function.body t no_item []) start

-- the containers of the program stay
pub containers_kept : (symbols : List Name) (function : FunctionTree) (at made whole : Standing) →
    at ≡ start_of symbols function → made ≡ behind_all function.body at → whole ≡ state_behind made → whole.table.all ≡ containers_of_function symbols function
containers_kept symbols function at made whole start threads closes =
    ap (λ (t : Standing). t.table.all) closes
    ∙ ap (λ (t : Standing). t.table.all) threads
    ∙ all_behind_block function.body at.container at.table
    ∙ ap (λ (t : Standing). t.table.all) start

-- each of several programs
pub elaborable_all : (functions : List FunctionTree) → AllByRecursion (EveryOf (EachBound IsAffine)) functions → AllByRecursion (EveryOf (EachBound IsSmall)) functions → AllByRecursion (λ function. IsDistinct bytes_eq (container_names function)) functions → AreElaborable functions
elaborable_all [] affine small different = tt
elaborable_all (function ∷ functions) affine small different =
    (record { affine = affine.0; small = small.0; different = different.0 }, elaborable_all functions affine.1 small.1 different.1)

-- the last program, and those before it
all_before : (rest : List FunctionTree) (last : FunctionTree) → AreElaborable (rest ++ last ∷ []) → AreElaborable rest
all_before [] last all = tt
all_before (function ∷ rest) last all = (all.0, all_before rest last all.1)

last_of_all : (rest : List FunctionTree) (last : FunctionTree) → AreElaborable (rest ++ last ∷ []) → IsElaborable last
last_of_all [] last all = all.0
last_of_all (function ∷ rest) last all = last_of_all rest last all.1

pub elaborable_before : (functions rest : List FunctionTree) (last : FunctionTree) → functions ≡ rest ++ last ∷ [] → AreElaborable functions → AreElaborable rest
elaborable_before functions rest last split all = all_before rest last (subst AreElaborable split all)

pub elaborable_last : (functions rest : List FunctionTree) (last : FunctionTree) → functions ≡ rest ++ last ∷ [] → AreElaborable functions → IsElaborable last
elaborable_last functions rest last split all = last_of_all rest last (subst AreElaborable split all)

all_with : (rest : List FunctionTree) (last : FunctionTree) → AreElaborable rest → IsElaborable last → AreElaborable (rest ++ last ∷ [])
all_with [] last all holds = (holds, tt)
all_with (function ∷ rest) last all holds = (all.0, all_with rest last all.1 holds)

all_reversed : (functions : List FunctionTree) → AreElaborable functions → AreElaborable (reverse functions)
all_reversed [] all = tt
all_reversed (function ∷ rest) all = subst AreElaborable (sym (reverse-append (function ∷ []) rest)) (all_with (reverse rest) function (all_reversed rest all.1) all.0)

-- those before it that are needed
pub elaborable_needed : (needed above : List FunctionTree) (names : List Name) → needed ≡ needed_from names (reverse above) → AreElaborable above → AreElaborable needed
elaborable_needed needed above names chosen all = subst AreElaborable (sym chosen) (needed_holds IsElaborable names (reverse above) (all_reversed above all))

graph_of_last : (symbols : List Name) (functions above : List Function) (last : Function) → functions ≡ above ++ last ∷ [] →
    latest (graphs_with symbols [] (map function_of functions)) ≡ function_graph symbols (graph_named (graphs_with symbols [] (map function_of above))) (function_of last)
graph_of_last symbols functions above last split =
    ap (λ (all : List FunctionTree). latest (graphs_with symbols [] all)) (ap (map function_of) split ∙ map_grown function_of above last)
    ∙ ap latest (graphs_grown symbols [] (map function_of above) (function_of last))

-- the graphs of programs, the latest first
graphs_of_latest : (symbols : List Name) (functions : List FunctionTree) → graphs_with symbols [] (reverse functions) ≡ made_of GraphTree no_graph (function_graph symbols) functions
graphs_of_latest symbols [] = refl
graphs_of_latest symbols (function ∷ before) =
    ap (graphs_with symbols []) (reverse-append (function ∷ []) before)
    ∙ graphs_grown symbols [] (reverse before) function
    ∙ ap (λ (graphs : Named GraphTree). (function.name, function_graph symbols (graph_named graphs) function) ∷ graphs) (graphs_of_latest symbols before)

-- a program that calls those before it has the same graph where only those are there that it needs
graph_of_needed : (symbols : List Name) (above : List FunctionTree) (last : FunctionTree) →
    function_graph symbols (graph_named (graphs_with symbols [] (reverse (needed_from (noted [] (called_in last.body)) (reverse above))))) last ≡ function_graph symbols (graph_named (graphs_with symbols [] above)) last
graph_of_needed symbols above last =
    let called : List Name = called_in last.body in
    let needed : List FunctionTree = needed_from (noted [] called) (reverse above) in
    let made : List FunctionTree → Named GraphTree = made_of GraphTree no_graph (function_graph symbols) in
    ap (λ (graphs : Named GraphTree). function_graph symbols (graph_named graphs) last) (graphs_of_latest symbols needed)
    ∙ same_graph (graph_named (made needed)) (graph_named (made (reverse above))) symbols last
    (each_among (λ name. graph_named (made needed) name ≡ graph_named (made (reverse above)) name) called
    (λ name call.
    needed_suffice GraphTree no_graph (function_graph symbols) (λ first second function. same_graph first second symbols function) (noted [] called) (reverse above) name (among_new [] called name call)))
    ∙ ap (λ (graphs : Named GraphTree). function_graph symbols (graph_named graphs) last) (sym (graphs_of_latest symbols (reverse above)))
    ∙ ap (λ (functions : List FunctionTree). function_graph symbols (graph_named (graphs_with symbols [] functions)) last) (reverse-reverse above)

pub graph_of_source : (symbols first second : List Name) (functions above : List Function) (last : Function) (needed : List FunctionTree) (body : Block) (graphs : Named GraphTree) (tree : GraphTree) →
    first ≡ symbols → second ≡ symbols → functions ≡ above ++ last ∷ [] → body ≡ (function_of last).body →
    needed ≡ needed_from (noted [] (called_in body)) (reverse (map function_of above)) → graphs ≡ graphs_with first [] (reverse needed) →
    tree ≡ function_graph second (graph_named graphs) (function_of last) → tree ≡ latest (graphs_with symbols [] (map function_of functions))
graph_of_source symbols first second functions above last needed body graphs tree same same_too split last_body chosen made is =
    is
    ∙ ap (λ (names : List Name). function_graph names (graph_named graphs) (function_of last)) same_too
    ∙ ap (λ (g : Named GraphTree). function_graph symbols (graph_named g) (function_of last)) made
    ∙ ap (λ (names : List Name). function_graph symbols (graph_named (graphs_with names [] (reverse needed))) (function_of last)) same
    ∙ ap (λ (chosen : List FunctionTree). function_graph symbols (graph_named (graphs_with symbols [] (reverse chosen))) (function_of last)) chosen
    ∙ ap (λ (block : Block). function_graph symbols (graph_named (graphs_with symbols [] (reverse (needed_from (noted [] (called_in block)) (reverse (map function_of above)))))) (function_of last)) last_body
    ∙ graph_of_needed symbols (map function_of above) (function_of last)
    ∙ sym (graph_of_last symbols functions above last split)

pub graph_of_none : (symbols : List Name) (functions : List Function) → length functions ≡ 0 → latest (graphs_with symbols [] (map function_of functions)) ≡ no_graph
graph_of_none symbols [] none = refl
graph_of_none symbols (function ∷ functions) none = absurd (omega arith)

-- a graph is that of a program where its parts are
pub graph_made_of : (symbols : List Name) (graphs : Name → GraphTree) (function : FunctionTree) (name : Name) (containers : Containers) (arguments : ℕ) (variables : List Name) (count : ℕ) (states : List PlainState) →
    name ≡ function.name → containers ≡ containers_of_function symbols function → arguments ≡ containers_in_all function.arguments → variables ≡ variable_names_all function.body symbols → count ≡ length symbols →
    states ≡ states_of_function symbols graphs function → graph name containers arguments variables count (states_listed states) ≡ function_graph symbols graphs function
graph_made_of symbols graphs function name containers arguments variables count states named held counted listed known made =
    λ i. graph (named i) (held i) (counted i) (listed i) (known i) (states_listed (made i))
