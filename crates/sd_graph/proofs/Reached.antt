-- Containers that are in force are reached where they are, inside scopes and nested graphs too.
use Rattle.std.proofs.Common.{◌≡◌, ◌⊎◌, inl, inr, ℕ, zero, suc, ◌+◌, ◌<◌, ℤ, pos, List, [], ◌∷◌, ◌++◌, length, replicate, Option, Some, None, Bool, true, false, ◌||◌, if◌then◌else◌, slice_get, refl, ap, sym, ◌∙◌, subst, arith}
use Rattle.std.specs.List.{AllByRecursion}
use Rattle.std.proofs.lemmas.List.{length-replicate}
use Rattle.sd_range.specs.Points.{product}
use Rattle.sd_range.specs.Subset.{inside}
use Rattle.sd_range.specs.declared.subset.Subset.{Subset}
use Rattle.sd_work.specs.Memory.{Contents, array, stream, Memory, Memories, absent}
use Rattle.sd_work.specs.Change.{changed_at}
use Rattle.sd_work.specs.Exit.{Values}
use Rattle.sd_graph.specs.RowOrder.{row_number}
use Rattle.sd_graph.specs.ContainerParts.{Containers, container_at, extents_of, is_stream, is_argument, is_of_run, opening_contents}
use Rattle.sd_graph.specs.Wiring.{has_number}
use Rattle.sd_graph.specs.Context.{Reach, Context, found, index_at, own_reach, raised, view, memory_from, private_memory, entered}
use Rattle.sd_graph.specs.Unfold.{in_graph, reach_through, reach_inside, run_memory, element_memory, one_element}
use Rattle.sd_graph.specs.There.{IsElementThere, IsStreamThere}
use Rattle.sd_graph.specs.InForce.{is_private, IsInForce, IsElement, AreLinksInForce}
use Rattle.sd_graph.specs.InPlace.{AreToArrays, ArgumentsComeFirst}
use Rattle.sd_graph.specs.GraphMemory.{IsContentsOf, AreContentsOf}
use Rattle.sd_graph.specs.declared.container.Container.{Container}
use Rattle.sd_graph.specs.declared.container.ContainerKind.{ContainerKind}
use Rattle.sd_graph.specs.declared.container.ContainerKind.TheVariants.{Argument, Transient, Private, Stream, PrivateStream}
use Rattle.sd_graph.specs.declared.link.Link.{Link}
use Rattle.sd_graph.specs.declared.place.Frame.{Frame}
use Rattle.sd_graph.proofs.RowNumbers.{row_number_below}
use Rattle.sd_graph.proofs.ItemTouches.{streams_are_no_arguments}

true_is_not_false : {A : Type 0} (b : Bool) → b ≡ true → b ≡ false → A
true_is_not_false true e h = cc
true_is_not_false false e h = cc

-- ---- what a memory has

-- a memory has contents for a container
pub record HasContents (memory : Memory) (containers : Containers) (number : ℕ) : Type 0 where
  pub contents : Contents
  pub held : slice_get memory number ≡ Some contents
  pub fits : IsContentsOf (container_at containers number) contents

opening_fits_by : (container : Container) (streams : Bool) → is_stream container.kind ≡ streams →
    IsContentsOf container (if streams then stream container.width [] else array container.width (replicate (product (extents_of container)) (pos 0)))
opening_fits_by container true e = (e, refl)
opening_fits_by container false e = (e, length-replicate (product (extents_of container)) (pos 0), refl)

pub opening_fits : (container : Container) → IsContentsOf container (opening_contents container)
opening_fits container = opening_fits_by container (is_stream container.kind) refl

chosen : {A : Type 0} (choice : Bool) (first second : A) → choice ≡ true → Some (if choice then first else second) ≡ Some first
chosen true first second e = refl
chosen false first second e = cc

-- a memory that was made has what each container begins with that it has
begins : (has : ℕ → ContainerKind → Bool) (first at : ℕ) (containers : Containers) (number : ℕ) → number < length containers → at ≡ first + number →
    has at (container_at containers number).kind ≡ true → slice_get (memory_from has first containers) number ≡ Some (opening_contents (container_at containers number))
begins has first at [] number h same here = absurd (omega (arith, h))
begins has first at (entry ∷ entries) zero h same here =
    let this : at ≡ first = omega (arith, same) in
    chosen (has first entry.1.kind) (opening_contents entry.1) absent (subst (λ n. has n entry.1.kind ≡ true) this here)
begins has first at (entry ∷ entries) (suc number) h same here = begins has (suc first) at entries number (omega (arith, h)) (omega (arith, same)) here

made_has : (has : ℕ → ContainerKind → Bool) (containers : Containers) (number : ℕ) → number < length containers → has number (container_at containers number).kind ≡ true →
    HasContents (memory_from has 0 containers) containers number
made_has has containers number h here = record {
  contents = opening_contents (container_at containers number);
  held = begins has 0 number containers number h (omega arith) here;
  fits = opening_fits (container_at containers number);
}

-- the contents of another container are left alone
elsewhere : {A : Type 0} (number other : ℕ) (change : A → A) (members : List A) → (number ≡ other → ⊥) → slice_get (changed_at number change members) other ≡ slice_get members other
elsewhere number other change [] two = refl
elsewhere zero zero change (member ∷ members) two = absurd (two refl)
elsewhere zero (suc other) change (member ∷ members) two = refl
elsewhere (suc number) zero change (member ∷ members) two = refl
elsewhere (suc number) (suc other) change (member ∷ members) two = elsewhere number other change members (λ e. two (ap suc e))

here_changed : {A : Type 0} (number : ℕ) (change : A → A) (members : List A) (member : A) → slice_get members number ≡ Some member → slice_get (changed_at number change members) number ≡ Some (change member)
here_changed number change [] member e = cc
here_changed zero change (first ∷ members) member e = let same : first ≡ member = cc in ap (λ one. Some (change one)) same
here_changed (suc number) change (first ∷ members) member e = here_changed number change members member e

-- ---- where a container is reached

-- each element that is found this way is there
abbrev pub FindsElements : Memories → Reach → Type 0
FindsElements memories reach =
    (index : List ℤ) (element : ℕ) → reach.find index ≡ Some element → IsElementThere memories (record { level = reach.level; container = reach.container; element = element })

below_if : (is_inside : Bool) (row element bound : ℕ) → (is_inside ≡ true → row < bound) → (if is_inside then Some row else None) ≡ Some element → element < bound
below_if true row element bound below e = let same : row ≡ element = cc in omega (arith, below refl, same)
below_if false row element bound below e = cc

found_below : (container : Container) (index : List ℤ) (element : ℕ) → found container index ≡ Some element → element < product (extents_of container)
found_below container index element e =
    below_if (inside (extents_of container) index) (row_number (extents_of container) index) element (product (extents_of container)) (row_number_below (extents_of container) index) e

own_finds_by : (contents : Contents) (memory : Memory) (memories : Memories) (containers : Containers) (number : ℕ) → slice_get memory number ≡ Some contents →
    IsContentsOf (container_at containers number) contents → is_stream (container_at containers number).kind ≡ false → FindsElements (memory ∷ memories) (own_reach containers number)
own_finds_by (array width elements) memory memories containers number held fits kind = λ index element e. record {
  width = width;
  elements = elements;
  held = record { memory = memory; on_stack = refl; in_memory = held };
  within = omega (arith, fits.1, found_below (container_at containers number) index element e);
}
own_finds_by (stream width values) memory memories containers number held fits kind = true_is_not_false (is_stream (container_at containers number).kind) fits.0 kind

own_finds : (memory : Memory) (memories : Memories) (containers : Containers) (number : ℕ) → HasContents memory containers number → is_stream (container_at containers number).kind ≡ false →
    FindsElements (memory ∷ memories) (own_reach containers number)
own_finds memory memories containers number has kind = own_finds_by has.contents memory memories containers number has.held has.fits kind

own_stream_by : (contents : Contents) (memory : Memory) (memories : Memories) (containers : Containers) (number : ℕ) → slice_get memory number ≡ Some contents →
    IsContentsOf (container_at containers number) contents → is_stream (container_at containers number).kind ≡ true → IsStreamThere (memory ∷ memories) 0 number
own_stream_by (array width elements) memory memories containers number held fits kind = true_is_not_false (is_stream (container_at containers number).kind) kind fits.0
own_stream_by (stream width values) memory memories containers number held fits kind =
    record { width = width; values = values; held = record { memory = memory; on_stack = refl; in_memory = held } }

own_stream : (memory : Memory) (memories : Memories) (containers : Containers) (number : ℕ) → HasContents memory containers number → is_stream (container_at containers number).kind ≡ true →
    IsStreamThere (memory ∷ memories) 0 number
own_stream memory memories containers number has kind = own_stream_by has.contents memory memories containers number has.held has.fits kind

raised_finds : (memory : Memory) (memories : Memories) (reach : Reach) → FindsElements memories reach → FindsElements (memory ∷ memories) (raised reach)
raised_finds memory memories reach finds = λ index element e.
    let there : IsElementThere memories (record { level = reach.level; container = reach.container; element = element }) = finds index element e in
    record {
      width = there.width;
      elements = there.elements;
      held = record { memory = there.held.memory; on_stack = there.held.on_stack; in_memory = there.held.in_memory };
      within = there.within;
    }

raised_stream : (memory : Memory) (memories : Memories) (level container : ℕ) → IsStreamThere memories level container → IsStreamThere (memory ∷ memories) (suc level) container
raised_stream memory memories level container there =
    record { width = there.width; values = there.values; held = record { memory = there.held.memory; on_stack = there.held.on_stack; in_memory = there.held.in_memory } }

given_if : (test : Bool) (found : Option ℕ) (element : ℕ) → (if test then found else None) ≡ Some element → found ≡ Some element
given_if true found element e = e
given_if false found element e = cc

view_finds : (container : Container) (subset : Subset) (values : Values) (memories : Memories) (outer : Reach) → FindsElements memories outer → FindsElements memories (view container subset values outer)
view_finds container subset values memories outer finds = λ index element e.
    finds (index_at subset.dims values index) element (given_if (inside (extents_of container) index) (outer.find (index_at subset.dims values index)) element e)

-- ---- each container in force

-- Each container that is in force is reached where it is: an array finds elements that are there, a stream is there.
pub record IsReached (memories : Memories) (private : List ℕ) (context : Context) : Type 0 where
  pub arrays : (number : ℕ) → IsInForce context.containers private number → is_stream (container_at context.containers number).kind ≡ false → FindsElements memories (context.reach number)
  pub streams : (number : ℕ) → IsInForce context.containers private number → is_stream (container_at context.containers number).kind ≡ true →
      IsStreamThere memories (context.reach number).level (context.reach number).container

-- ---- inside a scope

either_finds : (own : Bool) (memory : Memory) (memories : Memories) (mine reach : Reach) → (own ≡ true → FindsElements (memory ∷ memories) mine) → (own ≡ false → FindsElements memories reach) →
    FindsElements (memory ∷ memories) (if own then mine else raised reach)
either_finds true memory memories mine reach first second = first refl
either_finds false memory memories mine reach first second = raised_finds memory memories reach (second refl)

either_stream : (own : Bool) (memory : Memory) (memories : Memories) (number : ℕ) (mine reach : Reach) → (own ≡ true → IsStreamThere (memory ∷ memories) mine.level mine.container) →
    (own ≡ false → IsStreamThere memories reach.level reach.container) →
    IsStreamThere (memory ∷ memories) (if own then mine else raised reach).level (if own then mine else raised reach).container
either_stream true memory memories number mine reach first second = first refl
either_stream false memory memories number mine reach first second = raised_stream memory memories reach.level reach.container (second refl)

or_second : (first second : Bool) → first ≡ false → (first || second) ≡ true → second ≡ true
or_second true second none one = cc
or_second false second none one = one

or_none : (first second : Bool) → (first || second) ≡ false → (first ≡ false) × (second ≡ false)
or_none false second h = (refl, h)
or_none true second h = cc

-- one that is in neither of two lists is in the second where it is in both together
in_second : (own private : List ℕ) (number : ℕ) → has_number own number ≡ false → has_number (own ++ private) number ≡ true → has_number private number ≡ true
in_second [] private number none one = one
in_second (first ∷ own) private number none one =
    let neither = or_none _ (has_number own number) none in
    in_second own private number neither.1 (or_second _ (has_number (own ++ private) number) neither.0 one)

in_force_outside : (containers : Containers) (own private : List ℕ) (number : ℕ) → IsInForce containers (own ++ private) number → has_number own number ≡ false → IsInForce containers private number
in_force_outside containers own private number (here, inl whole) none = (here, inl whole)
in_force_outside containers own private number (here, inr one) none = (here, inr (in_second own private number none one))

-- a scope whose memory has its own containers
pub entered_reached : (memory : Memory) (memories : Memories) (own private : List ℕ) (context : Context) (values : Values) (shown : List (List ℕ × ℤ)) →
    ((number : ℕ) → number < length context.containers → has_number own number ≡ true → HasContents memory context.containers number) →
    IsReached memories private context → IsReached (memory ∷ memories) (own ++ private) (entered context own values shown)
entered_reached memory memories own private context values shown has reached = record {
  arrays = λ number force kind. either_finds (has_number own number) memory memories (own_reach context.containers number) (context.reach number)
      (λ mine. own_finds memory memories context.containers number (has number force.0 mine) kind)
      (λ none. reached.arrays number (in_force_outside context.containers own private number force none) kind);
  streams = λ number force kind. either_stream (has_number own number) memory memories number (own_reach context.containers number) (context.reach number)
      (λ mine. own_stream memory memories context.containers number (has number force.0 mine) kind)
      (λ none. reached.streams number (in_force_outside context.containers own private number force none) kind);
}

pub private_has : (containers : Containers) (own : List ℕ) (number : ℕ) → number < length containers → has_number own number ≡ true → HasContents (private_memory containers own) containers number
private_has containers own number h mine = made_has (λ number kind. has_number own number) containers number h mine

-- ---- the memory of an element

private_is_array : (kind : ContainerKind) → kind ≡ Private → is_stream kind ≡ false
private_is_array kind e = subst (λ one. is_stream one ≡ false) (sym e) refl

single_element : (extents : List ℕ) → extents ≡ 1 ∷ [] → 1 ≡ product extents
single_element extents e = subst (λ one. 1 ≡ product one) (sym e) refl

element_fits : (container : Container) (value : ℤ) → container.kind ≡ Private → extents_of container ≡ 1 ∷ [] → IsContentsOf container (one_element container.width value)
element_fits container value kind extents = (private_is_array container.kind kind, single_element (extents_of container) extents, refl)

same_or_not : (number other : ℕ) → (number ≡ other) ⊎ (number ≡ other → ⊥)
same_or_not zero zero = inl refl
same_or_not zero (suc other) = inr (λ e. absurd (omega (arith, e)))
same_or_not (suc number) zero = inr (λ e. absurd (omega (arith, e)))
same_or_not (suc number) (suc other) = elim (same_or_not number other) [
  | inl same ↦ inl (ap suc same)
  | inr two ↦ inr (λ e. two (omega (arith, e)))
]

pub element_has : (context : Context) (element : ℕ) (private : List ℕ) (value : ℤ) → IsElement context.containers element →
    (number : ℕ) → number < length context.containers → has_number (element ∷ private) number ≡ true → HasContents (element_memory context element private value) context.containers number
element_has context element private value one number h mine = elim (same_or_not element number) [
  | inl same ↦ subst (λ n. HasContents (element_memory context element private value) context.containers n) same (record {
    contents = one_element (container_at context.containers element).width value;
    held = here_changed element (λ old. one_element (container_at context.containers element).width value) (private_memory context.containers (element ∷ private)) (private_has context.containers (element ∷ private) number h mine).contents
        (subst (λ n. slice_get (private_memory context.containers (element ∷ private)) n ≡ Some (private_has context.containers (element ∷ private) number h mine).contents) (sym same) (private_has context.containers (element ∷ private) number h mine).held);
    fits = element_fits (container_at context.containers element) value one.0 one.1;
  })
  | inr two ↦ record {
    contents = (private_has context.containers (element ∷ private) number h mine).contents;
    held = elsewhere element number (λ old. one_element (container_at context.containers element).width value) (private_memory context.containers (element ∷ private)) two ∙ (private_has context.containers (element ∷ private) number h mine).held;
    fits = (private_has context.containers (element ∷ private) number h mine).fits;
  }
]

-- ---- a run of a whole graph

memory_has_by : (entry : List ℕ × Container) (entries : Containers) (contents : Contents) (memory : Memory) → (is_private entry.1.kind ≡ true) ⊎ IsContentsOf entry.1 contents → is_private entry.1.kind ≡ false →
    HasContents (contents ∷ memory) (entry ∷ entries) 0
memory_has_by entry entries contents memory (inl private) whole = true_is_not_false (is_private entry.1.kind) private whole
memory_has_by entry entries contents memory (inr fits) whole = record { contents = contents; held = refl; fits = fits }

memory_has : (containers : Containers) (memory : Memory) (number : ℕ) → AreContentsOf containers memory → number < length containers → is_private (container_at containers number).kind ≡ false →
    HasContents memory containers number
memory_has [] memory number of h whole = absurd (omega (arith, h))
memory_has (entry ∷ entries) [] number of h whole = elim of [ ]
memory_has (entry ∷ entries) (contents ∷ memory) zero of h whole = memory_has_by entry entries contents memory of.0 whole
memory_has (entry ∷ entries) (contents ∷ memory) (suc number) of h whole =
    let rest : HasContents memory entries number = memory_has entries memory number of.1 (omega (arith, h)) whole in
    record { contents = rest.contents; held = rest.held; fits = rest.fits }

-- outside of scopes what is in force is in force in the whole graph
is_of_whole : (containers : Containers) (number : ℕ) → IsInForce containers [] number → is_private (container_at containers number).kind ≡ false
is_of_whole containers number (here, inl whole) = whole
is_of_whole containers number (here, inr one) = true_is_not_false false one refl

pub run_reached : (containers : Containers) (names : List (List ℕ)) (loops : List ℕ) (around : List Frame) (values : Values) (memory : Memory) → AreContentsOf containers memory →
    IsReached (memory ∷ []) [] (in_graph containers names loops (own_reach containers) around values)
run_reached containers names loops around values memory of = record {
  arrays = λ number force kind. own_finds memory [] containers number (memory_has containers memory number of force.0 (is_of_whole containers number force)) kind;
  streams = λ number force kind. own_stream memory [] containers number (memory_has containers memory number of force.0 (is_of_whole containers number force)) kind;
}

-- ---- a run of a nested graph

of_run : (kind : ContainerKind) → is_argument kind ≡ false → is_private kind ≡ false → is_of_run kind ≡ true
of_run Argument e h = cc
of_run Transient e h = refl
of_run Private e h = cc
of_run Stream e h = refl
of_run PrivateStream e h = cc

run_has : (containers : Containers) (number : ℕ) → IsInForce containers [] number → is_argument (container_at containers number).kind ≡ false → HasContents (run_memory containers) containers number
run_has containers number force own =
    made_has (λ number kind. is_of_run kind) containers number force.0 (of_run (container_at containers number).kind own (is_of_whole containers number force))

-- an argument's number is one of a link
is_linked : (arguments : ℕ) (containers : Containers) (number : ℕ) → ArgumentsComeFirst arguments containers → number < length containers → is_argument (container_at containers number).kind ≡ true → number < arguments
is_linked arguments [] number first h argument = absurd (omega (arith, h))
is_linked zero (entry ∷ entries) zero first h argument = true_is_not_false (is_argument entry.1.kind) argument first.0
is_linked zero (entry ∷ entries) (suc number) first h argument =
    let never : number < 0 = is_linked zero entries number first.1 (omega (arith, h)) argument in absurd (omega (arith, never))
is_linked (suc arguments) (entry ∷ entries) zero first h argument = omega arith
is_linked (suc arguments) (entry ∷ entries) (suc number) first h argument =
    let rest : number < arguments = is_linked arguments entries number first.1 (omega (arith, h)) argument in omega (arith, rest)

-- each link is to an array that finds elements that are there
pub links_find : (memories : Memories) (private : List ℕ) (context : Context) (links : List Link) → IsReached memories private context → AreLinksInForce context.containers private links → AreToArrays context.containers links →
    AllByRecursion (λ link. FindsElements memories (context.reach link.memlet.container)) links
links_find memories private context [] reached force arrays = tt
links_find memories private context (link ∷ links) reached force arrays =
    (reached.arrays link.memlet.container force.0 arrays.0, links_find memories private context links reached force.1 arrays.1)

through_finds : (memory : Memory) (memories : Memories) (context : Context) (inner : Containers) (number at : ℕ) (links : List Link) → at < length links →
    AllByRecursion (λ link. FindsElements memories (context.reach link.memlet.container)) links → FindsElements (memory ∷ memories) (reach_through context (slice_get links at) inner number)
through_finds memory memories context inner number at [] h all = absurd (omega (arith, h))
through_finds memory memories context inner number zero (link ∷ links) h all =
    raised_finds memory memories (view (container_at inner number) link.memlet.subset context.values (context.reach link.memlet.container))
    (view_finds (container_at inner number) link.memlet.subset context.values memories (context.reach link.memlet.container) all.0)
through_finds memory memories context inner number (suc at) (link ∷ links) h all = through_finds memory memories context inner number at links (omega (arith, h)) all.1

argument_or_own : (argument : Bool) (memories : Memories) (through own : Reach) → (argument ≡ true → FindsElements memories through) → (argument ≡ false → FindsElements memories own) →
    FindsElements memories (if argument then through else own)
argument_or_own true memories through own first second = first refl
argument_or_own false memories through own first second = second refl

own_if : (argument : Bool) (memories : Memories) (through own : Reach) → argument ≡ false → IsStreamThere memories own.level own.container →
    IsStreamThere memories (if argument then through else own).level (if argument then through else own).container
own_if true memories through own e there = cc
own_if false memories through own e there = there

pub nested_reached : (memories : Memories) (context : Context) (links : List Link) (arguments : ℕ) (inner : Containers) (names : List (List ℕ)) (loops : List ℕ) (around : List Frame) (values : Values) →
    AllByRecursion (λ link. FindsElements memories (context.reach link.memlet.container)) links → length links ≡ arguments → ArgumentsComeFirst arguments inner →
    IsReached (run_memory inner ∷ memories) [] (in_graph inner names loops (reach_inside context links inner) around values)
nested_reached memories context links arguments inner names loops around values finds counted first = record {
  arrays = λ number force kind. argument_or_own (is_argument (container_at inner number).kind) (run_memory inner ∷ memories) (reach_through context (slice_get links number) inner number) (own_reach inner number)
      (λ argument. let within : number < arguments = is_linked arguments inner number first force.0 argument in
      through_finds (run_memory inner) memories context inner number number links (omega (arith, within, counted)) finds)
      (λ own. own_finds (run_memory inner) memories inner number (run_has inner number force own) kind);
  streams = λ number force kind. own_if (is_argument (container_at inner number).kind) (run_memory inner ∷ memories) (reach_through context (slice_get links number) inner number) (own_reach inner number)
      (streams_are_no_arguments (container_at inner number).kind kind)
      (own_stream (run_memory inner) memories inner number (run_has inner number force (streams_are_no_arguments (container_at inner number).kind kind)) kind);
}
