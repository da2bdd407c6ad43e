-- What stands at the places of a graph, one behind the other.
use Rattle.std.proofs.Common.{◌≡◌, ◌∙◌, inl, inr, ℕ, suc, ◌<◌, ◌≤◌, List, [], ◌∷◌, ◌++◌, length, Bool, true, false, cond, bytes_eq, refl, ap, sym, subst, arith, append_assoc, append-nil, length-append}
use Rattle.std.specs.List.{AllByRecursion, filter}
use Rattle.sd_graph.specs.PlainTree.{KindTree, task, map_scope, consume_scope, nested_graph, reduction, copy, ItemTrees, no_item, and_item, StateTrees, no_state, and_state, GraphTree, graph, ExitTree}
use Rattle.sd_validity.specs.rules.Places.{Thing, whole, doing, Place, Scopes, no_scopes, in_map, in_consume, further, item_place, state_place, graph_place, places_in, item_places, state_places, places_of, all_places}
use Rattle.sd_validity.proofs.paths_lemmas.Found.{all_joined, all_so}
use Rattle.sd_validity.specs.things.Things.{things_in, item_things, state_things, graph_things}
use Rattle.sd_validity.specs.things.Behind.{AllBehind, things_at, StandsBehind}
use Rattle.sd_validity.proofs.things_lemmas.Paths.{same_next, at_least, longer, is_itself, is_other, shorter_is_other}
use Rattle.sd_validity.proofs.things_lemmas.Within.{IsUnder, IsInItem, IsInItems, kind_within, items_within, graph_within}

-- what stands at those of the places that are of the graph of this path
abbrev things_of : (path : List ℕ) → List Place → List Thing
things_of path places = things_at (filter (λ other. bytes_eq other.graph_path path) places)

one_joined : (same : Bool) (place : Place) (path : List ℕ) (first second : List Place) → things_of path (first ++ second) ≡ things_of path first ++ things_of path second →
    things_at (cond same (place ∷ filter (λ other. bytes_eq other.graph_path path) (first ++ second)) (filter (λ other. bytes_eq other.graph_path path) (first ++ second)))
    ≡ things_at (cond same (place ∷ filter (λ other. bytes_eq other.graph_path path) first) (filter (λ other. bytes_eq other.graph_path path) first)) ++ things_of path second
one_joined true place path first second e = ap (λ (things : List Thing). place.thing ∷ things) e
one_joined false place path first second e = e

things_joined : (path : List ℕ) (first second : List Place) → things_of path (first ++ second) ≡ things_of path first ++ things_of path second
things_joined path [] second = refl
things_joined path (place ∷ first) second = one_joined (bytes_eq place.graph_path path) place path first second (things_joined path first second)

one_own : (same : Bool) (place : Place) (path : List ℕ) (places : List Place) → same ≡ true →
    things_at (cond same (place ∷ filter (λ other. bytes_eq other.graph_path path) places) (filter (λ other. bytes_eq other.graph_path path) places)) ≡ place.thing ∷ things_of path places
one_own true place path places e = refl
one_own false place path places e = cc

own_first : (place : Place) (places : List Place) → things_of place.graph_path (place ∷ places) ≡ place.thing ∷ things_of place.graph_path places
own_first place places = one_own (bytes_eq place.graph_path place.graph_path) place place.graph_path places (is_itself place.graph_path)

one_other : (same : Bool) (place : Place) (path : List ℕ) (places : List Place) → same ≡ false →
    things_at (cond same (place ∷ filter (λ other. bytes_eq other.graph_path path) places) (filter (λ other. bytes_eq other.graph_path path) places)) ≡ things_of path places
one_other true place path places e = cc
one_other false place path places e = refl

-- none of the places is of the graph
none_of : (path : List ℕ) (places : List Place) → AllByRecursion (λ (other : Place). other.graph_path ≡ path → ⊥) places → things_of path places ≡ []
none_of path [] all = refl
none_of path (place ∷ places) all = one_other (bytes_eq place.graph_path path) place path places (is_other place.graph_path path all.0) ∙ none_of path places all.1

-- ---- what stands in items

-- the path of the graph is shorter than that of what is in an item of it
under_is_other : (path inner : List ℕ) → length path < length inner → (other : Place) → IsUnder inner other → other.graph_path ≡ path → ⊥
under_is_other path inner less other (rest, e) same = shorter_is_other other.graph_path path (omega (arith, less, at_least inner other.graph_path rest e)) same

item_longer : (around : Place) (scopes : Scopes) (number : ℕ) (kind : KindTree) → length around.graph_path ≤ length around.path → length around.graph_path < length (further around.path number)
item_longer around scopes number kind less = omega (arith, less, length-append around.path (number ∷ []))

mutual
  kind_things : (kind : KindTree) (place : Place) → length place.graph_path < length place.path → things_of place.graph_path (places_in kind place) ≡ things_in kind
  kind_things (task code ins outs) place less = refl
  kind_things (map_scope sequential params private body) place less = items_things body place (in_map place.scopes params private) 0 (omega (arith, less))
  kind_things (consume_scope stream element private body) place less = items_things body place (in_consume place.scopes element private) 0 (omega (arith, less))
  kind_things (nested_graph inner links) place less =
      none_of place.graph_path (places_of inner place.path (suc place.depth))
      (all_so (IsUnder place.path) (λ (other : Place). other.graph_path ≡ place.graph_path → ⊥) (under_is_other place.graph_path place.path less) (places_of inner place.path (suc place.depth))
      (graph_within inner place.path (suc place.depth)))
  kind_things (reduction resolution axis identity from to) place less = refl
  kind_things (copy from to) place less = refl

  items_things : (items : ItemTrees) (around : Place) (scopes : Scopes) (number : ℕ) → length around.graph_path ≤ length around.path →
      things_of around.graph_path (item_places items around scopes number) ≡ item_things items
  items_things no_item around scopes number less = refl
  items_things (and_item line kind items) around scopes number less =
      let place = item_place around scopes number kind in
      own_first place (places_in kind place ++ item_places items around scopes (suc number))
      ∙ ap (λ (things : List Thing). doing kind ∷ things)
      (things_joined around.graph_path (places_in kind place) (item_places items around scopes (suc number))
      ∙ ap (λ (things : List Thing). things ++ things_of around.graph_path (item_places items around scopes (suc number))) (kind_things kind place (item_longer around scopes number kind less))
      ∙ ap (λ (things : List Thing). things_in kind ++ things) (items_things items around scopes (suc number) less))

-- ---- what was before

-- of no graph whose path begins with this one
abbrev IsOff : (path : List ℕ) → Place → Type 0
IsOff path place = (rest : List ℕ) → place.graph_path ≡ path ++ rest → ⊥

-- and goes on with this number or a later one
abbrev IsAway : (path : List ℕ) → (number : ℕ) → Place → Type 0
IsAway path number place = (next : ℕ) (rest : List ℕ) → number ≤ next → place.graph_path ≡ path ++ next ∷ rest → ⊥

-- a place of a graph is not of one nested in an item of it
itself_off : (path inner : List ℕ) → length path < length inner → (other : Place) → other.graph_path ≡ path → IsOff inner other
itself_off path inner less other same rest e = absurd (omega (arith, less, at_least inner other.graph_path rest e, ap (λ (path : List ℕ). length path) same))

itself_away : (path about : List ℕ) (number : ℕ) → length path ≤ length about → (other : Place) → other.graph_path ≡ path → IsAway about number other
itself_away path about number less other same next rest least e = absurd (omega (arith, less, longer about other.graph_path next rest e, ap (λ (path : List ℕ). length path) same))

away_off : (path : List ℕ) (number : ℕ) (other : Place) → IsAway path number other → IsOff (further path number) other
away_off path number other away rest e = away number rest (omega arith) (e ∙ append_assoc path (number ∷ []) rest)

away_inside : (path : List ℕ) (number : ℕ) (other : Place) → IsAway path number other → IsAway (further path number) 0 other
away_inside path number other away next rest least e = away number (next ∷ rest) (omega arith) (e ∙ append_assoc path (number ∷ []) (next ∷ rest))

away_later : (path : List ℕ) (number : ℕ) (other : Place) → IsAway path number other → IsAway path (suc number) other
away_later path number other away next rest least e = away next rest (omega (arith, least)) e

in_item_away : (around : Place) (scopes : Scopes) (number : ℕ) (kind : KindTree) → length around.graph_path ≤ length around.path → (other : Place) →
    IsInItem (item_place around scopes number kind) other → IsAway around.path (suc number) other
in_item_away around scopes number kind less other (inl same) = itself_away around.graph_path around.path (suc number) less other same
in_item_away around scopes number kind less other (inr (rest, e)) = λ next others least e'.
    absurd (omega (arith, least, same_next around.path number next rest others (sym (append_assoc around.path (number ∷ []) rest) ∙ sym e ∙ e')))

in_state_away : (around : Place) (number : ℕ) (items : ItemTrees) (exits : List ExitTree) → length around.graph_path ≤ length around.path → (other : Place) →
    IsInItems (state_place around number items exits) 0 other → IsAway around.path (suc number) other
in_state_away around number items exits less other (inl same) = itself_away around.graph_path around.path (suc number) less other same
in_state_away around number items exits less other (inr (inner, (rest, (first, e)))) = λ next others least e'.
    absurd (omega (arith, least, same_next around.path number next (inner ∷ rest) others (sym (append_assoc around.path (number ∷ []) (inner ∷ rest)) ∙ sym e ∙ e')))

-- ---- one behind the other

behind_joined : (Holds : List Place → Place → Type 0) (before first second : List Place) → AllBehind Holds before first → AllBehind Holds (before ++ first) second → AllBehind Holds before (first ++ second)
behind_joined Holds before [] second all others = subst (λ (before : List Place). AllBehind Holds before second) (append-nil before) others
behind_joined Holds before (place ∷ first) second all others =
    (all.0, behind_joined Holds (before ++ place ∷ []) first second all.1 (subst (λ (before : List Place). AllBehind Holds before second) (sym (append_assoc before (place ∷ []) first)) others))

-- those before are of no graph with this path
abbrev AreOff : (path : List ℕ) → List Place → Type 0
AreOff path before = AllByRecursion (IsOff path) before

abbrev AreAway : (path : List ℕ) → (number : ℕ) → List Place → Type 0
AreAway path number before = AllByRecursion (IsAway path number) before

-- what stands in the graph: what stood before, this, and more
abbrev Goes : GraphTree → (path : List ℕ) → (before : List Place) → (things : List Thing) → Type 0
Goes tree path before things = graph_things tree ≡ things_of path before ++ things

-- behind one more place of the graph, and behind more of its places
goes_on : (tree : GraphTree) (before : List Place) (place : Place) (things : List Thing) → Goes tree place.graph_path before (place.thing ∷ things) → Goes tree place.graph_path (before ++ place ∷ []) things
goes_on tree before place things goes =
    goes ∙ sym (append_assoc (things_of place.graph_path before) (place.thing ∷ []) things)
    ∙ ap (λ (passed : List Thing). passed ++ things) (ap (λ (more : List Thing). things_of place.graph_path before ++ more) (sym (own_first place [])) ∙ sym (things_joined place.graph_path before (place ∷ [])))

goes_past : (tree : GraphTree) (path : List ℕ) (before places : List Place) (passed things : List Thing) → things_of path places ≡ passed → Goes tree path before (passed ++ things) → Goes tree path (before ++ places) things
goes_past tree path before places passed things same goes =
    goes ∙ sym (append_assoc (things_of path before) passed things)
    ∙ ap (λ (passed : List Thing). passed ++ things) (ap (λ (more : List Thing). things_of path before ++ more) (sym same) ∙ sym (things_joined path before places))

mutual
  kind_walked : (kind : KindTree) (place : Place) (before : List Place) (rest : List Thing) → length place.graph_path < length place.path → AreOff place.path before →
      Goes place.graph place.graph_path before (things_in kind ++ rest) → AllBehind StandsBehind before (places_in kind place)
  kind_walked (task code ins outs) place before rest less off goes = tt
  kind_walked (map_scope sequential params private body) place before rest less off goes =
      items_walked body place (in_map place.scopes params private) 0 before rest (omega (arith, less))
      (all_so (IsOff place.path) (IsAway place.path 0) (λ other off next rest least. off (next ∷ rest)) before off) goes
  kind_walked (consume_scope stream element private body) place before rest less off goes =
      items_walked body place (in_consume place.scopes element private) 0 before rest (omega (arith, less))
      (all_so (IsOff place.path) (IsAway place.path 0) (λ other off next rest least. off (next ∷ rest)) before off) goes
  kind_walked (nested_graph inner links) place before rest less off goes = graph_walked inner place.path (suc place.depth) before off
  kind_walked (reduction resolution axis identity from to) place before rest less off goes = tt
  kind_walked (copy from to) place before rest less off goes = tt

  items_walked : (items : ItemTrees) (around : Place) (scopes : Scopes) (number : ℕ) (before : List Place) (rest : List Thing) → length around.graph_path ≤ length around.path → AreAway around.path number before →
      Goes around.graph around.graph_path before (item_things items ++ rest) → AllBehind StandsBehind before (item_places items around scopes number)
  items_walked no_item around scopes number before rest less away goes = tt
  items_walked (and_item line kind items) around scopes number before rest less away goes =
      let place = item_place around scopes number kind in
      let passed : List Place = before ++ place ∷ [] in
      let inside : length place.graph_path < length place.path = item_longer around scopes number kind less in
      let next : Goes around.graph around.graph_path passed (things_in kind ++ (item_things items ++ rest)) =
      goes_on around.graph before place (things_in kind ++ (item_things items ++ rest))
      (goes ∙ ap (λ (things : List Thing). things_of around.graph_path before ++ doing kind ∷ things) (append_assoc (things_in kind) (item_things items) rest)) in
      let off : AreOff place.path passed =
      all_joined (IsOff place.path) before (place ∷ []) (all_so (IsAway around.path number) (IsOff place.path) (away_off around.path number) before away)
      (itself_off around.graph_path place.path inside place refl, tt) in
      let later : AreAway around.path (suc number) (passed ++ places_in kind place) =
      all_joined (IsAway around.path (suc number)) passed (places_in kind place)
      (all_joined (IsAway around.path (suc number)) before (place ∷ []) (all_so (IsAway around.path number) (IsAway around.path (suc number)) (away_later around.path number) before away)
      (itself_away around.graph_path around.path (suc number) less place refl, tt))
      (all_so (IsInItem place) (IsAway around.path (suc number)) (in_item_away around scopes number kind less) (places_in kind place) (kind_within kind place)) in (
        ((things_in kind ++ item_things items) ++ rest, goes),
        behind_joined StandsBehind passed (places_in kind place) (item_places items around scopes (suc number)) (kind_walked kind place passed (item_things items ++ rest) inside off next)
            (items_walked items around scopes (suc number) (passed ++ places_in kind place) rest less later
            (goes_past around.graph around.graph_path passed (places_in kind place) (things_in kind) (item_things items ++ rest) (kind_things kind place inside) next)),
      )

  states_walked : (states : StateTrees) (around : Place) (number : ℕ) (before : List Place) → length around.graph_path ≤ length around.path → AreAway around.path number before →
      Goes around.graph around.graph_path before (state_things states) → AllBehind StandsBehind before (state_places states around number)
  states_walked no_state around number before less away goes = tt
  states_walked (and_state items exits states) around number before less away goes =
      let place = state_place around number items exits in
      let passed : List Place = before ++ place ∷ [] in
      let here : List Place = item_places items place no_scopes 0 in
      let inside : length place.graph_path < length place.path = omega (arith, less, length-append around.path (number ∷ [])) in
      let next : Goes around.graph around.graph_path passed (item_things items ++ state_things states) = goes_on around.graph before place (item_things items ++ state_things states) goes in
      let within : AreAway place.path 0 passed =
      all_joined (IsAway place.path 0) before (place ∷ []) (all_so (IsAway around.path number) (IsAway place.path 0) (away_inside around.path number) before away)
      (itself_away around.graph_path place.path 0 (omega (arith, inside)) place refl, tt) in
      let later : AreAway around.path (suc number) (passed ++ here) =
      all_joined (IsAway around.path (suc number)) passed here
      (all_joined (IsAway around.path (suc number)) before (place ∷ []) (all_so (IsAway around.path number) (IsAway around.path (suc number)) (away_later around.path number) before away)
      (itself_away around.graph_path around.path (suc number) less place refl, tt))
      (all_so (IsInItems place 0) (IsAway around.path (suc number)) (in_state_away around number items exits less) here (items_within items place no_scopes 0)) in (
        (item_things items ++ state_things states, goes),
        behind_joined StandsBehind passed here (state_places states around (suc number)) (items_walked items place no_scopes 0 passed (state_things states) (omega (arith, inside)) within next)
            (states_walked states around (suc number) (passed ++ here) less later
            (goes_past around.graph around.graph_path passed here (item_things items) (state_things states) (items_things items place no_scopes 0 (omega (arith, inside))) next)),
      )

  graph_walked : (tree : GraphTree) (path : List ℕ) (depth : ℕ) (before : List Place) → AreOff path before → AllBehind StandsBehind before (places_of tree path depth)
  graph_walked (graph name containers arguments variables symbols states) path depth before off =
      let tree : GraphTree = graph name containers arguments variables symbols states in
      let around : Place = graph_place tree path depth in
      let none : things_of path before ≡ [] =
      none_of path before (all_so (IsOff path) (λ (other : Place). other.graph_path ≡ path → ⊥) (λ other off same. off [] (same ∙ sym (append-nil path))) before off) in
      let goes : Goes tree path before (whole ∷ state_things states) = sym (ap (λ (passed : List Thing). passed ++ whole ∷ state_things states) none) in
      let away : AreAway path 0 (before ++ around ∷ []) =
      all_joined (IsAway path 0) before (around ∷ []) (all_so (IsOff path) (IsAway path 0) (λ other off next rest least. off (next ∷ rest)) before off) (itself_away path path 0 (omega arith) around refl, tt) in (
        (state_things states, goes),
        states_walked states around 0 (before ++ around ∷ []) (omega arith) away (goes_on tree before around (state_things states) goes),
      )

pub places_walked : (tree : GraphTree) → AllBehind StandsBehind [] (all_places tree)
places_walked tree = graph_walked tree [] 0 [] tt
