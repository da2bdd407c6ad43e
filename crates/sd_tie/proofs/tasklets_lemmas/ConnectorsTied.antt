-- The links of a tasklet are the connectors that its block declares.
use Rattle.std.proofs.Common.{◌≡◌, ◌∙◌, ℕ, suc, ◌+◌, ◌-◌, ℤ, List, [], ◌∷◌, ◌++◌, length, map, take, drop, Some, None, false, nat_lt, slice_get, slice_index_or, if◌then◌else◌, refl, ap, sym, subst, arith}
use Rattle.std.specs.List.{flat_map}
use Rattle.std.specs.Bool.{⊤}
use Rattle.std.proofs.lemmas.List.{map-append, length-map}
use Rattle.sd_range.specs.Points.{product}
use Rattle.sd_graph.specs.Context.{Context, link_elements, link_extents}
use Rattle.sd_graph.specs.TaskletMeaning.{Effect}
use Rattle.sd_graph.specs.Unfold.{cut, pending_by, pending_through, pending_of}
use Rattle.sd_graph.specs.declared.link.Link.{Link}
use Rattle.sd_program.specs.Names.{Name}
use Rattle.sd_task.specs.in_force.Names.{with_numbered}
use Rattle.sd_task.specs.tasklet_names.UsedNames.{connectors_from}
use Rattle.sd_says.specs.Setting.{taken_in, with_each}
use Rattle.sd_says.specs.Connectors.{Inlet, Input, Outlet, elements_read, inputs_with}
use Rattle.sd_tie.proofs.tasklets_lemmas.Stands.{StandsAt, stands_here, stands_after, stands_whole}
use Rattle.sd_tie.proofs.tasklets_lemmas.Numbered.{AreFrom, numbered_tied}

-- inputs, link by link
abbrev pub AreInlets : Context → List Link → List (Name × Inlet) → Type 0
AreInlets context [] [] = ⊤
AreInlets context [] (inlet ∷ inlets) = ⊥
AreInlets context (link ∷ links) [] = ⊥
AreInlets context (link ∷ links) (inlet ∷ inlets) =
    (link.connector ≡ inlet.0) × (link_extents context link ≡ inlet.1.extents) × (link_elements context link ≡ inlet.1.elements) × AreInlets context links inlets

-- an effect at a place with a value, on whatever connector
abbrev effect_at : ℕ → List ℤ → ℤ → Effect
effect_at connector place value = record { connector = connector; at = place; value = value }

-- outputs, link by link
abbrev pub AreOutlets : Context → List Link → List (Name × Outlet) → Type 0
AreOutlets context [] [] = ⊤
AreOutlets context [] (outlet ∷ outlets) = ⊥
AreOutlets context (link ∷ links) [] = ⊥
AreOutlets context (link ∷ links) (outlet ∷ outlets) =
    (link.connector ≡ outlet.0) × (link_extents context link ≡ outlet.1.extents)
    × ((connector : ℕ) (place : List ℤ) (value : ℤ) → pending_through context link (record { connector = connector; at = place; value = value }) ≡ outlet.1.give place value)
    × AreOutlets context links outlets

module _ (context : Context) where
  pub reads_alike : (links : List Link) (inlets : List (Name × Inlet)) → AreInlets context links inlets → flat_map (link_elements context) links ≡ elements_read inlets
  reads_alike [] [] h = refl
  reads_alike [] (inlet ∷ inlets) h = absurd h
  reads_alike (link ∷ links) [] h = absurd h
  reads_alike (link ∷ links) (inlet ∷ inlets) h = λ i. h.2 i ++ reads_alike links inlets h.3 i

  pub inlet_names : (links : List Link) (inlets : List (Name × Inlet)) (read : List ℤ) → AreInlets context links inlets → map (λ link. link.connector) links ≡ map (λ entry. entry.0) (inputs_with inlets read)
  inlet_names [] [] read h = refl
  inlet_names [] (inlet ∷ inlets) read h = absurd h
  inlet_names (link ∷ links) [] read h = absurd h
  inlet_names (link ∷ links) (inlet ∷ inlets) read h = λ i. h.0 i ∷ inlet_names links inlets (drop (product inlet.1.extents) read) h.3 i

  pub outlet_names : (links : List Link) (outlets : List (Name × Outlet)) → AreOutlets context links outlets → map (λ link. link.connector) links ≡ map (λ entry. entry.0) outlets
  outlet_names [] [] h = refl
  outlet_names [] (outlet ∷ outlets) h = absurd h
  outlet_names (link ∷ links) [] h = absurd h
  outlet_names (link ∷ links) (outlet ∷ outlets) h = λ i. h.0 i ∷ outlet_names links outlets h.3 i

  abbrev counts_of : List Link → List ℕ
  counts_of links = map (λ link. product (link_extents context link)) links

  -- an input by its number
  abbrev pub input_at : (values : List (List ℤ)) → (extents : List (List ℕ)) → ℕ → Input
  input_at values extents number = record { extents = slice_index_or extents number []; values = slice_index_or values number [] }

  inputs_from : (values : List (List ℤ)) (extents : List (List ℕ)) (links : List Link) (inlets : List (Name × Inlet)) (read : List ℤ) (next : ℕ) → AreInlets context links inlets →
      StandsAt [] values (cut (counts_of links) read) next → StandsAt [] extents (map (link_extents context) links) next → AreFrom (input_at values extents) next (inputs_with inlets read)
  inputs_from values extents [] [] read next h s t = tt
  inputs_from values extents [] (inlet ∷ inlets) read next h s t = absurd h
  inputs_from values extents (link ∷ links) [] read next h s t = absurd h
  inputs_from values extents (link ∷ links) (inlet ∷ inlets) read next h s t =
      let step : suc next ≡ next + 1 = omega arith in
      let count : product (link_extents context link) ≡ product inlet.1.extents = ap product h.1 in
      let values_next : StandsAt [] values (cut (counts_of links) (drop (product inlet.1.extents) read)) (next + 1) =
      subst (λ at. StandsAt [] values (cut (counts_of links) (drop (product inlet.1.extents) read)) at) step
      (subst (λ taken. StandsAt [] values (cut (counts_of links) (drop taken read)) (suc next)) count s.1) in (
        (λ i. record { extents = (t.0 ∙ h.1) i; values = (s.0 ∙ ap (λ taken. take taken read) count) i }),
        inputs_from values extents links inlets (drop (product inlet.1.extents) read) (next + 1) h.3 values_next (subst (StandsAt [] extents (map (link_extents context) links)) step t.1),
      )

  -- the inputs by name
  pub inputs_alike : (ins outs : List Link) (inlets : List (Name × Inlet)) (read : List ℤ) → AreInlets context ins inlets →
      with_each (input_at (cut (counts_of ins) read) (map (link_extents context) (ins ++ outs))) (connectors_from 0 ins) ≡ taken_in (inputs_with inlets read) []
  inputs_alike ins outs inlets read h =
      let extents : List (List ℕ) = map (link_extents context) (ins ++ outs) in
      let stands : StandsAt [] extents (map (link_extents context) ins) 0 =
      subst (λ all. StandsAt [] all (map (link_extents context) ins) 0) (sym (map-append (link_extents context) ins outs)) (stands_here [] (map (link_extents context) ins) (map (link_extents context) outs)) in
      ap (λ names. with_each (input_at (cut (counts_of ins) read) extents) (with_numbered names 0 [])) (inlet_names ins inlets read h)
      ∙ numbered_tied (input_at (cut (counts_of ins) read) extents) (inputs_with inlets read) 0 [] (inputs_from (cut (counts_of ins) read) extents ins inlets read 0 h (stands_whole [] (cut (counts_of ins) read)) stands)

  -- ---- outputs

  -- an output by its number
  abbrev pub outlet_at : (ins outs : List Link) → (extents : List (List ℕ)) → ℕ → Outlet
  outlet_at ins outs extents number =
      record { extents = slice_index_or extents number []; give = λ place value. pending_of context ins outs (record { connector = number; at = place; value = value }) }

  not_below : (count j : ℕ) → nat_lt (count + j) count ≡ false
  not_below count j = grind arith

  get_there : (whole : List Link) (number : ℕ) (link : Link) → slice_get whole number ≡ Some link → (place : List ℤ) (value : ℤ) (connector : ℕ) →
      pending_by context (slice_get whole number) (record { connector = connector; at = place; value = value }) ≡ pending_through context link (record { connector = connector; at = place; value = value })
  get_there whole number link e place value connector = ap (λ found. pending_by context found (record { connector = connector; at = place; value = value })) e

  -- the links that stand from a number on
  abbrev StandFrom : List Link → List Link → ℕ → Type 0
  StandFrom whole [] n = ⊤
  StandFrom whole (link ∷ links) n = (slice_get whole n ≡ Some link) × StandFrom whole links (n + 1)

  from_behind : (first : Link) (whole links : List Link) (n : ℕ) → StandFrom whole links n → StandFrom (first ∷ whole) links (n + 1)
  from_behind first whole [] n h = tt
  from_behind first whole (link ∷ links) n h =
      let step : n + 1 ≡ suc n = omega arith in
      (ap (slice_get (first ∷ whole)) step ∙ h.0, from_behind first whole links (n + 1) h.1)

  from_here : (links : List Link) → StandFrom links links 0
  from_here [] = tt
  from_here (link ∷ links) = (refl, from_behind link links links 0 (from_here links))

  outlets_from : (ins outs : List Link) (extents : List (List ℕ)) (links : List Link) (outlets : List (Name × Outlet)) (j : ℕ) → AreOutlets context links outlets →
      StandFrom outs links j → StandsAt [] extents (map (link_extents context) links) (length ins + j) → AreFrom (outlet_at ins outs extents) (length ins + j) outlets
  outlets_from ins outs extents [] [] j h s t = tt
  outlets_from ins outs extents [] (outlet ∷ outlets) j h s t = absurd h
  outlets_from ins outs extents (link ∷ links) [] j h s t = absurd h
  outlets_from ins outs extents (link ∷ links) (outlet ∷ outlets) j h s t =
      let number : ℕ = length ins + j in
      let step : suc number ≡ length ins + (j + 1) = omega arith in
      let next : number + 1 ≡ length ins + (j + 1) = omega arith in
      let place_is : number - length ins ≡ j = omega arith in
      let gives : (place : List ℤ) (value : ℤ) → pending_of context ins outs (record { connector = number; at = place; value = value }) ≡ outlet.1.give place value =
      λ place value.
      ap (λ below. if below then pending_by context None (record { connector = number; at = place; value = value }) else pending_by context (slice_get outs (number - length ins)) (record { connector = number; at = place; value = value })) (not_below (length ins) j)
      ∙ ap (λ n. pending_by context (slice_get outs n) (record { connector = number; at = place; value = value })) place_is
      ∙ get_there outs j link s.0 place value number
      ∙ h.2 number place value in (
        (λ i. record { extents = (t.0 ∙ h.1) i; give = λ place value. gives place value i }),
        subst (λ n. AreFrom (outlet_at ins outs extents) n outlets) (sym next)
            (outlets_from ins outs extents links outlets (j + 1) h.3 s.1 (subst (StandsAt [] extents (map (link_extents context) links)) step t.1)),
      )

  -- the outputs by name
  pub outlets_alike : (ins outs : List Link) (outlets : List (Name × Outlet)) → AreOutlets context outs outlets →
      with_each (outlet_at ins outs (map (link_extents context) (ins ++ outs))) (connectors_from (length ins) outs) ≡ taken_in outlets []
  outlets_alike ins outs outlets h =
      let extents : List (List ℕ) = map (link_extents context) (ins ++ outs) in
      let none : length ins ≡ length ins + 0 = omega arith in
      let counted : length (map (link_extents context) ins) ≡ length ins + 0 = length-map ins (link_extents context) ∙ none in
      let stands : StandsAt [] extents (map (link_extents context) outs) (length ins + 0) =
      subst (λ all. StandsAt [] all (map (link_extents context) outs) (length ins + 0)) (sym (map-append (link_extents context) ins outs))
      (subst (StandsAt [] (map (link_extents context) ins ++ map (link_extents context) outs) (map (link_extents context) outs)) counted (stands_after [] (map (link_extents context) ins) (map (link_extents context) outs))) in
      ap (λ names. with_each (outlet_at ins outs extents) (with_numbered names (length ins) [])) (outlet_names outs outlets h)
      ∙ ap (λ first. with_each (outlet_at ins outs extents) (with_numbered (map (λ entry. entry.0) outlets) first [])) none
      ∙ numbered_tied (outlet_at ins outs extents) outlets (length ins + 0) [] (outlets_from ins outs extents outs outlets 0 h (from_here outs) stands)
