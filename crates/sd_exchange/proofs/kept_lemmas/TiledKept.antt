-- What a map that is cut into tiles keeps of the rules of valid graphs.
use Rattle.std.proofs.Common.{◌≡◌, ℕ, suc, ◌+◌, ◌<◌, ◌≤◌, ◌-◌, ℤ, pos, ◌*ℤ◌, nat_eq, nat_lt, List, [], ◌∷◌, ◌++◌, length, Bool, true, false, not, ◌&&◌, ◌||◌, refl, sym, ◌∙◌, ap, subst, arith, append-nil}
use Rattle.std.specs.List.{list_all, flat_map}
use Rattle.std.proofs.lemmas.List.Folds.{list_all-append}
use Rattle.sd_range.specs.declared.affine.Affine.{Affine}
use Rattle.sd_range.specs.declared.range.Range.{Range}
use Rattle.sd_graph.specs.PlainTree.{KindTree, task, map_scope, consume_scope, nested_graph, reduction, copy, ItemTrees, no_item, and_item, GraphTree}
use Rattle.sd_graph.specs.Wiring.{has_number}
use Rattle.sd_validity.specs.rules.GraphParts.{variables_of, symbols_in}
use Rattle.sd_validity.specs.rules.Places.{doing, whole, Scopes, in_map, param_numbers}
use Rattle.sd_validity.specs.rules.Parts.{is_range_passed, are_params_passed}
use Rattle.sd_validity.specs.rules.NestedLinks.{written_by, written_in}
use Rattle.sd_validity.specs.rules.NamesInForce.{is_there, is_variable_in_force, is_no_symbol, held_at, params_at, set_at, names_tests}
use Rattle.sd_validity.specs.rules.SizesGone.{is_free, sizes_tests}
use Rattle.sd_validity.specs.things.Things.{things_in, item_things}
use Rattle.sd_validity.proofs.rules_lemmas.HoldingLemmas.{both}
use Rattle.sd_validity.proofs.things_lemmas.Times.{one_if, times, times_joined}
use Rattle.sd_alike.specs.alike.Tiles.{variable_plus, range_of_tiles, range_in_tile}
use Rattle.sd_alike.proofs.kept_lemmas.Held.{Asked, HoldsIn, HoldsAmong, IsLocal, IsWider, StaysWider, KeepsAsked}
use Rattle.sd_alike.proofs.kept_lemmas.HeldPlaces.{joined}
use Rattle.sd_alike.proofs.kept_lemmas.HeldReplaced.{has_both, has_wider, items_wider}
use Rattle.sd_alike.proofs.kept_lemmas.LocalRules.{AsksParams, asked_of, of_asked}
use Rattle.sd_alike.proofs.kept_lemmas.NamesThere.{all_weaker}
use Rattle.sd_alike.proofs.kept_lemmas.NamesAsked.{standing, names_asked, names_local, is_named, named_is, term_tests, range_more, inside_too}
use Rattle.sd_alike.proofs.kept_lemmas.Wider.{HasFurther, is_param_sized, sized_params, sized_test, names_wider}
use Rattle.sd_alike.proofs.kept_lemmas.OnceThings.{in_second}
use Rattle.sd_alike.proofs.kept_lemmas.EachGraph.{InKind, AmongItems}
use Rattle.sd_alike.proofs.kept_lemmas.NumbersKept.{KeepsBy, KeepsNumbers, AreAmong}
use Rattle.sd_alike.proofs.kept_lemmas.RuleOfNames.{IsNamedGraph}
use Rattle.sd_exchange.specs.tiles.Tiled.{tile_params, params_in_tile}
use Rattle.sd_exchange.specs.maps.OrderRewrites.{tiled_by, HasSizes}

-- ---- the parameters of tiles

-- the parameters in a tile are those of the map
numbers_in_tile : (sizes : List ℕ) (variable : ℕ) (params : List (ℕ × Range)) → length sizes ≡ length params → param_numbers (params_in_tile sizes variable params) ≡ param_numbers params
numbers_in_tile [] variable [] same = refl
numbers_in_tile [] variable (param ∷ params) same = absurd (omega (arith, same))
numbers_in_tile (size ∷ sizes) variable [] same = refl
numbers_in_tile (size ∷ sizes) variable (param ∷ params) same = ap (λ rest. param.0 ∷ rest) (numbers_in_tile sizes (suc variable) params (omega (arith, same)))

-- a test that new variables pass
tile_numbers_pass : (test : ℕ → Bool) (sizes : List ℕ) (variable : ℕ) (params : List (ℕ × Range)) → ((number : ℕ) → variable ≤ number → number < variable + length sizes → test number ≡ true) →
    list_all test (param_numbers (tile_params sizes variable params)) ≡ true
tile_numbers_pass test [] variable params passes = refl
tile_numbers_pass test (size ∷ sizes) variable [] passes = refl
tile_numbers_pass test (size ∷ sizes) variable (param ∷ params) passes =
    joined (test variable) (list_all test (param_numbers (tile_params sizes (suc variable) params))) (passes variable (omega arith) (omega arith))
    (tile_numbers_pass test sizes (suc variable) params (λ number from to. passes number (omega (arith, from)) (omega (arith, to))))

tile_here : (number variable : ℕ) (same there : Bool) → nat_eq number variable ≡ same → variable ≤ number → (suc variable ≤ number → there ≡ true) → (same || there) ≡ true
tile_here number variable true there is from later = refl
tile_here number variable false there is from later = later (grind (arith, from, is))

-- each of them is a parameter of the map over the tiles
has_tile : (sizes : List ℕ) (variable : ℕ) (params : List (ℕ × Range)) → length sizes ≡ length params → (number : ℕ) → variable ≤ number → number < variable + length sizes →
    has_number (param_numbers (tile_params sizes variable params)) number ≡ true
has_tile [] variable params same number from to = absurd (omega (arith, from, to))
has_tile (size ∷ sizes) variable [] same number from to = absurd (omega (arith, same))
has_tile (size ∷ sizes) variable (param ∷ params) same number from to =
    tile_here number variable (nat_eq number variable) (has_number (param_numbers (tile_params sizes (suc variable) params)) number) refl from
    (λ behind. has_tile sizes (suc variable) params (omega (arith, same)) number behind (omega (arith, to)))

-- it is below the first one not once, and once at most
abbrev IsNewOnce : (number variable times : ℕ) → Type 0
IsNewOnce number variable times = (number < variable → times ≡ 0) × (times ≤ 1)

one_tile : (number variable rest : ℕ) (same : Bool) → nat_eq number variable ≡ same → IsNewOnce number (suc variable) rest → IsNewOnce number variable (one_if same + rest)
one_tile number variable rest true is later =
    let same : number ≡ variable = grind (arith, is) in
    let none : rest ≡ 0 = later.0 (omega (arith, same)) in
    (λ below. absurd (omega (arith, below, same)), omega (arith, none))
one_tile number variable rest false is later = (λ below. omega (arith, later.0 (omega (arith, below))), omega (arith, later.1))

tile_times : (sizes : List ℕ) (variable : ℕ) (params : List (ℕ × Range)) (number : ℕ) → IsNewOnce number variable (times number (param_numbers (tile_params sizes variable params)))
tile_times [] variable params number = (λ below. refl, omega arith)
tile_times (size ∷ sizes) variable [] number = (λ below. refl, omega arith)
tile_times (size ∷ sizes) variable (param ∷ params) number =
    one_tile number variable (times number (param_numbers (tile_params sizes (suc variable) params))) (nat_eq number variable) refl (tile_times sizes (suc variable) params number)

-- inside both maps more is in force than in the map
tiled_scopes : (loops : List ℕ) (scopes : Scopes) (sizes : List ℕ) (variable : ℕ) (params : List (ℕ × Range)) (private : List ℕ) → length sizes ≡ length params →
    IsWider loops loops (in_map scopes params private) (in_map (in_map scopes (tile_params sizes variable params) []) (params_in_tile sizes variable params) private)
tiled_scopes loops scopes sizes variable params private same = record {
  loops = λ number there. there;
  private = λ number there. there;
  params = λ number there.
      ap (λ own. has_number (own ++ (tiles ++ scopes.params)) number) (numbers_in_tile sizes variable params same)
      ∙ has_wider (param_numbers params) scopes.params (tiles ++ scopes.params) (λ number is. in_second tiles scopes.params number is) number there;
}
  where
    tiles : List ℕ
    tiles = param_numbers (tile_params sizes variable params)

tiled_writes : (sizes : List ℕ) (variables line : ℕ) (kind : KindTree) → HasSizes sizes variables kind → written_in (tiled_by sizes variables line kind) ≡ written_by kind
tiled_writes sizes variables line (task code ins outs) sized = elim sized [ ]
tiled_writes sizes variables line (map_scope sequential params private body) sized = append-nil (written_in body ++ []) ∙ append-nil (written_in body)
tiled_writes sizes variables line (consume_scope stream element private body) sized = elim sized [ ]
tiled_writes sizes variables line (nested_graph inner links) sized = elim sized [ ]
tiled_writes sizes variables line (reduction resolution axis identity from to) sized = elim sized [ ]
tiled_writes sizes variables line (copy from to) sized = elim sized [ ]

-- ---- a rule that asks something of each parameter alone

-- where it holds of a parameter, it holds of its tiles and of it in a tile
abbrev pub HoldsOfTiles : (test : GraphTree → ℕ × Range → Bool) → (Known : GraphTree → (variables : ℕ) → Type 0) → Type 0
HoldsOfTiles test Known =
    (tree : GraphTree) (variables : ℕ) → Known tree variables → (size variable : ℕ) (param : ℕ × Range) → variables ≤ variable → test tree param ≡ true →
    (test tree (variable, range_of_tiles size param.1) ≡ true) × (test tree (param.0, range_in_tile size variable param.1) ≡ true)

module _ (asked : Asked) (local : IsLocal asked) (stays : StaysWider asked) (params : AsksParams asked) (Known : GraphTree → (variables : ℕ) → Type 0) (of_tiles : HoldsOfTiles params.test Known) (sizes : List ℕ) where
  params_pass : (tree : GraphTree) (variables : ℕ) → Known tree variables → (sizes : List ℕ) (variable : ℕ) (some : List (ℕ × Range)) → variables ≤ variable → list_all (params.test tree) some ≡ true →
      (list_all (params.test tree) (tile_params sizes variable some) ≡ true) × (list_all (params.test tree) (params_in_tile sizes variable some) ≡ true)
  params_pass tree variables known [] variable some from all = (refl, refl)
  params_pass tree variables known (size ∷ sizes) variable [] from all = (refl, refl)
  params_pass tree variables known (size ∷ sizes) variable (param ∷ some) from all =
      let parts = both (params.test tree param) (list_all (params.test tree) some) all in
      let here = of_tiles tree variables known size variable param from parts.0 in
      let rest = params_pass tree variables known sizes (suc variable) some (omega (arith, from)) parts.1 in (
        joined (params.test tree (variable, range_of_tiles size param.1)) (list_all (params.test tree) (tile_params sizes (suc variable) some)) here.0 rest.0,
        joined (params.test tree (param.0, range_in_tile size variable param.1)) (list_all (params.test tree) (params_in_tile sizes (suc variable) some)) here.1 rest.1,
      )

  tiled_holds : (tree : GraphTree) (loops : List ℕ) (scopes : Scopes) (variables line : ℕ) (kind : KindTree) → Known tree variables → HasSizes sizes variables kind →
      asked tree loops scopes (doing kind) ≡ true → HoldsIn asked tree loops scopes kind → HoldsAmong asked tree loops scopes (tiled_by sizes variables line kind)
  tiled_holds tree loops scopes variables line (task code ins outs) known sized is holds = elim sized [ ]
  tiled_holds tree loops scopes variables line (map_scope sequential some private body) known sized is holds =
      let tiles : List (ℕ × Range) = tile_params sizes variables some in
      let within : Scopes = in_map scopes tiles [] in
      let inside : List (ℕ × Range) = params_in_tile sizes variables some in
      let pass = params_pass tree variables known sizes variables some (omega arith) (of_asked asked local params tree loops scopes sequential some private body is) in (
        asked_of asked local params tree loops scopes sequential tiles [] (and_item line (map_scope sequential inside private body) no_item) pass.0,
        (
          (
            asked_of asked local params tree loops within sequential inside private body pass.1,
            (items_wider asked local stays tree loops (in_map scopes some private) (in_map within inside private) body (tiled_scopes loops scopes sizes variables some private sized) holds, tt),
          ),
          tt,
        ),
      )
  tiled_holds tree loops scopes variables line (consume_scope stream element private body) known sized is holds = elim sized [ ]
  tiled_holds tree loops scopes variables line (nested_graph inner links) known sized is holds = elim sized [ ]
  tiled_holds tree loops scopes variables line (reduction resolution axis identity from to) known sized is holds = elim sized [ ]
  tiled_holds tree loops scopes variables line (copy from to) known sized is holds = elim sized [ ]

  pub tiled_keeps : KeepsAsked asked Known (HasSizes sizes) (tiled_by sizes)
  tiled_keeps = record {
    items = λ tree loops scopes variables line kind known sized is holds. tiled_holds tree loops scopes variables line kind known sized is holds;
    written = tiled_writes sizes;
  }

-- new variables are no size symbols
tiles_sized : (added : ℕ) → HoldsOfTiles is_param_sized (HasFurther added)
tiles_sized added tree variables further size variable param from is =
    let symbols = symbols_in tree in
    let range = param.1 in
    let free : not (nat_lt variable symbols) ≡ true = new symbols variable (omega (arith, further.symbols, from)) in
    let parts = both (is_range_passed (sizes_tests symbols) range) (is_no_symbol symbols param.0) is in
    let ends = both (is_free symbols range.begin) (list_all (is_free symbols) range.ends) parts.0 in (
      joined (is_range_passed (sizes_tests symbols) range) (is_no_symbol symbols variable) parts.0 free,
      joined (is_range_passed (sizes_tests symbols) (range_in_tile size variable range)) (is_no_symbol symbols param.0)
          (in_tile symbols size variable range free ends.1) parts.1,
    )
  where
    new : (symbols variable : ℕ) → symbols ≤ variable → not (nat_lt variable symbols) ≡ true
    new symbols variable up = grind (arith, up)

    alone : (symbols variable : ℕ) → not (nat_lt variable symbols) ≡ true → (not (nat_lt variable symbols) && true) ≡ true
    alone symbols variable free = joined (not (nat_lt variable symbols)) true free refl

    in_tile : (symbols size variable : ℕ) (range : Range) → not (nat_lt variable symbols) ≡ true → list_all (is_free symbols) range.ends ≡ true →
        is_range_passed (sizes_tests symbols) (range_in_tile size variable range) ≡ true
    in_tile symbols size variable range free ends =
        let tile : Range = range_in_tile size variable range in
        let own = alone symbols variable free in
        joined (is_free symbols tile.begin) (list_all (is_free symbols) tile.ends) own
        (list_all-append (is_free symbols) range.ends (variable_plus variable (range.step *ℤ pos (size - 1)) ∷ [])
        ∙ joined (list_all (is_free symbols) range.ends) (list_all (is_free symbols) (variable_plus variable (range.step *ℤ pos (size - 1)) ∷ [])) ends (joined (not (nat_lt variable symbols) && true) true own refl))

pub sized_tiles : (added : ℕ) → HoldsOfTiles sized_params.test (HasFurther added)
sized_tiles added tree variables further size variable param from is =
    let tiles = tiles_sized added tree variables further size variable param from (sym (sized_test tree param) ∙ is) in
    (sized_test tree (variable, range_of_tiles size param.1) ∙ tiles.0, sized_test tree (param.0, range_in_tile size variable param.1) ∙ tiles.1)

-- ---- the part of the rule of names that looks at one place alone

-- ranges that pass, their tiles pass, and the ranges in a tile where the new variables do
module _ (test other : ℕ → Bool) (more : (number : ℕ) → test number ≡ true → other number ≡ true) where
  tiles_named : (sizes : List ℕ) (variable : ℕ) (params : List (ℕ × Range)) → are_params_passed (term_tests test other test) params ≡ true → are_params_passed (term_tests test other test) (tile_params sizes variable params) ≡ true
  tiles_named [] variable params is = refl
  tiles_named (size ∷ sizes) variable [] is = refl
  tiles_named (size ∷ sizes) variable (param ∷ params) is =
      let parts = both (is_range_passed (term_tests test other test) param.1) (are_params_passed (term_tests test other test) params) is in
      joined (is_range_passed (term_tests test other test) param.1) (are_params_passed (term_tests test other test) (tile_params sizes (suc variable) params)) parts.0 (tiles_named sizes (suc variable) params parts.1)

  in_tile_named : (sizes : List ℕ) (variable : ℕ) (params : List (ℕ × Range)) → ((number : ℕ) → variable ≤ number → number < variable + length sizes → other number ≡ true) →
      are_params_passed (term_tests test other test) params ≡ true → are_params_passed (term_tests test other other) (params_in_tile sizes variable params) ≡ true
  in_tile_named [] variable params new is = refl
  in_tile_named (size ∷ sizes) variable [] new is = refl
  in_tile_named (size ∷ sizes) variable (param ∷ params) new is =
      let parts = both (is_range_passed (term_tests test other test) param.1) (are_params_passed (term_tests test other test) params) is in
      joined (is_range_passed (term_tests test other other) (range_in_tile size variable param.1)) (are_params_passed (term_tests test other other) (params_in_tile sizes (suc variable) params))
      (here size variable param.1 (new variable (omega arith) (omega arith)) (range_more test other more param.1 parts.0))
      (in_tile_named sizes (suc variable) params (λ number from to. new number (omega (arith, from)) (omega (arith, to))) parts.1)
    where
      passes : Affine → Bool
      passes a = list_all (λ term. other term.0) a.terms

      here : (size variable : ℕ) (range : Range) → other variable ≡ true → is_range_passed (term_tests test other other) range ≡ true → is_range_passed (term_tests test other other) (range_in_tile size variable range) ≡ true
      here size variable range own is =
          let tile : Range = range_in_tile size variable range in
          let ends = both (passes range.begin) (list_all passes range.ends) is in
          let alone : (other variable && true) ≡ true = joined (other variable) true own refl in
          joined (passes tile.begin) (list_all passes tile.ends) alone
          (list_all-append passes range.ends (variable_plus variable (range.step *ℤ pos (size - 1)) ∷ [])
          ∙ joined (list_all passes range.ends) (list_all passes (variable_plus variable (range.step *ℤ pos (size - 1)) ∷ [])) ends.1 (joined (other variable && true) true alone refl))

names_tiled : (sizes : List ℕ) (tree : GraphTree) (loops : List ℕ) (scopes : Scopes) (variables line : ℕ) (kind : KindTree) → HasFurther (length sizes) tree variables → HasSizes sizes variables kind →
    names_asked tree loops scopes (doing kind) ≡ true → HoldsIn names_asked tree loops scopes kind → HoldsAmong names_asked tree loops scopes (tiled_by sizes variables line kind)
names_tiled sizes tree loops scopes variables line (task code ins outs) further sized is holds = elim sized [ ]
names_tiled sizes tree loops scopes variables line (map_scope sequential params private body) further sized is holds =
    let tiles : List (ℕ × Range) = tile_params sizes variables params in
    let within : Scopes = in_map scopes tiles [] in
    let inside : List (ℕ × Range) = params_in_tile sizes variables params in
    let was = is_named tree loops scopes sequential params private body is in
    let here : ℕ → Bool = is_variable_in_force (standing tree loops scopes whole) in
    let there : ℕ → Bool = is_variable_in_force (standing tree loops within whole) in
    let more = inside_too tree loops scopes tiles [] in
    let same = numbers_in_tile sizes variables params sized in (
      named_is tree loops scopes sequential tiles [] (and_item line (map_scope sequential inside private body) no_item) (record {
        ranges = tiles_named here there more sizes variables params was.ranges;
        there = tile_numbers_pass (is_there tree) sizes variables params (λ number from to. own number to);
        apart = tile_numbers_pass (is_no_symbol (symbols_in tree)) sizes variables params (λ number from to. new number from);
        own = refl;
      }),
      (
        (
          named_is tree loops within sequential inside private body (record {
            ranges = in_tile_named here there more sizes variables params (λ number from to. in_force number from to) was.ranges;
            there = ap (list_all (is_there tree)) same ∙ was.there;
            apart = ap (list_all (is_no_symbol (symbols_in tree))) same ∙ was.apart;
            own = was.own;
          }),
          (items_wider names_asked names_local names_wider tree loops (in_map scopes params private) (in_map within inside private) body (tiled_scopes loops scopes sizes variables params private sized) holds, tt),
        ),
        tt,
      ),
    )
  where
    own : (number : ℕ) → number < variables + length sizes → is_there tree number ≡ true
    own number to = below number (length (variables_of tree)) (omega (arith, further.count, to))
      where
        below : (number count : ℕ) → number < count → nat_lt number count ≡ true
        below number count less = grind (arith, less)

    new : (number : ℕ) → variables ≤ number → is_no_symbol (symbols_in tree) number ≡ true
    new number from = behind number (symbols_in tree) (omega (arith, further.symbols, from))
      where
        behind : (number symbols : ℕ) → symbols ≤ number → not (nat_lt number symbols) ≡ true
        behind number symbols up = grind (arith, up)

    in_force : (number : ℕ) → variables ≤ number → number < variables + length sizes → is_variable_in_force (standing tree loops (in_map scopes (tile_params sizes variables params) []) whole) number ≡ true
    in_force number from to =
        let tiles : List ℕ = param_numbers (tile_params sizes variables params) in
        joined (is_there tree number) (nat_lt number (symbols_in tree) || (has_number (tiles ++ scopes.params) number || has_number loops number)) (own number to)
        (third (nat_lt number (symbols_in tree)) (has_number (tiles ++ scopes.params) number) (has_number loops number)
        (has_both tiles scopes.params number ∙ first (has_number tiles number) (has_number scopes.params number) (has_tile sizes variables params sized number from to)))
      where
        first : (a b : Bool) → a ≡ true → (a || b) ≡ true
        first true b is = refl
        first false b is = cc

        third : (a b c : Bool) → b ≡ true → (a || (b || c)) ≡ true
        third true b c is = refl
        third false b c is = first b c is
names_tiled sizes tree loops scopes variables line (consume_scope stream element private body) further sized is holds = elim sized [ ]
names_tiled sizes tree loops scopes variables line (nested_graph inner links) further sized is holds = elim sized [ ]
names_tiled sizes tree loops scopes variables line (reduction resolution axis identity from to) further sized is holds = elim sized [ ]
names_tiled sizes tree loops scopes variables line (copy from to) further sized is holds = elim sized [ ]

pub tiled_names : (sizes : List ℕ) → KeepsAsked names_asked (HasFurther (length sizes)) (HasSizes sizes) (tiled_by sizes)
tiled_names sizes = record {
  items = λ tree loops scopes variables line kind further sized is holds. names_tiled sizes tree loops scopes variables line kind further sized is holds;
  written = tiled_writes sizes;
}

-- ---- numbers

-- behind the items of the inner map stands nothing
ended : (body : ItemTrees) → (item_things body ++ []) ++ [] ≡ item_things body
ended body = append-nil (item_things body ++ []) ∙ append-nil (item_things body)

pub tiled_held : (sizes : List ℕ) → KeepsNumbers held_at (HasSizes sizes) (tiled_by sizes)
tiled_held sizes variables line (task code ins outs) sized = elim sized [ ]
tiled_held sizes variables line (map_scope sequential params private body) sized = ap (λ things. private ++ flat_map held_at things) (ended body)
tiled_held sizes variables line (consume_scope stream element private body) sized = elim sized [ ]
tiled_held sizes variables line (nested_graph inner links) sized = elim sized [ ]
tiled_held sizes variables line (reduction resolution axis identity from to) sized = elim sized [ ]
tiled_held sizes variables line (copy from to) sized = elim sized [ ]

pub tiled_set : (sizes : List ℕ) → KeepsNumbers set_at (HasSizes sizes) (tiled_by sizes)
tiled_set sizes variables line (task code ins outs) sized = elim sized [ ]
tiled_set sizes variables line (map_scope sequential params private body) sized = ap (λ things. flat_map set_at things) (ended body)
tiled_set sizes variables line (consume_scope stream element private body) sized = elim sized [ ]
tiled_set sizes variables line (nested_graph inner links) sized = elim sized [ ]
tiled_set sizes variables line (reduction resolution axis identity from to) sized = elim sized [ ]
tiled_set sizes variables line (copy from to) sized = elim sized [ ]

-- the parameters are the old ones and the new variables
pub tiled_params : (sizes : List ℕ) → KeepsBy AreAmong params_at (HasSizes sizes) (tiled_by sizes)
tiled_params sizes variables line (task code ins outs) sized = elim sized [ ]
tiled_params sizes variables line (map_scope sequential params private body) sized =
    subst (AreAmong variables (own ++ rest)) (sym (λ i. tiles ++ (numbers_in_tile sizes variables params sized i ++ flat_map params_at (ended body i)))) (record {
      known = λ number below. omega (arith, times_joined number tiles (own ++ rest), (tile_times sizes variables params number).0 below);
      fresh = λ number. omega (arith, times_joined number tiles (own ++ rest), (tile_times sizes variables params number).1);
    })
  where
    own : List ℕ
    own = param_numbers params

    tiles : List ℕ
    tiles = param_numbers (tile_params sizes variables params)

    rest : List ℕ
    rest = flat_map params_at (item_things body)
tiled_params sizes variables line (consume_scope stream element private body) sized = elim sized [ ]
tiled_params sizes variables line (nested_graph inner links) sized = elim sized [ ]
tiled_params sizes variables line (reduction resolution axis identity from to) sized = elim sized [ ]
tiled_params sizes variables line (copy from to) sized = elim sized [ ]

pub tiled_nests : (sizes : List ℕ) (variables line : ℕ) (kind : KindTree) → HasSizes sizes variables kind → InKind (λ tree. IsNamedGraph tree) kind → AmongItems (λ tree. IsNamedGraph tree) (tiled_by sizes variables line kind)
tiled_nests sizes variables line (task code ins outs) sized each = elim sized [ ]
tiled_nests sizes variables line (map_scope sequential params private body) sized each = ((each, tt), tt)
tiled_nests sizes variables line (consume_scope stream element private body) sized each = elim sized [ ]
tiled_nests sizes variables line (nested_graph inner links) sized each = elim sized [ ]
tiled_nests sizes variables line (reduction resolution axis identity from to) sized each = elim sized [ ]
tiled_nests sizes variables line (copy from to) sized each = elim sized [ ]
