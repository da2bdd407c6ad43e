-- Names in use and fresh names, as the code gathers them.
use Rattle.std.proofs.Common.{◌≡◌, ℕ, zero, suc, ◌+◌, ◌<◌, List, [], ◌∷◌, ◌++◌, drop, length, map, slice_index_or, String, string_bytes, bytes_eq, Bool, ◌||◌, if◌then◌else◌, decimal, true, false, refl, ap, sym, ◌∙◌, append_assoc, add-one}
use Rattle.std.specs.declared.alloc.Global.{Global}
use Rattle.sd_range.specs.declared.range.Range.{Range}
use Rattle.sd_graph.specs.TreeFold.{PlainItem, PlainState, exit_tree, kind_tree, item_trees, state_trees}
use Rattle.sd_graph.specs.declared.exit.Exit.{Exit}
use Rattle.sd_graph.specs.declared.graph.Item.{Item}
use Rattle.sd_graph.specs.declared.graph.State.{State}
use Rattle.sd_graph.specs.declared.graph.ItemKind.TheViews.{out-State}
use Rattle.sd_graph.proofs.TreeLemmas.{state_opened}
use Rattle.sd_wire.proofs.wiring_lemmas.ItemLists.{item_opened}
use Rattle.sd_mapx.specs.FreshNames.{set_by, params_in, params_among, variables_used, name_of, is_used, first_unused, fresh_name, fresh_names}
use Rattle.sd_mapx.proofs.RebuiltLemmas.{next_of}

-- what was gathered, and one part more of what is left
pub gathered : {A : Type 0} (before part after left rest all : List A) → after ≡ before ++ part → left ≡ part ++ rest → before ++ left ≡ all → after ++ rest ≡ all
gathered before part after left rest all more parts known =
    ap (λ after. after ++ rest) more ∙ append_assoc before part rest ∙ ap (λ left. before ++ left) (sym parts) ∙ known

-- ---- variables

pub params_next : (items : List Item) (index : ℕ) (item : Item) → index < length items → item ≡ slice_index_or items index item →
    params_among (item_trees (drop index items)) ≡ params_in (kind_tree item.kind) ++ params_among (item_trees (drop (index + 1) items))
params_next items index item below is =
    ap (λ left. params_among (item_trees left)) (next_of items index item below is)
    ∙ ap (λ (at : PlainItem). params_in at.1 ++ params_among (item_trees (drop (suc index) items))) (item_opened item)
    ∙ ap (λ index. params_in (kind_tree item.kind) ++ params_among (item_trees (drop index items))) (sym (add-one index))

pub set_next : (exits : List Exit) (index : ℕ) (exit : Exit) → index < length exits → exit ≡ slice_index_or exits index exit →
    set_by (map exit_tree (drop index exits)) ≡ map (λ assignment. assignment.0) exit.set ++ set_by (map exit_tree (drop (index + 1) exits))
set_next exits index exit below is =
    ap (λ left. set_by (map exit_tree left)) (next_of exits index exit below is)
    ∙ ap (λ index. map (λ assignment. assignment.0) exit.set ++ set_by (map exit_tree (drop index exits))) (sym (add-one index))

pub used_next : (states : List State) (index : ℕ) (state : State) → index < length states → state ≡ slice_index_or states index state →
    variables_used (state_trees (drop index states))
    ≡ (params_among (item_trees (out-State state).items.items) ++ set_by (map exit_tree (out-State state).exits.items)) ++ variables_used (state_trees (drop (index + 1) states))
used_next states index state below is =
    let items = params_among (item_trees (out-State state).items.items) in
    let set = set_by (map exit_tree (out-State state).exits.items) in
    ap (λ left. variables_used (state_trees left)) (next_of states index state below is)
    ∙ ap (λ (at : PlainState). params_among at.0 ++ (set_by at.1 ++ variables_used (state_trees (drop (suc index) states)))) (state_opened state)
    ∙ ap (λ index. items ++ (set ++ variables_used (state_trees (drop index states)))) (sym (add-one index))
    ∙ sym (append_assoc items set (variables_used (state_trees (drop (index + 1) states))))

-- ---- names

pub name_next : (used : List (String Global)) (name : List ℕ) (index : ℕ) (other : String Global) → index < length used → other ≡ slice_index_or used index other →
    is_used (map string_bytes (drop index used)) name ≡ (bytes_eq name (string_bytes other) || is_used (map string_bytes (drop (index + 1) used)) name)
name_next used name index other below is =
    ap (λ left. is_used (map string_bytes left) name) (next_of used index other below is)
    ∙ ap (λ index. bytes_eq name (string_bytes other) || is_used (map string_bytes (drop index used)) name) (sym (add-one index))

-- fresh names for parameters
abbrev pub fresh_of : (used variables : List (List ℕ)) → List (ℕ × Range) → List (List ℕ)
fresh_of used variables params = fresh_names used (map (λ param. name_of variables param.0) params)

-- the order of used names does not matter, only which they are and how many
record AreAlike (used other : List (List ℕ)) : Type 0 where
  many : length used ≡ length other
  same : (name : List ℕ) → is_used used name ≡ is_used other name

first_alike : (used other : List (List ℕ)) (many : ℕ) (name : List ℕ) (number : ℕ) → ((name : List ℕ) → is_used used name ≡ is_used other name) → first_unused many used name number ≡ first_unused many other name number
first_alike used other zero name number same = refl
first_alike used other (suc many) name number same =
    (λ i. if same (name ++ 36 ∷ decimal number) i then first_alike used other many name (number + 1) same i else name ++ 36 ∷ decimal number)

name_alike : (used other : List (List ℕ)) (name : List ℕ) → AreAlike used other → fresh_name used name ≡ fresh_name other name
name_alike used other name alike = ap (λ many. first_unused many used name 1) alike.many ∙ first_alike used other (length other) name 1 alike.same

one_alike : (used other : List (List ℕ)) (one : List ℕ) → AreAlike used other → AreAlike (one ∷ used) (one ∷ other)
one_alike used other one alike = record { many = ap suc alike.many; same = λ name. ap (λ is. bytes_eq name one || is) (alike.same name) }

names_alike : (names used other : List (List ℕ)) → AreAlike used other → fresh_names used names ≡ fresh_names other names
names_alike [] used other alike = refl
names_alike (name ∷ names) used other alike =
    let fresh = name_alike used other name alike in
    ap (λ fresh. fresh ∷ fresh_names (fresh ∷ used) names) fresh
    ∙ ap (λ rest. fresh_name other name ∷ rest) (names_alike names (fresh_name other name ∷ used) (fresh_name other name ∷ other) (one_alike used other (fresh_name other name) alike))

either_first : (a b c : Bool) → (a || (b || c)) ≡ (b || (a || c))
either_first true true c = refl
either_first true false c = refl
either_first false b c = refl

last_used : (used : List (List ℕ)) (one name : List ℕ) → is_used (used ++ one ∷ []) name ≡ is_used (one ∷ used) name
last_used [] one name = refl
last_used (first ∷ used) one name =
    ap (λ is. bytes_eq name first || is) (last_used used one name) ∙ either_first (bytes_eq name first) (bytes_eq name one) (is_used used name)

last_counted : (used : List (List ℕ)) (one : List ℕ) → length (used ++ one ∷ []) ≡ length (one ∷ used)
last_counted [] one = refl
last_counted (first ∷ used) one = ap suc (last_counted used one)

last_alike : (used : List (List ℕ)) (one : List ℕ) → AreAlike (used ++ one ∷ []) (one ∷ used)
last_alike used one = record { many = last_counted used one; same = last_used used one }

-- one more fresh name, which is used from then on
pub fresh_next : (used variables : List (List ℕ)) (params : List (ℕ × Range)) (index : ℕ) (param : ℕ × Range) (name : List ℕ) (after : List (List ℕ)) → index < length params → param ≡ slice_index_or params index param →
    name ≡ fresh_name used (name_of variables param.0) → after ≡ used ++ name ∷ [] →
    fresh_of used variables (drop index params) ≡ name ∷ fresh_of after variables (drop (index + 1) params)
fresh_next used variables params index param name after below is fresh more =
    let names = map (λ (param : ℕ × Range). name_of variables param.0) (drop (suc index) params) in
    ap (fresh_of used variables) (next_of params index param below is)
    ∙ ap (λ name. name ∷ fresh_names (name ∷ used) names) (sym fresh)
    ∙ ap (λ rest. name ∷ rest) (sym (names_alike names (used ++ name ∷ []) (name ∷ used) (last_alike used name)))
    ∙ ap (λ after. name ∷ fresh_names after names) (sym more)
    ∙ ap (λ index. name ∷ fresh_of after variables (drop index params)) (sym (add-one index))
