-- Stacks of names that grow, and are cut.
use Rattle.std.proofs.Common.{◌≡◌, ◌∙◌, ℕ, ◌<◌, ◌-◌, suc, List, [], ◌∷◌, ◌++◌, length, drop, refl, ap, sym, subst, arith, String, string_bytes, bytes_eq, Bool, true, false, cond, Option, Some, None, unwrap_or, Result, Ok, Err, OnOk, OnErr}
use Rattle.std.proofs.lemmas.List.{append-nil, append_assoc}
use Rattle.std.proofs.lemmas.Slice.Eq.{bytes_eq-Decides}
use Rattle.std.proofs.lemmas.Map.Text.{hash_map_updates_text}
use Rattle.std.specs.String.{string_eq}
use Rattle.std.specs.declared.alloc.Global.{Global}
use Rattle.indexmap.specs.IndexMap.{IndexMap, get_by_text, UpdatesBy}
use Rattle.sd_task.proofs.in_force_lemmas.ListLemmas.{append_one_length}
use Rattle.sd_program.specs.Names.{Named, in_force}
use Rattle.sd_task.specs.declared.in_force.scope.Entry.{Entry}
use Rattle.sd_task.specs.in_force.Stack.{stacked, KnowHidden, HasNumbers, without_newest, oldest}

-- one more name is the newest
pub stacked_grown : (entries : List Entry) (entry : Entry) → stacked (entries ++ entry ∷ []) ≡ (string_bytes entry.name, entry.number) ∷ stacked entries
stacked_grown [] entry = refl
stacked_grown (first ∷ entries) entry = ap (λ names. names ++ (string_bytes first.name, first.number) ∷ []) (stacked_grown entries entry)

pub stacked_length : (entries : List Entry) → length (stacked entries) ≡ length entries
stacked_length [] = refl
stacked_length (first ∷ rest) = append_one_length (stacked rest) (string_bytes first.name, first.number) ∙ omega (arith, stacked_length rest)

-- the newest name goes, and fewer are left to keep
pub oldest_popped : (count : ℕ) (names : Named ℕ) → count < length names → oldest count (without_newest names) ≡ oldest count names
oldest_popped count [] many = absurd (omega (arith, many))
oldest_popped count (entry ∷ entries) many =
    let one_more : suc (length entries - count) ≡ suc (length entries) - count = omega (arith, many) in
    ap (λ n. drop n (entry ∷ entries)) one_more

abbrev named : Entry → List ℕ × ℕ
named entry = (string_bytes entry.name, entry.number)

hidden_grown_above : (below : Named ℕ) (entries : List Entry) (entry : Entry) → KnowHidden below entries → entry.hidden ≡ in_force (stacked entries ++ below) (string_bytes entry.name) → KnowHidden below (entries ++ entry ∷ [])
hidden_grown_above below [] entry known hidden = (hidden, tt)
hidden_grown_above below (first ∷ rest) entry known hidden =
    (known.0, hidden_grown_above (named first ∷ below) rest entry known.1 (hidden ∙ ap (λ names. in_force names (string_bytes entry.name)) (append_assoc (stacked rest) (named first ∷ []) below)))

-- one more entry knows what it hides
pub hidden_grown : (entries : List Entry) (entry : Entry) → KnowHidden [] entries → entry.hidden ≡ in_force (stacked entries) (string_bytes entry.name) → KnowHidden [] (entries ++ entry ∷ [])
hidden_grown entries entry known hidden = hidden_grown_above [] entries entry known (hidden ∙ ap (λ names. in_force names (string_bytes entry.name)) (sym (append-nil (stacked entries))))

hidden_cut_above : (below : Named ℕ) (entries : List Entry) (entry : Entry) → KnowHidden below (entries ++ entry ∷ []) → KnowHidden below entries × (entry.hidden ≡ in_force (stacked entries ++ below) (string_bytes entry.name))
hidden_cut_above below [] entry known = (tt, known.0)
hidden_cut_above below (first ∷ rest) entry known =
    let cut = hidden_cut_above (named first ∷ below) rest entry known.1 in
    ((known.0, cut.0), cut.1 ∙ ap (λ names. in_force names (string_bytes entry.name)) (sym (append_assoc (stacked rest) (named first ∷ []) below)))

-- the last entry knows what it hides, and so do those before it
pub hidden_cut : (entries : List Entry) (entry : Entry) → KnowHidden [] (entries ++ entry ∷ []) → KnowHidden [] entries × (entry.hidden ≡ in_force (stacked entries) (string_bytes entry.name))
hidden_cut entries entry known =
    let cut = hidden_cut_above [] entries entry known in
    (cut.0, cut.1 ∙ ap (λ names. in_force names (string_bytes entry.name)) (append-nil (stacked entries)))

bytes_eq_sym : (a b : List ℕ) → bytes_eq a b ≡ bytes_eq b a
bytes_eq_sym a b = grind (arith, bytes_eq-Decides a b, bytes_eq-Decides b a)

-- a name has another number in a map
put_in : {S : Type 0} (old new : IndexMap (String Global) (Option ℕ) S) (key : String Global) (value : Option ℕ) (before after : Named ℕ) →
    UpdatesBy string_eq (string_eq key) old new (Some value) → HasNumbers old before →
    ((name : List ℕ) → in_force after name ≡ cond (bytes_eq (string_bytes key) name) value (in_force before name)) → HasNumbers new after
put_in old new key value before after updates has same name =
    ap (λ found. unwrap_or found None) (hash_map_updates_text (string_bytes key) old new (Some value) updates name) ∙ cases (bytes_eq (string_bytes key) name) refl
  where
    cases : (test : Bool) → bytes_eq (string_bytes key) name ≡ test → unwrap_or (cond (bytes_eq (string_bytes key) name) (Some value) (get_by_text old name)) None ≡ in_force after name
    cases true is = ap (λ test. unwrap_or (cond test (Some value) (get_by_text old name)) None) is ∙ ap (λ test. cond test value (in_force before name)) (sym is) ∙ sym (same name)
    cases false is = ap (λ test. unwrap_or (cond test (Some value) (get_by_text old name)) None) is ∙ has name ∙ ap (λ test. cond test value (in_force before name)) (sym is) ∙ sym (same name)

-- a map with one more name, the newest
pub numbers_grown : {S : Type 0} (old new : IndexMap (String Global) (Option ℕ) S) (key : String Global) (number : ℕ) (names : Named ℕ) →
    UpdatesBy string_eq (string_eq key) old new (Some (Some number)) → HasNumbers old names → HasNumbers new ((string_bytes key, number) ∷ names)
numbers_grown old new key number names updates has =
    put_in old new key (Some number) names ((string_bytes key, number) ∷ names) updates has (λ name. ap (λ test. cond test (Some number) (in_force names name)) (bytes_eq_sym name (string_bytes key)))

in_force_cut : (key : List ℕ) (hidden : Option ℕ) (number : ℕ) (names : Named ℕ) → hidden ≡ in_force names key →
    (name : List ℕ) → in_force names name ≡ cond (bytes_eq key name) hidden (in_force ((key, number) ∷ names) name)
in_force_cut key hidden number names is name = cases (bytes_eq key name) refl
  where
    cases : (test : Bool) → bytes_eq key name ≡ test → in_force names name ≡ cond (bytes_eq key name) hidden (in_force ((key, number) ∷ names) name)
    cases true same =
        ap (λ name. in_force names name) (sym ((bytes_eq-Decides key name).0 same)) ∙ sym is ∙ ap (λ test. cond test hidden (in_force ((key, number) ∷ names) name)) (sym same)
    cases false other =
        ap (λ test. cond test (Some number) (in_force names name)) (sym (bytes_eq_sym name key ∙ other))
        ∙ ap (λ test. cond test hidden (in_force ((key, number) ∷ names) name)) (sym other)

newest_found : (key : List ℕ) (number : ℕ) (names : Named ℕ) → in_force ((key, number) ∷ names) key ≡ Some number
newest_found key number names = ap (λ test. cond test (Some number) (in_force names key)) ((bytes_eq-Decides key key).1 refl)

-- a name that a map has takes no memory
pub put_back : {S R E : Type 0} (old new : IndexMap (String Global) (Option ℕ) S) (key : String Global) (value : Option ℕ) (number : ℕ) (names : Named ℕ) → (result : Result R E) →
    OnOk result (UpdatesBy string_eq (string_eq key) old new (Some value)) → OnErr result (get_by_text old (string_bytes key) ≡ None) →
    HasNumbers old ((string_bytes key, number) ∷ names) → UpdatesBy string_eq (string_eq key) old new (Some value)
put_back old new key value number names (Ok r) updates absent has = updates
put_back old new key value number names (Err e) updates absent has =
    absurd (none_is_some (sym (ap (λ found. unwrap_or found None) absent) ∙ has (string_bytes key) ∙ newest_found (string_bytes key) number names))
  where
    none_is_some : None ≡ Some number → ⊥
    none_is_some same = cc

-- a map without the newest name, which stands again for what it hid
pub numbers_cut : {S R E : Type 0} (old new : IndexMap (String Global) (Option ℕ) S) (key : String Global) (hidden : Option ℕ) (number : ℕ) (names : Named ℕ) → (result : Result R E) →
    OnOk result (UpdatesBy string_eq (string_eq key) old new (Some hidden)) → OnErr result (get_by_text old (string_bytes key) ≡ None) →
    HasNumbers old ((string_bytes key, number) ∷ names) → hidden ≡ in_force names (string_bytes key) → HasNumbers new names
numbers_cut old new key hidden number names result updates absent has is =
    put_in old new key hidden ((string_bytes key, number) ∷ names) names (put_back old new key hidden number names result updates absent has) has
    (in_force_cut (string_bytes key) hidden number names is)

-- what is known of the entries but the last, once its name stands again for what it hid
pub entry_popped : {S R E : Type 0} (entries rest : List Entry) (entry : Entry) (old new : IndexMap (String Global) (Option ℕ) S) → (result : Result R E) →
    entries ≡ rest ++ entry ∷ [] → KnowHidden [] entries × HasNumbers old (stacked entries) →
    OnOk result (UpdatesBy string_eq (string_eq entry.name) old new (Some entry.hidden)) → OnErr result (get_by_text old (string_bytes entry.name) ≡ None) →
    KnowHidden [] rest × HasNumbers new (stacked rest)
entry_popped entries rest entry old new result whole known updates absent =
    let all : KnowHidden [] (rest ++ entry ∷ []) × HasNumbers old (stacked (rest ++ entry ∷ [])) = subst (λ entries. KnowHidden [] entries × HasNumbers old (stacked entries)) whole known in
    let cut = hidden_cut rest entry all.0 in
    (cut.0, numbers_cut old new entry.name entry.hidden entry.number (stacked rest) result updates absent (subst (λ names. HasNumbers old names) (stacked_grown rest entry) all.1) cut.1)

-- what is known of the entries with one more
pub entry_pushed : {S : Type 0} (entries : List Entry) (entry : Entry) (key : String Global) (old new : IndexMap (String Global) (Option ℕ) S) →
    string_bytes key ≡ string_bytes entry.name → KnowHidden [] entries × HasNumbers old (stacked entries) → entry.hidden ≡ in_force (stacked entries) (string_bytes entry.name) →
    UpdatesBy string_eq (string_eq key) old new (Some (Some entry.number)) → KnowHidden [] (entries ++ entry ∷ []) × HasNumbers new (stacked (entries ++ entry ∷ []))
entry_pushed entries entry key old new same known hidden updates = (
  hidden_grown entries entry known.0 hidden,
  subst (λ names. HasNumbers new names) (sym (stacked_grown entries entry))
      (subst (λ bytes. HasNumbers new ((bytes, entry.number) ∷ stacked entries)) same (numbers_grown old new key entry.number (stacked entries) updates known.1)),
)
