-- One more of the names that commas join.
use Rattle.std.proofs.Common.{◌≡◌, refl, ap, sym, ◌∙◌, ℕ, List, [], ◌∷◌, ◌++◌, map, Bool, true, false, subst}
use Rattle.std.specs.Prelude.{Option, Some, None, if◌then◌else◌, codes, String, string_bytes}
use Rattle.std.specs.Option.{unwrap_or}
use Rattle.std.specs.declared.alloc.Global.{Global}
use Rattle.std.proofs.lemmas.List.{map-append}
use Rattle.sd_phrase.specs.declared.word.Piece.{Piece}
use Rattle.sd_line.specs.line.Repetition.{names_from}
use Rattle.sd_phrase.specs.Phrase.{next, name_first}
use Rattle.sd_phrase.specs.Words.{is_name, is_spelled, spelling}

-- a name and what is behind it; names and what is behind them
abbrev pub one_name : List ℕ → List Piece → Option (List ℕ × List Piece)
one_name name rest = Some (name, rest)

abbrev pub all_names : List (List ℕ) → List Piece → Option (List (List ℕ) × List Piece)
all_names names rest = Some (names, rest)

abbrev pub no_name : Option (List ℕ × List Piece)
no_name = None

abbrev pub no_names : Option (List (List ℕ) × List Piece)
no_names = None

first_same : (a a' : List ℕ) (b b' : List Piece) → one_name a b ≡ one_name a' b' → a ≡ a'
first_same a a' b b' h = ap (λ (o : Option (List ℕ × List Piece)). (unwrap_or o (a, b)).0) h

second_same : (a a' : List ℕ) (b b' : List Piece) → one_name a b ≡ one_name a' b' → b ≡ b'
second_same a a' b b' h = ap (λ (o : Option (List ℕ × List Piece)). (unwrap_or o (a, b)).1) h

-- without a comma behind it the name is the last
pub names_stop : (text : List ℕ) (before : List (List ℕ)) (ts rest : List Piece) (x : List ℕ) →
    name_first text ts ≡ one_name x rest → next text (codes ",") rest ≡ None → names_from text before ts ≡ all_names (before ++ x ∷ []) rest
names_stop text before [] rest x h e = cc
names_stop text before (t ∷ []) rest x h e = go (is_name t.word) h
  where
    go : (b : Bool) → (if b then one_name (spelling text t) [] else no_name) ≡ one_name x rest → (if b then all_names (before ++ spelling text t ∷ []) [] else no_names) ≡ all_names (before ++ x ∷ []) rest
    go true k = rw (first_same _ _ _ _ k, second_same _ _ _ _ k) refl
    go false k = cc
names_stop text before (t ∷ u ∷ us) rest x h e = go (is_name t.word) h
  where
    inner : (c : Bool) (a b : Option (List (List ℕ) × List Piece)) → (if c then Some us else None) ≡ None → (if c then a else b) ≡ b
    inner true a b k = cc
    inner false a b k = refl

    go : (b : Bool) → (if b then one_name (spelling text t) (u ∷ us) else no_name) ≡ one_name x rest →
        (if b then (if is_spelled text u (codes ",") then names_from text (before ++ spelling text t ∷ []) us else all_names (before ++ spelling text t ∷ []) (u ∷ us)) else no_names) ≡ all_names (before ++ x ∷ []) rest
    go true k =
        let p : spelling text t ≡ x = first_same _ _ _ _ k in
        let q : u ∷ us ≡ rest = second_same _ _ _ _ k in
        inner (is_spelled text u (codes ",")) _ _ (subst (λ (r : List Piece). next text (codes ",") r ≡ None) (sym q) e)
        ∙ ap (λ (y : List ℕ). all_names (before ++ y ∷ []) (u ∷ us)) p ∙ ap (λ (r : List Piece). all_names (before ++ x ∷ []) r) q
    go false k = cc

-- with a comma behind it others follow
pub names_more : (text : List ℕ) (before : List (List ℕ)) (ts rest more : List Piece) (x : List ℕ) →
    name_first text ts ≡ one_name x rest → next text (codes ",") rest ≡ Some more → names_from text before ts ≡ names_from text (before ++ x ∷ []) more
names_more text before [] rest more x h e = cc
names_more text before (t ∷ []) rest more x h e = go (is_name t.word) h
  where
    go : (b : Bool) → (if b then one_name (spelling text t) [] else no_name) ≡ one_name x rest → (if b then all_names (before ++ spelling text t ∷ []) [] else no_names) ≡ names_from text (before ++ x ∷ []) more
    go true k =
        let q : [] ≡ rest = second_same _ _ _ _ k in
        let e' : next text (codes ",") [] ≡ Some more = subst (λ (r : List Piece). next text (codes ",") r ≡ Some more) (sym q) e in
        cc
    go false k = cc
names_more text before (t ∷ u ∷ us) rest more x h e = go (is_name t.word) h
  where
    inner : (c : Bool) (b : Option (List (List ℕ) × List Piece)) → (if c then Some us else None) ≡ Some more →
        (if c then names_from text (before ++ spelling text t ∷ []) us else b) ≡ names_from text (before ++ spelling text t ∷ []) more
    inner true b k = ap (λ (o : Option (List Piece)). names_from text (before ++ spelling text t ∷ []) (unwrap_or o us)) k
    inner false b k = cc

    go : (b : Bool) → (if b then one_name (spelling text t) (u ∷ us) else no_name) ≡ one_name x rest →
        (if b then (if is_spelled text u (codes ",") then names_from text (before ++ spelling text t ∷ []) us else all_names (before ++ spelling text t ∷ []) (u ∷ us)) else no_names) ≡ names_from text (before ++ x ∷ []) more
    go true k =
        let p : spelling text t ≡ x = first_same _ _ _ _ k in
        let q : u ∷ us ≡ rest = second_same _ _ _ _ k in
        inner (is_spelled text u (codes ",")) _ (subst (λ (r : List Piece). next text (codes ",") r ≡ Some more) (sym q) e)
        ∙ ap (λ (y : List ℕ). names_from text (before ++ y ∷ []) more) p
    go false k = cc

pub names_pushed : (items items' : List (String Global)) (item : String Global) (x : List ℕ) → items' ≡ items ++ item ∷ [] → string_bytes item ≡ x →
    map string_bytes items' ≡ map string_bytes items ++ x ∷ []
names_pushed items items' item x e e' = rw e (map-append string_bytes items (item ∷ []) ∙ ap (λ (y : List ℕ). map string_bytes items ++ y ∷ []) e')
