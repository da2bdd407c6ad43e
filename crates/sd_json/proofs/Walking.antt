-- A walk over tokens, a turn at a time, beside the values that they are.
use Rattle.std.proofs.Common.{◌≡◌, ℕ, suc, ◌+◌, ◌-◌, ◌<◌, ◌==◌, ◌&&◌, if◌then◌else◌, ℤ, List, [], ◌∷◌, Bool, true, false, cond, Option, Some, None, option_map, option_and_then, refl, ap, sym, ◌∙◌, arith, append_assoc, append-nil, ne_eqb, ◌⊎◌, inl, inr, Bor}
use Rattle.json.specs.Token.{Token}
use Rattle.json.specs.Json as json
use Rattle.json.specs.Reads.{token_of}
use Rattle.json.specs.declared.token.Token.{Token as AToken}
use Rattle.json.specs.declared.token.Token.TheVariants as declared
use Rattle.json.proofs.Grammar.{value_is}
use Rattle.json.specs.Json.{Parse, parse_map, after_end_array, items, members}
use Rattle.std.proofs.lemmas.Option.{same_Some}
use Rattle.serde_json.specs.Data.{Num, Data, number, array, Items, no_items, item}
use Rattle.serde_json.specs.Read.{number_of, of_json, of_items, converted}
use Rattle.serde_json.specs.Find.{as_i64}
use Rattle.sd_json.proofs.Converting.{item_read}
use Rattle.sd_json.specs.NestedLists.{joined, numbers_of, numbers_of_items, is_shape, shape_of, shape_of_items, all_have, count_of}
use Rattle.sd_json.specs.Walk.{RowsRead, no_rows, have_one_shape, rows_with, shape_from, value_kept, items_kept, items_kept_from}

abbrev pick : {A : Type 0} → A → Option A → A
pick d None = d
pick d (Some a) = a

-- what was made of a value that was read
pub made_of : {A B : Type 0} (f : A → B) (o : Option (A × List Token)) (b : B) (r : List Token) → parse_map f o ≡ Some (b, r) → (a : A) × (o ≡ Some (a, r)) × (f a ≡ b)
made_of f None b r e = cc
made_of f (Some p) b r e =
    let same = ap (pick (b, r)) e in
    (p.0, ap (λ s. Some (p.0, s)) (ap (λ q. q.1) same), ap (λ q. q.0) same)

-- ---- numbers

pub joined-joined : (first second third : Option (List ℤ)) → joined (joined first second) third ≡ joined first (joined second third)
joined-joined None second third = refl
joined-joined (Some a) None third = refl
joined-joined (Some a) (Some b) None = refl
joined-joined (Some a) (Some b) (Some d) = ap Some (append_assoc a b d)

pub joined-empty : (first : Option (List ℤ)) → joined first (Some []) ≡ first
joined-empty None = refl
joined-empty (Some a) = ap Some (append-nil a)

pub joined-none : (first : Option (List ℤ)) → joined first None ≡ None
joined-none None = refl
joined-none (Some a) = refl

-- ---- shapes

-- the shape that all have so far, if there is one
abbrev agreed : (shape : Option (List ℕ)) → Items → Option (List ℕ)
agreed shape no_items = shape
agreed shape (item first others) = agreed (if have_one_shape shape (shape_of first) then shape else None) others

agreed-None : (items : Items) → agreed None items ≡ None
agreed-None no_items = refl
agreed-None (item first others) = agreed-None others

agreed_or : (same : Bool) (shape : List ℕ) (others : Items) → agreed (Some shape) others ≡ cond (all_have shape others) (Some shape) None →
    agreed (cond same (Some shape) None) others ≡ cond (same && all_have shape others) (Some shape) None
agreed_or true shape others rest = rest
agreed_or false shape others rest = agreed-None others

-- where a first shape is there, it is agreed on where all have it
agreed-Some : (shape : List ℕ) (items : Items) → agreed (Some shape) items ≡ cond (all_have shape items) (Some shape) None
agreed-Some shape no_items = refl
agreed-Some shape (item first others) = agreed_or (is_shape (shape_of first) shape) shape others (agreed-Some shape others)

no_zero : (count : ℕ) → (count + 1 == 0) ≡ false
no_zero count = ne_eqb (count + 1) 0 (λ none. omega arith)

with_count : (shape : Option (List ℕ)) (first second : ℕ) → first ≡ second → option_map (λ s. first ∷ s) shape ≡ option_map (λ s. second ∷ s) shape
with_count shape first second same = ap (λ count. option_map (λ s. count ∷ s) shape) same

-- the shape of a list that begins with some items
shape_from_agreed : (count : ℕ) (shape : Option (List ℕ)) (items : Items) → shape_from (record { count = count + 1; shape = shape }) items ≡ option_map (λ s. (count + 1 + count_of items) ∷ s) (agreed shape items)
shape_from_agreed count shape no_items = ap (λ none. cond none (Some (0 ∷ [])) (option_map (λ s. (count + 1) ∷ s) shape)) (no_zero count) ∙ with_count shape (count + 1) (count + 1 + 0) (omega arith)
shape_from_agreed count shape (item first others) =
    ap (λ none. shape_from (record { count = count + 1 + 1; shape = cond none (shape_of first) (cond (have_one_shape shape (shape_of first)) shape None) }) others) (no_zero count)
    ∙ shape_from_agreed (count + 1) (cond (have_one_shape shape (shape_of first)) shape None) others
    ∙ with_count (agreed (cond (have_one_shape shape (shape_of first)) shape None) others) (count + 1 + 1 + count_of others) (count + 1 + suc (count_of others)) (omega arith)

all_or_none : (all : Bool) (shape : List ℕ) (first second : ℕ) → first ≡ second → option_map (λ s. first ∷ s) (cond all (Some shape) None) ≡ cond all (Some (second ∷ shape)) None
all_or_none true shape first second same = ap (λ count. Some (count ∷ shape)) same
all_or_none false shape first second same = refl

first_and_others : (shape : Option (List ℕ)) (others : Items) →
    option_map (λ s. (0 + 1 + count_of others) ∷ s) (agreed shape others) ≡ option_and_then (λ s. cond (all_have s others) (Some (suc (count_of others) ∷ s)) None) shape
first_and_others None others = ap (option_map (λ s. (0 + 1 + count_of others) ∷ s)) (agreed-None others)
first_and_others (Some shape) others =
    ap (option_map (λ s. (0 + 1 + count_of others) ∷ s)) (agreed-Some shape others) ∙ all_or_none (all_have shape others) shape (0 + 1 + count_of others) (suc (count_of others)) (omega arith)

-- the shape of a list, from its begin
pub shape_from_begin : (items : Items) → shape_from no_rows items ≡ shape_of_items items
shape_from_begin no_items = refl
shape_from_begin (item first others) = shape_from_agreed 0 (shape_of first) others ∙ first_and_others (shape_of first) others

-- ---- turns

pub kept_from_begin : (before : Option (List ℤ)) (o : Option (Items × List Token)) → parse_map (items_kept before) o ≡ parse_map (items_kept_from no_rows before) o
kept_from_begin before None = refl
kept_from_begin before (Some p) = ap (λ shape. Some ((shape, joined before (numbers_of_items p.0)), p.1)) (sym (shape_from_begin p.0))

kept_after : (rows : RowsRead) (before : Option (List ℤ)) (d : Data) (o : Option (Items × List Token)) →
    parse_map (items_kept_from rows before) (parse_map (item d) o) ≡ parse_map (items_kept_from (rows_with rows (shape_of d)) (joined before (numbers_of d))) o
kept_after rows before d None = refl
kept_after rows before d (Some p) = ap (λ numbers. Some ((shape_from (rows_with rows (shape_of d)) p.0, numbers), p.1)) (sym (joined-joined before (numbers_of d) (numbers_of_items p.0)))

module _ (p : Parse json.Json) where
  -- one item more
  pub turn : (n : ℕ) (ts r : List Token) (rows : RowsRead) (before now : Option (List ℤ)) (shape : Option (List ℕ)) → 0 < n → after_end_array ts ≡ None →
      parse_map (value_kept before) (converted of_json (p ts)) ≡ Some ((shape, now), r) →
      parse_map (items_kept_from rows before) (converted of_items (items p n ts)) ≡ parse_map (items_kept_from (rows_with rows shape) now) (converted of_items (items p (n - 1) r))
  turn n ts r rows before now shape some going e =
      let m = made_of (value_kept before) (converted of_json (p ts)) (shape, now) r e in
      ap (parse_map (items_kept_from rows before)) (item_read p n ts r m.0 some going m.1) ∙ kept_after rows before m.0 (converted of_items (items p (n - 1) r))
      ∙ (λ i. parse_map (items_kept_from (rows_with rows (m.2 i).0) (m.2 i).1) (converted of_items (items p (n - 1) r)))

-- ---- one value

pub number_kept : (before now : Option (List ℤ)) (s : List ℕ) (r : List Token) (leaf : Option ℤ) → Some leaf ≡ option_map as_i64 (number_of s) → now ≡ joined before (option_map (λ n. n ∷ []) leaf) →
    parse_map (value_kept before) (converted of_json (Some (json.number s, r))) ≡ Some ((Some [], now), r)
number_kept before now s r leaf is after = by (number_of s) is
  where
    by : (found : Option Num) → Some leaf ≡ option_map as_i64 found → parse_map (value_kept before) (option_map (λ d. (d, r)) (option_map number found)) ≡ Some ((Some [], now), r)
    by None e = cc
    by (Some n) e = ap (λ l. Some ((Some [], joined before (option_map (λ x. x ∷ []) l)), r)) (sym (same_Some _ _ e)) ∙ ap (λ m. Some ((Some [], m), r)) (sym after)

pub number_refused : (s : List ℕ) (r : List Token) → None ≡ option_map as_i64 (number_of s) → converted of_json (Some (json.number s, r)) ≡ None
number_refused s r is = by (number_of s) is
  where
    by : (found : Option Num) → None ≡ option_map as_i64 found → option_map {U = Data × List Token} (λ d. (d, r)) (option_map number found) ≡ None
    by None e = refl
    by (Some n) e = cc

pub array_kept_so : (before : Option (List ℤ)) (o : Option (Items × List Token)) → parse_map (value_kept before) (parse_map array o) ≡ parse_map (items_kept before) o
array_kept_so before None = refl
array_kept_so before (Some p) = refl

-- what was made of nothing
pub none_made : {A B : Type 0} (f : A → B) (o : Option (A × List Token)) → parse_map f o ≡ None → o ≡ None
none_made f None e = refl
none_made f (Some p) e = cc

-- where a leaf was no number before, there are none behind it
pub none_stays : (before now : Option (List ℤ)) (shape : Option (List ℕ)) (d : Data) → value_kept before d ≡ (shape, now) → before ≡ None → now ≡ None
none_stays before now shape d kept none = sym (ap (λ pair. pair.1) kept) ∙ ap (λ b. joined b (numbers_of d)) none

-- a text, a truth value or null is a leaf that is no number
pub other_kept : (depth : ℕ) (before : Option (List ℤ)) (token : AToken) (r : List Token) →
    ((text : Bor (List ℕ)) × (token ≡ declared.String text)) ⊎ (((truth : Bool) × (token ≡ declared.Bool truth)) ⊎ (token ≡ declared.Null)) →
    parse_map (value_kept before) (converted of_json (json.value depth (token_of token ∷ r))) ≡ Some ((Some [], joined before None), r)
other_kept depth before token r (inl text) =
    ap (λ t. parse_map (value_kept before) (converted of_json (json.value depth (token_of t ∷ r)))) text.1 ∙ ap (λ read. parse_map (value_kept before) (converted of_json read)) (value_is depth _)
other_kept depth before token r (inr (inl truth)) =
    ap (λ t. parse_map (value_kept before) (converted of_json (json.value depth (token_of t ∷ r)))) truth.1 ∙ ap (λ read. parse_map (value_kept before) (converted of_json read)) (value_is depth _)
other_kept depth before token r (inr (inr null)) =
    ap (λ t. parse_map (value_kept before) (converted of_json (json.value depth (token_of t ∷ r)))) null ∙ ap (λ read. parse_map (value_kept before) (converted of_json read)) (value_is depth _)

-- what ends something, a name or a bad token begins no value
pub closed_refused : (depth : ℕ) (token : AToken) (r : List Token) → (token ≡ declared.EndObject) ⊎ ((token ≡ declared.EndArray) ⊎ (((name : Bor (List ℕ)) × (token ≡ declared.Key name)) ⊎ (token ≡ declared.Bad))) →
    converted of_json (json.value depth (token_of token ∷ r)) ≡ None
closed_refused depth token r (inl is) = ap (λ t. converted of_json (json.value depth (token_of t ∷ r))) is ∙ ap (converted of_json) (value_is depth _)
closed_refused depth token r (inr (inl is)) = ap (λ t. converted of_json (json.value depth (token_of t ∷ r))) is ∙ ap (converted of_json) (value_is depth _)
closed_refused depth token r (inr (inr (inl name))) = ap (λ t. converted of_json (json.value depth (token_of t ∷ r))) name.1 ∙ ap (converted of_json) (value_is depth _)
closed_refused depth token r (inr (inr (inr is))) = ap (λ t. converted of_json (json.value depth (token_of t ∷ r))) is ∙ ap (converted of_json) (value_is depth _)

-- no value is read of nothing
pub nothing_refused : (depth : ℕ) (ts : List Token) → ts ≡ [] → converted of_json (json.value depth ts) ≡ None
nothing_refused depth ts none = ap (λ all. converted of_json (json.value depth all)) none ∙ ap (converted of_json) (value_is depth [])

-- a number is read by its text
pub number_read : (depth : ℕ) (token : AToken) (text : Bor (List ℕ)) (r : List Token) → token ≡ declared.Number text → json.value depth (token_of token ∷ r) ≡ Some (json.number text.now, r)
number_read depth token text r is = ap (λ t. json.value depth (token_of t ∷ r)) is ∙ value_is depth _
