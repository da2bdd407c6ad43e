-- A whole text that is an object, or is none.
use Rattle.std.proofs.Common.{◌≡◌, ℕ, List, [], ◌∷◌, length, Bool, true, false, Option, Some, None, option_map, option_and_then, refl, ap, sym, ◌∙◌, arith, if◌then◌else◌}
use Rattle.std.specs.Str.{IsUtf8, is_utf8}
use Rattle.std.proofs.lemmas.Str.{IsUtf8-from_is_utf8, is_utf8-from_IsUtf8}
use Rattle.json.specs.Token.{Token}
use Rattle.json.specs.Json as json
use Rattle.json.specs.Json.{Parse, parse_map, members, value, value_with}
use Rattle.json.proofs.Grammar.{value_is, value-begin_object}
use Rattle.serde_json.specs.Data.{Num, number, array, object, Items, Members, no_members}
use Rattle.serde_json.specs.Read.{number_of, of_json, of_items, of_members, converted, read}
use Rattle.serde_json.specs.Find.{as_object}
use Rattle.sd_json.specs.Walk.{opens_object}
use Rattle.sd_json.specs.ArraysReading.{entries_of}
use Rattle.sd_json.proofs.Converting.{whole, whole_read, whole_and_more, whole_refused, converted-object}

list_is_none : (items : Option Items) → option_and_then as_object (option_map array items) ≡ None
list_is_none None = refl
list_is_none (Some items) = refl

number_is_none : (n : Option Num) → option_and_then as_object (option_map number n) ≡ None
number_is_none None = refl
number_is_none (Some n) = refl

whole_list : (o : Option (json.Items × List Token)) → option_and_then as_object (whole (parse_map json.array o)) ≡ None
whole_list None = refl
whole_list (Some (items, [])) = list_is_none (of_items items)
whole_list (Some (items, t ∷ r)) = refl

whole_number_text : (s : List ℕ) (rest : List Token) → option_and_then as_object (whole (Some (json.number s, rest))) ≡ None
whole_number_text s [] = number_is_none (number_of s)
whole_number_text s (t ∷ r) = refl

whole_string : (s : List ℕ) (rest : List Token) → option_and_then as_object (whole (Some (json.string s, rest))) ≡ None
whole_string s [] = refl
whole_string s (t ∷ r) = refl

whole_boolean : (b : Bool) (rest : List Token) → option_and_then as_object (whole (Some (json.boolean b, rest))) ≡ None
whole_boolean b [] = refl
whole_boolean b (t ∷ r) = refl

whole_null : (rest : List Token) → option_and_then as_object (whole (Some (json.null, rest))) ≡ None
whole_null [] = refl
whole_null (t ∷ r) = refl

first_is_none : (list : Parse json.Items) (members : Parse json.Members) (ts : List Token) → opens_object ts ≡ false → option_and_then as_object (whole (value_with list members ts)) ≡ None
first_is_none list members [] none = refl
first_is_none list members (Token.begin_object ∷ ts) none = cc
first_is_none list members (Token.end_object ∷ ts) none = refl
first_is_none list members (Token.begin_array ∷ ts) none = whole_list (list ts)
first_is_none list members (Token.end_array ∷ ts) none = refl
first_is_none list members (Token.key s ∷ ts) none = refl
first_is_none list members (Token.string s ∷ ts) none = whole_string s ts
first_is_none list members (Token.number s ∷ ts) none = whole_number_text s ts
first_is_none list members (Token.boolean b ∷ ts) none = whole_boolean b ts
first_is_none list members (Token.null ∷ ts) none = whole_null ts
first_is_none list members (Token.bad ∷ ts) none = refl

-- tokens that begin with no object are none
pub no_object : (ts : List Token) → opens_object ts ≡ false → option_and_then as_object (whole (value 127 ts)) ≡ None
no_object ts none = ap (λ o. option_and_then as_object (whole o)) (value_is 127 ts) ∙ first_is_none _ _ ts none

opened : (ts : List Token) → converted of_json (value 127 (Token.begin_object ∷ ts)) ≡ parse_map object (converted (λ ms. of_members ms no_members) (members (value 126) (length ts) ts))
opened ts = ap (converted of_json) (value-begin_object 127 ts (omega arith)) ∙ converted-object (members (value 126) (length ts) ts)

-- an object and nothing behind it
pub one_object : (ts : List Token) (of : Members) → converted (λ ms. of_members ms no_members) (members (value 126) (length ts) ts) ≡ Some (of, []) →
    option_and_then as_object (whole (value 127 (Token.begin_object ∷ ts))) ≡ Some of
one_object ts of e = ap (option_and_then as_object) (whole_read (value 127 (Token.begin_object ∷ ts)) (object of) (opened ts ∙ ap (parse_map object) e))

-- an object and more behind it
pub object_and_more : (ts r : List Token) (t : Token) (of : Members) → converted (λ ms. of_members ms no_members) (members (value 126) (length ts) ts) ≡ Some (of, t ∷ r) →
    option_and_then as_object (whole (value 127 (Token.begin_object ∷ ts))) ≡ None
object_and_more ts r t of e = ap (option_and_then as_object) (whole_and_more (value 127 (Token.begin_object ∷ ts)) (object of) t r (opened ts ∙ ap (parse_map object) e))

-- an object that has no reading
pub refused_object : (ts : List Token) → converted (λ ms. of_members ms no_members) (members (value 126) (length ts) ts) ≡ None → option_and_then as_object (whole (value 127 (Token.begin_object ∷ ts))) ≡ None
refused_object ts e = ap (option_and_then as_object) (whole_refused (value 127 (Token.begin_object ∷ ts)) (opened ts ∙ ap (parse_map object) e))

-- bytes that are no text have no entries
pub no_text : (bytes : List ℕ) → (IsUtf8 bytes → ⊥) → entries_of bytes ≡ None
no_text bytes none = by (is_utf8 bytes) refl
  where
    by : (text : Bool) → is_utf8 bytes ≡ text → (if text then option_and_then as_object (read bytes) else None) ≡ None
    by false e = refl
    by true e = absurd (none (IsUtf8-from_is_utf8 bytes e))

-- those of a text are those of its reading
pub entries_of_text : (bytes text : List ℕ) → text ≡ bytes → IsUtf8 bytes → entries_of bytes ≡ option_and_then as_object (read text)
entries_of_text bytes text same utf8 = ap (λ is_text. if is_text then option_and_then as_object (read bytes) else None) (is_utf8-from_IsUtf8 bytes utf8) ∙ ap (λ t. option_and_then as_object (read t)) (sym same)
