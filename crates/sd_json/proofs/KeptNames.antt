-- What is kept of the entries of a file, beside the members of the object that they are of.
use Rattle.std.proofs.Common.{◌≡◌, ℕ, List, Bool, true, false, true≢false, cond, Option, Some, None, option_map, refl, ap, sym, ◌∙◌, nat_cmp, bytes_eq, Ordering, Less, Equal, Greater}
use Rattle.std.specs.Ordering.{match_ordering, min_by_ordering, ordering_reverse, is_eq, is_gt}
use Rattle.std.specs.Cmp.Lexicographic.{slice_cmp}
use Rattle.std.specs.BTreeMap.{get_by_text}
use Rattle.std.proofs.lemmas.Cmp.{nat_list_cmp_total, tied_itself, upto}
use Rattle.std.proofs.lemmas.Map.Text.{is_eq-slice_cmp}
use Rattle.std.proofs.lemmas.Slice.Eq.{bytes_eq-Decides}
use Rattle.serde_json.specs.Data.{Data, Members, no_members, member, put}
use Rattle.serde_json.specs.Find.{get_member}
use Rattle.serde_json.proofs.Views.{get_member-put, get_member-put_other}
use Rattle.sd_json.specs.Names.{is_extra}
use Rattle.sd_json.specs.ArraysReading.{lesser, least_extra}
use Rattle.sd_json.specs.Entries.{entry_of, AreKept}
use Rattle.sd_json.specs.declared.names.Names.{Names}
use Rattle.sd_json.specs.declared.entry.Entry.{Entry}
use Rattle.sd_json.specs.declared.kept.Kept.{Kept}

-- ---- the lesser of two names

abbrev IsUpTo : (first second : List ℕ) → Type 0
IsUpTo first second = is_gt (slice_cmp nat_cmp first second) ≡ false

abbrev least_of : (first second : List ℕ) → List ℕ
least_of first second = min_by_ordering (slice_cmp nat_cmp first second) first second

upto_itself : (name : List ℕ) → IsUpTo name name
upto_itself name = ap is_gt (tied_itself nat_list_cmp_total name)

turned : (first second : List ℕ) → slice_cmp nat_cmp first second ≡ Greater → IsUpTo second first
turned first second greater = ap is_gt (nat_list_cmp_total.antisymm second first ∙ ap ordering_reverse greater)

upto_first : (first second : List ℕ) → IsUpTo (least_of first second) first
upto_first first second = by (slice_cmp nat_cmp first second) refl
  where
    by : (o : Ordering) → slice_cmp nat_cmp first second ≡ o → IsUpTo (min_by_ordering o first second) first
    by Less e = upto_itself first
    by Equal e = upto_itself first
    by Greater e = turned first second e

upto_second : (first second : List ℕ) → IsUpTo (least_of first second) second
upto_second first second = by (slice_cmp nat_cmp first second) refl
  where
    by : (o : Ordering) → slice_cmp nat_cmp first second ≡ o → IsUpTo (min_by_ordering o first second) second
    by Less e = ap is_gt e
    by Equal e = ap is_gt e
    by Greater e = upto_itself second

upto_both : (name first second : List ℕ) → IsUpTo name first → IsUpTo name second → IsUpTo name (least_of first second)
upto_both name first second one other = by (slice_cmp nat_cmp first second)
  where
    by : (o : Ordering) → IsUpTo name (min_by_ordering o first second)
    by Less = one
    by Equal = one
    by Greater = other

chained : (a b c : List ℕ) → IsUpTo a b → IsUpTo b c → IsUpTo a c
chained a b c = upto nat_list_cmp_total a b c

tied : (o p : Ordering) → o ≡ ordering_reverse p → is_gt o ≡ false → is_gt p ≡ false → is_eq o ≡ true
tied Less Less back one other = absurd (cc)
tied Less Equal back one other = absurd (cc)
tied Less Greater back one other = absurd (true≢false other)
tied Equal p back one other = refl
tied Greater p back one other = absurd (true≢false one)

-- names that are up to each other are one
one_name : (a b : List ℕ) → IsUpTo a b → IsUpTo b a → a ≡ b
one_name a b one other = (bytes_eq-Decides a b).0 (sym (is_eq-slice_cmp a b) ∙ tied (slice_cmp nat_cmp a b) (slice_cmp nat_cmp b a) (nat_list_cmp_total.antisymm a b) one other)

upto_turned : (a b rest : List ℕ) → IsUpTo (least_of a (least_of b rest)) (least_of b (least_of a rest))
upto_turned a b rest =
    let all = upto_second a (least_of b rest) in
    let least = least_of a (least_of b rest) in
    upto_both least b (least_of a rest) (chained least (least_of b rest) b all (upto_first b rest))
    (upto_both least a rest (upto_first a (least_of b rest)) (chained least (least_of b rest) rest all (upto_second b rest)))

-- the order in which names are taken makes no difference
lesser_turned : (a b : List ℕ) (rest : Option (List ℕ)) → lesser a (Some (lesser b rest)) ≡ lesser b (Some (lesser a rest))
lesser_turned a b None = one_name (least_of a b) (least_of b a) (upto_both (least_of a b) b a (upto_second a b) (upto_first a b)) (upto_both (least_of b a) a b (upto_second b a) (upto_first b a))
lesser_turned a b (Some rest) = one_name (least_of a (least_of b rest)) (least_of b (least_of a rest)) (upto_turned a b rest) (upto_turned b a rest)

-- nor does a name that is taken twice
lesser_twice : (name : List ℕ) (rest : Option (List ℕ)) → lesser name (Some (lesser name rest)) ≡ lesser name rest
lesser_twice name None = one_name (least_of name name) name (upto_first name name) (upto_both name name name (upto_itself name) (upto_itself name))
lesser_twice name (Some rest) =
    let least = least_of name rest in
    one_name (least_of name least) least (upto_second name least) (upto_both least name least (upto_first name rest) (upto_itself least))

-- ---- the least extra name of one member more

abbrev with_name : (extra : Bool) (name : List ℕ) → Option (List ℕ) → Option (List ℕ)
with_name extra name rest = cond extra (Some (lesser name rest)) rest

with_name_twice : (extra : Bool) (name : List ℕ) (rest : Option (List ℕ)) → with_name extra name rest ≡ with_name extra name (with_name extra name rest)
with_name_twice true name rest = ap Some (sym (lesser_twice name rest))
with_name_twice false name rest = refl

with_names_turned : (one other : Bool) (a b : List ℕ) (rest : Option (List ℕ)) → with_name one a (with_name other b rest) ≡ with_name other b (with_name one a rest)
with_names_turned true true a b rest = ap Some (lesser_turned a b rest)
with_names_turned true false a b rest = refl
with_names_turned false true a b rest = refl
with_names_turned false false a b rest = refl

put_by : (names : Names) (key name : List ℕ) (value first : Data) (fields : Members) (o : Ordering) → slice_cmp nat_cmp key name ≡ o →
    least_extra names (put key value fields) ≡ with_name (is_extra names key) key (least_extra names fields) →
    least_extra names (match_ordering o (member key value (member name first fields)) (member name value fields) (member name first (put key value fields)))
    ≡ with_name (is_extra names key) key (with_name (is_extra names name) name (least_extra names fields))
put_by names key name value first fields Less is later = refl
put_by names key name value first fields Equal is later =
    let rest = least_extra names fields in
    let same : key ≡ name = (bytes_eq-Decides key name).0 (sym (is_eq-slice_cmp key name) ∙ ap is_eq is) in
    with_name_twice (is_extra names name) name rest ∙ ap (λ k. with_name (is_extra names k) k (with_name (is_extra names name) name rest)) (sym same)
put_by names key name value first fields Greater is later =
    ap (with_name (is_extra names name) name) later ∙ with_names_turned (is_extra names name) (is_extra names key) name key (least_extra names fields)

least_put : (names : Names) (key : List ℕ) (value : Data) (fields : Members) → least_extra names (put key value fields) ≡ with_name (is_extra names key) key (least_extra names fields)
least_put names key value no_members = refl
least_put names key value (member name first fields) = put_by names key name value first fields (slice_cmp nat_cmp key name) refl (least_put names key value fields)

-- ---- one entry more

put_here : (key name : List ℕ) (value : Data) (fields : Members) (found : Option Entry) → found ≡ option_map entry_of (get_member name fields) →
    cond (bytes_eq key name) (Some (entry_of value)) found ≡ option_map entry_of (get_member name (put key value fields))
put_here key name value fields found is = by (bytes_eq key name) refl
  where
    by : (same : Bool) → bytes_eq key name ≡ same → cond same (Some (entry_of value)) found ≡ option_map entry_of (get_member name (put key value fields))
    by true e = ap (option_map entry_of) (sym (ap (λ n. get_member n (put key value fields)) (sym ((bytes_eq-Decides key name).0 e)) ∙ get_member-put key value fields))
    by false e = is ∙ ap (option_map entry_of) (sym (get_member-put_other name key value fields (λ same. true≢false (sym ((bytes_eq-Decides key name).1 (sym same)) ∙ e))))

module _ (names : Names) (old new : Kept) (fields : Members) (key : List ℕ) (value : Data) (kept : AreKept names old fields) where
  -- one that is looked for
  pub one_sought : (entry : Entry) → is_extra names key ≡ false → entry_of value ≡ entry →
      ((name : List ℕ) → get_by_text new.entries name ≡ cond (bytes_eq key name) (Some entry) (get_by_text old.entries name)) → new.extra ≡ old.extra → AreKept names new (put key value fields)
  one_sought entry known is inserted same = record {
    sought = λ name asked. inserted name ∙ ap (λ e. cond (bytes_eq key name) (Some e) (get_by_text old.entries name)) (sym is) ∙ put_here key name value fields _ (kept.sought name asked);
    extra = same ∙ kept.extra ∙ sym (least_put names key value fields ∙ ap (λ extra. with_name extra key (least_extra names fields)) known);
  }

  -- one that nobody looks for
  pub one_extra : is_extra names key ≡ true → new.entries ≡ old.entries → new.extra ≡ Some (lesser key old.extra) → AreKept names new (put key value fields)
  one_extra extra same noted = record {
    sought = λ name asked.
        ap (λ entries. get_by_text entries name) same ∙ kept.sought name asked
        ∙ ap (option_map entry_of) (sym (get_member-put_other name key value fields (λ one. true≢false (sym extra ∙ ap (is_extra names) (sym one) ∙ asked))));
    extra = noted ∙ ap (λ least. Some (lesser key least)) kept.extra ∙ sym (least_put names key value fields ∙ ap (λ other. with_name other key (least_extra names fields)) extra);
  }
